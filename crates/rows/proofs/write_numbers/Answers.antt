use mathlib.Core.Path.{refl}
use mathlib.Core.List.{List, [], ◌∷◌, ◌++◌}
use Prim.Native.Nat.{◌*◌}
use lib.Ieee.{Float}
use Rattle.rows.proofs.Rows.{sets_more}
use Rattle.rows.proofs.write_numbers.Goals as goal

pub returns : goal.returns
returns c =
    let xs = c.args.xs.now in let m = c.args.m in let b = c.args.i * 16 in
    let p : List Float = m.x00 ∷ m.x01 ∷ m.x02 ∷ m.x03 ∷ [] in
    let q : List Float = m.x10 ∷ m.x11 ∷ m.x12 ∷ m.x13 ∷ [] in
    let r : List Float = m.x20 ∷ m.x21 ∷ m.x22 ∷ m.x23 ∷ [] in
    let t : List Float = m.x30 ∷ m.x31 ∷ m.x32 ∷ m.x33 ∷ [] in
    let two = sets_more b 4 p q xs _ _ refl c.write_four.ensures c.write_four-2.ensures in
    let three = sets_more b 8 (p ++ q) r xs _ _ refl two c.write_four-3.ensures in
    sets_more b 12 (p ++ q ++ r) t xs _ _ refl three c.write_four-4.ensures
