-- A simplified path keeps its ends. Assumes nothing.
use Prim.Native.Nat.{ℕ, suc, ◌-◌, ◌<◌, ◌≤◌}
use mathlib.Core.Path.{◌≡◌, ap, ◌∙◌}
use mathlib.Core.List.{List, [], ◌∷◌, map}
use native.Mathlib.Omega.{arith}
use lib.ListN.{length, get_or, length-map}
use Rattle.geometry.specs.declared.vector.Vector.{Vector}
use Rattle.paths.specs.Ends.{nowhere}
use Rattle.path_rdp.specs.Rdp.{vertex}
use Rattle.path_rdp.specs.Demand.{Chain}
use Rattle.theorem_demand3.specs.Witnesses.{SimplifiedKeepsEnds, NothingBehind}

-- a chain from a to z ends at z, and has no more places than there are numbers from a to z
chain-end : (p : List Vector) (bs : List ℕ) (a z : ℕ) → Chain ◌<◌ a bs z → get_or (map (vertex p) (a ∷ bs)) (length bs) nowhere ≡ vertex p z
unfolding Chain
chain-end p [] a z h = ap (vertex p) h
chain-end p (b ∷ bs) a z h = chain-end p bs b z h.1

chain_length : (bs : List ℕ) (a z : ℕ) → Chain ◌<◌ a bs z → (a ≤ z) × (length bs ≤ z - a)
unfolding Chain
chain_length [] a z h = (omega (arith, h), omega arith)
chain_length (b ∷ bs) a z h = let k = chain_length bs b z h.1 in (omega (arith, k.0, h.0), omega (arith, k.0, k.1, h.0))

pub simplified-keeps-ends : SimplifiedKeepsEnds
simplified-keeps-ends t p q some S =
    let m : length q ≡ suc (length S.others) = ap length S.bit_for_bit ∙ length-map (0 ∷ S.others) (vertex p) in
    let k = chain_length S.others 0 (length p - 1) S.in_order in
    let n : length q - 1 ≡ length S.others = omega (arith, m) in
    record {
      first = ap (λ (l : List Vector). vertex l 0) S.bit_for_bit;
      last = ap (λ (i : ℕ). vertex q i) n ∙ ap (λ (l : List Vector). vertex l (length S.others)) S.bit_for_bit ∙ chain-end p S.others 0 (length p - 1) S.in_order;
      no_more = omega (arith, m, k.1, some);
    }

pub nothing-behind : NothingBehind
nothing-behind t a b c S = let k = (simplified-keeps-ends t (a ∷ b ∷ []) (a ∷ b ∷ c ∷ []) (omega arith) S).no_more in omega (arith, k)
