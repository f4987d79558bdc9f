-- What an accepted write's address is.
use mathlib.Core.Path.{◌≡◌, refl}
use mathlib.Core.Bool.{Bool, true, false, or-true}
use Prim.Native.Nat.{ℕ, ◌<◌}
use native.Mathlib.Omega.{arith}
use lib.Dec.{ltb}
use borrow.Author.Tests.{ltb-false}
use Rattle.std.specs.Prelude.{Err, Ok}
use Rattle.plotter_registers.specs.Plotter as Plotter
use Rattle.plotter_registers.specs.declared.Registers.{Registers}
use Rattle.plotter_registers.specs.declared.BadWrite.TheVariants.{ReadOnly}

past : (r : Registers) (at v : ℕ) → ltb 6 at ≡ true → Plotter.judged r at v ≡ Err ReadOnly
unfolding Plotter.judged
past r at v e = rw (e, or-true)

pub accepted-below : (r : Registers) (at v : ℕ) → Plotter.judged r at v ≡ Ok tt → at < 7
accepted-below r at v e = within (ltb 6 at) refl
  where
    within : (t : Bool) → ltb 6 at ≡ t → at < 7
    within true h = let p : Plotter.judged r at v ≡ Err ReadOnly = past r at v h in let z : ◌≡◌ {A = ℕ} 0 1 = cc in omega arith
    within false h = omega (arith, ltb-false 6 at h)
