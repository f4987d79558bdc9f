-- What was written into a slice is printed. Assumes nothing.
use Prim.Native.Nat.{ℕ, ◌-◌, ◌≤◌}
use mathlib.Core.Path.{◌≡◌, refl, sym, ap, ◌∙◌}
use mathlib.Core.List.{List}
use native.Mathlib.Omega.{arith}
use lib.ListN.{length, take, replicate, length-append}
use lib.Seq.{take_at}
use Rattle.refusals.specs.declared.Refusal.{Refusal}
use Rattle.rows.specs.Rows.{padded}
use Rattle.text_drawing.specs.Drawings.{written, laid}
use Rattle.text_reply.specs.Reply.{shown}
use Rattle.std.specs.Prelude.{Err, Ok, Result}

module _ (room : ℕ) (ys : List ℕ) {r : Result ℕ Refusal} where
  pub shown-at : (a : Result (List ℕ) Refusal) → r ≡ written a → ys ≡ laid a room → {n : ℕ} → r ≡ Ok n → (n ≤ length ys) × (take n ys ≡ shown a)
  unfolding written laid shown padded
  shown-at (Ok t) h l {n} e =
      let z : n ≡ length t = cc in
      let k : length ys ≡ _ = ap length l ∙ length-append t (replicate (room - length t) 0) in
      (omega (arith, z, k), ap (take n) l ∙ take_at t (replicate (room - length t) 0) n (sym z))
  shown-at (Err k) h l e = let z : ◌≡◌ {A = ℕ} 0 1 = cc in absurd (omega arith)

  pub shown-none : (a : Result (List ℕ) Refusal) → r ≡ written a → {k : Refusal} → r ≡ Err k → (0 ≤ length ys) × (take 0 ys ≡ shown a)
  unfolding written shown
  shown-none (Ok t) h e = let z : ◌≡◌ {A = ℕ} 0 1 = cc in absurd (omega arith)
  shown-none (Err k) h e = (omega arith, refl)
