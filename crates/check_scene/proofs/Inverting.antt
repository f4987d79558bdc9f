-- What is stored of an entry and how it is judged, by its kind. Assumes nothing.
use mathlib.Core.Path.{◌≡◌, ◌∙◌}
use mathlib.Core.Bool.{Bool, true}
use borrow.Author.Tests.{eq-eqb, ne_eqb}
use Rattle.matrix_inverse.specs.Inverses.{inverted}
use Rattle.matrix_inverse.specs.declared.Inverted.{Inverted}
use Rattle.rows.specs.declared.Marks.{Marks}
use Rattle.rows.specs.declared.Numbers.{Numbers}
use Rattle.scene.specs.Entries.{matrix_of, matrix_numbers}
use Rattle.check_scene.specs.Placings.{invertible, placing_ok, inverse_of, zero_numbers}

module _ (m : Marks) (n : Numbers) {k : Marks} (e : k ≡ m) where
  pub other-passes : (k.kind ≡ 6 → ⊥) → true ≡ placing_ok m n
  unfolding placing_ok
  other-passes h = rw (← e, ne_eqb k.kind 6 h)

  pub other-stored : {z : Numbers} → z ≡ zero_numbers → (k.kind ≡ 6 → ⊥) → z ≡ inverse_of m n
  unfolding inverse_of
  other-stored p h = p ∙ rw (← e, ne_eqb k.kind 6 h)

  module _ (h : k.kind ≡ 6) {v : Inverted} (p : v ≡ inverted (matrix_of n)) where
    pub placing-passes : {b : Bool} → b ≡ invertible v → b ≡ placing_ok m n
    unfolding placing_ok
    placing-passes q = q ∙ rw (p, ← e, eq-eqb k.kind 6 h)

    pub placing-stored : {w : Numbers} → w ≡ matrix_numbers v.inverse → w ≡ inverse_of m n
    unfolding inverse_of
    placing-stored q = q ∙ rw (p, ← e, eq-eqb k.kind 6 h)
