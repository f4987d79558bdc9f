-- The boxes of a scene that passes are sound, in entry order, since parts are earlier than their entry. Assumes nothing.
use Prim.Native.Nat.{ℕ, zero, suc, ◌/◌, ◌<◌}
use mathlib.Core.Path.{◌≡◌, sym, subst}
use mathlib.Core.Bool.{true, ◌&&◌, and-eq-true_iff}
use native.Mathlib.Omega.{arith}
use lib.ListN.{length}
use lib.Dec.{ltb}
use Rattle.geometry.specs.Limits.{Sound}
use Rattle.geometry.specs.declared.bounding_box.BBox.{BBox}
use Rattle.matrix_inverse.specs.Inverses.{inverted}
use Rattle.scene.specs.Entries.{marks_at, numbers_at, matrix_of, matrix_numbers, own_entry}
use Rattle.limits.specs.Limits.{within_point, within_box}
use Rattle.limits.proofs.Limits.{within-point}
use Rattle.check_measures.specs.Measures.{measured}
use Rattle.lists.proofs.Tests.{all-at}
use Rattle.check_scene.specs.Extents.{own_box}
use Rattle.scene.specs.Scenes.{Scene, entries_of}
use Rattle.check_scene.proofs.Reading.{each_map, own-parts, box_opens}
use Rattle.check_sound.specs.Passing.{Passing}
use Rattle.check_sound.proofs.Fair.{Fair, Measured, entry-fair, if-measured}

-- number 7's own test gives the bounds
bounded : (b : BBox) → within_box b ≡ true → Fair b → Sound b
unfolding within_box
bounded b h f =
    let w = (and-eq-true_iff (within_point b.min) (within_point b.max)).0 h in
    record { min = within-point b.min w.0; max = within-point b.max w.1; fair = f }

module _ (s : Scene) (p : Passing s) where
  pub own-measured : (i : ℕ) → i < entries_of s → Measured (own_entry s.numbers s.marks i)
  unfolding own_entry
  own-measured i h =
      let n = numbers_at s.numbers i in
      if-measured (marks_at s.marks i) n (matrix_numbers (inverted (matrix_of n)).inverse) (ltb i (length s.numbers / 16) && ltb i (length s.marks / 4))
      (all-at (λ (k : ℕ). measured (marks_at s.marks k) (numbers_at s.numbers k)) (entries_of s) i p.measures h)

  sound-to : (n i : ℕ) → i < n → i < entries_of s → Sound (own_box s.numbers s.marks i)
  sound-to zero i l h = absurd (omega arith)
  sound-to (suc n) i l h =
      let own = own_box s.numbers s.marks in
      let e = own_entry s.numbers s.marks i in
      let parts = each_map e (λ k w. sound-to n k (omega (arith, w.0)) (omega (arith, w.0))) (own-parts s.numbers s.marks p.names i h) in
      bounded (own i) (all-at (λ (k : ℕ). within_box (own k)) (entries_of s) i p.extents h)
      (subst Fair (sym (box_opens s.numbers s.marks p.names i h)) (entry-fair own e (own-measured i h) parts))

  pub passing-sound : (i : ℕ) → i < entries_of s → Sound (own_box s.numbers s.marks i)
  passing-sound i h = sound-to (suc i) i (omega arith) h
