-- What the check leaves of an accepted scene, read back: the scene's own solids, boxes and drawn entries. Assumes nothing.
use Prim.Native.Nat.{ℕ, ◌+◌, ◌-◌, ◌*◌, ◌<◌, ◌≤◌}
use mathlib.Core.Path.{◌≡◌, refl, sym, ap, ◌∙◌}
use mathlib.Core.List.{List}
use mathlib.Core.Bool.{Bool, true, false}
use native.Mathlib.Omega.{arith}
use lib.ListN.{length, take, get_or, replicate, length-append}
use lib.Seq.{take_at}
use lib.Ieee.{Float}
use Rattle.floats.specs.Arith.{zero_f}
use Rattle.geometry.specs.declared.bounding_box.BBox.{BBox}
use Rattle.rows.specs.Rows.{row, view, flat, padded}
use Rattle.rows.specs.Points.{box_of_row, box_row}
use Rattle.rows.specs.Entries.{numbers_of, numbers_row}
use Rattle.rows.proofs.Rows.{view-flat, length-flat, get_d-view}
use Rattle.scene.specs.Entries.{entry_at, own_entry}
use Rattle.lists.specs.Lists.{list_to}
use Rattle.lists.proofs.Tests.{length_to, list_at}
use Rattle.check_parts.specs.Drawn.{drawn}
use Rattle.scene_shape.specs.Shapes.{decode, solid_of}
use Rattle.check_scene.specs.Placings.{inverse_at}
use Rattle.check_scene.specs.Extents.{zero_box, own_box}
use Rattle.check_scene.specs.Checks.{lengths_agree, check_of, inverses_of, boxes_of, if_accepted}
use Rattle.scene.specs.Scenes.{Scene, entries_of}
use Rattle.check_scene.proofs.Verdicts.{lengths-few, lengths-numbers, is-lengths, not-accepted}
use Rattle.check_scene.proofs.Reading.{any_entry, stored-solid}
use Rattle.std.specs.Prelude.{Ok, Result}
use Rattle.refusals.specs.declared.Refusal.{Refusal}

-- a list that is left where the verdict accepts
pub left_is : {A : Type 0} (z : A) {v : Result ℕ Refusal} (n : ℕ) → v ≡ Ok n → (L : ℕ) (xs : List A) {ys : List A} → ys ≡ padded z L (if_accepted v xs) → ys ≡ padded z L xs
unfolding if_accepted
left_is z n is L xs left = left ∙ rw is

-- what is left of a list has all of it
pub padded-room : {A : Type 0} (z : A) (L : ℕ) (xs : List A) {ys : List A} → ys ≡ padded z L xs → length xs ≤ length ys
unfolding padded
padded-room z L xs {ys} left =
    let e : length ys ≡ length xs + length (replicate (L - length xs) z) = ap length left ∙ length-append xs (replicate (L - length xs) z) in
    omega (arith, e)

-- rows of a list of values, and then zeros, are read as those values
module _ {A B : Type 0} (k : ℕ) (f : List A → B) (g : B → List A) (wide : (b : B) → length (g b) ≡ k) (back : (b : B) → f (g b) ≡ b)
    (z : A) (L : ℕ) (h : ℕ → B) (n : ℕ) {xs : List A} (left : xs ≡ padded z L (flat g (list_to h n))) where
  read_back : view k f n xs ≡ list_to h n
  unfolding padded
  read_back =
      ap (view k f n) left
      ∙ sym (ap (λ (m : ℕ). view k f m (padded z L (flat g (list_to h n)))) (length_to h n))
      ∙ view-flat k f g wide back (list_to h n) (replicate (L - length (flat g (list_to h n))) z)

  long-enough : n * k ≤ length xs
  long-enough =
      let w : length (flat g (list_to h n)) ≡ n * k = length-flat k f g wide (list_to h n) ∙ ap (λ (m : ℕ). m * k) (length_to h n) in
      omega (arith, padded-room z L (flat g (list_to h n)) left, w)

module _ (s : Scene) (n : ℕ) (is : check_of s ≡ Ok n) where
  agrees : (t : Bool) → lengths_agree s ≡ t → t ≡ true
  agrees true e = refl
  agrees false e = not-accepted (is-lengths s refl e ∙ is)

  pub accepted-few : entries_of s ≤ 1024
  accepted-few = lengths-few s refl (agrees (lengths_agree s) refl)

  pub accepted-numbers : entries_of s * 16 ≡ length s.numbers
  accepted-numbers = lengths-numbers s refl (agrees (lengths_agree s) refl)

  -- the entries and the solids read with the inverses that are left are the scene's own
  module _ (L : ℕ) (vs : List Float) (left : vs ≡ padded zero_f L (inverses_of s)) where
    room : entries_of s * 16 ≤ length vs
    room = long-enough 16 numbers_of numbers_row (λ b. refl) (λ b. refl) zero_f L (inverse_at s.numbers s.marks) (entries_of s) left

    held : view 16 numbers_of (entries_of s) vs ≡ list_to (inverse_at s.numbers s.marks) (entries_of s)
    held = read_back 16 numbers_of numbers_row (λ b. refl) (λ b. refl) zero_f L (inverse_at s.numbers s.marks) (entries_of s) left

    pub own-entry : (i : ℕ) → entry_at s.numbers vs s.marks i ≡ own_entry s.numbers s.marks i
    own-entry i = any_entry s.numbers vs s.marks (omega (arith, accepted-numbers)) room held i

    pub own-solid : (i : ℕ) → decode 8 s.numbers vs s.marks i ≡ solid_of s.numbers s.marks i
    own-solid i = stored-solid s.numbers vs s.marks (omega (arith, accepted-numbers)) room held 8 i

  -- the boxes that are left
  module _ (L : ℕ) (bs : List Float) (left : bs ≡ padded zero_f L (boxes_of s)) where
    -- each entry has its places
    pub box-room : entries_of s * 6 ≤ length bs
    box-room = long-enough 6 box_of_row box_row (λ b. refl) (λ b. refl) zero_f L (own_box s.numbers s.marks) (entries_of s) left

    -- and the box of entry i is its own
    pub own-box : (i : ℕ) → i < entries_of s → box_of_row (row 6 i bs) ≡ own_box s.numbers s.marks i
    own-box i h =
        sym (get_d-view 6 box_of_row (entries_of s) i bs zero_box h)
        ∙ ap (λ (l : List BBox). get_or l i zero_box) (read_back 6 box_of_row box_row (λ b. refl) (λ b. refl) zero_f L (own_box s.numbers s.marks) (entries_of s) left)
        ∙ list_at (own_box s.numbers s.marks) zero_box (entries_of s) i h

  -- and the drawn entries stand first
  pub own-drawn : (L : ℕ) (ds : List ℕ) → ds ≡ padded 0 L (drawn s.marks) → n ≡ length (drawn s.marks) → take n ds ≡ drawn s.marks
  unfolding padded
  own-drawn L ds left e = ap (take n) left ∙ take_at (drawn s.marks) (replicate (L - length (drawn s.marks)) 0) n (sym e)
