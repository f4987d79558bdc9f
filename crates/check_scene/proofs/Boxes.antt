-- The box that the check forms of an entry is its own box. Assumes nothing.
use Prim.Native.Nat.{ℕ, ◌*◌, ◌/◌, ◌<◌, ◌≤◌}
use mathlib.Core.Path.{◌≡◌, sym, ap, ◌∙◌}
use mathlib.Core.List.{List}
use native.Mathlib.Omega.{arith}
use lib.ListN.{length, get_or}
use lib.Ieee.{Float}
use borrow.Author.Tests.{lt-ltb}
use Rattle.geometry.specs.declared.bounding_box.BBox.{BBox}
use Rattle.rows.specs.Rows.{view}
use Rattle.rows.specs.Points.{box_of_row}
use Rattle.rows.proofs.Rows.{get_d-view}
use Rattle.scene.specs.Entries.{entry_at, own_entry}
use Rattle.scene.specs.declared.entry.Entry.{Entry}
use Rattle.scene.specs.Scenes.{entries}
use Rattle.lists.specs.Lists.{list_to}
use Rattle.lists.proofs.Tests.{list_at}
use Rattle.check_scene.specs.Extents.{zero_box, stored_box, entry_box, own_box, Readable}
use Rattle.check_scene.proofs.Reading.{each_map, box-as, own-parts, box_opens}
use Rattle.std.specs.Prelude.{Option}

module _ (ns vs : List Float) (ms : List ℕ) (R : Readable ns vs ms) (xs₀ xs : List Float) (i : ℕ) (l : i < entries ms)
    (fit : entries ms * 6 ≤ length xs₀) (same : length xs ≡ length xs₀) (filled : view 6 box_of_row i xs ≡ list_to (own_box ns ms) i) where
  box-stored : (k : ℕ) → k < i → stored_box xs k ≡ own_box ns ms k
  unfolding stored_box
  box-stored k h =
      rw (lt-ltb k (length xs / 6) (omega (arith, fit, same, l, h)))
      (sym (get_d-view 6 box_of_row i k xs zero_box h) ∙ ap (λ (bs : List BBox). get_or bs k zero_box) filled ∙ list_at (own_box ns ms) zero_box i k h)

  pub formed : {e : Option Entry} {b : BBox} → e ≡ entry_at ns vs ms i → b ≡ entry_box (stored_box xs) e → b ≡ own_box ns ms i
  formed p q =
      q
      ∙ ap (entry_box (stored_box xs)) (p ∙ R.same i l)
      ∙ box-as (stored_box xs) (own_box ns ms) (own_entry ns ms i) (each_map (own_entry ns ms i) (λ k w. box-stored k w.0) (own-parts ns ms R.parts i l))
      ∙ sym (box_opens ns ms R.parts i l)
