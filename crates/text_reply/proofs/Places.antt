-- The text of what a draw left is the text of its answer, and the local slices are the places of `yard`. Assumes nothing.
use Prim.Native.Nat.{ℕ, zero, suc, ◌-◌, ◌*◌, ◌/◌, ◌≤◌}
use mathlib.Core.Path.{◌≡◌, refl, ap, ap₂, ◌∙◌, subst}
use mathlib.Core.List.{List, ◌∷◌}
use native.Mathlib.Omega.{arith}
use lib.ListN.{length, take, drop, replicate, length-append, length-replicate}
use lib.Seq.{take_at}
use lib.Ieee.{Float}
use Rattle.floats.specs.Arith.{zero_f, millionth}
use Rattle.geometry.specs.declared.vector.Vector.{Vector}
use Rattle.rows.specs.Rows.{view, flat, padded}
use Rattle.rows.specs.Points.{points, point_of, point_row}
use Rattle.rows.proofs.Rows.{length-flat, view-flat}
use Rattle.tree_nodes.specs.Nodes.{places_of}
use Rattle.paths.specs.Paths.{Paths, paths_of}
use Rattle.paths.specs.Ends.{places, all_points, counted, laid_points, laid_starts, Finished}
use Rattle.view.specs.declared.View.{View}
use Rattle.scene.specs.Scenes.{Scene}
use Rattle.draw_render.specs.Render.{Places}
use Rattle.draw_render.specs.Slices.{places_in}
use Rattle.draw.specs.Draw.{draw_with}
use Rattle.text_drawing.specs.Drawings.{drawing_text, text_of, fitting, written, laid}
use Rattle.text_reply.specs.Reply.{yard_places, answer_text, drawn_text}
use Rattle.std.specs.Prelude.{Err, Ok, Result}
use Rattle.refusals.specs.declared.Refusal.{Refusal}

-- ---- the first points of a slice
take-view : {A B : Type 0} (k : ℕ) (f : List A → B) (n m : ℕ) (xs : List A) → n ≤ m → take n (view k f m xs) ≡ view k f n xs
unfolding view
take-view k f zero m xs h = refl
take-view k f (suc n) zero xs h = absurd (omega arith)
take-view k f (suc n) (suc m) xs h = ap (λ l. f (take k xs) ∷ l) (take-view k f n m (drop k xs) (omega arith))

module _ (vs : List Vector) (n : ℕ) where
  laid-long : length vs ≤ places (padded zero_f n (flat point_row vs))
  unfolding padded
  laid-long =
      let a : length (flat point_row vs) ≡ length vs * 3 = length-flat 3 point_of point_row (λ b. refl) vs in
      let b = length-append (flat point_row vs) (replicate (n - length (flat point_row vs)) zero_f) in
      omega (arith, a, b)

  rows_back : points (length vs) (padded zero_f n (flat point_row vs)) ≡ vs
  unfolding padded
  rows_back = view-flat 3 point_of point_row (λ b. refl) (λ b. refl) vs (replicate (n - length (flat point_row vs)) zero_f)

  points-back : take (length vs) (all_points (padded zero_f n (flat point_row vs))) ≡ vs
  points-back = take-view 3 point_of (length vs) (places (padded zero_f n (flat point_row vs))) (padded zero_f n (flat point_row vs)) laid-long ∙ rows_back

starts-back : (ss : List ℕ) (m : ℕ) → take (length ss) (padded 0 m ss) ≡ ss
unfolding padded
starts-back ss m = take_at ss (replicate (m - length ss) 0) (length ss) refl

left-text : (a : Result Paths Refusal) (n m : ℕ) → text_of (counted a) (laid_points a n) (laid_starts a m) ≡ answer_text a
unfolding text_of answer_text
left-text (Ok p) n m = ap₂ (λ (x : List Vector) (y : List ℕ). drawing_text (paths_of x y)) (points-back p.vertices n) (starts-back p.starts m)
left-text (Err k) n m = refl

finished-text : (a : Result Paths Refusal) (n m : ℕ) {xs : List Float} {ss : List ℕ} {c : Result (ℕ × ℕ) Refusal} → Finished a n m xs ss c → text_of c xs ss ≡ answer_text a
finished-text a n m w = rw (w.answer, w.points_laid, w.starts_laid) (left-text a n m)

-- ---- the places of `yard`
yard-places : (work : List Float) (workStarts : List ℕ) (chopped : List Float) (choppedStarts : List ℕ) (nodeBoxes : List Float) (nodeMarks order : List ℕ) (out : List Float) (begins : List ℕ)
    → length work ≡ 49152 → length workStarts ≡ 16384 → length chopped ≡ 6144 → length choppedStarts ≡ 2048 → length nodeBoxes ≡ 12288 → length nodeMarks ≡ 6144 → length order ≡ 2048 → length out ≡ 6144 → length begins ≡ 2048
    → places_in (length work / 24 * 3) (length workStarts / 8) chopped choppedStarts nodeBoxes nodeMarks order out begins ≡ yard_places
unfolding places_of
yard-places work workStarts chopped choppedStarts nodeBoxes nodeMarks order out begins a b c d e f g h i = rw (a, b, c, d, e, f, g, h, i)

-- the slices that a draw is lent
abbrev pub lent : Places
lent =
    places_in (length (replicate 49152 zero_f) / 24 * 3) (length {A = ℕ} (replicate 16384 0) / 8) (replicate 6144 zero_f) (replicate 2048 0) (replicate 12288 zero_f) (replicate 6144 0) (replicate 2048 0)
    (replicate 6144 zero_f) (replicate 2048 0)

lent_is : lent ≡ yard_places
lent_is =
    yard-places (replicate 49152 zero_f) (replicate 16384 0) (replicate 6144 zero_f) (replicate 2048 0) (replicate 12288 zero_f) (replicate 6144 0) (replicate 2048 0) (replicate 6144 zero_f) (replicate 2048 0)
    (length-replicate 49152 zero_f) (length-replicate {A = ℕ} 16384 0) (length-replicate 6144 zero_f) (length-replicate {A = ℕ} 2048 0) (length-replicate 12288 zero_f) (length-replicate {A = ℕ} 6144 0) (length-replicate {A = ℕ} 2048 0)
    (length-replicate 6144 zero_f) (length-replicate {A = ℕ} 2048 0)

-- ---- what is written of a text is what is written of an equal one
abbrev pub Wrote : List ℕ → ℕ → Result ℕ Refusal → List ℕ → Type 0
Wrote t room r ys = (r ≡ written (fitting room t)) × (ys ≡ laid (fitting room t) room)

pub wrote_as : {s t : List ℕ} (room : ℕ) (r : Result ℕ Refusal) (ys : List ℕ) → s ≡ t → Wrote s room r ys → Wrote t room r ys
wrote_as room r ys e w = subst (λ (x : List ℕ). Wrote x room r ys) e w

pub drawn-wrote : (s : Scene) (v : View) (n m : ℕ) (xs : List Float) (ss : List ℕ) {c : Result (ℕ × ℕ) Refusal} → Finished (draw_with millionth s v lent) n m xs ss c → (room : ℕ) (r : Result ℕ Refusal) (ys : List ℕ)
    → Wrote (text_of c xs ss) room r ys → Wrote (drawn_text s v) room r ys
drawn-wrote s v n m xs ss w room r ys = wrote_as room r ys (finished-text (draw_with millionth s v lent) n m w ∙ ap (λ (p : Places). answer_text (draw_with millionth s v p)) lent_is)
