-- Demand 3 holds: the statement is in specs/Demand3.antt. Assumes nothing.
use Prim.Native.Nat.{ℕ, ◌*◌, ◌/◌}
use mathlib.Core.Path.{◌≡◌, refl, sym, ap, subst, ◌∙◌}
use mathlib.Core.Logic.{inl, inr}
use mathlib.Core.Bool.{Bool, true, false, not, and-eq-true_iff}
use mathlib.Core.List.{List, [], ◌∷◌}
use native.Mathlib.Omega.{arith}
use lib.ListN.{length}
use lib.Dec.{T, leb, eqb}
use lib.Ieee.{Float, eq}
use borrow.Author.Tests.{eqb-true}
use Rattle.floats.specs.Arith.{zero_f}
use Rattle.geometry.specs.Vectors.{distance_of}
use Rattle.geometry.specs.declared.vector.Vector.{Vector}
use Rattle.matrix.specs.Matrices.{mul_position_w}
use Rattle.refusals.specs.declared.Refusal.TheVariants.{View as BadView, Point}
use Rattle.limits.specs.Limits.{within_point}
use Rattle.limits.proofs.Limits.{within-point}
use Rattle.lists.specs.Lists.{Pairwise}
use Rattle.scene.specs.Scenes.{Scene, entries_of}
use Rattle.scene_shape.specs.Shapes.{Shape}
use Rattle.check_scene.specs.Checks.{lengths_agree}
use Rattle.tree_nodes.specs.Nodes.{places_of}
use Rattle.tree_sight.specs.Sights.{eye_ray, Answered}
use Rattle.tree_sight.specs.declared.Sight.{Sight}
use Rattle.tree_sight.specs.declared.Sight.TheVariants.{Visible, Hidden}
use Rattle.query_scene.specs.Queries.{if_built, seen_after, visible_of}
use Rattle.theorem_solids.specs.Same.{SameSolid}
use Rattle.theorem_solids.proofs.Same.{same_solid}
use Rattle.theorem_hiding.specs.Covers.{NoMinusZero}
use Rattle.theorem_covering.specs.Scenes.{CoversPoint, BuiltRows}
use Rattle.theorem_covering.proofs.Rows.{accepted-scene}
use Rattle.theorem_covering.proofs.Covering.{covered-point-hidden, hidden-point-named}
use Rattle.paths.specs.Paths.{Paths}
use Rattle.path_rdp.specs.Demand.{Accepted, Simplifies}
use Rattle.path_simplify.proofs.Calls.{call_ends}
use Rattle.view.specs.declared.View.{View}
use Rattle.draw_clip.specs.Clip.{clip_filter, by_sight}
use Rattle.theorem_filters.specs.Passing.{LeftAfterClipping}
use Rattle.draw_render.specs.Render.{Places}
use Rattle.draw.specs.Drawing.{solid_in, seen_in, Drawing}
use Rattle.theorem_draws.specs.Sheets.{Put, HiddenIn}
use Rattle.theorem_draws.proofs.Seeing.{occluder-is-named}
use Rattle.theorem_draws.proofs.Sheets.{build-answered, step_four, step-four-asks-visible, covered-point-dropped, each_point, simplified_so}
use Rattle.theorem_demand3.specs.Demand3.{Covers, Premise, Draws, RowsLeft, Answers, alone, in-a-draw, NamedShort, Simplified, Demand3}
use Rattle.theorem_demand3.proofs.Answers.{yes_or_no}
use Rattle.std.specs.Prelude.{Err, None, Ok, Option, Result}
use Rattle.refusals.specs.declared.Refusal.{Refusal}

-- ---- the same solid
numbers-long : (s : Scene) → lengths_agree s ≡ true → entries_of s * 16 ≡ length s.numbers
unfolding lengths_agree
numbers-long s h =
    let a = ((and-eq-true_iff (leb (entries_of s) 1024) _).0 h).1 in
    let b = ((and-eq-true_iff (eqb (entries_of s * 4) (length s.marks)) _).0 a).1 in
    eqb-true (entries_of s * 16) (length s.numbers) ((and-eq-true_iff (eqb (entries_of s * 16) (length s.numbers)) _).0 b).0

same-value : (s s' : Scene) → lengths_agree s ≡ true → lengths_agree s' ≡ true → (i j : ℕ) → SameSolid s.numbers s.marks s'.numbers s'.marks i j → solid_in s i ≡ solid_in s' j
same-value s s' h h' i j same =
    same_solid s.numbers s.marks s'.numbers s'.marks (omega (arith, numbers-long s h)) (omega (arith, numbers-long s' h')) i j same

-- ---- the rows that the public build leaves
rows_of : (s : Scene) (boxes : List Float) (marks order : List ℕ) → RowsLeft s boxes marks order → BuiltRows s boxes marks order
unfolding if_built
rows_of s boxes marks order B = record {
  places = places_of B.0 B.1;
  room = length B.2;
  count = B.3;
  answered = sym B.4.answer;
  B = length B.0;
  M = length B.1;
  O = length B.2;
  boxes_are = B.4.boxes_are;
  marks_are = B.4.marks_are;
  order_is = B.4.order_is;
}

-- and where a draw is answered, rows without zeros behind
drawn-rows : {t : Float} {s : Scene} {v : View} {w : Places} {q : Paths} (D : Drawing t s v w q) → (boxes : List Float) × (marks order : List ℕ) × BuiltRows s boxes marks order
drawn-rows {s = s} {w = w} D =
    (_, _, _, record { places = w.nodes; room = w.order; count = D.nodes; answered = build-answered D; B = 0; M = 0; O = 0; boxes_are = refl; marks_are = refl; order_is = refl })

-- ---- where the eye test is answered, eye and point have passed 8 and 9
module _ (s : Scene) (boxes : List Float) (marks order : List ℕ) (R : BuiltRows s boxes marks order) (eye point : Vector) (sure : Answered (visible_of s boxes marks order eye point)) where
  both : (b c : Bool) → within_point eye ≡ b → within_point point ≡ c → (within_point eye ≡ true) × (within_point point ≡ true)
  unfolding visible_of seen_after
  both true true eb ec = (eb, ec)
  both true false eb ec = absurd (sure Point (rw ((accepted-scene s boxes marks order R).1, eb, ec)))
  both false c eb ec = absurd (sure BadView (rw ((accepted-scene s boxes marks order R).1, eb)))

  fair : (within_point eye ≡ true) × (within_point point ≡ true)
  fair = both (within_point eye) (within_point point) refl refl

-- ---- covered, so hidden
covering : (solid : Shape) (eye point : Vector) → Covers solid eye point → CoversPoint solid eye point
covering solid eye point c =
    record { falls = record { own = c.falls.own; returned = c.falls.returned; short = c.falls.short }; passed = c.passed; no_later = c.no_later }

dropped-so : (w : Vector) (a : Result Sight Refusal) → Answered a → by_sight w a ≡ Ok None → a ≡ Ok Hidden
unfolding by_sight
dropped-so w (Ok Visible) sure e = absurd (let z : ◌≡◌ {A = ℕ} 0 1 = cc in omega arith)
dropped-so w (Ok Hidden) sure e = refl
dropped-so w (Err k) sure e = absurd (sure k refl)

pub covered-hidden : (solid : Shape) (eye point : Vector) → Covers solid eye point → Premise eye point → (s : Scene) → Draws s solid → (a : Result Sight Refusal) → Answered a → Answers s eye point a → a ≡ Ok Hidden
covered-hidden solid eye point c premise s draws a sure (alone boxes marks order B e) =
    let R = rows_of s boxes marks order B in
    let answered : Answered (visible_of s boxes marks order eye point) = subst Answered (sym e) sure in
    let f = fair s boxes marks order R eye point answered in
    sym e
    ∙ covered-point-hidden solid eye point (covering solid eye point c)
    (record { eye_within = within-point eye f.0; point_within = within-point point f.1; apart = premise.apart; direction = premise.direction })
    s draws boxes marks order R answered
covered-hidden solid eye point c premise s draws a sure (in-a-draw t v w q D is put left e) =
    let d =
    covered-point-dropped D point put left solid
    (subst (λ (x : Vector). CoversPoint solid x point) (sym is) (covering solid eye point c))
    (subst (λ (x : Vector). T (not (eq (distance_of x point) zero_f))) (sym is) premise.apart)
    (subst (λ (x : Vector). NoMinusZero (eye_ray x point).direction) (sym is) premise.direction)
    draws in
    dropped-so (mul_position_w v.matrix point) a sure (sym e ∙ d.0.dropped)

-- ---- hidden, so the one named falls short
by_name : (s : Scene) (boxes : List Float) (marks order : List ℕ) → BuiltRows s boxes marks order → (eye point : Vector) → visible_of s boxes marks order eye point ≡ Ok Hidden → NamedShort s eye point
by_name s boxes marks order R eye point hidden =
    let f = fair s boxes marks order R eye point (yes_or_no _ (inr hidden)) in
    let z = hidden-point-named eye point (within-point eye f.0) (within-point point f.1) s boxes marks order R hidden in
    let e = sym (occluder-is-named s boxes marks order R eye point f.0 f.1) ∙ z.1 in
    record {
      entry = z.0;
      named = λ boxes' marks' order' B. occluder-is-named s boxes' marks' order' (rows_of s boxes' marks' order' B) eye point f.0 f.1 ∙ e;
      is_drawn = z.2;
      falls = record { own = z.3.own; returned = z.3.returned; short = z.3.short };
    }

pub hidden-drop : (w : Vector) → by_sight w (Ok Hidden) ≡ Ok None
unfolding by_sight
hidden-drop w = refl

named : (s : Scene) (eye point : Vector) → Answers s eye point (Ok Hidden) → NamedShort s eye point
named s eye point (alone boxes marks order B e) = by_name s boxes marks order (rows_of s boxes marks order B) eye point e
named s eye point (in-a-draw t v w q D is put left e) =
    let hid : HiddenIn s v point = record { left = left; dropped = e ∙ hidden-drop (mul_position_w v.matrix point) } in
    let no : seen_in s v.eye point ≡ Ok Hidden = (step_four D point put left).1.0 hid in
    let R = drawn-rows D in
    subst (λ (x : Vector). NamedShort s x point) is (by_name s R.0 R.1 R.2 R.3 v.eye point (step-four-asks-visible D point put left R.0 R.1 R.2 R.3 ∙ no))

-- ---- step 4
module _ {t : Float} {s : Scene} {v : View} {w : Places} {q : Paths} (D : Drawing t s v w q) (point : Vector) (put : Put D point) (left : LeftAfterClipping v.matrix point) where
  abbrev test : Result (Option Vector) Refusal
  test = clip_filter v.matrix (seen_in s v.eye) point

  treated : (test ≡ by_sight (mul_position_w v.matrix point) (seen_in s v.eye point)) × Answered (seen_in s v.eye point)
  unfolding by_sight
  treated = elim (each_point D point put) [
    | inl out ↦ absurd (out.0 left)
    | inr (inl p) ↦ let e = (step_four D point put left).0.0 p in (p ∙ rw e, yes_or_no _ (inl e))
    | inr (inr h) ↦ let e = (step_four D point put left).1.0 h in (h.dropped ∙ rw e, yes_or_no _ (inr e))
  ]

  as-asked : (boxes : List Float) (marks order : List ℕ) → RowsLeft s boxes marks order
      → Answered (visible_of s boxes marks order v.eye point) × (test ≡ by_sight (mul_position_w v.matrix point) (visible_of s boxes marks order v.eye point))
  as-asked boxes marks order B =
      let e = step-four-asks-visible D point put left boxes marks order (rows_of s boxes marks order B) in
      (subst Answered (sym e) treated.1, treated.0 ∙ ap (by_sight (mul_position_w v.matrix point)) (sym e))

-- ---- simplification
module _ (t : Float) where
  all-simplified : (ps qs : List (List Vector)) → Pairwise (λ (p q : List Vector). Accepted t p × Simplifies t p q) ps qs → Pairwise (Simplified t) ps qs
  unfolding Pairwise
  all-simplified [] [] e = tt
  all-simplified [] (q ∷ qs) e = e
  all-simplified (p ∷ ps) [] e = e
  all-simplified (p ∷ ps) (q ∷ qs) e =
      let S = e.0.1 in
      (record { others = S.others; bit_for_bit = S.kept; in_order = S.order; near = S.near e.0.0 }, all-simplified ps qs e.1)

pub demand-3 : Demand3
demand-3 = record {
  same_solid = same-value;
  covered_stays_hidden = covered-hidden;
  hidden_names = named;
  step_four = λ s v D point put left. as-asked D point put left;
  simplified = λ xs ss t room startRoom n m ys us i j f. all-simplified t _ _ ((call_ends xs ss t room startRoom n m f).1 i j refl);
  simplified_in_a_draw = λ {t} s v D h. all-simplified t _ _ (simplified_so D h);
}
