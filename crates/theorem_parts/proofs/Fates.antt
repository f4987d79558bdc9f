-- What becomes of each point of an entry's lines: the proofs. Assumes nothing.
use Prim.Native.Nat.{ℕ}
use mathlib.Core.Path.{◌≡◌, refl, sym, ap, subst, ◌∙◌}
use mathlib.Core.Bool.{Bool, true, false, cond}
use mathlib.Core.List.{List}
use mathlib.Core.Logic.{◌⊎◌, inl, inr}
use native.Mathlib.Omega.{arith}
use lib.Dec.{T}
use lib.Ieee.{Float}
use Rattle.geometry.specs.Boxes.{clip_box, contains}
use Rattle.geometry.specs.declared.vector.Vector.{Vector}
use Rattle.geometry.specs.declared.ray.Ray.{Ray}
use Rattle.matrix.specs.Matrices.{mul_position_w}
use Rattle.limits.specs.Limits.{within_point}
use Rattle.lists.specs.Lists.{Member}
use Rattle.refusals.specs.declared.Refusal.{Refusal}
use Rattle.refusals.specs.declared.Refusal.TheVariants.{View as BadView, Point}
use Rattle.scene.specs.Scenes.{Scene}
use Rattle.check_parts.specs.Drawn.{drawn}
use Rattle.check_scene.specs.Checks.{check_of}
use Rattle.tree_walk.specs.Walks.{walk_rows}
use Rattle.tree_sight.specs.declared.Sight.{Sight}
use Rattle.tree_sight.specs.declared.Sight.TheVariants.{Visible as InSight, Hidden as OutOfSight}
use Rattle.query_scene.specs.Queries.{own_hits, hides, named_after, occluder_of, sight_of, visible_of}
use Rattle.query_scene.proofs.Names.{named-as-seen}
use Rattle.paths.specs.Paths.{Paths}
use Rattle.view.specs.declared.View.{View}
use Rattle.draw_clip.specs.Clip.{by_sight, clip_filter}
use Rattle.draw_fates.specs.Fates.{by_name, fate_by, fate_of}
use Rattle.draw_fates.specs.declared.Fate.{Fate}
use Rattle.draw_fates.specs.declared.Fate.TheVariants.{Clipped, Visible, Hidden}
use Rattle.draw_render.specs.Render.{Places}
use Rattle.draw.specs.Drawing.{seen_in, Drawing}
use Rattle.theorem_filters.specs.Passing.{LeftAfterClipping}
use Rattle.theorem_draws.specs.Sheets.{Put, ClippedIn, PassedIn, HiddenIn}
use Rattle.theorem_draws.proofs.Draws.{of_a_draw}
use Rattle.theorem_demand3.specs.Demand3.{RowsLeft, NamedShort, in-a-draw}
use Rattle.theorem_demand3.proofs.Demand3.{hidden-drop, demand-3}
use Rattle.theorem_parts.specs.Accounts.{PathOf}
use Rattle.theorem_parts.specs.Fates.{EntryAccount, SaidOf, FatesAccount}
use Rattle.theorem_parts.proofs.Accounts.{lines-accounted}
use Rattle.std.specs.Prelude.{Err, None, Ok, Option, Result, Some}

pub entry-account : EntryAccount
entry-account t s v w q D u i m path p point on =
    let put : Put D point = record { path = path; among = lines-accounted.put t s v w q D path u i m p; on = on } in
    by ((of_a_draw D).each_point point put)
    (λ h. demand-3.hidden_names s v.eye point (in-a-draw t v w q D refl put h.left (h.dropped ∙ sym (hidden-drop (mul_position_w v.matrix point)))))
  where
    by : {A B C E : Type 0} → A ⊎ (B ⊎ C) → (C → E) → A ⊎ (B ⊎ (C × E))
    by (inl x) f = inl x
    by (inr (inl x)) f = inr (inl x)
    by (inr (inr x)) f = inr (inr (x, f x))

-- ---- the public call
not_so : (b : Bool) → (T b → ⊥) → b ≡ false
not_so true f = absurd (f tt)
not_so false f = refl

is-so : (b : Bool) → T b → b ≡ true
is-so true t = refl
is-so false t = elim t [ ]

module _ (s : Scene) (boxes : List Float) (marks order : List ℕ) (v : View) (point : Vector) where
  abbrev fate : Result Fate Refusal
  fate = fate_of s boxes marks order v point

  abbrev named : Result (Option ℕ) Refusal
  named = hides (λ (r : Ray). walk_rows (own_hits s r) r boxes marks order) v.eye point

  fate-clipped : contains clip_box (mul_position_w v.matrix point) ≡ false → fate ≡ Ok Clipped
  unfolding fate_of fate_by
  fate-clipped f = rw f

  -- a point left after clipping, by what the public occluder answers
  fate-named : {n : ℕ} → check_of s ≡ Ok n → contains clip_box (mul_position_w v.matrix point) ≡ true → (x : Result (Option ℕ) Refusal) → ((k : Refusal) → x ≡ Err k → ⊥)
      → occluder_of s boxes marks order v.eye point ≡ x → fate ≡ by_name x
  unfolding fate_of fate_by occluder_of named_after
  fate-named {n} is t x f e =
      rw t
      (go (within_point v.eye) (within_point point)
      (subst (λ (d : Result ℕ Refusal). named_after d (cond (within_point v.eye) (cond (within_point point) named (Err Point)) (Err BadView)) ≡ x) is e))
    where
      go : (a b : Bool) → named_after (Ok n) (cond a (cond b named (Err Point)) (Err BadView)) ≡ x → cond b (by_name named) (Err Point) ≡ by_name x
      go true true g = ap by_name g
      go true false g = absurd (f Point (sym g))
      go false b g = absurd (f BadView (sym g))

no-clear : (k : Refusal) → ◌≡◌ {A = Result (Option ℕ) Refusal} (Ok None) (Err k) → ⊥
no-clear k e = let z : ◌≡◌ {A = ℕ} 0 1 = cc in omega arith

no-hidden : (i : ℕ) (k : Refusal) → ◌≡◌ {A = Result (Option ℕ) Refusal} (Ok (Some i)) (Err k) → ⊥
no-hidden i k e = let z : ◌≡◌ {A = ℕ} 0 1 = cc in omega arith

kept-left : (b : Bool) (x : Result (Option Vector) Refusal) (w : Vector) → cond b x (Ok None) ≡ Ok (Some w) → T b
kept-left true x w e = tt
kept-left false x w e = let z : ◌≡◌ {A = ℕ} 0 1 = cc in absurd (omega arith)

kept_seen : (a : Result Sight Refusal) (w : Vector) → by_sight w a ≡ Ok (Some w) → a ≡ Ok InSight
unfolding by_sight
kept_seen (Ok InSight) w e = refl
kept_seen (Ok OutOfSight) w e = let z : ◌≡◌ {A = ℕ} 0 1 = cc in absurd (omega arith)
kept_seen (Err k) w e = let z : ◌≡◌ {A = ℕ} 0 1 = cc in absurd (omega arith)

seen-clear : (o : Result (Option ℕ) Refusal) → sight_of o ≡ Ok InSight → o ≡ Ok None
unfolding sight_of
seen-clear (Ok None) e = refl
seen-clear (Ok (Some i)) e = let z : ◌≡◌ {A = ℕ} 0 1 = cc in absurd (omega arith)
seen-clear (Err k) e = let z : ◌≡◌ {A = ℕ} 0 1 = cc in absurd (omega arith)

module _ (t : Float) (s : Scene) (v : View) (w : Places) (q : Paths) (D : Drawing t s v w q) (u : Places) (i : ℕ) (m : Member i (drawn s.marks)) (path : List Vector) (p : PathOf s v u i path) (point : Vector) (on : Member point path)
    (boxes : List Float) (marks order : List ℕ) (rows : RowsLeft s boxes marks order) where
  put : Put D point
  put = record { path = path; among = lines-accounted.put t s v w q D path u i m p; on = on }

  passed-left : PassedIn s v point → LeftAfterClipping v.matrix point
  unfolding clip_filter
  passed-left e = kept-left (contains clip_box (mul_position_w v.matrix point)) _ _ e

  passed-visible : PassedIn s v point → fate_of s boxes marks order v point ≡ Ok Visible
  unfolding by_name
  passed-visible e =
      let left = passed-left e in
      let four = demand-3.step_four s v D point put left boxes marks order rows in
      let seen : visible_of s boxes marks order v.eye point ≡ Ok InSight = kept_seen (visible_of s boxes marks order v.eye point) (mul_position_w v.matrix point) (sym four.1 ∙ e) in
      fate-named s boxes marks order v point D.accepted (is-so (contains clip_box (mul_position_w v.matrix point)) left) (Ok None) no-clear
      (seen-clear (occluder_of s boxes marks order v.eye point) (named-as-seen s boxes marks order v.eye point ∙ seen))

  said_of : SaidOf s v point (fate_of s boxes marks order v point)
  unfolding by_name
  said_of = by (entry-account t s v w q D u i m path p point on)
    where
      by : ClippedIn s v point ⊎ (PassedIn s v point ⊎ (HiddenIn s v point × NamedShort s v.eye point)) → SaidOf s v point (fate_of s boxes marks order v point)
      by (inl c) = subst (SaidOf s v point) (sym (fate-clipped s boxes marks order v point (not_so (contains clip_box (mul_position_w v.matrix point)) c.0))) c
      by (inr (inl e)) = subst (SaidOf s v point) (sym (passed-visible e)) e
      by (inr (inr (h, n))) =
          subst (SaidOf s v point)
          (sym (fate-named s boxes marks order v point D.accepted (is-so (contains clip_box (mul_position_w v.matrix point)) h.left) (Ok (Some n.entry)) (no-hidden n.entry) (n.named boxes marks order rows)))
          (h, (n, refl))

pub fates-account : FatesAccount
fates-account = record {
  said = λ t s v w q D u i m path p point on boxes marks order rows. said_of t s v w q D u i m path p point on boxes marks order rows;
  visible = λ t s v w q D u i m path p point on boxes marks order rows e. passed-visible t s v w q D u i m path p point on boxes marks order rows e;
}
