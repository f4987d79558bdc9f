-- What a filter's stage leaves: the proof, a point and a path at a time.
use mathlib.Core.Path.{◌≡◌, refl, sym, ap, ◌∙◌}
use mathlib.Core.Logic.{◌⊎◌, inl, inr}
use mathlib.Core.List.{List, [], ◌∷◌, ◌++◌, append_assoc, append-nil}
use Prim.Native.Nat.{ℕ}
use native.Mathlib.Omega.{arith}
use lib.ListN.{length}
use Rattle.geometry.specs.declared.vector.Vector.{Vector}
use Rattle.lists.specs.Lists.{Member}
use Rattle.paths.specs.Answers.{next}
use Rattle.paths.specs.Paths.{Paths, paths_with, push, opened, closed, paths_of, each, no_paths, stage}
use Rattle.paths.proofs.Adding.{no_answer, same_answer, next-answered, push-answered}
use Rattle.path_filter.specs.Filter.{stepped, filtered_from, path_filter}
use Rattle.theorem_filters.specs.Kept.{Tested, before, kept_in, kept_of, AllAnswered, StageKeeps}
use Rattle.std.specs.Prelude.{Err, None, Ok, Option, Result, Some}
use Rattle.refusals.specs.declared.Refusal.{Refusal}

opened-points : (room : ℕ) (o : Paths) {q : Paths} → opened room o ≡ Ok q → q.vertices ≡ o.vertices
unfolding opened
opened-points room o {q} e =
    let w = next-answered (push room o.starts (length o.vertices)) (λ (ss : List ℕ). Ok (paths_with o.vertices ss)) _ e in
    ap (λ (p : Paths). p.vertices) (sym (same_answer w.2))

closed-points : (o : Paths) → (closed o).vertices ≡ o.vertices
unfolding closed
closed-points o = refl

-- ---- one point
step-points : (room startRoom : ℕ) (t : Result (Option Vector) Refusal) (o : Paths) {q : Paths} → stepped room startRoom t o ≡ Ok q → (q.vertices ≡ o.vertices ++ before t []) × Tested t
unfolding stepped before
step-points room startRoom (Ok (Some w)) o {q} e =
    let s = next-answered (push room o.vertices w) (λ (vs : List Vector). Ok (paths_with vs o.starts)) _ e in
    (ap (λ (p : Paths). p.vertices) (sym (same_answer s.2)) ∙ push-answered room o.vertices w s.0 s.1, λ k h. let z : ◌≡◌ {A = ℕ} 0 1 = cc in omega arith)
step-points room startRoom (Ok None) o e = (opened-points startRoom (closed o) e ∙ closed-points o ∙ sym (append-nil o.vertices), λ k h. let z : ◌≡◌ {A = ℕ} 0 1 = cc in omega arith)
step-points room startRoom (Err j) o e = no_answer j e

before-append : (t : Result (Option Vector) Refusal) (ws : List Vector) → before t [] ++ ws ≡ before t ws
unfolding before
before-append (Ok (Some w)) ws = refl
before-append (Ok None) ws = refl
before-append (Err k) ws = refl

module _ (test : Vector → Result (Option Vector) Refusal) (room startRoom : ℕ) where
  -- ---- the points of a path
  from-points : (vs : List Vector) (o : Paths) {q : Paths} → filtered_from test room startRoom vs o ≡ Ok q
      → (q.vertices ≡ o.vertices ++ kept_in test vs) × ((v : Vector) → Member v vs → Tested (test v))
  unfolding filtered_from kept_in
  from-points [] o e = (ap (λ (p : Paths). p.vertices) (sym (same_answer e)) ∙ sym (append-nil o.vertices), λ v m. absurd m)
  from-points (v ∷ vs) o {q} e =
      let s = next-answered (stepped room startRoom (test v) o) (filtered_from test room startRoom vs) _ e in
      let one = step-points room startRoom (test v) o s.1 in
      let more = from-points vs s.0 s.2 in (
        more.0 ∙ ap (λ (l : List Vector). l ++ kept_in test vs) one.0 ∙ append_assoc o.vertices (before (test v) []) (kept_in test vs)
            ∙ ap (λ (l : List Vector). o.vertices ++ l) (before-append (test v) (kept_in test vs)),
        λ u m. by u one.1 more.1 m,
      )
    where
      by : (u : Vector) → Tested (test v) → ((u : Vector) → Member u vs → Tested (test u)) → (v ≡ u) ⊎ Member u vs → Tested (test u)
      by u a b (inl h) = rw (← h) a
      by u a b (inr m) = b u m

  path-points : (p : List Vector) (o : Paths) {q : Paths} → path_filter test room startRoom p o ≡ Ok q
      → (q.vertices ≡ o.vertices ++ kept_in test p) × ((v : Vector) → Member v p → Tested (test v))
  unfolding path_filter
  path-points p o {q} e =
      let s = next-answered (opened startRoom o) (λ (u : Paths). next (filtered_from test room startRoom p u) (λ (r : Paths). Ok (closed r))) _ e in
      let t = next-answered (filtered_from test room startRoom p s.0) (λ (r : Paths). Ok (closed r)) _ s.2 in
      let f = from-points p s.0 t.1 in
      (ap (λ (r : Paths). r.vertices) (sym (same_answer t.2)) ∙ closed-points t.0 ∙ f.0 ∙ ap (λ (l : List Vector). l ++ kept_in test p) (opened-points startRoom o s.1), f.1)

  -- ---- all paths
  each-points : (ps : List (List Vector)) (o : Paths) {q : Paths} → each (path_filter test room startRoom) ps o ≡ Ok q
      → (q.vertices ≡ o.vertices ++ kept_of test ps) × AllAnswered test ps
  unfolding each kept_of
  each-points [] o e = (ap (λ (p : Paths). p.vertices) (sym (same_answer e)) ∙ sym (append-nil o.vertices), λ p m. absurd m)
  each-points (p ∷ ps) o {q} e =
      let s = next-answered (path_filter test room startRoom p o) (each (path_filter test room startRoom) ps) _ e in
      let one = path-points p o s.1 in
      let more = each-points ps s.0 s.2 in
      (more.0 ∙ ap (λ (l : List Vector). l ++ kept_of test ps) one.0 ∙ append_assoc o.vertices (kept_in test p) (kept_of test ps), λ u m. by u one.1 more.1 m)
    where
      by : (u : List Vector) → ((v : Vector) → Member v p → Tested (test v)) → AllAnswered test ps → (p ≡ u) ⊎ Member u ps → (v : Vector) → Member v u → Tested (test v)
      by u a b (inl h) = rw (← h) a
      by u a b (inr m) = b u m

pub stage-keeps : StageKeeps
unfolding stage
stage-keeps test vs ss room startRoom q e = each-points test room startRoom (paths_of vs ss) no_paths e
