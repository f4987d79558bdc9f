-- The filter leaves starts that rise, within the room of its slices, whatever the test. Assumes nothing.
use mathlib.Core.Path.{◌≡◌, subst}
use mathlib.Core.List.{List, [], ◌∷◌}
use Prim.Native.Nat.{ℕ}
use native.Mathlib.Omega.{arith}
use Rattle.geometry.specs.declared.vector.Vector.{Vector}
use Rattle.paths.specs.Answers.{next}
use Rattle.paths.specs.Paths.{Paths, paths_with, no_paths, push, opened, closed, paths_of, stage}
use Rattle.paths.proofs.Adding.{same_answer, next-answered}
use Rattle.paths.proofs.Laying.{Laid, laid_none, opened-laid, closed-laid, pushed-laid, each_laid}
use Rattle.path_filter.specs.Filter.{stepped, filtered_from, path_filter, filter_paths}
use Rattle.std.specs.Prelude.{Err, None, Ok, Option, Result, Some}
use Rattle.refusals.specs.declared.Refusal.{Refusal}

module _ {room startRoom : ℕ} where
  step-laid : (t : Result (Option Vector) Refusal) (o q : Paths) → stepped room startRoom t o ≡ Ok q → Laid room startRoom o → Laid room startRoom q
  unfolding stepped
  step-laid (Ok (Some v)) o q e h =
      let w = next-answered (push room o.vertices v) (λ (vs : List Vector). Ok (paths_with vs o.starts)) q e in
      subst (Laid room startRoom) (same_answer w.2) (pushed-laid v o w.0 w.1 h)
  step-laid (Ok None) o q e h = opened-laid (closed o) q e (closed-laid o h)
  step-laid (Err k) o q e h = let z : ◌≡◌ {A = ℕ} 0 1 = cc in absurd (omega arith)

  module _ (test : Vector → Result (Option Vector) Refusal) where
    from-laid : (vs : List Vector) (o q : Paths) → filtered_from test room startRoom vs o ≡ Ok q → Laid room startRoom o → Laid room startRoom q
    unfolding filtered_from
    from-laid [] o q e h = subst (Laid room startRoom) (same_answer e) h
    from-laid (v ∷ vs) o q e h =
        let w = next-answered (stepped room startRoom (test v) o) (filtered_from test room startRoom vs) q e in
        from-laid vs w.0 q w.2 (step-laid (test v) o w.0 w.1 h)

    path-laid : (p : List Vector) (o q : Paths) → path_filter test room startRoom p o ≡ Ok q → Laid room startRoom o → Laid room startRoom q
    unfolding path_filter
    path-laid p o q e h =
        let w = next-answered (opened startRoom o) (λ (u : Paths). next (filtered_from test room startRoom p u) (λ (r : Paths). Ok (closed r))) q e in
        let x = next-answered (filtered_from test room startRoom p w.0) (λ (r : Paths). Ok (closed r)) q w.2 in
        subst (Laid room startRoom) (same_answer x.2) (closed-laid x.0 (from-laid p w.0 x.0 x.1 (opened-laid o w.0 w.1 h)))

    pub filter-laid : (vs : List Vector) (ss : List ℕ) {q : Paths} → filter_paths test vs ss room startRoom ≡ Ok q → Laid room startRoom q
    unfolding stage
    filter-laid vs ss {q} e = each_laid (path_filter test room startRoom) path-laid (paths_of vs ss) no_paths q e laid_none
