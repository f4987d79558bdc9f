-- What a filter's stage leaves, path by path: the proof. Assumes nothing.
use mathlib.Core.Path.{◌≡◌, refl, sym, ap, ap₂, ◌∙◌, subst}
use mathlib.Core.Logic.{inl, inr}
use mathlib.Core.List.{List, [], ◌∷◌, ◌++◌, append_assoc, append-nil}
use Prim.Native.Nat.{ℕ}
use native.Mathlib.Omega.{arith}
use lib.ListN.{length}
use Rattle.geometry.specs.declared.vector.Vector.{Vector}
use Rattle.lists.specs.Lists.{Member}
use Rattle.lists.proofs.Members.{member-append}
use Rattle.paths.specs.Answers.{next}
use Rattle.paths.specs.Paths.{Paths, paths_with, no_paths, push, paths_of, opened, closed, each, stage, with_points}
use Rattle.paths.proofs.Adding.{no_answer, same_answer, next-answered, push-answered, Low, Added, closed-adds, added_none, added_more}
use Rattle.path_filter.specs.Filter.{stepped, filtered_from, path_filter}
use Rattle.theorem_filters.specs.Cutting.{cut_at, runs_in, runs_of, StageCuts, After, Unbroken, NeverAcross, StageUnbroken}
use Rattle.std.specs.Prelude.{Err, None, Ok, Option, Result, Some}
use Rattle.refusals.specs.declared.Refusal.{Refusal}

-- ---- the points of a path: ws is the run that is open
abbrev onto : List Vector → List (List Vector) → List (List Vector)
onto ws [] = ws ∷ []
onto ws (r ∷ rs) = (ws ++ r) ∷ rs

onto-keep : (ws : List Vector) (w : Vector) (rs : List (List Vector)) → onto (ws ++ (w ∷ [])) rs ≡ onto ws (cut_at (Ok (Some w)) rs)
unfolding cut_at
onto-keep ws w [] = refl
onto-keep ws w (r ∷ rs) = ap (λ (l : List Vector). l ∷ rs) (append_assoc ws (w ∷ []) r)

onto-none : (rs : List (List Vector)) → with_points (onto [] rs) ≡ with_points rs
unfolding with_points
onto-none [] = refl
onto-none (r ∷ rs) = refl

opened-state : (room : ℕ) (o : Paths) {q : Paths} → opened room o ≡ Ok q → q ≡ paths_with (o.vertices ++ []) (o.starts ++ (length o.vertices ∷ []))
unfolding opened
opened-state room o {q} e =
    let w = next-answered (push room o.starts (length o.vertices)) (λ (ss : List ℕ). Ok (paths_with o.vertices ss)) _ e in
    sym (same_answer w.2) ∙ ap₂ paths_with (sym (append-nil o.vertices)) (push-answered room o.starts (length o.vertices) w.0 w.1)

abbrev held-open : List Vector → List Vector → List ℕ → Paths
held-open vs ws ss = paths_with (vs ++ ws) (ss ++ (length vs ∷ []))

module _ (test : Vector → Result (Option Vector) Refusal) (room startRoom : ℕ) where
  module _ (p : List Vector) (rs : List (List Vector)) (q : Paths)
      (rest : (vs ws : List Vector) (ss : List ℕ) → Low (length vs) ss → filtered_from test room startRoom p (held-open vs ws ss) ≡ Ok q → Added (paths_with vs ss) (closed q) (with_points (onto ws rs)))
      (vs ws : List Vector) (ss : List ℕ) (h : Low (length vs) ss) where
    one-point : (t : Result (Option Vector) Refusal) (o : Paths) → stepped room startRoom t (held-open vs ws ss) ≡ Ok o → filtered_from test room startRoom p o ≡ Ok q
        → Added (paths_with vs ss) (closed q) (with_points (onto ws (cut_at t rs)))
    unfolding stepped cut_at
    one-point (Ok (Some w)) o a b =
        let k = next-answered (push room (vs ++ ws) w) (λ (us : List Vector). Ok (paths_with us (ss ++ (length vs ∷ [])))) o a in
        let u : k.0 ≡ vs ++ (ws ++ (w ∷ [])) = push-answered room (vs ++ ws) w k.0 k.1 ∙ append_assoc vs ws (w ∷ []) in
        let z : o ≡ held-open vs (ws ++ (w ∷ [])) ss = sym (same_answer k.2) ∙ ap (λ (l : List Vector). paths_with l (ss ++ (length vs ∷ []))) u in
        subst (λ (l : List (List Vector)). Added (paths_with vs ss) (closed q) (with_points l)) (onto-keep ws w rs)
        (rest vs (ws ++ (w ∷ [])) ss h (subst (λ (x : Paths). filtered_from test room startRoom p x ≡ Ok q) z b))
    one-point (Ok None) o a b =
        let c = closed (held-open vs ws ss) in
        let A = closed-adds vs ws ss h in
        let z : o ≡ held-open c.vertices [] c.starts = opened-state startRoom c a in
        let B = rest c.vertices [] c.starts A.low (subst (λ (x : Paths). filtered_from test room startRoom p x ≡ Ok q) z b) in
        let C : Added c (closed q) (with_points rs) = subst (λ (l : List (List Vector)). Added c (closed q) l) (onto-none rs) B in
        subst (λ (l : List Vector). Added (paths_with vs ss) (closed q) (with_points (l ∷ rs))) (sym (append-nil ws)) (added_more (paths_with vs ss) c (closed q) (ws ∷ []) rs A C)
    one-point (Err k) o a b = no_answer k a

  from-runs : (p : List Vector) (q : Paths) (vs ws : List Vector) (ss : List ℕ) → Low (length vs) ss → filtered_from test room startRoom p (held-open vs ws ss) ≡ Ok q
      → Added (paths_with vs ss) (closed q) (with_points (onto ws (runs_in test p)))
  unfolding filtered_from runs_in
  from-runs [] q vs ws ss h e =
      let s : held-open vs ws ss ≡ q = same_answer e in
      subst (λ (o : Paths). Added (paths_with vs ss) (closed o) (with_points ((ws ++ []) ∷ []))) s
      (subst (λ (l : List Vector). Added (paths_with vs ss) (closed (held-open vs ws ss)) (with_points (l ∷ []))) (sym (append-nil ws)) (closed-adds vs ws ss h))
  from-runs (v ∷ p) q vs ws ss h e =
      let s = next-answered (stepped room startRoom (test v) (held-open vs ws ss)) (filtered_from test room startRoom p) q e in
      one-point p (runs_in test p) q (from-runs p q) vs ws ss h (test v) s.0 s.1 s.2

  path-runs : (p : List Vector) (o q : Paths) → Low (length o.vertices) o.starts → path_filter test room startRoom p o ≡ Ok q → Added o q (with_points (runs_in test p))
  unfolding path_filter
  path-runs p o q h e =
      let s = next-answered (opened startRoom o) (λ (u : Paths). next (filtered_from test room startRoom p u) (λ (r : Paths). Ok (closed r))) q e in
      let t = next-answered (filtered_from test room startRoom p s.0) (λ (r : Paths). Ok (closed r)) q s.2 in
      let z : s.0 ≡ held-open o.vertices [] o.starts = opened-state startRoom o s.1 in
      let A = from-runs p t.0 o.vertices [] o.starts h (subst (λ (x : Paths). filtered_from test room startRoom p x ≡ Ok t.0) z t.1) in
      subst (λ (x : Paths). Added o x (with_points (runs_in test p))) (same_answer t.2)
      (subst (λ (l : List (List Vector)). Added o (closed t.0) l) (onto-none (runs_in test p)) A)

  each-runs : (ps : List (List Vector)) (o q : Paths) → Low (length o.vertices) o.starts → each (path_filter test room startRoom) ps o ≡ Ok q
      → Added o q (with_points (runs_of test ps))
  unfolding each runs_of with_points
  each-runs [] o q h e =
      subst (λ (x : Paths). Added o x []) (same_answer e) (added_none o h)
  each-runs (p ∷ ps) o q h e =
      let s = next-answered (path_filter test room startRoom p o) (each (path_filter test room startRoom) ps) q e in
      let A = path-runs p o s.0 h s.1 in
      added_more o s.0 q (runs_in test p) (runs_of test ps) A (each-runs ps s.0 q A.low s.2)

pub stage-cuts : StageCuts
unfolding stage paths_of
stage-cuts test vs ss room startRoom q e = (each-runs test room startRoom (paths_of vs ss) no_paths q (omega arith) e).paths

-- ---- neighbours in a run were neighbours in its line
module _ (test : Vector → Result (Option Vector) Refusal) where
  -- what begins the first run is what the first point makes
  abbrev Begins : List Vector → List (List Vector) → Type 0
  Begins p [] = Unit {0}
  Begins p ([] ∷ rs) = Unit {0}
  Begins p ((y ∷ r) ∷ rs) = (b : Vector) × (rest : List Vector) × (p ≡ b ∷ rest) × (test b ≡ Ok (Some y))

  begins-cut : (v : Vector) (p : List Vector) (t : Result (Option Vector) Refusal) (rs : List (List Vector)) → test v ≡ t → Begins (v ∷ p) (cut_at t rs)
  unfolding cut_at
  begins-cut v p (Ok (Some w)) [] e = (v, p, refl, e)
  begins-cut v p (Ok (Some w)) (r ∷ rs) e = (v, p, refl, e)
  begins-cut v p (Ok None) rs e = tt
  begins-cut v p (Err k) rs e = tt

  begins : (p : List Vector) → Begins p (runs_in test p)
  unfolding runs_in
  begins [] = tt
  begins (v ∷ p) = begins-cut v p (test v) (runs_in test p) refl

  record Pair (p : List Vector) (x y : Vector) : Type 0 where
    from : Vector
    to : Vector
    neighbours : After p from to
    from_kept : test from ≡ Ok (Some x)
    to_kept : test to ≡ Ok (Some y)

  further : (v : Vector) (p : List Vector) (x y : Vector) → Pair p x y → Pair (v ∷ p) x y
  further v [] x y P = absurd P.neighbours
  further v (u ∷ p) x y P = record { from = P.from; to = P.to; neighbours = inr P.neighbours; from_kept = P.from_kept; to_kept = P.to_kept }

  first-pair : (v : Vector) (p : List Vector) (w x y z : Vector) (r : List Vector) (rs : List (List Vector)) → test v ≡ Ok (Some w) → Begins p ((z ∷ r) ∷ rs) → w ≡ x → z ≡ y → Pair (v ∷ p) x y
  first-pair v p w x y z r rs e B ex ey =
      subst (λ (l : List Vector). Pair (v ∷ l) x y) (sym B.2)
      (record { from = v; to = B.0; neighbours = inl (refl, refl); from_kept = e ∙ ap (λ (u : Vector). Ok (Some u)) ex; to_kept = B.3 ∙ ap (λ (u : Vector). Ok (Some u)) ey })

  module _ (v : Vector) (p : List Vector) (x y : Vector) where
    in_cut : (t : Result (Option Vector) Refusal) (rs : List (List Vector)) → test v ≡ t → Begins p rs → ((r : List Vector) → Member r rs → After r x y → Pair p x y)
        → (r : List Vector) → Member r (cut_at t rs) → After r x y → Pair (v ∷ p) x y
    unfolding cut_at
    in_cut (Ok (Some w)) [] e B rest r (inl q) a = absurd (subst (λ (l : List Vector). After l x y) (sym q) a)
    in_cut (Ok (Some w)) [] e B rest r (inr m) a = absurd m
    in_cut (Ok (Some w)) (s ∷ rs) e B rest r (inl q) a = head s B rest (subst (λ (l : List Vector). After l x y) (sym q) a)
      where
        head : (s : List Vector) → Begins p (s ∷ rs) → ((r : List Vector) → Member r (s ∷ rs) → After r x y → Pair p x y) → After (w ∷ s) x y → Pair (v ∷ p) x y
        head [] B rest a = absurd a
        head (z ∷ s) B rest (inl k) = first-pair v p w x y z s rs e B k.0 k.1
        head (z ∷ s) B rest (inr a) = further v p x y (rest (z ∷ s) (inl refl) a)
    in_cut (Ok (Some w)) (s ∷ rs) e B rest r (inr m) a = further v p x y (rest r (inr m) a)
    in_cut (Ok None) rs e B rest r (inl q) a = absurd (subst (λ (l : List Vector). After l x y) (sym q) a)
    in_cut (Ok None) rs e B rest r (inr m) a = further v p x y (rest r m a)
    in_cut (Err k) rs e B rest r (inl q) a = absurd (subst (λ (l : List Vector). After l x y) (sym q) a)
    in_cut (Err k) rs e B rest r (inr m) a = further v p x y (rest r m a)

  in-run : (p r : List Vector) (x y : Vector) → Member r (runs_in test p) → After r x y → Pair p x y
  unfolding runs_in
  in-run [] r x y (inl q) a = absurd (subst (λ (l : List Vector). After l x y) (sym q) a)
  in-run [] r x y (inr m) a = absurd m
  in-run (v ∷ p) r x y m a = in_cut v p x y (test v) (runs_in test p) refl (begins p) (λ s n b. in-run p s x y n b) r m a

  in-runs : (ps : List (List Vector)) (r : List Vector) (x y : Vector) → Member r (runs_of test ps) → After r x y → Unbroken test ps x y
  unfolding runs_of
  in-runs [] r x y m a = absurd m
  in-runs (p ∷ ps) r x y m a = elim (member-append r (runs_in test p) (runs_of test ps) m) [
    | inl n ↦ let P = in-run p r x y n a in record { line = p; among = inl refl; from = P.from; to = P.to; neighbours = P.neighbours; from_kept = P.from_kept; to_kept = P.to_kept }
    | inr n ↦ let U = in-runs ps r x y n a in
        record { line = U.line; among = inr U.among; from = U.from; to = U.to; neighbours = U.neighbours; from_kept = U.from_kept; to_kept = U.to_kept }
  ]

with-member : (ps : List (List Vector)) (p : List Vector) → Member p (with_points ps) → Member p ps
unfolding with_points
with-member [] p m = absurd m
with-member ([] ∷ ps) p m = inr (with-member ps p m)
with-member ((v ∷ r) ∷ ps) p (inl e) = inl e
with-member ((v ∷ r) ∷ ps) p (inr m) = inr (with-member ps p m)

pub stage-unbroken : StageUnbroken
stage-unbroken test vs ss room startRoom q e path among x y a =
    in-runs test (paths_of vs ss) path x y
    (with-member (runs_of test (paths_of vs ss)) path (subst (λ (l : List (List Vector)). Member path l) (stage-cuts test vs ss room startRoom q e) among)) a

pub never-across : NeverAcross
never-across test a b c x y dropped U = elim U.among [
  | inl e ↦ neither (subst (λ (l : List Vector). After l U.from U.to) (sym e) U.neighbours)
  | inr none ↦ absurd none
]
  where
    not-kept : (v w : Vector) → test v ≡ Ok (Some w) → b ≡ v → ⊥
    not-kept v w k e = dropped-kept w (sym dropped ∙ ap test e ∙ k)
      where
        dropped-kept : (w : Vector) → ◌≡◌ {A = Result (Option Vector) Refusal} (Ok None) (Ok (Some w)) → ⊥
        dropped-kept w q = let z : ◌≡◌ {A = ℕ} 0 1 = cc in absurd (omega arith)

    neither : After (a ∷ b ∷ c ∷ []) U.from U.to → ⊥
    neither (inl n) = not-kept U.to y U.to_kept n.1
    neither (inr (inl n)) = not-kept U.from x U.from_kept n.0
    neither (inr (inr n)) = absurd n
