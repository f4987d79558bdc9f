-- What needs no more halvings than the limit is chopped alike with any larger one: each segment, path and stage, and the public call. Assumes nothing.
use mathlib.Core.Path.{◌≡◌, refl, ap, ◌∙◌}
use mathlib.Core.Bool.{Bool, true, false, cond, ◌&&◌, ◌||◌, and-eq-true_iff}
use mathlib.Core.List.{List, [], ◌∷◌}
use Prim.Native.Nat.{ℕ, zero, suc, ◌+◌, ◌%◌}
use native.Mathlib.Nat.{add-zero, add-suc}
use lib.ListN.{length, take, drop}
use lib.Seq.{slice}
use lib.Dec.{T, eqb}
use lib.Ieee.Bits.{is_true}
use lib.Ieee.Fits.{and_l, and_r}
use Rattle.geometry.specs.Limits.{Within}
use Rattle.geometry.specs.declared.vector.Vector.{Vector}
use Rattle.rows.specs.Starts.{next_start, good_starts}
use Rattle.refusals.specs.declared.Refusal.TheVariants.{Lengths, Parts, View as BadView, Point}
use Rattle.limits.specs.Limits.{within_point}
use Rattle.limits.proofs.Limits.{within-point}
use Rattle.paths.specs.Answers.{next}
use Rattle.paths.specs.Paths.{Paths, paths_with, push, opened, closed, one_path, paths_of, each, no_paths, stage}
use Rattle.paths.specs.Ends.{places, all_points}
use Rattle.paths.specs.Judged.{points_ok, handed_over, paths_judged, unless}
use Rattle.view.specs.Views.{view_ok, args_of}
use Rattle.view.specs.declared.RenderArgs.{RenderArgs}
use Rattle.path_chop.specs.declared.Screen.{Screen}
use Rattle.path_chop.specs.declared.Spot.{Spot}
use Rattle.path_chop.specs.Chop.{screen_of, spot_of, middle_of, stops, push_or, subdivide, most_halvings, chop_from, path_chop, chop_upto, call_upto, chop_paths}
use Rattle.theorem_halvings.specs.Halvings.{needs_at_most}
use Rattle.theorem_halvings.specs.Unlimited.{ChopUnlimited, CallUnlimited}
use Rattle.theorem_halvings.proofs.Nearness.{at-most-37}
use Rattle.std.specs.Prelude.{Err, Ok, Result, ⊤}
use Rattle.refusals.specs.declared.Refusal.{Refusal}

-- ---- a segment that needs at most n halvings is chopped alike with any most_halvings from n on
pub next-same : {A B : Type 0} (r : Result A Refusal) (f g : A → Result B Refusal) → ((x : A) → f x ≡ g x) → next r f ≡ next r g
next-same (Ok x) f g h = h x
next-same (Err k) f g h = refl

segment-same : (s : Screen) (room n k : ℕ) (a b : Spot) (vs : List Vector) → T (needs_at_most n s a b) → subdivide s room (k + n) a b vs ≡ subdivide s room n a b vs
unfolding subdivide push_or needs_at_most
segment-same s room zero k a b vs h = rw (add-zero k) (go k)
  where
    stopped : stops s a b ≡ true
    stopped = is_true (stops s a b) h

    go : (k : ℕ) → subdivide s room k a b vs ≡ push room vs b.at
    go zero = refl
    go (suc k) = rw stopped
segment-same s room (suc n) k a b vs h =
    let m = middle_of s a b in
    rw (add-suc k n) (go (stops s a b) m (segment-same s room n k a m vs) (segment-same s room n k m b) h)
  where
    go : (t : Bool) (m : Spot) → (T (needs_at_most n s a m) → subdivide s room (k + n) a m vs ≡ subdivide s room n a m vs)
        → ((us : List Vector) → T (needs_at_most n s m b) → subdivide s room (k + n) m b us ≡ subdivide s room n m b us)
        → T (t || (needs_at_most n s a m && needs_at_most n s m b))
        → push_or (λ (us : List Vector). next (subdivide s room (k + n) a m us) (subdivide s room (k + n) m b)) room b.at vs t
        ≡ push_or (λ (us : List Vector). next (subdivide s room n a m us) (subdivide s room n m b)) room b.at vs t
    go true m i j h = refl
    go false m i j h =
        rw (i (and_l (needs_at_most n s a m) (needs_at_most n s m b) h))
        (next-same (subdivide s room n a m vs) (subdivide s room (k + n) m b) (subdivide s room n m b) (λ (us : List Vector). j us (and_r (needs_at_most n s a m) (needs_at_most n s m b) h)))

-- ---- points that passed number 9, a part of them too
ok-drop : (n : ℕ) (vs : List Vector) → points_ok vs ≡ true → points_ok (drop n vs) ≡ true
unfolding points_ok
ok-drop zero vs h = h
ok-drop (suc n) [] h = h
ok-drop (suc n) (v ∷ vs) h = ok-drop n vs ((and-eq-true_iff (within_point v) (points_ok vs)).0 h).1

ok-take : (n : ℕ) (vs : List Vector) → points_ok vs ≡ true → points_ok (take n vs) ≡ true
unfolding points_ok
ok-take zero vs h = refl
ok-take (suc n) [] h = refl
ok-take (suc n) (v ∷ vs) h =
    let w = (and-eq-true_iff (within_point v) (points_ok vs)).0 h in
    (and-eq-true_iff (within_point v) (points_ok (take n vs))).1 (w.0, ok-take n vs w.1)

-- ---- so with any larger most_halvings each answer is the same
module _ (k : ℕ) (s : Screen) (room : ℕ) where
  from-same : (p : Vector) (ps vs : List Vector) → Within p → points_ok ps ≡ true → chop_from (k + most_halvings) s room (spot_of s p) ps vs ≡ chop_from most_halvings s room (spot_of s p) ps vs
  unfolding chop_from points_ok
  from-same p [] vs h e = refl
  from-same p (q ∷ ps) vs h e =
      let w = (and-eq-true_iff (within_point q) (points_ok ps)).0 e in
      let i = within-point q w.0 in
      let a = spot_of s p in
      let b = spot_of s q in
      rw (segment-same s room most_halvings k a b vs (at-most-37 s p q h i))
      (next-same (subdivide s room most_halvings a b vs) (chop_from (k + most_halvings) s room b ps) (chop_from most_halvings s room b ps) (λ (us : List Vector). from-same q ps us i w.1))

  path-same : (ps vs : List Vector) → points_ok ps ≡ true → path_chop (k + most_halvings) s room ps vs ≡ path_chop most_halvings s room ps vs
  unfolding path_chop points_ok
  path-same [] vs e = refl
  path-same (p ∷ ps) vs e =
      let w = (and-eq-true_iff (within_point p) (points_ok ps)).0 e in
      next-same (push room vs p) (chop_from (k + most_halvings) s room (spot_of s p) ps) (chop_from most_halvings s room (spot_of s p) ps) (λ (us : List Vector). from-same p ps us (within-point p w.0) w.1)

  one_same : (startRoom : ℕ) (p : List Vector) (out : Paths) → points_ok p ≡ true → one_path (path_chop (k + most_halvings) s) room startRoom p out ≡ one_path (path_chop most_halvings s) room startRoom p out
  unfolding one_path
  one_same startRoom p out e =
      next-same (opened startRoom out) (λ (o : Paths). then o (path_chop (k + most_halvings) s room p o.vertices)) (λ (o : Paths). then o (path_chop most_halvings s room p o.vertices))
      (λ (o : Paths). ap (then o) (path-same p o.vertices e))
    where
      then : Paths → Result (List Vector) Refusal → Result Paths Refusal
      then o r = next r (λ (vs : List Vector). Ok (closed (paths_with vs o.starts)))

  each_same : (startRoom : ℕ) (vs : List Vector) (ss : List ℕ) (out : Paths) → points_ok vs ≡ true
      → each (one_path (path_chop (k + most_halvings) s) room startRoom) (paths_of vs ss) out ≡ each (one_path (path_chop most_halvings s) room startRoom) (paths_of vs ss) out
  unfolding each paths_of
  each_same startRoom vs [] out e = refl
  each_same startRoom vs (i ∷ ss) out e =
      let p = slice i (next_start (length vs) ss) vs in
      let f = one_path (path_chop (k + most_halvings) s) room startRoom in
      let g = one_path (path_chop most_halvings s) room startRoom in
      ap (λ (r : Result Paths Refusal). next r (each f (paths_of vs ss))) (one_same startRoom p out (ok-drop i (take (next_start (length vs) ss) vs) (ok-take (next_start (length vs) ss) vs e)))
      ∙ next-same (g p out) (each f (paths_of vs ss)) (each g (paths_of vs ss)) (λ (o : Paths). each_same startRoom vs ss o e)

-- the chop of a draw and of a cut, whose points have passed number 9
pub chop-unlimited : ChopUnlimited
unfolding stage
chop-unlimited k a vs ss room startRoom e = each_same k (screen_of a) room startRoom vs ss no_paths e

none-same : (k : ℕ) (a : RenderArgs) (vs : List Vector) (room startRoom : ℕ) → chop_upto (k + most_halvings) a vs [] room startRoom ≡ chop_paths a vs [] room startRoom
unfolding stage paths_of each
none-same k a vs room startRoom = refl

-- the public call, on any input
pub call-unlimited : CallUnlimited
unfolding call_upto paths_judged handed_over unless
call-unlimited k v xs ss room startRoom = go ss (eqb (length xs % 3) 0) (good_starts (places xs) ss) (view_ok v) (points_ok (handed_over xs ss)) refl
  where
    judge : Bool → Bool → Bool → Bool → Result ⊤ Refusal
    judge l g f o = cond l (cond g (cond f (cond o (Ok tt) (Err Point)) (Err BadView)) (Err Parts)) (Err Lengths)

    go : (ss : List ℕ) (l g f o : Bool) → points_ok (handed_over xs ss) ≡ o
        → unless (judge l g f o) (chop_upto (k + most_halvings) (args_of v) (all_points xs) ss room startRoom) ≡ unless (judge l g f o) (chop_paths (args_of v) (all_points xs) ss room startRoom)
    go ss false g f o e = refl
    go ss true false f o e = refl
    go ss true true false o e = refl
    go ss true true true false e = refl
    go [] true true true true e = none-same k (args_of v) (all_points xs) room startRoom
    go (s ∷ ss) true true true true e = chop-unlimited k (args_of v) (all_points xs) (s ∷ ss) room startRoom e
