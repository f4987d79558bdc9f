-- The tallies are the counts of the stages. Assumes nothing.
use mathlib.Core.Path.{◌≡◌, refl, ap, ap₂, ◌∙◌}
use mathlib.Core.Logic.{◌⊎◌, inl, inr}
use mathlib.Core.Bool.{Bool, true, false, cond}
use mathlib.Core.List.{List, [], ◌∷◌, ◌++◌}
use Prim.Native.Nat.{ℕ, ◌+◌, ◌-◌, ◌≤◌, ◌<◌}
use native.Mathlib.Omega.{arith}
use borrow.Author.Tests.{lt-ltb, le-ltb, le-leb, leb-true, leb-false}
use lib.ListN.{length, get_or, length-append}
use lib.Seq.{length-take-le, get_or_at}
use lib.Dec.{ltb, leb, eqb}
use lib.Ieee.{Float}
use Rattle.floats.proofs.Order.{le-or-lt}
use Rattle.geometry.specs.declared.vector.Vector.{Vector}
use Rattle.refusals.specs.declared.Refusal.{Refusal}
use Rattle.refusals.specs.declared.Refusal.TheVariants.{Room}
use Rattle.paths.specs.Answers.{next}
use Rattle.paths.specs.Paths.{Paths, paths_with, no_paths, push, push_all, opened, front, closed_starts, closed, one_path, each, stage, paths_of}
use Rattle.paths.specs.Ends.{counted}
use Rattle.paths.proofs.Runs.{extend_fits, extend-full}
use Rattle.path_filter.specs.Filter.{stepped, filtered_from, path_filter, filter_paths}
use Rattle.path_rdp.specs.Rdp.{simplified}
use Rattle.path_simplify.specs.Simplify.{path_simplify, simplify_paths}
use Rattle.draw_tally.specs.Tallies.{taken, paths_left, tallied, tally_then, tallied_from, more, shut, path_tally, filter_tally, simplify_tally, counts_then, each_tally}
use Rattle.std.specs.Prelude.{Err, None, Ok, Option, Result, Some}

-- ---- paths whose last one is open, and their tally
pub record Tells (p : Paths) (n b o : ℕ) : Type 0 where
  pub points : length p.vertices ≡ n
  pub starts : length p.starts ≡ b + 1
  pub from : get_or p.starts (length p.starts - 1) 0 ≡ o

pub data Told : Result Paths Refusal → Result (ℕ × ℕ × ℕ) Refusal → Type 0 where
  both : (p : Paths) (n b o : ℕ) → Tells p n b o → Told (Ok p) (Ok (n, b, o))
  none : (k : Refusal) → Told (Err k) (Err k)

last_snoc : (ss : List ℕ) (n : ℕ) → get_or (ss ++ (n ∷ [])) (length (ss ++ (n ∷ [])) - 1) 0 ≡ n
last_snoc ss n = let e : length (ss ++ (n ∷ [])) - 1 ≡ length ss = rw (length-append ss (n ∷ [])) (omega arith) in rw e (get_or_at ss n [] 0 (length ss) refl)

-- a point is pushed
keep-told : (room : ℕ) (v : Vector) (p : Paths) (n b o : ℕ) → Tells p n b o
    → Told (next (push room p.vertices v) (λ (vs : List Vector). Ok (paths_with vs p.starts))) (taken room n (Ok (n + 1, b, o)))
unfolding push taken
keep-told room v p n b o T = rw T.points (by (ltb n room))
  where
    by : (t : Bool) → Told (next (cond t (Ok (p.vertices ++ (v ∷ []))) (Err Room)) (λ (vs : List Vector). Ok (paths_with vs p.starts))) (cond t (Ok (n + 1, b, o)) (Err Room))
    by true = both _ _ _ _ (record { points = length-append p.vertices (v ∷ []) ∙ ap (λ (i : ℕ). i + 1) T.points; starts = T.starts; from = T.from })
    by false = none Room

front_length : (ss : List ℕ) → length (front ss) ≡ length ss - 1
unfolding front
front_length ss = length-take-le (length ss - 1) ss (omega arith)

closed-points : (p : Paths) → length (closed p).vertices ≡ length p.vertices
unfolding closed
closed-points p = refl

-- the open path is closed: what is left of the starts
closed-left : (p : Paths) (n b o : ℕ) → Tells p n b o → length (closed p).starts ≡ paths_left n b o
unfolding closed closed_starts paths_left
closed-left p n b o T = rw (T.points, T.from, lt-ltb 0 (length p.starts) (omega (arith, T.starts))) (by (eqb o n))
  where
    by : (t : Bool) → length (cond t (front p.starts) p.starts) ≡ cond t b (b + 1)
    by true = front_length p.starts ∙ omega (arith, T.starts)
    by false = T.starts

drop-told : (startRoom : ℕ) (p : Paths) (n b o : ℕ) → Tells p n b o → Told (opened startRoom (closed p)) (taken startRoom (paths_left n b o) (Ok (n, paths_left n b o, n)))
unfolding opened push taken
drop-told startRoom p n b o T = rw (closed-left p n b o T) (by (ltb (paths_left n b o) startRoom))
  where
    by : (t : Bool) → Told (next (cond t (Ok ((closed p).starts ++ (length (closed p).vertices ∷ []))) (Err Room)) (λ (ss : List ℕ). Ok (paths_with (closed p).vertices ss))) (cond t (Ok (n, paths_left n b o, n)) (Err Room))
    by true = both _ _ _ _ (record { points = closed-points p ∙ T.points; starts = length-append (closed p).starts (length (closed p).vertices ∷ []) ∙ ap (λ (i : ℕ). i + 1) (closed-left p n b o T); from = last_snoc (closed p).starts (length (closed p).vertices) ∙ closed-points p ∙ T.points })
    by false = none Room

step-told : (room startRoom : ℕ) (x : Result (Option Vector) Refusal) (p : Paths) (n b o : ℕ) → Tells p n b o → Told (stepped room startRoom x p) (tallied room startRoom x n b o)
unfolding stepped tallied
step-told room startRoom (Ok (Some v)) p n b o T = keep-told room v p n b o T
step-told room startRoom (Ok None) p n b o T = drop-told startRoom p n b o T
step-told room startRoom (Err k) p n b o T = none k

next-told : (a : Result Paths Refusal) (t : Result (ℕ × ℕ × ℕ) Refusal) (f : Paths → Result Paths Refusal) (g : ℕ → ℕ → ℕ → Result (ℕ × ℕ × ℕ) Refusal) → Told a t → ((p : Paths) (n b o : ℕ) → Tells p n b o → Told (f p) (g n b o)) → Told (next a f) (tally_then t g)
next-told _ _ f g (both p n b o T) h = h p n b o T
next-told _ _ f g (none k) h = none k

from_told : (test : Vector → Result (Option Vector) Refusal) (room startRoom : ℕ) (vs : List Vector) (p : Paths) (n b o : ℕ) → Tells p n b o → Told (filtered_from test room startRoom vs p) (tallied_from test room startRoom vs n b o)
unfolding filtered_from tallied_from
from_told test room startRoom [] p n b o T = both p n b o T
from_told test room startRoom (v ∷ vs) p n b o T =
    next-told (stepped room startRoom (test v) p) (tallied room startRoom (test v) n b o) (filtered_from test room startRoom vs) (tallied_from test room startRoom vs) (step-told room startRoom (test v) p n b o T)
    (λ q i c j U. from_told test room startRoom vs q i c j U)

-- points are pushed one after the other
beyond : (room : ℕ) (ps : List Vector) (u : Vector) (us : List Vector) → room ≤ length ps → push_all room ps (u ∷ us) ≡ Err Room
unfolding push_all push
beyond room ps u us h = rw (le-ltb (length ps) room h)

no_room : (room : ℕ) (ps : List Vector) (u : Vector) (us : List Vector) → room - length ps < length (u ∷ us) → push_all room ps (u ∷ us) ≡ Err Room
no_room room ps u us h = by (le-or-lt room (length ps))
  where
    by : (room ≤ length ps) ⊎ (length ps < room) → push_all room ps (u ∷ us) ≡ Err Room
    by (inl q) = beyond room ps u us q
    by (inr q) = extend-full room ps (u ∷ us) (omega arith) (omega arith)

none-pushed : (room : ℕ) (ps : List Vector) → push_all room ps [] ≡ Ok ps
unfolding push_all
none-pushed room ps = refl

more-told : (room : ℕ) (us : List Vector) (p : Paths) (n b o : ℕ) → Tells p n b o
    → Told (next (push_all room p.vertices us) (λ (vs : List Vector). Ok (paths_with vs p.starts))) (more room (length us) n b o)
unfolding more
more-told room [] p n b o T = rw (none-pushed room p.vertices) (by (leb 0 (room - n)) (le-leb 0 (room - n) (omega arith)))
  where
    by : (t : Bool) → t ≡ true → Told (Ok (paths_with p.vertices p.starts)) (cond t (Ok (n + 0, b, o)) (Err Room))
    by true e = both (paths_with p.vertices p.starts) (n + 0) b o (record { points = T.points ∙ omega arith; starts = T.starts; from = T.from })
    by false e = let z : ◌≡◌ {A = ℕ} 0 1 = cc in absurd (omega arith)
more-told room (u ∷ us) p n b o T = by (leb (length (u ∷ us)) (room - n)) refl
  where
    by : (t : Bool) → leb (length (u ∷ us)) (room - n) ≡ t
        → Told (next (push_all room p.vertices (u ∷ us)) (λ (vs : List Vector). Ok (paths_with vs p.starts))) (cond t (Ok (n + length (u ∷ us), b, o)) (Err Room))
    by true e =
        rw (extend_fits room p.vertices (u ∷ us) (omega (arith, T.points, leb-true (length (u ∷ us)) (room - n) e)))
        (both (paths_with (p.vertices ++ (u ∷ us)) p.starts) (n + length (u ∷ us)) b o (record { points = length-append p.vertices (u ∷ us) ∙ ap (λ (i : ℕ). i + length (u ∷ us)) T.points; starts = T.starts; from = T.from }))
    by false e = rw (no_room room p.vertices u us (omega (arith, T.points, leb-false (length (u ∷ us)) (room - n) e))) (none Room)

-- ---- a path that is opened, worked and closed; between paths only the counts matter
begun-told : (startRoom : ℕ) (p : Paths) → Told (opened startRoom p) (taken startRoom (length p.starts) (Ok (length p.vertices, length p.starts, length p.vertices)))
unfolding opened push taken
begun-told startRoom p = by (ltb (length p.starts) startRoom)
  where
    by : (t : Bool) → Told (next (cond t (Ok (p.starts ++ (length p.vertices ∷ []))) (Err Room)) (λ (ss : List ℕ). Ok (paths_with p.vertices ss))) (cond t (Ok (length p.vertices, length p.starts, length p.vertices)) (Err Room))
    by true = both _ _ _ _ (record { points = refl; starts = length-append p.starts (length p.vertices ∷ []); from = last_snoc p.starts (length p.vertices) })
    by false = none Room

shut-told : (a : Result Paths Refusal) (t : Result (ℕ × ℕ × ℕ) Refusal) → Told a t → counted (next a (λ (q : Paths). Ok (closed q))) ≡ shut t
shut-told _ _ (both p n b o T) = ap₂ (λ (i j : ℕ). Ok (i, j)) (closed-points p ∙ T.points) (closed-left p n b o T)
shut-told _ _ (none k) = refl

-- whatever the work is, if its tally is told
module _ (startRoom : ℕ) (work : Paths → Result Paths Refusal) (tally : ℕ → ℕ → ℕ → Result (ℕ × ℕ × ℕ) Refusal) (tells : (p : Paths) (n b o : ℕ) → Tells p n b o → Told (work p) (tally n b o)) where
  path-told : (p : Paths) → counted (next (opened startRoom p) (λ (x : Paths). next (work x) (λ (q : Paths). Ok (closed q)))) ≡ path_tally tally startRoom (length p.vertices) (length p.starts)
  unfolding path_tally
  path-told p = by (opened startRoom p) (taken startRoom (length p.starts) (Ok (length p.vertices, length p.starts, length p.vertices))) (begun-told startRoom p)
    where
      by : (a : Result Paths Refusal) (t : Result (ℕ × ℕ × ℕ) Refusal) → Told a t → counted (next a (λ (x : Paths). next (work x) (λ (q : Paths). Ok (closed q)))) ≡ shut (tally_then t tally)
      by _ _ (both x n b o T) = shut-told (work x) (tally n b o) (tells x n b o T)
      by _ _ (none k) = refl

filter-told : (test : Vector → Result (Option Vector) Refusal) (room startRoom : ℕ) (vs : List Vector) (p : Paths) → counted (path_filter test room startRoom vs p) ≡ filter_tally test room startRoom vs (length p.vertices) (length p.starts)
unfolding path_filter
filter-told test room startRoom vs p = path-told startRoom (filtered_from test room startRoom vs) (tallied_from test room startRoom vs) (λ q n b o T. from_told test room startRoom vs q n b o T) p

-- work on the points of the open path alone
next-twice : (a : Result (List Vector) Refusal) (ss : List ℕ) → next a (λ (vs : List Vector). Ok (closed (paths_with vs ss))) ≡ next (next a (λ (vs : List Vector). Ok (paths_with vs ss))) (λ (q : Paths). Ok (closed q))
next-twice (Ok vs) ss = refl
next-twice (Err k) ss = refl

one-as : (work : ℕ → List Vector → List Vector → Result (List Vector) Refusal) (room startRoom : ℕ) (vs : List Vector) (p : Paths)
    → one_path work room startRoom vs p ≡ next (opened startRoom p) (λ (x : Paths). next (next (work room vs x.vertices) (λ (us : List Vector). Ok (paths_with us x.starts))) (λ (q : Paths). Ok (closed q)))
unfolding one_path
one-as work room startRoom vs p = by (opened startRoom p)
  where
    by : (a : Result Paths Refusal) → next a (λ (o : Paths). next (work room vs o.vertices) (λ (us : List Vector). Ok (closed (paths_with us o.starts))))
        ≡ next a (λ (x : Paths). next (next (work room vs x.vertices) (λ (us : List Vector). Ok (paths_with us x.starts))) (λ (q : Paths). Ok (closed q)))
    by (Ok o) = next-twice (work room vs o.vertices) o.starts
    by (Err k) = refl

simplify-told : (t : Float) (room startRoom : ℕ) (vs : List Vector) (p : Paths) → counted (one_path (path_simplify t) room startRoom vs p) ≡ simplify_tally t room startRoom vs (length p.vertices) (length p.starts)
simplify-told t room startRoom vs p =
    ap counted (one-as (path_simplify t) room startRoom vs p)
    ∙ path-told startRoom (λ (x : Paths). next (push_all room x.vertices (simplified t vs)) (λ (us : List Vector). Ok (paths_with us x.starts))) (more room (length (simplified t vs)))
    (λ q n b o T. more-told room (simplified t vs) q n b o T) p

-- ---- each path
module _ (f : List Vector → Paths → Result Paths Refusal) (g : List Vector → ℕ → ℕ → Result (ℕ × ℕ) Refusal) (tells : (vs : List Vector) (p : Paths) → counted (f vs p) ≡ g vs (length p.vertices) (length p.starts)) where
  each-told : (ps : List (List Vector)) (p : Paths) → counted (each f ps p) ≡ each_tally g ps (length p.vertices) (length p.starts)
  unfolding each each_tally
  each-told [] p = refl
  each-told (vs ∷ ps) p = by (f vs p) (g vs (length p.vertices) (length p.starts)) (tells vs p) (λ q. each-told ps q)
    where
      by : (a : Result Paths Refusal) (c : Result (ℕ × ℕ) Refusal) → counted a ≡ c → ((q : Paths) → counted (each f ps q) ≡ each_tally g ps (length q.vertices) (length q.starts)) → counted (next a (each f ps)) ≡ counts_then c (each_tally g ps)
      by (Ok q) c e h = h q ∙ ap (λ (x : Result (ℕ × ℕ) Refusal). counts_then x (each_tally g ps)) e
      by (Err k) c e h = ap (λ (x : Result (ℕ × ℕ) Refusal). counts_then x (each_tally g ps)) e

-- The counts of the filter's result and of simplification's are the tallies.
pub filtered-told : (test : Vector → Result (Option Vector) Refusal) (vs : List Vector) (ss : List ℕ) (room startRoom : ℕ) → counted (filter_paths test vs ss room startRoom) ≡ each_tally (filter_tally test room startRoom) (paths_of vs ss) 0 0
unfolding stage
filtered-told test vs ss room startRoom = each-told (path_filter test room startRoom) (filter_tally test room startRoom) (filter-told test room startRoom) (paths_of vs ss) no_paths

pub simplified-told : (t : Float) (vs : List Vector) (ss : List ℕ) (room startRoom : ℕ) → counted (simplify_paths t vs ss room startRoom) ≡ each_tally (simplify_tally t room startRoom) (paths_of vs ss) 0 0
unfolding stage
simplified-told t vs ss room startRoom = each-told (one_path (path_simplify t) room startRoom) (simplify_tally t room startRoom) (simplify-told t room startRoom) (paths_of vs ss) no_paths
