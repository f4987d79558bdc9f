-- What the verbs leave: starts that rise, and no more points and starts than there is room for. Assumes nothing.
use mathlib.Core.Path.{◌≡◌, refl, sym, ap, subst}
use mathlib.Core.Bool.{Bool, true, false, cond, ◌&&◌}
use mathlib.Core.List.{List, [], ◌∷◌, ◌++◌}
use Prim.Native.Nat.{ℕ, zero, suc, ◌-◌, ◌≤◌, ◌<◌}
use native.Mathlib.Nat.{not-suc-le-zero, le_of_suc-le-suc}
use native.Mathlib.Omega.{arith}
use borrow.Author.Tests.{le-leb}
use lib.Dec.{ltb, eqb}
use lib.ListN.{length, take, get_or, length-append, length-take}
use Rattle.geometry.specs.declared.vector.Vector.{Vector}
use Rattle.rows.specs.Starts.{next_start, rising}
use Rattle.paths.specs.Answers.{next}
use Rattle.paths.specs.Paths.{Paths, paths_with, no_paths, push, push_all, opened, closed_starts, closed, front, one_path, each}
use Rattle.paths.proofs.Adding.{same_answer, next-answered, push-answered, push-fits}
use Rattle.std.specs.Prelude.{Ok, Result}
use Rattle.refusals.specs.declared.Refusal.{Refusal}

-- ---- starts that rise among n points
abbrev Rises : ℕ → List ℕ → Type 0
Rises n [] = 0 ≤ n
Rises n (s ∷ ss) = (s ≤ next_start n ss) × Rises n ss

rises-rising : (n : ℕ) (ss : List ℕ) → Rises n ss → rising n ss ≡ true
unfolding rising
rises-rising n [] h = refl
rises-rising n (s ∷ ss) h = rw (le-leb s (next_start n ss) h.0, rises-rising n ss h.1)

rises_next : (n : ℕ) (ss : List ℕ) → Rises n ss → next_start n ss ≤ n
rises_next n [] h = omega arith
rises_next n (s ∷ ss) h = omega (arith, h.0, rises_next n ss h.1)

rises-low : (n : ℕ) (ss : List ℕ) → Rises n ss → (j : ℕ) → j < length ss → get_or ss j 0 ≤ n
rises-low n [] h j l = absurd (not-suc-le-zero l)
rises-low n (s ∷ ss) h zero l = rises_next n (s ∷ ss) h
rises-low n (s ∷ ss) h (suc j) l = rises-low n ss h.1 j (le_of_suc-le-suc l)

rises-more : (n m : ℕ) (ss : List ℕ) → n ≤ m → Rises n ss → Rises m ss
rises-more n m [] l h = omega arith
rises-more n m (s ∷ []) l h = (omega (arith, h.0), omega arith)
rises-more n m (s ∷ r ∷ ss) l h = (h.0, rises-more n m (r ∷ ss) l h.1)

rises-snoc : (n : ℕ) (ss : List ℕ) → Rises n ss → Rises n (ss ++ (n ∷ []))
rises-snoc n [] h = (omega arith, omega arith)
rises-snoc n (s ∷ []) h = (h.0, rises-snoc n [] h.1)
rises-snoc n (s ∷ r ∷ ss) h = (h.0, rises-snoc n (r ∷ ss) h.1)

rises-take : (k n : ℕ) (ss : List ℕ) → Rises n ss → Rises n (take k ss)
rises-take zero n ss h = omega arith
rises-take (suc k) n [] h = omega arith
rises-take (suc k) n (s ∷ ss) h = (by k ss h.0 (rises_next n ss h.1), rises-take k n ss h.1)
  where
    by : (k : ℕ) (ss : List ℕ) → s ≤ next_start n ss → next_start n ss ≤ n → s ≤ next_start n (take k ss)
    by zero ss a b = omega arith
    by (suc k) [] a b = a
    by (suc k) (r ∷ ss) a b = a

-- ---- paths in slices of so many places
pub record Laid (room startRoom : ℕ) (p : Paths) : Type 0 where
  rises : Rises (length p.vertices) p.starts
  pub points_fit : length p.vertices ≤ room
  pub starts_fit : length p.starts ≤ startRoom

pub laid-rising : {room startRoom : ℕ} {p : Paths} → Laid room startRoom p → rising (length p.vertices) p.starts ≡ true
laid-rising {p = p} h = rises-rising (length p.vertices) p.starts h.rises

-- no start is beyond the points
pub laid-low : {room startRoom : ℕ} {p : Paths} → Laid room startRoom p → (j : ℕ) → j < length p.starts → get_or p.starts j 0 ≤ length p.vertices
laid-low {p = p} h = rises-low (length p.vertices) p.starts h.rises

module _ {room startRoom : ℕ} where
  pub laid_none : Laid room startRoom no_paths
  laid_none = record { rises = omega arith; points_fit = omega arith; starts_fit = omega arith }

  pub opened-laid : (o q : Paths) → opened startRoom o ≡ Ok q → Laid room startRoom o → Laid room startRoom q
  unfolding opened
  opened-laid o q e h =
      let n = length o.vertices in
      let w = next-answered (push startRoom o.starts n) (λ (ss : List ℕ). Ok (paths_with o.vertices ss)) q e in
      let a = push-answered startRoom o.starts n w.0 w.1 in
      subst (Laid room startRoom) (same_answer w.2) (record { rises = subst (Rises n) (sym a) (rises-snoc n o.starts h.rises); points_fit = h.points_fit; starts_fit = push-fits startRoom o.starts n w.0 w.1 })

  pub closed-laid : (o : Paths) → Laid room startRoom o → Laid room startRoom (closed o)
  unfolding closed closed_starts front
  closed-laid o h = by (ltb 0 (length o.starts) && eqb (get_or o.starts (length o.starts - 1) 0) (length o.vertices))
    where
      by : (t : Bool) → Laid room startRoom (paths_with o.vertices (cond t (take (length o.starts - 1) o.starts) o.starts))
      by true = record { rises = rises-take (length o.starts - 1) (length o.vertices) o.starts h.rises; points_fit = h.points_fit; starts_fit = omega (arith, length-take (length o.starts - 1) o.starts, h.starts_fit) }
      by false = h

  -- a point, and points, more
  pub pushed-laid : (v : Vector) (o : Paths) (vs : List Vector) → push room o.vertices v ≡ Ok vs → Laid room startRoom o → Laid room startRoom (paths_with vs o.starts)
  pushed-laid v o vs e h =
      let k : length vs ≡ length (o.vertices ++ (v ∷ [])) = ap length (push-answered room o.vertices v vs e) in
      record { rises = rises-more (length o.vertices) (length vs) o.starts (omega (arith, k, length-append o.vertices (v ∷ []))) h.rises; points_fit = push-fits room o.vertices v vs e; starts_fit = h.starts_fit }

  pub extended-laid : (ws : List Vector) (o : Paths) (vs : List Vector) → push_all room o.vertices ws ≡ Ok vs → Laid room startRoom o → Laid room startRoom (paths_with vs o.starts)
  unfolding push_all
  extended-laid [] o vs e h = subst (λ (us : List Vector). Laid room startRoom (paths_with us o.starts)) (same_answer e) h
  extended-laid (v ∷ ws) o vs e h =
      let w = next-answered (push room o.vertices v) (λ (us : List Vector). push_all room us ws) vs e in
      extended-laid ws (paths_with w.0 o.starts) vs w.2 (pushed-laid v o w.0 w.1 h)

  -- as many other points
  pub moved-laid : (o : Paths) (vs : List Vector) → length vs ≡ length o.vertices → Laid room startRoom o → Laid room startRoom (paths_with vs o.starts)
  moved-laid o vs e h = record { rises = rw e h.rises; points_fit = omega (arith, e, h.points_fit); starts_fit = h.starts_fit }

  -- a path whose points are pushed one after the other
  pub one-laid : (made : List Vector → List Vector) (p : List Vector) (o q : Paths) → one_path (λ (r : ℕ) (p vs : List Vector). push_all r vs (made p)) room startRoom p o ≡ Ok q → Laid room startRoom o → Laid room startRoom q
  unfolding one_path
  one-laid made p o q e h =
      let a = next-answered (opened startRoom o) (λ (u : Paths). next (push_all room u.vertices (made p)) (λ (vs : List Vector). Ok (closed (paths_with vs u.starts)))) q e in
      let b = next-answered (push_all room a.0.vertices (made p)) (λ (vs : List Vector). Ok (closed (paths_with vs a.0.starts))) q a.2 in
      subst (Laid room startRoom) (same_answer b.2) (closed-laid (paths_with b.0 a.0.starts) (extended-laid (made p) a.0 b.0 b.1 (opened-laid o a.0 a.1 h)))

  -- all paths, by what each does
  pub each_laid : (f : List Vector → Paths → Result Paths Refusal) → ((p : List Vector) (o q : Paths) → f p o ≡ Ok q → Laid room startRoom o → Laid room startRoom q)
      → (ps : List (List Vector)) (o q : Paths) → each f ps o ≡ Ok q → Laid room startRoom o → Laid room startRoom q
  unfolding each
  each_laid f keeps [] o q e h = subst (Laid room startRoom) (same_answer e) h
  each_laid f keeps (p ∷ ps) o q e h =
      let w = next-answered (f p o) (each f ps) q e in
      each_laid f keeps ps w.0 q w.2 (keeps p o w.0 w.1 h)
