-- How the tallies are made: the points of a path, a path, and path by path. Assumes nothing.
use mathlib.Core.Path.{◌≡◌, refl, sym, ap, ◌∙◌, subst}
use mathlib.Core.Bool.{Bool, true, false, cond}
use mathlib.Core.List.{List, [], ◌∷◌}
use Prim.Native.Nat.{ℕ, ◌+◌, ◌-◌, ◌*◌, ◌≤◌, ◌<◌}
use native.Mathlib.Numerals.{add-one}
use native.Mathlib.Omega.{arith}
use borrow.Author.Tests.{ltb-true, lt-ltb, le-ltb, leb-true, le-leb, lt-leb}
use lib.Dec.{ltb, leb}
use lib.ListN.{length, drop, drop_of_length-le}
use lib.Seq.{slice, slice_empty, drop-cons}
use lib.Ieee.{Float}
use Rattle.geometry.specs.declared.vector.Vector.{Vector}
use Rattle.refusals.specs.declared.Refusal.{Refusal}
use Rattle.refusals.specs.declared.Refusal.TheVariants.{Room}
use Rattle.rows.specs.Rows.{row}
use Rattle.rows.specs.Points.{point_of}
use Rattle.paths.specs.Paths.{paths_of}
use Rattle.paths.specs.Ends.{places, all_points}
use Rattle.paths.specs.Ranges.{range_of}
use Rattle.paths.specs.declared.Range.{Range}
use Rattle.paths.proofs.Adding.{same_answer}
use Rattle.paths.proofs.Parts.{part-cons, span-slice}
use Rattle.draw_tally.specs.Tallies.{taken, paths_left, tallied, tally_then, tallied_from, more, shut, path_tally, filter_tally, counts_then, each_tally}
use Rattle.std.specs.Prelude.{Err, None, Ok, Option, Result, Some}

-- ---- equal counts are equal one by one
two-alike : {n b a c : ℕ} → ◌≡◌ {A = Result (ℕ × ℕ) Refusal} (Ok (n, b)) (Ok (a, c)) → (n ≡ a) × (b ≡ c)
two-alike e = let t = same_answer e in (ap (λ (x : ℕ × ℕ). x.0) t, ap (λ (x : ℕ × ℕ). x.1) t)

three-alike : {n b o a c s : ℕ} → ◌≡◌ {A = Result (ℕ × ℕ × ℕ) Refusal} (Ok (n, b, o)) (Ok (a, c, s)) → (n ≡ a) × (b ≡ c)
three-alike e = let t = same_answer e in (ap (λ (x : ℕ × ℕ × ℕ). x.0) t, ap (λ (x : ℕ × ℕ × ℕ). x.1) t)

-- ---- what is told has its places
pub record Within (room startRoom n b : ℕ) : Type 0 where
  pub points : n ≤ room
  pub before : b < startRoom

taken-told : (room n : ℕ) (t : Result (ℕ × ℕ × ℕ) Refusal) {a c o : ℕ} → taken room n t ≡ Ok (a, c, o) → (n < room) × (t ≡ Ok (a, c, o))
unfolding taken
taken-told room n t {a} {c} {o} e = by (ltb n room) refl e
  where
    by : (x : Bool) → ltb n room ≡ x → cond x t (Err Room) ≡ Ok (a, c, o) → (n < room) × (t ≡ Ok (a, c, o))
    by true q f = (ltb-true n room q, f)
    by false q f = let z : ◌≡◌ {A = ℕ} 0 1 = cc in absurd (omega arith)

module _ (room startRoom : ℕ) where
  pub step-within : (x : Result (Option Vector) Refusal) (n b o : ℕ) {a c s : ℕ} → Within room startRoom n b → tallied room startRoom x n b o ≡ Ok (a, c, s) → Within room startRoom a c
  unfolding tallied
  step-within (Ok (Some v)) n b o {a} {c} {s} w e =
      let k = taken-told room n (Ok (n + 1, b, o)) e in
      let q = three-alike k.1 in
      record { points = omega (arith, k.0, q.0); before = omega (arith, w.before, q.1) }
  step-within (Ok None) n b o {a} {c} {s} w e =
      let k = taken-told startRoom (paths_left n b o) (Ok (n, paths_left n b o, n)) e in
      let q = three-alike k.1 in
      record { points = omega (arith, w.points, q.0); before = omega (arith, k.0, q.1) }
  step-within (Err k) n b o w e = let z : ◌≡◌ {A = ℕ} 0 1 = cc in absurd (omega arith)

  pub from_within : (test : Vector → Result (Option Vector) Refusal) (vs : List Vector) (n b o : ℕ) {a c s : ℕ} → Within room startRoom n b → tallied_from test room startRoom vs n b o ≡ Ok (a, c, s) → Within room startRoom a c
  unfolding tallied_from
  from_within test [] n b o {a} {c} {s} w e =
      let q = three-alike e in
      record { points = omega (arith, w.points, q.0); before = omega (arith, w.before, q.1) }
  from_within test (v ∷ vs) n b o {a} {c} {s} w e = by (tallied room startRoom (test v) n b o) refl e (λ i j k q f. from_within test vs i j k q f)
    where
      by : (t : Result (ℕ × ℕ × ℕ) Refusal) → tallied room startRoom (test v) n b o ≡ t → tally_then t (tallied_from test room startRoom vs) ≡ Ok (a, c, s)
          → ((i j k : ℕ) → Within room startRoom i j → tallied_from test room startRoom vs i j k ≡ Ok (a, c, s) → Within room startRoom a c) → Within room startRoom a c
      by (Ok (i, j, k)) q f h = h i j k (step-within (test v) n b o w q) f
      by (Err k) q f h = let z : ◌≡◌ {A = ℕ} 0 1 = cc in absurd (omega arith)

-- ---- point by point
module _ (test : Vector → Result (Option Vector) Refusal) (room startRoom : ℕ) (path : List Float) (from end n₀ b₀ o₀ : ℕ) where
  abbrev whole-path : Result (ℕ × ℕ × ℕ) Refusal
  whole-path = tallied_from test room startRoom (slice from end (all_points path)) n₀ b₀ o₀

  pub record Tallying (i n b o : ℕ) : Type 0 where
    pub upto : i ≤ end
    pub inside : end * 3 ≤ length path
    pub within : Within room startRoom n b
    pub rest : tallied_from test room startRoom (slice i end (all_points path)) n b o ≡ whole-path

  pub tallying-start : from ≤ end → end * 3 ≤ length path → n₀ ≤ room → b₀ < startRoom → Tallying from n₀ b₀ o₀
  tallying-start h k f g = record { upto = h; inside = k; within = record { points = f; before = g }; rest = refl }

  module _ (i n b o : ℕ) (h : Tallying i n b o) where
    module _ (l : i < end) (v : Vector) (t : Result (Option Vector) Refusal) (ev : v ≡ point_of (row 3 i path)) (et : t ≡ test v) {r : Result (ℕ × ℕ × ℕ) Refusal} (er : r ≡ tallied room startRoom t n b o) where
      one_on : whole-path ≡ tally_then r (tallied_from test room startRoom (slice (i + 1) end (all_points path)))
      unfolding tallied_from
      one_on = sym h.rest ∙ rw (part-cons path i end h.inside v l ev, ← et, ← er)

      pub tallying-turn : {a c s : ℕ} → r ≡ Ok (a, c, s) → Tallying (i + 1) a c s
      tallying-turn {a} {c} {s} q = record {
        upto = omega arith;
        inside = h.inside;
        within = step-within room startRoom t n b o h.within (sym er ∙ q);
        rest = sym (one_on ∙ ap (λ (x : Result (ℕ × ℕ × ℕ) Refusal). tally_then x (tallied_from test room startRoom (slice (i + 1) end (all_points path)))) q);
      }

      pub tallying-refused : {k : Refusal} → r ≡ Err k → Err k ≡ whole-path
      tallying-refused q = sym (one_on ∙ ap (λ (x : Result (ℕ × ℕ × ℕ) Refusal). tally_then x (tallied_from test room startRoom (slice (i + 1) end (all_points path)))) q)

    pub tallying-end : end ≤ i → Ok (n, b, o) ≡ whole-path
    unfolding tallied_from
    tallying-end l = let e : i ≡ end = omega (arith, h.upto) in sym (rw (e, slice_empty end (all_points path))) ∙ h.rest

-- ---- a path: each way out
module _ (work : ℕ → ℕ → ℕ → Result (ℕ × ℕ × ℕ) Refusal) (startRoom n m : ℕ) where
  pub path-full : startRoom ≤ m → Err Room ≡ path_tally work startRoom n m
  unfolding path_tally taken
  path-full h = rw (le-ltb m startRoom h)

  module _ (l : m < startRoom) where
    path-on : path_tally work startRoom n m ≡ shut (work n m n)
    unfolding path_tally taken
    path-on = rw (lt-ltb m startRoom l)

    module _ {t : Result (ℕ × ℕ × ℕ) Refusal} (e : t ≡ work n m n) where
      pub path-refused : {k : Refusal} → t ≡ Err k → Err k ≡ path_tally work startRoom n m
      path-refused h = sym (path-on ∙ ap shut (sym e ∙ h))

      pub path-done : {a b o z : ℕ} → t ≡ Ok (a, b, o) → z ≡ paths_left a b o → Ok (a, z) ≡ path_tally work startRoom n m
      path-done {a} h q = let pair : ℕ → Result (ℕ × ℕ) Refusal = λ y. Ok (a, y) in ap pair q ∙ sym (path-on ∙ ap shut (sym e ∙ h))

-- k points more
more-full : (room k n b o : ℕ) → room - n < k → Err Room ≡ more room k n b o
unfolding more
more-full room k n b o h = rw (lt-leb k (room - n) h)

more-fits : (room k n b o : ℕ) → k ≤ room - n → Ok (n + k, b, o) ≡ more room k n b o
unfolding more
more-fits room k n b o h = rw (le-leb k (room - n) h)

-- no more points than there is room for, once the path is closed
shut-points : (t : Result (ℕ × ℕ × ℕ) Refusal) (room : ℕ) {a c : ℕ} → ((n b o : ℕ) → t ≡ Ok (n, b, o) → n ≤ room) → shut t ≡ Ok (a, c) → a ≤ room
shut-points (Ok (n, b, o)) room h e = omega (arith, h n b o refl, (two-alike e).0)
shut-points (Err k) room h e = let z : ◌≡◌ {A = ℕ} 0 1 = cc in absurd (omega arith)

path-points : (work : ℕ → ℕ → ℕ → Result (ℕ × ℕ × ℕ) Refusal) (room startRoom n m : ℕ) → (m < startRoom → (a b o : ℕ) → work n m n ≡ Ok (a, b, o) → a ≤ room) → {a c : ℕ} → path_tally work startRoom n m ≡ Ok (a, c) → a ≤ room
unfolding path_tally taken
path-points work room startRoom n m h {a} {c} e = by (ltb m startRoom) refl e
  where
    by : (x : Bool) → ltb m startRoom ≡ x → shut (tally_then (cond x (Ok (n, m, n)) (Err Room)) work) ≡ Ok (a, c) → a ≤ room
    by true q f = shut-points (work n m n) room (h (ltb-true m startRoom q)) f
    by false q f = let z : ◌≡◌ {A = ℕ} 0 1 = cc in absurd (omega arith)

more-points : (room k n b o : ℕ) → n ≤ room → {a c s : ℕ} → more room k n b o ≡ Ok (a, c, s) → a ≤ room
unfolding more
more-points room k n b o h {a} {c} {s} e = by (leb k (room - n)) refl e
  where
    by : (x : Bool) → leb k (room - n) ≡ x → cond {A = Result (ℕ × ℕ × ℕ) Refusal} x (Ok (n + k, b, o)) (Err Room) ≡ Ok (a, c, s) → a ≤ room
    by true q f = omega (arith, leb-true k (room - n) q, (three-alike f).0)
    by false q f = let z : ◌≡◌ {A = ℕ} 0 1 = cc in absurd (omega arith)

pub filter-points : (test : Vector → Result (Option Vector) Refusal) (room startRoom : ℕ) (p : List Vector) (n m : ℕ) → n ≤ room → {a c : ℕ} → filter_tally test room startRoom p n m ≡ Ok (a, c) → a ≤ room
filter-points test room startRoom p n m h = path-points (tallied_from test room startRoom p) room startRoom n m (λ l a b o e. (from_within room startRoom test p n m n (record { points = h; before = l }) e).points)

pub added-points : (k room startRoom n m : ℕ) → n ≤ room → {a c : ℕ} → path_tally (more room k) startRoom n m ≡ Ok (a, c) → a ≤ room
added-points k room startRoom n m h = path-points (more room k) room startRoom n m (λ l a b o e. more-points room k n m n h e)

-- k points are added, which are as many as are to be
module _ (room startRoom n m : ℕ) {k j : ℕ} (is : k ≡ j) (l : m < startRoom) where
  pub added_full : room - n < k → Err Room ≡ path_tally (more room j) startRoom n m
  added_full h = subst (λ (i : ℕ). Err Room ≡ path_tally (more room i) startRoom n m) is (path-refused (more room k) startRoom n m l (more-full room k n m n h) refl)

  pub added : {z : ℕ} → k ≤ room - n → z ≡ paths_left (n + k) m n → Ok (n + k, z) ≡ path_tally (more room j) startRoom n m
  added {z} h e = subst (λ (i : ℕ). Ok (n + k, z) ≡ path_tally (more room i) startRoom n m) is (path-done (more room k) startRoom n m l (more-fits room k n m n h) refl e)

-- ---- path by path: what is left to do answers as the whole does
module _ (g : List Vector → ℕ → ℕ → Result (ℕ × ℕ) Refusal) (room : ℕ) (path : List Float) (starts : List ℕ) where
  abbrev whole-stage : Result (ℕ × ℕ) Refusal
  whole-stage = each_tally g (paths_of (all_points path) starts) 0 0

  pub record Counting (i n m : ℕ) : Type 0 where
    pub upto : i ≤ length starts
    pub fits : n ≤ room
    pub rest : each_tally g (paths_of (all_points path) (drop i starts)) n m ≡ whole-stage

  pub counting-start : Counting 0 0 0
  counting-start = record { upto = omega arith; fits = omega arith; rest = refl }

  module _ (i n m : ℕ) (h : Counting i n m) where
    module _ (l : i < length starts) (p : Range) (is : p ≡ range_of (places path) starts i) {r : Result (ℕ × ℕ) Refusal} (er : r ≡ g (slice p.from p.end (all_points path)) n m) where
      path-next : whole-stage ≡ counts_then r (each_tally g (paths_of (all_points path) (drop (i + 1) starts)))
      unfolding each_tally paths_of
      path-next = sym h.rest ∙ rw (drop-cons starts i 0 l, er, span-slice path starts i p is, add-one)

      pub counting-turn : {a b : ℕ} → (g (slice p.from p.end (all_points path)) n m ≡ Ok (a, b) → a ≤ room) → r ≡ Ok (a, b) → Counting (i + 1) a b
      counting-turn f q = record { upto = omega arith; fits = f (sym er ∙ q); rest = sym (path-next ∙ ap (λ (c : Result (ℕ × ℕ) Refusal). counts_then c (each_tally g (paths_of (all_points path) (drop (i + 1) starts)))) q) }

      pub counting-refused : {k : Refusal} → r ≡ Err k → Err k ≡ whole-stage
      counting-refused q = sym (path-next ∙ ap (λ (c : Result (ℕ × ℕ) Refusal). counts_then c (each_tally g (paths_of (all_points path) (drop (i + 1) starts)))) q)

    pub counting-end : length starts ≤ i → Ok (n, m) ≡ whole-stage
    unfolding each_tally paths_of
    counting-end l = sym (rw (drop_of_length-le starts {i = i} l)) ∙ h.rest
