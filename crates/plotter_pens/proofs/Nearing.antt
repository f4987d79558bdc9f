-- No path that waits is nearer than the one picked, and none before it is as near; 15 exactly if nothing waits; the path is whole.
-- Assumes nothing.
use mathlib.Core.Path.{◌≡◌, refl, sym, ap, ◌∙◌, subst}
use mathlib.Core.Bool.{Bool, true, false, cond}
use mathlib.Core.List.{List}
use Prim.Native.Nat.{ℕ, zero, suc, ◌+◌, ◌-◌, ◌<◌, ◌≤◌}
use native.Mathlib.Nat.{zero-add, add-zero}
use native.Mathlib.Omega.{arith}
use borrow.Author.Tests.{eqb-true, eqb-false, lt-ltb, le-ltb}
use lib.Dec.{T, eqb, ltb}
use lib.Ieee.{Float, lt, le}
use lib.ListN.{length, get_or}
use Rattle.floats.proofs.Order.{le_lt_trans, lt_trans, lt_irrefl}
use Rattle.geometry.specs.declared.vector.Vector.{Vector}
use Rattle.rows.specs.Starts.{end_of, good_starts}
use Rattle.rows.proofs.Starts.{good-parted}
use Rattle.paths.specs.Ends.{places}
use Rattle.paths.specs.Ranges.{range_of, lesser_of}
use Rattle.paths.specs.declared.Range.{Range}
use Rattle.refusals.specs.declared.Refusal.{Refusal}
use Rattle.plotter_pens.specs.declared.NearestPath.{NearestPath}
use Rattle.plotter_pens.specs.Pens.{LentDrawing, range_in, waits, nearer_path, offered, nearest_in, nearest_of_both, lengths_good, both_start_well, numbers_finite, picked_from, pick_of}
use Rattle.plotter_pens.specs.EachOnce.{path_count}
use Rattle.plotter_pens.specs.FirstNearest.{waits_at, path_distance, FirstOfNearest, NothingWaits, PicksFirstNearest, WholePath, PicksWholePath}
use Rattle.plotter_pens.proofs.Scans.{true-false}
use Rattle.plotter_pens.proofs.Sound.{yard-at, lines_at, found-waits, none_waits, Found, pick-holds}
use Rattle.plotter_pens.proofs.Answers.{pick-2, pick-4, pick-9, pick-near}
use Rattle.std.specs.Prelude.{Err, None, Ok, Option, Some}

-- ---- the least of numbered distances, the first of those that are equal
module _ (w : ℕ → Bool) (δ : ℕ → Float) where
  record Least (m p : ℕ) : Type 0 where
    there : p < m
    so : w p ≡ true
    none_nearer : (j : ℕ) → j < m → w j ≡ true → T (lt (δ j) (δ p)) → ⊥
    none_before : (j : ℕ) → j < p → w j ≡ true → T (le (δ j) (δ p)) → ⊥

  -- what is the best after the first m
  abbrev Best : ℕ → Option NearestPath → Type 0
  Best m None = (j : ℕ) → j < m → w j ≡ true → ⊥
  Best m (Some b) = (b.distance ≡ δ b.place) × Least m b.place

  one_more : ℕ → Option NearestPath → Option NearestPath
  one_more m b = cond (w m) (nearer_path b m (δ m)) b

  -- j is among the first m, or the next
  among : {A : Type 0} (j m : ℕ) → j < m + 1 → (j < m → A) → (j ≡ m → A) → A
  among {A} j m h before here = by (eqb j m) refl
    where
      by : (u : Bool) → eqb j m ≡ u → A
      by true e = here (eqb-true j m e)
      by false e = before (omega (arith, eqb-false j m e, h))

  module _ (m : ℕ) where
    passed_over : (b : Option NearestPath) → Best m b → w m ≡ false → Best (m + 1) b
    passed_over None old e = λ j h q. among j m h (λ l. old j l q) (λ i. true-false (w m) (rw i at q) e)
    passed_over (Some b) old e =
        let l = old.1 in (
          old.0,
          record {
            there = omega (arith, l.there);
            so = l.so;
            none_nearer = λ j h q t. among j m h (λ k. l.none_nearer j k q t) (λ i. true-false (w m) (rw i at q) e);
            none_before = l.none_before;
          },
        )

    stays : (b : NearestPath) → Best m (Some b) → (T (lt (δ m) b.distance) → ⊥) → Best (m + 1) (Some b)
    stays b old far =
        let l = old.1 in (
          old.0,
          record {
            there = omega (arith, l.there);
            so = l.so;
            none_nearer = λ j h q t. among j m h (λ k. l.none_nearer j k q t) (λ i. far (subst (λ (x : Float). T (lt (δ m) x)) (sym old.0) (rw i at t)));
            none_before = l.none_before;
          },
        )

    -- the new one, from what is known of those before
    takes : w m ≡ true → ((j : ℕ) → j < m → w j ≡ true → T (lt (δ j) (δ m)) → ⊥) → ((j : ℕ) → j < m → w j ≡ true → T (le (δ j) (δ m)) → ⊥)
        → Best (m + 1) (Some (record { place = m; distance = δ m }))
    takes e nearer before = (
      refl,
      record {
        there = omega arith;
        so = e;
        none_nearer = λ j h q t. among j m h (λ k. nearer j k q t) (λ i. lt_irrefl (δ m) (rw i at t));
        none_before = before;
      },
    )

    nearer : (b : NearestPath) → Best m (Some b) → w m ≡ true → T (lt (δ m) b.distance) → Best (m + 1) (Some (record { place = m; distance = δ m }))
    nearer b old e t =
        let l = old.1 in
        let d : T (lt (δ m) (δ b.place)) = subst (λ (x : Float). T (lt (δ m) x)) old.0 t in
        takes e
        (λ j k q s. l.none_nearer j k q (lt_trans (δ j) (δ m) (δ b.place) s d))
        (λ j k q s. l.none_nearer j k q (le_lt_trans (δ j) (δ m) (δ b.place) s d))

    tried : (b : Option NearestPath) → Best m b → w m ≡ true → Best (m + 1) (nearer_path b m (δ m))
    unfolding nearer_path
    tried None old e = takes e (λ j l q t. old j l q) (λ j l q t. old j l q)
    tried (Some b) old e = by (lt (δ m) b.distance) refl
      where
        by : (u : Bool) → lt (δ m) b.distance ≡ u → Best (m + 1) (Some (cond u (record { place = m; distance = δ m }) b))
        by true h = nearer b old e (subst T (sym h) tt)
        by false h = stays b old (λ t. subst T h t)

    turn : (b : Option NearestPath) → Best m b → Best (m + 1) (one_more m b)
    unfolding one_more
    turn b old = by (w m) refl
      where
        by : (u : Bool) → w m ≡ u → Best (m + 1) (cond u (nearer_path b m (δ m)) b)
        by true e = tried b old e
        by false e = passed_over b old e

-- ---- the scan of two drawings is that
module _ (yard lines : LentDrawing) (marks : List ℕ) (pen : Vector) where
  n : ℕ
  n = length yard.starts

  w : ℕ → Bool
  w i = waits_at yard lines marks i

  δ : ℕ → Float
  δ i = path_distance yard lines pen i

  yard-turn : (b : Option NearestPath) (k : ℕ) → k < n → Best w δ k b → Best w δ (k + 1) (offered yard marks 0 pen b k)
  unfolding offered path_distance one_more n w δ
  yard-turn b k h old =
      let e : waits yard marks 0 k ≡ waits_at yard lines marks k = rw zero-add at (yard-at yard lines marks k h) in
      rw (e, zero-add k) (rw (lt-ltb k (length yard.starts) h) at (turn w δ k b old))

  lines-turn : (b : Option NearestPath) (k : ℕ) → Best w δ (n + k) b → Best w δ (n + k + 1) (offered lines marks n pen b k)
  unfolding offered path_distance one_more n w δ
  lines-turn b k old =
      let s : n + k - n ≡ k = omega arith in
      rw (lines_at yard lines marks k) (rw (le-ltb (n + k) n (omega arith), s) at (turn w δ (n + k) b old))

  over-yard : (m k : ℕ) (b : Option NearestPath) → k + m ≤ n → Best w δ k b → Best w δ (k + m) (nearest_in yard marks 0 pen m k b)
  unfolding nearest_in
  over-yard zero k b h old = rw (add-zero k) old
  over-yard (suc m) k b h old =
      let e : k + suc m ≡ k + 1 + m = omega arith in
      rw e (over-yard m (k + 1) (offered yard marks 0 pen b k) (omega arith) (yard-turn b k (omega arith) old))

  over-lines : (m k : ℕ) (b : Option NearestPath) → Best w δ (n + k) b → Best w δ (n + (k + m)) (nearest_in lines marks n pen m k b)
  unfolding nearest_in
  over-lines zero k b old = rw (add-zero k) old
  over-lines (suc m) k b old =
      let e : k + suc m ≡ k + 1 + m = omega arith in
      let f : n + k + 1 ≡ n + (k + 1) = omega arith in
      rw e (over-lines m (k + 1) (offered lines marks n pen b k) (rw f at (lines-turn b k old)))

  start : Best w δ 0 None
  start j h q = absurd (omega (arith, h))

  over-both : Best w δ (path_count yard lines) (nearest_of_both yard lines marks pen)
  unfolding nearest_of_both n
  over-both =
      let y : Best w δ (n + 0) (nearest_in yard marks 0 pen n 0 None) = rw (add-zero n) (rw (zero-add n) at (over-yard n 0 None (omega arith) start)) in
      rw (zero-add (length lines.starts)) at (over-lines (length lines.starts) 0 _ y)

  found_first : (i : ℕ) (b : NearestPath) → nearest_of_both yard lines marks pen ≡ Some b → b.place ≡ i → FirstOfNearest yard lines marks pen i
  unfolding w δ
  found_first i b f e =
      let o : Best w δ (path_count yard lines) (Some b) = rw f at over-both in
      let l : Least w δ (path_count yard lines) i = rw e at o.1 in
      record { waiting = l.so; none_nearer = l.none_nearer; none_before = l.none_before }

  -- ---- 15
  nothing-found : ((j : ℕ) → j < path_count yard lines → waits_at yard lines marks j ≡ false) → nearest_of_both yard lines marks pen ≡ None
  nothing-found none = by (nearest_of_both yard lines marks pen) refl
    where
      by : (b : Option NearestPath) → nearest_of_both yard lines marks pen ≡ b → nearest_of_both yard lines marks pen ≡ None
      by None f = f
      by (Some b) f = let i = found-waits yard lines marks pen b f in true-false _ i.so (none _ i.there)

  used-up-so : NothingWaits yard lines marks pen → pick_of yard lines marks pen ≡ Ok None
  unfolding picked_from
  used-up-so h =
      sym (pick-near yard lines marks pen _ refl h.lengths _ refl h.starts _ refl h.numbers (Ok None)
      (sym (ap (picked_from yard lines) (nothing-found h.none_waits))))

  no-refusal : {A : Type 0} (x : Refusal) → Err x ≡ pick_of yard lines marks pen → pick_of yard lines marks pen ≡ Ok None → A
  no-refusal x e f = let z : ◌≡◌ {A = ℕ} 0 1 = cc in absurd (omega arith)

  waits-for-none : (u v w : Bool) → u ≡ lengths_good yard lines marks → v ≡ both_start_well yard lines → w ≡ numbers_finite yard lines pen
      → pick_of yard lines marks pen ≡ Ok None → NothingWaits yard lines marks pen
  waits-for-none true true true a b c e =
      record { lengths = sym a; starts = sym b; numbers = sym c; none_waits = none_waits yard lines marks pen (rw e at (pick-holds yard lines marks pen)) }
  waits-for-none false v w a b c e = no-refusal _ (pick-2 yard lines marks pen false a refl) e
  waits-for-none true false w a b c e = no-refusal _ (pick-4 yard lines marks pen true a refl false b refl) e
  waits-for-none true true false a b c e = no-refusal _ (pick-9 yard lines marks pen true a refl true b refl false c refl) e

  pub picks-first-nearest : PicksFirstNearest yard lines marks pen
  picks-first-nearest =
      record {
        of-yard = λ k r e. let h : Found yard lines marks pen k yard k r = rw e at (pick-holds yard lines marks pen) in found_first k h.best h.found h.place;
        of-lines = λ k r e. let h : Found yard lines marks pen (length yard.starts + k) lines k r = rw e at (pick-holds yard lines marks pen) in
            found_first (length yard.starts + k) h.best h.found h.place;
        used_up = used-up-so;
        only_then = waits-for-none _ _ _ refl refl refl;
      }

-- ---- the path is whole
whole : (d : LentDrawing) (k : ℕ) (r : Range) → k < length d.starts → r ≡ range_in d k → good_starts (places d.numbers) d.starts ≡ true → WholePath d k r
unfolding range_of lesser_of
whole d k r l is good =
    let p = good-parted (places d.numbers) d.starts good in
    let e : ltb (places d.numbers) (end_of (places d.numbers) d.starts k) ≡ false = le-ltb _ _ (p.within k l) in
    let f : ltb (end_of (places d.numbers) d.starts k) (get_or d.starts k 0) ≡ false = le-ltb _ _ (p.ordered k l) in
    record { there = l; from_start = ap (λ (x : Range). x.from) is ∙ rw (e, f); to_end = ap (λ (x : Range). x.end) is ∙ rw e }

pub picks-whole-path : (yard lines : LentDrawing) (marks : List ℕ) (pen : Vector) → PicksWholePath yard lines marks pen
picks-whole-path yard lines marks pen =
    record {
      of-yard = λ k r e. let h : Found yard lines marks pen k yard k r = rw e at (pick-holds yard lines marks pen) in whole yard k r h.in-drawing h.range h.good;
      of-lines = λ k r e. let h : Found yard lines marks pen (length yard.starts + k) lines k r = rw e at (pick-holds yard lines marks pen) in
          whole lines k r h.in-drawing h.range h.good;
    }
