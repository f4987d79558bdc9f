-- From zeros, repeated picking yields every non-empty path exactly once. Assumes nothing.
use mathlib.Core.Path.{◌≡◌, refl, sym, ap, ◌∙◌}
use mathlib.Core.Bool.{Bool, true, false, cond, and-eq-true_iff}
use mathlib.Core.List.{List, [], ◌∷◌}
use Prim.Native.Nat.{ℕ, zero, suc, ◌+◌, ◌-◌, ◌<◌, ◌≤◌}
use native.Mathlib.Omega.{arith}
use borrow.Author.Tests.{eqb-true, eqb-false, ne_eqb}
use lib.Dec.{eqb, ltb}
use lib.ListN.{length, get_or, set, replicate, get_or-replicate, length-replicate, length-set}
use lib.Seq.{get_or-set_same, get_or-set_other}
use Rattle.geometry.specs.declared.vector.Vector.{Vector}
use Rattle.paths.specs.declared.Range.{Range}
use Rattle.plotter_pens.specs.declared.NearestPath.{NearestPath}
use Rattle.plotter_pens.specs.declared.Choice.{Choice}
use Rattle.plotter_pens.specs.declared.Choice.TheVariants.{Yard, Lines}
use Rattle.plotter_pens.specs.Pens.{LentDrawing, range_in, nearest_of_both, lengths_good, point_finite, numbers_finite, picked_from, pick_of, marks_after}
use Rattle.plotter_pens.specs.EachOnce.{path_count, non_empty_path, Tour, used_up, of-yard, of-lines, times_in, Drawable, EachOnce}
use Rattle.plotter_pens.specs.FirstNearest.{waits_at}
use Rattle.plotter_pens.proofs.Sound.{Waiting, found-waits, none_waits, Found, pick-holds}
use Rattle.std.specs.Prelude.{Err, None, Ok, Option, Result, Some}
use Rattle.refusals.specs.declared.Refusal.{Refusal}

-- ---- how many marks are 0
undrawn : List ℕ → ℕ
undrawn [] = 0
undrawn (m ∷ ms) = cond (eqb m 0) (undrawn ms + 1) (undrawn ms)

falls : (marks : List ℕ) (i : ℕ) → i < length marks → get_or marks i 0 ≡ 0 → undrawn marks ≡ undrawn (set marks i 1) + 1
unfolding undrawn
falls [] i h e = absurd (omega arith)
falls (m ∷ ms) zero h e = rw e
falls (m ∷ ms) (suc i) h e = by-head (eqb m 0) refl (falls ms i (omega arith) e)
  where
    by-head : (u : Bool) → eqb m 0 ≡ u → undrawn ms ≡ undrawn (set ms i 1) + 1 → cond (eqb m 0) (undrawn ms + 1) (undrawn ms) ≡ cond (eqb m 0) (undrawn (set ms i 1) + 1) (undrawn (set ms i 1)) + 1
    by-head true t h = rw (t, h)
    by-head false t h = rw (t, h)

module _ (yard lines : LentDrawing) where
  -- ---- a path that is marked waits no longer, and no other is touched
  no_longer : (marks : List ℕ) (i : ℕ) → i < length marks → waits_at yard lines (set marks i 1) i ≡ false
  unfolding waits_at
  no_longer marks i h = rw (get_or-set_same marks i 1 0 h)

  others : (marks : List ℕ) (i j : ℕ) → (j ≡ i → ⊥) → waits_at yard lines (set marks i 1) j ≡ waits_at yard lines marks j
  unfolding waits_at
  others marks i j n = rw (get_or-set_other marks i j 1 0 n)

  unmarked : (marks : List ℕ) (i : ℕ) → waits_at yard lines marks i ≡ true → get_or marks i 0 ≡ 0
  unfolding waits_at
  unmarked marks i e = eqb-true (get_or marks i 0) 0 ((and-eq-true_iff (eqb (get_or marks i 0) 0) (non_empty_path yard lines i)).0 e).0

  -- ---- one pick more: p is the place of its mark
  module _ (marks : List ℕ) (p : ℕ) (w : Waiting yard lines marks p) (all : length marks ≡ path_count yard lines) where
    one_more : (is : List ℕ) (i : ℕ) → times_in i is ≡ cond (waits_at yard lines (set marks p 1) i) 1 0
        → (u : Bool) → eqb p i ≡ u → times_in i (p ∷ is) ≡ cond (waits_at yard lines marks i) 1 0
    unfolding times_in
    one_more is i e true t =
        let q : p ≡ i = eqb-true p i t in
        let s : waits_at yard lines marks i ≡ true = rw q at w.so in
        let z : times_in i is ≡ 0 = e ∙ rw (q, no_longer marks i (rw (all, ← q) w.there)) in
        rw (t, s, z)
    one_more is i e false t = rw t (e ∙ rw (others marks p i (λ q. eqb-false p i t (sym q))))

    none_more : (is : List ℕ) (i : ℕ) → path_count yard lines ≤ i → times_in i is ≡ 0 → times_in i (p ∷ is) ≡ 0
    unfolding times_in
    none_more is i h e = rw (ne_eqb p i (λ q. omega (arith, w.there))) e

    kept-length : length (set marks p 1) ≡ path_count yard lines
    kept-length = length-set marks p 1 ∙ all

    one_less : undrawn marks ≡ undrawn (set marks p 1) + 1
    one_less = falls marks p (rw all w.there) (unmarked marks p w.so)

  -- ---- what is picked from a scan is no refusal
  abbrev Goes : Result (Option Choice) Refusal → Type 0
  Goes (Ok (Some (Yard k r))) = Unit {0}
  Goes (Ok (Some (Lines k r))) = Unit {0}
  Goes (Ok None) = Unit {0}
  Goes (Err x) = ⊥

  from_goes : (b : Option NearestPath) → Goes (picked_from yard lines b)
  unfolding picked_from
  from_goes None = tt
  from_goes (Some b) =
      let l = b.place - length yard.starts in
      by (ltb b.place (length yard.starts)) b.place l (range_in yard b.place) (range_in lines l)
    where
      by : (v : Bool) (k l : ℕ) (r s : Range) → Goes (cond v (Ok (Some (Yard k r))) (Ok (Some (Lines l s))))
      by true k l r s = tt
      by false k l r s = tt

  module _ (marks : List ℕ) (pen : Vector) where
    waiting : (p : ℕ) (b : NearestPath) → nearest_of_both yard lines marks pen ≡ Some b → b.place ≡ p → Waiting yard lines marks p
    waiting p b f e = rw e at (found-waits yard lines marks pen b f)

    of-used-up : pick_of yard lines marks pen ≡ Ok None → nearest_of_both yard lines marks pen ≡ None
    of-used-up e = rw e at (pick-holds yard lines marks pen)

  module _ (pens : ℕ → Vector) where
    yard-waits : (t k : ℕ) (marks : List ℕ) (r : Range) → pick_of yard lines marks (pens t) ≡ Ok (Some (Yard k r)) → Waiting yard lines marks k
    yard-waits t k marks r e =
        let h : Found yard lines marks (pens t) k yard k r = rw e at (pick-holds yard lines marks (pens t)) in
        waiting marks (pens t) k h.best h.found h.place

    lines-wait : (t k : ℕ) (marks : List ℕ) (r : Range) → pick_of yard lines marks (pens t) ≡ Ok (Some (Lines k r)) → Waiting yard lines marks (length yard.starts + k)
    lines-wait t k marks r e =
        let h : Found yard lines marks (pens t) (length yard.starts + k) lines k r = rw e at (pick-holds yard lines marks (pens t)) in
        waiting marks (pens t) (length yard.starts + k) h.best h.found h.place

    -- ---- each path that waits is picked once, and no other
    counted : {t : ℕ} {marks is : List ℕ} → Tour yard lines pens t marks is → length marks ≡ path_count yard lines → (i : ℕ) → i < path_count yard lines
        → times_in i is ≡ cond (waits_at yard lines marks i) 1 0
    unfolding times_in marks_after
    counted {t} {marks} (used_up e) all i h = rw (none_waits yard lines marks (pens t) (of-used-up marks (pens t) e) i h)
    counted {t} {marks} (of-yard {k = k} {r = r} {is = is} e rest) all i h =
        let w = yard-waits t k marks r e in
        one_more marks k w all is i (counted rest (kept-length marks k w all) i h) (eqb k i) refl
    counted {t} {marks} (of-lines {k = k} {r = r} {is = is} e rest) all i h =
        let w = lines-wait t k marks r e in
        one_more marks (length yard.starts + k) w all is i (counted rest (kept-length marks (length yard.starts + k) w all) i h) (eqb (length yard.starts + k) i) refl

    beyond : {t : ℕ} {marks is : List ℕ} → Tour yard lines pens t marks is → length marks ≡ path_count yard lines → (i : ℕ) → path_count yard lines ≤ i → times_in i is ≡ 0
    unfolding times_in marks_after
    beyond (used_up e) all i h = refl
    beyond {t} {marks} (of-yard {k = k} {r = r} {is = is} e rest) all i h =
        let w = yard-waits t k marks r e in
        none_more marks k w all is i h (beyond rest (kept-length marks k w all) i h)
    beyond {t} {marks} (of-lines {k = k} {r = r} {is = is} e rest) all i h =
        let w = lines-wait t k marks r e in
        none_more marks (length yard.starts + k) w all is i h (beyond rest (kept-length marks (length yard.starts + k) w all) i h)

    -- ---- and picking ends: each pick leaves one mark less to draw
    module _ (fit : Drawable yard lines) (finite : (t : ℕ) → point_finite (pens t) ≡ true) where
      accepted : (t : ℕ) (marks : List ℕ) → length marks ≡ path_count yard lines → pick_of yard lines marks (pens t) ≡ picked_from yard lines (nearest_of_both yard lines marks (pens t))
      unfolding pick_of lengths_good numbers_finite
      accepted t marks all =
          let lengths : lengths_good yard lines marks ≡ true = rw all (rw (length-replicate {A = ℕ} (path_count yard lines) 0) at fit.lengths) in
          rw (lengths, fit.starts, finite t, fit.yard_finite, fit.lines_finite)

      goes : (t : ℕ) (marks : List ℕ) → length marks ≡ path_count yard lines → Goes (pick_of yard lines marks (pens t))
      goes t marks all = rw (accepted t marks all) (from_goes _)

      abbrev Ending : ℕ → List ℕ → Type 0
      Ending t marks = (is : List ℕ) × Tour yard lines pens t marks is

      by-pick : (t : ℕ) (marks : List ℕ) → length marks ≡ path_count yard lines → ((p : ℕ) → Waiting yard lines marks p → Ending (t + 1) (set marks p 1))
          → (p : Result (Option Choice) Refusal) → pick_of yard lines marks (pens t) ≡ p → Goes p → Ending t marks
      unfolding marks_after
      by-pick t marks all on (Ok (Some (Yard k r))) e g = let q = on k (yard-waits t k marks r e) in (k ∷ q.0, of-yard e q.1)
      by-pick t marks all on (Ok (Some (Lines k r))) e g =
          let q = on (length yard.starts + k) (lines-wait t k marks r e) in
          ((length yard.starts + k) ∷ q.0, of-lines e q.1)
      by-pick t marks all on (Ok None) e g = ([], used_up e)
      by-pick t marks all on (Err x) e g = absurd g

      ends : (fuel t : ℕ) (marks : List ℕ) → length marks ≡ path_count yard lines → undrawn marks ≤ fuel → Ending t marks
      ends zero t marks all h = by-pick t marks all (λ p w. absurd (omega (arith, one_less marks p w all))) _ refl (goes t marks all)
      ends (suc n) t marks all h =
          by-pick t marks all (λ p w. ends n (t + 1) (set marks p 1) (kept-length marks p w all) (omega (arith, one_less marks p w all))) _ refl (goes t marks all)

from-zeros : (yard lines : LentDrawing) (i : ℕ) → i < path_count yard lines → waits_at yard lines (replicate (path_count yard lines) 0) i ≡ non_empty_path yard lines i
unfolding waits_at
from-zeros yard lines i h = rw (get_or-replicate {A = ℕ} (path_count yard lines) i 0 0 h)

pub each-once : EachOnce
each-once yard lines fit pens finite =
    let all : length {A = ℕ} (replicate (path_count yard lines) 0) ≡ path_count yard lines = length-replicate {A = ℕ} (path_count yard lines) 0 in
    let r : (is : List ℕ) × Tour yard lines pens 0 (replicate (path_count yard lines) 0) is
    = ends yard lines pens fit finite (undrawn (replicate (path_count yard lines) 0)) 0 (replicate (path_count yard lines) 0) all (omega arith) in
    record {
      paths = r.0;
      tour = r.1;
      once = λ i h. counted yard lines pens r.1 all i h ∙ ap (λ (b : Bool). cond b 1 0) (from-zeros yard lines i h);
      no_other = beyond yard lines pens r.1 all;
    }
