-- The rounds of the walk that stops, and the turns of its leaf's loop. Assumes nothing.
use mathlib.Core.Path.{◌≡◌, refl, sym, ap, ◌∙◌}
use mathlib.Core.List.{List, [], ◌∷◌}
use mathlib.Core.Bool.{Bool, true, false, cond}
use Prim.Native.Nat.{ℕ, zero, suc, ◌+◌, ◌-◌, ◌≤◌, ◌<◌}
use native.Mathlib.Omega.{arith}
use lib.ListN.{length, take, drop, get_or, length-drop}
use lib.Seq.{drop-cons, take-nil}
use lib.Dec.{ltb}
use borrow.Author.Tests.{ltb-true, ltb-false}
use lib.Ieee.{Float, lt}
use Rattle.geometry.specs.declared.ray.Ray.{Ray}
use Rattle.geometry.specs.declared.hit.Hit.{Hit}
use Rattle.tree_nodes.specs.declared.Node.{Node}
use Rattle.refusals.specs.declared.Refusal.{Refusal}
use Rattle.refusals.specs.declared.Refusal.TheVariants.{Waiting}
use Rattle.tree_walk.specs.Walks.{nearer}
use Rattle.tree_walk.specs.declared.Nearest.{Nearest}
use Rattle.tree_walk.specs.declared.Children.{Children}
use Rattle.tree_walk.proofs.Rounds.{Rounds}
use Rattle.tree_cover.specs.Seeking.{sought_on, scan_to, go_on, seek_on, leaf_end}
use Rattle.tree_cover.specs.declared.Sought.{Sought}
use Rattle.tree_cover.specs.declared.Sought.TheVariants.{Open, Covered}
use Rattle.std.specs.Prelude.{Err, Ok, Result}

-- ---- the rounds
seek-none : (far : Float) (hit : ℕ → Result Hit Refusal) (r : Ray) (node : ℕ → Node) (places : ℕ) (order : List ℕ) (k : ℕ) (best : Nearest) → seek_on far hit r node places order k [] best ≡ Ok (Open best)
unfolding seek_on
seek-none far hit r node places order zero best = refl
seek-none far hit r node places order (suc k) best = refl

module _ (far : Float) (hit : ℕ → Result Hit Refusal) (r : Ray) (node : ℕ → Node) (places : ℕ) (order : List ℕ) where
  -- through a leaf
  abbrev pub through : List ℕ → Nearest → (Nearest → Result Sought Refusal) → Result Sought Refusal
  through is b next = go_on (scan_to far hit is b) next

  pub seek-rounds : Rounds r node places order (λ (b : Nearest). Ok (Open b)) (Err Waiting) through (seek_on far hit r node places order)
  unfolding seek_on
  seek-rounds = record {
    over = λ (w : List ℕ) (b : Nearest). refl;
    none = seek-none far hit r node places order;
    step = λ (k i : ℕ) (w : List ℕ) (b : Nearest) (c : Children) e. rw e;
  }

-- ---- where a leaf's entries end
end-inside : (first count size : ℕ) → leaf_end first count size ≤ size
unfolding leaf_end
end-inside first count size = by-test (ltb (first + count) size) (ltb-true (first + count) size)
  where
    by-test : (u : Bool) → (u ≡ true → first + count < size) → cond u (first + count) size ≤ size
    by-test true t = omega (arith, t refl)
    by-test false t = omega arith

take_past : {A : Type 0} (m n : ℕ) (l : List A) → length l ≤ m → length l ≤ n → take m l ≡ take n l
take_past m n [] h k = take-nil m ∙ sym (take-nil n)
take_past zero n (x ∷ l) h k = absurd (omega arith)
take_past (suc m) zero (x ∷ l) h k = absurd (omega arith)
take_past (suc m) (suc n) (x ∷ l) h k = ap (λ (y : List _). x ∷ y) (take_past m n l (omega arith) (omega arith))

end_take : (order : List ℕ) (first count : ℕ) → take (leaf_end first count (length order) - first) (drop first order) ≡ take count (drop first order)
unfolding leaf_end
end_take order first count = by-test (ltb (first + count) (length order)) refl
  where
    by-test : (u : Bool) → ltb (first + count) (length order) ≡ u
        → take (cond (ltb (first + count) (length order)) (first + count) (length order) - first) (drop first order) ≡ take count (drop first order)
    by-test true t = let e : first + count - first ≡ count = omega arith in rw t (rw e)
    by-test false t =
        rw t (take_past (length order - first) count (drop first order) (omega (arith, length-drop first order)) (omega (arith, length-drop first order, ltb-false (first + count) (length order) t)))

-- ---- inside a leaf, at the entry that stands at place `at`; `next` goes on from the leaf, and all comes to `all`
pub record Leafing (far : Float) (hit : ℕ → Result Hit Refusal) (order : List ℕ) (next : Nearest → Result Sought Refusal) (all : Result Sought Refusal) (last at : ℕ) (best : Nearest) : Type 0 where
  pub inside : last ≤ length order
  pub same : go_on (scan_to far hit (take (last - at) (drop at order)) best) next ≡ all

pub leafing-start : (far : Float) (hit : ℕ → Result Hit Refusal) (order : List ℕ) (next : Nearest → Result Sought Refusal) (all : Result Sought Refusal) (first count last : ℕ) (best : Nearest)
    → last ≡ leaf_end first count (length order) → go_on (scan_to far hit (take count (drop first order)) best) next ≡ all → Leafing far hit order next all last first best
leafing-start far hit order next all first count last best e s = record {
  inside = rw e (end-inside first count (length order));
  same = rw (e, end_take order first count) s;
}

module _ (far : Float) (hit : ℕ → Result Hit Refusal) (order : List ℕ) (next : Nearest → Result Sought Refusal) (all : Result Sought Refusal) (last at : ℕ) (best : Nearest) (L : Leafing far hit order next all last at best) where
  pub leafing-end : last ≤ at → next best ≡ all
  unfolding scan_to
  leafing-end h =
      let e : last - at ≡ 0 = omega arith in
      rw e at L.same

  module _ (h : at < last) (i w : ℕ) (a : Result Hit Refusal) (ei : i ≡ get_or order at 0) (ew : w ≡ i) (ea : a ≡ hit w) where
    turn : go_on (sought_on far i a best (scan_to far hit (take (last - (at + 1)) (drop (at + 1) order)))) next ≡ all
    unfolding scan_to
    turn =
        let e : last - at ≡ suc (last - (at + 1)) = omega arith in
        let f : suc at ≡ at + 1 = omega arith in
        rw (ea, ew, ei) (rw (e, drop-cons order at 0 (omega (arith, L.inside)), f) at L.same)

    pub leafing-refused : (k : Refusal) → a ≡ Err k → Err k ≡ all
    unfolding sought_on
    leafing-refused k q = rw q at turn

    module _ (d : Hit) (q : a ≡ Ok d) where
      pub leafing-short : lt d.t far ≡ true → Ok Covered ≡ all
      unfolding sought_on
      leafing-short s = rw s at (rw q at turn)

      pub leafing-turn : lt d.t far ≡ false → (b : Nearest) → b ≡ nearer i d best → Leafing far hit order next all last (at + 1) b
      unfolding sought_on
      leafing-turn s b e = record { inside = L.inside; same = rw e (rw s at (rw q at turn)) }
