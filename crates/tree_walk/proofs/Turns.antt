-- The turns of a leaf's loop, the rounds of the full walk, and the branches of `skip`. Assumes nothing.
use mathlib.Core.Path.{◌≡◌, refl, sym, ap, ◌∙◌, subst}
use mathlib.Core.List.{List, []}
use mathlib.Core.Bool.{Bool, true, false}
use Prim.Native.Nat.{ℕ, zero, suc, ◌+◌, ◌-◌, ◌≤◌, ◌<◌}
use native.Mathlib.Omega.{arith}
use native.Mathlib.Nat.{add-zero}
use lib.ListN.{length, take, drop, get_or, drop_of_length-le}
use lib.Seq.{drop-cons, take-nil}
use lib.Ieee.{Float, lt, le}
use Rattle.floats.specs.Arith.{zero_f}
use Rattle.geometry.specs.Boxes.{box_test, skips}
use Rattle.geometry.specs.declared.ray.Ray.{Ray}
use Rattle.geometry.specs.declared.bounding_box.BBox.{BBox}
use Rattle.geometry.specs.declared.bounding_box.Span.{Span}
use Rattle.tree_nodes.specs.declared.Node.{Node}
use Rattle.refusals.specs.declared.Refusal.{Refusal}
use Rattle.refusals.specs.declared.Refusal.TheVariants.{Waiting}
use Rattle.tree_walk.specs.declared.Nearest.{Nearest}
use Rattle.tree_walk.specs.declared.Children.{Children}
use Rattle.tree_walk.proofs.Rounds.{Rounds}
use Rattle.tree_walk.specs.Walks.{tried, onward, scan, walk_on}
use Rattle.std.specs.Prelude.{Err, Ok, Result}
use Rattle.geometry.specs.declared.hit.Hit.{Hit}

-- ---- a leaf's entries
module _ (hit : ℕ → Result Hit Refusal) (order : List ℕ) (first count : ℕ) (best : Nearest) where
  pub record Scanned (b : Nearest) (k : ℕ) : Type 0 where
    pub upto : k ≤ count
    pub same : scan hit (take (count - k) (drop (first + k) order)) b ≡ scan hit (take count (drop first order)) best

  scan-nil : (k : ℕ) (l : List ℕ) (b : Nearest) → l ≡ [] → scan hit (take k l) b ≡ Ok b
  unfolding scan
  scan-nil k l b e = rw (e, take-nil)

  scan-next : (b : Nearest) (k : ℕ) → k < count → first + k < length order
      → scan hit (take (count - k) (drop (first + k) order)) b
      ≡ onward (tried (get_or order (first + k) 0) (hit (get_or order (first + k) 0)) b) (scan hit (take (count - (k + 1)) (drop (first + (k + 1)) order)))
  unfolding scan
  scan-next b k h l =
      let e : count - k ≡ suc (count - (k + 1)) = omega arith in
      let f : suc (first + k) ≡ first + (k + 1) = omega arith in
      rw (e, drop-cons order (first + k) 0 l) (rw f)

module _ (hit : ℕ → Result Hit Refusal) (order : List ℕ) (first count : ℕ) (best : Nearest) where
  pub scanned-start : Scanned hit order first count best best 0
  scanned-start = record {
    upto = omega arith;
    same = ap (λ (n : ℕ). scan hit (take n (drop (first + 0) order)) best) (let e : count - 0 ≡ count = omega arith in e) ∙ rw add-zero;
  }

  pub scanned-gone : (b : Nearest) (k : ℕ) → Scanned hit order first count best b k → length order ≤ first + k → Ok b ≡ scan hit (take count (drop first order)) best
  scanned-gone b k s l = sym (scan-nil hit order first count best (count - k) (drop (first + k) order) b (drop_of_length-le order {i = first + k} l)) ∙ s.same

  pub scanned-end : (b : Nearest) (k : ℕ) → Scanned hit order first count best b k → count ≤ k → Ok b ≡ scan hit (take count (drop first order)) best
  unfolding scan
  scanned-end b k s l =
      let e : count - k ≡ 0 = omega arith in
      rw e at s.same

  module _ (b : Nearest) (k : ℕ) (s : Scanned hit order first count best b k) (h : k < count) (l : first + k < length order) (i : ℕ) (own : Result Hit Refusal) (a : Result Nearest Refusal)
      (ei : i ≡ get_or order (first + k) 0) (eo : own ≡ hit i) (ea : a ≡ tried (get_or order (first + k) 0) own b) where
    step : scan hit (take (count - k) (drop (first + k) order)) b ≡ onward a (scan hit (take (count - (k + 1)) (drop (first + (k + 1)) order)))
    step = scan-next hit order first count best b k h l ∙ rw (ea, eo, ei)

    pub scanned-refused : (e : Refusal) → a ≡ Err e → Err e ≡ scan hit (take count (drop first order)) best
    scanned-refused e q =
        let n : scan hit (take (count - k) (drop (first + k) order)) b ≡ Err e = step ∙ rw q in
        sym n ∙ s.same

    pub scanned-turn : (d : Nearest) → a ≡ Ok d → Scanned hit order first count best d (k + 1)
    scanned-turn d q =
        let n : scan hit (take (count - k) (drop (first + k) order)) b ≡ scan hit (take (count - (k + 1)) (drop (first + (k + 1)) order)) d = step ∙ rw q in
        record { upto = omega arith; same = sym n ∙ s.same }

-- ---- the full walk, round by round
pub walk_none : (hit : ℕ → Result Hit Refusal) (r : Ray) (node : ℕ → Node) (places : ℕ) (order : List ℕ) (k : ℕ) (best : Nearest) → walk_on hit r node places order k [] best ≡ Ok best
unfolding walk_on
walk_none hit r node places order zero best = refl
walk_none hit r node places order (suc k) best = refl

module _ (hit : ℕ → Result Hit Refusal) (r : Ray) (node : ℕ → Node) (places : ℕ) (order : List ℕ) where
  -- through a leaf
  abbrev pub through : List ℕ → Nearest → (Nearest → Result Nearest Refusal) → Result Nearest Refusal
  through is b next = onward (scan hit is b) next

  pub walk-rounds : Rounds r node places order Ok (Err Waiting) (through) (walk_on hit r node places order)
  unfolding walk_on
  walk-rounds = record {
    over = λ (w : List ℕ) (b : Nearest). refl;
    none = walk_none hit r node places order;
    step = λ (k i : ℕ) (w : List ℕ) (b : Nearest) (c : Children) e. rw e;
  }

-- ---- a leaf of the full walk, where `a` is what its entries give
module _ (a f : Result Nearest Refusal) (e : a ≡ f) (next : Nearest → Result Nearest Refusal) (all : Result Nearest Refusal) (left : onward f next ≡ all) where
  gone-on : onward a next ≡ all
  gone-on = rw e left

  pub leaf-refused : (k : Refusal) → a ≡ Err k → Err k ≡ all
  leaf-refused k q = rw q at gone-on

  pub leaf-passed : (d : Nearest) → a ≡ Ok d → next d ≡ all
  leaf-passed d q = rw q at gone-on

-- ---- the branches of `skip`
pub skips-empty : (s g : Span) (best : Float) → s ≡ g → lt s.tmax s.tmin ≡ true → true ≡ skips g best
skips-empty s g best e h = rw (← e) (rw h)

pub skips-behind : (s g : Span) (best : Float) → s ≡ g → lt s.tmax s.tmin ≡ false → le s.tmax zero_f ≡ true → true ≡ skips g best
skips-behind s g best e h k = rw (← e) (rw (h, k))

pub skips-late : (s g : Span) (best : Float) → s ≡ g → lt s.tmax s.tmin ≡ false → le s.tmax zero_f ≡ false → le best s.tmin ≡ skips g best
skips-late s g best e h k = rw (← e) (rw (h, k))

pub skip_read : (b c : BBox) (r : Ray) (best : Float) (s : Bool) → b ≡ c → s ≡ skips (box_test b r) best → s ≡ skips (box_test c r) best
skip_read b c r best s e h = subst (λ (x : BBox). s ≡ skips (box_test x r) best) e h
