-- Laws of the loops over a node's solids: hulls, right areas, the best split. Assumes nothing.
use mathlib.Core.Path.{◌≡◌, refl, sym, ap, ap₂, ◌∙◌}
use mathlib.Core.Logic.{⊎_elim}
use mathlib.Core.List.{List, [], ◌∷◌, ◌++◌}
use Prim.Native.Nat.{ℕ, zero, suc, ◌+◌, ◌-◌, ◌/◌, ◌≤◌, ◌<◌, ◌^◌}
use native.Mathlib.Nat.{not-suc-le-zero, eq-or-lt_of_le, ne_of_gt}
use native.Mathlib.Numerals.{add-one}
use native.Mathlib.Omega.{arith}
use lib.ListN.{length, take, drop, get_or, set, length-set, length-drop, drop_of_length-le}
use lib.Seq.{take-suc, drop-cons, get_or-set_same, get_or-set_other, length-take-le, take_all}
use lib.Dec.{T, le→leb}
use lib.Ieee.{Float, nan, binary64, in_float}
use lib.IntN.{pos}
use Rattle.geometry.specs.Boxes.{extend_box}
use Rattle.geometry.specs.declared.bounding_box.BBox.{BBox}
use Rattle.tree_nodes.specs.Members.{hull}
use Rattle.tree_split.specs.declared.BestSplit.{BestSplit}
use Rattle.tree_split.specs.Build.{hull_of, hull_back, Swept, best_upto, better_of, cost_by, cost_of, area_of, max_f}

-- a count of solids is a float exactly
pub count-float : (n : ℕ) → n ≤ 1024 → T (in_float binary64 (pos n))
unfolding in_float
count-float n h = le→leb n (2 ^ 53) (omega arith)

module _ (box : ℕ → BBox) (ids : List ℕ) where
  -- ---- the hull, from the first solid on
  hull-more : (b : BBox) (l : List ℕ) (i : ℕ) → hull box b (l ++ (i ∷ [])) ≡ extend_box (hull box b l) (box i)
  unfolding hull
  hull-more b [] i = refl
  hull-more b (x ∷ l) i = hull-more (extend_box b (box x)) l i

  hull_of-more : (l : List ℕ) (i : ℕ) → 0 < length l → hull_of box (l ++ (i ∷ [])) ≡ extend_box (hull_of box l) (box i)
  unfolding hull_of
  hull_of-more [] i h = absurd (not-suc-le-zero h)
  hull_of-more (x ∷ l) i h = hull-more (box x) l i

  -- what the loop has at place i
  pub record Hulled (b : BBox) (i : ℕ) : Type 0 where
    pub low : 1 ≤ i
    pub upto : i ≤ length ids
    pub is : b ≡ hull_of box (take i ids)

  hull-first : (l : List ℕ) → 0 < length l → hull_of box (take 1 l) ≡ box (get_or l 0 0)
  unfolding hull_of hull
  hull-first [] h = absurd (not-suc-le-zero h)
  hull-first (x ∷ l) h = refl

  pub hulled-start : (b : BBox) → 0 < length ids → b ≡ box (get_or ids 0 0) → Hulled b 1
  hulled-start b h e = record { low = omega arith; upto = h; is = e ∙ sym (hull-first ids h) }

  pub hulled-turn : (b : BBox) (i : ℕ) (c r : BBox) → Hulled b i → i < length ids → c ≡ box (get_or ids i 0) → r ≡ extend_box b c → Hulled r (i + 1)
  hulled-turn b i c r h l e g =
      let tl : 0 < length (take i ids) = rw (length-take-le i ids (omega arith)) h.low in
      record {
        low = omega arith;
        upto = omega arith;
        is = g ∙ rw (add-one, take-suc ids i 0 l, hull_of-more (take i ids) (get_or ids i 0) tl, ← h.is, ← e);
      }

  pub hulled-end : (b : BBox) (i : ℕ) → Hulled b i → length ids ≤ i → b ≡ hull_of box ids
  hulled-end b i h l = h.is ∙ ap (hull_of box) (take_all i ids l)

  -- ---- the right areas, from the last solid back
  hull_back-cons : (i : ℕ) (l : List ℕ) → 0 < length l → hull_back box (i ∷ l) ≡ extend_box (hull_back box l) (box i)
  unfolding hull_back
  hull_back-cons i [] h = absurd (not-suc-le-zero h)
  hull_back-cons i (j ∷ l) h = refl

  hull_back-one : (i : ℕ) → hull_back box (i ∷ []) ≡ box i
  unfolding hull_back
  hull_back-one i = refl

  pub record Sweeping (right₀ right : List Float) (i : ℕ) (b : BBox) : Type 0 where
    pub low : 1 ≤ i
    pub high : i < length ids
    pub same : length right ≡ length right₀
    pub room : length ids ≤ length right₀
    pub is : b ≡ hull_back box (drop i ids)
    pub done : (j : ℕ) → i ≤ j → j < length ids → get_or right j nan ≡ area_of (hull_back box (drop j ids))

  pub sweeping-start : (r₀ : List Float) (i : ℕ) (b : BBox) (a : Float) → 1 < length ids → i ≡ length ids - 1 → length ids ≤ length r₀
      → b ≡ box (get_or ids i 0) → a ≡ area_of b → Sweeping (set r₀ i a) (set r₀ i a) i b
  sweeping-start r₀ i b a h e room eb ea =
      let il : i < length ids = omega arith in
      let none : drop (suc i) ids ≡ [] = drop_of_length-le ids {i = suc i} (omega arith) in
      let last : drop i ids ≡ get_or ids i 0 ∷ [] = drop-cons ids i 0 il ∙ ap (λ (t : List ℕ). get_or ids i 0 ∷ t) none in
      let is : b ≡ hull_back box (drop i ids) = eb ∙ sym (ap (hull_back box) last ∙ hull_back-one (get_or ids i 0)) in
      record {
        low = omega arith;
        high = il;
        same = refl;
        room = simp length-set room;
        is = is;
        done = λ j p c. let ji : j ≡ i = omega arith in rw ji (get_or-set_same r₀ i a nan (omega arith) ∙ ea ∙ ap area_of is);
      }

  pub sweeping-turn : (r₀ r : List Float) (i : ℕ) (b c b' : BBox) (a : Float) → Sweeping r₀ r i b → 1 < i
      → c ≡ box (get_or ids (i - 1) 0) → b' ≡ extend_box b c → a ≡ area_of b' → Sweeping r₀ (set r (i - 1) a) (i - 1) b'
  sweeping-turn r₀ r i b c b' a h l ec eb ea =
      let k : ℕ = i - 1 in
      let kl : k < length ids = omega (arith, h.high) in
      let ki : suc k ≡ i = omega arith in
      let room : length ids ≤ length r = omega (arith, h.room, h.same) in
      let more : 0 < length (drop (suc k) ids) = simp length-drop (omega (arith, h.high)) in
      let is : b' ≡ hull_back box (drop k ids) =
      eb ∙ ap₂ extend_box (h.is ∙ ap (λ (n : ℕ). hull_back box (drop n ids)) (sym ki)) ec ∙ sym (ap (hull_back box) (drop-cons ids k 0 kl) ∙ hull_back-cons (get_or ids k 0) (drop (suc k) ids) more) in
      record {
        low = omega arith;
        high = kl;
        same = length-set r k a ∙ h.same;
        room = h.room;
        is = is;
        done = λ j p g. ⊎_elim
            (λ e. rw (← e) (get_or-set_same r k a nan (omega arith) ∙ ea ∙ ap area_of is))
            (λ lt. get_or-set_other r k j a nan (ne_of_gt lt) ∙ h.done j (omega arith) g)
            (eq-or-lt_of_le p);
      }

  -- ---- the best split
  best-step : (i : ℕ) → 1 ≤ i → best_upto box ids i ≡ better_of (best_upto box ids (i - 1)) (cost_of box ids i) i
  unfolding best_upto
  best-step zero h = absurd (not-suc-le-zero h)
  best-step (suc k) h = let e : suc k - 1 ≡ k = omega arith in rw e

  pub record Besting (n : ℕ) (best : BestSplit) (left : BBox) (i : ℕ) : Type 0 where
    pub whole : n ≡ length ids
    pub hulled : Hulled left i
    pub is : best ≡ best_upto box ids (i - 1)

  pub besting-start : (left : BBox) → 0 < length ids → left ≡ box (get_or ids 0 0) → Besting (length ids) (record { cost = max_f; at = length ids / 2 }) left 1
  unfolding best_upto
  besting-start left h g = record { whole = refl; hulled = hulled-start left h g; is = refl }

  pub besting-turn : (right : List Float) (n : ℕ) (best : BestSplit) (left : BBox) (i : ℕ) (ra c : Float) (best' : BestSplit) (s left' : BBox) → Besting n best left i → Swept box ids right → i < n
      → ra ≡ get_or right i nan → c ≡ cost_by left i ra (n - i) → best' ≡ better_of best c i → s ≡ box (get_or ids i 0) → left' ≡ extend_box left s → Besting n best' left' (i + 1)
  unfolding cost_of
  besting-turn right n best left i ra c best' s left' h sw l er ec eb es el =
      let il : i < length ids = omega (arith, h.whole) in
      let rr : ra ≡ area_of (hull_back box (drop i ids)) = er ∙ sw i h.hulled.low il in
      let i1 : i + 1 - 1 ≡ i = omega arith in
      record {
        whole = h.whole;
        hulled = hulled-turn left i s left' h.hulled il es el;
        is = eb ∙ rw (i1, best-step i h.hulled.low, ← h.is, ← h.hulled.is, ← rr, ← h.whole, ← ec);
      }

  pub besting-end : (n : ℕ) (best : BestSplit) (left : BBox) (i : ℕ) → Besting n best left i → n ≤ i → best ≡ best_upto box ids (length ids - 1)
  besting-end n best left i h l =
      let e : i ≡ length ids = omega (arith, h.hulled.upto, h.whole) in
      h.is ∙ ap (λ (k : ℕ). best_upto box ids (k - 1)) e
