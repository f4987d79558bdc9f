-- The loops of the merge sort, and its two halves. Assumes nothing.
use mathlib.Core.Path.{◌≡◌, refl, sym, ap, ap₂, ◌∙◌, subst}
use mathlib.Core.Bool.{Bool, true, false, not}
use mathlib.Core.List.{List, [], ◌∷◌, ◌++◌, append_assoc, append-nil}
use Prim.Native.Nat.{ℕ, zero, suc, ◌+◌, ◌-◌, ◌≤◌, ◌<◌}
use native.Mathlib.Nat.{not-suc-le-zero, le_of_suc-le-suc, add-zero}
use native.Mathlib.Omega.{arith}
use native.Mathlib.Numerals.{add-one}
use lib.ListN.{length, take, drop, get_or, set, length-set, take-append-drop, drop_of_length-le, length-drop, length-append}
use lib.Seq.{take-suc, take-suc-set, drop-cons, drop-set-lt, take_all, get_or-drop, get_or-take, length-take-le, drop-drop, length_front, drop_at, take_at}
use lib.Dec.{T, ltb}
use lib.Ieee.{Float, lt}
use lib.Ieee.Bits.{is_true}
use borrow.Author.Tests.{ltb-true, ltb-false}
use borrow.Rule.Slice.PartMut.{put_mid}
use borrow.Table.Steps.{cases}
use Rattle.floats.specs.Arith.{zero_f}
use Rattle.floats.specs.Numbers.{number}
use Rattle.floats.proofs.Order.{le_trans, not-gt→le, le→not-gt, lt_trans}
use Rattle.floats.proofs.Extremes.{or_bot, or_bot-number, or_bot-id}
use Rattle.tree_sort.specs.Sort.{sorted, merged, by_key, HasKey}
use Rattle.lists.specs.Lists.{Each}
use Rattle.tree_sort.proofs.Merging.{merged-nil, merged-sorted}
use Rattle.tree_sort.proofs.Sorted.{length-sorted, sorted-cong, merged-cong, each-sorted}
use Rattle.lists.proofs.Properties.{each_append, each_take, each-drop}

module _ {ℓ} {A : Type ℓ} where
  -- within a list the default is not read
  pub get_d_any : (l : List A) (i : ℕ) (d e : A) → i < length l → get_or l i d ≡ get_or l i e
  get_d_any [] i d e h = absurd (not-suc-le-zero h)
  get_d_any (x ∷ xs) zero d e h = refl
  get_d_any (x ∷ xs) (suc i) d e h = get_d_any xs i d e (le_of_suc-le-suc h)

-- ---- a loop that copies the first n
pub record Copied (src : List ℕ) (n : ℕ) (to₀ to : List ℕ) (i : ℕ) : Type 0 where
  pub same : length to ≡ length to₀
  pub upto : i ≤ n
  pub done : take i to ≡ take i src

pub copied-turn : (src : List ℕ) (n : ℕ) (to₀ to : List ℕ) (i : ℕ) → Copied src n to₀ to i → i < n → n ≤ length src → n ≤ length to₀ → Copied src n to₀ (set to i (get_or src i 0)) (i + 1)
copied-turn src n to₀ to i h l a b = record {
  same = length-set to i (get_or src i 0) ∙ h.same;
  upto = omega arith;
  done =
      let it : i < length to = omega arith in
      let is : i < length src = omega arith in
      rw (add-one, take-suc-set to i (get_or src i 0) it, take-suc src i 0 is, h.done);
}

pub drop_more : (l r : List ℕ) (j : ℕ) → drop j l ≡ drop j r → drop (suc j) l ≡ drop (suc j) r
drop_more l r j e = rw (← add-one j) (sym (drop-drop 1 j l) ∙ ap (drop 1) e ∙ drop-drop 1 j r)

-- ---- a turn of the merge: which of the two fronts goes first
pub merge-right : (less : ℕ → ℕ → Bool) (ps qs : List ℕ) (i j : ℕ) → i < length ps → j < length qs → less (get_or qs j 0) (get_or ps i 0) ≡ true
    → merged less (drop i ps) (drop j qs) ≡ get_or qs j 0 ∷ merged less (drop i ps) (drop (suc j) qs)
merge-right less ps qs i j a b t = rw (drop-cons ps i 0 a, drop-cons qs j 0 b) (rw t)

pub merge-left : (less : ℕ → ℕ → Bool) (ps qs : List ℕ) (i j : ℕ) → i < length ps → j < length qs → less (get_or qs j 0) (get_or ps i 0) ≡ false
    → merged less (drop i ps) (drop j qs) ≡ get_or ps i 0 ∷ merged less (drop (suc i) ps) (drop j qs)
merge-left less ps qs i j a b t = rw (drop-cons ps i 0 a, drop-cons qs j 0 b) (rw t)

pub merge-last : (less : ℕ → ℕ → Bool) (ps qs : List ℕ) (i j : ℕ) → i < length ps → length qs ≤ j
    → merged less (drop i ps) (drop j qs) ≡ get_or ps i 0 ∷ merged less (drop (suc i) ps) (drop j qs)
merge-last less ps qs i j a b = rw (drop-cons ps i 0 a, drop_of_length-le qs b) (ap (λ (t : List ℕ). get_or ps i 0 ∷ t) (sym (merged-nil less (drop (suc i) ps))))

-- ---- the loop that merges: o₀ at its start, with m elements in its first part, which work has too; o now
pub record Merging (less : ℕ → ℕ → Bool) (o₀ : List ℕ) (m : ℕ) (work : List ℕ) (n : ℕ) (o : List ℕ) (i j k : ℕ) : Type 0 where
  pub same : length o ≡ length o₀
  pub whole : n ≡ length o₀
  pub front : take m work ≡ take m o₀
  pub room : m ≤ length work
  pub placed : k + m ≡ i + j
  pub left : i ≤ m
  pub mid : m ≤ j
  pub right : j ≤ n
  pub rest : drop j o ≡ drop j o₀
  pub done : take k o ++ merged less (drop i (take m o₀)) (drop j o₀) ≡ merged less (take m o₀) (drop m o₀)

module _ (less : ℕ → ℕ → Bool) (o₀ : List ℕ) (m : ℕ) (work : List ℕ) (n : ℕ) (o : List ℕ) (i j k : ℕ) (h : Merging less o₀ m work n o i j k) where
  pub merging-p : i < m → get_or work i 0 ≡ get_or o₀ i 0
  merging-p l = sym (get_or-take m work i 0 l) ∙ ap (λ (t : List ℕ). get_or t i 0) h.front ∙ get_or-take m o₀ i 0 l

  pub merging-q : get_or o j 0 ≡ get_or o₀ j 0
  merging-q = rw add-zero at (sym (get_or-drop j o 0 0) ∙ ap (λ (t : List ℕ). get_or t 0 0) h.rest ∙ get_or-drop j o₀ 0 0)

  -- v goes to k, and is the next of the merge of what is left
  turn : (v : ℕ) (tail : List ℕ) → k < length o → merged less (drop i (take m o₀)) (drop j o₀) ≡ v ∷ tail → take (k + 1) (set o k v) ++ tail ≡ merged less (take m o₀) (drop m o₀)
  turn v tail l e = rw (add-one, take-suc-set o k v l, append_assoc, ← e) h.done

  pub merging-right : i < m → j < n → less (get_or o j 0) (get_or work i 0) ≡ true → Merging less o₀ m work n (set o k (get_or o j 0)) i (j + 1) (k + 1)
  merging-right l r t =
      let kj : k < suc j = omega arith in
      let jo : j < length o₀ = omega arith in
      let il : i < length (take m o₀) = rw (length-take-le m o₀ (omega arith)) l in
      let t' : less (get_or o₀ j 0) (get_or (take m o₀) i 0) ≡ true = rw (get_or-take m o₀ i 0 l, ← merging-p l, ← merging-q) t in
      record {
        same = length-set o k (get_or o j 0) ∙ h.same;
        whole = h.whole;
        front = h.front;
        room = h.room;
        placed = omega arith;
        left = h.left;
        mid = omega arith;
        right = omega arith;
        rest = rw (add-one, drop-set-lt (suc j) o k (get_or o j 0) kj) (drop_more o o₀ j h.rest);
        done = rw (add-one j) (turn (get_or o j 0) (merged less (drop i (take m o₀)) (drop (suc j) o₀)) (omega arith)
            (rw merging-q (merge-right less (take m o₀) o₀ i j il jo t')));
      }

  pub merging-left : i < m → (j < n → less (get_or o j 0) (get_or work i 0) ≡ false) → Merging less o₀ m work n (set o k (get_or work i 0)) (i + 1) j (k + 1)
  merging-left l t =
      let L : List ℕ = take m o₀ in
      let il : i < length L = rw (length-take-le m o₀ (omega arith)) l in
      let pv : get_or work i 0 ≡ get_or L i 0 = merging-p l ∙ sym (get_or-take m o₀ i 0 l) in
      let e : merged less (drop i L) (drop j o₀) ≡ get_or L i 0 ∷ merged less (drop (suc i) L) (drop j o₀) =
      cases (ltb j n)
      (λ y. let jn : j < n = ltb-true j n y in
      merge-left less L o₀ i j il (omega arith) (rw (← pv, ← merging-q) (t jn)))
      (λ y. let jn : n ≤ j = ltb-false j n y in
      merge-last less L o₀ i j il (omega arith)) in
      record {
        same = length-set o k (get_or work i 0) ∙ h.same;
        whole = h.whole;
        front = h.front;
        room = h.room;
        placed = omega arith;
        left = omega arith;
        mid = h.mid;
        right = h.right;
        rest = drop-set-lt j o k (get_or work i 0) (omega arith) ∙ h.rest;
        done = rw (add-one i) (turn (get_or work i 0) (merged less (drop (suc i) L) (drop j o₀)) (omega arith) (rw pv e));
      }

  pub merging-end : m ≤ i → o ≡ merged less (take m o₀) (drop m o₀)
  merging-end l =
      let e : i ≡ m = omega arith in
      let k-j : k ≡ j = omega arith in
      let none : drop i (take m o₀) ≡ [] = drop_of_length-le (take m o₀) {i = i} (rw (length-take-le m o₀ (omega arith)) l) in
      let d : take j o ++ merged less [] (drop j o₀) ≡ merged less (take m o₀) (drop m o₀) = rw (none, k-j) at h.done in
      sym (take-append-drop j o) ∙ rw h.rest d

-- ---- the sort by its halves
-- keys that are numbers are in a total order
is_false : (b : Bool) → T (not b) → b ≡ false
is_false true h = absurd h
is_false false h = refl

not-true : (b : Bool) → b ≡ false → T (not b)
not-true b e = subst (λ (c : Bool). T (not c)) (sym e) tt

trans : (x y z : Float) → lt x y ≡ true → lt y z ≡ true → lt x z ≡ true
trans x y z p q = is_true (lt x z) (lt_trans x y z (subst T (sym p) tt) (subst T (sym q) tt))

cotrans : (x y z : Float) → T (number x) → T (number y) → T (number z) → lt x y ≡ false → lt y z ≡ false → lt x z ≡ false
cotrans x y z a b c p q = is_false (lt x z) (le→not-gt z x (le_trans z y x (not-gt→le z y c b (not-true (lt y z) q)) (not-gt→le y x b a (not-true (lt x y) p))))

-- a NaN placed below all numbers: the same order on keys that are no NaN
abbrev placed : List Float → ℕ → ℕ → Bool
placed keys a b = lt (or_bot (get_or keys a zero_f)) (or_bot (get_or keys b zero_f))

placed-cotrans : (keys : List Float) (a b c : ℕ) → placed keys a b ≡ false → placed keys b c ≡ false → placed keys a c ≡ false
placed-cotrans keys a b c = cotrans _ _ _ (or_bot-number (get_or keys a zero_f)) (or_bot-number (get_or keys b zero_f)) (or_bot-number (get_or keys c zero_f))

agree : (keys : List Float) (a b : ℕ) → HasKey keys a → HasKey keys b → by_key keys a b ≡ placed keys a b
unfolding by_key
agree keys a b p q = sym (ap₂ lt (or_bot-id (get_or keys a zero_f) p.1) (or_bot-id (get_or keys b zero_f) q.1))

pub sort-halves : (keys : List Float) (m : ℕ) (l : List ℕ) → Each (HasKey keys) l → merged (by_key keys) (sorted (by_key keys) (take m l)) (sorted (by_key keys) (drop m l)) ≡ sorted (by_key keys) l
sort-halves keys m l h =
    let P : ℕ → Type 0 = HasKey keys in
    let less = placed keys in
    let t : Each P (take m l) = each_take P m l h in
    let d : Each P (drop m l) = each-drop P m l h in
    ap₂ (merged (by_key keys)) (sorted-cong P (by_key keys) less (agree keys) (take m l) t) (sorted-cong P (by_key keys) less (agree keys) (drop m l) d)
    ∙ merged-cong P (by_key keys) less (agree keys) (sorted less (take m l)) (sorted less (drop m l)) (each-sorted P less (take m l) t) (each-sorted P less (drop m l) d)
    ∙ merged-sorted less (λ a b c. trans _ _ _) (placed-cotrans keys) (take m l) (drop m l)
    ∙ ap (sorted less) (take-append-drop m l)
    ∙ sym (sorted-cong P (by_key keys) less (agree keys) l h)

-- ---- two halves of a slice, lent one after the other
module _ (o s₁ s₂ : List ℕ) (m : ℕ) (h : m ≤ length o) (k : length s₁ ≡ length (take m o)) where
  half_length : length s₁ ≡ m
  half_length = k ∙ length-take-le m o h

  pub second-length : length (s₁ ++ drop m o) ≡ length o
  second-length = length_front o s₁ m k

  -- what is lent after the first half has come back
  pub second-half : take (length (s₁ ++ drop m o) - m) (drop m (s₁ ++ drop m o)) ≡ drop m o
  second-half = rw (second-length, drop_at s₁ (drop m o) m half_length) (take_all (length o - m) (drop m o) (simp length-drop (omega arith)))

  -- what is there after the second has
  pub both_halves : put_mid m (length (s₁ ++ drop m o) - m) (s₁ ++ drop m o) s₂ ≡ s₁ ++ s₂
  both_halves =
      let n : ℕ = length (s₁ ++ drop m o) - m in
      let e : drop n (drop m o) ≡ [] = drop_of_length-le (drop m o) {i = n} (simp (length-drop, second-length) (omega arith)) in
      rw (take_at s₁ (drop m o) m half_length, drop_at s₁ (drop m o) m half_length, e, append-nil s₂)

-- both halves sorted
module _ (less : ℕ → ℕ → Bool) (o s₁ s₂ : List ℕ) (m : ℕ) (h : m ≤ length o) (k : length s₁ ≡ length (take m o))
    (e₁ : s₁ ≡ sorted less (take m o)) (e₂ : s₂ ≡ sorted less (take (length (s₁ ++ drop m o) - m) (drop m (s₁ ++ drop m o)))) where
  pub halves : put_mid m (length (s₁ ++ drop m o) - m) (s₁ ++ drop m o) s₂ ≡ sorted less (take m o) ++ sorted less (drop m o)
  halves = both_halves o s₁ s₂ m h k ∙ ap₂ (λ (x y : List ℕ). x ++ y) e₁ (e₂ ∙ ap (sorted less) (second-half o s₁ s₂ m h k))

  sorted-length : length (sorted less (take m o)) ≡ m
  sorted-length = length-sorted less (take m o) ∙ length-take-le m o h

  pub halves-length : length (put_mid m (length (s₁ ++ drop m o) - m) (s₁ ++ drop m o) s₂) ≡ length o
  halves-length = rw (halves, length-append, sorted-length, length-sorted less (drop m o), length-drop) (omega arith)

  pub halves-each : (P : ℕ → Type 0) → Each P o → Each P (put_mid m (length (s₁ ++ drop m o) - m) (s₁ ++ drop m o) s₂)
  halves-each P b = rw halves (each_append P (sorted less (take m o)) (sorted less (drop m o)) (each-sorted P less (take m o) (each_take P m o b)) (each-sorted P less (drop m o) (each-drop P m o b)))

  pub halves-merge : (r : List ℕ) → r ≡ merged less (take m (put_mid m (length (s₁ ++ drop m o) - m) (s₁ ++ drop m o) s₂)) (drop m (put_mid m (length (s₁ ++ drop m o) - m) (s₁ ++ drop m o) s₂))
      → r ≡ merged less (sorted less (take m o)) (sorted less (drop m o))
  halves-merge r e = e ∙ ap (λ (l : List ℕ). merged less (take m l) (drop m l)) halves
      ∙ ap₂ (merged less) (take_at (sorted less (take m o)) (sorted less (drop m o)) m sorted-length) (drop_at (sorted less (take m o)) (sorted less (drop m o)) m sorted-length)
