-- The loops of the insertion sort. Assumes nothing.
use mathlib.Core.Path.{◌≡◌, refl, sym, ap, ◌∙◌}
use mathlib.Core.Bool.{Bool, true, false}
use mathlib.Core.List.{List, [], ◌∷◌, ◌++◌, append_assoc, append-nil}
use Prim.Native.Nat.{ℕ, suc, ◌+◌, ◌-◌, ◌≤◌, ◌<◌}
use native.Mathlib.Nat.{add-zero}
use native.Mathlib.Omega.{arith}
use native.Mathlib.Numerals.{add-one}
use lib.ListN.{length, take, drop, get_or, set, length-set, take-append-drop, drop_of_length-le, length-drop, length-append}
use lib.Seq.{take-suc-set, drop-cons, drop-set-lt, take_all, take-take, get_or-drop, get_or-take, drop-drop, set_split, length-take-le, take_at, drop_at, drop-length}
use borrow.Rule.Slice.PartMut.{put_mid}
use Rattle.tree_sort.specs.Sort.{inserted, sorted}
use Rattle.lists.specs.Lists.{Each}
use Rattle.tree_sort.proofs.Sorted.{each-sorted, length-sorted}
use Rattle.lists.proofs.Properties.{each_take, each-drop, each_append}
use Rattle.tree_sort.proofs.Sorting.{drop_more}

module _ (less : ℕ → ℕ → Bool) (o₀ : List ℕ) where
  -- ---- one element put among the others: those before place i - 1 are done, those from i on are as they were
  pub record Inserting (n x : ℕ) (o : List ℕ) (i : ℕ) : Type 0 where
    pub same : length o ≡ length o₀
    pub whole : n ≡ length o₀
    pub low : 1 ≤ i
    pub upto : i ≤ n
    pub rest : drop i o ≡ drop i o₀
    pub done : take (i - 1) o ++ inserted less x (drop i o₀) ≡ inserted less x (drop 1 o₀)

  pub inserting-start : (x : ℕ) → 0 < length o₀ → Inserting (length o₀) x o₀ 1
  inserting-start x h = record { same = refl; whole = refl; low = omega arith; upto = h; rest = refl; done = refl }

  module _ (n x : ℕ) (o : List ℕ) (i : ℕ) (h : Inserting n x o i) where
    pub inserting-next : get_or o i 0 ≡ get_or o₀ i 0
    inserting-next = rw add-zero at (sym (get_or-drop i o 0 0) ∙ ap (λ (t : List ℕ). get_or t 0 0) h.rest ∙ get_or-drop i o₀ 0 0)

    inserted-next : i < length o₀ → less (get_or o₀ i 0) x ≡ true → inserted less x (drop i o₀) ≡ get_or o₀ i 0 ∷ inserted less x (drop (suc i) o₀)
    unfolding inserted
    inserted-next l t = rw (drop-cons o₀ i 0 l) (rw t)

    inserted-here : i < length o₀ → less (get_or o₀ i 0) x ≡ false → inserted less x (drop i o₀) ≡ x ∷ drop i o₀
    unfolding inserted
    inserted-here l t = rw (drop-cons o₀ i 0 l) (rw t)

    inserted-last : length o₀ ≤ i → inserted less x (drop i o₀) ≡ x ∷ drop i o₀
    unfolding inserted
    inserted-last l = rw (drop_of_length-le o₀ {i = i} l)

    pub inserting-turn : i < n → less (get_or o i 0) x ≡ true → Inserting n x (set o (i - 1) (get_or o i 0)) (i + 1)
    inserting-turn l t =
        let k : ℕ = i - 1 in
        let v : ℕ = get_or o i 0 in
        let ki : suc k ≡ i = omega (arith, h.low) in
        let i1 : i + 1 - 1 ≡ suc k = omega (arith, h.low) in
        let e : inserted less x (drop i o₀) ≡ v ∷ inserted less x (drop (suc i) o₀) = rw inserting-next (inserted-next (omega (arith, h.whole)) (rw inserting-next at t)) in
        record {
          same = length-set o k v ∙ h.same;
          whole = h.whole;
          low = omega arith;
          upto = omega arith;
          rest = rw (add-one, drop-set-lt (suc i) o k v (omega arith)) (drop_more o o₀ i h.rest);
          done = rw (i1, add-one, take-suc-set o k v (omega (arith, h.same, h.whole)), append_assoc, ← e) h.done;
        }

    placed : inserted less x (drop i o₀) ≡ x ∷ drop i o₀ → set o (i - 1) x ≡ inserted less x (drop 1 o₀)
    placed e =
        let k : ℕ = i - 1 in
        let ki : suc k ≡ i = omega (arith, h.low) in
        set_split o k x (omega (arith, h.same, h.whole, h.upto)) ∙ rw (ki, h.rest, ← e) h.done

    pub inserting-here : i < n → less (get_or o i 0) x ≡ false → set o (i - 1) x ≡ inserted less x (drop 1 o₀)
    inserting-here l t = placed (inserted-here (omega (arith, h.whole)) (rw inserting-next at t))

    pub inserting-end : n ≤ i → set o (i - 1) x ≡ inserted less x (drop 1 o₀)
    inserting-end l = placed (inserted-last (omega (arith, h.whole)))

  -- ---- from the last element back: those from i on are sorted, those before i are as they were
  pub record Suffixed (o : List ℕ) (i : ℕ) : Type 0 where
    pub same : length o ≡ length o₀
    pub upto : i ≤ length o₀
    pub front : take i o ≡ take i o₀
    pub done : drop i o ≡ sorted less (drop i o₀)

  pub suffixed-start : Suffixed o₀ (length o₀)
  unfolding sorted
  suffixed-start = record { same = refl; upto = omega arith; front = refl; done = rw (drop-length o₀) }

  module _ (o : List ℕ) (i : ℕ) (s : List ℕ) (h : Suffixed o i) (l : 0 < i) where
    abbrev k : ℕ
    k = i - 1

    -- what is lent to the insertion
    abbrev part : List ℕ
    part = take (length o - k) (drop k o)

    next : suc k ≡ i
    next = omega arith

    pub suffixed-part : part ≡ drop k o
    suffixed-part = take_all (length o - k) (drop k o) (rw length-drop (omega arith))

    pub suffixed-each : (P : ℕ → Type 0) → Each P o₀ → Each P part
    suffixed-each P e =
        let all : Each P o = rw (← (take-append-drop i o), h.front, h.done) (each_append P (take i o₀) (sorted less (drop i o₀)) (each_take P i o₀ e) (each-sorted P less (drop i o₀) (each-drop P i o₀ e))) in
        each_take P (length o - k) (drop k o) (each-drop P k o all)

    first : get_or part 0 0 ≡ get_or o₀ k 0
    first =
        let a : get_or (drop k o) 0 0 ≡ get_or o k 0 = rw add-zero at (get_or-drop k o 0 0) in
        let b : get_or o k 0 ≡ get_or o₀ k 0 = sym (get_or-take i o k 0 (omega arith)) ∙ ap (λ (t : List ℕ). get_or t k 0) h.front ∙ get_or-take i o₀ k 0 (omega arith) in
        ap (λ (t : List ℕ). get_or t 0 0) suffixed-part ∙ a ∙ b

    others : drop 1 part ≡ sorted less (drop (suc k) o₀)
    others =
        let j : k + 1 ≡ i = omega arith in
        ap (drop 1) suffixed-part ∙ drop-drop 1 k o ∙ rw (j, next) h.done

    module _ (e : s ≡ inserted less (get_or part 0 0) (drop 1 part)) where
      suffix : s ≡ sorted less (drop k o₀)
      unfolding sorted
      suffix = e ∙ rw (first, others, drop-cons o₀ k 0 (omega (arith, h.upto)))

      pub suffixed-turn : Suffixed (put_mid k (length o - k) o s) k
      suffixed-turn =
          let tk : length (take k o) ≡ k = length-take-le k o (omega (arith, h.same, h.upto)) in
          let none : drop (length o - k) (drop k o) ≡ [] = drop_of_length-le (drop k o) {i = length o - k} (rw length-drop (omega arith)) in
          let ls : length s ≡ length o₀ - k = ap length suffix ∙ length-sorted less (drop k o₀) ∙ length-drop k o₀ in
          let all : put_mid k (length o - k) o s ≡ take k o ++ s = rw (none, append-nil s) in
          record {
            same = ap length all ∙ length-append (take k o) s ∙ omega (arith, tk, ls, h.upto);
            upto = omega (arith, h.upto);
            front = rw (all, take_at (take k o) s k tk) (sym (take-take k i o (omega arith)) ∙ ap (take k) h.front ∙ take-take k i o₀ (omega arith));
            done = rw (all, drop_at (take k o) s k tk) suffix;
          }

  pub suffixed-end : (o : List ℕ) (i : ℕ) → Suffixed o i → i ≤ 0 → o ≡ sorted less o₀
  suffixed-end o i h l = let e : i ≡ 0 = omega arith in rw e at h.done
