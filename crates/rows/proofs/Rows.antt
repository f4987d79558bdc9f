-- Laws of rows, once over the width k and the type of the elements. Assumes nothing.
use mathlib.Core.Path.{◌≡◌, refl, sym, ap, ◌∙◌}
use mathlib.Core.Logic.{◌≢◌}
use mathlib.Core.Bool.{Bool, true, false}
use mathlib.Core.List.{List, [], ◌∷◌, ◌++◌, append_assoc, append-nil}
use Prim.Native.Nat.{ℕ, zero, suc, ◌+◌, ◌-◌, ◌*◌, ◌≤◌, ◌<◌}
use native.Mathlib.Nat.{not-suc-le-zero, le_of_suc-le-suc, mul-le-mul_right, zero-mul, suc-mul, add-mul, zero-add, suc-add, add-zero, add-suc, add_comm, sub_self}
use native.Mathlib.Numerals.{add-one}
use native.Mathlib.Omega.{arith}
use borrow.Author.Tests.{ltb-true, ltb-false}
use lib.Dec.{ltb}
use lib.ListN.{length, take, drop, get_or, set, replicate, length-append, length-drop, length-set, length-replicate, take-append-drop, replicate-append-replicate}
use lib.Seq.{sets, sets-eq, length-sets, drop-drop, take-set-le, drop-set-lt, drop-set-add, take-suc-set, take_at, drop_at, take-add, take_all, drop-cons, take-nil, take-append-le, drop-append-le, length-take-le, get_or-take, get_or-drop, ext_get_or}
use Rattle.rows.specs.Rows.{row, set_row, view, flat, padded}

-- ---- lists: runs of stores, and a part of a part
module _ {ℓ} {A : Type ℓ} where
  pub take-drop : (k n : ℕ) (l : List A) → take k (drop n l) ≡ drop n (take (n + k) l)
  take-drop k zero l = rw zero-add
  take-drop k (suc n) [] = rw (suc-add, take-nil k)
  take-drop k (suc n) (x ∷ l) = rw suc-add (take-drop k n l)

  -- stores from n on leave what is before
  pub take-sets-le : (n : ℕ) (l : List A) (i : ℕ) (vs : List A) → n ≤ i → take n (sets l i vs) ≡ take n l
  take-sets-le n l i [] h = refl
  take-sets-le n l i (v ∷ vs) h = take-sets-le n (set l i v) (suc i) vs (omega arith) ∙ take-set-le n l i v h

  -- stores before n leave what is from n on
  pub drop-sets-le : (n : ℕ) (l : List A) (i : ℕ) (vs : List A) → i + length vs ≤ n → drop n (sets l i vs) ≡ drop n l
  drop-sets-le n l i [] h = refl
  drop-sets-le n l i (v ∷ vs) h = drop-sets-le n (set l i v) (suc i) vs (omega arith) ∙ drop-set-lt n l i v (omega arith)

  pub drop-sets-add : (n : ℕ) (l : List A) (i : ℕ) (vs : List A) → drop n (sets l (n + i) vs) ≡ sets (drop n l) i vs
  drop-sets-add n l i [] = refl
  drop-sets-add n l i (v ∷ vs) = rw (← add-suc n i) (drop-sets-add n (set l (n + i) v) (suc i) vs ∙ rw drop-set-add)

  pub sets-front : (vs l : List A) → length vs ≤ length l → sets l 0 vs ≡ vs ++ drop (length vs) l
  sets-front vs l h = sets-eq vs l 0 (omega arith) ∙ rw zero-add

  -- a run of stores, and then another where it ends
  pub sets-append : (vs ws l : List A) (i : ℕ) → sets (sets l i vs) (i + length vs) ws ≡ sets l i (vs ++ ws)
  sets-append [] ws l i = rw add-zero
  sets-append (v ∷ vs) ws l i = let e : i + suc (length vs) ≡ suc i + length vs = omega arith in rw e (sets-append vs ws (set l i v) (suc i))

  pub sets_more : (i j : ℕ) (vs ws l m n : List A) → length vs ≡ j → m ≡ sets l i vs → n ≡ sets m (i + j) ws → n ≡ sets l i (vs ++ ws)
  sets_more i j vs ws l m n w d e = e ∙ rw (d, ← w) (sets-append vs ws l i)

-- ---- one row
module _ {ℓ} {A : Type ℓ} where
  -- element j of row i
  pub get_d-row : (k i j : ℕ) (xs : List A) (d : A) → j < k → get_or (row k i xs) j d ≡ get_or xs (i * k + j) d
  get_d-row k i j xs d h = get_or-take k (drop (i * k) xs) j d h ∙ get_or-drop (i * k) xs j d

  pub get_d-row-first : (k i : ℕ) (xs : List A) (d : A) → 0 < k → get_or (row k i xs) 0 d ≡ get_or xs (i * k) d
  get_d-row-first k i xs d h = get_d-row k i 0 xs d h ∙ rw add-zero

  pub length-row : (k i : ℕ) (xs : List A) → i * k + k ≤ length xs → length (row k i xs) ≡ k
  length-row k i xs h = length-take-le k (drop (i * k) xs) (simp length-drop (omega arith))

  pub length-set_row : (k i : ℕ) (r xs : List A) → length (set_row k i r xs) ≡ length xs
  length-set_row k i r xs = length-sets xs (i * k) r

  -- a row that was written is read back
  pub row_same : (k i : ℕ) (r xs : List A) → length r ≡ k → i * k + k ≤ length xs → row k i (set_row k i r xs) ≡ r
  row_same k i r xs wide fit =
      let fits : length r ≤ length (drop (i * k) xs) = simp length-drop (omega arith) in
      let d : drop (i * k) (sets xs (i * k + 0) r) ≡ r ++ drop (length r) (drop (i * k) xs) = drop-sets-add (i * k) xs 0 r ∙ sets-front r (drop (i * k) xs) fits in
      ap (λ (m : ℕ). take k (drop (i * k) (sets xs m r))) (sym (add-zero (i * k))) ∙ ap (take k) d ∙ take_at r (drop (length r) (drop (i * k) xs)) k wide

  -- and every other row stays
  pub row_other : (k i j : ℕ) (r xs : List A) → length r ≡ k → j ≢ i → row k j (set_row k i r xs) ≡ row k j xs
  row_other k i j r xs wide d = by (ltb j i) (ltb-true j i) (ltb-false j i)
    where
      by : (t : Bool) → (t ≡ true → j < i) → (t ≡ false → i ≤ j) → row k j (set_row k i r xs) ≡ row k j xs
      by true h g =
          let m : j * k + k ≤ i * k = omega (arith, mul-le-mul_right k (h refl), suc-mul j k) in
          take-drop k (j * k) (sets xs (i * k) r) ∙ ap (drop (j * k)) (take-sets-le (j * k + k) xs (i * k) r m) ∙ sym (take-drop k (j * k) xs)
      by false h g =
          let l : i < j = omega (arith, g refl, d) in
          let m : i * k + length r ≤ j * k = omega (arith, mul-le-mul_right k l, suc-mul i k) in
          ap (take k) (drop-sets-le (j * k) xs (i * k) r m)

-- ---- a row as straight-line code reads and writes it: at b, b + 1, b + 2, ..
module _ {ℓ} {A : Type ℓ} where
  abbrev read_on : A → List A → ℕ → ℕ → ℕ → List A
  read_on d xs b j zero = []
  read_on d xs b j (suc n) = get_or xs (b + j) d ∷ read_on d xs b (suc j) n

  abbrev pub cells : A → List A → ℕ → ℕ → List A
  cells d xs b zero = []
  cells d xs b (suc n) = get_or xs b d ∷ read_on d xs b 1 n

  abbrev writeOn : List A → ℕ → ℕ → List A → List A
  writeOn xs b j [] = xs
  writeOn xs b j (v ∷ vs) = writeOn (set xs (b + j) v) b (suc j) vs

  abbrev pub written : List A → ℕ → List A → List A
  written xs b [] = xs
  written xs b (v ∷ vs) = writeOn (set xs b v) b 1 vs

  module _ (xs : List A) (d : A) (b : ℕ) where
    read-on : (n j : ℕ) → b + j + n ≤ length xs → take n (drop (b + j) xs) ≡ read_on d xs b j n
    read-on zero j h = refl
    read-on (suc n) j h =
        rw (drop-cons xs (b + j) d (omega arith)) (ap (λ (t : List A). get_or xs (b + j) d ∷ t) (rw (← add-suc b j) (read-on n (suc j) (omega arith))))

    pub part-cells : (n : ℕ) → b + n ≤ length xs → take n (drop b xs) ≡ cells d xs b n
    part-cells zero h = refl
    part-cells (suc n) h = rw (drop-cons xs b d (omega arith)) (ap (λ (t : List A). get_or xs b d ∷ t) (rw (← add-one b) (read-on n 1 (omega arith))))

  -- what the code reads is the row
  pub row-cells : (k i : ℕ) (xs : List A) (d : A) → i * k + k ≤ length xs → row k i xs ≡ cells d xs (i * k) k
  row-cells k i xs d h = part-cells xs d (i * k) k h

  -- all elements of a list, by name where its length n is written
  pub cells-all : (l : List A) (d : A) (n : ℕ) → length l ≡ n → cells d l 0 n ≡ l
  cells-all l d n e = sym (part-cells l d 0 n (omega arith)) ∙ take_all n l (omega arith)

  write-on : (b : ℕ) (vs xs : List A) (j : ℕ) → writeOn xs b j vs ≡ sets xs (b + j) vs
  write-on b [] xs j = refl
  write-on b (v ∷ vs) xs j = write-on b vs (set xs (b + j) v) (suc j) ∙ ap (λ (m : ℕ). sets (set xs (b + j) v) m vs) (add-suc b j)

  -- what the code leaves is the row replaced
  pub written_is : (b : ℕ) (r xs : List A) → written xs b r ≡ sets xs b r
  written_is b [] xs = refl
  written_is b (v ∷ vs) xs = write-on b vs (set xs b v) 1 ∙ ap (λ (m : ℕ). sets (set xs b v) m vs) (add-one b)

-- ---- the first n rows
module _ {ℓ κ} {A : Type ℓ} {B : Type κ} (k : ℕ) (f : List A → B) where
  pub length-view : (n : ℕ) (xs : List A) → length (view k f n xs) ≡ n
  unfolding view
  length-view zero xs = refl
  length-view (suc n) xs = ap suc (length-view n (drop k xs))

  -- row i
  pub get_d-view : (n i : ℕ) (xs : List A) (d : B) → i < n → get_or (view k f n xs) i d ≡ f (row k i xs)
  unfolding view
  get_d-view zero i xs d h = absurd (not-suc-le-zero h)
  get_d-view (suc n) zero xs d h = rw zero-mul
  get_d-view (suc n) (suc i) xs d h = get_d-view n i (drop k xs) d (le_of_suc-le-suc h) ∙ rw (drop-drop, suc-mul, add_comm k (i * k))

  -- one more row
  pub view-more : (n : ℕ) (xs : List A) → view k f (suc n) xs ≡ view k f n xs ++ (f (row k n xs) ∷ [])
  unfolding view
  view-more zero xs = rw zero-mul
  view-more (suc n) xs = ap (λ (t : List B). f (take k xs) ∷ t) (view-more n (drop k xs) ∙ rw (drop-drop, suc-mul, add_comm k (n * k)))

  -- a view of rows within a list looks at that list alone
  pub view-append : (n : ℕ) (xs ys : List A) → n * k ≤ length xs → view k f n (xs ++ ys) ≡ view k f n xs
  unfolding view
  view-append zero xs ys h = refl
  view-append (suc n) xs ys h =
      let kl : k ≤ length xs = omega (arith, suc-mul n k) in
      let fit : n * k ≤ length (drop k xs) = simp length-drop (omega (arith, suc-mul n k)) in
      rw (take-append-le k xs ys kl, drop-append-le k xs ys kl) (ap (λ (t : List B). f (take k xs) ∷ t) (view-append n (drop k xs) ys fit))

  -- and at its own rows alone
  pub view-take : (n : ℕ) (xs : List A) → n * k ≤ length xs → view k f n (take (n * k) xs) ≡ view k f n xs
  view-take n xs h =
      sym (view-append n (take (n * k) xs) (drop (n * k) xs) (omega (arith, length-take-le (n * k) xs h))) ∙ ap (view k f n) (take-append-drop (n * k) xs)

  -- a row replaced is its value replaced: each law of `set` and `get_or` serves rows
  pub view-set_row : (n i : ℕ) (r xs : List A) → length r ≡ k → i < n → n * k ≤ length xs → view k f n (set_row k i r xs) ≡ set (view k f n xs) i (f r)
  unfolding view
  view-set_row zero i r xs e h l = absurd (not-suc-le-zero h)
  view-set_row (suc n) zero r xs e h l =
      let s : sets xs (0 * k) r ≡ r ++ drop (length r) xs = rw zero-mul (sets-front r xs (omega (arith, suc-mul n k))) in
      rw (s, take_at r (drop (length r) xs) k e, drop_at r (drop (length r) xs) k e, e)
  view-set_row (suc n) (suc i) r xs e h l =
      let m : suc i * k ≡ k + i * k = omega (arith, suc-mul i k) in
      let fit : n * k ≤ length (drop k xs) = simp length-drop (omega (arith, suc-mul n k)) in
      rw (m, take-sets-le k xs (k + i * k) r (omega arith), drop-sets-add k xs (i * k) r)
      (ap (λ (t : List B). f (take k xs) ∷ t) (view-set_row n i r (drop k xs) e (le_of_suc-le-suc h) fit))

  -- the rows before one that is replaced stay
  pub view-kept : (n i : ℕ) (r xs : List A) → n ≤ i → n * k ≤ length xs → view k f n (set_row k i r xs) ≡ view k f n xs
  view-kept n i r xs h l =
      sym (view-take n (set_row k i r xs) (simp length-sets (omega arith)))
      ∙ ap (view k f n) (take-sets-le (n * k) xs (i * k) r (mul-le-mul_right k h))
      ∙ view-take n xs l

  -- row n written: the rows before it, and then it
  pub view-written : (n : ℕ) (r xs : List A) → length r ≡ k → n * k + k ≤ length xs → view k f (n + 1) (set_row k n r xs) ≡ view k f n xs ++ (f r ∷ [])
  view-written n r xs wide fit = rw (add-one, view-more n (set_row k n r xs), view-kept n n r xs (omega arith) (omega arith), row_same k n r xs wide fit)

  -- ---- values laid out as rows
  module _ (g : B → List A) (wide : (b : B) → length (g b) ≡ k) where
    pub length-flat : (bs : List B) → length (flat g bs) ≡ length bs * k
    unfolding flat
    length-flat [] = rw zero-mul
    length-flat (b ∷ bs) = length-append (g b) (flat g bs) ∙ rw (wide b, length-flat bs, suc-mul, add_comm k (length bs * k))

    -- what was laid out as rows is read as rows
    pub view-flat : ((b : B) → f (g b) ≡ b) → (bs : List B) (ys : List A) → view k f (length bs) (flat g bs ++ ys) ≡ bs
    unfolding view flat
    view-flat back [] ys = refl
    view-flat back (b ∷ bs) ys =
        rw (append_assoc, take_at (g b) (flat g bs ++ ys) k (wide b), drop_at (g b) (flat g bs ++ ys) k (wide b), back b)
        (ap (λ (t : List B). b ∷ t) (view-flat back bs ys))

    -- and the other way round: rows that are read and laid out again are those rows
    pub flat_view : ((r : List A) → length r ≡ k → g (f r) ≡ r) → (n : ℕ) (xs : List A) → n * k ≤ length xs → flat g (view k f n xs) ≡ take (n * k) xs
    unfolding view flat
    flat_view back zero xs h = rw zero-mul
    flat_view back (suc n) xs h =
        let kl : k ≤ length xs = omega (arith, suc-mul n k) in
        let fit : n * k ≤ length (drop k xs) = simp length-drop (omega (arith, suc-mul n k)) in
        let m : suc n * k ≡ k + n * k = omega (arith, suc-mul n k) in
        rw (back (take k xs) (length-take-le k xs kl), flat_view back n (drop k xs) fit, m, take-add)

-- ---- results, then zeros
module _ {ℓ} {A : Type ℓ} (z : A) where
  -- once zeros stand from n on, n elements and then zeros
  pub padded-of : (xs done : List A) (n : ℕ) → take n xs ≡ done → length done ≡ n → drop n xs ≡ replicate (length xs - n) z → xs ≡ padded z (length xs) done
  unfolding padded
  padded-of xs done n e l h = sym (take-append-drop n xs) ∙ rw (e, h, l)

  -- what a clear from n on leaves
  pub padded-take : (xs : List A) (n : ℕ) → n ≤ length xs → take n xs ++ replicate (length xs - n) z ≡ padded z (length xs) (take n xs)
  unfolding padded
  padded-take xs n h = rw (length-take-le n xs h)

  -- element i of a padded list, where z is what is read past a list's end
  pub get_d-padded : (n : ℕ) (xs : List A) (i : ℕ) → get_or (padded z n xs) i z ≡ get_or xs i z
  unfolding padded
  get_d-padded n xs i = go xs i
    where
      zs : (m j : ℕ) → get_or (replicate m z) j z ≡ z
      zs zero j = refl
      zs (suc m) zero = refl
      zs (suc m) (suc j) = zs m j

      go : (ys : List A) (j : ℕ) → get_or (ys ++ replicate (n - length xs) z) j z ≡ get_or ys j z
      go [] j = zs (n - length xs) j
      go (y ∷ ys) zero = refl
      go (y ∷ ys) (suc j) = go ys j

-- a list whose first n rows are those of bs and then zero rows, with zeros after them, is bs laid out and then zeros
module _ {ℓ κ} {A : Type ℓ} {B : Type κ} (k : ℕ) (f : List A → B) (g : B → List A) (wide : (b : B) → length (g b) ≡ k) (back : (r : List A) → length r ≡ k → g (f r) ≡ r) where
  pub flat_append : (bs cs : List B) → flat g (bs ++ cs) ≡ flat g bs ++ flat g cs
  unfolding flat
  flat_append [] cs = refl
  flat_append (b ∷ bs) cs = rw (flat_append bs cs, append_assoc)

  module _ (zb : B) (z : A) (zeros : g zb ≡ replicate k z) where
    flat-zeros : (n : ℕ) → flat g (replicate n zb) ≡ replicate (n * k) z
    unfolding flat
    flat-zeros zero = rw zero-mul
    flat-zeros (suc n) = rw (zeros, flat-zeros n, replicate-append-replicate k (n * k) z, suc-mul, add_comm k (n * k))

    module _ (n : ℕ) (xs : List A) (bs : List B) (fit : n * k ≤ length xs) (few : length bs ≤ n) where
      view-padded : ((i : ℕ) → i < n → f (row k i xs) ≡ get_or bs i zb) → view k f n xs ≡ padded zb n bs
      unfolding padded
      view-padded each = ext_get_or zb (view k f n xs) (bs ++ replicate (n - length bs) zb)
          (length-view k f n xs ∙ sym (length-append bs (replicate (n - length bs) zb) ∙ rw length-replicate (omega arith)))
          (λ i h. let l : i < n = rw (length-view k f n xs) at h in get_d-view k f n i xs zb l ∙ each i l ∙ sym (get_d-padded zb n bs i))

      rows-padded : ((i : ℕ) → i < n → f (row k i xs) ≡ get_or bs i zb) → take (n * k) xs ≡ flat g bs ++ replicate ((n - length bs) * k) z
      unfolding padded
      rows-padded each =
          sym (flat_view k f g wide back n xs fit)
          ∙ ap (flat g) (view-padded each)
          ∙ flat_append bs (replicate (n - length bs) zb)
          ∙ rw (flat-zeros (n - length bs))

      pub padded-rows : ((i : ℕ) → i < n → f (row k i xs) ≡ get_or bs i zb) → drop (n * k) xs ≡ replicate (length xs - n * k) z → xs ≡ padded z (length xs) (flat g bs)
      unfolding padded
      padded-rows each rest =
          let joined : n - length bs + length bs ≡ n = omega arith in
          let split : (n - length bs) * k + length bs * k ≡ n * k = sym (add-mul (n - length bs) (length bs) k) ∙ rw joined in
          let all : (n - length bs) * k + (length xs - n * k) ≡ length xs - length (flat g bs) = rw (length-flat k f g wide bs) (omega arith) in
          sym (take-append-drop (n * k) xs)
          ∙ rw (rows-padded each, rest, append_assoc, replicate-append-replicate ((n - length bs) * k) (length xs - n * k) z, all)

-- ---- a loop that writes z from f on: what holds at i, with its laws at the loop's start, turn and end
module _ {ℓ} {A : Type ℓ} where
  pub record Filled (z : A) (xs₀ : List A) (f : ℕ) (xs : List A) (i : ℕ) : Type ℓ where
    pub same : length xs ≡ length xs₀
    pub from : f ≤ i
    pub upto : i ≤ length xs
    pub done : take i xs ≡ take f xs₀ ++ replicate (i - f) z

  pub filled-start : (z : A) (xs : List A) (f : ℕ) → f ≤ length xs → Filled z xs f xs f
  filled-start z xs f h = record { same = refl; from = omega arith; upto = h; done = sym (ap (λ (n : ℕ). take f xs ++ replicate n z) (sub_self f) ∙ append-nil (take f xs)) }

  pub filled-turn : (z : A) (xs₀ : List A) (f : ℕ) (xs : List A) (i : ℕ) → Filled z xs₀ f xs i → i < length xs → Filled z xs₀ f (set xs i z) (i + 1)
  filled-turn z xs₀ f xs i h l = record {
    same = length-set xs i z ∙ h.same;
    from = omega arith;
    upto = simp length-set (omega arith);
    done = let m : i - f + 1 ≡ i + 1 - f = omega arith in
        rw (add-one i, take-suc-set xs i z l, h.done, append_assoc, replicate-append-replicate (i - f) 1 z, m) (rw (← add-one i));
  }

  pub filled-end : (z : A) (xs₀ : List A) (f : ℕ) (xs : List A) (i : ℕ) → Filled z xs₀ f xs i → length xs ≤ i → xs ≡ take f xs₀ ++ replicate (length xs₀ - f) z
  filled-end z xs₀ f xs i h l =
      let e : i ≡ length xs₀ = omega arith in
      sym (take_all i xs l) ∙ h.done ∙ ap (λ (n : ℕ). take f xs₀ ++ replicate (n - f) z) e
