-- Two lists one after the other, element by element, and the loop that writes them and then zeros. Assumes nothing.
use Prim.Native.Nat.{ℕ, zero, suc, ◌+◌, ◌-◌, ◌*◌, ◌≤◌, ◌<◌}
use mathlib.Core.Path.{◌≡◌, refl, sym, ap, ap₂, ◌∙◌}
use mathlib.Core.List.{List, [], ◌∷◌, ◌++◌, map}
use native.Mathlib.Nat.{not-suc-le-zero, le_of_suc-le-suc, zero-mul, suc-mul}
use native.Mathlib.Numerals.{add-one}
use native.Mathlib.Omega.{arith}
use lib.ListN.{length, take, get_or, set, replicate, length-append, length-set, length-replicate, get_or-eq_default, get_or-append}
use lib.Seq.{take-suc, take-suc-set, take_all, get_or-take, length-take-le, get_or-append-add}
use Rattle.rows.specs.Rows.{flat, padded}
use Rattle.rows.proofs.Rows.{get_d-padded}

module _ {A : Type 0} where
  -- an element that is there does not hang on what is read past the end
  pub get_d_any : (l : List A) (k : ℕ) (d e : A) → k < length l → get_or l k d ≡ get_or l k e
  get_d_any [] k d e h = absurd (not-suc-le-zero h)
  get_d_any (x ∷ l) zero d e h = refl
  get_d_any (x ∷ l) (suc k) d e h = get_d_any l k d e (le_of_suc-le-suc h)

  -- ---- element k of two lists one after the other
  module _ (l r : List A) (k : ℕ) (d z : A) where
    pub in-first : k < length l → get_or l k d ≡ get_or (l ++ r) k z
    in-first h = get_d_any l k d z h ∙ sym (get_or-append l r z k h)

    pub in-second : (j : ℕ) → length l + j ≡ k → j < length r → get_or r j d ≡ get_or (l ++ r) k z
    in-second j e h = get_d_any r j d z h ∙ sym (get_or-append-add l r j z) ∙ ap (λ (n : ℕ). get_or (l ++ r) n z) e

    pub past-both : length l + length r ≤ k → z ≡ get_or (l ++ r) k z
    past-both h = sym (get_or-eq_default (l ++ r) z (omega (arith, length-append l r)))

  -- ---- and of their first elements
  module _ (n m : ℕ) (xs ys : List A) (k : ℕ) (d z : A) (fit : n ≤ length xs) where
    many : length (take n xs) ≡ n
    many = length-take-le n xs fit

    pub number-first : k < n → get_or xs k d ≡ get_or (take n xs ++ take m ys) k z
    number-first h = sym (get_or-take n xs k d h) ∙ in-first (take n xs) (take m ys) k d z (omega (arith, many))

    module _ (fit' : m ≤ length ys) (past : n ≤ k) where
      pub number-second : k - n < m → get_or ys (k - n) d ≡ get_or (take n xs ++ take m ys) k z
      number-second h = sym (get_or-take m ys (k - n) d h) ∙ in-second (take n xs) (take m ys) k d z (k - n) (omega (arith, many)) (omega (arith, length-take-le m ys fit'))

      pub number_past : m ≤ k - n → z ≡ get_or (take n xs ++ take m ys) k z
      number_past h = past-both (take n xs) (take m ys) k d z (omega (arith, many, length-take-le m ys fit'))

  pub first-length : (n m : ℕ) (xs ys : List A) → n ≤ length xs → m ≤ length ys → length (take n xs ++ take m ys) ≡ n + m
  first-length n m xs ys h l = length-append (take n xs) (take m ys) ∙ ap₂ ◌+◌ (length-take-le n xs h) (length-take-le m ys l)

  -- ---- the loop: what holds at place k
  pub record Laid (z : A) (vs out₀ out : List A) (k : ℕ) : Type 0 where
    pub same : length out ≡ length out₀
    pub upto : k ≤ length out₀
    pub done : take k out ≡ take k (padded z (length out₀) vs)

  module _ (z : A) (vs out₀ : List A) where
    pub laid-start : Laid z vs out₀ out₀ 0
    laid-start = record { same = refl; upto = omega arith; done = refl }

    module _ (fit : length vs ≤ length out₀) where
      all-places : length (padded z (length out₀) vs) ≡ length out₀
      unfolding padded
      all-places =
          length-append vs (replicate (length out₀ - length vs) z) ∙ ap (λ (n : ℕ). length vs + n) (length-replicate (length out₀ - length vs) z) ∙ omega arith

      pub laid-turn : (out : List A) (k : ℕ) → Laid z vs out₀ out k → k < length out → (x : A) → x ≡ get_or vs k z → Laid z vs out₀ (set out k x) (k + 1)
      laid-turn out k h l x e = record {
        same = length-set out k x ∙ h.same;
        upto = omega (arith, h.same);
        done = rw (add-one k, take-suc-set out k x l, take-suc (padded z (length out₀) vs) k z (omega (arith, all-places, h.same)), h.done, get_d-padded z (length out₀) vs k, e);
      }

      pub laid_end : (out : List A) (k : ℕ) → Laid z vs out₀ out k → length out ≤ k → out ≡ padded z (length out₀) vs
      laid_end out k h l =
          sym (take_all k out l) ∙ h.done ∙ take_all k (padded z (length out₀) vs) (omega (arith, all-places, h.same))

-- ---- element i of a list that goes through f
pub get_d_map : {A B : Type 0} (f : A → B) (l : List A) (i : ℕ) (d : A) (e : B) → i < length l → get_or (map f l) i e ≡ f (get_or l i d)
get_d_map f [] i d e h = absurd (not-suc-le-zero h)
get_d_map f (x ∷ l) zero d e h = refl
get_d_map f (x ∷ l) (suc i) d e h = get_d_map f l i d e (le_of_suc-le-suc h)

-- ---- element j of row i, of values laid out as rows
module _ {A B : Type 0} (k : ℕ) (g : B → List A) (wide : (b : B) → length (g b) ≡ k) where
  pub flat-at : (bs : List B) (i j : ℕ) (b : B) (z : A) → i < length bs → j < k → get_or (flat g bs) (i * k + j) z ≡ get_or (g (get_or bs i b)) j z
  unfolding flat
  flat-at [] i j b z h l = absurd (not-suc-le-zero h)
  flat-at (x ∷ bs) zero j b z h l =
      let e : zero * k + j ≡ j = omega (arith, zero-mul k) in
      ap (λ (n : ℕ). get_or (g x ++ flat g bs) n z) e ∙ get_or-append (g x) (flat g bs) z j (omega (arith, wide x))
  flat-at (x ∷ bs) (suc i) j b z h l =
      let e : suc i * k + j ≡ length (g x) + (i * k + j) = omega (arith, suc-mul i k, wide x) in
      ap (λ (n : ℕ). get_or (g x ++ flat g bs) n z) e ∙ get_or-append-add (g x) (flat g bs) (i * k + j) z ∙ flat-at bs i j b z (le_of_suc-le-suc h) l
