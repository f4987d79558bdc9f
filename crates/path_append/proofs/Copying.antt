-- The loop that writes a part of a slice further ahead, each element through f. Assumes nothing.
use mathlib.Core.Path.{◌≡◌, refl, sym, ap, ◌∙◌}
use mathlib.Core.List.{List, [], ◌∷◌, ◌++◌, map, map-id, map-append}
use Prim.Native.Nat.{ℕ, ◌+◌, ◌^◌, ◌≤◌, ◌<◌}
use native.Mathlib.Numerals.{add-one}
use native.Mathlib.Omega.{arith}
use lib.ListN.{length, take, drop, get_or, set, length-map, length-set, length-drop}
use lib.Seq.{sets, take-suc, get_or-take, get_or-drop, length-take-le}
use Rattle.rows.proofs.Rows.{drop-sets-le, sets_more}
use Rattle.path_append.specs.Append.{Movable}

module _ {A : Type 0} (f : A → A) (xs₀ : List A) (from to count : ℕ) where
  pub record Copying (xs : List A) (j : ℕ) : Type 0 where
    pub same : length xs ≡ length xs₀
    pub ahead : to + count ≤ from
    pub within : from + count ≤ length xs₀
    pub upto : j ≤ count
    pub done : xs ≡ sets xs₀ to (map f (take j (drop from xs₀)))

  pub copying-start : to + count ≤ from → from + count ≤ length xs₀ → Copying xs₀ 0
  copying-start a w = record { same = refl; ahead = a; within = w; upto = omega arith; done = refl }

  module _ (xs : List A) (j : ℕ) (h : Copying xs j) where
    many : length (map f (take j (drop from xs₀))) ≡ j
    many = length-map (take j (drop from xs₀)) f ∙ length-take-le j (drop from xs₀) (simp length-drop (omega (arith, h.upto, h.within)))

    -- what is still to be read is as it was
    copying-reads : (d : A) → get_or xs (from + j) d ≡ get_or (drop from xs₀) j d
    copying-reads d =
        sym (get_or-drop from xs j d)
        ∙ ap (λ (l : List A). get_or l j d)
        (ap (drop from) h.done ∙ drop-sets-le from xs₀ to (map f (take j (drop from xs₀))) (omega (arith, many, h.upto, h.ahead)))

    pub copying-turn : (d : A) → j < count → Copying (set xs (to + j) (f (get_or xs (from + j) d))) (j + 1)
    copying-turn d l = record {
      same = length-set xs (to + j) (f (get_or xs (from + j) d)) ∙ h.same;
      ahead = h.ahead;
      within = h.within;
      upto = omega arith;
      done =
          let v = get_or (drop from xs₀) j d in
          let more : map f (take j (drop from xs₀)) ++ (f v ∷ []) ≡ map f (take (j + 1) (drop from xs₀))
          = rw (add-one, take-suc (drop from xs₀) j d (simp length-drop (omega (arith, h.within))), map-append) in
          ap (λ (a : A). set xs (to + j) (f a)) (copying-reads d)
          ∙ sets_more to j (map f (take j (drop from xs₀))) (f v ∷ []) xs₀ xs (set xs (to + j) (f v)) many h.done refl
          ∙ ap (sets xs₀ to) more;
    }

    pub copying-end : count ≤ j → xs ≡ sets xs₀ to (map f (take count (drop from xs₀)))
    copying-end l = let e : j ≡ count = omega (arith, h.upto) in h.done ∙ ap (λ (i : ℕ). sets xs₀ to (map f (take i (drop from xs₀)))) e

-- as they are
pub copied-end : {A : Type 0} (xs₀ : List A) (from to count : ℕ) (xs : List A) (j : ℕ) → Copying (λ (x : A). x) xs₀ from to count xs j → count ≤ j → xs ≡ sets xs₀ to (take count (drop from xs₀))
copied-end {A} xs₀ from to count xs j h l = copying-end (λ (x : A). x) xs₀ from to count xs j h l ∙ ap (sets xs₀ to) (map-id (take count (drop from xs₀)))

-- moved on: no sum is too great
pub shift_fits : (by : ℕ) (ss₀ : List ℕ) (from to count : ℕ) (ss : List ℕ) (j : ℕ) → Copying (λ (s : ℕ). s + by) ss₀ from to count ss j → Movable by (take count (drop from ss₀)) → j < count
    → get_or ss (from + j) 0 + by < 2 ^ 64
shift_fits by ss₀ from to count ss j h m l =
    let e : length (take count (drop from ss₀)) ≡ count = length-take-le count (drop from ss₀) (simp length-drop (omega (arith, h.within))) in
    let r : get_or ss (from + j) 0 ≡ get_or (take count (drop from ss₀)) j 0
    = copying-reads (λ (s : ℕ). s + by) ss₀ from to count ss j h 0 ∙ sym (get_or-take count (drop from ss₀) j 0 l) in
    omega (arith, m j (omega arith))
