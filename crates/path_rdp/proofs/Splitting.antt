-- What simplification does with a path: it stays, keeps its ends, or is split. Assumes nothing.
use mathlib.Core.Path.{◌≡◌, refl, sym, ap, ap₂, ◌∙◌}
use mathlib.Core.Bool.{Bool, true, false}
use mathlib.Core.List.{List, [], ◌∷◌, ◌++◌}
use Prim.Native.Nat.{ℕ, zero, suc, ◌+◌, ◌-◌, ◌≤◌, ◌<◌}
use native.Mathlib.Nat.{zero-add, suc-add}
use native.Mathlib.Omega.{arith}
use borrow.Author.Tests.{lt-ltb, le-ltb}
use lib.Dec.{T, ltb}
use lib.ListN.{length, take, drop, length-append, length-drop}
use lib.Seq.{length-take-le}
use lib.Ieee.{Float, lt, le}
use lib.Ieee.Bits.{is_false}
use lib.Ieee.Fits.{and_r}
use lib.Ieee.Scale.{finite}
use Rattle.floats.specs.Arith.{zero_f}
use Rattle.floats.proofs.Order.{le→not-gt}
use Rattle.geometry.specs.declared.vector.Vector.{Vector}
use Rattle.paths.specs.Paths.{front}
use Rattle.path_rdp.specs.Rdp.{threshold_ok, first_vertex, last_vertex, farthest_of, halved, thinned, rdp, simplified}
use Rattle.path_rdp.proofs.Scanning.{far-inside}

-- what number 8 lets pass is not below 0
pub not_low : (t : Float) → T (threshold_ok t) → lt t zero_f ≡ false
unfolding threshold_ok
not_low t h = is_false (lt t zero_f) (le→not-gt zero_f t (and_r (finite t) (le zero_f t) h))

module _ (t : Float) (low : lt t zero_f ≡ false) where
  halves-more : (n : ℕ) (p : List Vector) (s : Bool) → lt t (farthest_of p).distance ≡ s → length p ≤ suc n → ((q : List Vector) → length q ≤ n → rdp (suc n) t q ≡ rdp n t q)
      → halved (rdp (suc n) t) p (farthest_of p).index s ≡ halved (rdp n t) p (farthest_of p).index s
  unfolding halved
  halves-more n p true e h ih =
      let k = (farthest_of p).index in
      let w = far-inside p t low e in
      ap₂ (λ (x y : List Vector). front x ++ y) (ih (take (k + 1) p) (omega (arith, w.1, length-take-le (k + 1) p (omega (arith, w.1))))) (ih (drop k p) (simp length-drop (omega (arith, w.0))))
  halves-more n p false e h ih = refl

  -- more rounds than vertices change nothing
  rdp-more : (n : ℕ) (p : List Vector) → length p ≤ n → rdp (suc n) t p ≡ rdp n t p
  unfolding rdp thinned
  rdp-more zero [] h = refl
  rdp-more zero (v ∷ p) h = absurd (omega arith)
  rdp-more (suc n) p h = short (ltb (length p) 3) (halves-more n p (lt t (farthest_of p).distance) refl h (λ (q : List Vector) l. rdp-more n q l))
    where
      short : (s : Bool) → halved (rdp (suc n) t) p (farthest_of p).index (lt t (farthest_of p).distance) ≡ halved (rdp n t) p (farthest_of p).index (lt t (farthest_of p).distance)
          → thinned (rdp (suc n) t) t p s ≡ thinned (rdp n t) t p s
      short true e = refl
      short false e = e

  rdp-any : (d : ℕ) (p : List Vector) → rdp (d + length p) t p ≡ rdp (length p) t p
  rdp-any zero p = rw zero-add
  rdp-any (suc d) p = rw suc-add (rdp-more (d + length p) p (omega arith) ∙ rdp-any d p)

  rdp-enough : (n : ℕ) (p : List Vector) → length p ≤ n → rdp n t p ≡ simplified t p
  unfolding simplified
  rdp-enough n p h = let e : n ≡ n - length p + length p = omega arith in ap (λ (m : ℕ). rdp m t p) e ∙ rdp-any (n - length p) p

  -- ---- the three ways
  pub simplified-short : (p : List Vector) → length p < 3 → simplified t p ≡ p
  unfolding rdp thinned
  simplified-short p h = sym (rdp-enough (suc (length p)) p (omega arith)) ∙ rw (lt-ltb (length p) 3 h)

  pub simplified-ends : (p : List Vector) → 3 ≤ length p → lt t (farthest_of p).distance ≡ false → simplified t p ≡ first_vertex p ∷ last_vertex p ∷ []
  unfolding rdp thinned halved
  simplified-ends p h e = sym (rdp-enough (suc (length p)) p (omega arith)) ∙ rw (le-ltb (length p) 3 h, e)

  pub simplified-split : (p : List Vector) → 3 ≤ length p → lt t (farthest_of p).distance ≡ true
      → simplified t p ≡ front (simplified t (take ((farthest_of p).index + 1) p)) ++ simplified t (drop (farthest_of p).index p)
  unfolding rdp thinned halved
  simplified-split p h e =
      let k = (farthest_of p).index in
      let w = far-inside p t low e in
      let n = length p in
      sym (rdp-enough (suc n) p (omega arith))
      ∙ rw (le-ltb n 3 h, e)
      (ap₂ (λ (x y : List Vector). front x ++ y)
      (rdp-enough n (take (k + 1) p) (omega (arith, w.1, length-take-le (k + 1) p (omega (arith, w.1)))))
      (rdp-enough n (drop k p) (simp length-drop (omega arith))))

  -- ---- a path with a vertex keeps one
  halves-some : (again : List Vector → List Vector) (p : List Vector) (s : Bool) → lt t (farthest_of p).distance ≡ s → ((q : List Vector) → 0 < length q → 0 < length (again q))
      → 0 < length (halved again p (farthest_of p).index s)
  unfolding halved
  halves-some again p true e ih =
      let k = (farthest_of p).index in
      let w = far-inside p t low e in
      let h = ih (drop k p) (simp length-drop (omega (arith, w.1))) in
      simp length-append (omega arith)
  halves-some again p false e ih = omega arith

  rdp-some : (n : ℕ) (p : List Vector) → 0 < length p → 0 < length (rdp n t p)
  unfolding rdp thinned
  rdp-some zero p h = h
  rdp-some (suc n) p h = short (ltb (length p) 3) (halves-some (rdp n t) p (lt t (farthest_of p).distance) refl (λ (q : List Vector) l. rdp-some n q l))
    where
      short : (s : Bool) → 0 < length (halved (rdp n t) p (farthest_of p).index (lt t (farthest_of p).distance)) → 0 < length (thinned (rdp n t) t p s)
      short true e = h
      short false e = e

  pub simplified-some : (p : List Vector) → 0 < length p → 0 < length (simplified t p)
  unfolding simplified
  simplified-some p h = rdp-some (length p) p h
