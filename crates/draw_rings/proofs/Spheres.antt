-- A sphere's ring is at most sixteen times as wide as the sphere, whatever is rounded or lost below the normal range: each rounding at most doubles. So `rings-round` holds for it
-- wherever its radius is finite. Assumes nothing.
use mathlib.Core.Path.{◌≡◌, sym, ap, ◌∙◌, subst}
use mathlib.Core.Logic.{inl, inr}
use mathlib.Core.Bool.{Bool, true, false, cond}
use Prim.Native.Nat.{ℕ, zero, suc, ◌+◌, ◌*◌, ◌^◌, ◌≤◌, ◌<◌}
use native.Mathlib.Nat.{eq-zero-or-pos, mul-le-mul, mul-le-mul_right, le_of_mul-le-mul_right, mul-pos, zero-mul, mul-mul-mul_comm, zero-lt-suc}
use native.Mathlib.Omega.{arith}
use lib.IntN.{pos}
use lib.Dec.{T, eqb}
use lib.Pow.{pow_pos}
use lib.Ieee.{Float, nan, inf, fin, binary64, up, down, unlike, round, sub, mul, div, lt, le, of_bits}
use lib.Ieee.Fits.{up_pos}
use lib.Ieee.Order.{drop, kept}
use lib.Ieee.Scale.{finite, grid}
use lib.Ieee.Positive.{num, den, den_pos, positive}
use Rattle.floats.specs.Arith.{◌⊖◌, ◌⊗◌, ◌⊘◌, zero_f}
use Rattle.floats.proofs.Order.{plus, less, finite_number, lt→le, lt→cross}
use Rattle.floats.proofs.Order as Order
use Rattle.floats.proofs.Rounding.{Off, Rounded, sub-rounded, div-rounded, num_pos}
use Rattle.floats.proofs.Nonneg.{unsigned, le→sizes, positive-num}
use Rattle.floats.proofs.Bounds.{of_num, small-num, small-finite, small_mul, small-le, within-small, within-finite}
use Rattle.sqrt.specs.Root.{sqrt_of}
use Rattle.sqrt.proofs.Monotone.{sqrt-nonneg}
use Rattle.draw_rings.specs.Spheres.{sphere_ring}
use Rattle.draw_rings.proofs.Relative.{near_le}
use Rattle.draw_rings.proofs.Errors.{Half, closest-half, Counts, round-value, value-counts}
use Rattle.draw_rings.proofs.Operations.{whole, root-result}
use Rattle.draw_rings.proofs.Circle.{square_le}
use Rattle.draw_rings.proofs.Middle.{counts_some}
use Rattle.draw_rings.specs.Promise.{SphereRingNarrow}

-- ---- a rounding at most doubles
twice : (n u q : ℕ) → Half n u q → q * u ≤ 2 * n
twice n u zero h = omega (arith, zero-mul u)
twice n u (suc q) h = omega (arith, h.0)

pub round-twice : (s : Bool) (a b : ℕ) → 0 < b → T (finite (round binary64 s a b)) → num (round binary64 s a b) * b ≤ 2 * (a * den (round binary64 s a b))
round-twice s a b B f =
    let z = round binary64 s a b in
    let c = value-counts z s (grid binary64 a b) (round-value s a b f) in
    let k = drop 53 (a * 2 ^ 1074) b in
    go (num z) (den z) (kept 53 (a * 2 ^ 1074) b) (2 ^ k) (2 ^ 1074) (pow_pos 1074) c.units (twice (a * 2 ^ 1074) (b * 2 ^ k) (kept 53 (a * 2 ^ 1074) b) (closest-half (a * 2 ^ 1074) (b * 2 ^ k) (mul-pos B (pow_pos k))))
  where
    go : (n d q p t : ℕ) → 0 < t → n * t ≡ q * p * d → q * (b * p) ≤ 2 * (a * t) → n * b ≤ 2 * (a * d)
    go n d q p t P u h = le_of_mul-le-mul_right {k = t} (omega (arith, mul-le-mul_right d h, ap (λ (x : ℕ). x * b) u)) P

-- ---- a finite result has finite operands
pub div-left : (x y : Float) → T (finite (x ⊘ y)) → T (finite x)
unfolding div
div-left nan y h = h
div-left (inf s) nan h = h
div-left (inf s) (inf t) h = h
div-left (inf s) (fin t n d) h = h
div-left (fin s m e) y h = tt

root-left : (x : Float) → T (finite (sqrt_of x)) → T (finite x)
unfolding sqrt_of
root-left nan h = h
root-left (inf true) h = h
root-left (inf false) h = h
root-left (fin s m e) h = tt

pub mul_right : (x y : Float) → T (finite (x ⊗ y)) → T (finite y)
unfolding mul
mul_right nan y h = absurd h
mul_right (inf s) nan h = h
mul_right (inf s) (inf t) h = h
mul_right (inf s) (fin t n d) h = tt
mul_right (fin s m e) nan h = h
mul_right (fin s m e) (inf t) h = absurd (go (eqb m 0) (unlike s t) h)
  where
    go : (b u : Bool) → T (finite (cond b nan (inf u))) → ⊥
    go true u k = k
    go false u k = k
mul_right (fin s m e) (fin t n d) h = tt

sub-left : (x y : Float) → T (finite (x ⊖ y)) → T (finite x)
unfolding sub
sub-left nan y h = h
sub-left (inf s) nan h = h
sub-left (inf true) (inf true) h = h
sub-left (inf true) (inf false) h = h
sub-left (inf false) (inf true) h = h
sub-left (inf false) (inf false) h = h
sub-left (inf s) (fin t n d) h = h
sub-left (fin s m e) y h = tt

-- ---- the operations
mul-twice : (x y : Float) → T (finite x) → T (finite y) → T (finite (x ⊗ y)) → num (x ⊗ y) * (den x * den y) ≤ 2 * (num x * num y * den (x ⊗ y))
unfolding mul
mul-twice nan y p q f = absurd p
mul-twice (inf s) y p q f = absurd p
mul-twice (fin s m e) nan p q f = absurd q
mul-twice (fin s m e) (inf t) p q f = absurd q
mul-twice (fin s m e) (fin t n d) p q f = round-twice (unlike s t) (m * up e * (n * up d)) (down e * down d) (mul-pos (den_pos (fin s m e)) (den_pos (fin t n d))) f

rounded-twice : (z : Float) (p n d : ℕ) → 0 < d → Rounded z p n d → T (finite z) → num z * d ≤ 2 * ((p + n) * den z)
rounded-twice z p n d D r f =
    subst (λ (x : Float). num x * d ≤ 2 * ((p + n) * den x)) (sym r.is)
    (more r.sign r.magnitude (num (round binary64 r.sign r.magnitude d)) (den (round binary64 r.sign r.magnitude d)) r.off (round-twice r.sign r.magnitude d D (subst (λ (x : Float). T (finite x)) r.is f)))
  where
    more : (s : Bool) (k a b : ℕ) → Off s k p n → a * d ≤ 2 * (k * b) → a * d ≤ 2 * ((p + n) * b)
    more true k a b o h = omega (arith, mul-le-mul_right b (of-true o))
      where
        of-true : n ≡ p + k → k ≤ p + n
        of-true o = omega arith
    more false k a b o h = omega (arith, mul-le-mul_right b (of-false o))
      where
        of-false : p ≡ n + k → k ≤ p + n
        of-false o = omega arith

div-twice : (x y : Float) → T (finite x) → T (positive y) → T (finite (x ⊘ y)) → num (x ⊘ y) * (num y * den x) ≤ 2 * (num x * den y * den (x ⊘ y))
div-twice x y p q f = shape (plus x) (less x) (num x) (den y) (den (x ⊘ y)) (whole x) (rounded-twice (x ⊘ y) (plus x * den y) (less x * den y) (num y * den x) (mul-pos (num_pos y q) (den_pos x)) (div-rounded x y p q) f)
  where
    shape : {l : ℕ} (a b n d e : ℕ) → a + b ≡ n → l ≤ 2 * ((a * d + b * d) * e) → l ≤ 2 * (n * d * e)
    shape a b n d e i h = omega (arith, h, ap (λ (x : ℕ). x * (d * e)) i)

sub-twice : (x y : Float) → T (finite x) → T (finite y) → T (finite (x ⊖ y)) → num (x ⊖ y) * (den x * den y) ≤ 2 * ((num x * den y + num y * den x) * den (x ⊖ y))
sub-twice x y p q f =
    shape (plus x) (less x) (num x) (plus y) (less y) (num y) (den y) (den x) (den (x ⊖ y)) (whole x) (whole y)
    (rounded-twice (x ⊖ y) (plus x * den y + less y * den x) (less x * den y + plus y * den x) (den x * den y) (mul-pos (den_pos x) (den_pos y)) (sub-rounded x y p q) f)
  where
    shape : {l : ℕ} (a b n a' b' n' d d' e : ℕ) → a + b ≡ n → a' + b' ≡ n' → l ≤ 2 * ((a * d + b' * d' + (b * d + a' * d')) * e) → l ≤ 2 * ((n * d + n' * d') * e)
    shape a b n a' b' n' d d' e i j h = omega (arith, h, ap (λ (x : ℕ). x * (d * e)) i, ap (λ (x : ℕ). x * (d' * e)) j)

root_none : (x : Float) → T (finite x) → num x ≡ 0 → num (sqrt_of x) * num (sqrt_of x) * den x ≤ 2 * (num x * (den (sqrt_of x) * den (sqrt_of x)))
unfolding sqrt_of
root_none nan f z = absurd f
root_none (inf s) f z = absurd f
root_none (fin s zero e) f z = go (0 * up e) (down e) z
  where
    go : (n d : ℕ) → n ≡ 0 → n * n * d ≤ 2 * (n * (d * d))
    go n d h = omega (arith, ap (λ (x : ℕ). x * (n * d)) h)
root_none (fin s (suc m) e) f z = absurd (omega (arith, z, mul-pos (zero-lt-suc m) (up_pos e)))

root-twice : (x : Float) → T (finite x) → T (le zero_f x) → (n : ℕ) → Counts n x → num (sqrt_of x) * num (sqrt_of x) * den x ≤ 2 * (num x * (den (sqrt_of x) * den (sqrt_of x)))
root-twice x f h n c = elim (eq-zero-or-pos (num x)) [
  | inl z ↦ root_none x f z
  | inr p ↦
      let q = positive-num x f h p in
      let r = root-result x n q c (counts_some n x c p) in
      go (num (sqrt_of x)) (den (sqrt_of x)) r.count (num x) (den x) (2 ^ 1074) (pow_pos 1074) r.counts.units c.units (near_le tt r.near)
]
  where
    go : (a b k m d t : ℕ) → 0 < t → a * t ≡ k * b → m * t ≡ n * d → k * k ≤ 2 * (n * t) → a * a * d ≤ 2 * (m * (b * b))
    go a b k m d t P u v l =
        let e : a * a * (t * t) ≡ k * k * (b * b) = mul-mul-mul_comm a a t t ∙ ap (λ (x : ℕ). x * x) u ∙ mul-mul-mul_comm k b k b in
        le_of_mul-le-mul_right {k = t * t}
        (lift (a * a) (b * b) (k * k) d m n t e v l) (mul-pos P P)
      where
        lift : (a2 b2 k2 d m n t : ℕ) → a2 * (t * t) ≡ k2 * b2 → m * t ≡ n * d → k2 ≤ 2 * (n * t) → a2 * d * (t * t) ≤ 2 * (m * b2) * (t * t)
        lift a2 b2 k2 d m n t e v l = omega (arith, ap (λ (x : ℕ). x * d) e, ap (λ (x : ℕ). x * (t * b2)) v, mul-le-mul_right (b2 * d) l)

-- ---- what it comes to, on whole numbers
difference : (nD dH dR nH nR dD h2 k2 r2 s2 : ℕ) → 0 < dH → 0 < dR → 0 < s2 → nH * k2 ≤ 2 * (h2 * dH) → nR * s2 ≤ 2 * (r2 * dR) → r2 * k2 ≤ h2 * s2
    → nD * (dH * dR) ≤ 2 * ((nH * dR + nR * dH) * dD) → nD * k2 ≤ 8 * (h2 * dD)
difference nD dH dR nH nR dD h2 k2 r2 s2 A B C i j k l =
    let m : nR * k2 ≤ 2 * (h2 * dR) = le_of_mul-le-mul_right {k = s2} (omega (arith, mul-le-mul_right k2 j, mul-le-mul_right dR k)) C in
    le_of_mul-le-mul_right {k = dH * dR} (omega (arith, mul-le-mul_right k2 l, mul-le-mul_right (dR * dD) i, mul-le-mul_right (dH * dD) m)) (mul-pos A B)

root-le4 : (nL dL nD dD nh dh : ℕ) → 0 < dD → nL * nL * dD ≤ 2 * (nD * (dL * dL)) → nD * (dh * dh) ≤ 8 * (nh * nh * dD) → nL * dh ≤ 4 * (nh * dL)
root-le4 nL dL nD dD nh dh P i j =
    square_le (nL * dh) (4 * (nh * dL))
    (rw (mul-mul-mul_comm nL dh nL dh, mul-mul-mul_comm 4 (nh * dL) 4 (nh * dL), mul-mul-mul_comm nh dL nh dL)
    (le_of_mul-le-mul_right {k = dD} (go (nL * nL) (dL * dL) (nh * nh) (dh * dh) i j) P))
  where
    go : (l m h k : ℕ) → l * dD ≤ 2 * (nD * m) → nD * k ≤ 8 * (h * dD) → l * k * dD ≤ 16 * (h * m) * dD
    go l m h k i j = omega (arith, mul-le-mul_right k i, mul-le-mul_right m j)

ring-le16 : (nQ dQ nM dM nL dL nr dr nh dh : ℕ) → 0 < dL → 0 < nh → 0 < dM → nL * dh ≤ 4 * (nh * dL) → nM * (dr * dL) ≤ 2 * (nr * nL * dM) → nQ * (nh * dM) ≤ 2 * (nM * dh * dQ) → nQ * dr ≤ 16 * (nr * dQ)
ring-le16 nQ dQ nM dM nL dL nr dr nh dh A B C i j k =
    let m : nM * dr * dh ≤ 8 * (nr * dM * nh) = le_of_mul-le-mul_right {k = dL} (omega (arith, mul-le-mul_right dh j, mul-le-mul_right (nr * dM) i)) A in
    le_of_mul-le-mul_right {k = nh * dM} (omega (arith, mul-le-mul_right dr k, mul-le-mul_right dQ m)) (mul-pos B C)

-- ---- the ring
lt-sizes : (x y : Float) → T (finite x) → T (finite y) → T (le zero_f x) → T (le zero_f y) → T (lt x y) → num x * den y < num y * den x
lt-sizes x y p q a b h =
    let u = unsigned x p a in
    let v = unsigned y q b in
    go (plus x) (less x) (num x) (den x) (plus y) (less y) (num y) (den y) u.0 u.1 v.0 v.1 (lt→cross x y p q h)
  where
    go : (p n a d p' n' a' d' : ℕ) → n ≡ 0 → p ≡ a → n' ≡ 0 → p' ≡ a' → p * d' + n' * d < p' * d + n * d' → a * d' < a' * d
    go p n a d p' n' a' d' i j i' j' h = omega (arith, h, ap (λ (z : ℕ). z * d') i, ap (λ (z : ℕ). z * d') j, ap (λ (z : ℕ). z * d) i', ap (λ (z : ℕ). z * d) j')

rounded-counts : (z : Float) (p n d : ℕ) → Rounded z p n d → T (finite z) → (k : ℕ) × Counts k z
rounded-counts z p n d r f =
    let a = round binary64 r.sign r.magnitude d in
    (grid binary64 r.magnitude d, subst (λ (x : Float). Counts (grid binary64 r.magnitude d) x) (sym r.is) (value-counts a r.sign (grid binary64 r.magnitude d) (round-value r.sign r.magnitude d (subst (λ (x : Float). T (finite x)) r.is f))))

pub sphere-ring : SphereRingNarrow
unfolding sphere_ring of_bits
sphere-ring r h w z l f =
    let L = sqrt_of (h ⊗ h ⊖ r ⊗ r) in
    let D = h ⊗ h ⊖ r ⊗ r in
    let fM : T (finite (r ⊗ L)) = div-left (r ⊗ L) h f in
    let fL : T (finite L) = mul_right r L fM in
    let fD : T (finite D) = root-left D fL in
    let fH : T (finite (h ⊗ h)) = sub-left (h ⊗ h) (r ⊗ r) fD in
    let fh : T (finite h) = mul_right h h fH in
    let fr : T (finite r) = within-finite r w in
    let fR : T (finite (r ⊗ r)) = small-finite 40 (r ⊗ r) (small_mul 20 20 r r tt (within-small r w) (within-small r w)) in
    let zh : T (le zero_f h) = Order.le_trans zero_f r h z (lt→le r h l) in
    let rh = le→sizes r h fr fh z zh (lt→le r h l) in
    let ph : T (positive h) = positive-num h fh zh (above (num r) (den r) (num h) (den h) (lt-sizes r h fr fh z zh l)) in
    let zD : T (le zero_f D) = sqrt-nonneg D (finite_number L fL) in
    let c = rounded-counts D (plus (h ⊗ h) * den (r ⊗ r) + less (r ⊗ r) * den (h ⊗ h)) (less (h ⊗ h) * den (r ⊗ r) + plus (r ⊗ r) * den (h ⊗ h)) (den (h ⊗ h) * den (r ⊗ r)) (sub-rounded (h ⊗ h) (r ⊗ r) fH fR) fD in
    let d = difference (num D) (den (h ⊗ h)) (den (r ⊗ r)) (num (h ⊗ h)) (num (r ⊗ r)) (den D) (num h * num h) (den h * den h) (num r * num r) (den r * den r)
    (den_pos (h ⊗ h)) (den_pos (r ⊗ r)) (mul-pos (den_pos r) (den_pos r)) (mul-twice h h fh fh fH) (mul-twice r r fr fr fR)
    (squared (num r) (den h) (num h) (den r) rh) (sub-twice (h ⊗ h) (r ⊗ r) fH fR fD) in
    let k = root-le4 (num L) (den L) (num D) (den D) (num h) (den h) (den_pos D) (root-twice D fD zD c.0 c.1) d in
    let q = ring-le16 (num (r ⊗ L ⊘ h)) (den (r ⊗ L ⊘ h)) (num (r ⊗ L)) (den (r ⊗ L)) (num L) (den L) (num r) (den r) (num h) (den h) (den_pos L) (num_pos h ph) (den_pos (r ⊗ L)) k
    (mul-twice r L fr fL fM) (div-twice (r ⊗ L) h fM ph f) in
    small-le 24 (r ⊗ L ⊘ h) 1 (pos 24) tt (of_num 24 (r ⊗ L ⊘ h) f (last (num (r ⊗ L ⊘ h)) (den (r ⊗ L ⊘ h)) (num r) (den r) (den_pos r) q (small-num 20 r (within-small r w))))
  where
    above : (a b c d : ℕ) → a * d < c * b → 0 < c
    above a b zero d h = absurd (omega (arith, h, zero-mul b))
    above a b (suc c) d h = zero-lt-suc c

    squared : (a b c d : ℕ) → a * b ≤ c * d → a * a * (b * b) ≤ c * c * (d * d)
    squared a b c d h = rw (mul-mul-mul_comm a a b b, mul-mul-mul_comm c c d d) (mul-le-mul h h)

    last : (a b c d : ℕ) → 0 < d → a * d ≤ 16 * (c * b) → c ≤ 2 ^ 20 * d → a ≤ 2 ^ 24 * b
    last a b c d D h k = le_of_mul-le-mul_right {k = d} (omega (arith, h, mul-le-mul_right b k)) D
