-- A sum of two ends, normalised and times the radius, lies on the ring. Assumes nothing.
use mathlib.Core.Path.{◌≡◌, refl, sym, ap, ◌∙◌, subst}
use mathlib.Core.Logic.{inl, inr}
use mathlib.Core.Bool.{Bool, true, false}
use Prim.Native.Nat.{ℕ, zero, suc, ◌+◌, ◌*◌, ◌^◌, ◌≤◌, ◌<◌}
use native.Mathlib.Nat.{eq-zero-or-pos, mul-le-mul_right, le_of_mul-le-mul_right, mul-pos, zero-mul, pow-suc, eq_of_mul-eq-mul_right}
use native.Mathlib.Omega.{arith}
use lib.Dec.{T, leb, le→leb, lt→ltb}
use lib.Pow.{pow-add, pow_pos}
use lib.Ieee.{Float, nan, inf, fin, up}
use lib.Ieee.Scale.{finite}
use lib.Ieee.Positive.{num, den, den_pos, positive, positive-finite, first_pos}
use Rattle.floats.specs.Arith.{◌⊕◌, ◌⊗◌, ◌⊘◌}
use Rattle.floats.proofs.Rounding.{num_pos}
use Rattle.floats.proofs.Nonneg.{positive-nonneg}
use Rattle.floats.proofs.Bounds.{Small, small-finite, small-num, small-wider, small-add, small_mul, small-div, of_num}
use Rattle.sqrt.specs.Root.{sqrt_of}
use Rattle.sqrt.proofs.Monotone.{small-sqrt, sqrt-positive}
use Rattle.draw_rings.specs.Ring.{OnRing}
use Rattle.draw_rings.proofs.Relative.{Near, near-is, near-sym, near-zero, near_le}
use Rattle.draw_rings.proofs.Errors.{Counts, counts_zero, Side, Big, Result, result-big}
use Rattle.draw_rings.proofs.Operations.{big-add, big-mul, big-div, sum-result, square-result, product-result, quotient-result, sum-units, product-units, quotient-units, times-units, Rooted, root-result}
use Rattle.draw_rings.proofs.Circle.{square_le, circle-near, on-ring}

-- ---- zero and above zero
pub counts_some : (n : ℕ) (x : Float) → Counts n x → 0 < num x → 0 < n
counts_some n x c h = first_pos n (den x) (subst (λ (z : ℕ). 0 < z) c.units (mul-pos h (pow_pos 1074)))

pub some-counts : (n : ℕ) (x : Float) → Counts n x → 0 < n → 0 < num x
some-counts n x c h = first_pos (num x) (2 ^ 1074) (subst (λ (z : ℕ). 0 < z) (sym c.units) (mul-pos h (den_pos x)))

pub result-zero : (s : Bool) (z : Float) (a b : ℕ) → 0 < b → a ≡ 0 → (r : Result s z a b) → r.count ≡ 0
result-zero s z a b B e r = eq_of_mul-eq-mul_right b B r.count 0 (near-zero {k = 1} {a = r.count * b} (near-is refl (ap (λ (x : ℕ). x * 2 ^ 1074) e ∙ zero-mul (2 ^ 1074)) r.near) ∙ sym (zero-mul b))

pub result-some : (s : Bool) (z : Float) (a b : ℕ) → 0 < a → Result s z a b → 0 < num z
result-some s z a b A r = some-counts r.count z r.counts (first_pos r.count b (go (r.count * b) (a * 2 ^ 1074) (mul-pos A (pow_pos 1074)) (near_le tt (near-sym r.near))))
  where
    go : (x y : ℕ) → 0 < y → y ≤ 2 * x → 0 < x
    go x y p h = omega arith

pub side-positive : (x : Float) → T (finite x) → Side false x → 0 < num x → T (positive x)
side-positive nan p h l = absurd p
side-positive (inf s) p h l = absurd p
side-positive (fin true m e) p h l = absurd (omega arith)
side-positive (fin false m e) p h l = lt→ltb 0 m (first_pos m (up e) l)

-- ---- what is known of the radius, and of the sum of two ends
pub record Radius (r : Float) : Type 0 where
  pub above : T (positive r)
  pub most : Small 24 r
  pub least : den r ≤ 2 ^ 10 * num r

pub record Arm (s t : Bool) (k : ℕ) (x y z : Float) : Type 0 where
  pub X : ℕ
  pub Y : ℕ
  pub x-counts : Counts X x
  pub y-counts : Counts Y y
  pub x-small : Small 26 x
  pub y-small : Small 26 y
  pub x-big : Big k x
  pub y-big : Big k y
  pub x-side : Side s x
  pub y-side : Side t y
  pub some : 0 < num x + num y
  pub flat : num z ≡ 0
  pub bounded : T (finite z)

-- ---- the sum, normalised, times the radius
module _ (r x y z : Float) (s t : Bool) (k : ℕ) (K : k ≤ 400) (R : Radius r) (a : Arm s t k x y z) where
  abbrev pub T1 : ℕ
  T1 = 2 ^ 1074

  abbrev pub C1 : Float
  C1 = x ⊗ x ⊕ y ⊗ y

  abbrev pub C : Float
  C = x ⊗ x ⊕ y ⊗ y ⊕ z ⊗ z

  abbrev pub L : Float
  L = sqrt_of C

  room : (n : ℕ) → n ≤ 1022 → T (leb n 1022)
  room n h = le→leb n 1022 h

  room3 : (n : ℕ) → n ≤ 1023 → T (leb n 1023)
  room3 n h = le→leb n 1023 h

  z-small : Small 0 z
  z-small = of_num 0 z a.bounded (let e = a.flat in omega arith)

  xx-small : Small 52 (x ⊗ x)
  xx-small = small_mul 26 26 x x tt a.x-small a.x-small

  yy-small : Small 52 (y ⊗ y)
  yy-small = small_mul 26 26 y y tt a.y-small a.y-small

  zz-small : Small 0 (z ⊗ z)
  zz-small = small_mul 0 0 z z tt z-small z-small

  c1-small : Small 53 C1
  c1-small = small-add 52 (x ⊗ x) (y ⊗ y) tt xx-small yy-small

  c-small : Small 54 C
  c-small = small-add 53 C1 (z ⊗ z) tt c1-small (small-wider 0 53 (z ⊗ z) tt zz-small)

  xx : Result false (x ⊗ x) (num x * num x) (den x * den x)
  xx = square-result x k a.x-counts.bounded (small-finite 52 (x ⊗ x) xx-small) (room (k + k) (omega arith)) a.x-big

  yy : Result false (y ⊗ y) (num y * num y) (den y * den y)
  yy = square-result y k a.y-counts.bounded (small-finite 52 (y ⊗ y) yy-small) (room (k + k) (omega arith)) a.y-big

  zz : Result false (z ⊗ z) (num z * num z) (den z * den z)
  zz = square-result z 0 a.bounded (small-finite 0 (z ⊗ z) zz-small) tt (inl a.flat)

  zz-none : zz.count ≡ 0
  zz-none = result-zero false (z ⊗ z) (num z * num z) (den z * den z) (mul-pos (den_pos z) (den_pos z)) (ap (λ (n : ℕ). n * num z) a.flat ∙ zero-mul (num z)) zz

  zz-zero : num (z ⊗ z) ≡ 0
  zz-zero = counts_zero (z ⊗ z) (subst (λ (n : ℕ). Counts n (z ⊗ z)) zz-none zz.counts)

  xx-big : Big (suc (k + k)) (x ⊗ x)
  xx-big = result-big false (x ⊗ x) (num x * num x) (den x * den x) (k + k) (mul-pos (den_pos x) (den_pos x)) (big-mul k k (num x) (den x) (num x) (den x) a.x-big a.x-big) xx

  yy-big : Big (suc (k + k)) (y ⊗ y)
  yy-big = result-big false (y ⊗ y) (num y * num y) (den y * den y) (k + k) (mul-pos (den_pos y) (den_pos y)) (big-mul k k (num y) (den y) (num y) (den y) a.y-big a.y-big) yy

  c1 : Result false C1 (num (x ⊗ x) * den (y ⊗ y) + num (y ⊗ y) * den (x ⊗ x)) (den (x ⊗ x) * den (y ⊗ y))
  c1 = sum-result false (x ⊗ x) (y ⊗ y) (suc (k + k)) xx.counts.bounded yy.counts.bounded xx.side yy.side (small-finite 53 C1 c1-small) (room (suc (k + k)) (omega arith)) xx-big yy-big

  c1-big : Big (suc (suc (k + k))) C1
  c1-big =
      result-big false C1 (num (x ⊗ x) * den (y ⊗ y) + num (y ⊗ y) * den (x ⊗ x)) (den (x ⊗ x) * den (y ⊗ y)) (suc (k + k)) (mul-pos (den_pos (x ⊗ x)) (den_pos (y ⊗ y)))
      (big-add (suc (k + k)) (num (x ⊗ x)) (den (x ⊗ x)) (num (y ⊗ y)) (den (y ⊗ y)) xx-big yy-big) c1

  c : Result false C (num C1 * den (z ⊗ z) + num (z ⊗ z) * den C1) (den C1 * den (z ⊗ z))
  c = sum-result false C1 (z ⊗ z) (suc (suc (k + k))) c1.counts.bounded zz.counts.bounded c1.side zz.side (small-finite 54 C c-small) (room (suc (suc (k + k))) (omega arith)) c1-big (inl zz-zero)

  c-big : Big (suc (suc (suc (k + k)))) C
  c-big =
      result-big false C (num C1 * den (z ⊗ z) + num (z ⊗ z) * den C1) (den C1 * den (z ⊗ z)) (suc (suc (k + k))) (mul-pos (den_pos C1) (den_pos (z ⊗ z)))
      (big-add (suc (suc (k + k))) (num C1) (den C1) (num (z ⊗ z)) (den (z ⊗ z)) c1-big (inl zz-zero)) c

  -- ---- above zero
  sum-pos : (p q d e : ℕ) → 0 < d → 0 < e → 0 < p + q → 0 < p * d + q * e
  sum-pos zero q d e D E h = let l : 0 < q * e = mul-pos (omega arith) E in omega arith
  sum-pos (suc p) q d e D E h = let l : 0 < suc p * d = mul-pos (omega arith) D in omega arith

  squares-pos : (p q : ℕ) → 0 < p + q → 0 < p * p + q * q
  squares-pos zero q h = let l : 0 < q * q = mul-pos (omega arith) (omega arith) in omega arith
  squares-pos (suc p) q h = let l : 0 < suc p * suc p = mul-pos (omega arith) (omega arith) in omega arith

  squares-some : 0 < num (x ⊗ x) + num (y ⊗ y)
  squares-some = elim (eq-zero-or-pos (num x)) [
    | inl e ↦ let l = result-some false (y ⊗ y) (num y * num y) (den y * den y) (let p : 0 < num y = omega (arith, a.some) in mul-pos p p) yy in omega arith
    | inr p ↦ let l = result-some false (x ⊗ x) (num x * num x) (den x * den x) (mul-pos p p) xx in omega arith
  ]

  c1-some : 0 < num C1
  c1-some =
      result-some false C1 (num (x ⊗ x) * den (y ⊗ y) + num (y ⊗ y) * den (x ⊗ x)) (den (x ⊗ x) * den (y ⊗ y))
      (sum-pos (num (x ⊗ x)) (num (y ⊗ y)) (den (y ⊗ y)) (den (x ⊗ x)) (den_pos (y ⊗ y)) (den_pos (x ⊗ x)) squares-some) c1

  c-some : 0 < num C
  c-some =
      result-some false C (num C1 * den (z ⊗ z) + num (z ⊗ z) * den C1) (den C1 * den (z ⊗ z))
      (sum-pos (num C1) (num (z ⊗ z)) (den (z ⊗ z)) (den C1) (den_pos (z ⊗ z)) (den_pos C1) (let l = c1-some in omega arith)) c

  c-positive : T (positive C)
  c-positive = side-positive C c.counts.bounded c.side c-some

  c-count-some : 0 < c.count
  c-count-some = counts_some c.count C c.counts c-some

  -- ---- the length
  l : Rooted c.count L
  l = root-result C c.count c-positive c.counts c-count-some

  pub l-small : Small 27 L
  l-small = small-sqrt 27 C (positive-nonneg C c-positive) c-small

  least-of : (n d m u : ℕ) → 0 < m → n * u ≡ m * d → d ≤ u * n
  least-of n d m u M e = omega (arith, mul-le-mul_right d M)

  pub l-positive : T (positive L)
  l-positive = sqrt-positive C c-positive (least-of (num C) (den C) c.count T1 c-count-some c.counts.units)

  -- T ≤ 2 ^ (k + 2) * L in units, since T * T ≤ 2 ^ (2 k + 3) * C * T ≤ 2 ^ (2 k + 4) * L * L
  l-least : den L ≤ 2 ^ (k + 2) * num L
  l-least = elim c-big [
    | inl e ↦ absurd (let h = c-some in omega arith)
    | inr h ↦ go (num C) (den C) c.count (num L) (den L) l.count T1 (2 ^ suc (suc (suc (k + k)))) (2 ^ (k + 2)) (den_pos C) (pow_pos 1074) (double) c.counts.units l.counts.units (near_le tt (near-sym l.near)) h
  ]
    where
      double : 2 ^ (k + 2) * 2 ^ (k + 2) ≡ 2 ^ suc (suc (suc (k + k))) * 2
      double = let e : k + 2 + (k + 2) ≡ suc (suc (suc (suc (k + k)))) = omega arith in sym (pow-add 2 (k + 2) (k + 2)) ∙ ap (λ (n : ℕ). 2 ^ n) e ∙ pow-suc 2 (suc (suc (suc (k + k))))

      go : (nc dc cc nl dl ll u p q : ℕ) → 0 < dc → 0 < u → q * q ≡ p * 2 → nc * u ≡ cc * dc → nl * u ≡ ll * dl → cc * u ≤ 2 * (ll * ll) → dc ≤ p * nc → dl ≤ q * nl
      go nc dc cc nl dl ll u p q D P e f g n h =
          let i : u * dc ≤ p * cc * dc = omega (arith, mul-le-mul_right u h, ap (λ (v : ℕ). v * p) f) in
          let j : u ≤ p * cc = le_of_mul-le-mul_right {k = dc} i D in
          let m : u * u ≤ q * ll * (q * ll) = omega (arith, mul-le-mul_right u j, mul-le-mul_right p n, ap (λ (v : ℕ). v * (ll * ll)) e) in
          let o : u ≤ q * ll = square_le u (q * ll) m in
          le_of_mul-le-mul_right {k = u} (omega (arith, mul-le-mul_right dl o, ap (λ (v : ℕ). v * q) g)) P

  -- ---- over the length, times the radius; for either coordinate
  module _ (w : Float) (v : Bool) (n : ℕ) (w-counts : Counts n w) (w-small : Small 26 w) (w-big : Big k w) (w-side : Side v w) where
    over-small : Small (26 + (k + 2)) (w ⊘ L)
    over-small = small-div 26 (k + 2) w L (room3 (26 + (k + 2)) (omega arith)) w-small l-positive l-least

    pub over : Result v (w ⊘ L) (num w * den L) (num L * den w)
    over = quotient-result v w L k 27 w-counts.bounded l-positive w-side (small-finite (26 + (k + 2)) (w ⊘ L) over-small) (room (k + 27) (omega arith)) w-big (small-num 27 L l-small)

    over-big : Big (suc (k + 27)) (w ⊘ L)
    over-big = result-big v (w ⊘ L) (num w * den L) (num L * den w) (k + 27) (mul-pos (num_pos L l-positive) (den_pos w)) (big-div k 27 (num w) (den w) (num L) (den L) w-big (small-num 27 L l-small)) over

    times-small : Small (26 + (k + 2) + 24) (w ⊘ L ⊗ r)
    times-small = small_mul (26 + (k + 2)) 24 (w ⊘ L) r (room3 (26 + (k + 2) + 24) (omega arith)) over-small R.most

    pub times : Result v (w ⊘ L ⊗ r) (num (w ⊘ L) * num r) (den (w ⊘ L) * den r)
    times = product-result v (w ⊘ L) r (suc (k + 27)) 10 over.counts.bounded R.above over.side (small-finite (26 + (k + 2) + 24) (w ⊘ L ⊗ r) times-small) (room (suc (k + 27) + 10) (omega arith)) over-big (inr R.least)

    pub times-big : Big (k + 39) (w ⊘ L ⊗ r)
    times-big = subst (λ (j : ℕ). Big j (w ⊘ L ⊗ r)) (omega arith)
        (result-big v (w ⊘ L ⊗ r) (num (w ⊘ L) * num r) (den (w ⊘ L) * den r) (suc (k + 27) + 10) (mul-pos (den_pos (w ⊘ L)) (den_pos r))
        (big-mul (suc (k + 27)) 10 (num (w ⊘ L)) (den (w ⊘ L)) (num r) (den r) over-big (inr R.least)) times)

    over-near : Near 1 (over.count * l.count) (n * T1)
    over-near = quotient-units n l.count (num w) (den w) (num L) (den L) T1 (den_pos w) (den_pos L) (pow_pos 1074) w-counts.units l.counts.units over.count over.near

    times-near : Near 1 (times.count * den r) (over.count * num r)
    times-near = times-units over.count (num (w ⊘ L)) (den (w ⊘ L)) (num r) (den r) T1 times.count (den_pos (w ⊘ L)) (pow_pos 1074) over.counts.units times.near

  -- ---- both coordinates
  abbrev pub u : Float
  u = x ⊘ L ⊗ r

  abbrev pub w : Float
  w = y ⊘ L ⊗ r

  abbrev pub u-is : Result s u (num (x ⊘ L) * num r) (den (x ⊘ L) * den r)
  u-is = times x s a.X a.x-counts a.x-small a.x-big a.x-side

  abbrev pub w-is : Result t w (num (y ⊘ L) * num r) (den (y ⊘ L) * den r)
  w-is = times y t a.Y a.y-counts a.y-small a.y-big a.y-side

  middle-near : Near 17 ((u-is.count * u-is.count + w-is.count * w-is.count) * (den r * den r)) (num r * num r * (T1 * T1))
  middle-near =
      circle-near a.X a.Y xx.count yy.count c1.count c.count l.count
      (over x s a.X a.x-counts a.x-small a.x-big a.x-side).count (over y t a.Y a.y-counts a.y-small a.y-big a.y-side).count
      u-is.count w-is.count (num r) (den r) T1 counts-pos (pow_pos 1074)
      (product-units a.X a.X (num x) (den x) (num x) (den x) T1 (den_pos x) (den_pos x) (pow_pos 1074) a.x-counts.units a.x-counts.units xx.count xx.near)
      (product-units a.Y a.Y (num y) (den y) (num y) (den y) T1 (den_pos y) (den_pos y) (pow_pos 1074) a.y-counts.units a.y-counts.units yy.count yy.near)
      (sum-units xx.count yy.count (num (x ⊗ x)) (den (x ⊗ x)) (num (y ⊗ y)) (den (y ⊗ y)) T1 (den_pos (x ⊗ x)) (den_pos (y ⊗ y)) (pow_pos 1074) xx.counts.units yy.counts.units c1.count c1.near)
      (near-is refl (plus_none c1.count zz.count zz-none)
      (sum-units c1.count zz.count (num C1) (den C1) (num (z ⊗ z)) (den (z ⊗ z)) T1 (den_pos C1) (den_pos (z ⊗ z)) (pow_pos 1074) c1.counts.units zz.counts.units c.count c.near))
      l.near
      (over-near x s a.X a.x-counts a.x-small a.x-big a.x-side) (over-near y t a.Y a.y-counts a.y-small a.y-big a.y-side)
      (times-near x s a.X a.x-counts a.x-small a.x-big a.x-side) (times-near y t a.Y a.y-counts a.y-small a.y-big a.y-side)
    where
      plus_none : (m n : ℕ) → n ≡ 0 → m + n ≡ m
      plus_none m n e = omega arith

      counts-pos : 0 < a.X * a.X + a.Y * a.Y
      counts-pos = squares-pos a.X a.Y (elim (eq-zero-or-pos (num x)) [
        | inl e ↦ let h = counts_some a.Y y a.y-counts (omega (arith, a.some)) in omega arith
        | inr p ↦ let h = counts_some a.X x a.x-counts p in omega arith
      ])

  -- THE THEOREM of one middle
  pub middle-on : OnRing r u w
  middle-on = on-ring r u w u-is.count w-is.count T1 (positive-finite r R.above) u-is.counts.bounded w-is.counts.bounded (pow_pos 1074) u-is.counts.units w-is.counts.units middle-near

  -- ---- what the next halving needs
  -- (n d)² ≤ (n² + m²) d² ≤ 2 (p t)² ≤ (2 p t)², so n d ≤ 2 p t ≤ 2 * 2 ^ 24 d t
  coordinate-small : (v : Float) (n m : ℕ) → Counts n v → (n * n + m * m) * (den r * den r) ≤ 2 * (num r * num r * (T1 * T1)) → Small 25 v
  coordinate-small v n m e h = of_num 25 v e.bounded (go (num v) (den v) (num r) (den r) T1 (2 ^ 24) (2 ^ 25) (den_pos r) (pow_pos 1074) refl e.units h (small-num 24 r R.most))
    where
      go : (nv dv p d t q q2 : ℕ) → 0 < d → 0 < t → q2 ≡ q * 2 → nv * t ≡ n * dv → (n * n + m * m) * (d * d) ≤ 2 * (p * p * (t * t)) → p ≤ q * d → nv ≤ q2 * dv
      go nv dv p d t q q2 D P i e h k =
          let f : n * d * (n * d) ≤ 2 * (p * t) * (2 * (p * t)) = omega arith in
          let g : n * d ≤ 2 * (p * t) = square_le (n * d) (2 * (p * t)) f in
          let o : n * d ≤ q2 * t * d = omega (arith, mul-le-mul_right t k, ap (λ (z : ℕ). z * (t * d)) i) in
          let j : n ≤ q2 * t = le_of_mul-le-mul_right {k = d} o D in
          le_of_mul-le-mul_right {k = t} (omega (arith, mul-le-mul_right dv j)) P

  pub u-small : Small 25 u
  u-small = coordinate-small u u-is.count w-is.count u-is.counts (near_le tt middle-near)

  pub w-small : Small 25 w
  w-small = coordinate-small w w-is.count u-is.count w-is.counts (subst (λ (n : ℕ). n * (den r * den r) ≤ 2 * (num r * num r * (T1 * T1))) (swap (u-is.count * u-is.count) (w-is.count * w-is.count)) (near_le tt middle-near))
    where
      swap : (p q : ℕ) → p + q ≡ q + p
      swap p q = omega arith

  pub middle-some : 0 < num u + num w
  middle-some = elim (eq-zero-or-pos u-is.count) [
    | inl e ↦ let h = some-counts w-is.count w w-is.counts (elim (eq-zero-or-pos w-is.count) [ inl f ↦ absurd (none e f) | inr p ↦ p ]) in omega arith
    | inr p ↦ let h = some-counts u-is.count u u-is.counts p in omega arith
  ]
    where
      none : u-is.count ≡ 0 → w-is.count ≡ 0 → ⊥
      none e f = go u-is.count w-is.count (den r * den r) (num r * num r * (T1 * T1)) e f (mul-pos (mul-pos (num_pos r R.above) (num_pos r R.above)) (mul-pos (pow_pos 1074) (pow_pos 1074))) (near_le tt (near-sym middle-near))
        where
          go : (p q d n : ℕ) → p ≡ 0 → q ≡ 0 → 0 < n → n ≤ 2 * ((p * p + q * q) * d) → ⊥
          go p q d n e f N h = omega (arith, ap (λ (v : ℕ). v * (p * d)) e, ap (λ (v : ℕ). v * (q * d)) f)
