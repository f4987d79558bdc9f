-- Each point of a ring lies on it: the corners exactly, each middle by the theorem of one middle. Assumes nothing.
use mathlib.Core.Path.{◌≡◌, sym, ap, ◌∙◌, subst}
use mathlib.Core.Logic.{inl, inr}
use mathlib.Core.Bool.{Bool, true, false}
use mathlib.Core.List.Memᴰ
use mathlib.Core.List.{List, [], ◌∷◌, Memᴰ}
use Prim.Native.Nat.{ℕ, zero, suc, ◌+◌, ◌*◌, ◌^◌, ◌≤◌, ◌<◌}
use native.Mathlib.Nat.{eq-zero-or-pos, mul-pos, zero-mul}
use native.Mathlib.Omega.{arith}
use lib.Dec.{T, leb, le→leb, not_T}
use lib.Ieee.{Float, fin, up, down, neg, eq, of_bits}
use lib.IntN.{ℤ, pos}
use lib.Ieee.Bits.{is_false}
use lib.Ieee.Scale.{finite}
use lib.Ieee.Positive.{num, den, den_pos, positive, positive-finite}
use Rattle.floats.specs.Arith.{◌⊕◌, ◌⊗◌, ◌⊘◌, zero_f}
use Rattle.floats.proofs.Order.{le_refl, eq→le}
use Rattle.floats.proofs.Rounding.{num_pos}
use Rattle.floats.proofs.Nonneg.{le→sizes, positive-nonneg}
use Rattle.floats.proofs.Bounds.{Small, small-finite, small-wider, small-add, of_num}
use Rattle.geometry.specs.Vectors.{vec, add_v, mul_scalar, div_scalar, dot, length_squared, length_of, normalize_of}
use Rattle.geometry.specs.declared.vector.Vector.{Vector}
use Rattle.draw_rings.specs.Ring.{OnRing}
use Rattle.draw_rings.specs.Pieces.{times_radius, ring_middle, halved_at, pieces, east, north, west, south, ring_pairs, AllOn}
use Rattle.draw_rings.proofs.Errors.{Counts, counts_zero, Side, zero-side, Big, big-wider, Result, result-big}
use Rattle.draw_rings.proofs.Operations.{big-add, sum-result}
use Rattle.draw_rings.proofs.Middle.{Radius, Arm, result-zero, result-some, middle-on, u-small, w-small, middle-some, L, over, times, times-big, l-positive, u-is, w-is}
use Rattle.std.specs.Prelude.{Option, Some}

-- an end: a point of the ring in the quarter s, t, each of whose coordinates is 0 or at least 2 ^ -k
pub record End (r : Float) (s t : Bool) (k : ℕ) (p : Vector) : Type 0 where
  pub on : OnRing r p.x p.y
  pub x-small : Small 25 p.x
  pub y-small : Small 25 p.y
  pub x-big : Big k p.x
  pub y-big : Big k p.y
  pub x-side : Side s p.x
  pub y-side : Side t p.y
  pub some : 0 < num p.x + num p.y
  pub flat : num p.z ≡ 0
  pub bounded : T (finite p.z)

pub end-wider : {r : Float} {s t : Bool} {p : Vector} (j k : ℕ) → T (leb j k) → End r s t j p → End r s t k p
end-wider {p = p} j k w e = record {
  on = e.on;
  x-small = e.x-small;
  y-small = e.y-small;
  x-big = big-wider j k (num p.x) (den p.x) w e.x-big;
  y-big = big-wider j k (num p.y) (den p.y) w e.y-big;
  x-side = e.x-side;
  y-side = e.y-side;
  some = e.some;
  flat = e.flat;
  bounded = e.bounded;
}

-- ---- the sum of two ends of a quarter
module _ (r : Float) (s t : Bool) (k : ℕ) (K : k ≤ 300) (p q : Vector) (e : End r s t k p) (f : End r s t k q) where
  one : (v : Bool) (x y : Float) → Small 25 x → Small 25 y → Big k x → Big k y → Side v x → Side v y → Result v (x ⊕ y) (num x * den y + num y * den x) (den x * den y)
  one v x y a b c d g h = sum-result v x y k (small-finite 25 x a) (small-finite 25 y b) g h (small-finite 26 (x ⊕ y) (small-add 25 x y tt a b)) (le→leb k 1022 (omega arith)) c d

  big : (v : Bool) (x y : Float) → Big k x → Big k y → Result v (x ⊕ y) (num x * den y + num y * den x) (den x * den y) → Big (suc k) (x ⊕ y)
  big v x y c d = result-big v (x ⊕ y) (num x * den y + num y * den x) (den x * den y) k (mul-pos (den_pos x) (den_pos y)) (big-add k (num x) (den x) (num y) (den y) c d)

  abbrev sx : Result s (p.x ⊕ q.x) (num p.x * den q.x + num q.x * den p.x) (den p.x * den q.x)
  sx = one s p.x q.x e.x-small f.x-small e.x-big f.x-big e.x-side f.x-side

  abbrev sy : Result t (p.y ⊕ q.y) (num p.y * den q.y + num q.y * den p.y) (den p.y * den q.y)
  sy = one t p.y q.y e.y-small f.y-small e.y-big f.y-big e.y-side f.y-side

  none : (n d : ℕ) → n ≡ 0 → n ≤ 2 ^ 0 * d
  none n d z = omega arith

  pub z-is : Result false (p.z ⊕ q.z) (num p.z * den q.z + num q.z * den p.z) (den p.z * den q.z)
  z-is =
      sum-result false p.z q.z 0 e.bounded f.bounded (zero-side p.z false e.flat) (zero-side q.z false f.flat)
      (small-finite 1 (p.z ⊕ q.z) (small-add 0 p.z q.z tt (of_num 0 p.z e.bounded (none (num p.z) (den p.z) e.flat)) (of_num 0 q.z f.bounded (none (num q.z) (den q.z) f.flat)))) tt (inl e.flat) (inl f.flat)

  pub z-zero : num (p.z ⊕ q.z) ≡ 0
  z-zero =
      counts_zero (p.z ⊕ q.z) (subst (λ (n : ℕ). Counts n (p.z ⊕ q.z)) (result-zero false (p.z ⊕ q.z) (num p.z * den q.z + num q.z * den p.z) (den p.z * den q.z) (mul-pos (den_pos p.z) (den_pos q.z))
      (both (num p.z) (num q.z) (den p.z) (den q.z) e.flat f.flat) z-is) z-is.counts)
    where
      both : (a b c d : ℕ) → a ≡ 0 → b ≡ 0 → a * d + b * c ≡ 0
      both a b c d g h = omega (arith, ap (λ (n : ℕ). n * d) g, ap (λ (n : ℕ). n * c) h)

  sum-some : 0 < num (p.x ⊕ q.x) + num (p.y ⊕ q.y)
  sum-some = elim (eq-zero-or-pos (num p.x)) [
    | inl z ↦ let h = result-some t (p.y ⊕ q.y) (num p.y * den q.y + num q.y * den p.y) (den p.y * den q.y) (more (num p.y) (den q.y) (num q.y * den p.y) (omega (arith, e.some)) (den_pos q.y)) sy in omega arith
    | inr l ↦ let h = result-some s (p.x ⊕ q.x) (num p.x * den q.x + num q.x * den p.x) (den p.x * den q.x) (more (num p.x) (den q.x) (num q.x * den p.x) l (den_pos q.x)) sx in omega arith
  ]
    where
      more : (a b c : ℕ) → 0 < a → 0 < b → 0 < a * b + c
      more a b c A B = let h : 0 < a * b = mul-pos A B in omega arith

  pub arm : Arm s t (suc k) (p.x ⊕ q.x) (p.y ⊕ q.y) (p.z ⊕ q.z)
  arm = record {
    X = sx.count;
    Y = sy.count;
    x-counts = sx.counts;
    y-counts = sy.counts;
    x-small = small-add 25 p.x q.x tt e.x-small f.x-small;
    y-small = small-add 25 p.y q.y tt e.y-small f.y-small;
    x-big = big s p.x q.x e.x-big f.x-big sx;
    y-big = big t p.y q.y e.y-big f.y-big sy;
    x-side = sx.side;
    y-side = sy.side;
    some = sum-some;
    flat = z-zero;
    bounded = z-is.counts.bounded;
  }

positive-not-zero : (x : Float) → T (positive x) → eq x zero_f ≡ false
unfolding of_bits
positive-not-zero x p = is_false (eq x zero_f) (not_T (eq x zero_f) (λ (h : T (eq x zero_f)). none (num x) (den x) (num_pos x p) (le→sizes x zero_f (positive-finite x p) tt (positive-nonneg x p) (le_refl zero_f tt) (eq→le x zero_f h))))
  where
    none : (n d : ℕ) → 0 < n → n * 1 ≤ 0 * 1 * d → ⊥
    none n d N h = omega arith

-- ---- the middle is an end of both halves
module _ (r : Float) (R : Radius r) (s t : Bool) (k : ℕ) (K : k ≤ 300) (p q : Vector) (e : End r s t k p) (f : End r s t k q) where
  abbrev middle : Vector
  middle = mul_scalar (div_scalar (add_v p q) (length_of (add_v p q))) r

  K1 : suc k ≤ 400
  K1 = omega arith

  a : Arm s t (suc k) (p.x ⊕ q.x) (p.y ⊕ q.y) (p.z ⊕ q.z)
  a = arm r s t k K p q e f

  -- the sum's length is never 0: a piece of a quarter is always halved
  pub middle-is : ring_middle r p q ≡ Some middle
  unfolding ring_middle normalize_of times_radius length_of length_squared dot add_v
  middle-is = rw (positive-not-zero (length_of (add_v p q)) (l-positive r (p.x ⊕ q.x) (p.y ⊕ q.y) (p.z ⊕ q.z) s t (suc k) K1 R a))

  abbrev x : Float
  x = p.x ⊕ q.x

  abbrev y : Float
  y = p.y ⊕ q.y

  abbrev z : Float
  z = p.z ⊕ q.z

  abbrev zs : Result false z (num p.z * den q.z + num q.z * den p.z) (den p.z * den q.z)
  zs = z-is r s t k K p q e f

  z0 : num z ≡ 0
  z0 = z-zero r s t k K p q e f

  z-small : Small 26 z
  z-small = of_num 26 z zs.counts.bounded (none (num z) (den z) (2 ^ 26) z0)
    where
      none : (n d c : ℕ) → n ≡ 0 → n ≤ c * d
      none n d c h = omega arith

  abbrev zl : Result false (z ⊘ L r x y z s t (suc k) K1 R a) (num z * den (L r x y z s t (suc k) K1 R a)) (num (L r x y z s t (suc k) K1 R a) * den z)
  zl = over r x y z s t (suc k) K1 R a z false zs.count zs.counts z-small (inl z0) (zero-side z false z0)

  abbrev zr : Result false (z ⊘ L r x y z s t (suc k) K1 R a ⊗ r) (num (z ⊘ L r x y z s t (suc k) K1 R a) * num r) (den (z ⊘ L r x y z s t (suc k) K1 R a) * den r)
  zr = times r x y z s t (suc k) K1 R a z false zs.count zs.counts z-small (inl z0) (zero-side z false z0)

  times_zero : (n m : ℕ) → n ≡ 0 → n * m ≡ 0
  times_zero n m h = ap (λ (i : ℕ). i * m) h ∙ zero-mul m

  zl-zero : num (z ⊘ L r x y z s t (suc k) K1 R a) ≡ 0
  zl-zero =
      counts_zero (z ⊘ L r x y z s t (suc k) K1 R a)
      (subst (λ (n : ℕ). Counts n (z ⊘ L r x y z s t (suc k) K1 R a))
      (result-zero false (z ⊘ L r x y z s t (suc k) K1 R a) (num z * den (L r x y z s t (suc k) K1 R a)) (num (L r x y z s t (suc k) K1 R a) * den z)
      (mul-pos (num_pos (L r x y z s t (suc k) K1 R a) (l-positive r x y z s t (suc k) K1 R a)) (den_pos z)) (times_zero (num z) (den (L r x y z s t (suc k) K1 R a)) z0) zl)
      zl.counts)

  zr-zero : num (z ⊘ L r x y z s t (suc k) K1 R a ⊗ r) ≡ 0
  zr-zero =
      counts_zero (z ⊘ L r x y z s t (suc k) K1 R a ⊗ r)
      (subst (λ (n : ℕ). Counts n (z ⊘ L r x y z s t (suc k) K1 R a ⊗ r))
      (result-zero false (z ⊘ L r x y z s t (suc k) K1 R a ⊗ r) (num (z ⊘ L r x y z s t (suc k) K1 R a) * num r) (den (z ⊘ L r x y z s t (suc k) K1 R a) * den r)
      (mul-pos (den_pos (z ⊘ L r x y z s t (suc k) K1 R a)) (den_pos r)) (times_zero (num (z ⊘ L r x y z s t (suc k) K1 R a)) (num r) zl-zero) zr)
      zr.counts)

  pub middle-end : End r s t (suc k + 39) middle
  unfolding length_of length_squared dot add_v mul_scalar div_scalar
  middle-end = record {
    on = middle-on r x y z s t (suc k) K1 R a;
    x-small = u-small r x y z s t (suc k) K1 R a;
    y-small = w-small r x y z s t (suc k) K1 R a;
    x-big = times-big r x y z s t (suc k) K1 R a x s a.X a.x-counts a.x-small a.x-big a.x-side;
    y-big = times-big r x y z s t (suc k) K1 R a y t a.Y a.y-counts a.y-small a.y-big a.y-side;
    x-side = (u-is r x y z s t (suc k) K1 R a).side;
    y-side = (w-is r x y z s t (suc k) K1 R a).side;
    some = middle-some r x y z s t (suc k) K1 R a;
    flat = zr-zero;
    bounded = zr.counts.bounded;
  }

-- ---- the pieces of a quarter
module _ (stop : Vector → Vector → Bool) (r : Float) (R : Radius r) (s t : Bool) where
  just : (q v : Vector) → OnRing r q.x q.y → Memᴰ v (q ∷ []) → OnRing r v.x v.y
  just q v h m = subst (λ (w : Vector). OnRing r w.x w.y) (sym (Memᴰ.eq_of_singleton m)) h

  halved : (again : Vector → Vector → List Vector) (p q m : Vector) (b : Bool) → OnRing r q.x q.y → AllOn r (again p m) → AllOn r (again m q) → AllOn r (halved_at again p q b (Some m))
  unfolding halved_at
  halved again p q m true h i j v k = just q v h k
  halved again p q m false h i j v k = elim (Memᴰ.append_cases (again p m) k) [ inl g ↦ i v g | inr g ↦ j v g ]

  pub pieces-on : (n k : ℕ) → k + 40 * n ≤ 340 → (p q : Vector) → End r s t k p → End r s t k q → AllOn r (pieces stop r n p q)
  unfolding pieces
  pieces-on zero k l p q e f = λ v m. just q v f.on m
  pieces-on (suc n) k l p q e f =
      let K : k ≤ 300 = omega arith in
      let m = mul_scalar (div_scalar (add_v p q) (length_of (add_v p q))) r in
      let g = middle-end r R s t k K p q e f in
      let l' : suc k + 39 + 40 * n ≤ 340 = omega arith in
      let w : T (leb k (suc k + 39)) = le→leb k (suc k + 39) (omega arith) in
      subst (λ (x : Option Vector). AllOn r (halved_at (pieces stop r n) p q (stop p q) x)) (sym (middle-is r R s t k K p q e f))
      (halved (pieces stop r n) p q m (stop p q) f.on
      (pieces-on n (suc k + 39) l' p m (end-wider k (suc k + 39) w e) g)
      (pieces-on n (suc k + 39) l' m q g (end-wider k (suc k + 39) w f)))

-- ---- the corners lie on the ring exactly
exactly : (a b : ℕ) → a ≡ b → (a * 2 ^ 48 ≤ b * (2 ^ 48 + 1)) × (b * 2 ^ 48 ≤ a * 2 ^ 48 + b)
exactly a b e = (omega arith, omega arith)

module _ (m : ℕ) (i : ℤ) (R : Radius (fin false m i)) where
  abbrev r : Float
  r = fin false m i

  -- r or -r beside a zero
  along : (s : Bool) → OnRing r (fin s m i) (fin false 0 (pos 0))
  along s = let w = exactly _ _ (same (m * up i) (down i)) in record { r_finite = tt; u_finite = tt; v_finite = tt; inside = w.0; outside = w.1 }
    where
      same : (n d : ℕ) → (n * 1 * (n * 1) + 0 * 1 * d * (0 * 1 * d)) * (d * d) ≡ n * n * (d * 1 * (d * 1))
      same n d = omega arith

  across : (s : Bool) → OnRing r (fin false 0 (pos 0)) (fin s m i)
  across s = let w = exactly _ _ (same (m * up i) (down i)) in record { r_finite = tt; u_finite = tt; v_finite = tt; inside = w.0; outside = w.1 }
    where
      same : (n d : ℕ) → (0 * 1 * d * (0 * 1 * d) + n * 1 * (n * 1)) * (d * d) ≡ n * n * (1 * d * (1 * d))
      same n d = omega arith

  small : (s : Bool) → Small 25 (fin s m i)
  small s = small-wider 24 25 (fin false m i) tt R.most

  side : (s : Bool) → Side s (fin s m i)
  side true = zero-mul (up i)
  side false = zero-mul (up i)

  some : 0 < m * up i
  some = num_pos r R.above

  zero-small : Small 25 (fin false 0 (pos 0))
  zero-small = omega arith

  on-x : (s t : Bool) → End r s t 10 (vec (fin s m i) (fin false 0 (pos 0)) (fin false 0 (pos 0)))
  on-x s t = record {
    on = along s;
    x-small = small s;
    y-small = zero-small;
    x-big = inr R.least;
    y-big = inl (omega arith);
    x-side = side s;
    y-side = zero-side (fin false 0 (pos 0)) t (omega arith);
    some = let h = some in omega arith;
    flat = omega arith;
    bounded = tt;
  }

  on-y : (s t : Bool) → End r s t 10 (vec (fin false 0 (pos 0)) (fin t m i) (fin false 0 (pos 0)))
  on-y s t = record {
    on = across t;
    x-small = zero-small;
    y-small = small t;
    x-big = inl (omega arith);
    y-big = inr R.least;
    x-side = zero-side (fin false 0 (pos 0)) s (omega arith);
    y-side = side t;
    some = let h = some in omega arith;
    flat = omega arith;
    bounded = tt;
  }

  -- ---- the whole ring
  pub whole-ring : (stop : Vector → Vector → Bool) (n : ℕ) → n ≤ 8 → AllOn r (ring_pairs stop r n)
  unfolding ring_pairs of_bits neg
  whole-ring stop n l v g =
      elim (Memᴰ.cases_cons g) [
        | inl e ↦ subst (λ (w : Vector). OnRing r w.x w.y) (sym e) (along false)
        | inr g1 ↦ elim (Memᴰ.append_cases (quarter (east r) (north r)) g1) [
          | inl h ↦ pieces-on stop r R false false n 10 room (east r) (north r) (on-x false false) (on-y false false) v h
          | inr g2 ↦ elim (Memᴰ.append_cases (quarter (north r) (west r)) g2) [
            | inl h ↦ pieces-on stop r R true false n 10 room (north r) (west r) (on-y true false) (on-x true false) v h
            | inr g3 ↦ elim (Memᴰ.append_cases (quarter (west r) (south r)) g3) [
              | inl h ↦ pieces-on stop r R true true n 10 room (west r) (south r) (on-x true true) (on-y true true) v h
              | inr h ↦ pieces-on stop r R false true n 10 room (south r) (east r) (on-y false true) (on-x false true) v h
            ]
          ]
        ]
      ]
    where
      room : 10 + 40 * n ≤ 340
      room = omega arith

      quarter : Vector → Vector → List Vector
      quarter p q = pieces stop r n p q
