-- `Small k x`: x is finite, and its magnitude is at most 2 ^ k. One argument for every operation: a fraction of at most 2 ^ k rounds to at most 2 ^ k,
-- since rounding keeps the order and 2 ^ k is a float. The room `T (leb k 1023)` is `tt` for a given k. Assumes nothing.
use mathlib.Core.Path.{◌≡◌, refl, sym, ap, ◌∙◌, subst}
use mathlib.Core.Bool.{Bool, true, false}
use Prim.Native.Nat.{ℕ, suc, ◌+◌, ◌*◌, ◌^◌, ◌≤◌, ◌<◌}
use native.Mathlib.Nat.{le_trans, le_of_eq, mul-le-mul, mul-le-mul_right, le_of_mul-le-mul_right, mul-pos, mul_comm, mul-one, one-mul, mul-mul-mul_comm, pow-suc, zero-mul}
use native.Mathlib.Omega.{arith}
use lib.IntN.{ℤ}
use lib.Dec.{T, leb, leb→le, lit<}
use lib.Pow.{pow-add, pow_pos, pow_mono}
use lib.Ieee.{Float, nan, inf, fin, binary64, up, down, unlike, round, sum, neg, add, sub, mul, le, of_bits}
use lib.Ieee.Fits.{down_pos, and_l, and_r}
use lib.Ieee.Exact.{HasValue, round_exact}
use lib.Ieee.Order.{round_mono}
use lib.Ieee.Scale.{finite, round_val, round_under}
use lib.Ieee.Positive.{num, den, den_pos, positive}
use Rattle.floats.specs.Arith.{◌⊕◌, ◌⊖◌, ◌⊗◌, ◌⊘◌, zero_f, one_f, million}
use Rattle.floats.specs.Numbers.{number, within}
use Rattle.floats.proofs.Order.{finite_number, pp, nn, plus, less, le→cross, cross→le, finite-between}
use Rattle.floats.proofs.Order as Order
use Rattle.floats.proofs.Rounding.{Off, round-neg, round-zero, sum-rounded, div-rounded, num_pos, magnitude}

abbrev pub Small : ℕ → Float → Type 0
Small k nan = ⊥
Small k (inf s) = ⊥
Small k (fin s m e) = m * up e ≤ 2 ^ k * down e

pub small-finite : (k : ℕ) (x : Float) → Small k x → T (finite x)
small-finite k nan h = absurd h
small-finite k (inf s) h = absurd h
small-finite k (fin s m e) h = tt

pub small-number : (k : ℕ) (x : Float) → Small k x → T (number x)
small-number k x h = finite_number x (small-finite k x h)

pub small-num : (k : ℕ) (x : Float) → Small k x → num x ≤ 2 ^ k * den x
small-num k nan h = absurd h
small-num k (inf s) h = absurd h
small-num k (fin s m e) h = h

pub small-wider : (j k : ℕ) (x : Float) → T (leb j k) → Small j x → Small k x
small-wider j k nan w h = h
small-wider j k (inf s) w h = h
small-wider j k (fin s m e) w h = le_trans h (mul-le-mul_right (down e) (pow_mono (leb→le j k w)))

pub small-neg : (k : ℕ) (x : Float) → Small k x → Small k (neg x)
unfolding neg
small-neg k nan h = h
small-neg k (inf s) h = h
small-neg k (fin s m e) h = h

-- ---- the one argument
-- 0 ≤ x ≤ y for a y that is p / 1
under : (x y : Float) (g l p : ℕ) → HasValue x false g l → HasValue y false p 1 → T (le x y) → num x ≤ p * den x
under nan y g l p a b h = absurd a
under (inf s) y g l p a b h = absurd a
under (fin s m e) nan g l p a b h = absurd b
under (fin s m e) (inf t) g l p a b h = absurd b
under (fin true m e) (fin t n d) g l p a b h = absurd (subst T a.0 tt)
under (fin false m e) (fin true n d) g l p a b h = absurd (subst T b.0 tt)
under (fin false m e) (fin false n d) g l p a b h =
    go (m * up e) (down e) (n * up d) (down d) (down_pos d) b.1 (le→cross (fin false m e) (fin false n d) tt tt h)
  where
    go : (x de y dd : ℕ) → 0 < dd → y * 1 ≡ p * dd → x * dd + 0 * up d * de ≤ y * de + 0 * up e * dd → x ≤ p * de
    go x de y dd D i c =
        let z = zero-mul (up d) in
        let w = zero-mul (up e) in
        le_of_mul-le-mul_right {k = dd} (omega (arith, c, ap (λ (v : ℕ). v * de) i, ap (λ (v : ℕ). v * de) z, ap (λ (v : ℕ). v * dd) w)) D

power : (k : ℕ) → k ≤ 1023 → HasValue (round binary64 false (2 ^ k) 1) false (2 ^ k) 1
power k h =
    round_exact binary64 false (2 ^ k) 1 1 (k + 1074) (omega arith) (lit< tt) (subst (λ (z : ℕ). z < 2 ^ (1074 + suc 1023)) (sym (one-mul (2 ^ (k + 1074)))) (more (k + 1074) (1074 + suc 1023) (omega arith)))
    (sym (pow-add 2 k 1074) ∙ sym (one-mul (2 ^ (k + 1074))) ∙ sym (mul-one (1 * 2 ^ (k + 1074))))
  where
    more : (a b : ℕ) → a < b → 2 ^ a < 2 ^ b
    more a b l = let h : 2 ^ suc a ≤ 2 ^ b = pow_mono l in omega (arith, h, pow-suc 2 a, pow_pos a)

pub value-finite : (x : Float) (s : Bool) (a c : ℕ) → HasValue x s a c → T (finite x)
value-finite nan s a c h = h
value-finite (inf t) s a c h = h
value-finite (fin t m e) s a c h = tt

pub of_num : (k : ℕ) (x : Float) → T (finite x) → num x ≤ 2 ^ k * den x → Small k x
of_num k nan p h = p
of_num k (inf s) p h = p
of_num k (fin s m e) p h = h

round-small+ : (a b k : ℕ) → 0 < b → T (leb k 1023) → a ≤ 2 ^ k * b → Small k (round binary64 false a b)
round-small+ a b k B w h =
    let x = round binary64 false a b in
    let y = round binary64 false (2 ^ k) 1 in
    let v = power k (leb→le k 1023 w) in
    let l : T (le x y) = round_mono binary64 a b (2 ^ k) 1 B (omega arith) (omega arith) in
    let F : T (finite x) = finite-between (round binary64 false 0 1) x y (value-finite (round binary64 false 0 1) false 0 1 (round-zero false 1 (omega arith))) (value-finite y false (2 ^ k) 1 v) (round_mono binary64 0 1 a b (omega arith) B (omega arith)) l in
    of_num k x F (under x y _ _ (2 ^ k) (round_val binary64 a b (round_under binary64 a b F)) v l)

-- a fraction of magnitude at most 2 ^ k rounds to a float of magnitude at most 2 ^ k
pub round-small : (s : Bool) (a b k : ℕ) → 0 < b → T (leb k 1023) → a ≤ 2 ^ k * b → Small k (round binary64 s a b)
round-small false a b k B w h = round-small+ a b k B w h
round-small true a b k B w h = subst (Small k) (sym (round-neg a b)) (small-neg k (round binary64 false a b) (round-small+ a b k B w h))

-- ---- the operations
off-le : (s : Bool) (k P N : ℕ) → Off s k P N → k ≤ P + N
off-le false k P N o = omega arith
off-le true k P N o = omega arith

parts : (s : Bool) (a : ℕ) → pp s a + nn s a ≡ a
parts true a = omega arith
parts false a = omega arith

sum-small : (s : Bool) (a : ℕ) (t : Bool) (b c k : ℕ) → 0 < c → T (leb (suc k) 1023) → a ≤ 2 ^ k * c → b ≤ 2 ^ k * c → Small (suc k) (sum binary64 s a t b c)
sum-small s a t b c k C w h i =
    let r = sum-rounded s a t b c in
    subst (Small (suc k)) (sym r.is)
    (round-small r.sign r.magnitude c (suc k) C w
    (omega (arith, off-le r.sign r.magnitude _ _ r.off, parts s a, parts t b, h, i, ap (λ (z : ℕ). z * c) (pow-suc 2 k))))

cross : (x de p dd : ℕ) → x ≤ p * de → x * dd ≤ p * (de * dd)
cross x de p dd h = omega (arith, mul-le-mul_right dd h)

pub small-add : (k : ℕ) (x y : Float) → T (leb (suc k) 1023) → Small k x → Small k y → Small (suc k) (x ⊕ y)
unfolding add
small-add k nan y w h i = absurd h
small-add k (inf s) y w h i = absurd h
small-add k (fin s m e) nan w h i = absurd i
small-add k (fin s m e) (inf t) w h i = absurd i
small-add k (fin s m e) (fin t n d) w h i =
    sum-small s (m * up e * down d) t (n * up d * down e) (down e * down d) k (mul-pos (down_pos e) (down_pos d)) w
    (cross (m * up e) (down e) (2 ^ k) (down d) h)
    (subst (λ (z : ℕ). n * up d * down e ≤ 2 ^ k * z) (mul_comm (down d) (down e)) (cross (n * up d) (down d) (2 ^ k) (down e) i))

pub small-sub : (k : ℕ) (x y : Float) → T (leb (suc k) 1023) → Small k x → Small k y → Small (suc k) (x ⊖ y)
unfolding sub
small-sub k x y w h i = small-add k x (neg y) w h (small-neg k y i)

pub small_mul : (j k : ℕ) (x y : Float) → T (leb (j + k) 1023) → Small j x → Small k y → Small (j + k) (x ⊗ y)
unfolding mul
small_mul j k nan y w h i = absurd h
small_mul j k (inf s) y w h i = absurd h
small_mul j k (fin s m e) nan w h i = absurd i
small_mul j k (fin s m e) (inf t) w h i = absurd i
small_mul j k (fin s m e) (fin t n d) w h i =
    round-small (unlike s t) (m * up e * (n * up d)) (down e * down d) (j + k) (mul-pos (down_pos e) (down_pos d)) w
    (le_trans (mul-le-mul h i) (le_of_eq (mul-mul-mul_comm (2 ^ j) (down e) (2 ^ k) (down d) ∙ ap (λ (z : ℕ). z * (down e * down d)) (sym (pow-add 2 j k)))))

-- ---- Small and the order
-- |x| ≤ c from |x| ≤ 2 ^ k ≤ c
pub small-le : (k : ℕ) (x : Float) (n : ℕ) (d : ℤ) → T (leb (2 ^ k * down d) (n * up d)) → Small k x → T (le x (fin false n d))
small-le k nan n d w h = absurd h
small-le k (inf s) n d w h = absurd h
small-le k (fin s m e) n d w h =
    cross→le (fin s m e) (fin false n d) tt tt (go s (down e) (n * up d) (down d) (2 ^ k) h (leb→le (2 ^ k * down d) (n * up d) w))
  where
    scaled : (x de y dd p : ℕ) → x ≤ p * de → p * dd ≤ y → x * dd ≤ y * de
    scaled x de y dd p h i = omega (arith, mul-le-mul_right dd h, mul-le-mul_right de i)

    go : (s : Bool) (de y dd p : ℕ) → m * up e ≤ p * de → p * dd ≤ y → pp s m * up e * dd + 0 * up d * de ≤ y * de + nn s m * up e * dd
    go false de y dd p h i = omega (arith, scaled (m * up e) de y dd p h i)
    go true de y dd p h i = omega arith

-- c ≤ 2 ^ k
pub le-small : (k : ℕ) (x c : Float) → T (finite c) → T (le (neg c) x) → T (le x c) → Small k c → Small k x
le-small k x c p h i j = of_num k x F (go (num x) (den x) (num c) (den c) (2 ^ k) (den_pos c) (magnitude x c F p h i) (small-num k c j))
  where
    F : T (finite x)
    F = finite-between (neg c) x c (small-finite k (neg c) (small-neg k c j)) p h i

    go : (x de y dd p : ℕ) → 0 < dd → x * dd ≤ y * de → y ≤ p * dd → x ≤ p * de
    go x de y dd p D h i = le_of_mul-le-mul_right {k = dd} (omega (arith, h, mul-le-mul_right de i)) D

-- ---- numbers within a million
pub within-small : (x : Float) → T (within x) → Small 20 x
unfolding within of_bits
within-small x h = le-small 20 x million tt (and_l (le (neg million) x) (le x million) h) (and_r (le (neg million) x) (le x million) h) (leb→le (15625 * 2 ^ 6 * 1) (2 ^ 20) tt)

pub within-finite : (x : Float) → T (within x) → T (finite x)
within-finite x h = small-finite 20 x (within-small x h)

pub within-sub : (x y : Float) → T (within x) → T (within y) → T (finite (x ⊖ y))
within-sub x y h k = small-finite 21 (x ⊖ y) (small-sub 20 x y tt (within-small x h) (within-small y k))

-- from 0 to 1
pub unit-small : (t : Float) → T (le zero_f t) → T (le t one_f) → Small 0 t
unfolding le neg of_bits
unit-small t h k = le-small 0 t one_f tt (Order.le_trans (neg one_f) zero_f t tt h) k (leb→le 1 1 tt)

-- ---- the quotient
whole : (x : Float) → plus x + less x ≡ num x
whole nan = refl
whole (inf s) = refl
whole (fin true m e) = omega arith
whole (fin false m e) = omega arith

-- |x| ≤ 2 ^ j and y ≥ 2 ^ -i: the quotient is at most 2 ^ (j + i)
pub small-div : (j i : ℕ) (x y : Float) → T (leb (j + i) 1023) → Small j x → T (positive y) → den y ≤ 2 ^ i * num y → Small (j + i) (x ⊘ y)
small-div j i x y w h q l =
    let r = div-rounded x y (small-finite j x h) q in
    subst (Small (j + i)) (sym r.is)
    (round-small r.sign r.magnitude (num y * den x) (j + i) (mul-pos (num_pos y q) (den_pos x)) w
    (bound (plus x) (less x) (num x) (den x) (num y) (den y) (2 ^ j) (2 ^ i) (2 ^ (j + i)) r.magnitude (whole x) (pow-add 2 j i) (small-num j x h) l (off-le r.sign r.magnitude _ _ r.off)))
  where
    bound : (p n a d b c u v uv m : ℕ) → p + n ≡ a → uv ≡ u * v → a ≤ u * d → c ≤ v * b → m ≤ p * c + n * c → m ≤ uv * (b * d)
    bound p n a d b c u v uv m e e' h k o =
        let s : p * c + n * c ≡ a * c = omega (arith, ap (λ (z : ℕ). z * c) e) in
        let t : a * c ≤ u * d * (v * b) = mul-le-mul h k in
        let g : u * d * (v * b) ≡ uv * (b * d) = omega (arith, ap (λ (z : ℕ). z * (b * d)) e') in
        omega (arith, s, t, g, o)
