-- Notches stand 2 ^ -20 apart; `Cell p x` says that x lies from notch p up to the next, where notch 2 ^ 40 is 0. A notch is a float, so no rounding passes one:
-- a computed middle lies in a cell as near to the middle of the two cells as can be, and by whole numbers no error adds up. Assumes nothing.
use mathlib.Core.Path.{◌≡◌, refl, sym, ap, subst}
use mathlib.Core.Logic.{◌⊎◌, inl, inr}
use mathlib.Core.Bool.{Bool, true, false}
use Prim.Native.Nat.{ℕ, zero, suc, ◌+◌, ◌-◌, ◌*◌, ◌^◌, ◌≤◌, ◌<◌}
use native.Mathlib.Nat.{le_trans, mul-le-mul, mul-le-mul_right, le_of_mul-le-mul_right, mul-pos, mul_assoc, pow-suc}
use native.Mathlib.Omega.{arith}
use lib.IntN.{negsuc}
use lib.Dec.{T}
use lib.Pow.{pow_pos, pow-lt, shl_lt}
use lib.Ieee.{Float, nan, inf, fin, binary64, down, round, add, mul, neg, lt, le, of_bits}
use lib.Ieee.Exact.{HasValue, round_exact}
use lib.Ieee.Order.{round_mono}
use lib.Ieee.Scale.{finite}
use lib.Ieee.Positive.{num, den, den_pos}
use Rattle.floats.specs.Arith.{◌⊕◌, ◌⊖◌, ◌⊗◌, zero_f, half_f, EPS}
use Rattle.floats.proofs.Order.{pp, nn, plus, less, le→cross, le-or-lt, le_lt_trans, finite-between}
use Rattle.floats.proofs.Rounding.{Off, Rounded, rounded-mono, sub-rounded, add-mono, magnitude, square-is}
use Rattle.floats.proofs.Nonneg.{square-nonneg, add-nonneg}
use Rattle.floats.proofs.Bounds.{Small, small-finite, small-add, value-finite}
use Rattle.rounding.proofs.Sums.{add-rounded, half-rounded, small-half}

-- ---- x is at least, at most (a - n) / 2 ^ 20
abbrev pub AtLeast : ℕ → ℕ → Float → Type 0
AtLeast a n x = a * den x + less x * 2 ^ 20 ≤ plus x * 2 ^ 20 + n * den x

abbrev pub AtMost : ℕ → ℕ → Float → Type 0
AtMost a n x = plus x * 2 ^ 20 + n * den x ≤ a * den x + less x * 2 ^ 20

-- the float that is (a - n) / 2 ^ 20
record Notch (a n : ℕ) : Type 0 where
  it : Float
  bounded : T (finite it)
  rounded : Rounded it a n (2 ^ 20)
  is : plus it * 2 ^ 20 + n * den it ≡ a * den it + less it * 2 ^ 20

exact : (s : Bool) (k : ℕ) → k < 2 ^ 53 → HasValue (round binary64 s k (2 ^ 20)) s k (2 ^ 20)
exact s k h =
    round_exact binary64 s k (2 ^ 20) k 1054 (pow_pos 20) h (le_trans (shl_lt 53 1054 h) (pow-le 1107 2098 (omega arith))) (sym (mul_assoc k (2 ^ 1054) (2 ^ 20)))
  where
    pow-le : (a b : ℕ) → a < b → 2 ^ a ≤ 2 ^ b
    pow-le a b h = let l : 2 ^ a < 2 ^ b = pow-lt h in omega arith

valued : (x : Float) (s : Bool) (k a n u : ℕ) → HasValue x s k u → Off s k a n → plus x * u + n * den x ≡ a * den x + less x * u
valued nan s k a n u v o = absurd v
valued (inf t) s k a n u v o = absurd v
valued (fin true m e) true k a n u v o = omega (arith, v.1, ap (λ (z : ℕ). z * down e) o)
valued (fin false m e) false k a n u v o = omega (arith, v.1, ap (λ (z : ℕ). z * down e) o)
valued (fin true m e) false k a n u v o = absurd (subst T v.0 tt)
valued (fin false m e) true k a n u v o = absurd (subst T (sym v.0) tt)

notch : (a n : ℕ) → a < n + 2 ^ 53 → n < a + 2 ^ 53 → Notch a n
notch a n h k = elim (le-or-lt n a) [ inl l ↦ go false (a - n) (omega arith) (omega arith) | inr l ↦ go true (n - a) (omega arith) (omega arith) ]
  where
    go : (s : Bool) (d : ℕ) → Off s d a n → d < 2 ^ 53 → Notch a n
    go s d o l =
        let x = round binary64 s d (2 ^ 20) in
        let v = exact s d l in
        record { it = x; bounded = value-finite x s d (2 ^ 20) v; rounded = record { sign = s; magnitude = d; is = refl; off = o }; is = valued x s d a n (2 ^ 20) v o }

-- what lies on one side of a notch is rounded to the same side
module _ (z : Float) (P N D a n : ℕ) (F : T (finite z)) (B : 0 < D) (r : Rounded z P N D) (h : a < n + 2 ^ 53) (k : n < a + 2 ^ 53) where
  pub keeps-least : a * D + N * 2 ^ 20 ≤ P * 2 ^ 20 + n * D → AtLeast a n z
  keeps-least l =
      let g = notch a n h k in
      go (2 ^ 20) (plus g.it) (less g.it) (den g.it) (plus z) (less z) (den z) (den_pos g.it) g.is
      (le→cross g.it z g.bounded F (rounded-mono a n (2 ^ 20) P N D (pow_pos 20) B l g.it z g.rounded r))
    where
      go : (u p q d p' q' d' : ℕ) → 0 < d → p * u + n * d ≡ a * d + q * u → p * d' + q' * d ≤ p' * d + q * d' → a * d' + q' * u ≤ p' * u + n * d'
      go u p q d p' q' d' D e c = le_of_mul-le-mul_right {k = d} (omega (arith, ap (λ (z : ℕ). z * d') e, mul-le-mul_right u c)) D

  pub keeps-most : P * 2 ^ 20 + n * D ≤ a * D + N * 2 ^ 20 → AtMost a n z
  keeps-most l =
      let g = notch a n h k in
      go (2 ^ 20) (plus g.it) (less g.it) (den g.it) (plus z) (less z) (den z) (den_pos g.it) g.is
      (le→cross z g.it F g.bounded (rounded-mono P N D a n (2 ^ 20) B (pow_pos 20) l z g.it r g.rounded))
    where
      go : (u p q d p' q' d' : ℕ) → 0 < d → p * u + n * d ≡ a * d + q * u → p' * d + q * d' ≤ p * d' + q' * d → p' * u + n * d' ≤ a * d' + q' * u
      go u p q d p' q' d' D e c = le_of_mul-le-mul_right {k = d} (omega (arith, ap (λ (z : ℕ). z * d') e, mul-le-mul_right u c)) D

-- ---- the cell of a float
pub record Cell (p : ℕ) (x : Float) : Type 0 where
  pub small : Small 20 x
  pub early : p < 2 ^ 41
  pub from : AtLeast p (2 ^ 40) x
  pub upto : AtMost (suc p) (2 ^ 40) x

abbrev pub midway : Float → Float → Float
midway x y = (x ⊕ y) ⊗ half_f

-- a number as a sum of halves
halves : (n : ℕ) → (h : ℕ) × ((n ≡ h + h) ⊎ (n ≡ suc (h + h)))
halves zero = (0, inl refl)
halves (suc n) = elim (halves n).1 [ inl e ↦ ((halves n).0, inr (ap suc e)) | inr e ↦ (suc (halves n).0, inl (omega (arith, e))) ]

-- the middle of two floats on the notches around the middle of their cells
module _ (x y : Float) (p q : ℕ) (c : Cell p x) (d : Cell q y) where
  sum-small : Small 21 (x ⊕ y)
  sum-small = small-add 20 x y tt c.small d.small

  pub midway-small : Small 20 (midway x y)
  midway-small = small-half 20 (x ⊕ y) tt sum-small

  sum-least : AtLeast (p + q) (2 ^ 41) (x ⊕ y)
  sum-least =
      keeps-least (x ⊕ y) _ _ (den x * den y) (p + q) (2 ^ 41) (small-finite 21 (x ⊕ y) sum-small) (mul-pos (den_pos x) (den_pos y))
      (add-rounded x y (small-finite 20 x c.small) (small-finite 20 y d.small)) (omega (arith, c.early, d.early)) (omega arith)
      (go (2 ^ 20) (2 ^ 40) (plus x) (less x) (den x) (plus y) (less y) (den y) c.from d.from)
    where
      go : (u h p' n' e p'' n'' e' : ℕ) → p * e + n' * u ≤ p' * u + h * e → q * e' + n'' * u ≤ p'' * u + h * e'
          → (p + q) * (e * e') + (n' * e' + n'' * e) * u ≤ (p' * e' + p'' * e) * u + (h + h) * (e * e')
      go u h p' n' e p'' n'' e' i j = omega (arith, mul-le-mul_right e' i, mul-le-mul_right e j)

  sum-most : AtMost (p + q + 2) (2 ^ 41) (x ⊕ y)
  sum-most =
      keeps-most (x ⊕ y) _ _ (den x * den y) (p + q + 2) (2 ^ 41) (small-finite 21 (x ⊕ y) sum-small) (mul-pos (den_pos x) (den_pos y))
      (add-rounded x y (small-finite 20 x c.small) (small-finite 20 y d.small)) (omega (arith, c.early, d.early)) (omega arith)
      (go (2 ^ 20) (2 ^ 40) (plus x) (less x) (den x) (plus y) (less y) (den y) c.upto d.upto)
    where
      go : (u h p' n' e p'' n'' e' : ℕ) → p' * u + h * e ≤ suc p * e + n' * u → p'' * u + h * e' ≤ suc q * e' + n'' * u
          → (p' * e' + p'' * e) * u + (h + h) * (e * e') ≤ (p + q + 2) * (e * e') + (n' * e' + n'' * e) * u
      go u h p' n' e p'' n'' e' i j = omega (arith, mul-le-mul_right e' i, mul-le-mul_right e j)

  midway-least : (a : ℕ) → a + a ≤ p + q → AtLeast a (2 ^ 40) (midway x y)
  midway-least a l =
      keeps-least (midway x y) _ _ (den (x ⊕ y) * 2) a (2 ^ 40) (small-finite 20 (midway x y) midway-small) (mul-pos (den_pos (x ⊕ y)) (pow_pos 1))
      (half-rounded (x ⊕ y) (small-finite 21 (x ⊕ y) sum-small)) (omega (arith, c.early, d.early)) (omega arith)
      (go (2 ^ 20) (2 ^ 40) (plus (x ⊕ y)) (less (x ⊕ y)) (den (x ⊕ y)) sum-least)
    where
      go : (u h p' n' e : ℕ) → (p + q) * e + n' * u ≤ p' * u + (h + h) * e → a * (e * 2) + n' * u ≤ p' * u + h * (e * 2)
      go u h p' n' e i = omega (arith, i, mul-le-mul_right e l)

  midway-most : (a : ℕ) → p + q + 2 ≤ a + a → a ≤ 2 ^ 42 → AtMost a (2 ^ 40) (midway x y)
  midway-most a l w =
      keeps-most (midway x y) _ _ (den (x ⊕ y) * 2) a (2 ^ 40) (small-finite 20 (midway x y) midway-small) (mul-pos (den_pos (x ⊕ y)) (pow_pos 1))
      (half-rounded (x ⊕ y) (small-finite 21 (x ⊕ y) sum-small)) (omega arith) (omega arith)
      (go (2 ^ 20) (2 ^ 40) (plus (x ⊕ y)) (less (x ⊕ y)) (den (x ⊕ y)) sum-most)
    where
      go : (u h p' n' e : ℕ) → p' * u + (h + h) * e ≤ (p + q + 2) * e + n' * u → p' * u + h * (e * 2) ≤ a * (e * 2) + n' * u
      go u h p' n' e i = omega (arith, i, mul-le-mul_right e l)

  -- it lies in a cell m with 2 m within 1 of p + q
  pub record Amid : Type 0 where
    pub m : ℕ
    pub cell : Cell m (midway x y)
    pub most : m + m ≤ p + q + 1
    pub least : p + q ≤ m + m + 1

  pub amid : Amid
  amid = elim (halves (p + q)).1 [ inl e ↦ even (halves (p + q)).0 e | inr e ↦ odd (halves (p + q)).0 e ]
    where
      at : (m : ℕ) → m + m ≤ p + q + 1 → p + q ≤ m + m + 1 → AtLeast m (2 ^ 40) (midway x y) → AtMost (suc m) (2 ^ 40) (midway x y) → Amid
      at m i j l k = record { m = m; cell = record { small = midway-small; early = omega (arith, c.early, d.early); from = l; upto = k }; most = i; least = j }

      even : (h : ℕ) → p + q ≡ h + h → Amid
      even h e = at h (omega arith) (omega arith) (midway-least h (omega arith)) (midway-most (suc h) (omega arith) (omega (arith, c.early, d.early)))

      -- the middle of the cells is a notch, and the middle of the floats lies on one side of it
      odd : (h : ℕ) → p + q ≡ suc (h + h) → Amid
      odd h e =
          elim (le-or-lt (suc h * den (midway x y) + less (midway x y) * 2 ^ 20) (plus (midway x y) * 2 ^ 20 + 2 ^ 40 * den (midway x y))) [
            | inl l ↦ at (suc h) (omega arith) (omega arith) l (midway-most (suc (suc h)) (omega arith) (omega (arith, c.early, d.early)))
            | inr l ↦ at h (omega arith) (omega arith) (midway-least h (omega arith)) (omega (arith, l))
          ]

-- ---- each float of magnitude at most 2 ^ 20 has a cell
sought : (d v n : ℕ) → v ≤ suc n * d → (p : ℕ) × (p ≤ n) × (p * d ≤ v) × (v ≤ suc p * d)
sought d v zero h = (0, omega arith, omega arith, h)
sought d v (suc n) h =
    elim (le-or-lt v (suc n * d)) [
      | inl l ↦ let s = sought d v n l in (s.0, omega (arith, s.1), s.2, s.3)
      | inr l ↦ (suc n, omega arith, omega (arith, l), h)
    ]

parts-small : (x : Float) → Small 20 x → plus x + less x ≤ 2 ^ 20 * den x
parts-small nan h = absurd h
parts-small (inf s) h = absurd h
parts-small (fin true m e) h = omega (arith, h)
parts-small (fin false m e) h = omega (arith, h)

pub cell-of : (x : Float) → Small 20 x → (p : ℕ) × Cell p x
cell-of x h = go (plus x) (less x) (den x) (parts-small x h) (λ (k : ℕ) l i j. record { small = h; early = l; from = i; upto = j })
  where
    go : (p n d : ℕ) → p + n ≤ 2 ^ 20 * d → ((k : ℕ) → k < 2 ^ 41 → k * d + n * 2 ^ 20 ≤ p * 2 ^ 20 + 2 ^ 40 * d → p * 2 ^ 20 + 2 ^ 40 * d ≤ suc k * d + n * 2 ^ 20 → Cell k x) → (k : ℕ) × Cell k x
    go p n d l f =
        let s = sought d (p * 2 ^ 20 + 2 ^ 40 * d - n * 2 ^ 20) (2 ^ 41 - 1) (omega (arith, l)) in
        (s.0, f s.0 (omega (arith, s.1)) (omega (arith, s.2, l)) (omega (arith, s.3, l)))

-- ---- two floats at most 2 ^ j cells apart
pub record Near (j : ℕ) (x y : Float) : Type 0 where
  pub p : ℕ
  pub q : ℕ
  pub first : Cell p x
  pub second : Cell q y
  pub above : p ≤ q + 2 ^ j
  pub below : q ≤ p + 2 ^ j

pub near-all : (x y : Float) → Small 20 x → Small 20 y → Near 41 x y
near-all x y h k =
    let c = cell-of x h in
    let d = cell-of y k in
    record { p = c.0; q = d.0; first = c.1; second = d.1; above = omega (arith, c.1.early); below = omega (arith, d.1.early) }

-- either half is half as wide
pub near_first : (j : ℕ) (x y : Float) → Near (suc j) x y → Near j x (midway x y)
near_first j x y n =
    let a = amid x y n.p n.q n.first n.second in
    record { p = n.p; q = a.m; first = n.first; second = a.cell; above = omega (arith, a.least, n.above, pow-suc 2 j); below = omega (arith, a.most, n.below, pow-suc 2 j) }

pub near-second : (j : ℕ) (x y : Float) → Near (suc j) x y → Near j (midway x y) y
near-second j x y n =
    let a = amid x y n.p n.q n.first n.second in
    record { p = a.m; q = n.q; first = a.cell; second = n.second; above = omega (arith, a.most, n.above, pow-suc 2 j); below = omega (arith, a.least, n.below, pow-suc 2 j) }

-- ---- at most 16 cells apart: the computed difference is at most 17 / 2 ^ 20 in size, and so its square is at most that of 17 / 2 ^ 20
abbrev pub reach : Float
reach = fin false 17 (negsuc 19)

own-rounded : (s : Bool) → Rounded (fin s 17 (negsuc 19)) (pp s 17) (nn s 17) (2 ^ 20)
unfolding round
own-rounded true = record { sign = true; magnitude = 17; is = refl; off = refl }
own-rounded false = record { sign = false; magnitude = 17; is = refl; off = refl }

module _ (x y : Float) (n : Near 4 x y) where
  difference : Rounded (x ⊖ y) (plus x * den y + less y * den x) (less x * den y + plus y * den x) (den x * den y)
  difference = sub-rounded x y (small-finite 20 x n.first.small) (small-finite 20 y n.second.small)

  pub difference-most : T (le (x ⊖ y) reach)
  difference-most =
      rounded-mono _ _ (den x * den y) 17 0 (2 ^ 20) (mul-pos (den_pos x) (den_pos y)) (pow_pos 20)
      (go (2 ^ 20) (2 ^ 40) n.p n.q (plus x) (less x) (den x) (plus y) (less y) (den y) n.first.upto n.second.from n.above) (x ⊖ y) reach difference (own-rounded false)
    where
      go : (u h p q a b d a' b' d' : ℕ) → a * u + h * d ≤ suc p * d + b * u → q * d' + b' * u ≤ a' * u + h * d' → p ≤ q + 16
          → (a * d' + b' * d) * u + 0 * (d * d') ≤ 17 * (d * d') + (b * d' + a' * d) * u
      go u h p q a b d a' b' d' i j k = omega (arith, mul-le-mul_right d' i, mul-le-mul_right d j, mul-le-mul_right (d * d') k)

  pub difference-least : T (le (neg reach) (x ⊖ y))
  unfolding neg
  difference-least =
      rounded-mono 0 17 (2 ^ 20) _ _ (den x * den y) (pow_pos 20) (mul-pos (den_pos x) (den_pos y))
      (go (2 ^ 20) (2 ^ 40) n.p n.q (plus x) (less x) (den x) (plus y) (less y) (den y) n.first.from n.second.upto n.below) (neg reach) (x ⊖ y) (own-rounded true) difference
    where
      go : (u h p q a b d a' b' d' : ℕ) → p * d + b * u ≤ a * u + h * d → a' * u + h * d' ≤ suc q * d' + b' * u → q ≤ p + 16
          → 0 * (d * d') + (b * d' + a' * d) * u ≤ (a * d' + b' * d) * u + 17 * (d * d')
      go u h p q a b d a' b' d' i j k = omega (arith, mul-le-mul_right d' i, mul-le-mul_right d j, mul-le-mul_right (d * d') k)

  pub difference-finite : T (finite (x ⊖ y))
  unfolding neg
  difference-finite = finite-between (neg reach) (x ⊖ y) reach tt tt difference-least difference-most

  pub square-most : T (le ((x ⊖ y) ⊗ (x ⊖ y)) (reach ⊗ reach))
  square-most =
      let z = x ⊖ y in
      let l = magnitude z reach difference-finite tt difference-least difference-most in
      rw (square-is z difference-finite, square-is reach tt)
      (round_mono binary64 (num z * num z) (den z * den z) (17 * 17) (2 ^ 20 * 2 ^ 20) (mul-pos (den_pos z) (den_pos z)) (mul-pos (pow_pos 20) (pow_pos 20)) (go (num z) (den z) (2 ^ 20) l))
    where
      go : (a d u : ℕ) → a * u ≤ 17 * 1 * d → a * a * (u * u) ≤ 17 * 17 * (d * d)
      go a d u l = omega (arith, mul-le-mul l l)

  pub square-finite : T (finite ((x ⊖ y) ⊗ (x ⊖ y)))
  unfolding mul round of_bits
  square-finite = finite-between zero_f ((x ⊖ y) ⊗ (x ⊖ y)) (reach ⊗ reach) tt tt (square-nonneg (x ⊖ y) difference-finite) square-most

-- at most 16 cells apart on each of three axes: the computed squared distance is below EPS
pub squares-short : (x x' y y' z z' : Float) → Near 4 x x' → Near 4 y y' → Near 4 z z'
    → T (lt ((x ⊖ x') ⊗ (x ⊖ x') ⊕ (y ⊖ y') ⊗ (y ⊖ y') ⊕ (z ⊖ z') ⊗ (z ⊖ z')) EPS)
unfolding add mul round lt of_bits
squares-short x x' y y' z z' i j k =
    let r = reach ⊗ reach in
    let X = (x ⊖ x') ⊗ (x ⊖ x') in
    let Y = (y ⊖ y') ⊗ (y ⊖ y') in
    let Z = (z ⊖ z') ⊗ (z ⊖ z') in
    let X< = square-finite x x' i in
    let Y< = square-finite y y' j in
    let Z< = square-finite z z' k in
    let XY : T (le (X ⊕ Y) (r ⊕ r)) = add-mono X r Y r X< tt Y< tt (square-most x x' i) (square-most y y' j) in
    let XY< : T (finite (X ⊕ Y)) = finite-between zero_f (X ⊕ Y) (r ⊕ r) tt tt (add-nonneg X Y X< Y< (square-nonneg (x ⊖ x') (difference-finite x x' i)) (square-nonneg (y ⊖ y') (difference-finite y y' j))) XY in
    le_lt_trans (X ⊕ Y ⊕ Z) (r ⊕ r ⊕ r) EPS (add-mono (X ⊕ Y) (r ⊕ r) Z r XY< tt Z< tt XY (square-most z z' k)) tt
