-- The order of floats, negative values, zeros and infinities included. `le` and `lt` are false at a NaN, so a law whose premise is an order needs no premise on NaNs.
-- A finite x is the fraction (plus x - less x) / den x: the order is one inequality of natural numbers, with no cases of signs. Assumes nothing.
use mathlib.Core.Path.{◌≡◌, refl}
use mathlib.Core.Logic.{◌⊎◌, inl, inr}
use Prim.Native.Nat.{ℕ, ◌+◌, ◌*◌, ◌≤◌, ◌<◌}
use native.Mathlib.Nat.{mul-le-mul_right, le_of_mul-le-mul_right, eq-or-lt_of_le}
use native.Mathlib.Omega.{arith}
use mathlib.Core.Bool.{Bool, true, false, not, ◌||◌}
use lib.Dec.{T, ltb, eqb, ltb→lt, nltb→le, lt→ltb, eqb→eq, T_not, not_T}
use lib.Ieee.{Float, nan, inf, fin, up, down, below, level, lt, eq, le, neg}
use lib.Ieee.Fits.{and_l, and_r, and_i, eq→eqb}
use lib.Ieee.Scale.{finite}
use lib.Ieee.Positive.{den, den_pos}
use mir.Facts.{or_yes}
use Rattle.floats.specs.Numbers.{number}

pub finite_number : (x : Float) → T (finite x) → T (number x)
finite_number nan h = h
finite_number (inf s) h = tt
finite_number (fin s m e) h = tt

-- ---- a signed natural number as a difference
abbrev pub pp : Bool → ℕ → ℕ
pp false a = a
pp true a = 0

abbrev pub nn : Bool → ℕ → ℕ
nn false a = 0
nn true a = a

pub pp-mul : (s : Bool) (a d : ℕ) → pp s (a * d) ≡ pp s a * d
pp-mul false a d = refl
pp-mul true a d = omega arith

pub nn-mul : (s : Bool) (a d : ℕ) → nn s (a * d) ≡ nn s a * d
nn-mul false a d = omega arith
nn-mul true a d = refl

below→lt : (s : Bool) (a : ℕ) (t : Bool) (b : ℕ) → T (below s a t b) → pp s a + nn t b < pp t b + nn s a
below→lt false a false b h = omega (arith, ltb→lt)
below→lt false a true b h = absurd h
below→lt true a false b h = omega (arith, ltb→lt)
below→lt true a true b h = omega (arith, ltb→lt)

lt→below : (s : Bool) (a : ℕ) (t : Bool) (b : ℕ) → pp s a + nn t b < pp t b + nn s a → T (below s a t b)
lt→below false a false b h = omega (arith, lt→ltb)
lt→below false a true b h = omega arith
lt→below true a false b h = omega (arith, lt→ltb)
lt→below true a true b h = omega (arith, lt→ltb)

pub or_l : (a b : Bool) → T a → T (a || b)
or_l true b t = tt
or_l false b t = absurd t

pub or_r : (a b : Bool) → T b → T (a || b)
or_r true b t = tt
or_r false b t = t

level→eq : (s : Bool) (a : ℕ) (t : Bool) (b : ℕ) → T (level s a t b) → pp s a + nn t b ≡ pp t b + nn s a
level→eq false a false b h = let e : a ≡ b = eqb→eq a b (and_l (eqb a b) true h) in omega arith
level→eq true a true b h = let e : a ≡ b = eqb→eq a b (and_l (eqb a b) true h) in omega arith
level→eq false a true b h = let e : a ≡ b = eqb→eq a b (and_l (eqb a b) (eqb a 0) h) in let z : a ≡ 0 = eqb→eq a 0 (and_r (eqb a b) (eqb a 0) h) in omega arith
level→eq true a false b h = let e : a ≡ b = eqb→eq a b (and_l (eqb a b) (eqb a 0) h) in let z : a ≡ 0 = eqb→eq a 0 (and_r (eqb a b) (eqb a 0) h) in omega arith

eq→level : (s : Bool) (a : ℕ) (t : Bool) (b : ℕ) → pp s a + nn t b ≡ pp t b + nn s a → T (level s a t b)
eq→level false a false b h = and_i (eqb a b) true (eq→eqb {a = a} {b = b} (omega arith)) tt
eq→level true a true b h = and_i (eqb a b) true (eq→eqb {a = a} {b = b} (omega arith)) tt
eq→level false a true b h = and_i (eqb a b) (eqb a 0) (eq→eqb {a = a} {b = b} (omega arith)) (eq→eqb {a = a} {b = 0} (omega arith))
eq→level true a false b h = and_i (eqb a b) (eqb a 0) (eq→eqb {a = a} {b = b} (omega arith)) (eq→eqb {a = a} {b = 0} (omega arith))

-- ---- a finite value as the fraction (plus - less) / den
abbrev pub plus : Float → ℕ
plus nan = 0
plus (inf s) = 0
plus (fin s m e) = pp s m * up e

abbrev pub less : Float → ℕ
less nan = 0
less (inf s) = 0
less (fin s m e) = nn s m * up e

pub lt→cross : (x y : Float) → T (finite x) → T (finite y) → T (lt x y) → plus x * den y + less y * den x < plus y * den x + less x * den y
unfolding lt
lt→cross nan y p q h = absurd p
lt→cross (inf s) y p q h = absurd p
lt→cross (fin s m e) nan p q h = absurd q
lt→cross (fin s m e) (inf t) p q h = absurd q
lt→cross (fin s m e) (fin t n d) p q h = simp (pp-mul, nn-mul) at (below→lt s (m * up e * down d) t (n * up d * down e) h)

pub cross→lt : (x y : Float) → T (finite x) → T (finite y) → plus x * den y + less y * den x < plus y * den x + less x * den y → T (lt x y)
unfolding lt
cross→lt nan y p q h = absurd p
cross→lt (inf s) y p q h = absurd p
cross→lt (fin s m e) nan p q h = absurd q
cross→lt (fin s m e) (inf t) p q h = absurd q
cross→lt (fin s m e) (fin t n d) p q h = lt→below s (m * up e * down d) t (n * up d * down e) (simp (pp-mul, nn-mul) h)

pub le→cross : (x y : Float) → T (finite x) → T (finite y) → T (le x y) → plus x * den y + less y * den x ≤ plus y * den x + less x * den y
unfolding le
le→cross nan y p q h = absurd p
le→cross (inf s) y p q h = absurd p
le→cross (fin s m e) nan p q h = absurd q
le→cross (fin s m e) (inf t) p q h = absurd q
le→cross (fin s m e) (fin t n d) p q h = simp (pp-mul, nn-mul) at (go (or_yes (below s (m * up e * down d) t (n * up d * down e)) (level s (m * up e * down d) t (n * up d * down e)) h))
  where
    go : T (below s (m * up e * down d) t (n * up d * down e)) ⊎ T (level s (m * up e * down d) t (n * up d * down e))
        → pp s (m * up e * down d) + nn t (n * up d * down e) ≤ pp t (n * up d * down e) + nn s (m * up e * down d)
    go (inl b) = omega (arith, below→lt s (m * up e * down d) t (n * up d * down e) b)
    go (inr l) = omega (arith, level→eq s (m * up e * down d) t (n * up d * down e) l)

pub cross→le : (x y : Float) → T (finite x) → T (finite y) → plus x * den y + less y * den x ≤ plus y * den x + less x * den y → T (le x y)
unfolding le
cross→le nan y p q h = absurd p
cross→le (inf s) y p q h = absurd p
cross→le (fin s m e) nan p q h = absurd q
cross→le (fin s m e) (inf t) p q h = absurd q
cross→le (fin s m e) (fin t n d) p q h = go (m * up e * down d) (n * up d * down e) (simp (pp-mul, nn-mul) h)
  where
    go : (a b : ℕ) → pp s a + nn t b ≤ pp t b + nn s a → T (below s a t b || level s a t b)
    go a b k = elim (eq-or-lt_of_le k) [ inl i ↦ or_r (below s a t b) (level s a t b) (eq→level s a t b i) | inr i ↦ or_l (below s a t b) (level s a t b) (lt→below s a t b i) ]

-- ---- what an order says of its two sides
pub le-number-l : (x y : Float) → T (le x y) → T (number x)
unfolding le
le-number-l nan y h = h
le-number-l (inf s) y h = tt
le-number-l (fin s m e) y h = tt

pub le-number-r : (x y : Float) → T (le x y) → T (number y)
unfolding le
le-number-r nan nan h = h
le-number-r (inf s) nan h = h
le-number-r (fin s m e) nan h = h
le-number-r x (inf s) h = tt
le-number-r x (fin t n d) h = tt

pub lt→le : (x y : Float) → T (lt x y) → T (le x y)
unfolding le
lt→le x y h = or_l (lt x y) (eq x y) h

-- the least and the greatest
pub le-bot : (x : Float) → T (number x) → T (le (inf true) x)
unfolding le
le-bot nan h = h
le-bot (inf true) h = tt
le-bot (inf false) h = tt
le-bot (fin s m e) h = tt

pub le-top : (x : Float) → T (number x) → T (le x (inf false))
unfolding le
le-top nan h = h
le-top (inf true) h = tt
le-top (inf false) h = tt
le-top (fin s m e) h = tt

-- ---- the laws
pub le_refl : (x : Float) → T (number x) → T (le x x)
unfolding le
le_refl nan h = h
le_refl (inf true) h = tt
le_refl (inf false) h = tt
le_refl (fin s m e) h = cross→le (fin s m e) (fin s m e) tt tt (omega arith)

through : (p n d p' n' d' p'' n'' d'' : ℕ) → 0 < d' → p * d' + n' * d ≤ p' * d + n * d' → p' * d'' + n'' * d' ≤ p'' * d' + n' * d'' → p * d'' + n'' * d ≤ p'' * d + n * d''
through p n d p' n' d' p'' n'' d'' D h k = le_of_mul-le-mul_right {k = d'} (omega (arith, mul-le-mul_right d'' h, mul-le-mul_right d k)) D

pub le_trans : (x y z : Float) → T (le x y) → T (le y z) → T (le x z)
unfolding le
le_trans nan y z h k = absurd h
le_trans (inf true) y z h k = le-bot z (le-number-r y z k)
le_trans (inf false) nan z h k = absurd h
le_trans (inf false) (inf true) z h k = absurd h
le_trans (inf false) (inf false) z h k = k
le_trans (inf false) (fin t n d) z h k = absurd h
le_trans (fin s m e) nan z h k = absurd h
le_trans (fin s m e) (inf true) z h k = absurd h
le_trans (fin s m e) (inf false) nan h k = absurd k
le_trans (fin s m e) (inf false) (inf true) h k = absurd k
le_trans (fin s m e) (inf false) (inf false) h k = tt
le_trans (fin s m e) (inf false) (fin r l c) h k = absurd k
le_trans (fin s m e) (fin t n d) nan h k = absurd k
le_trans (fin s m e) (fin t n d) (inf true) h k = absurd k
le_trans (fin s m e) (fin t n d) (inf false) h k = tt
le_trans (fin s m e) (fin t n d) (fin r l c) h k = le-trans-fin (fin s m e) (fin t n d) (fin r l c) tt tt tt h k
  where
    le-trans-fin : (x y z : Float) → T (finite x) → T (finite y) → T (finite z) → T (le x y) → T (le y z) → T (le x z)
    le-trans-fin x y z p q r h k = cross→le x z p r (through (plus x) (less x) (den x) (plus y) (less y) (den y) (plus z) (less z) (den z) (den_pos y) (le→cross x y p q h) (le→cross y z q r k))

pub le-not-gt : (x y : Float) → T (le x y) → T (lt y x) → ⊥
unfolding le
le-not-gt nan y h k = h
le-not-gt (inf true) nan h k = h
le-not-gt (inf true) (inf true) h k = k
le-not-gt (inf true) (inf false) h k = k
le-not-gt (inf true) (fin t n d) h k = k
le-not-gt (inf false) nan h k = h
le-not-gt (inf false) (inf true) h k = h
le-not-gt (inf false) (inf false) h k = k
le-not-gt (inf false) (fin t n d) h k = h
le-not-gt (fin s m e) nan h k = h
le-not-gt (fin s m e) (inf true) h k = h
le-not-gt (fin s m e) (inf false) h k = k
le-not-gt (fin s m e) (fin t n d) h k = omega (arith, le→cross (fin s m e) (fin t n d) tt tt h, lt→cross (fin t n d) (fin s m e) tt tt k)

pub le-or-lt : (a b : ℕ) → (a ≤ b) ⊎ (b < a)
le-or-lt a b = go (ltb b a) (ltb→lt b a) (nltb→le b a)
  where
    go : (t : Bool) → (T t → b < a) → (T (not t) → a ≤ b) → (a ≤ b) ⊎ (b < a)
    go true h k = inr (h tt)
    go false h k = inl (k tt)

pub le-or-gt : (x y : Float) → T (number x) → T (number y) → T (le x y) ⊎ T (lt y x)
unfolding le
le-or-gt nan y p q = absurd p
le-or-gt (inf true) y p q = inl (le-bot y q)
le-or-gt (inf false) nan p q = absurd q
le-or-gt (inf false) (inf true) p q = inr tt
le-or-gt (inf false) (inf false) p q = inl tt
le-or-gt (inf false) (fin t n d) p q = inr tt
le-or-gt (fin s m e) nan p q = absurd q
le-or-gt (fin s m e) (inf true) p q = inr tt
le-or-gt (fin s m e) (inf false) p q = inl tt
le-or-gt (fin s m e) (fin t n d) p q = go (fin s m e) (fin t n d) tt tt
  where
    go : (x y : Float) → T (finite x) → T (finite y) → T (le x y) ⊎ T (lt y x)
    go x y p q = elim (le-or-lt (plus x * den y + less y * den x) (plus y * den x + less x * den y)) [ inl h ↦ inl (cross→le x y p q h) | inr h ↦ inr (cross→lt y x q p (omega arith)) ]

pub le_total : (x y : Float) → T (number x) → T (number y) → T (le x y) ⊎ T (le y x)
le_total x y p q = elim (le-or-gt x y p q) [ inl h ↦ inl h | inr h ↦ inr (lt→le y x h) ]

-- the failed test, as code has it: `!(y < x)` and `!(y <= x)`
pub not-gt→le : (x y : Float) → T (number x) → T (number y) → T (not (lt y x)) → T (le x y)
not-gt→le x y p q h = elim (le-or-gt x y p q) [ inl k ↦ k | inr k ↦ absurd (T_not (lt y x) h k) ]

pub le→not-gt : (x y : Float) → T (le x y) → T (not (lt y x))
le→not-gt x y h = not_T (lt y x) (le-not-gt x y h)

pub not-ge→lt : (x y : Float) → T (number x) → T (number y) → T (not (le y x)) → T (lt x y)
not-ge→lt x y p q h = elim (le-or-gt y x q p) [ inl k ↦ absurd (T_not (le y x) h k) | inr k ↦ k ]

pub lt-number-l : (x y : Float) → T (lt x y) → T (number x)
lt-number-l x y h = le-number-l x y (lt→le x y h)

pub lt-number-r : (x y : Float) → T (lt x y) → T (number y)
lt-number-r x y h = le-number-r x y (lt→le x y h)

pub le_lt_trans : (x y z : Float) → T (le x y) → T (lt y z) → T (lt x z)
le_lt_trans x y z h k = elim (le-or-gt z x (lt-number-r y z k) (le-number-l x y h)) [ inl i ↦ absurd (le-not-gt z y (le_trans z x y i h) k) | inr i ↦ i ]

pub lt-le-trans : (x y z : Float) → T (lt x y) → T (le y z) → T (lt x z)
lt-le-trans x y z h k = elim (le-or-gt z x (le-number-r y z k) (lt-number-l x y h)) [ inl i ↦ absurd (le-not-gt y x (le_trans y z x k i) h) | inr i ↦ i ]

pub lt_trans : (x y z : Float) → T (lt x y) → T (lt y z) → T (lt x z)
lt_trans x y z h k = le_lt_trans x y z (lt→le x y h) k

pub lt_irrefl : (x : Float) → T (lt x x) → ⊥
lt_irrefl x h = le-not-gt x x (lt→le x x h) h

-- antisymmetry: `eq`, which is equality up to the sign of a zero
pub le_antisymm : (x y : Float) → T (le x y) → T (le y x) → T (eq x y)
unfolding le
le_antisymm x y h k = elim (or_yes (lt x y) (eq x y) h) [ inl i ↦ absurd (le-not-gt y x k i) | inr i ↦ i ]

pub eq→le : (x y : Float) → T (eq x y) → T (le x y)
unfolding le
eq→le x y h = or_r (lt x y) (eq x y) h

-- ---- `neg` turns the order round
pub neg-le : (x y : Float) → T (le x y) → T (le (neg y) (neg x))
unfolding le neg
neg-le nan y h = absurd h
neg-le (inf true) nan h = absurd h
neg-le (inf true) (inf true) h = tt
neg-le (inf true) (inf false) h = tt
neg-le (inf true) (fin t n d) h = tt
neg-le (inf false) nan h = absurd h
neg-le (inf false) (inf true) h = absurd h
neg-le (inf false) (inf false) h = tt
neg-le (inf false) (fin t n d) h = absurd h
neg-le (fin s m e) nan h = absurd h
neg-le (fin s m e) (inf true) h = absurd h
neg-le (fin s m e) (inf false) h = tt
neg-le (fin s m e) (fin t n d) h = cross→le (fin (not t) n d) (fin (not s) m e) tt tt (turn s t m n (up e) (up d) (down e) (down d) (le→cross (fin s m e) (fin t n d) tt tt h))
  where
    turn : (s t : Bool) (m n a b c d : ℕ) → pp s m * a * d + nn t n * b * c ≤ pp t n * b * c + nn s m * a * d → pp (not t) n * b * c + nn (not s) m * a * d ≤ pp (not s) m * a * d + nn (not t) n * b * c
    turn false false m n a b c d h = omega arith
    turn false true m n a b c d h = omega arith
    turn true false m n a b c d h = omega arith
    turn true true m n a b c d h = omega arith

-- ---- what lies between two finite values is finite
pub finite-between : (x y z : Float) → T (finite x) → T (finite z) → T (le x y) → T (le y z) → T (finite y)
unfolding le
finite-between x (fin s m e) z p q h k = tt
finite-between x nan z p q h k = absurd (le-number-l nan z k)
finite-between nan (inf t) z p q h k = absurd p
finite-between (inf s) (inf t) z p q h k = absurd p
finite-between (fin s m e) (inf true) z p q h k = absurd h
finite-between (fin s m e) (inf false) nan p q h k = absurd q
finite-between (fin s m e) (inf false) (inf r) p q h k = absurd q
finite-between (fin s m e) (inf false) (fin r n d) p q h k = absurd k
