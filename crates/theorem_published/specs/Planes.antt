-- The exact half of the slabs: where operations are exact, a parameter lies between those at which the ray meets two planes exactly if the ray's point
-- there lies between the planes. `meets_at p o d` of Slabs.antt is the parameter (p − o) / d, each operation rounded once. Here a parameter is a fraction u
-- = n / m with m above 0, and all is multiplied out: the point o + u d by m, the parameters by m and the magnitude of d.
use Rattle.std.specs.Prelude.{◌≡◌, ◌↔◌}
use mathlib.Core.Nat.{ℕ}
use mathlib.Core.Int.{ℤ, pos, ◌+ℤ◌}
use Rattle.theorem_published.specs.Cramer.{Operations, CommutativeRing, whole_operations}

-- an order that a sum keeps; no more is needed of it
pub record Order {R : Type 0} (o : Operations R) : Type 1 where
  pub below : R → R → Type 0
  pub plus_keeps : (a b c : R) → below a b → below (o.plus a c) (o.plus b c)

module _ {R : Type 0} (o : Operations R) (L : Order o) (lo hi at m n : R) where
  -- lo <= at + (n / m) d <= hi, multiplied by m: at n / m the ray from `at` along d is between the planes at lo and hi
  abbrev pub BetweenPlanes : R → Type 0
  BetweenPlanes d =
      L.below (o.times lo m) (o.plus (o.times at m) (o.times n d)) × L.below (o.plus (o.times at m) (o.times n d)) (o.times hi m)

  -- (lo − at) / d <= n / m <= (hi − at) / d, multiplied by m d, for d above 0
  abbrev pub BetweenMeetings : R → Type 0
  BetweenMeetings d = L.below (o.times (o.minus lo at) m) (o.times n d) × L.below (o.times n d) (o.times (o.minus hi at) m)

  -- (hi − at) / −e <= n / m <= (lo − at) / −e, multiplied by m e, for e above 0: the ray runs down, and meets the upper plane first
  abbrev pub BetweenMeetingsDown : R → Type 0
  BetweenMeetingsDown e = L.below (o.times (o.minus at hi) m) (o.times n e) × L.below (o.times n e) (o.times (o.minus at lo) m)

-- In every commutative ring with such an order, so of fractions of whole numbers too.
abbrev pub ExactSlab : Type 1
ExactSlab =
    (R : Type 0) (o : Operations R) → CommutativeRing o → (L : Order o) (lo hi at m n d : R) → BetweenPlanes o L lo hi at m n d ↔ BetweenMeetings o L lo hi at m n d

abbrev pub ExactSlabDown : Type 1
ExactSlabDown =
    (R : Type 0) (o : Operations R) (ring : CommutativeRing o) (L : Order o) (lo hi at m n e : R)
    → BetweenPlanes o L lo hi at m n (ring.negate e) ↔ BetweenMeetingsDown o L lo hi at m n e

-- whole numbers: b is a and so many more
abbrev pub NotAbove : ℤ → ℤ → Type 0
NotAbove a b = (k : ℕ) × (a +ℤ pos k ≡ b)

-- That order is one.
abbrev pub WholesOrdered : Type 1
WholesOrdered = (L : Order whole_operations) × (L.below ≡ NotAbove)
