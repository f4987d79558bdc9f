-- The rule of the constant table, clause by clause in document 02's words, and that f64s hold its entries exactly. Proved: proofs/Rule.
use Rattle.std.specs.Prelude.{◌≡◌, ℕ, ◌+◌, ◌*◌, ◌^◌, ◌≤◌, T, ℤ, pos, neg_ℤ, nat_abs, ◌-ℤ◌, ◌+ℤ◌, ◌*ℤ◌, length}
use Rattle.std.specs.Float.Ieee.Exact.{HasValue}
use Rattle.std.specs.Int.Signed.{lt_z}
use Rattle.degrees.specs.Table.{degree_table}
use Rattle.degrees.specs.Degrees.{cosine_units, sine_units, from_units}

-- one lies within 2^54 of the other
abbrev pub Within54 : ℤ → ℤ → Type 0
Within54 y z = nat_abs (y -ℤ z) ≤ 2 ^ 54

pub record TableRule : Type 0 where
  -- "Cosine and sine of 0 to 359 degrees"
  pub places : length degree_table ≡ 2 * 360
  -- "it starts at (2^53, 0)"
  pub starts : (cosine_units 0 ≡ pos (2 ^ 53)) × (sine_units 0 ≡ pos 0)
  -- "90 places on, cosine is minus the sine and sine is the cosine"; at each place, counted round
  pub quarter : (a : ℕ) → (cosine_units (a + 90) ≡ neg_ℤ (sine_units a)) × (sine_units (a + 90) ≡ cosine_units a)
  -- "sine is positive from 1 to 179"
  pub positive : (a : ℕ) → 1 ≤ a → a ≤ 179 → T (lt_z (pos 0) (sine_units a))
  -- "2^53 times each next entry lies within 2^54, per number, of the product with entry 1 as complex numbers"; from 359 to 0 too
  pub next : (a : ℕ)
      → Within54 (pos (2 ^ 53) *ℤ cosine_units (a + 1)) (cosine_units a *ℤ cosine_units 1 -ℤ sine_units a *ℤ sine_units 1)
      × Within54 (pos (2 ^ 53) *ℤ sine_units (a + 1)) (cosine_units a *ℤ sine_units 1 +ℤ sine_units a *ℤ cosine_units 1)

-- The f64 of an entry is the entry times 2^-53, unrounded: it has its sign, +0 for 0, and its size is the entry's over 2^53.
pub record ExactUnits (z : ℤ) : Type 0 where
  pub within : nat_abs z ≤ 2 ^ 53
  pub value : HasValue (from_units z) (lt_z z (pos 0)) (nat_abs z) (2 ^ 53)

abbrev pub ExactEntries : Type 0
ExactEntries = (a : ℕ) → ExactUnits (cosine_units a) × ExactUnits (sine_units a)
