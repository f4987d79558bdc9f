-- Rust's operators on f64, each rounded once (IEEE 754, binary64), as infix signs; and the literals that the code writes, by bit pattern.
use Rattle.std.specs.Prelude.{ℕ, Float}
use Rattle.std.specs.Float.{binary64}
use Rattle.std.specs.Float.Ieee.{add, sub, mul, div, of_bits}

infixl 65 ◌⊕◌
infixl 65 ◌⊖◌
infixl 70 ◌⊗◌
infixl 70 ◌⊘◌
abbrev pub ◌⊕◌ : Float → Float → Float
x ⊕ y = add binary64 x y

abbrev pub ◌⊖◌ : Float → Float → Float
x ⊖ y = sub binary64 x y

abbrev pub ◌⊗◌ : Float → Float → Float
x ⊗ y = mul binary64 x y

abbrev pub ◌⊘◌ : Float → Float → Float
x ⊘ y = div binary64 x y

-- the f64 of a bit pattern: what a literal of the code is
abbrev pub bits : ℕ → Float
bits n = of_bits binary64 n

-- 0.0, 0.5, 1.0, 2.0 and 4.0
abbrev pub zero_f : Float
zero_f = bits 0

abbrev pub half_f : Float
half_f = bits 0x3fe0_0000_0000_0000

abbrev pub one_f : Float
one_f = bits 0x3ff0_0000_0000_0000

abbrev pub two_f : Float
two_f = bits 0x4000_0000_0000_0000

abbrev pub four_f : Float
four_f = bits 0x4010_0000_0000_0000

-- 1e-2, 1e-3, 1e-4 and 1e-6
abbrev pub hundredth : Float
hundredth = bits 0x3f84_7ae1_47ae_147b

abbrev pub thousandth : Float
thousandth = bits 0x3f50_624d_d2f1_a9fc

abbrev pub ten_thousandth : Float
ten_thousandth = bits 0x3f1a_36e2_eb1c_432d

abbrev pub millionth : Float
millionth = bits 0x3eb0_c6f7_a0b5_ed8d

-- 1000000.0, the bound on accepted coordinates
abbrev pub million : Float
million = bits 0x412e_8480_0000_0000

-- document 01's EPS, 1e-9, and INF, 1e9
abbrev pub EPS : Float
EPS = bits 0x3e11_2e0b_e826_d695

abbrev pub INF : Float
INF = bits 0x41cd_cd65_0000_0000
