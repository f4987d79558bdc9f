-- Patterns of floats, and words of digits. Assumes nothing.
use mathlib.Core.Path.{◌≡◌, refl, sym, subst}
use mathlib.Core.Bool.{Bool, true, false, not}
use lib.Dec.{T}
use lib.Ieee.{Float, nan, is_nan, eq, to_bits}
use Rattle.floats.proofs.Extremes.{is-nan}
use Rattle.text_drawing.specs.Numbers.{bits_of}

so : (b : Bool) → b ≡ true → T b
so b e = subst T (sym e) tt

pub nan-of : (x : Float) → is_nan x ≡ true → x ≡ nan
nan-of x h = is-nan x (so (is_nan x) h)

pub nan-bits : bits_of nan ≡ 9221120237041090560
unfolding bits_of eq to_bits
nan-bits = refl

pub not_so : (b : Bool) → b ≡ false → T (not b)
not_so b e = so (not b) (simp e)
