-- On a sheet where nothing is seen, since every projection is a NaN, the longest segment of all needs 37 halvings. Computed.
use mathlib.Core.Path.{◌≡◌, refl}
use mathlib.Core.Bool.{Bool, true, false, not, ◌&&◌, ◌||◌}
use Prim.Native.Nat.{ℕ, zero, suc}
use lib.Dec.{T}
use lib.Ieee.{add, sub, mul, div, lt, le, neg, round, of_bits}
use lib.Ieee.Fits.{and_l, and_r}
use Rattle.floats.specs.Arith.{zero_f, one_f, million}
use Rattle.floats.specs.Numbers.{within}
use Rattle.geometry.specs.Vectors.{vec, add_v, sub_v, mul_scalar, div_scalar, dot, length_squared, distance_squared}
use Rattle.geometry.specs.declared.vector.Vector.{Vector}
use Rattle.matrix.specs.Matrices.{mat, scale_m, translate_m, row_mul, mul_m, mul_position, mul_position_w}
use Rattle.limits.specs.Limits.{within_point, finite_four, finite_matrix}
use Rattle.view.specs.Views.{extent_ok, step_ok, view_ok, viewport, args_of}
use Rattle.view.specs.declared.View.{View}
use Rattle.path_chop.specs.Chop.{screen_of, spot_of, middle_of, off_sheet, both_below, both_beyond, stops}
use Rattle.path_chop.specs.declared.Screen.{Screen}
use Rattle.path_chop.specs.declared.Spot.{Spot}
use Rattle.theorem_halvings.specs.Halvings.{needs_at_most, SomeNeed37}

-- the first half of the first half .., and none of them stops
abbrev descends : ℕ → Screen → Spot → Spot → Bool
descends zero s a b = not (stops s a b)
descends (suc n) s a b = not (stops s a b) && descends n s a (middle_of s a b)

too-deep : (n : ℕ) (s : Screen) (a b : Spot) → T (descends n s a b) → needs_at_most n s a b ≡ false
unfolding needs_at_most
too-deep zero s a b h = go (stops s a b) h
  where
    go : (t : Bool) → T (not t) → t ≡ false
    go true h = absurd h
    go false h = refl
too-deep (suc n) s a b h =
    let m = middle_of s a b in
    go (stops s a b) (needs_at_most n s a m) (needs_at_most n s m b) (and_l (not (stops s a b)) (descends n s a m) h) (too-deep n s a m (and_r (not (stops s a b)) (descends n s a m) h))
  where
    go : (t u v : Bool) → T (not t) → u ≡ false → (t || (u && v)) ≡ false
    go true u v h e = absurd h
    go false u v h e = rw e

blank : View
blank = record { matrix = mat zero_f zero_f zero_f zero_f zero_f zero_f zero_f zero_f zero_f zero_f zero_f zero_f zero_f zero_f zero_f zero_f; eye = vec zero_f zero_f zero_f; width = one_f; height = one_f; step = zero_f }

low : Vector
low = vec (neg million) (neg million) (neg million)

high : Vector
high = vec million million million

pub some-need-37 : SomeNeed37
unfolding blank low high view_ok extent_ok step_ok finite_matrix finite_four within_point within args_of viewport scale_m translate_m mul_m row_mul screen_of stops off_sheet both_below both_beyond spot_of middle_of mul_position_w mul_position div_scalar mul_scalar add_v sub_v dot length_squared distance_squared add sub mul div lt le neg round of_bits
some-need-37 =
    let s = screen_of (args_of blank) in
    record {
      view = blank;
      fair = refl;
      from = low;
      upto = high;
      from_within = record { x = tt; y = tt; z = tt };
      upto_within = record { x = tt; y = tt; z = tt };
      deeper = too-deep 36 s (spot_of s low) (spot_of s high) tt;
    }
