-- Each point of a ring lies on it. Assumes nothing.
use mathlib.Core.Bool.{true, false}
use Prim.Native.Nat.{ℕ, ◌*◌, ◌^◌, ◌≤◌, ◌<◌}
use native.Mathlib.Omega.{arith}
use lib.Dec.{T}
use lib.Ieee.{Float, nan, inf, fin, le, of_bits}
use lib.Ieee.Scale.{finite}
use lib.Ieee.Positive.{num, den, den_pos}
use Rattle.floats.specs.Arith.{zero_f, thousandth}
use Rattle.floats.proofs.Order.{le_trans, finite-between}
use Rattle.floats.proofs.Nonneg.{le→sizes, positive-num}
use Rattle.floats.proofs.Bounds.{of_num}
use Rattle.draw_rings.specs.Pieces.{ring_pairs, AllOn}
use Rattle.draw_rings.specs.Promise.{widest, RingsRound}
use Rattle.draw_rings.proofs.Middle.{Radius}
use Rattle.draw_rings.proofs.Rings.{whole-ring}

pub radius-of : (r : Float) → T (le thousandth r) → T (le r widest) → Radius r
unfolding of_bits
radius-of r h k =
    let f : T (finite r) = finite-between thousandth r widest tt tt h k in
    let z : T (le zero_f r) = le_trans zero_f thousandth r (unfold le in tt) h in
    let a = le→sizes thousandth r tt f (unfold le in tt) z h in
    let b = le→sizes r widest f tt z (unfold le in tt) k in
    record {
      above = positive-num r f z (low (num r) (den r) (den_pos r) a);
      most = of_num 24 r f (high (num r) (den r) b);
      least = least (num r) (den r) a;
    }
  where
    low : (n d : ℕ) → 0 < d → num thousandth * d ≤ n * den thousandth → 0 < n
    low n d D h = omega arith

    high : (n d : ℕ) → n * den widest ≤ num widest * d → n ≤ 2 ^ 24 * d
    high n d h = omega arith

    least : (n d : ℕ) → num thousandth * d ≤ n * den thousandth → d ≤ 2 ^ 10 * n
    least n d h = omega arith

pub rings-round : RingsRound
rings-round stop r n l h k = go r (radius-of r h k)
  where
    go : (r : Float) → Radius r → AllOn r (ring_pairs stop r n)
    go nan R = absurd R.above
    go (inf s) R = absurd R.above
    go (fin true m i) R = absurd R.above
    go (fin false m i) R = whole-ring m i R stop n l
