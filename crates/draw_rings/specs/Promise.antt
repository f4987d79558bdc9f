-- Document 02's promise on rings, request (vii): "For a ring radius of at least 0.001, each ring point's exact squared distance from the centre, worked out in the ring's own plane,
-- is within radius² × 2^-48 of radius²". Proved: proofs/Round.antt, proofs/Spheres.antt.
use Rattle.std.specs.Prelude.{Bool, ℕ, ◌≤◌, T, Float}
use Rattle.std.specs.Float.Ieee.{le, lt}
use Rattle.std.specs.Float.Ieee.Scale.{finite}
use Rattle.floats.specs.Arith.{bits, zero_f, thousandth}
use Rattle.floats.specs.Numbers.{within}
use Rattle.geometry.specs.declared.vector.Vector.{Vector}
use Rattle.draw_rings.specs.Pieces.{ring_pairs, AllOn}
use Rattle.draw_rings.specs.Spheres.{sphere_ring}

-- 2^24
abbrev pub widest : Float
widest = bits 0x4170_0000_0000_0000

-- For radii up to 2^24, whatever ends the halving, and at most 8 nested halvings.
abbrev pub RingsRound : Type 0
RingsRound = (stop : Vector → Vector → Bool) (r : Float) (n : ℕ) → n ≤ 8 → T (le thousandth r) → T (le r widest) → AllOn r (ring_pairs stop r n)

-- The ring of a sphere whose radius passes number 5 is no wider than that, wherever it is finite; rings of cylinders and cones have their solid's radius.
abbrev pub SphereRingNarrow : Type 0
SphereRingNarrow = (r h : Float) → T (within r) → T (le zero_f r) → T (lt r h) → T (finite (sphere_ring r h)) → T (le (sphere_ring r h) widest)
