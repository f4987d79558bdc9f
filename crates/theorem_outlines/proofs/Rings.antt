-- The path of every ring of an outline. Assumes nothing.
use mathlib.Core.Path.{◌≡◌, refl, sym, ap, ◌∙◌, subst}
use mathlib.Core.Bool.{Bool, true, false, cond}
use mathlib.Core.List.Memᴰ
use mathlib.Core.List.{List, [], ◌∷◌, ◌++◌, map, append_assoc, Memᴰ}
use Prim.Native.Nat.{ℕ, zero, suc, ◌≤◌}
use native.Mathlib.Omega.{arith}
use lib.Dec.{T}
use lib.IntN.{pos}
use lib.Ieee.{Float, lt, le, of_bits}
use lib.Ieee.Scale.{finite}
use Rattle.floats.specs.Arith.{zero_f, thousandth}
use Rattle.floats.specs.Numbers.{within}
use Rattle.floats.proofs.Bounds.{small-le, within-small, small-wider}
use Rattle.geometry.specs.declared.vector.Vector.{Vector}
use Rattle.draw_rings.specs.Pieces.{ring_middle, halved_at, pieces, east, north, west, south, ring_pairs}
use Rattle.draw_rings.specs.Promise.{widest}
use Rattle.draw_rings.proofs.Round.{rings-round}
use Rattle.draw_arcs.specs.declared.Frame.{Frame}
use Rattle.draw_arcs.specs.Stances.{Placement}
use Rattle.draw_arcs.specs.Rings.{ring_point, ends_halving, ring_depth, ring_in, ring_of}
use Rattle.theorem_outlines.specs.Rings.{Circle, Around, Nowhere, RingPath}
use Rattle.theorem_outlines.proofs.Lost.{lost-nowhere, ring-lost}
use Rattle.std.specs.Prelude.{None, Option, Some}

-- ---- a quarter's pieces end where it ends
module _ (stop : Vector → Vector → Bool) (r : Float) where
  EndsIn : Vector → List Vector → Type 0
  EndsIn q l = (a : List Vector) × (l ≡ a ++ (q ∷ []))

  halved-ends : (again : Vector → Vector → List Vector) → ((p q : Vector) → EndsIn q (again p q))
      → (p q : Vector) (s : Bool) (m : Option Vector) → EndsIn q (halved_at again p q s m)
  unfolding halved_at EndsIn
  halved-ends again ends p q true m = ([], refl)
  halved-ends again ends p q false None = ([], refl)
  halved-ends again ends p q false (Some m) = let e = ends m q in (again p m ++ e.0, ap (λ (l : List Vector). again p m ++ l) e.1 ∙ sym (append_assoc (again p m) e.0 (q ∷ [])))

  pieces_end : (d : ℕ) (p q : Vector) → EndsIn q (pieces stop r d p q)
  unfolding pieces EndsIn
  pieces_end zero p q = ([], refl)
  pieces_end (suc d) p q = halved-ends (pieces stop r d) (pieces_end d) p q (stop p q) (ring_middle r p q)

  ring-around : (d : ℕ) → Around r (ring_pairs stop r d)
  unfolding ring_pairs EndsIn
  ring-around d =
      let a = pieces_end d (east r) (north r) in
      let b = pieces_end d (north r) (west r) in
      let c = pieces_end d (west r) (south r) in
      let e = pieces_end d (south r) (east r) in
      record {
        first = a.0;
        second = b.0;
        third = c.0;
        fourth = e.0;
        is = rw (a.1, b.1, c.1, e.1) (simp append_assoc refl);
      }

ring-depth-le : (b : Bool) → ring_depth b ≤ 8
unfolding ring_depth
ring-depth-le true = omega arith
ring-depth-le false = omega arith

-- ---- the path of a ring that is at most 2^24 wide where it is finite
pub ring-path : (t : Placement) (f : Frame) (r : Float) → (T (finite r) → T (le r widest)) → RingPath (record { frame = f; radius = r }) (ring_of t f r)
unfolding ring_of ring_in
ring-path t f r narrow =
    let stepping = lt zero_f t.args.step in
    let stop = ends_halving stepping t f in
    let n = ring_depth stepping in
    record {
      pairs = ring_pairs stop r n;
      is = refl;
      around = ring-around stop r n;
      on = λ h i. rings-round stop r n (ring-depth-le stepping) h (narrow i);
      else_nowhere = λ none p m.
          let v = Memᴰ.of_map (ring_point f) (ring_pairs stop r n) m in
          subst Nowhere v.2 (lost-nowhere f v.0 (ring-lost r none stop n v.0 v.1));
    }

-- the rings of cylinders and cones: number 5 bounds the radius
pub level-narrow : (r : Float) → T (within r) → T (le r widest)
unfolding of_bits
level-narrow r w = small-le 24 r 1 (pos 24) tt (small-wider 20 24 r tt (within-small r w))
