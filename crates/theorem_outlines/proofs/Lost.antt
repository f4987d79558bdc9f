-- A ring whose radius is not finite has no point with a finite coordinate. Assumes nothing.
use mathlib.Core.Path.{◌≡◌, refl, sym, subst}
use mathlib.Core.Logic.{◌⊎◌, inl, inr}
use mathlib.Core.Bool.{Bool, true, false, ◌&&◌}
use mathlib.Core.List.Memᴰ
use mathlib.Core.List.{List, [], ◌∷◌, ◌++◌, Memᴰ}
use Prim.Native.Nat.{ℕ, zero, suc}
use lib.Dec.{T}
use lib.Ieee.{Float, nan, inf, fin, neg, add, le, of_bits}
use lib.Ieee.Scale.{finite}
use Rattle.floats.specs.Arith.{◌⊕◌, ◌⊗◌, one_f}
use Rattle.floats.specs.Numbers.{within}
use Rattle.floats.proofs.Order.{finite-between}
use Rattle.floats.proofs.Bounds.{within-finite}
use Rattle.geometry.specs.Vectors.{add_v, mul_scalar, div_scalar, normalize_of}
use Rattle.geometry.specs.Boxes.{minus_one, clip_box, in_range, contains}
use Rattle.geometry.specs.declared.vector.Vector.{Vector}
use Rattle.draw_rings.specs.Pieces.{times_radius, ring_middle, halved_at, pieces, east, north, west, south, ring_pairs}
use Rattle.draw_rings.proofs.Spheres.{div-left, mul_right}
use Rattle.draw_arcs.specs.declared.Frame.{Frame}
use Rattle.draw_arcs.specs.Rings.{ring_point}
use Rattle.matrix.specs.Matrices.{mul_position, mul_position_w}
use Rattle.matrix.specs.declared.Matrix.{Matrix}
use Rattle.limits.specs.Limits.{within_point}
use Rattle.theorem_outlines.specs.Rings.{Nowhere, OnNoSheet, NowhereOnSheets}
use Rattle.std.specs.Prelude.{None, Option, Some}

-- ---- a finite result has finite operands
add_left : (x y : Float) → T (finite (x ⊕ y)) → T (finite x)
unfolding add
add_left nan y h = h
add_left (inf s) nan h = h
add_left (inf true) (inf true) h = h
add_left (inf true) (inf false) h = h
add_left (inf false) (inf true) h = h
add_left (inf false) (inf false) h = h
add_left (inf s) (fin t n d) h = h
add_left (fin s m e) y h = tt

add_right : (x y : Float) → T (finite (x ⊕ y)) → T (finite y)
unfolding add
add_right nan y h = absurd h
add_right (inf s) nan h = h
add_right (inf s) (fin t n d) h = tt
add_right (inf true) (inf true) h = h
add_right (inf true) (inf false) h = h
add_right (inf false) (inf true) h = h
add_right (inf false) (inf false) h = h
add_right (fin s m e) nan h = h
add_right (fin s m e) (inf t) h = h
add_right (fin s m e) (fin t n d) h = tt

neg-finite : (x : Float) → T (finite (neg x)) → T (finite x)
unfolding neg
neg-finite nan h = h
neg-finite (inf s) h = h
neg-finite (fin s m e) h = tt

-- ---- u or v is not finite
abbrev Lost : Vector → Type 0
Lost v = (T (finite v.x) → ⊥) ⊎ (T (finite v.y) → ⊥)

abbrev AllLost : List Vector → Type 0
AllLost l = (v : Vector) → Memᴰ v l → Lost v

sum-lost : (c a b u v : Float) → (T (finite u) → ⊥) ⊎ (T (finite v) → ⊥) → T (finite (c ⊕ a ⊗ u ⊕ b ⊗ v)) → ⊥
sum-lost c a b u v (inl n) h = n (mul_right a u (add_right c (a ⊗ u) (add_left (c ⊕ a ⊗ u) (b ⊗ v) h)))
sum-lost c a b u v (inr n) h = n (mul_right b v (add_right (c ⊕ a ⊗ u) (b ⊗ v) h))

pub lost-nowhere : (f : Frame) (v : Vector) → Lost v → Nowhere (ring_point f v)
unfolding ring_point add_v mul_scalar
lost-nowhere f v l = record {
  x_not = sum-lost f.center.x f.first.x f.second.x v.x v.y l;
  y_not = sum-lost f.center.y f.first.y f.second.y v.x v.y l;
  z_not = sum-lost f.center.z f.first.z f.second.z v.x v.y l;
}

module _ (r : Float) (n : T (finite r) → ⊥) (stop : Vector → Vector → Bool) where
  one-lost : (q : Vector) → Lost q → AllLost (q ∷ [])
  one-lost q l v i = subst Lost (sym (Memᴰ.eq_of_singleton i)) l

  both-lost : (a b : List Vector) → AllLost a → AllLost b → AllLost (a ++ b)
  both-lost a b h k v i = elim (Memᴰ.append_cases a i) [ inl j ↦ h v j | inr j ↦ k v j ]

  halved-lost : (again : Vector → Vector → List Vector) → ((p q : Vector) → Lost q → AllLost (again p q))
      → (p q : Vector) (s : Bool) (m : Option Vector) → Lost q → AllLost (halved_at again p q s (times_radius r m))
  unfolding halved_at times_radius mul_scalar
  halved-lost again all p q true m l = one-lost q l
  halved-lost again all p q false None l = one-lost q l
  halved-lost again all p q false (Some u) l = both-lost (again p _) (again _ q) (all p _ (inl (λ h. n (mul_right u.x r h)))) (all _ q l)

  pieces-lost : (d : ℕ) (p q : Vector) → Lost q → AllLost (pieces stop r d p q)
  unfolding pieces ring_middle
  pieces-lost zero p q l = one-lost q l
  pieces-lost (suc d) p q l = halved-lost (pieces stop r d) (pieces-lost d) p q (stop p q) (normalize_of (add_v p q)) l

  pub ring-lost : (d : ℕ) → AllLost (ring_pairs stop r d)
  unfolding ring_pairs
  ring-lost d =
      let e : Lost (east r) = inl n in
      let w : Lost (west r) = inl (λ h. n (neg-finite r h)) in
      let s : Lost (south r) = inr (λ h. n (neg-finite r h)) in
      both-lost (east r ∷ []) _ (one-lost (east r) e)
      (both-lost (pieces stop r d (east r) (north r)) _ (pieces-lost d (east r) (north r) (inr n))
      (both-lost (pieces stop r d (north r) (west r)) _ (pieces-lost d (north r) (west r) w)
      (both-lost (pieces stop r d (west r) (south r)) _ (pieces-lost d (west r) (south r) s)
      (pieces-lost d (south r) (east r) e))))

-- ---- and no sheet has such a point
row-lost : (a b c d x y z : Float) → (T (finite x) → ⊥) → T (finite (a ⊗ x ⊕ b ⊗ y ⊕ c ⊗ z ⊕ d)) → ⊥
row-lost a b c d x y z n h =
    n (mul_right a x (add_left (a ⊗ x) (b ⊗ y) (add_left (a ⊗ x ⊕ b ⊗ y) (c ⊗ z) (add_left (a ⊗ x ⊕ b ⊗ y ⊕ c ⊗ z) d h))))

placed-lost : (p : Vector) → Nowhere p → (m : Matrix) → Nowhere (mul_position m p)
unfolding mul_position
placed-lost p n m = record {
  x_not = row-lost m.x00 m.x01 m.x02 m.x03 p.x p.y p.z n.x_not;
  y_not = row-lost m.x10 m.x11 m.x12 m.x13 p.x p.y p.z n.x_not;
  z_not = row-lost m.x20 m.x21 m.x22 m.x23 p.x p.y p.z n.x_not;
}

none_true : (a b : Bool) → (T a → ⊥) → (a && b) ≡ false
none_true true b n = absurd (n tt)
none_true false b n = refl

both_true : (a b : Bool) → T (a && b) → T a × T b
both_true true b h = (tt, h)
both_true false b h = absurd h

in-range-finite : (x : Float) → T (in_range minus_one x one_f) → T (finite x)
unfolding in_range of_bits
in-range-finite x h = let b = both_true (le minus_one x) (le x one_f) h in finite-between minus_one x one_f tt tt b.0 b.1

not_within : (v : Vector) → (T (finite v.x) → ⊥) → within_point v ≡ false
unfolding within_point
not_within v n = none_true (within v.x) (within v.y && within v.z) (λ h. n (within-finite v.x h))

not-in-box : (v : Vector) → (T (finite v.x) → ⊥) → contains clip_box v ≡ false
unfolding contains
not-in-box v n =
    none_true (in_range minus_one v.x one_f) (in_range minus_one v.y one_f && in_range minus_one v.z one_f) (λ h. n (in-range-finite v.x h))

over-lost : (v : Vector) (w : Float) → (T (finite v.x) → ⊥) → contains clip_box (div_scalar v w) ≡ false
unfolding div_scalar
over-lost v w n = not-in-box (div_scalar v w) (λ h. n (div-left v.x w h))

pub nowhere-on-sheets : NowhereOnSheets
unfolding mul_position_w
nowhere-on-sheets p n = record {
  placed = placed-lost p n;
  meets_nine = not_within p n.x_not;
  clipped = λ m. over-lost (mul_position m p) _ (placed-lost p n m).x_not;
}
