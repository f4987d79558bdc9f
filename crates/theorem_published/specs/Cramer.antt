-- Document 01's triangle against Möller and Trumbore. The ray from o along d meets the plane of the triangle that has a corner v1, and from there the
-- edges a and b, where o + s d = v1 + u a + v b. With t = o - v1, p = d × b, q = t × a and det = a · p, they answer s = (b · q) / det, u = (t · p) / det
-- and v = (d · q) / det.
use Rattle.std.specs.Prelude.{◌≡◌, not, cond, ◌&&◌, ◌||◌, Float}
use mathlib.Core.Int.{ℤ, ◌+ℤ◌, ◌-ℤ◌, ◌*ℤ◌}
use Rattle.std.specs.Float.Ieee.{lt, le, neg}
use Rattle.floats.specs.Arith.{◌⊕◌, ◌⊖◌, ◌⊗◌, ◌⊘◌, zero_f, one_f, EPS}
use Rattle.geometry.specs.Hits.{hit_at, no_hit}
use Rattle.geometry.specs.declared.vector.Vector.{Vector}
use Rattle.geometry.specs.declared.ray.Ray.{Ray}
use Rattle.geometry.specs.declared.hit.Hit.{Hit}
use Rattle.solids.specs.Triangles.{triangle_hit}

-- ---- their formula, over any numbers with these operations
pub record Operations (R : Type 0) : Type 0 where
  pub plus : R → R → R
  pub minus : R → R → R
  pub times : R → R → R

pub record Components (R : Type 0) : Type 0 where
  pub x : R
  pub y : R
  pub z : R

module _ {R : Type 0} (o : Operations R) where
  abbrev pub plusOf : Components R → Components R → Components R
  plusOf a b = record { x = o.plus a.x b.x; y = o.plus a.y b.y; z = o.plus a.z b.z }

  abbrev pub minusOf : Components R → Components R → Components R
  minusOf a b = record { x = o.minus a.x b.x; y = o.minus a.y b.y; z = o.minus a.z b.z }

  abbrev pub scaledOf : R → Components R → Components R
  scaledOf k a = record { x = o.times k a.x; y = o.times k a.y; z = o.times k a.z }

  abbrev pub dotOf : Components R → Components R → R
  dotOf a b = o.plus (o.plus (o.times a.x b.x) (o.times a.y b.y)) (o.times a.z b.z)

  abbrev pub cross_of : Components R → Components R → Components R
  cross_of a b = record {
    x = o.minus (o.times a.y b.z) (o.times a.z b.y);
    y = o.minus (o.times a.z b.x) (o.times a.x b.z);
    z = o.minus (o.times a.x b.y) (o.times a.y b.x);
  }

  -- det, and what is divided by it: for u, for v, and for the distance s
  abbrev pub detOf : Components R → Components R → Components R → R
  detOf a b d = dotOf a (cross_of d b)

  abbrev pub uOf : Components R → Components R → Components R → R
  uOf b d t = dotOf t (cross_of d b)

  abbrev pub vOf : Components R → Components R → Components R → R
  vOf a d t = dotOf d (cross_of t a)

  abbrev pub dist_of : Components R → Components R → Components R → R
  dist_of a b t = dotOf b (cross_of t a)

-- ---- the definition is this formula
abbrev pub rounded_once : Operations Float
rounded_once = record { plus = ◌⊕◌; minus = ◌⊖◌; times = ◌⊗◌ }

abbrev pub components_of : Vector → Components Float
components_of v = record { x = v.x; y = v.y; z = v.z }

-- a miss where det lies in the EPS band about 0, where the point is beyond an edge, and where the distance is below EPS
abbrev pub judged_hit : Float → Float → Float → Float → Hit
judged_hit det u v s =
    cond (lt (neg EPS) det && lt det EPS) no_hit
    (cond (not (le zero_f u && le u one_f)) no_hit
    (cond (lt v zero_f || lt one_f (u ⊕ v)) no_hit
    (cond (lt s EPS) no_hit (hit_at s))))

-- the formula of the edges a and b, the direction d and the offset t, each operation rounded once, then the tests
abbrev pub formula_hit : Components Float → Components Float → Components Float → Components Float → Hit
formula_hit a b d t =
    judged_hit (detOf rounded_once a b d)
    (uOf rounded_once b d t ⊗ (one_f ⊘ detOf rounded_once a b d))
    (vOf rounded_once a d t ⊗ (one_f ⊘ detOf rounded_once a b d))
    (dist_of rounded_once a b t ⊗ (one_f ⊘ detOf rounded_once a b d))

-- The hit of a triangle is the formula's: the edges go from the first corner to the others, the offset from there to the ray's origin.
abbrev pub TriangleIsFormula : Type 0
TriangleIsFormula =
    (v1 v2 v3 : Vector) (r : Ray)
    → triangle_hit v1 v2 v3 r
    ≡ formula_hit (minusOf rounded_once (components_of v2) (components_of v1)) (minusOf rounded_once (components_of v3) (components_of v1))
    (components_of r.direction) (minusOf rounded_once (components_of r.origin) (components_of v1))

-- ---- where operations are exact, the formula solves the equation
-- the operations are those of a commutative ring
pub record CommutativeRing {R : Type 0} (o : Operations R) : Type 0 where
  pub zero : R
  pub negate : R → R
  pub plus_commutes : (a b : R) → o.plus a b ≡ o.plus b a
  pub plus_associates : (a b c : R) → o.plus (o.plus a b) c ≡ o.plus a (o.plus b c)
  pub plus_zero : (a : R) → o.plus a zero ≡ a
  pub plus_negated : (a : R) → o.plus a (negate a) ≡ zero
  pub minus_is : (a b : R) → o.minus a b ≡ o.plus a (negate b)
  pub times_commutes : (a b : R) → o.times a b ≡ o.times b a
  pub times_associates : (a b c : R) → o.times (o.times a b) c ≡ o.times a (o.times b c)
  pub times_plus : (a b c : R) → o.times a (o.plus b c) ≡ o.plus (o.times a b) (o.times a c)

-- det t + (b · q) d = (t · p) a + (d · q) b: divided by det, t + s d = u a + v b
abbrev pub Solves : {R : Type 0} → Operations R → Components R → Components R → Components R → Components R → Type 0
Solves o a b d t =
    plusOf o (scaledOf o (detOf o a b d) t) (scaledOf o (dist_of o a b t) d)
    ≡ plusOf o (scaledOf o (uOf o b d t) a) (scaledOf o (vOf o a d t) b)

-- Cramer's rule: in every commutative ring the formula's numbers solve the equation.
abbrev pub CramersRule : Type 1
CramersRule = (R : Type 0) (o : Operations R) → CommutativeRing o → (a b d t : Components R) → Solves o a b d t

-- Each solution is the formula's: where t + s d = u a + v b, what it divides by det is det s, det u and det v.
abbrev pub OnlySolution : Type 1
OnlySolution =
    (R : Type 0) (o : Operations R) → CommutativeRing o → (a b d t : Components R) (s u v : R)
    → plusOf o t (scaledOf o s d) ≡ plusOf o (scaledOf o u a) (scaledOf o v b)
    → (o.times (detOf o a b d) s ≡ dist_of o a b t) × (o.times (detOf o a b d) u ≡ uOf o b d t) × (o.times (detOf o a b d) v ≡ vOf o a d t)

-- whole numbers, whose operations are exact
abbrev pub whole_operations : Operations ℤ
whole_operations = record { plus = ◌+ℤ◌; minus = ◌-ℤ◌; times = ◌*ℤ◌ }

-- On whole numbers the formula solves the equation.
abbrev pub SolvesOnWholes : Type 0
SolvesOnWholes = (a b d t : Components ℤ) → Solves whole_operations a b d t
