-- Demand 3 on hiding, on trees of any solids: the proofs.
use mathlib.Core.Path.{refl, sym, subst}
use mathlib.Core.Logic.{inl, inr}
use Prim.Native.Nat.{ℕ}
use lib.Dec.{T}
use lib.Ieee.{lt, of_bits}
use Rattle.floats.specs.Arith.{INF}
use Rattle.floats.specs.Numbers.{number}
use Rattle.floats.proofs.Order.{le-number-l, le_lt_trans, le-not-gt, not-ge→lt}
use Rattle.geometry.specs.Vectors.{distance_of}
use Rattle.geometry.specs.Limits.{Within, Usable}
use Rattle.geometry.specs.declared.vector.Vector.{Vector}
use Rattle.geometry.specs.declared.ray.Ray.{Ray}
use Rattle.geometry.specs.declared.bounding_box.BBox.{BBox}
use Rattle.geometry.proofs.Lengths.{distance-number, distance-le}
use Rattle.tree_nodes.proofs.Members.{built-below, below-built, built-well}
use Rattle.tree_walk.specs.Walks.{nothing, visit}
use Rattle.tree_walk.specs.declared.Nearest.{Nearest}
use Rattle.tree_walk.proofs.Visits.{visit-le, visit-from, visit-hits}
use Rattle.tree_sight.specs.Sights.{eye_ray}
use Rattle.tree_sight.proofs.Answers.{answered-best, short-hidden, hidden-best, reaching-visible}
use Rattle.theorem_hiding.specs.Covers.{CoversBy, NoMinusZero}
use Rattle.theorem_hiding.specs.Hiding.{CoveredIsHidden, NamedFallsShort, HiddenFallsShort, NothingIsHidden}
use Rattle.geometry.specs.declared.hit.Hit.{Hit}
use Rattle.std.specs.Prelude.{Ok, Result}
use Rattle.refusals.specs.declared.Refusal.{Refusal}

inf-number : T (number INF)
unfolding of_bits
inf-number = tt

-- The ray of the eye test from an accepted point is one for which the laws of boxes hold, where no component of its direction is -0.
eye-ray-usable : (eye point : Vector) → Within point → NoMinusZero (eye_ray eye point).direction → Usable (eye_ray eye point)
unfolding eye_ray
eye-ray-usable eye point w d = record { origin = w; x = d.x; y = d.y; z = d.z }

pub covered-is-hidden : CoveredIsHidden
covered-is-hidden S box hit s eye point covers p solid entries tree of holds answered =
    let nearest : Ray → Result Nearest Refusal = λ (q : Ray). visit (λ (j : ℕ). hit (solid j) q) q tree 0 nothing in
    let found = answered-best nearest eye point p.apart answered in
    let b : Nearest = found.0 in
    let i : ℕ = holds.0 in
    let c : CoversBy box hit (solid i) eye point = subst (λ (x : S). CoversBy box hit x eye point) (sym holds.2) covers in
    let r : Ray = eye_ray eye point in
    let boxes : ℕ → BBox = λ (j : ℕ). box (solid j) in
    let l = visit-hits (λ (j : ℕ). hit (solid j) r) r (eye-ray-usable eye point p.point_within p.direction) boxes i (of.fine i holds.1) c.falls.own c.falls.returned
    c.passed c.no_later tree (built-well boxes tree entries of.fine of.built) (built-below boxes tree entries of.built i holds.1) 0 nothing b inf-number found.1 in
    short-hidden nearest eye point p.apart b found.1 (le_lt_trans b.hit.t c.falls.own.t (distance_of eye point) l c.falls.short)

pub named-falls-short : NamedFallsShort
named-falls-short S box hit eye point eye-in point-in solid entries tree of hidden =
    let found = hidden-best (λ (q : Ray). visit (λ (j : ℕ). hit (solid j) q) q tree 0 nothing) eye point hidden in
    let b : Nearest = found.0 in
    let r : Ray = eye_ray eye point in
    let own : ℕ → Result Hit Refusal = λ (j : ℕ). hit (solid j) r in
    let n = le-number-l b.hit.t INF (visit-le own r tree 0 nothing b inf-number found.1) in
    let l = not-ge→lt b.hit.t (distance_of eye point) n (distance-number eye point eye-in point-in) found.2 in
    elim (visit-from own r tree 0 nothing b found.1) [
      | inl e ↦ absurd (le-not-gt (distance_of eye point) INF (distance-le eye point eye-in point-in) (subst (λ (x : Nearest). T (lt x.hit.t (distance_of eye point))) e l))
      | inr w ↦ (b, found.1, below-built (λ (j : ℕ). box (solid j)) tree entries of.built b.entry w.0, record { own = b.hit; returned = w.1; short = l })
    ]

pub hidden-falls-short : HiddenFallsShort
hidden-falls-short S box hit eye point eye-in point-in solid entries tree of hidden =
    let z = named-falls-short S box hit eye point eye-in point-in solid entries tree of hidden in
    (solid z.0.entry, (z.0.entry, z.2, refl), z.3)

pub nothing-is-hidden : NothingIsHidden
nothing-is-hidden eye point eye-in point-in = reaching-visible (λ (r : Ray). Ok nothing) eye point nothing refl (distance-le eye point eye-in point-in)
