-- What the calls on a solid answer, from what the proved functions gave. Assumes nothing.
use mathlib.Core.Path.{◌≡◌, refl, sym, ap, ◌∙◌, subst}
use mathlib.Core.Bool.{Bool, false}
use mathlib.Core.List.{List}
use Prim.Native.Nat.{ℕ}
use lib.Ieee.{Float}
use Rattle.floats.specs.Arith.{zero_f}
use Rattle.geometry.specs.declared.vector.Vector.{Vector}
use Rattle.geometry.specs.declared.ray.Ray.{Ray}
use Rattle.geometry.specs.declared.hit.Hit.{Hit}
use Rattle.geometry.specs.declared.bounding_box.BBox.{BBox}
use Rattle.matrix_inverse.specs.Inverses.{inverted}
use Rattle.matrix.specs.declared.Matrix.{Matrix}
use Rattle.matrix_inverse.specs.declared.Inverted.{Inverted}
use Rattle.rows.specs.Rows.{padded}
use Rattle.rows.specs.Points.{box_row}
use Rattle.solids.specs.Solids.{hit_of, solid_box, contains_of}
use Rattle.solids.specs.declared.solid.Solid.{Solid}
use Rattle.check_scene.specs.Checks.{if_accepted}
use Rattle.scene.specs.Scenes.{Scene}
use Rattle.query_solid.specs.Simples.{simple_hit, simple_contains}
use Rattle.query_solid.specs.Own.{own_contains}
use Rattle.host.specs.Calls.{matrix_row, simple_number, distance_to, strikes, box_numbers, inside_simple}
use Rattle.std.specs.Prelude.{None, Option, Result, Some}
use Rattle.refusals.specs.declared.Refusal.{Refusal}

pub inverted-is : (m m' : Matrix) (i : Inverted) → m ≡ m' → i ≡ inverted m → (i.determinant ≡ (inverted m').determinant) × (matrix_row i.inverse ≡ matrix_row (inverted m').inverse)
inverted-is m m' i e h =
    let k : i ≡ inverted m' = h ∙ ap inverted e in
    (ap (λ (j : Inverted). j.determinant) k, ap (λ (j : Inverted). matrix_row j.inverse) k)

-- the kind is one of 1 to 5, 8 and 9
module _ (x y : Option Solid) (s : Solid) (read : y ≡ x) (is : y ≡ Some s) where
  pub hit-is : (r r' : Ray) (h : Hit) → r ≡ r' → h ≡ simple_hit x r → (0 ≡ simple_number x) × ((h.t ≡ distance_to x r') × (h.ok ≡ strikes x r'))
  unfolding simple_number distance_to strikes simple_hit
  hit-is r r' h e k =
      let g : h ≡ hit_of s r' = k ∙ ap (λ (z : Option Solid). simple_hit z r) (sym read ∙ is) ∙ ap (hit_of s) e in
      subst (λ (z : Option Solid). (0 ≡ simple_number z) × ((h.t ≡ distance_to z r') × (h.ok ≡ strikes z r'))) (sym is ∙ read)
      (refl, (ap (λ (i : Hit). i.t) g, ap (λ (i : Hit). i.ok) g))

  pub box-is : (b : BBox) → b ≡ solid_box s → (0 ≡ simple_number x) × (box_row b ≡ box_numbers x)
  unfolding simple_number box_numbers
  box-is b k = subst (λ (z : Option Solid). (0 ≡ simple_number z) × (box_row b ≡ box_numbers z)) (sym is ∙ read) (refl, ap box_row k)

  pub inside_is : (p p' : Vector) (f : Float) (a : Bool) → p ≡ p' → a ≡ simple_contains x p f → (0 ≡ simple_number x) × (a ≡ inside_simple x p' f)
  unfolding simple_number inside_simple simple_contains
  inside_is p p' f a e k =
      subst (λ (z : Option Solid). (0 ≡ simple_number z) × (a ≡ inside_simple z p' f)) (sym is ∙ read) (refl, k ∙ ap (λ (z : Option Solid). simple_contains z p f) (sym read ∙ is) ∙ ap (λ (q : Vector). contains_of s q f) e)

-- and none of them
module _ (x y : Option Solid) (read : y ≡ x) (is : y ≡ None) where
  pub no_hit : (r : Ray) → (3 ≡ simple_number x) × ((zero_f ≡ distance_to x r) × (false ≡ strikes x r))
  unfolding simple_number distance_to strikes
  no_hit r = subst (λ (z : Option Solid). (3 ≡ simple_number z) × ((zero_f ≡ distance_to z r) × (false ≡ strikes z r))) (sym is ∙ read) (refl, (refl, refl))

  pub no-box : (3 ≡ simple_number x) × (box_numbers None ≡ box_numbers x)
  unfolding simple_number
  no-box = subst (λ (z : Option Solid). (3 ≡ simple_number z) × (box_numbers None ≡ box_numbers z)) (sym is ∙ read) (refl, refl)

  pub no-inside : (p : Vector) (f : Float) → (3 ≡ simple_number x) × (false ≡ inside_simple x p f)
  unfolding simple_number inside_simple
  no-inside p f = subst (λ (z : Option Solid). (3 ≡ simple_number z) × (false ≡ inside_simple z p f)) (sym is ∙ read) (refl, refl)

-- ---- calls on a scene
-- how a slice is left, by the verdict that the check gave
pub left_so : {A : Type 0} (z : A) {v w : Result ℕ Refusal} {L : ℕ} (M : ℕ) {xs : List A} (l : List A) → v ≡ w → L ≡ M → xs ≡ padded z L (if_accepted v l) → xs ≡ padded z M (if_accepted w l)
left_so z M l e m h = h ∙ rw (e, m)

pub contains-so : (s : Scene) (i : ℕ) (f : Float) (p q : Vector) {c : Result Bool Refusal} → c ≡ own_contains s i p f → p ≡ q → c ≡ own_contains s i q f
contains-so s i f p q h e = h ∙ ap (λ (v : Vector). own_contains s i v f) e
