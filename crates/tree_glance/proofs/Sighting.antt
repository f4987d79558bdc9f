-- From the walk to the eye test. Assumes nothing.
use mathlib.Core.Path.{◌≡◌, refl, sym, ap, subst, ◌∙◌}
use mathlib.Core.Logic.{◌⊎◌, inl, inr}
use mathlib.Core.List.{List}
use mathlib.Core.Bool.{Bool, true, false, not}
use Prim.Native.Nat.{ℕ, ◌+◌, ◌*◌, ◌≤◌}
use native.Mathlib.Omega.{arith}
use lib.ListN.{length, get_or, set, length-set}
use lib.Seq.{get_or-set_same}
use lib.Dec.{T}
use lib.Ieee.{Float, eq, lt, le}
use Rattle.floats.specs.Arith.{zero_f, INF}
use Rattle.geometry.specs.Vectors.{sub_v, div_scalar, distance_of}
use Rattle.geometry.specs.Rays.{ray_of}
use Rattle.geometry.specs.Limits.{Within, Usable}
use Rattle.geometry.specs.declared.hit.Hit.{Hit}
use Rattle.geometry.specs.declared.ray.Ray.{Ray}
use Rattle.geometry.specs.declared.vector.Vector.{Vector}
use Rattle.geometry.proofs.Lengths.{distance-le}
use Rattle.rows.specs.Rows.{row}
use Rattle.rows.specs.Points.{box_of_row}
use Rattle.tree_beams.specs.Beams.{is_sure, aim_of, Aimed}
use Rattle.tree_beams.specs.declared.Beam.{Beam}
use Rattle.tree_walk.specs.Walks.{walk_rows}
use Rattle.tree_sight.specs.Sights.{eye_ray, sees}
use Rattle.tree_sight.specs.declared.Sight.{Sight}
use Rattle.tree_sight.specs.declared.Sight.TheVariants.{Hidden, Visible}
use Rattle.tree_sight.proofs.Answers.{short-hidden, reaching-visible}
use Rattle.tree_trust.specs.Trust.{whole_tree, Trusted}
use Rattle.tree_glance.specs.Glances.{LastCover, EnteredBefore, Covering, Tells, SeenAs}
use Rattle.tree_glance.proofs.Endings.{all-answering, hides-tells}
use Rattle.tree_walk.specs.declared.Nearest.{Nearest}
use Rattle.std.specs.Prelude.{None, Ok, Option, Result, Some}
use Rattle.refusals.specs.declared.Refusal.{Refusal}

-- ---- a point at the eye is seen
pub near-seen : (f : Ray → Result Nearest Refusal) (eye point : Vector) (d : Float) → d ≡ distance_of eye point → eq d zero_f ≡ true → sees f eye point ≡ Ok Visible
unfolding sees
near-seen f eye point d e h = rw (← e, h)

-- ---- the ray of the eye test, as the code makes it
module _ (eye point v : Vector) (d : Float) (ev : v ≡ sub_v eye point) (length-is : d ≡ distance_of eye point) where
  pub length-reached : Within eye → Within point → T (le d INF)
  length-reached E P = subst (λ (x : Float). T (le x INF)) (sym length-is) (distance-le eye point E P)

  module _ (q : Vector) (eq' : q ≡ div_scalar v d) (r : Ray) (er : r ≡ ray_of point q) (b : Beam) (eb : b ≡ aim_of r v d) where
    pub aimed-ray : b.ray ≡ r
    unfolding aim_of
    aimed-ray = ap (λ (k : Beam). k.ray) eb

    pub ray-is : b.ray ≡ eye_ray eye point
    unfolding eye_ray
    ray-is = aimed-ray ∙ er ∙ rw (eq', ev, length-is)

    pub aimed : Within point → b.sure ≡ true → Aimed b
    unfolding aim_of
    aimed P s = record {
      from = subst (λ (w : Ray). Within w.origin) (sym (aimed-ray ∙ er)) P;
      sure = subst (λ (k : Beam). is_sure k.ray.direction k.low ≡ k.sure) (sym eb) refl ∙ s;
    }

    module _ (far : eq d zero_f ≡ false) (f : Ray → Result Nearest Refusal) where
      apart : T (not (eq (distance_of eye point) zero_f))
      apart = subst (λ (x : Float). T (not (eq x zero_f))) length-is (subst (λ (k : Bool). T (not k)) (sym far) tt)

      pub told-hidden : Tells (Some Hidden) (f b.ray) d → sees f eye point ≡ Ok Hidden
      told-hidden t =
          short-hidden f eye point apart t.0 (ap f (sym ray-is) ∙ t.1) (subst (λ (x : Float). T (lt t.0.hit.t x)) length-is t.2)

      pub told_visible : Tells (Some Visible) (f b.ray) d → sees f eye point ≡ Ok Visible
      told_visible t =
          reaching-visible f eye point t.0 (ap f (sym ray-is) ∙ t.1) (subst (λ (x : Float). T (le x t.0.hit.t)) length-is t.2)

      -- by what the walk's glance says
      pub told-as : (g : Option Sight) → Tells g (f b.ray) d → SeenAs g (sees f eye point)
      told-as (Some Hidden) t = told-hidden t
      told-as (Some Visible) t = told_visible t
      told-as None t = tt

-- ---- what is kept hides
module _ (hit : ℕ → Result Hit Refusal) (r : Ray) (distance : Float) (boxes : List Float) (links order cover stack : List ℕ) (t : Trusted boxes links order) (K : LastCover boxes links order cover stack) where
  pub covering-tells : Usable r → ((i : ℕ) → (h : Hit) × (hit i ≡ Ok h)) → Covering hit r distance boxes cover → Tells (Some Hidden) (walk_rows hit r boxes links order) distance
  covering-tells u A C = elim K.last [
    | inl e ↦ absurd (C.held e)
    | inr z ↦ hides-tells hit r distance boxes links order t u (all-answering hit r A (whole_tree boxes links order)) (record {
      box = box_of_row (row 6 (get_or cover 0 0) boxes);
      entry = get_or cover 1 0;
      own = C.own;
      in_tree = z.1;
      passed = C.entered.passed;
      before = C.entered.before;
      returned = C.returned;
      short = C.short;
    })
  ]

-- what `covered` asks for
pub kept-fits : (boxes : List Float) (links order cover stack : List ℕ) (K : LastCover boxes links order cover stack) → (get_or cover 0 0 ≡ 0xffff_ffff) ⊎ (get_or cover 0 0 * 6 + 6 ≤ length boxes)
kept-fits boxes links order cover stack K = elim K.last [ inl e ↦ inl e | inr z ↦ inr z.0 ]

pub fits-else : (boxes : List Float) (place : ℕ) → (place ≡ 0xffff_ffff) ⊎ (place * 6 + 6 ≤ length boxes) → (place ≡ 0xffff_ffff → ⊥) → place * 6 + 6 ≤ length boxes
fits-else boxes place (inl e) h = absurd (h e)
fits-else boxes place (inr f) h = f

module _ (hit : ℕ → Result Hit Refusal) (r : Ray) (distance : Float) (boxes : List Float) (cover : List ℕ) where
  pub covering : (get_or cover 0 0 ≡ 0xffff_ffff → ⊥) → EnteredBefore boxes (get_or cover 0 0) r distance → (h : Hit) → hit (get_or cover 1 0) ≡ Ok h → lt h.t distance ≡ true → Covering hit r distance boxes cover
  covering n e h q s = record { held = n; entered = e; own = h; returned = q; short = subst T (sym s) tt }

-- ---- what is kept afterwards
pub kept-none : (boxes : List Float) (links order cover stack : List ℕ) → LastCover boxes links order cover stack → LastCover boxes links order (set cover 0 0xffff_ffff) stack
kept-none boxes links order cover stack K = record {
  wide = length-set cover 0 0xffff_ffff ∙ K.wide;
  wide_stack = K.wide_stack;
  last = inl (get_or-set_same cover 0 0xffff_ffff 0 (omega (arith, K.wide)));
}

-- ---- what the glance at the eye test says
module _ (a : Option Sight) (s : Result Sight Refusal) (S : SeenAs a s) where
  pub as-hidden : a ≡ Some Hidden → Ok Hidden ≡ s
  as-hidden e = sym (subst (λ (x : Option Sight). SeenAs x s) e S)

  pub as-visible : a ≡ Some Visible → Ok Visible ≡ s
  as-visible e = sym (subst (λ (x : Option Sight). SeenAs x s) e S)

  pub as-seen : (g : Sight) → a ≡ Some g → Ok g ≡ s
  as-seen Hidden e = as-hidden e
  as-seen Visible e = as-visible e

pub seen_as : (g h : Option Sight) (s : Result Sight Refusal) → g ≡ h → SeenAs g s → SeenAs h s
seen_as g h s e S = subst (λ (x : Option Sight). SeenAs x s) e S

-- a cover of one ray, where another is the same
pub turned : (hits : Ray → ℕ → Result Hit Refusal) (q r : Ray) (distance : Float) (boxes : List Float) {cover : List ℕ} → q ≡ r → Covering (hits r) r distance boxes cover → Covering (hits q) q distance boxes cover
turned hits q r distance boxes {cover} e = subst (λ (x : Ray). Covering (hits x) x distance boxes cover) (sym e)
