-- What a glance that ends says of the full walk. Assumes nothing.
use mathlib.Core.Path.{◌≡◌, refl, sym, subst, ◌∙◌}
use mathlib.Core.Logic.{inr}
use mathlib.Core.List.{List}
use mathlib.Core.Bool.{Bool, true, false, ◌&&◌, and-eq-true_iff}
use Prim.Native.Nat.{ℕ, ◌+◌, ◌*◌, ◌≤◌, ◌<◌}
use native.Mathlib.Omega.{arith}
use lib.ListN.{length, get_or}
use lib.IntN.{ℤ}
use lib.Dec.{T, lt→ltb}
use lib.Ieee.{Float, fin, of_bits, le}
use Rattle.floats.specs.Arith.{INF}
use Rattle.floats.specs.Numbers.{number}
use Rattle.floats.proofs.Order.{le-number-l, le→not-gt, not-gt→le}
use Rattle.geometry.specs.Limits.{straight, Usable}
use Rattle.geometry.specs.declared.ray.Ray.{Ray}
use Rattle.geometry.specs.declared.hit.Hit.{Hit}
use Rattle.rows.specs.Rows.{row}
use Rattle.rows.specs.Points.{box_of_row}
use Rattle.tree_nodes.specs.Trees.{Tree, leaf, split}
use Rattle.tree_nodes.specs.Nodes.{node_at, places_of}
use Rattle.tree_nodes.specs.declared.Node.{Node}
use Rattle.tree_beams.specs.Beams.{is_shown, is_sure, Aimed}
use Rattle.tree_beams.specs.declared.Beam.{Beam}
use Rattle.tree_beams.proofs.Planes.{shown}
use Rattle.tree_walk.specs.Walks.{nothing, visit, walk_rows}
use Rattle.tree_walk.proofs.Visits.{visit-le}
use Rattle.tree_walk.proofs.Layouts.{walk-is-visit}
use Rattle.tree_trust.specs.Trust.{whole_tree, Trusted}
use Rattle.tree_glance.specs.Glances.{LastCover, LeafIn, Tells, ended_of}
use Rattle.tree_glance.proofs.Leaves.{Found-best, Answering, Clear, visit-answered, leaf-falls-short, clear-reaches}
use Rattle.tree_glance.proofs.Glancing.{Hides, Whole}
use Rattle.tree_sight.specs.declared.Sight.TheVariants.{Hidden, Visible}
use Rattle.tree_walk.specs.declared.Nearest.{Nearest}
use Rattle.std.specs.Prelude.{Ok, Option, Result, Some}
use Rattle.refusals.specs.declared.Refusal.{Refusal}
use Rattle.tree_sight.specs.declared.Sight.{Sight}

-- ---- a beam's ray is one for which the laws of boxes hold
pub aimed-usable : (b : Beam) → Aimed b → Usable b.ray
unfolding is_sure
aimed-usable b A =
    let d = b.ray.direction in
    let p = (and-eq-true_iff (is_shown d.x b.low.x) (is_shown d.y b.low.y && is_shown d.z b.low.z)).0 A.sure in
    let q = (and-eq-true_iff (is_shown d.y b.low.y) (is_shown d.z b.low.z)).0 p.1 in
    record { origin = A.from; x = way d.x b.low.x p.0; y = way d.y b.low.y q.0; z = way d.z b.low.z q.1 }
  where
    runs : (s : Bool) (m : ℕ) (e : ℤ) → 0 < m → T (straight (fin s m e))
    runs true m e h = lt→ltb 0 m h
    runs false m e h = tt

    way : (d low : Float) → is_shown d low ≡ true → T (straight d)
    way d low h = let s = shown d low h in subst (λ (x : Float). T (straight x)) (sym s.d-is) (runs s.sign s.m s.e s.some)

inf-number : T (number INF)
unfolding of_bits
inf-number = tt

pub all-answering : (hit : ℕ → Result Hit Refusal) (r : Ray) → ((i : ℕ) → (h : Hit) × (hit i ≡ Ok h)) → (x : Tree ℕ) → Answering hit r x
all-answering hit r A (leaf c a is) = λ p i m. A i
all-answering hit r A (split c a u v) = λ p. (all-answering hit r A u, all-answering hit r A v)

module _ (hit : ℕ → Result Hit Refusal) (r : Ray) (distance : Float) (boxes : List Float) (links order : List ℕ) (t : Trusted boxes links order) where
  abbrev N : ℕ → Node
  N = node_at boxes links

  abbrev P : ℕ
  P = places_of boxes links

  abbrev tree : Tree ℕ
  tree = whole_tree boxes links order

  walked : walk_rows hit r boxes links order ≡ visit hit r tree 0 nothing
  unfolding walk_rows
  walked = walk-is-visit hit r N P order P 0 tree nothing t.stands t.fits

  found : Answering hit r tree → Found-best (visit hit r tree 0 nothing)
  found A = visit-answered hit r 62 0 (omega arith) tree t.shallow A nothing

  pub hides-tells : Usable r → Answering hit r tree → Hides hit r distance tree → Tells (Some Hidden) (walk_rows hit r boxes links order) distance
  hides-tells u A H =
      let f = found A in
      (f.0, walked ∙ f.1, leaf-falls-short hit r u H.box H.passed distance H.before H.entry H.own H.returned H.short tree t.nests H.in_tree 0 nothing f.0 inf-number f.1)

  pub clear-tells : T (le distance INF) → Answering hit r tree → Clear hit r distance tree → Tells (Some Visible) (walk_rows hit r boxes links order) distance
  clear-tells l A C =
      let f = found A in
      let n = le-number-l f.0.hit.t INF (visit-le hit r tree 0 nothing f.0 inf-number f.1) in
      (f.0, walked ∙ f.1, not-gt→le distance f.0.hit.t (le-number-l distance INF l) n (clear-reaches hit r distance tree C 0 nothing f.0 (le→not-gt distance INF l) f.1))

  pub whole_tells : T (le distance INF) → Usable r → (hid : Bool) → Whole hit r distance N P order tree hid → Tells (ended_of hid) (walk_rows hit r boxes links order) distance
  unfolding ended_of
  whole_tells l u true w = hides-tells u w.answers (w.hides refl)
  whole_tells l u false w = clear-tells l w.answers (w.clear refl)

-- ---- what is kept
pub kept-cover : (boxes : List Float) (links order cover stack : List ℕ) → length cover ≡ 2 → length stack ≡ 64 → get_or cover 0 0 * 6 + 6 ≤ length boxes
    → LeafIn (box_of_row (row 6 (get_or cover 0 0) boxes)) (get_or cover 1 0) (whole_tree boxes links order) → LastCover boxes links order cover stack
kept-cover boxes links order cover stack w s f l = record { wide = w; wide_stack = s; last = inr (f, l) }

pub kept-stack : (boxes : List Float) (links order cover stack : List ℕ) → LastCover boxes links order cover stack → (stack' : List ℕ) → length stack' ≡ 64 → LastCover boxes links order cover stack'
kept-stack boxes links order cover stack K stack' l = record { wide = K.wide; wide_stack = l; last = K.last }

pub kept_same : (boxes : List Float) (links order cover stack : List ℕ) → LastCover boxes links order cover stack → (cover' : List ℕ) → cover' ≡ cover → LastCover boxes links order cover' stack
kept_same boxes links order cover stack K cover' e = subst (λ (l : List ℕ). LastCover boxes links order l stack) (sym e) K

pub tells_as : (g h : Option Sight) (f : Result Nearest Refusal) (distance : Float) → g ≡ h → Tells h f distance → Tells g f distance
tells_as g h f distance e = subst (λ (x : Option Sight). Tells x f distance) (sym e)
