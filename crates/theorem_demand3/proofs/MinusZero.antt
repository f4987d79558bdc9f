-- The premise on −0 is needed. Computed.
use Prim.Native.Nat.{ℕ}
use mathlib.Core.Path.{◌≡◌, refl, sym}
use mathlib.Core.Logic.{inl}
use mathlib.Core.Bool.{not}
use native.Mathlib.Omega.{arith}
use lib.ListN.{length}
use lib.Dec.{T}
use lib.Ieee.{add, sub, mul, div, lt, le, eq, neg, is_nan, of_bits}
use Rattle.floats.specs.Arith.{zero_f, one_f}
use Rattle.floats.specs.Numbers.{min_of, max_of, within}
use Rattle.sqrt.specs.Root.{sqrt_of}
use Rattle.geometry.specs.Boxes.{box_test, overlap, slab, ordered, extend_box}
use Rattle.geometry.specs.Hits.{hit_at}
use Rattle.geometry.specs.Vectors.{distance_of, length_of, length_squared, sub_v, div_v, div_scalar, dot, min_v, max_v, min_component, max_component}
use Rattle.rows.specs.Rows.{padded, flat}
use Rattle.rows.specs.Starts.{good_starts}
use Rattle.lists.specs.Lists.{Member, all_of, list_to}
use Rattle.limits.specs.Limits.{within_box, within_point}
use Rattle.solids.specs.Cubes.{cube_hit}
use Rattle.solids.specs.Solids.{solid_box, hit_of}
use Rattle.scene.specs.Entries.{striped, stripe_count, simple_of, simple_or, entry_of, own_entry}
use Rattle.scene_shape.specs.Shapes.{shape_of, read, shape_box, shape_hit}
use Rattle.check_measures.specs.Measures.{measured, simple_measured, solid_measured, cube_measured, exceeds}
use Rattle.check_measures.specs.Values.{known, is_kind, is_stripes, few_stripes}
use Rattle.check_parts.specs.Drawn.{drawn, unnamed}
use Rattle.check_parts.specs.Owners.{owners_ok}
use Rattle.check_parts.specs.Parts.{named_before, names, deepest, depths_to, parts_free, entry_ok, parts_ok}
use Rattle.check_scene.specs.Checks.{check_of, first_met, lengths_agree}
use Rattle.check_scene.specs.Placings.{placing_ok}
use Rattle.tree_nodes.specs.Members.{hull}
use Rattle.tree_nodes.specs.Nodes.{places_of}
use Rattle.tree_nodes.specs.Trees.{layout, root_of, below_of, leaves, below_root}
use Rattle.tree_split.specs.Build.{nodes_for, order_for, tree_of, plan_of, plan_axis, arranged, split_by, hull_of}
use Rattle.tree_walk.specs.Walks.{walk_rows, walk_on, scan, tried, nearer, backward}
use Rattle.tree_sight.specs.Sights.{eye_ray, sees, by_distance}
use Rattle.tree_sight.specs.declared.Sight.TheVariants.{Visible, Hidden}
use Rattle.query_scene.specs.Queries.{build_of, built_after, planted_of, visible_of, seen_after}
use Rattle.theorem_solids.specs.Same.{SameSolid, used_numbers, uses_detail}
use Rattle.draw.specs.Drawing.{solid_in}
use Rattle.theorem_demand3.specs.Demand3.{Covers, Answers}
use Rattle.theorem_demand3.specs.Witnesses.{at_origin, overhead, flat_alone, flat_beside, minus_eye, MinusZeroNeeded}
use Rattle.theorem_demand3.proofs.Answers.{boxes_on, marks_on, order_on, seen_on_rows, yes_or_no, eye-test}
use Rattle.std.specs.Prelude.{Ok, Result}
use Rattle.refusals.specs.declared.Refusal.{Refusal}
use Rattle.tree_sight.specs.declared.Sight.{Sight}

-- entry 0 of both scenes is a cube, which has no parts
same-cube : SameSolid flat_alone.numbers flat_alone.marks flat_beside.numbers flat_beside.marks 0 0
unfolding used_numbers uses_detail
same-cube =
    (omega arith, omega arith, record { kind = refl; detail = λ h. refl; numbers = refl; part = λ (e : ◌≡◌ {A = ℕ} 4 6). absurd (omega (arith, e)); parts = λ (e : ◌≡◌ {A = ℕ} 4 7). absurd (omega (arith, e)) })

first-drawn : Member 0 (drawn flat_beside.marks)
unfolding unnamed named_before names
first-drawn = inl refl

one-solid : solid_in flat_alone 0 ≡ solid_in flat_beside 0
unfolding simple_of simple_or entry_of own_entry shape_of read of_bits
one-solid = refl

flat-covers : Covers (solid_in flat_alone 0) minus_eye at_origin
unfolding simple_of simple_or entry_of own_entry shape_of read shape_box solid_box shape_hit hit_of cube_hit box_test overlap slab ordered eye_ray sqrt_of distance_of length_of length_squared sub_v div_v div_scalar dot min_v max_v min_component max_component min_of max_of add sub mul div lt le eq neg is_nan of_bits
flat-covers = record { falls = record { own = hit_at one_f; returned = refl; short = tt }; passed = tt; no_later = tt }

eye-apart : T (not (eq (distance_of minus_eye at_origin) zero_f))
unfolding eye_ray sqrt_of distance_of length_of length_squared sub_v div_scalar dot add sub mul div lt le eq neg is_nan of_bits
eye-apart = tt

built-alone : build_of flat_alone (places_of (boxes_on flat_alone) (marks_on flat_alone)) (length (order_on flat_alone)) ≡ Ok 1
unfolding build_of built_after planted_of check_of first_met lengths_agree all_of known is_kind is_stripes few_stripes stripe_count striped names named_before deepest depths_to parts_free entry_ok parts_ok owners_ok good_starts measured simple_measured solid_measured cube_measured exceeds placing_ok within_box within_point within simple_of simple_or entry_of own_entry shape_of read shape_box solid_box unnamed nodes_for order_for layout root_of below_of leaves below_root tree_of plan_of plan_axis arranged split_by hull_of hull lt le eq neg of_bits places_of padded flat
built-alone = refl

built-beside : build_of flat_beside (places_of (boxes_on flat_beside) (marks_on flat_beside)) (length (order_on flat_beside)) ≡ Ok 1
unfolding build_of built_after planted_of check_of first_met lengths_agree all_of known is_kind is_stripes few_stripes stripe_count striped names named_before deepest depths_to parts_free entry_ok parts_ok owners_ok good_starts measured simple_measured solid_measured cube_measured exceeds placing_ok within_box within_point within simple_of simple_or entry_of own_entry shape_of read shape_box solid_box unnamed nodes_for order_for layout root_of below_of leaves below_root tree_of plan_of plan_axis arranged split_by hull_of hull lt le eq neg of_bits places_of padded flat
built-beside = refl

seen-alone : seen_on_rows flat_alone minus_eye at_origin ≡ Ok Hidden
unfolding visible_of seen_after sees by_distance walk_rows walk_on scan tried nearer backward places_of padded flat list_to check_of first_met lengths_agree all_of known is_kind is_stripes few_stripes stripe_count striped names named_before deepest depths_to parts_free entry_ok parts_ok owners_ok good_starts measured simple_measured solid_measured cube_measured exceeds placing_ok within_box within_point within simple_of simple_or entry_of own_entry shape_of read shape_box solid_box shape_hit hit_of cube_hit unnamed nodes_for order_for layout root_of below_of leaves below_root tree_of plan_of plan_axis arranged split_by hull_of hull extend_box box_test overlap slab ordered eye_ray sqrt_of distance_of length_of length_squared sub_v div_v div_scalar dot min_v max_v min_component max_component min_of max_of add sub mul div lt le eq neg is_nan of_bits
seen-alone = refl

seen-beside : seen_on_rows flat_beside minus_eye at_origin ≡ Ok Visible
unfolding visible_of seen_after sees by_distance walk_rows walk_on scan tried nearer backward places_of padded flat list_to check_of first_met lengths_agree all_of known is_kind is_stripes few_stripes stripe_count striped names named_before deepest depths_to parts_free entry_ok parts_ok owners_ok good_starts measured simple_measured solid_measured cube_measured exceeds placing_ok within_box within_point within simple_of simple_or entry_of own_entry shape_of read shape_box solid_box shape_hit hit_of cube_hit unnamed nodes_for order_for layout root_of below_of leaves below_root tree_of plan_of plan_axis arranged split_by hull_of hull extend_box box_test overlap slab ordered eye_ray sqrt_of distance_of length_of length_squared sub_v div_v div_scalar dot min_v max_v min_component max_component min_of max_of add sub mul div lt le eq neg is_nan of_bits
seen-beside = refl

seen-plus : seen_on_rows flat_beside overhead at_origin ≡ Ok Hidden
unfolding visible_of seen_after sees by_distance walk_rows walk_on scan tried nearer backward places_of padded flat list_to check_of first_met lengths_agree all_of known is_kind is_stripes few_stripes stripe_count striped names named_before deepest depths_to parts_free entry_ok parts_ok owners_ok good_starts measured simple_measured solid_measured cube_measured exceeds placing_ok within_box within_point within simple_of simple_or entry_of own_entry shape_of read shape_box solid_box shape_hit hit_of cube_hit unnamed nodes_for order_for layout root_of below_of leaves below_root tree_of plan_of plan_axis arranged split_by hull_of hull extend_box box_test overlap slab ordered eye_ray sqrt_of distance_of length_of length_squared sub_v div_v div_scalar dot min_v max_v min_component max_component min_of max_of add sub mul div lt le eq neg is_nan of_bits
seen-plus = refl

hidden-alone : Answers flat_alone minus_eye at_origin (Ok Hidden)
hidden-alone = eye-test flat_alone 1 built-alone minus_eye at_origin (Ok Hidden) seen-alone

brought-back : Answers flat_beside minus_eye at_origin (Ok Visible)
brought-back = eye-test flat_beside 1 built-beside minus_eye at_origin (Ok Visible) seen-beside

yes-is-not-no : ◌≡◌ {A = Result Sight Refusal} (Ok Visible) (Ok Hidden) → ⊥
yes-is-not-no e = let z : ◌≡◌ {A = ℕ} 0 1 = cc in omega arith

pub minus-zero-needed : MinusZeroNeeded
minus-zero-needed = record {
  same = same-cube;
  remains = first-drawn;
  covers = flat-covers;
  apart = eye-apart;
  hidden = hidden-alone;
  back = brought-back;
  plus-zero = eye-test flat_beside 1 built-beside overhead at_origin (Ok Hidden) seen-plus;
  refuted = λ claim.
      yes-is-not-no (claim (solid_in flat_alone 0) minus_eye at_origin flat-covers eye-apart flat_beside (0, first-drawn, sym one-solid) (Ok Visible) (yes_or_no (Ok Visible) (inl refl)) brought-back);
}
