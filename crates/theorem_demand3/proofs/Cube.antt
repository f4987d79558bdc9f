-- Document 01's cube: what it covers and what it hides. Computed.
use mathlib.Core.Path.{◌≡◌, refl, sym, ◌∙◌, subst}
use lib.ListN.{length}
use lib.Dec.{T}
use lib.Ieee.{add, sub, mul, div, lt, le, eq, neg, is_nan, of_bits}
use Rattle.floats.specs.Arith.{two_f}
use Rattle.floats.specs.Numbers.{min_of, max_of, within}
use Rattle.sqrt.specs.Root.{sqrt_of}
use Rattle.geometry.specs.Boxes.{box_test, overlap, slab, ordered, extend_box}
use Rattle.geometry.specs.Hits.{hit_at, no_hit}
use Rattle.geometry.specs.Vectors.{distance_of, length_of, length_squared, sub_v, div_v, div_scalar, dot, min_v, max_v, min_component, max_component}
use Rattle.geometry.specs.declared.hit.Hit.{Hit}
use Rattle.rows.specs.Rows.{padded, flat}
use Rattle.rows.specs.Starts.{good_starts}
use Rattle.lists.specs.Lists.{all_of, list_to}
use Rattle.limits.specs.Limits.{within_box, within_point}
use Rattle.solids.specs.Cubes.{cube_hit}
use Rattle.solids.specs.Solids.{solid_box, hit_of}
use Rattle.scene.specs.Entries.{striped, stripe_count, simple_of, simple_or, entry_of, own_entry}
use Rattle.scene_shape.specs.Shapes.{shape_of, read, shape_box, shape_hit}
use Rattle.check_measures.specs.Measures.{measured, simple_measured, solid_measured, cube_measured, exceeds}
use Rattle.check_measures.specs.Values.{known, is_kind, is_stripes, few_stripes}
use Rattle.check_parts.specs.Drawn.{unnamed}
use Rattle.check_parts.specs.Owners.{owners_ok}
use Rattle.check_parts.specs.Parts.{names, named_before, deepest, depths_to, parts_free, entry_ok, parts_ok}
use Rattle.check_scene.specs.Checks.{check_of, first_met, lengths_agree}
use Rattle.check_scene.specs.Placings.{placing_ok}
use Rattle.tree_nodes.specs.Members.{hull}
use Rattle.tree_nodes.specs.Nodes.{places_of}
use Rattle.tree_nodes.specs.Trees.{layout, root_of, below_of, leaves, below_root}
use Rattle.tree_split.specs.Build.{nodes_for, order_for, tree_of, plan_of, plan_axis, arranged, split_by, hull_of}
use Rattle.tree_walk.specs.Walks.{walk_rows, walk_on, scan, tried, nearer, backward}
use Rattle.tree_sight.specs.Sights.{eye_ray, sees, by_distance}
use Rattle.tree_sight.specs.declared.Sight.TheVariants.{Visible, Hidden}
use Rattle.query_scene.specs.Queries.{build_of, built_after, planted_of, visible_of, seen_after, occluder_of, named_after, hides, hider_by}
use Rattle.draw.specs.Drawing.{solid_in}
use Rattle.theorem_demand3.specs.Demand3.{Covers, Premise}
use Rattle.theorem_demand3.specs.Witnesses.{cube_yard, overhead, far_side, near_side, CubeCovers}
use Rattle.theorem_demand3.proofs.Answers.{boxes_on, marks_on, order_on, seen_on_rows, named_on_rows, rows_left, eye-test}
use Rattle.std.specs.Prelude.{Ok, Result, Some}
use Rattle.refusals.specs.declared.Refusal.{Refusal}

far-covered : Covers (solid_in cube_yard 0) overhead far_side
unfolding simple_of simple_or entry_of own_entry shape_of read shape_box solid_box shape_hit hit_of cube_hit box_test overlap slab ordered eye_ray sqrt_of distance_of length_of length_squared sub_v div_v div_scalar dot min_v max_v min_component max_component min_of max_of add sub mul div lt le eq neg is_nan of_bits
far-covered = record { falls = record { own = hit_at two_f; returned = refl; short = tt }; passed = tt; no_later = tt }

far-premise : Premise overhead far_side
unfolding eye_ray sqrt_of distance_of length_of length_squared sub_v div_scalar dot add sub mul div lt le eq neg is_nan of_bits
far-premise = record { apart = tt; direction = record { x = tt; y = tt; z = tt } }

-- the near side is a miss, whose t is INF: it does not fall short
near-misses : shape_hit (solid_in cube_yard 0) (eye_ray overhead near_side) ≡ Ok no_hit
unfolding simple_of simple_or entry_of own_entry shape_of read shape_hit hit_of cube_hit eye_ray sqrt_of distance_of length_of length_squared sub_v div_v div_scalar dot min_v max_v min_component max_component min_of max_of add sub mul div lt le eq neg is_nan of_bits
near-misses = refl

miss-is-long : T (lt no_hit.t (distance_of overhead near_side)) → ⊥
unfolding eye_ray sqrt_of distance_of length_of length_squared sub_v div_scalar dot add sub mul div lt le eq neg is_nan of_bits
miss-is-long h = h

same-hit : {g h : Hit} → ◌≡◌ {A = Result Hit Refusal} (Ok g) (Ok h) → g ≡ h
same-hit e = cc

near-uncovered : Covers (solid_in cube_yard 0) overhead near_side → ⊥
near-uncovered c =
    let e : c.falls.own ≡ no_hit = same-hit (sym c.falls.returned ∙ near-misses) in
    miss-is-long (subst (λ (h : Hit). T (lt h.t (distance_of overhead near_side))) e c.falls.short)

built : build_of cube_yard (places_of (boxes_on cube_yard) (marks_on cube_yard)) (length (order_on cube_yard)) ≡ Ok 1
unfolding build_of built_after planted_of check_of first_met lengths_agree all_of known is_kind is_stripes few_stripes stripe_count striped names named_before deepest depths_to parts_free entry_ok parts_ok owners_ok good_starts measured simple_measured solid_measured cube_measured exceeds placing_ok within_box within_point within simple_of simple_or entry_of own_entry shape_of read shape_box solid_box unnamed nodes_for order_for layout root_of below_of leaves below_root tree_of plan_of plan_axis arranged split_by hull_of hull lt le eq neg of_bits places_of padded flat
built = refl

far-hidden : seen_on_rows cube_yard overhead far_side ≡ Ok Hidden
unfolding visible_of seen_after sees by_distance walk_rows walk_on scan tried nearer backward places_of padded flat list_to check_of first_met lengths_agree all_of known is_kind is_stripes few_stripes stripe_count striped names named_before deepest depths_to parts_free entry_ok parts_ok owners_ok good_starts measured simple_measured solid_measured cube_measured exceeds placing_ok within_box within_point within simple_of simple_or entry_of own_entry shape_of read shape_box solid_box shape_hit hit_of cube_hit unnamed nodes_for order_for layout root_of below_of leaves below_root tree_of plan_of plan_axis arranged split_by hull_of hull extend_box box_test overlap slab ordered eye_ray sqrt_of distance_of length_of length_squared sub_v div_v div_scalar dot min_v max_v min_component max_component min_of max_of add sub mul div lt le eq neg is_nan of_bits
far-hidden = refl

far-named : named_on_rows cube_yard overhead far_side ≡ Ok (Some 0)
unfolding occluder_of named_after hides hider_by walk_rows walk_on scan tried nearer backward places_of padded flat list_to check_of first_met lengths_agree all_of known is_kind is_stripes few_stripes stripe_count striped names named_before deepest depths_to parts_free entry_ok parts_ok owners_ok good_starts measured simple_measured solid_measured cube_measured exceeds placing_ok within_box within_point within simple_of simple_or entry_of own_entry shape_of read shape_box solid_box shape_hit hit_of cube_hit unnamed nodes_for order_for layout root_of below_of leaves below_root tree_of plan_of plan_axis arranged split_by hull_of hull extend_box box_test overlap slab ordered eye_ray sqrt_of distance_of length_of length_squared sub_v div_v div_scalar dot min_v max_v min_component max_component min_of max_of add sub mul div lt le eq neg is_nan of_bits
far-named = refl

near-visible : seen_on_rows cube_yard overhead near_side ≡ Ok Visible
unfolding visible_of seen_after sees by_distance walk_rows walk_on scan tried nearer backward places_of padded flat list_to check_of first_met lengths_agree all_of known is_kind is_stripes few_stripes stripe_count striped names named_before deepest depths_to parts_free entry_ok parts_ok owners_ok good_starts measured simple_measured solid_measured cube_measured exceeds placing_ok within_box within_point within simple_of simple_or entry_of own_entry shape_of read shape_box solid_box shape_hit hit_of cube_hit unnamed nodes_for order_for layout root_of below_of leaves below_root tree_of plan_of plan_axis arranged split_by hull_of hull extend_box box_test overlap slab ordered eye_ray sqrt_of distance_of length_of length_squared sub_v div_v div_scalar dot min_v max_v min_component max_component min_of max_of add sub mul div lt le eq neg is_nan of_bits
near-visible = refl

pub cube-covers : CubeCovers
cube-covers = record {
  same_rows = (boxes_on cube_yard, marks_on cube_yard, order_on cube_yard, rows_left cube_yard 1 built, far-named);
  covers = far-covered;
  premise = far-premise;
  hidden = eye-test cube_yard 1 built overhead far_side (Ok Hidden) far-hidden;
  uncovered = near-uncovered;
  visible = eye-test cube_yard 1 built overhead near_side (Ok Visible) near-visible;
}
