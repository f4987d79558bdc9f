-- A closed cylinder's lid hides what stands below it. Computed.
use mathlib.Core.Path.{◌≡◌, refl}
use lib.ListN.{length}
use lib.Ieee.{add, sub, mul, div, lt, le, eq, neg, is_nan, of_bits}
use Rattle.floats.specs.Arith.{one_f}
use Rattle.floats.specs.Numbers.{min_of, max_of, within}
use Rattle.sqrt.specs.Root.{sqrt_of}
use Rattle.geometry.specs.Boxes.{box_test, overlap, slab, ordered, extend_box}
use Rattle.geometry.specs.Hits.{hit_at, is_ok, min_hit}
use Rattle.geometry.specs.Rays.{position}
use Rattle.geometry.specs.Vectors.{distance_of, length_of, length_squared, sub_v, add_v, mul_scalar, div_v, div_scalar, dot, min_v, max_v, min_component, max_component}
use Rattle.rows.specs.Rows.{padded, flat}
use Rattle.rows.specs.Starts.{good_starts}
use Rattle.lists.specs.Lists.{all_of, list_to}
use Rattle.limits.specs.Limits.{within_box, within_point}
use Rattle.solids.specs.Cylinders.{cylinder_hit, cylinder_box, on_tube}
use Rattle.solids.specs.Roots.{roots_of, first_hit}
use Rattle.solids.specs.Solids.{solid_box, hit_of}
use Rattle.solids_lids.specs.Discs.{on_disc, disc_hit, lidded}
use Rattle.solids_lids.specs.Closed.{closed_cylinder_hit}
use Rattle.scene.specs.Entries.{closed_of, striped, stripe_count, simple_of, simple_or, entry_of, own_entry}
use Rattle.scene_shape.specs.Shapes.{shape_of, read, shape_box, shape_hit}
use Rattle.check_measures.specs.Measures.{measured, simple_measured, solid_measured, cylinder_measured, is_radius, exceeds}
use Rattle.check_measures.specs.Values.{known, is_kind, is_stripes, few_stripes}
use Rattle.check_parts.specs.Drawn.{unnamed}
use Rattle.check_parts.specs.Owners.{owners_ok}
use Rattle.check_parts.specs.Parts.{names, named_before, deepest, depths_to, parts_free, entry_ok, parts_ok}
use Rattle.check_scene.specs.Checks.{check_of, first_met, lengths_agree}
use Rattle.check_scene.specs.Placings.{placing_ok}
use Rattle.tree_nodes.specs.Members.{hull}
use Rattle.tree_nodes.specs.Nodes.{places_of}
use Rattle.tree_nodes.specs.Trees.{layout, root_of, below_of, leaves, below_root}
use Rattle.tree_split.specs.Build.{nodes_for, order_for, tree_of, plan_of, plan_axis, arranged, split_by, hull_of}
use Rattle.tree_walk.specs.Walks.{walk_rows, walk_on, scan, tried, nearer, backward}
use Rattle.tree_sight.specs.Sights.{eye_ray, sees, by_distance}
use Rattle.tree_sight.specs.declared.Sight.TheVariants.{Visible, Hidden}
use Rattle.query_scene.specs.Queries.{build_of, built_after, planted_of, visible_of, seen_after}
use Rattle.draw.specs.Drawing.{solid_in}
use Rattle.theorem_demand3.specs.Demand3.{Covers, Premise}
use Rattle.theorem_demand3.specs.Witnesses.{overhead, open_tube, closed_tube, below, LidHides}
use Rattle.theorem_demand3.proofs.Answers.{boxes_on, marks_on, order_on, seen_on_rows, eye-test}
use Rattle.std.specs.Prelude.{Ok}

lid-covers : Covers (solid_in closed_tube 0) overhead below
unfolding closed_of simple_of simple_or entry_of own_entry shape_of read shape_box solid_box cylinder_box shape_hit hit_of cylinder_hit on_tube roots_of first_hit closed_cylinder_hit disc_hit on_disc lidded min_hit is_ok position box_test overlap slab ordered eye_ray sqrt_of distance_of length_of length_squared sub_v add_v mul_scalar div_v div_scalar dot min_v max_v min_component max_component min_of max_of add sub mul div lt le eq neg is_nan of_bits
lid-covers = record { falls = record { own = hit_at one_f; returned = refl; short = tt }; passed = tt; no_later = tt }

lid-premise : Premise overhead below
unfolding eye_ray sqrt_of distance_of length_of length_squared sub_v div_scalar dot add sub mul div lt le eq neg is_nan of_bits
lid-premise = record { apart = tt; direction = record { x = tt; y = tt; z = tt } }

built-closed : build_of closed_tube (places_of (boxes_on closed_tube) (marks_on closed_tube)) (length (order_on closed_tube)) ≡ Ok 1
unfolding build_of built_after planted_of places_of padded flat list_to check_of first_met lengths_agree all_of known is_kind is_stripes few_stripes stripe_count striped names named_before deepest depths_to parts_free entry_ok parts_ok owners_ok good_starts measured simple_measured solid_measured cylinder_measured is_radius exceeds placing_ok within_box within_point within closed_of simple_of simple_or entry_of own_entry shape_of read shape_box solid_box cylinder_box unnamed nodes_for order_for layout root_of below_of leaves below_root tree_of plan_of plan_axis arranged split_by hull_of hull lt le eq neg of_bits
built-closed = refl

built-open : build_of open_tube (places_of (boxes_on open_tube) (marks_on open_tube)) (length (order_on open_tube)) ≡ Ok 1
unfolding build_of built_after planted_of places_of padded flat list_to check_of first_met lengths_agree all_of known is_kind is_stripes few_stripes stripe_count striped names named_before deepest depths_to parts_free entry_ok parts_ok owners_ok good_starts measured simple_measured solid_measured cylinder_measured is_radius exceeds placing_ok within_box within_point within closed_of simple_of simple_or entry_of own_entry shape_of read shape_box solid_box cylinder_box unnamed nodes_for order_for layout root_of below_of leaves below_root tree_of plan_of plan_axis arranged split_by hull_of hull lt le eq neg of_bits
built-open = refl

seen-closed : seen_on_rows closed_tube overhead below ≡ Ok Hidden
unfolding visible_of seen_after sees by_distance walk_rows walk_on scan tried nearer backward places_of padded flat list_to check_of first_met lengths_agree all_of known is_kind is_stripes few_stripes stripe_count striped names named_before deepest depths_to parts_free entry_ok parts_ok owners_ok good_starts measured simple_measured solid_measured cylinder_measured is_radius exceeds placing_ok within_box within_point within closed_of simple_of simple_or entry_of own_entry shape_of read shape_box solid_box cylinder_box shape_hit hit_of cylinder_hit on_tube roots_of first_hit closed_cylinder_hit disc_hit on_disc lidded min_hit is_ok position unnamed nodes_for order_for layout root_of below_of leaves below_root tree_of plan_of plan_axis arranged split_by hull_of hull extend_box box_test overlap slab ordered eye_ray sqrt_of distance_of length_of length_squared sub_v add_v mul_scalar div_v div_scalar dot min_v max_v min_component max_component min_of max_of add sub mul div lt le eq neg is_nan of_bits
seen-closed = refl

seen-open : seen_on_rows open_tube overhead below ≡ Ok Visible
unfolding visible_of seen_after sees by_distance walk_rows walk_on scan tried nearer backward places_of padded flat list_to check_of first_met lengths_agree all_of known is_kind is_stripes few_stripes stripe_count striped names named_before deepest depths_to parts_free entry_ok parts_ok owners_ok good_starts measured simple_measured solid_measured cylinder_measured is_radius exceeds placing_ok within_box within_point within closed_of simple_of simple_or entry_of own_entry shape_of read shape_box solid_box cylinder_box shape_hit hit_of cylinder_hit on_tube roots_of first_hit closed_cylinder_hit disc_hit on_disc lidded min_hit is_ok position unnamed nodes_for order_for layout root_of below_of leaves below_root tree_of plan_of plan_axis arranged split_by hull_of hull extend_box box_test overlap slab ordered eye_ray sqrt_of distance_of length_of length_squared sub_v add_v mul_scalar div_v div_scalar dot min_v max_v min_component max_component min_of max_of add sub mul div lt le eq neg is_nan of_bits
seen-open = refl

pub lid-hides : LidHides
lid-hides = record {
  covers = lid-covers;
  premise = lid-premise;
  hidden = eye-test closed_tube 1 built-closed overhead below (Ok Hidden) seen-closed;
  unlidded = eye-test open_tube 1 built-open overhead below (Ok Visible) seen-open;
}
