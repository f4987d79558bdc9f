-- Document 01's yard of one triangle, drawn alone and behind a cube. Computed.
use mathlib.Core.Path.{◌≡◌, refl, sym, subst, ◌∙◌}
use mathlib.Core.Logic.{inl}
use mathlib.Core.List.{List, [], ◌∷◌}
use lib.Ieee.{add, sub, mul, div, lt, le, eq, neg, is_nan, of_bits, of_int}
use Rattle.floats.specs.Arith.{zero_f, half_f, one_f, two_f, millionth}
use Rattle.floats.specs.Numbers.{within, min_of, max_of}
use Rattle.sqrt.specs.Root.{sqrt_of}
use Rattle.geometry.specs.Boxes.{box_test, overlap, slab, ordered, contains, in_range, extend_box}
use Rattle.geometry.specs.Hits.{hit_at}
use Rattle.geometry.specs.Vectors.{vec, distance_of, distance_squared, segment_distance, foot_distance, length_of, length_squared, sub_v, div_v, div_scalar, dot, min_v, max_v, min_component, max_component, add_v, mul_scalar, cross}
use Rattle.geometry.specs.declared.vector.Vector.{Vector}
use Rattle.matrix.specs.Matrices.{identity_m, scale_m, translate_m, row_mul, mul_m, mul_position, mul_position_w}
use Rattle.rows.specs.Rows.{padded, flat}
use Rattle.rows.specs.Starts.{good_starts}
use Rattle.lists.specs.Lists.{Member, all_of, list_to}
use Rattle.limits.specs.Limits.{within_box, within_point, finite_four, finite_matrix}
use Rattle.solids.specs.Cubes.{cube_hit}
use Rattle.solids.specs.Solids.{hit_of, solid_box}
use Rattle.solids.specs.Triangles.{triangle_hit, triangle_box}
use Rattle.scene.specs.Entries.{striped, stripe_count, simple_of, simple_or, entry_of, own_entry}
use Rattle.scene_shape.specs.Shapes.{shape_of, read, shape_box, shape_hit}
use Rattle.check_measures.specs.Measures.{measured, simple_measured, solid_measured, triangle_measured, exceeds, cube_measured}
use Rattle.check_measures.specs.Values.{known, is_kind, is_stripes, few_stripes}
use Rattle.check_parts.specs.Drawn.{drawn, unnamed}
use Rattle.check_parts.specs.Owners.{owners_ok}
use Rattle.check_parts.specs.Parts.{names, named_before, deepest, depths_to, parts_free, entry_ok, parts_ok}
use Rattle.check_scene.specs.Checks.{check_of, first_met, lengths_agree}
use Rattle.check_scene.specs.Placings.{placing_ok}
use Rattle.tree_nodes.specs.Members.{hull}
use Rattle.tree_nodes.specs.Trees.{layout, root_of, below_of, leaves, below_root}
use Rattle.tree_split.specs.Build.{nodes_for, order_for, tree_of, plan_of, plan_axis, arranged, split_by, hull_of}
use Rattle.tree_walk.specs.Walks.{visit, scan, tried, nearer, backward}
use Rattle.tree_sight.specs.Sights.{sees, by_distance, eye_ray}
use Rattle.query_scene.specs.Queries.{planted_of}
use Rattle.paths.specs.Paths.{Paths, no_paths, push, push_all, front, paths_of, opened, closed_starts, closed, one_path, each, stage}
use Rattle.paths.specs.Judged.{points_ok}
use Rattle.paths.proofs.Adding.{same_answer}
use Rattle.path_filter.specs.Filter.{filtered_from, path_filter, stepped}
use Rattle.path_chop.specs.Chop.{path_chop, chop_from, subdivide, push_or, stops, off_sheet, both_below, both_beyond, spot_of, screen_of}
use Rattle.path_rdp.specs.Rdp.{threshold_ok, simplified, rdp, thinned, halved, farthest_of, farthest_from, farther}
use Rattle.view.specs.Views.{view_ok, extent_ok, step_ok, viewport, args_of}
use Rattle.draw_lines.specs.Cubes.{paths_striped, faces, stripe, stripes_from, stripe_at, sides, across}
use Rattle.draw_lines.specs.Lines.{own_paths, triangle_paths}
use Rattle.draw_solids.specs.Lines.{solid_paths}
use Rattle.draw_lines.specs.Pushing.{add_paths}
use Rattle.draw_clip.specs.Clip.{clip_filter, by_sight}
use Rattle.draw_collect.specs.Collect.{collected_all, collected, chopped_lines, handed}
use Rattle.draw_shown.specs.Shown.{or_outline}
use Rattle.draw_collect.specs.Lined.{read_lined, lined_of, bare, detail_at, own_lines}
use Rattle.draw_render.specs.Render.{rendered, rendered_part, staged, seen_lines, simplified_lines, on_tree, nearest_of, stepping, mapped}
use Rattle.draw.specs.Draw.{lined_in, draw_with, drawn_after, render}
use Rattle.draw.specs.Drawing.{solid_in, Drawing}
use Rattle.draw.proofs.Answered.{drawn-so}
use Rattle.theorem_filters.specs.Passing.{LeftAfterClipping}
use Rattle.theorem_draws.specs.Sheets.{Put}
use Rattle.theorem_demand3.specs.Demand3.{Covers, Premise}
use Rattle.theorem_demand3.specs.Witnesses.{at_origin, sample_yard, sample_view, stepping_view, sample_places, sample_drawing, coarse_drawing, sample_behind, wider_places, SampleDraws}
use Rattle.std.specs.Prelude.{Ok}

drawn-there : draw_with millionth sample_yard sample_view sample_places ≡ Ok sample_drawing
unfolding draw_with threshold_ok drawn_after render rendered rendered_part staged seen_lines on_tree nearest_of stepping mapped collected_all collected or_outline read_lined lined_of bare detail_at own_lines solid_paths own_paths
    triangle_paths add_paths clip_filter by_sight filtered_from path_filter stepped push push_all front paths_of opened closed_starts closed one_path each stage view_ok extent_ok step_ok viewport args_of
    planted_of sees by_distance visit scan tried nearer backward padded flat check_of first_met lengths_agree all_of known is_kind is_stripes few_stripes stripe_count striped names named_before deepest depths_to parts_free entry_ok
    parts_ok owners_ok good_starts measured simple_measured solid_measured triangle_measured exceeds placing_ok within_box within_point within list_to finite_four finite_matrix simple_of simple_or entry_of
    own_entry shape_of read shape_box shape_hit hit_of triangle_hit triangle_box solid_box unnamed nodes_for order_for layout root_of below_of leaves below_root tree_of plan_of plan_axis arranged split_by
    hull_of hull box_test overlap slab ordered contains in_range extend_box identity_m scale_m translate_m row_mul mul_m mul_position mul_position_w eye_ray sqrt_of distance_of length_of length_squared sub_v
    div_v div_scalar dot min_v max_v min_component max_component min_of max_of add_v mul_scalar cross add sub mul div lt le eq neg is_nan of_bits
drawn-there = refl

stepped-there : draw_with millionth sample_yard stepping_view sample_places ≡ Ok sample_drawing
unfolding draw_with threshold_ok drawn_after render rendered rendered_part staged seen_lines on_tree nearest_of stepping mapped collected_all collected or_outline read_lined lined_of bare detail_at own_lines solid_paths own_paths
    triangle_paths add_paths clip_filter by_sight filtered_from path_filter stepped push push_all front paths_of opened closed_starts closed one_path each stage view_ok extent_ok step_ok viewport args_of
    planted_of sees by_distance visit scan tried nearer backward padded flat check_of first_met lengths_agree all_of known is_kind is_stripes few_stripes stripe_count striped names named_before deepest depths_to parts_free entry_ok
    parts_ok owners_ok good_starts measured simple_measured solid_measured triangle_measured exceeds placing_ok within_box within_point within list_to finite_four finite_matrix simple_of simple_or entry_of
    own_entry shape_of read shape_box shape_hit hit_of triangle_hit triangle_box solid_box unnamed nodes_for order_for layout root_of below_of leaves below_root tree_of plan_of plan_axis arranged split_by
    hull_of hull box_test overlap slab ordered contains in_range extend_box identity_m scale_m translate_m row_mul mul_m mul_position mul_position_w eye_ray sqrt_of distance_of length_of length_squared sub_v
    div_v div_scalar dot min_v max_v min_component max_component min_of max_of add_v mul_scalar cross add sub mul div lt le eq neg is_nan of_bits
    chopped_lines simplified_lines handed points_ok path_chop chop_from subdivide push_or stops off_sheet both_below both_beyond spot_of screen_of distance_squared simplified rdp thinned halved farthest_of farthest_from farther segment_distance foot_distance
stepped-there = refl

coarse-there : draw_with one_f sample_yard stepping_view sample_places ≡ Ok coarse_drawing
unfolding draw_with threshold_ok drawn_after render rendered rendered_part staged seen_lines on_tree nearest_of stepping mapped collected_all collected or_outline read_lined lined_of bare detail_at own_lines solid_paths own_paths
    triangle_paths add_paths clip_filter by_sight filtered_from path_filter stepped push push_all front paths_of opened closed_starts closed one_path each stage view_ok extent_ok step_ok viewport args_of
    planted_of sees by_distance visit scan tried nearer backward padded flat check_of first_met lengths_agree all_of known is_kind is_stripes few_stripes stripe_count striped names named_before deepest depths_to parts_free entry_ok
    parts_ok owners_ok good_starts measured simple_measured solid_measured triangle_measured exceeds placing_ok within_box within_point within list_to finite_four finite_matrix simple_of simple_or entry_of
    own_entry shape_of read shape_box shape_hit hit_of triangle_hit triangle_box solid_box unnamed nodes_for order_for layout root_of below_of leaves below_root tree_of plan_of plan_axis arranged split_by
    hull_of hull box_test overlap slab ordered contains in_range extend_box identity_m scale_m translate_m row_mul mul_m mul_position mul_position_w eye_ray sqrt_of distance_of length_of length_squared sub_v
    div_v div_scalar dot min_v max_v min_component max_component min_of max_of add_v mul_scalar cross add sub mul div lt le eq neg is_nan of_bits
    chopped_lines simplified_lines handed points_ok path_chop chop_from subdivide push_or stops off_sheet both_below both_beyond spot_of screen_of distance_squared simplified rdp thinned halved farthest_of farthest_from farther segment_distance foot_distance
coarse-there = refl

nothing-there : draw_with millionth sample_behind sample_view wider_places ≡ Ok no_paths
unfolding draw_with threshold_ok drawn_after render rendered rendered_part staged seen_lines on_tree nearest_of stepping mapped collected_all collected or_outline read_lined lined_of bare detail_at own_lines solid_paths own_paths
    triangle_paths add_paths clip_filter by_sight filtered_from path_filter stepped push push_all front paths_of opened closed_starts closed one_path each stage view_ok extent_ok step_ok viewport args_of
    planted_of sees by_distance visit scan tried nearer backward padded flat check_of first_met lengths_agree all_of known is_kind is_stripes few_stripes stripe_count striped names named_before deepest depths_to parts_free entry_ok
    parts_ok owners_ok good_starts measured simple_measured solid_measured triangle_measured exceeds placing_ok within_box within_point within list_to finite_four finite_matrix simple_of simple_or entry_of
    own_entry shape_of read shape_box shape_hit hit_of triangle_hit triangle_box solid_box unnamed nodes_for order_for layout root_of below_of leaves below_root tree_of plan_of plan_axis arranged split_by
    hull_of hull box_test overlap slab ordered contains in_range extend_box identity_m scale_m translate_m row_mul mul_m mul_position mul_position_w eye_ray sqrt_of distance_of length_of length_squared sub_v
    div_v div_scalar dot min_v max_v min_component max_component min_of max_of add_v mul_scalar cross add sub mul div lt le eq neg is_nan of_bits cube_measured cube_hit paths_striped faces stripe
    stripes_from stripe_at sides across of_int
nothing-there = refl

empty-sheet : Drawing millionth sample_behind sample_view wider_places no_paths
empty-sheet = drawn-so millionth sample_behind sample_view wider_places no_paths nothing-there

-- the first line put to step 4 is the triangle's
abbrev round : List Vector
round = at_origin ∷ vec half_f zero_f zero_f ∷ vec zero_f half_f zero_f ∷ at_origin ∷ []

collected-lines : (p : Paths) × (collected_all (args_of sample_view) wider_places.lines (lined_in sample_behind) (drawn sample_behind.marks) no_paths ≡ Ok p) × Member round (paths_of p.vertices p.starts)
unfolding collected_all collected or_outline read_lined lined_of bare detail_at own_lines solid_paths own_paths triangle_paths add_paths push push_all front paths_of opened closed_starts closed one_path each stage args_of all_of known is_kind is_stripes few_stripes stripe_count striped names named_before deepest depths_to parts_free entry_ok parts_ok owners_ok good_starts measured simple_measured solid_measured cube_measured simple_of simple_or entry_of own_entry shape_of read unnamed padded flat list_to identity_m add_v sub_v mul_scalar paths_striped faces stripe stripes_from stripe_at sides across of_int add sub mul div lt le eq neg is_nan of_bits
collected-lines = (_, refl, inl refl)

corner-put : Put empty-sheet at_origin
unfolding stepping lt of_bits
corner-put =
    let e : empty-sheet.collected ≡ collected-lines.0 = same_answer (sym empty-sheet.collects ∙ collected-lines.1) in
    let l : empty-sheet.lines ≡ empty-sheet.collected = sym (same_answer empty-sheet.chops) in
    record { path = round; among = subst (λ (p : Paths). Member round (paths_of p.vertices p.starts)) (sym (l ∙ e)) collected-lines.2; on = inl refl }

corner-left : LeftAfterClipping sample_view.matrix at_origin
unfolding contains in_range mul_position_w mul_position div_scalar identity_m add sub mul div lt le eq neg is_nan of_bits
corner-left = tt

corner-covered : Covers (solid_in sample_behind 1) sample_view.eye at_origin
unfolding simple_of simple_or entry_of own_entry shape_of read shape_box solid_box shape_hit hit_of cube_hit box_test overlap slab ordered eye_ray sqrt_of distance_of length_of length_squared sub_v div_v div_scalar dot min_v max_v min_component max_component min_of max_of add sub mul div lt le eq neg is_nan of_bits
corner-covered = record { falls = record { own = hit_at two_f; returned = refl; short = tt }; passed = tt; no_later = tt }

corner-premise : Premise sample_view.eye at_origin
unfolding eye_ray sqrt_of distance_of length_of length_squared sub_v div_scalar dot add sub mul div lt le eq neg is_nan of_bits
corner-premise = record { apart = tt; direction = record { x = tt; y = tt; z = tt } }

pub sample-draws : SampleDraws
sample-draws = record {
  sheet = drawn-so millionth sample_yard sample_view sample_places sample_drawing drawn-there;
  stepped = drawn-so millionth sample_yard stepping_view sample_places sample_drawing stepped-there;
  coarse = drawn-so one_f sample_yard stepping_view sample_places coarse_drawing coarse-there;
  empty = empty-sheet;
  put = corner-put;
  left = corner-left;
  covers = corner-covered;
  premise = corner-premise;
}
