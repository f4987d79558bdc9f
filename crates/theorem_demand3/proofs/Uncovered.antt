-- A point is hidden that no solid of the scene covers, and stands with the true distance. Computed.
use Prim.Native.Nat.{ℕ}
use mathlib.Core.Path.{◌≡◌, refl, sym, ap, subst, ◌∙◌}
use mathlib.Core.Logic.{inl, inr}
use mathlib.Core.List.{List, [], ◌∷◌}
use lib.ListN.{length}
use lib.Dec.{T}
use lib.Ieee.{Float, is_nan, lt, le, eq, neg, of_bits, add, sub, mul, div}
use Rattle.floats.specs.Arith.{zero_f}
use Rattle.floats.specs.Numbers.{within, min_of, max_of}
use Rattle.sqrt.specs.Root.{sqrt_of}
use Rattle.geometry.specs.Boxes.{extend_box, box_test, overlap, slab, ordered}
use Rattle.geometry.specs.Hits.{is_ok, min_hit}
use Rattle.geometry.specs.Rays.{position}
use Rattle.geometry.specs.Vectors.{min_v, max_v, distance_of, length_of, length_squared, sub_v, div_v, div_scalar, dot, min_component, max_component, add_v, mul_scalar}
use Rattle.rows.specs.Rows.{padded, flat}
use Rattle.rows.specs.Starts.{good_starts}
use Rattle.lists.specs.Lists.{Member, all_of, list_to}
use Rattle.limits.specs.Limits.{within_box, within_point}
use Rattle.solids.specs.Cubes.{cube_hit, cube_contains, outside}
use Rattle.solids.specs.Solids.{solid_box, hit_of, contains_of}
use Rattle.scene.specs.Entries.{closed_of, striped, stripe_count, simple_of, simple_or, entry_of, own_entry, op_of, cut_of, composite_of}
use Rattle.scene_shape.specs.Cuts.{step, both, from_first, tell_of, accepted_or, restarted, takes_away, cut_contains}
use Rattle.scene_shape.specs.Shapes.{Shape, shape_of, read, shape_box, shape_hit, shape_contains, cut_from}
use Rattle.check_measures.specs.Measures.{measured, simple_measured, solid_measured, cube_measured, exceeds}
use Rattle.check_measures.specs.Values.{known, is_kind, is_stripes, few_stripes}
use Rattle.check_parts.specs.Drawn.{drawn, unnamed}
use Rattle.check_parts.specs.Owners.{owners_ok}
use Rattle.check_parts.specs.Parts.{names, named_before, deepest, depths_to, parts_free, entry_ok, parts_ok, larger}
use Rattle.check_scene.specs.Checks.{check_of, first_met, lengths_agree}
use Rattle.check_scene.specs.Placings.{placing_ok}
use Rattle.tree_nodes.specs.Members.{hull}
use Rattle.tree_nodes.specs.Nodes.{places_of}
use Rattle.tree_nodes.specs.Trees.{layout, root_of, below_of, leaves, below_root}
use Rattle.tree_split.specs.Build.{nodes_for, order_for, tree_of, plan_of, plan_axis, arranged, split_by, hull_of}
use Rattle.tree_walk.specs.Walks.{walk_rows, walk_on, scan, tried, nearer, backward}
use Rattle.tree_sight.specs.Sights.{sees, by_distance, eye_ray}
use Rattle.tree_sight.specs.declared.Sight.TheVariants.{Visible, Hidden}
use Rattle.query_scene.specs.Queries.{build_of, built_after, planted_of, visible_of, seen_after}
use Rattle.draw.specs.Drawing.{solid_in}
use Rattle.theorem_demand3.specs.Demand3.{Covers, Draws, Answers}
use Rattle.theorem_demand3.specs.Witnesses.{overhead, open_bin, true_bin, bin_eye, ShortNotCovering, TrueBinClear}
use Rattle.theorem_demand3.proofs.Answers.{boxes_on, marks_on, order_on, seen_on_rows, eye-test}
use Rattle.std.specs.Prelude.{Err, Ok, Result}
use Rattle.geometry.specs.declared.hit.Hit.{Hit}
use Rattle.refusals.specs.declared.Refusal.{Refusal}

built-bin : build_of open_bin (places_of (boxes_on open_bin) (marks_on open_bin)) (length (order_on open_bin)) ≡ Ok 1
unfolding build_of built_after planted_of check_of first_met lengths_agree all_of known is_kind is_stripes few_stripes stripe_count striped names named_before deepest depths_to parts_free entry_ok parts_ok owners_ok good_starts measured simple_measured solid_measured cube_measured exceeds placing_ok within_box within_point within larger closed_of simple_of simple_or entry_of own_entry shape_of read op_of cut_of composite_of shape_box solid_box unnamed nodes_for order_for layout root_of below_of leaves below_root tree_of plan_of plan_axis arranged split_by hull_of hull extend_box min_v max_v min_of max_of is_nan lt le eq neg of_bits places_of padded flat
built-bin = refl

seen-bin : seen_on_rows open_bin bin_eye overhead ≡ Ok Hidden
unfolding visible_of seen_after sees by_distance walk_rows walk_on scan tried nearer backward places_of padded flat list_to check_of first_met lengths_agree all_of known is_kind is_stripes few_stripes stripe_count striped names named_before deepest depths_to parts_free entry_ok parts_ok owners_ok good_starts measured simple_measured solid_measured cube_measured exceeds placing_ok within_box within_point within larger closed_of simple_of simple_or entry_of own_entry shape_of read op_of cut_of composite_of shape_box solid_box extend_box shape_hit hit_of cube_hit shape_contains cut_from step both tell_of accepted_or restarted takes_away cut_contains position is_ok min_hit contains_of cube_contains outside unnamed nodes_for order_for layout root_of below_of leaves below_root tree_of plan_of plan_axis arranged split_by hull_of hull box_test overlap slab ordered eye_ray sqrt_of distance_of length_of length_squared sub_v div_v div_scalar dot min_v max_v min_component max_component min_of max_of add_v mul_scalar add sub mul div lt le eq neg is_nan of_bits
seen-bin = refl

cut-drawn : drawn open_bin.marks ≡ 2 ∷ []
unfolding unnamed named_before names
cut-drawn = refl

-- the cut's own box is entered later than its own returned distance
abbrev distance : Result Hit Refusal → Float
distance (Ok h) = h.t
distance (Err k) = zero_f

too-late : T (le (box_test (shape_box (solid_in open_bin 2)) (eye_ray bin_eye overhead)).tmin (distance (shape_hit (solid_in open_bin 2) (eye_ray bin_eye overhead)))) → ⊥
unfolding closed_of simple_of simple_or entry_of own_entry shape_of read op_of cut_of composite_of shape_box solid_box extend_box shape_hit hit_of cube_hit shape_contains cut_from step both tell_of accepted_or restarted takes_away cut_contains position is_ok min_hit contains_of cube_contains outside box_test overlap slab ordered eye_ray sqrt_of distance_of length_of length_squared sub_v div_v div_scalar dot min_v max_v min_component max_component min_of max_of add_v mul_scalar add sub mul div lt le eq neg is_nan of_bits
too-late h = h

cut-uncovered : Covers (solid_in open_bin 2) bin_eye overhead → ⊥
cut-uncovered c =
    too-late (subst (λ (x : Float). T (le (box_test (shape_box (solid_in open_bin 2)) (eye_ray bin_eye overhead)).tmin x)) (ap distance (sym c.falls.returned)) c.no_later)

bin-hidden : Answers open_bin bin_eye overhead (Ok Hidden)
bin-hidden = eye-test open_bin 1 built-bin bin_eye overhead (Ok Hidden) seen-bin

only-cut : (i : ℕ) → Member i (2 ∷ []) → i ≡ 2
only-cut i (inl e) = sym e
only-cut i (inr m) = absurd m

none-covers : (solid : Shape) → Draws open_bin solid → Covers solid bin_eye overhead → ⊥
none-covers solid d c =
    let e : d.0 ≡ 2 = only-cut d.0 (subst (λ (l : List ℕ). Member d.0 l) cut-drawn d.1) in
    cut-uncovered (subst (λ (x : Shape). Covers x bin_eye overhead) (sym d.2 ∙ ap (solid_in open_bin) e) c)

pub short-not-covering : ShortNotCovering
short-not-covering = record {
  hidden = bin-hidden;
  one_drawn = cut-drawn;
  uncovered = cut-uncovered;
  refuted = λ claim. let r = claim open_bin bin_eye overhead bin-hidden in none-covers r.0 r.1 r.2;
}

-- ---- with the true distance
built-true : build_of true_bin (places_of (boxes_on true_bin) (marks_on true_bin)) (length (order_on true_bin)) ≡ Ok 1
unfolding build_of built_after planted_of check_of first_met lengths_agree all_of known is_kind is_stripes few_stripes stripe_count striped names named_before deepest depths_to parts_free entry_ok parts_ok owners_ok good_starts measured simple_measured solid_measured cube_measured exceeds placing_ok within_box within_point within larger closed_of simple_of simple_or entry_of own_entry shape_of read op_of cut_of composite_of shape_box solid_box unnamed nodes_for order_for layout root_of below_of leaves below_root tree_of plan_of plan_axis arranged split_by hull_of hull extend_box min_v max_v min_of max_of is_nan lt le eq neg of_bits places_of padded flat
built-true = refl

seen_true : seen_on_rows true_bin bin_eye overhead ≡ Ok Visible
unfolding visible_of seen_after sees by_distance walk_rows walk_on scan tried nearer backward places_of padded flat list_to check_of first_met lengths_agree all_of known is_kind is_stripes few_stripes stripe_count striped names named_before deepest depths_to parts_free entry_ok parts_ok owners_ok good_starts measured simple_measured solid_measured cube_measured exceeds placing_ok within_box within_point within larger closed_of simple_of simple_or entry_of own_entry shape_of read op_of cut_of composite_of shape_box solid_box extend_box shape_hit hit_of cube_hit shape_contains cut_from step both from_first tell_of accepted_or restarted takes_away cut_contains position is_ok min_hit contains_of cube_contains outside unnamed nodes_for order_for layout root_of below_of leaves below_root tree_of plan_of plan_axis arranged split_by hull_of hull box_test overlap slab ordered eye_ray sqrt_of distance_of length_of length_squared sub_v div_v div_scalar dot min_v max_v min_component max_component min_of max_of add_v mul_scalar add sub mul div lt le eq neg is_nan of_bits
seen_true = refl

pub true-bin-clear : TrueBinClear
true-bin-clear = eye-test true_bin 1 built-true bin_eye overhead (Ok Visible) seen_true
