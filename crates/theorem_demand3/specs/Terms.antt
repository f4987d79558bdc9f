-- The terms of demand 3 that stand elsewhere, passed on to its page (Demand3.antt): what each is, and the file that defines it, mostly in a few lines.

-- a float's order and zero; vectors; a hit, its t and whether it is one
pub use Rattle.std.specs.Prelude.{Float}
pub use Rattle.std.specs.Float.Ieee.{eq, lt, le}
pub use Rattle.floats.specs.Arith.{zero_f}
pub use Rattle.geometry.specs.declared.vector.Vector.{Vector}
pub use Rattle.geometry.specs.declared.hit.Hit.{Hit}
-- the ray from the point along eye − point, normalised; the computed distance; no component of a vector is −0
pub use Rattle.tree_sight.specs.Sights.{eye_ray}
pub use Rattle.geometry.specs.Vectors.{distance_of}
pub use Rattle.theorem_hiding.specs.Covers.{NoMinusZero}
-- where a ray enters and leaves a box; neither tmax < tmin nor tmax <= 0
pub use Rattle.geometry.specs.Boxes.{box_test, passes}
-- a solid: an entry with its parts and theirs; its own box; the hit that it gives a ray with no tree and no other solid, Ok h, or number 11
pub use Rattle.scene_shape.specs.Shapes.{Shape, shape_box, shape_hit}
pub use Rattle.refusals.specs.declared.Refusal.{Refusal}
-- a scene: its five slices; the entries that nobody names; the solid at entry i; slice lengths agree (number 2)
-- the same solid: kinds, used marks, part indices aside, and used numbers agree throughout
pub use Rattle.scene.specs.Scenes.{Scene}
pub use Rattle.check_parts.specs.Drawn.{drawn}
pub use Rattle.draw.specs.Drawing.{solid_in}
pub use Rattle.check_scene.specs.Checks.{lengths_agree}
pub use Rattle.theorem_solids.specs.Same.{SameSolid}
-- the eye test's answers: yes, no, or a refusal, which is not answered; the same with the entry that the hit names
pub use Rattle.tree_sight.specs.declared.Sight.{Sight}
pub use Rattle.tree_sight.specs.declared.Sight.TheVariants.{Visible, Hidden}
pub use Rattle.tree_sight.specs.Sights.{Answered}
-- what the public build says by its `ensures`, answered with so many nodes; what the public visible and occluder answer on rows
pub use Rattle.query_scene.specs.Queries.{TreeBuilt, visible_of, occluder_of}
-- a view; the places that a draw is lent; paths by points and starts, and as a list; those with points
pub use Rattle.view.specs.declared.View.{View}
pub use Rattle.draw_render.specs.Render.{Places, stepping}
pub use Rattle.paths.specs.Paths.{Paths, paths_of, with_points}
-- the six steps of an answered draw (theorem_draws/specs/Draws.antt says what they do); the eye test that its step 4 puts
-- a point among the lines put to step 4; it is projected into the clip box
pub use Rattle.draw.specs.Drawing.{Drawing, seen_in}
pub use Rattle.theorem_draws.specs.Sheets.{Put}
pub use Rattle.theorem_filters.specs.Passing.{LeftAfterClipping}
-- step 4's test of a point; what an answer makes of a point that is projected to w: Ok (Some w) for yes, Ok None for no; a point projected by the view's matrix
pub use Rattle.draw_clip.specs.Clip.{clip_filter, by_sight}
pub use Rattle.matrix.specs.Matrices.{mul_position_w}
-- what the public simplify says by its `ensures`, answered with so many points and paths; the points of a slice
pub use Rattle.path_simplify.specs.Simplify.{simplify_call}
pub use Rattle.paths.specs.Ends.{Finished, all_points}
pub use Rattle.rows.specs.Points.{points}
-- the vertex at a place of a path
-- Chain step a bs z: step holds from a to the first of bs and from each to the next, and the last is z, or a itself is z if there are none
-- Near t p a b: each vertex between the places a and b has computed distance at most t from the segment that joins these
pub use Rattle.path_rdp.specs.Rdp.{vertex}
pub use Rattle.path_rdp.specs.Demand.{Chain, Near}
-- a list's members; two lists of one length, in order, whose pairs stand in a relation
pub use Rattle.lists.specs.Lists.{Member, Pairwise}
