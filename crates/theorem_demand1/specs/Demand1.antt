-- Demand 1 of the request on one page: "Every buffer lent for nodes, points, path starts or work ends as document 01 says, for any floats and marks: results
-- then zeros, or zeros throughout after a numbered refusal. Scene and view stay unchanged, and each call ends."
-- `demand-1` (proofs/Demand1.antt) is a value of the record below.
--
-- A field of a call is the call's `statement`, which the check makes of its code and its contract: total correctness of the code itself, for whatever its types
-- allow. It says that the call
--   ends, with some answer;
--   reaches nothing undefined: no place outside what it is lent, no sum that wraps, no zero divisor;
--   writes nothing but what it is lent by `&mut`: of what is behind a `&`, as scene, rows and view are, it owns a share to read by and no more;
--   leaves what its `ensures` says of the answer and of each slice: that these equal a definition, on every input. The `ensures` stands in the crate's
--   src/; docs/CLAIMS.md lists the definitions, call by call.
-- The fields before them say in document 01's words what those definitions come to. M is any carrier that the logic is read over.
use Rattle.theorem_demand1.specs.Asked.{NothingAsked}
use Rattle.theorem_results.specs.Slices.{PathsEnd, BuildEnds, CheckEnds, MergeEnds, CoveredAllEnds, WriteEnds, WorkEnds}
use Rattle.theorem_results.specs.Slices.{OwnHitEnds, NearestHitEnds, OccluderEnds, SightEnds, ContainsEnds}
use Rattle.theorem_results.specs.Numbers.{NeverZero, Distinct, CheckRefuses, BuildRefuses, MergeRefuses, CoveredAllRefuses}
use Rattle.theorem_results.specs.Numbers.{ChopRefuses, SimplifyRefuses, VisibleRefuses, DrawRefuses}

pub record Demand1 (M : Type 1) : Type 2 where
  -- "for any floats and marks": no call asks anything of its arguments (specs/Asked.antt)
  pub nothing_asked : NothingAsked
  -- "results then zeros, or zeros throughout after a numbered refusal", by what is lent (theorem_results/specs/Slices.antt)
  pub paths_end : PathsEnd
  pub build_ends : BuildEnds
  pub check_ends : CheckEnds
  pub merge_ends : MergeEnds
  pub covered_all_ends : CoveredAllEnds
  pub write_ends : WriteEnds
  pub own_hit_ends : OwnHitEnds
  pub nearest_hit_ends : NearestHitEnds
  pub occluder_ends : OccluderEnds
  pub sight_ends : SightEnds
  pub contains_ends : ContainsEnds
  -- "work buffers hold zeros"
  pub work_ends : WorkEnds
  -- "each number is returned on its condition and on no other" (theorem_results/specs/Numbers.antt)
  pub never_zero : NeverZero
  pub distinct : Distinct
  pub check_refuses : CheckRefuses
  pub build_refuses : BuildRefuses
  pub merge_refuses : MergeRefuses
  pub covered_all_refuses : CoveredAllRefuses
  pub chop_refuses : ChopRefuses
  pub simplify_refuses : SimplifyRefuses
  pub visible_refuses : VisibleRefuses
  pub draw_refuses : DrawRefuses
  -- the calls that a host program makes: numbers, boxes, matrices, solids
  pub larnt-sqrt : Rattle.host.proofs.larnt_sqrt.Statement.statement M
  pub larnt-length : Rattle.host.proofs.larnt_length.Statement.statement M
  pub larnt-distance : Rattle.host.proofs.larnt_distance.Statement.statement M
  pub larnt-box-test : Rattle.host.proofs.larnt_box_test.Statement.statement M
  pub larnt-project : Rattle.host.proofs.larnt_project.Statement.statement M
  pub larnt-inverse : Rattle.host.proofs.larnt_inverse.Statement.statement M
  pub larnt-solid-hit : Rattle.host.proofs.larnt_solid_hit.Statement.statement M
  pub larnt-solid-box : Rattle.host.proofs.larnt_solid_box.Statement.statement M
  pub larnt-solid-contains : Rattle.host.proofs.larnt_solid_contains.Statement.statement M
  -- of a scene: its check, its tree, hits and eye tests
  pub larnt-check : Rattle.host.proofs.larnt_check.Statement.statement M
  pub larnt-own-hit : Rattle.host.proofs.larnt_own_hit.Statement.statement M
  pub larnt-own-contains : Rattle.host.proofs.larnt_own_contains.Statement.statement M
  pub larnt-build : Rattle.host.proofs.trees.larnt_build.Statement.statement M
  pub larnt-intersect : Rattle.host.proofs.trees.larnt_intersect.Statement.statement M
  pub larnt-visible : Rattle.host.proofs.trees.larnt_visible.Statement.statement M
  pub larnt-occluder : Rattle.host.proofs.trees.larnt_occluder.Statement.statement M
  pub larnt-covered : Rattle.host.proofs.covers.larnt_covered.Statement.statement M
  pub larnt-covered-all : Rattle.host.proofs.covers.larnt_covered_all.Statement.statement M
  pub larnt-merge : Rattle.host_merge.proofs.larnt_merge.Statement.statement M
  -- of paths: chop, outline, simplification, draw and preview
  pub larnt-chop : Rattle.host.proofs.stages.larnt_chop.Statement.statement M
  pub larnt-outline : Rattle.host.proofs.stages.larnt_outline.Statement.statement M
  pub larnt-simplify : Rattle.host.proofs.stages.larnt_simplify.Statement.statement M
  pub larnt-draw : Rattle.host.proofs.stages.larnt_draw.Statement.statement M
  pub larnt-draw-with : Rattle.host.proofs.stages.larnt_draw_with.Statement.statement M
  pub larnt-fates : Rattle.host_account.proofs.larnt_fates.Statement.statement M
  pub larnt-entry-lines : Rattle.host_account.proofs.larnt_entry_lines.Statement.statement M
  pub larnt-draw-range : Rattle.host_parts.proofs.larnt_draw_range.Statement.statement M
  pub larnt-preview : Rattle.host_preview.proofs.larnt_preview.Statement.statement M
  -- of text, and of the plotter
  pub larnt-write : Rattle.host_text.proofs.larnt_write.Statement.statement M
  pub larnt-canonical : Rattle.host_text.proofs.larnt_canonical.Statement.statement M
  pub larnt-pick : Rattle.host_plotter.proofs.pens.larnt_pick.Statement.statement M
  pub larnt-plotter-write : Rattle.host_plotter.proofs.registers.larnt_plotter_write.Statement.statement M
  pub larnt-plotter-step : Rattle.host_plotter.proofs.registers.larnt_plotter_step.Statement.statement M
  -- the same calls in Rattle, on which those rest: values
  pub square_root : Rattle.sqrt.proofs.sqrt.Statement.statement M
  pub length : Rattle.geometry.proofs.vector.Vector.length.Statement.statement M
  pub distance : Rattle.geometry.proofs.vector.Vector.distance.Statement.statement M
  pub box-test : Rattle.geometry.proofs.bounding_box.BBox.intersect.Statement.statement M
  pub projection : Rattle.matrix.proofs.Matrix.mul_position_w.Statement.statement M
  pub inverse : Rattle.matrix_inverse.proofs.inverse_with_determinant.Statement.statement M
  pub solid_hit : Rattle.solids.proofs.solid.Solid.intersect.Statement.statement M
  pub solid-box : Rattle.solids.proofs.solid.Solid.bounding_box.Statement.statement M
  pub triangle_test : Rattle.solids.proofs.triangle.intersect_vertices.Statement.statement M
  pub solid_contains : Rattle.solids.proofs.solid.Solid.contains.Statement.statement M
  -- scenes
  pub own-hit : Rattle.query_solid.proofs.own_hit.Statement.statement M
  pub own-contains : Rattle.query_solid.proofs.own_contains.Statement.statement M
  pub build : Rattle.query_scene.proofs.build.Statement.statement M
  pub nearest_hit : Rattle.query_scene.proofs.intersect.Statement.statement M
  pub visible : Rattle.query_scene.proofs.visible.Statement.statement M
  pub occluder : Rattle.query_scene.proofs.occluder.Statement.statement M
  pub covered : Rattle.query_cover.proofs.covered.Statement.statement M
  pub covered-all : Rattle.query_cover.proofs.covered_all.Statement.statement M
  pub merge : Rattle.query_merge.proofs.merge.Statement.statement M
  -- paths
  pub chop : Rattle.path_chop.proofs.chop_adaptive.Statement.statement M
  pub outline : Rattle.draw_outlines.proofs.outline_alone.Statement.statement M
  pub simplify : Rattle.path_simplify.proofs.simplify.Statement.statement M
  pub draw : Rattle.draw_coarse.proofs.draw.Statement.statement M
  pub draw-with : Rattle.draw.proofs.draw_with.Statement.statement M
  pub fates : Rattle.draw_fates.proofs.fates.Statement.statement M
  pub entry-lines : Rattle.draw_entry_lines.proofs.entry_lines.Statement.statement M
  pub draw-range : Rattle.draw.proofs.draw_range.Statement.statement M
  pub preview : Rattle.draw_preview.proofs.preview.Statement.statement M
  -- text
  pub read : Rattle.text_scene.proofs.read.Statement.statement M
  pub write-drawing : Rattle.text_drawing.proofs.write_drawing.Statement.statement M
  pub write-refused : Rattle.text_drawing.proofs.write_refused.Statement.statement M
  pub reply : Rattle.text_reply.proofs.reply.Statement.statement M
  pub reply_answer : Rattle.text_reply.proofs.answer.Statement.statement M
  pub write : Rattle.text_writer.proofs.write.Statement.statement M
  pub restate : Rattle.text_restate.proofs.restate.Statement.statement M
  pub restate_answer : Rattle.text_restate.proofs.answer.Statement.statement M
  -- the plotter
  pub pick : Rattle.plotter_pens.proofs.pick.Statement.statement M
  pub pick-and-mark : Rattle.plotter_pens.proofs.pick_and_mark.Statement.statement M
  pub next-path : Rattle.plotter_pens.proofs.next_path.Statement.statement M
  pub register_write : Rattle.plotter_registers.proofs.write.Statement.statement M
  pub register_step : Rattle.plotter_registers.proofs.step.Statement.statement M
