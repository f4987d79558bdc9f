-- No call asks anything of its arguments: what a caller must show before it calls, `Asked`, which the check makes of a contract's `requires`, holds of
-- them all. Left out are the four calls on the plotter's registers, which are lent a struct; they
-- have no `requires`.
use Rattle.std.specs.Prelude.{ℕ, List}
use contract.Lifetimes.{Lfts}
use borrow.Fn.Kinds.{ParamKind, In, Dens}

-- whatever its lifetimes and arguments are
abbrev pub Free : {n : ℕ} (ps : List (ParamKind n)) → In n ps → Type 0
Free {n} ps asked = (κs : Lfts n) (a : Dens κs ps) → asked κs a

pub record NothingAsked : Type 0 where
  pub larnt-sqrt : Free Rattle.host.proofs.larnt_sqrt.Kinds.ps Rattle.host.proofs.larnt_sqrt.Reads.Asked
  pub larnt-length : Free Rattle.host.proofs.larnt_length.Kinds.ps Rattle.host.proofs.larnt_length.Reads.Asked
  pub larnt-distance : Free Rattle.host.proofs.larnt_distance.Kinds.ps Rattle.host.proofs.larnt_distance.Reads.Asked
  pub larnt-box-test : Free Rattle.host.proofs.larnt_box_test.Kinds.ps Rattle.host.proofs.larnt_box_test.Reads.Asked
  pub larnt-project : Free Rattle.host.proofs.larnt_project.Kinds.ps Rattle.host.proofs.larnt_project.Reads.Asked
  pub larnt-inverse : Free Rattle.host.proofs.larnt_inverse.Kinds.ps Rattle.host.proofs.larnt_inverse.Reads.Asked
  pub larnt-solid-hit : Free Rattle.host.proofs.larnt_solid_hit.Kinds.ps Rattle.host.proofs.larnt_solid_hit.Reads.Asked
  pub larnt-solid-box : Free Rattle.host.proofs.larnt_solid_box.Kinds.ps Rattle.host.proofs.larnt_solid_box.Reads.Asked
  pub larnt-solid-contains : Free Rattle.host.proofs.larnt_solid_contains.Kinds.ps Rattle.host.proofs.larnt_solid_contains.Reads.Asked
  pub larnt-check : Free Rattle.host.proofs.larnt_check.Kinds.ps Rattle.host.proofs.larnt_check.Reads.Asked
  pub larnt-own-hit : Free Rattle.host.proofs.larnt_own_hit.Kinds.ps Rattle.host.proofs.larnt_own_hit.Reads.Asked
  pub larnt-own-contains : Free Rattle.host.proofs.larnt_own_contains.Kinds.ps Rattle.host.proofs.larnt_own_contains.Reads.Asked
  pub larnt-build : Free Rattle.host.proofs.trees.larnt_build.Kinds.ps Rattle.host.proofs.trees.larnt_build.Reads.Asked
  pub larnt-intersect : Free Rattle.host.proofs.trees.larnt_intersect.Kinds.ps Rattle.host.proofs.trees.larnt_intersect.Reads.Asked
  pub larnt-visible : Free Rattle.host.proofs.trees.larnt_visible.Kinds.ps Rattle.host.proofs.trees.larnt_visible.Reads.Asked
  pub larnt-occluder : Free Rattle.host.proofs.trees.larnt_occluder.Kinds.ps Rattle.host.proofs.trees.larnt_occluder.Reads.Asked
  pub larnt-covered : Free Rattle.host.proofs.covers.larnt_covered.Kinds.ps Rattle.host.proofs.covers.larnt_covered.Reads.Asked
  pub larnt-covered-all : Free Rattle.host.proofs.covers.larnt_covered_all.Kinds.ps Rattle.host.proofs.covers.larnt_covered_all.Reads.Asked
  pub larnt-merge : Free Rattle.host_merge.proofs.larnt_merge.Kinds.ps Rattle.host_merge.proofs.larnt_merge.Reads.Asked
  pub larnt-chop : Free Rattle.host.proofs.stages.larnt_chop.Kinds.ps Rattle.host.proofs.stages.larnt_chop.Reads.Asked
  pub larnt-outline : Free Rattle.host.proofs.stages.larnt_outline.Kinds.ps Rattle.host.proofs.stages.larnt_outline.Reads.Asked
  pub larnt-simplify : Free Rattle.host.proofs.stages.larnt_simplify.Kinds.ps Rattle.host.proofs.stages.larnt_simplify.Reads.Asked
  pub larnt-draw : Free Rattle.host.proofs.stages.larnt_draw.Kinds.ps Rattle.host.proofs.stages.larnt_draw.Reads.Asked
  pub larnt-draw-with : Free Rattle.host.proofs.stages.larnt_draw_with.Kinds.ps Rattle.host.proofs.stages.larnt_draw_with.Reads.Asked
  pub larnt-fates : Free Rattle.host_account.proofs.larnt_fates.Kinds.ps Rattle.host_account.proofs.larnt_fates.Reads.Asked
  pub larnt-entry-lines : Free Rattle.host_account.proofs.larnt_entry_lines.Kinds.ps Rattle.host_account.proofs.larnt_entry_lines.Reads.Asked
  pub larnt-draw-range : Free Rattle.host_parts.proofs.larnt_draw_range.Kinds.ps Rattle.host_parts.proofs.larnt_draw_range.Reads.Asked
  pub larnt-preview : Free Rattle.host_preview.proofs.larnt_preview.Kinds.ps Rattle.host_preview.proofs.larnt_preview.Reads.Asked
  pub larnt-write : Free Rattle.host_text.proofs.larnt_write.Kinds.ps Rattle.host_text.proofs.larnt_write.Reads.Asked
  pub larnt-canonical : Free Rattle.host_text.proofs.larnt_canonical.Kinds.ps Rattle.host_text.proofs.larnt_canonical.Reads.Asked
  pub larnt-pick : Free Rattle.host_plotter.proofs.pens.larnt_pick.Kinds.ps Rattle.host_plotter.proofs.pens.larnt_pick.Reads.Asked
  pub square_root : Free Rattle.sqrt.proofs.sqrt.Kinds.ps Rattle.sqrt.proofs.sqrt.Reads.Asked
  pub length : Free Rattle.geometry.proofs.vector.Vector.length.Kinds.ps Rattle.geometry.proofs.vector.Vector.length.Reads.Asked
  pub distance : Free Rattle.geometry.proofs.vector.Vector.distance.Kinds.ps Rattle.geometry.proofs.vector.Vector.distance.Reads.Asked
  pub box-test : Free Rattle.geometry.proofs.bounding_box.BBox.intersect.Kinds.ps Rattle.geometry.proofs.bounding_box.BBox.intersect.Reads.Asked
  pub projection : Free Rattle.matrix.proofs.Matrix.mul_position_w.Kinds.ps Rattle.matrix.proofs.Matrix.mul_position_w.Reads.Asked
  pub inverse : Free Rattle.matrix_inverse.proofs.inverse_with_determinant.Kinds.ps Rattle.matrix_inverse.proofs.inverse_with_determinant.Reads.Asked
  pub solid_hit : Free Rattle.solids.proofs.solid.Solid.intersect.Kinds.ps Rattle.solids.proofs.solid.Solid.intersect.Reads.Asked
  pub solid-box : Free Rattle.solids.proofs.solid.Solid.bounding_box.Kinds.ps Rattle.solids.proofs.solid.Solid.bounding_box.Reads.Asked
  pub triangle_test : Free Rattle.solids.proofs.triangle.intersect_vertices.Kinds.ps Rattle.solids.proofs.triangle.intersect_vertices.Reads.Asked
  pub solid_contains : Free Rattle.solids.proofs.solid.Solid.contains.Kinds.ps Rattle.solids.proofs.solid.Solid.contains.Reads.Asked
  pub own-hit : Free Rattle.query_solid.proofs.own_hit.Kinds.ps Rattle.query_solid.proofs.own_hit.Reads.Asked
  pub own-contains : Free Rattle.query_solid.proofs.own_contains.Kinds.ps Rattle.query_solid.proofs.own_contains.Reads.Asked
  pub build : Free Rattle.query_scene.proofs.build.Kinds.ps Rattle.query_scene.proofs.build.Reads.Asked
  pub nearest_hit : Free Rattle.query_scene.proofs.intersect.Kinds.ps Rattle.query_scene.proofs.intersect.Reads.Asked
  pub visible : Free Rattle.query_scene.proofs.visible.Kinds.ps Rattle.query_scene.proofs.visible.Reads.Asked
  pub occluder : Free Rattle.query_scene.proofs.occluder.Kinds.ps Rattle.query_scene.proofs.occluder.Reads.Asked
  pub covered : Free Rattle.query_cover.proofs.covered.Kinds.ps Rattle.query_cover.proofs.covered.Reads.Asked
  pub covered-all : Free Rattle.query_cover.proofs.covered_all.Kinds.ps Rattle.query_cover.proofs.covered_all.Reads.Asked
  pub merge : Free Rattle.query_merge.proofs.merge.Kinds.ps Rattle.query_merge.proofs.merge.Reads.Asked
  pub chop : Free Rattle.path_chop.proofs.chop_adaptive.Kinds.ps Rattle.path_chop.proofs.chop_adaptive.Reads.Asked
  pub outline : Free Rattle.draw_outlines.proofs.outline_alone.Kinds.ps Rattle.draw_outlines.proofs.outline_alone.Reads.Asked
  pub simplify : Free Rattle.path_simplify.proofs.simplify.Kinds.ps Rattle.path_simplify.proofs.simplify.Reads.Asked
  pub draw : Free Rattle.draw_coarse.proofs.draw.Kinds.ps Rattle.draw_coarse.proofs.draw.Reads.Asked
  pub draw-with : Free Rattle.draw.proofs.draw_with.Kinds.ps Rattle.draw.proofs.draw_with.Reads.Asked
  pub fates : Free Rattle.draw_fates.proofs.fates.Kinds.ps Rattle.draw_fates.proofs.fates.Reads.Asked
  pub entry-lines : Free Rattle.draw_entry_lines.proofs.entry_lines.Kinds.ps Rattle.draw_entry_lines.proofs.entry_lines.Reads.Asked
  pub draw-range : Free Rattle.draw.proofs.draw_range.Kinds.ps Rattle.draw.proofs.draw_range.Reads.Asked
  pub preview : Free Rattle.draw_preview.proofs.preview.Kinds.ps Rattle.draw_preview.proofs.preview.Reads.Asked
  pub read : Free Rattle.text_scene.proofs.read.Kinds.ps Rattle.text_scene.proofs.read.Reads.Asked
  pub write-drawing : Free Rattle.text_drawing.proofs.write_drawing.Kinds.ps Rattle.text_drawing.proofs.write_drawing.Reads.Asked
  pub write-refused : Free Rattle.text_drawing.proofs.write_refused.Kinds.ps Rattle.text_drawing.proofs.write_refused.Reads.Asked
  pub reply : Free Rattle.text_reply.proofs.reply.Kinds.ps Rattle.text_reply.proofs.reply.Reads.Asked
  pub reply_answer : Free Rattle.text_reply.proofs.answer.Kinds.ps Rattle.text_reply.proofs.answer.Reads.Asked
  pub write : Free Rattle.text_writer.proofs.write.Kinds.ps Rattle.text_writer.proofs.write.Reads.Asked
  pub restate : Free Rattle.text_restate.proofs.restate.Kinds.ps Rattle.text_restate.proofs.restate.Reads.Asked
  pub restate_answer : Free Rattle.text_restate.proofs.answer.Kinds.ps Rattle.text_restate.proofs.answer.Reads.Asked
  pub pick : Free Rattle.plotter_pens.proofs.pick.Kinds.ps Rattle.plotter_pens.proofs.pick.Reads.Asked
  pub pick-and-mark : Free Rattle.plotter_pens.proofs.pick_and_mark.Kinds.ps Rattle.plotter_pens.proofs.pick_and_mark.Reads.Asked
  pub next-path : Free Rattle.plotter_pens.proofs.next_path.Kinds.ps Rattle.plotter_pens.proofs.next_path.Reads.Asked
