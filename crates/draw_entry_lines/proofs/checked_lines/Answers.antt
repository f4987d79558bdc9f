use Rattle.std.proofs.lemmas.Result.{err_from_is_err_and}
use Prim.Native.Nat.{◌*◌, ◌/◌}
use lib.ListN.{length, take, drop}
use native.Mathlib.Omega.{arith}
use Rattle.check_parts.specs.Drawn.{drawn}
use Rattle.scene.specs.Scenes.{scene_of}
use Rattle.draw_collect.specs.Slices.{room_of}
use Rattle.draw_ranges.proofs.Ranges.{range-low}
use Rattle.draw_entry_lines.proofs.Lines.{scene-refused, view-refused, listed-upto, range-lines}
use Rattle.draw_entry_lines.proofs.checked_lines.Goals as goal

pub returns-then-not-is_ok : goal.returns-then-not-is_ok
returns-then-not-is_ok c =
    let args = c.args in view-refused (scene_of args.numbers.now args.marks.now args.points.now args.starts.now args.owners.now) _ c.check.ensures.verdict args.view (room_of (length args.work.now / 24 * 3) (length args.work_starts.now / 8) args.out.now args.begins.now) c.in_ok-n.was (take args.many (drop args.first (drawn args.marks.now))) c.is_ok.ensures c.if-not-is_ok.true _ _

pub listed_lines-requires : goal.listed_lines-requires
listed_lines-requires c =
    let args = c.args in (omega (arith, range-low args.first args.many _ c.range_within-range.ensures, listed-upto (scene_of args.numbers.now args.marks.now args.points.now args.starts.now args.owners.now) _ c.check.ensures.verdict args.view (room_of (length args.work.now / 24 * 3) (length args.work_starts.now / 8) args.out.now args.begins.now) c.in_ok-n.was 1024 c.check.new.drawn c.check.ensures.drawn_are), omega (arith, c.check.auto.drawn))

pub returns-in_err-n : goal.returns-in_err-n
returns-in_err-n c =
    let p = err_from_is_err_and c.from_residual.result c.from_residual.ensures.1 in rw (p.1, p.2) (let args = c.args in scene-refused (scene_of args.numbers.now args.marks.now args.points.now args.starts.now args.owners.now) _ c.check.ensures.verdict args.view (room_of (length args.work.now / 24 * 3) (length args.work_starts.now / 8) args.out.now args.begins.now) (take args.many (drop args.first (drawn args.marks.now))) c.in_err-n.was _ _)

pub returns : goal.returns
returns c =
    let args = c.args in range-lines (scene_of args.numbers.now args.marks.now args.points.now args.starts.now args.owners.now) _ c.check.ensures.verdict args.view (room_of (length args.work.now / 24 * 3) (length args.work_starts.now / 8) args.out.now args.begins.now) c.in_ok-n.was 1024 c.check.new.drawn c.check.ensures.drawn_are args.first args.many 16384 c.check.new.inverses c.check.ensures.inverses_are c.is_ok.ensures c.if-not-is_ok.false c.range_within-range.ensures _ _ c.listed_lines.ensures
