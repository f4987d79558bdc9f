use lib.ListN.{length}
use Prim.Native.Nat.{◌-◌}
use Rattle.rows.specs.Rows.{flat}
use Rattle.paths.specs.Ends.{all_points}
use Rattle.draw_lines.proofs.Owning.{ownLeft}
use Rattle.text_canonical.specs.Canonical.{line_text}
use Rattle.text_drawing.proofs.Adding.{Writing, writing_start}
use Rattle.text_items.proofs.Lines.{lines-turn, lines_end}
use borrow.Author.Rules.{rules}
use Rattle.text_items.proofs.put_lines.Goals as goal

pub loop-j-init : goal.loop-j-init
loop-j-init c =
    let pre = c.requires in writing_start (pre)

pub put_own_line-d-requires : goal.put_own_line-d-requires
put_own_line-d-requires c =
    (c.loop-j.invariant.fits, c.loop-j-test.true)

pub loop-j-preserved : goal.loop-j-preserved
loop-j-preserved c =
    let args = c.args in lines-turn args.i (all_points args.points.now) args.starts.now args.owners.now c.loop-j.j c.loop-j-test.true c.loop-j.invariant c.put_own_line-d.ensures c.put_own_line-d.auto.text

pub shape_of-text : goal.shape_of-text
shape_of-text c =
    c.loop-j.invariant.same

pub returns : goal.returns
returns c =
    let args = c.args in lines_end args.i (all_points args.points.now) args.starts.now args.owners.now c.loop-j.j c.loop-j-test.false c.loop-j.invariant
