use mathlib.Core.Path.{refl, ap}
use Rattle.paths.specs.Ends.{all_points}
use Rattle.paths.proofs.Parts.{range-fits, span-slice}
use Rattle.text_canonical.specs.Canonical.{line_text}
use Rattle.text_drawing.proofs.Adding.{writes_as}
use Rattle.text_items.proofs.Lines.{late-owner, other-owner, own_line}
use borrow.Author.Rules.{rules}
use Rattle.text_items.proofs.put_own_line.Goals as goal

pub returns-then-j-owners : goal.returns-then-j-owners
returns-then-j-owners c =
    let args = c.args in let pre = c.requires in late-owner args.i args.j (all_points args.points.now) args.starts.now args.owners.now c.if-j-owners.true pre.0

pub returns-then-index-i : goal.returns-then-index-i
returns-then-index-i c =
    let args = c.args in let pre = c.requires in other-owner args.i args.j (all_points args.points.now) args.starts.now args.owners.now c.index.ensures.0 refl c.if-index-i.true pre.0

pub range_of-p-requires : goal.range_of-p-requires
range_of-p-requires c =
    let pre = c.requires in pre.1

pub put_line-requires : goal.put_line-requires
put_line-requires c =
    let args = c.args in let pre = c.requires in let w = range-fits args.points.now args.starts.now args.j c.range_of-p.result c.range_of-p.ensures in (pre.0, w.0, w.1)

pub shape_of-text : goal.shape_of-text
shape_of-text c =
    c.put_line.auto.text

pub returns : goal.returns
returns c =
    let args = c.args in own_line args.i args.j (all_points args.points.now) args.starts.now args.owners.now c.if-j-owners.false c.index.ensures.0 refl c.if-index-i.false (writes_as (ap line_text (span-slice args.points.now args.starts.now args.j c.range_of-p.result c.range_of-p.ensures)) c.put_line.ensures)
