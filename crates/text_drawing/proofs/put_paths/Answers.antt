use Rattle.text_drawing.proofs.Texts.{paths-turn, paths_end}
use Rattle.text_drawing.proofs.Adding.{writing_start}
use Rattle.paths.proofs.Parts.{range-fits}
use Rattle.text_drawing.proofs.put_paths.Goals as goal

pub loop-i-init : goal.loop-i-init
loop-i-init c =
    writing_start c.requires

pub put_path-d-requires : goal.put_path-d-requires
put_path-d-requires c =
    let args = c.args in let w = range-fits args.path.now args.starts.now c.loop-i.i c.range_of-p.result c.range_of-p.ensures in (c.loop-i.invariant.fits, w.0, w.1)

pub loop-i-preserved : goal.loop-i-preserved
loop-i-preserved c =
    let args = c.args in paths-turn args.path.now args.starts.now _ c.loop-i-test.true c.range_of-p.ensures c.loop-i.invariant c.put_path-d.ensures c.put_path-d.auto.text

pub shape_of-text : goal.shape_of-text
shape_of-text c =
    c.loop-i.invariant.same

pub returns : goal.returns
returns c =
    let args = c.args in paths_end args.path.now args.starts.now _ c.loop-i-test.false c.loop-i.invariant
