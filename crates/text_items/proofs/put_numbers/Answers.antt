use lib.ListN.{length, drop}
use lib.Ieee.{nan}
use Prim.Native.Nat.{◌-◌}
use Rattle.rows.specs.Rows.{flat}
use Rattle.text_canonical.specs.Canonical.{hex_text}
use Rattle.text_drawing.proofs.Adding.{Writing, writing_start}
use Rattle.text_items.proofs.Items.{items-turn, items-end}
use borrow.Author.Rules.{rules}
use Rattle.text_items.proofs.put_numbers.Goals as goal

pub loop-i-init : goal.loop-i-init
loop-i-init c =
    writing_start c.requires

pub put_bits-d-requires : goal.put_bits-d-requires
put_bits-d-requires c =
    c.loop-i.invariant.fits

pub loop-i-preserved : goal.loop-i-preserved
loop-i-preserved c =
    let args = c.args in items-turn hex_text nan args.xs.now _ c.loop-i-test.true c.loop-i.invariant c.put_bits-d.ensures c.put_bits-d.auto.text

pub shape_of-text : goal.shape_of-text
shape_of-text c =
    c.loop-i.invariant.same

pub returns : goal.returns
returns c =
    let args = c.args in items-end hex_text nan args.xs.now _ c.loop-i-test.false c.loop-i.invariant
