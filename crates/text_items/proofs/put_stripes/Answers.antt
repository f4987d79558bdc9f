use Rattle.text_items.proofs.Items.{stripes-none, stripes-some}
use borrow.Author.Rules.{rules}
use Rattle.text_items.proofs.put_stripes.Goals as goal

pub returns-then-n-eq0 : goal.returns-then-n-eq0
returns-then-n-eq0 c =
    stripes-none _ c.if-n-eq0.true c.requires

pub put_count-requires : goal.put_count-requires
put_count-requires c =
    c.requires

pub shape_of-text : goal.shape_of-text
shape_of-text c =
    c.put_count.auto.text

pub returns : goal.returns
returns c =
    stripes-some _ c.if-n-eq0.false c.put_count.ensures
