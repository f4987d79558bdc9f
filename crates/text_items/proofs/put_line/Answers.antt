use mathlib.Core.Path.{◌∙◌}
use native.Mathlib.Omega.{arith}
use Rattle.text_items.proofs.Lines.{line-put, line-numbers}
use borrow.Author.Rules.{rules}
use Rattle.text_items.proofs.put_line.Goals as goal

pub overflow_mul-a : goal.overflow_mul-a
overflow_mul-a c =
    omega (arith, c.requires.1, c.requires.2, c.well_formed)

pub overflow_mul-e : goal.overflow_mul-e
overflow_mul-e c =
    omega (arith, c.requires.2, c.well_formed)

pub put_word-d-requires : goal.put_word-d-requires
put_word-d-requires c =
    let pre = c.requires in pre.0

pub offset_bounds-points-a : goal.offset_bounds-points-a
offset_bounds-points-a c =
    let good = c.well_formed in let pre = c.requires in omega (arith, pre.1, pre.2, good)

pub slice_bounds-put_numbers-count : goal.slice_bounds-put_numbers-count
slice_bounds-put_numbers-count c =
    let pre = c.requires in omega (arith, pre.1)

pub slice_bounds-put_numbers-start : goal.slice_bounds-put_numbers-start
slice_bounds-put_numbers-start c =
    let pre = c.requires in omega (arith, pre.1, pre.2)

pub slice_bounds-put_numbers-end : goal.slice_bounds-put_numbers-end
slice_bounds-put_numbers-end c =
    let pre = c.requires in omega (arith, pre.1, pre.2)

pub put_numbers-f-requires : goal.put_numbers-f-requires
put_numbers-f-requires c =
    c.put_word-d.ensures.fits

pub put_byte-requires : goal.put_byte-requires
put_byte-requires c =
    c.put_numbers-f.ensures.fits

pub shape_of-text : goal.shape_of-text
shape_of-text c =
    c.put_byte.auto.text ∙ c.put_numbers-f.auto.text ∙ c.put_word-d.auto.text

pub returns : goal.returns
returns c =
    let args = c.args in let pre = c.requires in line-put pre.0 _ _ (line-numbers args.points.now args.end pre.2 args.from pre.1) c.put_word-d.ensures c.put_word-d.auto.text c.put_numbers-f.ensures c.put_numbers-f.auto.text c.put_byte.ensures c.put_byte.auto.text
