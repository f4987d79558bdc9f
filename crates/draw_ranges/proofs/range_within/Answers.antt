use Rattle.draw_ranges.proofs.Ranges.{low-lesser, range-is}
use borrow.Author.Rules.{rules}
use Rattle.draw_ranges.proofs.range_within.Goals as goal

pub overflow_sub-n : goal.overflow_sub-n
overflow_sub-n c =
    low-lesser _ _ c.lesser-from.ensures

pub returns : goal.returns
returns c =
    range-is _ _ _ c.lesser-from.ensures c.lesser-some.ensures
