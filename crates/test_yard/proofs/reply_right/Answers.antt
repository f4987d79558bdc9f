use mathlib.Core.Path.{sym}
use lib.Seq.{length-take-le}
use Rattle.test_yard.proofs.Texts.{reply-right-is}
use Rattle.test_yard.proofs.reply_right.Goals as goal

pub slice_bounds-same_word-end : goal.slice_bounds-same_word-end
slice_bounds-same_word-end c =
    sym (length-take-le _ _ c.answer-n.ensures.part.0)

pub returns : goal.returns
returns c =
    let args = c.args in reply-right-is args.text.now args.expected.now _ c.answer-n.ensures.whole c.same_word.ensures
