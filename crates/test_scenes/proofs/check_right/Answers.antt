use Rattle.test_scenes.proofs.CheckAnswers.{is-so, as_row, as-drawn, number-wrong, count-wrong, box-wrong, inverse-wrong, check-right-is}
use Rattle.query_solid.specs.Answers.{drawn_count}
use mathlib.Core.Path.{ap, ◌∙◌}
use native.Mathlib.Omega.{arith}
use Rattle.test_scenes.proofs.check_right.Goals as goal
use Rattle.refusals.specs.Refusals.{answer_number}

pub returns-then-not-is : goal.returns-then-not-is
returns-then-not-is c =
    number-wrong _ _ (is-so _ 216 c.is.ensures (c.wide.ensures ∙ c.answer_number.ensures ∙ ap answer_number c.check-v.ensures.verdict)) c.if-not-is.true

pub returns-then-not-is-2 : goal.returns-then-not-is-2
returns-then-not-is-2 c =
    count-wrong _ _ (is-so _ 216 c.is.ensures (c.wide.ensures ∙ c.answer_number.ensures ∙ ap answer_number c.check-v.ensures.verdict)) c.if-not-is.false (is-so _ 217 c.is-2.ensures (c.drawn_count.ensures ∙ ap drawn_count c.check-v.ensures.verdict)) c.if-not-is-2.true

pub returns-then-not-all_same : goal.returns-then-not-all_same
returns-then-not-all_same c =
    box-wrong _ _ (is-so _ 216 c.is.ensures (c.wide.ensures ∙ c.answer_number.ensures ∙ ap answer_number c.check-v.ensures.verdict)) c.if-not-is.false (is-so _ 217 c.is-2.ensures (c.drawn_count.ensures ∙ ap drawn_count c.check-v.ensures.verdict)) c.if-not-is-2.false (as_row c.check-v.ensures.verdict _ c.word.ensures 6 218 _ (omega arith) c.check-v.ensures.boxes_are c.all_same.ensures) c.if-not-all_same.true

pub returns-then-not-all_same-2 : goal.returns-then-not-all_same-2
returns-then-not-all_same-2 c =
    inverse-wrong _ _ (is-so _ 216 c.is.ensures (c.wide.ensures ∙ c.answer_number.ensures ∙ ap answer_number c.check-v.ensures.verdict)) c.if-not-is.false (is-so _ 217 c.is-2.ensures (c.drawn_count.ensures ∙ ap drawn_count c.check-v.ensures.verdict)) c.if-not-is-2.false (as_row c.check-v.ensures.verdict _ c.word.ensures 6 218 _ (omega arith) c.check-v.ensures.boxes_are c.all_same.ensures) c.if-not-all_same.false (as_row c.check-v.ensures.verdict _ c.word.ensures 16 224 _ (omega arith) c.check-v.ensures.inverses_are c.all_same-2.ensures) c.if-not-all_same-2.true

pub is-requires-3 : goal.is-requires-3
is-requires-3 c =
    let pre = c.requires in omega (arith, pre)

pub returns : goal.returns
returns c =
    check-right-is _ _ (is-so _ 216 c.is.ensures (c.wide.ensures ∙ c.answer_number.ensures ∙ ap answer_number c.check-v.ensures.verdict)) c.if-not-is.false (is-so _ 217 c.is-2.ensures (c.drawn_count.ensures ∙ ap drawn_count c.check-v.ensures.verdict)) c.if-not-is-2.false (as_row c.check-v.ensures.verdict _ c.word.ensures 6 218 _ (omega arith) c.check-v.ensures.boxes_are c.all_same.ensures) c.if-not-all_same.false (as_row c.check-v.ensures.verdict _ c.word.ensures 16 224 _ (omega arith) c.check-v.ensures.inverses_are c.all_same-2.ensures) c.if-not-all_same-2.false (as-drawn c.check-v.ensures.verdict _ c.word.ensures _ (omega arith) c.check-v.ensures.drawn_are (is-so _ 245 c.is-3.ensures c.wide-2.ensures))
