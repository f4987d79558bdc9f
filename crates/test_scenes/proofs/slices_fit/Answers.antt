use Rattle.test_scenes.proofs.Slices.{slices-fit-is}
use Rattle.test_scenes.specs.Records.{slices_fit}
use borrow.Author.Tests.{le-leb, lt-leb}
use Rattle.test_scenes.proofs.slices_fit.Goals as goal

pub returns-then-word-gt16416 : goal.returns-then-word-gt16416
unfolding slices_fit
returns-then-word-gt16416 c =
    simp (← c.word.ensures, lt-leb _ _ c.if-word-gt16416.true)

pub returns-then-word-gt4104 : goal.returns-then-word-gt4104
unfolding slices_fit
returns-then-word-gt4104 c =
    simp (← c.word.ensures, le-leb _ _ c.if-word-gt16416.false, ← c.word-2.ensures, lt-leb _ _ c.if-word-gt4104.true)

pub returns-then-word-gt32 : goal.returns-then-word-gt32
unfolding slices_fit
returns-then-word-gt32 c =
    simp (← c.word.ensures, le-leb _ _ c.if-word-gt16416.false, ← c.word-2.ensures, le-leb _ _ c.if-word-gt4104.false, ← c.word-3.ensures, lt-leb _ _ c.if-word-gt32.true)

pub returns-then-word-gt8 : goal.returns-then-word-gt8
unfolding slices_fit
returns-then-word-gt8 c =
    simp (← c.word.ensures, le-leb _ _ c.if-word-gt16416.false, ← c.word-2.ensures, le-leb _ _ c.if-word-gt4104.false, ← c.word-3.ensures, le-leb _ _ c.if-word-gt32.false, ← c.word-4.ensures, lt-leb _ _ c.if-word-gt8.true)

pub returns : goal.returns
returns c =
    slices-fit-is _ c.word.ensures c.if-word-gt16416.false c.word-2.ensures c.if-word-gt4104.false c.word-3.ensures c.if-word-gt32.false c.word-4.ensures c.if-word-gt8.false c.word-5.ensures
