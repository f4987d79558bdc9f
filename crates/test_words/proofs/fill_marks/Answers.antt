use Rattle.test_words.proofs.Filling.{Filled, filled-start, filled-turn, filled-end}
use Rattle.test_words.specs.Words.{word_at}
use mathlib.Core.Path.{refl, ap}
use lib.ListN.{length}
use native.Mathlib.Omega.{arith}
use native.Mathlib.Nat.{mod-lt}
use Prim.Native.Nat.{ℕ, ◌+◌, ◌-◌, ◌%◌}
use borrow.Author.Rules.{rules}
use Rattle.test_words.proofs.fill_marks.Goals as goal

pub loop-j-init : goal.loop-j-init
loop-j-init c =
    filled-start _ _ _ _ refl

pub nonzero_rem-j : goal.nonzero_rem-j
nonzero_rem-j c =
    let pre = c.requires in omega (arith, pre)

pub overflow_add-k : goal.overflow_add-k
overflow_add-k c =
    let pre = c.requires in omega (arith, pre, mod-lt c.loop-j.j pre.1.0)

pub word-requires : goal.word-requires
word-requires c =
    let pre = c.requires in omega (arith, pre, mod-lt c.loop-j.j pre.1.0)

pub bounds-xs-j : goal.bounds-xs-j
bounds-xs-j c =
    let pre = c.requires in omega (arith, pre.0, c.loop-j.invariant.whole, c.loop-j-test.true)

pub loop-j-preserved : goal.loop-j-preserved
loop-j-preserved c =
    let pre = c.requires in filled-turn _ _ _ _ _ pre.0 c.loop-j.invariant c.loop-j-test.true (ap (λ (w : ℕ). w % 0x1_0000_0000) c.word.ensures)

pub shape_of-xs : goal.shape_of-xs
shape_of-xs c =
    c.loop-j.invariant.whole

pub returns : goal.returns
returns c =
    filled-end _ _ _ _ _ c.loop-j.invariant c.loop-j-test.false
