use mathlib.Core.Path.{ap₂}
use lib.Ieee.{lt, nan}
use Rattle.floats.specs.Arith.{zero_f}
use Rattle.tree_sort.specs.Sort.{by_key}
use Rattle.tree_sort.proofs.Sorting.{get_d_any}
use borrow.Author.Rules.{rules}
use Rattle.tree_sort.proofs.precedes.Goals as goal

pub returns : goal.returns
unfolding by_key
returns c =
    let args = c.args in let a = args in
    ap₂ lt (get_d_any a.keys.now a.a nan zero_f (search rules)) (get_d_any a.keys.now a.b nan zero_f (search rules))
