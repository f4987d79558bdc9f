use Rattle.query_solid.proofs.Lone.{lone-contains, no-simple-inside}
use Rattle.query_solid.specs.Simples.{simple_contains}
use mathlib.Core.Path.{refl}
use borrow.Author.Rules.{rules}
use Rattle.query_solid.proofs.simple.contains.Goals as goal

pub returns-in-None : goal.returns-in-None
unfolding simple_contains
returns-in-None c =
    no-simple-inside _ c.args.n.now (search rules) c.read_numbers.ensures c.simple_of-s.ensures _ _ c.in-None.is refl

pub returns-in-Some : goal.returns-in-Some
returns-in-Some c =
    lone-contains _ _ (search rules) c.read_numbers.ensures c.simple_of-s.ensures c.in-Some.is _ _ c.entry_contains.ensures
