use Rattle.query_solid.proofs.Lone.{lone-hit, no-simple-hit, same-hit, never-refused}
use Rattle.query_solid.specs.Simples.{simple_hit}
use borrow.Author.Rules.{rules}
use Rattle.query_solid.proofs.simple.hit.Goals as goal

pub returns-in-None : goal.returns-in-None
unfolding simple_hit
returns-in-None c =
    no-simple-hit _ c.args.n.now (search rules) c.read_numbers.ensures c.simple_of-s.ensures _ c.in-None.is c.no_hit.ensures

pub returns-in-Ok : goal.returns-in-Ok
returns-in-Ok c =
    same-hit (lone-hit _ _ (search rules) c.read_numbers.ensures c.simple_of-s.ensures c.in-Some.is _ c.entry_hit-a.ensures) c.in-Ok.is

pub returns-in-Err : goal.returns-in-Err
returns-in-Err c =
    never-refused (lone-hit _ _ (search rules) c.read_numbers.ensures c.simple_of-s.ensures c.in-Some.is _ c.entry_hit-a.ensures) c.in-Err.is
