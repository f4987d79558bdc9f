use Rattle.scene.specs.Entries.{simple_or, entry_of}
use Rattle.scene.proofs.entry.entry_of.Goals as goal

pub returns-in-Some : goal.returns-in-Some
unfolding entry_of simple_or
returns-in-Some c =
    rw (← c.simple_of-s.ensures, c.in-Some.is)

pub returns-in-None : goal.returns-in-None
unfolding entry_of simple_or
returns-in-None c =
    rw (← c.simple_of-s.ensures, c.in-None.is) c.composite_of.ensures
