use Rattle.tree_nodes.specs.Nodes.{places_of}
use borrow.Author.Tests.{lt-ltb, le-ltb}
use Rattle.tree_nodes.proofs.places.Goals as goal

pub returns-then-b-a : goal.returns-then-b-a
unfolding places_of
returns-then-b-a c =
    simp (lt-ltb _ _ c.if-b-a.true)

pub returns : goal.returns
unfolding places_of
returns c =
    simp (le-ltb _ _ c.if-b-a.false)
