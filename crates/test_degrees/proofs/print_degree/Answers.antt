use Rattle.degrees.proofs.Reading.{called-small, called-number}
use Rattle.degrees.proofs.Rule.{exact-entries}
use borrow.Author.Rules.{rules}
use Rattle.test_degrees.proofs.print_degree.Goals as goal

pub print_units-requires : goal.print_units-requires
print_units-requires g c =
    called-small _ _ c.cosine_units.ensures (exact-entries _).0.within

pub print_units-requires-2 : goal.print_units-requires-2
print_units-requires-2 g c =
    called-small _ _ c.sine_units.ensures (exact-entries _).1.within

pub print_pattern-requires : goal.print_pattern-requires
print_pattern-requires g c =
    called-number _ _ c.cosine.ensures (exact-entries _).0

pub print_pattern-requires-2 : goal.print_pattern-requires-2
print_pattern-requires-2 g c =
    called-number _ _ c.sine.ensures (exact-entries _).1
