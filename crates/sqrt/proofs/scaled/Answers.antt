use Rattle.floats.proofs.Patterns.{equals_itself}
use Rattle.sqrt.proofs.scaled.Goals as goal

pub float_to_bits-b : goal.float_to_bits-b
float_to_bits-b c =
    equals_itself c.args.t c.if-t.true
