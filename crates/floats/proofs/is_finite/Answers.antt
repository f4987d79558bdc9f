use Rattle.floats.proofs.Tests.{finite-test}
use Rattle.floats.proofs.is_finite.Goals as goal

pub returns : goal.returns
returns c =
    finite-test c.args.x
