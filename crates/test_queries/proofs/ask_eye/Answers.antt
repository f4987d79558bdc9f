use Rattle.test_queries.proofs.Counts.{sums}
use Rattle.test_queries.specs.Questions.{eye_asked}
use native.Mathlib.Omega.{arith}
use Rattle.test_queries.proofs.ask_eye.Goals as goal

pub returns : goal.returns
unfolding eye_asked
returns c =
    (sums (sums (sums c.ask_visible-v.ensures.0 c.ask_visible-w.ensures.0) c.ask_occluder-x.ensures.0) c.ask_occluder-y.ensures.0, omega (arith, c.ask_visible-v.ensures.1, c.ask_visible-w.ensures.1, c.ask_occluder-x.ensures.1, c.ask_occluder-y.ensures.1))
