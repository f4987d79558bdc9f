use Rattle.refusals.specs.Refusals.{number_of}
use Rattle.refusals.proofs.Refusal.number.Goals as goal

pub returns-in-Lengths : goal.returns-in-Lengths
unfolding number_of
returns-in-Lengths c =
    rw c.in-Lengths.is

pub returns-in-Values : goal.returns-in-Values
unfolding number_of
returns-in-Values c =
    rw c.in-Values.is

pub returns-in-Parts : goal.returns-in-Parts
unfolding number_of
returns-in-Parts c =
    rw c.in-Parts.is

pub returns-in-Measures : goal.returns-in-Measures
unfolding number_of
returns-in-Measures c =
    rw c.in-Measures.is

pub returns-in-Placing : goal.returns-in-Placing
unfolding number_of
returns-in-Placing c =
    rw c.in-Placing.is

pub returns-in-Extent : goal.returns-in-Extent
unfolding number_of
returns-in-Extent c =
    rw c.in-Extent.is

pub returns-in-View : goal.returns-in-View
unfolding number_of
returns-in-View c =
    rw c.in-View.is

pub returns-in-Point : goal.returns-in-Point
unfolding number_of
returns-in-Point c =
    rw c.in-Point.is

pub returns-in-Restarts : goal.returns-in-Restarts
unfolding number_of
returns-in-Restarts c =
    rw c.in-Restarts.is

pub returns-in-Waiting : goal.returns-in-Waiting
unfolding number_of
returns-in-Waiting c =
    rw c.in-Waiting.is

pub returns-in-Room : goal.returns-in-Room
unfolding number_of
returns-in-Room c =
    rw c.in-Room.is

pub returns-in-Stripes : goal.returns-in-Stripes
unfolding number_of
returns-in-Stripes c =
    rw c.in-Stripes.is
