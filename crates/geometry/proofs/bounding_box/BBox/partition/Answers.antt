use Rattle.geometry.specs.Boxes.{partition_of}
use Rattle.geometry.proofs.bounding_box.BBox.partition.Goals as goal

pub returns-in-Some-X : goal.returns-in-Some-X
unfolding partition_of
returns-in-Some-X c =
    let a = c.in-Some-X in rw (a.is, (rw a.is at a.field-0-is))

pub returns-in-Some-Y : goal.returns-in-Some-Y
unfolding partition_of
returns-in-Some-Y c =
    let a = c.in-Some-Y in rw (a.is, (rw a.is at a.field-0-is))

pub returns-in-Some-Z : goal.returns-in-Some-Z
unfolding partition_of
returns-in-Some-Z c =
    let a = c.in-Some-Z in rw (a.is, (rw a.is at a.field-0-is))

pub returns-in-None : goal.returns-in-None
unfolding partition_of
returns-in-None c =
    rw c.in-None.is
