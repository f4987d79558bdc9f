-- A spot as a row of six numbers: how the end of a piece waits while its first half is chopped.
use Rattle.std.specs.Prelude.{List, Float}
use Rattle.geometry.specs.Boxes.{box_of}
use Rattle.rows.specs.Points.{box_of_row, box_row}
use Rattle.path_chop.specs.declared.Spot.{Spot}

abbrev pub spot_in : List Float → Spot
spot_in r = record { at = (box_of_row r).min; seen = (box_of_row r).max }

abbrev pub spot_row : Spot → List Float
spot_row p = box_row (box_of p.at p.seen)
