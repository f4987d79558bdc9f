-- A row as wide as a value, read as that value and laid out again, is that row: what `Flat-view` asks. Assumes nothing.
use mathlib.Core.Path.{◌≡◌}
use mathlib.Core.List.{List}
use Prim.Native.Nat.{ℕ}
use lib.ListN.{length}
use lib.Ieee.{Float, nan}
use Rattle.rows.specs.Points.{point_of, point_row, box_of_row, box_row}
use Rattle.rows.specs.Entries.{numbers_of, numbers_row, triple_of, triple_row}
use Rattle.rows.proofs.Rows.{cells-all}

pub point-back : (r : List Float) → length r ≡ 3 → point_row (point_of r) ≡ r
point-back r h = cells-all r nan 3 h

pub box-back : (r : List Float) → length r ≡ 6 → box_row (box_of_row r) ≡ r
box-back r h = cells-all r nan 6 h

pub numbers-back : (r : List Float) → length r ≡ 16 → numbers_row (numbers_of r) ≡ r
numbers-back r h = cells-all r nan 16 h

pub triple-back : (r : List ℕ) → length r ≡ 3 → triple_row (triple_of r) ≡ r
triple-back r h = cells-all r 0 3 h
