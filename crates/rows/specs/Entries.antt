-- What belongs to an entry of a scene, in rows: 16 numbers and 4 marks; and rows of 3 marks. A mark that a short row lacks reads as 0; no code reads one.
use Rattle.std.specs.Prelude.{List, [], ◌∷◌, ℕ, get_or, Float}
use Rattle.std.specs.Float.{nan}
use Rattle.rows.specs.declared.Numbers.{Numbers}
use Rattle.rows.specs.declared.Marks.{Marks}
use Rattle.rows.specs.declared.Triple.{Triple}

abbrev pub numbers_of : List Float → Numbers
numbers_of r = record {
  x00 = get_or r 0 nan;
  x01 = get_or r 1 nan;
  x02 = get_or r 2 nan;
  x03 = get_or r 3 nan;
  x10 = get_or r 4 nan;
  x11 = get_or r 5 nan;
  x12 = get_or r 6 nan;
  x13 = get_or r 7 nan;
  x20 = get_or r 8 nan;
  x21 = get_or r 9 nan;
  x22 = get_or r 10 nan;
  x23 = get_or r 11 nan;
  x30 = get_or r 12 nan;
  x31 = get_or r 13 nan;
  x32 = get_or r 14 nan;
  x33 = get_or r 15 nan;
}

abbrev pub numbers_row : Numbers → List Float
numbers_row m =
    m.x00 ∷ m.x01 ∷ m.x02 ∷ m.x03 ∷ m.x10 ∷ m.x11 ∷ m.x12 ∷ m.x13
    ∷ m.x20 ∷ m.x21 ∷ m.x22 ∷ m.x23 ∷ m.x30 ∷ m.x31 ∷ m.x32 ∷ m.x33 ∷ []

abbrev pub marks_of : List ℕ → Marks
marks_of r = record { kind = get_or r 0 0; detail = get_or r 1 0; first = get_or r 2 0; second = get_or r 3 0 }

abbrev pub triple_of : List ℕ → Triple
triple_of r = record { a = get_or r 0 0; b = get_or r 1 0; c = get_or r 2 0 }

abbrev pub triple_row : Triple → List ℕ
triple_row t = t.a ∷ t.b ∷ t.c ∷ []
