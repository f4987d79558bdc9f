-- Document 01's scene, as a value.
use Rattle.std.specs.Prelude.{ℕ, ◌/◌, List, length, Float}

-- document 01's scene: its five slices
pub record Scene : Type 0 where
  pub numbers : List Float
  pub marks : List ℕ
  pub points : List Float
  pub starts : List ℕ
  pub owners : List ℕ

abbrev pub scene_of : List Float → List ℕ → List Float → List ℕ → List ℕ → Scene
scene_of a b c d e = record { numbers = a; marks = b; points = c; starts = d; owners = e }

-- how many entries there are
abbrev pub entries : List ℕ → ℕ
entries marks = length marks / 4

abbrev pub entries_of : Scene → ℕ
entries_of s = entries s.marks
