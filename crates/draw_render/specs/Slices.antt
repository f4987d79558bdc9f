-- The slices that a drawing is lent, and the list of its solids.
use Rattle.std.specs.Prelude.{List, ℕ, ◌≤◌, length, take, Float}
use Rattle.tree_nodes.specs.Nodes.{places_of}
use Rattle.lists.specs.Lists.{Each}
use Rattle.tree_split.specs.Build.{Fits}
use Rattle.paths.specs.Ends.{places}
use Rattle.draw_collect.specs.Slices.{room_of}
use Rattle.draw_render.specs.Render.{Places}

-- vectors of `wide` numbers and `many` starts, and the other slices
abbrev pub places_in : ℕ → ℕ → List Float → List ℕ → List Float → List ℕ → List ℕ → List Float → List ℕ → Places
places_in wide many chopped choppedStarts nodeBoxes nodeMarks order out begins = record {
  lines = room_of wide many chopped choppedStarts;
  nodes = places_of nodeBoxes nodeMarks;
  order = length order;
  points = places out;
  starts = length begins;
}

-- so many solids are listed, each with its box
pub record Listed (boxes : List Float) (listed : List ℕ) (count : ℕ) : Type 0 where
  pub upto : count ≤ length listed
  pub few : count ≤ 1024
  pub boxed : Each (Fits boxes) (take count listed)
