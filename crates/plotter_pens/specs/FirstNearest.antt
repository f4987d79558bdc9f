-- Document 02, of one pick: no undrawn path is nearer than the one picked, and none before it is as near; 15 is answered exactly if
-- nothing waits; and what is handed back is that path, from its start to its end.
use Rattle.std.specs.Prelude.{◌≡◌, Bool, true, false, cond, ◌&&◌, List, ℕ, ◌+◌, ◌-◌, ◌<◌, T, eqb, ltb, Float, length, get_or, None, Ok, Some}
use Rattle.std.specs.Float.Ieee.{lt, le}
use Rattle.geometry.specs.Vectors.{distance_squared}
use Rattle.geometry.specs.declared.vector.Vector.{Vector}
use Rattle.rows.specs.Starts.{end_of}
use Rattle.paths.specs.Ends.{places}
use Rattle.paths.specs.declared.Range.{Range}
use Rattle.plotter_pens.specs.Pens.{LentDrawing, first_point, lengths_good, both_start_well, numbers_finite, pick_of}
use Rattle.plotter_pens.specs.EachOnce.{path_count, non_empty_path}
use Rattle.plotter_pens.specs.declared.Choice.TheVariants.{Yard, Lines}

-- path i of both, counted as the marks are: undrawn and not empty, and how far its first point is
unfoldable pub waits_at : LentDrawing → LentDrawing → List ℕ → ℕ → Bool
waits_at yard lines marks i = eqb (get_or marks i 0) 0 && non_empty_path yard lines i

unfoldable pub path_distance : LentDrawing → LentDrawing → Vector → ℕ → Float
path_distance yard lines pen i =
    cond (ltb i (length yard.starts)) (distance_squared pen (first_point yard i)) (distance_squared pen (first_point lines (i - length yard.starts)))

-- path i waits; no path that waits is nearer, and none with an earlier mark is as near: so equal distances go to the yard, then to the
-- earlier path
pub record FirstOfNearest (yard lines : LentDrawing) (marks : List ℕ) (pen : Vector) (i : ℕ) : Type 0 where
  pub waiting : waits_at yard lines marks i ≡ true
  pub none_nearer : (j : ℕ) → j < path_count yard lines → waits_at yard lines marks j ≡ true → T (lt (path_distance yard lines pen j) (path_distance yard lines pen i)) → ⊥
  pub none_before : (j : ℕ) → j < i → waits_at yard lines marks j ≡ true → T (le (path_distance yard lines pen j) (path_distance yard lines pen i)) → ⊥

-- none of 2, 4 and 9 is met, and no path waits: each is drawn or empty
pub record NothingWaits (yard lines : LentDrawing) (marks : List ℕ) (pen : Vector) : Type 0 where
  pub lengths : lengths_good yard lines marks ≡ true
  pub starts : both_start_well yard lines ≡ true
  pub numbers : numbers_finite yard lines pen ≡ true
  pub none_waits : (j : ℕ) → j < path_count yard lines → waits_at yard lines marks j ≡ false

-- whatever is picked, on any input; and 15 exactly if nothing waits
pub record PicksFirstNearest (yard lines : LentDrawing) (marks : List ℕ) (pen : Vector) : Type 0 where
  pub of-yard : (k : ℕ) (r : Range) → pick_of yard lines marks pen ≡ Ok (Some (Yard k r)) → FirstOfNearest yard lines marks pen k
  pub of-lines : (k : ℕ) (r : Range) → pick_of yard lines marks pen ≡ Ok (Some (Lines k r)) → FirstOfNearest yard lines marks pen (length yard.starts + k)
  pub used_up : NothingWaits yard lines marks pen → pick_of yard lines marks pen ≡ Ok None
  pub only_then : pick_of yard lines marks pen ≡ Ok None → NothingWaits yard lines marks pen

-- all of path k of a drawing, and nothing else: from its start up to the next one, or to the end of the points
pub record WholePath (d : LentDrawing) (k : ℕ) (r : Range) : Type 0 where
  pub there : k < length d.starts
  pub from_start : r.from ≡ get_or d.starts k 0
  pub to_end : r.end ≡ end_of (places d.numbers) d.starts k

pub record PicksWholePath (yard lines : LentDrawing) (marks : List ℕ) (pen : Vector) : Type 0 where
  pub of-yard : (k : ℕ) (r : Range) → pick_of yard lines marks pen ≡ Ok (Some (Yard k r)) → WholePath yard k r
  pub of-lines : (k : ℕ) (r : Range) → pick_of yard lines marks pen ≡ Ok (Some (Lines k r)) → WholePath lines k r
