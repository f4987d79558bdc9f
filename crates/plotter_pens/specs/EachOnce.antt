-- Document 02, of picks one after the other: "From zeros, repeated picking yields every non-empty path exactly once."
use Rattle.std.specs.Prelude.{◌≡◌, Bool, true, cond, List, [], ◌∷◌, ℕ, ◌+◌, ◌-◌, ◌<◌, ◌≤◌, eqb, ltb, length, replicate, None, Ok, Some}
use Rattle.geometry.specs.declared.vector.Vector.{Vector}
use Rattle.paths.specs.declared.Range.{Range}
use Rattle.plotter_pens.specs.Pens.{LentDrawing, has_points, lengths_good, both_start_well, paths_finite, point_finite, pick_of, marks_after}
use Rattle.plotter_pens.specs.declared.Choice.TheVariants.{Yard, Lines}

-- how many paths there are; they are counted as their marks are, the yard's first
abbrev pub path_count : LentDrawing → LentDrawing → ℕ
path_count yard lines = length yard.starts + length lines.starts

-- path i of both has points
unfoldable pub non_empty_path : LentDrawing → LentDrawing → ℕ → Bool
non_empty_path yard lines i = cond (ltb i (length yard.starts)) (has_points yard i) (has_points lines (i - length yard.starts))

-- Pick after pick from time t on, each on the marks that the one before left, until one answers 15; and the paths picked.
-- At time t the pen is at `pens t`, anywhere. No pick meets 2, 4 or 9: there is no case for it.
pub data Tour (yard lines : LentDrawing) (pens : ℕ → Vector) : ℕ → List ℕ → List ℕ → Type 0 where
  used_up : {t : ℕ} {marks : List ℕ} → pick_of yard lines marks (pens t) ≡ Ok None → Tour yard lines pens t marks []
  of-yard : {t k : ℕ} {r : Range} {marks is : List ℕ} → pick_of yard lines marks (pens t) ≡ Ok (Some (Yard k r))
      → Tour yard lines pens (t + 1) (marks_after (length yard.starts) marks (Ok (Some (Yard k r)))) is → Tour yard lines pens t marks (k ∷ is)
  of-lines : {t k : ℕ} {r : Range} {marks is : List ℕ} → pick_of yard lines marks (pens t) ≡ Ok (Some (Lines k r))
      → Tour yard lines pens (t + 1) (marks_after (length yard.starts) marks (Ok (Some (Lines k r)))) is → Tour yard lines pens t marks ((length yard.starts + k) ∷ is)

-- how often i stands in a list
unfoldable pub times_in : ℕ → List ℕ → ℕ
times_in i [] = 0
times_in i (x ∷ xs) = cond (eqb x i) (times_in i xs + 1) (times_in i xs)

-- the tour from zeros comes to its end, and has every path with points once, and no other
pub record OnceEach (yard lines : LentDrawing) (pens : ℕ → Vector) : Type 0 where
  pub paths : List ℕ
  pub tour : Tour yard lines pens 0 (replicate (path_count yard lines) 0) paths
  pub once : (i : ℕ) → i < path_count yard lines → times_in i paths ≡ cond (non_empty_path yard lines i) 1 0
  pub no_other : (i : ℕ) → path_count yard lines ≤ i → times_in i paths ≡ 0

-- drawings that meet none of 2, 4 and 9, with marks of zeros
pub record Drawable (yard lines : LentDrawing) : Type 0 where
  pub lengths : lengths_good yard lines (replicate (path_count yard lines) 0) ≡ true
  pub starts : both_start_well yard lines ≡ true
  pub yard_finite : paths_finite yard ≡ true
  pub lines_finite : paths_finite lines ≡ true

-- for any two such drawings, and any pen positions, each finite
abbrev pub EachOnce : Type 0
EachOnce = (yard lines : LentDrawing) → Drawable yard lines → (pens : ℕ → Vector) → ((t : ℕ) → point_finite (pens t) ≡ true) → OnceEach yard lines pens
