-- Document 02's pen travel (xiii): which path of two drawings is picked, what is handed back, and how the marks are left.
use Rattle.std.specs.Prelude.{◌≡◌, Bool, true, cond, ◌&&◌, ◌||◌, List, [], ◌∷◌, ℕ, zero, suc, ◌+◌, ◌*◌, ◌-◌, ◌%◌, eqb, ltb, Float, get_or, length, set, Err, None, Ok, Option, Result, Some}
use Rattle.std.specs.Float.Ieee.{lt}
use Rattle.std.specs.Float.Ieee.Scale.{finite}
use Rattle.std.proofs.Math.Seq.{slice}
use Rattle.geometry.specs.Vectors.{distance_squared}
use Rattle.geometry.specs.declared.vector.Vector.{Vector}
use Rattle.refusals.specs.Refusals.{number_of}
use Rattle.refusals.specs.declared.Refusal.TheVariants.{Lengths, Parts, Point}
use Rattle.rows.specs.Rows.{row}
use Rattle.rows.specs.Points.{point_of}
use Rattle.rows.specs.Starts.{good_starts}
use Rattle.paths.specs.Ends.{places}
use Rattle.paths.specs.Ranges.{range_of}
use Rattle.paths.specs.declared.Range.{Range}
use Rattle.plotter_pens.specs.declared.NearestPath.{NearestPath}
use Rattle.plotter_pens.specs.declared.Choice.{Choice}
use Rattle.plotter_pens.specs.declared.Choice.TheVariants.{Yard, Lines}
use Rattle.refusals.specs.declared.Refusal.{Refusal}

-- a drawing as it is lent: three numbers a point, and where each path starts among the points
pub record LentDrawing : Type 0 where
  pub numbers : List Float
  pub starts : List ℕ

abbrev pub lent_drawing : List Float → List ℕ → LentDrawing
lent_drawing xs ss = record { numbers = xs; starts = ss }

-- ---- the nearest undrawn path
-- where path k lies among the points, whether it has any, and its first one
abbrev pub range_in : LentDrawing → ℕ → Range
range_in d k = range_of (places d.numbers) d.starts k

unfoldable pub has_points : LentDrawing → ℕ → Bool
has_points d k = ltb (range_in d k).from (range_in d k).end

abbrev pub first_point : LentDrawing → ℕ → Vector
first_point d k = point_of (row 3 (range_in d k).from d.numbers)

-- undrawn and not empty: a byte other than 0 marks a path as drawn. `first` is the place of the drawing's first mark
unfoldable pub waits : LentDrawing → List ℕ → ℕ → ℕ → Bool
waits d marks first k = eqb (get_or marks (first + k) 0) 0 && has_points d k

-- a path at this distance takes the place of the best if it is nearer: of equal distances the earlier path stays
unfoldable pub nearer_path : Option NearestPath → ℕ → Float → Option NearestPath
nearer_path None i d = Some (record { place = i; distance = d })
nearer_path (Some b) i d = Some (cond (lt d b.distance) (record { place = i; distance = d }) b)

-- path k, by the computed squared distance of its first point
unfoldable pub offered : LentDrawing → List ℕ → ℕ → Vector → Option NearestPath → ℕ → Option NearestPath
offered d marks first pen b k = cond (waits d marks first k) (nearer_path b (first + k) (distance_squared pen (first_point d k))) b

-- n paths from path k on, in order
unfoldable pub nearest_in : LentDrawing → List ℕ → ℕ → Vector → ℕ → ℕ → Option NearestPath → Option NearestPath
nearest_in d marks first pen zero k b = b
nearest_in d marks first pen (suc n) k b = nearest_in d marks first pen n (k + 1) (offered d marks first pen b k)

-- all paths of both drawings: equal distances go to the yard, whose marks come first
unfoldable pub nearest_of_both : LentDrawing → LentDrawing → List ℕ → Vector → Option NearestPath
nearest_of_both yard lines marks pen =
    nearest_in lines marks (length yard.starts) pen (length lines.starts) 0
    (nearest_in yard marks 0 pen (length yard.starts) 0 None)

-- ---- numbers 2, 4 and 9
-- number 2: three numbers a point, and one byte a path
unfoldable pub lengths_good : LentDrawing → LentDrawing → List ℕ → Bool
lengths_good yard lines marks =
    eqb (length yard.numbers % 3) 0
    && (eqb (length lines.numbers % 3) 0
    && eqb (length marks) (length yard.starts + length lines.starts))

-- number 4
unfoldable pub both_start_well : LentDrawing → LentDrawing → Bool
both_start_well yard lines = good_starts (places yard.numbers) yard.starts && good_starts (places lines.numbers) lines.starts

unfoldable pub all_finite : List Float → Bool
all_finite [] = true
all_finite (x ∷ xs) = finite x && all_finite xs

-- each path number is finite; without starts there is no path
unfoldable pub paths_finite : LentDrawing → Bool
paths_finite d = eqb (length d.starts) 0 || all_finite d.numbers

unfoldable pub point_finite : Vector → Bool
point_finite p = finite p.x && (finite p.y && finite p.z)

-- number 9
unfoldable pub numbers_finite : LentDrawing → LentDrawing → Vector → Bool
numbers_finite yard lines pen = point_finite pen && (paths_finite yard && paths_finite lines)

-- ---- the pick
-- what was found, as a path of the drawing that holds it
unfoldable pub picked_from : LentDrawing → LentDrawing → Option NearestPath → Result (Option Choice) Refusal
picked_from yard lines None = Ok None
picked_from yard lines (Some b) =
    let k = b.place - length yard.starts in
    cond (ltb b.place (length yard.starts)) (Ok (Some (Yard b.place (range_in yard b.place)))) (Ok (Some (Lines k (range_in lines k))))

-- the first of 2, 4 and 9 that is met, then the nearest path that waits
unfoldable pub pick_of : LentDrawing → LentDrawing → List ℕ → Vector → Result (Option Choice) Refusal
pick_of yard lines marks pen =
    cond (lengths_good yard lines marks)
    (cond (both_start_well yard lines)
    (cond (numbers_finite yard lines pen) (picked_from yard lines (nearest_of_both yard lines marks pen))
    (Err Point))
    (Err Parts))
    (Err Lengths)

-- its number: 0 where a path is picked, document 02's 15 where both drawings are used up
unfoldable pub pick_number : Result (Option Choice) Refusal → ℕ
pick_number (Ok (Some c)) = 0
pick_number (Ok None) = 15
pick_number (Err k) = number_of k

-- the marks afterwards, n of them the yard's: a pick sets its path's byte to 1, a refusal changes none
unfoldable pub marks_after : ℕ → List ℕ → Result (Option Choice) Refusal → List ℕ
marks_after n marks (Ok (Some (Yard k r))) = set marks k 1
marks_after n marks (Ok (Some (Lines k r))) = set marks (n + k) 1
marks_after n marks (Ok None) = marks
marks_after n marks (Err k) = marks

-- the numbers of the path, as the part of the drawing that holds it
unfoldable pub part_of : LentDrawing → LentDrawing → Result (Option Choice) Refusal → List Float
part_of yard lines (Ok (Some (Yard k r))) = slice (r.from * 3) (r.end * 3) yard.numbers
part_of yard lines (Ok (Some (Lines k r))) = slice (r.from * 3) (r.end * 3) lines.numbers
part_of yard lines (Ok None) = []
part_of yard lines (Err k) = []

pub record Picked (yard lines : LentDrawing) (marks : List ℕ) (pen : Vector) (p : Result (Option Choice) Refusal) (after : List ℕ) : Type 0 where
  pub answer : p ≡ pick_of yard lines marks pen
  pub marks_are : after ≡ marks_after (length yard.starts) marks p

pub record HandedBack (yard lines : LentDrawing) (marks : List ℕ) (pen : Vector) (part : List Float) (after : List ℕ) (number : ℕ) : Type 0 where
  pub part_is : part ≡ part_of yard lines (pick_of yard lines marks pen)
  pub marks_are : after ≡ marks_after (length yard.starts) marks (pick_of yard lines marks pen)
  pub number_is : number ≡ pick_number (pick_of yard lines marks pen)
