-- A view as the array that holds it, and document 01's number and values for each case of an answer on paths.
use Rattle.std.specs.Prelude.{ℕ, ◌≡◌, List, get_or, Float, Err, Ok, Result}
use Rattle.std.specs.Float.{nan}
use Rattle.geometry.specs.Vectors.{vec}
use Rattle.refusals.specs.Refusals.{number_of, answer_number}
use Rattle.paths.specs.Paths.{Paths}
use Rattle.paths.specs.Ends.{counted, laid_points, laid_starts}
use Rattle.view.specs.declared.View.{View}
use Rattle.floats.specs.Arith.{ten_thousandth}
use Rattle.draw.specs.Draw.{draw_with_in}
use Rattle.refusals.specs.declared.Refusal.{Refusal}

-- the matrix by rows, the eye, width, height and step
abbrev pub view_of_row : List Float → View
view_of_row v =
    record {
      matrix =
          record {
            x00 = get_or v 0 nan;
            x01 = get_or v 1 nan;
            x02 = get_or v 2 nan;
            x03 = get_or v 3 nan;
            x10 = get_or v 4 nan;
            x11 = get_or v 5 nan;
            x12 = get_or v 6 nan;
            x13 = get_or v 7 nan;
            x20 = get_or v 8 nan;
            x21 = get_or v 9 nan;
            x22 = get_or v 10 nan;
            x23 = get_or v 11 nan;
            x30 = get_or v 12 nan;
            x31 = get_or v 13 nan;
            x32 = get_or v 14 nan;
            x33 = get_or v 15 nan;
          };
      eye = vec (get_or v 16 nan) (get_or v 17 nan) (get_or v 18 nan);
      width = get_or v 19 nan;
      height = get_or v 20 nan;
      step = get_or v 21 nan;
    }

unfoldable pub points_told : Result (ℕ × ℕ) Refusal → ℕ
points_told (Ok (n, m)) = n
points_told (Err k) = 0

unfoldable pub paths_told : Result (ℕ × ℕ) Refusal → ℕ
paths_told (Ok (n, m)) = m
paths_told (Err k) = 0

-- what a call on paths answers and leaves, where `a` is what it is to answer: its number, the two slices, of x numbers and y starts, and how many points and paths they hold
abbrev pub PathsTold : Result Paths Refusal → ℕ → ℕ → ℕ → List Float → List ℕ → ℕ → ℕ → Type 0
PathsTold a x y number out begins points paths =
    (number ≡ answer_number (counted a))
    × ((out ≡ laid_points a x)
    × ((begins ≡ laid_starts a y)
    × ((points ≡ points_told (counted a))
    × (paths ≡ paths_told (counted a)))))

-- a draw of the slices that are handed in, in the places of those that are lent
abbrev pub draw_call_with : Float → List Float → List ℕ → List Float → List ℕ → List ℕ → List Float → List Float → List ℕ → List Float → List ℕ → List Float → List ℕ → List Float → List ℕ → List ℕ → Result Paths Refusal
draw_call_with t numbers marks points starts owners view = draw_with_in t numbers marks points starts owners (view_of_row view)

abbrev pub draw_call : List Float → List ℕ → List Float → List ℕ → List ℕ → List Float → List Float → List ℕ → List Float → List ℕ → List Float → List ℕ → List Float → List ℕ → List ℕ → Result Paths Refusal
draw_call = draw_call_with ten_thousandth
