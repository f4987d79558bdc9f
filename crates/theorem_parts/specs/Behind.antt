-- The parts of a sheet, one behind the other in one set of places.
use Rattle.std.specs.Prelude.{◌≡◌, List, [], ◌∷◌, ◌++◌, ℕ, suc, ◌-◌, ◌≤◌, ◌<◌, length, get_or, Float, Ok, Result}
use Rattle.check_parts.specs.Drawn.{drawn}
use Rattle.scene.specs.Scenes.{Scene}
use Rattle.paths.specs.Answers.{next}
use Rattle.paths.specs.Paths.{Paths, push}
use Rattle.view.specs.declared.View.{View}
use Rattle.draw_render.specs.Render.{Places}
use Rattle.draw.specs.Draw.{draw_with, draw_part, draw_range}
use Rattle.theorem_parts.specs.Following.{followed}
use Rattle.refusals.specs.declared.Refusal.{Refusal}

-- the places that are left where these paths are the result so far
unfoldable pub places_behind : Places → Paths → Places
places_behind w p = record { lines = w.lines; nodes = w.nodes; order = w.order; points = w.points - length p.vertices; starts = w.starts - length p.starts }

-- ---- a part that is answered falls into any two: the first is answered, the second in the places that are left behind it, and it is the first and then the second
abbrev pub PartBehind : Type 0
PartBehind =
    (t : Float) (s : Scene) (v : View) (w : Places) (xs ys : List ℕ) (q : Paths) → draw_part t s v w (xs ++ ys) ≡ Ok q
    → (a b : Paths) × (draw_part t s v w xs ≡ Ok a) × (draw_part t s v (places_behind w a) ys ≡ Ok b) × (q ≡ followed a b)

-- ---- the draw entry by entry
-- what is drawn so far, and how many paths there are after each entry
pub record Sheet : Type 0 where
  pub paths : Paths
  pub ends : List ℕ

-- these entries, one after the other, each behind what is drawn so far; there is room for so many ends
unfoldable pub entries_drawn : Float → Scene → View → Places → ℕ → List ℕ → Sheet → Result Sheet Refusal
entries_drawn t s v w room [] p = Ok p
entries_drawn t s v w room (i ∷ is) p =
    next (draw_part t s v (places_behind w p.paths) (i ∷ []))
    (λ (q : Paths). next (push room p.ends (length (followed p.paths q).starts))
    (λ (ends : List ℕ). entries_drawn t s v w room is (record { paths = followed p.paths q; ends = ends })))

-- all drawn entries; the part of none comes first, and meets what hangs on no entry: numbers 2 to 8 and 14, and 13 of the tree
unfoldable pub draw_in_parts : Float → Scene → View → Places → ℕ → Result Sheet Refusal
draw_in_parts t s v w room = next (draw_part t s v w []) (λ (q : Paths). entries_drawn t s v w room (drawn s.marks) (record { paths = q; ends = [] }))

-- Where the draw is answered, so is the draw in parts, in the same places and with the same paths, if there is room for an end of each drawn entry.
abbrev pub DrawInParts : Type 0
DrawInParts =
    (t : Float) (s : Scene) (v : View) (w : Places) (q : Paths) (room : ℕ) → draw_with t s v w ≡ Ok q → length (drawn s.marks) ≤ room
    → (p : Sheet) × (draw_in_parts t s v w room ≡ Ok p) × (p.paths ≡ q)

-- Where the draw in parts is answered, the draw is answered in enough places, with the same paths; in whatever places it is answered, they are these.
pub record InPartsAlike : Type 0 where
  pub enough : (t : Float) (s : Scene) (v : View) (w : Places) (room : ℕ) (p : Sheet) → draw_in_parts t s v w room ≡ Ok p → (u : Places) × (draw_with t s v u ≡ Ok p.paths)
  pub alike : (t : Float) (s : Scene) (v : View) (w u : Places) (room : ℕ) (p : Sheet) (q : Paths) → draw_in_parts t s v w room ≡ Ok p → draw_with t s v u ≡ Ok q → p.paths ≡ q

-- The ends say whose the paths are: there is one for each drawn entry, and after entry number k there are as many paths as the drawn entries up to it have.
pub record EndsCount : Type 0 where
  pub each : (t : Float) (s : Scene) (v : View) (w : Places) (room : ℕ) (p : Sheet) → draw_in_parts t s v w room ≡ Ok p → length p.ends ≡ length (drawn s.marks)
  pub upto : (t : Float) (s : Scene) (v : View) (w u : Places) (room : ℕ) (p : Sheet) (k : ℕ) (a : Paths) → draw_in_parts t s v w room ≡ Ok p → k < length (drawn s.marks)
      → draw_range t s v u 0 (suc k) ≡ Ok a → get_or p.ends k 0 ≡ length a.starts
