-- A sheet is its parts: the drawing of a yard is the drawings of its drawn entries, one after another.
use Rattle.std.specs.Prelude.{◌≡◌, List, [], ◌∷◌, ◌++◌, ℕ, ◌+◌, ◌≤◌, length, Float, Ok}
use Rattle.check_parts.specs.Drawn.{drawn}
use Rattle.scene.specs.Scenes.{Scene}
use Rattle.paths.specs.Paths.{Paths}
use Rattle.view.specs.declared.View.{View}
use Rattle.draw_collect.specs.Collect.{LineRoom}
use Rattle.draw_render.specs.Render.{Places}
use Rattle.draw.specs.Draw.{draw_with, draw_part, draw_range}
use Rattle.theorem_parts.specs.Following.{followed, followed_all}

-- ---- the whole draw is the range of all
abbrev pub WholeIsRange : Type 0
WholeIsRange = (t : Float) (s : Scene) (v : View) (w : Places) (many : ℕ) → length (drawn s.marks) ≤ many → draw_range t s v w 0 many ≡ draw_with t s v w

-- ---- a part that is answered falls into any two: both are answered, in the same places, and it is the first and then the second
abbrev pub PartSplits : Type 0
PartSplits =
    (t : Float) (s : Scene) (v : View) (w : Places) (xs ys : List ℕ) (q : Paths) → draw_part t s v w (xs ++ ys) ≡ Ok q
    → (a b : Paths) × (draw_part t s v w xs ≡ Ok a) × (draw_part t s v w ys ≡ Ok b) × (q ≡ followed a b)

-- ---- two parts that are answered make one, in the places of both together; the tree is the same, and needs no more
unfoldable pub more_lines : LineRoom → LineRoom → LineRoom
more_lines w u = record { points = w.points + u.points; starts = w.starts + u.starts; chopped = w.chopped + u.chopped; begins = w.begins + u.begins }

unfoldable pub more_places : Places → Places → Places
more_places w u = record { lines = more_lines w.lines u.lines; nodes = w.nodes; order = w.order; points = w.points + u.points; starts = w.starts + u.starts }

abbrev pub PartsJoin : Type 0
PartsJoin =
    (t : Float) (s : Scene) (v : View) (w u : Places) (xs ys : List ℕ) (a b : Paths) → draw_part t s v w xs ≡ Ok a → draw_part t s v u ys ≡ Ok b
    → draw_part t s v (more_places w u) (xs ++ ys) ≡ Ok (followed a b)

-- ---- places change no drawing: where a part is answered in two, it is with the same paths
abbrev pub PlacesAlike : Type 0
PlacesAlike =
    (t : Float) (s : Scene) (v : View) (w u : Places) (part : List ℕ) (a b : Paths) → draw_part t s v w part ≡ Ok a → draw_part t s v u part ≡ Ok b → a ≡ b

-- ---- consecutive ranges of so many drawn entries each, from the first on, are answered with these drawings
abbrev pub RangesDrawn : Float → Scene → View → Places → ℕ → List ℕ → List Paths → Type 0
RangesDrawn t s v w first [] [] = 0 ≤ first
RangesDrawn t s v w first [] (q ∷ qs) = ⊥
RangesDrawn t s v w first (m ∷ ms) [] = ⊥
RangesDrawn t s v w first (m ∷ ms) (q ∷ qs) = (draw_range t s v w first m ≡ Ok q) × RangesDrawn t s v w (first + m) ms qs

unfoldable pub range_sum : List ℕ → ℕ
range_sum [] = 0
range_sum (m ∷ ms) = m + range_sum ms

-- A draw that is answered is the draws of its ranges, one after the other, for any split of the drawn entries into consecutive ranges; each is answered in the same places.
abbrev pub SheetIsParts : Type 0
SheetIsParts =
    (t : Float) (s : Scene) (v : View) (w : Places) (q : Paths) → draw_with t s v w ≡ Ok q → (ms : List ℕ) → length (drawn s.marks) ≤ range_sum ms
    → (qs : List Paths) × RangesDrawn t s v w 0 ms qs × (q ≡ followed_all qs)

-- ---- and the other way: ranges that are answered make the draw, in the places of all of them together
unfoldable pub places_together : Places → List ℕ → Places
places_together w [] = w
places_together w (m ∷ ms) = more_places w (places_together w ms)

-- Consecutive ranges, a first one of m and then these, that hold all drawn entries: where each is answered in some places, the draw is answered in as many of them as there are ranges.
abbrev pub PartsMakeSheet : Type 0
PartsMakeSheet =
    (t : Float) (s : Scene) (v : View) (w : Places) (m : ℕ) (ms : List ℕ) (qs : List Paths) → RangesDrawn t s v w 0 (m ∷ ms) qs → length (drawn s.marks) ≤ range_sum (m ∷ ms)
    → draw_with t s v (places_together w ms) ≡ Ok (followed_all qs)
