-- "Results then zeros, or zeros throughout after a numbered refusal", of the slices and places that the calls named below are lent. A premise is what the
-- `ensures` of these calls says of a run. What the other calls leave is said by their `ensures` alone: larnt_preview's counts, larnt_solid_hit and the
-- calls like it, larnt_canonical, larnt_pick and the plotter's registers.
use Rattle.std.specs.Prelude.{ℕ, zero, suc, ◌-◌, ◌/◌, ◌≡◌, Bool, false, List, [], ◌∷◌, ◌++◌, length, replicate, Float, Err, Ok, Option, Result}
use Rattle.floats.specs.Arith.{zero_f}
use Rattle.geometry.specs.declared.vector.Vector.{Vector}
use Rattle.lists.specs.Lists.{Member}
use Rattle.rows.specs.Rows.{flat, view}
use Rattle.rows.specs.Points.{point_of, point_row}
use Rattle.scene.specs.Scenes.{Scene, entries_of}
use Rattle.scene_merge.specs.MergedScenes.{merged_scene}
use Rattle.check_parts.specs.Drawn.{drawn}
use Rattle.check_scene.specs.Checks.{inverses_of, boxes_of}
use Rattle.tree_nodes.specs.Nodes.{box_rows, mark_rows}
use Rattle.tree_sight.specs.declared.Sight.{Sight}
use Rattle.query_scene.specs.Queries.{scene_nodes, scene_order}
use Rattle.query_cover.specs.Covered.{byte_of, covered_of}
use Rattle.paths.specs.Paths.{Paths, no_paths}
use Rattle.paths.specs.Ends.{Zeroed}
use Rattle.host.specs.Calls.{CheckTold, ContainedTold}
use Rattle.host.specs.TreeCalls.{TreeTold, HitTold, SightTold, NearestTold, NameTold}
use Rattle.host.specs.CoverCalls.{BatchTold}
use Rattle.host.specs.StageCalls.{PathsTold}
use Rattle.host_merge.specs.MergeCalls.{MergeTold}
use Rattle.host_text.specs.TextCalls.{WriteTold}
use Rattle.geometry.specs.declared.hit.Hit.{Hit}
use Rattle.tree_walk.specs.declared.Nearest.{Nearest}
use Rattle.refusals.specs.declared.Refusal.{Refusal}

-- a slice that a call is lent to write, a place for a count being a slice of one: its length, what it is to hold, what it holds afterwards
pub record LentSlice : Type 1 where
  pub Of : Type 0
  pub none : Of
  pub size : ℕ
  pub results : List Of
  pub left : List Of

abbrev pub floats : ℕ → List Float → List Float → LentSlice
floats n results left = record { Of = Float; none = zero_f; size = n; results = results; left = left }

abbrev pub wholes : ℕ → List ℕ → List ℕ → LentSlice
wholes n results left = record { Of = ℕ; none = 0; size = n; results = results; left = left }

abbrev pub tally : ℕ → ℕ → LentSlice
tally result left = wholes 1 (result ∷ []) (left ∷ [])

-- how each of them ends, by the number that the call answers, which is 0 or that of the refusal
abbrev pub End : ℕ → LentSlice → Type 0
End zero l = l.left ≡ l.results ++ replicate (l.size - length l.results) l.none
End (suc k) l = l.left ≡ replicate l.size l.none

abbrev pub AllEnd : ℕ → List LentSlice → Type 0
AllEnd number [] = Unit {0}
AllEnd number (l ∷ ls) = End number l × AllEnd number ls

-- the paths, and the bytes, that an answer holds
abbrev pub paths_answered : Result Paths Refusal → Paths
paths_answered (Ok q) = q
paths_answered (Err k) = no_paths

abbrev pub bytes_answered : Result (List ℕ) Refusal → List ℕ
bytes_answered (Ok t) = t
bytes_answered (Err k) = []

-- larnt_chop, larnt_outline, larnt_simplify, larnt_draw, larnt_draw_with: the points and the starts of the paths, and how many there are
abbrev pub lent_for_paths : Result Paths Refusal → ℕ → ℕ → List Float → List ℕ → ℕ → ℕ → List LentSlice
lent_for_paths a n m out begins points paths =
    floats n (flat point_row (paths_answered a).vertices) out
    ∷ wholes m (paths_answered a).starts begins
    ∷ tally (length (paths_answered a).vertices) points
    ∷ tally (length (paths_answered a).starts) paths
    ∷ []

abbrev pub PathsEnd : Type 0
PathsEnd =
    (a : Result Paths Refusal) (n m number : ℕ) (out : List Float) (begins : List ℕ) (points paths : ℕ)
    → PathsTold a n m number out begins points paths → AllEnd number (lent_for_paths a n m out begins points paths)

-- larnt_build: the nodes' boxes and marks, the entries in the leaves' order, and how many nodes there are
abbrev pub lent_for_build : Scene → List Float → List ℕ → List ℕ → List Float → List ℕ → List ℕ → ℕ → List LentSlice
lent_for_build s boxes₀ marks₀ order₀ boxes marks order count =
    floats (length boxes₀) (box_rows (scene_nodes s)) boxes
    ∷ wholes (length marks₀) (mark_rows (scene_nodes s)) marks
    ∷ wholes (length order₀) (scene_order s) order
    ∷ tally (length (scene_nodes s)) count
    ∷ []

abbrev pub BuildEnds : Type 0
BuildEnds =
    (s : Scene) (boxes₀ : List Float) (marks₀ order₀ : List ℕ) (number : ℕ) (boxes : List Float) (marks order : List ℕ) (count : ℕ)
    → TreeTold s boxes₀ marks₀ order₀ number boxes marks order count → AllEnd number (lent_for_build s boxes₀ marks₀ order₀ boxes marks order count)

-- larnt_check: each placing's inverse, each entry's box, the drawn entries, and how many these are
abbrev pub lent_for_check : Scene → List Float → List Float → List ℕ → ℕ → List LentSlice
lent_for_check s inverses boxes listed count =
    floats 16384 (inverses_of s) inverses ∷ floats 6144 (boxes_of s) boxes ∷ wholes 1024 (drawn s.marks) listed ∷ tally (length (drawn s.marks)) count ∷ []

abbrev pub CheckEnds : Type 0
CheckEnds =
    (s : Scene) (number : ℕ) (inverses boxes : List Float) (listed : List ℕ) (count : ℕ)
    → CheckTold s number inverses boxes listed count → AllEnd number (lent_for_check s inverses boxes listed count)

-- larnt_merge: the five slices of the merged scene m, and how many entries, points and paths it has
abbrev pub lent_for_merge : Scene → Scene → Scene → ℕ → ℕ → ℕ → List LentSlice
lent_for_merge m lent left entries points paths =
    floats (length lent.numbers) m.numbers left.numbers
    ∷ wholes (length lent.marks) m.marks left.marks
    ∷ floats (length lent.points) m.points left.points
    ∷ wholes (length lent.starts) m.starts left.starts
    ∷ wholes (length lent.owners) m.owners left.owners
    ∷ tally (entries_of m) entries
    ∷ tally (length m.points / 3) points
    ∷ tally (length m.starts) paths
    ∷ []

abbrev pub MergeEnds : Type 0
MergeEnds =
    (s u lent : Scene) (number : ℕ) (left : Scene) (entries points paths : ℕ)
    → MergeTold s u lent number left entries points paths → AllEnd number (lent_for_merge (merged_scene s u) lent left entries points paths)

-- larnt_covered_all: the byte of each point
abbrev pub lent_for_points : Scene → List Float → List ℕ → List ℕ → Vector → List Float → List ℕ → List ℕ → List LentSlice
lent_for_points s boxes marks order eye tested told₀ told =
    wholes (length told₀) (view 3 (λ (p : List Float). byte_of (covered_of s boxes marks order eye (point_of p))) (length tested / 3) tested) told ∷ []

abbrev pub CoveredAllEnds : Type 0
CoveredAllEnds =
    (s : Scene) (boxes : List Float) (marks order : List ℕ) (eye : Vector) (tested : List Float) (told₀ : List ℕ) (number : ℕ) (told : List ℕ)
    → BatchTold s boxes marks order eye tested told₀ number told → AllEnd number (lent_for_points s boxes marks order eye tested told₀ told)

-- larnt_write: the text, and how many bytes it has
abbrev pub lent_for_text : Result (List ℕ) Refusal → ℕ → List ℕ → ℕ → List LentSlice
lent_for_text a room text count = wholes room (bytes_answered a) text ∷ tally (length (bytes_answered a)) count ∷ []

abbrev pub WriteEnds : Type 0
WriteEnds =
    (a : Result (List ℕ) Refusal) (room : ℕ) (text : List ℕ) (number count : ℕ)
    → WriteTold a room text number count → AllEnd number (lent_for_text a room text count)

-- single places, after a refusal +0, false and 0: larnt_own_hit; larnt_intersect; larnt_occluder; larnt_visible and larnt_covered; larnt_own_contains
abbrev pub OwnHitEnds : Type 0
OwnHitEnds = (h : Result Hit Refusal) (number : ℕ) (t : Float) (ok : Bool) → HitTold h number t ok → (number ≡ 0 → ⊥) → (t ≡ zero_f) × (ok ≡ false)

abbrev pub NearestHitEnds : Type 0
NearestHitEnds =
    (f : Result Nearest Refusal) (number : ℕ) (t : Float) (ok : Bool) (entry : ℕ) → NearestTold f number t ok entry → (number ≡ 0 → ⊥) → (t ≡ zero_f) × (ok ≡ false) × (entry ≡ 0)

abbrev pub OccluderEnds : Type 0
OccluderEnds = (o : Result (Option ℕ) Refusal) (number entry : ℕ) → NameTold o number entry → (number ≡ 0 → ⊥) → entry ≡ 0

abbrev pub SightEnds : Type 0
SightEnds = (a : Result Sight Refusal) (number : ℕ) (seen : Bool) → SightTold a number seen → (number ≡ 0 → ⊥) → seen ≡ false

abbrev pub ContainsEnds : Type 0
ContainsEnds = (c : Result Bool Refusal) (number : ℕ) (within : Bool) → ContainedTold c number within → (number ≡ 0 → ⊥) → within ≡ false

-- each of the seven work slices of larnt_draw, larnt_draw_with and larnt_preview, whatever the answer: as long as it was, and each element a zero
abbrev pub WorkEnds : Type 1
WorkEnds = (A : Type 0) (none : A) (before after : List A) → Zeroed none before after → (length after ≡ length before) × ((x : A) → Member x after → x ≡ none)
