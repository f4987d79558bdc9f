-- What becomes of each point of an entry's lines, by demand 3.
use Rattle.std.specs.Prelude.{◌≡◌, ◌⊎◌, List, ℕ, Float, Err, Ok, Result}
use Rattle.geometry.specs.declared.vector.Vector.{Vector}
use Rattle.lists.specs.Lists.{Member}
use Rattle.check_parts.specs.Drawn.{drawn}
use Rattle.scene.specs.Scenes.{Scene}
use Rattle.paths.specs.Paths.{Paths}
use Rattle.view.specs.declared.View.{View}
use Rattle.draw_render.specs.Render.{Places}
use Rattle.draw.specs.Drawing.{Drawing}
use Rattle.theorem_draws.specs.Sheets.{ClippedIn, PassedIn, HiddenIn}
use Rattle.draw_fates.specs.Fates.{fate_of}
use Rattle.draw_fates.specs.declared.Fate.{Fate}
use Rattle.draw_fates.specs.declared.Fate.TheVariants.{Clipped, Visible, Hidden}
use Rattle.theorem_demand3.specs.Demand3.{RowsLeft, NamedShort}
use Rattle.theorem_parts.specs.Accounts.{PathOf}
use Rattle.refusals.specs.declared.Refusal.{Refusal}

-- Where a draw is answered, each point of the lines of a drawn entry, in whatever places they are asked for, is clipped away, or passed, or hidden by a drawn entry that is named and whose own distance falls short.
abbrev pub EntryAccount : Type 0
EntryAccount =
    (t : Float) (s : Scene) (v : View) (w : Places) (q : Paths) (D : Drawing t s v w q) (u : Places) (i : ℕ) → Member i (drawn s.marks) → (path : List Vector) → PathOf s v u i path → (point : Vector) → Member point path
    → ClippedIn s v point ⊎ (PassedIn s v point ⊎ (HiddenIn s v point × NamedShort s v.eye point))

-- ---- the public call
-- what a word of `draw_fates::fates` says of a point, by demand 3's terms; the entry that hides it is the one that `NamedShort` names
abbrev pub SaidOf : Scene → View → Vector → Result Fate Refusal → Type 0
SaidOf s v point (Ok Clipped) = ClippedIn s v point
SaidOf s v point (Ok Visible) = PassedIn s v point
SaidOf s v point (Ok (Hidden i)) = HiddenIn s v point × ((n : NamedShort s v.eye point) × (n.entry ≡ i))
SaidOf s v point (Err k) = ⊥

-- Where a draw is answered, the fate of each point of the lines of a drawn entry, on all rows that the public build leaves, is what step 4 does with it: clipped away, passed, or dropped as hidden, and then
-- the entry named is drawn and its own distance falls short; it meets no number. So the account holds each point exactly once, and says visible exactly of those that are passed.
pub record FatesAccount : Type 0 where
  pub said : (t : Float) (s : Scene) (v : View) (w : Places) (q : Paths) (D : Drawing t s v w q) (u : Places) (i : ℕ) → Member i (drawn s.marks) → (path : List Vector) → PathOf s v u i path → (point : Vector) → Member point path
      → (boxes : List Float) (marks order : List ℕ) → RowsLeft s boxes marks order → SaidOf s v point (fate_of s boxes marks order v point)
  pub visible : (t : Float) (s : Scene) (v : View) (w : Places) (q : Paths) (D : Drawing t s v w q) (u : Places) (i : ℕ) → Member i (drawn s.marks) → (path : List Vector) → PathOf s v u i path → (point : Vector) → Member point path
      → (boxes : List Float) (marks order : List ℕ) → RowsLeft s boxes marks order → PassedIn s v point → fate_of s boxes marks order v point ≡ Ok Visible
