-- Document 02's request (ix): how many halvings, one inside another, a segment needs in a chop.
use Rattle.std.specs.Prelude.{◌≡◌, Bool, true, false, ◌&&◌, ◌||◌, ℕ, zero, suc, T}
use Rattle.geometry.specs.Limits.{Within}
use Rattle.geometry.specs.declared.vector.Vector.{Vector}
use Rattle.refusals.specs.Refusals.{number_of}
use Rattle.refusals.specs.declared.Refusal.{Refusal}
use Rattle.view.specs.Views.{view_ok, args_of}
use Rattle.view.specs.declared.View.{View}
use Rattle.path_chop.specs.Chop.{screen_of, spot_of, middle_of, stops}
use Rattle.path_chop.specs.declared.Screen.{Screen}
use Rattle.path_chop.specs.declared.Spot.{Spot}

-- a segment needs at most so many halvings, one inside another: it is not halved, or each half needs at most one less
unfoldable pub needs_at_most : ℕ → Screen → Spot → Spot → Bool
needs_at_most zero s a b = stops s a b
needs_at_most (suc n) s a b = stops s a b || (needs_at_most n s a (middle_of s a b) && needs_at_most n s (middle_of s a b) b)

-- A segment with both ends within number 9's limit needs at most 37, for every matrix, sheet and step, NaNs included; each middle is rounded as the chop rounds it.
abbrev pub AtMost37 : Type 0
AtMost37 = (s : Screen) (p q : Vector) → Within p → Within q → T (needs_at_most 37 s (spot_of s p) (spot_of s q))

-- And 36 are too few: of some view that passes number 8 and some segment.
pub record SomeNeed37 : Type 0 where
  pub view : View
  pub fair : view_ok view ≡ true
  pub from : Vector
  pub upto : Vector
  pub from_within : Within from
  pub upto_within : Within upto
  pub deeper : needs_at_most 36 (screen_of (args_of view)) (spot_of (screen_of (args_of view)) from) (spot_of (screen_of (args_of view)) upto) ≡ false

-- Document 01's number 10 never occurs: no refusal has it.
abbrev pub NoTen : Type 0
NoTen = (k : Refusal) → number_of k ≡ 10 → ⊥
