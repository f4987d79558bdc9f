-- The handed-in paths of an entry that are left. Assumes nothing.
use mathlib.Core.Path.{◌≡◌, refl}
use mathlib.Core.Logic.{◌⊎◌, inl, inr}
use mathlib.Core.Bool.{Bool, true, false, cond}
use mathlib.Core.List.{List, [], ◌∷◌, ◌++◌}
use Prim.Native.Nat.{ℕ, suc, ◌+◌, ◌≤◌, ◌<◌}
use native.Mathlib.Numerals.{add-one}
use native.Mathlib.Omega.{arith}
use borrow.Author.Tests.{lt-ltb, le-ltb}
use lib.Dec.{eqb}
use lib.ListN.{length, drop, get_or, drop_of_length-le}
use lib.Seq.{slice, drop-cons}
use Rattle.floats.proofs.Order.{le-or-lt}
use Rattle.geometry.specs.declared.vector.Vector.{Vector}
use Rattle.rows.specs.Starts.{next_start, end_of}
use Rattle.paths.specs.Paths.{paths_of}
use Rattle.draw_lines.specs.Lines.{owned_by, own_path, own_paths}

module _ (i : ℕ) (vs : List Vector) (ss owners : List ℕ) where
  abbrev pub ownLeft : ℕ → List (List Vector)
  ownLeft j = own_paths i (paths_of vs (drop j ss)) (drop j owners)

  none_owned : (ps : List (List Vector)) → own_paths i ps [] ≡ []
  unfolding own_paths
  none_owned [] = refl
  none_owned (p ∷ ps) = refl

  pub own_turn : (j : ℕ) → j < length ss → ownLeft j ≡ own_path i j vs ss owners ++ ownLeft (j + 1)
  unfolding own_paths own_path owned_by paths_of
  own_turn j h = by (le-or-lt (length owners) j)
    where
      pick : (t : Bool) (p : List Vector) (ps : List (List Vector)) → cond t (p ∷ ps) ps ≡ cond t (p ∷ []) [] ++ ps
      pick true p ps = refl
      pick false p ps = refl

      by : (length owners ≤ j) ⊎ (j < length owners) → ownLeft j ≡ own_path i j vs ss owners ++ ownLeft (j + 1)
      by (inl g) =
          rw (le-ltb j (length owners) g, drop_of_length-le owners {i = j} g, drop_of_length-le owners {i = j + 1} (omega arith), none_owned (paths_of vs (drop j ss)), none_owned (paths_of vs (drop (j + 1) ss)))
      by (inr g) =
          rw (add-one j, lt-ltb j (length owners) g, drop-cons ss j 0 h, drop-cons owners j 0 g)
          (pick (eqb (get_or owners j 0) i) (slice (get_or ss j 0) (next_start (length vs) (drop (suc j) ss)) vs) (own_paths i (paths_of vs (drop (suc j) ss)) (drop (suc j) owners)))

  pub own-end : (j : ℕ) → length ss ≤ j → ownLeft j ≡ []
  unfolding own_paths paths_of
  own-end j h = rw (drop_of_length-le ss {i = j} h)

  pub own-none : (j : ℕ) {t : Bool} → t ≡ owned_by owners j i → t ≡ false → own_path i j vs ss owners ≡ []
  unfolding own_path
  own-none j e f = rw (← e, f)

  pub own-one : (j : ℕ) {t : Bool} → t ≡ owned_by owners j i → t ≡ true → own_path i j vs ss owners ≡ slice (get_or ss j 0) (end_of (length vs) ss j) vs ∷ []
  unfolding own_path
  own-one j e f = rw (← e, f)
