-- The ends of halved pieces that wait while the first halves are chopped: how slices keep them, what they still ask for, and in how many turns. Assumes nothing.
use mathlib.Core.Path.{◌≡◌, refl}
use mathlib.Core.Logic.{◌≢◌}
use mathlib.Core.List.{List, [], ◌∷◌}
use Prim.Native.Nat.{ℕ, zero, suc, ◌+◌, ◌-◌, ◌*◌, ◌≤◌, ◌<◌}
use native.Mathlib.Numerals.{add-one, sub-one}
use native.Mathlib.Omega.{arith}
use lib.ListN.{length, get_or, set}
use lib.Seq.{get_or-set_same, get_or-set_other}
use lib.Ieee.{Float}
use Rattle.geometry.specs.declared.vector.Vector.{Vector}
use Rattle.rows.specs.Rows.{row, set_row}
use Rattle.rows.proofs.Rows.{row_same, row_other}
use Rattle.paths.specs.Answers.{next}
use Rattle.path_chop.specs.declared.Screen.{Screen}
use Rattle.path_chop.specs.declared.Spot.{Spot}
use Rattle.path_chop.specs.Chop.{subdivide, most_halvings}
use Rattle.path_chop.specs.Waits.{spot_in, spot_row}
use Rattle.std.specs.Prelude.{Err, Ok, Result}
use Rattle.refusals.specs.declared.Refusal.{Refusal}

-- an end that waits, with how many halvings are left for the piece that leads to it
pub record Wait : Type 0 where
  pub end : Spot
  pub left : ℕ

-- the k ends that two slices keep, the next one first
unfoldable pub waiting : List Float → List ℕ → ℕ → List Wait
waiting es ls zero = []
waiting es ls (suc k) = record { end = spot_in (row 6 k es); left = get_or ls k 0 } ∷ waiting es ls k

-- the pieces that lead from a spot to each of them in turn
unfoldable pub ahead : Screen → ℕ → List Wait → Spot → List Vector → Result (List Vector) Refusal
ahead s room [] from vs = Ok vs
ahead s room (w ∷ ws) from vs = next (subdivide s room w.left from w.end vs) (λ (us : List Vector). ahead s room ws w.end us)

-- how many turns a piece takes at most, and all that wait
unfoldable pub turns : ℕ → ℕ
turns zero = 1
turns (suc left) = suc (turns left + turns left)

unfoldable pub turns_of : List Wait → ℕ
turns_of [] = 0
turns_of (w ∷ ws) = turns w.left + turns_of ws

-- an end that waits after k others has fewer than 37 - k halvings left: so at most 37 wait
unfoldable pub Within : List ℕ → ℕ → Type 0
Within ls zero = Unit {0}
Within ls (suc k) = (get_or ls k 0 + k < most_halvings) × Within ls k

-- ---- an end is kept after i of them
module _ (es : List Float) (ls : List ℕ) (i : ℕ) (p : Spot) (l : ℕ) where
  waiting_kept : (k : ℕ) → k ≤ i → waiting (set_row 6 i (spot_row p) es) (set ls i l) k ≡ waiting es ls k
  unfolding waiting
  waiting_kept zero h = refl
  waiting_kept (suc k) h =
      let d : k ≢ i = λ e. omega arith in
      rw (row_other 6 i k (spot_row p) es refl d, get_or-set_other ls i k l 0 d, waiting_kept k (omega arith))

  within-kept : (k : ℕ) → k ≤ i → Within ls k → Within (set ls i l) k
  unfolding Within
  within-kept zero h w = w
  within-kept (suc k) h w =
      let d : k ≢ i = λ e. omega arith in
      (rw (get_or-set_other ls i k l 0 d) w.0, within-kept k (omega arith) w.1)

  module _ (es' : List Float) (ls' : List ℕ) (fit : i * 6 + 6 ≤ length es) (fit' : i < length ls) (ee : es' ≡ set_row 6 i (spot_row p) es) (el : ls' ≡ set ls i l) where
    pub waiting-more : waiting es' ls' (i + 1) ≡ record { end = p; left = l } ∷ waiting es ls i
    unfolding waiting
    waiting-more = rw (ee, el, add-one, row_same 6 i (spot_row p) es refl fit, get_or-set_same ls i l 0 fit', waiting_kept i (omega arith))

    pub within_more : Within ls i → l + i < most_halvings → Within ls' (i + 1)
    unfolding Within
    within_more w h = rw (el, add-one) (rw (get_or-set_same ls i l 0 fit') h, within-kept i (omega arith) w)

-- ---- the next one is taken
module _ (es : List Float) (ls : List ℕ) where
  pub waiting-next : (k : ℕ) → 0 < k → waiting es ls k ≡ record { end = spot_in (row 6 (k - 1) es); left = get_or ls (k - 1) 0 } ∷ waiting es ls (k - 1)
  unfolding waiting
  waiting-next zero h = absurd (omega arith)
  waiting-next (suc k) h = rw sub-one

  pub within-next : (k : ℕ) → 0 < k → Within ls k → (get_or ls (k - 1) 0 + (k - 1) < most_halvings) × Within ls (k - 1)
  unfolding Within
  within-next zero h w = absurd (omega arith)
  within-next (suc k) h w = rw sub-one w

-- ---- turns
turns-some : (left : ℕ) → 0 < turns left
unfolding turns
turns-some zero = omega arith
turns-some (suc left) = omega arith

turns-halved : (left : ℕ) → 0 < left → turns (left - 1) + turns (left - 1) < turns left
unfolding turns
turns-halved zero h = absurd (omega arith)
turns-halved (suc left) h = rw sub-one (omega arith)

module _ (es : List Float) (ls : List ℕ) (k left : ℕ) where
  pub turns_next : 0 < k → turns (get_or ls (k - 1) 0) + turns_of (waiting es ls (k - 1)) < turns left + turns_of (waiting es ls k)
  unfolding turns_of
  turns_next h = rw (waiting-next es ls k h) (omega (arith, turns-some left))

  pub turns_more : (es' : List Float) (ls' : List ℕ) (p : Spot) → k * 6 + 6 ≤ length es → k < length ls → es' ≡ set_row 6 k (spot_row p) es → ls' ≡ set ls k (left - 1) → 0 < left
      → turns (left - 1) + turns_of (waiting es' ls' (k + 1)) < turns left + turns_of (waiting es ls k)
  unfolding turns_of
  turns_more es' ls' p fit fit' ee el h = rw (waiting-more es ls k p (left - 1) es' ls' fit fit' ee el) (omega (arith, turns-halved left h))

-- ---- one after the other
pub next-next : {A : Type 0} (a : Result A Refusal) (f g : A → Result A Refusal) → next (next a f) g ≡ next a (λ (x : A). next (f x) g)
next-next (Ok x) f g = refl
next-next (Err k) f g = refl

pub next-none : {A : Type 0} (a : Result A Refusal) → next a (λ (x : A). Ok x) ≡ a
next-none (Ok x) = refl
next-none (Err k) = refl
