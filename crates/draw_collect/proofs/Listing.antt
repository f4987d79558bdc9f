-- The loop over the drawn entries: what is left to collect answers as the whole does. Assumes nothing.
use mathlib.Core.Path.{◌≡◌, refl, sym, ◌∙◌}
use mathlib.Core.List.{List}
use Prim.Native.Nat.{ℕ, ◌+◌, ◌≤◌, ◌<◌}
use native.Mathlib.Numerals.{add-one}
use native.Mathlib.Omega.{arith}
use lib.ListN.{length, take, drop, get_or, drop_of_length-le}
use lib.Seq.{drop-cons}
use lib.Ieee.{Float}
use Rattle.refusals.specs.declared.Refusal.{Refusal}
use Rattle.rows.specs.Rows.{view}
use Rattle.paths.specs.Answers.{next}
use Rattle.paths.specs.Paths.{Paths, no_paths}
use Rattle.paths.specs.Ends.{EndsBoth}
use Rattle.paths.proofs.Ending.{both_at, both-refused, refuses-both, answers-both}
use Rattle.view.specs.declared.RenderArgs.{RenderArgs}
use Rattle.draw_arcs.specs.Stances.{Placement, unplaced}
use Rattle.draw_collect.specs.Lined.{Lined}
use Rattle.draw_collect.specs.Collect.{collected, collected_all}
use Rattle.draw_collect.specs.Slices.{room_of, first_held, Lent}
use Rattle.std.specs.Prelude.{Err, Ok, Result}

module _ (a : RenderArgs) (wide many : ℕ) (at : ℕ → Lined) (ids : List ℕ) (xs₀ : List Float) (ss₀ : List ℕ) (chopped₀ : List Float) (choppedStarts₀ : List ℕ) where
  abbrev whole : Result Paths Refusal
  whole = collected_all a (room_of wide many chopped₀ choppedStarts₀) at ids no_paths

  pub record Collecting (xs : List Float) (ss : List ℕ) (chopped : List Float) (choppedStarts : List ℕ) (p q i : ℕ) : Type 0 where
    pub lent : Lent 8 wide many p q xs ss
    pub same : length xs ≡ length xs₀
    pub same-starts : length ss ≡ length ss₀
    pub same-chopped : length chopped ≡ length chopped₀
    pub same-chopped-starts : length choppedStarts ≡ length choppedStarts₀
    pub rest : collected_all a (room_of wide many chopped₀ choppedStarts₀) at (drop i ids) (first_held wide many p xs q ss) ≡ collected_all a (room_of wide many chopped₀ choppedStarts₀) at ids no_paths

  pub collecting-start : Lent 8 wide many 0 0 xs₀ ss₀ → Collecting xs₀ ss₀ chopped₀ choppedStarts₀ 0 0 0
  unfolding view
  collecting-start h = record { lent = h; same = refl; same-starts = refl; same-chopped = refl; same-chopped-starts = refl; rest = refl }

  module _ (xs : List Float) (ss : List ℕ) (chopped : List Float) (choppedStarts : List ℕ) (p q i : ℕ) (h : Collecting xs ss chopped choppedStarts p q i) where
    module _ (k : ℕ) (low : i < length ids) (here : k ≡ get_or ids i 0) (ys : List Float) (us : List ℕ) {r : Result (ℕ × ℕ) Refusal}
        {t : Placement} (stands : t ≡ unplaced a) (w : EndsBoth (collected t (room_of wide many chopped choppedStarts) (at k) (first_held wide many p xs q ss)) (take wide ys) (take many us) r) where
      onward : whole ≡ next (collected t (room_of wide many chopped choppedStarts) (at k) (first_held wide many p xs q ss)) (collected_all a (room_of wide many chopped₀ choppedStarts₀) at (drop (i + 1) ids))
      unfolding collected_all
      onward = sym h.rest ∙ rw (drop-cons ids i 0 low, ← here, ← stands, h.same-chopped, h.same-chopped-starts, add-one)

      pub collecting-refused : {e : Refusal} → r ≡ Err e → EndsBoth (collected_all a (room_of wide many chopped₀ choppedStarts₀) at ids no_paths) (take wide ys) (take many us) (Err e)
      collecting-refused e = refuses-both (take wide ys) (take many us) (onward ∙ rw (both-refused w e))

      pub collecting-turn : {n m : ℕ} → r ≡ Ok (n, m) → (chopped' : List Float) (choppedStarts' : List ℕ) → length ys ≡ length xs → length us ≡ length ss → length chopped' ≡ length chopped
          → length choppedStarts' ≡ length choppedStarts → Collecting ys us chopped' choppedStarts' n m (i + 1)
      collecting-turn {n} {m} e chopped' choppedStarts' lx ls lc lu = record {
        lent = record {
          long = omega (arith, h.lent.long, lx);
          broad = omega (arith, h.lent.broad, ls);
          points_fit = (w.fits n m e).0;
          starts_fit = (w.fits n m e).1;
        };
        same = lx ∙ h.same;
        same-starts = ls ∙ h.same-starts;
        same-chopped = lc ∙ h.same-chopped;
        same-chopped-starts = lu ∙ h.same-chopped-starts;
        rest = sym (onward ∙ rw (both_at w e));
      }

    pub collecting-end : length ids ≤ i → EndsBoth (collected_all a (room_of wide many chopped₀ choppedStarts₀) at ids no_paths) (take wide xs) (take many ss) (Ok (p, q))
    unfolding collected_all
    collecting-end l = answers-both p q (take wide xs) (take many ss) (sym h.rest ∙ rw (drop_of_length-le ids {i = i} l)) h.lent.points_fit h.lent.starts_fit
