-- Halving, the loop over the pieces of a segment, and the one over the segments of a path. Assumes nothing.
use mathlib.Core.Path.{◌≡◌, refl, sym, ap, ◌∙◌, subst}
use mathlib.Core.Bool.{Bool, true, false}
use mathlib.Core.List.{List, ◌∷◌}
use Prim.Native.Nat.{ℕ, zero, suc, ◌+◌, ◌-◌, ◌*◌, ◌/◌, ◌≤◌, ◌<◌}
use native.Mathlib.Numerals.{sub-one}
use native.Mathlib.Omega.{arith}
use lib.Dec.{T}
use lib.ListN.{length, get_or, set}
use lib.Seq.{slice, slice_empty}
use lib.Ieee.{Float}
use Rattle.geometry.specs.declared.vector.Vector.{Vector}
use Rattle.refusals.specs.declared.Refusal.{Refusal}
use Rattle.rows.specs.Rows.{row, set_row}
use Rattle.rows.specs.Points.{points, point_of}
use Rattle.paths.specs.Answers.{next}
use Rattle.paths.specs.Paths.{push, one_path, stage}
use Rattle.paths.specs.Ends.{places, all_points, Ends, EndsBoth}
use Rattle.paths.specs.Judged.{paths_judged}
use Rattle.paths.proofs.Ending.{ends_at, ends-refused, refuses, answers}
use Rattle.paths.proofs.Parts.{part-cons}
use Rattle.paths.proofs.Judging.{unless-refused, unless-fine}
use Rattle.view.specs.Views.{view_ok, args_of}
use Rattle.view.specs.declared.View.{View}
use Rattle.view.specs.declared.RenderArgs.{RenderArgs}
use Rattle.path_chop.specs.declared.Screen.{Screen}
use Rattle.path_chop.specs.declared.Spot.{Spot}
use Rattle.path_chop.specs.Chop.{screen_of, spot_of, middle_of, stops, push_or, subdivide, done, most_halvings, chop_from, path_chop, chop_paths, call_upto, chop_call}
use Rattle.path_chop.specs.Waits.{spot_in, spot_row}
use Rattle.path_chop.proofs.Waiting.{waiting, ahead, Within, waiting-more, within_more, waiting-next, within-next, turns, turns_of, turns_more, next-next, next-none}
use Rattle.std.specs.Prelude.{Err, Ok, Result, ⊤}

-- ---- a segment, by whether it is halved
module _ (s : Screen) (room : ℕ) (a b : Spot) (vs : List Vector) (t : Bool) where
  stop-here : (depth : ℕ) → t ≡ done s depth a b → t ≡ true → subdivide s room depth a b vs ≡ push room vs b.at
  unfolding subdivide push_or done
  stop-here zero et e = refl
  stop-here (suc depth) et e = rw (← et, e)

  halve : (depth : ℕ) (m : Spot) → t ≡ done s depth a b → t ≡ false → m ≡ middle_of s a b → subdivide s room depth a b vs ≡ next (subdivide s room (depth - 1) a m vs) (subdivide s room (depth - 1) m b)
  unfolding subdivide push_or done
  halve zero m et e em = absurd (subst T (sym et ∙ e) tt)
  halve (suc depth) m et e em = rw (← et, e, sub-one, em)

-- a segment that is halved has halvings left
pub some_left : (s : Screen) (a b : Spot) (t : Bool) (depth : ℕ) → t ≡ done s depth a b → t ≡ false → 0 < depth
unfolding done
some_left s a b t zero et e = absurd (subst T (sym et ∙ e) tt)
some_left s a b t (suc depth) et e = omega arith

pub done_none : (s : Screen) (a b : Spot) (left : ℕ) → left ≡ 0 → true ≡ done s left a b
unfolding done
done_none s a b left e = rw e

pub done-some : (s : Screen) (a b : Spot) (left : ℕ) {t : Bool} → (left ≡ 0 → ⊥) → t ≡ stops s a b → t ≡ done s left a b
unfolding done
done-some s a b zero n e = absurd (n refl)
done-some s a b (suc left) n e = e

-- ---- a segment in a loop: the piece at hand, and then those that lead to the ends that wait, answer as the whole does
pub record Subdividing (s : Screen) (a b : Spot) (out₀ : List Float) (n : ℕ) (es : List Float) (ls : List ℕ) (out : List Float) (from to : Spot) (left m k : ℕ) : Type 0 where
  pub same : length out ≡ length out₀
  pub upto : left + k ≤ most_halvings
  pub within : Within ls k
  pub fits : m * 3 ≤ length out
  pub rest : next (subdivide s (places out₀) left from to (points m out)) (ahead s (places out₀) (waiting es ls k) to) ≡ subdivide s (places out₀) most_halvings a b (points n out₀)

module _ (s : Screen) (a b : Spot) (out₀ : List Float) (n : ℕ) where
  pub subdividing-start : (es : List Float) (ls : List ℕ) → n * 3 ≤ length out₀ → Subdividing s a b out₀ n es ls out₀ a b most_halvings n 0
  unfolding waiting ahead Within
  subdividing-start es ls f = record { same = refl; upto = omega arith; within = tt; fits = f; rest = next-none _ }

  module _ (es : List Float) (ls : List ℕ) (out : List Float) (from to : Spot) (left m k : ℕ) (h : Subdividing s a b out₀ n es ls out from to left m k) (t : Bool) (et : t ≡ done s left from to) where
    -- the piece is halved, and its end waits
    module _ (e : t ≡ false) (le : length es ≡ 222) (ll : length ls ≡ 37) where
      pub subdividing-room : (k * 6 + 6 ≤ length es) × (k < length ls)
      subdividing-room = let l : 0 < left = some_left s from to t left et e in (omega (arith, h.upto), omega (arith, h.upto))

      module _ (es' : List Float) (ls' : List ℕ) (ee : es' ≡ set_row 6 k (spot_row to) es) (el : ls' ≡ set ls k (left - 1)) where
        pub subdividing-less : turns (left - 1) + turns_of (waiting es' ls' (k + 1)) < turns left + turns_of (waiting es ls k)
        subdividing-less = turns_more es ls k left es' ls' to subdividing-room.0 subdividing-room.1 ee el (some_left s from to t left et e)

        module _ (mid : Spot) (em : mid ≡ middle_of s from to) where
          still : next (subdivide s (places out₀) (left - 1) from mid (points m out)) (ahead s (places out₀) (record { end = to; left = left - 1 } ∷ waiting es ls k) mid) ≡ subdivide s (places out₀) most_halvings a b (points n out₀)
          unfolding ahead
          still =
              sym (next-next (subdivide s (places out₀) (left - 1) from mid (points m out)) (subdivide s (places out₀) (left - 1) mid to) (ahead s (places out₀) (waiting es ls k) to))
              ∙ sym (ap (λ (x : Result (List Vector) Refusal). next x (ahead s (places out₀) (waiting es ls k) to)) (halve s (places out₀) from to (points m out) t left mid et e em))
              ∙ h.rest

          pub subdividing-halved : Subdividing s a b out₀ n es' ls' out from mid (left - 1) m (k + 1)
          subdividing-halved =
              let l : 0 < left = some_left s from to t left et e in
              record {
                same = h.same;
                upto = omega (arith, h.upto);
                within = within_more es ls k to (left - 1) es' ls' subdividing-room.0 subdividing-room.1 ee el h.within (omega (arith, h.upto));
                fits = h.fits;
                rest = rw (waiting-more es ls k to (left - 1) es' ls' subdividing-room.0 subdividing-room.1 ee el) still;
              }

    -- the piece is done: its end is pushed
    module _ (e : t ≡ true) (out' : List Float) {r : Result ℕ Refusal} (w : Ends (push (places out) (points m out) to.at) out' r) where
      pushed : subdivide s (places out₀) most_halvings a b (points n out₀) ≡ next (push (places out) (points m out) to.at) (ahead s (places out₀) (waiting es ls k) to)
      pushed = sym h.rest ∙ ap (λ (x : Result (List Vector) Refusal). next x (ahead s (places out₀) (waiting es ls k) to)) (stop-here s (places out₀) from to (points m out) t left et e ∙ ap (λ (l : ℕ). push (l / 3) (points m out) to.at) (sym h.same))

      pub subdividing-refused : {x : Refusal} → r ≡ Err x → Ends (subdivide s (places out₀) most_halvings a b (points n out₀)) out' (Err x)
      subdividing-refused p = refuses out' (pushed ∙ rw (ends-refused w p))

      module _ {q : ℕ} (p : r ≡ Ok q) where
        goes_on : subdivide s (places out₀) most_halvings a b (points n out₀) ≡ ahead s (places out₀) (waiting es ls k) to (points q out')
        goes_on = pushed ∙ rw (ends_at w p)

        pub subdividing-end : k ≡ 0 → Ends (subdivide s (places out₀) most_halvings a b (points n out₀)) out' (Ok q)
        unfolding waiting ahead
        subdividing-end z = answers q out' (goes_on ∙ rw z) (w.fits q p)

        pub subdividing-next : (to' : Spot) → to' ≡ spot_in (row 6 (k - 1) es) → 0 < k → length out' ≡ length out → Subdividing s a b out₀ n es ls out' to to' (get_or ls (k - 1) 0) q (k - 1)
        unfolding ahead
        subdividing-next to' ez z g = record {
          same = g ∙ h.same;
          upto = omega (arith, (within-next es ls k z h.within).0);
          within = (within-next es ls k z h.within).1;
          fits = w.fits q p;
          rest = sym (goes_on ∙ rw (waiting-next es ls k z, ← ez));
        }

-- ---- a path, segment by segment: what is left to chop answers as the whole does
pub record Chopping (s : Screen) (path out₀ : List Float) (first : Spot) (from end n : ℕ) (out : List Float) (a : Spot) (i m : ℕ) : Type 0 where
  pub same : length out ≡ length out₀
  pub upto : i ≤ end
  pub within : end * 3 ≤ length path
  pub fits : m * 3 ≤ length out
  pub left : chop_from most_halvings s (places out₀) a (slice i end (all_points path)) (points m out) ≡ chop_from most_halvings s (places out₀) first (slice from end (all_points path)) (points n out₀)

module _ (s : Screen) (path out₀ : List Float) (first : Spot) (from end n : ℕ) where
  pub chopping-start : from ≤ end → end * 3 ≤ length path → n * 3 ≤ length out₀ → Chopping s path out₀ first from end n out₀ first from n
  chopping-start h k f = record { same = refl; upto = h; within = k; fits = f; left = refl }

  module _ (out : List Float) (a : Spot) (i m : ℕ) (h : Chopping s path out₀ first from end n out a i m) where
    module _ (l : i < end) (v : Vector) (b : Spot) (ev : v ≡ point_of (row 3 i path)) (eb : b ≡ spot_of s v) (out' : List Float) {r : Result ℕ Refusal} (w : Ends (subdivide s (places out) most_halvings a b (points m out)) out' r) where
      onward : chop_from most_halvings s (places out₀) a (slice i end (all_points path)) (points m out) ≡ next (subdivide s (places out) most_halvings a b (points m out)) (chop_from most_halvings s (places out₀) b (slice (i + 1) end (all_points path)))
      unfolding chop_from
      onward = rw (part-cons path i end h.within v l ev, ← eb, h.same)

      pub chopping-turn : {q : ℕ} → length out' ≡ length out → r ≡ Ok q → Chopping s path out₀ first from end n out' b (i + 1) q
      chopping-turn {q} k t = record {
        same = k ∙ h.same;
        upto = omega arith;
        within = h.within;
        fits = w.fits q t;
        left = sym (onward ∙ ap (λ (x : Result (List Vector) Refusal). next x (chop_from most_halvings s (places out₀) b (slice (i + 1) end (all_points path)))) (ends_at w t)) ∙ h.left;
      }

      pub chopping-refused : {k : Refusal} → r ≡ Err k → Ends (chop_from most_halvings s (places out₀) first (slice from end (all_points path)) (points n out₀)) out' (Err k)
      chopping-refused t =
          refuses out' (sym h.left ∙ onward ∙ ap (λ (x : Result (List Vector) Refusal). next x (chop_from most_halvings s (places out₀) b (slice (i + 1) end (all_points path)))) (ends-refused w t))

    pub chopping-end : end ≤ i → Ends (chop_from most_halvings s (places out₀) first (slice from end (all_points path)) (points n out₀)) out (Ok m)
    unfolding chop_from
    chopping-end l =
        let e : i ≡ end = omega (arith, h.upto) in
        answers m out (sym h.left ∙ rw (e, slice_empty end (all_points path))) h.fits

-- ---- a whole path: empty, or its first point and then the segments
module _ (s : Screen) (path : List Float) (from end room : ℕ) (vs : List Vector) where
  pub chop-none : from ≤ end → end ≤ from → path_chop most_halvings s room (slice from end (all_points path)) vs ≡ Ok vs
  unfolding path_chop
  chop-none h l = let e : from ≡ end = omega arith in rw (e, slice_empty end (all_points path))

  pub chop-some : (v : Vector) (b : Spot) → from < end → end * 3 ≤ length path → v ≡ point_of (row 3 from path) → b ≡ spot_of s v
      → path_chop most_halvings s room (slice from end (all_points path)) vs ≡ next (push room vs v) (chop_from most_halvings s room b (slice (from + 1) end (all_points path)))
  unfolding path_chop
  chop-some v b l fit e eb = rw (part-cons path from end fit v l e, ← eb)

-- ---- the public call
module _ (view : View) (xs : List Float) (ss : List ℕ) (room startRoom : ℕ) (b : Bool) (eb : b ≡ view_ok view) (v : Result ⊤ Refusal) (ev : v ≡ paths_judged xs ss b) where
  pub call-refused : {k : Refusal} → v ≡ Err k → Err k ≡ chop_call view xs ss room startRoom
  unfolding call_upto
  call-refused e = unless-refused (chop_paths (args_of view) (all_points xs) ss room startRoom) e ∙ rw (ev, eb)

  pub call-fine : (a : RenderArgs) → a ≡ args_of view → v ≡ Ok tt → chop_paths a (all_points xs) ss room startRoom ≡ chop_call view xs ss room startRoom
  unfolding call_upto
  call-fine a ea e = rw ea (unless-fine (chop_paths (args_of view) (all_points xs) ss room startRoom) e ∙ rw (ev, eb))

-- the screen is made once
pub chopped-as : (a : RenderArgs) (vs : List Vector) (ss : List ℕ) (room startRoom : ℕ) {s : Screen} {ys : List Float} {us : List ℕ} {r : Result (ℕ × ℕ) Refusal} → s ≡ screen_of a
    → EndsBoth (stage (one_path (path_chop most_halvings s)) vs ss room startRoom) ys us r → EndsBoth (chop_paths a vs ss room startRoom) ys us r
chopped-as a vs ss room startRoom {ys = ys} {us = us} {r = r} e w = subst (λ (x : Screen). EndsBoth (stage (one_path (path_chop most_halvings x)) vs ss room startRoom) ys us r) e w
