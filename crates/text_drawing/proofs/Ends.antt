-- How writing starts and ends in a slice, and counts that are drawn in. Assumes nothing.
use Prim.Native.Nat.{ℕ, zero, suc, ◌-◌, ◌*◌, ◌≤◌, ◌<◌}
use mathlib.Core.Path.{◌≡◌, refl, sym, ap, ap₂, ◌∙◌}
use mathlib.Core.Logic.{◌⊎◌, inl, inr}
use mathlib.Core.Bool.{Bool, true, false, cond}
use mathlib.Core.List.{List, [], ◌∷◌, ◌++◌}
use native.Mathlib.Omega.{arith}
use borrow.Author.Tests.{le-leb, lt-leb, ltb-true}
use lib.Dec.{ltb, leb}
use lib.ListN.{length, take, drop, replicate}
use lib.Seq.{take_all, length-take-le}
use lib.Ieee.{Float}
use Rattle.floats.proofs.Order.{le-or-lt}
use Rattle.geometry.specs.declared.vector.Vector.{Vector}
use Rattle.rows.specs.Rows.{view}
use Rattle.rows.specs.Points.{points, point_of}
use Rattle.rows.proofs.Rows.{padded-take}
use Rattle.refusals.specs.Refusals.{number_of}
use Rattle.refusals.specs.declared.Refusal.{Refusal}
use Rattle.refusals.specs.declared.Refusal.TheVariants.{Room}
use Rattle.paths.specs.Paths.{push_all, paths_of}
use Rattle.paths.specs.Ends.{places, all_points}
use Rattle.paths.specs.Ranges.{lesser_of}
use Rattle.paths.proofs.Parts.{part-all, lesser-low, length-points}
use Rattle.paths.proofs.Runs.{extend_fits, extend-full}
use Rattle.text_drawing.specs.Drawings.{drawing_text, refused_text, text_of, fitting, written, laid}
use Rattle.text_drawing.specs.Writing.{sofar, adds, CountWithin, Writes}
use Rattle.text_drawing.proofs.Adding.{writes_as}
use Rattle.std.specs.Prelude.{Err, Ok, Result}

-- ---- from nothing
pub within_none : (room : ℕ) → CountWithin (Ok 0) room
within_none room n e = let z : ◌≡◌ {A = ℕ} 0 n = cc in omega arith

fits-or-not : (room : ℕ) (t : List ℕ) → push_all room [] t ≡ fitting room t
unfolding fitting
fits-or-not room t = by (le-or-lt (length t) room)
  where
    by : (length t ≤ room) ⊎ (room < length t) → push_all room [] t ≡ cond (leb (length t) room) (Ok t) (Err Room)
    by (inl h) = extend_fits room [] t (omega arith) ∙ rw (le-leb (length t) room h)
    by (inr h) = extend-full room [] t (omega arith) (omega arith) ∙ rw (lt-leb (length t) room h)

module _ {t xs ys : List ℕ} {d : Result ℕ Refusal} (w : Writes t xs (Ok 0) ys d) where
  pub all-written : sofar d ys ≡ fitting (length xs) t
  unfolding adds
  all-written = w.is ∙ fits-or-not (length xs) t

  module _ {r : Result ℕ Refusal} {zs : List ℕ} (l : length ys ≡ length xs) (a : r ≡ written (sofar d ys)) (b : zs ≡ laid (sofar d ys) (length ys)) where
    pub all-answered : r ≡ written (fitting (length xs) t)
    all-answered = a ∙ ap written all-written

    pub all_laid : zs ≡ laid (fitting (length xs) t) (length xs)
    all_laid = b ∙ ap₂ laid all-written l

-- ---- to the end
module _ (xs : List ℕ) (c : Result ℕ Refusal) where
  module _ {k : Refusal} (e : c ≡ Err k) where
    pub refused-answered : Err k ≡ written (sofar c xs)
    unfolding written
    refused-answered = sym (ap (λ (d : Result ℕ Refusal). written (sofar d xs)) e)

    pub refused-laid : take 0 xs ++ replicate (length xs - 0) 0 ≡ laid (sofar c xs) (length xs)
    unfolding laid
    refused-laid = let z : length xs - 0 ≡ length xs = omega arith in ap (λ (n : ℕ). replicate n 0) z ∙ sym (ap (λ (d : Result ℕ Refusal). laid (sofar d xs) (length xs)) e)

  module _ {n : ℕ} (e : c ≡ Ok n) (h : n ≤ length xs) where
    pub at-answered : Ok n ≡ written (sofar c xs)
    unfolding written
    at-answered = sym (ap (λ (d : Result ℕ Refusal). written (sofar d xs)) e ∙ ap Ok (length-take-le n xs h))

    pub at-laid : take n xs ++ replicate (length xs - n) 0 ≡ laid (sofar c xs) (length xs)
    unfolding laid
    at-laid = padded-take 0 xs n h ∙ sym (ap (λ (d : Result ℕ Refusal). laid (sofar d xs) (length xs)) e)

-- ---- counts that are drawn in
module _ {A : Type 0} where
  pub take-lesser : (n : ℕ) (l : List A) → take (lesser_of n (length l)) l ≡ take n l
  unfolding lesser_of
  take-lesser n l = by (ltb (length l) n) (ltb-true (length l) n)
    where
      by : (t : Bool) → (t ≡ true → length l < n) → take (cond t (length l) n) l ≡ take n l
      by true h = take_all (length l) l (omega arith) ∙ sym (take_all n l (omega (arith, h refl)))
      by false h = refl

take-points : (n m : ℕ) (xs : List Float) → n ≤ m → take n (points m xs) ≡ points n xs
unfolding view
take-points zero m xs h = refl
take-points (suc n) zero xs h = absurd (omega arith)
take-points (suc n) (suc m) xs h = ap (λ (l : List Vector). point_of (take 3 xs) ∷ l) (take-points n m (drop 3 xs) (omega arith))

module _ (xs : List Float) (ss : List ℕ) (n m a b : ℕ) (p : a ≡ lesser_of n (places xs)) (q : b ≡ lesser_of m (length ss)) where
  pub drawn-fits : (a * 3 ≤ length xs) × (b ≤ length ss)
  drawn-fits = (omega (arith, (lesser-low n (places xs)).1), omega (arith, (lesser-low m (length ss)).1))

  some-points : all_points (take (a * 3) xs) ≡ take n (all_points xs)
  some-points =
      let e : length (all_points xs) ≡ places xs = length-points (places xs) xs in
      part-all xs a drawn-fits.0 ∙ sym (take-points a (places xs) xs (omega (arith, drawn-fits.0))) ∙ ap (λ (i : ℕ). take i (all_points xs)) (p ∙ ap (lesser_of n) (sym e)) ∙ take-lesser n (all_points xs)

  some-starts : take b ss ≡ take m ss
  some-starts = ap (λ (i : ℕ). take i ss) q ∙ take-lesser m ss

  pub drawn-text : {c : Result (ℕ × ℕ) Refusal} {ts us : List ℕ} {d : Result ℕ Refusal} → c ≡ Ok (n, m) → Writes (drawing_text (paths_of (all_points (take (a * 3) xs)) (take b ss))) ts (Ok 0) us d → Writes (text_of c xs ss) ts (Ok 0) us d
  unfolding text_of
  drawn-text {c} e w = writes_as (ap₂ (λ (vs : List Vector) (rs : List ℕ). drawing_text (paths_of vs rs)) some-points some-starts ∙ sym (ap (λ (k : Result (ℕ × ℕ) Refusal). text_of k xs ss) e)) w

pub refused-text : (xs : List Float) (ss : List ℕ) {c : Result (ℕ × ℕ) Refusal} {k : Refusal} {n : ℕ} {ts us : List ℕ} {d : Result ℕ Refusal} → c ≡ Err k → n ≡ number_of k → Writes (refused_text n) ts (Ok 0) us d → Writes (text_of c xs ss) ts (Ok 0) us d
unfolding text_of
refused-text xs ss e q w = writes_as (ap refused_text q ∙ sym (ap (λ (k : Result (ℕ × ℕ) Refusal). text_of k xs ss) e)) w
