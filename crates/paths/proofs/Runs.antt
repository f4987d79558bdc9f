-- Runs of pushes: what they answer, how they join, and the loop that makes one. Assumes nothing.
use mathlib.Core.Path.{◌≡◌, refl, sym, ap, ◌∙◌}
use mathlib.Core.Logic.{◌⊎◌, inl, inr}
use mathlib.Core.List.{List, [], ◌∷◌, ◌++◌, append_assoc, append-nil}
use Prim.Native.Nat.{ℕ, suc, ◌+◌, ◌-◌, ◌*◌, ◌/◌, ◌≤◌, ◌<◌}
use native.Mathlib.Numerals.{add-one}
use native.Mathlib.Omega.{arith}
use borrow.Author.Tests.{lt-ltb, le-ltb}
use lib.ListN.{length, length-append}
use lib.Seq.{take_at, length-take-le, slice, slice_empty}
use lib.Ieee.{Float}
use Rattle.floats.proofs.Order.{le-or-lt}
use Rattle.geometry.specs.declared.vector.Vector.{Vector}
use Rattle.refusals.specs.declared.Refusal.{Refusal}
use Rattle.refusals.specs.declared.Refusal.TheVariants.{Room}
use Rattle.rows.specs.Rows.{row}
use Rattle.rows.specs.Points.{points, point_of}
use Rattle.rows.proofs.Rows.{view-more}
use Rattle.paths.specs.Answers.{next}
use Rattle.paths.specs.Paths.{push, push_all, front}
use Rattle.paths.specs.Ends.{places, all_points, Ends}
use Rattle.paths.proofs.Ending.{ends_at, ends-refused, ends_as, refuses, answers}
use Rattle.paths.proofs.Parts.{length-points, part-cons}
use Rattle.std.specs.Prelude.{Err, Ok, Result}

-- ---- a first answer, and what is done with it; `room` is that of the slice at the start
module _ (f g : ℕ → List Vector → Result (List Vector) Refusal) (xs ys : List Float) (n : ℕ) {r : Result ℕ Refusal} (h : Ends (f (places xs) (points n xs)) ys r) where
  pub run-refused : {e : Refusal} → r ≡ Err e → Ends (next (f (places xs) (points n xs)) (g (places xs))) ys (Err e)
  run-refused p = refuses ys (ap (λ (a : Result (List Vector) Refusal). next a (g (places xs))) (ends-refused h p))

  pub run_on : {m : ℕ} (zs : List Float) {s : Result ℕ Refusal} → r ≡ Ok m → length ys ≡ length xs → Ends (g (places ys) (points m ys)) zs s
      → Ends (next (f (places xs) (points n xs)) (g (places xs))) zs s
  run_on {m} zs p k w = ends_as (ap (λ (a : Result (List Vector) Refusal). next a (g (places xs))) (ends_at h p) ∙ ap (λ (l : ℕ). g (l / 3) (points m ys)) (sym k)) w

module _ {A : Type 0} (room : ℕ) where
  pub extend-append : (ps vs ws : List A) → push_all room ps (vs ++ ws) ≡ next (push_all room ps vs) (λ (qs : List A). push_all room qs ws)
  unfolding push_all
  extend-append ps [] ws = refl
  extend-append ps (v ∷ vs) ws = go (λ (qs : List A). extend-append qs vs ws) (push room ps v)
    where
      go : ((qs : List A) → push_all room qs (vs ++ ws) ≡ next (push_all room qs vs) (λ (rs : List A). push_all room rs ws)) → (a : Result (List A) Refusal)
          → next a (λ (qs : List A). push_all room qs (vs ++ ws)) ≡ next (next a (λ (qs : List A). push_all room qs vs)) (λ (qs : List A). push_all room qs ws)
      go ih (Ok qs) = ih qs
      go ih (Err k) = refl

  pub extend-one : (ps : List A) (v : A) → push_all room ps (v ∷ []) ≡ push room ps v
  unfolding push_all
  extend-one ps v = go (push room ps v)
    where
      go : (a : Result (List A) Refusal) → next a (λ (qs : List A). Ok qs) ≡ a
      go (Ok qs) = refl
      go (Err k) = refl

  pub extend_fits : (ps vs : List A) → length ps + length vs ≤ room → push_all room ps vs ≡ Ok (ps ++ vs)
  unfolding push_all push
  extend_fits ps [] h = rw append-nil
  extend_fits ps (v ∷ vs) h =
      rw (lt-ltb (length ps) room (omega arith)) (extend_fits (ps ++ (v ∷ [])) vs (simp length-append (omega arith)) ∙ rw append_assoc)

  pub extend-full : (ps vs : List A) → length ps ≤ room → room < length ps + length vs → push_all room ps vs ≡ Err Room
  unfolding push_all push
  extend-full ps [] h l = absurd (omega arith)
  extend-full ps (v ∷ vs) h l = by (λ a b. extend-full (ps ++ (v ∷ [])) vs a b) (le-or-lt room (length ps))
    where
      by : (length (ps ++ (v ∷ [])) ≤ room → room < length (ps ++ (v ∷ [])) + length vs → push_all room (ps ++ (v ∷ [])) vs ≡ Err Room)
          → (room ≤ length ps) ⊎ (length ps < room) → push_all room ps (v ∷ vs) ≡ Err Room
      by ih (inl q) = rw (le-ltb (length ps) room q)
      by ih (inr q) = rw (lt-ltb (length ps) room q) (ih (simp length-append (omega arith)) (simp length-append (omega arith)))

  -- a run that is answered fits, and one that is refused does not
  pub record Went (ps vs qs : List A) : Type 0 where
    pub is : qs ≡ ps ++ vs
    pub fits : length ps + length vs ≤ room

  pub extend-answered : (ps vs : List A) {qs : List A} → length ps ≤ room → push_all room ps vs ≡ Ok qs → Went ps vs qs
  extend-answered ps vs {qs} h e = by (le-or-lt (length ps + length vs) room)
    where
      by : (length ps + length vs ≤ room) ⊎ (room < length ps + length vs) → Went ps vs qs
      by (inl q) = let f = extend_fits ps vs q in record { is = cc; fits = q }
      by (inr q) = let f = extend-full ps vs h q in let z : ◌≡◌ {A = ℕ} 0 1 = cc in absurd (omega arith)

  pub extend-refused : (ps vs : List A) {e : Refusal} → length ps ≤ room → push_all room ps vs ≡ Err e → (e ≡ Room) × (room < length ps + length vs)
  extend-refused ps vs {e} h p = by (le-or-lt (length ps + length vs) room)
    where
      by : (length ps + length vs ≤ room) ⊎ (room < length ps + length vs) → (e ≡ Room) × (room < length ps + length vs)
      by (inl q) = let f = extend_fits ps vs q in let z : ◌≡◌ {A = ℕ} 0 1 = cc in absurd (omega arith)
      by (inr q) = let f = extend-full ps vs h q in (cc, q)

-- ---- all but the last
module _ {A : Type 0} where
  pub front-snoc : (l : List A) (v : A) → front (l ++ (v ∷ [])) ≡ l
  unfolding front
  front-snoc l v =
      let e : length (l ++ (v ∷ [])) - 1 ≡ length l = simp length-append (omega arith) in
      rw e (take_at l (v ∷ []) (length l) refl)

  pub front-append : (k l : List A) → 0 < length l → front (k ++ l) ≡ k ++ front l
  unfolding front
  front-append [] l h = refl
  front-append (x ∷ k) l h =
      let e : length ((x ∷ k) ++ l) - 1 ≡ suc (length (k ++ l) - 1) = simp length-append (omega arith) in
      rw e (ap (λ (t : List A). x ∷ t) (front-append k l h))

  pub length_front : (l : List A) → length (front l) ≡ length l - 1
  unfolding front
  length_front l = length-take-le (length l - 1) l (omega arith)

points-front : (n : ℕ) (xs : List Float) → points n xs ≡ front (points (n + 1) xs)
points-front n xs = rw (add-one, view-more 3 point_of n xs, front-snoc)

-- ---- two runs that share a point: the first one's last is taken back, as the Rust's `pop` does, and pushed again by the second, which is as one run that
-- pushes it once; full slices are met alike
module _ (xs ys : List Float) (n : ℕ) (l r : List Vector) (fit : n * 3 ≤ length xs) (some : 0 < length l) (more : 0 < length r) where
  low : length (points n xs) ≤ places xs
  low = rw (length-points n xs) (omega arith)

  shared : (m : ℕ) → push_all (places xs) (points n xs) l ≡ Ok (points m ys) → (0 < m) × (points (m - 1) ys ≡ points n xs ++ front l) × (length (points n xs) + length l ≤ places xs)
  shared m e =
      let w = extend-answered (places xs) (points n xs) l low e in
      let k : m ≡ n + length l = sym (length-points m ys) ∙ ap length w.is ∙ length-append (points n xs) l ∙ rw (length-points n xs) in
      let j : m ≡ m - 1 + 1 = omega arith in
      let p : points (m - 1) ys ≡ front (points m ys) = points-front (m - 1) ys ∙ ap (λ (i : ℕ). front (points i ys)) (sym j) in
      (omega arith, p ∙ ap front w.is ∙ front-append (points n xs) l some, w.fits)

  pub shared-some : (m : ℕ) → push_all (places xs) (points n xs) l ≡ Ok (points m ys) → 0 < m
  shared-some m e = (shared m e).0

  pub shared-more : (m : ℕ) → push_all (places xs) (points n xs) l ≡ Ok (points m ys) → push_all (places xs) (points n xs) (front l ++ r) ≡ push_all (places xs) (points (m - 1) ys) r
  shared-more m e =
      let w = shared m e in
      let f : push_all (places xs) (points n xs) (front l) ≡ Ok (points n xs ++ front l)
      = extend_fits (places xs) (points n xs) (front l) (omega (arith, w.2, length_front l)) in
      extend-append (places xs) (points n xs) (front l) r ∙ rw (f, ← w.1)

  pub shared-refused : (e : Refusal) → push_all (places xs) (points n xs) l ≡ Err e → push_all (places xs) (points n xs) (front l ++ r) ≡ Err e
  shared-refused e p =
      let w = extend-refused (places xs) (points n xs) l low p in
      rw w.0 (extend-full (places xs) (points n xs) (front l ++ r) low (simp length-append (omega (arith, w.1, length_front l))))

-- ---- two pushes
module _ (xs ys : List Float) (n : ℕ) (a b : Vector) {r : Result ℕ Refusal} (h : Ends (push (places xs) (points n xs) a) ys r) where
  pub two-refused : {e : Refusal} → r ≡ Err e → Ends (push_all (places xs) (points n xs) (a ∷ b ∷ [])) ys (Err e)
  unfolding push_all
  two-refused p = refuses ys (rw (ends-refused h p))

  pub two-more : {m : ℕ} (zs : List Float) {s : Result ℕ Refusal} → r ≡ Ok m → length ys ≡ length xs → Ends (push (places ys) (points m ys) b) zs s → Ends (push_all (places xs) (points n xs) (a ∷ b ∷ [])) zs s
  unfolding push_all
  two-more {m} zs p k w = ends_as (rw (ends_at h p) (extend-one (places xs) (points m ys) b ∙ ap (λ (l : ℕ). push (l / 3) (points m ys) b) (sym k))) w

-- ---- the loop: what is left to push answers as the whole does
pub record Extending (path out₀ : List Float) (from end n : ℕ) (out : List Float) (i m : ℕ) : Type 0 where
  pub same : length out ≡ length out₀
  pub upto : i ≤ end
  pub within : end * 3 ≤ length path
  pub fits : m * 3 ≤ length out
  pub left : push_all (places out₀) (points m out) (slice i end (all_points path)) ≡ push_all (places out₀) (points n out₀) (slice from end (all_points path))

module _ (path out₀ : List Float) (from end n : ℕ) where
  pub extending-start : from ≤ end → end * 3 ≤ length path → n * 3 ≤ length out₀ → Extending path out₀ from end n out₀ from n
  extending-start h w f = record { same = refl; upto = h; within = w; fits = f; left = refl }

  module _ (out : List Float) (i m : ℕ) (h : Extending path out₀ from end n out i m) where
    module _ (p : Vector) (l : i < end) (e : p ≡ point_of (row 3 i path)) (out' : List Float) {r : Result ℕ Refusal} (w : Ends (push (places out) (points m out) p) out' r) where
      onward : push_all (places out₀) (points m out) (slice i end (all_points path))
          ≡ next (push (places out) (points m out) p) (λ (qs : List Vector). push_all (places out₀) qs (slice (i + 1) end (all_points path)))
      unfolding push_all
      onward = rw (part-cons path i end h.within p l e)
          (ap (λ (k : ℕ). next (push (k / 3) (points m out) p) (λ (qs : List Vector). push_all (places out₀) qs (slice (i + 1) end (all_points path)))) (sym h.same))

      pub extending-turn : {q : ℕ} → length out' ≡ length out → r ≡ Ok q → Extending path out₀ from end n out' (i + 1) q
      extending-turn {q} k t = record {
        same = k ∙ h.same;
        upto = omega arith;
        within = h.within;
        fits = w.fits q t;
        left = sym (onward ∙ ap (λ (a : Result (List Vector) Refusal). next a (λ (qs : List Vector). push_all (places out₀) qs (slice (i + 1) end (all_points path)))) (ends_at w t)) ∙ h.left;
      }

      pub extending-refused : {k : Refusal} → r ≡ Err k → Ends (push_all (places out₀) (points n out₀) (slice from end (all_points path))) out' (Err k)
      extending-refused t =
          refuses out' (sym h.left ∙ onward ∙ ap (λ (a : Result (List Vector) Refusal). next a (λ (qs : List Vector). push_all (places out₀) qs (slice (i + 1) end (all_points path)))) (ends-refused w t))

    pub extending-end : end ≤ i → Ends (push_all (places out₀) (points n out₀) (slice from end (all_points path))) out (Ok m)
    unfolding push_all
    extending-end l =
        let e : i ≡ end = omega (arith, h.upto) in
        answers m out (sym h.left ∙ rw (e, slice_empty end (all_points path))) h.fits
