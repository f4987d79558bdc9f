-- What a scan of a drawing's paths finds. Assumes nothing.
use mathlib.Core.Path.{◌≡◌, refl, sym, ap}
use mathlib.Core.Bool.{Bool, true, false, cond}
use mathlib.Core.List.{List}
use Prim.Native.Nat.{ℕ, zero, suc, ◌+◌, ◌-◌, ◌<◌, ◌≤◌}
use native.Mathlib.Nat.{sub-zero}
use native.Mathlib.Omega.{arith}
use borrow.Author.Tests.{eqb-true, eqb-false}
use lib.Dec.{eqb}
use lib.Ieee.{Float, lt}
use Rattle.geometry.specs.declared.vector.Vector.{Vector}
use Rattle.plotter_pens.specs.declared.NearestPath.{NearestPath}
use Rattle.plotter_pens.specs.Pens.{LentDrawing, waits, nearer_path, offered, nearest_in}
use Rattle.std.specs.Prelude.{None, Option, Some}

pub true-false : {A : Type 0} (b : Bool) → b ≡ true → b ≡ false → A
true-false b p q = let z : ◌≡◌ {A = ℕ} 0 1 = cc in absurd (omega arith)

some-none : {A : Type 0} (b : NearestPath) → Some b ≡ None → A
some-none b e = let z : ◌≡◌ {A = ℕ} 0 1 = cc in absurd (omega arith)

-- a path that is found has its place in P
abbrev pub Placed : (ℕ → Type 0) → Option NearestPath → Type 0
Placed P None = Unit {0}
Placed P (Some b) = P b.place

-- a path that is offered is then the best, or the best stays
nearer-found : {A : Type 0} (b : Option NearestPath) (i : ℕ) (d : Float) → nearer_path b i d ≡ None → A
unfolding nearer_path
nearer-found None i d e = some-none _ e
nearer-found (Some b) i d e = some-none _ e

nearer-place : (P : ℕ → Type 0) (b : Option NearestPath) (i : ℕ) (d : Float) → Placed P b → P i → Placed P (nearer_path b i d)
unfolding nearer_path
nearer-place P None i d old new = new
nearer-place P (Some b) i d old new = by-test (lt d b.distance)
  where
    by-test : (u : Bool) → P (cond u (record { place = i; distance = d }) b).place
    by-test true = new
    by-test false = old

module _ (d : LentDrawing) (marks : List ℕ) (first : ℕ) (pen : Vector) where
  -- ---- the loop
  pub scan-start : (n : ℕ) (b : Option NearestPath) → nearest_in d marks first pen n 0 b ≡ nearest_in d marks first pen (n - 0) 0 b
  scan-start n b = ap (λ (m : ℕ). nearest_in d marks first pen m 0 b) (sym (sub-zero n))

  pub scan-more : (n k : ℕ) (b : Option NearestPath) → k < n → nearest_in d marks first pen (n - k) k b ≡ nearest_in d marks first pen (n - (k + 1)) (k + 1) (offered d marks first pen b k)
  unfolding nearest_in
  scan-more n k b h = let e : n - k ≡ suc (n - (k + 1)) = omega arith in rw e

  pub scan-done : (n k : ℕ) (b : Option NearestPath) → n ≤ k → nearest_in d marks first pen (n - k) k b ≡ b
  unfolding nearest_in
  scan-done n k b h = let e : n - k ≡ 0 = omega arith in rw e

  -- ---- whatever holds of each path that waits, and of the best before, holds of the best after
  offered-place : (P : ℕ → Type 0) (b : Option NearestPath) (k : ℕ) → Placed P b → (waits d marks first k ≡ true → P (first + k))
      → (u : Bool) → waits d marks first k ≡ u → Placed P (offered d marks first pen b k)
  unfolding offered
  offered-place P b k old new true e = rw e (nearer-place P b (first + k) _ old (new e))
  offered-place P b k old new false e = rw e old

  pub scan-place : (P : ℕ → Type 0) (all : ℕ) → ((k : ℕ) → k < all → waits d marks first k ≡ true → P (first + k))
      → (n k : ℕ) (b : Option NearestPath) → k + n ≤ all → Placed P b → Placed P (nearest_in d marks first pen n k b)
  unfolding nearest_in
  scan-place P all holds zero k b h old = old
  scan-place P all holds (suc n) k b h old =
      scan-place P all holds n (k + 1) (offered d marks first pen b k) (omega arith)
      (offered-place P b k old (holds k (omega arith)) (waits d marks first k) refl)

  -- ---- where nothing is found nothing waits
  offered-none : (b : Option NearestPath) (k : ℕ) (u : Bool) → waits d marks first k ≡ u → offered d marks first pen b k ≡ None → (b ≡ None) × (waits d marks first k ≡ false)
  unfolding offered
  offered-none b k true e = rw e (nearer-found b (first + k) _)
  offered-none b k false e = rw e (λ f. (f, refl))

  pub scan-none : (n k : ℕ) (b : Option NearestPath) → nearest_in d marks first pen n k b ≡ None
      → (b ≡ None) × ((j : ℕ) → k ≤ j → j < k + n → waits d marks first j ≡ false)
  unfolding nearest_in
  scan-none zero k b e = (e, λ j l h. absurd (omega arith))
  scan-none (suc n) k b e =
      let r : (offered d marks first pen b k ≡ None) × ((j : ℕ) → k + 1 ≤ j → j < k + 1 + n → waits d marks first j ≡ false)
      = scan-none n (k + 1) (offered d marks first pen b k) e in
      let q : (b ≡ None) × (waits d marks first k ≡ false) = offered-none b k (waits d marks first k) refl r.0 in
      (q.0, λ j l h. here-or-later q.1 r.1 j (eqb j k) refl l h)
    where
      here-or-later : waits d marks first k ≡ false → ((j : ℕ) → k + 1 ≤ j → j < k + 1 + n → waits d marks first j ≡ false)
          → (j : ℕ) (u : Bool) → eqb j k ≡ u → k ≤ j → j < k + suc n → waits d marks first j ≡ false
      here-or-later here later j true e l h = rw (eqb-true j k e) here
      here-or-later here later j false e l h = later j (omega (arith, eqb-false j k e)) (omega arith)
