-- The placings of a lent slice, read from the last to the first. Assumes nothing.
use mathlib.Core.Path.{◌≡◌, sym, ap, ◌∙◌}
use mathlib.Core.List.{List, [], ◌∷◌}
use Prim.Native.Nat.{ℕ, suc, ◌+◌, ◌-◌, ◌≤◌, ◌<◌}
use native.Mathlib.Omega.{arith}
use lib.ListN.{length, drop, drop_of_length-le}
use lib.Seq.{drop-cons}
use lib.Ieee.{Float}
use Rattle.matrix.specs.Matrices.{identity_m}
use Rattle.matrix.specs.declared.Matrix.{Matrix}
use Rattle.rows.specs.Rows.{row}
use Rattle.rows.specs.Entries.{numbers_of}
use Rattle.rows.specs.declared.Numbers.{Numbers}
use Rattle.rows.proofs.Rows.{length-view, get_d-view}
use Rattle.scene.specs.Entries.{matrix_of}
use Rattle.draw_arcs.specs.Stances.{placings_of}
use Rattle.draw_arcs.specs.declared.Placings.{Placings}
use Rattle.draw_outlines.specs.Calls.{matrices_in}

abbrev matrix_in : List Float → Matrix
matrix_in r = matrix_of (numbers_of r)

-- the placings from k on are held
pub record Reading (xs : List Float) (n : ℕ) (p : Placings) (k : ℕ) : Type 0 where
  pub upto : k ≤ n
  pub spare : p.free + n ≡ 8 + k
  pub rest : placings_of p ≡ drop k (matrices_in n xs)

module _ (xs : List Float) (n : ℕ) where
  count : length (matrices_in n xs) ≡ n
  count = length-view 16 matrix_in n xs

  pub reading-start : (p : Placings) → placings_of p ≡ [] → p.free ≡ 8 → Reading xs n p n
  reading-start p e f = record {
    upto = omega arith;
    spare = omega (arith, f);
    rest = e ∙ sym (drop_of_length-le (matrices_in n xs) {i = n} (omega (arith, count)));
  }

  module _ (p : Placings) (k : ℕ) (h : Reading xs n p k) where
    pub reading-turn : 0 < k → {a : Numbers} → a ≡ numbers_of (row 16 (k - 1) xs) → {m : Matrix} → m ≡ matrix_of a → (q : Placings) → placings_of q ≡ m ∷ placings_of p → q.free + 1 ≡ p.free → Reading xs n q (k - 1)
    reading-turn z {a} ea {m} em q e f =
        let low : k - 1 < n = omega (arith, z, h.upto) in
        let next : suc (k - 1) ≡ k = omega (arith, z) in
        let here : m ≡ matrix_in (row 16 (k - 1) xs) = em ∙ ap matrix_of ea in
        let step = drop-cons (matrices_in n xs) (k - 1) identity_m (omega (arith, low, count)) in
        record {
          upto = omega (arith, h.upto);
          spare = omega (arith, h.spare, f, z);
          rest = e ∙ rw (here, h.rest) (sym (step ∙ rw (get_d-view 16 matrix_in n (k - 1) xs identity_m low, next)));
        }

    pub reading-end : k ≤ 0 → placings_of p ≡ matrices_in n xs
    reading-end e = let z : k ≡ 0 = omega (arith, e) in h.rest ∙ rw z
