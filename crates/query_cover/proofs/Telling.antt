-- A word a point, then zeros: the loop that writes them, whatever is told of a point. Assumes nothing.
use Prim.Native.Nat.{ℕ, ◌+◌, ◌-◌, ◌≤◌, ◌<◌}
use mathlib.Core.Path.{◌≡◌, sym, ap, subst, ◌∙◌}
use mathlib.Core.List.{List}
use native.Mathlib.Omega.{arith}
use lib.ListN.{length, get_or, set, replicate, length-append, length-replicate, get_or-eq_default}
use lib.Seq.{take_all}
use lib.Ieee.{Float}
use Rattle.geometry.specs.declared.vector.Vector.{Vector}
use Rattle.rows.specs.Rows.{row, view, padded}
use Rattle.rows.specs.Points.{point_of}
use Rattle.rows.proofs.Rows.{length-view, get_d-view, get_d-padded}
use Rattle.query_scene.proofs.Copies.{Copied, copied-turn, copied-end}

module _ (tell : Vector → ℕ) (n : ℕ) (tested : List Float) where
  -- what is told of the first n points
  abbrev pub words : List ℕ
  words = view 3 (λ (p : List Float). tell (point_of p)) n tested

  pub word_after : (k : ℕ) → n ≤ k → 0 ≡ get_or words k 0
  word_after k h = sym (get_or-eq_default words 0 (omega (arith, length-view 3 (λ (p : List Float). tell (point_of p)) n tested)))

  pub word-is : (k : ℕ) → k < n → (p : Vector) → p ≡ point_of (row 3 k tested) → (b : ℕ) → b ≡ tell p → b ≡ get_or words k 0
  word-is k h p ep b eb = eb ∙ ap tell ep ∙ sym (get_d-view 3 (λ (p : List Float). tell (point_of p)) n k tested 0 h)

  -- the words and then zeros, as many as the slice has places
  all-length : (L : ℕ) → n ≤ L → length (padded 0 L words) ≡ L
  unfolding padded
  all-length L h =
      let z : ℕ = 0 in
      length-append words (replicate (L - length words) z)
      ∙ ap (λ (m : ℕ). length words + m) (length-replicate (L - length words) z)
      ∙ omega (arith, length-view 3 (λ (p : List Float). tell (point_of p)) n tested)

  -- the loop that writes them
  module _ (told₀ : List ℕ) (h : n ≤ length told₀) where
    abbrev all : List ℕ
    all = padded 0 (length told₀) words

    pub telling-turn : (told : List ℕ) (k : ℕ) → Copied all told₀ (length told₀) told k → k < length told → (b : ℕ) → b ≡ get_or words k 0 → Copied all told₀ (length told₀) (set told k b) (k + 1)
    telling-turn told k T l b e =
        subst (λ (x : ℕ). Copied all told₀ (length told₀) (set told k x) (k + 1)) (get_d-padded 0 (length told₀) words k ∙ sym e)
        (copied-turn all told₀ (length told₀) told k T (omega (arith, l, T.same)) (omega (arith, all-length (length told₀) h)) (omega arith))

    pub telling-end : (told : List ℕ) (k : ℕ) → Copied all told₀ (length told₀) told k → length told ≤ k → told ≡ padded 0 (length told₀) words
    telling-end told k T l =
        sym (take_all (length told₀) told (omega (arith, T.same)))
        ∙ copied-end all told₀ (length told₀) told k T (omega (arith, l, T.same))
        ∙ take_all (length told₀) all (omega (arith, all-length (length told₀) h))
