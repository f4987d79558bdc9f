-- Places that wait to be written, and what is still to be written. Assumes nothing.
use mathlib.Core.Path.{◌≡◌, sym, ap, ap₂, ◌∙◌, subst}
use mathlib.Core.Bool.{Bool, not, false}
use mathlib.Core.List.{List, [], ◌∷◌, ◌++◌, append_assoc}
use Prim.Native.Nat.{ℕ, suc, ◌+◌, ◌-◌, ◌*◌, ◌≤◌, ◌<◌}
use native.Mathlib.Omega.{arith}
use lib.Dec.{T}
use lib.ListN.{length, take, drop, get_or, set, length-set, length-append}
use lib.Seq.{slice, sets, take-set-le, get_or-set_same, get_or-set_other}
use lib.Ieee.{Float, lt, nan, is_nan, binary64, of_bits, to_bits}
use lib.Ieee.Bits.{to_bits-of_bits, nan_bits_is}
use Rattle.floats.specs.Arith.{zero_f}
use Rattle.floats.proofs.Patterns.{no-nan-bits}
use Rattle.geometry.specs.declared.vector.Vector.{Vector}
use Rattle.rows.specs.Rows.{row, view}
use Rattle.rows.specs.Points.{points, point_of}
use Rattle.rows.proofs.Rows.{view-take}
use Rattle.paths.specs.Paths.{front}
use Rattle.paths.specs.Ends.{all_points}
use Rattle.paths.proofs.Parts.{part_length, part-first, slice-take, slice-drop}
use Rattle.paths.proofs.Runs.{front-append, length_front}
use Rattle.path_rdp.specs.Rdp.{vertex, first_vertex, simplified}
use Rattle.path_simplify.proofs.Kept.{simplified-ended, Splits}

-- ---- a place as a bit pattern
pub place-no-nan : (i : ℕ) → i * 3 < 18446744073709551616 → T (not (is_nan (of_bits binary64 i)))
place-no-nan i h = subst (λ (b : Bool). T (not b)) (nan_bits_is binary64 i) (no-nan-bits i (omega arith))

pub place-back : (i : ℕ) → i * 3 < 18446744073709551616 → to_bits binary64 (of_bits binary64 i) ≡ i
place-back i h = let l : i < 18446744073709551616 = omega arith in to_bits-of_bits binary64 i l (place-no-nan i h)

-- ---- the places that wait at the end of a slice, the last one, which is nearest, first
unfoldable pub Held : List ℕ → List Float → Type 0
Held [] out = Unit {0}
Held (b ∷ bs) out = (get_or out (length out - suc (length bs)) nan ≡ of_bits binary64 b) × Held bs out

pub held-set : (bs : List ℕ) (out : List Float) (i : ℕ) (x : Float) → i + length bs < length out → Held bs out → Held bs (set out i x)
unfolding Held
held-set [] out i x h w = w
held-set (b ∷ bs) out i x h w =
    (rw (length-set out i x) (get_or-set_other out i (length out - suc (length bs)) x nan (λ e. omega arith) ∙ w.0), held-set bs out i x (omega arith) w.1)

pub held-sets : (vs : List Float) (bs : List ℕ) (out : List Float) (i : ℕ) → i + length vs + length bs ≤ length out → Held bs out → Held bs (sets out i vs)
held-sets [] bs out i h w = w
held-sets (v ∷ vs) bs out i h w = held-sets vs bs (set out i v) (suc i) (simp length-set (omega arith)) (held-set bs out i v (omega arith) w)

pub held_more : (bs : List ℕ) (b : ℕ) (out : List Float) → length bs < length out → Held bs out → Held (b ∷ bs) (set out (length out - length bs - 1) (of_bits binary64 b))
unfolding Held
held_more bs b out h w =
    let i = length out - length bs - 1 in
    let e : length out - suc (length bs) ≡ i = omega arith in
    (rw (length-set out i (of_bits binary64 b), e) (get_or-set_same out i (of_bits binary64 b) nan (omega arith)), held-set bs out i (of_bits binary64 b) (omega arith) w)

-- the points before a cell that is written stay
pub points_kept : (m : ℕ) (out : List Float) (i : ℕ) (x : Float) → m * 3 ≤ i → m * 3 ≤ length out → points m (set out i x) ≡ points m out
points_kept m out i x h l =
    sym (view-take 3 point_of m (set out i x) (simp length-set (omega arith)))
    ∙ ap (view 3 point_of m) (take-set-le (m * 3) out i x h)
    ∙ view-take 3 point_of m out l

-- ---- they rise
unfoldable pub Rising : ℕ → List ℕ → ℕ → Type 0
Rising a [] end = a < end
Rising a (b ∷ bs) end = (a < b) × Rising b bs end

pub rising-room : (a : ℕ) (bs : List ℕ) (end : ℕ) → Rising a bs end → a + length bs < end
unfolding Rising
rising-room a [] end h = omega arith
rising-room a (b ∷ bs) end h = omega (arith, h.0, rising-room b bs end h.1)

-- ---- what is still to be written from place a on, by way of the places that wait
unfoldable pub rest : Float → List Vector → ℕ → List ℕ → List Vector
rest t vs a [] = vertex vs a ∷ []
rest t vs a (b ∷ bs) = front (simplified t (slice a (b + 1) vs)) ++ rest t vs b bs

module _ (t : Float) (low : lt t zero_f ≡ false) (path : List Float) where
  abbrev A : List Vector
  A = all_points path

  -- each place that waits is written, and a
  pub rest_some : (a : ℕ) (bs : List ℕ) (end : ℕ) → end * 3 ≤ length path → Rising a bs end → length bs + 1 ≤ length (rest t A a bs)
  unfolding rest Rising
  rest_some a [] end fit h = omega arith
  rest_some a (b ∷ bs) end fit h =
      let r = rising-room b bs end h.1 in
      let n = part_length path a (b + 1) (omega arith) in
      let e = simplified-ended t low (slice a (b + 1) A) (omega (arith, h.0)) in
      let ih = rest_some b bs end fit h.1 in
      simp length-append (omega (arith, e.two, length_front (simplified t (slice a (b + 1) A))))

  -- a split changes nothing
  pub rest-split : (a b : ℕ) (bs : List ℕ) (k s : ℕ) → (b + 1) * 3 ≤ length path → s ≡ a + k → Splits t low (slice a (b + 1) A) k
      → rest t A a (b ∷ bs) ≡ rest t A a (s ∷ b ∷ bs)
  unfolding rest
  rest-split a b bs k s fit e w =
      let n = part_length path a (b + 1) fit in
      let i : a + k ≡ s = sym e in
      let j : a + (k + 1) ≡ s + 1 = omega arith in
      let one : take (k + 1) (slice a (b + 1) A) ≡ slice a (s + 1) A = slice-take a (b + 1) (k + 1) A (omega (arith, w.before)) ∙ ap (λ (x : ℕ). slice a x A) j in
      let two : drop k (slice a (b + 1) A) ≡ slice s (b + 1) A = slice-drop a (b + 1) k A ∙ ap (λ (x : ℕ). slice x (b + 1) A) i in
      let more = simplified-ended t low (slice s (b + 1) A) (rw (part_length path s (b + 1) fit) (omega (arith, w.before))) in
      let q : front (simplified t (slice a (b + 1) A)) ≡ front (simplified t (slice a (s + 1) A)) ++ front (simplified t (slice s (b + 1) A))
      = ap front (w.is ∙ ap₂ (λ (x y : List Vector). front (simplified t x) ++ simplified t y) one two)
      ∙ front-append (front (simplified t (slice a (s + 1) A))) (simplified t (slice s (b + 1) A)) (omega (arith, more.two)) in
      ap (λ (x : List Vector). x ++ rest t A b bs) q
      ∙ append_assoc (front (simplified t (slice a (s + 1) A))) (front (simplified t (slice s (b + 1) A))) (rest t A b bs)

  -- where there is none, a is written, and b is next
  pub rest-step : (a b : ℕ) (bs : List ℕ) (p : Vector) → a < b → (b + 1) * 3 ≤ length path → p ≡ point_of (row 3 a path)
      → front (simplified t (slice a (b + 1) A)) ≡ first_vertex (slice a (b + 1) A) ∷ [] → rest t A a (b ∷ bs) ≡ p ∷ rest t A b bs
  unfolding rest
  rest-step a b bs p h fit e w =
      ap (λ (x : List Vector). x ++ rest t A b bs) (w ∙ ap (λ (v : Vector). v ∷ []) (sym (e ∙ part-first path a (b + 1) fit (omega arith))))
