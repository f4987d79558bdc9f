-- How long the text of a drawing is, and that the program's slice is long enough. Assumes nothing.
use Prim.Native.Nat.{ℕ, zero, suc, ◌+◌, ◌*◌, ◌/◌, ◌%◌, ◌^◌, ◌≤◌, ◌<◌}
use mathlib.Core.Path.{◌≡◌, refl, ◌∙◌, subst}
use mathlib.Core.Logic.{◌⊎◌, inl, inr}
use mathlib.Core.Bool.{Bool, true, false, cond, ◌&&◌}
use mathlib.Core.List.{List, [], ◌∷◌, ◌++◌}
use native.Mathlib.Nat.{pow-suc}
use native.Mathlib.Omega.{arith}
use borrow.Author.Tests.{lt-ltb, le-ltb, leb-true}
use lib.Dec.{ltb, leb}
use lib.ListN.{length, length-append}
use lib.Seq.{slice, length-slice}
use Rattle.floats.proofs.Order.{le-or-lt}
use Rattle.geometry.specs.declared.vector.Vector.{Vector}
use Rattle.rows.specs.Rows.{flat}
use Rattle.rows.specs.Starts.{next_start, rising}
use Rattle.paths.specs.Paths.{paths_of}
use Rattle.text_drawing.specs.Numbers.{digit_byte, decimal_word, decimal_text}
use Rattle.text_drawing.specs.Drawings.{point_text, path_text, drawing_text, refused_text}
use Rattle.text_drawing.proofs.Determined.{number-length}
use Rattle.text_drawing.proofs.Texts.{length-paths}

-- all points of all paths
abbrev pub all_of : List (List Vector) → List Vector
all_of ps = flat (λ (p : List Vector). p) ps

point-length : (v : Vector) → length (point_text v) ≡ 56
unfolding point_text
point-length v =
    let a = number-length v.x in
    let b = number-length v.y in
    let c = number-length v.z in
    simp length-append (omega (arith, a, b, c))

points-length : (p : List Vector) → length (flat point_text p) ≡ 56 * length p
unfolding flat
points-length [] = refl
points-length (v ∷ p) = length-append (point_text v) (flat point_text p) ∙ omega (arith, point-length v, points-length p)

path-length : (p : List Vector) → length (path_text p) ≡ 7 + 56 * length p
unfolding path_text
path-length p = simp length-append (omega (arith, points-length p))

paths-length : (ps : List (List Vector)) → length (flat path_text ps) ≡ 7 * length ps + 56 * length (all_of ps)
unfolding flat
paths-length [] = refl
paths-length (p ∷ ps) = length-append (path_text p) (flat path_text ps) ∙ simp length-append (omega (arith, path-length p, paths-length ps))

-- a number below 10^j has at most j digits
decimal-length : (k j n : ℕ) → n < 10 ^ j → 0 < j → length (decimal_word k n) ≤ j
unfolding decimal_word
decimal-length zero j n h l = omega arith
decimal-length (suc k) j n h l = by (λ (i : ℕ) (a : n / 10 < 10 ^ i) (b : 0 < i). decimal-length k i (n / 10) a b) j h l (le-or-lt 10 n)
  where
    by : ((i : ℕ) → n / 10 < 10 ^ i → 0 < i → length (decimal_word k (n / 10)) ≤ i) → (i : ℕ) → n < 10 ^ i → 0 < i → (10 ≤ n) ⊎ (n < 10) → length (cond (ltb n 10) (digit_byte n ∷ []) (decimal_word k (n / 10) ++ (digit_byte (n % 10) ∷ []))) ≤ i
    by ih i a b (inr q) = rw (lt-ltb n 10 q) (omega arith)
    by ih zero a b (inl q) = absurd (omega arith)
    by ih (suc zero) a b (inl q) = absurd (omega (arith, a, q))
    by ih (suc (suc i)) a b (inl q) =
        let c : n < 10 ^ suc i * 10 = subst (λ (m : ℕ). n < m) (pow-suc 10 (suc i)) a in
        let d = ih (suc i) (omega (arith, c)) (omega arith) in
        rw (le-ltb n 10 q) (simp length-append (omega (arith, d)))

-- at most 15 bytes, 7 for each path and 56 for each point
pub text-length : (ps : List (List Vector)) → length ps < 10000 → length (drawing_text ps) ≤ 15 + 7 * length ps + 56 * length (all_of ps)
unfolding drawing_text decimal_text
text-length ps h = simp length-append (omega (arith, decimal-length 20 4 (length ps) h (omega arith), paths-length ps))

-- paths that rise have no more points together than there are
paths-points : (vs : List Vector) (ss : List ℕ) → rising (length vs) ss ≡ true → (length (all_of (paths_of vs ss)) + next_start (length vs) ss ≤ length vs)
unfolding flat paths_of rising
paths-points vs [] h = omega arith
paths-points vs (s ∷ ss) h = by (paths-points vs ss) (leb-true s (next_start (length vs) ss)) (leb s (next_start (length vs) ss)) refl (rising (length vs) ss) refl h
  where
    by : (rising (length vs) ss ≡ true → length (all_of (paths_of vs ss)) + next_start (length vs) ss ≤ length vs) → (leb s (next_start (length vs) ss) ≡ true → s ≤ next_start (length vs) ss)
        → (a : Bool) → leb s (next_start (length vs) ss) ≡ a → (b : Bool) → rising (length vs) ss ≡ b → (a && b) ≡ true
        → length (slice s (next_start (length vs) ss) vs ++ all_of (paths_of vs ss)) + s ≤ length vs
    by ih l true p true q e =
        let c = ih q in
        let d = l p in
        let g = length-slice s (next_start (length vs) ss) vs (omega (arith, c)) in
        rw (length-append (slice s (next_start (length vs) ss) vs) (all_of (paths_of vs ss))) (omega (arith, c, d, g))
    by ih l true p false q e = absurd (let z : ◌≡◌ {A = ℕ} 0 1 = cc in omega arith)
    by ih l false p b q e = absurd (let z : ◌≡◌ {A = ℕ} 0 1 = cc in omega arith)

-- the program's slice: 2,048 points and 2,048 starts
pub text-fits : (vs : List Vector) (ss : List ℕ) → length vs ≤ 2048 → length ss ≤ 2048 → rising (length vs) ss ≡ true → length (drawing_text (paths_of vs ss)) ≤ 129039
text-fits vs ss h l r =
    let m : length (paths_of vs ss) ≡ length ss = length-paths vs ss in
    omega (arith, text-length (paths_of vs ss) (omega (arith, m)), paths-points vs ss r, m)

pub refused-fits : (k : ℕ) → k < 10000 → length (refused_text k) ≤ 15
unfolding refused_text decimal_text
refused-fits k h = simp length-append (omega (arith, decimal-length 20 4 k h (omega arith)))
