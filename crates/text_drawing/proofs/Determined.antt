-- A drawing is read off its text: numbers have sixteen digits, a point is followed by another or by a bracket, and no digit is one. Assumes nothing.
use Prim.Native.Nat.{ℕ, zero, suc, ◌+◌, ◌*◌, ◌/◌, ◌%◌, ◌^◌, ◌≤◌, ◌<◌}
use mathlib.Core.Path.{◌≡◌, refl, sym, ap, ap₂, ◌∙◌, subst}
use mathlib.Core.Logic.{◌⊎◌, inl, inr}
use mathlib.Core.Bool.{Bool, true, false, cond}
use mathlib.Core.List.{List, [], ◌∷◌, ◌++◌, map, append_assoc}
use native.Mathlib.Numerals.{add-one}
use native.Mathlib.Nat.{pow-suc}
use native.Mathlib.Omega.{arith}
use borrow.Author.Tests.{lt-ltb, le-ltb}
use lib.Dec.{T, ltb}
use lib.ListN.{length, length-append}
use lib.Ieee.{Float, binary64, fits, eq, of_bits, to_bits}
use lib.Ieee.Bits.{of_bits-to_bits, to_bits-lt}
use Rattle.floats.specs.Arith.{zero_f}
use Rattle.floats.proofs.Order.{le-or-lt}
use Rattle.geometry.specs.declared.vector.Vector.{Vector}
use Rattle.rows.specs.Rows.{flat}
use Rattle.text_drawing.specs.Numbers.{bits_of, digit_byte, hex_word, decimal_word, decimal_text}
use Rattle.text_drawing.specs.Drawings.{drawing_word, path_word, end_word, number_text, point_text, path_text, drawing_text}
use Rattle.text_drawing.specs.Determined.{plain, plain_point, Double, Doubles, AllDoubles, Determines}

-- ---- lists
tail_of : {a b : ℕ} {s t : List ℕ} → a ∷ s ≡ b ∷ t → s ≡ t
tail_of e = cc

head_of : {a b : ℕ} {s t : List ℕ} → a ∷ s ≡ b ∷ t → a ≡ b
head_of e = cc

no_end : {A : Type 0} {b : ℕ} {t : List ℕ} → [] ≡ b ∷ t → A
no_end e = let z : ◌≡◌ {A = ℕ} 0 1 = cc in absurd (omega arith)

-- words of one length
same-front : (u v s t : List ℕ) → length u ≡ length v → u ++ s ≡ v ++ t → (u ≡ v) × (s ≡ t)
same-front [] [] s t l e = (refl, e)
same-front [] (b ∷ v) s t l e = absurd (omega (arith, l))
same-front (a ∷ u) [] s t l e = absurd (omega (arith, l))
same-front (a ∷ u) (b ∷ v) s t l e =
    let w = same-front u v s t (omega (arith, l)) (tail_of e) in
    (ap₂ (λ (x : ℕ) (r : List ℕ). x ∷ r) (head_of e) w.0, w.1)

-- no byte of a word is ")"
unfoldable Open : List ℕ → Type 0
Open [] = Unit
Open (b ∷ w) = (b ≡ 41 → ⊥) × Open w

open-append : (v w : List ℕ) → Open v → Open w → Open (v ++ w)
unfolding Open
open-append [] w h k = k
open-append (b ∷ v) w h k = (h.0, open-append v w h.1 k)

up-to-end : (u v s t : List ℕ) → Open u → Open v → u ++ (41 ∷ s) ≡ v ++ (41 ∷ t) → s ≡ t
unfolding Open
up-to-end [] [] s t h k e = tail_of e
up-to-end [] (b ∷ v) s t h k e = absurd (k.0 (sym (head_of e)))
up-to-end (a ∷ u) [] s t h k e = absurd (h.0 (head_of e))
up-to-end (a ∷ u) (b ∷ v) s t h k e = up-to-end u v s t h.1 k.1 (tail_of e)

-- ---- digits
digit-cases : (d : ℕ) → ((d < 10) × (digit_byte d ≡ 48 + d)) ⊎ ((10 ≤ d) × (digit_byte d ≡ 55 + d))
unfolding digit_byte
digit-cases d = by (le-or-lt 10 d)
  where
    by : (10 ≤ d) ⊎ (d < 10) → ((d < 10) × (cond (ltb d 10) (48 + d) (55 + d) ≡ 48 + d)) ⊎ ((10 ≤ d) × (cond (ltb d 10) (48 + d) (55 + d) ≡ 55 + d))
    by (inl h) = inr (h, rw (le-ltb d 10 h))
    by (inr h) = inl (h, rw (lt-ltb d 10 h))

digit-inj : (a b : ℕ) → digit_byte a ≡ digit_byte b → a ≡ b
digit-inj a b e = by (digit-cases a) (digit-cases b)
  where
    by : ((a < 10) × (digit_byte a ≡ 48 + a)) ⊎ ((10 ≤ a) × (digit_byte a ≡ 55 + a)) → ((b < 10) × (digit_byte b ≡ 48 + b)) ⊎ ((10 ≤ b) × (digit_byte b ≡ 55 + b)) → a ≡ b
    by (inl h) (inl k) = omega (arith, e, h.1, k.1)
    by (inl h) (inr k) = omega (arith, e, h.0, h.1, k.0, k.1)
    by (inr h) (inl k) = omega (arith, e, h.0, h.1, k.0, k.1)
    by (inr h) (inr k) = omega (arith, e, h.1, k.1)

digit-open : (d : ℕ) → digit_byte d ≡ 41 → ⊥
digit-open d e = by (digit-cases d)
  where
    by : ((d < 10) × (digit_byte d ≡ 48 + d)) ⊎ ((10 ≤ d) × (digit_byte d ≡ 55 + d)) → ⊥
    by (inl h) = omega (arith, e, h.1)
    by (inr h) = omega (arith, e, h.1)

decimal-open : (k n : ℕ) → Open (decimal_word k n)
unfolding decimal_word Open
decimal-open zero n = tt
decimal-open (suc k) n = by (decimal-open k (n / 10)) (ltb n 10)
  where
    by : Open (decimal_word k (n / 10)) → (t : Bool) → Open (cond t (digit_byte n ∷ []) (decimal_word k (n / 10) ++ (digit_byte (n % 10) ∷ [])))
    by h true = (digit-open n, tt)
    by h false = open-append (decimal_word k (n / 10)) (digit_byte (n % 10) ∷ []) h (digit-open (n % 10), tt)

hex-length : (k v : ℕ) → length (hex_word k v) ≡ k
unfolding hex_word
hex-length zero v = refl
hex-length (suc k) v = length-append (hex_word k (v / 16)) (digit_byte (v % 16) ∷ []) ∙ ap (λ (n : ℕ). n + 1) (hex-length k (v / 16)) ∙ add-one k

hex-inj : (k a b : ℕ) → a < 16 ^ k → b < 16 ^ k → hex_word k a ≡ hex_word k b → a ≡ b
unfolding hex_word
hex-inj zero a b h l e = omega (arith, h, l)
hex-inj (suc k) a b h l e =
    let w = same-front (hex_word k (a / 16)) (hex_word k (b / 16)) (digit_byte (a % 16) ∷ []) (digit_byte (b % 16) ∷ []) (hex-length k (a / 16) ∙ sym (hex-length k (b / 16))) e in
    let d : a % 16 ≡ b % 16 = digit-inj (a % 16) (b % 16) (head_of w.1) in
    let x : a < 16 ^ k * 16 = subst (λ (n : ℕ). a < n) (pow-suc 16 k) h in
    let y : b < 16 ^ k * 16 = subst (λ (n : ℕ). b < n) (pow-suc 16 k) l in
    let q : a / 16 ≡ b / 16 = hex-inj k (a / 16) (b / 16) (omega (arith, x)) (omega (arith, y)) w.0 in
    omega (arith, d, q)

-- ---- numbers and points
bits_below : (x : Float) → T (fits binary64 x) → bits_of x < 16 ^ 16
unfolding bits_of
bits_below x h = by (eq x zero_f)
  where
    by : (t : Bool) → cond t 0 (to_bits binary64 x) < 16 ^ 16
    by true = omega arith
    by false = to_bits-lt binary64 x h

plain-is : (x : Float) → T (fits binary64 x) → plain x ≡ of_bits binary64 (bits_of x)
unfolding plain bits_of
plain-is x h = by (eq x zero_f)
  where
    by : (t : Bool) → cond t zero_f x ≡ of_bits binary64 (cond t 0 (to_bits binary64 x))
    by true = refl
    by false = sym (of_bits-to_bits binary64 x h)

pub number-length : (x : Float) → length (number_text x) ≡ 17
unfolding number_text
number-length x = ap suc (hex-length 16 (bits_of x))

number-inj : (x y : Float) → T (fits binary64 x) → T (fits binary64 y) → number_text x ≡ number_text y → plain x ≡ plain y
unfolding number_text
number-inj x y h k e = plain-is x h ∙ ap (of_bits binary64) (hex-inj 16 (bits_of x) (bits_of y) (bits_below x h) (bits_below y k) (tail_of e)) ∙ sym (plain-is y k)

-- a number and what follows it
number_cut : (x y : Float) (s t : List ℕ) → number_text x ++ s ≡ number_text y ++ t → (number_text x ≡ number_text y) × (s ≡ t)
number_cut x y s t e = same-front (number_text x) (number_text y) s t (number-length x ∙ sym (number-length y)) e

module _ (v w : Vector) (h : Double v) (k : Double w) (s t : List ℕ) where
  point-cut : point_text v ++ s ≡ point_text w ++ t → (plain_point v ≡ plain_point w) × (s ≡ t)
  unfolding point_text plain_point
  point-cut e =
      let z : (u : Vector) (r : List ℕ) → List ℕ = λ u r. number_text u.z ++ (41 ∷ r) in
      let y : (u : Vector) (r : List ℕ) → List ℕ = λ u r. number_text u.y ++ (32 ∷ z u r) in
      let x : (u : Vector) (r : List ℕ) → List ℕ = λ u r. number_text u.x ++ (32 ∷ y u r) in
      let shape : (u : Vector) (r : List ℕ) → 32 ∷ 40 ∷ x u r ≡ (32 ∷ 40 ∷ (number_text u.x ++ (32 ∷ (number_text u.y ++ (32 ∷ (number_text u.z ++ (41 ∷ []))))))) ++ r
      = λ u r. simp append_assoc in
      let a = number_cut v.x w.x (32 ∷ y v s) (32 ∷ y w t) (tail_of (tail_of (shape v s ∙ e ∙ sym (shape w t)))) in
      let b = number_cut v.y w.y (32 ∷ z v s) (32 ∷ z w t) (tail_of a.1) in
      let c = number_cut v.z w.z (41 ∷ s) (41 ∷ t) (tail_of b.1) in
      let p = number-inj v.x w.x h.0 k.0 a.0 in
      let q = number-inj v.y w.y h.1 k.1 b.0 in
      let r = number-inj v.z w.z h.2 k.2 c.0 in
      (rw (p, q, r), tail_of c.1)

-- ---- paths
starts-so : (v : Vector) (r : List ℕ) {s : List ℕ} → 41 ∷ s ≡ point_text v ++ r → ⊥
unfolding point_text
starts-so v r e = let z : ◌≡◌ {A = ℕ} 41 32 = head_of e in omega (arith, z)

points-cut : (p q : List Vector) → Doubles p → Doubles q → (s t : List ℕ) → flat point_text p ++ (41 ∷ s) ≡ flat point_text q ++ (41 ∷ t) → (map plain_point p ≡ map plain_point q) × (s ≡ t)
unfolding flat Doubles
points-cut [] [] h k s t e = (refl, tail_of e)
points-cut [] (w ∷ q) h k s t e = absurd (starts-so w (flat point_text q ++ (41 ∷ t)) (e ∙ append_assoc (point_text w) (flat point_text q) (41 ∷ t)))
points-cut (v ∷ p) [] h k s t e = absurd (starts-so v (flat point_text p ++ (41 ∷ s)) (sym e ∙ append_assoc (point_text v) (flat point_text p) (41 ∷ s)))
points-cut (v ∷ p) (w ∷ q) h k s t e =
    let a = point-cut v w h.0 k.0 (flat point_text p ++ (41 ∷ s)) (flat point_text q ++ (41 ∷ t))
    (sym (append_assoc (point_text v) (flat point_text p) (41 ∷ s)) ∙ e ∙ append_assoc (point_text w) (flat point_text q) (41 ∷ t)) in
    let b = points-cut p q h.1 k.1 s t a.1 in
    (ap₂ (λ (x : Vector) (l : List Vector). x ∷ l) a.0 b.0, b.1)

path-shape : (p : List Vector) (r : List ℕ) → path_text p ++ r ≡ path_word ++ (flat point_text p ++ (41 ∷ 10 ∷ r))
unfolding path_text
path-shape p r = ap (λ (l : List ℕ). 40 ∷ 112 ∷ 97 ∷ 116 ∷ 104 ∷ l) (append_assoc (flat point_text p) end_word r)

five : {s t : List ℕ} → path_word ++ s ≡ path_word ++ t → s ≡ t
five e = tail_of (tail_of (tail_of (tail_of (tail_of e))))

some-path : {A : Type 0} (p : List Vector) (r : List ℕ) → [] ≡ path_text p ++ r → A
some-path p r e = no_end (e ∙ path-shape p r)

paths-cut : (ps qs : List (List Vector)) → AllDoubles ps → AllDoubles qs → flat path_text ps ≡ flat path_text qs → map (map plain_point) ps ≡ map (map plain_point) qs
unfolding flat AllDoubles
paths-cut [] [] h k e = refl
paths-cut [] (q ∷ qs) h k e = some-path q (flat path_text qs) e
paths-cut (p ∷ ps) [] h k e = some-path p (flat path_text ps) (sym e)
paths-cut (p ∷ ps) (q ∷ qs) h k e =
    let a = points-cut p q h.0 k.0 (10 ∷ flat path_text ps) (10 ∷ flat path_text qs) (five (sym (path-shape p (flat path_text ps)) ∙ e ∙ path-shape q (flat path_text qs))) in
    ap₂ (λ (l : List Vector) (ls : List (List Vector)). l ∷ ls) a.0 (paths-cut ps qs h.1 k.1 (tail_of a.1))

nine : {s t : List ℕ} → drawing_word ++ s ≡ drawing_word ++ t → s ≡ t
nine e = tail_of (tail_of (tail_of (tail_of (tail_of (tail_of (tail_of (tail_of (tail_of e))))))))

pub determined : Determines
unfolding drawing_text decimal_text
determined ps qs h k e =
    paths-cut ps qs h k (tail_of (up-to-end (decimal_word 20 (length ps)) (decimal_word 20 (length qs)) (10 ∷ flat path_text ps) (10 ∷ flat path_text qs) (decimal-open 20 (length ps)) (decimal-open 20 (length qs)) (nine e)))
