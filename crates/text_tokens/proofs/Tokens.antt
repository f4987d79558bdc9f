-- The tokens from a place on, by the byte that stands there.
use Prim.Native.Nat.{ℕ, zero, suc, ◌+◌, ◌-◌, ◌≤◌, ◌<◌}
use mathlib.Core.Path.{◌≡◌, refl, ap, sym, ◌∙◌}
use mathlib.Core.Bool.{Bool, true, false, not}
use mathlib.Core.List.{List, [], ◌∷◌, ◌++◌}
use native.Mathlib.Numerals.{add-one}
use native.Mathlib.Omega.{arith}
use lib.ListN.{length, take, drop, get_or, drop_of_length-le, length-drop}
use lib.Seq.{drop-cons, take-suc, get_or-drop}
use borrow.Author.Tests.{ne_eqb}
use Rattle.text_tokens.specs.Seen.{seen, TokenWithin, WordWithin}
use Rattle.text_tokens.specs.declared.Tok.{Tok}
use Rattle.text_tokens.specs.declared.Tok.TheVariants.{Opens, Closes, Word}
use Rattle.text_tokens.specs.Tokens.{Token, opens, closes, word, word_byte, marked, flush, tokens_from, left, part, is_over}
use Rattle.std.specs.Prelude.{None, Option, Some}
use Rattle.std.specs.Prelude.{is_some}

module _ (s : List ℕ) (i : ℕ) (l : i < length s) where
  -- a byte that is no word's, after the bytes w of a word
  pub from-mark : (w : List ℕ) → word_byte (get_or s i 0) ≡ false → tokens_from w (drop i s) ≡ flush w (marked (get_or s i 0) (left s (i + 1)))
  unfolding tokens_from left
  from-mark w e = rw (add-one i, drop-cons s i 0 l, e)

  pub from_byte : (w : List ℕ) → word_byte (get_or s i 0) ≡ true → tokens_from w (drop i s) ≡ tokens_from (w ++ (get_or s i 0 ∷ [])) (drop (i + 1) s)
  unfolding tokens_from
  from_byte w e = rw (add-one i, drop-cons s i 0 l, e)

  pub left-mark : word_byte (get_or s i 0) ≡ false → left s i ≡ marked (get_or s i 0) (left s (i + 1))
  unfolding left flush
  left-mark e = from-mark [] e

  pub word-stops : (w : List ℕ) → word_byte (get_or s i 0) ≡ false → tokens_from w (drop i s) ≡ flush w (left s i)
  word-stops w e = from-mark w e ∙ ap (flush w) (sym (left-mark e))

  pub left-space : get_or s i 0 ≡ 32 → left s i ≡ left s (i + 1)
  unfolding word_byte marked
  left-space e = left-mark (rw e) ∙ rw e

  pub left-opens : get_or s i 0 ≡ 40 → left s i ≡ opens ∷ left s (i + 1)
  unfolding word_byte marked
  left-opens e = left-mark (rw e) ∙ rw e

  pub left-closes : get_or s i 0 ≡ 41 → left s i ≡ closes ∷ left s (i + 1)
  unfolding word_byte marked
  left-closes e = left-mark (rw e) ∙ rw e

pub from_end : (s : List ℕ) (i : ℕ) (w : List ℕ) → length s ≤ i → tokens_from w (drop i s) ≡ flush w (left s i)
unfolding tokens_from left flush
from_end s i w h = rw (drop_of_length-le s {i = i} h)

pub left_over : (s : List ℕ) (i : ℕ) → length s ≤ i → left s i ≡ []
unfolding tokens_from left flush
left_over s i h = rw (drop_of_length-le s {i = i} h)

pub part-more : (s : List ℕ) (a i : ℕ) → a ≤ i → i < length s → part a (i + 1) s ≡ part a i s ++ (get_or s i 0 ∷ [])
part-more s a i l h =
    let n : i + 1 - a ≡ suc (i - a) = omega arith in
    let e : a + (i - a) ≡ i = omega arith in
    let f : i - a < length (drop a s) = omega (arith, length-drop a s) in
    rw (n, take-suc (drop a s) (i - a) 0 f, get_or-drop a s (i - a) 0, e)

pub part-first : (s : List ℕ) (a : ℕ) → a < length s → part a (a + 1) s ≡ get_or s a 0 ∷ []
part-first s a h =
    let n : a + 1 - a ≡ suc 0 = omega arith in
    rw (n, drop-cons s a 0 h)

-- a part that is not empty is a word
pub flush-part : (s : List ℕ) (a i : ℕ) (ts : List Token) → a < i → i ≤ length s → flush (part a i s) ts ≡ word (part a i s) ∷ ts
unfolding flush
flush-part s a i ts l h = go (part a i s) (some (i - a) (drop a s) (omega arith) (omega (arith, length-drop a s)))
  where
    some : (n : ℕ) (x : List ℕ) → 0 < n → 0 < length x → 0 < length (take n x)
    some zero x p q = absurd (omega arith)
    some (suc n) [] p q = absurd (omega arith)
    some (suc n) (y ∷ x) p q = omega arith

    go : (w : List ℕ) → 0 < length w → flush w ts ≡ word w ∷ ts
    go [] p = absurd (omega arith)
    go (b ∷ w) p = refl

-- ---- a word, byte by byte

pub word_first : (s : List ℕ) (a : ℕ) → a < length s → word_byte (get_or s a 0) ≡ true → left s a ≡ tokens_from (part a (a + 1) s) (drop (a + 1) s)
unfolding left
word_first s a l e = from_byte s a l [] e ∙ rw (part-first s a l)

module _ (s : List ℕ) (a i : ℕ) (from : a < i) (l : i < length s) (inv : left s a ≡ tokens_from (part a i s) (drop i s)) where
  pub word_more : {r : Bool} → r ≡ word_byte (get_or s i 0) → r ≡ true → left s a ≡ tokens_from (part a (i + 1) s) (drop (i + 1) s)
  word_more p q = inv ∙ from_byte s i l (part a i s) (sym p ∙ q) ∙ rw (part-more s a i (omega arith) l)

  pub word-closed : {r : Bool} → r ≡ word_byte (get_or s i 0) → r ≡ false → left s a ≡ word (part a i s) ∷ left s i
  word-closed p q = inv ∙ word-stops s i l (part a i s) (sym p ∙ q) ∙ flush-part s a i (left s i) from (omega arith)

pub word_over : (s : List ℕ) (a i : ℕ) → a < i → i ≤ length s → left s a ≡ tokens_from (part a i s) (drop i s) → length s ≤ i → left s a ≡ word (part a i s) ∷ left s i
word_over s a i l h inv n = inv ∙ from_end s i (part a i s) n ∙ flush-part s a i (left s i) l h

pub is_word : (b : ℕ) → (b ≡ 32 → ⊥) → (b ≡ 40 → ⊥) → (b ≡ 41 → ⊥) → word_byte b ≡ true
unfolding word_byte
is_word b p q r = simp (ne_eqb b 32 p, ne_eqb b 40 q, ne_eqb b 41 r)

pub inside-word : (n : ℕ) {t : Option Tok} {a e : ℕ} → TokenWithin n t → t ≡ Some (Word a e) → (a ≤ e) × (e ≤ n)
unfolding TokenWithin
inside-word n i p = rw p at i

pub lies_at : (n : ℕ) {t : Option (ℕ × ℕ)} {a e : ℕ} → WordWithin n t → t ≡ Some (a, e) → (a ≤ e) × (e ≤ n)
unfolding WordWithin
lies_at n i p = rw p at i

-- no token is seen where none was found
pub none_over : (s : List ℕ) (t : Option Tok) (r : Bool) → is_some t ≡ not r → r ≡ is_over (seen s t)
unfolding seen is_over
none_over s None true e = refl
none_over s None false e = cc
none_over s (Some (Opens n)) true e = cc
none_over s (Some (Opens n)) false e = refl
none_over s (Some (Closes n)) true e = cc
none_over s (Some (Closes n)) false e = refl
none_over s (Some (Word a n)) true e = cc
none_over s (Some (Word a n)) false e = refl
