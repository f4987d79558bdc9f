-- Whether a record is right, and how many records there are. Assumes nothing.
use Prim.Native.Nat.{ℕ, ◌+◌, ◌-◌, ◌*◌, ◌/◌, ◌≤◌, ◌<◌}
use mathlib.Core.Path.{◌≡◌, ◌∙◌}
use mathlib.Core.Bool.{Bool, false}
use mathlib.Core.List.{List}
use native.Mathlib.Omega.{arith}
use lib.ListN.{length, take, drop, replicate, length-replicate}
use borrow.Author.Tests.{lt-leb, le-leb, lt-ltb, le-ltb}
use Rattle.text_heads.specs.Heads.{same_word}
use Rattle.test_words.specs.Words.{word_at}
use Rattle.text_reply.specs.Reply.{enough, reply_of}
use Rattle.test_yard.specs.Records.{reply_right, right_between, right_at, count_of}

-- the slice for the answer has 131,072 places
pub reply-right-is : (text answer out : List ℕ) {b : Bool} → (enough ≤ length {A = ℕ} (replicate 131072 0) → out ≡ reply_of text) → b ≡ same_word out answer → b ≡ reply_right text answer
unfolding reply_right
reply-right-is text answer out h e = e ∙ rw (h (omega (arith, length-replicate {A = ℕ} 131072 0)))

module _ (s : List ℕ) (a b c : ℕ) where
  first : b < a → false ≡ right_between s a b c
  unfolding right_between
  first h = rw (lt-leb a b h)

  second : a ≤ b → c < b → false ≡ right_between s a b c
  unfolding right_between
  second g h = rw (le-leb a b g, lt-leb b c h)

  third : a ≤ b → b ≤ c → length s < c → false ≡ right_between s a b c
  unfolding right_between
  third f g h = rw (le-leb a b f, le-leb b c g, lt-leb c (length s) h)

  last : a ≤ b → b ≤ c → c ≤ length s → reply_right (take (b - a) (drop a s)) (take (c - b) (drop b s)) ≡ right_between s a b c
  unfolding right_between
  last f g h = rw (le-leb a b f, le-leb b c g, le-leb c (length s) h)

module _ (s : List ℕ) (i a b c : ℕ) (ea : a ≡ word_at s (2 * i + 1)) (eb : b ≡ word_at s (2 * i + 2)) (ec : c ≡ word_at s (2 * i + 3)) where
  at-is : right_between s a b c ≡ right_at s i
  unfolding right_at
  at-is = rw (ea, eb, ec)

  pub first-falls : b < a → false ≡ right_at s i
  first-falls h = first s a b c h ∙ at-is

  pub second-falls : a ≤ b → c < b → false ≡ right_at s i
  second-falls g h = second s a b c g h ∙ at-is

  pub over : a ≤ b → b ≤ c → length s < c → false ≡ right_at s i
  over f g h = third s a b c f g h ∙ at-is

  pub between : {z : Bool} → a ≤ b → b ≤ c → c ≤ length s → z ≡ reply_right (take (b - a) (drop a s)) (take (c - b) (drop b s)) → z ≡ right_at s i
  between f g h e = e ∙ last s a b c f g h ∙ at-is

module _ (s : List ℕ) where
  pub short : length s < 16 → 0 ≡ count_of s
  unfolding count_of
  short h = rw (lt-ltb (length s) 16 h)

  module _ (n : ℕ) (e : n ≡ word_at s 0) (l : 16 ≤ length s) where
    pub too_many : (length s - 16) / 16 < n → 0 ≡ count_of s
    unfolding count_of
    too_many h = rw (le-ltb (length s) 16 l, ← e, lt-ltb ((length s - 16) / 16) n h)

    pub so-many : n ≤ (length s - 16) / 16 → n ≡ count_of s
    unfolding count_of
    so-many h = rw (le-ltb (length s) 16 l, ← e, le-ltb ((length s - 16) / 16) n h)
