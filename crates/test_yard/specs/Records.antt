-- A list of texts with their answers. Its words of 8 bytes: how many there are; then, from word 1 on, where the first text begins, where its answer begins, where the second text begins, and so on, and where the last answer ends.
use Rattle.std.specs.Prelude.{ℕ, ◌+◌, ◌-◌, ◌*◌, ◌/◌, Bool, cond, ◌&&◌, List, leb, ltb, length, take, drop}
use Rattle.text_heads.specs.Heads.{same_word}
use Rattle.test_words.specs.Words.{word_at}
use Rattle.test_words.specs.Counts.{wrong_upto}
use Rattle.text_reply.specs.Reply.{reply_of}

-- what `yard` answers a text is this
unfoldable pub reply_right : List ℕ → List ℕ → Bool
reply_right text answer = same_word (reply_of text) answer

unfoldable pub right_between : List ℕ → ℕ → ℕ → ℕ → Bool
right_between s a b c = leb a b && (leb b c && (leb c (length s) && reply_right (take (b - a) (drop a s)) (take (c - b) (drop b s))))

unfoldable pub right_at : List ℕ → ℕ → Bool
right_at s i = right_between s (word_at s (2 * i + 1)) (word_at s (2 * i + 2)) (word_at s (2 * i + 3))

-- how many there are: none where the list has no places for them
unfoldable pub count_of : List ℕ → ℕ
count_of s = cond (ltb (length s) 16) 0 (cond (ltb ((length s - 16) / 16) (word_at s 0)) 0 (word_at s 0))

abbrev pub wrong_texts : List ℕ → ℕ
wrong_texts s = wrong_upto (right_at s) (count_of s)
