-- What the program counts: of the records of three words, those whose second is not the pattern of the root of the f64 that the first one is, or whose third
-- is not its remainder.
use Rattle.std.specs.Prelude.{List, Bool, ◌&&◌, ℕ, ◌+◌, ◌*◌, ◌/◌, length, eqb}
use Rattle.std.specs.Float.{binary64}
use Rattle.std.specs.Float.Ieee.{to_bits}
use Rattle.sqrt.specs.Root.{sqrt_of, rest_of}
use Rattle.test_words.specs.Words.{word_at, float_at, signed_word}
use Rattle.test_words.specs.Counts.{wrong_upto}

unfoldable pub root_right : List ℕ → ℕ → Bool
root_right s i =
    let x = float_at s (3 * i) in
    eqb (word_at s (3 * i + 1)) (to_bits binary64 (sqrt_of x)) && eqb (word_at s (3 * i + 2)) (signed_word (rest_of x))

abbrev pub wrong_roots : List ℕ → ℕ
wrong_roots s = wrong_upto (root_right s) (length s / 24)
