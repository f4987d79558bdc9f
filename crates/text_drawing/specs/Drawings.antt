-- The text of a drawing, and of a refusal, as document 01 shows it.
use Rattle.std.specs.Prelude.{ℕ, cond, List, [], ◌∷◌, ◌++◌, leb, length, take, replicate, Float, Err, Ok, Result}
use Rattle.geometry.specs.declared.vector.Vector.{Vector}
use Rattle.refusals.specs.Refusals.{number_of}
use Rattle.refusals.specs.declared.Refusal.TheVariants.{Room}
use Rattle.rows.specs.Rows.{flat, padded}
use Rattle.paths.specs.Paths.{paths_of}
use Rattle.paths.specs.Ends.{all_points}
use Rattle.text_drawing.specs.Numbers.{bits_of, hex_word, decimal_text}
use Rattle.refusals.specs.declared.Refusal.{Refusal}

-- the words that stand in a drawing's text
abbrev pub drawing_word : List ℕ
-- "(drawing "
drawing_word = 40 ∷ 100 ∷ 114 ∷ 97 ∷ 119 ∷ 105 ∷ 110 ∷ 103 ∷ 32 ∷ []

abbrev pub refused_word : List ℕ
-- "(refused "
refused_word = 40 ∷ 114 ∷ 101 ∷ 102 ∷ 117 ∷ 115 ∷ 101 ∷ 100 ∷ 32 ∷ []

abbrev pub path_word : List ℕ
-- "(path"
path_word = 40 ∷ 112 ∷ 97 ∷ 116 ∷ 104 ∷ []

abbrev pub end_word : List ℕ
-- ")" and a line feed
end_word = 41 ∷ 10 ∷ []

-- # and sixteen digits
unfoldable pub number_text : Float → List ℕ
number_text x = 35 ∷ hex_word 16 (bits_of x)

-- " (x y z)"
unfoldable pub point_text : Vector → List ℕ
point_text v = 32 ∷ 40 ∷ (number_text v.x ++ (32 ∷ (number_text v.y ++ (32 ∷ (number_text v.z ++ (41 ∷ []))))))

unfoldable pub path_text : List Vector → List ℕ
path_text p = path_word ++ (flat point_text p ++ end_word)

-- the path count, then each path with its points
unfoldable pub drawing_text : List (List Vector) → List ℕ
drawing_text ps = drawing_word ++ (decimal_text (length ps) ++ (end_word ++ flat path_text ps))

unfoldable pub refused_text : ℕ → List ℕ
refused_text k = refused_word ++ (decimal_text k ++ end_word)

-- what a draw left: the first n points and the first m starts, or why it was refused
unfoldable pub text_of : Result (ℕ × ℕ) Refusal → List Float → List ℕ → List ℕ
text_of (Ok (n, m)) xs ss = drawing_text (paths_of (take n (all_points xs)) (take m ss))
text_of (Err k) xs ss = refused_text (number_of k)

-- ---- in a slice of bytes: how many there are, then zeros; a text that doesn't fit leaves zeros throughout
unfoldable pub fitting : ℕ → List ℕ → Result (List ℕ) Refusal
fitting room t = cond (leb (length t) room) (Ok t) (Err Room)

unfoldable pub written : Result (List ℕ) Refusal → Result ℕ Refusal
written (Ok t) = Ok (length t)
written (Err k) = Err k

unfoldable pub laid : Result (List ℕ) Refusal → ℕ → List ℕ
laid (Ok t) room = padded 0 room t
laid (Err k) room = replicate room 0
