-- What the program counts: the records of 41 words with an answer that is not what the call gives.
use Rattle.std.specs.Prelude.{Bool, false, cond, ◌&&◌, List, [], ◌∷◌, ℕ, ◌+◌, ◌*◌, ◌/◌, eqb, length, ℤ, Float}
use Rattle.geometry.specs.Vectors.{length_of, length_rest, distance_of, distance_rest}
use Rattle.geometry.specs.Boxes.{box_test}
use Rattle.matrix.specs.Matrices.{mul_position_w}
use Rattle.matrix_inverse.specs.Inverses.{inverted}
use Rattle.rows.specs.Entries.{numbers_row}
use Rattle.rows.specs.Points.{point_row, box_row}
use Rattle.scene.specs.Entries.{matrix_of, matrix_numbers}
use Rattle.test_words.specs.Words.{word_at, float_at, point_at, ray_at, same_bits, all_same, flag_of, signed_word}
use Rattle.test_words.specs.Counts.{wrong_upto}
use Rattle.test_leaves.specs.Inputs.{box_from, numbers_from, solid_from}
use Rattle.test_leaves.specs.Answers.{simple_answer, told_hit, simple_box, told_contains}

-- for each call, whether the answers of the record that starts at word k are right
unfoldable pub box_test_right : List ℕ → ℕ → Bool
box_test_right s k =
    let t = box_test (box_from s (k + 1)) (ray_at s (k + 7)) in
    all_same (t.tmin ∷ t.tmax ∷ []) s (k + 24)

unfoldable pub projection_right : List ℕ → ℕ → Bool
projection_right s k = all_same (point_row (mul_position_w (matrix_of (numbers_from s (k + 1))) (point_at s (k + 17)))) s (k + 24)

-- the determinant, then the inverse by rows
unfoldable pub inverse_right : List ℕ → ℕ → Bool
inverse_right s k =
    let i = inverted (matrix_of (numbers_from s (k + 1))) in
    all_same (i.determinant ∷ numbers_row (matrix_numbers i.inverse)) s (k + 24)

unfoldable pub hit_right : List ℕ → ℕ → Bool
hit_right s k =
    let x = solid_from s (k + 1) in
    let h = told_hit x (ray_at s (k + 18)) in
    eqb (word_at s (k + 24)) (simple_answer x) && (same_bits h.t (word_at s (k + 25)) && eqb (word_at s (k + 26)) (flag_of h.ok))

unfoldable pub box_right : List ℕ → ℕ → Bool
box_right s k =
    let x = solid_from s (k + 1) in
    eqb (word_at s (k + 24)) (simple_answer x) && all_same (box_row (simple_box x)) s (k + 25)

unfoldable pub contains_right : List ℕ → ℕ → Bool
contains_right s k =
    let x = solid_from s (k + 1) in
    eqb (word_at s (k + 24)) (simple_answer x) && eqb (word_at s (k + 25)) (flag_of (told_contains x (point_at s (k + 18)) (float_at s (k + 21))))

-- a root and its remainder
unfoldable pub rooted_right : Float → ℤ → List ℕ → ℕ → Bool
rooted_right root rest s k = same_bits root (word_at s k) && eqb (word_at s (k + 1)) (signed_word rest)

unfoldable pub length_right : List ℕ → ℕ → Bool
length_right s k = let v = point_at s (k + 1) in rooted_right (length_of v) (length_rest v) s (k + 24)

unfoldable pub distance_right : List ℕ → ℕ → Bool
distance_right s k =
    let a = point_at s (k + 1) in
    let b = point_at s (k + 4) in
    rooted_right (distance_of a b) (distance_rest a b) s (k + 24)

-- a record of none of the eight calls is not right
unfoldable pub call_right : List ℕ → ℕ → Bool
call_right s k =
    let call = word_at s k in
    cond (eqb call 1) (box_test_right s k)
    (cond (eqb call 2) (projection_right s k)
    (cond (eqb call 3) (inverse_right s k)
    (cond (eqb call 4) (hit_right s k)
    (cond (eqb call 5) (box_right s k)
    (cond (eqb call 6) (contains_right s k)
    (cond (eqb call 7) (length_right s k)
    (cond (eqb call 8) (distance_right s k) false)))))))

abbrev pub wrong_calls : List ℕ → ℕ
wrong_calls s = wrong_upto (λ i. call_right s (41 * i)) (length s / 328)
