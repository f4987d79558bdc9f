-- What the program counts: the records with an answer that is not what the call gives. A record is a list of 256 words, 2048 bytes.
use Rattle.std.specs.Prelude.{Bool, ◌&&◌, List, ℕ, ◌%◌, ◌/◌, leb, eqb, length, get_or, Result}
use Rattle.floats.specs.Arith.{zero_f}
use Rattle.rows.specs.Rows.{row, padded}
use Rattle.check_parts.specs.Drawn.{drawn}
use Rattle.check_scene.specs.Checks.{check_of, inverses_of, boxes_of, if_accepted}
use Rattle.scene.specs.Scenes.{Scene, scene_of}
use Rattle.query_solid.specs.Own.{own_hit, own_contains}
use Rattle.query_solid.specs.Answers.{drawn_count, distance, met, inside}
use Rattle.test_words.specs.Words.{word_at, float_at, point_at, ray_at, same_bits, all_same, flag_of, floats_from, marks_from, counts_from}
use Rattle.test_words.specs.Counts.{wrong_upto}
use Rattle.refusals.specs.declared.Refusal.{Refusal}
use Rattle.refusals.specs.Refusals.{answer_number}

-- the scene of a record: the lengths of its five slices, and the words that fill them over and over ..
unfoldable pub scene_at : List ℕ → Scene
scene_at r =
    scene_of (floats_from r 16 144 (word_at r 0))
    (marks_from r 160 36 (word_at r 1))
    (floats_from r 196 12 (word_at r 2))
    (counts_from r 208 4 (word_at r 3))
    (marks_from r 212 4 (word_at r 4))

-- .. if they are not too long
unfoldable pub slices_fit : List ℕ → Bool
slices_fit r =
    leb (word_at r 0) 16416
    && (leb (word_at r 1) 4104
    && (leb (word_at r 2) 32
    && (leb (word_at r 3) 8
    && leb (word_at r 4) 8)))

-- the check: its number, how many entries are drawn, and row i of each of the three slices
abbrev pub asked_row : List ℕ → ℕ
asked_row r = word_at r 5 % 1024

abbrev pub number_right : Result ℕ Refusal → List ℕ → Bool
number_right v r = eqb (word_at r 216) (answer_number v)

abbrev pub count_right : Result ℕ Refusal → List ℕ → Bool
count_right v r = eqb (word_at r 217) (drawn_count v)

abbrev pub box_row_right : Scene → Result ℕ Refusal → List ℕ → Bool
box_row_right x v r = all_same (row 6 (asked_row r) (padded zero_f 6144 (if_accepted v (boxes_of x)))) r 218

abbrev pub inverse_row_right : Scene → Result ℕ Refusal → List ℕ → Bool
inverse_row_right x v r = all_same (row 16 (asked_row r) (padded zero_f 16384 (if_accepted v (inverses_of x)))) r 224

abbrev pub drawn_row_right : Scene → Result ℕ Refusal → List ℕ → Bool
drawn_row_right x v r = eqb (word_at r 245) (get_or (padded 0 1024 (if_accepted v (drawn x.marks))) (asked_row r) 0)

unfoldable pub check_right : Scene → List ℕ → Bool
check_right x r =
    let v = check_of x in
    number_right v r && (count_right v r && (box_row_right x v r && (inverse_row_right x v r && drawn_row_right x v r)))

-- the hit that entry i gives a ray: its number, t, and ok as 0 or 1
unfoldable pub own_hit_right : Scene → List ℕ → Bool
own_hit_right x r =
    let h = own_hit x (word_at r 5) (ray_at r 6) in
    eqb (word_at r 240) (answer_number h)
    && (same_bits (distance h) (word_at r 241)
    && eqb (word_at r 242) (flag_of (met h)))

-- whether entry i, widened by f, contains a point: its number, and inside as 0 or 1
unfoldable pub own_contains_right : Scene → List ℕ → Bool
own_contains_right x r =
    let c = own_contains x (word_at r 5) (point_at r 12) (float_at r 15) in
    eqb (word_at r 243) (answer_number c)
    && eqb (word_at r 244) (flag_of (inside c))

unfoldable pub answers_right : Scene → List ℕ → Bool
answers_right x r = check_right x r && (own_hit_right x r && own_contains_right x r)

unfoldable pub scene_right : List ℕ → Bool
scene_right r = slices_fit r && answers_right (scene_at r) r

abbrev pub wrong_scenes : List ℕ → ℕ
wrong_scenes s = wrong_upto (λ i. scene_right (row 2048 i s)) (length s / 2048)
