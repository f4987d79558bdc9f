-- Document 01's input, as the definition reads it, computed by the checker. Assumes nothing.
use mathlib.Core.Path.{refl}
use lib.Ieee.{of_bits, of_int, neg}
use Rattle.matrix.specs.Matrices.{identity_m}
use Rattle.check_parts.specs.Owners.{is_round}
use Rattle.scene.specs.Entries.{matrix_of, striped}
use Rattle.text_numbers.specs.Numerals.{digit_of, all_digits, value, decimal_from, decimal_of, hex_from, hex_of, patterned, as_float, negated, numeral_of}
use Rattle.text_tokens.specs.Tokens.{word_byte, marked, flush, tokens_from, left, and_then, open_in, close_in, word_in, real_of, number_in, whole_of, count_in}
use Rattle.text_heads.specs.Heads.{same_word, kind_of, head_in, named_in, kind_in, numbers_in, measures, detail_in, stripes_in, opening_in, view_of, view_in}
use Rattle.rows.specs.Rows.{padded}
use Rattle.text_forms.specs.Forms.{entered, enter, enclosed, round_in, body, form}
use Rattle.text_scene.specs.Texts.{lines_from, unless_empty, filled, lines_left, whole_line, forms_in, yard_in, yard_of}
use Rattle.text_scene.specs.Sample.{SampleRead}

pub sample-read : SampleRead
unfolding of_bits of_int neg digit_of all_digits value decimal_from decimal_of hex_from hex_of patterned as_float negated numeral_of word_byte marked flush tokens_from left and_then open_in close_in word_in real_of number_in whole_of count_in same_word kind_of head_in named_in kind_in numbers_in measures detail_in stripes_in opening_in view_of view_in padded entered enter enclosed round_in is_round body form lines_from unless_empty filled lines_left whole_line forms_in yard_in yard_of matrix_of striped identity_m
sample-read = refl
