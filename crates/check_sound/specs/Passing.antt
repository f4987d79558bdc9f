-- An accepted scene passes each test of numbers 2 to 7 and 14; document 02 on the order of 14 and on 6.
use Rattle.std.specs.Prelude.{ℕ, ◌≡◌, true, false, not, ◌&&◌, Err, Ok}
use Rattle.std.specs.Float.Ieee.{eq}
use Rattle.floats.specs.Arith.{zero_f}
use Rattle.matrix_inverse.specs.Inverses.{inverted}
use Rattle.rows.specs.declared.Marks.{Marks}
use Rattle.rows.specs.declared.Numbers.{Numbers}
use Rattle.limits.specs.Limits.{finite_matrix}
use Rattle.scene.specs.Entries.{matrix_of}
use Rattle.check_scene.specs.Placings.{placing_ok}
use Rattle.check_scene.specs.Checks.{lengths_agree, values_ok, stripes_ok, names_ok, lines_owned, starts_ok, measures_ok, placings_ok, extents_ok, check_of}
use Rattle.scene.specs.Scenes.{Scene}
use Rattle.refusals.specs.declared.Refusal.TheVariants.{Values, Stripes}

-- document 01's numbers 2 to 7 and document 02's 14, by their tests: the condition of none is met
pub record Passing (s : Scene) : Type 0 where
  pub lengths : lengths_agree s ≡ true
  pub values : values_ok s ≡ true
  pub stripes : stripes_ok s ≡ true
  pub names : names_ok s ≡ true
  pub owners : lines_owned s ≡ true
  pub starts : starts_ok s ≡ true
  pub measures : measures_ok s ≡ true
  pub placings : placings_ok s ≡ true
  pub extents : extents_ok s ≡ true

-- A scene that the check accepts passes each test.
abbrev pub AcceptedPasses : Type 0
AcceptedPasses =
    (s : Scene) (d : ℕ) → check_of s ≡ Ok d → Passing s

-- Document 02 (ii): 14 "just after 3". Over the whole scene 3 comes first, whatever the stripe counts are; then 14, whatever would be met after it.
pub record FourteenAfterThree : Type 0 where
  pub three : (s : Scene) → lengths_agree s ≡ true → values_ok s ≡ false → check_of s ≡ Err Values
  pub fourteen : (s : Scene) → lengths_agree s ≡ true → values_ok s ≡ true → stripes_ok s ≡ false → check_of s ≡ Err Stripes

-- Document 02 (v): 6 is judged by the answer of one call alone, the inverse together with the determinant that it divided by.
abbrev pub SixByOneAnswer : Type 0
SixByOneAnswer =
    (m : Marks) (n : Numbers) → m.kind ≡ 6 → placing_ok m n ≡ not (eq (inverted (matrix_of n)).determinant zero_f) && finite_matrix (inverted (matrix_of n)).inverse
