-- The check of a scene: document 01's numbers 2 to 7, and document 02's 14 just after 3, each over the whole scene before the next.
use Rattle.std.specs.Prelude.{ℕ, ◌*◌, ◌/◌, ◌≡◌, Bool, ◌&&◌, cond, List, [], ◌∷◌, length, leb, eqb, Float, Err, Ok, Result}
use Rattle.floats.specs.Arith.{zero_f}
use Rattle.rows.specs.Rows.{flat, padded}
use Rattle.rows.specs.Points.{box_row}
use Rattle.rows.specs.Entries.{numbers_row}
use Rattle.rows.specs.Starts.{good_starts}
use Rattle.scene.specs.Entries.{marks_at, numbers_at}
use Rattle.scene.specs.Scenes.{Scene, entries_of}
use Rattle.refusals.specs.declared.Refusal.{Refusal}
use Rattle.refusals.specs.declared.Refusal.TheVariants.{Lengths, Values, Stripes, Parts, Measures, Placing, Extent}
use Rattle.limits.specs.Limits.{within_box}
use Rattle.check_parts.specs.Parts.{parts_ok}
use Rattle.check_parts.specs.Owners.{owners_ok}
use Rattle.check_parts.specs.Drawn.{drawn}
use Rattle.lists.specs.Lists.{all_of, list_to}
use Rattle.check_measures.specs.Values.{known, few_stripes}
use Rattle.check_measures.specs.Measures.{measured}
use Rattle.check_scene.specs.Placings.{placing_ok, inverse_at}
use Rattle.check_scene.specs.Extents.{own_box}
use Rattle.geometry.specs.declared.hit.Hit.{Hit}

-- number 2: 16 numbers and 4 marks an entry, an owner a path start, three numbers a point, and at most 1,024 entries
unfoldable pub lengths_agree : Scene → Bool
lengths_agree s =
    leb (entries_of s) 1024
    && (eqb (entries_of s * 4) (length s.marks)
    && (eqb (entries_of s * 16) (length s.numbers)
    && (eqb (length s.starts) (length s.owners)
    && eqb (length s.points / 3 * 3) (length s.points))))

-- number 3
abbrev pub values_ok : Scene → Bool
values_ok s = all_of (λ i. known (marks_at s.marks i)) (entries_of s)

-- number 14
abbrev pub stripes_ok : Scene → Bool
stripes_ok s = all_of (λ i. few_stripes (marks_at s.marks i)) (entries_of s)

-- number 4: of parts, of owners and of path starts
abbrev pub names_ok : Scene → Bool
names_ok s = parts_ok s.marks (entries_of s)

abbrev pub lines_owned : Scene → Bool
lines_owned s = owners_ok s.marks s.owners

abbrev pub starts_ok : Scene → Bool
starts_ok s = good_starts (length s.points / 3) s.starts

-- number 5
abbrev pub measures_ok : Scene → Bool
measures_ok s = all_of (λ i. measured (marks_at s.marks i) (numbers_at s.numbers i)) (entries_of s)

-- number 6
abbrev pub placings_ok : Scene → Bool
placings_ok s = all_of (λ i. placing_ok (marks_at s.marks i) (numbers_at s.numbers i)) (entries_of s)

-- number 7
abbrev pub extents_ok : Scene → Bool
extents_ok s = all_of (λ i. within_box (own_box s.numbers s.marks i)) (entries_of s)

-- of conditions in order, each with its number: the number of the first that doesn't hold, or the verdict where all hold
unfoldable pub first_met : List (Bool × Refusal) → Result ℕ Refusal → Result ℕ Refusal
first_met [] v = v
first_met ((holds, number) ∷ rest) v = cond holds (first_met rest v) (Err number)

-- numbers 2, 3, 14 and 4 to 7 in checking order, or how many entries are drawn
unfoldable pub check_of : Scene → Result ℕ Refusal
check_of s =
    first_met
    ((lengths_agree s, Lengths)
    ∷ (values_ok s, Values)
    ∷ (stripes_ok s, Stripes)
    ∷ (names_ok s && (lines_owned s && starts_ok s), Parts)
    ∷ (measures_ok s, Measures)
    ∷ (placings_ok s, Placing)
    ∷ (extents_ok s, Extent)
    ∷ [])
    (Ok (length (drawn s.marks)))

-- ---- what the check leaves of a scene that it accepts, nothing of another
abbrev pub inverses_of : Scene → List Float
inverses_of s = flat numbers_row (list_to (inverse_at s.numbers s.marks) (entries_of s))

abbrev pub boxes_of : Scene → List Float
boxes_of s = flat box_row (list_to (own_box s.numbers s.marks) (entries_of s))

unfoldable pub if_accepted {ℓ} : {A : Type ℓ} → Result ℕ Refusal → List A → List A
if_accepted (Ok n) rows = rows
if_accepted (Err k) rows = []

-- the verdict, and how the check leaves the slices for inverses, boxes and drawn entries, by what they held before
pub record Checked (s : Scene) (inverses₀ boxes₀ : List Float) (drawn₀ : List ℕ) (r : Result ℕ Refusal) (inverses boxes : List Float) (listed : List ℕ) : Type 0 where
  pub verdict : r ≡ check_of s
  pub inverses_are : inverses ≡ padded zero_f (length inverses₀) (if_accepted r (inverses_of s))
  pub boxes_are : boxes ≡ padded zero_f (length boxes₀) (if_accepted r (boxes_of s))
  pub drawn_are : listed ≡ padded 0 (length drawn₀) (if_accepted r (drawn s.marks))

-- what a ray meets, asked of a scene after its verdict
unfoldable pub struck_after : Result ℕ Refusal → Result Hit Refusal → Result Hit Refusal
struck_after (Ok n) h = h
struck_after (Err k) h = Err k
