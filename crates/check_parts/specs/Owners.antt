-- Document 01's number 4, of a line's owner: an entry of kind 1 to 3, or of document 02's 8 and 9, and owners never fall.
use Rattle.std.specs.Prelude.{ℕ, List, [], ◌∷◌, Bool, true, ◌&&◌, ◌||◌, get_or, ltb, leb, eqb}
use Rattle.check_parts.specs.Parts.{kind_at}
use Rattle.scene.specs.Scenes.{entries}

-- the kinds whose lines are handed in: sphere, cylinder and cone, closed cylinder and closed cone
unfoldable pub is_round : ℕ → Bool
is_round kind = eqb kind 8 || (eqb kind 9 || (leb 1 kind && leb kind 3))

unfoldable pub round_entry : List ℕ → ℕ → Bool
round_entry marks i = ltb i (entries marks) && is_round (kind_at marks i)

-- the last owner has no next one to fall below
unfoldable pub owners_ok : List ℕ → List ℕ → Bool
owners_ok marks [] = true
owners_ok marks (o ∷ owners) = round_entry marks o && (leb o (get_or owners 0 o) && owners_ok marks owners)
