-- The tokens of a form, and the scene that reading them leaves. Assumes nothing.
use Prim.Native.Nat.{ℕ, ◌+◌}
use mathlib.Core.Bool.{cond, ◌||◌}
use mathlib.Core.List.{List, [], ◌∷◌}
use lib.Dec.{eqb}
use lib.Ieee.{Float}
use Rattle.floats.specs.Arith.{zero_f}
use Rattle.geometry.specs.declared.vector.Vector.{Vector}
use Rattle.rows.specs.Rows.{padded}
use Rattle.rows.specs.Entries.{numbers_of}
use Rattle.scene.specs.Scenes.{Scene, entries_of}
use Rattle.check_parts.specs.Parts.{larger}
use Rattle.text_tokens.specs.Tokens.{Token, opens, closes, word}
use Rattle.text_heads.specs.Heads.{cube, triangle, place, cut, line_word}
use Rattle.text_heads.specs.Lines.{dotted, begun}
use Rattle.text_heads.specs.declared.Head.{Head}
use Rattle.text_forms.specs.Forms.{last, entered}
use Rattle.text_drawing.specs.Numbers.{decimal_text}
use Rattle.text_canonical.specs.Forms.{Form, round_form, cube_form, triangle_form, placed_form, cut_form, no_form}
use Rattle.text_canonical.specs.Canonical.{round_word}
use Rattle.text_canonical.proofs.Numerals.{hex_number}

-- the head of a kind
unfoldable pub head_word : ℕ → List ℕ
head_word k = cond (eqb k 4) cube (cond (eqb k 5) triangle (cond (eqb k 6) place (cond (eqb k 7) cut (round_word k))))

-- ---- tokens, before others
unfoldable pub number_tokens : List Float → List Token → List Token
number_tokens [] ts = ts
number_tokens (x ∷ xs) ts = word (hex_number x) ∷ number_tokens xs ts

unfoldable pub point_tokens : List Vector → List Token → List Token
point_tokens [] ts = ts
point_tokens (p ∷ ps) ts = word (hex_number p.x) ∷ word (hex_number p.y) ∷ word (hex_number p.z) ∷ point_tokens ps ts

unfoldable pub line_tokens : List (List Vector) → List Token → List Token
line_tokens [] ts = ts
line_tokens (l ∷ ls) ts = opens ∷ word line_word ∷ point_tokens l (closes ∷ line_tokens ls ts)

-- a cube's stripes and a cut's operation
unfoldable pub detail_tokens : ℕ → ℕ → List Token → List Token
detail_tokens k v ts = cond (eqb k 4 || eqb k 7) (word (decimal_text v) ∷ ts) ts

unfoldable pub stripe_tokens : ℕ → List Token → List Token
stripe_tokens n ts = cond (eqb n 0) ts (word (decimal_text n) ∷ ts)

unfoldable pub head_tokens : ℕ → ℕ → List Float → List Token → List Token
head_tokens k v xs ts = opens ∷ word (head_word k) ∷ detail_tokens k v (number_tokens xs ts)

unfoldable pub tokens_of : Form → List Token → List Token
tokens_of (round_form k n xs ls) ts = head_tokens k 0 xs (stripe_tokens n (line_tokens ls (closes ∷ ts)))
tokens_of (cube_form n xs) ts = head_tokens 4 n xs (closes ∷ ts)
tokens_of (triangle_form xs) ts = head_tokens 5 0 xs (closes ∷ ts)
tokens_of (placed_form xs f) ts = head_tokens 6 0 xs (tokens_of f (closes ∷ ts))
tokens_of (cut_form o f g) ts = head_tokens 7 o [] (tokens_of f (tokens_of g (closes ∷ ts)))
tokens_of no_form ts = ts

-- ---- the scene that reading leaves
abbrev pub head_of : ℕ → ℕ → List Float → Head
head_of k v xs = record { kind = k; detail = v; row = numbers_of (padded zero_f 16 xs) }

unfoldable pub with_dots : List Vector → Scene → Scene
with_dots [] s = s
with_dots (p ∷ ps) s = with_dots ps (dotted p s)

unfoldable pub with_lines : ℕ → List (List Vector) → Scene → Scene
with_lines i [] s = s
with_lines i (l ∷ ls) s = with_lines i ls (with_dots l (begun i s))

unfoldable pub added : Form → Scene → Scene
added (round_form k n xs ls) s = with_lines (entries_of s) ls (entered (head_of k n xs) 0 0 s)
added (cube_form n xs) s = entered (head_of 4 n xs) 0 0 s
added (triangle_form xs) s = entered (head_of 5 0 xs) 0 0 s
added (placed_form xs f) s = entered (head_of 6 0 xs) (last (added f s)) 0 (added f s)
added (cut_form o f g) s = entered (head_of 7 o []) (last (added f s)) (last (added g (added f s))) (added g (added f s))
added no_form s = s

unfoldable pub added_all : List Form → Scene → Scene
added_all [] s = s
added_all (f ∷ fs) s = added_all fs (added f s)

-- how deep it is: a form without parts has 1
unfoldable pub deep_of : Form → ℕ
deep_of (round_form k n xs ls) = 1
deep_of (cube_form n xs) = 1
deep_of (triangle_form xs) = 1
deep_of (placed_form xs f) = deep_of f + 1
deep_of (cut_form o f g) = larger (deep_of f) (deep_of g) + 1
deep_of no_form = 0
