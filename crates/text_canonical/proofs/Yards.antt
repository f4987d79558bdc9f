-- What `yard` reads of the text of a view and forms. Assumes nothing.
use Prim.Native.Nat.{ℕ, ◌+◌, ◌≤◌}
use mathlib.Core.Path.{◌≡◌, refl, sym, ap, ap₂, ◌∙◌, subst}
use mathlib.Core.Bool.{Bool, true, false, cond, ◌||◌}
use mathlib.Core.List.{List, [], ◌∷◌, ◌++◌, append_assoc, append-nil}
use native.Mathlib.Omega.{arith}
use borrow.Author.Tests.{le-leb, ne_eqb}
use lib.Dec.{eqb}
use lib.ListN.{length}
use lib.Ieee.{Float}
use Rattle.geometry.specs.declared.vector.Vector.{Vector}
use Rattle.rows.specs.Rows.{flat}
use Rattle.scene.specs.Entries.{matrix_of, matrix_numbers}
use Rattle.view.specs.declared.View.{View}
use Rattle.scene.specs.Scenes.{Scene, entries_of}
use Rattle.text_tokens.specs.Tokens.{Token, opens, closes, word, got, and_then, open_in, close_in, word_in, tokens_from, left, flush, word_byte}
use Rattle.text_heads.specs.Heads.{same_word, head_in, named_in, numbers_in, view_word, view_of, view_in, line_word}
use Rattle.text_heads.specs.Lines.{point_count}
use Rattle.text_drawing.specs.Numbers.{decimal_text}
use Rattle.text_scene.specs.Texts.{lines_from, unless_empty, filled, lines_left, whole_line, forms_in, empty_scene, yard_in, yard_of}
use Rattle.lists.specs.Lists.{Each}
use Rattle.text_canonical.specs.Forms.{Form, round_form, cube_form, triangle_form, placed_form, cut_form, no_form}
use Rattle.text_canonical.specs.Canonical.{form_text, view_numbers, view_text, form_line, forms_text}
use Rattle.text_canonical.specs.Writable.{F64s, Writable, form_entries, form_points, form_lines, sum_of, FitsYard}
use Rattle.text_canonical.proofs.Numerals.{hex_number}
use Rattle.text_canonical.proofs.Added.{head_word, number_tokens, head_tokens, tokens_of, added, added_all}
use Rattle.text_canonical.proofs.Rereading.{numbers-read, form-read, grows}
use Rattle.text_canonical.proofs.Lexing.{numbers_before, points_before, lines_before, detail_before, stripes_before, head_before, text_before, Wordy, word-token, open-token, close-lexed, numbers-lexed, form-lexed, hex-number-wordy, decimal-text, head-wordy, line-wordy, wordy_of, wordy_test, numbers-before, form-before}

-- ---- the view
view-count : (v : View) → length (view_numbers v) ≡ 22
unfolding matrix_numbers
view-count v = refl

view-back : (v : View) → view_of (view_numbers v) ≡ v
unfolding view_of matrix_numbers matrix_of
view-back v = refl

-- twenty-two numbers
view-numbers : (v : View) → F64s (view_numbers v) → numbers_in [] 22 (number_tokens (view_numbers v) (closes ∷ [])) ≡ got (view_numbers v) (closes ∷ [])
view-numbers v d = subst (λ (n : ℕ). numbers_in [] n (number_tokens (view_numbers v) (closes ∷ [])) ≡ got (view_numbers v) (closes ∷ [])) (many v) (numbers-read [] (view_numbers v) (closes ∷ []) d)
  where
    many : (v : View) → length (view_numbers v) ≡ 22
    many v = view-count v

pub view-read : (v : View) → F64s (view_numbers v) → view_in (opens ∷ word view_word ∷ number_tokens (view_numbers v) (closes ∷ [])) ≡ got v []
unfolding view_in named_in head_in open_in word_in close_in and_then same_word
view-read v d = rw (view-numbers v d) (ap (λ (x : View). got x []) (view-back v))

view-wordy : Wordy view_word
unfolding wordy_test word_byte
view-wordy = wordy_of view_word refl

no-tokens : tokens_from [] [] ≡ []
unfolding tokens_from flush
no-tokens = refl

view-before : (v : View) → view_text v ≡ 40 ∷ (view_word ++ numbers_before (view_numbers v) (41 ∷ []))
unfolding view_text
view-before v = ap (λ (u : List ℕ). 40 ∷ (view_word ++ u)) (numbers-before (view_numbers v) (41 ∷ []))

view-lexed : (v : View) → tokens_from [] (view_text v) ≡ opens ∷ word view_word ∷ number_tokens (view_numbers v) (closes ∷ [])
view-lexed v =
    let n = numbers-lexed (view_numbers v) (41 ∷ []) (closes ∷ []) (close-lexed [] no-tokens) in
    ap (tokens_from []) (view-before v) ∙ open-token (view_word ++ numbers_before (view_numbers v) (41 ∷ [])) ∙ ap (λ (ts : List Token). opens ∷ ts) (word-token view_word (numbers_before (view_numbers v) (41 ∷ [])) (omega arith) view-wordy n.1 ∙ ap (λ (ts : List Token). word view_word ∷ ts) n.0)

-- ---- no line feed within a form
unfoldable pub Plain : List ℕ → Type 0
Plain [] = Unit
Plain (b ∷ t) = (b ≡ 10 → ⊥) × Plain t

wordy-plain : (w t : List ℕ) → Wordy w → Plain t → Plain (w ++ t)
unfolding Wordy Plain
wordy-plain [] t h k = k
wordy-plain (b ∷ w) t h k = (h.1, wordy-plain w t h.2 k)

not-feed : (b : ℕ) (t : List ℕ) → (b ≡ 10 → ⊥) → Plain t → Plain (b ∷ t)
unfolding Plain
not-feed b t h k = (h, k)

space-plain : (t : List ℕ) → Plain t → Plain (32 ∷ t)
space-plain t k = not-feed 32 t (λ e. omega (arith, e)) k

open_plain : (t : List ℕ) → Plain t → Plain (40 ∷ t)
open_plain t k = not-feed 40 t (λ e. omega (arith, e)) k

close-plain : (t : List ℕ) → Plain t → Plain (41 ∷ t)
close-plain t k = not-feed 41 t (λ e. omega (arith, e)) k

hex-plain : (x : Float) (t : List ℕ) → Plain t → Plain (32 ∷ (hex_number x ++ t))
hex-plain x t k = space-plain (hex_number x ++ t) (wordy-plain (hex_number x) t (hex-number-wordy x) k)

numbers-plain : (xs : List Float) (t : List ℕ) → Plain t → Plain (numbers_before xs t)
unfolding numbers_before
numbers-plain [] t k = k
numbers-plain (x ∷ xs) t k = hex-plain x (numbers_before xs t) (numbers-plain xs t k)

points-plain : (ps : List Vector) (t : List ℕ) → Plain t → Plain (points_before ps t)
unfolding points_before
points-plain [] t k = k
points-plain (p ∷ ps) t k = hex-plain p.x _ (hex-plain p.y _ (hex-plain p.z _ (points-plain ps t k)))

lines-plain : (ls : List (List Vector)) (t : List ℕ) → Plain t → Plain (lines_before ls t)
unfolding lines_before
lines-plain [] t k = k
lines-plain (l ∷ ls) t k = space-plain _ (open_plain _ (wordy-plain line_word _ line-wordy (points-plain l _ (close-plain _ (lines-plain ls t k)))))

detail-plain : (k v : ℕ) (t : List ℕ) → Plain t → Plain (detail_before k v t)
unfolding detail_before
detail-plain k v t h = by (eqb k 4 || eqb k 7)
  where
    by : (b : Bool) → Plain (cond b (32 ∷ (decimal_text v ++ t)) t)
    by true = space-plain _ (wordy-plain (decimal_text v) t (decimal-text v) h)
    by false = h

head_plain : (k v : ℕ) (xs : List Float) (t : List ℕ) → Plain t → Plain (head_before k v xs t)
unfolding head_before
head_plain k v xs t h = open_plain _ (wordy-plain (head_word k) _ (head-wordy k).1 (detail-plain k v _ (numbers-plain xs t h)))

stripes-plain : (n : ℕ) (t : List ℕ) → Plain t → Plain (stripes_before n t)
unfolding stripes_before
stripes-plain n t h = by (eqb n 0)
  where
    by : (b : Bool) → Plain (cond b t (32 ∷ (decimal_text n ++ t)))
    by true = h
    by false = space-plain _ (wordy-plain (decimal_text n) t (decimal-text n) h)

form-plain : (f : Form) (t : List ℕ) → Plain t → Plain (text_before f t)
unfolding text_before
form-plain (round_form k n xs ls) t h = head_plain k 0 xs _ (stripes-plain n _ (lines-plain ls _ (close-plain t h)))
form-plain (cube_form n xs) t h = head_plain 4 n xs _ (close-plain t h)
form-plain (triangle_form xs) t h = head_plain 5 0 xs _ (close-plain t h)
form-plain (placed_form xs f) t h = head_plain 6 0 xs _ (space-plain _ (form-plain f _ (close-plain t h)))
form-plain (cut_form o f g) t h = head_plain 7 o [] _ (space-plain _ (form-plain f _ (space-plain _ (form-plain g _ (close-plain t h)))))
form-plain no_form t h = h

nothing-plain : Plain []
unfolding Plain
nothing-plain = tt

view-plain : (v : View) → Plain (view_text v)
view-plain v = subst Plain (sym (view-before v)) (open_plain _ (wordy-plain view_word _ view-wordy (numbers-plain (view_numbers v) _ (close-plain [] nothing-plain))))

-- ---- lines
line-cut : (w l rest : List ℕ) → Plain l → lines_from w (l ++ (10 ∷ rest)) ≡ (w ++ l) ∷ lines_from [] rest
unfolding lines_from Plain
line-cut w [] rest h = ap (λ (x : List ℕ). x ∷ lines_from [] rest) (sym (append-nil w))
line-cut w (b ∷ l) rest h = rw (ne_eqb b 10 h.0) (line-cut (w ++ (b ∷ [])) l rest h.1 ∙ ap (λ (x : List ℕ). x ∷ lines_from [] rest) (append_assoc w (b ∷ []) l))

-- the tokens of each form's line
unfoldable pub line_tokens_of : List Form → List (List Token)
line_tokens_of [] = []
line_tokens_of (f ∷ fs) = tokens_of f [] ∷ line_tokens_of fs

some-tokens : (f : Form) (ls : List (List Token)) → Writable f → unless_empty (tokens_of f []) ls ≡ tokens_of f [] ∷ ls
unfolding tokens_of head_tokens unless_empty Writable
some-tokens (round_form k n xs l) ls g = refl
some-tokens (cube_form n xs) ls g = refl
some-tokens (triangle_form xs) ls g = refl
some-tokens (placed_form xs f) ls g = refl
some-tokens (cut_form o f h) ls g = refl
some-tokens no_form ls g = absurd g

left_is : (l : List ℕ) → left l 0 ≡ tokens_from [] l
unfolding left
left_is l = refl

last_line : filled (lines_from [] []) ≡ []
unfolding lines_from filled unless_empty left tokens_from flush
last_line = refl

whole-text : (f : Form) → Writable f → form_text f ≡ text_before f []
whole-text f g = sym (append-nil (form_text f)) ∙ form-before f g []

forms-filled : (fs : List Form) → Each Writable fs → filled (lines_from [] (flat form_line fs)) ≡ line_tokens_of fs
unfolding flat form_line line_tokens_of filled Each
forms-filled [] g = last_line
forms-filled (f ∷ fs) g =
    ap (λ (x : List ℕ). filled (lines_from [] x)) (append_assoc (form_text f) (10 ∷ []) (flat form_line fs) ∙ ap (λ (x : List ℕ). x ++ (10 ∷ flat form_line fs)) (whole-text f g.0))
    ∙ ap filled (line-cut [] (text_before f []) (flat form_line fs) (form-plain f [] nothing-plain))
    ∙ ap₂ unless_empty (left_is (text_before f []) ∙ form-lexed f [] [] no-tokens) (forms-filled fs g.1)
    ∙ some-tokens f (line_tokens_of fs) g.0

-- ---- all forms
-- the forms have their places after those of s
pub record Placed (fs : List Form) (s : Scene) : Type 0 where
  pub entries : entries_of s + sum_of form_entries fs ≤ 512
  pub points : point_count s + sum_of form_points fs ≤ 2048
  pub lines : length s.starts + sum_of form_lines fs ≤ 2048

placed-next : (f : Form) (fs : List Form) (s : Scene) → Placed (f ∷ fs) s → Placed fs (added f s)
unfolding sum_of
placed-next f fs s F = let g = grows f s in record {
  entries = rw g.entries (omega (arith, F.entries));
  points = rw g.points (omega (arith, F.points));
  lines = rw g.lines (omega (arith, F.lines));
}

forms-read : (fs : List Form) (s : Scene) → Each Writable fs → Placed fs s → forms_in s (line_tokens_of fs) ≡ got (added_all fs s) []
unfolding forms_in line_tokens_of added_all Each and_then whole_line sum_of
forms-read [] s g F = refl
forms-read (f ∷ fs) s g F =
    rw (form-read f 512 s [] g.0 (omega (arith, F.entries)) (omega (arith, F.entries)) (omega (arith, F.points)) (omega (arith, F.lines)))
    (forms-read fs (added f s) g.1 (placed-next f fs s F))

-- ---- the text
view-some : (v : View) (ls : List (List Token)) → unless_empty (opens ∷ word view_word ∷ number_tokens (view_numbers v) (closes ∷ [])) ls ≡ (opens ∷ word view_word ∷ number_tokens (view_numbers v) (closes ∷ [])) ∷ ls
unfolding unless_empty
view-some v ls = refl

pub text-lines : (v : View) (fs : List Form) → Each Writable fs → lines_left (forms_text v fs) 0 ≡ (opens ∷ word view_word ∷ number_tokens (view_numbers v) (closes ∷ [])) ∷ line_tokens_of fs
unfolding lines_left forms_text filled
text-lines v fs g =
    ap filled (line-cut [] (view_text v) (flat form_line fs) (view-plain v))
    ∙ ap₂ unless_empty (left_is (view_text v) ∙ view-lexed v) (forms-filled fs g)
    ∙ view-some v (line_tokens_of fs)

-- What `yard` reads of a text that it takes: the view, and the forms one after the other.
pub forms-taken : (v : View) (fs : List Form) → F64s (view_numbers v) → Each Writable fs → FitsYard v fs
    → yard_of (forms_text v fs) ≡ got (record { view = v; scene = added_all fs empty_scene }) []
unfolding yard_of yard_in and_then whole_line
forms-taken v fs d g F =
    rw (le-leb (length (forms_text v fs)) 65536 F.bytes, text-lines v fs g, view-read v d, forms-read fs empty_scene g (record { entries = omega (arith, F.entries); points = omega (arith, F.points); lines = omega (arith, F.lines) }))
