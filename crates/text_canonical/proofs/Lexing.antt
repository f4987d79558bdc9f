-- The text of a form, and its tokens. Assumes nothing.
use Prim.Native.Nat.{ℕ, zero, suc, ◌+◌, ◌/◌, ◌%◌, ◌≤◌, ◌<◌}
use mathlib.Core.Path.{◌≡◌, refl, sym, ap, ◌∙◌}
use mathlib.Core.Logic.{◌⊎◌, inl, inr}
use mathlib.Core.Bool.{Bool, true, false, cond, not, ◌&&◌, ◌||◌, and-eq-true_iff}
use mathlib.Core.List.{List, [], ◌∷◌, ◌++◌, append_assoc, append-nil}
use native.Mathlib.Omega.{arith}
use borrow.Author.Tests.{lt-ltb, le-ltb, eq-eqb, ne_eqb}
use lib.Dec.{ltb, eqb}
use lib.ListN.{length, length-append}
use lib.Ieee.{Float, binary64, to_bits}
use Rattle.floats.proofs.Order.{le-or-lt}
use Rattle.geometry.specs.declared.vector.Vector.{Vector}
use Rattle.rows.specs.Rows.{flat}
use Rattle.rows.specs.Points.{point_row}
use Rattle.check_parts.specs.Owners.{is_round}
use Rattle.text_tokens.specs.Tokens.{Token, opens, closes, word, word_byte, marked, flush, tokens_from}
use Rattle.text_tokens.proofs.Tokens.{is_word}
use Rattle.text_heads.specs.Heads.{sphere, cylinder, cone, cube, triangle, place, cut, closed_cylinder, closed_cone, line_word}
use Rattle.text_drawing.specs.Numbers.{digit_byte, hex_word, decimal_word, decimal_text}
use Rattle.text_canonical.specs.Forms.{Form, round_form, cube_form, triangle_form, placed_form, cut_form, no_form}
use Rattle.text_canonical.specs.Canonical.{round_word, hex_text, numbers_text, count_text, stripes_text, line_text, form_text}
use Rattle.text_canonical.specs.Writable.{Writable}
use Rattle.text_canonical.proofs.Numerals.{hex_number}
use Rattle.text_canonical.proofs.Added.{head_word, number_tokens, point_tokens, line_tokens, detail_tokens, stripe_tokens, head_tokens, tokens_of}
use Rattle.text_canonical.proofs.Rereading.{round-not}

-- ---- the text, before more
unfoldable pub numbers_before : List Float → List ℕ → List ℕ
numbers_before [] t = t
numbers_before (x ∷ xs) t = 32 ∷ (hex_number x ++ numbers_before xs t)

unfoldable pub points_before : List Vector → List ℕ → List ℕ
points_before [] t = t
points_before (p ∷ ps) t = 32 ∷ (hex_number p.x ++ (32 ∷ (hex_number p.y ++ (32 ∷ (hex_number p.z ++ points_before ps t)))))

unfoldable pub lines_before : List (List Vector) → List ℕ → List ℕ
lines_before [] t = t
lines_before (l ∷ ls) t = 32 ∷ 40 ∷ (line_word ++ points_before l (41 ∷ lines_before ls t))

unfoldable pub detail_before : ℕ → ℕ → List ℕ → List ℕ
detail_before k v t = cond (eqb k 4 || eqb k 7) (32 ∷ (decimal_text v ++ t)) t

unfoldable pub stripes_before : ℕ → List ℕ → List ℕ
stripes_before n t = cond (eqb n 0) t (32 ∷ (decimal_text n ++ t))

unfoldable pub head_before : ℕ → ℕ → List Float → List ℕ → List ℕ
head_before k v xs t = 40 ∷ (head_word k ++ detail_before k v (numbers_before xs t))

unfoldable pub text_before : Form → List ℕ → List ℕ
text_before (round_form k n xs ls) t = head_before k 0 xs (stripes_before n (lines_before ls (41 ∷ t)))
text_before (cube_form n xs) t = head_before 4 n xs (41 ∷ t)
text_before (triangle_form xs) t = head_before 5 0 xs (41 ∷ t)
text_before (placed_form xs f) t = head_before 6 0 xs (32 ∷ text_before f (41 ∷ t))
text_before (cut_form o f g) t = head_before 7 o [] (32 ∷ text_before f (32 ∷ text_before g (41 ∷ t)))
text_before no_form t = t

-- ---- words
-- no byte is a space, a bracket or a line feed
unfoldable pub Wordy : List ℕ → Type 0
Wordy [] = Unit
Wordy (b ∷ w) = (word_byte b ≡ true) × (b ≡ 10 → ⊥) × Wordy w

wordy-append : (v w : List ℕ) → Wordy v → Wordy w → Wordy (v ++ w)
unfolding Wordy
wordy-append [] w h k = k
wordy-append (b ∷ v) w h k = (h.0, h.1, wordy-append v w h.2 k)

digit-wordy : (d : ℕ) → d < 16 → (word_byte (digit_byte d) ≡ true) × (digit_byte d ≡ 10 → ⊥)
unfolding digit_byte
digit-wordy d l = by (le-or-lt 10 d)
  where
    by : (10 ≤ d) ⊎ (d < 10) → (word_byte (cond (ltb d 10) (48 + d) (55 + d)) ≡ true) × (cond (ltb d 10) (48 + d) (55 + d) ≡ 10 → ⊥)
    by (inl h) = rw (le-ltb d 10 h) (is_word (55 + d) (λ e. omega (arith, e)) (λ e. omega (arith, e)) (λ e. omega (arith, e)), λ e. omega (arith, e))
    by (inr h) = rw (lt-ltb d 10 h) (is_word (48 + d) (λ e. omega (arith, e)) (λ e. omega (arith, e)) (λ e. omega (arith, e)), λ e. omega (arith, e))

digit-word : (d : ℕ) → d < 16 → Wordy (digit_byte d ∷ [])
unfolding Wordy
digit-word d l = let h = digit-wordy d l in (h.0, h.1, tt)

hex-wordy : (k v : ℕ) → Wordy (hex_word k v)
unfolding hex_word Wordy
hex-wordy zero v = tt
hex-wordy (suc k) v = wordy-append (hex_word k (v / 16)) (digit_byte (v % 16) ∷ []) (hex-wordy k (v / 16)) (digit-word (v % 16) (omega arith))

pub hex-number-wordy : (x : Float) → Wordy (hex_number x)
unfolding Wordy word_byte
hex-number-wordy x = (refl, λ e. omega (arith, e), hex-wordy 16 (to_bits binary64 x))

decimal-wordy : (k n : ℕ) → Wordy (decimal_word k n)
unfolding decimal_word Wordy
decimal-wordy zero n = tt
decimal-wordy (suc k) n = by (le-or-lt 10 n) (decimal-wordy k (n / 10))
  where
    by : (10 ≤ n) ⊎ (n < 10) → Wordy (decimal_word k (n / 10)) → Wordy (cond (ltb n 10) (digit_byte n ∷ []) (decimal_word k (n / 10) ++ (digit_byte (n % 10) ∷ [])))
    by (inl h) w = rw (le-ltb n 10 h) (wordy-append (decimal_word k (n / 10)) (digit_byte (n % 10) ∷ []) w (digit-word (n % 10) (omega arith)))
    by (inr h) w = rw (lt-ltb n 10 h) (digit-word n (omega (arith, h)))

-- ---- tokens
-- the text ends, or goes on with what is no word's byte
unfoldable pub Stops : List ℕ → Type 0
Stops [] = Unit
Stops (b ∷ t) = word_byte b ≡ false

stop-flush : (w t : List ℕ) → Stops t → tokens_from w t ≡ flush w (tokens_from [] t)
unfolding tokens_from Stops flush
stop-flush w [] h = refl
stop-flush w (b ∷ t) h = rw h

word-through : (w v t : List ℕ) → Wordy v → Stops t → tokens_from w (v ++ t) ≡ flush (w ++ v) (tokens_from [] t)
unfolding tokens_from Wordy
word-through w [] t h s = stop-flush w t s ∙ ap (λ (u : List ℕ). flush u (tokens_from [] t)) (sym (append-nil w))
word-through w (b ∷ v) t h s = rw h.0 (word-through (w ++ (b ∷ [])) v t h.2 s ∙ ap (λ (u : List ℕ). flush u (tokens_from [] t)) (append_assoc w (b ∷ []) v))

-- a word that is not empty, and what follows
some_word : (v : List ℕ) (ts : List Token) → 0 < length v → flush v ts ≡ word v ∷ ts
unfolding flush
some_word [] ts l = absurd (omega arith)
some_word (b ∷ v) ts l = refl

pub word-token : (v t : List ℕ) → 0 < length v → Wordy v → Stops t → tokens_from [] (v ++ t) ≡ word v ∷ tokens_from [] t
word-token v t l h s = word-through [] v t h s ∙ some_word v (tokens_from [] t) l

space-token : (t : List ℕ) → tokens_from [] (32 ∷ t) ≡ tokens_from [] t
unfolding tokens_from word_byte marked flush
space-token t = refl

pub open-token : (t : List ℕ) → tokens_from [] (40 ∷ t) ≡ opens ∷ tokens_from [] t
unfolding tokens_from word_byte marked flush
open-token t = refl

close-token : (t : List ℕ) → tokens_from [] (41 ∷ t) ≡ closes ∷ tokens_from [] t
unfolding tokens_from word_byte marked flush
close-token t = refl

space-stops : (t : List ℕ) → Stops (32 ∷ t)
unfolding Stops word_byte
space-stops t = refl

close-stops : (t : List ℕ) → Stops (41 ∷ t)
unfolding Stops word_byte
close-stops t = refl

hex-some : (x : Float) → 0 < length (hex_number x)
hex-some x = omega arith

-- a space and a number
hex-token : (x : Float) (t : List ℕ) → Stops t → tokens_from [] (32 ∷ (hex_number x ++ t)) ≡ word (hex_number x) ∷ tokens_from [] t
hex-token x t s = space-token (hex_number x ++ t) ∙ word-token (hex_number x) t (hex-some x) (hex-number-wordy x) s

-- what is said of a text: its tokens, and that a word before it ends there
abbrev pub Lexed : List ℕ → List Token → Type 0
Lexed t ts = (tokens_from [] t ≡ ts) × Stops t

pub numbers-lexed : (xs : List Float) (t : List ℕ) (ts : List Token) → Lexed t ts → Lexed (numbers_before xs t) (number_tokens xs ts)
unfolding numbers_before number_tokens
numbers-lexed [] t ts h = h
numbers-lexed (x ∷ xs) t ts h =
    let r = numbers-lexed xs t ts h in
    (hex-token x (numbers_before xs t) r.1 ∙ ap (λ (us : List Token). word (hex_number x) ∷ us) r.0, space-stops (hex_number x ++ numbers_before xs t))

points-lexed : (ps : List Vector) (t : List ℕ) (ts : List Token) → Lexed t ts → Lexed (points_before ps t) (point_tokens ps ts)
unfolding points_before point_tokens
points-lexed [] t ts h = h
points-lexed (p ∷ ps) t ts h =
    let r = points-lexed ps t ts h in
    (hex-token p.x _ (space-stops _) ∙ ap (λ (us : List Token). word (hex_number p.x) ∷ us) (hex-token p.y _ (space-stops _) ∙ ap (λ (us : List Token). word (hex_number p.y) ∷ us) (hex-token p.z _ r.1 ∙ ap (λ (us : List Token). word (hex_number p.z) ∷ us) r.0)), space-stops _)

-- a word that is known, by a test
unfoldable pub wordy_test : List ℕ → Bool
wordy_test [] = true
wordy_test (b ∷ w) = word_byte b && (not (eqb b 10) && wordy_test w)

pub wordy_of : (w : List ℕ) → wordy_test w ≡ true → Wordy w
unfolding wordy_test Wordy
wordy_of [] e = tt
wordy_of (b ∷ w) e =
    let h = (and-eq-true_iff (word_byte b) _).0 e in
    let k = (and-eq-true_iff (not (eqb b 10)) (wordy_test w)).0 h.1 in
    (h.0, (λ z. tests (eqb b 10) (eq-eqb b 10 z) k.0), wordy_of w k.1)
  where
    tests : (t : Bool) → t ≡ true → not t ≡ true → ⊥
    tests true e f = let z : ◌≡◌ {A = ℕ} 0 1 = ap (λ (x : Bool). cond x 1 0) f in omega (arith, z)
    tests false e f = let z : ◌≡◌ {A = ℕ} 0 1 = ap (λ (x : Bool). cond x 1 0) e in omega (arith, z)

pub line-wordy : Wordy line_word
unfolding wordy_test word_byte
line-wordy = wordy_of line_word refl

pub close-lexed : (t : List ℕ) {ts : List Token} → tokens_from [] t ≡ ts → Lexed (41 ∷ t) (closes ∷ ts)
close-lexed t e = (close-token t ∙ ap (λ (us : List Token). closes ∷ us) e, close-stops t)

lines-lexed : (ls : List (List Vector)) (t : List ℕ) (ts : List Token) → Lexed t ts → Lexed (lines_before ls t) (line_tokens ls ts)
unfolding lines_before line_tokens
lines-lexed [] t ts h = h
lines-lexed (l ∷ ls) t ts h =
    let r = lines-lexed ls t ts h in
    let p = points-lexed l (41 ∷ lines_before ls t) (closes ∷ line_tokens ls ts) (close-lexed (lines_before ls t) r.0) in (
      space-token (40 ∷ (line_word ++ points_before l (41 ∷ lines_before ls t))) ∙ open-token (line_word ++ points_before l (41 ∷ lines_before ls t))
          ∙ ap (λ (us : List Token). opens ∷ us) (word-token line_word (points_before l (41 ∷ lines_before ls t)) (omega arith) line-wordy p.1 ∙ ap (λ (us : List Token). word line_word ∷ us) p.0),
      space-stops _,
    )

some-decimal : (n : ℕ) → 0 < length (decimal_text n)
unfolding decimal_text decimal_word
some-decimal n = by (ltb n 10)
  where
    by : (t : Bool) → 0 < length (cond t (digit_byte n ∷ []) (decimal_word 19 (n / 10) ++ (digit_byte (n % 10) ∷ [])))
    by true = omega arith
    by false = omega (arith, length-append (decimal_word 19 (n / 10)) (digit_byte (n % 10) ∷ []))

pub decimal-text : (n : ℕ) → Wordy (decimal_text n)
unfolding decimal_text
decimal-text n = decimal-wordy 20 n

detail-lexed : (k v : ℕ) (t : List ℕ) (ts : List Token) → Lexed t ts → Lexed (detail_before k v t) (detail_tokens k v ts)
unfolding detail_before detail_tokens
detail-lexed k v t ts h = by (eqb k 4 || eqb k 7)
  where
    by : (b : Bool) → Lexed (cond b (32 ∷ (decimal_text v ++ t)) t) (cond b (word (decimal_text v) ∷ ts) ts)
    by true = (space-token (decimal_text v ++ t) ∙ word-token (decimal_text v) t (some-decimal v) (decimal-text v) h.1 ∙ ap (λ (us : List Token). word (decimal_text v) ∷ us) h.0, space-stops (decimal_text v ++ t))
    by false = h

abbrev pub Head : List ℕ → Type 0
Head w = (0 < length w) × Wordy w

cond-head : (b : Bool) (x y : List ℕ) → Head x → Head y → Head (cond b x y)
cond-head true x y g h = g
cond-head false x y g h = h

known-head : (w : List ℕ) → 0 < length w → wordy_test w ≡ true → Head w
known-head w l e = (l, wordy_of w e)

pub head-wordy : (k : ℕ) → Head (head_word k)
unfolding head_word round_word wordy_test word_byte
head-wordy k =
    cond-head (eqb k 4) cube _ (known-head cube (omega arith) refl)
    (cond-head (eqb k 5) triangle _ (known-head triangle (omega arith) refl)
    (cond-head (eqb k 6) place _ (known-head place (omega arith) refl)
    (cond-head (eqb k 7) cut _ (known-head cut (omega arith) refl)
    (cond-head (eqb k 1) sphere _ (known-head sphere (omega arith) refl)
    (cond-head (eqb k 2) cylinder _ (known-head cylinder (omega arith) refl)
    (cond-head (eqb k 3) cone _ (known-head cone (omega arith) refl)
    (cond-head (eqb k 8) closed_cylinder closed_cone (known-head closed_cylinder (omega arith) refl) (known-head closed_cone (omega arith) refl))))))))

stripes-lexed : (n : ℕ) (t : List ℕ) (ts : List Token) → Lexed t ts → Lexed (stripes_before n t) (stripe_tokens n ts)
unfolding stripes_before stripe_tokens
stripes-lexed n t ts h = by (eqb n 0)
  where
    by : (b : Bool) → Lexed (cond b t (32 ∷ (decimal_text n ++ t))) (cond b ts (word (decimal_text n) ∷ ts))
    by true = h
    by false = (space-token (decimal_text n ++ t) ∙ word-token (decimal_text n) t (some-decimal n) (decimal-text n) h.1 ∙ ap (λ (us : List Token). word (decimal_text n) ∷ us) h.0, space-stops (decimal_text n ++ t))

head-lexed : (k v : ℕ) (xs : List Float) (t : List ℕ) (ts : List Token) → Lexed t ts → tokens_from [] (head_before k v xs t) ≡ head_tokens k v xs ts
unfolding head_before head_tokens
head-lexed k v xs t ts h =
    let d = detail-lexed k v (numbers_before xs t) (number_tokens xs ts) (numbers-lexed xs t ts h) in
    let w = head-wordy k in
    open-token (head_word k ++ detail_before k v (numbers_before xs t)) ∙ ap (λ (us : List Token). opens ∷ us) (word-token (head_word k) (detail_before k v (numbers_before xs t)) w.0 w.1 d.1 ∙ ap (λ (us : List Token). word (head_word k) ∷ us) d.0)

-- The tokens of a form's text are the form's tokens.
pub form-lexed : (f : Form) (t : List ℕ) (ts : List Token) → tokens_from [] t ≡ ts → tokens_from [] (text_before f t) ≡ tokens_of f ts
unfolding text_before tokens_of
form-lexed (round_form k n xs ls) t ts e = head-lexed k 0 xs (stripes_before n (lines_before ls (41 ∷ t))) (stripe_tokens n (line_tokens ls (closes ∷ ts))) (stripes-lexed n (lines_before ls (41 ∷ t)) (line_tokens ls (closes ∷ ts)) (lines-lexed ls (41 ∷ t) (closes ∷ ts) (close-lexed t e)))
form-lexed (cube_form n xs) t ts e = head-lexed 4 n xs (41 ∷ t) (closes ∷ ts) (close-lexed t e)
form-lexed (triangle_form xs) t ts e = head-lexed 5 0 xs (41 ∷ t) (closes ∷ ts) (close-lexed t e)
form-lexed (placed_form xs f) t ts e = head-lexed 6 0 xs (32 ∷ text_before f (41 ∷ t)) (tokens_of f (closes ∷ ts)) (space-token (text_before f (41 ∷ t)) ∙ form-lexed f (41 ∷ t) (closes ∷ ts) (close-lexed t e).0, space-stops (text_before f (41 ∷ t)))
form-lexed (cut_form o f g) t ts e =
    let r = form-lexed g (41 ∷ t) (closes ∷ ts) (close-lexed t e).0 in
    let q = form-lexed f (32 ∷ text_before g (41 ∷ t)) (tokens_of g (closes ∷ ts)) (space-token (text_before g (41 ∷ t)) ∙ r) in
    head-lexed 7 o [] (32 ∷ text_before f (32 ∷ text_before g (41 ∷ t))) (tokens_of f (tokens_of g (closes ∷ ts))) (space-token _ ∙ q, space-stops _)
form-lexed no_form t ts e = e

-- ---- the text as it is written
-- what is before t in a text that is put together from the left
under : (u v t : List ℕ) {w : List ℕ} → v ++ t ≡ w → (u ++ v) ++ t ≡ u ++ w
under u v t e = append_assoc u v t ∙ ap (λ (x : List ℕ). u ++ x) e

pub numbers-before : (xs : List Float) (t : List ℕ) → numbers_text xs ++ t ≡ numbers_before xs t
unfolding numbers_before flat hex_text
numbers-before [] t = refl
numbers-before (x ∷ xs) t = under (32 ∷ hex_number x) (flat hex_text xs) t (numbers-before xs t)

points-before : (ps : List Vector) (t : List ℕ) → numbers_before (flat point_row ps) t ≡ points_before ps t
unfolding numbers_before points_before flat
points-before [] t = refl
points-before (p ∷ ps) t = ap (λ (u : List ℕ). 32 ∷ (hex_number p.x ++ (32 ∷ (hex_number p.y ++ (32 ∷ (hex_number p.z ++ u)))))) (points-before ps t)

line_before : (l : List Vector) (t : List ℕ) → line_text l ++ t ≡ 32 ∷ 40 ∷ (line_word ++ points_before l (41 ∷ t))
unfolding line_text
line_before l t = under (32 ∷ 40 ∷ line_word) (numbers_text (flat point_row l) ++ (41 ∷ [])) t (append_assoc (numbers_text (flat point_row l)) (41 ∷ []) t ∙ numbers-before (flat point_row l) (41 ∷ t) ∙ points-before l (41 ∷ t))

lines-before : (ls : List (List Vector)) (t : List ℕ) → flat line_text ls ++ t ≡ lines_before ls t
unfolding flat lines_before
lines-before [] t = refl
lines-before (l ∷ ls) t = append_assoc (line_text l) (flat line_text ls) t ∙ ap (λ (u : List ℕ). line_text l ++ u) (lines-before ls t) ∙ line_before l (lines_before ls t)

stripes-before : (n : ℕ) (t : List ℕ) → stripes_text n ++ t ≡ stripes_before n t
unfolding stripes_text stripes_before
stripes-before n t = by (eqb n 0)
  where
    by : (b : Bool) → cond b [] (count_text n) ++ t ≡ cond b t (32 ∷ (decimal_text n ++ t))
    by true = refl
    by false = refl

-- the head of each kind
round-head : (k : ℕ) → is_round k ≡ true → (xs : List Float) (t : List ℕ) → head_before k 0 xs t ≡ 40 ∷ (round_word k ++ numbers_before xs t)
unfolding head_before head_word detail_before
round-head k h xs t = rw (ne_eqb k 4 (λ e. round-not k 4 h (omega arith) (omega arith) e), ne_eqb k 5 (λ e. round-not k 5 h (omega arith) (omega arith) e), ne_eqb k 6 (λ e. round-not k 6 h (omega arith) (omega arith) e), ne_eqb k 7 (λ e. round-not k 7 h (omega arith) (omega arith) e))

cube-head : (n : ℕ) (xs : List Float) (t : List ℕ) → head_before 4 n xs t ≡ 40 ∷ (cube ++ (32 ∷ (decimal_text n ++ numbers_before xs t)))
unfolding head_before head_word detail_before
cube-head n xs t = refl

triangle-head : (xs : List Float) (t : List ℕ) → head_before 5 0 xs t ≡ 40 ∷ (triangle ++ numbers_before xs t)
unfolding head_before head_word detail_before
triangle-head xs t = refl

placed-head : (xs : List Float) (t : List ℕ) → head_before 6 0 xs t ≡ 40 ∷ (place ++ numbers_before xs t)
unfolding head_before head_word detail_before
placed-head xs t = refl

cut-head : (o : ℕ) (t : List ℕ) → head_before 7 o [] t ≡ 40 ∷ (cut ++ (32 ∷ (decimal_text o ++ t)))
unfolding head_before head_word detail_before numbers_before
cut-head o t = refl

-- numbers, then what is before t
numbers-then : (xs : List Float) (v t w : List ℕ) → v ++ t ≡ w → (numbers_text xs ++ v) ++ t ≡ numbers_before xs w
numbers-then xs v t w e = under (numbers_text xs) v t e ∙ numbers-before xs w

-- A form's text before t.
pub form-before : (f : Form) → Writable f → (t : List ℕ) → form_text f ++ t ≡ text_before f t
unfolding form_text text_before Writable
form-before (round_form k n xs ls) g t =
    let a : List ℕ = flat line_text ls ++ (41 ∷ []) in
    let u : List ℕ = lines_before ls (41 ∷ t) in
    let l : a ++ t ≡ u = append_assoc (flat line_text ls) (41 ∷ []) t ∙ lines-before ls (41 ∷ t) in
    let s : (stripes_text n ++ a) ++ t ≡ stripes_before n u = under (stripes_text n) a t l ∙ stripes-before n u in
    under (40 ∷ round_word k) (numbers_text xs ++ (stripes_text n ++ a)) t (numbers-then xs (stripes_text n ++ a) t (stripes_before n u) s) ∙ sym (round-head k g.0 xs (stripes_before n u))
form-before (cube_form n xs) g t =
    under (40 ∷ cube) (count_text n ++ (numbers_text xs ++ (41 ∷ []))) t (under (count_text n) (numbers_text xs ++ (41 ∷ [])) t (numbers-then xs (41 ∷ []) t (41 ∷ t) refl)) ∙ sym (cube-head n xs (41 ∷ t))
form-before (triangle_form xs) g t = under (40 ∷ triangle) (numbers_text xs ++ (41 ∷ [])) t (numbers-then xs (41 ∷ []) t (41 ∷ t) refl) ∙ sym (triangle-head xs (41 ∷ t))
form-before (placed_form xs f) g t =
    let a : List ℕ = 32 ∷ (form_text f ++ (41 ∷ [])) in
    let i : (form_text f ++ (41 ∷ [])) ++ t ≡ text_before f (41 ∷ t) = append_assoc (form_text f) (41 ∷ []) t ∙ form-before f g.2 (41 ∷ t) in
    under (40 ∷ place) (numbers_text xs ++ a) t (numbers-then xs a t (32 ∷ text_before f (41 ∷ t)) (ap (λ (u : List ℕ). 32 ∷ u) i)) ∙ sym (placed-head xs (32 ∷ text_before f (41 ∷ t)))
form-before (cut_form o f h) g t =
    let b : List ℕ = form_text h ++ (41 ∷ []) in
    let a : List ℕ = 32 ∷ (form_text f ++ (32 ∷ b)) in
    let j : b ++ t ≡ text_before h (41 ∷ t) = append_assoc (form_text h) (41 ∷ []) t ∙ form-before h g.2 (41 ∷ t) in
    let i : (form_text f ++ (32 ∷ b)) ++ t ≡ text_before f (32 ∷ text_before h (41 ∷ t)) = append_assoc (form_text f) (32 ∷ b) t ∙ ap (λ (u : List ℕ). form_text f ++ (32 ∷ u)) j ∙ form-before f g.1 (32 ∷ text_before h (41 ∷ t)) in
    under (40 ∷ cut) (count_text o ++ a) t (under (count_text o) a t (ap (λ (u : List ℕ). 32 ∷ u) i)) ∙ sym (cut-head o (32 ∷ text_before f (32 ∷ text_before h (41 ∷ t))))
form-before no_form g t = absurd g
