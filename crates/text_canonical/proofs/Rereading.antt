-- A form's tokens are read as that form: the scene is what the form adds to it. Assumes nothing.
use Prim.Native.Nat.{ℕ, zero, suc, ◌+◌, ◌-◌, ◌/◌, ◌≤◌, ◌<◌}
use mathlib.Core.Path.{◌≡◌, refl, sym, ap, ◌∙◌}
use mathlib.Core.Logic.{◌⊎◌, inl, inr}
use mathlib.Core.Bool.{Bool, true, false, cond, ◌&&◌, ◌||◌, and-eq-true_iff}
use mathlib.Core.List.{List, [], ◌∷◌, ◌++◌, append_assoc, append-nil}
use native.Mathlib.Omega.{arith}
use borrow.Author.Tests.{lt-ltb, eq-eqb, ne_eqb, eqb-true, leb-true}
use lib.Dec.{T, leb, eqb}
use lib.ListN.{length, length-append}
use lib.Ieee.{Float, binary64, fits}
use Rattle.geometry.specs.declared.vector.Vector.{Vector}
use Rattle.rows.specs.Points.{point_row}
use Rattle.scene.specs.Entries.{striped}
use Rattle.scene.specs.Scenes.{Scene, entries_of}
use Rattle.check_parts.specs.Owners.{is_round}
use Rattle.text_tokens.specs.Tokens.{Token, opens, closes, word, got, and_then, open_in, close_in, word_in, count_in, count_or}
use Rattle.text_heads.specs.Heads.{same_word, closed_kind, kind_of, head_in, named_in, kind_in, numbers_in, closed_measures, measures, detail_in, stripes_in, opening_in, point_in}
use Rattle.text_heads.specs.Lines.{or_else, dotted, points_in, point_count, begun, lines_in}
use Rattle.text_heads.specs.declared.Head.{Head}
use Rattle.text_forms.specs.Forms.{last, entered, enter, enclosed, round_in, body, form}
use Rattle.text_drawing.specs.Numbers.{decimal_text}
use Rattle.text_drawing.specs.Determined.{Doubles, AllDoubles}
use Rattle.text_canonical.specs.Forms.{Form, round_form, cube_form, triangle_form, placed_form, cut_form, no_form}
use Rattle.text_canonical.specs.Canonical.{round_word}
use Rattle.text_canonical.specs.Writable.{F64s, Writable, form_entries, points_among, form_points, form_lines}
use Rattle.text_canonical.proofs.Numerals.{hex_number, number_read, count-read}
use Rattle.text_canonical.proofs.Added.{head_word, number_tokens, point_tokens, line_tokens, detail_tokens, stripe_tokens, head_tokens, tokens_of, head_of, with_dots, with_lines, added}

-- ---- a form's beginning
-- the kinds of round solids
pub round-range : (k : ℕ) → is_round k ≡ true → ((1 ≤ k) × (k ≤ 3)) ⊎ ((8 ≤ k) × (k ≤ 9))
unfolding is_round
round-range k h = by (eqb k 8) (eqb k 9) refl refl h
  where
    by : (a b : Bool) → eqb k 8 ≡ a → eqb k 9 ≡ b → (a || (b || (leb 1 k && leb k 3))) ≡ true → ((1 ≤ k) × (k ≤ 3)) ⊎ ((8 ≤ k) × (k ≤ 9))
    by true b e f g = let q : k ≡ 8 = eqb-true k 8 e in inr (omega (arith, q), omega (arith, q))
    by false true e f g = let q : k ≡ 9 = eqb-true k 9 f in inr (omega (arith, q), omega (arith, q))
    by false false e f g = let w = (and-eq-true_iff (leb 1 k) (leb k 3)).0 g in inl (leb-true 1 k w.0, leb-true k 3 w.1)

pub round-within : (k : ℕ) → is_round k ≡ true → (1 ≤ k) × (k ≤ 9)
round-within k h = by (round-range k h)
  where
    by : ((1 ≤ k) × (k ≤ 3)) ⊎ ((8 ≤ k) × (k ≤ 9)) → (1 ≤ k) × (k ≤ 9)
    by (inl r) = (r.0, omega (arith, r.1))
    by (inr r) = (omega (arith, r.0), r.1)

pub round-not : (k j : ℕ) → is_round k ≡ true → 4 ≤ j → j ≤ 7 → k ≡ j → ⊥
round-not k j h l u e = by (round-range k h)
  where
    by : ((1 ≤ k) × (k ≤ 3)) ⊎ ((8 ≤ k) × (k ≤ 9)) → ⊥
    by (inl r) = omega (arith, e, l, r.1)
    by (inr r) = omega (arith, e, u, r.0)

head-kind : (k : ℕ) → 1 ≤ k → k ≤ 9 → kind_of (head_word k) ≡ k
unfolding kind_of closed_kind head_word round_word same_word
head-kind zero h l = absurd (omega arith)
head-kind (suc zero) h l = refl
head-kind (suc (suc zero)) h l = refl
head-kind (suc (suc (suc zero))) h l = refl
head-kind (suc (suc (suc (suc zero)))) h l = refl
head-kind (suc (suc (suc (suc (suc zero))))) h l = refl
head-kind (suc (suc (suc (suc (suc (suc zero)))))) h l = refl
head-kind (suc (suc (suc (suc (suc (suc (suc zero))))))) h l = refl
head-kind (suc (suc (suc (suc (suc (suc (suc (suc zero)))))))) h l = refl
head-kind (suc (suc (suc (suc (suc (suc (suc (suc (suc zero))))))))) h l = refl
head-kind (suc (suc (suc (suc (suc (suc (suc (suc (suc (suc k)))))))))) h l = absurd (omega arith)

kind-read : (k : ℕ) (ts : List Token) → 1 ≤ k → k ≤ 9 → kind_in (opens ∷ word (head_word k) ∷ ts) ≡ got k ts
unfolding kind_in head_in open_in word_in and_then
kind-read k ts h l = rw (head-kind k h l, ne_eqb k 0 (λ e. omega (arith, e, h)))

pub numbers-read : (ys xs : List Float) (ts : List Token) → F64s xs → numbers_in ys (length xs) (number_tokens xs ts) ≡ got (ys ++ xs) ts
unfolding numbers_in number_tokens F64s and_then
numbers-read ys [] ts h = rw (append-nil ys)
numbers-read ys (x ∷ xs) ts h = rw (number_read x (number_tokens xs ts) h.0) (numbers-read (ys ++ (x ∷ [])) xs ts h.1 ∙ ap (λ (l : List Float). got l ts) (append_assoc ys (x ∷ []) xs))

-- a detail that is written, or one that is 0 and is not
detail-read : (k v : ℕ) (ts : List Token) → v ≤ 1000000 → ((eqb k 4 || eqb k 7) ≡ false → v ≡ 0) → detail_in k (detail_tokens k v ts) ≡ got v ts
unfolding detail_in detail_tokens
detail-read k v ts l z = by (eqb k 4 || eqb k 7) z
  where
    by : (t : Bool) → (t ≡ false → v ≡ 0) → cond t (count_in (cond t (word (decimal_text v) ∷ ts) ts)) (got 0 (cond t (word (decimal_text v) ∷ ts) ts)) ≡ got v ts
    by true z = count-read v ts l
    by false z = rw (z refl)

-- a count that is written, or one that is 0 and is not, before what is no word
unfoldable pub wordless : List Token → Bool
wordless [] = true
wordless (opens ∷ ts) = true
wordless (closes ∷ ts) = true
wordless (word w ∷ ts) = false

no-count : (ts : List Token) → wordless ts ≡ true → count_or 0 ts ≡ got 0 ts
unfolding count_or wordless
no-count [] h = refl
no-count (opens ∷ ts) h = refl
no-count (closes ∷ ts) h = refl
no-count (word w ∷ ts) h = absurd (never h)
  where
    never : false ≡ true → ⊥
    never e = let z : ◌≡◌ {A = ℕ} 0 1 = ap (λ (b : Bool). cond b 1 0) e in omega (arith, z)

count-or : (n : ℕ) (ts : List Token) → n ≤ 1000000 → count_or 0 (word (decimal_text n) ∷ ts) ≡ got n ts
unfolding count_or
count-or n ts l = count-read n ts l

pub stripes-read : (k n : ℕ) (ts : List Token) → wordless ts ≡ true → n ≤ 1000000 → (striped k ≡ false → n ≡ 0) → stripes_in k 0 (stripe_tokens n ts) ≡ got n ts
unfolding stripes_in stripe_tokens
stripes-read k n ts w l z = by (striped k) z (eqb n 0) refl
  where
    by : (t : Bool) → (t ≡ false → n ≡ 0) → (u : Bool) → eqb n 0 ≡ u → cond t (count_or 0 (cond u ts (word (decimal_text n) ∷ ts))) (got 0 (cond u ts (word (decimal_text n) ∷ ts))) ≡ got n ts
    by true z true e = no-count ts w ∙ ap (λ (m : ℕ). got m ts) (sym (eqb-true n 0 e))
    by true z false e = count-or n ts l
    by false z true e = ap (λ (m : ℕ). got m ts) (sym (eqb-true n 0 e))
    by false z false e = absurd (differ (sym (eq-eqb n 0 (z refl)) ∙ e))
      where
        differ : true ≡ false → ⊥
        differ e = let x : ◌≡◌ {A = ℕ} 1 0 = ap (λ (b : Bool). cond b 1 0) e in omega (arith, x)

pub opening-read : (k v d : ℕ) (xs : List Float) (us ts : List Token) → 1 ≤ k → k ≤ 9 → v ≤ 1000000 → ((eqb k 4 || eqb k 7) ≡ false → v ≡ 0) → length xs ≡ measures k → F64s xs
    → stripes_in k v us ≡ got d ts → opening_in (head_tokens k v xs us) ≡ got (head_of k d xs) ts
unfolding opening_in head_tokens and_then
opening-read k v d xs us ts h l b z e f st =
    rw (kind-read k (detail_tokens k v (number_tokens xs us)) h l, detail-read k v (number_tokens xs us) b z, ← e, numbers-read [] xs us f, st)

-- ---- lines
pub point-read : (p : Vector) (ts : List Token) → T (fits binary64 p.x) × T (fits binary64 p.y) × T (fits binary64 p.z)
    → point_in (word (hex_number p.x) ∷ word (hex_number p.y) ∷ word (hex_number p.z) ∷ ts) ≡ got p ts
unfolding point_in and_then
point-read p ts h = rw (number_read p.x _ h.0, number_read p.y _ h.1, number_read p.z ts h.2)

points-read : (n : ℕ) (l : List Vector) (s : Scene) (ts : List Token) → length l ≤ n → Doubles l → points_in n s (point_tokens l (closes ∷ ts)) ≡ got (with_dots l s) ts
unfolding points_in point_tokens with_dots or_else close_in Doubles and_then
points-read zero [] s ts h d = refl
points-read (suc n) [] s ts h d = refl
points-read zero (p ∷ l) s ts h d = absurd (omega (arith, h))
points-read (suc n) (p ∷ l) s ts h d = rw (point-read p (point_tokens l (closes ∷ ts)) d.0) (points-read n l (dotted p s) ts (omega (arith, h)) d.1)

-- how many points there are then
dotted-count : (p : Vector) (s : Scene) → point_count (dotted p s) ≡ point_count s + 1
unfolding dotted
dotted-count p s = rw (length-append s.points (point_row p)) (omega arith)

points-count : (l : List Vector) (s : Scene) → point_count (with_dots l s) ≡ point_count s + length l
unfolding with_dots
points-count [] s = omega arith
points-count (p ∷ l) s = points-count l (dotted p s) ∙ rw (dotted-count p s) (omega arith)

begun-count : (i : ℕ) (s : Scene) → point_count (begun i s) ≡ point_count s
unfolding begun
begun-count i s = refl

lines-read : (i n : ℕ) (ls : List (List Vector)) (s : Scene) (ts : List Token) → length ls ≤ n → point_count s + points_among ls ≤ 2048 → AllDoubles ls
    → lines_in i n s (line_tokens ls (closes ∷ ts)) ≡ got (with_lines i ls s) ts
unfolding lines_in line_tokens with_lines or_else close_in AllDoubles points_among and_then named_in head_in open_in word_in same_word
lines-read i zero [] s ts h b d = refl
lines-read i (suc n) [] s ts h b d = refl
lines-read i zero (l ∷ ls) s ts h b d = absurd (omega (arith, h))
lines-read i (suc n) (l ∷ ls) s ts h b d =
    rw (points-read (2048 - point_count s) l (begun i s) (line_tokens ls (closes ∷ ts)) (omega (arith, b)) d.0)
    (lines-read i n ls (with_dots l (begun i s)) ts (omega (arith, h)) (omega (arith, b, points-count l (begun i s), begun-count i s)) d.1)

-- ---- how much a form adds
entered-count : (h : Head) (p q : ℕ) (s : Scene) → entries_of (entered h p q s) ≡ entries_of s + 1
unfolding entered
entered-count h p q s = rw (length-append s.marks (h.kind ∷ h.detail ∷ p ∷ q ∷ [])) (omega arith)

points-keep : (l : List Vector) (s : Scene) → ((with_dots l s).marks ≡ s.marks) × ((with_dots l s).starts ≡ s.starts)
unfolding with_dots dotted
points-keep [] s = (refl, refl)
points-keep (p ∷ l) s = points-keep l (dotted p s)

lines-marks : (i : ℕ) (ls : List (List Vector)) (s : Scene) → (with_lines i ls s).marks ≡ s.marks
unfolding with_lines begun
lines-marks i [] s = refl
lines-marks i (l ∷ ls) s = lines-marks i ls (with_dots l (begun i s)) ∙ (points-keep l (begun i s)).0

begun-starts : (i : ℕ) (s : Scene) → length (begun i s).starts ≡ length s.starts + 1
unfolding begun
begun-starts i s = length-append s.starts (point_count s ∷ [])

lines-count : (i : ℕ) (ls : List (List Vector)) (s : Scene) → (point_count (with_lines i ls s) ≡ point_count s + points_among ls) × (length (with_lines i ls s).starts ≡ length s.starts + length ls)
unfolding with_lines points_among
lines-count i [] s = (omega arith, omega arith)
lines-count i (l ∷ ls) s =
    let h = lines-count i ls (with_dots l (begun i s)) in
    let b : length (begun i s).starts ≡ length s.starts + 1 = begun-starts i s in
    (h.0 ∙ rw (points-count l (begun i s), begun-count i s) (omega arith), h.1 ∙ rw ((points-keep l (begun i s)).1, b) (omega arith))

-- entries, points and lines
pub record Grows (f : Form) (s : Scene) : Type 0 where
  pub entries : entries_of (added f s) ≡ entries_of s + form_entries f
  pub points : point_count (added f s) ≡ point_count s + form_points f
  pub lines : length (added f s).starts ≡ length s.starts + form_lines f

entered-points : (h : Head) (p q : ℕ) (s : Scene) → ((entered h p q s).points ≡ s.points) × ((entered h p q s).starts ≡ s.starts)
unfolding entered
entered-points h p q s = (refl, refl)

grows-bare : (h : Head) (s : Scene) → (entries_of (entered h 0 0 s) ≡ entries_of s + 1) × (point_count (entered h 0 0 s) ≡ point_count s + 0) × (length (entered h 0 0 s).starts ≡ length s.starts + 0)
grows-bare h s = let o = entered-points h 0 0 s in (entered-count h 0 0 s, rw o.0 (omega arith), rw o.1 (omega arith))

pub grows : (f : Form) (s : Scene) → Grows f s
unfolding added form_entries form_points form_lines
grows (round_form k n xs ls) s =
    let e = entered (head_of k n xs) 0 0 s in
    let c = lines-count (entries_of s) ls e in
    let o = entered-points (head_of k n xs) 0 0 s in
    record {
      entries = ap (λ (ms : List ℕ). length ms / 4) (lines-marks (entries_of s) ls e) ∙ entered-count (head_of k n xs) 0 0 s;
      points = c.0 ∙ rw o.0;
      lines = c.1 ∙ rw o.1;
    }
grows (cube_form n xs) s = let b = grows-bare (head_of 4 n xs) s in record { entries = b.0; points = b.1; lines = b.2 }
grows (triangle_form xs) s = let b = grows-bare (head_of 5 0 xs) s in record { entries = b.0; points = b.1; lines = b.2 }
grows (placed_form xs f) s =
    let g = grows f s in
    let a = added f s in
    let o = entered-points (head_of 6 0 xs) (last a) 0 a in
    record {
      entries = entered-count (head_of 6 0 xs) (last a) 0 a ∙ rw g.entries (omega arith);
      points = rw o.0 g.points;
      lines = rw o.1 g.lines;
    }
grows (cut_form v f h) s =
    let a = added f s in
    let b = added h a in
    let g = grows f s in
    let j = grows h a in
    let o = entered-points (head_of 7 v []) (last a) (last b) b in
    record {
      entries = entered-count (head_of 7 v []) (last a) (last b) b ∙ rw (j.entries, g.entries) (omega arith);
      points = rw o.0 (j.points ∙ rw g.points (omega arith));
      lines = rw o.1 (j.lines ∙ rw g.lines (omega arith));
    }
grows no_form s = record { entries = omega arith; points = omega arith; lines = omega arith }

-- ---- a form
enter-read : (h : Head) (p q : ℕ) (s : Scene) (ts : List Token) → entries_of s < 512 → enter h p q s ts ≡ got (entered h p q s) ts
unfolding enter
enter-read h p q s ts l = rw (lt-ltb (entries_of s) 512 l)

enclosed-read : (h : Head) (p q : ℕ) (s : Scene) (ts : List Token) → entries_of s < 512 → enclosed h p q s (closes ∷ ts) ≡ got (entered h p q s) ts
unfolding enclosed close_in and_then
enclosed-read h p q s ts l = enter-read h p q s ts l

pub never : true ≡ false → ⊥
never e = let z : ◌≡◌ {A = ℕ} 1 0 = ap (λ (b : Bool). cond b 1 0) e in omega (arith, z)

pub no-numbers : F64s []
unfolding F64s
no-numbers = tt

-- after the numbers there is a bracket
pub lines-wordless : (ls : List (List Vector)) (ts : List Token) → wordless (line_tokens ls (closes ∷ ts)) ≡ true
unfolding wordless line_tokens
lines-wordless [] ts = refl
lines-wordless (l ∷ ls) ts = refl

pub measures-are : (measures 4 ≡ 6) × (measures 5 ≡ 9) × (measures 6 ≡ 16) × (measures 7 ≡ 0)
unfolding measures closed_measures
measures-are = (refl, refl, refl, refl)

-- what is not striped keeps its detail
pub plain-stripes : (v : ℕ) (ts : List Token) → (stripes_in 4 v ts ≡ got v ts) × (stripes_in 5 v ts ≡ got v ts) × (stripes_in 6 v ts ≡ got v ts) × (stripes_in 7 v ts ≡ got v ts)
unfolding stripes_in striped
plain-stripes v ts = (refl, refl, refl, refl)

pub round-detail : (k : ℕ) → is_round k ≡ true → (eqb k 4 || eqb k 7) ≡ false
round-detail k h = rw (ne_eqb k 4 (λ e. round-not k 4 h (omega arith) (omega arith) e), ne_eqb k 7 (λ e. round-not k 7 h (omega arith) (omega arith) e))

-- A form's tokens are read as that form, where there are places for it.
pub form-read : (f : Form) (d : ℕ) (s : Scene) (ts : List Token) → Writable f → form_entries f ≤ d → entries_of s + form_entries f ≤ 512 → point_count s + form_points f ≤ 2048 → length s.starts + form_lines f ≤ 2048
    → form d s (tokens_of f ts) ≡ got (added f s) ts
unfolding form body tokens_of added Writable form_entries form_points form_lines round_in and_then is_round
form-read (round_form k n xs ls) zero s ts g h e p l = absurd (omega (arith, h))
form-read (round_form k n xs ls) (suc d) s ts g h e p l =
    let w = round-within k g.0 in
    let o = opening-read k 0 n xs (stripe_tokens n (line_tokens ls (closes ∷ ts))) (line_tokens ls (closes ∷ ts)) w.0 w.1 (omega arith) (λ _. refl) g.3 g.4 (stripes-read k n (line_tokens ls (closes ∷ ts)) (lines-wordless ls ts) g.1 g.2) in
    let a = entered-points (head_of k n xs) 0 0 s in
    rw (o, g.0, enter-read (head_of k n xs) 0 0 s (line_tokens ls (closes ∷ ts)) (omega (arith, e)))
    (lines-read (entries_of s) (2048 - length (entered (head_of k n xs) 0 0 s).starts) ls (entered (head_of k n xs) 0 0 s) ts (rw a.1 (omega (arith, l))) (rw a.0 p) g.5)
form-read (cube_form n xs) zero s ts g h e p l = absurd (omega (arith, h))
form-read (cube_form n xs) (suc d) s ts g h e p l =
    let o = opening-read 4 n n xs (closes ∷ ts) (closes ∷ ts) (omega arith) (omega arith) g.0 (λ z. absurd (never z)) (g.1 ∙ sym measures-are.0) g.2 (plain-stripes n (closes ∷ ts)).0 in
    rw o (enclosed-read (head_of 4 n xs) 0 0 s ts (omega (arith, e)))
form-read (triangle_form xs) zero s ts g h e p l = absurd (omega (arith, h))
form-read (triangle_form xs) (suc d) s ts g h e p l =
    let o = opening-read 5 0 0 xs (closes ∷ ts) (closes ∷ ts) (omega arith) (omega arith) (omega arith) (λ _. refl) (g.0 ∙ sym measures-are.1) g.1 (plain-stripes 0 (closes ∷ ts)).1 in
    rw o (enclosed-read (head_of 5 0 xs) 0 0 s ts (omega (arith, e)))
form-read (placed_form xs f) zero s ts g h e p l = absurd (omega (arith, h))
form-read (placed_form xs f) (suc d) s ts g h e p l =
    let o = opening-read 6 0 0 xs (tokens_of f (closes ∷ ts)) (tokens_of f (closes ∷ ts)) (omega arith) (omega arith) (omega arith) (λ _. refl) (g.0 ∙ sym measures-are.2) g.1 (plain-stripes 0 (tokens_of f (closes ∷ ts))).2 in
    let r = form-read f d s (closes ∷ ts) g.2 (omega (arith, h)) (omega (arith, e)) p l in
    rw (o, r) (enclosed-read (head_of 6 0 xs) (last (added f s)) 0 (added f s) ts (rw (grows f s).entries (omega (arith, e))))
form-read (cut_form v f k) zero s ts g h e p l = absurd (omega (arith, h))
form-read (cut_form v f k) (suc d) s ts g h e p l =
    let o = opening-read 7 v v [] (tokens_of f (tokens_of k (closes ∷ ts))) (tokens_of f (tokens_of k (closes ∷ ts))) (omega arith) (omega arith) g.0 (λ z. absurd (never z)) (sym measures-are.3) no-numbers (plain-stripes v (tokens_of f (tokens_of k (closes ∷ ts)))).3 in
    let w = grows f s in
    let r = form-read f d s (tokens_of k (closes ∷ ts)) g.1 (omega (arith, h)) (omega (arith, e)) (omega (arith, p)) (omega (arith, l)) in
    let q = form-read k d (added f s) (closes ∷ ts) g.2 (omega (arith, h)) (rw w.entries (omega (arith, e))) (rw w.points (omega (arith, p))) (rw w.lines (omega (arith, l))) in
    rw (o, r, q) (enclosed-read (head_of 7 v []) (last (added f s)) (last (added k (added f s))) (added k (added f s)) ts (rw ((grows k (added f s)).entries, w.entries) (omega (arith, e))))
form-read no_form d s ts g h e p l = absurd g
