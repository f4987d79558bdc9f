-- A form's tokens are read as that form, or there is no place for it. Assumes nothing.
use Prim.Native.Nat.{ℕ, zero, suc, ◌-◌}
use mathlib.Core.Path.{◌≡◌, refl, sym, ap, ◌∙◌}
use mathlib.Core.Logic.{◌⊎◌, inl, inr}
use mathlib.Core.Bool.{Bool, true, false, cond}
use mathlib.Core.List.{List, [], ◌∷◌}
use native.Mathlib.Omega.{arith}
use lib.Dec.{ltb, leb}
use lib.ListN.{length}
use Rattle.geometry.specs.declared.vector.Vector.{Vector}
use Rattle.view.specs.declared.View.{View}
use Rattle.scene.specs.Scenes.{Scene, entries_of}
use Rattle.check_parts.specs.Owners.{is_round}
use Rattle.lists.specs.Lists.{Each}
use Rattle.text_tokens.specs.Tokens.{Token, closes, Got, no, got, and_then, open_in, close_in, word_in}
use Rattle.text_heads.specs.Heads.{same_word, head_in, named_in}
use Rattle.text_heads.specs.Lines.{or_else, dotted, points_in, point_count, begun, lines_in}
use Rattle.text_heads.specs.declared.Head.{Head}
use Rattle.text_forms.specs.Forms.{last, entered, enter, enclosed, round_in, body, form}
use Rattle.text_scene.specs.Texts.{lines_left, whole_line, forms_in, Yard, empty_scene, yard_in, yard_of}
use Rattle.text_drawing.specs.Determined.{Doubles, AllDoubles}
use Rattle.text_canonical.specs.Forms.{Form, round_form, cube_form, triangle_form, placed_form, cut_form, no_form}
use Rattle.text_canonical.specs.Canonical.{view_numbers, forms_text}
use Rattle.text_canonical.specs.Writable.{F64s, Writable}
use Rattle.text_canonical.proofs.Added.{point_tokens, line_tokens, stripe_tokens, tokens_of, head_of, with_dots, with_lines, added, added_all}
use Rattle.text_canonical.proofs.Rereading.{round-within, opening-read, stripes-read, point-read, lines-wordless, measures-are, plain-stripes, no-numbers, never}
use Rattle.text_canonical.proofs.Yards.{line_tokens_of, view-read, text-lines}

-- this is read, or nothing
abbrev pub Reads : {A : Type 0} → Got A → A → List Token → Type 0
Reads g a ts = (g ≡ got a ts) ⊎ (g ≡ no)

then-reads : {A B : Type 0} (g : Got A) (a : A) (ts : List Token) (f : A → List Token → Got B) (b : B) (us : List Token) → Reads g a ts → Reads (f a ts) b us → Reads (and_then g f) b us
unfolding and_then
then-reads {A} g a ts f b us (inl e) (inl h) = inl (ap (λ (x : Got A). and_then x f) e ∙ h)
then-reads {A} g a ts f b us (inl e) (inr h) = inr (ap (λ (x : Got A). and_then x f) e ∙ h)
then-reads {A} g a ts f b us (inr e) r = inr (ap (λ (x : Got A). and_then x f) e)

points-either : (n : ℕ) (l : List Vector) (s : Scene) (ts : List Token) → Doubles l → Reads (points_in n s (point_tokens l (closes ∷ ts))) (with_dots l s) ts
unfolding points_in point_tokens with_dots or_else close_in Doubles and_then
points-either zero [] s ts d = inl refl
points-either (suc n) [] s ts d = inl refl
points-either zero (p ∷ l) s ts d = inr refl
points-either (suc n) (p ∷ l) s ts d = rw (point-read p (point_tokens l (closes ∷ ts)) d.0) (points-either n l (dotted p s) ts d.1)

lines-either : (i n : ℕ) (ls : List (List Vector)) (s : Scene) (ts : List Token) → AllDoubles ls → Reads (lines_in i n s (line_tokens ls (closes ∷ ts))) (with_lines i ls s) ts
unfolding lines_in line_tokens with_lines or_else close_in AllDoubles and_then named_in head_in open_in word_in same_word
lines-either i zero [] s ts d = inl refl
lines-either i (suc n) [] s ts d = inl refl
lines-either i zero (l ∷ ls) s ts d = inr refl
lines-either i (suc n) (l ∷ ls) s ts d =
    then-reads (points_in (2048 - point_count s) (begun i s) (point_tokens l (closes ∷ line_tokens ls (closes ∷ ts)))) (with_dots l (begun i s)) (line_tokens ls (closes ∷ ts)) (λ (r : Scene) (vs : List Token). lines_in i n r vs) (with_lines i ls (with_dots l (begun i s))) ts
    (points-either (2048 - point_count s) l (begun i s) (line_tokens ls (closes ∷ ts)) d.0) (lines-either i n ls (with_dots l (begun i s)) ts d.1)

enter-either : (h : Head) (p q : ℕ) (s : Scene) (ts : List Token) → Reads (enter h p q s ts) (entered h p q s) ts
unfolding enter
enter-either h p q s ts = by (ltb (entries_of s) 512)
  where
    by : (t : Bool) → Reads (cond t (got (entered h p q s) ts) no) (entered h p q s) ts
    by true = inl refl
    by false = inr refl

enclosed-either : (h : Head) (p q : ℕ) (s : Scene) (ts : List Token) → Reads (enclosed h p q s (closes ∷ ts)) (entered h p q s) ts
unfolding enclosed close_in and_then
enclosed-either h p q s ts = enter-either h p q s ts

round-either : (h : Head) (ls : List (List Vector)) (s : Scene) (ts : List Token) → AllDoubles ls → Reads (round_in h s (line_tokens ls (closes ∷ ts))) (with_lines (entries_of s) ls (entered h 0 0 s)) ts
unfolding round_in
round-either h ls s ts d =
    then-reads (enter h 0 0 s (line_tokens ls (closes ∷ ts))) (entered h 0 0 s) (line_tokens ls (closes ∷ ts)) (λ (r : Scene) (us : List Token). lines_in (entries_of s) (2048 - length r.starts) r us) (with_lines (entries_of s) ls (entered h 0 0 s)) ts
    (enter-either h 0 0 s (line_tokens ls (closes ∷ ts))) (lines-either (entries_of s) (2048 - length (entered h 0 0 s).starts) ls (entered h 0 0 s) ts d)

form-either : (f : Form) (d : ℕ) (s : Scene) (ts : List Token) → Writable f → Reads (form d s (tokens_of f ts)) (added f s) ts
unfolding form body tokens_of added Writable and_then is_round
form-either (round_form k n xs ls) zero s ts g = inr refl
form-either (round_form k n xs ls) (suc d) s ts g =
    let w = round-within k g.0 in
    let o = opening-read k 0 n xs (stripe_tokens n (line_tokens ls (closes ∷ ts))) (line_tokens ls (closes ∷ ts)) w.0 w.1 (omega arith) (λ _. refl) g.3 g.4 (stripes-read k n (line_tokens ls (closes ∷ ts)) (lines-wordless ls ts) g.1 g.2) in
    rw (o, g.0) (round-either (head_of k n xs) ls s ts g.5)
form-either (cube_form n xs) zero s ts g = inr refl
form-either (cube_form n xs) (suc d) s ts g =
    let o = opening-read 4 n n xs (closes ∷ ts) (closes ∷ ts) (omega arith) (omega arith) g.0 (λ z. absurd (never z)) (g.1 ∙ sym measures-are.0) g.2 (plain-stripes n (closes ∷ ts)).0 in
    rw o (enclosed-either (head_of 4 n xs) 0 0 s ts)
form-either (triangle_form xs) zero s ts g = inr refl
form-either (triangle_form xs) (suc d) s ts g =
    let o = opening-read 5 0 0 xs (closes ∷ ts) (closes ∷ ts) (omega arith) (omega arith) (omega arith) (λ _. refl) (g.0 ∙ sym measures-are.1) g.1 (plain-stripes 0 (closes ∷ ts)).1 in
    rw o (enclosed-either (head_of 5 0 xs) 0 0 s ts)
form-either (placed_form xs f) zero s ts g = inr refl
form-either (placed_form xs f) (suc d) s ts g =
    let h = head_of 6 0 xs in
    let o = opening-read 6 0 0 xs (tokens_of f (closes ∷ ts)) (tokens_of f (closes ∷ ts)) (omega arith) (omega arith) (omega arith) (λ _. refl) (g.0 ∙ sym measures-are.2) g.1 (plain-stripes 0 (tokens_of f (closes ∷ ts))).2 in
    rw o (then-reads (form d s (tokens_of f (closes ∷ ts))) (added f s) (closes ∷ ts) (λ (a : Scene) (us : List Token). enclosed h (last a) 0 a us) (entered h (last (added f s)) 0 (added f s)) ts
    (form-either f d s (closes ∷ ts) g.2) (enclosed-either h (last (added f s)) 0 (added f s) ts))
form-either (cut_form v f k) zero s ts g = inr refl
form-either (cut_form v f k) (suc d) s ts g =
    let h = head_of 7 v [] in
    let a = added f s in
    let b = added k a in
    let o = opening-read 7 v v [] (tokens_of f (tokens_of k (closes ∷ ts))) (tokens_of f (tokens_of k (closes ∷ ts))) (omega arith) (omega arith) g.0 (λ z. absurd (never z)) (sym measures-are.3) no-numbers (plain-stripes v (tokens_of f (tokens_of k (closes ∷ ts)))).3 in
    rw o (then-reads (form d s (tokens_of f (tokens_of k (closes ∷ ts)))) a (tokens_of k (closes ∷ ts)) (λ (x : Scene) (us : List Token). and_then (form d x us) (λ (y : Scene) (vs : List Token). enclosed h (last x) (last y) y vs)) (entered h (last a) (last b) b) ts
    (form-either f d s (tokens_of k (closes ∷ ts)) g.1)
    (then-reads (form d a (tokens_of k (closes ∷ ts))) b (closes ∷ ts) (λ (y : Scene) (vs : List Token). enclosed h (last a) (last y) y vs) (entered h (last a) (last b) b) ts
    (form-either k d a (closes ∷ ts) g.2) (enclosed-either h (last a) (last b) b ts)))
form-either no_form d s ts g = absurd g

whole-either : {A : Type 0} (g : Got A) (a : A) → Reads g a [] → Reads (whole_line g) a []
unfolding whole_line
whole-either g a (inl e) = inl (ap whole_line e)
whole-either g a (inr e) = inr (ap whole_line e)

forms-either : (fs : List Form) (s : Scene) → Each Writable fs → Reads (forms_in s (line_tokens_of fs)) (added_all fs s) []
unfolding forms_in line_tokens_of added_all Each
forms-either [] s g = inl refl
forms-either (f ∷ fs) s g =
    then-reads (whole_line (form 512 s (tokens_of f []))) (added f s) [] (λ (a : Scene) (_ : List Token). forms_in a (line_tokens_of fs)) (added_all fs (added f s)) []
    (whole-either (form 512 s (tokens_of f [])) (added f s) (form-either f 512 s [] g.0)) (forms-either fs (added f s) g.1)

-- What `yard` reads of the text of forms, if it reads it.
pub text-either : (v : View) (fs : List Form) → F64s (view_numbers v) → Each Writable fs → Reads (yard_of (forms_text v fs)) (record { view = v; scene = added_all fs empty_scene }) []
unfolding yard_of yard_in whole_line and_then
text-either v fs d g = by (leb (length (forms_text v fs)) 65536)
  where
    by : (t : Bool) → Reads (cond t (yard_in (lines_left (forms_text v fs) 0)) no) (record { view = v; scene = added_all fs empty_scene }) []
    by true = rw (text-lines v fs g, view-read v d) (then-reads (forms_in empty_scene (line_tokens_of fs)) (added_all fs empty_scene) [] (λ (s : Scene) (ts : List Token). got (record { view = v; scene = s }) ts) (record { view = v; scene = added_all fs empty_scene }) [] (forms-either fs empty_scene g) (inl refl))
    by false = inr refl

apart : {A : Type 0} {y : Yard} {ts : List Token} → got y ts ≡ no → A
apart e = let z : ◌≡◌ {A = ℕ} 0 1 = cc in absurd (omega arith)

same-got : {y z : Yard} {ts us : List Token} → got y ts ≡ got z us → y ≡ z
same-got e = cc

pub text-read : (v : View) (fs : List Form) (y : Yard) → F64s (view_numbers v) → Each Writable fs → yard_of (forms_text v fs) ≡ got y [] → y ≡ record { view = v; scene = added_all fs empty_scene }
text-read v fs y d g e = by (text-either v fs d g)
  where
    by : Reads (yard_of (forms_text v fs)) (record { view = v; scene = added_all fs empty_scene }) [] → y ≡ record { view = v; scene = added_all fs empty_scene }
    by (inl h) = same-got (sym e ∙ h)
    by (inr h) = apart (sym e ∙ h)
