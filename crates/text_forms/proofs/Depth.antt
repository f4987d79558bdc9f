-- The limit of 512 on nesting refuses nothing that the 512 places do not: with a larger one each form is read alike. Assumes nothing.
use Prim.Native.Nat.{ℕ, zero, suc, ◌+◌, ◌/◌, ◌≤◌}
use mathlib.Core.Path.{◌≡◌, refl, sym, ap, ◌∙◌, subst}
use mathlib.Core.Bool.{Bool, true, false, cond}
use mathlib.Core.List.{List, [], ◌∷◌, ◌++◌}
use native.Mathlib.Nat.{add-suc, add-zero}
use native.Mathlib.Omega.{arith}
use lib.Dec.{ltb, leb, eqb}
use lib.ListN.{length, length-append}
use borrow.Author.Tests.{ltb-true}
use Rattle.check_parts.specs.Owners.{is_round}
use Rattle.scene.specs.Scenes.{Scene, entries_of}
use Rattle.text_tokens.specs.Tokens.{Token, Got, no, got, Mark, and_then, close_in}
use Rattle.text_heads.specs.Heads.{opening_in, point_in, named_in, line_word}
use Rattle.text_heads.specs.Lines.{or_else, dotted, points_in, begun, lines_in}
use Rattle.text_heads.specs.declared.Head.{Head}
use Rattle.text_forms.specs.Forms.{last, entered, enter, enclosed, round_in, body, form}

-- ---- what holds of a reader's scene where it gives one
unfoldable pub Holds : (Scene → Type 0) → Got Scene → Type 0
Holds P no = Unit {0}
Holds P (got a ts) = P a

module _ (P : Scene → Type 0) where
  holds_then : {A : Type 0} (g : Got A) (f : A → List Token → Got Scene) → ((a : A) (us : List Token) → Holds P (f a us)) → Holds P (and_then g f)
  unfolding Holds and_then
  holds_then no f h = tt
  holds_then (got a us) f h = h a us

  holds_after : (Q : Scene → Type 0) (g : Got Scene) (f : Scene → List Token → Got Scene) → Holds Q g → ((a : Scene) (us : List Token) → Q a → Holds P (f a us)) → Holds P (and_then g f)
  unfolding Holds and_then
  holds_after Q no f w h = tt
  holds_after Q (got a us) f w h = h a us w

  holds-or : (g : Got Mark) (f : List Token → Got Scene) (x : Got Scene) → ((us : List Token) → Holds P (f us)) → Holds P x → Holds P (or_else g f x)
  unfolding Holds or_else
  holds-or no f x h w = w
  holds-or (got m us) f x h w = h us

  holds-cond : (t : Bool) (x y : Got Scene) → Holds P x → Holds P y → Holds P (cond t x y)
  holds-cond true x y h w = h
  holds-cond false x y h w = w

holds_more : (P Q : Scene → Type 0) (g : Got Scene) → ((a : Scene) → P a → Q a) → Holds P g → Holds Q g
unfolding Holds
holds_more P Q no h w = tt
holds_more P Q (got a us) h w = h a w

-- ---- points and lines leave the entries
abbrev Keeps : List ℕ → Scene → Type 0
Keeps ms r = r.marks ≡ ms

points-keep : (n : ℕ) (s : Scene) (ts : List Token) → Holds (Keeps s.marks) (points_in n s ts)
unfolding points_in Holds dotted
points-keep zero s ts = holds-or (Keeps s.marks) (close_in ts) (got s) no (λ us. refl) tt
points-keep (suc n) s ts = holds-or (Keeps s.marks) (close_in ts) (got s) _ (λ us. refl) (holds_then (Keeps s.marks) (point_in ts) (λ p us. points_in n (dotted p s) us) (λ p us. points-keep n (dotted p s) us))

lines_keep : (i n : ℕ) (s : Scene) (ts : List Token) → Holds (Keeps s.marks) (lines_in i n s ts)
unfolding lines_in Holds begun
lines_keep i zero s ts = holds-or (Keeps s.marks) (close_in ts) (got s) no (λ us. refl) tt
lines_keep i (suc n) s ts =
    holds-or (Keeps s.marks) (close_in ts) (got s) _ (λ us. refl)
    (holds_then (Keeps s.marks) (named_in line_word ts) _ (λ m us.
    holds_after (Keeps s.marks) (Keeps s.marks) (points_in _ (begun i s) us) _ (points-keep _ (begun i s) us) (λ r vs e.
    holds_more (Keeps r.marks) (Keeps s.marks) (lines_in i n r vs) (λ a w. w ∙ e) (lines_keep i n r vs))))

-- ---- a form adds an entry at least, and there are 512 at most then
abbrev Adds : ℕ → Scene → Type 0
Adds n r = (n + 1 ≤ entries_of r) × (entries_of r ≤ 512)

entered-count : (h : Head) (p q : ℕ) (s : Scene) → entries_of (entered h p q s) ≡ entries_of s + 1
unfolding entered
entered-count h p q s =
    let e : length (s.marks ++ (h.kind ∷ h.detail ∷ p ∷ q ∷ [])) ≡ length s.marks + 4 = length-append s.marks (h.kind ∷ h.detail ∷ p ∷ q ∷ []) in
    rw e (omega arith)

enter-adds : (h : Head) (p q : ℕ) (s : Scene) (ts : List Token) → Holds (Adds (entries_of s)) (enter h p q s ts)
unfolding enter Holds
enter-adds h p q s ts = go (ltb (entries_of s) 512) refl
  where
    go : (t : Bool) → ltb (entries_of s) 512 ≡ t → Holds (Adds (entries_of s)) (cond t (got (entered h p q s) ts) no)
    go true e = (omega (arith, entered-count h p q s), omega (arith, entered-count h p q s, ltb-true (entries_of s) 512 e))
    go false e = tt

enclosed-adds : (h : Head) (p q : ℕ) (s : Scene) (ts : List Token) → Holds (Adds (entries_of s)) (enclosed h p q s ts)
unfolding enclosed
enclosed-adds h p q s ts = holds_then (Adds (entries_of s)) (close_in ts) _ (λ m us. enter-adds h p q s us)

round-adds : (h : Head) (s : Scene) (ts : List Token) → Holds (Adds (entries_of s)) (round_in h s ts)
unfolding round_in
round-adds h s ts =
    holds_after (Adds (entries_of s)) (Adds (entries_of s)) (enter h 0 0 s ts) _ (enter-adds h 0 0 s ts) (λ r us w.
    holds_more (Keeps r.marks) (Adds (entries_of s)) (lines_in _ _ r us) (λ a e. subst (λ (ms : List ℕ). (entries_of s + 1 ≤ length ms / 4) × (length ms / 4 ≤ 512)) (sym e) w) (lines_keep _ _ r us))

-- after one inner form, and after two
adds-more : (n : ℕ) (a : Scene) (g : Got Scene) → n ≤ entries_of a → Holds (Adds (entries_of a)) g → Holds (Adds n) g
adds-more n a g l w = holds_more (Adds (entries_of a)) (Adds n) g (λ b v. (omega (arith, l, v.0), v.1)) w

form-adds : (d : ℕ) (s : Scene) (ts : List Token) → Holds (Adds (entries_of s)) (form d s ts)
unfolding form body Holds
form-adds zero s ts = tt
form-adds (suc d) s ts =
    holds_then (Adds (entries_of s)) (opening_in ts) _ (λ h us.
    holds-cond (Adds (entries_of s)) (is_round h.kind) _ _ (round-adds h s us)
    (holds-cond (Adds (entries_of s)) (leb h.kind 5) _ _ (enclosed-adds h 0 0 s us)
    (holds_after (Adds (entries_of s)) (Adds (entries_of s)) (form d s us) _ (form-adds d s us) (λ a vs w.
    holds-cond (Adds (entries_of s)) (eqb h.kind 6) _ _ (adds-more (entries_of s) a (enclosed h (last a) 0 a vs) (omega (arith, w.0)) (enclosed-adds h (last a) 0 a vs))
    (holds_after (Adds (entries_of s)) (Adds (entries_of a)) (form d a vs) _ (form-adds d a vs) (λ b ws x.
    adds-more (entries_of s) b (enclosed h (last a) (last b) b ws) (omega (arith, w.0, x.0)) (enclosed-adds h (last a) (last b) b ws)))))))

-- ---- one level more: y is what the larger limit gives, x the smaller; they differ only where there are k entries at least
unfoldable pub Agree : ℕ → Got Scene → Got Scene → Type 0
Agree k no no = Unit {0}
Agree k no (got b vs) = k ≤ entries_of b
Agree k (got a us) no = ⊥
Agree k (got a us) (got b vs) = (a ≡ b) × (us ≡ vs)

agree_refl : (k : ℕ) (x : Got Scene) → Agree k x x
unfolding Agree
agree_refl k no = tt
agree_refl k (got a us) = (refl, refl)

agree-cond : (k : ℕ) (t : Bool) (x y z w : Got Scene) → Agree k x z → Agree k y w → Agree k (cond t x y) (cond t z w)
agree-cond k true x y z w h i = h
agree-cond k false x y z w h i = i

-- nothing on the left: the right has many entries or is nothing
agree-none : (k : ℕ) (y : Got Scene) → Holds (λ b. k ≤ entries_of b) y → Agree k no y
unfolding Agree Holds
agree-none k no h = tt
agree-none k (got b vs) h = h

-- a next reader, where both go on alike from an equal scene, and the right one alone adds an entry at least
agree_then : (j k n : ℕ) (x y : Got Scene) (f g : Scene → List Token → Got Scene) → Agree j x y → k ≤ j + 1 → Holds (λ a. n ≤ entries_of a) y
    → ((a : Scene) (us : List Token) → n ≤ entries_of a → Agree k (f a us) (g a us)) → ((a : Scene) (us : List Token) → Holds (Adds (entries_of a)) (g a us)) → Agree k (and_then x f) (and_then y g)
unfolding Agree Holds and_then
agree_then j k n no no f g h l w both more = tt
agree_then j k n no (got b vs) f g h l w both more = agree-none k (g b vs) (holds_more (Adds (entries_of b)) (λ c. k ≤ entries_of c) (g b vs) (λ c v. omega (arith, h, l, v.0)) (more b vs))
agree_then j k n (got a us) no f g h l w both more = absurd h
agree_then j k n (got a us) (got b vs) f g h l w both more = rw (h.0, h.1) (both b vs w)

zero-none : (s : Scene) (ts : List Token) → form 0 s ts ≡ no
unfolding form
zero-none s ts = refl

agree-zero : (s : Scene) (ts : List Token) → Agree (entries_of s + 0 + 1) (form 0 s ts) (form 1 s ts)
agree-zero s ts = subst (λ (x : Got Scene). Agree (entries_of s + 0 + 1) x (form 1 s ts)) (sym (zero-none s ts)) (agree-none (entries_of s + 0 + 1) (form 1 s ts) (holds_more (Adds (entries_of s)) (λ b. entries_of s + 0 + 1 ≤ entries_of b) (form 1 s ts) (λ b v. omega (arith, v.0)) (form-adds 1 s ts)))

cut-adds : (d : ℕ) (h : Head) (a : Scene) (us : List Token) (p : ℕ) → Holds (Adds (entries_of a)) (and_then (form d a us) (λ b vs. enclosed h p (last b) b vs))
cut-adds d h a us p = holds_after (Adds (entries_of a)) (Adds (entries_of a)) (form d a us) _ (form-adds d a us) (λ b vs x. adds-more (entries_of a) b (enclosed h p (last b) b vs) (omega (arith, x.0)) (enclosed-adds h p (last b) b vs))

body-agree : (d : ℕ) (h : Head) (s : Scene) (us : List Token) → ((a : Scene) (us : List Token) → Agree (entries_of a + d + 1) (form d a us) (form (suc d) a us)) → Agree (entries_of s + suc d + 1) (body (form d) h s us) (body (form (suc d)) h s us)
unfolding body
body-agree d h s us ih =
    agree-cond (entries_of s + suc d + 1) (is_round h.kind) _ _ _ _ (agree_refl (entries_of s + suc d + 1) (round_in h s us))
    (agree-cond (entries_of s + suc d + 1) (leb h.kind 5) _ _ _ _ (agree_refl (entries_of s + suc d + 1) (enclosed h 0 0 s us))
    (agree_then (entries_of s + d + 1) (entries_of s + suc d + 1) (entries_of s + 1) (form d s us) (form (suc d) s us) _ _ (ih s us) (omega arith)
    (holds_more (Adds (entries_of s)) (λ a. entries_of s + 1 ≤ entries_of a) (form (suc d) s us) (λ a v. v.0) (form-adds (suc d) s us))
    (λ a vs w. agree-cond (entries_of s + suc d + 1) (eqb h.kind 6) _ _ _ _ (agree_refl (entries_of s + suc d + 1) (enclosed h (last a) 0 a vs))
    (agree_then (entries_of a + d + 1) (entries_of s + suc d + 1) 0 (form d a vs) (form (suc d) a vs) _ _ (ih a vs) (omega (arith, w))
    (holds_more (Adds (entries_of a)) (λ b. 0 ≤ entries_of b) (form (suc d) a vs) (λ b v. omega arith) (form-adds (suc d) a vs))
    (λ b ws x. agree_refl (entries_of s + suc d + 1) (enclosed h (last a) (last b) b ws))
    (λ b ws. enclosed-adds h (last a) (last b) b ws)))
    (λ a vs. holds-cond (Adds (entries_of a)) (eqb h.kind 6) _ _ (enclosed-adds h (last a) 0 a vs) (cut-adds (suc d) h a vs (last a)))))

agree-open : (k : ℕ) (g : Got Head) (f e : Head → List Token → Got Scene) → ((h : Head) (us : List Token) → Agree k (f h us) (e h us)) → Agree k (and_then g f) (and_then g e)
unfolding Agree and_then
agree-open k no f e w = tt
agree-open k (got h us) f e w = w h us

agree-suc : (d : ℕ) (s : Scene) (ts : List Token) → ((a : Scene) (us : List Token) → Agree (entries_of a + d + 1) (form d a us) (form (suc d) a us)) → Agree (entries_of s + suc d + 1) (form (suc d) s ts) (form (suc (suc d)) s ts)
unfolding form
agree-suc d s ts ih = agree-open (entries_of s + suc d + 1) (opening_in ts) _ _ (λ h us. body-agree d h s us ih)

deeper-one : (d : ℕ) (s : Scene) (ts : List Token) → Agree (entries_of s + d + 1) (form d s ts) (form (suc d) s ts)
deeper-one zero s ts = agree-zero s ts
deeper-one (suc d) s ts = agree-suc d s ts (λ a us. deeper-one d a us)

same_read : (d n : ℕ) (x y : Got Scene) → 512 ≤ d → Agree (n + d + 1) x y → Holds (Adds n) y → y ≡ x
unfolding Agree Holds
same_read d n no no l h w = refl
same_read d n no (got b vs) l h w = absurd (omega (arith, l, h, w.1))
same_read d n (got a us) no l h w = absurd h
same_read d n (got a us) (got b vs) l h w = rw (h.0, h.1)

-- a form is read alike whatever larger limit there is
pub deeper : (k : ℕ) (s : Scene) (ts : List Token) → form (512 + k) s ts ≡ form 512 s ts
deeper zero s ts = ap (λ (d : ℕ). form d s ts) (add-zero 512)
deeper (suc k) s ts = ap (λ (d : ℕ). form d s ts) (add-suc 512 k) ∙ same_read (512 + k) (entries_of s) (form (512 + k) s ts) (form (suc (512 + k)) s ts) (omega arith) (deeper-one (512 + k) s ts) (form-adds (suc (512 + k)) s ts) ∙ deeper k s ts
