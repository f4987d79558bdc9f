-- A form, by its beginning and its inner forms. Assumes nothing.
use Prim.Native.Nat.{ℕ, zero, suc, ◌-◌, ◌≤◌, ◌<◌}
use mathlib.Core.Path.{◌≡◌, refl, sym, ◌∙◌}
use mathlib.Core.Bool.{Bool, true, false}
use mathlib.Core.List.{List}
use native.Mathlib.Numerals.{sub-one}
use native.Mathlib.Omega.{arith}
use lib.Ieee.{Float}
use lib.ListN.{length}
use borrow.Author.Tests.{eq-eqb, ne_eqb, le-leb, lt-leb}
use Rattle.check_parts.specs.Owners.{is_round}
use Rattle.scene.specs.Scenes.{Scene}
use Rattle.text_tokens.specs.Tokens.{Token, left, Got, no, got, and_then}
use Rattle.text_heads.specs.Heads.{opening_in}
use Rattle.text_heads.specs.Cursors.{opened_as, scene_upto, next_as, CursorWithin, WithinNext, Sized}
use Rattle.text_heads.specs.declared.Cursor.{Cursor}
use Rattle.text_heads.specs.declared.Head.{Head}
use Rattle.text_forms.specs.Forms.{last, enclosed, round_in, body, form}
use Rattle.text_forms.proofs.Entries.{entries-held}
use Rattle.std.specs.Prelude.{None, Option, Some}

pub form-zero : (d : ℕ) (a : Scene) (ts : List Token) → d ≡ 0 → no ≡ form d a ts
unfolding form
form-zero d a ts e = rw e

pub form-none : (d : ℕ) (s : List ℕ) (at : ℕ) (a : Scene) {o : Option (Head × ℕ)} → opened_as s o ≡ opening_in (left s at) → o ≡ None → no ≡ form d a (left s at)
unfolding form opened_as and_then
form-none zero s at a e f = refl
form-none (suc d) s at a e f = rw (← e, f)

pub form-as : (d : ℕ) (s : List ℕ) (at : ℕ) (a : Scene) {o : Option (Head × ℕ)} {h : Head} {n : ℕ} → (d ≡ 0 → ⊥) → opened_as s o ≡ opening_in (left s at) → o ≡ Some (h, n) → body (form (d - 1)) h a (left s n) ≡ form d a (left s at)
unfolding form opened_as and_then
form-as zero s at a l e f = absurd (l refl)
form-as (suc d) s at a l e f = rw (sub-one, ← e, f)

-- ---- after its numbers
module _ (f : Scene → List Token → Got Scene) (h : Head) (s : Scene) (ts : List Token) {t : Bool} (r : t ≡ is_round h.kind) where
  pub body-round : t ≡ true → round_in h s ts ≡ body f h s ts
  unfolding body
  body-round l = rw (← r, l)

  module _ (i : t ≡ false) where
    pub body-plain : h.kind ≤ 5 → enclosed h 0 0 s ts ≡ body f h s ts
    unfolding body
    body-plain l = rw (← r, i, le-leb h.kind 5 l)

    module _ (j : 5 < h.kind) where
      pub body-bare : f s ts ≡ no → no ≡ body f h s ts
      unfolding body and_then
      body-bare x = rw (← r, i, lt-leb h.kind 5 j, x)

      module _ {a : Scene} {us : List Token} (x : f s ts ≡ got a us) {p : ℕ} (u : p ≡ last a) where
        pub body-place : h.kind ≡ 6 → enclosed h p 0 a us ≡ body f h s ts
        unfolding body and_then
        body-place k = rw (← r, i, lt-leb h.kind 5 j, x, eq-eqb h.kind 6 k, u)

        module _ (k : h.kind ≡ 6 → ⊥) where
          pub body-half : f a us ≡ no → no ≡ body f h s ts
          unfolding body and_then
          body-half y = rw (← r, i, lt-leb h.kind 5 j, x, ne_eqb h.kind 6 k, y)

          pub body-cut : {b : Scene} {vs : List Token} → f a us ≡ got b vs → {q : ℕ} → q ≡ last b → enclosed h p q b vs ≡ body f h s ts
          unfolding body and_then
          body-cut y v = rw (← r, i, lt-leb h.kind 5 j, x, ne_eqb h.kind 6 k, y, u, v)

-- ---- what the code's answers say
pub within-next : {r : Option Cursor} {c : Cursor} → WithinNext r → r ≡ Some c → CursorWithin c
unfolding WithinNext
within-next w p = rw p at w

pub next-to : (s : List ℕ) {r : Option Cursor} {c : Cursor} (ns : List Float) (ms : List ℕ) (ps : List Float) (ss os : List ℕ) {x : Got Scene} → next_as s r ns ms ps ss os ≡ x → r ≡ Some c → x ≡ got (scene_upto c ns ms ps ss os) (left s c.at)
unfolding next_as
next-to s ns ms ps ss os e p = sym e ∙ rw p

pub next-no : (s : List ℕ) {r : Option Cursor} (ns : List Float) (ms : List ℕ) (ps : List Float) (ss os : List ℕ) {x : Got Scene} → next_as s r ns ms ps ss os ≡ x → r ≡ None → x ≡ no
unfolding next_as
next-no s ns ms ps ss os e p = sym e ∙ rw p

pub last-held : (c : Cursor) (ns : List Float) (ms : List ℕ) (ps : List Float) (ss os : List ℕ) {p : ℕ} → CursorWithin c → 2048 ≤ length ms → p ≡ c.entries - 1 → p ≡ last (scene_upto c ns ms ps ss os)
last-held c ns ms ps ss os w l e = rw (entries-held c ns ms ps ss os w.entries l) e

pub sized-kept : {ns ns' : List Float} {ms ms' : List ℕ} {ps ps' : List Float} {ss ss' os os' : List ℕ} → Sized ns ms ps ss os → length ns' ≡ length ns → length ms' ≡ length ms → length ps' ≡ length ps → length ss' ≡ length ss → length os' ≡ length os
    → Sized ns' ms' ps' ss' os'
sized-kept z a b c d e =
    record {
      numbers = omega (arith, z.numbers, a);
      marks = omega (arith, z.marks, b);
      points = omega (arith, z.points, c);
      starts = omega (arith, z.starts, d);
      owners = omega (arith, z.owners, e);
    }

pub kept_more : {n a b : ℕ} → n ≤ a → b ≡ a → n ≤ b
kept_more l e = omega (arith, l, e)
