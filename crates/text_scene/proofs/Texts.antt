-- The text's lines, one after the other. Assumes nothing.
use Prim.Native.Nat.{ℕ, ◌+◌, ◌-◌, ◌≤◌, ◌<◌}
use mathlib.Core.Path.{◌≡◌, refl, sym, ap, ◌∙◌}
use mathlib.Core.Bool.{Bool, true, false}
use mathlib.Core.List.{List, [], ◌∷◌}
use native.Mathlib.Numerals.{add-one}
use native.Mathlib.Omega.{arith}
use lib.Ieee.{Float}
use lib.ListN.{length, drop, get_or, drop_of_length-le}
use lib.Seq.{drop-cons}
use borrow.Author.Tests.{eq-eqb, ne_eqb}
use Rattle.floats.proofs.Tests.{clash}
use Rattle.text_tokens.specs.Tokens.{Token, no, got, and_then, left, part, tokens_from, flush, is_over}
use Rattle.text_tokens.proofs.Tokens.{part-more}
use Rattle.text_heads.specs.Cursors.{scene_upto, next_as, CursorWithin}
use Rattle.text_heads.specs.declared.Cursor.{Cursor}
use Rattle.text_forms.specs.Forms.{form}
use Rattle.text_scene.specs.Texts.{lines_from, unless_empty, filled, lines_left, whole_line, forms_in, empty_scene}
use Rattle.text_scene.specs.Readings.{line_as, LineWithin, scene_as}
use Rattle.std.specs.Prelude.{None, Option, Some}

-- ---- the end of a line: its bytes up to i are no line feeds
pub record Running (s : List ℕ) (at i : ℕ) : Type 0 where
  pub from : at ≤ i
  pub upto : i ≤ length s
  pub same : lines_from [] (drop at s) ≡ lines_from (part at i s) (drop i s)

module _ (s : List ℕ) (at : ℕ) where
  pub running-start : at ≤ length s → Running s at at
  running-start h = record { from = omega arith; upto = h; same = (let z : at - at ≡ 0 = omega arith in rw z) }

  -- what stands after the last byte
  after : (i : ℕ) → length s ≤ i → lines_left s i ≡ []
  unfolding lines_left lines_from filled unless_empty left tokens_from flush
  after i h = rw (drop_of_length-le s {i = i} h)

  module _ (i : ℕ) (h : Running s at i) where
    pub running-turn : i < length s → (get_or s i 0 ≡ 10 → ⊥) → Running s at (i + 1)
    unfolding lines_from
    running-turn l f =
        record {
          from = omega (arith, h.from);
          upto = omega arith;
          same = h.same ∙ rw (part-more s at i h.from l, drop-cons s i 0 l, ne_eqb (get_or s i 0) 10 f, add-one i);
        }

    pub running-feed : i < length s → get_or s i 0 ≡ 10 → lines_left s at ≡ unless_empty (left (part at i s) 0) (lines_left s (i + 1))
    unfolding lines_left lines_from filled
    running-feed l f = rw (h.same, drop-cons s i 0 l, eq-eqb (get_or s i 0) 10 f, add-one i)

    last_line : length s ≤ i → lines_left s at ≡ unless_empty (left (part at i s) 0) []
    unfolding lines_left lines_from filled
    last_line l = rw (h.same, drop_of_length-le s {i = i} l)

    pub running-end : length s ≤ i → lines_left s at ≡ unless_empty (left (part at i s) 0) (lines_left s (i + 1))
    running-end l = last_line l ∙ ap (unless_empty (left (part at i s) 0)) (sym (after (i + 1) (omega arith)))

-- ---- the next line that has tokens
empty-skipped : (ts : List Token) (ls : List (List Token)) → is_over ts ≡ true → unless_empty ts ls ≡ ls
unfolding is_over unless_empty
empty-skipped [] ls e = refl
empty-skipped (t ∷ ts) ls e = clash e

filled-kept : (ts : List Token) (ls : List (List Token)) → is_over ts ≡ false → unless_empty ts ls ≡ ts ∷ ls
unfolding is_over unless_empty
filled-kept [] ls e = clash (sym e)
filled-kept (t ∷ ts) ls e = refl

-- the lines between `at` and a are empty
pub record Skipped (s : List ℕ) (at a : ℕ) : Type 0 where
  pub from : at ≤ a
  pub same : lines_left s at ≡ lines_left s a

module _ (s : List ℕ) (at : ℕ) where
  pub skipped-start : Skipped s at at
  skipped-start = record { from = omega arith; same = refl }

  module _ (a : ℕ) (h : Skipped s at a) where
    module _ (e : ℕ) (end : lines_left s a ≡ unless_empty (left (part a e s) 0) (lines_left s (e + 1))) {b : Bool} (over : b ≡ is_over (left (part a e s) 0)) where
      pub skipped-turn : a ≤ e → b ≡ true → Skipped s at (e + 1)
      skipped-turn l f = record { from = omega (arith, h.from); same = h.same ∙ end ∙ empty-skipped (left (part a e s) 0) (lines_left s (e + 1)) (sym over ∙ f) }

      pub skipped-line : b ≡ false → lines_left s at ≡ line_as s (Some (a, e))
      unfolding line_as
      skipped-line f = h.same ∙ end ∙ filled-kept (left (part a e s) 0) (lines_left s (e + 1)) (sym over ∙ f)

    pub skipped-over : length s < a → lines_left s at ≡ line_as s None
    unfolding line_as
    skipped-over l = h.same ∙ after s at a (omega arith)

pub line-lies : (n at : ℕ) {l : Option (ℕ × ℕ)} {a e : ℕ} → LineWithin n at l → l ≡ Some (a, e) → (at ≤ a) × ((a ≤ e) × (e ≤ n))
unfolding LineWithin
line-lies n at i p = rw p at i

-- ---- a form that is the whole of its line
pub whole-over : {A : Type 0} (a : A) (ts : List Token) → is_over ts ≡ true → whole_line (got a ts) ≡ got a []
unfolding is_over whole_line
whole-over a [] e = refl
whole-over a (t ∷ ts) e = clash e

pub whole-more : {A : Type 0} (a : A) (ts : List Token) → is_over ts ≡ false → whole_line (got a ts) ≡ no
unfolding is_over whole_line
whole-more a [] e = clash (sym e)
whole-more a (t ∷ ts) e = refl

-- ---- the forms of the lines: those before i are scene_upto
pub record Formed (s : List ℕ) (at : ℕ) (ns₀ : List Float) (ms₀ : List ℕ) (ps₀ : List Float) (ss₀ os₀ : List ℕ) (ns : List Float) (ms : List ℕ) (ps : List Float) (ss os : List ℕ) (i : ℕ) (c : Cursor) : Type 0 where
  pub within : CursorWithin c
  pub long-ns : length ns ≡ length ns₀
  pub long-ms : length ms ≡ length ms₀
  pub long-ps : length ps ≡ length ps₀
  pub long-ss : length ss ≡ length ss₀
  pub long-os : length os ≡ length os₀
  pub same : forms_in empty_scene (lines_left s at) ≡ forms_in (scene_upto c ns ms ps ss os) (lines_left s i)

abbrev pub unread : Cursor → Cursor
unread c = record { at = 0; entries = c.entries; points = c.points; lines = c.lines }

module _ (s : List ℕ) (at : ℕ) (ns₀ : List Float) (ms₀ : List ℕ) (ps₀ : List Float) (ss₀ os₀ : List ℕ) where
  pub formed-start : Formed s at ns₀ ms₀ ps₀ ss₀ os₀ ns₀ ms₀ ps₀ ss₀ os₀ at (record { at = 0; entries = 0; points = 0; lines = 0 })
  unfolding scene_upto
  formed-start = record { within = record { entries = omega arith; points = omega arith; lines = omega arith }; long-ns = refl; long-ms = refl; long-ps = refl; long-ss = refl; long-os = refl; same = refl }

  module _ (ns : List Float) (ms : List ℕ) (ps : List Float) (ss os : List ℕ) (i : ℕ) (c : Cursor) (h : Formed s at ns₀ ms₀ ps₀ ss₀ os₀ ns ms ps ss os i c) {l : Option (ℕ × ℕ)} (line : lines_left s i ≡ line_as s l) where
    pub formed-end : l ≡ None → scene_as (Some c) ns ms ps ss os ≡ forms_in empty_scene (lines_left s at)
    unfolding scene_as line_as forms_in
    formed-end f = sym (h.same ∙ rw (line, f))

    module _ {a e : ℕ} (f : l ≡ Some (a, e)) (ns' : List Float) (ms' : List ℕ) (ps' : List Float) (ss' os' : List ℕ) (r : Option Cursor)
        (read : next_as (part a e s) r ns' ms' ps' ss' os' ≡ form 512 (scene_upto (unread c) ns ms ps ss os) (left (part a e s) 0)) where
      -- the form of the next line
      next : forms_in empty_scene (lines_left s at) ≡ and_then (whole_line (next_as (part a e s) r ns' ms' ps' ss' os')) (λ b _. forms_in b (lines_left s (e + 1)))
      unfolding line_as forms_in scene_upto
      next = h.same ∙ rw (line, f, read)

      pub formed-no : r ≡ None → scene_as None ns' ms' ps' ss' os' ≡ forms_in empty_scene (lines_left s at)
      unfolding scene_as next_as whole_line and_then
      formed-no p = sym (next ∙ rw p)

      module _ {g : Cursor} (p : r ≡ Some g) {b : Bool} (over : b ≡ is_over (left (part a e s) g.at)) where
        pub formed-more : b ≡ false → scene_as None ns' ms' ps' ss' os' ≡ forms_in empty_scene (lines_left s at)
        unfolding scene_as next_as and_then
        formed-more q = sym (next ∙ rw (p, whole-more (scene_upto g ns' ms' ps' ss' os') (left (part a e s) g.at) (sym over ∙ q)))

        step : b ≡ true → forms_in empty_scene (lines_left s at) ≡ forms_in (scene_upto g ns' ms' ps' ss' os') (lines_left s (e + 1))
        unfolding next_as and_then
        step q = next ∙ rw (p, whole-over (scene_upto g ns' ms' ps' ss' os') (left (part a e s) g.at) (sym over ∙ q))

        pub formed-turn : b ≡ true → CursorWithin g → length ns' ≡ length ns → length ms' ≡ length ms → length ps' ≡ length ps → length ss' ≡ length ss → length os' ≡ length os → Formed s at ns₀ ms₀ ps₀ ss₀ os₀ ns' ms' ps' ss' os' (e + 1) g
        formed-turn q w k1 k2 k3 k4 k5 =
            record { within = w; long-ns = k1 ∙ h.long-ns; long-ms = k2 ∙ h.long-ms; long-ps = k3 ∙ h.long-ps; long-ss = k4 ∙ h.long-ss; long-os = k5 ∙ h.long-os; same = step q }
