-- One more entry: in the slices, closed by its bracket, and with its lines. Assumes nothing.
use Prim.Native.Nat.{ℕ, ◌+◌, ◌-◌, ◌*◌, ◌≤◌, ◌<◌}
use mathlib.Core.Path.{◌≡◌, sym, ap, ◌∙◌}
use mathlib.Core.List.{List, [], ◌∷◌, ◌++◌}
use native.Mathlib.Omega.{arith}
use lib.Ieee.{Float}
use lib.ListN.{length, take}
use lib.Seq.{length-take-le}
use borrow.Author.Tests.{lt-ltb, le-ltb}
use Rattle.rows.specs.Rows.{set_row}
use Rattle.rows.specs.Entries.{numbers_row}
use Rattle.rows.specs.declared.Numbers.{Numbers}
use Rattle.scene.specs.Scenes.{Scene, entries_of}
use Rattle.text_tokens.specs.Tokens.{Token, left, no, got, and_then, close_in}
use Rattle.text_tokens.specs.Seen.{step_as}
use Rattle.text_heads.specs.Lines.{lines_in}
use Rattle.text_heads.specs.Cursors.{scene_upto, next_as, CursorWithin}
use Rattle.text_heads.specs.declared.Cursor.{Cursor}
use Rattle.text_heads.specs.declared.Head.{Head}
use Rattle.text_heads.proofs.Lines.{take-sets}
use Rattle.text_forms.specs.Forms.{entered, enter, enclosed, round_in}
use Rattle.std.specs.Prelude.{None, Option, Some}

pub numbers_more : (e : ℕ) (ns : List Float) (m : Numbers) {ns' : List Float} → e < 512 → 8192 ≤ length ns → ns' ≡ set_row 16 e (numbers_row m) ns → take ((e + 1) * 16) ns' ≡ take (e * 16) ns ++ numbers_row m
numbers_more e ns m l h w = let n : (e + 1) * 16 ≡ e * 16 + 16 = omega arith in rw (w, n) (take-sets ns (e * 16) (numbers_row m) (omega (arith, l, h)))

pub marks-more : (e : ℕ) (ms : List ℕ) (k v p q : ℕ) {ms' : List ℕ} → e < 512 → 2048 ≤ length ms → ms' ≡ set_row 4 e (k ∷ v ∷ p ∷ q ∷ []) ms → take ((e + 1) * 4) ms' ≡ take (e * 4) ms ++ (k ∷ v ∷ p ∷ q ∷ [])
marks-more e ms k v p q l h w = let n : (e + 1) * 4 ≡ e * 4 + 4 = omega arith in rw (w, n) (take-sets ms (e * 4) (k ∷ v ∷ p ∷ q ∷ []) (omega (arith, l, h)))

-- how many entries are held
pub entries-held : (c : Cursor) (ns : List Float) (ms : List ℕ) (ps : List Float) (ss os : List ℕ) → c.entries ≤ 512 → 2048 ≤ length ms → entries_of (scene_upto c ns ms ps ss os) ≡ c.entries
unfolding scene_upto
entries-held c ns ms ps ss os l h = let e : length (take (c.entries * 4) ms) ≡ c.entries * 4 = length-take-le (c.entries * 4) ms (omega (arith, l, h)) in rw e (omega arith)

abbrev pub grown : Cursor → ℕ → Cursor
grown c at = record { at = at; entries = c.entries + 1; points = c.points; lines = c.lines }

module _ (s : List ℕ) (c : Cursor) (h : Head) (p q : ℕ) (ns : List Float) (ms : List ℕ) (big : 2048 ≤ length ms) (ps : List Float) (ss os : List ℕ) where
  -- the entry in the slices is the entry in the scene
  held-entered : (at : ℕ) (ns' : List Float) (ms' : List ℕ) → take ((c.entries + 1) * 16) ns' ≡ take (c.entries * 16) ns ++ numbers_row h.row → take ((c.entries + 1) * 4) ms' ≡ take (c.entries * 4) ms ++ (h.kind ∷ h.detail ∷ p ∷ q ∷ [])
      → scene_upto (grown c at) ns' ms' ps ss os ≡ entered h p q (scene_upto c ns ms ps ss os)
  unfolding scene_upto entered
  held-entered at ns' ms' x y = rw (x, y)

  enters : (ts : List Token) → c.entries < 512 → enter h p q (scene_upto c ns ms ps ss os) ts ≡ got (entered h p q (scene_upto c ns ms ps ss os)) ts
  unfolding enter
  enters ts l = rw (entries-held c ns ms ps ss os (omega arith) big, lt-ltb c.entries 512 l)

  full : (ts : List Token) → c.entries ≤ 512 → 512 ≤ c.entries → enter h p q (scene_upto c ns ms ps ss os) ts ≡ no
  unfolding enter
  full ts w l = rw (entries-held c ns ms ps ss os w big, le-ltb c.entries 512 l)

  module _ {r : Option ℕ} (close : step_as s r ≡ close_in (left s c.at)) where
    pub enclose-open : r ≡ None → next_as s None ns ms ps ss os ≡ enclosed h p q (scene_upto c ns ms ps ss os) (left s c.at)
    unfolding next_as step_as enclosed and_then
    enclose-open f = rw (← close, f)

    module _ {n : ℕ} (goes : r ≡ Some n) where
      pub enclose-full : CursorWithin c → 512 ≤ c.entries → next_as s None ns ms ps ss os ≡ enclosed h p q (scene_upto c ns ms ps ss os) (left s c.at)
      unfolding next_as step_as enclosed and_then
      enclose-full w l = rw (← close, goes) (sym (full (left s n) w.entries l))

      pub enclose-enters : (ns' : List Float) (ms' : List ℕ) → c.entries < 512 → take ((c.entries + 1) * 16) ns' ≡ take (c.entries * 16) ns ++ numbers_row h.row
          → take ((c.entries + 1) * 4) ms' ≡ take (c.entries * 4) ms ++ (h.kind ∷ h.detail ∷ p ∷ q ∷ []) → next_as s (Some (grown c n)) ns' ms' ps ss os ≡ enclosed h p q (scene_upto c ns ms ps ss os) (left s c.at)
      unfolding next_as step_as enclosed and_then
      enclose-enters ns' ms' l x y = rw (← close, goes) (ap (λ (a : Scene). got a (left s n)) (held-entered n ns' ms' x y) ∙ sym (enters (left s n) l))

-- ---- a round form
module _ (s : List ℕ) (c : Cursor) (h : Head) (ns : List Float) (ms : List ℕ) (ps : List Float) (ss os : List ℕ) (w : CursorWithin c) (big : 2048 ≤ length ms) where
  pub round-full : 512 ≤ c.entries → next_as s None ns ms ps ss os ≡ round_in h (scene_upto c ns ms ps ss os) (left s c.at)
  unfolding next_as round_in and_then
  round-full l = sym (rw (full s c h 0 0 ns ms big ps ss os (left s c.at) w.entries l))

  begins : 2048 ≤ length ss → (at : ℕ) (ns' : List Float) (ms' : List ℕ) → length (scene_upto (grown c at) ns' ms' ps ss os).starts ≡ c.lines
  unfolding scene_upto
  begins bs at ns' ms' = length-take-le c.lines ss (omega (arith, w.lines, bs))

  module _ (bs : 2048 ≤ length ss) (l : c.entries < 512) (ns' : List Float) (ms' : List ℕ)
      (x : take ((c.entries + 1) * 16) ns' ≡ take (c.entries * 16) ns ++ numbers_row h.row) (y : take ((c.entries + 1) * 4) ms' ≡ take (c.entries * 4) ms ++ (h.kind ∷ h.detail ∷ 0 ∷ 0 ∷ []))
      (owner : ℕ) (o : owner ≡ c.entries) where
    lines-follow : round_in h (scene_upto c ns ms ps ss os) (left s c.at) ≡ lines_in owner (2048 - c.lines) (scene_upto (grown c c.at) ns' ms' ps ss os) (left s c.at)
    unfolding round_in and_then
    lines-follow =
        rw (enters s c h 0 0 ns ms big ps ss os (left s c.at) l, ← held-entered s c h 0 0 ns ms big ps ss os c.at ns' ms' x y, begins bs c.at ns' ms', entries-held c ns ms ps ss os w.entries big, o)

    pub round-enters : (ps' : List Float) (ss' os' : List ℕ) (r : Option Cursor) → ((ns : List Float) (ms : List ℕ) → next_as s r ns ms ps' ss' os' ≡ lines_in owner (2048 - c.lines) (scene_upto (grown c c.at) ns ms ps ss os) (left s c.at))
        → next_as s r ns' ms' ps' ss' os' ≡ round_in h (scene_upto c ns ms ps ss os) (left s c.at)
    round-enters ps' ss' os' r lines = lines ns' ms' ∙ sym lines-follow
