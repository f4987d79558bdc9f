-- Laws on the reading of an entry: it is its simple solid, or what its parts make of it. Assumes nothing.
use Prim.Native.Nat.{ℕ, ◌/◌, ◌+◌, ◌*◌, ◌≤◌, ◌<◌}
use native.Mathlib.Omega.{arith}
use mathlib.Core.Path.{◌≡◌, refl, sym, ap, ◌∙◌}
use mathlib.Core.Bool.{Bool, true, false, true≢false, cond, ◌&&◌}
use mathlib.Core.List.{List}
use lib.ListN.{length}
use lib.Dec.{eqb, leb}
use borrow.Author.Tests.{ltb-true, eqb-true}
use lib.Ieee.{Float}
use Rattle.matrix.specs.declared.Matrix.{Matrix}
use Rattle.rows.specs.declared.Numbers.{Numbers}
use Rattle.rows.specs.declared.Marks.{Marks}
use Rattle.solids.specs.declared.solid.Solid.{Solid}
use Rattle.scene.specs.Entries.{closed_of, simple_of, simple_or, op_of, cut_of, parts_of, composite_of, entry_of, is_there, entry_at, marks_at, numbers_at, matrix_of}
use Rattle.scene.specs.declared.entry.Parts.{Parts}
use Rattle.scene.specs.declared.entry.Parts.TheVariants.{Placed as PlacedPart, Cut as CutParts}
use Rattle.scene.specs.declared.entry.Entry.{Entry}
use Rattle.scene.specs.declared.entry.Entry.TheVariants.{Simple as SimpleEntry, Placed, Cut}
use Rattle.std.specs.Prelude.{None, Option, Some}

-- the entry of a placing by these matrices, or of a cut
abbrev pub parts_entry : Matrix → Matrix → Option Parts → Option Entry
parts_entry m v (Some (PlacedPart k)) = Some (Placed m v k)
parts_entry m v (Some (CutParts o a b)) = Some (Cut o a b)
parts_entry m v None = None

-- whether it is a placing
abbrev pub placing : Option Parts → Bool
placing (Some (PlacedPart k)) = true
placing (Some (CutParts o a b)) = false
placing None = false

pub composite-is : (m : Marks) (n v : Numbers) → composite_of m n v ≡ parts_entry (matrix_of n) (matrix_of v) (parts_of m)
unfolding composite_of cut_of parts_of
composite-is m n v = go (eqb m.kind 6) (eqb m.kind 7) (leb m.detail 3)
  where
    P : Option Entry
    P = Some (Placed (matrix_of n) (matrix_of v) m.first)

    C : Option Entry
    C = Some (Cut (op_of m.detail) m.first m.second)

    go : (a b c : Bool) → cond a P (cond b (cond c C None) None) ≡ parts_entry (matrix_of n) (matrix_of v) (cond a (Some (PlacedPart m.first)) (cond b (cond c (Some (CutParts (op_of m.detail) m.first m.second)) None) None))
    go true b c = refl
    go false true true = refl
    go false true false = refl
    go false false c = refl

-- a placing has kind 6, so it is no simple solid
placed-kind : (m : Marks) {k : ℕ} → parts_of m ≡ Some (PlacedPart k) → m.kind ≡ 6
unfolding parts_of
placed-kind m {k} = go (eqb m.kind 6) (eqb m.kind 7) (leb m.detail 3) refl
  where
    go : (a b c : Bool) → eqb m.kind 6 ≡ a → cond a (Some (PlacedPart m.first)) (cond b (cond c (Some (CutParts (op_of m.detail) m.first m.second)) None) None) ≡ Some (PlacedPart k) → m.kind ≡ 6
    go true b c e p = eqb-true _ _ e
    go false true true e p = absurd (true≢false (sym (ap placing p)))
    go false true false e p = absurd (true≢false (sym (ap placing p)))
    go false false c e p = absurd (true≢false (sym (ap placing p)))

-- An entry that is not there, and one that is.
module _ (ns vs : List Float) (ms : List ℕ) (i : ℕ) {t : Bool} (e : t ≡ is_there ns vs ms i) where
  pub entry-none : t ≡ false → entry_at ns vs ms i ≡ None
  unfolding entry_at is_there
  entry-none q = rw (sym e ∙ q)

  module _ (q : t ≡ true) where
    both_true : (a b : Bool) → (a && b) ≡ true → (a ≡ true) × (b ≡ true)
    both_true true true h = (refl, refl)
    both_true true false h = (refl, h)
    both_true false b h = absurd (true≢false (sym h))

    rows_fit : (i < length ns / 16) × ((i < length vs / 16) × (i < length ms / 4))
    unfolding is_there
    rows_fit =
        let a = both_true _ _ (sym e ∙ q) in let b = both_true _ _ a.1 in
        (ltb-true _ _ a.0, (ltb-true _ _ b.0, ltb-true _ _ b.1))

    pub numbers_fit : i * 16 + 16 ≤ length ns
    numbers_fit = let a = rows_fit.0 in omega arith

    pub inverse-fits : i * 16 + 16 ≤ length vs
    inverse-fits = let a = rows_fit.1.0 in omega arith

    pub marks-fit : i * 4 + 4 ≤ length ms
    marks-fit = let a = rows_fit.1.1 in omega arith

    entry-there : entry_at ns vs ms i ≡ simple_or (simple_of (marks_at ms i).kind (numbers_at ns i)) (parts_entry (matrix_of (numbers_at ns i)) (matrix_of (numbers_at vs i)) (parts_of (marks_at ms i)))
    unfolding entry_at is_there entry_of
    entry-there = rw (sym e ∙ q, composite-is (marks_at ms i) (numbers_at ns i) (numbers_at vs i))

    module _ {x : Option Solid} (ex : x ≡ simple_of (marks_at ms i).kind (numbers_at ns i)) where
      pub entry-simple : {s : Solid} → x ≡ Some s → entry_at ns vs ms i ≡ Some (SimpleEntry s)
      unfolding simple_or
      entry-simple h = entry-there ∙ rw (← ex, h)

      pub entry-parts : x ≡ None → {p : Option Parts} → p ≡ parts_of (marks_at ms i) → entry_at ns vs ms i ≡ parts_entry (matrix_of (numbers_at ns i)) (matrix_of (numbers_at vs i)) p
      unfolding simple_or
      entry-parts h ep = entry-there ∙ rw (← ex, h, ← ep)

    pub entry-placed : {p : Option Parts} → p ≡ parts_of (marks_at ms i) → {k : ℕ} → p ≡ Some (PlacedPart k) → entry_at ns vs ms i ≡ Some (Placed (matrix_of (numbers_at ns i)) (matrix_of (numbers_at vs i)) k)
    unfolding simple_of closed_of
    entry-placed ep h = entry-parts refl (rw (placed-kind _ (sym ep ∙ h))) (sym h ∙ ep)
