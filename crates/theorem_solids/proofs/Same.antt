-- The same solid is read as the same value: the proof.
use Prim.Native.Nat.{ℕ, zero, suc, ◌*◌, ◌/◌, ◌<◌, ◌≤◌}
use mathlib.Core.Path.{◌≡◌, refl, sym, ap, ◌∙◌}
use mathlib.Core.List.{List}
use mathlib.Core.Bool.{Bool, true, false, cond}
use native.Mathlib.Omega.{arith}
use lib.ListN.{length, take, get_or}
use lib.Seq.{get_or-take}
use lib.Dec.{leb, eqb}
use lib.Ieee.{Float, nan}
use borrow.Author.Tests.{eqb-true, lt-ltb}
use Rattle.matrix_inverse.specs.Inverses.{inverted}
use Rattle.rows.specs.Rows.{row}
use Rattle.rows.specs.Entries.{numbers_of}
use Rattle.rows.specs.declared.Marks.{Marks}
use Rattle.rows.specs.declared.Numbers.{Numbers}
use Rattle.scene.specs.Entries.{closed_of, simple_of, simple_or, op_of, cut_of, composite_of, entry_of, matrix_of, matrix_numbers, marks_at, own_entry}
use Rattle.scene.specs.declared.entry.Op.{Op}
use Rattle.scene.specs.declared.entry.Entry.{Entry}
use Rattle.scene.specs.declared.entry.Entry.TheVariants.{Placed, Cut}
use Rattle.scene_shape.specs.Shapes.{Shape, read, shape_of}
use Rattle.scene.specs.Scenes.{entries}
use Rattle.theorem_solids.specs.Same.{used_numbers, uses_detail, Alike, SameTo, SameSolidReadAlike}
use Rattle.std.specs.Prelude.{None, Option, Some}
use Rattle.solids.specs.declared.solid.Solid.{Solid}

-- ---- used numbers that agree are the measures that agree
cell : (u : ℕ) (r r' : List Float) → take u r ≡ take u r' → (j : ℕ) → j < u → get_or r j nan ≡ get_or r' j nan
cell u r r' e j h = sym (get_or-take u r j nan h) ∙ ap (λ (l : List Float). get_or l j nan) e ∙ get_or-take u r' j nan h

module _ (r r' : List Float) where
  abbrev Agree : ℕ → Type 0
  Agree k = simple_of k (numbers_of r) ≡ simple_of k (numbers_of r')

  agree-1 : take 4 r ≡ take 4 r' → Agree 1
  unfolding simple_of
  agree-1 e = rw (cell 4 r r' e 0 (omega arith), cell 4 r r' e 1 (omega arith), cell 4 r r' e 2 (omega arith), cell 4 r r' e 3 (omega arith))

  agree-2 : take 3 r ≡ take 3 r' → Agree 2
  unfolding simple_of
  agree-2 e = rw (cell 3 r r' e 0 (omega arith), cell 3 r r' e 1 (omega arith), cell 3 r r' e 2 (omega arith))

  agree-3 : take 2 r ≡ take 2 r' → Agree 3
  unfolding simple_of
  agree-3 e = rw (cell 2 r r' e 0 (omega arith), cell 2 r r' e 1 (omega arith))

  agree-4 : take 6 r ≡ take 6 r' → Agree 4
  unfolding simple_of
  agree-4 e = rw (cell 6 r r' e 0 (omega arith), cell 6 r r' e 1 (omega arith), cell 6 r r' e 2 (omega arith), cell 6 r r' e 3 (omega arith), cell 6 r r' e 4 (omega arith), cell 6 r r' e 5 (omega arith))

  agree-5 : take 9 r ≡ take 9 r' → Agree 5
  unfolding simple_of
  agree-5 e =
      rw (
        cell 9 r r' e 0 (omega arith),
        cell 9 r r' e 1 (omega arith),
        cell 9 r r' e 2 (omega arith),
        cell 9 r r' e 3 (omega arith),
        cell 9 r r' e 4 (omega arith),
        cell 9 r r' e 5 (omega arith),
        cell 9 r r' e 6 (omega arith),
        cell 9 r r' e 7 (omega arith),
        cell 9 r r' e 8 (omega arith),
      )

  closed-8 : take 3 r ≡ take 3 r' → closed_of 8 (numbers_of r) ≡ closed_of 8 (numbers_of r')
  unfolding closed_of
  closed-8 e = rw (cell 3 r r' e 0 (omega arith), cell 3 r r' e 1 (omega arith), cell 3 r r' e 2 (omega arith))

  closed-9 : take 2 r ≡ take 2 r' → closed_of 9 (numbers_of r) ≡ closed_of 9 (numbers_of r')
  unfolding closed_of
  closed-9 e = rw (cell 2 r r' e 0 (omega arith), cell 2 r r' e 1 (omega arith))

  closed-agree : (k : ℕ) → take (used_numbers k) r ≡ take (used_numbers k) r' → (t8 t9 : Bool) → eqb k 8 ≡ t8 → eqb k 9 ≡ t9 → closed_of k (numbers_of r) ≡ closed_of k (numbers_of r')
  unfolding closed_of used_numbers
  closed-agree k e true t9 e8 e9 = let q : k ≡ 8 = eqb-true k 8 e8 in rw q (closed-8 (rw q at e))
  closed-agree k e false true e8 e9 = let q : k ≡ 9 = eqb-true k 9 e9 in rw q (closed-9 (rw q at e))
  closed-agree k e false false e8 e9 = rw (e8, e9)

  pub all-agree : take 16 r ≡ take 16 r' → numbers_of r ≡ numbers_of r'
  all-agree e =
      rw (
        cell 16 r r' e 0 (omega arith),
        cell 16 r r' e 1 (omega arith),
        cell 16 r r' e 2 (omega arith),
        cell 16 r r' e 3 (omega arith),
        cell 16 r r' e 4 (omega arith),
        cell 16 r r' e 5 (omega arith),
        cell 16 r r' e 6 (omega arith),
        cell 16 r r' e 7 (omega arith),
        cell 16 r r' e 8 (omega arith),
        cell 16 r r' e 9 (omega arith),
        cell 16 r r' e 10 (omega arith),
        cell 16 r r' e 11 (omega arith),
        cell 16 r r' e 12 (omega arith),
        cell 16 r r' e 13 (omega arith),
        cell 16 r r' e 14 (omega arith),
        cell 16 r r' e 15 (omega arith),
      )

  pub agree : (k : ℕ) → take (used_numbers k) r ≡ take (used_numbers k) r' → (t1 t2 t3 t4 t5 : Bool) → eqb k 1 ≡ t1 → eqb k 2 ≡ t2 → eqb k 3 ≡ t3 → eqb k 4 ≡ t4 → eqb k 5 ≡ t5 → Agree k
  unfolding simple_of used_numbers
  agree k e true t2 t3 t4 t5 e1 e2 e3 e4 e5 = let q : k ≡ 1 = eqb-true k 1 e1 in rw q (agree-1 (rw q at e))
  agree k e false true t3 t4 t5 e1 e2 e3 e4 e5 = let q : k ≡ 2 = eqb-true k 2 e2 in rw q (agree-2 (rw q at e))
  agree k e false false true t4 t5 e1 e2 e3 e4 e5 = let q : k ≡ 3 = eqb-true k 3 e3 in rw q (agree-3 (rw q at e))
  agree k e false false false true t5 e1 e2 e3 e4 e5 = let q : k ≡ 4 = eqb-true k 4 e4 in rw q (agree-4 (rw q at e))
  agree k e false false false false true e1 e2 e3 e4 e5 = let q : k ≡ 5 = eqb-true k 5 e5 in rw q (agree-5 (rw q at e))
  agree k e false false false false false e1 e2 e3 e4 e5 = rw (e1, e2, e3, e4, e5) (closed-agree k e (eqb k 8) (eqb k 9) refl refl)

-- ---- entries that are alike, whose parts are read alike
module _ (F G : ℕ → Shape) (m m' : Marks) (r r' : List Float) (A : Alike (λ a b. F a ≡ G b) m m' r r') where
  abbrev inv : List Float → Numbers
  inv l = matrix_numbers (inverted (matrix_of (numbers_of l))).inverse

  placed-as : m.kind ≡ 6 → shape_of F (Some (Placed (matrix_of (numbers_of r)) (matrix_of (inv r)) m.first)) ≡ shape_of G (Some (Placed (matrix_of (numbers_of r')) (matrix_of (inv r')) m'.first))
  unfolding shape_of used_numbers
  placed-as k = let e : take 16 r ≡ take 16 r' = rw k at A.numbers in rw (all-agree r r' e, A.part k)

  cut_as : m.kind ≡ 7 → (t : Bool) (o : Op) → shape_of F (cond t (Some (Cut o m.first m.second)) None) ≡ shape_of G (cond t (Some (Cut o m'.first m'.second)) None)
  unfolding shape_of
  cut_as k true o = rw ((A.parts k).0, (A.parts k).1)
  cut_as k false o = refl

  composite-as : (t6 t7 : Bool) → eqb m.kind 6 ≡ t6 → eqb m.kind 7 ≡ t7 → shape_of F (cond t6 (Some (Placed (matrix_of (numbers_of r)) (matrix_of (inv r)) m.first)) (cond t7 (cut_of m) None)) ≡ shape_of G (cond t6 (Some (Placed (matrix_of (numbers_of r')) (matrix_of (inv r')) m'.first)) (cond t7 (cut_of m') None))
  unfolding cut_of uses_detail shape_of
  composite-as true t7 e6 e7 = placed-as (eqb-true m.kind 6 e6)
  composite-as false true e6 e7 =
      let k : m.kind ≡ 7 = eqb-true m.kind 7 e7 in
      rw (← A.detail (rw k)) (cut_as k (leb m.detail 3) (op_of m.detail))
  composite-as false false e6 e7 = refl

  composites : shape_of F (composite_of m (numbers_of r) (inv r)) ≡ shape_of G (composite_of m' (numbers_of r') (inv r'))
  unfolding composite_of
  composites =
      rw (← ap (λ (k : ℕ). eqb k 6) A.kind, ← ap (λ (k : ℕ). eqb k 7) A.kind)
      (composite-as (eqb m.kind 6) (eqb m.kind 7) refl refl)

  or_as : (s : Option Solid) (e e' : Option Entry) → shape_of F e ≡ shape_of G e' → shape_of F (simple_or s e) ≡ shape_of G (simple_or s e')
  unfolding shape_of simple_or
  or_as (Some s) e e' h = refl
  or_as None e e' h = h

  simples : simple_of m.kind (numbers_of r) ≡ simple_of m'.kind (numbers_of r')
  simples =
      agree r r' m.kind A.numbers (eqb m.kind 1) (eqb m.kind 2) (eqb m.kind 3) (eqb m.kind 4) (eqb m.kind 5) refl refl refl refl refl
      ∙ ap (λ (k : ℕ). simple_of k (numbers_of r')) A.kind

  entry-as : shape_of F (entry_of m (numbers_of r) (inv r)) ≡ shape_of G (entry_of m' (numbers_of r') (inv r'))
  unfolding entry_of
  entry-as =
      or_as (simple_of m.kind (numbers_of r)) (composite_of m (numbers_of r) (inv r)) (composite_of m' (numbers_of r') (inv r')) composites
      ∙ ap (λ (s : Option Solid). shape_of G (simple_or s (composite_of m' (numbers_of r') (inv r')))) simples

-- ---- the theorem, by the depth
module _ (ns : List Float) (ms : List ℕ) (ns' : List Float) (ms' : List ℕ) (fit : entries ms * 16 ≤ length ns) (fit' : entries ms' * 16 ≤ length ns') where
  alike-map : {R S : ℕ → ℕ → Type 0} {m m' : Marks} {r r' : List Float} → ((a b : ℕ) → R a b → S a b) → Alike R m m' r r' → Alike S m m' r r'
  alike-map f A = record { kind = A.kind; detail = A.detail; numbers = A.numbers; part = λ k. f _ _ (A.part k); parts = λ k. (f _ _ (A.parts k).0, f _ _ (A.parts k).1) }

  same-to : (d i j : ℕ) → SameTo d ns ms ns' ms' i j → read d (own_entry ns ms) i ≡ read d (own_entry ns' ms') j
  unfolding read own_entry
  same-to zero i j h = refl
  same-to (suc d) i j h =
      rw (lt-ltb i (length ns / 16) (omega (arith, h.0)), lt-ltb i (length ms / 4) h.0, lt-ltb j (length ns' / 16) (omega (arith, h.1)), lt-ltb j (length ms' / 4) h.1)
      (entry-as (read d (own_entry ns ms)) (read d (own_entry ns' ms')) (marks_at ms i) (marks_at ms' j) (row 16 i ns) (row 16 j ns') (alike-map (λ a b. same-to d a b) h.2))

pub same_solid : SameSolidReadAlike
same_solid ns ms ns' ms' fit fit' i j h = same-to ns ms ns' ms' fit fit' 8 i j h
