-- Each solid of two scenes is the same solid in the merged one: the proof by the depth. Assumes nothing.
use Prim.Native.Nat.{ℕ, zero, suc, ◌+◌, ◌/◌, ◌<◌, ◌≤◌}
use mathlib.Core.Path.{◌≡◌, refl, ap, ap₂, sym, ◌∙◌, subst}
use mathlib.Core.List.{List}
use mathlib.Core.Bool.{Bool, true, false, cond}
use lib.ListN.{length, take}
use lib.Dec.{eqb}
use lib.Ieee.{Float}
use native.Mathlib.Omega.{arith}
use borrow.Author.Tests.{eq-eqb}
use Rattle.rows.specs.Rows.{row}
use Rattle.rows.specs.declared.Marks.{Marks}
use Rattle.scene.specs.Entries.{marks_at}
use Rattle.check_parts.specs.Parts.{kind_at, first_at, second_at, parts_ok}
use Rattle.scene.specs.Scenes.{entries}
use Rattle.check_parts.proofs.Depths.{Part, part-six, part-seven}
use Rattle.theorem_solids.specs.Same.{Alike, SameTo, SameSolid, used_numbers, uses_detail}
use Rattle.scene_merge.specs.MergedScenes.{raised}
use Rattle.theorem_merge.proofs.Names.{Appended}

alike_as : (R : ℕ → ℕ → Type 0) (m n m' : Marks) (r r' : List Float) → m' ≡ n → r ≡ r' → m.kind ≡ n.kind → (uses_detail m.kind ≡ true → m.detail ≡ n.detail) → (m.kind ≡ 6 → R m.first n.first) → (m.kind ≡ 7 → R m.first n.first × R m.second n.second)
    → Alike R m m' r r'
alike_as R m n m' r r' e f k d p q =
    subst (λ (x : Marks). Alike R m x r r') (sym e) (record { kind = k; detail = d; numbers = ap (take (used_numbers m.kind)) f; part = p; parts = q })

up-six : (n : ℕ) (m : Marks) → m.kind ≡ 6 → (raised n m).first ≡ n + m.first
unfolding raised
up-six n m k = rw k

up-seven : (n : ℕ) (m : Marks) → m.kind ≡ 7 → ((raised n m).first ≡ n + m.first) × ((raised n m).second ≡ n + m.second)
unfolding raised
up-seven n m k = (rw k, rw k)

module _ (A : List ℕ) (B : List ℕ) (M : List ℕ) (W : Appended A (entries A) B (entries B) M) (long : entries M ≡ entries A + entries B)
    (ns ms ns' : List Float)
    (okA : parts_ok A (entries A) ≡ true) (okB : parts_ok B (entries B) ≡ true)
    (rowA : (i : ℕ) → i < entries A → row 16 i ns' ≡ row 16 i ns) (rowB : (j : ℕ) → j < entries B → row 16 (entries A + j) ns' ≡ row 16 j ms) where
  first-same : (d i : ℕ) → i < entries A → SameTo d ns A ns' M i i
  first-same zero i l = tt
  first-same (suc d) i l = (
    l,
    omega (arith, l, long),
    alike_as (SameTo d ns A ns' M) (marks_at A i) (marks_at A i) (marks_at M i) (row 16 i ns) (row 16 i ns') (W.first i l) (sym (rowA i l)) refl (λ _. refl)
        (λ k. first-same d (first_at A i) (omega (arith, l, (part-six A (entries A) okA i l k).0)))
        (λ k. let p = part-seven A (entries A) okA i l k in (first-same d (first_at A i) (omega (arith, l, p.0.0)), first-same d (second_at A i) (omega (arith, l, p.1.0)))),
  )

  second-same : (d j : ℕ) → j < entries B → SameTo d ms B ns' M j (entries A + j)
  unfolding raised
  second-same zero j l = tt
  second-same (suc d) j l = (
    l,
    omega (arith, l, long),
    alike_as (SameTo d ms B ns' M) (marks_at B j) (raised (entries A) (marks_at B j)) (marks_at M (entries A + j)) (row 16 j ms) (row 16 (entries A + j) ns') (W.second j l) (sym (rowB j l)) refl (λ _. refl)
        (λ k. subst (λ (x : ℕ). SameTo d ms B ns' M (first_at B j) x) (sym (up-six (entries A) (marks_at B j) k)) (second-same d (first_at B j) (omega (arith, l, (part-six B (entries B) okB j l k).0))))
        (λ k. let p = part-seven B (entries B) okB j l k in let u = up-seven (entries A) (marks_at B j) k in
        (subst (λ (x : ℕ). SameTo d ms B ns' M (first_at B j) x) (sym u.0) (second-same d (first_at B j) (omega (arith, l, p.0.0))), subst (λ (x : ℕ). SameTo d ms B ns' M (second_at B j) x) (sym u.1) (second-same d (second_at B j) (omega (arith, l, p.1.0))))),
  )

  -- document 01's same solid, at its old and its new index
  pub merged-first : (i : ℕ) → i < entries A → SameSolid ns A ns' M i i
  merged-first i l = first-same 8 i l

  pub merged-second : (j : ℕ) → j < entries B → SameSolid ms B ns' M j (entries A + j)
  merged-second j l = second-same 8 j l
