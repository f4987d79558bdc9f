-- How functions on lent slices end: what their answers say of the definitions, and how such ends are made. Assumes nothing.
use mathlib.Core.Path.{◌≡◌, sym, ap, ◌∙◌, subst}
use mathlib.Core.List.{List}
use Prim.Native.Nat.{ℕ, ◌*◌, ◌≤◌}
use native.Mathlib.Omega.{arith}
use lib.ListN.{length}
use lib.Ieee.{Float}
use Rattle.refusals.specs.declared.Refusal.{Refusal}
use Rattle.paths.specs.Paths.{Paths}
use Rattle.paths.specs.Ends.{told, Grown, held, told_both, EndsBoth}
use Rattle.std.specs.Prelude.{Err, Ok, Result}

-- ---- one slice
module _ {A B : Type 0} {k : ℕ} {read : ℕ → List A → List B} where
  module _ {a : Result (List B) Refusal} {xs : List A} {r : Result ℕ Refusal} (h : Grown k read a xs r) where
    pub ends_at : {n : ℕ} → r ≡ Ok n → a ≡ Ok (read n xs)
    ends_at e = sym h.is ∙ ap (λ (s : Result ℕ Refusal). told read s xs) e

    pub ends-refused : {e : Refusal} → r ≡ Err e → a ≡ Err e
    ends-refused e = sym h.is ∙ ap (λ (s : Result ℕ Refusal). told read s xs) e

  pub ends_as : {a b : Result (List B) Refusal} {xs : List A} {r : Result ℕ Refusal} → a ≡ b → Grown k read b xs r → Grown k read a xs r
  ends_as {xs = xs} {r = r} e h = subst (λ (x : Result (List B) Refusal). Grown k read x xs r) (sym e) h

  pub refuses : {a : Result (List B) Refusal} {e : Refusal} (xs : List A) → a ≡ Err e → Grown k read a xs (Err e)
  refuses {e = e} xs p = record { is = sym p; fits = λ n q. clash n q }
    where
      clash : {m : ℕ} (n : ℕ) → Err e ≡ Ok n → n * k ≤ m
      clash n q = let z : ◌≡◌ {A = ℕ} 0 1 = cc in absurd (omega arith)

  pub answers : {a : Result (List B) Refusal} (n : ℕ) (xs : List A) → a ≡ Ok (read n xs) → n * k ≤ length xs → Grown k read a xs (Ok n)
  answers n xs p h = record { is = sym p; fits = λ m q. fit m q }
    where
      fit : (m : ℕ) → ◌≡◌ {A = Result ℕ Refusal} (Ok n) (Ok m) → m * k ≤ length xs
      fit m q = let z : n ≡ m = cc in subst (λ (i : ℕ). i * k ≤ length xs) z h

-- ---- points and starts
module _ {a : Result Paths Refusal} {xs : List Float} {ss : List ℕ} {r : Result (ℕ × ℕ) Refusal} (h : EndsBoth a xs ss r) where
  pub both_at : {n m : ℕ} → r ≡ Ok (n, m) → a ≡ Ok (held n xs m ss)
  both_at e = sym h.is ∙ ap (λ (s : Result (ℕ × ℕ) Refusal). told_both s xs ss) e

  pub both-refused : {e : Refusal} → r ≡ Err e → a ≡ Err e
  both-refused e = sym h.is ∙ ap (λ (s : Result (ℕ × ℕ) Refusal). told_both s xs ss) e

pub same-counts : {n m i j : ℕ} → ◌≡◌ {A = Result (ℕ × ℕ) Refusal} (Ok (n, m)) (Ok (i, j)) → (n ≡ i) × (m ≡ j)
same-counts {n} {m} {i} {j} q = let e : ◌≡◌ {A = ℕ × ℕ} (n, m) (i, j) = cc in (ap (λ (t : ℕ × ℕ). t.0) e, ap (λ (t : ℕ × ℕ). t.1) e)

pub refuses-both : {a : Result Paths Refusal} {e : Refusal} (xs : List Float) (ss : List ℕ) → a ≡ Err e → EndsBoth a xs ss (Err e)
refuses-both {e = e} xs ss p = record { is = sym p; fits = λ n m q. no_both n m q }
  where
    no_both : {i j : ℕ} (n m : ℕ) → ◌≡◌ {A = Result (ℕ × ℕ) Refusal} (Err e) (Ok (n, m)) → (n * 3 ≤ i) × (m ≤ j)
    no_both n m q = let z : ◌≡◌ {A = ℕ} 0 1 = cc in absurd (omega arith)

pub answers-both : {a : Result Paths Refusal} (n m : ℕ) (xs : List Float) (ss : List ℕ) → a ≡ Ok (held n xs m ss) → n * 3 ≤ length xs → m ≤ length ss → EndsBoth a xs ss (Ok (n, m))
answers-both n m xs ss p h k = record { is = sym p; fits = λ i j q. fit i j q }
  where
    fit : (i j : ℕ) → ◌≡◌ {A = Result (ℕ × ℕ) Refusal} (Ok (n, m)) (Ok (i, j)) → (i * 3 ≤ length xs) × (j ≤ length ss)
    fit i j q = let z = same-counts q in (omega (arith, z.0), omega (arith, z.1))
