-- Laws of the list of drawn entries. Assumes nothing.
use Prim.Native.Nat.{ℕ, zero, suc, ◌+◌, ◌<◌, ◌≤◌}
use mathlib.Core.Path.{◌≡◌, refl, sym, ap, ◌∙◌}
use mathlib.Core.Bool.{Bool, true, false, not}
use mathlib.Core.List.{List, append-nil}
use native.Mathlib.Omega.{arith}
use native.Mathlib.Numerals.{add-one}
use borrow.Author.Tests.{eq-eqb, ne_eqb}
use lib.Dec.{eqb}
use lib.ListN.{length, take, get_or, set, length-set}
use lib.Seq.{take-suc-set, length-take-le}
use Rattle.check_parts.specs.Parts.{flag, Flags}
use Rattle.check_parts.specs.Drawn.{unnamed, flagged}

-- flags that stand for what is named list the same
as-flag : (b : Bool) → not (eqb (flag b) 0) ≡ b
as-flag true = refl
as-flag false = refl

pub unnamed-as : (g : ℕ → Bool) (fs : List ℕ) → Flags g fs → (n : ℕ) → n ≤ length fs → unnamed (flagged fs) n ≡ unnamed g n
unfolding unnamed
unnamed-as g fs F zero h = refl
unnamed-as g fs F (suc n) h = rw (unnamed-as g fs F n (omega arith), F n (omega arith), as-flag (g n))

-- the loop that lists them, at number i with d listed
pub record Listed (named drawn₀ : List ℕ) (n : ℕ) (drawn : List ℕ) (i d : ℕ) : Type 0 where
  pub same : length drawn ≡ length drawn₀
  pub upto : i ≤ n
  pub few : d ≤ i
  pub done : take d drawn ≡ unnamed (flagged named) i

module _ (named drawn₀ : List ℕ) (n : ℕ) where
  pub listed_start : Listed named drawn₀ n drawn₀ 0 0
  unfolding unnamed
  listed_start = record { same = refl; upto = omega arith; few = omega arith; done = refl }

  module _ (drawn : List ℕ) (i d : ℕ) (h : Listed named drawn₀ n drawn i d) (l : i < n) where
    pub listed-skip : (get_or named i 0 ≡ 0 → ⊥) → Listed named drawn₀ n drawn (i + 1) d
    unfolding unnamed
    listed-skip q = record {
      same = h.same;
      upto = omega arith;
      few = omega (arith, h.few);
      done = h.done ∙ sym (ap (unnamed (flagged named)) (add-one i) ∙ rw (ne_eqb (get_or named i 0) 0 q) (append-nil (unnamed (flagged named) i)));
    }

    put-done : n ≤ length drawn₀ → get_or named i 0 ≡ 0 → take (d + 1) (set drawn d i) ≡ unnamed (flagged named) (i + 1)
    unfolding unnamed
    put-done fit q =
        rw (add-one d, take-suc-set drawn d i (omega (arith, h.few, h.same)), h.done)
        (sym (ap (unnamed (flagged named)) (add-one i) ∙ rw (eq-eqb (get_or named i 0) 0 q)))

    pub listed-put : n ≤ length drawn₀ → get_or named i 0 ≡ 0 → Listed named drawn₀ n (set drawn d i) (i + 1) (d + 1)
    listed-put fit q = record { same = length-set drawn d i ∙ h.same; upto = omega arith; few = omega (arith, h.few); done = put-done fit q }

  pub listed-end : (drawn : List ℕ) (i d : ℕ) → Listed named drawn₀ n drawn i d → n ≤ length drawn₀ → n ≤ i → (d ≡ length (unnamed (flagged named) n)) × (take d drawn ≡ unnamed (flagged named) n)
  listed-end drawn i d h fit l =
      let e : i ≡ n = omega (arith, h.upto) in
      let all : take d drawn ≡ unnamed (flagged named) n = h.done ∙ ap (unnamed (flagged named)) e in
      (sym (length-take-le d drawn (omega (arith, h.few, h.same))) ∙ ap length all, all)
