-- Laws of the loop over owners. Assumes nothing.
use Prim.Native.Nat.{ℕ, ◌+◌, ◌<◌, ◌≤◌}
use mathlib.Core.Path.{◌≡◌, refl, sym, ap, ◌∙◌}
use mathlib.Core.Bool.{Bool, true, false, ◌&&◌}
use mathlib.Core.List.{List}
use native.Mathlib.Omega.{arith}
use native.Mathlib.Numerals.{add-one}
use borrow.Author.Tests.{le-leb, lt-leb}
use lib.Dec.{leb}
use lib.ListN.{length, drop, get_or, drop_of_length-le}
use lib.Seq.{drop-cons}
use Rattle.check_parts.specs.Owners.{round_entry, owners_ok}

-- what is left answers as the whole does
pub record Owned (marks owners : List ℕ) (i : ℕ) : Type 0 where
  pub upto : i ≤ length owners
  pub left : owners_ok marks (drop i owners) ≡ owners_ok marks owners

-- the owner after the last is that one itself
pub next-is : (owners : List ℕ) (i : ℕ) → i + 1 < length owners → get_or owners (i + 1) 0 ≡ get_or (drop (i + 1) owners) 0 (get_or owners i 0)
next-is owners i h = rw (drop-cons owners (i + 1) 0 h)

pub next_last : (owners : List ℕ) (i : ℕ) → length owners ≤ i + 1 → get_or owners i 0 ≡ get_or (drop (i + 1) owners) 0 (get_or owners i 0)
next_last owners i h = rw (drop_of_length-le owners {i = i + 1} h)

module _ (marks owners : List ℕ) where
  pub owned-start : Owned marks owners 0
  owned-start = record { upto = omega arith; left = refl }

  module _ (i : ℕ) (h : Owned marks owners i) (l : i < length owners) where
    opens : owners_ok marks owners ≡ (round_entry marks (get_or owners i 0) && (leb (get_or owners i 0) (get_or (drop (i + 1) owners) 0 (get_or owners i 0)) && owners_ok marks (drop (i + 1) owners)))
    unfolding owners_ok
    opens = sym h.left ∙ rw (drop-cons owners i 0 l, add-one)

    module _ {r : Bool} (is : r ≡ round_entry marks (get_or owners i 0)) where
      pub owned-other : r ≡ false → false ≡ owners_ok marks owners
      owned-other q = sym (opens ∙ rw (← is, q))

      module _ (q : r ≡ true) {next : ℕ} (nx : next ≡ get_or (drop (i + 1) owners) 0 (get_or owners i 0)) where
        pub owned-falls : next < get_or owners i 0 → false ≡ owners_ok marks owners
        owned-falls g = sym (opens ∙ rw (← is, q, ← nx, lt-leb (get_or owners i 0) next g))

        pub owned-turn : get_or owners i 0 ≤ next → Owned marks owners (i + 1)
        owned-turn g = record { upto = omega arith; left = sym (opens ∙ rw (← is, q, ← nx, le-leb (get_or owners i 0) next g)) }

  pub owned-end : (i : ℕ) → Owned marks owners i → length owners ≤ i → true ≡ owners_ok marks owners
  unfolding owners_ok
  owned-end i h l = sym (ap (owners_ok marks) (drop_of_length-le owners {i = i} l)) ∙ h.left
