-- Owners and path starts of the merged scene: number 4 lets them pass. Assumes nothing.
use Prim.Native.Nat.{ℕ, ◌+◌, ◌≤◌, ◌<◌}
use mathlib.Core.Path.{◌≡◌, refl, sym, ap, ap₂, ◌∙◌}
use mathlib.Core.Bool.{Bool, true, ◌&&◌, and-eq-true_iff}
use mathlib.Core.List.{List, [], ◌∷◌, ◌++◌}
use native.Mathlib.Omega.{arith}
use borrow.Author.Tests.{ltb-true, lt-ltb, leb-true, le-leb, eqb-true, eq-eqb}
use lib.ListN.{length, get_or}
use lib.Dec.{ltb, leb, eqb}
use Rattle.rows.specs.Starts.{next_start, rising, good_starts}
use Rattle.rows.specs.declared.Marks.{Marks}
use Rattle.scene.specs.Scenes.{entries}
use Rattle.check_parts.specs.Parts.{kind_at}
use Rattle.check_parts.specs.Owners.{is_round, round_entry, owners_ok}
use Rattle.scene_merge.specs.MergedScenes.{raised, raised_by}
use Rattle.theorem_merge.proofs.Names.{Appended}

-- ---- owners
module _ (A B M : List ℕ) (W : Appended A (entries A) B (entries B) M) (long : entries M ≡ entries A + entries B) where
  below : (ms : List ℕ) (o : ℕ) → round_entry ms o ≡ true → o < entries ms
  unfolding round_entry
  below ms o h = ltb-true o (entries ms) ((and-eq-true_iff (ltb o (entries ms)) (is_round (kind_at ms o))).0 h).0

  round-of : (ms : List ℕ) (o : ℕ) → round_entry ms o ≡ true → is_round (kind_at ms o) ≡ true
  unfolding round_entry
  round-of ms o h = ((and-eq-true_iff (ltb o (entries ms)) (is_round (kind_at ms o))).0 h).1

  round-first : (o : ℕ) → round_entry A o ≡ true → round_entry M o ≡ true
  unfolding round_entry
  round-first o h =
      let l = below A o h in
      ap₂ ◌&&◌ (lt-ltb o (entries M) (omega (arith, l))) (ap (λ (m : ℕ). is_round m) (ap (λ (x : Marks). x.kind) (W.first o l)) ∙ round-of A o h)

  round-second : (o : ℕ) → round_entry B o ≡ true → round_entry M (entries A + o) ≡ true
  unfolding round_entry raised
  round-second o h =
      let l = below B o h in
      ap₂ ◌&&◌ (lt-ltb (entries A + o) (entries M) (omega (arith, l))) (ap (λ (m : ℕ). is_round m) (ap (λ (x : Marks). x.kind) (W.second o l)) ∙ round-of B o h)

  owners-second : (us : List ℕ) → owners_ok B us ≡ true → owners_ok M (raised_by (entries A) us) ≡ true
  unfolding owners_ok
  owners-second [] h = refl
  owners-second (o ∷ []) h =
      let a = (and-eq-true_iff (round_entry B o) _).0 h in
      ap₂ ◌&&◌ (round-second o a.0) (ap₂ ◌&&◌ (le-leb (entries A + o) (entries A + o) (omega arith)) refl)
  owners-second (o ∷ v ∷ us) h =
      let a = (and-eq-true_iff (round_entry B o) _).0 h in
      let b = (and-eq-true_iff (leb o v) (owners_ok B (v ∷ us))).0 a.1 in
      ap₂ ◌&&◌ (round-second o a.0) (ap₂ ◌&&◌ (le-leb (entries A + o) (entries A + v) (omega (arith, leb-true o v b.0))) (owners-second (v ∷ us) b.1))

  owners-both : (os us : List ℕ) → owners_ok A os ≡ true → owners_ok M (raised_by (entries A) us) ≡ true → owners_ok M (os ++ raised_by (entries A) us) ≡ true
  unfolding owners_ok
  owners-both [] us h g = g
  owners-both (o ∷ []) [] h g =
      let a = (and-eq-true_iff (round_entry A o) _).0 h in
      ap₂ ◌&&◌ (round-first o a.0) (ap₂ ◌&&◌ (le-leb o o (omega arith)) refl)
  owners-both (o ∷ []) (u ∷ us) h g =
      let a = (and-eq-true_iff (round_entry A o) _).0 h in
      ap₂ ◌&&◌ (round-first o a.0) (ap₂ ◌&&◌ (le-leb o (entries A + u) (omega (arith, below A o a.0))) g)
  owners-both (o ∷ v ∷ os) us h g =
      let a = (and-eq-true_iff (round_entry A o) _).0 h in
      let b = (and-eq-true_iff (leb o v) (owners_ok A (v ∷ os))).0 a.1 in
      ap₂ ◌&&◌ (round-first o a.0) (ap₂ ◌&&◌ b.0 (owners-both (v ∷ os) us b.1 g))

  pub merged-owners : (os us : List ℕ) → owners_ok A os ≡ true → owners_ok B us ≡ true → owners_ok M (os ++ raised_by (entries A) us) ≡ true
  merged-owners os us h g = owners-both os us h (owners-second us g)

-- ---- starts: p points and then q
module _ (p q : ℕ) where
  rising-second : (us : List ℕ) → rising q us ≡ true → rising (p + q) (raised_by p us) ≡ true
  unfolding rising
  rising-second [] h = refl
  rising-second (u ∷ []) h =
      let a = (and-eq-true_iff (leb u q) _).0 h in
      ap₂ ◌&&◌ (le-leb (p + u) (p + q) (omega (arith, leb-true u q a.0))) refl
  rising-second (u ∷ v ∷ us) h =
      let a = (and-eq-true_iff (leb u v) (rising q (v ∷ us))).0 h in
      ap₂ ◌&&◌ (le-leb (p + u) (p + v) (omega (arith, leb-true u v a.0))) (rising-second (v ∷ us) a.1)

  rising-both : (ss us : List ℕ) → rising p ss ≡ true → rising (p + q) (raised_by p us) ≡ true → rising (p + q) (ss ++ raised_by p us) ≡ true
  unfolding rising
  rising-both [] us h g = g
  rising-both (s ∷ []) [] h g =
      let a = (and-eq-true_iff (leb s p) _).0 h in
      ap₂ ◌&&◌ (le-leb s (p + q) (omega (arith, leb-true s p a.0))) refl
  rising-both (s ∷ []) (u ∷ us) h g =
      let a = (and-eq-true_iff (leb s p) _).0 h in
      ap₂ ◌&&◌ (le-leb s (p + u) (omega (arith, leb-true s p a.0))) g
  rising-both (s ∷ t ∷ ss) us h g =
      let a = (and-eq-true_iff (leb s t) (rising p (t ∷ ss))).0 h in
      ap₂ ◌&&◌ a.0 (rising-both (t ∷ ss) us a.1 g)

  rising-of : (n : ℕ) (ss : List ℕ) → good_starts n ss ≡ true → rising n ss ≡ true
  unfolding good_starts rising
  rising-of n [] h = refl
  rising-of n (s ∷ ss) h = ((and-eq-true_iff (eqb s 0) _).0 h).1

  -- where there are no starts there are no points before the second's
  pub merged-starts : (ss us : List ℕ) → (length ss ≡ 0 → p ≡ 0) → good_starts p ss ≡ true → good_starts q us ≡ true → good_starts (p + q) (ss ++ raised_by p us) ≡ true
  unfolding good_starts
  merged-starts [] [] none h g = refl
  merged-starts [] (u ∷ us) none h g =
      let a = (and-eq-true_iff (eqb u 0) _).0 g in
      ap₂ ◌&&◌ (eq-eqb (p + u) 0 (omega (arith, none refl, eqb-true u 0 a.0))) (rising-second (u ∷ us) a.1)
  merged-starts (s ∷ ss) us none h g =
      let a = (and-eq-true_iff (eqb s 0) _).0 h in
      ap₂ ◌&&◌ a.0 (rising-both (s ∷ ss) us a.1 (rising-second us (rising-of q us g)))
