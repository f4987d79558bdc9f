-- Owners and path starts of a scene that forms were added to are as number 4 has them. Assumes nothing.
use Prim.Native.Nat.{ℕ, suc, ◌+◌, ◌/◌, ◌≤◌, ◌<◌}
use mathlib.Core.Path.{◌≡◌, refl, sym, ap, ap₂, ◌∙◌, subst}
use mathlib.Core.Bool.{Bool, true, ◌&&◌, and-eq-true_iff}
use mathlib.Core.List.{List, [], ◌∷◌, ◌++◌}
use native.Mathlib.Omega.{arith}
use borrow.Author.Tests.{lt-ltb, le-leb, eq-eqb}
use lib.Dec.{leb, eqb}
use lib.ListN.{length, get_or, length-append}
use Rattle.geometry.specs.declared.vector.Vector.{Vector}
use Rattle.rows.specs.Starts.{next_start, rising, good_starts}
use Rattle.rows.specs.declared.Marks.{Marks}
use Rattle.scene.specs.Scenes.{Scene, entries_of}
use Rattle.check_parts.specs.Owners.{is_round, round_entry, owners_ok}
use Rattle.lists.specs.Lists.{Each}
use Rattle.text_heads.specs.Lines.{point_count}
use Rattle.text_heads.specs.declared.Head.{Head}
use Rattle.text_forms.specs.Forms.{last, entered}
use Rattle.text_scene.specs.Texts.{empty_scene}
use Rattle.text_canonical.specs.Forms.{Form, round_form, cube_form, triangle_form, placed_form, cut_form, no_form}
use Rattle.text_canonical.specs.Writable.{Writable}
use Rattle.text_canonical.proofs.Added.{head_of, with_lines, added, added_all, deep_of}
use Rattle.text_canonical.proofs.Readback.{Sane, Under, Extends, back, next_more, lined, line-marks, line-starts, line-owners, line-count, line-sane, entered-extends, new-marks, SE, CE}

pub record Lawful (s : Scene) : Type 0 where
  pub owners : owners_ok s.marks s.owners ≡ true
  pub starts : good_starts (point_count s) s.starts ≡ true
  pub first : length s.starts ≡ 0 → point_count s ≡ 0

-- ---- owners
round-kept : (s t : Scene) → Extends s t → (o : ℕ) → o < entries_of s → round_entry s.marks o ≡ round_entry t.marks o
unfolding round_entry
round-kept s t E o l = ap₂ ◌&&◌ (lt-ltb o (entries_of s) l ∙ sym (lt-ltb o (entries_of t) (omega (arith, l, E.more)))) (ap (λ (m : Marks). is_round m.kind) (sym (E.marks o l)))

owners-kept : (s t : Scene) → Extends s t → (os : List ℕ) → Under (entries_of s) os → owners_ok s.marks os ≡ owners_ok t.marks os
unfolding owners_ok
owners-kept s t E [] h = refl
owners-kept s t E (o ∷ os) h = ap₂ (λ (a b : Bool). a && (leb o (get_or os 0 o) && b)) (round-kept s t E o h.0) (owners-kept s t E os h.1)

next-owner : (o n : ℕ) (os : List ℕ) → o ≤ n → leb o (get_or os 0 o) ≡ true → leb o (get_or (os ++ (n ∷ [])) 0 o) ≡ true
next-owner o n [] l h = le-leb o n l
next-owner o n (x ∷ os) l h = h

owners-more : (ms : List ℕ) (n : ℕ) (os : List ℕ) → round_entry ms n ≡ true → Under (suc n) os → owners_ok ms os ≡ true → owners_ok ms (os ++ (n ∷ [])) ≡ true
unfolding owners_ok
owners-more ms n [] r u h = rw (r, le-leb n n (omega arith))
owners-more ms n (o ∷ os) r u h =
    let a = (and-eq-true_iff (round_entry ms o) _).0 h in
    let b = (and-eq-true_iff (leb o (get_or os 0 o)) _).0 a.1 in
    rw (a.0, next-owner o n os (omega (arith, u.0)) b.0) (owners-more ms n os r u.1 b.1)

-- ---- starts
none-rise : (p : ℕ) → rising p [] ≡ true
unfolding rising
none-rise p = refl

rising-more : (p q : ℕ) (ss : List ℕ) → p ≤ q → rising p ss ≡ true → rising q (ss ++ (p ∷ [])) ≡ true
unfolding rising
rising-more p q [] l h = rw (le-leb p q l)
rising-more p q (s ∷ ss) l h =
    let a = (and-eq-true_iff (leb s (next_start p ss)) (rising p ss)).0 h in
    ap₂ ◌&&◌ (ap (leb s) (next_more p q ss) ∙ a.0) (rising-more p q ss l a.1)

good_more : (p q : ℕ) (ss : List ℕ) → p ≤ q → (length ss ≡ 0 → p ≡ 0) → good_starts p ss ≡ true → good_starts q (ss ++ (p ∷ [])) ≡ true
unfolding good_starts
good_more p q [] l z h = ap₂ ◌&&◌ (eq-eqb p 0 (z refl)) (rising-more p q [] l (none-rise p))
good_more p q (s ∷ ss) l z h =
    let a = (and-eq-true_iff (eqb s 0) (rising p (s ∷ ss))).0 h in
    ap₂ ◌&&◌ a.0 (rising-more p q (s ∷ ss) l a.1)

-- ---- one more line, of the last entry
module _ (n : ℕ) (l : List Vector) (s : Scene) (S : Sane s) (own : entries_of s ≡ n + 1) (round : round_entry s.marks n ≡ true) (W : Lawful s) where
  below : n < entries_of s
  below = omega (arith, own)

  line-lawful : Lawful (lined n l s S below)
  line-lawful = record {
    owners = rw (line-marks n l s S below, line-owners n l s S below) (owners-more s.marks n s.owners round (subst (λ (k : ℕ). Under k s.owners) (own ∙ omega arith) S.owned) W.owners);
    starts = rw (line-starts n l s S below, line-count n l s S below) (good_more (point_count s) (point_count s + length l) s.starts (omega arith) W.first W.starts);
    first = λ e. absurd (omega (arith, e, ap length (line-starts n l s S below), length-append s.starts (point_count s ∷ [])));
  }

lines-lawful : (n : ℕ) (ls : List (List Vector)) (s : Scene) → Sane s → entries_of s ≡ n + 1 → round_entry s.marks n ≡ true → Lawful s → Lawful (with_lines n ls s)
unfolding with_lines
lines-lawful n [] s S own r W = W
lines-lawful n (l ∷ ls) s S own r W =
    let b = below n l s S own r W in
    let m = line-marks n l s S b in
    lines-lawful n ls (lined n l s S b) (line-sane n l s S b) (ap (λ (ms : List ℕ). length ms / 4) m ∙ own) (ap (λ (ms : List ℕ). round_entry ms n) m ∙ r) (line-lawful n l s S own r W)

-- ---- one more entry
entered-lawful : (h : Head) (p q : ℕ) (s : Scene) → Sane s → Lawful s → Lawful (entered h p q s)
unfolding entered
entered-lawful h p q s S W = record {
  owners = sym (owners-kept s (entered h p q s) (entered-extends h p q s S) s.owners S.owned) ∙ W.owners;
  starts = W.starts;
  first = W.first;
}

-- ---- a form
pub added-lawful : (f : Form) (s : Scene) → Sane s → Writable f → Lawful s → Lawful (added f s)
unfolding added Writable round_entry
added-lawful (round_form k n xs ls) s S g W =
    let h = head_of k n xs in
    let e = CE k n xs ls 0 s S g.3 g.0 g.2 in
    lines-lawful (entries_of s) ls (entered h 0 0 s) (SE k n xs ls 0 s S g.3 g.0 g.2) e
    (ap₂ ◌&&◌ (lt-ltb (entries_of s) (entries_of (entered h 0 0 s)) (omega (arith, e))) (ap (λ (m : Marks). is_round m.kind) (new-marks h 0 0 s S) ∙ g.0))
    (entered-lawful h 0 0 s S W)
added-lawful (cube_form n xs) s S g W = entered-lawful (head_of 4 n xs) 0 0 s S W
added-lawful (triangle_form xs) s S g W = entered-lawful (head_of 5 0 xs) 0 0 s S W
added-lawful (placed_form xs f) s S g W = entered-lawful (head_of 6 0 xs) (last (added f s)) 0 (added f s) (back f (deep_of f) s S g.2 (omega arith)).sane (added-lawful f s S g.2 W)
added-lawful (cut_form o f j) s S g W =
    let b = (back f (deep_of f) s S g.1 (omega arith)).sane in
    let a = added f s in
    entered-lawful (head_of 7 o []) (last a) (last (added j a)) (added j a) (back j (deep_of j) a b g.2 (omega arith)).sane (added-lawful j a b g.2 (added-lawful f s S g.1 W))
added-lawful no_form s S g W = absurd g

pub added-all-lawful : (fs : List Form) (s : Scene) → Sane s → Each Writable fs → Lawful s → Lawful (added_all fs s)
unfolding added_all Each
added-all-lawful [] s S g W = W
added-all-lawful (f ∷ fs) s S g W = added-all-lawful fs (added f s) (back f (deep_of f) s S g.0 (omega arith)).sane g.1 (added-lawful f s S g.0 W)

pub empty-lawful : Lawful empty_scene
unfolding owners_ok good_starts
empty-lawful = record { owners = refl; starts = refl; first = λ e. refl }
