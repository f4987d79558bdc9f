-- A form that was added to a scene is read from it again, and what was there before is as it was. Assumes nothing.
use Prim.Native.Nat.{ℕ, zero, suc, ◌+◌, ◌-◌, ◌*◌, ◌/◌, ◌≤◌, ◌<◌}
use mathlib.Core.Path.{◌≡◌, refl, sym, ap, ap₂, ◌∙◌, subst}
use mathlib.Core.Logic.{◌⊎◌, inl, inr}
use mathlib.Core.Bool.{Bool, true, false, cond}
use mathlib.Core.List.{List, [], ◌∷◌, ◌++◌, append_assoc, append-nil}
use native.Mathlib.Omega.{arith}
use borrow.Author.Tests.{lt-ltb, le-ltb, eq-eqb, ne_eqb}
use lib.Dec.{ltb, eqb}
use lib.ListN.{length, take, drop, length-append, length-drop, length-replicate, replicate}
use lib.Seq.{slice, take_all, take-append-le, drop-append-le, take-append_seam, drop-append_seam}
use lib.Ieee.{Float}
use Rattle.floats.specs.Arith.{zero_f}
use Rattle.floats.proofs.Order.{le-or-lt}
use Rattle.geometry.specs.declared.vector.Vector.{Vector}
use Rattle.rows.specs.Rows.{row, padded}
use Rattle.rows.specs.Points.{point_of, point_row}
use Rattle.rows.specs.Entries.{numbers_of, numbers_row, marks_of}
use Rattle.rows.specs.Starts.{next_start}
use Rattle.rows.specs.declared.Marks.{Marks}
use Rattle.rows.proofs.Rows.{view-more, view-append, length-view}
use Rattle.rows.proofs.Backs.{numbers-back}
use Rattle.scene.specs.Entries.{marks_at, striped, stripe_count}
use Rattle.paths.specs.Paths.{paths_of}
use Rattle.paths.specs.Ends.{places, all_points}
use Rattle.draw_lines.specs.Lines.{own_paths}
use Rattle.check_parts.specs.Parts.{larger}
use Rattle.scene.specs.Scenes.{Scene, entries_of}
use Rattle.check_parts.specs.Owners.{is_round}
use Rattle.text_heads.specs.Heads.{measures, closed_measures}
use Rattle.text_heads.specs.Lines.{dotted, begun, point_count}
use Rattle.text_heads.specs.declared.Head.{Head}
use Rattle.text_forms.specs.Forms.{last, entered}
use Rattle.text_canonical.specs.Forms.{Form, round_form, cube_form, triangle_form, placed_form, cut_form, no_form, lines_at, form_of, form_at}
use Rattle.text_canonical.specs.Writable.{Writable, form_entries}
use Rattle.text_canonical.proofs.Added.{head_of, with_dots, with_lines, added, deep_of}

-- ---- rows
module _ {A : Type 0} where
  row-front : (k i : ℕ) (xs ys : List A) → i * k + k ≤ length xs → row k i (xs ++ ys) ≡ row k i xs
  row-front k i xs ys h = rw (drop-append-le (i * k) xs ys (omega (arith, h)), take-append-le k (drop (i * k) xs) ys (rw (length-drop (i * k) xs) (omega (arith, h))))

  row_new : (k n : ℕ) (xs r : List A) → length xs ≡ n * k → length r ≡ k → row k n (xs ++ r) ≡ r
  row_new k n xs r e f = rw (← e, drop-append_seam xs r) (take_all k r (omega (arith, f)))

-- ---- what is so of a scene that forms were added to
abbrev pub Low : ℕ → List ℕ → Type 0
Low n [] = 0 ≤ n
Low n (s ∷ ss) = (s ≤ n) × Low n ss

abbrev pub Under : ℕ → List ℕ → Type 0
Under n [] = Unit
Under n (o ∷ os) = (o < n) × Under n os

pub record Sane (s : Scene) : Type 0 where
  pub marks : length s.marks ≡ entries_of s * 4
  pub numbers : length s.numbers ≡ entries_of s * 16
  pub points : length s.points ≡ point_count s * 3
  pub owners : length s.owners ≡ length s.starts
  pub low : Low (point_count s) s.starts
  pub owned : Under (entries_of s) s.owners
  pub parts : (i : ℕ) → i < entries_of s → ((marks_at s.marks i).first < entries_of s) × ((marks_at s.marks i).second < entries_of s)

-- t has the entries of s, as they were
pub record Extends (s t : Scene) : Type 0 where
  pub more : entries_of s ≤ entries_of t
  pub marks : (i : ℕ) → i < entries_of s → marks_at t.marks i ≡ marks_at s.marks i
  pub numbers : (i : ℕ) → i < entries_of s → row 16 i t.numbers ≡ row 16 i s.numbers
  pub lines : (i : ℕ) → i < entries_of s → lines_at t i ≡ lines_at s i

pub extends-refl : (s : Scene) → Extends s s
extends-refl s = record { more = omega arith; marks = λ i l. refl; numbers = λ i l. refl; lines = λ i l. refl }

pub extends-trans : (s t u : Scene) → Extends s t → Extends t u → Extends s u
extends-trans s t u h k = record {
  more = omega (arith, h.more, k.more);
  marks = λ i l. k.marks i (omega (arith, l, h.more)) ∙ h.marks i l;
  numbers = λ i l. k.numbers i (omega (arith, l, h.more)) ∙ h.numbers i l;
  lines = λ i l. k.lines i (omega (arith, l, h.more)) ∙ h.lines i l;
}

-- the same forms there
form_of-same : (m : Marks) (r : List Float) (ls : List (List Vector)) (g h : ℕ → Form) → g m.first ≡ h m.first → g m.second ≡ h m.second → form_of m r ls g ≡ form_of m r ls h
unfolding form_of
form_of-same m r ls g h p q = rw (p, q)

pub form-kept : (d : ℕ) (s t : Scene) → Sane s → Extends s t → (i : ℕ) → i < entries_of s → form_at d t i ≡ form_at d s i
unfolding form_at
form-kept zero s t S E i l = refl
form-kept (suc d) s t S E i l =
    rw (E.marks i l, E.numbers i l, E.lines i l)
    (form_of-same (marks_at s.marks i) (row 16 i s.numbers) (lines_at s i) (form_at d t) (form_at d s)
    (form-kept d s t S E (marks_at s.marks i).first (S.parts i l).0) (form-kept d s t S E (marks_at s.marks i).second (S.parts i l).1))

pub under_more : (n m : ℕ) (os : List ℕ) → n ≤ m → Under n os → Under m os
under_more n m [] l h = tt
under_more n m (o ∷ os) l h = (omega (arith, h.0, l), under_more n m os l h.1)

-- ---- one more entry
module _ (h : Head) (p q : ℕ) (s : Scene) (S : Sane s) where
  abbrev next : Scene
  next = entered h p q s

  pub entered-count : entries_of next ≡ entries_of s + 1
  unfolding entered
  entered-count = rw (length-append s.marks (h.kind ∷ h.detail ∷ p ∷ q ∷ [])) (omega arith)

  pub new-marks : marks_at next.marks (entries_of s) ≡ record { kind = h.kind; detail = h.detail; first = p; second = q }
  unfolding entered
  new-marks = ap marks_of (row_new 4 (entries_of s) s.marks (h.kind ∷ h.detail ∷ p ∷ q ∷ []) S.marks refl)

  new-numbers : row 16 (entries_of s) next.numbers ≡ numbers_row h.row
  unfolding entered
  new-numbers = row_new 16 (entries_of s) s.numbers (numbers_row h.row) S.numbers refl

  pub entered-extends : Extends s next
  unfolding entered
  entered-extends = record {
    more = omega (arith, entered-count);
    marks = λ i l. ap marks_of (row-front 4 i s.marks (h.kind ∷ h.detail ∷ p ∷ q ∷ []) (omega (arith, l, S.marks)));
    numbers = λ i l. row-front 16 i s.numbers (numbers_row h.row) (omega (arith, l, S.numbers));
    lines = λ i l. refl;
  }

  module _ (fit : length (numbers_row h.row) ≡ 16) (pl : p < entries_of s + 1) (ql : q < entries_of s + 1) where
    entered-parts : (i : ℕ) → i < entries_of next → ((marks_at next.marks i).first < entries_of next) × ((marks_at next.marks i).second < entries_of next)
    entered-parts i l = by (le-or-lt (entries_of s) i)
      where
        by : (entries_of s ≤ i) ⊎ (i < entries_of s) → ((marks_at next.marks i).first < entries_of next) × ((marks_at next.marks i).second < entries_of next)
        by (inl g) =
            let e : i ≡ entries_of s = omega (arith, g, l, entered-count) in
            let m = new-marks in
            rw (e, ap (λ (x : Marks). x.first) m, ap (λ (x : Marks). x.second) m) (omega (arith, pl, entered-count), omega (arith, ql, entered-count))
        by (inr g) =
            let m = entered-extends.marks i g in
            let w = S.parts i g in
            rw (ap (λ (x : Marks). x.first) m, ap (λ (x : Marks). x.second) m) (omega (arith, w.0, entered-count), omega (arith, w.1, entered-count))

    pub entered-sane : Sane next
    unfolding entered
    entered-sane = record {
      marks = length-append s.marks (h.kind ∷ h.detail ∷ p ∷ q ∷ []) ∙ rw entered-count (omega (arith, S.marks));
      numbers = length-append s.numbers (numbers_row h.row) ∙ rw entered-count (omega (arith, S.numbers));
      points = S.points;
      owners = S.owners;
      low = S.low;
      owned = under_more (entries_of s) (entries_of next) s.owners (omega (arith, entered-count)) S.owned;
      parts = entered-parts;
    }

-- ---- one more path
pub next_more : (n m : ℕ) (ss : List ℕ) → next_start m (ss ++ (n ∷ [])) ≡ next_start n ss
next_more n m [] = refl
next_more n m (s ∷ ss) = refl

low-next : (n : ℕ) (ss : List ℕ) → Low n ss → next_start n ss ≤ n
low-next n [] h = omega arith
low-next n (s ∷ ss) h = h.0

low-more : (n m : ℕ) (ss : List ℕ) → n ≤ m → Low n ss → Low m (ss ++ (n ∷ []))
low-more n m [] l h = (l, omega arith)
low-more n m (s ∷ ss) l h = (omega (arith, h.0, l), low-more n m ss l h.1)

module _ (vs ws : List Vector) where
  paths-more : (ss : List ℕ) → Low (length vs) ss → paths_of (vs ++ ws) (ss ++ (length vs ∷ [])) ≡ paths_of vs ss ++ (ws ∷ [])
  unfolding paths_of
  paths-more [] h =
      let e : slice (length vs) (length (vs ++ ws)) (vs ++ ws) ≡ ws = ap (drop (length vs)) (take_all (length (vs ++ ws)) (vs ++ ws) (omega arith)) ∙ drop-append_seam vs ws in
      ap (λ (l : List Vector). l ∷ []) e
  paths-more (s ∷ ss) h =
      let e : slice s (next_start (length (vs ++ ws)) (ss ++ (length vs ∷ []))) (vs ++ ws) ≡ slice s (next_start (length vs) ss) vs
      = ap (λ (n : ℕ). slice s n (vs ++ ws)) (next_more (length vs) (length (vs ++ ws)) ss) ∙ ap (drop s) (take-append-le (next_start (length vs) ss) vs ws (low-next (length vs) ss h.1)) in
      ap₂ (λ (l : List Vector) (ls : List (List Vector)). l ∷ ls) e (paths-more ss h.1)

own-more : (i n : ℕ) (l : List Vector) (ps : List (List Vector)) (os : List ℕ) → length os ≡ length ps → own_paths i (ps ++ (l ∷ [])) (os ++ (n ∷ [])) ≡ own_paths i ps os ++ cond (eqb n i) (l ∷ []) []
unfolding own_paths
own-more i n l [] [] e = by (eqb n i)
  where
    by : (t : Bool) → cond t (l ∷ []) [] ≡ cond t (l ∷ []) []
    by t = refl
own-more i n l [] (o ∷ os) e = absurd (omega (arith, e))
own-more i n l (p ∷ ps) [] e = absurd (omega (arith, e))
own-more i n l (p ∷ ps) (o ∷ os) e = by (eqb o i) (own-more i n l ps os (omega (arith, e)))
  where
    by : (t : Bool) → own_paths i (ps ++ (l ∷ [])) (os ++ (n ∷ [])) ≡ own_paths i ps os ++ cond (eqb n i) (l ∷ []) []
        → cond t (p ∷ own_paths i (ps ++ (l ∷ [])) (os ++ (n ∷ []))) (own_paths i (ps ++ (l ∷ [])) (os ++ (n ∷ []))) ≡ cond t (p ∷ own_paths i ps os) (own_paths i ps os) ++ cond (eqb n i) (l ∷ []) []
    by true e = ap (λ (x : List (List Vector)). p ∷ x) e
    by false e = e

paths-length : (vs : List Vector) (ss : List ℕ) → length (paths_of vs ss) ≡ length ss
unfolding paths_of
paths-length vs [] = refl
paths-length vs (s ∷ ss) = ap suc (paths-length vs ss)

-- points
dotted-points : (p : Vector) (s : Scene) → length s.points ≡ point_count s * 3 → all_points (dotted p s).points ≡ all_points s.points ++ (p ∷ [])
unfolding dotted
dotted-points p s e =
    let n : places (s.points ++ point_row p) ≡ suc (places s.points) = rw (length-append s.points (point_row p)) (omega arith) in
    rw n (view-more 3 point_of (places s.points) (s.points ++ point_row p)
    ∙ ap₂ (λ (a : List Vector) (b : List Float). a ++ (point_of b ∷ [])) (view-append 3 point_of (places s.points) s.points (point_row p) (omega (arith, e))) (row_new 3 (places s.points) s.points (point_row p) e refl))

dotted-long : (p : Vector) (s : Scene) → length s.points ≡ point_count s * 3 → length (dotted p s).points ≡ point_count (dotted p s) * 3
unfolding dotted
dotted-long p s e = rw (length-append s.points (point_row p)) (omega (arith, e))

dotted-keeps : (p : Vector) (s : Scene) → ((dotted p s).marks ≡ s.marks) × ((dotted p s).numbers ≡ s.numbers) × ((dotted p s).starts ≡ s.starts) × ((dotted p s).owners ≡ s.owners)
unfolding dotted
dotted-keeps p s = (refl, refl, refl, refl)

record Dots (l : List Vector) (s : Scene) : Type 0 where
  marks : (with_dots l s).marks ≡ s.marks
  numbers : (with_dots l s).numbers ≡ s.numbers
  starts : (with_dots l s).starts ≡ s.starts
  owners : (with_dots l s).owners ≡ s.owners
  points : all_points (with_dots l s).points ≡ all_points s.points ++ l
  long : length (with_dots l s).points ≡ point_count (with_dots l s) * 3

dots : (l : List Vector) (s : Scene) → length s.points ≡ point_count s * 3 → Dots l s
unfolding with_dots
dots [] s e = record { marks = refl; numbers = refl; starts = refl; owners = refl; points = sym (append-nil (all_points s.points)); long = e }
dots (p ∷ l) s e =
    let d = dots l (dotted p s) (dotted-long p s e) in
    let k = dotted-keeps p s in
    record {
      marks = d.marks ∙ k.0;
      numbers = d.numbers ∙ k.1;
      starts = d.starts ∙ k.2;
      owners = d.owners ∙ k.3;
      points = d.points ∙ ap (λ (x : List Vector). x ++ l) (dotted-points p s e) ∙ append_assoc (all_points s.points) (p ∷ []) l;
      long = d.long;
    }

begun-keeps : (n : ℕ) (s : Scene) → ((begun n s).marks ≡ s.marks) × ((begun n s).numbers ≡ s.numbers) × ((begun n s).points ≡ s.points) × ((begun n s).starts ≡ s.starts ++ (point_count s ∷ [])) × ((begun n s).owners ≡ s.owners ++ (n ∷ []))
unfolding begun
begun-keeps n s = (refl, refl, refl, refl, refl)

under-snoc : (n m : ℕ) (os : List ℕ) → m < n → Under n os → Under n (os ++ (m ∷ []))
under-snoc n m [] l h = (l, tt)
under-snoc n m (o ∷ os) l h = (h.0, under-snoc n m os l h.1)

module _ (n : ℕ) (l : List Vector) (s : Scene) (S : Sane s) (own : n < entries_of s) where
  abbrev pub lined : Scene
  lined = with_dots l (begun n s)

  abbrev B : ((begun n s).marks ≡ s.marks) × ((begun n s).numbers ≡ s.numbers) × ((begun n s).points ≡ s.points) × ((begun n s).starts ≡ s.starts ++ (point_count s ∷ [])) × ((begun n s).owners ≡ s.owners ++ (n ∷ []))
  B = begun-keeps n s

  D : Dots l (begun n s)
  D = dots l (begun n s) (rw B.2 S.points)

  pub line-marks : lined.marks ≡ s.marks
  line-marks = D.marks ∙ B.0

  line-numbers : lined.numbers ≡ s.numbers
  line-numbers = D.numbers ∙ B.1

  pub line-starts : lined.starts ≡ s.starts ++ (point_count s ∷ [])
  line-starts = D.starts ∙ B.3

  pub line-owners : lined.owners ≡ s.owners ++ (n ∷ [])
  line-owners = D.owners ∙ B.4

  line-points : all_points lined.points ≡ all_points s.points ++ l
  line-points = D.points ∙ ap (λ (x : List Float). all_points x ++ l) B.2

  pub line-count : point_count lined ≡ point_count s + length l
  line-count =
      sym (length-view 3 point_of (places lined.points) lined.points) ∙ ap length line-points ∙ length-append (all_points s.points) l ∙ ap (λ (k : ℕ). k + length l) (length-view 3 point_of (places s.points) s.points)

  line_at : (i : ℕ) → lines_at lined i ≡ lines_at s i ++ cond (eqb n i) (l ∷ []) []
  line_at i =
      let c : length (all_points s.points) ≡ point_count s = length-view 3 point_of (places s.points) s.points in
      let p : paths_of (all_points s.points ++ l) (s.starts ++ (point_count s ∷ [])) ≡ paths_of (all_points s.points) s.starts ++ (l ∷ [])
      = subst (λ (k : ℕ). paths_of (all_points s.points ++ l) (s.starts ++ (k ∷ [])) ≡ paths_of (all_points s.points) s.starts ++ (l ∷ [])) c
      (paths-more (all_points s.points) l s.starts (subst (λ (k : ℕ). Low k s.starts) (sym c) S.low)) in
      rw (line-points, line-starts, line-owners, p) (own-more i n l (paths_of (all_points s.points) s.starts) s.owners (S.owners ∙ sym (paths-length (all_points s.points) s.starts)))

  pub line-sane : Sane lined
  line-sane = record {
    marks = rw line-marks S.marks;
    numbers = rw (line-numbers, line-marks) S.numbers;
    points = D.long;
    owners = rw (line-owners, line-starts) (length-append s.owners (n ∷ []) ∙ rw S.owners (sym (length-append s.starts (point_count s ∷ []))));
    low = rw (line-starts, line-count) (low-more (point_count s) (point_count s + length l) s.starts (omega arith) S.low);
    owned = rw (line-owners, line-marks) (under-snoc (entries_of s) n s.owners own S.owned);
    parts = rw line-marks S.parts;
  }

-- ---- all lines of an entry
pub record Lines (n : ℕ) (ls : List (List Vector)) (s : Scene) : Type 0 where
  pub marks : (with_lines n ls s).marks ≡ s.marks
  pub numbers : (with_lines n ls s).numbers ≡ s.numbers
  pub at : (i : ℕ) → lines_at (with_lines n ls s) i ≡ lines_at s i ++ cond (eqb n i) ls []
  pub sane : Sane (with_lines n ls s)

cond-append : (t : Bool) (x y : List (List Vector)) → cond t x [] ++ cond t y [] ≡ cond t (x ++ y) []
cond-append true x y = refl
cond-append false x y = refl

cond-none : (t : Bool) (x : List (List Vector)) → x ≡ x ++ cond t [] []
cond-none true x = sym (append-nil x)
cond-none false x = sym (append-nil x)

lines : (n : ℕ) (ls : List (List Vector)) (s : Scene) → Sane s → n < entries_of s → Lines n ls s
unfolding with_lines
lines n [] s S o = record { marks = refl; numbers = refl; at = λ i. cond-none (eqb n i) (lines_at s i); sane = S }
lines n (l ∷ ls) s S o =
    let r = lines n ls (lined n l s S o) (line-sane n l s S o) (rw (line-marks n l s S o) o) in
    record {
      marks = r.marks ∙ line-marks n l s S o;
      numbers = r.numbers ∙ line-numbers n l s S o;
      at = λ i. r.at i ∙ ap (λ (x : List (List Vector)). x ++ cond (eqb n i) ls []) (line_at n l s S o i) ∙ append_assoc (lines_at s i) (cond (eqb n i) (l ∷ []) []) (cond (eqb n i) ls []) ∙ ap (λ (x : List (List Vector)). lines_at s i ++ x) (cond-append (eqb n i) (l ∷ []) ls);
      sane = r.sane;
    }

-- ---- a form
cond-le : (t : Bool) (x y : ℕ) → x ≤ 16 → y ≤ 16 → cond t x y ≤ 16
cond-le true x y g h = g
cond-le false x y g h = h

pub measures-le : (k : ℕ) → measures k ≤ 16
unfolding measures closed_measures
measures-le k =
    cond-le (eqb k 1) 4 _ (omega arith) (cond-le (eqb k 2) 3 _ (omega arith) (cond-le (eqb k 3) 2 _ (omega arith) (cond-le (eqb k 4) 6 _ (omega arith) (cond-le (eqb k 5) 9 _ (omega arith) (cond-le (eqb k 6) 16 _ (omega arith)
    (cond-le (eqb k 8) 3 _ (omega arith) (cond-le (eqb k 9) 2 0 (omega arith) (omega arith))))))))

padded-length : (xs : List Float) → length xs ≤ 16 → length (padded zero_f 16 xs) ≡ 16
unfolding padded
padded-length xs l = length-append xs (replicate (16 - length xs) zero_f) ∙ rw (length-replicate (16 - length xs) zero_f) (omega (arith, l))

row_of : (xs : List Float) → length xs ≤ 16 → numbers_row (numbers_of (padded zero_f 16 xs)) ≡ padded zero_f 16 xs
row_of xs l = numbers-back (padded zero_f 16 xs) (padded-length xs l)

taken : (n : ℕ) (xs : List Float) → length xs ≡ n → take n (padded zero_f 16 xs) ≡ xs
unfolding padded
taken n xs e = rw (← e) (take-append_seam xs (replicate (16 - length xs) zero_f))

none_owned : (n : ℕ) (ps : List (List Vector)) (os : List ℕ) → Under n os → own_paths n ps os ≡ []
unfolding own_paths
none_owned n [] os h = refl
none_owned n (p ∷ ps) [] h = refl
none_owned n (p ∷ ps) (o ∷ os) h = rw (ne_eqb o n (λ e. omega (arith, e, h.0))) (none_owned n ps os h.1)

-- what is so after a form is added
pub record Back (f : Form) (d : ℕ) (s : Scene) : Type 0 where
  pub extends : Extends s (added f s)
  pub sane : Sane (added f s)
  pub count : entries_of (added f s) ≡ entries_of s + form_entries f
  pub is : form_at d (added f s) (last (added f s)) ≡ f

pub last-is : (s : Scene) (n : ℕ) → entries_of s ≡ n + 1 → last s ≡ n
last-is s n e = rw e (omega arith)

entered-lines : (h : Head) (p q : ℕ) (s : Scene) (i : ℕ) → lines_at (entered h p q s) i ≡ lines_at s i
unfolding entered
entered-lines h p q s i = refl

-- a count that its kind uses, or 0
count_kept : (k n p q : ℕ) → (striped k ≡ false → n ≡ 0) → stripe_count (record { kind = k; detail = n; first = p; second = q }) ≡ n
unfolding stripe_count
count_kept k n p q z = by (striped k) z
  where
    by : (t : Bool) → (t ≡ false → n ≡ 0) → cond t n 0 ≡ n
    by true z = refl
    by false z = sym (z refl)

module _ (n : ℕ) (xs r : List Float) (sub : ℕ → Form) (is : r ≡ padded zero_f 16 xs) where
  cube-form : length xs ≡ 6 → form_of (record { kind = 4; detail = n; first = 0; second = 0 }) r [] sub ≡ cube_form n xs
  unfolding form_of is_round
  cube-form e = ap (λ (l : List Float). cube_form n (take 6 l)) is ∙ ap (cube_form n) (taken 6 xs e)

  triangle-form : length xs ≡ 9 → form_of (record { kind = 5; detail = n; first = 0; second = 0 }) r [] sub ≡ triangle_form xs
  unfolding form_of is_round
  triangle-form e = ap (λ (l : List Float). triangle_form (take 9 l)) is ∙ ap triangle_form (taken 9 xs e)

  placed-form : (p : ℕ) → length xs ≡ 16 → form_of (record { kind = 6; detail = 0; first = p; second = 0 }) r [] sub ≡ placed_form xs (sub p)
  unfolding form_of is_round
  placed-form p e = ap (λ (l : List Float). placed_form (take 16 l) (sub p)) is ∙ ap (λ (l : List Float). placed_form l (sub p)) (taken 16 xs e)

  round-form : (k : ℕ) → is_round k ≡ true → (striped k ≡ false → n ≡ 0) → length xs ≡ measures k → (ls : List (List Vector))
      → form_of (record { kind = k; detail = n; first = 0; second = 0 }) r ls sub ≡ round_form k n xs ls
  unfolding form_of
  round-form k b z e ls = rw (b, count_kept k n 0 0 z) (ap (λ (l : List Float). round_form k n (take (measures k) l) ls) is ∙ ap (λ (l : List Float). round_form k n l ls) (taken (measures k) xs e))

cut-form : (o p q : ℕ) (r : List Float) (sub : ℕ → Form) → form_of (record { kind = 7; detail = o; first = p; second = q }) r [] sub ≡ cut_form o (sub p) (sub q)
unfolding form_of is_round
cut-form o p q r sub = refl

module _ (h : Head) (p q d : ℕ) (s : Scene) (S : Sane s) where
  -- the form at the entry that was added last
  form-new : form_at (suc d) (entered h p q s) (last (entered h p q s)) ≡ form_of (record { kind = h.kind; detail = h.detail; first = p; second = q }) (numbers_row h.row) [] (form_at d (entered h p q s))
  unfolding form_at
  form-new =
      let e = last-is (entered h p q s) (entries_of s) (entered-count h p q s S) in
      let o : lines_at (entered h p q s) (entries_of s) ≡ [] = entered-lines h p q s (entries_of s) ∙ none_owned (entries_of s) (paths_of (all_points s.points) s.starts) s.owners S.owned in
      rw (e, new-marks h p q s S, new-numbers h p q s S, o)

pub larger-left : (x y : ℕ) → (x ≤ larger x y) × (y ≤ larger x y)
unfolding larger
larger-left x y = by (le-or-lt y x)
  where
    by : (y ≤ x) ⊎ (x < y) → (x ≤ cond (ltb x y) y x) × (y ≤ cond (ltb x y) y x)
    by (inl l) = rw (le-ltb x y l) (omega arith, l)
    by (inr l) = rw (lt-ltb x y l) (omega (arith, l), omega arith)

pub some-entries : (f : Form) → Writable f → 1 ≤ form_entries f
unfolding form_entries Writable
some-entries (round_form k n xs ls) g = omega arith
some-entries (cube_form n xs) g = omega arith
some-entries (triangle_form xs) g = omega arith
some-entries (placed_form xs f) g = omega arith
some-entries (cut_form o f h) g = omega arith
some-entries no_form g = absurd g

form-from : (d : ℕ) (s : Scene) (i : ℕ) {m : Marks} {r : List Float} {ls : List (List Vector)} → marks_at s.marks i ≡ m → row 16 i s.numbers ≡ r → lines_at s i ≡ ls → form_at (suc d) s i ≡ form_of m r ls (form_at d s)
unfolding form_at
form-from d s i p q w = rw (p, q, w)

-- the form at an entry whose lines were added after it
module _ (k n : ℕ) (xs : List Float) (ls : List (List Vector)) (d : ℕ) (s : Scene) (S : Sane s) (e : length xs ≡ measures k) (b : is_round k ≡ true) (z : striped k ≡ false → n ≡ 0) where
  abbrev E : Scene
  E = entered (head_of k n xs) 0 0 s

  pub SE : Sane E
  SE = entered-sane (head_of k n xs) 0 0 s S refl (omega arith) (omega arith)

  pub EE : Extends s E
  EE = entered-extends (head_of k n xs) 0 0 s S

  pub CE : entries_of E ≡ entries_of s + 1
  CE = entered-count (head_of k n xs) 0 0 s S

  pub L : Lines (entries_of s) ls E
  L = lines (entries_of s) ls E SE (omega (arith, CE))

  abbrev R : Scene
  R = with_lines (entries_of s) ls E

  pub round-count : entries_of R ≡ entries_of s + 1
  round-count = ap (λ (ms : List ℕ). length ms / 4) L.marks ∙ CE

  pub round-extends : Extends s R
  round-extends = record {
    more = omega (arith, round-count);
    marks = λ i l. ap (λ (ms : List ℕ). marks_at ms i) L.marks ∙ EE.marks i l;
    numbers = λ i l. ap (λ (ns : List Float). row 16 i ns) L.numbers ∙ EE.numbers i l;
    lines = λ i l. L.at i ∙ ap (λ (t : Bool). lines_at E i ++ cond t ls []) (ne_eqb (entries_of s) i (λ q. omega (arith, q, l))) ∙ append-nil (lines_at E i) ∙ EE.lines i l;
  }

  round_is : form_at (suc d) R (last R) ≡ round_form k n xs ls
  round_is =
      let p = last-is R (entries_of s) round-count in
      let o : lines_at E (entries_of s) ≡ [] = entered-lines (head_of k n xs) 0 0 s (entries_of s) ∙ none_owned (entries_of s) (paths_of (all_points s.points) s.starts) s.owners S.owned in
      let w : lines_at R (entries_of s) ≡ ls = L.at (entries_of s) ∙ ap₂ (λ (x : List (List Vector)) (t : Bool). x ++ cond t ls []) o (eq-eqb (entries_of s) (entries_of s) refl) in
      ap (form_at (suc d) R) p
      ∙ form-from d R (entries_of s) (ap (λ (ms : List ℕ). marks_at ms (entries_of s)) L.marks ∙ new-marks (head_of k n xs) 0 0 s S) (ap (λ (ns : List Float). row 16 (entries_of s) ns) L.numbers ∙ new-numbers (head_of k n xs) 0 0 s S) w
      ∙ round-form n xs (numbers_row (numbers_of (padded zero_f 16 xs))) (form_at d R) (row_of xs (omega (arith, e, measures-le k))) k b z e ls

pub back : (f : Form) (d : ℕ) (s : Scene) → Sane s → Writable f → deep_of f ≤ d → Back f d s
unfolding added Writable form_entries deep_of
back (round_form k n xs ls) zero s S g l = absurd (omega (arith, l))
back (round_form k n xs ls) (suc d) s S g l = record {
  extends = round-extends k n xs ls d s S g.3 g.0 g.2;
  sane = (L k n xs ls d s S g.3 g.0 g.2).sane;
  count = round-count k n xs ls d s S g.3 g.0 g.2;
  is = round_is k n xs ls d s S g.3 g.0 g.2;
}
back (cube_form n xs) zero s S g l = absurd (omega (arith, l))
back (cube_form n xs) (suc d) s S g l =
    let h = head_of 4 n xs in
    record {
      extends = entered-extends h 0 0 s S;
      sane = entered-sane h 0 0 s S refl (omega arith) (omega arith);
      count = entered-count h 0 0 s S;
      is = form-new h 0 0 d s S ∙ cube-form n xs (numbers_row h.row) (form_at d (entered h 0 0 s)) (row_of xs (omega (arith, g.1))) g.1;
    }
back (triangle_form xs) zero s S g l = absurd (omega (arith, l))
back (triangle_form xs) (suc d) s S g l =
    let h = head_of 5 0 xs in
    record {
      extends = entered-extends h 0 0 s S;
      sane = entered-sane h 0 0 s S refl (omega arith) (omega arith);
      count = entered-count h 0 0 s S;
      is = form-new h 0 0 d s S ∙ triangle-form 0 xs (numbers_row h.row) (form_at d (entered h 0 0 s)) (row_of xs (omega (arith, g.0))) g.0;
    }
back (placed_form xs f) zero s S g l = absurd (omega (arith, l))
back (placed_form xs f) (suc d) s S g l =
    let h = head_of 6 0 xs in
    let a = added f s in
    let b = back f d s S g.2 (omega (arith, l)) in
    let m : 1 ≤ entries_of a = omega (arith, b.count, some-entries f g.2) in
    let x = entered-extends h (last a) 0 a b.sane in
    record {
      extends = extends-trans s a (entered h (last a) 0 a) b.extends x;
      sane = entered-sane h (last a) 0 a b.sane refl (omega arith) (omega arith);
      count = entered-count h (last a) 0 a b.sane ∙ rw b.count (omega arith);
      is = form-new h (last a) 0 d a b.sane ∙ placed-form 0 xs (numbers_row h.row) (form_at d (entered h (last a) 0 a)) (row_of xs (omega (arith, g.0))) (last a) g.0 ∙ ap (placed_form xs) (form-kept d a (entered h (last a) 0 a) b.sane x (last a) (omega (arith, m)) ∙ b.is);
    }
back (cut_form o f j) zero s S g l = absurd (omega (arith, l))
back (cut_form o f j) (suc d) s S g l =
    let h = head_of 7 o [] in
    let a = added f s in
    let c = added j a in
    let w = larger-left (deep_of f) (deep_of j) in
    let b = back f d s S g.1 (omega (arith, l, w.0)) in
    let r = back j d a b.sane g.2 (omega (arith, l, w.1)) in
    let m : 1 ≤ entries_of a = omega (arith, b.count, some-entries f g.1) in
    let n : 1 ≤ entries_of c = omega (arith, r.count, some-entries j g.2) in
    let u : entries_of a ≤ entries_of c = r.extends.more in
    let x = entered-extends h (last a) (last c) c r.sane in
    record {
      extends = extends-trans s a (entered h (last a) (last c) c) b.extends (extends-trans a c (entered h (last a) (last c) c) r.extends x);
      sane = entered-sane h (last a) (last c) c r.sane refl (omega (arith, u)) (omega arith);
      count = entered-count h (last a) (last c) c r.sane ∙ rw (r.count, b.count) (omega arith);
      is = form-new h (last a) (last c) d c r.sane ∙ cut-form o (last a) (last c) (numbers_row h.row) (form_at d (entered h (last a) (last c) c))
          ∙ ap₂ (cut_form o)
          (form-kept d c (entered h (last a) (last c) c) r.sane x (last a) (omega (arith, m, u)) ∙ form-kept d a c b.sane r.extends (last a) (omega (arith, m)) ∙ b.is)
          (form-kept d c (entered h (last a) (last c) c) r.sane x (last c) (omega (arith, n)) ∙ r.is);
    }
back no_form d s S g l = absurd g
