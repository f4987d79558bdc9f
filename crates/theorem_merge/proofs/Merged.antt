-- The merged scene is accepted, holds the solids of both scenes, and covers and hides what either does: the proofs. Assumes nothing.
use Prim.Native.Nat.{ℕ, ◌+◌, ◌*◌, ◌/◌, ◌≤◌, ◌<◌}
use mathlib.Core.Path.{◌≡◌, refl, sym, ap, ap₂, subst, ◌∙◌}
use mathlib.Core.Logic.{◌⊎◌, inl, inr}
use mathlib.Core.Bool.{Bool, true, ◌&&◌, and-eq-true_iff}
use mathlib.Core.List.{List, [], ◌∷◌, ◌++◌, map}
use native.Mathlib.Omega.{arith}
use borrow.Author.Tests.{eqb-true, le-leb, eq-eqb}
use lib.ListN.{length, length-append, length-map}
use lib.Dec.{leb, eqb}
use lib.Ieee.{Float}
use Rattle.geometry.specs.declared.vector.Vector.{Vector}
use Rattle.rows.specs.Rows.{row}
use Rattle.rows.specs.Entries.{numbers_of}
use Rattle.rows.specs.Starts.{good_starts}
use Rattle.rows.specs.declared.Marks.{Marks}
use Rattle.rows.specs.declared.Numbers.{Numbers}
use Rattle.limits.specs.Limits.{within_box}
use Rattle.lists.specs.Lists.{Member, Each, all_of}
use Rattle.lists.proofs.Members.{append-member}
use Rattle.scene.specs.Entries.{striped, stripe_count, marks_at, numbers_at}
use Rattle.scene.specs.Scenes.{Scene, scene_of, entries, entries_of}
use Rattle.scene_shape.specs.Shapes.{Shape, shape_box, solid_of}
use Rattle.check_measures.specs.Values.{known, few_stripes}
use Rattle.check_measures.specs.Measures.{measured}
use Rattle.check_parts.specs.Parts.{parts_ok, named_before}
use Rattle.check_parts.specs.Drawn.{unnamed, drawn}
use Rattle.check_scene.specs.Placings.{placing_ok}
use Rattle.check_scene.specs.Extents.{own_box}
use Rattle.check_scene.specs.Checks.{lengths_agree, values_ok, stripes_ok, names_ok, lines_owned, starts_ok, measures_ok, placings_ok, extents_ok, check_of}
use Rattle.check_scene.proofs.Verdicts.{is-accepted, accepted-same}
use Rattle.check_scene.proofs.Accepted.{accepted-numbers}
use Rattle.check_sound.specs.Passing.{Passing}
use Rattle.check_sound.proofs.Passing.{accepted-passes}
use Rattle.theorem_solids.specs.Same.{SameSolid}
use Rattle.theorem_solids.proofs.Same.{same_solid}
use Rattle.query_scene.proofs.Plants.{each-unnamed}
use Rattle.scene_merge.specs.MergedScenes.{raised, raised_marks, raised_by, points_given, points_of, merged_scene}
use Rattle.scene_merge.proofs.Raising.{marks-length}
use Rattle.query_merge.proofs.Answers.{marks-four, merged-entries}
use Rattle.theorem_demand3.proofs.Demand3.{covered-hidden}
use Rattle.theorem_merge.specs.Merged.{BothAccepted, MergedAccepted, MergedDrawn, SameThere, MergedSame, CoveredIn, MergedCovers, MergedHides}
use Rattle.theorem_merge.proofs.Names.{Appended, merged-ok, merged-drawn}
use Rattle.theorem_merge.proofs.Solids.{merged-first, merged-second}
use Rattle.theorem_merge.proofs.Lists.{row_first, row-second, all_both, appended}
use Rattle.theorem_merge.proofs.Lines.{merged-owners, merged-starts}
use Rattle.std.specs.Prelude.{Ok}

-- ---- a scene that passes each test is accepted, with its drawn entries
passing-accepted : (s : Scene) → Passing s → check_of s ≡ Ok (length (drawn s.marks))
passing-accepted s P =
    sym (is-accepted s refl P.lengths refl P.values refl P.stripes refl P.names refl P.owners refl P.starts refl P.measures refl P.placings refl P.extents refl)

-- ---- points come in threes, and only with starts
three : (s : Scene) → lengths_agree s ≡ true → length s.points / 3 * 3 ≡ length s.points
unfolding lengths_agree
three s h =
    let a = ((and-eq-true_iff (leb (entries_of s) 1024) _).0 h).1 in
    let b = ((and-eq-true_iff (eqb (entries_of s * 4) (length s.marks)) _).0 a).1 in
    let c = ((and-eq-true_iff (eqb (entries_of s * 16) (length s.numbers)) _).0 b).1 in
    eqb-true (length s.points / 3 * 3) (length s.points) ((and-eq-true_iff (eqb (length s.starts) (length s.owners)) _).0 c).1

as_many : (s : Scene) → lengths_agree s ≡ true → length s.starts ≡ length s.owners
unfolding lengths_agree
as_many s h =
    let a = ((and-eq-true_iff (leb (entries_of s) 1024) _).0 h).1 in
    let b = ((and-eq-true_iff (eqb (entries_of s * 4) (length s.marks)) _).0 a).1 in
    let c = ((and-eq-true_iff (eqb (entries_of s * 16) (length s.numbers)) _).0 b).1 in
    eqb-true (length s.starts) (length s.owners) ((and-eq-true_iff (eqb (length s.starts) (length s.owners)) _).0 c).0

given-three : (points : List Float) (starts : List ℕ) → length points / 3 * 3 ≡ length points → length (points_given points starts) / 3 * 3 ≡ length (points_given points starts)
unfolding points_given
given-three points [] h = refl
given-three points (s ∷ starts) h = h

given_nothing : (points : List Float) (starts : List ℕ) → length starts ≡ 0 → length (points_given points starts) / 3 ≡ 0
unfolding points_given
given_nothing points [] h = refl
given_nothing points (s ∷ starts) h = absurd (omega arith)

given-good : (points : List Float) (starts : List ℕ) → good_starts (length points / 3) starts ≡ true → good_starts (length (points_given points starts) / 3) starts ≡ true
unfolding points_given good_starts
given-good points [] h = refl
given-good points (s ∷ starts) h = h

-- ---- members of lists
member-map : (f : ℕ → ℕ) (l : List ℕ) (i : ℕ) → Member i l → Member (f i) (map f l)
member-map f [] i h = absurd h
member-map f (x ∷ l) i (inl e) = inl (ap f e)
member-map f (x ∷ l) i (inr h) = inr (member-map f l i h)

each_member : (P : ℕ → Type 0) (l : List ℕ) (i : ℕ) → Each P l → Member i l → P i
unfolding Each
each_member P [] i e h = absurd h
each_member P (x ∷ l) i e (inl q) = subst P q e.0
each_member P (x ∷ l) i e (inr h) = each_member P l i e.1 h

drawn-low : (ms : List ℕ) (i : ℕ) → Member i (drawn ms) → i < entries ms
drawn-low ms i h = each_member (λ k. k < entries ms) (drawn ms) i (each-unnamed (λ k. k < entries ms) (named_before ms (entries ms)) (entries ms) (λ k l. l)) h

-- ---- what raising leaves as it is
known-raised : (n : ℕ) (m : Marks) → known (raised n m) ≡ known m
unfolding known raised
known-raised n m = refl

stripes-raised : (n : ℕ) (m : Marks) → few_stripes (raised n m) ≡ few_stripes m
unfolding few_stripes stripe_count raised
stripes-raised n m = refl

measured-raised : (n : ℕ) (m : Marks) (x : Numbers) → measured (raised n m) x ≡ measured m x
unfolding measured raised
measured-raised n m x = refl

placing-raised : (n : ℕ) (m : Marks) (x : Numbers) → placing_ok (raised n m) x ≡ placing_ok m x
unfolding placing_ok raised
placing-raised n m x = refl

module _ (s u : Scene) (B : BothAccepted s u) where
  P : Passing s
  P = accepted-passes s B.first B.first_accepted

  Q : Passing u
  Q = accepted-passes u B.second B.second_accepted

  four : entries_of s * 4 ≡ length s.marks
  four = marks-four s B.first B.first_accepted

  four' : entries_of u * 4 ≡ length u.marks
  four' = marks-four u B.second B.second_accepted

  sixteen : entries_of s * 16 ≡ length s.numbers
  sixteen = accepted-numbers s B.first B.first_accepted

  sixteen' : entries_of u * 16 ≡ length u.numbers
  sixteen' = accepted-numbers u B.second B.second_accepted

  abbrev marks' : List ℕ
  marks' = s.marks ++ raised_marks (entries_of s) u.marks

  abbrev numbers' : List Float
  numbers' = s.numbers ++ u.numbers

  many : entries marks' ≡ entries_of s + entries_of u
  unfolding merged_scene
  many = merged-entries s u four four'

  W : Appended s.marks (entries_of s) u.marks (entries_of u) marks'
  W = appended s.marks u.marks four

  row-s : (i : ℕ) → i < entries_of s → row 16 i numbers' ≡ row 16 i s.numbers
  row-s i h = row_first 16 s.numbers u.numbers i (omega (arith, sixteen))

  row-u : (j : ℕ) → j < entries_of u → row 16 (entries_of s + j) numbers' ≡ row 16 j u.numbers
  row-u j h = row-second 16 s.numbers u.numbers (entries_of s) j sixteen

  -- ---- the same solids
  same_s : (i : ℕ) → i < entries_of s → SameSolid s.numbers s.marks numbers' marks' i i
  same_s i h = merged-first s.marks u.marks marks' W many s.numbers u.numbers numbers' P.names Q.names row-s row-u i h

  same-u : (j : ℕ) → j < entries_of u → SameSolid u.numbers u.marks numbers' marks' j (entries_of s + j)
  same-u j h = merged-second s.marks u.marks marks' W many s.numbers u.numbers numbers' P.names Q.names row-s row-u j h

  long : entries marks' * 16 ≤ length numbers'
  long = omega (arith, many, sixteen, sixteen', length-append s.numbers u.numbers)

  solid-s : (i : ℕ) → i < entries_of s → solid_of s.numbers s.marks i ≡ solid_of numbers' marks' i
  solid-s i h = same_solid s.numbers s.marks numbers' marks' (omega (arith, sixteen)) long i i (same_s i h)

  solid-u : (j : ℕ) → j < entries_of u → solid_of u.numbers u.marks j ≡ solid_of numbers' marks' (entries_of s + j)
  solid-u j h = same_solid u.numbers u.marks numbers' marks' (omega (arith, sixteen')) long j (entries_of s + j) (same-u j h)

  -- ---- a test of each entry, by its marks and its numbers
  module _ (test : Marks → Numbers → Bool) (stays : (n : ℕ) (m : Marks) (x : Numbers) → test (raised n m) x ≡ test m x) where
    each-passes : all_of (λ i. test (marks_at s.marks i) (numbers_at s.numbers i)) (entries_of s) ≡ true → all_of (λ j. test (marks_at u.marks j) (numbers_at u.numbers j)) (entries_of u) ≡ true
        → all_of (λ i. test (marks_at marks' i) (numbers_at numbers' i)) (entries marks') ≡ true
    each-passes h g =
        rw many
        (all_both (λ i. test (marks_at marks' i) (numbers_at numbers' i)) (λ i. test (marks_at s.marks i) (numbers_at s.numbers i)) (λ j. test (marks_at u.marks j) (numbers_at u.numbers j)) (entries_of s) (entries_of u)
        (λ i l. ap₂ (λ (m : Marks) (r : List Float). test m (numbers_of r)) (W.first i l) (row-s i l))
        (λ j l. ap₂ (λ (m : Marks) (r : List Float). test m (numbers_of r)) (W.second j l) (row-u j l) ∙ stays (entries_of s) (marks_at u.marks j) (numbers_at u.numbers j))
        h g)

  -- ---- the tests, in their order
  lengths-pass : lengths_agree (merged_scene s u) ≡ true
  unfolding lengths_agree merged_scene
  lengths-pass =
      let ms = length-append s.marks (raised_marks (entries_of s) u.marks) in
      let us = marks-length (entries_of s) u.marks in
      let ps = length-append (points_of s) (points_of u) in
      let st : length (s.starts ++ raised_by (length (points_of s) / 3) u.starts) ≡ length s.starts + length u.starts = length-append s.starts _ ∙ ap (λ (n : ℕ). length s.starts + n) (length-map u.starts _) in
      let ow : length (s.owners ++ raised_by (entries_of s) u.owners) ≡ length s.owners + length u.owners = length-append s.owners _ ∙ ap (λ (n : ℕ). length s.owners + n) (length-map u.owners _) in
      ap₂ ◌&&◌ (le-leb (entries marks') 1024 (omega (arith, many, B.few)))
      (ap₂ ◌&&◌ (eq-eqb (entries marks' * 4) (length marks') (omega (arith, many, four, four', ms, us)))
      (ap₂ ◌&&◌ (eq-eqb (entries marks' * 16) (length numbers') (omega (arith, many, sixteen, sixteen', length-append s.numbers u.numbers)))
      (ap₂ ◌&&◌ (eq-eqb _ _ (st ∙ ap₂ ◌+◌ (as_many s P.lengths) (as_many u Q.lengths) ∙ sym ow))
      (eq-eqb (length (points_of s ++ points_of u) / 3 * 3) (length (points_of s ++ points_of u)) (omega (arith, ps, given-three s.points s.starts (three s P.lengths), given-three u.points u.starts (three u Q.lengths)))))))

  starts-pass : starts_ok (merged_scene s u) ≡ true
  unfolding merged_scene
  starts-pass =
      let p = length (points_of s) / 3 in
      let q = length (points_of u) / 3 in
      let e : length (points_of s ++ points_of u) / 3 ≡ p + q
      = omega (arith, length-append (points_of s) (points_of u), given-three s.points s.starts (three s P.lengths), given-three u.points u.starts (three u Q.lengths)) in
      rw e (merged-starts p q s.starts u.starts (given_nothing s.points s.starts) (given-good s.points s.starts P.starts) (given-good u.points u.starts Q.starts))

  extents-pass : extents_ok (merged_scene s u) ≡ true
  unfolding merged_scene
  extents-pass =
      rw many
      (all_both (λ i. within_box (own_box numbers' marks' i)) (λ i. within_box (own_box s.numbers s.marks i)) (λ j. within_box (own_box u.numbers u.marks j)) (entries_of s) (entries_of u)
      (λ i l. ap (λ (x : Shape). within_box (shape_box x)) (sym (solid-s i l)))
      (λ j l. ap (λ (x : Shape). within_box (shape_box x)) (sym (solid-u j l)))
      P.extents Q.extents)

  merged-passes : Passing (merged_scene s u)
  unfolding merged_scene
  merged-passes = record {
    lengths = lengths-pass;
    values = each-passes (λ m x. known m) (λ n m x. known-raised n m) P.values Q.values;
    stripes = each-passes (λ m x. few_stripes m) (λ n m x. stripes-raised n m) P.stripes Q.stripes;
    names = rw many (merged-ok s.marks (entries_of s) u.marks (entries_of u) marks' W P.names Q.names);
    owners = merged-owners s.marks u.marks marks' W many s.owners u.owners P.owners Q.owners;
    starts = starts-pass;
    measures = each-passes measured measured-raised P.measures Q.measures;
    placings = each-passes placing_ok placing-raised P.placings Q.placings;
    extents = extents-pass;
  }

  -- ---- what is drawn
  drawn-both : drawn marks' ≡ drawn s.marks ++ map (λ (j : ℕ). entries_of s + j) (drawn u.marks)
  drawn-both =
      ap (λ (n : ℕ). unnamed (named_before marks' n) n) many
      ∙ merged-drawn s.marks (entries_of s) u.marks (entries_of u) marks' W P.names Q.names

  first-drawn : B.first ≡ length (drawn s.marks)
  first-drawn = accepted-same (sym B.first_accepted ∙ passing-accepted s P)

  second-drawn : B.second ≡ length (drawn u.marks)
  second-drawn = accepted-same (sym B.second_accepted ∙ passing-accepted u Q)

  drawn-many : length (drawn marks') ≡ B.first + B.second
  drawn-many =
      ap length drawn-both
      ∙ length-append (drawn s.marks) _
      ∙ ap₂ ◌+◌ (sym first-drawn) (length-map (drawn u.marks) _ ∙ sym second-drawn)

  both-accepted : check_of (merged_scene s u) ≡ Ok (B.first + B.second)
  unfolding merged_scene
  both-accepted = passing-accepted (merged_scene s u) merged-passes ∙ ap Ok drawn-many

  -- ---- a solid that either draws is drawn, and covers there what it covers
  drawn-s : (i : ℕ) → Member i (drawn s.marks) → Member i (drawn marks')
  drawn-s i h = subst (Member i) (sym drawn-both) (append-member i (drawn s.marks) (map (λ (j : ℕ). entries_of s + j) (drawn u.marks)) (inl h))

  drawn-u : (j : ℕ) → Member j (drawn u.marks) → Member (entries_of s + j) (drawn marks')
  drawn-u j h =
      subst (Member (entries_of s + j)) (sym drawn-both)
      (append-member (entries_of s + j) (drawn s.marks) (map (λ (j : ℕ). entries_of s + j) (drawn u.marks)) (inr (member-map (λ (j : ℕ). entries_of s + j) (drawn u.marks) j h)))

  covered-there : (eye point : Vector) → CoveredIn s eye point ⊎ CoveredIn u eye point → CoveredIn (merged_scene s u) eye point
  unfolding merged_scene
  covered-there eye point (inl c) = (c.0, (c.1.0, drawn-s c.1.0 c.1.1, sym (solid-s c.1.0 (drawn-low s.marks c.1.0 c.1.1)) ∙ c.1.2), c.2)
  covered-there eye point (inr c) = (c.0, (entries_of s + c.1.0, drawn-u c.1.0 c.1.1, sym (solid-u c.1.0 (drawn-low u.marks c.1.0 c.1.1)) ∙ c.1.2), c.2)

-- ---- the theorems
pub merged-accepted : MergedAccepted
merged-accepted s u B = both-accepted s u B

pub merged-drawn-both : MergedDrawn
unfolding merged_scene
merged-drawn-both s u B = drawn-both s u B

pub merged-same : MergedSame
unfolding merged_scene
merged-same s u B = record { of_first = same_s s u B; of_second = same-u s u B }

pub merged-covers : MergedCovers
merged-covers s u B eye point c = covered-there s u B eye point c

pub merged-hides : MergedHides
merged-hides s u B eye point c premise a sure answers =
    let k = covered-there s u B eye point c in
    covered-hidden k.0 eye point k.2 premise (merged_scene s u) k.1 a sure answers
