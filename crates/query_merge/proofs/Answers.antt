-- The answer of the call, and what its slices hold. Assumes nothing.
use Prim.Native.Nat.{ℕ, zero, suc, ◌+◌, ◌-◌, ◌*◌, ◌/◌, ◌^◌, ◌≤◌, ◌<◌}
use mathlib.Core.Path.{◌≡◌, refl, sym, ap, ap₂, subst, ◌∙◌}
use mathlib.Core.Bool.{Bool, true, false, ◌&&◌, cond, and-eq-true_iff}
use mathlib.Core.List.{List, [], ◌∷◌, ◌++◌}
use native.Mathlib.Omega.{arith}
use borrow.Author.Tests.{ltb-true, leb-true, leb-false, le-leb, lt-leb, eqb-true}
use lib.ListN.{length, get_or, take, length-append, length-map}
use lib.Seq.{take-length}
use lib.Dec.{ltb, leb, eqb}
use lib.Ieee.{Float}
use Rattle.floats.specs.Arith.{zero_f}
use Rattle.rows.specs.Rows.{padded}
use Rattle.rows.proofs.Starts.{good-parted}
use Rattle.refusals.specs.declared.Refusal.{Refusal}
use Rattle.refusals.specs.declared.Refusal.TheVariants.{Lengths, Room}
use Rattle.scene.specs.Scenes.{Scene, scene_of, entries, entries_of}
use Rattle.check_parts.specs.Parts.{kind_at}
use Rattle.check_parts.specs.Owners.{is_round, round_entry, owners_ok}
use Rattle.check_parts.proofs.Depths.{part-six, part-seven}
use Rattle.check_scene.specs.Checks.{lengths_agree, check_of}
use Rattle.check_sound.proofs.Passing.{accepted-passes}
use Rattle.query_merge.specs.declared.Sizes.{Sizes}
use Rattle.scene_merge.specs.MergedScenes.{raised_marks, raised_by, points_given, points_of, merged_scene, Raisable, AllRaisable}
use Rattle.query_merge.specs.Merging.{sizes_of, fits, merged_after, merged_within, merge_of, if_merged, padded_scene, Merges, given_sizes, both_sizes, merged_by, Mergeable}
use Rattle.scene_merge.proofs.Raising.{marks-length}
use Rattle.std.specs.Prelude.{Err, Ok, Result}

-- ---- what is counted
pub given-none : (points : List Float) (starts : List ℕ) → length starts ≡ 0 → 0 ≡ length (points_given points starts)
unfolding points_given
given-none points [] h = refl
given-none points (s ∷ starts) h = absurd (omega arith)

pub given-some : (points : List Float) (starts : List ℕ) → (length starts ≡ 0 → ⊥) → length points ≡ length (points_given points starts)
unfolding points_given
given-some points [] h = absurd (h refl)
given-some points (s ∷ starts) h = refl

pub both-none : (room a b : ℕ) → room < a → false ≡ leb (a + b) room
both-none room a b h = sym (lt-leb (a + b) room (omega arith))

pub both_is : (room a b : ℕ) → a ≤ room → leb b (room - a) ≡ leb (a + b) room
both_is room a b h = go (leb b (room - a)) refl
  where
    go : (t : Bool) → leb b (room - a) ≡ t → t ≡ leb (a + b) room
    go true e = sym (le-leb (a + b) room (omega (arith, leb-true b (room - a) e)))
    go false e = sym (lt-leb (a + b) room (omega (arith, leb-false b (room - a) e)))

-- what fits, slice by slice
pub record FitsEach (a room : Sizes) : Type 0 where
  pub numbers-in : a.numbers ≤ room.numbers
  pub marks-in : a.marks ≤ room.marks
  pub points-in : a.points ≤ room.points
  pub starts-in : a.starts ≤ room.starts
  pub owners-in : a.owners ≤ room.owners

pub fits_each : (a room : Sizes) → fits a room ≡ true → FitsEach a room
unfolding fits
fits_each a room e =
    let n = (and-eq-true_iff (leb a.numbers room.numbers) _).0 e in
    let m = (and-eq-true_iff (leb a.marks room.marks) _).0 n.1 in
    let p = (and-eq-true_iff (leb a.points room.points) _).0 m.1 in
    let s = (and-eq-true_iff (leb a.starts room.starts) (leb a.owners room.owners)).0 p.1 in
    record {
      numbers-in = leb-true a.numbers room.numbers n.0;
      marks-in = leb-true a.marks room.marks m.0;
      points-in = leb-true a.points room.points p.0;
      starts-in = leb-true a.starts room.starts s.0;
      owners-in = leb-true a.owners room.owners s.1;
    }

module _ (a b room : Sizes) where
  pub judge-many : 1024 < a.marks / 4 + b.marks / 4 → Err Lengths ≡ merged_by a b room
  unfolding merged_by
  judge-many h = rw (lt-leb (a.marks / 4 + b.marks / 4) 1024 h)

  module _ (few : a.marks / 4 + b.marks / 4 ≤ 1024) {t : Bool} (is : t ≡ fits (both_sizes a b) room) where
    pub judge-short : t ≡ false → Err Room ≡ merged_by a b room
    unfolding merged_by
    judge-short e = rw (le-leb (a.marks / 4 + b.marks / 4) 1024 few, ← is, e)

    pub judge-fits : t ≡ true → Ok (a.marks / 4 + b.marks / 4, (a.points + b.points) / 3, a.starts + b.starts) ≡ merged_by a b room
    unfolding merged_by
    judge-fits e = rw (le-leb (a.marks / 4 + b.marks / 4) 1024 few, ← is, e)

    pub judge-room : t ≡ true → FitsEach (both_sizes a b) room
    judge-room e = fits_each (both_sizes a b) room (sym is ∙ e)

-- ---- owners are entries
owners-below : (marks os : List ℕ) (j : ℕ) → owners_ok marks os ≡ true → j < length os → get_or os j 0 < entries marks
unfolding owners_ok round_entry
owners-below marks [] j e h = absurd (omega arith)
owners-below marks (o ∷ os) zero e h = ltb-true o (entries marks) ((and-eq-true_iff (ltb o (entries marks)) (is_round (kind_at marks o))).0 ((and-eq-true_iff (ltb o (entries marks) && is_round (kind_at marks o)) _).0 e).0).0
owners-below marks (o ∷ os) (suc j) e h =
    let a = (and-eq-true_iff (ltb o (entries marks) && is_round (kind_at marks o)) _).0 e in
    owners-below marks os j ((and-eq-true_iff (leb o (get_or os 0 o)) (owners_ok marks os)).0 a.1).1 (omega arith)

-- ---- an accepted scene: its lengths, its owners and its parts
module _ (s : Scene) (d : ℕ) (is : check_of s ≡ Ok d) where
  pub marks-four : entries_of s * 4 ≡ length s.marks
  unfolding lengths_agree
  marks-four =
      let u = ((and-eq-true_iff (leb (entries_of s) 1024) _).0 (accepted-passes s d is).lengths).1 in
      eqb-true (entries_of s * 4) (length s.marks) ((and-eq-true_iff (eqb (entries_of s * 4) (length s.marks)) _).0 u).0

  -- no start is beyond the points
  pub start-low : (j : ℕ) → j < length s.starts → get_or s.starts j 0 ≤ length s.points / 3
  start-low j h =
      let p = good-parted (length s.points / 3) s.starts (accepted-passes s d is).starts in
      omega (arith, p.ordered j h, p.within j h)

  pub owner-low : (j : ℕ) → j < length s.owners → get_or s.owners j 0 < entries_of s
  owner-low j h = owners-below s.marks s.owners j (accepted-passes s d is).owners h

  pub parts_low : (by : ℕ) → by + entries_of s ≤ 1024 → AllRaisable by s.marks
  parts_low by h = λ i l. record {
    placing = λ k. omega (arith, (part-six s.marks (entries_of s) (accepted-passes s d is).names i l k).0);
    cut_first = λ k. omega (arith, (part-seven s.marks (entries_of s) (accepted-passes s d is).names i l k).0.0);
    cut_second = λ k. omega (arith, (part-seven s.marks (entries_of s) (accepted-passes s d is).names i l k).1.0);
  }

-- ---- two accepted scenes: the sizes of the merged one
module _ (s u : Scene) (four : entries_of s * 4 ≡ length s.marks) (four' : entries_of u * 4 ≡ length u.marks) where
  pub merged-sizes : sizes_of (merged_scene s u) ≡ both_sizes (given_sizes s) (given_sizes u)
  unfolding sizes_of merged_scene both_sizes given_sizes
  merged-sizes =
      rw (length-append s.numbers u.numbers, length-append s.marks (raised_marks (entries_of s) u.marks), marks-length (entries_of s) u.marks, four', length-append (points_of s) (points_of u), length-append s.starts (raised_by (length (points_of s) / 3) u.starts), length-map u.starts (λ (i : ℕ). length (points_of s) / 3 + i), length-append s.owners (raised_by (entries_of s) u.owners), length-map u.owners (λ (i : ℕ). entries_of s + i))

  pub merged-entries : entries_of (merged_scene s u) ≡ entries_of s + entries_of u
  unfolding merged_scene
  merged-entries =
      let e : length (s.marks ++ raised_marks (entries_of s) u.marks) ≡ length s.marks + entries_of u * 4
      = length-append s.marks (raised_marks (entries_of s) u.marks) ∙ ap (λ (n : ℕ). length s.marks + n) (marks-length (entries_of s) u.marks) in
      omega (arith, e)

  pub judged-so : (room : Sizes) → merged_by (given_sizes s) (given_sizes u) room ≡ merged_within (merged_scene s u) room
  unfolding merged_by merged_within merged_scene sizes_of given_sizes both_sizes
  judged-so room =
      let es = merged-entries in
      let zs = merged-sizes in
      let ps : length (merged_scene s u).points ≡ (given_sizes s).points + (given_sizes u).points = ap (λ (z : Sizes). z.points) zs in
      let ss : length (merged_scene s u).starts ≡ (given_sizes s).starts + (given_sizes u).starts = ap (λ (z : Sizes). z.starts) zs in
      rw (es, zs, ps, ss)

-- ---- the verdicts in their order: what is judged of both counts only where both are accepted
after-alike : (v : Result ℕ Refusal) (x y : Result (ℕ × ℕ × ℕ) Refusal) → ((d : ℕ) → v ≡ Ok d → x ≡ y) → merged_after v x ≡ merged_after v y
unfolding merged_after
after-alike (Ok d) x y h = h d refl
after-alike (Err k) x y h = refl

pub judged-is : (s u : Scene) (room : Sizes) {v w : Result ℕ Refusal} → v ≡ check_of s → w ≡ check_of u → {a b : Sizes} → a ≡ given_sizes s → b ≡ given_sizes u
    → {j x r : Result (ℕ × ℕ × ℕ) Refusal} → j ≡ merged_by a b room → x ≡ merged_after w j → r ≡ merged_after v x → r ≡ merge_of s u room
unfolding merge_of
judged-is s u room ev ew ea eb ej ex er =
    er ∙ ap₂ merged_after ev (ex ∙ ap₂ merged_after ew (ej ∙ ap₂ (λ (c d : Sizes). merged_by c d room) ea eb))
    ∙ after-alike (check_of s) _ _ (λ d is. after-alike (check_of u) _ _ (λ e is'. judged-so s u (marks-four s d is) (marks-four u e is') room))

-- ---- where the scenes are merged, both are accepted, and the slices have places
not-into : {k : Refusal} {n p q : ℕ} → ◌≡◌ {A = Result (ℕ × ℕ × ℕ) Refusal} (Err k) (Ok (n, p, q)) → ⊥
not-into e = cc

after-into : (v : Result ℕ Refusal) (x : Result (ℕ × ℕ × ℕ) Refusal) {n p q : ℕ} → merged_after v x ≡ Ok (n, p, q) → ((d : ℕ) × (v ≡ Ok d)) × (x ≡ Ok (n, p, q))
unfolding merged_after
after-into (Ok d) x e = ((d, refl), e)
after-into (Err k) x e = absurd (not-into e)

into-so : (m : Scene) (room : Sizes) {n p q : ℕ} → merged_within m room ≡ Ok (n, p, q) → (entries_of m ≤ 1024) × FitsEach (sizes_of m) room
unfolding merged_within
into-so m room e = go (Ok (entries_of m, length m.points / 3, length m.starts)) (leb (entries_of m) 1024) refl (fits (sizes_of m) room) refl e
  where
    go : (x : Result (ℕ × ℕ × ℕ) Refusal) {n p q : ℕ} → (a : Bool) → leb (entries_of m) 1024 ≡ a → (b : Bool) → fits (sizes_of m) room ≡ b → cond a (cond b x (Err Room)) (Err Lengths) ≡ Ok (n, p, q)
        → (entries_of m ≤ 1024) × FitsEach (sizes_of m) room
    go x true ea true eb e = (leb-true (entries_of m) 1024 ea, fits_each (sizes_of m) room eb)
    go x true ea false eb e = absurd (not-into e)
    go x false ea b eb e = absurd (not-into e)

-- what the code needs to write the merged scene
pub record RoomFor (s u lent : Scene) : Type 0 where
  pub few : entries_of s + entries_of u ≤ 1024
  pub numbers-in : length s.numbers + length u.numbers ≤ length lent.numbers
  pub marks-in : length s.marks + entries_of u * 4 ≤ length lent.marks
  pub points-in : length (points_of s) + length (points_of u) ≤ length lent.points
  pub starts-in : length s.starts + length u.starts ≤ length lent.starts
  pub owners-in : length s.owners + length u.owners ≤ length lent.owners
  pub parts : AllRaisable (entries_of s) u.marks
  pub owned : Raisable (2 ^ 32) (entries_of s) u.owners
  pub started : length lent.points < 2 ^ 64 → Raisable (2 ^ 64) (length (points_of s) / 3) u.starts

pub room_for : (s u lent : Scene) → Mergeable s u lent → RoomFor s u lent
unfolding merge_of both_sizes given_sizes sizes_of
room_for s u lent M =
    let a = after-into (check_of s) _ M.merges in
    let b = after-into (check_of u) _ a.1 in
    let i = into-so (merged_scene s u) (sizes_of lent) b.1 in
    let four = marks-four s a.0.0 a.0.1 in
    let four' = marks-four u b.0.0 b.0.1 in
    let few : entries_of s + entries_of u ≤ 1024 = omega (arith, i.0, merged-entries s u four four') in
    let f : FitsEach (both_sizes (given_sizes s) (given_sizes u)) (sizes_of lent) = subst (λ (z : Sizes). FitsEach z (sizes_of lent)) (merged-sizes s u four four') i.1 in
    record {
      few = few;
      numbers-in = f.numbers-in;
      marks-in = omega (arith, f.marks-in, four');
      points-in = f.points-in;
      starts-in = f.starts-in;
      owners-in = f.owners-in;
      parts = parts_low u b.0.0 b.0.1 (entries_of s) few;
      owned = λ j h. omega (arith, owner-low u b.0.0 b.0.1 j h, few);
      started = λ l j h.
          let g : length u.points ≡ length (points_of u) = given-some u.points u.starts (λ z. omega (arith, z, h)) in
          omega (arith, start-low u b.0.0 b.0.1 j h, g, f.points-in, l);
    }

-- ---- how the slices are left
pub given-first : (points : List Float) (starts : List ℕ) → take (length (points_given points starts)) points ≡ points_given points starts
unfolding points_given
given-first points [] = refl
given-first points (s ∷ starts) = take-length points

module _ (s u lent : Scene) where
  pub filled_is : {by p q : ℕ} → by ≡ entries_of s → p ≡ length (points_of s) → q ≡ length (points_of u) → {ns ps : List Float} {ms ss os : List ℕ}
      → ns ≡ padded zero_f (length lent.numbers) (take (length s.numbers) s.numbers ++ take (length u.numbers) u.numbers)
      → ms ≡ padded 0 (length lent.marks) (s.marks ++ raised_marks by u.marks)
      → ps ≡ padded zero_f (length lent.points) (take p s.points ++ take q u.points)
      → ss ≡ padded 0 (length lent.starts) (s.starts ++ raised_by (p / 3) u.starts)
      → os ≡ padded 0 (length lent.owners) (s.owners ++ raised_by by u.owners)
      → scene_of ns ms ps ss os ≡ padded_scene (sizes_of lent) (merged_scene s u)
  unfolding padded_scene sizes_of merged_scene
  filled_is {by} {p} {q} eb ep eq en em epp es eo =
      let en' = en ∙ ap₂ (λ (x y : List Float). padded zero_f (length lent.numbers) (x ++ y)) (take-length s.numbers) (take-length u.numbers) in
      let em' = em ∙ ap (λ (n : ℕ). padded 0 (length lent.marks) (s.marks ++ raised_marks n u.marks)) eb in
      let ep' = epp ∙ ap₂ (λ (x y : List Float). padded zero_f (length lent.points) (x ++ y))
      (ap (λ (n : ℕ). take n s.points) ep ∙ given-first s.points s.starts) (ap (λ (n : ℕ). take n u.points) eq ∙ given-first u.points u.starts) in
      let es' = es ∙ ap (λ (n : ℕ). padded 0 (length lent.starts) (s.starts ++ raised_by (n / 3) u.starts)) ep in
      let eo' = eo ∙ ap (λ (n : ℕ). padded 0 (length lent.owners) (s.owners ++ raised_by n u.owners)) eb in
      rw (en', em', ep', es', eo')

  pub merges-refused : {r : Result (ℕ × ℕ × ℕ) Refusal} {k : Refusal} → r ≡ merge_of s u (sizes_of lent) → r ≡ Err k → {ns ps : List Float} {ms ss os : List ℕ}
      → ns ≡ padded zero_f (length lent.numbers) [] → ms ≡ padded 0 (length lent.marks) [] → ps ≡ padded zero_f (length lent.points) [] → ss ≡ padded 0 (length lent.starts) []
      → os ≡ padded 0 (length lent.owners) [] → Merges s u lent (Err k) (scene_of ns ms ps ss os)
  unfolding padded_scene sizes_of if_merged
  merges-refused e ek en em ep es eo = record { answer = sym ek ∙ e; slices_are = rw (en, em, ep, es, eo) }

  pub merges-into : {r : Result (ℕ × ℕ × ℕ) Refusal} {n p q : ℕ} → r ≡ merge_of s u (sizes_of lent) → r ≡ Ok (n, p, q) → {left : Scene} → left ≡ padded_scene (sizes_of lent) (merged_scene s u) → Merges s u lent (Ok (n, p, q)) left
  unfolding if_merged
  merges-into e ei el = record { answer = sym ei ∙ e; slices_are = el }

  pub mergeable-so : {r : Result (ℕ × ℕ × ℕ) Refusal} {n p q : ℕ} → r ≡ merge_of s u (sizes_of lent) → r ≡ Ok (n, p, q) → Mergeable s u lent
  mergeable-so {r} {n} {p} {q} e ei = record { many = n; points = p; paths = q; merges = sym e ∙ ei }
