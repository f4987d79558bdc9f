-- How lent slices end, call by call. Assumes nothing.
use Prim.Native.Nat.{ℕ, zero, suc, ◌-◌, ◌/◌}
use mathlib.Core.Path.{◌≡◌, refl, sym, ap, subst, ◌∙◌}
use mathlib.Core.Logic.{inl, inr}
use mathlib.Core.Bool.{Bool, true, false, cond, ◌&&◌}
use mathlib.Core.List.{List, [], ◌∷◌}
use native.Mathlib.Omega.{arith}
use lib.ListN.{length, replicate, length-replicate}
use lib.Dec.{leb}
use lib.Ieee.{Float}
use Rattle.floats.specs.Arith.{zero_f}
use Rattle.lists.specs.Lists.{Member}
use Rattle.rows.specs.Points.{point_of}
use Rattle.rows.specs.Rows.{padded, flat, view}
use Rattle.refusals.specs.Refusals.{number_of, answer_number}
use Rattle.refusals.specs.declared.Refusal.{Refusal}
use Rattle.refusals.specs.declared.Refusal.TheVariants.{Lengths, Values, Parts, Measures, Placing, Extent, View as BadView, Point, Restarts, Waiting, Room, Stripes}
use Rattle.scene.specs.Scenes.{Scene, entries_of}
use Rattle.scene_merge.specs.MergedScenes.{merged_scene}
use Rattle.check_parts.specs.Drawn.{drawn}
use Rattle.check_scene.specs.Checks.{check_of, first_met, if_accepted, inverses_of, boxes_of}
use Rattle.tree_nodes.specs.Nodes.{box_rows, mark_rows, places_of}
use Rattle.tree_sight.specs.declared.Sight.TheVariants.{Visible, Hidden}
use Rattle.query_scene.specs.Queries.{scene_nodes, scene_order, build_of, built_after, planted_of, if_built}
use Rattle.query_cover.specs.Covered.{if_answered, byte_of, covered_of}
use Rattle.query_solid.specs.Answers.{drawn_count, distance, met, inside}
use Rattle.query_merge.specs.Merging.{merge_of, merged_after, merged_within, sizes_of, if_merged, padded_scene, fits}
use Rattle.query_merge.specs.declared.Sizes.{Sizes}
use Rattle.text_drawing.specs.Drawings.{written, laid}
use Rattle.host.specs.TreeCalls.{NearestTold, NameTold, node_count, in_sight}
use Rattle.host.specs.StageCalls.{points_told, paths_told}
use Rattle.host_merge.specs.MergeCalls.{merged_entries, merged_points, merged_paths}
use Rattle.host_text.specs.TextCalls.{bytes_told}
use Rattle.theorem_results.specs.Slices.{LentSlice, AllEnd, lent_for_paths, lent_for_build, lent_for_check, lent_for_merge, lent_for_points, lent_for_text, PathsEnd, BuildEnds, CheckEnds, MergeEnds, CoveredAllEnds, WriteEnds, OwnHitEnds, NearestHitEnds, OccluderEnds, SightEnds, ContainsEnds, WorkEnds}
use Rattle.std.specs.Prelude.{Err, None, Ok, Result, Some, ⊤}

-- each number of a refusal is above 0
abbrev Zeros : List LentSlice → Type 0
Zeros [] = Unit {0}
Zeros (l ∷ ls) = (l.left ≡ replicate l.size l.none) × Zeros ls

positive : (k : Refusal) → (n : ℕ) × (number_of k ≡ suc n)
unfolding number_of
positive Lengths = (1, refl)
positive Values = (2, refl)
positive Parts = (3, refl)
positive Measures = (4, refl)
positive Placing = (5, refl)
positive Extent = (6, refl)
positive BadView = (7, refl)
positive Point = (8, refl)
positive Restarts = (10, refl)
positive Waiting = (11, refl)
positive Room = (12, refl)
positive Stripes = (13, refl)

all-zeros : (n : ℕ) (ls : List LentSlice) → Zeros ls → AllEnd (suc n) ls
all-zeros n [] h = tt
all-zeros n (l ∷ ls) h = (h.0, all-zeros n ls h.1)

refused-so : (k : Refusal) (number : ℕ) (ls : List LentSlice) → number ≡ number_of k → Zeros ls → AllEnd number ls
refused-so k number ls e h =
    let p = positive k in
    subst (λ (x : ℕ). AllEnd x ls) (sym (e ∙ p.1)) (all-zeros p.0 ls h)

answered-so : (number : ℕ) (ls : List LentSlice) → number ≡ 0 → AllEnd 0 ls → AllEnd number ls
answered-so number ls e h = subst (λ (x : ℕ). AllEnd x ls) (sym e) h

-- nothing, then zeros
only-zeros : {A : Type 0} (none : A) (n : ℕ) (left : List A) → left ≡ padded none n [] → left ≡ replicate n none
unfolding padded
only-zeros none n left e = let k : n - 0 ≡ n = omega arith in e ∙ ap (λ (m : ℕ). replicate m none) k

one : {a b : ℕ} → a ≡ b → ◌≡◌ {A = List ℕ} (a ∷ []) (b ∷ [])
one e = ap (λ (x : ℕ). x ∷ []) e

-- ---- paths
pub paths_end : PathsEnd
unfolding answer_number points_told paths_told padded
paths_end (Ok q) n m number out begins points paths h =
    answered-so number (lent_for_paths (Ok q) n m out begins points paths) h.0 (h.1.0, (h.1.1.0, (one h.1.1.1.0, (one h.1.1.1.1, tt))))
paths_end (Err k) n m number out begins points paths h =
    refused-so k number (lent_for_paths (Err k) n m out begins points paths) h.0 (h.1.0, (h.1.1.0, (one h.1.1.1.0, (one h.1.1.1.1, tt))))

-- ---- a build
nodes-same : {m n : ℕ} → ◌≡◌ {A = Result ℕ Refusal} (Ok m) (Ok n) → m ≡ n
nodes-same e = cc

nodes-refused : {n : ℕ} {k : Refusal} → Err k ≡ Ok n → ⊥
nodes-refused e = let z : ◌≡◌ {A = ℕ} 0 1 = cc in omega arith

planted-count : (c : Bool) (m n : ℕ) → cond c (Ok m) (Err Room) ≡ Ok n → m ≡ n
planted-count true m n e = nodes-same e
planted-count false m n e = absurd (nodes-refused e)

built-count : (v : Result ℕ Refusal) (c : Bool) (m n : ℕ) → built_after v (cond c (Ok m) (Err Room)) ≡ Ok n → m ≡ n
unfolding built_after
built-count (Ok d) c m n e = planted-count c m n e
built-count (Err k) c m n e = absurd (nodes-refused e)

scene-count : (s : Scene) (places room n : ℕ) → build_of s places room ≡ Ok n → length (scene_nodes s) ≡ n
unfolding build_of planted_of
scene-count s places room n e = built-count (check_of s) (leb (length (drawn s.marks)) room && leb (length (scene_nodes s)) places) (length (scene_nodes s)) n e

pub build_ends : BuildEnds
unfolding answer_number node_count if_built padded flat
build_ends s boxes₀ marks₀ order₀ number boxes marks order count h =
    go (build_of s (places_of boxes₀ marks₀) (length order₀)) refl h.0 h.1.0 h.1.1.0 h.1.1.1.0 h.1.1.1.1
  where
    go : (b : Result ℕ Refusal) → build_of s (places_of boxes₀ marks₀) (length order₀) ≡ b → number ≡ answer_number b
        → boxes ≡ padded zero_f (length boxes₀) (box_rows (if_built b (scene_nodes s))) → marks ≡ padded 0 (length marks₀) (mark_rows (if_built b (scene_nodes s)))
        → order ≡ padded 0 (length order₀) (if_built b (scene_order s)) → count ≡ node_count b → AllEnd number (lent_for_build s boxes₀ marks₀ order₀ boxes marks order count)
    go (Ok n) is e x y z c = answered-so number (lent_for_build s boxes₀ marks₀ order₀ boxes marks order count) e (x, (y, (z, (one (c ∙ sym (scene-count s _ _ n is)), tt))))
    go (Err k) is e x y z c = refused-so k number (lent_for_build s boxes₀ marks₀ order₀ boxes marks order count) e
        (only-zeros zero_f (length boxes₀) boxes x, (only-zeros 0 (length marks₀) marks y, (only-zeros 0 (length order₀) order z, (one c, tt))))

-- ---- a check
first_count : (l : List (Bool × Refusal)) (m n : ℕ) → first_met l (Ok m) ≡ Ok n → m ≡ n
unfolding first_met
first_count [] m n e = cc
first_count ((true, k) ∷ l) m n e = first_count l m n e
first_count ((false, k) ∷ l) m n e = absurd (let z : ◌≡◌ {A = ℕ} 0 1 = cc in omega arith)

drawn-count : (s : Scene) (n : ℕ) → check_of s ≡ Ok n → length (drawn s.marks) ≡ n
unfolding check_of
drawn-count s n e = first_count _ (length (drawn s.marks)) n e

pub check_ends : CheckEnds
unfolding answer_number drawn_count if_accepted padded
check_ends s number inverses boxes listed count h = go (check_of s) refl h.0 h.1.0 h.1.1.0 h.1.1.1.0 h.1.1.1.1
  where
    go : (v : Result ℕ Refusal) → check_of s ≡ v → number ≡ answer_number v → inverses ≡ padded zero_f 16384 (if_accepted v (inverses_of s)) → boxes ≡ padded zero_f 6144 (if_accepted v (boxes_of s))
        → listed ≡ padded 0 1024 (if_accepted v (drawn s.marks)) → count ≡ drawn_count v → AllEnd number (lent_for_check s inverses boxes listed count)
    go (Ok n) is e x y z c = answered-so number (lent_for_check s inverses boxes listed count) e (x, (y, (z, (one (c ∙ sym (drawn-count s n is)), tt))))
    go (Err k) is e x y z c = refused-so k number (lent_for_check s inverses boxes listed count) e
        (only-zeros zero_f 16384 inverses x, (only-zeros zero_f 6144 boxes y, (only-zeros 0 1024 listed z, (one c, tt))))

-- ---- a merge
into-parts : {p q : ℕ × ℕ × ℕ} → ◌≡◌ {A = Result (ℕ × ℕ × ℕ) Refusal} (Ok p) (Ok q) → p ≡ q
into-parts e = cc

into-same : {a b c d e f : ℕ} → ◌≡◌ {A = Result (ℕ × ℕ × ℕ) Refusal} (Ok (a, b, c)) (Ok (d, e, f)) → (a ≡ d) × (b ≡ e) × (c ≡ f)
into-same e =
    let p = into-parts e in
    (ap (λ (t : ℕ × ℕ × ℕ). t.0) p, ap (λ (t : ℕ × ℕ × ℕ). t.1) p, ap (λ (t : ℕ × ℕ × ℕ). t.2) p)

into-refused : {a b c : ℕ} {k : Refusal} → ◌≡◌ {A = Result (ℕ × ℕ × ℕ) Refusal} (Err k) (Ok (a, b, c)) → ⊥
into-refused e = let z : ◌≡◌ {A = ℕ} 0 1 = cc in omega arith

abbrev Sized : Scene → ℕ → ℕ → ℕ → Type 0
Sized m a b c = (entries_of m ≡ a) × (length m.points / 3 ≡ b) × (length m.starts ≡ c)

within-sized : (m : Scene) (room : Sizes) (p q : Bool) (a b c : ℕ)
    → ◌≡◌ {A = Result (ℕ × ℕ × ℕ) Refusal} (cond p (cond q (Ok (entries_of m, length m.points / 3, length m.starts)) (Err Room)) (Err Lengths)) (Ok (a, b, c)) → Sized m a b c
within-sized m room true true a b c e = into-same e
within-sized m room true false a b c e = absurd (into-refused e)
within-sized m room false q a b c e = absurd (into-refused e)

after-sized : (v : Result ℕ Refusal) (r : Result (ℕ × ℕ × ℕ) Refusal) (a b c : ℕ) → merged_after v r ≡ Ok (a, b, c) → r ≡ Ok (a, b, c)
unfolding merged_after
after-sized (Ok n) r a b c e = e
after-sized (Err k) r a b c e = absurd (into-refused e)

merge-sized : (s u : Scene) (room : Sizes) (a b c : ℕ) → merge_of s u room ≡ Ok (a, b, c) → Sized (merged_scene s u) a b c
unfolding merge_of merged_within
merge-sized s u room a b c e =
    within-sized (merged_scene s u) room (leb (entries_of (merged_scene s u)) 1024) (fits (sizes_of (merged_scene s u)) room) a b c
    (after-sized (check_of u) _ a b c (after-sized (check_of s) _ a b c e))

pub merge_ends : MergeEnds
unfolding answer_number merged_entries merged_points merged_paths if_merged padded_scene sizes_of padded
merge_ends s u lent number left entries points paths h =
    go (merge_of s u (sizes_of lent)) refl h.number_is h.slices_are h.entries_is h.points_is h.paths_is
  where
    go : (r : Result (ℕ × ℕ × ℕ) Refusal) → merge_of s u (sizes_of lent) ≡ r → number ≡ answer_number r → left ≡ padded_scene (sizes_of lent) (if_merged r (merged_scene s u))
        → entries ≡ merged_entries r → points ≡ merged_points r → paths ≡ merged_paths r → AllEnd number (lent_for_merge (merged_scene s u) lent left entries points paths)
    go (Ok (a, b, c)) is n l e p q =
        let z = merge-sized s u (sizes_of lent) a b c is in
        answered-so number (lent_for_merge (merged_scene s u) lent left entries points paths) n (
          ap (λ (x : Scene). x.numbers) l,
          (
            ap (λ (x : Scene). x.marks) l,
            (
              ap (λ (x : Scene). x.points) l,
              (
                ap (λ (x : Scene). x.starts) l,
                (
                  ap (λ (x : Scene). x.owners) l,
                  (one (e ∙ sym z.0), (one (p ∙ sym z.1), (one (q ∙ sym z.2), tt))),
                ),
              ),
            ),
          ),
        )
    go (Err k) is n l e p q =
        refused-so k number (lent_for_merge (merged_scene s u) lent left entries points paths) n (
          only-zeros zero_f (length lent.numbers) left.numbers (ap (λ (x : Scene). x.numbers) l),
          (
            only-zeros 0 (length lent.marks) left.marks (ap (λ (x : Scene). x.marks) l),
            (
              only-zeros zero_f (length lent.points) left.points (ap (λ (x : Scene). x.points) l),
              (
                only-zeros 0 (length lent.starts) left.starts (ap (λ (x : Scene). x.starts) l),
                (
                  only-zeros 0 (length lent.owners) left.owners (ap (λ (x : Scene). x.owners) l),
                  (one e, (one p, (one q, tt))),
                ),
              ),
            ),
          ),
        )

-- ---- many points
pub covered_all_ends : CoveredAllEnds
unfolding if_answered answer_number padded view
covered_all_ends s boxes marks order eye tested told₀ number told h = go h.0 h.1.bytes_are h.2
  where
    go : (b : Result ⊤ Refusal) → told ≡ padded 0 (length told₀) (view 3 (λ (p : List Float). byte_of (covered_of s boxes marks order eye (point_of p))) (if_answered b (length tested / 3)) tested)
        → number ≡ answer_number b → AllEnd number (lent_for_points s boxes marks order eye tested told₀ told)
    go (Ok tt) e n = answered-so number (lent_for_points s boxes marks order eye tested told₀ told) n (e, tt)
    go (Err k) e n = refused-so k number (lent_for_points s boxes marks order eye tested told₀ told) n (only-zeros 0 (length told₀) told e, tt)

-- ---- a text
pub write_ends : WriteEnds
unfolding answer_number bytes_told written laid padded
write_ends (Ok t) room text number count h = answered-so number (lent_for_text (Ok t) room text count) h.number_is (h.text_is, (one h.count_is, tt))
write_ends (Err k) room text number count h = refused-so k number (lent_for_text (Err k) room text count) h.number_is (h.text_is, (one h.count_is, tt))

-- ---- single places
pub own_hit_ends : OwnHitEnds
unfolding answer_number distance met
own_hit_ends (Ok g) number t ok h out = absurd (out h.0)
own_hit_ends (Err k) number t ok h out = (h.1.0, h.1.1)

pub nearest_hit_ends : NearestHitEnds
unfolding NearestTold
nearest_hit_ends (Ok b) number t ok entry h out = absurd (out h.0)
nearest_hit_ends (Err k) number t ok entry h out = (h.1.0, h.1.1.0, h.1.1.1)

pub occluder_ends : OccluderEnds
unfolding NameTold
occluder_ends (Ok None) number entry h out = absurd (out h.0)
occluder_ends (Ok (Some i)) number entry h out = absurd (out h.0)
occluder_ends (Err k) number entry h out = h.1

pub sight_ends : SightEnds
unfolding answer_number in_sight
sight_ends (Ok Visible) number seen h out = absurd (out h.0)
sight_ends (Ok Hidden) number seen h out = h.1
sight_ends (Err k) number seen h out = h.1

pub contains_ends : ContainsEnds
unfolding answer_number inside
contains_ends (Ok b) number within h out = absurd (out h.0)
contains_ends (Err k) number within h out = h.1

-- ---- work
of-zeros : {A : Type 0} (none : A) (n : ℕ) (x : A) → Member x (replicate n none) → x ≡ none
of-zeros none zero x m = absurd m
of-zeros none (suc n) x (inl e) = sym e
of-zeros none (suc n) x (inr m) = of-zeros none n x m

pub work_ends : WorkEnds
work_ends A none before after e = (ap length e ∙ length-replicate (length before) none, λ x m. of-zeros none (length before) x (subst (λ (l : List A). Member x l) e m))
