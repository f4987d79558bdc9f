-- Which call meets which number. Assumes nothing.
use Prim.Native.Nat.{ℕ, zero, suc, ◌*◌, ◌/◌, ◌%◌}
use mathlib.Core.Path.{◌≡◌, refl, sym, ap, subst, ◌∙◌}
use mathlib.Core.Logic.{inl, inr}
use mathlib.Core.Bool.{Bool, true, false, cond, ◌&&◌}
use mathlib.Core.List.{List, [], ◌∷◌, ◌++◌}
use native.Mathlib.Omega.{arith}
use lib.ListN.{length}
use lib.Dec.{leb, eqb, ltb}
use lib.Ieee.{Float}
use Rattle.geometry.specs.declared.vector.Vector.{Vector}
use Rattle.geometry.specs.declared.ray.Ray.{Ray}
use Rattle.limits.specs.Limits.{within_point}
use Rattle.rows.specs.Starts.{good_starts}
use Rattle.refusals.specs.Refusals.{number_of}
use Rattle.refusals.specs.declared.Refusal.{Refusal}
use Rattle.refusals.specs.declared.Refusal.TheVariants.{Lengths, Values, Parts, Measures, Placing, Extent, View as BadView, Point, Restarts, Waiting, Room, Stripes}
use Rattle.scene.specs.Scenes.{Scene, entries_of}
use Rattle.scene_merge.specs.MergedScenes.{merged_scene}
use Rattle.check_parts.specs.Drawn.{drawn}
use Rattle.check_scene.specs.Checks.{check_of, first_met}
use Rattle.tree_split.specs.Build.{box_at}
use Rattle.tree_walk.specs.Walks.{walk_rows}
use Rattle.tree_sight.specs.Sights.{sees}
use Rattle.tree_sight.specs.declared.Sight.{Sight}
use Rattle.query_scene.specs.Queries.{boxes_left, own_hits, scene_nodes, build_of, built_after, planted_of, visible_of, seen_after}
use Rattle.query_cover.specs.Covered.{batch_if, batch_by}
use Rattle.query_merge.specs.Merging.{sizes_of, fits, merge_of, merged_after, merged_within}
use Rattle.paths.specs.Answers.{next}
use Rattle.paths.specs.Paths.{Paths, push, push_all, paths_of, opened, one_path, each, stage, no_paths}
use Rattle.paths.specs.Ends.{places, all_points}
use Rattle.paths.specs.Judged.{paths_judged, unless, points_ok, handed_over}
use Rattle.path_rdp.specs.Rdp.{threshold_ok, simplified}
use Rattle.path_chop.specs.Chop.{chop_paths, call_upto, subdivide, push_or, chop_from, path_chop, screen_of, spot_of, middle_of, stops, most_halvings}
use Rattle.path_chop.specs.declared.Screen.{Screen}
use Rattle.path_chop.specs.declared.Spot.{Spot}
use Rattle.path_simplify.specs.Simplify.{path_simplify, simplify_paths, simplify_call}
use Rattle.view.specs.Views.{view_ok, args_of}
use Rattle.draw.specs.Draw.{lined_in, render, draw_with, drawn_after}
use Rattle.theorem_filters.specs.Passing.{Exactly}
use Rattle.theorem_results.specs.Numbers.{Conditions, FirstBroken, of_scene, of_paths, has_room, of_build, of_merge, of_points, RefusedSo, NeverZero, Distinct, CheckRefuses, BuildRefuses, MergeRefuses, CoveredAllRefuses, ChopRefuses, SimplifyRefuses, VisibleRefuses, DrawRefuses}
use Rattle.std.specs.Prelude.{Err, Ok, Result, ⊤}

-- ---- numbers
-- a refusal by its number
back : ℕ → Refusal
back n =
    cond (eqb n 2) Lengths
    (cond (eqb n 3) Values
    (cond (eqb n 4) Parts
    (cond (eqb n 5) Measures
    (cond (eqb n 6) Placing
    (cond (eqb n 7) Extent
    (cond (eqb n 8) BadView
    (cond (eqb n 9) Point
    (cond (eqb n 11) Restarts
    (cond (eqb n 12) Waiting
    (cond (eqb n 13) Room Stripes))))))))))

back-of : (k : Refusal) → back (number_of k) ≡ k
unfolding number_of back
back-of Lengths = refl
back-of Values = refl
back-of Parts = refl
back-of Measures = refl
back-of Placing = refl
back-of Extent = refl
back-of BadView = refl
back-of Point = refl
back-of Restarts = refl
back-of Waiting = refl
back-of Room = refl
back-of Stripes = refl

pub distinct : Distinct
distinct k l e = sym (back-of k) ∙ ap back e ∙ back-of l

pub never_zero : NeverZero
unfolding number_of
never_zero Lengths e = omega (arith, e)
never_zero Values e = omega (arith, e)
never_zero Parts e = omega (arith, e)
never_zero Measures e = omega (arith, e)
never_zero Placing e = omega (arith, e)
never_zero Extent e = omega (arith, e)
never_zero BadView e = omega (arith, e)
never_zero Point e = omega (arith, e)
never_zero Restarts e = omega (arith, e)
never_zero Waiting e = omega (arith, e)
never_zero Room e = omega (arith, e)
never_zero Stripes e = omega (arith, e)

-- ---- a call by cases: `refuses k` is its answer there, `Later k` what it answers where all conditions hold
-- Met l Later k says that the first broken condition has the number k, or all hold and then k is met later
abbrev Met : Conditions → Type 0 → Refusal → Type 0
Met l later k = RefusedSo l k later

-- one condition in front
module _ {A : Type 0} (refuses : Refusal → A) (same : (k l : Refusal) → refuses k ≡ refuses l → k ≡ l) where
  front : (c : Bool) (x : Refusal) (l : Conditions) (a : A) (later : Type 0) (k : Refusal)
      → Exactly (a ≡ refuses k) (Met l later k) → Exactly (cond c a (refuses x) ≡ refuses k) (Met ((c, x) ∷ l) later k)
  front true x l a later k e = (λ h. to (e.0 h), λ m. e.1 (from m))
    where
      to : Met l later k → Met ((true, x) ∷ l) later k
      to (inl b) = inl (inr (refl, b))
      to (inr h) = inr ((refl, h.0), h.1)

      from : Met ((true, x) ∷ l) later k → Met l later k
      from (inl (inl b)) = absurd (let z : ◌≡◌ {A = ℕ} 0 1 = cc in omega arith)
      from (inl (inr b)) = inl b.1
      from (inr h) = inr (h.0.1, h.1)
  front false x l a later k e = (λ h. inl (inl (refl, same x k h)), λ m. from m)
    where
      from : Met ((false, x) ∷ l) later k → refuses x ≡ refuses k
      from (inl (inl b)) = ap refuses b.1
      from (inl (inr b)) = absurd (let z : ◌≡◌ {A = ℕ} 0 1 = cc in omega arith)
      from (inr h) = absurd (let z : ◌≡◌ {A = ℕ} 0 1 = cc in omega arith)

  last : (a : A) (later : Type 0) (k : Refusal) → Exactly (a ≡ refuses k) later → Exactly (a ≡ refuses k) (Met [] later k)
  last a later k e = (λ h. inr (tt, e.0 h), λ m. from m)
    where
      from : Met [] later k → a ≡ refuses k
      from (inl b) = absurd b
      from (inr h) = e.1 h.1

  -- a verdict in front: f is what the call answers after it
  module _ (f : Result ℕ Refusal → A) (a : A) (ok : (n : ℕ) → f (Ok n) ≡ a) (on-refusal : (k : Refusal) → f (Err k) ≡ refuses k) (m : Conditions) (later : Type 0) (k : Refusal)
      (rest : Exactly (a ≡ refuses k) (Met m later k)) where
    after : (l : Conditions) (n : ℕ) → Exactly (f (first_met l (Ok n)) ≡ refuses k) (Met (l ++ m) later k)
    unfolding first_met
    after [] n = subst (λ (x : A). Exactly (x ≡ refuses k) (Met m later k)) (sym (ok n)) rest
    after ((true, x) ∷ l) n = front true x (l ++ m) (f (first_met l (Ok n))) later k (after l n)
    after ((false, x) ∷ l) n =
        subst (λ (y : A). Exactly (y ≡ refuses k) (Met ((false, x) ∷ (l ++ m)) later k)) (sym (on-refusal x))
        (front false x (l ++ m) (f (first_met l (Ok n))) later k (after l n))

    checked : (s : Scene) → Exactly (f (check_of s) ≡ refuses k) (Met (of_scene s ++ m) later k)
    unfolding check_of
    checked s = after (of_scene s) (length (drawn s.marks))

  -- nothing is met later
  never : (a : A) → ((k : Refusal) → a ≡ refuses k → ⊥) → (k : Refusal) → Exactly (a ≡ refuses k) (Met [] ⊥ k)
  never a out k = last a ⊥ k (λ h. out k h, λ h. absurd h)

only : {P : Type 0} (l : Conditions) (k : Refusal) → Exactly P (Met l ⊥ k) → Exactly P (FirstBroken l k)
only {P} l k e = (λ p. to (e.0 p), λ b. e.1 (inl b))
  where
    to : Met l ⊥ k → FirstBroken l k
    to (inl b) = b
    to (inr h) = absurd h.1

-- ---- the check
verdicts : (k l : Refusal) → ◌≡◌ {A = Result ℕ Refusal} (Err k) (Err l) → k ≡ l
verdicts k l e = cc

accepted-not : (n : ℕ) (k : Refusal) → Ok n ≡ Err k → ⊥
accepted-not n k e = let z : ◌≡◌ {A = ℕ} 0 1 = cc in omega arith

pub check_refuses : CheckRefuses
unfolding first_met check_of
check_refuses s k = only (of_scene s) k (go (of_scene s) (length (drawn s.marks)) k)
  where
    go : (l : Conditions) (n : ℕ) (k : Refusal) → Exactly (first_met l (Ok n) ≡ Err k) (Met l ⊥ k)
    go [] n k = never Err verdicts (Ok n) (accepted-not n) k
    go ((true, x) ∷ l) n k = front Err verdicts true x l (first_met l (Ok n)) ⊥ k (go l n k)
    go ((false, x) ∷ l) n k = front Err verdicts false x l (first_met l (Ok n)) ⊥ k (go l n k)

-- ---- the build
builts : (k l : Refusal) → ◌≡◌ {A = Result ℕ Refusal} (Err k) (Err l) → k ≡ l
builts k l e = cc

nodes-not : (n : ℕ) (k : Refusal) → Ok n ≡ Err k → ⊥
nodes-not n k e = let z : ◌≡◌ {A = ℕ} 0 1 = cc in omega arith

pub build_refuses : BuildRefuses
unfolding build_of built_after planted_of
build_refuses s nodes order k =
    let box = box_at (boxes_left s) in
    let enough = leb (length (drawn s.marks)) order && leb (length (scene_nodes s)) nodes in
    only (of_build s nodes order) k
    (checked Err builts (λ (v : Result ℕ Refusal). built_after v (planted_of box (drawn s.marks) nodes order)) (planted_of box (drawn s.marks) nodes order) (λ n. refl) (λ x. refl)
    ((enough, Room) ∷ []) ⊥ k
    (front Err builts enough Room [] (Ok (length (scene_nodes s))) ⊥ k (never Err builts (Ok (length (scene_nodes s))) (nodes-not (length (scene_nodes s))) k)) s)

-- ---- the merge
mergeds : (k l : Refusal) → ◌≡◌ {A = Result (ℕ × ℕ × ℕ) Refusal} (Err k) (Err l) → k ≡ l
mergeds k l e = cc

into-not : (a b c : ℕ) (k : Refusal) → ◌≡◌ {A = Result (ℕ × ℕ × ℕ) Refusal} (Ok (a, b, c)) (Err k) → ⊥
into-not a b c k e = let z : ◌≡◌ {A = ℕ} 0 1 = cc in omega arith

pub merge_refuses : MergeRefuses
unfolding merge_of merged_after merged_within
merge_refuses s u room k =
    let m = merged_scene s u in
    let last-two : Conditions = (leb (entries_of m) 1024, Lengths) ∷ (fits (sizes_of m) room, Room) ∷ [] in
    let into : Result (ℕ × ℕ × ℕ) Refusal = Ok (entries_of m, length m.points / 3, length m.starts) in
    only (of_merge s u m room) k
    (checked Err mergeds (λ (v : Result ℕ Refusal). merged_after v (merged_after (check_of u) (merged_within m room))) (merged_after (check_of u) (merged_within m room)) (λ n. refl) (λ x. refl)
    (of_scene u ++ last-two) ⊥ k
    (checked Err mergeds (λ (v : Result ℕ Refusal). merged_after v (merged_within m room)) (merged_within m room) (λ n. refl) (λ x. refl) last-two ⊥ k
    (front Err mergeds (leb (entries_of m) 1024) Lengths ((fits (sizes_of m) room, Room) ∷ []) (cond (fits (sizes_of m) room) into (Err Room)) ⊥ k
    (front Err mergeds (fits (sizes_of m) room) Room [] into ⊥ k
    (never Err mergeds into (into-not (entries_of m) (length m.points / 3) (length m.starts)) k))) u) s)

-- ---- many points
batches : (k l : Refusal) → ◌≡◌ {A = Result ⊤ Refusal} (Err k) (Err l) → k ≡ l
batches k l e = cc

answered-not : (k : Refusal) → ◌≡◌ {A = Result ⊤ Refusal} (Ok tt) (Err k) → ⊥
answered-not k e = let z : ◌≡◌ {A = ℕ} 0 1 = cc in omega arith

abbrev batch_after : Result ℕ Refusal → Vector → ℕ → ℕ → Result ⊤ Refusal
batch_after (Err k) eye size room = Err k
batch_after (Ok n) eye size room = cond (within_point eye) (cond (leb (size / 3) room) (Ok tt) (Err Room)) (Err BadView)

batch-so : (v : Result ℕ Refusal) (eye : Vector) (size room : ℕ) → cond (eqb (size / 3 * 3) size) (batch_after v eye size room) (Err Lengths) ≡ batch_by v eye size room
unfolding batch_if
batch-so (Err k) eye size room = refl
batch-so (Ok n) eye size room = refl

pub covered_all_refuses : CoveredAllRefuses
covered_all_refuses s eye size room k =
    let inner : Result ⊤ Refusal = cond (leb (size / 3) room) (Ok tt) (Err Room) in
    let last-two : Conditions = (within_point eye, BadView) ∷ (leb (size / 3) room, Room) ∷ [] in
    only (of_points s eye size room) k
    (subst (λ (b : Result ⊤ Refusal). Exactly (b ≡ Err k) (Met (of_points s eye size room) ⊥ k)) (batch-so (check_of s) eye size room)
    (front Err batches (eqb (size / 3 * 3) size) Lengths (of_scene s ++ last-two) (batch_after (check_of s) eye size room) ⊥ k
    (checked Err batches (λ (v : Result ℕ Refusal). batch_after v eye size room) (cond (within_point eye) inner (Err BadView)) (λ n. refl) (λ x. refl) last-two ⊥ k
    (front Err batches (within_point eye) BadView ((leb (size / 3) room, Room) ∷ []) inner ⊥ k
    (front Err batches (leb (size / 3) room) Room [] (Ok tt) ⊥ k (never Err batches (Ok tt) answered-not k))) s)))

-- ---- paths
answers : {A : Type 0} (k l : Refusal) → ◌≡◌ {A = Result A Refusal} (Err k) (Err l) → k ≡ l
answers k l e = cc

answer-not : {A : Type 0} (x : A) (k : Refusal) → ◌≡◌ {A = Result A Refusal} (Ok x) (Err k) → ⊥
answer-not x k e = let z : ◌≡◌ {A = ℕ} 0 1 = cc in omega arith

abbrev OnlyRoom : {A : Type 0} → Result A Refusal → Type 0
OnlyRoom a = (k : Refusal) → a ≡ Err k → Room ≡ k

next-room : {A B : Type 0} (a : Result A Refusal) (f : A → Result B Refusal) → OnlyRoom a → ((x : A) → OnlyRoom (f x)) → OnlyRoom (next a f)
next-room (Ok x) f p q k e = q x k e
next-room (Err j) f p q k e = p k (ap Err (answers j k e))

cond-room : {A : Type 0} (c : Bool) (x : A) → OnlyRoom (cond c (Ok x) (Err Room))
cond-room true x k e = absurd (answer-not x k e)
cond-room false x k e = answers Room k e

done-room : {A : Type 0} (x : A) → OnlyRoom (Ok x)
done-room x k e = absurd (answer-not x k e)

push-room : {A : Type 0} (room : ℕ) (xs : List A) (x : A) → OnlyRoom (push room xs x)
unfolding push
push-room room xs x = cond-room (ltb (length xs) room) _

push-all-room : {A : Type 0} (room : ℕ) (xs ys : List A) → OnlyRoom (push_all room xs ys)
unfolding push_all
push-all-room room xs [] = done-room xs
push-all-room {A} room xs (y ∷ ys) = next-room (push room xs y) (λ (zs : List A). push_all room zs ys) (push-room room xs y) (λ zs. push-all-room room zs ys)

opened-room : (room : ℕ) (p : Paths) → OnlyRoom (opened room p)
unfolding opened
opened-room room p = next-room (push room p.starts _) _ (push-room room p.starts _) (λ ss. done-room _)

module _ (work : ℕ → List Vector → List Vector → Result (List Vector) Refusal) (fine : (room : ℕ) (p vs : List Vector) → OnlyRoom (work room p vs)) where
  one-room : (room startRoom : ℕ) (p : List Vector) (out : Paths) → OnlyRoom (one_path work room startRoom p out)
  unfolding one_path
  one-room room startRoom p out = next-room (opened startRoom out) _ (opened-room startRoom out) (λ o. next-room (work room p o.vertices) _ (fine room p o.vertices) (λ vs. done-room _))

  each-room : (room startRoom : ℕ) (ps : List (List Vector)) (out : Paths) → OnlyRoom (each (one_path work room startRoom) ps out)
  unfolding each
  each-room room startRoom [] out = done-room out
  each-room room startRoom (p ∷ ps) out = next-room (one_path work room startRoom p out) (each (one_path work room startRoom) ps) (one-room room startRoom p out) (λ o. each-room room startRoom ps o)

  stage-room : (vs : List Vector) (ss : List ℕ) (room startRoom : ℕ) → OnlyRoom (stage (one_path work) vs ss room startRoom)
  unfolding stage
  stage-room vs ss room startRoom = each-room room startRoom (paths_of vs ss) no_paths

push-or-room : (halve : List Vector → Result (List Vector) Refusal) → ((vs : List Vector) → OnlyRoom (halve vs)) → (room : ℕ) (v : Vector) (vs : List Vector) (b : Bool) → OnlyRoom (push_or halve room v vs b)
unfolding push_or
push-or-room halve fine room v vs true = push-room room vs v
push-or-room halve fine room v vs false = fine vs

subdivide-room : (s : Screen) (room depth : ℕ) (a b : Spot) (vs : List Vector) → OnlyRoom (subdivide s room depth a b vs)
unfolding subdivide
subdivide-room s room zero a b vs = push-room room vs b.at
subdivide-room s room (suc depth) a b vs =
    push-or-room _
    (λ us. next-room (subdivide s room depth a (middle_of s a b) us) (subdivide s room depth (middle_of s a b) b) (subdivide-room s room depth a (middle_of s a b) us)
    (λ ws. subdivide-room s room depth (middle_of s a b) b ws)) room b.at vs (stops s a b)

chop-from-room : (n : ℕ) (s : Screen) (room : ℕ) (a : Spot) (ps vs : List Vector) → OnlyRoom (chop_from n s room a ps vs)
unfolding chop_from
chop-from-room n s room a [] vs = done-room vs
chop-from-room n s room a (p ∷ ps) vs =
    next-room (subdivide s room n a (spot_of s p) vs) (chop_from n s room (spot_of s p) ps) (subdivide-room s room n a (spot_of s p) vs) (λ us. chop-from-room n s room (spot_of s p) ps us)

chop-room : (n : ℕ) (s : Screen) (room : ℕ) (p vs : List Vector) → OnlyRoom (path_chop n s room p vs)
unfolding path_chop
chop-room n s room [] vs = done-room vs
chop-room n s room (p ∷ ps) vs = next-room (push room vs p) (chop_from n s room (spot_of s p) ps) (push-room room vs p) (λ us. chop-from-room n s room (spot_of s p) ps us)

roomed : (a : Result Paths Refusal) → OnlyRoom a → (k : Refusal) → Exactly (a ≡ Err k) (Met ((has_room a, Room) ∷ []) ⊥ k)
roomed (Ok q) r k = (λ h. absurd (answer-not q k h), λ m. from m)
  where
    from : Met ((true, Room) ∷ []) ⊥ k → ◌≡◌ {A = Result Paths Refusal} (Ok q) (Err k)
    from (inl (inl b)) = absurd (let z : ◌≡◌ {A = ℕ} 0 1 = cc in omega arith)
    from (inl (inr b)) = absurd b.1
    from (inr h) = absurd h.1
roomed (Err j) r k = (λ h. inl (inl (refl, r k h)), λ m. from m)
  where
    from : Met ((false, Room) ∷ []) ⊥ k → ◌≡◌ {A = Result Paths Refusal} (Err j) (Err k)
    from (inl (inl b)) = ap Err (sym (r j refl) ∙ b.1)
    from (inl (inr b)) = absurd b.1
    from (inr h) = absurd h.1

judged-so : (c d e f : Bool) (a : Result Paths Refusal)
    → cond c (cond d (cond e (cond f a (Err Point)) (Err BadView)) (Err Parts)) (Err Lengths)
    ≡ unless (cond c (cond d (cond e (cond f (Ok tt) (Err Point)) (Err BadView)) (Err Parts)) (Err Lengths)) a
unfolding unless
judged-so false d e f a = refl
judged-so true false e f a = refl
judged-so true true false f a = refl
judged-so true true true false a = refl
judged-so true true true true a = refl

module _ (xs : List Float) (ss : List ℕ) (fair : Bool) (a : Result Paths Refusal) (r : OnlyRoom a) (k : Refusal) where
  judged : Exactly (unless (paths_judged xs ss fair) a ≡ Err k) (FirstBroken (of_paths xs ss fair ++ ((has_room a, Room) ∷ [])) k)
  unfolding paths_judged
  judged =
      let p = eqb (length xs % 3) 0 in
      let q = good_starts (places xs) ss in
      let o = points_ok (handed_over xs ss) in
      let left : Conditions = (has_room a, Room) ∷ [] in
      let all : Conditions = of_paths xs ss fair ++ left in
      let third : Result Paths Refusal = cond o a (Err Point) in
      let second : Result Paths Refusal = cond fair third (Err BadView) in
      only all k
      (subst (λ (b : Result Paths Refusal). Exactly (b ≡ Err k) (Met all ⊥ k)) (judged-so p q fair o a)
      (front Err answers p Lengths ((q, Parts) ∷ (fair, BadView) ∷ (o, Point) ∷ left) (cond q second (Err Parts)) ⊥ k
      (front Err answers q Parts ((fair, BadView) ∷ (o, Point) ∷ left) second ⊥ k
      (front Err answers fair BadView ((o, Point) ∷ left) third ⊥ k
      (front Err answers o Point left a ⊥ k (roomed a r k))))))

pub chop_refuses : ChopRefuses
unfolding call_upto
chop_refuses v xs ss room startRoom k =
    judged xs ss (view_ok v) (chop_paths (args_of v) (all_points xs) ss room startRoom)
    (stage-room (path_chop most_halvings (screen_of (args_of v))) (λ n p vs. chop-room most_halvings (screen_of (args_of v)) n p vs) (all_points xs) ss room startRoom) k

pub simplify_refuses : SimplifyRefuses
unfolding simplify_call
simplify_refuses xs ss t room startRoom k =
    judged xs ss (threshold_ok t) (simplify_paths t (all_points xs) ss room startRoom)
    (stage-room (path_simplify t) (λ n p vs. push-all-room n vs (simplified t p)) (all_points xs) ss room startRoom) k

-- ---- visible and draw
sights : (k l : Refusal) → ◌≡◌ {A = Result Sight Refusal} (Err k) (Err l) → k ≡ l
sights k l e = cc

pub visible_refuses : VisibleRefuses
unfolding visible_of seen_after
visible_refuses s boxes marks order eye point k =
    let seen : Result Sight Refusal = sees (λ (r : Ray). walk_rows (own_hits s r) r boxes marks order) eye point in
    let inner : Result Sight Refusal = cond (within_point point) seen (Err Point) in
    let outer : Result Sight Refusal = cond (within_point eye) inner (Err BadView) in
    checked Err sights (λ (v : Result ℕ Refusal). seen_after v outer) outer (λ n. refl) (λ x. refl) ((within_point eye, BadView) ∷ (within_point point, Point) ∷ []) (seen ≡ Err k) k
    (front Err sights (within_point eye) BadView ((within_point point, Point) ∷ []) inner (seen ≡ Err k) k
    (front Err sights (within_point point) Point [] seen (seen ≡ Err k) k
    (last Err sights seen (seen ≡ Err k) k (λ h. h, λ h. h)))) s

pub draw_refuses : DrawRefuses
unfolding draw_with drawn_after
draw_refuses t s v w k =
    let drawing : Result Paths Refusal = render t v w (lined_in s) (drawn s.marks) in
    let outer : Result Paths Refusal = cond (view_ok v && threshold_ok t) drawing (Err BadView) in
    checked Err answers (λ (x : Result ℕ Refusal). drawn_after x outer) outer (λ n. refl) (λ x. refl) ((view_ok v && threshold_ok t, BadView) ∷ []) (drawing ≡ Err k) k
    (front Err answers (view_ok v && threshold_ok t) BadView [] drawing (drawing ≡ Err k) k
    (last Err answers drawing (drawing ≡ Err k) k (λ h. h, λ h. h))) s
