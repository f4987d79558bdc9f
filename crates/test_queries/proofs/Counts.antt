-- Answers compared and counted. Assumes nothing.
use Prim.Native.Nat.{ℕ, ◌+◌, ◌≤◌}
use mathlib.Core.Path.{◌≡◌, sym, ap, ◌∙◌}
use mathlib.Core.Bool.{Bool, true, false, cond}
use mathlib.Core.List.{List}
use lib.Dec.{eqb}
use lib.Ieee.{Float, eq}
use Rattle.geometry.specs.Hits.{hit_at}
use Rattle.geometry.specs.declared.hit.Hit.{Hit}
use Rattle.geometry.specs.declared.ray.Ray.{Ray}
use Rattle.geometry.specs.declared.vector.Vector.{Vector}
use Rattle.scene.specs.Scenes.{Scene}
use Rattle.tree_walk.specs.declared.Nearest.{Nearest}
use Rattle.query_scene.specs.Queries.{build_of, intersect_of}
use Rattle.test_words.specs.Words.{flag_of}
use Rattle.test_queries.specs.Questions.{unequal, differ_built, differ_hit, differ_nearest, differ_found, node_boxes_left, node_marks_left, order_left, eye_asked, one_solid, one_missed}
use Rattle.std.specs.Prelude.{Ok, Result}
use Rattle.refusals.specs.declared.Refusal.{Refusal}

-- ---- equals in place of equals
pub two : {A B C : Type 0} (f : A → B → C) {a a' : A} {b b' : B} → a ≡ a' → b ≡ b' → f a b ≡ f a' b'
two {A} {B} f {a} {a'} {b} {b'} p q = ap (λ (x : A). f x b) p ∙ ap (f a') q

pub three : {A B C D : Type 0} (f : A → B → C → D) {a a' : A} {b b' : B} {c c' : C} → a ≡ a' → b ≡ b' → c ≡ c' → f a b c ≡ f a' b' c'
three {A} f {a} {a'} {b} {b'} {c} {c'} p q r = ap (λ (x : A). f x b c) p ∙ two (f a') q r

pub sums : {a b c d : ℕ} → a ≡ b → c ≡ d → a + c ≡ b + d
sums p q = two (λ (x y : ℕ). x + y) p q

-- ---- two hits
pub hit-alike : (g h : Hit) (x y n : ℕ) → eq g.t h.t ≡ true → x ≡ flag_of g.ok → y ≡ flag_of h.ok → n ≡ unequal x y → n ≡ differ_hit g h
unfolding differ_hit
hit-alike g h x y n e p q m = m ∙ two unequal p q ∙ sym (ap (λ (b : Bool). cond b (unequal (flag_of g.ok) (flag_of h.ok)) 1) e)

pub hit-apart : (g h : Hit) → eq g.t h.t ≡ false → 1 ≡ differ_hit g h
unfolding differ_hit
hit-apart g h e = sym (ap (λ (b : Bool). cond b (unequal (flag_of g.ok) (flag_of h.ok)) 1) e)

pub nearest-alike : (a b : Nearest) (n : ℕ) → eqb a.entry b.entry ≡ true → n ≡ differ_hit a.hit b.hit → n ≡ differ_nearest a b
unfolding differ_nearest
nearest-alike a b n e m = m ∙ sym (ap (λ (k : Bool). cond k (differ_hit a.hit b.hit) 1) e)

pub nearest-apart : (a b : Nearest) → eqb a.entry b.entry ≡ false → 1 ≡ differ_nearest a b
unfolding differ_nearest
nearest-apart a b e = sym (ap (λ (k : Bool). cond k (differ_hit a.hit b.hit) 1) e)

-- ---- what a build leaves, by what it answers
pub build-asked : (s : Scene) (places room : ℕ) (b expected : Result ℕ Refusal) (n : ℕ) (nodeBoxes : List Float) (nodeMarks order : List ℕ) (k l m : ℕ) → b ≡ build_of s places room → nodeBoxes ≡ node_boxes_left s k b → nodeMarks ≡ node_marks_left s l b → order ≡ order_left s m b → n ≡ differ_built b expected → n ≤ 1 → ((n ≡ differ_built (build_of s places room) expected) × (n ≤ 1)) × ((nodeBoxes ≡ node_boxes_left s k (build_of s places room)) × ((nodeMarks ≡ node_marks_left s l (build_of s places room)) × (order ≡ order_left s m (build_of s places room))))
build-asked s places room b expected n nodeBoxes nodeMarks order k l m e h r o p q =
    ((p ∙ ap (λ (x : Result ℕ Refusal). differ_built x expected) e, q), (h ∙ ap (node_boxes_left s k) e, (r ∙ ap (node_marks_left s l) e, o ∙ ap (order_left s m) e)))

-- ---- the questions on one drawn entry, over the tree that a build leaves of it
module _ (s : Scene) (r : Ray) (nodeBoxes : List Float) (nodeMarks order : List ℕ) (a : ℕ) (p : a ≡ differ_built (build_of s 1 1) (Ok 1))
    (h : nodeBoxes ≡ node_boxes_left s 6 (build_of s 1 1)) (m : nodeMarks ≡ node_marks_left s 3 (build_of s 1 1)) (o : order ≡ order_left s 1 (build_of s 1 1)) where
  on-rows : (f : List Float → List ℕ → List ℕ → ℕ) {n : ℕ} → n ≡ f nodeBoxes nodeMarks order → n ≡ f (node_boxes_left s 6 (build_of s 1 1)) (node_marks_left s 3 (build_of s 1 1)) (order_left s 1 (build_of s 1 1))
  on-rows f q = q ∙ three f h m o

  pub missed-asked : (best : Nearest) (b : ℕ) → b ≡ differ_found (intersect_of s nodeBoxes nodeMarks order r) (Ok best) → a + b ≡ one_missed s r best
  unfolding one_missed
  missed-asked best b q = sums p (on-rows (λ (x : List Float) (y z : List ℕ). differ_found (intersect_of s x y z r) (Ok best)) q)

  pub one-asked : (near far : Vector) (entry : ℕ) (t : Float) (g : Hit) → g ≡ hit_at t → (b c : ℕ)
      → b ≡ differ_found (intersect_of s nodeBoxes nodeMarks order r) (Ok (record { hit = g; entry = entry }))
      → c ≡ eye_asked s nodeBoxes nodeMarks order r.origin near far entry → a + b + c ≡ one_solid s r near far entry t
  unfolding one_solid
  one-asked near far entry t g at b c q u =
      sums
      (sums p
      (on-rows (λ (x : List Float) (y z : List ℕ). differ_found (intersect_of s x y z r) (Ok (record { hit = hit_at t; entry = entry })))
      (q ∙ ap (λ (x : Hit). differ_found (intersect_of s nodeBoxes nodeMarks order r) (Ok (record { hit = x; entry = entry }))) at)))
      (on-rows (λ (x : List Float) (y z : List ℕ). eye_asked s x y z r.origin near far entry) u)
