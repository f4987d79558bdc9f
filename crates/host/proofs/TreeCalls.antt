-- What the calls on a tree answer, from what the proved functions gave. Assumes nothing.
use mathlib.Core.Path.{◌≡◌, refl, ap, ◌∙◌, subst}
use mathlib.Core.Bool.{Bool, false}
use mathlib.Core.List.{List}
use Prim.Native.Nat.{ℕ}
use lib.Ieee.{Float}
use Rattle.floats.specs.Arith.{zero_f}
use Rattle.geometry.specs.declared.vector.Vector.{Vector}
use Rattle.geometry.specs.declared.ray.Ray.{Ray}
use Rattle.rows.specs.Rows.{padded}
use Rattle.refusals.specs.Refusals.{number_of, answer_number}
use Rattle.refusals.specs.declared.Refusal.{Refusal}
use Rattle.scene.specs.Scenes.{Scene}
use Rattle.tree_nodes.specs.Nodes.{box_rows, mark_rows}
use Rattle.tree_nodes.specs.declared.Node.{Node}
use Rattle.tree_walk.specs.declared.Nearest.{Nearest}
use Rattle.tree_sight.specs.declared.Sight.{Sight}
use Rattle.query_scene.specs.Queries.{if_built, intersect_of, visible_of, occluder_of}
use Rattle.host.specs.TreeCalls.{node_count, in_sight, NearestTold, NameTold}
use Rattle.std.specs.Prelude.{Err, None, Ok, Option, Result, Some}

-- the answer, the three slices and the count of a build: b is what it gave
module _ {b w : Result ℕ Refusal} (is : b ≡ w) (ns : List Node) (ids : List ℕ) (h r o : ℕ) where
  abbrev Told : ℕ → List Float → List ℕ → List ℕ → ℕ → Result ℕ Refusal → Type 0
  Told n hs rs os c v =
      (n ≡ answer_number v)
      × ((hs ≡ padded zero_f h (box_rows (if_built v ns)))
      × ((rs ≡ padded 0 r (mark_rows (if_built v ns)))
      × ((os ≡ padded 0 o (if_built v ids))
      × (c ≡ node_count v))))

  pub built-so : {n c : ℕ} {hs : List Float} {rs os : List ℕ} → Told n hs rs os c b → Told n hs rs os c w
  built-so {n} {c} {hs} {rs} {os} t = subst (Told n hs rs os c) is t

module _ (s : Scene) (nodeBoxes : List Float) (nodeMarks order : List ℕ) where
  pub intersect-so : {p q : Ray} {f : Result Nearest Refusal} → f ≡ intersect_of s nodeBoxes nodeMarks order p → p ≡ q → f ≡ intersect_of s nodeBoxes nodeMarks order q
  intersect-so e p = e ∙ ap (intersect_of s nodeBoxes nodeMarks order) p

  pub occluder-so : {e f p q : Vector} {o : Result (Option ℕ) Refusal} → o ≡ occluder_of s nodeBoxes nodeMarks order e p → e ≡ f → p ≡ q → o ≡ occluder_of s nodeBoxes nodeMarks order f q
  occluder-so {e} {f} {p} {q} o x y = o ∙ ap (λ (v : Vector). occluder_of s nodeBoxes nodeMarks order v p) x ∙ ap (occluder_of s nodeBoxes nodeMarks order f) y

  pub seen-so : {e f p q : Vector} {a : Result Sight Refusal} {n : ℕ} {seen : Bool}
      → a ≡ visible_of s nodeBoxes nodeMarks order e p → e ≡ f → p ≡ q → n ≡ answer_number a → seen ≡ in_sight a
      → (n ≡ answer_number (visible_of s nodeBoxes nodeMarks order f q)) × (seen ≡ in_sight (visible_of s nodeBoxes nodeMarks order f q))
  seen-so {e} {f} {p} {q} a x y n b =
      let k = a ∙ ap (λ (v : Vector). visible_of s nodeBoxes nodeMarks order v p) x ∙ ap (visible_of s nodeBoxes nodeMarks order f) y in
      (n ∙ ap answer_number k, b ∙ ap in_sight k)

-- the answers that carry a name, by their cases
module _ {f g : Result Nearest Refusal} (is : f ≡ g) where
  pub best-told : {b : Nearest} → f ≡ Ok b → NearestTold g 0 b.hit.t b.hit.ok b.entry
  unfolding NearestTold
  best-told {b} e = subst (λ (x : Result Nearest Refusal). NearestTold x 0 b.hit.t b.hit.ok b.entry) is (rw e (refl, (refl, (refl, refl))))

  pub refused-told : {k : Refusal} {n : ℕ} → f ≡ Err k → n ≡ number_of k → NearestTold g n zero_f false 0
  unfolding NearestTold
  refused-told {k} {n} e m = subst (λ (x : Result Nearest Refusal). NearestTold x n zero_f false 0) is (rw e (m, (refl, (refl, refl))))

module _ {o w : Result (Option ℕ) Refusal} (is : o ≡ w) where
  pub clear_told : o ≡ Ok None → NameTold w 0 0xffff_ffff
  unfolding NameTold
  clear_told e = subst (λ (x : Result (Option ℕ) Refusal). NameTold x 0 0xffff_ffff) is (rw e (refl, refl))

  pub hidden-told : {i : ℕ} → o ≡ Ok (Some i) → NameTold w 0 i
  unfolding NameTold
  hidden-told {i} e = subst (λ (x : Result (Option ℕ) Refusal). NameTold x 0 i) is (rw e (refl, refl))

  pub unnamed_told : {k : Refusal} {n : ℕ} → o ≡ Err k → n ≡ number_of k → NameTold w n 0
  unfolding NameTold
  unnamed_told {k} {n} e m = subst (λ (x : Result (Option ℕ) Refusal). NameTold x n 0) is (rw e (m, refl))
