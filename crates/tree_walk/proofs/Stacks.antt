-- A stack of trees, visited one after the other, and the steps by which a loop goes through it. Assumes nothing.
use mathlib.Core.Path.{◌≡◌, refl, ◌∙◌}
use mathlib.Core.List.{List, [], ◌∷◌}
use mathlib.Core.Bool.{Bool, true, false, cond}
use Prim.Native.Nat.{ℕ, ◌+◌}
use native.Mathlib.Numerals.{add-one}
use lib.ListN.{length}
use lib.Dec.{ltb}
use Rattle.geometry.specs.Boxes.{box_test, skips}
use Rattle.geometry.specs.declared.ray.Ray.{Ray}
use Rattle.geometry.specs.declared.bounding_box.BBox.{BBox}
use Rattle.tree_nodes.specs.Trees.{Tree, leaf, split}
use Rattle.refusals.specs.declared.Refusal.TheVariants.{Waiting}
use Rattle.tree_walk.specs.declared.Nearest.{Nearest}
use Rattle.tree_walk.specs.Walks.{onward, scan, backward, visit}
use Rattle.std.specs.Prelude.{Err, Ok, Result}
use Rattle.geometry.specs.declared.hit.Hit.{Hit}
use Rattle.refusals.specs.declared.Refusal.{Refusal}

pub onward-assoc : (a : Result Nearest Refusal) (k l : Nearest → Result Nearest Refusal) → onward (onward a k) l ≡ onward a (λ (b : Nearest). onward (k b) l)
onward-assoc (Ok b) k l = refl
onward-assoc (Err n) k l = refl

pub onward-same : (a : Result Nearest Refusal) (k l : Nearest → Result Nearest Refusal) → ((b : Nearest) → k b ≡ l b) → onward a k ≡ onward a l
onward-same (Ok b) k l h = h b
onward-same (Err n) k l h = refl

pub onward-best : (a : Result Nearest Refusal) → onward a Ok ≡ a
onward-best (Ok b) = refl
onward-best (Err n) = refl

unfoldable pub visits : (ℕ → Result Hit Refusal) → Ray → List (Tree ℕ) → Nearest → Result Nearest Refusal
visits hit r [] best = Ok best
visits hit r (x ∷ stack) best = onward (visit hit r x (length stack) best) (visits hit r stack)

module _ (hit : ℕ → Result Hit Refusal) (r : Ray) where
  pub visits-leaf : (b : BBox) (a : ℕ) (is : List ℕ) (stack : List (Tree ℕ)) (best : Nearest)
      → visits hit r (leaf b a is ∷ stack) best ≡ cond (skips (box_test b r) best.hit.t) (visits hit r stack best) (onward (scan hit is best) (visits hit r stack))
  unfolding visits visit
  visits-leaf b a is stack best = go (skips (box_test b r) best.hit.t)
    where
      go : (k : Bool) → onward (cond k (Ok best) (scan hit is best)) (visits hit r stack) ≡ cond k (visits hit r stack best) (onward (scan hit is best) (visits hit r stack))
      go true = refl
      go false = refl

  pub visits-split : (b : BBox) (a : ℕ) (x y : Tree ℕ) (stack : List (Tree ℕ)) (best : Nearest)
      → visits hit r (split b a x y ∷ stack) best
      ≡ cond (skips (box_test b r) best.hit.t) (visits hit r stack best)
      (cond (ltb 64 (length stack + 2)) (Err Waiting)
      (cond (backward r a) (visits hit r (y ∷ x ∷ stack) best) (visits hit r (x ∷ y ∷ stack) best)))
  unfolding visits visit
  visits-split b a x y stack best = go (skips (box_test b r) best.hit.t) (ltb 64 (length stack + 2)) (backward r a)
    where
      both : (u v : Tree ℕ) → onward (onward (visit hit r u (length stack + 1) best) (visit hit r v (length stack))) (visits hit r stack) ≡ visits hit r (u ∷ v ∷ stack) best
      both u v = onward-assoc (visit hit r u (length stack + 1) best) (visit hit r v (length stack)) (visits hit r stack) ∙ rw (add-one (length stack)) refl

      go : (k j i : Bool)
          → onward (cond k (Ok best) (cond j (Err Waiting) (cond i (onward (visit hit r y (length stack + 1) best) (visit hit r x (length stack))) (onward (visit hit r x (length stack + 1) best) (visit hit r y (length stack)))))) (visits hit r stack)
          ≡ cond k (visits hit r stack best) (cond j (Err Waiting) (cond i (visits hit r (y ∷ x ∷ stack) best) (visits hit r (x ∷ y ∷ stack) best)))
      go true j i = refl
      go false true i = refl
      go false false true = both y x
      go false false false = both x y
