-- What the calls answer, from what the walk and the eye test gave. Assumes nothing.
use mathlib.Core.Path.{◌≡◌, ap, ◌∙◌}
use mathlib.Core.Bool.{Bool}
use mathlib.Core.List.{List}
use Prim.Native.Nat.{ℕ}
use lib.Ieee.{Float}
use Rattle.geometry.specs.declared.vector.Vector.{Vector}
use Rattle.geometry.specs.declared.ray.Ray.{Ray}
use Rattle.tree_walk.specs.Walks.{entry_hit, walk_rows}
use Rattle.tree_sight.specs.Sights.{sees}
use Rattle.tree_sight.specs.declared.Sight.{Sight}
use Rattle.tree_cover.specs.Seeking.{seek_rows, covered_by}
use Rattle.tree_cover.specs.declared.Sought.{Sought}
use Rattle.host.specs.TreeCalls.{in_sight}
use Rattle.tree_walk.specs.declared.Nearest.{Nearest}
use Rattle.refusals.specs.declared.Refusal.{Refusal}
use Rattle.std.specs.Prelude.{Result}
use Rattle.refusals.specs.Refusals.{answer_number}

module _ (numbers inverses : List Float) (marks : List ℕ) (nodeBoxes : List Float) (nodeMarks order : List ℕ) where
  abbrev walked : Ray → Result Nearest Refusal
  walked r = walk_rows (entry_hit numbers inverses marks r) r nodeBoxes nodeMarks order

  pub walked-so : {p q : Ray} {f : Result Nearest Refusal} → f ≡ walked p → p ≡ q → f ≡ walked q
  walked-so is same = is ∙ ap walked same

  pub sees-so : {e f p q : Vector} {s : Result Sight Refusal} {n : ℕ} {seen : Bool}
      → s ≡ sees walked e p → e ≡ f → p ≡ q → n ≡ answer_number s → seen ≡ in_sight s
      → (n ≡ answer_number (sees walked f q)) × (seen ≡ in_sight (sees walked f q))
  sees-so {e} {f} {p} {q} s x y n b =
      let k = s ∙ ap (λ (v : Vector). sees walked v p) x ∙ ap (sees walked f) y in
      (n ∙ ap answer_number k, b ∙ ap in_sight k)

  abbrev sought : Float → Ray → Result Sought Refusal
  sought d r = seek_rows d (entry_hit numbers inverses marks r) r nodeBoxes nodeMarks order

  pub covered-so : {e f p q : Vector} {s : Result Sight Refusal} {n : ℕ} {seen : Bool}
      → s ≡ covered_by sought e p → e ≡ f → p ≡ q → n ≡ answer_number s → seen ≡ in_sight s
      → (n ≡ answer_number (covered_by sought f q)) × (seen ≡ in_sight (covered_by sought f q))
  covered-so {e} {f} {p} {q} s x y n b =
      let k = s ∙ ap (λ (v : Vector). covered_by sought v p) x ∙ ap (covered_by sought f) y in
      (n ∙ ap answer_number k, b ∙ ap in_sight k)
