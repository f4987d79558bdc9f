-- What the calls on covers answer, from what the proved functions gave. Assumes nothing.
use mathlib.Core.Path.{◌≡◌, ap, ◌∙◌, subst}
use mathlib.Core.Bool.{Bool}
use mathlib.Core.List.{List}
use Prim.Native.Nat.{ℕ}
use lib.Ieee.{Float}
use Rattle.geometry.specs.declared.vector.Vector.{Vector}
use Rattle.scene.specs.Scenes.{Scene}
use Rattle.tree_sight.specs.declared.Sight.{Sight}
use Rattle.query_cover.specs.Covered.{covered_of, AllTold}
use Rattle.host.specs.TreeCalls.{in_sight}
use Rattle.host.specs.CoverCalls.{BatchTold}
use Rattle.refusals.specs.declared.Refusal.{Refusal}
use Rattle.std.specs.Prelude.{Result, ⊤}
use Rattle.refusals.specs.Refusals.{answer_number}

module _ (s : Scene) (nodeBoxes : List Float) (nodeMarks order : List ℕ) where
  pub covered-so : {e f p q : Vector} {a : Result Sight Refusal} {n : ℕ} {seen : Bool}
      → a ≡ covered_of s nodeBoxes nodeMarks order e p → e ≡ f → p ≡ q → n ≡ answer_number a → seen ≡ in_sight a
      → (n ≡ answer_number (covered_of s nodeBoxes nodeMarks order f q)) × (seen ≡ in_sight (covered_of s nodeBoxes nodeMarks order f q))
  covered-so {e} {f} {p} {q} a x y n b =
      let k = a ∙ ap (λ (v : Vector). covered_of s nodeBoxes nodeMarks order v p) x ∙ ap (covered_of s nodeBoxes nodeMarks order f) y in
      (n ∙ ap answer_number k, b ∙ ap in_sight k)

  pub all_so : {e f : Vector} {tested : List Float} {told₀ told : List ℕ} {b : Result ⊤ Refusal} {n : ℕ}
      → AllTold s nodeBoxes nodeMarks order e tested told₀ b told → e ≡ f → n ≡ answer_number b → BatchTold s nodeBoxes nodeMarks order f tested told₀ n told
  all_so {tested} {told₀} {told} {b} t x n = (b, subst (λ (v : Vector). AllTold s nodeBoxes nodeMarks order v tested told₀ b told) x t, n)
