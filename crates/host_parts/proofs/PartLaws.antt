-- What the host's draw of some parts answers, from what the proved function gave. Assumes nothing.
use mathlib.Core.Path.{◌≡◌, subst}
use Prim.Native.Nat.{ℕ}
use mathlib.Core.List.{List}
use lib.Ieee.{Float}
use Rattle.scene.specs.Scenes.{Scene}
use Rattle.paths.specs.Ends.{Finished}
use Rattle.view.specs.declared.View.{View}
use Rattle.draw_render.specs.Render.{Places}
use Rattle.draw.specs.Draw.{draw_range}
use Rattle.host.specs.StageCalls.{points_told, paths_told, PathsTold}
use Rattle.host.proofs.StageCalls.{finished-so}
use Rattle.refusals.specs.declared.Refusal.{Refusal}
use Rattle.std.specs.Prelude.{Result}
use Rattle.refusals.specs.Refusals.{answer_number}

-- the view is what the array holds
pub range-so : {v w : View} (t : Float) (s : Scene) (p : Places) (first many x y : ℕ) {xs : List Float} {ss : List ℕ} {c : Result (ℕ × ℕ) Refusal} {number n m : ℕ}
    → v ≡ w → Finished (draw_range t s v p first many) x y xs ss c → number ≡ answer_number c → n ≡ points_told c → m ≡ paths_told c → PathsTold (draw_range t s w p first many) x y number xs ss n m
range-so {w = w} t s p first many x y {xs} {ss} {c} e f = finished-so (draw_range t s w p first many) x y (subst (λ (v : View). Finished (draw_range t s v p first many) x y xs ss c) e f)
