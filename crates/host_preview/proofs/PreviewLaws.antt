-- What the host's preview answers, from what the proved function gave. Assumes nothing.
use mathlib.Core.Path.{◌≡◌, ap, ◌∙◌}
use Prim.Native.Nat.{ℕ}
use lib.Ieee.{Float}
use Rattle.scene.specs.Scenes.{Scene}
use Rattle.paths.specs.Ends.{counted}
use Rattle.view.specs.declared.View.{View}
use Rattle.draw_render.specs.Render.{Places}
use Rattle.draw.specs.Draw.{draw_with}
use Rattle.host.specs.StageCalls.{points_told, paths_told}
use Rattle.host_preview.specs.PreviewCalls.{PreviewTold}
use Rattle.refusals.specs.declared.Refusal.{Refusal}
use Rattle.std.specs.Prelude.{Result}
use Rattle.refusals.specs.Refusals.{answer_number}

-- the view is what the array holds
pub preview-so : (t : Float) (s : Scene) (p : Places) {v w : View} {c : Result (ℕ × ℕ) Refusal} {number n m : ℕ} → v ≡ w → c ≡ counted (draw_with t s v p) → number ≡ answer_number c → n ≡ points_told c → m ≡ paths_told c
    → PreviewTold (counted (draw_with t s w p)) number n m
preview-so t s p e k a b d =
    let q = k ∙ ap (λ (v : View). counted (draw_with t s v p)) e in
    (a ∙ ap answer_number q, (b ∙ ap points_told q, d ∙ ap paths_told q))
