-- What the calls on paths answer, from what the proved functions gave. Assumes nothing.
use mathlib.Core.Path.{◌≡◌, ap, ◌∙◌, subst}
use mathlib.Core.List.{List}
use Prim.Native.Nat.{ℕ}
use lib.Ieee.{Float}
use Rattle.paths.specs.Paths.{Paths}
use Rattle.paths.specs.Ends.{Finished}
use Rattle.view.specs.declared.View.{View}
use Rattle.path_chop.specs.Chop.{chop_call}
use Rattle.geometry.specs.declared.vector.Vector.{Vector}
use Rattle.draw_outlines.specs.Calls.{outline_call}
use Rattle.scene.specs.Scenes.{Scene}
use Rattle.draw_render.specs.Render.{Places}
use Rattle.draw.specs.Draw.{draw_with}
use Rattle.host.specs.StageCalls.{points_told, paths_told, PathsTold}
use Rattle.std.specs.Prelude.{Option, Result}
use Rattle.refusals.specs.declared.Refusal.{Refusal}
use Rattle.solids.specs.declared.solid.Solid.{Solid}
use Rattle.refusals.specs.Refusals.{answer_number}

pub finished-so : (a : Result Paths Refusal) (x y : ℕ) {xs : List Float} {ss : List ℕ} {c : Result (ℕ × ℕ) Refusal} {number n m : ℕ}
    → Finished a x y xs ss c → number ≡ answer_number c → n ≡ points_told c → m ≡ paths_told c → PathsTold a x y number xs ss n m
finished-so a x y f k n m = (k ∙ ap answer_number f.answer, (f.points_laid, (f.starts_laid, (n ∙ ap points_told f.answer, m ∙ ap paths_told f.answer))))

-- the view is what the array holds
pub view-so : {v w : View} (ps : List Float) (ss : List ℕ) (room startRoom x y : ℕ) {xs : List Float} {us : List ℕ} {c : Result (ℕ × ℕ) Refusal}
    → v ≡ w → Finished (chop_call v ps ss room startRoom) x y xs us c → Finished (chop_call w ps ss room startRoom) x y xs us c
view-so ps ss room startRoom x y {xs} {us} {c} e f = subst (λ (v : View). Finished (chop_call v ps ss room startRoom) x y xs us c) e f

-- a draw, likewise
pub draw-so : {v w : View} (t : Float) (s : Scene) (p : Places) (x y : ℕ) {xs : List Float} {ss : List ℕ} {c : Result (ℕ × ℕ) Refusal} {number n m : ℕ}
    → v ≡ w → Finished (draw_with t s v p) x y xs ss c → number ≡ answer_number c → n ≡ points_told c → m ≡ paths_told c → PathsTold (draw_with t s w p) x y number xs ss n m
draw-so {w = w} t s p x y {xs} {ss} {c} e f = finished-so (draw_with t s w p) x y (subst (λ (v : View). Finished (draw_with t s v p) x y xs ss c) e f)

-- an outline, of what the arrays hold
pub outline-so : {s s' : Option Solid} {e e' : Vector} {v v' : View} (m : List Float) (room startRoom x y : ℕ) {xs : List Float} {us : List ℕ} {c : Result (ℕ × ℕ) Refusal}
    → s ≡ s' → e ≡ e' → v ≡ v' → Finished (outline_call s e m v room startRoom) x y xs us c → Finished (outline_call s' e' m v' room startRoom) x y xs us c
outline-so m room startRoom x y hs he hv f = rw (← hs, ← he, ← hv) f
