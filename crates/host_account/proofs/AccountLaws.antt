-- What the host's calls for the account answer, from what the proved functions gave. Assumes nothing.
use mathlib.Core.Path.{◌≡◌, subst}
use Prim.Native.Nat.{ℕ}
use mathlib.Core.List.{List}
use lib.Ieee.{Float}
use Rattle.scene.specs.Scenes.{Scene}
use Rattle.paths.specs.Ends.{Finished}
use Rattle.view.specs.declared.View.{View}
use Rattle.draw_collect.specs.Collect.{LineRoom}
use Rattle.draw_fates.specs.Fates.{AllFates}
use Rattle.draw_entry_lines.specs.EntryLines.{entry_lines}
use Rattle.host.specs.StageCalls.{points_told, paths_told, PathsTold}
use Rattle.host.proofs.StageCalls.{finished-so}
use Rattle.host_account.specs.AccountCalls.{FatesTold}
use Rattle.refusals.specs.declared.Refusal.{Refusal}
use Rattle.std.specs.Prelude.{Result, ⊤}
use Rattle.refusals.specs.Refusals.{answer_number}

-- the view is what the array holds
pub fates-so : {s : Scene} {boxes : List Float} {marks order : List ℕ} {v w : View} {tested : List Float} {told₀ told : List ℕ} {b : Result ⊤ Refusal} {n : ℕ}
    → v ≡ w → AllFates s boxes marks order v tested told₀ b told → n ≡ answer_number b → FatesTold s boxes marks order w tested told₀ n told
fates-so {s} {boxes} {marks} {order} {tested = tested} {told₀ = told₀} {told = told} {b = b} e f n = (b, subst (λ (v : View). AllFates s boxes marks order v tested told₀ b told) e f, n)

pub lines-so : {v w : View} (s : Scene) (p : LineRoom) (part : List ℕ) (x y : ℕ) {xs : List Float} {ss : List ℕ} {c : Result (ℕ × ℕ) Refusal} {number n m : ℕ}
    → v ≡ w → Finished (entry_lines s v p part) x y xs ss c → number ≡ answer_number c → n ≡ points_told c → m ≡ paths_told c → PathsTold (entry_lines s w p part) x y number xs ss n m
lines-so {w = w} s p part x y {xs} {ss} {c} e f = finished-so (entry_lines s w p part) x y (subst (λ (v : View). Finished (entry_lines s v p part) x y xs ss c) e f)
