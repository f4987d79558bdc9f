-- The lines of a cut, sifted: each way out. Assumes nothing.
use mathlib.Core.Path.{◌≡◌, sym, ◌∙◌}
use mathlib.Core.Bool.{Bool, true, false}
use mathlib.Core.List.{List}
use Prim.Native.Nat.{ℕ, ◌*◌, ◌≤◌}
use lib.ListN.{length, take}
use lib.Ieee.{Float}
use Rattle.refusals.specs.declared.Refusal.{Refusal}
use Rattle.refusals.specs.declared.Refusal.TheVariants.{Point}
use Rattle.scene_shape.specs.Shapes.{Shape}
use Rattle.paths.specs.Paths.{Paths, paths_with}
use Rattle.paths.specs.Ends.{places, all_points, held, EndsBoth}
use Rattle.paths.specs.Judged.{points_ok}
use Rattle.paths.proofs.Ending.{both_at, both-refused, refuses-both}
use Rattle.paths.proofs.Parts.{part-all}
use Rattle.draw_lines.proofs.Adding.{ends-both-as}
use Rattle.view.specs.declared.RenderArgs.{RenderArgs}
use Rattle.path_chop.specs.Chop.{chop_paths}
use Rattle.draw_cuts.specs.Cuts.{cut_paths}
use Rattle.draw_collect.specs.Collect.{handed, chopped_lines, sifted}
use Rattle.draw_collect.specs.Slices.{room_of}
use Rattle.std.specs.Prelude.{Err, Ok, Result}

-- points that are handed on, and points that are not
pub handed-on : (p : Paths) → points_ok p.vertices ≡ true → handed p ≡ Ok p
unfolding handed
handed-on p h = rw h

pub handed-far : (p : Paths) → points_ok p.vertices ≡ false → handed p ≡ Err Point
unfolding handed
handed-far p h = rw h

module _ (a : RenderArgs) (path : List Float) (starts : List ℕ) (room startRoom : ℕ) {b : Bool} (e : b ≡ points_ok (all_points path)) where
  pub chop-far : b ≡ false → (ys : List Float) (us : List ℕ) → EndsBoth (chopped_lines a room startRoom (paths_with (all_points path) starts)) ys us (Err Point)
  unfolding chopped_lines
  chop-far h ys us = refuses-both ys us (rw (handed-far (paths_with (all_points path) starts) (sym e ∙ h)))

  pub chop-near : b ≡ true → (ys : List Float) (us : List ℕ) {r : Result (ℕ × ℕ) Refusal} → EndsBoth (chop_paths a (all_points path) starts room startRoom) ys us r
      → EndsBoth (chopped_lines a room startRoom (paths_with (all_points path) starts)) ys us r
  unfolding chopped_lines
  chop-near h ys us f = ends-both-as (rw (handed-on (paths_with (all_points path) starts) (sym e ∙ h))) f

module _ (a : RenderArgs) (s : Shape) (path : List Float) (begins : List ℕ) (chopped : List Float) (choppedStarts : List ℕ) (n m : ℕ) (fit : n * 3 ≤ length path)
    (ys : List Float) (us : List ℕ) {c : Result (ℕ × ℕ) Refusal} (ends : EndsBoth (chopped_lines a (places chopped) (length choppedStarts) (paths_with (all_points (take (n * 3) path)) (take m begins))) ys us c) where
  chopped-as : chopped_lines a (places chopped) (length choppedStarts) (held n path m begins) ≡ chopped_lines a (places chopped) (length choppedStarts) (paths_with (all_points (take (n * 3) path)) (take m begins))
  chopped-as = rw (part-all path n fit)

  pub sift-refused : {k : Refusal} → c ≡ Err k → EndsBoth (sifted a (room_of (length path) (length begins) chopped choppedStarts) s (held n path m begins)) path begins (Err k)
  unfolding sifted
  sift-refused h = refuses-both path begins (rw (chopped-as, both-refused ends h))

  pub sift-filters : {p q : ℕ} → c ≡ Ok (p, q) → p * 3 ≤ length ys → (zs : List Float) (vs : List ℕ) {r : Result (ℕ × ℕ) Refusal}
      → EndsBoth (cut_paths s (all_points (take (p * 3) ys)) (take q us) (places path) (length begins)) zs vs r
      → EndsBoth (sifted a (room_of (length path) (length begins) chopped choppedStarts) s (held n path m begins)) zs vs r
  unfolding sifted
  sift-filters {p} {q} h l zs vs f = ends-both-as (rw (chopped-as, both_at ends h, part-all ys p l)) f
