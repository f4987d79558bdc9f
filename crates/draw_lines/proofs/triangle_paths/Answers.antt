use Rattle.draw_lines.proofs.Adding.{add-path}
use mathlib.Core.Path.{refl}
use mathlib.Core.List.{[], ◌∷◌}
use Rattle.rows.specs.Rows.{view}
use Rattle.draw_lines.specs.Lines.{triangle_paths}
use Rattle.draw_lines.proofs.triangle_paths.Goals as goal

pub returns : goal.returns
unfolding view triangle_paths
returns c =
    let args = c.args in add-path args.out.now args.begins.now args.n args.m _ (args.v1 ∷ args.v2 ∷ args.v3 ∷ args.v1 ∷ []) refl _ _ c.one_path.ensures
