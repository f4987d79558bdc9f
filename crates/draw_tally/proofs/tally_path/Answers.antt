use Rattle.std.proofs.lemmas.Result.{err_from_is_err_and}
use mathlib.Core.Path.{sym, ◌∙◌}
use native.Mathlib.Omega.{arith}
use Rattle.draw_tally.proofs.Turning.{path-full, path-refused, path-done, from_within}
use Rattle.draw_tally.proofs.tally_path.Goals as goal

pub returns-then-begins-m : goal.returns-then-begins-m
returns-then-begins-m c =
    path-full _ _ _ _ c.if-begins-m.true

pub paths_left-l-requires : goal.paths_left-l-requires
paths_left-l-requires c =
    let args = c.args in let fits = c.ranges in let pre = c.requires in omega (arith, (from_within args.room args.begins _ _ args.n args.m args.n (record { points = pre.2; before = c.if-begins-m.false }) (sym c.tally_from.ensures ∙ c.in_ok-a.was)).before, fits.begins)

pub returns-in_err-a : goal.returns-in_err-a
returns-in_err-a c =
    let p = err_from_is_err_and c.from_residual.result c.from_residual.ensures.1 in rw (p.1, p.2) (path-refused _ _ _ _ c.if-begins-m.false c.tally_from.ensures c.in_err-a.was)

pub returns : goal.returns
returns c =
    path-done _ _ _ _ c.if-begins-m.false c.tally_from.ensures c.in_ok-a.was c.paths_left-l.ensures
