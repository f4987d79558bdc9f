use Rattle.draw_lines.proofs.Adding.{adds-as, fit-both}
use Rattle.draw_solids.specs.Stripes.{stripe_by}
use mathlib.Core.List.{[], ◌∷◌}
use Rattle.draw_solids.proofs.stripe.Goals as goal

pub line-requires : goal.line-requires
line-requires c =
    let args = c.args in let pre = c.requires in fit-both args.out.now args.begins.now args.n args.m pre.0 pre.1

pub line-requires-in-Slanted : goal.line-requires-in-Slanted
line-requires-in-Slanted c =
    let args = c.args in let pre = c.requires in fit-both args.out.now args.begins.now args.n args.m pre.0 pre.1

pub returns-in-Upright : goal.returns-in-Upright
unfolding stripe_by
returns-in-Upright c =
    let args = c.args in (adds-as _ (stripe_by args.flank args.c args.s ∷ []) c.line.ensures (rw (c.in-Upright.is, c.new.ensures, c.new-in-Upright.ensures))).ends

pub returns-in-Slanted : goal.returns-in-Slanted
unfolding stripe_by
returns-in-Slanted c =
    let args = c.args in (adds-as _ (stripe_by args.flank args.c args.s ∷ []) c.line-in-Slanted.ensures (rw (c.in-Slanted.is, c.new-in-Slanted.ensures, c.new-in-Slanted-2.ensures))).ends
