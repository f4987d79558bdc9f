use Rattle.draw_lines.proofs.Adding.{adds_then, fit-both}
use mathlib.Core.Path.{◌∙◌}
use borrow.Author.Tests.{eq-eqb, ne_eqb}
use Rattle.draw_lines.specs.Cubes.{stripe}
use Rattle.draw_lines.proofs.stripe.Goals as goal
use Rattle.std.specs.Prelude.{Ok}

pub sides-c-requires : goal.sides-c-requires
sides-c-requires c =
    let args = c.args in let pre = c.requires in fit-both args.out.now args.begins.now args.n args.m pre.0 pre.1

pub faces-requires : goal.faces-requires
faces-requires c =
    c.sides-c.ensures.ends.fits

pub shape_of-out-then-i-stripes : goal.shape_of-out-then-i-stripes
shape_of-out-then-i-stripes c =
    c.faces.auto.out ∙ c.sides-c.auto.out

pub shape_of-begins-then-i-stripes : goal.shape_of-begins-then-i-stripes
shape_of-begins-then-i-stripes c =
    c.faces.auto.begins ∙ c.sides-c.auto.begins

pub returns-then-i-stripes : goal.returns-then-i-stripes
unfolding stripe
returns-then-i-stripes c =
    let args = c.args in rw (ne_eqb _ _ c.if-i-stripes.true, ← c.stripe_at-s.ensures) (adds_then _ _ (Ok (args.n, args.m)) args.out.now args.begins.now _ _ _ _ c.sides-c.ensures c.sides-c.auto.out c.sides-c.auto.begins c.faces.ensures).ends

pub faces-requires-2 : goal.faces-requires-2
faces-requires-2 c =
    let args = c.args in let pre = c.requires in fit-both args.out.now args.begins.now args.n args.m pre.0 pre.1

pub shape_of-out : goal.shape_of-out
shape_of-out c =
    c.faces-2.auto.out

pub shape_of-begins : goal.shape_of-begins
shape_of-begins c =
    c.faces-2.auto.begins

pub returns : goal.returns
unfolding stripe
returns c =
    rw (eq-eqb _ _ c.if-i-stripes.false, ← c.stripe_at-s.ensures) c.faces-2.ensures.ends
