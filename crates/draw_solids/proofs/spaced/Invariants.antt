use Rattle.draw_lines.proofs.Adding.{Adding}
use Rattle.draw_solids.proofs.Spacing.{stripes_left}
use Rattle.draw_solids.specs.Stripes.{degrees_from, stripe_by}
use Rattle.degrees.specs.Degrees.{cosine_of, sine_of}
use mathlib.Core.List.{map}
use Prim.Native.Nat.{◌-◌}
use Rattle.draw_solids.proofs.spaced.Given as goal

abbrev pub invariant-loop-a : goal.invariant-loop-a
invariant-loop-a l = Adding (map (λ d. stripe_by l.flank (cosine_of d) (sine_of d)) (degrees_from l.step 360 0)) l.initial.out l.initial.begins l.n l.m (stripes_left l.flank l.step l.a) l.out l.begins l.p l.q

abbrev pub decreases-loop-a : goal.decreases-loop-a
decreases-loop-a l = 360 - l.a
