use Rattle.path_rdp.proofs.Scanning.{scanning-start, scanning-turn, scanning-end, root-start}
use Rattle.path_rdp.specs.Rdp.{vertex}
use Rattle.paths.proofs.Parts.{part_length, part_at, part-first, part-last}
use Rattle.paths.specs.Ends.{all_points}
use native.Mathlib.Omega.{arith}
use lib.Seq.{slice}
use mathlib.Core.Path.{◌∙◌, sym, ap}
use Prim.Native.Nat.{ℕ, ◌-◌}
use Rattle.path_rdp.proofs.farthest.Goals as goal

pub loop-i-init : goal.loop-i-init
loop-i-init c =
    let args = c.args in let pre = c.requires in (scanning-start _ (omega (arith, part_length args.path.now args.from args.end pre.1)), root-start)

pub tried-best-requires : goal.tried-best-requires
tried-best-requires c =
    c.loop-i.invariant.1

pub loop-i-preserved : goal.loop-i-preserved
loop-i-preserved c =
    let args = c.args in let pre = c.requires in let s = part_length args.path.now args.from args.end pre.1 in (
      scanning-turn _ _ _ c.loop-i.invariant.0 c.read_point-p.result c.read_point-a.result c.read_point-b.result c.segment_square-q.result _
          (omega (arith, c.loop-i-test.true))
          (c.read_point-a.ensures ∙ part-first args.path.now args.from args.end pre.1 (omega (arith, pre.0)))
          (c.read_point-b.ensures ∙ part-last args.path.now args.from args.end pre.1 (omega (arith, pre.0)) ∙ ap (λ (n : ℕ). vertex (slice args.from args.end (all_points args.path.now)) (n - 1)) (sym s))
          (c.read_point-p.ensures ∙ part_at args.path.now args.from args.end pre.1 _ (omega (arith, c.loop-i-test.true)))
          c.segment_square-q.ensures c.tried-best.ensures.far,
      c.tried-best.ensures.root,
    )

pub returns : goal.returns
returns c =
    let args = c.args in let pre = c.requires in scanning-end _ _ _ c.loop-i.invariant.0 (omega (arith, c.loop-i-test.false, part_length args.path.now args.from args.end pre.1))
