use Rattle.path_rdp.proofs.Scanning.{peaking-start, peaking-stays, peaking-turn, peaking-end}
use Rattle.path_rdp.specs.Rdp.{vertex}
use Rattle.paths.proofs.Parts.{part_length, part_at, part-first, part-last}
use Rattle.paths.specs.Ends.{all_points}
use native.Mathlib.Omega.{arith}
use lib.Seq.{slice}
use mathlib.Core.Path.{◌∙◌, sym, ap}
use Prim.Native.Nat.{ℕ, ◌-◌}
use Rattle.path_rdp.proofs.greatest_square.Goals as goal

pub loop-i-init : goal.loop-i-init
loop-i-init c =
    let args = c.args in let pre = c.requires in peaking-start _ (omega (arith, part_length args.path.now args.from args.end pre.1))

pub loop-i-preserved-then-not-q-square : goal.loop-i-preserved-then-not-q-square
loop-i-preserved-then-not-q-square c =
    let args = c.args in let pre = c.requires in let s = part_length args.path.now args.from args.end pre.1 in
    peaking-stays _ _ _ c.loop-i.invariant c.read_point-p.result c.read_point-a.result c.read_point-b.result c.segment_square-q.result
    (omega (arith, c.loop-i-test.true))
    (c.read_point-a.ensures ∙ part-first args.path.now args.from args.end pre.1 (omega (arith, pre.0)))
    (c.read_point-b.ensures ∙ part-last args.path.now args.from args.end pre.1 (omega (arith, pre.0)) ∙ ap (λ (n : ℕ). vertex (slice args.from args.end (all_points args.path.now)) (n - 1)) (sym s))
    (c.read_point-p.ensures ∙ part_at args.path.now args.from args.end pre.1 _ (omega (arith, c.loop-i-test.true)))
    c.segment_square-q.ensures c.if-not-q-square.true

pub loop-i-preserved : goal.loop-i-preserved
loop-i-preserved c =
    let args = c.args in let pre = c.requires in let s = part_length args.path.now args.from args.end pre.1 in
    peaking-turn _ _ _ c.loop-i.invariant c.read_point-p.result c.read_point-a.result c.read_point-b.result c.segment_square-q.result
    (omega (arith, c.loop-i-test.true))
    (c.read_point-a.ensures ∙ part-first args.path.now args.from args.end pre.1 (omega (arith, pre.0)))
    (c.read_point-b.ensures ∙ part-last args.path.now args.from args.end pre.1 (omega (arith, pre.0)) ∙ ap (λ (n : ℕ). vertex (slice args.from args.end (all_points args.path.now)) (n - 1)) (sym s))
    (c.read_point-p.ensures ∙ part_at args.path.now args.from args.end pre.1 _ (omega (arith, c.loop-i-test.true)))
    c.segment_square-q.ensures c.if-not-q-square.false

pub returns : goal.returns
returns c =
    let args = c.args in let pre = c.requires in peaking-end _ _ _ c.loop-i.invariant (omega (arith, c.loop-i-test.false, part_length args.path.now args.from args.end pre.1))
