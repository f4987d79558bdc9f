use mathlib.Core.Path.{sym, ◌∙◌}
use Rattle.limits.proofs.Limits.{within-point}
use Rattle.draw_clip.proofs.Clipping.{clipped, beyond, put, ready-kept}
use Rattle.draw_clip.proofs.quick_filter.Goals as goal

pub returns-then-not-clips : goal.returns-then-not-clips
returns-then-not-clips c =
    let pre = c.requires in (clipped _ _ _ _ c.mul_position_w-w.ensures _ c.clips.ensures c.if-not-clips.true, pre)

pub returns-then-not-within_point : goal.returns-then-not-within_point
returns-then-not-within_point c =
    let pre = c.requires in (beyond _ _ _ _ c.mul_position_w-w.ensures _ c.clips.ensures c.if-not-clips.false _ c.within_point.ensures c.if-not-within_point.true, pre)

pub sight-s-requires : goal.sight-s-requires
sight-s-requires c =
    let pre = c.requires.prepared in (λ e. ((pre.tree e).0, (pre.tree e).1, within-point _ (sym c.within_point.ensures ∙ c.if-not-within_point.false)), pre.solids, pre.kept, c.gap-distance.ensures)

pub returns : goal.returns
returns c =
    let pre = c.requires in (put _ _ _ _ c.mul_position_w-w.ensures _ c.clips.ensures c.if-not-clips.false _ c.within_point.ensures c.if-not-within_point.false _ c.sight-s.ensures.0 _ c.by_sight.ensures, record { ends_told = pre.ends_told; prepared = ready-kept _ _ _ _ _ _ _ _ _ _ _ pre.prepared _ _ c.sight-s.ensures.1 })
