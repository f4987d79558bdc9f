use Rattle.draw_clip.proofs.Clipping.{clipped, beyond, put}
use Rattle.draw_clip.proofs.clip_filter.Goals as goal

pub returns-then-not-clips : goal.returns-then-not-clips
returns-then-not-clips c =
    clipped _ _ _ _ c.mul_position_w-projected.ensures _ c.clips.ensures c.if-not-clips.true

pub returns-then-not-within_point : goal.returns-then-not-within_point
returns-then-not-within_point c =
    beyond _ _ _ _ c.mul_position_w-projected.ensures _ c.clips.ensures c.if-not-clips.false _ c.within_point.ensures c.if-not-within_point.true

pub returns : goal.returns
returns c =
    put _ _ _ _ c.mul_position_w-projected.ensures _ c.clips.ensures c.if-not-clips.false _ c.within_point.ensures c.if-not-within_point.false _ c.visible-s.ensures _ c.by_sight.ensures
