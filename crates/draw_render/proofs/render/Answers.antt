-- All solids' lines: the part from place 0 on, `count` of them.
use Rattle.draw_render.specs.Render.{rendered, rendered_part}
use Rattle.draw_render.proofs.render.Goals as goal

pub returns : goal.returns
unfolding rendered rendered_part
returns c = c.render_part.ensures
