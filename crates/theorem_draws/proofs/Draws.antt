-- What a draw does: the statement is in specs/Draws.antt. Assumes nothing.
use mathlib.Core.Path.{refl}
use lib.Ieee.{Float}
use Rattle.scene.specs.Scenes.{Scene}
use Rattle.paths.specs.Paths.{Paths}
use Rattle.view.specs.declared.View.{View}
use Rattle.theorem_filters.proofs.Cutting.{stage-cuts, stage-unbroken}
use Rattle.draw_render.specs.Render.{Places}
use Rattle.draw.specs.Drawing.{Drawing}
use Rattle.theorem_draws.specs.Draws.{test_in, OfADraw, WhatADrawDoes}
use Rattle.theorem_draws.proofs.Sheets.{call-drawn, build-answered, each_point, step-four-leaves, unsimplified-so, sheet-paths}
use Rattle.theorem_draws.proofs.Traces.{on-sheet}

pub of_a_draw : {t : Float} {s : Scene} {v : View} {w : Places} {q : Paths} (D : Drawing t s v w q) → OfADraw D
of_a_draw {s = s} {v = v} D = record {
  builds = build-answered D;
  each_point = each_point D;
  leaves = step-four-leaves D;
  cuts = stage-cuts (test_in s v) D.lines.vertices D.lines.starts _ _ D.passed D.filters;
  unbroken = stage-unbroken (test_in s v) D.lines.vertices D.lines.starts _ _ D.passed D.filters;
  unsimplified = unsimplified-so D;
  sheet = sheet-paths D;
  all_seen = on-sheet D;
}

pub what-a-draw-does : WhatADrawDoes
what-a-draw-does = record {
  six_steps = λ t s v w n m xs ss i j f. call-drawn t s v w n m f i j refl;
  of_a_draw = λ D. of_a_draw D;
}
