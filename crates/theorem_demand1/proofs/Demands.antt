-- All demands hold: the statement is in specs/Demands.antt. Assumes nothing.
use Rattle.theorem_pieces.proofs.Worked.{worked}
use Rattle.theorem_solids.proofs.OpenCube.{worked-cuts}
use Rattle.theorem_published.proofs.Demand2.{demand-2}
use Rattle.theorem_demand3.proofs.Demand3.{demand-3}
use Rattle.theorem_demand3.proofs.Cube.{cube-covers}
use Rattle.theorem_demand3.proofs.Sample.{sample-draws}
use Rattle.theorem_demand3.proofs.Lid.{lid-hides}
use Rattle.theorem_draws.proofs.Draws.{what-a-draw-does}
use Rattle.theorem_demand1.specs.Demands.{Demands}
use Rattle.theorem_demand1.proofs.Demand1.{demand-1}

pub demands : {M : Type 1} → Demands M
demands = record {
  demand1 = demand-1;
  demand2 = demand-2;
  demand3 = demand-3;
  draws = what-a-draw-does;
  pieces = worked;
  cuts = worked-cuts;
  cube = cube-covers;
  sample = sample-draws;
  lid = lid-hides;
}
