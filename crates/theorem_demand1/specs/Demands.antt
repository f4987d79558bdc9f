-- What is claimed of the code, in one value, `demands` (proofs/Demands.antt). Demand 1 has the theorem of each call, which says that the call ends and
-- leaves what its `ensures` says. The pages beside it say what these answers come to: demand 2 of sqrt_of, box_test, triangle_hit and simplified; demand 3 of
-- the answers of build, visible, occluder, simplify and draw_with; and what becomes of each line in a draw. None of it is empty: document 01's worked pieces
-- and scenes of a few solids are answered, and what is answered is written there. A check that refuses every scene, or solids that no ray hits, fails by them.
use Rattle.theorem_pieces.specs.Worked.{WorkedPieces}
use Rattle.theorem_solids.specs.OpenCube.{WorkedCuts}
use Rattle.theorem_published.specs.Demand2.{Demand2}
use Rattle.theorem_demand3.specs.Demand3.{Demand3}
use Rattle.theorem_demand3.specs.Witnesses.{CubeCovers, SampleDraws, LidHides}
use Rattle.theorem_draws.specs.Draws.{WhatADrawDoes}
use Rattle.theorem_demand1.specs.Demand1.{Demand1}

-- M is any carrier that the logic of the calls' theorems is read over
pub record Demands (M : Type 1) : Type 2 where
  pub demand1 : Demand1 M
  pub demand2 : Demand2
  pub demand3 : Demand3
  pub draws : WhatADrawDoes
  -- document 01's pieces marked P, and its cut; its cube, seen and hidden; its sample yard, drawn; a lid
  pub pieces : WorkedPieces
  pub cuts : WorkedCuts
  pub cube : CubeCovers
  pub sample : SampleDraws
  pub lid : LidHides
