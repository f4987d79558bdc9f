-- Demand 2: the page of specs/Demand2.antt, from the theorems on each method. Assumes nothing.
use mathlib.Core.Path.{refl}
use Rattle.sqrt.specs.Root.{sqrt_of}
use Rattle.sqrt.proofs.Nearest.{nearest-of-all}
use Rattle.theorem_published.specs.Demand2.{Demand2}
use Rattle.theorem_published.proofs.Slabs.{slanted-meets-all, test-is-overlap, passes-exactly-ahead, swapped-by-comparison, entered-last, left-first, within-all-slabs}
use Rattle.theorem_published.proofs.Planes.{exact-slab, exact-slab-down, wholes-ordered}
use Rattle.theorem_published.proofs.Cramer.{triangle_is_formula, cramers-rule, only-solution}
use Rattle.theorem_published.proofs.Peucker.{simplified-as-published, only-published, simplified_by_scan, only-by-scan}

pub demand-2 : Demand2
unfolding sqrt_of
demand-2 = record {
  root_nearest = nearest-of-all;
  root_of_zero = λ sign e. refl;
  root_of_infinity = refl;
  root_of_negative = λ m e. refl;
  root_of_minus_infinity = refl;
  root_of_nan = refl;
  box_is_overlap = test-is-overlap;
  box_passes = passes-exactly-ahead;
  box_slanted = slanted-meets-all;
  box_exact = exact-slab;
  box_exact_down = exact-slab-down;
  box_exact_wholes = wholes-ordered;
  box_swapped = swapped-by-comparison;
  box_entered = entered-last;
  box_left = left-first;
  box_within = within-all-slabs;
  triangle_is_formula = triangle_is_formula;
  triangle_solves = cramers-rule;
  triangle_only = only-solution;
  simplified_so = simplified-as-published;
  simplified_only = only-published;
  simplified_by_scan = simplified_by_scan;
  simplified_only_by_scan = only-by-scan;
}
