use Rattle.host_bench.proofs.Walks.{sees-so}
use Rattle.host_bench.proofs.bench_visible.Goals as goal

pub returns : goal.returns
returns c =
    sees-so _ _ _ _ _ _ c.visible-s.ensures c.point.ensures c.point-2.ensures
    c.answer_number.ensures
    c.in_sight.ensures
