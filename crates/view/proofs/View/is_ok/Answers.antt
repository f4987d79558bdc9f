use Rattle.view.specs.Views.{view_ok}
use Rattle.view.proofs.View.is_ok.Goals as goal

pub returns-then-not-finite_matrix : goal.returns-then-not-finite_matrix
unfolding view_ok
returns-then-not-finite_matrix c =
    rw (← c.finite_matrix.ensures, c.if-not-finite_matrix.true)

pub returns-then-not-within_point : goal.returns-then-not-within_point
unfolding view_ok
returns-then-not-within_point c =
    rw (← c.finite_matrix.ensures, c.if-not-finite_matrix.false, ← c.within_point.ensures, c.if-not-within_point.true)

pub returns-then-not-extent_ok : goal.returns-then-not-extent_ok
unfolding view_ok
returns-then-not-extent_ok c =
    rw (← c.finite_matrix.ensures, c.if-not-finite_matrix.false, ← c.within_point.ensures, c.if-not-within_point.false, ← c.extent_ok.ensures, c.if-not-extent_ok.true)

pub returns-then-not-extent_ok-2 : goal.returns-then-not-extent_ok-2
unfolding view_ok
returns-then-not-extent_ok-2 c =
    rw (← c.finite_matrix.ensures, c.if-not-finite_matrix.false, ← c.within_point.ensures, c.if-not-within_point.false, ← c.extent_ok.ensures, c.if-not-extent_ok.false, ← c.extent_ok-2.ensures, c.if-not-extent_ok-2.true)

pub returns : goal.returns
unfolding view_ok
returns c =
    rw (← c.finite_matrix.ensures, c.if-not-finite_matrix.false, ← c.within_point.ensures, c.if-not-within_point.false, ← c.extent_ok.ensures, c.if-not-extent_ok.false, ← c.extent_ok-2.ensures, c.if-not-extent_ok-2.false) c.step_ok.ensures
