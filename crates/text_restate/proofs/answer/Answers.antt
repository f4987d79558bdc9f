use lib.ListN.{length}
use Rattle.text_restate.specs.Restating.{restate_of}
use Rattle.text_drawing.specs.Drawings.{fitting}
use Rattle.text_reply.proofs.Showing.{shown-at, shown-none}
use borrow.Author.Rules.{rules}
use Rattle.text_restate.proofs.answer.Goals as goal

pub returns-in-Ok : goal.returns-in-Ok
returns-in-Ok c =
    let args = c.args in record { lent = c.restate-r.ensures.lent; part = shown-at _ _ (fitting (length args.out.now) (restate_of (length args.out.now) args.text.now)) c.restate-r.ensures.answer c.restate-r.ensures.lent c.in-Ok.is }

pub returns-in-Err : goal.returns-in-Err
returns-in-Err c =
    let args = c.args in record { lent = c.restate-r.ensures.lent; part = shown-none (length args.out.now) c.restate-r.new.out (fitting (length args.out.now) (restate_of (length args.out.now) args.text.now)) c.restate-r.ensures.answer c.in-Err.is }
