use lib.ListN.{length}
use Rattle.text_reply.specs.Reply.{reply_of}
use Rattle.text_drawing.specs.Drawings.{fitting}
use Rattle.text_reply.proofs.Fitting.{shown-whole}
use Rattle.text_reply.proofs.Showing.{shown-at, shown-none}
use borrow.Author.Rules.{rules}
use Rattle.text_reply.proofs.answer.Goals as goal

pub returns-in-Ok : goal.returns-in-Ok
returns-in-Ok c =
    let args = c.args in record { whole = (shown-whole args.text.now (length args.out.now) _ _ (shown-at _ _ (fitting (length args.out.now) (reply_of args.text.now)) c.reply-r.ensures.answer c.reply-r.ensures.lent c.in-Ok.is) c.reply-r.ensures.lent).0; lent = (shown-whole args.text.now (length args.out.now) _ _ (shown-at _ _ (fitting (length args.out.now) (reply_of args.text.now)) c.reply-r.ensures.answer c.reply-r.ensures.lent c.in-Ok.is) c.reply-r.ensures.lent).1.0; part = (shown-whole args.text.now (length args.out.now) _ _ (shown-at _ _ (fitting (length args.out.now) (reply_of args.text.now)) c.reply-r.ensures.answer c.reply-r.ensures.lent c.in-Ok.is) c.reply-r.ensures.lent).1.1 }

pub returns-in-Err : goal.returns-in-Err
returns-in-Err c =
    let args = c.args in record { whole = (shown-whole args.text.now (length args.out.now) _ c.reply-r.new.out (shown-none (length args.out.now) c.reply-r.new.out (fitting (length args.out.now) (reply_of args.text.now)) c.reply-r.ensures.answer c.in-Err.is) c.reply-r.ensures.lent).0; lent = (shown-whole args.text.now (length args.out.now) _ c.reply-r.new.out (shown-none (length args.out.now) c.reply-r.new.out (fitting (length args.out.now) (reply_of args.text.now)) c.reply-r.ensures.answer c.in-Err.is) c.reply-r.ensures.lent).1.0; part = (shown-whole args.text.now (length args.out.now) _ c.reply-r.new.out (shown-none (length args.out.now) c.reply-r.new.out (fitting (length args.out.now) (reply_of args.text.now)) c.reply-r.ensures.answer c.in-Err.is) c.reply-r.ensures.lent).1.1 }
