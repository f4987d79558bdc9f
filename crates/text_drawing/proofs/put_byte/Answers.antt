use Rattle.std.proofs.lemmas.Result.{err_from_is_err_and}
use Rattle.text_drawing.proofs.Adding.{byte-refused, byte_full, byte_put}
use Rattle.text_drawing.proofs.put_byte.Goals as goal

pub returns-then-n-text : goal.returns-then-n-text
returns-then-n-text c =
    byte_put _ _ _ c.in_ok-n.was c.if-n-text.true

pub returns-in_err-n : goal.returns-in_err-n
returns-in_err-n c =
    let p = err_from_is_err_and c.from_residual.result c.from_residual.ensures.1 in rw (p.1, p.2) (byte-refused _ _ _ c.in_err-n.was)

pub returns : goal.returns
returns c =
    let pre = c.requires in byte_full _ _ _ c.in_ok-n.was (pre _ c.in_ok-n.was) c.if-n-text.false
