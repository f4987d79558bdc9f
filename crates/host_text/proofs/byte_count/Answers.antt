use Rattle.host_text.specs.TextCalls.{bytes_told}
use Rattle.host_text.proofs.byte_count.Goals as goal

pub returns-in-Ok : goal.returns-in-Ok
unfolding bytes_told
returns-in-Ok c =
    rw c.in-Ok.is

pub returns-in-Err : goal.returns-in-Err
unfolding bytes_told
returns-in-Err c =
    rw c.in-Err.is
