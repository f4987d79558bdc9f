use Rattle.text_drawing.proofs.Digits.{decimal-done, decimal-first, decimal-last}
use native.Mathlib.Omega.{arith}
use Rattle.text_drawing.proofs.+put_decimal.Goals as goal

pub returns-then-k-eq0 : goal.returns-then-k-eq0
returns-then-k-eq0 t c = decimal-done _ _ c.requires c.if-k-eq0.true

pub put_byte-requires : goal.put_byte-requires
put_byte-requires t c = c.requires

pub returns-then-n-lt10 : goal.returns-then-n-lt10
returns-then-n-lt10 t c =
    decimal-first _ _ c.if-k-eq0.false c.if-n-lt10.true c.digit_byte.ensures c.put_byte.ensures

pub put_decimal-d-requires : goal.put_decimal-d-requires
put_decimal-d-requires t c = (omega (arith, c.if-k-eq0.false), c.requires)

pub put_byte-requires-2 : goal.put_byte-requires-2
put_byte-requires-2 t c = c.put_decimal-d.ensures.fits

pub returns : goal.returns
returns t c =
    decimal-last _ _ c.if-k-eq0.false c.if-n-lt10.false c.put_decimal-d.ensures c.put_decimal-d.auto.text c.digit_byte-2.ensures c.put_byte-2.ensures
