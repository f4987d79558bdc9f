use Rattle.text_drawing.proofs.Digits.{hex-done, hex-last}
use mathlib.Core.Path.{◌∙◌}
use native.Mathlib.Omega.{arith}
use Rattle.text_drawing.proofs.+put_hex.Goals as goal

pub returns-then-k-eq0 : goal.returns-then-k-eq0
returns-then-k-eq0 t c = hex-done _ _ c.requires c.if-k-eq0.true

pub put_hex-d-requires : goal.put_hex-d-requires
put_hex-d-requires t c = (omega (arith, c.if-k-eq0.false), c.requires)

pub put_byte-requires : goal.put_byte-requires
put_byte-requires t c = c.put_hex-d.ensures.fits

pub shape_of-text : goal.shape_of-text
shape_of-text t c = c.put_byte.auto.text ∙ c.put_hex-d.auto.text

pub returns : goal.returns
returns t c =
    hex-last _ _ c.if-k-eq0.false c.put_hex-d.ensures c.put_hex-d.auto.text c.digit_byte.ensures c.put_byte.ensures
