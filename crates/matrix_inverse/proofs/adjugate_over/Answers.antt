use Rattle.matrix_inverse.specs.Inverses.{adjugate_over}
use Rattle.matrix_inverse.proofs.adjugate_over.Goals as goal

pub returns : goal.returns
unfolding adjugate_over
returns c =
    let e1 = c.cofactor-8.ensures in let e2 = c.other_cofactor-8.ensures in let e3 = c.cofactor-7.ensures in let e4 = c.other_cofactor-7.ensures in let e5 = c.other_cofactor-6.ensures in let e6 = c.cofactor-6.ensures in let e7 = c.other_cofactor-5.ensures in let e8 = c.cofactor-5.ensures in let e9 = c.cofactor-4.ensures in let e10 = c.other_cofactor-4.ensures in let e11 = c.cofactor-3.ensures in let e12 = c.other_cofactor-3.ensures in let e13 = c.other_cofactor-2.ensures in let e14 = c.cofactor-2.ensures in let e15 = c.other_cofactor.ensures in let e16 = c.cofactor.ensures in λ i. record { x00 = e16 i; x01 = e15 i; x02 = e14 i; x03 = e13 i; x10 = e12 i; x11 = e11 i; x12 = e10 i; x13 = e9 i; x20 = e8 i; x21 = e7 i; x22 = e6 i; x23 = e5 i; x30 = e4 i; x31 = e3 i; x32 = e2 i; x33 = e1 i }
