use Rattle.check_parts.proofs.Parts.{kind_of, first_of, second_of, never, other, before-it, six-no, six-yes, seven-no-first, second-before, seven-no, seven-yes}
use native.Mathlib.Omega.{arith}
use mathlib.Core.Path.{ap}
use Rattle.check_parts.proofs.enter.Goals as goal

pub read_marks-m-requires : goal.read_marks-m-requires
read_marks-m-requires c =
    omega (arith, c.requires.marked)

pub bounds-depths-a : goal.bounds-depths-a
bounds-depths-a c =
    let pre = c.requires in omega (arith, before-it _ _ _ _ pre.known pre.deep_room pre.flag_room (ap kind_of c.read_marks-m.ensures) (ap first_of c.read_marks-m.ensures) (ap second_of c.read_marks-m.ensures) c.take_part.ensures.value c.take_part.ensures.named_after c.if-take_part.true, pre.deep_room)

pub returns-then-take_part : goal.returns-then-take_part
returns-then-take_part c =
    let pre = c.requires in record { value = (six-yes _ _ _ _ pre.known pre.deep_room pre.flag_room (ap kind_of c.read_marks-m.ensures) (ap first_of c.read_marks-m.ensures) (ap second_of c.read_marks-m.ensures) c.take_part.ensures.value c.take_part.ensures.named_after c.if-m-eq6.true c.if-take_part.true c.put_depth.ensures.value c.put_depth.ensures.depths_after).0; known = (six-yes _ _ _ _ pre.known pre.deep_room pre.flag_room (ap kind_of c.read_marks-m.ensures) (ap first_of c.read_marks-m.ensures) (ap second_of c.read_marks-m.ensures) c.take_part.ensures.value c.take_part.ensures.named_after c.if-m-eq6.true c.if-take_part.true c.put_depth.ensures.value c.put_depth.ensures.depths_after).1 }

pub returns-then-m-eq6 : goal.returns-then-m-eq6
returns-then-m-eq6 c =
    let pre = c.requires in record { value = six-no _ _ _ _ pre.known pre.deep_room pre.flag_room (ap kind_of c.read_marks-m.ensures) (ap first_of c.read_marks-m.ensures) (ap second_of c.read_marks-m.ensures) c.take_part.ensures.value c.take_part.ensures.named_after c.if-m-eq6.true c.if-take_part.false; known = never }

pub bounds-depths-a-then-take_part-3 : goal.bounds-depths-a-then-take_part-3
bounds-depths-a-then-take_part-3 c =
    let pre = c.requires in omega (arith, before-it _ _ _ _ pre.known pre.deep_room pre.flag_room (ap kind_of c.read_marks-m.ensures) (ap first_of c.read_marks-m.ensures) (ap second_of c.read_marks-m.ensures) c.take_part-then-m-eq7.ensures.value c.take_part-then-m-eq7.ensures.named_after c.if-take_part-2.true, pre.deep_room)

pub bounds-depths-b : goal.bounds-depths-b
bounds-depths-b c =
    let pre = c.requires in omega (arith, second-before _ _ _ _ pre.known pre.deep_room pre.flag_room (ap kind_of c.read_marks-m.ensures) (ap first_of c.read_marks-m.ensures) (ap second_of c.read_marks-m.ensures) c.take_part-then-m-eq7.ensures.value c.take_part-then-m-eq7.ensures.named_after c.if-m-eq7.true c.if-m-eq6.false c.if-take_part-2.true c.take_part-then-take_part-2.ensures.value c.take_part-then-take_part-2.ensures.named_after c.if-take_part-3.true, pre.deep_room)

pub returns-then-take_part-3 : goal.returns-then-take_part-3
returns-then-take_part-3 c =
    let pre = c.requires in record { value = (seven-yes _ _ _ _ pre.known pre.deep_room pre.flag_room (ap kind_of c.read_marks-m.ensures) (ap first_of c.read_marks-m.ensures) (ap second_of c.read_marks-m.ensures) c.take_part-then-m-eq7.ensures.value c.take_part-then-m-eq7.ensures.named_after c.if-m-eq7.true c.if-m-eq6.false c.if-take_part-2.true c.take_part-then-take_part-2.ensures.value c.take_part-then-take_part-2.ensures.named_after c.if-take_part-3.true c.larger-d.ensures c.put_depth-then-take_part-3.ensures.value c.put_depth-then-take_part-3.ensures.depths_after).0; known = (seven-yes _ _ _ _ pre.known pre.deep_room pre.flag_room (ap kind_of c.read_marks-m.ensures) (ap first_of c.read_marks-m.ensures) (ap second_of c.read_marks-m.ensures) c.take_part-then-m-eq7.ensures.value c.take_part-then-m-eq7.ensures.named_after c.if-m-eq7.true c.if-m-eq6.false c.if-take_part-2.true c.take_part-then-take_part-2.ensures.value c.take_part-then-take_part-2.ensures.named_after c.if-take_part-3.true c.larger-d.ensures c.put_depth-then-take_part-3.ensures.value c.put_depth-then-take_part-3.ensures.depths_after).1 }

pub returns-else-take_part-3 : goal.returns-else-take_part-3
returns-else-take_part-3 c =
    let pre = c.requires in record { value = seven-no _ _ _ _ pre.known pre.deep_room pre.flag_room (ap kind_of c.read_marks-m.ensures) (ap first_of c.read_marks-m.ensures) (ap second_of c.read_marks-m.ensures) c.take_part-then-m-eq7.ensures.value c.take_part-then-m-eq7.ensures.named_after c.if-m-eq7.true c.if-m-eq6.false c.if-take_part-2.true c.take_part-then-take_part-2.ensures.value c.take_part-then-take_part-2.ensures.named_after c.if-take_part-3.false; known = never }

pub returns-else-take_part-2 : goal.returns-else-take_part-2
returns-else-take_part-2 c =
    let pre = c.requires in record { value = seven-no-first _ _ _ _ pre.known pre.deep_room pre.flag_room (ap kind_of c.read_marks-m.ensures) (ap first_of c.read_marks-m.ensures) (ap second_of c.read_marks-m.ensures) c.take_part-then-m-eq7.ensures.value c.take_part-then-m-eq7.ensures.named_after c.if-m-eq7.true c.if-m-eq6.false c.if-take_part-2.false; known = never }

pub returns : goal.returns
returns c =
    let pre = c.requires in record { value = (other _ _ _ _ pre.known pre.deep_room pre.flag_room (ap kind_of c.read_marks-m.ensures) (ap first_of c.read_marks-m.ensures) (ap second_of c.read_marks-m.ensures) c.if-m-eq6.false c.if-m-eq7.false c.put_depth-2.ensures.value c.put_depth-2.ensures.depths_after).0; known = (other _ _ _ _ pre.known pre.deep_room pre.flag_room (ap kind_of c.read_marks-m.ensures) (ap first_of c.read_marks-m.ensures) (ap second_of c.read_marks-m.ensures) c.if-m-eq6.false c.if-m-eq7.false c.put_depth-2.ensures.value c.put_depth-2.ensures.depths_after).1 }
