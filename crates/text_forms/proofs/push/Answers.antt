use Rattle.text_forms.proofs.Entries.{numbers_more, marks-more}
use native.Mathlib.Omega.{arith}
use Rattle.text_forms.proofs.push.Goals as goal

pub write_numbers-requires : goal.write_numbers-requires
write_numbers-requires c =
    let pre = c.requires in omega (arith, pre.0, pre.1.0)

pub put_marks-requires : goal.put_marks-requires
put_marks-requires c =
    let pre = c.requires in omega (arith, pre.0, pre.1.1)

pub returns : goal.returns
returns c =
    let pre = c.requires in record { numbers_after = numbers_more _ _ _ pre.0 pre.1.0 c.write_numbers.ensures; marks_after = marks-more _ _ _ _ _ _ pre.0 pre.1.1 c.put_marks.ensures }
