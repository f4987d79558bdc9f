use Rattle.text_forms.proofs.Forms.{form-zero, form-none, form-as, body-round, body-plain, body-bare, body-place, body-half, body-cut, within-next, next-to, next-no, last-held, sized-kept, kept_more}
use Rattle.text_heads.specs.Cursors.{scene_upto, next_as, WithinNext}
use native.Mathlib.Omega.{arith}
use mathlib.Core.Path.{◌∙◌}
use mathlib.Core.List.{[]}
use Rattle.text_forms.proofs.+form.Goals as goal

pub returns-then-depth-eq0 : goal.returns-then-depth-eq0
unfolding next_as WithinNext
returns-then-depth-eq0 t c = record { owners_after = form-zero _ _ _ c.if-depth-eq0.true; within_next = tt }

pub returns-in_err-h : goal.returns-in_err-h
unfolding next_as WithinNext
returns-in_err-h t c = record { owners_after = rw c.from_residual.ensures (form-none _ _ _ _ c.opening_at.ensures c.in_err-h.was); within_next = rw c.from_residual.ensures tt }

pub round-requires : goal.round-requires
round-requires t c =
    (record { entries = c.requires.0.entries; points = c.requires.0.points; lines = c.requires.0.lines }, c.requires.1)

pub returns-then-is_round : goal.returns-then-is_round
unfolding scene_upto
returns-then-is_round t c =
    record {
      owners_after = c.round.ensures.owners_after ∙ body-round _ _ _ _ c.is_round.ensures c.if-is_round.true ∙ form-as _ _ _ _ c.if-depth-eq0.false c.opening_at.ensures c.in_ok-h.was;
      within_next = c.round.ensures.within_next;
    }

pub enclose-requires : goal.enclose-requires
enclose-requires t c =
    (record { entries = c.requires.0.entries; points = c.requires.0.points; lines = c.requires.0.lines }, (c.requires.1.numbers, c.requires.1.marks))

pub returns-then-h-le5 : goal.returns-then-h-le5
unfolding scene_upto
returns-then-h-le5 t c =
    record {
      owners_after = c.enclose.ensures.os_after _ _ _ ∙ body-plain _ _ _ _ c.is_round.ensures c.if-is_round.false c.if-h-le5.true ∙ form-as _ _ _ _ c.if-depth-eq0.false c.opening_at.ensures c.in_ok-h.was;
      within_next = c.enclose.ensures.within_next;
    }

pub form-requires : goal.form-requires
form-requires t c =
    (omega (arith, c.if-depth-eq0.false), (record { entries = c.requires.0.entries; points = c.requires.0.points; lines = c.requires.0.lines }, c.requires.1))

pub returns-in_err-e : goal.returns-in_err-e
unfolding scene_upto next_as WithinNext
returns-in_err-e t c =
    record {
      owners_after = rw c.from_residual-in_err-e.ensures (body-bare _ _ _ _ c.is_round.ensures c.if-is_round.false c.if-h-le5.false (next-no _ _ _ _ _ _ c.form.ensures.owners_after c.in_err-e.was) ∙ form-as _ _ _ _ c.if-depth-eq0.false c.opening_at.ensures c.in_ok-h.was);
      within_next = rw c.from_residual-in_err-e.ensures tt;
    }

pub last_of-p-requires : goal.last_of-p-requires
last_of-p-requires t c = within-next c.form.ensures.within_next c.in_ok-e.was

pub enclose-requires-then-h-eq6 : goal.enclose-requires-then-h-eq6
enclose-requires-then-h-eq6 t c =
    (within-next c.form.ensures.within_next c.in_ok-e.was, (kept_more c.requires.1.numbers c.form.auto.numbers, kept_more c.requires.1.marks c.form.auto.marks))

pub returns-then-h-eq6 : goal.returns-then-h-eq6
unfolding scene_upto
returns-then-h-eq6 t c =
    record {
      owners_after = c.enclose-then-h-eq6.ensures.os_after _ _ _ ∙ body-place _ _ _ _ c.is_round.ensures c.if-is_round.false c.if-h-le5.false (next-to _ _ _ _ _ _ c.form.ensures.owners_after c.in_ok-e.was) (last-held _ [] _ [] [] [] (within-next c.form.ensures.within_next c.in_ok-e.was) (kept_more c.requires.1.marks c.form.auto.marks) c.last_of-p.ensures) c.if-h-eq6.true ∙ form-as _ _ _ _ c.if-depth-eq0.false c.opening_at.ensures c.in_ok-h.was;
      within_next = c.enclose-then-h-eq6.ensures.within_next;
    }

pub form-requires-2 : goal.form-requires-2
form-requires-2 t c =
    (omega (arith, c.if-depth-eq0.false), (within-next c.form.ensures.within_next c.in_ok-e.was, sized-kept c.requires.1 c.form.auto.numbers c.form.auto.marks c.form.auto.points c.form.auto.starts c.form.auto.owners))

pub returns-in_err-k : goal.returns-in_err-k
unfolding scene_upto next_as WithinNext
returns-in_err-k t c =
    record {
      owners_after = rw c.from_residual-in_err-k.ensures (body-half _ _ _ _ c.is_round.ensures c.if-is_round.false c.if-h-le5.false (next-to _ _ _ _ _ _ c.form.ensures.owners_after c.in_ok-e.was) (last-held _ [] _ [] [] [] (within-next c.form.ensures.within_next c.in_ok-e.was) (kept_more c.requires.1.marks c.form.auto.marks) c.last_of-p.ensures) c.if-h-eq6.false (next-no _ _ _ _ _ _ c.form-2.ensures.owners_after c.in_err-k.was) ∙ form-as _ _ _ _ c.if-depth-eq0.false c.opening_at.ensures c.in_ok-h.was);
      within_next = rw c.from_residual-in_err-k.ensures tt;
    }

pub last_of-requires : goal.last_of-requires
last_of-requires t c = within-next c.form-2.ensures.within_next c.in_ok-k.was

pub enclose-requires-2 : goal.enclose-requires-2
enclose-requires-2 t c =
    (within-next c.form-2.ensures.within_next c.in_ok-k.was, (kept_more (kept_more c.requires.1.numbers c.form.auto.numbers) c.form-2.auto.numbers, kept_more (kept_more c.requires.1.marks c.form.auto.marks) c.form-2.auto.marks))

pub returns : goal.returns
unfolding scene_upto
returns t c =
    record {
      owners_after = c.enclose-2.ensures.os_after _ _ _ ∙ body-cut _ _ _ _ c.is_round.ensures c.if-is_round.false c.if-h-le5.false (next-to _ _ _ _ _ _ c.form.ensures.owners_after c.in_ok-e.was) (last-held _ [] _ [] [] [] (within-next c.form.ensures.within_next c.in_ok-e.was) (kept_more c.requires.1.marks c.form.auto.marks) c.last_of-p.ensures) c.if-h-eq6.false (next-to _ _ _ _ _ _ c.form-2.ensures.owners_after c.in_ok-k.was) (last-held _ [] _ [] [] [] (within-next c.form-2.ensures.within_next c.in_ok-k.was) (kept_more (kept_more c.requires.1.marks c.form.auto.marks) c.form-2.auto.marks) c.last_of.ensures) ∙ form-as _ _ _ _ c.if-depth-eq0.false c.opening_at.ensures c.in_ok-h.was;
      within_next = c.enclose-2.ensures.within_next;
    }
