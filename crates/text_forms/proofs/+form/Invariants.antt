use Rattle.text_forms.proofs.+form.Given as goal

abbrev pub decreases-form : goal.decreases-form
decreases-form l = l.depth
