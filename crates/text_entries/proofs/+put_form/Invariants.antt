use Rattle.text_entries.proofs.+put_form.Given as goal

abbrev pub decreases-put_form : goal.decreases-put_form
decreases-put_form l = l.depth
