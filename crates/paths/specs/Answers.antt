-- What is done next, unless there was trouble before: so the first trouble met is the one that is answered.
use Rattle.std.specs.Prelude.{Result, Ok, Err}
use Rattle.refusals.specs.declared.Refusal.{Refusal}

abbrev pub next : {A B : Type 0} → Result A Refusal → (A → Result B Refusal) → Result B Refusal
next (Ok x) f = f x
next (Err k) f = Err k
