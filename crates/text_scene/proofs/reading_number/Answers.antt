use Rattle.text_scene.specs.Answers.{reading_number}
use Rattle.text_scene.proofs.reading_number.Goals as goal

pub returns-in-Some : goal.returns-in-Some
unfolding reading_number
returns-in-Some c =
    rw c.in-Some.is

pub returns-in-None : goal.returns-in-None
unfolding reading_number
returns-in-None c =
    rw c.in-None.is
