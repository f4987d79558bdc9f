use native.Mathlib.Omega.{arith}
use Rattle.text_scene.proofs.Answers.{fits-within, read-within, read_answer, read-numbers, read-marks, read-points, read-starts, read-owners, read_held, held_fits, refused-answer, refused-numbers, refused-marks, refused-points, refused-starts, refused-owners, refused-held, refused-fits}
use Rattle.text_scene.specs.Readings.{WithinReading}
use Rattle.text_scene.proofs.read.Goals as goal

pub overflow_mul-e : goal.overflow_mul-e
overflow_mul-e c =
    omega (arith, (read-within c.yard.ensures.within_reading c.in-Some.is).0)

pub clear-requires : goal.clear-requires
clear-requires c =
    omega (arith, (read-within c.yard.ensures.within_reading c.in-Some.is).0, c.clear-arg-1.given.0.1)

pub overflow_mul-e-in-Some : goal.overflow_mul-e-in-Some
overflow_mul-e-in-Some c =
    omega (arith, (read-within c.yard.ensures.within_reading c.in-Some.is).0)

pub clear_marks-requires : goal.clear_marks-requires
clear_marks-requires c =
    omega (arith, (read-within c.yard.ensures.within_reading c.in-Some.is).0, c.clear_marks-arg-1.given.0.1)

pub overflow_mul-p : goal.overflow_mul-p
overflow_mul-p c =
    omega (arith, (read-within c.yard.ensures.within_reading c.in-Some.is).1.0)

pub clear-requires-in-Some : goal.clear-requires-in-Some
clear-requires-in-Some c =
    omega (arith, (read-within c.yard.ensures.within_reading c.in-Some.is).1.0, c.clear-arg-in-Some-1.given.0.1)

pub clear_starts-requires : goal.clear_starts-requires
clear_starts-requires c =
    omega (arith, (read-within c.yard.ensures.within_reading c.in-Some.is).1.1, c.clear_starts-arg-1.given.0.1)

pub clear_marks-requires-in-Some : goal.clear_marks-requires-in-Some
clear_marks-requires-in-Some c =
    omega (arith, (read-within c.yard.ensures.within_reading c.in-Some.is).1.1, c.clear_marks-arg-in-Some-1.given.0.1)

pub returns-in-Some : goal.returns-in-Some
unfolding WithinReading
returns-in-Some c =
    let fits = fits-within c.yard.result c.yard.new.numbers c.yard.new.marks c.yard.new.points c.yard.new.starts c.yard.new.owners c.yard.ensures.within_reading c.clear-arg-1.given.0.1 c.clear_marks-arg-1.given.0.1 c.clear-arg-in-Some-1.given.0.1 c.clear_starts-arg-1.given.0.1 c.clear_marks-arg-in-Some-1.given.0.1 in
    record {
      value = read_answer _ _ _ _ _ _ _ _ _ _ c.yard.ensures.owners_after c.in-Some.is fits;
      numbers_after = read-numbers _ _ _ _ _ _ _ _ _ _ c.yard.ensures.owners_after c.in-Some.is fits _ c.clear-arg-1.given.0.1 c.clear.ensures;
      marks_after = read-marks _ _ _ _ _ _ _ _ _ _ c.yard.ensures.owners_after c.in-Some.is fits _ c.clear_marks-arg-1.given.0.1 c.clear_marks.ensures;
      points_after = read-points _ _ _ _ _ _ _ _ _ _ c.yard.ensures.owners_after c.in-Some.is fits _ c.clear-arg-in-Some-1.given.0.1 c.clear-in-Some.ensures;
      starts_after = read-starts _ _ _ _ _ _ _ _ _ _ c.yard.ensures.owners_after c.in-Some.is fits _ c.clear_starts-arg-1.given.0.1 c.clear_starts.ensures;
      owners_after = read-owners _ _ _ _ _ _ _ _ _ _ c.yard.ensures.owners_after c.in-Some.is fits _ c.clear_marks-arg-in-Some-1.given.0.1 c.clear_marks-in-Some.ensures;
      owners_after_2 = read_held _ _ _ _ _ _ _ _ _ _ c.yard.ensures.owners_after c.in-Some.is fits _ _ _ _ _ c.clear.ensures c.clear_marks.ensures c.clear-in-Some.ensures c.clear_starts.ensures c.clear_marks-in-Some.ensures;
      reading_fits = held_fits _ _ _ _ _ _ _ _ _ _ c.yard.ensures.owners_after c.in-Some.is fits _ _ _ _ _ c.clear.auto.xs c.clear_marks.auto.xs c.clear-in-Some.auto.xs c.clear_starts.auto.xs c.clear_marks-in-Some.auto.xs;
      within_reading = read-within c.yard.ensures.within_reading c.in-Some.is;
    }

pub returns-in-None : goal.returns-in-None
unfolding WithinReading
returns-in-None c =
    record {
      value = refused-answer _ _ _ _ _ _ c.yard.ensures.owners_after c.in-None.is;
      numbers_after = refused-numbers _ _ _ _ _ _ c.yard.ensures.owners_after c.in-None.is _ c.clear-arg-in-None-1.given.0.1 c.clear-in-None.ensures;
      marks_after = refused-marks _ _ _ _ _ _ c.yard.ensures.owners_after c.in-None.is _ c.clear_marks-arg-in-None-1.given.0.1 c.clear_marks-in-None.ensures;
      points_after = refused-points _ _ _ _ _ _ c.yard.ensures.owners_after c.in-None.is _ c.clear-arg-in-None-2-1.given.0.1 c.clear-in-None-2.ensures;
      starts_after = refused-starts _ _ _ _ _ _ c.yard.ensures.owners_after c.in-None.is _ c.clear_starts-arg-in-None-1.given.0.1 c.clear_starts-in-None.ensures;
      owners_after = refused-owners _ _ _ _ _ _ c.yard.ensures.owners_after c.in-None.is _ c.clear_marks-arg-in-None-2-1.given.0.1 c.clear_marks-in-None-2.ensures;
      owners_after_2 = refused-held _ _ _ _ _ _ c.yard.ensures.owners_after c.in-None.is _ _ _ _ _;
      reading_fits = refused-fits _ _ _ _ _;
      within_reading = tt;
    }
