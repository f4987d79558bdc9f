-- An accepted scene passes each test of numbers 2 to 7 and 14: the proof, a test at a time; document 02 on the order of 14 and on 6. Assumes nothing.
use Prim.Native.Nat.{ℕ}
use mathlib.Core.Path.{◌≡◌, refl}
use mathlib.Core.Bool.{Bool, true, false, ◌&&◌, cond, and-eq-true_iff}
use Rattle.refusals.specs.declared.Refusal.{Refusal}
use Rattle.check_scene.specs.Checks.{lengths_agree, values_ok, stripes_ok, names_ok, lines_owned, starts_ok, measures_ok, placings_ok, extents_ok, check_of, first_met}
use Rattle.check_scene.specs.Placings.{invertible, placing_ok}
use Rattle.check_scene.proofs.Verdicts.{not-accepted}
use Rattle.check_sound.specs.Passing.{AcceptedPasses, FourteenAfterThree, SixByOneAnswer}
use Rattle.std.specs.Prelude.{Err, Ok, Result}

-- one test that does not refuse
passed : (t : Bool) (v : Result ℕ Refusal) (k : Refusal) {d : ℕ} → cond t v (Err k) ≡ Ok d → (t ≡ true) × (v ≡ Ok d)
passed true v k h = (refl, h)
passed false v k h = not-accepted h

pub accepted-passes : AcceptedPasses
unfolding check_of first_met
accepted-passes s d h =
    let a = passed (lengths_agree s) _ _ h in
    let b = passed (values_ok s) _ _ a.1 in
    let z = passed (stripes_ok s) _ _ b.1 in
    let c = passed (names_ok s && (lines_owned s && starts_ok s)) _ _ z.1 in
    let m = passed (measures_ok s) _ _ c.1 in
    let p = passed (placings_ok s) _ _ m.1 in
    let e = passed (extents_ok s) _ _ p.1 in
    let n = (and-eq-true_iff (names_ok s) (lines_owned s && starts_ok s)).0 c.0 in
    let o = (and-eq-true_iff (lines_owned s) (starts_ok s)).0 n.1 in
    record { lengths = a.0; values = b.0; stripes = z.0; names = n.0; owners = o.0; starts = o.1; measures = m.0; placings = p.0; extents = e.0 }

pub fourteen-after-three : FourteenAfterThree
unfolding check_of first_met
fourteen-after-three = record { three = λ s l v. rw (l, v) refl; fourteen = λ s l v few. rw (few, v, l) refl }

pub six-by-one-answer : SixByOneAnswer
unfolding placing_ok invertible
six-by-one-answer m n k = rw k refl
