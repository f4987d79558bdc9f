use Prim.Native.Nat.{◌/◌}
use Rattle.check_scene.proofs.Verdicts.{lengths-few, lengths-numbers, is-lengths, is-values, is-striped, is-named, is-owners, is-starts, is-measures, is-placing, is-extent, is-accepted, not-accepted, held-as}
use Rattle.check_scene.proofs.Reading.{stored-entry}
use Rattle.check_parts.proofs.Drawn.{unnamed-as}
use native.Mathlib.Omega.{arith}
use lib.ListN.{length}
use mathlib.Core.Path.{sym, ap, ◌∙◌}
use Rattle.check_scene.proofs.judge.Goals as goal

pub returns-then-not-lengths_agree : goal.returns-then-not-lengths_agree
returns-then-not-lengths_agree c =
    record { value = is-lengths _ c.lengths_agree.ensures c.if-not-lengths_agree.true; by_index = λ n e. not-accepted e }

pub returns-then-not-all_known : goal.returns-then-not-all_known
returns-then-not-all_known c =
    record { value = is-values _ c.lengths_agree.ensures c.if-not-lengths_agree.false c.all_known.ensures c.if-not-all_known.true; by_index = λ n e. not-accepted e }

pub returns-then-not-all_few_stripes : goal.returns-then-not-all_few_stripes
returns-then-not-all_few_stripes c =
    record { value = is-striped _ c.lengths_agree.ensures c.if-not-lengths_agree.false c.all_known.ensures c.if-not-all_known.false c.all_few_stripes.ensures c.if-not-all_few_stripes.true; by_index = λ n e. not-accepted e }

pub well_named-requires : goal.well_named-requires
well_named-requires c =
    (lengths-few _ c.lengths_agree.ensures c.if-not-lengths_agree.false, omega (arith, lengths-few _ c.lengths_agree.ensures c.if-not-lengths_agree.false))

pub returns-then-not-well_named : goal.returns-then-not-well_named
returns-then-not-well_named c =
    record { value = is-named _ c.lengths_agree.ensures c.if-not-lengths_agree.false c.all_known.ensures c.if-not-all_known.false c.all_few_stripes.ensures c.if-not-all_few_stripes.false c.well_named.ensures.value c.if-not-well_named.true; by_index = λ n e. not-accepted e }

pub returns-then-not-good_owners : goal.returns-then-not-good_owners
returns-then-not-good_owners c =
    record { value = is-owners _ c.lengths_agree.ensures c.if-not-lengths_agree.false c.all_known.ensures c.if-not-all_known.false c.all_few_stripes.ensures c.if-not-all_few_stripes.false c.well_named.ensures.value c.if-not-well_named.false c.good_owners.ensures c.if-not-good_owners.true; by_index = λ n e. not-accepted e }

pub returns-then-not-good_starts : goal.returns-then-not-good_starts
returns-then-not-good_starts c =
    record { value = is-starts _ c.lengths_agree.ensures c.if-not-lengths_agree.false c.all_known.ensures c.if-not-all_known.false c.all_few_stripes.ensures c.if-not-all_few_stripes.false c.well_named.ensures.value c.if-not-well_named.false c.good_owners.ensures c.if-not-good_owners.false c.good_starts.ensures c.if-not-good_starts.true; by_index = λ n e. not-accepted e }

pub all_measured-requires : goal.all_measured-requires
all_measured-requires c =
    omega (arith, lengths-numbers _ c.lengths_agree.ensures c.if-not-lengths_agree.false)

pub returns-then-not-all_measured : goal.returns-then-not-all_measured
returns-then-not-all_measured c =
    record { value = is-measures _ c.lengths_agree.ensures c.if-not-lengths_agree.false c.all_known.ensures c.if-not-all_known.false c.all_few_stripes.ensures c.if-not-all_few_stripes.false c.well_named.ensures.value c.if-not-well_named.false c.good_owners.ensures c.if-not-good_owners.false c.good_starts.ensures c.if-not-good_starts.false c.all_measured.ensures c.if-not-all_measured.true; by_index = λ n e. not-accepted e }

pub invert_all-requires : goal.invert_all-requires
invert_all-requires c =
    let pre = c.requires in (omega (arith, lengths-numbers _ c.lengths_agree.ensures c.if-not-lengths_agree.false), omega (arith, lengths-few _ c.lengths_agree.ensures c.if-not-lengths_agree.false, (pre (lengths-few _ c.lengths_agree.ensures c.if-not-lengths_agree.false)).0))

pub returns-then-not-invert_all : goal.returns-then-not-invert_all
returns-then-not-invert_all c =
    record { value = is-placing _ c.lengths_agree.ensures c.if-not-lengths_agree.false c.all_known.ensures c.if-not-all_known.false c.all_few_stripes.ensures c.if-not-all_few_stripes.false c.well_named.ensures.value c.if-not-well_named.false c.good_owners.ensures c.if-not-good_owners.false c.good_starts.ensures c.if-not-good_starts.false c.all_measured.ensures c.if-not-all_measured.false c.invert_all.ensures.value c.if-not-invert_all.true; by_index = λ n e. not-accepted e }

pub all_within-requires : goal.all_within-requires
all_within-requires c =
    let pre = c.requires in (omega (arith, lengths-few _ c.lengths_agree.ensures c.if-not-lengths_agree.false, (pre (lengths-few _ c.lengths_agree.ensures c.if-not-lengths_agree.false)).1.0), record { parts = sym c.well_named.ensures.value ∙ c.if-not-well_named.false; same = stored-entry _ _ _ (omega (arith, lengths-numbers _ c.lengths_agree.ensures c.if-not-lengths_agree.false)) (omega (arith, lengths-few _ c.lengths_agree.ensures c.if-not-lengths_agree.false, (pre (lengths-few _ c.lengths_agree.ensures c.if-not-lengths_agree.false)).0, c.invert_all.auto.inverses)) (c.invert_all.ensures.inverses_after c.if-not-invert_all.false) })

pub returns-then-not-all_within : goal.returns-then-not-all_within
returns-then-not-all_within c =
    record { value = is-extent _ c.lengths_agree.ensures c.if-not-lengths_agree.false c.all_known.ensures c.if-not-all_known.false c.all_few_stripes.ensures c.if-not-all_few_stripes.false c.well_named.ensures.value c.if-not-well_named.false c.good_owners.ensures c.if-not-good_owners.false c.good_starts.ensures c.if-not-good_starts.false c.all_measured.ensures c.if-not-all_measured.false c.invert_all.ensures.value c.if-not-invert_all.false c.all_within.ensures.value c.if-not-all_within.true; by_index = λ n e. not-accepted e }

pub list_unnamed-requires : goal.list_unnamed-requires
list_unnamed-requires c =
    let pre = c.requires in (omega (arith, lengths-few _ c.lengths_agree.ensures c.if-not-lengths_agree.false, c.well_named.auto.named), (omega (arith, lengths-few _ c.lengths_agree.ensures c.if-not-lengths_agree.false, (pre (lengths-few _ c.lengths_agree.ensures c.if-not-lengths_agree.false)).1.1), lengths-few _ c.lengths_agree.ensures c.if-not-lengths_agree.false))

pub returns : goal.returns
returns c =
    let args = c.args in let few = lengths-few _ c.lengths_agree.ensures c.if-not-lengths_agree.false in
    let same = unnamed-as _ c.well_named.new.named (c.well_named.ensures.flags c.if-not-well_named.false) (length args.marks.now / 4) (omega (arith, few, c.well_named.auto.named)) in
    let many = c.list_unnamed.ensures.value ∙ ap length same in record { value = is-accepted _ c.lengths_agree.ensures c.if-not-lengths_agree.false c.all_known.ensures c.if-not-all_known.false c.all_few_stripes.ensures c.if-not-all_few_stripes.false c.well_named.ensures.value c.if-not-well_named.false c.good_owners.ensures c.if-not-good_owners.false c.good_starts.ensures c.if-not-good_starts.false c.all_measured.ensures c.if-not-all_measured.false c.invert_all.ensures.value c.if-not-invert_all.false c.all_within.ensures.value c.if-not-all_within.false many; by_index = held-as (record { inverted = c.invert_all.ensures.inverses_after c.if-not-invert_all.false; boxed = c.all_within.ensures.boxes_after c.if-not-all_within.false; few = few; count = many; listed_is = c.list_unnamed.ensures.drawn_after ∙ same }) }
