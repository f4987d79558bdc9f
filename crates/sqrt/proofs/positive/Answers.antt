use Rattle.std.proofs.Common.{ℕ, ◌+◌, ◌*◌, ◌/◌, ◌%◌, ◌^◌, ◌<◌, ◌≤◌, false, pos, ◌-ℤ◌, sym, ap, ◌∙◌, subst, arith, w64, SFits, rules}
use mir.ValLaws.{to_z-of_z}
use lib.Ieee.{binary64, of_bits, odd}
use Rattle.sqrt.specs.Floor.{LowRoot, NearestRoot}
use Rattle.floats.proofs.Patterns.{no-nan-bits, high_is}
use Rattle.sqrt.proofs.Values.{Doubled, doubled, small-root, root-range, whole-units, root-at, rest_at}
use Rattle.sqrt.proofs.positive.Goals as goal
use Rattle.sqrt.proofs.positive.Goals.{After-root_of, After-rounded-r, After-struct_told-1, After-unpack-s}

-- the number whose root is taken
abbrev S : After-unpack-s → ℕ
S c = c.unpack-s.result.m * 2 ^ (c.unpack-s.result.g % 2) * 2 ^ 52

scale : (c : After-unpack-s) → Doubled c.unpack-s.result.m (c.unpack-s.result.g % 2)
scale c = doubled c.unpack-s.result.m (c.unpack-s.result.g % 2) c.unpack-s.ensures.range.0 c.unpack-s.ensures.range.1 (omega arith)

S-lt : (c : After-unpack-s) → S c < 2 ^ 106
S-lt c = let d = scale c in omega arith

low : (c : After-root_of) → LowRoot (S c.before) c.root_of.result.whole c.root_of.result.rest
low c = subst (λ (m : ℕ). LowRoot (m * 2 ^ 52) c.root_of.result.whole c.root_of.result.rest) (scale c.before).same c.root_of.ensures

answer : (c : After-rounded-r) → NearestRoot (S c.before.before) c.rounded-r.result.whole c.rounded-r.result.rest
answer c = let d = scale c.before.before in c.rounded-r.ensures (S c.before.before) (omega arith) (S-lt c.before.before) (low c.before)

digits : (c : After-rounded-r) → (2 ^ 52 ≤ c.rounded-r.result.whole) × (c.rounded-r.result.whole < 2 ^ 53)
digits c =
    let d = scale c.before.before in
    subst (λ (r : ℕ). (2 ^ 52 ≤ r) × (r < 2 ^ 53)) (sym (answer c).root) (root-range (S c.before.before) (omega arith) (omega arith))

-- what owning an `i64` tells: 64 bits hold it
held : (c : After-struct_told-1) → SFits w64 c.rounded-r.result.rest
held c = search rules

pub root_of-requires : goal.root_of-requires
root_of-requires c =
    let d = scale c in (omega arith, omega arith)

pub rounded-r-requires : goal.rounded-r-requires
rounded-r-requires c =
    (small-root (S c.before) c.root_of.result.whole c.root_of.result.rest (S-lt c.before) (low c), (low c).small)

pub overflow_add-pattern-2 : goal.overflow_add-pattern-2
overflow_add-pattern-2 c =
    let k = digits c.before in omega arith

pub float_from_bits-result : goal.float_from_bits-result
float_from_bits-result c =
    let k = digits c.before in
    no-nan-bits ((c.unpack-s.result.g / 2 + 485) * 2 ^ 52 + c.rounded-r.result.whole) (omega arith)

pub returns : goal.returns
returns c' =
    let x = of_bits binary64 c'.args.b in
    let k = digits c'.before in
    let w = whole-units c'.args.b c'.requires.1 in
    let told = to_z-of_z w64 c'.rounded-r.result.rest (held c') in
    record {
      answer = high_is (c'.unpack-s.result.g / 2 + 485) c'.rounded-r.result.whole k.0 k.1 (omega arith)
          ∙ ap (λ (r : ℕ). odd 53 false r (c'.unpack-s.result.g / 2 + 485) 1074) (answer c'.before).root
          ∙ sym (root-at c'.unpack-s.result.m c'.unpack-s.result.g c'.unpack-s.ensures.range.0 c'.unpack-s.ensures.range.1 x w.0 w.1 c'.unpack-s.ensures.value);
      lent = told
          ∙ (answer c'.before).left
          ∙ ap (λ (r : ℕ). pos (S c'.before.before.before) -ℤ pos (r * r)) (answer c'.before).root
          ∙ sym (rest_at c'.unpack-s.result.m c'.unpack-s.result.g c'.unpack-s.ensures.range.0 c'.unpack-s.ensures.range.1 x w.0 w.1 c'.unpack-s.ensures.value);
      held = subst (SFits w64) (sym told) (held c');
    }
