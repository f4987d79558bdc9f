use Rattle.std.proofs.Common.{◌≡◌, ◌≤◌, ◌<◌, length, take, drop, ℕ, ◌-◌, ◌/◌, List, [], ◌++◌, ◌∙◌, arith}
use mathlib.Core.Path.{subst⁻¹}
use Rattle.tree_sort.specs.Sort.{by_key, HasKey, sorted}
use Rattle.lists.specs.Lists.{Each}
use Rattle.lists.proofs.Properties.{each_take, each-drop}
use Rattle.tree_sort.proofs.Sorting.{second-half, sort-halves, halves-length, halves-each, halves-merge}
use lib.Seq.{length-take-le}
use lib.ListN.{length-drop}
use Rattle.tree_sort.proofs.+sort.Goals as goal

pub sort-requires : goal.sort-requires
sort-requires t c =
    let o = c.args.order.now in
    let m : ℕ = length o / 2 in
    let h : m ≤ length o = omega arith in
    let e : length (take m o) ≡ m = length-take-le m o h in
    (omega (arith, e, c.decreases, c.if-n-le12.false), (omega (arith, e, c.requires.0), each_take (HasKey c.args.keys.now) m o c.requires.1))

pub sort-requires-2 : goal.sort-requires-2
sort-requires-2 t c =
    let o = c.args.order.now in
    let m : ℕ = length o / 2 in
    let h : m ≤ length o = omega arith in
    let s = c.sort in
    let k : length s.new.order ≡ length (take m o) = s.auto.order in
    let e = second-half o s.new.order [] m h k in
    let d : length (drop m o) ≡ length o - m = length-drop m o in (
      subst⁻¹ (λ (l : List ℕ). length l < t) e (omega (arith, d, c.decreases, c.if-n-le12.false)),
      (
        subst⁻¹ (λ (l : List ℕ). length l ≤ length s.new.work) e (omega (arith, d, s.auto.work, c.requires.0)),
        subst⁻¹ (λ (l : List ℕ). Each (HasKey c.args.keys.now) l) e (each-drop (HasKey c.args.keys.now) m o c.requires.1),
      ),
    )

pub merge-requires : goal.merge-requires
merge-requires t c =
    let o = c.args.order.now in
    let m : ℕ = length o / 2 in
    let h : m ≤ length o = omega arith in
    let s = c.sort in
    let k : length s.new.order ≡ length (take m o) = s.auto.order in
    let s₂ = c.sort-2 in
    let less = by_key c.args.keys.now in
    let e₁ : s.new.order ≡ sorted less (take m o) = s.ensures in
    let e₂ : s₂.new.order ≡ sorted less (take (length (s.new.order ++ drop m o) - m) (drop m (s.new.order ++ drop m o))) = s₂.ensures in
    (omega (arith, halves-length less o s.new.order s₂.new.order m h k e₁ e₂), omega (arith, s.auto.work, s₂.auto.work, c.requires.0), halves-each less o s.new.order s₂.new.order m h k e₁ e₂ (HasKey c.args.keys.now) c.requires.1)

pub returns : goal.returns
returns t c =
    let o = c.args.order.now in
    let m : ℕ = length o / 2 in
    let h : m ≤ length o = omega arith in
    let s = c.sort in
    let k : length s.new.order ≡ length (take m o) = s.auto.order in
    let s₂ = c.sort-2 in
    let less = by_key c.args.keys.now in
    let e₁ : s.new.order ≡ sorted less (take m o) = s.ensures in
    let e₂ : s₂.new.order ≡ sorted less (take (length (s.new.order ++ drop m o) - m) (drop m (s.new.order ++ drop m o))) = s₂.ensures in
    halves-merge less o s.new.order s₂.new.order m h k e₁ e₂ _ c.merge.ensures ∙ sort-halves c.args.keys.now m o c.requires.1
