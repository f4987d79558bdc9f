use Rattle.std.proofs.Common.{◌≡◌, ℕ, ◌+◌, ◌*◌, ◌^◌, ◌<◌, ◌≤◌, ℤ, pos, ◌-ℤ◌, sym, ap, ◌∙◌, subst, mul-le-mul, arith, w64, SFits, to_z}
use mir.ValLaws.{to_z_pos, to_z-of_z}
use Rattle.sqrt.specs.Root.{nearest_root}
use Rattle.sqrt.specs.Floor.{LowRoot}
use Rattle.sqrt.proofs.Squares.{sq-further}
use Rattle.sqrt.proofs.Roots.{stays, one_up, two_up}
use Rattle.sqrt.proofs.Rests.{further, fits-difference}
use Rattle.sqrt.proofs.rounded.Goals as goal
use Rattle.sqrt.proofs.rounded.Goals.{then-whole-rest, else-whole-rest, then-whole-rest-2, else-whole-rest-2, Joined-whole-rest-2}

module _ (c : Joined-whole-rest-2) where
  abbrev q : ℕ
  q = c.args.p.whole

  abbrev rest : ℕ
  rest = c.args.p.rest

  abbrev k : ℕ
  k = c.if-whole-rest-2.k

  abbrev taken-off : ℕ
  taken-off = k * (2 * q + k)

  nearest : (n : ℕ) → 0 < n → n < 4 ^ 53 → LowRoot n q rest → q + k ≡ nearest_root n
  nearest n p h f =
      elim c.if-whole-rest-2.branch [
        | then-whole-rest-2 u ↦ ap (λ (z : ℕ). q + z) u.k-is ∙ two_up n q rest p h f u.if-whole-rest-2.true
        | else-whole-rest-2 u ↦ ap (λ (z : ℕ). q + z) u.k-is
            ∙ elim c.if-whole-rest.branch [
              | then-whole-rest w ↦ ap (λ (z : ℕ). q + z) w.k-is ∙ one_up n q rest p h f w.if-whole-rest.true u.if-whole-rest-2.false
              | else-whole-rest w ↦ ap (λ (z : ℕ). q + z) w.k-is ∙ stays n q rest p h f w.if-whole-rest.false
            ]
      ]

  few : k ≤ 2
  few =
      elim c.if-whole-rest-2.branch [
        | then-whole-rest-2 u ↦ omega (arith, u.k-is)
        | else-whole-rest-2 u ↦ elim c.if-whole-rest.branch [ then-whole-rest w ↦ omega (arith, u.k-is, w.k-is) | else-whole-rest w ↦ omega (arith, u.k-is, w.k-is) ]
      ]

  small : taken-off ≤ 2 * (2 ^ 54 + 2)
  small = let l : 2 * q + k ≤ 2 ^ 54 + 2 = omega (arith, few) in mul-le-mul few l

  plain : to_z w64 rest -ℤ to_z w64 taken-off ≡ pos rest -ℤ pos taken-off
  plain = ap (λ (z : ℤ). z -ℤ to_z w64 taken-off) (to_z_pos w64 rest (omega arith)) ∙ ap (λ (z : ℤ). pos rest -ℤ z) (to_z_pos w64 taken-off (omega (arith, small)))

  held : SFits w64 (to_z w64 rest -ℤ to_z w64 taken-off)
  held = subst (SFits w64) (sym plain) (fits-difference rest taken-off (omega arith) (omega (arith, small)))

  left : (n : ℕ) → LowRoot n q rest → pos rest -ℤ pos taken-off ≡ pos n -ℤ pos ((q + k) * (q + k))
  left n f = further (q * q) rest taken-off ∙ ap (λ (z : ℕ). pos z -ℤ pos (q * q + taken-off)) f.sum ∙ ap (λ (z : ℕ). pos n -ℤ pos z) (sym (sq-further q k))

pub overflow_add-result : goal.overflow_add-result
overflow_add-result c =
    omega (arith, few c.before)

pub overflow_add-result-2 : goal.overflow_add-result-2
overflow_add-result-2 c =
    omega (arith, few c.before)

pub overflow_mul-result-2 : goal.overflow_mul-result-2
overflow_mul-result-2 c =
    omega (arith, small c.before)

pub overflow_cast-result-2 : goal.overflow_cast-result-2
overflow_cast-result-2 c =
    record { sfits = omega (arith, small c.before) }

pub overflow_sub-result : goal.overflow_sub-result
overflow_sub-result c =
    held c.before

pub returns : goal.returns
returns c' =
    λ n p h f. record { root = nearest c'.before n p h f; left = to_z-of_z w64 (to_z w64 (rest c'.before) -ℤ to_z w64 (taken-off c'.before)) (held c'.before) ∙ plain c'.before ∙ left c'.before n f }
