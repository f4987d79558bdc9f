-- What is kept of a path ends with its last vertex; and where a path is split. Assumes nothing.
use mathlib.Core.Path.{◌≡◌, refl, sym, ap, ◌∙◌, subst}
use mathlib.Core.Logic.{◌⊎◌, inl, inr}
use mathlib.Core.Bool.{Bool, true, false, cond}
use mathlib.Core.List.{List, [], ◌∷◌, ◌++◌, append_assoc}
use Prim.Native.Nat.{ℕ, zero, suc, ◌+◌, ◌-◌, ◌≤◌, ◌<◌}
use native.Mathlib.Omega.{arith}
use borrow.Author.Tests.{lt-ltb, le-ltb}
use lib.ListN.{length, take, drop, length-append, length-drop}
use lib.Seq.{length-take-le, get_or-drop}
use lib.Ieee.{Float, lt}
use Rattle.floats.specs.Arith.{zero_f}
use Rattle.floats.proofs.Order.{le-or-lt}
use Rattle.geometry.specs.declared.vector.Vector.{Vector}
use Rattle.paths.specs.Paths.{front}
use Rattle.paths.specs.Ends.{nowhere}
use Rattle.paths.proofs.Runs.{front-append, length_front}
use Rattle.path_rdp.specs.Rdp.{vertex, first_vertex, last_vertex, farthest_of, simplified}
use Rattle.path_rdp.proofs.Scanning.{far-inside}
use Rattle.path_rdp.proofs.Splitting.{simplified-short, simplified-ends, simplified-split}
use Rattle.path_simplify.specs.Simplify.{split_place}

-- ---- two vertices at least, and the last one
pub record Ended (p q : List Vector) : Type 0 where
  pub two : 2 ≤ length q
  pub last : q ≡ front q ++ (last_vertex p ∷ [])

short-ended : (p : List Vector) → 2 ≤ length p → length p < 3 → Ended p p × (front p ≡ first_vertex p ∷ [])
unfolding front
short-ended [] h l = absurd (omega arith)
short-ended (v ∷ []) h l = absurd (omega arith)
short-ended (v ∷ w ∷ []) h l = (record { two = h; last = refl }, refl)
short-ended (v ∷ w ∷ x ∷ p) h l = absurd (omega arith)

pair_ended : (p : List Vector) → Ended p (first_vertex p ∷ last_vertex p ∷ []) × (front (first_vertex p ∷ last_vertex p ∷ []) ≡ first_vertex p ∷ [])
unfolding front
pair_ended p = (record { two = omega arith; last = refl }, refl)

last-drop : (p : List Vector) (k : ℕ) → k < length p → last_vertex (drop k p) ≡ last_vertex p
last-drop p k h =
    let n = length-drop k p in
    let e : k + (length (drop k p) - 1) ≡ length p - 1 = omega arith in
    get_or-drop k p (length (drop k p) - 1) nowhere ∙ ap (λ (i : ℕ). vertex p i) e

join-ended : (p one two : List Vector) (k : ℕ) → k < length p → 2 ≤ length one → Ended (drop k p) two → Ended p (front one ++ two)
join-ended p one two k h l w = record {
  two = simp length-append (omega (arith, length_front one, w.two));
  last = ap (λ (q : List Vector). front one ++ q) (w.last ∙ ap (λ (v : Vector). front two ++ (v ∷ [])) (last-drop p k h))
      ∙ sym (append_assoc (front one) (front two) (last_vertex p ∷ []))
      ∙ ap (λ (q : List Vector). q ++ (last_vertex p ∷ [])) (sym (front-append (front one) two (omega (arith, w.two))));
}

module _ (t : Float) (low : lt t zero_f ≡ false) where
  far-ended : (n : ℕ) (p : List Vector) → 3 ≤ length p → length p ≤ suc n → ((q : List Vector) → length q ≤ n → 2 ≤ length q → Ended q (simplified t q))
      → (b : Bool) → lt t (farthest_of p).distance ≡ b → Ended p (simplified t p)
  far-ended n p h l ih true e =
      let k = (farthest_of p).index in
      let w = far-inside p t low e in
      let one = length-take-le (k + 1) p (omega (arith, w.1)) in
      let two = length-drop k p in
      subst (Ended p) (sym (simplified-split t low p h e))
      (join-ended p (simplified t (take (k + 1) p)) (simplified t (drop k p)) k (omega (arith, w.1))
      (ih (take (k + 1) p) (omega (arith, w.1, one)) (omega (arith, w.0, one))).two
      (ih (drop k p) (omega (arith, w.0, two)) (omega (arith, w.1, two))))
  far-ended n p h l ih false e = subst (Ended p) (sym (simplified-ends t low p h e)) (pair_ended p).0

  ended-up : (n : ℕ) (p : List Vector) → length p ≤ n → 2 ≤ length p → Ended p (simplified t p)
  ended-up zero p h l = absurd (omega arith)
  ended-up (suc n) p h l = by (λ (q : List Vector) a b. ended-up n q a b) (le-or-lt 3 (length p))
    where
      by : ((q : List Vector) → length q ≤ n → 2 ≤ length q → Ended q (simplified t q)) → (3 ≤ length p) ⊎ (length p < 3) → Ended p (simplified t p)
      by ih (inl s) = far-ended n p s h ih (lt t (farthest_of p).distance) refl
      by ih (inr s) = subst (Ended p) (sym (simplified-short t low p s)) (short-ended p l s).0

  pub simplified-ended : (p : List Vector) → 2 ≤ length p → Ended p (simplified t p)
  simplified-ended p h = ended-up (length p) p (omega arith) h

  -- ---- where a path is split
  pub record Splits (p : List Vector) (k : ℕ) : Type 0 where
    pub after : 1 ≤ k
    pub before : k + 2 ≤ length p
    pub is : simplified t p ≡ front (simplified t (take (k + 1) p)) ++ simplified t (drop k p)

  abbrev pub Ways : List Vector → ℕ → Type 0
  Ways p k = ((k ≡ 0) × (front (simplified t p) ≡ first_vertex p ∷ [])) ⊎ Splits p k

  long-ways : (p : List Vector) → 3 ≤ length p → (b : Bool) → lt t (farthest_of p).distance ≡ b → Ways p (cond b (farthest_of p).index 0)
  long-ways p h true e = let w = far-inside p t low e in inr (record { after = w.0; before = w.1; is = simplified-split t low p h e })
  long-ways p h false e = inl (refl, ap front (simplified-ends t low p h e) ∙ (pair_ended p).1)

  pub ways : (p : List Vector) → 2 ≤ length p → Ways p (split_place t p)
  unfolding split_place
  ways p h = by (le-or-lt 3 (length p))
    where
      by : (3 ≤ length p) ⊎ (length p < 3) → Ways p (split_place t p)
      by (inl s) = rw (le-ltb (length p) 3 s) (long-ways p s (lt t (farthest_of p).distance) refl)
      by (inr s) = rw (lt-ltb (length p) 3 s) (inl (refl, ap front (simplified-short t low p s) ∙ (short-ended p h s).1))
