-- The triangle against Möller and Trumbore: the proofs. Cramer's rule from A × (B × C) = (A · C) B - (A · B) C and p × q + q × p = 0; that each solution is the formula's
-- from A · (B × C) = B · (C × A) and A · (A × B) = 0. Assumes nothing.
use mathlib.Core.Path.{◌≡◌, refl, sym, ap, ap₂, ◌∙◌}
use mathlib.Core.Int.{ℤ}
use Rattle.geometry.specs.Vectors.{sub_v, dot, cross}
use Rattle.solids.specs.Triangles.{triangle_hit}
use Rattle.theorem_published.specs.Cramer.{Operations, Components, plusOf, scaledOf, dotOf, cross_of, detOf, uOf, vOf, dist_of, CommutativeRing, TriangleIsFormula, CramersRule, OnlySolution, SolvesOnWholes, whole_operations}
use Rattle.theorem_published.proofs.Whole.{whole-ring}

pub triangle_is_formula : TriangleIsFormula
unfolding triangle_hit sub_v dot cross
triangle_is_formula v1 v2 v3 r = refl

components : {R : Type 0} (p q : Components R) → p.x ≡ q.x → p.y ≡ q.y → p.z ≡ q.z → p ≡ q
components p q e f g = λ i. record { x = e i; y = f i; z = g i }

-- ---- laws of a commutative ring
module _ {R : Type 0} (o : Operations R) (𝓡 : CommutativeRing o) where
  abbrev add : R → R → R
  add a b = o.plus a b

  abbrev sub : R → R → R
  sub a b = o.minus a b

  abbrev mul : R → R → R
  mul a b = o.times a b

  abbrev opp : R → R
  opp a = 𝓡.negate a

  abbrev null : R
  null = 𝓡.zero

  swap : (a b c d : R) → add (add a b) (add c d) ≡ add (add a c) (add b d)
  swap a b c d =
      𝓡.plus_associates a b (add c d)
      ∙ ap (add a) (sym (𝓡.plus_associates b c d) ∙ ap (λ (e : R). add e d) (𝓡.plus_commutes b c) ∙ 𝓡.plus_associates c b d)
      ∙ sym (𝓡.plus_associates a c (add b d))

  null-add : (a : R) → add null a ≡ a
  null-add a = 𝓡.plus_commutes null a ∙ 𝓡.plus_zero a

  opp-only : (a b : R) → add a b ≡ null → b ≡ opp a
  opp-only a b e =
      sym (null-add b)
      ∙ ap (λ (c : R). add c b) (sym (𝓡.plus_negated a) ∙ 𝓡.plus_commutes a (opp a))
      ∙ 𝓡.plus_associates (opp a) a b
      ∙ ap (add (opp a)) e
      ∙ 𝓡.plus_zero (opp a)

  opp-opp : (a : R) → opp (opp a) ≡ a
  opp-opp a = sym (opp-only (opp a) a (𝓡.plus_commutes (opp a) a ∙ 𝓡.plus_negated a))

  opp-add : (a b : R) → opp (add a b) ≡ add (opp a) (opp b)
  opp-add a b =
      sym (opp-only (add a b) (add (opp a) (opp b)) (swap a b (opp a) (opp b) ∙ ap₂ add (𝓡.plus_negated a) (𝓡.plus_negated b) ∙ 𝓡.plus_zero null))

  mul-null : (a : R) → mul a null ≡ null
  mul-null a =
      let z = mul a null in
      let twice : z ≡ add z z = ap (mul a) (sym (𝓡.plus_zero null)) ∙ 𝓡.times_plus a null null in
      sym (𝓡.plus_zero z)
      ∙ ap (add z) (sym (𝓡.plus_negated z))
      ∙ sym (𝓡.plus_associates z z (opp z))
      ∙ ap (λ (c : R). add c (opp z)) (sym twice)
      ∙ 𝓡.plus_negated z

  pub mul-opp : (a b : R) → mul a (opp b) ≡ opp (mul a b)
  mul-opp a b = opp-only (mul a b) (mul a (opp b)) (sym (𝓡.times_plus a b (opp b)) ∙ ap (mul a) (𝓡.plus_negated b) ∙ mul-null a)

  pub mul-sub : (a b c : R) → mul a (sub b c) ≡ sub (mul a b) (mul a c)
  mul-sub a b c = ap (mul a) (𝓡.minus_is b c) ∙ 𝓡.times_plus a b (opp c) ∙ ap (add (mul a b)) (mul-opp a c) ∙ sym (𝓡.minus_is (mul a b) (mul a c))

  sub-sub : (a b c d : R) → sub (sub a b) (sub c d) ≡ sub (add a d) (add b c)
  sub-sub a b c d =
      𝓡.minus_is (sub a b) (sub c d)
      ∙ ap₂ (λ (e f : R). add e (opp f)) (𝓡.minus_is a b) (𝓡.minus_is c d)
      ∙ ap (add (add a (opp b))) (opp-add c (opp d) ∙ ap (add (opp c)) (opp-opp d) ∙ 𝓡.plus_commutes (opp c) d)
      ∙ swap a (opp b) d (opp c)
      ∙ ap (add (add a d)) (sym (opp-add b c))
      ∙ sym (𝓡.minus_is (add a d) (add b c))

  shift : (a b c : R) → sub (add a b) (add a c) ≡ sub b c
  shift a b c =
      𝓡.minus_is (add a b) (add a c)
      ∙ ap (add (add a b)) (opp-add a c)
      ∙ swap a b (opp a) (opp c)
      ∙ ap (λ (e : R). add e (add b (opp c))) (𝓡.plus_negated a)
      ∙ null-add (add b (opp c))
      ∙ sym (𝓡.minus_is b c)

  left_comm : (a b c : R) → mul a (mul b c) ≡ mul b (mul a c)
  left_comm a b c = sym (𝓡.times_associates a b c) ∙ ap (λ (e : R). mul e c) (𝓡.times_commutes a b) ∙ 𝓡.times_associates b a c

  turned : (a b c : R) → mul c (mul a b) ≡ mul a (mul b c)
  turned a b c = left_comm c a b ∙ ap (mul a) (𝓡.times_commutes c b)

  spread : (k a b c : R) → mul k (add (add a b) c) ≡ add (mul k a) (add (mul k b) (mul k c))
  spread k a b c = ap (mul k) (𝓡.plus_associates a b c) ∙ 𝓡.times_plus k a (add b c) ∙ ap (add (mul k a)) (𝓡.times_plus k b c)

  -- a component of A × (B × C) = (A · C) B - (A · B) C
  bac : (A1 A2 A3 B1 B2 B3 C1 C2 C3 : R)
      → sub (mul A2 (sub (mul B1 C2) (mul B2 C1))) (mul A3 (sub (mul B3 C1) (mul B1 C3)))
      ≡ sub (mul B1 (add (add (mul A1 C1) (mul A2 C2)) (mul A3 C3))) (mul C1 (add (add (mul A1 B1) (mul A2 B2)) (mul A3 B3)))
  bac A1 A2 A3 B1 B2 B3 C1 C2 C3 =
      let v = mul B1 (mul A1 C1) in
      let x = mul A2 (mul B1 C2) in
      let y = mul A2 (mul B2 C1) in
      let z = mul A3 (mul B3 C1) in
      let w = mul A3 (mul B1 C3) in
      let one : mul B1 (add (add (mul A1 C1) (mul A2 C2)) (mul A3 C3)) ≡ add v (add x w)
      = spread B1 (mul A1 C1) (mul A2 C2) (mul A3 C3) ∙ ap₂ (λ (e f : R). add v (add e f)) (left_comm B1 A2 C2) (left_comm B1 A3 C3) in
      let same : mul C1 (mul A1 B1) ≡ v = turned A1 B1 C1 ∙ left_comm A1 B1 C1 in
      let two : mul C1 (add (add (mul A1 B1) (mul A2 B2)) (mul A3 B3)) ≡ add v (add y z)
      = spread C1 (mul A1 B1) (mul A2 B2) (mul A3 B3) ∙ ap₂ add same (ap₂ add (turned A2 B2 C1) (turned A3 B3 C1)) in
      ap₂ sub (mul-sub A2 (mul B1 C2) (mul B2 C1)) (mul-sub A3 (mul B3 C1) (mul B1 C3))
      ∙ sub-sub x y z w
      ∙ sym (ap₂ sub one two ∙ shift v (add x w) (add y z))

  -- what is over on one side is what is over on the other
  balance : (a b c d x y x' y' : R) → sub x y ≡ sub a b → sub x' y' ≡ sub c d → x' ≡ y → y' ≡ x → add a c ≡ add b d
  balance a b c d x y x' y' h k e f =
      let none : add (sub x y) (sub x' y') ≡ null
      = ap₂ (λ (g i : R). add (sub x y) (sub g i)) e f
      ∙ ap₂ add (𝓡.minus_is x y) (𝓡.minus_is y x)
      ∙ ap (add (add x (opp y))) (𝓡.plus_commutes y (opp x))
      ∙ swap x (opp y) (opp x) y
      ∙ ap₂ add (𝓡.plus_negated x) (𝓡.plus_commutes (opp y) y ∙ 𝓡.plus_negated y)
      ∙ 𝓡.plus_zero null in
      let all : add (add a c) (opp (add b d)) ≡ null
      = ap (add (add a c)) (opp-add b d)
      ∙ swap a c (opp b) (opp d)
      ∙ sym (ap₂ add (𝓡.minus_is a b) (𝓡.minus_is c d))
      ∙ sym (ap₂ add h k)
      ∙ none in
      sym (opp-opp (add a c)) ∙ ap opp (sym (opp-only (add a c) (opp (add b d)) all)) ∙ opp-opp (add b d)

  rotated : (a b c : R) → add (add b c) a ≡ add (add a b) c
  rotated a b c = 𝓡.plus_commutes (add b c) a ∙ sym (𝓡.plus_associates a b c)

  dot-comm : (a b : Components R) → dotOf o a b ≡ dotOf o b a
  dot-comm a b = ap₂ add (ap₂ add (𝓡.times_commutes a.x b.x) (𝓡.times_commutes a.y b.y)) (𝓡.times_commutes a.z b.z)

  -- the three components of A × (B × C)
  bac-x : (A B C : Components R) → (cross_of o A (cross_of o B C)).x ≡ sub (mul B.x (dotOf o A C)) (mul C.x (dotOf o A B))
  bac-x A B C = bac A.x A.y A.z B.x B.y B.z C.x C.y C.z

  bac-y : (A B C : Components R) → (cross_of o A (cross_of o B C)).y ≡ sub (mul B.y (dotOf o A C)) (mul C.y (dotOf o A B))
  bac-y A B C =
      bac A.y A.z A.x B.y B.z B.x C.y C.z C.x
      ∙ ap₂ (λ (e f : R). sub (mul B.y e) (mul C.y f))
      (rotated (mul A.x C.x) (mul A.y C.y) (mul A.z C.z)) (rotated (mul A.x B.x) (mul A.y B.y) (mul A.z B.z))

  bac-z : (A B C : Components R) → (cross_of o A (cross_of o B C)).z ≡ sub (mul B.z (dotOf o A C)) (mul C.z (dotOf o A B))
  bac-z A B C =
      bac A.z A.x A.y B.z B.x B.y C.z C.x C.y
      ∙ ap₂ (λ (e f : R). sub (mul B.z e) (mul C.z f))
      (sym (rotated (mul A.z C.z) (mul A.x C.x) (mul A.y C.y))) (sym (rotated (mul A.z B.z) (mul A.x B.x) (mul A.y B.y)))

  -- ---- the numbers solve the equation
  module _ (a b d t : Components R) where
    abbrev det : R
    det = detOf o a b d

    abbrev u : R
    u = uOf o b d t

    abbrev v : R
    v = vOf o a d t

    abbrev dist : R
    dist = dist_of o a b t

    abbrev p : Components R
    p = cross_of o d b

    abbrev q : Components R
    q = cross_of o t a

    placed : (k l m n : R) → add (mul k (dotOf o p a)) (mul m (dotOf o q b)) ≡ add (mul l (dotOf o p t)) (mul n (dotOf o q d)) → add (mul det k) (mul dist m) ≡ add (mul u l) (mul v n)
    placed k l m n e =
        ap₂ add (𝓡.times_commutes det k ∙ ap (mul k) (dot-comm a p)) (𝓡.times_commutes dist m ∙ ap (mul m) (dot-comm b q))
        ∙ e
        ∙ sym (ap₂ add (𝓡.times_commutes u l ∙ ap (mul l) (dot-comm t p)) (𝓡.times_commutes v n ∙ ap (mul n) (dot-comm d q)))

    cramer-x : add (mul det t.x) (mul dist d.x) ≡ add (mul u a.x) (mul v b.x)
    cramer-x =
        placed t.x a.x d.x b.x
        (balance (mul t.x (dotOf o p a)) (mul a.x (dotOf o p t)) (mul d.x (dotOf o q b)) (mul b.x (dotOf o q d))
        (mul p.y q.z) (mul p.z q.y) (mul q.y p.z) (mul q.z p.y)
        (bac-x p t a) (bac-x q d b) (𝓡.times_commutes q.y p.z) (𝓡.times_commutes q.z p.y))

    cramer-y : add (mul det t.y) (mul dist d.y) ≡ add (mul u a.y) (mul v b.y)
    cramer-y =
        placed t.y a.y d.y b.y
        (balance (mul t.y (dotOf o p a)) (mul a.y (dotOf o p t)) (mul d.y (dotOf o q b)) (mul b.y (dotOf o q d))
        (mul p.z q.x) (mul p.x q.z) (mul q.z p.x) (mul q.x p.z)
        (bac-y p t a) (bac-y q d b) (𝓡.times_commutes q.z p.x) (𝓡.times_commutes q.x p.z))

    cramer-z : add (mul det t.z) (mul dist d.z) ≡ add (mul u a.z) (mul v b.z)
    cramer-z =
        placed t.z a.z d.z b.z
        (balance (mul t.z (dotOf o p a)) (mul a.z (dotOf o p t)) (mul d.z (dotOf o q b)) (mul b.z (dotOf o q d))
        (mul p.x q.y) (mul p.y q.x) (mul q.x p.y) (mul q.y p.x)
        (bac-z p t a) (bac-z q d b) (𝓡.times_commutes q.x p.y) (𝓡.times_commutes q.y p.x))

  -- ---- A · (B × C)
  sub_self : (a : R) → sub a a ≡ null
  sub_self a = 𝓡.minus_is a a ∙ 𝓡.plus_negated a

  add-sub : (a b c d : R) → add (sub a b) (sub c d) ≡ sub (add a c) (add b d)
  add-sub a b c d =
      ap₂ add (𝓡.minus_is a b) (𝓡.minus_is c d)
      ∙ swap a (opp b) c (opp d)
      ∙ ap (add (add a c)) (sym (opp-add b d))
      ∙ sym (𝓡.minus_is (add a c) (add b d))

  term : (k a b c d : R) → mul k (sub (mul a b) (mul c d)) ≡ sub (mul k (mul a b)) (mul k (mul d c))
  term k a b c d = mul-sub k (mul a b) (mul c d) ∙ ap (λ (e : R). sub (mul k (mul a b)) (mul k e)) (𝓡.times_commutes c d)

  -- the products that are added in A · (B × C); those that are taken away are the ones added in A · (C × B)
  abbrev gains : Components R → Components R → Components R → R
  gains A B C = add (add (mul A.x (mul B.y C.z)) (mul A.y (mul B.z C.x))) (mul A.z (mul B.x C.y))

  spelled : (A B C : Components R) → dotOf o A (cross_of o B C) ≡ sub (gains A B C) (gains A C B)
  spelled A B C =
      let p1 = mul A.x (mul B.y C.z) in
      let p2 = mul A.y (mul B.z C.x) in
      let p3 = mul A.z (mul B.x C.y) in
      let n1 = mul A.x (mul C.y B.z) in
      let n2 = mul A.y (mul C.z B.x) in
      let n3 = mul A.z (mul C.x B.y) in
      ap₂ add (ap₂ add (term A.x B.y C.z B.z C.y) (term A.y B.z C.x B.x C.z)) (term A.z B.x C.y B.y C.x)
      ∙ ap (λ (e : R). add e (sub p3 n3)) (add-sub p1 n1 p2 n2)
      ∙ add-sub (add p1 p2) (add n1 n2) p3 n3

  gains-turned : (A B C : Components R) → gains A B C ≡ gains B C A
  gains-turned A B C =
      ap₂ add (ap₂ add (turned B.y C.z A.x) (turned B.z C.x A.y)) (turned B.x C.y A.z)
      ∙ rotated (mul B.x (mul C.y A.z)) (mul B.y (mul C.z A.x)) (mul B.z (mul C.x A.y))

  cycled : (A B C : Components R) → dotOf o A (cross_of o B C) ≡ dotOf o B (cross_of o C A)
  cycled A B C = spelled A B C ∙ ap₂ sub (gains-turned A B C) (gains-turned A C B ∙ gains-turned C B A) ∙ sym (spelled B C A)

  first_flat : (A B : Components R) → dotOf o A (cross_of o A B) ≡ null
  first_flat A B = spelled A A B ∙ ap (λ (e : R). sub e (gains A B A)) (gains-turned A A B) ∙ sub_self (gains A B A)

  second-flat : (A B : Components R) → dotOf o B (cross_of o A B) ≡ null
  second-flat A B = cycled B A B ∙ cycled A B B ∙ first_flat B A

  flipped : (A B C : Components R) → add (dotOf o A (cross_of o B C)) (dotOf o A (cross_of o C B)) ≡ null
  flipped A B C =
      let g = gains A B C in
      let h = gains A C B in
      ap₂ add (spelled A B C) (spelled A C B) ∙ add-sub g h h g ∙ ap (sub (add g h)) (𝓡.plus_commutes h g) ∙ sub_self (add g h)

  -- ---- A · N is linear in A
  add-mul : (a b c : R) → mul (add a b) c ≡ add (mul a c) (mul b c)
  add-mul a b c = 𝓡.times_commutes (add a b) c ∙ 𝓡.times_plus c a b ∙ ap₂ add (𝓡.times_commutes c a) (𝓡.times_commutes c b)

  dot-plus : (A B N : Components R) → dotOf o (plusOf o A B) N ≡ add (dotOf o A N) (dotOf o B N)
  dot-plus A B N =
      let a1 = mul A.x N.x in
      let a2 = mul A.y N.y in
      let a3 = mul A.z N.z in
      let b1 = mul B.x N.x in
      let b2 = mul B.y N.y in
      let b3 = mul B.z N.z in
      ap₂ add (ap₂ add (add-mul A.x B.x N.x) (add-mul A.y B.y N.y)) (add-mul A.z B.z N.z)
      ∙ ap (λ (e : R). add e (add a3 b3)) (swap a1 b1 a2 b2)
      ∙ swap (add a1 a2) (add b1 b2) a3 b3

  dot-scaled : (k : R) (A N : Components R) → dotOf o (scaledOf o k A) N ≡ mul k (dotOf o A N)
  dot-scaled k A N =
      let a1 = mul A.x N.x in
      let a2 = mul A.y N.y in
      let a3 = mul A.z N.z in
      ap₂ add (ap₂ add (𝓡.times_associates k A.x N.x) (𝓡.times_associates k A.y N.y)) (𝓡.times_associates k A.z N.z)
      ∙ 𝓡.plus_associates (mul k a1) (mul k a2) (mul k a3)
      ∙ sym (spread k a1 a2 a3)

  drops-last : (a k z : R) → z ≡ null → add a (mul k z) ≡ a
  drops-last a k z e = ap (λ (y : R). add a (mul k y)) e ∙ ap (add a) (mul-null k) ∙ 𝓡.plus_zero a

  drops-first : (a k z : R) → z ≡ null → add (mul k z) a ≡ a
  drops-first a k z e = 𝓡.plus_commutes (mul k z) a ∙ drops-last a k z e

  -- ---- each solution is the formula's
  module _ (a b d t : Components R) (s u v : R) (e : plusOf o t (scaledOf o s d) ≡ plusOf o (scaledOf o u a) (scaledOf o v b)) where
    seen-along : (N : Components R) → add (dotOf o t N) (mul s (dotOf o d N)) ≡ add (mul u (dotOf o a N)) (mul v (dotOf o b N))
    seen-along N =
        sym (dot-plus t (scaledOf o s d) N ∙ ap (add (dotOf o t N)) (dot-scaled s d N))
        ∙ ap (λ (w : Components R). dotOf o w N) e
        ∙ dot-plus (scaledOf o u a) (scaledOf o v b) N
        ∙ ap₂ add (dot-scaled u a N) (dot-scaled v b N)

    only-u : mul (detOf o a b d) u ≡ uOf o b d t
    only-u =
        let N = cross_of o d b in
        𝓡.times_commutes (dotOf o a N) u
        ∙ sym (drops-last (mul u (dotOf o a N)) v (dotOf o b N) (second-flat d b))
        ∙ sym (seen-along N)
        ∙ drops-last (dotOf o t N) s (dotOf o d N) (first_flat d b)

    only-v : mul (detOf o a b d) v ≡ vOf o a d t
    only-v =
        let N = cross_of o a d in
        𝓡.times_commutes (detOf o a b d) v
        ∙ ap (mul v) (sym (cycled b a d))
        ∙ sym (drops-first (mul v (dotOf o b N)) u (dotOf o a N) (first_flat a d))
        ∙ sym (seen-along N)
        ∙ drops-last (dotOf o t N) s (dotOf o d N) (second-flat a d)
        ∙ sym (cycled d t a)

    only-s : mul (detOf o a b d) s ≡ dist_of o a b t
    only-s =
        let N = cross_of o b a in
        let none : add (dotOf o t N) (mul s (dotOf o d N)) ≡ null
        = seen-along N ∙ drops-last (mul u (dotOf o a N)) v (dotOf o b N) (first_flat b a) ∙ ap (mul u) (second-flat b a) ∙ mul-null u in
        let back : add (dotOf o t N) (dotOf o t (cross_of o a b)) ≡ null = flipped t b a in
        𝓡.times_commutes (detOf o a b d) s
        ∙ ap (mul s) (sym (cycled d b a ∙ cycled b a d))
        ∙ opp-only (dotOf o t N) (mul s (dotOf o d N)) none
        ∙ sym (opp-only (dotOf o t N) (dotOf o t (cross_of o a b)) back)
        ∙ sym (cycled b t a)

pub cramers-rule : CramersRule
cramers-rule R o 𝓡 a b d t =
    components (plusOf o (scaledOf o (detOf o a b d) t) (scaledOf o (dist_of o a b t) d)) (plusOf o (scaledOf o (uOf o b d t) a) (scaledOf o (vOf o a d t) b))
    (cramer-x o 𝓡 a b d t) (cramer-y o 𝓡 a b d t) (cramer-z o 𝓡 a b d t)

pub only-solution : OnlySolution
only-solution R o 𝓡 a b d t s u v e = (only-s o 𝓡 a b d t s u v e, only-u o 𝓡 a b d t s u v e, only-v o 𝓡 a b d t s u v e)

pub solves-on-wholes : SolvesOnWholes
solves-on-wholes a b d t = cramers-rule ℤ whole_operations whole-ring a b d t
