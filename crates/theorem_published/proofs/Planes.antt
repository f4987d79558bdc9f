-- The exact half of the slabs. Assumes nothing.
use mathlib.Core.Path.{◌≡◌, refl, sym, ap, ap₂, subst, ◌∙◌}
use mathlib.Core.Logic.{◌↔◌}
use mathlib.Core.Int.{ℤ, pos, ◌+ℤ◌, +ℤ_assoc, +ℤ_comm}
use Rattle.theorem_published.specs.Cramer.{Operations, CommutativeRing}
use Rattle.theorem_published.specs.Planes.{Order, BetweenPlanes, BetweenMeetings, BetweenMeetingsDown, ExactSlab, ExactSlabDown, NotAbove, WholesOrdered}
use Rattle.theorem_published.proofs.Cramer.{mul-opp, mul-sub}

module _ {R : Type 0} (o : Operations R) (𝓡 : CommutativeRing o) (L : Order o) where
  abbrev add : R → R → R
  add a b = o.plus a b

  abbrev sub : R → R → R
  sub a b = o.minus a b

  abbrev mul : R → R → R
  mul a b = o.times a b

  abbrev opp : R → R
  opp a = 𝓡.negate a

  -- b + c − b is c, and a − b + b is a
  there_back : (b c : R) → add (add b c) (opp b) ≡ c
  there_back b c =
      ap (λ (x : R). add x (opp b)) (𝓡.plus_commutes b c) ∙ 𝓡.plus_associates c b (opp b) ∙ ap (add c) (𝓡.plus_negated b) ∙ 𝓡.plus_zero c

  back-there : (a b : R) → add (sub a b) b ≡ a
  back-there a b =
      ap (λ (x : R). add x b) (𝓡.minus_is a b) ∙ 𝓡.plus_associates a (opp b) b ∙ ap (add a) (𝓡.plus_commutes (opp b) b ∙ 𝓡.plus_negated b) ∙ 𝓡.plus_zero a

  -- what is on one side of an order may go to the other
  over : (a b c : R) → L.below a (add b c) → L.below (sub a b) c
  over a b c h =
      subst (λ (x : R). L.below (sub a b) x) (there_back b c)
      (subst (λ (x : R). L.below x (add (add b c) (opp b))) (sym (𝓡.minus_is a b)) (L.plus_keeps a (add b c) (opp b) h))

  over-back : (a b c : R) → L.below (sub a b) c → L.below a (add b c)
  over-back a b c h =
      subst (λ (x : R). L.below a x) (𝓡.plus_commutes c b) (subst (λ (x : R). L.below x (add c b)) (back-there a b) (L.plus_keeps (sub a b) c b h))

  under : (a b c : R) → L.below (add b c) a → L.below c (sub a b)
  under a b c h =
      subst (λ (x : R). L.below x (sub a b)) (there_back b c)
      (subst (λ (x : R). L.below (add (add b c) (opp b)) x) (sym (𝓡.minus_is a b)) (L.plus_keeps (add b c) a (opp b) h))

  under_back : (a b c : R) → L.below c (sub a b) → L.below (add b c) a
  under_back a b c h =
      subst (λ (x : R). L.below x a) (𝓡.plus_commutes c b) (subst (λ (x : R). L.below (add c b) x) (back-there a b) (L.plus_keeps c (sub a b) b h))

  -- (a − b) m is a m − b m
  spread : (a b m : R) → mul (sub a b) m ≡ sub (mul a m) (mul b m)
  spread a b m = 𝓡.times_commutes (sub a b) m ∙ mul-sub o 𝓡 m a b ∙ ap₂ sub (𝓡.times_commutes m a) (𝓡.times_commutes m b)

  module _ (lo hi at m n d : R) where
    up : BetweenPlanes o L lo hi at m n d ↔ BetweenMeetings o L lo hi at m n d
    up = (
      λ h. (
        subst (λ (x : R). L.below x (mul n d)) (sym (spread lo at m)) (over (mul lo m) (mul at m) (mul n d) h.0),
        subst (λ (x : R). L.below (mul n d) x) (sym (spread hi at m)) (under (mul hi m) (mul at m) (mul n d) h.1),
      ),
      λ h. (
        over-back (mul lo m) (mul at m) (mul n d) (subst (λ (x : R). L.below x (mul n d)) (spread lo at m) h.0),
        under_back (mul hi m) (mul at m) (mul n d) (subst (λ (x : R). L.below (mul n d) x) (spread hi at m) h.1),
      ),
    )

  -- a <= b − c exactly if c <= b − a
  minus-swap : (a b c : R) → L.below a (sub b c) → L.below c (sub b a)
  minus-swap a b c h = under b a c (subst (λ (x : R). L.below x b) (𝓡.plus_commutes c a) (under_back b c a h))

  -- b − c <= a exactly if b − a <= c
  swap-minus : (a b c : R) → L.below (sub b c) a → L.below (sub b a) c
  swap-minus a b c h = over b a c (subst (λ (x : R). L.below b x) (𝓡.plus_commutes c a) (over-back b c a h))

  module _ (lo hi at m n e : R) where
    -- at m + n (−e) is at m − n e
    falls : add (mul at m) (mul n (opp e)) ≡ sub (mul at m) (mul n e)
    falls = ap (add (mul at m)) (mul-opp o 𝓡 n e) ∙ sym (𝓡.minus_is (mul at m) (mul n e))

    down : BetweenPlanes o L lo hi at m n (opp e) ↔ BetweenMeetingsDown o L lo hi at m n e
    down = (
      λ h. (
        subst (λ (x : R). L.below x (mul n e)) (sym (spread at hi m)) (swap-minus (mul hi m) (mul at m) (mul n e) (subst (λ (x : R). L.below x (mul hi m)) falls h.1)),
        subst (λ (x : R). L.below (mul n e) x) (sym (spread at lo m)) (minus-swap (mul lo m) (mul at m) (mul n e) (subst (λ (x : R). L.below (mul lo m) x) falls h.0)),
      ),
      λ h. (
        subst (λ (x : R). L.below (mul lo m) x) (sym falls) (minus-swap (mul n e) (mul at m) (mul lo m) (subst (λ (x : R). L.below (mul n e) x) (spread at lo m) h.1)),
        subst (λ (x : R). L.below x (mul hi m)) (sym falls) (swap-minus (mul n e) (mul at m) (mul hi m) (subst (λ (x : R). L.below x (mul n e)) (spread at hi m) h.0)),
      ),
    )

pub exact-slab : ExactSlab
exact-slab R o 𝓡 L lo hi at m n d = up o 𝓡 L lo hi at m n d

pub exact-slab-down : ExactSlabDown
exact-slab-down R o 𝓡 L lo hi at m n e = down o 𝓡 L lo hi at m n e

wholes-keep : (a b c : ℤ) → NotAbove a b → NotAbove (a +ℤ c) (b +ℤ c)
wholes-keep a b c h =
    (h.0, +ℤ_assoc a c (pos h.0) ∙ ap (λ (x : ℤ). a +ℤ x) (+ℤ_comm c (pos h.0)) ∙ sym (+ℤ_assoc a (pos h.0) c) ∙ ap (λ (x : ℤ). x +ℤ c) h.1)

pub wholes-ordered : WholesOrdered
wholes-ordered = (record { below = NotAbove; plus_keeps = wholes-keep }, refl)
