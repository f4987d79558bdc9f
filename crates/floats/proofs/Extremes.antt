-- `max_of` and `min_of` are the greatest and the least where a NaN counts as below everything (`or_bot`) for `max_of`, and as above everything (`or_top`) for `min_of`.
-- So each is monotone in that order, with no cases of NaNs. Assumes nothing.
use mathlib.Core.Path.{◌≡◌, refl, sym, subst}
use mathlib.Core.Logic.{◌⊎◌, inl, inr}
use mathlib.Core.Bool.{Bool, true, false, not, ◌||◌, cond}
use lib.Dec.{T}
use lib.Ieee.{Float, nan, inf, fin, lt, le, is_nan}
use lib.Ieee.Scale.{finite}
use mir.Facts.{or_yes, or_no}
use Rattle.floats.specs.Numbers.{min_of, max_of, number}
use Rattle.floats.proofs.Order.{finite_number, lt→le, le_refl, le_trans, le-bot, le-top, not-gt→le}

abbrev pub or_bot : Float → Float
or_bot nan = inf true
or_bot (inf s) = inf s
or_bot (fin s m e) = fin s m e

abbrev pub or_top : Float → Float
or_top nan = inf false
or_top (inf s) = inf s
or_top (fin s m e) = fin s m e

pub or_bot-number : (x : Float) → T (number (or_bot x))
or_bot-number nan = tt
or_bot-number (inf s) = tt
or_bot-number (fin s m e) = tt

pub or_top-number : (x : Float) → T (number (or_top x))
or_top-number nan = tt
or_top-number (inf s) = tt
or_top-number (fin s m e) = tt

pub or_bot-id : (x : Float) → T (number x) → or_bot x ≡ x
or_bot-id nan h = absurd h
or_bot-id (inf s) h = refl
or_bot-id (fin s m e) h = refl

pub or_top-id : (x : Float) → T (number x) → or_top x ≡ x
or_top-id nan h = absurd h
or_top-id (inf s) h = refl
or_top-id (fin s m e) h = refl

-- from the order of two values to that of the two with NaNs placed
pub or_bot-le : (x y : Float) → T (le x y) → T (le (or_bot x) (or_bot y))
unfolding le
or_bot-le nan y h = absurd h
or_bot-le (inf s) nan h = absurd h
or_bot-le (inf s) (inf t) h = h
or_bot-le (inf s) (fin t n d) h = h
or_bot-le (fin s m e) nan h = absurd h
or_bot-le (fin s m e) (inf t) h = h
or_bot-le (fin s m e) (fin t n d) h = h

pub or_top-le : (x y : Float) → T (le x y) → T (le (or_top x) (or_top y))
unfolding le
or_top-le nan y h = absurd h
or_top-le (inf s) nan h = absurd h
or_top-le (inf s) (inf t) h = h
or_top-le (inf s) (fin t n d) h = h
or_top-le (fin s m e) nan h = absurd h
or_top-le (fin s m e) (inf t) h = h
or_top-le (fin s m e) (fin t n d) h = h

-- a test for a NaN, as the model and as code has it
pub not-nan : (x : Float) → T (not (is_nan x)) → T (number x)
unfolding is_nan
not-nan nan h = h
not-nan (inf s) h = tt
not-nan (fin s m e) h = tt

pub is-nan : (x : Float) → T (is_nan x) → x ≡ nan
unfolding is_nan
is-nan nan h = refl
is-nan (inf s) h = absurd h
is-nan (fin s m e) h = absurd h

-- ---- the greatest
module _ (a b : Float) where
  pub max_of-left : T (le (or_bot a) (or_bot (max_of a b)))
  unfolding max_of
  max_of-left = go (is_nan a || lt a b) (or_yes (is_nan a) (lt a b))
    where
      go : (t : Bool) → (T t → T (is_nan a) ⊎ T (lt a b)) → T (le (or_bot a) (or_bot (cond t b a)))
      go true h = elim (h tt) [ inl n ↦ subst (λ (x : Float). T (le (or_bot x) (or_bot b))) (sym (is-nan a n)) (le-bot (or_bot b) (or_bot-number b)) | inr l ↦ or_bot-le a b (lt→le a b l) ]
      go false h = le_refl (or_bot a) (or_bot-number a)

  pub max_of-right : T (le (or_bot b) (or_bot (max_of a b)))
  unfolding max_of
  max_of-right = go (is_nan a || lt a b) (or_no (is_nan a) (lt a b))
    where
      at : (y : Float) → T (number a) → T (not (lt a y)) → T (le (or_bot y) (or_bot a))
      at nan n h = le-bot (or_bot a) (or_bot-number a)
      at (inf s) n h = or_bot-le (inf s) a (not-gt→le (inf s) a tt n h)
      at (fin s m e) n h = or_bot-le (fin s m e) a (not-gt→le (fin s m e) a tt n h)

      go : (t : Bool) → (T (not t) → T (not (is_nan a)) × T (not (lt a b))) → T (le (or_bot b) (or_bot (cond t b a)))
      go true h = le_refl (or_bot b) (or_bot-number b)
      go false h = at b (not-nan a (h tt).0) (h tt).1

  pub max_of-least : (u : Float) → T (le (or_bot a) u) → T (le (or_bot b) u) → T (le (or_bot (max_of a b)) u)
  unfolding max_of
  max_of-least u h k = go (is_nan a || lt a b)
    where
      go : (t : Bool) → T (le (or_bot (cond t b a)) u)
      go true = k
      go false = h

pub max_of-mono : (a b a' b' : Float) → T (le (or_bot a) (or_bot a')) → T (le (or_bot b) (or_bot b')) → T (le (or_bot (max_of a b)) (or_bot (max_of a' b')))
max_of-mono a b a' b' h k =
    max_of-least a b (or_bot (max_of a' b')) (le_trans (or_bot a) (or_bot a') (or_bot (max_of a' b')) h (max_of-left a' b'))
    (le_trans (or_bot b) (or_bot b') (or_bot (max_of a' b')) k (max_of-right a' b'))

-- ---- the least
module _ (a b : Float) where
  pub min_of-left : T (le (or_top (min_of a b)) (or_top a))
  unfolding min_of
  min_of-left = go (is_nan a || lt b a) (or_yes (is_nan a) (lt b a))
    where
      go : (t : Bool) → (T t → T (is_nan a) ⊎ T (lt b a)) → T (le (or_top (cond t b a)) (or_top a))
      go true h = elim (h tt) [ inl n ↦ subst (λ (x : Float). T (le (or_top b) (or_top x))) (sym (is-nan a n)) (le-top (or_top b) (or_top-number b)) | inr l ↦ or_top-le b a (lt→le b a l) ]
      go false h = le_refl (or_top a) (or_top-number a)

  pub min_of-right : T (le (or_top (min_of a b)) (or_top b))
  unfolding min_of
  min_of-right = go (is_nan a || lt b a) (or_no (is_nan a) (lt b a))
    where
      at : (y : Float) → T (number a) → T (not (lt y a)) → T (le (or_top a) (or_top y))
      at nan n h = le-top (or_top a) (or_top-number a)
      at (inf s) n h = or_top-le a (inf s) (not-gt→le a (inf s) n tt h)
      at (fin s m e) n h = or_top-le a (fin s m e) (not-gt→le a (fin s m e) n tt h)

      go : (t : Bool) → (T (not t) → T (not (is_nan a)) × T (not (lt b a))) → T (le (or_top (cond t b a)) (or_top b))
      go true h = le_refl (or_top b) (or_top-number b)
      go false h = at b (not-nan a (h tt).0) (h tt).1

  pub min_of-greatest : (u : Float) → T (le u (or_top a)) → T (le u (or_top b)) → T (le u (or_top (min_of a b)))
  unfolding min_of
  min_of-greatest u h k = go (is_nan a || lt b a)
    where
      go : (t : Bool) → T (le u (or_top (cond t b a)))
      go true = k
      go false = h

pub min_of-mono : (a b a' b' : Float) → T (le (or_top a) (or_top a')) → T (le (or_top b) (or_top b')) → T (le (or_top (min_of a b)) (or_top (min_of a' b')))
min_of-mono a b a' b' h k =
    min_of-greatest a' b' (or_top (min_of a b)) (le_trans (or_top (min_of a b)) (or_top a) (or_top a') (min_of-left a b) h)
    (le_trans (or_top (min_of a b)) (or_top b) (or_top b') (min_of-right a b) k)

-- ---- on finite values
pub max_of-finite : (a b : Float) → T (finite a) → T (finite b) → T (finite (max_of a b))
unfolding max_of
max_of-finite a b h k = go (is_nan a || lt a b)
  where
    go : (t : Bool) → T (finite (cond t b a))
    go true = k
    go false = h

pub min_of-finite : (a b : Float) → T (finite a) → T (finite b) → T (finite (min_of a b))
unfolding min_of
min_of-finite a b h k = go (is_nan a || lt b a)
  where
    go : (t : Bool) → T (finite (cond t b a))
    go true = k
    go false = h

pub or_bot-finite : (x : Float) → T (finite x) → or_bot x ≡ x
or_bot-finite x h = or_bot-id x (finite_number x h)

pub or_top-finite : (x : Float) → T (finite x) → or_top x ≡ x
or_top-finite x h = or_top-id x (finite_number x h)

module _ (a b : Float) (h : T (finite a)) (k : T (finite b)) where
  pub le-max_of-l : T (le a (max_of a b))
  le-max_of-l = rw (or_bot-finite a h, or_bot-finite (max_of a b) (max_of-finite a b h k)) at (max_of-left a b)

  pub le-max_of-r : T (le b (max_of a b))
  le-max_of-r = rw (or_bot-finite b k, or_bot-finite (max_of a b) (max_of-finite a b h k)) at (max_of-right a b)

  pub min_of-le-l : T (le (min_of a b) a)
  min_of-le-l = rw (or_top-finite a h, or_top-finite (min_of a b) (min_of-finite a b h k)) at (min_of-left a b)

  pub min_of-le-r : T (le (min_of a b) b)
  min_of-le-r = rw (or_top-finite b k, or_top-finite (min_of a b) (min_of-finite a b h k)) at (min_of-right a b)
