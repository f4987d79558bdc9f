-- The entries of a leaf, one after the other, and what they say. Assumes nothing.
use mathlib.Core.Path.{◌≡◌, refl, sym, ap, subst, ◌∙◌}
use mathlib.Core.Logic.{inl, inr}
use mathlib.Core.List.{List, [], ◌∷◌}
use mathlib.Core.Bool.{Bool, true, false, not, cond, ◌&&◌, and-eq-true_iff}
use Prim.Native.Nat.{ℕ, suc, ◌+◌, ◌-◌, ◌≤◌, ◌<◌}
use native.Mathlib.Omega.{arith}
use native.Mathlib.Nat.{add-zero}
use lib.ListN.{length, take, drop, get_or, set, length-set, drop_of_length-le}
use lib.Seq.{drop-cons, take-nil, get_or-set_same, get_or-set_other}
use lib.Dec.{T}
use lib.Ieee.{Float, lt, le}
use Rattle.floats.specs.Arith.{zero_f}
use Rattle.geometry.specs.Boxes.{box_test, passes}
use Rattle.geometry.specs.declared.ray.Ray.{Ray}
use Rattle.geometry.specs.declared.hit.Hit.{Hit}
use Rattle.geometry.specs.declared.bounding_box.Span.{Span}
use Rattle.rows.specs.Rows.{row}
use Rattle.rows.specs.Points.{box_of_row}
use Rattle.lists.specs.Lists.{Member}
use Rattle.floats.proofs.Tests.{clash}
use Rattle.tree_glance.specs.declared.Spotted.{Spotted}
use Rattle.tree_glance.specs.declared.Spotted.TheVariants.{Clear, Short, Unknown}
use Rattle.tree_glance.specs.Glances.{LeafTold, clear, judged_of, spot_on, spotted_of, AllAnswer, EnteredBefore, Shorter, enters_before, leaf_glance}
use Rattle.std.specs.Prelude.{Err, None, Ok, Option, Result, Some}
use Rattle.tree_sight.specs.declared.Sight.TheVariants.{Hidden, Visible}
use Rattle.refusals.specs.declared.Refusal.{Refusal}
use Rattle.tree_sight.specs.declared.Sight.{Sight}

-- ---- the loop
module _ (distance : Float) (calm : Bool) (hit : ℕ → Result Hit Refusal) (order : List ℕ) (first count : ℕ) where
  abbrev all : Spotted
  all = spotted_of distance calm hit (take count (drop first order)) clear

  pub record Spotting (found : Spotted) (k : ℕ) : Type 0 where
    pub upto : k ≤ count
    pub same : spotted_of distance calm hit (take (count - k) (drop (first + k) order)) found ≡ spotted_of distance calm hit (take count (drop first order)) clear

  pub spotting-start : Spotting clear 0
  unfolding spot_on
  spotting-start = record {
    upto = omega arith;
    same = ap (λ (n : ℕ). spotted_of distance calm hit (take n (drop (first + 0) order)) clear) (let e : count - 0 ≡ count = omega arith in e) ∙ rw add-zero;
  }

  none_left : (k : ℕ) (l : List ℕ) (found : Spotted) → l ≡ [] → spotted_of distance calm hit (take k l) found ≡ found
  unfolding spotted_of
  none_left k l found e = rw (e, take-nil)

  pub spotting-gone : (found : Spotted) (k : ℕ) → Spotting found k → length order ≤ first + k → found ≡ spotted_of distance calm hit (take count (drop first order)) clear
  spotting-gone found k s l = sym (none_left (count - k) (drop (first + k) order) found (drop_of_length-le order {i = first + k} l)) ∙ s.same

  pub spotting-end : (found : Spotted) (k : ℕ) → Spotting found k → count ≤ k → found ≡ spotted_of distance calm hit (take count (drop first order)) clear
  unfolding spotted_of
  spotting-end found k s l =
      let e : count - k ≡ 0 = omega arith in
      rw e at s.same

  module _ (found : Spotted) (k : ℕ) (s : Spotting found k) (h : k < count) (l : first + k < length order) (i w : ℕ) (own : Result Hit Refusal) (a : Spotted)
      (ei : i ≡ get_or order (first + k) 0) (ew : w ≡ i) (eo : own ≡ hit w) (ea : a ≡ judged_of distance i own found) where
    step : spot_on calm a (spotted_of distance calm hit (take (count - (k + 1)) (drop (first + (k + 1)) order))) ≡ spotted_of distance calm hit (take count (drop first order)) clear
    unfolding spotted_of
    step =
        let e : count - k ≡ suc (count - (k + 1)) = omega arith in
        let f : suc (first + k) ≡ first + (k + 1) = omega arith in
        rw (ea, eo, ew, ei) (rw (e, drop-cons order (first + k) 0 l, f) at s.same)

    pub spotting-unknown : a ≡ Unknown → Unknown ≡ spotted_of distance calm hit (take count (drop first order)) clear
    unfolding spot_on
    spotting-unknown q = rw q at step

    pub spotting-short : (e : ℕ) → a ≡ Short e → calm ≡ true → Short e ≡ spotted_of distance calm hit (take count (drop first order)) clear
    unfolding spot_on
    spotting-short e q c = subst (λ (b : Bool). cond b (Short e) (spotted_of distance calm hit (take (count - (k + 1)) (drop (first + (k + 1)) order)) (Short e)) ≡ spotted_of distance calm hit (take count (drop first order)) clear) c (rw q at step)

    pub spotting-on : (e : ℕ) → a ≡ Short e → calm ≡ false → Spotting (Short e) (k + 1)
    unfolding spot_on
    spotting-on e q c = record {
      upto = omega arith;
      same = subst (λ (b : Bool). cond b (Short e) (spotted_of distance calm hit (take (count - (k + 1)) (drop (first + (k + 1)) order)) (Short e)) ≡ spotted_of distance calm hit (take count (drop first order)) clear) c (rw q at step);
    }

    pub spotting-clear : a ≡ Clear → Spotting Clear (k + 1)
    unfolding spot_on
    spotting-clear q = record { upto = omega arith; same = rw q at step }

-- ---- what it says
pub short≢clear : {A : Type 0} (i : ℕ) → Short i ≡ Clear → A
short≢clear i e = let z : ◌≡◌ {A = ℕ} 0 1 = cc in absurd (omega arith)

module _ (distance : Float) (calm : Bool) (hit : ℕ → Result Hit Refusal) (whole : List ℕ) where
  -- an entry of the leaf that falls short
  pub record Falls (s : ℕ) : Type 0 where
    pub own : Hit
    pub among : Member s whole
    pub returned : hit s ≡ Ok own
    pub short : T (lt own.t distance)

  abbrev FarOff : List ℕ → Type 0
  FarOff is = (s : ℕ) → Member s is → (h : Hit) × (hit s ≡ Ok h) × T (not (lt h.t distance))

  abbrev Known : Spotted → Type 0
  Known Clear = Unit
  Known (Short s) = Falls s
  Known Unknown = ⊥

  -- of the entries is, after those that gave `found`
  abbrev Spoken : Spotted → List ℕ → Spotted → Type 0
  Spoken found is Clear = (found ≡ Clear) × FarOff is
  Spoken found is (Short s) = Falls s × (calm ≡ false → AllAnswer hit is)
  Spoken found is Unknown = Unit

  abbrev Rest : List ℕ → Type 0
  Rest is = (f : Spotted) → Known f → Spoken f is (spotted_of distance calm hit is f)

  pub spoken : (is : List ℕ) → ((s : ℕ) → Member s is → Member s whole) → (found : Spotted) → Known found → Spoken found is (spotted_of distance calm hit is found)
  unfolding spotted_of judged_of spot_on
  spoken [] sub Clear K = (refl, λ s m. absurd m)
  spoken [] sub (Short s) K = (K, λ e i m. absurd m)
  spoken [] sub Unknown K = absurd K
  spoken (i ∷ is) sub found K = one (λ (f : Spotted) (k : Known f). spoken is (λ s m. sub s (inr m)) f k) (hit i) refl
    where
      -- the first entry and the rest
      with_at : (h : Hit) → hit i ≡ Ok h → (g : Spotted) → (g ≡ Clear → T (not (lt h.t distance)) × (found ≡ Clear)) → (f : Spotted) → Spoken g is f → Spoken found (i ∷ is) f
      with_at h e g c Clear S =
          let z = c S.0 in
          (z.1, λ s m. elim m [ inl p ↦ (h, ap hit (sym p) ∙ e, z.0) | inr q ↦ S.1 s q ])
      with_at h e g c (Short s) S = (S.0, λ n j m. elim m [ inl p ↦ (h, ap hit (sym p) ∙ e) | inr q ↦ S.1 n j q ])
      with_at h e g c Unknown S = tt

      on : Rest is → (h : Hit) → hit i ≡ Ok h → (b : Bool) → b ≡ lt h.t distance → Spoken found (i ∷ is) (spot_on calm (cond b (Short i) found) (spotted_of distance calm hit is))
      on rest h e true eb = by-calm calm refl
        where
          falls : Falls i
          falls = record { own = h; among = sub i (inl refl); returned = e; short = subst T eb tt }

          by-calm : (k : Bool) → calm ≡ k → Spoken found (i ∷ is) (cond k (Short i) (spotted_of distance calm hit is (Short i)))
          by-calm true q = (falls, λ n. clash (sym n ∙ q))
          by-calm false q = with_at h e (Short i) (λ z. short≢clear i z) (spotted_of distance calm hit is (Short i)) (rest (Short i) falls)
      on rest h e false eb = by-found found refl K
        where
          far : T (not (lt h.t distance))
          far = subst (λ (b : Bool). T (not b)) eb tt

          by-found : (f : Spotted) → found ≡ f → Known f → Spoken found (i ∷ is) (spot_on calm f (spotted_of distance calm hit is))
          by-found Clear q k = with_at h e Clear (λ z. (far, q)) (spotted_of distance calm hit is Clear) (rest Clear tt)
          by-found (Short s) q k = by-calm calm refl
            where
              by-calm : (b : Bool) → calm ≡ b → Spoken found (i ∷ is) (cond b (Short s) (spotted_of distance calm hit is (Short s)))
              by-calm true p = (k, λ n. clash (sym n ∙ p))
              by-calm false p = with_at h e (Short s) (λ z. short≢clear s z) (spotted_of distance calm hit is (Short s)) (rest (Short s) k)
          by-found Unknown q k = absurd k

      one : Rest is → (a : Result Hit Refusal) → hit i ≡ a → Spoken found (i ∷ is) (spot_on calm (judged_of distance i a found) (spotted_of distance calm hit is))
      one rest (Ok h) e = on rest h e (lt h.t distance) refl
      one rest (Err n) e = tt

-- ---- of a whole leaf
module _ (distance : Float) (calm : Bool) (hit : ℕ → Result Hit Refusal) (is : List ℕ) (a : Spotted) (ea : a ≡ spotted_of distance calm hit is clear) where
  told : Spoken distance calm hit is clear is a
  told = subst (Spoken distance calm hit is clear is) (sym ea) (spoken distance calm hit is is (λ s m. m) clear tt)

  pub clear-far : a ≡ Clear → (s : ℕ) → Member s is → (h : Hit) × (hit s ≡ Ok h) × T (not (lt h.t distance))
  clear-far e = (subst (Spoken distance calm hit is clear is) e told).1

  pub short-falls : (s : ℕ) → a ≡ Short s → Falls distance calm hit is s
  short-falls s e = (subst (Spoken distance calm hit is clear is) e told).0

  pub short-answered : (s : ℕ) → a ≡ Short s → calm ≡ false → AllAnswer hit is
  short-answered s e = (subst (Spoken distance calm hit is clear is) e told).1

-- ---- a box that is entered before the distance
module _ (boxes : List Float) (i : ℕ) (r : Ray) (distance : Float) where
  pub enters-before : (t : Bool) → t ≡ enters_before boxes i r distance → t ≡ true → EnteredBefore boxes i r distance
  unfolding enters_before
  enters-before t e h =
      let a = (and-eq-true_iff (passes (box_test (box_of_row (row 6 i boxes)) r)) (lt (box_test (box_of_row (row 6 i boxes)) r).tmin distance)).0 (sym e ∙ h) in
      record { passed = subst T (sym a.0) tt; before = subst T (sym a.1) tt }

  module _ (s : Span) (es : s ≡ box_test (box_of_row (row 6 i boxes)) r) where
    entered-is : (passes s && lt s.tmin distance) ≡ enters_before boxes i r distance
    unfolding enters_before
    entered-is = rw es

    pub enters-not : lt s.tmax s.tmin ≡ true → false ≡ enters_before boxes i r distance
    enters-not h = rw h at entered-is

    module _ (f : lt s.tmax s.tmin ≡ false) where
      pub enters-behind : le s.tmax zero_f ≡ true → false ≡ enters_before boxes i r distance
      enters-behind h = rw (f, h) at entered-is

      pub enters-told : le s.tmax zero_f ≡ false → lt s.tmin distance ≡ enters_before boxes i r distance
      enters-told h = rw (f, h) at entered-is

-- ---- what a leaf says
module _ (a s : Spotted) (ea : a ≡ s) where
  pub leaf-clear : (t : Bool) → a ≡ Clear → Some Visible ≡ leaf_glance s t
  unfolding leaf_glance
  leaf-clear t h = rw (← ea, h)

  pub leaf-unknown : (t : Bool) → a ≡ Unknown → None ≡ leaf_glance s t
  unfolding leaf_glance
  leaf-unknown t h = rw (← ea, h)

  module _ (i : ℕ) (h : a ≡ Short i) (t x : Bool) (et : t ≡ x) where
    pub leaf-short : t ≡ true → Some Hidden ≡ leaf_glance s x
    unfolding leaf_glance
    leaf-short k = rw (← ea, h, ← et, k)

    pub leaf-late : t ≡ false → None ≡ leaf_glance s x
    unfolding leaf_glance
    leaf-late k = rw (← ea, h, ← et, k)

-- ---- a leaf that hides, kept with the entry that falls short
module _ (hit : ℕ → Result Hit Refusal) (r : Ray) (distance : Float) (calm : Bool) (boxes : List Float) (i : ℕ) (is : List ℕ) (a : Spotted) (ea : a ≡ spotted_of distance calm hit is clear) where
  pub shorter : (e : ℕ) → a ≡ Short e → EnteredBefore boxes i r distance → (cover : List ℕ) → length cover ≡ 2 → (w : ℕ) → w ≡ e → Shorter hit r distance calm boxes i is (set (set cover 0 i) 1 w)
  shorter e q b cover l w ew =
      let f = short-falls distance calm hit is a ea e q in
      let l₁ : length (set cover 0 i) ≡ 2 = length-set cover 0 i ∙ l in
      let s : get_or (set (set cover 0 i) 1 w) 1 0 ≡ e = get_or-set_same (set cover 0 i) 1 w 0 (omega (arith, l₁)) ∙ ew in
      record {
        entered = b;
        own = f.own;
        among = subst (λ (n : ℕ). Member n is) (sym s) f.among;
        returned = ap hit s ∙ f.returned;
        short = f.short;
        answered = short-answered distance calm hit is a ea e q;
        place = get_or-set_other (set cover 0 i) 1 0 w 0 (omega arith) ∙ get_or-set_same cover 0 i 0 (omega (arith, l));
        wide = length-set (set cover 0 i) 1 w ∙ l₁;
      }

-- ---- by what a leaf answered
module _ (hit : ℕ → Result Hit Refusal) (r : Ray) (distance : Float) (calm : Bool) (boxes : List Float) (i : ℕ) (is cover cover' : List ℕ) (a : Option Sight) (L : LeafTold hit r distance calm boxes i is cover cover' a) where
  pub told-unsure : a ≡ None → cover' ≡ cover
  told-unsure e = subst (LeafTold hit r distance calm boxes i is cover cover') e L

  pub told_same : a ≡ Some Visible → cover' ≡ cover
  told_same e = (subst (LeafTold hit r distance calm boxes i is cover cover') e L).0

  pub told-far : a ≡ Some Visible → (s : ℕ) → Member s is → (h : Hit) × (hit s ≡ Ok h) × T (not (lt h.t distance))
  told-far e = (subst (LeafTold hit r distance calm boxes i is cover cover') e L).1

  pub told-short : a ≡ Some Hidden → Shorter hit r distance calm boxes i is cover'
  told-short e = subst (LeafTold hit r distance calm boxes i is cover cover') e L
