-- Demand 3 on simplification, of the definition. Assumes nothing.
use mathlib.Core.Path.{◌≡◌, refl, sym, ap, ap₂, ◌∙◌, subst}
use mathlib.Core.Bool.{Bool, true, false, not}
use mathlib.Core.List.{List, [], ◌∷◌, ◌++◌, map, map-append, append_assoc}
use Prim.Native.Nat.{ℕ, zero, suc, ◌+◌, ◌-◌, ◌≤◌, ◌<◌}
use native.Mathlib.Nat.{add-zero}
use native.Mathlib.Omega.{arith}
use borrow.Author.Tests.{ltb-false}
use lib.Dec.{T, ltb}
use lib.ListN.{length, take, drop}
use lib.Seq.{slice, slice-cons, slice_empty, length-slice, get_or-take, get_or-drop, take_all}
use lib.Ieee.{Float, lt, le}
use lib.Ieee.Scale.{finite}
use lib.Ieee.Fits.{and_l}
use Rattle.floats.specs.Arith.{zero_f}
use Rattle.floats.specs.Numbers.{number}
use Rattle.floats.proofs.Order.{le_trans, not-gt→le, le-number-r, finite_number}
use Rattle.geometry.specs.Vectors.{segment_distance}
use Rattle.geometry.specs.declared.vector.Vector.{Vector}
use Rattle.geometry.proofs.Lengths.{segment-number}
use Rattle.paths.specs.Paths.{front}
use Rattle.paths.specs.Ends.{nowhere}
use Rattle.paths.proofs.Parts.{slice-take, slice-drop}
use Rattle.paths.proofs.Runs.{front-append}
use Rattle.path_rdp.specs.Rdp.{threshold_ok, vertex, first_vertex, last_vertex, farthest_from, nothing_yet, farthest_of, halved, thinned, rdp, simplified}
use Rattle.path_rdp.specs.Demand.{Chain, Near, Accepted, Simplifies}
use Rattle.path_rdp.proofs.Scanning.{far-before, farthest-most, zero_number}

-- ---- chains
-- the d places after a
abbrev onward : ℕ → ℕ → List ℕ
onward a zero = []
onward a (suc d) = suc a ∷ onward (suc a) d

module _ (step : ℕ → ℕ → Type 0) where
  chain-join : (bs : List ℕ) (a k : ℕ) (cs : List ℕ) (z : ℕ) → Chain step a bs k → Chain step k cs z → Chain step a (bs ++ cs) z
  unfolding Chain
  chain-join [] a k cs z h g = subst (λ (i : ℕ). Chain step i cs z) (sym h) g
  chain-join (b ∷ bs) a k cs z h g = (h.0, chain-join bs b k cs z h.1 g)

  -- the last place of a chain is its end
  chain-last : {A : Type 0} (f : ℕ → A) (bs : List ℕ) (a z : ℕ) → Chain step a bs z → map f (a ∷ bs) ≡ front (map f (a ∷ bs)) ++ (f z ∷ [])
  unfolding Chain front
  chain-last f [] a z h = rw h
  chain-last {A} f (b ∷ bs) a z h =
      let e : front (f a ∷ map f (b ∷ bs)) ≡ f a ∷ front (map f (b ∷ bs)) = front-append (f a ∷ []) (map f (b ∷ bs)) (omega arith) in
      ap (λ (l : List A). f a ∷ l) (chain-last f bs b z h.1) ∙ ap (λ (l : List A). l ++ (f z ∷ [])) (sym e)

  chain-all : ((a : ℕ) → step a (suc a)) → (d a : ℕ) → Chain step a (onward a d) (a + d)
  unfolding Chain
  chain-all s zero a = sym (add-zero a)
  chain-all s (suc d) a = let e : suc a + d ≡ a + suc d = omega arith in (s a, subst (λ (z : ℕ). Chain step (suc a) (onward (suc a) d) z) e (chain-all s d (suc a)))

-- ---- parts of a path
module _ (t : Float) (p : List Vector) where
  part-vertex : (from end i : ℕ) → from + i < end → vertex (slice from end p) i ≡ vertex p (from + i)
  part-vertex from end i h = get_or-drop from (take end p) i nowhere ∙ get_or-take end p (from + i) nowhere h

  -- q is kept of the part from `from` up to `end`
  pub record Keeps (from end : ℕ) (q : List Vector) : Type 0 where
    pub others : List ℕ
    pub kept : q ≡ map (vertex p) (from ∷ others)
    pub order : Chain ◌<◌ from others (end - 1)
    pub near : Accepted t p → Chain (Near t p) from others (end - 1)

  -- all vertices
  slice_all : (d a : ℕ) → a + d < length p → slice a (suc (a + d)) p ≡ map (vertex p) (a ∷ onward a d)
  slice_all zero a h =
      let e : a + 0 ≡ a = add-zero a in
      slice-cons a (suc (a + 0)) p nowhere (omega arith) h ∙ ap (λ (l : List Vector). vertex p a ∷ l) (ap (λ (n : ℕ). slice (suc a) (suc n) p) e ∙ slice_empty (suc a) p)
  slice_all (suc d) a h =
      let e : a + suc d ≡ suc a + d = omega arith in
      slice-cons a (suc (a + suc d)) p nowhere (omega arith) h
      ∙ ap (λ (l : List Vector). vertex p a ∷ l) (ap (λ (n : ℕ). slice (suc a) (suc n) p) e ∙ slice_all d (suc a) (omega arith))

  keeps-all : (from end : ℕ) → from < end → end ≤ length p → Keeps from end (slice from end p)
  keeps-all from end h l =
      let d = end - from - 1 in
      let e : suc (from + d) ≡ end = omega arith in
      let z : from + d ≡ end - 1 = omega arith in
      record {
        others = onward from d;
        kept = ap (λ (n : ℕ). slice from n p) (sym e) ∙ slice_all d from (omega arith);
        order = subst (Chain ◌<◌ from (onward from d)) z (chain-all ◌<◌ (λ a. omega arith) d from);
        near = λ ok. subst (Chain (Near t p) from (onward from d)) z (chain-all (Near t p) (λ a i x y. absurd (omega arith)) d from);
      }

  -- the ends
  module _ (from end : ℕ) (long : from + 3 ≤ end) (fit : end ≤ length p) where
    abbrev q : List Vector
    q = slice from end p

    size : length q ≡ end - from
    size = length-slice from end p fit

    first-is : first_vertex q ≡ vertex p from
    first-is = part-vertex from end 0 (omega arith) ∙ ap (vertex p) (add-zero from)

    last-is : last_vertex q ≡ vertex p (end - 1)
    last-is =
        let e : from + (end - from - 1) ≡ end - 1 = omega arith in
        ap (λ (n : ℕ). vertex q (n - 1)) size ∙ part-vertex from end (end - from - 1) (omega arith) ∙ ap (vertex p) e

    abbrev middle : List Vector
    middle = slice 1 (length q - 1) q

    middle-size : length middle ≡ end - from - 2
    middle-size = length-slice 1 (length q - 1) q (omega arith) ∙ (let e = size in omega arith)

    middle-is : (i : ℕ) → from < i → i < end - 1 → vertex middle (i - from - 1) ≡ vertex p i
    middle-is i h l =
        let j = i - from - 1 in
        let e : from + (1 + j) ≡ i = omega arith in
        get_or-drop 1 (take (length q - 1) q) j nowhere
        ∙ get_or-take (length q - 1) q (1 + j) nowhere (omega (arith, size))
        ∙ part-vertex from end (1 + j) (omega arith)
        ∙ ap (vertex p) e

    abbrev most : Float
    most = (farthest_from (first_vertex q) (last_vertex q) 1 middle nothing_yet).distance

    module _ (ok : Accepted t p) where
      clear : (v a b : ℕ) → v < length p → a < length p → b < length p → T (number (segment_distance (vertex p v) (vertex p a) (vertex p b)))
      clear v a b hv ha hb = segment-number (vertex p v) (vertex p a) (vertex p b) (ok.within v hv) (ok.within a ha) (ok.within b hb)

      distances : (j : ℕ) → j < length middle → T (number (segment_distance (vertex middle j) (first_vertex q) (last_vertex q)))
      distances j h =
          let i = from + 1 + j in
          let k : i - from - 1 ≡ j = omega arith in
          let e : vertex middle j ≡ vertex p i = ap (vertex middle) (sym k) ∙ middle-is i (omega arith) (omega (arith, middle-size)) in
          rw (e, first-is, last-is) (clear i from (end - 1) (omega (arith, middle-size)) (omega arith) (omega arith))

      near-ends : lt t (farthest_of q).distance ≡ false → Near t p from (end - 1)
      unfolding farthest_of threshold_ok
      near-ends far i h l =
          let w = farthest-most (first_vertex q) (last_vertex q) 1 middle nothing_yet zero_number distances in
          let tn = finite_number t (and_l (finite t) (le zero_f t) ok.threshold) in
          let below : T (le most t) = not-gt→le most t (le-number-r zero_f most w.0) tn (subst (λ (s : Bool). T (not s)) (sym far) tt) in
          let d = w.1 (i - from - 1) (omega (arith, middle-size)) in
          rw (← middle-is i h l, ← first-is, ← last-is) (le_trans (segment_distance (vertex middle (i - from - 1)) (first_vertex q) (last_vertex q)) most t d below)

    keeps-ends : lt t (farthest_of q).distance ≡ false → Keeps from end (first_vertex q ∷ last_vertex q ∷ [])
    unfolding Chain
    keeps-ends far = record {
      others = (end - 1) ∷ [];
      kept = ap₂ (λ (x y : Vector). x ∷ y ∷ []) first-is last-is;
      order = (omega arith, refl);
      near = λ ok. (near-ends ok far, refl);
    }

  -- two parts that share a vertex
  keeps-split : (from k end : ℕ) (l r : List Vector) → Keeps from (from + (k + 1)) l → Keeps (from + k) end r → Keeps from end (front l ++ r)
  keeps-split from k end l r h g =
      let e : from + (k + 1) - 1 ≡ from + k = omega arith in
      let o = subst (Chain ◌<◌ from h.others) e h.order in
      let f = vertex p in
      record {
        others = h.others ++ g.others;
        kept =
            ap₂ (λ (x y : List Vector). front x ++ y) h.kept g.kept
            ∙ sym (append_assoc (front (map f (from ∷ h.others))) (f (from + k) ∷ []) (map f g.others))
            ∙ ap (λ (x : List Vector). x ++ map f g.others) (sym (chain-last ◌<◌ f h.others from (from + k) o))
            ∙ sym (map-append f (from ∷ h.others) g.others);
        order = chain-join ◌<◌ h.others from (from + k) g.others (end - 1) o g.order;
        near = λ ok. chain-join (Near t p) h.others from (from + k) g.others (end - 1) (subst (Chain (Near t p) from h.others) e (h.near ok)) (g.near ok);
      }

  module _ (again : List Vector → List Vector) (from end : ℕ) (long : from + 3 ≤ end) (fit : end ≤ length p)
      (ih : (a b : ℕ) → a < b → b ≤ length p → Keeps a b (again (slice a b p))) where
    halved-keeps : (s : Bool) → lt t (farthest_of (slice from end p)).distance ≡ s → Keeps from end (halved again (slice from end p) (farthest_of (slice from end p)).index s)
    unfolding halved
    halved-keeps true e =
        let r = slice from end p in
        let k = (farthest_of r).index in
        let w = far-before r (omega (arith, length-slice from end p fit)) in
        let one : take (k + 1) r ≡ slice from (from + (k + 1)) p = slice-take from end (k + 1) p (omega (arith, length-slice from end p fit)) in
        let two : drop k r ≡ slice (from + k) end p = slice-drop from end k p in
        rw (one, two)
        (keeps-split from k end (again (slice from (from + (k + 1)) p)) (again (slice (from + k) end p))
        (ih from (from + (k + 1)) (omega arith) (omega (arith, length-slice from end p fit)))
        (ih (from + k) end (omega (arith, length-slice from end p fit)) fit))
    halved-keeps false e = keeps-ends from end long fit e

  rdp-keeps : (n from end : ℕ) → from < end → end ≤ length p → Keeps from end (rdp n t (slice from end p))
  unfolding rdp thinned
  rdp-keeps zero from end h l = keeps-all from end h l
  rdp-keeps (suc n) from end h l = by (ltb (length (slice from end p)) 3) (ltb-false (length (slice from end p)) 3) (λ a b x y. rdp-keeps n a b x y)
    where
      by : (s : Bool) → (s ≡ false → 3 ≤ length (slice from end p)) → ((a b : ℕ) → a < b → b ≤ length p → Keeps a b (rdp n t (slice a b p))) → Keeps from end (thinned (rdp n t) t (slice from end p) s)
      by true e ih = keeps-all from end h l
      by false e ih =
          let m = e refl in
          halved-keeps (rdp n t) from end (omega (arith, length-slice from end p l)) l ih (lt t (farthest_of (slice from end p)).distance) refl

-- ---- the statement
pub simplified-keeps : (t : Float) (p : List Vector) → 0 < length p → Simplifies t p (simplified t p)
unfolding simplified
simplified-keeps t p h =
    let k = rdp-keeps t p (length p) 0 (length p) h (omega arith) in
    record { others = k.others; kept = ap (rdp (length p) t) (sym (take_all (length p) p (omega arith))) ∙ k.kept; order = k.order; near = k.near }
