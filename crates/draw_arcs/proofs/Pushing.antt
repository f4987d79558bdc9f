-- A ring's points pushed piece by piece. Assumes nothing.
use mathlib.Core.Path.{◌≡◌, refl, sym, ap, ◌∙◌, subst}
use mathlib.Core.Bool.{Bool, true, false}
use mathlib.Core.List.{List, [], ◌∷◌, ◌++◌, map, append_assoc}
use Prim.Native.Nat.{ℕ, zero, suc, ◌-◌, ◌/◌}
use native.Mathlib.Numerals.{sub-one}
use lib.ListN.{length}
use lib.Ieee.{Float}
use Rattle.geometry.specs.declared.vector.Vector.{Vector}
use Rattle.refusals.specs.declared.Refusal.{Refusal}
use Rattle.rows.specs.Points.{points}
use Rattle.paths.specs.Answers.{next}
use Rattle.paths.specs.Paths.{push, push_all}
use Rattle.paths.specs.Ends.{places, told, Ends, held, told_both}
use Rattle.paths.proofs.Ending.{ends_at, ends-refused, ends_as, refuses}
use Rattle.draw_lines.specs.Pushing.{add_paths, Fit, Adds}
use Rattle.draw_lines.proofs.Adding.{add_none}
use Rattle.draw_rings.specs.Pieces.{ring_middle, halved_at, pieces, east, north, west, south, ring_pairs}
use Rattle.draw_arcs.specs.declared.Frame.{Frame}
use Rattle.draw_arcs.specs.Stances.{Placement}
use Rattle.draw_arcs.specs.Rings.{ring_point, ends_halving, ring_depth, ring_in}
use Rattle.draw_arcs.specs.Runs.{Pushes}
use Rattle.std.specs.Prelude.{Err, None, Ok, Option, Result, Some}

extend-one : (room : ℕ) (vs : List Vector) (x : Vector) → push_all room vs (x ∷ []) ≡ push room vs x
unfolding push_all
extend-one room vs x = go (push room vs x)
  where
    go : (a : Result (List Vector) Refusal) → next a (λ (us : List Vector). Ok us) ≡ a
    go (Ok us) = refl
    go (Err k) = refl

extend-append : (room : ℕ) (xs ys vs : List Vector) → push_all room vs (xs ++ ys) ≡ next (push_all room vs xs) (λ (us : List Vector). push_all room us ys)
unfolding push_all
extend-append room [] ys vs = refl
extend-append room (x ∷ xs) ys vs = go (λ (us : List Vector). extend-append room xs ys us) (push room vs x)
  where
    go : ((us : List Vector) → push_all room us (xs ++ ys) ≡ next (push_all room us xs) (λ (ws : List Vector). push_all room ws ys)) → (a : Result (List Vector) Refusal)
        → next a (λ (us : List Vector). push_all room us (xs ++ ys)) ≡ next (next a (λ (us : List Vector). push_all room us xs)) (λ (ws : List Vector). push_all room ws ys)
    go ih (Ok us) = ih us
    go ih (Err k) = refl

map-append : (g : Vector → Vector) (xs ys : List Vector) → map g (xs ++ ys) ≡ map g xs ++ map g ys
map-append g [] ys = refl
map-append g (x ∷ xs) ys = ap (λ (l : List Vector). g x ∷ l) (map-append g xs ys)

-- ---- one list after another, each pushed by a call
module _ (g : Vector → Vector) (out : List Float) (n : ℕ) (a b : List Vector) where
  joined : push_all (places out) (points n out) (map g (a ++ b)) ≡ next (push_all (places out) (points n out) (map g a)) (λ (us : List Vector). push_all (places out) us (map g b))
  joined = ap (λ (l : List Vector). push_all (places out) (points n out) l) (map-append g a b) ∙ extend-append (places out) (map g a) (map g b) (points n out)

  module _ (zs : List Float) {c : Result ℕ Refusal} (w : Ends (push_all (places out) (points n out) (map g a)) zs c) where
    pub join-refused : {k : Refusal} → c ≡ Err k → Ends (push_all (places out) (points n out) (map g (a ++ b))) zs (Err k)
    join-refused e = refuses zs (joined ∙ ap (λ (x : Result (List Vector) Refusal). next x (λ (us : List Vector). push_all (places out) us (map g b))) (ends-refused w e))

    pub join-done : {i : ℕ} → c ≡ Ok i → length zs ≡ length out → (ys : List Float) {d : Result ℕ Refusal} → Ends (push_all (places zs) (points i zs) (map g b)) ys d → Ends (push_all (places out) (points n out) (map g (a ++ b))) ys d
    join-done {i} e k ys v =
        ends_as (joined ∙ ap (λ (x : Result (List Vector) Refusal). next x (λ (us : List Vector). push_all (places out) us (map g b))) (ends_at w e)
        ∙ ap (λ (l : ℕ). push_all (l / 3) (points i zs) (map g b)) (sym k)) v

-- ---- the pieces between two ends
module _ (stop : Vector → Vector → Bool) (r : Float) (depth : ℕ) (p q : Vector) where
  pub no-depth : depth ≡ 0 → pieces stop r depth p q ≡ q ∷ []
  unfolding pieces
  no-depth e = rw e

  pub stopped : (t : Bool) → t ≡ stop p q → t ≡ true → pieces stop r depth p q ≡ q ∷ []
  unfolding pieces halved_at
  stopped t et e = go depth
    where
      go : (d : ℕ) → pieces stop r d p q ≡ q ∷ []
      go zero = refl
      go (suc d) = rw (← et, e)

  pub no_middle : (m : Option Vector) → m ≡ ring_middle r p q → m ≡ None → pieces stop r depth p q ≡ q ∷ []
  unfolding pieces
  no_middle m em e = go depth
    where
      at : (d : ℕ) (t : Bool) → halved_at (pieces stop r d) p q t None ≡ q ∷ []
      at d true = unfold halved_at in refl
      at d false = unfold halved_at in refl

      go : (d : ℕ) → pieces stop r d p q ≡ q ∷ []
      go zero = refl
      go (suc d) = rw (← em, e) (at d (stop p q))

  pub halves : (t : Bool) → t ≡ stop p q → t ≡ false → (depth ≡ 0 → ⊥) → (m : Option Vector) → m ≡ ring_middle r p q → (v : Vector) → m ≡ Some v → pieces stop r depth p q ≡ pieces stop r (depth - 1) p v ++ pieces stop r (depth - 1) v q
  unfolding pieces halved_at
  halves t et e z m em v ev = go depth z
    where
      go : (d : ℕ) → (d ≡ 0 → ⊥) → pieces stop r d p q ≡ pieces stop r (d - 1) p v ++ pieces stop r (d - 1) v q
      go zero z = absurd (z refl)
      go (suc d) z = rw (← et, e, ← em, ev, sub-one)

-- what the code does at each way out
module _ (g : Vector → Vector) (out : List Float) (n : ℕ) (q : Vector) (l : List Vector) where
  pub only_end : l ≡ q ∷ [] → (w : Vector) → w ≡ g q → (zs : List Float) {c : Result ℕ Refusal} → Ends (push (places out) (points n out) w) zs c → Ends (push_all (places out) (points n out) (map g l)) zs c
  only_end e w ew zs h =
      ends_as (ap (λ (x : List Vector). push_all (places out) (points n out) (map g x)) e ∙ extend-one (places out) (points n out) (g q) ∙ ap (push (places out) (points n out)) (sym ew)) h

  module _ (a b : List Vector) (e : l ≡ a ++ b) (zs : List Float) {c : Result ℕ Refusal} (w : Ends (push_all (places out) (points n out) (map g a)) zs c) where
    pub first-refused : {k : Refusal} → c ≡ Err k → Ends (push_all (places out) (points n out) (map g l)) zs (Err k)
    first-refused ek = ends_as (ap (λ (x : List Vector). push_all (places out) (points n out) (map g x)) e) (join-refused g out n a b zs w ek)

    pub both-done : {i : ℕ} → c ≡ Ok i → length zs ≡ length out → (ys : List Float) {d : Result ℕ Refusal} → Ends (push_all (places zs) (points i zs) (map g b)) ys d → Ends (push_all (places out) (points n out) (map g l)) ys d
    both-done ei k ys v = ends_as (ap (λ (x : List Vector). push_all (places out) (points n out) (map g x)) e) (join-done g out n a b zs w ei k ys v)

module _ (g : Vector → Vector) (out : List Float) (n : ℕ) (stop : Vector → Vector → Bool) (r : Float) (depth : ℕ) (p q : Vector)
    (t : Bool) (et : t ≡ stop p q) (e : t ≡ false) (z : depth ≡ 0 → ⊥) (m : Option Vector) (em : m ≡ ring_middle r p q) (v : Vector) (ev : m ≡ Some v) (zs : List Float) {c : Result ℕ Refusal}
    (w : Ends (push_all (places out) (points n out) (map g (pieces stop r (depth - 1) p v))) zs c) where
  pub half-refused : {k : Refusal} → c ≡ Err k → Ends (push_all (places out) (points n out) (map g (pieces stop r depth p q))) zs (Err k)
  half-refused = first-refused g out n q (pieces stop r depth p q) (pieces stop r (depth - 1) p v) (pieces stop r (depth - 1) v q) (halves stop r depth p q t et e z m em v ev) zs w

  pub half-done : {i : ℕ} → c ≡ Ok i → length zs ≡ length out → (ys : List Float) {d : Result ℕ Refusal} → Ends (push_all (places zs) (points i zs) (map g (pieces stop r (depth - 1) v q))) ys d → Ends (push_all (places out) (points n out) (map g (pieces stop r depth p q))) ys d
  half-done = both-done g out n q (pieces stop r depth p q) (pieces stop r (depth - 1) p v) (pieces stop r (depth - 1) v q) (halves stop r depth p q t et e z m em v ev) zs w

-- ---- runs of points
pub pushes-refused : (l : List Vector) (xs : List Float) {c : Result ℕ Refusal} {k : Refusal} → c ≡ Err k → Pushes l c xs xs (Err k)
pushes-refused l xs e = record { ends = refuses xs (rw e) }

pub pushes-some : (l : List Vector) (xs ys : List Float) {c r : Result ℕ Refusal} {n : ℕ} → c ≡ Ok n → Ends (push_all (places xs) (points n xs) l) ys r → Pushes l c xs ys r
pushes-some l xs ys e h = record { ends = ends_as (rw e) h }

next-append : (room : ℕ) (a b : List Vector) (x : Result (List Vector) Refusal) → next x (λ (vs : List Vector). push_all room vs (a ++ b)) ≡ next (next x (λ (vs : List Vector). push_all room vs a)) (λ (vs : List Vector). push_all room vs b)
next-append room a b (Ok vs) = extend-append room a b vs
next-append room a b (Err k) = refl

pub pushes-then : (a b : List Vector) (c : Result ℕ Refusal) (xs ys zs : List Float) {r t : Result ℕ Refusal} → Pushes a c xs ys r → length ys ≡ length xs → Pushes b r ys zs t → Pushes (a ++ b) c xs zs t
pushes-then a b c xs ys zs {r} h k w = record {
  ends =
      ends_as
      (next-append (places xs) a b (told points c xs)
      ∙ ap (λ (x : Result (List Vector) Refusal). next x (λ (vs : List Vector). push_all (places xs) vs b)) (sym h.ends.is)
      ∙ ap (λ (l : ℕ). next (told points r ys) (λ (vs : List Vector). push_all (l / 3) vs b)) (sym k))
      w.ends;
}

pub pushes-as : (a b : List Vector) {c : Result ℕ Refusal} {xs ys : List Float} {r : Result ℕ Refusal} → Pushes a c xs ys r → a ≡ b → Pushes b c xs ys r
pushes-as a b {c} {xs} {ys} {r} h e = subst (λ (l : List Vector). Pushes l c xs ys r) e h

four-parts : (g : Vector → Vector) (e : Vector) (a b c d : List Vector) → ((((g e ∷ []) ++ map g a) ++ map g b) ++ map g c) ++ map g d ≡ map g (e ∷ (a ++ (b ++ (c ++ d))))
four-parts g e a b c d =
    ap (λ (l : List Vector). g e ∷ l)
    (append_assoc (map g a ++ map g b) (map g c) (map g d) ∙ append_assoc (map g a) (map g b) (map g c ++ map g d)
    ∙ sym (map-append g a (b ++ (c ++ d)) ∙ ap (λ (l : List Vector). map g a ++ l) (map-append g b (c ++ d) ∙ ap (λ (l : List Vector). map g b ++ l) (map-append g c d))))

-- a ring: its first point, and then four quarters
module _ (stepping : Bool) (t : Placement) (f : Frame) (r : Float) (d : ℕ) (ed : d ≡ ring_depth stepping) (e n w z : Vector) (ee : e ≡ east r) (en : n ≡ north r) (ew : w ≡ west r) (ez : z ≡ south r)
    (xs : List Float) (i : ℕ) where
  abbrev part : Vector → Vector → List Vector
  part p q = map (ring_point f) (pieces (ends_halving stepping t f) r d p q)

  whole : ((((ring_point f e ∷ []) ++ part e n) ++ part n w) ++ part w z) ++ part z e ≡ ring_in stepping t f r
  unfolding ring_in ring_pairs
  whole = rw (ed, ee, en, ew, ez) (four-parts (ring_point f) (east r) (quarter (east r) (north r)) (quarter (north r) (west r)) (quarter (west r) (south r)) (quarter (south r) (east r)))
    where
      quarter : Vector → Vector → List Vector
      quarter p q = pieces (ends_halving stepping t f) r (ring_depth stepping) p q

  pub ring-run : (v : Vector) → v ≡ ring_point f e → (y0 : List Float) {c0 : Result ℕ Refusal} → Ends (push (places xs) (points i xs) v) y0 c0 → length y0 ≡ length xs
      → (y1 : List Float) {c1 : Result ℕ Refusal} → Pushes (part e n) c0 y0 y1 c1 → length y1 ≡ length y0
      → (y2 : List Float) {c2 : Result ℕ Refusal} → Pushes (part n w) c1 y1 y2 c2 → length y2 ≡ length y1
      → (y3 : List Float) {c3 : Result ℕ Refusal} → Pushes (part w z) c2 y2 y3 c3 → length y3 ≡ length y2
      → (y4 : List Float) {c4 : Result ℕ Refusal} → Pushes (part z e) c3 y3 y4 c4 → Ends (push_all (places xs) (points i xs) (ring_in stepping t f r)) y4 c4
  ring-run v ev y0 h k y1 h1 k1 y2 h2 k2 y3 h3 k3 y4 h4 =
      let a = pushes-some (ring_point f e ∷ []) xs y0 refl (ends_as (extend-one (places xs) (points i xs) (ring_point f e) ∙ ap (push (places xs) (points i xs)) (sym ev)) h) in
      let b = pushes-then (ring_point f e ∷ []) (part e n) (Ok i) xs y0 y1 a k h1 in
      let g = pushes-then ((ring_point f e ∷ []) ++ part e n) (part n w) (Ok i) xs y1 y2 b (k1 ∙ k) h2 in
      let j = pushes-then (((ring_point f e ∷ []) ++ part e n) ++ part n w) (part w z) (Ok i) xs y2 y3 g (k2 ∙ (k1 ∙ k)) h3 in
      let l = pushes-then ((((ring_point f e ∷ []) ++ part e n) ++ part n w) ++ part w z) (part z e) (Ok i) xs y3 y4 j (k3 ∙ (k2 ∙ (k1 ∙ k))) h4 in
      (pushes-as (((((ring_point f e ∷ []) ++ part e n) ++ part n w) ++ part w z) ++ part z e) (ring_in stepping t f r) l whole).ends

-- nothing to add
pub adds_none : (c : Result (ℕ × ℕ) Refusal) (xs : List Float) (ss : List ℕ) → Fit c xs ss → Adds [] c xs ss xs ss c
adds_none c xs ss f = record { ends = record { is = go c; fits = f } }
  where
    go : (d : Result (ℕ × ℕ) Refusal) → told_both d xs ss ≡ next (told_both d xs ss) (add_paths (places xs) (length ss) [])
    go (Ok (n, m)) = sym (add_none (places xs) (length ss) (held n xs m ss))
    go (Err k) = refl
