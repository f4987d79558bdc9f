-- Laws on the reading of a solid and on the steps of a cut, for the proofs of the recursion. Assumes nothing.
use Prim.Native.Nat.{ℕ, zero, suc, ◌-◌, ◌≤◌, ◌<◌}
use native.Mathlib.Omega.{arith}
use mathlib.Core.Logic.{◌⊎◌, inl, inr}
use mathlib.Core.Path.{◌≡◌, refl, sym, ap, ◌∙◌}
use mathlib.Core.List.{List}
use mathlib.Core.Bool.{Bool, true, false, true≢false, not, ◌&&◌, ◌||◌}
use native.Mathlib.Numerals.{sub-one}
use lib.Ieee.{Float}
use Rattle.floats.specs.Arith.{◌⊕◌, hundredth}
use Rattle.geometry.specs.Rays.{position}
use Rattle.geometry.specs.Hits.{is_ok}
use Rattle.geometry.specs.declared.vector.Vector.{Vector}
use Rattle.geometry.specs.declared.ray.Ray.{Ray}
use Rattle.geometry.specs.declared.hit.Hit.{Hit}
use Rattle.matrix.specs.declared.Matrix.{Matrix}
use Rattle.scene.specs.Entries.{entry_at, is_there, marks_at, numbers_at, matrix_of, parts_of}
use Rattle.scene.specs.declared.entry.Parts.{Parts}
use Rattle.scene.specs.declared.entry.Parts.TheVariants.{Placed, Cut}
use Rattle.scene.proofs.Parts.{entry-placed}
use Rattle.scene.specs.declared.entry.Entry.{Entry}
use Rattle.refusals.specs.declared.Refusal.{Refusal}
use Rattle.refusals.specs.declared.Refusal.TheVariants.{Restarts}
use Rattle.scene_shape.specs.Shapes.{read, decode, shape_of, shape_hit, cut_from}
use Rattle.scene_shape.specs.Cuts.{rescaled, both, step, accepted_or, restarted}
use Rattle.scene_shape.specs.Meetings.{placing, meeting_of, told_by}
use Rattle.scene_shape.specs.declared.Meeting.{Meeting}
use Rattle.std.specs.Prelude.{Err, None, Ok, Option, Result, Some}

-- where depth is left, a solid is its entry with the parts read a level down
pub decode_is : (d : ℕ) (ns vs : List Float) (ms : List ℕ) (i : ℕ) {x : Option Entry} → (d ≡ 0 → ⊥) → entry_at ns vs ms i ≡ x → decode d ns vs ms i ≡ shape_of (decode (d - 1) ns vs ms) x
unfolding read
decode_is zero ns vs ms i f p = absurd (f refl)
decode_is (suc d) ns vs ms i f p = rw (sub-one, p)

-- a refusal stays one, whatever the scale
pub told-refused : (placed : Bool) (scale : Float) {a : Result Hit Refusal} {k : Refusal} → a ≡ Err k → Err k ≡ told_by placed scale a
unfolding told_by rescaled
told-refused true scale e = rw e
told-refused false scale e = rw e

pub and_then : {r a s b : Bool} → r ≡ a → r ≡ true → s ≡ b → s ≡ (a && b)
and_then p h q = rw (← p, h, q)

pub and-not : {r a : Bool} (b : Bool) → r ≡ a → r ≡ false → false ≡ (a && b)
and-not b p h = rw (← p, h)

-- an entry that is met where it stands is no placing, so a placing is met a level down
pub falls_below : {d u k : ℕ} {p : Option Parts} → (d < u) ⊎ ((d ≡ u) × (placing p ≡ false)) → p ≡ Some (Placed k) → d < u
unfolding placing
falls_below (inl l) e = l
falls_below (inr h) e = absurd (true≢false (ap placing (sym e) ∙ h.1))

pub at_most : {d u : ℕ} {A : Type 0} → (d < u) ⊎ ((d ≡ u) × A) → d ≤ u
at_most (inl l) = omega (arith, l)
at_most (inr h) = omega (arith, h.0)

pub met-below : (v : Matrix) (ms : List ℕ) (i : ℕ) (r : Ray) (d : ℕ) {q : Meeting} → q ≡ meeting_of v (parts_of (marks_at ms i)) i r d → (d ≡ 0 → ⊥) → (q.depth < d) ⊎ ((q.depth ≡ d) × (placing (parts_of (marks_at ms q.i)) ≡ false))
unfolding meeting_of placing
met-below v ms i r d {q} e z = go (parts_of (marks_at ms i)) refl e
  where
    go : (p : Option Parts) → parts_of (marks_at ms i) ≡ p → q ≡ meeting_of v p i r d → (q.depth < d) ⊎ ((q.depth ≡ d) × (placing (parts_of (marks_at ms q.i)) ≡ false))
    go (Some (Placed k)) h m = inl (rw m (omega (arith, z)))
    go (Some (Cut o a b)) h m = inr (rw m, rw (m, h))
    go None h m = inr (rw m, rw (m, h))

-- the answer of where a ray meets an entry is the entry's own
module _ (ns vs : List Float) (ms : List ℕ) (i : ℕ) {t : Bool} (e : t ≡ is_there ns vs ms i) (h : t ≡ true) (d : ℕ) (z : d ≡ 0 → ⊥) (r : Ray) where
  pub met-hit : {q : Meeting} → q ≡ meeting_of (matrix_of (numbers_at vs i)) (parts_of (marks_at ms i)) i r d → {a : Result Hit Refusal} → a ≡ shape_hit (decode q.depth ns vs ms q.i) q.ray → told_by q.placed q.scale a ≡ shape_hit (decode d ns vs ms i) r
  unfolding meeting_of told_by shape_of shape_hit
  met-hit {q} eq {a} ea = go (parts_of (marks_at ms i)) refl eq
    where
      go : (p : Option Parts) → p ≡ parts_of (marks_at ms i) → q ≡ meeting_of (matrix_of (numbers_at vs i)) p i r d → told_by q.placed q.scale a ≡ shape_hit (decode d ns vs ms i) r
      go (Some (Placed k)) ep m = rw (ea, m, decode_is d ns vs ms i z (entry-placed ns vs ms i e h ep refl))
      go (Some (Cut o a b)) ep m = rw (ea, m)
      go None ep m = rw (ea, m)

-- A cut's answer, by what a turn finds: x and y are what the parts answer, and z the first refusal or the nearer hit.
module _ (tell : Float → Hit → Hit) (n : ℕ) (a b : Ray → Result Hit Refusal) (inside : Vector → Bool) (sum : Float) (r : Ray) {x y z : Result Hit Refusal} (ex : x ≡ a r) (ey : y ≡ b r) (ez : z ≡ both x y) where
  cut-refuses : (m : ℕ) (k : Refusal) → z ≡ Err k → Err k ≡ cut_from tell m a b inside sum r
  unfolding cut_from step
  cut-refuses zero k e = rw (← ex, ← ey, ← ez, e)
  cut-refuses (suc m) k e = rw (← ex, ← ey, ← ez, e)

  pub cut-refused : {k : Refusal} → z ≡ Err k → Err k ≡ cut_from tell n a b inside sum r
  cut-refused {k} e = cut-refuses n k e

  module _ {h : Hit} (e : z ≡ Ok h) where
    cut_keeps : (m : ℕ) → (not (is_ok h) || inside (position r h.t)) ≡ true → Ok (tell sum h) ≡ cut_from tell m a b inside sum r
    unfolding cut_from step accepted_or
    cut_keeps zero q = rw (← ex, ← ey, ← ez, e, q)
    cut_keeps (suc m) q = rw (← ex, ← ey, ← ez, e, q)

    pub cut-missed : {u : Bool} → u ≡ is_ok h → u ≡ false → {g : Hit} → g ≡ tell sum h → Ok g ≡ cut_from tell n a b inside sum r
    cut-missed p q eg = ap Ok eg ∙ cut_keeps n (rw (← p, q))

    module _ {u w : Bool} {v : Vector} (p : u ≡ is_ok h) (q : u ≡ true) (pv : v ≡ position r h.t) (pw : w ≡ inside v) where
      rejects : (w ≡ false) → (not (is_ok h) || inside (position r h.t)) ≡ false
      rejects f = rw (← p, q, ← pv, ← pw, f)

      pub cut_inside : w ≡ true → {g : Hit} → g ≡ tell sum h → Ok g ≡ cut_from tell n a b inside sum r
      cut_inside f eg = ap Ok eg ∙ cut_keeps n (rw (← p, q, ← pv, ← pw, f))

      spent : (m : ℕ) → m ≡ 0 → w ≡ false → Err Restarts ≡ cut_from tell m a b inside sum r
      unfolding cut_from step accepted_or
      spent m z0 f = rw (z0, ← ex, ← ey, ← ez, e, rejects f)

      pub cut-spent : n ≡ 0 → w ≡ false → Err Restarts ≡ cut_from tell n a b inside sum r
      cut-spent z0 f = spent n z0 f

      again : (m : ℕ) → (m ≡ 0 → ⊥) → w ≡ false → cut_from tell (m - 1) a b inside (sum ⊕ (h.t ⊕ hundredth)) (restarted r h.t) ≡ cut_from tell m a b inside sum r
      unfolding cut_from step accepted_or
      again zero g f = absurd (g refl)
      again (suc m) g f = rw (sub-one, ← ex, ← ey, ← ez, e, rejects f)

      pub cut_again : (n ≡ 0 → ⊥) → w ≡ false → cut_from tell (n - 1) a b inside (sum ⊕ (h.t ⊕ hundredth)) (restarted r h.t) ≡ cut_from tell n a b inside sum r
      cut_again g f = again n g f
