-- The answers of the calls, after the verdict on the scene. Assumes nothing.
use Prim.Native.Nat.{ℕ, ◌+◌, ◌*◌, ◌/◌, ◌≤◌, ◌<◌}
use mathlib.Core.Path.{◌≡◌, refl, sym, ap, fun_ext, ◌∙◌}
use mathlib.Core.Bool.{Bool, true, false, cond}
use mathlib.Core.List.{List}
use native.Mathlib.Omega.{arith}
use borrow.Author.Tests.{leb-true, le-leb, lt-leb, eq-eqb, ne_eqb}
use lib.ListN.{length, get_or, set}
use lib.Dec.{eqb, leb}
use lib.Ieee.{Float}
use Rattle.floats.specs.Arith.{zero_f}
use Rattle.geometry.specs.declared.vector.Vector.{Vector}
use Rattle.geometry.specs.declared.ray.Ray.{Ray}
use Rattle.rows.specs.Rows.{row, view, padded}
use Rattle.rows.specs.Points.{point_of}
use Rattle.refusals.specs.Refusals.{number_of}
use Rattle.refusals.specs.declared.Refusal.{Refusal}
use Rattle.refusals.specs.declared.Refusal.TheVariants.{Lengths, Values, Parts, Measures, Placing, Extent, View, Point, Restarts, Waiting, Room, Stripes}
use Rattle.limits.specs.Limits.{within_point}
use Rattle.scene.specs.Scenes.{Scene}
use Rattle.check_scene.specs.Checks.{check_of, inverses_of, if_accepted}
use Rattle.check_scene.proofs.Accepted.{left_is}
use Rattle.tree_walk.specs.Walks.{entry_hit}
use Rattle.tree_sight.specs.declared.Sight.{Sight}
use Rattle.tree_cover.specs.Seeking.{seek_rows, covered_by}
use Rattle.tree_cover.specs.declared.Sought.{Sought}
use Rattle.query_scene.specs.Queries.{seen_after}
use Rattle.query_scene.proofs.Answers.{hits-are}
use Rattle.query_scene.proofs.Copies.{Copied}
use Rattle.query_cover.proofs.Telling.{word_after, word-is, telling-turn, telling-end}
use Rattle.query_cover.specs.Covered.{covered_past, covered_of, byte_of, bytes_past, batch_if, batch_by, if_answered, AllTold}
use Rattle.std.specs.Prelude.{Err, Ok, Result, ⊤}
use Rattle.geometry.specs.declared.hit.Hit.{Hit}

-- ---- one point
pub covered-refused : (s : Scene) (k : Refusal) → check_of s ≡ Err k → (bs : List Float) (ms os : List ℕ) (eye point : Vector) → Err k ≡ covered_of s bs ms os eye point
unfolding covered_of seen_after
covered-refused s k is bs ms os eye point = rw is

module _ (s : Scene) (n : ℕ) (is : check_of s ≡ Ok n) (bs : List Float) (ms os : List ℕ) (eye : Vector) {a : Bool} (ea : a ≡ within_point eye) where
  pub eye-refused : a ≡ false → (point : Vector) → Err View ≡ covered_of s bs ms os eye point
  unfolding covered_of seen_after
  eye-refused f point = rw (is, ← ea, f)

  -- with the inverses that the check left, the walk meets the scene's own solids
  pub covered-is : a ≡ true → (L : ℕ) (vs : List Float) → vs ≡ padded zero_f L (inverses_of s) → (point : Vector)
      → covered_past (λ (d : Float) (r : Ray). seek_rows d (entry_hit s.numbers vs s.marks r) r bs ms os) eye point ≡ covered_of s bs ms os eye point
  unfolding covered_of seen_after
  covered-is t L vs left point =
      ap (λ (w : Float → Ray → Result Sought Refusal). covered_past w eye point)
      (fun_ext (λ (d : Float). fun_ext (λ (r : Ray). ap (λ (hit : ℕ → Result Hit Refusal). seek_rows d hit r bs ms os) (hits-are s n is L vs left bs ms os r))))
      ∙ rw (is, ← ea, t)

pub past-refused : (seek : Float → Ray → Result Sought Refusal) (eye point : Vector) {a : Bool} → a ≡ within_point point → a ≡ false → Err Point ≡ covered_past seek eye point
unfolding covered_past
past-refused seek eye point e f = rw (← e, f)

pub past_is : (seek : Float → Ray → Result Sought Refusal) (eye point : Vector) {a : Bool} → a ≡ within_point point → a ≡ true → {s : Result Sight Refusal} → s ≡ covered_by seek eye point → s ≡ covered_past seek eye point
unfolding covered_past
past_is seek eye point e t q = q ∙ rw (← e, t)

-- ---- a byte
number_fits : (k : Refusal) → number_of k < 256
unfolding number_of
number_fits Lengths = omega arith
number_fits Values = omega arith
number_fits Parts = omega arith
number_fits Measures = omega arith
number_fits Placing = omega arith
number_fits Extent = omega arith
number_fits View = omega arith
number_fits Point = omega arith
number_fits Restarts = omega arith
number_fits Waiting = omega arith
number_fits Room = omega arith
number_fits Stripes = omega arith

pub byte_fits : (k : Refusal) (n : ℕ) → n ≡ number_of k → n < 256
byte_fits k n e = omega (arith, e, number_fits k)

module _ (seek : Float → Ray → Result Sought Refusal) (eye : Vector) (n : ℕ) (tested : List Float) where
  abbrev told : Vector → ℕ
  told p = byte_of (covered_past seek eye p)

  pub byte-after : (k : ℕ) → n ≤ k → 0 ≡ get_or (bytes_past seek eye n tested) k 0
  unfolding bytes_past
  byte-after = word_after told n tested

  pub byte-is : (k : ℕ) → k < n → (p : Vector) → p ≡ point_of (row 3 k tested) → (a : Result Sight Refusal) → a ≡ covered_past seek eye p → (b : ℕ) → b ≡ byte_of a → b ≡ get_or (bytes_past seek eye n tested) k 0
  unfolding bytes_past
  byte-is k h p ep a ea b eb = word-is told n tested k h p ep b (eb ∙ ap byte_of ea)

  module _ (told₀ : List ℕ) (h : n ≤ length told₀) where
    pub bytes-turn : (xs : List ℕ) (k : ℕ) → Copied (padded 0 (length told₀) (bytes_past seek eye n tested)) told₀ (length told₀) xs k → k < length xs → (b : ℕ) → b ≡ get_or (bytes_past seek eye n tested) k 0
        → Copied (padded 0 (length told₀) (bytes_past seek eye n tested)) told₀ (length told₀) (set xs k b) (k + 1)
    unfolding bytes_past
    bytes-turn = telling-turn told n tested told₀ h

    pub bytes-end : (xs : List ℕ) (k : ℕ) → Copied (padded 0 (length told₀) (bytes_past seek eye n tested)) told₀ (length told₀) xs k → length xs ≤ k → xs ≡ padded 0 (length told₀) (bytes_past seek eye n tested)
    unfolding bytes_past
    bytes-end = telling-end told n tested told₀ h

-- ---- many points
module _ (v : Result ℕ Refusal) (ok : Bool) (size room : ℕ) where
  pub judge-lengths : (size / 3 * 3 ≡ size → ⊥) → Err Lengths ≡ batch_if v ok size room
  unfolding batch_if
  judge-lengths h = go v
    where
      go : (w : Result ℕ Refusal) → Err Lengths ≡ batch_if w ok size room
      go (Ok n) = rw (ne_eqb (size / 3 * 3) size h)
      go (Err k) = rw (ne_eqb (size / 3 * 3) size h)

  module _ (h : size / 3 * 3 ≡ size) where
    pub judge-refused : (k : Refusal) → v ≡ Err k → Err k ≡ batch_if v ok size room
    unfolding batch_if
    judge-refused k e = rw (e, eq-eqb (size / 3 * 3) size h)

    module _ (n : ℕ) (e : v ≡ Ok n) where
      pub judge-view : ok ≡ false → Err View ≡ batch_if v ok size room
      unfolding batch_if
      judge-view f = rw (e, eq-eqb (size / 3 * 3) size h, f)

      pub judge-room : ok ≡ true → room < size / 3 → Err Room ≡ batch_if v ok size room
      unfolding batch_if
      judge-room t l = rw (e, eq-eqb (size / 3 * 3) size h, t, lt-leb (size / 3) room l)

      pub judge-answered : ok ≡ true → size / 3 ≤ room → Ok tt ≡ batch_if v ok size room
      unfolding batch_if
      judge-answered t l = rw (e, eq-eqb (size / 3 * 3) size h, t, le-leb (size / 3) room l)

abbrev done : Result ⊤ Refusal
done = Ok tt

not_done : (k : Refusal) → done ≡ Err k → ⊥
not_done k e = cc

-- what holds where the points are answered
pub record Fit (v : Result ℕ Refusal) (ok : Bool) (size room : ℕ) : Type 0 where
  pub many : ℕ
  pub accepted : v ≡ Ok many
  pub passed : ok ≡ true
  pub fits : size / 3 ≤ room

pub answered-so : (v : Result ℕ Refusal) (ok : Bool) (size room : ℕ) → done ≡ batch_if v ok size room → Fit v ok size room
unfolding batch_if
answered-so (Err k) ok size room e = absurd (go (eqb (size / 3 * 3) size) e)
  where
    go : (t : Bool) → done ≡ cond t (Err k) (Err Lengths) → ⊥
    go true e = not_done k e
    go false e = not_done Lengths e
answered-so (Ok n) ok size room e = go (eqb (size / 3 * 3) size) ok (leb (size / 3) room) (leb-true (size / 3) room) e
  where
    go : (t a b : Bool) → (b ≡ true → size / 3 ≤ room)
        → done ≡ cond t (cond a (cond b done (Err Room)) (Err View)) (Err Lengths) → Fit (Ok n) a size room
    go false a b l e = absurd (not_done Lengths e)
    go true false b l e = absurd (not_done View e)
    go true true false l e = absurd (not_done Room e)
    go true true true l e = record { many = n; accepted = refl; passed = refl; fits = l refl }

pub batch-fits : (v : Result ℕ Refusal) (ok : Bool) (size room : ℕ) (b : Result ⊤ Refusal) → b ≡ batch_if v ok size room → (n : ℕ) → n ≡ if_answered b (size / 3) → (n * 3 ≤ size) × (n ≤ room)
unfolding if_answered
batch-fits v ok size room (Err k) e n en = (omega (arith, en), omega (arith, en))
batch-fits v ok size room (Ok tt) e n en = (omega (arith, en), omega (arith, en, (answered-so v ok size room e).fits))

module _ (s : Scene) (bs : List Float) (ms os : List ℕ) (eye : Vector) (tested : List Float) (told₀ : List ℕ) (v : Result ℕ Refusal) (ev : v ≡ check_of s) (L : ℕ) (vs : List Float)
    (left : vs ≡ padded zero_f L (if_accepted v (inverses_of s))) where
  abbrev seekLeft : Float → Ray → Result Sought Refusal
  seekLeft d r = seek_rows d (entry_hit s.numbers vs s.marks r) r bs ms os

  bytes-so : (b : Result ⊤ Refusal) → b ≡ batch_by v eye (length tested) (length told₀)
      → bytes_past seekLeft eye (if_answered b (length tested / 3)) tested
      ≡ view 3 (λ (p : List Float). byte_of (covered_of s bs ms os eye (point_of p))) (if_answered b (length tested / 3)) tested
  unfolding bytes_past if_answered view
  bytes-so (Err k) e = refl
  bytes-so (Ok tt) e =
      let f = answered-so v (within_point eye) (length tested) (length told₀) e in
      ap (λ (g : List Float → ℕ). view 3 g (length tested / 3) tested)
      (fun_ext (λ (p : List Float). ap byte_of (covered-is s f.many (sym ev ∙ f.accepted) bs ms os eye refl f.passed L vs (left_is zero_f f.many f.accepted L (inverses_of s) left) (point_of p))))

  pub all_told : (b : Result ⊤ Refusal) → b ≡ batch_by v eye (length tested) (length told₀) → (n : ℕ) → n ≡ if_answered b (length tested / 3) → (told : List ℕ)
      → told ≡ padded 0 (length told₀) (bytes_past seekLeft eye n tested) → AllTold s bs ms os eye tested told₀ b told
  all_told b e n en told et = record { answer = e ∙ rw ev; bytes_are = et ∙ rw en (ap (padded 0 (length told₀)) (bytes-so b e)) }
