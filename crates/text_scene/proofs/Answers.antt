-- What the public call answers and leaves. Assumes nothing.
use Prim.Native.Nat.{ℕ, ◌+◌, ◌-◌, ◌*◌, ◌/◌, ◌≤◌, ◌<◌}
use mathlib.Core.Path.{◌≡◌, sym, ap, ◌∙◌}
use mathlib.Core.Bool.{Bool, true, false}
use mathlib.Core.List.{List, [], ◌++◌}
use native.Mathlib.Omega.{arith}
use lib.Ieee.{Float}
use lib.ListN.{length, take, replicate}
use lib.Seq.{length-take-le, take_at}
use borrow.Author.Tests.{lt-leb, le-leb}
use Rattle.floats.specs.Arith.{zero_f}
use Rattle.rows.specs.Rows.{padded}
use Rattle.rows.proofs.Rows.{padded-take}
use Rattle.view.specs.declared.View.{View}
use Rattle.scene.specs.Scenes.{scene_of}
use Rattle.text_tokens.specs.Tokens.{Got, no, got, and_then, left, part, is_over}
use Rattle.text_heads.specs.Heads.{view_in}
use Rattle.text_heads.specs.Cursors.{scene_upto, viewed_as}
use Rattle.text_heads.specs.declared.Cursor.{Cursor}
use Rattle.text_scene.specs.Texts.{Yard, lines_left, whole_line, forms_in, empty_scene, yard_in, yard_of}
use Rattle.text_scene.specs.Answers.{reading_of, scene_read}
use Rattle.text_scene.specs.Readings.{line_as, scene_as, reading_as, WithinReading, ReadingFits}
use Rattle.text_scene.proofs.Texts.{whole-over, whole-more}
use Rattle.std.specs.Prelude.{None, Option, Some}

-- ---- the view and the forms after it
module _ (s : List ℕ) where
  pub yard-long : 65536 < length s → no ≡ yard_of s
  unfolding yard_of
  yard-long h = rw (lt-leb (length s) 65536 h)

  module _ (short : length s ≤ 65536) {l : Option (ℕ × ℕ)} (line : lines_left s 0 ≡ line_as s l) where
    pub yard-empty : l ≡ None → no ≡ yard_of s
    unfolding yard_of yard_in line_as
    yard-empty f = rw (le-leb (length s) 65536 short, line, f)

    module _ {a e : ℕ} (f : l ≡ Some (a, e)) (v : Option (View × ℕ)) (viewed : viewed_as (part a e s) v ≡ view_in (left (part a e s) 0)) where
      next : yard_of s ≡ and_then (whole_line (viewed_as (part a e s) v)) (λ x _. and_then (forms_in empty_scene (lines_left s (e + 1))) (λ y ts. got (record { view = x; scene = y }) ts))
      unfolding yard_of yard_in line_as
      next = rw (le-leb (length s) 65536 short, line, f, viewed)

      pub yard-unseen : v ≡ None → no ≡ yard_of s
      unfolding viewed_as whole_line and_then
      yard-unseen p = sym (next ∙ rw p)

      module _ {x : View} {k : ℕ} (p : v ≡ Some (x, k)) {b : Bool} (over : b ≡ is_over (left (part a e s) k)) where
        pub yard-more : b ≡ false → no ≡ yard_of s
        unfolding viewed_as and_then
        yard-more q = sym (next ∙ rw (p, whole-more x (left (part a e s) k) (sym over ∙ q)))

        module _ (q : b ≡ true) (ns : List Float) (ms : List ℕ) (ps : List Float) (ss os : List ℕ) (r : Option Cursor) (forms : scene_as r ns ms ps ss os ≡ forms_in empty_scene (lines_left s (e + 1))) where
          seen : yard_of s ≡ and_then (scene_as r ns ms ps ss os) (λ y ts. got (record { view = x; scene = y }) ts)
          unfolding viewed_as and_then
          seen = next ∙ rw (p, whole-over x (left (part a e s) k) (sym over ∙ q), forms)

          pub yard-no : r ≡ None → no ≡ yard_of s
          unfolding scene_as and_then
          yard-no t = sym (seen ∙ rw t)

          pub yard-read : {c : Cursor} → r ≡ Some c → reading_as (Some (x, c.entries, c.points, c.lines)) ns ms ps ss os ≡ yard_of s
          unfolding scene_as and_then reading_as scene_upto
          yard-read t = sym (seen ∙ rw t)

-- ---- the arrays
pub fits-within : (r : Option (View × ℕ × ℕ × ℕ)) (ns : List Float) (ms : List ℕ) (ps : List Float) (ss os : List ℕ) → WithinReading r
    → length ns ≡ 8192 → length ms ≡ 2048 → length ps ≡ 6144 → length ss ≡ 2048 → length os ≡ 2048 → ReadingFits r ns ms ps ss os
unfolding WithinReading ReadingFits
fits-within (Some (v, e, p, l)) ns ms ps ss os w a b c d g = (omega (arith, w.0, a), (omega (arith, w.0, b), (omega (arith, w.1.0, c), (omega (arith, w.1.1, d), omega (arith, w.1.1, g)))))
fits-within None ns ms ps ss os w a b c d g = tt

pub read_fits : {r : Option (View × ℕ × ℕ × ℕ)} {v : View} {e p l : ℕ} (ns : List Float) (ms : List ℕ) (ps : List Float) (ss os : List ℕ) → ReadingFits r ns ms ps ss os → r ≡ Some (v, e, p, l)
    → (e * 16 ≤ length ns) × ((e * 4 ≤ length ms) × ((p * 3 ≤ length ps) × ((l ≤ length ss) × (l ≤ length os))))
unfolding ReadingFits
read_fits ns ms ps ss os w f = rw f at w

pub read-within : {r : Option (View × ℕ × ℕ × ℕ)} {v : View} {e p l : ℕ} → WithinReading r → r ≡ Some (v, e, p, l) → (e ≤ 512) × ((p ≤ 2048) × (l ≤ 2048))
unfolding WithinReading
read-within w f = rw f at w

-- the slices after a clear from n on
pub cleared : {A : Type 0} (z : A) (m n : ℕ) (xs : List A) {ys : List A} → n ≤ length xs → length xs ≡ m → ys ≡ take n xs ++ replicate (length xs - n) z → ys ≡ padded z m (take n xs)
cleared z m n xs l e w = w ∙ padded-take z xs n l ∙ rw e

-- its first n places are kept
pub kept-front : {A : Type 0} (z : A) (n : ℕ) (xs : List A) {ys : List A} → n ≤ length xs → ys ≡ take n xs ++ replicate (length xs - n) z → take n ys ≡ take n xs
kept-front z n xs l w = ap (take n) w ∙ take_at (take n xs) (replicate (length xs - n) z) n (length-take-le n xs l)

module _ (x : Got Yard) (v : View) (e p l : ℕ) (ns : List Float) (ms : List ℕ) (ps : List Float) (ss os : List ℕ) {r : Option (View × ℕ × ℕ × ℕ)} (is : reading_as r ns ms ps ss os ≡ x) (f : r ≡ Some (v, e, p, l)) (fits : ReadingFits r ns ms ps ss os) where
  all : (e * 16 ≤ length ns) × ((e * 4 ≤ length ms) × ((p * 3 ≤ length ps) × ((l ≤ length ss) × (l ≤ length os))))
  all = read_fits ns ms ps ss os fits f

  scene : x ≡ got (record { view = v; scene = scene_of (take (e * 16) ns) (take (e * 4) ms) (take (p * 3) ps) (take l ss) (take l os) }) []
  unfolding reading_as
  scene = sym is ∙ rw f

  pub read_answer : Some (v, e, p, l) ≡ reading_of x
  unfolding reading_of
  read_answer =
      let a : length (take (e * 4) ms) / 4 ≡ e = (let t : length (take (e * 4) ms) ≡ e * 4 = length-take-le (e * 4) ms all.1.0 in rw t (omega arith)) in
      let b : length (take (p * 3) ps) / 3 ≡ p = (let t : length (take (p * 3) ps) ≡ p * 3 = length-take-le (p * 3) ps all.1.1.0 in rw t (omega arith)) in
      sym (rw (scene, a, b, length-take-le l ss all.1.1.1.0))

  pub read-numbers : (m : ℕ) {ys : List Float} → length ns ≡ m → ys ≡ take (e * 16) ns ++ replicate (length ns - e * 16) zero_f → ys ≡ padded zero_f m (scene_read x).numbers
  unfolding scene_read
  read-numbers m k w = rw scene (cleared zero_f m (e * 16) ns all.0 k w)

  pub read-marks : (m : ℕ) {ys : List ℕ} → length ms ≡ m → ys ≡ take (e * 4) ms ++ replicate (length ms - e * 4) 0 → ys ≡ padded 0 m (scene_read x).marks
  unfolding scene_read
  read-marks m k w = rw scene (cleared 0 m (e * 4) ms all.1.0 k w)

  pub read-points : (m : ℕ) {ys : List Float} → length ps ≡ m → ys ≡ take (p * 3) ps ++ replicate (length ps - p * 3) zero_f → ys ≡ padded zero_f m (scene_read x).points
  unfolding scene_read
  read-points m k w = rw scene (cleared zero_f m (p * 3) ps all.1.1.0 k w)

  pub read-starts : (m : ℕ) {ys : List ℕ} → length ss ≡ m → ys ≡ take l ss ++ replicate (length ss - l) 0 → ys ≡ padded 0 m (scene_read x).starts
  unfolding scene_read
  read-starts m k w = rw scene (cleared 0 m l ss all.1.1.1.0 k w)

  pub read-owners : (m : ℕ) {ys : List ℕ} → length os ≡ m → ys ≡ take l os ++ replicate (length os - l) 0 → ys ≡ padded 0 m (scene_read x).owners
  unfolding scene_read
  read-owners m k w = rw scene (cleared 0 m l os all.1.1.1.1 k w)

  module _ (ns' : List Float) (ms' : List ℕ) (ps' : List Float) (ss' os' : List ℕ) where
    pub read_held : ns' ≡ take (e * 16) ns ++ replicate (length ns - e * 16) zero_f → ms' ≡ take (e * 4) ms ++ replicate (length ms - e * 4) 0
        → ps' ≡ take (p * 3) ps ++ replicate (length ps - p * 3) zero_f → ss' ≡ take l ss ++ replicate (length ss - l) 0 → os' ≡ take l os ++ replicate (length os - l) 0
        → reading_as (Some (v, e, p, l)) ns' ms' ps' ss' os' ≡ x
    unfolding reading_as
    read_held a b c d g =
        rw (kept-front zero_f (e * 16) ns all.0 a, kept-front 0 (e * 4) ms all.1.0 b, kept-front zero_f (p * 3) ps all.1.1.0 c, kept-front 0 l ss all.1.1.1.0 d, kept-front 0 l os all.1.1.1.1 g)
        (sym scene)

    pub held_fits : length ns' ≡ length ns → length ms' ≡ length ms → length ps' ≡ length ps → length ss' ≡ length ss → length os' ≡ length os → ReadingFits (Some (v, e, p, l)) ns' ms' ps' ss' os'
    unfolding ReadingFits
    held_fits a b c d g = (omega (arith, all.0, a), (omega (arith, all.1.0, b), (omega (arith, all.1.1.0, c), (omega (arith, all.1.1.1.0, d), omega (arith, all.1.1.1.1, g)))))

module _ (x : Got Yard) (ns : List Float) (ms : List ℕ) (ps : List Float) (ss os : List ℕ) {r : Option (View × ℕ × ℕ × ℕ)} (is : reading_as r ns ms ps ss os ≡ x) (f : r ≡ None) where
  none : x ≡ no
  unfolding reading_as
  none = sym is ∙ rw f

  pub refused-held : (ns' : List Float) (ms' : List ℕ) (ps' : List Float) (ss' os' : List ℕ) → reading_as None ns' ms' ps' ss' os' ≡ x
  unfolding reading_as
  refused-held ns' ms' ps' ss' os' = sym none

  pub refused-answer : None ≡ reading_of x
  unfolding reading_of
  refused-answer = rw none

  module _ {A : Type 0} (z : A) (m : ℕ) (xs : List A) {ys : List A} (k : length xs ≡ m) (w : ys ≡ take 0 xs ++ replicate (length xs - 0) z) where
    zeros : ys ≡ padded z m []
    zeros = cleared z m 0 xs (omega arith) k w

  pub refused-numbers : (m : ℕ) {ys : List Float} → length ns ≡ m → ys ≡ take 0 ns ++ replicate (length ns - 0) zero_f → ys ≡ padded zero_f m (scene_read x).numbers
  unfolding scene_read
  refused-numbers m k w = rw none (zeros zero_f m ns k w)

  pub refused-marks : (m : ℕ) {ys : List ℕ} → length ms ≡ m → ys ≡ take 0 ms ++ replicate (length ms - 0) 0 → ys ≡ padded 0 m (scene_read x).marks
  unfolding scene_read
  refused-marks m k w = rw none (zeros 0 m ms k w)

  pub refused-points : (m : ℕ) {ys : List Float} → length ps ≡ m → ys ≡ take 0 ps ++ replicate (length ps - 0) zero_f → ys ≡ padded zero_f m (scene_read x).points
  unfolding scene_read
  refused-points m k w = rw none (zeros zero_f m ps k w)

  pub refused-starts : (m : ℕ) {ys : List ℕ} → length ss ≡ m → ys ≡ take 0 ss ++ replicate (length ss - 0) 0 → ys ≡ padded 0 m (scene_read x).starts
  unfolding scene_read
  refused-starts m k w = rw none (zeros 0 m ss k w)

  pub refused-owners : (m : ℕ) {ys : List ℕ} → length os ≡ m → ys ≡ take 0 os ++ replicate (length os - 0) 0 → ys ≡ padded 0 m (scene_read x).owners
  unfolding scene_read
  refused-owners m k w = rw none (zeros 0 m os k w)

pub refused-fits : (ns : List Float) (ms : List ℕ) (ps : List Float) (ss os : List ℕ) → ReadingFits None ns ms ps ss os
unfolding ReadingFits
refused-fits ns ms ps ss os = tt
