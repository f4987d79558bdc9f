-- One more point of a line, one more line of an entry. Assumes nothing.
use Prim.Native.Nat.{ℕ, zero, suc, ◌+◌, ◌-◌, ◌*◌, ◌≤◌, ◌<◌}
use mathlib.Core.Path.{◌≡◌, refl, sym, ap, ◌∙◌}
use mathlib.Core.List.{List, ◌++◌}
use native.Mathlib.Numerals.{add-one}
use native.Mathlib.Omega.{arith}
use lib.Ieee.{Float}
use lib.ListN.{length, take, drop, set, length-append, length-set}
use lib.Seq.{sets, sets-eq, take_at, length-take-le, take-suc-set}
use Rattle.geometry.specs.declared.vector.Vector.{Vector}
use Rattle.rows.specs.Rows.{set_row}
use Rattle.rows.specs.Points.{point_row}
use Rattle.rows.proofs.Rows.{length-set_row}
use Rattle.scene.specs.Scenes.{scene_of}
use Rattle.text_tokens.specs.Tokens.{left, got, and_then, close_in}
use Rattle.text_tokens.specs.Seen.{step_as}
use Rattle.text_heads.specs.Heads.{named_in, line_word, point_in}
use Rattle.text_heads.specs.Lines.{or_else, dotted, points_in, point_count, begun, lines_in}
use Rattle.text_heads.specs.Cursors.{spot_as, run_as, scene_upto, next_as, CursorWithin, WithinRun}
use Rattle.text_heads.specs.declared.Cursor.{Cursor}
use Rattle.std.specs.Prelude.{None, Option, Some}

pub take-sets : {A : Type 0} (l : List A) (i : ℕ) (vs : List A) → i + length vs ≤ length l → take (i + length vs) (sets l i vs) ≡ take i l ++ vs
take-sets l i vs h =
    let n : length (take i l ++ vs) ≡ i + length vs = length-append (take i l) vs ∙ ap (λ (j : ℕ). j + length vs) (length-take-le i l (omega arith)) in
    rw (sets-eq vs l i h) (take_at (take i l ++ vs) (drop (i + length vs) l) (i + length vs) n)

point-more : (ps : List Float) (k : ℕ) (p : Vector) → k * 3 + 3 ≤ length ps → take (k * 3) ps ++ point_row p ≡ take ((k + 1) * 3) (set_row 3 k (point_row p) ps)
point-more ps k p h = let e : (k + 1) * 3 ≡ k * 3 + 3 = omega arith in sym (rw e (take-sets ps (k * 3) (point_row p) h))

-- ---- the points of a line: k are scene_upto, and the reading has come to `at`
pub record Dotted (s : List ℕ) (from first : ℕ) (ps₀ ps : List Float) (at k : ℕ) : Type 0 where
  pub few : k ≤ 2048
  pub long : length ps ≡ length ps₀
  pub same : (ns : List Float) (ms ss os : List ℕ) → points_in (2048 - first) (scene_of ns ms (take (first * 3) ps₀) ss os) (left s from) ≡ points_in (2048 - k) (scene_of ns ms (take (k * 3) ps) ss os) (left s at)

module _ (s : List ℕ) (from first : ℕ) (ps₀ : List Float) where
  pub dotted-start : first ≤ 2048 → Dotted s from first ps₀ ps₀ from first
  dotted-start h = record { few = h; long = refl; same = λ ns ms ss os. refl }

  module _ (ps : List Float) (at k : ℕ) (h : Dotted s from first ps₀ ps at k) {r : Option ℕ} (close : step_as s r ≡ close_in (left s at)) where
    module _ (ns : List Float) (ms ss os : List ℕ) where
      pub dotted-end : {n : ℕ} → r ≡ Some n → run_as s (Some (n, k)) ns ms ps ss os ≡ points_in (2048 - first) (scene_of ns ms (take (first * 3) ps₀) ss os) (left s from)
      unfolding run_as step_as points_in or_else
      dotted-end {n} f = sym (h.same ns ms ss os ∙ go (2048 - k))
        where
          go : (m : ℕ) → points_in m (scene_of ns ms (take (k * 3) ps) ss os) (left s at) ≡ got (scene_of ns ms (take (k * 3) ps) ss os) (left s n)
          go zero = rw (← close, f)
          go (suc m) = rw (← close, f)

      module _ (off : r ≡ None) where
        pub dotted-full : 2048 ≤ k → run_as s None ns ms ps ss os ≡ points_in (2048 - first) (scene_of ns ms (take (first * 3) ps₀) ss os) (left s from)
        unfolding run_as step_as points_in or_else
        dotted-full l = let z : 2048 - k ≡ 0 = omega arith in sym (h.same ns ms ss os ∙ rw (z, ← close, off))

        pub dotted-stray : k < 2048 → {p : Option (Vector × ℕ)} → spot_as s p ≡ point_in (left s at) → p ≡ None → run_as s None ns ms ps ss os ≡ points_in (2048 - first) (scene_of ns ms (take (first * 3) ps₀) ss os) (left s from)
        unfolding run_as step_as points_in or_else spot_as and_then
        dotted-stray l g q = let z : 2048 - k ≡ suc (2048 - (k + 1)) = omega arith in sym (h.same ns ms ss os ∙ rw (z, ← close, off, ← g, q))

    pub dotted-turn : 6144 ≤ length ps₀ → r ≡ None → k < 2048 → {p : Option (Vector × ℕ)} → spot_as s p ≡ point_in (left s at) → {v : Vector} {n : ℕ} → p ≡ Some (v, n) → {ps' : List Float} → ps' ≡ set_row 3 k (point_row v) ps
        → Dotted s from first ps₀ ps' n (k + 1)
    unfolding step_as points_in or_else spot_as and_then dotted
    dotted-turn big off l g {v} q w =
        let z : 2048 - k ≡ suc (2048 - (k + 1)) = omega arith in
        record {
          few = omega arith;
          long = rw w (length-set_row 3 k (point_row v) ps ∙ h.long);
          same = λ ns ms ss os. h.same ns ms ss os ∙ rw (z, ← close, off, ← g, q, w, ← point-more ps k v (omega (arith, l, big, h.long)));
        }

pub run-upto : {r : Option (ℕ × ℕ)} {n k : ℕ} → WithinRun r → r ≡ Some (n, k) → k ≤ 2048
unfolding WithinRun
run-upto w p = rw p at w

-- ---- the lines of an entry: p points and k lines are scene_upto
abbrev pub lined : Cursor → ℕ → ℕ → ℕ → Cursor
lined c at p k = record { at = at; entries = c.entries; points = p; lines = k }

pub record Lined (s : List ℕ) (c : Cursor) (owner : ℕ) (ps₀ : List Float) (ss₀ os₀ : List ℕ) (ps : List Float) (ss os : List ℕ) (at p k : ℕ) : Type 0 where
  pub points : p ≤ 2048
  pub lines : k ≤ 2048
  pub long-ps : length ps ≡ length ps₀
  pub long-ss : length ss ≡ length ss₀
  pub long-os : length os ≡ length os₀
  pub same : (ns : List Float) (ms : List ℕ) → lines_in owner (2048 - c.lines) (scene_upto c ns ms ps₀ ss₀ os₀) (left s c.at) ≡ lines_in owner (2048 - k) (scene_upto (lined c at p k) ns ms ps ss os) (left s at)

module _ (s : List ℕ) (c : Cursor) (owner : ℕ) (ps₀ : List Float) (ss₀ os₀ : List ℕ) where
  pub lined-start : CursorWithin c → Lined s c owner ps₀ ss₀ os₀ ps₀ ss₀ os₀ c.at c.points c.lines
  lined-start w = record { points = w.points; lines = w.lines; long-ps = refl; long-ss = refl; long-os = refl; same = λ ns ms. refl }

  module _ (ps : List Float) (ss os : List ℕ) (at p k : ℕ) (h : Lined s c owner ps₀ ss₀ os₀ ps ss os at p k) {r : Option ℕ} (close : step_as s r ≡ close_in (left s at)) where
    module _ (ns : List Float) (ms : List ℕ) where
      pub lined-end : {n : ℕ} → r ≡ Some n → next_as s (Some (lined c n p k)) ns ms ps ss os ≡ lines_in owner (2048 - c.lines) (scene_upto c ns ms ps₀ ss₀ os₀) (left s c.at)
      unfolding next_as step_as lines_in or_else scene_upto
      lined-end {n} f = sym (h.same ns ms ∙ go (2048 - k))
        where
          go : (m : ℕ) → lines_in owner m (scene_upto (lined c at p k) ns ms ps ss os) (left s at) ≡ got (scene_upto (lined c at p k) ns ms ps ss os) (left s n)
          go zero = rw (← close, f)
          go (suc m) = rw (← close, f)

      module _ (off : r ≡ None) where
        pub lined-full : 2048 ≤ k → next_as s None ns ms ps ss os ≡ lines_in owner (2048 - c.lines) (scene_upto c ns ms ps₀ ss₀ os₀) (left s c.at)
        unfolding next_as step_as lines_in or_else
        lined-full l = let z : 2048 - k ≡ 0 = omega arith in sym (h.same ns ms ∙ rw (z, ← close, off))

        module _ (l : k < 2048) {g : Option ℕ} (named : step_as s g ≡ named_in line_word (left s at)) where
          pub lined-stray : g ≡ None → next_as s None ns ms ps ss os ≡ lines_in owner (2048 - c.lines) (scene_upto c ns ms ps₀ ss₀ os₀) (left s c.at)
          unfolding next_as step_as lines_in or_else and_then
          lined-stray q = let z : 2048 - k ≡ suc (2048 - (k + 1)) = omega arith in sym (h.same ns ms ∙ rw (z, ← close, off, ← named, q))

          module _ {n : ℕ} (goes : g ≡ Some n) (big-ps : 6144 ≤ length ps₀) (big-ss : 2048 ≤ length ss₀) (big-os : 2048 ≤ length os₀) where
            -- the line begins
            step : lines_in owner (2048 - k) (scene_upto (lined c at p k) ns ms ps ss os) (left s at) ≡ and_then (points_in (2048 - point_count (scene_upto (lined c at p k) ns ms ps ss os)) (begun owner (scene_upto (lined c at p k) ns ms ps ss os)) (left s n)) (λ b vs. lines_in owner (2048 - (k + 1)) b vs)
            unfolding step_as lines_in or_else and_then
            step = let z : 2048 - k ≡ suc (2048 - (k + 1)) = omega arith in rw (z, ← close, off, ← named, goes)

            counted : point_count (scene_upto (lined c at p k) ns ms ps ss os) ≡ p
            unfolding scene_upto
            counted = let e : length (take (p * 3) ps) ≡ p * 3 = length-take-le (p * 3) ps (omega (arith, h.points, h.long-ps, big-ps)) in rw e (omega arith)

            begins : begun owner (scene_upto (lined c at p k) ns ms ps ss os) ≡ scene_of (take (c.entries * 16) ns) (take (c.entries * 4) ms) (take (p * 3) ps) (take (k + 1) (set ss k p)) (take (k + 1) (set os k owner))
            unfolding begun scene_upto
            begins = rw (add-one k, take-suc-set ss k p (omega (arith, l, h.long-ss, big-ss)), take-suc-set os k owner (omega (arith, l, h.long-os, big-os)), counted)

            module _ (ps' : List Float) (b : Option (ℕ × ℕ))
                (run : (ns : List Float) (ms ss os : List ℕ) → run_as s b ns ms ps' ss os ≡ points_in (2048 - p) (scene_of ns ms (take (p * 3) ps) ss os) (left s n)) where
              ran : points_in (2048 - point_count (scene_upto (lined c at p k) ns ms ps ss os)) (begun owner (scene_upto (lined c at p k) ns ms ps ss os)) (left s n) ≡ run_as s b (take (c.entries * 16) ns) (take (c.entries * 4) ms) ps' (take (k + 1) (set ss k p)) (take (k + 1) (set os k owner))
              ran = rw (counted, begins) (sym (run (take (c.entries * 16) ns) (take (c.entries * 4) ms) (take (k + 1) (set ss k p)) (take (k + 1) (set os k owner))))

              pub lined-broken : b ≡ None → next_as s None ns ms ps' (set ss k p) (set os k owner) ≡ lines_in owner (2048 - c.lines) (scene_upto c ns ms ps₀ ss₀ os₀) (left s c.at)
              unfolding next_as run_as and_then
              lined-broken q = sym (h.same ns ms ∙ step ∙ rw (ran, q))

              pub lined-more : {m q : ℕ} → b ≡ Some (m, q) → lines_in owner (2048 - c.lines) (scene_upto c ns ms ps₀ ss₀ os₀) (left s c.at) ≡ lines_in owner (2048 - (k + 1)) (scene_upto (lined c m q (k + 1)) ns ms ps' (set ss k p) (set os k owner)) (left s m)
              unfolding run_as and_then scene_upto
              lined-more q = h.same ns ms ∙ step ∙ rw (ran, q)

    pub lined-turn : r ≡ None → k < 2048 → {g : Option ℕ} → step_as s g ≡ named_in line_word (left s at) → {n : ℕ} → g ≡ Some n → 6144 ≤ length ps₀ → 2048 ≤ length ss₀ → 2048 ≤ length os₀
        → (ps' : List Float) → length ps' ≡ length ps → (b : Option (ℕ × ℕ)) → ((ns : List Float) (ms ss os : List ℕ) → run_as s b ns ms ps' ss os ≡ points_in (2048 - p) (scene_of ns ms (take (p * 3) ps) ss os) (left s n))
        → {m q : ℕ} → WithinRun b → b ≡ Some (m, q) → Lined s c owner ps₀ ss₀ os₀ ps' (set ss k p) (set os k owner) m q (k + 1)
    lined-turn off l named goes b1 b2 b3 ps' e b run w q =
        record {
          points = run-upto w q;
          lines = omega arith;
          long-ps = e ∙ h.long-ps;
          long-ss = length-set ss k p ∙ h.long-ss;
          long-os = length-set os k owner ∙ h.long-os;
          same = λ ns ms. lined-more ns ms off l named goes b1 b2 b3 ps' b run q;
        }
