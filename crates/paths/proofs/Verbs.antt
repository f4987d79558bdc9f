-- The verbs: a push, and a path opened and closed. Assumes nothing.
use mathlib.Core.Path.{◌≡◌, refl, sym}
use mathlib.Core.List.{List}
use Prim.Native.Nat.{ℕ, ◌+◌, ◌-◌, ◌*◌, ◌≤◌, ◌<◌}
use native.Mathlib.Numerals.{add-one}
use native.Mathlib.Omega.{arith}
use borrow.Author.Tests.{lt-ltb, le-ltb, eq-eqb, ne_eqb}
use lib.ListN.{length, take, get_or, set, length-set}
use lib.Seq.{length-sets, take-suc-set, length-take-le, get_or-take, take-take}
use lib.Ieee.{Float}
use Rattle.geometry.specs.declared.vector.Vector.{Vector}
use Rattle.refusals.specs.declared.Refusal.TheVariants.{Room}
use Rattle.rows.specs.Rows.{set_row}
use Rattle.rows.specs.Points.{points, point_of, point_row}
use Rattle.rows.proofs.Rows.{view-written}
use Rattle.paths.specs.Paths.{push, front, closed_starts}
use Rattle.paths.specs.Ends.{places, Ends, EndsStarts}
use Rattle.paths.proofs.Ending.{answers, refuses}
use Rattle.paths.proofs.Parts.{length-points}
use Rattle.std.specs.Prelude.{Err, Ok}

-- ---- a point
module _ (xs : List Float) (n : ℕ) (v : Vector) (fit : n * 3 ≤ length xs) where
  pub push_at : (ys : List Float) → n < places xs → ys ≡ set_row 3 n (point_row v) xs → Ends (push (places xs) (points n xs) v) ys (Ok (n + 1))
  unfolding push
  push_at ys h e =
      rw e (answers (n + 1) (set_row 3 n (point_row v) xs)
      (rw (length-points n xs, lt-ltb n (places xs) h, view-written 3 point_of n (point_row v) xs refl (omega arith)))
      (simp length-sets (omega arith)))

  pub push-full : places xs ≤ n → Ends (push (places xs) (points n xs) v) xs (Err Room)
  unfolding push
  push-full h = refuses xs (rw (length-points n xs, le-ltb n (places xs) h))

-- ---- a start, and a last path that has no points
module _ (ss : List ℕ) (m n : ℕ) (fit : m ≤ length ss) where
  pub new-at : m < length ss → EndsStarts (push (length ss) (take m ss) n) (set ss m n) (Ok (m + 1))
  unfolding push
  new-at h =
      answers (m + 1) (set ss m n)
      (rw (length-take-le m ss fit, lt-ltb m (length ss) h, add-one, take-suc-set ss m n h))
      (simp length-set (omega arith))

  pub new-full : length ss ≤ m → EndsStarts (push (length ss) (take m ss) n) ss (Err Room)
  unfolding push
  new-full h = refuses ss (rw (length-take-le m ss fit, le-ltb m (length ss) h))

  pub close-none : m ≡ 0 → take m ss ≡ closed_starts (take m ss) n
  unfolding closed_starts
  close-none e = rw e

  module _ (some : m ≡ 0 → ⊥) where
    last-start : get_or (take m ss) (length (take m ss) - 1) 0 ≡ get_or ss (m - 1) 0
    last-start = rw (length-take-le m ss fit) (get_or-take m ss (m - 1) 0 (omega arith))

    pub close-gone : get_or ss (m - 1) 0 ≡ n → take (m - 1) ss ≡ closed_starts (take m ss) n
    unfolding closed_starts front
    close-gone e =
        rw (last-start, e, eq-eqb n n refl, length-take-le m ss fit, lt-ltb 0 m (omega arith)) (sym (take-take (m - 1) m ss (omega arith)))

    pub close-stays : (get_or ss (m - 1) 0 ≡ n → ⊥) → take m ss ≡ closed_starts (take m ss) n
    unfolding closed_starts
    close-stays e = rw (last-start, ne_eqb (get_or ss (m - 1) 0) n e, length-take-le m ss fit, lt-ltb 0 m (omega arith))
