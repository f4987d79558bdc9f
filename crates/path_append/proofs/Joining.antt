-- A second vector of paths written after the first one's: what the two hold together, and how the call ends. Assumes nothing.
use mathlib.Core.Path.{◌≡◌, sym, ap, ap₂, ◌∙◌}
use mathlib.Core.List.{List, ◌∷◌, ◌++◌}
use Prim.Native.Nat.{ℕ, zero, suc, ◌+◌, ◌-◌, ◌*◌, ◌/◌, ◌^◌, ◌≤◌, ◌<◌}
use native.Mathlib.Nat.{zero-add, zero-mul, suc-add, suc-mul, add_comm, add-mul}
use native.Mathlib.Omega.{arith}
use lib.ListN.{length, take, drop, length-append, length-map, length-drop}
use lib.Seq.{sets, sets-eq, length-sets, take_at, drop_at, take-take, drop-drop, length-take-le}
use lib.Ieee.{Float}
use Rattle.geometry.specs.declared.vector.Vector.{Vector}
use Rattle.refusals.specs.declared.Refusal.TheVariants.{Room}
use Rattle.rows.specs.Rows.{view}
use Rattle.rows.specs.Points.{points, point_of}
use Rattle.rows.proofs.Rows.{view-append, view-take}
use Rattle.paths.specs.Answers.{next}
use Rattle.paths.specs.Paths.{Paths, paths_with, push_all}
use Rattle.paths.specs.Ends.{held, EndsBoth}
use Rattle.paths.proofs.Ending.{refuses-both, answers-both}
use Rattle.paths.proofs.Parts.{length-points}
use Rattle.paths.proofs.Runs.{extend_fits, extend-full}
use Rattle.path_append.specs.Append.{Low, Movable, shifted, appended}
use Rattle.std.specs.Prelude.{Err, Ok, Result}
use Rattle.refusals.specs.declared.Refusal.{Refusal}

-- ---- what is stored after i elements stands after them
module _ {A : Type 0} where
  take-sets : (i : ℕ) (vs l : List A) (n : ℕ) → length vs ≡ n → i + n ≤ length l → take (i + n) (sets l i vs) ≡ take i l ++ vs
  take-sets i vs l n w h =
      let e : length (take i l ++ vs) ≡ i + n = length-append (take i l) vs ∙ rw (length-take-le i l (omega arith)) (omega arith) in
      ap (take (i + n)) (sets-eq vs l i (omega arith)) ∙ take_at (take i l ++ vs) (drop (i + length vs) l) (i + n) e

-- ---- n rows and then p
module _ {A B : Type 0} (k : ℕ) (f : List A → B) where
  pub view-add : (n p : ℕ) (xs : List A) → view k f (n + p) xs ≡ view k f n xs ++ view k f p (drop (n * k) xs)
  unfolding view
  view-add zero p xs = rw (zero-add, zero-mul)
  view-add (suc n) p xs =
      rw suc-add
      (ap (λ (t : List B). f (take k xs) ∷ t)
      (view-add n p (drop k xs) ∙ rw (drop-drop, suc-mul, add_comm k (n * k))))

  pub view-both : (n p : ℕ) (xs ys : List A) → length xs ≡ n * k → view k f (n + p) (xs ++ ys) ≡ view k f n xs ++ view k f p ys
  view-both n p xs ys e = view-add n p (xs ++ ys) ∙ rw (view-append k f n xs ys (omega arith), drop_at xs ys (n * k) e)

-- ---- starts that are no more than p, moved on by n
pub low-movable : (n p l : ℕ) (ss : List ℕ) → Low p ss → n + p ≤ l → l < 2 ^ 64 → Movable n ss
low-movable n p l ss low h r = λ j i. omega (arith, low j i)

-- ---- the call
module _ (wide many n m p q : ℕ) (xs : List Float) (ss : List ℕ) (fn : n * 3 ≤ wide) (fm : m ≤ many) (fp : p * 3 ≤ wide) (fq : q ≤ many)
    (fx : wide + wide ≤ length xs) (fs : many + many ≤ length ss) where
  abbrev whole : Result Paths Refusal
  whole = appended (wide / 3) many (held n (take wide xs) m (take many ss)) (held p (take wide (drop wide xs)) q (take many (drop many ss)))

  first : take m (take many ss) ≡ take m ss
  first = take-take m many ss fm

  second : take q (take many (drop many ss)) ≡ take q (drop many ss)
  second = take-take q many (drop many ss) fq

  many-first : length (take m (take many ss)) ≡ m
  many-first = rw first (length-take-le m ss (omega arith))

  many-second : (k : ℕ) → length (shifted k (take q (take many (drop many ss)))) ≡ q
  many-second k = rw second (length-map (take q (drop many ss)) (λ (s : ℕ). s + k) ∙ length-take-le q (drop many ss) (simp length-drop (omega arith)))

  pub starts-full : many - m < q → (ys : List Float) (us : List ℕ) → EndsBoth whole ys us (Err Room)
  unfolding appended
  starts-full h ys us =
      let k = length (points n (take wide xs)) in
      refuses-both ys us
      (rw (extend-full many (take m (take many ss)) (shifted k (take q (take many (drop many ss)))) (omega (arith, many-first)) (omega (arith, many-first, many-second k))))

  module _ (h : q ≤ many - m) where
    begun : whole ≡ next (push_all (wide / 3) (points n (take wide xs)) (points p (take wide (drop wide xs))))
        (λ (vs : List Vector). Ok (paths_with vs (take m ss ++ shifted n (take q (drop many ss)))))
    unfolding appended
    begun =
        rw (length-points n (take wide xs), extend_fits many (take m (take many ss)) (shifted n (take q (take many (drop many ss)))) (omega (arith, many-first, many-second n)), first, second)

    pub points-full : wide / 3 - n < p → (ys : List Float) (us : List ℕ) → EndsBoth whole ys us (Err Room)
    points-full l ys us =
        refuses-both ys us
        (begun
        ∙ rw (extend-full (wide / 3) (points n (take wide xs)) (points p (take wide (drop wide xs))) (rw (length-points n (take wide xs)) (omega arith))
        (rw (length-points n (take wide xs), length-points p (take wide (drop wide xs))) (omega arith))))

    pub joined : p ≤ wide / 3 - n → (ys : List Float) (us : List ℕ) → us ≡ sets ss m (shifted n (take q (drop many ss)))
        → ys ≡ sets xs (n * 3) (take (p * 3) (drop wide xs)) → EndsBoth whole (take wide ys) (take many us) (Ok (n + p, m + q))
    joined l ys us es ex =
        answers-both (n + p) (m + q) (take wide ys) (take many us) (begun ∙ rw (fits, points-joined, starts-joined))
        (rw (length-take-le wide ys (rw (ex, length-sets xs (n * 3) (take (p * 3) (drop wide xs))) (omega arith))) (omega (arith, add-mul n p 3)))
        (rw (length-take-le many us (rw (es, length-sets ss m (shifted n (take q (drop many ss)))) (omega arith))) (omega arith))
      where
        fits : push_all (wide / 3) (points n (take wide xs)) (points p (take wide (drop wide xs))) ≡ Ok (points n (take wide xs) ++ points p (take wide (drop wide xs)))
        fits = extend_fits (wide / 3) (points n (take wide xs)) (points p (take wide (drop wide xs))) (rw (length-points n (take wide xs), length-points p (take wide (drop wide xs))) (omega arith))

        starts-joined : take (m + q) (take many us) ≡ take m ss ++ shifted n (take q (drop many ss))
        starts-joined =
            take-take (m + q) many us (omega arith)
            ∙ ap (take (m + q)) es
            ∙ take-sets m (shifted n (take q (drop many ss))) ss q (rw (← second) (many-second n)) (omega arith)

        -- the rows of a vector, of which there are enough
        rows_of : (i : ℕ) (zs : List Float) → i * 3 ≤ wide → wide ≤ length zs → points i (take wide zs) ≡ points i (take (i * 3) zs)
        rows_of i zs a b = sym (view-take 3 point_of i (take wide zs) (rw (length-take-le wide zs b) a)) ∙ ap (points i) (take-take (i * 3) wide zs a)

        points-joined : points (n + p) (take wide ys) ≡ points n (take wide xs) ++ points p (take wide (drop wide xs))
        points-joined =
            let three : (n + p) * 3 ≡ n * 3 + p * 3 = omega arith in
            let part : length (take (p * 3) (drop wide xs)) ≡ p * 3 = length-take-le (p * 3) (drop wide xs) (simp length-drop (omega arith)) in
            rows_of (n + p) ys (omega arith) (rw (ex, length-sets xs (n * 3) (take (p * 3) (drop wide xs))) (omega arith))
            ∙ ap₂ (λ (i : ℕ) (zs : List Float). points (n + p) (take i zs)) three ex
            ∙ ap (points (n + p)) (take-sets (n * 3) (take (p * 3) (drop wide xs)) xs (p * 3) part (omega arith))
            ∙ view-both 3 point_of n p (take (n * 3) xs) (take (p * 3) (drop wide xs)) (length-take-le (n * 3) xs (omega arith))
            ∙ sym (ap₂ (λ (vs ws : List Vector). vs ++ ws) (rows_of n xs fn (omega arith)) (rows_of p (drop wide xs) fp (simp length-drop (omega arith))))
