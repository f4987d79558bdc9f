-- The forms of an accepted scene, each of whose numbers is an f64, can be written. Assumes nothing.
use Prim.Native.Nat.{ℕ, zero, suc, ◌+◌, ◌-◌, ◌*◌, ◌/◌, ◌<◌, ◌≤◌}
use mathlib.Core.Path.{◌≡◌, refl, sym, ap, ap₂, ◌∙◌, subst}
use mathlib.Core.List.{List, [], ◌∷◌}
use mathlib.Core.Bool.{Bool, true, false, cond, ◌&&◌, and-eq-true_iff}
use native.Mathlib.Omega.{arith}
use lib.ListN.{length, take, drop, get_or, length-drop}
use lib.Seq.{slice, length-take-le}
use lib.Dec.{T, eqb, ltb, leb}
use lib.Ieee.{Float, binary64, fits, nan}
use lib.Ieee.Fits.{nan-fits}
use borrow.Author.Tests.{leb-true}
use Rattle.geometry.specs.declared.vector.Vector.{Vector}
use Rattle.rows.specs.Rows.{row, view}
use Rattle.rows.specs.Points.{point_of}
use Rattle.rows.specs.Starts.{next_start}
use Rattle.rows.specs.declared.Marks.{Marks}
use Rattle.scene.specs.Entries.{striped, stripe_count, marks_at}
use Rattle.scene.specs.Scenes.{Scene, entries_of}
use Rattle.paths.specs.Paths.{paths_of}
use Rattle.paths.specs.Ends.{places, all_points}
use Rattle.draw_lines.specs.Lines.{own_paths}
use Rattle.check_parts.specs.Parts.{parts_ok}
use Rattle.check_parts.specs.Owners.{is_round}
use Rattle.check_parts.proofs.Depths.{Part, part-six, part-seven}
use Rattle.check_measures.specs.Values.{is_stripes}
use Rattle.text_heads.specs.Heads.{measures}
use Rattle.text_drawing.specs.Determined.{Double, Doubles, AllDoubles}
use Rattle.text_canonical.specs.Forms.{Form, round_form, cube_form, triangle_form, placed_form, cut_form, no_form, lines_at, form_of, form_at}
use Rattle.text_canonical.specs.Writable.{F64s, Writable}
use Rattle.text_canonical.proofs.Readback.{measures-le}
use Rattle.theorem_canonical.proofs.Opened.{form-by, form-opens}
use Rattle.theorem_canonical.proofs.Judging.{test_form, Passes}

-- ---- numbers
take-f64s : (n : ℕ) (xs : List Float) → F64s xs → F64s (take n xs)
unfolding F64s
take-f64s zero xs h = tt
take-f64s (suc n) [] h = tt
take-f64s (suc n) (x ∷ xs) h = (h.0, take-f64s n xs h.1)

drop-f64s : (n : ℕ) (xs : List Float) → F64s xs → F64s (drop n xs)
unfolding F64s
drop-f64s zero xs h = h
drop-f64s (suc n) [] h = tt
drop-f64s (suc n) (x ∷ xs) h = drop-f64s n xs h.1

at-f64 : (xs : List Float) (i : ℕ) → F64s xs → T (fits binary64 (get_or xs i nan))
unfolding F64s
at-f64 [] i h = nan-fits binary64
at-f64 (x ∷ xs) zero h = h.0
at-f64 (x ∷ xs) (suc i) h = at-f64 xs i h.1

-- ---- points and lines
points-double : (n : ℕ) (xs : List Float) → F64s xs → Doubles (view 3 point_of n xs)
unfolding Doubles view
points-double zero xs h = tt
points-double (suc n) xs h = let r = take-f64s 3 xs h in ((at-f64 (take 3 xs) 0 r, at-f64 (take 3 xs) 1 r, at-f64 (take 3 xs) 2 r), points-double n (drop 3 xs) (drop-f64s 3 xs h))

take-doubles : (n : ℕ) (ps : List Vector) → Doubles ps → Doubles (take n ps)
unfolding Doubles
take-doubles zero ps h = tt
take-doubles (suc n) [] h = tt
take-doubles (suc n) (p ∷ ps) h = (h.0, take-doubles n ps h.1)

drop-doubles : (n : ℕ) (ps : List Vector) → Doubles ps → Doubles (drop n ps)
unfolding Doubles
drop-doubles zero ps h = h
drop-doubles (suc n) [] h = tt
drop-doubles (suc n) (p ∷ ps) h = drop-doubles n ps h.1

paths-double : (ps : List Vector) (ss : List ℕ) → Doubles ps → AllDoubles (paths_of ps ss)
unfolding AllDoubles paths_of
paths-double ps [] h = tt
paths-double ps (s ∷ ss) h = (drop-doubles s (take (next_start (length ps) ss) ps) (take-doubles (next_start (length ps) ss) ps h), paths-double ps ss h)

own-double : (i : ℕ) (ps : List (List Vector)) (os : List ℕ) → AllDoubles ps → AllDoubles (own_paths i ps os)
unfolding AllDoubles own_paths
own-double i [] os h = tt
own-double i (p ∷ ps) [] h = tt
own-double i (p ∷ ps) (o ∷ os) h = by (eqb o i) (own-double i ps os h.1)
  where
    by : (t : Bool) → AllDoubles (own_paths i ps os) → AllDoubles (cond t (p ∷ own_paths i ps os) (own_paths i ps os))
    by true r = (h.0, r)
    by false r = r

pub lines-double : (s : Scene) (i : ℕ) → F64s s.points → AllDoubles (lines_at s i)
lines-double s i h = own-double i (paths_of (all_points s.points) s.starts) s.owners (paths-double (all_points s.points) s.starts (points-double (places s.points) s.points h))

-- ---- a form that passes
round-few : (k n : ℕ) (xs : List Float) (ls : List (List Vector)) → test_form (round_form k n xs ls) ≡ true → n ≤ 1000000
unfolding test_form
round-few k n xs ls h = omega (arith, leb-true n 360 ((and-eq-true_iff (leb n 360) _).0 h).0)

cube-few : (n : ℕ) (xs : List Float) → test_form (cube_form n xs) ≡ true → n ≤ 1000000
unfolding test_form is_stripes
cube-few n xs h = omega (arith, leb-true n 1000 ((and-eq-true_iff (leb 1 n) (leb n 1000)).0 ((and-eq-true_iff (leb 1 n && leb n 1000) _).0 h).0).1)

cut-few : (o : ℕ) (f g : Form) → test_form (cut_form o f g) ≡ true → o ≤ 1000000
unfolding test_form
cut-few o f g h = omega (arith, leb-true o 3 ((and-eq-true_iff (leb o 3) true).0 h).0)

none_passes : test_form no_form ≡ true → ⊥
unfolding test_form
none_passes e = let z : ◌≡◌ {A = ℕ} 0 1 = ap (λ (b : Bool). cond b 1 0) e in omega (arith, z)

-- a kind without a count has 0
no-stripes : (m : Marks) → striped m.kind ≡ false → stripe_count m ≡ 0
unfolding stripe_count
no-stripes m e = rw e

module _ (m : Marks) (r : List Float) (ls : List (List Vector)) (sub : ℕ → Form) (long : length r ≡ 16) (f64 : F64s r) (double : AllDoubles ls) where
  part-long : (u : ℕ) → u ≤ 16 → length (take u r) ≡ u
  part-long u h = length-take-le u r (omega (arith, h, long))

  writable-entry : (m.kind ≡ 6 → Writable (sub m.first)) → (m.kind ≡ 7 → Writable (sub m.first) × Writable (sub m.second)) → test_form (form_of m r ls sub) ≡ true → Writable (form_of m r ls sub)
  unfolding Writable
  writable-entry six seven =
      form-by (λ (f : Form). test_form f ≡ true → Writable f) m r ls sub
      (λ e h. (e, round-few m.kind (stripe_count m) (take (measures m.kind) r) ls h, no-stripes m, part-long (measures m.kind) (measures-le m.kind), take-f64s (measures m.kind) r f64, double))
      (λ e h. (cube-few m.detail (take 6 r) h, part-long 6 (omega arith), take-f64s 6 r f64))
      (λ e h. (part-long 9 (omega arith), take-f64s 9 r f64))
      (λ e h. (part-long 16 (omega arith), take-f64s 16 r f64, six e))
      (λ e h. (cut-few m.detail (sub m.first) (sub m.second) h, (seven e).0, (seven e).1))
      (λ e0 e4 e5 e6 e7 h. absurd (none_passes h))

module _ (s : Scene) (fit : entries_of s * 16 ≤ length s.numbers) (ok : parts_ok s.marks (entries_of s) ≡ true) (each : (i : ℕ) → i < entries_of s → Passes (form_at 8 s i)) (f64 : F64s s.numbers) (points : F64s s.points) where
  row-long : (i : ℕ) → i < entries_of s → length (row 16 i s.numbers) ≡ 16
  row-long i h = length-take-le 16 (drop (i * 16) s.numbers) (rw (length-drop (i * 16) s.numbers) (omega (arith, h, fit)))

  writable-below : (n i : ℕ) → i < n → i < entries_of s → Writable (form_at 8 s i)
  writable-below zero i l h = absurd (omega arith)
  writable-below (suc n) i l h =
      let o = form-opens s ok i h in
      let m = marks_at s.marks i in
      subst Writable (sym o)
      (writable-entry m (row 16 i s.numbers) (lines_at s i) (form_at 8 s) (row-long i h) (take-f64s 16 (drop (i * 16) s.numbers) (drop-f64s (i * 16) s.numbers f64)) (lines-double s i points)
      (λ e. let p = part-six s.marks (entries_of s) ok i h e in writable-below n m.first (omega (arith, p.0)) (omega (arith, p.0)))
      (λ e. let p = part-seven s.marks (entries_of s) ok i h e in (writable-below n m.first (omega (arith, p.0.0)) (omega (arith, p.0.0)), writable-below n m.second (omega (arith, p.1.0)) (omega (arith, p.1.0))))
      (subst (λ (f : Form). test_form f ≡ true) o (each i h).0))

  pub writable-at : (i : ℕ) → i < entries_of s → Writable (form_at 8 s i)
  writable-at i h = writable-below (suc i) i (omega arith) h
