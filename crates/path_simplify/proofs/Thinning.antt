-- The loop that writes what is kept of a path. Assumes nothing.
use mathlib.Core.Path.{◌≡◌, refl, sym, ap, ap₂, ◌∙◌, subst}
use mathlib.Core.Logic.{inl, inr}
use mathlib.Core.Bool.{not, true, false}
use mathlib.Core.List.{List, [], ◌∷◌, ◌++◌, append_assoc}
use Prim.Native.Nat.{ℕ, suc, ◌+◌, ◌-◌, ◌*◌, ◌/◌, ◌≤◌, ◌<◌}
use native.Mathlib.Omega.{arith}
use borrow.Author.Tests.{lt-ltb, le-ltb}
use lib.Dec.{T}
use lib.ListN.{length, get_or, set, length-set, length-append}
use lib.Seq.{slice, length-sets}
use lib.Ieee.{Float, lt, nan, is_nan, binary64, of_bits, to_bits}
use Rattle.floats.specs.Arith.{zero_f}
use Rattle.geometry.specs.declared.vector.Vector.{Vector}
use Rattle.refusals.specs.declared.Refusal.TheVariants.{Room}
use Rattle.rows.specs.Rows.{row, set_row}
use Rattle.rows.specs.Points.{points, point_of, point_row}
use Rattle.rows.proofs.Rows.{view-written, get_d-view}
use Rattle.paths.specs.Paths.{push_all, front}
use Rattle.paths.specs.Ends.{places, all_points, nowhere, Ends}
use Rattle.paths.proofs.Ending.{ends_as, refuses, answers}
use Rattle.paths.proofs.Parts.{length-points, part_length, part-last}
use Rattle.paths.proofs.Runs.{extend_fits, extend-full}
use Rattle.path_rdp.specs.declared.Far.{Far}
use Rattle.path_rdp.specs.Rdp.{vertex, first_vertex, last_vertex, farthest_of, simplified}
use Rattle.path_rdp.proofs.Scanning.{far-inside}
use Rattle.path_rdp.proofs.Splitting.{simplified-short}
use Rattle.path_simplify.specs.Simplify.{split_place}
use Rattle.path_simplify.proofs.Kept.{simplified-ended, Splits, Ways, ways}
use Rattle.path_simplify.proofs.Places.{place-no-nan, place-back, Held, held-sets, held_more, points_kept, Rising, rising-room, rest, rest_some, rest-split, rest-step}
use Rattle.std.specs.Prelude.{Err, Ok, Result}
use Rattle.refusals.specs.declared.Refusal.{Refusal}

-- ---- where the code splits
module _ (t : Float) (path : List Float) (a b : ℕ) (fit : b * 3 + 3 ≤ length path) where
  abbrev P : List Vector
  P = slice a (b + 1) (all_points path)

  size : length P ≡ b + 1 - a
  size = part_length path a (b + 1) (omega arith)

  pub split-short : b - a < 2 → a < b → a ≡ a + split_place t P
  unfolding split_place
  split-short h l = rw (lt-ltb (length P) 3 (omega (arith, size))) (omega arith)

  module _ (long : 2 ≤ b - a) (f : Far) (is : f ≡ farthest_of P) where
    pub split-not : lt t f.distance ≡ false → a ≡ a + split_place t P
    unfolding split_place
    split-not e = rw (le-ltb (length P) 3 (omega (arith, size)), ← is, e) (omega arith)

    pub split_at : lt t f.distance ≡ true → a + f.index ≡ a + split_place t P
    unfolding split_place
    split_at e = rw (le-ltb (length P) 3 (omega (arith, size)), ← is, e)

    pub split-inside : lt t zero_f ≡ false → lt t f.distance ≡ true → a + f.index ≤ b
    split-inside low e =
        let w = far-inside P t low (subst (λ (g : Far). lt t g.distance ≡ true) is e) in
        let i : f.index ≡ (farthest_of P).index = ap (λ (g : Far). g.index) is in
        omega (arith, w.1, size)

none-held : (out : List Float) → Held [] out
unfolding Held
none-held out = tt

lower : (b : ℕ) (bs : List ℕ) (out : List Float) → Held (b ∷ bs) out → Held bs out
unfolding Held
lower b bs out g = g.1

-- the last vertex is written
last_one : (t : Float) (path out₀ : List Float) (n : ℕ) (vs : List Vector) (out : List Float) (a m : ℕ) {end : ℕ} → length out ≡ length out₀ → m * 3 + 3 ≤ length out → a < end → end * 3 ≤ length path
    → points m out ++ rest t (all_points path) a [] ≡ points n out₀ ++ vs → (p : Vector) → p ≡ point_of (row 3 a path) → (out' : List Float) → out' ≡ set_row 3 m (point_row p) out
    → Ends (push_all (places out₀) (points n out₀) vs) out' (Ok (m + 1))
unfolding rest
last_one t path out₀ n vs out a m same fits l fit left p ep out' e =
    let v : vertex (all_points path) a ≡ p = get_d-view 3 point_of (places path) a path nowhere (omega arith) ∙ sym ep in
    let all : points m out ++ (p ∷ []) ≡ points n out₀ ++ vs = ap (λ (x : Vector). points m out ++ (x ∷ [])) (sym v) ∙ left in
    let k : length (points m out) + 1 ≡ length (points n out₀) + length vs = sym (length-append (points m out) (p ∷ [])) ∙ ap length all ∙ length-append (points n out₀) vs in
    rw e (answers (m + 1) (set_row 3 m (point_row p) out)
    (extend_fits (places out₀) (points n out₀) vs (omega (arith, length-points m out))
    ∙ ap Ok (sym all ∙ sym (view-written 3 point_of m (point_row p) out refl fits)))
    (simp length-sets (omega arith)))

-- ---- the points before place m are written; place a and the places that wait are kept, and have room
pub record Thinning (t : Float) (path out₀ : List Float) (from end n room : ℕ) (out : List Float) (a m w : ℕ) : Type 0 where
  pub all : room ≡ places out₀
  pub fits₀ : n * 3 ≤ length out₀
  pub same : length out ≡ length out₀
  pub fits : (m + w + 1) * 3 ≤ length out
  pub ends : List ℕ
  pub count : w ≡ length ends
  pub held : Held ends out
  pub rising : Rising a ends end
  pub left : points m out ++ rest t (all_points path) a ends ≡ points n out₀ ++ simplified t (slice from end (all_points path))

-- with the nearest of them, b
pub record Next (t : Float) (path out₀ : List Float) (from end n : ℕ) (out : List Float) (a m w b : ℕ) : Type 0 where
  pub others : List ℕ
  pub count : w ≡ suc (length others)
  pub held : Held (b ∷ others) out
  pub before : a < b
  pub rising : Rising b others end
  pub left : points m out ++ rest t (all_points path) a (b ∷ others) ≡ points n out₀ ++ simplified t (slice from end (all_points path))

module _ (t : Float) (low : lt t zero_f ≡ false) (path out₀ : List Float) (from end n : ℕ) (fit : end * 3 ≤ length path) (word : length path < 18446744073709551616) where
  abbrev A : List Vector
  A = all_points path

  abbrev S : List Vector
  S = simplified t (slice from end A)

  few : n * 3 ≤ length out₀ → length (points n out₀) ≤ places out₀
  few f = rw (length-points n out₀) (omega arith)

  -- ---- before the loop
  pub thinning-short : end - from < 2 → (zs : List Float) {r : Result ℕ Refusal} → Ends (push_all (places out₀) (points n out₀) (slice from end A)) zs r → Ends (push_all (places out₀) (points n out₀) S) zs r
  thinning-short h zs w =
      ends_as (ap (push_all (places out₀) (points n out₀)) (simplified-short t low (slice from end A) (omega (arith, part_length path from end fit)))) w

  module _ (some : 2 ≤ end - from) (fit₀ : n * 3 ≤ length out₀) where
    whole : 2 ≤ length (slice from end A)
    whole = rw (part_length path from end fit) some

    pub thinning-none : places out₀ - n < 2 → Ends (push_all (places out₀) (points n out₀) S) out₀ (Err Room)
    thinning-none h =
        refuses out₀ (extend-full (places out₀) (points n out₀) S (few fit₀) (omega (arith, length-points n out₀, (simplified-ended t low (slice from end A) whole).two)))

    module _ (out₁ : List Float) (two : 2 ≤ places out₀ - n) (e : out₁ ≡ set out₀ (length out₀ - 0 - 1) (of_bits binary64 (end - 1))) where
      start-length : length out₁ ≡ length out₀
      start-length = rw e (length-set out₀ (length out₀ - 0 - 1) (of_bits binary64 (end - 1)))

      pub thinning-start : Thinning t path out₁ from end n (places out₀) out₁ from n 1
      unfolding Rising rest
      thinning-start =
          let k : end - 1 + 1 ≡ end = omega arith in
          let v : vertex A (end - 1) ≡ last_vertex (slice from end A)
          = get_d-view 3 point_of (places path) (end - 1) path nowhere (omega arith)
          ∙ part-last path from end fit (omega arith)
          ∙ ap (λ (j : ℕ). vertex (slice from end A) (j - 1)) (sym (part_length path from end fit)) in
          let s : front (simplified t (slice from (end - 1 + 1) A)) ++ (vertex A (end - 1) ∷ []) ≡ S
          = rw (k, v) (sym (simplified-ended t low (slice from end A) whole).last) in
          record {
            all = ap (λ (l : ℕ). l / 3) (sym start-length);
            fits₀ = omega (arith, start-length);
            same = refl;
            fits = omega (arith, start-length);
            ends = (end - 1) ∷ [];
            count = refl;
            held = rw e (held_more [] (end - 1) out₀ (omega arith) (none-held out₀));
            rising = (omega arith, omega arith);
            left = ap (λ (ws : List Vector). points n out₁ ++ ws) s;
          }

      -- what the loop leaves is what the whole has to
      pub thinning-back : (zs : List Float) {r : Result ℕ Refusal} → Ends (push_all (places out₁) (points n out₁) S) zs r → Ends (push_all (places out₀) (points n out₀) S) zs r
      thinning-back zs w =
          ends_as (sym (ap₂ (λ (l : ℕ) (vs : List Vector). push_all (l / 3) vs S) start-length
          (ap (points n) e ∙ points_kept n out₀ (length out₀ - 0 - 1) (of_bits binary64 (end - 1)) (omega arith) fit₀))) w

  -- ---- in the loop
  module _ (room : ℕ) (out : List Float) (a m w : ℕ) (h : Thinning t path out₀ from end n room out a m w) where
    low-place : a < end
    low-place = omega (arith, rising-room a h.ends end h.rising)

    pub thinning-place : (a < end) × (a + w < end)
    thinning-place = (low-place, omega (arith, rising-room a h.ends end h.rising, h.count))

    -- the nearest place that waits, as it stands in the slice
    top-bits : (b : ℕ) (bs : List ℕ) → w ≡ length (b ∷ bs) → Held (b ∷ bs) out → get_or out (length out - w) nan ≡ of_bits binary64 b
    unfolding Held
    top-bits b bs c g = ap (λ (i : ℕ). get_or out (length out - i) nan) c ∙ g.0

    top-low : (b : ℕ) (bs : List ℕ) → Rising a (b ∷ bs) end → (a < b) × Rising b bs end × (b * 3 < 18446744073709551616)
    unfolding Rising
    top-low b bs r = (r.0, r.1, omega (arith, rising-room b bs end r.1))

    pub thinning-number : 0 < w → T (not (is_nan (get_or out (length out - w) nan)))
    thinning-number pos = by h.ends h.count h.held h.rising
      where
        by : (es : List ℕ) → w ≡ length es → Held es out → Rising a es end → T (not (is_nan (get_or out (length out - w) nan)))
        by [] c g r = absurd (omega arith)
        by (b ∷ bs) c g r = subst (λ (x : Float). T (not (is_nan x))) (sym (top-bits b bs c g)) (place-no-nan b (top-low b bs r).2)

    module _ (b : ℕ) (pos : 0 < w) (is : b ≡ to_bits binary64 (get_or out (length out - w) nan)) where
      pub thinning-next : Next t path out₀ from end n out a m w b
      thinning-next = by h.ends h.count h.held h.rising h.left
        where
          by : (es : List ℕ) → w ≡ length es → Held es out → Rising a es end → points m out ++ rest t A a es ≡ points n out₀ ++ S → Next t path out₀ from end n out a m w b
          by [] c g r l = absurd (omega arith)
          by (d ∷ bs) c g r l =
              let e : d ≡ b = sym (is ∙ ap (to_bits binary64) (top-bits d bs c g) ∙ place-back d (top-low d bs r).2) in
              subst (Next t path out₀ from end n out a m w) e (record { others = bs; count = c; held = g; before = (top-low d bs r).0; rising = (top-low d bs r).1; left = l })

      pub thinning-below : (a < b) × (b < end) × (a + w < end)
      thinning-below =
          let q = thinning-next in
          (q.before, omega (arith, rising-room b q.others end q.rising), thinning-place.1)

      module _ (s : ℕ) (at : s ≡ a + split_place t (slice a (b + 1) A)) where
        abbrev Q : List Vector
        Q = slice a (b + 1) A

        within : (b + 1) * 3 ≤ length path
        within = omega (arith, thinning-below.1)

        q-size : length Q ≡ b + 1 - a
        q-size = part_length path a (b + 1) within

        q-ways : Ways t low Q (split_place t Q)
        q-ways = ways t low Q (omega (arith, q-size, thinning-below.0))

        module _ (far : a < s) where
          is-split : Splits t low Q (split_place t Q)
          is-split = by q-ways
            where
              by : Ways t low Q (split_place t Q) → Splits t low Q (split_place t Q)
              by (inl z) = absurd (omega (arith, z.0))
              by (inr z) = z

          pub thinning-inside : s < b
          thinning-inside = omega (arith, is-split.before, q-size)

          split-left : points m out ++ rest t A a (s ∷ b ∷ thinning-next.others) ≡ points n out₀ ++ S
          split-left =
              ap (λ (vs : List Vector). points m out ++ vs) (sym (rest-split t low path a b thinning-next.others (split_place t Q) s within at is-split))
              ∙ thinning-next.left

          split-rising : Rising a (s ∷ b ∷ thinning-next.others) end
          unfolding Rising
          split-rising = (far, (thinning-inside, thinning-next.rising))

          pub thinning-split : (out' : List Float) → m + w + 1 < room → out' ≡ set out (length out - w - 1) (of_bits binary64 s) → Thinning t path out₀ from end n room out' a m (w + 1)
          thinning-split out' free e =
              let i = length out - w - 1 in
              let x = of_bits binary64 s in
              let c = thinning-next.count in
              let k : length out - length (b ∷ thinning-next.others) - 1 ≡ i = omega arith in
              let g : Held (s ∷ b ∷ thinning-next.others) (set out i x)
              = subst (λ (j : ℕ). Held (s ∷ b ∷ thinning-next.others) (set out j x)) k (held_more (b ∷ thinning-next.others) s out (omega (arith, h.fits)) thinning-next.held) in
              rw e (record {
                all = h.all;
                fits₀ = h.fits₀;
                same = length-set out i x ∙ h.same;
                fits = simp length-set (omega (arith, h.same, h.all));
                ends = s ∷ b ∷ thinning-next.others;
                count = omega arith;
                held = g;
                rising = split-rising;
                left = ap (λ (vs : List Vector). vs ++ rest t A a (s ∷ b ∷ thinning-next.others)) (points_kept m out i x (omega (arith, h.fits)) (omega (arith, h.fits))) ∙ split-left;
              })

          -- the places that wait do not have room
          pub thinning-full : room ≤ m + w + 1 → Ends (push_all (places out₀) (points n out₀) S) out (Err Room)
          thinning-full l =
              let c = thinning-next.count in
              let r = rest_some t low path a (s ∷ b ∷ thinning-next.others) end fit split-rising in
              let e : length (points m out) + length (rest t A a (s ∷ b ∷ thinning-next.others)) ≡ length (points n out₀) + length S
              = sym (length-append (points m out) (rest t A a (s ∷ b ∷ thinning-next.others))) ∙ ap length split-left ∙ length-append (points n out₀) S in
              refuses out (extend-full (places out₀) (points n out₀) S (few h.fits₀) (omega (arith, length-points m out, h.all)))

        pub thinning-write : s ≤ a → (p : Vector) → p ≡ point_of (row 3 a path) → (out' : List Float) → out' ≡ set_row 3 m (point_row p) out → Thinning t path out₀ from end n room out' b (m + 1) (w - 1)
        thinning-write near p ep out' e =
            let c = thinning-next.count in
            let bs = thinning-next.others in
            rw e (record {
              all = h.all;
              fits₀ = h.fits₀;
              same = length-sets out (m * 3) (point_row p) ∙ h.same;
              fits = simp length-sets (omega (arith, h.fits));
              ends = bs;
              count = omega arith;
              held = held-sets (point_row p) bs out (m * 3) (omega (arith, h.fits)) (lower b bs out thinning-next.held);
              rising = thinning-next.rising;
              left = ap (λ (vs : List Vector). vs ++ rest t A b bs) (view-written 3 point_of m (point_row p) out refl (omega (arith, h.fits)))
                  ∙ append_assoc (points m out) (p ∷ []) (rest t A b bs)
                  ∙ ap (λ (vs : List Vector). points m out ++ vs) (sym (rest-step t low path a b bs p thinning-below.0 within ep (by q-ways)))
                  ∙ thinning-next.left;
            })
          where
            by : Ways t low Q (split_place t Q) → front (simplified t Q) ≡ first_vertex Q ∷ []
            by (inl z) = z.1
            by (inr z) = absurd (omega (arith, z.after))

    -- ---- after it
    pub thinning-end : w ≤ 0 → (p : Vector) → p ≡ point_of (row 3 a path) → (out' : List Float) → out' ≡ set_row 3 m (point_row p) out → Ends (push_all (places out₀) (points n out₀) S) out' (Ok (m + 1))
    thinning-end z p ep out' e = by h.ends h.count h.left
      where
        by : (es : List ℕ) → w ≡ length es → points m out ++ rest t A a es ≡ points n out₀ ++ S → Ends (push_all (places out₀) (points n out₀) S) out' (Ok (m + 1))
        by (b ∷ bs) c l = absurd (omega arith)
        by [] c l = last_one t path out₀ n S out a m h.same (omega (arith, h.fits)) low-place fit l p ep out' e
