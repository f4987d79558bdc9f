-- The lines of an entry by what the entry is: each way out. Assumes nothing.
use mathlib.Core.Path.{◌≡◌, refl, sym, ap, ◌∙◌}
use mathlib.Core.List.{List, ◌++◌, map}
use Prim.Native.Nat.{ℕ, zero, suc, ◌+◌, ◌-◌, ◌*◌, ◌/◌, ◌≤◌}
use native.Mathlib.Numerals.{sub-one}
use native.Mathlib.Nat.{mul-le-mul_right, le_trans, suc-mul}
use native.Mathlib.Omega.{arith}
use borrow.Rule.Slice.PartMut.{put_mid, take_put, same_len_mid}
use lib.ListN.{length, take, drop, length-drop}
use lib.Seq.{take_at, length-take-le}
use lib.Ieee.{Float}
use Rattle.geometry.specs.declared.vector.Vector.{Vector}
use Rattle.matrix.specs.Matrices.{mul_position}
use Rattle.matrix.specs.declared.Matrix.{Matrix}
use Rattle.solids.specs.declared.solid.Solid.{Solid}
use Rattle.scene.specs.Entries.{entry_at}
use Rattle.refusals.specs.declared.Refusal.{Refusal}
use Rattle.scene.specs.declared.entry.Op.{Op}
use Rattle.scene.specs.declared.entry.Entry.{Entry}
use Rattle.scene.specs.declared.entry.Entry.TheVariants.{Simple, Placed, Cut}
use Rattle.scene_shape.specs.Shapes.{Shape, shape_of, read, decode}
use Rattle.rows.specs.Rows.{view}
use Rattle.rows.specs.Points.{points}
use Rattle.paths.specs.Answers.{next}
use Rattle.paths.specs.Paths.{Paths, no_paths, push_all, paths_of, each, stage}
use Rattle.paths.specs.Ends.{places, all_points, held, told_both, EndsBoth}
use Rattle.paths.specs.Judged.{points_ok}
use Rattle.paths.proofs.Ending.{both_at, both-refused, refuses-both, answers-both}
use Rattle.paths.proofs.Parts.{length-points}
use Rattle.draw_lines.specs.Lines.{own_paths}
use Rattle.draw_lines.specs.Pushing.{add_paths}
use Rattle.draw_arcs.specs.Stances.{Placement, placed_part}
use Rattle.draw_shown.specs.Shown.{shown_paths}
use Rattle.draw_lines.proofs.Adding.{ends-both-as}
use Rattle.path_append.specs.Append.{appended}
use Rattle.draw_collect.specs.Lined.{Lined, no_lines, cut_lines, bare, lined_of, read_lined, detail_at, own_lines}
use Rattle.draw_collect.specs.Collect.{LineRoom, moved_from, handed, chopped_lines, sifted, collected}
use Rattle.draw_collect.specs.Slices.{room_of, lined_at, first_held, Lent, joined}
use Rattle.draw_collect.proofs.Vectors.{rest_is, rest-after}
use Rattle.std.specs.Prelude.{Err, None, Ok, Option, Result, Some}

-- ---- as many vectors as there are levels
pub vectors : (k d w l : ℕ) → k ≤ d → d * w ≤ l → k * w ≤ l
vectors k d w l h f = le_trans (mul-le-mul_right w h) f

-- ---- reading
module _ (at : ℕ → Option Entry) (own : ℕ → Solid → List (List Vector)) where
  pub read-zero : (d i : ℕ) → d ≡ 0 → read_lined d at own i ≡ no_lines
  unfolding read_lined
  read-zero d i h = rw h

  pub read_as : (d i : ℕ) {e : Option Entry} → (d ≡ 0 → ⊥) → e ≡ at i → read_lined d at own i ≡ lined_of (read_lined (d - 1) at own) (own i) e
  unfolding read_lined
  read_as zero i n h = absurd (n refl)
  read_as (suc d) i n h = rw (sub-one, h)

  bare_of : (f : ℕ → Lined) (g : ℕ → Shape) → ((k : ℕ) → bare (f k) ≡ g k) → (o : Solid → List (List Vector)) (e : Option Entry) → bare (lined_of f o e) ≡ shape_of g e
  unfolding bare lined_of shape_of
  bare_of f g h o (Some (Simple s)) = refl
  bare_of f g h o (Some (Placed m v k)) = rw (h k)
  bare_of f g h o (Some (Cut p a b)) = rw (h a, h b)
  bare_of f g h o None = refl

  -- without its lines a drawn value is the solid that is read there
  pub bare-read : (d i : ℕ) → bare (read_lined d at own i) ≡ read d at i
  unfolding read_lined read bare
  bare-read zero i = refl
  bare-read (suc d) i = bare_of (read_lined d at own) (read d at) (bare-read d) (own i) (at i)

-- a cut of parts without lines adds nothing
cut-of-nothing : (a : Placement) (w : LineRoom) (o : Op) (p : Paths) → collected a w (cut_lines o no_lines no_lines) p ≡ Ok p
unfolding collected sifted chopped_lines handed points_ok stage paths_of each appended push_all
cut-of-nothing a w o p = refl

module _ (a : Placement) (wide many n m : ℕ) (xs : List Float) (ss : List ℕ) (chopped : List Float) (choppedStarts : List ℕ)
    (numbers inverses : List Float) (marks : List ℕ) (ps : List Float) (starts owners : List ℕ) (d i : ℕ) (L : Lent d wide many n m xs ss) where
  abbrev value : Result Paths Refusal
  value = collected a (room_of wide many chopped choppedStarts) (lined_at d numbers inverses marks ps starts owners i) (first_held wide many n xs m ss)

  nothing-more : value ≡ Ok (first_held wide many n xs m ss) → EndsBoth value (take wide xs) (take many ss) (Ok (n, m))
  nothing-more e = answers-both n m (take wide xs) (take many ss) e L.points_fit L.starts_fit

  pub entry-nowhere : d ≡ 0 → EndsBoth value (take wide xs) (take many ss) (Ok (n, m))
  unfolding collected
  entry-nowhere h = nothing-more (rw (read-zero (entry_at numbers inverses marks) (own_lines marks ps starts owners) d i h))

  module _ (some : d ≡ 0 → ⊥) where
    pub one-wide : wide ≤ length xs
    one-wide = let h = vectors 1 d wide (length xs) (omega (arith, some)) L.long in omega (arith, h)

    pub one-many : many ≤ length ss
    one-many = let h = vectors 1 d many (length ss) (omega (arith, some)) L.broad in omega (arith, h)

    pub less-wide : (d - 1) * wide ≤ length xs
    less-wide = vectors (d - 1) d wide (length xs) (omega arith) L.long

    pub less-many : (d - 1) * many ≤ length ss
    less-many = vectors (d - 1) d many (length ss) (omega arith) L.broad

    value_as : {e : Option Entry} → e ≡ entry_at numbers inverses marks i
        → value ≡ collected a (room_of wide many chopped choppedStarts) (lined_of (lined_at (d - 1) numbers inverses marks ps starts owners) (own_lines marks ps starts owners i) e) (first_held wide many n xs m ss)
    value_as h = rw (read_as (entry_at numbers inverses marks) (own_lines marks ps starts owners) d i some h)

    module _ {e : Option Entry} (found : e ≡ entry_at numbers inverses marks i) where
      pub entry-none : e ≡ None → EndsBoth value (take wide xs) (take many ss) (Ok (n, m))
      unfolding lined_of collected
      entry-none h = nothing-more (value_as found ∙ rw h)

      pub entry-shallow : {o : Op} {x y : ℕ} → e ≡ Some (Cut o x y) → d ≡ 1 → EndsBoth value (take wide xs) (take many ss) (Ok (n, m))
      unfolding lined_of
      entry-shallow {o} {x} {y} h l =
          let z : d - 1 ≡ 0 = omega (arith, l) in
          let none = read-zero (entry_at numbers inverses marks) (own_lines marks ps starts owners) (d - 1) in
          nothing-more (value_as found ∙ rw (h, none x z, none y z) (cut-of-nothing a (room_of wide many chopped choppedStarts) o (first_held wide many n xs m ss)))

      pub entry-simple : {s : Solid} {k : ℕ} → e ≡ Some (Simple s) → k ≡ detail_at marks i → (ys : List Float) (us : List ℕ) {r : Result (ℕ × ℕ) Refusal}
          → EndsBoth (add_paths (places (take wide xs)) (length (take many ss)) (shown_paths a s k (own_paths i (paths_of (all_points ps) starts) owners)) (held n (take wide xs) m (take many ss))) ys us r
          → length ys ≡ length (take wide xs) → length us ≡ length (take many ss) → EndsBoth value (take wide (ys ++ drop wide xs)) (take many (us ++ drop many ss)) r
      unfolding lined_of collected own_lines shown_paths
      entry-simple {s} {k} h q ys us f lx ls =
          let lw = length-take-le wide xs one-wide in
          let lm = length-take-le many ss one-many in
          let g : value ≡ add_paths (places (take wide xs)) (length (take many ss)) (shown_paths a s k (own_paths i (paths_of (all_points ps) starts) owners)) (held n (take wide xs) m (take many ss))
          = value_as found ∙ rw (h, q, lw, lm) in
          rw (take_at ys (drop wide xs) wide (lx ∙ lw), take_at us (drop many ss) many (ls ∙ lm)) (ends-both-as g f)

      -- a placed part: t and v are its matrix and its inverse, x the part
      module _ {t v : Matrix} {x : ℕ} (h : e ≡ Some (Placed t v x)) {b : Placement} (q : b ≡ placed_part t v a) (ys : List Float) (us : List ℕ) {r : Result (ℕ × ℕ) Refusal}
          (ends : EndsBoth (collected b (room_of wide many chopped choppedStarts) (lined_at (d - 1) numbers inverses marks ps starts owners x) (first_held wide many n xs m ss)) (take wide ys) (take many us) r) where
        part-as : value ≡ next (collected b (room_of wide many chopped choppedStarts) (lined_at (d - 1) numbers inverses marks ps starts owners x) (first_held wide many n xs m ss)) (λ (u : Paths). Ok (moved_from t (length (points n (take wide xs))) u))
        unfolding lined_of collected
        part-as = value_as found ∙ rw (h, q)

        pub placed-refused : {k : Refusal} → r ≡ Err k → (zs : List Float) (vs : List ℕ) → EndsBoth value zs vs (Err k)
        placed-refused z zs vs = refuses-both zs vs (part-as ∙ rw (both-refused ends z))

        pub placed-moved : {k l : ℕ} → r ≡ Ok (k, l) → (zs : List Float) → points k zs ≡ take n (points k (take wide ys)) ++ map (mul_position t) (drop n (points k (take wide ys)))
            → length zs ≡ length (take wide ys) → wide ≤ length ys → EndsBoth value (take wide (zs ++ drop wide ys)) (take many us) (Ok (k, l))
        unfolding moved_from
        placed-moved {k} {l} z zs p lz w =
            let f = ends.fits k l z in
            let c : take wide (zs ++ drop wide ys) ≡ zs = take_at zs (drop wide ys) wide (lz ∙ length-take-le wide ys w) in
            let g : value ≡ Ok (held k zs l (take many us)) = part-as ∙ rw (both_at ends z, length-points n (take wide xs), p) in
            rw c (answers-both k l zs (take many us) g (omega (arith, f.0, lz)) f.1)

      -- a cut with the parts x and y, whose lines were collected in the vectors after the first
      module _ {o : Op} {x y : ℕ} (h : e ≡ Some (Cut o x y)) (deep : d ≡ 1 → ⊥) where
        pub two_deep : (2 * wide ≤ length xs) × (2 * many ≤ length ss)
        two_deep = (vectors 2 d wide (length xs) (omega (arith, some, deep)) L.long, vectors 2 d many (length ss) (omega (arith, some, deep)) L.broad)

        one_less : (w l : ℕ) → d * w ≤ l → (d - 1) * w ≤ l - w
        one_less w l f = let q : d ≡ suc (d - 1) = omega (arith, some) in let k : (d - 1) * w + w ≤ l = rw (← suc-mul, ← q) f in omega (arith, k)

        pub parts-lent : Lent (d - 1) wide many 0 0 (take (length xs - wide) (drop wide xs)) (take (length ss - many) (drop many ss))
        parts-lent = record {
          long = rw (rest_is xs wide one-wide, length-drop) (one_less wide (length xs) L.long);
          broad = rw (rest_is ss many one-many, length-drop) (one_less many (length ss) L.broad);
          points_fit = omega arith;
          starts_fit = omega arith;
        }

        solid-is : decode d numbers inverses marks i ≡ bare (cut_lines o (lined_at (d - 1) numbers inverses marks ps starts owners x) (lined_at (d - 1) numbers inverses marks ps starts owners y))
        unfolding lined_of
        solid-is =
            sym (bare-read (entry_at numbers inverses marks) (own_lines marks ps starts owners) d i)
            ∙ ap bare (read_as (entry_at numbers inverses marks) (own_lines marks ps starts owners) d i some found ∙ rw h)

        cut_as : value
            ≡ next (next (collected a (room_of wide many chopped choppedStarts) (lined_at (d - 1) numbers inverses marks ps starts owners x) no_paths) (collected a (room_of wide many chopped choppedStarts) (lined_at (d - 1) numbers inverses marks ps starts owners y)))
            (λ (u : Paths). next (sifted a.args (room_of wide many chopped choppedStarts) (bare (cut_lines o (lined_at (d - 1) numbers inverses marks ps starts owners x) (lined_at (d - 1) numbers inverses marks ps starts owners y))) u) (appended (wide / 3) many (first_held wide many n xs m ss)))
        unfolding lined_of collected
        cut_as = value_as found ∙ rw h

        module _ (ys : List Float) (us : List ℕ) {c : Result (ℕ × ℕ) Refusal} (lx : length ys ≡ length (take (length xs - wide) (drop wide xs))) (ls : length us ≡ length (take (length ss - many) (drop many ss)))
            (ends : EndsBoth (next (collected a (room_of wide many chopped choppedStarts) (lined_at (d - 1) numbers inverses marks ps starts owners x) no_paths)
            (collected a (room_of wide many chopped choppedStarts) (lined_at (d - 1) numbers inverses marks ps starts owners y))) (take wide ys) (take many us) c) where
          first-xs : take wide (put_mid wide (length xs - wide) xs ys) ≡ take wide xs
          first-xs = take_put wide (length xs - wide) xs ys one-wide

          first-ss : take many (put_mid many (length ss - many) ss us) ≡ take many ss
          first-ss = take_put many (length ss - many) ss us one-many

          pub joint-lent : Lent 2 wide many n m (put_mid wide (length xs - wide) xs ys) (put_mid many (length ss - many) ss us)
              × ((p q : ℕ) → c ≡ Ok (p, q) → (p * 3 ≤ length (take wide (drop wide (put_mid wide (length xs - wide) xs ys)))) × (q ≤ length (take many (drop many (put_mid many (length ss - many) ss us)))))
          joint-lent = (
            record {
              long = omega (arith, same_len_mid wide (length xs - wide) xs ys lx, two_deep.0);
              broad = omega (arith, same_len_mid many (length ss - many) ss us ls, two_deep.1);
              points_fit = rw first-xs L.points_fit;
              starts_fit = rw first-ss L.starts_fit;
            },
            λ p q z. rw (rest-after xs wide one-wide ys, rest-after ss many one-many us) (ends.fits p q z),
          )

          pub joint : (chopped' : List Float) (choppedStarts' : List ℕ) → length chopped' ≡ length chopped → length choppedStarts' ≡ length choppedStarts → (zs : List Float) (vs : List ℕ) {r : Result (ℕ × ℕ) Refusal}
              → EndsBoth (joined a.args (room_of wide many chopped' choppedStarts') (decode d numbers inverses marks i) wide many n (put_mid wide (length xs - wide) xs ys) m (put_mid many (length ss - many) ss us) c) zs vs r
              → EndsBoth value zs vs r
          joint chopped' choppedStarts' lc lu zs vs f =
              let w = room_of wide many chopped choppedStarts in
              let same : room_of wide many chopped' choppedStarts' ≡ w = rw (lc, lu) in
              let told : told_both c (take wide (drop wide (put_mid wide (length xs - wide) xs ys))) (take many (drop many (put_mid many (length ss - many) ss us)))
              ≡ next (collected a w (lined_at (d - 1) numbers inverses marks ps starts owners x) no_paths) (collected a w (lined_at (d - 1) numbers inverses marks ps starts owners y))
              = rw (rest-after xs wide one-wide ys, rest-after ss many one-many us) ends.is in
              let solid : decode d numbers inverses marks i ≡ bare (cut_lines o (lined_at (d - 1) numbers inverses marks ps starts owners x) (lined_at (d - 1) numbers inverses marks ps starts owners y)) = solid-is in
              let g : value ≡ joined a.args (room_of wide many chopped' choppedStarts') (decode d numbers inverses marks i) wide many n (put_mid wide (length xs - wide) xs ys) m (put_mid many (length ss - many) ss us) c
              = cut_as ∙ rw (same, told, first-xs, first-ss, solid) in
              ends-both-as g f

-- ---- the lines of both parts of a cut, one after the other
module _ (a : Placement) (wide many : ℕ) (xs : List Float) (ss : List ℕ) (chopped : List Float) (choppedStarts : List ℕ) (x y : Lined) (ys : List Float) (us : List ℕ) {c : Result (ℕ × ℕ) Refusal}
    (ends : EndsBoth (collected a (room_of wide many chopped choppedStarts) x (first_held wide many 0 xs 0 ss)) (take wide ys) (take many us) c) where
  from-none : first_held wide many 0 xs 0 ss ≡ no_paths
  unfolding view
  from-none = refl

  pub parts-refused : {k : Refusal} → c ≡ Err k → (zs : List Float) (vs : List ℕ)
      → EndsBoth (next (collected a (room_of wide many chopped choppedStarts) x no_paths) (collected a (room_of wide many chopped choppedStarts) y)) zs vs (Err k)
  parts-refused h zs vs = refuses-both zs vs (rw (← from-none, both-refused ends h))

  pub parts-on : {p q : ℕ} → c ≡ Ok (p, q) → (chopped' : List Float) (choppedStarts' : List ℕ) → length chopped' ≡ length chopped → length choppedStarts' ≡ length choppedStarts → (zs : List Float) (vs : List ℕ) {r : Result (ℕ × ℕ) Refusal}
      → EndsBoth (collected a (room_of wide many chopped' choppedStarts') y (first_held wide many p ys q us)) zs vs r
      → EndsBoth (next (collected a (room_of wide many chopped choppedStarts) x no_paths) (collected a (room_of wide many chopped choppedStarts) y)) zs vs r
  parts-on h chopped' choppedStarts' lc lu zs vs f = ends-both-as (rw (← from-none, both_at ends h, lc, lu)) f
