-- A cut's lines in the second vector, sifted and appended to the first: each way out. Assumes nothing.
use mathlib.Core.Path.{◌≡◌, sym, ap, ◌∙◌, subst}
use mathlib.Core.List.{List}
use Prim.Native.Nat.{ℕ, ◌+◌, ◌-◌, ◌*◌, ◌/◌, ◌≤◌}
use native.Mathlib.Omega.{arith}
use borrow.Rule.Slice.PartMut.{put_mid, take_put, same_len_mid}
use lib.ListN.{length, take, drop}
use lib.Seq.{take-take, length-take-le}
use lib.Ieee.{Float}
use Rattle.refusals.specs.declared.Refusal.{Refusal}
use Rattle.scene_shape.specs.Shapes.{Shape}
use Rattle.rows.specs.Points.{points}
use Rattle.paths.specs.Paths.{Paths}
use Rattle.paths.specs.Ends.{held, EndsBoth}
use Rattle.paths.proofs.Ending.{both_at, both-refused, refuses-both}
use Rattle.paths.proofs.Adding.{next-answered}
use Rattle.paths.proofs.Parts.{length-points}
use Rattle.draw_lines.proofs.Adding.{ends-both-as}
use Rattle.view.specs.declared.RenderArgs.{RenderArgs}
use Rattle.draw_cuts.specs.Cuts.{cut_filter, cut_paths}
use Rattle.path_append.specs.Append.{Low, appended}
use Rattle.path_append.proofs.LowStarts.{filter-low}
use Rattle.draw_collect.specs.Collect.{LineRoom, chopped_lines, sifted}
use Rattle.draw_collect.specs.Slices.{room_of, first_held, Lent, joined}
use Rattle.draw_collect.proofs.Vectors.{second_is, second-length, second-after}
use Rattle.std.specs.Prelude.{Err, Ok, Result}

-- no start of what was sifted lies beyond its points
sifted-low : (a : RenderArgs) (w : LineRoom) (s : Shape) (p q : Paths) → sifted a w s p ≡ Ok q → Low (length q.vertices) q.starts
unfolding sifted
sifted-low a w s p q e =
    let one = next-answered (chopped_lines a w.chopped w.begins p) (λ (c : Paths). cut_paths s c.vertices c.starts w.points w.starts) q e in
    filter-low (cut_filter s) one.0.vertices one.0.starts w.points w.starts one.2

module _ (wide many n m : ℕ) (xs : List Float) (ss : List ℕ) (L : Lent 2 wide many n m xs ss) where
  pub two-wide : wide + wide ≤ length xs
  two-wide = omega (arith, L.long)

  pub two-many : many + many ≤ length ss
  two-many = omega (arith, L.broad)

  wide-first : length (take wide xs) ≡ wide
  wide-first = length-take-le wide xs (omega (arith, L.long))

  many-first : length (take many ss) ≡ many
  many-first = length-take-le many ss (omega (arith, L.broad))

  -- the second vector is lent as a part
  pub join-fits : (p q : ℕ) → (p * 3 ≤ length (take wide (drop wide xs))) × (q ≤ length (take many (drop many ss))) → (p * 3 ≤ length (take (wide + wide - wide) (drop wide xs))) × (q ≤ length (take (many + many - many) (drop many ss)))
  join-fits p q h = rw (second_is xs wide two-wide, second_is ss many two-many) h

  module _ (a : RenderArgs) (s : Shape) (chopped : List Float) (choppedStarts : List ℕ) where
    pub join-none : (ys : List Float) (us : List ℕ) {c : Result (ℕ × ℕ) Refusal} {e : Refusal} → c ≡ Err e → EndsBoth (joined a (room_of wide many chopped choppedStarts) s wide many n xs m ss c) ys us (Err e)
    join-none ys us h = refuses-both ys us (rw h)

    module _ {c : Result (ℕ × ℕ) Refusal} {p q : ℕ} (some : c ≡ Ok (p, q)) where
      module _ (ys : List Float) (us : List ℕ) {d : Result (ℕ × ℕ) Refusal}
          (ends : EndsBoth (sifted a (room_of (length (take (wide + wide - wide) (drop wide xs))) (length (take (many + many - many) (drop many ss))) chopped choppedStarts) s
          (held p (take (wide + wide - wide) (drop wide xs)) q (take (many + many - many) (drop many ss)))) ys us d)
          (lx : length ys ≡ length (take (wide + wide - wide) (drop wide xs))) (ls : length us ≡ length (take (many + many - many) (drop many ss))) where
        as-told : sifted a (room_of wide many chopped choppedStarts) s (held p (take wide (drop wide xs)) q (take many (drop many ss)))
            ≡ sifted a (room_of (length (take (wide + wide - wide) (drop wide xs))) (length (take (many + many - many) (drop many ss))) chopped choppedStarts) s (held p (take (wide + wide - wide) (drop wide xs)) q (take (many + many - many) (drop many ss)))
        as-told = rw (second_is xs wide two-wide, second_is ss many two-many, second-length xs wide two-wide, second-length ss many two-many)

        pub join-refused : (zs : List Float) (vs : List ℕ) {e : Refusal} → d ≡ Err e → EndsBoth (joined a (room_of wide many chopped choppedStarts) s wide many n xs m ss c) zs vs (Err e)
        join-refused zs vs h = refuses-both zs vs (rw (some, as-told, both-refused ends h))

        module _ {x y : ℕ} (h : d ≡ Ok (x, y)) where
          long : length (put_mid wide (wide + wide - wide) xs ys) ≡ length xs
          long = same_len_mid wide (wide + wide - wide) xs ys lx

          broad : length (put_mid many (many + many - many) ss us) ≡ length ss
          broad = same_len_mid many (many + many - many) ss us ls

          x_fits : x * 3 ≤ wide
          x_fits = omega (arith, (ends.fits x y h).0, lx ∙ ap length (second_is xs wide two-wide) ∙ second-length xs wide two-wide)

          y-fits : y ≤ many
          y-fits = omega (arith, (ends.fits x y h).1, ls ∙ ap length (second_is ss many two-many) ∙ second-length ss many two-many)

          starts-low : Low x (take y (drop many (put_mid many (many + many - many) ss us)))
          starts-low =
              let l : Low (length (points x ys)) (take y us) = sifted-low a _ s _ _ (both_at ends h) in
              let e : take y us ≡ take y (drop many (put_mid many (many + many - many) ss us))
              = ap (take y) (sym (second-after ss many two-many us ls)) ∙ take-take y many (drop many (put_mid many (many + many - many) ss us)) y-fits in
              subst (Low x) e (subst (λ (k : ℕ). Low k (take y us)) (length-points x ys) l)

          pub join-asks : (n * 3 ≤ wide) × (m ≤ many) × (x * 3 ≤ wide) × (y ≤ many) × (wide + wide ≤ length (put_mid wide (wide + wide - wide) xs ys))
              × (many + many ≤ length (put_mid many (many + many - many) ss us)) × Low x (take y (drop many (put_mid many (many + many - many) ss us)))
          join-asks = (omega (arith, L.points_fit, wide-first), omega (arith, L.starts_fit, many-first), x_fits, y-fits, omega (arith, long, two-wide), omega (arith, broad, two-many), starts-low)

          pub join-appended : (zs : List Float) (vs : List ℕ) {r : Result (ℕ × ℕ) Refusal}
              → EndsBoth (appended (wide / 3) many (held n (take wide (put_mid wide (wide + wide - wide) xs ys)) m (take many (put_mid many (many + many - many) ss us)))
              (held x (take wide (drop wide (put_mid wide (wide + wide - wide) xs ys))) y (take many (drop many (put_mid many (many + many - many) ss us))))) zs vs r
              → EndsBoth (joined a (room_of wide many chopped choppedStarts) s wide many n xs m ss c) zs vs r
          join-appended zs vs f =
              let e₁ = take_put wide (wide + wide - wide) xs ys (omega (arith, L.long)) in
              let e₂ = take_put many (many + many - many) ss us (omega (arith, L.broad)) in
              let g : joined a (room_of wide many chopped choppedStarts) s wide many n xs m ss c ≡ appended (wide / 3) many (first_held wide many n xs m ss) (held x ys y us) = rw (some, as-told, both_at ends h) in
              ends-both-as (g ∙ rw (e₁, e₂, second-after xs wide two-wide ys lx, second-after ss many two-many us ls)) f
