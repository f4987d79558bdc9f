-- What a drawn value adds to the lines hangs neither on what stands before it nor on the room, where the room is enough. Assumes nothing.
use mathlib.Core.Path.{◌≡◌, refl, sym, ap, ap₂, ◌∙◌, subst}
use mathlib.Core.List.{List, [], ◌∷◌, ◌++◌, append_assoc, append-nil}
use Prim.Native.Nat.{ℕ, ◌+◌, ◌≤◌}
use native.Mathlib.Omega.{arith}
use lib.ListN.{length, length-append, length-map}
use Rattle.geometry.specs.declared.vector.Vector.{Vector}
use Rattle.scene_shape.specs.Shapes.{Shape}
use Rattle.paths.specs.Answers.{next}
use Rattle.paths.specs.Paths.{Paths, paths_with, no_paths, push, push_all, one_path, paths_of, each, stage}
use Rattle.paths.proofs.Adding.{same_answer, next-answered, push-answered, push-fits, extend-adds}
use Rattle.view.specs.declared.RenderArgs.{RenderArgs}
use Rattle.path_chop.specs.Chop.{screen_of, path_chop, most_halvings, chop_paths}
use Rattle.path_filter.specs.Filter.{path_filter}
use Rattle.draw_cuts.specs.Cuts.{cut_filter, cut_paths}
use Rattle.draw_lines.specs.Pushing.{copied, add_paths}
use Rattle.draw_arcs.specs.Stances.{Placement, unplaced, placed_part}
use Rattle.draw_shown.specs.Shown.{or_outline}
use Rattle.path_append.specs.Append.{shifted, appended}
use Rattle.draw_collect.specs.Lined.{Lined, no_lines, lined, placed_lines, cut_lines, bare}
use Rattle.draw_collect.specs.Collect.{LineRoom, moved_from, handed, chopped_lines, sifted, collected, collected_all}
use Rattle.theorem_parts.specs.Following.{followed}
use Rattle.theorem_parts.proofs.Adders.{pushes_all, push-again, after, after-append, Roomy, roomy_after, Within, Adder, adds-each, adds_one}
use Rattle.theorem_parts.proofs.Filters.{adds-filtered}
use Rattle.theorem_parts.proofs.Chops.{chop-pushes}
use Rattle.theorem_parts.proofs.Following.{follow-laid, moved, move-after, length_moved}
use Rattle.std.specs.Prelude.{Err, Ok, Result}
use Rattle.refusals.specs.declared.Refusal.{Refusal}

-- ---- vectors of lines: as much is left in the second as in the first, and the other vectors are as large
pub record Roomier (w : LineRoom) (o : Paths) (w' : LineRoom) (o' : Paths) : Type 0 where
  pub left : Roomy w.points w.starts o w'.points w'.starts o'
  pub points : w.points ≤ w'.points
  pub starts : w.starts ≤ w'.starts
  pub chopped : w.chopped ≤ w'.chopped
  pub begins : w.begins ≤ w'.begins

pub record Lining (f : LineRoom → Paths → Result Paths Refusal) (w : LineRoom) (o q : Paths) : Type 0 where
  pub what : List (List Vector)
  pub is : q ≡ after o what
  pub again : (w' : LineRoom) (o' : Paths) → Roomier w o w' o' → f w' o' ≡ Ok (after o' what)
  pub fits : Within w.points w.starts o → Within w.points w.starts q

abbrev pub Liner : (LineRoom → Paths → Result Paths Refusal) → Type 0
Liner f = (w : LineRoom) (o q : Paths) → f w o ≡ Ok q → Lining f w o q

roomier-none : {w w' : LineRoom} {o o' : Paths} → Roomier w o w' o' → Roomier w no_paths w' no_paths
roomier-none h = record { left = (omega (arith, h.points), omega (arith, h.starts)); points = h.points; starts = h.starts; chopped = h.chopped; begins = h.begins }

roomier-after : (w : LineRoom) (o : Paths) (w' : LineRoom) (o' : Paths) (ps : List (List Vector)) → Roomier w o w' o' → Roomier w (after o ps) w' (after o' ps)
roomier-after w o w' o' ps h = record { left = roomy_after w.points w.starts o w'.points w'.starts o' ps h.left; points = h.points; starts = h.starts; chopped = h.chopped; begins = h.begins }

lines_none : Liner (λ (w : LineRoom) (o : Paths). Ok o)
lines_none w o q e = record { what = []; is = sym (same_answer e); again = λ w' o' h. refl; fits = λ h. subst (Within w.points w.starts) (same_answer e) h }

lines_then : (f g : LineRoom → Paths → Result Paths Refusal) → Liner f → Liner g → Liner (λ (w : LineRoom) (o : Paths). next (f w o) (g w))
lines_then f g F G w o q e =
    let a = next-answered (f w o) (g w) q e in
    let b = F w o a.0 a.1 in
    let c = G w a.0 q a.2 in
    record {
      what = b.what ++ c.what;
      is = c.is ∙ ap (λ (x : Paths). after x c.what) b.is ∙ sym (after-append o b.what c.what);
      again = λ w' o' h.
          ap (λ (x : Result Paths Refusal). next x (g w')) (b.again w' o' h)
          ∙ c.again w' (after o' b.what) (subst (λ (x : Paths). Roomier w x w' (after o' b.what)) (sym b.is) (roomier-after w o w' o' b.what h))
          ∙ ap Ok (sym (after-append o' b.what c.what));
      fits = λ h. c.fits (b.fits h);
    }

-- ---- appended
extend-again : {A : Type 0} (ws ws' : List A) (room : ℕ) (xs : List A) {ys : List A} → push_all room xs ws ≡ Ok ys → length ws' ≡ length ws
    → (room' : ℕ) (xs' : List A) → room + length xs' ≤ room' + length xs → push_all room' xs' ws' ≡ Ok (xs' ++ ws')
unfolding push_all
extend-again [] [] room xs e k room' xs' h = ap Ok (sym (append-nil xs'))
extend-again [] (w' ∷ ws') room xs e k room' xs' h = absurd (omega (arith, k))
extend-again (w ∷ ws) [] room xs e k room' xs' h = absurd (omega (arith, k))
extend-again {A} (w ∷ ws) (w' ∷ ws') room xs {ys} e k room' xs' h =
    let a = next-answered (push room xs w) (λ (zs : List A). push_all room zs ws) ys e in
    let z : length a.0 ≡ length (xs ++ (w ∷ [])) = ap length (push-answered room xs w a.0 a.1) in
    ap (λ (x : Result (List A) Refusal). next x (λ (zs : List A). push_all room' zs ws')) (push-again room xs w a.1 room' xs' w' h)
    ∙ extend-again ws ws' room a.0 a.2 (omega (arith, k)) room' (xs' ++ (w' ∷ [])) (omega (arith, h, z, length-append xs (w ∷ []), length-append xs' (w' ∷ [])))
    ∙ ap Ok (append_assoc xs' (w' ∷ []) ws')

extend-within : {A : Type 0} (ws : List A) (room : ℕ) (xs ys : List A) → push_all room xs ws ≡ Ok ys → length xs ≤ room → length ys ≤ room
unfolding push_all
extend-within [] room xs ys e h = subst (λ (l : List _). length l ≤ room) (same_answer e) h
extend-within {A} (w ∷ ws) room xs ys e h =
    let a = next-answered (push room xs w) (λ (zs : List A). push_all room zs ws) ys e in
    extend-within ws room a.0 ys a.2 (push-fits room xs w a.0 a.1)

adds-appended : (ds : List (List Vector)) → Adder (λ (r s : ℕ) (o : Paths). appended r s o (after no_paths ds))
unfolding appended followed
adds-appended ds r s o q e =
    let d = after no_paths ds in
    let a = next-answered (push_all s o.starts (shifted (length o.vertices) d.starts)) (λ (ss : List ℕ). next (push_all r o.vertices d.vertices) (λ (vs : List Vector). Ok (paths_with vs ss))) q e in
    let b = next-answered (push_all r o.vertices d.vertices) (λ (vs : List Vector). Ok (paths_with vs a.0)) q a.2 in
    let n = extend-adds s (shifted (length o.vertices) d.starts) o.starts a.0 a.1 in
    let m = extend-adds r d.vertices o.vertices b.0 b.1 in
    record {
      what = ds;
      is = sym (same_answer b.2) ∙ ap₂ paths_with m n ∙ follow-laid o ds;
      again = λ r' s' o' h.
          ap (λ (x : Result (List ℕ) Refusal). next x (λ (ss : List ℕ). next (push_all r' o'.vertices d.vertices) (λ (vs : List Vector). Ok (paths_with vs ss))))
          (extend-again (shifted (length o.vertices) d.starts) (shifted (length o'.vertices) d.starts) s o.starts a.1
          (length-map d.starts (λ (i : ℕ). i + length o'.vertices) ∙ sym (length-map d.starts (λ (i : ℕ). i + length o.vertices))) s' o'.starts h.1)
          ∙ ap (λ (x : Result (List Vector) Refusal). next x (λ (vs : List Vector). Ok (paths_with vs (o'.starts ++ shifted (length o'.vertices) d.starts))))
          (extend-again d.vertices d.vertices r o.vertices b.1 refl r' o'.vertices h.0)
          ∙ ap Ok (follow-laid o' ds);
      fits = λ h.
          let x = extend-within d.vertices r o.vertices b.0 b.1 h.0 in
          let y = extend-within (shifted (length o.vertices) d.starts) s o.starts a.0 a.1 h.1 in
          subst (Within r s) (same_answer b.2) (x, y);
    }

-- ---- stages on the paths that there are
pub chop-adds : (a : RenderArgs) (ps : List (List Vector)) → Adder (λ (r s : ℕ). each (one_path (path_chop most_halvings (screen_of a)) r s) ps)
chop-adds a ps = adds-each (λ (r s : ℕ). one_path (path_chop most_halvings (screen_of a)) r s) (λ p. adds_one (path_chop most_halvings (screen_of a)) p (chop-pushes (screen_of a) most_halvings p)) ps

copy-adds : (ps : List (List Vector)) → Adder (λ (r s : ℕ). add_paths r s ps)
unfolding add_paths
copy-adds ps = adds-each (λ (r s : ℕ). one_path copied r s) (λ p. adds_one copied p (pushes_all p)) ps

cut-adds : (x : Shape) (ps : List (List Vector)) → Adder (λ (r s : ℕ). each (path_filter (cut_filter x) r s) ps)
cut-adds x ps = adds-each (λ (r s : ℕ). path_filter (cut_filter x) r s) (adds-filtered (cut_filter x)) ps

-- chopped and sifted: the same in more room
sift-again : (a : RenderArgs) (w : LineRoom) (x : Shape) (p q : Paths) → sifted a w x p ≡ Ok q
    → (ds : List (List Vector)) × (q ≡ after no_paths ds) × ((w' : LineRoom) (o o' : Paths) → Roomier w o w' o' → sifted a w' x p ≡ Ok (after no_paths ds))
unfolding sifted chopped_lines stage
sift-again a w x p q e =
    let i = next-answered (chopped_lines a w.chopped w.begins p) (λ (c : Paths). cut_paths x c.vertices c.starts w.points w.starts) q e in
    let j = next-answered (handed p) (λ (u : Paths). chop_paths a u.vertices u.starts w.chopped w.begins) i.0 i.1 in
    let c = chop-adds a (paths_of j.0.vertices j.0.starts) w.chopped w.begins no_paths i.0 j.2 in
    let d = cut-adds x (paths_of i.0.vertices i.0.starts) w.points w.starts no_paths q i.2 in (
      d.what,
      d.is,
      λ w' o o' h.
          ap (λ (y : Result Paths Refusal). next (next y (λ (u : Paths). chop_paths a u.vertices u.starts w'.chopped w'.begins)) (λ (c : Paths). cut_paths x c.vertices c.starts w'.points w'.starts)) j.1
          ∙ ap (λ (y : Result Paths Refusal). next y (λ (c : Paths). cut_paths x c.vertices c.starts w'.points w'.starts)) (c.again w'.chopped w'.begins no_paths (omega (arith, h.chopped), omega (arith, h.begins)) ∙ ap Ok (sym c.is))
          ∙ d.again w'.points w'.starts no_paths (omega (arith, h.points), omega (arith, h.starts)),
    )

-- ---- a drawn value
pub lines-collected : (t : Placement) (l : Lined) → Liner (λ (w : LineRoom). collected t w l)
unfolding collected
lines-collected t no_lines w o q e = lines_none w o q e
lines-collected t (lined x ps) w o q e =
    let a = copy-adds (or_outline t x ps) w.points w.starts o q e in
    record { what = a.what; is = a.is; again = λ w' o' h. a.again w'.points w'.starts o' h.left; fits = a.fits }
lines-collected t (placed_lines m v l) w o q e =
    let a = next-answered (collected (placed_part m v t) w l o) (λ (u : Paths). Ok (moved_from m (length o.vertices) u)) q e in
    let b = lines-collected (placed_part m v t) l w o a.0 a.1 in
    let z : q ≡ after o (moved m b.what) = sym (same_answer a.2) ∙ ap (moved_from m (length o.vertices)) b.is ∙ move-after m o b.what in
    record {
      what = moved m b.what;
      is = z;
      again = λ w' o' h. ap (λ (x : Result Paths Refusal). next x (λ (u : Paths). Ok (moved_from m (length o'.vertices) u))) (b.again w' o' h) ∙ ap Ok (move-after m o' b.what);
      fits = λ h. let i = subst (Within w.points w.starts) b.is (b.fits h) in let k = length_moved m o b.what in subst (Within w.points w.starts) (sym z) (omega (arith, i.0, k.0), omega (arith, i.1, k.1));
    }
lines-collected t (cut_lines c x y) w o q e =
    let a = next-answered (next (collected t w x no_paths) (collected t w y)) (λ (u : Paths). next (sifted t.args w (bare (cut_lines c x y)) u) (appended w.points w.starts o)) q e in
    let i = lines_then (λ (w : LineRoom). collected t w x) (λ (w : LineRoom). collected t w y) (lines-collected t x) (lines-collected t y) w no_paths a.0 a.1 in
    let b = next-answered (sifted t.args w (bare (cut_lines c x y)) a.0) (appended w.points w.starts o) q a.2 in
    let s = sift-again t.args w (bare (cut_lines c x y)) a.0 b.0 b.1 in
    let d = adds-appended s.0 w.points w.starts o q (ap (appended w.points w.starts o) (sym s.1) ∙ b.2) in
    record {
      what = d.what;
      is = d.is;
      again = λ w' o' h.
          ap (λ (z : Result Paths Refusal). next z (λ (u : Paths). next (sifted t.args w' (bare (cut_lines c x y)) u) (appended w'.points w'.starts o'))) (i.again w' no_paths (roomier-none h) ∙ ap Ok (sym i.is))
          ∙ ap (λ (z : Result Paths Refusal). next z (appended w'.points w'.starts o')) (s.2 w' o o' h)
          ∙ d.again w'.points w'.starts o' h.left;
      fits = d.fits;
    }

-- ---- all
pub lines-all : (a : RenderArgs) (at : ℕ → Lined) (is : List ℕ) → Liner (λ (w : LineRoom). collected_all a w at is)
unfolding collected_all
lines-all a at [] = lines_none
lines-all a at (i ∷ is) = lines_then (λ (w : LineRoom). collected (unplaced a) w (at i)) (λ (w : LineRoom). collected_all a w at is) (lines-collected (unplaced a) (at i)) (lines-all a at is)

pub collect-append : (a : RenderArgs) (w : LineRoom) (at : ℕ → Lined) (is js : List ℕ) (o : Paths) → collected_all a w at (is ++ js) o ≡ next (collected_all a w at is o) (collected_all a w at js)
unfolding collected_all
collect-append a w at [] js o = refl
collect-append a w at (i ∷ is) js o = go (λ (x : Paths). collect-append a w at is js x) (collected (unplaced a) w (at i) o)
  where
    go : ((x : Paths) → collected_all a w at (is ++ js) x ≡ next (collected_all a w at is x) (collected_all a w at js)) → (z : Result Paths Refusal)
        → next z (collected_all a w at (is ++ js)) ≡ next (next z (collected_all a w at is)) (collected_all a w at js)
    go ih (Ok x) = ih x
    go ih (Err k) = refl
