-- The account of a sheet: the proof. Assumes nothing.
use mathlib.Core.Path.{◌≡◌, refl, sym, ap, ap₂, ◌∙◌, subst}
use mathlib.Core.Logic.{◌⊎◌, inl, inr}
use mathlib.Core.Bool.{Bool, true, false, cond}
use mathlib.Core.List.{List, [], ◌∷◌, ◌++◌, append-nil}
use Prim.Native.Nat.{ℕ}
use native.Mathlib.Omega.{arith}
use lib.ListN.{length}
use lib.Dec.{leb}
use Rattle.geometry.specs.declared.vector.Vector.{Vector}
use Rattle.lists.specs.Lists.{Member}
use Rattle.lists.proofs.Members.{member-append, append-member}
use Rattle.check_parts.specs.Drawn.{drawn}
use Rattle.check_scene.specs.Checks.{check_of}
use Rattle.refusals.specs.declared.Refusal.TheVariants.{View as BadView, Room}
use Rattle.scene.specs.Scenes.{Scene}
use Rattle.paths.specs.Answers.{next}
use Rattle.paths.specs.Paths.{Paths, paths_with, no_paths, paths_of, push_all}
use Rattle.paths.proofs.Adding.{no_answer, same_answer, next-answered, extend-adds}
use Rattle.path_copy.specs.Copies.{copied_paths}
use Rattle.view.specs.Views.{view_ok, args_of}
use Rattle.view.specs.declared.View.{View}
use Rattle.draw_collect.specs.Lined.{Lined}
use Rattle.draw_collect.specs.Collect.{chopped_lines, collected_all}
use Rattle.draw_render.specs.Render.{Places, stepping}
use Rattle.draw_entry_lines.specs.EntryLines.{chopped_or_copied, lines_in_room, entry_lines}
use Rattle.draw.specs.Draw.{lined_in, drawn_after}
use Rattle.draw.proofs.Answered.{drawn-accepted}
use Rattle.theorem_draws.specs.Draws.{paths_in}
use Rattle.theorem_parts.specs.Following.{followed}
use Rattle.theorem_parts.specs.Parts.{more_lines, more_places}
use Rattle.theorem_parts.specs.Accounts.{put_lines, lines_part, LinesOfDraw, LinesSplit, LinesAlike, PathOf, LinesAccounted, LinesCalled}
use Rattle.theorem_parts.proofs.Adders.{after, after-append, Within}
use Rattle.theorem_parts.proofs.Following.{read_back, follow-none}
use Rattle.theorem_parts.proofs.Collecting.{Roomier, lines-all, collect-append}
use Rattle.theorem_parts.proofs.Parts.{laid, Flow, flow-cond, plain-flow, chop-flow, laid-append, view-passes, twice-none, none-follow}
use Rattle.std.specs.Prelude.{Err, Ok, Result}
use Rattle.refusals.specs.declared.Refusal.{Refusal}

module _ (v : View) (at : ℕ → Lined) where
  abbrev second : Places → Paths → Result Paths Refusal
  second w p = cond (stepping v) (chopped_lines (args_of v) w.lines.chopped w.lines.begins p) (Ok p)

  second-flow : Flow second
  second-flow = flow-cond _ _ (chop-flow v) plain-flow (stepping v)

  put-splits : (w : Places) (xs ys : List ℕ) (l : Paths) → put_lines v w at (xs ++ ys) ≡ Ok l
      → (ps qs : List (List Vector)) × (put_lines v w at xs ≡ Ok (laid ps)) × (put_lines v w at ys ≡ Ok (laid qs)) × (l ≡ laid (ps ++ qs))
  unfolding put_lines
  put-splits w xs ys l e =
      let c = next-answered (collected_all (args_of v) w.lines at (xs ++ ys) no_paths) (second w) l e in
      let d = next-answered (collected_all (args_of v) w.lines at xs no_paths) (collected_all (args_of v) w.lines at ys) c.0 (sym (collect-append (args_of v) w.lines at xs ys no_paths) ∙ c.1) in
      let x = lines-all (args_of v) at xs w.lines no_paths d.0 d.1 in
      let y = lines-all (args_of v) at ys w.lines d.0 c.0 d.2 in
      let z : c.0 ≡ laid (x.what ++ y.what) = y.is ∙ ap (λ (p : Paths). after p y.what) x.is ∙ sym (after-append no_paths x.what y.what) in
      let g = second-flow.splits w x.what y.what l (ap (second w) (sym z) ∙ c.2) in
      let h : Roomier w.lines d.0 w.lines no_paths = record { left = (omega arith, omega arith); points = omega arith; starts = omega arith; chopped = omega arith; begins = omega arith } in (
        g.0,
        g.1,
        ap (λ (p : Result Paths Refusal). next p (second w)) (d.1 ∙ ap Ok x.is) ∙ g.2,
        ap (λ (p : Result Paths Refusal). next p (second w)) (y.again w.lines no_paths h) ∙ g.3,
        g.4,
      )

  put-joins : (w u : Places) (xs ys : List ℕ) (a b : Paths) → put_lines v w at xs ≡ Ok a → put_lines v u at ys ≡ Ok b → put_lines v (more_places w u) at (xs ++ ys) ≡ Ok (followed a b)
  unfolding put_lines more_places more_lines
  put-joins w u xs ys a b d e =
      let i = next-answered (collected_all (args_of v) w.lines at xs no_paths) (second w) a d in
      let j = next-answered (collected_all (args_of v) u.lines at ys no_paths) (second u) b e in
      let x = lines-all (args_of v) at xs w.lines no_paths i.0 i.1 in
      let y = lines-all (args_of v) at ys u.lines no_paths j.0 j.1 in
      let f = subst (Within w.lines.points w.lines.starts) x.is (x.fits (omega arith, omega arith)) in
      let l = more_lines w.lines u.lines in
      let h : Roomier w.lines no_paths l no_paths = record { left = (omega arith, omega arith); points = omega arith; starts = omega arith; chopped = omega arith; begins = omega arith } in
      let k : Roomier u.lines no_paths l (laid x.what)
      = record { left = (omega (arith, f.0), omega (arith, f.1)); points = omega arith; starts = omega arith; chopped = omega arith; begins = omega arith } in
      let g = second-flow.joins w u x.what y.what a b (ap (second w) (sym x.is) ∙ i.2) (ap (second u) (sym y.is) ∙ j.2) in
      ap (λ (p : Result Paths Refusal). next p (second (more_places w u)))
      (collect-append (args_of v) l at xs ys no_paths
      ∙ ap (λ (p : Result Paths Refusal). next p (collected_all (args_of v) l at ys)) (x.again l no_paths h)
      ∙ y.again l (laid x.what) k
      ∙ ap Ok (sym (after-append no_paths x.what y.what)))
      ∙ g.4
      ∙ ap Ok (laid-append g.0 g.1 ∙ sym (ap₂ followed g.2 g.3))

module _ (s : Scene) (v : View) where
  lines-were : (w : Places) (part : List ℕ) (l : Paths) → lines_part s v w part ≡ Ok l → (n : ℕ) × (check_of s ≡ Ok n) × (view_ok v ≡ true) × (put_lines v w (lined_in s) part ≡ Ok l)
  unfolding lines_part
  lines-were w part l e =
      let a = drawn-accepted (check_of s) _ e in
      let b = view-passes (view_ok v) _ a.2 in
      (a.0, a.1, b.0, b.1)

  lines_are : {n : ℕ} (w : Places) (part : List ℕ) → check_of s ≡ Ok n → view_ok v ≡ true → lines_part s v w part ≡ put_lines v w (lined_in s) part
  unfolding lines_part drawn_after
  lines_are w part a b = rw (a, b)

pub lines-of-draw : LinesOfDraw
unfolding put_lines
lines-of-draw t s v w q D = lines_are s v w (drawn s.marks) D.accepted D.fair ∙ ap (λ (z : Result Paths Refusal). next z (second v (lined_in s) w)) D.collects ∙ D.chops

pub lines_split : LinesSplit
lines_split s v w xs ys l e =
    let a = lines-were s v w (xs ++ ys) l e in
    let g = put-splits v (lined_in s) w xs ys l a.3 in (
      laid g.0,
      laid g.1,
      lines_are s v w xs a.1 a.2 ∙ g.2,
      lines_are s v w ys a.1 a.2 ∙ g.3,
      g.4 ∙ laid-append g.0 g.1,
      ap paths_in g.4 ∙ read_back (g.0 ++ g.1) ∙ ap₂ (λ (x y : List (List Vector)). x ++ y) (sym (read_back g.0)) (sym (read_back g.1)),
    )

-- ---- places change no lines
lines_join : (s : Scene) (v : View) (w u : Places) (xs ys : List ℕ) (a b : Paths) → lines_part s v w xs ≡ Ok a → lines_part s v u ys ≡ Ok b → lines_part s v (more_places w u) (xs ++ ys) ≡ Ok (followed a b)
lines_join s v w u xs ys a b d e =
    let i = lines-were s v w xs a d in
    let j = lines-were s v u ys b e in
    lines_are s v (more_places w u) (xs ++ ys) i.1 i.2 ∙ put-joins v (lined_in s) w u xs ys a b i.3 j.3

no_lines : (s : Scene) (v : View) (w : Places) (l : Paths) → lines_part s v w [] ≡ Ok l → l ≡ no_paths
no_lines s v w l e =
    let a = lines_split s v w [] [] l e in
    let x : a.0 ≡ l = same_answer (sym a.2 ∙ e) in
    let y : a.1 ≡ l = same_answer (sym a.3 ∙ e) in
    twice-none l (a.4 ∙ ap₂ followed x y)

pub lines-alike : LinesAlike
lines-alike s v w u part a b d e =
    let x = lines_split s v w [] part a d in
    let y = lines_split s v u [] part b e in
    let n = no_lines s v w x.0 x.2 in
    let m = no_lines s v u y.0 y.2 in
    let i = lines_join s v w u part [] a y.0 d y.2 in
    let j = lines_join s v w u [] part x.0 b x.2 e in
    let k : followed a y.0 ≡ followed x.0 b = same_answer (sym (ap (lines_part s v (more_places w u)) (sym (append-nil part)) ∙ i) ∙ j) in
    sym (ap (followed a) m ∙ follow-none a) ∙ k ∙ ap (λ (z : Paths). followed z b) n ∙ none-follow b

module _ (s : Scene) (v : View) (w : Places) (path : List Vector) where
  none-put : (l : Paths) → lines_part s v w [] ≡ Ok l → paths_in l ≡ []
  unfolding paths_of
  none-put l e = ap paths_in (no_lines s v w l e)

  owned_in : (is : List ℕ) (l : Paths) → lines_part s v w is ≡ Ok l → Member path (paths_in l) → (i : ℕ) × Member i is × PathOf s v w i path
  owned_in [] l e m = absurd (subst (Member path) (none-put l e) m)
  owned_in (i ∷ is) l e m =
      let a = lines_split s v w (i ∷ []) is l e in
      by a.0 a.2 (λ k. owned_in is a.1 a.3 k) (member-append path (paths_in a.0) (paths_in a.1) (subst (Member path) a.5 m))
    where
      by : {B : Type 0} (a : Paths) → lines_part s v w (i ∷ []) ≡ Ok a → (B → (j : ℕ) × Member j is × PathOf s v w j path) → Member path (paths_in a) ⊎ B → (j : ℕ) × Member j (i ∷ is) × PathOf s v w j path
      by a f ih (inl k) = (i, inl refl, record { lines = a; are = f; among = k })
      by a f ih (inr k) = let r = ih k in (r.0, inr r.1, r.2)

  put_in : (u : Places) (is : List ℕ) (l : Paths) → lines_part s v w is ≡ Ok l → (i : ℕ) → Member i is → PathOf s v u i path → Member path (paths_in l)
  put_in u [] l e i m p = absurd m
  put_in u (j ∷ is) l e i m p =
      let a = lines_split s v w (j ∷ []) is l e in
      subst (Member path) (sym a.5) (append-member path (paths_in a.0) (paths_in a.1) (by a.0 a.2 (λ k. put_in u is a.1 a.3 i k p) m))
    where
      by : {B : Type 0} (a : Paths) → lines_part s v w (j ∷ []) ≡ Ok a → (Member i is → B) → (j ≡ i) ⊎ Member i is → Member path (paths_in a) ⊎ B
      by a f ih (inl k) =
          let r : p.lines ≡ a = lines-alike s v u w (j ∷ []) p.lines a (ap (λ (x : ℕ). lines_part s v u (x ∷ [])) k ∙ p.are) f in
          inl (subst (λ (x : Paths). Member path (paths_in x)) r p.among)
      by a f ih (inr k) = inr (ih k)

pub lines-accounted : LinesAccounted
lines-accounted = record {
  owned = λ t s v w q D path m. owned_in s v w path (drawn s.marks) D.lines (lines-of-draw t s v w q D) m;
  put = λ t s v w q D path u i m p. put_in s v w path u (drawn s.marks) D.lines (lines-of-draw t s v w q D) i m p;
}

-- ---- the public call
-- a copy is what is copied
copied-same : (room startRoom : ℕ) (p q : Paths) → copied_paths room startRoom p ≡ Ok q → p ≡ q
unfolding copied_paths
copied-same room startRoom p q e = by (leb (length p.starts) startRoom) e
  where
    by : (b : Bool) → cond b (next (push_all room [] p.vertices) (λ (vs : List Vector). Ok (paths_with vs p.starts))) (Err Room) ≡ Ok q → p ≡ q
    by true f =
        let a = next-answered (push_all room [] p.vertices) (λ (vs : List Vector). Ok (paths_with vs p.starts)) q f in
        ap (λ (vs : List Vector). paths_with vs p.starts) (sym (extend-adds room p.vertices [] a.0 a.1)) ∙ same_answer a.2
    by false f = no_answer Room f

module _ (v : View) (at : ℕ → Lined) (w : Places) where
  called-second : (p q : Paths) → chopped_or_copied v w.lines.chopped w.lines.begins p ≡ Ok q → second v at w p ≡ Ok q
  unfolding chopped_or_copied
  called-second p q e = by (stepping v) e
    where
      by : (b : Bool) → cond b (chopped_lines (args_of v) w.lines.chopped w.lines.begins p) (copied_paths w.lines.chopped w.lines.begins p) ≡ Ok q
          → cond b (chopped_lines (args_of v) w.lines.chopped w.lines.begins p) (Ok p) ≡ Ok q
      by true f = f
      by false f = ap Ok (copied-same w.lines.chopped w.lines.begins p q f)

  called-lines : (part : List ℕ) (q : Paths) → lines_in_room v w.lines at part ≡ Ok q → put_lines v w at part ≡ Ok q
  unfolding lines_in_room put_lines
  called-lines part q e =
      let c = next-answered (collected_all (args_of v) w.lines at part no_paths) (chopped_or_copied v w.lines.chopped w.lines.begins) q e in
      ap (λ (a : Result Paths Refusal). next a (second v at w)) c.1 ∙ called-second c.0 q c.2

pub lines_called : LinesCalled
unfolding entry_lines lines_part drawn_after
lines_called s v w part q e = by (check_of s) (view_ok v) e
  where
    by : (d : Result ℕ Refusal) (b : Bool) → drawn_after d (cond b (lines_in_room v w.lines (lined_in s) part) (Err BadView)) ≡ Ok q → drawn_after d (cond b (put_lines v w (lined_in s) part) (Err BadView)) ≡ Ok q
    by (Ok n) true f = called-lines v (lined_in s) w part q f
    by (Ok n) false f = no_answer BadView f
    by (Err k) b f = no_answer k f
