-- What stands on the sheet was seen. Assumes nothing.
use Prim.Native.Nat.{ℕ, zero, suc, ◌-◌, ◌<◌}
use mathlib.Core.Path.{◌≡◌, refl, sym, ap, subst, ◌∙◌}
use mathlib.Core.Logic.{◌⊎◌, inl, inr}
use mathlib.Core.Bool.{Bool, true, false}
use mathlib.Core.List.{List, [], ◌∷◌, map}
use native.Mathlib.Omega.{arith}
use lib.ListN.{length, take, drop, get_or}
use lib.Dec.{T}
use lib.Ieee.{Float}
use Rattle.geometry.specs.Boxes.{clip_box, contains}
use Rattle.geometry.specs.declared.vector.Vector.{Vector}
use Rattle.matrix.specs.Matrices.{mul_position, mul_position_w}
use Rattle.rows.specs.Starts.{next_start}
use Rattle.lists.specs.Lists.{Member, Pairwise}
use Rattle.lists.proofs.Members.{member-append}
use Rattle.scene.specs.Scenes.{Scene}
use Rattle.paths.specs.Paths.{Paths, paths_of, with_points}
use Rattle.paths.specs.Ends.{nowhere}
use Rattle.path_rdp.specs.Rdp.{vertex}
use Rattle.path_rdp.specs.Demand.{Chain, Accepted, Simplifies}
use Rattle.view.specs.Views.{viewport}
use Rattle.view.specs.declared.View.{View}
use Rattle.draw_clip.specs.Clip.{clip_filter}
use Rattle.theorem_filters.specs.Kept.{before, kept_in, kept_of}
use Rattle.theorem_filters.specs.Passing.{LeftAfterClipping}
use Rattle.theorem_filters.proofs.Passing.{clipped-is-dropped}
use Rattle.draw_render.specs.Render.{Places, stepping}
use Rattle.draw.specs.Drawing.{seen_in, Drawing}
use Rattle.theorem_draws.specs.Sheets.{Put, ClippedIn, PassedIn, HiddenIn}
use Rattle.theorem_draws.specs.Draws.{Seen}
use Rattle.theorem_draws.proofs.Sheets.{each_point, step_four, step-four-leaves, simplified_so, unsimplified-so, sheet-paths}
use Rattle.std.specs.Prelude.{Err, None, Ok, Option, Result, Some}
use Rattle.refusals.specs.declared.Refusal.{Refusal}

-- ---- members
module _ {A B : Type 0} (f : A → B) where
  map-member : (xs : List A) (y : B) → Member y (map f xs) → (x : A) × Member x xs × (y ≡ f x)
  map-member [] y m = absurd m
  map-member (x ∷ xs) y (inl e) = (x, inl refl, sym e)
  map-member (x ∷ xs) y (inr m) = let r = map-member xs y m in (r.0, inr r.1, r.2)

module _ {A : Type 0} where
  take-member : (n : ℕ) (xs : List A) (x : A) → Member x (take n xs) → Member x xs
  take-member zero xs x m = absurd m
  take-member (suc n) [] x m = absurd m
  take-member (suc n) (y ∷ xs) x (inl e) = inl e
  take-member (suc n) (y ∷ xs) x (inr m) = inr (take-member n xs x m)

  drop-member : (n : ℕ) (xs : List A) (x : A) → Member x (drop n xs) → Member x xs
  drop-member zero xs x m = m
  drop-member (suc n) [] x m = absurd m
  drop-member (suc n) (y ∷ xs) x m = inr (drop-member n xs x m)

  at-member : (xs : List A) (i : ℕ) (d : A) → i < length xs → Member (get_or xs i d) xs
  at-member [] i d h = absurd (omega arith)
  at-member (x ∷ xs) zero d h = inl refl
  at-member (x ∷ xs) (suc i) d h = inr (at-member xs i d (omega arith))

-- a point of a path is one of the points
path-member : (vs : List Vector) (ss : List ℕ) (p : List Vector) → Member p (paths_of vs ss) → (x : Vector) → Member x p → Member x vs
unfolding paths_of
path-member vs [] p m x h = absurd m
path-member vs (s ∷ ss) p (inl e) x h = take-member (next_start (length vs) ss) vs x (drop-member s (take (next_start (length vs) ss) vs) x (subst (λ (l : List Vector). Member x l) (sym e) h))
path-member vs (s ∷ ss) p (inr m) x h = path-member vs ss p m x h

with-member : (ps : List (List Vector)) (p : List Vector) → Member p (with_points ps) → Member p ps
unfolding with_points
with-member [] p m = absurd m
with-member ([] ∷ ps) p m = inr (with-member ps p m)
with-member ((v ∷ r) ∷ ps) p (inl e) = inl e
with-member ((v ∷ r) ∷ ps) p (inr m) = inr (with-member ps p m)

pub with-points : (ps : List (List Vector)) (p : List Vector) → Member p (with_points ps) → 0 < length p
unfolding with_points
with-points [] p m = absurd m
with-points ([] ∷ ps) p m = with-points ps p m
with-points ((v ∷ r) ∷ ps) p (inl e) = rw (← e) (omega arith)
with-points ((v ∷ r) ∷ ps) p (inr m) = with-points ps p m

partner : {A B : Type 0} (r : A → B → Type 0) (xs : List A) (ys : List B) → Pairwise r xs ys → (y : B) → Member y ys → (x : A) × Member x xs × r x y
unfolding Pairwise
partner r [] [] e y m = absurd m
partner r [] (z ∷ ys) e y m = absurd e
partner r (x ∷ xs) [] e y m = absurd m
partner {A} {B} r (x ∷ xs) (z ∷ ys) e y (inl h) = (x, inl refl, subst (λ (b : B). r x b) h e.0)
partner r (x ∷ xs) (z ∷ ys) e y (inr m) = let k = partner r xs ys e.1 y m in (k.0, inr k.1, k.2)

-- ---- what a test keeps comes from a point that it keeps
module _ (test : Vector → Result (Option Vector) Refusal) where
  record Source (ps : List (List Vector)) (x : Vector) : Type 0 where
    path : List Vector
    among : Member path ps
    point : Vector
    on : Member point path
    kept : test point ≡ Ok (Some x)

  kept-source : (vs : List Vector) (x : Vector) → Member x (kept_in test vs) → (v : Vector) × Member v vs × (test v ≡ Ok (Some x))
  unfolding kept_in before
  kept-source [] x m = absurd m
  kept-source (v ∷ vs) x m = go (test v) refl m (λ h. kept-source vs x h)
    where
      go : (t : Result (Option Vector) Refusal) → test v ≡ t → Member x (before t (kept_in test vs)) → (Member x (kept_in test vs) → (u : Vector) × Member u vs × (test u ≡ Ok (Some x))) → (u : Vector) × Member u (v ∷ vs) × (test u ≡ Ok (Some x))
      go (Ok (Some w)) e (inl h) rest = (v, inl refl, e ∙ ap (λ (u : Vector). Ok (Some u)) h)
      go (Ok (Some w)) e (inr h) rest = let r = rest h in (r.0, inr r.1, r.2)
      go (Ok None) e h rest = let r = rest h in (r.0, inr r.1, r.2)
      go (Err k) e h rest = let r = rest h in (r.0, inr r.1, r.2)

  kept_from : (ps : List (List Vector)) (x : Vector) → Member x (kept_of test ps) → Source ps x
  unfolding kept_of
  kept_from [] x m = absurd m
  kept_from (p ∷ ps) x m = elim (member-append x (kept_in test p) (kept_of test ps) m) [
    | inl h ↦ let r = kept-source p x h in record { path = p; among = inl refl; point = r.0; on = r.1; kept = r.2 }
    | inr h ↦ let r = kept_from ps x h in record { path = r.path; among = inr r.among; point = r.point; on = r.on; kept = r.kept }
  ]

-- ---- a simplified path has points of the path alone
kept-places : (bs : List ℕ) (a z : ℕ) → Chain ◌<◌ a bs z → (c : ℕ) → Member c (a ∷ bs) → c < suc z
unfolding Chain
kept-places [] a z h c (inl e) = omega (arith, e, h)
kept-places [] a z h c (inr m) = absurd m
kept-places (b ∷ bs) a z h c (inl e) = let k = kept-places bs b z h.1 b (inl refl) in omega (arith, e, k, h.0)
kept-places (b ∷ bs) a z h c (inr m) = kept-places bs b z h.1 c m

simplified-from : (t : Float) (p r : List Vector) → 0 < length p → Simplifies t p r → (x : Vector) → Member x r → Member x p
simplified-from t p r some S x m =
    let k = map-member (vertex p) (0 ∷ S.others) x (subst (λ (l : List Vector). Member x l) S.kept m) in
    let l = kept-places S.others 0 (length p - 1) S.order k.0 k.1 in
    subst (λ (y : Vector). Member y p) (sym k.2) (at-member p k.0 nowhere (omega (arith, l)))

either : (b : Bool) → (T b → ⊥) ⊎ T b
either true = inr tt
either false = inl (λ h. h)

keep_same : {x y : Vector} → ◌≡◌ {A = Result (Option Vector) Refusal} (Ok (Some x)) (Ok (Some y)) → x ≡ y
keep_same e = cc

keep-drop : {x : Vector} → ◌≡◌ {A = Result (Option Vector) Refusal} (Ok (Some x)) (Ok None) → ⊥
keep-drop e = let z : ◌≡◌ {A = ℕ} 0 1 = cc in omega arith

module _ {t : Float} {s : Scene} {v : View} {w : Places} {q : Paths} (D : Drawing t s v w q) where
  abbrev test : Vector → Result (Option Vector) Refusal
  test = clip_filter v.matrix (seen_in s v.eye)

  left-of : (y u : Vector) → test u ≡ Ok (Some y) → LeftAfterClipping v.matrix u
  left-of y u k = elim (either (contains clip_box (mul_position_w v.matrix u))) [
    | inl out ↦ absurd (keep-drop (sym k ∙ clipped-is-dropped v.matrix (seen_in s v.eye) u out))
    | inr l ↦ l
  ]

  -- what step 4 leaves
  passed-seen : (y : Vector) → Member y D.passed.vertices → Seen D (mul_position (viewport v.width v.height) y)
  passed-seen y m =
      let src = kept_from test (paths_of D.lines.vertices D.lines.starts) y (subst (λ (l : List Vector). Member y l) (step-four-leaves D) m) in
      let put : Put D src.point = record { path = src.path; among = src.among; on = src.on } in
      go y src.point put src.kept (each_point D src.point put)
    where
      go : (y u : Vector) (put : Put D u) → test u ≡ Ok (Some y)
          → ClippedIn s v u ⊎ (PassedIn s v u ⊎ HiddenIn s v u) → Seen D (mul_position (viewport v.width v.height) y)
      go y u put k (inl out) = absurd (keep-drop (sym k ∙ out.1))
      go y u put k (inr (inr hid)) = absurd (keep-drop (sym k ∙ hid.dropped))
      go y u put k (inr (inl pass)) =
          let left = left-of y u k in
          record {
            point = u;
            put = put;
            left = left;
            seen = (step_four D u put left).0.0 pass;
            lands = ap (mul_position (viewport v.width v.height)) (keep_same (sym k ∙ pass));
          }

  left_passed : (b : Bool) → stepping v ≡ b → (p : List Vector) → Member p (paths_of D.left.vertices D.left.starts) → (y : Vector) → Member y p → Member y D.passed.vertices
  left_passed true h p m y n =
      let k = partner (λ (a b : List Vector). Accepted t a × Simplifies t a b) _ _ (simplified_so D h) p m in
      path-member D.passed.vertices D.passed.starts k.0 (with-member _ k.0 k.1) y
      (simplified-from t k.0 p (with-points _ k.0 k.1) k.2.1 y n)
  left_passed false h p m y n =
      let e = unsimplified-so D h in
      path-member D.passed.vertices D.passed.starts p (subst (λ (o : Paths). Member p (paths_of o.vertices o.starts)) e m) y n

  pub on-sheet : (path : List Vector) → Member path (paths_of q.vertices q.starts) → (x : Vector) → Member x path → Seen D x
  on-sheet path among x on =
      let f = mul_position (viewport v.width v.height) in
      let k = map-member (map f) (paths_of D.left.vertices D.left.starts) path (subst (λ (l : List (List Vector)). Member path l) (sheet-paths D) among) in
      let y = map-member f k.0 x (subst (λ (l : List Vector). Member x l) k.2 on) in
      subst (Seen D) (sym y.2) (passed-seen y.0 (left_passed (stepping v) refl k.0 k.1 y.0 y.1))
