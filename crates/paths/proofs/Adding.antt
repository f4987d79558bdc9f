-- A stage that opens, fills and closes one path for each leaves the filled paths, those without points aside. Assumes nothing.
use mathlib.Core.Path.{◌≡◌, refl, sym, ap, ap₂, ◌∙◌, subst}
use mathlib.Core.Bool.{Bool, true, false, cond}
use mathlib.Core.List.{List, [], ◌∷◌, ◌++◌, map, append_assoc, append-nil}
use Prim.Native.Nat.{ℕ, ◌-◌, ◌≤◌, ◌<◌}
use native.Mathlib.Omega.{arith}
use borrow.Author.Tests.{ltb-true, lt-ltb, eq-eqb, ne_eqb}
use lib.Dec.{ltb}
use lib.ListN.{length, drop, length-append}
use lib.Seq.{slice, take_all, take-append-le, drop_at, get_or_at}
use Rattle.geometry.specs.declared.vector.Vector.{Vector}
use Rattle.refusals.specs.declared.Refusal.{Refusal}
use Rattle.refusals.specs.declared.Refusal.TheVariants.{Room}
use Rattle.rows.specs.Starts.{next_start}
use Rattle.paths.specs.Answers.{next}
use Rattle.paths.specs.Paths.{Paths, paths_with, no_paths, push, push_all, paths_of, opened, closed_starts, closed, one_path, each, stage, with_points}
use Rattle.paths.proofs.Runs.{front-snoc}
use Rattle.std.specs.Prelude.{Err, Ok, Result}

-- ---- answers
pub no_answer : {A B : Type 0} {x : A} (e : Refusal) → Err e ≡ Ok x → B
no_answer e q = let z : ◌≡◌ {A = ℕ} 0 1 = cc in absurd (omega arith)

pub same_answer : {A : Type 0} {x y : A} → ◌≡◌ {A = Result A Refusal} (Ok x) (Ok y) → x ≡ y
same_answer e = cc

-- what came before an answer was answered too
pub next-answered : {A B : Type 0} (a : Result A Refusal) (f : A → Result B Refusal) (y : B) → next a f ≡ Ok y → (x : A) × (a ≡ Ok x) × (f x ≡ Ok y)
next-answered (Ok x) f y e = (x, refl, e)
next-answered (Err k) f y e = no_answer k e

pub push-answered : {A : Type 0} (room : ℕ) (xs : List A) (x : A) (ys : List A) → push room xs x ≡ Ok ys → ys ≡ xs ++ (x ∷ [])
unfolding push
push-answered {A} room xs x ys e = by (ltb (length xs) room) e
  where
    by : (t : Bool) → cond t (Ok (xs ++ (x ∷ []))) (Err Room) ≡ Ok ys → ys ≡ xs ++ (x ∷ [])
    by true q = cc
    by false q = no_answer Room q

pub push-fits : {A : Type 0} (room : ℕ) (xs : List A) (x : A) (ys : List A) → push room xs x ≡ Ok ys → length ys ≤ room
unfolding push
push-fits {A} room xs x ys e = by (ltb (length xs) room) refl e
  where
    by : (t : Bool) → ltb (length xs) room ≡ t → cond t (Ok (xs ++ (x ∷ []))) (Err Room) ≡ Ok ys → length ys ≤ room
    by true l q =
        let k : length (xs ++ (x ∷ [])) ≡ length ys = (let z : xs ++ (x ∷ []) ≡ ys = cc in ap length z) in
        omega (arith, k, length-append xs (x ∷ []), ltb-true (length xs) room l)
    by false l q = no_answer Room q

pub extend-adds : {A : Type 0} (room : ℕ) (vs xs ys : List A) → push_all room xs vs ≡ Ok ys → ys ≡ xs ++ vs
unfolding push_all
extend-adds room [] xs ys e = let q : xs ≡ ys = cc in sym q ∙ sym (append-nil xs)
extend-adds {A} room (v ∷ vs) xs ys e =
    let w = next-answered (push room xs v) (λ (zs : List A). push_all room zs vs) ys e in
    extend-adds room vs w.0 ys w.2 ∙ ap (λ (zs : List A). zs ++ vs) (push-answered room xs v w.0 w.1) ∙ append_assoc xs (v ∷ []) vs

-- ---- one more path
-- no start is beyond the points
abbrev pub Low : ℕ → List ℕ → Type 0
Low n [] = 0 ≤ n
Low n (s ∷ ss) = (s ≤ n) × Low n ss

low-more : (n m : ℕ) (ss : List ℕ) → n ≤ m → Low n ss → Low m (ss ++ (n ∷ []))
low-more n m [] l h = (l, omega arith)
low-more n m (s ∷ ss) l h = (omega (arith, h.0), low-more n m ss l h.1)

low-next : (n : ℕ) (ss : List ℕ) → Low n ss → next_start n ss ≤ n
low-next n [] h = omega arith
low-next n (s ∷ ss) h = h.0

next_more : (n m : ℕ) (ss : List ℕ) → next_start m (ss ++ (n ∷ [])) ≡ next_start n ss
next_more n m [] = refl
next_more n m (s ∷ ss) = refl

module _ (vs ws : List Vector) where
  paths-more : (ss : List ℕ) → Low (length vs) ss → paths_of (vs ++ ws) (ss ++ (length vs ∷ [])) ≡ paths_of vs ss ++ (ws ∷ [])
  unfolding paths_of
  paths-more [] h =
      let e : slice (length vs) (length (vs ++ ws)) (vs ++ ws) ≡ ws = ap (drop (length vs)) (take_all (length (vs ++ ws)) (vs ++ ws) (omega arith)) ∙ drop_at vs ws (length vs) refl in
      ap (λ (l : List Vector). l ∷ []) e
  paths-more (s ∷ ss) h =
      let e : slice s (next_start (length (vs ++ ws)) (ss ++ (length vs ∷ []))) (vs ++ ws) ≡ slice s (next_start (length vs) ss) vs
      = ap (λ (n : ℕ). slice s n (vs ++ ws)) (next_more (length vs) (length (vs ++ ws)) ss) ∙ ap (drop s) (take-append-le (next_start (length vs) ss) vs ws (low-next (length vs) ss h.1)) in
      ap₂ (λ (l : List Vector) (ls : List (List Vector)). l ∷ ls) e (paths-more ss h.1)

  -- closed: a path that got no points vanishes
  close-empty : (ss : List ℕ) → length ws ≡ 0 → closed_starts (ss ++ (length vs ∷ [])) (length (vs ++ ws)) ≡ ss
  unfolding closed_starts
  close-empty ss h =
      let n : length (ss ++ (length vs ∷ [])) - 1 ≡ length ss = simp length-append (omega arith) in
      let m : length (vs ++ ws) ≡ length vs = length-append vs ws ∙ omega arith in
      rw (n, get_or_at ss (length vs) [] 0 (length ss) refl, m, eq-eqb (length vs) (length vs) refl, lt-ltb 0 (length (ss ++ (length vs ∷ []))) (simp length-append (omega arith))) (front-snoc ss (length vs))

  close-full : (ss : List ℕ) → 0 < length ws → closed_starts (ss ++ (length vs ∷ [])) (length (vs ++ ws)) ≡ ss ++ (length vs ∷ [])
  unfolding closed_starts
  close-full ss h =
      let n : length (ss ++ (length vs ∷ [])) - 1 ≡ length ss = simp length-append (omega arith) in
      rw (n, get_or_at ss (length vs) [] 0 (length ss) refl, ne_eqb (length vs) (length (vs ++ ws)) (λ q. omega (arith, length-append vs ws)), lt-ltb 0 (length (ss ++ (length vs ∷ []))) (simp length-append (omega arith)))

-- what a path adds
pub record Added (out o : Paths) (ps : List (List Vector)) : Type 0 where
  pub low : Low (length o.vertices) o.starts
  pub paths : paths_of o.vertices o.starts ≡ paths_of out.vertices out.starts ++ ps

pub closed-adds : (vs ws : List Vector) (ss : List ℕ) → Low (length vs) ss → Added (paths_with vs ss) (closed (paths_with (vs ++ ws) (ss ++ (length vs ∷ [])))) (with_points (ws ∷ []))
unfolding closed with_points
closed-adds vs [] ss h = rw (close-empty vs [] ss refl, append-nil vs) (record { low = h; paths = sym (append-nil (paths_of vs ss)) })
closed-adds vs (w ∷ ws) ss h = rw (close-full vs (w ∷ ws) ss (omega arith)) (record { low = low-more (length vs) (length (vs ++ (w ∷ ws))) ss (omega (arith, length-append vs (w ∷ ws))) h; paths = paths-more vs (w ∷ ws) ss h })

with_append : (ps qs : List (List Vector)) → with_points (ps ++ qs) ≡ with_points ps ++ with_points qs
unfolding with_points
with_append [] qs = refl
with_append ([] ∷ ps) qs = with_append ps qs
with_append ((v ∷ p) ∷ ps) qs = ap (λ (l : List (List Vector)). (v ∷ p) ∷ l) (with_append ps qs)

pub added_none : (out : Paths) → Low (length out.vertices) out.starts → Added out out []
added_none out h = record { low = h; paths = sym (append-nil (paths_of out.vertices out.starts)) }

-- added in two steps
pub added_more : (out o q : Paths) (ps qs : List (List Vector)) → Added out o (with_points ps) → Added o q (with_points qs) → Added out q (with_points (ps ++ qs))
added_more out o q ps qs a b = record {
  low = b.low;
  paths =
      b.paths
      ∙ ap (λ (l : List (List Vector)). l ++ with_points qs) a.paths
      ∙ append_assoc (paths_of out.vertices out.starts) (with_points ps) (with_points qs)
      ∙ ap (λ (l : List (List Vector)). paths_of out.vertices out.starts ++ l) (sym (with_append ps qs));
}

-- ---- a stage whose work adds `made p` for a path p
module _ (work : ℕ → List Vector → List Vector → Result (List Vector) Refusal) (made : List Vector → List Vector)
    (adds : (room : ℕ) (p vs us : List Vector) → work room p vs ≡ Ok us → us ≡ vs ++ made p) (room startRoom : ℕ) where
  one-adds : (p : List Vector) (out o : Paths) → Low (length out.vertices) out.starts → one_path work room startRoom p out ≡ Ok o → Added out o (with_points (made p ∷ []))
  unfolding one_path opened
  one-adds p out o h e =
      let v = out.vertices in
      let s = out.starts in
      let a = next-answered (next (push startRoom s (length v)) (λ (ss : List ℕ). Ok (paths_with v ss))) (λ (q : Paths). next (work room p q.vertices) (λ (us : List Vector). Ok (closed (paths_with us q.starts)))) o e in
      let b = next-answered (push startRoom s (length v)) (λ (ss : List ℕ). Ok (paths_with v ss)) a.0 a.1 in
      let q : a.0 ≡ paths_with v (s ++ (length v ∷ [])) = (let y : paths_with v b.0 ≡ a.0 = cc in sym y ∙ ap (paths_with v) (push-answered startRoom s (length v) b.0 b.1)) in
      let c = next-answered (work room p a.0.vertices) (λ (us : List Vector). Ok (closed (paths_with us a.0.starts))) o a.2 in
      let u : c.0 ≡ v ++ made p = adds room p a.0.vertices c.0 c.1 ∙ ap (λ (x : Paths). x.vertices ++ made p) q in
      let z : closed (paths_with c.0 a.0.starts) ≡ o = (let y = c.2 in cc) in
      let g : closed (paths_with (v ++ made p) (s ++ (length v ∷ []))) ≡ o = ap₂ (λ (x : List Vector) (y : Paths). closed (paths_with x y.starts)) (sym u) (sym q) ∙ z in
      subst (λ (x : Paths). Added out x (with_points (made p ∷ []))) g (closed-adds v (made p) s h)

  each-adds : (ps : List (List Vector)) (out o : Paths) → Low (length out.vertices) out.starts → each (one_path work room startRoom) ps out ≡ Ok o → Added out o (with_points (map made ps))
  unfolding each with_points
  each-adds [] out o h e = let q : out ≡ o = cc in subst (λ (x : Paths). Added out x []) q (added_none out h)
  each-adds (p ∷ ps) out o h e =
      let a = next-answered (one_path work room startRoom p out) (each (one_path work room startRoom) ps) o e in
      let b = one-adds p out a.0 h a.1 in
      added_more out a.0 o (made p ∷ []) (map made ps) b (each-adds ps a.0 o b.low a.2)

  pub stage-made : (vs : List Vector) (ss : List ℕ) (o : Paths) → stage (one_path work) vs ss room startRoom ≡ Ok o → paths_of o.vertices o.starts ≡ with_points (map made (paths_of vs ss))
  unfolding stage paths_of
  stage-made vs ss o e = (each-adds (paths_of vs ss) no_paths o (omega arith) e).paths
