-- Paths added to others, read back, moved and appended. Assumes nothing.
use mathlib.Core.Path.{◌≡◌, refl, sym, ap, ap₂, ◌∙◌}
use mathlib.Core.List.{List, [], ◌∷◌, ◌++◌, map, map-append, append_assoc, append-nil}
use Prim.Native.Nat.{ℕ, ◌+◌, ◌≤◌}
use native.Mathlib.Omega.{arith}
use lib.ListN.{length, drop, length-append, length-map}
use lib.Seq.{slice, take_all, take_at, take-append-le, drop_at}
use Rattle.geometry.specs.declared.vector.Vector.{Vector}
use Rattle.rows.specs.Starts.{next_start}
use Rattle.matrix.specs.Matrices.{mul_position}
use Rattle.matrix.specs.declared.Matrix.{Matrix}
use Rattle.paths.specs.Paths.{Paths, paths_with, no_paths, paths_of}
use Rattle.draw_collect.specs.Collect.{moved_from}
use Rattle.path_append.specs.Append.{shifted}
use Rattle.theorem_parts.specs.Following.{followed}
use Rattle.theorem_parts.proofs.Adders.{more, after}

-- ---- the paths read back
abbrev Low : ℕ → List ℕ → Type 0
Low n [] = 0 ≤ n
Low n (s ∷ ss) = (s ≤ n) × Low n ss

low-more : (n m : ℕ) (ss : List ℕ) → n ≤ m → Low n ss → Low m (ss ++ (n ∷ []))
low-more n m [] l h = (l, omega arith)
low-more n m (s ∷ ss) l h = (omega (arith, h.0), low-more n m ss l h.1)

low-next : (n : ℕ) (ss : List ℕ) → Low n ss → next_start n ss ≤ n
low-next n [] h = omega arith
low-next n (s ∷ ss) h = h.0

next_more : (n m : ℕ) (ss : List ℕ) → next_start m (ss ++ (n ∷ [])) ≡ next_start n ss
next_more n m [] = refl
next_more n m (s ∷ ss) = refl

paths-more : (vs ws : List Vector) (ss : List ℕ) → Low (length vs) ss → paths_of (vs ++ ws) (ss ++ (length vs ∷ [])) ≡ paths_of vs ss ++ (ws ∷ [])
unfolding paths_of
paths-more vs ws [] h =
    let e : slice (length vs) (length (vs ++ ws)) (vs ++ ws) ≡ ws = ap (drop (length vs)) (take_all (length (vs ++ ws)) (vs ++ ws) (omega arith)) ∙ drop_at vs ws (length vs) refl in
    ap (λ (l : List Vector). l ∷ []) e
paths-more vs ws (s ∷ ss) h =
    let e : slice s (next_start (length (vs ++ ws)) (ss ++ (length vs ∷ []))) (vs ++ ws) ≡ slice s (next_start (length vs) ss) vs
    = ap (λ (n : ℕ). slice s n (vs ++ ws)) (next_more (length vs) (length (vs ++ ws)) ss) ∙ ap (drop s) (take-append-le (next_start (length vs) ss) vs ws (low-next (length vs) ss h.1)) in
    ap₂ (λ (l : List Vector) (ls : List (List Vector)). l ∷ ls) e (paths-more vs ws ss h.1)

read-from : (o : Paths) (ps : List (List Vector)) → Low (length o.vertices) o.starts → paths_of (after o ps).vertices (after o ps).starts ≡ paths_of o.vertices o.starts ++ ps
read-from o [] h = sym (append-nil (paths_of o.vertices o.starts))
read-from o (p ∷ ps) h =
    read-from (more o p) ps (low-more (length o.vertices) (length (o.vertices ++ p)) o.starts (omega (arith, length-append o.vertices p)) h)
    ∙ ap (λ (l : List (List Vector)). l ++ ps) (paths-more o.vertices p o.starts h)
    ∙ append_assoc (paths_of o.vertices o.starts) (p ∷ []) ps

pub read_back : (ps : List (List Vector)) → paths_of (after no_paths ps).vertices (after no_paths ps).starts ≡ ps
unfolding paths_of
read_back ps = read-from no_paths ps (omega arith)

-- ---- appended
follow-more : (p q : Paths) (w : List Vector) → followed p (more q w) ≡ more (followed p q) w
unfolding followed
follow-more p q w =
    let n = length p.vertices in
    let k : length q.vertices + n ≡ length (p.vertices ++ q.vertices) = omega (arith, length-append p.vertices q.vertices) in
    ap₂ paths_with (sym (append_assoc p.vertices q.vertices w))
    (ap (λ (l : List ℕ). p.starts ++ l) (map-append (λ (s : ℕ). s + n) q.starts (length q.vertices ∷ [])) ∙ sym (append_assoc p.starts (shifted n q.starts) ((length q.vertices + n) ∷ []))
    ∙ ap (λ (i : ℕ). (p.starts ++ shifted n q.starts) ++ (i ∷ [])) k)

pub follow-after : (p q : Paths) (ps : List (List Vector)) → followed p (after q ps) ≡ after (followed p q) ps
follow-after p q [] = refl
follow-after p q (w ∷ ps) = follow-after p (more q w) ps ∙ ap (λ (x : Paths). after x ps) (follow-more p q w)

pub follow-none : (p : Paths) → followed p no_paths ≡ p
unfolding followed
follow-none p = ap₂ paths_with (append-nil p.vertices) (append-nil p.starts)

pub follow-laid : (p : Paths) (ps : List (List Vector)) → followed p (after no_paths ps) ≡ after p ps
follow-laid p ps = follow-after p no_paths ps ∙ ap (λ (x : Paths). after x ps) (follow-none p)

-- ---- moved
module _ (m : Matrix) where
  abbrev pub moved : List (List Vector) → List (List Vector)
  moved ps = map (map (mul_position m)) ps

  -- the points behind the first are moved
  module _ (a : List Vector) where
    move-from : (b : List Vector) (ss : List ℕ) (ps : List (List Vector)) → moved_from m (length a) (after (paths_with (a ++ b) ss) ps) ≡ after (paths_with (a ++ map (mul_position m) b) ss) (moved ps)
    unfolding moved_from
    move-from b ss [] = ap₂ (λ (x y : List Vector). paths_with (x ++ map (mul_position m) y) ss) (take_at a b (length a) refl) (drop_at a b (length a) refl)
    move-from b ss (p ∷ ps) =
        let k : length (a ++ b) ≡ length (a ++ map (mul_position m) b) = omega (arith, length-append a b, length-append a (map (mul_position m) b), length-map b (mul_position m)) in
        ap (λ (l : List Vector). moved_from m (length a) (after (paths_with l (ss ++ (length (a ++ b) ∷ []))) ps)) (append_assoc a b p)
        ∙ move-from (b ++ p) (ss ++ (length (a ++ b) ∷ [])) ps
        ∙ ap₂ (λ (l : List Vector) (n : ℕ). after (paths_with l (ss ++ (n ∷ []))) (moved ps)) (ap (λ (l : List Vector). a ++ l) (map-append (mul_position m) b p) ∙ sym (append_assoc a (map (mul_position m) b) (map (mul_position m) p))) k

  pub move-after : (o : Paths) (ps : List (List Vector)) → moved_from m (length o.vertices) (after o ps) ≡ after o (moved ps)
  move-after o ps =
      ap (λ (l : List Vector). moved_from m (length o.vertices) (after (paths_with l o.starts) ps)) (sym (append-nil o.vertices))
      ∙ move-from o.vertices [] o.starts ps
      ∙ ap (λ (l : List Vector). after (paths_with l o.starts) (moved ps)) (append-nil o.vertices)

  -- as many points and starts
  moved-long : (o o' : Paths) (ps : List (List Vector)) → length o'.vertices ≡ length o.vertices → length o'.starts ≡ length o.starts
      → (length (after o' (moved ps)).vertices ≡ length (after o ps).vertices) × (length (after o' (moved ps)).starts ≡ length (after o ps).starts)
  moved-long o o' [] h k = (h, k)
  moved-long o o' (p ∷ ps) h k =
      moved-long (more o p) (more o' (map (mul_position m) p)) ps
      (omega (arith, h, length-append o.vertices p, length-append o'.vertices (map (mul_position m) p), length-map p (mul_position m)))
      (omega (arith, k, length-append o.starts (length o.vertices ∷ []), length-append o'.starts (length o'.vertices ∷ [])))

  pub length_moved : (o : Paths) (ps : List (List Vector)) → (length (after o (moved ps)).vertices ≡ length (after o ps).vertices) × (length (after o (moved ps)).starts ≡ length (after o ps).starts)
  length_moved o ps = moved-long o o ps refl refl
