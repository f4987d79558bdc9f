-- Stages that add paths to others: what is added hangs neither on what stands before it nor on the room, where the room is enough. Assumes nothing.
use mathlib.Core.Path.{◌≡◌, refl, sym, ap, ap₂, ◌∙◌, subst}
use mathlib.Core.List.{List, [], ◌∷◌, ◌++◌, append_assoc, append-nil}
use Prim.Native.Nat.{ℕ, ◌+◌, ◌-◌, ◌≤◌}
use native.Mathlib.Omega.{arith}
use borrow.Author.Tests.{lt-ltb, eq-eqb, ne_eqb}
use lib.ListN.{length, length-append}
use lib.Seq.{get_or_at}
use Rattle.geometry.specs.declared.vector.Vector.{Vector}
use Rattle.paths.specs.Answers.{next}
use Rattle.paths.specs.Paths.{Paths, paths_with, push, push_all, opened, closed_starts, closed, one_path, each, with_points}
use Rattle.paths.proofs.Adding.{same_answer, next-answered, push-answered, push-fits}
use Rattle.paths.proofs.Runs.{front-snoc}
use Rattle.std.specs.Prelude.{Ok, Result}
use Rattle.refusals.specs.declared.Refusal.{Refusal}

-- ---- points: what a function that pushes some adds
pub record Pushing (g : ℕ → List Vector → Result (List Vector) Refusal) (room : ℕ) (vs us : List Vector) : Type 0 where
  pub what : List Vector
  pub is : us ≡ vs ++ what
  pub again : (room' : ℕ) (vs' : List Vector) → room + length vs' ≤ room' + length vs → g room' vs' ≡ Ok (vs' ++ what)
  pub fits : length vs ≤ room → length us ≤ room

abbrev pub Pusher : (ℕ → List Vector → Result (List Vector) Refusal) → Type 0
Pusher g = (room : ℕ) (vs us : List Vector) → g room vs ≡ Ok us → Pushing g room vs us

-- an element more, whatever it is
pub push-again : {A : Type 0} (room : ℕ) (xs : List A) (x : A) {ys : List A} → push room xs x ≡ Ok ys
    → (room' : ℕ) (xs' : List A) (x' : A) → room + length xs' ≤ room' + length xs → push room' xs' x' ≡ Ok (xs' ++ (x' ∷ []))
unfolding push
push-again room xs x {ys} e room' xs' x' h =
    let k : length ys ≡ length (xs ++ (x ∷ [])) = ap length (push-answered room xs x ys e) in
    rw (lt-ltb (length xs') room' (omega (arith, push-fits room xs x ys e, k, length-append xs (x ∷ []), h)))

pub pushes-none : Pusher (λ (room : ℕ) (vs : List Vector). Ok vs)
pushes-none room vs us e = record {
  what = [];
  is = sym (same_answer e) ∙ sym (append-nil vs);
  again = λ room' vs' h. ap Ok (sym (append-nil vs'));
  fits = λ h. subst (λ (l : List Vector). length l ≤ room) (same_answer e) h;
}

pub pushes-one : (v : Vector) → Pusher (λ (room : ℕ) (vs : List Vector). push room vs v)
pushes-one v room vs us e = record {
  what = v ∷ [];
  is = push-answered room vs v us e;
  again = λ room' vs' h. push-again room vs v e room' vs' v h;
  fits = λ h. push-fits room vs v us e;
}

pub pushes-then : (g k : ℕ → List Vector → Result (List Vector) Refusal) → Pusher g → Pusher k → Pusher (λ (room : ℕ) (vs : List Vector). next (g room vs) (k room))
pushes-then g k G K room vs us e =
    let a = next-answered (g room vs) (k room) us e in
    let b = G room vs a.0 a.1 in
    let c = K room a.0 us a.2 in
    record {
      what = b.what ++ c.what;
      is = c.is ∙ ap (λ (l : List Vector). l ++ c.what) b.is ∙ append_assoc vs b.what c.what;
      again = λ room' vs' h.
          ap (λ (x : Result (List Vector) Refusal). next x (k room')) (b.again room' vs' h)
          ∙ c.again room' (vs' ++ b.what) (omega (arith, h, length-append vs' b.what, length-append vs b.what, ap length b.is))
          ∙ ap Ok (append_assoc vs' b.what c.what);
      fits = λ h. c.fits (b.fits h);
    }

pub pushes_all : (ws : List Vector) → Pusher (λ (room : ℕ) (vs : List Vector). push_all room vs ws)
unfolding push_all
pushes_all [] = pushes-none
pushes_all (w ∷ ws) = pushes-then (λ (room : ℕ) (vs : List Vector). push room vs w) (λ (room : ℕ) (vs : List Vector). push_all room vs ws) (pushes-one w) (pushes_all ws)

-- ---- paths: one more, and some more
abbrev pub more : Paths → List Vector → Paths
more o w = paths_with (o.vertices ++ w) (o.starts ++ (length o.vertices ∷ []))

abbrev pub after : Paths → List (List Vector) → Paths
after o [] = o
after o (p ∷ ps) = after (more o p) ps

pub after-append : (o : Paths) (ps qs : List (List Vector)) → after o (ps ++ qs) ≡ after (after o ps) qs
after-append o [] qs = refl
after-append o (p ∷ ps) qs = after-append (more o p) ps qs

-- as much is left in the second as in the first
abbrev pub Roomy : ℕ → ℕ → Paths → ℕ → ℕ → Paths → Type 0
Roomy r s o r' s' o' = (r + length o'.vertices ≤ r' + length o.vertices) × (s + length o'.starts ≤ s' + length o.starts)

-- the same paths more keep that
pub roomy-more : (r s : ℕ) (o : Paths) (r' s' : ℕ) (o' : Paths) (p : List Vector) → Roomy r s o r' s' o' → Roomy r s (more o p) r' s' (more o' p)
roomy-more r s o r' s' o' p h = (
  omega (arith, h.0, length-append o.vertices p, length-append o'.vertices p),
  omega (arith, h.1, length-append o.starts (length o.vertices ∷ []), length-append o'.starts (length o'.vertices ∷ [])),
)

pub roomy_after : (r s : ℕ) (o : Paths) (r' s' : ℕ) (o' : Paths) (ps : List (List Vector)) → Roomy r s o r' s' o' → Roomy r s (after o ps) r' s' (after o' ps)
roomy_after r s o r' s' o' [] h = h
roomy_after r s o r' s' o' (p ∷ ps) h = roomy_after r s (more o p) r' s' (more o' p) ps (roomy-more r s o r' s' o' p h)

abbrev pub Within : ℕ → ℕ → Paths → Type 0
Within r s o = (length o.vertices ≤ r) × (length o.starts ≤ s)

pub record Adding (f : ℕ → ℕ → Paths → Result Paths Refusal) (r s : ℕ) (o q : Paths) : Type 0 where
  pub what : List (List Vector)
  pub is : q ≡ after o what
  pub again : (r' s' : ℕ) (o' : Paths) → Roomy r s o r' s' o' → f r' s' o' ≡ Ok (after o' what)
  pub fits : Within r s o → Within r s q

abbrev pub Adder : (ℕ → ℕ → Paths → Result Paths Refusal) → Type 0
Adder f = (r s : ℕ) (o q : Paths) → f r s o ≡ Ok q → Adding f r s o q

pub adds_none : Adder (λ (r s : ℕ) (o : Paths). Ok o)
adds_none r s o q e = record { what = []; is = sym (same_answer e); again = λ r' s' o' h. refl; fits = λ h. subst (Within r s) (same_answer e) h }

pub adds_then : (f g : ℕ → ℕ → Paths → Result Paths Refusal) → Adder f → Adder g → Adder (λ (r s : ℕ) (o : Paths). next (f r s o) (g r s))
adds_then f g F G r s o q e =
    let a = next-answered (f r s o) (g r s) q e in
    let b = F r s o a.0 a.1 in
    let c = G r s a.0 q a.2 in
    record {
      what = b.what ++ c.what;
      is = c.is ∙ ap (λ (x : Paths). after x c.what) b.is ∙ sym (after-append o b.what c.what);
      again = λ r' s' o' h.
          ap (λ (x : Result Paths Refusal). next x (g r' s')) (b.again r' s' o' h)
          ∙ c.again r' s' (after o' b.what) (subst (λ (x : Paths). Roomy r s x r' s' (after o' b.what)) (sym b.is) (roomy_after r s o r' s' o' b.what h))
          ∙ ap Ok (sym (after-append o' b.what c.what));
      fits = λ h. c.fits (b.fits h);
    }

-- each path in turn
pub adds-each : (f : ℕ → ℕ → List Vector → Paths → Result Paths Refusal) → ((p : List Vector) → Adder (λ (r s : ℕ). f r s p)) → (ps : List (List Vector)) → Adder (λ (r s : ℕ). each (f r s) ps)
unfolding each
adds-each f F [] = adds_none
adds-each f F (p ∷ ps) = adds_then (λ (r s : ℕ). f r s p) (λ (r s : ℕ). each (f r s) ps) (F p) (adds-each f F ps)

-- ---- a path opened and closed
pub opened-more : (s : ℕ) (o q : Paths) → opened s o ≡ Ok q → q ≡ paths_with o.vertices (o.starts ++ (length o.vertices ∷ []))
unfolding opened
opened-more s o q e =
    let a = next-answered (push s o.starts (length o.vertices)) (λ (ss : List ℕ). Ok (paths_with o.vertices ss)) q e in
    sym (same_answer a.2) ∙ ap (paths_with o.vertices) (push-answered s o.starts (length o.vertices) a.0 a.1)

pub opened-again : (s : ℕ) (o : Paths) {q : Paths} → opened s o ≡ Ok q → (s' : ℕ) (o' : Paths) → s + length o'.starts ≤ s' + length o.starts
    → opened s' o' ≡ Ok (paths_with o'.vertices (o'.starts ++ (length o'.vertices ∷ [])))
unfolding opened
opened-again s o {q} e s' o' h =
    let a = next-answered (push s o.starts (length o.vertices)) (λ (ss : List ℕ). Ok (paths_with o.vertices ss)) q e in
    ap (λ (x : Result (List ℕ) Refusal). next x (λ (ss : List ℕ). Ok (paths_with o'.vertices ss))) (push-again s o.starts (length o.vertices) a.1 s' o'.starts (length o'.vertices) h)

pub opened-fits : (s : ℕ) (o q : Paths) → opened s o ≡ Ok q → length q.starts ≤ s
unfolding opened
opened-fits s o q e =
    let a = next-answered (push s o.starts (length o.vertices)) (λ (ss : List ℕ). Ok (paths_with o.vertices ss)) q e in
    subst (λ (x : Paths). length x.starts ≤ s) (same_answer a.2) (push-fits s o.starts (length o.vertices) a.0 a.1)

-- closed: a path that got no points vanishes
pub closed-more : (o : Paths) (w : List Vector) → closed (more o w) ≡ after o (with_points (w ∷ []))
unfolding closed closed_starts with_points
closed-more o [] =
    let n : length (o.starts ++ (length o.vertices ∷ [])) - 1 ≡ length o.starts = simp length-append (omega arith) in
    rw (
      append-nil o.vertices,
      n,
      get_or_at o.starts (length o.vertices) [] 0 (length o.starts) refl,
      eq-eqb (length o.vertices) (length o.vertices) refl,
      lt-ltb 0 (length (o.starts ++ (length o.vertices ∷ []))) (simp length-append (omega arith)),
      front-snoc o.starts (length o.vertices),
    )
closed-more o (v ∷ w) =
    let n : length (o.starts ++ (length o.vertices ∷ [])) - 1 ≡ length o.starts = simp length-append (omega arith) in
    rw (
      n,
      get_or_at o.starts (length o.vertices) [] 0 (length o.starts) refl,
      ne_eqb (length o.vertices) (length (o.vertices ++ (v ∷ w))) (λ q. omega (arith, length-append o.vertices (v ∷ w))),
      lt-ltb 0 (length (o.starts ++ (length o.vertices ∷ []))) (simp length-append (omega arith)),
    )

-- closing takes no room
pub closed-fits : (r s : ℕ) (o : Paths) (w : List Vector) → length (o.vertices ++ w) ≤ r → length (o.starts ++ (length o.vertices ∷ [])) ≤ s → Within r s (closed (more o w))
unfolding with_points
closed-fits r s o [] h k =
    subst (Within r s) (sym (closed-more o [])) (omega (arith, h, length-append o.vertices []), omega (arith, k, length-append o.starts (length o.vertices ∷ [])))
closed-fits r s o (v ∷ w) h k = subst (Within r s) (sym (closed-more o (v ∷ w))) (h, k)

-- a path that is opened, worked and closed
pub adds_one : (work : ℕ → List Vector → List Vector → Result (List Vector) Refusal) (p : List Vector) → Pusher (λ (room : ℕ). work room p) → Adder (λ (r s : ℕ). one_path work r s p)
unfolding one_path
adds_one work p W r s o q e =
    let a = next-answered (opened s o) (λ (u : Paths). next (work r p u.vertices) (λ (vs : List Vector). Ok (closed (paths_with vs u.starts)))) q e in
    let n = opened-more s o a.0 a.1 in
    let b = next-answered (work r p a.0.vertices) (λ (vs : List Vector). Ok (closed (paths_with vs a.0.starts))) q a.2 in
    let c = W r a.0.vertices b.0 b.1 in
    let v : a.0.vertices ≡ o.vertices = ap (λ (x : Paths). x.vertices) n in
    let u : b.0 ≡ o.vertices ++ c.what = c.is ∙ ap (λ (l : List Vector). l ++ c.what) v in
    let z : closed (more o c.what) ≡ q = ap₂ (λ (l : List Vector) (x : Paths). closed (paths_with l x.starts)) (sym u) (sym n) ∙ same_answer b.2 in
    record {
      what = with_points (c.what ∷ []);
      is = sym z ∙ closed-more o c.what;
      again = λ r' s' o' h.
          ap (λ (x : Result Paths Refusal). next x (λ (u : Paths). next (work r' p u.vertices) (λ (vs : List Vector). Ok (closed (paths_with vs u.starts))))) (opened-again s o a.1 s' o' h.1)
          ∙ ap (λ (x : Result (List Vector) Refusal). next x (λ (vs : List Vector). Ok (closed (paths_with vs (o'.starts ++ (length o'.vertices ∷ [])))))) (c.again r' o'.vertices (omega (arith, h.0, ap length v)))
          ∙ ap Ok (closed-more o' c.what);
      fits = λ h.
          subst (Within r s) z
          (closed-fits r s o c.what
          (omega (arith, c.fits (omega (arith, h.0, ap length v)), ap length u))
          (subst (λ (x : Paths). length x.starts ≤ s) n (opened-fits s o a.0 a.1)));
    }
