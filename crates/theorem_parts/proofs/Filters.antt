-- The filter adds the pieces of a path, whatever stands before them. Assumes nothing.
use mathlib.Core.Path.{◌≡◌, refl, sym, ap, ◌∙◌, subst}
use mathlib.Core.List.{List, [], ◌∷◌, ◌++◌, append_assoc, append-nil}
use Prim.Native.Nat.{ℕ, ◌+◌, ◌-◌, ◌≤◌}
use native.Mathlib.Omega.{arith}
use lib.ListN.{length, length-append}
use Rattle.geometry.specs.declared.vector.Vector.{Vector}
use Rattle.paths.specs.Answers.{next}
use Rattle.paths.specs.Paths.{Paths, paths_with, push, opened, closed, with_points}
use Rattle.paths.proofs.Adding.{no_answer, same_answer, next-answered}
use Rattle.path_filter.specs.Filter.{stepped, filtered_from, path_filter}
use Rattle.theorem_parts.proofs.Adders.{pushes-one, more, after, after-append, Roomy, roomy_after, Within, Adder, opened-more, opened-again, opened-fits, closed-more, closed-fits}
use Rattle.std.specs.Prelude.{Err, None, Ok, Option, Result, Some}
use Rattle.refusals.specs.declared.Refusal.{Refusal}

-- The filter's work on an open path w after the paths o: what it leaves closed, and open again.
pub record Opening (f : ℕ → ℕ → Paths → Result Paths Refusal) (r s : ℕ) (o : Paths) (w : List Vector) (q : Paths) : Type 0 where
  pub what : List (List Vector)
  pub last : List Vector
  pub is : q ≡ more (after o what) last
  pub again : (r' s' : ℕ) (o' : Paths) → Roomy r s o r' s' o' → f r' s' (more o' w) ≡ Ok (more (after o' what) last)
  pub fits : Within r s (more o w) → Within r s q

none_more : (o : Paths) → more o [] ≡ paths_with o.vertices (o.starts ++ (length o.vertices ∷ []))
none_more o = ap (λ (l : List Vector). paths_with l (o.starts ++ (length o.vertices ∷ []))) (append-nil o.vertices)

step-opens : (t : Result (Option Vector) Refusal) (r s : ℕ) (o : Paths) (w : List Vector) (q : Paths) → stepped r s t (more o w) ≡ Ok q → Opening (λ (r s : ℕ). stepped r s t) r s o w q
unfolding stepped
step-opens (Ok (Some v)) r s o w q e =
    let a = next-answered (push r (o.vertices ++ w) v) (λ (vs : List Vector). Ok (paths_with vs (o.starts ++ (length o.vertices ∷ [])))) q e in
    let b = pushes-one v r (o.vertices ++ w) a.0 a.1 in
    record {
      what = [];
      last = w ++ b.what;
      is = sym (same_answer a.2) ∙ ap (λ (l : List Vector). paths_with l (o.starts ++ (length o.vertices ∷ []))) (b.is ∙ append_assoc o.vertices w b.what);
      again = λ r' s' o' h.
          ap (λ (x : Result (List Vector) Refusal). next x (λ (vs : List Vector). Ok (paths_with vs (o'.starts ++ (length o'.vertices ∷ [])))))
          (b.again r' (o'.vertices ++ w) (omega (arith, h.0, length-append o.vertices w, length-append o'.vertices w)))
          ∙ ap (λ (l : List Vector). Ok (paths_with l (o'.starts ++ (length o'.vertices ∷ [])))) (append_assoc o'.vertices w b.what);
      fits = λ h. subst (Within r s) (same_answer a.2) (b.fits h.0, h.1);
    }
step-opens (Ok None) r s o w q e =
    let c = closed-more o w in
    let n = opened-more s (closed (more o w)) q e in
    record {
      what = with_points (w ∷ []);
      last = [];
      is = n ∙ ap (λ (x : Paths). paths_with x.vertices (x.starts ++ (length x.vertices ∷ []))) c ∙ sym (none_more (after o (with_points (w ∷ []))));
      again = λ r' s' o' h.
          ap (opened s') (closed-more o' w)
          ∙ opened-again s (closed (more o w)) e s' (after o' (with_points (w ∷ [])))
          (subst (λ (x : Paths). s + length (after o' (with_points (w ∷ []))).starts ≤ s' + length x.starts) (sym c) (roomy_after r s o r' s' o' (with_points (w ∷ [])) h).1)
          ∙ ap Ok (sym (none_more (after o' (with_points (w ∷ [])))));
      fits = λ h.
          let i = closed-fits r s o w h.0 h.1 in
          (subst (λ (x : Paths). length x.vertices ≤ r) (sym n) i.0, opened-fits s (closed (more o w)) q e);
    }
step-opens (Err k) r s o w q e = no_answer k e

module _ (test : Vector → Result (Option Vector) Refusal) where
  from-opens : (vs : List Vector) (r s : ℕ) (o : Paths) (w : List Vector) (q : Paths) → filtered_from test r s vs (more o w) ≡ Ok q → Opening (λ (r s : ℕ). filtered_from test r s vs) r s o w q
  unfolding filtered_from
  from-opens [] r s o w q e = record {
    what = [];
    last = w;
    is = sym (same_answer e);
    again = λ r' s' o' h. refl;
    fits = λ h. subst (Within r s) (same_answer e) h;
  }
  from-opens (v ∷ vs) r s o w q e =
      let a = next-answered (stepped r s (test v) (more o w)) (filtered_from test r s vs) q e in
      let b = step-opens (test v) r s o w a.0 a.1 in
      let c = from-opens vs r s (after o b.what) b.last q (ap (filtered_from test r s vs) (sym b.is) ∙ a.2) in
      record {
        what = b.what ++ c.what;
        last = c.last;
        is = c.is ∙ ap (λ (x : Paths). more x c.last) (sym (after-append o b.what c.what));
        again = λ r' s' o' h.
            ap (λ (x : Result Paths Refusal). next x (filtered_from test r' s' vs)) (b.again r' s' o' h)
            ∙ c.again r' s' (after o' b.what) (roomy_after r s o r' s' o' b.what h)
            ∙ ap (λ (x : Paths). Ok (more x c.last)) (sym (after-append o' b.what c.what));
        fits = λ h. c.fits (subst (Within r s) b.is (b.fits h));
      }

  pub adds-filtered : (p : List Vector) → Adder (λ (r s : ℕ). path_filter test r s p)
  unfolding path_filter
  adds-filtered p r s o q e =
      let a = next-answered (opened s o) (λ (u : Paths). next (filtered_from test r s p u) (λ (x : Paths). Ok (closed x))) q e in
      let n : a.0 ≡ more o [] = opened-more s o a.0 a.1 ∙ sym (none_more o) in
      let b = next-answered (filtered_from test r s p a.0) (λ (x : Paths). Ok (closed x)) q a.2 in
      let c = from-opens p r s o [] b.0 (ap (filtered_from test r s p) (sym n) ∙ b.1) in
      let z : q ≡ closed (more (after o c.what) c.last) = sym (same_answer b.2) ∙ ap closed c.is in
      record {
        what = c.what ++ with_points (c.last ∷ []);
        is = z ∙ closed-more (after o c.what) c.last ∙ sym (after-append o c.what (with_points (c.last ∷ [])));
        again = λ r' s' o' h.
            ap (λ (x : Result Paths Refusal). next x (λ (u : Paths). next (filtered_from test r' s' p u) (λ (x : Paths). Ok (closed x)))) (opened-again s o a.1 s' o' h.1 ∙ ap Ok (sym (none_more o')))
            ∙ ap (λ (x : Result Paths Refusal). next x (λ (x : Paths). Ok (closed x))) (c.again r' s' o' h)
            ∙ ap Ok (closed-more (after o' c.what) c.last ∙ sym (after-append o' c.what (with_points (c.last ∷ []))));
        fits = λ h.
            let i = c.fits (omega (arith, h.0, length-append o.vertices []), subst (λ (x : Paths). length x.starts ≤ s) n (opened-fits s o a.0 a.1)) in
            let j = subst (Within r s) c.is i in
            subst (Within r s) (sym z) (closed-fits r s (after o c.what) c.last j.0 j.1);
      }
