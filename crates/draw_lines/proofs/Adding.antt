-- Paths added one after the other: how runs join, and the loop that adds some at each turn. Assumes nothing.
use mathlib.Core.Path.{◌≡◌, refl, sym, ap, ◌∙◌, subst}
use mathlib.Core.List.{List, [], ◌∷◌, ◌++◌}
use Prim.Native.Nat.{ℕ, ◌*◌, ◌/◌, ◌≤◌}
use lib.ListN.{length}
use lib.Ieee.{Float}
use Rattle.geometry.specs.declared.vector.Vector.{Vector}
use Rattle.refusals.specs.declared.Refusal.{Refusal}
use Rattle.paths.specs.Answers.{next}
use Rattle.paths.specs.Paths.{Paths, one_path, each}
use Rattle.paths.specs.Ends.{places, held, told_both, EndsBoth}
use Rattle.paths.proofs.Ending.{both_at, both-refused, refuses-both, answers-both}
use Rattle.draw_lines.specs.Pushing.{copied, add_paths, Fit, Adds}
use Rattle.std.specs.Prelude.{Err, Ok, Result}

pub ends-both-as : {a b : Result Paths Refusal} {xs : List Float} {ss : List ℕ} {r : Result (ℕ × ℕ) Refusal} → a ≡ b → EndsBoth b xs ss r → EndsBoth a xs ss r
ends-both-as {xs = xs} {ss = ss} {r = r} e h = subst (λ (x : Result Paths Refusal). EndsBoth x xs ss r) (sym e) h

module _ (room startRoom : ℕ) where
  pub add_none : (o : Paths) → add_paths room startRoom [] o ≡ Ok o
  unfolding add_paths each
  add_none o = refl

  pub add-one : (p : List Vector) (o : Paths) → add_paths room startRoom (p ∷ []) o ≡ one_path copied room startRoom p o
  unfolding add_paths each
  add-one p o = go (one_path copied room startRoom p o)
    where
      go : (a : Result Paths Refusal) → next a (λ (q : Paths). Ok q) ≡ a
      go (Ok q) = refl
      go (Err k) = refl

  pub add-append : (ps qs : List (List Vector)) (o : Paths) → add_paths room startRoom (ps ++ qs) o ≡ next (add_paths room startRoom ps o) (add_paths room startRoom qs)
  unfolding add_paths each
  add-append [] qs o = refl
  add-append (p ∷ ps) qs o = go (λ (x : Paths). add-append ps qs x) (one_path copied room startRoom p o)
    where
      go : ((x : Paths) → add_paths room startRoom (ps ++ qs) x ≡ next (add_paths room startRoom ps x) (add_paths room startRoom qs)) → (a : Result Paths Refusal)
          → next a (add_paths room startRoom (ps ++ qs)) ≡ next (next a (add_paths room startRoom ps)) (add_paths room startRoom qs)
      go ih (Ok x) = ih x
      go ih (Err k) = refl

  next-append : (ps qs : List (List Vector)) (a : Result Paths Refusal) → next a (add_paths room startRoom (ps ++ qs)) ≡ next (next a (add_paths room startRoom ps)) (add_paths room startRoom qs)
  next-append ps qs (Ok x) = add-append ps qs x
  next-append ps qs (Err k) = refl

-- ---- runs
pub adds-refused : (ps : List (List Vector)) (xs : List Float) (ss : List ℕ) {c : Result (ℕ × ℕ) Refusal} {k : Refusal} → c ≡ Err k → Adds ps c xs ss xs ss (Err k)
adds-refused ps xs ss e = record { ends = refuses-both xs ss (rw e) }

pub adds_one : (p : List Vector) (xs : List Float) (ss : List ℕ) (ys : List Float) (us : List ℕ) {c r : Result (ℕ × ℕ) Refusal} {n m : ℕ} → c ≡ Ok (n, m)
    → EndsBoth (one_path copied (places xs) (length ss) p (held n xs m ss)) ys us r → Adds (p ∷ []) c xs ss ys us r
adds_one p xs ss ys us {n = n} {m = m} e h = record { ends = ends-both-as (rw e (add-one (places xs) (length ss) p (held n xs m ss))) h }

pub adds_then : (ps qs : List (List Vector)) (c : Result (ℕ × ℕ) Refusal) (xs : List Float) (ss : List ℕ) (ys : List Float) (us : List ℕ) (zs : List Float) (vs : List ℕ) {r t : Result (ℕ × ℕ) Refusal}
    → Adds ps c xs ss ys us r → length ys ≡ length xs → length us ≡ length ss → Adds qs r ys us zs vs t → Adds (ps ++ qs) c xs ss zs vs t
adds_then ps qs c xs ss ys us zs vs {r} {t} h kx ks w = record {
  ends =
      ends-both-as
      (next-append (places xs) (length ss) ps qs (told_both c xs ss)
      ∙ ap (λ (a : Result Paths Refusal). next a (add_paths (places xs) (length ss) qs)) (sym h.ends.is)
      ∙ ap (λ (i : ℕ). next (told_both r ys us) (add_paths (i / 3) (length ss) qs)) (sym kx)
      ∙ ap (λ (i : ℕ). next (told_both r ys us) (add_paths (places ys) i qs)) (sym ks))
      w.ends;
}

pub adds-as : (ps qs : List (List Vector)) {c : Result (ℕ × ℕ) Refusal} {xs : List Float} {ss : List ℕ} {ys : List Float} {us : List ℕ} {r : Result (ℕ × ℕ) Refusal} → Adds ps c xs ss ys us r → ps ≡ qs → Adds qs c xs ss ys us r
adds-as ps qs {c} {xs} {ss} {ys} {us} {r} h e = subst (λ (l : List (List Vector)). Adds l c xs ss ys us r) e h

module _ (xs : List Float) (ss : List ℕ) (n m : ℕ) where
  pub fit-both : n * 3 ≤ length xs → m ≤ length ss → Fit (Ok (n, m)) xs ss
  fit-both f g = (answers-both {a = Ok (held n xs m ss)} n m xs ss refl f g).fits

  pub add_nothing : (ps : List (List Vector)) → ps ≡ [] → n * 3 ≤ length xs → m ≤ length ss → EndsBoth (add_paths (places xs) (length ss) ps (held n xs m ss)) xs ss (Ok (n, m))
  add_nothing ps e f g = answers-both n m xs ss (rw e (add_none (places xs) (length ss) (held n xs m ss))) f g

  pub add-path : (ps : List (List Vector)) (p : List Vector) → ps ≡ p ∷ [] → (ys : List Float) (us : List ℕ) {r : Result (ℕ × ℕ) Refusal}
      → EndsBoth (one_path copied (places xs) (length ss) p (held n xs m ss)) ys us r → EndsBoth (add_paths (places xs) (length ss) ps (held n xs m ss)) ys us r
  add-path ps p e ys us h = ends-both-as (rw e (add-one (places xs) (length ss) p (held n xs m ss))) h

-- ---- the loop: what is left to add answers as the whole does
module _ (whole : List (List Vector)) (xs₀ : List Float) (ss₀ : List ℕ) (n₀ m₀ : ℕ) where
  pub record Adding (left : List (List Vector)) (xs : List Float) (ss : List ℕ) (n m : ℕ) : Type 0 where
    pub same : length xs ≡ length xs₀
    pub same-starts : length ss ≡ length ss₀
    pub fits : n * 3 ≤ length xs
    pub fits-starts : m ≤ length ss
    pub rest : add_paths (places xs₀) (length ss₀) left (held n xs m ss) ≡ add_paths (places xs₀) (length ss₀) whole (held n₀ xs₀ m₀ ss₀)

  pub adding-start : (left : List (List Vector)) → left ≡ whole → n₀ * 3 ≤ length xs₀ → m₀ ≤ length ss₀ → Adding left xs₀ ss₀ n₀ m₀
  adding-start left e f g = record { same = refl; same-starts = refl; fits = f; fits-starts = g; rest = rw e }

  module _ (left : List (List Vector)) (xs : List Float) (ss : List ℕ) (n m : ℕ) (h : Adding left xs ss n m) where
    module _ (ps qs : List (List Vector)) (e : left ≡ ps ++ qs) (ys : List Float) (us : List ℕ) {r : Result (ℕ × ℕ) Refusal} (w : EndsBoth (add_paths (places xs) (length ss) ps (held n xs m ss)) ys us r) where
      onward : add_paths (places xs₀) (length ss₀) whole (held n₀ xs₀ m₀ ss₀) ≡ next (add_paths (places xs) (length ss) ps (held n xs m ss)) (add_paths (places xs₀) (length ss₀) qs)
      onward =
          sym h.rest
          ∙ ap (λ (l : List (List Vector)). add_paths (places xs₀) (length ss₀) l (held n xs m ss)) e
          ∙ add-append (places xs₀) (length ss₀) ps qs (held n xs m ss)
          ∙ rw (h.same, h.same-starts)

      pub adding-turn : {a b : ℕ} → length ys ≡ length xs → length us ≡ length ss → r ≡ Ok (a, b) → Adding qs ys us a b
      adding-turn {a} {b} kx ks q = record {
        same = kx ∙ h.same;
        same-starts = ks ∙ h.same-starts;
        fits = (w.fits a b q).0;
        fits-starts = (w.fits a b q).1;
        rest = sym (onward ∙ ap (λ (t : Result Paths Refusal). next t (add_paths (places xs₀) (length ss₀) qs)) (both_at w q));
      }

      pub adding-refused : {k : Refusal} → r ≡ Err k → EndsBoth (add_paths (places xs₀) (length ss₀) whole (held n₀ xs₀ m₀ ss₀)) ys us (Err k)
      adding-refused q = refuses-both ys us (onward ∙ ap (λ (t : Result Paths Refusal). next t (add_paths (places xs₀) (length ss₀) qs)) (both-refused w q))

    pub adding-last : (ps : List (List Vector)) → left ≡ ps → (ys : List Float) (us : List ℕ) {r : Result (ℕ × ℕ) Refusal} → EndsBoth (add_paths (places xs) (length ss) ps (held n xs m ss)) ys us r
        → EndsBoth (add_paths (places xs₀) (length ss₀) whole (held n₀ xs₀ m₀ ss₀)) ys us r
    adding-last ps e ys us w =
        ends-both-as (sym h.rest ∙ ap (λ (l : List (List Vector)). add_paths (places xs₀) (length ss₀) l (held n xs m ss)) e ∙ rw (h.same, h.same-starts)) w

    pub adding-end : left ≡ [] → EndsBoth (add_paths (places xs₀) (length ss₀) whole (held n₀ xs₀ m₀ ss₀)) xs ss (Ok (n, m))
    adding-end e =
        answers-both n m xs ss
        (sym h.rest ∙ ap (λ (l : List (List Vector)). add_paths (places xs₀) (length ss₀) l (held n xs m ss)) e ∙ add_none (places xs₀) (length ss₀) (held n xs m ss))
        h.fits
        h.fits-starts
