-- A solid's own lines, or else its outline. Assumes nothing.
use mathlib.Core.Path.{◌≡◌, refl, sym, ap, ◌∙◌}
use mathlib.Core.Bool.{Bool, true, false}
use mathlib.Core.List.{List, [], ◌∷◌, ◌++◌, map, append-nil}
use Prim.Native.Nat.{ℕ, suc, ◌+◌, ◌/◌, ◌≤◌, ◌<◌}
use lib.ListN.{length}
use lib.Ieee.{Float}
use Rattle.geometry.specs.declared.vector.Vector.{Vector}
use Rattle.solids.specs.declared.solid.Solid.{Solid}
use Rattle.solids.specs.declared.solid.Solid.TheVariants.{Sphere, Cylinder, Cone, Cube, Triangle, ClosedCylinder, ClosedCone}
use Rattle.draw_arcs.specs.Stances.{Placement}
use Rattle.paths.specs.Paths.{paths_of}
use Rattle.paths.specs.Ends.{places, held, EndsBoth}
use Rattle.draw_lines.specs.Lines.{owned_by, own_paths}
use Rattle.draw_lines.specs.Pushing.{add_paths, Adds}
use Rattle.draw_solids.specs.Lines.{solid_paths}
use Rattle.draw_solids.specs.Stripes.{degrees_from, stripe_degrees, round_striped}
use Rattle.draw_solids.specs.declared.Flank.{Flank}
use Rattle.draw_solids.specs.declared.Flank.TheVariants.{Upright, Slanted}
use Rattle.draw_lines.proofs.Owning.{ownLeft, own_turn, own-end, own-none, own-one}
use Rattle.draw_lines.proofs.Adding.{adds_then, adds-as}
use Rattle.draw_outlines.specs.Outlines.{outline_of}
use Rattle.draw_shown.specs.Shown.{or_outline, shown_paths, has_paths, no_stripes, stripeless}
use Rattle.std.specs.Prelude.{Ok, Result}
use Rattle.refusals.specs.declared.Refusal.{Refusal}

-- ---- the loop over the owners
pub record Owning (starts owners : List ℕ) (i j : ℕ) : Type 0 where
  pub same : (vs : List Vector) → has_paths (ownLeft i vs starts owners j) ≡ has_paths (own_paths i (paths_of vs starts) owners)

module _ (starts owners : List ℕ) (i : ℕ) where
  pub owning-start : Owning starts owners i 0
  owning-start = record { same = λ vs. refl }

  module _ (j : ℕ) (h : Owning starts owners i j) where
    pub owning-turn : j < length starts → {t : Bool} → t ≡ owned_by owners j i → t ≡ false → Owning starts owners i (j + 1)
    owning-turn l e f = record {
      same = λ vs. ap has_paths (sym (own_turn i vs starts owners j l ∙ ap (λ (p : List (List Vector)). p ++ ownLeft i vs starts owners (j + 1)) (own-none i vs starts owners j e f))) ∙ h.same vs;
    }

    pub owning-found : j < length starts → {t : Bool} → t ≡ owned_by owners j i → t ≡ true → (vs : List Vector) → true ≡ has_paths (own_paths i (paths_of vs starts) owners)
    unfolding has_paths
    owning-found l e f vs = sym (ap has_paths (own_turn i vs starts owners j l ∙ ap (λ (p : List (List Vector)). p ++ ownLeft i vs starts owners (j + 1)) (own-one i vs starts owners j e f))) ∙ h.same vs

    pub owning-none : length starts ≤ j → (vs : List Vector) → false ≡ has_paths (own_paths i (paths_of vs starts) owners)
    unfolding has_paths
    owning-none l vs = sym (ap has_paths (own-end i vs starts owners j l)) ∙ h.same vs

-- ---- what is shown
first-degree : (g : ℕ → List Vector) (step n : ℕ) → has_paths (map g (degrees_from step (suc n) 0)) ≡ true
unfolding degrees_from has_paths
first-degree g step n = refl

module _ (f : Flank) (k : ℕ) where
  unstriped : no_stripes k ≡ true → round_striped f k ≡ []
  unfolding round_striped stripe_degrees no_stripes
  unstriped h = rw h

  striped : no_stripes k ≡ false → has_paths (round_striped f k) ≡ true
  unfolding round_striped stripe_degrees no_stripes
  striped h = rw h (first-degree _ (360 / k) 359)

has-after : (ps qs : List (List Vector)) → has_paths qs ≡ true → has_paths (ps ++ qs) ≡ true
unfolding has_paths
has-after [] qs h = h
has-after (p ∷ ps) qs h = refl

has-before : (ps qs : List (List Vector)) → has_paths ps ≡ true → has_paths (ps ++ qs) ≡ true
unfolding has_paths
has-before [] qs h = cc
has-before (p ∷ ps) qs h = refl

module _ (t : Placement) where
  kept-empty : (s : Solid) → outline_of t s ≡ [] → (ps : List (List Vector)) → or_outline t s ps ≡ ps
  unfolding or_outline
  kept-empty s e [] = e
  kept-empty s e (p ∷ ps) = refl

  own-kept : (s : Solid) (ps : List (List Vector)) → has_paths ps ≡ true → or_outline t s ps ≡ ps
  unfolding or_outline has_paths
  own-kept s [] h = cc
  own-kept s (p ∷ ps) h = refl

  outlined : (s : Solid) (own : List (List Vector)) → has_paths own ≡ false → or_outline t s own ≡ own ++ outline_of t s
  unfolding or_outline has_paths
  outlined s [] h = refl
  outlined s (p ∷ ps) h = cc

  bare-outlined : (s : Solid) (f : Flank) (k : ℕ) (own : List (List Vector)) → no_stripes k ≡ true → has_paths own ≡ false
      → (round_striped f k ++ own) ++ outline_of t s ≡ or_outline t s (round_striped f k ++ own)
  bare-outlined s f k own g h = rw (unstriped f k g) (sym (outlined s own h))

  module _ (detail : ℕ) where
    pub shown-own : (s : Solid) (own : List (List Vector)) → has_paths own ≡ true → solid_paths s detail own ≡ shown_paths t s detail own
    unfolding shown_paths solid_paths outline_of
    shown-own (Sphere c r) own h = sym (own-kept (Sphere c r) own h)
    shown-own (Cylinder r z0 z1) own h = sym (own-kept (Cylinder r z0 z1) (round_striped (Upright r z0 z1) detail ++ own) (has-after (round_striped (Upright r z0 z1) detail) own h))
    shown-own (Cone r k) own h = sym (own-kept (Cone r k) (round_striped (Slanted r k) detail ++ own) (has-after (round_striped (Slanted r k) detail) own h))
    shown-own (Cube p q) own h = sym (kept-empty (Cube p q) refl (solid_paths (Cube p q) detail own))
    shown-own (Triangle p q w) own h = sym (kept-empty (Triangle p q w) refl (solid_paths (Triangle p q w) detail own))
    shown-own (ClosedCylinder r z0 z1) own h = sym (own-kept (ClosedCylinder r z0 z1) (round_striped (Upright r z0 z1) detail ++ own) (has-after (round_striped (Upright r z0 z1) detail) own h))
    shown-own (ClosedCone r k) own h = sym (own-kept (ClosedCone r k) (round_striped (Slanted r k) detail ++ own) (has-after (round_striped (Slanted r k) detail) own h))

    pub shown-striped : (s : Solid) (own : List (List Vector)) → stripeless s detail ≡ false → solid_paths s detail own ≡ shown_paths t s detail own
    unfolding shown_paths solid_paths stripeless
    shown-striped (Sphere c r) own h = cc
    shown-striped (Cylinder r z0 z1) own h = sym (own-kept (Cylinder r z0 z1) (round_striped (Upright r z0 z1) detail ++ own) (has-before (round_striped (Upright r z0 z1) detail) own (striped (Upright r z0 z1) detail h)))
    shown-striped (Cone r k) own h = sym (own-kept (Cone r k) (round_striped (Slanted r k) detail ++ own) (has-before (round_striped (Slanted r k) detail) own (striped (Slanted r k) detail h)))
    shown-striped (Cube p q) own h = cc
    shown-striped (Triangle p q w) own h = cc
    shown-striped (ClosedCylinder r z0 z1) own h = sym (own-kept (ClosedCylinder r z0 z1) (round_striped (Upright r z0 z1) detail ++ own) (has-before (round_striped (Upright r z0 z1) detail) own (striped (Upright r z0 z1) detail h)))
    shown-striped (ClosedCone r k) own h = sym (own-kept (ClosedCone r k) (round_striped (Slanted r k) detail ++ own) (has-before (round_striped (Slanted r k) detail) own (striped (Slanted r k) detail h)))

    pub shown-outline : (s : Solid) (own : List (List Vector)) → has_paths own ≡ false → stripeless s detail ≡ true → solid_paths s detail own ++ outline_of t s ≡ shown_paths t s detail own
    unfolding shown_paths solid_paths stripeless
    shown-outline (Sphere c r) own h g = sym (outlined (Sphere c r) own h)
    shown-outline (Cylinder r z0 z1) own h g = bare-outlined (Cylinder r z0 z1) (Upright r z0 z1) detail own g h
    shown-outline (Cone r k) own h g = bare-outlined (Cone r k) (Slanted r k) detail own g h
    shown-outline (Cube p q) own h g = unfold outline_of in append-nil (solid_paths (Cube p q) detail own) ∙ sym (kept-empty (Cube p q) refl (solid_paths (Cube p q) detail own))
    shown-outline (Triangle p q w) own h g = unfold outline_of in append-nil (solid_paths (Triangle p q w) detail own) ∙ sym (kept-empty (Triangle p q w) refl (solid_paths (Triangle p q w) detail own))
    shown-outline (ClosedCylinder r z0 z1) own h g = bare-outlined (ClosedCylinder r z0 z1) (Upright r z0 z1) detail own g h
    shown-outline (ClosedCone r k) own h g = bare-outlined (ClosedCone r k) (Slanted r k) detail own g h

    -- the code's three ways out
    module _ (s : Solid) (own : List (List Vector)) (xs : List Float) (ss : List ℕ) (n m : ℕ) (ys : List Float) (us : List ℕ) {c : Result (ℕ × ℕ) Refusal}
        (w : EndsBoth (add_paths (places xs) (length ss) (solid_paths s detail own) (held n xs m ss)) ys us c) {o : Bool} (e : o ≡ has_paths own) where
      before : Adds (solid_paths s detail own) (Ok (n, m)) xs ss ys us c
      before = record { ends = w }

      pub shows-own : o ≡ true → EndsBoth (add_paths (places xs) (length ss) (shown_paths t s detail own) (held n xs m ss)) ys us c
      shows-own f = (adds-as (solid_paths s detail own) (shown_paths t s detail own) before (shown-own s own (sym e ∙ f))).ends

      pub shows-striped : {b : Bool} → b ≡ stripeless s detail → b ≡ false → EndsBoth (add_paths (places xs) (length ss) (shown_paths t s detail own) (held n xs m ss)) ys us c
      shows-striped d g = (adds-as (solid_paths s detail own) (shown_paths t s detail own) before (shown-striped s own (sym d ∙ g))).ends

      pub shows-outline : o ≡ false → {b : Bool} → b ≡ stripeless s detail → b ≡ true → length ys ≡ length xs → length us ≡ length ss
          → (zs : List Float) (vs : List ℕ) {d : Result (ℕ × ℕ) Refusal} → Adds (outline_of t s) c ys us zs vs d
          → EndsBoth (add_paths (places xs) (length ss) (shown_paths t s detail own) (held n xs m ss)) zs vs d
      shows-outline f d g k l zs vs h =
          (adds-as (solid_paths s detail own ++ outline_of t s) (shown_paths t s detail own)
          (adds_then (solid_paths s detail own) (outline_of t s) (Ok (n, m)) xs ss ys us zs vs before k l h) (shown-outline s own (sym e ∙ f) (sym d ∙ g))).ends
