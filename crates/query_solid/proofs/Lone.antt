-- A simple solid as the one entry of a scene. Assumes nothing.
use Prim.Native.Nat.{ℕ}
use native.Mathlib.Omega.{arith}
use mathlib.Core.Path.{◌≡◌, refl, sym, ap, ◌∙◌}
use mathlib.Core.Bool.{Bool, true, false, true≢false}
use mathlib.Core.List.{List, [], ◌∷◌}
use lib.ListN.{length}
use lib.Ieee.{Float}
use lib.Seq.{take_all}
use Rattle.geometry.specs.declared.vector.Vector.{Vector}
use Rattle.geometry.specs.declared.ray.Ray.{Ray}
use Rattle.geometry.specs.declared.hit.Hit.{Hit}
use Rattle.rows.specs.Rows.{row}
use Rattle.rows.specs.Entries.{numbers_of}
use Rattle.rows.specs.declared.Numbers.{Numbers}
use Rattle.solids.specs.declared.solid.Solid.{Solid}
use Rattle.scene.specs.Entries.{simple_of, is_there}
use Rattle.scene.proofs.Parts.{entry-simple}
use Rattle.scene_shape.specs.Shapes.{simple, decode, shape_of, shape_hit, shape_contains}
use Rattle.refusals.specs.declared.Refusal.{Refusal}
use Rattle.geometry.specs.Hits.{no_hit}
use Rattle.scene_shape.proofs.Shapes.{decode_is}
use Rattle.query_solid.specs.Simples.{simple_hit, simple_contains}
use Rattle.std.specs.Prelude.{Err, None, Ok, Option, Result, Some}

abbrev hit_in : Result Hit Refusal → Hit
hit_in (Ok h) = h
hit_in (Err k) = no_hit

abbrev is_at : Result Hit Refusal → Bool
is_at (Ok h) = true
is_at (Err k) = false

pub same-hit : {a : Result Hit Refusal} {h k : Hit} → a ≡ Ok k → a ≡ Ok h → h ≡ k
same-hit e f = sym (ap hit_in f) ∙ ap hit_in e

pub never-refused : {A : Type 0} {a : Result Hit Refusal} {h : Hit} {k : Refusal} → a ≡ Ok h → a ≡ Err k → A
never-refused e f = absurd (true≢false (sym (ap is_at e) ∙ ap is_at f))

-- sixteen numbers are their first row
pub first-row : (ns : List Float) → length ns ≡ 16 → row 16 0 ns ≡ ns
first-row ns l = take_all 16 ns (omega (arith, l))

module _ (kind : ℕ) (ns : List Float) (l : length ns ≡ 16) {n : Numbers} (en : n ≡ numbers_of (row 16 0 ns)) {x : Option Solid} (ex : x ≡ simple_of kind n) where
  read : x ≡ simple_of kind (numbers_of ns)
  read = ex ∙ rw (en, first-row ns l)

  module _ {s : Solid} (is : x ≡ Some s) where
    there : true ≡ is_there ns ns (kind ∷ 0 ∷ 0 ∷ 0 ∷ []) 0
    unfolding is_there
    there = rw l

    lone : decode 1 ns ns (kind ∷ 0 ∷ 0 ∷ 0 ∷ []) 0 ≡ simple s
    unfolding shape_of
    lone = decode_is 1 ns ns (kind ∷ 0 ∷ 0 ∷ 0 ∷ []) 0 (λ e. omega (arith, e)) (entry-simple ns ns (kind ∷ 0 ∷ 0 ∷ 0 ∷ []) 0 there refl (ex ∙ ap (simple_of kind) en) is)

    pub lone-hit : (r : Ray) {a : Result Hit Refusal} → a ≡ shape_hit (decode 1 ns ns (kind ∷ 0 ∷ 0 ∷ 0 ∷ []) 0) r → a ≡ Ok (simple_hit (simple_of kind (numbers_of ns)) r)
    unfolding shape_hit simple_hit
    lone-hit r e = e ∙ rw (lone, ← read, is)

    pub lone-contains : (p : Vector) (f : Float) {b : Bool} → b ≡ shape_contains (decode 1 ns ns (kind ∷ 0 ∷ 0 ∷ 0 ∷ []) 0) p f → b ≡ simple_contains (simple_of kind (numbers_of ns)) p f
    unfolding shape_contains simple_contains
    lone-contains p f e = e ∙ rw (lone, ← read, is)

  pub no-simple-hit : (r : Ray) {h : Hit} → x ≡ None → h ≡ simple_hit None r → h ≡ simple_hit (simple_of kind (numbers_of ns)) r
  no-simple-hit r is e = e ∙ rw (← read, is)

  pub no-simple-inside : (p : Vector) (f : Float) {b : Bool} → x ≡ None → b ≡ simple_contains None p f → b ≡ simple_contains (simple_of kind (numbers_of ns)) p f
  no-simple-inside p f is e = e ∙ rw (← read, is)
