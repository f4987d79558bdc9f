-- A tree that is built of some solids has each of them, and no other, in a leaf, and each node's box holds the boxes below it.
-- Assumes nothing.
use mathlib.Core.Path.{refl, sym, subst}
use mathlib.Core.Logic.{◌⊎◌, inl, inr}
use mathlib.Core.List.{List, [], ◌∷◌}
use Rattle.geometry.specs.declared.bounding_box.BBox.{BBox}
use Rattle.geometry.specs.Boxes.{extend_box}
use Rattle.geometry.specs.Limits.{Sound, Inside}
use Rattle.geometry.proofs.Nested.{inside-refl, inside-trans, Extended, extend-holds}
use Rattle.lists.proofs.Members.{member-append, append-member}
use Rattle.tree_nodes.specs.Trees.{Tree, leaf, split}
use Rattle.tree_nodes.specs.Members.{StandsIn, Well, Fine, hull, HullOf, BuiltOf}
use Rattle.lists.specs.Lists.{Member}

module _ {S : Type 0} (box : S → BBox) where
  -- ---- the hull
  record Hull (b : BBox) (ss : List S) (h : BBox) : Type 0 where
    sound : Sound h
    start : Inside b h
    each : (s : S) → Member s ss → Inside (box s) h

  hull-holds : (ss : List S) (b : BBox) → Fine box ss → Sound b → Hull b ss (hull box b ss)
  unfolding hull
  hull-holds [] b F B = record { sound = B; start = inside-refl b B; each = λ s h. absurd h }
  hull-holds (x ∷ ss) b F B = go (extend-holds b (box x) B (F x (inl refl))) (hull-holds ss (extend_box b (box x)) (λ s i. F s (inr i)))
    where
      go : Extended b (box x) (extend_box b (box x)) → (Sound (extend_box b (box x)) → Hull (extend_box b (box x)) ss (hull box (extend_box b (box x)) ss)) → Hull b (x ∷ ss) (hull box (extend_box b (box x)) ss)
      go e k =
          let h = k e.sound in
          let H = hull box (extend_box b (box x)) ss in
          record {
            sound = h.sound;
            start = inside-trans b (extend_box b (box x)) H e.one h.start;
            each = λ s i. elim i [
              | inl p ↦ subst (λ (y : S). Inside (box y) H) p (inside-trans (box x) (extend_box b (box x)) H e.two h.start)
              | inr j ↦ h.each s j
            ];
          }

  record Around (l : List S) (b : BBox) : Type 0 where
    sound : Sound b
    each : (s : S) → Member s l → Inside (box s) b

  around : (l : List S) (b : BBox) → Fine box l → HullOf box l b → Around l b
  around [] b F h = absurd h
  around (x ∷ ss) b F h =
      let k = hull-holds ss (box x) (λ s i. F s (inr i)) (F x (inl refl)) in
      subst (λ (c : BBox). Around (x ∷ ss) c) (sym h) (record {
        sound = k.sound;
        each = λ s i. elim i [ inl p ↦ subst (λ (y : S). Inside (box y) (hull box (box x) ss)) p k.start | inr j ↦ k.each s j ];
      })

  -- ---- every solid, and no other, is below
  pub built-below : (x : Tree S) (l : List S) → BuiltOf box l x → (s : S) → Member s l → StandsIn s x
  built-below (leaf b a ss) l B s i = (B.same s).to i
  built-below (split b a u v) l B s i = elim (member-append s B.first B.second ((B.same s).to i)) [ inl j ↦ inl (built-below u B.first B.one s j) | inr j ↦ inr (built-below v B.second B.two s j) ]

  pub below-built : (x : Tree S) (l : List S) → BuiltOf box l x → (s : S) → StandsIn s x → Member s l
  below-built (leaf b a ss) l B s i = (B.same s).from i
  below-built (split b a u v) l B s (inl i) = (B.same s).from (append-member s B.first B.second (inl (below-built u B.first B.one s i)))
  below-built (split b a u v) l B s (inr i) = (B.same s).from (append-member s B.first B.second (inr (below-built v B.second B.two s i)))

  -- ---- each node's box holds the boxes below it
  pub built-well : (x : Tree S) (l : List S) → Fine box l → BuiltOf box l x → Well box x
  built-well (leaf b a ss) l F B =
      let r = around l b F B.hulled in
      record { sound = r.sound; holds = λ s i. r.each s ((B.same s).from i) }
  built-well (split b a u v) l F B =
      let r = around l b F B.hulled in
      let all : (s : S) → Member s B.first ⊎ Member s B.second → Sound (box s) = λ s i. F s ((B.same s).from (append-member s B.first B.second i)) in
      record {
        sound = r.sound;
        holds = λ s i. r.each s (below-built (split b a u v) l B s i);
        one = built-well u B.first (λ s i. all s (inl i)) B.one;
        two = built-well v B.second (λ s i. all s (inr i)) B.two;
      }
