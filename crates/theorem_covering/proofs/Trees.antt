-- The tree of an accepted scene is a tree of its solids and of their own boxes.
use Prim.Native.Nat.{ℕ, zero, suc, ◌<◌}
use mathlib.Core.Path.{◌≡◌, refl, ap, ◌∙◌}
use mathlib.Core.Logic.{◌⊎◌, inl, inr}
use mathlib.Core.List.{List, [], ◌∷◌}
use mathlib.Core.Bool.{Bool, true, false, cond}
use native.Mathlib.Omega.{arith}
use lib.ListN.{length}
use Rattle.geometry.specs.Boxes.{extend_box}
use Rattle.geometry.specs.declared.bounding_box.BBox.{BBox}
use Rattle.tree_nodes.specs.Trees.{Tree, leaf, split}
use Rattle.tree_nodes.specs.Members.{hull, HullOf, BuiltOf}
use Rattle.lists.specs.Lists.{Member}
use Rattle.lists.proofs.Members.{member-append, append-member}
use Rattle.scene_shape.specs.Shapes.{shape_box, solid_of}
use Rattle.check_parts.specs.Parts.{named_before}
use Rattle.check_parts.specs.Drawn.{unnamed, drawn}
use Rattle.check_scene.specs.Checks.{check_of}
use Rattle.scene.specs.Scenes.{Scene, entries_of}
use Rattle.check_scene.proofs.Accepted.{own-box}
use Rattle.check_sound.proofs.Sound.{accepted-sound}
use Rattle.tree_split.specs.Build.{box_at}
use Rattle.tree_build.proofs.BuiltTree.{built-tree}
use Rattle.theorem_hiding.specs.Covers.{TreeOf}
use Rattle.query_scene.specs.Queries.{boxes_left, scene_tree}
use Rattle.std.specs.Prelude.{Ok}

-- ---- a tree is built of solids by their boxes alone
module _ {S : Type 0} (f g : S → BBox) where
  hull-as : (b : BBox) (l : List S) → ((s : S) → Member s l → f s ≡ g s) → hull f b l ≡ hull g b l
  unfolding hull
  hull-as b [] h = refl
  hull-as b (s ∷ l) h = rw (h s (inl refl)) (hull-as (extend_box b (g s)) l (λ t m. h t (inr m)))

  hulled-as : (l : List S) (b : BBox) → ((s : S) → Member s l → f s ≡ g s) → HullOf f l b → HullOf g l b
  hulled-as [] b h e = e
  hulled-as (s ∷ l) b h e = e ∙ ap (λ (c : BBox). hull f c l) (h s (inl refl)) ∙ hull-as (g s) l (λ t m. h t (inr m))

  built-as : (t : Tree S) (l : List S) → ((s : S) → Member s l → f s ≡ g s) → BuiltOf f l t → BuiltOf g l t
  built-as (leaf b a ss) l h B = record { hulled = hulled-as l b h B.hulled; same = B.same }
  built-as (split b a u v) l h B = record {
    hulled = hulled-as l b h B.hulled;
    first = B.first;
    second = B.second;
    same = B.same;
    one = built-as u B.first (λ s m. h s ((B.same s).from (append-member s B.first B.second (inl m)))) B.one;
    two = built-as v B.second (λ s m. h s ((B.same s).from (append-member s B.first B.second (inr m)))) B.two;
  }

-- ---- a drawn entry is an entry
unnamed-below : (g : ℕ → Bool) (n i : ℕ) → Member i (unnamed g n) → i < n
unfolding unnamed
unnamed-below g zero i m = absurd m
unnamed-below g (suc n) i m = go (g n) (λ q. unnamed-below g n i q) (member-append i (unnamed g n) (cond (g n) [] (n ∷ [])) m)
  where
    go : (t : Bool) → (Member i (unnamed g n) → i < n) → Member i (unnamed g n) ⊎ Member i (cond t [] (n ∷ [])) → i < suc n
    go t rec (inl q) = omega (arith, rec q)
    go true rec (inr q) = absurd q
    go false rec (inr (inl e)) = omega (arith, e)
    go false rec (inr (inr q)) = absurd q

module _ (s : Scene) (n : ℕ) (is : check_of s ≡ Ok n) where
  drawn-entry : (i : ℕ) → Member i (drawn s.marks) → i < entries_of s
  drawn-entry i m = unnamed-below (named_before s.marks (entries_of s)) (entries_of s) i m

  pub scene-tree : 0 < length (drawn s.marks) → TreeOf shape_box (solid_of s.numbers s.marks) (drawn s.marks) (scene_tree s)
  scene-tree some = record {
    fine = λ i m. accepted-sound s n is i (drawn-entry i m);
    built = built-as (box_at (boxes_left s)) (λ (i : ℕ). shape_box (solid_of s.numbers s.marks i)) (scene_tree s) (drawn s.marks)
        (λ i m. own-box s n is 6144 (boxes_left s) refl i (drawn-entry i m))
        (built-tree (box_at (boxes_left s)) (drawn s.marks) some);
  }
