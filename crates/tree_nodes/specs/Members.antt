-- Which solids stand in a tree, and what it is for a tree to be built of some solids and to be well made: each node's box
-- holds the boxes of the solids below it.
use Rattle.std.specs.Prelude.{◌≡◌, ◌⊎◌, List, [], ◌∷◌, ◌++◌, ◌<◌, length}
use Rattle.geometry.specs.declared.bounding_box.BBox.{BBox}
use Rattle.geometry.specs.Boxes.{extend_box}
use Rattle.lists.specs.Lists.{Member, SameMembers}
use Rattle.geometry.specs.Limits.{Sound, Inside}
use Rattle.tree_nodes.specs.Trees.{Tree, leaf, split}

-- the solid s stands in a leaf of the tree
abbrev pub StandsIn : {S : Type 0} → S → Tree S → Type 0
StandsIn s (leaf b a ss) = Member s ss
StandsIn s (split b a u v) = StandsIn s u ⊎ StandsIn s v

-- each node's box holds the boxes of all solids below it
abbrev pub Well : {S : Type 0} → (S → BBox) → Tree S → Type 0
Well box (leaf b a ss) = record { sound : Sound b; holds : (s : _) → Member s ss → Inside (box s) b }
Well box (split b a u v) = record { sound : Sound b; holds : (s : _) → StandsIn s (split b a u v) → Inside (box s) b; one : Well box u; two : Well box v }

-- the boxes of these solids are within a million, with min ≤ max
abbrev pub Fine : {S : Type 0} → (S → BBox) → List S → Type 0
Fine {S} box l = (s : S) → Member s l → Sound (box s)

-- the box b extended by those of the solids in turn
unfoldable pub hull : {S : Type 0} → (S → BBox) → BBox → List S → BBox
hull box b [] = b
hull box b (s ∷ ss) = hull box (extend_box b (box s)) ss

-- b is the hull of the solids: the first one's box, extended by the others in turn
abbrev pub HullOf : {S : Type 0} → (S → BBox) → List S → BBox → Type 0
HullOf box [] b = ⊥
HullOf box (s ∷ ss) b = b ≡ hull box (box s) ss

-- The tree is built of the solids l: each node's box is the hull of its solids, and a split parts them, in whatever order,
-- between its children.
abbrev pub BuiltOf : {S : Type 0} → (S → BBox) → List S → Tree S → Type 0
BuiltOf box l (leaf b a ss) = record { hulled : HullOf box l b; same : SameMembers l ss }
BuiltOf {S} box l (split b a u v) = record { hulled : HullOf box l b; first : List S; second : List S; same : SameMembers l (first ++ second); one : BuiltOf box first u; two : BuiltOf box second v }

-- each leaf has solids, and each split an axis: so a node in the slices says which of the two it is
abbrev pub Sensible : {S : Type 0} → Tree S → Type 0
Sensible (leaf b a ss) = 0 < length ss
Sensible (split b a u v) = (a ≡ 0 → ⊥) × Sensible u × Sensible v
