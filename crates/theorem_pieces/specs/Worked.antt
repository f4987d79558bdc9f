-- Document 01's worked pieces marked P: one table, and one claim, that the definitions give what each line of it says.
use Rattle.std.specs.Prelude.{◌≡◌, List, [], ◌∷◌, map, Float}
use Rattle.floats.specs.Arith.{bits, zero_f, half_f, one_f, two_f, four_f}
use Rattle.sqrt.specs.Root.{sqrt_of}
use Rattle.geometry.specs.Vectors.{vec}
use Rattle.geometry.specs.Rays.{ray_of}
use Rattle.geometry.specs.Hits.{hit_at, no_hit}
use Rattle.geometry.specs.Boxes.{minus_one}
use Rattle.geometry.specs.declared.vector.Vector.{Vector}
use Rattle.geometry.specs.declared.ray.Ray.{Ray}
use Rattle.geometry.specs.declared.hit.Hit.{Hit}
use Rattle.solids.specs.Solids.{hit_of}
use Rattle.solids.specs.declared.solid.Solid.{Solid}
use Rattle.solids.specs.declared.solid.Solid.TheVariants.{Sphere, Cylinder, Cone, Cube, Triangle}
use Rattle.path_rdp.specs.Rdp.{simplified}

-- what is asked of a definition, and what it gives
pub data Piece : Type 0 where
  root : Float → Piece
  hit : Solid → Ray → Piece
  path : Float → List Vector → Piece

pub data PieceAnswer : Type 0 where
  number : Float → PieceAnswer
  struck : Hit → PieceAnswer
  kept : List Vector → PieceAnswer

abbrev pub given : Piece → PieceAnswer
given (root x) = number (sqrt_of x)
given (hit s r) = struck (hit_of s r)
given (path t p) = kept (simplified t p)

pub record PieceRow : Type 0 where
  pub piece : Piece
  pub outcome : PieceAnswer

abbrev line : Piece → PieceAnswer → PieceRow
line p o = record { piece = p; outcome = o }

-- ---- what the lines name
abbrev five : Float
five = bits 0x4014_0000_0000_0000

abbrev quarter : Float
quarter = bits 0x3fd0_0000_0000_0000

abbrev origin : Vector
origin = vec zero_f zero_f zero_f

-- rays down, and along -X
abbrev down : Vector → Ray
down o = ray_of o (vec zero_f zero_f minus_one)

abbrev along : Vector → Ray
along o = ray_of o (vec minus_one zero_f zero_f)

abbrev above : Vector
above = vec zero_f zero_f five

abbrev unit_sphere : Solid
unit_sphere = Sphere origin one_f

abbrev tube : Solid
tube = Cylinder one_f minus_one one_f

abbrev cube : Solid
cube = Cube (vec minus_one minus_one minus_one) (vec one_f one_f one_f)

abbrev sheet : Solid
sheet = Triangle origin (vec one_f zero_f zero_f) (vec zero_f one_f zero_f)

abbrev peak : Vector
peak = vec one_f half_f zero_f

abbrev end : Vector
end = vec two_f zero_f zero_f

-- ---- the table; floats by their bits
abbrev pub table : List PieceRow
table =
    line (root (bits 0)) (number (bits 0))
    ∷ line (root (bits 0x4022_0000_0000_0000)) (number (bits 0x4008_0000_0000_0000))
    ∷ line (root (bits 0x4000_0000_0000_0000)) (number (bits 0x3ff6_a09e_667f_3bcd))
    ∷ line (root (bits 1)) (number (bits 0x1e60_0000_0000_0000))
    ∷ line (root (bits 0x7fef_ffff_ffff_ffff)) (number (bits 0x5fef_ffff_ffff_ffff))
    ∷ line (hit unit_sphere (down above)) (struck (hit_at four_f))
    ∷ line (hit unit_sphere (down origin)) (struck (hit_at one_f))
    ∷ line (hit unit_sphere (down (vec one_f zero_f five))) (struck no_hit)
    ∷ line (hit tube (along (vec five zero_f zero_f))) (struck (hit_at four_f))
    ∷ line (hit tube (down above)) (struck no_hit)
    ∷ line (hit (Cone one_f two_f) (along (vec five zero_f one_f))) (struck (hit_at (bits 0x4012_0000_0000_0000)))
    ∷ line (hit cube (down above)) (struck (hit_at four_f))
    ∷ line (hit sheet (down (vec quarter quarter one_f))) (struck (hit_at one_f))
    ∷ line (path half_f (origin ∷ peak ∷ end ∷ [])) (kept (origin ∷ end ∷ []))
    ∷ line (path quarter (origin ∷ peak ∷ end ∷ [])) (kept (origin ∷ peak ∷ end ∷ []))
    ∷ []

-- The definitions give what each line of the table says.
abbrev pub WorkedPieces : Type 0
WorkedPieces = map (λ (l : PieceRow). given l.piece) table ≡ map (λ (l : PieceRow). l.outcome) table
