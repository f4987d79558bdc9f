-- Document 01's number 3: kind, operation and a cube's stripe count are among their values (document 02, iii, lets kinds 8 and 9 pass); and document 02's 14.
use Rattle.std.specs.Prelude.{ℕ, Bool, ◌&&◌, cond, leb, eqb}
use Rattle.rows.specs.declared.Marks.{Marks}
use Rattle.scene.specs.Entries.{stripe_count}

unfoldable pub is_kind : ℕ → Bool
is_kind kind = leb 1 kind && leb kind 9

-- 1 to 1,000 stripes
unfoldable pub is_stripes : ℕ → Bool
is_stripes count = leb 1 count && leb count 1000

-- a cube's detail is its stripes, a cut's is its operation, 0 to 3; another kind has none
unfoldable pub known : Marks → Bool
known m = cond (eqb m.kind 4) (is_stripes m.detail) (cond (eqb m.kind 7) (leb m.detail 3) (is_kind m.kind))

-- document 02's number 14 refuses a stripe count of a cylinder or a cone, open or closed, above 360
unfoldable pub few_stripes : Marks → Bool
few_stripes m = leb (stripe_count m) 360
