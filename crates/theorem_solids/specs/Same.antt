-- Document 01's same solid: kinds, used marks (part indices aside) and the bits of used numbers agree throughout, whatever its index and the entries around it.
-- Used numbers of an accepted scene are no NaNs, so equal floats have equal bits.
use Rattle.std.specs.Prelude.{ℕ, zero, suc, ◌*◌, ◌<◌, ◌≤◌, ◌≡◌, List, Bool, true, ◌||◌, cond, length, take, eqb, Float}
use Rattle.rows.specs.Rows.{row}
use Rattle.rows.specs.declared.Marks.{Marks}
use Rattle.scene.specs.Entries.{marks_at, striped}
use Rattle.scene_shape.specs.Shapes.{solid_of}
use Rattle.scene.specs.Scenes.{entries}

-- how many of its 16 numbers an entry uses
unfoldable pub used_numbers : ℕ → ℕ
used_numbers kind =
    cond (eqb kind 1) 4
    (cond (eqb kind 2) 3
    (cond (eqb kind 3) 2
    (cond (eqb kind 4) 6
    (cond (eqb kind 5) 9
    (cond (eqb kind 6) 16
    (cond (eqb kind 8) 3
    (cond (eqb kind 9) 2 0)))))))

-- whether it uses its detail: a cube's stripes, a cut's operation, a stripe count (document 02, ii)
unfoldable pub uses_detail : ℕ → Bool
uses_detail kind = eqb kind 4 || (eqb kind 7 || striped kind)

-- two entries alike, where R says it of their parts
pub record Alike (R : ℕ → ℕ → Type 0) (m m' : Marks) (r r' : List Float) : Type 0 where
  pub kind : m.kind ≡ m'.kind
  pub detail : uses_detail m.kind ≡ true → m.detail ≡ m'.detail
  pub numbers : take (used_numbers m.kind) r ≡ take (used_numbers m.kind) r'
  pub part : m.kind ≡ 6 → R m.first m'.first
  pub parts : m.kind ≡ 7 → R m.first m'.first × R m.second m'.second

-- alike to a depth
abbrev pub SameTo : ℕ → List Float → List ℕ → List Float → List ℕ → ℕ → ℕ → Type 0
SameTo zero ns ms ns' ms' i j = Unit
SameTo (suc d) ns ms ns' ms' i j = (i < entries ms) × (j < entries ms') × Alike (SameTo d ns ms ns' ms') (marks_at ms i) (marks_at ms' j) (row 16 i ns) (row 16 j ns')

-- document 01's same solid: entry i of the one scene and entry j of the other; no solid of an accepted scene is deeper than 8
abbrev pub SameSolid : List Float → List ℕ → List Float → List ℕ → ℕ → ℕ → Type 0
SameSolid = SameTo 8

-- The same solid is read as the same value, so it has the same hit, box and insides. Either scene has 16 numbers for each entry.
abbrev pub SameSolidReadAlike : Type 0
SameSolidReadAlike =
    (ns : List Float) (ms : List ℕ) (ns' : List Float) (ms' : List ℕ) → entries ms * 16 ≤ length ns → entries ms' * 16 ≤ length ns'
    → (i j : ℕ) → SameSolid ns ms ns' ms' i j → solid_of ns ms i ≡ solid_of ns' ms' j
