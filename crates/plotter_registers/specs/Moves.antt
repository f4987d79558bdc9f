-- What request (xiv) promises of a move, and of what changes: the statements that `../proofs/Moving.antt` and `../proofs/Keeping.antt` prove.
use Rattle.std.specs.Prelude.{◌≡◌, true, false, cond, ◌⊎◌, ℕ, zero, suc, ◌+◌, ◌-◌, ◌<◌, ◌≤◌, max, eqb, ltb, length, Ok}
use Rattle.plotter_registers.specs.declared.Position.{Position}
use Rattle.plotter_registers.specs.declared.Registers.{Registers}
use Rattle.plotter_registers.specs.Plotter.{byte_at, home, initial, busy, goal, past_sheet, judged, after_write, step_of}

-- n steps, and no write
unfoldable pub steps : ℕ → Registers → Registers
steps zero r = r
steps (suc n) r = steps n (step_of r)

-- |a − b|; a difference below 0 is 0 here
unfoldable pub apart : ℕ → ℕ → ℕ
apart a b = (a - b) + (b - a)

-- "the larger axis distance"
unfoldable pub larger_distance : Position → Position → ℕ
larger_distance p q = max (apart p.x q.x) (apart p.y q.y)

-- "an accepted move": home, or a go that is not past the sheet. The code's registers have eight bytes by their type.
pub record Move (r : Registers) (c : ℕ) : Type 0 where
  pub eight : length r.bytes ≡ 8
  pub accepted : judged r 0 c ≡ Ok tt
  pub kind : (c ≡ 3) ⊎ ((c ≡ 4) × (past_sheet (goal r) ≡ false))

abbrev pub destination : Registers → ℕ → Position
destination r c = cond (eqb c 3) home (goal r)

-- "as many steps as the larger axis distance", and "one step if that is 0"
abbrev pub duration : Registers → ℕ → ℕ
duration r c = max 1 (larger_distance r.pen (destination r c))

-- After an accepted move, n steps and no further write: busy exactly if n is less than the duration. So busy is clear after that many steps, and "not sooner".
abbrev pub BusyUntil : Type 0
BusyUntil = (r : Registers) (c : ℕ) → Move r c → (n : ℕ) → busy (steps n (after_write r 0 c)) ≡ ltb n (duration r c)

-- The pen is then where it was to go.
abbrev pub PenArrives : Type 0
PenArrives = (r : Registers) (c : ℕ) → Move r c → (n : ℕ) → duration r c ≤ n → (steps n (after_write r 0 c)).pen ≡ destination r c

-- "A move's target is fixed when its command is accepted": no write while busy changes it, and no step.
abbrev pub TargetFixed : Type 0
TargetFixed = (r : Registers) → ((k v : ℕ) → busy r ≡ true → (after_write r k v).target ≡ r.target) × ((step_of r).target ≡ r.target)

-- "only by accepted writes and by steps while busy"
abbrev pub ChangedOnly : Type 0
ChangedOnly = (r : Registers) → ((k v : ℕ) → (judged r k v ≡ Ok tt → ⊥) → after_write r k v ≡ r) × (busy r ≡ false → step_of r ≡ r)

-- A command leaves bytes 2 to 7, so "home leaves bytes 2 to 5"; a step leaves all but the status and pending.
abbrev pub BytesLeft : Type 0
BytesLeft = (r : Registers) (k : ℕ) → 1 < k → ((v : ℕ) → byte_at k (after_write r 0 v) ≡ byte_at k r) × (k < 7 → byte_at k (step_of r) ≡ byte_at k r)

abbrev pub OnSheet : Position → Type 0
OnSheet p = (p.x ≤ 8410) × (p.y ≤ 5940)

-- Pen and target are on the sheet at first, and no write and no step takes them off it.
abbrev pub StaysOnSheet : Type 0
StaysOnSheet = (OnSheet initial.pen × OnSheet initial.target) × ((r : Registers) → OnSheet r.pen → OnSheet r.target →
    ((k v : ℕ) → OnSheet (after_write r k v).pen × OnSheet (after_write r k v).target) × (OnSheet (step_of r).pen × OnSheet (step_of r).target))
