-- How many records are wrong.
use Rattle.std.specs.Prelude.{Bool, cond, ℕ, zero, suc, ◌+◌}

-- 1 if a record is wrong, else 0
abbrev pub missed : Bool → ℕ
missed right = cond right 0 1

-- how many of the first n records are not right
unfoldable pub wrong_upto : (ℕ → Bool) → ℕ → ℕ
wrong_upto right zero = 0
wrong_upto right (suc n) = wrong_upto right n + missed (right n)
