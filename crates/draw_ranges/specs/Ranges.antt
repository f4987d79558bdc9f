-- A range of n entries, cut down to those that there are.
use Rattle.std.specs.Prelude.{ℕ, ◌-◌}
use Rattle.paths.specs.Ranges.{lesser_of}
use Rattle.draw_ranges.specs.declared.EntryRange.{EntryRange}

-- those from number first on, `many` of them as far as there are any
unfoldable pub range_within : ℕ → ℕ → ℕ → EntryRange
range_within first many n = let i = lesser_of first n in record { first = i; many = lesser_of many (n - i) }
