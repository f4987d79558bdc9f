-- Where a path starts and ends among n points, cut down so that it is a part of them whatever the starts are.
use Rattle.std.specs.Prelude.{cond, List, ℕ, get_or, ltb}
use Rattle.rows.specs.Starts.{end_of}
use Rattle.paths.specs.declared.Range.{Range}

unfoldable pub lesser_of : ℕ → ℕ → ℕ
lesser_of a b = cond (ltb b a) b a

unfoldable pub range_of : ℕ → List ℕ → ℕ → Range
range_of n ss i = let e = lesser_of (end_of n ss i) n in record { from = lesser_of (get_or ss i 0) e; end = e }
