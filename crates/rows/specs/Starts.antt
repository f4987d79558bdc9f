-- Where paths start among their points, and document 01's check of it (number 4).
use Rattle.std.specs.Prelude.{Bool, true, ◌&&◌, List, [], ◌∷◌, ℕ, ◌+◌, get_or, drop, leb, eqb}

-- the first of these starts, or the number of points if there is none
abbrev pub next_start : ℕ → List ℕ → ℕ
next_start points starts = get_or starts 0 points

-- path i ends where the next one starts, and the last one with the points
abbrev pub end_of : ℕ → List ℕ → ℕ → ℕ
end_of points starts i = next_start points (drop (i + 1) starts)

-- no start is beyond the next one, nor the last one beyond the points
unfoldable pub rising : ℕ → List ℕ → Bool
rising points [] = true
rising points (s ∷ starts) = leb s (next_start points starts) && rising points starts

-- the starts begin at 0, do not fall and do not overrun the points; with no starts there is nothing to judge
unfoldable pub good_starts : ℕ → List ℕ → Bool
good_starts points [] = true
good_starts points (s ∷ starts) = eqb s 0 && rising points (s ∷ starts)
