-- Document 01's square root, IEEE 754's at binary64: the f64 nearest the exact root, ties to even, from whole numbers alone, by comparing squares.
-- A positive finite x is S * 4 ^ k for one whole number k and one whole number S of 105 or 106 binary digits. Its root is R * 2 ^ k, where R is the
-- whole number nearest to the root of S, a tie going to the even one: R has 53 digits. The remainder is S - R * R. Nearest.antt says in full what "the
-- f64 nearest the exact root" is; that the root defined here is that one is `nearest-of-all` of proofs/Nearest.antt.
use Rattle.std.specs.Prelude.{ℕ, zero, suc, ◌+◌, ◌-◌, ◌*◌, ◌/◌, ◌^◌, true, false, cond, ℤ, pos, ◌-ℤ◌, nat_le, Float}
use Prim.Native.Nat.{compare}
use Rattle.std.specs.Float.{nan, inf, fin}
use Rattle.std.specs.Float.Ieee.{up, down, size, nearest, odd}

-- The largest r with r * r ≤ n, for an n below 4 ^ d, digit by digit: twice the root of n / 4, or one more.
unfoldable pub floor_root : ℕ → ℕ → ℕ
floor_root zero n = 0
floor_root (suc d) n = let r = 2 * floor_root d (n / 4) in cond (nat_le (suc r * suc r) n) (suc r) r

-- The whole number nearest to the root of n, for an n below 4 ^ 53: r, the root's whole part, or the next one up, by how the root compares with r + 1/2,
-- which is how 4 * n compares with the square of 2 * r + 1; at a tie the even one.
unfoldable pub nearest_root : ℕ → ℕ
unfolding floor_root
nearest_root n = let r = floor_root 53 n in nearest r (compare (4 * n) ((2 * r + 1) * (2 * r + 1)))

-- m * 2 ^ e in units of the square of the smallest f64, 4 ^ -1074: a whole number for every f64
abbrev pub in_units : ℕ → ℤ → ℕ
in_units m e = m * up e * 2 ^ 1074 / down e * 2 ^ 1074

-- The root of n units, in units of 2 ^ -1074, has (size n + 1) / 2 binary digits before its point. An f64 keeps 53, and this many are dropped.
abbrev pub dropped : ℕ → ℕ
dropped n = (size n + 1) / 2 - 53

-- S
abbrev pub scaled : ℕ → ℕ
scaled n = n / 4 ^ dropped n

-- The root: R * 2 ^ (dropped n) units of 2 ^ -1074
unfoldable pub sqrt_of : Float → Float
unfolding size odd nearest_root
sqrt_of nan = nan
sqrt_of (inf s) = cond s nan (inf false)
sqrt_of (fin s zero e) = fin s zero e
sqrt_of (fin true (suc m) e) = nan
sqrt_of (fin false (suc m) e) = let n = in_units (suc m) e in odd 53 false (nearest_root (scaled n)) (dropped n) 1074

-- Request (xi)'s remainder, S - R * R: 0 for a NaN, an infinity, a zero and a negative. Remainder.antt has it in the request's words.
unfoldable pub rest_of : Float → ℤ
unfolding size nearest_root
rest_of nan = pos 0
rest_of (inf s) = pos 0
rest_of (fin s zero e) = pos 0
rest_of (fin true (suc m) e) = pos 0
rest_of (fin false (suc m) e) =
    let s = scaled (in_units (suc m) e) in
    let r = nearest_root s in
    pos s -ℤ pos (r * r)
