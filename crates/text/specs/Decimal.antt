-- A number as decimal digits in ASCII, with no leading zero.
use Rattle.std.specs.Prelude.{ℕ, zero, suc, ◌+◌, ◌/◌, ◌%◌, true, false, List, [], ◌∷◌, ◌++◌, ltb}

-- with at most k digits
unfoldable pub decimal_within : ℕ → ℕ → List ℕ
decimal_within zero x = []
decimal_within (suc k) x = elim (ltb x 10) [ true ↦ (48 + x) ∷ [] | false ↦ decimal_within k (x / 10) ++ ((48 + x % 10) ∷ []) ]

-- a 64-bit number has at most twenty digits
unfoldable pub decimal : ℕ → List ℕ
unfolding decimal_within
decimal x = decimal_within 20 x
