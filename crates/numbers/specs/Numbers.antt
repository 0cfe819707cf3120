-- What a token means as a number: an optional minus and no leading zeros, -0 malformed (document 01, "DIMACS").
use Rattle.std.specs.Prelude.{ℕ, zero, suc, ◌+◌, ◌-◌, ◌*◌, Bool, true, false, ◌&&◌, cond, List, [], ◌∷◌, eqb, leb, Option, Some, None}

-- 0 to 9
abbrev pub is_digit : ℕ → Bool
is_digit b = leb 48 b && leb b 57

-- whether it has a minus, and its value
pub data Number : Type 0 where
  number : Bool → ℕ → Number
  malformed : Number

-- digits that follow a value read so far, however many; none where some byte is no digit
unfoldable pub digits_after : ℕ → List ℕ → Option ℕ
digits_after v [] = Some v
digits_after v (b ∷ bs) = cond (is_digit b) (digits_after (v * 10 + (b - 48)) bs) None

-- one or more digits, with no leading zero
unfoldable pub decimal_of : List ℕ → Option ℕ
decimal_of [] = None
decimal_of (b ∷ []) = digits_after 0 (b ∷ [])
decimal_of (b ∷ (d ∷ ds)) = cond (eqb b 48) None (digits_after 0 (b ∷ (d ∷ ds)))

-- a number without a minus
abbrev pub positive : Option ℕ → Number
positive (Some v) = number false v
positive None = malformed

-- -0 is malformed
abbrev pub negative : Option ℕ → Number
negative (Some zero) = malformed
negative (Some (suc v)) = number true (suc v)
negative None = malformed

-- an optional minus, then digits
unfoldable pub number_read : List ℕ → Number
number_read [] = malformed
number_read (b ∷ bs) = cond (eqb b 45) (negative (decimal_of bs)) (positive (decimal_of (b ∷ bs)))
