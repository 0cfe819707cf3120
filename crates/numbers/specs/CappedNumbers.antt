-- A number as code holds it: values up to 1000, which stands for every greater one; and what code asks of digits before it reads them.
use Rattle.std.specs.Prelude.{ℕ, min, Bool, false, List, [], ◌∷◌, eqb, Option, Some, None}
use Rattle.numbers.specs.Numbers as N

-- a 0 in front of other bytes
unfoldable pub leading_zero : List ℕ → Bool
leading_zero [] = false
leading_zero (b ∷ []) = false
leading_zero (b ∷ (d ∷ ds)) = eqb b 48

-- values are held up to 1000, which stands for every greater one
abbrev pub held : ℕ → ℕ
held v = min v 1000

-- digits, or none
abbrev pub digits_held : Option ℕ → Option ℕ
digits_held (Some v) = Some (held v)
digits_held None = None

-- a number, or malformed
abbrev pub number_held : N.Number → Option (Bool × ℕ)
number_held (N.number s v) = Some (s, (held v))
number_held N.malformed = None
