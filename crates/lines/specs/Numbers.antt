-- The budget line and the dimension line: document 01, refusal 8.
-- Ask: Which bytes may a line hold, and which come after it?
use Rattle.refusals.specs.declared.Refusal.{Refusal}
use Rattle.std.specs.Prelude.{
  ℕ,
  ◌-◌,
  ◌^◌,
  Bool,
  cond,
  List,
  [],
  ◌∷◌,
  eqb,
  ltb,
  leb,
  length,
  take,
  drop,
  Option,
  Some,
  None,
  Result,
  Ok,
  Err,
}
use Rattle.refusals.specs.declared.Refusal.TheVariants.{NumberLine}
use Rattle.refusals.specs.Numbers.{number_of}
use Rattle.lexer.specs.Bytes.{run}
use Rattle.numbers.specs.Numbers.{is_digit, digits_after}

-- a number of 64 bits and the text after it, or none
pub data Field : Type 0 where
  field : ℕ → List ℕ → Field
  no_field : Field

-- a value of 64 bits
abbrev pub bounded : Option ℕ → List ℕ → Field
bounded (Some v) rest = cond (ltb v (2 ^ 64)) (field v rest) no_field
bounded None rest = no_field

-- digits, and the text after them, which is to start with the closing byte
abbrev pub closed_field : ℕ → List ℕ → List ℕ → Field
closed_field closing [] rest = no_field
closed_field closing (d ∷ ds) [] = no_field
closed_field closing (d ∷ ds) (b ∷ rest) = cond (eqb b closing) (bounded (digits_after 0 (d ∷ ds)) rest) no_field

-- one or more digits in front of a text, at most 2 ^ 64 - 1, closed by a byte
unfoldable pub field_of : ℕ → List ℕ → Field
field_of closing text = closed_field closing (take (run is_digit text) text) (drop (run is_digit text) text)

-- a line of at most 100 bytes with its LF: how much of the input is read
abbrev pub short_line : List ℕ → List ℕ → Bool
short_line input rest = leb (length input - length rest) 100

-- what a field leads to, with the text after it
abbrev pub on_field {ℓ} : {A : Type ℓ} → Field → A → (ℕ → List ℕ → A) → A
on_field no_field a f = a
on_field (field v rest) a f = f v rest

-- what the budget line leads to: digits and LF
abbrev pub on_budget {ℓ} : {A : Type ℓ} → List ℕ → A → (ℕ → A) → A
on_budget input a f = on_field (field_of 10 input) a (λ v rest. cond (short_line input rest) (f v) a)

-- the budget, or 8
abbrev pub budget_of : List ℕ → Result ℕ Refusal
budget_of input = on_budget input (Err NumberLine) Ok

-- what the budget line's reader returns: 0, or 8 of "Turned back because of the input"
abbrev pub budget_code : Result ℕ Refusal → ℕ
budget_code (Ok count) = 0
budget_code (Err r) = number_of r

-- the budget
abbrev pub budget_numbers : Result ℕ Refusal → List ℕ
budget_numbers (Ok count) = count ∷ []
budget_numbers (Err r) = []

-- what the dimension line leads to: n, left, right and, by document 02 (Public rest rules), public with single spaces and LF
abbrev pub on_dimension_line {ℓ} : {A : Type ℓ} → List ℕ → A → (ℕ → ℕ → ℕ → ℕ → A) → A
on_dimension_line input a f =
    on_field (field_of 32 input) a (λ n second.
    on_field (field_of 32 second) a (λ left third.
    on_field (field_of 32 third) a (λ right fourth.
    on_field (field_of 10 fourth) a (λ public rest. cond (short_line input rest) (f n left right public) a))))

-- the four numbers, or 8
abbrev pub dimension_line_of : List ℕ → Result (ℕ × ℕ × ℕ × ℕ) Refusal
dimension_line_of input = on_dimension_line input (Err NumberLine) (λ (a : ℕ) (b : ℕ) (c : ℕ) (d : ℕ). Ok (a, b, c, d))

-- what reading the dimension line says: 0 and its numbers, or 8
abbrev pub dimension_line_said : Result (ℕ × ℕ × ℕ × ℕ) Refusal → List ℕ
dimension_line_said (Ok (n, left, right, public)) = 0 ∷ (n ∷ (left ∷ (right ∷ (public ∷ []))))
dimension_line_said (Err r) = number_of r ∷ []
