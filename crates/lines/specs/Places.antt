-- Places in a line, and a line a field at a time. The crate's own functions go by them.
use Rattle.refusals.specs.declared.Refusal.{Refusal}
use Rattle.std.specs.Prelude.{ℕ, ◌-◌, cond, List, length, drop, Result, Option, Ok, Err, Some, None}
use Rattle.lines.specs.Numbers.{Field, field, no_field, field_of, short_line, on_field}
use Rattle.refusals.specs.declared.Refusal.TheVariants.{NumberLine}

-- the place of a field's rest in the line
abbrev pub end_of_field : List ℕ → Field → Option (ℕ × ℕ)
end_of_field line (field v rest) = Some (v, (length line - length rest))
end_of_field line no_field = None

-- the field from a place on
abbrev pub field_end_at : List ℕ → ℕ → ℕ → Option (ℕ × ℕ)
field_end_at line at closing = end_of_field line (field_of closing (drop at line))

-- what the budget line's one field leads to
abbrev pub budget_from : List ℕ → Field → Result ℕ Refusal
budget_from input f = on_field f (Err NumberLine)
    (λ v rest. cond (short_line input rest) (Ok v) (Err NumberLine))

-- what the dimension line comes to by its fourth field
abbrev pub fourth_from : List ℕ → ℕ → ℕ → ℕ → Field → Result (ℕ × ℕ × ℕ × ℕ) Refusal
fourth_from input n left right f =
    on_field f (Err NumberLine) (λ public rest. cond (short_line input rest) (Ok (n, left, right, public))
    (Err NumberLine))

-- by its third field
abbrev pub third_from : List ℕ → ℕ → ℕ → Field → Result (ℕ × ℕ × ℕ × ℕ) Refusal
third_from input n left f = on_field f (Err NumberLine) (λ right rest. fourth_from input n left right (field_of 10 rest))

-- by its second
abbrev pub second_from : List ℕ → ℕ → Field → Result (ℕ × ℕ × ℕ × ℕ) Refusal
second_from input n f = on_field f (Err NumberLine) (λ left rest. third_from input n left (field_of 32 rest))

-- by its first
abbrev pub first_from : List ℕ → Field → Result (ℕ × ℕ × ℕ × ℕ) Refusal
first_from input f = on_field f (Err NumberLine) (λ n rest. second_from input n (field_of 32 rest))
