-- Lines of document 01 and what is just beside them, computed.
use mathlib.Core.Path.{◌≡◌, refl}
use Prim.Native.Nat.{ℕ, ◌-◌, ◌^◌}
use Prim.Native.String.{String}
use Rattle.std.specs.Prelude.{Result, Ok, Err}
use Rattle.refusals.specs.declared.Refusal.{Refusal}
use Rattle.refusals.specs.declared.Refusal.TheVariants.{NumberLine}
use Rattle.lexer.specs.Spelling.{bytes}
use Rattle.lexer.specs.Bytes.{run}
use Rattle.numbers.specs.Numbers.{digits_after}
use Rattle.lines.specs.Numbers.{field_of, budget_of, dimension_line_of}

-- ---- the budget line

budget_in : String → Result ℕ Refusal
unfolding field_of run digits_after
budget_in s = budget_of (bytes s)

rest-not-read : budget_in "9\nx" ≡ Ok 9
unfolding budget_in
rest-not-read = refl

leading_zeros : budget_in "0009\n" ≡ Ok 9
unfolding budget_in
leading_zeros = refl

greatest : budget_in "18446744073709551615\n" ≡ Ok (2 ^ 64 - 1)
unfolding budget_in
greatest = refl

too_great : budget_in "18446744073709551616\n" ≡ Err NumberLine
unfolding budget_in
too_great = refl

no_digit : budget_in "\n" ≡ Err NumberLine
unfolding budget_in
no_digit = refl

no_line_feed : budget_in "9" ≡ Err NumberLine
unfolding budget_in
no_line_feed = refl

carriage_return : budget_in "9\r\n" ≡ Err NumberLine
unfolding budget_in
carriage_return = refl

-- ---- the dimension line

size_in : String → Result (ℕ × ℕ × ℕ × ℕ) Refusal
unfolding field_of run digits_after
size_in s = dimension_line_of (bytes s)

four_numbers : size_in "2 1 1 0\n" ≡ Ok (2, 1, 1, 0)
unfolding size_in
four_numbers = refl

two-spaces : size_in "2  1 1 0\n" ≡ Err NumberLine
unfolding size_in
two-spaces = refl

a_tab : size_in "2\t1 1 0\n" ≡ Err NumberLine
unfolding size_in
a_tab = refl

three_numbers : size_in "2 1 1\n" ≡ Err NumberLine
unfolding size_in
three_numbers = refl

five_numbers : size_in "2 1 1 0 1\n" ≡ Err NumberLine
unfolding size_in
five_numbers = refl
