-- Headers of small texts, each with the place after its line, computed.
use mathlib.Core.Path.{◌≡◌, refl}
use mathlib.Core.List.{[], ◌∷◌}
use Prim.Native.Nat.{ℕ}
use Prim.Native.String.{String}
use Rattle.std.specs.Prelude.{Ok, Err}
use Rattle.words.specs.Sameness.{same}
use Rattle.lexer.specs.Spelling.{bytes}
use Rattle.lexer.specs.Bytes.{run, trimmed}
use Rattle.lexer.specs.Pieces.{cut, not_empty, parts_from}
use Rattle.numbers.specs.Numbers.{digits_after, decimal_of, number_read}
use Rattle.refusals.specs.declared.Refusal.{Refusal}
use Rattle.refusals.specs.declared.Refusal.TheVariants.{Variables, RowCount, Text}
use Rattle.header.specs.declared.Header.{Header}
use Rattle.header.specs.Header.{past_remarks, header_of, sizes_said}

-- in a station's text
header : String → Header
unfolding header_of past_remarks parts_from cut not_empty run trimmed same number_read decimal_of digits_after
header s = header_of 1 (bytes s)

-- in that of the public rest rules
header_of_public : String → Header
unfolding header_of past_remarks parts_from cut not_empty run trimmed same number_read decimal_of digits_after
header_of_public s = header_of 0 (bytes s)

abbrev sizes : ℕ → ℕ → ℕ → Header
sizes n m end = record { sizes = Ok (n, m); end = end }

abbrev refused : Refusal → ℕ → Header
refused r end = record { sizes = Err r; end = end }

plain : header "p cnf 32 128\n1 0" ≡ sizes 32 128 12
unfolding header
plain = refl

empty-line : header "c p cnf 9 9\n\nc\np cnf 2 1" ≡ refused Text 12
unfolding header
empty-line = refl

blanks : header "cp\nc\np\t cnf 3\t2 \r\r\n1 0" ≡ sizes 3 2 18
unfolding header
blanks = refl

remarks_alone : header "c\nc p cnf 1 1" ≡ refused Text 13
unfolding header
remarks_alone = refl

third_number : header "p cnf 1 1 1\n" ≡ refused Text 11
unfolding header
third_number = refl

no_variables : header "p cnf 0 0\n" ≡ refused Variables 9
unfolding header
no_variables = refl

minus_one : header "p cnf 1 -1\n" ≡ refused RowCount 10
unfolding header
minus_one = refl

too_many_rows : header "p cnf 1 129\n" ≡ refused RowCount 11
unfolding header
too_many_rows = refl

-- no rows: the public rest rules alone may have none
no_rows : header "p cnf 3 0" ≡ refused RowCount 9
unfolding header
no_rows = refl

no_public_rows : header_of_public "p cnf 3 0" ≡ sizes 3 0 9
unfolding header_of_public
no_public_rows = refl

-- the other limits hold for them too
too_many_public_rows : header_of_public "p cnf 3 129\n" ≡ refused RowCount 11
unfolding header_of_public
too_many_public_rows = refl

no_public_variables : header_of_public "p cnf 0 0\n" ≡ refused Variables 9
unfolding header_of_public
no_public_variables = refl

-- as numbers: 0, n and m, or the refusal's
taken-said : sizes_said (header "p cnf 3 2\n").sizes ≡ 0 ∷ (3 ∷ (2 ∷ []))
unfolding header
taken-said = refl

refused-said : sizes_said (header "p cnf 33 2\n").sizes ≡ 1 ∷ []
unfolding header
refused-said = refl
