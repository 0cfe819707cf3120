-- The line that is printed for a refusal: document 01, "Programs".
use Rattle.std.specs.Prelude.{ℕ, List, [], ◌∷◌, ◌++◌}
use Rattle.refusals.specs.Numbers.{number_of}
use Rattle.refusals.specs.declared.Refusal.{Refusal}
use Rattle.lexer.specs.Spelling.{bytes}
use Rattle.text.specs.Decimal.{decimal}

-- a line ends in LF
abbrev pub with_line_feed : List ℕ → List ℕ
with_line_feed text = text ++ (10 ∷ [])

-- a refusal's line, all that the circuit program prints of it
abbrev pub refused_line : Refusal → List ℕ
refused_line r = with_line_feed (bytes "c refused " ++ decimal (number_of r))
