-- What the circuit program prints for a line of standard input: document 01, "Programs", refusals 8, then 1, 2, 7.
-- Ask: Does the circuit program answer 8, then 1, 2, 7?
use Rattle.refusals.specs.declared.Refusal.{Refusal}
use Rattle.std.specs.Prelude.{ℕ, List, [], ◌∷◌, ◌++◌, ltb, Result, Ok, Err}
use Rattle.refusals.specs.Checks.{Check, check, outcome, given}
use Rattle.refusals.specs.declared.Refusal.TheVariants.{GateBuffer}
use Rattle.lines.specs.Numbers.{dimension_line_of}
use Rattle.dimensions.specs.declared.Dimensions.{Dimensions}
use Rattle.dimensions.specs.Sizes.{dimensions, size_checks, ceiling}
use Rattle.text.specs.Refused.{refused_line}
use Rattle.bristol.specs.Text.{circuit_text}
use Rattle.netlist.specs.Netlist.{gates_on}

-- 1, 2, then 7: a ceiling above 5,461 gates
abbrev pub list_checks : Dimensions → List Check
list_checks d = size_checks d ++ (check (ltb 5461 (ceiling d)) GateBuffer ∷ [])

-- the text of the circuit of some dimensions, or the refusal's line alone
abbrev pub text_for : Dimensions → List ℕ
text_for d = given (outcome (list_checks d)) (circuit_text d (gates_on d)) refused_line

-- what is printed for four numbers, or for the lack of them
abbrev pub size_text : Result (ℕ × ℕ × ℕ × ℕ) Refusal → List ℕ
size_text (Ok (n, left, right, public)) = text_for (dimensions n left right public)
size_text (Err r) = refused_line r

-- what is printed for a line
abbrev pub listed : List ℕ → List ℕ
listed line = size_text (dimension_line_of line)
