-- What the generator gives for dimensions, and what it leaves in the lent words (document 01, "Circuit", refusals 1, 2 and 7).
use Rattle.refusals.specs.declared.Refusal.{Refusal}
use Rattle.std.specs.Prelude.{List, [], ◌∷◌, ◌++◌, ℕ, ◌*◌, ltb, length, take, Result, Ok, Err}
use Rattle.refusals.specs.declared.Refusal.TheVariants.{GateBuffer}
use Rattle.refusals.specs.Checks.{Check, check, outcome, given}
use Rattle.refusals.specs.Numbers.{number_of}
use Rattle.dimensions.specs.declared.Dimensions.{Dimensions}
use Rattle.dimensions.specs.Sizes.{size_checks, ceiling}
use Rattle.gates.specs.Memory.{words_of, over}
use Rattle.netlist.specs.Outputs.{CarriesOut}
use Rattle.netlist.specs.Netlist.{gates_on}

-- 1, 2, then 7: fewer than three words for each gate of the ceiling
abbrev pub generator_checks : Dimensions → List ℕ → List Check
generator_checks d words = size_checks d ++ (check (ltb (length words) (3 * ceiling d)) GateBuffer ∷ [])

-- how many gates there are
abbrev pub generated : Dimensions → List ℕ → Result ℕ Refusal
generated d words = given (outcome (generator_checks d words)) (Ok (length (gates_on d))) Err

-- what the generator returns: 0, or 1, 2 or 7 of "Turned back because of the input"
abbrev pub generated_code : Result ℕ Refusal → ℕ
generated_code (Ok count) = 0
generated_code (Err r) = number_of r

-- the gates: "The generator writes its gates from the front of the lent words and says how many"
abbrev pub generated_numbers : Result ℕ Refusal → List ℕ
generated_numbers (Ok count) = count ∷ []
generated_numbers (Err r) = []

-- the words afterwards: the gates, then what was there; refused, as they were
abbrev pub written_words : Dimensions → List ℕ → List ℕ
written_words d words = given (outcome (generator_checks d words)) (over (words_of (gates_on d)) words) (λ r. words)

-- where the call is taken, the words that it says it wrote carry out the giant step
abbrev pub Carried : Dimensions → Result ℕ Refusal → List ℕ → Type 0
Carried d (Ok k) words = CarriesOut d (take (3 * k) words)
Carried d (Err r) words = Unit {0}
