-- What the writer gives when a line, or the lines from one on, are asked for, and what it leaves in the lent bytes: document 01, "Circuit",
-- refusals 1, 2, 9 and 11.
use Rattle.refusals.specs.declared.Refusal.{Refusal}
use Rattle.std.specs.Prelude.{ℕ, zero, suc, ◌-◌, not, cond, length, get_or, take, drop, ltb, Option, Some, None, Result, Ok, Err}
use mathlib.Core.List.{List, [], ◌∷◌, ◌++◌, flatten}
use Rattle.refusals.specs.declared.Refusal.TheVariants.{Gates, LineBuffer}
use Rattle.refusals.specs.Checks.{Check, check, outcome, given}
use Rattle.refusals.specs.Numbers.{number_of}
use Rattle.dimensions.specs.declared.Dimensions.{Dimensions}
use Rattle.dimensions.specs.Sizes.{size_checks, input_wires}
use Rattle.gates.specs.Memory.{gates_of, accepted, over}
use Rattle.bristol.specs.Text.{circuit_lines}

-- 1, 2, 9: words that are no gates after the inputs
abbrev pub circuit_checks : Dimensions → List ℕ → List Check
circuit_checks d words = size_checks d ++ (check (not (accepted (input_wires d) words)) Gates ∷ [])

-- the line of a number, from 0, with its LF; past the last line no byte
abbrev pub line_at : Dimensions → List ℕ → ℕ → List ℕ
line_at d words number = get_or (circuit_lines d (gates_of words)) number []

-- 1, 2, 9, then 11: the line is longer than the lent bytes
abbrev pub line_checks : Dimensions → List ℕ → ℕ → List ℕ → List Check
line_checks d words number lent = circuit_checks d words ++ (check (ltb (length lent) (length (line_at d words number))) LineBuffer ∷ [])

-- the line's length, or that the number is past the last line, or the refusal
abbrev pub written_line : Dimensions → List ℕ → ℕ → List ℕ → Result (Option ℕ) Refusal
written_line d words number lent =
    given (outcome (line_checks d words number lent))
    (cond (ltb number (length (circuit_lines d (gates_of words)))) (Ok (Some (length (line_at d words number)))) (Ok None)) Err

-- what the line writer returns: 0, or 1, 2, 9 or 11 of "Turned back because of the input"
abbrev pub line_code : Result (Option ℕ) Refusal → ℕ
line_code (Ok (Some length)) = 0
line_code (Ok None) = 0
line_code (Err r) = number_of r

-- the length of the line; "asked past the last line it writes no byte and says so": 0
abbrev pub line_numbers : Result (Option ℕ) Refusal → List ℕ
line_numbers (Ok (Some length)) = length ∷ []
line_numbers (Ok None) = 0 ∷ []
line_numbers (Err r) = []

-- the lent bytes afterwards: the line, then the bytes that were there; refused, as they were
abbrev pub filled_line : Dimensions → List ℕ → ℕ → List ℕ → List ℕ
filled_line d words number lent = given (outcome (line_checks d words number lent)) (over (line_at d words number) lent) (λ r. lent)

-- what a request put in front of the lent bytes: as many as it says
abbrev pub front_put : Result (Option ℕ) Refusal → List ℕ → List ℕ
front_put (Ok (Some k)) bytes = take k bytes
front_put (Ok None) bytes = []
front_put (Err r) bytes = []

-- what k requests in a row put, a line each, from a number on, each with lent bytes of its own
unfoldable pub requested : Dimensions → List ℕ → (ℕ → List ℕ) → ℕ → ℕ → List ℕ
requested d words lent i zero = []
requested d words lent i (suc k) = front_put (written_line d words i (lent i)) (filled_line d words i (lent i))
    ++ requested d words lent (suc i) k

-- ---- several lines

-- as many lines, from the first on, as there is room for
unfoldable pub fitting : ℕ → List (List ℕ) → List (List ℕ)
fitting room [] = []
fitting room (l ∷ ls) = cond (ltb room (length l)) [] (l ∷ fitting (room - length l) ls)

-- the lines from a number on that fit the lent bytes
abbrev pub lines_written_from : Dimensions → List ℕ → ℕ → List ℕ → List (List ℕ)
lines_written_from d words number lent = fitting (length lent) (drop number (circuit_lines d (gates_of words)))

-- how many they are and how many bytes they take, or the line writer's refusal
abbrev pub written_lines : Dimensions → List ℕ → ℕ → List ℕ → Result (ℕ × ℕ) Refusal
written_lines d words number lent =
    given (outcome (line_checks d words number lent))
    (Ok ((length (lines_written_from d words number lent)), (length (flatten (lines_written_from d words number lent)))))
    Err

-- what the writer of several lines returns: as the line writer
abbrev pub lines_code : Result (ℕ × ℕ) Refusal → ℕ
lines_code (Ok (count, size)) = 0
lines_code (Err r) = number_of r

-- how many lines were written, and how many bytes they take
abbrev pub lines_numbers : Result (ℕ × ℕ) Refusal → List ℕ
lines_numbers (Ok (count, size)) = count ∷ (size ∷ [])
lines_numbers (Err r) = []

-- the lent bytes afterwards
abbrev pub filled_lines : Dimensions → List ℕ → ℕ → List ℕ → List ℕ
filled_lines d words number lent =
    given (outcome (line_checks d words number lent)) (over (flatten (lines_written_from d words number lent)) lent) (λ r. lent)
