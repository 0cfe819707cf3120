-- The functions that read a budget line, check a proof and judge a game.
-- Read: none, they have the form of `Runs`.
use Rattle.refusals.specs.declared.Refusal.{Refusal}
use Rattle.std.specs.Prelude.{ℕ, suc, Bool, true, false, not, List, [], ◌∷◌, ◌++◌, map, eqb, ltb, take, Option, Some, None, Result, Ok, Err}
use Rattle.refusals.specs.declared.Refusal.TheVariants.{Variables, RowCount, Text, NumberLine}
use Rattle.refusals.specs.declared.Refusal.TheVariants.{ProofText, NotFollowing, NoEmptyClause, GameVariables, LineVariables}
use Rattle.refusals.specs.Checks.{Check, check, outcome}
use Rattle.refusals.specs.Numbers.{code_of}
use Rattle.words.specs.declared.Row.{Row}
use Rattle.dimensions.specs.declared.Dimensions.{Dimensions}
use Rattle.dimensions.specs.Sizes.{dimensions}
use Rattle.tables.specs.Tables.{Tables, all_tables}
use Rattle.tables.specs.Rows.{rows_of}
use Rattle.tables.specs.Acceptance.{table_checks}
use Rattle.lexer.specs.Spelling.{bytes}
use Rattle.lexer.specs.Bytes.{run}
use Rattle.numbers.specs.Numbers.{is_digit}
use Rattle.lines.specs.Numbers.{budget_of, budget_code, budget_numbers}
use Rattle.excerpts.specs.Excerpts.{overlong}
use Rattle.drat.specs.Proofs.{ProofLine, all_follow, adds_empty}
use Rattle.drat.specs.Text.{proof_of, proof_checks}
use Rattle.qdimacs.specs.Text.{most_game_variables, game_text}
use Rattle.game.specs.Game.{game_answer, game_code, game_numbers}
use Rattle.lent.specs.Lent.{numbers_or}
use Rattle.demand1.specs.Demand1.{Entry}
use Rattle.demand1.specs.Named.{as_bytes, named_tables}
use Rattle.demand1.specs.Examples.{bad_tables, array}
use Rattle.demand1.specs.Texts.{named_text, header_number, head_of, overlong_text}

-- forkhemit_read_budget: the digits, and the byte after them
abbrev pub read_budget : Entry (List ℕ × List ℕ)
read_budget = record {
  call = λ (line, budget). record {
    returned = budget_code (budget_of line);
    judged = check (not (eqb (budget_code (budget_of line)) 0)) NumberLine ∷ [];
    lent = budget ∷ [];
    left = numbers_or (budget_numbers (budget_of line)) budget ∷ [];
  };
  in_bytes = λ a. a;
  numbers = 8 ∷ [];
  named = λ (line, budget). (take (suc (run is_digit line)) line, budget);
  past = λ a. [];
  examples = (bytes "17\n", array 1) ∷ (bytes "17", array 1) ∷ [];
}

-- ---- a proof

-- there is none
abbrev pub is_none : Option (List ProofLine) → Bool
is_none None = true
is_none (Some ls) = false

-- a test of its lines; none has none that fails
abbrev pub of_lines : (List ProofLine → Bool) → Option (List ProofLine) → Bool
of_lines p None = true
of_lines p (Some ls) = p ls

-- 18, 19, 20
abbrev pub lines_judged : List Row → Option (List ProofLine) → List Check
lines_judged rows proof =
    check (is_none proof) ProofText ∷ check (not (of_lines (all_follow rows) proof)) NotFollowing
    ∷ check (not (of_lines adds_empty proof)) NoEmptyClause ∷ []

-- the tables' 1, 2, 4, 3, then these
abbrev pub proof_judged : Dimensions → Tables → List ℕ → List Check
proof_judged d tables text = table_checks d tables ++ lines_judged (rows_of d tables) (proof_of d.n text)

-- (1 2), (1 -2) | (-1 2) | (-1 -2)
abbrev pub square : Dimensions
square = dimensions 2 2 1 1

abbrev pub square_tables : Tables
square_tables = all_tables (3 ∷ 0 ∷ 1 ∷ 2 ∷ []) (2 ∷ 1 ∷ []) (0 ∷ 3 ∷ [])

-- forkhemit_check_proof
abbrev pub check_proof : Entry (Dimensions × Tables × List ℕ)
check_proof = record {
  call = λ (d, tables, text). record {
    returned = code_of (outcome (proof_checks d tables text));
    judged = proof_judged d tables text;
    lent = [];
    left = [];
  };
  in_bytes = λ (d, tables, text). (as_bytes d, tables, text);
  numbers = 1 ∷ 2 ∷ 4 ∷ 3 ∷ 18 ∷ 19 ∷ 20 ∷ [];
  named = λ (d, tables, text). (d, named_tables d tables, named_text text);
  past = λ a. [];
  examples =
      (square, square_tables, bytes "1 0\n0\n") ∷ map (λ (d, tables). (d, tables, bytes "0\n")) bad_tables
      ++ (square, square_tables, bytes "1\n") ∷ (square, square_tables, bytes "0\n") ∷ (square, square_tables, bytes "1 0\n") ∷ [];
}

-- ---- a game

-- more variables than a game has
abbrev pub has_too_many : Result (ℕ × ℕ) Refusal → Bool
has_too_many (Ok (n, m)) = ltb most_game_variables n
has_too_many (Err r) = false

-- 5 where the text is overlong, the header's 1 and 2, 21, 5 for another cause, and then 22
abbrev pub game_judged : List ℕ → List Check
game_judged text =
    let number = game_code (game_answer (game_text text)) in
    check (overlong text) Text
    ∷ check (eqb (header_number (head_of 1 text)) 1) Variables
    ∷ check (eqb (header_number (head_of 1 text)) 2) RowCount
    ∷ check (has_too_many (head_of 1 text)) GameVariables
    ∷ check (eqb number 5) Text
    ∷ check (not (eqb number 0)) LineVariables
    ∷ []

-- forkhemit_game
abbrev pub judge_game : Entry (List ℕ × List ℕ)
judge_game = record {
  call = λ (text, answer). record {
    returned = game_code (game_answer (game_text text));
    judged = game_judged text;
    lent = answer ∷ [];
    left = numbers_or (game_numbers (game_answer (game_text text))) answer ∷ [];
  };
  in_bytes = λ a. a;
  numbers = 5 ∷ 1 ∷ 2 ∷ 21 ∷ 5 ∷ 22 ∷ [];
  named = λ (text, answer). (named_text text, answer);
  past = λ a. [];
  examples =
      (bytes "p cnf 2 1\ne 1 0\n1 0\n", array 3) ∷ (overlong_text, array 3) ∷ (bytes "p cnf 33 1\n", array 3)
      ∷ (bytes "p cnf 2 0\n", array 3) ∷ (bytes "p cnf 13 1\n1 0\n", array 3) ∷ (bytes "p cnf 2 1\n1\n", array 3)
      ∷ (bytes "p cnf 2 1\ne 1 1 0\n1 0\n", array 3) ∷ [];
}
