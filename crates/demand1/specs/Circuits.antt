-- The functions on circuits.
-- Read: the first entry.
use Rattle.std.specs.Prelude.{ℕ, ◌+◌, ◌*◌, ◌/◌, List, [], ◌∷◌, ◌++◌, map, length, take, drop}
use Rattle.refusals.specs.Checks.{outcome}
use Rattle.refusals.specs.Numbers.{code_of}
use Rattle.dimensions.specs.declared.Dimensions.{Dimensions}
use Rattle.dimensions.specs.Sizes.{dimensions, ceiling, state_wire_count, input_wires}
use Rattle.tables.specs.Tables.{Tables, all_tables}
use Rattle.state.specs.State.{fresh}
use Rattle.gates.specs.Memory.{bytes_of}
use Rattle.wires.specs.Layout.{state_bits}
use Rattle.wires.specs.Packing.{pack_checks, packed}
use Rattle.two_pass.specs.Evaluation.{evaluation_checks, filled_wires}
use Rattle.readback.specs.Reading.{read_checks, read_back}
use Rattle.netlist.specs.Netlist.{gates_on}
use Rattle.generator.specs.Generation.{generator_checks, generated, generated_code, generated_numbers, written_words}
use Rattle.repeats.specs.Repeating as Repeating
use Rattle.repeats.specs.Repeating.{repeat_checks}
use Rattle.solver.specs.Entries.{solved_code, solved_numbers}
use Rattle.whole_budget.specs.WholeBudget as Whole
use Rattle.whole_budget.specs.WholeBudget.{whole_checks, solved_whole}
use Rattle.codes.specs.Codes.{as_byte}
use Rattle.stored.specs.Words.{run_in}
use Rattle.lent.specs.Lent.{numbers_or}
use Rattle.host_circuits.specs.Circuits.{read_stored}
use Rattle.host_repeats.specs.Repeats.{repeat_in, repeat_stored, repeat_numbers}
use Rattle.demand1.specs.Demand1.{Entry}
use Rattle.demand1.specs.Named.{as_bytes, named_tables}
use Rattle.demand1.specs.Examples.{two, rows, bad_sizes, bad_tables, fresh_words, array}

-- one variable and two rows, whose ceiling is 512 gates
abbrev pub one : Dimensions
one = dimensions 1 1 1 0

abbrev pub one_rows : Tables
one_rows = all_tables (1 ∷ 0 ∷ []) (0 ∷ 1 ∷ []) []

-- forkhemit_generate: three words for each gate of the ceiling
abbrev pub generate : Entry (Dimensions × List ℕ × List ℕ)
generate = record {
  call = λ (d, gates, count). record {
    returned = generated_code (generated d gates);
    judged = generator_checks d gates;
    lent = gates ∷ count ∷ [];
    left = written_words d gates ∷ numbers_or (generated_numbers (generated d gates)) count ∷ [];
  };
  in_bytes = λ (d, gates, count). (as_bytes d, gates, count);
  numbers = 1 ∷ 2 ∷ 7 ∷ [];
  named = λ (d, gates, count). (d, take (3 * ceiling d) gates, count);
  past = λ (d, gates, count). drop (3 * ceiling d) gates ∷ [];
  examples = (one, array 1536, array 1) ∷ map (λ d. (d, array 1536, array 1)) bad_sizes ++ (one, array 1535, array 1) ∷ [];
}

-- forkhemit_pack: a byte for each input wire
abbrev pub pack : Entry (Dimensions × Tables × List ℕ × List ℕ)
pack = record {
  call = λ (d, tables, run, bytes). record {
    returned = code_of (outcome (pack_checks d tables (run_in run) (length bytes)));
    judged = pack_checks d tables (run_in run) (length bytes);
    lent = bytes ∷ [];
    left = packed d tables (run_in run) bytes ∷ [];
  };
  in_bytes = λ (d, tables, run, bytes). (as_bytes d, tables, run, bytes);
  numbers = 1 ∷ 2 ∷ 4 ∷ 3 ∷ 10 ∷ 12 ∷ 13 ∷ [];
  named = λ (d, tables, run, bytes). (d, named_tables d tables, run, take (input_wires d) bytes);
  past = λ (d, tables, run, bytes). drop (input_wires d) bytes ∷ [];
  examples =
      (two, rows, fresh_words 2, array 33) ∷ map (λ (d, tables). (d, tables, fresh_words 2, array 33)) bad_tables
      ++ (two, rows, fresh_words 2, array 32) ∷ (two, rows, fresh_words 33, array 33) ∷ (two, rows, fresh_words 3, array 33) ∷ [];
}

-- forkhemit_evaluate: gates, inputs, wires; all of the gates and the inputs are read
abbrev pub evaluate : Entry (List ℕ × List ℕ × List ℕ)
evaluate = record {
  call = λ (gates, inputs, wires). record {
    returned = code_of (outcome (evaluation_checks gates inputs wires));
    judged = evaluation_checks gates inputs wires;
    lent = wires ∷ [];
    left = filled_wires gates inputs wires ∷ [];
  };
  in_bytes = λ a. a;
  numbers = 9 ∷ 10 ∷ 10 ∷ [];
  named = λ (gates, inputs, wires). (gates, inputs, take (length inputs + length gates / 3) wires);
  past = λ (gates, inputs, wires). drop (length inputs + length gates / 3) wires ∷ [];
  examples =
      (0 ∷ 0 ∷ 1 ∷ [], 1 ∷ 0 ∷ [], array 3) ∷ (0 ∷ 0 ∷ [], 1 ∷ 0 ∷ [], array 3) ∷ (0 ∷ 0 ∷ 1 ∷ [], 1 ∷ 0 ∷ [], array 2)
      ∷ (0 ∷ 0 ∷ 1 ∷ [], 1 ∷ 2 ∷ [], array 3) ∷ [];
}

-- forkhemit_read_back: a byte for each wire of the state
abbrev pub read_back_run : Entry (ℕ × List ℕ × List ℕ)
read_back_run = record {
  call = λ (n, bytes, run). record {
    returned = code_of (read_back n bytes).outcome;
    judged = read_checks n bytes;
    lent = run ∷ [];
    left = read_stored (read_back n bytes) run ∷ [];
  };
  in_bytes = λ (n, bytes, run). (as_byte n, bytes, run);
  numbers = 1 ∷ 10 ∷ 12 ∷ [];
  named = λ (n, bytes, run). (n, take (state_wire_count n) bytes, run);
  past = λ a. [];
  examples =
      (2, bytes_of (state_bits 2 fresh), array 101) ∷ (33, array 21, array 101) ∷ (2, array 20, array 101) ∷ (2, array 21, array 101) ∷ [];
}

-- forkhemit_repeat: the circuit's words, the inputs, all wires
abbrev pub repeat : Entry (Dimensions × Tables × ℕ × List ℕ × List ℕ × List ℕ × List ℕ × List ℕ)
repeat = record {
  call = λ (d, tables, times, gates, bytes, wires, run, lent).
      let r = repeat_in d tables times gates bytes wires run in
      record {
        returned = code_of r.outcome;
        judged = repeat_checks d tables (length gates) (length bytes) (length wires) (run_in run);
        lent = gates ∷ bytes ∷ wires ∷ run ∷ lent ∷ [];
        left =
            Repeating.gates_after d tables times gates bytes wires (run_in run)
            ∷ Repeating.bytes_after d tables times gates bytes wires (run_in run)
            ∷ Repeating.wires_after d tables times gates bytes wires (run_in run) ∷ repeat_stored r run ∷ repeat_numbers r lent ∷ [];
      };
  in_bytes = λ (d, tables, times, gates, bytes, wires, run, lent). (as_bytes d, tables, times, gates, bytes, wires, run, lent);
  numbers = 1 ∷ 2 ∷ 4 ∷ 3 ∷ 7 ∷ 10 ∷ 12 ∷ 13 ∷ [];
  named = λ (d, tables, times, gates, bytes, wires, run, lent). (
    d,
    named_tables d tables,
    times,
    take (3 * ceiling d) gates,
    take (input_wires d) bytes,
    take (input_wires d + length (gates_on d)) wires,
    run,
    lent,
  );
  past = λ (d, tables, times, gates, bytes, wires, run, lent).
      drop (3 * ceiling d) gates ∷ drop (input_wires d) bytes ∷ drop (input_wires d + length (gates_on d)) wires ∷ [];
  examples =
      (one, one_rows, 1, array 1536, array 13, array 525, fresh_words 1, array 2)
      ∷ map (λ (d, tables). (d, tables, 1, array 1536, array 13, array 525, fresh_words 1, array 2)) bad_tables
      ++ (one, one_rows, 1, array 1535, array 13, array 525, fresh_words 1, array 2)
      ∷ (one, one_rows, 1, array 1536, array 12, array 525, fresh_words 1, array 2)
      ∷ (one, one_rows, 1, array 1536, array 13, array 525, fresh_words 33, array 2)
      ∷ (one, one_rows, 1, array 1536, array 13, array 525, fresh_words 2, array 2) ∷ [];
}

-- forkhemit_solve_whole
abbrev pub solve_whole : Entry (Dimensions × Tables × ℕ × List ℕ × List ℕ × List ℕ × List ℕ)
solve_whole = record {
  call = λ (d, tables, budget, gates, bytes, wires, answer).
      let s = solved_whole d tables budget gates bytes wires in
      record {
        returned = solved_code s;
        judged = whole_checks d tables budget (length gates) (length bytes) (length wires);
        lent = gates ∷ bytes ∷ wires ∷ answer ∷ [];
        left =
            Whole.gates_after_whole d tables budget gates bytes wires ∷ Whole.bytes_after_whole d tables budget gates bytes wires
            ∷ Whole.wires_after_whole d tables budget gates bytes wires ∷ numbers_or (solved_numbers s) answer ∷ [];
      };
  in_bytes = λ (d, tables, budget, gates, bytes, wires, answer). (as_bytes d, tables, budget, gates, bytes, wires, answer);
  numbers = 1 ∷ 2 ∷ 4 ∷ 3 ∷ 7 ∷ 23 ∷ 10 ∷ [];
  named = λ (d, tables, budget, gates, bytes, wires, answer). (
    d,
    named_tables d tables,
    budget,
    take (3 * ceiling d) gates,
    take (input_wires d) bytes,
    take (input_wires d + length (gates_on d)) wires,
    answer,
  );
  past = λ (d, tables, budget, gates, bytes, wires, answer).
      drop (3 * ceiling d) gates ∷ drop (input_wires d) bytes ∷ drop (input_wires d + length (gates_on d)) wires ∷ [];
  examples =
      (one, one_rows, 1, array 1536, array 13, array 525, array 3)
      ∷ map (λ (d, tables). (d, tables, 1, array 1536, array 13, array 525, array 3)) bad_tables
      ++ (one, one_rows, 1, array 1535, array 13, array 525, array 3) ∷ (one, one_rows, 65536, array 1536, array 13, array 525, array 3)
      ∷ (one, one_rows, 1, array 1536, array 12, array 525, array 3) ∷ [];
}
