-- The functions for watch pages, and those that write lines and the answer.
-- Read: none, they have the form of `Runs`.
use Rattle.std.specs.Prelude.{ℕ, ◌*◌, List, [], ◌∷◌, ◌++◌, map, length, take, drop}
use Rattle.refusals.specs.Checks.{outcome}
use Rattle.refusals.specs.Numbers.{code_of}
use Rattle.dimensions.specs.declared.Dimensions.{Dimensions}
use Rattle.verdicts.specs.Verdicts.{model_code, model_numbers}
use Rattle.page.specs.Page.{page_of}
use Rattle.page.specs.Entries.{page_checks, page_after, read_page_checks, model_on}
use Rattle.bristol.specs.Writing.{line_at, line_checks, written_line, line_code, line_numbers, filled_line}
use Rattle.bristol.specs.Writing.{written_lines, lines_code, lines_numbers, filled_lines}
use Rattle.codes.specs.Codes.{as_byte, variable_checks}
use Rattle.answers.specs.Printed.{answer_text}
use Rattle.stored.specs.Words.{run_in}
use Rattle.lent.specs.Lent.{numbers_or}
use Rattle.host_lines.specs.Answers.{answer_from, text_given, length_given}
use Rattle.demand1.specs.Demand1.{Entry}
use Rattle.demand1.specs.Named.{as_bytes}
use Rattle.demand1.specs.Examples.{two, bad_sizes, fresh_words, satisfied_words, array}

-- ---- watch pages

-- forkhemit_page: the run, pilots, watches, the page
abbrev pub page : Entry (List ℕ × ℕ × ℕ × List ℕ)
page = record {
  call = λ (run, pilots, watches, page). record {
    returned = code_of (outcome (page_checks (run_in run) pilots watches (length page)));
    judged = page_checks (run_in run) pilots watches (length page);
    lent = page ∷ [];
    left = page_after (run_in run) pilots watches page ∷ [];
  };
  in_bytes = λ a. a;
  numbers = 12 ∷ 14 ∷ 25 ∷ 26 ∷ [];
  named = λ (run, pilots, watches, page). (run, pilots, watches, take (80 * pilots) page);
  past = λ (run, pilots, watches, page). drop (80 * pilots) page ∷ [];
  examples =
      (satisfied_words, 1, 2, array 80) ∷ (fresh_words 33, 1, 2, array 80) ∷ (fresh_words 2, 1, 2, array 80)
      ∷ (satisfied_words, 1, 3, array 80) ∷ (satisfied_words, 1, 2, array 79) ∷ [];
}

-- forkhemit_read_page: n, pilots, watches, the page, the model
abbrev pub read_page : Entry (ℕ × ℕ × ℕ × List ℕ × List ℕ)
read_page = record {
  call = λ (n, pilots, watches, page, model). record {
    returned = model_code (model_on n pilots watches page);
    judged = read_page_checks n pilots watches page;
    lent = model ∷ [];
    left = numbers_or (model_numbers (model_on n pilots watches page)) model ∷ [];
  };
  in_bytes = λ a. a;
  numbers = 1 ∷ 25 ∷ 26 ∷ 27 ∷ [];
  named = λ (n, pilots, watches, page, model). (n, pilots, watches, take (80 * pilots) page, model);
  past = λ a. [];
  examples =
      (2, 1, 2, page_of 1 2 1, array 1) ∷ (33, 1, 2, page_of 1 2 1, array 1) ∷ (2, 1, 3, page_of 1 2 1, array 1)
      ∷ (2, 1, 2, array 79, array 1)
      ∷ (2, 1, 2, array 80, array 1) ∷ [];
}

-- ---- lines and the answer

-- forkhemit_write_line: the line's own bytes
abbrev pub write_line : Entry (Dimensions × List ℕ × ℕ × List ℕ × List ℕ)
write_line = record {
  call = λ (d, gates, line, bytes, length). record {
    returned = line_code (written_line d gates line bytes);
    judged = line_checks d gates line bytes;
    lent = bytes ∷ length ∷ [];
    left = filled_line d gates line bytes ∷ numbers_or (line_numbers (written_line d gates line bytes)) length ∷ [];
  };
  in_bytes = λ (d, gates, line, bytes, length). (as_bytes d, gates, line, bytes, length);
  numbers = 1 ∷ 2 ∷ 9 ∷ 11 ∷ [];
  named = λ (d, gates, line, bytes, number). (d, gates, line, take (length (line_at d gates line)) bytes, number);
  past = λ (d, gates, line, bytes, number). drop (length (line_at d gates line)) bytes ∷ [];
  examples =
      (two, 0 ∷ 0 ∷ 1 ∷ [], 0, array 128, array 1) ∷ map (λ d. (d, 0 ∷ 0 ∷ 1 ∷ [], 0, array 128, array 1)) bad_sizes
      ++ (two, 0 ∷ 0 ∷ [], 0, array 128, array 1) ∷ (two, 0 ∷ 0 ∷ 1 ∷ [], 0, [], array 1) ∷ [];
}

-- forkhemit_write_lines: as many as fit, so that all lent bytes are named
abbrev pub write_lines : Entry (Dimensions × List ℕ × ℕ × List ℕ × List ℕ)
write_lines = record {
  call = λ (d, gates, line, bytes, written). record {
    returned = lines_code (written_lines d gates line bytes);
    judged = line_checks d gates line bytes;
    lent = bytes ∷ written ∷ [];
    left = filled_lines d gates line bytes ∷ numbers_or (lines_numbers (written_lines d gates line bytes)) written ∷ [];
  };
  in_bytes = λ (d, gates, line, bytes, written). (as_bytes d, gates, line, bytes, written);
  numbers = 1 ∷ 2 ∷ 9 ∷ 11 ∷ [];
  named = λ a. a;
  past = λ a. [];
  examples =
      (two, 0 ∷ 0 ∷ 1 ∷ [], 0, array 128, array 2) ∷ map (λ d. (d, 0 ∷ 0 ∷ 1 ∷ [], 0, array 128, array 2)) bad_sizes
      ++ (two, 0 ∷ 0 ∷ [], 0, array 128, array 2) ∷ (two, 0 ∷ 0 ∷ 1 ∷ [], 0, [], array 2) ∷ [];
}

-- forkhemit_answer: n, count, verdict, model, the text, its length
abbrev pub answer : Entry (ℕ × ℕ × ℕ × ℕ × List ℕ × List ℕ)
answer = record {
  call = λ (n, count, verdict, model, text, length).
      let printed = answer_text n (answer_from count verdict model) in
      record {
        returned = code_of (outcome (variable_checks n));
        judged = variable_checks n;
        lent = text ∷ length ∷ [];
        left = text_given n printed text ∷ length_given n printed length ∷ [];
      };
  in_bytes = λ (n, count, verdict, model, text, length). (as_byte n, count, verdict, model, text, length);
  numbers = 1 ∷ [];
  named = λ a. a;
  past = λ a. [];
  examples = (2, 1, 0, 0, array 256, array 1) ∷ (33, 1, 0, 0, array 256, array 1) ∷ [];
}
