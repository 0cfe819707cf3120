-- Demand 1, of every function: each proved in the file of its group.
use Rattle.demand1.specs.Every.{Every}
use Rattle.demand1.proofs.Runs.{of_sizes_lem, of_accept, of_judge, of_fresh, of_step, of_solve, of_model, of_count-free}
use Rattle.demand1.proofs.Texts.{of_read-tables}
use Rattle.demand1.proofs.Columns.{of_columns, of_rows}
use Rattle.demand1.proofs.Indexed.{of_index, of_unsatisfied, of_step_indexed, of_continue, of_step_weighted, of_solve_weighted, of_continue_weighted}
use Rattle.demand1.proofs.Late.{of_replace, of_replace_indexed, of_step-explained}
use Rattle.demand1.proofs.Clauses.{of_clause, of_excerpt}
use Rattle.demand1.proofs.Checking.{of_check_proof, of_game, of_read_budget}
use Rattle.demand1.proofs.Circuits.{of_generate, of_pack, of_evaluate}
use Rattle.demand1.proofs.ReadBack.{of_read-back}
use Rattle.demand1.proofs.Repeats.{of_repeat}
use Rattle.demand1.proofs.Whole.{of_solve-whole}
use Rattle.demand1.proofs.Pages.{of_write_line, of_write_lines, of_answer, of_page, of_read-page}
use Rattle.demand1.proofs.Programs.{of_pair, of_whole, of_circuit}

pub every : Every
every = record {
  forkhemit_sizes = of_sizes_lem;
  forkhemit_read_tables = of_read-tables;
  forkhemit_accept = of_accept;
  forkhemit_judge = of_judge;
  forkhemit_columns = of_columns;
  forkhemit_rows = of_rows;
  forkhemit_fresh = of_fresh;
  forkhemit_step = of_step;
  forkhemit_solve = of_solve;
  forkhemit_model = of_model;
  forkhemit_count_free = of_count-free;
  forkhemit_index = of_index;
  forkhemit_unsatisfied = of_unsatisfied;
  forkhemit_step_indexed = of_step_indexed;
  forkhemit_solve_indexed = of_solve;
  forkhemit_continue = of_continue;
  forkhemit_step_weighted = of_step_weighted;
  forkhemit_solve_weighted = of_solve_weighted;
  forkhemit_continue_weighted = of_continue_weighted;
  forkhemit_replace = of_replace;
  forkhemit_replace_indexed = of_replace_indexed;
  forkhemit_step_explained = of_step-explained;
  forkhemit_clause = of_clause;
  forkhemit_excerpt = of_excerpt;
  forkhemit_check_proof = of_check_proof;
  forkhemit_game = of_game;
  forkhemit_generate = of_generate;
  forkhemit_pack = of_pack;
  forkhemit_evaluate = of_evaluate;
  forkhemit_read_back = of_read-back;
  forkhemit_repeat = of_repeat;
  forkhemit_solve_whole = of_solve-whole;
  forkhemit_write_line = of_write_line;
  forkhemit_write_lines = of_write_lines;
  forkhemit_read_budget = of_read_budget;
  forkhemit_answer = of_answer;
  forkhemit_page = of_page;
  forkhemit_read_page = of_read-page;
  reply = of_pair;
  reply_whole = of_whole;
  list = of_circuit;
}
