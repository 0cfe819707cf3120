-- Demand 1 for every function of include/forkhemit.h by its name there, and for the programs' own functions. tests/src/demand1.rs fails
-- where the header has a function that is not named here, or says other refusals.
use Rattle.demand1.specs.Demand1.{Demand1}
use Rattle.demand1.specs.Runs.{sizes, accept, judge, fresh_run, step_plain, solve, model, count_free}
use Rattle.demand1.specs.Programs.{Demand1Printed, pair, whole_program, circuit}
use Rattle.demand1.specs.Texts.{read_tables, place_clause, excerpt}
use Rattle.demand1.specs.Columns.{columns, rows}
use Rattle.demand1.specs.Indexed.{index, unsatisfied, step_indexed, continue, step_weighted, solve_weighted, continue_weighted}
use Rattle.demand1.specs.Late.{replace, replace_indexed, step_explained}
use Rattle.demand1.specs.Checking.{check_proof, judge_game, read_budget}
use Rattle.demand1.specs.Circuits.{generate, pack, evaluate, read_back_run, repeat, solve_whole}
use Rattle.demand1.specs.Pages.{write_line, write_lines, answer, page, read_page}

-- every function
pub record Every : Type 0 where
  -- tables
  pub forkhemit_sizes : Demand1 sizes
  pub forkhemit_read_tables : Demand1 read_tables
  pub forkhemit_accept : Demand1 accept
  pub forkhemit_judge : Demand1 judge
  -- columns
  pub forkhemit_columns : Demand1 columns
  pub forkhemit_rows : Demand1 rows
  -- runs
  pub forkhemit_fresh : Demand1 fresh_run
  pub forkhemit_step : Demand1 step_plain
  pub forkhemit_solve : Demand1 solve
  pub forkhemit_model : Demand1 model
  pub forkhemit_count_free : Demand1 count_free
  -- runs with an index
  pub forkhemit_index : Demand1 index
  pub forkhemit_unsatisfied : Demand1 unsatisfied
  pub forkhemit_step_indexed : Demand1 step_indexed
  pub forkhemit_solve_indexed : Demand1 solve
  pub forkhemit_continue : Demand1 continue
  -- the weighted choice
  pub forkhemit_step_weighted : Demand1 step_weighted
  pub forkhemit_solve_weighted : Demand1 solve_weighted
  pub forkhemit_continue_weighted : Demand1 continue_weighted
  -- late conditions
  pub forkhemit_replace : Demand1 replace
  pub forkhemit_replace_indexed : Demand1 replace_indexed
  -- the rule of each step
  pub forkhemit_step_explained : Demand1 step_explained
  pub forkhemit_clause : Demand1 place_clause
  pub forkhemit_excerpt : Demand1 excerpt
  -- proofs and games
  pub forkhemit_check_proof : Demand1 check_proof
  pub forkhemit_game : Demand1 judge_game
  -- the circuit
  pub forkhemit_generate : Demand1 generate
  pub forkhemit_pack : Demand1 pack
  pub forkhemit_evaluate : Demand1 evaluate
  pub forkhemit_read_back : Demand1 read_back_run
  pub forkhemit_repeat : Demand1 repeat
  pub forkhemit_solve_whole : Demand1 solve_whole
  -- texts and pages
  pub forkhemit_write_line : Demand1 write_line
  pub forkhemit_write_lines : Demand1 write_lines
  pub forkhemit_read_budget : Demand1 read_budget
  pub forkhemit_answer : Demand1 answer
  pub forkhemit_page : Demand1 page
  pub forkhemit_read_page : Demand1 read_page
  -- the programs' functions, by value: reply::reply, whole_reply::reply_whole, listing::list
  pub reply : Demand1Printed pair
  pub reply_whole : Demand1Printed whole_program
  pub list : Demand1Printed circuit
