-- The run through a whole budget on small tables of two variables and a row each: two pairs that close after three steps and after two, with one model, and are
-- seen alike; a pair where no variable occurs. What the plain run does is computed, the rest is what follows from the statement.
use mathlib.Core.Path.{◌≡◌, refl, sym, ap, ap₂, ◌∙◌}
use mathlib.Core.Bool.{true}
use mathlib.Core.List.{List, [], ◌∷◌}
use Prim.Native.Nat.{ℕ, ◌≤◌}
use native.Mathlib.Omega.{arith}
use lib.ListN.{length, get_or, replicate}
use Rattle.words.specs.Sets.{bit, put, any, count, lowest}
use Rattle.lexer.specs.Spelling.{bytes}
use Rattle.text.specs.Decimal.{decimal}
use Rattle.dimensions.specs.declared.Dimensions.{Dimensions}
use Rattle.dimensions.specs.Sizes.{dimensions}
use Rattle.tables.specs.Tables.{Tables, all_tables}
use Rattle.tables.specs.Rows.{rows_of, padding, satisfied, free_literals}
use Rattle.tables.specs.Acceptance.{all_below}
use Rattle.state.specs.declared.Run.{Run}
use Rattle.state.specs.State.{state_of}
use Rattle.verdicts.specs.declared.Verdict.{Verdict}
use Rattle.verdicts.specs.declared.Verdict.TheVariants.{Satisfiable}
use Rattle.solver.specs.declared.Answer.{Answer}
use Rattle.solver.specs.Step.{always}
use Rattle.solver.specs.Entries.{answer_of}
use Rattle.truth.specs.Truth.{occurs, occurring}
use Rattle.answers.specs.Printed.{literals, answer_text}
use Rattle.netlist.specs.Outputs.{closed}
use Rattle.repeats.specs.Repeats.{Accepts, Attempt, long_ones}
use Rattle.whole_budget.specs.Applications.{whole_runs, enough}
use Rattle.whole_budget.proofs.Applications.{enough_long, all_long}
use Rattle.demand3.specs.Demand3.{circuit_text_of}
use Rattle.whole_secrecy.specs.WholeSecrecy.{plain_verdict, seen_whole, remains, WholeSecrecy}
use Rattle.whole_secrecy.proofs.WholeSecrecy.{whole_secrecy}
use Rattle.whole_secrecy.proofs.Consequences.{number_is, answer-is, one-closes, hosts_agree}

abbrev small : Dimensions
small = dimensions 2 1 1 0

-- (1 2) | (−1), as marked in document 01; (2) | padding; padding | padding
abbrev marked : Tables
marked = all_tables (3 ∷ 0 ∷ []) (0 ∷ 1 ∷ []) []

abbrev quick : Tables
quick = all_tables (2 ∷ 0 ∷ []) (1 ∷ 1 ∷ []) []

abbrev padded : Tables
padded = all_tables (1 ∷ 1 ∷ []) (1 ∷ 1 ∷ []) []

marked-accepted : Accepts small marked
unfolding all_below
marked-accepted = refl

quick-accepted : Accepts small quick
unfolding all_below
quick-accepted = refl

padded-accepted : Accepts small padded
unfolding all_below
padded-accepted = refl

-- ---- the plain runs

abbrev plain : Tables → ℕ → Answer
plain tables budget = answer_of 2 (always (rows_of small tables)) budget

marked-answer : plain marked 9 ≡ record { count = 3; verdict = Satisfiable 2 }
unfolding answer_of free_literals padding satisfied bit put any count lowest
marked-answer = refl

quick-answer : plain quick 9 ≡ record { count = 2; verdict = Satisfiable 2 }
unfolding answer_of free_literals padding satisfied bit put any count lowest
quick-answer = refl

-- one verdict and one model, after three steps and after two
one-verdict : plain_verdict small marked 9 ≡ plain_verdict small quick 9
one-verdict = ap (λ (a : Answer). a.verdict) marked-answer ∙ sym (ap (λ (a : Answer). a.verdict) quick-answer)

pub counts-differ : (plain marked 9).count ≡ (plain quick 9).count → ⊥
counts-differ e = omega (arith, ap (λ (a : Answer). a.count) marked-answer, ap (λ (a : Answer). a.count) quick-answer)

none-occurs : occurring 2 (rows_of small padded) ≡ 0
unfolding occurring occurs padding bit any count
none-occurs = refl

-- ---- the whole budget

module _ (x : WholeSecrecy small) (attempts attempts' : List Attempt) where
  module _ (long : 9 ≤ long_ones small attempts) (long' : 9 ≤ long_ones small attempts') where
    pub alike : seen_whole small marked 9 attempts ≡ seen_whole small quick 9 attempts'
    alike = hosts_agree small x marked quick marked-accepted quick-accepted 9 one-verdict refl attempts attempts' long long'

    -- nine applications, and document 01's example with the budget for its count
    pub marked-seen : seen_whole small marked 9 attempts ≡ (circuit_text_of small, 9, bytes "c steps 9\ns SATISFIABLE\nv -1 2 0\n", [])
    unfolding answer_text literals decimal bit
    marked-seen =
        ap₂ (λ (k : ℕ) (a : Answer). (circuit_text_of small, k, answer_text 2 a, []))
        (number_is small x marked marked-accepted 9 attempts long)
        (answer-is small x marked marked-accepted 9 attempts long
        ∙ ap (λ (v : Verdict). record { count = 9; verdict = v }) (ap (λ (a : Answer). a.verdict) marked-answer))

  -- calls with the same buffers leave the same
  pub calls-alike : (gates bytes wires : List ℕ) → remains small marked 9 gates bytes wires ≡ remains small quick 9 gates bytes wires
  calls-alike gates bytes wires = x.calls marked quick marked-accepted quick-accepted 9 gates bytes wires one-verdict

  -- where no variable occurs one application closes the run, and eight more follow
  pub padded-closes : 9 ≤ long_ones small attempts → (none : Run)
      → (closed (state_of (get_or (whole_runs small padded 9 attempts) 0 none)) ≡ true) × (length (whole_runs small padded 9 attempts) ≡ 9)
  padded-closes long none =
      let k = number_is small x padded padded-accepted 9 attempts long in
      (one-closes small x padded padded-accepted 9 attempts none-occurs none (omega (arith, k)), k)

-- ---- of the generated circuit: nine attempts with just enough room for each pair

pub seen_alike : let attempts = replicate 9 (enough small) in seen_whole small marked 9 attempts ≡ seen_whole small quick 9 attempts
seen_alike =
    let long = all_long small (enough small) (enough_long small) 9 in
    alike (whole_secrecy small) (replicate 9 (enough small)) (replicate 9 (enough small)) (omega (arith, long)) (omega (arith, long))
