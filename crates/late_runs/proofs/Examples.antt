-- One variable, the left row (1) and a padding row on the right: (−1) in its place after one step makes the run unsatisfiable, after the close it changes
-- nothing, and rows that are no padding row of the station stay. Computed; then two pairs that are seen alike though only one of them was changed, from what
-- secrecy says.
use mathlib.Core.Path.{◌≡◌, refl, sym, ap, ◌∙◌}
use mathlib.Core.Bool.{Bool, true, false}
use mathlib.Core.List.{List, [], ◌∷◌}
use Prim.Native.Nat.{ℕ, suc, ◌*◌, ◌≤◌, ◌<◌}
use native.Mathlib.Omega.{arith}
use lib.Dec.{leb}
use lib.ListN.{length, get_or}
use Rattle.words.specs.Sets.{bit, put, any, all, count, lowest}
use Rattle.dimensions.specs.declared.Dimensions.{Dimensions}
use Rattle.words.proofs.Truth.{and_r}
use Rattle.dimensions.specs.Sizes.{dimensions, ceiling}
use Rattle.tables.specs.Tables.{Tables, all_tables}
use Rattle.tables.specs.Rows.{rows_of, padding, satisfied, free_literals}
use Rattle.tables.specs.Acceptance.{all_below}
use Rattle.state.specs.declared.Standing.TheVariants.{Open}
use Rattle.state.specs.State.{fresh, run_of}
use Rattle.state.specs.WellFormed.{well_formed}
use Rattle.verdicts.specs.declared.Verdict.{Verdict}
use Rattle.verdicts.specs.declared.Verdict.TheVariants.{Satisfiable, Unsatisfiable}
use Rattle.solver.specs.declared.Answer.{Answer}
use Rattle.solver.specs.Step.{after}
use Rattle.truth.specs.Truth.{all_true}
use Rattle.solver.specs.Entries.{answer_of}
use Rattle.late.specs.declared.Condition.{Condition}
use Rattle.repeats.specs.Repeats.{Accepts, Attempt, Repeat, returned, long_ones, repeats_ended}
use Rattle.demand3.specs.Demand3.{rows_by_step, history_of, answer_in, answer_for, seen}
use Rattle.late_runs.specs.Schedule.{Dated, tables_at}
use Rattle.late_runs.specs.Host.{dated, Step, Replace, play, started, steps_of, Turn, Call, Renew, repeats_by, count_by, room_for, attempts_in}
use Rattle.late_runs.specs.Host.{conditions_in}
use Rattle.late_runs.proofs.Demands.{end_late, secrecy_late}
use Rattle.late_runs.proofs.Host.{host-refuted, host-closes}
use Rattle.late_runs.proofs.CircuitHost.{host-history, host_end, host-ends, host-count, hosts_alike, plain_answer, host_sees}

abbrev small : Dimensions
small = dimensions 1 1 1 0

-- (1) | padding
abbrev tables : Tables
tables = all_tables (1 ∷ 0 ∷ []) (1 ∷ 1 ∷ []) []

-- (1) | (−1)
abbrev replaced : Tables
replaced = all_tables (1 ∷ 0 ∷ []) (0 ∷ 1 ∷ []) []

-- (−1) in the place of a row
abbrev ill : ℕ → ℕ → Condition
ill station number = record { station = station; replaced = number; row = record { positive = 0; negative = 1 } }

abbrev answer : ℕ → Verdict → Answer
answer steps verdict = record { count = steps; verdict = verdict }

-- ---- the run

pub without : answer_for small (tables_at small tables []) 9 ≡ answer 2 (Satisfiable 1)
unfolding answer_of tables_at free_literals padding satisfied bit put any count lowest
without = refl

-- the count goes on from the fresh state
one_after : answer_for small (tables_at small tables (dated 1 (ill 1 2) ∷ [])) 9 ≡ answer 2 Unsatisfiable
unfolding answer_of tables_at free_literals padding satisfied bit put any count lowest
one_after = refl

pub after_close : answer_for small (tables_at small tables (dated 2 (ill 1 2) ∷ [])) 9 ≡ answer 2 (Satisfiable 1)
unfolding answer_of tables_at free_literals padding satisfied bit put any count lowest
after_close = refl

-- ---- the tables

pub before_its_step : tables_at small tables (dated 1 (ill 1 2) ∷ []) 0 ≡ tables
unfolding tables_at
before_its_step = refl

pub from_its_step : tables_at small tables (dated 1 (ill 1 2) ∷ []) 1 ≡ replaced
unfolding tables_at padding bit any
from_its_step = refl

-- (1) is no padding row; row 2 is the right station's; (−1) is none once it is there
pub own-row_stays : tables_at small tables (dated 1 (ill 0 1) ∷ []) 1 ≡ tables
unfolding tables_at padding bit any
own-row_stays = refl

pub other-row_stays : tables_at small tables (dated 1 (ill 0 2) ∷ []) 1 ≡ tables
unfolding tables_at padding bit any
other-row_stays = refl

pub once_there_stays : tables_at small tables
    (dated 1 (ill 1 2) ∷ dated 1 (record { station = 1; replaced = 2; row = record { positive = 1; negative = 0 } }) ∷ []) 1 ≡ replaced
unfolding tables_at padding bit any
once_there_stays = refl

-- ---- the host

pub host-before : (play small (started small tables) (Step ∷ Replace (ill 1 2) ∷ [])).tables ≡ replaced
unfolding play all_below well_formed free_literals padding satisfied bit put any all count lowest
host-before = refl

-- 16
pub host-after : (play small (started small tables) (Step ∷ Step ∷ Replace (ill 1 2) ∷ Step ∷ [])).tables ≡ tables
unfolding play all_below well_formed free_literals padding satisfied bit put any all count lowest
host-after = refl

-- ---- the circuit

-- none of 1 to 4 turns them back
pub accepted : Accepts small tables
unfolding all_below
accepted = refl

pub accepted' : Accepts small replaced
unfolding all_below
accepted' = refl

-- (1) | (−1) from the first step on has the same answer
pub from_the_first : answer_for small (tables_at small replaced []) 9 ≡ answer 2 Unsatisfiable
unfolding answer_of tables_at free_literals padding satisfied bit put any count lowest
from_the_first = refl

-- so it is not seen whether the row was there or came late
pub late_unseen : (attempts attempts' : List Attempt) → 2 ≤ long_ones small attempts → 2 ≤ long_ones small attempts'
    → seen small (tables_at small tables (dated 1 (ill 1 2) ∷ [])) 9 attempts ≡ seen small (tables_at small replaced []) 9 attempts'
late_unseen attempts attempts' long long' =
    secrecy_late small tables replaced accepted accepted' (dated 1 (ill 1 2) ∷ []) [] refl 9 attempts attempts' (one_after ∙ sym from_the_first)
    ((end_late small tables accepted (dated 1 (ill 1 2) ∷ []) 9 attempts).1 (omega (arith, ap (λ (a : Answer). a.count) one_after)))
    ((end_late small replaced accepted' [] 9 attempts').1 (omega (arith, ap (λ (a : Answer). a.count) from_the_first)))

-- two long enough attempts give the plain run's answer over the same replacement
pub late-answer : (attempts : List Attempt) → 2 ≤ long_ones small attempts
    → answer_in 1 (history_of small (tables_at small tables (dated 1 (ill 1 2) ∷ [])) 9 attempts) ≡ answer 2 Unsatisfiable
late-answer attempts long =
    let e = end_late small tables accepted (dated 1 (ill 1 2) ∷ []) 9 attempts in
    e.0 (e.1 (omega (arith, ap (λ (a : Answer). a.count) one_after))) ∙ one_after

-- padding | (−1), with (1) in the place of the left row before the first step: other tables at both stations, other replacements, the same answer
abbrev other : Tables
other = all_tables (1 ∷ 1 ∷ []) (0 ∷ 1 ∷ []) []

abbrev well : Condition
well = record { station = 0; replaced = 1; row = record { positive = 1; negative = 0 } }

accepted'' : Accepts small other
unfolding all_below
accepted'' = refl

pub before-first : answer_for small (tables_at small other (dated 0 well ∷ [])) 9 ≡ answer 2 Unsatisfiable
unfolding answer_of tables_at free_literals padding satisfied bit put any count lowest
before-first = refl

pub both-late : (attempts attempts' : List Attempt) → 2 ≤ long_ones small attempts → 2 ≤ long_ones small attempts'
    → seen small (tables_at small tables (dated 1 (ill 1 2) ∷ [])) 9 attempts ≡ seen small (tables_at small other (dated 0 well ∷ [])) 9 attempts'
both-late attempts attempts' long long' =
    secrecy_late small tables other accepted accepted'' (dated 1 (ill 1 2) ∷ []) (dated 0 well ∷ []) refl 9 attempts attempts' (one_after ∙ sym before-first)
    ((end_late small tables accepted (dated 1 (ill 1 2) ∷ []) 9 attempts).1 (omega (arith, ap (λ (a : Answer). a.count) one_after)))
    ((end_late small other accepted'' (dated 0 well ∷ []) 9 attempts').1 (omega (arith, ap (λ (a : Answer). a.count) before-first)))

-- ---- the host, by its theorems

-- 2 ^ (1 + 1) - 1 steps close the run, with a replacement between them
pub three_close : (play small (started small tables) (Step ∷ Replace (ill 1 2) ∷ Step ∷ Step ∷ [])).run.standing ≡ Open → ⊥
unfolding steps_of
three_close = host-closes small tables accepted (Step ∷ Replace (ill 1 2) ∷ Step ∷ Step ∷ []) (omega arith)

-- the tables at the close have no satisfying assignment
pub all_fail : (a : ℕ → Bool) → all_true a (rows_of small replaced) ≡ false
unfolding play all_below well_formed free_literals padding satisfied bit put any all count lowest
all_fail = host-refuted small tables accepted (Step ∷ Replace (ill 1 2) ∷ Step ∷ []) refl

-- each repeat of a host that mixes attempts and replacements returned the plain run's state
pub host-each : (turns : List Turn) (i : ℕ) (none : Repeat) → i < length (repeats_by small tables 9 (run_of 1 fresh) turns)
    → get_or (repeats_by small tables 9 (run_of 1 fresh) turns) i none
    ≡ returned 1 (after 1 (rows_by_step small (tables_at small tables (conditions_in small 0 turns))) (suc i) fresh)
host-each turns i none b = (host-history small tables accepted 9 turns).each i none b

-- ---- calls of `repeat`

-- a call for one repeat, one that is refused since it lends no gate words, the replacement, a call for as many as are left
module _ (gates bytes wires : List ℕ) (room : room_for small gates bytes wires ≡ true) where
  abbrev pub calls : List Turn
  calls = Call 1 gates bytes wires ∷ Call 5 [] bytes wires ∷ Renew (ill 1 2) ∷ Call 8 gates bytes wires ∷ []

  -- the replacement comes after the one repeat
  called_at : conditions_in small 0 calls ≡ dated 1 (ill 1 2) ∷ []
  unfolding conditions_in
  called_at = rw room

  called_plainly : plain_answer small tables accepted 9 calls ≡ answer 2 Unsatisfiable
  called_plainly = ap (λ (at : List Dated). answer_for small (tables_at small tables at) 9) called_at ∙ one_after

  called_ended : repeats_ended 9 (repeats_by small tables 9 (run_of 1 fresh) calls) ≡ true
  unfolding attempts_in long_ones
  called_ended =
      host-ends small tables accepted 9 calls
      (omega (arith, ap (λ (a : Answer). a.count) called_plainly, called_long))
    where
      called_long : long_ones small (attempts_in small calls) ≡ 9
      called_long = rw (room, and_r (leb (3 * ceiling small) (length gates)) _ room)

  -- the repeats end unsatisfiable
  pub called_answer : answer_in 1 (repeats_by small tables 9 (run_of 1 fresh) calls) ≡ answer 2 Unsatisfiable
  called_answer = host_end small tables accepted 9 calls called_ended ∙ called_plainly

  -- and the numbers that the calls give add up: one, none and one
  pub called_count : count_by small tables 9 (run_of 1 fresh) calls ≡ 2
  called_count = host-count small tables accepted 9 calls called_ended ∙ ap (λ (a : Answer). a.count) called_plainly

  -- one call over (1) | (−1), there from the first, is seen alike
  abbrev pub one_call : List Turn
  one_call = Call 9 gates bytes wires ∷ []

  at_once_plainly : plain_answer small replaced accepted' 9 one_call ≡ answer 2 Unsatisfiable
  unfolding conditions_in
  at_once_plainly = from_the_first

  at_once_ended : repeats_ended 9 (repeats_by small replaced 9 (run_of 1 fresh) one_call) ≡ true
  unfolding attempts_in long_ones
  at_once_ended = host-ends small replaced accepted' 9 one_call (omega (arith, ap (λ (a : Answer). a.count) at_once_plainly, at_once_long))
    where
      at_once_long : long_ones small (attempts_in small one_call) ≡ 9
      at_once_long = rw (room, and_r (leb (3 * ceiling small) (length gates)) _ room)

  pub called_unseen : host_sees small tables accepted 9 calls ≡ host_sees small replaced accepted' 9 one_call
  called_unseen =
      hosts_alike small tables replaced accepted accepted' refl 9 calls one_call (called_plainly ∙ sym at_once_plainly) called_ended at_once_ended

-- the count and the verdict of the first example, which the others rest on
pub after_one : answer_for small (tables_at small tables (dated 1 (ill 1 2) ∷ [])) 9 ≡ answer 2 Unsatisfiable
after_one = one_after
