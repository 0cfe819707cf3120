-- `apply_through` meets its contract. The loop's invariant: the state at hand, with the steps that are left, comes to the state after as many as the budget;
-- bytes and wires are as they were after what is used.
use Rattle.tables.specs.Tables.{words_in}
use Rattle.whole_budget.proofs.Through.{Through}
use Rattle.whole_budget.proofs.apply_through.Given as goal

abbrev pub invariant-loop : goal.invariant-loop
invariant-loop l =
    Through l.d (words_in l.tables) l.budget l.initial.bytes l.initial.wires l.bytes l.wires l.last l.counter
