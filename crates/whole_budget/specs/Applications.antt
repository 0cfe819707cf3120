-- The circuit applied to the fresh run through a whole budget: document 02, "The count kept secret too". No row is replaced meanwhile, and
-- what the closing wire says ends nothing and is not kept.
-- Ask: Does anything but the budget end the applications?
use Rattle.std.specs.Prelude.{ℕ, zero, suc, ◌+◌, List, [], ◌∷◌, length, replicate}
use Rattle.refusals.specs.Checks.{given}
use Rattle.dimensions.specs.declared.Dimensions.{Dimensions}
use Rattle.dimensions.specs.Sizes.{input_wires}
use Rattle.tables.specs.Tables.{Tables}
use Rattle.state.specs.declared.Run.{Run}
use Rattle.state.specs.State.{fresh, run_of}
use Rattle.verdicts.specs.Verdicts.{verdict_of}
use Rattle.solver.specs.declared.Answer.{Answer}
use Rattle.netlist.specs.Netlist.{gates_on}
use Rattle.repeats.specs.Application.{Applied, applied}
use Rattle.repeats.specs.Repeats.{Attempt, circuit_words, attempted}
use Rattle.repeats.specs.Repeating.{whole}

-- what comes of an attempt, where later ones go on from a run, as they would have without it or one application further: refused, it is no
-- application
abbrev pub attempt_gives : Applied → (Run → List Run) → (Run → List Run) → List Run
attempt_gives r again further = given r.outcome (r.run ∷ further r.run) (λ refusal. again r.run)

-- the runs that the applications return, from a run on, with a number of them left
unfoldable pub applications : Dimensions → Tables → ℕ → Run → List Attempt → List Run
unfolding applied circuit_words
applications d tables budget run [] = []
applications d tables zero run (a ∷ later) = []
applications d tables (suc rest) run (a ∷ later) =
    attempt_gives (attempted d tables run a)
    (λ next. applications d tables (suc rest) next later)
    (λ next. applications d tables rest next later)

-- those from the fresh run on
abbrev pub whole_runs : Dimensions → Tables → ℕ → List Attempt → List Run
whole_runs d tables budget attempts = applications d tables budget (run_of d.n fresh) attempts

-- the run that the last one returned, or the one at the start
unfoldable pub last_of : Run → List Run → Run
last_of run [] = run
last_of run (r ∷ later) = last_of r later

-- the answer that they give: the budget, and verdict and model of the last run
abbrev pub whole_answer_in : ℕ → ℕ → List Run → Answer
whole_answer_in n budget runs =
    let last = last_of (run_of n fresh) runs in record { count = budget; verdict = verdict_of last.standing last.t }

-- an attempt with just enough room, all outputs handed to the read-back
abbrev pub enough : Dimensions → Attempt
enough d = whole d (replicate (input_wires d) 0) (replicate (input_wires d + length (gates_on d)) 0)

-- the answer of as many such attempts as the budget
unfoldable pub whole_answer : Dimensions → Tables → ℕ → Answer
unfolding applications last_of
whole_answer d tables budget = whole_answer_in d.n budget (whole_runs d tables budget (replicate budget (enough d)))
