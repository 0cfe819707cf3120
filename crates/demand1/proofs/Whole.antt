-- Demand 1 for the circuit applied through a whole budget: as for repeats, and the zeros that it leaves are as many as the words named.
use mathlib.Core.Path.{◌≡◌, refl, sym, ap, ap₂, ◌∙◌, fun_ext}
use mathlib.Core.List.{List, [], ◌∷◌, ◌++◌, map}
use Prim.Native.Nat.{ℕ, zero, suc, ◌+◌, ◌*◌}
use native.Mathlib.Omega.{arith}
use lib.ListN.{length, take, drop, replicate, take-append-drop, length-replicate}
use Rattle.std.specs.Prelude.{Result, Ok, Err}
use Rattle.refusals.specs.declared.Refusal.{Refusal}
use Rattle.refusals.specs.Numbers.{Outcome}
use Rattle.refusals.specs.Checks.{check, outcome, given}
use Rattle.refusals.specs.declared.Refusal.TheVariants.{WholeBudget}
use Rattle.refusals.proofs.Outcomes.{outcome_parts}
use Rattle.dimensions.specs.declared.Dimensions.{Dimensions}
use Rattle.dimensions.specs.Sizes.{ceiling, input_wires}
use Rattle.tables.specs.Tables.{Tables}
use Rattle.tables.specs.Acceptance.{all_below}
use Rattle.state.specs.declared.Run.{Run}
use Rattle.state.specs.State.{fresh, run_of}
use Rattle.netlist.specs.Netlist.{gates_on}
use Rattle.generator.specs.Generation.{written_words}
use Rattle.repeats.specs.Application.{Applied}
use Rattle.repeats.specs.Repeats.{Attempt, attempted}
use lib.Dec.{ltb}
use Rattle.repeats.specs.Repeating.{generation_checks, wire_checks}
use Rattle.repeats.proofs.RepeatChecks.{words_passed, generates}
use Rattle.solver.specs.declared.Answer.{Answer}
use Rattle.solver.specs.Entries.{solved_code, solved_numbers}
use Rattle.whole_budget.specs.Applications.{attempt_gives, applications, whole_answer_in, enough, whole_answer}
use Rattle.whole_budget.specs.WholeBudget.{
  most_budget,
  whole_checks,
  cleared,
  whole_allowed,
  solved_whole,
  gates_after_whole,
  bytes_after_whole,
  wires_after_whole,
}
use Rattle.lent.specs.Lent.{numbers_or}
use Rattle.demand1.specs.Calls.{beside}
use Rattle.demand1.specs.Demand1.{Demand1}
use Rattle.demand1.specs.Named.{named_tables}
use Rattle.demand1.specs.Circuits.{solve_whole}
use Rattle.demand1.proofs.Shapes.{by-outcome, demand, by-sizes}
use Rattle.demand1.proofs.Fronts.{named-short, named-high, front-short, over-front, front_kept}
use Rattle.demand1.proofs.Circuits.{generator_written}
use Rattle.demand1.proofs.Repeats.{attempted-named, one_fits}

module _ (d : Dimensions) (tables : Tables) where
  applications-named : (budget : ℕ) (run : Run) (attempts : List Attempt)
      → applications d tables budget run attempts ≡ applications d (named_tables d tables) budget run attempts
  unfolding applications
  applications-named budget run [] = refl
  applications-named zero run (a ∷ later) = refl
  applications-named (suc rest) run (a ∷ later) =
      ap (λ (r : Applied). attempt_gives r (λ next. applications d tables (suc rest) next later) (λ next. applications d tables rest next later))
      (attempted-named d tables run a)
      ∙ ap₂ (λ (f g : Run → List Run). attempt_gives (attempted d (named_tables d tables) run a) f g)
      (fun_ext (λ next. applications-named (suc rest) next later)) (fun_ext (λ next. applications-named rest next later))

  whole-named : (budget : ℕ) → whole_answer d tables budget ≡ whole_answer d (named_tables d tables) budget
  unfolding whole_answer
  whole-named budget = ap (λ (l : List Run). whole_answer_in d.n budget l) (applications-named budget (run_of d.n fresh) (replicate budget (enough d)))

-- zeros over the front
cleared-front : (k : ℕ) (l : List ℕ) → cleared k l ≡ cleared k (take k l) ++ drop k l
cleared-front k l = over-front (replicate k 0) k l (omega (arith, length-replicate {A = ℕ} k 0))

module _ (d : Dimensions) (tables : Tables) (budget : ℕ) (gates bytes wires : List ℕ) where
  abbrev space : ℕ
  space = input_wires d + length (gates_on d)

  abbrev cut_gates : List ℕ
  cut_gates = take (3 * ceiling d) gates

  abbrev cut_bytes : List ℕ
  cut_bytes = take (input_wires d) bytes

  abbrev cut_wires : List ℕ
  cut_wires = take space wires

  whole-checked : whole_checks d tables budget (length gates) (length bytes) (length wires)
      ≡ whole_checks d (named_tables d tables) budget (length cut_gates) (length cut_bytes) (length cut_wires)
  whole-checked =
      rw (← named-short d tables, ← named-high d tables, ← front-short (3 * ceiling d) gates, ← front-short (input_wires d) bytes, ← front-short space wires)

  module _ (h : outcome (whole_checks d tables budget (length gates) (length bytes) (length wires)) ≡ Ok tt) where
    gates_kept : gates_after_whole d tables budget gates bytes wires
        ≡ gates_after_whole d (named_tables d tables) budget cut_gates cut_bytes cut_wires ++ drop (3 * ceiling d) gates
    unfolding gates_after_whole whole_allowed
    gates_kept =
        let last = check (ltb most_budget budget) WholeBudget ∷ wire_checks d (length bytes) (length wires) in
        let p = words_passed d tables (length gates) (outcome_parts (generation_checks d tables (length gates)) last h).0 in
        front_kept _ _ _ _ h (ap outcome whole-checked) (generator_written d gates (generates d tables gates p.0 p.1))

    bytes-kept : bytes_after_whole d tables budget gates bytes wires
        ≡ bytes_after_whole d (named_tables d tables) budget cut_gates cut_bytes cut_wires ++ drop (input_wires d) bytes
    unfolding bytes_after_whole whole_allowed
    bytes-kept = front_kept _ _ _ _ h (ap outcome whole-checked) (cleared-front (input_wires d) bytes)

    wires_kept : wires_after_whole d tables budget gates bytes wires
        ≡ wires_after_whole d (named_tables d tables) budget cut_gates cut_bytes cut_wires ++ drop space wires
    unfolding wires_after_whole whole_allowed
    wires_kept = front_kept _ _ _ _ h (ap outcome whole-checked) (cleared-front space wires)

  whole-cut : solved_whole d tables budget gates bytes wires ≡ solved_whole d (named_tables d tables) budget cut_gates cut_bytes cut_wires
  unfolding solved_whole whole_allowed
  whole-cut =
      ap₂ (λ (o : Outcome) (a : Answer). given o (Ok a) Err) (ap outcome whole-checked) (whole-named d tables budget)

whole-occurs : map (λ a. (solve_whole.call a).returned) solve_whole.examples ≡ 0 ∷ solve_whole.numbers
unfolding solved_whole whole_allowed all_below
whole-occurs = rw one_fits

pub of_solve-whole : Demand1 solve_whole
unfolding solved_whole gates_after_whole bytes_after_whole wires_after_whole whole_allowed beside
of_solve-whole =
    demand solve_whole
    (by-sizes solve_whole (λ a. a.0) (λ (d, tables, budget, gates, bytes, wires, answer) h i. (h i, tables, budget, gates, bytes, wires, answer))
    (λ a. refl) (λ a. refl) (λ a. refl))
    (record {
      judged = λ (d, tables, budget, gates, bytes, wires, answer).
          let s : Outcome → Result Answer Refusal = λ o. given o (Ok (whole_answer d tables budget)) Err in
          by-outcome (whole_checks d tables budget (length gates) (length bytes) (length wires)) (gates ∷ bytes ∷ wires ∷ answer ∷ [])
          (λ o. solved_code (s o))
          (λ o. given o (written_words d gates) (λ q. gates) ∷ given o (cleared (input_wires d) bytes) (λ q. bytes)
          ∷ given o (cleared (input_wires d + length (gates_on d)) wires) (λ q. wires) ∷ numbers_or (solved_numbers (s o)) answer ∷ [])
          refl (λ q. refl) (λ q. refl);
      order = λ a. refl;
      occurs = whole-occurs;
      split = λ (d, tables, budget, gates, bytes, wires, answer).
          let j = input_wires d + length (gates_on d) in
          sym (ap₂ (λ (g : List ℕ) (l : List (List ℕ)). g ∷ l) (take-append-drop (3 * ceiling d) gates)
          (ap₂ (λ (b w : List ℕ). b ∷ w ∷ answer ∷ []) (take-append-drop (input_wires d) bytes) (take-append-drop j wires)));
      checked = λ (d, tables, budget, gates, bytes, wires, answer). ap outcome (whole-checked d tables budget gates bytes wires);
      written = λ (d, tables, budget, gates, bytes, wires, answer) h.
          ap₂ (λ (g : List ℕ) (l : List (List ℕ)). g ∷ l) (gates_kept d tables budget gates bytes wires h)
          (ap₂ (λ (b : List ℕ) (l : List (List ℕ)). b ∷ l) (bytes-kept d tables budget gates bytes wires h)
          (ap₂ (λ (w : List ℕ) (s : Result Answer Refusal). w ∷ numbers_or (solved_numbers s) answer ∷ []) (wires_kept d tables budget gates bytes wires h)
          (whole-cut d tables budget gates bytes wires)));
    })
