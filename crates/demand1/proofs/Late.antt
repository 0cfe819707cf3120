-- Demand 1 for late conditions and for the step that tells its rule: a row that may be replaced is one of the rows, so both of its words are named.
use mathlib.Core.Path.{◌≡◌, refl, sym, ap, ap₂, ◌∙◌}
use mathlib.Core.Bool.{true, false}
use mathlib.Core.List.{List, [], ◌∷◌, ◌++◌, map}
use Prim.Native.Nat.{ℕ, ◌+◌, ◌-◌, ◌*◌, ◌<◌}
use native.Mathlib.Omega.{arith}
use lib.Dec.{leb}
use lib.ListN.{take, drop, set, take-append-drop}
use lib.Seq.{take-set-lt, drop-set-lt}
use Rattle.std.specs.Prelude.{Ok}
use Rattle.refusals.specs.Numbers.{Outcome, code_of}
use Rattle.refusals.specs.Checks.{Check, outcome, given}
use Rattle.refusals.proofs.Outcomes.{outcome_parts}
use Rattle.words.proofs.Truth.{on}
use Rattle.words.specs.declared.Row.{Row}
use Rattle.words.specs.Sets.{bit, any, all, word_of}
use Rattle.words.specs.Sameness.{same}
use Rattle.words.proofs.Sameness.{same_self}
use Rattle.dimensions.specs.declared.Dimensions.{Dimensions}
use Rattle.tables.specs.Tables.{Tables, all_tables}
use Rattle.tables.specs.Rows.{rows_of, satisfied, padding}
use Rattle.tables.specs.Acceptance.{all_below, table_checks}
use Rattle.state.specs.declared.Run.{Run}
use Rattle.state.specs.State.{state_of}
use Rattle.state.specs.WellFormed.{well_formed, state_checks}
use Rattle.solver.specs.Entries.{Stepped, stepped}
use Rattle.scan.specs.Rules.{rule}
use Rattle.explained.specs.declared.Told.TheVariants.{Nothing}
use Rattle.explained.specs.Explanation as Explanation
use Rattle.explained.specs.Explanation.{Explained, explained, told_numbers}
use Rattle.occurrences.specs.Index.{at, index_of}
use Rattle.tally.specs.Tallies.{count_rows, unsatisfied_rows}
use Rattle.indexed.specs.Entries.{indexed_checks}
use Rattle.late.specs.declared.Condition.{Condition}
use Rattle.late.specs.Replacement.{owns, put_row, replaced_in, condition_checks, late_checks, tables_after}
use Rattle.late.proofs.Checks.{late_parts, condition_parts, after-taken}
use Rattle.late.proofs.Rows.{owned-place}
use Rattle.late_indexed.specs.Replacement.{replace_checks, tables_then, index_then, number_then}
use Rattle.host_explained.specs.Explanations.{run_after, numbers_after}
use Rattle.stored.specs.Words.{run_in, run_words}
use Rattle.demand1.specs.Calls.{Effect, beside}
use Rattle.demand1.specs.Demand1.{Demand1}
use Rattle.demand1.specs.Named.{named_tables}
use Rattle.demand1.specs.Examples.{two, rows, fresh_words, satisfied_words, array}
use Rattle.demand1.specs.Late.{stations, past_rows, padded, replace, replace_indexed, step_explained}
use Rattle.demand1.proofs.Shapes.{Judged, by-outcome, by-held, demand, whole, by-sizes}
use Rattle.demand1.proofs.Runs.{stepped-outcome, stepped-named}
use Rattle.demand1.proofs.Fronts.{named-rows, named-short, named-high, named-checks}

-- ---- a row replaced within the words named

module _ (words : List ℕ) (i k : ℕ) (r : Row) (h : 2 * i + 1 < k) where
  put-take : put_row (take k words) i r ≡ take k (put_row words i r)
  put-take =
      sym (take-set-lt k (set words (2 * i) r.positive) (2 * i + 1) r.negative h
      ∙ ap (λ (l : List ℕ). set l (2 * i + 1) r.negative) (take-set-lt k words (2 * i) r.positive (omega arith)))

  put-drop : drop k (put_row words i r) ≡ drop k words
  put-drop = drop-set-lt k (set words (2 * i) r.positive) (2 * i + 1) r.negative h ∙ drop-set-lt k words (2 * i) r.positive (omega arith)

-- the stations' words are those named and what follows them
stations-split : (d : Dimensions) (tables : Tables) → stations tables ≡ beside (stations (named_tables d tables)) (past_rows d tables)
unfolding beside
stations-split d tables =
    ap₂ (λ (l r : List ℕ). l ∷ r ∷ []) (sym (take-append-drop (2 * d.left) tables.left)) (sym (take-append-drop (2 * d.right) tables.right))

module _ (d : Dimensions) (tables : Tables) (c : Condition) where
  module _ (own : owns d c.station c.replaced ≡ true) where
    named-replaced : replaced_in d (named_tables d tables) c ≡ named_tables d (replaced_in d tables c)
    unfolding replaced_in
    named-replaced =
        on (leb c.replaced d.left)
        (λ e. rw e (ap (λ (l : List ℕ). all_tables l (named_tables d tables).right (named_tables d tables).public)
        (put-take tables.left (c.replaced - 1) (2 * d.left) c.row
        (omega (arith, (owned-place d c.station c.replaced own).0 e)))))
        (λ e. rw e (ap (λ (r : List ℕ). all_tables (named_tables d tables).left r (named_tables d tables).public)
        (put-take tables.right (c.replaced - 1 - d.left) (2 * d.right) c.row
        (omega (arith, (owned-place d c.station c.replaced own).1 e)))))

    behind-replaced : past_rows d (replaced_in d tables c) ≡ past_rows d tables
    unfolding replaced_in
    behind-replaced =
        on (leb c.replaced d.left)
        (λ e. rw e (ap (λ (l : List ℕ). l ∷ drop (2 * d.right) tables.right ∷ []) (put-drop tables.left (c.replaced - 1) (2 * d.left) c.row
        (omega (arith, (owned-place d c.station c.replaced own).0 e)))))
        (λ e. rw e (ap (λ (r : List ℕ). drop (2 * d.left) tables.left ∷ r ∷ [])
        (put-drop tables.right (c.replaced - 1 - d.left) (2 * d.right) c.row
        (omega (arith, (owned-place d c.station c.replaced own).1 e)))))

    -- the tables with the row replaced, in the words named and in all of them
    replaced-front : stations (replaced_in d tables c) ≡ beside (stations (replaced_in d (named_tables d tables) c)) (past_rows d tables)
    replaced-front =
        stations-split d (replaced_in d tables c)
        ∙ ap₂ (λ (t : Tables) (r : List (List ℕ)). beside (stations t) r) (sym named-replaced) behind-replaced

    replaced-rows : rows_of d (replaced_in d tables c) ≡ rows_of d (replaced_in d (named_tables d tables) c)
    replaced-rows = sym (named-rows d (replaced_in d tables c)) ∙ ap (λ (t : Tables). rows_of d t) (sym named-replaced)

-- ---- without an index

module _ (d : Dimensions) (tables : Tables) (run : Run) (c : Condition) where
  late-checked : late_checks d tables run c ≡ late_checks d (named_tables d tables) run c
  late-checked = rw (← named-short d tables, ← named-high d tables, ← named-rows d tables)

  late_written : outcome (late_checks d tables run c) ≡ Ok tt
      → stations (tables_after d tables run c) ≡ beside (stations (tables_after d (named_tables d tables) run c)) (past_rows d tables)
  late_written h =
      ap stations (after-taken d tables run c h)
      ∙ replaced-front d tables c (late_parts d tables run c h).fitting.owned
      ∙ ap (λ (t : Tables). beside (stations t) (past_rows d tables))
      (sym (after-taken d (named_tables d tables) run c (sym (ap outcome late-checked) ∙ h)))

pub of_replace : Demand1 replace
unfolding tables_after run_in fresh_words satisfied_words all_below all any bit well_formed padding
of_replace =
    demand replace
    (by-sizes replace (λ a. a.0) (λ (d, tables, run, c) h i. (h i, tables, run, c)) (λ a. refl) (λ a. refl) (λ a. refl))
    (record {
      judged = λ (d, tables, run, c).
          by-outcome (late_checks d tables (run_in run) c) (stations tables) code_of
          (λ o. stations (given o (replaced_in d tables c) (λ r. tables))) refl (λ r. refl) (λ r. refl);
      order = λ a. refl;
      occurs = refl;
      split = λ (d, tables, run, c). stations-split d tables;
      checked = λ (d, tables, run, c). ap outcome (late-checked d tables (run_in run) c);
      written = λ (d, tables, run, c) h. late_written d tables (run_in run) c h;
    })

-- ---- with an index

module _ (d : Dimensions) (tables : Tables) (index : List ℕ) (run : Run) (number : ℕ) (c : Condition) where
  replace-checked : replace_checks d tables index run number c ≡ replace_checks d (named_tables d tables) index run number c
  replace-checked = rw (← named-short d tables, ← named-high d tables, ← named-rows d tables)

  -- what a call leaves, by its outcome
  abbrev replaced_by : Tables → Outcome → List (List ℕ)
  replaced_by t o =
      stations (given o (replaced_in d t c) (λ r. t))
      ++ given o (index_of (rows_of d (replaced_in d t c))) (λ r. index)
      ∷ (given o (unsatisfied_rows d.n (rows_of d (replaced_in d t c)) run.t run.f) (λ r. number) ∷ []) ∷ []

  replace_written : outcome (replace_checks d tables index run number c) ≡ Ok tt
      → replaced_by tables (outcome (replace_checks d tables index run number c))
      ≡ beside (replaced_by (named_tables d tables) (outcome (replace_checks d (named_tables d tables) index run number c))) (past_rows d tables)
  unfolding beside
  replace_written h =
      let judged = indexed_checks d.n (rows_of d tables) index run number in
      let last = condition_checks d tables run c in
      let own = (condition_parts d tables run c (outcome_parts judged last (outcome_parts (table_checks d tables) (judged ++ last) h).1).1).owned in
      ap (replaced_by tables) h
      ∙ ap₂ (λ (l : List (List ℕ)) (rs : List Row). l ++ index_of rs ∷ (unsatisfied_rows d.n rs run.t run.f ∷ []) ∷ [])
      (replaced-front d tables c own) (replaced-rows d tables c own)
      ∙ ap (λ (o : Outcome). beside (replaced_by (named_tables d tables) o) (past_rows d tables)) (sym (sym (ap outcome replace-checked) ∙ h))

-- nines are not the rows' sets
wrong_index : same (array 384) (index_of (rows_of two padded)) ≡ false
unfolding same index_of at bit word_of
wrong_index = refl

replace_indexed_occurs : map (λ a. (replace_indexed.call a).returned) replace_indexed.examples ≡ 0 ∷ replace_indexed.numbers
unfolding run_in fresh_words satisfied_words all_below all any bit well_formed unsatisfied_rows count_rows satisfied padding
replace_indexed_occurs = rw (same_self (index_of (rows_of two padded)), same_self (index_of (rows_of two rows)), wrong_index)

pub of_replace_indexed : Demand1 replace_indexed
unfolding tables_then index_then number_then beside
of_replace_indexed =
    demand replace_indexed
    (by-sizes replace_indexed (λ a. a.0) (λ (d, tables, run, c, index, number) h i. (h i, tables, run, c, index, number)) (λ a. refl) (λ a. refl) (λ a. refl))
    (record {
      judged = λ (d, tables, run, c, index, number).
          by-outcome (replace_checks d tables index (run_in run) number c) (stations tables ++ index ∷ (number ∷ []) ∷ []) code_of
          (replaced_by d tables index (run_in run) number c tables) refl (λ r. refl) (λ r. refl);
      order = λ a. refl;
      occurs = replace_indexed_occurs;
      split = λ (d, tables, run, c, index, number). ap (λ (l : List (List ℕ)). l ++ index ∷ (number ∷ []) ∷ []) (stations-split d tables);
      checked = λ (d, tables, run, c, index, number). ap outcome (replace-checked d tables index (run_in run) number c);
      written = λ (d, tables, run, c, index, number) h. replace_written d tables index (run_in run) number c h;
    })

-- ---- the step that tells its rule

module _ (d : Dimensions) (tables : Tables) (run explanation : List ℕ) where
  abbrev explain_call : List Check → Explained → Effect
  explain_call cs e = record {
    returned = code_of e.outcome;
    judged = cs ++ state_checks d (run_in run);
    lent = run ∷ explanation ∷ [];
    left = run_after e run ∷ numbers_after e explanation ∷ [];
  }

  explain_judged : Judged (explain_call (table_checks d tables) (explained d tables (run_in run)))
  unfolding explained stepped
  explain_judged =
      let e = explained d tables (run_in run) in
      by-held (table_checks d tables ++ state_checks d (run_in run)) (run ∷ explanation ∷ []) e.outcome
      (λ o. given o (run_words e.run) (λ r. run) ∷ given o (told_numbers e.told) (λ r. explanation) ∷ [])
      (stepped-outcome rule d tables (run_in run)) (λ r. refl)

  explained-named : explained d tables (run_in run) ≡ explained d (named_tables d tables) (run_in run)
  unfolding explained stepped
  explained-named =
      ap₂ (λ (s : Stepped) (rs : List Row). record {
        outcome = s.outcome;
        run = s.run;
        told = given s.outcome (Explanation.explanation d.n rs (state_of (run_in run))) (λ r. Nothing);
      }) (stepped-named rule d tables (run_in run)) (sym (named-rows d tables))

pub of_step-explained : Demand1 step_explained
unfolding explained stepped run_in fresh_words all_below all bit well_formed
of_step-explained =
    whole step_explained
    (by-sizes step_explained (λ a. a.0) (λ (d, tables, run, explanation) h i. (h i, tables, run, explanation)) (λ a. refl) (λ a. refl) (λ a. refl))
    (λ (d, tables, run, explanation). explain_judged d tables run explanation) (λ a. refl) refl (λ a. refl)
    (λ (d, tables, run, explanation). ap₂ (explain_call d tables run explanation) (sym (named-checks d tables)) (explained-named d tables run explanation))
