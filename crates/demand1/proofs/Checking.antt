-- Demand 1 for the budget line, proofs and games: each definition's own order of refusals, gone through case by case.
use Rattle.std.specs.Prelude.{Option, Some, None, Result, Ok, Err}
use mathlib.Core.Path.{◌≡◌, refl, sym, ap, ap₂, ◌∙◌}
use mathlib.Core.Bool.{Bool, true, false, not, ◌&&◌, cond}
use mathlib.Core.List.{List, [], ◌∷◌, ◌++◌, map}
use Prim.Native.Nat.{ℕ, zero, suc, ◌-◌, ◌^◌}
use native.Mathlib.Omega.{arith}
use lib.Dec.{eqb, ltb, leb}
use lib.ListN.{length, take, drop, length-take, length-drop}
use lib.Seq.{take-take}
use Rattle.refusals.specs.declared.Refusal.{Refusal}
use Rattle.refusals.specs.declared.Refusal.TheVariants.{Variables, RowCount, Text, NumberLine, GameVariables, LineVariables}
use Rattle.refusals.specs.Numbers.{Outcome, code_of}
use Rattle.refusals.specs.Checks.{Check, check, outcome}
use Rattle.refusals.proofs.Outcomes.{refused-taken}
use Rattle.words.proofs.Truth.{on}
use Rattle.words.specs.declared.Row.{Row}
use Rattle.words.specs.Sets.{bit, put, any, count, lowest}
use Rattle.words.specs.Sameness.{same}
use Rattle.dimensions.specs.declared.Dimensions.{Dimensions}
use Rattle.tables.specs.Tables.{Tables}
use Rattle.tables.specs.Rows.{rows_of, padding, satisfied, free_literals}
use Rattle.tables.specs.Acceptance.{all_below, table_checks}
use Rattle.lexer.specs.Bytes.{run, trimmed}
use Rattle.lexer.specs.Pieces.{cut, not_empty, parts_from, lines_from}
use Rattle.numbers.specs.Numbers.{is_digit, digits_after, decimal_of, number_read}
use Rattle.clauses.specs.Clauses.{Reading, clauses, clause_rows, complete}
use Rattle.scan.specs.Rules.{any_row, unsatisfied_with, forced_variable, forced_true}
use Rattle.propagation.specs.Propagation.{reaches, follows}
use Rattle.lexer.specs.Remarks.{lines_of, kept, without_remarks}
use Rattle.header.specs.Header.{past_remarks, header_of}
use Rattle.qdimacs.specs.Lines.{Bound, lines_behind, bound_on, prefix_of, behind_prefix, tokens_on}
use Rattle.qdimacs.specs.Text.{most_game_variables, proper, GameTurn, game_turns, GameText, game as game', no_game, game_on, game_behind, game_text}
use Rattle.qdimacs.specs.TurnsInWords.{game_outcome}
use Rattle.game.specs.Game.{game_answer, game_code, game_numbers}
use Rattle.lines.specs.Numbers.{Field, field, no_field, bounded, closed_field, field_of, on_field, budget_of, budget_code, budget_numbers}
use Rattle.lent.specs.Lent.{numbers_or}
use Rattle.drat_line.specs.Lines.{has_break, clause_in, line_said}
use Rattle.drat.specs.Proofs.{ProofLine, without, all_follow, adds_empty, additions}
use Rattle.drat.specs.Text.{proof_lines, proof_of, proof_text_checks, proof_checks}
use Rattle.excerpts.specs.Excerpts.{overlong}
use Rattle.demand1.specs.Calls.{Effect, beside}
use Rattle.demand1.specs.Demand1.{Demand1}
use Rattle.demand1.specs.Named.{named_tables}
use Rattle.demand1.specs.Texts.{named_text, header_number, head_of}
use Rattle.demand1.specs.Checking.{read_budget, lines_judged, proof_judged, check_proof, has_too_many, game_judged, judge_game}
use Rattle.demand1.proofs.Shapes.{Judged, by-held, demand, whole, as_given, by-sizes}
use Rattle.demand1.proofs.Fronts.{named-rows, named-checks}
use Rattle.demand1.proofs.OneText.{Fair, sized, of_variables, of_rows, of_text, head_fair, text_named, text_whole, overlong-true}

-- ---- a proof

-- the tables' checks, then others that come to the same
pub same-behind : (cs xs ys : List Check) → outcome xs ≡ outcome ys → outcome (cs ++ xs) ≡ outcome (cs ++ ys)
same-behind [] xs ys e = e
same-behind (c ∷ cs) xs ys e = ap (λ (o : Outcome). cond c.fails (Err c.refusal) o) (same-behind cs xs ys e)

proof_exact : (d : Dimensions) (tables : Tables) (text : List ℕ) → outcome (proof_checks d tables text) ≡ outcome (proof_judged d tables text)
proof_exact d tables text =
    same-behind (table_checks d tables) (proof_text_checks (rows_of d tables) (proof_of d.n text)) (lines_judged (rows_of d tables) (proof_of d.n text))
    (go (proof_of d.n text))
  where
    go : (p : Option (List ProofLine)) → outcome (proof_text_checks (rows_of d tables) p) ≡ outcome (lines_judged (rows_of d tables) p)
    go None = refl
    go (Some ls) = refl

proof_named : (n : ℕ) (text : List ℕ) → proof_of n text ≡ proof_of n (named_text text)
unfolding proof_of
proof_named n text =
    on (overlong text)
    (λ e. rw (e, text_named text ∙ e))
    (λ e. ap (proof_of n) (sym (text_whole text e)))

-- a call by its first checks, rows and proof
abbrev proof_call : List Check → List Row → Option (List ProofLine) → Effect
proof_call cs rows p = record { returned = code_of (outcome (cs ++ proof_text_checks rows p)); judged = cs ++ lines_judged rows p; lent = []; left = [] }

proof_same : (d : Dimensions) (tables : Tables) (text : List ℕ)
    → check_proof.call (d, tables, text) ≡ check_proof.call (d, named_tables d tables, named_text text)
proof_same d tables text =
    let checks = sym (named-checks d tables) in
    let rows = sym (named-rows d tables) in
    let proof = proof_named d.n text in λ i. proof_call (checks i) (rows i) (proof i)

pub of_check_proof : Demand1 check_proof
unfolding proof_of proof_lines line_said clause_in has_break clauses parts_from cut not_empty run number_read decimal_of digits_after put additions all_follow
    adds_empty
    without follows reaches padding satisfied free_literals unsatisfied_with any_row forced_variable forced_true any count lowest bit all_below
of_check_proof =
    whole check_proof
    (by-sizes check_proof (λ a. a.0) (λ (d, tables, text) h i. (h i, tables, text)) (λ a. refl) (λ a. refl) (λ a. refl))
    (λ (d, tables, text). by-held (proof_judged d tables text) [] (outcome (proof_checks d tables text)) (λ o. []) (proof_exact d tables text) (λ r. refl))
    (λ a. refl) refl (λ a. refl) (λ (d, tables, text). proof_same d tables text)

-- ---- a game

game_number : (g : GameText) → game_code (game_answer g) ≡ code_of (game_outcome g)
game_number (game' rows turns) = refl
game_number (no_game r) = refl

game_left : (g : GameText) (answer : List ℕ) (r : Refusal) → game_outcome g ≡ Err r → numbers_or (game_numbers (game_answer g)) answer ∷ [] ≡ answer ∷ []
game_left (game' rows turns) answer r e = absurd (refused-taken (sym e))
game_left (no_game q) answer r e = refl

-- the checks after the first
abbrev by_head : Result (ℕ × ℕ) Refusal → GameText → Outcome
by_head z g =
    outcome (check (eqb (header_number z) 1) Variables ∷ check (eqb (header_number z) 2) RowCount ∷ check (has_too_many z) GameVariables
    ∷ check (eqb (game_code (game_answer g)) 5) Text ∷ check (not (eqb (game_code (game_answer g)) 0)) LineVariables ∷ [])

head_decides : (z : Result (ℕ × ℕ) Refusal) → Fair z → (text : List ℕ) (end : ℕ) → by_head z (game_behind text end z) ≡ game_outcome (game_behind text end z)
head_decides z of_variables text end = refl
head_decides z of_rows text end = refl
head_decides z of_text text end = refl
head_decides z (sized n m) text end =
    let lines = lines_behind (lines_from text end) in go (ltb most_game_variables n) (prefix_of lines) (clauses n (tokens_on (behind_prefix lines)))
  where
    last : (c b : Bool) (rows : List Row) (turns : List GameTurn) → let g = cond c (cond b (game' rows turns) (no_game LineVariables)) (no_game Text) in
        outcome (check (eqb (game_code (game_answer g)) 5) Text ∷ check (not (eqb (game_code (game_answer g)) 0)) LineVariables ∷ []) ≡ game_outcome g
    last true true rows turns = refl
    last true false rows turns = refl
    last false b rows turns = refl

    go : (b : Bool) (bs : Option (List Bound)) (reading : Reading) → let g = cond b (no_game GameVariables) (game_on n m bs reading) in
        cond b (Err GameVariables)
        (outcome (check (eqb (game_code (game_answer g)) 5) Text ∷ check (not (eqb (game_code (game_answer g)) 0)) LineVariables ∷ [])) ≡ game_outcome g
    go true bs reading = refl
    go false None reading = refl
    go false (Some bs) reading = last (complete reading && eqb (length (clause_rows reading)) m) (proper n bs) (clause_rows reading) (game_turns n bs)

game_exact : (text : List ℕ) → game_outcome (game_text text) ≡ outcome (game_judged text)
unfolding game_text
game_exact text =
    on (overlong text)
    (λ e. rw e)
    (λ e. rw e (sym (head_decides (head_of 1 text) (head_fair 1 text) (without_remarks text) (header_of 1 (without_remarks text)).end)))

game_named : (text : List ℕ) → game_text text ≡ game_text (named_text text)
unfolding game_text
game_named text =
    on (overlong text)
    (λ e. rw (e, text_named text ∙ e))
    (λ e. ap game_text (sym (text_whole text e)))

game_occurs : map (λ a. (judge_game.call a).returned) judge_game.examples ≡ 0 ∷ judge_game.numbers
unfolding game_text without_remarks lines_of kept header_of past_remarks parts_from cut not_empty run trimmed same clauses number_read decimal_of digits_after
    put
    bound_on prefix_of behind_prefix tokens_on game_turns
game_occurs = rw overlong-true

pub of_game : Demand1 judge_game
unfolding beside
of_game =
    demand judge_game (as_given judge_game (λ a. refl)) (record {
      judged = λ (text, answer). record {
        numbered = game_number (game_text text) ∙ ap code_of (game_exact text);
        unchanged = λ r e. game_left (game_text text) answer r (game_exact text ∙ e);
      };
      order = λ a. refl;
      occurs = game_occurs;
      split = λ a. refl;
      checked = λ (text, answer). sym (game_exact text) ∙ ap game_outcome (game_named text) ∙ game_exact (named_text text);
      written = λ (text, answer) h. ap (λ (g : GameText). numbers_or (game_numbers (game_answer g)) answer ∷ []) (game_named text);
    })

-- ---- the budget line

run-cut : (p : ℕ → Bool) (l : List ℕ) → run p (take (suc (run p l)) l) ≡ run p l
unfolding run
run-cut p [] = refl
run-cut p (b ∷ bs) = go (p b) refl (run-cut p bs)
  where
    go : (c : Bool) → p b ≡ c → run p (take (suc (run p bs)) bs) ≡ run p bs
        → run p (take (suc (cond c (suc (run p bs)) 0)) (b ∷ bs)) ≡ cond c (suc (run p bs)) 0
    go true e h = rw e (ap suc h)
    go false e h = rw e

drop-cut : (k : ℕ) (l : List ℕ) → drop k (take (suc k) l) ≡ take 1 (drop k l)
drop-cut zero l = refl
drop-cut (suc k) [] = refl
drop-cut (suc k) (x ∷ xs) = drop-cut k xs

-- what a field leads to, by how many bytes there are up to its rest
abbrev by_length : (List ℕ → ℕ) → Field → Result ℕ Refusal
by_length size f = on_field f (Err NumberLine) (λ v rest. cond (leb (size rest) 100) (Ok v) (Err NumberLine))

closed-cut : (size size' : List ℕ → ℕ) (ds rest : List ℕ) → ((b : ℕ) (r : List ℕ) → rest ≡ b ∷ r → size r ≡ size' [])
    → by_length size (closed_field 10 ds rest) ≡ by_length size' (closed_field 10 ds (take 1 rest))
closed-cut size size' [] rest h = refl
closed-cut size size' (d ∷ ds) [] h = refl
closed-cut size size' (d ∷ ds) (b ∷ r) h = go (eqb b 10) (digits_after 0 (d ∷ ds))
  where
    on_bound : (c : Bool) (v : ℕ) → by_length size (cond c (field v r) no_field) ≡ by_length size' (cond c (field v []) no_field)
    on_bound true v = ap (λ (j : ℕ). cond (leb j 100) (Ok v) (Err NumberLine)) (h b r refl)
    on_bound false v = refl

    go : (c : Bool) (o : Option ℕ) → by_length size (cond c (bounded o r) no_field) ≡ by_length size' (cond c (bounded o []) no_field)
    go true None = refl
    go true (Some v) = on_bound (ltb v (2 ^ 64)) v
    go false o = refl

-- the digits of a budget line and the byte after them are all that is read of it
pub budget_named : (line : List ℕ) → budget_of line ≡ budget_of (take (suc (run is_digit line)) line)
unfolding field_of
budget_named line =
    let k = run is_digit line in
    let cut = take (suc k) line in
    closed-cut (λ r. length line - length r) (λ r. length cut - length r) (take k line) (drop k line)
    (λ b r e. omega (arith, length-drop k line, ap length e, length-take (suc k) line))
    ∙ ap₂ (λ (ds rest : List ℕ). by_length (λ r. length cut - length r) (closed_field 10 ds rest))
    (sym (take-take k (suc k) line (omega arith))) (sym (drop-cut k line))
    ∙ ap (λ (j : ℕ). by_length (λ r. length cut - length r) (closed_field 10 (take j cut) (drop j cut))) (sym (run-cut is_digit line))

-- a line is refused with 8 alone
pub data Fair' : Result ℕ Refusal → Type 0 where
  budgeted : (v : ℕ) → Fair' (Ok v)
  of_line : Fair' (Err NumberLine)

-- every budget line is read or refused so
pub budget_fair : (line : List ℕ) → Fair' (budget_of line)
budget_fair line = go (field_of 10 line)
  where
    short : (v : ℕ) (b : Bool) → Fair' (cond b (Ok v) (Err NumberLine))
    short v true = budgeted v
    short v false = of_line

    go : (f : Field) → Fair' (by_length (λ r. length line - length r) f)
    go no_field = of_line
    go (field v rest) = short v (leb (length line - length rest) 100)

abbrev budget_call : List ℕ → Result ℕ Refusal → Effect
budget_call lent b = record {
  returned = budget_code b;
  judged = check (not (eqb (budget_code b) 0)) NumberLine ∷ [];
  lent = lent ∷ [];
  left = numbers_or (budget_numbers b) lent ∷ [];
}

budget_judged : (lent : List ℕ) (b : Result ℕ Refusal) → Fair' b → Judged (budget_call lent b)
budget_judged lent b (budgeted v) = record { numbered = refl; unchanged = λ r e. absurd (refused-taken (sym e)) }
budget_judged lent b of_line = record { numbered = refl; unchanged = λ r e. refl }

pub of_read_budget : Demand1 read_budget
unfolding field_of run digits_after
of_read_budget =
    whole read_budget (as_given read_budget (λ a. refl)) (λ (line, lent). budget_judged lent (budget_of line) (budget_fair line)) (λ a. refl) refl (λ a. refl)
    (λ (line, lent). ap (budget_call lent) (budget_named line))
