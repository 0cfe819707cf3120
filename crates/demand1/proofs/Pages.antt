-- Demand 1 for watch pages, lines and the answer. A page is read as the model that its front shows, so what follows the front makes no difference.
use mathlib.Core.Path.{◌≡◌, refl, sym, ap, ap₂, ◌∙◌}
use mathlib.Core.Bool.{Bool, true, false, cond}
use mathlib.Core.List.{List, [], ◌∷◌, ◌++◌, flatten}
use Prim.Native.Nat.{ℕ, ◌*◌}
use native.Mathlib.Omega.{arith}
use lib.Dec.{ltb}
use lib.ListN.{length, take, drop, take-append-drop}
use lib.Seq.{sets, take-take}
use Rattle.std.specs.Prelude.{Option, Some, None, Result, Ok, Err}
use Rattle.refusals.specs.declared.Refusal.{Refusal}
use Rattle.refusals.specs.Numbers.{Outcome, code_of}
use Rattle.refusals.specs.Checks.{outcome, given}
use Rattle.refusals.proofs.Outcomes.{outcome_parts}
use Rattle.words.proofs.Truth.{on}
use Rattle.words.specs.Sets.{bit, all, word_of}
use Rattle.dimensions.specs.declared.Dimensions.{Dimensions}
use Rattle.dimensions.specs.Sizes.{outside}
use Rattle.state.specs.declared.Run.{Run}
use Rattle.state.specs.WellFormed.{well_formed}
use Rattle.verdicts.specs.Verdicts.{model_checks, model_code, model_numbers}
use Rattle.page.specs.Page.{page_of}
use Rattle.page.specs.Reading.{marked, is_page}
use Rattle.page.specs.Entries.{shape_checks, page_checks, page_after, read_page_checks, model_on}
use Rattle.page.proofs.Lines.{page-length}
use Rattle.page.proofs.Shapes.{shape_taken}
use Rattle.page.proofs.Answering.{shown, read_variables, read_shape, read_form, read-model}
use Rattle.page.proofs.RoundTrip.{page-read, read-page}
use Rattle.gates.specs.Memory.{gates_of, accepted, over}
use Rattle.bristol.specs.Text.{circuit_lines}
use Rattle.bristol.specs.Writing.{line_at, line_checks, line_code, line_numbers, filled_line, lines_written_from, lines_code, lines_numbers}
use Rattle.text.specs.Decimal.{decimal}
use Rattle.codes.specs.Codes.{variable_checks}
use Rattle.answers.specs.Printed.{answer_text}
use Rattle.stored.specs.Words.{run_in}
use Rattle.lent.specs.Lent.{front, numbers_or}
use Rattle.host_lines.specs.Answers.{answer_from}
use Rattle.demand1.specs.Calls.{beside}
use Rattle.demand1.specs.Demand1.{Demand1}
use Rattle.demand1.specs.Examples.{fresh_words, satisfied_words}
use Rattle.demand1.specs.Pages.{page, read_page, write_line, write_lines, answer}
use Rattle.demand1.proofs.Shapes.{by-outcome, demand, whole, as_given, by_number, by-sizes}
use Rattle.demand1.proofs.Fronts.{front-short, sets-front, over-front, front_kept}

-- ---- a page made

module _ (run : Run) (p s : ℕ) (lent : List ℕ) where
  page-checked : page_checks run p s (length lent) ≡ page_checks run p s (length (take (80 * p) lent))
  page-checked = rw (← front-short (80 * p) lent)

  page_written : outcome (page_checks run p s (length lent)) ≡ Ok tt
      → page_after run p s lent ≡ page_after run p s (take (80 * p) lent) ++ drop (80 * p) lent
  unfolding page_after
  page_written h =
      let parts = outcome_parts (model_checks run) (shape_checks run.n p s (length lent)) h in
      let r = shown run parts.0 in
      let w = shape_taken run.n p s (length lent) r.least r.most parts.1 in
      front_kept _ _ _ _ h (ap outcome page-checked)
      (sets-front (page_of p s run.t) (80 * p) lent (omega (arith, page-length p s run.t w.pilots_most w.watches_most)))

pub of_page : Demand1 page
unfolding page_after run_in fresh_words satisfied_words well_formed all bit beside
of_page =
    demand page (as_given page (λ a. refl)) (record {
      judged = λ (run, p, s, lent).
          by-outcome (page_checks (run_in run) p s (length lent)) (lent ∷ []) code_of
          (λ o. given o (sets lent 0 (page_of p s (run_in run).t)) (λ r. lent) ∷ []) refl (λ r. refl) (λ r. refl);
      order = λ a. refl;
      occurs = refl;
      split = λ (run, p, s, lent). ap (λ (l : List ℕ). l ∷ []) (sym (take-append-drop (80 * p) lent));
      checked = λ (run, p, s, lent). ap outcome (page-checked (run_in run) p s lent);
      written = λ (run, p, s, lent) h. ap (λ (l : List ℕ). l ∷ []) (page_written (run_in run) p s lent h);
    })

-- ---- a page read

-- what reading says, as an outcome
abbrev read_outcome : Result ℕ Refusal → Outcome
read_outcome (Ok m) = Ok tt
read_outcome (Err r) = Err r

read-outcome : (n p s : ℕ) (lent : List ℕ) → read_outcome (model_on n p s lent) ≡ outcome (read_page_checks n p s lent)
unfolding model_on
read-outcome n p s lent = go (outcome (read_page_checks n p s lent))
  where
    go : (o : Outcome) → read_outcome (given o (Ok (marked n s lent)) Err) ≡ o
    go (Ok _) = refl
    go (Err r) = refl

module _ (n p s : ℕ) (x y : List ℕ) (fronts : take (80 * p) x ≡ take (80 * p) y) (inside : outside 32 n ≡ false)
    (shaped : outcome (shape_checks n p s (length y)) ≡ Ok tt) where
  -- a page that is read, and another with the same front
  front-model : (m : ℕ) → model_on n p s x ≡ Ok m → model_on n p s x ≡ model_on n p s y
  front-model m e = let r = read-page n p s m x e in e ∙ sym (page-read n p s m y inside shaped r.1 (sym fronts ∙ r.0))

module _ (n p s : ℕ) (lent : List ℕ) where
  abbrev cut : List ℕ
  cut = take (80 * p) lent

  shape_cut : shape_checks n p s (length cut) ≡ shape_checks n p s (length lent)
  shape_cut = rw (front-short (80 * p) lent)

  model-cut : model_on n p s lent ≡ model_on n p s cut
  model-cut =
      on (outside 32 n)
      (λ e. sym (read_variables n p s lent e) ∙ read_variables n p s cut e)
      (λ e. go e (outcome (shape_checks n p s (length lent))) refl)
    where
      go : outside 32 n ≡ false → (o : Outcome) → outcome (shape_checks n p s (length lent)) ≡ o → model_on n p s lent ≡ model_on n p s cut
      go e (Err q) h = sym (read_shape n p s lent e q h) ∙ read_shape n p s cut e q (ap outcome shape_cut ∙ h)
      go e (Ok _) h =
          let k = ap outcome shape_cut ∙ h in
          let f : take (80 * p) lent ≡ take (80 * p) cut = sym (take-take (80 * p) (80 * p) lent (omega arith)) in
          on (is_page n p s lent)
          (λ t. front-model n p s lent cut f e k (marked n s lent) (sym (read-model n p s lent e h t)))
          (λ t. on (is_page n p s cut)
          (λ u. sym (front-model n p s cut lent (sym f) e h (marked n s cut) (sym (read-model n p s cut e k u))))
          (λ u. sym (read_form n p s lent e h t) ∙ read_form n p s cut e k u))

pub of_read-page : Demand1 read_page
unfolding model_on beside decimal bit word_of
of_read-page =
    demand read_page (as_given read_page (λ a. refl)) (record {
      judged = λ (n, p, s, lent, model).
          let m : Outcome → Result ℕ Refusal = λ o. given o (Ok (marked n s lent)) Err in
          by-outcome (read_page_checks n p s lent) (model ∷ []) (λ o. model_code (m o)) (λ o. numbers_or (model_numbers (m o)) model ∷ []) refl (λ r. refl)
          (λ r. refl);
      order = λ a. refl;
      occurs = refl;
      split = λ a. refl;
      checked = λ (n, p, s, lent, model). sym (read-outcome n p s lent) ∙ ap read_outcome (model-cut n p s lent) ∙ read-outcome n p s (take (80 * p) lent);
      written = λ (n, p, s, lent, model) h. ap (λ (m : Result ℕ Refusal). numbers_or (model_numbers m) model ∷ []) (model-cut n p s lent);
    })

-- ---- lines

module _ (d : Dimensions) (gates : List ℕ) (line : ℕ) (bytes : List ℕ) where
  abbrev size : ℕ
  size = length (line_at d gates line)

  line-checked : line_checks d gates line bytes ≡ line_checks d gates line (take size bytes)
  line-checked = rw (← front-short size bytes)

  line_written : outcome (line_checks d gates line bytes) ≡ Ok tt
      → filled_line d gates line bytes ≡ filled_line d gates line (take size bytes) ++ drop size bytes
  line_written h = front_kept _ _ _ _ h (ap outcome line-checked) (over-front (line_at d gates line) size bytes (omega arith))

  abbrev line_by : Outcome → Result (Option ℕ) Refusal
  line_by o = given o (cond (ltb line (length (circuit_lines d (gates_of gates)))) (Ok (Some size)) (Ok None)) Err

  line_taken : line_code (line_by (Ok tt)) ≡ 0
  line_taken = go (ltb line (length (circuit_lines d (gates_of gates))))
    where
      go : (b : Bool) → line_code (cond b (Ok (Some size)) (Ok None)) ≡ 0
      go true = refl
      go false = refl

pub of_write_line : Demand1 write_line
unfolding accepted beside circuit_lines decimal gates_of
of_write_line =
    demand write_line
    (by-sizes write_line (λ a. a.0) (λ (d, gates, line, bytes, length) h i. (h i, gates, line, bytes, length)) (λ a. refl) (λ a. refl) (λ a. refl))
    (record {
      judged = λ (d, gates, line, bytes, number).
          by-outcome (line_checks d gates line bytes) (bytes ∷ number ∷ []) (λ o. line_code (line_by d gates line bytes o))
          (λ o. given o (over (line_at d gates line) bytes) (λ r. bytes) ∷ numbers_or (line_numbers (line_by d gates line bytes o)) number ∷ [])
          (line_taken d gates line bytes) (λ r. refl) (λ r. refl);
      order = λ a. refl;
      occurs = refl;
      split = λ (d, gates, line, bytes, number). ap (λ (l : List ℕ). l ∷ number ∷ []) (sym (take-append-drop (length (line_at d gates line)) bytes));
      checked = λ (d, gates, line, bytes, number). ap outcome (line-checked d gates line bytes);
      written = λ (d, gates, line, bytes, number) h. ap₂ (λ (l m : List ℕ). l ∷ m ∷ []) (line_written d gates line bytes h)
          (ap (λ (o : Outcome). numbers_or (line_numbers (line_by d gates line bytes o)) number) (ap outcome (line-checked d gates line bytes)));
    })

pub of_write_lines : Demand1 write_lines
unfolding accepted circuit_lines decimal gates_of
of_write_lines =
    whole write_lines
    (by-sizes write_lines (λ a. a.0) (λ (d, gates, line, bytes, written) h i. (h i, gates, line, bytes, written)) (λ a. refl) (λ a. refl) (λ a. refl))
    (λ (d, gates, line, bytes, number).
    let l = lines_written_from d gates line bytes in
    let w : Outcome → Result (ℕ × ℕ) Refusal = λ o. given o (Ok ((length l), (length (flatten l)))) Err in
    by-outcome (line_checks d gates line bytes) (bytes ∷ number ∷ []) (λ o. lines_code (w o))
    (λ o. given o (over (flatten l) bytes) (λ r. bytes) ∷ numbers_or (lines_numbers (w o)) number ∷ []) refl (λ r. refl) (λ r. refl))
    (λ a. refl) refl (λ a. refl) (λ a. refl)

pub of_answer : Demand1 answer
of_answer =
    whole answer
    (by_number answer (λ a. a.0) (λ (n, count, verdict, model, text, length) h i. (h i, count, verdict, model, text, length))
    (λ a. refl) (λ a. refl) (λ a. refl))
    (λ (n, count, verdict, model, text, number).
    let printed = answer_text n (answer_from count verdict model) in
    by-outcome (variable_checks n) (text ∷ number ∷ []) code_of
    (λ o. given o (front printed text) (λ r. text) ∷ given o (length printed ∷ []) (λ r. number) ∷ []) refl (λ r. refl) (λ r. refl))
    (λ a. refl) refl (λ a. refl) (λ a. refl)
