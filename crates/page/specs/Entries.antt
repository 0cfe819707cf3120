-- What the entries give: document 02, "The watch page", refusals 12, 14, 25, 26 for a page that is made and 1, 25, 26, 27 for one that is
-- read, "in that order".
-- Ask: Is p × s a product of numbers, and 12, 14, 25, 26 the order, or 1, 25, 26, 27?
use Rattle.refusals.specs.declared.Refusal.{Refusal}
use Rattle.std.specs.Prelude.{ℕ, ◌*◌, not, List, [], ◌∷◌, ◌++◌, eqb, ltb, length, Result, Ok, Err}
use Rattle.std.proofs.lemmas.List.Edits.{sets}
use Rattle.refusals.specs.Checks.{Check, check, outcome, given}
use Rattle.refusals.specs.declared.Refusal.TheVariants.{Variables, WatchCount, PageBuffer, PageForm}
use Rattle.dimensions.specs.Sizes.{most_variables, outside}
use Rattle.state.specs.declared.Run.{Run}
use Rattle.verdicts.specs.Verdicts.{model_checks}
use Rattle.page.specs.Page.{page_of}
use Rattle.page.specs.Reading.{marked, is_page}

-- 25: p × s is not n, the product of the numbers; 26: the lent bytes are fewer than 80 × p
abbrev pub shape_checks : ℕ → ℕ → ℕ → ℕ → List Check
shape_checks n p s size = check (not (eqb (p * s) n)) WatchCount ∷ check (ltb size (80 * p)) PageBuffer ∷ []

-- 12, 14, 25, 26
abbrev pub page_checks : Run → ℕ → ℕ → ℕ → List Check
page_checks run p s size = model_checks run ++ shape_checks run.n p s size

-- the lent page afterwards: that of the run's model, T, and then what was there; refused, as it was
unfoldable pub page_after : Run → ℕ → ℕ → List ℕ → List ℕ
page_after run p s page = given (outcome (page_checks run p s (length page))) (sets page 0 (page_of p s run.t)) (λ r. page)

-- 1, 25, 26, 27
abbrev pub read_page_checks : ℕ → ℕ → ℕ → List ℕ → List Check
read_page_checks n p s page =
    check (outside most_variables n) Variables ∷ shape_checks n p s (length page) ++ check (not (is_page n p s page)) PageForm ∷ []

-- the model on a page of n variables, or why there is none
unfoldable pub model_on : ℕ → ℕ → ℕ → List ℕ → Result ℕ Refusal
unfolding marked is_page
model_on n p s page = given (outcome (read_page_checks n p s page)) (Ok (marked n s page)) Err
