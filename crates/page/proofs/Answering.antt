-- What the entries give, by the order of their checks: a page of a run that has a model, and a model of a page that is one.
use mathlib.Core.Path.{◌≡◌, refl, sym, ap, ap₂, ◌∙◌}
use mathlib.Core.Bool.{Bool, true, false, not, cond}
use mathlib.Core.List.{List, [], ◌∷◌, ◌++◌}
use Prim.Native.Nat.{ℕ, ◌^◌, ◌≤◌, ◌<◌}
use native.Mathlib.Omega.{arith}
use lib.ListN.{length}
use lib.Seq.{sets}
use borrow.Author.Tests.{not-false}
use Rattle.std.specs.Prelude.{Result, Ok, Err}
use Rattle.refusals.specs.Checks.{check, outcome, given}
use Rattle.refusals.specs.Numbers.{Outcome, said}
use Rattle.refusals.specs.declared.Refusal.{Refusal}
use Rattle.refusals.specs.declared.Refusal.TheVariants.{Variables, PageForm}
use Rattle.refusals.specs.declared.Refusal.TheVariants as refusal
use Rattle.refusals.proofs.Outcomes.{check_passed, outcome-taken, outcome-refused, given-said}
use Rattle.dimensions.specs.Sizes.{outside}
use Rattle.state.specs.declared.Run.{Run}
use Rattle.state.specs.State.{state_of}
use Rattle.state.specs.WellFormed.{well_formed}
use Rattle.state.proofs.WellFormedLaws.{formed_e}
use Rattle.state.proofs.HeldRun.{formed_run_e}
use Rattle.verdicts.specs.Verdicts.{model_checks, model_of, model_code, model_numbers}
use Rattle.page.specs.Page.{page_of}
use Rattle.page.specs.Reading.{marked, is_page}
use Rattle.page.specs.Entries.{shape_checks, page_checks, page_after, read_page_checks, model_on}

-- ---- a page that is made

-- what a run has that passes 12 and 14: its model is T, which is a model of n variables
pub record Shown (run : Run) : Type 0 where
  pub passed : outcome (model_checks run) ≡ Ok tt
  pub least : 1 ≤ run.n
  pub most : run.n ≤ 32
  pub low : run.t < 2 ^ run.n

-- a run that passes them has these
pub shown : (run : Run) → outcome (model_checks run) ≡ Ok tt → Shown run
shown run e =
    let w = not-false (well_formed run) (check_passed (not (well_formed run)) refusal.State _ e) in
    let f = formed_run_e run w in
    record { passed = e; least = f.least; most = f.most; low = (formed_e run.n (state_of run) f.state).own.low_t }

-- an answer that is a model, and one that is a refusal
model-given : (o : Outcome) (t m : ℕ) → Ok m ≡ given o (Ok t) Err → (o ≡ Ok tt) × (m ≡ t)
model-given (Ok _) t m e = (refl, cc)
model-given (Err r) t m e = let z : ◌≡◌ {A = ℕ} 0 1 = cc in absurd (omega arith)

refusal-given : (o : Outcome) (t : ℕ) (q : Refusal) → Err q ≡ given o (Ok t) Err → o ≡ Err q
refusal-given (Ok _) t q e = let z : ◌≡◌ {A = ℕ} 0 1 = cc in absurd (omega arith)
refusal-given (Err r) t q e = let z : r ≡ q = cc in ap Err z

module _ (run : Run) where
  pub model-taken : (m : ℕ) → Ok m ≡ model_of run → (outcome (model_checks run) ≡ Ok tt) × (m ≡ run.t)
  unfolding model_of
  model-taken m e = model-given (outcome (model_checks run)) run.t m e

  pub model-refused : (q : Refusal) → Err q ≡ model_of run → outcome (model_checks run) ≡ Err q
  unfolding model_of
  model-refused q e = refusal-given (outcome (model_checks run)) run.t q e

  module _ (p s : ℕ) (page : List ℕ) where
    -- 12 and 14 decide first
    pub page-refused : (q : Refusal) → outcome (model_checks run) ≡ Err q → Err q ≡ outcome (page_checks run p s (length page))
    page-refused q e = sym (outcome-refused (model_checks run) (shape_checks run.n p s (length page)) q e)

    -- and then shape and size
    pub page_shaped : outcome (model_checks run) ≡ Ok tt → outcome (shape_checks run.n p s (length page)) ≡ outcome (page_checks run p s (length page))
    page_shaped e = sym (outcome-taken (model_checks run) (shape_checks run.n p s (length page)) e)

    -- what the lent page holds
    pub page-left : (o : Outcome) → o ≡ outcome (page_checks run p s (length page))
        → (m : ℕ) → m ≡ run.t → given o (sets page 0 (page_of p s m)) (λ r. page) ≡ page_after run p s page
    unfolding page_after
    page-left o e m h = ap₂ (λ (x : Outcome) (y : ℕ). given x (sets page 0 (page_of p s y)) (λ r. page)) e h

-- ---- a page that is read

module _ (n p s : ℕ) (page : List ℕ) where
  -- what is given says its number and its values
  pub with_read : (r : Result ℕ Refusal) → r ≡ model_on n p s page
      → (r ≡ model_on n p s page) × (model_code r ∷ model_numbers r ≡ said (outcome (read_page_checks n p s page)) (marked n s page ∷ []))
  unfolding model_on
  with_read r e =
      let says : Result ℕ Refusal → List ℕ = λ x. model_code x ∷ model_numbers x in
      (e, ap says e ∙ given-said says (outcome (read_page_checks n p s page)) (Ok (marked n s page)) Err _ refl (λ q. refl))

  -- 1
  pub read_variables : outside 32 n ≡ true → Err Variables ≡ model_on n p s page
  unfolding model_on
  read_variables h = rw h

  module _ (h : outside 32 n ≡ false) where
    read_as : (o : Outcome) → outcome (shape_checks n p s (length page) ++ check (not (is_page n p s page)) PageForm ∷ []) ≡ o
        → given o (Ok (marked n s page)) Err ≡ model_on n p s page
    unfolding model_on
    read_as o e = sym (ap₂ (λ (b : Bool) (x : Outcome). given (cond b (Err Variables) x) (Ok (marked n s page)) Err) h e)

    -- 25, 26
    pub read_shape : (q : Refusal) → outcome (shape_checks n p s (length page)) ≡ Err q → Err q ≡ model_on n p s page
    read_shape q e = read_as (Err q) (outcome-refused (shape_checks n p s (length page)) (check (not (is_page n p s page)) PageForm ∷ []) q e)

    module _ (taken : outcome (shape_checks n p s (length page)) ≡ Ok tt) where
      last : outcome (shape_checks n p s (length page) ++ check (not (is_page n p s page)) PageForm ∷ []) ≡ outcome
          (check (not (is_page n p s page)) PageForm ∷ [])
      last = outcome-taken (shape_checks n p s (length page)) (check (not (is_page n p s page)) PageForm ∷ []) taken

      -- 27
      pub read_form : is_page n p s page ≡ false → Err PageForm ≡ model_on n p s page
      read_form e = read_as (Err PageForm) (last ∙ ap (λ (b : Bool). outcome (check (not b) PageForm ∷ [])) e)

      -- a page that is one is read as what its marks say
      pub read-model : is_page n p s page ≡ true → Ok (marked n s page) ≡ model_on n p s page
      read-model e = read_as (Ok tt) (last ∙ ap (λ (b : Bool). outcome (check (not b) PageForm ∷ [])) e)

  -- a model that is read has passed all checks, and is what the marks say
  pub model-read : (m : ℕ) → Ok m ≡ model_on n p s page → (outcome (read_page_checks n p s page) ≡ Ok tt) × (m ≡ marked n s page)
  unfolding model_on
  model-read m e = model-given (outcome (read_page_checks n p s page)) (marked n s page) m e
