-- What the readers of lines say, as number and values: by the fields of the line, each found or not, and by its length.
use mathlib.Core.Path.{◌≡◌, refl, ap, ◌∙◌}
use mathlib.Core.Bool.{Bool, true, false, cond}
use mathlib.Core.List.{List, [], ◌∷◌}
use Prim.Native.Nat.{ℕ}
use Rattle.std.specs.Prelude.{Result, Ok, Err}
use Rattle.refusals.specs.declared.Refusal.{Refusal}
use Rattle.refusals.specs.declared.Refusal.TheVariants.{NumberLine}
use Rattle.lines.specs.Numbers.{Field, field, no_field, field_of, short_line, on_field}
use Rattle.lines.specs.Numbers.{on_budget, budget_of, budget_code, budget_numbers, on_dimension_line, dimension_line_of}
use Rattle.lines.specs.Numbers.{dimension_line_said}

-- what is said of a field, and of a test
said_field : {A : Type 0} (says : A → List ℕ) (f : Field) (a : A) (g : ℕ → List ℕ → A) (h : ℕ → List ℕ → List ℕ)
    → ((v : ℕ) (rest : List ℕ) → says (g v rest) ≡ h v rest) → says (on_field f a g) ≡ on_field f (says a) h
said_field says no_field a g h e = refl
said_field says (field v rest) a g h e = e v rest

said_if : {A : Type 0} (says : A → List ℕ) (b : Bool) (x y : A) → says (cond b x y) ≡ cond b (says x) (says y)
said_if says true x y = refl
said_if says false x y = refl

pub budget_said : (input : List ℕ) (r : Result ℕ Refusal) → r ≡ budget_of input
    → (r ≡ budget_of input) × (budget_code r ∷ budget_numbers r ≡ on_budget input (8 ∷ []) (λ v. 0 ∷ (v ∷ [])))
budget_said input r e =
    let says : Result ℕ Refusal → List ℕ = λ x. budget_code x ∷ budget_numbers x in
    let no = Err NumberLine in
    (e, ap says e ∙ said_field says (field_of 10 input) no _ _ (λ v rest. said_if says (short_line input rest) (Ok v) no))

pub size-said : (input : List ℕ) (r : Result (ℕ × ℕ × ℕ × ℕ) Refusal) → r ≡ dimension_line_of input
    → (r ≡ dimension_line_of input) × (dimension_line_said r
    ≡ on_dimension_line input (8 ∷ []) (λ n left right public. 0 ∷ (n ∷ (left ∷ (right ∷ (public ∷ []))))))
size-said input r e =
    let says : Result (ℕ × ℕ × ℕ × ℕ) Refusal → List ℕ = dimension_line_said in
    let no = Err NumberLine in (
      e,
      ap says e
          ∙ said_field says (field_of 32 input) no _ _ (λ n second.
          said_field says (field_of 32 second) no _ _ (λ left third.
          said_field says (field_of 32 third) no _ _ (λ right fourth.
          said_field says (field_of 10 fourth) no _ _ (λ public rest. said_if says (short_line input rest) (Ok (n, left, right, public)) no)))),
    )
