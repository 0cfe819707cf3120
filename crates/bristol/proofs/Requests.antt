-- What asking for a line gives, by what its checks find: each law computes the list of checks.
use mathlib.Core.Path.{◌≡◌, refl, sym, ap, ◌∙◌}
use mathlib.Core.Bool.{Bool, true, false, not, cond}
use mathlib.Core.List.{List, [], ◌∷◌, flatten}
use Prim.Native.Nat.{ℕ, ◌+◌, ◌/◌, ◌≤◌, ◌<◌}
use native.Mathlib.Omega.{arith}
use borrow.Author.Tests.{lt-ltb, le-ltb, ltb-true, ltb-false, not-false}
use lib.Dec.{ltb}
use lib.ListN.{length, get_or-eq_default}
use Rattle.std.specs.Prelude.{Option, Some, None, Result, Ok, Err}
use Rattle.refusals.specs.declared.Refusal.{Refusal}
use Rattle.refusals.specs.declared.Refusal.TheVariants.{Gates, LineBuffer}
use Rattle.refusals.specs.Checks.{check, outcome, given}
use Rattle.refusals.specs.Numbers.{Outcome, said}
use Rattle.refusals.proofs.Outcomes.{outcome-taken, outcome-refused, outcome_parts, check_passed, given-said}
use Rattle.dimensions.specs.declared.Dimensions.{Dimensions}
use Rattle.dimensions.specs.Sizes.{size_checks, input_wires}
use Rattle.dimensions.proofs.Limits.{Within, within}
use Rattle.gates.specs.Memory.{gates_of, accepted, over}
use Rattle.bristol.specs.Text.{circuit_lines}
use Rattle.bristol.specs.Writing.{
  circuit_checks,
  line_at,
  line_checks,
  written_line,
  line_code,
  line_numbers,
  filled_line,
  lines_written_from,
  written_lines,
  lines_code,
}
use Rattle.bristol.specs.Writing.{lines_numbers}
use Rattle.bristol.specs.Writing.{filled_lines}
use Rattle.bristol.proofs.Numbering.{lines_of_words}

-- a line put to lent bytes, which stay as they are where it is too long
abbrev pub Fits : List ℕ → List ℕ → Result ℕ Refusal → List ℕ → Type 0
Fits l lent r out = (r ≡ cond (ltb (length lent) (length l)) (Err LineBuffer) (Ok (length l))) × (out ≡ cond (ltb (length lent) (length l)) lent (over l lent))

-- a line that was put had room
pub was-put : (l lent : List ℕ) (r : Result ℕ Refusal) (out : List ℕ) (k : ℕ) → Fits l lent r out → r ≡ Ok k
    → (length l ≡ k) × (length l ≤ length lent) × (out ≡ over l lent)
was-put l lent r out k f w = go (ltb (length lent) (length l)) refl f.0 f.1
  where
    go : (b : Bool) → ltb (length lent) (length l) ≡ b → r ≡ cond b (Err LineBuffer) (Ok (length l)) → out ≡ cond b lent (over l lent)
        → (length l ≡ k) × (length l ≤ length lent) × (out ≡ over l lent)
    go true q x y = absurd (let z : ◌≡◌ {A = ℕ} 0 1 = cc in omega arith)
    go false q x y = (cc, ltb-false _ _ q, y)

-- a line that was refused is too long
pub not-put : (l lent : List ℕ) (r : Result ℕ Refusal) (out : List ℕ) (e : Refusal) → Fits l lent r out → r ≡ Err e
    → (e ≡ LineBuffer) × (length lent < length l) × (out ≡ lent)
not-put l lent r out e f w = go (ltb (length lent) (length l)) refl f.0 f.1
  where
    go : (b : Bool) → ltb (length lent) (length l) ≡ b → r ≡ cond b (Err LineBuffer) (Ok (length l)) → out ≡ cond b lent (over l lent)
        → (e ≡ LineBuffer) × (length lent < length l) × (out ≡ lent)
    go true q x y = (cc, ltb-true _ _ q, y)
    go false q x y = absurd (let z : ◌≡◌ {A = ℕ} 0 1 = cc in omega arith)

-- a length as the line writer returns it
abbrev pub with_some : Result ℕ Refusal → Result (Option ℕ) Refusal
with_some (Ok k) = Ok (Some k)
with_some (Err r) = Err r

module _ (d : Dimensions) (ws : List ℕ) where
  pub refuse_size : (q : Refusal) → outcome (size_checks d) ≡ Err q → Err q ≡ outcome (circuit_checks d ws)
  refuse_size q e = sym (outcome-refused (size_checks d) (check (not (accepted (input_wires d) ws)) Gates ∷ []) q e)

  module _ (s : outcome (size_checks d) ≡ Ok tt) where
    -- the checks on the sizes are passed: the gates decide
    by_gates : outcome (circuit_checks d ws) ≡ outcome (check (not (accepted (input_wires d) ws)) Gates ∷ [])
    by_gates = outcome-taken (size_checks d) (check (not (accepted (input_wires d) ws)) Gates ∷ []) s

    pub refuse_gates : not (accepted (input_wires d) ws) ≡ true → Err Gates ≡ outcome (circuit_checks d ws)
    refuse_gates e = sym (by_gates ∙ ap (λ (b : Bool). outcome (check b Gates ∷ [])) e)

    -- where the sizes are taken and the words are accepted as gates after the inputs, the circuit is taken
    pub take-circuit : not (accepted (input_wires d) ws) ≡ false → Ok tt ≡ outcome (circuit_checks d ws)
    take-circuit e = sym (by_gates ∙ ap (λ (b : Bool). outcome (check b Gates ∷ [])) e)

  -- a circuit that is taken has dimensions within the limits
  pub taken-within : outcome (circuit_checks d ws) ≡ Ok tt → Within d
  taken-within e = within d (outcome_parts (size_checks d) (check (not (accepted (input_wires d) ws)) Gates ∷ []) e).0

  -- and accepted gates
  pub taken-accepted : outcome (circuit_checks d ws) ≡ Ok tt → accepted (input_wires d) ws ≡ true
  taken-accepted e =
      let gates = not (accepted (input_wires d) ws) in
      not-false _ (check_passed gates Gates (Ok tt) (outcome_parts (size_checks d) (check gates Gates ∷ []) e).1)

  -- and so many lines
  pub taken_lines : outcome (circuit_checks d ws) ≡ Ok tt → length (circuit_lines d (gates_of ws)) ≡ 4 + length ws / 3
  taken_lines e = lines_of_words d ws (taken-accepted e)

  module _ (i : ℕ) (lent : List ℕ) where
    -- what an outcome of the checks leads to
    by-outcome : (o : Outcome) → outcome (line_checks d ws i lent) ≡ o
        → (written_line d ws i lent ≡ given o (cond (ltb i (length (circuit_lines d (gates_of ws)))) (Ok (Some (length (line_at d ws i)))) (Ok None)) Err)
        × (filled_line d ws i lent ≡ given o (over (line_at d ws i) lent) (λ r. lent))
    by-outcome o e = (
      ap (λ (x : Outcome). given x (cond (ltb i (length (circuit_lines d (gates_of ws)))) (Ok (Some (length (line_at d ws i)))) (Ok None)) Err) e,
      ap (λ (x : Outcome). given x (over (line_at d ws i) lent) (λ r. lent)) e,
    )

    -- and for several lines
    lines_by-outcome : (o : Outcome) → outcome (line_checks d ws i lent) ≡ o
        → (written_lines d ws i lent ≡ given o (Ok ((length (lines_written_from d ws i lent)), (length (flatten (lines_written_from d ws i lent)))))
        Err)
        × (filled_lines d ws i lent ≡ given o (over (flatten (lines_written_from d ws i lent)) lent) (λ r. lent))
    lines_by-outcome o e = (
      ap (λ (x : Outcome). given x (Ok ((length (lines_written_from d ws i lent)), (length (flatten (lines_written_from d ws i lent))))) Err) e,
      ap (λ (x : Outcome). given x (over (flatten (lines_written_from d ws i lent)) lent) (λ r. lent)) e,
    )

    -- what is given says its number and its values
    module _ (out : List ℕ) where
      pub with-line : (r : Result (Option ℕ) Refusal) → (r ≡ written_line d ws i lent) × (out ≡ filled_line d ws i lent)
          → (r ≡ written_line d ws i lent)
          × ((out ≡ filled_line d ws i lent) × (line_code r ∷ line_numbers r ≡ said (outcome (line_checks d ws i lent)) (length (line_at d ws i) ∷ [])))
      with-line r p = (
        p.0,
        (
          p.1,
          ap says p.0 ∙ given-said says (outcome (line_checks d ws i lent)) (at (ltb i all)) Err _
              (go (ltb i all) refl) (λ q. refl),
        ),
      )
        where
          says : Result (Option ℕ) Refusal → List ℕ
          says x = line_code x ∷ line_numbers x

          all : ℕ
          all = length (circuit_lines d (gates_of ws))

          at : Bool → Result (Option ℕ) Refusal
          at b = cond b (Ok (Some (length (line_at d ws i)))) (Ok None)

          go : (b : Bool) → ltb i all ≡ b → says (at b) ≡ 0 ∷ (length (line_at d ws i) ∷ [])
          go true h = refl
          go false h = ap (λ (l : List ℕ). 0 ∷ (length l ∷ [])) (sym (get_or-eq_default (circuit_lines d (gates_of ws)) [] (ltb-false i all h)))

      pub with_lines : (r : Result (ℕ × ℕ) Refusal) → (r ≡ written_lines d ws i lent) × (out ≡ filled_lines d ws i lent)
          → (r ≡ written_lines d ws i lent)
          × ((out ≡ filled_lines d ws i lent)
          × (lines_code r ∷ lines_numbers r ≡ said (outcome (line_checks d ws i lent))
          (length (lines_written_from d ws i lent) ∷ (length (flatten (lines_written_from d ws i lent)) ∷ []))))
      with_lines r p =
          let says : Result (ℕ × ℕ) Refusal → List ℕ = λ x. lines_code x ∷ lines_numbers x in (
            p.0,
            (
              p.1,
              ap says p.0 ∙ given-said says (outcome (line_checks d ws i lent))
                  (Ok ((length (lines_written_from d ws i lent)), (length (flatten (lines_written_from d ws i lent))))) Err _ refl (λ q. refl),
            ),
          )

    module _ (q : Refusal) (e : outcome (circuit_checks d ws) ≡ Err q) where
      refused : outcome (line_checks d ws i lent) ≡ Err q
      refused = outcome-refused (circuit_checks d ws) (check (ltb (length lent) (length (line_at d ws i))) LineBuffer ∷ []) q e

      pub refuse_circuit : (Err q ≡ written_line d ws i lent) × (lent ≡ filled_line d ws i lent)
      refuse_circuit = let p = by-outcome (Err q) refused in (sym p.0, sym p.1)

      pub refuse_lines : (Err q ≡ written_lines d ws i lent) × (lent ≡ filled_lines d ws i lent)
      refuse_lines = let p = lines_by-outcome (Err q) refused in (sym p.0, sym p.1)

    module _ (e : outcome (circuit_checks d ws) ≡ Ok tt) where
      -- the room decides
      by-room : (b : Bool) → ltb (length lent) (length (line_at d ws i)) ≡ b → outcome (line_checks d ws i lent) ≡ outcome (check b LineBuffer ∷ [])
      by-room b h =
          outcome-taken (circuit_checks d ws) (check (ltb (length lent) (length (line_at d ws i))) LineBuffer ∷ []) e
          ∙ ap (λ (x : Bool). outcome (check x LineBuffer ∷ [])) h

      pub past_last : length (circuit_lines d (gates_of ws)) ≤ i → (Ok None ≡ written_line d ws i lent) × (lent ≡ filled_line d ws i lent)
      past_last h =
          let none : line_at d ws i ≡ [] = get_or-eq_default (circuit_lines d (gates_of ws)) [] h in
          let p = by-outcome (Ok tt) (by-room false (ap (λ (l : List ℕ). ltb (length lent) (length l)) none ∙ le-ltb (length lent) 0 (omega arith))) in
          let past : ltb i (length (circuit_lines d (gates_of ws))) ≡ false = le-ltb _ _ h in
          (sym (p.0 ∙ ap (λ (b : Bool). cond b (Ok (Some (length (line_at d ws i)))) (Ok None)) past), sym (p.1 ∙ ap (λ (l : List ℕ). over l lent) none))

      -- a line that there is, put if it fits
      pub line-put : i < length (circuit_lines d (gates_of ws))
          → (cond (ltb (length lent) (length (line_at d ws i))) (Err LineBuffer) (Ok (Some (length (line_at d ws i)))) ≡ written_line d ws i lent)
          × (cond (ltb (length lent) (length (line_at d ws i))) lent (over (line_at d ws i) lent) ≡ filled_line d ws i lent)
      line-put h = go (ltb (length lent) (length (line_at d ws i))) refl
        where
          there : ltb i (length (circuit_lines d (gates_of ws))) ≡ true
          there = lt-ltb _ _ h

          go : (b : Bool) → ltb (length lent) (length (line_at d ws i)) ≡ b
              → (cond b (Err LineBuffer) (Ok (Some (length (line_at d ws i)))) ≡ written_line d ws i lent)
              × (cond b lent (over (line_at d ws i) lent) ≡ filled_line d ws i lent)
          go true q = let p = by-outcome (Err LineBuffer) (by-room true q) in (sym p.0, sym p.1)
          go false q =
              let p = by-outcome (Ok tt) (by-room false q) in
              (sym (p.0 ∙ ap (λ (b : Bool). cond b (Ok (Some (length (line_at d ws i)))) (Ok None)) there), sym p.1)

      -- what is put is what is asked
      pub line_asked : i < length (circuit_lines d (gates_of ws)) → (r : Result ℕ Refusal) (out : List ℕ) → Fits (line_at d ws i) lent r out
          → (with_some r ≡ written_line d ws i lent) × (out ≡ filled_line d ws i lent)
      line_asked h r out f = (
        ap with_some f.0 ∙ raised (ltb (length lent) (length (line_at d ws i))) ∙ (line-put h).0,
        f.1 ∙ (line-put h).1,
      )
        where
          raised : (b : Bool) → with_some (cond b (Err LineBuffer) (Ok (length (line_at d ws i))))
              ≡ cond b (Err LineBuffer) (Ok (Some (length (line_at d ws i))))
          raised true = refl
          raised false = refl

      -- several lines: whether the first of them has room decides
      pub lines_by-room : (b : Bool) → ltb (length lent) (length (line_at d ws i)) ≡ b
          → (written_lines d ws i lent ≡ cond b (Err LineBuffer)
          (Ok ((length (lines_written_from d ws i lent)), (length (flatten (lines_written_from d ws i lent))))))
          × (filled_lines d ws i lent ≡ cond b lent (over (flatten (lines_written_from d ws i lent)) lent))
      lines_by-room true q = lines_by-outcome (Err LineBuffer) (by-room true q)
      lines_by-room false q = lines_by-outcome (Ok tt) (by-room false q)
