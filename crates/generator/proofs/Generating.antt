-- What the generator gives, by what its checks find, and how many gates these are: from the order of the checks.
use mathlib.Core.Path.{◌≡◌, refl, ap, sym, ◌∙◌, subst}
use mathlib.Core.List.{List, [], ◌∷◌, ◌++◌}
use Prim.Native.Nat.{ℕ, ◌+◌, ◌*◌, ◌-◌, ◌≤◌, ◌<◌}
use native.Mathlib.Nat.{zero-add}
use native.Mathlib.Omega.{arith}
use borrow.Author.Tests.{lt-ltb, le-ltb}
use lib.Dec.{ltb}
use lib.ListN.{length, take, drop}
use lib.Seq.{sets, sets-eq, take_at}
use Rattle.std.specs.Prelude.{Result, Ok, Err}
use Rattle.refusals.specs.declared.Refusal.{Refusal}
use Rattle.refusals.specs.declared.Refusal.TheVariants.{GateBuffer}
use Rattle.refusals.specs.Checks.{Check, check, outcome, given}
use Rattle.refusals.specs.Numbers.{Outcome, said}
use Rattle.refusals.proofs.Outcomes.{outcome-taken, outcome-refused, given-said}
use Rattle.dimensions.specs.declared.Dimensions.{Dimensions}
use Rattle.dimensions.specs.Sizes.{size_checks, ceiling}
use Rattle.dimensions.proofs.Limits.{within}
use Rattle.gates.specs.Memory.{words_of, over}
use Rattle.gates.proofs.InMemory.{words-length}
use Rattle.sections.specs.declared.Addresses.{Addresses}
use Rattle.sections.specs.Addressing.{digits_for, addresses, addresses_on}
use Rattle.netlist.specs.Outputs.{CarriesOut}
use Rattle.netlist.specs.Netlist.{circuit, gates_for, gates_on}
use Rattle.generator.specs.Generation.{generator_checks, generated, generated_code, generated_numbers, written_words, Carried}
use Rattle.netlist.proofs.EveryState.{gates_carry_out}
use Rattle.netlist.proofs.Counts.{circuit-length}
use Rattle.generator.proofs.Room.{gates_few}

-- the number of gates, counted
pub counted : (n m : ℕ) (a : Addresses) → a ≡ addresses n m → a.wires - a.inputs ≡ length (circuit (addresses n m))
counted n m a e = ap (λ (x : Addresses). x.wires - x.inputs) e ∙ omega (arith, circuit-length n m (digits_for n))

module _ (d : Dimensions) (words : List ℕ) where
  buffer_checks : List Check
  buffer_checks = check (ltb (length words) (3 * ceiling d)) GateBuffer ∷ []

  -- what is given says its number and its values
  pub with-said : (r : Result ℕ Refusal) (w : List ℕ) → (r ≡ generated d words) × ((w ≡ written_words d words) × Carried d r w)
      → (r ≡ generated d words)
      × ((w ≡ written_words d words)
      × (Carried d r w × (generated_code r ∷ generated_numbers r ≡ said (outcome (generator_checks d words)) (length (gates_on d) ∷ []))))
  with-said r w p =
      let says : Result ℕ Refusal → List ℕ = λ x. generated_code x ∷ generated_numbers x in
      (p.0, (p.1.0, (p.1.1, ap says p.0 ∙ given-said says (outcome (generator_checks d words)) (Ok (length (gates_on d))) Err _ refl (λ q. refl))))

  -- what follows from the outcome
  by-outcome : (o : Outcome) → outcome (generator_checks d words) ≡ o
      → (given o (Ok (length (gates_on d))) Err ≡ generated d words) × (given o (over (words_of (gates_on d)) words) (λ r. words) ≡ written_words d words)
  by-outcome o e = (
    ap (λ (x : Outcome). given x (Ok (length (gates_on d))) Err) (sym e),
    ap (λ (x : Outcome). given x (over (words_of (gates_on d)) words) (λ r. words)) (sym e),
  )

  pub refuse_size : (r : Refusal) → outcome (size_checks d) ≡ Err r
      → (Err r ≡ generated d words) × ((words ≡ written_words d words) × Carried d (Err r) words)
  unfolding buffer_checks
  refuse_size r e =
      let t = by-outcome (Err r) (outcome-refused (size_checks d) buffer_checks r e) in
      (t.0, (t.1, tt))

  module _ (e : outcome (size_checks d) ≡ Ok tt) where
    pub refuse_buffer : length words < 3 * ceiling d → (Err GateBuffer ≡ generated d words)
        × ((words ≡ written_words d words) × Carried d (Err GateBuffer) words)
    unfolding buffer_checks
    refuse_buffer h =
        let t = by-outcome (Err GateBuffer) (outcome-taken (size_checks d) buffer_checks e ∙ rw (lt-ltb _ _ h)) in
        (t.0, (t.1, tt))

    pub taken : 3 * ceiling d ≤ length words → (r : ℕ) (w : List ℕ) → r ≡ length (circuit (addresses_on d))
        → w ≡ sets words 0 (words_of (circuit (addresses_on d)))
        → (Ok r ≡ generated d words) × ((w ≡ written_words d words) × Carried d (Ok r) w)
    unfolding buffer_checks gates_for
    taken h r w er ew =
        let g = circuit (addresses_on d) in
        let t = by-outcome (Ok tt) (outcome-taken (size_checks d) buffer_checks e ∙ rw (le-ltb _ _ h)) in
        let l : 0 + length (words_of g) ≤ length words = omega (arith, words-length g, gates_few d (within d e)) in
        let whole : w ≡ over (words_of g) words = ew ∙ sets-eq (words_of g) words 0 l ∙ ap (λ (k : ℕ). words_of g ++ drop k words)
        (zero-add (length (words_of g))) in
        let front : take (3 * r) w ≡ words_of g = ap (take (3 * r)) whole ∙ take_at (words_of g) _ (3 * r) (omega (arith, words-length g, er)) in
        (ap Ok er ∙ t.0, (whole ∙ t.1, subst (CarriesOut d) (sym front) (gates_carry_out d e)))

-- what the generator's contract promises of the words that it says it wrote
pub words_carry_out : (d : Dimensions) (k : ℕ) (words : List ℕ) → Carried d (Ok k) words → CarriesOut d (take (3 * k) words)
words_carry_out d k words x = x
