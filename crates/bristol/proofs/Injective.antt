-- The text determines gates and dimensions: nothing is lost on the way to the back end. Each of its lines parts from what follows; the gates by induction.
use mathlib.Core.Path.{◌≡◌, refl, sym, ap, ap₂, subst, ◌∙◌}
use mathlib.Core.Bool.{true}
use mathlib.Core.List.{List, [], ◌∷◌, ◌++◌, tail-eq_of_cons-eq, flatten}
use Prim.Native.Nat.{ℕ, suc, ◌+◌, ◌/◌, ◌^◌, ◌≤◌}
use native.Mathlib.Omega.{arith}
use lib.ListN.{length}
use Rattle.words.proofs.Truth.{and_l, and_r}
use Rattle.dimensions.specs.declared.Dimensions.{Dimensions}
use Rattle.dimensions.specs.Sizes.{input_wires}
use Rattle.dimensions.proofs.Limits.{Within}
use Rattle.gates.specs.Gates.{Gate}
use Rattle.gates.specs.Memory.{gates_of, words_of, accepted}
use Rattle.gates.proofs.Circuits.{reads, ordered}
use Rattle.gates.proofs.InMemory.{accepted-length, accepted-ordered, words_gates}
use Rattle.bristol_line.specs.Lines.{input_fields, input_line, output_line}
use Rattle.bristol_line.proofs.Injective.{size-split, input_split, output_split, gate_split, gate_some, dimensions_injective}
use Rattle.bristol.specs.Text.{gate_lines, circuit_lines, circuit_text}

gates_injective : (m : ℕ) (fs gs : List Gate) → m + length fs ≤ 2 ^ 64 → m + length gs ≤ 2 ^ 64 → ordered m fs ≡ true → ordered m gs ≡ true
    → flatten (gate_lines m fs) ≡ flatten (gate_lines m gs) → fs ≡ gs
unfolding ordered gate_lines flatten
gates_injective m [] [] h k p q e = refl
gates_injective m [] (g ∷ gs) h k p q e = absurd (gate_some m g (flatten (gate_lines (suc m) gs)) (sym e))
gates_injective m (f ∷ fs) [] h k p q e = absurd (gate_some m f (flatten (gate_lines (suc m) fs)) e)
gates_injective m (f ∷ fs) (g ∷ gs) h k p q e =
    let parts = gate_split m m (omega arith) f g (flatten (gate_lines (suc m) fs)) (flatten (gate_lines (suc m) gs)) (and_l _ _ p) (and_l _ _ q) e in
    ap₂ (λ (x : Gate) (l : List Gate). x ∷ l) parts.0
    (gates_injective (suc m) fs gs (omega arith) (omega arith) (and_r (reads m f) _ p) (and_r (reads m g) _ q) parts.1)

-- equal texts have the same second header line and the same gate lines
header_split : (d e : Dimensions) (fs gs : List Gate) → circuit_text d fs ≡ circuit_text e gs
    → (input_fields d ≡ input_fields e) × (flatten (gate_lines (input_wires d) fs) ≡ flatten (gate_lines (input_wires e) gs))
unfolding circuit_text circuit_lines flatten
header_split d e fs gs h =
    let s : List ℕ = 10 ∷ flatten (gate_lines (input_wires d) fs) in
    let t : List ℕ = 10 ∷ flatten (gate_lines (input_wires e) gs) in
    let sizes = size-split (length fs) (input_wires d + length fs) (length gs) (input_wires e + length gs) (input_line d ++ (output_line d ++ s)) (input_line e
    ++ (output_line e ++ t)) h in
    let inputs = input_split d e (output_line d ++ s) (output_line e ++ t) sizes in
    (inputs.0, tail-eq_of_cons-eq (output_split d e s t inputs.1))

-- ordered gates whose wires have numbers of 64 bits
pub text_injective : (d : Dimensions) (fs gs : List Gate) → input_wires d + length fs ≤ 2 ^ 64 → input_wires d + length gs ≤ 2 ^ 64
    → ordered (input_wires d) fs ≡ true → ordered (input_wires d) gs ≡ true → circuit_text d fs ≡ circuit_text d gs → fs ≡ gs
text_injective d fs gs h k p q e = gates_injective (input_wires d) fs gs h k p q (header_split d d fs gs e).1

-- in memory: accepted words with the same text are the same words
pub words_injective : (d : Dimensions) (us ws : List ℕ) → input_wires d + length us / 3 ≤ 2 ^ 64 → input_wires d + length ws / 3 ≤ 2 ^ 64
    → accepted (input_wires d) us ≡ true → accepted (input_wires d) ws ≡ true → circuit_text d (gates_of us) ≡ circuit_text d (gates_of ws) → us ≡ ws
words_injective d us ws h k p q e =
    let m = input_wires d in
    let same = text_injective d (gates_of us) (gates_of ws) (omega (arith, accepted-length m us p)) (omega (arith, accepted-length m ws q))
    (accepted-ordered m us p) (accepted-ordered m ws q) e in
    sym (words_gates m us p) ∙ ap words_of same ∙ words_gates m ws q

-- the text determines the dimensions as well
pub circuit_injective : (d e : Dimensions) (us ws : List ℕ) → Within d → Within e → input_wires d + length us / 3 ≤ 2 ^ 64
    → input_wires e + length ws / 3 ≤ 2 ^ 64
    → accepted (input_wires d) us ≡ true → accepted (input_wires e) ws ≡ true → circuit_text d (gates_of us) ≡ circuit_text e (gates_of ws)
    → (d ≡ e) × (us ≡ ws)
circuit_injective d e us ws wd we h k p q t =
    let same : d ≡ e = dimensions_injective d e wd we (header_split d e (gates_of us) (gates_of ws) t).0 in
    (same, go same k q t)
  where
    go : d ≡ e → input_wires e + length ws / 3 ≤ 2 ^ 64 → accepted (input_wires e) ws ≡ true → circuit_text d (gates_of us) ≡ circuit_text e (gates_of ws)
        → us ≡ ws
    go s k q t =
        words_injective d us ws h (subst (λ (x : Dimensions). input_wires x + length ws / 3 ≤ 2 ^ 64) (sym s) k) p
        (ap (λ (x : Dimensions). accepted (input_wires x) ws) s ∙ q) (t ∙ ap (λ (x : Dimensions). circuit_text x (gates_of ws)) (sym s))
