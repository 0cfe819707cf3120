-- What the definition comes to, case by case: whether the generator takes the dimensions and whether four numbers are dimensions decide. The words
-- lent to the generator are three for each gate of the greatest ceiling that is served, so that its 7 is the program's.
use mathlib.Core.Path.{◌≡◌, refl, sym, ap, ◌∙◌, subst}
use mathlib.Core.Bool.{Bool, not}
use mathlib.Core.List.{List, [], ◌∷◌, ◌++◌}
use Prim.Native.Nat.{ℕ, zero, suc, ◌*◌, ◌≤◌}
use native.Mathlib.Omega.{arith}
use borrow.Author.Tests.{lt-ltb, le-ltb, ltb-true, ltb-false}
use lib.Dec.{ltb}
use lib.ListN.{length, take, drop, length-append}
use lib.Seq.{take_at, take-length, length-take-le}
use Rattle.std.specs.Prelude.{Result, Ok, Err}
use Rattle.io.specs.Counts.{IsPrefixLen}
use Rattle.words.proofs.Truth.{on}
use Rattle.refusals.specs.declared.Refusal.{Refusal}
use Rattle.refusals.specs.declared.Refusal.TheVariants.{GateBuffer}
use Rattle.refusals.specs.Checks.{check, outcome, given}
use Rattle.refusals.specs.Numbers.{Outcome, number_of}
use Rattle.refusals.proofs.Outcomes.{outcome-refused, outcome_parts, check_passed}
use Rattle.text.specs.declared.Text.{Text}
use Rattle.text.specs.Texts.{text_of}
use Rattle.text.specs.Refused.{refused_line}
use Rattle.text.proofs.Appending.{text_back}
use Rattle.text.proofs.Decimals.{decimal-length}
use Rattle.dimensions.specs.declared.Dimensions.{Dimensions}
use Rattle.dimensions.specs.Sizes.{dimensions, row_count, size_checks, sized, ceiling, input_wires}
use Rattle.dimensions.proofs.Limits.{within}
use Rattle.gates.specs.Memory.{gates_of, words_of, over}
use Rattle.gates.proofs.InMemory.{words-length, gates_words, accepted-words}
use Rattle.netlist.specs.Netlist.{gates_on}
use Rattle.netlist.proofs.Counts.{gates_length}
use Rattle.netlist.proofs.EveryState.{gates_accepted}
use Rattle.generator.specs.Generation.{generator_checks, generated, written_words}
use Rattle.bristol.specs.Text.{circuit_text}
use Rattle.bristol.specs.Writing.{circuit_checks, written_lines, filled_lines}
use Rattle.bristol.proofs.Requests.{take-circuit}
use Rattle.bristol.proofs.Joining.{lines_whole}
use Rattle.listing.specs.Listing.{list_checks, text_for}
use Rattle.listing.proofs.Lengths.{served_short}

-- a text that was put: its length, and the bytes over whose front it is put
abbrev pub Put : List ℕ → List ℕ → ℕ → List ℕ → Type 0
Put text lent k out = (k ≡ length text) × (out ≡ over text lent)

-- ---- a refusal's line

pub line-short : (r : Refusal) → length (refused_line r) ≤ 256
line-short r = simp length-append (omega (arith, decimal-length (number_of r)))

-- a text by value and the bytes that it holds
pub text_held : (t : Text) (xs : List ℕ) → t ≡ text_of xs → take t.length t.bytes ≡ xs
text_held t xs e = ap (λ (x : Text). take x.length x.bytes) e ∙ text_back xs

-- its bytes over the front of others
pub line_put : (t : Text) (text front lent : List ℕ) → t ≡ text_of text → front ≡ take t.length t.bytes → front ++ drop t.length lent ≡ over text lent
line_put t text front lent e f =
    ap (λ (l : List ℕ). l ++ drop t.length lent) (f ∙ text_held t text e) ∙ ap (λ (x : Text). text ++ drop x.length lent) e

pub line_copied : (text front lent out : List ℕ) (k : ℕ) → front ≡ text → k ≡ length front → out ≡ take (length front) front
    ++ drop (length front) lent → Put text lent k out
line_copied text front lent out k e h o = (
  h ∙ ap length e,
  o ∙ ap (λ (l : List ℕ). take (length l) l ++ drop (length l) lent) e
      ∙ ap (λ (l : List ℕ). l ++ drop (length text) lent) (take-length text),
)

-- ---- a circuit's text

-- how many bytes were written, and one more
size_in : Result (ℕ × ℕ) Refusal → ℕ
size_in (Ok (k, n)) = suc n
size_in (Err r) = zero

module _ (d : Dimensions) (ws : List ℕ) (e : outcome (circuit_checks d ws) ≡ Ok tt) (lent : List ℕ)
    (room : length (circuit_text d (gates_of ws)) ≤ length lent) where
  pub text_put : (k n : ℕ) (out : List ℕ) → written_lines d ws 0 lent ≡ Ok (k, n) → out ≡ filled_lines d ws 0 lent
      → Put (circuit_text d (gates_of ws)) lent n out
  unfolding size_in
  text_put k n out w o =
      let p = lines_whole d ws e lent room in
      (omega (arith, ap size_in (sym w ∙ p.0)), o ∙ p.1)

  -- it is never refused
  pub text_taken : (r : Refusal) → written_lines d ws 0 lent ≡ Err r → ⊥
  unfolding size_in
  text_taken r w = omega (arith, ap size_in (sym w ∙ (lines_whole d ws e lent room).0))

-- ---- what the generator does

limit : (k c : ℕ) → k ≡ 16383 → ltb k (3 * c) ≡ ltb 5461 c
limit k c h =
    on (ltb 5461 c)
    (λ e. lt-ltb k (3 * c) (omega (arith, ltb-true 5461 c e)) ∙ sym e)
    (λ e. le-ltb k (3 * c) (omega (arith, ltb-false 5461 c e)) ∙ sym e)

module _ (d : Dimensions) (words : List ℕ) (h : length words ≡ 16383) where
  same-checks : outcome (generator_checks d words) ≡ outcome (list_checks d)
  same-checks = ap (λ (b : Bool). outcome (size_checks d ++ (check b GateBuffer ∷ []))) (limit (length words) (ceiling d) h)

  -- ---- dimensions that are refused

  pub circuit-refused : (r : Refusal) → generated d words ≡ Err r → refused_line r ≡ text_for d
  circuit-refused r g = go (outcome (generator_checks d words)) refl g
    where
      go : (o : Outcome) → outcome (generator_checks d words) ≡ o → given o (Ok (length (gates_on d))) Err
          ≡ Err r → refused_line r ≡ text_for d
      go (Ok _) e f = absurd (let z : ◌≡◌ {A = ℕ} 0 1 = cc in omega arith)
      go (Err q) e f =
          let same : r ≡ q = cc in
          ap refused_line same ∙ ap (λ (o : Outcome). given o (circuit_text d (gates_on d)) refused_line) (sym e ∙ same-checks)

  -- ---- dimensions that are served

  module _ (t : outcome (generator_checks d words) ≡ Ok tt) where
    checked : outcome (list_checks d) ≡ Ok tt
    checked = sym same-checks ∙ t

    both-taken : (outcome (size_checks d) ≡ Ok tt) × (outcome (check (ltb 5461 (ceiling d)) GateBuffer ∷ []) ≡ Ok tt)
    both-taken = outcome_parts (size_checks d) (check (ltb 5461 (ceiling d)) GateBuffer ∷ []) checked

    few : ceiling d ≤ 5461
    few = ltb-false 5461 (ceiling d) (check_passed (ltb 5461 (ceiling d)) GateBuffer (Ok tt) both-taken.1)

    circuit-short : length (circuit_text d (gates_on d)) ≤ 131072
    circuit-short =
        let w = within d both-taken.0 in
        served_short d (gates_on d) few (omega (arith, few, gates_length d.n (row_count d) w.n_least (omega (arith, w.left_least))))
        (sym (accepted-words (input_wires d) (gates_on d)) ∙ gates_accepted d both-taken.0)

    circuit-taken : outcome (circuit_checks d (words_of (gates_on d))) ≡ Ok tt
    circuit-taken = sym (take-circuit d (words_of (gates_on d)) both-taken.0 (ap not (gates_accepted d both-taken.0)))

    circuit_text_lem : circuit_text d (gates_of (words_of (gates_on d))) ≡ text_for d
    circuit_text_lem = ap (circuit_text d) (gates_words (gates_on d)) ∙ ap (λ (o : Outcome). given o (circuit_text d (gates_on d)) refused_line) (sym checked)

-- what holds of the words that the generator leaves: the first of them are the circuit, whose text is the one wanted and has room
pub record Served (d : Dimensions) (k : ℕ) (words : List ℕ) : Type 0 where
  pub within : 3 * k ≤ length words
  pub circuit : outcome (circuit_checks d (take (3 * k) words)) ≡ Ok tt
  pub text : circuit_text d (gates_of (take (3 * k) words)) ≡ text_for d
  pub short : length (circuit_text d (gates_of (take (3 * k) words))) ≤ 131072

pub served : (d : Dimensions) (words left : List ℕ) (k : ℕ) → length words ≡ 16383 → generated d words ≡ Ok k
    → left ≡ written_words d words → Served d k left
served d words left k h g l = go (outcome (generator_checks d words)) refl g l
  where
    go : (o : Outcome) → outcome (generator_checks d words) ≡ o → given o (Ok (length (gates_on d))) Err ≡ Ok k
        → left ≡ given o (over (words_of (gates_on d)) words) (λ r. words) → Served d k left
    go (Err q) t g l = absurd (let z : ◌≡◌ {A = ℕ} 0 1 = cc in omega arith)
    go (Ok _) t g l =
        let count : length (gates_on d) ≡ k = cc in
        let size : length (words_of (gates_on d)) ≡ 3 * k = omega (arith, words-length (gates_on d), count) in
        let front : take (3 * k) left ≡ words_of (gates_on d) =
        ap (take (3 * k)) l ∙ take_at (words_of (gates_on d)) (drop (length (words_of (gates_on d))) words) (3 * k) size in record {
          within = omega (arith, ap length l, length-append (words_of (gates_on d)) (drop (length (words_of (gates_on d))) words), size);
          circuit = ap (λ (x : List ℕ). outcome (circuit_checks d x)) front ∙ circuit-taken d words h t;
          text = ap (λ (x : List ℕ). circuit_text d (gates_of x)) front ∙ circuit_text_lem d words h t;
          short =
              subst (λ (x : List ℕ). length x ≤ 131072)
              (sym (ap (λ (x : List ℕ). circuit_text d (gates_of x)) front ∙ ap (circuit_text d) (gates_words (gates_on d))))
              (circuit-short d words h t);
        }

-- ---- four numbers

module _ (n left right public : ℕ) where
  abbrev named : Dimensions
  named = dimensions n left right public

  -- numbers that are dimensions
  pub sized_of : (d : Dimensions) → sized n left right public ≡ Ok d → text_for d ≡ text_for named
  sized_of d e = go (outcome (size_checks named)) e
    where
      go : (o : Outcome) → given o (Ok named) Err ≡ Ok d → text_for d ≡ text_for named
      go (Ok _) f = let same : d ≡ named = cc in ap text_for same
      go (Err q) f = absurd (let z : ◌≡◌ {A = ℕ} 0 1 = cc in omega arith)

  -- and numbers that are not
  pub sized-refused : (r : Refusal) → sized n left right public ≡ Err r → refused_line r ≡ text_for named
  sized-refused r e = go (outcome (size_checks named)) refl e
    where
      go : (o : Outcome) → outcome (size_checks named) ≡ o → given o (Ok named) Err ≡ Err r → refused_line r ≡ text_for named
      go (Ok _) t f = absurd (let z : ◌≡◌ {A = ℕ} 0 1 = cc in omega arith)
      go (Err q) t f =
          let same : r ≡ q = cc in
          ap refused_line same
          ∙ ap (λ (o : Outcome). given o (circuit_text named (gates_on named)) refused_line)
          (sym (outcome-refused (size_checks named) (check (ltb 5461 (ceiling named)) GateBuffer ∷ []) q t))

-- ---- what was put for a text is put for the same text, and lies within the bytes

pub put_same : (text same lent : List ℕ) (k : ℕ) (out : List ℕ) → text ≡ same → Put text lent k out → Put same lent k out
put_same text same lent k out e p = subst (λ (x : List ℕ). Put x lent k out) e p

pub put-within : (text same lent : List ℕ) (k : ℕ) (out : List ℕ) → text ≡ same → Put text lent k out → (k ≡ length same)
    × ((out ≡ over same lent) × IsPrefixLen k out)
put-within text same lent k out e p =
    let q = put_same text same lent k out e p in
    let within : k ≤ length out = omega (arith, p.0, ap length p.1, length-append text (drop (length text) lent)) in
    (q.0, (q.1, (within, sym (length-take-le k out within))))
