-- Nothing is lost in print: two printed texts of the same n are equal only if count, verdict and model are, or the refusals are. A number ends at its LF, so
-- the texts part into the same pieces; literals go one by one.
use mathlib.Core.Path.{◌≡◌, refl, sym, ap, ◌∙◌, subst}
use mathlib.Core.Bool.{Bool, true, false, false≢true}
use mathlib.Core.List.{List, [], ◌∷◌, ◌++◌, append_assoc, append_cancel_left}
use Prim.Native.Nat.{ℕ, zero, suc, ◌+◌, ◌^◌, ◌≤◌, ◌<◌}
use native.Mathlib.Nat.{lt_of_le_of_lt}
use native.Mathlib.Omega.{arith}
use lib.Dec.{leb}
use lib.ListN.{length, get_or}
use borrow.Author.Tests.{le-leb}
use Rattle.std.specs.Prelude.{Result, Ok, Err}
use Rattle.words.specs.declared.Row.{Row}
use Rattle.words.specs.Sets.{bit}
use Rattle.words.proofs.Operations.{bit_ext}
use Rattle.words.proofs.Truth.{and_l}
use Rattle.refusals.specs.declared.Refusal.{Refusal}
use Rattle.refusals.specs.Numbers.{number_of}
use Rattle.refusals.proofs.Numbers.{number_injective, number_lt}
use Rattle.lexer.specs.Spelling.{bytes}
use Rattle.text.specs.Decimal.{decimal}
use Rattle.text.proofs.Decimals.{decimal_injective, decimal-some, each, decimal-each}
use Rattle.text.proofs.Fields.{decimal-plain, field_split}
use Rattle.state.specs.State.{State, fresh}
use Rattle.verdicts.specs.Verdicts.{verdict_of}
use Rattle.solver.specs.Entries.{Ran, run_from, answer_of}
use Rattle.solver.proofs.RunLaws.{RunOf, run_is_of}
use Rattle.solver.proofs.StepLaws.{fresh_formed, after_formed}
use Rattle.solver.specs.declared.Answer.{Answer}
use Rattle.state.specs.declared.Standing.{Standing}
use Rattle.state.specs.declared.Standing.TheVariants.{Open, Satisfied, Refuted}
use Rattle.verdicts.specs.declared.Verdict.{Verdict}
use Rattle.verdicts.specs.declared.Verdict.TheVariants.{Satisfiable, Unsatisfiable, Unknown}
use Rattle.answers.specs.Printed.{literal_text, literals, verdict_text, answer_text, refusal_text, solved_text}

-- a number's bytes are 48 and above
decimal-digits : (x : ℕ) → each (leb 48) (decimal x) ≡ true
decimal-digits x = decimal-each (leb 48) (λ d h. le-leb 48 (48 + d) (omega arith)) x

-- no number starts with a minus
no_minus : (ds s t : List ℕ) → each (leb 48) ds ≡ true → 1 ≤ length ds → ds ++ s ≡ 45 ∷ t → ⊥
no_minus [] s t h k e = omega arith
no_minus (d ∷ ds) s t h k e =
    let minus : d ≡ 45 = cc in
    false≢true (sym (ap (leb 48) minus) ∙ and_l (leb 48 d) (each (leb 48) ds) h)

-- ---- literals

one-literal : (v : ℕ) (a b : Bool) (s t : List ℕ) → literal_text v a ++ s ≡ literal_text v b ++ t → (a ≡ b) × (s ≡ t)
one-literal v true true s t e = (refl, append_cancel_left (bytes " " ++ decimal v) s t e)
one-literal v false false s t e = (refl, append_cancel_left (bytes " -" ++ decimal v) s t e)
one-literal v true false s t e = absurd (no_minus (decimal v) s (decimal v ++ t) (decimal-digits v) (decimal-some v) cc)
one-literal v false true s t e = absurd (no_minus (decimal v) t (decimal v ++ s) (decimal-digits v) (decimal-some v) cc)

literals_parts : (k i a b : ℕ) (s t : List ℕ) → literals (suc k) i a ++ s ≡ literals (suc k) i b ++ t
    → (bit a i ≡ bit b i) × (literals k (suc i) a ++ s ≡ literals k (suc i) b ++ t)
unfolding literals
literals_parts k i a b s t e =
    one-literal (i + 1) (bit a i) (bit b i) (literals k (suc i) a ++ s) (literals k (suc i) b ++ t)
    (sym (append_assoc (literal_text (i + 1) (bit a i)) (literals k (suc i) a) s) ∙ e ∙ append_assoc (literal_text (i + 1) (bit b i)) (literals k (suc i) b) t)

-- the literals of k variables from bit i on give those bits
literals-bits : (k i a b : ℕ) (s t : List ℕ) → literals k i a ++ s ≡ literals k i b ++ t → (j : ℕ) → j < k → bit a (i + j) ≡ bit b (i + j)
literals-bits zero i a b s t e j h = absurd (omega arith)
literals-bits (suc k) i a b s t e zero h = let here : i + 0 ≡ i = omega arith in rw here (literals_parts k i a b s t e).0
literals-bits (suc k) i a b s t e (suc j) h =
    let there : i + suc j ≡ suc i + j = omega arith in
    rw there (literals-bits k (suc i) a b s t (literals_parts k i a b s t e).1 j (omega arith))

-- ---- verdicts

-- a model is a set of the variables below n
abbrev pub IsModelBelow : ℕ → Verdict → Type 0
IsModelBelow n (Satisfiable model) = model < 2 ^ n
IsModelBelow n Unsatisfiable = Unit
IsModelBelow n Unknown = Unit

verdict_injective : (n : ℕ) (a b : Verdict) → IsModelBelow n a → IsModelBelow n b → verdict_text n a ≡ verdict_text n b → a ≡ b
verdict_injective n (Satisfiable a) (Satisfiable b) ha hb e = ap Satisfiable (bit_ext n a b ha hb bits)
  where
    whole : literals n 0 a ++ bytes " 0\n" ≡ literals n 0 b ++ bytes " 0\n"
    whole = append_cancel_left (bytes "s SATISFIABLE\nv") (literals n 0 a ++ bytes " 0\n") (literals n 0 b ++ bytes " 0\n") (simp append_assoc at e)

    bits : (i : ℕ) → i < n → bit a i ≡ bit b i
    bits i h = let same : 0 + i ≡ i = omega arith in rw same at (literals-bits n 0 a b (bytes " 0\n") (bytes " 0\n") whole i h)
verdict_injective n Unsatisfiable Unsatisfiable ha hb e = refl
verdict_injective n Unknown Unknown ha hb e = refl
verdict_injective n (Satisfiable a) Unsatisfiable ha hb e = let z : ◌≡◌ {A = ℕ} 83 85 = ap (λ (l : List ℕ). get_or l 2 0) e in absurd (omega arith)
verdict_injective n (Satisfiable a) Unknown ha hb e = let z : ◌≡◌ {A = ℕ} 83 85 = ap (λ (l : List ℕ). get_or l 2 0) e in absurd (omega arith)
verdict_injective n Unsatisfiable (Satisfiable b) ha hb e = let z : ◌≡◌ {A = ℕ} 85 83 = ap (λ (l : List ℕ). get_or l 2 0) e in absurd (omega arith)
verdict_injective n Unknown (Satisfiable b) ha hb e = let z : ◌≡◌ {A = ℕ} 85 83 = ap (λ (l : List ℕ). get_or l 2 0) e in absurd (omega arith)
verdict_injective n Unsatisfiable Unknown ha hb e = let z : ◌≡◌ {A = ℕ} 83 75 = ap (λ (l : List ℕ). get_or l 4 0) e in absurd (omega arith)
verdict_injective n Unknown Unsatisfiable ha hb e = let z : ◌≡◌ {A = ℕ} 75 83 = ap (λ (l : List ℕ). get_or l 4 0) e in absurd (omega arith)

-- ---- answers

-- a count of 64 bits, and a model's variables below n
pub record Within (n : ℕ) (a : Answer) : Type 0 where
  pub count : a.count < 2 ^ 64
  pub model : IsModelBelow n a.verdict

answer_spread : (n : ℕ) (a : Answer) → answer_text n a ≡ bytes "c steps " ++ (decimal a.count ++ (10 ∷ verdict_text n a.verdict))
unfolding answer_text
answer_spread n a = simp append_assoc

pub answer_injective : (n : ℕ) (a b : Answer) → Within n a → Within n b → answer_text n a ≡ answer_text n b → a ≡ b
answer_injective n a b wa wb e =
    λ i. record {
      count = decimal_injective a.count b.count wa.count wb.count parts.0 i;
      verdict = verdict_injective n a.verdict b.verdict wa.model wb.model parts.2 i;
    }
  where
    parts : (decimal a.count ≡ decimal b.count) × (◌≡◌ {A = ℕ} 10 10) × (verdict_text n a.verdict ≡ verdict_text n b.verdict)
    parts =
        field_split (decimal a.count) (decimal b.count) 10 10 (verdict_text n a.verdict) (verdict_text n b.verdict) (decimal-plain a.count)
        (decimal-plain b.count) refl refl
        (append_cancel_left (bytes "c steps ") (decimal a.count ++ (10 ∷ verdict_text n a.verdict))
        (decimal b.count ++ (10 ∷ verdict_text n b.verdict))
        (sym (answer_spread n a) ∙ e ∙ answer_spread n b))

-- every answer of the budgeted run is so
pub run-within : (n : ℕ) (rows : ℕ → List Row) (budget : ℕ) → budget < 2 ^ 64 → Within n (answer_of n rows budget)
unfolding answer_of
run-within n rows budget h = record { count = lt_of_le_of_lt ran.most h; model = go r.final.standing }
  where
    r : Ran
    r = run_from n rows budget fresh

    ran : RunOf n rows budget fresh r
    ran = run_is_of n rows budget fresh

    low : r.final.t < 2 ^ n
    low = subst (λ (s : State). s.t < 2 ^ n) (sym ran.final-after) (after_formed n rows r.steps fresh (fresh_formed n)).own.low_t

    go : (s : Standing) → IsModelBelow n (verdict_of s r.final.t)
    go Open = tt
    go Satisfied = low
    go Refuted = tt

-- ---- refusals

refusal_spread : (r : Refusal) → refusal_text r ≡ bytes "c refused " ++ (decimal (number_of r) ++ (10 ∷ bytes "s UNKNOWN\n"))
unfolding refusal_text
refusal_spread r = simp append_assoc

pub refusal_injective : (q r : Refusal) → refusal_text q ≡ refusal_text r → q ≡ r
refusal_injective q r e =
    number_injective q r (decimal_injective (number_of q) (number_of r) (omega (arith, number_lt q)) (omega (arith, number_lt r)) parts.0)
  where
    parts : (decimal (number_of q) ≡ decimal (number_of r)) × (◌≡◌ {A = ℕ} 10 10) × (bytes "s UNKNOWN\n" ≡ bytes "s UNKNOWN\n")
    parts =
        field_split (decimal (number_of q)) (decimal (number_of r)) 10 10 (bytes "s UNKNOWN\n") (bytes "s UNKNOWN\n") (decimal-plain (number_of q))
        (decimal-plain (number_of r)) refl refl
        (append_cancel_left (bytes "c refused ") (decimal (number_of q) ++ (10 ∷ bytes "s UNKNOWN\n")) (decimal (number_of r) ++ (10 ∷ bytes "s UNKNOWN\n"))
        (sym (refusal_spread q) ∙ e ∙ refusal_spread r))

-- the first lines differ
pub answer_no_refusal : (n : ℕ) (a : Answer) (r : Refusal) → answer_text n a ≡ refusal_text r → ⊥
answer_no_refusal n a r e =
    let z : ◌≡◌ {A = ℕ} 115 114 = ap (λ (l : List ℕ). get_or l 2 0) (sym (answer_spread n a) ∙ e ∙ refusal_spread r) in
    omega arith

-- ---- whatever is printed

-- an answer's bounds; a refusal has none
abbrev pub IsSolvedWithin : ℕ → Result Answer Refusal → Type 0
IsSolvedWithin n (Ok a) = Within n a
IsSolvedWithin n (Err r) = Unit

-- two answers or refusals, each answer with a 64-bit count and its model below n, that print the same text for n variables are equal
pub printed_injective : (n : ℕ) (x y : Result Answer Refusal) → IsSolvedWithin n x → IsSolvedWithin n y → solved_text n x ≡ solved_text n y → x ≡ y
printed_injective n (Ok a) (Ok b) wa wb e = ap Ok (answer_injective n a b wa wb e)
printed_injective n (Err q) (Err r) wa wb e = ap Err (refusal_injective q r e)
printed_injective n (Ok a) (Err r) wa wb e = absurd (answer_no_refusal n a r e)
printed_injective n (Err q) (Ok b) wa wb e = absurd (answer_no_refusal n b q (sym e))
