-- An answer's pieces, put together: literals one by one, and how long the whole is. By induction on the variables.
use mathlib.Core.Path.{◌≡◌, sym, ap, ◌∙◌}
use mathlib.Core.Bool.{Bool, true, false}
use mathlib.Core.List.{[], ◌++◌, append_assoc}
use Prim.Native.Nat.{ℕ, zero, suc, ◌+◌, ◌-◌, ◌*◌, ◌≤◌, ◌<◌, zero-le}
use native.Mathlib.Numerals.{add-one}
use native.Mathlib.Omega.{arith}
use lib.ListN.{length, length-append}
use Rattle.words.specs.Sets.{bit}
use Rattle.refusals.specs.declared.Refusal.{Refusal}
use Rattle.refusals.specs.Numbers.{number_of}
use Rattle.lexer.specs.Spelling.{bytes}
use Rattle.text.specs.declared.Text.{Text}
use Rattle.text.specs.Texts.{text_of, appended}
use Rattle.text.specs.Decimal.{decimal}
use Rattle.text.specs.Refused.{refused_line}
use Rattle.text.proofs.Appending.{appended-join, appended_then, appended_text, composed}
use Rattle.text.proofs.Decimals.{decimal-length, decimal-short}
use Rattle.solver.specs.declared.Answer.{Answer}
use Rattle.verdicts.specs.declared.Verdict.{Verdict}
use Rattle.verdicts.specs.declared.Verdict.TheVariants.{Satisfiable, Unsatisfiable, Unknown}
use Rattle.answers.specs.Printed.{literal_text, literals, verdict_text, answer_text, refusal_text}

-- what is left gives what the whole gives, when one literal is appended
pub literals-next : (t r : Text) (n i model : ℕ) → i < n → r ≡ appended t (literal_text (i + 1) (bit model i))
    → appended r (literals (n - (i + 1)) (i + 1) model) ≡ appended t (literals (n - i) i model)
unfolding literals
literals-next t r n i model h e =
    let k : n - i ≡ suc (n - (i + 1)) = omega arith in
    ap (λ (x : Text). appended x (literals (n - (i + 1)) (i + 1) model)) e
    ∙ appended-join t (literal_text (i + 1) (bit model i)) (literals (n - (i + 1)) (i + 1) model)
    ∙ ap (λ (j : ℕ). appended t (literal_text (i + 1) (bit model i) ++ literals (n - (i + 1)) j model)) (add-one i)
    ∙ ap (λ (j : ℕ). appended t (literals j i model)) (sym k)

pub refusal_composed : (r : Refusal) (a b : Text) → a ≡ text_of (refused_line r) → b ≡ appended a (bytes "s UNKNOWN\n") → b ≡ text_of (refusal_text r)
unfolding refusal_text
refusal_composed r a b ha hb =
    hb
    ∙ ap (λ (t : Text). appended t (bytes "s UNKNOWN\n")) ha
    ∙ appended_text (refused_line r) (bytes "s UNKNOWN\n") (simp length-append (omega (arith, decimal-length (number_of r))))

pub satisfiable_composed : (t a b c : Text) (n model : ℕ) → a ≡ appended t (bytes "s SATISFIABLE\nv") → b ≡ appended a (literals n 0 model)
    → c ≡ appended b (bytes " 0\n") → c ≡ appended t (verdict_text n (Satisfiable model))
satisfiable_composed t a b c n model ha hb hc =
    appended_then t (bytes "s SATISFIABLE\nv") (literals n 0 model ++ bytes " 0\n") a c ha (appended_then a (literals n 0 model) (bytes " 0\n") b c hb hc)
    ∙ ap (appended t) joined
  where
    joined : bytes "s SATISFIABLE\nv" ++ (literals n 0 model ++ bytes " 0\n") ≡ verdict_text n (Satisfiable model)
    joined = simp append_assoc

-- a literal has at most four bytes
literal-length : (v : ℕ) (positive : Bool) → v < 100 → length (literal_text v positive) ≤ 4
literal-length v true h = omega (arith, decimal-short v h)
literal-length v false h = omega (arith, decimal-short v h)

literals-length : (k i model : ℕ) → i + k ≤ 32 → length (literals k i model) ≤ 4 * k
unfolding literals
literals-length zero i model h = zero-le
literals-length (suc k) i model h =
    omega (
      arith,
      length-append (literal_text (i + 1) (bit model i)) (literals k (suc i) model),
      literal-length (i + 1) (bit model i) (omega arith),
      literals-length k (suc i) model (omega arith),
    )

verdict-length : (n : ℕ) (v : Verdict) → n ≤ 32 → length (verdict_text n v) ≤ 160
verdict-length n (Satisfiable model) h = simp length-append (omega (arith, literals-length n 0 model (omega arith)))
verdict-length n Unsatisfiable h = omega arith
verdict-length n Unknown h = omega arith

pub answer_composed : (n : ℕ) (x : Answer) (e a b c d : Text) → n ≤ 32 → e ≡ text_of [] → a ≡ appended e (bytes "c steps ") → b ≡ appended a (decimal x.count)
    → c ≡ appended b (bytes "\n") → d ≡ appended c (verdict_text n x.verdict) → d ≡ text_of (answer_text n x)
unfolding answer_text
answer_composed n x e a b c d low he ha hb hc hd =
    composed (bytes "c steps ") (decimal x.count) (bytes "\n" ++ verdict_text n x.verdict) e a b d
    (omega (arith, decimal-length x.count, verdict-length n x.verdict low)) he ha hb (appended_then b (bytes "\n") (verdict_text n x.verdict) c d hc hd)
    ∙ ap text_of joined
  where
    joined : bytes "c steps " ++ (decimal x.count ++ (bytes "\n" ++ verdict_text n x.verdict)) ≡ answer_text n x
    joined = simp append_assoc
