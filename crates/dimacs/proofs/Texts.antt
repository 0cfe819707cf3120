-- What a text means, from its header on: an overlong one is refused, else the header's refusal or the clauses decide. By the definition's tests.
use mathlib.Core.Path.{◌≡◌, sym, ap, ◌∙◌}
use mathlib.Core.List.{List}
use Prim.Native.Nat.{ℕ, ◌≤◌, ◌<◌}
use native.Mathlib.Omega.{arith}
use lib.ListN.{length}
use borrow.Author.Tests.{lt-ltb, le-ltb}
use Rattle.std.specs.Prelude.{Result, Ok, Err}
use Rattle.refusals.specs.declared.Refusal.{Refusal}
use Rattle.refusals.specs.declared.Refusal.TheVariants.{Text}
use Rattle.dimensions.specs.Sizes.{most_variables, most_rows}
use Rattle.header.specs.declared.Header.{Header}
use Rattle.header.specs.Header.{header_of}
use Rattle.header.proofs.Limits.{header_either}
use Rattle.dimacs.specs.Text.{refused, table_of}
use Rattle.dimacs.proofs.Remarks.{standing, as_it_stands}

-- a text of more than 65536 bytes is refused with 5
pub overlong : (least : ℕ) (text : List ℕ) → 65536 < length text → table_of least text ≡ refused Text
unfolding table_of
overlong least text h = rw (lt-ltb 65536 (length text) h)

-- any other text has its header's refusal, or the table of the clauses read after the header in the text as it is
pub by_header : (least : ℕ) (text : List ℕ) → length text ≤ 65536 → (h : Header) → h ≡ header_of least text → (x : Result (ℕ × ℕ) Refusal) → h.sizes ≡ x
    → table_of least text ≡ standing text h.end x
unfolding table_of
by_header least text short h e x q =
    rw (le-ltb 65536 (length text) short)
    (as_it_stands least text ∙ ap (λ (y : Header). standing text y.end y.sizes) (sym e) ∙ ap (standing text h.end) q)

-- n and m that a header gives
pub limits : (least : ℕ) (text : List ℕ) (h : Header) → h ≡ header_of least text → (n m : ℕ) → h.sizes ≡ Ok (n, m)
    → (n ≤ most_variables) × (m ≤ most_rows)
limits least text h e n m q =
    header_either least (λ x. (n m : ℕ) → x ≡ Ok (n, m) → (n ≤ most_variables) × (m ≤ most_rows))
    (λ n m k. absurd (let z : ◌≡◌ {A = ℕ} 0 1 = cc in omega arith))
    (λ n m k. absurd (let z : ◌≡◌ {A = ℕ} 0 1 = cc in omega arith))
    (λ n m k. absurd (let z : ◌≡◌ {A = ℕ} 0 1 = cc in omega arith))
    (λ n m hn hm i j k. let both : ◌≡◌ {A = ℕ × ℕ} (n, m) (i, j) = cc in (
      let a : n ≡ i = ap (λ (x : ℕ × ℕ). x.0) both in omega (arith, hn.1),
      let b : m ≡ j = ap (λ (x : ℕ × ℕ). x.1) both in omega (arith, hm.1),
    ))
    text n m (sym (ap (λ (y : Header). y.sizes) e) ∙ q)
