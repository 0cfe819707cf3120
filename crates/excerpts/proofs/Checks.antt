-- What asking for a clause is refused with, test by test, and what is known of a row that is not refused. From the order of the checks.
use mathlib.Core.Path.{◌≡◌, refl, sym, ap, ◌∙◌}
use mathlib.Core.Bool.{Bool, true, false, not, ◌&&◌, ◌||◌, cond}
use mathlib.Core.List.{List, [], ◌∷◌, ◌++◌}
use Prim.Native.Nat.{ℕ, ◌+◌, ◌≤◌}
use native.Mathlib.Omega.{arith}
use lib.Dec.{eqb, ltb, leb}
use borrow.Author.Tests.{eq-eqb, ne_eqb, ltb-true, leb-true, not-false}
use Rattle.std.specs.Prelude.{Ok, Err}
use Rattle.refusals.specs.Numbers.{Outcome}
use Rattle.refusals.specs.Checks.{Check, check, outcome, given}
use Rattle.refusals.specs.declared.Refusal.{Refusal}
use Rattle.refusals.specs.declared.Refusal.TheVariants.{Text, TextsDiffer, NoClause}
use Rattle.refusals.proofs.Outcomes.{outcome-taken, outcome-refused, outcome_parts, check_passed, checks-taken}
use Rattle.words.proofs.Truth.{and_l, and_r}
use Rattle.dimensions.specs.declared.Dimensions.{Dimensions}
use Rattle.tables.specs.Tables.{Tables}
use Rattle.tables.specs.Acceptance.{table_checks}
use Rattle.tables.proofs.Accepted.{Accepted, accepted}
use Rattle.dimacs.specs.Text.{TextTable, table_of}
use Rattle.excerpts.specs.Excerpts.{outcome_checks, of_sizes, has_clause, text_checks, overlong, excerpt_checks}

-- ---- two texts

-- a text's check is its refusal
read-outcome : (t : TextTable) → outcome (outcome_checks t) ≡ t.outcome
read-outcome t = go t.outcome
  where
    go : (o : Outcome) → outcome (given o [] (λ r. check true r ∷ [])) ≡ o
    go (Ok _) = refl
    go (Err r) = refl

module _ (d : Dimensions) (l r : TextTable) (number : ℕ) where
  -- 6 and 17
  abbrev last : List Check
  last = check (not (eqb l.n r.n)) TextsDiffer ∷ check (not (has_clause d l r number)) NoClause ∷ []

  pub left-refused : (q : Refusal) → l.outcome ≡ Err q → Err q ≡ outcome (text_checks d l r number)
  left-refused q e = sym (outcome-refused (outcome_checks l) (outcome_checks r ++ last) q (read-outcome l ∙ e))

  module _ (left-taken : l.outcome ≡ Ok tt) where
    after-left : outcome (text_checks d l r number) ≡ outcome (outcome_checks r ++ last)
    after-left = outcome-taken (outcome_checks l) (outcome_checks r ++ last) (read-outcome l ∙ left-taken)

    pub right_refused : (q : Refusal) → r.outcome ≡ Err q → Err q ≡ outcome (text_checks d l r number)
    right_refused q e = sym (after-left ∙ outcome-refused (outcome_checks r) last q (read-outcome r ∙ e))

    module _ (right_taken : r.outcome ≡ Ok tt) where
      after_right : outcome (text_checks d l r number) ≡ outcome last
      after_right = after-left ∙ outcome-taken (outcome_checks r) last (read-outcome r ∙ right_taken)

      pub differ : (l.n ≡ r.n → ⊥) → Err TextsDiffer ≡ outcome (text_checks d l r number)
      differ h = sym (after_right ∙ rw (ne_eqb l.n r.n h))

      module _ (same : l.n ≡ r.n) where
        pub no_clause : has_clause d l r number ≡ false → Err NoClause ≡ outcome (text_checks d l r number)
        no_clause h = sym (after_right ∙ rw (eq-eqb l.n r.n same, h))

        pub texts-taken : has_clause d l r number ≡ true → Ok tt ≡ outcome (text_checks d l r number)
        texts-taken h = sym (after_right ∙ rw (eq-eqb l.n r.n same, h))

  has_clause_lem : outcome (text_checks d l r number) ≡ Ok tt → has_clause d l r number ≡ true
  has_clause_lem e =
      let both = (outcome_parts (outcome_checks r) last (outcome_parts (outcome_checks l) (outcome_checks r ++ last) e).1).1 in
      not-false (has_clause d l r number)
      (check_passed (not (has_clause d l r number)) NoClause (Ok tt) (checks-taken (not (eqb l.n r.n)) TextsDiffer _ both))

-- ---- tables and texts

module _ (d : Dimensions) (tables : Tables) (text_of_left text_of_right : List ℕ) (number : ℕ) where
  abbrev l : TextTable
  l = table_of 1 text_of_left

  abbrev r : TextTable
  r = table_of 1 text_of_right

  -- an overlong text, before all else
  pub overlong-refused : overlong text_of_left || overlong text_of_right ≡ true
      → Err Text ≡ outcome (excerpt_checks d tables text_of_left text_of_right number)
  overlong-refused h = rw h

  -- two texts that are not
  module _ (fit : overlong text_of_left || overlong text_of_right ≡ false) where
    behind : outcome (excerpt_checks d tables text_of_left text_of_right number) ≡ outcome (table_checks d tables ++ text_checks d l r number)
    behind = ap (λ (b : Bool). cond b (Err Text) (outcome (table_checks d tables ++ text_checks d l r number))) fit

    -- what the tables are refused with, asking for a clause is refused with
    pub tables-refused : (q : Refusal) → outcome (table_checks d tables) ≡ Err q
        → Err q ≡ outcome (excerpt_checks d tables text_of_left text_of_right number)
    tables-refused q e = sym (behind ∙ outcome-refused (table_checks d tables) (text_checks d l r number) q e)

    pub tables-taken : outcome (table_checks d tables) ≡ Ok tt → (left right : TextTable) → left ≡ l → right ≡ r
        → (o : Outcome) → o ≡ outcome (text_checks d left right number) → o ≡ outcome (excerpt_checks d tables text_of_left text_of_right number)
    tables-taken e left right p q o h =
        h ∙ ap (λ (x : TextTable). outcome (text_checks d x right number)) p ∙ ap (λ (x : TextTable). outcome (text_checks d l x number)) q
        ∙ sym (behind ∙ outcome-taken (table_checks d tables) (text_checks d l r number) e)

  -- what is known of a row that is not refused
  pub record Asked : Type 0 where
    pub tables-accepted : Accepted d tables
    pub least : 1 ≤ number
    pub most : number ≤ d.left + d.right

  -- a request that passes its checks has these
  pub asked : outcome (excerpt_checks d tables text_of_left text_of_right number) ≡ Ok tt → Asked
  asked e =
      let parts = outcome_parts (table_checks d tables) (text_checks d l r number) (checks-taken (overlong text_of_left || overlong text_of_right) Text _ e) in
      let station : Bool = ltb 0 number && leb number (d.left + d.right) in
      let sized : Bool = of_sizes l d.n d.left && of_sizes r d.n d.right in
      let own = and_l station sized (has_clause_lem d l r number parts.1) in
      record {
        tables-accepted = accepted d tables parts.0;
        least = omega (arith, ltb-true 0 number (and_l (ltb 0 number) (leb number (d.left + d.right)) own));
        most = leb-true number (d.left + d.right) (and_r (ltb 0 number) (leb number (d.left + d.right)) own);
      }
