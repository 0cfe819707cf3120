-- What three texts mean together: left's refusal, right's, that of the public rest rules, then 6 if they differ in n (document 01, "Turned
-- back"; document 02, "Public rest rules").
-- Ask: Which text may have no rows?
use Rattle.refusals.specs.Numbers.{Outcome, number_of}
use Rattle.std.specs.Prelude.{ℕ, not, ◌||◌, cond, List, eqb, replicate, Result, Ok, Err}
use Rattle.refusals.specs.Checks.{given}
use Rattle.refusals.specs.declared.Refusal.{Refusal}
use Rattle.refusals.specs.declared.Refusal.TheVariants.{TextsDiffer}
use Rattle.dimacs.specs.Text.{TextTable, table_of}
use Rattle.dimacs.specs.declared.TextTables.{TextTables}

-- what three texts say together: whether they are taken, the n that they share, each one's row count and row words
pub record ThreeTables : Type 0 where
  pub outcome : Outcome
  pub n : ℕ
  pub left_rows : ℕ
  pub right_rows : ℕ
  pub public_rows : ℕ
  pub left : List ℕ
  pub right : List ℕ
  pub public : List ℕ

-- a refusal has no n and no rows
abbrev pub refused_texts : Refusal → ThreeTables
refused_texts r =
    record {
      outcome = Err r;
      n = 0;
      left_rows = 0;
      right_rows = 0;
      public_rows = 0;
      left = replicate 256 0;
      right = replicate 256 0;
      public = replicate 256 0;
    }

-- all tables, with the n that they share
abbrev pub accepted_texts : TextTable → TextTable → TextTable → ThreeTables
accepted_texts l r p =
    record {
      outcome = Ok tt;
      n = l.n;
      left_rows = l.rows;
      right_rows = r.rows;
      public_rows = p.rows;
      left = l.words;
      right = r.words;
      public = p.words;
    }

-- 6, if two of the three differ in n
abbrev pub shared_n : TextTable → TextTable → TextTable → Outcome
shared_n l r p = cond (not (eqb l.n r.n) || not (eqb l.n p.n)) (Err TextsDiffer) (Ok tt)

-- the first refusal of the three texts and 6
abbrev pub texts_outcome : TextTable → TextTable → TextTable → Outcome
texts_outcome l r p = given l.outcome (given r.outcome (given p.outcome (shared_n l r p) Err) Err) Err

-- the tables of all three, or the refusal
abbrev pub together : TextTable → TextTable → TextTable → ThreeTables
together l r p = given (texts_outcome l r p) (accepted_texts l r p) refused_texts

-- the tables of three texts: a station has 1 row or more, the public rest rules may have none
abbrev pub text_tables : List ℕ → List ℕ → List ℕ → ThreeTables
text_tables left right public = together (table_of 1 left) (table_of 1 right) (table_of 0 public)

-- ---- as they are read

-- the tables, or the refusal
abbrev pub texts_read : ThreeTables → Result TextTables Refusal
texts_read t =
    given t.outcome
    (Ok (record {
      n = t.n;
      left_rows = t.left_rows;
      right_rows = t.right_rows;
      public_rows = t.public_rows;
      left = t.left;
      right = t.right;
      public = t.public;
    }))
    Err

-- what reading three texts returns: 0, or 1, 2, 5 or 6 of "Turned back because of the input"
abbrev pub texts_code : Result TextTables Refusal → ℕ
texts_code (Ok t) = 0
texts_code (Err r) = number_of r

-- what texts say whose tables are these
abbrev pub all_read : TextTables → ThreeTables
all_read t =
    record {
      outcome = Ok tt;
      n = t.n;
      left_rows = t.left_rows;
      right_rows = t.right_rows;
      public_rows = t.public_rows;
      left = t.left;
      right = t.right;
      public = t.public;
    }
