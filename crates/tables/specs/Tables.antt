-- The words of all tables together: what rows, acceptance and every entry are defined over.
use Rattle.std.specs.Prelude.{List, ℕ}
use Rattle.std.specs.Borrow.{Bor}
use denote.Triple.Both.{Both}
use Rattle.tables.specs.declared.Tables.{Tables as Lent}

-- each station's words, and those of the public rest rules
pub record Tables : Type 0 where
  pub left : List ℕ
  pub right : List ℕ
  pub public : List ℕ

-- the tables of these words, in this order
abbrev pub all_tables : List ℕ → List ℕ → List ℕ → Tables
all_tables left right public = record { left = left; right = right; public = public }

-- a slice of words in a contract, at the call's beginning and at its end
abbrev Slice : Type 0 → Type 0
Slice X = Both (Bor (List ℕ)) X

-- the tables as they are lent: what the three slices hold where the call begins
abbrev pub lent_tables : {X Y Z : Type 0} → Slice X → Slice Y → Slice Z → Tables
lent_tables left right public = all_tables left.entry.now right.entry.now public.entry.now

-- what three slices that are lent together hold
abbrev pub words_in : Lent → Tables
words_in tables = all_tables tables.left.now tables.right.now tables.public.now

-- the same of a call's parameter, where the call begins
abbrev pub lent_words : {X : Type 0} → Both Lent X → Tables
lent_words tables = words_in tables.entry
