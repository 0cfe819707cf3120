-- Rows as words: what code makes of the tables and of a row. They hold the rows of all tables (`gathered-rows`,
-- `occurrences/proofs/Gathering`).
use Rattle.std.specs.Prelude.{ℕ, suc, ◌*◌, ◌/◌, ◌%◌, ◌^◌, Bool, ◌&&◌, cond, List, [], ◌∷◌, ◌++◌, eqb, ltb, take, replicate}
use Rattle.std.specs.Int.Bits.{bit_xor}
use Rattle.std.proofs.lemmas.List.Edits.{sets}
use Rattle.words.specs.declared.Row.{Row}
use Rattle.words.specs.Booleans.{◌⊕◌}
use Rattle.words.specs.Sets.{bit, word_of}
use Rattle.dimensions.specs.declared.Dimensions.{Dimensions}
use Rattle.tables.specs.Tables.{Tables}
use Rattle.occurrences.specs.Index.{holds_literal}

-- the words of a table's rows, of as many as there are
abbrev pub table_words : ℕ → List ℕ → List ℕ
table_words rows words = take (2 * rows) words

-- those of the left rows, the right and the public ones, one after the other
abbrev pub all_words : Dimensions → Tables → List ℕ
all_words d tables = table_words d.left tables.left
    ++ (table_words d.right tables.right ++ table_words d.public tables.public)

-- the same among 768 words, with zeros after them; what has no place is left out
unfoldable pub gathered : Dimensions → Tables → List ℕ
gathered d tables = sets (replicate 768 0) 0 (all_words d tables)

-- the row holds the literal of this number, in the index's order
abbrev pub numbered : ℕ → Row → Bool
numbered l = holds_literal (ltb l 32) (l % 32)

-- the numbers of the row's literals, as a set
unfoldable pub literals_of : Row → ℕ
literals_of r = word_of (λ l. numbered l r) 64

-- ---- a row in its literals' sets

-- words from number i on, with bit b turned over in each whose number passes
unfoldable pub turned_from : (ℕ → Bool) → ℕ → ℕ → List ℕ → List ℕ
turned_from p b i [] = []
turned_from p b i (w ∷ ws) = cond (p i) (bit_xor w (2 ^ b)) w ∷ turned_from p b (suc i) ws

-- the row turned over in the set of each literal that passes: word i of an index is word i % 6 of literal i / 6
unfoldable pub turned : (ℕ → Bool) → ℕ → List ℕ → List ℕ
unfolding turned_from
turned p row index = turned_from (λ i. eqb (i % 6) (row / 64) && p (i / 6)) (row % 64) 0 index

-- one row in the place of another: out of the sets of the literals that only the old one holds, into those that only the new one holds
unfoldable pub replaced_sets : List ℕ → ℕ → Row → Row → List ℕ
unfolding turned literals_of
replaced_sets index row old new = turned (λ l. bit (literals_of old) l ⊕ bit (literals_of new) l) row index
