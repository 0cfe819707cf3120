-- The numbers and words that a call names: a host's numbers as bytes, a table's first 2 × rows words.
-- Ask: Is each buffer cut where the header says, and no later?
use Rattle.std.specs.Prelude.{ℕ, ◌*◌, List, take}
use Rattle.dimensions.specs.declared.Dimensions.{Dimensions}
use Rattle.tables.specs.Tables.{Tables, all_tables}
use Rattle.codes.specs.Codes.{host_dimensions}

-- dimensions as hosts' contracts have them: each number as a byte
abbrev pub as_bytes : Dimensions → Dimensions
as_bytes d = host_dimensions d.n d.left d.right d.public

-- a table's rows
abbrev pub named_rows : ℕ → List ℕ → List ℕ
named_rows rows words = take (2 * rows) words

-- those of the three tables
abbrev pub named_tables : Dimensions → Tables → Tables
named_tables d tables =
    all_tables (named_rows d.left tables.left) (named_rows d.right tables.right) (named_rows d.public tables.public)
