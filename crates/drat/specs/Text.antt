-- What a DRAT text means, and when it is accepted: 18, 19 and 20 after the tables' own checks (document 02, "Proofs from other solvers").
-- Ask: Is 18 judged over the whole text, then 19, then 20?
use Rattle.std.specs.Prelude.{ℕ, true, cond, List, [], ◌∷◌, ◌++◌, ltb, length, Option, Some, None}
use Rattle.refusals.specs.Checks.{Check, check}
use Rattle.refusals.specs.declared.Refusal.TheVariants.{ProofText}
use Rattle.words.specs.declared.Row.{Row}
use Rattle.lexer.specs.Pieces.{Piece, lines_from}
use Rattle.dimensions.specs.declared.Dimensions.{Dimensions}
use Rattle.tables.specs.Tables.{Tables}
use Rattle.tables.specs.Rows.{rows_of}
use Rattle.tables.specs.Acceptance.{table_checks}
use Rattle.drat_line.specs.declared.Said.{Said}
use Rattle.drat_line.specs.declared.Said.TheVariants.{Nothing, Added, Deleted, Malformed}
use Rattle.drat_line.specs.Lines.{line_said}
use Rattle.drat.specs.Proofs.{ProofLine, added, deleted, additions, addition_checks}

-- a line in front of others: one with nothing in it is skipped, and none are left where one is malformed
abbrev pub line_before : Said → Option (List ProofLine) → Option (List ProofLine)
line_before Nothing ls = ls
line_before (Added r) None = None
line_before (Added r) (Some ls) = Some (added r ∷ ls)
line_before (Deleted r) None = None
line_before (Deleted r) (Some ls) = Some (deleted r ∷ ls)
line_before Malformed ls = None

-- all lines, those after the empty clause too
unfoldable pub proof_lines : ℕ → List Piece → Option (List ProofLine)
unfolding line_said
proof_lines n [] = Some []
proof_lines n (p ∷ ps) = line_before (line_said n p.bytes) (proof_lines n ps)

-- at most 256 additions in them
abbrev pub few_additions : Option (List ProofLine) → Option (List ProofLine)
few_additions None = None
few_additions (Some ls) = cond (ltb 256 (additions ls)) None (Some ls)

-- the proof of a text of at most 65,536 bytes; none where it is malformed
unfoldable pub proof_of : ℕ → List ℕ → Option (List ProofLine)
unfolding proof_lines additions
proof_of n text = cond (ltb 65536 (length text)) None (few_additions (proof_lines n (lines_from text 0)))

-- 18, or the proof's 19 and 20
abbrev pub proof_text_checks : List Row → Option (List ProofLine) → List Check
proof_text_checks rows None = check true ProofText ∷ []
proof_text_checks rows (Some ls) = addition_checks rows ls

-- the tables' 1, 2, 4, 3, then 18, 19, 20
abbrev pub proof_checks : Dimensions → Tables → List ℕ → List Check
proof_checks d tables text = table_checks d tables ++ proof_text_checks (rows_of d tables) (proof_of d.n text)
