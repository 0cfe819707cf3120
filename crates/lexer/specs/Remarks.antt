-- Remarks: lines whose first byte is `c`. They are skipped wherever a line may start (document 02, "Remarks between clauses").
-- Ask: Begin with `without_remarks`, and with `table_of` (`dimacs/specs/Text`): has a text the table that it has without its remark lines?
use Rattle.std.specs.Prelude.{ℕ, Bool, cond, List, [], ◌∷◌, ◌++◌, eqb, get_or}
use Rattle.lexer.specs.Bytes.{is_line_feed}

-- a line whose first byte is `c`
abbrev pub is_remark : List ℕ → Bool
is_remark line = eqb (get_or line 0 0) 99

-- a byte in front of lines: an LF is a line's end, another byte joins the first
abbrev pub ahead : ℕ → List (List ℕ) → List (List ℕ)
ahead b [] = (b ∷ []) ∷ []
ahead b (l ∷ ls) = cond (is_line_feed b) ((b ∷ []) ∷ (l ∷ ls)) ((b ∷ l) ∷ ls)

-- the lines of a text, each with its LF; the last may have none
unfoldable pub lines_of : List ℕ → List (List ℕ)
lines_of [] = []
lines_of (b ∷ bs) = ahead b (lines_of bs)

-- lines one after the other, of a remark nothing
unfoldable pub kept : List (List ℕ) → List ℕ
kept [] = []
kept (l ∷ ls) = cond (is_remark l) [] l ++ kept ls

-- a text without its remark lines
unfoldable pub without_remarks : List ℕ → List ℕ
without_remarks text = kept (lines_of text)
