-- The watch page: document 02, "The watch page". "variable (i−1) × s + j stands for pilot i on watch j"; pilots, watches and bits are
-- counted from 0 here, so that pilot i has the s bits from i × s on.
-- Ask: Have document 02's paragraph on the watch page beside you. Is each part of a line there, up to column 79 and its line feed? Which
-- bits are a pilot's?
use Rattle.std.specs.Prelude.{ℕ, zero, suc, ◌+◌, ◌-◌, ◌*◌, Bool, true, false, List, [], ◌++◌, length, replicate}
use Rattle.words.specs.Sets.{bit}
use Rattle.lexer.specs.Spelling.{bytes}
use Rattle.text.specs.Decimal.{decimal}
use Rattle.text.specs.Refused.{with_line_feed}

-- k spaces
abbrev pub spaces : ℕ → List ℕ
spaces k = replicate k 32

-- "the number right-aligned in 3 columns"
unfoldable pub aligned : ℕ → List ℕ
aligned x = spaces (3 - length (decimal x)) ++ decimal x

-- "a space and `#` for true or `.` for false"
abbrev pub mark : Bool → List ℕ
mark true = bytes " #"
mark false = bytes " ."

-- "for each watch": those of k watches, from bit v on
unfoldable pub watch_marks : ℕ → ℕ → ℕ → List ℕ
watch_marks zero v model = []
watch_marks (suc k) v model = mark (bit model v) ++ watch_marks k (suc v) model

-- "spaces up to column 79, and a line feed"
abbrev pub filled : List ℕ → List ℕ
filled line = with_line_feed (line ++ spaces (79 - length line))

-- the line of pilot i with s watches
unfoldable pub pilot_line : ℕ → ℕ → ℕ → List ℕ
unfolding aligned watch_marks
pilot_line s model i = filled (aligned (i + 1) ++ watch_marks s (i * s) model)

-- the lines of k pilots from pilot i on
unfoldable pub pilot_lines : ℕ → ℕ → ℕ → ℕ → List ℕ
unfolding pilot_line
pilot_lines s model i zero = []
pilot_lines s model i (suc k) = pilot_line s model i ++ pilot_lines s model (suc i) k

-- the page of p pilots and s watches that shows the model
unfoldable pub page_of : ℕ → ℕ → ℕ → List ℕ
unfolding pilot_lines
page_of p s model = pilot_lines s model 0 p
