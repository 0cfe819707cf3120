-- A page of two pilots with three watches and one of ten pilots, computed; pages that are none; and refusals in their order.
use mathlib.Core.Path.{◌≡◌, refl}
use mathlib.Core.Bool.{true}
use mathlib.Core.List.{List, [], ◌∷◌, ◌++◌}
use Prim.Native.Nat.{ℕ, ◌^◌}
use lib.ListN.{take, drop, replicate, set}
use Rattle.refusals.specs.Checks.{outcome}
use Rattle.refusals.specs.Numbers.{code_of}
use Rattle.words.specs.Sets.{bit, all, word_of}
use Rattle.words.specs.Sameness.{same}
use Rattle.lexer.specs.Spelling.{bytes}
use Rattle.text.specs.Decimal.{decimal_within, decimal}
use Rattle.state.specs.declared.Run.{Run}
use Rattle.state.specs.declared.Standing.{Standing}
use Rattle.state.specs.declared.Standing.TheVariants.{Open, Satisfied, Refuted}
use Rattle.state.specs.State.{none}
use Rattle.state.specs.WellFormed.{disjoint, within, well_formed}
use Rattle.verdicts.specs.Verdicts.{model_code, model_numbers}
use Rattle.page.specs.Page.{spaces, aligned, watch_marks, pilot_line, pilot_lines, page_of}
use Rattle.page.specs.Reading.{marked, is_page}
use Rattle.page.specs.Entries.{page_checks, model_on}

-- ---- a page

-- variables 1, 2 and 6 are true: pilot 1 has watches 1 and 2, pilot 2 has watch 3
two-by-three : List ℕ
two-by-three = bytes "  1 # # ." ++ spaces 70 ++ bytes "\n" ++ bytes "  2 . . #" ++ spaces 70 ++ bytes "\n"

its_page : same (page_of 2 3 35) two-by-three ≡ true
unfolding two-by-three page_of pilot_lines pilot_line aligned watch_marks decimal decimal_within bit same
its_page = refl

-- the tenth line of ten pilots with a watch each, the last one's on
tenth : same (drop 720 (page_of 10 1 512)) (bytes " 10 #" ++ spaces 74 ++ bytes "\n") ≡ true
unfolding page_of pilot_lines pilot_line aligned watch_marks decimal decimal_within bit same
tenth = refl

-- 32 watches reach column 67
widest : same (page_of 1 32 (2 ^ 31)) (bytes "  1 . . . . . . . . . . . . . . . . . . . . . . . . . . . . . . . #" ++ spaces 12 ++ bytes "\n") ≡ true
unfolding page_of pilot_lines pilot_line aligned watch_marks decimal decimal_within bit same
widest = refl

-- ---- read

-- what reading says: its number and, where it is 0, the model
says : ℕ → ℕ → ℕ → List ℕ → List ℕ
unfolding model_on is_page marked page_of pilot_lines pilot_line aligned watch_marks decimal decimal_within bit word_of same
says n p s page = model_code (model_on n p s page) ∷ model_numbers (model_on n p s page)

read_again : says 6 2 3 two-by-three ≡ 0 ∷ 35 ∷ []
unfolding says two-by-three
read_again = refl

-- bytes after the page are not looked at
read-before : says 6 2 3 (two-by-three ++ bytes "x") ≡ 0 ∷ 35 ∷ []
unfolding says two-by-three
read-before = refl

-- another letter for a mark, another number, a tab, no line feed, and the same page with other numbers of pilots and watches
no_mark : says 6 2 3 (set two-by-three 4 120) ≡ 27 ∷ []
unfolding says two-by-three
no_mark = refl

no_number : says 6 2 3 (set two-by-three 82 49) ≡ 27 ∷ []
unfolding says two-by-three
no_number = refl

no_space : says 6 2 3 (set two-by-three 78 9) ≡ 27 ∷ []
unfolding says two-by-three
no_space = refl

no_line_feed : says 6 2 3 (set two-by-three 79 32) ≡ 27 ∷ []
unfolding says two-by-three
no_line_feed = refl

other_shape : says 4 2 2 two-by-three ≡ 27 ∷ []
unfolding says two-by-three
other_shape = refl

-- 1 before 25, 25 before 26, 26 before 27; 2 ^ 63 × 2 is not 0, and not 6 either
variables_first : says 33 7 7 [] ≡ 1 ∷ []
unfolding says
variables_first = refl

shape_next : (says 6 2 2 [] ≡ 25 ∷ []) × (says 6 (2 ^ 63) 2 [] ≡ 25 ∷ []) × (says 6 0 6 [] ≡ 25 ∷ [])
unfolding says
shape_next = (refl, refl, refl)

size-next : says 6 2 3 (take 159 two-by-three) ≡ 26 ∷ []
unfolding says two-by-three
size-next = refl

-- ---- made

-- a run of six variables with T and F
unfoldable pub run : Standing → ℕ → ℕ → Run
run standing t f = record { n = 6; standing = standing; t = t; f = f; depth = 0; levels = replicate 32 none }

-- the number that making its page is answered with, for so many lent bytes
made : Standing → ℕ → ℕ → ℕ → ℕ → ℕ → ℕ
unfolding run well_formed disjoint within bit all
made standing t f p s size = code_of (outcome (page_checks (run standing t f) p s size))

taken : made Satisfied 35 4 2 3 160 ≡ 0
unfolding made
taken = refl

-- 12 before 14 before 25 before 26
in_order : (made Open 3 1 0 0 0 ≡ 12) × (made Open 35 4 0 0 0 ≡ 14) × (made Refuted 35 4 0 0 0 ≡ 14) × (made Satisfied 35 4 3 3 0 ≡ 25) ×
    (made Satisfied 35 4 3 2 239 ≡ 26)
unfolding made
in_order = (refl, refl, refl, refl, refl)
