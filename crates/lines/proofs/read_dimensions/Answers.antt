-- `read_dimensions` meets its contract: each place found gives the definition's field.
use mathlib.Core.Path.{◌≡◌, sym, ap, ◌∙◌}
use mathlib.Core.Bool.{cond}
use mathlib.Core.List.{List}
use Prim.Native.Nat.{ℕ}
use lib.Dec.{leb}
use lib.ListN.{drop}
use borrow.Author.Tests.{lt-leb, le-leb}
use Rattle.std.specs.Prelude.{Ok, Err}
use Rattle.refusals.specs.declared.Refusal.TheVariants.{NumberLine}
use Rattle.lines.specs.Numbers.{field_of, dimension_line_of}
use Rattle.lines.specs.Places.{second_from, third_from, fourth_from}
use Rattle.lines.proofs.Readings.{lost, no_first, one-first, one-second, one_third, one_fourth}
use Rattle.lines.proofs.Said.{size-said}
use Rattle.lines.proofs.read_dimensions.Goals as goal
use Rattle.lines.proofs.read_dimensions.Goals.{In-Some, In-Some-field, In-Some-field-2, In-Some-field-3}

-- ---- what is known once a field is found: the line, the numbers so far, the place after them

abbrev line_of : In-Some → List ℕ
line_of c = c.args.input.now

abbrev n_of : In-Some → ℕ
n_of c = c.in-Some.n

abbrev left_of : In-Some-field → ℕ
left_of c = c.in-Some-field.left

abbrev rightOf : In-Some-field-2 → ℕ
rightOf c = c.in-Some-field-2.right

abbrev behindN : In-Some → ℕ
behindN c = c.in-Some.second

abbrev behindLeft : In-Some-field → ℕ
behindLeft c = c.in-Some-field.third

abbrev behindRight : In-Some-field-2 → ℕ
behindRight c = c.in-Some-field-2.fourth

after_first : (c : In-Some) → dimension_line_of (line_of c) ≡ second_from (line_of c) (n_of c) (field_of 32 (drop (behindN c) (line_of c)))
after_first c = one-first _ _ _ (sym c.field.ensures ∙ c.in-Some.is)

after-second : (c : In-Some-field)
    → dimension_line_of (line_of (goal.at.In-Some-field c).In-Some)
    ≡ third_from (line_of (goal.at.In-Some-field c).In-Some) (n_of (goal.at.In-Some-field c).In-Some) (left_of c)
    (field_of 32 (drop (behindLeft c) (line_of (goal.at.In-Some-field c).In-Some)))
after-second c =
    after_first (goal.at.In-Some-field c).In-Some
    ∙ one-second (line_of (goal.at.In-Some-field c).In-Some) (n_of (goal.at.In-Some-field c).In-Some)
    (behindN (goal.at.In-Some-field c).In-Some) _ _ (sym c.field-2.ensures ∙ c.in-Some-field.is)

after-third : (c : In-Some-field-2)
    → dimension_line_of (line_of (goal.at.In-Some-field-2 c).In-Some)
    ≡ fourth_from (line_of (goal.at.In-Some-field-2 c).In-Some) (n_of (goal.at.In-Some-field-2 c).In-Some)
    (left_of (goal.at.In-Some-field-2 c).In-Some-field) (rightOf c)
    (field_of 10 (drop (behindRight c) (line_of (goal.at.In-Some-field-2 c).In-Some)))
after-third c =
    after-second (goal.at.In-Some-field-2 c).In-Some-field
    ∙ one_third (line_of (goal.at.In-Some-field-2 c).In-Some) (n_of (goal.at.In-Some-field-2 c).In-Some)
    (left_of (goal.at.In-Some-field-2 c).In-Some-field) (behindLeft (goal.at.In-Some-field-2 c).In-Some-field) _ _
    (sym c.field-3.ensures ∙ c.in-Some-field-2.is)

after-fourth : (c : In-Some-field-3) → dimension_line_of (line_of (goal.at.In-Some-field-3 c).In-Some)
    ≡ cond (leb c.in-Some-field-3.end 100) ((λ (a : ℕ) (b : ℕ) (c : ℕ) (d : ℕ). Ok (a, b, c, d)) (n_of (goal.at.In-Some-field-3 c).In-Some)
    (left_of (goal.at.In-Some-field-3 c).In-Some-field)
    (rightOf (goal.at.In-Some-field-3 c).In-Some-field-2) c.in-Some-field-3.public) (Err NumberLine)
after-fourth c =
    after-third (goal.at.In-Some-field-3 c).In-Some-field-2
    ∙ one_fourth (line_of (goal.at.In-Some-field-3 c).In-Some) (n_of (goal.at.In-Some-field-3 c).In-Some)
    (left_of (goal.at.In-Some-field-3 c).In-Some-field) (rightOf (goal.at.In-Some-field-3 c).In-Some-field-2)
    (behindRight (goal.at.In-Some-field-3 c).In-Some-field-2) _ _
    (sym c.field-4.ensures ∙ c.in-Some-field-3.is)

pub returns-in_default : goal.returns-in_default
returns-in_default c =
    let proved = size-said _ _ (sym (no_first _ (sym c.field.ensures ∙ c.in_default.is))) in
    record { value = proved.0; result_value = proved.1 }

pub returns-in_default-field : goal.returns-in_default-field
returns-in_default-field c =
    let none = lost (line_of (goal.at.returns-in_default-field c).In-Some) (behindN (goal.at.returns-in_default-field c).In-Some) 32
    (sym c.field-2.ensures ∙ c.in_default-field.is) in
    let proved = size-said _ _ (sym (after_first (goal.at.returns-in_default-field c).In-Some
    ∙ ap (second_from (line_of (goal.at.returns-in_default-field c).In-Some) (n_of (goal.at.returns-in_default-field c).In-Some)) none)) in
    record { value = proved.0; result_value = proved.1 }

pub returns-in_default-field-2 : goal.returns-in_default-field-2
returns-in_default-field-2 c =
    let none = lost (line_of (goal.at.returns-in_default-field-2 c).In-Some) (behindLeft (goal.at.returns-in_default-field-2 c).In-Some-field) 32
    (sym c.field-3.ensures ∙ c.in_default-field-2.is) in
    let proved = size-said _ _ (sym (after-second (goal.at.returns-in_default-field-2 c).In-Some-field
    ∙ ap (third_from (line_of (goal.at.returns-in_default-field-2 c).In-Some) (n_of (goal.at.returns-in_default-field-2 c).In-Some)
    (left_of (goal.at.returns-in_default-field-2 c).In-Some-field)) none)) in
    record { value = proved.0; result_value = proved.1 }

pub returns-in_default-field-3 : goal.returns-in_default-field-3
returns-in_default-field-3 c =
    let none = lost (line_of (goal.at.returns-in_default-field-3 c).In-Some) (behindRight (goal.at.returns-in_default-field-3 c).In-Some-field-2) 10
    (sym c.field-4.ensures ∙ c.in_default-field-3.is) in
    let proved = size-said _ _ (sym (after-third (goal.at.returns-in_default-field-3 c).In-Some-field-2
    ∙ ap (fourth_from (line_of (goal.at.returns-in_default-field-3 c).In-Some) (n_of (goal.at.returns-in_default-field-3 c).In-Some)
    (left_of (goal.at.returns-in_default-field-3 c).In-Some-field) (rightOf (goal.at.returns-in_default-field-3 c).In-Some-field-2)) none)) in
    record { value = proved.0; result_value = proved.1 }

pub returns-then-end-le-LONGEST : goal.returns-then-end-le-LONGEST
returns-then-end-le-LONGEST c =
    let proved = size-said _ _ (sym (after-fourth (goal.at.returns-then-end-le-LONGEST c).In-Some-field-3 ∙ rw (le-leb _ _ c.if-end-le-LONGEST.true))) in
    record { value = proved.0; result_value = proved.1 }

pub returns : goal.returns
returns c =
    let proved = size-said _ _ (sym (after-fourth (goal.at.returns c).In-Some-field-3 ∙ rw (lt-leb _ _ c.if-end-le-LONGEST.false))) in
    record { value = proved.0; result_value = proved.1 }
