-- The clauses after a header, for any n and m, so that the reader of another text can ask for them.
use Rattle.std.specs.Prelude.{ℕ, ◌||◌, cond, ltb}
use Rattle.dimensions.specs.Sizes.{most_variables, most_rows}
use Rattle.refusals.specs.declared.Refusal.TheVariants.{Text}
use Rattle.clauses.specs.Clauses.{Reading}
use Rattle.dimacs.specs.Text.{TextTable, refused, body_of}

-- beyond their limits nothing is read
abbrev pub body_within : ℕ → ℕ → Reading → TextTable
body_within n m reading = cond (ltb most_variables n || ltb most_rows m) (refused Text) (body_of n m reading)
