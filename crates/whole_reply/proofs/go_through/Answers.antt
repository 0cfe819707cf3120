-- `go_through` meets its contract: the arrays have room for every circuit whose ceiling is served.
use mathlib.Core.Path.{◌∙◌}
use Prim.Native.Nat.{ℕ}
use lib.ListN.{replicate, length-replicate}
use Rattle.tables.specs.Tables.{words_in}
use Rattle.whole_reply.proofs.Served.{whole_served}
use Rattle.whole_reply.proofs.go_through.Goals as goal

pub returns : goal.returns
returns c =
    c.solve_whole.ensures.value
    ∙ whole_served c.args.d (words_in c.args.tables) c.requires.public_value c.args.budget c.requires.budget_bound
    (replicate 16383 0) (replicate 255 0) (replicate 5716 0)
    (length-replicate {A = ℕ} 16383 0) (length-replicate {A = ℕ} 255 0) (length-replicate {A = ℕ} 5716 0)
