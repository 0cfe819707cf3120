-- `put_circuit` meets its contract: what the generator leaves is the circuit whose text is wanted, and what it refuses is refused.
use mathlib.Core.Path.{sym, ◌∙◌}
use Prim.Native.Nat.{ℕ}
use lib.ListN.{replicate, length-replicate}
use Rattle.listing.proofs.Listing.{Served, served, put_same}
use Rattle.listing.proofs.put_circuit.Goals as goal
use Rattle.listing.proofs.put_circuit.Goals.{In-Ok}

-- what holds of the words once gates were generated
known : (c : In-Ok) → Served c.args.d c.in-Ok.count c.generate.new.words
known c =
    served c.args.d (replicate 16383 0) _ _ (length-replicate {A = ℕ} 16383 0) (sym c.generate.ensures.value ∙ c.in-Ok.is) c.generate.ensures.words_after

pub put_text-requires-clause-gates_len_bound : goal.put_text-requires-clause-gates_len_bound
put_text-requires-clause-gates_len_bound c = (known (goal.at.put_text-requires-clause-gates_len_bound c).In-Ok).short

pub returns-in-Ok : goal.returns-in-Ok
returns-in-Ok c =
    let put = put_same _ _ _ _ _ (known (goal.at.returns-in-Ok c).In-Ok).text (c.put_text.ensures.value, c.put_text.ensures.bytes_after) in
    record { value = put.0; bytes_after = put.1 }
