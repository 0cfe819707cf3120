-- `put` meets its contract: four stores are a run of stores.
use Rattle.bristol_line.proofs.Pieces.{four_bytes}
use Rattle.bristol_line.proofs.put.Goals as goal

pub returns : goal.returns
returns c =
    let p = four_bytes c.args.bytes.now c.args.more.now c.args.at c.requires.more_len in
    record { value = p.0; bytes_after = p.1 }
