-- `put_refusal` meets its contract: a refusal's line by value is copied whole.
use Rattle.text.specs.Refused.{refused_line}
use Rattle.listing.proofs.Listing.{line_put}
use Rattle.listing.proofs.put_refusal.Goals as goal

pub returns-clause-bytes_after : goal.returns-clause-bytes_after
returns-clause-bytes_after c =
    line_put c.refused_line-text.result (refused_line c.args.refusal) c.copy_from_slice.new.self c.args.bytes.now c.refused_line-text.ensures
    c.copy_from_slice.ensures.after
