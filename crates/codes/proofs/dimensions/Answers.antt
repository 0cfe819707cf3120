-- `dimensions` meets its contract: each field is its number, held at 255.
use Rattle.codes.proofs.dimensions.Goals as goal

pub returns : goal.returns
returns c =
    λ i. record { n = c.byte.ensures i; left = c.byte-2.ensures i; right = c.byte-3.ensures i; public = c.byte-4.ensures i }
