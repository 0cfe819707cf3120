-- The sizes that a host is given: none where its numbers are refused; of numbers as bytes the ceiling is a word.
use mathlib.Core.Path.{◌≡◌}
use mathlib.Core.List.{List}
use Prim.Native.Nat.{ℕ, ◌+◌, ◌*◌, ◌≤◌}
use native.Mathlib.Omega.{arith}
use Rattle.std.specs.Prelude.{Ok, Err}
use Rattle.refusals.specs.Checks.{outcome}
use Rattle.refusals.specs.declared.Refusal.{Refusal}
use Rattle.dimensions.specs.declared.Dimensions.{Dimensions}
use Rattle.dimensions.specs.Sizes.{size_checks, row_count, ceiling}
use Rattle.dimensions.proofs.Products.{product}
use Rattle.codes.specs.Codes.{as_byte, host_dimensions}
use Rattle.host_circuits.specs.Circuits.{size_numbers, sizes_given}

pub sizes-refused : (d : Dimensions) (q : Refusal) → outcome (size_checks d) ≡ Err q → (lent : List ℕ) → lent ≡ sizes_given d lent
sizes-refused d q h lent = rw h

pub sizes-taken : (d : Dimensions) (lent : List ℕ) → outcome (size_checks d) ≡ Ok tt → size_numbers d ≡ sizes_given d lent
sizes-taken d lent h = rw h

pub ceiling-low : (n left right public : ℕ) → ceiling (host_dimensions n left right public) ≤ 4294967296
ceiling-low n left right public =
    omega (arith, product (64 * (row_count (host_dimensions n left right public) + as_byte n + 1)) (as_byte n + 1) (omega arith) (omega arith))
