-- `write` meets its contract: all sections are the circuit, and its wires without the inputs are its gates.
use mathlib.Core.Path.{refl, ap, ◌∙◌}
use mathlib.Core.List.{List}
use Prim.Native.Nat.{◌+◌}
use native.Mathlib.Omega.{arith}
use lib.Seq.{sets}
use Rattle.dimensions.specs.Sizes.{row_count}
use Rattle.dimensions.proofs.Limits.{within}
use Rattle.gates.specs.Gates.{Gate}
use Rattle.gates.specs.Memory.{words_of}
use Rattle.sections.specs.declared.Addresses.{Addresses}
use Rattle.sections.specs.Addressing.{addresses_on}
use Rattle.sections.proofs.DigitLaws.{digits-most}
use Rattle.generator.proofs.Circuit.{all_sections}
use Rattle.generator.proofs.Room.{wires_few}
use Rattle.generator.proofs.Generating.{counted}
use Rattle.generator.proofs.write.Goals as goal

pub overflow_sub-gates : goal.overflow_sub-gates
overflow_sub-gates c =
    let d = c.args.d in
    omega (arith, wires_few d (within d c.requires.0) _ c.of-a.ensures)

pub sections-requires : goal.sections-requires
sections-requires c =
    record { d_value = (c.requires.0, c.requires.1); inputs_value = (ap (λ (a : Addresses). a.inputs) c.of-a.ensures, omega arith) }

pub overflow_cast-result : goal.overflow_cast-result
overflow_cast-result c =
    let d = c.args.d in
    omega (arith, wires_few d (within d c.requires.0) _ c.of-a.ensures)

pub returns : goal.returns
returns c =
    let d = c.args.d in
    record {
      value = counted d.n (row_count d) _ c.of-a.ensures;
      words_after = c.sections.ensures ∙ ap (λ (l : List Gate). sets c.args.words.now 0 (words_of l))
          (all_sections (addresses_on d) (digits-most d.n) (41 + d.n) refl);
    }
