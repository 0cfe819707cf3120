-- `section` meets its contract: the part of the templates that it lends is the section's template.
use mathlib.Core.Path.{◌≡◌, refl, subst}
use mathlib.Core.List.{List}
use Prim.Native.Nat.{◌*◌, ◌-◌}
use lib.Seq.{sets}
use Rattle.gates.specs.Gates.{Gate}
use Rattle.gates.specs.Memory.{words_of}
use Rattle.netlist.specs.Arrays.{in_array}
use Rattle.generator.proofs.Parts.{part}
use Rattle.generator.proofs.cells.section.Goals as goal

pub array-requires : goal.array-requires
array-requires c =
    let p = part _ refl refl refl c.args.first c.args.end c.args.s.template c.args.s.size c.requires.first_value.0
    c.requires.first_value.1 c.requires.fits.named.0 in
    record { template_value = (p.0, p.1); fits = c.requires.fits }

pub returns : goal.returns
returns c =
    let p = part _ refl refl refl c.args.first c.args.end c.args.s.template c.args.s.size c.requires.first_value.0
    c.requires.first_value.1 c.requires.fits.named.0 in
    subst (λ (t : List Gate). c.array.new.words ≡ sets c.args.words.now (3 * (c.args.s.base - c.args.inputs))
    (words_of (in_array t c.args.s)))
    p.2 c.array.ensures
