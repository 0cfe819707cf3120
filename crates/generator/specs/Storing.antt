-- What the generator's own functions ask of templates, sections and words, and what they store.
use Rattle.std.specs.Prelude.{Bool, true, ◌&&◌, List, [], ◌∷◌, ◌++◌, map, ℕ, ◌+◌, ◌*◌, ◌-◌, ◌/◌, ◌%◌, ◌≤◌, ltb, take, drop}
use Rattle.gates.specs.Gates.{Gate}
use Rattle.gates.specs.Memory.{gate_of}
use Rattle.dimensions.specs.declared.Dimensions.{Dimensions}
use Rattle.sections.specs.declared.Section.{Section}
use Rattle.sections.specs.Cells.{all_size}
use Rattle.sections.specs.Addressing.{addresses_on}
use Rattle.sections.specs.Sections.{section_at}
use Rattle.netlist.specs.Templates.{sum, literal, count, rank, bye, pair, node, choice, rule, split, target, guard, select, level}
use Rattle.netlist.specs.Templates.{assignment, standing}
use Rattle.netlist.specs.Arrays.{Below, in_array}

-- the gates of a template in memory, a number a gate: its kind, then two hexadecimal digits for each operand
abbrev pub gates_in : List ℕ → List Gate
gates_in t = map (λ g. gate_of (g / 65536) (g / 256 % 256) (g % 256)) t

-- whether its kinds are below 3
abbrev pub tidy : List ℕ → Bool
tidy [] = true
tidy (g ∷ t) = ltb (g / 65536) 3 && tidy t

-- all templates, one after the other, as `sections/specs/Cells` numbers their gates
abbrev pub templates : List Gate
templates =
    sum ++ (literal ++ (count ++ (rank ++ (bye ++ (pair ++ (node ++ (choice ++ (rule ++ (split ++ (target ++ (guard
    ++ (select ++ (level ++ (assignment ++ standing))))))))))))))

-- a section's gates
abbrev pub gates_of : Section → List Gate
gates_of s = in_array (take s.size (drop s.template templates)) s

-- the gates of section k of the circuit of some dimensions
abbrev pub gates_at : Dimensions → ℕ → List Gate
gates_at d k = gates_of (section_at (addresses_on d) k)

-- sums over a section's numbers fit a word, and so many words, with room after so many inputs
pub record Fits (inputs : ℕ) (s : Section) (len : ℕ) : Type 0 where
  pub named : (s.template + s.size ≤ all_size) × (s.size ≤ 16)
  pub counts : (s.zeros ≤ 4) × (s.lanes ≤ 384) × (s.cells ≤ 384)
  pub begins : (inputs ≤ s.base) × (s.base ≤ 1048576)
  pub below : Below 16777216 s.slots × Below 65536 s.outer × Below 65536 s.inner
  pub room : 3 * (s.base - inputs) + 3 * ((s.zeros + s.size * s.cells) * s.lanes) ≤ len
