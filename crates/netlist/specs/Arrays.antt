-- Cells and arrays of cells: a template is a circuit of eight inputs, its slots, and a cell is a template whose slots are wires.
use Rattle.std.specs.Prelude.{cond, List, [], ◌∷◌, ◌++◌, map, ℕ, zero, suc, ◌+◌, ◌*◌, ◌-◌, ◌<◌, length, get_or, ltb}
use Rattle.sections.specs.declared.Section.{Section}
use Rattle.gates.specs.Gates.{Gate}
use Rattle.gates.specs.Gates.Gate.{XOR, AND, INV}
use Rattle.netlist.specs.Templates.{sum}

-- an operand's wire in a cell whose first gate drives wire b
abbrev pub operand : List ℕ → ℕ → ℕ → ℕ
operand slots b x = cond (ltb x 8) (get_or slots x 0) (b + (x - 8))

-- a template's gate in such a cell
abbrev pub placed : List ℕ → ℕ → Gate → Gate
placed slots b (XOR x y) = XOR (operand slots b x) (operand slots b y)
placed slots b (AND x y) = AND (operand slots b x) (operand slots b y)
placed slots b (INV x) = INV (operand slots b x)

-- a template placed: its slots are these wires, its first gate drives wire b
abbrev pub cell : List ℕ → ℕ → List Gate → List Gate
cell slots b template = map (placed slots b) template

-- f 0, f 1, .. , one after the other
abbrev pub rows : (ℕ → List Gate) → ℕ → List Gate
rows f zero = []
rows f (suc n) = rows f n ++ f n

-- slots after i steps
abbrev pub along : List ℕ → List ℕ → ℕ → List ℕ
along [] steps i = []
along (x ∷ slots) [] i = []
along (x ∷ slots) (d ∷ steps) i = (x + d * i) ∷ along slots steps i

-- n cells from wire b on, each with its slots a step on
unfoldable pub cells : List Gate → List ℕ → List ℕ → ℕ → ℕ → List Gate
cells t slots steps b n = rows (λ i. cell (along slots steps i) (b + length t * i) t) n

-- unused slots: two of them give a gate that is 0
abbrev pub none : List ℕ
none = 0 ∷ 0 ∷ 0 ∷ 0 ∷ 0 ∷ 0 ∷ 0 ∷ 0 ∷ []

-- z gates that are 0, then n cells: where a cell's last z gates are what the next cell takes, the first takes zeros
unfoldable pub lane : ℕ → List Gate → List ℕ → List ℕ → ℕ → ℕ → List Gate
lane z t slots steps b n = cells sum none none b z ++ cells t slots steps (b + z) n

-- m lanes
unfoldable pub array : ℕ → List Gate → List ℕ → List ℕ → List ℕ → ℕ → ℕ → ℕ → List Gate
array z t slots outer inner b m n = rows (λ i. lane z t (along slots outer i) inner (b + (z + length t * n) * i) n) m

-- a section's gates, with each cell this template: one cell
abbrev pub cell_alone : List Gate → Section → List Gate
cell_alone t s = cell s.slots s.base t

-- cells side by side
abbrev pub as_cells : List Gate → Section → List Gate
as_cells t s = cells t s.slots s.inner s.base s.cells

-- zeros, then cells
abbrev pub in_lane : List Gate → Section → List Gate
in_lane t s = lane s.zeros t s.slots s.inner s.base s.cells

-- lanes of them
abbrev pub in_array : List Gate → Section → List Gate
in_array t s = array s.zeros t s.slots s.outer s.inner s.base s.lanes s.cells

-- every slot is below k
abbrev pub Below : ℕ → List ℕ → Type 0
Below k [] = Unit {0}
Below k (x ∷ xs) = (x < k) × Below k xs
