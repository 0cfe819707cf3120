-- Gates and the values of a circuit's wires (document 01, "Circuit").
use Rattle.std.specs.Prelude.{Bool, false, not, ◌&&◌, List, [], ◌∷◌, ◌++◌, ℕ, get_or}
use Rattle.words.specs.Booleans.{◌⊕◌}

-- a gate, with the wires that it reads
pub data Gate : Type 0 where
  XOR : ℕ → ℕ → Gate
  AND : ℕ → ℕ → Gate
  INV : ℕ → Gate

-- a wire's value, among the wires' values
abbrev pub wire : List Bool → ℕ → Bool
wire w i = get_or w i false

-- a gate's value, by the values of the wires before it
abbrev pub value : List Bool → Gate → Bool
value w (XOR a b) = wire w a ⊕ wire w b
value w (AND a b) = wire w a && wire w b
value w (INV a) = not (wire w a)

-- the values of all wires: the inputs', then each gate's
unfoldable pub wires_of : List Bool → List Gate → List Bool
wires_of w [] = w
wires_of w (g ∷ gs) = wires_of (w ++ (value w g ∷ [])) gs
