-- The wires of small states, rows and inputs, computed.
use mathlib.Core.Path.{◌≡◌, refl}
use mathlib.Core.List.{List, [], ◌∷◌, ◌++◌}
use Prim.Native.Nat.{ℕ}
use Rattle.words.specs.Sets.{bit}
use Rattle.dimensions.specs.Sizes.{dimensions}
use Rattle.tables.specs.Tables.{all_tables}
use Rattle.state.specs.declared.Standing.TheVariants.{Open, Satisfied, Refuted}
use Rattle.state.specs.State.{State, fresh}
use Rattle.gates.specs.Memory.{bytes_of}
use Rattle.wires.specs.Layout.{upto, joined, row_bits, rows_bits, on_level, state_bits}
use Rattle.wires.specs.Packing.{input_bits}

wires : ℕ → State → List ℕ
unfolding state_bits upto joined on_level bit
wires n s = bytes_of (state_bits n s)

-- T; F; depth 0 of two; the level's T, F and choice; satisfied, refuted
fresh_1 : wires 1 fresh ≡ (0 ∷ []) ++ (0 ∷ []) ++ (1 ∷ 0 ∷ []) ++ (0 ∷ 0 ∷ 0 ∷ []) ++ (0 ∷ 0 ∷ [])
unfolding wires
fresh_1 = refl

-- variable 1 false, then variable 2 chosen: T; F; depth 1; level 1; level 2; open
chosen : wires 2 (record { standing = Open; t = 2; f = 1; levels = record { t = 0; f = 1; chosen = 1 } ∷ [] })
    ≡ (0 ∷ 1 ∷ []) ++ (1 ∷ 0 ∷ []) ++ (0 ∷ 1 ∷ 0 ∷ []) ++ (0 ∷ 0 ∷ 1 ∷ 0 ∷ 0 ∷ 1 ∷ []) ++ (0 ∷ 0 ∷ 0 ∷ 0 ∷ 0 ∷ 0 ∷ []) ++ (0 ∷ 0 ∷ [])
unfolding wires
chosen = refl

-- the levels, the first one first, at full depth
full_depth : wires 2 (record { standing = Open; t = 3; f = 0; levels = record { t = 1; f = 0; chosen = 1 } ∷ record { t = 0; f = 0; chosen = 0 } ∷ [] })
    ≡ (1 ∷ 1 ∷ []) ++ (0 ∷ 0 ∷ []) ++ (0 ∷ 0 ∷ 1 ∷ []) ++ (0 ∷ 0 ∷ 0 ∷ 0 ∷ 1 ∷ 0 ∷ []) ++ (1 ∷ 0 ∷ 0 ∷ 0 ∷ 0 ∷ 1 ∷ []) ++ (0 ∷ 0 ∷ [])
unfolding wires
full_depth = refl

satisfied : wires 1 (record { standing = Satisfied; t = 1; f = 0; levels = [] }) ≡ 1 ∷ 0 ∷ 1 ∷ 0 ∷ 0 ∷ 0 ∷ 0 ∷ 1 ∷ 0 ∷ []
unfolding wires
satisfied = refl

refuted : wires 1 (record { standing = Refuted; t = 0; f = 1; levels = [] }) ≡ 0 ∷ 1 ∷ 1 ∷ 0 ∷ 0 ∷ 0 ∷ 0 ∷ 0 ∷ 1 ∷ []
unfolding wires
refuted = refl

-- (1 -3): n positive wires, then n negative, from variable 1
row : bytes_of (row_bits 3 (record { positive = 1; negative = 4 })) ≡ 1 ∷ 0 ∷ 0 ∷ 0 ∷ 0 ∷ 1 ∷ []
unfolding upto bit
row = refl

-- (1) | (-1) | (1 -1): the left row, the right row, the public row, the fresh state
inputs : bytes_of (input_bits (dimensions 1 1 1 1) (all_tables (1 ∷ 0 ∷ []) (0 ∷ 1 ∷ []) (1 ∷ 1 ∷ [])) fresh)
    ≡ (1 ∷ 0 ∷ []) ++ (0 ∷ 1 ∷ []) ++ (1 ∷ 1 ∷ []) ++ (0 ∷ 0 ∷ 1 ∷ 0 ∷ 0 ∷ 0 ∷ 0 ∷ 0 ∷ 0 ∷ [])
unfolding input_bits rows_bits state_bits upto joined on_level bit
inputs = refl
