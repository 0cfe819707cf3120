-- The templates of the circuit's cells. An operand below 8 is a slot, 8 + k the cell's own gate k. What a chain hands on comes last, in the
-- order of the slots that take it. `sections/specs/Cells` has under the same names how many gates each has and which of them others take.
use Rattle.std.specs.Prelude.{List, [], ◌∷◌}
use Rattle.gates.specs.Gates.{Gate}
use Rattle.gates.specs.Gates.Gate.{XOR, AND, INV}

-- slots a, b: a ⊕ b
abbrev pub sum : List Gate
sum = XOR 0 1 ∷ []

-- slots p, q, T, F; satisfied, sign. Where the row is not satisfied, gates 2 and 5 are a free positive and a free negative literal, gate 8
-- (`free`) a free literal
abbrev pub literal : List Gate
literal =
    XOR 4 0 ∷ XOR 0 3 ∷ AND 8 9 ∷ XOR 4 1 ∷ XOR 1 2 ∷ AND 11 12 ∷ XOR 3 10 ∷ XOR 2 13 ∷ XOR 10 13 ∷ AND 14 15 ∷ XOR 4 17 ∷ XOR 5 10 ∷ []

-- slots free literal; some, many
abbrev pub count : List Gate
count = AND 1 0 ∷ XOR 2 8 ∷ AND 2 8 ∷ XOR 1 0 ∷ XOR 11 8 ∷ XOR 9 10 ∷ []

-- slots satisfied, some, many. Gate 2 (`high`): the high digit of the rank; gate 4 (`low`): the low digit
abbrev pub rank : List Gate
rank = INV 0 ∷ INV 2 ∷ AND 8 9 ∷ AND 10 1 ∷ XOR 8 11 ∷ []

-- A lane of the tree has two items. Gate 1 (`left`): the left one, gate 4 (`differs`): where they differ, gate 7: the right one greater, on
-- the digits so far. Slot key: the left item, and it is kept
abbrev pub bye : List Gate
bye = XOR 0 0 ∷ XOR 0 8 ∷ XOR 0 0 ∷ XOR 0 0 ∷ XOR 0 0 ∷ XOR 0 0 ∷ XOR 0 0 ∷ XOR 0 0 ∷ []

-- slots left key, right key; greater
abbrev pub pair : List Gate
pair = XOR 0 0 ∷ XOR 0 8 ∷ XOR 0 0 ∷ XOR 0 0 ∷ XOR 0 1 ∷ XOR 1 2 ∷ AND 12 13 ∷ XOR 2 14 ∷ []

-- slots left, differs and keep of a lane, left, differs and keep of the next; greater. Gates 1 and 3: what the two lanes keep
abbrev pub node : List Gate
node = AND 2 1 ∷ XOR 0 8 ∷ AND 5 4 ∷ XOR 3 10 ∷ XOR 9 11 ∷ XOR 11 6 ∷ AND 12 13 ∷ XOR 6 14 ∷ []

-- slots left, differs and keep of a lane: gate 1 (`kept`) is what it keeps
abbrev pub choice : List Gate
choice = AND 2 1 ∷ XOR 0 8 ∷ []

-- slots satisfied, refuted, high and low digit of the rank, sign, depth 0. Gates: 1 open, 3 conflict, 4 force, 6 `push`, 7 `done`,
-- 8 `refute`, 9 `pop`, 10 `act`, a variable is set, 12 `set_f`, it goes to F
abbrev pub rule : List Gate
rule =
    XOR 0 1 ∷ INV 8 ∷ AND 9 2 ∷ AND 10 3 ∷ XOR 10 11 ∷ XOR 9 10 ∷ AND 13 3
    ∷ XOR 13 14 ∷ AND 11 5 ∷ XOR 11 16 ∷ XOR 12 14 ∷ INV 4 ∷ AND 12 19 ∷ []

-- slots node, digit: the node's child where the digit is 1, and where it is 0
abbrev pub split : List Gate
split = AND 0 1 ∷ XOR 0 8 ∷ []

-- slots variable, set_f, push: gate 0 is whether it goes to F, gate 1 (`pushed`) whether it is pushed, gate 2 (`sets_t`) whether it goes
-- to T
abbrev pub target : List Gate
target = AND 0 1 ∷ AND 0 2 ∷ XOR 0 8 ∷ []

-- slots state's wire, pop, push: gate 0 is what a pop takes, gate 1 (`saved`) what a push saves
abbrev pub guard : List Gate
guard = AND 0 1 ∷ AND 0 2 ∷ []

-- slots push, the depth above, pop, the depth: gate 2 is whether the level changes
abbrev pub select : List Gate
select = XOR 0 1 ∷ XOR 2 3 ∷ AND 8 9 ∷ []

-- slots changes, level's wire, what is pushed; total. Gate 1 (`level_change`): the change of the level's wire
abbrev pub level : List Gate
level = XOR 1 2 ∷ AND 0 8 ∷ XOR 3 9 ∷ []

-- the XOR of six slots: gate 4 (`change`) is the change of the state's wire
abbrev pub assignment : List Gate
assignment = XOR 0 1 ∷ XOR 8 2 ∷ XOR 9 3 ∷ XOR 10 4 ∷ XOR 11 5 ∷ []

-- slots satisfied, done, refuted, refute: the next satisfied, the next refuted, and whether the next state is closed
abbrev pub standing : List Gate
standing = XOR 0 1 ∷ XOR 2 3 ∷ XOR 8 9 ∷ []
