-- The cells in numbers: for each template how many gates it has and where they begin among all templates' gates, and where the wires are
-- that other sections take. `netlist/specs/Templates` has the gates, under the same names. A lane begins with a zero for each wire that its
-- cells hand on, so that what cell i takes from the cell before begins with wire size times i of the lane.
use Rattle.std.specs.Prelude.{ℕ, ◌+◌, ◌*◌}

-- ---- the templates

-- where a template's gates begin among all templates', and how many there are
pub record Template : Type 0 where
  pub first : ℕ
  pub size : ℕ

-- a template of k gates after another
abbrev after : Template → ℕ → Template
after t k = record { first = t.first + t.size; size = k }

-- the XOR of two slots
abbrev pub sum : Template
sum = record { first = 0; size = 1 }

-- a variable in a row
abbrev pub literal : Template
literal = after sum 12

-- its part in the number of free literals
abbrev pub count : Template
count = after literal 6

-- a row's rank
abbrev pub rank : Template
rank = after count 5

-- in the tree a digit of the last row's key
abbrev pub bye : Template
bye = after rank 8

-- of two rows' keys
abbrev pub pair : Template
pair = after bye 8

-- of what two lanes keep
abbrev pub node : Template
node = after pair 8

-- what a lane keeps
abbrev pub choice : Template
choice = after node 2

-- which rule applies
abbrev pub rule : Template
rule = after choice 13

-- a node of the decoder
abbrev pub split : Template
split = after rule 2

-- what the rule does to a variable
abbrev pub target : Template
target = after split 3

-- to a wire of T or F
abbrev pub guard : Template
guard = after target 2

-- to a level
abbrev pub select : Template
select = after guard 3

-- to a level's wire
abbrev pub level : Template
level = after select 3

-- the change of a wire of T or F
abbrev pub assignment : Template
assignment = after level 5

-- the next standing
abbrev pub standing : Template
standing = after assignment 3

-- how many gates all templates have
abbrev pub all_size : ℕ
all_size = standing.first + standing.size

-- ---- how many gates a lane has

-- a row's literals, over n variables
abbrev pub literal_lane : ℕ → ℕ
literal_lane n = 2 + literal.size * n

-- its counts
abbrev pub count_lane : ℕ → ℕ
count_lane n = 2 + count.size * n

-- a lane of the tree, for b digits of a variable's number
abbrev pub tree_lane : ℕ → ℕ
tree_lane b = 1 + node.size * (3 + b)

-- a variable's wires of n levels
abbrev pub level_lane : ℕ → ℕ
level_lane n = 1 + level.size * n

-- ---- wires of a lane

-- of literals, the first of which says whether the row is satisfied: the sign of its one free literal
abbrev pub sign : ℕ
sign = 1

-- and a free literal, gate 8
abbrev pub free : ℕ
free = 2 + 8

-- of counts, the first of which says whether there is some free literal: whether there are many
abbrev pub many : ℕ
many = 1

-- of the tree, the first of which says whether the right item is greater, as the last does for all digits: the left item, gate 1
abbrev pub left : ℕ
left = 1 + 1

-- and where the two items differ, gate 4
abbrev pub differs : ℕ
differs = 1 + 4

-- of a level's wires, the first of which is the XOR of the changes before: the change, gate 1
abbrev pub level_change : ℕ
level_change = 1 + 1

-- ---- wires of a cell

-- of a rank: its high digit
abbrev pub high : ℕ
high = 2

-- and its low digit
abbrev pub low : ℕ
low = 4

-- of a choice: what is kept
abbrev pub kept : ℕ
kept = 1

-- of the rule: a level is pushed
abbrev pub push : ℕ
push = 6

-- the run is satisfied
abbrev pub done : ℕ
done = 7

-- the run is refuted
abbrev pub refute : ℕ
refute = 8

-- a level is popped
abbrev pub pop : ℕ
pop = 9

-- a variable is set
abbrev pub act : ℕ
act = 10

-- and goes to F
abbrev pub set_f : ℕ
set_f = 12

-- node g of the decoder is wire `decoder` + g of the rule's, and node 1 its root
abbrev pub decoder : ℕ
decoder = 12

-- of a target, the first of which says whether the variable goes to F: whether it is pushed
abbrev pub pushed : ℕ
pushed = 1

-- and whether it goes to T
abbrev pub sets_t : ℕ
sets_t = 2

-- of a guard, the first of which is what a pop takes: what a push saves
abbrev pub saved : ℕ
saved = 1

-- of an assignment: the change
abbrev pub change : ℕ
change = 4
