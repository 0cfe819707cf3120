-- The circuit of the giant step for n variables and m rows: its sections, one after the other.
use Rattle.std.specs.Prelude.{List, ◌++◌, ℕ}
use Rattle.dimensions.specs.declared.Dimensions.{Dimensions}
use Rattle.dimensions.specs.Sizes.{row_count}
use Rattle.sections.specs.declared.Addresses.{Addresses}
use Rattle.sections.specs.Addressing.{addresses}
use Rattle.sections.specs.Sections as Sections
use Rattle.gates.specs.Gates.{Gate}
use Rattle.netlist.specs.Templates as Templates
use Rattle.netlist.specs.Arrays.{rows, cell_alone, as_cells, in_lane, in_array}

module _ (a : Addresses) where
  -- ---- what the rows say

  -- a gate that is 0, for a slot that is to take nothing
  abbrev pub zero_gate : List Gate
  zero_gate = cell_alone Templates.sum (Sections.zero_gate a)

  -- each row's literals, a chain along the variables
  abbrev pub literals : List Gate
  literals = in_array Templates.literal (Sections.literals a)

  -- whether a row has some free literal and whether it has many, a chain likewise
  abbrev pub counts : List Gate
  counts = in_array Templates.count (Sections.counts a)

  -- each row's rank
  abbrev pub ranks : List Gate
  ranks = as_cells Templates.rank (Sections.ranks a)

  -- ---- the rows' keys

  -- the digit of weight 2^d of each row's lowest free variable, a chain along the thresholds
  abbrev pub digit : ℕ → List Gate
  digit d = in_array Templates.sum (Sections.digit a d)

  -- the keys' lowest digit: the sign of a row's one free literal
  abbrev pub key_sign : List Gate
  key_sign = as_cells Templates.sum (Sections.key_sign a)

  -- then the digits of the variable
  abbrev pub key_digit : ℕ → List Gate
  key_digit d = as_cells Templates.sum (Sections.key_digit a d)

  -- then the rank's low digit
  abbrev pub key_low : List Gate
  key_low = as_cells Templates.sum (Sections.key_low a)

  -- and its high digit
  abbrev pub key_high : List Gate
  key_high = as_cells Templates.sum (Sections.key_high a)

  -- ---- the greatest key, by a tree

  -- the last row's key, which an odd number of rows leaves over
  abbrev pub bye : List Gate
  bye = in_lane Templates.bye (Sections.bye a)

  -- the lanes of two rows, a chain along the digits
  abbrev pub pairs : List Gate
  pairs = in_array Templates.pair (Sections.pairs a)

  -- the lanes of two lanes, a chain likewise
  abbrev pub nodes : List Gate
  nodes = in_array Templates.node (Sections.nodes a)

  -- what the last lane keeps
  abbrev pub greatest : List Gate
  greatest = as_cells Templates.choice (Sections.greatest a)

  -- ---- which rule applies, and to which variable

  -- the rule, from the standing, the greatest key's rank and sign, and depth 0
  abbrev pub rule : List Gate
  rule = cell_alone Templates.rule (Sections.rule a)

  -- the decoder of the variable's number: its root is whether a variable is set
  abbrev pub root : List Gate
  root = cell_alone Templates.sum (Sections.root a)

  -- the nodes of d digits, split by the next
  abbrev pub split : ℕ → List Gate
  split d = as_cells Templates.split (Sections.split a d)

  -- ---- what the rule does to variables, state and levels

  -- whether a variable goes to F, is pushed, goes to T
  abbrev pub targets : List Gate
  targets = as_cells Templates.target (Sections.targets a)

  -- T and F where a pop or a push applies
  abbrev pub guards : List Gate
  guards = in_array Templates.guard (Sections.guards a)

  -- whether each level changes, between zeros
  abbrev pub selects : List Gate
  selects = in_lane Templates.select (Sections.selects a)

  -- the zeros after the last level
  abbrev pub select_end : List Gate
  select_end = as_cells Templates.sum (Sections.select_end a)

  -- ---- what changes in levels, T and F, and depth

  -- one of a level's three sets of wires, a chain along the levels for each variable
  abbrev pub levels : ℕ → ℕ → ℕ → ℕ → List Gate
  levels b x u s = in_array Templates.level (Sections.levels a b x u s)

  -- a level's T
  abbrev pub levels_t : List Gate
  levels_t = in_array Templates.level (Sections.levels_t a)

  -- a level's F
  abbrev pub levels_f : List Gate
  levels_f = in_array Templates.level (Sections.levels_f a)

  -- a level's chosen variable
  abbrev pub levels_v : List Gate
  levels_v = in_array Templates.level (Sections.levels_v a)

  -- the change of T: what a pop takes and gives back, and the variable
  abbrev pub assign_t : List Gate
  assign_t = as_cells Templates.assignment (Sections.assign_t a)

  -- the change of F, which a pop gives the chosen variable too
  abbrev pub assign_f : List Gate
  assign_f = as_cells Templates.assignment (Sections.assign_f a)

  -- the change of each depth wire
  abbrev pub depths : List Gate
  depths = as_cells Templates.sum (Sections.depths a)

  -- ---- the next state and the closing wire, the last wires of the circuit

  -- T and F: each wire and its change
  abbrev pub next_assignment : List Gate
  next_assignment = in_array Templates.sum (Sections.next_assignment a)

  -- the depth
  abbrev pub next_depth : List Gate
  next_depth = as_cells Templates.sum (Sections.next_depth a)

  -- level l
  abbrev pub next_level : ℕ → List Gate
  next_level l = in_array Templates.sum (Sections.next_level a l)

  -- the standing, and the closing wire
  abbrev pub next_standing : List Gate
  next_standing = cell_alone Templates.standing (Sections.next_standing a)

  -- ---- the whole

  -- what the rows say, in order
  abbrev pub judging : List Gate
  judging = zero_gate ++ (literals ++ (counts ++ ranks))

  -- the rows' keys
  abbrev pub weighing : List Gate
  weighing = rows digit a.b ++ (key_sign ++ (rows key_digit a.b ++ (key_low ++ key_high)))

  -- the greatest key, the rule and its variable
  abbrev pub choosing : List Gate
  choosing = bye ++ (pairs ++ (nodes ++ (greatest ++ (rule ++ (root ++ rows split a.b)))))

  -- what the rule does
  abbrev pub holding : List Gate
  holding = targets ++ (guards ++ (selects ++ select_end))

  -- all changes
  abbrev pub changing : List Gate
  changing = levels_t ++ (levels_f ++ (levels_v ++ (assign_t ++ (assign_f ++ depths))))

  -- all outputs
  abbrev pub outputs : List Gate
  outputs = next_assignment ++ (next_depth ++ (rows next_level a.n ++ next_standing))

  -- the circuit of the giant step
  abbrev pub circuit : List Gate
  circuit = judging ++ (weighing ++ (choosing ++ (holding ++ (changing ++ outputs))))

-- the gates for n variables and m rows
unfoldable pub gates_for : ℕ → ℕ → List Gate
gates_for n m = circuit (addresses n m)

-- the circuit of some dimensions
abbrev pub gates_on : Dimensions → List Gate
gates_on d = gates_for d.n (row_count d)
