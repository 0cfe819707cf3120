-- The numbers of the circuit's sections: how many cells each has, and to which wires the slots of its cells go.
use Rattle.std.specs.Prelude.{cond, List, [], ◌∷◌, ◌++◌, ℕ, suc, ◌+◌, ◌*◌, ◌-◌, ◌^◌, ltb, get_or}
use Rattle.sections.specs.declared.Addresses.{Addresses}
use Rattle.sections.specs.declared.Section.{Section}
use Rattle.sections.specs.Cells as Cells
use Rattle.sections.specs.Cells.{Template}
use Rattle.sections.specs.Addressing.{thresholds, digits_to, falses_from, depth_from, levels_from}

-- two wires, other slots unused
abbrev pub two : ℕ → ℕ → List ℕ
two x y = x ∷ y ∷ 0 ∷ 0 ∷ 0 ∷ 0 ∷ 0 ∷ 0 ∷ []

-- three
abbrev pub three : ℕ → ℕ → ℕ → List ℕ
three x y z = x ∷ y ∷ z ∷ 0 ∷ 0 ∷ 0 ∷ 0 ∷ 0 ∷ []

-- four
abbrev pub four : ℕ → ℕ → ℕ → ℕ → List ℕ
four x y z v = x ∷ y ∷ z ∷ v ∷ 0 ∷ 0 ∷ 0 ∷ 0 ∷ []

-- six
abbrev pub six : ℕ → ℕ → ℕ → ℕ → ℕ → ℕ → List ℕ
six x y z v u w = x ∷ y ∷ z ∷ v ∷ u ∷ w ∷ 0 ∷ 0 ∷ []

-- seven
abbrev pub seven : ℕ → ℕ → ℕ → ℕ → ℕ → ℕ → ℕ → List ℕ
seven x y z v u w t = x ∷ y ∷ z ∷ v ∷ u ∷ w ∷ t ∷ 0 ∷ []

-- from wire b on, m lanes of z gates that are 0 and n cells of a template
abbrev in_lanes : (b z : ℕ) (t : Template) (m n : ℕ) (slots outer inner : List ℕ) → Section
in_lanes b z t m n slots outer inner =
    record { base = b; zeros = z; template = t.first; size = t.size; lanes = m; cells = n; slots = slots; outer = outer; inner = inner }

-- one lane
abbrev in_lane : (b z : ℕ) (t : Template) (n : ℕ) (slots steps : List ℕ) → Section
in_lane b z t n slots steps = in_lanes b z t 1 n slots (two 0 0) steps

-- one cell
abbrev cell_alone : (b : ℕ) (t : Template) (slots : List ℕ) → Section
cell_alone b t slots = in_lane b 0 t 1 slots (two 0 0)

module _ (a : Addresses) where
  -- ---- what the rows say

  -- a gate that is 0
  abbrev pub zero_gate : Section
  zero_gate = cell_alone a.inputs Cells.sum (two 0 0)

  -- each row's literals, a chain along the variables
  abbrev pub literals : Section
  literals =
      let size = (Cells.literal).size in
      let l = Cells.literal_lane a.n in
      in_lanes a.literals 2 Cells.literal a.m a.n
      (six 0 a.n a.state (falses_from a.n a.state) a.literals (a.literals + Cells.sign))
      (six (2 * a.n) (2 * a.n) 0 0 l l) (six 1 1 1 1 size size)

  -- whether a row has some free literal and whether it has many, a chain likewise
  abbrev pub counts : Section
  counts =
      let size = (Cells.count).size in
      let l = Cells.count_lane a.n in
      in_lanes a.counts 2 Cells.count a.m a.n
      (three (a.literals + Cells.free) a.counts (a.counts + Cells.many))
      (three (Cells.literal_lane a.n) l l) (three (Cells.literal).size size size)

  -- what a row's lane of literals says after the last variable: whether it is satisfied
  abbrev satisfied_at : ℕ
  satisfied_at = a.literals + (Cells.literal).size * a.n

  -- and of counts: whether it has some free literal
  abbrev some_at : ℕ
  some_at = a.counts + (Cells.count).size * a.n

  -- each row's rank
  abbrev pub ranks : Section
  ranks =
      let l = Cells.count_lane a.n in
      in_lane a.ranks 0 Cells.rank a.m (three satisfied_at some_at (some_at + Cells.many)) (three (Cells.literal_lane a.n) l l)

  -- ---- the rows' keys

  -- where the digit of weight 2^d begins
  abbrev pub digit_after : ℕ → ℕ
  digit_after d = a.digits + digits_to a.n a.m d

  -- the digit of weight 2^d of each row's lowest free variable, a chain along the thresholds
  abbrev pub digit : ℕ → Section
  digit d =
      let k = thresholds a.n d in
      in_lanes (digit_after d) 1 Cells.sum a.m k (two (a.counts + (Cells.count).size * (a.n - 2 ^ d * k)) (digit_after d))
      (two (Cells.count_lane a.n) (1 + k)) (two ((Cells.count).size * 2 ^ d) 1)

  -- where digit i of the keys begins: the sign of a row's one free literal, then the digits of its lowest free variable, then its rank
  abbrev pub key_at : ℕ → ℕ
  key_at i = a.keys + a.m * i

  -- the sign
  abbrev pub key_sign : Section
  key_sign = in_lane a.keys 0 Cells.sum a.m (two (satisfied_at + Cells.sign) a.inputs) (two (Cells.literal_lane a.n) 0)

  -- a digit of the variable
  abbrev pub key_digit : ℕ → Section
  key_digit d =
      let k = thresholds a.n d in
      in_lane (key_at (1 + d)) 0 Cells.sum a.m (two (digit_after d + k) a.inputs) (two (1 + k) 0)

  -- the rank's low digit
  abbrev pub key_low : Section
  key_low = in_lane (key_at (1 + a.b)) 0 Cells.sum a.m (two (a.ranks + Cells.low) a.inputs) (two (Cells.rank).size 0)

  -- and its high digit
  abbrev pub key_high : Section
  key_high = in_lane (key_at (2 + a.b)) 0 Cells.sum a.m (two (a.ranks + Cells.high) a.inputs) (two (Cells.rank).size 0)

  -- ---- the greatest key, by a tree: lane 0 keeps the last row's, the next lanes two rows' each, every later lane two earlier ones

  -- the left item of lane k
  abbrev pub left_at : ℕ → ℕ
  left_at k = a.tree + Cells.left + Cells.tree_lane a.b * k

  -- where its two items differ
  abbrev pub differs_at : ℕ → ℕ
  differs_at k = a.tree + Cells.differs + Cells.tree_lane a.b * k

  -- whether it keeps the right one
  abbrev pub keep_at : ℕ → ℕ
  keep_at k = a.tree + (Cells.node).size * (3 + a.b) + Cells.tree_lane a.b * k

  -- the last row's key, which an odd number of rows leaves over
  abbrev pub bye : Section
  bye = in_lane a.tree 1 Cells.bye (3 + a.b) (two (a.keys + (a.m - 1)) 0) (two a.m 0)

  -- the lanes of two rows, a chain along the digits
  abbrev pub pairs : Section
  pairs =
      let l = Cells.tree_lane a.b in
      in_lanes (a.tree + l) 1 Cells.pair a.pairs (3 + a.b) (three a.keys (a.keys + 1) (a.tree + l))
      (three 2 2 l) (three a.m a.m (Cells.pair).size)

  -- the lanes of two lanes, a chain likewise
  abbrev pub nodes : Section
  nodes =
      let size = (Cells.node).size in
      let l = Cells.tree_lane a.b in
      let k = a.skip in
      let c = a.tree + l + l * a.pairs in
      in_lanes c 1 Cells.node a.nodes (3 + a.b)
      (seven (left_at k) (differs_at k) (keep_at k) (left_at (1 + k)) (differs_at (1 + k)) (keep_at (1 + k)) c)
      (seven (2 * l) (2 * l) (2 * l) (2 * l) (2 * l) (2 * l) l) (seven size size 0 size size 0 size)

  -- what the last lane keeps
  abbrev pub greatest : Section
  greatest =
      let size = (Cells.node).size in
      let k = a.pairs + a.nodes in
      in_lane a.greatest 0 Cells.choice (3 + a.b) (three (left_at k) (differs_at k) (keep_at k)) (three size size 0)

  -- ---- which rule applies, and to which variable

  -- digit k of the greatest key
  abbrev pub greatest_at : ℕ → ℕ
  greatest_at k = a.greatest + Cells.kept + (Cells.choice).size * k

  -- the rule, from the standing, the greatest key's rank and sign, and depth 0
  abbrev pub rule : Section
  rule =
      cell_alone a.rule Cells.rule
      (six a.standing (a.standing + 1) (greatest_at (2 + a.b)) (greatest_at (1 + a.b)) (a.greatest + Cells.kept)
      (depth_from a.n a.state))

  -- node g of the decoder of the variable's number, a heap whose root, node 1, is whether a variable is set
  abbrev pub node_at : ℕ → ℕ
  node_at g = a.rule + Cells.decoder + g

  -- the root
  abbrev pub root : Section
  root = cell_alone (a.rule + (Cells.rule).size) Cells.sum (two (a.rule + Cells.act) a.inputs)

  -- the nodes of d digits, split by the next
  abbrev pub split : ℕ → Section
  split d = in_lane (node_at (2 * 2 ^ d)) 0 Cells.split (2 ^ d) (two (node_at (2 ^ d)) (greatest_at (1 + (a.b - suc d)))) (two 1 0)

  -- ---- what the rule does to variables, state and levels

  -- whether a variable goes to F, is pushed, goes to T
  abbrev pub targets : Section
  targets =
      in_lane a.targets 0 Cells.target a.n
      (three (node_at (2 ^ a.b) + (2 ^ a.b - a.n)) (a.rule + Cells.set_f) (a.rule + Cells.push)) (three 1 0 0)

  -- T and F where a pop or a push applies
  abbrev pub guards : Section
  guards =
      in_lanes a.guards 0 Cells.guard 2 a.n
      (three a.state (a.rule + Cells.pop) (a.rule + Cells.push)) (three a.n 0 0) (three 1 0 0)

  -- whether each level changes, between zeros
  abbrev pub selects : Section
  selects =
      let d = depth_from a.n a.state in
      in_lane a.selects 1 Cells.select a.n (four (a.rule + Cells.push) (d + 1) (a.rule + Cells.pop) d) (four 0 1 0 1)

  -- the zeros after the last level
  abbrev pub select_end : Section
  select_end = in_lane (a.selects + 1 + (Cells.select).size * a.n) 0 Cells.sum 3 (two 0 0) (two 0 0)

  -- ---- what changes in levels, T and F, and depth

  -- one of a level's three sets of wires, from wire x at level 0; what is pushed comes from u on, s apart; for each variable a chain along
  -- the levels
  abbrev pub levels : ℕ → ℕ → ℕ → ℕ → Section
  levels b x u s =
      let size = (Cells.level).size in
      in_lanes b 1 Cells.level a.n a.n (four (a.selects + (Cells.select).size) x u b)
      (four 0 1 s (Cells.level_lane a.n)) (four (Cells.select).size (3 * a.n) 0 size)

  -- a level's T
  abbrev pub levels_t : Section
  levels_t = levels a.levels (levels_from a.n a.state) (a.guards + Cells.saved) (Cells.guard).size

  -- where the wires that the guards make of F begin
  abbrev pub guards_f : ℕ
  guards_f = a.guards + (Cells.guard).size * a.n

  -- a level's F
  abbrev pub levels_f : Section
  levels_f = levels (a.levels + a.block) (levels_from a.n a.state + a.n) (guards_f + Cells.saved) (Cells.guard).size

  -- a level's chosen variable
  abbrev pub levels_v : Section
  levels_v = levels (a.levels + 2 * a.block) (levels_from a.n a.state + 2 * a.n) (a.targets + Cells.pushed) (Cells.target).size

  -- the XOR of all changes of a level's wires that begin at wire b
  abbrev total_at : ℕ → ℕ
  total_at b = b + (Cells.level).size * a.n

  -- the change of T: what a pop takes and gives back, and the variable
  abbrev pub assign_t : Section
  assign_t =
      let l = Cells.level_lane a.n in
      let g = (Cells.guard).size in
      in_lane a.assignments 0 Cells.assignment a.n
      (six a.guards (total_at a.levels) (a.guards + Cells.saved) (a.targets + Cells.sets_t) a.inputs a.inputs)
      (six g l g (Cells.target).size 0 0)

  -- the change of F, which a pop gives the chosen variable too
  abbrev pub assign_f : Section
  assign_f =
      let l = Cells.level_lane a.n in
      let g = (Cells.guard).size in
      let t = (Cells.target).size in
      in_lane (a.assignments + (Cells.assignment).size * a.n) 0 Cells.assignment a.n
      (six guards_f (total_at (a.levels + a.block)) (guards_f + Cells.saved) (total_at (a.levels + 2 * a.block))
      (a.targets + Cells.pushed) a.targets)
      (six g l g l t t)

  -- the change of each depth wire
  abbrev pub depths : Section
  depths =
      let s = (Cells.select).size in
      in_lane a.depths 0 Cells.sum (a.n + 1) (two a.selects (a.selects + s)) (two s s)

  -- ---- the next state and the closing wire, the last wires of the circuit

  -- T and F: each wire and its change
  abbrev pub next_assignment : Section
  next_assignment =
      let size = (Cells.assignment).size in
      in_lanes a.outputs 0 Cells.sum 2 a.n (two a.state (a.assignments + Cells.change)) (two a.n (size * a.n)) (two 1 size)

  -- the depth
  abbrev pub next_depth : Section
  next_depth = in_lane (depth_from a.n a.outputs) 0 Cells.sum (a.n + 1) (two (depth_from a.n a.state) a.depths) (two 1 1)

  -- level l
  abbrev pub next_level : ℕ → Section
  next_level l =
      in_lanes (levels_from a.n a.outputs + 3 * a.n * l) 0 Cells.sum 3 a.n
      (two (levels_from a.n a.state + 3 * a.n * l) (a.levels + Cells.level_change + (Cells.level).size * l))
      (two a.n a.block) (two 1 (Cells.level_lane a.n))

  -- the standing, and the closing wire
  abbrev pub next_standing : Section
  next_standing =
      cell_alone (levels_from a.n a.outputs + 3 * a.n * a.n) Cells.standing
      (four a.standing (a.rule + Cells.done) (a.standing + 1) (a.rule + Cells.refute))

  -- ---- in order

  -- a section of no lanes
  abbrev pub no_section : Section
  no_section = in_lanes a.inputs 0 Cells.sum 0 0 (two 0 0) (two 0 0) (two 0 0)

  -- the member of a family for digit d, if there is such a digit
  abbrev pub if_digit : (ℕ → Section) → ℕ → Section
  if_digit f d = cond (ltb d a.b) (f d) no_section

  -- a family's five members
  abbrev pub five : (ℕ → Section) → List Section
  five f = if_digit f 0 ∷ if_digit f 1 ∷ if_digit f 2 ∷ if_digit f 3 ∷ if_digit f 4 ∷ []

  -- those before the next levels
  abbrev pub first : List Section
  first =
      (zero_gate ∷ literals ∷ counts ∷ ranks ∷ [])
      ++ (five digit
      ++ ((key_sign ∷ [])
      ++ (five key_digit
      ++ ((key_low ∷ key_high ∷ bye ∷ pairs ∷ nodes ∷ greatest ∷ rule ∷ root ∷ [])
      ++ (five split
      ++ (targets ∷ guards ∷ selects ∷ select_end ∷ levels_t ∷ levels_f ∷ levels_v ∷ assign_t ∷ assign_f ∷ depths
      ∷ next_assignment ∷ next_depth ∷ []))))))

  -- section k
  abbrev pub section_at : ℕ → Section
  section_at k = cond (ltb k 40) (get_or first k next_standing) (cond (ltb (k - 40) a.n) (next_level (k - 40)) next_standing)
