-- Where the state, its standing and each section of the circuit begin, for n variables and m rows.
use Rattle.std.specs.Prelude.{ℕ, zero, suc, ◌+◌, ◌*◌, ◌-◌, ◌/◌, ◌^◌, ◌≤◌, leb}
use Rattle.words.specs.Sets.{lowest}
use Rattle.dimensions.specs.declared.Dimensions.{Dimensions}
use Rattle.dimensions.specs.Sizes.{row_count}
use Rattle.sections.specs.declared.ReadingAddresses.{ReadingAddresses}
use Rattle.sections.specs.declared.ActingAddresses.{ActingAddresses}
use Rattle.sections.specs.declared.Addresses.{Addresses}
use Rattle.sections.specs.Cells as Cells

-- how many binary digits the number of one of n variables has, n at most 32: the least b with n ≤ 2^b
abbrev pub digits_for : ℕ → ℕ
digits_for n = lowest (λ b. leb n (2 ^ b)) 5

-- how many thresholds the digit of weight 2^d has
abbrev pub thresholds : ℕ → ℕ → ℕ
thresholds n d = (n - 1) / 2 ^ d

-- how many gates the digits below d have, of m rows
unfoldable pub digits_to : ℕ → ℕ → ℕ → ℕ
digits_to n m zero = 0
digits_to n m (suc d) = digits_to n m d + (1 + thresholds n d) * m

-- where F, the depth and the levels begin in a state of n variables that begins at wire x
abbrev pub falses_from : ℕ → ℕ → ℕ
falses_from n x = x + n

abbrev pub depth_from : ℕ → ℕ → ℕ
depth_from n x = x + 2 * n

abbrev pub levels_from : ℕ → ℕ → ℕ
levels_from n x = x + 3 * n + 1

-- the sections that read the rows and find the greatest key, after that number of inputs, for b digits of a variable's number
abbrev pub reading_of : ℕ → ℕ → ℕ → ℕ → ReadingAddresses
reading_of n m b inputs =
    let pairs = m / 2 in
    let nodes = m - 1 - pairs in
    let literals = inputs + 1 in
    let counts = literals + Cells.literal_lane n * m in
    let ranks = counts + Cells.count_lane n * m in
    let digits = ranks + (Cells.rank).size * m in
    let keys = digits + digits_to n m b in
    let tree = keys + m * (3 + b) in
    record {
      pairs = pairs;
      nodes = nodes;
      literals = literals;
      counts = counts;
      ranks = ranks;
      digits = digits;
      keys = keys;
      tree = tree;
      greatest = tree + Cells.tree_lane b + Cells.tree_lane b * pairs + Cells.tree_lane b * nodes;
    }

-- the sections that act on it
abbrev pub acting_of : ℕ → ℕ → ℕ → ActingAddresses
acting_of n b greatest =
    let rule = greatest + (Cells.choice).size * (3 + b) in
    let targets = rule + Cells.decoder + 2 * 2 ^ b in
    let guards = targets + (Cells.target).size * n in
    let selects = guards + 2 * (Cells.guard).size * n in
    let levels = selects + 4 + (Cells.select).size * n in
    let block = Cells.level_lane n * n in
    let assignments = levels + 3 * block in
    let depths = assignments + 2 * (Cells.assignment).size * n in
    record {
      rule = rule;
      targets = targets;
      guards = guards;
      selects = selects;
      levels = levels;
      block = block;
      assignments = assignments;
      depths = depths;
      outputs = depths + (n + 1);
    }

-- all of them
abbrev pub addresses_of : ℕ → ℕ → ℕ → Addresses
addresses_of n m b =
    let state = 2 * (n * m) in
    let standing = state + 3 * n + 1 + 3 * (n * n) in
    let inputs = standing + 2 in
    let r = reading_of n m b inputs in
    let c = acting_of n b r.greatest in
    record {
      n = n;
      m = m;
      b = b;
      pairs = r.pairs;
      nodes = r.nodes;
      skip = 2 * r.pairs + 1 - m;
      state = state;
      standing = standing;
      inputs = inputs;
      literals = r.literals;
      counts = r.counts;
      ranks = r.ranks;
      digits = r.digits;
      keys = r.keys;
      tree = r.tree;
      greatest = r.greatest;
      rule = c.rule;
      targets = c.targets;
      guards = c.guards;
      selects = c.selects;
      levels = c.levels;
      block = c.block;
      assignments = c.assignments;
      depths = c.depths;
      outputs = c.outputs;
      wires = c.outputs + 3 * n + 4 + 3 * (n * n);
    }

-- the addresses for n variables and m rows
abbrev pub addresses : ℕ → ℕ → Addresses
addresses n m = addresses_of n m (digits_for n)

-- the addresses of some dimensions
abbrev pub addresses_on : Dimensions → Addresses
addresses_on d = addresses d.n (row_count d)

-- sums over the addresses fit a word
abbrev pub Small : Addresses → Type 0
Small a =
    (a.n ≤ 255) × (a.m ≤ 765) × (a.b ≤ 5) × (a.pairs ≤ 765) × (a.nodes ≤ 765) × (a.skip ≤ 1)
    × (a.m * a.b ≤ 3825) × (a.b * a.pairs ≤ 3825) × (a.b * a.nodes ≤ 3825) × (a.b * a.skip ≤ 5)
    × (a.state ≤ 8388608) × (a.standing ≤ 8388608) × (a.inputs ≤ 8388608) × (a.literals ≤ 8388608) × (a.counts ≤ 8388608)
    × (a.ranks ≤ 8388608) × (a.digits ≤ 8388608) × (a.keys ≤ 8388608) × (a.tree ≤ 8388608) × (a.greatest ≤ 8388608)
    × (a.rule ≤ 8388608) × (a.targets ≤ 8388608) × (a.guards ≤ 8388608) × (a.selects ≤ 8388608) × (a.levels ≤ 8388608)
    × (a.block ≤ 8388608) × (a.assignments ≤ 8388608) × (a.depths ≤ 8388608) × (a.outputs ≤ 8388608)
