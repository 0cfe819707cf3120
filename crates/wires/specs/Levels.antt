-- Levels of the run's array as they are written.
use Rattle.std.specs.Prelude.{ℕ, Bool, cond, List, ◌++◌, eqb, ltb, get_or}
use Rattle.words.specs.Sets.{bit}
use Rattle.state.specs.declared.Level.{Level}
use Rattle.state.specs.State.{none}
use Rattle.wires.specs.Layout.{upto, joined}

-- T, F and the chosen variable
abbrev pub level_bits : ℕ → Level → List Bool
level_bits n x = upto (bit x.t) n ++ (upto (bit x.f) n ++ upto (λ i. eqb i x.chosen) n)

-- level l, where the first depth are used; the choice of an unused one is no variable
abbrev pub level_in : ℕ → List Level → ℕ → ℕ → Level
level_in n levels depth l = cond (ltb l depth) (get_or levels l none) (record { t = 0; f = 0; chosen = n })

-- the wires of the first k levels
abbrev pub levels_bits : ℕ → List Level → ℕ → ℕ → List Bool
levels_bits n levels depth k = joined (λ l. level_bits n (level_in n levels depth l)) k
