-- What a call leaves in the buffers that hosts lend: values over the front, or what was there.
use Rattle.refusals.specs.Numbers.{Outcome}
use Rattle.std.specs.Prelude.{ℕ, List, [], ◌∷◌}
use Rattle.std.proofs.lemmas.List.Edits.{sets}
use Rattle.refusals.specs.Checks.{given}
use Rattle.state.specs.declared.Run.{Run}
use Rattle.stored.specs.Words.{run_words}

-- values over the front of a buffer, as many as it has room for
abbrev pub front : List ℕ → List ℕ → List ℕ
front values lent = sets lent 0 values

-- the numbers that a call gives, in an array of as many; what was there where it gives none
abbrev pub numbers_or : List ℕ → List ℕ → List ℕ
numbers_or [] lent = lent
numbers_or (x ∷ xs) lent = x ∷ xs

-- the run's words where the call is taken; else what was there
abbrev pub stored_if : Outcome → Run → List ℕ → List ℕ
stored_if o run lent = given o (run_words run) (λ r. lent)
