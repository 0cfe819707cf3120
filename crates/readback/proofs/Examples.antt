-- Bytes read back for n = 1, and what they are refused with, computed.
use mathlib.Core.Path.{◌≡◌, refl}
use mathlib.Core.List.{List, [], ◌∷◌}
use Prim.Native.Nat.{ℕ}
use Rattle.std.specs.Prelude.{Ok}
use Rattle.refusals.specs.Numbers.{code_of}
use Rattle.words.specs.Sameness.{same}
use Rattle.words.specs.Sets.{bit, all, lowest, word_of}
use Rattle.state.specs.State.{fresh, run_of}
use Rattle.state.specs.WellFormed.{disjoint, within, well_formed}
use Rattle.wires.specs.Layout.{upto, joined, on_level, state_bits}
use Rattle.readback.specs.declared.Read.{Read}
use Rattle.readback.specs.Unpacking.{last_first, run_in, holds_state}
use Rattle.readback.specs.Reading.{read_back}

read : ℕ → List ℕ → Read
unfolding read_back holds_state run_in run_of last_first word_of lowest well_formed disjoint within bit all same state_bits upto joined on_level
read n bytes = read_back n bytes

code : ℕ → List ℕ → ℕ
code n bytes = code_of (read n bytes).outcome

-- T, F; depth 0, depth 1; the level's T, F and choice; satisfied, refuted; a byte past them is not looked at
fresh-read : read 1 (0 ∷ 0 ∷ 1 ∷ 0 ∷ 0 ∷ 0 ∷ 0 ∷ 0 ∷ 0 ∷ 7 ∷ []) ≡ record { outcome = Ok tt; run = run_of 1 fresh }
unfolding read run_of
fresh-read = refl

chosen-read : code 1 (1 ∷ 0 ∷ 0 ∷ 1 ∷ 0 ∷ 0 ∷ 1 ∷ 0 ∷ 0 ∷ []) ≡ 0
unfolding read code
chosen-read = refl

two-depths : code 1 (0 ∷ 0 ∷ 1 ∷ 1 ∷ 0 ∷ 0 ∷ 0 ∷ 0 ∷ 0 ∷ []) ≡ 12
unfolding read code
two-depths = refl

-- at full depth too
two-depths-full : code 1 (1 ∷ 0 ∷ 1 ∷ 1 ∷ 0 ∷ 0 ∷ 1 ∷ 0 ∷ 0 ∷ []) ≡ 12
unfolding read code
two-depths-full = refl

no_depth : code 1 (0 ∷ 0 ∷ 0 ∷ 0 ∷ 0 ∷ 0 ∷ 0 ∷ 0 ∷ 0 ∷ []) ≡ 12
unfolding read code
no_depth = refl

both-closing : code 1 (0 ∷ 0 ∷ 1 ∷ 0 ∷ 0 ∷ 0 ∷ 0 ∷ 1 ∷ 1 ∷ []) ≡ 12
unfolding read code
both-closing = refl

unused-level : code 1 (0 ∷ 0 ∷ 1 ∷ 0 ∷ 0 ∷ 0 ∷ 1 ∷ 0 ∷ 0 ∷ []) ≡ 12
unfolding read code
unused-level = refl

sets_overlap : code 1 (1 ∷ 1 ∷ 1 ∷ 0 ∷ 0 ∷ 0 ∷ 0 ∷ 0 ∷ 0 ∷ []) ≡ 12
unfolding read code
sets_overlap = refl

byte_2 : code 1 (2 ∷ 0 ∷ 1 ∷ 0 ∷ 0 ∷ 0 ∷ 0 ∷ 0 ∷ 0 ∷ []) ≡ 12
unfolding read code
byte_2 = refl

-- 10 before 12, and 1 before 10
a-byte-short : code 1 (0 ∷ 0 ∷ 1 ∷ 1 ∷ 0 ∷ 0 ∷ 0 ∷ 0 ∷ []) ≡ 10
unfolding read code
a-byte-short = refl

no_variables : code 0 [] ≡ 1
unfolding read code
no_variables = refl
