-- When a state is well-formed: document 01, "Giant step".
-- Ask: Is each clause of "well-formed" there, and none more?
use Rattle.std.specs.Prelude.{ℕ, ◌^◌, Bool, true, not, ◌&&◌, List, [], ◌∷◌, eqb, ltb, leb, length, drop}
use Rattle.refusals.specs.Checks.{Check, check}
use Rattle.refusals.specs.declared.Refusal.TheVariants.{OtherVariables}
use Rattle.refusals.specs.declared.Refusal.TheVariants as refusal
use Rattle.words.specs.Booleans.{imp}
use Rattle.words.specs.Sets.{bit, all}
use Rattle.dimensions.specs.Sizes.{most_variables, outside}
use Rattle.tables.specs.Rows.{free}
use Rattle.dimensions.specs.declared.Dimensions.{Dimensions}
use Rattle.state.specs.declared.Level.{Level}
use Rattle.state.specs.declared.Run.{Run}
use Rattle.state.specs.State.{State, state_of}

-- no variable below n is in both
unfoldable pub disjoint : ℕ → ℕ → ℕ → Bool
disjoint n t f = all (λ i. not (bit t i && bit f i)) n

-- each variable below n that a has, b has too
unfoldable pub within : ℕ → ℕ → ℕ → Bool
within n a b = all (λ i. imp (bit a i) (bit b i)) n

-- T and F are disjoint and below n
unfoldable pub sets : ℕ → ℕ → ℕ → Bool
unfolding disjoint
sets n t f = ltb t (2 ^ n) && ltb f (2 ^ n) && disjoint n t f

-- the level before T and F: its sets are sets and lie within them, its variable was free and lies in T
unfoldable pub precedes : ℕ → Level → ℕ → ℕ → Bool
unfolding sets within
precedes n l t f =
    sets n l.t l.f && (ltb l.chosen n && free l.t l.f l.chosen)
    && (within n l.t t && within n l.f f) && bit t l.chosen

-- each level precedes the next one, the last one precedes T and F
unfoldable pub chain : ℕ → ℕ → ℕ → List Level → Bool
unfolding precedes
chain n t f [] = true
chain n t f (l ∷ ls) = precedes n l t f && chain n l.t l.f ls

-- a well-formed state of n: its sets, at most n levels, and each level before the next
unfoldable pub well_formed_state : ℕ → State → Bool
unfolding sets chain
well_formed_state n s = sets n s.t s.f && leb (length s.levels) n && chain n s.t s.f s.levels

-- unused levels are zero
unfoldable pub unused : List Level → Bool
unused [] = true
unused (l ∷ ls) = eqb l.t 0 && eqb l.f 0 && eqb l.chosen 0 && unused ls

-- a run is judged by its own n
unfoldable pub well_formed : Run → Bool
unfolding well_formed_state unused
well_formed run = not (outside most_variables run.n) && well_formed_state run.n (state_of run) && unused (drop run.depth run.levels)

-- refusals 12 and 13
abbrev pub state_checks : Dimensions → Run → List Check
state_checks d run = check (not (well_formed run)) refusal.State ∷ check (not (eqb run.n d.n)) OtherVariables ∷ []
