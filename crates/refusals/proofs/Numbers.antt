-- No two refusals have one number: from a number its refusal is found again. By computation, refusal by refusal.
use mathlib.Core.Path.{◌≡◌, refl, sym, ap, ◌∙◌}
use mathlib.Core.List.{[], ◌∷◌}
use Prim.Native.Nat.{ℕ, ◌<◌}
use native.Mathlib.Omega.{arith}
use lib.Dec.{lit<}
use lib.ListN.{get_or}
use Rattle.refusals.specs.Numbers.{number_of}
use Rattle.refusals.specs.declared.Refusal.{Refusal}
use Rattle.refusals.specs.declared.Refusal.TheVariants.{Variables, RowCount, RowBit, RowBuffer, Text, TextsDiffer, GateBuffer, NumberLine, Gates, Wires}
use Rattle.refusals.specs.declared.Refusal.TheVariants.{LineBuffer, State, OtherVariables, NoModel, NotPadding, Closed, NoClause, ProofText}
use Rattle.refusals.specs.declared.Refusal.TheVariants.{NotFollowing, NoEmptyClause, GameVariables, LineVariables, WholeBudget, PlaneBits}
use Rattle.refusals.specs.declared.Refusal.TheVariants.{WatchCount, PageBuffer, PageForm}

-- the refusal of a number; no refusal has 0
refusal_of : ℕ → Refusal
refusal_of k = get_or (PageForm ∷ Variables ∷ RowCount ∷ RowBit ∷ RowBuffer ∷ Text ∷ TextsDiffer ∷ GateBuffer ∷ NumberLine ∷ Gates ∷ Wires ∷ LineBuffer
    ∷ State ∷ OtherVariables ∷ NoModel ∷ NotPadding ∷ Closed ∷ NoClause ∷ ProofText ∷ NotFollowing ∷ NoEmptyClause
    ∷ GameVariables ∷ LineVariables ∷ WholeBudget ∷ PlaneBits ∷ WatchCount ∷ PageBuffer ∷ []) k PageForm

refusal-back : (r : Refusal) → refusal_of (number_of r) ≡ r
unfolding refusal_of
refusal-back Variables = refl
refusal-back RowCount = refl
refusal-back RowBit = refl
refusal-back RowBuffer = refl
refusal-back Text = refl
refusal-back TextsDiffer = refl
refusal-back GateBuffer = refl
refusal-back NumberLine = refl
refusal-back Gates = refl
refusal-back Wires = refl
refusal-back LineBuffer = refl
refusal-back State = refl
refusal-back OtherVariables = refl
refusal-back NoModel = refl
refusal-back NotPadding = refl
refusal-back Closed = refl
refusal-back NoClause = refl
refusal-back ProofText = refl
refusal-back NotFollowing = refl
refusal-back NoEmptyClause = refl
refusal-back GameVariables = refl
refusal-back LineVariables = refl
refusal-back WholeBudget = refl
refusal-back PlaneBits = refl
refusal-back WatchCount = refl
refusal-back PageBuffer = refl
refusal-back PageForm = refl

-- two refusals with one number are one refusal
pub number_injective : (q r : Refusal) → number_of q ≡ number_of r → q ≡ r
number_injective q r e = sym (refusal-back q) ∙ ap refusal_of e ∙ refusal-back r

-- no refusal's number is above 27
pub number_lt : (r : Refusal) → number_of r < 28
number_lt Variables = lit< tt
number_lt RowCount = lit< tt
number_lt RowBit = lit< tt
number_lt RowBuffer = lit< tt
number_lt Text = lit< tt
number_lt TextsDiffer = lit< tt
number_lt GateBuffer = lit< tt
number_lt NumberLine = lit< tt
number_lt Gates = lit< tt
number_lt Wires = lit< tt
number_lt LineBuffer = lit< tt
number_lt State = lit< tt
number_lt OtherVariables = lit< tt
number_lt NoModel = lit< tt
number_lt NotPadding = lit< tt
number_lt Closed = lit< tt
number_lt NoClause = lit< tt
number_lt ProofText = lit< tt
number_lt NotFollowing = lit< tt
number_lt NoEmptyClause = lit< tt
number_lt GameVariables = lit< tt
number_lt LineVariables = lit< tt
number_lt WholeBudget = lit< tt
number_lt PlaneBits = lit< tt
number_lt WatchCount = lit< tt
number_lt PageBuffer = lit< tt
number_lt PageForm = lit< tt

-- no refusal has the number 0
pub number-positive : (r : Refusal) → number_of r ≡ 0 → ⊥
unfolding refusal_of
number-positive r e = let q : 27 ≡ number_of r = ap number_of (sym (ap refusal_of e) ∙ refusal-back r) in omega arith
