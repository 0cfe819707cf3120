-- The numbers of documents 01 and 02: what a refusal is called outside; document 01, "Turned back because of the input" and "because of the
-- state".
-- Ask: Are these the numbers of documents 01 and 02?
use Rattle.std.specs.Prelude.{ℕ, List, [], ◌∷◌, Result, Ok, Err}
use Rattle.refusals.specs.declared.Refusal.{Refusal}
use Rattle.refusals.specs.declared.Refusal.TheVariants.{Variables, RowCount, RowBit, RowBuffer, Text, TextsDiffer, GateBuffer}
use Rattle.refusals.specs.declared.Refusal.TheVariants.{NumberLine, Gates, Wires, LineBuffer, State, OtherVariables, NoModel}
use Rattle.refusals.specs.declared.Refusal.TheVariants.{NotPadding, Closed, NoClause, ProofText, NotFollowing, NoEmptyClause}
use Rattle.refusals.specs.declared.Refusal.TheVariants.{GameVariables, LineVariables, WholeBudget, PlaneBits}
use Rattle.refusals.specs.declared.Refusal.TheVariants.{WatchCount, PageBuffer, PageForm}

-- the number of a refusal
abbrev pub number_of : Refusal → ℕ
number_of Variables = 1
number_of RowCount = 2
number_of RowBit = 3
number_of RowBuffer = 4
number_of Text = 5
number_of TextsDiffer = 6
number_of GateBuffer = 7
number_of NumberLine = 8
number_of Gates = 9
number_of Wires = 10
number_of LineBuffer = 11
number_of State = 12
number_of OtherVariables = 13
number_of NoModel = 14
number_of NotPadding = 15
number_of Closed = 16
number_of NoClause = 17
number_of ProofText = 18
number_of NotFollowing = 19
number_of NoEmptyClause = 20
number_of GameVariables = 21
number_of LineVariables = 22
number_of WholeBudget = 23
number_of PlaneBits = 24
number_of WatchCount = 25
number_of PageBuffer = 26
number_of PageForm = 27

-- what a call gives that has no other result
abbrev pub Outcome : Type 0
Outcome = Result (Unit {0}) Refusal

-- 0 where the call was taken, else the refusal's number
abbrev pub code_of : Outcome → ℕ
code_of (Ok _) = 0
code_of (Err r) = number_of r

-- what an answer says, its number and then its values: 0 and the values where the call was taken, else the refusal's number alone
abbrev pub said : Outcome → List ℕ → List ℕ
said (Ok _) values = 0 ∷ values
said (Err r) values = number_of r ∷ []
