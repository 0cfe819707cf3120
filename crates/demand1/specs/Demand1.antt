-- Demand 1, as one statement about each function that hosts call: exact, untouched, named words only.
-- Ask: Is each sentence of demand 1 a field?
use Rattle.std.specs.Prelude.{ℕ, ◌≡◌, List, ◌∷◌, map}
use Rattle.demand1.specs.Calls.{Effect, first_number, numbers_of, beside}

-- a function: its calls, and what document 01, document 02 and the header say of them
pub record Entry (A : Type 0) : Type 0 where
  -- what a call does by these arguments: its contract's right-hand sides
  pub call : A → Effect
  -- the arguments as the contract has them: a host's numbers as bytes, all else as given
  pub in_bytes : A → A
  -- the refusals' numbers, in the order in which they are judged
  pub numbers : List ℕ
  -- the arguments with the words named alone: every buffer with a length ends there
  pub named : A → A
  -- what follows the words named, in each buffer lent to be written
  pub past : A → List (List ℕ)
  -- a taken call, and one for each of the numbers
  pub examples : List A

-- what a call with these arguments does; its checks judge the arguments as given
abbrev pub done : {A : Type 0} → Entry A → A → Effect
done e a = record {
  returned = (e.call (e.in_bytes a)).returned;
  judged = (e.call a).judged;
  lent = (e.call a).lent;
  left = (e.call (e.in_bytes a)).left;
}

-- the demand
pub record Demand1 {A : Type 0} (e : Entry A) : Type 0 where
  -- exact: the number returned is that of the first check that applies, 0 where none does
  pub first : (a : A) → (done e a).returned ≡ first_number (done e a).judged
  -- the checks have these numbers, in this order, and no other
  pub order : (a : A) → numbers_of (done e a).judged ≡ e.numbers
  -- each of them occurs
  pub occurs : map (λ (a : A). (done e a).returned) e.examples ≡ 0 ∷ e.numbers
  -- untouched: a refusal leaves every lent buffer as it was
  pub untouched : (a : A) → ((done e a).returned ≡ 0 → ⊥) → (done e a).left ≡ (done e a).lent
  -- named words only: the buffers are the words named and what follows them
  pub split : (a : A) → (done e a).lent ≡ beside (done e (e.named a)).lent (e.past a)
  -- the number is that of the words named alone
  pub alone : (a : A) → (done e a).returned ≡ (done e (e.named a)).returned
  -- and so is all that the call leaves; what follows them stays
  pub stays : (a : A) → (done e a).left ≡ beside (done e (e.named a)).left (e.past a)
