-- A part of a text over the front of lent bytes: it has room where it is no longer than they are, and is then copied whole.
use mathlib.Core.Path.{◌≡◌, sym, ap, ◌∙◌, subst}
use mathlib.Core.List.{List, [], ◌∷◌, ◌++◌}
use Prim.Native.Nat.{ℕ, ◌≤◌, ◌<◌}
use native.Mathlib.Omega.{arith}
use native.Mathlib.Nat.{zero-add}
use lib.ListN.{length, drop}
use lib.Seq.{sets-eq}
use borrow.Author.Tests.{lt-ltb, le-ltb}
use Rattle.std.specs.Prelude.{Ok, Err}
use Rattle.refusals.specs.Checks.{Check, outcome}
use Rattle.refusals.specs.Numbers.{Outcome, code_of}
use Rattle.refusals.specs.declared.Refusal.{Refusal}
use Rattle.refusals.specs.declared.Refusal.TheVariants.{LineBuffer}
use Rattle.refusals.proofs.Outcomes.{outcome-taken, outcome-refused}
use Rattle.lent.specs.Lent.{front}
use Rattle.host_excerpts.specs.Parts.{room_checks, part_after, length_after}

-- what is returned, and what is left in bytes and number
abbrev pub Given : Outcome → List ℕ → List ℕ → List ℕ → ℕ → List ℕ → List ℕ → Type 0
Given o part bytes number code bytes' number' = (code ≡ code_of o) × ((bytes' ≡ part_after o part bytes) × (number' ≡ length_after o part number))

module _ (part bytes number : List ℕ) where
  pub no_room : length bytes < length part → (code : ℕ) → code ≡ code_of (Err LineBuffer)
      → Given (outcome (room_checks part bytes)) part bytes number code bytes number
  no_room h code e = rw (lt-ltb (length bytes) (length part) h) (e, (λ i. bytes, λ i. number))

  module _ (h : length part ≤ length bytes) where
    copied : part ++ drop (length part) bytes ≡ front part bytes
    copied =
        ap (λ (k : ℕ). part ++ drop k bytes) (sym (zero-add (length part)))
        ∙ sym (sets-eq part bytes 0 (omega arith))

    pub with-room : (after : List ℕ) → after ≡ part ++ drop (length part) bytes
        → Given (outcome (room_checks part bytes)) part bytes number 0 after (length part ∷ [])
    with-room after e = rw (le-ltb (length bytes) (length part) h) (λ i. 0, (e ∙ copied, λ i. length part ∷ []))

-- ---- a call's checks, and then the room for its part

module _ (checks : List Check) (part bytes number : List ℕ) where
  abbrev all : Outcome
  all = outcome (checks ++ room_checks part bytes)

  pub refused_call : (q : Refusal) → outcome checks ≡ Err q → (code : ℕ) → code ≡ code_of (Err q) → Given all part bytes number code bytes number
  refused_call q e code h =
      subst (λ (o : Outcome). Given o part bytes number code bytes number) (sym (outcome-refused checks (room_checks part bytes) q e))
      (h, (λ i. bytes, λ i. number))

  -- the part as it is given, and what giving it leaves
  pub taken_call : outcome checks ≡ Ok tt → (given : List ℕ) → given ≡ part → (code : ℕ) (bytes' number' : List ℕ)
      → Given (outcome (room_checks given bytes)) given bytes number code bytes' number' → Given all part bytes number code bytes' number'
  taken_call e given q code bytes' number' h =
      subst (λ (o : Outcome). Given o part bytes number code bytes' number') (sym (outcome-taken checks (room_checks part bytes) e))
      (subst (λ (l : List ℕ). Given (outcome (room_checks l bytes)) l bytes number code bytes' number') q h)
