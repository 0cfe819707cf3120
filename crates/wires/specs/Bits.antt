-- A state's wires by name and by number, for the proofs.
use Rattle.std.specs.Prelude.{ℕ, suc, ◌+◌, ◌*◌, Bool, List, [], ◌∷◌, ◌++◌, eqb, length}
use Rattle.words.specs.Sets.{bit}
use Rattle.state.specs.State.{State, is_satisfied}
use Rattle.wires.specs.Layout.{upto, joined, on_level, is_refuted}

-- T and F of a variable; a depth; T, F and the choice of a level at a variable; satisfied, refuted
pub record Bits : Type 0 where
  pub T : ℕ → Bool
  pub F : ℕ → Bool
  pub depth : ℕ → Bool
  pub level_t : ℕ → ℕ → Bool
  pub level_f : ℕ → ℕ → Bool
  pub chosen : ℕ → ℕ → Bool
  pub satisfied : Bool
  pub refuted : Bool

-- the bits of a state
abbrev pub bits_in : State → Bits
bits_in s = record {
  T = λ i. bit s.t i;
  F = λ i. bit s.f i;
  depth = λ k. eqb k (length s.levels);
  level_t = λ l i. on_level (λ x. bit x.t i) s.levels l;
  level_f = λ l i. on_level (λ x. bit x.f i) s.levels l;
  chosen = λ l i. on_level (λ x. eqb i x.chosen) s.levels l;
  satisfied = is_satisfied s.standing;
  refuted = is_refuted s.standing;
}

-- the wires in the order of `state_bits`
unfoldable pub bits_in_order : ℕ → Bits → List Bool
bits_in_order n b =
    upto b.T n ++ (upto b.F n ++ (upto b.depth (suc n)
    ++ (joined (λ l. upto (b.level_t l) n ++ (upto (b.level_f l) n ++ upto (b.chosen l) n)) n ++ (b.satisfied ∷ (b.refuted ∷ [])))))

-- where a level's wires begin, among the levels'
abbrev pub level_at : ℕ → ℕ → ℕ
level_at n l = (n + (n + n)) * l

-- the bits of a state whose wire k holds f k
abbrev pub state_at : ℕ → (ℕ → Bool) → Bits
state_at n f = record {
  T = λ i. f i;
  F = λ i. f (n + i);
  depth = λ k. f (n + (n + k));
  level_t = λ l i. f (n + (n + (suc n + (level_at n l + i))));
  level_f = λ l i. f (n + (n + (suc n + (level_at n l + (n + i)))));
  chosen = λ l i. f (n + (n + (suc n + (level_at n l + (n + (n + i))))));
  satisfied = f (n + (n + (suc n + (level_at n n + 0))));
  refuted = f (n + (n + (suc n + (level_at n n + 1))));
}
