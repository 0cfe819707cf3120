-- A clause that follows is true wherever all rows are: an assignment that makes it false agrees with its negation, then with each forced literal, and so makes
-- every row true but the one in conflict.
use mathlib.Core.Path.{◌≡◌, refl, ap}
use mathlib.Core.Bool.{Bool, true, false, not, ◌&&◌, false≢true}
use mathlib.Core.List.{List}
use Prim.Native.Nat.{ℕ, zero, suc}
use Rattle.words.specs.declared.Row.{Row}
use Rattle.words.specs.Booleans.{imp}
use Rattle.words.specs.Sets.{bit}
use Rattle.words.proofs.Truth.{mp, on, taut3}
use Rattle.words.proofs.Upto.{any_none, any_mono}
use Rattle.tables.specs.Rows.{padding}
use Rattle.scan.specs.Rules.{any_row, unsatisfied_with, forced_variable, forced_true}
use Rattle.scan.proofs.RowLaws.{any-row_e}
use Rattle.truth.specs.Truth.{row_true, all_true}
use Rattle.truth.proofs.TruthLaws.{literal}
use Rattle.truth.proofs.RuleLaws.{forced-forces}
use Rattle.truth.proofs.Agreement.{agreed, literals, Agrees, conflict_false, forced, agrees_t, agrees_f}
use Rattle.propagation.specs.Propagation.{true_with, false_with, reaches, follows}

module _ (a : ℕ → Bool) where
  -- an assignment that has a literal true agrees with T and F that have it too
  agrees_with : (t f : ℕ) → Agrees 32 a t f → (v : ℕ) (positive : Bool) → a v ≡ positive → Agrees 32 a (true_with v positive t) (false_with v positive f)
  agrees_with t f g v true h = agrees_t 32 a t f g v h
  agrees_with t f g v false h = agrees_f 32 a t f g v h

  module _ (rows : List Row) (e : all_true a rows ≡ true) where
    -- no assignment that makes all rows true agrees with T and F from which a conflict is reached
    reaches-none : (k t f : ℕ) → Agrees 32 a t f → reaches k rows t f ≡ true → ⊥
    unfolding reaches all_true row_true
    reaches-none zero t f g h = false≢true h
    reaches-none (suc k) t f g h =
        let next = reaches-none k in
        on (any_row (unsatisfied_with 0 32 t f) rows)
        (λ c. let x = any-row_e (unsatisfied_with 0 32 t f) rows c in conflict_false 32 a t f g x.0 x.2 (x.1 (row_true a) e))
        (λ c. on (any_row (unsatisfied_with 1 32 t f) rows)
        (λ u. let w = forced-forces 32 rows t f u in
        let v = forced_variable 32 rows t f in
        let b = forced_true 32 rows t f v in
        next (true_with v b t) (false_with v b f) (agrees_with t f g v b (forced 32 a t f g rows v b w (w.of_rows (row_true a) e))) (rw (c, u, reaches) at h))
        (λ u. false≢true (rw (c, u, reaches) at h)))

    -- an assignment that makes no literal of a clause true agrees with the clause's negation
    denied : (c : Row) → row_true a c ≡ false → Agrees 32 a c.negative c.positive
    unfolding row_true
    denied c h i b =
        mp _ _ (taut3 (λ p q a. imp (not (literals p q a)) (agreed q p a)) refl (bit c.positive i) (bit c.negative i) (a i))
        (ap not (any_none (λ i. literal a c i) 32 h i b))

    -- padding is true
    padding-true : (c : Row) → padding 32 c ≡ true → row_true a c ≡ true
    unfolding padding row_true
    padding-true c h =
        any_mono (λ i. bit c.positive i && bit c.negative i) (λ i. literal a c i) 32
        (λ i b q. mp _ _ (taut3 (λ p q a. imp (p && q) (literals p q a)) refl (bit c.positive i) (bit c.negative i) (a i)) q) h

    -- where all rows are true, so is a clause that follows from them
    pub follows-true : (c : Row) → follows rows c ≡ true → row_true a c ≡ true
    unfolding follows
    follows-true c h =
        on (padding 32 c)
        (λ q. padding-true c q)
        (λ q. on (row_true a c) (λ z. z) (λ z. absurd (reaches-none 33 c.negative c.positive (denied c z) (rw q at h))))
