-- What T and F say of the game whatever turns are to come, and the rows under an assignment of all variables.
use mathlib.Core.Path.{◌≡◌, refl, sym, ap, ap₂, ◌∙◌}
use mathlib.Core.Bool.{Bool, true, false, not, ◌&&◌, ◌||◌, true≢false}
use mathlib.Core.List.{List, [], ◌∷◌, ◌++◌, append-nil}
use Prim.Native.Nat.{ℕ, zero, suc, ◌-◌, ◌^◌, ◌<◌}
use native.Mathlib.Nat.{zero-lt-suc}
use native.Mathlib.Omega.{arith}
use lib.Dec.{eqb, ltb}
use lib.ListN.{take}
use borrow.Author.Tests.{eqb-true, not-true}
use Rattle.std.specs.Prelude.{Some, None}
use Rattle.words.specs.Booleans.{imp}
use Rattle.words.specs.Sets.{bit, any}
use Rattle.words.proofs.Truth.{and_l, and_r, and_i, mp, on, taut1, taut3, taut5, agree, agree_eq}
use Rattle.words.proofs.Upto.{any_mono}
use Rattle.words.proofs.Operations.{bit_not}
use Rattle.words.specs.declared.Row.{Row}
use Rattle.tables.specs.Rows.{satisfied, satisfies}
use Rattle.tables.proofs.Rows.{satisfied-any}
use Rattle.scan.specs.declared.Rule.{Rule}
use Rattle.scan.specs.declared.Rule.TheVariants.{AllSatisfied, Conflict, Unit, Choice}
use Rattle.scan.specs.Rules.{rows_of_words, all_rows, rule}
use Rattle.scan.proofs.RowLaws.{all-rows_mono, all-rows_cong}
use Rattle.truth.specs.Truth.{row_true, all_true}
use Rattle.truth.proofs.TruthLaws.{literal}
use Rattle.truth.proofs.RuleLaws.{Ruled, ruled}
use Rattle.truth.proofs.Agreement.{agreed, satisfying, literals, Agrees, conflict_false}
use Rattle.qdimacs.specs.Text.{GameTurn}
use Rattle.game.specs.Game.{fixed, decided, forced}
use Rattle.game.specs.Cuts.{is_set, are_all_new, cut_of}

-- ---- one table

-- a second and a third table without words have no rows
pub one_table : (words : List ℕ) → rows_of_words words ++ (rows_of_words (take 0 words) ++ rows_of_words (take 0 words)) ≡ rows_of_words words
one_table words = append-nil (rows_of_words words)

-- ---- whatever turns are to come

decided-same : (u b : Bool) → decided u b b ≡ b
decided-same true true = refl
decided-same true false = refl
decided-same false true = refl
decided-same false false = refl

module _ (rows : List Row) (t f : ℕ) where
  -- a variable that is not set may have any value
  agrees_fixed : (a : ℕ → Bool) (v : ℕ) (b : Bool) → is_set t f v ≡ false → Agrees 32 a t f → Agrees 32 (fixed a v b) t f
  agrees_fixed a v b h g i c =
      on (eqb i v)
      (λ q. let h' : is_set t f i ≡ false = rw (eqb-true i v q) h in
      mp _ _ (taut3 (λ t f x. imp (not (t || f)) (agreed t f x)) refl (bit t i) (bit f i) (fixed a v b i)) (ap not h'))
      (λ q. rw q (g i c))

  -- where every assignment that agrees with T and F makes the rows true, or none does, that is forced
  pub steady : (b : Bool) → ((a : ℕ → Bool) → Agrees 32 a t f → all_true a rows ≡ b)
      → (ks : List GameTurn) (s : ℕ → Bool) → ((i : ℕ) → is_set t f i ≡ true → s i ≡ true) → are_all_new ks s ≡ true
      → (a : ℕ → Bool) → Agrees 32 a t f → forced rows ks a ≡ b
  unfolding forced are_all_new
  steady b leaf [] s cover e a g = leaf a g
  steady b leaf (k ∷ ks) s cover e a g =
      let v = k.variable in
      let unset : is_set t f v ≡ false = on (is_set t f v)
      (λ q. absurd (true≢false (sym (cover v q) ∙ not-true _ (and_r (ltb v 32) _ (and_l (ltb v 32 && not (s v)) _ e)))))
      (λ q. q) in
      let rest = and_r (ltb v 32 && not (s v)) _ e in
      let more : (i : ℕ) → is_set t f i ≡ true → s i || eqb i v ≡ true = λ i q. rw (cover i q) in
      let yes' : forced rows ks (fixed a v true) ≡ b = steady b leaf ks (λ i. s i || eqb i v) more rest (fixed a v true) (agrees_fixed a v true unset g) in
      let no' : forced rows ks (fixed a v false) ≡ b = steady b leaf ks (λ i. s i || eqb i v) more rest (fixed a v false) (agrees_fixed a v false unset g) in
      rw (yes', no') (decided-same k.universal b)

  -- rows that T and F satisfy are true
  leaf_true : all_rows (λ r. satisfied 32 r t f) rows ≡ true → (a : ℕ → Bool) → Agrees 32 a t f → all_true a rows ≡ true
  unfolding all_true row_true
  leaf_true e a g =
      all-rows_mono (λ r. satisfied 32 r t f) (λ r. row_true a r) rows
      (λ r m h. any_mono (λ i. satisfies r t f i) (λ i. literal a r i) 32
      (λ i b q. mp _ _
      (taut5 (λ p q t f a. imp (satisfying p q t f && agreed t f a) (literals p q a)) refl (bit r.positive i) (bit r.negative i) (bit t i) (bit f i)
      (a i))
      (and_i q (g i b)))
      (rw (satisfied-any 32 r t f) at h))
      e

  -- a row in conflict is not
  leaf_false : Ruled 32 rows t f Conflict → (a : ℕ → Bool) → Agrees 32 a t f → all_true a rows ≡ false
  unfolding all_true row_true
  leaf_false w a g = on (all_true a rows) (λ h. absurd (conflict_false 32 a t f g w.row w.no_literal (w.of_rows (row_true a) h))) (λ h. h)

  decides : (x y : Bool) → Some x ≡ Some y → x ≡ y
  decides x y e = cc

  -- so the scan's rule may decide the game
  leaf_cut : (k : Rule) → Ruled 32 rows t f k → (b : Bool) → cut_of k ≡ Some b → (a : ℕ → Bool) → Agrees 32 a t f → all_true a rows ≡ b
  leaf_cut AllSatisfied w b e a g = leaf_true w a g ∙ decides true b e
  leaf_cut Conflict w b e a g = leaf_false w a g ∙ decides false b e
  leaf_cut (Unit v p) w b e a g = absurd (let z : ◌≡◌ {A = ℕ} 0 1 = cc in omega arith)
  leaf_cut (Choice v) w b e a g = absurd (let z : ◌≡◌ {A = ℕ} 0 1 = cc in omega arith)

  -- and where it does, no turn to come changes that
  pub forced-cut : (b : Bool) → cut_of (rule 32 rows t f) ≡ Some b → (ks : List GameTurn) → are_all_new ks (is_set t f) ≡ true → (a : ℕ → Bool)
      → Agrees 32 a t f → forced rows ks a ≡ b
  forced-cut b e ks h a g = steady b (leaf_cut (rule 32 rows t f) (ruled 32 rows t f) b e) ks (is_set t f) (λ i q. q) h a g

-- ---- rows where all variables are set

-- tests that agree below n
pub any_cong : (p q : ℕ → Bool) (n : ℕ) → ((i : ℕ) → i < n → p i ≡ q i) → any p n ≡ any q n
unfolding any
any_cong p q zero h = refl
any_cong p q (suc n) h =
    ap₂ (λ (a b : Bool). a || b) (h 0 (zero-lt-suc n)) (any_cong (λ i. p (suc i)) (λ i. q (suc i)) n (λ i b. h (suc i) (omega arith)))

satisfied-full : (t : ℕ) → t < 2 ^ 32 → (r : Row) → satisfied 32 r t ((2 ^ 32 - 1) - t) ≡ row_true (bit t) r
unfolding row_true
satisfied-full t h r =
    satisfied-any 32 r t ((2 ^ 32 - 1) - t)
    ∙ any_cong (λ i. satisfies r t ((2 ^ 32 - 1) - t) i) (λ i. literal (bit t) r i) 32
    (λ i b. rw (bit_not 32 t i h b) (agree_eq (taut3 (λ p q t. agree (satisfying p q t (not t)) (literals p q t)) refl (bit r.positive i)
    (bit r.negative i) (bit t i))))

module _ (rows : List Row) (t : ℕ) (h : t < 2 ^ 32) where
  full : all_rows (λ r. satisfied 32 r t ((2 ^ 32 - 1) - t)) rows ≡ all_true (bit t) rows
  unfolding all_true
  full = all-rows_cong (λ r. satisfied 32 r t ((2 ^ 32 - 1) - t)) (λ r. row_true (bit t) r) rows (λ r m. satisfied-full t h r)

  all-satisfied : all_rows (λ r. satisfied 32 r t ((2 ^ 32 - 1) - t)) rows ≡ true → rule 32 rows t ((2 ^ 32 - 1) - t) ≡ AllSatisfied
  unfolding rule
  all-satisfied e = rw (e, rule)

  full_agrees : Agrees 32 (bit t) t ((2 ^ 32 - 1) - t)
  full_agrees i b = rw (bit_not 32 t i h b) (taut1 (λ t. agreed t (not t) t) refl (bit t i))

  -- T and the rest decide
  pub full-decided : (b : Bool) → cut_of (rule 32 rows t ((2 ^ 32 - 1) - t)) ≡ Some b → b ≡ all_true (bit t) rows
  full-decided b e =
      let f = (2 ^ 32 - 1) - t in
      sym (leaf_cut rows t f (rule 32 rows t f) (ruled 32 rows t f) b e (bit t) full_agrees)

  -- and where they do not, some row is not true
  pub full_undecided : cut_of (rule 32 rows t ((2 ^ 32 - 1) - t)) ≡ None → false ≡ all_true (bit t) rows
  full_undecided e =
      on (all_true (bit t) rows)
      (λ q. let z : Some true ≡ None = sym (ap cut_of (all-satisfied (full ∙ q))) ∙ e in absurd (let y : ◌≡◌ {A = ℕ} 0 1 = cc in omega arith))
      (λ q. sym q)
