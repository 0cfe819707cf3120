-- Which rule applies does not go by the order of the rows, nor by how often one is there: of two lists that hold each other's rows every test over all or some
-- rows says the same, and a rule is made of such tests alone.
use mathlib.Core.Path.{◌≡◌, refl, sym, ap, ap₂, ◌∙◌, fun_ext}
use mathlib.Core.Bool.{Bool, true, false, not, ◌&&◌, true≢false}
use mathlib.Core.List.{List, [], ◌∷◌, ◌++◌}
use Prim.Native.Nat.{ℕ}
use Rattle.words.specs.declared.Row.{Row}
use Rattle.words.specs.Sets.{bit, lowest}
use Rattle.words.proofs.Truth.{on}
use Rattle.tables.specs.Rows.{satisfied, free_in}
use Rattle.scan.specs.declared.Rule.{Rule}
use Rattle.scan.specs.declared.Rule.TheVariants.{AllSatisfied, Conflict, Unit, Choice}
use Rattle.scan.specs.Rules.{all_rows, any_row, unsatisfied_with, forces, forced_variable, forced_true, unit_or, choice, rule}
use Rattle.scan.proofs.RowLaws.{In, any-row_e, any-row-i, not-all-rows}

-- every row of one list is in the other
abbrev pub SameRows : List Row → List Row → Type 0
SameRows xs ys = ((r : Row) → In r xs → In r ys) × ((r : Row) → In r ys → In r xs)

-- ---- tests

module _ (p : Row → Bool) where
  all_in : (xs ys : List Row) → ((r : Row) → In r ys → In r xs) → all_rows p xs ≡ true → all_rows p ys ≡ true
  all_in xs ys h e =
      on (all_rows p ys) (λ q. q)
      (λ q. let x = not-all-rows p ys q in absurd (true≢false (sym (h x.0 x.1 p e) ∙ x.2)))

  any_in : (xs ys : List Row) → ((r : Row) → In r xs → In r ys) → any_row p xs ≡ true → any_row p ys ≡ true
  any_in xs ys h e = let x = any-row_e p xs e in any-row-i p ys x.0 (h x.0 x.1) x.2

  both : (a b : Bool) → (a ≡ true → b ≡ true) → (b ≡ true → a ≡ true) → a ≡ b
  both true b f g = sym (f refl)
  both false true f g = g refl
  both false false f g = refl

  -- lists of the same rows agree on whether every row passes
  pub all_same : (xs ys : List Row) → SameRows xs ys → all_rows p xs ≡ all_rows p ys
  all_same xs ys s = both (all_rows p xs) (all_rows p ys) (all_in xs ys s.1) (all_in ys xs s.0)

  -- and on whether some row does
  pub any_same : (xs ys : List Row) → SameRows xs ys → any_row p xs ≡ any_row p ys
  any_same xs ys s = both (any_row p xs) (any_row p ys) (any_in xs ys s.0) (any_in ys xs s.1)

-- ---- the rule

module _ (n : ℕ) (t f : ℕ) (xs ys : List Row) (s : SameRows xs ys) where
  forced-same : forced_variable n xs t f ≡ forced_variable n ys t f
  unfolding forced_variable
  forced-same = ap (λ (p : ℕ → Bool). lowest p n) (fun_ext (λ i. any_same (forces n t f i) xs ys s))

  sign_same : (v : ℕ) → forced_true n xs t f v ≡ forced_true n ys t f v
  unfolding forced_true
  sign_same v = any_same (λ r. forces n t f v r && bit r.positive v) xs ys s

  choice-same : choice n xs t f ≡ choice n ys t f
  unfolding choice
  choice-same = ap (λ (p : ℕ → Bool). lowest p n) (fun_ext (λ i. any_same (λ r. not (satisfied n r t f) && free_in r t f i) xs ys s))

  -- the first rule that applies, by its tests
  abbrev rule_by : Bool → Bool → Bool → Rule → Rule → Rule
  rule_by all conflict unit forced chosen = elim all [
    | true ↦ AllSatisfied
    | false ↦ elim conflict [
      | true ↦ Conflict
      | false ↦ elim unit [
        | true ↦ forced
        | false ↦ chosen
      ]
    ]
  ]

  unit-same : Unit (forced_variable n xs t f) (forced_true n xs t f (forced_variable n xs t f))
      ≡ Unit (forced_variable n ys t f) (forced_true n ys t f (forced_variable n ys t f))
  unit-same = ap₂ Unit forced-same (sign_same (forced_variable n xs t f) ∙ ap (forced_true n ys t f) forced-same)

  -- lists of the same rows have the same rule, whatever their order
  pub rule-same : rule n xs t f ≡ rule n ys t f
  unfolding rule unit_or
  rule-same =
      ap₂ (λ (a b : Bool). rule_by a b (any_row (unsatisfied_with 1 n t f) xs) unit (Choice (choice n xs t f)))
      (all_same (λ r. satisfied n r t f) xs ys s) (any_same (unsatisfied_with 0 n t f) xs ys s)
      ∙ ap₂ (λ (a : Bool) (x : Rule). rule_by all conflict a x (Choice (choice n xs t f))) (any_same (unsatisfied_with 1 n t f) xs ys s) unit-same
      ∙ ap (λ (v : ℕ). rule_by all conflict (any_row (unsatisfied_with 1 n t f) ys) unit' (Choice v)) choice-same
    where
      unit : Rule
      unit = Unit (forced_variable n xs t f) (forced_true n xs t f (forced_variable n xs t f))

      unit' : Rule
      unit' = Unit (forced_variable n ys t f) (forced_true n ys t f (forced_variable n ys t f))

      all : Bool
      all = all_rows (λ r. satisfied n r t f) ys

      conflict : Bool
      conflict = any_row (unsatisfied_with 0 n t f) ys

-- ---- orders

-- two neighbours exchanged: every other order comes of such exchanges
module _ (q : Row → Bool) where
  turn : (a b rest : Bool) → a && (b && rest) ≡ b && (a && rest)
  turn true true rest = refl
  turn true false rest = refl
  turn false true rest = refl
  turn false false rest = refl

  exchanged-passes : (front : List Row) (a b : Row) (behind : List Row) → all_rows q (front ++ (a ∷ b ∷ behind)) ≡ all_rows q (front ++ (b ∷ a ∷ behind))
  unfolding all_rows
  exchanged-passes [] a b behind = turn (q a) (q b) (all_rows q behind)
  exchanged-passes (r ∷ rs) a b behind = ap (λ (x : Bool). q r && x) (exchanged-passes rs a b behind)

-- lists with two neighbours exchanged hold the same rows
pub exchanged : (front : List Row) (a b : Row) (behind : List Row) → SameRows (front ++ (a ∷ b ∷ behind)) (front ++ (b ∷ a ∷ behind))
exchanged front a b behind = ((λ r m q e. m q (exchanged-passes q front a b behind ∙ e)), (λ r m q e. m q (exchanged-passes q front b a behind ∙ e)))

-- and so do those that hold the rows of a third
pub same-rows-by : (xs ys zs : List Row) → SameRows xs ys → SameRows ys zs → SameRows xs zs
same-rows-by xs ys zs s s' = ((λ r m. s'.0 r (s.0 r m)), (λ r m. s.1 r (s'.1 r m)))
