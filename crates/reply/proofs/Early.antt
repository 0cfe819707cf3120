-- What is known before all is read: where a text is refused, the reply does not rest on the texts after it nor on the line. So the pair program may answer an
-- overlong text at once. By what the definition looks at first.
use mathlib.Core.Path.{◌≡◌, refl, sym, ap, ◌∙◌}
use mathlib.Core.List.{List}
use Prim.Native.Nat.{ℕ, ◌<◌}
use lib.ListN.{length}
use Rattle.std.specs.Prelude.{Ok, Err}
use Rattle.refusals.specs.Numbers.{Outcome}
use Rattle.refusals.specs.declared.Refusal.{Refusal}
use Rattle.refusals.specs.declared.Refusal.TheVariants.{Text}
use Rattle.dimacs.specs.Text.{TextTable, table_of}
use Rattle.dimacs.specs.ThreeTexts.{ThreeTables, texts_outcome, text_tables}
use Rattle.dimacs.proofs.Texts.{overlong}
use Rattle.dimacs.proofs.ThreeTexts.{outcome-is, by-outcome, left-first, then_right, then_public}
use Rattle.answers.specs.Printed.{refusal_text, solved_text}
use Rattle.reply.specs.Reply.{replied, reply_text}

module _ (left right public line : List ℕ) where
  abbrev outcome_of : Outcome
  outcome_of = texts_outcome (table_of 1 left) (table_of 1 right) (table_of 0 public)

  -- texts that are refused, whatever the line
  pub texts-refused : (r : Refusal) → outcome_of ≡ Err r → reply_text left right public line ≡ refusal_text r
  unfolding reply_text
  texts-refused r e =
      ap (λ (t : ThreeTables). solved_text t.n (replied t line)) (by-outcome (table_of 1 left) (table_of 1 right) (table_of 0 public) (Err r) e)

  -- the same by what is read
  pub tables-refused : (r : Refusal) → (text_tables left right public).outcome ≡ Err r → reply_text left right public line ≡ refusal_text r
  tables-refused r e = texts-refused r (sym (outcome-is (table_of 1 left) (table_of 1 right) (table_of 0 public)) ∙ e)

-- ---- by the tables' refusals

-- a right table that is refused, whatever the public one
pub then-refused : (l r : TextTable) (x : Refusal) → r.outcome ≡ Err x → (y : Refusal) × ((p : TextTable) → texts_outcome l r p ≡ Err y)
then-refused l r x e = go l.outcome refl
  where
    go : (o : Outcome) → l.outcome ≡ o → (y : Refusal) × ((p : TextTable) → texts_outcome l r p ≡ Err y)
    go (Ok _) el = (x, λ p. then_right l r p el x e)
    go (Err y) el = (y, λ p. left-first l r p y el)

-- a public table that is refused
pub last-refused : (l r p : TextTable) (x : Refusal) → p.outcome ≡ Err x → (y : Refusal) × (texts_outcome l r p ≡ Err y)
last-refused l r p x e = go l.outcome r.outcome refl refl
  where
    go : (o q : Outcome) → l.outcome ≡ o → r.outcome ≡ q → (y : Refusal) × (texts_outcome l r p ≡ Err y)
    go (Ok _) (Ok _) el er = (x, then_public l r p el er x e)
    go (Ok _) (Err y) el er = (y, then_right l r p el y er)
    go (Err y) q el er = (y, left-first l r p y el)

-- ---- overlong texts

-- an overlong text is refused
pub refused_long : (least : ℕ) (text : List ℕ) → 65536 < length text → (table_of least text).outcome ≡ Err Text
refused_long least text h = ap (λ (t : TextTable). t.outcome) (overlong least text h)

pub left-overlong : (left right public line : List ℕ) → 65536 < length left → reply_text left right public line ≡ refusal_text Text
left-overlong left right public line h =
    texts-refused left right public line Text (left-first (table_of 1 left) (table_of 1 right) (table_of 0 public) Text (refused_long 1 left h))

pub right_overlong : (left right public line public' line' : List ℕ) → 65536 < length right
    → reply_text left right public line ≡ reply_text left right public' line'
right_overlong left right public line public' line' h =
    let x = then-refused (table_of 1 left) (table_of 1 right) Text (refused_long 1 right h) in
    texts-refused left right public line x.0 (x.1 (table_of 0 public)) ∙ sym (texts-refused left right public' line' x.0 (x.1 (table_of 0 public')))

pub public_overlong : (left right public line line' : List ℕ) → 65536 < length public
    → reply_text left right public line ≡ reply_text left right public line'
public_overlong left right public line line' h =
    let x = last-refused (table_of 1 left) (table_of 1 right) (table_of 0 public) Text (refused_long 0 public h) in
    texts-refused left right public line x.0 x.1 ∙ sym (texts-refused left right public line' x.0 x.1)
