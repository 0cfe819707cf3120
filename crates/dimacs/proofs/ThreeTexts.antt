-- A text and three texts together, as they are read: the first refusal decides. By the outcomes, one after the other.
use mathlib.Core.Path.{◌≡◌, refl, sym, ap, ◌∙◌}
use mathlib.Core.List.{List, [], ◌∷◌}
use Prim.Native.Nat.{ℕ}
use native.Mathlib.Omega.{arith}
use Rattle.std.specs.Prelude.{Result, Ok, Err}
use Rattle.refusals.specs.Numbers.{Outcome, said}
use Rattle.refusals.specs.Checks.{given}
use Rattle.refusals.proofs.Outcomes.{refused-taken, given-said}
use Rattle.refusals.specs.declared.Refusal.{Refusal}
use Rattle.dimacs.specs.Text.{TextTable, table_read, table_code, as_read}
use Rattle.dimacs.specs.ThreeTexts.{ThreeTables, refused_texts, accepted_texts, shared_n, texts_outcome, together, texts_read, texts_code, all_read}
use Rattle.dimacs.specs.declared.Table.{Table}
use Rattle.dimacs.specs.declared.TextTables.{TextTables}

-- where two outcomes in a row are taken, each is
pub given-taken : (o rest : Outcome) → given o rest Err ≡ Ok tt → (o ≡ Ok tt) × (rest ≡ Ok tt)
given-taken (Ok _) rest e = (refl, e)
given-taken (Err x) rest e = absurd (refused-taken e)

module _ (l r p : TextTable) where
  -- the outcome is that of all
  pub outcome-is : (together l r p).outcome ≡ texts_outcome l r p
  outcome-is = go (texts_outcome l r p)
    where
      go : (o : Outcome) → (given o (accepted_texts l r p) refused_texts).outcome ≡ o
      go (Ok _) = refl
      go (Err x) = refl

  -- what is given by the outcome of all
  pub by-outcome : (o : Outcome) → texts_outcome l r p ≡ o → together l r p ≡ given o (accepted_texts l r p) refused_texts
  by-outcome o e = ap (λ (x : Outcome). given x (accepted_texts l r p) refused_texts) e

  -- left's refusal is that of all three
  pub left-first : (x : Refusal) → l.outcome ≡ Err x → texts_outcome l r p ≡ Err x
  left-first x e = ap (λ (o : Outcome). given o (given r.outcome (given p.outcome (shared_n l r p) Err) Err) Err) e

  module _ (left-taken : l.outcome ≡ Ok tt) where
    after-left : texts_outcome l r p ≡ given r.outcome (given p.outcome (shared_n l r p) Err) Err
    after-left = ap (λ (o : Outcome). given o (given r.outcome (given p.outcome (shared_n l r p) Err) Err) Err) left-taken

    -- where left is taken, right's refusal is that of all three
    pub then_right : (x : Refusal) → r.outcome ≡ Err x → texts_outcome l r p ≡ Err x
    then_right x e = after-left ∙ ap (λ (o : Outcome). given o (given p.outcome (shared_n l r p) Err) Err) e

    module _ (right_taken : r.outcome ≡ Ok tt) where
      after_right : texts_outcome l r p ≡ given p.outcome (shared_n l r p) Err
      after_right = after-left ∙ ap (λ (o : Outcome). given o (given p.outcome (shared_n l r p) Err) Err) right_taken

      -- where left and right are taken, the refusal of the public rest rules is that of all three
      pub then_public : (x : Refusal) → p.outcome ≡ Err x → texts_outcome l r p ≡ Err x
      then_public x e = after_right ∙ ap (λ (o : Outcome). given o (shared_n l r p) Err) e

-- ---- as they are read

-- what is read of a text says the number of its outcome
pub table-said : (t : TextTable) {x : Result Table Refusal} → x ≡ table_read t → (x ≡ table_read t) × (table_code x ∷ [] ≡ said t.outcome [])
table-said t e =
    let says : Result Table Refusal → List ℕ = λ x. table_code x ∷ [] in
    (e, ap says e ∙ given-said says t.outcome (Ok (record { n = t.n; rows = t.rows; words = t.words })) Err [] refl (λ q. refl))

module _ (t : TextTable) (x : Result Table Refusal) (e : x ≡ table_read t) where
  -- a table that is read is all that its text says
  pub table-is : (y : Table) → x ≡ Ok y → as_read y ≡ t
  table-is y q = go t.outcome t.n t.rows t.words (sym q ∙ e)
    where
      go : (o : Outcome) (n rows : ℕ) (words : List ℕ) → Ok y ≡ given o (Ok (record { n = n; rows = rows; words = words })) Err
          → as_read y ≡ record { outcome = o; n = n; rows = rows; words = words }
      go (Ok _) n rows words k = let z : y ≡ record { n = n; rows = rows; words = words } = cc in ap as_read z
      go (Err r) n rows words k = absurd (let z : ◌≡◌ {A = ℕ} 0 1 = cc in omega arith)

  -- a table that was read is taken
  pub taken : (y : Table) → x ≡ Ok y → t.outcome ≡ Ok tt
  taken y q = sym (ap (λ (s : TextTable). s.outcome) (table-is y q))

  -- a refusal is the text's
  pub refusal-is : (r : Refusal) → x ≡ Err r → t.outcome ≡ Err r
  refusal-is r q = go t.outcome (sym e ∙ q)
    where
      go : (o : Outcome) → table_read (record { outcome = o; n = t.n; rows = t.rows; words = t.words }) ≡ Err r → o ≡ Err r
      go (Ok _) k = absurd (let z : ◌≡◌ {A = ℕ} 0 1 = cc in omega arith)
      go (Err p) k = let z : p ≡ r = cc in ap Err z

module _ (l r p : TextTable) where
  -- what is read of three texts says the number of their outcome
  pub texts-said : {x : Result TextTables Refusal} → x ≡ texts_read (together l r p)
      → (x ≡ texts_read (together l r p)) × (texts_code x ∷ [] ≡ said (texts_outcome l r p) [])
  texts-said e =
      let says : ThreeTables → List ℕ = λ t. texts_code (texts_read t) ∷ [] in (
        e,
        ap (λ (x : Result TextTables Refusal). texts_code x ∷ []) e
            ∙ given-said says (texts_outcome l r p) (accepted_texts l r p) refused_texts [] refl (λ q. refl),
      )

  -- three texts that are refused
  pub none_read : (x : Refusal) → texts_outcome l r p ≡ Err x → Err x ≡ texts_read (together l r p)
  none_read x e = sym (ap texts_read (by-outcome l r p (Err x) e))

  module _ (a b c : Table) (ea : as_read a ≡ l) (eb : as_read b ≡ r) (ec : as_read c ≡ p) where
    -- three tables, by whether they agree in n
    pub by_n : (o : Outcome) → shared_n (as_read a) (as_read b) (as_read c) ≡ o
        → texts_read (given o (accepted_texts (as_read a) (as_read b) (as_read c)) refused_texts) ≡ texts_read (together l r p)
    by_n o e =
        ap (λ (x : Outcome). texts_read (given x (accepted_texts (as_read a) (as_read b) (as_read c)) refused_texts)) (sym e)
        ∙ (λ i. texts_read (together (ea i) (eb i) (ec i)))

module _ (t : ThreeTables) (x : Result TextTables Refusal) (e : x ≡ texts_read t) where
  -- tables that are read are all that the texts say
  pub texts-are : (y : TextTables) → x ≡ Ok y → all_read y ≡ t
  texts-are y q = go t.outcome (sym q ∙ e)
    where
      tables : TextTables
      tables =
          record {
            n = t.n;
            left_rows = t.left_rows;
            right_rows = t.right_rows;
            public_rows = t.public_rows;
            left = t.left;
            right = t.right;
            public = t.public;
          }

      go : (o : Outcome) → Ok y ≡ given o (Ok tables) Err → all_read y ≡ record (all_read tables) { outcome = o }
      go (Ok _) k = let z : y ≡ tables = cc in ap all_read z
      go (Err r) k = absurd (let z : ◌≡◌ {A = ℕ} 0 1 = cc in omega arith)

  -- a refusal is the texts'
  pub texts-refusal : (r : Refusal) → x ≡ Err r → t.outcome ≡ Err r
  texts-refusal r q = go t.outcome (sym e ∙ q)
    where
      go : (o : Outcome) → texts_read (record t { outcome = o }) ≡ Err r → o ≡ Err r
      go (Ok _) k = absurd (let z : ◌≡◌ {A = ℕ} 0 1 = cc in omega arith)
      go (Err p) k = let z : p ≡ r = cc in ap Err z
