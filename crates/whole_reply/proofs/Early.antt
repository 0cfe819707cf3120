-- What is known before all is read: where a text is refused, what is printed does not rest on the texts after it nor on the line, as for the pair program. So
-- the program may answer an overlong text at once.
use mathlib.Core.Path.{◌≡◌, sym, ap, ◌∙◌}
use mathlib.Core.List.{List}
use Prim.Native.Nat.{ℕ, ◌<◌}
use lib.ListN.{length}
use Rattle.std.specs.Prelude.{Err}
use Rattle.refusals.specs.declared.Refusal.{Refusal}
use Rattle.refusals.specs.declared.Refusal.TheVariants as refusal
use Rattle.dimacs.specs.Text.{table_of}
use Rattle.dimacs.specs.ThreeTexts.{ThreeTables, texts_outcome, text_tables}
use Rattle.dimacs.proofs.ThreeTexts.{outcome-is, by-outcome, left-first}
use Rattle.answers.specs.Printed.{refusal_text, solved_text}
use Rattle.reply.proofs.Early.{then-refused, last-refused, refused_long}
use Rattle.whole_reply.specs.WholeReply.{whole_replied, whole_text}

module _ (left right public line : List ℕ) where
  -- texts that are refused, whatever the line
  refused-texts : (r : Refusal) → texts_outcome (table_of 1 left) (table_of 1 right) (table_of 0 public) ≡ Err r
      → whole_text left right public line ≡ refusal_text r
  unfolding whole_text
  refused-texts r e =
      ap (λ (t : ThreeTables). solved_text t.n (whole_replied t line)) (by-outcome (table_of 1 left) (table_of 1 right) (table_of 0 public) (Err r) e)

  -- the same by what is read
  pub tables-refused : (r : Refusal) → (text_tables left right public).outcome ≡ Err r → whole_text left right public line ≡ refusal_text r
  tables-refused r e = refused-texts r (sym (outcome-is (table_of 1 left) (table_of 1 right) (table_of 0 public)) ∙ e)

  pub left-overlong : 65536 < length left → whole_text left right public line ≡ refusal_text refusal.Text
  left-overlong h = refused-texts refusal.Text (left-first (table_of 1 left) (table_of 1 right) (table_of 0 public) refusal.Text (refused_long 1 left h))

module _ (left right public line public' line' : List ℕ) where
  pub right_overlong : 65536 < length right → whole_text left right public line ≡ whole_text left right public' line'
  right_overlong h =
      let x = then-refused (table_of 1 left) (table_of 1 right) refusal.Text (refused_long 1 right h) in
      refused-texts left right public line x.0 (x.1 (table_of 0 public))
      ∙ sym (refused-texts left right public' line' x.0 (x.1 (table_of 0 public')))

  pub public_overlong : 65536 < length public → whole_text left right public line ≡ whole_text left right public line'
  public_overlong h =
      let x = last-refused (table_of 1 left) (table_of 1 right) (table_of 0 public) refusal.Text (refused_long 0 public h) in
      refused-texts left right public line x.0 x.1 ∙ sym (refused-texts left right public line' x.0 x.1)
