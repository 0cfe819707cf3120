-- A clause that holds a variable in both signs has a bit that both its words have; any other follows exactly if its negation leads to a conflict.
use mathlib.Core.Path.{◌≡◌, refl, sym, ap, ◌∙◌, fun_ext}
use mathlib.Core.Bool.{Bool, true, not}
use mathlib.Core.List.{List}
use Prim.Native.Nat.{ℕ, ◌^◌, ◌<◌}
use lib.Dec.{eqb}
use lib.Bits.{bit_and}
use borrow.Author.Tests.{eq-eqb, ne_eqb}
use Rattle.words.specs.declared.Row.{Row}
use Rattle.words.specs.Sets.{any}
use Rattle.words.proofs.Operations.{bit-and, any_word, and-lt-left}
use Rattle.tables.specs.Rows.{padding}
use Rattle.propagation.specs.Propagation.{reaches, follows}
use Rattle.propagation.specs.Passes.{Apart}
use Rattle.propagation.proofs.Confluence.{negation_apart}

module _ (rows : List Row) (c : Row) (h : c.positive < 2 ^ 32) where
  padding-word : padding 32 c ≡ not (eqb (bit_and c.positive c.negative) 0)
  unfolding padding
  padding-word =
      ap (λ (p : ℕ → Bool). any p 32) (fun_ext (λ i. sym (bit-and c.positive c.negative i)))
      ∙ any_word 32 (bit_and c.positive c.negative) (and-lt-left 32 c.positive c.negative h)

  pub both_signs : (bit_and c.positive c.negative ≡ 0 → ⊥) → true ≡ follows rows c
  unfolding follows
  both_signs e = rw (padding-word, ne_eqb _ 0 e)

  module _ (e : bit_and c.positive c.negative ≡ 0) where
    pub one-sign_apart : Apart c.negative c.positive
    one-sign_apart = negation_apart rows c (padding-word ∙ rw (eq-eqb _ 0 e) refl)

    pub one-sign : (x : Bool) → x ≡ reaches 33 rows c.negative c.positive → x ≡ follows rows c
    unfolding follows
    one-sign x q = rw (padding-word, eq-eqb _ 0 e) q
