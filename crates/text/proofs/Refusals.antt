-- A refusal's line, put together: its appends are one, and have room.
use mathlib.Core.Path.{◌≡◌, ap, ◌∙◌}
use mathlib.Core.List.{[], ◌++◌, append_assoc}
use native.Mathlib.Omega.{arith}
use Rattle.refusals.specs.declared.Refusal.{Refusal}
use Rattle.refusals.specs.Numbers.{number_of}
use Rattle.lexer.specs.Spelling.{bytes}
use Rattle.text.specs.declared.Text.{Text}
use Rattle.text.specs.Texts.{text_of, appended}
use Rattle.text.specs.Decimal.{decimal}
use Rattle.text.specs.Refused.{refused_line}
use Rattle.text.proofs.Appending.{composed}
use Rattle.text.proofs.Decimals.{decimal-length}

pub refused_composed : (r : Refusal) (e a b c : Text) → e ≡ text_of [] → a ≡ appended e (bytes "c refused ") → b ≡ appended a (decimal (number_of r))
    → c ≡ appended b (bytes "\n") → c ≡ text_of (refused_line r)
refused_composed r e a b c he ha hb hc =
    composed (bytes "c refused ") (decimal (number_of r)) (bytes "\n") e a b c (omega (arith, decimal-length (number_of r))) he ha hb hc
    ∙ ap text_of joined
  where
    joined : bytes "c refused " ++ (decimal (number_of r) ++ bytes "\n") ≡ refused_line r
    joined = simp append_assoc
