-- `with_opening` meets its contract: by the two cases of the opening.
use mathlib.Core.Path.{sym, ap, ap₂, ◌∙◌}
use mathlib.Core.List.{[], ◌∷◌}
use Prim.Native.Nat.{ℕ}
use native.Mathlib.Numerals.{add-one}
use Rattle.std.specs.Prelude.{Bool, Option}
use Rattle.words.proofs.Truth.{byte-digit}
use Rattle.game.specs.Game.{opening_numbers}
use Rattle.host_game.proofs.with_opening.Goals as goal

pub returns-in-Some : goal.returns-in-Some
returns-in-Some c =
    let side = c.args.side in
    ap₂ (λ (v b : ℕ). side ∷ (v ∷ (b ∷ []))) (add-one _) (byte-digit c.in-Some.b)
    ∙ ap (λ (o : Option (ℕ × Bool)). side ∷ opening_numbers o) (sym c.in-Some.is)

pub returns-in-None : goal.returns-in-None
returns-in-None c = ap (λ (o : Option (ℕ × Bool)). c.args.side ∷ opening_numbers o) (sym c.in-None.is)
