-- `close` meets its contract: the two tests are those of the definition's last part.
use mathlib.Core.Path.{◌≡◌, refl, sym, ap, ◌∙◌}
use mathlib.Core.Bool.{Bool, true, false, cond}
use mathlib.Core.List.{List, [], ◌∷◌}
use Rattle.lexer.specs.Bytes.{is_blank}
use Rattle.lexer.specs.Pieces.{Piece, parts_from}
use Rattle.lexer.proofs.Cuts.{found, missing}
use Rattle.qdimacs.specs.Walk.{last_part}
use Rattle.qdimacs.specs.declared.Prefix.{Prefix}
use Rattle.qdimacs.specs.declared.PrefixLine.TheVariants.{Passed, Malformed}
use Rattle.qdimacs.proofs.close.Goals as goal

closed : (p : Prefix) (told : Bool) (ps : List Piece) (b : Bool) → last_part told ps ≡ b
    → cond b (Passed p) Malformed ≡ cond (last_part told ps) (Passed p) Malformed
closed p told ps b e = ap (λ (t : Bool). cond t (Passed p) Malformed) (sym e)

no_variable_lem : (told : Bool) (ps : List Piece) → told ≡ false → last_part told ps ≡ false
no_variable_lem told ps e = rw e

last : (told : Bool) (ps : List Piece) → told ≡ true → ps ≡ [] → last_part told ps ≡ true
last told ps e h = rw (e, h)

one_more : (told : Bool) (ps qs : List Piece) (q : Piece) → ps ≡ q ∷ qs → last_part told ps ≡ false
one_more true ps qs q h = rw h
one_more false ps qs q h = refl

pub returns-then-not-some : goal.returns-then-not-some
returns-then-not-some c =
    let a = c.args in
    let ps = parts_from is_blank a.line.now a.at in
    closed a.p a.some ps false (no_variable_lem a.some ps c.if-not-some.true)

pub returns-in_default : goal.returns-in_default
returns-in_default c =
    let a = c.args in
    let ps = parts_from is_blank a.line.now a.at in
    closed a.p a.some ps false
    (one_more a.some ps _ _ (found is_blank _ _ _ _ (sym c.next_part.ensures ∙ c.in_default.is)).pieces)

pub returns : goal.returns
returns c =
    let a = c.args in
    let ps = parts_from is_blank a.line.now a.at in
    closed a.p a.some ps true
    (last a.some ps c.if-not-some.false
    (missing is_blank _ _ (sym c.next_part.ensures ∙ c.in-None.is)))
