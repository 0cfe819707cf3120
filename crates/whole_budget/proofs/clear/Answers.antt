-- `clear` meets its contract: `fill` writes as many zeros as there are bytes in the part.
use mathlib.Core.Path.{◌≡◌, sym, ap, ◌∙◌}
use mathlib.Core.List.{List, ◌++◌}
use Prim.Native.Nat.{ℕ}
use lib.ListN.{drop, replicate}
use lib.Seq.{length-take-le}
use Rattle.whole_budget.proofs.Clearing.{cleared-is}
use Rattle.whole_budget.proofs.clear.Goals as goal

pub returns : goal.returns
returns c =
    let k = c.args.count in
    let zeros : c.fill.new.self ≡ replicate k 0 =
    c.fill.ensures.after (λ y e. e) ∙ ap (λ (n : ℕ). replicate n 0) (length-take-le k c.args.bytes.now c.requires) in
    ap (λ (l : List ℕ). l ++ drop k c.args.bytes.now) zeros
    ∙ sym (cleared-is k c.args.bytes.now)
