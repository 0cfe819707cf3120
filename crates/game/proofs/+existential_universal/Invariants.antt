-- `existential` and `universal` meet their contracts, each from the other's. The measure of both is the number of unset variables, which falls with each call.
use Rattle.game.proofs.+existential_universal.Given as goal

abbrev pub decreases-existential : goal.decreases-existential
decreases-existential l = l.unset

abbrev pub decreases-universal : goal.decreases-universal
decreases-universal l = l.unset
