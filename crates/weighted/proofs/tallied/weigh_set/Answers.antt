-- `weigh_set` meets its contract word by word, from nothing.
use lib.ListN.{replicate, get_or-replicate}
use lib.Ieee.{nan, binary64, of_bits}
use Rattle.weighted.proofs.SetWeights.{weigh_words}
use Rattle.weighted.proofs.tallied.weigh_set.Goals as goal

pub returns : goal.returns
returns c =
    weigh_words _ _ _ (replicate 32 (of_bits binary64 0)) _ _ _ _ _ _ (λ i b. get_or-replicate 32 i (of_bits binary64 0) nan b) c.weigh_word.ensures
    c.weigh_word-2.ensures c.weigh_word-3.ensures c.weigh_word-4.ensures c.weigh_word-5.ensures c.weigh_word-6.ensures
