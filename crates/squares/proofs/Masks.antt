-- The five distances and their masks pass the test, by computation.
use mathlib.Core.Path.{◌≡◌, refl}
use mathlib.Core.Bool.{true}
use Rattle.words.specs.Sets.{bit, all}
use Rattle.squares.specs.Steps.{odd, fine_at, fine}

pub fine_16 : fine 16 0x0000_ffff ≡ true
unfolding fine fine_at odd all bit
fine_16 = refl

pub fine_8 : fine 8 0x00ff_00ff ≡ true
unfolding fine fine_at odd all bit
fine_8 = refl

pub fine_4 : fine 4 0x0f0f_0f0f ≡ true
unfolding fine fine_at odd all bit
fine_4 = refl

pub fine_2 : fine 2 0x3333_3333 ≡ true
unfolding fine fine_at odd all bit
fine_2 = refl

pub fine_1 : fine 1 0x5555_5555 ≡ true
unfolding fine fine_at odd all bit
fine_1 = refl
