-- A test as a number is its digit: for the loop that gathers the marks.
use mathlib.Core.Path.{◌≡◌, refl}
use mathlib.Core.Bool.{Bool, true, false}
use mir.Val.{bool_byte}
use Rattle.words.specs.Booleans.{digit}

pub bool_digit : (b : Bool) → bool_byte b ≡ digit b
bool_digit true = refl
bool_digit false = refl
