-- Kinds of bytes, and runs of them in a text (document 01, "DIMACS").
use Rattle.std.specs.Prelude.{ℕ, suc, Bool, ◌||◌, cond, List, [], ◌∷◌, reverse, eqb, drop}

-- a space or a tab
abbrev pub is_blank : ℕ → Bool
is_blank b = eqb b 32 || eqb b 9

-- a space, a tab or a CR
abbrev pub is_tail : ℕ → Bool
is_tail b = is_blank b || eqb b 13

-- a space, a tab, a CR or an LF
abbrev pub is_separator : ℕ → Bool
is_separator b = is_tail b || eqb b 10

-- an LF
abbrev pub is_line_feed : ℕ → Bool
is_line_feed b = eqb b 10

-- how many bytes in front pass
unfoldable pub run : (ℕ → Bool) → List ℕ → ℕ
run p [] = 0
run p (b ∷ bs) = cond (p b) (suc (run p bs)) 0

-- a text without the bytes that pass at its end
unfoldable pub trimmed : (ℕ → Bool) → List ℕ → List ℕ
trimmed p text = reverse (drop (run p (reverse text)) (reverse text))
