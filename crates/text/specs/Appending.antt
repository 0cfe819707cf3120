-- A text that grows at its end. Functions that compose texts go by it.
use Rattle.std.specs.Prelude.{ℕ, ◌+◌, cond, List, [], ◌∷◌, ltb, set}
use Rattle.text.specs.declared.Text.{Text}

-- one byte more; a full text stays as it is
abbrev pub pushed : Text → ℕ → Text
pushed t b = cond (ltb t.length 256) (record { bytes = set t.bytes t.length b; length = t.length + 1 }) t

-- these bytes more, one after the other
unfoldable pub appended : Text → List ℕ → Text
appended t [] = t
appended t (b ∷ bs) = appended (pushed t b) bs
