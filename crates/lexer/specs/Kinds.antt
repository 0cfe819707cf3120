-- The kinds of bytes that functions are told by: each a test of bytes.
use Rattle.std.specs.Prelude.{ℕ, Bool}
use Rattle.lexer.specs.Bytes.{is_blank, is_tail, is_separator, is_line_feed}
use Rattle.lexer.specs.declared.kinds.Kind.{Kind}
use Rattle.lexer.specs.declared.kinds.Kind.TheVariants.{Blank, Tail, Separator, LineFeed}

-- the bytes of a kind
abbrev pub passes : Kind → ℕ → Bool
passes Blank = is_blank
passes Tail = is_tail
passes Separator = is_separator
passes LineFeed = is_line_feed
