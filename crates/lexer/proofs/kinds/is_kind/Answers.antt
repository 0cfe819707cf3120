-- `is_kind` meets its contract: at each kind by what its test ensures.
use Rattle.lexer.proofs.kinds.is_kind.Goals as goal

pub returns-in-Blank : goal.returns-in-Blank
returns-in-Blank c = rw c.in-Blank.is c.is_blank.ensures

pub returns-in-Tail : goal.returns-in-Tail
returns-in-Tail c = rw c.in-Tail.is c.is_tail.ensures

pub returns-in-Separator : goal.returns-in-Separator
returns-in-Separator c = rw c.in-Separator.is c.is_separator.ensures

pub returns-in-LineFeed : goal.returns-in-LineFeed
returns-in-LineFeed c = rw c.in-LineFeed.is
