-- `check_texts` meets its contract: each test is the definition's, in its order.
use mathlib.Core.Path.{refl}
use Rattle.dimacs.specs.Text.{as_read}
use Rattle.host_texts.specs.Texts.{Texts, all_texts}
use Rattle.host_texts.proofs.ThreeTexts.{no_room, differ, agree}
use Rattle.host_texts.proofs.check_texts.Goals as goal
use Rattle.host_texts.proofs.check_texts.Goals.{Start}

-- the three texts' tables
abbrev texts : Start → Texts
texts s = all_texts (as_read s.args.left) (as_read s.args.right) (as_read s.args.public)

pub returns-then-left_words-left : goal.returns-then-left_words-left
returns-then-left_words-left c =
    let a = c.args in
    no_room (texts (goal.at.returns-then-left_words-left c).Start) a.left_words a.right_words a.public_words refl refl refl c.if-left_words-left.true

pub returns-then-left-right : goal.returns-then-left-right
returns-then-left-right c =
    let a = c.args in
    differ (texts (goal.at.returns-then-left-right c).Start) a.left_words a.right_words a.public_words refl refl refl c.if-left_words-left.false
    c.if-left-right.true

pub returns : goal.returns
returns c =
    let a = c.args in
    agree (texts (goal.at.returns c).Start) a.left_words a.right_words a.public_words refl refl refl c.if-left_words-left.false c.if-left-right.false
