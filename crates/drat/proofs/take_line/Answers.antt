-- `take_line` meets its contract: by what the line says.
use mathlib.Core.Path.{◌≡◌, sym, ◌∙◌}
use mathlib.Core.Bool.{true}
use Rattle.drat_line.specs.declared.Said.{Said}
use Rattle.drat_line.specs.Lines.{line_said}
use Rattle.drat_line.proofs.Reading.{held-line}
use Rattle.drat.proofs.LinesRead.{reads_nothing, reads_malformed, reads_as, room_malformed}
use Rattle.drat.proofs.take_line.Goals as goal
use Rattle.drat.proofs.take_line.Goals.{After-read_line-said}

-- what the line says
abbrev said : After-read_line-said → Said
said c = let a = c.args in line_said a.n a.line.now

is_said : (c : After-read_line-said) (s : Said) → c.read_line-said.result ≡ s → said c ≡ s
is_said c s e =
    sym (held-line c.args.n c.args.line.now c.requires.n_bound) ∙ sym c.read_line-said.ensures ∙ e

pub returns-in-Nothing : goal.returns-in-Nothing
returns-in-Nothing c =
    let a = c.args in
    record {
      reads = reads_as (said (goal.at.returns-in-Nothing c).After-read_line-said) _ a.checker a.words.now a.checker a.words.now
          (is_said (goal.at.returns-in-Nothing c).After-read_line-said _ c.in-Nothing.is)
          (reads_nothing a.checker a.words.now);
      room_2 = c.requires.room;
    }

pub returns-in-Added : goal.returns-in-Added
returns-in-Added c =
    let a = c.args in
    record {
      reads = reads_as (said (goal.at.returns-in-Added c).After-read_line-said) _ a.checker a.words.now c.take_addition.result c.take_addition.new.words
          (is_said (goal.at.returns-in-Added c).After-read_line-said _ c.in-Added.is)
          c.take_addition.ensures.reads;
      room_2 = c.take_addition.ensures.room;
    }

pub returns-in-Deleted : goal.returns-in-Deleted
returns-in-Deleted c =
    let a = c.args in
    record {
      reads = reads_as (said (goal.at.returns-in-Deleted c).After-read_line-said) _ a.checker a.words.now c.take_deletion.result c.take_deletion.new.words
          (is_said (goal.at.returns-in-Deleted c).After-read_line-said _ c.in-Deleted.is)
          c.take_deletion.ensures.reads;
      room_2 = c.take_deletion.ensures.room;
    }

pub returns-in-Malformed : goal.returns-in-Malformed
returns-in-Malformed c =
    let a = c.args in
    record {
      reads = reads_as (said (goal.at.returns-in-Malformed c).After-read_line-said) _ a.checker a.words.now (record a.checker { malformed = true })
          a.words.now (is_said (goal.at.returns-in-Malformed c).After-read_line-said _ c.in-Malformed.is) (reads_malformed a.checker a.words.now);
      room_2 =
          room_malformed a.checker a.words.now c.requires.room;
    }
