-- `owns` meets its contract: station 0, station 1 and any other are the definition's cases.
use Rattle.late.proofs.Checks.{owns-left, owns_right, owns_none}
use Rattle.late.proofs.owns.Goals as goal

pub returns-then-station-eq0 : goal.returns-then-station-eq0
returns-then-station-eq0 c = let a = c.args in owns-left a.d a.station a.number c.if-station-eq0.true

pub returns-then-station-eq1 : goal.returns-then-station-eq1
returns-then-station-eq1 c = let a = c.args in
    owns_right a.d a.station a.number c.if-station-eq0.false c.if-station-eq1.true

pub returns : goal.returns
returns c = let a = c.args in owns_none a.d a.station a.number c.if-station-eq0.false c.if-station-eq1.false
