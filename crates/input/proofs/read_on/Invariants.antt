-- `read_on` meets its contract. The invariant: the files' ends are within the buffer, which keeps its length and the bytes of `begun`.
use Prim.Native.Nat.{◌≤◌, ◌-◌}
use mathlib.Core.Path.{◌≡◌}
use lib.ListN.{length, take}
use Rattle.input.specs.Files.{FilesWithin}
use Rattle.input.proofs.read_on.Given as goal

abbrev pub invariant-loop-files : goal.invariant-loop-files
invariant-loop-files g l =
    FilesWithin l.files (length l.buf) × (length l.buf ≡ length l.initial.buf) × (l.initial.files.public ≤ l.files.public)
    × (take l.initial.files.public l.buf ≡ take l.initial.files.public l.initial.buf)

abbrev pub decreases-loop-files : goal.decreases-loop-files
decreases-loop-files g l = 3 - l.files.whole
