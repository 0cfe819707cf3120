-- The ends of three files that were read into one buffer.
use Rattle.std.specs.Prelude.{◌≡◌, ℕ, ◌≤◌, Bool, ◌&&◌, leb, List, Option, IfSome, IsSomeAnd}
use Rattle.std.specs.Io.KnownBytes.{Consumes}
use Rattle.input.specs.declared.Files.{Files}

-- they are in order and in a buffer of this length
abbrev pub FilesWithin : Files → ℕ → Type 0
FilesWithin files room = (files.left ≤ files.right) × (files.right ≤ files.public) × (files.public ≤ room)

-- whether they are
abbrev pub files_within : Files → ℕ → Bool
files_within files room = leb files.left files.right && (leb files.right files.public && leb files.public room)

-- an open file gave these bytes and is open still, with the rest of what it had left where that is known
abbrev pub Gives : {F : Type 0} → (F → Option (List ℕ)) → Option F → Option F → List ℕ → Type 0
Gives remaining old new bytes = IsSomeAnd old (λ f. IsSomeAnd new (λ g. Consumes (remaining f) (remaining g) bytes))

-- the file is open, and these bytes are all that it has left where that is known
abbrev pub IsWhole : {F : Type 0} → (F → Option (List ℕ)) → Option F → List ℕ → Type 0
IsWhole remaining file bytes = IsSomeAnd file (λ f. IfSome (remaining f) (λ xs. bytes ≡ xs))
