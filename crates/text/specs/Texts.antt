-- A text by value: bytes from the front of an array, and their number.
use Rattle.std.specs.Prelude.{ℕ, ◌-◌, List, ◌++◌, length, replicate}
use Rattle.text.specs.declared.Text.{Text}
unfoldable pub use Rattle.text.specs.Appending.{pushed, appended}

-- the text of these bytes, zeros after them
abbrev pub text_of : List ℕ → Text
text_of bytes = record { bytes = bytes ++ replicate (256 - length bytes) 0; length = length bytes }
