-- What a list of bytes is.
use Rattle.std.specs.Prelude.{ℕ, ◌<◌, List, slice_index}

-- each element is a byte
abbrev pub AllBytes : List ℕ → Type 0
AllBytes s = (k : ℕ) → slice_index s k < 256
