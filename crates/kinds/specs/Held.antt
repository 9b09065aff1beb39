-- What an area holds, as a list.
use Rattle.std.specs.Prelude.{ℕ, ◌≤◌, List, length, vec_items}
use Rattle.kinds.specs.Bytes.{AllBytes}
use Rattle.kinds.specs.declared.areas.Area.{Area}

-- the string of an area
abbrev pub held : Area → List ℕ
held a = vec_items a.string

-- the number of bytes that an area has room for
abbrev pub room : Area → ℕ
room a = a.ceiling

-- what holds of the string of every area
pub held_fits : (a : Area) → length (held a) ≤ room a
held_fits a = a.within

pub held_bytes : (a : Area) → AllBytes (held a)
held_bytes a = a.bytes
