-- Which bytes a restart leaves of the working string and the settled one. A pattern chooses them.
use Rattle.std.specs.Prelude.{◌≡◌, ℕ, ◌+◌, ◌/◌, ◌%◌, ◌^◌, ◌<◌, min, max, Bool, cond, not, ◌&&◌, ◌||◌, List, length, ◌==◌, nat_le, nat_lt, slice_index}

-- the bit at the place i of the row that a pattern stands for: its bytes around and around, the lowest bit of each first; with no bytes, all bits are 0
abbrev pub bit : List ℕ → ℕ → Bool
bit pattern i = slice_index pattern (i / 8 % length pattern) / 2 ^ (i % 8) % 2 == 1

-- the first bit chooses the longer or the shorter of the two lengths
abbrev pub picked_length : List ℕ → ℕ → ℕ → ℕ
picked_length pattern working settled = cond (bit pattern 0) (max working settled) (min working settled)

-- whether the byte at the place k is the settled one, by the two lengths: where both strings have a byte there, a bit for each place chooses
abbrev pub from_settled : List ℕ → ℕ → ℕ → ℕ → Bool
from_settled pattern working settled k = nat_lt k settled && (nat_le working k || not (bit pattern (k + 1)))

abbrev pub picked_byte : List ℕ → List ℕ → List ℕ → ℕ → ℕ
picked_byte pattern working settled k =
    cond (from_settled pattern (length working) (length settled) k) (slice_index settled k) (slice_index working k)

-- the string s is what a restart leaves
pub record Picked (pattern working settled s : List ℕ) : Type 0 where
  pub long : length s ≡ picked_length pattern (length working) (length settled)
  pub bytes : (k : ℕ) → k < length s → slice_index s k ≡ picked_byte pattern working settled k
