-- What a check is: a number for each string, and the law that tells one altered byte.
use Rattle.std.specs.Prelude.{◌≡◌, ℕ, ◌^◌, ◌<◌, ◌≤◌, List, length, ◌≢◌, slice_index, slice_index_or}

-- bytes, at most as many as a page may hold
pub record PageBytes (s : List ℕ) : Type 0 where
  pub few : length s ≤ 65535
  pub bytes : (k : ℕ) → slice_index s k < 256

-- two strings of equal length that differ at exactly one place
pub record OneDiffers (x y : List ℕ) : Type 0 where
  pub long : length x ≡ length y
  pub place : ℕ
  pub inside : place < length x
  pub differ : slice_index_or x place 0 ≡ slice_index y place → ⊥
  pub same : (k : ℕ) → (k ≢ place) → slice_index x k ≡ slice_index y k

-- a check's number fits four bytes
abbrev pub FitsFour : (List ℕ → ℕ) → Type 0
FitsFour sum = (s : List ℕ) → PageBytes s → sum s < 2 ^ 32

-- strings that differ at exactly one place have different checks
abbrev pub TellsOne : (List ℕ → ℕ) → Type 0
TellsOne sum = (x y : List ℕ) → PageBytes x → PageBytes y → OneDiffers x y → sum x ≢ sum y
