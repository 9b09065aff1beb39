-- What a blob means: one value, that every kind of blob has and every call changes as it promises.
use Rattle.std.specs.Prelude.{◌≡◌, ℕ, ◌^◌, ◌<◌, ◌≤◌, Bool, true, List, length, slice_index}

pub record BlobValue : Type 0 where
  -- the bytes that a read gives
  pub shown : List ℕ
  -- a fixed number that the length never passes
  pub ceiling : ℕ
  -- whether the byte at a place is one that a power cut leaves
  pub firm : ℕ → Bool
  -- the least and the greatest length after a power cut
  pub shortest : ℕ
  pub longest : ℕ
  -- whether power is up
  pub power : Bool

-- what holds of every blob at every time
pub record Sound (v : BlobValue) : Type 0 where
  pub bytes : (k : ℕ) → slice_index v.shown k < 256
  pub fits : length v.shown ≤ v.ceiling
  pub ceiling_fits : v.ceiling ≤ 2 ^ 40
  -- a firm place has a byte, and lies below the least length
  pub firm_shown : (k : ℕ) → v.firm k ≡ true → k < length v.shown
  pub firm_below : (k : ℕ) → v.firm k ≡ true → k < v.shortest
  pub ordered : v.shortest ≤ v.longest

-- all shown places are firm, and a cut leaves the length as it is
pub record Settled (v : BlobValue) : Type 0 where
  pub firm : (k : ℕ) → k < length v.shown → v.firm k ≡ true
  pub shortest : v.shortest ≡ length v.shown
  pub longest : v.longest ≡ length v.shown

-- bytes that may stand after a power cut
pub record MayStand (v : BlobValue) (s : List ℕ) : Type 0 where
  pub long : v.shortest ≤ length s
  pub short : length s ≤ v.longest
  pub firm : (k : ℕ) → v.firm k ≡ true → slice_index s k ≡ slice_index v.shown k
