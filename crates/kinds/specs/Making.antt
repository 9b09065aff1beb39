-- What making a blob of either kind comes to.
use Rattle.std.specs.Prelude.{◌≡◌, ℕ, ◌^◌, ◌<◌, ◌≤◌, true, List, length, Ok, Err, Result}
use Rattle.blob.specs.Value.{BlobValue, Settled}
use Rattle.kinds.specs.declared.MakeError.{MakeError}
use Rattle.kinds.specs.declared.MakeError.TheVariants.{CeilingTooHigh, TooLong, NoMemory}

-- P holds of what was made, and each refusal has its reason
abbrev pub Made : {B : Type 0} → ℕ → List ℕ → (B → Type 0) → Result B MakeError → Type 0
Made ceiling bytes P (Ok b) = (ceiling ≤ 2 ^ 40) × (length bytes ≤ ceiling) × P b
Made ceiling bytes P (Err CeilingTooHigh) = 2 ^ 40 < ceiling
Made ceiling bytes P (Err TooLong) = (ceiling ≤ 2 ^ 40) × (ceiling < length bytes)
Made ceiling bytes P (Err NoMemory) = (ceiling ≤ 2 ^ 40) × (length bytes ≤ ceiling)

-- what a new blob means
pub record Fresh (v : BlobValue) (s : List ℕ) (c : ℕ) : Type 0 where
  pub shows : v.shown ≡ s
  pub ceiling : v.ceiling ≡ c
  pub settled : Settled v
  pub up : v.power ≡ true
