-- The slots of a page.
use Rattle.std.proofs.Common.{◌≡◌, ℕ, ◌+◌, ◌<◌, ◌≤◌, ◌⊎◌, List, take}
use Rattle.page.specs.Footer.{four_at, slot_offset, two_at}
use Rattle.page.specs.declared.slot.ActiveChecksum.{ActiveChecksum}
use Rattle.page.specs.declared.slot.Slot.{Slot}

-- where a slot begins in a page of p data bytes
abbrev pub slot_start : ℕ → Slot → ℕ
slot_start p w = p + slot_offset w

-- what stands in a slot of a page
unfoldable pub slot_of : ℕ → List ℕ → Slot → ActiveChecksum
slot_of p page w = record { slot = w; len = two_at page (slot_start p w); check = four_at page (slot_start p w + 2) }

-- a slot's length is 1 to p, and its check that of as many leading data bytes
pub record Valid (sum : List ℕ → ℕ) (p : ℕ) (page : List ℕ) (w : Slot) : Type 0 where
  pub low : 0 < (slot_of p page w).len
  pub high : (slot_of p page w).len ≤ p
  pub check : sum (take (slot_of p page w).len page) ≡ (slot_of p page w).check

-- every slot of the page has length 0 or is valid
abbrev pub Neat : (List ℕ → ℕ) → ℕ → List ℕ → Type 0
Neat sum p page = (w : Slot) → ((slot_of p page w).len ≡ 0) ⊎ Valid sum p page w
