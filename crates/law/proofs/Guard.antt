-- What guards the promise in a blob.
use Rattle.std.proofs.Common.{◌≡◌, ℕ, ◌+◌, ◌*◌, ◌<◌, ◌≤◌, true, List, length, get_or}
use Rattle.blob.specs.Value.{BlobValue}
use Rattle.page.specs.declared.slot.Slot.{Slot}
use Rattle.page.specs.Layout.{start, page_at}
use Rattle.page.specs.Verdict.{cover}
use Rattle.law.specs.Log.{Place, gap, byte}
use Rattle.law.proofs.Slots.{slot_start, slot_of, Valid}

-- byte j of page i is b, below a slot that is valid, and that a cut leaves with all that it covers
pub record Backed (sum : List ℕ → ℕ) (p : ℕ) (v : BlobValue) (i j b : ℕ) (w : Slot) : Type 0 where
  pub whole : start p i + (p + 12) ≤ length v.shown
  pub lasts : start p i + (p + 12) ≤ v.shortest
  pub here : get_or v.shown (start p i + j) 0 ≡ b
  pub valid : Valid sum p (page_at p v.shown i) w
  pub under : j < (slot_of p (page_at p v.shown i) w).len
  pub firm_data : (k : ℕ) → k < (slot_of p (page_at p v.shown i) w).len → v.firm (start p i + k) ≡ true
  pub firm_slot : (k : ℕ) → k < 6 → v.firm (start p i + (slot_start p w + k)) ≡ true

-- each byte of the promise has a slot that guards it
abbrev pub Guard : (List ℕ → ℕ) → ℕ → BlobValue → List Place → Type 0
Guard sum p v promise = (i j b : ℕ) → j < p → get_or promise (i * p + j) gap ≡ byte b → (w : Slot) × Backed sum p v i j b w

-- all shown places are firm
abbrev pub Firm : BlobValue → Type 0
Firm v = (k : ℕ) → k < length v.shown → v.firm k ≡ true

-- byte j of page i is b, and its page's verdict covers it
pub record Stood (sum : List ℕ → ℕ) (p : ℕ) (s : List ℕ) (i j b : ℕ) : Type 0 where
  pub whole : start p i + (p + 12) ≤ length s
  pub here : get_or s (start p i + j) 0 ≡ b
  pub covered : j < cover sum (page_at p s i)

abbrev pub Stands : (List ℕ → ℕ) → ℕ → List ℕ → List Place → Type 0
Stands sum p s promise = (i j b : ℕ) → j < p → get_or promise (i * p + j) gap ≡ byte b → Stood sum p s i j b
