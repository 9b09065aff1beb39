-- What holds of a writer and its blob between two calls.
use Rattle.std.proofs.Common.{◌≡◌, ℕ, ◌+◌, ◌*◌, ◌<◌, ◌≤◌, ◌⊎◌, List, length, get_or, Some, None, Option}
use Rattle.blob.specs.Value.{BlobValue, Settled, Sound}
use Rattle.page.specs.Layout.{page_at, start}
use Rattle.page.specs.Verdict.{cover}
use Rattle.page.specs.declared.slot.ActiveChecksum.{ActiveChecksum}
use Rattle.paged.specs.declared.sync_state.SyncState.TheVariants.{Clean, Dirty}
use Rattle.plan.specs.State.{WriterState}
use Rattle.law.specs.Events.{Bytes}
use Rattle.law.specs.Log.{Place, byte, gap, page_place}
use Rattle.law.proofs.Guard.{Firm, Guard}
use Rattle.law.proofs.Slots.{Neat, Valid, slot_of}

-- the flushed slot is the one that counts in the current page, and covers the first bytes of the tip
pub record Counts (sum : List ℕ → ℕ) (p : ℕ) (s : List ℕ) (c : ℕ) (tip : List ℕ) (a : ActiveChecksum) : Type 0 where
  pub whole : start p c + (p + 12) ≡ length s
  pub there : slot_of p (page_at p s c) a.slot ≡ a
  pub valid : Valid sum p (page_at p s c) a.slot
  pub most : cover sum (page_at p s c) ≡ a.len
  pub short : a.len < p
  pub under : a.len ≤ length tip
  pub same : (k : ℕ) → k < a.len → get_or s (start p c + k) 0 ≡ get_or tip k 0

abbrev pub Flushed : (List ℕ → ℕ) → ℕ → List ℕ → ℕ → List ℕ → Option ActiveChecksum → Type 0
Flushed sum p s c tip None = start p c ≡ length s
Flushed sum p s c tip (Some a) = Counts sum p s c tip a

-- the log is the pages before the current one, and then the tip
pub record Tracks (sum : List ℕ → ℕ) (p : ℕ) (s : List ℕ) (c : ℕ) (tip : List ℕ) (log : List Place) : Type 0 where
  pub long : length log ≡ c * p + length tip
  pub in_tip : (k : ℕ) → k < length tip → get_or log (c * p + k) gap ≡ byte (get_or tip k 0)
  pub in_page : (i j : ℕ) → i < c → j < p → get_or log (i * p + j) gap ≡ page_place sum (page_at p s i) j

pub record Inv (sum : List ℕ → ℕ) (p : ℕ) (v : BlobValue) (w : WriterState) (log promise : List Place) : Type 0 where
  pub sound : Sound v
  pub guard : Guard sum p v promise
  pub bytes : Bytes w.tip
  pub flushed : Flushed sum p v.shown w.page w.tip w.flushed
  pub tracks : Tracks sum p v.shown w.page w.tip log
  pub firm : Firm v ⊎ ((w.mark ≡ Dirty) × (w.flushed ≡ None))
  pub settled : w.mark ≡ Clean → Settled v
  pub durable : w.durable ≡ w.flushed

-- all of the tip is on the blob
abbrev pub Even : List ℕ → Option ActiveChecksum → Type 0
Even tip None = length tip ≡ 0
Even tip (Some a) = length tip ≡ a.len

-- every slot of every page has length 0 or is valid
abbrev pub AllNeat : (List ℕ → ℕ) → ℕ → List ℕ → Type 0
AllNeat sum p s = (i : ℕ) → start p i + (p + 12) ≤ length s → Neat sum p (page_at p s i)
