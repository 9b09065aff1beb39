-- What each call of a blob may do: relations between the meaning v before the call and w after it.
use Rattle.std.specs.Prelude.{◌≡◌, ℕ, ◌+◌, ◌-◌, ◌<◌, ◌≤◌, min, max, true, false, ◌⊎◌, List, ◌++◌, length, take, drop, replicate, Ok, Err, Result, slice_index}
use Rattle.blob.specs.declared.Fault.{Fault}
use Rattle.blob.specs.declared.Fault.TheVariants.{Refused, Failed}
use Rattle.blob.specs.Value.{BlobValue, Settled, MayStand}

-- a string with the bytes bs written over it from the place o on
abbrev pub overwritten : List ℕ → ℕ → List ℕ → List ℕ
overwritten s o bs = take o s ++ (bs ++ drop (o + length bs) s)

-- a string cut to the length n, or lengthened to it with zeros
abbrev pub resized : List ℕ → ℕ → List ℕ
resized s n = take n s ++ replicate (n - length s) 0

-- the n bytes from the place o on
abbrev pub stretch : List ℕ → ℕ → ℕ → List ℕ
stretch s o n = take n (drop o s)

-- when a call is not refused
abbrev pub ReadFits : BlobValue → ℕ → ℕ → Type 0
ReadFits v o n = o + n ≤ length v.shown

abbrev pub WriteFits : BlobValue → ℕ → List ℕ → Type 0
WriteFits v o bs = (o ≤ length v.shown) × (o + length bs ≤ v.ceiling)

abbrev pub ResizeFits : BlobValue → ℕ → Type 0
ResizeFits v n = n ≤ v.ceiling

-- a call that is not refused fails: with power down it changes nothing, with power up it takes the power down
abbrev pub Fails : BlobValue → BlobValue → Type 0 → Type 0
Fails v w Cut = ((v.power ≡ false) × (w ≡ v)) ⊎ ((v.power ≡ true) × Cut)

-- power went down in a read or a settle: the bytes stay, and nothing is loosened
pub record PowerLost (v w : BlobValue) : Type 0 where
  pub down : w.power ≡ false
  pub shows : w.shown ≡ v.shown
  pub ceiling : w.ceiling ≡ v.ceiling
  pub firm : (k : ℕ) → v.firm k ≡ true → w.firm k ≡ true
  pub shortest : v.shortest ≤ w.shortest
  pub longest : w.longest ≤ v.longest

-- a read at o into a buffer that held `before` and holds `after`; a read that takes the power down leaves anything there
abbrev pub Read : BlobValue → ℕ → List ℕ → List ℕ → BlobValue → Result (Unit {0}) Fault → Type 0
Read v o before after w (Ok u) =
    ReadFits v o (length before) × (v.power ≡ true) × (w ≡ v) × (after ≡ stretch v.shown o (length before))
Read v o before after w (Err Refused) = (ReadFits v o (length before) → ⊥) × (w ≡ v) × (after ≡ before)
Read v o before after w (Err Failed) =
    ReadFits v o (length before) × Fails v w (PowerLost v w) × (v.power ≡ false → after ≡ before)

-- a write at o leaves the byte at the place k, or writes the one that was there
abbrev pub SameByte : BlobValue → ℕ → List ℕ → ℕ → Type 0
SameByte v o bs k = slice_index (overwritten v.shown o bs) k ≡ slice_index v.shown k

-- what a write keeps of what a cut leaves, carried out or not
pub record WriteKeeps (v w : BlobValue) (o : ℕ) (bs : List ℕ) : Type 0 where
  pub ceiling : w.ceiling ≡ v.ceiling
  pub firm : (k : ℕ) → v.firm k ≡ true → SameByte v o bs k → w.firm k ≡ true
  pub shortest : v.shortest ≤ w.shortest
  pub longest : w.longest ≤ max v.longest (length (overwritten v.shown o bs))

pub record WriteDone (v w : BlobValue) (o : ℕ) (bs : List ℕ) : Type 0 where
  pub fits : WriteFits v o bs
  pub up : v.power ≡ true
  pub up_after : w.power ≡ true
  pub shows : w.shown ≡ overwritten v.shown o bs
  pub keeps : WriteKeeps v w o bs

-- power went down in a write: any bytes in its range, but at firm places that were to get the byte they had
pub record WriteCut (v w : BlobValue) (o : ℕ) (bs : List ℕ) : Type 0 where
  pub down : w.power ≡ false
  pub long : length v.shown ≤ length w.shown
  pub short : length w.shown ≤ length (overwritten v.shown o bs)
  pub outside : (k : ℕ) → (k < o) ⊎ (o + length bs ≤ k) → slice_index w.shown k ≡ slice_index v.shown k
  pub firm_bytes : (k : ℕ) → v.firm k ≡ true → SameByte v o bs k → slice_index w.shown k ≡ slice_index v.shown k
  pub keeps : WriteKeeps v w o bs

abbrev pub Wrote : BlobValue → ℕ → List ℕ → BlobValue → Result (Unit {0}) Fault → Type 0
Wrote v o bs w (Ok u) = WriteDone v w o bs
Wrote v o bs w (Err Refused) = (WriteFits v o bs → ⊥) × (w ≡ v)
Wrote v o bs w (Err Failed) = WriteFits v o bs × Fails v w (WriteCut v w o bs)

-- what a resize to n keeps of what a cut leaves, carried out or not
pub record ResizeKeeps (v w : BlobValue) (n : ℕ) : Type 0 where
  pub ceiling : w.ceiling ≡ v.ceiling
  pub firm : (k : ℕ) → v.firm k ≡ true → k < n → w.firm k ≡ true
  pub shortest : min v.shortest n ≤ w.shortest
  pub longest : w.longest ≤ max v.longest n

pub record ResizeDone (v w : BlobValue) (n : ℕ) : Type 0 where
  pub fits : ResizeFits v n
  pub up : v.power ≡ true
  pub up_after : w.power ≡ true
  pub shows : w.shown ≡ resized v.shown n
  pub keeps : ResizeKeeps v w n

-- power went down in a resize: the old or the new length, and any bytes from the smaller of the two on
pub record ResizeCut (v w : BlobValue) (n : ℕ) : Type 0 where
  pub down : w.power ≡ false
  pub long : (length w.shown ≡ length v.shown) ⊎ (length w.shown ≡ n)
  pub before : (k : ℕ) → k < length v.shown → k < n → slice_index w.shown k ≡ slice_index v.shown k
  pub keeps : ResizeKeeps v w n

abbrev pub Resized : BlobValue → ℕ → BlobValue → Result (Unit {0}) Fault → Type 0
Resized v n w (Ok u) = ResizeDone v w n
Resized v n w (Err Refused) = (ResizeFits v n → ⊥) × (w ≡ v)
Resized v n w (Err Failed) = ResizeFits v n × Fails v w (ResizeCut v w n)

pub record SettleDone (v w : BlobValue) : Type 0 where
  pub up : v.power ≡ true
  pub up_after : w.power ≡ true
  pub shows : w.shown ≡ v.shown
  pub ceiling : w.ceiling ≡ v.ceiling
  pub settled : Settled w

-- a settle is never refused
abbrev pub Settling : BlobValue → BlobValue → Result (Unit {0}) Fault → Type 0
Settling v w (Ok u) = SettleDone v w
Settling v w (Err Refused) = ⊥
Settling v w (Err Failed) = Fails v w (PowerLost v w)

-- a restart shows some bytes that may stand, settled, with power up
pub record Restarted (v w : BlobValue) : Type 0 where
  pub stands : MayStand v w.shown
  pub settled : Settled w
  pub up : w.power ≡ true
  pub ceiling : w.ceiling ≡ v.ceiling
