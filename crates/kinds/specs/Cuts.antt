-- When a write of a settle-later blob takes the power down, and what exactly the write and the restart then leave.
use Rattle.std.specs.Prelude.{◌≡◌, ℕ, ◌+◌, ◌-◌, ◌^◌, min, true, false, List, length, take, Some, None, Ok, Err, vec_items, Option, Result, ◌==◌}
use Rattle.blob.specs.declared.Fault.{Fault}
use Rattle.blob.specs.declared.Fault.TheVariants.{Refused, Failed}
use Rattle.blob.specs.Calls.{overwritten}
use Rattle.kinds.specs.declared.settle_later.SettleLater.{SettleLater}
use Rattle.kinds.specs.Held.{held, room}
use Rattle.kinds.specs.Picks.{Picked}

-- how many of n bytes are stored, if some were written already and all of them are to be at most as many as the cut says
abbrev pub stored : Option ℕ → ℕ → ℕ → ℕ
stored None written n = n
stored (Some c) written n = min n (c - written)

-- a new blob goes by this cut and this pattern, and has counted no byte
pub record Planned (b : SettleLater) (c : Option ℕ) (p : List ℕ) : Type 0 where
  pub cut : b.cut ≡ c
  pub pattern : vec_items b.pattern ≡ p
  pub written : b.written ≡ 0

-- the calls that count no byte leave the cut, the count, the pattern and the power as they are, so with power up they do not fail
pub record KeepsPlan (v w : SettleLater) : Type 0 where
  pub cut : w.cut ≡ v.cut
  pub written : w.written ≡ v.written
  pub pattern : w.pattern ≡ v.pattern
  pub power : w.power ≡ v.power

-- a write with power up stores the first bytes, up to the cut, and power stays up where those are all; the count stops at the largest u64
pub record Stored (v : SettleLater) (o : ℕ) (bs : List ℕ) (w : SettleLater) : Type 0 where
  pub working : held w.working ≡ overwritten (held v.working) o (take (stored v.cut v.written (length bs)) bs)
  pub ceiling : room w.working ≡ room v.working
  pub settled : w.settled ≡ v.settled
  pub power : w.power ≡ (stored v.cut v.written (length bs) == length bs)
  pub written : w.written ≡ min (v.written + stored v.cut v.written (length bs)) (2 ^ 64 - 1)
  pub cut : w.cut ≡ v.cut
  pub pattern : w.pattern ≡ v.pattern

abbrev pub Stores : SettleLater → ℕ → List ℕ → SettleLater → Result (Unit {0}) Fault → Type 0
Stores v o bs w (Ok u) = Stored v o bs w
Stores v o bs w (Err Refused) = w ≡ v
Stores v o bs w (Err Failed) = (v.power ≡ false → w ≡ v) × (v.power ≡ true → Stored v o bs w)

-- a restart leaves the picked bytes, shown and settled alike
pub record CameBack (v w : SettleLater) : Type 0 where
  pub working : Picked (vec_items v.pattern) (held v.working) (held v.settled) (held w.working)
  pub settled : held w.settled ≡ held w.working
  pub ceiling : room w.working ≡ room v.working
  pub power : w.power ≡ true
  pub written : w.written ≡ 0
  pub cut : w.cut ≡ v.cut
  pub pattern : w.pattern ≡ v.pattern
