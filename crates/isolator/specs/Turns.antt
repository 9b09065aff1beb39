-- What turning the isolator at every byte of a shift comes to.
use Rattle.std.specs.Prelude.{◌≡◌, ℕ, ◌+◌, List, [], length, drop, Some, None, Option, MatchOption}
use Rattle.blob.specs.Value.{BlobValue}
use Rattle.blob.specs.Calls.{Restarted}
use Rattle.checks.specs.Crc.{crc32c}
use Rattle.kinds.specs.declared.settle_later.SettleLater.{SettleLater}
use Rattle.kinds.specs.Later.{later}
use Rattle.kinds.specs.Cuts.{Planned}
use Rattle.plan.specs.Open.{open_plan}
use Rattle.writer.specs.Calls.{Done}
use Rattle.lifts.specs.declared.lift.Lift.{Lift}
use Rattle.lifts.specs.declared.store.Pages.{Pages}
use Rattle.isolator.specs.declared.trial.Count.{Count}
use Rattle.isolator.specs.declared.trial.Outcome.{Outcome}
use Rattle.isolator.specs.declared.trial.Progress.{Progress}
use Rattle.lifts.specs.Pages.{Holds}
use Rattle.lifts.specs.Records.{records}
use Rattle.isolator.specs.Sessions.{Session}
use Rattle.isolator.specs.Trials.{Recorded, Judged, worse_of, no_cuts, counted_in}

-- the log of the blob v was opened, which led to the blob w, and the pages of w cover the records of these lifts
pub record Shows (v : BlobValue) (lifts : List Lift) (w : BlobValue) : Type 0 where
  pub opened : Session
  pub opening : Done (open_plan crc32c 96 288 v.shown) 96 v opened.tip opened.log w
  pub pages : Pages
  pub held : Holds 96 w.shown (records lifts) pages

-- the rest of a shift was recorded on a blob of these bytes, and its log then judged as that of the whole shift
pub record WentOn (bytes : List ℕ) (rest shift : List Lift) (o : Outcome) : Type 0 where
  pub before : BlobValue
  pub bytes_before : before.shown ≡ bytes
  pub after : BlobValue
  pub progress : Progress
  pub recorded : Recorded before rest after progress
  pub lifts : List Lift
  pub end : BlobValue
  pub shows : Shows after lifts end
  pub judged : Judged shift lifts (length shift) (length shift) o

-- a blob v was restarted and its log judged, and the shift then went on; the outcome is the worse of the two
pub record CameBack (v : BlobValue) (shift : List Lift) (p : Progress) (o : Outcome) : Type 0 where
  pub restarted : BlobValue
  pub restart : Restarted v restarted
  pub lifts : List Lift
  pub end : BlobValue
  pub shows : Shows restarted lifts end
  pub first : Outcome
  pub judged : Judged shift lifts p.synced p.begun first
  pub second : Outcome
  pub went_on : WentOn end.shown (drop (length lifts) shift) shift second
  pub worse : o ≡ worse_of first second

-- a shift was recorded on a new blob whose power goes down at the cut: there is no outcome where all lifts were synced before the cut, and
-- otherwise that of the restart
pub record Turned (cut : ℕ) (pattern : List ℕ) (shift : List Lift) (o : Option Outcome) : Type 0 where
  pub blob : SettleLater
  pub empty : (later blob).shown ≡ []
  pub planned : Planned blob (Some cut) pattern
  pub after : BlobValue
  pub progress : Progress
  pub recorded : Recorded (later blob) shift after progress
  pub outcome : MatchOption o (progress.synced ≡ length shift) (λ x. CameBack after shift progress x)

-- the cuts below n, one after another, and the count of their outcomes
pub data Turns (pattern : List ℕ) (shift : List Lift) : ℕ → Count → Type 0 where
  none : Turns pattern shift 0 no_cuts
  more : {n : ℕ} {c : Count} {o : Outcome} → Turns pattern shift n c → Turned n pattern shift (Some o) → Turns pattern shift (n + 1) (counted_in c o)

-- every cut was tried up to the one that the shift ends before
pub record TurnedEverywhere (pattern : List ℕ) (shift : List Lift) (c : Count) : Type 0 where
  pub total : ℕ
  pub turns : Turns pattern shift total c
  pub through : Turned total pattern shift None
