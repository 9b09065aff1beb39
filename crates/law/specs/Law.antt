-- The law: what holds of every line of calls over a blob, at every page size, for every check.
use Rattle.std.specs.Prelude.{◌≡◌, ℕ, zero, suc, ◌+◌, ◌*◌, ◌<◌, ◌≤◌, Bool, true, List, [], ◌∷◌, ◌++◌, map, length, take, Some, None, ◌≢◌, slice_index, slice_index_or, slice_set}
use Rattle.checks.specs.Check.{FitsFour, TellsOne}
use Rattle.blob.specs.Value.{BlobValue, Sound, Settled}
use Rattle.blob.specs.Calls.{Restarted}
use Rattle.page.specs.Layout.{start, page_at}
use Rattle.page.specs.Verdict.{rejected, verdict_of, cover}
use Rattle.paged.specs.Rows.{Op, reads, writes, resizes, settles, rejects}
use Rattle.plan.specs.State.{size}
use Rattle.plan.specs.Open.{whole_pages, open_plan}
use Rattle.law.specs.Log.{Place, gap, byte, opened_log, Holds}
use Rattle.law.specs.Events.{Call, opening, append, sync, truncate, hand_over, page_read, restart, Outcome, accepted, refused_input, refused_state, Event, event, account}
use Rattle.law.specs.Lines.{LineWriter, LineState, at, Line}

-- the line begins with a settled blob and no writer, and an opening may come
pub record Head (v : BlobValue) : Type 0 where
  pub sound : Sound v
  pub settled : Settled v

abbrev pub begin : BlobValue → LineState
begin v = at v None true

-- the calls that make the log the promise where they are accepted
abbrev pub Promises : Call → Type 0
Promises sync = Unit {0}
Promises (truncate n) = Unit {0}
Promises (opening wish told) = ⊥
Promises (append bytes) = ⊥
Promises hand_over = ⊥
Promises (page_read i) = ⊥
Promises restart = ⊥

-- a line is calm where it has no restart, and no refusal by the state but a page read's
abbrev pub NoRestart : Call → Type 0
NoRestart restart = ⊥
NoRestart (opening wish told) = Unit {0}
NoRestart (append bytes) = Unit {0}
NoRestart sync = Unit {0}
NoRestart (truncate n) = Unit {0}
NoRestart hand_over = Unit {0}
NoRestart (page_read i) = Unit {0}

abbrev pub IsPageRead : Call → Type 0
IsPageRead (page_read i) = Unit {0}
IsPageRead (opening wish told) = ⊥
IsPageRead (append bytes) = ⊥
IsPageRead sync = ⊥
IsPageRead (truncate n) = ⊥
IsPageRead hand_over = ⊥
IsPageRead restart = ⊥

abbrev pub CalmCall : Call → Outcome → Type 0
CalmCall call accepted = NoRestart call
CalmCall call (refused_input k) = Unit {0}
CalmCall call (refused_state k) = IsPageRead call

abbrev pub Calm : List Event → Type 0
Calm [] = Unit {0}
Calm (e ∷ es) = CalmCall e.call e.outcome × Calm es

-- the covered bytes of the first n pages of s, joined in order
unfoldable pub covered_bytes : (List ℕ → ℕ) → ℕ → List ℕ → ℕ → List ℕ
covered_bytes sum p s zero = []
covered_bytes sum p s (suc n) = covered_bytes sum p s n ++ take (cover sum (page_at p s n)) (page_at p s n)

-- a row of blob calls that only reads
abbrev pub ReadsOnly : List Op → Type 0
ReadsOnly [] = Unit {0}
ReadsOnly (reads o n ∷ ops) = ReadsOnly ops
ReadsOnly (writes o bytes ∷ ops) = ⊥
ReadsOnly (resizes n ∷ ops) = ⊥
ReadsOnly (settles ∷ ops) = ⊥
ReadsOnly (rejects ∷ ops) = ⊥

-- the bytes s are exactly a log
pub record ShowsLog (sum : List ℕ → ℕ) (p : ℕ) (s : List ℕ) (log : List Place) : Type 0 where
  -- whole pages only, none of them Rejected
  pub whole : length s ≡ whole_pages p s * (p + 12)
  pub none_rejected : (i : ℕ) → i < whole_pages p s → verdict_of sum (page_at p s i) ≢ rejected
  -- their covered bytes, joined in order, are the log: it has no gap
  pub joined : map byte (covered_bytes sum p s (whole_pages p s)) ≡ log
  -- an opening sets that log and writes nothing
  pub opened : opened_log sum p s ≡ log
  pub reads_only : (capacity : ℕ) → ReadsOnly (open_plan sum p capacity s).ops

-- with one covered byte altered, the byte j of the page i, its page's verdict covers at most j bytes, and an opening shows no byte there
pub record TellsAltered (sum : List ℕ → ℕ) (p : ℕ) (s : List ℕ) (i j b : ℕ) : Type 0 where
  pub uncovered : cover sum (page_at p (slice_set s (start p i + j) b) i) ≤ j
  pub no_byte : slice_index_or (opened_log sum p (slice_set s (start p i + j) b)) (i * p + j) gap ≡ gap

pub record Law (sum : List ℕ → ℕ) (p : ℕ) : Type 0 where
  -- each accepted opening shows a log that holds the promise of the events before it
  pub openings_hold : (v : BlobValue) → Head v
      → (before after : List Event) (wish told : ℕ) (s : List ℕ) (end : LineState)
      → Line sum p (begin v) (before ++ (event (opening wish told) accepted s ∷ after)) end
      → Holds (opened_log sum p s) (account sum p before).promise
  -- wherever there is a writer, its size is the log's length
  pub size_is_log : (v : BlobValue) → Head v → (es : List Event) (end : LineState) → Line sum p (begin v) es end
      → (w : LineWriter) → end.writer ≡ Some w → size p w.state ≡ length (account sum p es).log
  -- after each accepted sync or truncation the blob is settled, and a restart shows the same bytes
  pub settled_after : (v : BlobValue) → Head v
      → (before : List Event) (call : Call) → Promises call → (s : List ℕ) (end : LineState) → Line sum p (begin v) (before ++ (event call accepted s ∷ [])) end
      → Settled end.blob × ((u : BlobValue) → Restarted end.blob u → u.shown ≡ s)
  -- from an empty blob, up to where the line is calm, each accepted sync or truncation leaves bytes that are exactly the log
  pub shows_log : (v : BlobValue) → Head v → v.shown ≡ []
      → (before after : List Event) → Calm before → (call : Call) → Promises call → (s : List ℕ) (end : LineState)
      → Line sum p (begin v) (before ++ (event call accepted s ∷ after)) end
      → ShowsLog sum p s (account sum p (before ++ (event call accepted s ∷ []))).log
  -- an accepted opening right after that leaves these bytes as they are, and sets that log
  pub reopened : (v : BlobValue) → Head v → v.shown ≡ []
      → (before after : List Event) → Calm before → (call : Call) → Promises call → (s t : List ℕ) (wish told : ℕ) (end : LineState)
      → Line sum p (begin v) (before ++ (event call accepted s ∷ event (opening wish told) accepted t ∷ after)) end
      → (t ≡ s) × (opened_log sum p t ≡ (account sum p (before ++ (event call accepted s ∷ []))).log)
  -- and a covered byte of those that is altered to any other is told
  pub tells_altered : TellsOne sum → (v : BlobValue) → Head v → v.shown ≡ []
      → (before after : List Event) → Calm before → (call : Call) → Promises call → (s : List ℕ) (end : LineState)
      → Line sum p (begin v) (before ++ (event call accepted s ∷ after)) end
      → (i j b : ℕ) → i < whole_pages p s → j < cover sum (page_at p s i) → b < 256 → (b ≢ slice_index s (start p i + j))
      → TellsAltered sum p s i j b

-- for every check whose numbers fit four bytes, and every page size
abbrev pub TheLaw : Type 0
TheLaw = (sum : List ℕ → ℕ) → FitsFour sum → (p : ℕ) → 1 ≤ p → p ≤ 65535 → Law sum p

-- the law at one page size, where the answer is that it holds there
abbrev pub LawAt : ℕ → Bool → Type 0
LawAt p holds = holds ≡ true → (sum : List ℕ → ℕ) → FitsFour sum → Law sum p
