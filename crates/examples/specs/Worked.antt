-- Worked examples, with the older units' sum, pages of 4 data bytes and a wish of 8.
use Rattle.std.specs.Prelude.{◌≡◌, ℕ, true, false, List, [], ◌∷◌, ◌++◌, length, replicate}
use Rattle.checks.specs.Older.{older_sum}
use Rattle.blob.specs.Calls.{overwritten}
use Rattle.page.specs.declared.slot.Slot.TheVariants.{Second}
use Rattle.page.specs.declared.slot.ActiveChecksum.{ActiveChecksum}
use Rattle.page.specs.declared.footer.Checksum.{Checksum}
use Rattle.page.specs.Footer.{footer_bytes}
use Rattle.page.specs.Verdict.{partial, rejected, verdict_of}
use Rattle.paged.specs.declared.sync_state.SyncState.TheVariants.{Clean, Dirty}
use Rattle.paged.specs.Rows.{reads, writes, resizes, settles}
use Rattle.plan.specs.State.{WriterState, Plan, with_tip}
use Rattle.plan.specs.Append.{fill, is_direct, append_plan}
use Rattle.plan.specs.Sync.{sync_plan}
use Rattle.plan.specs.Open.{capacity_for, empty_at, open_plan}
use Rattle.plan.specs.Truncate.{behind_sync}

-- data bytes with the footer of two slots
abbrev pub page_with : List ℕ → Checksum → List ℕ
page_with bytes footer = bytes ++ footer_bytes footer

abbrev pub second_of_two : ActiveChecksum
second_of_two = record { slot = Second; len = 2; check = 8 }

-- the writer of an empty blob, and the writer when bytes were appended to it
abbrev pub fresh : WriterState
fresh = empty_at 8 Dirty 0

abbrev pub appended : WriterState → List ℕ → WriterState
appended w bytes = (append_plan older_sum 4 w bytes).to

abbrev pub synced : WriterState → Plan
synced w = sync_plan older_sum 4 w

-- the writer when 1 2 3 were appended and synced
abbrev pub three_synced : WriterState
three_synced = (synced (appended fresh (1 ∷ 2 ∷ 3 ∷ []))).to

-- the page that this leaves
abbrev pub three : List ℕ
three = page_with (1 ∷ 2 ∷ 3 ∷ 0 ∷ []) (record { len1 = 3; check1 = 20; len2 = 0; check2 = 0 })

-- six zeros
abbrev pub no_slot : List ℕ
no_slot = replicate 6 0

-- a writer whose tip has t bytes
abbrev pub with_bytes : ℕ → WriterState
with_bytes t = with_tip fresh (replicate t 7)

pub record WorkedExamples : Type 0 where
  -- a wish of 8 is the capacity 8
  pub capacity : capacity_for 4 8 ≡ 8
  -- an empty blob, append 1 2 3, sync
  pub first_page : (synced (appended fresh (1 ∷ 2 ∷ 3 ∷ []))).ops
      ≡ writes 0 (1 ∷ 2 ∷ 3 ∷ 0 ∷ 0 ∷ 3 ∷ 0 ∷ 0 ∷ 0 ∷ 20 ∷ 0 ∷ 0 ∷ 0 ∷ 0 ∷ 0 ∷ 0 ∷ []) ∷ settles ∷ []
  -- then append 4, sync: the page keeps the slot of the three
  pub grown_page : (synced (appended three_synced (4 ∷ []))).ops
      ≡ writes 0 (1 ∷ 2 ∷ 3 ∷ 4 ∷ 0 ∷ 3 ∷ 0 ∷ 0 ∷ 0 ∷ 20 ∷ 0 ∷ 4 ∷ 0 ∷ 0 ∷ 0 ∷ 40 ∷ []) ∷ settles ∷ []
  -- from the three, truncate to 2: the page is read, and three settled writes leave 1 2 3 0, six zeros, 0 2 0 0 0 8
  pub cut_page : ((synced three_synced).ops ≡ [])
      × ((behind_sync older_sum 4 three_synced 2 three).ops
      ≡ reads 0 16 ∷ writes 10 (0 ∷ 0 ∷ 0 ∷ 0 ∷ 0 ∷ 8 ∷ []) ∷ settles ∷ writes 10 (0 ∷ 2 ∷ []) ∷ settles ∷ writes 4 no_slot ∷ settles ∷ [])
      × (overwritten (overwritten (overwritten three 10 (0 ∷ 0 ∷ 0 ∷ 0 ∷ 0 ∷ 8 ∷ [])) 10 (0 ∷ 2 ∷ [])) 4 no_slot
      ≡ 1 ∷ 2 ∷ 3 ∷ 0 ∷ 0 ∷ 0 ∷ 0 ∷ 0 ∷ 0 ∷ 0 ∷ 0 ∷ 2 ∷ 0 ∷ 0 ∷ 0 ∷ 8 ∷ [])
  -- 5 bytes behind 3 are buffered, and nothing is written
  pub five_buffered : (is_direct 4 8 3 5 ≡ false) × ((append_plan older_sum 4 (with_bytes 3) (replicate 5 9)).ops ≡ [])
  -- 6 bytes behind 3 are direct: a fill of 1, one page, and a tip of 1
  pub six_direct : (is_direct 4 8 3 6 ≡ true) × (fill 4 3 ≡ 1) × ((appended (with_bytes 3) (replicate 6 9)).page ≡ 2) × (length (appended (with_bytes 3) (replicate 6 9)).tip ≡ 1)
  -- 3 bytes behind 8: the tip reaches 11, two pages are flushed, and 3 are left
  pub three_flushed : (is_direct 4 8 8 3 ≡ false) × ((appended (with_bytes 8) (replicate 3 9)).page ≡ 2) × ((appended (with_bytes 8) (replicate 3 9)).tip ≡ replicate 3 9)
  -- 4 bytes behind 8 are direct
  pub four_direct : is_direct 4 8 8 4 ≡ true
  -- two slots of equal length, of which only the second is valid
  pub equal_lengths : verdict_of older_sum (page_with (1 ∷ 2 ∷ 3 ∷ 0 ∷ []) (record { len1 = 2; check1 = 9; len2 = 2; check2 = 8 }))
      ≡ partial second_of_two (1 ∷ 2 ∷ [])
  -- a slot that is longer than the page
  pub too_long : verdict_of older_sum (page_with (1 ∷ 2 ∷ 3 ∷ 0 ∷ []) (record { len1 = 5; check1 = 70; len2 = 0; check2 = 0 })) ≡ rejected
  -- 16 zeros are opened as empty and resized to 0
  pub zeros_opened : ((open_plan older_sum 4 8 (replicate 16 0)).ops ≡ reads 0 16 ∷ resizes 0 ∷ settles ∷ []) × ((open_plan older_sum 4 8 (replicate 16 0)).to ≡ empty_at 8 Clean 0)
