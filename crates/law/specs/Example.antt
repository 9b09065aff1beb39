-- Two lines worked out, so that the law is seen to speak of something: pages of 4 data bytes, with the older units' sum. In both the bytes 1 2 3 are
-- appended and synced.
use Rattle.std.specs.Prelude.{◌≡◌, ℕ, true, false, List, [], ◌∷◌, length, nat_lt}
use Rattle.checks.specs.Older.{older_sum}
use Rattle.blob.specs.Value.{BlobValue, Settled}
use Rattle.paged.specs.declared.refusal.BlobCall.TheVariants.{Write as write_call}
use Rattle.paged.specs.declared.refusal.StateRefusal.TheVariants.{CallFailed}
use Rattle.law.specs.Log.{byte, Holds}
use Rattle.law.specs.Events.{opening, append, sync, truncate, restart, accepted, refused_state, Event, event, account}
use Rattle.law.specs.Lines.{LineState, Line}
use Rattle.law.specs.Law.{Head, begin, ShowsLog, TellsAltered}

-- a blob with room for 64 bytes whose writes settle at once
abbrev pub through : List ℕ → BlobValue
through s =
    record { shown = s; ceiling = 64; firm = λ k. nat_lt k (length s); shortest = length s; longest = length s; power = true }

-- the page with three bytes, with two of them, and with one more
abbrev pub three : List ℕ
three = 1 ∷ 2 ∷ 3 ∷ 0 ∷ 0 ∷ 3 ∷ 0 ∷ 0 ∷ 0 ∷ 20 ∷ 0 ∷ 0 ∷ 0 ∷ 0 ∷ 0 ∷ 0 ∷ []

abbrev pub two : List ℕ
two = 1 ∷ 2 ∷ 3 ∷ 0 ∷ 0 ∷ 0 ∷ 0 ∷ 0 ∷ 0 ∷ 0 ∷ 0 ∷ 2 ∷ 0 ∷ 0 ∷ 0 ∷ 8 ∷ []

abbrev pub four : List ℕ
four = 1 ∷ 2 ∷ 3 ∷ 4 ∷ 0 ∷ 3 ∷ 0 ∷ 0 ∷ 0 ∷ 20 ∷ 0 ∷ 4 ∷ 0 ∷ 0 ∷ 0 ∷ 40 ∷ []

-- a truncation keeps two of the bytes, and after a restart an opening shows these
abbrev pub example_events : List Event
example_events =
    event (opening 8 0) accepted []
    ∷ event (append (1 ∷ 2 ∷ 3 ∷ [])) accepted []
    ∷ event sync accepted three
    ∷ event (truncate 2) accepted two
    ∷ event restart accepted two
    ∷ event (opening 8 16) accepted two
    ∷ []

-- the write of the fourth byte was cut off: the fourth byte, and the last of the new check, are something else
abbrev pub torn : List ℕ
torn = 1 ∷ 2 ∷ 3 ∷ 9 ∷ 0 ∷ 3 ∷ 0 ∷ 0 ∷ 0 ∷ 20 ∷ 0 ∷ 4 ∷ 0 ∷ 0 ∷ 0 ∷ 7 ∷ []

-- a sync of one byte more fails in its write, and after a restart an opening shows the three that were promised
abbrev pub torn_events : List Event
torn_events =
    event (opening 8 0) accepted []
    ∷ event (append (1 ∷ 2 ∷ 3 ∷ [])) accepted []
    ∷ event sync accepted three
    ∷ event (append (4 ∷ [])) accepted three
    ∷ event sync (refused_state (CallFailed write_call 0)) torn
    ∷ event restart accepted torn
    ∷ event (opening 8 16) accepted torn
    ∷ []

pub record Example : Type 0 where
  pub head : Head (through [])
  pub end : LineState
  pub line : Line older_sum 4 (begin (through [])) example_events end
  pub log : (account older_sum 4 example_events).log ≡ byte 1 ∷ byte 2 ∷ []
  pub promise : (account older_sum 4 example_events).promise ≡ byte 1 ∷ byte 2 ∷ []
  pub torn_end : LineState
  pub torn_line : Line older_sum 4 (begin (through [])) torn_events torn_end
  pub torn_log : (account older_sum 4 torn_events).log ≡ byte 1 ∷ byte 2 ∷ byte 3 ∷ []
  -- each part of the law can fail: a promised byte is lost, a byte of the log isn't on the pages, a constant check doesn't tell an altered byte,
  -- and a cut may take what isn't firm
  pub holds_can_fail : Holds (byte 1 ∷ []) (byte 1 ∷ byte 2 ∷ []) → ⊥
  pub shows_can_fail : ShowsLog older_sum 4 two (byte 1 ∷ byte 2 ∷ byte 3 ∷ []) → ⊥
  pub altered_can_fail : TellsAltered (λ s. 0) 4 (1 ∷ 2 ∷ 3 ∷ 0 ∷ 0 ∷ 3 ∷ 0 ∷ 0 ∷ 0 ∷ 0 ∷ 0 ∷ 0 ∷ 0 ∷ 0 ∷ 0 ∷ 0 ∷ []) 0 0 9 → ⊥
  pub settled_can_fail : Settled (record { shown = 1 ∷ []; ceiling = 64; firm = λ k. false; shortest = 0; longest = 1; power = true }) → ⊥
