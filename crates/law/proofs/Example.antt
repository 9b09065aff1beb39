-- The line that is worked out.
use Rattle.std.proofs.Common.{◌≡◌, ℕ, zero, suc, ◌+◌, ◌<◌, ◌≤◌, Bool, true, false, not, ◌&&◌, ◌||◌, eqb, ltb, List, [], ◌∷◌, length, get_or, Some, None, sym, refl, ◌∙◌, inl, inr, ⊎_elim, arith}
use Rattle.std.proofs.lemmas.List.{get_or_past}
use Rattle.std.proofs.lemmas.Bool.{and_from, and_parts, both_ways, eq-eqb, eqb-false, eqb-true, lt-ltb, ltb-true, not-true, or_cases}
use Rattle.checks.specs.Older.{older_sum}
use Rattle.blob.proofs.Pieces.{over_length}
use Rattle.blob.specs.declared.Fault.TheVariants.{Failed}
use Rattle.blob.specs.Calls.{Restarted, SettleDone, WriteCut, WriteDone, overwritten}
use Rattle.blob.specs.Value.{BlobValue, Settled, Sound}
use Rattle.page.specs.Layout.{page_at, start}
use Rattle.page.specs.Verdict.{cover}
use Rattle.page.specs.declared.slot.ActiveChecksum.{ActiveChecksum}
use Rattle.page.specs.declared.slot.Slot.TheVariants.{First, Second}
use Rattle.paged.specs.declared.sync_state.SyncState.TheVariants.{Clean, Dirty}
use Rattle.flush.specs.Pages.{part, physical_page, physical_pages}
use Rattle.plan.specs.Append.{append_plan}
use Rattle.plan.specs.Flush.{flush_plan}
use Rattle.plan.specs.Open.{empty_at, open_plan, pages_kept, scan_row}
use Rattle.plan.specs.State.{WriterState, with_tip}
use Rattle.plan.specs.Sync.{sync_plan}
use Rattle.plan.specs.Truncate.{behind_sync, cut_plan}
use Rattle.paged.specs.declared.refusal.BlobCall.TheVariants.{Write as write_call}
use Rattle.paged.specs.declared.refusal.StateRefusal.TheVariants.{CallFailed}
use Rattle.law.specs.Events.{Bytes, accepted, append, opening, refused_state, restart, sync, truncate}
use Rattle.law.specs.Example.{Example, four, three, through, torn, two}
use Rattle.law.specs.Law.{begin}
use Rattle.law.specs.Lines.{Step, appends, at, held, none, opens, recovering, restarts, sync_stopped, syncs, then, truncates}
use Rattle.law.specs.Log.{byte, full_rows, opened_log, page_place, page_places, pages_log}

-- bytes that can be looked through
small : List ℕ → Bool
small [] = true
small (b ∷ s) = ltb b 256 && small s

small_bytes : (s : List ℕ) → small s ≡ true → Bytes s
unfolding small
small_bytes [] e k = omega arith
small_bytes (b ∷ s) e zero = ltb-true b 256 (and_parts (ltb b 256) (small s) e).0
small_bytes (b ∷ s) e (suc k) = small_bytes s (and_parts (ltb b 256) (small s) e).1 k

module _ (s : List ℕ) where
  sound : Bytes s → length s ≤ 64 → Sound (through s)
  sound b l = record {
    bytes = b;
    fits = l;
    ceiling_fits = omega arith;
    firm_shown = λ k e. ltb-true k (length s) e;
    firm_below = λ k e. ltb-true k (length s) e;
    ordered = omega arith;
  }

  settled : Settled (through s)
  settled = record { firm = λ k h. lt-ltb k (length s) h; shortest = refl; longest = refl }

  settles : SettleDone (through s) (through s)
  settles = record { up = refl; up_after = refl; shows = refl; ceiling = refl; settled = settled }

  restarted : Restarted (through s) (through s)
  restarted = record { stands = record { long = omega arith; short = omega arith; firm = λ k e. refl }; settled = settled; up = refl; ceiling = refl }

  written : (o : ℕ) (bs : List ℕ) → o ≤ length s → o + length bs ≤ 64 → WriteDone (through s) (through (overwritten s o bs)) o bs
  written o bs h l =
      let n = over_length s o bs h in
      record {
        fits = (h, l);
        up = refl;
        up_after = refl;
        shows = refl;
        keeps = record {
          ceiling = refl;
          firm = λ k e _. lt-ltb k (length (overwritten s o bs)) (omega (arith, ltb-true k (length s) e));
          shortest = omega arith;
          longest = omega arith;
        };
      }

sound_none : Sound (through [])
unfolding small
sound_none = sound [] (small_bytes [] refl) (omega arith)

sound_three : Sound (through three)
unfolding small
sound_three = sound three (small_bytes three refl) (omega arith)

-- the blob between the writes of the truncation
abbrev first : List ℕ
first = 1 ∷ 2 ∷ 3 ∷ 0 ∷ 0 ∷ 3 ∷ 0 ∷ 0 ∷ 0 ∷ 20 ∷ 0 ∷ 0 ∷ 0 ∷ 0 ∷ 0 ∷ 8 ∷ []

abbrev second : List ℕ
second = 1 ∷ 2 ∷ 3 ∷ 0 ∷ 0 ∷ 3 ∷ 0 ∷ 0 ∷ 0 ∷ 20 ∷ 0 ∷ 2 ∷ 0 ∷ 0 ∷ 0 ∷ 8 ∷ []

sound_first : Sound (through first)
unfolding small
sound_first = sound first (small_bytes first refl) (omega arith)

sound_second : Sound (through second)
unfolding small
sound_second = sound second (small_bytes second refl) (omega arith)

sound_two : Sound (through two)
unfolding small
sound_two = sound two (small_bytes two refl) (omega arith)

-- the writer after each call
abbrev opened : WriterState
opened = empty_at 8 Dirty 0

abbrev appended : WriterState
appended = with_tip opened (1 ∷ 2 ∷ 3 ∷ [])

abbrev slotted : List ℕ → ActiveChecksum → WriterState
slotted tip a = record { capacity = 8; page = 0; tip = tip; flushed = Some a; durable = Some a; mark = Clean }

abbrev synced : WriterState
synced = slotted (1 ∷ 2 ∷ 3 ∷ []) (record { slot = First; len = 3; check = 20 })

abbrev shortened : WriterState
shortened = slotted (1 ∷ 2 ∷ []) (record { slot = Second; len = 2; check = 8 })

step_open : Step older_sum 4 (begin (through [])) (opening 8 0) accepted (at (through []) (held recovering opened) false)
unfolding start cover page_at scan_row pages_kept open_plan
step_open = opens {v = through []} {u = through []} {w = None} {wish = 8} {told = 0} 11 16 refl refl

step_append : Step older_sum 4 (at (through []) (held recovering opened) false) (append (1 ∷ 2 ∷ 3 ∷ [])) accepted
    (at (through []) (held recovering appended) false)
unfolding small flush_plan append_plan
step_append = appends {v = through []} {u = through []} {phase = recovering} {w = opened} {m = false} {bytes = 1 ∷ 2 ∷ 3 ∷ []}
    (small_bytes (1 ∷ 2 ∷ 3 ∷ []) refl) refl

step_sync : Step older_sum 4 (at (through []) (held recovering appended) false) sync accepted (at (through three) (held recovering synced) true)
unfolding start part physical_page physical_pages sync_plan
step_sync = syncs {v = through []} {u = through three} {phase = recovering} {w = appended} {m = false}
    (through three, (sound_three, written [] 0 three (omega arith) (omega arith), (through three, (sound_three, settles three, refl))))

step_truncate : Step older_sum 4 (at (through three) (held recovering synced) true) (truncate 2) accepted (at (through two) (held recovering shortened) true)
unfolding start page_at cover part sync_plan cut_plan behind_sync
step_truncate = truncates {v = through three} {u = through two} {w = synced} {to = shortened} {m = true} {n = 2} (
  through three,
  (
    refl,
    (
      through three,
      (
        sound_three,
        (omega arith, refl, refl),
        (
          through first,
          (
            sound_first,
            written three 10 (0 ∷ 0 ∷ 0 ∷ 0 ∷ 0 ∷ 8 ∷ []) (omega arith) (omega arith),
            (
              through first,
              (
                sound_first,
                settles first,
                (
                  through second,
                  (
                    sound_second,
                    written first 10 (0 ∷ 2 ∷ []) (omega arith) (omega arith),
                    (
                      through second,
                      (
                        sound_second,
                        settles second,
                        (
                          through two,
                          (
                            sound_two,
                            written second 4 (0 ∷ 0 ∷ 0 ∷ 0 ∷ 0 ∷ 0 ∷ []) (omega arith) (omega arith),
                            (through two, (sound_two, settles two, refl)),
                          ),
                        ),
                      ),
                    ),
                  ),
                ),
              ),
            ),
          ),
        ),
      ),
    ),
    refl,
  ),
)

step_restart : Step older_sum 4 (at (through two) (held recovering shortened) true) restart accepted (at (through two) None true)
step_restart = restarts {v = through two} {u = through two} {w = held recovering shortened} {m = true} (restarted two)

step_reopen : Step older_sum 4 (at (through two) None true) (opening 8 16) accepted (at (through two) (held recovering (open_plan older_sum 4 8 two).to) false)
unfolding start cover page_at scan_row pages_kept open_plan
step_reopen = opens {v = through two} {u = through two} {w = None} {wish = 8} {told = 16} 11 16 refl (through two, (sound_two, (omega arith, refl, refl), refl))

-- a write that was cut off: at each place the new byte is another, or the old one still stands
untorn : List ℕ → List ℕ → List ℕ → Bool
untorn [] old left = true
untorn (a ∷ new) [] left = true
untorn (a ∷ new) (b ∷ old) [] = false
untorn (a ∷ new) (b ∷ old) (c ∷ left) = (not (eqb a b) || eqb c b) && untorn new old left

untorn_bytes : (new old left : List ℕ) → untorn new old left ≡ true → (k : ℕ) → k < length old → k < length new → get_or new k 0 ≡ get_or old k 0
    → get_or left k 0 ≡ get_or old k 0
unfolding untorn
untorn_bytes [] old left e k h l q = absurd (omega (arith, l))
untorn_bytes (a ∷ new) [] left e k h l q = absurd (omega (arith, h))
untorn_bytes (a ∷ new) (b ∷ old) [] e k h l q = absurd (both_ways false refl e)
untorn_bytes (a ∷ new) (b ∷ old) (c ∷ left) e zero h l q = ⊎_elim
    (λ d. absurd (eqb-false a b (not-true (eqb a b) d) q))
    (λ d. eqb-true c b d)
    (or_cases (not (eqb a b)) (eqb c b) (and_parts (not (eqb a b) || eqb c b) (untorn new old left) e).0)
untorn_bytes (a ∷ new) (b ∷ old) (c ∷ left) e (suc k) h l q = untorn_bytes new old left
    (and_parts (not (eqb a b) || eqb c b) (untorn new old left) e).1 k (omega (arith, h)) (omega (arith, l)) q

abbrev torn_blob : BlobValue
torn_blob = record { shown = torn; ceiling = 64; firm = λ k. ltb k 16 && eqb (get_or four k 0) (get_or three k 0); shortest = 16; longest = 16; power = false }

sound_torn : Sound torn_blob
unfolding small
sound_torn = record {
  bytes = small_bytes torn refl;
  fits = omega arith;
  ceiling_fits = omega arith;
  firm_shown = λ k e. ltb-true k 16 (and_parts (ltb k 16) _ e).0;
  firm_below = λ k e. ltb-true k 16 (and_parts (ltb k 16) _ e).0;
  ordered = omega arith;
}

torn_write : WriteCut (through three) torn_blob 0 four
unfolding untorn
torn_write = record {
  down = refl;
  long = omega arith;
  short = omega arith;
  outside = λ k h. ⊎_elim (λ (l : k < 0). absurd (omega arith)) (λ (l : 16 ≤ k). get_or_past torn k 0 l ∙ sym (get_or_past three k 0 l)) h;
  firm_bytes = λ k f e. untorn_bytes four three torn refl k (ltb-true k 16 f) (ltb-true k 16 f) e;
  keeps = record { ceiling = refl; firm = λ k f e. and_from (ltb k 16) _ f (eq-eqb _ _ e); shortest = omega arith; longest = omega arith };
}

sound_after : Sound (through torn)
unfolding small
sound_after = sound torn (small_bytes torn refl) (omega arith)

abbrev grown : WriterState
grown = with_tip synced (1 ∷ 2 ∷ 3 ∷ 4 ∷ [])

step_grow : Step older_sum 4 (at (through three) (held recovering synced) true) (append (4 ∷ [])) accepted (at (through three) (held recovering grown) false)
unfolding small flush_plan append_plan
step_grow = appends {v = through three} {u = through three} {phase = recovering} {w = synced} {m = true} {bytes = 4 ∷ []} (small_bytes (4 ∷ []) refl) refl

step_torn : Step older_sum 4 (at (through three) (held recovering grown) false) sync (refused_state (CallFailed write_call 0)) (at torn_blob None false)
unfolding start part physical_page physical_pages sync_plan
step_torn = sync_stopped {v = through three} {u = torn_blob} {phase = recovering} {w = grown} {m = false} {k = CallFailed write_call 0}
    (inl (sound_torn, (omega arith, (refl, refl, (Failed, ((omega arith, omega arith), inr (refl, torn_write)))))))

step_after : Step older_sum 4 (at torn_blob None false) restart accepted (at (through torn) None true)
step_after = restarts {v = torn_blob} {u = through torn} {w = None} {m = false}
    (record { stands = record { long = omega arith; short = omega arith; firm = λ k e. refl }; settled = settled torn; up = refl; ceiling = refl })

step_again : Step older_sum 4 (at (through torn) None true) (opening 8 16) accepted (at (through torn) (held recovering (open_plan older_sum 4 8 torn).to) false)
unfolding start cover page_at scan_row pages_kept open_plan
step_again = opens {v = through torn} {u = through torn} {w = None} {wish = 8} {told = 16} 11 16 refl
    (through torn, (sound_after, (omega arith, refl, refl), refl))

pub example : Example
unfolding start page_at cover scan_row pages_kept page_place page_places full_rows pages_log opened_log
example = record {
  head = record { sound = sound_none; settled = settled [] };
  end = at (through two) (held recovering (open_plan older_sum 4 8 two).to) false;
  line = then step_open sound_none (then step_append sound_none (then step_sync sound_three
      (then step_truncate sound_two (then step_restart sound_two (then step_reopen sound_two none)))));
  log = refl;
  promise = refl;
  torn_end = at (through torn) (held recovering (open_plan older_sum 4 8 torn).to) false;
  torn_line = then step_open sound_none (then step_append sound_none
      (then step_sync sound_three (then step_grow sound_three (then step_torn sound_torn
      (then step_after sound_after (then step_again sound_after none))))));
  torn_log = refl;
  holds_can_fail = λ h. let e = h 1 2 refl in let z : ◌≡◌ {A = ℕ} 0 1 = cc in omega arith;
  shows_can_fail = λ h. let e : byte 1 ∷ byte 2 ∷ [] ≡ byte 1 ∷ byte 2 ∷ byte 3 ∷ [] = h.opened in let z : ◌≡◌ {A = ℕ} 0 1 = cc in omega arith;
  altered_can_fail = λ h. let e : 3 ≤ 0 = h.uncovered in omega arith;
  settled_can_fail = λ h. let e = h.shortest in omega arith;
}
