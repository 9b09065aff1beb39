-- What holds between the calls of a line.
use Rattle.std.proofs.Common.{◌≡◌, ℕ, ◌+◌, ◌<◌, ◌≤◌, Bool, true, false, List, [], ◌∷◌, ◌++◌, length, take, Some, None, Ok, Err, Option, Result, sym, refl, ap, subst, inl, inr, ⊎_elim, arith}
use Rattle.std.proofs.lemmas.Bool.{both_ways}
use Rattle.checks.specs.Check.{FitsFour}
use Rattle.blob.specs.Calls.{PowerLost, Read}
use Rattle.blob.specs.Value.{BlobValue, Settled, Sound}
use Rattle.blob.specs.declared.Fault.{Fault}
use Rattle.blob.specs.declared.Fault.TheVariants.{Failed, Refused}
use Rattle.page.specs.Layout.{start}
use Rattle.page.specs.declared.slot.ActiveChecksum.{ActiveChecksum}
use Rattle.paged.specs.PageRead.{PageFetched}
use Rattle.paged.specs.declared.refusal.StateRefusal.{StateRefusal}
use Rattle.paged.specs.declared.refusal.StateRefusal.TheVariants.{CallFailed, CeilingPassed, PagePastEnd, PageRejected}
use Rattle.plan.specs.Open.{capacity_for}
use Rattle.law.specs.Events.{Account, Call, Event, Outcome, accepted, account_after, account_by, account_from, event, opening}
use Rattle.law.specs.Lines.{Line, LineState, LineWriter, Step, append_refused, append_stopped, appends, at, hands_over, none, opening_refused, opening_stopped, opens, page_refused, page_stopped, reads_page, restarts, sync_refused, sync_stopped, syncs, then, truncate_refused, truncate_stopped, truncates}
use Rattle.law.specs.Log.{Holds, opened_log}
use Rattle.law.proofs.Guard.{Firm, Guard}
use Rattle.law.proofs.Kept.{read_keeps}
use Rattle.law.proofs.Open.{open_kept}
use Rattle.law.proofs.Standing.{guarded, standing}
use Rattle.law.proofs.Steps.{append_kept}
use Rattle.law.proofs.Sync.{sync_kept}
use Rattle.law.proofs.Truncated.{truncate_ran}
use Rattle.law.proofs.Writer.{Flushed, Inv, Tracks}
use Rattle.law.proofs.Truncated.{truncate_stopped as truncate_over}

abbrev pub WithWriter : (List ℕ → ℕ) → ℕ → BlobValue → Option LineWriter → Account → Type 0
WithWriter sum p v None a = Unit {0}
WithWriter sum p v (Some w) a = Inv sum p v w.state a.log a.promise

pub record Good (sum : List ℕ → ℕ) (p : ℕ) (v : BlobValue) (w : Option LineWriter) (m : Bool) (a : Account) : Type 0 where
  pub sound : Sound v
  pub guard : Guard sum p v a.promise
  pub writer : WithWriter sum p v w a
  pub settled : m ≡ true → Settled v

-- a call that reads
pub record Same (v u : BlobValue) : Type 0 where
  pub shows : u.shown ≡ v.shown
  pub firm : (k : ℕ) → v.firm k ≡ true → u.firm k ≡ true
  pub settled : Settled v → Settled u

same_none : (v : BlobValue) → Same v v
same_none v = record { shows = refl; firm = λ k f. f; settled = λ z. z }

lost_same : (v u : BlobValue) → Sound u → PowerLost v u → Same v u
lost_same v u s d =
    let l : length u.shown ≡ length v.shown = ap length d.shows in
    record {
      shows = d.shows;
      firm = d.firm;
      settled = λ z. record {
        firm = λ k h. d.firm k (z.firm k (omega arith));
        shortest = omega (arith, z.shortest, z.longest, d.shortest, d.longest, s.ordered);
        longest = omega (arith, z.shortest, z.longest, d.shortest, d.longest, s.ordered);
      };
    }

read_same : (v u : BlobValue) → Sound u → (o : ℕ) (before after : List ℕ) (r : Result (Unit {0}) Fault) → Read v o before after u r → Same v u
read_same v u s o before after (Ok x) d = subst (Same v) (sym d.2) (same_none v)
read_same v u s o before after (Err Refused) d = subst (Same v) (sym d.1) (same_none v)
read_same v u s o before after (Err Failed) d = ⊎_elim (λ h. subst (Same v) (sym h.1) (same_none v)) (λ h. lost_same v u s h.1) d.1

-- a page that is asked for is a read, or leaves the blob alone
fetched : (P : BlobValue → Type 0) (v u : BlobValue) → P v → (sum : List ℕ → ℕ) (p at : ℕ) (before after : List ℕ) (r : Result ActiveChecksum StateRefusal)
    → ((before after : List ℕ) (r : Result (Unit {0}) Fault) → Read v at before after u r → P u) → PageFetched sum p at v before after u r → P u
fetched P v u h sum p at before after (Ok a) f d = subst P (sym d.blob) h
fetched P v u h sum p at before after (Err PageRejected) f d = subst P (sym d.blob) h
fetched P v u h sum p at before after (Err PagePastEnd) f d = subst P (sym d.1) h
fetched P v u h sum p at before after (Err (CallFailed call offset)) f d = f (take (p + 12) before) d.left (Err d.fault) d.read
fetched P v u h sum p at before after (Err CeilingPassed) f d = absurd d

firm_same : (v u : BlobValue) → Same v u → Firm v → Firm u
firm_same v u s f k h = s.firm k (f k (subst (λ x. k < length x) s.shows h))

read_writer : (sum : List ℕ → ℕ) (p : ℕ) (v u : BlobValue) (w : Option LineWriter) (a : Account) → Same v u → Sound u → Guard sum p u a.promise
    → WithWriter sum p v w a → WithWriter sum p u w a
read_writer sum p v u None a s q g i = tt
read_writer sum p v u (Some x) a s q g i =
    let w = x.state in
    record {
      sound = q;
      guard = g;
      bytes = i.bytes;
      flushed = subst (λ y. Flushed sum p y w.page w.tip w.flushed) (sym s.shows) i.flushed;
      tracks = subst (λ y. Tracks sum p y w.page w.tip a.log) (sym s.shows) i.tracks;
      firm = ⊎_elim (λ f. inl (firm_same v u s f)) (λ f. inr f) i.firm;
      settled = λ e. s.settled (i.settled e);
      durable = i.durable;
    }

module _ (sum : List ℕ → ℕ) (fits : FitsFour sum) (p : ℕ) (pos : 0 < p) (small : p ≤ 65535) where
  abbrev pub Fine : LineState → Account → Type 0
  Fine s a = Good sum p s.blob s.writer s.may_open a

  -- where no writer is left, and no opening may come
  over : (u : BlobValue) (a : Account) → Sound u × Guard sum p u a.promise → Fine (at u None false) a
  over u a x = record { sound = x.0; guard = x.1; writer = tt; settled = λ e. absurd (both_ways false refl e) }

  pub fetched_same : (v u : BlobValue) (start : ℕ) (before after : List ℕ) (r : Result ActiveChecksum StateRefusal) → Sound u
      → PageFetched sum p start v before after u r → Same v u
  fetched_same v u start before after r s d = fetched (Same v) v u (same_none v) sum p start before after r (λ b c q. read_same v u s start b c q) d

  -- a page read
  by_page : (v u : BlobValue) (w : Option LineWriter) (m : Bool) (a : Account) (start : ℕ) (before after : List ℕ)
      (r : Result ActiveChecksum StateRefusal) → Good sum p v w m a → Sound u
      → PageFetched sum p start v before after u r → Good sum p u w m a
  by_page v u w m a start before after r g s d =
      let same = fetched_same v u start before after r s d in
      let guard = fetched (λ x. Guard sum p x a.promise) v u g.guard sum p start before after r
      (λ b c q x. read_keeps sum p v u a.promise start b c q x g.guard) d in
      record { sound = s; guard = guard; writer = read_writer sum p v u w a same s guard g.writer; settled = λ e. same.settled (g.settled e) }

  pub step : {s u : LineState} {call : Call} {outcome : Outcome} (a : Account) → Fine s a → Sound u.blob → Step sum p s call outcome u
      → Fine u (account_by sum p a call outcome u.blob.shown)
  step a g q (opens {v} {u} {w} {wish} tip page e d) =
      let x = ((open_kept sum p pos (capacity_for p wish) v a.promise g.sound (g.settled refl).firm g.guard).ran u d).1 in
      record { sound = x.sound; guard = x.guard; writer = x; settled = λ e. absurd (both_ways false refl e) }
  step a g q (opening_refused tip page e) = g
  step a g q (opening_stopped {v} {u} {w} {wish} {told} {k} tip page e d) = over u a
      ((open_kept sum p pos (capacity_for p wish) v a.promise g.sound (g.settled refl).firm g.guard).stopped u k d)
  step a g q (appends {v} {u} {phase} {w} {m} {bytes} are d) =
      let x = (append_kept sum fits p pos small v w bytes a.log a.promise are g.writer).ran u d in
      record { sound = x.sound; guard = x.guard; writer = x; settled = λ e. absurd (both_ways false refl e) }
  step a g q (append_refused tip page e) = g
  step a g q (append_stopped {v} {u} {phase} {w} {m} {bytes} {k} are d) = over u a
      ((append_kept sum fits p pos small v w bytes a.log a.promise are g.writer).stopped u k d)
  step a g q (syncs {v} {u} {phase} {w} {m} d) =
      let x = (sync_kept sum fits p pos small v w a.log a.promise g.writer).ran u d in
      record { sound = x.0.sound; guard = x.0.guard; writer = x.0; settled = λ _. x.1.0 }
  step a g q (sync_refused tip page e) = g
  step a g q (sync_stopped {v} {u} {phase} {w} {m} {k} d) = over u a ((sync_kept sum fits p pos small v w a.log a.promise g.writer).stopped u k d)
  step a g q (truncates {v} {u} {w} {to} {m} {n} d) =
      let x = truncate_ran sum fits p pos small v w n a.log a.promise g.writer u to d in
      record { sound = x.0.sound; guard = x.0.guard; writer = x.0; settled = λ _. x.1.0 }
  step a g q (truncate_refused tip page e) = g
  step a g q (truncate_stopped {v} {u} {w} {m} {n} {k} d) =
      over u (record { log = a.log; promise = take n a.promise }) (truncate_over sum fits p pos small v w n a.log a.promise g.writer u k d)
  step a g q hands_over = record { sound = g.sound; guard = g.guard; writer = g.writer; settled = g.settled }
  step a g q (reads_page {v} {u} {w} {m} {i} before after x d) = by_page v u w m a (start p i) before after (Ok x) g q d.1
  step a g q (page_refused {v} {u} {w} {m} before after d) = subst (λ y. Good sum p y w m a) (sym d.1) g
  step a g q (page_stopped {v} {u} {w} {m} {i} {k} before after d) = by_page v u w m a (start p i) before after (Err k) g q d.1
  step a g q (restarts {v} {u} {w} {m} d) = record {
    sound = q;
    guard = guarded sum p u a.promise q d.settled.firm (standing sum p v a.promise u.shown g.guard d.stands);
    writer = tt;
    settled = λ _. d.settled;
  }

  -- an opening shows what was promised
  here : {wish told : ℕ} {s u : LineState} (a : Account) → Fine s a → Step sum p s (opening wish told) accepted u
      → Holds (opened_log sum p u.blob.shown) a.promise
  here a g (opens {v} {u} {w} {wish} tip page e d) = ((open_kept sum p pos (capacity_for p wish) v a.promise g.sound (g.settled refl).firm
      g.guard).ran u d).0

  pub along : (s end : LineState) (a : Account) (before after : List Event) (wish told : ℕ) (bs : List ℕ) → Fine s a
      → Line sum p s (before ++ (event (opening wish told) accepted bs ∷ after)) end
      → Holds (opened_log sum p bs) (account_from sum p a before).promise
  along s end a [] after wish told bs g (then d q l) = here a g d
  along s end a (e ∷ before) after wish told bs g (then d q l) = along _ end (account_after sum p a e) before after wish told bs (step a g q d) l

  pub to_end : (s end : LineState) (a : Account) (es : List Event) → Fine s a → Line sum p s es end → Fine end (account_from sum p a es)
  to_end s end a [] g none = g
  to_end s end a (e ∷ es) g (then d q l) = to_end _ end (account_after sum p a e) es (step a g q d) l
