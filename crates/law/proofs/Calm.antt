-- Calm lines from an empty blob: the log has no gap, every slot has length 0 or is valid, and what is promised is exactly shown.
use Rattle.std.proofs.Common.{◌≡◌, ℕ, ◌+◌, ◌-◌, ◌<◌, ◌≤◌, Bool, true, false, List, [], ◌∷◌, ◌++◌, map, length, get_or, take, Ok, Err, sym, refl, ap, ◌∙◌, subst, ⊎_elim, arith, length-append, length-take, get_or-take}
use Rattle.std.proofs.lemmas.List.{get_or_append_left, get_or-append_right, get_or-map, length-map}
use Rattle.std.proofs.lemmas.Bool.{both_ways, cases_lt}
use Rattle.checks.specs.Check.{FitsFour}
use Rattle.blob.specs.Value.{BlobValue, Settled, Sound}
use Rattle.page.specs.Layout.{start}
use Rattle.plan.specs.Open.{capacity_for}
use Rattle.plan.specs.State.{WriterState}
use Rattle.plan.specs.Sync.{sync_plan}
use Rattle.law.specs.Events.{Account, Call, Event, Outcome, account_after, account_by, account_from}
use Rattle.law.specs.Law.{Calm, CalmCall, ShowsLog}
use Rattle.law.specs.Lines.{Line, LineState, Step, append_refused, append_stopped, appends, hands_over, none, opening_refused, opening_stopped, opens, page_refused, page_stopped, reads_page, restarts, sync_refused, sync_stopped, syncs, then, truncate_refused, truncate_stopped, truncates}
use Rattle.law.specs.Log.{Place, byte, gap}
use Rattle.law.proofs.Lines.{Fine, fetched_same, step}
use Rattle.law.proofs.Open.{open_kept}
use Rattle.law.proofs.Shows.{NoGap, shows_log}
use Rattle.law.proofs.Steps.{append_kept}
use Rattle.law.proofs.Sync.{sync_kept, tip_short}
use Rattle.law.proofs.Truncated.{truncate_neat, truncate_ran}
use Rattle.law.proofs.Writer.{AllNeat, Even, Inv}

gapless_more : (log : List Place) (bs : List ℕ) → NoGap log → NoGap (log ++ map byte bs)
gapless_more log bs g k h = ⊎_elim
    (λ (l : k < length log). let x = g k l in (x.0, get_or_append_left log (map byte bs) gap k l ∙ x.1))
    (λ (l : length log ≤ k).
    let a : k < length log + length (map byte bs) = simp length-append at h in (
      get_or bs (k - length log) 0,
      get_or-append_right log (map byte bs) (length log) k gap refl l
          ∙ get_or-map byte bs (k - length log) 0 gap (omega (arith, length-map bs byte)),
    ))
    (cases_lt k (length log))

gapless_less : (log : List Place) (n : ℕ) → NoGap log → NoGap (take n log)
gapless_less log n g k h =
    let l = length-take n log in
    let x = g k (omega arith) in (x.0, get_or-take n log k gap (omega arith) ∙ x.1)

module _ (sum : List ℕ → ℕ) (fits : FitsFour sum) (p : ℕ) (pos : 0 < p) (small : p ≤ 65535) where
  pub record Whole (s : LineState) (a : Account) : Type 0 where
    pub good : Fine sum fits p pos small s a
    pub gapless : NoGap a.log
    pub neat : AllNeat sum p s.blob.shown
    pub shows : s.may_open ≡ true → ShowsLog sum p s.blob.shown a.log

  -- at rest, with all of the tip on the blob
  at_rest : (u : BlobValue) (w : WriterState) (log : List Place) → NoGap log → Inv sum p u w log log × (Settled u × Even w.tip w.flushed)
      → ShowsLog sum p u.shown log
  at_rest u w log g x =
      let i = x.0 in
      shows_log sum p pos u.shown w.tip log g w.page i.tracks
      (tip_short sum p u.shown w.page w.tip log i.tracks w.flushed pos i.flushed x.1.1).0 w.flushed i.flushed
      x.1.1

  same_shows : (v u : BlobValue) (m : Bool) (a : Account) → u.shown ≡ v.shown → (m ≡ true → ShowsLog sum p v.shown a.log) → m ≡ true
      → ShowsLog sum p u.shown a.log
  same_shows v u m a e f q = subst (λ s. ShowsLog sum p s a.log) (sym e) (f q)

  calm_step : {s u : LineState} {call : Call} {outcome : Outcome} (a : Account) → Whole s a → Sound u.blob → CalmCall call outcome
      → Step sum p s call outcome u
      → Whole u (account_by sum p a call outcome u.blob.shown)
  calm_step a g q c (opens {v} {u} {w} {wish} tip page e d) =
      let h = g.good in
      let x = open_kept sum p pos (capacity_for p wish) v a.promise h.sound (h.settled refl).firm h.guard in
      let same = x.same u d ∙ (g.shows refl).opened in
      record {
        good = step sum fits p pos small a h q (opens {v = v} {u = u} {w = w} {wish = wish} tip page e d);
        gapless = subst NoGap (sym same)
            g.gapless;
        neat = x.neat u d g.neat;
        shows = λ z. absurd (both_ways false refl z);
      }
  calm_step a g q c (opening_refused tip page e) = g
  calm_step a g q c (appends {v} {u} {phase} {w} {m} {bytes} are d) =
      let x = append_kept sum fits p pos small v w bytes a.log a.promise are g.good.writer in
      record {
        good = step sum fits p pos small a g.good q (appends {v = v} {u = u} {phase = phase} {w = w} {m = m} {bytes = bytes} are d);
        gapless
            = gapless_more a.log bytes g.gapless;
        neat = x.neat u d g.neat;
        shows = λ z. absurd (both_ways false refl z);
      }
  calm_step a g q c (append_refused tip page e) = g
  calm_step a g q c (syncs {v} {u} {phase} {w} {m} d) =
      let x = sync_kept sum fits p pos small v w a.log a.promise g.good.writer in
      record {
        good = step sum fits p pos small a g.good q (syncs {v = v} {u = u} {phase = phase} {w = w} {m = m} d);
        gapless = g.gapless;
        neat =
            x.neat u d g.neat;
        shows = λ _. at_rest u (sync_plan sum p w).to a.log g.gapless (x.ran u d);
      }
  calm_step a g q c (sync_refused tip page e) = g
  calm_step a g q c (truncates {v} {u} {w} {to} {m} {n} d) =
      let x = truncate_ran sum fits p pos small v w n a.log a.promise g.good.writer u to d in
      let f = gapless_less a.log n g.gapless in
      record {
        good = step sum fits p pos small a g.good q (truncates {v = v} {u = u} {w = w} {to = to} {m = m} {n = n} d);
        gapless = f;
        neat = truncate_neat sum fits p pos small v w n a.log a.promise g.good.writer u to d g.neat;
        shows = λ _. at_rest u to (take n a.log) f x;
      }
  calm_step a g q c (truncate_refused tip page e) = g
  calm_step a g q c (hands_over {v} {w} {m}) = record {
    good = step sum fits p pos small a g.good q
        (hands_over {v = v} {w = w} {m = m});
    gapless = g.gapless;
    neat = g.neat;
    shows = g.shows;
  }
  calm_step a g q c (reads_page {v} {u} {w} {m} {i} before after x d) =
      let e = (fetched_same sum fits p pos small v u (start p i) before after (Ok x) q d.1).shows in
      record {
        good = step sum fits p pos small a g.good q (reads_page {v = v} {u = u} {w = w} {m = m} {i = i} before after x d);
        gapless = g.gapless;
        neat = subst (AllNeat sum p) (sym e) g.neat;
        shows = same_shows v u m a e g.shows;
      }
  calm_step a g q c (page_refused {v} {u} {w} {m} {i} {k} before after d) =
      let e = ap (λ (x : BlobValue). x.shown) d.1 in
      record {
        good = step sum fits p pos small a g.good q (page_refused {v = v} {u = u} {w = w} {m = m} {i = i} {k = k} before after d);
        gapless =
            g.gapless;
        neat = subst (AllNeat sum p) (sym e) g.neat;
        shows = same_shows v u m a e g.shows;
      }
  calm_step a g q c (page_stopped {v} {u} {w} {m} {i} {k} before after d) =
      let e = (fetched_same sum fits p pos small v u (start p i) before after (Err k) q d.1).shows in
      record {
        good = step sum fits p pos small a g.good q (page_stopped {v = v} {u = u} {w = w} {m = m} {i = i} {k = k} before after d);
        gapless =
            g.gapless;
        neat = subst (AllNeat sum p) (sym e) g.neat;
        shows = same_shows v u m a e g.shows;
      }
  calm_step a g q c (opening_stopped tip page e d) = absurd c
  calm_step a g q c (append_stopped are d) = absurd c
  calm_step a g q c (sync_stopped d) = absurd c
  calm_step a g q c (truncate_stopped d) = absurd c
  calm_step a g q c (restarts d) = absurd c

  pub calm_end : (s end : LineState) (a : Account) (es : List Event) → Whole s a → Calm es → Line sum p s es end → Whole end (account_from sum p a es)
  calm_end s end a [] g c none = g
  calm_end s end a (e ∷ es) g c (then d q l) = calm_end _ end (account_after sum p a e) es (calm_step a g q c.0 d) c.1 l
