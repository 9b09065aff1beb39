-- A truncation as a whole.
use Rattle.std.proofs.Common.{◌≡◌, ℕ, ◌<◌, ◌≤◌, ltb, List, [], get_or, take, Ok, Err, sym, ◌∙◌, subst, inl, inr, ⊎_elim, arith, length-take, get_or-take, ltb-true}
use Rattle.std.proofs.lemmas.List.{get_or_past, take_all}
use Rattle.std.proofs.lemmas.Bool.{cases_lt, cond_both, ltb-false}
use Rattle.checks.specs.Check.{FitsFour}
use Rattle.blob.specs.Value.{BlobValue, Settled, Sound}
use Rattle.paged.specs.Rows.{Carried}
use Rattle.paged.specs.declared.refusal.StateRefusal.{StateRefusal}
use Rattle.plan.specs.State.{Plan, WriterState, size, then_plan}
use Rattle.plan.specs.Sync.{sync_plan}
use Rattle.plan.specs.Truncate.{Truncation, behind_sync, cut_plan}
use Rattle.law.specs.Log.{Place, byte, gap}
use Rattle.law.proofs.Carrying.{ran_split, stopped_split}
use Rattle.law.proofs.Guard.{Guard}
use Rattle.law.proofs.Standing.{fewer}
use Rattle.law.proofs.Steps.{Kept}
use Rattle.law.proofs.Sync.{Synced, sync_kept}
use Rattle.law.proofs.Truncate.{cut_kept}
use Rattle.law.proofs.Writer.{AllNeat, Even, Inv}

-- the places below n
pub cut_holds : (n : ℕ) (row : List Place) (q b : ℕ) → get_or (take n row) q gap ≡ byte b → (q < n) × (get_or row q gap ≡ byte b)
cut_holds n row q b e = ⊎_elim
    (λ h. (h, sym (get_or-take n row q gap h) ∙ e))
    (λ (h : n ≤ q). let z = sym (get_or_past (take n row) q gap (omega (arith, length-take n row))) ∙ e in let y : ◌≡◌ {A = ℕ} 0 1 = cc in absurd (omega arith))
    (cases_lt q n)

-- one plan, and then a sync
then_synced : (sum : List ℕ → ℕ) (p : ℕ) (v : BlobValue) (x : Plan) (f : WriterState → Plan) (log promise : List Place) → Kept sum p v x log promise
    → ((m : BlobValue) → Inv sum p m x.to log promise → Synced sum p m (f x.to) log promise) → Synced sum p v (then_plan x f) log promise
then_synced sum p v x f log promise a b = record {
  ran = λ u d. let y = ran_split v u x.ops (f x.to).ops d in (b y.0 (a.ran y.0 y.1.0)).ran u y.1.1;
  still = λ u d. let y = ran_split v u x.ops (f x.to).ops d in (b y.0 (a.ran y.0 y.1.0)).still u y.1.1;
  stopped = λ u k d. ⊎_elim (λ y. a.stopped u k y) (λ y. (b y.0 (a.ran y.0 y.1.0)).stopped u k y.1.1)
      (stopped_split v u k x.ops (f x.to).ops d);
  neat = λ u d n. let y = ran_split v u x.ops (f x.to).ops d in (b y.0 (a.ran y.0 y.1.0)).neat u y.1.1 (a.neat y.0 y.1.0 n);
}

module _ (sum : List ℕ → ℕ) (fits : FitsFour sum) (p : ℕ) (pos : 0 < p) (small : p ≤ 65535) (v : BlobValue) (w : WriterState) (n : ℕ)
    (log promise : List Place) (i : Inv sum p v w log promise) where
  first_sync : Synced sum p v (sync_plan sum p w) log promise
  first_sync = sync_kept sum fits p pos small v w log promise i

  -- what follows the first sync, with the promise cut to n
  module _ (mid : BlobValue) (first : Carried v (sync_plan sum p w).ops mid (Ok tt)) where
    after_first : Inv sum p mid (sync_plan sum p w).to log log × (Settled mid × Even (sync_plan sum p w).to.tip (sync_plan sum p w).to.flushed)
    after_first = first_sync.ran mid first

    guard_mid : Guard sum p mid (take n promise)
    guard_mid = fewer sum p mid promise (take n promise) (λ q b e. (cut_holds n promise q b e).1) (first_sync.still mid first)

    inv_mid : Inv sum p mid (sync_plan sum p w).to log (take n promise)
    inv_mid =
        let j = after_first.0 in
        record {
          sound = j.sound;
          guard = guard_mid;
          bytes = j.bytes;
          flushed = j.flushed;
          tracks = j.tracks;
          firm = j.firm;
          settled = j.settled;
          durable = j.durable;
        }

    below : n < size p w → Synced sum p mid (then_plan (cut_plan sum p n (sync_plan sum p w).to mid.shown) (sync_plan sum p)) (take n log) (take n promise)
    below less =
        let to = (sync_plan sum p w).to in
        let j = after_first.0 in
        let rest = after_first.1 in
        let cut = cut_kept sum fits p pos small mid to log (take n promise) inv_mid rest.0.firm rest.1 n
        (omega (arith, i.tracks.long, j.tracks.long)) (λ q b e. (cut_holds n promise q b e).0) in
        then_synced sum p mid (cut_plan sum p n to mid.shown) (sync_plan sum p) (take n log) (take n promise) cut
        (λ m k. sync_kept sum fits p pos small m (cut_plan sum p n to mid.shown).to (take n log) (take n promise) k)

    above : size p w ≤ n → Synced sum p mid (record { ops = []; to = (sync_plan sum p w).to }) (take n log) (take n promise)
    above far =
        let e : take n log ≡ log = take_all n log (omega (arith, i.tracks.long)) in
        let to = (sync_plan sum p w).to in
        record {
          ran = λ u d. subst (λ x. Inv sum p x to (take n log) (take n log) × (Settled x × Even to.tip to.flushed)) (sym d)
              (subst (λ l. Inv sum p mid to l l × (Settled mid × Even to.tip to.flushed)) (sym e) after_first);
          still = λ u d. subst (λ x. Guard sum p x (take n promise)) (sym d) guard_mid;
          stopped = λ u k d. absurd d;
          neat = λ u d q. subst (λ x. AllNeat sum p x.shown) (sym d) q;
        }

    behind_kept : Synced sum p mid (behind_sync sum p w n mid.shown) (take n log) (take n promise)
    unfolding behind_sync
    behind_kept = cond_both (ltb n (size p w)) _ _ (λ x. Synced sum p mid x (take n log) (take n promise)) (λ e. below (ltb-true _ _ e))
        (λ e. above (ltb-false _ _ e))

  pub truncate_ran : (u : BlobValue) (to : WriterState) → Truncation sum p w n v u (Ok to)
      → Inv sum p u to (take n log) (take n log) × (Settled u × Even to.tip to.flushed)
  truncate_ran u to d =
      subst (λ x. Inv sum p u x (take n log) (take n log) × (Settled u × Even x.tip x.flushed)) (sym d.1.2)
      ((behind_kept d.0 d.1.0).ran u d.1.1)

  pub truncate_neat : (u : BlobValue) (to : WriterState) → Truncation sum p w n v u (Ok to) → AllNeat sum p v.shown → AllNeat sum p u.shown
  truncate_neat u to d q = (behind_kept d.0 d.1.0).neat u d.1.1 (first_sync.neat d.0 d.1.0 q)

  pub truncate_stopped : (u : BlobValue) (k : StateRefusal) → Truncation sum p w n v u (Err k) → Sound u × Guard sum p u (take n promise)
  truncate_stopped u k (inl d) = let x = first_sync.stopped u k d in
      (x.0, fewer sum p u promise (take n promise) (λ q b e. (cut_holds n promise q b e).1) x.1)
  truncate_stopped u k (inr d) = (behind_kept d.0 d.1.0).stopped u k d.1.1
