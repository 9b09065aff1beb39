-- A flush and an append keep what holds of a writer.
use Rattle.std.proofs.Common.{◌≡◌, ℕ, zero, suc, ◌+◌, ◌-◌, ◌*◌, ◌/◌, ◌<◌, ◌≤◌, false, cond, eqb, ◌⊎◌, List, [], ◌++◌, map, length, get_or, take, drop, Some, None, Ok, Err, Option, Result, sym, refl, ap, ◌∙◌, subst, inl, inr, ⊎_elim, append_assoc, add-zero, zero-mul, arith, length-append, length-take, get_or-take}
use Rattle.std.proofs.lemmas.Nat.{div-add-mod', mul-add-lt, mul-le}
use Rattle.std.proofs.lemmas.List.{get_or_append_left, get_or-append_right, get_or-drop, get_or-map, get_or_past, length-map, map-append, take-append-drop}
use Rattle.std.proofs.lemmas.Bool.{cases_lt, cond_both, eqb-false, ne_eqb}
use Rattle.checks.specs.Check.{FitsFour}
use Rattle.blob.specs.Calls.{WriteDone, Wrote, overwritten}
use Rattle.blob.specs.Value.{BlobValue, Sound}
use Rattle.blob.specs.declared.Fault.{Fault}
use Rattle.page.specs.Layout.{start}
use Rattle.page.specs.declared.slot.ActiveChecksum.{ActiveChecksum}
use Rattle.paged.specs.Rows.{Carried}
use Rattle.paged.specs.declared.refusal.StateRefusal.{StateRefusal}
use Rattle.paged.specs.declared.sync_state.SyncState.{SyncState}
use Rattle.paged.specs.declared.sync_state.SyncState.TheVariants.{Clean, Dirty}
use Rattle.flush.specs.Pages.{part, physical_pages}
use Rattle.flush.specs.Write.{pages_row}
use Rattle.plan.specs.Append.{append_plan, fill, is_direct, passes}
use Rattle.plan.specs.Flush.{behind, flush_plan, kept, kept_by_mark}
use Rattle.plan.specs.State.{Plan, WriterState, then_plan, with_tip}
use Rattle.law.specs.Events.{Bytes}
use Rattle.law.specs.Log.{Place, byte, gap}
use Rattle.law.proofs.Carrying.{one_stopped, ran_split, stopped_split}
use Rattle.law.proofs.Guard.{Firm, Guard}
use Rattle.law.proofs.Physical.{OlderKept}
use Rattle.law.proofs.Put.{older, put_guard, put_long, put_neat, put_tracks}
use Rattle.law.proofs.Writer.{AllNeat, Counts, Flushed, Inv, Tracks}
use Rattle.law.proofs.Written.{part_long}

-- a plan that keeps the invariant where it is carried out, and the guard where it stops
pub record Kept (sum : List ℕ → ℕ) (p : ℕ) (v : BlobValue) (x : Plan) (log promise : List Place) : Type 0 where
  pub ran : (u : BlobValue) → Carried v x.ops u (Ok tt) → Inv sum p u x.to log promise
  pub stopped : (u : BlobValue) (k : StateRefusal) → Carried v x.ops u (Err k) → Sound u × Guard sum p u promise
  pub neat : (u : BlobValue) → Carried v x.ops u (Ok tt) → AllNeat sum p v.shown → AllNeat sum p u.shown

pub nonzero : (n : ℕ) → eqb n 0 ≡ false → 0 < n
nonzero n e = ⊎_elim (λ y. y) (λ (y : n ≤ 0). absurd (eqb-false n 0 e (omega arith))) (cases_lt 0 n)

-- nothing is done
none_kept : (sum : List ℕ → ℕ) (p : ℕ) (v : BlobValue) (w : WriterState) (log promise : List Place) → Inv sum p v w log promise
    → Kept sum p v (record { ops = []; to = w }) log promise
none_kept sum p v w log promise i = record {
  ran = λ u e. subst (λ y. Inv sum p y w log promise) (sym e) i;
  stopped = λ u k d. absurd d;
  neat = λ u e n. subst (λ y. AllNeat sum p y.shown) (sym e) n;
}

pub both_kept : (sum : List ℕ → ℕ) (p : ℕ) (v : BlobValue) (x : Plan) (f : WriterState → Plan) (log later promise : List Place) → Kept sum p v x log promise
    → ((m : BlobValue) → Inv sum p m x.to log promise → Kept sum p m (f x.to) later promise) → Kept sum p v (then_plan x f) later promise
both_kept sum p v x f log later promise a b = record {
  ran = λ u d. let y = ran_split v u x.ops (f x.to).ops d in (b y.0 (a.ran y.0 y.1.0)).ran u y.1.1;
  stopped = λ u k d. ⊎_elim (λ y. a.stopped u k y) (λ y. (b y.0 (a.ran y.0 y.1.0)).stopped u k y.1.1)
      (stopped_split v u k x.ops (f x.to).ops d);
  neat = λ u d n. let y = ran_split v u x.ops (f x.to).ops d in (b y.0 (a.ran y.0 y.1.0)).neat u y.1.1 (a.neat y.0 y.1.0 n);
}

pub suc_nonzero : (n : ℕ) → eqb (suc n) 0 ≡ false
suc_nonzero n = ne_eqb (suc n) 0 (λ e. omega (arith, e))

-- a writer behind pages
abbrev past_pages : WriterState → ℕ → List ℕ → WriterState
past_pages w n left = record { capacity = w.capacity; page = w.page + n; tip = left; flushed = None; durable = None; mark = Dirty }

behind_some : (w : WriterState) (n : ℕ) (left : List ℕ) → behind w (suc n) left ≡ past_pages w (suc n) left
behind_some w n left =
    ap (λ b. record {
      capacity = w.capacity;
      page = w.page + suc n;
      tip = left;
      flushed = cond b w.flushed None;
      durable = cond b
          w.durable None;
      mark = cond b w.mark Dirty;
    }) (suc_nonzero n)

kept_either : (m : SyncState) (f d : Option ActiveChecksum) → d ≡ f → kept_by_mark m f d ≡ f
kept_either Clean f d e = refl
kept_either Dirty f d e = e

pub kept_flushed : (w : WriterState) → w.durable ≡ w.flushed → kept w ≡ w.flushed
kept_flushed w e = kept_either w.mark w.flushed w.durable e

-- an append to the log and to the tip
tracks_more : (sum : List ℕ → ℕ) (p : ℕ) (s : List ℕ) (c : ℕ) (tip bs : List ℕ) (log : List Place) → Tracks sum p s c tip log
    → Tracks sum p s c (tip ++ bs) (log ++ map byte bs)
tracks_more sum p s c tip bs log t = record {
  long = simp (length-append, length-map) (omega (arith, t.long));
  in_tip = λ k h. ⊎_elim
      (λ l. get_or_append_left log _ gap (c * p + k) (omega (arith, t.long)) ∙ t.in_tip k l ∙ ap byte (sym (get_or_append_left tip bs 0 k l)))
      (λ (l : length tip ≤ k).
      let a : k < length tip + length bs = simp length-append at h in
      get_or-append_right log (map byte bs) (c * p + length tip) (c * p + k) gap t.long (omega arith)
      ∙ get_or-map byte bs (c * p + k - (c * p + length tip)) 0 gap (omega arith)
      ∙ ap (λ n. byte (get_or bs n 0)) (omega arith) ∙ ap byte (sym (get_or-append_right tip bs (length tip) k 0 refl l)))
      (cases_lt k (length tip));
  in_page = λ i j h l. get_or_append_left log _ gap (i * p + j) (omega (arith, t.long, mul-add-lt i p j c h l)) ∙ t.in_page i j h l;
}

counts_more : (sum : List ℕ → ℕ) (p : ℕ) (s : List ℕ) (c : ℕ) (tip bs : List ℕ) (f : Option ActiveChecksum) → Flushed sum p s c tip f
    → Flushed sum p s c (tip ++ bs) f
counts_more sum p s c tip bs None e = e
counts_more sum p s c tip bs (Some a) e = record {
  whole = e.whole;
  there = e.there;
  valid = e.valid;
  most = e.most;
  short = e.short;
  under = simp length-append (omega (arith, e.under));
  same = λ k l. e.same k l ∙ sym (get_or_append_left tip bs 0 k (omega (arith, e.under)));
}

bytes_more : (a b : List ℕ) → Bytes a → Bytes b → Bytes (a ++ b)
bytes_more a b x y k = ⊎_elim
    (λ h. subst (λ n. n < 256) (sym (get_or_append_left a b 0 k h)) (x k))
    (λ h. subst (λ n. n < 256) (sym (get_or-append_right a b (length a) k 0 refl h)) (y (k - length a)))
    (cases_lt k (length a))

pub bytes_drop : (n : ℕ) (a : List ℕ) → Bytes a → Bytes (drop n a)
bytes_drop n a x k = subst (λ m. m < 256) (sym (get_or-drop n a k 0)) (x (n + k))

pub bytes_front : (n : ℕ) (a : List ℕ) → Bytes a → Bytes (take n a)
bytes_front n a x k = ⊎_elim
    (λ h. subst (λ m. m < 256) (sym (get_or-take n a k 0 h)) (x k))
    (λ (h : n ≤ k). subst (λ m. m < 256) (sym (get_or_past (take n a) k 0 (omega (arith, length-take n a)))) (omega arith))
    (cases_lt k n)

pub tip_more : (sum : List ℕ → ℕ) (p : ℕ) (v : BlobValue) (w : WriterState) (bs : List ℕ) (log promise : List Place) → Bytes bs
    → Inv sum p v w log promise → Inv sum p v (with_tip w (w.tip ++ bs)) (log ++ map byte bs) promise
tip_more sum p v w bs log promise are i = record {
  sound = i.sound;
  guard = i.guard;
  bytes = bytes_more w.tip bs i.bytes are;
  flushed = counts_more sum p v.shown w.page w.tip bs w.flushed i.flushed;
  tracks = tracks_more sum p v.shown w.page w.tip bs log i.tracks;
  firm = i.firm;
  settled = i.settled;
  durable = i.durable;
}

pub firm_or : (v : BlobValue) (w : WriterState) → Firm v ⊎ ((w.mark ≡ Dirty) × (w.flushed ≡ None)) → Firm v ⊎ (w.flushed ≡ None)
firm_or v w h = ⊎_elim (λ f. inl f) (λ f. inr f.1) h

pub flushed_counts : (sum : List ℕ → ℕ) (p : ℕ) (s : List ℕ) (c : ℕ) (tip : List ℕ) (f : Option ActiveChecksum) → Flushed sum p s c tip f
    → (a : ActiveChecksum) → f ≡ Some a → Counts sum p s c tip a
flushed_counts sum p s c tip f e a q = subst (λ x. Flushed sum p s c tip x) q e

module _ (sum : List ℕ → ℕ) (fits : FitsFour sum) (p : ℕ) (pos : 0 < p) (small : p ≤ 65535) where
  module _ (v : BlobValue) (w : WriterState) (log promise : List Place) (i : Inv sum p v w log promise) where
    full : (k : ℕ) → k < length w.tip / p → k * p < length w.tip
    full k h = omega (arith, div-add-mod' (length w.tip) p, mul-le (k + 1) p (length w.tip / p) p (omega arith) (omega arith))

    -- an old slot is shorter than a full page
    pub full_older : 0 < length w.tip / p → OlderKept sum (part p w.tip 0) w.flushed
    full_older h = older sum fits p small v w.page w.tip w.flushed i.sound i.flushed
        (λ x q. omega (
          arith,
          (flushed_counts sum p v.shown w.page w.tip w.flushed i.flushed x q).short,
          part_long p
              w.tip 0,
          div-add-mod' (length w.tip) p,
          mul-le 1 p (length w.tip / p) p (omega arith) (omega arith),
        ))

    flush_guard : (n : ℕ) → length w.tip / p ≡ suc n → (u : BlobValue) (r : Result (Unit {0}) Fault)
        → Wrote v (start p w.page) (physical_pages sum p w.tip (kept w) (suc n)) u r → Guard sum p u promise
    flush_guard n e u r d =
        put_guard sum fits p pos small w.tip i.bytes (suc n) (omega arith) (λ k l. full k (omega arith)) v u w.page w.flushed promise r
        i.sound i.flushed (firm_or v w i.firm) (full_older (omega arith))
        (subst (λ x. Wrote v (start p w.page) (physical_pages sum p w.tip x (suc n)) u r) (kept_flushed w i.durable) d) i.guard

    flush_shows : (n : ℕ) (u : BlobValue) → WriteDone v u (start p w.page) (physical_pages sum p w.tip (kept w) (suc n))
        → u.shown ≡ overwritten v.shown (start p w.page) (physical_pages sum p w.tip w.flushed (suc n))
    flush_shows n u d = subst (λ x. u.shown ≡ overwritten v.shown (start p w.page) (physical_pages sum p w.tip x (suc n)))
        (kept_flushed w i.durable) d.shows

    flush_done : (n : ℕ) → length w.tip / p ≡ suc n → (u : BlobValue) → Sound u
        → WriteDone v u (start p w.page) (physical_pages sum p w.tip (kept w) (suc n))
        → Inv sum p u (past_pages w (suc n) (drop (suc n * p) w.tip)) log promise
    flush_done n e u s d =
        let some : 0 < suc n = omega arith in
        let h : (k : ℕ) → k < suc n → k * p < length w.tip = λ k l. full k (omega arith) in
        let shows = flush_shows n u d in
        let o = full_older (omega arith) in
        record {
          sound = s;
          guard = flush_guard n e u (Ok tt) d;
          bytes = bytes_drop (suc n * p) w.tip i.bytes;
          flushed = sym (put_long sum fits p pos small w.tip i.bytes (suc n) some h v.shown u.shown w.page w.flushed i.flushed o shows);
          tracks = put_tracks sum fits p pos small w.tip i.bytes (suc n) some h v.shown u.shown w.page w.flushed
              i.flushed o shows (suc n) log (omega arith) (omega (arith, div-add-mod' (length w.tip) p, ap (λ x. x * p) e)) i.tracks;
          firm = inr (refl, refl);
          settled = λ q. let z : ◌≡◌ {A = ℕ} 0 1 = cc in absurd (omega arith);
          durable = refl;
        }

    flush_none : behind w zero (drop (zero * p) w.tip) ≡ w
    flush_none = ap (λ n. behind w zero (drop n w.tip)) (zero-mul p)
        ∙ ap (λ n. record { capacity = w.capacity; page = n; tip = w.tip; flushed = w.flushed; durable = w.durable; mark = w.mark }) (add-zero w.page)

    -- the pages of a flush, none or some
    flush_pages : (n : ℕ) → length w.tip / p ≡ n
        → Kept sum p v (record { ops = pages_row sum p w.tip (kept w) (start p w.page) n; to = behind w n (drop (n * p) w.tip) }) log promise
    flush_pages zero e = subst (λ x. Kept sum p v (record { ops = []; to = x }) log promise) (sym flush_none) (none_kept sum p v w log promise i)
    flush_pages (suc n) e = record {
      ran = λ u d. subst (λ y. Inv sum p y (behind w (suc n) (drop (suc n * p) w.tip)) log promise) (sym d.1.2)
          (subst (λ x. Inv sum p d.0 x log promise) (sym (behind_some w n (drop (suc n * p) w.tip))) (flush_done n e d.0 d.1.0 d.1.1));
      stopped = λ u k d. one_stopped sum p promise v (start p w.page) (physical_pages sum p w.tip (kept w) (suc n)) i.guard (flush_guard n e) u k d;
      neat = λ u d neat. subst (λ y. AllNeat sum p y.shown) (sym d.1.2)
          (put_neat sum fits p pos small w.tip i.bytes (suc n) (omega arith) (λ k l. full k (omega arith)) v.shown d.0.shown w.page
          w.flushed i.flushed (full_older (omega arith)) (flush_shows n d.0 d.1.1) neat);
    }

    pub flush_kept : Kept sum p v (flush_plan sum p w) log promise
    unfolding flush_plan
    flush_kept = flush_pages (length w.tip / p) refl

  pub append_kept : (v : BlobValue) (w : WriterState) (bs : List ℕ) (log promise : List Place) → Bytes bs → Inv sum p v w log promise
      → Kept sum p v (append_plan sum p w bs) (log ++ map byte bs) promise
  unfolding append_plan
  append_kept v w bs log promise are i =
      let t = tip_more sum p v w bs log promise are i in
      let n = fill p (length w.tip) in
      cond_both (is_direct p w.capacity (length w.tip) (length bs)) _ _ (λ x. Kept sum p v x (log ++ map byte bs) promise)
      (λ _.
      let a = take (fill p (length w.tip)) bs in
      let b = drop (fill p (length w.tip)) bs in
      let x = with_tip w (w.tip ++ take (fill p (length w.tip)) bs) in
      let y = (flush_plan sum p (with_tip w (w.tip ++ take (fill p (length w.tip)) bs))).to in
      let first = flush_kept v x (log ++ map byte a) promise (tip_more sum p v w a log promise (bytes_front n bs are) i) in
      let joined : (log ++ map byte a) ++ map byte b ≡ log ++ map byte bs = append_assoc log (map byte a) (map byte b)
      ∙ ap (λ x. log ++ x) (sym (map-append byte a b) ∙ ap (map byte) (take-append-drop (fill p (length w.tip)) bs)) in
      both_kept sum p v (flush_plan sum p x) (λ m. flush_plan sum p (with_tip m (m.tip ++ b))) (log ++ map byte a) (log ++ map byte bs) promise first
      (λ m j. subst (λ l. Kept sum p m (flush_plan sum p (with_tip y (y.tip ++ b))) l promise) joined
      (flush_kept m (with_tip y (y.tip ++ b)) ((log ++ map byte a) ++ map byte b) promise
      (tip_more sum p m y b (log ++ map byte a) promise (bytes_drop n bs are) j))))
      (λ _. cond_both (passes w.capacity (length w.tip) (length bs)) _ _ (λ x. Kept sum p v x (log ++ map byte bs) promise)
      (λ _. flush_kept v (with_tip w (w.tip ++ bs)) (log ++ map byte bs) promise t)
      (λ _. none_kept sum p v (with_tip w (w.tip ++ bs)) (log ++ map byte bs) promise t))
