-- An opening shows a log that holds the promise, and its writer tracks that log.
use Rattle.std.proofs.Common.{◌≡◌, ℕ, zero, suc, ◌+◌, ◌-◌, ◌*◌, ◌/◌, ◌%◌, ◌<◌, ◌≤◌, cond, eqb, List, [], ◌∷◌, ◌++◌, length, get_or, take, Ok, Err, Result, sym, refl, ap, ◌∙◌, subst, inl, inr, ⊎_elim, arith, length-append, length-take, get_or-take}
use lib.ListN.{length-replicate}
use Rattle.std.proofs.lemmas.Nat.{div-add-mod', div-mul-add, mod_below, mul-add-lt, mul-le}
use Rattle.std.proofs.lemmas.List.{ext_get_or, places}
use Rattle.std.proofs.lemmas.Bool.{cases_Bool, cases_lt, cond_both, cond-false, cond-true, eqb-true, ne_eqb}
use Rattle.blob.specs.Calls.{ResizeDone, Resized, SettleDone, Settling, resized}
use Rattle.blob.specs.Value.{BlobValue, Settled, Sound}
use Rattle.blob.specs.declared.Fault.{Fault}
use Rattle.page.specs.Layout.{page_at, start}
use Rattle.page.specs.Verdict.{Judged, cover, extent, full, partial, rejected, verdict_of}
use Rattle.paged.specs.Rows.{Carried, resizes, settles}
use Rattle.paged.specs.declared.refusal.StateRefusal.{StateRefusal}
use Rattle.paged.specs.declared.sync_state.SyncState.{SyncState}
use Rattle.paged.specs.declared.sync_state.SyncState.TheVariants.{Clean, Dirty}
use Rattle.plan.specs.Open.{by_last, open_plan, opened_writer, pages_kept, scan_row, whole_pages}
use Rattle.plan.specs.State.{Plan, WriterState}
use Rattle.law.specs.Events.{Bytes}
use Rattle.law.specs.Log.{Holds, Place, byte, full_rows, gap, opened_log, page_places, pages_log}
use Rattle.law.proofs.Carrying.{fault_stop, ran_split, read_stop, stopped_split}
use Rattle.law.proofs.Guard.{Firm, Guard}
use Rattle.law.proofs.Kept.{read_keeps, resize_keeps, settle_keeps}
use Rattle.law.proofs.Opening.{kept_most, kept_over, log_in, opened_stands, opening, place_covered, places_long, row_long, whole_page}
use Rattle.law.proofs.Places.{page_byte, page_long, start_less, start_more}
use Rattle.law.proofs.Put.{page_bytes}
use Rattle.law.proofs.Slots.{Neat}
use Rattle.law.proofs.Standing.{guarded, standing_here}
use Rattle.law.proofs.Steps.{bytes_front, nonzero}
use Rattle.law.proofs.Verdicts.{Told, verdict_told}
use Rattle.law.proofs.Writer.{AllNeat, Flushed, Inv, Tracks}
use Rattle.paged.specs.declared.refusal.BlobCall.TheVariants.{Resize as resize_call}
use Rattle.paged.specs.declared.refusal.BlobCall.TheVariants.{Settle as settle_call}

module _ (sum : List ℕ → ℕ) (p : ℕ) (s : List ℕ) where
  pub scan_ran : (v m : BlobValue) (n : ℕ) → Carried v (scan_row sum p s n) m (Ok tt) → m ≡ v
  unfolding scan_row
  scan_ran v m zero d = d
  scan_ran v m (suc n) d =
      let same : d.0 ≡ v = d.1.1.2 in
      let rest : Carried d.0 (cond (eqb (cover sum (page_at p s n)) 0) (scan_row sum p s n) []) m (Ok tt) → m ≡ d.0
      = cond_both (eqb (cover sum (page_at p s n)) 0) (scan_row sum p s n) [] (λ ops. Carried d.0 ops m (Ok tt) → m ≡ d.0)
      (λ _ x. scan_ran d.0 m n x) (λ _ x. x) in
      rest d.1.2 ∙ same

  scan_stopped : (v u : BlobValue) (k : StateRefusal) (promise : List Place) (n : ℕ) → Guard sum p v promise
      → Carried v (scan_row sum p s n) u (Err k) → Sound u × Guard sum p u promise
  unfolding scan_row
  scan_stopped v u k promise zero g d = absurd d
  scan_stopped v u k promise (suc n) g (inl d) = (
    d.0,
    read_stop (λ x. Guard sum p x promise) v u g (start p n) (p + 12) k
        (λ before after r x. read_keeps sum p v u promise (start p n) before after r x g) d.1,
  )
  scan_stopped v u k promise (suc n) g (inr d) =
      let h = subst (λ y. Guard sum p y promise) (sym d.1.1.2) g in
      cond_both (eqb (cover sum (page_at p s n)) 0) (scan_row sum p s n) [] (λ ops. Carried d.0 ops u (Err k) → Sound u × Guard sum p u promise)
      (λ _ x. scan_stopped d.0 u k promise n h x) (λ _ x. absurd x) d.1.2

  -- the last page that is kept isn't rejected
  kept_last : (n m : ℕ) → pages_kept sum p s n ≡ suc m → 0 < cover sum (page_at p s m)
  unfolding pages_kept
  kept_last zero m e = absurd (omega (arith, e))
  kept_last (suc n) m e = ⊎_elim
      (λ z. kept_last n m (sym (cond-true (eqb (cover sum (page_at p s n)) 0) (pages_kept sum p s n) (suc n) z) ∙ e))
      (λ z. let q : n ≡ m = omega (arith, sym (cond-false (eqb (cover sum (page_at p s n)) 0) (pages_kept sum p s n) (suc n) z) ∙ e) in
      subst (λ k. 0 < cover sum (page_at p s k)) q (nonzero (cover sum (page_at p s n)) z))
      (cases_Bool (eqb (cover sum (page_at p s n)) 0))

  -- bytes that end with a page that isn't rejected are opened whole
  pub kept_all : (k : ℕ) → ((m : ℕ) → k ≡ suc m → 0 < cover sum (page_at p s m)) → pages_kept sum p s k ≡ k
  unfolding pages_kept
  kept_all zero h = refl
  kept_all (suc m) h = cond-false (eqb (cover sum (page_at p s m)) 0) _ _ (ne_eqb _ _ (λ e. omega (arith, h m refl, e)))

  pub whole_count : (k : ℕ) → length s ≡ start p k → whole_pages p s ≡ k
  unfolding start
  whole_count k e = ap (λ n. n / (p + 12)) (e ∙ (let z : k * (p + 12) ≡ k * (p + 12) + 0 = omega arith in z)) ∙ div-mul-add k (p + 12) 0 (omega arith)

  pub opened_whole : (k : ℕ) → length s ≡ start p k → ((m : ℕ) → k ≡ suc m → 0 < cover sum (page_at p s m)) → opened_log sum p s ≡ pages_log sum p s k
  unfolding opened_log
  opened_whole k e h = ap (λ n. pages_log sum p s (pages_kept sum p s n)) (whole_count k e) ∙ ap (pages_log sum p s) (kept_all k h)

  pub log_long : (m : ℕ) → length (pages_log sum p s (suc m)) ≡ m * p + cover sum (page_at p s m)
  unfolding pages_log
  log_long m = length-append (full_rows sum p s m) _ ∙ omega (arith, row_long sum p s m, places_long sum (page_at p s m) (cover sum (page_at p s m)))

module _ (sum : List ℕ → ℕ) (p : ℕ) (capacity : ℕ) (mark : SyncState) (s : List ℕ) (are : (m : ℕ) → Bytes (page_at p s m)) where
  -- the writer that an opening makes, where the bytes end with the last page kept
  pub record Made (w : WriterState) (log : List Place) : Type 0 where
    pub bytes : Bytes w.tip
    pub flushed : Flushed sum p s w.page w.tip w.flushed
    pub tracks : Tracks sum p s w.page w.tip log
    pub durable : w.durable ≡ w.flushed
    pub marked : w.mark ≡ mark

  no_bytes : Bytes []
  no_bytes k = omega arith

  module _ (m : ℕ) (e : length s ≡ start p (m + 1)) (some : 0 < cover sum (page_at p s m)) where
    whole : start p m + (p + 12) ≡ length s
    whole = sym (e ∙ start_more p m)

    long : length (page_at p s m) ≡ p + 12
    long = page_long p s m (omega (arith, whole))

    by_verdict : (x : Judged) → verdict_of sum (page_at p s m) ≡ x → Told sum p (page_at p s m) long x
        → Made (by_last capacity mark m x) (pages_log sum p s (suc m))
    unfolding Told cover
    by_verdict rejected q t = absurd (omega (arith, ap extent q, some))
    by_verdict (partial a part) q t =
        let c : cover sum (page_at p s m) ≡ a.len = ap extent q in
        let n : length part ≡ a.len = ap length t.3 ∙ length-take a.len (page_at p s m) ∙ omega (arith, long, t.2) in
        let at : (k : ℕ) → k < a.len → get_or part k 0 ≡ get_or (page_at p s m) k 0 = λ k y. ap (λ z. get_or z k 0) t.3
        ∙ get_or-take a.len (page_at p s m) k 0 y in
        record {
          bytes = subst Bytes (sym t.3) (bytes_front a.len (page_at p s m) (are m));
          flushed = record {
            whole = whole;
            there = t.0;
            valid = t.1;
            most = c;
            short = t.2;
            under = omega (arith, n);
            same = λ k y. sym (page_byte p s m k (omega (arith, t.2))) ∙ sym (at k y);
          };
          tracks = record {
            long = log_long sum p s m ∙ omega (arith, c, n);
            in_tip = λ k y.
                let z : k < a.len = omega (arith, n) in
                log_in sum p s (suc m) m k (omega arith) (omega (arith, t.2)) ∙ place_covered sum (page_at p s m) k (omega (arith, c)) ∙ ap byte (sym (at k z));
            in_page = λ i j y z. log_in sum p s (suc m) i j (omega arith) z;
          };
          durable = refl;
          marked = refl;
        }
    by_verdict (full a part) q t =
        let c : cover sum (page_at p s m) ≡ a.len = ap extent q in
        record {
          bytes = no_bytes;
          flushed = ap (start p) (omega arith) ∙ sym e;
          tracks = record {
            long = log_long sum p s m ∙ omega (arith, c, t.2);
            in_tip = λ k y. absurd (omega (arith, y));
            in_page = λ i j y z. log_in sum p s (suc m) i j y z;
          };
          durable = refl;
          marked = refl;
        }

  pub made : (k : ℕ) → length s ≡ start p k → ((m : ℕ) → k ≡ suc m → 0 < cover sum (page_at p s m))
      → Made (opened_writer sum p capacity mark s k) (pages_log sum p s k)
  unfolding pages_log
  made zero e h = record {
    bytes = no_bytes;
    flushed = sym e;
    tracks = record { long = omega arith; in_tip = λ k y. absurd (omega (arith, y)); in_page = λ i j y z. absurd (omega (arith, y)) };
    durable = refl;
    marked = refl;
  }
  made (suc m) e h = let e = e ∙ ap (start p) (omega arith) in by_verdict m e (h m refl) (verdict_of sum (page_at p s m)) refl
      (verdict_told sum p (page_at p s m) (long m e (h m refl)))

-- logs of the same pages
rows_same : (sum : List ℕ → ℕ) (p : ℕ) (s t : List ℕ) (k : ℕ) → ((m : ℕ) → m < k → page_at p t m ≡ page_at p s m) → full_rows sum p t k ≡ full_rows sum p s k
unfolding full_rows
rows_same sum p s t zero h = refl
rows_same sum p s t (suc k) h = ap (λ x. x ++ page_places sum (page_at p t k) p) (rows_same sum p s t k (λ m l. h m (omega arith)))
    ∙ ap (λ x. full_rows sum p s k ++ page_places sum x p) (h k (omega arith))

log_same : (sum : List ℕ → ℕ) (p : ℕ) (s t : List ℕ) (k : ℕ) → ((m : ℕ) → m < k → page_at p t m ≡ page_at p s m) → pages_log sum p t k ≡ pages_log sum p s k
unfolding pages_log
log_same sum p s t zero h = refl
log_same sum p s t (suc k) h = ap (λ x. x ++ page_places sum (page_at p t k) (cover sum (page_at p t k)))
    (rows_same sum p s t k (λ m l. h m (omega arith))) ∙ ap (λ x. full_rows sum p s k ++ page_places sum x (cover sum x)) (h k (omega arith))

at_same : (sum : List ℕ → ℕ) (p capacity : ℕ) (mark : SyncState) (s t : List ℕ) (k : ℕ) → ((m : ℕ) → m < k → page_at p t m ≡ page_at p s m)
    → opened_writer sum p capacity mark t k ≡ opened_writer sum p capacity mark s k
at_same sum p capacity mark s t zero h = refl
at_same sum p capacity mark s t (suc m) h = ap (λ x. by_last capacity mark m (verdict_of sum x)) (h m (omega arith))

-- the bytes below the pages that are kept
module _ (p : ℕ) (s : List ℕ) (k : ℕ) (fits : start p k ≤ length s) where
  pub cut_long : length (resized s (start p k)) ≡ start p k
  cut_long = length-append (take (start p k) s) _ ∙ omega (arith, length-take (start p k) s, length-replicate {A = ℕ} (start p k - length s) 0)

  pub cut_page : (m : ℕ) → m < k → page_at p (resized s (start p k)) m ≡ page_at p s m
  cut_page m h =
      let a = start_less p m k h in
      let x = page_long p (resized s (start p k)) m (omega (arith, cut_long)) in
      let y = page_long p s m (omega arith) in
      ext_get_or 0 _ _ (x ∙ sym y) (λ j q. let r : j < p + 12 = omega arith in
      page_byte p (resized s (start p k)) m j r ∙ cut_byte (start p m + j) (omega arith) ∙ sym (page_byte p s m j r))
    where
      cut_byte : (n : ℕ) → n < start p k → get_or (resized s (start p k)) n 0 ≡ get_or s n 0
      cut_byte n h = grind (arith, places)

-- the blob u is v cut to m whole pages
pub record CutTo (sum : List ℕ → ℕ) (p : ℕ) (v u : BlobValue) (m : ℕ) (promise : List Place) : Type 0 where
  pub sound : Sound u
  pub firm : Firm u
  pub guard : Guard sum p u promise
  pub long : length u.shown ≡ start p m
  pub page : (i : ℕ) → i < m → page_at p u.shown i ≡ page_at p v.shown i

-- what an opening comes to
pub record Opens (sum : List ℕ → ℕ) (p : ℕ) (v : BlobValue) (x : Plan) (promise : List Place) : Type 0 where
  pub ran : (u : BlobValue) → Carried v x.ops u (Ok tt) → Holds (opened_log sum p u.shown) promise × Inv sum p u x.to
      (opened_log sum p u.shown) (opened_log sum p u.shown)
  pub same : (u : BlobValue) → Carried v x.ops u (Ok tt) → opened_log sum p u.shown ≡ opened_log sum p v.shown
  pub stopped : (u : BlobValue) (k : StateRefusal) → Carried v x.ops u (Err k) → Sound u × Guard sum p u promise
  pub neat : (u : BlobValue) → Carried v x.ops u (Ok tt) → AllNeat sum p v.shown → AllNeat sum p u.shown

-- pages that the bytes behind a cut still have
pub cut_neat : (sum : List ℕ → ℕ) (p : ℕ) (s t : List ℕ) (k : ℕ) → length t ≡ start p k → start p k ≤ length s
    → ((m : ℕ) → m < k → page_at p t m ≡ page_at p s m) → AllNeat sum p s → AllNeat sum p t
cut_neat sum p s t k e f same n i h = ⊎_elim
    (λ l. subst (Neat sum p) (sym (same i l)) (n i (omega (arith, start_less p i k l))))
    (λ (l : k ≤ i). absurd (⊎_elim (λ (m : k < i). omega (arith, start_less p k i m))
    (λ (m : i ≤ k). let j : i ≡ k = omega arith in omega (arith, ap (start p) j)) (cases_lt k i)))
    (cases_lt i k)

module _ (sum : List ℕ → ℕ) (p : ℕ) (pos : 0 < p) (capacity : ℕ) (v : BlobValue) (promise : List Place) (sound : Sound v) (firm : Firm v)
    (guard : Guard sum p v promise) where
  -- how many pages are kept
  abbrev all : ℕ
  all = whole_pages p v.shown

  abbrev many : ℕ
  many = pages_kept sum p v.shown all

  -- the last page, and all of the promise, lie in the pages that are kept
  last : (m : ℕ) → many ≡ suc m → 0 < cover sum (page_at p v.shown m)
  last m e = kept_last sum p v.shown all m e

  few : (q b : ℕ) → get_or promise q gap ≡ byte b → q < many * p
  few q b e =
      let a : q / p * p + q % p ≡ q = div-add-mod' q p in
      let r : q % p < p = mod_below q p pos in
      let x = standing_here sum p v promise guard (q / p) (q % p) b r (ap (λ m. get_or promise m gap) a ∙ e) in
      let c = x.covered in
      let i = kept_over sum p v.shown all (q / p) (whole_page sum p v.shown (q / p) x.whole) (omega arith) in
      omega (arith, mul-add-lt (q / p) p (q % p) many i r)

  inside : start p many ≤ length v.shown
  unfolding start
  inside = omega (arith, mul-le many (p + 12) all (p + 12) (kept_most sum p v.shown all) (omega arith), div-add-mod' (length v.shown) (p + 12))

  -- the writer over bytes that end with the pages that are kept
  opens : (u : BlobValue) (mark : SyncState) → Sound u → Firm u → (mark ≡ Clean → Settled u) → Guard sum p u promise → length u.shown ≡ start p many
      → ((m : ℕ) → m < many → page_at p u.shown m ≡ page_at p v.shown m)
      → Holds (opened_log sum p u.shown) promise × Inv sum p u (opened_writer sum p capacity mark v.shown many) (opened_log sum p u.shown)
      (opened_log sum p u.shown)
  opens u mark s f z g e same =
      let tail : (m : ℕ) → many ≡ suc m → 0 < cover sum (page_at p u.shown m) = λ m q. subst (λ x. 0 < cover sum x)
      (sym (same m (omega (arith, q)))) (last m q) in
      let log : opened_log sum p u.shown ≡ pages_log sum p u.shown many = opened_whole sum p u.shown many e tail in
      let x = made sum p capacity mark u.shown (λ m. page_bytes p u m s) many e tail in (
        opening sum p u.shown promise pos (standing_here sum p u promise g),
        subst (λ w. Inv sum p u w (opened_log sum p u.shown) (opened_log sum p u.shown)) (at_same sum p capacity mark v.shown u.shown many same)
            (record {
              sound = s;
              guard = guarded sum p u (opened_log sum p u.shown) s f (opened_stands sum p u.shown);
              bytes = x.bytes;
              flushed = x.flushed;
              tracks = subst (λ l. Tracks sum p u.shown (opened_writer sum p capacity mark u.shown many).page
                  (opened_writer sum p capacity mark u.shown many).tip l) (sym log) x.tracks;
              firm = inl f;
              settled = λ q. z (sym x.marked ∙ q);
              durable = x.durable;
            }),
      )

  opens_same : (t : List ℕ) → length t ≡ start p many → ((m : ℕ) → m < many → page_at p t m ≡ page_at p v.shown m)
      → opened_log sum p t ≡ opened_log sum p v.shown
  unfolding opened_log
  opens_same t e same =
      opened_whole sum p t many e (λ m q. subst (λ x. 0 < cover sum x) (sym (same m (omega (arith, q)))) (last m q)) ∙ log_same sum p v.shown t many same

  -- nothing is dropped
  whole_opens : start p many ≡ length v.shown → Opens sum p v (record {
    ops = scan_row sum p
        v.shown all;
    to = opened_writer sum p capacity Dirty v.shown many;
  }) promise
  whole_opens e = record {
    ran = λ u d. subst (λ y. Holds (opened_log sum p y.shown) promise × Inv sum p y (opened_writer sum p capacity Dirty v.shown many)
        (opened_log sum p y.shown) (opened_log sum p y.shown))
        (sym (scan_ran sum p v.shown v u all d)) (opens v Dirty sound firm (λ q. let z : ◌≡◌ {A = ℕ} 0 1 = cc in absurd (omega arith)) guard
        (sym e) (λ _ _. refl));
    same = λ u d. ap (λ (y : BlobValue). opened_log sum p y.shown) (scan_ran sum p v.shown v u all d);
    stopped = λ u k d. scan_stopped sum p v.shown v u k promise all guard d;
    neat = λ u d n. subst (λ y. AllNeat sum p y.shown) (sym (scan_ran sum p v.shown v u all d)) n;
  }

  resized_guard : (u : BlobValue) (r : Result (Unit {0}) Fault) → Resized v (start p many) u r → Guard sum p u promise
  resized_guard u r d = resize_keeps sum p v u promise many r few d guard

  dropped : (u : BlobValue) → Carried v (scan_row sum p v.shown all ++ (resizes (start p many) ∷ settles ∷ [])) u (Ok tt)
      → CutTo sum p v u many promise × Settled u
  dropped u d =
      let a = ran_split v u (scan_row sum p v.shown all) _ d in
      let b = subst (λ z. Carried z (resizes (start p many) ∷ settles ∷ []) u (Ok tt)) (scan_ran sum p v.shown v a.0 all a.1.0) a.1.1 in
      let cutting : ResizeDone v b.0 (start p many) = b.1.1 in
      let c = b.1.2 in
      let fixed : SettleDone b.0 c.0 = c.1.1 in
      let shows : c.0.shown ≡ resized v.shown (start p many) = fixed.shows ∙ cutting.shows in
      subst (λ x. CutTo sum p v x many promise × Settled x) (sym c.1.2) (
        record {
          sound = c.1.0;
          firm = fixed.settled.firm;
          guard = settle_keeps sum p b.0 c.0 promise (Ok tt) c.1.0 fixed (resized_guard b.0 (Ok tt) cutting);
          long = ap length shows ∙ cut_long p v.shown many inside;
          page = λ j h. ap (λ z. page_at p z j) shows ∙ cut_page p v.shown many inside j h;
        },
        fixed.settled,
      )

  cut_opens : Opens sum p v (record {
    ops = scan_row sum p v.shown all ++
        (resizes (start p many) ∷ settles ∷ []);
    to = opened_writer sum p capacity Clean v.shown many;
  }) promise
  cut_opens = record {
    ran = λ u d. let x = dropped u d in let y = x.0 in opens u Clean y.sound y.firm (λ _. x.1) y.guard y.long y.page;
    same = λ u d. let x = (dropped u d).0 in opens_same u.shown x.long x.page;
    stopped = λ u k d. ⊎_elim
        (λ z. scan_stopped sum p v.shown v u k promise all guard z)
        (λ z. ⊎_elim
        (λ y. let x = fault_stop resize_call (start p many) (λ fault. Resized v (start p many) u (Err fault)) k y.1 in
        (y.0, resized_guard u (Err x.0) x.1))
        (λ y. ⊎_elim
        (λ x. let q = fault_stop settle_call 0 (λ fault. Settling y.0 u (Err fault)) k x.1 in
        (x.0, settle_keeps sum p y.0 u promise (Err q.0) x.0 q.1 (resized_guard y.0 (Ok tt) y.1.1)))
        (λ x. absurd x.1.2)
        y.1.2)
        (subst (λ x. Carried x (resizes (start p many) ∷ settles ∷ []) u (Err k)) (scan_ran sum p v.shown v z.0 all z.1.0) z.1.1))
        (stopped_split v u k (scan_row sum p v.shown all) (resizes (start p many) ∷ settles ∷ []) d);
    neat = λ u d n. let x = (dropped u d).0 in cut_neat sum p v.shown u.shown many x.long inside x.page n;
  }

  pub open_kept : Opens sum p v (open_plan sum p capacity v.shown) promise
  unfolding open_plan
  open_kept = cond_both (eqb (start p many) (length v.shown)) _ _ (λ x. Opens sum p v x promise) (λ e. whole_opens (eqb-true _ _ e)) (λ _. cut_opens)
