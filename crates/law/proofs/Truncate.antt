-- A truncation below the size, after its first sync, keeps what is below n.
use Rattle.std.proofs.Common.{◌≡◌, ℕ, ◌+◌, ◌/◌, ◌%◌, ◌<◌, ◌≤◌, eqb, leb, List, [], ◌∷◌, ◌++◌, length, get_or, take, Some, None, Ok, Err, Option, Result, sym, refl, ap, ◌∙◌, subst, inl, ⊎_elim, arith, length-take, get_or-take}
use Rattle.std.proofs.lemmas.Nat.{mod_below}
use Rattle.std.proofs.lemmas.Bool.{cases_eq, cases_lt, cond_both, cond-false, eqb-true, leb-true, ne_eqb}
use Rattle.checks.specs.Check.{FitsFour}
use Rattle.blob.specs.Calls.{Wrote, overwritten}
use Rattle.blob.specs.Value.{BlobValue, Settled, Sound}
use Rattle.blob.specs.declared.Fault.{Fault}
use Rattle.page.specs.Footer.{other_slot, slot_bytes, two_bytes}
use Rattle.page.specs.Layout.{page_at, start}
use Rattle.page.specs.Verdict.{Judged, active_of, cover, full, partial, rejected, verdict_of}
use Rattle.page.specs.declared.slot.ActiveChecksum.{ActiveChecksum}
use Rattle.page.specs.declared.slot.Slot.{Slot}
use Rattle.paged.specs.Rows.{Carried, Op, ReadStopped, reads, rejects, settles, writes}
use Rattle.paged.specs.declared.refusal.StateRefusal.{StateRefusal}
use Rattle.paged.specs.declared.sync_state.SyncState.TheVariants.{Clean}
use Rattle.plan.specs.State.{WriterState, size}
use Rattle.plan.specs.Truncate.{cut_plan, pages_for, resize_row, resize_shows, shorten_ops, shorten_row, shortened_slot}
use Rattle.law.specs.Events.{Bytes}
use Rattle.law.specs.Log.{Place, byte, gap}
use Rattle.law.proofs.Carrying.{Stage, ran_split, read_stop, reject_stop, stopped_split, two_ran, two_stopped}
use Rattle.law.proofs.Cut.{cut_inside, cut_ran, cut_stopped, even_kept, log_there, page_earlier, slot_guard, tracks_cut}
use Rattle.law.proofs.Guard.{Firm, Guard}
use Rattle.law.proofs.Kept.{read_keeps}
use Rattle.law.proofs.Open.{CutTo}
use Rattle.law.proofs.Places.{other_twice, page_byte, page_long, start_less, start_more}
use Rattle.law.proofs.Put.{page_bytes}
use Rattle.law.proofs.Shorten.{cover3, len2, long3, neat3, same3, slot1, slot3, valid1, valid2, valid3, whole3}
use Rattle.law.proofs.Slots.{Neat, Valid, slot_of, slot_start}
use Rattle.law.proofs.Steps.{Kept, bytes_front, nonzero}
use Rattle.law.proofs.Verdicts.{Told, longest, verdict_told}
use Rattle.law.proofs.Writer.{AllNeat, Counts, Even, Inv, Tracks}

-- the slot that a verdict goes by stands in the page and is valid
by_active : (sum : List ℕ → ℕ) (p : ℕ) (page : List ℕ) (long : length page ≡ p + 12) (x : Judged) (a : ActiveChecksum) → Told sum p page long x
    → active_of x ≡ Some a → (slot_of p page a.slot ≡ a) × Valid sum p page a.slot
unfolding Told
by_active sum p page long rejected a t e = let z : ◌≡◌ {A = ℕ} 0 1 = cc in absurd (omega arith)
by_active sum p page long (partial b part) a t e = let q : b ≡ a = cc in
    subst (λ (y : ActiveChecksum). (slot_of p page y.slot ≡ y) × Valid sum p page y.slot) q (t.0, t.1)
by_active sum p page long (full b part) a t e = let q : b ≡ a = cc in
    subst (λ (y : ActiveChecksum). (slot_of p page y.slot ≡ y) × Valid sum p page y.slot) q (t.0, t.1)

module _ (sum : List ℕ → ℕ) (fits : FitsFour sum) (p : ℕ) (pos : 0 < p) (small : p ≤ 65535) (v : BlobValue) (w : WriterState)
    (log promise : List Place) (i : Inv sum p v w log promise)
    (firm : Firm v) (even : Even w.tip w.flushed) (n : ℕ) (less : n < size p w) (few : (q b : ℕ) → get_or promise q gap ≡ byte b → q < n)
    (odd : 0 < n % p) where
  rp : n % p < p
  rp = mod_below n p pos

  -- the writer that is left, where the page reads as `page` and the slot b is the new one
  abbrev left : List ℕ → Slot → WriterState
  left page b = record {
    capacity = w.capacity;
    page = n / p;
    tip = take (n % p) page;
    flushed = Some (record { slot = b; len = n % p; check = sum (take (n % p) page) });
    durable = Some (record { slot = b; len = n % p; check = sum (take (n % p) page) });
    mark = Clean;
  }

  -- the writes over a blob where the slot a of the page is valid, and covers n % p bytes
  module _ (x : BlobValue) (c : CutTo sum p v x (n / p + 1) promise) (a b : Slot) (ab : other_slot a ≡ b) (ba : other_slot b ≡ a)
      (good : Valid sum p (page_at p x.shown (n / p)) a) (r : n % p ≤ (slot_of p (page_at p x.shown (n / p)) a).len) where
    whole : start p (n / p) + (p + 12) ≤ length x.shown
    whole = omega (arith, c.long, start_more p (n / p))

    are : Bytes (page_at p x.shown (n / p))
    are = page_bytes p x (n / p) c.sound

    abbrev sum_now : ℕ
    sum_now = sum (take (n % p) (page_at p x.shown (n / p)))

    abbrev o1 : ℕ
    o1 = start p (n / p) + slot_start p b

    abbrev o3 : ℕ
    o3 = start p (n / p) + slot_start p a

    abbrev t1 : List ℕ
    t1 = overwritten x.shown o1 (slot_bytes 0 sum_now)

    abbrev t2 : List ℕ
    t2 = overwritten t1 o1 (two_bytes (n % p))

    abbrev t3 : List ℕ
    t3 = overwritten t2 o3 (slot_bytes 0 0)

    g1 : (y : BlobValue) (q : Result (Unit {0}) Fault) → Wrote x o1 (slot_bytes 0 sum_now) y q → Guard sum p y promise
    g1 = slot_guard sum p pos v w log promise i firm even n less few x a c.firm c.guard good r b ab (slot_bytes 0 sum_now) (omega arith)

    g2 : (x1 : BlobValue) → Stage sum p promise t1 x1 → (y : BlobValue) (q : Result (Unit {0}) Fault) → Wrote x1 o1 (two_bytes (n % p)) y q
        → Guard sum p y promise
    g2 x1 s = slot_guard sum p pos v w log promise i firm even n less few x1 a s.settled.firm s.guard
        (subst (λ z. Valid sum p (page_at p z (n / p)) a) (sym s.shows) (valid1 sum fits p small x.shown (n / p) (n % p) a b ab ba whole are odd rp good))
        (subst (λ z. n % p ≤ (slot_of p (page_at p z (n / p)) a).len) (sym s.shows)
        (subst (λ (z : ActiveChecksum). n % p ≤ z.len) (sym (slot1 sum fits p small x.shown (n / p) (n % p) a b ab ba whole are odd rp)) r))
        b ab (two_bytes (n % p)) (omega arith)

    second : (x1 x2 : BlobValue) → Stage sum p promise t1 x1 → Stage sum p promise (overwritten x1.shown o1 (two_bytes (n % p))) x2 → x2.shown ≡ t2
    second x1 x2 s t = t.shows ∙ ap (λ z. overwritten z o1 (two_bytes (n % p))) s.shows

    g3 : (x2 : BlobValue) → Settled x2 → Guard sum p x2 promise → x2.shown ≡ t2 → (y : BlobValue) (q : Result (Unit {0}) Fault)
        → Wrote x2 o3 (slot_bytes 0 0) y q → Guard sum p y promise
    g3 x2 f g e = slot_guard sum p pos v w log promise i firm even n less few x2 b f.firm g
        (subst (λ z. Valid sum p (page_at p z (n / p)) b) (sym e) (valid2 sum fits p small x.shown (n / p) (n % p) a b ab ba whole are odd rp))
        (subst (λ z. n % p ≤ (slot_of p (page_at p z (n / p)) b).len) (sym e)
        (omega (arith, len2 sum fits p small x.shown (n / p) (n % p) a b ab ba whole are odd rp)))
        a ba (slot_bytes 0 0) (omega arith)

    abbrev after_second : List Op
    after_second = writes o3 (slot_bytes 0 0) ∷ settles ∷ []

    abbrev after_first : List Op
    after_first = writes o1 (two_bytes (n % p)) ∷ settles ∷ after_second

    abbrev all_ops : List Op
    all_ops = writes o1 (slot_bytes 0 sum_now) ∷ settles ∷ after_first

    shortened : (u : BlobValue) → Carried x all_ops u (Ok tt) → Stage sum p promise t3 u
    shortened u d =
        let d1 = two_ran sum p promise x o1 (slot_bytes 0 sum_now) c.guard g1 u after_first d in
        let z1 = d1.1.0 in
        let d2 = two_ran sum p promise d1.0 o1 (two_bytes (n % p)) z1.guard (g2 d1.0 z1) u after_second d1.1.1 in
        let z2 = d2.1.0 in
        let e2 = second d1.0 d2.0 d1.1.0 d2.1.0 in
        let d3 = two_ran sum p promise d2.0 o3 (slot_bytes 0 0) z2.guard (g3 d2.0 z2.settled z2.guard e2) u [] d2.1.1 in
        let z3 = d3.1.0 in
        subst (λ y. Stage sum p promise t3 y) (sym d3.1.1)
        (record { sound = z3.sound; settled = z3.settled; guard = z3.guard; shows = z3.shows ∙ ap (λ z. overwritten z o3 (slot_bytes 0 0)) e2 })

    shorten_stopped : (u : BlobValue) (k : StateRefusal) → Carried x all_ops u (Err k) → Sound u × Guard sum p u promise
    shorten_stopped u k d = ⊎_elim (λ y. y)
        (λ d1.
        let z1 = d1.1.0 in
        ⊎_elim (λ y. y)
        (λ d2.
        let z2 = d2.1.0 in
        ⊎_elim (λ y. y) (λ d3. absurd d3.1.1)
        (two_stopped sum p promise d2.0 o3 (slot_bytes 0 0) z2.guard
        (g3 d2.0 z2.settled z2.guard (second d1.0 d2.0 d1.1.0 d2.1.0)) u k [] d2.1.1))
        (two_stopped sum p promise d1.0 o1 (two_bytes (n % p)) z1.guard (g2 d1.0 z1) u k after_second d1.1.1))
        (two_stopped sum p promise x o1 (slot_bytes 0 sum_now) c.guard g1 u k after_first d)

    lasting : length t3 ≡ start p (n / p) + (p + 12)
    lasting = long3 sum fits p small x.shown (n / p) (n % p) a b ab ba whole are odd rp ∙ c.long ∙ start_more p (n / p)

    earlier : (j : ℕ) → j < n / p → page_at p t3 j ≡ page_at p v.shown j
    earlier j h =
        page_earlier p x.shown t3 (n / p) whole (whole3 sum fits p small x.shown (n / p) (n % p) a b ab ba whole are odd rp)
        (same3 sum fits p small x.shown (n / p) (n % p) a b ab ba whole are odd rp) j h
        ∙ c.page j (omega arith)

    shorten_neat : AllNeat sum p v.shown → AllNeat sum p t3
    shorten_neat neat j h = ⊎_elim
        (λ (l : j < n / p). subst (Neat sum p) (sym (earlier j l)) (neat j (page_in j l)))
        (λ (l : n / p ≤ j). ⊎_elim
        (λ (e : j ≡ n / p). subst (λ m. Neat sum p (page_at p t3 m)) (sym e) (neat3 sum fits p small x.shown (n / p) (n % p) a b ab ba whole are odd rp))
        (λ (e : j ≡ n / p → ⊥). absurd (omega (arith, lasting, start_less p (n / p) j (omega arith))))
        (cases_eq j (n / p)))
        (cases_lt j (n / p))
      where
        page_in : (j : ℕ) → j < n / p → start p j + (p + 12) ≤ length v.shown
        page_in j l = omega (arith, start_less p j (n / p) l, cut_inside sum p pos v w log promise i firm even n less few)

    odd_inv : (u : BlobValue) → Stage sum p promise t3 u → Inv sum p u (left (page_at p x.shown (n / p)) b) (take n log) promise
    odd_inv u z =
        let e = z.shows in
        let lp : length (page_at p x.shown (n / p)) ≡ p + 12 = page_long p x.shown (n / p) whole in
        let lt : length (take (n % p) (page_at p x.shown (n / p))) ≡ n % p = length-take (n % p) (page_at p x.shown (n / p)) ∙ omega (arith, lp, rp) in
        let kept = same3 sum fits p small x.shown (n / p) (n % p) a b ab ba whole are odd rp in
        let cov = longest sum p (page_at p x.shown (n / p)) lp a good in
        let there : page_at p x.shown (n / p) ≡ page_at p v.shown (n / p) = c.page (n / p) (omega arith) in
        record {
          sound = z.sound;
          guard = z.guard;
          bytes = bytes_front (n % p) (page_at p x.shown (n / p)) are;
          flushed = subst (λ t. Counts sum p t (n / p) (take (n % p) (page_at p x.shown (n / p)))
              (record { slot = b; len = n % p; check = sum_now })) (sym e) (record {
                whole = sym lasting;
                there = slot3 sum fits p small x.shown (n / p) (n % p) a b ab ba whole are odd rp;
                valid = valid3 sum fits p small x.shown (n / p) (n % p) a b ab ba whole are odd rp;
                most = cover3 sum fits p small x.shown (n / p) (n % p) a b ab ba whole are odd rp;
                short = rp;
                under = omega (arith, lt);
                same = λ k h. kept (start p (n / p) + k) (omega (arith, rp))
                    ∙ sym (get_or-take (n % p) (page_at p x.shown (n / p)) k 0 h ∙ page_byte p x.shown (n / p) k (omega (arith, rp)));
              });
          tracks = subst (λ t. Tracks sum p t (n / p) (take (n % p) (page_at p x.shown (n / p))) (take n log)) (sym e)
              (tracks_cut sum p pos v w log promise i firm even n less few t3 (take (n % p) (page_at p x.shown (n / p))) earlier lt
              (λ k h. log_there sum p pos v w log promise i firm even n less few k h (subst (λ y. k < cover sum y) there (omega (arith, cov, r)))
              ∙ ap byte (sym (get_or-take (n % p) (page_at p x.shown (n / p)) k 0 h ∙ ap (λ y. get_or y k 0) there))));
          firm = inl z.settled.firm;
          settled = λ _. z.settled;
          durable = refl;
        }

  pages : pages_for p n ≡ n / p + 1
  pages = cond-false (eqb (n % p) 0) _ _ (ne_eqb _ _ (λ e. omega arith))

  cut_here : (u : BlobValue) → Carried v (resize_row p n w) u (Ok tt) → CutTo sum p v u (n / p + 1) promise
  cut_here u d = subst (λ m. CutTo sum p v u m promise) pages (cut_ran sum p pos v w log promise i firm even n less few u d).0

  read_stopped : (u m : BlobValue) (k : StateRefusal) → Guard sum p m promise → ReadStopped m (start p (n / p)) (p + 12) u k → Guard sum p u promise
  read_stopped u m k g d = read_stop (λ x. Guard sum p x promise) m u g (start p (n / p)) (p + 12) k
      (λ before after r x. read_keeps sum p m u promise (start p (n / p)) before after r x g) d

  -- the page is read, and given up
  reject_kept : (to : WriterState) → Kept sum p v (record { ops = resize_row p n w ++ (reads (start p (n / p)) (p + 12) ∷ rejects ∷ []); to = to })
      (take n log) promise
  reject_kept to =
      let never : (u : BlobValue) → Carried v (resize_row p n w ++ (reads (start p (n / p)) (p + 12) ∷ rejects ∷ [])) u (Ok tt) → ⊥
      = λ u d. (ran_split v u (resize_row p n w) (reads (start p (n / p)) (p + 12) ∷ rejects ∷ []) d).1.1.1.2.1.1 in
      record {
        ran = λ u d. absurd (never u d);
        stopped = λ u k d. ⊎_elim (λ y. cut_stopped sum p pos v w log promise i firm even n less few u k y)
            (λ y.
            let c = cut_here y.0 y.1.0 in
            ⊎_elim
            (λ z. (z.0, read_stopped u y.0 k c.guard z.1))
            (λ z. ⊎_elim
            (λ q. (q.0, reject_stop (λ x. Guard sum p x promise) z.0 u (subst (λ x. Guard sum p x promise) (sym z.1.1.2) c.guard) k q.1))
            (λ q. absurd q.1.1)
            z.1.2)
            y.1.1)
            (stopped_split v u k (resize_row p n w) (reads (start p (n / p)) (p + 12) ∷ rejects ∷ []) d);
        neat = λ u d. absurd (never u d);
      }

  -- the page is read, and its slot a covers enough
  module _ (a : ActiveChecksum) (enough : n % p ≤ a.len) (page : List ℕ) (reads_as : page ≡ page_at p (resize_shows p n w v.shown) (n / p))
      (by : active_of (verdict_of sum page) ≡ Some a) where
    abbrev shorten_tail : List Op
    shorten_tail = shorten_row p (n / p) a.slot (n % p) (sum (take (n % p) page))

    -- what holds of the blob after the resize
    record Ready (x : BlobValue) : Type 0 where
      pub cut : CutTo sum p v x (n / p + 1) promise
      pub here : page_at p x.shown (n / p) ≡ page
      pub good : Valid sum p (page_at p x.shown (n / p)) a.slot
      pub long : n % p ≤ (slot_of p (page_at p x.shown (n / p)) a.slot).len

    ready : (x : BlobValue) → Carried v (resize_row p n w) x (Ok tt) → Ready x
    ready x d =
        let c = cut_here x d in
        let here : page_at p x.shown (n / p) ≡ page = ap (λ z. page_at p z (n / p))
        (cut_ran sum p pos v w log promise i firm even n less few x d).1 ∙ sym reads_as in
        let long = page_long p x.shown (n / p) (omega (arith, c.long, start_more p (n / p))) in
        let z = by_active sum p (page_at p x.shown (n / p)) long (verdict_of sum (page_at p x.shown (n / p))) a
        (verdict_told sum p (page_at p x.shown (n / p)) long) (ap (λ y. active_of (verdict_of sum y)) here ∙ by) in
        record { cut = c; here = here; good = z.1; long = subst (λ (y : ActiveChecksum). n % p ≤ y.len) (sym z.0) enough }

    run : (x : BlobValue) → Ready x → (u : BlobValue) (r : Result (Unit {0}) StateRefusal) → Carried x shorten_tail u r
        → Carried x (shorten_row p (n / p) a.slot (n % p) (sum (take (n % p) (page_at p x.shown (n / p))))) u r
    run x q u r d = subst (λ y. Carried x (shorten_row p (n / p) a.slot (n % p) (sum (take (n % p) y))) u r) (sym q.here) d

    done : (u : BlobValue) → Carried v (resize_row p n w ++ (reads (start p (n / p)) (p + 12) ∷ shorten_tail)) u (Ok tt)
        → (x : BlobValue) × (Carried v (resize_row p n w) x (Ok tt) × Carried x shorten_tail u (Ok tt))
    done u d =
        let y = ran_split v u (resize_row p n w) (reads (start p (n / p)) (p + 12) ∷ shorten_tail) d in
        let b = y.1.1 in
        (y.0, (y.1.0, subst (λ z. Carried z shorten_tail u (Ok tt)) b.1.1.2 b.1.2))

    shorten_kept : Kept sum p v (record {
      ops = resize_row p n w ++ (reads (start p (n / p)) (p + 12) ∷ shorten_tail);
      to = left page
          (other_slot a.slot);
    }) (take n log) promise
    shorten_kept = record {
      ran = λ u d.
          let y = done u d in
          let q = ready y.0 y.1.0 in
          subst (λ z. Inv sum p u (left z (other_slot a.slot)) (take n log) promise) q.here
          (odd_inv y.0 q.cut a.slot (other_slot a.slot) refl (other_twice a.slot) q.good q.long u
          (shortened y.0 q.cut a.slot (other_slot a.slot) refl (other_twice a.slot) q.good q.long u (run y.0 q u (Ok tt) y.1.1)));
      stopped = λ u k d. ⊎_elim (λ y. cut_stopped sum p pos v w log promise i firm even n less few u k y)
          (λ y.
          let q = ready y.0 y.1.0 in
          let c = q.cut in
          ⊎_elim
          (λ z. (z.0, read_stopped u y.0 k c.guard z.1))
          (λ z. shorten_stopped y.0 q.cut a.slot (other_slot a.slot) refl (other_twice a.slot) q.good q.long u k
          (run y.0 q u (Err k) (subst (λ x. Carried x shorten_tail u (Err k)) z.1.1.2 z.1.2)))
          y.1.1)
          (stopped_split v u k (resize_row p n w) (reads (start p (n / p)) (p + 12) ∷ shorten_tail) d);
      neat = λ u d neat.
          let y = done u d in
          let q = ready y.0 y.1.0 in
          let z = shortened y.0 q.cut a.slot (other_slot a.slot) refl (other_twice a.slot) q.good q.long u
          (run y.0 q u (Ok tt) y.1.1) in
          subst (AllNeat sum p) (sym z.shows) (shorten_neat y.0 q.cut a.slot (other_slot a.slot) refl (other_twice a.slot)
          q.good q.long neat);
    }

  odd_kept : (page : List ℕ) → page ≡ page_at p (resize_shows p n w v.shown) (n / p) → (act : Option ActiveChecksum) → active_of (verdict_of sum page) ≡ act
      → Kept sum p v (record {
        ops = resize_row p n w ++ (reads (start p (n / p)) (p + 12) ∷ shorten_ops sum p (n / p) (n % p) page act);
        to = record {
          capacity = w.capacity;
          page = n / p;
          tip = take (n % p) page;
          flushed = shortened_slot sum
              (n % p) page act;
          durable = shortened_slot sum (n % p) page act;
          mark = Clean;
        };
      }) (take n log) promise
  odd_kept page e None q = reject_kept _
  odd_kept page e (Some a) q = cond_both (leb (n % p) a.len) (shorten_row p (n / p) a.slot (n % p) (sum (take (n % p) page))) (rejects ∷ [])
      (λ ops. Kept sum p v (record { ops = resize_row p n w ++ (reads (start p (n / p)) (p + 12) ∷ ops); to = left page (other_slot a.slot) })
      (take n log) promise)
      (λ l. shorten_kept a (leb-true _ _ l) page e q)
      (λ _. reject_kept (left page (other_slot a.slot)))

pub cut_kept : (sum : List ℕ → ℕ) → FitsFour sum → (p : ℕ) → 0 < p → p ≤ 65535 → (v : BlobValue) (w : WriterState) (log promise : List Place)
    → Inv sum p v w log promise
    → Firm v → Even w.tip w.flushed → (n : ℕ) → n < size p w → ((q b : ℕ) → get_or promise q gap ≡ byte b → q < n)
    → Kept sum p v (cut_plan sum p n w v.shown) (take n log) promise
unfolding cut_plan
cut_kept sum fits p pos small v w log promise i firm even n less few = cond_both (eqb (n % p) 0) _ _ (λ x. Kept sum p v x (take n log) promise)
    (λ e. even_kept sum p pos v w log promise i firm even n less few (eqb-true _ _ e))
    (λ e. odd_kept sum fits p pos small v w log promise i firm even n less few (nonzero (n % p) e)
    (page_at p (resize_shows p n w v.shown) (n / p)) refl (active_of
    (verdict_of sum (page_at p (resize_shows p n w v.shown) (n / p)))) refl)
