-- A truncation below the size, after its first sync: the resize, and the bytes after a write into one slot of a page.
use Rattle.std.proofs.Common.{◌≡◌, ℕ, ◌+◌, ◌*◌, ◌/◌, ◌%◌, ◌<◌, ◌≤◌, Bool, true, false, cond, eqb, ◌⊎◌, List, [], ◌∷◌, length, get_or, take, Some, None, Ok, Err, Option, Result, sym, refl, ap, ◌∙◌, subst, inl, inr, ⊎_elim, arith, length-take, get_or-take}
use Rattle.std.proofs.lemmas.Nat.{div-add-mod', div_below, mod_below, mul-add-lt}
use Rattle.std.proofs.lemmas.List.{ext_get_or}
use Rattle.std.proofs.lemmas.Bool.{cases_eq, cases_lt, cond_both, cond-true, eqb-true}
use Rattle.blob.proofs.Pieces.{over_in, over_length, over_out}
use Rattle.blob.specs.Calls.{ResizeDone, Resized, Wrote, overwritten, resized}
use Rattle.blob.specs.Value.{BlobValue, Settled, Sound}
use Rattle.blob.specs.declared.Fault.{Fault}
use Rattle.page.specs.Footer.{other_slot}
use Rattle.page.specs.Layout.{page_at, start}
use Rattle.page.specs.Verdict.{cover}
use Rattle.page.specs.declared.slot.ActiveChecksum.{ActiveChecksum}
use Rattle.page.specs.declared.slot.Slot.{Slot}
use Rattle.paged.specs.Rows.{Carried, resizes}
use Rattle.paged.specs.declared.refusal.StateRefusal.{StateRefusal}
use Rattle.paged.specs.declared.sync_state.SyncState.TheVariants.{Clean, Dirty}
use Rattle.plan.specs.State.{WriterState, size}
use Rattle.plan.specs.Truncate.{count_stays, even_plan, page_count, pages_for, resize_mark, resize_row, resize_shows}
use Rattle.law.specs.Log.{Place, byte, gap, page_place}
use Rattle.law.proofs.Carrying.{fault_stop}
use Rattle.law.proofs.Guard.{Backed, Firm, Guard}
use Rattle.law.proofs.Kept.{resize_keeps, slot_behind, slot_within, slots_apart, write_slot}
use Rattle.law.proofs.Open.{CutTo, cut_long, cut_neat, cut_page}
use Rattle.law.proofs.Opening.{place_covered}
use Rattle.law.proofs.Places.{page_byte, page_long, slot_inside, start_less, start_more}
use Rattle.law.proofs.Slots.{Valid, slot_of, slot_start}
use Rattle.law.proofs.Standing.{stood_here}
use Rattle.law.proofs.Steps.{Kept}
use Rattle.law.proofs.Sync.{tip_short}
use Rattle.law.proofs.Writer.{AllNeat, Even, Flushed, Inv, Tracks}
use Rattle.paged.specs.declared.refusal.BlobCall.TheVariants.{Resize as resize_call}

module _ (sum : List ℕ → ℕ) (p : ℕ) (pos : 0 < p) (v : BlobValue) (w : WriterState) (log promise : List Place) (i : Inv sum p v w log promise)
    (firm : Firm v) (even : Even w.tip w.flushed) (n : ℕ) (less : n < size p w) (few : (q b : ℕ) → get_or promise q gap ≡ byte b → q < n) where
  split : n / p * p + n % p ≡ n
  split = div-add-mod' n p

  rest : n % p < p
  rest = mod_below n p pos

  short : (start p w.page ≤ length v.shown) × (length w.tip < p)
  short = tip_short sum p v.shown w.page w.tip log i.tracks w.flushed pos i.flushed even

  in_pages : n / p ≤ w.page
  in_pages = omega (arith, div_below n p (w.page + 1) pos (omega (arith, short.1)))

  counted : (f : Option ActiveChecksum) → Flushed sum p v.shown w.page w.tip f → length v.shown ≡ start p (page_count w.page f)
  counted None e = sym e
  counted (Some a) e = sym e.whole ∙ sym (start_more p w.page)

  at_least : (f : Option ActiveChecksum) → w.page ≤ page_count w.page f
  at_least None = omega arith
  at_least (Some a) = omega arith

  has_slot : (f : Option ActiveChecksum) → Even w.tip f → 0 < length w.tip → page_count w.page f ≡ w.page + 1
  has_slot None e h = absurd (omega (arith, e))
  has_slot (Some x) e h = refl

  -- the last page has bytes of the tip where n lies in it
  tip_over : n / p ≡ w.page → n % p < length w.tip
  tip_over e = let a = subst (λ x. x * p + n % p ≡ n) e split in omega arith

  enough : pages_for p n ≤ page_count w.page w.flushed
  enough = cond_both (eqb (n % p) 0) _ _ (λ x. x ≤ page_count w.page w.flushed)
      (λ _. omega (arith, in_pages, at_least w.flushed))
      (λ _. ⊎_elim
      (λ (e : n / p ≡ w.page). omega (arith, has_slot w.flushed even (omega (arith, tip_over e))))
      (λ (e : n / p ≡ w.page → ⊥). omega (arith, in_pages, at_least w.flushed))
      (cases_eq (n / p) w.page))

  up_to : n ≤ pages_for p n * p
  up_to = cond_both (eqb (n % p) 0) _ _ (λ x. n ≤ x * p) (λ e. omega (arith, split, eqb-true (n % p) 0 e)) (λ _. omega (arith, split, rest))

  start_up : (a b : ℕ) → a ≤ b → start p a ≤ start p b
  start_up a b h = ⊎_elim (λ l. omega (arith, start_less p a b l)) (λ (l : b ≤ a). let e : a ≡ b = omega arith in omega (arith, ap (start p) e)) (cases_lt a b)

  inside : start p (pages_for p n) ≤ length v.shown
  inside = omega (arith, counted w.flushed i.flushed, start_up (pages_for p n) (page_count w.page w.flushed) enough)

  resized_guard : (u : BlobValue) (r : Result (Unit {0}) Fault) → Resized v (start p (pages_for p n)) u r → Guard sum p u promise
  resized_guard u r d = resize_keeps sum p v u promise (pages_for p n) r (λ q b e. omega (arith, few q b e, up_to)) d i.guard

  cut_by : (b : Bool) → count_stays p n w ≡ b → (u : BlobValue) → Carried v (cond b [] (resizes (start p (pages_for p n)) ∷ [])) u (Ok tt)
      → CutTo sum p v u (pages_for p n) promise × (u.shown ≡ cond b v.shown (resized v.shown (start p (pages_for p n))))
  cut_by true e u d = subst (λ y. CutTo sum p v y (pages_for p n) promise × (y.shown ≡ v.shown)) (sym d) (
    record {
      sound = i.sound;
      firm = firm;
      guard = i.guard;
      long = counted w.flushed i.flushed
          ∙ ap (start p) (sym (eqb-true (pages_for p n) (page_count w.page w.flushed) e));
      page = λ _ _. refl;
    },
    refl,
  )
  cut_by false e u d = subst (λ y. CutTo sum p v y (pages_for p n) promise × (y.shown ≡ resized v.shown (start p (pages_for p n)))) (sym d.1.2)
      (let done : ResizeDone v d.0 (start p (pages_for p n)) = d.1.1 in
      let long : length d.0.shown ≡ start p (pages_for p n) = ap length done.shows ∙ cut_long p v.shown (pages_for p n) inside in (
        record {
          sound = d.1.0;
          firm = λ k h. let l : k < start p (pages_for p n) = omega (arith, long) in done.keeps.firm k (firm k (omega (arith, inside))) l;
          guard = resized_guard d.0 (Ok tt) done;
          long = long;
          page = λ j h. ap (λ z. page_at p z j) done.shows ∙ cut_page p v.shown (pages_for p n) inside j h;
        },
        done.shows,
      ))

  pub cut_ran : (u : BlobValue) → Carried v (resize_row p n w) u (Ok tt) → CutTo sum p v u (pages_for p n) promise × (u.shown ≡ resize_shows p n w v.shown)
  cut_ran = cut_by (count_stays p n w) refl

  pub cut_stopped : (u : BlobValue) (k : StateRefusal) → Carried v (resize_row p n w) u (Err k) → Sound u × Guard sum p u promise
  cut_stopped u k = cond_both (count_stays p n w) [] (resizes (start p (pages_for p n)) ∷ []) (λ ops. Carried v ops u (Err k) → Sound u × Guard sum p u promise)
      (λ _ d. absurd d)
      (λ _ d. ⊎_elim
      (λ z. let x = fault_stop resize_call (start p (pages_for p n)) (λ fault. Resized v (start p (pages_for p n)) u (Err fault)) k z.1 in
      (z.0, resized_guard u (Err x.0) x.1))
      (λ z. absurd z.1.2) d)

  pub cut_all_neat : (u : BlobValue) → CutTo sum p v u (pages_for p n) promise → AllNeat sum p v.shown → AllNeat sum p u.shown
  cut_all_neat u c = cut_neat sum p v.shown u.shown (pages_for p n) c.long inside c.page

  -- the mark is Clean only where nothing was resized
  settled_by : (b : Bool) (u : BlobValue) → Carried v (cond b [] (resizes (start p (pages_for p n)) ∷ [])) u (Ok tt) → cond b w.mark Dirty ≡ Clean → Settled u
  settled_by true u d q = subst Settled (sym d) (i.settled q)
  settled_by false u d q = let z : ◌≡◌ {A = ℕ} 0 1 = cc in absurd (omega arith)

  cut_settled : (u : BlobValue) → Carried v (resize_row p n w) u (Ok tt) → resize_mark p n w ≡ Clean → Settled u
  cut_settled = settled_by (count_stays p n w)

  -- what the cut log and a tip of n % p bytes track
  pub tracks_cut : (s tip : List ℕ) → ((j : ℕ) → j < n / p → page_at p s j ≡ page_at p v.shown j) → length tip ≡ n % p
      → ((k : ℕ) → k < n % p → get_or log (n / p * p + k) gap ≡ byte (get_or tip k 0)) → Tracks sum p s (n / p) tip (take n log)
  tracks_cut s tip same l at = record {
    long = length-take n log ∙ omega (arith, i.tracks.long, split);
    in_tip = λ k h. get_or-take n log (n / p * p + k) gap (omega (arith, split)) ∙ at k (omega arith);
    in_page = λ a j h q.
        get_or-take n log (a * p + j) gap (omega (arith, split, mul-add-lt a p j (n / p) h q)) ∙ i.tracks.in_page a j (omega (arith, in_pages)) q
        ∙ ap (λ x. page_place sum x j) (sym (same a h));
  }

  pub even_kept : n % p ≡ 0 → Kept sum p v (even_plan p n w) (take n log) promise
  even_kept z =
      let m : pages_for p n ≡ n / p = cond-true (eqb (n % p) 0) _ _ (ap (λ x. eqb x 0) z) in
      record {
        ran = λ u d.
            let c = (cut_ran u d).0 in
            record {
              sound = c.sound;
              guard = c.guard;
              bytes = λ k. omega arith;
              flushed = ap (start p) (sym m) ∙ sym c.long;
              tracks = tracks_cut u.shown [] (λ j h. c.page j (omega (arith, m))) (sym z) (λ k h. absurd (omega arith));
              firm = inl c.firm;
              settled = cut_settled u d;
              durable = refl;
            };
        stopped = cut_stopped;
        neat = λ u d. cut_all_neat u (cut_ran u d).0;
      }

  pub cut_inside : start p (n / p) ≤ length v.shown
  cut_inside = omega (arith, short.0, start_up (n / p) w.page in_pages)

  -- a byte of the log in the page that n lies in
  at_tip : (f : Option ActiveChecksum) → Flushed sum p v.shown w.page w.tip f → Even w.tip f → (k : ℕ) → k < length w.tip
      → get_or log (w.page * p + k) gap ≡ byte (get_or (page_at p v.shown w.page) k 0)
  at_tip None e q k h = absurd (omega (arith, q))
  at_tip (Some x) e q k h = i.tracks.in_tip k h ∙ ap byte (sym (page_byte p v.shown w.page k (omega (arith, short.1)) ∙ e.same k (omega (arith, q))))

  pub log_there : (k : ℕ) → k < n % p → k < cover sum (page_at p v.shown (n / p))
      → get_or log (n / p * p + k) gap ≡ byte (get_or (page_at p v.shown (n / p)) k 0)
  log_there k h c = ⊎_elim
      (λ (e : n / p ≡ w.page). subst (λ x. get_or log (x * p + k) gap ≡ byte (get_or (page_at p v.shown x) k 0)) (sym e)
      (at_tip w.flushed i.flushed even k (omega (arith, tip_over e))))
      (λ (e : n / p ≡ w.page → ⊥). i.tracks.in_page (n / p) k (omega (arith, in_pages)) (omega (arith, rest))
      ∙ place_covered sum (page_at p v.shown (n / p)) k c)
      (cases_eq (n / p) w.page)

  -- the other slot's writes, where the slot a is valid and covers all of the promise in its page
  module _ (u : BlobValue) (a : Slot) (f : Firm u) (g : Guard sum p u promise) (good : Valid sum p (page_at p u.shown (n / p)) a)
      (r : n % p ≤ (slot_of p (page_at p u.shown (n / p)) a).len) where
    by_slot : (j b : ℕ) → j < p → get_or promise (n / p * p + j) gap ≡ byte b → Backed sum p u (n / p) j b a
    by_slot j b h e =
        let x = g (n / p) j b h e in
        let z = stood_here sum p u (n / p) j b x.0 x.1 in
        let whole = z.whole in
        record {
          whole = whole;
          lasts = x.1.lasts;
          here = z.here;
          valid = good;
          under = omega (arith, few (n / p * p + j) b e, split);
          firm_data = λ k l. f (start p (n / p) + k) (omega (arith, good.high));
          firm_slot = λ k l. f (start p (n / p) + (slot_start p a + k)) (omega (arith, slot_inside p a k l));
        }

    pub slot_guard : (b : Slot) → other_slot a ≡ b → (bs : List ℕ) → length bs ≤ 6 → (y : BlobValue) (q : Result (Unit {0}) Fault)
        → Wrote u (start p (n / p) + slot_start p b) bs y q → Guard sum p y promise
    slot_guard b e bs l y q d = write_slot sum p u y promise (n / p) a bs q l by_slot (subst (λ x. Wrote u (start p (n / p) + slot_start p x) bs y q) (sym e) d) g

-- the bytes after a write into one slot of the page c
module _ (p : ℕ) (s : List ℕ) (c : ℕ) (a : Slot) (bs : List ℕ) (few : length bs ≤ 6) (whole : start p c + (p + 12) ≤ length s) where
  from : start p c + slot_start p a ≤ length s
  from = omega (arith, slot_within p a)

  pub slot_long : length (overwritten s (start p c + slot_start p a) bs) ≡ length s
  slot_long = over_length s (start p c + slot_start p a) bs from ∙ omega (arith, slot_within p a)

  pub slot_before : (k : ℕ) → k < start p c + p → get_or (overwritten s (start p c + slot_start p a) bs) k 0 ≡ get_or s k 0
  slot_before k h = over_out s (start p c + slot_start p a) bs from k (inl (omega (arith, slot_behind p a)))

  pub slot_beside : (b : Slot) → other_slot b ≡ a → (k : ℕ) → k < 6 → get_or (overwritten s (start p c + slot_start p a) bs)
      (start p c + (slot_start p b + k)) 0 ≡ get_or s (start p c + (slot_start p b + k)) 0
  slot_beside b e k h = over_out s (start p c + slot_start p a) bs from (start p c + (slot_start p b + k))
      (subst (λ x. (start p c + (slot_start p b + k) < start p c + slot_start p x) ⊎
      (start p c + slot_start p x + length bs ≤ start p c + (slot_start p b + k))) e (slots_apart p b k h (start p c) (length bs) few))

  pub slot_new : (k : ℕ) → k < length bs → get_or (overwritten s (start p c + slot_start p a) bs) (start p c + (slot_start p a + k)) 0 ≡ get_or bs k 0
  slot_new k h = over_in s (start p c + slot_start p a) bs from (start p c + (slot_start p a + k)) (omega arith) (omega arith)
      ∙ ap (λ m. get_or bs m 0) (omega arith)

  pub slot_rest : (k : ℕ) → length bs ≤ k → get_or (overwritten s (start p c + slot_start p a) bs) (start p c + (slot_start p a + k)) 0 ≡ get_or s
      (start p c + (slot_start p a + k)) 0
  slot_rest k h = over_out s (start p c + slot_start p a) bs from (start p c + (slot_start p a + k)) (inr (omega arith))

-- a page of t, where t agrees with s up to the end of the page's data
module _ (p : ℕ) (s t : List ℕ) (c : ℕ) (in_s : start p c + (p + 12) ≤ length s) (in_t : start p c + (p + 12) ≤ length t)
    (same : (k : ℕ) → k < start p c + p → get_or t k 0 ≡ get_or s k 0) where
  pub data_stays : (k : ℕ) → k < p → get_or (page_at p t c) k 0 ≡ get_or (page_at p s c) k 0
  data_stays k h = page_byte p t c k (omega arith) ∙ same (start p c + k) (omega arith) ∙ sym (page_byte p s c k (omega arith))

  pub page_earlier : (i : ℕ) → i < c → page_at p t i ≡ page_at p s i
  page_earlier i h =
      let a = start_less p i c h in
      let x = page_long p t i (omega arith) in
      let y = page_long p s i (omega arith) in
      ext_get_or 0 _ _ (x ∙ sym y) (λ j q. let r : j < p + 12 = omega arith in page_byte p t i j r ∙ same (start p i + j) (omega arith) ∙ sym (page_byte p s i j r))
