-- A sync makes the log the promise.
use Rattle.std.proofs.Common.{◌≡◌, ℕ, zero, suc, ◌+◌, ◌-◌, ◌*◌, ◌/◌, ◌%◌, ◌<◌, ◌≤◌, true, false, cond, not, eqb, ◌⊎◌, List, [], ◌∷◌, ◌++◌, length, get_or, drop, Some, None, Ok, Err, Option, Result, sym, refl, ap, ◌∙◌, subst, inl, inr, ⊎_elim, add-zero, zero-mul, arith, length-drop}
use Rattle.std.proofs.lemmas.Nat.{div-add-mod', mod_below, mul-le}
use Rattle.std.proofs.lemmas.List.{get_or_past}
use Rattle.std.proofs.lemmas.Bool.{and_cases, and_parts, both_ways, cases_Bool, cases_eq, cases_lt, cond-false, cond-true, eqb-false, eqb-true, not-false, not-true, or_cases, or_parts}
use Rattle.checks.specs.Check.{FitsFour}
use Rattle.blob.specs.Calls.{Settling, Wrote, overwritten}
use Rattle.blob.specs.Value.{BlobValue, Settled, Sound}
use Rattle.blob.specs.declared.Fault.{Fault}
use Rattle.page.specs.Layout.{page_at, start}
use Rattle.page.specs.declared.slot.ActiveChecksum.{ActiveChecksum}
use Rattle.paged.specs.Rows.{Carried, settles, writes}
use Rattle.paged.specs.declared.refusal.StateRefusal.{StateRefusal}
use Rattle.paged.specs.declared.sync_state.SyncState.{SyncState}
use Rattle.paged.specs.declared.sync_state.SyncState.TheVariants.{Clean, Dirty}
use Rattle.flush.specs.Pages.{first_only, part, physical_pages}
use Rattle.flush.specs.Write.{pages_row}
use Rattle.plan.specs.Flush.{kept, mark_behind}
use Rattle.plan.specs.State.{Plan, WriterState}
use Rattle.plan.specs.Sync.{new_slot, not_flushed, rest_goes, rest_slot, settle_row, sync_pages, sync_plan, synced_slot}
use Rattle.law.specs.Events.{Bytes}
use Rattle.law.specs.Log.{Place, byte, gap}
use Rattle.law.proofs.Carrying.{fault_stop, two_ran, two_stopped}
use Rattle.law.proofs.Guard.{Guard, Stands, Stood}
use Rattle.law.proofs.Kept.{settle_keeps}
use Rattle.law.proofs.Opening.{place_byte}
use Rattle.law.proofs.Physical.{OlderKept}
use Rattle.law.proofs.Places.{page_byte, start_less}
use Rattle.law.proofs.Put.{older, put_counts, put_guard, put_long, put_neat, put_tracks}
use Rattle.law.proofs.Standing.{guarded}
use Rattle.law.proofs.Steps.{bytes_drop, firm_or, flushed_counts, full_older, kept_flushed, suc_nonzero}
use Rattle.law.proofs.Writer.{AllNeat, Counts, Even, Flushed, Inv, Tracks}
use Rattle.law.proofs.Written.{part_long}
use Rattle.paged.specs.declared.refusal.BlobCall.TheVariants.{Settle as settle_call}

no_byte : (b : ℕ) → gap ≡ byte b → ⊥
no_byte b e = let z : ◌≡◌ {A = ℕ} 0 1 = cc in omega arith

module _ (sum : List ℕ → ℕ) (p : ℕ) (s : List ℕ) (c : ℕ) (tip : List ℕ) (log : List Place) (t : Tracks sum p s c tip log) where
  pub tip_short : (f : Option ActiveChecksum) → 0 < p → Flushed sum p s c tip f → Even tip f → (start p c ≤ length s) × (length tip < p)
  tip_short None pos e v = (omega (arith, e), omega (arith, v))
  tip_short (Some a) pos e v = (omega (arith, e.whole), omega (arith, v, e.short))

  in_last : (f : Option ActiveChecksum) → Flushed sum p s c tip f → Even tip f → (j b : ℕ) → j < length tip → get_or log (c * p + j) gap ≡ byte b
      → Stood sum p s c j b
  in_last None e v j b h q = absurd (omega (arith, v))
  in_last (Some x) e v j b h q =
      let y : byte (get_or tip j 0) ≡ byte b = sym (t.in_tip j h) ∙ q in
      let z : get_or tip j 0 ≡ b = cc in
      record { whole = omega (arith, e.whole); here = e.same j (omega (arith, v)) ∙ z; covered = omega (arith, v, e.most) }

  pub log_stands : (f : Option ActiveChecksum) → 0 < p → Flushed sum p s c tip f → Even tip f → Stands sum p s log
  log_stands f pos e v i j b h q =
      let l = tip_short f pos e v in
      ⊎_elim
      (λ a.
      let x = place_byte sum (page_at p s i) j b (sym (t.in_page i j a h) ∙ q) in
      record { whole = omega (arith, l.0, start_less p i c a); here = sym (page_byte p s i j (omega arith)) ∙ x.1; covered = x.0 })
      (λ (a : c ≤ i). ⊎_elim
      (λ (d : i * p + j < length log).
      let y : i ≡ c = ⊎_elim (λ (g : i < c + 1). omega arith) (λ (g : c + 1 ≤ i). absurd
      (omega (arith, mul-le (c + 1) p i p g (omega arith), t.long, l.1))) (cases_lt i (c + 1)) in
      subst (λ n. Stood sum p s n j b) (sym y) (let r = subst (λ n. get_or log (n * p + j) gap ≡ byte b) y q in
      let d = subst (λ n. n * p + j < length log) y d in in_last f e v j b (omega (arith, t.long)) r))
      (λ d. absurd (no_byte b (sym (get_or_past log (i * p + j) gap d) ∙ q)))
      (cases_lt (i * p + j) (length log)))
      (cases_lt i c)

pub record Synced (sum : List ℕ → ℕ) (p : ℕ) (v : BlobValue) (x : Plan) (log promise : List Place) : Type 0 where
  pub ran : (u : BlobValue) → Carried v x.ops u (Ok tt) → Inv sum p u x.to log log × (Settled u × Even x.to.tip x.to.flushed)
  pub still : (u : BlobValue) → Carried v x.ops u (Ok tt) → Guard sum p u promise
  pub stopped : (u : BlobValue) (k : StateRefusal) → Carried v x.ops u (Err k) → Sound u × Guard sum p u promise
  pub neat : (u : BlobValue) → Carried v x.ops u (Ok tt) → AllNeat sum p v.shown → AllNeat sum p u.shown

module _ (sum : List ℕ → ℕ) (fits : FitsFour sum) (p : ℕ) (pos : 0 < p) (small : p ≤ 65535) (v : BlobValue) (w : WriterState)
    (log promise : List Place) (i : Inv sum p v w log promise) where
  abbrev synced : ℕ → Option ActiveChecksum → WriterState
  synced full slot = record { capacity = w.capacity; page = w.page + full; tip = drop (full * p) w.tip; flushed = slot; durable = slot; mark = Clean }

  abbrev sync_with : ℕ → ℕ → Option ActiveChecksum → Plan
  sync_with full n slot = record {
    ops = pages_row sum p w.tip (kept w) (start p w.page) n ++ settle_row (mark_behind w.mark n);
    to = synced full slot;
  }

  -- settled, with all of the tip on the blob
  at_rest : (u : BlobValue) (x : WriterState) → Sound u → Settled u → Bytes x.tip → Flushed sum p u.shown x.page x.tip x.flushed
      → Tracks sum p u.shown x.page x.tip log → Even x.tip x.flushed → x.durable ≡ x.flushed
      → Inv sum p u x log log × (Settled u × Even x.tip x.flushed)
  at_rest u x s f b e t v d = (
    record {
      sound = s;
      guard = guarded sum p u log s f.firm (log_stands sum p u.shown x.page x.tip log t
          x.flushed pos e v);
      bytes = b;
      flushed = e;
      tracks = t;
      firm = inl f.firm;
      settled = λ _. f;
      durable = d;
    },
    (f, v),
  )

  -- pages are written, and the blob settles
  put_settle : (full m : ℕ) (slot : Option ActiveChecksum) → ((k : ℕ) → k < suc m → k * p < length w.tip) → OlderKept sum (part p w.tip 0) w.flushed
      → ((t : List ℕ) → t ≡ overwritten v.shown (start p w.page) (physical_pages sum p w.tip w.flushed (suc m))
      → Flushed sum p t (w.page + full) (drop (full * p) w.tip) slot)
      → full ≤ suc m → full * p ≤ length w.tip → Even (drop (full * p) w.tip) slot
      → Synced sum p v (sync_with full (suc m) slot) log promise
  put_settle full m slot h o flushed q many even =
      let some : 0 < suc m = omega arith in
      let at = start p w.page in
      let bs = physical_pages sum p w.tip (kept w) (suc m) in
      let keep = kept_flushed w i.durable in
      let row : settle_row (mark_behind w.mark (suc m)) ≡ settles ∷ [] = ap (λ b. settle_row (cond b w.mark Dirty)) (suc_nonzero m) in
      let guard : (u : BlobValue) (r : Result (Unit {0}) Fault) → Wrote v (start p w.page) (physical_pages sum p w.tip (kept w) (suc m)) u r
      → Guard sum p u promise
      = λ u r d. put_guard sum fits p pos small w.tip i.bytes (suc m) some h v u w.page w.flushed promise r i.sound i.flushed
      (firm_or v w i.firm) o
      (subst (λ x. Wrote v (start p w.page) (physical_pages sum p w.tip x (suc m)) u r) keep d) i.guard in
      let shown : (x : BlobValue) → x.shown ≡ overwritten v.shown (start p w.page) (physical_pages sum p w.tip (kept w) (suc m))
      → x.shown ≡ overwritten v.shown (start p w.page) (physical_pages sum p w.tip w.flushed (suc m))
      = λ x d. subst (λ y. x.shown ≡ overwritten v.shown (start p w.page) (physical_pages sum p w.tip y (suc m))) keep d in
      subst (λ ops. Synced sum p v (record { ops = writes at bs ∷ ops; to = synced full slot }) log promise) (sym row)
      (record {
        ran = λ u d.
            let y = two_ran sum p promise v at bs i.guard guard u [] d in
            let z = y.1.0 in
            let shows = shown y.0 z.shows in
            subst (λ x. Inv sum p x (synced full slot) log log × (Settled x × Even (drop (full * p) w.tip) slot)) (sym y.1.1)
            (at_rest y.0 (synced full slot) z.sound z.settled (bytes_drop (full * p) w.tip i.bytes) (flushed y.0.shown shows)
            (put_tracks sum fits p pos small w.tip i.bytes (suc m) some h v.shown y.0.shown w.page w.flushed
            i.flushed o shows full log q many i.tracks)
            even refl);
        still = λ u d.
            let y = two_ran sum p promise v at bs i.guard guard u [] d in
            subst (λ x. Guard sum p x promise) (sym y.1.1) y.1.0.guard;
        stopped = λ u k d. ⊎_elim (λ y. y) (λ y. absurd y.1.1) (two_stopped sum p promise v at bs i.guard guard u k [] d);
        neat = λ u d n.
            let y = two_ran sum p promise v at bs i.guard guard u [] d in
            subst (λ x. AllNeat sum p x.shown) (sym y.1.1)
            (put_neat sum fits p pos small w.tip i.bytes (suc m) some h v.shown y.0.shown w.page w.flushed i.flushed o
            (shown y.0 y.1.0.shows) n);
      })

  rest_yes : (f : Option ActiveChecksum) (r n : ℕ) → rest_goes n r f ≡ true → (r ≡ 0 → ⊥) × ((n ≡ 0 → ⊥) ⊎ (not_flushed f r ≡ true))
  rest_yes f r n e =
      let a = and_parts (not (eqb r 0)) _ e in
      (eqb-false _ _ (not-true _ a.0), ⊎_elim (λ b. inl (eqb-false _ _ (not-true _ b))) (λ b. inr b) (or_cases (not (eqb n 0)) _ a.1))

  rest_no : (f : Option ActiveChecksum) (r n : ℕ) → rest_goes n r f ≡ false → (r ≡ 0) ⊎ ((n ≡ 0) × (not_flushed f r ≡ false))
  rest_no f r n e = ⊎_elim
      (λ a. inl (eqb-true _ _ (not-false _ a)))
      (λ a. let b = or_parts (not (eqb n 0)) _ a in inr (eqb-true _ _ (not-false _ b.0), b.1))
      (and_cases (not (eqb r 0)) _ e)

  other_yes : (r : ℕ) (f : Option ActiveChecksum) → not_flushed f r ≡ true → (a : ActiveChecksum) → f ≡ Some a → a.len ≡ r → ⊥
  other_yes r f e a q = let x : not (eqb a.len r) ≡ true = subst (λ z. not_flushed z r ≡ true) q e in eqb-false _ _ (not-true _ x)

  -- fewer bytes than a page
  no_page : length w.tip / p ≡ 0 → length w.tip ≡ length w.tip % p
  no_page z = sym (div-add-mod' (length w.tip) p) ∙ ap (λ n. n * p + length w.tip % p) z ∙ omega arith

  even_here : (f : Option ActiveChecksum) → length w.tip / p ≡ 0 → (length w.tip % p ≡ 0) ⊎ (not_flushed f (length w.tip % p) ≡ false)
      → Flushed sum p v.shown w.page w.tip f → Even w.tip f
  even_here None z (inl r) e = no_page z ∙ r
  even_here None z (inr r) e = absurd (both_ways true r refl)
  even_here (Some a) z (inl r) e = absurd (omega (arith, no_page z, e.under, e.valid.low, ap (λ (s : ActiveChecksum). s.len) e.there))
  even_here (Some a) z (inr r) e = omega (arith, no_page z, eqb-true a.len (length w.tip % p) (not-false (eqb a.len (length w.tip % p)) r))

  -- nothing is written, and the blob settles unless it is settled
  idle : Even w.tip w.flushed → (m : SyncState) → w.mark ≡ m
      → Synced sum p v (record {
        ops = settle_row m;
        to = record {
          capacity = w.capacity;
          page = w.page;
          tip = w.tip;
          flushed = w.flushed;
          durable
              = w.flushed;
          mark = Clean;
        };
      }) log promise
  idle even Dirty _ =
      let x : WriterState = record { capacity = w.capacity; page = w.page; tip = w.tip; flushed = w.flushed; durable = w.flushed; mark = Clean } in
      record {
        ran = λ u d.
            let fixed = d.1.1 in
            let shows = fixed.shows in
            subst (λ z. Inv sum p z x log log × (Settled z × Even w.tip w.flushed)) (sym d.1.2)
            (at_rest d.0 x d.1.0 fixed.settled i.bytes
            (subst (λ t. Flushed sum p t w.page w.tip w.flushed) (sym shows) i.flushed)
            (subst (λ t. Tracks sum p t w.page w.tip log) (sym shows) i.tracks) even refl);
        still = λ u d. subst (λ z. Guard sum p z promise) (sym d.1.2) (settle_keeps sum p v d.0 promise (Ok tt) d.1.0 d.1.1 i.guard);
        stopped = λ u k d. ⊎_elim
            (λ z. let y = fault_stop settle_call 0 (λ fault. Settling v u (Err fault)) k z.1 in
            (z.0, settle_keeps sum p v u promise (Err y.0) z.0 y.1 i.guard))
            (λ z. absurd z.1.2)
            d;
        neat = λ u d n. subst (λ z. AllNeat sum p z.shown) (sym d.1.2) (subst (AllNeat sum p) (sym d.1.1.shows) n);
      }
  idle even Clean clean =
      let x : WriterState = record { capacity = w.capacity; page = w.page; tip = w.tip; flushed = w.flushed; durable = w.flushed; mark = Clean } in
      record {
        ran = λ u e. subst (λ z. Inv sum p z x log log × (Settled z × Even w.tip w.flushed)) (sym e)
            (at_rest v x i.sound (i.settled clean) i.bytes i.flushed i.tracks even refl);
        still = λ u e. subst (λ z. Guard sum p z promise) (sym e) i.guard;
        stopped = λ u k d. absurd d;
        neat = λ u e n. subst (λ z. AllNeat sum p z.shown) (sym e) n;
      }

  idle_with : Even w.tip w.flushed → Synced sum p v (sync_with zero zero w.flushed) log promise
  idle_with even =
      let to : synced zero w.flushed ≡ record {
        capacity = w.capacity;
        page = w.page;
        tip = w.tip;
        flushed = w.flushed;
        durable = w.flushed;
        mark = Clean;
      }
      = ap (λ n. record {
        capacity = w.capacity;
        page = w.page + zero;
        tip = drop n
            w.tip;
        flushed = w.flushed;
        durable = w.flushed;
        mark = Clean;
      }) (zero-mul p)
      ∙ ap (λ n. record { capacity = w.capacity; page = n; tip = w.tip; flushed = w.flushed; durable = w.flushed; mark = Clean }) (add-zero w.page) in
      subst (λ x. Synced sum p v (record { ops = settle_row w.mark; to = x }) log promise) (sym to) (idle even w.mark refl)

  -- a sync, by the number of pages that it writes and the slot that it leaves
  sync_as : (full n : ℕ) (slot : Option ActiveChecksum) → length w.tip / p ≡ full → sync_pages p w ≡ n → synced_slot sum p w n ≡ slot
      → Synced sum p v (sync_with full n slot) log promise → Synced sum p v (sync_plan sum p w) log promise
  unfolding sync_plan
  sync_as full n slot f e q x =
      subst (λ k. Synced sum p v (sync_with (length w.tip / p) k (synced_slot sum p w k)) log promise) (sym e)
      (subst (λ s. Synced sum p v (sync_with (length w.tip / p) n s) log promise) (sym q)
      (subst (λ k. Synced sum p v (sync_with k n slot) log promise) (sym f) x))

  pub sync_kept : Synced sum p v (sync_plan sum p w) log promise
  sync_kept =
      let full = length w.tip / p in
      let r = length w.tip % p in
      let split = div-add-mod' (length w.tip) p in
      let below = mod_below (length w.tip) p pos in
      let keep = kept_flushed w i.durable in
      let short : length (drop (length w.tip / p * p) w.tip) ≡ length w.tip - length w.tip / p * p = length-drop (length w.tip / p * p) w.tip in
      ⊎_elim
      (λ e.
      let a = rest_yes w.flushed (length w.tip % p) (length w.tip / p) e in
      let h : (k : ℕ) → k < suc (length w.tip / p) → k * p < length w.tip = λ k l. ⊎_elim (λ (z : length w.tip % p ≡ 0). absurd (a.0 z))
      (λ (z : length w.tip % p ≡ 0 → ⊥). omega (arith, mul-le k p (length w.tip / p) p (omega arith) (omega arith)))
      (cases_eq (length w.tip % p) 0) in
      let o : OlderKept sum (part p w.tip 0) w.flushed = older sum fits p small v w.page w.tip w.flushed i.sound i.flushed
      (λ x q.
      let b = flushed_counts sum p v.shown w.page w.tip w.flushed i.flushed x q in
      ⊎_elim
      (λ (z : length w.tip / p ≡ 0).
      let ne : x.len ≡ length w.tip % p → ⊥ = ⊎_elim (λ y. absurd (y z)) (λ y. other_yes (length w.tip % p) w.flushed y x q) a.1 in
      omega (arith, part_long p w.tip 0, ne, no_page z, b.short, b.under))
      (λ (z : length w.tip / p ≡ 0 → ⊥). omega (arith, part_long p w.tip 0, b.short, mul-le 1 p (length w.tip / p) p (omega arith) (omega arith)))
      (cases_eq (length w.tip / p) 0)) in
      let rest : length (part p w.tip (length w.tip / p)) ≡ length w.tip % p = part_long p w.tip (length w.tip / p) ∙ omega arith in
      let slot : synced_slot sum p w (suc (length w.tip / p)) ≡ Some (rest_slot sum p w)
      = cond-false (eqb (suc (length w.tip / p)) 0) _ _ (suc_nonzero (length w.tip / p))
      ∙ cond-true (rest_goes (length w.tip / p) (length w.tip % p) w.flushed) _ _ e in
      let pages : sync_pages p w ≡ suc (length w.tip / p) = ap (λ b. length w.tip / p + cond b 1 0) e ∙ omega arith in
      sync_as full (suc full) (Some (rest_slot sum p w)) refl pages slot
      (put_settle full full (Some (rest_slot sum p w)) h o
      (λ t shows. subst (λ f. Counts sum p t (w.page + length w.tip / p) (drop (length w.tip / p * p) w.tip)
      (record {
        slot = new_slot (first_only f (length w.tip / p));
        len = length w.tip % p;
        check = sum
            (part p w.tip (length w.tip / p));
      })) (sym keep)
      (subst (λ n. Counts sum p t (w.page + length w.tip / p) (drop (length w.tip / p * p) w.tip)
      (record { slot = new_slot (first_only w.flushed (length w.tip / p)); len = n; check = sum (part p w.tip (length w.tip / p)) }))
      rest
      (put_counts sum fits p pos small w.tip i.bytes (suc (length w.tip / p)) (omega arith) h v.shown t w.page w.flushed
      i.flushed o shows (length w.tip / p) (omega arith) (omega arith))))
      (omega arith) (omega arith) (short ∙ omega arith)))
      (λ e.
      let left = rest_no w.flushed (length w.tip % p) (length w.tip / p) e in
      let pages : sync_pages p w ≡ length w.tip / p = ap (λ b. length w.tip / p + cond b 1 0) e ∙ omega arith in
      cases (length w.tip / p) refl pages left e)
      (cases_Bool (rest_goes (length w.tip / p) (length w.tip % p) w.flushed))
    where
      cases : (n : ℕ) → length w.tip / p ≡ n → sync_pages p w ≡ n
          → (length w.tip % p ≡ 0) ⊎ ((n ≡ 0) × (not_flushed w.flushed (length w.tip % p) ≡ false))
          → rest_goes (length w.tip / p) (length w.tip % p) w.flushed ≡ false → Synced sum p v (sync_plan sum p w) log promise
      cases zero z pages left e = sync_as zero zero w.flushed z pages refl
          (idle_with (even_here w.flushed z (⊎_elim (λ y. inl y) (λ y. inr y.1) left) i.flushed))
      cases (suc n) z pages left e =
          let split = div-add-mod' (length w.tip) p in
          let times = ap (λ x. x * p) z in
          let r : length w.tip % p ≡ 0 = ⊎_elim (λ y. y) (λ y. absurd (omega (arith, y.0))) left in
          let h : (k : ℕ) → k < suc n → k * p < length w.tip = λ k l. omega (arith, mul-le (k + 1) p (suc n) p (omega arith) (omega arith)) in
          let o = full_older sum fits p pos small v w log promise i (omega arith) in
          let slot : synced_slot sum p w (suc n) ≡ None = cond-false (eqb (suc n) 0) _ _ (suc_nonzero n)
          ∙ cond-false (rest_goes (length w.tip / p) (length w.tip % p) w.flushed) _ _ e in
          sync_as (suc n) (suc n) None z pages slot
          (put_settle (suc n) n None h o
          (λ t shows. sym (put_long sum fits p pos small w.tip i.bytes (suc n) (omega arith) h v.shown t w.page w.flushed i.flushed o shows))
          (omega arith) (omega arith) (length-drop (suc n * p) w.tip ∙ omega arith))
