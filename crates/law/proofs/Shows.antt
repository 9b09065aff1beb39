-- Where all of the tip is on the blob and the log has no gap, the bytes are exactly the log.
use Rattle.std.proofs.Common.{◌≡◌, ℕ, zero, suc, ◌+◌, ◌-◌, ◌*◌, ◌/◌, ◌%◌, ◌<◌, ◌≤◌, eqb, List, [], ◌∷◌, ◌++◌, map, length, get_or, take, Some, None, Option, sym, refl, ap, ◌∙◌, subst, ⊎_elim, zero-mul, arith}
use Rattle.std.proofs.lemmas.Nat.{div-add-mod', div_below, mod_below, mul-add-lt}
use Rattle.std.proofs.lemmas.List.{ext_get_or, map-append, map_push, take_more}
use Rattle.std.proofs.lemmas.Bool.{cases_lt, cond_both, eqb-false}
use Rattle.page.specs.Layout.{page_at, start}
use Rattle.page.specs.Verdict.{cover, extent, rejected, verdict_of}
use Rattle.page.specs.declared.slot.ActiveChecksum.{ActiveChecksum}
use Rattle.plan.specs.Open.{open_plan, pages_kept, scan_row, whole_pages}
use Rattle.plan.specs.State.{Plan}
use Rattle.law.specs.Law.{ReadsOnly, ShowsLog, covered_bytes}
use Rattle.law.specs.Log.{Place, byte, full_rows, gap, page_place, page_places, pages_log}
use Rattle.law.proofs.Open.{kept_all, log_long, opened_whole, whole_count}
use Rattle.law.proofs.Opening.{covers_few, log_in, place_byte, place_covered}
use Rattle.law.proofs.Places.{page_byte, page_long, start_less, start_more}
use Rattle.law.proofs.Slots.{slot_of}
use Rattle.law.proofs.Writer.{Even, Flushed, Tracks}

abbrev pub NoGap : List Place → Type 0
NoGap log = (k : ℕ) → k < length log → (b : ℕ) × (get_or log k gap ≡ byte b)

-- places of a page that are covered are its bytes
places_bytes : (sum : List ℕ → ℕ) (page : List ℕ) (n : ℕ) → n ≤ cover sum page → n ≤ length page → page_places sum page n ≡ map byte (take n page)
unfolding page_places
places_bytes sum page zero h l = refl
places_bytes sum page (suc n) h l =
    ap (λ x. x ++ (page_place sum page n ∷ [])) (places_bytes sum page n (omega arith) (omega arith))
    ∙ ap (λ x. map byte (take n page) ++ (x ∷ [])) (place_covered sum page n (omega arith))
    ∙ sym (map_push byte (take n page) (get_or page n 0))
    ∙ ap (map byte) (sym (take_more page n 0 (omega arith)) ∙ ap (λ m. take m page) (let z : n + 1 ≡ suc n = omega arith in z))

module _ (sum : List ℕ → ℕ) (p : ℕ) (s : List ℕ) where
  rows_bytes : (n : ℕ) → ((i : ℕ) → i < n → (cover sum (page_at p s i) ≡ p) × (length (page_at p s i) ≡ p + 12))
      → full_rows sum p s n ≡ map byte (covered_bytes sum p s n)
  unfolding full_rows covered_bytes
  rows_bytes zero h = refl
  rows_bytes (suc n) h =
      let c = h n (omega arith) in
      ap (λ x. x ++ page_places sum (page_at p s n) p) (rows_bytes n (λ i l. h i (omega arith)))
      ∙ ap (λ x. map byte (covered_bytes sum p s n) ++ x) (places_bytes sum (page_at p s n) p (omega (arith, c.0)) (omega (arith, c.1))
      ∙ ap (λ m. map byte (take m (page_at p s n))) (sym c.0))
      ∙ sym (map-append byte (covered_bytes sum p s n) (take (cover sum (page_at p s n)) (page_at p s n)))

  log_bytes : (n : ℕ) → ((i : ℕ) → i + 1 < n → cover sum (page_at p s i) ≡ p) → ((i : ℕ) → i < n → start p i + (p + 12) ≤ length s)
      → pages_log sum p s n ≡ map byte (covered_bytes sum p s n)
  unfolding pages_log covered_bytes
  log_bytes zero h l = refl
  log_bytes (suc n) h l =
      ap (λ x. x ++ page_places sum (page_at p s n) (cover sum (page_at p s n))) (rows_bytes n (λ i q. (h i (omega arith), page_long p s i (l i (omega arith)))))
      ∙ ap (λ x. map byte (covered_bytes sum p s n) ++ x)
      (places_bytes sum (page_at p s n) (cover sum (page_at p s n)) (omega arith)
      (omega (arith, covers_few sum p s n (l n (omega arith)), page_long p s n (l n (omega arith)))))
      ∙ sym (map-append byte (covered_bytes sum p s n) (take (cover sum (page_at p s n)) (page_at p s n)))

  scan_reads : (n : ℕ) → ReadsOnly (scan_row sum p s n)
  unfolding scan_row
  scan_reads zero = tt
  scan_reads (suc n) = cond_both (eqb (cover sum (page_at p s n)) 0) (scan_row sum p s n) [] ReadsOnly (λ _. scan_reads n) (λ _. tt)

  -- k whole pages, all but the last of them Full and the last not Rejected
  module _ (pos : 0 < p) (k : ℕ) (long : length s ≡ start p k) (full : (i : ℕ) → i + 1 < k → cover sum (page_at p s i) ≡ p)
      (last : (m : ℕ) → k ≡ suc m → 0 < cover sum (page_at p s m)) where
    inside : (i : ℕ) → i < k → start p i + (p + 12) ≤ length s
    inside i h = omega (arith, long, start_less p i k h)

    some : (i : ℕ) → i < k → 0 < cover sum (page_at p s i)
    some i h = ⊎_elim (λ (l : i + 1 < k). omega (arith, full i l)) (λ (l : k ≤ i + 1). last i (omega arith)) (cases_lt (i + 1) k)

    counted : whole_pages p s ≡ k
    counted = whole_count sum p s k long

    keeps : pages_kept sum p s (whole_pages p s) ≡ k
    keeps = ap (pages_kept sum p s) counted ∙ kept_all sum p s k last

    opens_dry : (capacity : ℕ) → ReadsOnly (open_plan sum p capacity s).ops
    unfolding open_plan
    opens_dry capacity = cond_both (eqb (start p (pages_kept sum p s (whole_pages p s))) (length s)) _ _ (λ (x : Plan). ReadsOnly x.ops)
        (λ _. scan_reads (whole_pages p s))
        (λ e. absurd (eqb-false _ _ e (ap (start p) keeps ∙ sym long)))

    seen_pages : (i : ℕ) → i < k → verdict_of sum (page_at p s i) ≡ rejected → ⊥
    unfolding cover
    seen_pages i h e = omega (arith, some i h, ap extent e)

    measured : length s ≡ whole_pages p s * (p + 12)
    unfolding start
    measured = long ∙ ap (λ n. n * (p + 12)) (sym counted)

    pub exactly : (log : List Place) → pages_log sum p s k ≡ log → ShowsLog sum p s log
    exactly log e = record {
      whole = measured;
      none_rejected = λ i h. seen_pages i (omega (arith, counted));
      joined = ap (λ n. map byte (covered_bytes sum p s n)) counted ∙ sym (log_bytes k full inside) ∙ e;
      opened = opened_whole sum p s k long last ∙ e;
      reads_only = opens_dry;
    }

module _ (sum : List ℕ → ℕ) (p : ℕ) (pos : 0 < p) (s tip : List ℕ) (log : List Place) (whole : NoGap log) (c : ℕ) (t : Tracks sum p s c tip log)
    (from : start p c ≤ length s) where
  full_page : (i : ℕ) → i < c → cover sum (page_at p s i) ≡ p
  full_page i h =
      let x = whole (i * p + (p - 1)) (omega (arith, t.long, mul-add-lt i p (p - 1) c h (omega arith))) in
      let y = place_byte sum (page_at p s i) (p - 1) x.0 (sym (t.in_page i (p - 1) h (omega arith)) ∙ x.1) in
      omega (arith, y.0, covers_few sum p s i (omega (arith, start_less p i c h)))

  -- the log of k pages is the log, where they have as many places and agree
  equal : (k : ℕ) → length (pages_log sum p s k) ≡ length log → length log ≤ k * p
      → ((i j : ℕ) → i < k → j < p → i * p + j < length log → get_or log (i * p + j) gap ≡ page_place sum (page_at p s i) j) → pages_log sum p s k ≡ log
  equal k l few at = ext_get_or gap (pages_log sum p s k) log l
      (λ q h.
      let a : q / p * p + q % p ≡ q = div-add-mod' q p in
      let r : q % p < p = mod_below q p pos in
      let i : q / p < k = div_below q p k pos (omega arith) in
      subst (λ m. get_or (pages_log sum p s k) m gap ≡ get_or log m gap) a (log_in sum p s k (q / p) (q % p) i r ∙ sym (at (q / p) (q % p) i r (omega arith))))

  no_pages : length (pages_log sum p s 0) ≡ 0
  unfolding pages_log
  no_pages = refl

  pub shows_log : (f : Option ActiveChecksum) → Flushed sum p s c tip f → Even tip f → ShowsLog sum p s log
  shows_log None e v = none_left c refl
    where
      none_left : (k : ℕ) → c ≡ k → ShowsLog sum p s log
      none_left zero q =
          let times : c * p ≡ 0 = ap (λ x. x * p) q ∙ zero-mul p in
          exactly sum p s pos 0 (sym e ∙ ap (start p) q) (λ i h. absurd (omega arith)) (λ m h. absurd (omega (arith, h))) log
          (equal 0 (no_pages ∙ omega (arith, t.long, v)) (omega (arith, t.long, v)) (λ i j h _ _. absurd (omega arith)))
      none_left (suc m) q =
          let times : c * p ≡ (m + 1) * p = ap (λ x. x * p) (q ∙ omega arith) in
          exactly sum p s pos (suc m) (sym e ∙ ap (start p) q) (λ i h. full_page i (omega arith)) (λ k h. omega (arith, full_page k (omega (arith, h)))) log
          (equal (suc m) (log_long sum p s m ∙ omega (arith, full_page m (omega arith), t.long, v)) (omega (arith, t.long, v))
          (λ i j h l _. t.in_page i j (omega arith) l))
  shows_log (Some a) e v =
      let n : (slot_of p (page_at p s c) a.slot).len ≡ a.len = ap (λ (z : ActiveChecksum). z.len) e.there in
      exactly sum p s pos (suc c) (sym e.whole ∙ sym (ap (start p) (let z : suc c ≡ c + 1 = omega arith in z) ∙ start_more p c))
      (λ i h. full_page i (omega arith))
      (λ k q. let z : c ≡ k = omega (arith, q) in subst (λ y. 0 < cover sum (page_at p s y)) z (omega (arith, e.most, e.valid.low))) log
      (equal (suc c) (log_long sum p s c ∙ omega (arith, e.most, t.long, v)) (omega (arith, t.long, v, e.short))
      (λ i j h q r. ⊎_elim
      (λ (a : i < c). t.in_page i j a q)
      (λ (b : c ≤ i).
      let z : i ≡ c = omega arith in
      subst (λ y. get_or log (y * p + j) gap ≡ page_place sum (page_at p s y) j) (sym z)
      (let y = subst (λ y. y * p + j < length log) z r in
      let k : j < length tip = omega (arith, t.long) in
      t.in_tip j k ∙ ap byte (sym (page_byte p s c j (omega arith) ∙ e.same j (omega (arith, v))))
      ∙ sym (place_covered sum (page_at p s c) j (omega (arith, v, e.most)))))
      (cases_lt i c)))
