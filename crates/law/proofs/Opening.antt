-- The log of an opening, place by place.
use Rattle.std.proofs.Common.{◌≡◌, ℕ, zero, suc, ◌+◌, ◌*◌, ◌/◌, ◌%◌, ◌<◌, ◌≤◌, eqb, ltb, List, [], ◌∷◌, ◌++◌, length, get_or, sym, refl, ap, ◌∙◌, subst, ⊎_elim, arith, length-append}
use Rattle.std.proofs.lemmas.Nat.{div-add-mod', le-div, mod_below, mul-add-lt, mul-le}
use Rattle.std.proofs.lemmas.List.{get_or_append_left, get_or-append_right, get_or_past, get_or_push}
use Rattle.std.proofs.lemmas.Bool.{cases_lt, cond_both, cond-false, cond-true, eqb-true, le-ltb, lt-ltb}
use Rattle.page.specs.Layout.{page_at, start}
use Rattle.page.specs.Verdict.{cover}
use Rattle.plan.specs.Open.{pages_kept, whole_pages}
use Rattle.law.specs.Log.{Holds, Place, byte, full_rows, gap, opened_log, page_place, page_places, pages_log}
use Rattle.law.proofs.Guard.{Stands}
use Rattle.law.proofs.Places.{page_byte, page_long}
use Rattle.law.proofs.Verdicts.{by_some}

module _ (sum : List ℕ → ℕ) (page : List ℕ) where
  pub place_covered : (k : ℕ) → k < cover sum page → page_place sum page k ≡ byte (get_or page k 0)
  unfolding page_place
  place_covered k h = cond-true (ltb k (cover sum page)) _ _ (lt-ltb _ _ h)

  pub place_bare : (k : ℕ) → cover sum page ≤ k → page_place sum page k ≡ gap
  unfolding page_place
  place_bare k h = cond-false (ltb k (cover sum page)) _ _ (le-ltb _ _ h)

  pub place_byte : (k b : ℕ) → page_place sum page k ≡ byte b → (k < cover sum page) × (get_or page k 0 ≡ b)
  place_byte k b e = ⊎_elim
      (λ h. (h, let c = sym (place_covered k h) ∙ e in cc))
      (λ h. let c = sym (place_bare k h) ∙ e in let z : ◌≡◌ {A = ℕ} 0 1 = cc in absurd (omega arith))
      (cases_lt k (cover sum page))

  pub places_long : (n : ℕ) → length (page_places sum page n) ≡ n
  unfolding page_places
  places_long zero = refl
  places_long (suc n) = simp length-append (omega (arith, places_long n))

  pub places_at : (n k : ℕ) → k < n → get_or (page_places sum page n) k gap ≡ page_place sum page k
  unfolding page_places
  places_at zero k h = absurd (omega arith)
  places_at (suc n) k h = ⊎_elim
      (λ l. get_or_append_left (page_places sum page n) _ gap k (omega (arith, places_long n)) ∙ places_at n k l)
      (λ l. let e : k ≡ n = omega arith in ap (λ m. get_or (page_places sum page n ++ (page_place sum page n ∷ [])) m gap) e
      ∙ get_or_push (page_places sum page n) _ gap n (places_long n) ∙ ap (page_place sum page) (sym e))
      (cases_lt k n)

module _ (sum : List ℕ → ℕ) (p : ℕ) (s : List ℕ) where
  pub row_long : (n : ℕ) → length (full_rows sum p s n) ≡ n * p
  unfolding full_rows
  row_long zero = omega arith
  row_long (suc n) = simp length-append (omega (arith, row_long n, places_long sum (page_at p s n) p))

  row_at : (n i j : ℕ) → i < n → j < p → get_or (full_rows sum p s n) (i * p + j) gap ≡ page_place sum (page_at p s i) j
  unfolding full_rows
  row_at zero i j h g = absurd (omega arith)
  row_at (suc n) i j h g = ⊎_elim
      (λ l. get_or_append_left (full_rows sum p s n) _ gap (i * p + j) (omega (arith, row_long n, mul-add-lt i p j n l g)) ∙ row_at n i j l g)
      (λ l. let e : i ≡ n = omega arith in
      subst (λ m. get_or (full_rows sum p s n ++ page_places sum (page_at p s n) p) (m * p + j) gap ≡ page_place sum (page_at p s m) j) (sym e)
      (get_or-append_right (full_rows sum p s n) _ (n * p) (n * p + j) gap (row_long n) (omega arith)
      ∙ ap (λ m. get_or (page_places sum (page_at p s n) p) m gap) (omega arith) ∙ places_at sum (page_at p s n) p j g))
      (cases_lt i n)

  -- a place of the log, in one of its pages and behind them
  pub log_in : (n i j : ℕ) → i < n → j < p → get_or (pages_log sum p s n) (i * p + j) gap ≡ page_place sum (page_at p s i) j
  unfolding pages_log
  log_in zero i j h g = absurd (omega arith)
  log_in (suc n) i j h g = ⊎_elim
      (λ l. get_or_append_left (full_rows sum p s n) _ gap (i * p + j) (omega (arith, row_long n, mul-add-lt i p j n l g)) ∙ row_at n i j l g)
      (λ l. let e : i ≡ n = omega arith in
      let last = page_places sum (page_at p s n) (cover sum (page_at p s n)) in
      subst (λ m. get_or (full_rows sum p s n ++ last) (m * p + j) gap ≡ page_place sum (page_at p s m) j) (sym e)
      (get_or-append_right (full_rows sum p s n) last (n * p) (n * p + j) gap (row_long n) (omega arith)
      ∙ ap (λ m. get_or last m gap) (omega arith)
      ∙ ⊎_elim (λ c. places_at sum (page_at p s n) _ j c)
      (λ c. get_or_past last j gap (omega (arith, places_long sum (page_at p s n) (cover sum (page_at p s n)))) ∙ sym (place_bare sum (page_at p s n) j c))
      (cases_lt j (cover sum (page_at p s n)))))
      (cases_lt i n)

  -- the scan keeps each page up to one that isn't rejected
  pub kept_over : (n i : ℕ) → i < n → 0 < cover sum (page_at p s i) → i < pages_kept sum p s n
  unfolding pages_kept
  kept_over zero i h g = absurd (omega arith)
  kept_over (suc n) i h g = cond_both (eqb (cover sum (page_at p s n)) 0) _ _ (λ m. i < m)
      (λ e. kept_over n i (⊎_elim (λ l. l) (λ l. let f : i ≡ n = omega arith in let z = eqb-true (cover sum (page_at p s n)) 0 e in
      let y = subst (λ m. 0 < cover sum (page_at p s m)) f g in absurd (omega arith)) (cases_lt i n)) g)
      (λ _. h)

  pub kept_most : (n : ℕ) → pages_kept sum p s n ≤ n
  unfolding pages_kept
  kept_most zero = omega arith
  kept_most (suc n) = cond_both (eqb (cover sum (page_at p s n)) 0) _ _ (λ m. m ≤ suc n) (λ _. omega (arith, kept_most n)) (λ _. omega arith)

  pub whole_page : (i : ℕ) → start p i + (p + 12) ≤ length s → i < whole_pages p s
  unfolding start
  whole_page i h = omega (arith, le-div (i + 1) (length s) (p + 12) (omega arith) (omega arith))

  -- where the promise stands, the log of an opening holds it
  pub opening : (promise : List Place) → 0 < p → Stands sum p s promise → Holds (opened_log sum p s) promise
  unfolding opened_log
  opening promise pos stand k b e =
      let q : k / p * p + k % p ≡ k = div-add-mod' k p in
      let r : k % p < p = mod_below k p pos in
      let x = stand (k / p) (k % p) b r (ap (λ m. get_or promise m gap) q ∙ e) in
      let c = x.covered in
      let in_page = kept_over (whole_pages p s) (k / p) (whole_page (k / p) x.whole) (omega arith) in
      ap (λ m. get_or (pages_log sum p s (pages_kept sum p s (whole_pages p s))) m gap) (sym q)
      ∙ log_in _ (k / p) (k % p) in_page r
      ∙ place_covered sum (page_at p s (k / p)) (k % p) c
      ∙ ap byte (page_byte p s (k / p) (k % p) (omega arith) ∙ x.here)

  log_past : (n i j : ℕ) → n ≤ i → j < p → ((i : ℕ) → i < n → cover sum (page_at p s i) ≤ p) → get_or (pages_log sum p s n) (i * p + j) gap ≡ gap
  unfolding pages_log
  log_past zero i j h g c = refl
  log_past (suc n) i j h g c = get_or_past (full_rows sum p s n ++ page_places sum (page_at p s n) (cover sum (page_at p s n))) (i * p + j) gap
      (simp length-append (omega (
        arith,
        row_long n,
        places_long sum (page_at p s n) (cover sum (page_at p s n)),
        c n (omega arith),
        mul-le
            (suc n) p i p h (omega arith),
      )))

  pub covers_few : (i : ℕ) → start p i + (p + 12) ≤ length s → cover sum (page_at p s i) ≤ p
  covers_few i h = ⊎_elim (λ e. omega arith) (λ x. omega (arith, x.1.0.high, x.1.1)) (by_some sum p (page_at p s i) (page_long p s i h))

  pub page_whole : (i : ℕ) → i < whole_pages p s → start p i + (p + 12) ≤ length s
  unfolding start
  page_whole i h = omega (arith, mul-le (i + 1) (p + 12) (whole_pages p s) (p + 12) (omega arith) (omega arith), div-add-mod' (length s) (p + 12))

  -- the log of an opening stands in the bytes that it was read from
  pub opened_stands : Stands sum p s (opened_log sum p s)
  unfolding opened_log
  opened_stands i j b h e =
      let m = whole_pages p s in
      let n = pages_kept sum p s (whole_pages p s) in
      let most : pages_kept sum p s (whole_pages p s) ≤ whole_pages p s = kept_most (whole_pages p s) in
      ⊎_elim
      (λ l.
      let whole = page_whole i (omega arith) in
      let x = place_byte sum (page_at p s i) j b (sym (log_in n i j l h) ∙ e) in
      record { whole = whole; here = sym (page_byte p s i j (omega arith)) ∙ x.1; covered = x.0 })
      (λ l. let c = sym (log_past n i j l h (λ k q. covers_few k (page_whole k (omega arith)))) ∙ e in let z : ◌≡◌ {A = ℕ} 0 1 = cc in absurd (omega arith))
      (cases_lt i (pages_kept sum p s (whole_pages p s)))
