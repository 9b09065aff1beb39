-- The law.
use Rattle.std.proofs.Common.{◌≡◌, ℕ, ◌+◌, ◌*◌, ◌<◌, ◌≤◌, true, ◌⊎◌, List, [], ◌∷◌, ◌++◌, length, get_or, set, Ok, sym, refl, ap, ◌∙◌, subst, inl, inr, ⊎_elim, arith, length-set}
use Rattle.std.proofs.lemmas.List.{ext_get_or, get_or_past, get_or-set_other, get_or-set_same}
use Rattle.std.proofs.lemmas.Bool.{cases_eq, cases_lt}
use Rattle.checks.specs.Check.{FitsFour, TellsOne}
use Rattle.blob.specs.Calls.{Restarted}
use Rattle.blob.specs.Value.{BlobValue, Settled, Sound}
use Rattle.page.specs.Layout.{page_at, start}
use Rattle.page.specs.Verdict.{cover}
use Rattle.paged.specs.Rows.{Carried, Op, reads, rejects, resizes, settles, writes}
use Rattle.plan.specs.Open.{capacity_for, open_plan, whole_pages}
use Rattle.law.specs.Events.{Bytes, Call, Event, accepted, account, append, event, hand_over, opening, page_read, restart, sync, truncate}
use Rattle.law.specs.Law.{Calm, CalmCall, Head, Law, Promises, ReadsOnly, ShowsLog, TellsAltered, TheLaw, begin}
use Rattle.law.specs.Lines.{Line, LineState, Step, appends, hands_over, none, opens, reads_page, restarts, syncs, then, truncates}
use Rattle.law.specs.Log.{Place, byte, gap, opened_log, pages_log}
use Rattle.law.proofs.Altered.{altered}
use Rattle.law.proofs.Calm.{Whole, calm_end}
use Rattle.law.proofs.Guard.{Guard}
use Rattle.law.proofs.Lines.{WithWriter, Fine, along, to_end}
use Rattle.law.proofs.Opening.{covers_few, opened_stands, page_whole}
use Rattle.law.proofs.Places.{page_byte, page_long}
use Rattle.law.proofs.Put.{bytes_of}
use Rattle.law.proofs.Shows.{exactly}
use Rattle.law.proofs.Writer.{AllNeat}
use Rattle.law.proofs.Written.{start_zero}

-- an accepted sync or truncation lets an opening come
promises_open : {sum : List ℕ → ℕ} {p : ℕ} {call : Call} {s u : LineState} → Promises call → Step sum p s call accepted u → u.may_open ≡ true
promises_open c (syncs d) = refl
promises_open c (truncates d) = refl
promises_open c (opens tip page e d) = absurd c
promises_open c (appends are d) = absurd c
promises_open c hands_over = absurd c
promises_open c (reads_page before after x d) = absurd c
promises_open c (restarts d) = absurd c

last_open : (sum : List ℕ → ℕ) (p : ℕ) (s end : LineState) (before : List Event) (call : Call) (bs : List ℕ) → Promises call
    → Line sum p s (before ++ (event call accepted bs ∷ [])) end → (end.may_open ≡ true) × (end.blob.shown ≡ bs)
last_open sum p s end [] call bs c (then d q none) = (promises_open c d, refl)
last_open sum p s end (e ∷ before) call bs c (then d q l) = last_open sum p _ end before call bs c l

-- a line that ends with an event of a line
shorter : (sum : List ℕ → ℕ) (p : ℕ) (before after : List Event) (e : Event) (s end : LineState) → Line sum p s (before ++ (e ∷ after)) end
    → (mid : LineState) × Line sum p s (before ++ (e ∷ [])) mid
shorter sum p [] after e s end (then {t = t} d q l) = (t, then d q none)
shorter sum p (x ∷ before) after e s end (then {t = t} d q l) = let y = shorter sum p before after e t end l in (y.0, then d q y.1)

-- the opening that comes right after an event of a line
next_opening : (sum : List ℕ → ℕ) (p : ℕ) (before after : List Event) (e : Event) (wish told : ℕ) (bs : List ℕ) (s end : LineState)
    → Line sum p s (before ++ (e ∷ event (opening wish told) accepted bs ∷ after)) end
    → (mid : LineState) × (u : BlobValue) × (Line sum p s (before ++ (e ∷ [])) mid
    × Carried mid.blob (open_plan sum p (capacity_for p wish) mid.blob.shown).ops u (Ok tt) × (u.shown ≡ bs))
next_opening sum p [] after e wish told bs s end (then {t = t} d q (then (opens {u = u} tip page i c) r l)) = (t, u, (then d q none, c, refl))
next_opening sum p (x ∷ before) after e wish told bs s end (then {t = t} d q l) =
    let y = next_opening sum p before after e wish told bs t end l in
    (y.0, y.1, (then d q y.2.0, y.2.1, y.2.2))

-- a row that only reads leaves the blob
read_same : (ops : List Op) (v u : BlobValue) → ReadsOnly ops → Carried v ops u (Ok tt) → u ≡ v
read_same [] v u o c = c
read_same (reads at n ∷ ops) v u o c = read_same ops c.0 u o c.1.2 ∙ c.1.1.2
read_same (writes at bytes ∷ ops) v u o c = absurd o
read_same (resizes n ∷ ops) v u o c = absurd o
read_same (settles ∷ ops) v u o c = absurd o
read_same (rejects ∷ ops) v u o c = absurd o

-- calm to the end
calm_last : (before : List Event) (call : Call) (bs : List ℕ) → Calm before → Promises call → Calm (before ++ (event call accepted bs ∷ []))
calm_last [] call bs c q = (calm_promise call q, tt)
  where
    calm_promise : (call : Call) → Promises call → CalmCall call accepted
    calm_promise sync q = tt
    calm_promise (truncate n) q = tt
    calm_promise (opening wish told) q = tt
    calm_promise (append bytes) q = tt
    calm_promise hand_over q = tt
    calm_promise (page_read i) q = tt
    calm_promise restart q = q
calm_last (e ∷ before) call bs c q = (c.0, calm_last before call bs c.1 q)

-- a restart of a settled blob shows the same bytes
restart_same : (v u : BlobValue) → Settled v → Restarted v u → u.shown ≡ v.shown
restart_same v u s d =
    let l : length u.shown ≡ length v.shown = omega (arith, d.stands.long, d.stands.short, s.shortest, s.longest) in
    ext_get_or 0 u.shown v.shown l (λ k h. d.stands.firm k (s.firm k (omega arith)))

either_place : (x : Place) → (x ≡ gap) ⊎ ((b : ℕ) × (x ≡ byte b))
either_place gap = inl refl
either_place (byte b) = inr (b, refl)

no_promise : (sum : List ℕ → ℕ) (p : ℕ) (v : BlobValue) → Guard sum p v []
no_promise sum p v i j b h e = absurd (let z : ◌≡◌ {A = ℕ} 0 1 = cc in omega arith)

-- one altered byte
module _ (sum : List ℕ → ℕ) (law : TellsOne sum) (p : ℕ) (small : p ≤ 65535) (v : BlobValue) (sound : Sound v) (neat : AllNeat sum p v.shown)
    (i j b : ℕ) (inside : i < whole_pages p v.shown) (covered : j < cover sum (page_at p v.shown i))
    (fits : b < 256) (other : b ≡ get_or v.shown (start p i + j) 0 → ⊥) where
  abbrev t : List ℕ
  t = set v.shown (start p i + j) b

  whole : start p i + (p + 12) ≤ length v.shown
  whole = page_whole sum p v.shown i inside

  whole_after : start p i + (p + 12) ≤ length t
  whole_after = omega (arith, whole, length-set v.shown (start p i + j) b)

  few : j < p
  few = omega (arith, covers_few sum p v.shown i whole, covered)

  bytes_after : Bytes t
  bytes_after k = ⊎_elim
      (λ (e : k ≡ start p i + j). subst (λ m. get_or t m 0 < 256) (sym e)
      (subst (λ m. m < 256) (sym (get_or-set_same v.shown (start p i + j) b 0 (omega (arith, whole, few)))) fits))
      (λ (e : k ≡ start p i + j → ⊥). subst (λ m. m < 256) (sym (get_or-set_other v.shown (start p i + j) k b 0 e)) (sound.bytes k))
      (cases_eq k (start p i + j))

  at_page : (k : ℕ) → (k ≡ j → ⊥) → get_or (page_at p t i) k 0 ≡ get_or (page_at p v.shown i) k 0
  at_page k d = ⊎_elim
      (λ (l : k < p + 12). page_byte p t i k l ∙ get_or-set_other v.shown (start p i + j) (start p i + k) b 0 (λ e. d (omega (arith, e)))
      ∙ sym (page_byte p v.shown i k l))
      (λ (l : p + 12 ≤ k). get_or_past (page_at p t i) k 0 (omega (arith, page_long p t i whole_after))
      ∙ sym (get_or_past (page_at p v.shown i) k 0 (omega (arith, page_long p v.shown i whole))))
      (cases_lt k (p + 12))

  differs : get_or (page_at p t i) j 0 ≡ get_or (page_at p v.shown i) j 0 → ⊥
  differs e = other (sym (get_or-set_same v.shown (start p i + j) b 0 (omega (arith, whole, few))) ∙ sym (page_byte p t i j (omega (arith, few))) ∙ e
      ∙ page_byte p v.shown i j (omega (arith, few)))

  uncovered : cover sum (page_at p t i) ≤ j
  uncovered = altered sum law p small (page_at p v.shown i) (page_at p t i) (page_long p v.shown i whole) (page_long p t i whole_after)
      (bytes_of p v.shown i sound.bytes) (bytes_of p t i bytes_after) j few differs at_page (neat i whole)

  told : TellsAltered sum p v.shown i j b
  told = record {
    uncovered = uncovered;
    no_byte = ⊎_elim (λ e. e) (λ x. absurd (let s = opened_stands sum p t i j x.0 few x.1 in omega (arith, s.covered, uncovered)))
        (either_place (get_or (opened_log sum p t) (i * p + j) gap));
  }

module _ (sum : List ℕ → ℕ) (fits : FitsFour sum) (p : ℕ) (pos : 0 < p) (small : p ≤ 65535) where
  head : (v : BlobValue) → Head v → Fine sum fits p pos small (begin v) (record { log = []; promise = [] })
  head v h = record { sound = h.sound; guard = no_promise sum p v; writer = tt; settled = λ _. h.settled }

  empty : (v : BlobValue) → Head v → v.shown ≡ [] → Whole sum fits p pos small (begin v) (record { log = []; promise = [] })
  unfolding pages_log
  empty v h e = record {
    good = head v h;
    gapless = λ k l. absurd (omega (arith, l));
    neat = λ i l. absurd (omega (arith, ap length e));
    shows = λ _. exactly sum p v.shown pos 0 (ap length e ∙ sym (start_zero p)) (λ i l. absurd (omega arith)) (λ m q. absurd (omega (arith, q))) [] refl;
  }

  ends : (v : BlobValue) → Head v → v.shown ≡ [] → (before : List Event) → Calm before → (call : Call) → Promises call
      → (s : List ℕ) (end : LineState) → Line sum p (begin v) (before ++ (event call accepted s ∷ [])) end
      → Whole sum fits p pos small end (account sum p (before ++ (event call accepted s ∷ [])))
  ends v h e before c call q s end l = calm_end sum fits p pos small (begin v) end (record { log = []; promise = [] })
      (before ++ (event call accepted s ∷ [])) (empty v h e) (calm_last before call s c q) l

  pub law : Law sum p
  law = record {
    openings_hold = λ v h before after wish told s end l. along sum fits p pos small (begin v) end
        (record { log = []; promise = [] }) before after wish told s (head v h) l;
    size_is_log = λ v h es end l w e.
        let x = to_end sum fits p pos small (begin v) end (record { log = []; promise = [] }) es (head v h) l in
        sym (subst (λ y. WithWriter sum p end.blob y (account sum p es)) e x.writer).tracks.long;
    settled_after = λ v h before call c s end l.
        let x = to_end sum fits p pos small (begin v) end (record { log = []; promise = [] }) (before ++ (event call accepted s ∷ [])) (head v h) l in
        let o = last_open sum p (begin v) end before call s c l in
        let z = x.settled o.0 in
        (z, λ u d. restart_same end.blob u z d ∙ o.1);
    shows_log = λ v h e before after c call q s end l.
        let x = shorter sum p before after (event call accepted s) (begin v) end l in
        let o = last_open sum p (begin v) x.0 before call s q x.1 in
        subst (λ y. ShowsLog sum p y (account sum p (before ++ (event call accepted s ∷ []))).log) o.1
        ((ends v h e before c call q s x.0 x.1).shows o.0);
    reopened = λ v h e before after c call q s t wish told end l.
        let x = next_opening sum p before after (event call accepted s) wish told t (begin v) end l in
        let o = last_open sum p (begin v) x.0 before call s q x.2.0 in
        let y = (ends v h e before c call q s x.0 x.2.0).shows o.0 in
        let same = read_same (open_plan sum p (capacity_for p wish) x.0.blob.shown).ops x.0.blob x.1 (y.reads_only (capacity_for p wish)) x.2.1 in
        let here : t ≡ x.0.blob.shown = sym x.2.2 ∙ ap (λ z. z.shown) same in
        (here ∙ o.1, ap (opened_log sum p) here ∙ y.opened);
    tells_altered = λ one v h e before after c call q s end l i j b inside covered small_byte other.
        let x = shorter sum p before after (event call accepted s) (begin v) end l in
        let o = last_open sum p (begin v) x.0 before call s q x.1 in
        let y = ends v h e before c call q s x.0 x.1 in
        let here = sym o.1 in
        subst (λ z. TellsAltered sum p z i j b) o.1
        (told sum one p small x.0.blob y.good.sound y.neat i j b (subst (λ z. i < whole_pages p z) here inside)
        (subst (λ z. j < cover sum (page_at p z i)) here covered) small_byte
        (λ z. other (z ∙ ap (λ y. get_or y (start p i + j) 0) o.1)));
  }

pub the_law : TheLaw
the_law sum fits p pos small = law sum fits p pos small
