-- A writer puts out pages: what that does to the guard, and to what the writer tracks.
use Rattle.std.proofs.Common.{◌≡◌, ℕ, zero, suc, ◌+◌, ◌-◌, ◌*◌, ◌^◌, ◌<◌, ◌≤◌, ◌⊎◌, List, length, get_or, take, drop, Some, None, Option, Result, sym, refl, ap, ◌∙◌, subst, ⊎_elim, arith, length-drop, length-take, get_or-take}
use Rattle.std.proofs.lemmas.Nat.{mul-add-lt, mul-le}
use Rattle.std.proofs.lemmas.List.{get_or-drop, get_or_past}
use Rattle.std.proofs.lemmas.Bool.{cases_lt}
use Rattle.checks.specs.Check.{FitsFour}
use Rattle.blob.specs.Calls.{Wrote, overwritten}
use Rattle.blob.specs.Value.{BlobValue, Sound}
use Rattle.blob.specs.declared.Fault.{Fault}
use Rattle.page.specs.Footer.{slot_bytes}
use Rattle.page.specs.Layout.{page_at, start}
use Rattle.page.specs.Verdict.{cover}
use Rattle.page.specs.declared.slot.ActiveChecksum.{ActiveChecksum}
use Rattle.flush.proofs.Rows.{part_fits}
use Rattle.flush.specs.Pages.{first_only, page_of, part, physical_page, physical_pages}
use Rattle.plan.specs.Sync.{new_slot}
use Rattle.law.specs.Events.{Bytes}
use Rattle.law.specs.Log.{Place, byte, gap, page_place}
use Rattle.law.proofs.Altered.{bytes_take}
use Rattle.law.proofs.Guard.{Firm, Guard}
use Rattle.law.proofs.Kept.{write_behind, write_last}
use Rattle.law.proofs.Opening.{place_covered}
use Rattle.law.proofs.Physical.{OlderKept, new_cover, new_neat, new_there, new_valid, old_bytes, page_data, slot_encode}
use Rattle.law.proofs.Places.{page_byte, page_long, same_take, slot_inside, start_less, start_more}
use Rattle.law.proofs.Slots.{Neat, Valid, slot_of, slot_start}
use Rattle.law.proofs.Writer.{AllNeat, Counts, Flushed, Tracks}
use Rattle.law.proofs.Written.{after_long, all_at, all_long, page_before, page_new, part_at, part_bytes, part_long, start_add, start_zero}

pub bytes_of : (p : ℕ) (s : List ℕ) (c : ℕ) → Bytes s → Bytes (page_at p s c)
unfolding page_at
bytes_of p s c small k = ⊎_elim
    (λ h. subst (λ n. n < 256) (sym (get_or-take (p + 12) (drop (start p c) s) k 0 h ∙ get_or-drop (start p c) s k 0)) (small (start p c + k)))
    (λ (h : p + 12 ≤ k). subst (λ n. n < 256) (sym (get_or_past (take (p + 12) (drop (start p c) s)) k 0 (simp length-take (omega arith)))) (omega arith))
    (cases_lt k (p + 12))

pub page_bytes : (p : ℕ) (v : BlobValue) (c : ℕ) → Sound v → Bytes (page_at p v.shown c)
page_bytes p v c s = bytes_of p v.shown c s.bytes

-- what a flushed slot is to the page that takes its place
pub older : (sum : List ℕ → ℕ) → FitsFour sum → (p : ℕ) → p ≤ 65535 → (v : BlobValue) (c : ℕ) (tip : List ℕ) (f : Option ActiveChecksum) → Sound v
    → Flushed sum p v.shown c tip f → ((a : ActiveChecksum) → f ≡ Some a → a.len < length (part p tip 0)) → OlderKept sum (part p tip 0) f
older sum fits p small v c tip None s e l = tt
older sum fits p small v c tip (Some a) s e l =
    let page = page_at p v.shown c in
    let n : (slot_of p (page_at p v.shown c) a.slot).len ≡ a.len = ap (λ (x : ActiveChecksum). x.len) e.there in
    let q : (slot_of p (page_at p v.shown c) a.slot).check ≡ a.check = ap (λ (x : ActiveChecksum). x.check) e.there in
    let long = page_long p v.shown c (omega (arith, e.whole)) in
    let less = l a refl in
    let same : take a.len (part p tip 0) ≡ take a.len (page_at p v.shown c)
    = same_take a.len (page_at p v.shown c) (part p tip 0) (omega (arith, e.short)) (omega arith)
    (λ k h. part_at p tip 0 k (omega arith) ∙ ap (λ m. get_or tip m 0) (omega arith) ∙ sym (page_byte p v.shown c k (omega (arith, e.short)) ∙ e.same k h)) in
    let check : sum (take a.len (page_at p v.shown c)) ≡ a.check = ap (λ m. sum (take m (page_at p v.shown c))) (sym n) ∙ e.valid.check ∙ q in
    record {
      low = omega (arith, e.valid.low);
      shorter = less;
      fits = subst (λ m. m < 2 ^ 32) check (fits (take a.len (page_at p v.shown c))
          (bytes_take a.len (page_at p v.shown c) (omega (arith, e.short)) (page_bytes p v c s)));
      check = ap sum same ∙ check;
    }

module _ (sum : List ℕ → ℕ) (fits : FitsFour sum) (p : ℕ) (pos : 0 < p) (small : p ≤ 65535) (tip : List ℕ) (are : Bytes tip) (n : ℕ) (some : 0 < n)
    (h : (k : ℕ) → k < n → k * p < length tip) where
  first_part : 0 < length (part p tip 0)
  first_part = omega (arith, part_long p tip 0, h 0 some)

  first_byte : (old : Option ActiveChecksum) (j : ℕ) → j < p + 12 → get_or (physical_pages sum p tip old n) j 0 ≡ get_or (physical_page sum p (part p tip 0) old) j 0
  first_byte old j l = ap (λ m. get_or (physical_pages sum p tip old n) m 0) (omega (arith, start_zero p)) ∙ all_at sum p tip old n 0 j some l

  pub put_guard : (v u : BlobValue) (c : ℕ) (f : Option ActiveChecksum) (promise : List Place) (r : Result (Unit {0}) Fault) → Sound v
      → Flushed sum p v.shown c tip f → Firm v ⊎ (f ≡ None)
      → OlderKept sum (part p tip 0) f → Wrote v (start p c) (physical_pages sum p tip f n) u r → Guard sum p v promise → Guard sum p u promise
  put_guard v u c None promise r s e firm o d g = write_behind sum p v u promise (start p c) (physical_pages sum p tip None n) r (omega (arith, e)) d g
  put_guard v u c (Some a) promise r s e firm o d g =
      let all : Firm v = ⊎_elim (λ y. y) (λ y. let z : ◌≡◌ {A = ℕ} 0 1 = cc in absurd (omega arith)) firm in
      let l : (slot_of p (page_at p v.shown c) a.slot).len ≡ a.len = ap (λ (z : ActiveChecksum). z.len) e.there in
      let few = part_fits p 0 tip in
      let many : p + 12 ≤ length (physical_pages sum p tip (Some a) n) = omega (arith, all_long sum p tip (Some a) n, start_less p 0 n some) in
      write_last sum p v u promise c a.slot (physical_pages sum p tip (Some a) n) r s all e.whole many e.valid (e.most ∙ sym l)
      (λ k q.
      let i : k < length (part p tip 0) = omega (arith, o.shorter) in
      first_byte (Some a) k (omega arith) ∙ page_data sum fits p small (part p tip 0) (part_bytes p tip 0 are) first_part few (Some a) k i
      ∙ part_at p tip 0 k i ∙ ap (λ m. get_or tip m 0) (omega arith) ∙ sym (e.same k (omega arith)))
      (λ k q. first_byte (Some a) (slot_start p a.slot + k) (slot_inside p a.slot k q)
      ∙ old_bytes sum fits p small (part p tip 0) (part_bytes p tip 0 are) first_part few a k q
      ∙ ap (λ (z : ActiveChecksum). get_or (slot_bytes z.len z.check) k 0) (sym e.there)
      ∙ slot_encode p (page_at p v.shown c) a.slot (page_bytes p v c s) k q
      ∙ page_byte p v.shown c (slot_start p a.slot + k) (slot_inside p a.slot k q))
      d g

  older_at : (f : Option ActiveChecksum) → OlderKept sum (part p tip 0) f → (k : ℕ) → OlderKept sum (part p tip k) (first_only f k)
  older_at f o zero = o
  older_at f o (suc k) = tt

  some_at : (k : ℕ) → k < n → 0 < length (part p tip k)
  some_at k l = omega (arith, part_long p tip k, h k l)

  cover_at : (f : Option ActiveChecksum) → OlderKept sum (part p tip 0) f → (k : ℕ) → k < n → cover sum (page_of sum p tip f k) ≡ length (part p tip k)
  cover_at f o k l = new_cover sum fits p small (part p tip k) (part_bytes p tip k are) (some_at k l) (part_fits p k tip) (first_only f k) (older_at f o k)

  byte_at : (f : Option ActiveChecksum) (k j : ℕ) → k < n → j < length (part p tip k) → get_or (page_of sum p tip f k) j 0 ≡ get_or tip (k * p + j) 0
  byte_at f k j l q = page_data sum fits p small (part p tip k) (part_bytes p tip k are) (some_at k l) (part_fits p k tip) (first_only f k) j q
      ∙ part_at p tip k j q

  module _ (s t : List ℕ) (c : ℕ) (f : Option ActiveChecksum) (e : Flushed sum p s c tip f) (o : OlderKept sum (part p tip 0) f)
      (shows : t ≡ overwritten s (start p c) (physical_pages sum p tip f n)) where
    from : (f : Option ActiveChecksum) → Flushed sum p s c tip f → (start p c ≤ length s) × (length s ≤ start p (c + n))
    from None e = (omega (arith, e), omega (arith, e, start_add p c n))
    from (Some x) e = let w = e.whole in (omega arith, omega (arith, start_less p c (c + n) (omega arith)))

    pub put_long : length t ≡ start p (c + n)
    put_long = let a = from f e in ap length shows ∙ after_long sum p tip f s c n a.0 ∙ omega (arith, a.1)

    put_before : (i : ℕ) → i < c → page_at p t i ≡ page_at p s i
    put_before i l = ap (λ x. page_at p x i) shows ∙ page_before sum p tip f s c n (from f e).0 i l

    put_page : (k : ℕ) → k < n → page_at p t (c + k) ≡ page_of sum p tip f k
    put_page k l = ap (λ x. page_at p x (c + k)) shows ∙ page_new sum p tip f s c n (from f e).0 k l

    -- every page is as it was, or one of the new ones
    pub put_neat : AllNeat sum p s → AllNeat sum p t
    put_neat neat i q = ⊎_elim
        (λ (z : i < c). subst (Neat sum p) (sym (put_before i z)) (neat i (omega (arith, start_less p i c z, (from f e).0))))
        (λ (z : c ≤ i).
        let y : i ≡ c + (i - c) = omega arith in
        let g : i - c < n = ⊎_elim (λ (l : i < c + n). omega arith) (λ (l : c + n ≤ i). absurd
        (⊎_elim (λ (m : c + n < i). omega (arith, put_long, start_less p (c + n) i m))
        (λ (m : i ≤ c + n). let j : i ≡ c + n = omega arith in omega (arith, put_long, ap (start p) j)) (cases_lt (c + n) i)))
        (cases_lt i (c + n)) in
        subst (Neat sum p) (sym (ap (page_at p t) y ∙ put_page (i - c) g))
        (new_neat sum fits p small (part p tip (i - c)) (part_bytes p tip (i - c) are) (some_at (i - c) g) (part_fits p (i - c) tip)
        (first_only f (i - c)) (older_at f o (i - c))))
        (cases_lt i c)

    -- the first m pages are full
    pub put_tracks : (m : ℕ) (log : List Place) → m ≤ n → m * p ≤ length tip → Tracks sum p s c tip log → Tracks sum p t (c + m) (drop (m * p) tip) log
    put_tracks m log l q r = record {
      long = r.long ∙ simp length-drop (omega arith);
      in_tip = λ k a.
          let b : k < length tip - m * p = simp length-drop at a in
          ap (λ i. get_or log i gap) (omega arith) ∙ r.in_tip (m * p + k) (omega arith) ∙ ap byte (sym (get_or-drop (m * p) tip k 0));
      in_page = λ i j a b. ⊎_elim
          (λ z. r.in_page i j z b ∙ ap (λ x. page_place sum x j) (sym (put_before i z)))
          (λ (z : c ≤ i).
          let y : i ≡ c + (i - c) = omega arith in
          let d : i - c < m = omega arith in
          let u = mul-add-lt (i - c) p j m d b in
          let full : length (part p tip (i - c)) ≡ p = part_long p tip (i - c) ∙ omega (arith, mul-le (i - c + 1) p m p (omega arith) (omega arith)) in
          let g : i - c < n = omega arith in
          ap (λ x. get_or log x gap) (ap (λ x. x * p + j) y ∙ (let z : (c + (i - c)) * p + j ≡ c * p + ((i - c) * p + j) = omega arith in z))
          ∙ r.in_tip ((i - c) * p + j) (omega arith)
          ∙ ap byte (sym (byte_at f (i - c) j g (omega arith)))
          ∙ sym (place_covered sum (page_of sum p tip f (i - c)) j (omega (arith, cover_at f o (i - c) g)))
          ∙ ap (λ x. page_place sum x j) (sym (ap (λ x. page_at p t x) y ∙ put_page (i - c) g)))
          (cases_lt i c);
    }

    -- the page behind them has the rest
    pub put_counts : (m : ℕ) → m + 1 ≡ n → length (part p tip m) < p
        → Counts sum p t (c + m) (drop (m * p) tip) (record { slot = new_slot (first_only f m); len = length (part p tip m); check = sum (part p tip m) })
    put_counts m q short =
        let g : m < n = omega arith in
        let page : page_at p t (c + m) ≡ physical_page sum p (part p tip m) (first_only f m) = put_page m g in
        let x = some_at m g in
        let few = part_fits p m tip in
        let b = part_bytes p tip m are in
        let whole : start p (c + m) + (p + 12) ≡ length t = sym (start_more p (c + m)) ∙ ap (start p) (omega arith) ∙ sym put_long in
        record {
          whole = whole;
          there = ap (λ y. slot_of p y (new_slot (first_only f m))) page ∙ new_there sum fits p small (part p tip m) b x few (first_only f m);
          valid = subst (λ y. Valid sum p y (new_slot (first_only f m))) (sym page) (new_valid sum fits p small (part p tip m) b x few (first_only f m));
          most = ap (cover sum) page ∙ cover_at f o m g;
          short = short;
          under = simp length-drop (omega (arith, part_long p tip m));
          same = λ k a. sym (page_byte p t (c + m) k (omega arith)) ∙ ap (λ y. get_or y k 0) page ∙ byte_at f m k g a ∙ sym (get_or-drop (m * p) tip k 0);
        }
