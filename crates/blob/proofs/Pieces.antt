-- A write that goes out in pieces, in ascending order, is one write.
use Rattle.std.proofs.Common.{◌≡◌, ℕ, ◌+◌, ◌-◌, ◌<◌, ◌≤◌, max, true, ◌⊎◌, List, [], ◌++◌, length, get_or, sym, refl, ap, ◌∙◌, inl, inr, ⊎_elim, arith, length-append, rules}
use Rattle.std.proofs.lemmas.List.{places, same_lists}
use Rattle.std.proofs.lemmas.Bool.{cases_lt}
use Rattle.blob.specs.Value.{BlobValue}
use Rattle.blob.specs.Calls.{overwritten, WriteFits, SameByte, WriteKeeps, WriteDone, WriteCut}

-- what writes that were carried out piece by piece come to
pub record Pieced (v w : BlobValue) (o : ℕ) (bs : List ℕ) : Type 0 where
  pub fits : WriteFits v o bs
  pub power : w.power ≡ v.power
  pub shows : w.shown ≡ overwritten v.shown o bs
  pub keeps : WriteKeeps v w o bs

pub none : (v : BlobValue) (o : ℕ) → o ≤ length v.shown → length v.shown ≤ v.ceiling → Pieced v v o []
none v o h f = record {
  fits = (h, search (rules, places));
  power = refl;
  shows = same_lists _ _ (search (rules, places)) (λ k d j. grind (arith, places));
  keeps = record { ceiling = refl; firm = λ k e _. e; shortest = omega arith; longest = omega arith };
}

pub done : (v w : BlobValue) (o : ℕ) (bs : List ℕ) → Pieced v w o bs → w.power ≡ true → WriteDone v w o bs
done v w o bs p u = record { fits = p.fits; up = sym p.power ∙ u; up_after = u; shows = p.shows; keeps = p.keeps }

-- the places and the length of a string that was written over
module _ (s : List ℕ) (o : ℕ) (bs : List ℕ) (h : o ≤ length s) where
  pub over_length : length (overwritten s o bs) ≡ max (length s) (o + length bs)
  over_length = search (rules, places)

  pub over_out : (k : ℕ) → (k < o) ⊎ (o + length bs ≤ k) → get_or (overwritten s o bs) k 0 ≡ get_or s k 0
  over_out k (inl l) = grind (arith, places)
  over_out k (inr l) = grind (arith, places)

  pub over_in : (k : ℕ) → o ≤ k → k < o + length bs → get_or (overwritten s o bs) k 0 ≡ get_or bs (k - o) 0
  over_in k l j = grind (arith, places)

pub over_twice : (s : List ℕ) (o : ℕ) (xs ys : List ℕ) → o ≤ length s → overwritten (overwritten s o xs) (o + length xs) ys ≡ overwritten s o (xs ++ ys)
over_twice s o xs ys h = same_lists _ _ (search (rules, places)) (λ k d j. grind (arith, places))

over_front : (s : List ℕ) (o : ℕ) (xs ys : List ℕ) (k : ℕ) → o ≤ length s → k < o + length xs → get_or (overwritten s o (xs ++ ys)) k 0 ≡ get_or (overwritten s o xs) k 0
over_front s o xs ys k h j = grind (arith, places)

-- a byte that the whole write leaves is left by its front
same_front : (v : BlobValue) (o : ℕ) (xs ys : List ℕ) (k : ℕ) → o ≤ length v.shown → SameByte v o (xs ++ ys) k → SameByte v o xs k
same_front v o xs ys k h e = ⊎_elim
    (λ j. sym (over_front v.shown o xs ys k h j) ∙ e)
    (λ j. over_out v.shown o xs h k (inr j))
    (cases_lt k (o + length xs))

-- one piece more
module _ (v m : BlobValue) (o : ℕ) (xs ys : List ℕ) (p : Pieced v m o xs) where
  long : length m.shown ≡ max (length v.shown) (o + length xs)
  long = ap length p.shows ∙ over_length v.shown o xs p.fits.0

  outside : (k : ℕ) → (k < o) ⊎ (o + length xs ≤ k) → get_or m.shown k 0 ≡ get_or v.shown k 0
  outside k h = ap (λ s. get_or s k 0) p.shows ∙ over_out v.shown o xs p.fits.0 k h

  two : overwritten m.shown (o + length xs) ys ≡ overwritten v.shown o (xs ++ ys)
  two = ap (λ s. overwritten s (o + length xs) ys) p.shows ∙ over_twice v.shown o xs ys p.fits.0

  same_so_far : (k : ℕ) → SameByte v o (xs ++ ys) k → get_or m.shown k 0 ≡ get_or v.shown k 0
  same_so_far k e = ap (λ s. get_or s k 0) p.shows ∙ same_front v o xs ys k p.fits.0 e

  firm_so_far : (k : ℕ) → v.firm k ≡ true → SameByte v o (xs ++ ys) k → m.firm k ≡ true
  firm_so_far k f e = p.keeps.firm k f (same_front v o xs ys k p.fits.0 e)

  same_next : (k : ℕ) → SameByte v o (xs ++ ys) k → SameByte m (o + length xs) ys k
  same_next k e = ap (λ s. get_or s k 0) two ∙ e ∙ sym (same_so_far k e)

  whole_length : length (overwritten v.shown o (xs ++ ys)) ≡ max (length v.shown) (o + length xs + length ys)
  whole_length = over_length v.shown o (xs ++ ys) p.fits.0 ∙ simp length-append (omega arith)

  -- what the two pieces keep of what a cut leaves
  kept : (w : BlobValue) → WriteKeeps m w (o + length xs) ys → WriteKeeps v w o (xs ++ ys)
  kept w q = record {
    ceiling = q.ceiling ∙ p.keeps.ceiling;
    firm = λ k f e. q.firm k (firm_so_far k f e) (same_next k e);
    shortest = omega (arith, p.keeps.shortest, q.shortest);
    longest = omega (arith, p.keeps.longest, q.longest, whole_length, ap length two, over_length v.shown o xs p.fits.0);
  }

  pub more : (w : BlobValue) → WriteDone m w (o + length xs) ys → Pieced v w o (xs ++ ys)
  more w d = record {
    fits = (p.fits.0, simp length-append (omega (arith, d.fits.1, p.keeps.ceiling)));
    power = d.up_after ∙ sym (sym p.power ∙ d.up);
    shows = d.shows ∙ two;
    keeps = kept w d.keeps;
  }

  joined_cut : (w : BlobValue) → WriteCut m w (o + length xs) ys → WriteCut v w o (xs ++ ys)
  joined_cut w d = record {
    down = d.down;
    long = omega (arith, long, d.long);
    short = omega (arith, d.short, ap length two);
    outside = λ k j. d.outside k (⊎_elim (λ (i : k < o). inl (omega arith)) (λ (i : o + length (xs ++ ys) ≤ k). inr (let l = simp length-append at i in omega arith)) j)
        ∙ outside k (⊎_elim (λ (i : k < o). inl i) (λ (i : o + length (xs ++ ys) ≤ k). inr (let l = simp length-append at i in omega arith)) j);
    firm_bytes = λ k f e. d.firm_bytes k (firm_so_far k f e) (same_next k e) ∙ same_so_far k e;
    keeps = kept w d.keeps;
  }

-- a cut in a write is a cut in a longer one, of which the rest never went out
pub longer_cut : (v w : BlobValue) (o : ℕ) (xs ys : List ℕ) → o ≤ length v.shown → WriteCut v w o xs → WriteCut v w o (xs ++ ys)
longer_cut v w o xs ys h d =
    let a = over_length v.shown o xs h in
    let b : length (overwritten v.shown o (xs ++ ys)) ≡ max (length v.shown) (o + length xs + length ys) = over_length v.shown o (xs ++ ys) h ∙ simp length-append (omega arith) in
    record {
      down = d.down;
      long = d.long;
      short = omega (arith, d.short);
      outside = λ k j. d.outside k (⊎_elim (λ (i : k < o). inl i) (λ (i : o + length (xs ++ ys) ≤ k). inr (let l = simp length-append at i in omega arith)) j);
      firm_bytes = λ k f e. d.firm_bytes k f (same_front v o xs ys k h e);
      keeps = record {
        ceiling = d.keeps.ceiling;
        firm = λ k f e. d.keeps.firm k f (same_front v o xs ys k h e);
        shortest = d.keeps.shortest;
        longest = omega (arith, d.keeps.longest);
      };
    }

-- a cut in the second piece is a cut in the whole, of which a third piece never went out
pub cut : (v m w : BlobValue) (o : ℕ) (xs ys zs : List ℕ) → Pieced v m o xs → WriteCut m w (o + length xs) ys → WriteCut v w o (xs ++ ys ++ zs)
cut v m w o xs ys zs p d = longer_cut v w o (xs ++ ys) zs p.fits.0 (joined_cut v m o xs ys p w d)
