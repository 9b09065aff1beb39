-- A log is a row of places, each a byte or a gap. The log that an opening sets, and what it means that a log holds a promise.
use Rattle.std.specs.Prelude.{◌≡◌, ℕ, zero, suc, cond, List, [], ◌∷◌, ◌++◌, nat_lt, slice_index, slice_index_or}
use Rattle.page.specs.Layout.{page_at}
use Rattle.page.specs.Verdict.{cover}
use Rattle.plan.specs.Open.{whole_pages, pages_kept}

pub data Place : Type 0 where
  gap : Place
  byte : ℕ → Place

-- the place k of a page: its byte where the page's verdict covers it, and otherwise a gap
unfoldable pub page_place : (List ℕ → ℕ) → List ℕ → ℕ → Place
page_place sum page k = cond (nat_lt k (cover sum page)) (byte (slice_index page k)) gap

-- the first n places of a page
unfoldable pub page_places : (List ℕ → ℕ) → List ℕ → ℕ → List Place
page_places sum page zero = []
page_places sum page (suc n) = page_places sum page n ++ (page_place sum page n ∷ [])

-- p places for each of the first n pages of s
unfoldable pub full_rows : (List ℕ → ℕ) → ℕ → List ℕ → ℕ → List Place
full_rows sum p s zero = []
full_rows sum p s (suc n) = full_rows sum p s n ++ page_places sum (page_at p s n) p

-- the log of the first n pages of s: p places for each but the last, and for that as many as its verdict covers
unfoldable pub pages_log : (List ℕ → ℕ) → ℕ → List ℕ → ℕ → List Place
pages_log sum p s zero = []
pages_log sum p s (suc n) = full_rows sum p s n ++ page_places sum (page_at p s n) (cover sum (page_at p s n))

-- the log that an opening sets where the blob shows s: that of the pages which it keeps
unfoldable pub opened_log : (List ℕ → ℕ) → ℕ → List ℕ → List Place
opened_log sum p s = pages_log sum p s (pages_kept sum p s (whole_pages p s))

-- each byte of the promise stands at its place in the log
abbrev pub Holds : List Place → List Place → Type 0
Holds log promise = (k b : ℕ) → slice_index_or promise k gap ≡ byte b → slice_index_or log k gap ≡ byte b
