-- A line and one call more.
use Rattle.std.proofs.Common.{◌≡◌, ℕ, List, [], ◌∷◌, ◌++◌, refl}
use Rattle.blob.specs.Value.{Sound}
use Rattle.law.specs.Events.{Account, Call, Event, Outcome, account_after, account_from, event}
use Rattle.law.specs.Lines.{Line, LineState, Step, none, then}

pub longer : {sum : List ℕ → ℕ} {p : ℕ} {es : List Event} {s mid end : LineState} {call : Call} {outcome : Outcome}
    → Line sum p s es mid → Step sum p mid call outcome end → Sound end.blob → Line sum p s (es ++ (event call outcome end.blob.shown ∷ [])) end
longer none d q = then d q none
longer (then e r l) d q = then e r (longer l d q)

pub account_longer : (sum : List ℕ → ℕ) (p : ℕ) (es : List Event) (a : Account) (e : Event)
    → account_from sum p a (es ++ (e ∷ [])) ≡ account_after sum p (account_from sum p a es) e
account_longer sum p [] a e = refl
account_longer sum p (x ∷ es) a e = account_longer sum p es (account_after sum p a x) e
