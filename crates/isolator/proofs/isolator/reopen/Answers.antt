use Rattle.isolator.proofs.Turning.{shows}
use Rattle.isolator.proofs.isolator.reopen.Goals as goal

pub returns : goal.returns
returns g c =
    shows _ _ _ c.in_ok-open.field-0 _ _ c.in_ok-open.ensures.opened c.in_ok-read_back.ensures.lifts.0 c.in_ok-read_back.ensures.lifts.1
