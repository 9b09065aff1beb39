use Rattle.std.proofs.Common.{vec_items, ◌∙◌}
use Rattle.kinds.specs.Later.{later}
use Rattle.isolator.proofs.Turning.{rest_of, came_back}
use Rattle.isolator.proofs.isolator.come_back.Goals as goal

pub returns : goal.returns
returns c =
    came_back _ (later c.restart.new.self) (later c.reopen.new.blob) c.args.shift.now (vec_items c.in_ok-lifts.lifts) _ _ _ c.args.progress
    c.judge-outcome.result c.in_ok-whole.whole _
    c.restart.ensures.restarted c.in_ok-lifts.ensures c.deref.ensures.value c.judge-outcome.ensures
    c.shown.ensures (rest_of _ _ _ _ (c.len.ensures ∙ c.in_ok-lifts.lifts.ok.0) c.min-from.ensures) c.in_ok-whole.ensures
    c.worse.ensures
