use Rattle.std.proofs.Common.{◌+◌, ◌*◌, ◌%◌, ◌^◌, get_or, ap, ◌∙◌, arith}
use Rattle.std.proofs.lemmas.List.{at_drop_more, at_drop_all}
use Rattle.checks.specs.Older.{weigh}
use Rattle.checks.specs.Weights.{mod_mul_mod}
use Rattle.checks.proofs.older.OlderSumCheck.checksum.Goals as goal

pub loop-i-preserved : goal.loop-i-preserved
loop-i-preserved c =
    let b = get_or c.args.bytes.now c.loop-i.i 0 in
    let w = c.weight-total.ensures ∙ ap (λ n. n * (b + 1) % 2 ^ 32) c.place.ensures ∙ mod_mul_mod (c.loop-i.i + 1) (b + 1) (2 ^ 32) in
    let e = at_drop_more (weigh c.loop-i.i) c.args.bytes.now c.loop-i.i 0 c.loop-i-test.true in
    (omega (arith, w, e), omega arith)

pub returns : goal.returns
returns c = omega (arith, at_drop_all (weigh c.loop-i.i) c.args.bytes.now c.loop-i.i c.loop-i-test.false)
