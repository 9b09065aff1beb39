use Rattle.std.proofs.Common.{◌+◌, drop, sym, ap, ◌∙◌}
use lib.Bits.{bit_xor}
use Rattle.std.proofs.lemmas.List.{at_drop_more, at_drop_all}
use Rattle.checks.specs.Crc.{after_bytes, ones}
use Rattle.checks.proofs.crc.Crc32cCheck.checksum.Goals as goal

pub loop-b-preserved : goal.loop-b-preserved
loop-b-preserved c =
    let e = at_drop_more (after_bytes c.loop-b.register) c.args.bytes.now c.loop-b.b-index 0 c.loop-b-test.true in
    ap (λ s. after_bytes s (drop (c.loop-b.b-index + 1) c.args.bytes.now)) c.step-register.ensures ∙ sym e ∙ c.loop-b.invariant

pub returns : goal.returns
returns c =
    let e = at_drop_all (after_bytes c.loop-b.register) c.args.bytes.now c.loop-b.b-index c.loop-b-test.false in
    c.complemented.ensures ∙ ap (λ s. bit_xor s ones) (sym e ∙ c.loop-b.invariant)
