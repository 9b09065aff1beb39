use Rattle.std.proofs.Common.{◌/◌, ◌^◌, ap, ◌∙◌}
use lib.Bits.{bit_xor, and_mask}
use Rattle.checks.specs.Crc.{after_bits}
use Rattle.checks.specs.Register.{byte_by_table}
use Rattle.checks.proofs.crc.step.Goals as goal

pub returns : goal.returns
returns c =
    let low = c.low.ensures ∙ and_mask (bit_xor c.args.register c.args.byte) 8 in
    ap (bit_xor c.entry.result) c.shifted.ensures
    ∙ ap (λ n. bit_xor n (c.args.register / 2 ^ 8)) (c.entry.ensures ∙ ap (after_bits 8 0) low)
    ∙ byte_by_table c.args.register c.args.byte
