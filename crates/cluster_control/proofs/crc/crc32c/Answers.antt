use Rattle.std.proofs.Common.{◌∙◌, ◌<◌, suc, drop, get_or, sym, ap, subst, arith, add-one, drop-cons}
use Rattle.std.specs.Prelude.{bit_xor}
use Rattle.std.proofs.lemmas.List.{drop_all}
use Rattle.cluster_control.specs.Crc.{Shifts, rest_of}
use Rattle.cluster_control.proofs.Division.{byte_comes, turned}
use Rattle.cluster_control.proofs.crc.crc32c.Goals as goal

pub loop-byte-preserved : goal.loop-byte-preserved
loop-byte-preserved c =
    let bytes = c.args.bytes.now in
    let i = c.loop-byte.byte-index in
    let new = c.shift_byte-register.result in
    let shifts = subst (λ b. Shifts 8 (bit_xor c.loop-byte.register b) new) c.from.ensures c.shift_byte-register.ensures in
    let small : get_or bytes i 0 < 256 = omega (arith, c.type_inv.bytes i) in
    rw add-one (sym (byte_comes c.loop-byte.register (get_or bytes i 0) new (drop (suc i) bytes) small shifts)
    ∙ ap (rest_of c.loop-byte.register) (sym (drop-cons bytes i 0 c.loop-byte-test.true)) ∙ c.loop-byte.invariant)

pub returns : goal.returns
returns c =
    let bytes = c.args.bytes.now in
    let register = c.loop-byte.register in
    turned bytes register (omega arith)
    (ap (rest_of register) (sym (drop_all c.loop-byte.byte-index bytes c.loop-byte-test.false)) ∙ c.loop-byte.invariant)
