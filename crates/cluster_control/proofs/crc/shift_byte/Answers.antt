use Rattle.cluster_control.proofs.Division.{shift_more, shift_none}
use Rattle.cluster_control.proofs.crc.shift_byte.Goals as goal

pub loop-done-init : goal.loop-done-init
loop-done-init c = shift_none c.args.register

pub loop-done-preserved : goal.loop-done-preserved
loop-done-preserved c =
    shift_more c.loop-done._done c.args.register c.loop-done.shifted c.shift-shifted.result c.loop-done.invariant c.shift-shifted.ensures
