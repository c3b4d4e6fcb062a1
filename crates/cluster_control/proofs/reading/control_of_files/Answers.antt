use Rattle.std.proofs.Common.{◌∙◌, sym, arith}
use Rattle.outside.specs.declared.files.Part.TheVariants.{Segment}
use Rattle.cluster_control.proofs.Held.{control_read}
use Rattle.cluster_control.proofs.reading.control_of_files.Goals as goal

pub returns-clause-told : goal.returns-clause-told
returns-clause-told g c = λ names told.
    c.read_control.ensures ∙ control_read (names c.args.path.now (Segment 0)) c.in-Some.length c.read_at.new.out
    (sym c.in-Some.is ∙ c.in_ok-length.ensures.answer names told) (omega arith)
    (λ bytes held. c.in_ok-read_at.ensures.bytes names bytes (c.in_ok-length.ensures.asked.same ∙ told) held)
