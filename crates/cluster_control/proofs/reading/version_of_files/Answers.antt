use Rattle.std.proofs.Common.{◌∙◌, sym, ap, arith}
use Rattle.outside.specs.declared.files.Part.TheVariants.{Segment}
use Rattle.cluster_control.proofs.Held.{version_read}
use Rattle.cluster_control.specs.Version.{or_unknown}
use Rattle.cluster_control.proofs.reading.version_of_files.Goals as goal

pub returns-in-Some-read_version-clause-told : goal.returns-in-Some-read_version-clause-told
returns-in-Some-read_version-clause-told g c = λ names told.
    ap or_unknown (sym c.in-Some-read_version.is ∙ c.read_version.ensures) ∙ version_read (names c.args.path.now (Segment 0)) c.in-Some.length c.read_at.new.out
    (sym c.in-Some.is ∙ c.in_ok-length.ensures.answer names told) (omega arith)
    (λ bytes held. c.in_ok-read_at.ensures.bytes names bytes (c.in_ok-length.ensures.asked.same ∙ told) held)
