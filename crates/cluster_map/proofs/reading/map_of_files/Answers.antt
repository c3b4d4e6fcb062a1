use Rattle.std.proofs.Common.{◌∙◌, sym}
use Rattle.outside.specs.declared.files.Part.TheVariants.{Segment}
use Rattle.cluster_map.proofs.Held.{map_long, map_read}
use Rattle.cluster_map.proofs.reading.map_of_files.Goals as goal

pub returns-then-length-clause-told : goal.returns-then-length-clause-told
returns-then-length-clause-told g c = λ names told.
    c.read_map.ensures ∙ map_read (names c.args.path.now (Segment 0)) c.in-Some.length 512 c.read_at.new.out
    (sym c.in-Some.is ∙ c.in_ok-length.ensures.answer names told) c.if-length.true
    (λ bytes held. c.in_ok-read_at.ensures.bytes names bytes (c.in_ok-length.ensures.asked.same ∙ told) held)

pub returns-then-length-2-clause-told : goal.returns-then-length-2-clause-told
returns-then-length-2-clause-told g c = λ names told.
    c.read_map-then-length-2.ensures ∙ map_read (names c.args.path.now (Segment 0)) c.in-Some.length 524 c.read_at-then-length-2.new.out
    (sym c.in-Some.is ∙ c.in_ok-length.ensures.answer names told) c.if-length-2.true
    (λ bytes held. c.in_ok-read_at-2.ensures.bytes names bytes (c.in_ok-length.ensures.asked.same ∙ told) held)

pub returns-clause-told : goal.returns-clause-told
returns-clause-told g c = λ names told.
    map_long (names c.args.path.now (Segment 0)) c.in-Some.length (sym c.in-Some.is ∙ c.in_ok-length.ensures.answer names told)
    c.if-length.false c.if-length-2.false
