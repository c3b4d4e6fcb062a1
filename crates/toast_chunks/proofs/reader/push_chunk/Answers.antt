use Rattle.std.proofs.Common.{Some, None, sym, ap, ◌∙◌, append-nil}
use Rattle.std.specs.Option.{option_copied}
use Rattle.toast_chunks.proofs.InHand.{pushed}
use Rattle.toast_chunks.proofs.reader.push_chunk.Goals as goal

pub returns-in-Ok-clause-bytes : goal.returns-in-Ok-clause-bytes
returns-in-Ok-clause-bytes g c = λ names told.
    pushed names c.args.toast.now c.args.tid c.take_page.new.in_hand c.take_page.new.page (Some c.in-Some.content.now) c.args.bytes.now.items c.extend_from_slice.new.self.items (c.in_ok-take_page.ensures.hand names told) c.in_ok-take_page.ensures.ok (λ row. sym (ap option_copied c.in-Some.is) ∙ c.in_ok-content.ensures row) c.in-Ok.ensures.items

pub returns-in-None-clause-bytes : goal.returns-in-None-clause-bytes
returns-in-None-clause-bytes g c = λ names told.
    pushed names c.args.toast.now c.args.tid c.take_page.new.in_hand c.take_page.new.page None c.args.bytes.now.items c.args.bytes.now.items (c.in_ok-take_page.ensures.hand names told) c.in_ok-take_page.ensures.ok (λ row. sym (ap option_copied c.in-None.is) ∙ c.in_ok-content.ensures row) (sym (append-nil c.args.bytes.now.items))
