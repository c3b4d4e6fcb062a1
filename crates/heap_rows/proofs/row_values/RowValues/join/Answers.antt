use Rattle.std.proofs.Common.{◌≡◌}
use Rattle.rel_files.specs.declared.check_fault.PageFault.TheVariants as page
use Rattle.toast_chunks.specs.declared.fault.ToastFault.TheVariants as toast
use Rattle.heap_rows.proofs.ReadLaws.{asked-err, asked-ok, chunks-in}
use Rattle.heap_rows.proofs.RowValues.{readable_in}
use Rattle.heap_rows.proofs.row_values.RowValues.join.Goals as goal

pub push_value-requires-clause-attached : goal.push_value-requires-clause-attached
push_value-requires-clause-attached g c = λ names told.
    (readable_in names c.args.from.now.toast c.in-Some.toast c.args.from.now.chunks.now c.in-Some.is (c.requires.readable names told)).0

pub push_value-requires-clause-stand : goal.push_value-requires-clause-stand
push_value-requires-clause-stand g c = λ names told.
    (readable_in names c.args.from.now.toast c.in-Some.toast c.args.from.now.chunks.now c.in-Some.is (c.requires.readable names told)).1

pub returns-in-Ok-clause-asked : goal.returns-in-Ok-clause-asked
returns-in-Ok-clause-asked g c = asked-ok (chunks-in c.args.from.now.toast c.in-Some.toast c.args.p c.in-Some.is) c.in-Ok.ensures.asked

pub returns-in-Err-ReadFault-clause-asked : goal.returns-in-Err-ReadFault-clause-asked
returns-in-Err-ReadFault-clause-asked g c =
    asked-err c.in-Err-ReadFault.field-0 toast.ReadFault page.ReadFault page.ReadFault (chunks-in c.args.from.now.toast c.in-Some.toast c.args.p c.in-Some.is)
    (λ is. c.in-Err-ReadFault.field-0-is) c.in-Err-ReadFault.ensures.asked

pub returns-in-Err-NoMemory-clause-asked : goal.returns-in-Err-NoMemory-clause-asked
returns-in-Err-NoMemory-clause-asked g c =
    asked-err c.in-Err-NoMemory.field-0 toast.ReadFault page.NoMemory page.ReadFault (chunks-in c.args.from.now.toast c.in-Some.toast c.args.p c.in-Some.is)
    (λ is. absurd (let clash : page.NoMemory ≡ page.ReadFault = is in cc)) c.in-Err-NoMemory.ensures.asked
