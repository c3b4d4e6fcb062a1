use Rattle.std.proofs.Common.{◌∙◌, ◌+◌, ◌-◌, ◌∷◌, ◌++◌, [], length, arith, ap, ℕ, sym}
use Rattle.page_layout.specs.Writes.{with_bytes}
use Rattle.page_write.specs.Pages.{pointer_bytes}
use Rattle.page_write.proofs.Laying.{added, body_with, room-snoc}
use Rattle.std.proofs.lemmas.List.{length-append}
use Rattle.page_write.proofs.page.PageWriter.add.Goals as goal

pub returns-clause-items : goal.returns-clause-items
returns-clause-items c = λ place items holds.
    let w = c.args.self.now in
    let item = c.args.item.now in
    let lower = holds.lower in
    let upper = holds.upper in
    let fits = c.requires in
    let size = c.max_align.ensures.value in
    let more = room-snoc items item in
    let count = length-append items (item ∷ []) in
    record {
      bytes =
          added place w.upper w.lower items item w.bytes _ _ lower upper fits holds.bytes
          (c.put_pointer.ensures ∙ ap (λ (n : ℕ). with_bytes w.bytes w.lower (pointer_bytes (w.upper - n) (length item))) size)
          (c.put_bytes.ensures ∙ ap (λ (n : ℕ). with_bytes c.put_pointer.new.page (w.upper - n) item) size)
          ∙ ap (λ (n : ℕ). body_with place (items ++ item ∷ []) (w.upper - n - (w.lower + 4))) (sym size);
      lower = omega (arith, lower, count);
      upper = omega (arith, upper, fits, size, more);
      special = holds.special;
    }
