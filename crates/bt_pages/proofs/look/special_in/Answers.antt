use Rattle.std.proofs.Common.{◌∙◌, ap, arith}
use Rattle.page_layout.specs.Page.{u16_at, u32_at}
use Rattle.bt_meta.specs.Pages.{opaque_of}
use Rattle.bt_pages.proofs.Parts.{u16_at-part, u32_at-part}
use Rattle.bt_pages.proofs.look.special_in.Goals as goal

pub returns : goal.returns
unfolding opaque_of
returns c page is =
    let prev = c.u32_at.ensures ∙ ap (λ b. u32_at b 0) is ∙ u32_at-part page 8176 16 0 (omega arith) in
    let next = c.u32_at-2.ensures ∙ ap (λ b. u32_at b 4) is ∙ u32_at-part page 8176 16 4 (omega arith) in
    let level = c.u32_at-3.ensures ∙ ap (λ b. u32_at b 8) is ∙ u32_at-part page 8176 16 8 (omega arith) in
    let flags = c.u16_at.ensures ∙ ap (λ b. u16_at b 12) is ∙ u16_at-part page 8176 16 12 (omega arith) in
    let cycle = c.u16_at-2.ensures ∙ ap (λ b. u16_at b 14) is ∙ u16_at-part page 8176 16 14 (omega arith) in
    λ i. record { prev = prev i; next = next i; level = level i; flags = flags i; cycle = cycle i }
