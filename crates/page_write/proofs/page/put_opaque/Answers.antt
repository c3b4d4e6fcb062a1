use Rattle.std.proofs.Common.{◌≡◌, ℕ, List, ◌++◌, length, refl, arith}
use Rattle.page_layout.specs.Writes.{u16_bytes, u32_bytes}
use Rattle.page_write.specs.Pages.{opaque_bytes}
use Rattle.page_write.proofs.Zeros.{beside}
use Rattle.page_write.proofs.page.put_opaque.Goals as goal

-- each field is written beside the one before it
pub returns : goal.returns
unfolding opaque_bytes u16_bytes u32_bytes
returns c =
    let s = c.args.special in
    let page = c.args.page.now in
    let size : length page ≡ 8192 = omega arith in
    let s1 : List ℕ = u32_bytes s.prev in
    let s2 : List ℕ = s1 ++ u32_bytes s.next in
    let s3 : List ℕ = s2 ++ u32_bytes s.level in
    let s4 : List ℕ = s3 ++ u16_bytes s.flags in
    let e2 = beside page 8176 size _ s1 (u32_bytes s.next) _ 8180 c.put_u32.ensures.bytes c.put_u32-2.ensures.bytes refl (omega arith) in
    let e3 = beside page 8176 size _ s2 (u32_bytes s.level) _ 8184 e2 c.put_u32-3.ensures.bytes refl (omega arith) in
    let e4 = beside page 8176 size _ s3 (u16_bytes s.flags) _ 8188 e3 c.put_u16.ensures.bytes refl (omega arith) in
    beside page 8176 size _ s4 (u16_bytes s.cycle) _ 8190 e4 c.put_u16-2.ensures.bytes refl (omega arith)
