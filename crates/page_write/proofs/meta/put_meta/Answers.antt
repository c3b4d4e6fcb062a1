use Rattle.std.proofs.Common.{◌≡◌, ℕ, List, ◌++◌, length, refl, arith}
use Rattle.page_layout.specs.Writes.{u32_bytes}
use Rattle.page_write.specs.Pages.{meta_bytes}
use Rattle.page_write.proofs.Zeros.{beside}
use Rattle.page_write.proofs.meta.put_meta.Goals as goal

-- each number is written beside the one before it
pub returns : goal.returns
unfolding meta_bytes u32_bytes
returns c =
    let m = c.args.meta in
    let page = c.args.page.now in
    let size : length page ≡ 8192 = omega arith in
    let s1 : List ℕ = u32_bytes m.magic in
    let s2 : List ℕ = s1 ++ u32_bytes m.version in
    let s3 : List ℕ = s2 ++ u32_bytes m.root in
    let s4 : List ℕ = s3 ++ u32_bytes m.level in
    let s5 : List ℕ = s4 ++ u32_bytes m.fastroot in
    let e2 = beside page 24 size _ s1 (u32_bytes m.version) _ 28 c.put_u32.ensures.bytes c.put_u32-2.ensures.bytes refl (omega arith) in
    let e3 = beside page 24 size _ s2 (u32_bytes m.root) _ 32 e2 c.put_u32-3.ensures.bytes refl (omega arith) in
    let e4 = beside page 24 size _ s3 (u32_bytes m.level) _ 36 e3 c.put_u32-4.ensures.bytes refl (omega arith) in
    let e5 = beside page 24 size _ s4 (u32_bytes m.fastroot) _ 40 e4 c.put_u32-5.ensures.bytes refl (omega arith) in
    beside page 24 size _ s5 (u32_bytes m.fastlevel) _ 44 e5 c.put_u32-6.ensures.bytes refl (omega arith)
