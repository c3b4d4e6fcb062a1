use Rattle.std.proofs.Common.{◌≡◌, ◌≤◌, ◌+◌, ℕ, List, ◌++◌, length, ◌∙◌, ap, refl, arith}
use Rattle.page_layout.specs.Page.{header_of}
use Rattle.page_layout.specs.Writes.{header_bytes, u16_bytes, u32_bytes, with_bytes}
use Rattle.page_layout.proofs.Writing.{IsHeader, reads_header, write_next}
use Rattle.page_layout.proofs.writers.put_header.Goals as goal

-- a piece written beside those that stand already
also : (page : List ℕ) (size : length page ≡ 8192) (one front back two : List ℕ) (next : ℕ)
    → one ≡ with_bytes page 0 front → two ≡ with_bytes one next back → length front ≡ next → next + length back ≤ 24
    → two ≡ with_bytes page 0 (front ++ back)
also page size one front back two next e f len fits =
    f ∙ ap (λ bytes. with_bytes bytes next back) e ∙ write_next page front back 0 next (omega (arith, size, len, fits)) (omega (arith, len))

-- each field is written beside the one before it
pub returns-clause-bytes : goal.returns-clause-bytes
unfolding header_bytes u16_bytes u32_bytes
returns-clause-bytes c =
    let h = c.args.header in
    let page = c.args.page.now in
    let size : length page ≡ 8192 = omega arith in
    let s1 : List ℕ = u32_bytes h.lsn_high in
    let s2 : List ℕ = s1 ++ u32_bytes h.lsn_low in
    let s3 : List ℕ = s2 ++ u16_bytes h.checksum in
    let s4 : List ℕ = s3 ++ u16_bytes h.flags in
    let s5 : List ℕ = s4 ++ u16_bytes h.lower in
    let s6 : List ℕ = s5 ++ u16_bytes h.upper in
    let s7 : List ℕ = s6 ++ u16_bytes h.special in
    let s8 : List ℕ = s7 ++ u16_bytes h.version in
    let e2 = also page size _ s1 (u32_bytes h.lsn_low) _ 4 c.put_u32.ensures.bytes c.put_u32-2.ensures.bytes refl (omega arith) in
    let e3 = also page size _ s2 (u16_bytes h.checksum) _ 8 e2 c.put_u16.ensures.bytes refl (omega arith) in
    let e4 = also page size _ s3 (u16_bytes h.flags) _ 10 e3 c.put_u16-2.ensures.bytes refl (omega arith) in
    let e5 = also page size _ s4 (u16_bytes h.lower) _ 12 e4 c.put_u16-3.ensures.bytes refl (omega arith) in
    let e6 = also page size _ s5 (u16_bytes h.upper) _ 14 e5 c.put_u16-4.ensures.bytes refl (omega arith) in
    let e7 = also page size _ s6 (u16_bytes h.special) _ 16 e6 c.put_u16-5.ensures.bytes refl (omega arith) in
    let e8 = also page size _ s7 (u16_bytes h.version) _ 18 e7 c.put_u16-6.ensures.bytes refl (omega arith) in
    also page size _ s8 (u32_bytes h.prune_xid) _ 20 e8 c.put_u32-3.ensures.bytes refl (omega arith)

pub returns-clause-reads_back : goal.returns-clause-reads_back
returns-clause-reads_back c =
    let is : IsHeader c.args.header = record {
      lsn_high = omega arith;
      lsn_low = omega arith;
      checksum = omega arith;
      flags = omega arith;
      lower = omega arith;
      upper = omega arith;
      special = omega arith;
      version = omega arith;
      prune_xid = omega arith;
    } in
    ap header_of (returns-clause-bytes c) ∙ reads_header c.args.page.now c.args.header is
