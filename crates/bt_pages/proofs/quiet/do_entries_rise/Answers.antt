use Rattle.std.proofs.Common.{◌≡◌, ◌≤◌, subst, arith}
use Rattle.page_layout.specs.Page.{count_of}
use Rattle.page_layout.specs.View.{page_bytes}
use Rattle.bt_image.specs.Image.{first_data}
use Rattle.bt_image.proofs.PageFields.{first_cases}
use Rattle.bt_pages.specs.Passes.{RiseTo}
use Rattle.bt_pages.proofs.Rising.{entry-plain, rise-entry, rise-first}
use Rattle.bt_pages.proofs.quiet.do_entries_rise.Goals as goal

pub plain_entry_prefix-requires-clause-first : goal.plain_entry_prefix-requires-clause-first
plain_entry_prefix-requires-clause-first c = let one = first_cases (page_bytes c.args.page) in omega (arith, one, c.requires.first)

pub loop-k-init : goal.loop-k-init
loop-k-init c =
    let specs = c.args.columns.now.specs.now in
    let more = c.args.columns.now.more.now in
    let page = page_bytes c.args.page in
    let one = first_cases page in
    let from : first_data page ≤ c.args.first = omega (arith, c.requires.first) in
    let plain = entry-plain specs more page c.requires.live c.requires.leaf c.args.first c.in-Some.last from c.in-Some.ensures in
    record {
      rise = λ before. rise-first specs more page c.args.first (omega (arith, one, c.requires.first)) (omega (arith, c.requires.first)) before plain;
      entry = c.in-Some.ensures;
    }

pub loop-k-preserved : goal.loop-k-preserved
loop-k-preserved c =
    let specs = c.args.columns.now.specs.now in
    let more = c.args.columns.now.more.now in
    let page = page_bytes c.args.page in
    let so = c.loop-k.invariant in
    let from : first_data page ≤ c.loop-k.k = omega (arith, c.requires.first, c.loop-k.auto.k) in
    record {
      rise = λ before. rise-entry specs more page c.requires.live c.requires.leaf c.loop-k.k c.loop-k.last c.in-Some-plain_entry_prefix.number from so.entry c.in-Some-plain_entry_prefix.ensures c.if-number-last.false (so.rise before);
      entry = c.in-Some-plain_entry_prefix.ensures;
    }

pub returns : goal.returns
returns c =
    let last : c.loop-k.k ≡ count_of (page_bytes c.args.page) = omega (arith, c.loop-k-test.false, c.loop-k.auto.k-end, c.item_count-k-end.ensures.value, c.requires.some) in
    λ before. subst (RiseTo c.args.columns.now.specs.now c.args.columns.now.more.now (page_bytes c.args.page)) last (c.loop-k.invariant.rise before)
