use Rattle.std.proofs.Common.{◌≡◌, ◌-◌, sym, subst, arith}
use Rattle.page_layout.specs.View.{page_bytes}
use Rattle.bt_image.specs.Image.{first_data}
use Rattle.bt_pages.specs.Passes.{RiseTo}
use Rattle.bt_pages.proofs.Orders.{high_key-none}
use Rattle.bt_pages.proofs.Rising.{first-after, first-alone, rise-none, rise-pass}
use Rattle.bt_pages.proofs.quiet.is_quiet_leaf.Goals as goal

pub has_plain_high_key-requires-clause-rise : goal.has_plain_high_key-requires-clause-rise
has_plain_high_key-requires-clause-rise c before =
    let page = page_bytes c.args.page in
    let first : first_data page ≡ 2 = first-after page (sym c.if-not-has_high_key.ensures) in
    let one : 1 ≡ c.first_data-first.result - 1 = omega (arith, first, c.first_data-first.ensures) in
    c.if-not-do_entries_rise.ensures (subst (RiseTo c.args.columns.now.specs.now c.args.columns.now.more.now page) one before)

pub returns-then-not-has_high_key : goal.returns-then-not-has_high_key
returns-then-not-has_high_key c =
    let specs = c.args.columns.now.specs.now in
    let more = c.args.columns.now.more.now in
    let page = page_bytes c.args.page in
    let first : first_data page ≡ 1 = first-alone page (sym c.if-not-has_high_key.ensures) in
    let none : 0 ≡ c.first_data-first.result - 1 = omega (arith, first, c.first_data-first.ensures) in
    rise-pass specs more page c.requires.live
    (c.if-not-do_entries_rise.ensures (subst (RiseTo specs more page) none (rise-none specs more page)))
    (high_key-none specs more page (sym c.if-not-has_high_key.ensures))
