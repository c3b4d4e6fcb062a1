use Rattle.std.proofs.Common.{◌∙◌, ap, refl, subst, sym}
use Rattle.page_layout.specs.View.{page_bytes}
use Rattle.page_layout.specs.declared.page.LinePtr.{LinePtr}
use Rattle.key_orders.specs.Scans.{back_of, scan_of}
use Rattle.key_attrs.specs.Columns.{TreeColumns, tree_columns}
use Rattle.bt_tuples.specs.Items.{is_dead, item_outcome}
use Rattle.bt_tuples.specs.Keys.{HasKeys}
use Rattle.bt_tuples.specs.declared.items.Spot3.TheVariants.{LeafItem}
use Rattle.bt_levels.specs.Sound.{index_columns}
use Rattle.bt_steps.specs.Entries.{IsRead}
use Rattle.bt_steps.proofs.Items.{item-unread}
use Rattle.bt_search.specs.Items.{HasFate}
use Rattle.bt_search.proofs.InHand.{each-is, key-fits, reads}
use Rattle.bt_search.proofs.item.fate_at.Goals as goal

pub fate_of-fate-requires-clause-key : goal.fate_of-fate-requires-clause-key
fate_of-fate-requires-clause-key c = key-fits (tree_columns c.columns-columns.result) (page_bytes c.args.page) c.args.i c.read.new.self c.in-Ok.ensures.keys

pub returns-in-Err-clause-read : goal.returns-in-Err-clause-read
returns-in-Err-clause-read c =
    let page = page_bytes c.args.page in (
      λ e. absurd cc,
      λ read. absurd (item-unread (tree_columns c.columns-columns.result) page c.args.i c.in-Err.field-0 (sym c.in-Err.ensures.fault) (subst (λ (k : TreeColumns). IsRead k page c.args.i) (sym c.columns-columns.ensures.lists) read)),
    )

pub returns-in-Ok-clause-read : goal.returns-in-Ok-clause-read
returns-in-Ok-clause-read c =
    let page = page_bytes c.args.page in
    (λ e. subst (λ (k : TreeColumns). IsRead k page c.args.i) c.columns-columns.ensures.lists (reads (tree_columns c.columns-columns.result) page c.args.i c.read.new.self c.in-Ok.ensures.keys), λ read. refl)

pub returns-in-Ok-clause-count : goal.returns-in-Ok-clause-count
returns-in-Ok-clause-count c =
    let page = page_bytes c.args.page in
    c.entries_at-count.ensures (index_columns c.args.search.now.tree.now)
    (subst (λ (k : TreeColumns). IsRead k page c.args.i) c.columns-columns.ensures.lists (reads (tree_columns c.columns-columns.result) page c.args.i c.read.new.self c.in-Ok.ensures.keys))

pub returns-in-Ok-clause-fate : goal.returns-in-Ok-clause-fate
returns-in-Ok-clause-fate c = λ k e get.
    let page = page_bytes c.args.page in
    let bounds = c.args.search.now.scan.now in
    let lists = c.columns-columns.ensures.lists in
    let has = subst (λ (l : TreeColumns). HasKeys l.specs (item_outcome l.specs l.more LeafItem page c.args.i) c.read.new.self) lists c.in-Ok.ensures.keys in
    let of = each-is (index_columns c.args.search.now.tree.now) page c.args.i c.read.new.self has k e get in
    subst (λ (l : TreeColumns). HasFate (scan_of l.specs bounds) (back_of l.specs bounds) c.args.end c.fate_of-fate.result e) lists
    (c.fate_of-fate.ensures e of.values (of.mark ∙ sym (c.is_dead-killed.ensures ∙ ap (λ (it : LinePtr). is_dead it.flag) c.item.ensures.value)))

pub returns-in-Ok-clause-key : goal.returns-in-Ok-clause-key
returns-in-Ok-clause-key c = λ k e get.
    let page = page_bytes c.args.page in
    let has = subst (λ (l : TreeColumns). HasKeys l.specs (item_outcome l.specs l.more LeafItem page c.args.i) c.read.new.self) c.columns-columns.ensures.lists c.in-Ok.ensures.keys in
    (each-is (index_columns c.args.search.now.tree.now) page c.args.i c.read.new.self has k e get).values
