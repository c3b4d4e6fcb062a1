use Rattle.std.proofs.Common.{◌≡◌, ◌∙◌, ◌+◌, ◌-◌, ℕ, subst, sym, arith}
use Rattle.std.specs.Prelude.{Bool}
use Rattle.std.proofs.lemmas.Bool.{OnTrue_at}
use Rattle.page_layout.specs.Page.{count_of}
use Rattle.page_layout.specs.View.{page_bytes}
use Rattle.key_attrs.specs.Columns.{TreeColumns, tree_columns}
use Rattle.bt_image.proofs.PageFields.{first_cases}
use Rattle.join_distinct.specs.Items.{DifferTo, HasEntry, held}
use Rattle.join_distinct.proofs.Steps.{differ-first, differ-next, differ-none}
use Rattle.join_distinct.proofs.differ.do_items_differ.Goals as goal

pub returns-then-item_count-first : goal.returns-then-item_count-first
returns-then-item_count-first c =
    differ-none (tree_columns c.args.columns.now) (page_bytes c.args.page) (count_of (page_bytes c.args.page)) (omega (arith, c.if-item_count-first.true, c.first_data-first.ensures, c.item_count.ensures.value))

pub read_entry-requires-clause-first : goal.read_entry-requires-clause-first
read_entry-requires-clause-first c = let one = first_cases (page_bytes c.args.page) in omega (arith, one, c.first_data-first.ensures)

pub loop-i-init : goal.loop-i-init
loop-i-init c =
    let columns : TreeColumns = tree_columns c.args.columns.now in
    let page = page_bytes c.args.page in
    let first = c.first_data-first.result in
    let entry : HasEntry columns page first c.read_entry.new.keys = OnTrue_at c.if-not-read_entry.false c.read_entry.ensures in
    record {
      differ = differ-first columns page first (omega (arith, c.first_data-first.ensures)) entry.one;
      entry = subst (λ (b : Bool). HasEntry columns page first (held (record { left = c.read_entry.new.keys; right = c.new-pair.result.right; is_right = b }))) (sym c.new-pair.ensures) entry;
    }

pub read-requires-clause-before : goal.read-requires-clause-before
read-requires-clause-before c =
    let back : c.loop-i.i ≡ c.loop-i.i + 1 - 1 = omega arith in
    subst (λ (k : ℕ). HasEntry (tree_columns c.args.columns.now) (page_bytes c.args.page) k (held c.loop-i.pair)) back c.loop-i.invariant.entry

pub loop-i-preserved : goal.loop-i-preserved
loop-i-preserved c =
    let columns : TreeColumns = tree_columns c.args.columns.now in
    let page = page_bytes c.args.page in
    let so = c.loop-i.invariant in
    let next = OnTrue_at c.if-not-read.false c.read.ensures in
    record {
      differ = differ-next columns page c.loop-i.i so.differ next.entry.one (λ same. next.other (so.entry.values ∙ same ∙ sym next.entry.values));
      entry = next.entry;
    }

pub returns : goal.returns
returns c =
    let last : c.loop-i.i ≡ count_of (page_bytes c.args.page) = omega (arith, c.loop-i-test.false, c.loop-i.auto.i-end, c.item_count-i-end.ensures.value, c.item_count.ensures.value, c.if-item_count-first.false) in
    subst (λ (n : ℕ). DifferTo (tree_columns c.args.columns.now) (page_bytes c.args.page) n) last c.loop-i.invariant.differ
