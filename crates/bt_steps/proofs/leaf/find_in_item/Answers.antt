use Rattle.std.proofs.Common.{◌≡◌, ◌≤◌, ◌∙◌, ℕ, List, Bool, false, ap, refl, sym, subst}
use Rattle.std.specs.Prelude.{Option, None, Some, IfSome, slice_get}
use Rattle.page_layout.specs.Page.{count_of}
use Rattle.page_layout.specs.View.{page_bytes}
use Rattle.laws_search.specs.Keys.{Entry}
use Rattle.key_orders.specs.declared.columns.Value.{Value}
use Rattle.key_orders.specs.declared.Tid.{Tid}
use Rattle.key_attrs.specs.Columns.{TreeColumns, tree_columns}
use Rattle.bt_tuples.specs.declared.items.TreeItem.{TreeItem}
use Rattle.bt_tuples.specs.Items.{Posting}
use Rattle.bt_tuples.specs.Shown.{item_shown}
use Rattle.bt_image.specs.Image.{first_data, keys_in}
use Rattle.bt_image.proofs.Rises.{IsGood}
use Rattle.bt_steps.specs.Entries.{IsRead, keys_at}
use Rattle.bt_steps.specs.Sought.{HasSought}
use Rattle.bt_steps.proofs.Items.{entry_with, item-good, item-reads, item-unread, keys-are, list-get}
use Rattle.bt_steps.proofs.OnItem.{list-has, list-tid, ne-false, ne-true, one-is}
use Rattle.bt_steps.proofs.leaf.find_in_item.Goals as goal
use Rattle.bt_steps.proofs.leaf.find_in_item.Goals.{then-killed-via-then-killed, then-killed-via-else-killed+then-is_ne, then-killed-via-else-killed+else-is_ne+then-is_ne-2, then-killed-2-via-then-killed-2, then-killed-2-via-else-killed-2+then-is_ne-3}

abbrev entries : Type 0
entries = List (Entry Value Tid)

-- the entries of an item, which are known by another name
there : (es fs : entries) (k : ℕ) (e : Entry Value Tid) → es ≡ fs → slice_get es k ≡ Some e → slice_get fs k ≡ Some e
there es fs k e same is = subst (λ (l : entries). slice_get l k ≡ Some e) same is

pub returns-then-killed-clause-none : goal.returns-then-killed-clause-none
returns-then-killed-clause-none c none k e is sought read =
    let item = c.in-Ok-Plain in
    let keys = keys-are (tree_columns c.args.columns.now) (page_bytes c.args.page) c.args.i (item_shown item.field-0) item.ensures.outcome ∙ ap (λ (it : TreeItem). keys_in (item_shown it)) item.field-0-is in
    let one = one-is item.key item.field-0-1 item.tid item.killed k e (there _ _ k e keys is) in
    elim c.then-killed.branch [
      | then-killed-via-then-killed w ↦ sym (ap (λ (d : Entry Value Tid). d.killed) one) ∙ w.if-killed.true
      | then-killed-via-else-killed+then-is_ne w ↦ absurd (ne-true w.cmp_tids.result (sym w.is_ne.ensures ∙ w.if-is_ne.true) (w.cmp_tids.ensures.same.1 (ap (λ (d : Entry Value Tid). d.tid) one ∙ sought.tid_is)))
      | then-killed-via-else-killed+else-is_ne+then-is_ne-2 w ↦ absurd (ne-true w.cmp_values.result (sym w.is_ne-else-is_ne.ensures ∙ w.if-is_ne-2.true) (w.cmp_values.ensures.same.1 (ap (λ (d : Entry Value Tid). d.values) one ∙ sought.values)))
    ]

pub returns-else-is_ne-2-clause-some : goal.returns-else-is_ne-2-clause-some
returns-else-is_ne-2-clause-some c =
    let item = c.in-Ok-Plain in
    let keys = keys-are (tree_columns c.args.columns.now) (page_bytes c.args.page) c.args.i (item_shown item.field-0) item.ensures.outcome ∙ ap (λ (it : TreeItem). keys_in (item_shown it)) item.field-0-is in
    record {
      from = c.requires.from;
      last = c.requires.last;
      read = item-reads (tree_columns c.args.columns.now) (page_bytes c.args.page) c.args.i (item_shown item.field-0) item.ensures.outcome;
      entry = entry_with item.key item.killed item.tid;
      is = ap (λ (l : entries). slice_get l 0) keys;
      sought = record {
        values = c.cmp_values.ensures.same.0 (ne-false c.cmp_values.result (sym c.is_ne-else-is_ne.ensures ∙ c.if-is_ne-2.false));
        tid_is = c.cmp_tids.ensures.same.0 (ne-false c.cmp_tids.result (sym c.is_ne.ensures ∙ c.if-is_ne.false));
      };
      alive = c.if-killed.false;
    }

pub returns-then-killed-2-clause-none : goal.returns-then-killed-2-clause-none
returns-then-killed-2-clause-none c none k e is sought read =
    let item = c.in-Ok-Posting in
    let keys = keys-are (tree_columns c.args.columns.now) (page_bytes c.args.page) c.args.i (item_shown item.field-0) item.ensures.outcome ∙ ap (λ (it : TreeItem). keys_in (item_shown it)) item.field-0-is in
    let has = list-has item.key item.tids item.killed k e (there _ _ k e keys is) in
    elim c.then-killed-2.branch [
      | then-killed-2-via-then-killed-2 w ↦ has.1 ∙ w.if-killed-2.true
      | then-killed-2-via-else-killed-2+then-is_ne-3 w ↦ absurd (ne-true w.cmp_values-else-killed-2.result (sym w.is_ne-else-killed-2.ensures ∙ w.if-is_ne-3.true) (w.cmp_values-else-killed-2.ensures.same.1 (sym has.0 ∙ sought.values)))
    ]

-- a TID that was found in a list
module _ (columns : TreeColumns) (page : List ℕ) (i : ℕ) (key sought-key : List Value) (tids : List Tid) (tid : Tid) (killed : Bool)
    (from : first_data page ≤ i) (last : i ≤ count_of page) (read : IsRead columns page i) (keys : keys_at columns page i ≡ keys_in (Posting key tids killed))
    (same : key ≡ sought-key) (alive : killed ≡ false) where
  found-some : (r : Option ℕ) → IfSome r (λ n. slice_get tids n ≡ Some tid) → IfSome r (λ n. HasSought columns page sought-key tid i n)
  found-some None h = tt
  found-some (Some n) h = record {
    from = from;
    last = last;
    read = read;
    entry = entry_with key killed tid;
    is = ap (λ (l : entries). slice_get l n) keys ∙ list-get key tids killed n tid h;
    sought = record { values = same; tid_is = refl };
    alive = alive;
  }

pub returns-else-is_ne-3-clause-some : goal.returns-else-is_ne-3-clause-some
returns-else-is_ne-3-clause-some c =
    let item = c.in-Ok-Posting in
    let keys = keys-are (tree_columns c.args.columns.now) (page_bytes c.args.page) c.args.i (item_shown item.field-0) item.ensures.outcome ∙ ap (λ (it : TreeItem). keys_in (item_shown it)) item.field-0-is in
    found-some (tree_columns c.args.columns.now) (page_bytes c.args.page) c.args.i item.key c.args.sought.key.now item.tids c.args.sought.tid item.killed c.requires.from c.requires.last
    (item-reads (tree_columns c.args.columns.now) (page_bytes c.args.page) c.args.i (item_shown item.field-0) item.ensures.outcome) keys
    (c.cmp_values-else-killed-2.ensures.same.0 (ne-false c.cmp_values-else-killed-2.result (sym c.is_ne-else-killed-2.ensures ∙ c.if-is_ne-3.false)))
    c.if-killed-2.false c.nth_of.result c.nth_of.ensures.some

pub returns-else-is_ne-3-clause-none : goal.returns-else-is_ne-3-clause-none
returns-else-is_ne-3-clause-none c none k e is sought read =
    let item = c.in-Ok-Posting in
    let keys = keys-are (tree_columns c.args.columns.now) (page_bytes c.args.page) c.args.i (item_shown item.field-0) item.ensures.outcome ∙ ap (λ (it : TreeItem). keys_in (item_shown it)) item.field-0-is in
    let good : IsGood (Posting item.key item.tids item.killed) =
    subst (λ (it : TreeItem). IsGood (item_shown it)) item.field-0-is
    (item-good (tree_columns c.args.columns.now) (page_bytes c.args.page) c.args.i (item_shown item.field-0) item.ensures.outcome) in
    let at = list-tid item.key item.tids item.killed k e (there _ _ k e keys is) in
    absurd (c.nth_of.ensures.none none good.0 k (at ∙ ap Some sought.tid_is))

pub returns-in-Err-clause-none : goal.returns-in-Err-clause-none
returns-in-Err-clause-none c none k e is sought read =
    absurd (item-unread (tree_columns c.args.columns.now) (page_bytes c.args.page) c.args.i c.in-Err.field-0 c.in-Err.ensures.outcome read)

pub returns-in-Ok-Pivot-clause-none : goal.returns-in-Ok-Pivot-clause-none
returns-in-Ok-Pivot-clause-none c =
    absurd (subst (λ (it : TreeItem). IsGood (item_shown it)) c.in-Ok-Pivot.field-0-is
    (item-good (tree_columns c.args.columns.now) (page_bytes c.args.page) c.args.i (item_shown c.in-Ok-Pivot.field-0) c.in-Ok-Pivot.ensures.outcome))
