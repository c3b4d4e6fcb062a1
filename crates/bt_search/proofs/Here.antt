-- The first entry of a leaf's item, where it is the one that is sought.
use Rattle.std.proofs.Common.{◌≡◌, ◌≤◌, ℕ, List, [], ◌∷◌, Bool, false, ap, refl, subst, sym}
use Rattle.std.specs.Prelude.{Some, Ok, slice_get}
use Rattle.page_layout.specs.Page.{count_of, item_of}
use Rattle.laws_search.specs.Keys.{Entry, Separator}
use Rattle.key_orders.specs.declared.columns.Value.{Value}
use Rattle.key_orders.specs.declared.Tid.{Tid}
use Rattle.key_attrs.specs.Columns.{TreeColumns}
use Rattle.bt_meta.specs.declared.records.HeadKind.{HeadKind}
use Rattle.bt_meta.specs.declared.records.HeadKind.TheVariants as head
use Rattle.bt_meta.specs.Heads.{tree_head_of}
use Rattle.bt_tuples.specs.declared.items.Spot3.TheVariants.{LeafItem}
use Rattle.bt_tuples.specs.Items.{Item, ItemOutcome, Pivot, Plain, Posting, is_dead, item_outcome, meaning_by, meaning_of, values_or_none}
use Rattle.bt_tuples.specs.Keys.{first_key, key_with}
use Rattle.bt_tuples.specs.Rules.{tuple_of}
use Rattle.bt_tuples.specs.Tuples.{values_in}
use Rattle.bt_tuples.proofs.Outcomes.{read_means}
use Rattle.bt_image.specs.Image.{first_data, keys_in}
use Rattle.bt_image.proofs.Rises.{IsGood}
use Rattle.bt_steps.specs.Entries.{IsRead, keys_at}
use Rattle.bt_steps.specs.Sought.{HasSought}
use Rattle.bt_steps.proofs.Items.{entry_with, item-good, item-reads, keys-are}

-- its entries are killed; a separator has none
abbrev is-killed : Item → Bool
is-killed (Pivot sep down) = false
is-killed (Plain key more tid killed) = killed
is-killed (Posting key tids killed) = killed

alive-by : (kind : HeadKind) (columns : ℕ) (tuple : List ℕ) (values : List Value) → is-killed (meaning_by kind columns tuple false values) ≡ false
alive-by head.Pivot columns tuple values = refl
alive-by head.Plain columns tuple values = refl
alive-by head.Posting columns tuple values = refl

alive : (columns : TreeColumns) (tuple : List ℕ) (killed : Bool) → killed ≡ false → is-killed (meaning_of columns.specs columns.more tuple killed) ≡ false
unfolding meaning_of
alive columns tuple killed is =
    subst (λ (k : Bool). is-killed (meaning_of columns.specs columns.more tuple k) ≡ false) (sym is)
    (alive-by (tree_head_of tuple).kind _ tuple (values_or_none (values_in columns.specs columns.more tuple)))

module _ (columns : TreeColumns) (page : List ℕ) (i : ℕ) (from : first_data page ≤ i) (last : i ≤ count_of page) (key : List Value) (tid : Tid) where
  here : (item : Item) → IsGood item → IsRead columns page i → keys_at columns page i ≡ keys_in item → is-killed item ≡ false → key_with key tid ≡ first_key item → HasSought columns page key tid i 0
  here (Pivot sep down) good read keys alive is = absurd good
  here (Plain k more t killed) good read keys alive is = record {
    from = from;
    last = last;
    read = read;
    entry = entry_with k killed t;
    is = ap (λ (l : List (Entry Value Tid)). slice_get l 0) keys;
    sought = record { values = sym (ap (λ (s : Separator Value Tid). s.kept) is); tid_is = sym (tid-of is) };
    alive = alive;
  }
    where
      tid-of : key_with key tid ≡ key_with k t → tid ≡ t
      tid-of h = inner (ap (λ (s : Separator Value Tid). s.tid) h)
        where
          inner : Some tid ≡ Some t → tid ≡ t
          inner h = cc
  here (Posting k [] killed) good read keys alive is = absurd (good.1 refl)
  here (Posting k (t ∷ ts) killed) good read keys alive is = record {
    from = from;
    last = last;
    read = read;
    entry = entry_with k killed t;
    is = ap (λ (l : List (Entry Value Tid)). slice_get l 0) keys;
    sought = record { values = sym (ap (λ (s : Separator Value Tid). s.kept) is); tid_is = sym (tid-of is) };
    alive = alive;
  }
    where
      tid-of : key_with key tid ≡ key_with k t → tid ≡ t
      tid-of h = inner (ap (λ (s : Separator Value Tid). s.tid) h)
        where
          inner : Some tid ≡ Some t → tid ≡ t
          inner h = cc

  -- an item that was read, whose first key is the one that is sought, and whose line pointer isn't dead
  pub first-here : (item : Item) → item_outcome columns.specs columns.more LeafItem page i ≡ Ok item → is_dead (item_of page i).flag ≡ false → key_with key tid ≡ first_key item → HasSought columns page key tid i 0
  first-here item outcome flag is =
      let ok : ◌≡◌ {A = ItemOutcome} (Ok item) (item_outcome columns.specs columns.more LeafItem page i) = sym outcome in
      here item (item-good columns page i item ok) (item-reads columns page i item ok) (keys-are columns page i item ok)
      (subst (λ (it : Item). is-killed it ≡ false) (sym (read_means columns.specs columns.more LeafItem page i item outcome).2) (alive columns (tuple_of page i) (is_dead (item_of page i).flag) flag))
      is
