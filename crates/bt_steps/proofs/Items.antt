-- A leaf's item that was read, and its entries.
use Rattle.std.proofs.Common.{◌≡◌, ℕ, zero, suc, Bool, false, List, [], ◌∷◌, length, refl, ap, sym, subst, ◌∙◌}
use Rattle.std.specs.Prelude.{Option, Some, Ok, Err, slice_get}
use Rattle.laws_search.specs.Keys.{Entry}
use Rattle.key_orders.specs.declared.columns.Value.{Value}
use Rattle.key_orders.specs.declared.Tid.{Tid}
use Rattle.key_attrs.specs.Columns.{TreeColumns}
use Rattle.bt_tuples.specs.declared.items.ItemFault.{ItemFault}
use Rattle.bt_tuples.specs.declared.items.Spot3.{Spot3}
use Rattle.bt_tuples.specs.declared.items.Spot3.TheVariants.{LeafItem}
use Rattle.bt_tuples.specs.Items.{Item, ItemOutcome, Plain, Posting, item_outcome}
use Rattle.bt_tuples.proofs.Outcomes.{kept_means, read_means}
use Rattle.bt_image.specs.Image.{item_at, keys_in, spot_of}
use Rattle.bt_image.specs.Pages.{IsPlainItem}
use Rattle.bt_image.proofs.PageFields.{leaf_item_good}
use Rattle.bt_image.proofs.Rises.{IsGood}
use Rattle.bt_steps.specs.Entries.{IsRead, keys_at}

abbrev pub entry_with : List Value → Bool → Tid → Entry Value Tid
entry_with key killed t = record { values = key; tid = t; killed = killed }

pub item-is : (columns : TreeColumns) (page : List ℕ) (i : ℕ) (item : Item) → ◌≡◌ {A = ItemOutcome} (Ok item) (item_outcome columns.specs columns.more LeafItem page i) → item ≡ item_at columns.specs columns.more page i
unfolding item_at
item-is columns page i item is = (read_means columns.specs columns.more LeafItem page i item (sym is)).2

pub item-reads : (columns : TreeColumns) (page : List ℕ) (i : ℕ) (item : Item) → ◌≡◌ {A = ItemOutcome} (Ok item) (item_outcome columns.specs columns.more LeafItem page i) → IsRead columns page i
item-reads columns page i item is = let r = read_means columns.specs columns.more LeafItem page i item (sym is) in record { rules = r.0; plain = r.1 }

pub item-unread : (columns : TreeColumns) (page : List ℕ) (i : ℕ) (fault : ItemFault) → ◌≡◌ {A = ItemOutcome} (Err fault) (item_outcome columns.specs columns.more LeafItem page i) → IsRead columns page i → ⊥
item-unread columns page i fault is read = clash _ (is ∙ kept_means columns.specs columns.more LeafItem page i false read.rules read.plain)
  where
    clash : (item : Item) → ◌≡◌ {A = ItemOutcome} (Err fault) (Ok item) → ⊥
    clash item h = cc

-- a leaf has no separators among its data items
pub item-good : (columns : TreeColumns) (page : List ℕ) (i : ℕ) (item : Item) → ◌≡◌ {A = ItemOutcome} (Ok item) (item_outcome columns.specs columns.more LeafItem page i) → IsGood item
item-good columns page i item is =
    subst IsGood (sym (item-is columns page i item is)) (leaf_item_good columns.specs columns.more page i LeafItem refl (item-reads columns page i item is).rules)

pub keys-are : (columns : TreeColumns) (page : List ℕ) (i : ℕ) (item : Item) → ◌≡◌ {A = ItemOutcome} (Ok item) (item_outcome columns.specs columns.more LeafItem page i) → keys_at columns page i ≡ keys_in item
unfolding keys_at
keys-are columns page i item is = ap keys_in (sym (item-is columns page i item is))

-- The entries of a list

pub list-count : (key : List Value) (tids : List Tid) (killed : Bool) → length (keys_in (Posting key tids killed)) ≡ length tids
list-count key [] killed = refl
list-count key (t ∷ ts) killed = ap suc (list-count key ts killed)

pub list-get : (key : List Value) (tids : List Tid) (killed : Bool) (k : ℕ) (t : Tid) → slice_get tids k ≡ Some t → slice_get (keys_in (Posting key tids killed)) k ≡ Some (entry_with key killed t)
list-get key [] killed k t e = absurd cc
list-get key (u ∷ ts) killed zero t e = ap (λ (o : Tid). Some (entry_with key killed o)) (inner e)
  where
    inner : ◌≡◌ {A = Option Tid} (Some u) (Some t) → u ≡ t
    inner h = cc
list-get key (u ∷ ts) killed (suc k) t e = list-get key ts killed k t e

-- an entry has the key and the mark of its item
abbrev pub Has : List Value → Bool → Entry Value Tid → Type 0
Has key killed e = (e.values ≡ key) × (e.killed ≡ killed)

pub list-each : (key : List Value) (tids : List Tid) (killed : Bool) (k : ℕ) (e : Entry Value Tid) → slice_get (keys_in (Posting key tids killed)) k ≡ Some e → Has key killed e
list-each key [] killed k e is = absurd cc
list-each key (u ∷ ts) killed zero e is = subst (Has key killed) (inner is) (refl, refl)
  where
    inner : ◌≡◌ {A = Option (Entry Value Tid)} (Some (entry_with key killed u)) (Some e) → entry_with key killed u ≡ e
    inner h = cc
list-each key (u ∷ ts) killed (suc k) e is = list-each key ts killed k e is

pub one-each : (key more : List Value) (tid : Tid) (killed : Bool) (k : ℕ) (e : Entry Value Tid) → slice_get (keys_in (Plain key more tid killed)) k ≡ Some e → Has key killed e
one-each key more tid killed zero e is = subst (Has key killed) (inner is) (refl, refl)
  where
    inner : ◌≡◌ {A = Option (Entry Value Tid)} (Some (entry_with key killed tid)) (Some e) → entry_with key killed tid ≡ e
    inner h = cc
one-each key more tid killed (suc k) e is = absurd cc

-- The same of any item, at its place

pub at-spot : (columns : TreeColumns) (page : List ℕ) (i : ℕ) (spot : Spot3) (item : Item) → item_outcome columns.specs columns.more spot page i ≡ Ok item → item ≡ item_at columns.specs columns.more page i
unfolding item_at
at-spot columns page i spot item is = (read_means columns.specs columns.more spot page i item is).2

pub no-fault : (columns : TreeColumns) (page : List ℕ) (i : ℕ) (spot : Spot3) (fault : ItemFault) → IsPlainItem columns.specs columns.more page i → spot ≡ spot_of page i → item_outcome columns.specs columns.more spot page i ≡ Err fault → ⊥
no-fault columns page i spot fault plain at is = clash _ (sym is ∙ ap (λ (s : Spot3). item_outcome columns.specs columns.more s page i) at ∙ kept_means columns.specs columns.more (spot_of page i) page i false plain.rules plain.read)
  where
    clash : (item : Item) → ◌≡◌ {A = ItemOutcome} (Err fault) (Ok item) → ⊥
    clash item h = cc
