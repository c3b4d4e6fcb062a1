-- What one entry gives, and an item that can be read.
use Rattle.std.proofs.Common.{◌≡◌, ◌∙◌, ◌<◌, ◌≤◌, ℕ, Bool, true, false, List, [], ◌∷◌, length, refl, ap, sym}
use Rattle.std.specs.Prelude.{if◌then◌else◌, map, Some, None}
use Rattle.std.proofs.lemmas.Bool.{le-ltb, lt-ltb}
use Rattle.outside.specs.Adds.{each_below}
use Rattle.key_orders.specs.declared.columns.Value.{Value}
use Rattle.key_orders.specs.declared.Tid.{Tid}
use Rattle.page_layout.specs.Page.{item_of}
use Rattle.page_layout.specs.declared.rules.Rule.TheVariants.{X2}
use Rattle.bt_meta.specs.Heads.{tree_head_of}
use Rattle.bt_meta.specs.declared.records.HeadKind.{HeadKind}
use Rattle.bt_meta.specs.declared.records.HeadKind.TheVariants as head
use Rattle.bt_image.specs.Image.{first_data, keys_in}
use Rattle.laws_search.specs.Keys.{Entry}
use Rattle.key_attrs.specs.Columns.{TreeColumns}
use Rattle.bt_steps.specs.Entries.{IsRead, keys_at}
use Rattle.bt_steps.proofs.Items.{keys-are}
use Rattle.bt_steps.specs.Pages.{is_live_leaf}
use Rattle.bt_tuples.specs.declared.items.Spot3.TheVariants.{LeafItem}
use Rattle.bt_tuples.specs.Items.{Item, Plain, Posting, is_dead, meaning_by, meaning_of, values_or_none}
use Rattle.bt_tuples.specs.Plain.{LiesPlain}
use Rattle.bt_tuples.specs.Rules.{tuple_of}
use Rattle.bt_tuples.specs.Tuples.{plain_tid, values_in}
use Rattle.bt_tuples.proofs.Outcomes.{kept_means}
use Rattle.reports.specs.Added.{finding_at, nothing}
use Rattle.reports.specs.declared.places.Place.TheVariants as Place
use Rattle.join_rules.specs.Lists.{entry_lists, item_lists, items_lists, leaf_lists, stray_rule, tids_at, tids_lists}

pub rule-is : (may : Bool) → (if may then None else Some X2) ≡ stray_rule may
rule-is true = refl
rule-is false = refl

-- the TIDs of an item's entries
abbrev pub tids_in : Item → List Tid
tids_in item = map (λ e. e.tid) (keys_in item)

pub plain-tids : (key more : List Value) (tid : Tid) (killed : Bool) → tids_in (Plain key more tid killed) ≡ tid ∷ []
plain-tids key more tid killed = refl

pub list-tids : (key : List Value) (tids : List Tid) (killed : Bool) → tids_in (Posting key tids killed) ≡ tids
list-tids key [] killed = refl
list-tids key (t ∷ ts) killed = ap (λ (l : List Tid). t ∷ l) (list-tids key ts killed)

pub one-tid : (number : ℕ) (may : Tid → Bool) (b i : ℕ) (tid : Tid) → tids_lists number may b i (tid ∷ []) ≡ entry_lists number may b i tid
unfolding each_below
one-tid number may b i tid = refl

-- one that the set has gives nothing
pub known-tid : (number : ℕ) (may : Tid → Bool) (b i : ℕ) (tid : Tid) → may tid ≡ true → entry_lists number may b i tid ≡ nothing
known-tid number may b i tid known = ap (λ (m : Bool). finding_at (Place.Entry number b i tid) (stray_rule m)) known

-- an item before the first data item gives nothing, and a data item what its TIDs give
module _ (number : ℕ) (columns : TreeColumns) (may : Tid → Bool) (b : ℕ) (page : List ℕ) (i : ℕ) where
  pub high-key : i < first_data page → item_lists number columns may b page i ≡ nothing
  unfolding item_lists
  high-key lt = ap (λ (high : Bool). if high then nothing else tids_lists number may b i (tids_at columns page i)) (lt-ltb i (first_data page) lt)

  pub data-item : first_data page ≤ i → (tids : List Tid) → tids_at columns page i ≡ tids → item_lists number columns may b page i ≡ tids_lists number may b i tids
  unfolding item_lists
  data-item from tids is =
      ap (λ (high : Bool). if high then nothing else tids_lists number may b i (tids_at columns page i)) (le-ltb i (first_data page) from)
      ∙ ap (tids_lists number may b i) is

pub tids-of : (columns : TreeColumns) (page : List ℕ) (i : ℕ) (item : Item) → keys_at columns page i ≡ keys_in item → tids_at columns page i ≡ tids_in item
unfolding keys_at
tids-of columns page i item is = ap (λ (es : List (Entry Value Tid)). map (λ e. e.tid) es) is

-- a page that is no leaf in use gives nothing, and one that is what its items give
pub no-leaf : (number : ℕ) (columns : TreeColumns) (may : Tid → Bool) (b : ℕ) (page : List ℕ) → is_live_leaf page ≡ false → leaf_lists number columns may b page ≡ nothing
unfolding leaf_lists
no-leaf number columns may b page none = ap (λ (live : Bool). if live then items_lists number columns may b page else nothing) none

pub a-leaf : (number : ℕ) (columns : TreeColumns) (may : Tid → Bool) (b : ℕ) (page : List ℕ) → is_live_leaf page ≡ true → leaf_lists number columns may b page ≡ items_lists number columns may b page
unfolding leaf_lists
a-leaf number columns may b page live = ap (λ (l : Bool). if l then items_lists number columns may b page else nothing) live

-- the TID of an item that is one entry stands in its tuple's head
plain-item : (columns : TreeColumns) (page : List ℕ) (i : ℕ) → IsRead columns page i → (tree_head_of (tuple_of page i)).kind ≡ head.Plain → tids_at columns page i ≡ plain_tid (tree_head_of (tuple_of page i)) ∷ []
unfolding meaning_of
plain-item columns page i read plain =
    let tuple = tuple_of page i in
    let killed = is_dead (item_of page i).flag in
    tids-of columns page i (meaning_of columns.specs columns.more tuple killed) (keys-are columns page i (meaning_of columns.specs columns.more tuple killed) (sym (kept_means columns.specs columns.more LeafItem page i false read.rules read.plain)))
    ∙ ap (λ (kind : HeadKind). tids_in (meaning_by kind (length columns.specs) tuple killed (values_or_none (values_in columns.specs columns.more tuple)))) plain

-- so the item gives what its TID gives
pub plain-gives : (number : ℕ) (columns : TreeColumns) (may : Tid → Bool) (b : ℕ) (page : List ℕ) (i : ℕ) (tid : Tid) (body : List ℕ)
    → first_data page ≤ i → IsRead columns page i → LiesPlain page i tid body → item_lists number columns may b page i ≡ entry_lists number may b i tid
plain-gives number columns may b page i tid body from read lies =
    let tids = plain-item columns page i read lies.tuple.kind ∙ ap (λ (t : Tid). t ∷ []) (sym lies.tuple.tid_is) in
    data-item number columns may b page i from (tid ∷ []) tids ∙ one-tid number may b i tid
