-- An item of a leaf in hand: the key of its entries, how many they are, and their TIDs.
use Rattle.std.proofs.Common.{◌≡◌, ◌∙◌, ℕ, zero, suc, ◌+◌, ◌*◌, ◌<◌, ◌≤◌, Bool, true, false, List, [], ◌∷◌, length, take, drop, ap, refl, subst, sym, arith}
use Rattle.std.specs.Prelude.{None, Some, Ok, ◌&&◌, ◌||◌, ◌==◌, nat_lt, slice_get}
use Rattle.std.proofs.lemmas.Bool.{or_parts}
use Rattle.std.proofs.lemmas.Bool.Decides.{nat_tests}
use Rattle.page_layout.specs.Page.{item_of}
use Rattle.laws_search.specs.Keys.{Entry, Separator}
use Rattle.key_orders.specs.declared.columns.KeySpec.{KeySpec}
use Rattle.key_orders.specs.declared.columns.Value.{Value}
use Rattle.key_orders.specs.declared.Tid.{Tid}
use Rattle.key_orders.specs.Keys.{IsKey}
use Rattle.key_attrs.specs.Columns.{TreeColumns}
use Rattle.bt_meta.specs.Heads.{tree_head_of}
use Rattle.bt_meta.specs.declared.records.HeadKind.{HeadKind}
use Rattle.bt_meta.specs.declared.records.HeadKind.TheVariants as head
use Rattle.bt_tuples.specs.Items.{Item, ItemFits, ItemOutcome, Pivot, Plain, Posting, is_dead, item_outcome, meaning_by, meaning_of, values_or_none}
use Rattle.bt_tuples.specs.Keys.{HasKeys, last_key}
use Rattle.bt_tuples.specs.Rules.{are_not_rising, breaks_tids_by, includes_some, is_pivot, is_posting, tuple_of}
use Rattle.bt_tuples.specs.Tuples.{body_begin, number_of, plain_tid, tid_at, tids_in, values_in}
use Rattle.bt_tuples.specs.declared.items.Spot3.TheVariants.{LeafItem}
use Rattle.bt_tuples.specs.declared.keys.ItemKeys.{ItemKeys}
use Rattle.bt_tuples.proofs.Outcomes.{read_means}
use Rattle.bt_tuples.proofs.TidLists.{length-tids_at, slice_get-tids_at}
use Rattle.bt_image.specs.Image.{item_at, keys_in}
use Rattle.bt_image.proofs.Rises.{IsGood}
use Rattle.bt_steps.specs.Entries.{IsRead, keys_at}
use Rattle.bt_steps.proofs.Items.{item-good, item-reads, keys-are, list-count, list-each, one-each}
use Rattle.bt_steps.proofs.OnItem.{list-tid, one-is}
use Rattle.bt_search.specs.Items.{entries_by, tid_by}

-- its entries are killed; a separator has none
abbrev pub is-killed : Item → Bool
is-killed (Pivot sep down) = false
is-killed (Plain key more tid killed) = killed
is-killed (Posting key tids killed) = killed

killed-by : (kind : HeadKind) (columns : ℕ) (tuple : List ℕ) (killed : Bool) (values : List Value) → is_pivot kind ≡ false → is-killed (meaning_by kind columns tuple killed values) ≡ killed
killed-by head.Pivot columns tuple killed values leaf = absurd cc
killed-by head.Plain columns tuple killed values leaf = refl
killed-by head.Posting columns tuple killed values leaf = refl

pub killed-is : (columns : TreeColumns) (tuple : List ℕ) (killed : Bool) → is_pivot (tree_head_of tuple).kind ≡ false → is-killed (meaning_of columns.specs columns.more tuple killed) ≡ killed
unfolding meaning_of
killed-is columns tuple killed leaf = killed-by (tree_head_of tuple).kind (length columns.specs) tuple killed (values_or_none (values_in columns.specs columns.more tuple)) leaf

-- a data item of a leaf is no separator
pub no-pivot : (columns : TreeColumns) (page : List ℕ) (i : ℕ) → IsRead columns page i → is_pivot (tree_head_of (tuple_of page i)).kind ≡ false
no-pivot columns page i read = (or_parts (is_pivot (tree_head_of (tuple_of page i)).kind) (includes_some columns.more && is_posting (tree_head_of (tuple_of page i)).kind) read.rules.form).0

-- THE KEY

-- what is known of each entry
pub record IsOf (key : List Value) (killed : Bool) (e : Entry Value Tid) : Type 0 where
  pub values : e.values ≡ key
  pub mark : e.killed ≡ killed

of-item : (item : Item) → IsGood item → (key : List Value) (killed : Bool) → key ≡ (last_key item).kept → is-killed item ≡ killed → (k : ℕ) (e : Entry Value Tid) → slice_get (keys_in item) k ≡ Some e → IsOf key killed e
of-item (Pivot sep down) good key killed is mark k e get = absurd good
of-item (Plain own more tid dead) good key killed is mark k e get =
    let has = one-each own more tid dead k e get in
    record { values = has.0 ∙ sym is; mark = has.1 ∙ mark }
of-item (Posting own tids dead) good key killed is mark k e get =
    let has = list-each own tids dead k e get in
    record { values = has.0 ∙ sym is; mark = has.1 ∙ mark }

fits-item : (specs : List KeySpec) (item : Item) → IsGood item → ItemFits specs item → IsKey specs (last_key item).kept
fits-item specs (Pivot sep down) good fits = absurd good
fits-item specs (Plain own more tid dead) good fits = fits
fits-item specs (Posting own tids dead) good fits = fits.0

module _ (columns : TreeColumns) (page : List ℕ) (i : ℕ) (keys : ItemKeys) (has : HasKeys columns.specs (item_outcome columns.specs columns.more LeafItem page i) keys) where
  ok : ◌≡◌ {A = ItemOutcome} (Ok has.item) (item_outcome columns.specs columns.more LeafItem page i)
  ok = sym has.is

  pub reads : IsRead columns page i
  reads = item-reads columns page i has.item ok

  kept : keys.first.kept ≡ (last_key has.item).kept
  kept = ap (λ (s : Separator Value Tid). s.kept) has.last

  pub key-fits : IsKey columns.specs keys.first.kept
  key-fits = subst (IsKey columns.specs) (sym kept) (fits-item columns.specs has.item (item-good columns page i has.item ok) has.fits)

  mark : is-killed has.item ≡ is_dead (item_of page i).flag
  mark =
      ap is-killed (read_means columns.specs columns.more LeafItem page i has.item has.is).2
      ∙ killed-is columns (tuple_of page i) (is_dead (item_of page i).flag) (no-pivot columns page i reads)

  pub each-is : (k : ℕ) (e : Entry Value Tid) → slice_get (keys_at columns page i) k ≡ Some e → IsOf keys.first.kept (is_dead (item_of page i).flag) e
  each-is k e get =
      of-item has.item (item-good columns page i has.item ok) keys.first.kept (is_dead (item_of page i).flag) kept mark k e
      (sym (ap (λ (es : List (Entry Value Tid)). slice_get es k) (keys-are columns page i has.item ok)) ∙ get)

-- HOW MANY

by-kind : (kind : HeadKind) (columns : ℕ) (tuple : List ℕ) (killed : Bool) (values : List Value) → is_pivot kind ≡ false → length (keys_in (meaning_by kind columns tuple killed values)) ≡ entries_by kind (tree_head_of tuple)
by-kind head.Pivot columns tuple killed values leaf = absurd cc
by-kind head.Plain columns tuple killed values leaf = refl
by-kind head.Posting columns tuple killed values leaf =
    list-count (take columns values) (tids_in tuple) killed ∙ length-tids_at tuple (tree_head_of tuple).block (number_of (tree_head_of tuple))

by-meaning : (columns : TreeColumns) (tuple : List ℕ) (killed : Bool) → is_pivot (tree_head_of tuple).kind ≡ false → length (keys_in (meaning_of columns.specs columns.more tuple killed)) ≡ entries_by (tree_head_of tuple).kind (tree_head_of tuple)
unfolding meaning_of
by-meaning columns tuple killed leaf = by-kind (tree_head_of tuple).kind (length columns.specs) tuple killed (values_or_none (values_in columns.specs columns.more tuple)) leaf

-- an item of a leaf that can be read
pub entries-are : (columns : TreeColumns) (page : List ℕ) (i : ℕ) → IsRead columns page i → length (keys_at columns page i) ≡ entries_by (tree_head_of (tuple_of page i)).kind (tree_head_of (tuple_of page i))
unfolding keys_at item_at
entries-are columns page i read = by-meaning columns (tuple_of page i) (is_dead (item_of page i).flag) (no-pivot columns page i read)

-- TIDS

-- the TID of an entry, and where its list holds it
pub record IsTidOf (kind : HeadKind) (tuple : List ℕ) (nth : ℕ) (tid : Tid) : Type 0 where
  pub is : tid_by kind tuple nth ≡ tid
  pub within : kind ≡ head.Posting → (tree_head_of tuple).block + 6 * nth + 6 ≤ length tuple

some-tid : (t u : Tid) → Some t ≡ Some u → t ≡ u
some-tid t u h = cc

got-below : {X : Type 0} (xs : List X) (k : ℕ) (x : X) → slice_get xs k ≡ Some x → k < length xs
got-below [] k x get = absurd cc
got-below (y ∷ xs) zero x get = omega arith
got-below (y ∷ xs) (suc k) x get = let lt = got-below xs k x get in omega (arith, lt)

second-false : (a b c d : Bool) → (a || b || c || d) ≡ false → b ≡ false
second-false true b c d h = absurd cc
second-false false true c d h = absurd cc
second-false false false c d h = refl

tid-by : (kind : HeadKind) (columns : ℕ) (tuple : List ℕ) (killed : Bool) (values : List Value) → is_pivot kind ≡ false → breaks_tids_by kind tuple ≡ false
    → (nth : ℕ) (e : Entry Value Tid) → slice_get (keys_in (meaning_by kind columns tuple killed values)) nth ≡ Some e → IsTidOf kind tuple nth e.tid
tid-by head.Pivot columns tuple killed values leaf keeps nth e get = absurd cc
tid-by head.Plain columns tuple killed values leaf keeps nth e get = record {
  is = ap (λ (d : Entry Value Tid). d.tid) (one-is (take columns values) (drop columns values) (plain_tid (tree_head_of tuple)) killed nth e get);
  within = λ other. absurd cc;
}
tid-by head.Posting columns tuple killed values leaf keeps nth e get =
    let begin = (tree_head_of tuple).block in
    let number = number_of (tree_head_of tuple) in
    let listed = list-tid (take columns values) (tids_in tuple) killed nth e get in
    let below = got-below (tids_in tuple) nth e.tid listed in
    let count = length-tids_at tuple begin number in
    let lt : nth < number = omega (arith, below, count) in
    let past : nat_lt (length tuple) (begin + 6 * number) ≡ false = second-false (nat_lt begin (body_begin (tree_head_of tuple))) (nat_lt (length tuple) (begin + 6 * number)) (number == 0) (are_not_rising None (tids_in tuple)) keeps in
    record {
      is = some-tid (tid_at tuple (begin + 6 * nth)) e.tid (sym (slice_get-tids_at tuple begin number nth lt) ∙ listed);
      within = λ same. grind (arith, nat_tests, past, lt);
    }

tid-of : (columns : TreeColumns) (tuple : List ℕ) (killed : Bool) → is_pivot (tree_head_of tuple).kind ≡ false → breaks_tids_by (tree_head_of tuple).kind tuple ≡ false
    → (nth : ℕ) (e : Entry Value Tid) → slice_get (keys_in (meaning_of columns.specs columns.more tuple killed)) nth ≡ Some e → IsTidOf (tree_head_of tuple).kind tuple nth e.tid
unfolding meaning_of
tid-of columns tuple killed leaf keeps nth e get =
    tid-by (tree_head_of tuple).kind (length columns.specs) tuple killed (values_or_none (values_in columns.specs columns.more tuple)) leaf keeps nth e get

pub tid-is : (columns : TreeColumns) (page : List ℕ) (i nth : ℕ) (e : Entry Value Tid) → IsRead columns page i → slice_get (keys_at columns page i) nth ≡ Some e → IsTidOf (tree_head_of (tuple_of page i)).kind (tuple_of page i) nth e.tid
unfolding keys_at item_at
tid-is columns page i nth e read get =
    tid-of columns (tuple_of page i) (is_dead (item_of page i).flag) (no-pivot columns page i read) read.rules.tids nth e get
