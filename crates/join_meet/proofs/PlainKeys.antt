-- An item of a leaf, by what was read of it, and one that is one entry, as its bytes lie.
use Rattle.std.proofs.Common.{◌≡◌, ◌∙◌, ◌++◌, ℕ, Bool, List, [], ◌∷◌, length, take, drop, ap, sym}
use Rattle.std.specs.Prelude.{None, Ok, false}
use Rattle.std.proofs.lemmas.Bool.{or_parts}
use Rattle.std.proofs.lemmas.List.{take-append-drop}
use Rattle.page_layout.specs.Page.{item_of}
use Rattle.key_orders.specs.declared.columns.Value.{Value}
use Rattle.key_orders.specs.declared.Tid.{Tid}
use Rattle.key_attrs.specs.Columns.{TreeColumns}
use Rattle.key_attrs.specs.Keyed.{KeyValues, key_types, key_values, more_types}
use Rattle.bt_meta.specs.Heads.{tree_head_of}
use Rattle.bt_meta.specs.declared.records.HeadKind.{HeadKind}
use Rattle.bt_tuples.specs.declared.items.Spot3.TheVariants.{LeafItem}
use Rattle.bt_tuples.specs.Items.{Item, ItemOutcome, Plain, is_dead, item_outcome, meaning_by, meaning_of, values_or_none}
use Rattle.bt_tuples.specs.Plain.{LiesPlain}
use Rattle.bt_tuples.specs.Rules.{tuple_of}
use Rattle.bt_tuples.specs.Tuples.{plain_tid, values_in}
use Rattle.bt_tuples.proofs.Outcomes.{kept_means}
use Rattle.bt_image.specs.Image.{entries_in, leaf_entry}
use Rattle.bt_steps.specs.Entries.{IsRead}
use Rattle.bt_steps.proofs.Items.{item-is}
use Rattle.bt_steps.proofs.Separators.{told-values}
use Rattle.join_slots.specs.Told.{TellsKey}
use Rattle.join_slots.specs.Slots.{Tables}
use Rattle.join_meet.specs.Meeting.{HaveMet, entries_at}
use Rattle.join_meet.proofs.Meets.{same}

pub entries-are : (columns : TreeColumns) (page : List ℕ) (i : ℕ) (item : Item) → ◌≡◌ {A = ItemOutcome} (Ok item) (item_outcome columns.specs columns.more LeafItem page i) → entries_at columns page i ≡ entries_in item
unfolding entries_at
entries-are columns page i item is = ap entries_in (sym (item-is columns page i item is))

pub read-item-met : (columns : TreeColumns) (page : List ℕ) (i : ℕ) (item : Item) (old new : Tables) → ◌≡◌ {A = ItemOutcome} (Ok item) (item_outcome columns.specs columns.more LeafItem page i) → HaveMet (entries_in item) old new → HaveMet (entries_at columns page i) old new
read-item-met columns page i item old new is met = same (entries_in item) (entries_at columns page i) old new (sym (entries-are columns page i item is)) met

-- its values are what its body tells, and it is the one entry
pub record HasPlainKey (columns : TreeColumns) (page : List ℕ) (i : ℕ) (tid : Tid) (body : List ℕ) (killed : Bool) : Type 0 where
  pub key : List Value
  pub more : List Value
  pub told : key_values (key_types columns.specs ++ more_types columns.more) body None ≡ Ok (key ++ more)
  pub tells : TellsKey columns body (key ++ more)
  pub is : entries_at columns page i ≡ leaf_entry key more tid killed ∷ []

pub same-told : (a b : List Value) → ◌≡◌ {A = KeyValues} (Ok a) (Ok b) → a ≡ b
same-told a b e = cc

pub plain-key : (columns : TreeColumns) (page : List ℕ) (i : ℕ) (tid : Tid) (body : List ℕ) (killed : Bool) → LiesPlain page i tid body → killed ≡ is_dead (item_of page i).flag → IsRead columns page i → HasPlainKey columns page i tid body killed
unfolding meaning_of
plain-key columns page i tid body killed lies dead read =
    let tuple = tuple_of page i in
    let flag = is_dead (item_of page i).flag in
    let n = length columns.specs in
    let values = values_or_none (values_in columns.specs columns.more tuple) in
    let kept : item_outcome columns.specs columns.more LeafItem page i ≡ Ok (meaning_of columns.specs columns.more tuple flag) = kept_means columns.specs columns.more LeafItem page i false read.rules read.plain in
    let means : meaning_of columns.specs columns.more tuple flag ≡ Plain (take n values) (drop n values) (plain_tid (tree_head_of tuple)) flag =
    ap (λ (k : HeadKind). meaning_by k n tuple flag values) lies.tuple.kind in
    let told = told-values (values_in columns.specs columns.more tuple) (or_parts _ _ read.rules.values).1 read.plain in
    let all : values ≡ told.0 = ap (λ (v : KeyValues). values_or_none v) told.1 in
    let both : told.0 ≡ take n values ++ drop n values = sym all ∙ sym (take-append-drop n values) in
    let here : key_values (key_types columns.specs ++ more_types columns.more) body None ≡ Ok told.0 = sym (lies.tuple.values columns.specs columns.more) ∙ told.1 in
    record {
      key = take n values;
      more = drop n values;
      told = here ∙ ap (λ (vs : List Value). Ok vs) both;
      tells = λ held other count. same-told held told.0 (sym other ∙ here) ∙ both;
      is =
          entries-are columns page i (meaning_of columns.specs columns.more tuple flag) (sym kept)
          ∙ ap entries_in means
          ∙ (λ j. leaf_entry (take n values) (drop n values) (sym lies.tuple.tid_is j) (sym dead j) ∷ []);
    }
