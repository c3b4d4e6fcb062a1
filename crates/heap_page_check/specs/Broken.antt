-- The rules of a page, each by its sentence, with the place where it is broken; and what can't be judged.
use Rattle.std.specs.Prelude.{◌≡◌, ℕ, ◌≤◌, true, List, length, None, Ok, Err, Contains}
use Rattle.page_layout.specs.Items.{is_misplaced_heap_item, is_normal}
use Rattle.page_layout.specs.Page.{count_of, item_of, page_rule_of, upper_of}
use Rattle.page_layout.specs.declared.page.PageKind.TheVariants.{Heap}
use Rattle.page_layout.specs.declared.rules.Rule.{Rule}
use Rattle.page_layout.specs.declared.rules.Rule.TheVariants.{H1, H2, H17, H18, H19, H20}
use Rattle.tuple_head.specs.Head.{breaks_head_rule}
use Rattle.varlena_attrs.specs.Forms.{Attribute, External}
use Rattle.heap_tuples.specs.Places.{tuple_at}
use Rattle.heap_tuples.specs.Tuples.{attributes_in}
use Rattle.varlena_attrs.specs.declared.fault.AttrFault.TheVariants.{PastEnd, BadHeader, BadTag}
use Rattle.varlena_attrs.specs.declared.places.ToastPointer.{ToastPointer}
use Rattle.liveness.specs.Life.{BreaksRule, IsDeleted, IsInDoubt, IsInserted}
use Rattle.liveness.specs.declared.states.Doubt.{Doubt}
use Rattle.liveness.specs.declared.states.ItemState.{ItemState}
use Rattle.hot_chains.specs.Sentences.{IsChainRuleBroken}
use Rattle.vis_map.specs.Rules.{IsMapRuleBroken}
use Rattle.vis_map.specs.declared.bits.MapBits.{MapBits}
use Rattle.toast_chunks.specs.Pointer.{KeepsPointerRule}
use Rattle.reports.specs.declared.places.Place.{Place}
use Rattle.reports.specs.declared.places.Place.TheVariants.{Block, Item}
use Rattle.reports.specs.declared.places.Reason.{Reason}
use Rattle.heap_page_check.specs.Alone.{BreaksHeader}
use Rattle.heap_page_check.specs.Pages.{is_flagged_visible}
use Rattle.heap_page_check.specs.States.{AreStatesOf}
use Rattle.heap_page_check.specs.Storage.{OverlapsLowerItem}
use Rattle.heap_page_check.specs.Table.{Table, rel_of}
use Rattle.heap_page_check.specs.Values.{is_stray_pointer}
use Rattle.heap_page_check.specs.Verdicts.{head_at, reason_of}

-- An item

-- item i is a normal line pointer of the page
pub record IsNormalItem (page : List ℕ) (i : ℕ) : Type 0 where
  pub first : 1 ≤ i
  pub last : i ≤ count_of page
  pub normal : is_normal (item_of page i).flag ≡ true

-- its tuple is live: inserted by a transaction that committed, and not deleted by one
pub record HoldsLiveTuple (table : Table) (page : List ℕ) (i : ℕ) : Type 0 where
  pub item : IsNormalItem page i
  pub inserted : IsInserted table.names table.logs (head_at page i)
  pub kept : IsDeleted table.names table.logs (head_at page i) → ⊥

-- a value of a live tuple, whose attributes can be read, stands in a TOAST table, where this pointer finds it
pub record HasExternal (table : Table) (page : List ℕ) (i : ℕ) (pointer : ToastPointer) : Type 0 where
  pub live : HoldsLiveTuple table page i
  pub list : List Attribute
  pub read : attributes_in table.columns (tuple_at page i) ≡ Ok list
  pub among : Contains list (External pointer)

-- what a normal item and its tuple may break, at the place of the item
pub data BreaksAt (table : Table) (page : List ℕ) (i : ℕ) : Rule → Type 0 where
  misplaced : is_misplaced_heap_item (upper_of page) (item_of page i) ≡ true → BreaksAt table page i H1
  overlapping : OverlapsLowerItem page i → BreaksAt table page i H2
  in_header : (rule : Rule) → breaks_head_rule (length table.columns) (item_of page i).len (head_at page i) rule ≡ true
      → BreaksAt table page i rule
  in_logs : (rule : Rule) → BreaksRule table.names table.logs (head_at page i) rule → BreaksAt table page i rule
  past_end : (column : ℕ) → HoldsLiveTuple table page i
      → attributes_in table.columns (tuple_at page i) ≡ Err (PastEnd column) → BreaksAt table page i H17
  bad_length : (column : ℕ) → HoldsLiveTuple table page i
      → attributes_in table.columns (tuple_at page i) ≡ Err (BadHeader column) → BreaksAt table page i H18
  bad_tag : (column : ℕ) → HoldsLiveTuple table page i
      → attributes_in table.columns (tuple_at page i) ≡ Err (BadTag column) → BreaksAt table page i H18
  stray_pointer : (pointer : ToastPointer) → HasExternal table page i pointer
      → is_stray_pointer table.toast (head_at page i) pointer ≡ true → BreaksAt table page i H19
  bad_pointer : (pointer : ToastPointer) → HasExternal table page i pointer
      → ¬ KeepsPointerRule pointer → BreaksAt table page i H20

pub data BreaksItem (table : Table) (block : ℕ) (page : List ℕ) : Rule → Place → Type 0 where
  at_item : (i : ℕ) (rule : Rule) → IsNormalItem page i → BreaksAt table page i rule
      → BreaksItem table block page rule (Item (rel_of table.kind) block i)

-- why the tuple of a normal item may be in doubt: a header of old form, or what the logs say
pub data DoubtsItem (table : Table) (block : ℕ) (page : List ℕ) : Reason → Place → Type 0 where
  doubt_at_item : (i : ℕ) (doubt : Doubt) → IsNormalItem page i
      → IsInDoubt table.names table.logs (head_at page i) doubt
      → DoubtsItem table block page (reason_of doubt) (Item (rel_of table.kind) block i)

-- A page

-- the page's header and its items, each by itself, break no rule, and none is in doubt
pub record AllPass (table : Table) (block : ℕ) (page : List ℕ) : Type 0 where
  pub header : page_rule_of Heap page ≡ None
  pub unbroken : (rule : Rule) (place : Place) → BreaksItem table block page rule place → ⊥
  pub certain : (reason : Reason) (place : Place) → DoubtsItem table block page reason place → ⊥

-- what a page of a table may break, of whose block the visibility map says so much
pub data BreaksPage (table : Table) (bits : MapBits) (block : ℕ) (page : List ℕ) : Rule → Place → Type 0 where
  in_page_header : (rule : Rule) (place : Place) → BreaksHeader Heap (rel_of table.kind) block page rule place
      → BreaksPage table bits block page rule place
  on_item : (rule : Rule) (place : Place) → page_rule_of Heap page ≡ None → BreaksItem table block page rule place
      → BreaksPage table bits block page rule place
  in_visibility : (rule : Rule) (states : List ItemState) → AllPass table block page → AreStatesOf table page states
      → IsMapRuleBroken bits (is_flagged_visible page) states rule
      → BreaksPage table bits block page rule (Block (rel_of table.kind) block)
  in_chain : (i : ℕ) (rule : Rule) (states : List ItemState) → AllPass table block page → AreStatesOf table page states
      → 1 ≤ i → i ≤ count_of page → IsChainRuleBroken block states i rule
      → BreaksPage table bits block page rule (Item (rel_of table.kind) block i)

-- what of a page can't be judged
pub record DoubtsPage (table : Table) (block : ℕ) (page : List ℕ) (reason : Reason) (place : Place) : Type 0 where
  pub header : page_rule_of Heap page ≡ None
  pub item : DoubtsItem table block page reason place
