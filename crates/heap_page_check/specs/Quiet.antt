-- Quiet pages: each item is unused, or a live tuple of which hint bits and its header tell that nothing is wrong.
use Rattle.std.specs.Prelude.{◌≡◌, ℕ, ◌≤◌, Bool, true, false, not, ◌==◌, ◌&&◌, ◌||◌, nat_lt, List, length, None}
use Rattle.page_layout.specs.Items.{is_normal}
use Rattle.page_layout.specs.Page.{count_of, item_of}
use Rattle.tuple_head.specs.Head.{head_rule_of, is_heap_only, is_locked_only, is_old_form, is_xmax_invalid}
use Rattle.tuple_head.specs.Head.{is_xmin_committed, needs_freezing, seen_xmin, tuple_head_of}
use Rattle.tuple_head.specs.declared.HeapHead.{HeapHead}
use Rattle.varlena_attrs.specs.Inline.{are_inline}
use Rattle.heap_tuples.specs.Tuples.{attributes_in}
use Rattle.liveness.specs.declared.states.ItemState.{ItemState}
use Rattle.liveness.specs.declared.states.ItemState.TheVariants.{Unused, Dead, Redirect, Tuple}
use Rattle.hot_chains.specs.Chains.{is_live, is_live_tuple}
use Rattle.hot_chains.specs.Quiet.{IsUnchained}
use Rattle.toast_chunks.specs.declared.map.Chunk.{Chunk}
use Rattle.vis_map.specs.Truth.{IsSettled, IsVisible}
use Rattle.heap_page_check.specs.Found.{item_found, nothing_found}
use Rattle.heap_page_check.specs.Table.{Table, logs_in}
use Rattle.heap_page_check.specs.Verdicts.{item_verdict}
use Rattle.heap_page_check.specs.declared.verdict.ItemVerdict.TheVariants.{Passes}

-- a seen inserter, which is in range, is hinted to have committed, and xmax not to count or to lock alone; index
-- entries name the tuple; and where its block is called all-frozen, no field of it would be frozen
abbrev pub is_quiet_head : (in_range : ℕ → Bool) → (all_frozen : Bool) → HeapHead → Bool
is_quiet_head in_range all_frozen head =
    not (is_old_form head) && is_xmin_committed head && (is_xmax_invalid head || is_locked_only head)
    && not (is_heap_only head) && not (seen_xmin head == 0) && (nat_lt (seen_xmin head) 3 || in_range (seen_xmin head))
    && not (all_frozen && needs_freezing head)

-- the header of a tuple is such a one and keeps its rules, and all values are stored in line
pub record IsQuietTuple (table : Table) (all_frozen : Bool) (tuple : List ℕ) : Type 0 where
  pub head : is_quiet_head (logs_in table).xid_in_range all_frozen (tuple_head_of tuple) ≡ true
  pub rules : head_rule_of (length table.columns) (length tuple) (tuple_head_of tuple) ≡ None
  pub inline : are_inline (attributes_in table.columns tuple) ≡ true

-- item i passes, its line pointer alone tells whether it is a live tuple, and it belongs to no chain
pub record IsPlainItem (table : Table) (page : List ℕ) (i : ℕ) : Type 0 where
  pub state : ItemState
  pub passes : item_verdict table page i ≡ Passes state
  pub live : is_normal (item_of page i).flag ≡ is_live_tuple state
  pub unchained : IsUnchained state

-- which state tells so much of an item that passes: unused or dead, or a live tuple that index entries name
abbrev pub is_plain_state : ItemState → Bool
is_plain_state (Tuple head judged) = is_live judged.life && not (is_heap_only head)
is_plain_state Unused = true
is_plain_state Dead = true
is_plain_state (Redirect target) = false

-- a page of such items
abbrev pub IsPlain : Table → List ℕ → Type 0
IsPlain table page = (i : ℕ) → 1 ≤ i → i ≤ count_of page → IsPlainItem table page i

-- Such an item, of which nothing is found. Its state is what an all-visible page may have, and, where the block is
-- called all-frozen, what an all-frozen page may.
pub record IsQuietItem (table : Table) (all_frozen : Bool) (page : List ℕ) (i : ℕ) : Type 0 where
  pub plain : IsPlainItem table page i
  pub nothing : (chunks : List Chunk) (block : ℕ) → item_found table chunks block page i ≡ nothing_found
  pub visible : IsVisible plain.state
  pub settled : all_frozen ≡ true → IsSettled plain.state
