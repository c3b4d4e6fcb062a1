-- Of a quiet page nothing is found.
use Rattle.std.proofs.Common.{◌≡◌, inl, inr, ℕ, zero, suc, ◌+◌, ◌-◌, ◌≤◌, Bool, true, false, not, ◌==◌, ◌&&◌, ◌||◌, List, [], All, length, refl, sym, ap, subst, ◌∙◌, arith}
use Rattle.std.specs.Prelude.{nat_lt, nat_le, Option, Some, None, IsNone}
use Rattle.std.proofs.lemmas.Bool.{and_cases, and_parts, and_right, both_ways, cases_Bool, cond-false, cond-true, false_from_ne_true, leb-true, ltb-true, not-true, not_from_true, or_cases}
use Rattle.std.proofs.lemmas.List.Elements.{All-cons, All-nil}
use Rattle.outside.specs.Adds.{one_list}
use Rattle.page_layout.specs.Items.{is_misplaced_heap_item, is_normal}
use Rattle.page_layout.specs.Page.{count_of, item_of, upper_of}
use Rattle.page_layout.specs.declared.page.LineFlag.TheVariants as flag
use Rattle.page_layout.specs.declared.page.LinePtr.{LinePtr}
use Rattle.page_layout.specs.declared.rules.Rule.{Rule}
use Rattle.page_layout.specs.declared.rules.Rule.TheVariants.{V1, V2, V3, V4}
use Rattle.tuple_head.specs.Head.{is_heap_only, is_hinted_invalid, is_locked_only, is_old_form, is_xmax_invalid, is_xmin_committed, needs_freezing, seen_xmin, tuple_head_of}
use Rattle.tuple_head.specs.declared.HeapHead.{HeapHead}
use Rattle.heap_tuples.specs.Places.{tuple_at}
use Rattle.heap_tuples.specs.Tuples.{attributes_in}
use Rattle.varlena_attrs.specs.Reading.{Outcome}
use Rattle.liveness.specs.Life.{deleter_judged, inserter_life, judged_after, judged_of, plain}
use Rattle.liveness.specs.Logs.{Logs}
use Rattle.liveness.specs.declared.states.ItemState.{ItemState}
use Rattle.liveness.specs.declared.states.ItemState.TheVariants.{Tuple, Unused}
use Rattle.liveness.specs.declared.states.Life.{Life}
use Rattle.liveness.specs.declared.states.Life.TheVariants.{Live}
use Rattle.hot_chains.specs.Chains.{chain_rule}
use Rattle.hot_chains.specs.Quiet.{HasNoChains, IsUnchained}
use Rattle.toast_chunks.specs.declared.map.Chunk.{Chunk}
use Rattle.vis_map.proofs.Exact.{none_is_exact}
use Rattle.vis_map.specs.Rules.{IsMapRuleBroken, map_rule_of}
use Rattle.vis_map.specs.Truth.{IsAllFrozen, IsAllVisible, IsSettled, IsVisible}
use Rattle.vis_map.specs.declared.bits.MapBits.{MapBits}
use Rattle.reports.proofs.Parts.{All-upto}
use Rattle.reports.specs.Added.{each_upto, nothing, report_lists}
use Rattle.heap_page_check.specs.Found.{FoundLists, found_parts, item_found, item_state, items_found, leaves_nothing, nothing_found, state_in, states_of}
use Rattle.heap_page_check.specs.Pages.{chain_found, found_by_rule, is_flagged_visible, joint_found, with_joint}
use Rattle.heap_page_check.specs.Quiet.{IsPlain, IsQuietItem, IsQuietTuple, is_quiet_head}
use Rattle.heap_page_check.specs.Storage.{AreAbove, has_storage, meets_item_below}
use Rattle.heap_page_check.specs.Table.{Table, logs_in, rel_of}
use Rattle.heap_page_check.specs.Verdicts.{item_verdict, tuple_verdict, values_verdict}
use Rattle.heap_page_check.specs.declared.table.TableKind.{TableKind}
use Rattle.heap_page_check.specs.declared.table.TableKind.TheVariants.{Heap}
use Rattle.heap_page_check.specs.declared.verdict.ItemVerdict.{ItemVerdict}
use Rattle.heap_page_check.specs.declared.verdict.ItemVerdict.TheVariants.{Passes}
use Rattle.heap_page_check.proofs.InlineLaws.{leaves_no_rule, left_is_nothing}
use Rattle.heap_page_check.proofs.ItemRules.{bare_item, normal_is, passing_item, verdict_by_flag}
use Rattle.heap_page_check.proofs.JointRules.{nothing_of_chains}
use Rattle.heap_page_check.proofs.Meeting.{above_by_last, meets_none_above, other_has_none}
use Rattle.heap_page_check.proofs.TupleRules.{judged_verdict, placed_verdict}

-- A quiet header

-- what is asked of it, one by one
record IsQuietHead (in_range : ℕ → Bool) (all_frozen : Bool) (head : HeapHead) : Type 0 where
  form : is_old_form head ≡ false
  committed : is_xmin_committed head ≡ true
  kept : (is_xmax_invalid head || is_locked_only head) ≡ true
  root : is_heap_only head ≡ false
  seen : (seen_xmin head == 0) ≡ false
  ranged : (nat_lt (seen_xmin head) 3 || in_range (seen_xmin head)) ≡ true
  settled : (all_frozen && needs_freezing head) ≡ false

quiet_parts : (in_range : ℕ → Bool) (all_frozen : Bool) (head : HeapHead) → is_quiet_head in_range all_frozen head ≡ true → IsQuietHead in_range all_frozen head
quiet_parts in_range all_frozen head quiet =
    let seventh = and_parts _ _ quiet in
    let sixth = and_parts _ _ seventh.0 in
    let fifth = and_parts _ _ sixth.0 in
    let fourth = and_parts _ _ fifth.0 in
    let third = and_parts _ _ fourth.0 in
    let second = and_parts _ _ third.0 in
    record {
      form = not-true (is_old_form head) second.0;
      committed = second.1;
      kept = third.1;
      root = not-true (is_heap_only head) fourth.1;
      seen = not-true (seen_xmin head == 0) fifth.1;
      ranged = sixth.1;
      settled = not-true (all_frozen && needs_freezing head) seventh.1;
    }

pub quiet_form : (in_range : ℕ → Bool) (all_frozen : Bool) (head : HeapHead) → is_quiet_head in_range all_frozen head ≡ true → is_old_form head ≡ false
quiet_form in_range all_frozen head quiet = (quiet_parts in_range all_frozen head quiet).form

-- a low transaction isn't a normal one, and another is in range
kept_range : (x : ℕ) (in_range : Bool) → (nat_lt x 3 || in_range) ≡ true → (nat_le 3 x && not in_range) ≡ false
kept_range x in_range e = elim (or_cases (nat_lt x 3) in_range e) [
  | inl low ↦ false_from_ne_true (nat_le 3 x && not in_range) (λ both. absurd (omega (arith, ltb-true x 3 low, leb-true 3 x (and_parts (nat_le 3 x) (not in_range) both).0)))
  | inr ranged ↦ and_right (nat_le 3 x) (not in_range) (not_from_true in_range ranged)
]

module _ (logs : Logs) (all_frozen : Bool) (head : HeapHead) (parts : IsQuietHead logs.xid_in_range all_frozen head) where
  not_hinted : is_hinted_invalid head ≡ false
  unfolding is_hinted_invalid
  not_hinted = and_right _ (not (is_xmin_committed head)) (not_from_true (is_xmin_committed head) parts.committed)

  inserted : inserter_life logs head ≡ None
  unfolding inserter_life
  inserted =
      cond-false _ _ _ parts.form ∙ cond-false _ _ _ parts.seen
      ∙ cond-false _ _ _ (kept_range (seen_xmin head) (logs.xid_in_range (seen_xmin head)) parts.ranged)
      ∙ cond-false _ _ _ not_hinted
      ∙ cond-false _ _ _ (and_right (nat_le 3 (seen_xmin head)) (not (is_xmin_committed head)) (not_from_true (is_xmin_committed head) parts.committed))

  kept : deleter_judged logs head ≡ plain Live
  unfolding deleter_judged
  kept = elim (cases_Bool (is_xmax_invalid head)) [
    | inl invalid ↦ cond-true _ _ _ invalid
    | inr counts ↦ cond-false _ _ _ counts ∙ cond-true _ _ _ (locks counts)
  ]
    where
      locks : is_xmax_invalid head ≡ false → is_locked_only head ≡ true
      locks counts = elim (or_cases (is_xmax_invalid head) (is_locked_only head) parts.kept) [
        | inl invalid ↦ absurd (both_ways (is_xmax_invalid head) counts invalid)
        | inr locked ↦ locked
      ]

  -- its tuple is live
  quiet_is_live : judged_of logs head ≡ plain Live
  unfolding judged_of
  quiet_is_live = ap (λ (l : Option Life). judged_after l (deleter_judged logs head)) inserted ∙ kept

-- A quiet tuple

second_fails : (x y : Bool) → x ≡ true → (x && y) ≡ false → y ≡ false
second_fails x y e f = elim (and_cases x y f) [ inl z ↦ absurd (both_ways x z e) | inr done ↦ done ]

module _ (table : Table) (all_frozen : Bool) (tuple : List ℕ) (heap : table.kind ≡ Heap) (quiet : IsQuietTuple table all_frozen tuple) where
  abbrev head : HeapHead
  head = tuple_head_of tuple

  abbrev outcome : Outcome
  outcome = attributes_in table.columns tuple

  parts : IsQuietHead (logs_in table).xid_in_range all_frozen head
  parts = quiet_parts (logs_in table).xid_in_range all_frozen head quiet.head

  leaves : leaves_nothing table.kind outcome ≡ true
  leaves = ap (λ (k : TableKind). leaves_nothing k outcome) heap ∙ quiet.inline

  passes : tuple_verdict table (length tuple) tuple ≡ Passes (Tuple head (plain Live))
  passes =
      judged_verdict table (length tuple) tuple head (plain Live) refl parts.form quiet.rules (sym (quiet_is_live (logs_in table) all_frozen head parts))
      ∙ ap (values_verdict head (plain Live)) (leaves_no_rule table.kind table.toast head outcome leaves)

-- Quiet items

module _ (table : Table) (all_frozen : Bool) (page : List ℕ) (i : ℕ) where
  -- a quiet tuple that lies below all items before it
  pub quiet_normal : (item : LinePtr) (tuple : List ℕ) (lowest : ℕ) → table.kind ≡ Heap → item ≡ item_of page i → is_normal item.flag ≡ true → is_misplaced_heap_item (upper_of page) item ≡ false
      → item.off + item.len ≤ lowest → AreAbove page (i - 1) lowest → length tuple ≡ item.len → tuple ≡ tuple_at page i → IsQuietTuple table all_frozen tuple → IsQuietItem table all_frozen page i
  quiet_normal item tuple lowest heap it normal placed ends above long whole quiet =
      let at_normal : is_normal (item_of page i).flag ≡ true = ap (λ (p : LinePtr). is_normal p.flag) (sym it) ∙ normal in
      let at_placed : is_misplaced_heap_item (upper_of page) (item_of page i) ≡ false = ap (λ (p : LinePtr). is_misplaced_heap_item (upper_of page) p) (sym it) ∙ placed in
      let at_end : (item_of page i).off + (item_of page i).len ≤ lowest = subst (λ (p : LinePtr). p.off + p.len ≤ lowest) it ends in
      let alone : false ≡ meets_item_below page (i - 1) (item_of page i) = sym (meets_none_above page (i - 1) lowest (item_of page i) at_end above) in
      let here : IsQuietTuple table all_frozen (tuple_at page i) = subst (IsQuietTuple table all_frozen) whole quiet in
      let own = parts table all_frozen (tuple_at page i) heap here in
      let verdict : item_verdict table page i ≡ Passes (Tuple (tuple_head_of (tuple_at page i)) (plain Live)) =
      sym (normal_is table page i at_normal)
      ∙ placed_verdict table page i false item tuple at_placed at_normal alone refl it long whole
      ∙ ap (λ (bytes : List ℕ). tuple_verdict table (length bytes) bytes) whole
      ∙ passes table all_frozen (tuple_at page i) heap here
      in record {
        plain = record {
          state = Tuple (tuple_head_of (tuple_at page i)) (plain Live);
          passes = verdict;
          live = at_normal;
          unchained = (refl, own.root);
        };
        nothing = λ chunks block.
            passing_item table chunks block page i (Tuple (tuple_head_of (tuple_at page i)) (plain Live))
            (left_is_nothing table.kind table.toast chunks block i (attributes_in table.columns (tuple_at page i)) (leaves table all_frozen (tuple_at page i) heap here))
            verdict;
        visible = refl;
        settled = λ frozen. second_fails all_frozen (needs_freezing (tuple_head_of (tuple_at page i))) frozen own.settled;
      }

  -- an unused one
  pub quiet_unused : (item : LinePtr) → item ≡ item_of page i → item.flag ≡ flag.Unused → IsQuietItem table all_frozen page i
  quiet_unused item it unused =
      let verdict : item_verdict table page i ≡ Passes Unused = verdict_by_flag table page i item flag.Unused it unused in
      record {
        plain = record {
          state = Unused;
          passes = verdict;
          live = ap (λ (p : LinePtr). is_normal p.flag) (sym it) ∙ ap is_normal unused;
          unchained = (refl, refl);
        };
        nothing = λ chunks block. bare_item table chunks block page i Unused refl verdict;
        visible = tt;
        settled = λ frozen. tt;
      }

-- an item that lies below those before it is the lowest
pub lowest_next : (page : List ℕ) (i lowest : ℕ) (item : LinePtr) → item ≡ item_of page i → item.off + item.len ≤ lowest → AreAbove page (i - 1) lowest → AreAbove page i item.off
lowest_next page i lowest item it ends above =
    let begins : item.off ≡ (item_of page i).off = ap (λ (p : LinePtr). p.off) it in
    λ j. above_by_last page i item.off j (λ storage. omega (arith, begins)) (λ k first last storage. let le = above k first last storage in omega (arith, le, ends))

-- one that isn't normal has no storage
pub lowest_same : (page : List ℕ) (i lowest : ℕ) (item : LinePtr) → item ≡ item_of page i → item.flag ≡ flag.Unused → AreAbove page (i - 1) lowest → AreAbove page i lowest
lowest_same page i lowest item it unused above =
    let none : has_storage (upper_of page) (item_of page i) ≡ false =
    other_has_none (upper_of page) (item_of page i) (ap (λ (p : LinePtr). is_normal p.flag) (sym it) ∙ ap is_normal unused)
    in λ j. above_by_last page i lowest j (λ storage. absurd (both_ways (has_storage (upper_of page) (item_of page i)) none storage)) above

-- A quiet page

-- where nothing is found of each, nothing is found of all
nothing_of_items : (f : ℕ → FoundLists) (n : ℕ) → ((i : ℕ) → 1 ≤ i → i ≤ n → f i ≡ nothing_found) → each_upto found_parts f n ≡ nothing_found
unfolding each_upto
nothing_of_items f zero none = refl
nothing_of_items f (suc n) none = rw (nothing_of_items f n (λ i first last. none i first (omega arith)), none (suc n) (omega arith) (omega arith)) refl

is_none : {T : Type 0} (o : Option T) → IsNone o → o ≡ None
is_none None e = refl
is_none (Some x) e = absurd cc

-- what bits break on a page of visible items, they break whatever stands there
bits_kept : (bits : MapBits) (flagged : Bool) (items : List ItemState) → IsAllVisible items → (bits.all_frozen ≡ true → IsAllFrozen items) → ((rule : Rule) → IsMapRuleBroken bits flagged [] rule → ⊥) → (rule : Rule) → IsMapRuleBroken bits flagged items rule → ⊥
bits_kept bits flagged items visible frozen alike V1 broken = alike V1 broken
bits_kept bits flagged items visible frozen alike V2 broken = alike V2 broken
bits_kept bits flagged items visible frozen alike V3 broken = broken.1 visible
bits_kept bits flagged items visible frozen alike V4 broken = broken.1 (frozen broken.0)
bits_kept bits flagged items visible frozen alike _ broken = broken

-- what holds of the state of each item of a plain page holds of the states
module _ (table : Table) (page : List ℕ) (plain : IsPlain table page) where
  of_states : (P : ItemState → Type 0) → ((i : ℕ) (first : 1 ≤ i) (last : i ≤ count_of page) → P (plain i first last).state) → All P (states_of table page)
  unfolding states_of item_state
  of_states P holds =
      All-upto one_list (λ (xs : List ItemState). xs) refl (λ a b. refl) P (item_state table page) (count_of page) (λ i first last.
      subst (λ (v : ItemVerdict). All P (state_in v)) (sym (plain i first last).passes)
      (All-cons P (plain i first last).state [] (holds i first last) (All-nil P)))

  pub plain_unchained : HasNoChains (states_of table page)
  plain_unchained = of_states IsUnchained (λ i first last. (plain i first last).unchained)

module _ (table : Table) (bits : MapBits) (block : ℕ) (page : List ℕ) (each : (i : ℕ) → 1 ≤ i → i ≤ count_of page → IsQuietItem table bits.all_frozen page i) where
  abbrev pub is_plain : IsPlain table page
  is_plain = λ i first last. (each i first last).plain

  abbrev states : List ItemState
  states = states_of table page

  module _ (kept : (rule : Rule) → IsMapRuleBroken bits (is_flagged_visible page) [] rule → ⊥) (chainless : (items : List ItemState) → HasNoChains items → (i : ℕ) → chain_rule block items i ≡ None) where
    no_map_rule : map_rule_of bits (is_flagged_visible page) states ≡ None
    no_map_rule =
        is_none (map_rule_of bits (is_flagged_visible page) states)
        ((none_is_exact bits (is_flagged_visible page) states).1
        (bits_kept bits (is_flagged_visible page) states (of_states table page is_plain IsVisible (λ i first last. (each i first last).visible)) (λ frozen. of_states table page is_plain IsSettled (λ i first last. (each i first last).settled frozen)) kept))

    no_chain_rule : each_upto report_lists (chain_found (rel_of table.kind) block states) (length states) ≡ nothing
    no_chain_rule = nothing_of_chains (rel_of table.kind) block states (chainless states (plain_unchained table page is_plain))

    no_joint : joint_found (rel_of table.kind) block bits (is_flagged_visible page) states ≡ nothing
    unfolding joint_found
    no_joint = rw (no_map_rule, no_chain_rule) refl

    pub quiet_page : (chunks : List Chunk) → found_by_rule table chunks bits block page None ≡ nothing_found
    unfolding items_found
    quiet_page chunks =
        ap (λ (found : FoundLists). with_joint found (joint_found (rel_of table.kind) block bits (is_flagged_visible page) states))
        (nothing_of_items (item_found table chunks block page) (count_of page) (λ i first last. (each i first last).nothing chunks block))
        ∙ ap (with_joint nothing_found) no_joint
