-- The verdict on a tuple, by what is found of its place, its header and its life; and what it adds.
use Rattle.std.proofs.Common.{◌≡◌, ℕ, ◌-◌, Bool, true, false, List, ◌++◌, ◌∙◌, refl, sym, ap, append-nil, length}
use Rattle.std.specs.Prelude.{◌&&◌, if◌then◌else◌, Option, Some, None}
use Rattle.std.proofs.lemmas.Bool.{cond-true, cond-false}
use Rattle.page_layout.specs.Items.{is_misplaced_heap_item, is_normal}
use Rattle.page_layout.specs.Page.{item_of, piece_of, upper_of}
use Rattle.page_layout.specs.declared.page.LinePtr.{LinePtr}
use Rattle.page_layout.specs.declared.rules.Rule.{Rule}
use Rattle.page_layout.specs.declared.rules.Rule.TheVariants.{H1, H2}
use Rattle.heap_tuples.specs.Places.{tuple_at}
use Rattle.tuple_head.specs.Head.{head_rule_of, is_old_form, tuple_head_of}
use Rattle.tuple_head.specs.declared.HeapHead.{HeapHead}
use Rattle.liveness.specs.Life.{judged_of}
use Rattle.liveness.specs.declared.states.ItemState.{ItemState}
use Rattle.liveness.specs.declared.states.Judged.{Judged}
use Rattle.toast_chunks.specs.declared.map.Chunk.{Chunk}
use Rattle.varlena_attrs.specs.Reading.{Outcome}
use Rattle.heap_page_check.specs.Found.{FoundLists, attributes_by, both_found, left_by, state_in}
use Rattle.heap_page_check.specs.Storage.{meets_item_below, overlaps_lower_item}
use Rattle.heap_page_check.specs.Table.{Table, logs_in}
use Rattle.heap_page_check.specs.Verdicts.{header_verdict, life_verdict, normal_verdict, tuple_verdict}
use Rattle.heap_page_check.specs.declared.table.TableKind.{TableKind}
use Rattle.heap_page_check.specs.declared.verdict.ItemVerdict.{ItemVerdict}
use Rattle.heap_page_check.specs.declared.verdict.ItemVerdict.TheVariants.{Breaks}
use Rattle.heap_page_check.proofs.Left.{nothing_left}

module _ (table : Table) (len : ℕ) (tuple : List ℕ) (head : HeapHead) where
  by_rules : (found : Option Rule) → head ≡ tuple_head_of tuple → is_old_form head ≡ false → head_rule_of (length table.columns) len head ≡ found
      → tuple_verdict table len tuple ≡ header_verdict table tuple head found
  unfolding tuple_verdict
  by_rules found here new is =
      cond-false _ _ _ (ap is_old_form (sym here) ∙ new)
      ∙ ap (λ (h : HeapHead). header_verdict table tuple h (head_rule_of (length table.columns) len h)) (sym here)
      ∙ ap (header_verdict table tuple head) is

  pub ruled_verdict : (rule : Rule) → head ≡ tuple_head_of tuple → is_old_form head ≡ false → head_rule_of (length table.columns) len head ≡ Some rule
      → tuple_verdict table len tuple ≡ Breaks rule
  ruled_verdict rule here new is = by_rules (Some rule) here new is

  pub judged_verdict : (judged : Judged) → head ≡ tuple_head_of tuple → is_old_form head ≡ false → head_rule_of (length table.columns) len head ≡ None
      → judged ≡ judged_of (logs_in table) head → tuple_verdict table len tuple ≡ life_verdict table.toast table.columns tuple head judged judged.life
  judged_verdict judged here new is said =
      by_rules None here new is ∙ ap (λ (j : Judged). life_verdict table.toast table.columns tuple head j j.life) (sym said)

-- The verdict on a normal item, by where it lies

pub whole_tuple : (page : List ℕ) (i : ℕ) (item : LinePtr) (tuple : List ℕ) → item ≡ item_of page i → tuple ≡ piece_of page item.off item.len → tuple ≡ tuple_at page i
whole_tuple page i item tuple it bytes = bytes ∙ ap (λ (p : LinePtr). piece_of page p.off p.len) it

module _ (table : Table) (page : List ℕ) (i : ℕ) where
  pub misplaced_verdict : is_misplaced_heap_item (upper_of page) (item_of page i) ≡ true → normal_verdict table page i ≡ Breaks H1
  unfolding normal_verdict
  misplaced_verdict misplaced = cond-true _ _ _ misplaced

  by_overlap : (meets : Bool) → is_misplaced_heap_item (upper_of page) (item_of page i) ≡ false → is_normal (item_of page i).flag ≡ true → meets ≡ meets_item_below page (i - 1) (item_of page i)
      → normal_verdict table page i ≡ (if meets then Breaks H2 else tuple_verdict table (item_of page i).len (tuple_at page i))
  unfolding normal_verdict overlaps_lower_item
  by_overlap meets placed normal is =
      cond-false _ _ _ placed
      ∙ ap (λ (t : Bool). if t then Breaks H2 else tuple_verdict table (item_of page i).len (tuple_at page i))
      (ap (λ (n : Bool). n && meets_item_below page (i - 1) (item_of page i)) normal ∙ sym is)

  pub overlapping_verdict : (meets : Bool) → is_misplaced_heap_item (upper_of page) (item_of page i) ≡ false → is_normal (item_of page i).flag ≡ true → meets ≡ meets_item_below page (i - 1) (item_of page i)
      → meets ≡ true → normal_verdict table page i ≡ Breaks H2
  overlapping_verdict meets placed normal is e = by_overlap meets placed normal is ∙ cond-true _ _ _ e

  pub placed_verdict : (meets : Bool) (item : LinePtr) (tuple : List ℕ) → is_misplaced_heap_item (upper_of page) (item_of page i) ≡ false → is_normal (item_of page i).flag ≡ true
      → meets ≡ meets_item_below page (i - 1) (item_of page i) → meets ≡ false → item ≡ item_of page i → length tuple ≡ item.len → tuple ≡ tuple_at page i
      → normal_verdict table page i ≡ tuple_verdict table (length tuple) tuple
  placed_verdict meets item tuple placed normal is e it long whole =
      by_overlap meets placed normal is ∙ cond-false _ _ _ e
      ∙ ap (λ (n : ℕ). tuple_verdict table n (tuple_at page i)) (sym (long ∙ ap (λ (p : LinePtr). p.len) it))
      ∙ ap (tuple_verdict table (length tuple)) (sym whole)

-- What was added by a verdict, said of what it is

pub left_as : (kind : TableKind) (toast : Option ℕ) (chunks : List Chunk) (block item : ℕ) (outcome shown : Outcome) (verdict full : ItemVerdict) (old new : FoundLists) → outcome ≡ shown → full ≡ verdict
    → new ≡ both_found old (left_by kind toast chunks block item (attributes_by outcome verdict)) → new ≡ both_found old (left_by kind toast chunks block item (attributes_by shown full))
left_as kind toast chunks block item outcome shown verdict full old new same is left =
    left ∙ ap (λ (v : ItemVerdict). both_found old (left_by kind toast chunks block item (attributes_by outcome v))) (sym is)
    ∙ ap (λ (o : Outcome). both_found old (left_by kind toast chunks block item (attributes_by o full))) same

pub state_as : (verdict full : ItemVerdict) (old new : List ItemState) → full ≡ verdict → new ≡ old ++ state_in verdict → new ≡ old ++ state_in full
state_as verdict full old new is now = now ∙ ap (λ (v : ItemVerdict). old ++ state_in v) (sym is)

-- What breaks a rule, and what is in doubt, leaves nothing and has no state

pub broken_leaves_nothing : (kind : TableKind) (toast : Option ℕ) (chunks : List Chunk) (block item : ℕ) (outcome : Outcome) (rule : Rule) (full : ItemVerdict) (old : FoundLists) → full ≡ Breaks rule
    → old ≡ both_found old (left_by kind toast chunks block item (attributes_by outcome full))
broken_leaves_nothing kind toast chunks block item outcome rule full old is =
    left_as kind toast chunks block item outcome outcome (Breaks rule) full old old refl is (nothing_left kind toast chunks block item old)

pub broken_has_no_state : (rule : Rule) (full : ItemVerdict) (old : List ItemState) → full ≡ Breaks rule → old ≡ old ++ state_in full
broken_has_no_state rule full old is = state_as (Breaks rule) full old old is (sym (append-nil old))
