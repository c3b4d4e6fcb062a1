-- What the code adds of an item and of a page is what is found of them.
use Rattle.std.proofs.Common.{◌≡◌, ℕ, List, ◌++◌, ◌∷◌, ◌∙◌, true, [], refl, ap, sym}
use Rattle.std.specs.Prelude.{Option, Some}
use Rattle.outside.specs.Adds.{one_list}
use Rattle.heap_tuples.specs.Places.{tuple_at}
use Rattle.heap_tuples.specs.Tuples.{attributes_in}
use Rattle.liveness.specs.declared.states.ItemState.{ItemState}
use Rattle.liveness.specs.declared.states.ItemState.TheVariants.{Redirect}
use Rattle.page_layout.specs.Items.{is_normal}
use Rattle.page_layout.specs.Page.{count_of, item_of, page_rule_of}
use Rattle.page_layout.specs.declared.page.LineFlag.{LineFlag}
use Rattle.page_layout.specs.declared.page.LineFlag.TheVariants as flag
use Rattle.page_layout.specs.declared.page.LinePtr.{LinePtr}
use Rattle.page_layout.specs.declared.page.PageKind.TheVariants.{Heap}
use Rattle.page_layout.specs.declared.rules.Rule.{Rule}
use Rattle.toast_chunks.specs.declared.map.Chunk.{Chunk}
use Rattle.vis_map.specs.declared.bits.MapBits.{MapBits}
use Rattle.reports.specs.Added.{each_upto, finding_at}
use Rattle.reports.specs.declared.places.Place.TheVariants.{Block, Item}
use Rattle.reports.specs.declared.places.Rel.{Rel}
use Rattle.heap_page_check.specs.Found.{FoundLists, attributes_by, both_found, found_parts, item_found, item_state, left_by, live_attributes, nothing_found, only_listed, state_in, states_of}
use Rattle.heap_page_check.specs.Found.{bare_lists, verdict_lists}
use Rattle.heap_page_check.specs.Pages.{found_by_rule, page_found}
use Rattle.heap_page_check.specs.Table.{Table, rel_of}
use Rattle.heap_page_check.specs.Verdicts.{flag_verdict, item_verdict, normal_verdict, without_state}
use Rattle.heap_page_check.specs.declared.verdict.ItemVerdict.{ItemVerdict}
use Rattle.heap_page_check.specs.declared.verdict.ItemVerdict.TheVariants.{Passes}
use Rattle.heap_page_check.specs.declared.verdict.TupleVerdict.{TupleVerdict}
use Rattle.heap_page_check.proofs.Left.{none_left}

-- what the attributes leave by a verdict, and then what the verdict lists
abbrev by_verdict : Table → List Chunk → ℕ → List ℕ → ℕ → Rel → ItemVerdict → FoundLists
by_verdict table chunks block page i rel verdict =
    both_found (left_by table.kind table.toast chunks block i (attributes_by (attributes_in table.columns (tuple_at page i)) verdict))
    (only_listed (verdict_lists (Item rel block i) verdict))

item_is : (table : Table) (chunks : List Chunk) (block : ℕ) (page : List ℕ) (i : ℕ) (rel : Rel) (verdict : ItemVerdict) → rel ≡ rel_of table.kind → verdict ≡ item_verdict table page i → by_verdict table chunks block page i rel verdict ≡ item_found table chunks block page i
unfolding item_found live_attributes
item_is table chunks block page i rel verdict r e =
    ap (λ (v : ItemVerdict). by_verdict table chunks block page i rel v) e ∙ ap (λ (x : Rel). by_verdict table chunks block page i x (item_verdict table page i)) r

pub item_added : (table : Table) (chunks : List Chunk) (block : ℕ) (page : List ℕ) (i : ℕ) (rel : Rel) (verdict : ItemVerdict) (told : TupleVerdict) (old mid new : FoundLists) → rel ≡ rel_of table.kind → verdict ≡ item_verdict table page i
    → told ≡ without_state verdict → mid ≡ both_found old (left_by table.kind table.toast chunks block i (attributes_by (attributes_in table.columns (tuple_at page i)) verdict))
    → new ≡ both_found mid (only_listed (bare_lists (Item rel block i) told)) → new ≡ both_found old (item_found table chunks block page i)
item_added table chunks block page i rel verdict told old mid new r e bare left listed =
    listed ∙ ap (λ (v : TupleVerdict). both_found mid (only_listed (bare_lists (Item rel block i) v))) bare
    ∙ ap (λ (f : FoundLists). both_found f (only_listed (verdict_lists (Item rel block i) verdict))) left
    ∙ found_parts.in_turn old (left_by table.kind table.toast chunks block i (attributes_by (attributes_in table.columns (tuple_at page i)) verdict)) (only_listed (verdict_lists (Item rel block i) verdict))
    ∙ ap (both_found old) (item_is table chunks block page i rel verdict r e)

state_is : (table : Table) (page : List ℕ) (i : ℕ) (verdict : ItemVerdict) → verdict ≡ item_verdict table page i → state_in verdict ≡ item_state table page i
unfolding item_state
state_is table page i verdict e = ap state_in e

pub state_added : (table : Table) (page : List ℕ) (i : ℕ) (verdict : ItemVerdict) (old new : List ItemState) → verdict ≡ item_verdict table page i → new ≡ old ++ state_in verdict → new ≡ old ++ item_state table page i
state_added table page i verdict old new e now = now ∙ ap (λ (xs : List ItemState). old ++ xs) (state_is table page i verdict e)

-- the states that were put together are those of the page
pub states_are : (table : Table) (page : List ℕ) (old new : List ItemState) → old ≡ [] → new ≡ old ++ each_upto one_list (item_state table page) (count_of page) → new ≡ states_of table page
unfolding states_of
states_are table page old new blank now = now ∙ rw blank refl

-- a page's own rule is all that is found of it
pub header_added : (table : Table) (chunks : List Chunk) (bits : MapBits) (block : ℕ) (page : List ℕ) (rel : Rel) (rule : Rule) (old new : FoundLists) → rel ≡ rel_of table.kind → page_rule_of Heap page ≡ Some rule
    → new ≡ both_found old (only_listed (finding_at (Block rel block) (Some rule))) → new ≡ both_found old (page_found table chunks bits block page)
unfolding page_found
header_added table chunks bits block page rel rule old new r is now =
    now ∙ ap (λ (x : Rel). both_found old (only_listed (finding_at (Block x block) (Some rule)))) r
    ∙ ap (λ (found : Option Rule). both_found old (found_by_rule table chunks bits block page found)) (sym is)

-- An item by the flag of its line pointer

pub flag_is_normal : (f : LineFlag) → is_normal f ≡ true → f ≡ flag.Normal
flag_is_normal flag.Normal e = refl
flag_is_normal flag.Unused e = cc
flag_is_normal flag.Redirect e = cc
flag_is_normal flag.Dead e = cc

pub normal_is : (table : Table) (page : List ℕ) (i : ℕ) → is_normal (item_of page i).flag ≡ true → normal_verdict table page i ≡ item_verdict table page i
unfolding item_verdict
normal_is table page i e = sym (ap (flag_verdict table page i) (flag_is_normal (item_of page i).flag e))

-- One that isn't normal: its line pointer alone tells its state, and nothing is found of it

pub verdict_by_flag : (table : Table) (page : List ℕ) (i : ℕ) (item : LinePtr) (flag : LineFlag) → item ≡ item_of page i → item.flag ≡ flag → item_verdict table page i ≡ flag_verdict table page i flag
unfolding item_verdict
verdict_by_flag table page i item flag value is = ap (flag_verdict table page i) (ap (λ (p : LinePtr). p.flag) (sym value) ∙ is)

pub redirect_verdict : (table : Table) (page : List ℕ) (i : ℕ) (item : LinePtr) → item ≡ item_of page i → item.flag ≡ flag.Redirect → item_verdict table page i ≡ Passes (Redirect item.off)
redirect_verdict table page i item value is =
    verdict_by_flag table page i item flag.Redirect value is ∙ ap (λ (p : LinePtr). Passes (Redirect p.off)) (sym value)

-- of an item that passes and leaves nothing, nothing is found
pub passing_item : (table : Table) (chunks : List Chunk) (block : ℕ) (page : List ℕ) (i : ℕ) (state : ItemState) → left_by table.kind table.toast chunks block i (attributes_by (attributes_in table.columns (tuple_at page i)) (Passes state)) ≡ nothing_found → item_verdict table page i ≡ Passes state → item_found table chunks block page i ≡ nothing_found
passing_item table chunks block page i state leaves passes =
    sym (item_is table chunks block page i (rel_of table.kind) (Passes state) refl (sym passes)) ∙ ap (λ (f : FoundLists). both_found f nothing_found) leaves

pub bare_item : (table : Table) (chunks : List Chunk) (block : ℕ) (page : List ℕ) (i : ℕ) (state : ItemState) → attributes_by (attributes_in table.columns (tuple_at page i)) (Passes state) ≡ [] → item_verdict table page i ≡ Passes state → item_found table chunks block page i ≡ nothing_found
bare_item table chunks block page i state none passes =
    passing_item table chunks block page i state
    (ap (left_by table.kind table.toast chunks block i) none ∙ none_left table.kind table.toast chunks block i) passes

pub bare_adds_nothing : (table : Table) (chunks : List Chunk) (block : ℕ) (page : List ℕ) (i : ℕ) (state : ItemState) (old : FoundLists) → attributes_by (attributes_in table.columns (tuple_at page i)) (Passes state) ≡ [] → item_verdict table page i ≡ Passes state → old ≡ both_found old (item_found table chunks block page i)
bare_adds_nothing table chunks block page i state old none passes =
    sym (ap (both_found old) (bare_item table chunks block page i state none passes) ∙ found_parts.with_none old)

pub bare_state : (table : Table) (page : List ℕ) (i : ℕ) (state : ItemState) (old new : List ItemState) → item_verdict table page i ≡ Passes state → new ≡ old ++ state ∷ [] → new ≡ old ++ item_state table page i
unfolding item_state
bare_state table page i state old new passes now = now ∙ ap (λ (v : ItemVerdict). old ++ state_in v) (sym passes)
