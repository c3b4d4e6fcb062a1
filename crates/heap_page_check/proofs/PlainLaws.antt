-- What the states of a page's items tell of it, where all are plain.
use Rattle.std.proofs.Common.{◌≡◌, inl, inr, ℕ, ◌-◌, ◌≤◌, Bool, true, false, not, ◌==◌, ◌&&◌, List, length, get_or, refl, sym, ap, ◌∙◌, arith}
use Rattle.std.specs.List.{list_all}
use Rattle.std.proofs.lemmas.Bool.{and_parts, cases_Bool, false≢true, not-true}
use Rattle.std.proofs.lemmas.List.Folds.{list_all_at}
use Rattle.page_layout.specs.Items.{is_normal}
use Rattle.page_layout.specs.Page.{item_of}
use Rattle.tuple_head.specs.Head.{is_heap_only, is_hot_updated}
use Rattle.liveness.specs.Life.{judged_of}
use Rattle.liveness.specs.declared.states.ItemState.{ItemState}
use Rattle.liveness.specs.declared.states.ItemState.TheVariants.{Unused}
use Rattle.liveness.specs.declared.states.Life.{Life}
use Rattle.liveness.specs.declared.states.Life.TheVariants as life
use Rattle.hot_chains.specs.Chains.{is_dead, is_live, is_live_tuple, item_at}
use Rattle.hot_chains.specs.Quiet.{IsUnchained}
use Rattle.toast_chunks.specs.declared.map.Chunk.{Chunk}
use Rattle.heap_page_check.specs.Found.{FoundLists, both_found, items_found, states_of}
use Rattle.heap_page_check.specs.Quiet.{IsPlain, is_plain_state}
use Rattle.heap_page_check.specs.States.{IsStateOf, dead, redirect, tuple, unused}
use Rattle.heap_page_check.specs.Table.{Table, logs_in}
use Rattle.heap_page_check.specs.Verdicts.{head_at}
use Rattle.heap_page_check.proofs.JointRules.{Counts, counts_of, none_doubted, none_found}
use Rattle.heap_page_check.proofs.PageLaws.{each_silent}
use Rattle.heap_page_check.proofs.StateLaws.{EachPasses, item_at-counted, passes_there, states_are_there}

-- One item

live_stays : (l : Life) (updated : Bool) → is_live l ≡ true → (is_dead l && updated) ≡ false
live_stays life.Live updated e = refl
live_stays life.Dead updated e = absurd (false≢true e)
live_stays (life.Unjudged doubt) updated e = absurd (false≢true e)
live_stays (life.Broken rule) updated e = absurd (false≢true e)

plain_item : (table : Table) (page : List ℕ) (i : ℕ) (s : ItemState) → IsStateOf table page i s → is_plain_state s ≡ true → (is_normal (item_of page i).flag ≡ is_live_tuple s) × IsUnchained s
plain_item table page i _ (unused e) plain = (ap is_normal e, (refl, refl))
plain_item table page i _ (dead e) plain = (ap is_normal e, (refl, refl))
plain_item table page i _ (redirect e) plain = absurd (false≢true plain)
plain_item table page i _ (tuple e) plain =
    let own = (judged_of (logs_in table) (head_at page i)).life in
    let parts = and_parts (is_live own) (not (is_heap_only (head_at page i))) plain in
    (ap is_normal e ∙ sym parts.0, (live_stays own (is_hot_updated (head_at page i)) parts.0, not-true (is_heap_only (head_at page i)) parts.1))

-- what holds of all states holds of the one of an item
one_of_all : (p : ItemState → Bool) (states : List ItemState) (i : ℕ) → list_all p states ≡ true → 1 ≤ i → i ≤ length states → p (item_at states i) ≡ true
one_of_all p states i all first last = elim (cases_Bool (p (item_at states i))) [
  | inl holds ↦ holds
  | inr fails ↦
      let there : p (get_or states (i - 1) Unused) ≡ false = ap p (sym (item_at-counted states i first)) ∙ fails in
      absurd (false≢true (sym (list_all_at p states (i - 1) Unused (omega (arith, first, last)) there) ∙ all))
]

-- A page

pub plain_by_states : (table : Table) (page : List ℕ) → EachPasses table page → list_all is_plain_state (states_of table page) ≡ true → IsPlain table page
plain_by_states table page pass all i first last =
    let are = states_are_there table page pass in
    let own = plain_item table page i (item_at (states_of table page) i) (are.each i first last) (one_of_all is_plain_state (states_of table page) i all first (omega (arith, last, are.count))) in
    record {
      state = item_at (states_of table page) i;
      passes = passes_there table page pass i first last;
      live = own.0;
      unchained = own.1;
    }

-- where the counts of what is listed are the same before and after its items are judged, and their states are plain
pub plain_by_counts : (table : Table) (chunks : List Chunk) (block : ℕ) (page : List ℕ) (old mid : FoundLists) (before now : Counts) → ◌≡◌ {A = Counts} before (counts_of old) → ◌≡◌ {A = Counts} now (counts_of mid)
    → mid ≡ both_found old (items_found table chunks block page) → true ≡ ((now.0 == before.0) && (now.1 == before.1)) → (states : List ItemState) → states ≡ states_of table page → list_all is_plain_state states ≡ true → IsPlain table page
plain_by_counts table chunks block page old mid before now was is added same states are all =
    let found = items_found table chunks block page in
    plain_by_states table page
    (each_silent table block page chunks (none_found old found mid before now was is added same) (none_doubted old found mid before now was is added same))
    (ap (list_all is_plain_state) (sym are) ∙ all)
