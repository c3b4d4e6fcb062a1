-- What line pointers say of the items of a page on which each item passes, and what their states say.
use Rattle.std.proofs.Common.{◌≡◌, inl, inr, ℕ, Bool, true, false, List, ap, sym, subst, ◌∙◌, arith}
use Rattle.std.proofs.lemmas.Bool.{and_parts, cases_Bool}
use Rattle.page_layout.specs.Items.{is_misplaced_heap_item, is_normal}
use Rattle.page_layout.specs.Page.{count_of, item_of, upper_of}
use Rattle.page_layout.specs.declared.rules.Rule.TheVariants.{H1}
use Rattle.liveness.specs.declared.states.ItemState.{ItemState}
use Rattle.hot_chains.specs.Chains.{is_live_tuple, item_at}
use Rattle.hot_chains.specs.Quiet.{HasNoChains}
use Rattle.reports.specs.declared.places.Place.TheVariants.{Item}
use Rattle.heap_page_check.specs.Broken.{AllPass, at_item, misplaced}
use Rattle.heap_page_check.specs.Found.{states_of}
use Rattle.heap_page_check.specs.States.{AreStatesOf}
use Rattle.heap_page_check.specs.Table.{Table, rel_of}
use Rattle.heap_page_check.proofs.PageLaws.{each_passes}
use Rattle.heap_page_check.proofs.StateLaws.{state_there, states_are_one, states_are_there}
use Rattle.heap_page_check.proofs.QuietLaws.{plain_unchained}
use Rattle.heap_page_check.specs.Quiet.{IsPlain}
use Rattle.heap_rows.specs.declared.row_page.RowPage.{RowPage}
use Rattle.heap_rows.specs.RowPages.{TellsOf, is_live_by}
use Rattle.heap_rows.specs.Roots.{AreRoots}
use Rattle.heap_rows.specs.Places.{AreInPlace}

-- A page on which each item passes

module _ (table : Table) (block : ℕ) (page : List ℕ) (pass : AllPass table block page) where
  astray_is_normal : (i : ℕ) → is_misplaced_heap_item (upper_of page) (item_of page i) ≡ true → is_normal (item_of page i).flag ≡ true
  unfolding is_misplaced_heap_item
  astray_is_normal i astray = (and_parts (is_normal (item_of page i).flag) _ astray).0

  -- each of its tuples lies where it may
  pub all_in_place : AreInPlace page
  all_in_place = λ i first last. elim (cases_Bool (is_misplaced_heap_item (upper_of page) (item_of page i))) [
    | inl astray ↦ absurd (pass.unbroken H1 (Item (rel_of table.kind) block i) (at_item i H1 (record { first = first; last = last; normal = astray_is_normal i astray }) (misplaced astray)))
    | inr placed ↦ placed
  ]

  are_states : AreStatesOf table page (states_of table page)
  are_states = states_are_there table page (each_passes table block page pass)

  -- on a plain page line pointers alone tell which items are live
  pub plain_tells : IsPlain table page → (p : RowPage) → p.bytes ≡ page → p.plain ≡ true → p.count ≡ count_of page → ((b : ℕ) (items : List ItemState) → HasNoChains items → AreRoots b items p.roots) → TellsOf (states_of table page) p
  plain_tells plain p bytes is count roots = record {
    count = count ∙ sym are_states.count;
    live = λ i first last.
        let here = plain i first (omega (arith, last, are_states.count)) in
        ap (λ (b : Bool). is_live_by b (item_of p.bytes i).flag (item_at p.states.items i)) is
        ∙ ap (λ (bs : List ℕ). is_normal (item_of bs i).flag) bytes
        ∙ here.live
        ∙ ap is_live_tuple (sym (state_there table page (each_passes table block page pass) i here.state first (omega (arith, last, are_states.count)) here.passes));
    roots = roots p.block (states_of table page) (plain_unchained table page plain);
  }

  -- the states of the items tell it of any page
  pub states_tell : (p : RowPage) → p.plain ≡ false → p.count ≡ count_of page → AreStatesOf table page p.states.items → AreRoots p.block p.states.items p.roots → TellsOf (states_of table page) p
  states_tell p is count are roots =
      let same : p.states.items ≡ states_of table page = states_are_one table page p.states.items (states_of table page) are are_states in
      record {
        count = count ∙ sym are_states.count;
        live = λ i first last.
            ap (λ (b : Bool). is_live_by b (item_of p.bytes i).flag (item_at p.states.items i)) is
            ∙ ap (λ (s : List ItemState). is_live_tuple (item_at s i)) same;
        roots = subst (λ (s : List ItemState). AreRoots p.block s p.roots) same roots;
      }
