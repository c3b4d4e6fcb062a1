-- What is true of a page of which nothing is found and all of which can be judged, in the words of its bytes.
use Rattle.std.specs.Prelude.{◌≡◌, ℕ, ◌≤◌, true, false, List, None}
use Rattle.page_layout.specs.Page.{count_of, item_of, page_rule_of}
use Rattle.page_layout.specs.declared.page.LineFlag.TheVariants as flag
use Rattle.page_layout.specs.declared.page.PageKind.TheVariants.{Heap}
use Rattle.tuple_head.specs.Head.{needs_freezing}
use Rattle.liveness.specs.declared.states.ItemState.{ItemState}
use Rattle.hot_chains.specs.Quiet.{HasOneRoot}
use Rattle.vis_map.specs.declared.bits.MapBits.{MapBits}
use Rattle.heap_page_check.specs.Broken.{HoldsLiveTuple, IsNormalItem}
use Rattle.heap_page_check.specs.Pages.{is_flagged_visible}
use Rattle.heap_page_check.specs.States.{AreStatesOf}
use Rattle.heap_page_check.specs.Table.{Table}
use Rattle.heap_page_check.specs.Verdicts.{head_at}

-- all that the page has is visible to everyone: no item is a dead line pointer, and each tuple is live
pub record IsVisiblePage (table : Table) (page : List ℕ) : Type 0 where
  pub none_dead : (i : ℕ) → 1 ≤ i → i ≤ count_of page → (item_of page i).flag ≡ flag.Dead → ⊥
  pub each_live : (i : ℕ) → IsNormalItem page i → HoldsLiveTuple table page i

-- no tuple of it has to be frozen
abbrev pub IsFrozenPage : List ℕ → Type 0
IsFrozenPage page = (i : ℕ) → IsNormalItem page i → needs_freezing (head_at page i) ≡ false

-- what the page's flag and the bits of the visibility map say is so; a bit is set only where the flag is, and the
-- frozen bit only where the visible one is
pub record AreTrueBits (table : Table) (bits : MapBits) (page : List ℕ) : Type 0 where
  pub flagged : is_flagged_visible page ≡ true → IsVisiblePage table page
  pub visible : bits.all_visible ≡ true → (is_flagged_visible page ≡ true) × IsVisiblePage table page
  pub frozen : bits.all_frozen ≡ true → (bits.all_visible ≡ true) × IsFrozenPage page

-- the page can be read, what is said of its visibility is true, and exactly one root reaches each live tuple
pub record IsTruePage (table : Table) (map : MapBits) (block : ℕ) (page : List ℕ) : Type 0 where
  pub header : page_rule_of Heap page ≡ None
  pub bits : AreTrueBits table map page
  pub roots : (states : List ItemState) → AreStatesOf table page states → (i : ℕ) → HoldsLiveTuple table page i
      → HasOneRoot block states i
