-- What the items of a page are, each by its sentence.
use Rattle.std.specs.Prelude.{◌≡◌, ℕ, ◌≤◌, List, length}
use Rattle.page_layout.specs.Page.{count_of, item_of}
use Rattle.page_layout.specs.declared.page.LineFlag.TheVariants as flag
use Rattle.liveness.specs.Life.{judged_of}
use Rattle.liveness.specs.declared.states.ItemState.{ItemState}
use Rattle.liveness.specs.declared.states.ItemState.TheVariants.{Unused, Dead, Redirect, Tuple}
use Rattle.hot_chains.specs.Chains.{item_at}
use Rattle.heap_page_check.specs.Table.{Table, logs_in}
use Rattle.heap_page_check.specs.Verdicts.{head_at}

-- the state of item i: what the flag of its line pointer says, and of a tuple its header with what the logs say of it
pub data IsStateOf (table : Table) (page : List ℕ) (i : ℕ) : ItemState → Type 0 where
  unused : (item_of page i).flag ≡ flag.Unused → IsStateOf table page i Unused
  dead : (item_of page i).flag ≡ flag.Dead → IsStateOf table page i Dead
  redirect : (item_of page i).flag ≡ flag.Redirect → IsStateOf table page i (Redirect (item_of page i).off)
  tuple : (item_of page i).flag ≡ flag.Normal
      → IsStateOf table page i (Tuple (head_at page i) (judged_of (logs_in table) (head_at page i)))

-- these are the states of the page's items: one for each, at its place, and no others
pub record AreStatesOf (table : Table) (page : List ℕ) (states : List ItemState) : Type 0 where
  pub count : length states ≡ count_of page
  pub each : (i : ℕ) → 1 ≤ i → i ≤ count_of page → IsStateOf table page i (item_at states i)
