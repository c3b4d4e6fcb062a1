-- Where the tuples of a page lie.
use Rattle.std.specs.Prelude.{◌≡◌, ℕ, ◌≤◌, false, List}
use Rattle.page_layout.specs.Items.{is_misplaced_heap_item}
use Rattle.page_layout.specs.Page.{count_of, item_of, upper_of}

-- each item that is a tuple lies where tuples may
abbrev pub AreInPlace : List ℕ → Type 0
AreInPlace page =
    (i : ℕ) → 1 ≤ i → i ≤ count_of page → is_misplaced_heap_item (upper_of page) (item_of page i) ≡ false
