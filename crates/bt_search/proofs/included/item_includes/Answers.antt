use Rattle.std.proofs.Common.{◌≡◌, ◌∙◌, ℕ, zero, suc, Bool, List, [], ◌∷◌, map, refl, sym, ap}
use Rattle.std.specs.Prelude.{slice_get}
use Rattle.key_orders.specs.declared.columns.Value.{Value}
use Rattle.key_orders.specs.declared.Tid.{Tid}
use Rattle.key_orders.specs.Values.{value_shown}
use Rattle.key_storage.specs.Same.{same_key}
use Rattle.bt_tuples.specs.declared.items.TreeItem.{TreeItem}
use Rattle.bt_tuples.specs.Items.{Posting}
use Rattle.bt_tuples.specs.Shown.{item_shown}
use Rattle.bt_image.specs.Image.{entries_in}
use Rattle.bt_search.specs.Entries.{included_in}
use Rattle.bt_search.proofs.included.item_includes.Goals as goal

-- the entries of a list have none
of-list : (key : List Value) (tids : List Tid) (killed : Bool) (nth : ℕ) → included_in (slice_get (entries_in (Posting key tids killed)) nth) ≡ []
of-list key [] killed nth = refl
of-list key (t ∷ ts) killed zero = refl
of-list key (t ∷ ts) killed (suc nth) = of-list key ts killed nth

pub returns-in-Posting : goal.returns-in-Posting
returns-in-Posting c =
    c.same_values-in-Posting.ensures
    ∙ ap (same_key (map value_shown c.args.more.now))
    (sym (ap (λ (it : TreeItem). included_in (slice_get (entries_in (item_shown it)) c.args.nth)) c.in-Posting.is ∙ of-list c.in-Posting.key c.in-Posting.tids c.in-Posting.killed c.args.nth))
