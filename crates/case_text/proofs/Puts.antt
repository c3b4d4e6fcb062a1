-- A value that is put into the map of a table.
use Rattle.std.proofs.Common.{◌≡◌, List, [], ◌∷◌, String, Global, Ordering, Less, Equal, Greater, string_bytes, refl, ◌∙◌}
use Rattle.std.specs.BTreeMap.{insert_entry}
use Rattle.std.specs.Ordering.{match_ordering}
use Rattle.std.specs.String.{string_cmp}
use Rattle.toml.specs.declared.value.Value.{Value}
use Rattle.toml.specs.View.{view, members_view}
use Rattle.toml.proofs.Views.{Entry, view-Array, view-Boolean, view-Integer, view-String, view-Table}
use Rattle.case_text.specs.Written.{with_member}

match_entries : (o : Ordering) (a b c : List Entry)
    → members_view (match_ordering o a b c) ≡ match_ordering o (members_view a) (members_view b) (members_view c)
match_entries Less a b c = refl
match_entries Equal a b c = refl
match_entries Greater a b c = refl

pub put_entry : (es : List Entry) (k : String Global) (v : Value)
    → members_view (insert_entry string_cmp es k v) ≡ with_member (string_bytes k) (view v) (members_view es)
unfolding with_member
put_entry [] k v = refl
put_entry (e ∷ es) k v = match_entries (string_cmp k e.0) _ _ _ ∙ rw (put_entry es k v)

pub ruleset put_laws = (put_entry)

pub ruleset value_laws = (view-Array, view-Boolean, view-Integer, view-String, view-Table)
