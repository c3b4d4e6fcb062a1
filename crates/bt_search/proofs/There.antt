-- An entry's place on a page that is known by another name.
use Rattle.std.proofs.Common.{◌≡◌, ℕ, List, subst}
use Rattle.key_attrs.specs.Columns.{TreeColumns}
use Rattle.bt_search.specs.declared.spot.Spot.{Spot}
use Rattle.bt_search.specs.Entries.{IsEntryAt}

pub has-there : (s t : TreeColumns) (p q : List ℕ) (at : Spot) → s ≡ t → p ≡ q → IsEntryAt s p at → IsEntryAt t q at
has-there s t p q at a b has = subst (λ (k : TreeColumns). IsEntryAt k q at) a (subst (λ (l : List ℕ). IsEntryAt s l at) b has)
