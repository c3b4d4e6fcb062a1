-- What a cache ends as, once the page that it lent has come back.
use Rattle.std.specs.Prelude.{⊤}
use Rattle.std.specs.Borrow.{follows_so, MutBor, Fml}
use mathlib.Core.Option.{none}
use Rattle.bt_search.specs.Cached.{Cached}
use Rattle.bt_search.specs.contracts.cache.PageCache.{the_row}

-- it ends as a value that meets P
abbrev pub EndsSo : MutBor Cached → (Cached → Type 0) → Fml
EndsSo c P = follows_so the_row the_row c.ghost_name none (λ _ _. ⊤) P
