-- What the rules on levels stand on.
use Rattle.std.specs.Prelude.{◌≡◌, ◌<◌, ◌↔◌, ℕ, true, false, Bool, []}
use Rattle.laws_search.specs.Order.{Order}
use Rattle.laws_search.specs.Tree.{Index}
use Rattle.laws_search.specs.Searchable.{IsInUse, IsSoundPage}

-- What the rules on the metapage and on single pages leave. With it, only how the pages of a level stand together is to
-- be judged.
pub record HasSoundPages {S E : Type 0} (o : Order S E) (x : Index S E) : Type 0 where
  -- M2: the root and the fast root are blocks of the file, and both are 0 or none is
  pub root_inside : x.root < x.blocks
  pub fast_inside : x.fastroot < x.blocks
  pub root_or_empty : (x.root ≡ 0) ↔ (x.fastroot ≡ 0)
  -- B2 to B4 and B9 to B13
  pub pages : (b : ℕ) → IsInUse x b → IsSoundPage o x b
  -- only leaves have entries: so an image is made
  pub no_entries : (b : ℕ) → IsInUse x b → (x.page b).leaf ≡ false → (x.page b).entries ≡ []

-- a separator below one that is below a third is below that
abbrev pub IsTransitive : {S E : Type 0} → Order S E → Type 0
IsTransitive {S} o = (s t u : S) → o.under s t ≡ true → o.under t u ≡ true → o.under s u ≡ true

-- `same` tells whether two separators are the same
abbrev pub IsSame : {S : Type 0} → (S → S → Bool) → Type 0
IsSame {S} same = (s t : S) → (same s t ≡ true) ↔ (s ≡ t)
