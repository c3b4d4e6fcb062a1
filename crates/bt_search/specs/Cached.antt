-- What a contract sees of a cache of pages.
use Rattle.std.specs.Prelude.{◌≡◌, ℕ, ◌-◌, ◌<◌, ◌≤◌, ◌⊎◌, List, ◌∷◌, All, IfOk, IsNone, Option, IsSome, OnErr}
use Rattle.std.specs.Prelude.{Result, nat_eq, refl, take}
use Rattle.std.specs.Borrow.{Bor}
use Rattle.std.specs.Map.{lookup}
use Rattle.std.specs.Coded.{Coded, code_by, coded×, coded_list, coded_ℕ}
use Rattle.lru.specs.LruCache.{promoted}
use Rattle.outside.specs.Outside.{Names}
use Rattle.bt_levels.specs.declared.sound.SoundTree.{SoundTree}
use Rattle.bt_levels.specs.Sound.{held_block}

-- the pages that are kept, each under its block's number, and how many there may be
pub record Cached : Type 0 where
  pub kept : List (ℕ × List ℕ)
  pub capacity : ℕ

abbrev pub cached : List (ℕ × List ℕ) → ℕ → Cached
cached kept capacity = record { kept = kept; capacity = capacity }

abbrev pub cached_code : Coded Cached
cached_code =
    code_by (List (ℕ × List ℕ) × ℕ) (coded× (coded_list (coded× coded_ℕ (coded_list coded_ℕ))) coded_ℕ)
    (λ c. (c.kept, c.capacity)) (λ p. cached p.0 p.1) (λ _. refl)

-- the page that is kept of a block
abbrev pub page_of : ℕ → Cached → Option (List ℕ)
page_of block c = lookup (nat_eq block) c.kept

-- a page of this block is kept
abbrev pub Keeps : ℕ → Cached → Type 0
Keeps block c = IsSome (page_of block c)

-- a page is kept of every block from 1 on, of so many blocks
abbrev pub KeepsAll : (blocks : ℕ) → Cached → Type 0
KeepsAll blocks c = (b : ℕ) → 1 ≤ b → b < blocks → Keeps b c

-- each page that is kept is what stands at its number
abbrev pub KeepsOf : (ℕ → List ℕ) → Cached → Type 0
KeepsOf block_at c = All (λ e. e.1 ≡ block_at e.0) c.kept

-- each page that is kept is its block of the index
abbrev pub IsCacheOf : Names → SoundTree → Cached → Type 0
IsCacheOf names tree = KeepsOf (held_block names tree)

-- what a look at a block leaves
pub record Looked {E : Type 0} (block : ℕ) (result : Result (Bor (List ℕ)) E) (old new : Cached) : Type 0 where
  pub capacity : new.capacity ≡ old.capacity
  -- a page that was kept counts as used last, and the same pages are kept
  pub kept : Keeps block old → new.kept ≡ promoted (nat_eq block) old.kept
  pub pages : Keeps block old → (other : ℕ) → page_of other new ≡ page_of other old
  -- another page comes first, in the place of the last one of a full cache, or isn't kept
  pub read : IfOk result (λ page. IsNone (page_of block old)
      → new.kept ≡ old.kept ⊎ new.kept ≡ (block, page.now) ∷ take (old.capacity - 1) old.kept)
  pub failed : OnErr result (new ≡ old)
