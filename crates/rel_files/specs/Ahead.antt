-- Blocks of a relation that are read at once.
use Rattle.std.specs.Prelude.{◌≡◌, ◌≤◌, ◌<◌, ℕ, ◌+◌, ◌-◌, ◌*◌, ◌%◌, List, take, drop}
use Rattle.outside.specs.Outside.{Names}
use Rattle.rel_files.specs.declared.ahead.Ahead.{Ahead}
use Rattle.rel_files.specs.declared.relation.Relation.{Relation}
use Rattle.rel_files.specs.Blocks.{block_of}
use Rattle.rel_files.specs.Relation.{base_of, count_of, size_of}

-- so many blocks from this one on are blocks of the relation that stand in one segment
pub record IsRun (r : Relation) (b n : ℕ) : Type 0 where
  pub some : 1 ≤ n
  pub inside : b + n ≤ count_of r
  pub together : b % size_of r + n ≤ size_of r

-- the page at place k of pages that stand one after another
unfoldable pub page_at : List ℕ → ℕ → List ℕ
page_at bytes k = take 8192 (drop (8192 * k) bytes)

-- the pages of these bytes are so many blocks of the relation, from this one on
abbrev pub AreBlocks : Names → Relation → ℕ → ℕ → List ℕ → Type 0
AreBlocks names r b n bytes = (k : ℕ) → k < n → page_at bytes k ≡ block_of names (base_of r) (size_of r) (b + k)

-- a block is one of those in hand
pub record IsInHand (ahead : Ahead) (b : ℕ) : Type 0 where
  pub from : ahead.run.first ≤ b
  pub before : b < ahead.run.first + ahead.run.count

-- its page, as it is in hand
abbrev pub page_in_hand : Ahead → ℕ → List ℕ
page_in_hand ahead b = page_at ahead.bytes (b - ahead.run.first)

-- the blocks in hand are those of this relation
abbrev pub IsAheadOf : Names → Relation → Ahead → Type 0
IsAheadOf names r ahead = (b : ℕ) → IsInHand ahead b → page_in_hand ahead b ≡ block_of names (base_of r) (size_of r) b
