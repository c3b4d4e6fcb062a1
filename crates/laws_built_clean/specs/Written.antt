-- The file of an index that holds given bytes.
use Rattle.std.specs.Prelude.{◌≡◌, ◌≤◌, ◌<◌, ◌*◌, ℕ, List, length, take, drop, Some}
use Rattle.outside.specs.Outside.{Names}
use Rattle.outside.specs.declared.files.Part.TheVariants.{Segment}
use Rattle.rel_files.specs.Blocks.{segment_length}
use Rattle.case_file.specs.Record.{CaseRecord}
use Rattle.bt_image.specs.Image.{LeafEntry}
use Rattle.bt_levels.specs.Index.{index_of}
use Rattle.bt_build.specs.Listed.{Listed}
use Rattle.bt_build.specs.Outcome.{MayBeIndexed, index_bytes, tree_for}

-- so many blocks of bytes, in segments of `size` blocks: each is full but the last, and behind it none has a block
pub record HoldsFile (names : Names) (base : List ℕ) (size blocks : ℕ) (bytes : List ℕ) : Type 0 where
  pub whole : length bytes ≡ 8192 * blocks
  pub each : (k : ℕ) → k * size < blocks
      → names base (Segment k) ≡ Some (take (8192 * size) (drop (8192 * (k * size)) bytes))
  pub behind : (k : ℕ) → blocks ≤ k * size → segment_length names base k ≡ 0

-- entries for index n of a case
abbrev pub listed_for : CaseRecord → ℕ → List LeafEntry → Listed
listed_for case n es =
    record { specs = (index_of case n).keys; more = (index_of case n).more; entries = es }

-- the files of the index hold the bytes that are built of entries that may be indexed
pub record IsWritten (case : CaseRecord) (names : Names) (n : ℕ) (es : List LeafEntry) : Type 0 where
  pub indexable : MayBeIndexed (listed_for case n es)
  pub few : (tree_for (listed_for case n es)).blocks ≤ 65536
  pub held : HoldsFile names (index_of case n).file case.segment_blocks (tree_for (listed_for case n es)).blocks
      (index_bytes (listed_for case n es))
