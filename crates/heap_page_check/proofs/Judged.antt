-- The laws of a page together.
use Rattle.std.proofs.Common.{ℕ, List}
use Rattle.toast_chunks.specs.declared.map.Chunk.{Chunk}
use Rattle.vis_map.specs.declared.bits.MapBits.{MapBits}
use Rattle.heap_page_check.specs.Judged.{HasNothing, IsJudged, IsSilent}
use Rattle.heap_page_check.specs.Table.{Table}
use Rattle.heap_page_check.proofs.ChunkLaws.{page_chunks_apart, page_chunks_are_rows, page_chunks_placed, page_rows_are_chunks}
use Rattle.heap_page_check.proofs.LeftLaws.{page_late_certain, page_late_listed, page_late_sound}
use Rattle.heap_page_check.proofs.PageLaws.{page_doubt_listed, page_doubts_sound, page_is_quiet, page_listed, page_sound}
use Rattle.heap_page_check.proofs.TruthLaws.{page_is_true}

module _ (table : Table) (chunks : List Chunk) (bits : MapBits) (block : ℕ) (page : List ℕ) where
  pub is_judged : IsJudged table chunks bits block page
  is_judged = record {
    sound = page_sound table chunks bits block page;
    doubts = page_doubts_sound table chunks bits block page;
    listed = page_listed table chunks bits block page;
    doubts_listed = page_doubt_listed table chunks bits block page;
    late_sound = page_late_sound table chunks block page bits;
    late_certain = page_late_certain table chunks block page bits;
    chunks_are_rows = page_chunks_are_rows table chunks block page bits;
    chunks_apart = page_chunks_apart table chunks block page bits;
    chunks_placed = page_chunks_placed table chunks block page bits;
  }

  pub is_silent : HasNothing table chunks bits block page → IsSilent table chunks bits block page
  is_silent none =
      let quiet = page_is_quiet table chunks bits block page none.findings none.unjudged in
      record {
        true_page = page_is_true table bits block page quiet;
        late_listed = λ heap. page_late_listed table chunks block page bits quiet.pass heap;
        rows_are_chunks = λ toast. page_rows_are_chunks table chunks block page bits quiet.pass toast;
      }
