-- What the lists of a page say of it.
use Rattle.std.specs.Prelude.{◌≡◌, ℕ, List, [], All, AllPairs, Contains}
use Rattle.page_layout.specs.declared.rules.Rule.{Rule}
use Rattle.toast_chunks.specs.declared.map.Chunk.{Chunk}
use Rattle.vis_map.specs.declared.bits.MapBits.{MapBits}
use Rattle.reports.specs.Added.{IsListed}
use Rattle.reports.specs.declared.places.Place.{Place}
use Rattle.reports.specs.declared.places.Reason.{Reason}
use Rattle.reports.specs.declared.places.UnjudgedPlace.{UnjudgedPlace}
use Rattle.heap_page_check.specs.Broken.{BreaksPage, DoubtsPage}
use Rattle.heap_page_check.specs.Left.{BreaksValue, IsRowOnPage}
use Rattle.heap_page_check.specs.Pages.{page_found}
use Rattle.heap_page_check.specs.Table.{Table}
use Rattle.heap_page_check.specs.Truth.{IsTruePage}
use Rattle.heap_page_check.specs.declared.table.TableKind.TheVariants as kind

-- what a report gets in any case is what is broken and what is in doubt, and it names each place where something is
pub record IsJudged (table : Table) (chunks : List Chunk) (bits : MapBits) (block : ℕ) (page : List ℕ) : Type 0 where
  pub sound : All (λ f. BreaksPage table bits block page f.rule f.place)
      (page_found table chunks bits block page).listed.findings
  pub doubts : All (λ u. DoubtsPage table block page u.reason u.place)
      (page_found table chunks bits block page).listed.unjudged
  pub listed : (rule : Rule) (place : Place) → BreaksPage table bits block page rule place
      → IsListed (page_found table chunks bits block page).listed place
  pub doubts_listed : (reason : Reason) (place : Place) → DoubtsPage table block page reason place
      → IsListed (page_found table chunks bits block page).listed place
  pub late_sound : All (λ f. BreaksValue chunks table block page f.rule f.place)
      (page_found table chunks bits block page).late.findings
  pub late_certain : All (λ (u : UnjudgedPlace). ⊥) (page_found table chunks bits block page).late.unjudged
  pub chunks_are_rows : All (IsRowOnPage table block page) (page_found table chunks bits block page).chunks
  pub chunks_apart : AllPairs (λ (c d : Chunk). ¬ (c.tid ≡ d.tid)) (page_found table chunks bits block page).chunks
  pub chunks_placed : All (λ (c : Chunk). c.tid.block ≡ block) (page_found table chunks bits block page).chunks

-- nothing is listed of a page
pub record HasNothing (table : Table) (chunks : List Chunk) (bits : MapBits) (block : ℕ) (page : List ℕ) : Type 0 where
  pub findings : (page_found table chunks bits block page).listed.findings ≡ []
  pub unjudged : (page_found table chunks bits block page).listed.unjudged ≡ []

-- then the page is true; a value of a heap that isn't whole comes late; and each row of a TOAST table is among its
-- chunks
pub record IsSilent (table : Table) (chunks : List Chunk) (bits : MapBits) (block : ℕ) (page : List ℕ) : Type 0 where
  pub true_page : IsTruePage table bits block page
  pub late_listed : table.kind ≡ kind.Heap → (rule : Rule) (place : Place)
      → BreaksValue chunks table block page rule place → IsListed (page_found table chunks bits block page).late place
  pub rows_are_chunks : table.kind ≡ kind.Toast → (c : Chunk) → IsRowOnPage table block page c
      → Contains (page_found table chunks bits block page).chunks c
