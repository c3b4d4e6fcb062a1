-- What is found of a table, of its segments and its blocks, in the words of its pages.
use Rattle.std.proofs.Common.{◌≡◌, ℕ, ◌<◌, List, [], refl, sym, subst, arith, ◌∙◌, ap}
use Rattle.std.specs.Prelude.{Option, Some, None, Contains}
use Rattle.std.specs.List.{All}
use Rattle.std.proofs.lemmas.List.Elements.{All-append, All-cons, All-contains, All-nil, Contains-append_left, Contains-append_right}
use Rattle.outside.specs.Outside.{Names}
use Rattle.key_orders.specs.declared.Tid.{Tid}
use Rattle.page_layout.specs.declared.rules.Rule.TheVariants.{S1}
use Rattle.rel_files.specs.Blocks.{block_of}
use Rattle.toast_chunks.specs.declared.map.Chunk.{Chunk}
use Rattle.vis_map.specs.declared.bits.MapBits.{MapBits}
use Rattle.reports.proofs.Pairs.{pairs-below}
use Rattle.reports.proofs.Parts.{All-below, among_below}
use Rattle.reports.specs.Added.{IsListed, found}
use Rattle.reports.specs.declared.places.Finding.{Finding}
use Rattle.reports.specs.declared.places.Place.{Place}
use Rattle.reports.specs.declared.places.Place.TheVariants.{Segment}
use Rattle.reports.specs.declared.places.Rel.{Rel}
use Rattle.reports.specs.declared.places.UnjudgedPlace.{UnjudgedPlace}
use Rattle.heap_page_check.specs.Found.{FoundLists, found_parts}
use Rattle.heap_page_check.specs.Pages.{page_found}
use Rattle.heap_page_check.specs.Table.{Table, rel_of}
use Rattle.heap_page_check.proofs.Judged.{is_judged}
use Rattle.heap_page_check.proofs.PageLaws.{listed_in}
use Rattle.heap_table_check.specs.Broken.{AreApart}
use Rattle.heap_table_check.specs.Relations.{block_found, blocks_found, segment_found, table_found}

-- a segment that is too long
pub segment_sound : (P : Finding → Type 0) (rel : Rel) (long : Option ℕ) → ((k : ℕ) → long ≡ Some k → P (record { rule = S1; place = Segment rel k })) → All P (segment_found rel long).findings
segment_sound P rel None each = All-nil P
segment_sound P rel (Some k) each = All-cons P (record { rule = S1; place = Segment rel k }) [] (each k refl) (All-nil P)

pub segment_certain : (P : UnjudgedPlace → Type 0) (rel : Rel) (long : Option ℕ) → All P (segment_found rel long).unjudged
segment_certain P rel None = All-nil P
segment_certain P rel (Some k) = All-nil P

pub segment_listed : (rel : Rel) (long : Option ℕ) (k : ℕ) → long ≡ Some k → IsListed (segment_found rel long) (Segment rel k)
segment_listed rel None k e = cc
segment_listed rel (Some j) k e = let same : j ≡ k = cc in subst (λ (n : ℕ). IsListed (segment_found rel (Some j)) (Segment rel n)) same (found S1 (0, omega arith, refl))

module _ (table : Table) (chunks : List Chunk) (bits : ℕ → MapBits) (names : Names) (base : List ℕ) (size n : ℕ) (long : Option ℕ) where
  abbrev page_at : ℕ → List ℕ
  page_at block = block_of names base size block

  abbrev found_at : ℕ → FoundLists
  found_at block = page_found table chunks (bits block) block (page_at block)

  abbrev all : FoundLists
  all = table_found table chunks bits names base size n long

  -- what each page finds, all find
  pub table_sound : (P : Finding → Type 0) → ((k : ℕ) → long ≡ Some k → P (record { rule = S1; place = Segment (rel_of table.kind) k })) → ((block : ℕ) → block < n → All P (found_at block).listed.findings) → All P all.listed.findings
  unfolding table_found blocks_found block_found
  table_sound P segments each =
      All-append P (segment_found (rel_of table.kind) long).findings _ (segment_sound P (rel_of table.kind) long segments)
      (All-below found_parts (λ f. f.listed.findings) refl (λ a b. refl) P (block_found table chunks bits names base size) n each)

  pub table_doubts : (P : UnjudgedPlace → Type 0) → ((block : ℕ) → block < n → All P (found_at block).listed.unjudged) → All P all.listed.unjudged
  unfolding table_found blocks_found block_found
  table_doubts P each =
      All-append P (segment_found (rel_of table.kind) long).unjudged _ (segment_certain P (rel_of table.kind) long)
      (All-below found_parts (λ f. f.listed.unjudged) refl (λ a b. refl) P (block_found table chunks bits names base size) n each)

  pub table_late : (P : Finding → Type 0) → ((block : ℕ) → block < n → All P (found_at block).late.findings) → All P all.late.findings
  unfolding table_found blocks_found block_found
  table_late P each = All-below found_parts (λ f. f.late.findings) refl (λ a b. refl) P (block_found table chunks bits names base size) n each

  pub table_late_certain : All (λ (u : UnjudgedPlace). ⊥) all.late.unjudged
  unfolding table_found blocks_found block_found
  table_late_certain = All-below found_parts (λ f. f.late.unjudged) refl (λ a b. refl) (λ (u : UnjudgedPlace). ⊥) (block_found table chunks bits names base size) n (λ block inside. (is_judged table chunks (bits block) block (page_at block)).late_certain)

  pub table_chunks : (P : Chunk → Type 0) → ((block : ℕ) → block < n → All P (found_at block).chunks) → All P all.chunks
  unfolding table_found blocks_found block_found
  table_chunks P each = All-below found_parts (λ f. f.chunks) refl (λ a b. refl) P (block_found table chunks bits names base size) n each

  -- what is listed of a page is listed of all
  pub table_listed : (block : ℕ) (place : Place) → block < n → IsListed (found_at block).listed place → IsListed all.listed place
  unfolding table_found blocks_found block_found
  table_listed block place inside is =
      listed_in (found_at block).listed _ place
      (λ f has. Contains-append_right (segment_found (rel_of table.kind) long).findings _ f (among_below found_parts (λ x. x.listed.findings) refl (λ a b. refl) (block_found table chunks bits names base size) n block f inside has))
      (λ u has. Contains-append_right (segment_found (rel_of table.kind) long).unjudged _ u (among_below found_parts (λ x. x.listed.unjudged) refl (λ a b. refl) (block_found table chunks bits names base size) n block u inside has))
      is

  pub table_segment_listed : (k : ℕ) → long ≡ Some k → IsListed all.listed (Segment (rel_of table.kind) k)
  unfolding table_found
  table_segment_listed k e =
      listed_in (segment_found (rel_of table.kind) long) _ (Segment (rel_of table.kind) k)
      (λ f has. Contains-append_left _ _ f has) (λ u has. Contains-append_left _ _ u has)
      (segment_listed (rel_of table.kind) long k e)

  pub table_late_listed : (block : ℕ) (place : Place) → block < n → IsListed (found_at block).late place → IsListed all.late place
  unfolding table_found blocks_found block_found
  table_late_listed block place inside is =
      listed_in (found_at block).late _ place
      (λ f has. among_below found_parts (λ x. x.late.findings) refl (λ a b. refl) (block_found table chunks bits names base size) n block f inside has)
      (λ u has. among_below found_parts (λ x. x.late.unjudged) refl (λ a b. refl) (block_found table chunks bits names base size) n block u inside has)
      is

  pub table_chunk_among : (block : ℕ) (c : Chunk) → block < n → Contains (found_at block).chunks c → Contains all.chunks c
  unfolding table_found blocks_found block_found
  table_chunk_among block c inside has = among_below found_parts (λ x. x.chunks) refl (λ a b. refl) (block_found table chunks bits names base size) n block c inside has

  -- no two chunks have the same place
  blocks_apart : (j k : ℕ) (c d : Chunk) → j < k → k < n → Contains (found_at j).chunks c → Contains (found_at k).chunks d → c.tid ≡ d.tid → ⊥
  blocks_apart j k c d lt inside first second same =
      let here = All-contains (λ x. x.tid.block ≡ j) _ c (is_judged table chunks (bits j) j (page_at j)).chunks_placed first in
      let there = All-contains (λ x. x.tid.block ≡ k) _ d (is_judged table chunks (bits k) k (page_at k)).chunks_placed second in
      let e : j ≡ k = sym here ∙ ap (λ (t : Tid). t.block) same ∙ there in
      absurd (omega (arith, lt, e))

  pub table_chunks_apart : AreApart all.chunks
  unfolding table_found blocks_found block_found
  table_chunks_apart =
      pairs-below found_parts (λ x. x.chunks) refl (λ a b. refl) (λ c d. ¬ (c.tid ≡ d.tid)) (block_found table chunks bits names base size) n
      (λ block inside. (is_judged table chunks (bits block) block (page_at block)).chunks_apart) blocks_apart
