-- The findings of a file are the rules that are broken on its blocks.
use Rattle.std.proofs.Common.{◌≡◌, ℕ, ◌<◌, List, refl, subst, sym}
use Rattle.std.specs.Prelude.{Option, Some, None, Ok}
use Rattle.std.specs.List.{All}
use Rattle.std.proofs.lemmas.List.Elements.{All-nil, All-weaker}
use Rattle.rel_files.specs.Blocks.{blocks_in, block_in}
use Rattle.page_layout.specs.declared.rules.Rule.{Rule}
use Rattle.reports.proofs.Parts.{All-below, among_below}
use Rattle.reports.specs.Added.{IsListed, report_lists}
use Rattle.reports.specs.Lists.{Lists}
use Rattle.reports.specs.declared.places.Place.{Place}
use Rattle.reports.specs.declared.places.UnjudgedPlace.{UnjudgedPlace}
use Rattle.heap_page_check.specs.Alone.{BreaksAlone}
use Rattle.heap_page_check.proofs.AloneLaws.{lone_page_certain, lone_page_listed, lone_page_sound}
use Rattle.heap_page_check.proofs.PageLaws.{listed_in}
use Rattle.cmd_answers.specs.Files.{lone_file_refusal}
use Rattle.cmd_answers.specs.Outcome.{Outcome}
use Rattle.cmd_answers.specs.Pages.{BreaksFile, block_found, file_found, judged_unless, pages_judged}

module _ (file : Option (List ℕ)) where
  block_sound : (k : ℕ) → k < blocks_in file → All (λ f. BreaksFile file f.rule f.place) (block_found file k).findings
  unfolding block_found
  block_sound k inside =
      All-weaker (λ f. BreaksAlone k (block_in file k) f.rule f.place) (λ f. BreaksFile file f.rule f.place)
      (λ f broken. record { block = k; inside = inside; broken = broken }) _ (lone_page_sound k (block_in file k))

  -- each finding of a file is a rule broken on one of its blocks
  pub file_sound : All (λ f. BreaksFile file f.rule f.place) (file_found file).findings
  unfolding file_found
  file_sound = All-below report_lists (λ l. l.findings) refl (λ a b. refl) (λ f. BreaksFile file f.rule f.place) (block_found file) (blocks_in file) block_sound

  -- nothing of it stays unjudged
  pub file_certain : All (λ (u : UnjudgedPlace). ⊥) (file_found file).unjudged
  unfolding file_found block_found
  file_certain =
      All-below report_lists (λ l. l.unjudged) refl (λ a b. refl) (λ (u : UnjudgedPlace). ⊥) (block_found file) (blocks_in file)
      (λ k inside. subst (All (λ (u : UnjudgedPlace). ⊥)) (sym (lone_page_certain k (block_in file k))) (All-nil (λ (u : UnjudgedPlace). ⊥)))

  -- each place where a rule is broken is listed
  pub file_listed : (rule : Rule) (place : Place) → BreaksFile file rule place → IsListed (file_found file) place
  unfolding file_found block_found
  file_listed rule place broken =
      listed_in (block_found file broken.block) _ place
      (λ f has. among_below report_lists (λ l. l.findings) refl (λ a b. refl) (block_found file) (blocks_in file) broken.block f broken.inside has)
      (λ u has. among_below report_lists (λ l. l.unjudged) refl (λ a b. refl) (block_found file) (blocks_in file) broken.block u broken.inside has)
      (lone_page_listed broken.block (block_in file broken.block) rule place broken.broken)

unless_is : (refusal : Option Outcome) (owed lists : Lists) → judged_unless refusal owed ≡ Ok lists → owed ≡ lists
unless_is None owed lists e = cc
unless_is (Some refusal) owed lists e = cc

-- a report of `pages` has what is found of the file
pub pages_are : (name : List ℕ) (file : Option (List ℕ)) (lists : Lists) → pages_judged name file ≡ Ok lists → file_found file ≡ lists
pages_are name file lists e = unless_is (lone_file_refusal name file) (file_found file) lists e
