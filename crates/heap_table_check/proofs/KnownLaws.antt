-- What is known of the blocks of a table.
use Rattle.std.proofs.Common.{◌≡◌, ◌∙◌, inl, inr, ℕ, ◌+◌, Bool, true, false, List, [], ◌∷◌, ◌++◌, get_or, length, ap, arith, sym, subst}
use Rattle.std.specs.Prelude.{Option}
use Rattle.std.specs.Option.{is_some}
use Rattle.std.proofs.lemmas.Bool.{cases_eq, cases_lt, false≢true}
use Rattle.std.proofs.lemmas.List.{get_or_append_left, get_or_past, get_or_push, length-append}
use Rattle.outside.specs.Outside.{Names}
use Rattle.page_layout.specs.Page.{page_rule_of}
use Rattle.page_layout.specs.declared.page.PageKind.TheVariants.{Heap}
use Rattle.page_layout.specs.declared.rules.Rule.{Rule}
use Rattle.rel_files.specs.Blocks.{block_of}
use Rattle.rel_files.specs.Relation.{IsRelationOf, count_of}
use Rattle.rel_files.specs.declared.relation.Relation.{Relation}
use Rattle.rel_files.specs.Refusals.{IsNamed, heap_limit}
use Rattle.case_file.specs.Record.{CaseRecord}
use Rattle.heap_targets.specs.Targets.{GrowsByPage, targets_of, targets_on}
use Rattle.heap_page_check.proofs.PageLaws.{page_is_quiet}
use Rattle.heap_page_check.specs.Quiet.{IsPlain}
use Rattle.heap_page_check.specs.Table.{Table}
use Rattle.heap_table_check.specs.Case.{case_bits, heap_blocks, heap_page, table_of}
use Rattle.heap_table_check.specs.Found.{IsQuiet, chunks_of}
use Rattle.heap_table_check.specs.TableFiles.{pages_in}
use Rattle.heap_table_check.specs.Known.{TellsOfBlocks, TellsOfHeap, KeepPageRules}
use Rattle.heap_table_check.specs.declared.known.KnownBlocks.{KnownBlocks}
use Rattle.heap_table_check.proofs.Silent.{heap_block_is_silent, quiet_files}

-- One block more

pub grown : (pages : ℕ → List ℕ) (n : ℕ) (page : List ℕ) (old new : List (List Bool)) → pages n ≡ page → GrowsByPage pages n
    → new ≡ old ++ targets_on page ∷ [] → (KeepPageRules pages n → old ≡ targets_of pages n) → KeepPageRules pages (n + 1) → new ≡ targets_of pages (n + 1)
grown pages n page old new is grows more has = λ keep.
    more
    ∙ ap (λ (set : List (List Bool)). set ++ targets_on page ∷ []) (has (λ block below. keep block (omega (arith, below))))
    ∙ ap (λ (p : List ℕ). targets_of pages n ++ targets_on p ∷ []) (sym is)
    ∙ sym grows

pub passed : (pages : ℕ → List ℕ) (n : ℕ) (page : List ℕ) (rule : Option Rule) (set : List (List Bool)) → pages n ≡ page → rule ≡ page_rule_of Heap page → is_some rule ≡ true
    → KeepPageRules pages (n + 1) → set ≡ targets_of pages (n + 1)
passed pages n page rule set is same broken = λ keep. absurd (false≢true (sym (ap is_some (same ∙ ap (page_rule_of Heap) (sym is) ∙ keep n (omega arith))) ∙ broken))

pub added : (table : Table) (pages : ℕ → List ℕ) (n : ℕ) (old new : KnownBlocks) (plain : Bool) → new.plain.items ≡ old.plain.items ++ plain ∷ [] → (plain ≡ true → IsPlain table (pages n))
    → TellsOfBlocks table pages n old → (KeepPageRules pages (n + 1) → new.targets ≡ targets_of pages (n + 1)) → TellsOfBlocks table pages (n + 1) new
added table pages n old new plain is own before targets = record {
  targets = targets;
  count = ap (λ (bs : List Bool). length bs) is ∙ length-append old.plain.items (plain ∷ []) ∙ ap (λ (k : ℕ). k + 1) before.count;
  plain = λ block known. at block (ap (λ (bs : List Bool). get_or bs block false) (sym is) ∙ known);
}
  where
    at : (block : ℕ) → get_or (old.plain.items ++ plain ∷ []) block false ≡ true → IsPlain table (pages block)
    at block known = elim (cases_lt block n) [
      | inl below ↦ before.plain block (sym (get_or_append_left old.plain.items (plain ∷ []) false block (omega (arith, before.count, below))) ∙ known)
      | inr past ↦ elim (cases_eq block n) [
        | inl last ↦ subst (λ (b : ℕ). IsPlain table (pages b)) (sym last) (own (sym (get_or_push old.plain.items plain false block (omega (arith, before.count, last))) ∙ known))
        | inr other ↦
            let more = length-append old.plain.items (plain ∷ []) in
            absurd (false≢true (sym (get_or_past (old.plain.items ++ plain ∷ []) block false (omega (arith, more, before.count, past, other))) ∙ known))
      ]
    ]

-- The pages of a case's heap

pub of_heap : (case : CaseRecord) (names : Names) (table : Table) (r : Relation) (known : KnownBlocks) → table ≡ table_of case names → IsNamed case.heap_file case.segment_blocks r
    → IsRelationOf names case.heap_file case.segment_blocks heap_limit r → TellsOfBlocks table (pages_in names r) (count_of r) known → TellsOfHeap case names known
unfolding heap_blocks
of_heap case names table r known same named relation are =
    subst (λ (t : Table). TellsOfBlocks t (heap_page case names) (heap_blocks case names) known) same
    (subst (λ (n : ℕ). TellsOfBlocks table (heap_page case names) n known) relation.count
    (subst (λ (pages : ℕ → List ℕ). TellsOfBlocks table pages (count_of r) known) (λ i block. block_of names (named.named i) (named.sized i) block) are))

pub quiet_keeps : (case : CaseRecord) (names : Names) → IsQuiet case names → KeepPageRules (heap_page case names) (heap_blocks case names)
quiet_keeps case names quiet = λ block below.
    let nothing = heap_block_is_silent case names (quiet_files case names quiet) block below in
    (page_is_quiet (table_of case names) (chunks_of case names) (case_bits case names block) block (heap_page case names block) nothing.findings nothing.unjudged).pass.header
