use Rattle.std.proofs.Common.{◌≡◌, ◌∙◌, Bool, true, false, List, [], ap, eqb-true, length, refl, sym}
use Rattle.std.proofs.lemmas.List.{nil_from_length}
use Rattle.bt_levels.specs.declared.sound.SoundTree.{SoundTree}
use Rattle.std.specs.Prelude.{Option, Some, is_some, map}
use Rattle.std.specs.Option.{option_copied}
use Rattle.heap_table_check.specs.declared.files.SoundHeap.{SoundHeap}
use Rattle.outside.specs.Outside.{Names}
use Rattle.case_file.specs.Record.{CaseRecord}
use Rattle.cmd_run.specs.Tables.{case_seen, heap_seen}
use Rattle.cmd_run.specs.Together.{joint_lists, tree_number}
use Rattle.cmd_run.proofs.TogetherLaws.{all-beside, hold-beside}
use Rattle.cmd_run.proofs.together.join_all.Goals as goal

pub check_indexes-requires-clause-hold : goal.check_indexes-requires-clause-hold
check_indexes-requires-clause-hold g c = λ names told.
    hold-beside (case_seen c.args.table) names (record { case = c.args.table.case; heap = c.in-Some.heap; trees = c.args.trees }) (heap_seen c.args.table) (ap option_copied c.in-Some.is) (c.requires.heap names told) (c.requires.held names told)

pub returns-clause-joint : goal.returns-clause-joint
returns-clause-joint g c = λ names told.
    let is : heap_seen c.args.table ≡ Some c.in-Some.heap.now = ap option_copied c.in-Some.is in
    c.in_ok-reports.ensures.reports names told
    ∙ all-beside (case_seen c.args.table) names c.args.trees.now
    ∙ ap (λ (o : Option SoundHeap). joint_lists (case_seen c.args.table) names (is_some o) (map tree_number c.args.trees.now)) (sym is)

-- of no index there is nothing, whatever the heap
none-beside : (case : CaseRecord) (names : Names) (heap : Bool) → joint_lists case names heap [] ≡ []
none-beside case names true = refl
none-beside case names false = refl

pub returns-then-is_empty-clause-joint : goal.returns-then-is_empty-clause-joint
returns-then-is_empty-clause-joint g c = λ names told.
    let none : c.args.trees.now ≡ [] = nil_from_length c.args.trees.now (eqb-true (length c.args.trees.now) 0 (sym c.is_empty.ensures ∙ c.if-is_empty.true)) in
    c.new-then-is_empty.ensures.items
    ∙ sym (ap (λ (ts : List SoundTree). joint_lists (case_seen c.args.table) names (is_some (heap_seen c.args.table)) (map tree_number ts)) none
    ∙ none-beside (case_seen c.args.table) names (is_some (heap_seen c.args.table)))
