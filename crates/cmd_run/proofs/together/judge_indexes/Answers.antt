use Rattle.std.proofs.Common.{◌≡◌, ◌∙◌, Bool, List, ap, sym, subst}
use Rattle.std.specs.Prelude.{All, is_some, map}
use Rattle.bt_levels.specs.Files.{IsFileOf}
use Rattle.bt_levels.specs.Sound.{HoldsTree, file_of}
use Rattle.bt_levels.specs.declared.sound.SoundTree.{SoundTree}
use Rattle.cmd_run.specs.Tables.{case_seen, heap_seen}
use Rattle.cmd_run.specs.Together.{joint_lists, quiet_numbers, tree_number}
use Rattle.cmd_run.proofs.TogetherLaws.{joined-all, some-copied}
use Rattle.cmd_run.proofs.together.judge_indexes.Goals as goal

pub join_all-requires-clause-held : goal.join_all-requires-clause-held
join_all-requires-clause-held g c = λ names told.
    let alone = c.in_ok-alone.ensures.alone names (sym c.judge_all_alone.ensures.asked.same ∙ told) in
    subst (λ (ts : List SoundTree). All (λ (t : SoundTree). IsFileOf (case_seen c.args.table) names (file_of t) × HoldsTree names t) ts) (sym c.deref.ensures.value) alone.held

pub returns-clause-found : goal.returns-clause-found
returns-clause-found g c = λ names told.
    let case = case_seen c.args.table in
    let heap = heap_seen c.args.table in
    let alone = c.in_ok-alone.ensures.alone names told in
    let there : c.is_some.result ≡ is_some heap = c.is_some.ensures ∙ sym (some-copied c.args.table.heap) in
    let read = c.judge_all_alone.ensures.asked.same ∙ told in
    let numbers : map tree_number c.deref.result.now ≡ quiet_numbers case names c.args.trees.items = ap (map tree_number) c.deref.ensures.value ∙ alone.numbers in
    let joint = c.in_ok-joint.ensures.joint names read ∙ (λ i. joint_lists case names (is_some heap) (numbers i)) in
    let wanted = joint ∙ ap (λ (b : Bool). joint_lists case names b (quiet_numbers case names c.args.trees.items)) (sym there) in
    joined-all case names heap c.args.trees.items c.is_some.result c.args.report.now c.append_to.new.report (c.requires.heap names told) there
    (c.in_ok-append_to.ensures case names c.args.trees.items alone wanted)
