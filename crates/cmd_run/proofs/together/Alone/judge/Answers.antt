use Rattle.std.proofs.Common.{◌≡◌, ◌∙◌, ◌∷◌, ◌++◌, [], List, ap, sym, subst}
use Rattle.std.specs.Prelude.{All, Option, is_some, map}
use Rattle.std.specs.Option.{option_to_list}
use Rattle.std.proofs.lemmas.List.{map-append}
use Rattle.std.proofs.lemmas.List.Elements.{All-append}
use Rattle.reports.specs.Added.{joined}
use Rattle.reports.specs.Lists.{Lists}
use Rattle.bt_levels.specs.Files.{IsFileOf, number_of}
use Rattle.bt_levels.specs.Index.{tree_lists}
use Rattle.bt_levels.specs.Sound.{HoldsTree, IsSoundIndexOf, file_of}
use Rattle.bt_levels.specs.declared.files.TreeFile.{TreeFile}
use Rattle.bt_levels.specs.declared.sound.SoundTree.{SoundTree}
use Rattle.cmd_run.specs.Tables.{IsTreeOf}
use Rattle.cmd_run.specs.Together.{is_quiet_tree, own_of, own_report, tree_number}
use Rattle.cmd_run.proofs.TogetherLaws.{belongs-where-quiet, held-where-quiet, number-where-quiet, quiet-push, there-where-quiet, tree-judged}
use Rattle.cmd_run.proofs.together.Alone.judge.Goals as goal

pub returns-clause-alone : goal.returns-clause-alone
returns-clause-alone g c = λ names told before was.
    let case = c.args.case.now in
    let at : TreeFile = c.args.at in
    let tree : Option SoundTree = c.in_ok-tree.tree in
    let of : IsTreeOf case names (number_of at) tree = tree-judged g.F.Files.seen c.args.files.now case names told (number_of at) tree (c.in_ok-tree.ensures.quiet names told) c.in_ok-tree.ensures.told c.in_ok-tree.ensures.holds in
    let first : joined c.new-report.result (tree_lists case names (number_of at)) ≡ tree_lists case names (number_of at) = ap (λ (l : Lists). joined l (tree_lists case names (number_of at))) c.new-report.ensures in
    let report : c.check_tree.new.report ≡ tree_lists case names (number_of at) = c.in_ok-tree.ensures.lists names told ∙ first in
    let there : is_some tree ≡ is_quiet_tree case names at = there-where-quiet case names at tree of in
    record {
      own =
          c.in_ok-push.ensures.own
          ∙ (λ i. was.own i ++ own_report (report i) (there i) ∷ [])
          ∙ sym (map-append (own_of case names) before (at ∷ []));
      numbers =
          ap (map tree_number) c.in_ok-push.ensures.trees
          ∙ map-append tree_number c.args.self.now.trees.items (option_to_list tree)
          ∙ (λ i. was.numbers i ++ number-where-quiet case names at tree c.in_ok-tree.ensures.sound (is_quiet_tree case names at) there i)
          ∙ sym (quiet-push case names before at);
      held =
          subst (λ (ts : List SoundTree). All (λ (t : SoundTree). IsFileOf case names (file_of t) × HoldsTree names t) ts) (sym c.in_ok-push.ensures.trees)
          (All-append (λ (t : SoundTree). IsFileOf case names (file_of t) × HoldsTree names t) c.args.self.now.trees.items (option_to_list tree) was.held (held-where-quiet case names at tree of));
    }

pub returns-clause-belong : goal.returns-clause-belong
returns-clause-belong g c =
    let case = c.args.case.now in
    subst (λ (ts : List SoundTree). All (λ (t : SoundTree). IsSoundIndexOf case (tree_number t) t) ts) (sym c.in_ok-push.ensures.trees)
    (All-append (λ (t : SoundTree). IsSoundIndexOf case (tree_number t) t) c.args.self.now.trees.items (option_to_list c.in_ok-tree.tree) c.requires.belong (belongs-where-quiet case c.args.at c.in_ok-tree.tree c.in_ok-tree.ensures.sound))
