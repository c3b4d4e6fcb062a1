use Rattle.std.proofs.Common.{[], suc, sym, subst}
use Rattle.std.specs.Prelude.{None}
use Rattle.bt_pages.specs.Trees.{tree_seen}
use Rattle.bt_level_check.specs.Reading.{IsReading}
use Rattle.bt_level_check.specs.Sets.{is_in}
use Rattle.bt_level_check.specs.Trees.{image_of}
use Rattle.bt_level_check.specs.Walked.{tree_of}
use Rattle.bt_level_check.proofs.levels.Levels.descend.Goals as goal

pub returns-clause-told : goal.returns-clause-told
returns-clause-told g c names told holds level left reading fastroot =
    let tree = tree_seen names (tree_of c.args.self.now) in
    let begun = c.begin.ensures in
    let settled = c.in_ok-settle.ensures.reads names told holds level left
    (record {
      hand = begun.sound tree.specs tree.more;
      reading = subst (λ k. IsReading (image_of tree) (is_in c.args.self.now.dead) (suc level) c.begin.new.self.turns_left k left) (sym (begun.cursor tree.specs tree.more))
          (subst (λ m. IsReading (image_of tree) (is_in c.args.self.now.dead) (suc level) m (record { items = []; lower = None; block = c.args.first }) left) (sym begun.turns) reading);
    }) in
    record { fastroot = fastroot; reads = settled.0; settled = settled.1 }
