use Rattle.std.proofs.Common.{suc, sym, subst}
use Rattle.bt_pages.specs.Trees.{tree_seen}
use Rattle.bt_level_check.specs.Downlinks.{Reads, turns_of}
use Rattle.bt_level_check.specs.Sets.{is_in}
use Rattle.bt_level_check.proofs.Hands.{pass_reads}
use Rattle.bt_level_check.proofs.downlinks.Downlinks.pass.Goals as goal

pub returns-clause-reads : goal.returns-clause-reads
returns-clause-reads g c names told holds level d left settled reads =
    let tree = tree_seen names c.args.tree.now in
    c.in_ok-settle.ensures.reads names told holds level left
    (subst (λ m. Reads tree (is_in c.args.dead.now) (suc level) m c.advance.new.self left) (sym c.in_ok-advance.ensures.turns)
    (pass_reads tree (is_in c.args.dead.now) (suc level) (turns_of c.args.self.now) c.args.self.now c.advance.new.self d left settled
    (λ e es hand is. c.in_ok-advance.ensures.advanced e es hand is) reads))
