use Rattle.vis_map.proofs.Exact.{first_is_broken, none_is_exact, none_is_true}
use Rattle.vis_map.proofs.rules.map_rule.Goals as goal

pub returns-clause-none : goal.returns-clause-none
returns-clause-none c = rw c.first_broken.ensures (none_is_exact c.args.bits c.args.page_flag c.args.items.now)

pub returns-clause-some : goal.returns-clause-some
returns-clause-some c = rw c.first_broken.ensures (first_is_broken c.args.bits c.args.page_flag c.args.items.now)

pub returns-clause-truth : goal.returns-clause-truth
returns-clause-truth c = rw c.first_broken.ensures (none_is_true c.args.bits c.args.page_flag c.args.items.now)
