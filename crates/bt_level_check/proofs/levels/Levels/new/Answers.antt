use Rattle.std.proofs.Common.{ap, sym, ◌∙◌, arith}
use Rattle.bt_pages.specs.Trees.{tree_seen}
use Rattle.bt_level_check.specs.Trees.{image_of}
use Rattle.bt_level_check.proofs.Counting.{few_below}
use Rattle.bt_level_check.proofs.Descending.{top_reads}
use Rattle.bt_level_check.proofs.levels.Levels.new.Goals as goal

pub returns-clause-ready : goal.returns-clause-ready
returns-clause-ready c = record {
  upper = c.to_root.ensures.readable c.args.tree.columns.specs.now;
  lower = tt;
  dead = c.in_ok-dead.ensures.sized ∙ c.blocks-blocks.ensures;
  stands = c.in_ok-stands.ensures.sized ∙ c.blocks-blocks.ensures;
  steps = let e = c.blocks-blocks.ensures in omega (arith, e);
  right_halves = omega arith;
  half_dead = omega arith;
}

pub returns-clause-top : goal.returns-clause-top
returns-clause-top c names meta =
    let tree = tree_seen names c.args.tree in record {
      fastroot = ap (λ m. m.fastroot) meta;
      reads = record {
        hand = c.to_root.ensures.sound tree.specs tree.more;
        reading = top_reads tree _ c.to_root.result _ (ap (λ m. m.root) meta) (c.to_root.ensures.hand tree.specs tree.more) (sym (c.to_root.ensures.turns ∙ c.blocks-blocks.ensures));
      };
      settled = c.to_root.ensures.settled;
    }

pub returns-clause-enough : goal.returns-clause-enough
returns-clause-enough c names level =
    let tree = tree_seen names c.args.tree in
    let few = few_below (image_of tree) level in
    let e = c.blocks-blocks.ensures in
    record { walks = omega (arith, few, e); steps = omega (arith, few, e) }
