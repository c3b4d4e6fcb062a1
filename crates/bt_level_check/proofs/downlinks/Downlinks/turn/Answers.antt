use Rattle.std.proofs.Common.{◌≤◌, ap, sym, subst, ◌∙◌}
use Rattle.page_layout.specs.Page.{count_of}
use Rattle.page_layout.specs.Page.{page_rule_of}
use Rattle.page_layout.specs.declared.page.PageKind.TheVariants.{Tree as tree_page}
use Rattle.bt_meta.specs.Pages.{opaque_of}
use Rattle.bt_image.specs.Image.{first_data}
use Rattle.bt_pages.specs.Trees.{tree_seen}
use Rattle.bt_level_check.specs.Downlinks.{hand_after}
use Rattle.bt_level_check.specs.Sets.{is_in}
use Rattle.bt_level_check.proofs.Hands.{next_upper, turn_reads}
use Rattle.bt_level_check.proofs.downlinks.Downlinks.turn.Goals as goal

pub returns-in_ok-read_block-clause-reads : goal.returns-in_ok-read_block-clause-reads
returns-in_ok-read_block-clause-reads g c names told holds level m left ne reads =
    let tree = tree_seen names c.args.tree.now in
    let dead = is_in c.args.dead.now in
    let keeps = holds.pages in
    let old = c.args.self.now in
    let u = next_upper tree dead level keeps m old left c.requires.nothing ne reads in
    let page = c.in_ok-read_block.ensures.bytes names told in
    let laid = ap (page_rule_of tree_page) page ∙ u.kept.laid_out in
    let some : first_data c.read_block.new.out ≤ count_of c.read_block.new.out = subst (λ p. first_data p ≤ count_of p) (sym page) u.some in
    let taken = c.take.ensures.taken laid some in
    let own = c.take.ensures.page in
    turn_reads tree dead level keeps m old left c.requires.nothing ne reads c.take.new.self (own ∙ page) c.take.ensures.lower (taken.0 ∙ ap (λ p. (opaque_of p).next) (sym own))
    (taken.1 ∙ (λ k. hand_after (sym own k) (c.has.ensures k)))
