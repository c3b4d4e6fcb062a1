use Rattle.std.proofs.Common.{◌∙◌}
use Rattle.rel_files.specs.Blocks.{block_of}
use Rattle.rel_files.specs.Relation.{base_of, size_of}
use Rattle.bt_pages.proofs.Parts.{glance_is}
use Rattle.bt_pages.proofs.look.glance_at.Goals as goal

pub returns-clause-told : goal.returns-clause-told
returns-clause-told g c names told =
    let page = block_of names (base_of c.args.relation.now) (size_of c.args.relation.now) c.args.block in
    let header = c.in_ok-read_part.ensures.bytes names told in
    let special = c.in_ok-read_part-2.ensures.bytes names (c.in_ok-read_part.ensures.asked.same ∙ told) in
    glance_is page _ _ _ _ _ header (c.special_in-special.ensures page special) c.u16_at.ensures c.u16_at-2.ensures c.is_idle_by.ensures
