use Rattle.std.proofs.Common.{◌≤◌, ℕ, subst}
use Rattle.rel_files.specs.Relation.{IsRefused, IsRelationOf, count_of}
use Rattle.rel_files.proofs.Refusals.{attached_is_not_refused, refused_is_refusal}
use Rattle.rel_files.proofs.attach.attach_file.Goals as goal

pub returns-in-Ok-clause-refusal : goal.returns-in-Ok-clause-refusal
returns-in-Ok-clause-refusal g c names told =
    let r = c.in-Ok.relation in
    attached_is_not_refused c.args.which names c.args.base.now c.args.segment_blocks r
    (subst (λ (n : ℕ). IsRelationOf names c.args.base.now c.args.segment_blocks n r) c.limit_of.ensures (c.in-Ok.ensures.told names told))
    (subst (λ (n : ℕ). count_of r ≤ n) c.limit_of.ensures c.in-Ok.ensures.within)

pub returns-in-Err-clause-refusal : goal.returns-in-Err-clause-refusal
returns-in-Err-clause-refusal g c names told =
    let fault = c.in-Err.fault in
    rw c.fault_of.ensures
    (refused_is_refusal c.args.which names c.args.base.now c.args.segment_blocks fault c.requires.some
    (subst (λ (n : ℕ). IsRefused names c.args.base.now c.args.segment_blocks n fault) c.limit_of.ensures (c.in-Err.ensures.refused names told)))
