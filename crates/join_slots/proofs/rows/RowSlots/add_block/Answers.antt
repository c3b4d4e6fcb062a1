use Rattle.std.proofs.Common.{◌∙◌, subst, ap}
use Rattle.std.proofs.lemmas.Result.{err_from_is_err_and}
use Rattle.join_slots.specs.Slots.{HasBlock, Tables, met_in, mets_of}
use Rattle.join_slots.proofs.BlockLaws.{block_added, kept_added, mets_alike, starts_added, tables}
use Rattle.join_slots.proofs.rows.RowSlots.add_block.Goals as goal

pub invariant_of-self-2 : goal.invariant_of-self-2
invariant_of-self-2 c =
    let s = c.self.inside in
    let a = c.in_ok-add_block_in.ensures.ok in (
      starts_added s.starts.items s.records.items c.args.items _ _ c.self.invariant.0 a,
      c.in_ok-add_block_in.ensures.bits,
      kept_added s.starts.items s.records.items s.arena.items c.args.items _ _ c.self.invariant.2 a,
    )

pub returns-in_err-add_block_in-clause-met : goal.returns-in_err-add_block_in-clause-met
returns-in_err-add_block_in-clause-met c =
    let p = err_from_is_err_and c.from_residual.result c.from_residual.ensures.1 in
    let s = c.self.inside in
    rw p.1
    ((λ i. mets_of s.first (c.in_err-add_block_in.ensures.starts i) c.add_block_in.new.bits.items)
    ∙ (mets_alike s.first s.starts.items s.bits.items c.add_block_in.new.bits.items c.in_err-add_block_in.ensures.same
    ∙ ap met_in c.self.view_is))

pub returns : goal.returns
returns c =
    let s = c.self.inside in
    let n = c.add_block_in.new in
    let a = c.in_ok-add_block_in.ensures.ok in
    let done : HasBlock (tables s.first s.starts.items s.records.items s.arena.items s.bits.items) c.args.items (tables s.first n.starts.items n.records.items s.arena.items n.bits.items) =
    block_added s.first s.starts.items s.records.items s.arena.items s.bits.items c.args.items n.starts.items n.records.items n.bits.items c.self.invariant.0 c.self.invariant.1 a c.in_ok-add_block_in.ensures.same in
    record {
      ok = subst (λ (t : Tables). HasBlock t c.args.items (tables s.first n.starts.items n.records.items s.arena.items n.bits.items)) c.self.view_is done;
      range = tt;
      keys = tt;
      met = tt;
    }
