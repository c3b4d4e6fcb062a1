use Rattle.std.proofs.Common.{◌∙◌, subst, sym}
use Rattle.heap_page_check.specs.Quiet.{IsPlain}
use Rattle.heap_page_check.specs.Table.{table_seen, table_with}
use Rattle.heap_table_check.specs.TableFiles.{pages_in}
use Rattle.heap_table_check.proofs.Relating.{block_added}
use Rattle.heap_table_check.proofs.relations.judge_block.Goals as goal

pub returns-clause-found : goal.returns-clause-found
unfolding table_with
returns-clause-found g c names told =
    let after_bits = c.in_ok-bits.ensures.asked.same ∙ told in
    block_added (table_seen names c.args.table.now) _ _ names _ _ c.args.block _ _ c.args.hands.now.work.found _
    (c.new-view.ensures ∙ (c.page.ensures ∙ c.in_ok-take.ensures.bytes names after_bits)) (c.in_ok-bits.ensures.told names told)
    (c.in_ok-plain.ensures.found names (c.in_ok-take.ensures.asked.same ∙ after_bits))

pub returns-clause-known : goal.returns-clause-known
unfolding table_with
returns-clause-known g c names told before =
    let after_bits = c.in_ok-bits.ensures.asked.same ∙ told in
    let is = c.new-view.ensures ∙ (c.page.ensures ∙ c.in_ok-take.ensures.bytes names after_bits) in
    c.in_ok-add.ensures (table_seen names c.args.table.now) (pages_in names c.args.file.relation.now) c.args.block (sym is)
    (λ yes. subst (IsPlain (table_seen names c.args.table.now)) is (c.in_ok-plain.ensures.plain names (c.in_ok-take.ensures.asked.same ∙ after_bits) yes)) before

pub bits_of-requires-clause-attached : goal.bits_of-requires-clause-attached
bits_of-requires-clause-attached g c names told = (c.requires.at_hand names told).map

pub take-requires-clause-hand : goal.take-requires-clause-hand
take-requires-clause-hand g c names told = (c.requires.at_hand names (sym c.in_ok-bits.ensures.asked.same ∙ told)).pages

-- the pages that were taken are of the same table, and that of the map is of the same map
pub returns-in_err-bits-clause-at_hand : goal.returns-in_err-bits-clause-at_hand
returns-in_err-bits-clause-at_hand g c names told =
    let at_hand = c.requires.at_hand names told in
    record { relation = at_hand.relation; map = at_hand.map; pages = at_hand.pages; page = c.bits_of.ensures.hand names told }

pub returns-in_err-take-clause-at_hand : goal.returns-in_err-take-clause-at_hand
returns-in_err-take-clause-at_hand g c names told =
    let at_hand = c.requires.at_hand names told in
    record { relation = at_hand.relation; map = at_hand.map; pages = c.take.ensures.hand names (c.in_ok-bits.ensures.asked.same ∙ told); page = c.bits_of.ensures.hand names told }

pub returns-clause-at_hand : goal.returns-clause-at_hand
returns-clause-at_hand g c names told =
    let at_hand = c.requires.at_hand names told in
    record { relation = at_hand.relation; map = at_hand.map; pages = c.take.ensures.hand names (c.in_ok-bits.ensures.asked.same ∙ told); page = c.bits_of.ensures.hand names told }

pub returns-in_err-plain-clause-at_hand : goal.returns-in_err-plain-clause-at_hand
returns-in_err-plain-clause-at_hand g c names told =
    let at_hand = c.requires.at_hand names told in
    record { relation = at_hand.relation; map = at_hand.map; pages = c.take.ensures.hand names (c.in_ok-bits.ensures.asked.same ∙ told); page = c.bits_of.ensures.hand names told }

pub returns-in_err-add-clause-at_hand : goal.returns-in_err-add-clause-at_hand
returns-in_err-add-clause-at_hand g c names told =
    let at_hand = c.requires.at_hand names told in
    record { relation = at_hand.relation; map = at_hand.map; pages = c.take.ensures.hand names (c.in_ok-bits.ensures.asked.same ∙ told); page = c.bits_of.ensures.hand names told }
