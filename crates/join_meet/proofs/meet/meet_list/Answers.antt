use Rattle.std.proofs.Common.{◌∙◌, ◌+◌, ◌++◌, ◌∷◌, List, [], false, take, ap, arith, sym}
use Rattle.std.proofs.lemmas.List.{take_all}
use Rattle.key_orders.specs.declared.columns.Value.{Value}
use Rattle.bt_tuples.specs.Items.{Posting}
use Rattle.bt_image.specs.Image.{LeafEntry, entries_in, leaf_entry}
use Rattle.join_slots.specs.Met.{keyed, met_by}
use Rattle.join_slots.specs.Slots.{keys_in, met_in}
use Rattle.join_meet.proofs.Meets.{list-count, list-get, met-then, none, one, same, taken}
use Rattle.join_meet.proofs.meet.meet_list.Goals as goal

pub loop-k-init : goal.loop-k-init
loop-k-init c = none c.args.slots.now

pub loop-k-preserved : goal.loop-k-preserved
loop-k-preserved c =
    let key = c.args.key.now in
    let tids = c.args.tids.now in
    let es = entries_in (Posting key tids false) in
    let tid = c.get.result in
    let e : LeafEntry = leaf_entry key [] tid false in
    let met = c.meet.ensures.met ∙ ap (λ (k : List Value). met_by (keys_in c.loop-k.slots) (met_in c.loop-k.slots) (keyed tid (k ++ []))) c.as_slice.ensures.values in
    same (take c.loop-k.k es ++ e ∷ []) (take (c.loop-k.k + 1) es) c.args.slots.now c.meet.new.self
    (sym (taken es c.loop-k.k e (list-get key tids false c.loop-k.k tid (sym c.get.ensures))))
    (met-then (take c.loop-k.k es) (e ∷ []) c.args.slots.now c.loop-k.slots c.meet.new.self c.loop-k.invariant (one key [] tid c.loop-k.slots c.meet.new.self met c.meet.ensures.keys c.meet.ensures.range))

pub returns : goal.returns
returns c =
    let es = entries_in (Posting c.args.key.now c.args.tids.now false) in
    same (take c.loop-k.k es) es c.args.slots.now c.loop-k.slots
    (take_all c.loop-k.k es (omega (arith, c.loop-k-test.false, list-count c.args.key.now c.args.tids.now false))) c.loop-k.invariant
