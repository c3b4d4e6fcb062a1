use Rattle.std.proofs.Common.{◌≡◌, ◌∙◌, ◌++◌, ◌∷◌, [], Bool, List, ap, of_z, rules, sym, to_z, w64, false, true}
use Rattle.std.proofs.lemmas.Bool.{OnFalse_at, OnTrue_at}
use Rattle.key_orders.specs.declared.columns.Value.{Value}
use Rattle.key_orders.specs.declared.columns.Value.TheVariants.{Int}
use Rattle.join_slots.specs.Met.{keyed, met_by}
use Rattle.join_slots.specs.Slots.{keys_in, met_in}
use Rattle.key_storage.proofs.RowLaws.{one as number}
use Rattle.key_attrs.specs.Columns.{tree_columns}
use Rattle.bt_image.specs.Image.{leaf_entry}
use Rattle.join_meet.specs.Meeting.{entries_at}
use Rattle.join_meet.proofs.Meets.{absent-one, killed-one, one, range-then, same, uncovered}
use Rattle.join_meet.proofs.PlainKeys.{plain-key, same-told}
use Rattle.join_meet.proofs.meet.meet_entry.Goals as goal

-- killed
pub returns-then-entry-clause-met : goal.returns-then-entry-clause-met
returns-then-entry-clause-met c page i lies dead read =
    let columns = tree_columns c.args.columns.now in
    let e = c.args.entry in
    let has = plain-key columns page i e.tid e.body.now e.killed lies dead read in
    same (leaf_entry has.key has.more e.tid true ∷ []) (entries_at columns page i) c.args.slots.now c.args.slots.now
    (sym (has.is ∙ ap (λ (killed : Bool). leaf_entry has.key has.more e.tid killed ∷ []) c.if-entry.true))
    (killed-one has.key has.more e.tid c.args.slots.now)

-- outside the range
pub returns-then-not-covers-clause-met : goal.returns-then-not-covers-clause-met
returns-then-not-covers-clause-met c page i lies dead read =
    let columns = tree_columns c.args.columns.now in
    let e = c.args.entry in
    let has = plain-key columns page i e.tid e.body.now e.killed lies dead read in
    same (leaf_entry has.key has.more e.tid false ∷ []) (entries_at columns page i) c.args.slots.now c.args.slots.now
    (sym (has.is ∙ ap (λ (killed : Bool). leaf_entry has.key has.more e.tid killed ∷ []) c.if-entry.false))
    (absent-one has.key has.more e.tid c.args.slots.now (uncovered c.args.slots.now e.tid (sym c.covers.ensures ∙ c.if-not-covers.true)))

-- by its number
pub returns-in-Some-clause-met : goal.returns-in-Some-clause-met
returns-in-Some-clause-met c page i lies dead read =
    let columns = tree_columns c.args.columns.now in
    let e = c.args.entry in
    let old = c.args.slots.now in
    let new = c.meet_number.new.slots in
    let has = plain-key columns page i e.tid e.body.now e.killed lies dead read in
    let is = sym (has.is ∙ ap (λ (killed : Bool). leaf_entry has.key has.more e.tid killed ∷ []) c.if-entry.false) in
    let back : to_z w64 (of_z w64 c.in-Some.number) ≡ c.in-Some.number = search rules in
    let values : Int c.in-Some.number ∷ [] ≡ has.key ++ has.more = same-told (Int c.in-Some.number ∷ []) (has.key ++ has.more) (sym c.in-Some.ensures ∙ has.told) in
    let met = c.meet_number.ensures.met ∙ ap (λ (key : List Value). met_by (keys_in old) (met_in old) (keyed e.tid key)) (ap number back ∙ values) in
    same (leaf_entry has.key has.more e.tid false ∷ []) (entries_at columns page i) old new is
    (one has.key has.more e.tid old new met c.meet_number.ensures.keys c.meet_number.ensures.range)

-- by its bytes
pub returns-else-not-meet_plain-clause-met : goal.returns-else-not-meet_plain-clause-met
returns-else-not-meet_plain-clause-met c page i lies dead read =
    let columns = tree_columns c.args.columns.now in
    let e = c.args.entry in
    let old = c.args.slots.now in
    let new = c.meet_plain.new.self in
    let has = plain-key columns page i e.tid e.body.now e.killed lies dead read in
    let is = sym (has.is ∙ ap (λ (killed : Bool). leaf_entry has.key has.more e.tid killed ∷ []) c.if-entry.false) in
    same (leaf_entry has.key has.more e.tid false ∷ []) (entries_at columns page i) old new is
    (one has.key has.more e.tid old new (OnTrue_at c.if-not-meet_plain.false c.meet_plain.ensures.met (has.key ++ has.more) has.tells) c.meet_plain.ensures.keys c.meet_plain.ensures.range)

-- by its values
pub returns-then-not-meet_plain-clause-met : goal.returns-then-not-meet_plain-clause-met
returns-then-not-meet_plain-clause-met c page i lies dead read =
    let columns = tree_columns c.args.columns.now in
    let e = c.args.entry in
    let old = c.args.slots.now in
    let next = c.meet_plain.new.self in
    let new = c.meet_body.new.slots in
    let has = plain-key columns page i e.tid e.body.now e.killed lies dead read in
    let is = sym (has.is ∙ ap (λ (killed : Bool). leaf_entry has.key has.more e.tid killed ∷ []) c.if-entry.false) in
    let met = c.meet_body.ensures.met (has.key ++ has.more) has.told ∙ (λ j. met_by (c.meet_plain.ensures.keys j) (OnFalse_at c.if-not-meet_plain.true c.meet_plain.ensures.same j) (keyed e.tid (has.key ++ has.more))) in
    same (leaf_entry has.key has.more e.tid false ∷ []) (entries_at columns page i) old new is
    (one has.key has.more e.tid old new met (c.meet_body.ensures.keys ∙ c.meet_plain.ensures.keys) (range-then old next new c.meet_plain.ensures.range c.meet_body.ensures.range))
