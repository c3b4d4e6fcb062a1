use Rattle.std.proofs.Common.{◌≡◌, ℕ, suc, false, List, [], ◌∷◌, ◌++◌, length, Ok, refl, ap, ◌∙◌, arith}
use Rattle.std.proofs.lemmas.List.Elements.{recursion_from_All}
use Rattle.key_orders.specs.declared.columns.Value.{Value}
use Rattle.key_orders.specs.declared.Tid.{Tid}
use Rattle.bt_tuples.specs.declared.items.Spot3.TheVariants.{LeafItem}
use Rattle.bt_tuples.specs.Items.{Item, ItemOutcome}
use Rattle.bt_tuples.specs.Items as item
use Rattle.bt_image.specs.Image.{LeafEntry}
use Rattle.page_write.specs.Bodies.{body_flags, index_body}
use Rattle.page_write.proofs.TupleReading.{length_plain}
use Rattle.laws_built_index.specs.Items.{entry_types, leaf_item, tids_of}
use Rattle.laws_built_index.proofs.Meanings.{first_values, is_body, last_values, ok_means, plain_entry, run_entries}
use Rattle.laws_built_index.proofs.items.laid_items_mean.Goals as goal

length_tids : (es : List LeafEntry) → length (tids_of es) ≡ length es
length_tids [] = refl
length_tids (e ∷ es) = ap suc (length_tids es)

pub returns : goal.returns
returns c specs more [] may = absurd may
returns c specs more (e ∷ []) may =
    let laid = may.0 in
    let types = entry_types specs more in
    let values : List Value = e.entry.values ++ e.more in
    let body : List ℕ = index_body (entry_types specs more) (e.entry.values ++ e.more) in
    let long = length_plain e.entry.tid (body_flags (entry_types specs more) (e.entry.values ++ e.more)) body in
    let small = may.1 in
    let meaning : Item = item.Plain e.entry.values e.more e.entry.tid false in
    let read =
    c.index_tuples_read_back.ensures.plain specs more e.entry.tid (body_flags (entry_types specs more) (e.entry.values ++ e.more)) body false values laid.tid laid.some_item
    (is_body (entry_types specs more) values (omega (arith, long, small)))
    (c.bodies_read_back.ensures.entry (entry_types specs more) values laid.stand laid.few) in
    let outcome = read ∙ (λ i. Ok (item.Plain (first_values (length specs) e.entry.values e.more laid.whole i) (last_values (length specs) e.entry.values e.more laid.whole i) e.entry.tid false)) in
    record {
      item = meaning;
      outcome = outcome;
      meaning = ok_means specs more LeafItem (leaf_item specs more (e ∷ [])) false meaning outcome;
      entries = λ i. plain_entry e laid.alive i ∷ [];
    }
returns c specs more (e ∷ d ∷ es) may =
    let laid = may.0 in
    let run = may.1 in
    let small = may.2 in
    let all : List LeafEntry = e ∷ d ∷ es in
    let values : List Value = e.entry.values ++ e.more in
    let tids : List Tid = tids_of (e ∷ d ∷ es) in
    let body : List ℕ = index_body (entry_types specs more) (e.entry.values ++ e.more) in
    let long = c.posting_tuples_read_back.ensures.size tids (body_flags (entry_types specs more) (e.entry.values ++ e.more)) body in
    let meaning : Item = item.Posting e.entry.values tids false in
    let read =
    c.posting_tuples_read_back.ensures.means specs more tids (body_flags (entry_types specs more) (e.entry.values ++ e.more)) body false values run.includes
    (record { some = λ z. absurd cc; fit = run.fit; rise = run.rise })
    (is_body (entry_types specs more) values (omega (arith, long, small)))
    (omega (arith, long, small))
    (c.bodies_read_back.ensures.entry (entry_types specs more) values laid.stand laid.few) in
    let outcome = read ∙ (λ i. Ok (item.Posting (first_values (length specs) e.entry.values e.more laid.whole i) tids false)) in
    record {
      item = meaning;
      outcome = outcome;
      meaning = ok_means specs more LeafItem (leaf_item specs more (e ∷ d ∷ es)) false meaning outcome;
      entries = run_entries e (e ∷ d ∷ es) (recursion_from_All _ (e ∷ d ∷ es) run.like);
    }
