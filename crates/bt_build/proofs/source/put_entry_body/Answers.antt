use Rattle.std.proofs.Common.{◌≡◌, ◌∙◌, ◌++◌, ap, arith, length, map, subst, List}
use Rattle.std.specs.Prelude.{IfOk, OnOk}
use Rattle.std.proofs.lemmas.List.{length-map}
use Rattle.std.proofs.lemmas.List.Elements.{All-from_recursion}
use Rattle.key_orders.specs.declared.columns.ColType.{ColType}
use Rattle.key_orders.specs.declared.columns.Value.{Value}
use Rattle.key_orders.specs.Values.{value_shown}
use Rattle.key_storage.specs.Stored.{values_read}
use Rattle.page_write.specs.Bodies.{IsShortEnough, body_flags, index_body}
use Rattle.laws_built_index.specs.Items.{entry_types}
use Rattle.bt_build.specs.Source.{entry_of}
use Rattle.bt_build.proofs.SourceLaws.{all_values, refs_short, stand_length}
use Rattle.bt_build.proofs.source.put_entry_body.Goals as goal

pub put_body-requires-clause-few : goal.put_body-requires-clause-few
put_body-requires-clause-few c =
    let s = c.args.source in
    let is = ap (map value_shown) c.deref.ensures.value ∙ c.in_ok-read_values.ensures
    ∙ (λ i. values_read (length (c.requires.source.types_are i)) (c.behind_count.ensures i)) ∙ all_values s.specs.now s.more.now s.arena.now c.args.place c.requires.kept in
    let many = ap length is in
    omega (arith, many, length-map c.deref.result.now value_shown, c.requires.kept.laid.few)

pub put_body-requires-clause-count : goal.put_body-requires-clause-count
put_body-requires-clause-count c =
    let s = c.args.source in
    let e = entry_of s c.args.place in
    let is = ap (map value_shown) c.deref.ensures.value ∙ c.in_ok-read_values.ensures
    ∙ (λ i. values_read (length (c.requires.source.types_are i)) (c.behind_count.ensures i)) ∙ all_values s.specs.now s.more.now s.arena.now c.args.place c.requires.kept in
    let many = ap length is in
    let stand = stand_length (entry_types s.specs.now s.more.now) (e.entry.values ++ e.more) c.requires.kept.laid.stand in
    let types = ap length c.requires.source.types_are in
    omega (arith, many, length-map c.deref.result.now value_shown, stand, types)

pub put_body-requires-clause-short : goal.put_body-requires-clause-short
put_body-requires-clause-short c =
    let s = c.args.source in
    let e = entry_of s c.args.place in
    let is = ap (map value_shown) c.deref.ensures.value ∙ c.in_ok-read_values.ensures
    ∙ (λ i. values_read (length (c.requires.source.types_are i)) (c.behind_count.ensures i)) ∙ all_values s.specs.now s.more.now s.arena.now c.args.place c.requires.kept in
    All-from_recursion (λ v. IsShortEnough (value_shown v)) c.deref.result.now
    (refs_short (entry_types s.specs.now s.more.now) (e.entry.values ++ e.more) c.deref.result.now is c.requires.kept.laid.stand)

pub returns-clause-body : goal.returns-clause-body
returns-clause-body c =
    let s = c.args.source in
    let is = ap (map value_shown) c.deref.ensures.value ∙ c.in_ok-read_values.ensures
    ∙ (λ i. values_read (length (c.requires.source.types_are i)) (c.behind_count.ensures i)) ∙ all_values s.specs.now s.more.now s.arena.now c.args.place c.requires.kept in
    subst (λ (x : List ColType × List Value). OnOk c.put_body.result (c.put_body.new.body.items ≡ index_body x.0 x.1))
    (λ i. (c.requires.source.types_are i, is i)) c.put_body.ensures.body

pub returns-clause-flags : goal.returns-clause-flags
returns-clause-flags c =
    let s = c.args.source in
    let is = ap (map value_shown) c.deref.ensures.value ∙ c.in_ok-read_values.ensures
    ∙ (λ i. values_read (length (c.requires.source.types_are i)) (c.behind_count.ensures i)) ∙ all_values s.specs.now s.more.now s.arena.now c.args.place c.requires.kept in
    subst (λ (x : List ColType × List Value). IfOk c.put_body.result (λ flags. flags ≡ body_flags x.0 x.1))
    (λ i. (c.requires.source.types_are i, is i)) c.put_body.ensures.flags
