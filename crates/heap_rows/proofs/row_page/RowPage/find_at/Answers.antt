use Rattle.std.proofs.Common.{◌≡◌, ℕ, true, false, List, length, drop, take, ◌+◌, ◌-◌, sym, ap, subst, ◌∙◌, arith}
use Rattle.std.proofs.lemmas.Bool.{false≢true}
use Rattle.std.specs.Option.{option_copied}
use Rattle.key_orders.specs.declared.columns.ColType.{ColType}
use Rattle.varlena_attrs.specs.InTurn.{AreRead}
use Rattle.hot_chains.specs.Chains.{item_at}
use Rattle.heap_tuples.specs.Places.{tuple_at}
use Rattle.heap_tuples.specs.Tuples.{attributes_in}
use Rattle.heap_page_check.specs.Found.{live_attributes, states_of}
use Rattle.heap_table_check.specs.Case.{table_of}
use Rattle.heap_rows.specs.RowPages.{IsBodyOf, is_live_in}
use Rattle.heap_rows.specs.RowValues.{FitTypes}
use Rattle.heap_rows.proofs.RowFinds.{asks, attrs_are, attrs_have, not_there, row_found, starts_are}
use Rattle.heap_rows.proofs.RowFits.{attributes_fit}
use Rattle.heap_rows.proofs.RowLaws.{never_in, read_or_not}
use Rattle.heap_rows.proofs.RowPages.{known_attributes, no_row, told_state}
use Rattle.heap_rows.proofs.row_page.RowPage.find_at.Goals as goal

pub returns-then-not-is_live_item-clause-none : goal.returns-then-not-is_live_item-clause-none
returns-then-not-is_live_item-clause-none g c = λ names told case not known are.
    let page = c.args.self.now in
    let gone : is_live_in page c.args.item ≡ false = sym c.is_live_item.ensures ∙ c.if-not-is_live_item.true in
    let dead = told_state case names (option_copied c.args.from.now.toast) c.args.from.now.chunks.now page c.args.item false known c.requires.first c.requires.last gone in
    no_row case names page.block page.bytes c.args.item (item_at (states_of (table_of case names) page.bytes) c.args.item) known.verdict dead

pub returns-in_default-clause-none : goal.returns-in_default-clause-none
returns-in_default-clause-none g c = λ names told case not known are.
    let live : is_live_in c.args.self.now c.args.item ≡ true = sym c.is_live_item.ensures ∙ c.if-not-is_live_item.false in
    let has = known_attributes case names (option_copied c.args.from.now.toast) c.args.from.now.chunks.now c.args.self.now c.args.item c.args.columns.now c.args.from.now.columns.now known c.requires.columns are.columns live in
    absurd (not_there c.tuple_attributes.result _ (c.tuple_attributes.ensures.read c.args.item (live_attributes (table_of case names) c.args.self.now.bytes c.args.item) c.line_pointer-pointer.ensures has) (λ t is. c.in_default.not-Some t is))

pub find-requires-clause-inside : goal.find-requires-clause-inside
find-requires-clause-inside g c =
    let of = attrs_have c.tuple_attributes.result c.in-Some.attrs (λ t. IsBodyOf c.args.self.now.bytes c.line_pointer-pointer.result t.body) c.in-Some.is c.tuple_attributes.ensures.body in
    let same : length c.body-len.result.now ≡ length c.in-Some.attrs.body = ap (λ (b : List ℕ). length b) c.body-len.ensures in
    let inside = of.inside in
    let part = of.part in
    omega (arith, same, inside, part)

pub find-requires-clause-body : goal.find-requires-clause-body
find-requires-clause-body g c =
    let pointer = c.line_pointer-pointer.result in
    let page = c.args.self.now.bytes in
    let of = attrs_have c.tuple_attributes.result c.in-Some.attrs (λ t. IsBodyOf page pointer t.body) c.in-Some.is c.tuple_attributes.ensures.body in
    let same : length c.body-len.result.now ≡ length c.in-Some.attrs.body = ap (λ (b : List ℕ). length b) c.body-len.ensures in
    of.piece ∙ ap (λ (n : ℕ). take n (drop (pointer.off + (pointer.len - n)) page)) (sym same)

pub find-requires-clause-long : goal.find-requires-clause-long
find-requires-clause-long g c = sym (ap (λ (b : List ℕ). length b) c.body-len.ensures)

pub find-requires-clause-types : goal.find-requires-clause-types
find-requires-clause-types g c =
    attrs_have c.tuple_attributes.result c.in-Some.attrs (λ t. t.columns ≡ c.args.columns.now) c.in-Some.is c.tuple_attributes.ensures.columns ∙ c.requires.columns

pub returns-clause-none : goal.returns-clause-none
returns-clause-none g c = λ names told case not known are.
    let live : is_live_in c.args.self.now c.args.item ≡ true = sym c.is_live_item.ensures ∙ c.if-not-is_live_item.false in
    let has = known_attributes case names (option_copied c.args.from.now.toast) c.args.from.now.chunks.now c.args.self.now c.args.item c.args.columns.now c.args.from.now.columns.now known c.requires.columns are.columns live in
    let list = live_attributes (table_of case names) c.args.self.now.bytes c.args.item in
    let read = attrs_are c.tuple_attributes.result c.in-Some.attrs (λ t. AreRead t list) c.in-Some.is (c.tuple_attributes.ensures.read c.args.item list c.line_pointer-pointer.ensures has) in
    absurd (false≢true (sym not ∙ c.in_ok-found.ensures.told names told list read (asks case names c.args.from.now are) (starts_are case names c.args.from.now are) (known.values live)))

pub returns-clause-row : goal.returns-clause-row
returns-clause-row g c = λ names told case is known are.
    let page = c.args.self.now.bytes in
    let types = c.args.columns.now in
    let live : is_live_in c.args.self.now c.args.item ≡ true = sym c.is_live_item.ensures ∙ c.if-not-is_live_item.false in
    let has = known_attributes case names (option_copied c.args.from.now.toast) c.args.from.now.chunks.now c.args.self.now c.args.item types c.args.from.now.columns.now known c.requires.columns are.columns live in
    let list = live_attributes (table_of case names) page c.args.item in
    let read = attrs_are c.tuple_attributes.result c.in-Some.attrs (λ t. AreRead t list) c.in-Some.is (c.tuple_attributes.ensures.read c.args.item list c.line_pointer-pointer.ensures has) in
    let tuple = tuple_at page c.args.item in
    let own = read_or_not (attributes_in types tuple) list has.read (never_in types tuple c.requires.aligned) in
    let fit = subst (λ (ts : List ColType). FitTypes ts list) c.requires.columns (attributes_fit types tuple list c.requires.aligned own) in
    row_found case names c.args.from.now _ c.args.item (item_at (states_of (table_of case names) page) c.args.item) known.verdict
    (told_state case names (option_copied c.args.from.now.toast) c.args.from.now.chunks.now c.args.self.now c.args.item true known c.requires.first c.requires.last live) are fit
    (c.in_ok-found.ensures.cells names told list read (starts_are case names c.args.from.now are) is (known.values live))
