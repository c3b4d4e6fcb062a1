use Rattle.std.proofs.Common.{◌≡◌, ◌+◌, ◌≤◌, List, ℕ, drop, length, take, refl, sym, subst, arith}
use Rattle.std.specs.Prelude.{Some, get_or, map, slice_get}
use Rattle.std.specs.Option.{option_copied}
use Rattle.key_orders.specs.declared.columns.ColType.{ColType}
use Rattle.key_orders.specs.Types.{HasLength}
use Rattle.case_file.specs.declared.case.Column.{Column}
use Rattle.varlena_attrs.specs.Inline.{IsLayout}
use Rattle.varlena_attrs.specs.InTurn.{IsAttributeOf}
use Rattle.varlena_attrs.specs.Shown.{shown_at}
use Rattle.varlena_attrs.specs.declared.places.AttrPlace.TheVariants.{Plain}
use Rattle.heap_rows.specs.declared.row_values.ValuePlace.TheVariants.{OnPage}
use Rattle.heap_rows.specs.RowValues.{FitsColumnAt, FitsType, IsStart, IsThere, body_in, bytes_seen, column_asked}
use Rattle.heap_rows.proofs.RowBodies.{piece_length}
use Rattle.heap_rows.proofs.RowValues.{attr_has, attr_is, attribute_fits, fits_is, has_value, fit_there, plain_cell, shown_there, some_column, there_at, told_then}
use Rattle.heap_rows.proofs.row_values.RowValues.place_asked.Goals as goal

pub returns-in-Some-plain_value-clause-told : goal.returns-in-Some-plain_value-clause-told
returns-in-Some-plain_value-clause-told g c = λ names told list are starts inside all.
    let from = c.args.from.now in
    let columns = from.columns.now in
    let tuple = c.args.tuple.now in
    let attrs = c.args.attrs.now in
    let a = c.column-a.result in
    let k = c.args.k in
    let p = c.in-Some-plain_value.piece in
    let bytes = bytes_seen names (option_copied from.toast) from.chunks.now in
    let is : IsStart from.starts.now k c.in-Some.start = has_value c.start_at.result c.in-Some.start (IsStart from.starts.now k) c.in-Some.is c.start_at.ensures in
    let layout : IsLayout attrs.columns a c.in-Some.start =
    subst (λ (ts : List ColType). IsLayout ts a c.in-Some.start) (sym c.requires.types)
    (subst (λ (i : ℕ). IsLayout (map (λ (t : Column). t.ctype) columns) i c.in-Some.start) (sym c.column-a.ensures) (starts k c.in-Some.start is)) in
    let own : slice_get list a ≡ Some (shown_at (body_in tuple) (Plain p.start p.len)) =
    subst (λ (b : List ℕ). slice_get list a ≡ Some (shown_at b (Plain p.start p.len))) c.requires.body
    (has_value c.plain_value.result p (λ q. slice_get list a ≡ Some (shown_at attrs.body (Plain q.start q.len))) c.in-Some-plain_value.is (c.plain_value.ensures.read list layout are)) in
    let within : p.start + p.len ≤ length attrs.body = has_value c.plain_value.result p (λ q. q.start + q.len ≤ length attrs.body) c.in-Some-plain_value.is c.plain_value.ensures.within in
    let le : p.start + p.len ≤ tuple.len = omega (arith, within, c.requires.long) in
    let d : Column = some_column columns a c.if-from-a.false in
    shown_there bytes tuple.page.now _ columns list a (column_asked from.asked.now k) d (shown_at (body_in tuple) (Plain p.start p.len)) (Some (OnPage (tuple.start + p.start) p.len)) c.if-from-a.false own c.column-a.ensures
    (plain_cell bytes (get_or columns a d) tuple.page.now tuple.start tuple.len p.start p.len (Plain p.start p.len) refl le)

pub returns-in-Some-plain_value-clause-fits : goal.returns-in-Some-plain_value-clause-fits
returns-in-Some-plain_value-clause-fits g c =
    let from = c.args.from.now in
    let columns = from.columns.now in
    let tuple = c.args.tuple.now in
    let attrs = c.args.attrs.now in
    let a = c.column-a.result in
    let p = c.in-Some-plain_value.piece in
    let d : Column = some_column columns a c.if-from-a.false in
    let ctype = (get_or columns a d).ctype in
    let within : p.start + p.len ≤ length attrs.body = has_value c.plain_value.result p (λ q. q.start + q.len ≤ length attrs.body) c.in-Some-plain_value.is c.plain_value.ensures.within in
    let le : p.start + p.len ≤ tuple.len = omega (arith, within, c.requires.long) in
    let says = has_value c.plain_value.result p (λ q. (t : ColType) → slice_get attrs.columns a ≡ Some t → IsAttributeOf t attrs.body (shown_at attrs.body (Plain q.start q.len))) c.in-Some-plain_value.is c.plain_value.ensures.fits in
    let fits : HasLength ctype (length (take p.len (drop p.start attrs.body))) = attribute_fits columns attrs.columns attrs.body a d (shown_at attrs.body (Plain p.start p.len)) c.requires.types c.if-from-a.false says in
    let length_is : HasLength ctype p.len = subst (HasLength ctype) (piece_length tuple.len p.start p.len attrs.body c.requires.long le) fits in
    subst (λ (i : ℕ). FitsColumnAt (length c.args.self.now.joined.items) (slice_get columns i) (OnPage (tuple.start + p.start) p.len)) c.column-a.ensures
    (fits_is (length c.args.self.now.joined.items) columns a d (Some (OnPage (tuple.start + p.start) p.len)) (OnPage (tuple.start + p.start) p.len) c.if-from-a.false refl (omega (arith, le, c.requires.inside), length_is))

pub place_of-requires-clause-fits : goal.place_of-requires-clause-fits
place_of-requires-clause-fits g c =
    let columns = c.args.from.now.columns.now in
    let attrs = c.args.attrs.now in
    let a = c.column-a.result in
    let d = c.index-from-a.result in
    let says = attr_has c.attribute.result c.in-Some-attribute.attr (λ at. (ctype : ColType) → slice_get attrs.columns a ≡ Some ctype → IsAttributeOf ctype attrs.body (shown_at attrs.body at)) c.in-Some-attribute.is c.attribute.ensures.fits in
    subst (λ (b : List ℕ). FitsType (get_or columns a d).ctype (shown_at b c.in-Some-attribute.attr)) c.requires.body
    (attribute_fits columns attrs.columns attrs.body a d (shown_at attrs.body c.in-Some-attribute.attr) c.requires.types c.if-from-a.false says)

pub returns-clause-told : goal.returns-clause-told
returns-clause-told g c =
    let from = c.args.from.now in
    let columns = from.columns.now in
    let tuple = c.args.tuple.now in
    let attrs = c.args.attrs.now in
    let a = c.column-a.result in
    let d = c.index-from-a.result in
    let attr = c.in-Some-attribute.attr in
    let P = IsThere (option_copied from.toast) from.chunks.now in
    told_then c.place_of.result g.F.Files.seen c.args.files.now _ _ (λ found names says list are starts inside all.
    let seen = attr_is c.attribute.result attr (λ at. slice_get list a ≡ Some (shown_at attrs.body at)) c.in-Some-attribute.is (c.attribute.ensures.read list are) in
    let own = subst (λ (b : List ℕ). slice_get list a ≡ Some (shown_at b attr)) c.requires.body seen in
    let there = there_at P list a (shown_at (body_in tuple) attr) own all in
    shown_there (bytes_seen names (option_copied from.toast) from.chunks.now) tuple.page.now c.place_of.new.self.joined.items columns list a (column_asked from.asked.now c.args.k) d (shown_at (body_in tuple) attr) found c.if-from-a.false own c.column-a.ensures
    (says there)) c.place_of.ensures.told

pub returns-clause-fits : goal.returns-clause-fits
returns-clause-fits g c =
    fit_there (length c.place_of.new.self.joined.items) c.args.from.now.columns.now c.column-a.result (column_asked c.args.from.now.asked.now c.args.k) c.index-from-a.result c.place_of.result c.if-from-a.false c.column-a.ensures c.place_of.ensures.fits
