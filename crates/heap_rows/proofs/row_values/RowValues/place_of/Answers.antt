use Rattle.std.proofs.Common.{◌≡◌, ◌≤◌, ◌+◌, List, ℕ, drop, length, take, sym, ap, subst, ◌∙◌, arith}
use Rattle.std.specs.Prelude.{Option, Result, Ok, Err}
use Rattle.std.specs.Option.{IsSomeAnd, option_copied}
use Rattle.outside.specs.Outside.{Seen, Tells}
use Rattle.rel_files.specs.declared.relation.Relation.{Relation}
use Rattle.key_orders.specs.Types.{HasLength}
use Rattle.case_file.specs.declared.case.Column.{Column}
use Rattle.varlena_attrs.specs.Forms.{Attribute, External as external}
use Rattle.varlena_attrs.specs.Shown.{IsWithin, shown_at}
use Rattle.varlena_attrs.specs.declared.places.AttrPlace.{AttrPlace}
use Rattle.varlena_attrs.specs.declared.places.AttrPlace.TheVariants.{External}
use Rattle.varlena_attrs.specs.declared.places.ToastPointer.{ToastPointer}
use Rattle.varlena_attrs.specs.Forms.{pointer_at}
use Rattle.toast_chunks.specs.declared.map.Chunk.{Chunk}
use Rattle.heap_rows.specs.declared.row_values.ValuePlace.{ValuePlace}
use Rattle.heap_rows.specs.RowValues.{FitsType, IsThere, IsWholeIn, body_in, bytes_seen, cell_shown}
use Rattle.heap_rows.specs.Rows.{cell_of, external_cell}
use Rattle.heap_rows.proofs.RowBodies.{piece_length}
use Rattle.heap_rows.proofs.RowValues.{plain_cell}
use Rattle.heap_rows.proofs.row_values.RowValues.place_of.Goals as goal

pub returns-in-Plain-clause-told : goal.returns-in-Plain-clause-told
returns-in-Plain-clause-told g c = λ names told there.
    let tuple = c.args.tuple.now in
    let le : c.in-Plain.start + c.in-Plain.len ≤ tuple.len = subst (IsWithin tuple.len) c.in-Plain.is c.requires.within in
    plain_cell (bytes_seen names (option_copied c.args.from.now.toast) c.args.from.now.chunks.now) c.args.at.column.now tuple.page.now tuple.start tuple.len c.in-Plain.start c.in-Plain.len c.args.at.attr c.in-Plain.is le

pub returns-in-Plain-clause-fits : goal.returns-in-Plain-clause-fits
returns-in-Plain-clause-fits g c =
    let tuple = c.args.tuple.now in
    let ctype = c.args.at.column.now.ctype in
    let le : c.in-Plain.start + c.in-Plain.len ≤ tuple.len = subst (IsWithin tuple.len) c.in-Plain.is c.requires.within in
    let long : length (body_in tuple) ≡ tuple.len = ap length (sym c.body-body.ensures.bytes) ∙ c.body-body.ensures.long in
    let fits : HasLength ctype (length (take c.in-Plain.len (drop c.in-Plain.start (body_in tuple)))) = subst (λ (a : AttrPlace). FitsType ctype (shown_at (body_in tuple) a)) c.in-Plain.is c.requires.fits in
    (omega (arith, le, c.requires.inside), subst (HasLength ctype) (piece_length tuple.len c.in-Plain.start c.in-Plain.len (body_in tuple) long le) fits)

joined_told : {S E : Type 0} (result : Result (Option ValuePlace) E) (seen : S → Seen) (files : S) (toast : Option Relation) (chunks : List Chunk) (p : ToastPointer) (page joined : List ℕ) (column : Column) (body : List ℕ) (attr : AttrPlace) (s : ℕ)
    → attr ≡ External s → p ≡ pointer_at body s
    → Tells seen files result (λ found names. (page : List ℕ) (column : Column) → IsWholeIn toast chunks p → IsSomeAnd found (λ at. cell_shown page joined column at ≡ external_cell (bytes_seen names toast chunks p) p))
    → Tells seen files result (λ found names. IsThere toast chunks (shown_at body attr) → IsSomeAnd found (λ place. cell_shown page joined column place ≡ cell_of (bytes_seen names toast chunks) column (shown_at body attr)))
joined_told (Ok found) seen files toast chunks p page joined column body attr s is points says = λ names told there.
    let shown : external p ≡ shown_at body attr = ap external points ∙ sym (ap (shown_at body) is) in
    subst (λ (a : Attribute). IsSomeAnd found (λ place. cell_shown page joined column place ≡ cell_of (bytes_seen names toast chunks) column a)) shown
    (says names told page column (subst (IsThere toast chunks) (sym shown) there))
joined_told (Err e) seen files toast chunks p page joined column body attr s is points says = tt

pub returns-in-External-clause-told : goal.returns-in-External-clause-told
returns-in-External-clause-told g c =
    joined_told c.join.result g.F.Files.seen c.args.files.now (option_copied c.args.from.now.toast) c.args.from.now.chunks.now c.pointer_at.result c.args.tuple.now.page.now c.join.new.self.joined.items c.args.at.column.now
    (body_in c.args.tuple.now) c.args.at.attr c.in-External.start c.in-External.is (c.pointer_at.ensures ∙ ap (λ (b : List ℕ). pointer_at b c.in-External.start) c.body-body.ensures.bytes) c.join.ensures.told

pub pointer_at-requires : goal.pointer_at-requires
pointer_at-requires g c =
    let le : c.in-External.start + 16 ≤ c.args.tuple.now.len = subst (IsWithin c.args.tuple.now.len) c.in-External.is c.requires.within in
    omega (arith, le, c.body-body.ensures.long)
