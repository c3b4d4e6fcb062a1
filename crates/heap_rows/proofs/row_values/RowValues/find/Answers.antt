use Rattle.std.proofs.Common.{◌≡◌, ◌≤◌, ◌∷◌, [], ◌++◌, ◌+◌, List, ℕ, length, sym, ap, subst, ◌∙◌, arith}
use Rattle.std.proofs.lemmas.List.{length-append}
use Rattle.std.specs.Prelude.{slice_get}
use Rattle.std.specs.Option.{option_copied}
use Rattle.std.specs.Global.{Vec}
use Rattle.outside.proofs.Asking.{PassedAtMost-next}
use Rattle.varlena_attrs.specs.InTurn.{AreRead, TupleParts}
use Rattle.heap_rows.specs.declared.row_values.ValuePlace.{ValuePlace}
use Rattle.heap_rows.specs.Reads.{chunk_reads}
use Rattle.heap_rows.specs.RowValues.{AreCellsAsked, FitAsked, FitsColumnAt, bytes_seen, column_asked, shown_by}
use Rattle.heap_rows.specs.Rows.{cell_at}
use Rattle.heap_rows.proofs.RowValues.{found_is, has_value, next_asked, next_fit, none_missing}
use Rattle.heap_rows.proofs.row_values.RowValues.find.Goals as goal

pub returns-in-None-clause-told : goal.returns-in-None-clause-told
returns-in-None-clause-told g c = λ names told list are asks starts all.
    let read = subst (λ (t : TupleParts). AreRead t list) (sym c.loop-k.invariant.attrs) are in
    absurd (none_missing c.in_ok-place.field-0 _ c.in-None.is
    (c.in_ok-place.ensures.told names (c.loop-k.invariant.asked.same ∙ told) list read starts (asks c.loop-k.k (omega (arith, c.loop-k-test.true, c.loop-k.auto.k-end, c.count-k-end.ensures))) all))

pub loop-k-preserved : goal.loop-k-preserved
loop-k-preserved g c =
    let columns = c.args.from.now.columns.now in
    let asked = c.args.from.now.asked.now in
    let page = c.args.tuple.now.page.now in
    let k = c.loop-k.k in
    let old = c.loop-k.self.joined.items in
    let more = c.in_ok-place.ensures.grows.0 in
    let grown : c.place_asked.new.self.joined.items ≡ old ++ more = c.in_ok-place.ensures.grows.1 in
    let js : c.keep.new.self.joined.items ≡ old ++ more = ap (λ (v : Vec ℕ). v.items) c.in_ok-keep-in-Some.ensures.joined ∙ grown in
    let ps : c.keep.new.self.places.items ≡ c.loop-k.self.places.items ++ c.in-Some.place ∷ [] = c.in_ok-keep-in-Some.ensures.places ∙ ap (λ (xs : List ValuePlace). xs ++ c.in-Some.place ∷ []) c.in_ok-place.ensures.places in
    record {
      cells = λ names told list are starts all.
          let bytes = bytes_seen names (option_copied c.args.from.now.toast) c.args.from.now.chunks.now in
          let cells = cell_at bytes columns list in
          let read = subst (λ (t : TupleParts). AreRead t list) (sym c.loop-k.invariant.attrs) are in
          let inside = has_value c.in_ok-place.field-0 c.in-Some.place _ c.in-Some.is c.in_ok-place.ensures.number in
          let here = found_is c.in_ok-place.field-0 c.in-Some.place (λ at. shown_by page c.place_asked.new.self.joined.items (slice_get columns (column_asked asked k)) at ≡ cells (column_asked asked k)) c.in-Some.is
          (c.in_ok-place.ensures.told names (c.loop-k.invariant.asked.same ∙ told) list read starts inside all) in
          let is : shown_by page (old ++ more) (slice_get columns (column_asked asked k)) c.in-Some.place ≡ cells (column_asked asked k) =
          subst (λ (j : List ℕ). shown_by page j (slice_get columns (column_asked asked k)) c.in-Some.place ≡ cells (column_asked asked k)) grown here in
          subst (λ (j : List ℕ). AreCellsAsked page j columns asked c.keep.new.self.places.items cells (k + 1)) (sym js)
          (subst (λ (xs : List ValuePlace). AreCellsAsked page (old ++ more) columns asked xs cells (k + 1)) (sym ps)
          (next_asked page old more columns asked c.loop-k.self.places.items c.in-Some.place cells k c.loop-k.invariant.count c.loop-k.invariant.fits (c.loop-k.invariant.cells names told list are starts all) is));
      fits =
          let here = has_value c.in_ok-place.field-0 c.in-Some.place (λ at. FitsColumnAt (length c.place_asked.new.self.joined.items) (slice_get columns (column_asked asked k)) at) c.in-Some.is c.in_ok-place.ensures.fits in
          let is : FitsColumnAt (length (old ++ more)) (slice_get columns (column_asked asked k)) c.in-Some.place =
          subst (λ (j : List ℕ). FitsColumnAt (length j) (slice_get columns (column_asked asked k)) c.in-Some.place) grown here in
          let le : length old ≤ length (old ++ more) = omega (arith, length-append old more) in
          subst (λ (j : List ℕ). FitAsked (length j) columns asked c.keep.new.self.places.items (k + 1)) (sym js)
          (subst (λ (xs : List ValuePlace). FitAsked (length (old ++ more)) columns asked xs (k + 1)) (sym ps)
          (next_fit (length old) (length (old ++ more)) columns asked c.loop-k.self.places.items c.in-Some.place k c.loop-k.invariant.count le c.loop-k.invariant.fits is));
      count = ap length ps ∙ length-append c.loop-k.self.places.items (c.in-Some.place ∷ []) ∙ ap (λ (n : ℕ). n + 1) c.loop-k.invariant.count;
      attrs = c.in_ok-place.ensures.attrs ∙ c.loop-k.invariant.attrs;
      asked = PassedAtMost-next (chunk_reads (option_copied c.args.from.now.toast)) c.loop-k.k c.loop-k.invariant.asked c.in_ok-place.ensures.asked;
    }

pub place_asked-requires-clause-body : goal.place_asked-requires-clause-body
place_asked-requires-clause-body g c = ap (λ (t : TupleParts). t.body) c.loop-k.invariant.attrs ∙ c.requires.body

pub place_asked-requires-clause-long : goal.place_asked-requires-clause-long
place_asked-requires-clause-long g c = ap (λ (t : TupleParts). length t.body) c.loop-k.invariant.attrs ∙ c.requires.long

pub place_asked-requires-clause-types : goal.place_asked-requires-clause-types
place_asked-requires-clause-types g c = ap (λ (t : TupleParts). t.columns) c.loop-k.invariant.attrs ∙ c.requires.types
