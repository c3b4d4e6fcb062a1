-- What a row adds to what was gathered.
use Rattle.std.proofs.Common.{◌≡◌, ◌≢◌, ◌∙◌, ◌+◌, ◌≤◌, ℕ, suc, true, false, List, [], ◌∷◌, ◌++◌, get_or, length, map, refl, sym, ap, subst, arith, inl, inr, append-nil, append_assoc, length-append}
use Rattle.std.specs.Prelude.{OnOk, Option, Result, Some, None, Ok, Err, not, ◌==◌, ◌⊎◌}
use Rattle.std.proofs.lemmas.Bool.{and_from, and_parts, eqb-false, false_from_ne_true, not_from_false, not-true, false≢true}
use Rattle.std.proofs.lemmas.List.{map-append, nil_from_length}
use Rattle.outside.specs.Outside.{Names}
use Rattle.key_orders.specs.declared.Tid.{Tid}
use Rattle.key_orders.specs.declared.columns.Value.{Value}
use Rattle.key_attrs.specs.Columns.{tree_columns}
use Rattle.case_file.specs.Record.{CaseRecord}
use Rattle.bt_image.specs.Image.{LeafEntry}
use Rattle.reports.specs.Added.{doubt_at, joined, nothing, report_lists}
use Rattle.reports.specs.Lists.{Lists}
use Rattle.reports.specs.declared.places.Place.TheVariants.{Tuple}
use Rattle.reports.specs.declared.places.Reason.TheVariants.{U6}
use Rattle.bt_levels.specs.Index.{case_columns}
use Rattle.heap_rows.specs.declared.row_cursor.RowCursor.{RowCursor}
use Rattle.heap_rows.specs.declared.row_cursor.RowPlace.{RowPlace}
use Rattle.heap_rows.specs.declared.rows.LiveRow.{LiveRow}
use Rattle.heap_rows.specs.RowCursor.{IsPlaceOfFirst, IsSameCursor}
use Rattle.heap_rows.specs.Rows.{rows_of}
use Rattle.join_rules.specs.Lists.{row_lists, row_lists_by}
use Rattle.join_rules.specs.Rows.{key_of, more_of}
use Rattle.join_row_keys.specs.Rows.{AreAskedFrom, columns_in}
use Rattle.join_row_entries.specs.declared.gather.Gathered.{Gathered}
use Rattle.join_row_entries.specs.declared.index.IndexReader.{IndexReader}
use Rattle.join_row_entries.specs.Entries.{AreDoubted, AreListed, doubts_in, doubts_of, entry_by, entry_of}
use Rattle.join_row_entries.specs.Gathering.{AreFree, AreLeft, IsEmpty, IsListOf}
use Rattle.join_row_entries.specs.Reading.{IsAskedFor}
use Rattle.join_row_entries.specs.Roots.{IsOnlyTaken, Taken, is_item, is_taken, may_take}
use Rattle.join_row_entries.proofs.RootLaws.{not-taken}

-- Roots

pub free-first : (taken : Taken) (row : LiveRow) (rows : List LiveRow) → AreFree taken (row ∷ rows) → may_take taken row.root ≡ true
free-first taken row rows free = free.each 0 row (omega arith)

pub free-rest : (taken : Taken) (row : LiveRow) (rows : List LiveRow) → AreFree taken (row ∷ rows) → AreFree taken rows
free-rest taken row rows free = record {
  each = λ i d lt. free.each (suc i) d (omega (arith, lt));
  after = λ i j d lt within. free.after (suc i) (suc j) d (omega (arith, lt)) (omega (arith, within));
}

-- a root stays free where another is taken, before it
still-free : (old new : Taken) (root later : Tid) → IsOnlyTaken root old new → root.block ≤ later.block → later ≢ root → may_take old later ≡ true → may_take new later ≡ true
still-free old new root later only le other may =
    let item = (and_parts (is_item later) (not (is_taken old later)) may).0 in
    let was = not-taken old later may in
    let is : is_taken new later ≡ false = false_from_ne_true (is_taken new later) (λ taken. no (only later le taken)) in
    and_from (is_item later) (not (is_taken new later)) item (not_from_false (is_taken new later) is)
  where
    no : (is_taken old later ≡ true) ⊎ (later ≡ root) → ⊥
    no (inl taken) = false≢true (sym (not-taken old later may) ∙ taken)
    no (inr same) = other same

pub free-next : (old new : Taken) (row : LiveRow) (rows : List LiveRow) → IsOnlyTaken row.root old new → AreFree old (row ∷ rows) → AreFree new rows
free-next old new row rows only free = record {
  each = λ i d lt.
      let after = free.after 0 (suc i) d (omega arith) (omega (arith, lt)) in
      still-free old new row.root (get_or rows i d).root only after.block after.other (free.each (suc i) d (omega (arith, lt)));
  after = (free-rest old row rows free).after;
}

-- A row

module _ (case : CaseRecord) (n : ℕ) where
  abbrev lists_of : LiveRow → Lists
  lists_of = row_lists n (case_columns case n) (λ key more tid. true)

  packed-by : (row : LiveRow) (key more : Option (List Value)) → entry_by key more row.root ≡ None → row_lists_by n (λ key more tid. true) row key more ≡ doubt_at (Tuple n row.tid) (Some U6)
  packed-by row (Some key) (Some more) is = absurd cc
  packed-by row (Some key) None is = refl
  packed-by row None more is = refl

  whole-by : (row : LiveRow) (key more : Option (List Value)) (e : LeafEntry) → entry_by key more row.root ≡ Some e → row_lists_by n (λ key more tid. true) row key more ≡ nothing
  whole-by row (Some key) (Some more) e is = refl
  whole-by row (Some key) None e is = absurd cc
  whole-by row None more e is = absurd cc

  pub packed : (row : LiveRow) → entry_of case n row ≡ None → lists_of row ≡ doubt_at (Tuple n row.tid) (Some U6)
  unfolding row_lists
  packed row is = packed-by row (key_of case n row) (more_of case n row) is

  pub whole : (row : LiveRow) (e : LeafEntry) → entry_of case n row ≡ Some e → lists_of row ≡ nothing
  unfolding row_lists
  whole row e is = whole-by row (key_of case n row) (more_of case n row) e is

  -- a row in doubt
  pub left-doubt : (all rows : List LiveRow) (row : LiveRow) (old new : Gathered) → entry_of case n row ≡ None
      → new.report ≡ record { findings = old.report.findings; unjudged = old.report.unjudged ++ record { reason = U6; place = Tuple n row.tid } ∷ [] }
      → new.roots ≡ old.roots → AreLeft case n all (row ∷ rows) old → AreLeft case n all rows new
  left-doubt all rows row old new is report roots left =
      let added : new.report ≡ joined old.report (lists_of row) =
      report ∙ (λ i. record { findings = sym (append-nil old.report.findings) i; unjudged = old.report.unjudged ++ record { reason = U6; place = Tuple n row.tid } ∷ [] })
      ∙ ap (joined old.report) (sym (packed row is)) in
      let more : length new.report.unjudged ≡ length old.report.unjudged + 1 = ap (λ (l : Lists). length l.unjudged) report ∙ length-append old.report.unjudged (record { reason = U6; place = Tuple n row.tid } ∷ []) in
      record {
        doubts =
            ap (λ (l : Lists). joined l (doubts_in case n rows)) added
            ∙ report_lists.in_turn old.report (lists_of row) (doubts_in case n rows)
            ∙ left.doubts;
        entries = λ none. absurd (omega (arith, none, more));
        free = subst (λ (taken : Taken). AreFree taken rows) (sym roots) (free-rest old.roots row rows left.free);
      }

  -- one without, behind one in doubt
  pub left-unlisted : (all rows : List LiveRow) (row : LiveRow) (e : LeafEntry) (old : Gathered) → entry_of case n row ≡ Some e → (length old.report.unjudged ≡ 0 → ⊥)
      → AreLeft case n all (row ∷ rows) old → AreLeft case n all rows old
  left-unlisted all rows row e old is some left = record {
    doubts = ap (λ (l : Lists). joined old.report (joined l (doubts_in case n rows))) (sym (whole row e is)) ∙ left.doubts;
    entries = λ none. absurd (some none);
    free = free-rest old.roots row rows left.free;
  }

  -- one whose entry is added
  pub left-listed : (all rows : List LiveRow) (row : LiveRow) (e : LeafEntry) (old new : Gathered) → entry_of case n row ≡ Some e → new.report ≡ old.report
      → new.list.entries ≡ old.list.entries ++ e ∷ [] → IsOnlyTaken row.root old.roots new.roots → AreLeft case n all (row ∷ rows) old → AreLeft case n all rows new
  left-listed all rows row e old new is same entries only left = record {
    doubts =
        ap (λ (l : Lists). joined l (doubts_in case n rows)) same
        ∙ ap (λ (l : Lists). joined old.report (joined l (doubts_in case n rows))) (sym (whole row e is)) ∙ left.doubts;
    entries = λ none.
        ap (λ (es : List LeafEntry). map Some es ++ map (entry_of case n) rows) entries
        ∙ ap (λ (os : List (Option LeafEntry)). os ++ map (entry_of case n) rows) (map-append Some old.list.entries (e ∷ []))
        ∙ append_assoc (map Some old.list.entries) (Some e ∷ []) (map (entry_of case n) rows)
        ∙ ap (λ (o : Option LeafEntry). map Some old.list.entries ++ o ∷ map (entry_of case n) rows) (sym is)
        ∙ left.entries (ap (λ (l : Lists). length l.unjudged) (sym same) ∙ none);
    free = free-next old.roots new.roots row rows only left.free;
  }

  -- before the first row, and behind the last one
  pub left-all : (all : List LiveRow) (g : Gathered) → IsEmpty g → AreFree g.roots all → AreLeft case n all all g
  left-all all g empty free = record {
    doubts = λ i. record { findings = empty.findings i ++ (doubts_in case n all).findings; unjudged = empty.unjudged i ++ (doubts_in case n all).unjudged };
    entries = λ none. ap (λ (es : List LeafEntry). map Some es ++ map (entry_of case n) all) empty.entries;
    free = free;
  }

  pub left-doubts : (all : List LiveRow) (g : Gathered) → AreLeft case n all [] g → g.report ≡ doubts_in case n all
  left-doubts all g left = sym (report_lists.with_none g.report) ∙ left.doubts

  pub left-entries : (all : List LiveRow) (g : Gathered) → IsListOf case n g → length g.report.unjudged ≡ 0 → AreLeft case n all [] g → AreListed case n all g.list
  left-entries all g list none left = record {
    specs = list.specs;
    more = list.more;
    entries = sym (append-nil (map Some g.list.entries)) ∙ left.entries none;
  }

  pub are-doubted : (names : Names) (g : Gathered) → not (length g.report.unjudged == 0) ≡ true → AreLeft case n (rows_of case names) [] g → AreDoubted case names n g.report
  unfolding doubts_of
  are-doubted names g some left = record {
    doubts = left-doubts (rows_of case names) g left;
    some = let more = eqb-false (length g.report.unjudged) 0 (not-true (length g.report.unjudged == 0) some) in omega (arith, more);
  }

-- The row at whose place a cursor is

pub row-there : (place : RowPlace) (rows : List LiveRow) → IsPlaceOfFirst (Some place) rows → (row : LiveRow) × (rest : List LiveRow) × (rows ≡ row ∷ rest) × (place.tid ≡ row.tid) × (place.root ≡ row.root)
row-there place [] first = absurd first
row-there place (row ∷ rest) first = (row, rest, refl, first.0, first.1)

pub none-there : {X : Type 0} (xs : List X) → length xs ≤ 0 → xs ≡ []
none-there xs le = nil_from_length xs (omega arith)

-- a cursor of the same heap that is asked for the same columns
pub same-asked : (reader : IndexReader) (old new : RowCursor) → IsSameCursor old new → IsAskedFor reader old → IsAskedFor reader new
same-asked reader old new same at = record {
  case = same.case ∙ at.case;
  asked = subst (AreAskedFrom 0 (columns_in (tree_columns reader.rows.columns))) (sym same.asked) at.asked;
}

-- what follows of three facts after a call that was done
pub of-three : {T E : Type 0} (r : Result T E) {A B D P : Type 0} → OnOk r A → OnOk r B → OnOk r D → (A → B → D → P) → OnOk r P
of-three (Ok t) a b d then = then a b d
of-three (Err e) a b d then = tt

pub of-one : {T E : Type 0} (r : Result T E) {A P : Type 0} → OnOk r A → (A → P) → OnOk r P
of-one (Ok t) a then = then a
of-one (Err e) a then = tt
