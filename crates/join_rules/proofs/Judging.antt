-- What the lists say, row by row and entry by entry.
use Rattle.std.proofs.Common.{◌≡◌, ◌∙◌, ◌<◌, ◌≤◌, ◌-◌, ℕ, inl, inr, Bool, true, false, List, [], ◌∷◌, refl, ap, sym, subst, arith}
use Rattle.std.specs.Prelude.{All, Contains, Option, Some, None, if◌then◌else◌, length, nat_lt, slice_get}
use Rattle.std.proofs.lemmas.Bool.{both_ways, cases_Bool, cond-false, cond-true, le-ltb, ltb-false}
use Rattle.std.proofs.lemmas.Option.{slice_get_read}
use Rattle.std.proofs.lemmas.List.Elements.{All-append, All-cons, All-head, All-nil, Contains-append_left, Contains-append_right}
use Rattle.outside.specs.Outside.{Names}
use Rattle.page_layout.specs.Page.{count_of}
use Rattle.page_layout.specs.declared.rules.Rule.{Rule}
use Rattle.page_layout.specs.declared.rules.Rule.TheVariants.{X1, X2, X3}
use Rattle.laws_search.specs.Keys.{Entry as Given}
use Rattle.key_attrs.specs.Columns.{TreeColumns}
use Rattle.key_orders.specs.declared.columns.Value.{Value}
use Rattle.key_orders.specs.declared.Tid.{Tid}
use Rattle.case_file.specs.Record.{CaseRecord}
use Rattle.bt_image.specs.Image.{LeafEntry, first_data, has_high_key, item_at, keys_in}
use Rattle.bt_image.specs.Pages.{IsDataItem}
use Rattle.bt_steps.specs.Pages.{is_live_leaf}
use Rattle.reports.specs.Added.{each_upto, nothing, report_lists}
use Rattle.reports.specs.Lists.{Lists}
use Rattle.reports.specs.declared.places.Finding.{Finding}
use Rattle.reports.specs.declared.places.UnjudgedPlace.{UnjudgedPlace}
use Rattle.reports.specs.declared.places.Place.{Place}
use Rattle.reports.specs.declared.places.Place.TheVariants.{Entry, Tuple}
use Rattle.reports.specs.declared.places.Reason.{Reason}
use Rattle.reports.specs.declared.places.Reason.TheVariants.{U6}
use Rattle.reports.proofs.Parts.{All-below, All-upto, among_below, among_upto}
use Rattle.bt_pages.specs.Broken.{AreEmpty, IsDoubtedAt, doubted, IsFoundAt, found}
use Rattle.bt_pages.proofs.BlockLaws.{All-finding_at, among_finding, no_doubts}
use Rattle.bt_levels.specs.Index.{case_columns, tree_of}
use Rattle.heap_rows.specs.Rows.{rows_of}
use Rattle.heap_rows.specs.declared.rows.LiveRow.{LiveRow}
use Rattle.join_rules.specs.Entries.{has_alive, may_be_named, tree_entries}
use Rattle.join_rules.specs.Lists.{duplicates_lists, entries_lists, indexed_lists, item_lists, items_lists, joined_lists, leaf_lists, leaves_lists, missing_rule, nth_lists, or_else, row_lists, row_lists_by, rows_lists, stray_rule, tids_at, tids_lists}
use Rattle.join_rules.specs.Rows.{key_of, more_of}
use Rattle.join_rules.specs.Broken.{AreJoined, Breaks, Doubts, HasEntry, IsAt, IsIndexed, IsJudged, duplicate, no_entry, packed_key, packed_more, stray}
use Rattle.join_rules.specs.Unique.{AreUnique}
use Rattle.bt_steps.proofs.Members.{first-in, from-map, in-map, in-place, none-in}
use Rattle.join_rules.proofs.Each.{All-each, among-each}
use Rattle.join_rules.proofs.Alive.{counts, is-there}
use Rattle.join_rules.proofs.Duplicates.{duplicate-listed, duplicates-certain, duplicates-sound, none-some, nothing-in, or-certain, or-doubted, or-empty, or-found, or-sound, some-same}

abbrev findings-of : Lists → List Finding
findings-of l = l.findings

abbrev unjudged-of : Lists → List UnjudgedPlace
unjudged-of l = l.unjudged

missing-is : (b : Bool) (rule : Rule) → missing_rule b ≡ Some rule → (b ≡ false) × (rule ≡ X1)
missing-is true rule e = absurd cc
missing-is false rule e = let is : X1 ≡ rule = cc in (refl, sym is)

stray-is : (b : Bool) (rule : Rule) → stray_rule b ≡ Some rule → (b ≡ false) × (rule ≡ X2)
stray-is true rule e = absurd cc
stray-is false rule e = let is : X2 ≡ rule = cc in (refl, sym is)

-- the number of a data item is 1 or more
first-item : (page : List ℕ) (i : ℕ) → IsDataItem page i → 1 ≤ i
first-item page i item = go (has_high_key page) refl
  where
    go : (b : Bool) → has_high_key page ≡ b → 1 ≤ i
    go true is = let from = item.from in let two = cond-true {A = ℕ} (has_high_key page) 2 1 is in omega (arith, from, two)
    go false is = let from = item.from in let one = cond-false {A = ℕ} (has_high_key page) 2 1 is in omega (arith, from, one)

-- ROWS

module _ (case : CaseRecord) (names : Names) (n : ℕ) where
  abbrev columns : TreeColumns
  columns = case_columns case n

  abbrev entries : List LeafEntry
  entries = tree_entries (tree_of case names n)

  abbrev has : (key more : List Value) → Tid → Bool
  has = has_alive entries

  abbrev IsBroken : Finding → Type 0
  IsBroken f = Breaks case names n f.rule f.place

  abbrev IsDoubtful : UnjudgedPlace → Type 0
  IsDoubtful u = Doubts case names n u.reason u.place

  abbrev may : Tid → Bool
  may = may_be_named case names

  abbrev block : ℕ → List ℕ
  block = (tree_of case names n).block

  abbrev blocks : ℕ
  blocks = (tree_of case names n).blocks

  -- what holds of each row that has no entry, and of each entry that names what it may not, holds of all that is found
  module _ (P : Finding → Type 0) (missing : (row : LiveRow) (key more : List Value) → Contains (rows_of case names) row → key_of case n row ≡ Some key → more_of case n row ≡ Some more → has key more row.root ≡ false → P (record { rule = X1; place = Tuple n row.tid })) (astray : (b i : ℕ) (e : Given Value Tid) → IsAt case names n b i e → may e.tid ≡ false → P (record { rule = X2; place = Entry n b i e.tid })) where
    broken-row : (row : LiveRow) → Contains (rows_of case names) row → (k m : Option (List Value)) → key_of case n row ≡ k → more_of case n row ≡ m → All P (row_lists_by n has row k m).findings
    broken-row row among (Some key) (Some more) is beside =
        All-finding_at P (Tuple n row.tid) (missing_rule (has key more row.root)) (λ rule e.
        let what = missing-is (has key more row.root) rule e in
        subst (λ (r : Rule). P (record { rule = r; place = Tuple n row.tid })) (sym what.1) (missing row key more among is beside what.0))
    broken-row row among (Some key) None is beside = All-nil P
    broken-row row among None m is beside = All-nil P

    broken-rows : All P (rows_lists case names n).findings
    unfolding rows_lists row_lists
    broken-rows = All-each report_lists findings-of refl (λ a b. refl) (row_lists n columns has) P (rows_of case names) (λ row among. broken-row row among (key_of case n row) (more_of case n row) refl refl)

    broken-tid : (b i k : ℕ) → 1 ≤ b → b < blocks → is_live_leaf (block b) ≡ true → IsDataItem (block b) i → (o : Option Tid) → slice_get (tids_at columns (block b) i) k ≡ o → All P (nth_lists n may b i o).findings
    broken-tid b i k some inside leaf item None is = All-nil P
    broken-tid b i k some inside leaf item (Some t) is =
        let from = from-map (λ (e : Given Value Tid). e.tid) (keys_in (item_at columns.specs columns.more (block b) i)) t (in-place (tids_at columns (block b) i) k t is) in
        All-finding_at P (Entry n b i t) (stray_rule (may t)) (λ rule e.
        let what = stray-is (may t) rule e in
        subst (λ (r : Rule). P (record { rule = r; place = Entry n b i t })) (sym what.1)
        (subst (λ (u : Tid). P (record { rule = X2; place = Entry n b i u })) from.2
        (astray b i from.0 (record { not_meta = some; inside = inside; leaf = leaf; item = item; entry = from.1 }) (ap may from.2 ∙ what.0))))

    broken-item : (b i : ℕ) → 1 ≤ b → b < blocks → is_live_leaf (block b) ≡ true → i ≤ count_of (block b) → All P (item_lists n columns may b (block b) i).findings
    unfolding item_lists
    broken-item b i some inside leaf to = by (nat_lt i (first_data (block b))) refl
      where
        by : (high : Bool) → nat_lt i (first_data (block b)) ≡ high → All P (if high then nothing else tids_lists n may b i (tids_at columns (block b) i)).findings
        by true is = All-nil P
        by false is =
            let item : IsDataItem (block b) i = record { from = ltb-false i (first_data (block b)) is; to = to } in
            All-below report_lists findings-of refl (λ a c. refl) P (λ k. nth_lists n may b i (slice_get (tids_at columns (block b) i) k)) (length (tids_at columns (block b) i))
            (λ k lt. broken-tid b i k some inside leaf item (slice_get (tids_at columns (block b) i) k) refl)

    broken-leaf : (b : ℕ) → 1 ≤ b → b < blocks → All P (leaf_lists n columns may b (block b)).findings
    unfolding leaf_lists items_lists
    broken-leaf b some inside = by (is_live_leaf (block b)) refl
      where
        by : (l : Bool) → is_live_leaf (block b) ≡ l → All P (if l then each_upto report_lists (item_lists n columns may b (block b)) (count_of (block b)) else nothing).findings
        by true leaf = All-upto report_lists findings-of refl (λ a c. refl) P (item_lists n columns may b (block b)) (count_of (block b)) (λ i first to. broken-item b i some inside leaf to)
        by false leaf = All-nil P

    broken-leaves : All P (entries_lists case names n).findings
    unfolding entries_lists leaves_lists
    broken-leaves = All-upto report_lists findings-of refl (λ a c. refl) P (λ b. leaf_lists n columns may b (block b)) (blocks - 1) (λ b some le. broken-leaf b some (omega (arith, some, le)))

  -- and the same of doubts
  module _ (Q : UnjudgedPlace → Type 0) (key_packed : (row : LiveRow) → Contains (rows_of case names) row → key_of case n row ≡ None → Q (record { reason = U6; place = Tuple n row.tid })) (more_packed : (row : LiveRow) → Contains (rows_of case names) row → more_of case n row ≡ None → Q (record { reason = U6; place = Tuple n row.tid })) where
    doubtful-row : (row : LiveRow) → Contains (rows_of case names) row → (k m : Option (List Value)) → key_of case n row ≡ k → more_of case n row ≡ m → All Q (row_lists_by n has row k m).unjudged
    doubtful-row row among (Some key) (Some more) is beside = subst (All Q) (sym (no_doubts (Tuple n row.tid) (missing_rule (has key more row.root)))) (All-nil Q)
    doubtful-row row among (Some key) None is beside = All-cons Q (record { reason = U6; place = Tuple n row.tid }) [] (more_packed row among beside) (All-nil Q)
    doubtful-row row among None m is beside = All-cons Q (record { reason = U6; place = Tuple n row.tid }) [] (key_packed row among is) (All-nil Q)

    doubtful-rows : All Q (rows_lists case names n).unjudged
    unfolding rows_lists row_lists
    doubtful-rows = All-each report_lists unjudged-of refl (λ a b. refl) (row_lists n columns has) Q (rows_of case names) (λ row among. doubtful-row row among (key_of case n row) (more_of case n row) refl refl)

  -- ROWS

  row-found : (row : LiveRow) (f : Finding) → Contains (rows_of case names) row → Contains (row_lists n columns has row).findings f → Contains (rows_lists case names n).findings f
  unfolding rows_lists
  row-found row f among h = among-each report_lists findings-of refl (λ a b. refl) (row_lists n columns has) (rows_of case names) row f among h

  row-doubted : (row : LiveRow) (u : UnjudgedPlace) → Contains (rows_of case names) row → Contains (row_lists n columns has row).unjudged u → Contains (rows_lists case names n).unjudged u
  unfolding rows_lists
  row-doubted row u among h = among-each report_lists unjudged-of refl (λ a b. refl) (row_lists n columns has) (rows_of case names) row u among h

  -- a row without its entry
  missing-listed : (row : LiveRow) (key more : List Value) → Contains (rows_of case names) row → key_of case n row ≡ Some key → more_of case n row ≡ Some more → has key more row.root ≡ false → Contains (rows_lists case names n).findings (record { rule = X1; place = Tuple n row.tid })
  unfolding row_lists
  missing-listed row key more among is beside none =
      let f : Finding = record { rule = X1; place = Tuple n row.tid } in
      let told : Contains (row_lists_by n has row (Some key) (Some more)).findings f =
      among_finding (Tuple n row.tid) (missing_rule (has key more row.root)) X1 (ap missing_rule none) in
      row-found row f among
      (subst (λ (o : Option (List Value)). Contains (row_lists_by n has row o (more_of case n row)).findings f) (sym is)
      (subst (λ (o : Option (List Value)). Contains (row_lists_by n has row (Some key) o).findings f) (sym beside) told))

  packed-listed : (row : LiveRow) → Contains (rows_of case names) row → key_of case n row ≡ None → Contains (rows_lists case names n).unjudged (record { reason = U6; place = Tuple n row.tid })
  unfolding row_lists
  packed-listed row among is =
      let u : UnjudgedPlace = record { reason = U6; place = Tuple n row.tid } in
      row-doubted row u among
      (subst (λ (o : Option (List Value)). Contains (row_lists_by n has row o (more_of case n row)).unjudged u) (sym is) (first-in u []))

  packed-beside : (row : LiveRow) → Contains (rows_of case names) row → more_of case n row ≡ None → Contains (rows_lists case names n).unjudged (record { reason = U6; place = Tuple n row.tid })
  unfolding row_lists
  packed-beside row among beside = by (key_of case n row) refl
    where
      u : UnjudgedPlace
      u = record { reason = U6; place = Tuple n row.tid }

      by : (k : Option (List Value)) → key_of case n row ≡ k → Contains (rows_lists case names n).unjudged u
      by None is = packed-listed row among is
      by (Some key) is =
          row-doubted row u among
          (subst (λ (o : Option (List Value)). Contains (row_lists_by n has row o (more_of case n row)).unjudged u) (sym is)
          (subst (λ (o : Option (List Value)). Contains (row_lists_by n has row (Some key) o).unjudged u) (sym beside) (first-in u [])))

  -- ENTRIES

  -- entries leave no doubt
  abbrev Never : UnjudgedPlace → Type 0
  Never u = ⊥

  certain-tid : (b i : ℕ) → (o : Option Tid) → All Never (nth_lists n may b i o).unjudged
  certain-tid b i None = All-nil Never
  certain-tid b i (Some t) = subst (All Never) (sym (no_doubts (Entry n b i t) (stray_rule (may t)))) (All-nil Never)

  certain-item : (b i : ℕ) (page : List ℕ) → All Never (item_lists n columns may b page i).unjudged
  unfolding item_lists
  certain-item b i page = by (nat_lt i (first_data page))
    where
      by : (high : Bool) → All Never (if high then nothing else tids_lists n may b i (tids_at columns page i)).unjudged
      by true = All-nil Never
      by false = All-below report_lists unjudged-of refl (λ a c. refl) Never (λ k. nth_lists n may b i (slice_get (tids_at columns page i) k)) (length (tids_at columns page i)) (λ k lt. certain-tid b i (slice_get (tids_at columns page i) k))

  certain-leaf : (b : ℕ) (page : List ℕ) → All Never (leaf_lists n columns may b page).unjudged
  unfolding leaf_lists items_lists
  certain-leaf b page = by (is_live_leaf page)
    where
      by : (l : Bool) → All Never (if l then each_upto report_lists (item_lists n columns may b page) (count_of page) else nothing).unjudged
      by true = All-upto report_lists unjudged-of refl (λ a c. refl) Never (item_lists n columns may b page) (count_of page) (λ i first to. certain-item b i page)
      by false = All-nil Never

  certain-leaves : All Never (entries_lists case names n).unjudged
  unfolding entries_lists leaves_lists
  certain-leaves = All-upto report_lists unjudged-of refl (λ a c. refl) Never (λ b. leaf_lists n columns may b (block b)) (blocks - 1) (λ b some le. certain-leaf b (block b))

  -- an entry that names what it may not
  stray-item : (b i : ℕ) (e : Given Value Tid) → IsAt case names n b i e → may e.tid ≡ false → Contains (item_lists n columns may b (block b) i).findings (record { rule = X2; place = Entry n b i e.tid })
  unfolding item_lists
  stray-item b i e at none =
      let f : Finding = record { rule = X2; place = Entry n b i e.tid } in
      let tids = tids_at columns (block b) i in
      let there = in-map (λ (d : Given Value Tid). d.tid) (keys_in (item_at columns.specs columns.more (block b) i)) e at.entry in
      let lt = there.1 in
      let is : slice_get tids there.0 ≡ Some e.tid = slice_get_read tids (length tids) there.0 e.tid refl lt (sym there.2) in
      let of-entry : Contains (nth_lists n may b i (slice_get tids there.0)).findings f =
      subst (λ (o : Option Tid). Contains (nth_lists n may b i o).findings f) (sym is)
      (among_finding (Entry n b i e.tid) (stray_rule (may e.tid)) X2 (ap stray_rule none)) in
      subst (λ (high : Bool). Contains (if high then nothing else tids_lists n may b i tids).findings f) (sym (le-ltb i (first_data (block b)) at.item.from))
      (among_below report_lists findings-of refl (λ a c. refl) (λ k. nth_lists n may b i (slice_get tids k)) (length tids) there.0 f lt of-entry)

  stray-listed : (b i : ℕ) (e : Given Value Tid) → IsAt case names n b i e → may e.tid ≡ false → Contains (entries_lists case names n).findings (record { rule = X2; place = Entry n b i e.tid })
  unfolding entries_lists leaves_lists leaf_lists items_lists
  stray-listed b i e at none =
      let f : Finding = record { rule = X2; place = Entry n b i e.tid } in
      let page = block b in
      let first = first-item page i at.item in
      let some = at.not_meta in
      let inside = at.inside in
      let of-items : Contains (each_upto report_lists (item_lists n columns may b page) (count_of page)).findings f =
      among_upto report_lists findings-of refl (λ a c. refl) (item_lists n columns may b page) (count_of page) i f first at.item.to (stray-item b i e at none) in
      let of-leaf : Contains (if is_live_leaf page then each_upto report_lists (item_lists n columns may b page) (count_of page) else nothing).findings f =
      subst (λ (l : Bool). Contains (if l then each_upto report_lists (item_lists n columns may b page) (count_of page) else nothing).findings f) (sym at.leaf) of-items in
      among_upto report_lists findings-of refl (λ a c. refl) (λ k. leaf_lists n columns may k (block k)) (blocks - 1) b f some (omega (arith, some, inside)) of-leaf

  -- BOTH

  no-doubts : (us : List UnjudgedPlace) → All Never us → us ≡ []
  no-doubts [] all = refl
  no-doubts (u ∷ us) all = absurd (All-head Never u us all)

  row-first : (f : Finding) → Contains (rows_lists case names n).findings f → Contains (joined_lists case names n).findings f
  unfolding joined_lists
  row-first f h = Contains-append_left (rows_lists case names n).findings (entries_lists case names n).findings f h

  entry-second : (f : Finding) → Contains (entries_lists case names n).findings f → Contains (joined_lists case names n).findings f
  unfolding joined_lists
  entry-second f h = Contains-append_right (rows_lists case names n).findings (entries_lists case names n).findings f h

  doubt-first : (u : UnjudgedPlace) → Contains (rows_lists case names n).unjudged u → Contains (joined_lists case names n).unjudged u
  unfolding joined_lists
  doubt-first u h = Contains-append_left (rows_lists case names n).unjudged (entries_lists case names n).unjudged u h

  module _ (P : Finding → Type 0) (missing : (row : LiveRow) (key more : List Value) → Contains (rows_of case names) row → key_of case n row ≡ Some key → more_of case n row ≡ Some more → has key more row.root ≡ false → P (record { rule = X1; place = Tuple n row.tid })) (astray : (b i : ℕ) (e : Given Value Tid) → IsAt case names n b i e → may e.tid ≡ false → P (record { rule = X2; place = Entry n b i e.tid })) where
    all-found : All P (joined_lists case names n).findings
    unfolding joined_lists
    all-found = All-append P (rows_lists case names n).findings (entries_lists case names n).findings (broken-rows P missing astray) (broken-leaves P missing astray)

  module _ (Q : UnjudgedPlace → Type 0) (key_packed : (row : LiveRow) → Contains (rows_of case names) row → key_of case n row ≡ None → Q (record { reason = U6; place = Tuple n row.tid })) (more_packed : (row : LiveRow) → Contains (rows_of case names) row → more_of case n row ≡ None → Q (record { reason = U6; place = Tuple n row.tid })) where
    all-left : All Q (joined_lists case names n).unjudged
    unfolding joined_lists
    all-left =
        All-append Q (rows_lists case names n).unjudged (entries_lists case names n).unjudged (doubtful-rows Q key_packed more_packed)
        (subst (All Q) (sym (no-doubts (entries_lists case names n).unjudged certain-leaves)) (All-nil Q))

  all-broken : All IsBroken (joined_lists case names n).findings
  all-broken =
      all-found IsBroken
      (λ row key more among is beside none. no_entry row key more among is beside (λ entry. both_ways (has key more row.root) none (counts key more row.root entries entry)))
      (λ b i e at none. stray b i e at none)

  all-doubtful : All IsDoubtful (joined_lists case names n).unjudged
  all-doubtful = all-left IsDoubtful (λ row among is. packed_key row among is) (λ row among beside. packed_more row among beside)

  has-none : (key more : List Value) (root : Tid) → ¬ HasEntry case names n key more root → has key more root ≡ false
  has-none key more root none = elim (cases_Bool (has key more root)) [
    | inl t ↦ absurd (none (is-there key more root entries t))
    | inr f ↦ f
  ]

  indexed : AreEmpty (joined_lists case names n) → (row : LiveRow) → Contains (rows_of case names) row → IsIndexed case names n row
  indexed empty row among = by (key_of case n row) (more_of case n row) refl refl
    where
      by : (k m : Option (List Value)) → key_of case n row ≡ k → more_of case n row ≡ m → IsIndexed case names n row
      by None m is beside = absurd (none-in _ (joined_lists case names n).unjudged empty.unjudged (doubt-first (record { reason = U6; place = Tuple n row.tid }) (packed-listed row among is)))
      by (Some key) None is beside = absurd (none-in _ (joined_lists case names n).unjudged empty.unjudged (doubt-first (record { reason = U6; place = Tuple n row.tid }) (packed-beside row among beside)))
      by (Some key) (Some more) is beside = record {
        key = key;
        more = more;
        values = is;
        included = beside;
        entry = elim (cases_Bool (has key more row.root)) [
          | inl t ↦ is-there key more row.root entries t
          | inr f ↦ absurd (none-in _ (joined_lists case names n).findings empty.findings (row-first (record { rule = X1; place = Tuple n row.tid }) (missing-listed row key more among is beside f)))
        ];
      }

  named : AreEmpty (joined_lists case names n) → (b i : ℕ) (e : Given Value Tid) → IsAt case names n b i e → may e.tid ≡ true
  named empty b i e at = elim (cases_Bool (may e.tid)) [
    | inl t ↦ t
    | inr f ↦ absurd (none-in _ (joined_lists case names n).findings empty.findings (entry-second (record { rule = X2; place = Entry n b i e.tid }) (stray-listed b i e at f)))
  ]

  -- where each row has its entry, and each entry names what it may, nothing is listed
  module _ (are : AreJoined case names n) where
    not-missing : (row : LiveRow) (key more : List Value) → Contains (rows_of case names) row → key_of case n row ≡ Some key → more_of case n row ≡ Some more → has key more row.root ≡ false → ⊥
    not-missing row key more among is beside none =
        let at = are.rows row among in
        let same : at.key ≡ key = some-same at.key key (sym at.values ∙ is) in
        let alike : at.more ≡ more = some-same at.more more (sym at.included ∙ beside) in
        both_ways (has key more row.root) none ((λ i. has (sym same i) (sym alike i) row.root) ∙ counts at.key at.more row.root entries at.entry)

    not-stray : (b i : ℕ) (e : Given Value Tid) → IsAt case names n b i e → may e.tid ≡ false → ⊥
    not-stray b i e at none = both_ways (may e.tid) none (are.entries b i e at)

    not-key : (row : LiveRow) → Contains (rows_of case names) row → key_of case n row ≡ None → ⊥
    not-key row among none = let at = are.rows row among in none-some at.key (sym none ∙ at.values)

    not-more : (row : LiveRow) → Contains (rows_of case names) row → more_of case n row ≡ None → ⊥
    not-more row among none = let at = are.rows row among in none-some at.more (sym none ∙ at.included)

    pub none-found : AreEmpty (joined_lists case names n)
    none-found = record {
      findings = nothing-in (joined_lists case names n).findings (all-found (λ f. ⊥) not-missing not-stray);
      unjudged = nothing-in (joined_lists case names n).unjudged (all-left (λ u. ⊥) not-key not-more);
    }

  -- ALL

  joined-kept : AreEmpty (joined_lists case names n) → AreJoined case names n
  joined-kept empty = record { rows = indexed empty; entries = named empty }

  first-found : (f : Finding) → Contains (joined_lists case names n).findings f → Contains (indexed_lists case names n).findings f
  unfolding indexed_lists
  first-found f h = or-found (joined_lists case names n).findings (joined_lists case names n).unjudged (duplicates_lists case names n) f h

  first-doubted : (u : UnjudgedPlace) → Contains (joined_lists case names n).unjudged u → Contains (indexed_lists case names n).unjudged u
  unfolding indexed_lists
  first-doubted u h = or-doubted (joined_lists case names n).findings (joined_lists case names n).unjudged (duplicates_lists case names n) u h

  second-all : AreEmpty (joined_lists case names n) → indexed_lists case names n ≡ duplicates_lists case names n
  unfolding indexed_lists
  second-all empty = λ i. or_else (empty.findings i) (empty.unjudged i) (duplicates_lists case names n)

  both-empty : AreEmpty (indexed_lists case names n) → AreEmpty (joined_lists case names n) × AreEmpty (duplicates_lists case names n)
  unfolding indexed_lists
  both-empty empty = or-empty (joined_lists case names n).findings (joined_lists case names n).unjudged (duplicates_lists case names n) empty

  all-listed : (rule : Rule) (place : Place) → Breaks case names n rule place → IsFoundAt (indexed_lists case names n) place
  all-listed _ _ (no_entry row key more among is beside none) =
      found X1 (first-found _ (row-first (record { rule = X1; place = Tuple n row.tid }) (missing-listed row key more among is beside (has-none key more row.root none))))
  all-listed _ _ (stray b i e at none) =
      found X2 (first-found _ (entry-second (record { rule = X2; place = Entry n b i e.tid }) (stray-listed b i e at none)))
  all-listed _ _ (duplicate earlier row are two) =
      found X3 (subst (λ (l : Lists). Contains l.findings (record { rule = X3; place = Tuple n row.tid })) (sym (second-all (none-found are))) (duplicate-listed case names n earlier row two))

  all-doubted : (reason : Reason) (place : Place) → Doubts case names n reason place → IsDoubtedAt (indexed_lists case names n) place
  all-doubted _ _ (packed_key row among is) = doubted U6 (first-doubted _ (doubt-first (record { reason = U6; place = Tuple n row.tid }) (packed-listed row among is)))
  all-doubted _ _ (packed_more row among beside) = doubted U6 (first-doubted _ (doubt-first (record { reason = U6; place = Tuple n row.tid }) (packed-beside row among beside)))

  all-sound : All IsBroken (indexed_lists case names n).findings
  unfolding indexed_lists
  all-sound = or-sound IsBroken (joined_lists case names n).findings (joined_lists case names n).unjudged (duplicates_lists case names n) all-broken
      (λ none certain. duplicates-sound case names n IsBroken (λ earlier row two. duplicate earlier row (joined-kept (record { findings = none; unjudged = certain })) two))

  all-certain : All IsDoubtful (indexed_lists case names n).unjudged
  unfolding indexed_lists
  all-certain = or-certain IsDoubtful (joined_lists case names n).findings (joined_lists case names n).unjudged (duplicates_lists case names n) all-doubtful (duplicates-certain case names n IsDoubtful)

  all-unique : AreEmpty (indexed_lists case names n) → AreUnique case names n
  all-unique empty = λ earlier row two. none-in _ (duplicates_lists case names n).findings (both-empty empty).1.findings (duplicate-listed case names n earlier row two)

  pub judged : IsJudged case names n
  judged = record {
    sound = all-sound;
    doubts = all-certain;
    listed = all-listed;
    doubted = all-doubted;
    joined = joined-kept;
    kept = λ empty. joined-kept (both-empty empty).0;
    unique = all-unique;
  }
