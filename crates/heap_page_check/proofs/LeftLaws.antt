-- What the live tuples of a page leave, by its sentences: values that aren't whole in the TOAST table, and rows of a TOAST table.
use Rattle.std.proofs.Common.{◌≡◌, ℕ, ◌+◌, ◌-◌, ◌≤◌, Bool, true, false, List, [], ◌∷◌, length, refl, sym, subst, ap, ◌∙◌, arith, ◌⊎◌, inl, inr}
use Rattle.std.specs.Prelude.{Option, Some, None, Ok, Err, Contains, slice_get, if◌then◌else◌}
use Rattle.std.specs.List.{All}
use Rattle.std.proofs.lemmas.Bool.{both_ways}
use Rattle.std.proofs.lemmas.List.Elements.{All-append, All-cons, All-nil, Contains-append_left}
use Rattle.std.proofs.lemmas.Option.{slice_get_within}
use Rattle.page_layout.specs.Items.{is_normal}
use Rattle.page_layout.specs.Page.{count_of, item_of, page_rule_of}
use Rattle.page_layout.specs.declared.page.PageKind.TheVariants.{Heap}
use Rattle.page_layout.specs.declared.rules.Rule.{Rule}
use Rattle.page_layout.specs.declared.rules.Rule.TheVariants.{H21}
use Rattle.heap_tuples.specs.Places.{tuple_at}
use Rattle.heap_tuples.specs.Tuples.{attributes_in}
use Rattle.varlena_attrs.specs.Forms.{Attribute, Null, Missing, Plain, Packed, External}
use Rattle.varlena_attrs.specs.Reading.{Outcome}
use Rattle.varlena_attrs.specs.declared.places.ToastPointer.{ToastPointer}
use Rattle.liveness.specs.Life.{judged_of}
use Rattle.liveness.specs.declared.states.ItemState.{ItemState}
use Rattle.liveness.specs.declared.states.Life.{Life}
use Rattle.liveness.specs.declared.states.Life.TheVariants as life
use Rattle.toast_chunks.specs.Chunks.{is_whole}
use Rattle.toast_chunks.specs.declared.map.Chunk.{Chunk}
use Rattle.toast_chunks.proofs.Finding.{is_whole-sentence}
use Rattle.vis_map.specs.declared.bits.MapBits.{MapBits}
use Rattle.reports.proofs.Parts.{All-below, All-upto, among_below, among_upto}
use Rattle.reports.specs.Added.{IsListed, finding_at, found, report_lists}
use Rattle.reports.specs.declared.places.Finding.{Finding}
use Rattle.reports.specs.declared.places.Place.{Place}
use Rattle.reports.specs.declared.places.Place.TheVariants.{Column}
use Rattle.reports.specs.declared.places.UnjudgedPlace.{UnjudgedPlace}
use Rattle.heap_page_check.specs.Broken.{AllPass, HoldsLiveTuple, IsNormalItem}
use Rattle.heap_page_check.specs.Found.{attributes_by, attributes_by_life, attributes_read, found_parts, item_found, items_found, late_at, late_by, late_in}
use Rattle.heap_page_check.specs.Found.{late_left, late_of, live_attributes, value_rule_late}
use Rattle.heap_page_check.specs.Left.{BreaksValue, not_whole, HasValue}
use Rattle.heap_page_check.specs.Pages.{found_by_rule, page_found}
use Rattle.heap_page_check.specs.States.{IsStateOf, unused, dead, redirect, tuple}
use Rattle.heap_page_check.specs.Table.{Table, logs_in}
use Rattle.heap_page_check.specs.Verdicts.{head_at, item_verdict}
use Rattle.heap_page_check.specs.declared.table.TableKind.{TableKind}
use Rattle.heap_page_check.specs.declared.table.TableKind.TheVariants as kind
use Rattle.heap_page_check.specs.declared.verdict.ItemVerdict.{ItemVerdict}
use Rattle.heap_page_check.specs.declared.verdict.ItemVerdict.TheVariants.{Passes, Breaks, InDoubt}
use Rattle.heap_page_check.proofs.ItemLaws.{live_passes}
use Rattle.heap_page_check.proofs.LifeLaws.{live_is}
use Rattle.heap_page_check.proofs.PageLaws.{each_passes}
use Rattle.heap_page_check.proofs.StateLaws.{Shows, passed_state, verdict_shows}

-- The attributes that are read of an item are those of a live tuple, if there are any

pub record IsRead (table : Table) (page : List ℕ) (i : ℕ) (list : List Attribute) : Type 0 where
  pub live : HoldsLiveTuple table page i
  pub read : attributes_in table.columns (tuple_at page i) ≡ Ok list

abbrev pub IsReadOrNone : Table → List ℕ → ℕ → List Attribute → Type 0
IsReadOrNone table page i list = (list ≡ []) ⊎ IsRead table page i list

module _ (table : Table) (page : List ℕ) (i : ℕ) (first : 1 ≤ i) (last : i ≤ count_of page) where
  by_outcome : (outcome : Outcome) → HoldsLiveTuple table page i → attributes_in table.columns (tuple_at page i) ≡ outcome → IsReadOrNone table page i (attributes_read outcome)
  by_outcome (Ok list) live is = inr (record { live = live; read = is })
  by_outcome (Err e) live is = inl refl

  by_life : (l : Life) → IsNormalItem page i → (judged_of (logs_in table) (head_at page i)).life ≡ l → IsReadOrNone table page i (attributes_by_life (attributes_in table.columns (tuple_at page i)) l)
  by_life life.Live at is =
      let says = live_is table.names table.logs (head_at page i) is in
      by_outcome (attributes_in table.columns (tuple_at page i)) (record { item = at; inserted = says.0; kept = says.1 }) refl
  by_life life.Dead at is = inl refl
  by_life (life.Unjudged u) at is = inl refl
  by_life (life.Broken rule) at is = inl refl

  by_state : (state : ItemState) → IsStateOf table page i state → IsReadOrNone table page i (attributes_by (attributes_in table.columns (tuple_at page i)) (Passes state))
  by_state _ (unused is) = inl refl
  by_state _ (dead is) = inl refl
  by_state _ (redirect is) = inl refl
  by_state _ (tuple is) =
      by_life (judged_of (logs_in table) (head_at page i)).life (record { first = first; last = last; normal = rw is refl }) refl

  by_verdict : (verdict : ItemVerdict) → Shows table page i verdict → IsReadOrNone table page i (attributes_by (attributes_in table.columns (tuple_at page i)) verdict)
  by_verdict (Passes state) shows = by_state state shows
  by_verdict (Breaks rule) shows = inl refl
  by_verdict (InDoubt reason) shows = inl refl

  pub live_is_read : IsReadOrNone table page i (live_attributes table page i)
  unfolding live_attributes
  live_is_read = by_verdict (item_verdict table page i) (verdict_shows table page i)

module _ (table : Table) (page : List ℕ) (i : ℕ) (list : List Attribute) (live : HoldsLiveTuple table page i) (read : attributes_in table.columns (tuple_at page i) ≡ Ok list) where
  kept_by_state : (state : ItemState) → (judged_of (logs_in table) (head_at page i)).life ≡ life.Live → IsStateOf table page i state → attributes_by (attributes_in table.columns (tuple_at page i)) (Passes state) ≡ list
  kept_by_state _ called (unused is) = absurd (both_ways (is_normal (item_of page i).flag) (rw is refl) live.item.normal)
  kept_by_state _ called (dead is) = absurd (both_ways (is_normal (item_of page i).flag) (rw is refl) live.item.normal)
  kept_by_state _ called (redirect is) = absurd (both_ways (is_normal (item_of page i).flag) (rw is refl) live.item.normal)
  kept_by_state _ called (tuple is) =
      ap (attributes_by_life (attributes_in table.columns (tuple_at page i))) called ∙ ap attributes_read read

  -- those of a live tuple that passes are read
  pub read_is_live : (state : ItemState) → item_verdict table page i ≡ Passes state → live_attributes table page i ≡ list
  unfolding live_attributes
  read_is_live state passes =
      ap (attributes_by (attributes_in table.columns (tuple_at page i))) passes ∙ kept_by_state state (live_passes table page i state passes live) (passed_state table page i state passes)

-- Values that aren't whole

-- the finding of a value is that of one that isn't whole
by_whole : (P : Finding → Type 0) (place : Place) (chunks : List Chunk) (p : ToastPointer) (w : Bool) → is_whole chunks p ≡ w → (is_whole chunks p ≡ false → P (record { rule = H21; place = place })) → All P (finding_at place (if w then None else Some H21)).findings
by_whole P place chunks p true e each = All-nil P
by_whole P place chunks p false e each = All-cons P (record { rule = H21; place = place }) [] (each e) (All-nil P)

by_toast : (P : Finding → Type 0) (toast : Option ℕ) (chunks : List Chunk) (place : Place) (p : ToastPointer) → ((oid : ℕ) → toast ≡ Some oid → is_whole chunks p ≡ false → P (record { rule = H21; place = place })) → All P (late_by toast chunks place p).findings
by_toast P None chunks place p each = All-nil P
by_toast P (Some oid) chunks place p each = by_whole P place chunks p (is_whole chunks p) refl (each oid refl)

by_column : (P : Finding → Type 0) (toast : Option ℕ) (chunks : List Chunk) (place : Place) (o : Option Attribute) → ((oid : ℕ) (p : ToastPointer) → toast ≡ Some oid → o ≡ Some (External p) → is_whole chunks p ≡ false → P (record { rule = H21; place = place })) → All P (late_in toast chunks place o).findings
by_column P toast chunks place (Some (External p)) each = by_toast P toast chunks place p (λ oid e broken. each oid p e refl broken)
by_column P toast chunks place (Some Null) each = All-nil P
by_column P toast chunks place (Some Missing) each = All-nil P
by_column P toast chunks place (Some (Plain content)) each = All-nil P
by_column P toast chunks place (Some (Packed piece)) each = All-nil P
by_column P toast chunks place None each = All-nil P

-- and it is listed
whole_listed : (place : Place) (chunks : List Chunk) (p : ToastPointer) (w : Bool) → is_whole chunks p ≡ w → (is_whole chunks p ≡ true → ⊥) → Contains (finding_at place (if w then None else Some H21)).findings (record { rule = H21; place = place })
whole_listed place chunks p true e broken = absurd (broken e)
whole_listed place chunks p false e broken = (0, omega arith, refl)

module _ (table : Table) (chunks : List Chunk) (block : ℕ) (page : List ℕ) where
  abbrev BreaksHere : Finding → Type 0
  BreaksHere f = BreaksValue chunks table block page f.rule f.place

  column_back : (list : List Attribute) (k : ℕ) (p : ToastPointer) → slice_get list k ≡ Some (External p) → slice_get list (k + 1 - 1) ≡ Some (External p)
  column_back list k p e =
      let P : ℕ → Type 0 = λ n. slice_get list n ≡ Some (External p) in
      let same : k ≡ k + 1 - 1 = omega arith in subst P same e

  no_value : (xs : List Attribute) (k : ℕ) (p : ToastPointer) → xs ≡ [] → slice_get xs k ≡ Some (External p) → ⊥
  no_value [] k p none e = cc
  no_value (a ∷ xs) k p none e = cc

  value_broken : (i : ℕ) (list : List Attribute) → IsReadOrNone table page i list → (k : ℕ) (oid : ℕ) (p : ToastPointer) → table.toast ≡ Some oid → slice_get list k ≡ Some (External p) → is_whole chunks p ≡ false → BreaksValue chunks table block page H21 (Column block i (k + 1))
  value_broken i list (inl none) k oid p e at broken = absurd (no_value list k p none at)
  value_broken i list (inr is) k oid p e at broken =
      not_whole oid i (k + 1) p e
      (record { live = is.live; list = list; read = is.read; first = omega arith; value = column_back list k p at })
      (λ whole. both_ways (is_whole chunks p) broken ((is_whole-sentence chunks p).1 whole))

  late_of_item : (i : ℕ) (list : List Attribute) → IsReadOrNone table page i list → All BreaksHere (late_of table.toast chunks block i list).findings
  unfolding late_of late_at
  late_of_item i list is =
      All-below report_lists (λ l. l.findings) refl (λ a b. refl) BreaksHere (late_at table.toast chunks block i list) (length list)
      (λ k inside. by_column BreaksHere table.toast chunks (Column block i (k + 1)) (slice_get list k) (λ oid p e at broken. value_broken i list is k oid p e at broken))

  late_by_kind : (what : TableKind) (i : ℕ) (list : List Attribute) → IsReadOrNone table page i list → All BreaksHere (late_left what table.toast chunks block i list).findings
  late_by_kind kind.Heap i list is = late_of_item i list is
  late_by_kind kind.Toast i list is = All-nil BreaksHere

  items_late_sound : All BreaksHere (items_found table chunks block page).late.findings
  unfolding items_found item_found
  items_late_sound =
      All-upto found_parts (λ f. f.late.findings) refl (λ a b. refl) BreaksHere (item_found table chunks block page) (count_of page) (λ i first last.
      All-append BreaksHere (late_left table.kind table.toast chunks block i (live_attributes table page i)).findings []
      (late_by_kind table.kind i (live_attributes table page i) (live_is_read table page i first last)) (All-nil BreaksHere))

-- nothing of it is in doubt
abbrev Never : UnjudgedPlace → Type 0
Never u = ⊥

certain_at : (place : Place) (rule : Option Rule) → All Never (finding_at place rule).unjudged
certain_at place None = All-nil Never
certain_at place (Some rule) = All-nil Never

certain_in : (toast : Option ℕ) (chunks : List Chunk) (place : Place) (o : Option Attribute) → All Never (late_in toast chunks place o).unjudged
certain_in None chunks place (Some (External p)) = All-nil Never
certain_in (Some oid) chunks place (Some (External p)) = certain_at place (value_rule_late chunks p)
certain_in toast chunks place (Some Null) = All-nil Never
certain_in toast chunks place (Some Missing) = All-nil Never
certain_in toast chunks place (Some (Plain content)) = All-nil Never
certain_in toast chunks place (Some (Packed piece)) = All-nil Never
certain_in toast chunks place None = All-nil Never

module _ (table : Table) (chunks : List Chunk) (block : ℕ) (page : List ℕ) where
  certain_by_kind : (what : TableKind) (i : ℕ) (list : List Attribute) → All Never (late_left what table.toast chunks block i list).unjudged
  unfolding late_of late_at
  certain_by_kind kind.Heap i list =
      All-below report_lists (λ l. l.unjudged) refl (λ a b. refl) Never (late_at table.toast chunks block i list) (length list)
      (λ k inside. certain_in table.toast chunks (Column block i (k + 1)) (slice_get list k))
  certain_by_kind kind.Toast i list = All-nil Never

  items_late_certain : All Never (items_found table chunks block page).late.unjudged
  unfolding items_found item_found
  items_late_certain =
      All-upto found_parts (λ f. f.late.unjudged) refl (λ a b. refl) Never (item_found table chunks block page) (count_of page) (λ i first last.
      All-append Never (late_left table.kind table.toast chunks block i (live_attributes table page i)).unjudged []
      (certain_by_kind table.kind i (live_attributes table page i)) (All-nil Never))

-- Of a page

module _ (table : Table) (chunks : List Chunk) (block : ℕ) (page : List ℕ) where
  late_by_rule : (bits : MapBits) (rule : Option Rule) → All (BreaksHere table chunks block page) (found_by_rule table chunks bits block page rule).late.findings
  late_by_rule bits (Some rule) = All-nil (BreaksHere table chunks block page)
  late_by_rule bits None = All-append (BreaksHere table chunks block page) (items_found table chunks block page).late.findings [] (items_late_sound table chunks block page) (All-nil (BreaksHere table chunks block page))

  -- each late finding of a page is a value that isn't whole
  pub page_late_sound : (bits : MapBits) → All (λ f. BreaksValue chunks table block page f.rule f.place) (page_found table chunks bits block page).late.findings
  unfolding page_found
  page_late_sound bits = late_by_rule bits (page_rule_of Heap page)

  certain_by_rule : (bits : MapBits) (rule : Option Rule) → All Never (found_by_rule table chunks bits block page rule).late.unjudged
  certain_by_rule bits (Some rule) = All-nil Never
  certain_by_rule bits None = All-append Never (items_found table chunks block page).late.unjudged [] (items_late_certain table chunks block page) (All-nil Never)

  -- and none of them is in doubt
  pub page_late_certain : (bits : MapBits) → All (λ (u : UnjudgedPlace). ⊥) (page_found table chunks bits block page).late.unjudged
  unfolding page_found
  page_late_certain bits = certain_by_rule bits (page_rule_of Heap page)

  -- the value of a live tuple on a page whose items all pass is asked for
  late_at_column : (oid : ℕ) (i column : ℕ) (p : ToastPointer) (list : List Attribute) → table.toast ≡ Some oid → 1 ≤ column → slice_get list (column - 1) ≡ Some (External p) → (is_whole chunks p ≡ true → ⊥) → Contains (late_of table.toast chunks block i list).findings (record { rule = H21; place = Column block i column })
  unfolding late_of late_at
  late_at_column oid i column p list e some at broken =
      let f : Finding = record { rule = H21; place = Column block i column } in
      let column_is : column - 1 + 1 ≡ column = omega (arith, some) in
      let Q : Option ℕ → Type 0 = λ o. Contains (late_in o chunks (Column block i (column - 1 + 1)) (slice_get list (column - 1))).findings f in
      let R : Option Attribute → Type 0 = λ o. Contains (late_in (Some oid) chunks (Column block i (column - 1 + 1)) o).findings f in
      let S : ℕ → Type 0 = λ c. Contains (late_in (Some oid) chunks (Column block i c) (Some (External p))).findings f in
      let here : S (column - 1 + 1) = subst S (sym column_is) (whole_listed (Column block i column) chunks p (is_whole chunks p) refl broken) in
      among_below report_lists (λ l. l.findings) refl (λ a b. refl) (late_at table.toast chunks block i list) (length list) (column - 1) f (slice_get_within list (column - 1) (External p) at)
      (subst Q (sym e) (subst R (sym at) here))

  module _ (bits : MapBits) (pass : AllPass table block page) (is_heap : table.kind ≡ kind.Heap) where
    late_on_item : (oid : ℕ) (i column : ℕ) (p : ToastPointer) → table.toast ≡ Some oid → HasValue table page i column p → (is_whole chunks p ≡ true → ⊥) → Contains (late_left table.kind table.toast chunks block i (live_attributes table page i)).findings (record { rule = H21; place = Column block i column })
    late_on_item oid i column p e has broken =
        let passes = each_passes table block page pass i has.live.item.first has.live.item.last in
        let read = read_is_live table page i has.list has.live has.read passes.0 passes.1 in
        let f : Finding = record { rule = H21; place = Column block i column } in
        let P : TableKind → Type 0 = λ what. Contains (late_left what table.toast chunks block i (live_attributes table page i)).findings f in
        let Q : List Attribute → Type 0 = λ list. Contains (late_of table.toast chunks block i list).findings f in
        subst P (sym is_heap) (subst Q (sym read) (late_at_column oid i column p has.list e has.first has.value broken))

    late_on_items : (oid : ℕ) (i column : ℕ) (p : ToastPointer) → table.toast ≡ Some oid → HasValue table page i column p → (is_whole chunks p ≡ true → ⊥) → Contains (items_found table chunks block page).late.findings (record { rule = H21; place = Column block i column })
    unfolding items_found item_found
    late_on_items oid i column p e has broken =
        let f : Finding = record { rule = H21; place = Column block i column } in
        among_upto found_parts (λ x. x.late.findings) refl (λ a b. refl) (item_found table chunks block page) (count_of page) i f has.live.item.first has.live.item.last
        (Contains-append_left (late_left table.kind table.toast chunks block i (live_attributes table page i)).findings [] f (late_on_item oid i column p e has broken))

    on_page_by : (rule : Option Rule) (f : Finding) → rule ≡ None → Contains (items_found table chunks block page).late.findings f → Contains (found_by_rule table chunks bits block page rule).late.findings f
    on_page_by (Some rule) f e has = cc
    on_page_by None f e has = Contains-append_left (items_found table chunks block page).late.findings [] f has

    -- a value that isn't whole is a late finding
    pub page_late_listed : (rule : Rule) (place : Place) → BreaksValue chunks table block page rule place → IsListed (page_found table chunks bits block page).late place
    unfolding page_found
    page_late_listed _ _ (not_whole oid i column p e has broken) =
        found H21 (on_page_by (page_rule_of Heap page) (record { rule = H21; place = Column block i column }) pass.header
        (late_on_items oid i column p e has (λ whole. broken ((is_whole-sentence chunks p).0 whole))))
