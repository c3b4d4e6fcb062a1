-- The rows and the entries of an index that is made anew.
use Rattle.std.proofs.Common.{◌≡◌, ◌∙◌, ◌≤◌, ◌<◌, ℕ, zero, suc, inl, inr, true, false, List, [], ◌∷◌, map, refl, sym, ap, subst, arith}
use Rattle.std.specs.Prelude.{All, Contains, Option, Some, None}
use Rattle.std.proofs.lemmas.Bool.{both_ways, cases_eq, cond-true}
use Rattle.std.proofs.lemmas.List.Elements.{All-head, All-weaker, Contains-append_left, Contains-append_right}
use Rattle.outside.specs.Outside.{Names}
use Rattle.page_layout.specs.declared.rules.Rule.{Rule}
use Rattle.page_layout.specs.declared.rules.Rule.TheVariants.{X3}
use Rattle.laws_search.specs.Keys.{Entry as Given}
use Rattle.laws_search.specs.Search.{tree_blocks}
use Rattle.key_orders.specs.declared.columns.Value.{Value}
use Rattle.key_orders.specs.declared.Tid.{Tid}
use Rattle.case_file.specs.Record.{CaseRecord}
use Rattle.bt_image.specs.Image.{LeafEntry, data_items, entries_in, item_at, leaf_entries_with_more, leaf_entry, page_entries}
use Rattle.bt_steps.specs.Pages.{is_live_leaf}
use Rattle.bt_steps.proofs.Members.{first-in, from-map, in-data_items, in-flat_map, in-map}
use Rattle.reports.specs.declared.places.Place.{Place}
use Rattle.reports.specs.declared.places.Reason.{Reason}
use Rattle.bt_pages.specs.Broken.{AreEmpty}
use Rattle.bt_levels.specs.Index.{index_of, tree_of}
use Rattle.heap_rows.specs.declared.rows.LiveRow.{LiveRow}
use Rattle.heap_rows.specs.Rows.{rows_of}
use Rattle.join_rules.specs.Broken.{AreJoined, Breaks, Doubts, HasEntry, IsAt, IsIndexed, IsJudged, duplicate, no_entry, packed_key, packed_more, stray}
use Rattle.join_rules.specs.Entries.{may_be_named, tree_entries}
use Rattle.join_rules.specs.Lists.{indexed_lists}
use Rattle.join_rules.specs.Rows.{key_of, more_of}
use Rattle.join_rules.specs.Unique.{AreUnique}
use Rattle.bt_build.specs.Order.{in_order}
use Rattle.join_row_entries.specs.Entries.{entries_of_rows, entry_by, entry_of}
use Rattle.laws_built_clean.proofs.Ordered.{ordered-from, ordered-has}

-- The entry of a row

record HasParts (key more : Option (List Value)) (root : Tid) (e : LeafEntry) : Type 0 where
  values : List Value
  included : List Value
  key_is : key ≡ Some values
  more_is : more ≡ Some included
  entry_is : e ≡ leaf_entry values included root false

parts : (key more : Option (List Value)) (root : Tid) (e : LeafEntry) → entry_by key more root ≡ Some e → HasParts key more root e
parts (Some key) (Some more) root e is =
    let same : leaf_entry key more root false ≡ e = cc in
    record { values = key; included = more; key_is = refl; more_is = refl; entry_is = sym same }
parts (Some key) None root e is = absurd cc
parts None more root e is = absurd cc

-- Blocks

in-blocks : (n b : ℕ) → 1 ≤ b → b < n → Contains (tree_blocks n) b
in-blocks zero b from to = absurd (omega (arith, to))
in-blocks (suc zero) b from to = absurd (omega (arith, from, to))
in-blocks (suc (suc n)) b from to = elim (cases_eq b (suc n)) [
  | inl e ↦ Contains-append_right (tree_blocks (suc n)) (suc n ∷ []) b (subst (λ (k : ℕ). Contains (suc n ∷ []) k) (sym e) (first-in (suc n) []))
  | inr ne ↦ Contains-append_left (tree_blocks (suc n)) (suc n ∷ []) b (in-blocks (suc n) b from (omega (arith, to, ne)))
]

-- Nothing but what a list may have

none-of : {X : Type 0} {P : X → Type 0} (xs : List X) → All P xs → ((x : X) → P x → ⊥) → xs ≡ []
none-of [] all never = refl
none-of {P = P} (x ∷ xs) all never = absurd (never x (All-head P x xs all))

module _ (case : CaseRecord) (names : Names) (n : ℕ) where
  abbrev rows : List LiveRow
  rows = rows_of case names

  abbrev es : List LeafEntry
  es = entries_of_rows case n rows

  module _ (are : map Some es ≡ map (entry_of case n) rows) (held : tree_entries (tree_of case names n) ≡ in_order (index_of case n).keys es) where
    -- each row has its entry
    its-entry : (row : LiveRow) → Contains rows row → (e : LeafEntry) × Contains es e × (Some e ≡ entry_of case n row)
    its-entry row among =
        from-map Some es (entry_of case n row) (subst (λ (os : List (Option LeafEntry)). Contains os (entry_of case n row)) (sym are) (in-map (entry_of case n) rows row among))

    indexed : (row : LiveRow) → Contains rows row → IsIndexed case names n row
    indexed row among =
        let own = its-entry row among in
        let e = own.0 in
        let p = parts (key_of case n row) (more_of case n row) row.root e (sym own.2) in
        record {
          key = p.values;
          more = p.included;
          values = p.key_is;
          included = p.more_is;
          entry = record {
            entry = e;
            among = subst (λ (ds : List LeafEntry). Contains ds e) (sym held) (ordered-has (index_of case n).keys es e own.1);
            sought = record { values = ap (λ (d : LeafEntry). d.entry.values) p.entry_is; tid_is = ap (λ (d : LeafEntry). d.entry.tid) p.entry_is };
            included = ap (λ (d : LeafEntry). d.more) p.entry_is;
            alive = ap (λ (d : LeafEntry). d.entry.killed) p.entry_is;
          };
        }

    -- each entry is a row's

    its-row : (e : LeafEntry) → Contains es e → (row : LiveRow) × Contains rows row × (entry_of case n row ≡ Some e)
    its-row e among = from-map (entry_of case n) rows (Some e) (subst (λ (os : List (Option LeafEntry)). Contains os (Some e)) are (in-map Some es e among))

    stands : (b i : ℕ) (e : Given Value Tid) → IsAt case names n b i e → (l : LeafEntry) × Contains (tree_entries (tree_of case names n)) l × (l.entry ≡ e)
    stands b i e at =
        let tree = tree_of case names n in
        let page = tree.block b in
        let own = from-map (λ (l : LeafEntry). l.entry) (entries_in (item_at tree.specs tree.more page i)) e at.entry in
        let l = own.0 in
        let on_page : Contains (page_entries tree.specs tree.more page) l =
        in-flat_map (λ (j : ℕ). entries_in (item_at tree.specs tree.more page j)) (data_items page) i l (in-data_items page i at.item.from at.item.to) own.1 in
        let on_leaf : Contains (leaf_entries_with_more tree.specs tree.more page) l =
        subst (λ (ds : List LeafEntry). Contains ds l) (sym (cond-true (is_live_leaf page) (page_entries tree.specs tree.more page) [] at.leaf)) on_page in
        (l, in-flat_map (λ (c : ℕ). leaf_entries_with_more tree.specs tree.more (tree.block c)) (tree_blocks tree.blocks) b l (in-blocks tree.blocks b at.not_meta at.inside) on_leaf, own.2)

    module _ (roots : (row : LiveRow) → Contains rows row → may_be_named case names row.root ≡ true) where
      named : (b i : ℕ) (e : Given Value Tid) → IsAt case names n b i e → may_be_named case names e.tid ≡ true
      named b i e at =
          let there = stands b i e at in
          let l = there.0 in
          let own = its-row l (ordered-from (index_of case n).keys es l (subst (λ (ds : List LeafEntry). Contains ds l) held there.1)) in
          let row = own.0 in
          let p = parts (key_of case n row) (more_of case n row) row.root l own.2 in
          let tid : e.tid ≡ row.root = sym (ap (λ (g : Given Value Tid). g.tid) there.2) ∙ ap (λ (d : LeafEntry). d.entry.tid) p.entry_is in
          ap (may_be_named case names) tid ∙ roots row own.1

      pub joined : AreJoined case names n
      joined = record { rows = indexed; entries = named }

      -- so that nothing is broken but by equal keys

      missing : (row : LiveRow) (key more : List Value) → IsIndexed case names n row → key_of case n row ≡ Some key → more_of case n row ≡ Some more → HasEntry case names n key more row.root
      missing row key more at is beside =
          let same : at.key ≡ key = cc in
          let alike : at.more ≡ more = cc in
          subst (λ (k : List Value). HasEntry case names n k more row.root) same (subst (λ (m : List Value). HasEntry case names n at.key m row.root) alike at.entry)

      equal-alone : (rule : Rule) (place : Place) → Breaks case names n rule place → rule ≡ X3
      equal-alone _ _ (no_entry row key more among is beside none) = absurd (none (missing row key more (indexed row among) is beside))
      equal-alone _ _ (stray b i e at not_named) = absurd (both_ways (may_be_named case names e.tid) not_named (named b i e at))
      equal-alone _ _ (duplicate earlier row are two) = refl

      no-doubt : (reason : Reason) (place : Place) → Doubts case names n reason place → ⊥
      no-doubt _ _ (packed_key row among none) = let at = (indexed row among).values in absurd cc
      no-doubt _ _ (packed_more row among none) = let at = (indexed row among).included in absurd cc

      unbroken : AreUnique case names n → (rule : Rule) (place : Place) → Breaks case names n rule place → ⊥
      unbroken unique _ _ (no_entry row key more among is beside none) = none (missing row key more (indexed row among) is beside)
      unbroken unique _ _ (stray b i e at not_named) = absurd (both_ways (may_be_named case names e.tid) not_named (named b i e at))
      unbroken unique _ _ (duplicate earlier row are two) = unique earlier row two

      module _ (judged : IsJudged case names n) where
        pub certain : (indexed_lists case names n).unjudged ≡ []
        certain = none-of (indexed_lists case names n).unjudged judged.doubts (λ u. no-doubt u.reason u.place)

        pub equal : All (λ f. f.rule ≡ X3) (indexed_lists case names n).findings
        equal = All-weaker (λ f. Breaks case names n f.rule f.place) (λ f. f.rule ≡ X3) (λ f. equal-alone f.rule f.place) (indexed_lists case names n).findings judged.sound

        pub clean : AreUnique case names n → AreEmpty (indexed_lists case names n)
        clean unique = record {
          findings = none-of (indexed_lists case names n).findings judged.sound (λ f. unbroken unique f.rule f.place);
          unjudged = certain;
        }
