-- What a scan of an index prints.
use Rattle.std.proofs.Common.{◌≡◌, ◌<◌, ℕ, ◌-◌, false, List, [], ◌∷◌, length, inl, inr, refl, sym, ap, subst, ◌∙◌, arith}
use Rattle.std.specs.Prelude.{◌⊎◌, Err, IfOk, None, Ok, Option, Result, Some, slice_get, unwrap_or}
use Rattle.std.specs.Option.{option_map}
use Rattle.std.proofs.lemmas.Bool.{and_left, and_right, cond-false, cond-true}
use Rattle.outside.specs.Outside.{Names}
use Rattle.laws_search.specs.Keys.{Entry}
use Rattle.key_orders.specs.declared.columns.Value.{Value}
use Rattle.key_orders.specs.Keys.{fits_columns}
use Rattle.key_orders.specs.declared.Tid.{Tid}
use Rattle.key_orders.specs.declared.columns.KeySpec.{KeySpec}
use Rattle.key_orders.specs.Scans.{Bounds, FitsKey, order_of, scan_of}
use Rattle.rel_files.specs.Blocks.{block_of}
use Rattle.case_file.specs.Record.{CaseRecord, IndexRecord}
use Rattle.reports.specs.Lists.{Lists}
use Rattle.bt_pages.specs.Trees.{Tree}
use Rattle.bt_level_check.specs.Trees.{image_of}
use Rattle.bt_levels.specs.declared.sound.SoundTree.{SoundTree}
use Rattle.bt_levels.specs.Files.{IsFileOf, number_of}
use Rattle.bt_levels.specs.Index.{no_index, tree_lists, tree_of}
use Rattle.bt_levels.specs.Lists.{is_quiet}
use Rattle.bt_levels.specs.declared.files.TreeFile.{TreeFile}
use Rattle.bt_levels.specs.Sound.{IsSoundIndexOf, block_count, file_of, held_block, more_of, specs_of}
use Rattle.bt_steps.specs.Pages.{is_killed}
use Rattle.bt_scan_lines.specs.Lines.{in_direction}
use Rattle.key_orders.specs.declared.scans.ScanDirection.{ScanDirection}
use Rattle.bt_scan_lines.specs.Wanted.{wanted_entries, wanted_on}
use Rattle.cmd_answers.specs.Outcome.{bad_bound, reported}
use Rattle.cmd_run.specs.Scan.{are_fitting, bounded_scanned, entries_shown, keys_of, tree_scanned, wanted_in}
use Rattle.cmd_run.specs.Tables.{IsTreeOf}
use Rattle.cmd_run.proofs.TogetherLaws.{there-where-quiet}

-- what a scan wants of an index
abbrev wanted_of : Tree → Bounds → List (Entry Value Tid)
wanted_of tree bounds = wanted_entries (order_of tree.specs) is_killed (image_of tree) (scan_of tree.specs bounds)

at_own : (case : CaseRecord) (names : Names) (sound : SoundTree) (bounds : Bounds) → IsSoundIndexOf case (number_of (file_of sound)) sound → IsFileOf case names (file_of sound) → wanted_on names sound bounds ≡ wanted_in case names (number_of (file_of sound)) bounds
at_own case names sound bounds is file =
    let n = number_of (file_of sound) in
    let own : Tree = record { number = n; specs = specs_of sound; more = more_of sound; blocks = block_count sound; block = held_block names sound } in
    let same : tree_of case names n ≡ own = λ i. record {
      number = n;
      specs = (sym is.columns i).specs;
      more = (sym is.columns i).more;
      blocks = sym file.count i;
      block = block_of names (sym is.belongs.named.named i) (sym is.belongs.named.sized i);
    } in
    sym (ap (λ (t : Tree). wanted_of t bounds) same)

-- what a scan of a sound tree wants is what one of its index of the case is to find
pub wanted_same : (case : CaseRecord) (names : Names) (sound : SoundTree) (n : ℕ) (bounds : Bounds) → IsSoundIndexOf case n sound → IsFileOf case names (file_of sound) → wanted_on names sound bounds ≡ wanted_in case names n bounds
wanted_same case names sound n bounds is file =
    let own = subst (λ (k : ℕ). IsSoundIndexOf case k sound) (sym is.number) is in
    subst (λ (k : ℕ). wanted_on names sound bounds ≡ wanted_in case names k bounds) is.number (at_own case names sound bounds own file)

-- the bounds fit its key
pub fits_same : (case : CaseRecord) (sound : SoundTree) (n : ℕ) (bounds : Bounds) → IsSoundIndexOf case n sound → FitsKey (keys_of case n) bounds → FitsKey (specs_of sound) bounds
fits_same case sound n bounds is fits = subst (λ specs. FitsKey specs bounds) (sym (λ i. (is.columns i).specs)) fits

-- OUTCOMES

module _ (case : CaseRecord) (names : Names) (file : TreeFile) (bounds : Bounds) (direction : ScanDirection) where
  -- the report on an index of which something is found
  pub reported_where_found : IsTreeOf case names (number_of file) None → (lists : Lists) → lists ≡ tree_lists case names (number_of file) → reported lists ≡ tree_scanned case names (number_of file) bounds direction
  unfolding tree_scanned
  reported_where_found tree lists is =
      ap reported is ∙ sym (cond-false (is_quiet (tree_lists case names (number_of file))) _ _ (sym (there-where-quiet case names file None tree)))

  -- the entries of one of which nothing is
  pub shown_where_quiet : (sound : SoundTree) → IsTreeOf case names (number_of file) (Some sound) → IsSoundIndexOf case (number_of file) sound → entries_shown (in_direction direction (wanted_on names sound bounds)) ≡ tree_scanned case names (number_of file) bounds direction
  unfolding tree_scanned
  shown_where_quiet sound tree is =
      ap (λ (es : List (Entry Value Tid)). entries_shown (in_direction direction es)) (wanted_same case names sound (number_of file) bounds is tree.file)
      ∙ sym (cond-true (is_quiet (tree_lists case names (number_of file))) _ _ (sym (there-where-quiet case names file (Some sound) tree)))

-- an answer of which more is known
pub told_onward : {T E : Type 0} (P Q : T → Type 0) (result : Result T E) → ((answer : T) → P answer → Q answer) → IfOk result P → IfOk result Q
told_onward P Q (Ok answer) more is = more answer is
told_onward P Q (Err e) more is = is

-- bounds that are longer than the key

long_misfits : (keys : List KeySpec) (values : List Value) → length keys < length values → fits_columns keys values ≡ false
long_misfits keys [] less = absurd (omega (arith, less))
long_misfits [] (v ∷ vs) less = refl
long_misfits (k ∷ ks) (v ∷ vs) less = and_right _ _ (long_misfits ks vs (omega (arith, less)))

its_keys : (index : Option IndexRecord) (keys : List KeySpec) → option_map (λ (i : IndexRecord). i.keys) index ≡ Some keys → (unwrap_or index no_index).keys ≡ keys
its_keys None keys e = absurd cc
its_keys (Some index) keys e = cc

one_misfits : (keys : List KeySpec) (bounds : Bounds) → (length keys < length bounds.low.values) ⊎ (length keys < length bounds.high.values) → are_fitting keys bounds ≡ false
one_misfits keys bounds (inl low) = and_left (fits_columns keys bounds.low.values) _ (long_misfits keys bounds.low.values low)
one_misfits keys bounds (inr high) = and_right (fits_columns keys bounds.low.values) _ (long_misfits keys bounds.high.values high)

pub too_long : (case : CaseRecord) (names : Names) (n : ℕ) (bounds : Bounds) (direction : ScanDirection) (keys : List KeySpec) (low high : List Value) → option_map (λ (i : IndexRecord). i.keys) (slice_get case.indexes (n - 1)) ≡ Some keys → low ≡ bounds.low.values → high ≡ bounds.high.values → (length keys < length low) ⊎ (length keys < length high) → bad_bound ≡ bounded_scanned case names n bounds direction
too_long case names n bounds direction keys low high named low_is high_is long =
    let same = its_keys (slice_get case.indexes (n - 1)) keys named in
    let more = subst (λ (vs : List Value). (length keys < length vs) ⊎ (length keys < length bounds.high.values)) low_is (subst (λ (vs : List Value). (length keys < length low) ⊎ (length keys < length vs)) high_is long) in
    sym (cond-false (are_fitting (keys_of case n) bounds) _ _ (ap (λ (ks : List KeySpec). are_fitting ks bounds) same ∙ one_misfits keys bounds more))
