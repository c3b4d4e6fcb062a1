-- A tree that is laid breaks none of the rules of single pages.
use Rattle.std.proofs.Common.{◌≡◌, ◌≢◌, ◌≤◌, ◌<◌, ◌+◌, inl, inr, ℕ, zero, suc, Bool, true, false, not, ◌&&◌, ◌||◌, ◌==◌, nat_le, nat_lt, List, [], ◌∷◌, map, refl, sym, ap, ◌∙◌, subst, arith}
use Rattle.std.specs.Prelude.{Option, Some, None}
use Rattle.std.specs.List.{AllByRecursion}
use Rattle.std.proofs.lemmas.Bool.{cases_Bool, cases_eq, cond-false, eq-eqb, lt-leb, lt-ltb, ne_eqb}
use Rattle.std.proofs.lemmas.List.Elements.{recursion_from_All}
use Rattle.laws_search.specs.Keys.{Entry, Separator}
use Rattle.laws_search.specs.Levels.{Row, level_rows, row_page, row_lower}
use Rattle.laws_search.specs.Searchable.{IsInUse, IsSoundPage}
use Rattle.laws_search.proofs.Gather.{block_in}
use Rattle.laws_search.proofs.Lists.{In, In-cases, Each-in, Each-map}
use Rattle.laws_search.proofs.Rising.{Rising, each_within, rising_from_adjacent}
use Rattle.page_layout.specs.Page.{count_of, has_bit, header_of, is_new, page_rule_of, upper_of}
use Rattle.page_layout.specs.declared.page.PageKind.TheVariants.{Tree}
use Rattle.key_orders.specs.declared.columns.KeySpec.{KeySpec}
use Rattle.key_orders.specs.declared.columns.Value.{Value}
use Rattle.key_orders.specs.declared.more.MoreSpec.{MoreSpec}
use Rattle.key_orders.specs.declared.Tid.{Tid}
use Rattle.key_orders.specs.Scans.{order_of}
use Rattle.bt_meta.specs.declared.records.Meta.{Meta}
use Rattle.bt_meta.specs.declared.records.Opaque.{Opaque}
use Rattle.bt_meta.specs.Flags.{is_leaf, is_meta}
use Rattle.bt_meta.specs.Pages.{KeepsMetaRules, has_bad_root, is_foreign, is_just_one_zero, is_no_metapage, meta_of, opaque_of}
use Rattle.bt_image.specs.Image.{LeafEntry, TreeIndex, TreePage, index_image, downlink_in, item_at, page_image}
use Rattle.bt_image.specs.Pages.{IsDataItem, IsPlainItem, KeepsPage, KeepsTreeRules, breaks_downlink, breaks_flags, breaks_half_dead, breaks_high_key, breaks_items, breaks_level, breaks_order, breaks_siblings, is_bad_sibling}
use Rattle.page_write.specs.Pages.{header_with, meta_page}
use Rattle.page_write.proofs.Reading.{meta_header, meta_numbers, meta_special_is}
use Rattle.laws_building.specs.Cuts.{joined}
use Rattle.laws_building.specs.Fresh.{DoItemsClimb, IsKeyOrder, ItemsClimb, pages_upward}
use Rattle.laws_building.specs.Seen.{order_by, page_seen}
use Rattle.laws_building.proofs.Mapped.{each_back, rising_back}
use Rattle.laws_built_index.specs.Files.{IsFileOf}
use Rattle.laws_built_index.specs.Sizes.{entry_in, splitter_of}
use Rattle.laws_built_index.specs.Trees.{IsPageFit, IsTreeFit, ItemPage, ItemTree, built_block, keys_of, meta_in, page_bytes}
use Rattle.laws_built_index.proofs.PageRules.{HaveReadings, climbing, each_downlink, keeps_flags, keeps_half_dead, keeps_inner_end, keeps_inner_order, keeps_items, keeps_layout, keeps_leaf_end, keeps_leaf_order, keeps_plain, no_meta}

-- Tests of numbers

level_by : (meta leaf : Bool) (level : ℕ) → meta ≡ false → (leaf ≡ true → level ≡ 0) → (level ≡ 0 → leaf ≡ true) → (meta || (leaf && not (level == 0)) || (not leaf && (level == 0))) ≡ false
level_by meta true level none low high = let a = eq-eqb level 0 (low refl) in λ i. none i || not (a i) || false
level_by meta false level none low high = let a = ne_eqb level 0 (λ z. let e = high z in absurd cc) in λ i. none i || false || a i

never : (t : Bool) → (t && false) ≡ false
never true = refl
never false = refl

sibling_by : (n : ℕ) (bad : Bool) → (n ≢ 0 → bad ≡ false) → (not (n == 0) && bad) ≡ false
sibling_by n bad h = elim (cases_eq n 0) [
  | inl e ↦ ap (λ (t : Bool). not t && bad) (eq-eqb n 0 e)
  | inr ne ↦ ap (λ (t : Bool). not (n == 0) && t) (h ne) ∙ never (not (n == 0))
]

in_map : {X Y : Type 0} (f : X → Y) (xs : List X) (y : Y) → In y (map f xs) → (x : X) × In x xs × (y ≡ f x)
in_map f [] y h = absurd h
in_map f (x ∷ xs) y h = elim h [
  | inl e ↦ (x, inl refl, e)
  | inr i ↦ let r = in_map f xs y i in (r.0, inr r.1, r.2)
]

-- a block on its level
record RowOf (specs : List KeySpec) (image : TreeIndex) (b : ℕ) : Type 0 where
  row : Row (Separator Value Tid)
  is : row_page row ≡ b
  climb : DoItemsClimb (order_of specs) (splitter_of specs) image row

module _ (specs : List KeySpec) (more : List MoreSpec) (laws : HaveReadings specs more) (x : ItemTree) (block : ℕ → List ℕ) (es : List LeafEntry) (fit : IsTreeFit specs more x)
    (each : (b : ℕ) → b < x.blocks → block b ≡ built_block specs more x b) (file : IsFileOf specs more x.blocks block es) (keyed : IsKeyOrder (order_of specs))
    (low : x.root < x.blocks) (fast : x.fastroot ≡ x.root) (seen : (p : ItemPage) → IsPageFit specs more p → page_image specs more (page_bytes specs more p) ≡ page_seen keys_of p) where
  abbrev image : TreeIndex
  image = index_image specs more x.blocks block

  module _ (b : ℕ) (some : b ≢ 0) (inside : b < x.blocks) where
    abbrev p : ItemPage
    p = x.page b

    page_fit : IsPageFit specs more p
    page_fit = fit.pages b some inside

    there : page_bytes specs more p ≡ block b
    there = sym (each b inside ∙ cond-false _ _ _ (ne_eqb b 0 some))

    seen_there : page_image specs more (block b) ≡ page_seen keys_of p
    seen_there = ap (page_image specs more) (sym there) ∙ seen p page_fit

    used : IsInUse image b
    used = record { not_meta = some; inside = inside; used = ap (λ (q : TreePage). q.idle) seen_there ∙ page_fit.used }

    sound : IsSoundPage (order_of specs) image b
    sound = file.searchable.pages b used

    leaf_there : is_leaf (opaque_of (block b)) ≡ p.leaf
    leaf_there = ap (λ (q : TreePage). q.leaf) seen_there

    moved : (P : List ℕ → Type 0) → P (page_bytes specs more p) → P (block b)
    moved P h = subst P there h

    keeps_level : breaks_level (block b) ≡ false
    unfolding breaks_level
    keeps_level = level_by (is_meta (opaque_of (block b))) (is_leaf (opaque_of (block b))) (opaque_of (block b)).level (moved (λ (w : List ℕ). is_meta (opaque_of w) ≡ false) (no_meta specs more laws p page_fit)) sound.leaf_below sound.leaf_if_below

    good_sibling : (sibling back : ℕ) → IsInUse image sibling → (image.page sibling).level ≡ (image.page b).level → back ≡ b → is_bad_sibling x.blocks block b sibling back ≡ false
    good_sibling sibling back in_use level is =
        let i1 = in_use.inside in
        let a : nat_le x.blocks sibling ≡ false = lt-leb x.blocks sibling i1 in
        let c = eq-eqb (opaque_of (block sibling)).level (opaque_of (block b)).level level in
        let d = eq-eqb back b is in
        λ i. a i || in_use.used i || not (c i) || not (d i)

    keeps_siblings : breaks_siblings x.blocks block b ≡ false
    unfolding breaks_siblings
    keeps_siblings =
        let left = sibling_by (opaque_of (block b)).prev (is_bad_sibling x.blocks block b (opaque_of (block b)).prev (opaque_of (block (opaque_of (block b)).prev)).next)
        (λ ne. let s = sound.left_sibling ne in good_sibling (opaque_of (block b)).prev (opaque_of (block (opaque_of (block b)).prev)).next s.0 s.1 s.2) in
        let right = sibling_by (opaque_of (block b)).next (is_bad_sibling x.blocks block b (opaque_of (block b)).next (opaque_of (block (opaque_of (block b)).next)).prev)
        (λ ne. let s = sound.right_sibling ne in good_sibling (opaque_of (block b)).next (opaque_of (block (opaque_of (block b)).next)).prev s.0 s.1 s.2) in
        λ i. left i || right i

    -- the entries of a leaf
    entries_rise : p.leaf ≡ true → Rising (order_by entry_in (order_of specs)) (joined p.entries)
    entries_rise leaf =
        let up = sound.rising (leaf_there ∙ leaf) in
        rising_back entry_in (order_of specs) (joined p.entries)
        (subst (Rising (order_of specs)) (ap (λ (q : TreePage). q.entries) seen_there) (rising_from_adjacent (order_of specs) keyed.entries (image.page b).entries up))

    entries_within : p.leaf ≡ true → (s : Separator Value Tid) → p.high_key ≡ Some s → AllByRecursion (λ (e : LeafEntry). (order_of specs).within e.entry s ≡ true) (joined p.entries)
    entries_within leaf s is =
        let high = ap (λ (q : TreePage). q.high_key) seen_there ∙ is in
        let up = rising_from_adjacent (order_of specs) keyed.entries (image.page b).entries (sound.rising (leaf_there ∙ leaf)) in
        let each = each_within (order_of specs) keyed.entries s (image.page b).entries up (sound.last_within (leaf_there ∙ leaf) s high) in
        each_back entry_in (λ (e : Entry Value Tid). (order_of specs).within e s ≡ true) (joined p.entries)
        (subst (AllByRecursion (λ (e : Entry Value Tid). (order_of specs).within e s ≡ true)) (ap (λ (q : TreePage). q.entries) seen_there) each)

    -- the children of an internal page
    root : image.root ≢ 0
    root = (file.searchable.reached b used).0

    on_level : (n : ℕ) → n ≤ image.level → In b (map row_page (level_rows image n)) → RowOf specs image b
    on_level n le i =
        let r = in_map row_page (level_rows image n) b i in
        let each = recursion_from_All (DoItemsClimb (order_of specs) (splitter_of specs) image) (level_rows image n) (file.fresh.climb root n le) in
        record { row = r.0; is = sym r.2; climb = Each-in (DoItemsClimb (order_of specs) (splitter_of specs) image) r.0 (level_rows image n) each r.1 }

    row_of : (n : ℕ) → n ≤ image.level → In b (pages_upward image n) → RowOf specs image b
    row_of zero le i = on_level zero le i
    row_of (suc n) le i = elim (In-cases b (map row_page (level_rows image (suc n))) (pages_upward image n) i) [
      | inl here ↦ on_level (suc n) le here
      | inr up ↦ row_of n (omega (arith, le)) up
    ]

    row_there : RowOf specs image b
    row_there = row_of image.level (omega arith) (subst (In b) (sym (file.fresh.in_order root)) (block_in image.blocks b some inside))

    abbrev lower : Option (Separator Value Tid)
    lower = row_lower row_there.row

    children_climb : p.leaf ≡ false → ItemsClimb (order_of specs) (splitter_of specs) p.children lower p.high_key
    children_climb inner =
        let here : (image.page b).leaf ≡ false → ItemsClimb (order_of specs) (splitter_of specs) (image.page b).children lower (image.page b).high_key =
        subst (λ (c : ℕ). (image.page c).leaf ≡ false → ItemsClimb (order_of specs) (splitter_of specs) (image.page c).children lower (image.page c).high_key) row_there.is row_there.climb in
        subst (λ (q : TreePage). ItemsClimb (order_of specs) (splitter_of specs) q.children lower q.high_key) seen_there (here (leaf_there ∙ inner))

    down_right : (down : ℕ) → IsInUse image down → (image.page down).level + 1 ≡ (image.page b).level → breaks_downlink x.blocks block (opaque_of (block b)).level down ≡ false
    unfolding breaks_downlink
    down_right down in_use level =
        let a = ne_eqb down 0 in_use.not_meta in
        let c : nat_le x.blocks down ≡ false = lt-leb x.blocks down in_use.inside in
        let d = eq-eqb ((opaque_of (block down)).level + 1) (opaque_of (block b)).level level in
        λ i. a i || c i || in_use.used i || not (d i)

    downlinks_right : p.leaf ≡ false → AllByRecursion (λ (c : Separator Value Tid × ℕ). breaks_downlink x.blocks block (opaque_of (block b)).level c.1 ≡ false) p.children
    downlinks_right inner =
        let all = recursion_from_All (λ (c : Separator Value Tid × ℕ). IsInUse image c.1 × ((image.page c.1).level + 1 ≡ (image.page b).level)) (image.page b).children (sound.child (leaf_there ∙ inner)) in
        Each-map (λ (c : Separator Value Tid × ℕ). IsInUse image c.1 × ((image.page c.1).level + 1 ≡ (image.page b).level)) (λ (c : Separator Value Tid × ℕ). breaks_downlink x.blocks block (opaque_of (block b)).level c.1 ≡ false) p.children
        (λ c h. down_right c.1 h.0 h.1)
        (subst (AllByRecursion (λ (c : Separator Value Tid × ℕ). IsInUse image c.1 × ((image.page c.1).level + 1 ≡ (image.page b).level))) (ap (λ (q : TreePage). q.children) seen_there) all)

    order_right : (i : ℕ) → IsDataItem (page_bytes specs more p) i → breaks_order specs more (page_bytes specs more p) i ≡ false
    order_right i there = elim (cases_Bool p.leaf) [
      | inl leaf ↦ keeps_leaf_order specs more laws p page_fit leaf (entries_rise leaf) i there
      | inr inner ↦ keeps_inner_order specs more laws p page_fit inner lower p.high_key (climbing specs more laws p page_fit inner lower p.high_key (splitter_of specs) (children_climb inner)) i there
    ]

    high_key_right : breaks_high_key specs more (page_bytes specs more p) ≡ false
    high_key_right = elim (cases_Bool p.leaf) [
      | inl leaf ↦ keeps_leaf_end specs more laws p page_fit leaf (entries_within leaf)
      | inr inner ↦ keeps_inner_end specs more laws p page_fit inner lower (climbing specs more laws p page_fit inner lower p.high_key (splitter_of specs) (children_climb inner))
    ]

    keeps_page : KeepsPage specs more x.blocks block b
    keeps_page = record {
      laid_out = moved (λ (w : List ℕ). page_rule_of Tree w ≡ None) (keeps_layout specs more laws p page_fit);
      flags = moved (λ (w : List ℕ). breaks_flags w ≡ false) (keeps_flags specs more laws p page_fit);
      level = keeps_level;
      half_dead = moved (λ (w : List ℕ). breaks_half_dead w ≡ false) (keeps_half_dead specs more laws p page_fit);
      some_items = moved (λ (w : List ℕ). breaks_items w ≡ false) (keeps_items specs more laws p page_fit);
      siblings = keeps_siblings;
      items = λ alive. moved (λ (w : List ℕ). (i : ℕ) → 1 ≤ i → i ≤ count_of w → IsPlainItem specs more w i) (keeps_plain specs more laws p page_fit);
      order = λ alive. moved (λ (w : List ℕ). (i : ℕ) → IsDataItem w i → breaks_order specs more w i ≡ false) order_right;
      high_key = λ alive. moved (λ (w : List ℕ). breaks_high_key specs more w ≡ false) high_key_right;
      downlinks = λ inner. moved (λ (w : List ℕ). (i : ℕ) → IsDataItem w i → breaks_downlink x.blocks block (opaque_of (block b)).level (downlink_in (item_at specs more w i)) ≡ false)
          (each_downlink specs more laws p page_fit (sym leaf_there ∙ inner) (λ (down : ℕ). breaks_downlink x.blocks block (opaque_of (block b)).level down ≡ false) (downlinks_right (sym leaf_there ∙ inner)));
    }

  -- the metapage

  first_there : block 0 ≡ meta_page (meta_in x)
  first_there = each 0 fit.some

  upper_there : upper_of (meta_page (meta_in x)) ≡ 8176
  unfolding header_of header_with
  upper_there = ap (λ h. h.upper) (meta_header (meta_in x))

  meta_there : is_meta (opaque_of (meta_page (meta_in x))) ≡ true
  unfolding is_meta has_bit
  meta_there = ap (λ (s : Opaque). has_bit s.flags 0x0008) (meta_special_is (meta_in x))

  keeps_metapage : is_no_metapage (meta_page (meta_in x)) ≡ false
  unfolding is_no_metapage
  keeps_metapage =
      let up = upper_there in
      let new : is_new (meta_page (meta_in x)) ≡ false = ne_eqb (upper_of (meta_page (meta_in x))) 0 (λ z. omega (arith, z, up)) in
      let foreign : is_foreign (meta_of (meta_page (meta_in x))) ≡ false = ap is_foreign (meta_numbers (meta_in x) fit.numbers) in
      λ i. new i || not (meta_there i) || foreign i

  keeps_roots : has_bad_root x.blocks (meta_of (meta_page (meta_in x))) ≡ false
  unfolding has_bad_root
  keeps_roots =
      let inside = lt-ltb x.root x.blocks low in
      ap (has_bad_root x.blocks) (meta_numbers (meta_in x) fit.numbers)
      ∙ (λ i. not (inside i) || not (nat_lt (fast i) x.blocks) || is_just_one_zero x.root (fast i))
      ∙ (λ i. not (inside i) || both_zero (x.root == 0) i)
    where
      both_zero : (t : Bool) → ((t && not t) || (t && not t)) ≡ false
      both_zero true = refl
      both_zero false = refl

  pub keeps_rules : KeepsTreeRules specs more x.blocks block
  keeps_rules = record {
    some = omega (arith, low);
    metapage = subst (KeepsMetaRules x.blocks) (sym first_there) (record { metapage = keeps_metapage; roots = λ version. keeps_roots });
    version = ap (λ (w : List ℕ). (meta_of w).version) first_there ∙ ap (λ (m : Meta). m.version) (meta_numbers (meta_in x) fit.numbers);
    pages = λ b some inside idle. keeps_page b some inside;
  }
