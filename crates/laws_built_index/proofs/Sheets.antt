-- Pages of items by their sizes may be laid.
use Rattle.std.proofs.Common.{◌≡◌, ◌≢◌, ◌≤◌, ◌<◌, ◌+◌, ◌%◌, ℕ, suc, Bool, true, false, not, ◌==◌, ◌&&◌, List, [], ◌∷◌, ◌++◌, length, map, refl, sym, ap, ◌∙◌, subst, arith}
use Rattle.std.specs.Prelude.{⊤, Option, Some, None, is_some, option_map, unwrap_or}
use Rattle.std.specs.List.{AllByRecursion}
use Rattle.std.proofs.lemmas.Bool.{ne_eqb}
use Rattle.std.proofs.lemmas.List.Elements.{All-from_recursion}
use Rattle.laws_search.specs.Keys.{Separator}
use Rattle.laws_search.specs.Levels.{Downlink}
use Rattle.laws_search.proofs.Lists.{Each-front, Each-back}
use Rattle.key_orders.specs.declared.columns.KeySpec.{KeySpec}
use Rattle.key_orders.specs.declared.columns.Value.{Value}
use Rattle.key_orders.specs.declared.more.MoreSpec.{MoreSpec}
use Rattle.key_orders.specs.declared.Tid.{Tid}
use Rattle.page_write.specs.Bodies.{body_flags, index_body}
use Rattle.page_write.specs.Pages.{FitsBelow}
use Rattle.page_write.specs.Tuples.{fixed_width}
use Rattle.bt_image.specs.Image.{LeafEntry, minus_infinity}
use Rattle.laws_building.specs.Built.{Sheet, Splitter, internal_sheet, is_bottom, items_of, lay_level, leaf_sheets, page_of}
use Rattle.laws_building.specs.Cuts.{joined, page_size, size_sum}
use Rattle.laws_building.specs.Sized.{separator_size}
use Rattle.laws_built_index.specs.Items.{MayBeItem, MaySplit, kept_types, leaf_item, pivot_item}
use Rattle.laws_built_index.specs.Pages.{flags_of, high_items}
use Rattle.laws_built_index.specs.Sizes.{sizes_of}
use Rattle.laws_built_index.specs.Trees.{Children, HasDownlinks, HasItems, IsDownlink, IsPageFit, MayLead, tuples_in}
use Rattle.laws_built_index.proofs.Grouped.{leaf_words}
use Rattle.laws_built_index.proofs.Meanings.{first_is}
use Rattle.laws_built_index.proofs.Room.{separator_words, with_high_key, without}
use Rattle.laws_built_index.proofs.Short.{length_pivot}

-- a page of a level, before it has its links
abbrev pub ItemSheet : Type 0
ItemSheet = Sheet (Separator Value Tid) (List LeafEntry)

-- what an internal page leads to, before the first separator is left out
abbrev pub Link : Type 0
Link = Downlink (Separator Value Tid)

-- a separator that has room beside a page's data items
pub record IsShortSplit (specs : List KeySpec) (s : Separator Value Tid) : Type 0 where
  pub splits : MaySplit specs s
  pub short : length (pivot_item specs 0 s) ≤ 2712

-- there is such a one
pub record HasSplit (specs : List KeySpec) (lower : Option (Separator Value Tid)) : Type 0 where
  pub separator : Separator Value Tid
  pub is : lower ≡ Some separator
  pub fits : IsShortSplit specs separator

-- above each page of a level but the first
abbrev pub AreParted : List KeySpec → List ItemSheet → Type 0
AreParted specs [] = ⊤
AreParted specs (s ∷ sheets) = AllByRecursion (λ t. HasSplit specs t.lower) sheets

pub parted_rest : (specs : List KeySpec) (sheets : List ItemSheet) → AllByRecursion (λ t. HasSplit specs t.lower) sheets → AreParted specs sheets
parted_rest specs [] h = tt
parted_rest specs (s ∷ sheets) h = h.1

-- what a page has may be laid, and has room
pub record IsSheetFit (specs : List KeySpec) (more : List MoreSpec) (leaf : Bool) (s : ItemSheet) : Type 0 where
  pub items : leaf ≡ true → HasItems specs more s.entries s.children
  pub downlinks : leaf ≡ false → HasDownlinks specs s.entries s.children
  pub words : AllByRecursion (λ t. length t % 8 ≡ 0) (tuples_in specs more leaf s.entries s.children)
  pub room : size_sum (λ t. 4 + length t) (tuples_in specs more leaf s.entries s.children) ≤ 5436

-- so may the pages above a level
pub record IsUpperFit (specs : List KeySpec) (more : List MoreSpec) (sheets : List ItemSheet) : Type 0 where
  pub some : sheets ≢ []
  pub each : AllByRecursion (IsSheetFit specs more false) sheets
  pub parted : AreParted specs sheets

few_flags : (leaf root : Bool) → flags_of leaf root < 65536
few_flags true true = omega arith
few_flags true false = omega arith
few_flags false true = omega arith
few_flags false false = omega arith

module _ (specs : List KeySpec) (more : List MoreSpec) where
  -- The pages of a level

  page_fits : (s : ItemSheet) (rest : List ItemSheet) (m prev b : ℕ) → IsSheetFit specs more (is_bottom m) s → AllByRecursion (λ t. HasSplit specs t.lower) rest
      → m < 4294967296 → prev < 4294967296 → b + length rest < 4294967296 → IsPageFit specs more (page_of s rest m prev b)
  page_fits s [] m prev b fits parted low left right = record {
    used = refl;
    alive = refl;
    unsplit = refl;
    high = λ x z. absurd cc;
    high_with_next = refl;
    items = fits.items;
    downlinks = fits.downlinks;
    room = without (tuples_in specs more (is_bottom m) s.entries s.children) (All-from_recursion (λ t. length t % 8 ≡ 0) (tuples_in specs more (is_bottom m) s.entries s.children) fits.words) fits.room;
    fields = record { prev = left; next = omega arith; level = low; flags = few_flags (is_bottom m) ((prev == 0) && true); cycle = omega arith };
  }
  page_fits s (r ∷ rest) m prev b fits parted low left right =
      let h = parted.0 in
      let tuples : List (List ℕ) = tuples_in specs more (is_bottom m) s.entries s.children in
      let there : FitsBelow 8176 (pivot_item specs 0 h.separator ∷ tuples_in specs more (is_bottom m) s.entries s.children) =
      with_high_key (pivot_item specs 0 h.separator) tuples (separator_words specs 0 h.separator) h.fits.short (All-from_recursion (λ t. length t % 8 ≡ 0) tuples fits.words) fits.room in
      record {
        used = refl;
        alive = refl;
        unsplit = refl;
        high = λ x z. let is = h.is in let same : h.separator ≡ x = cc in subst (MaySplit specs) same h.fits.splits;
        high_with_next = ap is_some h.is ∙ sym (ap not (ne_eqb (suc b) 0 (λ z. omega (arith, z))));
        items = fits.items;
        downlinks = fits.downlinks;
        room = subst (λ (o : Option (Separator Value Tid)). FitsBelow 8176 (high_items (option_map (pivot_item specs 0) o) ++ tuples_in specs more (is_bottom m) s.entries s.children)) (sym h.is) there;
        fields = record { prev = left; next = omega (arith, right); level = low; flags = few_flags (is_bottom m) ((prev == 0) && (suc b == 0)); cycle = omega arith };
      }

  pub level_fits : (sheets : List ItemSheet) (m prev b : ℕ) → AllByRecursion (IsSheetFit specs more (is_bottom m)) sheets → AreParted specs sheets
      → m < 4294967296 → prev < 4294967296 → b + length sheets ≤ 4294967296 → AllByRecursion (IsPageFit specs more) (lay_level sheets m prev b)
  level_fits [] m prev b fits parted low left right = tt
  level_fits (s ∷ sheets) m prev b fits parted low left right = (
    page_fits s sheets m prev b fits.0 parted low left (omega (arith, right)),
    level_fits sheets m b (suc b) fits.1 (parted_rest specs sheets parted) low (omega (arith, right)) (omega (arith, right)),
  )

  -- Leaves

  -- a page of items
  pub record IsLeafFit (page : List (List LeafEntry)) : Type 0 where
    pub some : page ≢ []
    pub each : AllByRecursion (MayBeItem specs more) page
    pub room : size_sum (λ es. 4 + length (leaf_item specs more es)) page ≤ 5436

  item_words : (page : List (List LeafEntry)) → AllByRecursion (λ t. length t % 8 ≡ 0) (map (leaf_item specs more) page)
  item_words [] = tt
  item_words (es ∷ page) = (leaf_words specs more es, item_words page)

  item_sizes : (page : List (List LeafEntry)) → size_sum (λ t. 4 + length t) (map (leaf_item specs more) page) ≡ size_sum (λ es. 4 + length (leaf_item specs more es)) page
  item_sizes [] = refl
  item_sizes (es ∷ page) = ap (λ (n : ℕ). 4 + length (leaf_item specs more es) + n) (item_sizes page)

  pub leaves_fit : (k : Splitter (Separator Value Tid) (List LeafEntry)) (pages : List (List (List LeafEntry))) (lower : Option (Separator Value Tid))
      → AllByRecursion IsLeafFit pages → AllByRecursion (IsSheetFit specs more true) (leaf_sheets k pages lower)
  leaves_fit k [] lower fits = tt
  leaves_fit k (page ∷ pages) lower fits =
      let sizes = item_sizes page in
      let small = fits.0.room in (
        record {
          items = λ e. record { none = refl; some = fits.0.some; each = fits.0.each };
          downlinks = λ e. absurd cc;
          words = item_words page;
          room = omega (arith, sizes, small);
        },
        leaves_fit k pages _ fits.1,
      )

  -- Internal pages

  -- a link with a separator, to a block that fits its field
  abbrev pub Leads : Link → Type 0
  Leads d = HasSplit specs d.0 × (d.1 < 4294967296)

  abbrev as_child : Link → Separator Value Tid × ℕ
  as_child d = (unwrap_or d.0 minus_infinity, d.1)

  abbrev size_of : Link → ℕ
  size_of d = separator_size (sizes_of specs more) d.0

  down_links : (ds : List Link) → AllByRecursion Leads ds → AllByRecursion (IsDownlink specs) (map as_child ds)
  down_links [] h = tt
  down_links (d ∷ ds) h =
      let is : unwrap_or d.0 minus_infinity ≡ h.0.0.separator = ap (λ (o : Option (Separator Value Tid)). unwrap_or o minus_infinity) h.0.0.is in
      (record { splits = subst (MaySplit specs) (sym is) h.0.0.fits.splits; block = h.0.1 }, down_links ds h.1)

  pivot_words : (cs : Children) → AllByRecursion (λ t. length t % 8 ≡ 0) (map (λ (c : Separator Value Tid × ℕ). pivot_item specs c.1 c.0) cs)
  pivot_words [] = tt
  pivot_words (c ∷ cs) = (separator_words specs c.1 c.0, pivot_words cs)

  -- a downlink takes no room
  same_length : (down other : ℕ) (s : Separator Value Tid) → length (pivot_item specs down s) ≡ length (pivot_item specs other s)
  same_length down other s =
      let a = length_pivot down (length s.kept) s.tid (body_flags (kept_types specs s) s.kept) (index_body (kept_types specs s) s.kept) in
      let b = length_pivot other (length s.kept) s.tid (body_flags (kept_types specs s) s.kept) (index_body (kept_types specs s) s.kept) in
      a ∙ sym b

  one_size : (o : Option (Separator Value Tid)) (down : ℕ) (s : Separator Value Tid) → o ≡ Some s → 4 + length (pivot_item specs down (unwrap_or o minus_infinity)) ≡ separator_size (sizes_of specs more) o
  one_size o down s is =
      ap (λ (p : Option (Separator Value Tid)). 4 + length (pivot_item specs down (unwrap_or p minus_infinity))) is
      ∙ ap (λ (n : ℕ). 4 + n) (same_length down 0 s)
      ∙ ap (separator_size (sizes_of specs more)) (sym is)

  pivot_sizes : (ds : List Link) → AllByRecursion Leads ds
      → size_sum (λ t. 4 + length t) (map (λ (c : Separator Value Tid × ℕ). pivot_item specs c.1 c.0) (map as_child ds)) ≡ size_sum size_of ds
  pivot_sizes [] h = refl
  pivot_sizes (d ∷ ds) h = λ i. one_size d.0 d.1 h.0.0.separator h.0.0.is i + pivot_sizes ds h.1 i

  first_length : (down : ℕ) → length (pivot_item specs down minus_infinity) ≡ 8
  first_length down = ap (λ (t : List ℕ). length t) (first_is specs down) ∙ length_pivot down 0 None fixed_width []

  module _ (k : Splitter (Separator Value Tid) (List LeafEntry)) (nothing : k.nothing ≡ minus_infinity) where
    -- an internal page of these links
    one_inner : (d : Link) (ds : List Link) → d.1 < 4294967296 → AllByRecursion Leads ds → 12 + size_sum size_of ds ≤ 5436
        → IsSheetFit specs more false (internal_sheet k (d ∷ ds))
    one_inner d ds small leads room =
        let cs : Children = (minus_infinity, d.1) ∷ map as_child ds in
        let first = first_length d.1 in
        let sizes = pivot_sizes ds leads in
        let lead : MayLead specs cs = (refl, small, down_links ds leads) in
        let words : AllByRecursion (λ t. length t % 8 ≡ 0) (tuples_in specs more false [] cs) = pivot_words cs in
        let within : size_sum (λ t. 4 + length t) (tuples_in specs more false [] cs) ≤ 5436 = omega (arith, first, sizes, room) in
        let fit : IsSheetFit specs more false (record { lower = d.0; children = cs; entries = [] }) =
        record { items = λ e. absurd cc; downlinks = λ e. record { none = refl; each = lead }; words = words; room = within } in
        subst (λ (s : Separator Value Tid). IsSheetFit specs more false (record { lower = d.0; children = (s, d.1) ∷ map (λ (c : Link). (unwrap_or c.0 s, c.1)) ds; entries = [] })) (sym nothing) fit

    abbrev within_page : List Link → Type 0
    within_page page = page_size (λ (d : Link). 12) size_of page ≤ 5436

    -- those after the first of a level
    later_inner : (pages : List (List Link)) → AllByRecursion (λ page. page ≢ []) pages → AllByRecursion Leads (joined pages) → AllByRecursion within_page pages
        → AllByRecursion (IsSheetFit specs more false) (map (internal_sheet k) pages) × AllByRecursion (λ t. HasSplit specs t.lower) (map (internal_sheet k) pages)
    later_inner [] filled leads room = (tt, tt)
    later_inner ([] ∷ pages) filled leads room = absurd (filled.0 refl)
    later_inner ((d ∷ ds) ∷ pages) filled leads room =
        let rest = later_inner pages filled.1 (Each-back Leads ds (joined pages) leads.1) room.1 in
        ((one_inner d ds leads.0.1 (Each-front Leads ds (joined pages) leads.1) room.0, rest.0), (leads.0.0, rest.1))

    -- the pages above a level whose first page has no separator
    pub upper_fit : (pages : List (List Link)) (d : Link) (ds : List Link) → joined pages ≡ d ∷ ds → AllByRecursion (λ page. page ≢ []) pages → d.1 < 4294967296 → AllByRecursion Leads ds → AllByRecursion within_page pages
        → IsUpperFit specs more (map (internal_sheet k) pages)
    upper_fit [] d ds whole filled small leads room = absurd cc
    upper_fit ([] ∷ pages) d ds whole filled small leads room = absurd (filled.0 refl)
    upper_fit ((e ∷ es) ∷ pages) d ds whole filled small leads room =
        let first : e ≡ d = cc in
        let others : es ++ joined pages ≡ ds = cc in
        let all : AllByRecursion Leads (es ++ joined pages) = subst (AllByRecursion Leads) (sym others) leads in
        let rest = later_inner pages filled.1 (Each-back Leads es (joined pages) all) room.1 in
        record {
          some = λ z. absurd cc;
          each = (one_inner e es (subst (λ (x : Link). x.1 < 4294967296) (sym first) small) (Each-front Leads es (joined pages) all) room.0, rest.0);
          parted = rest.1;
        }

  -- the links to the pages of a level
  pub links_lead : (sheets : List ItemSheet) (b : ℕ) → AllByRecursion (λ t. HasSplit specs t.lower) sheets → b + length sheets ≤ 4294967296 → AllByRecursion Leads (items_of sheets b)
  links_lead [] b parted few = tt
  links_lead (s ∷ sheets) b parted few = ((parted.0, omega (arith, few)), links_lead sheets (suc b) parted.1 (omega (arith, few)))
