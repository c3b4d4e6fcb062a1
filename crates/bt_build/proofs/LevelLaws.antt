-- The levels that are counted are those of the tree.
use Rattle.std.proofs.Common.{◌≡◌, ◌≤◌, ◌<◌, ◌+◌, ◌-◌, ◌∙◌, ℕ, zero, suc, Bool, true, false, cond, List, [], ◌∷◌, length, map, take, drop, refl, sym, ap, subst, arith, length-drop}
use Rattle.std.specs.Prelude.{Option, Some, None, unwrap_or, ⊤}
use Rattle.std.specs.List.{AllByRecursion}
use Rattle.std.proofs.Math.Seq.{drop-drop}
use Rattle.laws_search.specs.Levels.{Downlink, is_single}
use Rattle.laws_search.specs.Search.{last_or}
use Rattle.key_orders.specs.declared.columns.KeySpec.{KeySpec}
use Rattle.key_orders.specs.declared.more.MoreSpec.{MoreSpec}
use Rattle.bt_image.specs.Image.{LeafEntry, minus_infinity}
use Rattle.laws_building.specs.Built.{block_after, gap, internal_sheet, items_of, leaf_sheets, levels_from}
use Rattle.laws_building.specs.Seen.{item_key, splitter_by}
use Rattle.laws_building.specs.Sized.{internal_pages, separator_size}
use Rattle.laws_building.proofs.Tower.{block_after_is}
use Rattle.laws_built_index.specs.Items.{pivot_item}
use Rattle.laws_built_index.specs.Sizes.{entry_in, sizes_of, splitter_of}
use Rattle.bt_build.specs.declared.groups.Item.{Item}
use Rattle.bt_build.specs.declared.levels.Level.{Level}
use Rattle.bt_build.specs.Groups.{Follow, IsItem, entries_in}
use Rattle.bt_build.specs.Levels.{AreAbove, ArePages, BeginAt, IsLevelAbove, ItemSheet, Key, at_firsts, downlinks_to, firsts_in, inner_by, items_split, leaves_by, sheets_above, split_sizes}
use Rattle.bt_build.specs.Pages.{cut_by, page_counts}
use Rattle.bt_build.specs.Separators.{first_split, split_before}
use Rattle.bt_build.proofs.CountLaws.{pages_are}
use Rattle.bt_build.proofs.PageLaws.{one_each, some_page}
use Rattle.bt_build.proofs.SeparatorLaws.{nothing_long}

-- Lists

take_mapped : {X Y : Type 0} (f : X → Y) (n : ℕ) (xs : List X) → take n (map f xs) ≡ map f (take n xs)
take_mapped f zero xs = refl
take_mapped f (suc n) [] = refl
take_mapped f (suc n) (x ∷ xs) = λ i. f x ∷ take_mapped f n xs i

drop_mapped : {X Y : Type 0} (f : X → Y) (n : ℕ) (xs : List X) → drop n (map f xs) ≡ map f (drop n xs)
drop_mapped f zero xs = refl
drop_mapped f (suc n) [] = refl
drop_mapped f (suc n) (x ∷ xs) = drop_mapped f n xs

last_mapped : {X Y : Type 0} (f : X → Y) (x : X) (xs : List X) → last_or (f x) (map f xs) ≡ f (last_or x xs)
last_mapped f x [] = refl
last_mapped f x (y ∷ ys) = last_mapped f y ys

-- the last of a front
last_taken : {X : Type 0} (x : X) (xs : List X) (n : ℕ) → n ≤ length xs → drop n (x ∷ xs) ≡ last_or x (take n xs) ∷ drop n xs
last_taken x xs zero le = refl
last_taken x [] (suc n) le = absurd (omega (arith, le))
last_taken x (y ∷ ys) (suc n) le = last_taken y ys n (omega (arith, le))

pub all_after : {X : Type 0} (P : X → Type 0) (n : ℕ) (xs : List X) → AllByRecursion P xs → AllByRecursion P (drop n xs)
all_after P zero xs all = all
all_after P (suc n) [] all = all
all_after P (suc n) (x ∷ xs) all = all_after P n xs all.1

module _ (specs : List KeySpec) (ms : List MoreSpec) (es : List LeafEntry) where
  -- Leaves

  -- of two neighbouring items
  seam : (xs ys : List LeafEntry) (n m : ℕ) → suc n ≤ length xs → 0 < length ys → drop (suc n) xs ≡ ys
      → Some (item_key (splitter_by entry_in (splitter_of specs)) (take (suc n) xs) (take (suc m) ys)) ≡ first_split specs (drop n xs)
  seam [] ys n m le some is = absurd (omega (arith, le))
  seam (x ∷ xs) [] n m le some is = absurd (omega (arith, some))
  seam (x ∷ xs) (y ∷ ys) n m le some is =
      sym (ap (first_split specs) (last_taken x xs n (omega (arith, le)) ∙ ap (λ (w : List LeafEntry). last_or x (take n xs) ∷ w) is))

  between_items : (a b : Item) → IsItem specs ms es a → IsItem specs ms es b → b.first ≡ a.first + a.count
      → Some (item_key (splitter_by entry_in (splitter_of specs)) (entries_in es a) (entries_in es b)) ≡ split_before specs es b.first
  between_items a b is_a is_b next = by_count a.count b.count refl refl
    where
      by_count : (n m : ℕ) → a.count ≡ n → b.count ≡ m → Some (item_key (splitter_by entry_in (splitter_of specs)) (entries_in es a) (entries_in es b)) ≡ split_before specs es b.first
      by_count zero m p q = absurd (omega (arith, p, is_a.some))
      by_count (suc n) zero p q = absurd (omega (arith, q, is_b.some))
      by_count (suc n) (suc m) p q =
          let start : b.first ≡ suc (a.first + n) = omega (arith, next, p) in
          let long : suc n ≤ length (drop a.first es) = let l = length-drop a.first es in omega (arith, l, p, is_a.within) in
          let more : 0 < length (drop b.first es) = let l = length-drop b.first es in omega (arith, l, is_b.some, is_b.within) in
          let follows : drop (suc n) (drop a.first es) ≡ drop b.first es = drop-drop (suc n) a.first es ∙ ap (λ (k : ℕ). drop k es) (omega (arith, start)) in
          (λ i. Some (item_key (splitter_by entry_in (splitter_of specs)) (take (p i) (drop a.first es)) (take (q i) (drop b.first es))))
          ∙ seam (drop a.first es) (drop b.first es) n m long more follows
          ∙ ap (first_split specs) (drop-drop n a.first es)
          ∙ ap (split_before specs es) (sym start)

  -- the last item of a front, and the item after it
  next_starts : (a : Item) (items : List Item) (b : Item) (rest : List Item) (n first end : ℕ) → Follow first (a ∷ items) end → drop n items ≡ b ∷ rest → n ≤ length items
      → b.first ≡ (last_or a (take n items)).first + (last_or a (take n items)).count
  next_starts a items b rest zero first end follow is le =
      let there = subst (λ (w : List Item). Follow (first + a.count) w end) is follow.1 in
      omega (arith, there.0, follow.0)
  next_starts a [] b rest (suc n) first end follow is le = absurd (omega (arith, le))
  next_starts a (c ∷ items) b rest (suc n) first end follow is le = next_starts c items b rest n (first + a.count) end follow.1 is (omega (arith, le))

  last_is : (P : Item → Type 0) (a : Item) (items : List Item) (n : ℕ) → P a → AllByRecursion P items → P (last_or a (take n items))
  last_is P a items zero p all = p
  last_is P a [] (suc n) p all = p
  last_is P a (c ∷ items) (suc n) p all = last_is P c items n all.0 all.1

  follow_after : (items : List Item) (n first end : ℕ) → Follow first items end → n ≤ length items → (other : ℕ) × Follow other (drop n items) end
  follow_after items zero first end follow le = (first, follow)
  follow_after [] (suc n) first end follow le = absurd (omega (arith, le))
  follow_after (a ∷ items) (suc n) first end follow le = follow_after items n (first + a.count) end follow.1 (omega (arith, le))

  abbrev pub IsLowerOf : Option Key → List Item → Type 0
  IsLowerOf lower [] = ⊤
  IsLowerOf lower (item ∷ items) = lower ≡ split_before specs es item.first

  -- the separator between a page and those after it
  gap_is : (a : Item) (items rest : List Item) (n m first end : ℕ) (pages : List (List (List LeafEntry))) → AllByRecursion (IsItem specs ms es) (a ∷ items) → Follow first (a ∷ items) end → n ≤ length items
      → rest ≡ drop n items → 0 < length rest
      → IsLowerOf (gap (items_split specs) (take (suc n) (map (entries_in es) (a ∷ items))) (take (suc m) (map (entries_in es) rest) ∷ pages)) rest
  gap_is a items [] n m first end pages each follow le is some = tt
  gap_is a items (b ∷ rest) n m first end pages each follow le is some =
      let last : Item = last_or a (take n items) in
      let there : AllByRecursion (IsItem specs ms es) (b ∷ rest) = subst (AllByRecursion (IsItem specs ms es)) (sym is) (all_after (IsItem specs ms es) n items each.1) in
      let mapped : last_or (entries_in es a) (take n (map (entries_in es) items)) ≡ entries_in es last =
      ap (last_or (entries_in es a)) (take_mapped (entries_in es) n items) ∙ last_mapped (entries_in es) a (take n items) in
      (λ i. Some (item_key (splitter_by entry_in (splitter_of specs)) (mapped i) (entries_in es b)))
      ∙ between_items last b (last_is (IsItem specs ms es) a items n each.0 each.1) there.0 (next_starts a items b rest n first end follow (sym is) le)

  pub leaves_are : (counts : List ℕ) (items : List Item) (first end : ℕ) (lower : Option Key) → ArePages counts (length items) → AllByRecursion (IsItem specs ms es) items → Follow first items end → IsLowerOf lower items
      → leaf_sheets (items_split specs) (cut_by counts (map (entries_in es) items)) lower ≡ leaves_by specs es counts items
  leaves_are [] items first end lower pages each follow is = refl
  leaves_are (zero ∷ counts) items first end lower pages each follow is = absurd (omega (arith, pages.0))
  leaves_are (suc n ∷ counts) [] first end lower pages each follow is = absurd (omega (arith, pages.1))
  leaves_are (suc n ∷ counts) (a ∷ items) first end lower pages each follow is =
      let le : n ≤ length items = omega (arith, pages.1) in
      let left : length (a ∷ items) - suc n ≡ length (drop n items) = let l = length-drop n items in omega (arith, l) in
      let rest_pages : ArePages counts (length (drop n items)) = subst (ArePages counts) left pages.2 in
      let on = follow_after (a ∷ items) (suc n) first end follow (omega (arith, le)) in
      let cut : drop (suc n) (map (entries_in es) (a ∷ items)) ≡ map (entries_in es) (drop n items) = drop_mapped (entries_in es) n items in
      let page : take (suc n) (map (entries_in es) (a ∷ items)) ≡ map (entries_in es) (take (suc n) (a ∷ items)) = take_mapped (entries_in es) (suc n) (a ∷ items) in
      let below = gap_by counts (drop n items) refl rest_pages in
      (λ i. record { lower = is i; children = []; entries = page i }
      ∷ leaf_sheets (items_split specs) (cut_by counts (cut i)) (gap (items_split specs) (take (suc n) (map (entries_in es) (a ∷ items))) (cut_by counts (cut i))))
      ∙ ap (λ (w : List ItemSheet). record { lower = split_before specs es a.first; children = []; entries = map (entries_in es) (take (suc n) (a ∷ items)) } ∷ w)
      (leaves_are counts (drop n items) on.0 end _ rest_pages (all_after (IsItem specs ms es) n items each.1) on.1 below)
    where
      gap_by : (counts : List ℕ) (rest : List Item) → rest ≡ drop n items → ArePages counts (length rest)
          → IsLowerOf (gap (items_split specs) (take (suc n) (map (entries_in es) (a ∷ items))) (cut_by counts (map (entries_in es) rest))) rest
      gap_by counts [] is pages = tt
      gap_by [] (b ∷ rest) is pages = absurd (omega (arith, pages))
      gap_by (zero ∷ counts) (b ∷ rest) is parts = absurd (omega (arith, parts.0))
      gap_by (suc m ∷ counts) (b ∷ rest) is parts =
          gap_is a items (b ∷ rest) n m first end (cut_by counts (drop (suc m) (map (entries_in es) (b ∷ rest)))) each follow (omega (arith, pages.1)) is (omega arith)

  pub leaves_begin : (counts : List ℕ) (items : List Item) → ArePages counts (length items) → BeginAt specs es (leaves_by specs es counts items) (at_firsts counts (firsts_in items))
  leaves_begin [] items pages = tt
  leaves_begin (zero ∷ counts) items pages = absurd (omega (arith, pages.0))
  leaves_begin (suc n ∷ counts) [] pages = absurd (omega (arith, pages.1))
  leaves_begin (suc n ∷ counts) (a ∷ items) pages =
      let left : length (a ∷ items) - suc n ≡ length (drop n items) = let l = length-drop n items in omega (arith, l) in
      let rest = leaves_begin counts (drop n items) (subst (ArePages counts) left pages.2) in
      (refl, subst (λ (w : List ℕ). BeginAt specs es (leaves_by specs es counts (drop n items)) (at_firsts counts w)) (sym (drop_mapped (λ (item : Item). item.first) n items)) rest)

  -- Levels above

  pub downlinks_are : (sheets : List ItemSheet) (bounds : List ℕ) (b : ℕ) → BeginAt specs es sheets bounds → items_of sheets b ≡ downlinks_to specs es bounds b
  downlinks_are [] [] b begin = refl
  downlinks_are [] (j ∷ bounds) b begin = absurd begin
  downlinks_are (s ∷ sheets) [] b begin = absurd begin
  downlinks_are (s ∷ sheets) (j ∷ bounds) b begin = λ i. (begin.0 i, b) ∷ downlinks_are sheets bounds (suc b) begin.1 i

  size_by : (o : Option Key) → separator_size (sizes_of specs ms) o ≡ length (pivot_item specs 0 (unwrap_or o minus_infinity)) + 4
  size_by None = let n = nothing_long specs 0 in omega (arith, n)
  size_by (Some s) = omega arith

  sizes_are : (bounds : List ℕ) (b : ℕ) → map (λ (d : Downlink Key). separator_size (sizes_of specs ms) d.0) (downlinks_to specs es bounds b) ≡ split_sizes specs es bounds
  sizes_are [] b = refl
  sizes_are (j ∷ bounds) b = λ i. size_by (split_before specs es j) i ∷ sizes_are bounds (suc b) i

  take_downlinks : (n : ℕ) (bounds : List ℕ) (b : ℕ) → take n (downlinks_to specs es bounds b) ≡ downlinks_to specs es (take n bounds) b
  take_downlinks zero bounds b = refl
  take_downlinks (suc n) [] b = refl
  take_downlinks (suc n) (j ∷ bounds) b = λ i. (split_before specs es j, b) ∷ take_downlinks n bounds (suc b) i

  drop_downlinks : (n : ℕ) (bounds : List ℕ) (b : ℕ) → drop n (downlinks_to specs es bounds b) ≡ downlinks_to specs es (drop n bounds) (b + n)
  drop_downlinks zero bounds b = let z : b ≡ b + 0 = omega arith in ap (downlinks_to specs es bounds) z
  drop_downlinks (suc n) [] b = refl
  drop_downlinks (suc n) (j ∷ bounds) b = let e : suc b + n ≡ b + suc n = omega arith in drop_downlinks n bounds (suc b) ∙ ap (downlinks_to specs es (drop n bounds)) e

  inner_are : (counts bounds : List ℕ) (b : ℕ) → map (internal_sheet (items_split specs)) (cut_by counts (downlinks_to specs es bounds b)) ≡ inner_by specs es counts bounds b
  inner_are [] bounds b = refl
  inner_are (n ∷ counts) bounds b =
      (λ i. internal_sheet (items_split specs) (take_downlinks n bounds b i) ∷ map (internal_sheet (items_split specs)) (cut_by counts (drop_downlinks n bounds b i)))
      ∙ ap (λ (w : List ItemSheet). internal_sheet (items_split specs) (downlinks_to specs es (take n bounds) b) ∷ w) (inner_are counts (drop n bounds) (b + n))

  pub level_is : (sheets : List ItemSheet) (bounds : List ℕ) (b : ℕ) → BeginAt specs es sheets bounds
      → map (internal_sheet (items_split specs)) (internal_pages (sizes_of specs ms) (items_of sheets b)) ≡ inner_by specs es (page_counts (Some 12) 5436 (split_sizes specs es bounds)) bounds b
  level_is sheets bounds b begin =
      ap (λ (w : List (Downlink Key)). map (internal_sheet (items_split specs)) (internal_pages (sizes_of specs ms) w)) (downlinks_are sheets bounds b begin)
      ∙ ap (map (internal_sheet (items_split specs))) (pages_are (Some 12) (λ (d : Downlink Key). separator_size (sizes_of specs ms) d.0) 5436 (downlinks_to specs es bounds b))
      ∙ ap (λ (w : List ℕ). map (internal_sheet (items_split specs)) (cut_by (page_counts (Some 12) 5436 w) (downlinks_to specs es bounds b))) (sizes_are bounds b)
      ∙ inner_are (page_counts (Some 12) 5436 (split_sizes specs es bounds)) bounds b

  pub inner_begin : (counts bounds : List ℕ) (b : ℕ) → ArePages counts (length bounds) → BeginAt specs es (inner_by specs es counts bounds b) (at_firsts counts bounds)
  inner_begin [] bounds b pages = tt
  inner_begin (zero ∷ counts) bounds b pages = absurd (omega (arith, pages.0))
  inner_begin (suc n ∷ counts) [] b pages = absurd (omega (arith, pages.1))
  inner_begin (suc n ∷ counts) (j ∷ bounds) b pages =
      let left : length (j ∷ bounds) - suc n ≡ length (drop n bounds) = let l = length-drop n bounds in omega (arith, l) in
      (refl, inner_begin counts (drop n bounds) (b + suc n) (subst (ArePages counts) left pages.2))

  pub begin_length : (sheets : List ItemSheet) (bounds : List ℕ) → BeginAt specs es sheets bounds → length sheets ≡ length bounds
  begin_length [] [] begin = refl
  begin_length [] (j ∷ bounds) begin = absurd begin
  begin_length (s ∷ sheets) [] begin = absurd begin
  begin_length (s ∷ sheets) (j ∷ bounds) begin = ap suc (begin_length sheets bounds begin.1)

  -- The tower

  is_one : {X : Type 0} (xs : List X) → length xs ≡ 1 → is_single xs ≡ true
  is_one [] one = absurd (omega (arith, one))
  is_one (x ∷ []) one = refl
  is_one (x ∷ y ∷ xs) one = absurd (omega (arith, one))

  is_more : {X : Type 0} (xs : List X) → 1 < length xs → is_single xs ≡ false
  is_more [] more = refl
  is_more (x ∷ []) more = absurd (omega (arith, more))
  is_more (x ∷ y ∷ xs) more = refl

  pub above_begin : (below up : Level) → IsLevelAbove specs es below up → BeginAt specs es (inner_by specs es up.counts.items below.bounds.items below.first) up.bounds.items
  above_begin below up above =
      subst (BeginAt specs es (inner_by specs es up.counts.items below.bounds.items below.first)) (sym above.bounds)
      (inner_begin up.counts.items below.bounds.items below.first above.pages)

  pub up_some : (below up : Level) → IsLevelAbove specs es below up → 0 < length below.bounds.items → 0 < length up.bounds.items
  up_some below up above some =
      let a = some_page up.counts.items (length below.bounds.items) above.pages some in
      let b = ap length above.bounds in
      let c = one_each up.counts.items below.bounds.items in
      omega (arith, a, b, c)

  pub fewer_levels : (below : Level) (ups : List Level) (end : ℕ) → AreAbove specs es below ups end → 0 < length below.bounds.items → length ups < length below.bounds.items
  fewer_levels below [] end above some = omega (arith, some)
  fewer_levels below (up ∷ ups) end above some =
      let r = fewer_levels up ups end above.2 (up_some below up above.1 some) in
      omega (arith, r, above.0, above.1.half)

  pub tower_is : (n : ℕ) (sheets : List ItemSheet) (below : Level) (ups : List Level) (end : ℕ) → BeginAt specs es sheets below.bounds.items → AreAbove specs es below ups end → 0 < length below.bounds.items → length ups < n
      → levels_from (items_split specs) (internal_pages (sizes_of specs ms)) n sheets below.first ≡ sheets ∷ sheets_above specs es below ups
  tower_is zero sheets below ups end begin above some fuel = absurd (omega (arith, fuel))
  tower_is (suc n) sheets below [] end begin above some fuel =
      let one : is_single sheets ≡ true = is_one sheets (let l = begin_length sheets below.bounds.items begin in omega (arith, l, above.0, some)) in
      ap (λ (t : Bool). cond {A = List (List ItemSheet)} t (sheets ∷ []) (sheets ∷ levels_from (items_split specs) (internal_pages (sizes_of specs ms)) n (map (internal_sheet (items_split specs)) (internal_pages (sizes_of specs ms) (items_of sheets below.first))) (block_after sheets below.first))) one
  tower_is (suc n) sheets below (up ∷ ups) end begin above some fuel =
      let k = items_split specs in
      let cut : List (Downlink Key) → List (List (Downlink Key)) = internal_pages (sizes_of specs ms) in
      let l = begin_length sheets below.bounds.items begin in
      let more : is_single sheets ≡ false = is_more sheets (omega (arith, l, above.0)) in
      let up_is : map (internal_sheet k) (cut (items_of sheets below.first)) ≡ inner_by specs es up.counts.items below.bounds.items below.first =
      level_is sheets below.bounds.items below.first begin ∙ ap (λ (w : List ℕ). inner_by specs es w below.bounds.items below.first) (sym above.1.counts) in
      let next : block_after sheets below.first ≡ up.first = block_after_is sheets below.first ∙ omega (arith, l, above.1.first) in
      ap (λ (t : Bool). cond {A = List (List ItemSheet)} t (sheets ∷ []) (sheets ∷ levels_from k cut n (map (internal_sheet k) (cut (items_of sheets below.first))) (block_after sheets below.first))) more
      ∙ (λ i. sheets ∷ levels_from k cut n (up_is i) (next i))
      ∙ ap (λ (w : List (List ItemSheet)). sheets ∷ w)
      (tower_is n (inner_by specs es up.counts.items below.bounds.items below.first) up ups end (above_begin below up above.1) above.2 (up_some below up above.1 some) (omega (arith, fuel)))
