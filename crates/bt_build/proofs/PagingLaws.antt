-- A page that is laid is the next page of its level.
use Rattle.std.proofs.Common.{◌≡◌, ◌≤◌, ◌<◌, ◌+◌, ◌∙◌, ℕ, suc, Bool, true, false, List, [], ◌∷◌, ◌++◌, length, map, take, drop, get_or, refl, sym, ap, subst, arith, add-one, append_assoc}
use Rattle.std.specs.Prelude.{Option, Some, None, is_some, option_map, unwrap_or, not, ◌==◌, if◌then◌else◌}
use Rattle.std.proofs.lemmas.Bool.{ne_eqb}
use Rattle.std.proofs.Math.Seq.{drop-cons, drop-drop}
use Rattle.key_orders.specs.declared.columns.KeySpec.{KeySpec}
use Rattle.key_orders.specs.declared.more.MoreSpec.{MoreSpec}
use Rattle.laws_search.specs.Levels.{Downlink}
use Rattle.bt_image.specs.Image.{LeafEntry, minus_infinity}
use Rattle.page_write.specs.Pages.{FitsBelow, tree_page}
use Rattle.laws_building.specs.Built.{first_lower, internal_sheet, is_bottom, next_block, page_of}
use Rattle.laws_built_index.specs.Items.{leaf_item, pivot_item}
use Rattle.laws_built_index.specs.Pages.{high_items, items_of}
use Rattle.laws_built_index.specs.Trees.{ItemPage, laid_of, page_bytes, tuples_in}
use Rattle.bt_build.specs.declared.groups.Item.{Item}
use Rattle.bt_build.specs.Groups.{entries_in}
use Rattle.bt_build.specs.Laid.{AreLeftToLay, block_behind, bytes_for, high_bound, high_tuples, inner_tuples, later_tuples, leaf_tuples, level_bytes, special_at}
use Rattle.bt_build.specs.Levels.{BeginAt, ItemSheet, Key, downlinks_to, inner_by, items_split, leaves_by, lower_of}
use Rattle.bt_meta.specs.declared.records.Opaque.{Opaque}
use Rattle.bt_build.specs.Separators.{split_before, split_item}
use Rattle.bt_build.proofs.PutLaws.{bytes_append}

module _ (specs : List KeySpec) (ms : List MoreSpec) (es : List LeafEntry) where
  -- The items of a page

  one_high : (o : Option Key) (j : ℕ) → o ≡ split_before specs es j → is_some o ≡ true → high_items (option_map (pivot_item specs 0) o) ≡ split_item specs es j 0 ∷ []
  one_high None j is some = absurd cc
  one_high (Some s) j is some = ap (λ (o : Option Key). pivot_item specs 0 (unwrap_or o minus_infinity) ∷ []) is

  high_is : (rest : List ItemSheet) (bounds : List ℕ) (b : ℕ) → BeginAt specs es rest bounds → is_some (first_lower rest) ≡ not (next_block rest b == 0)
      → high_items (option_map (pivot_item specs 0) (first_lower rest)) ≡ high_tuples specs es (high_bound bounds)
  high_is [] [] b begin some = refl
  high_is [] (j ∷ bounds) b begin some = absurd begin
  high_is (s ∷ rest) [] b begin some = absurd begin
  high_is (s ∷ rest) (j ∷ bounds) b begin some = one_high s.lower j begin.0 (some ∙ ap not (ne_eqb (suc b) 0 (λ z. absurd cc)))

  next_is : (rest : List ItemSheet) (bounds : List ℕ) (b : ℕ) → BeginAt specs es rest bounds → next_block rest b ≡ block_behind b bounds
  next_is [] [] b begin = refl
  next_is [] (j ∷ bounds) b begin = absurd begin
  next_is (s ∷ rest) [] b begin = absurd begin
  next_is (s ∷ rest) (j ∷ bounds) b begin = refl

  leaf_items_are : (here : List Item) → map (leaf_item specs ms) (map (entries_in es) here) ≡ leaf_tuples specs ms es here
  leaf_items_are [] = refl
  leaf_items_are (item ∷ here) = ap (λ (w : List (List ℕ)). leaf_item specs ms (entries_in es item) ∷ w) (leaf_items_are here)

  later_are : (bounds : List ℕ) (b : ℕ) → map (λ (c : Key × ℕ). pivot_item specs c.1 c.0) (map (λ (c : Downlink Key). (unwrap_or c.0 (items_split specs).nothing, c.1)) (downlinks_to specs es bounds b)) ≡ later_tuples specs es bounds b
  later_are [] b = refl
  later_are (j ∷ bounds) b = ap (λ (w : List (List ℕ)). split_item specs es j b ∷ w) (later_are bounds (suc b))

  inner_items_are : (bounds : List ℕ) (b : ℕ) → map (λ (c : Key × ℕ). pivot_item specs c.1 c.0) (internal_sheet (items_split specs) (downlinks_to specs es bounds b)).children ≡ inner_tuples specs es bounds b
  inner_items_are [] b = refl
  inner_items_are (j ∷ bounds) b = ap (λ (w : List (List ℕ)). split_item specs es 0 b ∷ w) (later_are bounds (suc b))

  -- One page

  -- what is known of a page with these items: they have room, and it is the next of its level
  pub record IsNextPage (rest : List ItemSheet) (bounds : List ℕ) (number prev b : ℕ) (out target : List ℕ) (tuples : List (List ℕ)) : Type 0 where
    pub room : bytes_for (high_tuples specs es (high_bound bounds) ++ tuples) ≤ 8152
    pub left : AreLeftToLay specs ms es rest bounds number b (suc b) (out ++ tree_page (high_tuples specs es (high_bound bounds) ++ tuples) (special_at number prev (block_behind b bounds))) target

  next_page : (s : ItemSheet) (rest : List ItemSheet) (j : ℕ) (bounds : List ℕ) (number prev b : ℕ) (out target : List ℕ) (tuples : List (List ℕ)) → AreLeftToLay specs ms es (s ∷ rest) (j ∷ bounds) number prev b out target
      → tuples_in specs ms (is_bottom number) s.entries s.children ≡ tuples → IsNextPage rest bounds number prev b out target tuples
  next_page s rest j bounds number prev b out target tuples left is =
      let p : ItemPage = page_of s rest number prev b in
      let begin = left.begin.1 in
      let items : items_of (laid_of specs ms p) ≡ high_tuples specs es (high_bound bounds) ++ tuples = λ i. high_is rest bounds b begin left.fit.0.high_with_next i ++ is i in
      let fits : FitsBelow 8176 (high_tuples specs es (high_bound bounds) ++ tuples) = subst (FitsBelow 8176) items left.fit.0.room in
      let bytes : page_bytes specs ms p ≡ tree_page (high_tuples specs es (high_bound bounds) ++ tuples) (special_at number prev (block_behind b bounds)) =
      λ i. tree_page (items i) (special_at number prev (next_is rest bounds b begin i)) in
      record {
        room = omega (arith, fits);
        left = record {
          begin = begin;
          fit = left.fit.1;
          whole = append_assoc out (tree_page (high_tuples specs es (high_bound bounds) ++ tuples) (special_at number prev (block_behind b bounds))) (level_bytes specs ms rest number b (suc b))
              ∙ (λ i. out ++ (sym bytes i ++ level_bytes specs ms rest number b (suc b)))
              ∙ left.whole;
        };
      }

  -- where pages are left, so are bounds
  one_bound : (s : ItemSheet) (rest : List ItemSheet) (bounds : List ℕ) → BeginAt specs es (s ∷ rest) bounds → (j : ℕ) × (bounds ≡ j ∷ drop 1 bounds)
  one_bound s rest [] begin = absurd begin
  one_bound s rest (j ∷ bounds) begin = (j, refl)

  pub next_leaf : (n : ℕ) (counts : List ℕ) (items : List Item) (bounds : List ℕ) (prev b : ℕ) (out target : List ℕ) → AreLeftToLay specs ms es (leaves_by specs es (n ∷ counts) items) bounds 0 prev b out target
      → IsNextPage (leaves_by specs es counts (drop n items)) (drop 1 bounds) 0 prev b out target (leaf_tuples specs ms es (take n items))
  next_leaf n counts items bounds prev b out target left =
      let s : ItemSheet = record { lower = lower_of specs es items; children = []; entries = map (entries_in es) (take n items) } in
      let one = one_bound s (leaves_by specs es counts (drop n items)) bounds left.begin in
      let here = subst (λ (w : List ℕ). AreLeftToLay specs ms es (leaves_by specs es (n ∷ counts) items) w 0 prev b out target) one.1 left in
      next_page s (leaves_by specs es counts (drop n items)) one.0 (drop 1 bounds) 0 prev b out target (leaf_tuples specs ms es (take n items)) here (leaf_items_are (take n items))

  inner_tuples_are : (bounds : List ℕ) (b : ℕ) → tuples_in specs ms false (internal_sheet (items_split specs) (downlinks_to specs es bounds b)).entries (internal_sheet (items_split specs) (downlinks_to specs es bounds b)).children ≡ inner_tuples specs es bounds b
  inner_tuples_are bounds b = inner_items_are bounds b

  pub next_inner : (n : ℕ) (counts below : List ℕ) (down : ℕ) (bounds : List ℕ) (number prev b : ℕ) (out target : List ℕ) → AreLeftToLay specs ms es (inner_by specs es (n ∷ counts) below down) bounds (suc number) prev b out target
      → IsNextPage (inner_by specs es counts (drop n below) (down + n)) (drop 1 bounds) (suc number) prev b out target (inner_tuples specs es (take n below) down)
  next_inner n counts below down bounds number prev b out target left =
      let s : ItemSheet = internal_sheet (items_split specs) (downlinks_to specs es (take n below) down) in
      let one = one_bound s (inner_by specs es counts (drop n below) (down + n)) bounds left.begin in
      let here = subst (λ (w : List ℕ). AreLeftToLay specs ms es (inner_by specs es (n ∷ counts) below down) w (suc number) prev b out target) one.1 left in
      next_page s (inner_by specs es counts (drop n below) (down + n)) one.0 (drop 1 bounds) (suc number) prev b out target (inner_tuples specs es (take n below) down) here (inner_tuples_are (take n below) down)

  -- One turn of a level

  pub leaf_turn : (counts bounds : List ℕ) (p prev b n : ℕ) (left here rest : List Item) (out target : List ℕ) → p < length counts → n ≡ get_or counts p 0 → here ≡ take n left → rest ≡ drop n left
      → AreLeftToLay specs ms es (leaves_by specs es (drop p counts) left) (drop p bounds) 0 prev b out target
      → IsNextPage (leaves_by specs es (drop (p + 1) counts) rest) (drop (p + 1) bounds) 0 prev b out target (leaf_tuples specs ms es here)
  leaf_turn counts bounds p prev b n left here rest out target lt n_is here_is rest_is to_lay =
      let first = subst (λ (w : List ℕ). AreLeftToLay specs ms es (leaves_by specs es w left) (drop p bounds) 0 prev b out target) (drop-cons counts p 0 lt) to_lay in
      let next = next_leaf (get_or counts p 0) (drop (suc p) counts) left (drop p bounds) prev b out target first in
      subst (λ (w : List ℕ × List Item × List ℕ × List Item). IsNextPage (leaves_by specs es w.0 w.1) w.2 0 prev b out target (leaf_tuples specs ms es w.3))
      (λ i. (drop (sym (add-one p) i) counts, (ap (λ (k : ℕ). drop k left) (sym n_is) ∙ sym rest_is) i, drop-drop 1 p bounds i, (ap (λ (k : ℕ). take k left) (sym n_is) ∙ sym here_is) i)) next

  pub inner_turn : (counts bounds : List ℕ) (p number prev b n down : ℕ) (left here rest : List ℕ) (out target : List ℕ) → p < length counts → n ≡ get_or counts p 0 → here ≡ take n left → rest ≡ drop n left
      → AreLeftToLay specs ms es (inner_by specs es (drop p counts) left down) (drop p bounds) (suc number) prev b out target
      → IsNextPage (inner_by specs es (drop (p + 1) counts) rest (down + n)) (drop (p + 1) bounds) (suc number) prev b out target (inner_tuples specs es here down)
  inner_turn counts bounds p number prev b n down left here rest out target lt n_is here_is rest_is to_lay =
      let first = subst (λ (w : List ℕ). AreLeftToLay specs ms es (inner_by specs es w left down) (drop p bounds) (suc number) prev b out target) (drop-cons counts p 0 lt) to_lay in
      let next = next_inner (get_or counts p 0) (drop (suc p) counts) left down (drop p bounds) number prev b out target first in
      subst (λ (w : List ℕ × List ℕ × List ℕ × List ℕ × ℕ). IsNextPage (inner_by specs es w.0 w.1 w.4) w.2 (suc number) prev b out target (inner_tuples specs es w.3 down))
      (λ i. (drop (sym (add-one p) i) counts, (ap (λ (k : ℕ). drop k left) (sym n_is) ∙ sym rest_is) i, drop-drop 1 p bounds i, (ap (λ (k : ℕ). take k left) (sym n_is) ∙ sym here_is) i, down + sym n_is i)) next

  -- its items have room behind the high key
  pub room_behind : (rest : List ItemSheet) (bounds : List ℕ) (number prev b : ℕ) (out target : List ℕ) (tuples : List (List ℕ)) (high : Option ℕ) (free : ℕ) → IsNextPage rest bounds number prev b out target tuples → high ≡ high_bound bounds
      → free + bytes_for (high_tuples specs es high) ≡ 8152 → bytes_for tuples ≤ free
  room_behind rest bounds number prev b out target tuples high free next high_is begun =
      let a = bytes_append (high_tuples specs es (high_bound bounds)) tuples in
      let same = ap (λ (o : Option ℕ). bytes_for (high_tuples specs es o)) high_is in
      omega (arith, a, next.room, begun, same)

  -- it is laid
  pub page_laid : (rest : List ItemSheet) (bounds : List ℕ) (number prev b : ℕ) (out new target : List ℕ) (tuples : List (List ℕ)) (high : Option ℕ) (special : Opaque) (next_block : ℕ) (more : Bool) → IsNextPage rest bounds number prev b out target tuples
      → high ≡ high_bound bounds → more ≡ is_some high → next_block ≡ (if more then suc b else 0) → special ≡ special_at number prev next_block
      → new ≡ out ++ tree_page (high_tuples specs es high ++ tuples) special → AreLeftToLay specs ms es rest bounds number b (b + 1) new target
  page_laid rest bounds number prev b out new target tuples high special next_block more next high_is more_is block_is special_is laid =
      let block : next_block ≡ block_behind b bounds = block_is ∙ ap (λ (t : Bool). if t then suc b else 0) (more_is ∙ ap is_some high_is) in
      let special' : special ≡ special_at number prev (block_behind b bounds) = special_is ∙ ap (special_at number prev) block in
      let bytes : out ++ tree_page (high_tuples specs es (high_bound bounds) ++ tuples) (special_at number prev (block_behind b bounds)) ≡ new =
      (λ i. out ++ tree_page (high_tuples specs es (sym high_is i) ++ tuples) (sym special' i)) ∙ sym laid in
      subst (λ (w : ℕ × List ℕ). AreLeftToLay specs ms es rest bounds number b w.0 w.1 target) (λ i. (sym (add-one b) i, bytes i)) next.left
