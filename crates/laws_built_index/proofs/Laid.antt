-- The bytes of a tree of items.
use Rattle.std.proofs.Common.{◌≡◌, ◌≢◌, ◌<◌, inl, inr, ℕ, Bool, true, false, ◌&&◌, cond, not, List, [], ◌∷◌, ◌++◌, map, refl, sym, ap, ◌∙◌, arith, subst}
use Rattle.std.specs.Prelude.{Option, Some, None, is_some, option_map}
use Rattle.std.specs.List.{AllByRecursion, flat_map}
use Rattle.std.specs.Option.{ForSome}
use Rattle.std.proofs.lemmas.Bool.{cond-false, ne_eqb}
use Rattle.std.proofs.lemmas.List.{map-append}
use Rattle.laws_search.specs.Keys.{Separator}
use Rattle.laws_search.specs.Search.{entries_of, leaf_entries, tree_blocks}
use Rattle.laws_search.proofs.Lists.{In}
use Rattle.laws_search.proofs.Gather.{block_of}
use Rattle.key_orders.specs.declared.columns.KeySpec.{KeySpec}
use Rattle.key_orders.specs.declared.columns.Value.{Value}
use Rattle.key_orders.specs.declared.more.MoreSpec.{MoreSpec}
use Rattle.key_orders.specs.declared.Tid.{Tid}
use Rattle.bt_meta.specs.Pages.{meta_of}
use Rattle.bt_tuples.specs.Items.{Pivot, meaning_of}
use Rattle.bt_image.specs.Image.{LeafEntry, child_in, entries_in, index_entries, index_image, keys_in, leaf_entries_with_more, minus_infinity, page_image, separator_in}
use Rattle.page_write.proofs.Reading.{meta_numbers}
use Rattle.laws_building.specs.Built.{IsLaidAs}
use Rattle.laws_building.specs.Cuts.{joined}
use Rattle.laws_building.specs.Seen.{index_seen, page_seen}
use Rattle.laws_built_index.specs.Items.{IsRead, MayBeItem, MaySplit, leaf_item, pivot_item}
use Rattle.laws_built_index.specs.Files.{AreBlocksOf}
use Rattle.laws_built_index.specs.Pages.{IsLaidWell, laid_image, means}
use Rattle.laws_built_index.proofs.Images.{entries_are, image_is}
use Rattle.laws_built_index.specs.Trees.{IsDownlink, IsPageFit, IsTreeFit, ItemPage, ItemTree, MayLead, built_block, keys_of, laid_of, meta_in, page_bytes}

-- both answers of a test
by_leaf : {X : Type 0} (P : X → Type 0) (b : Bool) (x y : X) → (b ≡ true → P x) → (b ≡ false → P y) → P (cond b x y)
by_leaf P true x y f g = f refl
by_leaf P false x y f g = g refl

-- a page that may be laid is laid well
module _ (specs : List KeySpec) (more : List MoreSpec) where
  some_mapped : {X Y : Type 0} (f : X → Y) (xs : List X) → xs ≢ [] → map f xs ≢ []
  some_mapped f [] some = absurd (some refl)
  some_mapped f (x ∷ xs) some = λ z. absurd cc

  some_children : (cs : List (Separator Value Tid × ℕ)) → MayLead specs cs → cs ≢ []
  some_children [] may = absurd may
  some_children (c ∷ cs) may = λ z. absurd cc

  same_some : (high : Option (Separator Value Tid)) → is_some (option_map (pivot_item specs 0) high) ≡ is_some high
  same_some None = refl
  same_some (Some s) = refl

  pub laid_well : (p : ItemPage) → IsPageFit specs more p → IsLaidWell (laid_of specs more p)
  laid_well p fit = record {
    room = fit.room;
    fields = fit.fields;
    high_with_next = same_some p.high_key ∙ fit.high_with_next;
    some = by_leaf (λ (ts : List (List ℕ)). ts ≢ []) p.leaf (map (leaf_item specs more) p.entries) (map (λ (c : Separator Value Tid × ℕ). pivot_item specs c.1 c.0) p.children)
        (λ leaf. some_mapped (leaf_item specs more) p.entries (fit.items leaf).some)
        (λ inner. some_mapped (λ (c : Separator Value Tid × ℕ). pivot_item specs c.1 c.0) p.children (some_children p.children (fit.downlinks inner).each));
  }

module _ (specs : List KeySpec) (more : List MoreSpec)
    (reads : (es : List LeafEntry) → MayBeItem specs more es → IsRead specs more (leaf_item specs more es) es)
    (splits : (down : ℕ) (s : Separator Value Tid) → down < 4294967296 → MaySplit specs s → meaning_of specs more (pivot_item specs down s) false ≡ Pivot s down)
    (nothing : (down : ℕ) → down < 4294967296 → meaning_of specs more (pivot_item specs down minus_infinity) false ≡ Pivot minus_infinity down) where
  item_entries : (es : List LeafEntry) → MayBeItem specs more es → entries_in (means specs more (leaf_item specs more es)) ≡ es
  item_entries es may = let r = reads es may in ap entries_in r.meaning ∙ r.entries

  all_entries : (items : List (List LeafEntry)) → AllByRecursion (MayBeItem specs more) items → flat_map (λ t. entries_in (means specs more t)) (map (leaf_item specs more) items) ≡ joined items
  all_entries [] may = refl
  all_entries (es ∷ items) may = λ i. item_entries es may.0 i ++ all_entries items may.1 i

  all_keys : (items : List (List LeafEntry)) → AllByRecursion (MayBeItem specs more) items → flat_map (λ t. keys_in (means specs more t)) (map (leaf_item specs more) items) ≡ keys_of items
  all_keys [] may = refl
  all_keys (es ∷ items) may =
      (λ i. map (λ e. e.entry) (item_entries es may.0 i) ++ all_keys items may.1 i)
      ∙ sym (map-append (λ (e : LeafEntry). e.entry) es (joined items))

  high_is : (high : Option (Separator Value Tid)) → ForSome high (MaySplit specs) → option_map (λ h. separator_in (means specs more h)) (option_map (pivot_item specs 0) high) ≡ high
  high_is None may = refl
  high_is (Some s) may = ap (λ m. Some (separator_in m)) (splits 0 s (omega arith) (may s refl))

  others_are : (cs : List (Separator Value Tid × ℕ)) → AllByRecursion (IsDownlink specs) cs
      → map (λ t. child_in (means specs more t)) (map (λ (c : Separator Value Tid × ℕ). pivot_item specs c.1 c.0) cs) ≡ cs
  others_are [] may = refl
  others_are (c ∷ cs) may = λ i. child_in (splits c.1 c.0 may.0.block may.0.splits i) ∷ others_are cs may.1 i

  children_are : (cs : List (Separator Value Tid × ℕ)) → MayLead specs cs
      → map (λ t. child_in (means specs more t)) (map (λ (c : Separator Value Tid × ℕ). pivot_item specs c.1 c.0) cs) ≡ cs
  children_are [] may = absurd may
  children_are (c ∷ cs) may =
      let first : ◌≡◌ {A = Separator Value Tid × ℕ} (child_in (means specs more (pivot_item specs c.1 c.0))) c =
      ap (λ (s : Separator Value Tid). child_in (means specs more (pivot_item specs c.1 s))) may.0
      ∙ ap child_in (nothing c.1 may.1)
      ∙ (λ i. (sym may.0 i, c.1)) in
      λ i. first i ∷ others_are cs may.2 i

  module _ (p : ItemPage) (fit : IsPageFit specs more p) where
    children_there : (b : Bool) → p.leaf ≡ b → cond b [] (map (λ t. child_in (means specs more t)) (cond b (map (leaf_item specs more) p.entries) (map (λ (c : Separator Value Tid × ℕ). pivot_item specs c.1 c.0) p.children))) ≡ p.children
    children_there true leaf = sym (fit.items leaf).none
    children_there false inner = children_are p.children (fit.downlinks inner).each

    keys_there : (b : Bool) → p.leaf ≡ b → cond b (flat_map (λ t. keys_in (means specs more t)) (cond b (map (leaf_item specs more) p.entries) (map (λ (c : Separator Value Tid × ℕ). pivot_item specs c.1 c.0) p.children))) [] ≡ keys_of p.entries
    keys_there true leaf = all_keys p.entries (fit.items leaf).each
    keys_there false inner = ap keys_of (sym (fit.downlinks inner).none)

    entries_there : (b : Bool) → p.leaf ≡ b → cond b (flat_map (λ t. entries_in (means specs more t)) (cond b (map (leaf_item specs more) p.entries) (map (λ (c : Separator Value Tid × ℕ). pivot_item specs c.1 c.0) p.children))) [] ≡ cond b (joined p.entries) []
    entries_there true leaf = all_entries p.entries (fit.items leaf).each
    entries_there false inner = refl

    pub page_is : page_image specs more (page_bytes specs more p) ≡ page_seen keys_of p
    page_is =
        let high = high_is p.high_key fit.high in
        let children = children_there p.leaf refl in
        let keys = keys_there p.leaf refl in
        let rest : laid_image specs more (laid_of specs more p) ≡ page_seen keys_of p =
        λ i. record {
          idle = sym fit.used i;
          leaf = p.leaf;
          half_dead = sym fit.alive i;
          incomplete_split = sym fit.unsplit i;
          prev = p.prev;
          next = p.next;
          level = p.level;
          high_key = high i;
          children = children i;
          entries = keys i;
        } in
        image_is specs more (laid_of specs more p) (laid_well specs more p fit) ∙ rest

    pub page_entries_are : leaf_entries_with_more specs more (page_bytes specs more p) ≡ cond p.leaf (joined p.entries) []
    page_entries_are = entries_are specs more (laid_of specs more p) (laid_well specs more p fit) ∙ entries_there p.leaf refl

  -- the whole

  block_there : (x : ItemTree) (b : ℕ) → b ≢ 0 → built_block specs more x b ≡ page_bytes specs more (x.page b)
  block_there x b some = cond-false _ _ _ (ne_eqb b 0 some)

  inside_tree : (x : ItemTree) (blocks : ℕ) (block : ℕ → List ℕ) → AreBlocksOf specs more x blocks block → (b : ℕ) → b < blocks → b < x.blocks
  inside_tree x blocks block same b inside = subst (λ (n : ℕ). b < n) same.count inside

  pub tree_is : (x : ItemTree) (blocks : ℕ) (block : ℕ → List ℕ) → IsTreeFit specs more x → AreBlocksOf specs more x blocks block → IsLaidAs (index_image specs more blocks block) (index_seen keys_of x)
  tree_is x blocks block fit same =
      let first : block 0 ≡ built_block specs more x 0 = same.each 0 (subst (λ (n : ℕ). 0 < n) (sym same.count) fit.some) in
      let numbers = ap meta_of first ∙ meta_numbers (meta_in x) fit.numbers in
      record {
        blocks = same.count;
        root = ap (λ m. m.root) numbers;
        level = ap (λ m. m.level) numbers;
        fastroot = ap (λ m. m.fastroot) numbers;
        fastlevel = ap (λ m. m.fastlevel) numbers;
        page = λ b some inside. ap (page_image specs more) (same.each b inside ∙ block_there x b some) ∙ page_is (x.page b) (fit.pages b some (inside_tree x blocks block same b inside));
      }

  -- what a leaf gives
  leaf_gives : (x : ItemTree) (b : ℕ) → IsPageFit specs more (x.page b) → cond (x.page b).leaf (joined (x.page b).entries) [] ≡ leaf_entries (page_seen joined (x.page b))
  leaf_gives x b fit = leaf_alone (x.page b).leaf (joined (x.page b).entries) ∙ (λ i. cond ((x.page b).leaf && (not (sym fit.used i) && not (sym fit.alive i))) (joined (x.page b).entries) [])
    where
      leaf_alone : (b : Bool) (xs : List LeafEntry) → cond b xs [] ≡ cond (b && true) xs []
      leaf_alone true xs = refl
      leaf_alone false xs = refl

  same_given : (f g : ℕ → List LeafEntry) (bs : List ℕ) → ((b : ℕ) → In b bs → f b ≡ g b) → flat_map f bs ≡ flat_map g bs
  same_given f g [] h = refl
  same_given f g (b ∷ bs) h = λ i. h b (inl refl) i ++ same_given f g bs (λ c there. h c (inr there)) i

  pub tree_entries : (x : ItemTree) (blocks : ℕ) (block : ℕ → List ℕ) → IsTreeFit specs more x → AreBlocksOf specs more x blocks block → index_entries specs more blocks block ≡ entries_of (index_seen joined x)
  tree_entries x blocks block fit same =
      ap (λ (n : ℕ). index_entries specs more n block) same.count
      ∙ same_given (λ b. leaf_entries_with_more specs more (block b)) (λ b. leaf_entries (page_seen joined (x.page b))) (tree_blocks x.blocks)
      (λ b there.
      let is = block_of x.blocks b there in
      ap (leaf_entries_with_more specs more) (same.each b (subst (λ (n : ℕ). b < n) (sym same.count) is.1) ∙ block_there x b is.0)
      ∙ page_entries_are (x.page b) (fit.pages b is.0 is.1)
      ∙ leaf_gives x b (fit.pages b is.0 is.1))
