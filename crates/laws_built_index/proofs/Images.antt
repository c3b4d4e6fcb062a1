-- A page that is laid is read item by item.
use Rattle.std.proofs.Common.{◌≡◌, ◌≢◌, ◌<◌, ◌+◌, ◌-◌, ℕ, suc, Bool, true, false, ◌&&◌, ◌||◌, ◌==◌, cond, not, List, [], ◌∷◌, ◌++◌, length, map, refl, sym, ap, ◌∙◌, subst, arith, append_assoc}
use Rattle.std.specs.Prelude.{Option, Some, None, is_some, option_map}
use Rattle.std.specs.List.{flat_map}
use Rattle.std.proofs.lemmas.Bool.{ne_eqb}
use Rattle.std.proofs.lemmas.List.{length-append}
use Rattle.page_layout.specs.Page.{count_of, has_bit, header_of, is_new, item_of, lower_of, piece_of, upper_of}
use Rattle.page_layout.specs.declared.page.LineFlag.TheVariants.{Normal}
use Rattle.page_layout.specs.declared.page.LinePtr.{LinePtr}
use Rattle.key_orders.specs.declared.columns.KeySpec.{KeySpec}
use Rattle.key_orders.specs.declared.more.MoreSpec.{MoreSpec}
use Rattle.bt_meta.specs.declared.records.Opaque.{Opaque}
use Rattle.bt_meta.specs.Flags.{is_deleted, is_half_dead, is_leaf, is_split_unfinished}
use Rattle.bt_meta.specs.Pages.{is_idle, opaque_of}
use Rattle.bt_tuples.specs.Items.{Item, is_dead, meaning_of}
use Rattle.bt_image.specs.Image.{child_in, entries_in, has_high_key, item_at, keys_in, leaf_entries_with_more, numbers_from, page_image, separator_in}
use Rattle.page_write.specs.Pages.{FitsBelow, header_with, lower_for, opaque_bytes, room_for, room_of, tree_page}
use Rattle.page_write.proofs.Reading.{bytes_are, count_is, item_is, reads_page_header, special_is}
use Rattle.laws_built_index.specs.Pages.{IsLaidWell, LaidPage, flags_of, high_items, items_of, laid_bytes, laid_entries, laid_image, means, special_of}

module _ (specs : List KeySpec) (more : List MoreSpec) (special : Opaque) where
  -- one item
  pub item_means : (before after : List (List ℕ)) (t : List ℕ) → FitsBelow 8176 (before ++ t ∷ after)
      → item_at specs more (tree_page (before ++ t ∷ after) special) (length before + 1) ≡ means specs more t
  unfolding item_at
  item_means before after t fits =
      let page : List ℕ = tree_page (before ++ t ∷ after) special in
      let place : LinePtr = record { flag = Normal; off = 8176 - room_for before - room_of t; len = length t } in
      let at : item_of page (length before + 1) ≡ place = item_is 8176 before after t (opaque_bytes special) (omega arith) fits in
      let bytes : piece_of page (8176 - room_for before - room_of t) (length t) ≡ t = bytes_are 8176 before after t (opaque_bytes special) (omega arith) fits in
      ap (λ (x : LinePtr). meaning_of specs more (piece_of page x.off x.len) (is_dead x.flag)) at
      ∙ ap (λ (z : List ℕ). meaning_of specs more z false) bytes

  -- all of them
  module _ {X : Type 0} (h : Item → X) where
    each_means : (before tuples : List (List ℕ)) (i : ℕ) → i ≡ length before + 1 → FitsBelow 8176 (before ++ tuples)
        → map (λ j. h (item_at specs more (tree_page (before ++ tuples) special) j)) (numbers_from i (length tuples)) ≡ map (λ t. h (means specs more t)) tuples
    each_means before [] i e fits = refl
    each_means before (t ∷ tuples) i e fits =
        let page : List ℕ = tree_page (before ++ t ∷ tuples) special in
        let moved : (before ++ t ∷ []) ++ tuples ≡ before ++ t ∷ tuples = append_assoc before (t ∷ []) tuples in
        let long = length-append before (t ∷ []) in
        let first : h (item_at specs more page i) ≡ h (means specs more t) = ap (λ (n : ℕ). h (item_at specs more page n)) e ∙ ap h (item_means before tuples t fits) in
        let others : map (λ j. h (item_at specs more page j)) (numbers_from (suc i) (length tuples)) ≡ map (λ t. h (means specs more t)) tuples =
        ap (λ (z : List (List ℕ)). map (λ j. h (item_at specs more (tree_page z special) j)) (numbers_from (suc i) (length tuples))) (sym moved)
        ∙ each_means (before ++ t ∷ []) tuples (suc i) (omega (arith, e, long)) (subst (FitsBelow 8176) (sym moved) fits) in
        λ k. first k ∷ others k

  flat_means : {X : Type 0} (h : Item → List X) (before tuples : List (List ℕ)) (i : ℕ) → i ≡ length before + 1 → FitsBelow 8176 (before ++ tuples)
      → flat_map (λ j. h (item_at specs more (tree_page (before ++ tuples) special) j)) (numbers_from i (length tuples)) ≡ flat_map (λ t. h (means specs more t)) tuples
  flat_means h before [] i e fits = refl
  flat_means {X} h before (t ∷ tuples) i e fits =
      let page : List ℕ = tree_page (before ++ t ∷ tuples) special in
      let moved : (before ++ t ∷ []) ++ tuples ≡ before ++ t ∷ tuples = append_assoc before (t ∷ []) tuples in
      let long = length-append before (t ∷ []) in
      let first : h (item_at specs more page i) ≡ h (means specs more t) = ap (λ (n : ℕ). h (item_at specs more page n)) e ∙ ap h (item_means before tuples t fits) in
      let others : flat_map (λ j. h (item_at specs more page j)) (numbers_from (suc i) (length tuples)) ≡ flat_map (λ t. h (means specs more t)) tuples =
      ap (λ (z : List (List ℕ)). flat_map (λ j. h (item_at specs more (tree_page z special) j)) (numbers_from (suc i) (length tuples))) (sym moved)
      ∙ flat_means h (before ++ t ∷ []) tuples (suc i) (omega (arith, e, long)) (subst (FitsBelow 8176) (sym moved) fits) in
      λ k. first k ++ others k

-- The flags

leaf_bit : (leaf root : Bool) → has_bit (flags_of leaf root) 0x0001 ≡ leaf
unfolding has_bit
leaf_bit true true = refl
leaf_bit true false = refl
leaf_bit false true = refl
leaf_bit false false = refl

no_bits : (leaf root : Bool) → (has_bit (flags_of leaf root) 0x0004 ≡ false) × (has_bit (flags_of leaf root) 0x0010 ≡ false) × (has_bit (flags_of leaf root) 0x0080 ≡ false)
unfolding has_bit
no_bits true true = (refl, refl, refl)
no_bits true false = (refl, refl, refl)
no_bits false true = (refl, refl, refl)
no_bits false false = (refl, refl, refl)

-- The page

some_items : (tuples : List (List ℕ)) → tuples ≢ [] → 0 < length tuples
some_items [] some = absurd (some refl)
some_items (t ∷ tuples) some = omega arith

both_false : (a b c : Bool) → a ≡ false → b ≡ false → c ≡ false → (a || b || (c && false)) ≡ false
both_false a b c p q r = λ i. p i || q i || (r i && false)

never_both : (a b : Bool) → (a && b && false) ≡ false
never_both true true = refl
never_both true false = refl
never_both false b = refl

-- the number of the first tuples item
first_is : (high : Option (List ℕ)) (t : Bool) → t ≡ is_some high → cond t 2 1 ≡ length (high_items high) + 1
first_is None t e = ap (λ (b : Bool). cond b 2 1) e
first_is (Some h) t e = ap (λ (b : Bool). cond b 2 1) e

module _ (specs : List KeySpec) (more : List MoreSpec) (p : LaidPage) (well : IsLaidWell p) where
  abbrev page : List ℕ
  page = laid_bytes p

  pub special_there : opaque_of page ≡ special_of p
  special_there = special_is (items_of p) (special_of p) well.room well.fields

  pub leaf_there : is_leaf (opaque_of page) ≡ p.leaf
  unfolding is_leaf
  leaf_there = ap (λ (s : Opaque). has_bit s.flags 0x0001) special_there ∙ leaf_bit p.leaf p.root

  pub not_deleted : is_deleted (opaque_of page) ≡ false
  unfolding is_deleted
  not_deleted = ap (λ (s : Opaque). has_bit s.flags 0x0004) special_there ∙ (no_bits p.leaf p.root).0

  pub not_half_dead : is_half_dead (opaque_of page) ≡ false
  unfolding is_half_dead
  not_half_dead = ap (λ (s : Opaque). has_bit s.flags 0x0010) special_there ∙ (no_bits p.leaf p.root).1

  not_split : is_split_unfinished (opaque_of page) ≡ false
  unfolding is_split_unfinished
  not_split = ap (λ (s : Opaque). has_bit s.flags 0x0080) special_there ∙ (no_bits p.leaf p.root).2

  pub count_there : count_of page ≡ length (items_of p)
  count_there = count_is 8176 (items_of p) (opaque_bytes (special_of p)) (omega arith) well.room

  pub some_data : 0 < length p.tuples
  some_data = some_items p.tuples well.some

  pub upper_there : upper_of page ≡ 8176 - room_for (items_of p)
  unfolding header_of header_with
  upper_there = ap (λ h. h.upper) (reads_page_header 8176 (items_of p) (opaque_bytes (special_of p)) (omega arith) well.room)

  lower_there : lower_of page ≡ lower_for (items_of p)
  unfolding header_of header_with
  lower_there = ap (λ h. h.lower) (reads_page_header 8176 (items_of p) (opaque_bytes (special_of p)) (omega arith) well.room)

  pub all_items : length (items_of p) ≡ length (high_items p.high) + length p.tuples
  all_items = length-append (high_items p.high) p.tuples

  pub not_idle : is_idle page ≡ false
  unfolding is_idle
  not_idle =
      let up = upper_there in
      let low = lower_there in
      let room = well.room in
      let some = some_data in
      let all = all_items in
      let new : is_new page ≡ false = ne_eqb (upper_of page) 0 (λ z. omega (arith, z, up, room)) in
      let blank : (lower_of page == 24) ≡ false = ne_eqb (lower_of page) 24 (λ z. omega (arith, z, low, some, all)) in
      let s = opaque_of page in
      (λ i. new i || not_deleted i || ((s.flags == 0) && (s.level == 0) && blank i)) ∙ never_both (s.flags == 0) (s.level == 0)

  pub high_there : has_high_key page ≡ is_some p.high
  high_there = ap (λ (s : Opaque). not (s.next == 0)) special_there ∙ sym well.high_with_next

  pub first_there : cond (has_high_key page) 2 1 ≡ length (high_items p.high) + 1
  first_there = first_is p.high (has_high_key page) high_there

  left_there : count_of page + 1 - cond (has_high_key page) 2 1 ≡ length p.tuples
  left_there =
      let a = count_there in
      let b = first_there in
      let c = all_items in
      omega (arith, a, b, c)

  numbers_there : numbers_from (cond (has_high_key page) 2 1) (count_of page + 1 - cond (has_high_key page) 2 1) ≡ numbers_from (length (high_items p.high) + 1) (length p.tuples)
  numbers_there = λ i. numbers_from (first_there i) (left_there i)

  high_key_by : (high : Option (List ℕ)) (tuples : List (List ℕ)) (t : Bool) → t ≡ is_some high → FitsBelow 8176 (high_items high ++ tuples)
      → cond (t && true) (Some (separator_in (item_at specs more (tree_page (high_items high ++ tuples) (special_of p)) 1))) None ≡ option_map (λ h. separator_in (means specs more h)) high
  high_key_by None tuples t e fits = ap (λ (b : Bool). cond (b && true) (Some (separator_in (item_at specs more (tree_page tuples (special_of p)) 1))) None) e
  high_key_by (Some h) tuples t e fits =
      ap (λ (b : Bool). cond (b && true) (Some (separator_in (item_at specs more (tree_page (h ∷ tuples) (special_of p)) 1))) None) e
      ∙ ap (λ m. Some (separator_in m)) (item_means specs more (special_of p) [] tuples h fits)

  pub image_is : page_image specs more page ≡ laid_image specs more p
  image_is =
      let children_are : map (λ i. child_in (item_at specs more page i)) (numbers_from (cond (has_high_key page) 2 1) (count_of page + 1 - cond (has_high_key page) 2 1)) ≡ map (λ t. child_in (means specs more t)) p.tuples =
      ap (map (λ i. child_in (item_at specs more page i))) numbers_there
      ∙ each_means specs more (special_of p) child_in (high_items p.high) p.tuples (length (high_items p.high) + 1) refl well.room in
      let keys_are : flat_map (λ i. keys_in (item_at specs more page i)) (numbers_from (cond (has_high_key page) 2 1) (count_of page + 1 - cond (has_high_key page) 2 1)) ≡ flat_map (λ t. keys_in (means specs more t)) p.tuples =
      ap (flat_map (λ i. keys_in (item_at specs more page i))) numbers_there
      ∙ flat_means specs more (special_of p) keys_in (high_items p.high) p.tuples (length (high_items p.high) + 1) refl well.room in
      let high_is =
      ap (λ (b : Bool). cond (has_high_key page && not b) (Some (separator_in (item_at specs more page 1))) None) not_half_dead
      ∙ high_key_by p.high p.tuples (has_high_key page) high_there well.room in
      let entries_are =
      (λ i. cond (leaf_there i && not (not_half_dead i)) (keys_are i) [])
      ∙ leaf_alone p.leaf (flat_map (λ t. keys_in (means specs more t)) p.tuples) in
      λ i. record {
        idle = not_idle i;
        leaf = leaf_there i;
        half_dead = not_half_dead i;
        incomplete_split = not_split i;
        prev = (special_there i).prev;
        next = (special_there i).next;
        level = (special_there i).level;
        high_key = high_is i;
        children = cond (leaf_there i) [] (children_are i);
        entries = entries_are i;
      }
    where
      leaf_alone : {X : Type 0} (b : Bool) (xs : List X) → cond (b && true) xs [] ≡ cond b xs []
      leaf_alone true xs = refl
      leaf_alone false xs = refl

  pub entries_are : leaf_entries_with_more specs more page ≡ cond p.leaf (laid_entries specs more p) []
  entries_are =
      let all : flat_map (λ i. entries_in (item_at specs more page i)) (numbers_from (cond (has_high_key page) 2 1) (count_of page + 1 - cond (has_high_key page) 2 1)) ≡ laid_entries specs more p =
      ap (flat_map (λ i. entries_in (item_at specs more page i))) numbers_there
      ∙ flat_means specs more (special_of p) entries_in (high_items p.high) p.tuples (length (high_items p.high) + 1) refl well.room in
      (λ i. cond (leaf_there i && (not (not_idle i) && not (not_half_dead i))) (all i) []) ∙ leaf_alone p.leaf (laid_entries specs more p)
    where
      leaf_alone : {X : Type 0} (b : Bool) (xs : List X) → cond (b && true) xs [] ≡ cond b xs []
      leaf_alone true xs = refl
      leaf_alone false xs = refl
