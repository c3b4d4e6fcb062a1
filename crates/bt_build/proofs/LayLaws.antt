-- The item that is laid is that of its entries.
use Rattle.std.proofs.Common.{◌≡◌, ◌≢◌, ◌≤◌, ◌<◌, ◌∙◌, ℕ, zero, suc, List, [], ◌∷◌, ◌++◌, length, map, take, drop, get_or, refl, sym, ap, arith, length-drop}
use Rattle.std.proofs.lemmas.List.{length-map, length-take-le}
use Rattle.std.proofs.Math.Seq.{drop-cons}
use Rattle.key_orders.specs.declared.columns.KeySpec.{KeySpec}
use Rattle.key_orders.specs.declared.more.MoreSpec.{MoreSpec}
use Rattle.key_orders.specs.declared.Tid.{Tid}
use Rattle.page_write.specs.declared.index_tuples.BodyFlags.{BodyFlags}
use Rattle.page_write.specs.Bodies.{body_flags, index_body}
use Rattle.page_write.specs.Posting.{HasListRoom, posting_tuple}
use Rattle.page_write.specs.Tuples.{plain_tuple}
use Rattle.laws_built_index.specs.Items.{entry_types, leaf_item, tids_of}
use Rattle.bt_build.specs.declared.entries.Place.{Place}
use Rattle.bt_build.specs.declared.groups.Item.{Item}
use Rattle.bt_build.specs.Groups.{IsItem, entries_in, size_with}
use Rattle.bt_build.specs.Kept.{entries_at, entry_at}
use Rattle.bt_build.specs.Places.{tid_of}
use Rattle.bt_build.proofs.GroupLaws.{drop_entries, item_length, nowhere}

module _ (specs : List KeySpec) (ms : List MoreSpec) (arena : List ℕ) (places : List Place) (item : Item) (is : IsItem specs ms (entries_at specs arena places) item) where
  abbrev here : Place
  here = get_or places item.first nowhere

  abbrev rest : List Place
  rest = drop (suc item.first) places

  pub starts_within : item.first < length places
  starts_within = let l = length-map places (entry_at specs arena) in omega (arith, l, is.within, is.some)

  front : drop item.first places ≡ here ∷ rest
  front = drop-cons places item.first nowhere starts_within

  front_entries : entries_in (entries_at specs arena places) item ≡ take item.count (entry_at specs arena here ∷ entries_at specs arena rest)
  front_entries =
      (λ i. take item.count (sym (drop_entries specs arena places item.first) i))
      ∙ (λ i. take item.count (entries_at specs arena (front i)))

  long_rest : item.count ≤ suc (length rest)
  long_rest =
      let l = length-map places (entry_at specs arena) in
      let d = drop_entries specs arena places item.first in
      omega (arith, l, is.within, length-drop (suc item.first) places)

  size_is : (n : ℕ) → item.count ≡ suc n
      → item.size ≡ size_with (length (index_body (entry_types specs ms) ((entry_at specs arena here).entry.values ++ (entry_at specs arena here).more))) n
  size_is n many =
      let l = length-map rest (entry_at specs arena) in
      is.size
      ∙ ap (λ w. length (leaf_item specs ms w)) front_entries
      ∙ (λ i. length (leaf_item specs ms (take (many i) (entry_at specs arena here ∷ entries_at specs arena rest))))
      ∙ item_length specs ms (entry_at specs arena here) (entries_at specs arena rest) n (omega (arith, l, long_rest, many))

  module _ (flags : BodyFlags) (body : List ℕ)
      (flags_are : flags ≡ body_flags (entry_types specs ms) ((entry_at specs arena here).entry.values ++ (entry_at specs arena here).more))
      (body_is : body ≡ index_body (entry_types specs ms) ((entry_at specs arena here).entry.values ++ (entry_at specs arena here).more)) where
    pub short_laid : length body ≤ 8160
    short_laid = short_by item.count refl
      where
        short_by : (n : ℕ) → item.count ≡ n → length body ≤ 8160
        short_by zero none = absurd (omega (arith, none, is.some))
        short_by (suc zero) many = let s = size_is 0 many in let b = ap length body_is in omega (arith, s, b, is.most)
        short_by (suc (suc n)) many = let s = size_is (suc n) many in let b = ap length body_is in omega (arith, s, b, is.most)

    pub lay_one : item.count ≡ 1 → plain_tuple (tid_of here) flags body ≡ leaf_item specs ms (entries_in (entries_at specs arena places) item)
    lay_one one =
        (λ i. plain_tuple (tid_of here) (flags_are i) (body_is i))
        ∙ (λ i. leaf_item specs ms (take (sym one i) (entry_at specs arena here ∷ entries_at specs arena rest)))
        ∙ ap (leaf_item specs ms) (sym front_entries)

    tids_are : (n : ℕ) (ps : List Place) → map tid_of (take n ps) ≡ tids_of (take n (entries_at specs arena ps))
    tids_are zero ps = refl
    tids_are (suc n) [] = refl
    tids_are (suc n) (p ∷ ps) = ap (λ (w : List Tid). (tid_of p) ∷ w) (tids_are n ps)

    lay_by : (n : ℕ) (p : Place) (ps : List Place) → suc n ≤ length ps
        → posting_tuple (map tid_of (take (suc (suc n)) (p ∷ ps))) (body_flags (entry_types specs ms) ((entry_at specs arena p).entry.values ++ (entry_at specs arena p).more))
        (index_body (entry_types specs ms) ((entry_at specs arena p).entry.values ++ (entry_at specs arena p).more))
        ≡ leaf_item specs ms (take (suc (suc n)) (entry_at specs arena p ∷ entries_at specs arena ps))
    lay_by n p [] le = absurd (omega (arith, le))
    lay_by n p (q ∷ ps) le =
        ap (λ (w : List Tid). posting_tuple ((tid_of p) ∷ (tid_of q) ∷ w) (body_flags (entry_types specs ms) ((entry_at specs arena p).entry.values ++ (entry_at specs arena p).more))
        (index_body (entry_types specs ms) ((entry_at specs arena p).entry.values ++ (entry_at specs arena p).more))) (tids_are n ps)

    module _ (tids : List Tid) (tids_is : tids ≡ map tid_of (take item.count (drop item.first places))) (other : item.count ≢ 1) where
      tids_front : tids ≡ map tid_of (take item.count (here ∷ rest))
      tids_front = tids_is ∙ (λ i. map tid_of (take item.count (front i)))

      pub room_laid : HasListRoom (length body) (length tids)
      room_laid = room_by item.count refl
        where
          long : length tids ≡ item.count
          long = ap length tids_front ∙ length-map (take item.count (here ∷ rest)) tid_of ∙ length-take-le item.count (here ∷ rest) (omega (arith, long_rest))

          room_by : (n : ℕ) → item.count ≡ n → HasListRoom (length body) (length tids)
          room_by zero none = absurd (omega (arith, none, is.some))
          room_by (suc zero) one = absurd (other one)
          room_by (suc (suc n)) many = let s = size_is (suc n) many in let b = ap length body_is in omega (arith, s, b, is.most, long, many)

      pub lay_more : posting_tuple tids flags body ≡ leaf_item specs ms (entries_in (entries_at specs arena places) item)
      lay_more = lay_at item.count refl
        where
          lay_at : (n : ℕ) → item.count ≡ n → posting_tuple tids flags body ≡ leaf_item specs ms (entries_in (entries_at specs arena places) item)
          lay_at zero none = absurd (omega (arith, none, is.some))
          lay_at (suc zero) one = absurd (other one)
          lay_at (suc (suc n)) many =
              (λ i. posting_tuple (tids_front i) (flags_are i) (body_is i))
              ∙ (λ i. posting_tuple (map tid_of (take (many i) (here ∷ rest))) (body_flags (entry_types specs ms) ((entry_at specs arena here).entry.values ++ (entry_at specs arena here).more)) (index_body (entry_types specs ms) ((entry_at specs arena here).entry.values ++ (entry_at specs arena here).more)))
              ∙ lay_by n here rest (omega (arith, long_rest, many))
              ∙ (λ i. leaf_item specs ms (take (sym many i) (entry_at specs arena here ∷ entries_at specs arena rest)))
              ∙ ap (leaf_item specs ms) (sym front_entries)
