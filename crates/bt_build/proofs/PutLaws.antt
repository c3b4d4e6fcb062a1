-- Items that are put on a page, one behind the other.
use Rattle.std.proofs.Common.{◌≡◌, ◌≤◌, ◌<◌, ◌+◌, ◌∙◌, ℕ, zero, suc, List, [], ◌∷◌, ◌++◌, length, take, drop, get_or, refl, sym, ap, subst, arith, add-one, append-nil, append_assoc}
use Rattle.page_layout.specs.Page.{max_align}
use Rattle.key_orders.specs.declared.columns.KeySpec.{KeySpec}
use Rattle.key_orders.specs.declared.more.MoreSpec.{MoreSpec}
use Rattle.bt_image.specs.Image.{LeafEntry}
use Rattle.page_write.specs.Writing.{HasRoom, HoldsItems, free_bytes}
use Rattle.page_write.specs.declared.page.PageWriter.{PageWriter}
use Rattle.page_write.proofs.Laying.{room-cons, room-none}
use Rattle.laws_built_index.specs.Items.{leaf_item}
use Rattle.bt_build.specs.declared.groups.Item.{Item}
use Rattle.bt_build.specs.Groups.{entries_in}
use Rattle.bt_build.specs.Laid.{AreBeingPut, bytes_for, later_tuples, leaf_tuples}
use Rattle.bt_build.specs.Separators.{split_item}

take_next : {X : Type 0} (n : ℕ) (xs : List X) (x : X) → drop n xs ≡ x ∷ drop (suc n) xs → take (suc n) xs ≡ take n xs ++ x ∷ []
take_next zero xs x is = ap (take 1) is
take_next (suc n) [] x is = absurd cc
take_next {X = X} (suc n) (y ∷ xs) x is = ap (λ (w : List X). y ∷ w) (take_next n xs x is)

take_whole : {X : Type 0} (n : ℕ) (xs : List X) → length xs ≤ n → take n xs ≡ xs
take_whole zero [] le = refl
take_whole zero (x ∷ xs) le = absurd (omega (arith, le))
take_whole (suc n) [] le = refl
take_whole {X = X} (suc n) (x ∷ xs) le = ap (λ (w : List X). x ∷ w) (take_whole n xs (omega (arith, le)))

pub bytes_cons : (t : List ℕ) (ts : List (List ℕ)) → bytes_for (t ∷ ts) ≡ 4 + max_align (length t) + bytes_for ts
bytes_cons t ts = let a = room-cons t ts in omega (arith, a)

pub bytes_none : bytes_for [] ≡ 0
bytes_none = let a = room-none in omega (arith, a)

pub bytes_append : (ts us : List (List ℕ)) → bytes_for (ts ++ us) ≡ bytes_for ts + bytes_for us
bytes_append [] us = let a = bytes_none in omega (arith, a)
bytes_append (t ∷ ts) us =
    let a = bytes_cons t (ts ++ us) in
    let b = bytes_cons t ts in
    let c = bytes_append ts us in
    omega (arith, a, b, c)

pub none_put : (page : PageWriter) (tuples : List (List ℕ)) → bytes_for tuples ≤ free_bytes page → AreBeingPut page page tuples 0
none_put page tuples room = record {
  holds = λ front h. subst (HoldsItems page 8176) (sym (append-nil front)) h;
  room = room;
}

pub all_put : (old page : PageWriter) (tuples : List (List ℕ)) (n : ℕ) → AreBeingPut old page tuples n → length tuples ≤ n
    → (front : List (List ℕ)) → HoldsItems old 8176 front → HoldsItems page 8176 (front ++ tuples)
all_put old page tuples n put done front h = subst (λ (ts : List (List ℕ)). HoldsItems page 8176 (front ++ ts)) (take_whole n tuples done) (put.holds front h)

module _ (old page : PageWriter) (tuples : List (List ℕ)) (n : ℕ) (t : List ℕ) (put : AreBeingPut old page tuples n) (is : drop n tuples ≡ t ∷ drop (suc n) tuples) where
  pub next_room : HasRoom page (length t)
  next_room =
      let a = ap bytes_for is in
      let b = bytes_cons t (drop (suc n) tuples) in
      omega (arith, a, b, put.room)

  pub next_put : (new : PageWriter) → ((items : List (List ℕ)) → HoldsItems page 8176 items → HoldsItems new 8176 (items ++ t ∷ []))
      → free_bytes new + 4 + max_align (length t) ≡ free_bytes page → AreBeingPut old new tuples (n + 1)
  next_put new adds free =
      let a = ap bytes_for is in
      let b = bytes_cons t (drop (suc n) tuples) in
      subst (AreBeingPut old new tuples) (sym (add-one n))
      (record {
        holds = λ front h. subst (HoldsItems new 8176) (append_assoc front (take n tuples) (t ∷ []) ∙ ap (λ (w : List (List ℕ)). front ++ w) (sym (take_next n tuples t is))) (adds (front ++ take n tuples) (put.holds front h));
        room = omega (arith, a, b, put.room, free);
      })

-- The next item

module _ (specs : List KeySpec) (ms : List MoreSpec) (es : List LeafEntry) where
  pub next_leaf_item : (items : List Item) (n : ℕ) (d : Item) → n < length items
      → drop n (leaf_tuples specs ms es items) ≡ leaf_item specs ms (entries_in es (get_or items n d)) ∷ drop (suc n) (leaf_tuples specs ms es items)
  next_leaf_item [] n d lt = absurd (omega (arith, lt))
  next_leaf_item (item ∷ items) zero d lt = refl
  next_leaf_item (item ∷ items) (suc n) d lt = next_leaf_item items n d (omega (arith, lt))

  pub next_downlink : (bounds : List ℕ) (n b d : ℕ) → n < length bounds
      → drop n (later_tuples specs es bounds b) ≡ split_item specs es (get_or bounds n d) (b + n) ∷ drop (suc n) (later_tuples specs es bounds b)
  next_downlink [] n b d lt = absurd (omega (arith, lt))
  next_downlink (j ∷ bounds) zero b d lt = let z : b ≡ b + 0 = omega arith in (λ i. split_item specs es j (z i) ∷ later_tuples specs es bounds (suc b))
  next_downlink (j ∷ bounds) (suc n) b d lt =
      let e : suc b + n ≡ b + suc n = omega arith in
      next_downlink bounds n (suc b) d (omega (arith, lt)) ∙ (λ i. split_item specs es (get_or bounds n d) (e i) ∷ drop (suc n) (later_tuples specs es bounds (suc b)))

  pub many_downlinks : (bounds : List ℕ) (b : ℕ) → length (later_tuples specs es bounds b) ≡ length bounds
  many_downlinks [] b = refl
  many_downlinks (j ∷ bounds) b = ap suc (many_downlinks bounds (suc b))
