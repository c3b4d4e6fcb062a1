-- What is read of one item of a page that was laid.
use Rattle.std.proofs.Common.{◌≡◌, ◌≤◌, ◌<◌, ◌+◌, ◌-◌, ◌%◌, ℕ, zero, suc, false, not, ◌||◌, List, [], ◌∷◌, ◌++◌, length, map, Ok, refl, sym, ap, ◌∙◌, subst, arith, append_assoc}
use Rattle.std.proofs.lemmas.Bool.{cond-false, eq-eqb, le-ltb}
use Rattle.std.proofs.lemmas.List.{length-append, length-map, map-append}
use Rattle.page_layout.specs.Items.{is_misplaced_tree_item}
use Rattle.page_layout.specs.Page.{header_of, item_of, piece_of, upper_of}
use Rattle.page_layout.specs.declared.page.LineFlag.TheVariants.{Normal}
use Rattle.page_layout.specs.declared.page.LinePtr.{LinePtr}
use Rattle.key_orders.specs.declared.columns.KeySpec.{KeySpec}
use Rattle.key_orders.specs.declared.more.MoreSpec.{MoreSpec}
use Rattle.bt_meta.specs.declared.records.Opaque.{Opaque}
use Rattle.bt_tuples.specs.declared.items.Spot3.{Spot3}
use Rattle.bt_tuples.specs.Items.{Item, is_dead, item_outcome, tuple_outcome}
use Rattle.bt_tuples.specs.Rules.{breaks_place, tuple_of}
use Rattle.bt_image.specs.Image.{item_at}
use Rattle.page_write.specs.Pages.{FitsBelow, header_with, opaque_bytes, room_for, room_of, tree_page}
use Rattle.page_write.proofs.Laying.{room-cons, room-none}
use Rattle.page_write.proofs.Reading.{bytes_are, item_is, reads_page_header}
use Rattle.laws_built_index.specs.Pages.{means}
use Rattle.laws_built_index.proofs.Images.{item_means}

-- Lists

-- a member with n before it, and one with its right neighbour
pub record Split {X : Type 0} (xs : List X) (n : ℕ) : Type 0 where
  pub front : List X
  pub here : X
  pub back : List X
  pub is : xs ≡ front ++ here ∷ back
  pub long : length front ≡ n

pub split_at : {X : Type 0} (xs : List X) (n : ℕ) → n < length xs → Split xs n
split_at [] n lt = absurd (omega (arith, lt))
split_at (x ∷ xs) zero lt = record { front = []; here = x; back = xs; is = refl; long = refl }
split_at (x ∷ xs) (suc n) lt =
    let s = split_at xs n (omega (arith, lt)) in
    record { front = x ∷ s.front; here = s.here; back = s.back; is = λ i. x ∷ s.is i; long = ap suc s.long }

pub record Two {X : Type 0} (xs : List X) (n : ℕ) : Type 0 where
  pub front : List X
  pub left : X
  pub right : X
  pub back : List X
  pub is : xs ≡ front ++ left ∷ right ∷ back
  pub long : length front ≡ n

pub two_at : {X : Type 0} (xs : List X) (n : ℕ) → suc n < length xs → Two xs n
two_at [] n lt = absurd (omega (arith, lt))
two_at (x ∷ []) n lt = absurd (omega (arith, lt))
two_at (x ∷ y ∷ xs) zero lt = record { front = []; left = x; right = y; back = xs; is = refl; long = refl }
two_at (x ∷ y ∷ xs) (suc n) lt =
    let s = two_at (y ∷ xs) n (omega (arith, lt)) in
    record { front = x ∷ s.front; left = s.left; right = s.right; back = s.back; is = λ i. x ∷ s.is i; long = ap suc s.long }

-- the last one
pub record Last {X : Type 0} (xs : List X) : Type 0 where
  pub front : List X
  pub here : X
  pub is : xs ≡ front ++ here ∷ []
  pub long : suc (length front) ≡ length xs

pub last_of : {X : Type 0} (xs : List X) → 0 < length xs → Last xs
last_of [] some = absurd (omega (arith, some))
last_of (x ∷ []) some = record { front = []; here = x; is = refl; long = refl }
last_of (x ∷ y ∷ xs) some =
    let s = last_of (y ∷ xs) (omega arith) in
    record { front = x ∷ s.front; here = s.here; is = λ i. x ∷ s.is i; long = ap suc s.long }

-- Room

room_append : (xs ys : List (List ℕ)) → room_for (xs ++ ys) ≡ room_for xs + room_for ys
room_append [] ys = let none = room-none in omega (arith, none)
room_append (x ∷ xs) ys =
    let a = room-cons x (xs ++ ys) in
    let b = room-cons x xs in
    let c = room_append xs ys in
    omega (arith, a, b, c)

room_words : (xs : List (List ℕ)) → room_for xs % 8 ≡ 0
room_words [] = let none = room-none in omega (arith, none)
room_words (x ∷ xs) =
    let a = room-cons x xs in
    let b = room_words xs in
    omega (arith, a, b)

place_by : (upper off len : ℕ) → off % 8 ≡ 0 → upper ≤ off → off + len ≤ 8176 → 8 ≤ len → is_misplaced_tree_item upper (record { flag = Normal; off = off; len = len }) ≡ false
unfolding is_misplaced_tree_item
place_by upper off len words above within long =
    let a = eq-eqb (off % 8) 0 words in
    let b = le-ltb off upper above in
    let c = le-ltb 8176 (off + len) within in
    let d = le-ltb len 8 long in
    λ i. not (a i) || b i || c i || d i

-- One item

module _ (specs : List KeySpec) (more : List MoreSpec) (special : Opaque) (before after : List (List ℕ)) (t : List ℕ) (fits : FitsBelow 8176 (before ++ t ∷ after)) where
  abbrev page : List ℕ
  page = tree_page (before ++ t ∷ after) special

  abbrev place : LinePtr
  place = record { flag = Normal; off = 8176 - room_for before - room_of t; len = length t }

  place_is : item_of page (length before + 1) ≡ place
  place_is = item_is 8176 before after t (opaque_bytes special) (omega arith) fits

  tuple_is : tuple_of page (length before + 1) ≡ t
  tuple_is = ap (λ (x : LinePtr). piece_of page x.off x.len) place_is ∙ bytes_are 8176 before after t (opaque_bytes special) (omega arith) fits

  upper_is : upper_of page ≡ 8176 - room_for (before ++ t ∷ after)
  unfolding header_of header_with
  upper_is = ap (λ h. h.upper) (reads_page_header 8176 (before ++ t ∷ after) (opaque_bytes special) (omega arith) fits)

  place_right : 8 ≤ length t → breaks_place page (length before + 1) ≡ false
  place_right long =
      let up = upper_is in
      let all = room_append before (t ∷ after) in
      let one = room-cons t after in
      let words = room_words before in
      ap (is_misplaced_tree_item (upper_of page)) place_is
      ∙ place_by (upper_of page) (8176 - room_for before - room_of t) (length t) (omega (arith, words, fits, all, one)) (omega (arith, up, all, one, fits)) (omega (arith, all, one, fits)) long

  pub outcome_is : (spot : Spot3) (item : Item) → 8 ≤ length t → tuple_outcome specs more spot t false ≡ Ok item → item_outcome specs more spot page (length before + 1) ≡ Ok item
  unfolding item_outcome
  outcome_is spot item long h =
      cond-false _ _ _ (place_right long)
      ∙ ap (λ (x : LinePtr). tuple_outcome specs more spot (tuple_of page (length before + 1)) (is_dead x.flag)) place_is
      ∙ ap (λ (z : List ℕ). tuple_outcome specs more spot z false) tuple_is
      ∙ h

-- One of the data items, which are laid from a list

module _ {X : Type 0} (specs : List KeySpec) (more : List MoreSpec) (special : Opaque) (high : List (List ℕ)) (f : X → List ℕ) (xs front back : List X) (x : X) (is : xs ≡ front ++ x ∷ back)
    (fits : FitsBelow 8176 (high ++ map f xs)) where
  moved : high ++ map f xs ≡ (high ++ map f front) ++ f x ∷ map f back
  moved =
      ap (λ (w : List X). high ++ map f w) is
      ∙ ap (λ (w : List (List ℕ)). high ++ w) (map-append f front (x ∷ back))
      ∙ sym (append_assoc high (map f front) (f x ∷ map f back))

  number : length high + length front + 1 ≡ length (high ++ map f front) + 1
  number = let a = length-append high (map f front) in let b = length-map front f in omega (arith, a, b)

  pub means_there : item_at specs more (tree_page (high ++ map f xs) special) (length high + length front + 1) ≡ means specs more (f x)
  means_there =
      (λ i. item_at specs more (tree_page (moved i) special) (number i))
      ∙ item_means specs more special (high ++ map f front) (map f back) (f x) (subst (FitsBelow 8176) moved fits)

  pub outcome_there : (spot : Spot3) (item : Item) → 8 ≤ length (f x) → tuple_outcome specs more spot (f x) false ≡ Ok item
      → item_outcome specs more spot (tree_page (high ++ map f xs) special) (length high + length front + 1) ≡ Ok item
  outcome_there spot item long h =
      (λ i. item_outcome specs more spot (tree_page (moved i) special) (number i))
      ∙ outcome_is specs more special (high ++ map f front) (map f back) (f x) (subst (FitsBelow 8176) moved fits) spot item long h
