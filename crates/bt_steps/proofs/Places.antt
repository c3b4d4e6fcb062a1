-- The entries of a page by its items: where those of an item stand.
use Rattle.std.proofs.Common.{◌≡◌, ℕ, zero, suc, ◌+◌, ◌-◌, ◌<◌, ◌≤◌, true, false, List, [], ◌∷◌, ◌++◌, length, length-append, append-nil, refl, ap, sym, subst, ◌∙◌, arith}
use Rattle.std.specs.Prelude.{slice_get}
use Rattle.std.specs.List.{flat_map}
use Rattle.std.proofs.lemmas.Bool.{and_from, cond-true, not_from_false}
use Rattle.std.proofs.lemmas.Grind.{flat_map-append}
use Rattle.laws_search.specs.Keys.{Entry}
use Rattle.page_layout.specs.Page.{count_of}
use Rattle.key_orders.specs.declared.columns.Value.{Value}
use Rattle.key_orders.specs.declared.Tid.{Tid}
use Rattle.key_attrs.specs.Columns.{TreeColumns}
use Rattle.bt_meta.specs.Flags.{is_half_dead, is_leaf}
use Rattle.bt_meta.specs.Pages.{opaque_of}
use Rattle.bt_image.specs.Image.{first_data, item_at, keys_in, numbers_from, page_image, page_keys}
use Rattle.bt_steps.specs.Entries.{entries_before, keys_at, place_of}

-- Lists by numbers

numbers-two : (f m n : ℕ) → numbers_from f (m + n) ≡ numbers_from f m ++ numbers_from (f + m) n
numbers-two f zero n = let e : 0 + n ≡ n = omega arith in let g : f + 0 ≡ f = omega arith in (λ i. numbers_from (sym g i) (e i))
numbers-two f (suc m) n =
    let e : suc m + n ≡ suc (m + n) = omega arith in
    let g : suc f + m ≡ f + suc m = omega arith in
    ap (numbers_from f) e ∙ (ap (λ l. f ∷ l) (numbers-two (suc f) m n) ∙ ap (λ k. f ∷ (numbers_from (suc f) m ++ numbers_from k n)) g)

get-behind : {X : Type 0} (xs ys : List X) (k : ℕ) → slice_get (xs ++ ys) (length xs + k) ≡ slice_get ys k
get-behind [] ys k = ap (slice_get ys) (let e : 0 + k ≡ k = omega arith in e)
get-behind (x ∷ xs) ys k =
    let e : suc (length xs) + k ≡ suc (length xs + k) = omega arith in
    ap (slice_get (x ∷ (xs ++ ys))) e ∙ get-behind xs ys k

get-before : {X : Type 0} (xs ys : List X) (k : ℕ) → k < length xs → slice_get (xs ++ ys) k ≡ slice_get xs k
get-before [] ys k lt = absurd (omega arith)
get-before (x ∷ xs) ys zero lt = refl
get-before (x ∷ xs) ys (suc k) lt = get-before xs ys k (omega arith)

module _ {X : Type 0} (g : ℕ → List X) (f : ℕ) where
  abbrev upto : ℕ → List X
  upto n = flat_map g (numbers_from f n)

  pub upto-two : (m n : ℕ) → upto (m + n) ≡ upto m ++ flat_map g (numbers_from (f + m) n)
  upto-two m n = ap (flat_map g) (numbers-two f m n) ∙ flat_map-append g (numbers_from f m) (numbers_from (f + m) n)

  -- one item more
  pub upto-next : (m : ℕ) → length (upto (m + 1)) ≡ length (upto m) + length (g (f + m))
  upto-next m = ap length (upto-two m 1) ∙ (length-append (upto m) (g (f + m) ++ []) ∙ ap (λ (l : List X). length (upto m) + length l) (append-nil (g (f + m))))

  -- an entry of item m
  pub upto-get : (m n k : ℕ) → m < n → k < length (g (f + m)) → slice_get (upto n) (length (upto m) + k) ≡ slice_get (g (f + m)) k
  upto-get m n k lt within =
      let d = n - suc m in
      let e : n ≡ m + suc d = omega arith in
      let rest = flat_map g (numbers_from (suc (f + m)) d) in
      ap (λ (c : ℕ). slice_get (upto c) (length (upto m) + k)) e
      ∙ (ap (λ (l : List X). slice_get l (length (upto m) + k)) (upto-two m (suc d))
      ∙ (get-behind (upto m) (g (f + m) ++ rest) k ∙ get-before (g (f + m)) rest k within))

-- The entries of a page

module _ (columns : TreeColumns) (page : List ℕ) where
  abbrev g : ℕ → List (Entry Value Tid)
  g i = keys_in (item_at columns.specs columns.more page i)

  pub before-first : entries_before columns page (first_data page) ≡ 0
  unfolding entries_before
  before-first = let e : first_data page - first_data page ≡ 0 = omega arith in ap (λ (n : ℕ). length (flat_map g (numbers_from (first_data page) n))) e

  pub before-next : (i : ℕ) → first_data page ≤ i → entries_before columns page (i + 1) ≡ entries_before columns page i + length (keys_at columns page i)
  unfolding entries_before keys_at
  before-next i from =
      let e : i + 1 - first_data page ≡ i - first_data page + 1 = omega arith in
      let at : first_data page + (i - first_data page) ≡ i = omega arith in
      ap (λ (n : ℕ). length (flat_map g (numbers_from (first_data page) n))) e
      ∙ (upto-next g (first_data page) (i - first_data page)
      ∙ ap (λ (j : ℕ). length (flat_map g (numbers_from (first_data page) (i - first_data page))) + length (g j)) at)

  pub before-all : entries_before columns page (count_of page + 1) ≡ length (page_keys columns.specs columns.more page)
  unfolding entries_before
  before-all = refl

  pub entry-there : (i k : ℕ) → first_data page ≤ i → i ≤ count_of page → k < length (keys_at columns page i)
      → slice_get (page_keys columns.specs columns.more page) (place_of columns page i k) ≡ slice_get (keys_at columns page i) k
  unfolding entries_before keys_at
  entry-there i k from to within =
      let at : first_data page + (i - first_data page) ≡ i = omega arith in
      let less : i - first_data page < count_of page + 1 - first_data page = omega arith in
      let inside : k < length (g (first_data page + (i - first_data page))) = subst (λ (j : ℕ). k < length (g j)) (sym at) within in
      upto-get g (first_data page) (i - first_data page) (count_of page + 1 - first_data page) k less inside
      ∙ ap (λ (j : ℕ). slice_get (g j) k) at

  -- as a search sees it
  pub image-entries : is_leaf (opaque_of page) ≡ true → is_half_dead (opaque_of page) ≡ false → (page_image columns.specs columns.more page).entries ≡ page_keys columns.specs columns.more page
  image-entries leaf alive = cond-true _ _ _ (and_from (is_leaf (opaque_of page)) _ leaf (not_from_false _ alive))
