-- Roots that are taken.
use Rattle.std.proofs.Common.{◌≡◌, ◌∙◌, ◌≢◌, ℕ, zero, suc, ◌<◌, ◌≤◌, Bool, true, false, List, get_or, length, replicate, refl, sym, ap, arith, inl, inr}
use Rattle.std.specs.Prelude.{not, ◌==◌, ◌&&◌, ◌||◌, nat_lt, slice_set, ◌⊎◌}
use Rattle.std.proofs.lemmas.Bool.{and_from, and_left, and_parts, and_right, cases_Bool, cases_lt, eq-eqb, eqb-false, eqb-true, false_from_ne_true, le-ltb, lt-ltb, ltb-false, ltb-true, ne_eqb, not-true, or_cases, or_from, or_left, or_parts, or_right}
use Rattle.std.proofs.lemmas.List.{get_or-set_other, get_or-set_same}
use Rattle.key_orders.specs.declared.Tid.{Tid}
use Rattle.join_row_entries.specs.Roots.{Taken, is_item, is_taken, may_take}

-- by what it says
pub is-taken : (x : Taken) (t : Tid) → is_taken x t ≡ (nat_lt t.block x.block || ((t.block == x.block) && get_or x.items t.item false))
unfolding is_taken
is-taken x t = refl

none-in : (n i : ℕ) → get_or (replicate n false) i false ≡ false
none-in zero i = refl
none-in (suc n) zero = refl
none-in (suc n) (suc i) = none-in n i

-- of a block that was begun, and of those behind it, nothing is taken
pub fresh : (b n : ℕ) (t : Tid) → b ≤ t.block → is_taken (record { block = b; items = replicate n false }) t ≡ false
fresh b n t le =
    is-taken (record { block = b; items = replicate n false }) t
    ∙ or_from (nat_lt t.block b) ((t.block == b) && get_or (replicate n false) t.item false)
    (false_from_ne_true (nat_lt t.block b) (λ lt. absurd (let less = ltb-true t.block b lt in omega (arith, less, le))))
    (and_right (t.block == b) (get_or (replicate n false) t.item false) (none-in n t.item))

-- what is taken lies in the block or before it
before : (x : Taken) (t : Tid) → is_taken x t ≡ true → t.block ≤ x.block
before x t taken = elim (or_cases (nat_lt t.block x.block) ((t.block == x.block) && get_or x.items t.item false) (sym (is-taken x t) ∙ taken)) [
  | inl low ↦ let less = ltb-true t.block x.block low in omega (arith, less)
  | inr here ↦ let same = eqb-true t.block x.block (and_parts (t.block == x.block) (get_or x.items t.item false) here).0 in omega (arith, same)
]

pub behind : (x : Taken) (b : ℕ) (items : List Bool) (t : Tid) → x.block < b → is_taken x t ≡ true → is_taken (record { block = b; items = items }) t ≡ true
behind x b items t lt taken =
    let le = before x t taken in
    is-taken (record { block = b; items = items }) t
    ∙ or_left (nat_lt t.block b) ((t.block == b) && get_or items t.item false) (lt-ltb t.block b (omega (arith, lt, le)))

pub none-ahead : (x : Taken) (b : ℕ) (t : Tid) → x.block < b → b ≤ t.block → is_taken x t ≡ false
none-ahead x b t lt le = false_from_ne_true (is_taken x t) (λ taken. let low = before x t taken in absurd (omega (arith, lt, le, low)))

-- Whether a root may be taken

may-is : (x : Taken) (root : Tid) → (root.item ≡ 0 → ⊥) → root.item < 2048 → not (nat_lt root.block x.block || ((root.block == x.block) && get_or x.items root.item false)) ≡ may_take x root
may-is x root some few =
    let item : is_item root ≡ true = and_from (nat_lt 0 root.item) (nat_lt root.item 2048) (lt-ltb 0 root.item (omega (arith, some))) (lt-ltb root.item 2048 few) in
    ap not (sym (is-taken x root)) ∙ ap (λ b. b && not (is_taken x root)) (sym item)

pub in-other-block : (x : Taken) (root : Tid) → (root.item ≡ 0 → ⊥) → root.item < 2048 → (root.block ≡ x.block → ⊥) → nat_lt x.block root.block ≡ may_take x root
in-other-block x root some few other =
    let taken : Bool = get_or x.items root.item false in
    let no : ((root.block == x.block) && taken) ≡ false = and_left (root.block == x.block) taken (ne_eqb root.block x.block other) in
    elim (cases_lt root.block x.block) [
      | inl low ↦
          le-ltb x.block root.block (omega (arith, low))
          ∙ sym (ap not (or_left (nat_lt root.block x.block) ((root.block == x.block) && taken) (lt-ltb root.block x.block low)))
          ∙ may-is x root some few
      | inr high ↦
          lt-ltb x.block root.block (omega (arith, high, other))
          ∙ sym (ap not (or_from (nat_lt root.block x.block) ((root.block == x.block) && taken) (le-ltb root.block x.block high) no))
          ∙ may-is x root some few
    ]

pub in-this-block : (x : Taken) (root : Tid) → (root.item ≡ 0 → ⊥) → root.item < 2048 → root.block ≡ x.block → not (get_or x.items root.item false) ≡ may_take x root
in-this-block x root some few same =
    let taken : Bool = get_or x.items root.item false in
    let low : nat_lt root.block x.block ≡ false = le-ltb root.block x.block (omega (arith, same)) in
    let here : (root.block == x.block) ≡ true = eq-eqb root.block x.block same in
    ap not (sym (ap (λ b. b || ((root.block == x.block) && taken)) low ∙ ap (λ b. b && taken) here)) ∙ may-is x root some few

pub item-few : (x : Taken) (root : Tid) → may_take x root ≡ true → root.item < 2048
item-few x root may =
    let item = (and_parts (is_item root) (not (is_taken x root)) may).0 in
    ltb-true root.item 2048 (and_parts (nat_lt 0 root.item) (nat_lt root.item 2048) item).1

pub item-some : (x : Taken) (root : Tid) → may_take x root ≡ true → root.item ≢ 0
item-some x root may =
    let item = (and_parts (is_item root) (not (is_taken x root)) may).0 in
    let some = ltb-true 0 root.item (and_parts (nat_lt 0 root.item) (nat_lt root.item 2048) item).0 in
    λ none. omega (arith, some, none)

pub not-taken : (x : Taken) (root : Tid) → may_take x root ≡ true → is_taken x root ≡ false
not-taken x root may = not-true (is_taken x root) (and_parts (is_item root) (not (is_taken x root)) may).1

pub goes-on : (x : Taken) (root : Tid) → may_take x root ≡ true → x.block ≤ root.block
goes-on x root may =
    let low = (or_parts (nat_lt root.block x.block) ((root.block == x.block) && get_or x.items root.item false) (sym (is-taken x root) ∙ not-taken x root may)).0 in
    ltb-false root.block x.block low

-- A root that is taken

module _ (b : ℕ) (items : List Bool) (root : Tid) (here : b ≡ root.block) (inside : root.item < length items) where
  abbrev after : Taken
  after = record { block = b; items = slice_set items root.item true }

  abbrev is_set : ℕ → Bool
  is_set i = get_or (slice_set items root.item true) i false

  set-itself : is_set root.item ≡ true
  set-itself = get_or-set_same items root.item true false inside

  set-other : (i : ℕ) → (i ≡ root.item → ⊥) → is_set i ≡ get_or items i false
  set-other i other = get_or-set_other items root.item i true false other

  pub takes-itself : is_taken after root ≡ true
  takes-itself =
      is-taken after root
      ∙ or_right (nat_lt root.block b) ((root.block == b) && is_set root.item) (and_from (root.block == b) (is_set root.item) (eq-eqb root.block b (sym here)) set-itself)

  pub takes-more : (t : Tid) → is_taken (record { block = b; items = items }) t ≡ true → is_taken after t ≡ true
  takes-more t taken = elim (or_cases (nat_lt t.block b) ((t.block == b) && get_or items t.item false) (sym (is-taken (record { block = b; items = items }) t) ∙ taken)) [
    | inl low ↦ is-taken after t ∙ or_left (nat_lt t.block b) ((t.block == b) && is_set t.item) low
    | inr at ↦
        let both = and_parts (t.block == b) (get_or items t.item false) at in
        is-taken after t
        ∙ or_right (nat_lt t.block b) ((t.block == b) && is_set t.item) (and_from (t.block == b) (is_set t.item) both.0 (either-item t both.1 (cases_Bool (t.item == root.item))))
  ]
    where
      either-item : (t : Tid) → get_or items t.item false ≡ true → ((t.item == root.item) ≡ true) ⊎ ((t.item == root.item) ≡ false) → is_set t.item ≡ true
      either-item t was (inl same) = ap is_set (eqb-true t.item root.item same) ∙ set-itself
      either-item t was (inr other) = set-other t.item (eqb-false t.item root.item other) ∙ was

  pub takes-only : (t : Tid) → root.block ≤ t.block → is_taken after t ≡ true → (is_taken (record { block = b; items = items }) t ≡ true) ⊎ (t ≡ root)
  takes-only t le taken = elim (or_cases (nat_lt t.block b) ((t.block == b) && is_set t.item) (sym (is-taken after t) ∙ taken)) [
    | inl low ↦ let less = ltb-true t.block b low in absurd (omega (arith, less, le, here))
    | inr at ↦
        let both = and_parts (t.block == b) (is_set t.item) at in
        either-item t both.0 both.1 (cases_Bool (t.item == root.item))
  ]
    where
      either-item : (t : Tid) → (t.block == b) ≡ true → is_set t.item ≡ true → ((t.item == root.item) ≡ true) ⊎ ((t.item == root.item) ≡ false) → (is_taken (record { block = b; items = items }) t ≡ true) ⊎ (t ≡ root)
      either-item t block is (inl same) = inr (λ i. record { block = (eqb-true t.block b block ∙ here) i; item = eqb-true t.item root.item same i })
      either-item t block is (inr other) =
          inl (is-taken (record { block = b; items = items }) t
          ∙ or_right (nat_lt t.block b) ((t.block == b) && get_or items t.item false)
          (and_from (t.block == b) (get_or items t.item false) block (sym (set-other t.item (eqb-false t.item root.item other)) ∙ is)))
