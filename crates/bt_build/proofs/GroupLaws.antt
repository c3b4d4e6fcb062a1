-- Items: how many entries each has, and how many bytes.
use Rattle.std.proofs.Common.{◌≡◌, ◌≤◌, ◌<◌, ◌+◌, ◌-◌, ◌/◌, ◌∙◌, ℕ, zero, suc, min, Bool, true, false, inl, inr, List, [], ◌∷◌, ◌++◌, length, map, take, drop, get_or, refl, sym, ap, subst, arith, append-nil, append_assoc, cond, length-drop}
use Rattle.std.specs.Prelude.{nat_eq, nat_le, not, if◌then◌else◌}
use Rattle.std.specs.List.{AllByRecursion}
use Rattle.std.proofs.lemmas.Bool.{cases_Bool, cond-true, cond-false, le-leb, lt-leb, leb-true, leb-false, ltb-false, ne_eqb}
use Rattle.std.proofs.lemmas.List.{drop_all, length-map, length-take-le, map-append}
use Rattle.std.proofs.Math.Seq.{drop-cons, drop-drop}
use Rattle.key_orders.specs.declared.columns.KeySpec.{KeySpec}
use Rattle.key_orders.specs.declared.more.MoreSpec.{MoreSpec}
use Rattle.bt_tuples.specs.Rules.{includes_some}
use Rattle.bt_image.specs.Image.{LeafEntry}
use Rattle.laws_building.specs.Groups.{Grouping, greatest, group_up_to, grouped, may_have, more_of, run_length}
use Rattle.page_write.specs.Bodies.{body_flags, index_body}
use Rattle.page_write.specs.Posting.{posting_size}
use Rattle.page_write.specs.Tuples.{index_size}
use Rattle.page_write.proofs.PostingReading.{length_posting}
use Rattle.page_write.proofs.TupleReading.{length_plain}
use Rattle.laws_built_index.specs.Items.{entry_types, leaf_item, tids_of}
use Rattle.laws_built_index.specs.Sizes.{grouping_of, items_for}
use Rattle.bt_build.specs.declared.entries.Place.{Place}
use Rattle.bt_build.specs.declared.groups.Item.{Item}
use Rattle.bt_build.specs.Kept.{IsKept, entries_at, entry_at}
use Rattle.bt_build.specs.Outcome.{is_too_large}
use Rattle.bt_build.proofs.LargeLaws.{too_large}
use Rattle.bt_build.specs.Groups.{AreItems, Follow, IsItem, IsNextItem, entries_in, size_with}

-- The greatest number that passes

same_le : (a b c d : ℕ) → (c ≤ d → a ≤ b) → (d < c → b < a) → nat_le a b ≡ nat_le c d
same_le a b c d up down = elim (cases_Bool (nat_le c d)) [
  | inl t ↦ le-leb a b (up (leb-true c d t)) ∙ sym t
  | inr t ↦ lt-leb a b (down (leb-false c d t)) ∙ sym t
]

pub greatest_is : (test : ℕ → Bool) (m k : ℕ) → ((n : ℕ) → n < k → test (suc n) ≡ nat_le (suc n) m) → greatest test k ≡ min k m
greatest_is test m zero h = omega arith
greatest_is test m (suc k) h = elim (cases_Bool (nat_le (suc k) m)) [
  | inl t ↦ let le = leb-true (suc k) m t in cond-true (test (suc k)) (suc k) (greatest test k) (h k (omega arith) ∙ t) ∙ omega (arith, le)
  | inr t ↦
      let high = leb-false (suc k) m t in
      let rest = greatest_is test m k (λ n lt. h n (omega (arith, lt))) in
      cond-false (test (suc k)) (suc k) (greatest test k) (h k (omega arith) ∙ t) ∙ rest ∙ omega (arith, high)
]

-- how many TIDs beyond the first have room behind a body of so many bytes
abbrev pub room_more : (len : ℕ) → ℕ
room_more len = (2704 - index_size len) / 6 - 1

has_room : (len n : ℕ) → nat_le (posting_size len (suc (suc n))) 2704 ≡ nat_le (suc n) (room_more len)
has_room len n = same_le (posting_size len (suc (suc n))) 2704 (suc n) (room_more len) (λ h. omega (arith, h)) (λ h. omega (arith, h))

pub most_is : (len k : ℕ) → greatest (λ n. nat_le (posting_size len (suc n)) 2704) k ≡ min k (room_more len)
most_is len k = greatest_is (λ n. nat_le (posting_size len (suc n)) 2704) (room_more len) k (λ n lt. has_room len n)

-- Bytes

body_of : List KeySpec → List MoreSpec → LeafEntry → List ℕ
body_of specs ms e = index_body (entry_types specs ms) (e.entry.values ++ e.more)

pub item_length : (specs : List KeySpec) (ms : List MoreSpec) (e : LeafEntry) (es : List LeafEntry) (n : ℕ) → n ≤ length es
    → length (leaf_item specs ms (e ∷ take n es)) ≡ size_with (length (index_body (entry_types specs ms) (e.entry.values ++ e.more))) n
item_length specs ms e es zero le =
    length_plain e.entry.tid (body_flags (entry_types specs ms) (e.entry.values ++ e.more)) (index_body (entry_types specs ms) (e.entry.values ++ e.more))
item_length specs ms e [] (suc n) le = absurd (omega (arith, le))
item_length specs ms e (d ∷ es) (suc n) le =
    let tids = tids_of (e ∷ d ∷ take n es) in
    let body : List ℕ = index_body (entry_types specs ms) (e.entry.values ++ e.more) in
    let many : length tids ≡ suc (suc n) = let a = length-map (take n es) (λ (x : LeafEntry). x.entry.tid) in let b = length-take-le n es (omega (arith, le)) in omega (arith, a, b) in
    length_posting tids (body_flags (entry_types specs ms) (e.entry.values ++ e.more)) body
    ∙ ap (posting_size (length body)) many

-- How many entries an item has

pub run_short : {E : Type 0} (same : E → E → Bool) (e : E) (es : List E) → run_length same e es ≤ length es
run_short same e [] = omega arith
run_short same e (d ∷ ds) = by_key (same e d) (run_short same e ds)
  where
    by_key : (b : Bool) → run_length same e ds ≤ length ds → cond b (suc (run_length same e ds)) zero ≤ length (d ∷ ds)
    by_key true le = omega (arith, le)
    by_key false le = omega arith

module _ (specs : List KeySpec) (ms : List MoreSpec) where
  pub more_is : (e : LeafEntry) (es : List LeafEntry) (most : ℕ)
      → most ≡ greatest (λ n. nat_le (posting_size (length (index_body (entry_types specs ms) (e.entry.values ++ e.more))) (suc n)) 2704) (if includes_some ms then 0 else 63)
      → more_of (grouping_of specs ms) e es ≡ min most (run_length (grouping_of specs ms).same_key e es)
  more_is e es most is =
      let g = grouping_of specs ms in
      let len : ℕ = length (index_body (entry_types specs ms) (e.entry.values ++ e.more)) in
      let run : ℕ = run_length g.same_key e es in
      let short = run_short g.same_key e es in
      let test : (n : ℕ) → n < min g.most_more run → may_have g e es (suc n) ≡ nat_le (suc n) (room_more len) =
      λ n lt. ap (λ (k : ℕ). nat_le k 2704) (item_length specs ms e es (suc n) (omega (arith, lt, short))) ∙ has_room len n in
      let a = greatest_is (may_have g e es) (room_more len) (min g.most_more run) test in
      let b : most ≡ min g.most_more (room_more len) = is ∙ most_is len g.most_more in
      a ∙ omega (arith, b)

module _ {E : Type 0} (g : Grouping E) where
  fuel : (n m : ℕ) (es : List E) → length es ≤ n → length es ≤ m → group_up_to g n es ≡ group_up_to g m es
  fuel zero zero [] p q = refl
  fuel zero (suc m) [] p q = refl
  fuel (suc n) zero [] p q = refl
  fuel (suc n) (suc m) [] p q = refl
  fuel zero m (e ∷ es) p q = absurd (omega (arith, p))
  fuel (suc n) zero (e ∷ es) p q = absurd (omega (arith, q))
  fuel (suc n) (suc m) (e ∷ es) p q =
      let l = length-drop (more_of g e es) es in
      ap (λ (w : List (List E)). (e ∷ take (more_of g e es) es) ∷ w) (fuel n m (drop (more_of g e es) es) (omega (arith, p, l)) (omega (arith, q, l)))

  pub next_group : (e : E) (es : List E) → grouped g (e ∷ es) ≡ (e ∷ take (more_of g e es) es) ∷ grouped g (drop (more_of g e es) es)
  next_group e es =
      let l = length-drop (more_of g e es) es in
      ap (λ (w : List (List E)). (e ∷ take (more_of g e es) es) ∷ w) (fuel (length es) (length (drop (more_of g e es) es)) (drop (more_of g e es) es) (omega (arith, l)) (omega arith))

pub short_body : (specs : List KeySpec) (ms : List MoreSpec) (e : LeafEntry) (body : List ℕ)
    → body ≡ index_body (entry_types specs ms) (e.entry.values ++ e.more) → is_too_large specs ms e ≡ false → length body ≤ 2696
short_body specs ms e body is small =
    let low = ltb-false 2704 (index_size (length body)) (too_large specs ms e body is ∙ small) in
    omega (arith, low)

-- what a place tells of the body of an entry that isn't too large
pub short_told : (specs : List KeySpec) (ms : List MoreSpec) (arena : List ℕ) (p : Place) → IsKept specs ms arena p → is_too_large specs ms (entry_at specs arena p) ≡ false
    → (p.body_length ≡ length (index_body (entry_types specs ms) ((entry_at specs arena p).entry.values ++ (entry_at specs arena p).more))) × (p.body_length ≤ 2696)
short_told specs ms arena p kept small =
    let e = entry_at specs arena p in
    let body : List ℕ = index_body (entry_types specs ms) (e.entry.values ++ e.more) in
    let short = short_body specs ms e body refl small in
    let told = kept.length_is in
    (omega (arith, told, short), omega (arith, told, short))

pub most_few : (len : ℕ) (b : Bool) (most : ℕ) → most ≡ greatest (λ n. nat_le (posting_size len (suc n)) 2704) (if b then 0 else 63) → most ≤ 63
most_few len true most is = omega (arith, is)
most_few len false most is = let m = most_is len 63 in omega (arith, is, m)

pub includes_is : (ms : List MoreSpec) → not (nat_eq (length ms) 0) ≡ includes_some ms
includes_is [] = refl
includes_is (m ∷ ms) = ap not (ne_eqb (length (m ∷ ms)) 0 (λ h. omega (arith, h)))

-- what a read past the end of a list of places would give
abbrev pub nowhere : Place
nowhere = record { prefix = 0; at = 0; block = 0; item = 0; body_length = 0 }

pub drop_entries : (specs : List KeySpec) (arena : List ℕ) (ps : List Place) (n : ℕ) → entries_at specs arena (drop n ps) ≡ drop n (entries_at specs arena ps)
drop_entries specs arena ps zero = refl
drop_entries specs arena [] (suc n) = refl
drop_entries specs arena (p ∷ ps) (suc n) = drop_entries specs arena ps n

-- The run of entries of one key

module _ (specs : List KeySpec) (ms : List MoreSpec) (arena : List ℕ) (p : Place) where
  abbrev run : List Place → ℕ
  run later = run_length (grouping_of specs ms).same_key (entry_at specs arena p) (entries_at specs arena later)

  pub next_run : (later : List Place) (i : ℕ) (d : Place) (b : Bool) → i < length later
      → b ≡ (grouping_of specs ms).same_key (entry_at specs arena p) (entry_at specs arena (get_or later i d))
      → run_length (grouping_of specs ms).same_key (entry_at specs arena p) (entries_at specs arena (drop i later))
      ≡ cond b (suc (run_length (grouping_of specs ms).same_key (entry_at specs arena p) (entries_at specs arena (drop (i + 1) later)))) 0
  next_run later i d b lt test =
      let on : suc i ≡ i + 1 = omega arith in
      ap run (drop-cons later i d lt)
      ∙ (λ j. cond (sym test j) (suc (run (drop (on j) later))) 0)

  pub run_goes_on : (later : List Place) (i : ℕ) (d : Place) (b : Bool) → i < length later
      → b ≡ (grouping_of specs ms).same_key (entry_at specs arena p) (entry_at specs arena (get_or later i d)) → b ≡ true
      → i + run (drop i later) ≡ run later → i + 1 + run (drop (i + 1) later) ≡ run later
  run_goes_on later i d b lt test is so =
      let h : run (drop i later) ≡ suc (run (drop (i + 1) later)) = next_run later i d b lt test ∙ cond-true b _ _ is in
      omega (arith, h, so)

  pub run_stops : (later : List Place) (i most : ℕ) (d : Place) (b : Bool) → i < length later → i ≤ most
      → b ≡ (grouping_of specs ms).same_key (entry_at specs arena p) (entry_at specs arena (get_or later i d)) → b ≡ false
      → i + run (drop i later) ≡ run later → i ≡ min most (run later)
  run_stops later i most d b lt le test is so =
      let h : run (drop i later) ≡ 0 = next_run later i d b lt test ∙ cond-false b _ _ is in
      omega (arith, h, so, le)

  pub run_end : (later : List Place) (i most : ℕ) → i ≡ min most (length later) → i + run (drop i later) ≡ run later → i ≡ min most (run later)
  run_end later i most is so =
      let a = run_short (grouping_of specs ms).same_key (entry_at specs arena p) (entries_at specs arena (drop i later)) in
      let b = length-map (drop i later) (entry_at specs arena) in
      let l = length-drop i later in
      omega (arith, is, so, a, b, l)

-- The next item

size_small : (len more : ℕ) → len ≤ 2696 → more ≤ room_more len → size_with len more ≤ 2704
size_small len zero short le = omega (arith, short)
size_small len (suc n) short le = omega (arith, short, le)

next_is : (specs : List KeySpec) (ms : List MoreSpec) (e : LeafEntry) (es : List LeafEntry) (item : Item) (more : ℕ)
    → more ≡ more_of (grouping_of specs ms) e es → more ≤ length es → item.count ≡ suc more → item.size ≤ 2704
    → item.size ≡ size_with (length (index_body (entry_types specs ms) (e.entry.values ++ e.more))) more
    → IsNextItem specs ms item.first (e ∷ es) item
next_is specs ms e es item more is le count most size = record {
  first_is = refl;
  items = next_group (grouping_of specs ms) e es ∙ (λ i. (e ∷ take (sym is i) es) ∷ grouped (grouping_of specs ms) (drop (sym is i) es)) ∙ (λ i. take (sym count i) (e ∷ es) ∷ grouped (grouping_of specs ms) (drop (sym count i) (e ∷ es)));
  size = size ∙ sym (item_length specs ms e es more le) ∙ (λ i. length (leaf_item specs ms (take (sym count i) (e ∷ es))));
  most = most;
  some = omega (arith, count);
  within = omega (arith, count, le);
}

pub next_here : (specs : List KeySpec) (ms : List MoreSpec) (arena : List ℕ) (places : List Place) (first : ℕ) (len most more size : ℕ) (item : Item)
    → first < length places → len ≤ 2696 → len ≡ length (index_body (entry_types specs ms) ((entry_at specs arena (get_or places first nowhere)).entry.values ++ (entry_at specs arena (get_or places first nowhere)).more))
    → most ≡ greatest (λ n. nat_le (posting_size len (suc n)) 2704) (if not (nat_eq (length ms) 0) then 0 else 63)
    → more ≡ min most (run_length (grouping_of specs ms).same_key (entry_at specs arena (get_or places first nowhere)) (entries_at specs arena (drop (first + 1) places)))
    → size ≡ size_with len more → item ≡ record { first = first; count = more + 1; size = size }
    → IsNextItem specs ms first (entries_at specs arena (drop first places)) item
next_here specs ms arena places first len most more size item lt len_short len_is most_is_so more_is_so size_is item_is =
    let e : LeafEntry = entry_at specs arena (get_or places first nowhere) in
    let es : List LeafEntry = entries_at specs arena (drop (first + 1) places) in
    let on : suc first ≡ first + 1 = omega arith in
    let whole : drop first places ≡ get_or places first nowhere ∷ drop (first + 1) places = drop-cons places first nowhere lt ∙ (λ i. get_or places first nowhere ∷ drop (on i) places) in
    let greatest_so = most_is_so ∙ (λ i. greatest (λ n. nat_le (posting_size (len_is i) (suc n)) 2704) (if includes_is ms i then 0 else 63)) in
    let many : more_of (grouping_of specs ms) e es ≡ min most (run_length (grouping_of specs ms).same_key e es) = more_is specs ms e es most greatest_so in
    let short = run_short (grouping_of specs ms).same_key e es in
    let room : most ≡ min (if not (nat_eq (length ms) 0) then 0 else 63) (room_more len) = most_is_so ∙ most_is len (if not (nat_eq (length ms) 0) then 0 else 63) in
    let small = size_small len more len_short (omega (arith, more_is_so, room)) in
    let it : Item = record { first = first; count = more + 1; size = size } in
    let is : IsNextItem specs ms first (e ∷ es) it = next_is specs ms e es it more (more_is_so ∙ sym many) (omega (arith, more_is_so, short)) (omega arith) (omega (arith, small, size_is)) (size_is ∙ ap (λ (n : ℕ). size_with n more) len_is) in
    subst (λ (w : List Place × Item). IsNextItem specs ms first (entries_at specs arena w.0) w.1) (λ i. (sym whole i, sym item_is i)) is

-- An item more

follow_last : (first : ℕ) (items : List Item) (end : ℕ) (item : Item) → Follow first items end → item.first ≡ end → Follow first (items ++ item ∷ []) (end + item.count)
follow_last first [] end item follow is = (is ∙ sym follow, λ i. follow i + item.count)
follow_last first (x ∷ items) end item follow is = (follow.0, follow_last (first + x.count) items end item follow.1 is)

all_last : (P : Item → Type 0) (items : List Item) (item : Item) → AllByRecursion P items → P item → AllByRecursion P (items ++ item ∷ [])
all_last P [] item all last = (last, tt)
all_last P (x ∷ items) item all last = (all.0, all_last P items item all.1 last)

-- the items of the entries before `first`
pub record SoFar (specs : List KeySpec) (ms : List MoreSpec) (es : List LeafEntry) (first : ℕ) (items : List Item) : Type 0 where
  pub within : first ≤ length es
  pub are : map (entries_in es) items ++ items_for specs ms (drop first es) ≡ items_for specs ms es
  pub each : AllByRecursion (IsItem specs ms es) items
  pub follow : Follow 0 items first

pub none_so_far : (specs : List KeySpec) (ms : List MoreSpec) (es : List LeafEntry) (items : List Item) → items ≡ [] → SoFar specs ms es 0 items
none_so_far specs ms es items none = subst (SoFar specs ms es 0) (sym none) (record { within = omega arith; are = refl; each = tt; follow = refl })

pub next_so_far : (specs : List KeySpec) (ms : List MoreSpec) (es : List LeafEntry) (first : ℕ) (items : List Item) (item : Item)
    → SoFar specs ms es first items → IsNextItem specs ms first (drop first es) item → SoFar specs ms es (first + item.count) (items ++ item ∷ [])
next_so_far specs ms es first items item so next =
    let l = length-drop first es in
    let within : first + item.count ≤ length es = omega (arith, l, next.within, so.within) in
    let here : take item.count (drop first es) ≡ entries_in es item = λ i. take item.count (drop (sym next.first_is i) es) in
    record {
      within = within;
      are =
          ap (λ w. w ++ items_for specs ms (drop (first + item.count) es)) (map-append (entries_in es) items (item ∷ []))
          ∙ append_assoc (map (entries_in es) items) (entries_in es item ∷ []) (items_for specs ms (drop (first + item.count) es))
          ∙ (λ i. map (entries_in es) items ++ (sym here i ∷ items_for specs ms (sym (drop-drop item.count first es) i)))
          ∙ ap (λ w. map (entries_in es) items ++ w) (sym next.items) ∙ so.are;
      each = all_last (IsItem specs ms es) items item so.each (record { size = next.size ∙ ap (λ w. length (leaf_item specs ms w)) here; most = next.most; some = next.some; within = omega (arith, within, next.first_is) });
      follow = follow_last 0 items first item so.follow next.first_is;
    }

pub all_items : (specs : List KeySpec) (ms : List MoreSpec) (es : List LeafEntry) (first : ℕ) (items : List Item)
    → SoFar specs ms es first items → length es ≤ first → AreItems specs ms es items
all_items specs ms es first items so done =
    let end : first ≡ length es = omega (arith, so.within, done) in
    let none : drop first es ≡ [] = drop_all first es done in
    record {
      are = sym (append-nil (map (entries_in es) items)) ∙ (λ i. map (entries_in es) items ++ items_for specs ms (sym none i)) ∙ so.are;
      each = so.each;
      follow = subst (Follow 0 items) end so.follow;
    }
