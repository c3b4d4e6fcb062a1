-- What is met while the entries of an index come by rising key and TID: of all rows exactly those are noted before which
-- a row with the same key stands, where this key counts.
use Rattle.std.proofs.Common.{◌≡◌, ◌∙◌, ◌≤◌, ◌<◌, ℕ, suc, inl, inr, Bool, true, false, List, [], ◌∷◌, ◌++◌, refl, ap, sym, subst, arith, append-nil, append_assoc}
use Rattle.std.specs.Prelude.{AllPairs, Contains, Option, Some, None, cond, not, ◌==◌, ◌&&◌, ◌⊎◌, nat_lt}
use Rattle.std.proofs.lemmas.Bool.{and_from, and_parts, both_ways, cases_eq, cases_lt}
use Rattle.std.proofs.lemmas.Bool.Decides.{nat_tests}
use Rattle.std.proofs.lemmas.List.Elements.{Contains-append_cases, Contains-append_left, Contains-append_right, Contains-push, Contains-push_cases}
use Rattle.laws_search.specs.Keys.{Entry}
use Rattle.key_orders.specs.declared.columns.Value.{Value}
use Rattle.key_orders.specs.declared.Tid.{Tid}
use Rattle.key_storage.specs.Same.{same_key}
use Rattle.key_storage.proofs.SameLaws.{keys_decide}
use Rattle.bt_steps.proofs.Members.{either-in, first-in, none-in, other-in}
use Rattle.heap_rows.specs.RowLaws.{IsBefore, in_lower_block, in_same_block}
use Rattle.heap_rows.specs.declared.rows.LiveRow.{LiveRow}
use Rattle.join_rules.specs.Unique.{counts}
use Rattle.join_unique.specs.Groups.{Group, Met, Table, begun, block_met, closed, entries_met, entry_met, first_group, has_key, later_rows, leaves_block, named, next_count, opened, row_met, rows_met, tid_met, tid_number, with_row}

abbrev Item : Type 0
Item = Entry Value Tid

-- Places

pub not-itself : (t : Tid) → IsBefore t t → ⊥
not-itself t (in_lower_block lt) = absurd (omega (arith, lt))
not-itself t (in_same_block e lt) = absurd (omega (arith, lt))

pub not-back : (t u : Tid) → IsBefore t u → IsBefore u t → ⊥
not-back t u (in_lower_block a) (in_lower_block b) = absurd (omega (arith, a, b))
not-back t u (in_lower_block a) (in_same_block e b) = absurd (omega (arith, a, e))
not-back t u (in_same_block e a) (in_lower_block b) = absurd (omega (arith, e, b))
not-back t u (in_same_block e a) (in_same_block f b) = absurd (omega (arith, a, b))

pub block-le : (t u : Tid) → IsBefore t u → t.block ≤ u.block
block-le t u (in_lower_block lt) = omega (arith, lt)
block-le t u (in_same_block e lt) = omega (arith, e)

-- Keys

has-key-is : (key : List Value) (o : Option (List Value)) → has_key key o ≡ true → o ≡ Some key
has-key-is key (Some held) h = ap Some (sym ((keys_decide key held).0 h))
has-key-is key None h = absurd cc

key-had : (key : List Value) (o : Option (List Value)) → o ≡ Some key → has_key key o ≡ true
key-had key o e = ap (has_key key) e ∙ (keys_decide key key).1 refl

not-zero : (n : ℕ) → (n ≡ 0 → ⊥) → nat_lt 0 n ≡ true
not-zero n some = elim (cases_eq n 0) [
  | inl z ↦ absurd (some z)
  | inr s ↦ grind (arith, nat_tests, s)
]

next-some : (n : ℕ) → next_count n ≡ 0 → ⊥
next-some n = go (n == 0)
  where
    go : (b : Bool) → ◌≡◌ {A = ℕ} (cond b 1 2) 0 → ⊥
    go true e = absurd (omega (arith, e))
    go false e = absurd (omega (arith, e))

next-one : (n : ℕ) → next_count n ≡ 1 → n ≡ 0
next-one n = go (n == 0) refl
  where
    go : (b : Bool) → (n == 0) ≡ b → ◌≡◌ {A = ℕ} (cond b 1 2) 1 → n ≡ 0
    go true is e = grind (arith, nat_tests, is)
    go false is e = absurd (omega (arith, e))

-- the members of a list in two parts, the second of which has a first member
pub data Part {X : Type 0} (before : List X) (x : X) (after : List X) (y : X) : Type 0 where
  is_before : Contains before y → Part before x after y
  is_it : x ≡ y → Part before x after y
  is_after : Contains after y → Part before x after y

pub part-of : {X : Type 0} (before : List X) (x : X) (after : List X) (y : X) → Contains (before ++ x ∷ after) y → Part before x after y
part-of before x after y h = elim (Contains-append_cases before (x ∷ after) y h) [
  | inl l ↦ is_before l
  | inr r ↦ elim (either-in x y after r) [
    | inl e ↦ is_it e
    | inr a ↦ is_after a
  ]
]

-- A list in which each two members stand in a relation, at one of them

pair-in : {X : Type 0} (R : X → X → Type 0) (x : X) (xs : List X) → AllPairs R (x ∷ xs) → (y : X) → Contains xs y → R x y
pair-in R x xs pairs y among = subst (R x) among.2 (pairs 0 (suc among.0) y (omega arith) (let lt = among.1 in omega (arith, lt)))

pair-rest : {X : Type 0} (R : X → X → Type 0) (x : X) (xs : List X) → AllPairs R (x ∷ xs) → AllPairs R xs
pair-rest R x xs pairs = λ i j d lt within. pairs (suc i) (suc j) d (omega (arith, lt)) (omega (arith, within))

-- those before it, and those behind it
pair-before : {X : Type 0} (R : X → X → Type 0) (before : List X) (x : X) (after : List X) → AllPairs R (before ++ x ∷ after) → (y : X) → Contains before y → R y x
pair-before R [] x after pairs y among = absurd (none-in y [] refl among)
pair-before R (z ∷ before) x after pairs y among = elim (either-in z y before among) [
  | inl e ↦ subst (λ w. R w x) e (pair-in R z (before ++ x ∷ after) pairs x (Contains-append_right before (x ∷ after) x (first-in x after)))
  | inr k ↦ pair-before R before x after (pair-rest R z (before ++ x ∷ after) pairs) y k
]

pair-after : {X : Type 0} (R : X → X → Type 0) (before : List X) (x : X) (after : List X) → AllPairs R (before ++ x ∷ after) → (y : X) → Contains after y → R x y
pair-after R [] x after pairs y among = pair-in R x after pairs y among
pair-after R (z ∷ before) x after pairs y among = pair-after R before x after (pair-rest R z (before ++ x ∷ after) pairs) y among

-- What is known of an index and its heap

-- equal keys stand side by side, and their TIDs rise
pub record AreGrouped (es : List Item) : Type 0 where
  pub rise : (before : List Item) (e : Item) (after : List Item) → es ≡ before ++ e ∷ after → (d : Item) → Contains before d → d.values ≡ e.values → IsBefore d.tid e.tid
  pub onward : (before : List Item) (e : Item) (after : List Item) → es ≡ before ++ e ∷ after → (f : Item) → Contains after f → e.values ≡ f.values → IsBefore e.tid f.tid
  pub between : (before : List Item) (e : Item) (after : List Item) → es ≡ before ++ e ∷ after → (d f : Item) → Contains before d → Contains after f → d.values ≡ f.values → e.values ≡ d.values

-- an entry of a row
pub record HasItem (es : List Item) (key : List Value) (tid : Tid) : Type 0 where
  pub item : Item
  pub among : Contains es item
  pub values : item.values ≡ key
  pub tid_is : item.tid ≡ tid

pub record Fits (t : Table) (rows : List LiveRow) (es : List Item) : Type 0 where
  pub grouped : AreGrouped es
  pub in_block : (row : LiveRow) → Contains rows row → Contains (t.rows_in row.tid.block) row
  pub of_block : (block : ℕ) (row : LiveRow) → Contains (t.rows_in block) row → Contains rows row × (row.tid.block ≡ block)
  pub rise : (block : ℕ) → AllPairs (λ row later. IsBefore row.tid later.tid) (t.rows_in block)
  pub root_block : (row : LiveRow) → Contains rows row → row.root.block ≡ row.tid.block
  pub root : (row : LiveRow) → Contains rows row → t.may_root row.root ≡ true
  pub apart : (row other : LiveRow) → Contains rows row → Contains rows other → row.root ≡ other.root → row.tid ≡ other.tid
  pub entry : (row : LiveRow) (key : List Value) → Contains rows row → t.key_in row ≡ Some key → HasItem es key row.root

-- two rows of one key that counts
pub record Two (t : Table) (rows : List LiveRow) (earlier row : LiveRow) : Type 0 where
  pub first : Contains rows earlier
  pub second : Contains rows row
  pub lower : IsBefore earlier.tid row.tid
  pub key : List Value
  pub of_first : t.key_in earlier ≡ Some key
  pub of_second : t.key_in row ≡ Some key
  pub counted : counts t.unique key ≡ true

some-is : (a b : List Value) → Some a ≡ Some b → a ≡ b
some-is a b e = cc

module _ (t : Table) (rows : List LiveRow) (es : List Item) (fit : Fits t rows es) where
  -- the number is that of a row with an earlier one of its key
  record IsNoted (n : ℕ) : Type 0 where
    earlier : LiveRow
    row : LiveRow
    two : Two t rows earlier row
    number : n ≡ tid_number row.tid

  -- The rows of a block

  module _ (key : List Value) (counted : counts t.unique key ≡ true) (block : ℕ) (was : Met) where
    -- a row of the key that stands before all of these
    record Earlier (left : List LiveRow) : Type 0 where
      row : LiveRow
      among : Contains rows row
      has : t.key_in row ≡ Some key
      high : row.tid.block ≤ block
      before : (other : LiveRow) → Contains left other → IsBefore row.tid other.tid

    record Meets (done left : List LiveRow) (m : Met) : Type 0 where
      all : t.rows_in block ≡ done ++ left
      sound : (n : ℕ) → Contains m.later n → IsNoted n
      kept : (n : ℕ) → Contains was.later n → Contains m.later n
      evidence : m.some ≡ true → Earlier left
      seen : (row : LiveRow) → Contains rows row → t.key_in row ≡ Some key → (row.tid.block < block) ⊎ Contains done row → m.some ≡ true
      noted : (earlier row : LiveRow) → Two t rows earlier row → t.key_in row ≡ Some key → Contains done row → Contains m.later (tid_number row.tid)

    -- a row without the key
    passed : (done : List LiveRow) (row : LiveRow) (left : List LiveRow) (m : Met) → has_key key (t.key_in row) ≡ false → Meets done (row ∷ left) m → Meets (done ++ row ∷ []) left m
    passed done row left m none was_so = record {
      all = was_so.all ∙ sym (append_assoc done (row ∷ []) left);
      sound = was_so.sound;
      kept = was_so.kept;
      evidence = λ some. let e = was_so.evidence some in record { row = e.row; among = e.among; has = e.has; high = e.high; before = λ other among. e.before other (other-in row other left among) };
      seen = λ other among has where_is. elim where_is [
        | inl lt ↦ was_so.seen other among has (inl lt)
        | inr d ↦ elim (Contains-push_cases done row other d) [
          | inl k ↦ was_so.seen other among has (inr k)
          | inr same ↦ absurd (both_ways (has_key key (t.key_in row)) none (key-had key (t.key_in row) (ap t.key_in same ∙ has)))
        ]
      ];
      noted = λ earlier other two has d. elim (Contains-push_cases done row other d) [
        | inl k ↦ was_so.noted earlier other two has k
        | inr same ↦ absurd (both_ways (has_key key (t.key_in row)) none (key-had key (t.key_in row) (ap t.key_in same ∙ has)))
      ];
    }

    -- the rows of the block before one of them that are rows with lower TIDs
    before-it : (done : List LiveRow) (row : LiveRow) (left : List LiveRow) → t.rows_in block ≡ done ++ row ∷ left → (other : LiveRow) → Contains rows other → IsBefore other.tid row.tid → (other.tid.block < block) ⊎ Contains done other
    before-it done row left all other among lower =
        let here = fit.of_block block row (subst (λ xs. Contains xs row) (sym all) (Contains-append_right done (row ∷ left) row (first-in row left))) in
        go lower here
      where
        rising : AllPairs (λ row later. IsBefore row.tid later.tid) (done ++ row ∷ left)
        rising = subst (AllPairs (λ row later. IsBefore row.tid later.tid)) all (fit.rise block)

        go : IsBefore other.tid row.tid → Contains rows row × (row.tid.block ≡ block) → (other.tid.block < block) ⊎ Contains done other
        go (in_lower_block lt) here = inl (let e = here.1 in omega (arith, lt, e))
        go (in_same_block e lt) here =
            let at : other.tid.block ≡ block = e ∙ here.1 in
            let there : Contains (done ++ row ∷ left) other = subst (λ xs. Contains xs other) all (subst (λ b. Contains (t.rows_in b) other) at (fit.in_block other among)) in
            elim (part-of done row left other there) [
              | is_before k ↦ inr k
              | is_it same ↦ absurd (not-itself other.tid (subst (λ r. IsBefore other.tid r.tid) same (in_same_block e lt)))
              | is_after k ↦ absurd (not-back other.tid row.tid (in_same_block e lt) (pair-after (λ row later. IsBefore row.tid later.tid) done row left rising other k))
            ]

    -- a row with it
    noticed : (done : List LiveRow) (row : LiveRow) (left : List LiveRow) (m : Met) → t.key_in row ≡ Some key → Meets done (row ∷ left) m → Meets (done ++ row ∷ []) left (with_row row.tid m)
    noticed done row left m has was_so = record {
      all = was_so.all ∙ sym (append_assoc done (row ∷ []) left);
      sound = λ n among. sound-by m.some refl n among;
      kept = λ n among. kept-by m.some n (was_so.kept n among);
      evidence = λ some. record { row = row; among = here.0; has = has; high = (let e = here.1 in omega (arith, e)); before = λ other k. pair-after (λ row later. IsBefore row.tid later.tid) done row left rising other k };
      seen = λ other among had where_is. refl;
      noted = λ earlier other two had d. elim (Contains-push_cases done row other d) [
        | inl k ↦ kept-by m.some (tid_number other.tid) (was_so.noted earlier other two had k)
        | inr same ↦ subst (λ (r : LiveRow). Contains (cond m.some (m.later ++ tid_number row.tid ∷ []) m.later) (tid_number r.tid)) same
            (added m.some (was_so.seen earlier two.first (two.of_first ∙ sym two.of_second ∙ had)
            (before-it done row left was_so.all earlier two.first (subst (λ (r : LiveRow). IsBefore earlier.tid r.tid) (sym same) two.lower))))
      ];
    }
      where
        here : Contains rows row × (row.tid.block ≡ block)
        here = fit.of_block block row (subst (λ xs. Contains xs row) (sym was_so.all) (Contains-append_right done (row ∷ left) row (first-in row left)))

        rising : AllPairs (λ row later. IsBefore row.tid later.tid) (done ++ row ∷ left)
        rising = subst (AllPairs (λ row later. IsBefore row.tid later.tid)) was_so.all (fit.rise block)

        number : ℕ
        number = tid_number row.tid

        kept-by : (some : Bool) (n : ℕ) → Contains m.later n → Contains (cond some (m.later ++ tid_number row.tid ∷ []) m.later) n
        kept-by true n among = Contains-append_left m.later (tid_number row.tid ∷ []) n among
        kept-by false n among = among

        added : (some : Bool) → some ≡ true → Contains (cond some (m.later ++ tid_number row.tid ∷ []) m.later) (tid_number row.tid)
        added true is = Contains-push m.later (tid_number row.tid)
        added false is = absurd cc

        sound-by : (some : Bool) → m.some ≡ some → (n : ℕ) → Contains (cond some (m.later ++ tid_number row.tid ∷ []) m.later) n → IsNoted n
        sound-by false is n among = was_so.sound n among
        sound-by true is n among = elim (Contains-push_cases m.later (tid_number row.tid) n among) [
          | inl k ↦ was_so.sound n k
          | inr same ↦
              let e = was_so.evidence is in
              record {
                earlier = e.row;
                row = row;
                two = record { first = e.among; second = here.0; lower = e.before row (first-in row left); key = key; of_first = e.has; of_second = has; counted = counted };
                number = sym same;
              }
        ]

    met-next : (done : List LiveRow) (row : LiveRow) (left : List LiveRow) (m : Met) → Meets done (row ∷ left) m → Meets (done ++ row ∷ []) left (row_met t key row m)
    unfolding row_met
    met-next done row left m was_so = go (has_key key (t.key_in row)) refl
      where
        go : (b : Bool) → has_key key (t.key_in row) ≡ b → Meets (done ++ row ∷ []) left (cond b (with_row row.tid m) m)
        go true is = noticed done row left m (has-key-is key (t.key_in row) is) was_so
        go false is = passed done row left m is was_so

    met-all : (done left : List LiveRow) (m : Met) → Meets done left m → Meets (done ++ left) [] (rows_met t key left m)
    met-all done [] m was_so = subst (λ xs. Meets xs [] m) (sym (append-nil done)) was_so
    met-all done (row ∷ left) m was_so =
        subst (λ xs. Meets xs [] (rows_met t key left (row_met t key row m))) (append_assoc done (row ∷ []) left)
        (met-all (done ++ row ∷ []) left (row_met t key row m) (met-next done row left m was_so))

  -- Entries

  -- an entry of the group that may name a root, where the key counts
  abbrev IsOf : Group → Item → Type 0
  IsOf g e = (e.values ≡ g.key) × (t.may_root e.tid ≡ true) × (counts t.unique g.key ≡ true)

  record Came (before after : List Item) (g : Group) : Type 0 where
    parts : es ≡ before ++ after
    counted : g.counted ≡ counts t.unique g.key
    sound : (n : ℕ) → Contains g.met.later n → IsNoted n
    closed_off : (d e : Item) → Contains before d → Contains after e → d.values ≡ e.values → d.values ≡ g.key
    none : g.count ≡ 0 → (d : Item) → Contains before d → IsOf g d → ⊥
    zero : g.count ≡ 0 → g.met.some ≡ false
    last : (g.count ≡ 0 → ⊥) → (d : Item) × Contains before d × IsOf g d × (d.tid.block ≡ g.block)
    most : (d : Item) → Contains before d → IsOf g d → d.tid.block ≤ g.block
    one : g.count ≡ 1 → (d e : Item) → Contains before d → Contains before e → IsOf g d → IsOf g e → d.tid ≡ e.tid
    evidence : g.met.some ≡ true → (row : LiveRow) × Contains rows row × (t.key_in row ≡ Some g.key) × (row.tid.block < g.block)
    seen : (g.count ≡ 0 → ⊥) → (row : LiveRow) → Contains rows row → t.key_in row ≡ Some g.key → row.tid.block < g.block → g.met.some ≡ true
    noted : (earlier row : LiveRow) (two : Two t rows earlier row) (d : Item) → Contains before d → d.values ≡ two.key → d.tid ≡ row.root
        → (two.key ≡ g.key → ⊥) ⊎ (row.tid.block < g.block) → Contains g.met.later (tid_number row.tid)

  -- the rows of the block that the group has come to
  flushed : (before after : List Item) (g : Group) → Came before after g → (g.count ≡ 0 → ⊥) → (counts : counts t.unique g.key ≡ true) → Meets g.key counts g.block g.met (t.rows_in g.block) [] (block_met t g)
  flushed before after g came some counts = met-all g.key counts g.block g.met [] (t.rows_in g.block) g.met (record {
    all = refl;
    sound = came.sound;
    kept = λ n among. among;
    evidence = λ is. let e = came.evidence is in record {
      row = e.0;
      among = e.1;
      has = e.2;
      high = (let lt = e.3 in omega (arith, lt));
      before = λ other among. in_lower_block (let lt = e.3 in let at = (fit.of_block g.block other among).1 in omega (arith, lt, at));
    };
    seen = λ row among has where_is. elim where_is [
      | inl lt ↦ came.seen some row among has lt
      | inr none ↦ absurd (none-in row [] refl none)
    ];
    noted = λ earlier row two has none. absurd (none-in row [] refl none);
  })

  of-some : (before after : List Item) (g : Group) → Came before after g → (g.count ≡ 0 → ⊥) → counts t.unique g.key ≡ true
  of-some before after g came some = (came.last some).2.2

  -- an entry of a row is one of its group
  is-of : (g : Group) (row : LiveRow) (key : List Value) (e : Item) → Contains rows row → counts t.unique key ≡ true → e.values ≡ key → e.tid ≡ row.root → key ≡ g.key → IsOf g e
  is-of g row key e among counted values tid same = (values ∙ same, ap t.may_root tid ∙ fit.root row among, ap (counts t.unique) (sym same) ∙ counted)

  at-block : (row : LiveRow) (e : Item) → Contains rows row → e.tid ≡ row.root → e.tid.block ≡ row.tid.block
  at-block row e among tid = ap (λ (u : Tid). u.block) tid ∙ fit.root_block row among

  -- THE END OF A GROUP

  module _ (before after : List Item) (g : Group) (came : Came before after g) where
    more-some : nat_lt 1 g.count ≡ true → g.count ≡ 0 → ⊥
    more-some more z = absurd (let lt : 1 < g.count = grind (arith, nat_tests, more) in omega (arith, lt, z))

    closed-sound : (n : ℕ) → Contains (closed t g).met.later n → IsNoted n
    unfolding closed
    closed-sound = go (nat_lt 1 g.count) refl
      where
        go : (b : Bool) → nat_lt 1 g.count ≡ b → (n : ℕ) → Contains (cond b (block_met t g) g.met).later n → IsNoted n
        go true more n among =
            let some = more-some more in
            (flushed before after g came some (of-some before after g came some)).sound n among
        go false few n among = came.sound n among

    closed-kept : (n : ℕ) → Contains g.met.later n → Contains (closed t g).met.later n
    unfolding closed
    closed-kept = go (nat_lt 1 g.count) refl
      where
        go : (b : Bool) → nat_lt 1 g.count ≡ b → (n : ℕ) → Contains g.met.later n → Contains (cond b (block_met t g) g.met).later n
        go true more n among =
            let some = more-some more in
            (flushed before after g came some (of-some before after g came some)).kept n among
        go false few n among = among

    -- where none of its entries is still to come
    closed-noted : ((d e : Item) → Contains before d → Contains after e → d.values ≡ e.values → ⊥)
        → (earlier row : LiveRow) (two : Two t rows earlier row) (d : Item) → Contains before d → d.values ≡ two.key → d.tid ≡ row.root → Contains (closed t g).met.later (tid_number row.tid)
    unfolding closed
    closed-noted ended earlier row two d among values tid = by (same_key two.key g.key) refl
      where
        first : HasItem es two.key earlier.root
        first = fit.entry earlier two.key two.first two.of_first

        first-in-it : Contains before first.item
        first-in-it = elim (Contains-append_cases before after first.item (subst (λ xs. Contains xs first.item) came.parts first.among)) [
          | inl k ↦ k
          | inr k ↦ absurd (ended d first.item among k (values ∙ sym first.values))
        ]

        several : two.key ≡ g.key → nat_lt 1 g.count ≡ true
        several same =
            let mine = is-of g row two.key d two.second two.counted values tid same in
            let other = is-of g earlier two.key first.item two.first two.counted first.values first.tid_is same in
            elim (cases_eq g.count 0) [
              | inl z ↦ absurd (came.none z d among mine)
              | inr some ↦ elim (cases_eq g.count 1) [
                | inl one ↦
                    let root = sym first.tid_is ∙ came.one one first.item d first-in-it among other mine ∙ tid in
                    absurd (not-itself row.tid (subst (λ (u : Tid). IsBefore u row.tid) (fit.apart earlier row two.first two.second root) two.lower))
                | inr many ↦ grind (arith, nat_tests, some, many)
              ]
            ]

        at-once : two.key ≡ g.key → nat_lt 1 g.count ≡ true → Contains (cond (nat_lt 1 g.count) (block_met t g) g.met).later (tid_number row.tid)
        at-once same more =
            let some = more-some more in
            let counted = of-some before after g came some in
            let f = flushed before after g came some counted in
            let le = came.most d among (is-of g row two.key d two.second two.counted values tid same) in
            let at = at-block row d two.second tid in
            subst (λ (b : Bool). Contains (cond b (block_met t g) g.met).later (tid_number row.tid)) (sym more)
            (elim (cases_lt row.tid.block g.block) [
              | inl lt ↦ f.kept (tid_number row.tid) (came.noted earlier row two d among values tid (inr lt))
              | inr ge ↦
                  let here : row.tid.block ≡ g.block = omega (arith, le, at, ge) in
                  f.noted earlier row two (two.of_second ∙ ap Some same) (subst (λ (b : ℕ). Contains (t.rows_in b) row) here (fit.in_block row two.second))
            ])

        by : (b : Bool) → same_key two.key g.key ≡ b → Contains (closed t g).met.later (tid_number row.tid)
        by true is = let same = (keys_decide two.key g.key).0 is in at-once same (several same)
        by false is =
            closed-kept (tid_number row.tid)
            (came.noted earlier row two d among values tid (inl (λ same. both_ways (same_key two.key g.key) is ((keys_decide two.key g.key).1 same))))

  -- THE GROUP OF THE NEXT ENTRY

  module _ (before : List Item) (e : Item) (after : List Item) (g : Group) (came : Came before (e ∷ after) g) where
    module _ (differ : g.key ≡ e.values → ⊥) where
      ended : (d f : Item) → Contains before d → Contains (e ∷ after) f → d.values ≡ f.values → ⊥
      ended d f among later same = elim (either-in e f after later) [
        | inl is ↦ differ (sym (came.closed_off d f among later same) ∙ same ∙ ap (λ (x : Item). x.values) (sym is))
        | inr k ↦ differ (sym (came.closed_off d f among later same) ∙ sym (fit.grouped.between before e after came.parts d f among k same))
      ]

      none-yet : (d : Item) → Contains before d → d.values ≡ e.values → ⊥
      none-yet d among same = ended d e among (first-in e after) same

      another : Came before (e ∷ after) (begun t e.values (closed t g))
      another = record {
        parts = came.parts;
        counted = refl;
        sound = closed-sound before (e ∷ after) g came;
        closed_off = λ d f among later same. absurd (ended d f among later same);
        none = λ z d among is. none-yet d among is.0;
        zero = λ z. refl;
        last = λ some. absurd (some refl);
        most = λ d among is. absurd (none-yet d among is.0);
        one = λ is. absurd (omega (arith, is));
        evidence = λ is. absurd cc;
        seen = λ some. absurd (some refl);
        noted = λ earlier row two d among values tid what. closed-noted before (e ∷ after) g came ended earlier row two d among values tid;
      }

    its-group : Came before (e ∷ after) (opened t e.values g) × ((opened t e.values g).key ≡ e.values)
    unfolding opened
    its-group = go (same_key g.key e.values) refl
      where
        go : (b : Bool) → same_key g.key e.values ≡ b → Came before (e ∷ after) (cond b g (begun t e.values (closed t g))) × ((cond b g (begun t e.values (closed t g))).key ≡ e.values)
        go true is = (came, (keys_decide g.key e.values).0 is)
        go false is = (another (λ same. both_ways (same_key g.key e.values) is ((keys_decide g.key e.values).1 same)), refl)

    -- THE ENTRY ITSELF

    module _ (mine : g.key ≡ e.values) where
      on : es ≡ (before ++ e ∷ []) ++ after
      on = came.parts ∙ sym (append_assoc before (e ∷ []) after)

      still : (d f : Item) → Contains (before ++ e ∷ []) d → Contains after f → d.values ≡ f.values → d.values ≡ g.key
      still d f among later same = elim (Contains-push_cases before e d among) [
        | inl k ↦ came.closed_off d f k (other-in e f after later) same
        | inr is ↦ ap (λ (x : Item). x.values) (sym is) ∙ sym mine
      ]

      -- one that is of no row
      passing : (IsOf g e → ⊥) → Came (before ++ e ∷ []) after g
      passing never = record {
        parts = on;
        counted = came.counted;
        sound = came.sound;
        closed_off = still;
        none = λ z d among is. elim (Contains-push_cases before e d among) [
          | inl k ↦ came.none z d k is
          | inr same ↦ never (subst (IsOf g) (sym same) is)
        ];
        zero = came.zero;
        last = λ some. let l = came.last some in (l.0, Contains-append_left before (e ∷ []) l.0 l.1, l.2, l.3);
        most = λ d among is. elim (Contains-push_cases before e d among) [
          | inl k ↦ came.most d k is
          | inr same ↦ absurd (never (subst (IsOf g) (sym same) is))
        ];
        one = λ single d f among other is also. elim (Contains-push_cases before e d among) [
          | inl k ↦ elim (Contains-push_cases before e f other) [
            | inl l ↦ came.one single d f k l is also
            | inr same ↦ absurd (never (subst (IsOf g) (sym same) also))
          ]
          | inr same ↦ absurd (never (subst (IsOf g) (sym same) is))
        ];
        evidence = came.evidence;
        seen = came.seen;
        noted = λ earlier row two d among values tid what. elim (Contains-push_cases before e d among) [
          | inl k ↦ came.noted earlier row two d k values tid what
          | inr same ↦
              absurd (never (subst (IsOf g) (sym same)
              (is-of g row two.key d two.second two.counted values tid (sym values ∙ ap (λ (x : Item). x.values) (sym same) ∙ sym mine))))
        ];
      }

      -- one that may name a root
      module _ (of : IsOf g e) where
        counted : counts t.unique g.key ≡ true
        counted = of.2

        abbrev m : Met
        m = cond (leaves_block e.tid.block g) (block_met t g) g.met

        -- where the group has left a block
        left-some : leaves_block e.tid.block g ≡ true → g.count ≡ 0 → ⊥
        left-some is z =
            let some = (and_parts (nat_lt 0 g.count) (not (g.block == e.tid.block)) is).0 in
            absurd (let lt : 0 < g.count = grind (arith, nat_tests, some) in omega (arith, lt, z))

        left-other : leaves_block e.tid.block g ≡ true → g.block ≡ e.tid.block → ⊥
        left-other is same =
            let other = (and_parts (nat_lt 0 g.count) (not (g.block == e.tid.block)) is).1 in
            absurd (grind (arith, nat_tests, other, same))

        stayed : leaves_block e.tid.block g ≡ false → (g.count ≡ 0 → ⊥) → g.block ≡ e.tid.block
        stayed is some = elim (cases_eq g.block e.tid.block) [
          | inl same ↦ same
          | inr other ↦
              let go : leaves_block e.tid.block g ≡ true = and_from (nat_lt 0 g.count) (not (g.block == e.tid.block)) (not-zero g.count some) (grind (arith, nat_tests, other)) in
              absurd (both_ways (leaves_block e.tid.block g) is go)
        ]

        low : (d : Item) → Contains before d → d.values ≡ g.key → d.tid.block ≤ e.tid.block
        low d among is = block-le d.tid e.tid (fit.grouped.rise before e after came.parts d among (is ∙ mine))

        flush : leaves_block e.tid.block g ≡ true → Meets g.key counted g.block g.met (t.rows_in g.block) [] (block_met t g)
        flush is = flushed before (e ∷ after) g came (left-some is) counted

        below : leaves_block e.tid.block g ≡ true → g.block < e.tid.block
        below is =
            let l = came.last (left-some is) in
            let le = low l.0 l.1 l.2.0 in
            let at = l.3 in
            let other = left-other is in
            elim (cases_eq g.block e.tid.block) [
              | inl same ↦ absurd (other same)
              | inr ne ↦ omega (arith, le, at, ne)
            ]

        -- a row of the group in a lower block has its entry among those before
        entry-before : (row : LiveRow) (key : List Value) → Contains rows row → t.key_in row ≡ Some key → key ≡ g.key → row.tid.block < e.tid.block → (d : Item) × Contains before d × (d.values ≡ key) × (d.tid ≡ row.root)
        entry-before row key among has same lt =
            let item = fit.entry row key among has in
            let at = at-block row item.item among item.tid_is in
            elim (part-of before e after item.item (subst (λ xs. Contains xs item.item) came.parts item.among)) [
              | is_before k ↦ (item.item, k, item.values, item.tid_is)
              | is_it is ↦ absurd (let b = ap (λ (x : Item). x.tid.block) is in omega (arith, b, at, lt))
              | is_after k ↦
                  absurd (let le = block-le e.tid item.item.tid (fit.grouped.onward before e after came.parts item.item k (sym mine ∙ sym same ∙ sym item.values)) in
                  omega (arith, le, at, lt))
            ]

        m-kept : (n : ℕ) → Contains g.met.later n → Contains m.later n
        m-kept = go (leaves_block e.tid.block g) refl
          where
            go : (b : Bool) → leaves_block e.tid.block g ≡ b → (n : ℕ) → Contains g.met.later n → Contains (cond b (block_met t g) g.met).later n
            go true is n among = (flush is).kept n among
            go false is n among = among

        m-sound : (n : ℕ) → Contains m.later n → IsNoted n
        m-sound = go (leaves_block e.tid.block g) refl
          where
            go : (b : Bool) → leaves_block e.tid.block g ≡ b → (n : ℕ) → Contains (cond b (block_met t g) g.met).later n → IsNoted n
            go true is n among = (flush is).sound n among
            go false is n among = came.sound n among

        m-evidence : m.some ≡ true → (row : LiveRow) × Contains rows row × (t.key_in row ≡ Some g.key) × (row.tid.block < e.tid.block)
        m-evidence = go (leaves_block e.tid.block g) refl
          where
            go : (b : Bool) → leaves_block e.tid.block g ≡ b → (cond b (block_met t g) g.met).some ≡ true → (row : LiveRow) × Contains rows row × (t.key_in row ≡ Some g.key) × (row.tid.block < e.tid.block)
            go true is some =
                let ev = (flush is).evidence some in
                (ev.row, ev.among, ev.has, (let high = ev.high in let lt = below is in omega (arith, high, lt)))
            go false is some = elim (cases_eq g.count 0) [
              | inl z ↦ absurd (both_ways g.met.some (came.zero z) some)
              | inr n ↦
                  let ev = came.evidence some in
                  (ev.0, ev.1, ev.2, (let lt = ev.3 in let same = stayed is n in omega (arith, lt, same)))
            ]

        m-seen : (row : LiveRow) → Contains rows row → t.key_in row ≡ Some g.key → row.tid.block < e.tid.block → m.some ≡ true
        m-seen row among has lt = go (leaves_block e.tid.block g) refl
          where
            d : (d : Item) × Contains before d × (d.values ≡ g.key) × (d.tid ≡ row.root)
            d = entry-before row g.key among has refl lt

            is-one : IsOf g d.0
            is-one = is-of g row g.key d.0 among counted d.2 d.3 refl

            some-came : g.count ≡ 0 → ⊥
            some-came z = came.none z d.0 d.1 is-one

            go : (b : Bool) → leaves_block e.tid.block g ≡ b → (cond b (block_met t g) g.met).some ≡ true
            go true is =
                let le = came.most d.0 d.1 is-one in
                let at = at-block row d.0 among d.3 in
                elim (cases_lt row.tid.block g.block) [
                  | inl low ↦ (flush is).seen row among has (inl low)
                  | inr high ↦
                      let here : row.tid.block ≡ g.block = omega (arith, le, at, high) in
                      (flush is).seen row among has (inr (subst (λ (b : ℕ). Contains (t.rows_in b) row) here (fit.in_block row among)))
                ]
            go false is = came.seen some-came row among has (let same = stayed is some-came in omega (arith, lt, same))

        m-noted : (earlier row : LiveRow) (two : Two t rows earlier row) (d : Item) → Contains before d → d.values ≡ two.key → d.tid ≡ row.root → two.key ≡ g.key → row.tid.block < e.tid.block → Contains m.later (tid_number row.tid)
        m-noted earlier row two d among values tid same lt = go (leaves_block e.tid.block g) refl
          where
            is-one : IsOf g d
            is-one = is-of g row two.key d two.second two.counted values tid same

            some-came : g.count ≡ 0 → ⊥
            some-came z = came.none z d among is-one

            go : (b : Bool) → leaves_block e.tid.block g ≡ b → Contains (cond b (block_met t g) g.met).later (tid_number row.tid)
            go true is =
                let le = came.most d among is-one in
                let at = at-block row d two.second tid in
                elim (cases_lt row.tid.block g.block) [
                  | inl low ↦ (flush is).kept (tid_number row.tid) (came.noted earlier row two d among values tid (inr low))
                  | inr high ↦
                      let here : row.tid.block ≡ g.block = omega (arith, le, at, high) in
                      (flush is).noted earlier row two (two.of_second ∙ ap Some same) (subst (λ (b : ℕ). Contains (t.rows_in b) row) here (fit.in_block row two.second))
                ]
            go false is = came.noted earlier row two d among values tid (inr (let same = stayed is some-came in omega (arith, lt, same)))

        naming : Came (before ++ e ∷ []) after (named t e.tid g)
        unfolding named
        naming = record {
          parts = on;
          counted = came.counted;
          sound = m-sound;
          closed_off = still;
          none = λ z. absurd (next-some g.count z);
          zero = λ z. absurd (next-some g.count z);
          last = λ some. (e, Contains-push before e, of, refl);
          most = λ d among is. elim (Contains-push_cases before e d among) [
            | inl k ↦ low d k is.0
            | inr same ↦ let b = ap (λ (x : Item). x.tid.block) same in omega (arith, b)
          ];
          one = λ single d f among other is also. (sym (only (next-one g.count single) d among is)) ∙ only (next-one g.count single) f other also;
          evidence = m-evidence;
          seen = λ some row among has lt. m-seen row among has lt;
          noted = λ earlier row two d among values tid what. elim (Contains-push_cases before e d among) [
            | inl k ↦ elim what [
              | inl differ ↦ m-kept (tid_number row.tid) (came.noted earlier row two d k values tid (inl differ))
              | inr lt ↦ by-key earlier row two d k values tid lt (same_key two.key g.key) refl
            ]
            | inr same ↦ elim what [
              | inl differ ↦ absurd (differ (sym values ∙ ap (λ (x : Item). x.values) (sym same) ∙ sym mine))
              | inr lt ↦ absurd (let b = ap (λ (x : Item). x.tid.block) same in let at = at-block row d two.second tid in omega (arith, b, at, lt))
            ]
          ];
        }
          where
            only : g.count ≡ 0 → (d : Item) → Contains (before ++ e ∷ []) d → IsOf g d → e.tid ≡ d.tid
            only z d among is = elim (Contains-push_cases before e d among) [
              | inl k ↦ absurd (came.none z d k is)
              | inr same ↦ ap (λ (x : Item). x.tid) same
            ]

            by-key : (earlier row : LiveRow) (two : Two t rows earlier row) (d : Item) → Contains before d → d.values ≡ two.key → d.tid ≡ row.root → row.tid.block < e.tid.block
                → (b : Bool) → same_key two.key g.key ≡ b → Contains m.later (tid_number row.tid)
            by-key earlier row two d k values tid lt true is = m-noted earlier row two d k values tid ((keys_decide two.key g.key).0 is) lt
            by-key earlier row two d k values tid lt false is =
                m-kept (tid_number row.tid) (came.noted earlier row two d k values tid (inl (λ same. both_ways (same_key two.key g.key) is ((keys_decide two.key g.key).1 same))))

      taking : Came (before ++ e ∷ []) after (tid_met t e.tid g)
      unfolding tid_met
      taking = go (g.counted && t.may_root e.tid) refl
        where
          go : (b : Bool) → (g.counted && t.may_root e.tid) ≡ b → Came (before ++ e ∷ []) after (cond b (named t e.tid g) g)
          go true is = let parts = and_parts g.counted (t.may_root e.tid) is in naming (sym mine, parts.1, sym came.counted ∙ parts.0)
          go false is = passing (λ of. both_ways (g.counted && t.may_root e.tid) is (and_from g.counted (t.may_root e.tid) (came.counted ∙ of.2) of.1))

  next-came : (before : List Item) (e : Item) (after : List Item) (g : Group) → Came before (e ∷ after) g → Came (before ++ e ∷ []) after (entry_met t e g)
  unfolding entry_met
  next-came before e after g came =
      let own = its-group before e after g came in
      taking before e after (opened t e.values g) own.0 own.1

  all-came : (before after : List Item) (g : Group) → Came before after g → Came (before ++ after) [] (entries_met t after g)
  all-came before [] g came = subst (λ xs. Came xs [] g) (sym (append-nil before)) came
  all-came before (e ∷ after) g came =
      subst (λ xs. Came xs [] (entries_met t after (entry_met t e g))) (append_assoc before (e ∷ []) after)
      (all-came (before ++ e ∷ []) after (entry_met t e g) (next-came before e after g came))

  first-came : Came [] es (first_group t.unique)
  first-came = record {
    parts = refl;
    counted = refl;
    sound = λ n among. absurd (none-in n [] refl among);
    closed_off = λ d e among. absurd (none-in d [] refl among);
    none = λ z d among. absurd (none-in d [] refl among);
    zero = λ z. refl;
    last = λ some. absurd (some refl);
    most = λ d among. absurd (none-in d [] refl among);
    one = λ is. absurd (omega (arith, is));
    evidence = λ is. absurd cc;
    seen = λ some. absurd (some refl);
    noted = λ earlier row two d among. absurd (none-in d [] refl among);
  }

  last-came : Came es [] (entries_met t es (first_group t.unique))
  last-came = all-came [] es (first_group t.unique) first-came

  -- each row that is noted has an earlier one of its key
  pub later-sound : (n : ℕ) → Contains (later_rows t es) n → (earlier row : LiveRow) × Two t rows earlier row × (n ≡ tid_number row.tid)
  unfolding later_rows
  later-sound n among =
      let noted = closed-sound es [] (entries_met t es (first_group t.unique)) last-came n among in
      (noted.earlier, noted.row, noted.two, noted.number)

  -- and each that has one is noted
  pub later-noted : (earlier row : LiveRow) → Two t rows earlier row → Contains (later_rows t es) (tid_number row.tid)
  unfolding later_rows
  later-noted earlier row two =
      let item = fit.entry row two.key two.second two.of_second in
      closed-noted es [] (entries_met t es (first_group t.unique)) last-came (λ d e among later same. none-in e [] refl later) earlier row two item.item item.among item.values item.tid_is
