-- Equal keys: what the tests say of them, and what is listed.
use Rattle.std.proofs.Common.{◌≡◌, ◌∙◌, ◌<◌, ℕ, inl, inr, Bool, true, false, List, [], ◌∷◌, refl, ap, sym, subst, arith}
use Rattle.std.specs.Prelude.{All, Contains, Option, Some, None, ◌==◌, ◌&&◌, ◌||◌, ◌⊎◌, nat_lt}
use Rattle.std.specs.List.{list_any}
use Rattle.std.proofs.lemmas.Bool.{and_from, and_parts, or_left, or_right}
use Rattle.std.proofs.lemmas.Bool.Decides.{nat_tests}
use Rattle.std.proofs.lemmas.List.Elements.{All-head, All-nil}
use Rattle.std.proofs.lemmas.List.Folds.{list_any_at}
use Rattle.outside.specs.Outside.{Names}
use Rattle.page_layout.specs.declared.rules.Rule.{Rule}
use Rattle.page_layout.specs.declared.rules.Rule.TheVariants.{X3}
use Rattle.key_orders.specs.declared.columns.Value.{Value}
use Rattle.key_orders.specs.declared.Tid.{Tid}
use Rattle.key_storage.specs.Same.{same_key}
use Rattle.key_storage.proofs.SameLaws.{keys_decide}
use Rattle.case_file.specs.Record.{CaseRecord}
use Rattle.reports.specs.Added.{report_lists}
use Rattle.reports.specs.Lists.{Lists}
use Rattle.reports.specs.declared.places.Finding.{Finding}
use Rattle.reports.specs.declared.places.UnjudgedPlace.{UnjudgedPlace}
use Rattle.reports.specs.declared.places.Place.TheVariants.{Tuple}
use Rattle.bt_pages.specs.Broken.{AreEmpty}
use Rattle.bt_pages.proofs.BlockLaws.{All-finding_at, among_finding, no_doubts}
use Rattle.bt_steps.proofs.Members.{first-in, other-in}
use Rattle.heap_rows.specs.RowLaws.{IsBefore, in_lower_block, in_same_block}
use Rattle.heap_rows.specs.Rows.{rows_of}
use Rattle.heap_rows.specs.declared.rows.LiveRow.{LiveRow}
use Rattle.join_rules.specs.Lists.{duplicate_lists, duplicate_rule, duplicates_lists, or_else}
use Rattle.join_rules.specs.Rows.{key_of}
use Rattle.case_file.specs.declared.case.Unique.{Unique}
use Rattle.join_rules.specs.Unique.{AreDuplicates, counts, is_after, is_before, is_duplicate, is_one_key, unique_of}
use Rattle.join_rules.proofs.Each.{All-each, among-each}

-- Lists

pub none-some : {X : Type 0} (x : X) → ◌≡◌ {A = Option X} None (Some x) → ⊥
none-some x e = absurd cc

pub some-same : {X : Type 0} (x y : X) → Some x ≡ Some y → x ≡ y
some-same x y e = cc

pub nothing-in : {X : Type 0} (xs : List X) → All (λ x. ⊥) xs → xs ≡ []
nothing-in [] all = refl
nothing-in {X} (x ∷ xs) all = absurd (All-head (λ (y : X). ⊥) x xs all)

-- a member that passes
pub passing : {X : Type 0} (p : X → Bool) (xs : List X) → list_any p xs ≡ true → (x : X) × Contains xs x × (p x ≡ true)
passing p [] h = absurd cc
passing {X} p (x ∷ xs) h = go (p x) refl (λ t. passing p xs t) h
  where
    go : (b : Bool) → p x ≡ b → (list_any p xs ≡ true → (y : X) × Contains xs y × (p y ≡ true)) → (b || list_any p xs) ≡ true → (y : X) × Contains (x ∷ xs) y × (p y ≡ true)
    go true is again t = (x, first-in x xs, is)
    go false is again t = let rest = again t in (rest.0, other-in x rest.0 xs rest.1, rest.2)

pub passes : {X : Type 0} (p : X → Bool) (xs : List X) (x : X) → Contains xs x → p x ≡ true → list_any p xs ≡ true
passes p xs x among is = list_any_at p xs among.0 x among.1 (ap p among.2 ∙ is)

-- what is listed in a first part, or else in a second

pub or-found : (fs : List Finding) (us : List UnjudgedPlace) (others : Lists) (f : Finding) → Contains fs f → Contains (or_else fs us others).findings f
or-found [] us others f h = absurd (let lt = h.1 in omega (arith, lt))
or-found (g ∷ fs) us others f h = h

pub or-doubted : (fs : List Finding) (us : List UnjudgedPlace) (others : Lists) (u : UnjudgedPlace) → Contains us u → Contains (or_else fs us others).unjudged u
or-doubted fs [] others u h = absurd (let lt = h.1 in omega (arith, lt))
or-doubted [] (v ∷ us) others u h = h
or-doubted (f ∷ fs) (v ∷ us) others u h = h

pub or-sound : (P : Finding → Type 0) (fs : List Finding) (us : List UnjudgedPlace) (others : Lists) → All P fs → (fs ≡ [] → us ≡ [] → All P others.findings) → All P (or_else fs us others).findings
or-sound P [] [] others first second = second refl refl
or-sound P [] (u ∷ us) others first second = All-nil P
or-sound P (f ∷ fs) us others first second = first

pub or-certain : (Q : UnjudgedPlace → Type 0) (fs : List Finding) (us : List UnjudgedPlace) (others : Lists) → All Q us → All Q others.unjudged → All Q (or_else fs us others).unjudged
or-certain Q [] [] others first second = second
or-certain Q [] (u ∷ us) others first second = first
or-certain Q (f ∷ fs) us others first second = first

pub or-empty : (fs : List Finding) (us : List UnjudgedPlace) (others : Lists) → AreEmpty (or_else fs us others) → AreEmpty (record { findings = fs; unjudged = us }) × AreEmpty others
or-empty [] [] others empty = (record { findings = refl; unjudged = refl }, empty)
or-empty [] (u ∷ us) others empty = absurd (no-cons u us empty.unjudged)
  where
    no-cons : (u : UnjudgedPlace) (us : List UnjudgedPlace) → u ∷ us ≡ [] → ⊥
    no-cons u us e = absurd cc
or-empty (f ∷ fs) us others empty = absurd (no-cons f fs empty.findings)
  where
    no-cons : (f : Finding) (fs : List Finding) → f ∷ fs ≡ [] → ⊥
    no-cons f fs e = absurd cc

-- The tests

lower-item : (t u : Tid) → (nat_lt t.block u.block || ((t.block == u.block) && nat_lt t.item u.item)) ≡ true → IsBefore t u
lower-item t u = go (nat_lt t.block u.block) refl
  where
    go : (b : Bool) → nat_lt t.block u.block ≡ b → (b || ((t.block == u.block) && nat_lt t.item u.item)) ≡ true → IsBefore t u
    go true is h = in_lower_block (grind (arith, nat_tests, is))
    go false is h =
        let parts = and_parts (t.block == u.block) (nat_lt t.item u.item) h in
        in_same_block (grind (arith, nat_tests, parts.0)) (grind (arith, nat_tests, parts.1))

pub before-is : (t u : Tid) → is_before t u ≡ true → IsBefore t u
before-is t u h = lower-item t u h

lt-true : (a b : ℕ) → a < b → nat_lt a b ≡ true
lt-true a b lt = grind (arith, nat_tests, lt)

eq-true : (a b : ℕ) → a ≡ b → (a == b) ≡ true
eq-true a b e = grind (arith, nat_tests, e)

pub is-before : (t u : Tid) → IsBefore t u → is_before t u ≡ true
is-before t u (in_lower_block lt) = or_left (nat_lt t.block u.block) _ (lt-true t.block u.block lt)
is-before t u (in_same_block e lt) =
    or_right (nat_lt t.block u.block) _ (and_from (t.block == u.block) (nat_lt t.item u.item) (eq-true t.block u.block e) (lt-true t.item u.item lt))

record IsOneKey (unique : Unique) (a b : Option (List Value)) : Type 0 where
  key : List Value
  first : a ≡ Some key
  second : b ≡ Some key
  counted : counts unique key ≡ true

one-key : (unique : Unique) (a b : Option (List Value)) → is_one_key unique a b ≡ true → IsOneKey unique a b
one-key unique (Some x) (Some y) h =
    let parts = and_parts (same_key x y) (counts unique y) h in
    record { key = y; first = ap Some ((keys_decide x y).0 parts.0); second = refl; counted = parts.1 }
one-key unique (Some x) None h = absurd cc
one-key unique None b h = absurd cc

is-one-key : (unique : Unique) (key : List Value) → counts unique key ≡ true → is_one_key unique (Some key) (Some key) ≡ true
is-one-key unique key counted = and_from (same_key key key) (counts unique key) ((keys_decide key key).1 refl) counted

module _ (case : CaseRecord) (names : Names) (n : ℕ) where
  -- a row that passes the test, and the earlier one of its key
  pub with-earlier : (row : LiveRow) → Contains (rows_of case names) row → is_duplicate case names n row ≡ true → (earlier : LiveRow) × AreDuplicates case names n earlier row
  unfolding is_duplicate
  with-earlier row among h =
      let found = passing (is_after case n row) (rows_of case names) h in
      let earlier = found.0 in
      let parts = and_parts (is_before earlier.tid row.tid) (is_one_key (unique_of case n) (key_of case n earlier) (key_of case n row)) found.2 in
      let one = one-key (unique_of case n) (key_of case n earlier) (key_of case n row) parts.1 in (
        earlier,
        record {
          first = found.1;
          second = among;
          lower = before-is earlier.tid row.tid parts.0;
          key = one.key;
          of_first = one.first;
          of_second = one.second;
          counted = one.counted;
        },
      )

  pub is-second : (earlier row : LiveRow) → AreDuplicates case names n earlier row → is_duplicate case names n row ≡ true
  unfolding is_duplicate
  is-second earlier row two =
      let one : is_one_key (unique_of case n) (key_of case n earlier) (key_of case n row) ≡ true =
      (λ i. is_one_key (unique_of case n) (two.of_first i) (two.of_second i)) ∙ is-one-key (unique_of case n) two.key two.counted in
      passes (is_after case n row) (rows_of case names) earlier two.first
      (and_from (is_before earlier.tid row.tid) (is_one_key (unique_of case n) (key_of case n earlier) (key_of case n row)) (is-before earlier.tid row.tid two.lower) one)

  -- What is listed

  abbrev findings-of : Lists → List Finding
  findings-of l = l.findings

  abbrev unjudged-of : Lists → List UnjudgedPlace
  unjudged-of l = l.unjudged

  duplicate-is : (b : Bool) (rule : Rule) → duplicate_rule b ≡ Some rule → (b ≡ true) × (rule ≡ X3)
  duplicate-is false rule e = absurd cc
  duplicate-is true rule e = let is : X3 ≡ rule = cc in (refl, sym is)

  pub duplicate-listed : (earlier row : LiveRow) → AreDuplicates case names n earlier row → Contains (duplicates_lists case names n).findings (record { rule = X3; place = Tuple n row.tid })
  unfolding duplicates_lists duplicate_lists
  duplicate-listed earlier row two =
      among-each report_lists findings-of refl (λ a b. refl) (duplicate_lists case names n) (rows_of case names) row (record { rule = X3; place = Tuple n row.tid }) two.second
      (among_finding (Tuple n row.tid) (duplicate_rule (is_duplicate case names n row)) X3 (ap duplicate_rule (is-second earlier row two)))

  pub duplicates-sound : (P : Finding → Type 0) → ((earlier row : LiveRow) → AreDuplicates case names n earlier row → P (record { rule = X3; place = Tuple n row.tid })) → All P (duplicates_lists case names n).findings
  unfolding duplicates_lists duplicate_lists
  duplicates-sound P each =
      All-each report_lists findings-of refl (λ a b. refl) (duplicate_lists case names n) P (rows_of case names)
      (λ row among. All-finding_at P (Tuple n row.tid) (duplicate_rule (is_duplicate case names n row)) (λ rule e.
      let what = duplicate-is (is_duplicate case names n row) rule e in
      let with = with-earlier row among what.0 in
      subst (λ (r : Rule). P (record { rule = r; place = Tuple n row.tid })) (sym what.1) (each with.0 row with.1)))

  pub duplicates-certain : (Q : UnjudgedPlace → Type 0) → All Q (duplicates_lists case names n).unjudged
  unfolding duplicates_lists duplicate_lists
  duplicates-certain Q =
      All-each report_lists unjudged-of refl (λ a b. refl) (duplicate_lists case names n) Q (rows_of case names)
      (λ row among. subst (All Q) (sym (no_doubts (Tuple n row.tid) (duplicate_rule (is_duplicate case names n row)))) (All-nil Q))
