-- What is found by name in a list of entries, after one of them was put there.
use Rattle.std.proofs.Common.{◌≡◌, ℕ, ◌<◌, Bool, true, false, cond, ltb, not, ◌&&◌, ◌⊎◌, slice_get, List, [], ◌∷◌, ◌++◌, inl, inr, length, get_or, set, refl, sym, ◌∙◌, ap, subst, arith}
use Rattle.std.specs.Prelude.{Option, Some, None, filter, find, position, string_bytes, take}
use Rattle.std.specs.List.{position_or_len}
use Rattle.std.specs.Option.{option_map, option_or}
use Rattle.std.specs.Str.{bytes_eq}
use Rattle.std.proofs.Math.Path.{fun_ext}
use Rattle.std.proofs.lemmas.Bool.{cases_Bool, cond-true, cond-false, eqb-true, ltb-true, ltb-false, not-false}
use Rattle.std.proofs.lemmas.List.Folds.{find-append, find_at, find-set, find_past}
use Rattle.std.proofs.lemmas.List.Sums.{prefix_len_stops}
use Rattle.std.proofs.lemmas.Option.{slice_get-get_or, slice_get_past}
use Rattle.std.proofs.lemmas.Slice.Eq.{bytes_eq-Decides}
use Rattle.outside.specs.declared.files.Part.{Part}
use Rattle.outside.specs.declared.files.Part.TheVariants.{Segment, Slru}
use Rattle.memory_files.specs.declared.held.Entry.{Entry}
use Rattle.outside.specs.Outside.{Names}
use Rattle.memory_files.specs.Held.{part_eq, name_eq, with_file, with_front, without_file, is_named, look_up}

-- both sides of an 'and' hold
both : (a b : Bool) → (a && b) ≡ true → (a ≡ true) × (b ≡ true)
both true b h = (refl, h)
both false b h = absurd (cc)

part_eq-true : (p q : Part) → part_eq p q ≡ true → p ≡ q
part_eq-true (Segment m) (Segment n) h = ap Segment (eqb-true m n h)
part_eq-true (Slru m) (Slru n) h = ap Slru (eqb-true m n h)
part_eq-true (Segment m) (Slru n) h = absurd (cc)
part_eq-true (Slru m) (Segment n) h = absurd (cc)

-- names that are one by the test are equal
name_eq-true : (b : List ℕ) (p : Part) (b' : List ℕ) (p' : Part) → name_eq b p b' p' ≡ true → (b ≡ b') × (p ≡ p')
name_eq-true b p b' p' h =
    let parts = both (bytes_eq b b') (part_eq p p') h in
    ((bytes_eq-Decides b b').0 parts.0, part_eq-true p p' parts.1)

-- a list at whose end an element was put that passes, and none before it does
find-push : {X : Type 0} (test : X → Bool) (xs : List X) (y : X) → find test xs ≡ None → test y ≡ true → find test (xs ++ y ∷ []) ≡ Some y
find-push test xs y none passes =
    find-append test xs (y ∷ []) ∙ ap (λ found. option_or found (find test (y ∷ []))) none
    ∙ cond-true (test y) (Some y) None passes

-- a list at whose end an element was put that doesn't pass
find-push_other : {X : Type 0} (test : X → Bool) (xs : List X) (y : X) → test y ≡ false → find test (xs ++ y ∷ []) ≡ find test xs
find-push_other test [] y fails = cond-false (test y) (Some y) None fails
find-push_other test (x ∷ xs) y fails = ap (λ found. cond (test x) (Some x) found) (find-push_other test xs y fails)

-- a first place is within the list
position-some : {X : Type 0} (test : X → Bool) (xs : List X) (at : ℕ) → position test xs ≡ Some at → (at ≡ position_or_len test xs) × (at < length xs)
position-some test xs at h =
    elim (cases_Bool (ltb (position_or_len test xs) (length xs))) [
      | inl e ↦
          (let is : Some at ≡ Some (position_or_len test xs) = sym h ∙ cond-true _ (Some (position_or_len test xs)) None e in
          let place : at ≡ position_or_len test xs = cc in
          let within : position_or_len test xs < length xs = ltb-true _ _ e in
          (place, omega arith))
      | inr e ↦ absurd (let is : Some at ≡ None = sym h ∙ cond-false _ (Some (position_or_len test xs)) None e in cc)
    ]

-- what stands at the first place passes
passes_at : {X : Type 0} (test : X → Bool) (xs : List X) (at : ℕ) (d : X) → position test xs ≡ Some at → test (get_or xs at d) ≡ true
passes_at test xs at d h =
    let place = position-some test xs at h in
    let within : position_or_len test xs < length xs = omega (arith, place.0, place.1) in
    let stops : not (test (get_or xs (position_or_len test xs) d)) ≡ false = prefix_len_stops (λ x. not (test x)) xs d within in
    ap (λ i. test (get_or xs i d)) place.0 ∙ not-false _ stops

-- where there is no first place, nothing is found
find-none : {X : Type 0} (test : X → Bool) (xs : List X) → position test xs ≡ None → find test xs ≡ None
find-none test xs h =
    elim (cases_Bool (ltb (position_or_len test xs) (length xs))) [
      | inl e ↦ absurd (let is : None ≡ Some (position_or_len test xs) = sym h ∙ cond-true _ (Some (position_or_len test xs)) None e in cc)
      | inr e ↦ find_at test xs ∙ slice_get_past xs (position_or_len test xs) (ltb-false _ _ e)
    ]

-- what a test finds is gone where the elements that pass it were removed
find-removed : {X : Type 0} (test : X → Bool) (xs : List X) → find test (filter (λ x. not (test x)) xs) ≡ None
find-removed test [] = refl
find-removed test (x ∷ xs) = elim (cases_Bool (test x)) [
  | inl e ↦ ap (find test) (cond-false (not (test x)) (x ∷ filter (λ y. not (test y)) xs) (filter (λ y. not (test y)) xs) (ap not e)) ∙ find-removed test xs
  | inr e ↦
      ap (find test) (cond-true (not (test x)) (x ∷ filter (λ y. not (test y)) xs) (filter (λ y. not (test y)) xs) (ap not e))
      ∙ cond-false (test x) (Some x) (find test (filter (λ y. not (test y)) xs)) e ∙ find-removed test xs
]

-- what another test finds stays, where no element passes both
find-kept : {X : Type 0} (test other : X → Bool) → ((x : X) → other x ≡ true → test x ≡ false)
    → (xs : List X) → find other (filter (λ x. not (test x)) xs) ≡ find other xs
find-kept test other apart [] = refl
find-kept {X = X} test other apart (x ∷ xs) = at_first (cases_Bool (other x)) (cases_Bool (test x)) (find-kept test other apart xs)
  where
    kept : List X
    kept = filter (λ y. not (test y)) xs

    at_first : (other x ≡ true) ⊎ (other x ≡ false) → (test x ≡ true) ⊎ (test x ≡ false) → find other kept ≡ find other xs
        → find other (filter (λ y. not (test y)) (x ∷ xs)) ≡ find other (x ∷ xs)
    at_first (inl e) t rest =
        ap (find other) (cond-true (not (test x)) (x ∷ kept) kept (ap not (apart x e)))
        ∙ cond-true (other x) (Some x) (find other kept) e ∙ sym (cond-true (other x) (Some x) (find other xs) e)
    at_first (inr e) (inl t) rest =
        ap (find other) (cond-false (not (test x)) (x ∷ kept) kept (ap not t)) ∙ rest
        ∙ sym (cond-false (other x) (Some x) (find other xs) e)
    at_first (inr e) (inr t) rest =
        ap (find other) (cond-true (not (test x)) (x ∷ kept) kept (ap not t))
        ∙ cond-false (other x) (Some x) (find other kept) e ∙ rest
        ∙ sym (cond-false (other x) (Some x) (find other xs) e)

-- a test that holds of one name holds of a name that equals it
is_name : (P : List ℕ → Part → Type 0) (b : List ℕ) (p : Part) (b' : List ℕ) (p' : Part) → name_eq b p b' p' ≡ true → P b p → P b' p'
is_name P b p b' p' e h =
    let same = name_eq-true b p b' p' e in
    let Q : Part → Type 0 = λ q. P b q in
    let R : List ℕ → Type 0 = λ c. P c p' in
    subst R same.0 (subst Q same.1 h)

-- an entry was put at the end, under a name that was not there
pub look_up-push : (es : List Entry) (e : Entry) → position (is_named (string_bytes e.base) e.part) es ≡ None
    → look_up (es ++ e ∷ []) ≡ with_file (look_up es) (string_bytes e.base) e.part e.bytes.items
look_up-push es e h = fun_ext (λ b. fun_ext (λ p. at_name b p (cases_Bool (name_eq (string_bytes e.base) e.part b p))))
  where
    bytes_of : Option Entry → Option (List ℕ)
    bytes_of = option_map (λ (f : Entry). f.bytes.items)

    at_name : (b : List ℕ) (p : Part) → (name_eq (string_bytes e.base) e.part b p ≡ true) ⊎ (name_eq (string_bytes e.base) e.part b p ≡ false)
        → look_up (es ++ e ∷ []) b p ≡ with_file (look_up es) (string_bytes e.base) e.part e.bytes.items b p
    at_name b p (inl same) =
        let none : find (is_named b p) es ≡ None = is_name (λ c q. find (is_named c q) es ≡ None) (string_bytes e.base) e.part b p same (find-none _ es h) in
        ap bytes_of (find-push (is_named b p) es e none same) ∙ sym (cond-true _ (Some e.bytes.items) (look_up es b p) same)
    at_name b p (inr other) =
        ap bytes_of (find-push_other (is_named b p) es e other) ∙ sym (cond-false _ (Some e.bytes.items) (look_up es b p) other)

-- the first entry of a name was given other bytes
pub look_up-set : (base : List ℕ) (part : Part) (es : List Entry) (e old : Entry) (at : ℕ)
    → position (is_named base part) es ≡ Some at → get_or es at old ≡ old
    → string_bytes e.base ≡ string_bytes old.base → e.part ≡ old.part
    → look_up (set es at e) ≡ with_file (look_up es) base part e.bytes.items
look_up-set base part es e old at h was base_is part_is = fun_ext (λ b. fun_ext (λ p. at_name b p (cases_Bool (name_eq base part b p))))
  where
    bytes_of : Option Entry → Option (List ℕ)
    bytes_of = option_map (λ (f : Entry). f.bytes.items)

    place : (at ≡ position_or_len (is_named base part) es) × (at < length es)
    place = position-some (is_named base part) es at h

    old_is : (string_bytes old.base ≡ base) × (old.part ≡ part)
    old_is = name_eq-true (string_bytes old.base) old.part base part (ap (is_named base part) (sym was) ∙ passes_at (is_named base part) es at old h)

    named_as : (f : Entry) → string_bytes f.base ≡ base → f.part ≡ part → (b : List ℕ) (p : Part) → is_named b p f ≡ name_eq base part b p
    named_as f b_is p_is b p = ap (λ c. name_eq c f.part b p) b_is ∙ ap (λ q. name_eq base q b p) p_is

    e_as : (b : List ℕ) (p : Part) → is_named b p e ≡ name_eq base part b p
    e_as = named_as e (base_is ∙ old_is.0) (part_is ∙ old_is.1)

    old_as : (b : List ℕ) (p : Part) → is_named b p (get_or es at old) ≡ name_eq base part b p
    old_as b p = ap (is_named b p) was ∙ named_as old old_is.0 old_is.1 b p

    at_name : (b : List ℕ) (p : Part) → (name_eq base part b p ≡ true) ⊎ (name_eq base part b p ≡ false)
        → look_up (set es at e) b p ≡ with_file (look_up es) base part e.bytes.items b p
    at_name b p (inl same) =
        let first : at ≡ position_or_len (is_named b p) es = is_name (λ c q. at ≡ position_or_len (is_named c q) es) base part b p same place.0 in
        ap bytes_of (find-set (is_named b p) es at e first place.1 (e_as b p ∙ same)) ∙ sym (cond-true _ (Some e.bytes.items) (look_up es b p) same)
    at_name b p (inr other) =
        ap bytes_of (find_past (is_named b p) es at e old (old_as b p ∙ other) (e_as b p ∙ other)) ∙ sym (cond-false _ (Some e.bytes.items) (look_up es b p) other)

-- the first entry of a name was found
pub look_up-at : (es : List Entry) (base : List ℕ) (part : Part) (at : ℕ) (old : Entry)
    → position (is_named base part) es ≡ Some at → get_or es at old ≡ old → look_up es base part ≡ Some old.bytes.items
look_up-at es base part at old h was =
    let bytes_of : Option Entry → Option (List ℕ) = option_map (λ (f : Entry). f.bytes.items) in
    let place = position-some (is_named base part) es at h in
    ap bytes_of
    (find_at (is_named base part) es ∙ ap (slice_get es) (sym place.0) ∙ slice_get-get_or es at old place.1 ∙ ap Some was)

-- no entry has the name
pub look_up-none : (es : List Entry) (base : List ℕ) (part : Part) → position (is_named base part) es ≡ None → look_up es base part ≡ None
look_up-none es base part h =
    let bytes_of : Option Entry → Option (List ℕ) = option_map (λ (f : Entry). f.bytes.items) in ap bytes_of (find-none (is_named base part) es h)

-- a file that is held was given the first of its bytes
pub front_of-file : (names : Names) (base : List ℕ) (part : Part) (bytes : List ℕ) (n : ℕ)
    → names base part ≡ Some bytes → with_file names base part (take n bytes) ≡ with_front names base part n
front_of-file names base part bytes n held = fun_ext (λ b. fun_ext (λ p. at_name b p (cases_Bool (name_eq base part b p))))
  where
    at_name : (b : List ℕ) (p : Part) → (name_eq base part b p ≡ true) ⊎ (name_eq base part b p ≡ false)
        → with_file names base part (take n bytes) b p ≡ with_front names base part n b p
    at_name b p (inl same) =
        let here : names b p ≡ Some bytes = is_name (λ c q. names c q ≡ Some bytes) base part b p same held in
        cond-true _ (Some (take n bytes)) (names b p) same
        ∙ sym (cond-true _ (option_map (take n) (names b p)) (names b p) same ∙ ap (option_map (take n)) here)
    at_name b p (inr other) =
        cond-false _ (Some (take n bytes)) (names b p) other ∙ sym (cond-false _ (option_map (take n) (names b p)) (names b p) other)

-- the entries of a name were removed
pub look_up-filter : (es : List Entry) (base : List ℕ) (part : Part)
    → look_up (filter (λ e. not (is_named base part e)) es) ≡ without_file (look_up es) base part
look_up-filter es base part = fun_ext (λ b. fun_ext (λ p. at_name b p (cases_Bool (name_eq base part b p))))
  where
    bytes_of : Option Entry → Option (List ℕ)
    bytes_of = option_map (λ (f : Entry). f.bytes.items)

    -- an entry of another name stays
    apart : (b : List ℕ) (p : Part) → name_eq base part b p ≡ false → (e : Entry) → is_named b p e ≡ true → is_named base part e ≡ false
    apart b p other e has =
        elim (cases_Bool (is_named base part e)) [
          | inl e' ↦ (let both_names : name_eq base part b p ≡ true = is_name (λ c q. name_eq c q b p ≡ true) (string_bytes e.base) e.part base part e' has in let no : true ≡ false = sym both_names ∙ other in absurd (cc))
          | inr e' ↦ e'
        ]

    at_name : (b : List ℕ) (p : Part) → (name_eq base part b p ≡ true) ⊎ (name_eq base part b p ≡ false)
        → look_up (filter (λ e. not (is_named base part e)) es) b p ≡ without_file (look_up es) base part b p
    at_name b p (inl same) =
        ap bytes_of (is_name (λ c q. find (is_named c q) (filter (λ e. not (is_named base part e)) es) ≡ None) base part b p same (find-removed (is_named base part) es))
        ∙ sym (cond-true _ None (look_up es b p) same)
    at_name b p (inr other) =
        ap bytes_of (find-kept (is_named base part) (is_named b p) (apart b p other) es) ∙ sym (cond-false _ None (look_up es b p) other)
