-- What a map says.
use Rattle.std.proofs.Common.{◌≡◌, ◌∙◌, ℕ, ◌<◌, Bool, true, false, List, [], ◌∷◌, ◌++◌, length, take, refl, ap, sym, subst, inl, inr}
use Rattle.std.specs.Prelude.{◌==◌, not, nat_lt, if◌then◌else◌, Option, Some, None, Result, Ok, Err}
use Rattle.std.proofs.lemmas.Bool.{cases_eq, eq-eqb, eqb-false, eqb-true, le-ltb, lt-ltb, ltb-false, ltb-true, ne_eqb}
use Rattle.page_layout.specs.Page.{u32_at}
use Rattle.cluster_control.specs.Crc.{IsCrc, crc_of}
use Rattle.cluster_control.proofs.Division.{crc_alone, crc_is}
use Rattle.cluster_map.specs.Map.{HasItsCrc, HasLength, IsMap, SaysTrue, count_of, crc_place, entries_in, magic, map_said}
use Rattle.cluster_map.specs.Map.{file_in, places_by, repeated_after, said_by, said_unless}
use Rattle.cluster_map.specs.declared.entry.MapEntry.{MapEntry}
use Rattle.cluster_map.specs.declared.fault.MapFault.{MapFault}
use Rattle.cluster_map.specs.declared.fault.MapFault.TheVariants.{NotThere, WrongLength, WrongMagic, WrongCount, WrongCrc, NamedTwice}
use Rattle.cluster_map.proofs.Twice.{found_in, new_none, repeated_none, repeated_some, twice_repeated}

-- the answer by what was tested
abbrev answer_by : Bool → Bool → Bool → Option ℕ → ℕ → List MapEntry → Result (List MapEntry) MapFault
answer_by begins many right twice count entries =
    if not begins then Err WrongMagic
    else if many then Err (WrongCount count)
    else if not right then Err WrongCrc
    else said_unless twice entries

abbrev begin_test : List ℕ → Bool
begin_test bytes = u32_at bytes 0 == magic

abbrev crc_test : List ℕ → ℕ → Bool
crc_test bytes places = u32_at bytes (crc_place places) == crc_of (take (crc_place places) bytes)

pub has_crc : (bytes : List ℕ) (places : ℕ) → crc_test bytes places ≡ true → HasItsCrc bytes places
has_crc bytes places e = subst (IsCrc (take (crc_place places) bytes)) (sym (eqb-true _ _ e)) (crc_is (take (crc_place places) bytes))

has_test : (bytes : List ℕ) (places : ℕ) → HasItsCrc bytes places → crc_test bytes places ≡ true
has_test bytes places h = eq-eqb _ _ (crc_alone (take (crc_place places) bytes) (u32_at bytes (crc_place places)) h)

has_none : (bytes : List ℕ) (places : ℕ) → (HasItsCrc bytes places → ⊥) → crc_test bytes places ≡ false
has_none bytes places n = elim (cases_eq (u32_at bytes (crc_place places)) (crc_of (take (crc_place places) bytes))) [
  | inl e ↦ absurd (n (has_crc bytes places (eq-eqb _ _ e)))
  | inr other ↦ ne_eqb _ _ other
]

pub lacks : (bytes : List ℕ) (places : ℕ) → crc_test bytes places ≡ false → HasItsCrc bytes places → ⊥
lacks bytes places e h = let both : true ≡ false = sym (has_test bytes places h) ∙ e in absurd cc

by_twice : (bytes : List ℕ) (places : ℕ) (twice : Option ℕ) → HasLength bytes places → begin_test bytes ≡ true
    → nat_lt places (count_of bytes) ≡ false → crc_test bytes places ≡ true → repeated_after [] (entries_in bytes) ≡ twice
    → SaysTrue bytes (said_unless twice (entries_in bytes))
by_twice bytes places None sized b m r t = record {
  places = places;
  sized = sized;
  begins = eqb-true _ _ b;
  few = ltb-false _ _ m;
  crc = has_crc bytes places r;
  says = refl;
  distinct = repeated_none [] (entries_in bytes) t;
}
by_twice bytes places (Some oid) sized b m r t =
    (places, sized, eqb-true _ _ b, ltb-false _ _ m, has_crc bytes places r, repeated_some [] (entries_in bytes) oid tt t)

by_tests : (bytes : List ℕ) (places : ℕ) (begins many right : Bool) → HasLength bytes places → begin_test bytes ≡ begins
    → nat_lt places (count_of bytes) ≡ many → crc_test bytes places ≡ right
    → SaysTrue bytes (answer_by begins many right (repeated_after [] (entries_in bytes)) (count_of bytes) (entries_in bytes))
by_tests bytes places false many right sized b m r = (places, sized, eqb-false _ _ b)
by_tests bytes places true true right sized b m r = (places, sized, eqb-true _ _ b, refl, ltb-true _ _ m)
by_tests bytes places true false false sized b m r = (places, sized, eqb-true _ _ b, ltb-false _ _ m, lacks bytes places r)
by_tests bytes places true false true sized b m r = by_twice bytes places _ sized b m r refl

by_places : (bytes : List ℕ) (found : Option ℕ) → places_by (length bytes) ≡ found → SaysTrue bytes (said_by found bytes)
by_places bytes None e = e
by_places bytes (Some places) e = by_tests bytes places _ _ _ e refl refl refl

pub said_is_true : (bytes : List ℕ) → SaysTrue bytes (map_said bytes)
unfolding map_said
said_is_true bytes = by_places bytes (places_by (length bytes)) refl

-- what is said where the length is known
said_at : (bytes : List ℕ) (places : ℕ) → HasLength bytes places → map_said bytes
    ≡ answer_by (begin_test bytes) (nat_lt places (count_of bytes)) (crc_test bytes places) (repeated_after [] (entries_in bytes)) (count_of bytes) (entries_in bytes)
unfolding map_said
said_at bytes places sized = ap (λ (found : Option ℕ). said_by found bytes) sized

pub said_alone : (bytes : List ℕ) (other : Result (List MapEntry) MapFault) → SaysTrue bytes other → other ≡ map_said bytes
unfolding map_said
said_alone bytes (Ok entries) h =
    let begins : begin_test bytes ≡ true = eq-eqb _ _ h.begins in
    let many : nat_lt h.places (count_of bytes) ≡ false = le-ltb _ _ h.few in
    let right = has_test bytes h.places h.crc in
    let once : repeated_after [] (entries_in bytes) ≡ None = ap (repeated_after []) (sym h.says) ∙ new_none [] entries h.distinct in
    sym (said_at bytes h.places h.sized ∙ (λ i. answer_by (begins i) (many i) (right i) (once i) (count_of bytes) (sym h.says i)))
said_alone bytes (Err NotThere) h = absurd h
said_alone bytes (Err WrongLength) h = sym (ap (λ (found : Option ℕ). said_by found bytes) h)
said_alone bytes (Err WrongMagic) h =
    let places = h.0 in
    let begins : begin_test bytes ≡ false = ne_eqb _ _ h.2 in
    sym (said_at bytes places h.1
    ∙ (λ i. answer_by (begins i) (nat_lt places (count_of bytes)) (crc_test bytes places) (repeated_after [] (entries_in bytes)) (count_of bytes) (entries_in bytes)))
said_alone bytes (Err (WrongCount count)) h =
    let places = h.0 in
    let begins : begin_test bytes ≡ true = eq-eqb _ _ h.2 in
    let many : nat_lt places (count_of bytes) ≡ true = lt-ltb _ _ (subst (λ n. places < n) h.3 h.4) in
    sym (said_at bytes places h.1
    ∙ (λ i. answer_by (begins i) (many i) (crc_test bytes places) (repeated_after [] (entries_in bytes)) (sym h.3 i) (entries_in bytes)))
said_alone bytes (Err WrongCrc) h =
    let places = h.0 in
    let begins : begin_test bytes ≡ true = eq-eqb _ _ h.2 in
    let many : nat_lt places (count_of bytes) ≡ false = le-ltb _ _ h.3 in
    let wrong = has_none bytes places h.4 in
    sym (said_at bytes places h.1
    ∙ (λ i. answer_by (begins i) (many i) (wrong i) (repeated_after [] (entries_in bytes)) (count_of bytes) (entries_in bytes)))
said_alone bytes (Err (NamedTwice oid)) h =
    let places = h.0 in
    let begins : begin_test bytes ≡ true = eq-eqb _ _ h.2 in
    let many : nat_lt places (count_of bytes) ≡ false = le-ltb _ _ h.3 in
    let right = has_test bytes places h.4 in
    let twice = twice_repeated (entries_in bytes) oid h.5 in
    sym (said_at bytes places h.1
    ∙ (λ i. answer_by (begins i) (many i) (right i) (twice i) (count_of bytes) (entries_in bytes)))

pub said_found : (bytes : List ℕ) (before after : List MapEntry) (x : MapEntry) → map_said bytes ≡ Ok (before ++ x ∷ after)
    → file_in (before ++ x ∷ after) x.oid ≡ Some x.file
said_found bytes before after x e =
    let map : IsMap bytes (before ++ x ∷ after) = subst (SaysTrue bytes) e (said_is_true bytes) in
    found_in before after x map.distinct
