-- Oids that are named twice.
use Rattle.std.proofs.Common.{◌≡◌, ◌≢◌, ◌∙◌, ℕ, List, [], ◌∷◌, ◌++◌, refl, ap, sym, subst, inl, inr, append-nil, append_assoc}
use Rattle.std.specs.Prelude.{Option, Some, None, find, cond}
use Rattle.std.specs.Option.{option_map}
use Rattle.std.proofs.lemmas.Bool.{cases_eq, eq-eqb, ne_eqb}
use Rattle.std.proofs.lemmas.List.Elements.{All-cons, All-head, All-nil, All-tail}
use Rattle.cluster_map.specs.Map.{AreDistinct, AreNew, IsNamedTwice, NamesNone, file_in, is_of, or_then, repeated_after}
use Rattle.cluster_map.specs.declared.entry.MapEntry.{MapEntry}

-- the file of an oid where the first entry has it, and where it doesn't
file-here : (e : MapEntry) (es : List MapEntry) (oid : ℕ) → e.oid ≡ oid → file_in (e ∷ es) oid ≡ Some e.file
file-here e es oid same = λ i. option_map (λ (entry : MapEntry). entry.file) (cond (eq-eqb e.oid oid same i) (Some e) (find (is_of oid) es))

file-later : (e : MapEntry) (es : List MapEntry) (oid : ℕ) → e.oid ≢ oid → file_in (e ∷ es) oid ≡ file_in es oid
file-later e es oid other = λ i. option_map (λ (entry : MapEntry). entry.file) (cond (ne_eqb e.oid oid other i) (Some e) (find (is_of oid) es))

pub none_named : (es : List MapEntry) (oid : ℕ) → file_in es oid ≡ None → NamesNone es oid
none_named [] oid e = All-nil (λ (entry : MapEntry). entry.oid ≢ oid)
none_named (x ∷ es) oid e = elim (cases_eq x.oid oid) [
  | inl same ↦ let clash : None ≡ Some x.file = sym e ∙ file-here x es oid same in absurd cc
  | inr other ↦ All-cons (λ (entry : MapEntry). entry.oid ≢ oid) x es other (none_named es oid (sym (file-later x es oid other) ∙ e))
]

pub named_none : (es : List MapEntry) (oid : ℕ) → NamesNone es oid → file_in es oid ≡ None
named_none [] oid h = refl
named_none (x ∷ es) oid h =
    let P = λ (entry : MapEntry). entry.oid ≢ oid in
    file-later x es oid (All-head P x es h) ∙ named_none es oid (All-tail P x es h)

-- the walk over entries, by the file that was found for the first of them
none_by : (before : List MapEntry) (x : MapEntry) (es : List MapEntry) (found : Option ℕ) → file_in before x.oid ≡ found
    → (repeated_after (before ++ x ∷ []) es ≡ None → AreNew (before ++ x ∷ []) es)
    → or_then found x.oid (repeated_after (before ++ x ∷ []) es) ≡ None → AreNew before (x ∷ es)
none_by before x es None is rest e = (none_named before x.oid is, rest e)
none_by before x es (Some f) is rest e = absurd cc

pub repeated_none : (before es : List MapEntry) → repeated_after before es ≡ None → AreNew before es
unfolding repeated_after
repeated_none before [] e = tt
repeated_none before (x ∷ es) e = none_by before x es _ refl (repeated_none (before ++ x ∷ []) es) e

pub new_none : (before es : List MapEntry) → AreNew before es → repeated_after before es ≡ None
unfolding repeated_after
new_none before [] h = refl
new_none before (x ∷ es) h =
    ap (λ (found : Option ℕ). or_then found x.oid (repeated_after (before ++ x ∷ []) es)) (named_none before x.oid h.0)
    ∙ new_none (before ++ x ∷ []) es h.1

-- one more entry at the end
new_more : (before es : List MapEntry) (x : MapEntry) → AreNew before es → NamesNone (before ++ es) x.oid → AreNew before (es ++ x ∷ [])
new_more before [] x h none = (subst (λ (l : List MapEntry). NamesNone l x.oid) (append-nil before) none, tt)
new_more before (y ∷ es) x h none =
    (h.0, new_more (before ++ y ∷ []) es x h.1 (subst (λ (l : List MapEntry). NamesNone l x.oid) (sym (append_assoc before (y ∷ []) es)) none))

twice_by : (before : List MapEntry) (x : MapEntry) (es : List MapEntry) (oid : ℕ) (found : Option ℕ) → file_in before x.oid ≡ found
    → AreDistinct before
    → (AreDistinct (before ++ x ∷ []) → repeated_after (before ++ x ∷ []) es ≡ Some oid → IsNamedTwice ((before ++ x ∷ []) ++ es) oid)
    → or_then found x.oid (repeated_after (before ++ x ∷ []) es) ≡ Some oid → IsNamedTwice (before ++ x ∷ es) oid
twice_by before x es oid None is distinct rest e =
    subst (λ (l : List MapEntry). IsNamedTwice l oid) (append_assoc before (x ∷ []) es)
    (rest (new_more [] before x distinct (none_named before x.oid is)) e)
twice_by before x es oid (Some f) is distinct rest e =
    let here : x.oid ≡ oid = cc in
    record {
      before = before;
      again = x;
      after = es;
      whole = refl;
      here = here;
      distinct = distinct;
      there = λ none.
          let lacks : file_in before x.oid ≡ None = ap (file_in before) here ∙ named_none before oid none in
          let clash : Some f ≡ None = sym is ∙ lacks in
          absurd cc;
    }

pub repeated_some : (before es : List MapEntry) (oid : ℕ) → AreDistinct before → repeated_after before es ≡ Some oid → IsNamedTwice (before ++ es) oid
unfolding repeated_after
repeated_some before [] oid distinct e = absurd cc
repeated_some before (x ∷ es) oid distinct e = twice_by before x es oid _ refl distinct (repeated_some (before ++ x ∷ []) es oid) e

-- what is new is passed over
walk : (before es rest : List MapEntry) → AreNew before es → repeated_after before (es ++ rest) ≡ repeated_after (before ++ es) rest
unfolding repeated_after
walk before [] rest h = ap (λ (l : List MapEntry). repeated_after l rest) (sym (append-nil before))
walk before (x ∷ es) rest h =
    ap (λ (found : Option ℕ). or_then found x.oid (repeated_after (before ++ x ∷ []) (es ++ rest))) (named_none before x.oid h.0)
    ∙ walk (before ++ x ∷ []) es rest h.1
    ∙ ap (λ (l : List MapEntry). repeated_after l rest) (append_assoc before (x ∷ []) es)

there_by : (before : List MapEntry) (oid : ℕ) (rest found : Option ℕ) → file_in before oid ≡ found → (NamesNone before oid → ⊥)
    → or_then found oid rest ≡ Some oid
there_by before oid rest None is there = absurd (there (none_named before oid is))
there_by before oid rest (Some f) is there = refl

pub twice_repeated : (es : List MapEntry) (oid : ℕ) → IsNamedTwice es oid → repeated_after [] es ≡ Some oid
unfolding repeated_after
twice_repeated es oid h =
    let b = h.before in
    let x = h.again in
    let there : NamesNone b x.oid → ⊥ = λ none. h.there (subst (NamesNone b) h.here none) in
    ap (repeated_after []) h.whole
    ∙ walk [] b (x ∷ h.after) h.distinct
    ∙ there_by b x.oid (repeated_after (b ++ x ∷ []) h.after) _ refl there
    ∙ ap Some h.here

-- a map that names no oid twice has for each of its entries that entry's file
found_there : (before after : List MapEntry) (x : MapEntry) → NamesNone before x.oid → file_in (before ++ x ∷ after) x.oid ≡ Some x.file
found_there [] after x h = file-here x after x.oid refl
found_there (y ∷ before) after x h =
    let P = λ (entry : MapEntry). entry.oid ≢ x.oid in
    file-later y (before ++ x ∷ after) x.oid (All-head P y before h) ∙ found_there before after x (All-tail P y before h)

-- what is new is of an oid that none before it has
new_there : (before es after : List MapEntry) (x : MapEntry) → AreNew before (es ++ x ∷ after) → NamesNone (before ++ es) x.oid
new_there before [] after x h = subst (λ (l : List MapEntry). NamesNone l x.oid) (sym (append-nil before)) h.0
new_there before (y ∷ es) after x h =
    subst (λ (l : List MapEntry). NamesNone l x.oid) (append_assoc before (y ∷ []) es) (new_there (before ++ y ∷ []) es after x h.1)

pub found_in : (before after : List MapEntry) (x : MapEntry) → AreDistinct (before ++ x ∷ after) → file_in (before ++ x ∷ after) x.oid ≡ Some x.file
found_in before after x h = found_there before after x (new_there [] before after x h)
