-- Some of the entries met their rows.
use Rattle.std.proofs.Common.{◌≡◌, ◌∙◌, List, [], ◌∷◌, ◌++◌, Bool, true, refl, ap, sym, inl, inr}
use Rattle.std.specs.List.{list_any}
use Rattle.std.proofs.lemmas.Bool.{false≢true, or_cases, or_left, or_right}
use Rattle.key_orders.specs.declared.Tid.{Tid}
use Rattle.bt_image.specs.Image.{LeafEntry}
use Rattle.join_slots.specs.Met.{Keyed, Keys, Mets, meets, met_after}
use Rattle.join_slots.specs.Slots.{Tables, keys_in, met_in}
use Rattle.join_slots.proofs.MetLaws.{met_after_is}
use Rattle.join_meet.specs.Meeting.{HaveMet, HaveMetSome, alive_in}
use Rattle.join_meet.proofs.Meets.{alive-append, range-then}

-- some of the entries meets the row that is rooted there
abbrev any : Keys → List Keyed → Tid → Bool
any keys es tid = list_any (λ e. meets keys e tid) es

-- it is met after them if it was met or one of them meets it
after-met : (keys : Keys) (es : List Keyed) (met : Mets) (tid : Tid) → met tid ≡ true → met_after keys es met tid ≡ true
after-met keys es met tid is = met_after_is keys es met tid ∙ or_left (met tid) (any keys es tid) is

after-any : (keys : Keys) (es : List Keyed) (met : Mets) (tid : Tid) → any keys es tid ≡ true → met_after keys es met tid ≡ true
after-any keys es met tid is = met_after_is keys es met tid ∙ or_right (met tid) (any keys es tid) is

any-before : (keys : Keys) (xs ys : List Keyed) (tid : Tid) → any keys ys tid ≡ true → any keys (xs ++ ys) tid ≡ true
any-before keys [] ys tid is = is
any-before keys (x ∷ xs) ys tid is = or_right (meets keys x tid) (any keys (xs ++ ys) tid) (any-before keys xs ys tid is)

any-behind : (keys : Keys) (xs ys : List Keyed) (tid : Tid) → any keys xs tid ≡ true → any keys (xs ++ ys) tid ≡ true
any-behind keys [] ys tid is = absurd (false≢true is)
any-behind keys (x ∷ xs) ys tid is = elim (or_cases (meets keys x tid) (any keys xs tid) is) [
  | inl here ↦ or_left (meets keys x tid) (any keys (xs ++ ys) tid) here
  | inr there ↦ or_right (meets keys x tid) (any keys (xs ++ ys) tid) (any-behind keys xs ys tid there)
]

-- none of them met a row, or all did
pub some-none : (es : List LeafEntry) (t : Tables) → HaveMetSome es t t
some-none es t = record {
  sound = λ tid. after-met (keys_in t) (alive_in es) (met_in t) tid;
  keys = refl;
  range = record { first = refl; blocks = refl; has = refl };
}

pub some-all : (es : List LeafEntry) (a b : Tables) → HaveMet es a b → HaveMetSome es a b
some-all es a b h = record { sound = λ tid is. sym (ap (λ (m : Mets). m tid) h.met) ∙ is; keys = h.keys; range = h.range }

-- they are a part of more
pub some-part : (front es rest : List LeafEntry) (a b : Tables) → HaveMetSome es a b → HaveMetSome (front ++ (es ++ rest)) a b
some-part front es rest a b h = record {
  sound = λ tid is.
      let keys = keys_in a in
      let met = met_in a in
      elim (or_cases (met tid) (any keys (alive_in es) tid) (sym (met_after_is keys (alive_in es) met tid) ∙ h.sound tid is)) [
        | inl before ↦ after-met keys (alive_in (front ++ (es ++ rest))) met tid before
        | inr one ↦
            after-any keys (alive_in (front ++ (es ++ rest))) met tid
            (ap (λ (l : List Keyed). any keys l tid) (alive-append front (es ++ rest) ∙ ap (λ (l : List Keyed). alive_in front ++ l) (alive-append es rest))
            ∙ any-before keys (alive_in front) (alive_in es ++ alive_in rest) tid (any-behind keys (alive_in es) (alive_in rest) tid one))
      ];
  keys = h.keys;
  range = h.range;
}

-- some of them after some of them
pub some-then : (es : List LeafEntry) (a b c : Tables) → HaveMetSome es a b → HaveMetSome es b c → HaveMetSome es a c
some-then es a b c h g = record {
  sound = λ tid is.
      let late : met_after (keys_in a) (alive_in es) (met_in b) tid ≡ true =
      ap (λ (k : Keys). met_after k (alive_in es) (met_in b) tid) (sym h.keys) ∙ g.sound tid is in
      elim (or_cases (met_in b tid) (any (keys_in a) (alive_in es) tid) (sym (met_after_is (keys_in a) (alive_in es) (met_in b) tid) ∙ late)) [
        | inl before ↦ h.sound tid before
        | inr one ↦ after-any (keys_in a) (alive_in es) (met_in a) tid one
      ];
  keys = g.keys ∙ h.keys;
  range = range-then a b c h.range g.range;
}

-- the same entries by another list
pub some-same : (xs ys : List LeafEntry) (a b : Tables) → xs ≡ ys → HaveMetSome xs a b → HaveMetSome ys a b
some-same xs ys a b is h = record {
  sound = λ tid met. ap (λ (l : List LeafEntry). met_after (keys_in a) (alive_in l) (met_in a) tid) (sym is) ∙ h.sound tid met;
  keys = h.keys;
  range = h.range;
}
