-- One more column of a tuple that is read column after column.
use Rattle.std.proofs.Common.{◌≡◌, ℕ, zero, suc, ◌+◌, ◌<◌, ◌≤◌, List, [], ◌∷◌, ◌++◌, length, get_or, drop, refl, take, ap, sym, subst, ◌∙◌, arith}
use Rattle.std.specs.Prelude.{All, Bool, true, false, if◌then◌else◌, Option, Some, None, Ok, Err, slice_get}
use Rattle.std.proofs.lemmas.List.{drop-drop, length-take-le, take-append-drop}
use Rattle.std.proofs.lemmas.List.Elements.{All-get_or, All-take, recursion_from_All}
use Rattle.std.specs.List.{AllByRecursion}
use Rattle.std.proofs.lemmas.Option.{slice_get-get_or}
use Rattle.key_orders.specs.declared.columns.ColType.{ColType}
use Rattle.key_orders.specs.Types.{HasAlignment}
use Rattle.varlena_attrs.specs.declared.forms.Cause.{Cause}
use Rattle.varlena_attrs.specs.declared.fault.AttrFault.{AttrFault}
use Rattle.varlena_attrs.specs.Attributes.{Presence, is_null, presence_of}
use Rattle.varlena_attrs.specs.Forms.{Attribute}
use Rattle.varlena_attrs.specs.InTurn.{AreRead, EndsAt, IsAttributeOf, IsReadOn, TupleParts}
use Rattle.varlena_attrs.specs.Reading.{Outcome, Step, attribute_at, fault_at, read_from, stored_at, then_from}
use Rattle.varlena_attrs.specs.Inline.{AreFixed, IsLayout, fixed_next, inline_end, is_inline}
use Rattle.varlena_attrs.proofs.Ends.{end_later, fixed_end, stored_there}
use Rattle.varlena_attrs.proofs.Law.{attribute_sound, before_ok}
use Rattle.varlena_attrs.proofs.ReadFrom.{read_from-drop}

first_dropped : (list : List Attribute) (k : ℕ) (a : Attribute) (rest : List Attribute) → drop k list ≡ a ∷ rest → slice_get list k ≡ Some a
first_dropped [] zero a rest e = cc
first_dropped [] (suc k) a rest e = cc
first_dropped (x ∷ list) zero a rest e = let same : x ≡ a = heads e in ap Some same
  where
    heads : x ∷ list ≡ a ∷ rest → x ≡ a
    heads h = cc
first_dropped (x ∷ list) (suc k) a rest e = first_dropped list k a rest e

rest_dropped : (list : List Attribute) (k : ℕ) (a : Attribute) (rest : List Attribute) → drop k list ≡ a ∷ rest → rest ≡ drop (k + 1) list
rest_dropped list k a rest e = sym (sym (drop-drop 1 k list) ∙ ap (drop 1) e)

-- what is read of a column is an attribute of it
attribute_there : (t : TupleParts) (k place : ℕ) (d : ColType) → k < length t.columns → (a : Attribute) (next : ℕ) → HasAlignment (get_or t.columns k d) → ◌≡◌ {A = Step} (Ok (a, next)) (attribute_at (presence_of t.nulls t.natts k) (get_or t.columns k d) t.body place) → (ctype : ColType) → slice_get t.columns k ≡ Some ctype → IsAttributeOf ctype t.body a
attribute_there t k place d lt a next known is ctype at =
    let same : get_or t.columns k d ≡ ctype = one _ _ (sym (slice_get-get_or t.columns k d lt) ∙ at) in
    subst (λ (c : ColType). IsAttributeOf c t.body a) same (record { presence = presence_of t.nulls t.natts k; place = place; next = next; is = attribute_sound (presence_of t.nulls t.natts k) (get_or t.columns k d) t.body place a next known (sym is) })
  where
    one : (x y : ColType) → ◌≡◌ {A = Option ColType} (Some x) (Some y) → x ≡ y
    one x y h = cc

module _ (t : TupleParts) (k place : ℕ) (d : ColType) (lt : k < length t.columns) (here : IsReadOn t k place) where
  -- what comes of a column that can be read
  read_by : (a : Attribute) (next : ℕ) → ◌≡◌ {A = Step} (Ok (a, next)) (attribute_at (presence_of t.nulls t.natts k) (get_or t.columns k d) t.body place) → (list : List Attribute) → AreRead t list → (rest : List Attribute) × (read_from (drop (k + 1) t.columns) t.nulls t.natts t.body (k + 1) next ≡ Ok rest) × (drop k list ≡ a ∷ rest)
  read_by a next is list are =
      before_ok a (read_from (drop (k + 1) t.columns) t.nulls t.natts t.body (k + 1) next) (drop k list)
      (ap (λ (s : Step). then_from (k + 1) s (λ n. read_from (drop (k + 1) t.columns) t.nulls t.natts t.body (k + 1) n)) is ∙ sym (read_from-drop t.columns t.nulls t.natts t.body k place d lt) ∙ here.rest list are)

  pub read_next : (a : Attribute) (next : ℕ) → ◌≡◌ {A = Step} (Ok (a, next)) (attribute_at (presence_of t.nulls t.natts k) (get_or t.columns k d) t.body place) → next ≤ length t.body → IsReadOn t (k + 1) next
  read_next a next is within = record {
    alignments = here.alignments;
    some = omega (arith, lt);
    within = within;
    rest = λ list are. let b = read_by a next is list are in b.1 ∙ ap Ok (rest_dropped list k a b.0 b.2);
  }

  pub read_there : (a : Attribute) (next : ℕ) → ◌≡◌ {A = Step} (Ok (a, next)) (attribute_at (presence_of t.nulls t.natts k) (get_or t.columns k d) t.body place) → (list : List Attribute) → AreRead t list → slice_get list k ≡ Some a
  read_there a next is list are = let b = read_by a next is list are in first_dropped list k a b.0 b.2

  -- a column that can't be read
  pub unread : (cause : Cause) → ◌≡◌ {A = Step} (Err cause) (attribute_at (presence_of t.nulls t.natts k) (get_or t.columns k d) t.body place) → (list : List Attribute) → AreRead t list → ⊥
  unread cause is list are =
      differ (fault_at (k + 1) cause) (drop k list)
      (ap (λ (s : Step). then_from (k + 1) s (λ n. read_from (drop (k + 1) t.columns) t.nulls t.natts t.body (k + 1) n)) is ∙ sym (read_from-drop t.columns t.nulls t.natts t.body k place d lt) ∙ here.rest list are)
    where
      differ : (e : AttrFault) (list : List Attribute) → ◌≡◌ {A = Outcome} (Err e) (Ok list) → ⊥
      differ e list h = cc

  pub fits_there : (a : Attribute) (next : ℕ) → HasAlignment (get_or t.columns k d) → ◌≡◌ {A = Step} (Ok (a, next)) (attribute_at (presence_of t.nulls t.natts k) (get_or t.columns k d) t.body place) → (ctype : ColType) → slice_get t.columns k ≡ Some ctype → IsAttributeOf ctype t.body a
  fits_there = attribute_there t k place d lt

-- an attribute that ends in line is one
pub ends_at : (s : Step) (next : ℕ) → inline_end s ≡ Some next → EndsAt s next
ends_at (Err cause) next e = cc
ends_at (Ok step) next e = (step.0, by (is_inline step.0) e)
  where
    by : (inline : Bool) → (if inline then Some step.1 else None) ≡ Some next → ◌≡◌ {A = Step} (Ok step) (Ok (step.0, next))
    by true h = ap (λ (n : ℕ). Ok (step.0, n)) (one step.1 next h)
      where
        one : (x y : ℕ) → ◌≡◌ {A = Option ℕ} (Some x) (Some y) → x ≡ y
        one x y k = cc
    by false h = cc

pub fixed_at_end : (nulls : Option (List ℕ)) (natts k : ℕ) (c : ColType) (body : List ℕ) (place next : ℕ) → k < natts → is_null nulls k ≡ false → fixed_next c place ≡ Some next → next ≤ length body → EndsAt (attribute_at (presence_of nulls natts k) c body place) next
fixed_at_end nulls natts k c body place next lt clear is le =
    subst (λ (p : Presence). EndsAt (attribute_at p c body place) next) (sym (stored_there nulls natts k lt clear)) (ends_at (stored_at c body place) next (fixed_end c body place next is le))

-- Columns whose places are known

dropped : (columns : List ColType) (j : ℕ) (c : ColType) (xs : List ColType) (d : ColType) → drop j columns ≡ c ∷ xs
    → (j < length columns) × (get_or columns j d ≡ c) × (drop (suc j) columns ≡ xs)
dropped [] zero c xs d e = cc
dropped [] (suc j) c xs d e = cc
dropped (x ∷ columns) zero c xs d e = (omega arith, first e, rest e)
  where
    first : x ∷ columns ≡ c ∷ xs → x ≡ c
    first h = cc

    rest : x ∷ columns ≡ c ∷ xs → columns ≡ xs
    rest h = cc
dropped (x ∷ columns) (suc j) c xs d e =
    let later = dropped columns j c xs d e in
    (omega (arith, later.0), later.1, later.2)

no_null : (nulls : Option (List ℕ)) (j : ℕ) → nulls ≡ None → is_null nulls j ≡ false
unfolding is_null
no_null None j e = refl
no_null (Some bits) j e = cc

-- columns of fixed length are passed, where the tuple has no nulls and stores them
passed_fixed : (t : TupleParts) (d : ColType) (cs rest : List ColType) (j place end : ℕ) → t.nulls ≡ None → AllByRecursion HasAlignment cs
    → drop j t.columns ≡ cs ++ rest → AreFixed cs place end → end ≤ length t.body → j + length cs ≤ t.natts → IsReadOn t j place
    → IsReadOn t (j + length cs) end
passed_fixed t d [] rest j place end none known are fixed within few here =
    subst (λ (n : ℕ). IsReadOn t n end) (omega arith) (subst (λ (n : ℕ). IsReadOn t j n) fixed here)
passed_fixed t d (c ∷ cs) rest j place end none known are fixed within few here =
    let at = dropped t.columns j c (cs ++ rest) d are in
    let next : ℕ = fixed.0 in
    let one : j + 1 ≡ suc j = omega arith in
    let le : next ≤ length t.body = omega (arith, within, end_later cs next end known.1 fixed.2) in
    let step : EndsAt (attribute_at (presence_of t.nulls t.natts j) (get_or t.columns j d) t.body place) next =
    subst (λ (k : ColType). EndsAt (attribute_at (presence_of t.nulls t.natts j) k t.body place) next) (sym at.1)
    (fixed_at_end t.nulls t.natts j c t.body place next (omega (arith, few)) (no_null t.nulls j none) fixed.1 le) in
    let after : IsReadOn t (j + 1) next = read_next t j place d at.0 here step.0 next (sym step.1) le in
    subst (λ (n : ℕ). IsReadOn t n end) (omega arith)
    (passed_fixed t d cs rest (j + 1) next end none known.1 (ap (λ (n : ℕ). drop n t.columns) one ∙ at.2) fixed.2 within (omega (arith, few)) after)

-- the column behind them begins where they end
pub begins_at : (t : TupleParts) (d : ColType) (k start : ℕ) → t.nulls ≡ None → IsLayout t.columns k start → start ≤ length t.body → k ≤ t.natts → IsReadOn t k start
begins_at t d k start none layout within few =
    let front = take k t.columns in
    let count : length front ≡ k = length-take-le k t.columns layout.some in
    let sum : 0 + length front ≡ k = omega (arith, count) in
    let first : IsReadOn t 0 0 = record { alignments = layout.alignments; some = omega arith; within = omega arith; rest = λ list are. are } in
    subst (λ (n : ℕ). IsReadOn t n start) sum
    (passed_fixed t d front (drop k t.columns) 0 0 start none (recursion_from_All HasAlignment front (All-take HasAlignment k t.columns layout.alignments))
    (sym (take-append-drop k t.columns)) layout.fixed within (omega (arith, count, few)) first)

-- a value that is found there
pub plain_there : (t : TupleParts) (d : ColType) (k start : ℕ) (a : Attribute) (next : ℕ) → k < length t.columns → t.nulls ≡ None → k < t.natts
    → start ≤ length t.body → All HasAlignment t.columns → stored_at (get_or t.columns k d) t.body start ≡ Ok (a, next)
    → ((list : List Attribute) → IsLayout t.columns k start → AreRead t list → slice_get list k ≡ Some a)
    × ((ctype : ColType) → slice_get t.columns k ≡ Some ctype → IsAttributeOf ctype t.body a)
plain_there t d k start a next lt none few within aligned is =
    let step : ◌≡◌ {A = Step} (Ok (a, next)) (attribute_at (presence_of t.nulls t.natts k) (get_or t.columns k d) t.body start) =
    sym (ap (λ (p : Presence). attribute_at p (get_or t.columns k d) t.body start) (stored_there t.nulls t.natts k few (no_null t.nulls k none)) ∙ is) in (
      (λ list layout are. read_there t k start d lt (begins_at t d k start none layout within (omega (arith, few))) a next step list are),
      attribute_there t k start d lt a next (All-get_or HasAlignment t.columns k d lt aligned) step,
    )
