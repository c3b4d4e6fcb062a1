-- One more column of an index tuple.
use Rattle.std.proofs.Common.{◌≡◌, ℕ, zero, suc, Bool, true, false, ◌+◌, ◌-◌, ◌<◌, ◌≤◌, List, [], ◌∷◌, ◌++◌, length, get_or, take, drop, refl, ap, sym, subst, ◌∙◌, add-one, arith, append-nil, append_assoc, cond}
use Rattle.std.specs.Prelude.{Option, Some, None, Result, Ok, Err, IfOk, All}
use Rattle.std.specs.Option.{option_copied, option_or}
use Rattle.std.proofs.Math.Seq.{drop-cons}
use Rattle.std.proofs.lemmas.Bool.{and_from, and_parts}
use Rattle.std.proofs.lemmas.List.{drop_all, length-take-le, length-drop, length-map, length-append, get_or-append-add, get_or-map, get_or_append_left, take-map}
use Rattle.std.proofs.lemmas.List.Elements.{All-get_or, All-take}
use Rattle.key_orders.specs.Keys.{fits_columns}
use Rattle.key_orders.specs.Orders.{fits_type}
use Rattle.key_orders.specs.Types.{HasAlignment, HasLength, IsLength}
use Rattle.key_orders.specs.declared.columns.ColType.{ColType}
use Rattle.key_orders.specs.declared.columns.ColType.TheVariants.{Bool as BoolType}
use Rattle.key_orders.specs.declared.columns.KeySpec.{KeySpec}
use Rattle.key_orders.specs.declared.columns.Value.{Value}
use Rattle.key_orders.specs.declared.more.MoreSpec.{MoreSpec}
use Rattle.key_attrs.specs.declared.keyed.IndexTuple.{IndexTuple}
use Rattle.key_attrs.specs.declared.keyed.KeyFault.{KeyFault}
use Rattle.varlena_attrs.specs.declared.places.AttrPlace.{AttrPlace}
use Rattle.varlena_attrs.specs.declared.places.AttrPlace.TheVariants as at
use Rattle.varlena_attrs.specs.Attributes.{Absent, As_null, Stored, Presence, IsAttribute, presence_of}
use Rattle.varlena_attrs.specs.Forms.{Attribute, Null, Missing, Plain, IsStored, fixed, varlena, bytes_between}
use Rattle.key_attrs.specs.Keyed.{InlineStep, Inlines, attribute_value, attribute_values, first_packed, fits_more, inline_step, is_packed, key_types, key_values, more_types, put_before, read_inline, then_inline, unless_packed, values_by}
use Rattle.key_attrs.specs.KeyedShown.{HasPlainLength, packed_here, told_after, told_by}
use Rattle.varlena_attrs.specs.Reading.{Step, attribute_at}
use Rattle.varlena_attrs.specs.Shown.{IsWithin, shown_at}
use Rattle.varlena_attrs.proofs.Law.{attribute_sound}

-- THE BYTES OF A PLAIN VALUE

stored_fits : (ctype : ColType) (body : List ℕ) (place next : ℕ) (content : List ℕ) → IsStored ctype body place (Plain content) next → HasLength ctype (length content)
stored_fits ctype body place next content (fixed len start is aligned ends within e) =
    let long : length (bytes_between body start next) ≡ len = length-take-le (next - start) (drop start body) (omega (arith, length-drop start body)) ∙ omega (arith, ends) in
    let same : content ≡ bytes_between body start next = cc in
    subst (λ l. IsLength l (length content)) (sym is) (ap length same ∙ long)
stored_fits ctype body place next content (varlena start is begins form) = subst (λ l. IsLength l (length content)) (sym is) tt

attribute_fits : (p : Presence) (ctype : ColType) (body : List ℕ) (place next : ℕ) (content : List ℕ) → IsAttribute p ctype body place (Plain content) next → HasLength ctype (length content)
attribute_fits Absent ctype body place next content a = absurd (plain_or_missing a.0)
  where
    plain_or_missing : Plain content ≡ Missing → ⊥
    plain_or_missing e = cc
attribute_fits As_null ctype body place next content a = absurd (plain_or_null a.0)
  where
    plain_or_null : Plain content ≡ Null → ⊥
    plain_or_null e = cc
attribute_fits Stored ctype body place next content a = stored_fits ctype body place next content a

pub plain_fits : (p : Presence) (ctype : ColType) (body : List ℕ) (place next : ℕ) (a : AttrPlace) → HasAlignment ctype → IsWithin (length body) a → ◌≡◌ {A = Step} (Ok (shown_at body a, next)) (attribute_at p ctype body place) → HasPlainLength ctype a
plain_fits p ctype body place next at.Null known within step = tt
plain_fits p ctype body place next at.Missing known within step = tt
plain_fits p ctype body place next (at.Plain start len) known within step =
    let long : length (take len (drop start body)) ≡ len = length-take-le len (drop start body) (omega (arith, length-drop start body, within)) in
    subst (λ n. HasLength ctype n) long (attribute_fits p ctype body place next (take len (drop start body)) (attribute_sound p ctype body place _ next known (sym step)))
plain_fits p ctype body place next (at.Packed start len) known within step = tt
plain_fits p ctype body place next (at.External start) known within step = tt

-- THE COLUMNS

pub read_inline-cons : (c : ColType) (cs : List ColType) (nulls : Option (List ℕ)) (natts : ℕ) (body : List ℕ) (k place : ℕ) → read_inline (c ∷ cs) nulls natts body k place ≡ then_inline (inline_step (suc k) (attribute_at (presence_of nulls natts k) c body place)) (λ next. read_inline cs nulls natts body (suc k) next)
unfolding read_inline
read_inline-cons c cs nulls natts body k place = refl

pub read_inline-nil : (nulls : Option (List ℕ)) (natts : ℕ) (body : List ℕ) (k place : ℕ) → read_inline [] nulls natts body k place ≡ Ok []
unfolding read_inline
read_inline-nil nulls natts body k place = refl

-- the first compressed column, with one column more
packed_more : (before : Option ℕ) (packed : Bool) (column : ℕ) (later : Option ℕ) → option_or before (cond packed (Some column) later) ≡ option_or (option_or before (packed_here packed column)) later
packed_more (Some n) true column later = refl
packed_more (Some n) false column later = refl
packed_more None true column later = refl
packed_more None false column later = refl

told_more : (values : List Value) (packed : Option ℕ) (k : ℕ) (c : ColType) (cs : List ColType) (a : Attribute) (o : Inlines) → told_after values packed k (c ∷ cs) (put_before a o) ≡ told_after (values ++ attribute_value c a ∷ []) (option_or packed (packed_here (is_packed a) (suc k))) (suc k) cs o
told_more values packed k c cs a (Ok list) =
    λ i. unless_packed (packed_more packed (is_packed a) (suc k) (first_packed (suc k) list) i) (sym (append_assoc values (attribute_value c a ∷ []) (attribute_values cs list)) i)
told_more values packed k c cs a (Err e) = refl

-- past a column whose attribute stands in the tuple
past_suc : (values : List Value) (packed : Option ℕ) (k : ℕ) (c : ColType) (cs : List ColType) (nulls : Option (List ℕ)) (natts : ℕ) (body : List ℕ) (place next : ℕ) (a : Attribute) (v : Value) (here : Option ℕ)
    → ◌≡◌ {A = InlineStep} (Ok (a, next)) (inline_step (suc k) (attribute_at (presence_of nulls natts k) c body place))
    → v ≡ attribute_value c a → here ≡ packed_here (is_packed a) (suc k)
    → told_after values packed k (c ∷ cs) (read_inline (c ∷ cs) nulls natts body k place) ≡ told_after (values ++ v ∷ []) (option_or packed here) (suc k) cs (read_inline cs nulls natts body (suc k) next)
past_suc values packed k c cs nulls natts body place next a v here step is where_packed =
    ap (told_after values packed k (c ∷ cs)) (read_inline-cons c cs nulls natts body k place)
    ∙ ap (λ (s : InlineStep). told_after values packed k (c ∷ cs) (then_inline s (λ n. read_inline cs nulls natts body (suc k) n))) (sym step)
    ∙ told_more values packed k c cs a (read_inline cs nulls natts body (suc k) next)
    ∙ (λ i. told_after (values ++ sym is i ∷ []) (option_or packed (sym where_packed i)) (suc k) cs (read_inline cs nulls natts body (suc k) next))

pub past_column : (values : List Value) (packed : Option ℕ) (k : ℕ) (c : ColType) (cs : List ColType) (nulls : Option (List ℕ)) (natts : ℕ) (body : List ℕ) (place next : ℕ) (a : Attribute) (v : Value) (here : Option ℕ)
    → ◌≡◌ {A = InlineStep} (Ok (a, next)) (inline_step (k + 1) (attribute_at (presence_of nulls natts k) c body place))
    → v ≡ attribute_value c a → here ≡ packed_here (is_packed a) (k + 1)
    → told_after values packed k (c ∷ cs) (read_inline (c ∷ cs) nulls natts body k place) ≡ told_after (values ++ v ∷ []) (option_or packed here) (k + 1) cs (read_inline cs nulls natts body (k + 1) next)
past_column values packed k c cs nulls natts body place next a v here step is where_packed =
    rw add-one (past_suc values packed k c cs nulls natts body place next a v here (rw add-one at step) is (rw add-one at where_packed))

-- at a column that can't be read
failed_suc : (values : List Value) (packed : Option ℕ) (k : ℕ) (c : ColType) (cs : List ColType) (nulls : Option (List ℕ)) (natts : ℕ) (body : List ℕ) (place : ℕ) (e : KeyFault)
    → ◌≡◌ {A = InlineStep} (Err e) (inline_step (suc k) (attribute_at (presence_of nulls natts k) c body place))
    → told_after values packed k (c ∷ cs) (read_inline (c ∷ cs) nulls natts body k place) ≡ Err e
failed_suc values packed k c cs nulls natts body place e step =
    ap (told_after values packed k (c ∷ cs)) (read_inline-cons c cs nulls natts body k place)
    ∙ ap (λ (s : InlineStep). told_after values packed k (c ∷ cs) (then_inline s (λ n. read_inline cs nulls natts body (suc k) n))) (sym step)

pub failed_column : (values : List Value) (packed : Option ℕ) (k : ℕ) (c : ColType) (cs : List ColType) (nulls : Option (List ℕ)) (natts : ℕ) (body : List ℕ) (place : ℕ) (e : KeyFault)
    → ◌≡◌ {A = InlineStep} (Err e) (inline_step (k + 1) (attribute_at (presence_of nulls natts k) c body place))
    → told_after values packed k (c ∷ cs) (read_inline (c ∷ cs) nulls natts body k place) ≡ Err e
failed_column values packed k c cs nulls natts body place e step = failed_suc values packed k c cs nulls natts body place e (rw add-one at step)

-- before the first column
pub told_first : (types : List ColType) (o : Inlines) → told_after [] None 0 types o ≡ values_by types o
told_first types (Ok list) = refl
told_first types (Err e) = refl

pub told_none : (types : List ColType) (natts : ℕ) (body : List ℕ) (nulls : Option (List ℕ)) → length types ≡ natts → told_after [] None 0 types (read_inline types nulls natts body 0 0) ≡ key_values types body nulls
unfolding key_values
told_none types natts body nulls count = told_first types (read_inline types nulls natts body 0 0) ∙ ap (λ n. values_by types (read_inline types nulls n body 0 0)) (sym count)

-- after the last one
or_none : (o : Option ℕ) → option_or o None ≡ o
or_none (Some n) = refl
or_none None = refl

pub told_all : (columns : IndexTuple) (values : List Value) (packed : Option ℕ) → columns.packed ≡ packed → told_by columns values [] ≡ unless_packed packed values
told_all columns values packed is =
    ap (told_after values columns.packed columns.column []) (read_inline-nil (option_copied columns.nulls) columns.natts columns.body.now columns.column columns.place)
    ∙ (λ i. unless_packed ((or_none columns.packed ∙ is) i) (append-nil values i))

-- the same of a key whose columns were all read
pub told_end : (specs : List KeySpec) (body : List ℕ) (values : List Value) (k place : ℕ) → length specs ≤ k → told_after values None k (key_types (drop k specs)) (read_inline (key_types (drop k specs)) None (length specs) body k place) ≡ Ok values
told_end specs body values k place all =
    ap (λ (ks : List KeySpec). told_after values None k (key_types ks) (read_inline (key_types ks) None (length specs) body k place)) (drop_all k specs all)
    ∙ ap (told_after values None k []) (read_inline-nil None (length specs) body k place)
    ∙ ap Ok (append-nil values)

-- the same of any types
pub told_last : (types : List ColType) (body : List ℕ) (values : List Value) (k place : ℕ) → length types ≤ k → told_after values None k (drop k types) (read_inline (drop k types) None (length types) body k place) ≡ Ok values
told_last types body values k place all =
    ap (λ (ts : List ColType). told_after values None k ts (read_inline ts None (length types) body k place)) (drop_all k types all)
    ∙ ap (told_after values None k []) (read_inline-nil None (length types) body k place)
    ∙ ap Ok (append-nil values)

-- THE TYPES OF A KEY AND OF WHAT IS INCLUDED

pub key_types-drop : (specs : List KeySpec) (i : ℕ) (d : KeySpec) → i < length specs → key_types (drop i specs) ≡ (get_or specs i d).ctype ∷ key_types (drop (i + 1) specs)
key_types-drop specs i d lt = rw add-one (ap key_types (drop-cons specs i d lt))

pub more_types-drop : (more : List MoreSpec) (i : ℕ) (d : MoreSpec) → i < length more → more_types (drop i more) ≡ (get_or more i d).ctype ∷ more_types (drop (i + 1) more)
more_types-drop more i d lt = rw add-one (ap more_types (drop-cons more i d lt))

pub key_aligned : (specs : List KeySpec) (k : ℕ) (e : KeySpec) → k < length specs → All HasAlignment (key_types specs) → HasAlignment (get_or specs k e).ctype
key_aligned specs k e lt all =
    let count : length (key_types specs) ≡ length specs = length-map specs (λ s. s.ctype) in
    subst HasAlignment (get_or-map (λ s. s.ctype) specs k e BoolType lt) (All-get_or HasAlignment (key_types specs) k BoolType (omega (arith, lt, count)) all)

pub more_aligned : (more : List MoreSpec) (k : ℕ) (e : MoreSpec) → k < length more → All HasAlignment (more_types more) → HasAlignment (get_or more k e).ctype
more_aligned more k e lt all =
    let count : length (more_types more) ≡ length more = length-map more (λ s. s.ctype) in
    subst HasAlignment (get_or-map (λ s. s.ctype) more k e BoolType lt) (All-get_or HasAlignment (more_types more) k BoolType (omega (arith, lt, count)) all)

-- by their number
pub all_types-key : (specs : List KeySpec) (more : List MoreSpec) (k : ℕ) (e : KeySpec) (d : ColType) → k < length specs → get_or (key_types specs ++ more_types more) k d ≡ (get_or specs k e).ctype
all_types-key specs more k e d lt =
    let count : length (key_types specs) ≡ length specs = length-map specs (λ s. s.ctype) in
    get_or_append_left (key_types specs) (more_types more) d k (omega (arith, lt, count)) ∙ get_or-map (λ s. s.ctype) specs k e d lt

pub all_types-more : (specs : List KeySpec) (more : List MoreSpec) (k : ℕ) (e : MoreSpec) (d : ColType) → k < length more → get_or (key_types specs ++ more_types more) (length specs + k) d ≡ (get_or more k e).ctype
all_types-more specs more k e d lt =
    ap (λ (n : ℕ). get_or (key_types specs ++ more_types more) (n + k) d) (sym (length-map specs (λ s. s.ctype)))
    ∙ get_or-append-add (key_types specs) (more_types more) k d
    ∙ get_or-map (λ m. m.ctype) more k e d lt

-- VALUES THAT FIT

-- one value more fits, where it fits the next column
pub fits_push : (specs : List KeySpec) (values : List Value) (v : Value) (e : KeySpec) (k : ℕ) → length values ≡ k → k < length specs → fits_columns specs values ≡ true → fits_type (get_or specs k e).ctype v ≡ true → fits_columns specs (values ++ v ∷ []) ≡ true
fits_push specs values v e k count lt fits here = go specs values fits (omega (arith, count, lt)) (subst (λ n. fits_type (get_or specs n e).ctype v ≡ true) (sym count) here)
  where
    go : (specs : List KeySpec) (values : List Value) → fits_columns specs values ≡ true → length values < length specs → fits_type (get_or specs (length values) e).ctype v ≡ true → fits_columns specs (values ++ v ∷ []) ≡ true
    go [] values fits lt here = absurd (omega (arith, lt))
    go (s ∷ specs) [] fits lt here = and_from (fits_type s.ctype v) true here refl
    go (s ∷ specs) (w ∷ values) fits lt here =
        let both = and_parts (fits_type s.ctype w) (fits_columns specs values) fits in
        and_from (fits_type s.ctype w) (fits_columns specs (values ++ v ∷ [])) both.0 (go specs values both.1 (omega (arith, lt)) here)

take-nil : (n : ℕ) → ◌≡◌ {A = List KeySpec} (take n []) []
take-nil zero = refl
take-nil (suc n) = refl

-- and one more of the included columns
pub more_push : (specs : List MoreSpec) (values : List Value) (v : Value) (e : MoreSpec) (k : ℕ) → length values ≡ k → k < length specs → fits_more specs values ≡ true → fits_type (get_or specs k e).ctype v ≡ true → fits_more specs (values ++ v ∷ []) ≡ true
more_push specs values v e k count lt fits here = go specs values fits (omega (arith, count, lt)) (subst (λ n. fits_type (get_or specs n e).ctype v ≡ true) (sym count) here)
  where
    go : (specs : List MoreSpec) (values : List Value) → fits_more specs values ≡ true → length values < length specs → fits_type (get_or specs (length values) e).ctype v ≡ true → fits_more specs (values ++ v ∷ []) ≡ true
    go [] values fits lt here = absurd (omega (arith, lt))
    go (s ∷ specs) [] fits lt here = and_from (fits_type s.ctype v) true here refl
    go (s ∷ specs) (w ∷ values) fits lt here =
        let both = and_parts (fits_type s.ctype w) (fits_more specs values) fits in
        and_from (fits_type s.ctype w) (fits_more specs (values ++ v ∷ [])) both.0 (go specs values both.1 (omega (arith, lt)) here)

-- what fits the first columns fits them all
pub fits_first : (n : ℕ) (specs : List KeySpec) (values : List Value) → fits_columns (take n specs) values ≡ true → fits_columns specs values ≡ true
fits_first n specs [] fits = refl
fits_first n [] (v ∷ values) fits = subst (λ ks. fits_columns ks (v ∷ values) ≡ true) (take-nil n) fits
fits_first zero (s ∷ specs) (v ∷ values) fits = absurd cc
fits_first (suc n) (s ∷ specs) (v ∷ values) fits =
    let both = and_parts (fits_type s.ctype v) (fits_columns (take n specs) values) fits in
    and_from (fits_type s.ctype v) (fits_columns specs values) both.0 (fits_first n specs values both.1)

pub first_fit : {A E : Type 0} (n : ℕ) (specs : List KeySpec) (values : List Value) (r : Result A E) → IfOk r (λ u. fits_columns (take n specs) values ≡ true) → IfOk r (λ u. fits_columns specs values ≡ true)
first_fit n specs values (Ok u) fits = fits_first n specs values fits
first_fit n specs values (Err e) fits = tt

-- the types of the first columns
pub key_types-take : (n : ℕ) (specs : List KeySpec) → key_types (take n specs) ≡ take n (key_types specs)
key_types-take n specs = sym (take-map (λ s. s.ctype) n specs)

pub count_of_types : (specs : List KeySpec) (more : List MoreSpec) → length (key_types specs ++ more_types more) ≡ length specs + length more
count_of_types specs more = length-append (key_types specs) (more_types more) ∙ (λ i. length-map specs (λ s. s.ctype) i + length-map more (λ m. m.ctype) i)

pub first_aligned : (n : ℕ) (specs : List KeySpec) → All HasAlignment (key_types specs) → All HasAlignment (key_types (take n specs))
first_aligned n specs all = subst (λ ts. All HasAlignment ts) (sym (key_types-take n specs)) (All-take HasAlignment n (key_types specs) all)

pub count_of_first : (n : ℕ) (specs : List KeySpec) → n ≤ length specs → length (key_types (take n specs)) ≡ n
count_of_first n specs le = length-map (take n specs) (λ s. s.ctype) ∙ length-take-le n specs le
