-- A column of an index tuple that is found by the least that tells it.
use Rattle.std.proofs.Common.{◌≡◌, ◌+◌, ◌-◌, ◌<◌, ◌≤◌, ◌++◌, ◌∷◌, ℕ, suc, List, [], drop, get_or, take, length, refl, sym, ap, subst, ◌∙◌, arith, add-one, drop-cons, take-append-drop}
use Rattle.std.specs.Prelude.{None, Ok, true}
use Rattle.std.proofs.lemmas.List.{length-append, length-drop, length-take-le}
use Rattle.key_orders.specs.declared.columns.ColType.{ColType}
use Rattle.key_orders.specs.declared.columns.ColType.TheVariants.{Bool as BoolType}
use Rattle.key_orders.specs.declared.columns.KeySpec.{KeySpec}
use Rattle.key_orders.specs.declared.columns.Value.{Value}
use Rattle.key_orders.specs.declared.more.MoreSpec.{MoreSpec}
use Rattle.key_orders.specs.Orders.{fits_type}
use Rattle.varlena_attrs.specs.declared.forms.Found.{Found}
use Rattle.varlena_attrs.specs.declared.places.AttrPlace.TheVariants as at
use Rattle.key_orders.specs.Types.{HasAlignment}
use Rattle.varlena_attrs.specs.Attributes.{Presence, Stored, is_null, presence_of}
use Rattle.varlena_attrs.specs.Forms.{Plain}
use Rattle.key_attrs.specs.FirstValues.{BeginsPlainKey, BeginsSoFar}
use Rattle.key_attrs.specs.Keyed.{InlineStep, attribute_value, inline_step, is_packed, key_types, more_types, read_inline}
use Rattle.key_attrs.specs.KeyedShown.{HasPlainLength, packed_here, told_after}
use Rattle.varlena_attrs.specs.Reading.{attribute_at, stored_at}
use Rattle.varlena_attrs.specs.Shown.{shown_at}
use Rattle.varlena_attrs.proofs.Ends.{stored_there}
use Rattle.key_attrs.proofs.Keying.{count_of_types, fits_push, all_types-key, key_types-drop, all_types-more, past_column, plain_fits, told_last, told_none}

-- the bytes of a value that is found so are as many as its type asks for
pub long_there : (ctype : ColType) (body : List ℕ) (place start len : ℕ) (found : Found) → HasAlignment ctype → start + len ≤ length body → stored_at ctype body place ≡ Ok (Plain (take len (drop start body)), start + len) → found ≡ record { place = at.Plain start len; next = start + len } → HasPlainLength ctype found.place
long_there ctype body place start len found known within step is =
    subst (λ (f : Found). HasPlainLength ctype f.place) (sym is)
    (plain_fits Stored ctype body place (start + len) (at.Plain start len) known within (sym step))

-- a column of a tuple without null bits is there
there : (natts k : ℕ) → k < natts → presence_of None natts k ≡ Stored
unfolding is_null
there natts k lt = stored_there None natts k lt refl

pub step_there : (ctype : ColType) (natts k : ℕ) (body : List ℕ) (place start len : ℕ) (found : Found) → k < natts → stored_at ctype body place ≡ Ok (Plain (take len (drop start body)), start + len) → found ≡ record { place = at.Plain start len; next = start + len }
    → ◌≡◌ {A = InlineStep} (Ok (shown_at body found.place, found.next)) (inline_step (k + 1) (attribute_at (presence_of None natts k) ctype body place))
step_there ctype natts k body place start len found lt step is =
    ap (λ (f : Found). Ok (shown_at body f.place, f.next)) is
    ∙ sym (ap (λ (p : Presence). inline_step (k + 1) (attribute_at p ctype body place)) (there natts k lt)
    ∙ ap (inline_step (k + 1)) step)

pub none_packed : (found : Found) (start len column : ℕ) (body : List ℕ) → found ≡ record { place = at.Plain start len; next = start + len } → None ≡ packed_here (is_packed (shown_at body found.place)) column
none_packed found start len column body is = rw is refl

-- the value that is found so, with those before it
pub told_next : (types : List ColType) (d : ColType) (body : List ℕ) (k place start len : ℕ) (values : List Value) (v : Value) (found : Found) → k < length types
    → stored_at (get_or types k d) body place ≡ Ok (Plain (take len (drop start body)), start + len) → found ≡ record { place = at.Plain start len; next = start + len } → v ≡ attribute_value (get_or types k d) (shown_at body found.place)
    → told_after values None k (drop k types) (read_inline (drop k types) None (length types) body k place)
    ≡ told_after (values ++ v ∷ []) None (k + 1) (drop (k + 1) types) (read_inline (drop (k + 1) types) None (length types) body (k + 1) found.next)
told_next types d body k place start len values v found lt step is value =
    let ctype = get_or types k d in
    let rest = drop (k + 1) types in
    ap (λ (ts : List ColType). told_after values None k ts (read_inline ts None (length types) body k place)) (drop-cons types k d lt ∙ ap (λ (m : ℕ). ctype ∷ drop m types) (sym (add-one k)))
    ∙ past_column values None k ctype rest None (length types) body place found.next (shown_at body found.place) v None (step_there ctype (length types) k body place start len found lt step is) value (none_packed found start len (k + 1) body is)

-- the same of the columns of a key
pub told_there : (specs : List KeySpec) (e : KeySpec) (body : List ℕ) (k place start len : ℕ) (values : List Value) (v : Value) (found : Found) → k < length specs
    → stored_at (get_or specs k e).ctype body place ≡ Ok (Plain (take len (drop start body)), start + len) → found ≡ record { place = at.Plain start len; next = start + len } → v ≡ attribute_value (get_or specs k e).ctype (shown_at body found.place)
    → told_after values None k (key_types (drop k specs)) (read_inline (key_types (drop k specs)) None (length specs) body k place)
    ≡ told_after (values ++ v ∷ []) None (k + 1) (key_types (drop (k + 1) specs)) (read_inline (key_types (drop (k + 1) specs)) None (length specs) body (k + 1) found.next)
told_there specs e body k place start len values v found lt step is value =
    let ctype = (get_or specs k e).ctype in
    let rest = key_types (drop (k + 1) specs) in
    ap (λ (ts : List ColType). told_after values None k ts (read_inline ts None (length specs) body k place)) (key_types-drop specs k e lt)
    ∙ past_column values None k ctype rest None (length specs) body place found.next (shown_at body found.place) v None (step_there ctype (length specs) k body place start len found lt step is) value (none_packed found start len (k + 1) body is)

-- THE FIRST VALUE

-- one column more
begins_past : (types : List ColType) (d : ColType) (body : List ℕ) (k place start len : ℕ) (v : Value) → k < length types → BeginsSoFar types body k place v
    → stored_at (get_or types k d) body place ≡ Ok (Plain (take len (drop start body)), start + len) → BeginsSoFar types body (k + 1) (start + len) v
begins_past types d body k place start len v lt so step =
    let found : Found = record { place = at.Plain start len; next = start + len } in
    let w : Value = attribute_value (get_or types k d) (shown_at body found.place) in
    record {
      rest = so.rest ++ w ∷ [];
      told = so.told ∙ told_next types d body k place start len (v ∷ so.rest) w found lt step refl refl;
      count = length-append (v ∷ so.rest) (w ∷ []) ∙ ap (λ (n : ℕ). n + 1) so.count;
    }

module _ (specs : List KeySpec) (more : List MoreSpec) (body : List ℕ) where
  abbrev types : List ColType
  types = key_types specs ++ more_types more

  how_many : length types ≡ length specs + length more
  how_many = count_of_types specs more

  abbrev IsFound : ColType → (place start len : ℕ) → Type 0
  IsFound ctype place start len = stored_at ctype body place ≡ Ok (Plain (take len (drop start body)), start + len)

  pub begins_first : (e : KeySpec) (start len : ℕ) (v : Value) (found : Found) → 0 < length specs
      → IsFound (get_or specs 0 e).ctype 0 start len → found ≡ record { place = at.Plain start len; next = start + len } → v ≡ attribute_value (get_or specs 0 e).ctype (shown_at body found.place)
      → BeginsSoFar types body 1 found.next v
  begins_first e start len v found some step is value =
      let here : (get_or specs 0 e).ctype ≡ get_or types 0 BoolType = sym (all_types-key specs more 0 e BoolType some) in
      record {
        rest = [];
        told =
            sym (told_none types (length types) body None refl)
            ∙ told_next types BoolType body 0 0 start len [] v found (omega (arith, some, how_many)) (subst (λ (t : ColType). IsFound t 0 start len) here step) is (subst (λ (t : ColType). v ≡ attribute_value t (shown_at body found.place)) here value);
        count = refl;
      }

  pub begins_key : (e : KeySpec) (k place start len : ℕ) (v : Value) → k < length specs → BeginsSoFar types body k place v → IsFound (get_or specs k e).ctype place start len → BeginsSoFar types body (k + 1) (start + len) v
  begins_key e k place start len v lt so step =
      begins_past types BoolType body k place start len v (omega (arith, lt, how_many)) so
      (subst (λ (t : ColType). IsFound t place start len) (sym (all_types-key specs more k e BoolType lt)) step)

  -- and so of included column k
  pub begins_more : (e : MoreSpec) (k place start len : ℕ) (v : Value) → k < length more → BeginsSoFar types body (length specs + k) place v → IsFound (get_or more k e).ctype place start len → BeginsSoFar types body (length specs + (k + 1)) (start + len) v
  begins_more e k place start len v lt so step =
      let next : length specs + k + 1 ≡ length specs + (k + 1) = omega arith in
      subst (λ (n : ℕ). BeginsSoFar types body n (start + len) v) next
      (begins_past types BoolType body (length specs + k) place start len v (omega (arith, lt, how_many)) so
      (subst (λ (t : ColType). IsFound t place start len) (sym (all_types-more specs more k e BoolType lt)) step))

  -- all of them
  pub begins_all : (e : KeySpec) (k place : ℕ) (v : Value) → BeginsSoFar types body (length specs + k) place v → length more ≤ k → k ≤ length more → 0 < length specs → fits_type (get_or specs 0 e).ctype v ≡ true → BeginsPlainKey specs more body v
  begins_all e k place v so end within some fits =
      let long : suc (length so.rest) ≡ length specs + k = so.count in
      let key : length (take (length specs - 1) so.rest) ≡ length specs - 1 = length-take-le (length specs - 1) so.rest (omega (arith, long, some)) in
      record {
        rest = take (length specs - 1) so.rest;
        included = drop (length specs - 1) so.rest;
        told =
            so.told
            ∙ told_last types body (v ∷ so.rest) (length specs + k) place (omega (arith, end, how_many))
            ∙ ap (λ (vs : List Value). Ok (v ∷ vs)) (sym (take-append-drop (length specs - 1) so.rest));
        key_count = ap suc key ∙ omega (arith, some);
        included_count = length-drop (length specs - 1) so.rest ∙ omega (arith, long, some, end, within);
        fits = fits_push specs [] v e 0 refl some refl fits;
      }
