-- A tuple whose attributes are read one after the other.
use Rattle.std.specs.Prelude.{◌≡◌, ℕ, ◌≤◌, List, length, drop, All, Option, Ok}
use Rattle.key_orders.specs.Types.{HasAlignment}
use Rattle.key_orders.specs.declared.columns.ColType.{ColType}
use Rattle.varlena_attrs.specs.Attributes.{IsAttribute, Presence}
use Rattle.varlena_attrs.specs.Forms.{Attribute}
use Rattle.varlena_attrs.specs.Reading.{Step, attributes_of, read_from}

-- the columns of its table, its body, its null bits, where it has some, and how many columns it stores
pub record TupleParts : Type 0 where
  pub columns : List ColType
  pub body : List ℕ
  pub nulls : Option (List ℕ)
  pub natts : ℕ

-- all its attributes can be read, and are these
abbrev pub AreRead : TupleParts → List Attribute → Type 0
AreRead t list = attributes_of t.columns t.body t.nulls t.natts ≡ Ok list

-- an attribute was found, and the next begins at this place
abbrev pub EndsAt : Step → ℕ → Type 0
EndsAt step next = (a : Attribute) × (step ≡ Ok (a, next))

-- where all can be read, those from this column on are read from this place on
pub record IsReadOn (t : TupleParts) (column place : ℕ) : Type 0 where
  pub alignments : All HasAlignment t.columns
  pub some : column ≤ length t.columns
  pub within : place ≤ length t.body
  pub rest : (list : List Attribute) → AreRead t list
      → read_from (drop column t.columns) t.nulls t.natts t.body column place ≡ Ok (drop column list)

-- a column of this type may have this attribute, from some place of the body on
pub record IsAttributeOf (ctype : ColType) (body : List ℕ) (a : Attribute) : Type 0 where
  pub presence : Presence
  pub place : ℕ
  pub next : ℕ
  pub is : IsAttribute presence ctype body place a next
