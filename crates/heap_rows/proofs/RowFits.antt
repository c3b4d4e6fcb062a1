-- The attributes of a tuple fit the types of its columns.
use Rattle.std.proofs.Common.{◌≡◌, ℕ, suc, ◌+◌, ◌-◌, ◌≤◌, List, [], ◌∷◌, length, drop, All, sym, subst, ◌∙◌, arith}
use Rattle.std.specs.Prelude.{Option, Some, None, Ok}
use Rattle.std.proofs.lemmas.List.{length-take-le, length-drop}
use Rattle.std.proofs.lemmas.List.Elements.{recursion_from_All}
use Rattle.key_orders.specs.declared.columns.ColType.{ColType}
use Rattle.case_file.specs.declared.case.Column.{Column}
use Rattle.varlena_attrs.specs.Attributes.{AttributesFrom, IsAttribute, Presence, Absent, As_null, Stored}
use Rattle.key_orders.specs.Types.{fixed_length}
use Rattle.varlena_attrs.specs.Forms.{Attribute, External, IsStored, Missing, Null, Packed, Plain, bytes_between, fixed, varlena}
use Rattle.key_orders.specs.Types.{HasAlignment}
use Rattle.heap_tuples.specs.Tuples.{attributes_in, body_of, nulls_of}
use Rattle.tuple_head.specs.Head.{natts_of, tuple_head_of}
use Rattle.key_orders.specs.Types.{IsLength}
use Rattle.varlena_attrs.proofs.Law.{read_sound}
use Rattle.heap_rows.specs.declared.row_cells.Cell.{Cell}
use Rattle.heap_rows.specs.RowFits.{FitColumns, FitsColumn}
use Rattle.heap_rows.specs.RowValues.{FitTypes, FitsType}

between_length : (body : List ℕ) (start next len : ℕ) → next ≡ start + len → next ≤ length body → length (bytes_between body start next) ≡ len
between_length body start next len ends within =
    let rest : length (drop start body) ≡ length body - start = length-drop start body in
    length-take-le (next - start) (drop start body) (omega (arith, rest, ends, within)) ∙ omega (arith, ends)

fits_fixed : (c : ColType) (len : ℕ) (content : List ℕ) → fixed_length c ≡ Some len → length content ≡ len → FitsType c (Plain content)
fits_fixed c len content f long = subst (λ (o : Option ℕ). IsLength o (length content)) (sym f) long

fits_varlena : (c : ColType) (a : Attribute) → fixed_length c ≡ None → FitsType c a
fits_varlena c Null f = tt
fits_varlena c Missing f = tt
fits_varlena c (Plain content) f = subst (λ (o : Option ℕ). IsLength o (length content)) (sym f) tt
fits_varlena c (Packed piece) f = f
fits_varlena c (External p) f = f

fits_stored : (c : ColType) (body : List ℕ) (place : ℕ) (a : Attribute) (next : ℕ) → IsStored c body place a next → FitsType c a
fits_stored c body place a next (fixed len start f aligned ends within is) =
    subst (λ (x : Attribute). FitsType c x) (sym is) (fits_fixed c len (bytes_between body start next) f (between_length body start next len ends within))
fits_stored c body place a next (varlena start f begins v) = fits_varlena c a f

pub fits_attribute : (p : Presence) (c : ColType) (body : List ℕ) (place : ℕ) (a : Attribute) (next : ℕ) → IsAttribute p c body place a next → FitsType c a
fits_attribute Absent c body place a next h = subst (λ (x : Attribute). FitsType c x) (sym h.0) tt
fits_attribute As_null c body place a next h = subst (λ (x : Attribute). FitsType c x) (sym h.0) tt
fits_attribute Stored c body place a next h = fits_stored c body place a next h

fits_from : (nulls : Option (List ℕ)) (natts : ℕ) (body : List ℕ) (k : ℕ) (cs : List ColType) (place : ℕ) (list : List Attribute) → AttributesFrom nulls natts body k cs place list → FitTypes cs list
fits_from nulls natts body k [] place [] h = tt
fits_from nulls natts body k (c ∷ cs) place (a ∷ list) h =
    (fits_attribute _ c body place a h.0 h.1, fits_from nulls natts body (suc k) cs h.0 list h.2)
fits_from nulls natts body k [] place (a ∷ list) h = absurd h
fits_from nulls natts body k (c ∷ cs) place [] h = absurd h

pub attributes_fit : (columns : List ColType) (tuple : List ℕ) (list : List Attribute) → All HasAlignment columns → attributes_in columns tuple ≡ Ok list → FitTypes columns list
unfolding attributes_in
attributes_fit columns tuple list aligned is =
    fits_from (nulls_of tuple) (natts_of (tuple_head_of tuple)) (body_of tuple) 0 columns 0 list
    (read_sound columns (nulls_of tuple) (natts_of (tuple_head_of tuple)) (body_of tuple) 0 0 list (recursion_from_All HasAlignment columns aligned) is)

-- Cells

-- the cells so far fit the first columns
abbrev pub FitFirst : List Column → List Cell → Type 0
FitFirst columns [] = Unit {0}
FitFirst (column ∷ columns) (c ∷ cells) = FitsColumn column c × FitFirst columns cells
FitFirst [] (c ∷ cells) = ⊥

pub fit_all : (columns : List Column) (cells : List Cell) → length cells ≡ length columns → FitFirst columns cells → FitColumns columns cells
fit_all [] [] long first = tt
fit_all (column ∷ columns) (c ∷ cells) long first = (first.0, fit_all columns cells (omega (arith, long)) first.1)
fit_all [] (c ∷ cells) long first = first
fit_all (column ∷ columns) [] long first = cc
