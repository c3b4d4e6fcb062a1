-- What is read as a missing value is the one element of its array.
use Rattle.std.proofs.Common.{◌≡◌, ℕ, ◌-◌, ◌==◌, ◌&&◌, ◌⊎◌, if◌then◌else◌, List, length, drop, Bool, true, false, inl, inr, Option, Some, None}
use Rattle.std.proofs.Common.{Ok, Err, refl, ◌∙◌, ap, subst, ◌↔◌, arith}
use Rattle.std.proofs.lemmas.Bool.{and_from, and_parts, eq-eqb, eqb-true, cond-true}
use Rattle.key_orders.specs.declared.columns.ColType.{ColType}
use Rattle.key_orders.specs.Types.{HasAlignment, alignment_of}
use Rattle.varlena_attrs.specs.Forms.{Attribute, Null, Missing, Plain, Packed, External, IsAligned}
use Rattle.varlena_attrs.specs.Reading.{Step, aligned, stored_at}
use Rattle.varlena_attrs.proofs.Stored.{aligned_is, alignments, stored_complete, stored_sound}
use Rattle.catalog_rows.specs.Arrays.{is_array, stated_count}
use Rattle.catalog_rows.specs.Element.{IsMissing, ending_at, missing_in, plain_bytes}
use Rattle.catalog_rows.proofs.ArrayLaws.{array_is, array_test, counted_in}

aligned_at : (n place start : ℕ) → (n ≡ 1) ⊎ ((n ≡ 2) ⊎ ((n ≡ 4) ⊎ (n ≡ 8))) → IsAligned n place start → aligned n place ≡ start
aligned_at n place start (inl e) h =
    let h1 : IsAligned 1 place start = subst (λ (m : ℕ). IsAligned m place start) e h in rw e (omega (arith, h1.at_least, h1.least, h1.multiple))
aligned_at n place start (inr (inl e)) h =
    let h1 : IsAligned 2 place start = subst (λ (m : ℕ). IsAligned m place start) e h in rw e (omega (arith, h1.at_least, h1.least, h1.multiple))
aligned_at n place start (inr (inr (inl e))) h =
    let h1 : IsAligned 4 place start = subst (λ (m : ℕ). IsAligned m place start) e h in rw e (omega (arith, h1.at_least, h1.least, h1.multiple))
aligned_at n place start (inr (inr (inr e))) h =
    let h1 : IsAligned 8 place start = subst (λ (m : ℕ). IsAligned m place start) e h in rw e (omega (arith, h1.at_least, h1.least, h1.multiple))

-- a value that was read and ends where it should
record IsEnding (alignment end : ℕ) (step : Step) (value : List ℕ) : Type 0 where
  next : ℕ
  read : ◌≡◌ {A = Step} step (Ok (Plain value, next))
  ends : aligned alignment next ≡ end

plain_of : (a : Attribute) (value : List ℕ) → plain_bytes a ≡ Some value → a ≡ Plain value
plain_of Null value h = absurd cc
plain_of Missing value h = absurd cc
plain_of (Plain bytes) value h = ap Plain cc
plain_of (Packed piece) value h = absurd cc
plain_of (External pointer) value h = absurd cc

by_test : (test : Bool) (a : Attribute) (value : List ℕ) → (if test then plain_bytes a else None) ≡ Some value → (test ≡ true) × (a ≡ Plain value)
by_test true a value h = (refl, plain_of a value h)
by_test false a value h = absurd cc

ending_is : (alignment end : ℕ) (step : Step) (value : List ℕ) → ending_at alignment end step ≡ Some value → IsEnding alignment end step value
ending_is alignment end (Ok found) value h =
    let p = by_test (aligned alignment found.1 == end) found.0 value h in
    record { next = found.1; read = ap (λ (a : Attribute). Ok (a, found.1)) p.1; ends = eqb-true _ _ p.0 }
ending_is alignment end (Err cause) value h = absurd cc

ending_read : (alignment end next : ℕ) (value : List ℕ) → aligned alignment next ≡ end → ending_at alignment end (Ok (Plain value, next)) ≡ Some value
ending_read alignment end next value h = cond-true (aligned alignment next == end) (Some value) None (eq-eqb _ _ h)

through : {X : Type 0} (test : Bool) (o : Option X) (x : X) → (if test then o else None) ≡ Some x → (test ≡ true) × (o ≡ Some x)
through true o x h = (refl, h)
through false o x h = absurd cc

module _ (t : ℕ) (ctype : ColType) (content value : List ℕ) (known : HasAlignment ctype) where
  there : missing_in t ctype content ≡ Some value → IsMissing t ctype content value
  unfolding missing_in
  there h =
      let p = through (is_array content t 1 && stated_count content == 1) _ value h in
      let tests = and_parts (is_array content t 1) (stated_count content == 1) p.0 in
      let e = ending_is (alignment_of ctype) (length content - 20) (stored_at ctype (drop 20 content) 0) value p.1 in
      record {
        array = array_is content t 1 1 tests.0 (eqb-true _ _ tests.1);
        next = e.next;
        stored = stored_sound ctype (drop 20 content) 0 (Plain value) e.next known e.read;
        filled = subst (λ end. IsAligned (alignment_of ctype) e.next end) e.ends (aligned_is (alignment_of ctype) e.next (alignments _ known));
      }

  back : IsMissing t ctype content value → missing_in t ctype content ≡ Some value
  unfolding missing_in
  back m =
      cond-true (is_array content t 1 && stated_count content == 1) _ None
      (and_from _ _ (array_test content t 1 1 m.array) (eq-eqb _ _ (counted_in content t 1 1 m.array)))
      ∙ (ap (ending_at (alignment_of ctype) (length content - 20)) (stored_complete ctype (drop 20 content) 0 (Plain value) m.next known m.stored)
      ∙ ending_read (alignment_of ctype) (length content - 20) m.next value (aligned_at _ m.next (length content - 20) (alignments _ known) m.filled))

pub element_law : (t : ℕ) (ctype : ColType) (content value : List ℕ) → HasAlignment ctype → (missing_in t ctype content ≡ Some value) ↔ IsMissing t ctype content value
element_law t ctype content value known = (there t ctype content value known, back t ctype content value known)
