-- What is read of a vector is what it has.
use Rattle.std.proofs.Common.{◌≡◌, ℕ, ◌+◌, ◌*◌, ◌==◌, ◌&&◌, nat_le, ℤ, List, length, map, Bool, true, Some, None, refl, sym, ◌∙◌, ap, arith}
use Rattle.std.proofs.Common.{get_or, slice_get, if◌then◌else◌, EachIndex, ◌↔◌, false, pos}
use Rattle.std.proofs.lemmas.Bool.{and_from, and_parts, eq-eqb, eqb-true, le-leb, leb-true, cond-true}
use Rattle.std.proofs.lemmas.List.FromFn.{fill_by_all, get_or-map-range_with_len, length-map-range_with_len}
use Rattle.std.proofs.lemmas.Option.{slice_get-get_or, get_or_from_slice_get}
use Rattle.std.specs.List.{range_with_len}
use Rattle.page_layout.specs.Page.{u32_at}
use Rattle.catalog_rows.specs.Arrays.{IsArray, IsInt2Vector, IsOidVector, int2_in, int2_oid, int2s_in, is_array, is_vector, oid_in, oid_oid, oids_in, stated_count}

pub array_is : (content : List ℕ) (t n first : ℕ) → is_array content t first ≡ true → stated_count content ≡ n → IsArray content t n first
unfolding is_array stated_count
array_is content t n first ok counted =
    let d = and_parts (nat_le 20 (length content) && u32_at content 0 == 1 && u32_at content 4 == 0 && u32_at content 8 == t) (u32_at content 16 == first) ok in
    let c = and_parts (nat_le 20 (length content) && u32_at content 0 == 1 && u32_at content 4 == 0) (u32_at content 8 == t) d.0 in
    let b = and_parts (nat_le 20 (length content) && u32_at content 0 == 1) (u32_at content 4 == 0) c.0 in
    let a = and_parts (nat_le 20 (length content)) (u32_at content 0 == 1) b.0 in
    record {
      room = leb-true 20 (length content) a.0;
      dimensions = eqb-true _ _ a.1;
      nulls = eqb-true _ _ b.1;
      type_oid = eqb-true _ _ c.1;
      elements = counted;
      numbered = eqb-true _ _ d.1;
    }

pub array_test : (content : List ℕ) (t n first : ℕ) → IsArray content t n first → is_array content t first ≡ true
unfolding is_array
array_test content t n first a =
    and_from _ _
    (and_from _ _
    (and_from _ _ (and_from _ _ (le-leb 20 (length content) a.room) (eq-eqb _ _ a.dimensions)) (eq-eqb _ _ a.nulls))
    (eq-eqb _ _ a.type_oid))
    (eq-eqb _ _ a.numbered)

-- what a test lets through
pub let_through : {X : Type 0} (b : Bool) (x y : X) → (if b then Some x else None) ≡ Some y → (b ≡ true) × (x ≡ y)
let_through true x y h = (refl, cc)
let_through false x y h = absurd cc

pub lets_through : {X : Type 0} (b : Bool) (x y : X) → b ≡ true → x ≡ y → (if b then Some x else None) ≡ Some y
lets_through b x y so same = cond-true b (Some x) None so ∙ ap Some same

module _ {X : Type 0} (f : ℕ → X) where
  pub listed : (xs : List X) (n : ℕ) → map f (range_with_len 0 n) ≡ xs → (length xs ≡ n) × EachIndex xs (λ k. slice_get xs k ≡ Some (f k))
  listed xs n e =
      let counted : length xs ≡ n = sym (ap length e) ∙ length-map-range_with_len f 0 n in (
        counted,
        λ k within. slice_get-get_or xs k (f k) within
            ∙ ap Some (sym (ap (λ ys. get_or ys k (f k)) e) ∙ get_or-map-range_with_len f 0 n k k (f k) (omega (arith, within, counted)) (omega arith)),
      )

  pub unlisted : (xs : List X) (n : ℕ) (d : X) → length xs ≡ n → EachIndex xs (λ k. slice_get xs k ≡ Some (f k)) → map f (range_with_len 0 n) ≡ xs
  unlisted xs n d counted each =
      sym (fill_by_all f xs n d counted (λ k within. get_or_from_slice_get xs k (f k) d (each k (omega (arith, within, counted)))))

vector_parts : (content : List ℕ) (t size : ℕ) → is_vector content t size ≡ true → (is_array content t 0 ≡ true) × (length content ≡ 20 + size * stated_count content)
unfolding is_vector
vector_parts content t size h =
    let p = and_parts (is_array content t 0) (length content == 20 + size * stated_count content) h in
    (p.0, eqb-true _ _ p.1)

vector_test : (content : List ℕ) (t size n : ℕ) → IsArray content t n 0 → length content ≡ 20 + size * n → is_vector content t size ≡ true
unfolding is_vector stated_count
vector_test content t size n a ends =
    and_from _ _ (array_test content t n 0 a) (eq-eqb _ _ (ends ∙ ap (λ m. 20 + size * m) (sym a.elements)))

pub counted_in : (content : List ℕ) (t n first : ℕ) → IsArray content t n first → stated_count content ≡ n
unfolding stated_count
counted_in content t n first a = a.elements

pub int2s_law : (content : List ℕ) (numbers : List ℤ) → (int2s_in content ≡ Some numbers) ↔ IsInt2Vector content numbers
unfolding int2s_in int2_in
int2s_law content numbers = (there, back)
  where
    there : int2s_in content ≡ Some numbers → IsInt2Vector content numbers
    there h =
        let p = let_through (is_vector content int2_oid 2) _ numbers h in
        let v = vector_parts content int2_oid 2 p.0 in
        let l = listed (int2_in content) numbers (stated_count content) p.1 in
        record {
          array = array_is content int2_oid (length numbers) 0 v.0 (sym l.0);
          ends = v.1 ∙ ap (λ m. 20 + 2 * m) (sym l.0);
          each = l.1;
        }

    back : IsInt2Vector content numbers → int2s_in content ≡ Some numbers
    back v =
        lets_through (is_vector content int2_oid 2) _ numbers (vector_test content int2_oid 2 (length numbers) v.array v.ends)
        (unlisted (int2_in content) numbers (stated_count content) (pos 0) (sym (counted_in content int2_oid (length numbers) 0 v.array)) v.each)

pub oids_law : (content oids : List ℕ) → (oids_in content ≡ Some oids) ↔ IsOidVector content oids
unfolding oids_in oid_in
oids_law content oids = (there, back)
  where
    there : oids_in content ≡ Some oids → IsOidVector content oids
    there h =
        let p = let_through (is_vector content oid_oid 4) _ oids h in
        let v = vector_parts content oid_oid 4 p.0 in
        let l = listed (oid_in content) oids (stated_count content) p.1 in
        record {
          array = array_is content oid_oid (length oids) 0 v.0 (sym l.0);
          ends = v.1 ∙ ap (λ m. 20 + 4 * m) (sym l.0);
          each = l.1;
        }

    back : IsOidVector content oids → oids_in content ≡ Some oids
    back v =
        lets_through (is_vector content oid_oid 4) _ oids (vector_test content oid_oid 4 (length oids) v.array v.ends)
        (unlisted (oid_in content) oids (stated_count content) 0 (sym (counted_in content oid_oid (length oids) 0 v.array)) v.each)
