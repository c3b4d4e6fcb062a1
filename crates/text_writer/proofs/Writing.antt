-- Bytes that are put behind others in a buffer.
use Rattle.std.proofs.Common.{◌≡◌, ℕ, ◌+◌, ◌≤◌, List, ◌++◌, length, take, drop, refl, sym, ap, subst, ◌∙◌, arith, take-add, take_at}
use Rattle.std.proofs.lemmas.Slice.{take-put_mid}
use borrow.Rule.Slice.PartMut.{put_mid}

-- what stands before a place is left, and so much more stands there
pub put_behind : (old new more rest : List ℕ) (at start end : ℕ) → start ≡ at → at + length more ≡ end → take start new ≡ take start old
    → drop start new ≡ more ++ rest → take end new ≡ take at old ++ more
put_behind old new more rest at start end is long before written =
    let e : end ≡ at + length more = omega arith in
    ap (λ (n : ℕ). take n new) e ∙ take-add at (length more) new
    ∙ ap (λ (r : List ℕ). take at new ++ take (length more) r) (subst (λ (k : ℕ). drop k new ≡ more ++ rest) is written)
    ∙ ap (λ (r : List ℕ). take at new ++ r) (take_at more rest (length more) refl)
    ∙ ap (λ (r : List ℕ). r ++ more) (subst (λ (k : ℕ). take k new ≡ take k old) is before)

-- a part is put there
pub part_behind : (at k : ℕ) (xs piece part : List ℕ) (end : ℕ) → part ≡ piece → end ≡ at + length piece → at ≤ length xs
    → take end (put_mid at k xs part) ≡ take at xs ++ piece
part_behind at k xs piece part end e n within =
    take-put_mid at k xs part end (n ∙ ap (λ (p : List ℕ). at + length p) (sym e)) within ∙ ap (λ (p : List ℕ). take at xs ++ p) e
