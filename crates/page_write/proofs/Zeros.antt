-- Bytes that are 0, and what is written among them.
use Rattle.std.proofs.Common.{◌≡◌, ◌≤◌, ◌+◌, ◌-◌, ℕ, List, ◌++◌, drop, length, take, ap, sym, ◌∙◌, arith, append_assoc}
use Rattle.std.proofs.Math.Seq.{drop-append_seam, drop-append-add, take-append_seam}
use Rattle.std.proofs.lemmas.List.{length-append, length-replicate, replicate-append-replicate}
use Rattle.page_layout.specs.Writes.{with_bytes}
use Rattle.page_layout.proofs.Writing.{write_next}
use Rattle.page_write.specs.Pages.{zeros}

pub length_zeros : (n : ℕ) → length (zeros n) ≡ n
unfolding zeros
length_zeros n = length-replicate n 0

pub zeros_join : (m n : ℕ) → zeros m ++ zeros n ≡ zeros (m + n)
unfolding zeros
zeros_join m n = replicate-append-replicate m n 0

-- bytes that are written in the place of others
pub written : (front old new back : List ℕ) (at : ℕ) → at ≡ length front → length new ≡ length old
    → with_bytes (front ++ old ++ back) at new ≡ front ++ new ++ back
unfolding with_bytes
written front old new back at e same =
    let whole : front ++ old ++ back ≡ front ++ (old ++ back) = append_assoc front old back in
    let kept : take at (front ++ old ++ back) ≡ front =
    ap (take at) whole ∙ ap (λ n. take n (front ++ (old ++ back))) e ∙ take-append_seam front (old ++ back) in
    let n : at + length new ≡ length front + length old = omega (arith, e, same) in
    let left : drop (at + length new) (front ++ old ++ back) ≡ back =
    ap (λ (k : ℕ). drop k (front ++ old ++ back)) n ∙ ap (drop (length front + length old)) whole
    ∙ drop-append-add front (old ++ back) (length old) ∙ drop-append_seam old back in
    ap (λ (z : List ℕ). z ++ new ++ drop (at + length new) (front ++ old ++ back)) kept
    ∙ ap (λ (z : List ℕ). front ++ new ++ z) left

regroup : (a b c d e : List ℕ) → a ++ (b ++ c ++ d) ++ e ≡ a ++ b ++ c ++ (d ++ e)
regroup a b c d e = simp append_assoc

-- three runs of zeros
split_zeros : (m p k : ℕ) → m + p ≤ k → zeros k ≡ zeros m ++ zeros p ++ zeros (k - m - p)
split_zeros m p k fits =
    let one : zeros m ++ zeros p ≡ zeros (m + p) = zeros_join m p in
    sym (ap (λ (z : List ℕ). z ++ zeros (k - m - p)) one ∙ zeros_join (m + p) (k - m - p)
    ∙ ap zeros (omega arith))

-- bytes that are written among zeros
pub written_in_zeros : (front back piece : List ℕ) (m k at : ℕ) → at ≡ length front + m → m + length piece ≤ k
    → with_bytes (front ++ zeros k ++ back) at piece ≡ front ++ zeros m ++ piece ++ (zeros (k - m - length piece) ++ back)
written_in_zeros front back piece m k at e fits =
    let p = length piece in
    let q = k - m - p in
    let f : List ℕ = front ++ zeros m in
    let b : List ℕ = zeros q ++ back in
    let whole : front ++ zeros k ++ back ≡ f ++ zeros p ++ b =
    ap (λ (z : List ℕ). front ++ z ++ back) (split_zeros m p k fits)
    ∙ regroup front (zeros m) (zeros p) (zeros q) back in
    let there : at ≡ length f = let a = length-append front (zeros m) in let z = length_zeros m in omega (arith, e, a, z) in
    ap (λ (z : List ℕ). with_bytes z at piece) whole ∙ written f (zeros p) piece b at there (sym (length_zeros p))

-- a piece written beside those that stand already
pub beside : (page : List ℕ) (at : ℕ) (size : length page ≡ 8192) (one front back two : List ℕ) (next : ℕ)
    → one ≡ with_bytes page at front → two ≡ with_bytes one next back → next ≡ at + length front → next + length back ≤ 8192
    → two ≡ with_bytes page at (front ++ back)
beside page at size one front back two next e f len fits =
    f ∙ ap (λ (bytes : List ℕ). with_bytes bytes next back) e ∙ write_next page front back at next (omega (arith, size, len, fits)) len
