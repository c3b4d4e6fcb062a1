-- Blocks of one segment that follow one another.
use Rattle.std.proofs.Common.{◌≡◌, ℕ, ◌+◌, ◌-◌, ◌*◌, ◌/◌, ◌%◌, ◌<◌, ◌≤◌, List, length, ◌++◌, take, drop, refl, sym, ap, ◌∙◌, subst, arith}
use Rattle.std.specs.Prelude.{Option, Some, None, IsSomeAnd}
use Rattle.std.proofs.lemmas.List.{drop-drop, take-take, take_at}
use Rattle.std.proofs.lemmas.Nat.{div-add-mod', div-mul-add, mod-mul-add}
use Rattle.outside.specs.Outside.{Names}
use Rattle.outside.specs.declared.files.Part.TheVariants.{Segment}
use Rattle.rel_files.specs.Ahead.{page_at}
use Rattle.rel_files.specs.Blocks.{block_in, block_of, front_blocks_of}
use Rattle.rel_files.proofs.Held.{attached_held, take-part}

-- a block of the run stands in the segment of the first, so many blocks after it
place_of : (size b k : ℕ) → b + k ≡ b / size * size + (b % size + k)
place_of size b k = omega (arith, div-add-mod' b size)

same_segment : (size b k : ℕ) → b % size + k < size → (b + k) / size ≡ b / size
same_segment size b k within = ap (λ (n : ℕ). n / size) (place_of size b k) ∙ div-mul-add (b / size) size (b % size + k) within

same_place : (size b k : ℕ) → b % size + k < size → (b + k) % size ≡ b % size + k
same_place size b k within = ap (λ (n : ℕ). n % size) (place_of size b k) ∙ mod-mul-add (b / size) size (b % size + k) within

-- where the last of them is held, all are
all_held : (file : Option (List ℕ)) (p n : ℕ) → 1 ≤ n → IsSomeAnd file (λ bytes. 8192 * (p + (n - 1)) + 8192 ≤ length bytes) → IsSomeAnd file (λ bytes. 8192 * p + 8192 * n ≤ length bytes)
all_held None p n some held = held
all_held (Some bytes) p n some held = omega (arith, some, held)

pub run_held : (names : Names) (base : List ℕ) (size limit count b n : ℕ) → 1 ≤ size → count ≡ front_blocks_of names base size limit → 1 ≤ n → b + n ≤ count → b % size + n ≤ size
    → IsSomeAnd (names base (Segment (b / size))) (λ bytes. 8192 * (b % size) + 8192 * n ≤ length bytes)
run_held names base size limit count b n some is more inside together =
    let within : b % size + (n - 1) < size = omega arith in
    let last = attached_held names base size limit count (b + (n - 1)) some is (omega arith) in
    let here = subst (λ (s : ℕ). IsSomeAnd (names base (Segment s)) (λ bytes. 8192 * ((b + (n - 1)) % size) + 8192 ≤ length bytes)) (same_segment size b (n - 1) within) last in
    all_held (names base (Segment (b / size))) (b % size) n more
    (subst (λ (p : ℕ). IsSomeAnd (names base (Segment (b / size))) (λ bytes. 8192 * p + 8192 ≤ length bytes)) (same_place size b (n - 1) within) here)

-- each page that was read of a held file is its block
page_read : (file : Option (List ℕ)) (p n k len : ℕ) (out : List ℕ) → k < n → len ≡ 8192 * n → IsSomeAnd file (λ bytes. 8192 * p + 8192 * n ≤ length bytes)
    → ((bytes : List ℕ) → file ≡ Some bytes → out ≡ take len (drop (8192 * p) bytes)) → page_at out k ≡ block_in file (p + k)
unfolding page_at
page_read None p n k len out lt room held reads = absurd held
page_read (Some bytes) p n k len out lt room held reads =
    let within : 8192 * k + 8192 ≤ len = omega arith in
    let place : 8192 * p + 8192 * k ≡ 8192 * (p + k) = omega arith in
    ap (λ (xs : List ℕ). take 8192 (drop (8192 * k) xs)) (reads bytes refl)
    ∙ take-part (drop (8192 * p) bytes) len (8192 * k) 8192 within
    ∙ ap (take 8192) (drop-drop (8192 * k) (8192 * p) bytes)
    ∙ ap (λ (m : ℕ). take 8192 (drop m bytes)) place

pub run_gives : (names : Names) (base : List ℕ) (size b n k len : ℕ) (out : List ℕ) → b % size + n ≤ size → k < n → len ≡ 8192 * n
    → IsSomeAnd (names base (Segment (b / size))) (λ bytes. 8192 * (b % size) + 8192 * n ≤ length bytes)
    → ((bytes : List ℕ) → names base (Segment (b / size)) ≡ Some bytes → out ≡ take len (drop (8192 * (b % size)) bytes))
    → page_at out k ≡ block_of names base size (b + k)
unfolding block_of
run_gives names base size b n k len out together lt room held reads =
    let within : b % size + k < size = omega arith in
    page_read (names base (Segment (b / size))) (b % size) n k len out lt room held reads
    ∙ ap (λ (p : ℕ). block_in (names base (Segment (b / size))) p) (sym (same_place size b k within))
    ∙ ap (λ (s : ℕ). block_in (names base (Segment s)) ((b + k) % size)) (sym (same_segment size b k within))

-- what stands behind the pages that were read is none of them
page_kept : (out rest : List ℕ) (n k : ℕ) → length out ≡ 8192 * n → k < n → page_at (out ++ rest) k ≡ page_at out k
unfolding page_at
page_kept out rest n k long lt =
    let within : 8192 * k + 8192 ≤ 8192 * n = omega arith in
    sym (take-part (out ++ rest) (8192 * n) (8192 * k) 8192 within)
    ∙ ap (λ (xs : List ℕ). take 8192 (drop (8192 * k) xs)) (take_at out rest (8192 * n) long)

-- the page of each block of the run
pub run_in_hand : (out rest : List ℕ) (n first b : ℕ) (of : ℕ → List ℕ) → length out ≡ 8192 * n → ((k : ℕ) → k < n → page_at out k ≡ of (first + k)) → first ≤ b → b < first + n
    → page_at (out ++ rest) (b - first) ≡ of b
run_in_hand out rest n first b of long are from before =
    let lt : b - first < n = omega arith in
    let place : first + (b - first) ≡ b = omega arith in
    page_kept out rest n (b - first) long lt ∙ are (b - first) lt ∙ ap of place

-- a page that is lent, from its place on
pub lent_page : (bytes page : List ℕ) (at len k : ℕ) → 8192 ≤ len → at ≡ k * 8192 → page ≡ take 8192 (take len (drop at bytes)) → page ≡ page_at bytes k
unfolding page_at
lent_page bytes page at len k within place is =
    let same : at ≡ 8192 * k = omega arith in
    is ∙ take-take 8192 len (drop at bytes) within ∙ ap (λ (m : ℕ). take 8192 (drop m bytes)) same
