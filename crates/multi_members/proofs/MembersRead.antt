-- The members of groups that were read.
use Rattle.std.proofs.Common.{◌≡◌, ℕ, ◌+◌, ◌-◌, ◌*◌, ◌/◌, ◌%◌, ◌<◌, ◌≤◌, List, length, take, get_or, refl, ap, ◌∙◌, arith}
use Rattle.std.specs.Prelude.{Option, Some, None}
use Rattle.std.specs.List.{slice_get}
use Rattle.std.proofs.lemmas.Option.{slice_get-get_or, slice_get_past}
use Rattle.std.proofs.lemmas.List.{get_or-take, length-take}
use Rattle.outside.specs.Outside.{Names}
use Rattle.rel_files.specs.Bytes.{HoldsBytes, slru_byte}
use Rattle.multi_members.specs.Members.{four_bytes, member_by, member_of, u32_held}

-- the number in four bytes of a list
abbrev pub u32_in : List ℕ → ℕ → Option ℕ
u32_in bytes at = four_bytes (slice_get bytes at) (slice_get bytes (at + 1)) (slice_get bytes (at + 2)) (slice_get bytes (at + 3))

four_same : {a b c d a' b' c' d' : Option ℕ} → a ≡ a' → b ≡ b' → c ≡ c' → d ≡ d' → four_bytes a b c d ≡ four_bytes a' b' c' d'
four_same e f g h = λ i. four_bytes (e i) (f i) (g i) (h i)

-- the last of the four bytes is missing
four_short : (a b c : Option ℕ) → four_bytes a b c None ≡ None
four_short None b c = refl
four_short (Some a) None c = refl
four_short (Some a) (Some b) None = refl
four_short (Some a) (Some b) (Some c) = refl

member_short : (status : Option ℕ) → member_by status None ≡ None
member_short None = refl
member_short (Some status) = refl

module _ (bytes : List ℕ) (held : ℕ) where
  -- a byte that is held
  byte_in : (at : ℕ) → held ≤ length bytes → at < held → slice_get (take held bytes) at ≡ Some (get_or bytes at 0)
  byte_in at fits lt =
      slice_get-get_or (take held bytes) at 0 (omega (arith, length-take held bytes)) ∙ ap Some (get_or-take held bytes at 0 lt)

  pub number_in : (at : ℕ) → held ≤ length bytes → at + 4 ≤ held
      → u32_in (take held bytes) at ≡ Some
      (get_or bytes at 0 + get_or bytes (at + 1) 0 * 0x100 + get_or bytes (at + 2) 0 * 0x1_0000 + get_or bytes (at + 3) 0 * 0x100_0000)
  number_in at fits le =
      four_same (byte_in at fits (omega arith)) (byte_in (at + 1) fits (omega arith)) (byte_in (at + 2) fits (omega arith))
      (byte_in (at + 3) fits (omega arith))

  pub number_short : (at : ℕ) → held < at + 4 → u32_in (take held bytes) at ≡ None
  number_short at lt =
      four_same {a' = slice_get (take held bytes) at} {b' = slice_get (take held bytes) (at + 1)} {c' = slice_get (take held bytes) (at + 2)} refl refl refl
      (slice_get_past (take held bytes) (at + 3) (omega (arith, length-take held bytes)))
      ∙ four_short (slice_get (take held bytes) at) (slice_get (take held bytes) (at + 1)) (slice_get (take held bytes) (at + 2))

  -- the member in a list, by the places of its status and of its transaction
  pub member_in : (at place : ℕ) → held ≤ length bytes → at < held → place + 4 ≤ held
      → member_by (slice_get (take held bytes) at) (u32_in (take held bytes) place) ≡ Some
      (record {
        xid = get_or bytes place 0 + get_or bytes (place + 1) 0 * 0x100 + get_or bytes (place + 2) 0 * 0x1_0000 + get_or bytes
            (place + 3) 0 * 0x100_0000;
        status = get_or bytes at 0;
      })
  member_in at place fits lt le =
      let status = byte_in at fits lt in
      let xid = number_in place fits le in
      λ i. member_by (status i) (xid i)

  pub member_past : (at place : ℕ) → held < place + 4 → member_by (slice_get (take held bytes) at) (u32_in (take held bytes) place) ≡ None
  member_past at place lt =
      ap (λ o. member_by (slice_get (take held bytes) at) o) (number_short place lt) ∙ member_short (slice_get (take held bytes) at)

-- a number of four bytes of a page
pub u32_read : (names : Names) (folder : List ℕ) (page offset n : ℕ) (bytes : List ℕ) → HoldsBytes names folder page offset n bytes → 4 ≤ n
    → u32_held names folder page offset ≡ u32_in bytes 0
unfolding u32_held
u32_read names folder page offset n bytes holds le =
    let at : (k : ℕ) → k < n → slru_byte names folder page (offset + k) ≡ slice_get bytes k = holds in
    let first = ap (λ o. slru_byte names folder page o) (let e : offset ≡ offset + 0 = omega arith in e) ∙ at 0 (omega arith) in
    four_same first (at 1 (omega arith)) (at 2 (omega arith)) (at 3 (omega arith))

-- the member of a number, in the groups that were read
pub member_read : (names : Names) (folder : List ℕ) (number first count : ℕ) (bytes : List ℕ)
    → HoldsBytes names folder (first / 409) (first % 409 * 20) (count * 20) bytes → first ≤ number / 4 → number / 4 < first + count → first % 409 + count ≤ 409
    → let group = (number / 4 - first) * 20 in
    member_of names folder number ≡ member_by (slice_get bytes (group + number % 4)) (u32_in bytes (group + 4 + number % 4 * 4))
unfolding member_of u32_held
member_read names folder number first count bytes holds from before within =
    let group = (number / 4 - first) * 20 in
    let place = number / 4 % 409 * 20 in
    let page : number / 1636 ≡ first / 409 = omega arith in
    let start : place ≡ first % 409 * 20 + group = omega arith in
    let at : (o k : ℕ) → o + group ≡ place + k → group ≤ k → k < group + 20 → slru_byte names folder (number / 1636) o ≡ slice_get bytes k = (λ o k e low high.
    let here : o ≡ first % 409 * 20 + k = omega arith in
    (λ i. slru_byte names folder (page i) (here i)) ∙ holds k (omega arith)) in
    let status = at (place + number % 4) (group + number % 4) (omega arith) (omega arith) (omega arith) in
    let a = at (place + 4 + number % 4 * 4) (group + 4 + number % 4 * 4) (omega arith) (omega arith) (omega arith) in
    let b = at (place + 4 + number % 4 * 4 + 1) (group + 4 + number % 4 * 4 + 1) (omega arith) (omega arith) (omega arith) in
    let c = at (place + 4 + number % 4 * 4 + 2) (group + 4 + number % 4 * 4 + 2) (omega arith) (omega arith) (omega arith) in
    let d = at (place + 4 + number % 4 * 4 + 3) (group + 4 + number % 4 * 4 + 3) (omega arith) (omega arith) (omega arith) in
    let xid = four_same a b c d in
    λ i. member_by (status i) (xid i)
