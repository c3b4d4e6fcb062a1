-- The numbers in a part of a page that was read alone.
use Rattle.std.proofs.Common.{◌≡◌, ℕ, Bool, ◌+◌, ◌-◌, ◌≤◌, List, take, drop, ap, ◌∙◌, arith}
use Rattle.std.proofs.lemmas.List.{drop-drop, drop-take}
use Rattle.byteorder.specs.Endian.{little_number}
use Rattle.byteorder.specs.Numbers.{little_from-take}
use Rattle.page_layout.specs.Page.{lower_of, u16_at, u32_at, upper_of}
use Rattle.bt_meta.specs.declared.records.Opaque.{Opaque}
use Rattle.bt_meta.specs.Pages.{is_idle, opaque_of}
use Rattle.bt_pages.specs.declared.glance.Glance.{Glance}
use Rattle.bt_pages.specs.Trees.{glance_of, is_idle_by}

number-part : (k : ℕ) (page : List ℕ) (from n at : ℕ) → at + k ≤ n → little_number k (drop at (take n (drop from page))) ≡ little_number k (drop (from + at) page)
number-part k page from n at within =
    ap (λ (m : ℕ). little_number k (drop at (take m (drop from page)))) whole
    ∙ ap (little_number k) (drop-take at (n - at) (drop from page))
    ∙ little_from-take 0 k (n - at) (drop at (drop from page)) (omega arith)
    ∙ ap (little_number k) (drop-drop at from page)
  where
    whole : n ≡ at + (n - at)
    whole = omega arith

pub u16_at-part : (page : List ℕ) (from n at : ℕ) → at + 2 ≤ n → u16_at (take n (drop from page)) at ≡ u16_at page (from + at)
unfolding u16_at
u16_at-part page from n at within = number-part 2 page from n at within

pub u32_at-part : (page : List ℕ) (from n at : ℕ) → at + 4 ≤ n → u32_at (take n (drop from page)) at ≡ u32_at page (from + at)
unfolding u32_at
u32_at-part page from n at within = number-part 4 page from n at within

-- what is read of a page, by the bytes of its header and by its special space
pub glance_is : (page header : List ℕ) (lower upper : ℕ) (special : Opaque) (idle : Bool) → header ≡ take 24 (drop 0 page) → special ≡ opaque_of page
    → lower ≡ u16_at header 12 → upper ≡ u16_at header 14 → idle ≡ is_idle_by lower upper special
    → ◌≡◌ {A = Glance} (record { idle = idle; special = special }) (glance_of page)
unfolding is_idle
glance_is page header lower upper special idle read is low up test =
    let low_is : lower ≡ lower_of page = low ∙ ap (λ b. u16_at b 12) read ∙ u16_at-part page 0 24 12 (omega arith) in
    let up_is : upper ≡ upper_of page = up ∙ ap (λ b. u16_at b 14) read ∙ u16_at-part page 0 24 14 (omega arith) in
    let idle_is : idle ≡ is_idle_by (lower_of page) (upper_of page) (opaque_of page) =
    test ∙ (λ i. is_idle_by (low_is i) (up_is i) (is i)) in
    λ i. record { idle = idle_is i; special = is i }
