-- Posting tuples: items of leaves that have one key and several TIDs.
use Rattle.std.specs.Prelude.{◌≢◌, ◌≡◌, ◌≤◌, ℕ, ◌+◌, ◌-◌, ◌*◌, false, List, [], ◌++◌, length, All, None}
use Rattle.std.specs.List.{flat_map}
use Rattle.page_layout.specs.Page.{max_align}
use Rattle.key_orders.specs.declared.Tid.{Tid}
use Rattle.bt_tuples.specs.Rules.{are_not_rising}
use Rattle.page_write.specs.declared.index_tuples.BodyFlags.{BodyFlags}
use Rattle.page_write.specs.Fields.{IsTid}
use Rattle.page_write.specs.Pages.{zeros}
use Rattle.page_write.specs.Tuples.{index_head_bytes, index_size, masks_of, padded_body, tid_bytes}

-- the TIDs, one after the other
abbrev pub list_bytes : List Tid → List ℕ
list_bytes tids = flat_map tid_bytes tids

-- where a list of so many TIDs ends after a body of so many bytes: it begins at `index_size` of the body
abbrev pub list_end : (len tids : ℕ) → ℕ
list_end len tids = index_size len + 6 * tids

-- the bytes of head, body and list: a multiple of 8
abbrev pub posting_size : (len tids : ℕ) → ℕ
posting_size len tids = max_align (list_end len tids)

-- the list after a body of so many bytes, and zeros up to that size
unfoldable pub padded_list : (len : ℕ) → List Tid → List ℕ
padded_list len tids = list_bytes tids ++ zeros (posting_size len (length tids) - list_end len (length tids))

-- the head says where the list begins, and how many TIDs it has (0x2000: the item number is that number)
unfoldable pub posting_tuple : List Tid → BodyFlags → (body : List ℕ) → List ℕ
posting_tuple tids flags body =
    index_head_bytes (index_size (length body)) (0x2000 + length tids)
    (0x2000 + masks_of flags + posting_size (length body) (length tids))
    ++ padded_body body ++ padded_list (length body) tids

-- a head can state so many bytes
abbrev pub HasListRoom : (len tids : ℕ) → Type 0
HasListRoom len tids = list_end len tids ≤ 8184

-- there is a TID, each fits its fields, and they rise with item numbers that aren't 0
pub record IsTidList (tids : List Tid) : Type 0 where
  pub some : tids ≢ []
  pub fit : All IsTid tids
  pub rise : are_not_rising None tids ≡ false
