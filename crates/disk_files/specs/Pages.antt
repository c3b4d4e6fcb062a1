-- The pages of a file of a log that are kept.
use Rattle.std.specs.Prelude.{ℕ, List, [], map, slice_index_or}
use Rattle.disk_files.specs.declared.opened.KeptPages.{KeptPages}

-- the bytes of the page with this number, none where it isn't kept
abbrev pub kept_page : KeptPages → ℕ → List ℕ
kept_page kept number = slice_index_or (map (λ page. page.items) kept.pages.items) number []
