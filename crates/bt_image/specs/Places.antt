-- What the place of an item on its page asks of it: told of all items of a page by two things that stand in its special
-- space.
use Rattle.std.specs.Prelude.{ℕ, List, nat_le}
use Rattle.bt_meta.specs.Flags.{is_leaf}
use Rattle.bt_meta.specs.Pages.{opaque_of}
use Rattle.bt_image.specs.declared.places.ItemPlace.{ItemPlace}
use Rattle.bt_image.specs.declared.places.ItemPlaces.{ItemPlaces}
use Rattle.bt_image.specs.Image.{first_data, spot_of}
use Rattle.bt_image.specs.Pages.{first_compared}

-- where the data items of a page begin, and whether they are a leaf's
abbrev pub places_of : List ℕ → ItemPlaces
places_of page = record { first = first_data page; is_leaf = is_leaf (opaque_of page) }

-- item i of a page
abbrev pub place_of : List ℕ → (i : ℕ) → ItemPlace
place_of page i = record { number = i; spot = spot_of page i; is_compared = nat_le (first_compared page) i }
