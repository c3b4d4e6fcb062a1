use Rattle.laws_search.specs.Search.{search_start}
use Rattle.laws_back_search.proofs.Steps.{goes_back}
use Rattle.laws_back_search.proofs.Whole.{finds_reverse}
use Rattle.key_orders.specs.Scans.{order_of}
use Rattle.bt_levels.specs.Sound.{image_of, specs_of}
use Rattle.bt_steps.specs.Pages.{is_killed}
use Rattle.bt_search.specs.Spots.{rest_from, scan_on}
use Rattle.bt_search.specs.Items.{back_on}
use Rattle.back_scan.proofs.laws.back_searches_go_in_steps.Goals as goal

pub returns : goal.returns
returns c names sound bounds holds =
    let x = image_of names sound in
    let order = order_of (specs_of sound) in
    let scan = scan_on sound bounds in
    let back = back_on sound bounds in
    let laws = c.keys_are_searchable.ensures.order (specs_of sound) in
    let quiet = c.sound_trees_are_searchable.ensures names sound holds in
    let turns = c.keys_are_searchable.ensures.back (specs_of sound) bounds in
    let forward = c.searches_go_in_steps.ensures names sound bounds holds in
    record {
      some = rest_from names sound bounds (search_start x);
      wanted = forward.wanted;
      answers = λ es wanted. finds_reverse order x laws quiet is_killed scan back turns es wanted;
      steps = λ es wanted. goes_back order x laws quiet is_killed scan back turns es wanted;
    }
