-- `placing::place_nodes` meets its contract. Assumes nothing.
use Rattle.placing.proofs.Placing.{thresholds_start, triples_start, start_flooded, thresholds_asked, good_triples, placed_thresholds, placed_triples}
use Rattle.placing.proofs.place_nodes.Goals as goal

pub start_places-requires : goal.start_places-requires
start_places-requires c =
    let both = thresholds_start c.requires.flooded _ c.in-Thresholds.is c.requires.steps_value in
    record { sized = both.0; nodes_le_n = both.1.0; count_le_most_steps = both.1.1 }

pub lower_by-requires : goal.lower_by-requires
lower_by-requires c =
    let both = thresholds_asked (start_flooded c.start_places.ensures c.requires.flooded) _ c.in-Thresholds.is c.requires.steps_value in
    record { flooded = both.0; steps_len_bound = both.1.0; steps_value = both.1.1 }

pub returns-in-Thresholds : goal.returns-in-Thresholds
returns-in-Thresholds c =
    placed_thresholds c.in-Thresholds.is c.start_places.ensures c.requires.flooded c.lower_by.ensures

pub start_places-requires-in-Triples : goal.start_places-requires-in-Triples
start_places-requires-in-Triples c =
    let both = triples_start c.requires.flooded _ c.in-Triples.is c.requires.steps_value in
    record { sized = both.0; nodes_le_n = both.1.0; count_le_most_steps = both.1.1 }

pub lower_by_parts-requires : goal.lower_by_parts-requires
lower_by_parts-requires c =
    record { flooded = start_flooded c.start_places-in-Triples.ensures c.requires.flooded; words_value = good_triples _ c.in-Triples.is c.requires.steps_value }

pub returns-in-Triples : goal.returns-in-Triples
returns-in-Triples c =
    placed_triples c.in-Triples.is c.start_places-in-Triples.ensures c.requires.flooded c.lower_by_parts.ensures
