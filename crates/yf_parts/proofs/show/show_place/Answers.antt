use Rattle.yf_parts.proofs.ShowLemmas.{no_place, place_broke, some_place}
use Rattle.yf_parts.proofs.show.show_place.Goals as goal

pub returns-in-None-clause-shown : goal.returns-in-None-clause-shown
returns-in-None-clause-shown g c = no_place _ _ _ _ c.in-None.is c.in-Ok.ensures

pub returns-in-Ok-write_difference-clause-shown : goal.returns-in-Ok-write_difference-clause-shown
returns-in-Ok-write_difference-clause-shown g c = some_place _ _ _ _ _ _ c.in-Some.is c.in-Ok.ensures
    c.in-Ok-write_difference.ensures

pub returns-in-Err-write_difference-clause-refused : goal.returns-in-Err-write_difference-clause-refused
returns-in-Err-write_difference-clause-refused g c = place_broke _ _ _ _ _ _ c.in-Some.is c.in-Ok.ensures _ c.in-Err-write_difference.ensures
