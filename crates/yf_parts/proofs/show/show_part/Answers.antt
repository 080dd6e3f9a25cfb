use Rattle.yf_parts.proofs.show.show_part.Goals as goal

pub returns-in-Text-clause-shown : goal.returns-in-Text-clause-shown
returns-in-Text-clause-shown g c = rw c.in-Text.is c.show_text.ensures.shown

pub returns-in-Text-clause-refused : goal.returns-in-Text-clause-refused
returns-in-Text-clause-refused g c = rw c.in-Text.is c.show_text.ensures.refused

pub returns-in-Place-clause-shown : goal.returns-in-Place-clause-shown
returns-in-Place-clause-shown g c = rw c.in-Place.is c.show_place.ensures.shown

pub returns-in-Place-clause-refused : goal.returns-in-Place-clause-refused
returns-in-Place-clause-refused g c = rw c.in-Place.is c.show_place.ensures.refused

pub returns-in-Diff-clause-shown : goal.returns-in-Diff-clause-shown
returns-in-Diff-clause-shown g c = rw c.in-Diff.is c.show_diff.ensures.shown

pub returns-in-Diff-clause-refused : goal.returns-in-Diff-clause-refused
returns-in-Diff-clause-refused g c = rw c.in-Diff.is c.show_diff.ensures.refused
