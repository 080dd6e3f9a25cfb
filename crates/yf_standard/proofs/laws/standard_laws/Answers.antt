use Rattle.yf_standard.proofs.LawsHold.{streams_are_standard, standard_streams_are_derived, refused_streams_are_none, restrict, read_texts_are_standard, forbidden_lines_are_standard}
use Rattle.yf_standard.proofs.AcceptanceHolds.{faults_tell_of_the_standard, standard_streams_mean_one, standard_texts_are_read}
use Rattle.yf_standard.proofs.laws.standard_laws.Goals as goal

pub returns-clause-accepted : goal.returns-clause-accepted
returns-clause-accepted c = streams_are_standard

pub returns-clause-derived : goal.returns-clause-derived
returns-clause-derived c = standard_streams_are_derived

pub returns-clause-refused : goal.returns-clause-refused
returns-clause-refused c = refused_streams_are_none

pub returns-clause-restrict : goal.returns-clause-restrict
returns-clause-restrict c = restrict

pub returns-clause-read : goal.returns-clause-read
returns-clause-read c = read_texts_are_standard

pub returns-clause-forbidden : goal.returns-clause-forbidden
returns-clause-forbidden c = forbidden_lines_are_standard

pub returns-clause-means : goal.returns-clause-means
returns-clause-means c = standard_streams_mean_one

pub returns-clause-texts : goal.returns-clause-texts
returns-clause-texts c = standard_texts_are_read

pub returns-clause-faults : goal.returns-clause-faults
returns-clause-faults c = faults_tell_of_the_standard
