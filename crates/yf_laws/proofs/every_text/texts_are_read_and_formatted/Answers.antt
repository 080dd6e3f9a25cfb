use Rattle.yf_stream.proofs.HasReading.{well_formed_texts_have_readings}
use Rattle.yf_stream.proofs.LawsHold.{read_texts_have_no_fault, readings_are_one}
use Rattle.yf_standard.proofs.AcceptanceHolds.{faults_tell_of_the_standard, standard_streams_mean_one, standard_texts_are_read}
use Rattle.yf_standard.proofs.LawsHold.{read_texts_are_standard}
use Rattle.yf_laws.proofs.FormattingsAre.{refused_texts_have_no_reading, standard_texts_are_formatted}
use Rattle.yf_laws.proofs.OfTexts.ReadingsOfTexts.{readings_are_of_texts}
use Rattle.yf_laws.proofs.every_text.texts_are_read_and_formatted.Goals as goal

pub returns : goal.returns
returns c = record {
  standard = standard_texts_are_read;
  meant = standard_streams_mean_one;
  letter = read_texts_are_standard;
  told = faults_tell_of_the_standard;
  derived = well_formed_texts_have_readings;
  one = readings_are_one;
  textual = readings_are_of_texts;
  accepted = read_texts_have_no_fault;
  refused = refused_texts_have_no_reading;
  formatted = standard_texts_are_formatted;
}
