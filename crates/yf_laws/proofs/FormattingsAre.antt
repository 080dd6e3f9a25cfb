-- The statements on a text that has a formatting, and on every text, hold.
use Rattle.std.proofs.Common.{List, ℕ, sym, subst}
use Rattle.std.specs.Str.{IsUtf8}
use Rattle.yf_lines.specs.Lines.{AreLines}
use Rattle.yf_stream.specs.ReadingOf.{ReadingOf}
use Rattle.yf_stream.proofs.LawsHold.{read_texts_have_no_fault, readings_are_the_reading}
use Rattle.yf_stream.proofs.Offsets.NestedStreams.{reading_nests}
use Rattle.yf_standard.specs.Acceptance.{IsStandardText}
use Rattle.yf_standard.proofs.AcceptanceHolds.{reading_is_standard, standard_texts_are_read}
use Rattle.yf_forms.specs.declared.style.Style.{Style}
use Rattle.yf_laws.specs.Format.{IsFormatting}
use Rattle.yf_laws.specs.FormatPromises.{FormatKept}
use Rattle.yf_laws.proofs.FormatKeeps.{format_keeps}
use Rattle.yf_laws.proofs.SameReading.FormatLawsHold.{formats_exist}
use Rattle.yf_laws.proofs.Derived.FormatsRead.{formats_well}
use Rattle.yf_laws.specs.Formattings.{FormattingsHold, RefusedTextsHaveNoReading, StandardTextsAreFormatted}
use Rattle.yf_laws.specs.Mended.{IsMended}
use Rattle.yf_laws.proofs.RulesMended.{rule_mended}

-- a formatted text has no fixable finding
formats_are_mended : (t u : List ℕ) (s : Style) → IsUtf8 t → IsFormatting t s u → IsMended u s
formats_are_mended t u s utf8 formats = λ rule fixable src q same lines reads offsets at.
    rule_mended rule fixable src q s (record {
      source = t;
      utf8 = utf8;
      formats = subst (λ v. IsFormatting t s v) (sym same) formats;
      lines = subst (λ v. AreLines v src.lines) (sym same) lines;
      reads = subst (λ v. ReadingOf v q) (sym same) reads;
    }) offsets at

-- a formatted text is a stream of the standard
formats_are_standard : (t u : List ℕ) (s : Style) → IsUtf8 t → FormatKept t s u → IsStandardText u
formats_are_standard t u s utf8 kept = reading_is_standard (formats_well t u s utf8 kept.formats).utf8 kept.accepted.1

pub each_formatting_holds : FormattingsHold
each_formatting_holds t u s utf8 kept = record {
  standard = reading_is_standard utf8 kept.formats.reads;
  reading = kept.formats.reading;
  reads = readings_are_the_reading t kept.formats.reading kept.formats.reads;
  nested = reading_nests kept.formats.reads;
  still_standard = formats_are_standard t u s utf8 kept;
  mended = formats_are_mended t u s utf8 kept.formats;
}

pub refused_texts_have_no_reading : RefusedTextsHaveNoReading
refused_texts_have_no_reading t fault refused other r reads = other (read_texts_have_no_fault t r fault reads refused)

pub standard_texts_are_formatted : StandardTextsAreFormatted
standard_texts_are_formatted t s standard =
    let read = (standard_texts_are_read t).0 standard in
    let f = formats_exist t s read.0 read.1 in
    let kept = format_keeps t s f.0 standard.utf8 f.1 in
    (f.0, kept, formats_are_standard t f.0 s standard.utf8 kept, formats_are_mended t f.0 s standard.utf8 f.1)
