-- The law of flow-layout: in a formatted text no flow collection is displaced.
use Rattle.std.proofs.Common.{◌≡◌, ℕ, ◌<◌, Some, arith}
use Rattle.std.specs.Prelude.{slice_get}
use Rattle.yf_lines.specs.declared.line.Line.{Line}
use Rattle.yf_laws.proofs.SecondRun.FixedLawsHold.{formats_normal}
use Rattle.yf_laws.proofs.OutputLines.FormattedLines.{formed, formed_are}
use Rattle.yf_laws.proofs.OutputLines.LaidLines.{line_text}
use Rattle.yf_laws.proofs.OfTexts.ReadingsOfTexts.{reading_is_textual}
use Rattle.yf_laws.proofs.Columns.WrittenReadings.{reading_written}
use Rattle.yf_laws.specs.Mended.{FormatsAreMended}
use Rattle.yf_rule_sets.specs.Rules.{flow_layout}
use Rattle.yf_laws.proofs.Formatted.MendedLayouts.{none_displaced}
use Rattle.yf_laws.proofs.Formatted.MendedLines.{exactly_none}
use Rattle.yf_laws.proofs.Formatted.MendedKeyMark.{normal_same}

pub flow_layout_mended : FormatsAreMended flow_layout
flow_layout_mended fixable src r s w offsets e =
    let a = formed w.utf8 w.formats in
    let textual = reading_is_textual a.utf8 w.reads in
    let broken : (k : ℕ) (l : Line) → slice_get src.lines k ≡ Some l → l.end < l.next = λ k l q. let next = (line_text k l (formed_are src.lines w.formats a w.lines) q).is.next in omega (arith, next) in
    let same = normal_same (formats_normal w.source src.text s w.utf8 w.formats r w.reads) w.reads.trees w.reads.of_reading in
    let written = reading_written w.utf8 w.formats w.reads in
    exactly_none offsets (λ i o m. none_displaced src r s w.reads.trees w.reads.of_reading a.utf8 w.lines broken written same i o m) (e w.reads.trees w.reads.of_reading textual.comments)
