-- In a formatted text, blank lines are only between rows, and each is allowed there.
use Rattle.std.proofs.Common.{◌≡◌, ◌≢◌, ℕ, zero, suc, ◌+◌, ◌-◌, ◌<◌, true, false, true≢false, List, map, Some, sym, ap, ◌∙◌, subst, arith}
use Rattle.std.specs.Prelude.{slice_get}
use Rattle.std.specs.Str.{IsUtf8}
use Rattle.std.proofs.lemmas.Option.{same_Some, slice_get_within}
use Rattle.yf_chars.specs.Class.{is_white}
use Rattle.yf_chars.specs.Text.{code}
use Rattle.yf_chars.proofs.Tests.{no_item}
use Rattle.yf_lines.specs.Basic.{ForbiddenLine, LineStart, is_marker}
use Rattle.yf_lines.specs.Lines.{IsForbiddenLine, Table}
use Rattle.yf_lines.specs.declared.line.Line.{Line}
use Rattle.yf_lines.proofs.MarkLemmas.{start_in_line}
use Rattle.yf_lines.proofs.TableLemmas.{table_cut, table_line, table_start}
use Rattle.yf_events.specs.declared.directive.Directive.{Directive}
use Rattle.yf_events.specs.declared.document.Doc.{Doc}
use Rattle.yf_events.specs.declared.lists.Lists.{Lists}
use Rattle.yf_stream.specs.ReadingOf.{ReadingOf, doc_of}
use Rattle.yf_stream.specs.Stream.{Document}
use Rattle.yf_stream.proofs.Offsets.DirectivesStand.{AllDirected, none_directed, one_directed, DirectivesStand, no_directives, directive_is_at, stream_directed}
use Rattle.yf_forms.specs.declared.style.Style.{Style}
use Rattle.yf_laws.proofs.OutputLines.FormattedLines.{formed}
use Rattle.yf_laws.proofs.OutputLines.LineSorts.{LineAfter, LineBefore, Solid, solid_seen, solid_scalar, Sort, between_rows, ends_seen, in_scalar}
use Rattle.yf_rule_sets.specs.RuleSets.BlankLines.{DirectiveOf, HasOffset, IsBlank, MarkerOf, MisplacedBlank, WrongPlace}
use Rattle.yf_rule_sets.specs.RuleSets.BlankLines.DirectiveIn.{is_directive}
use Rattle.yf_rule_sets.specs.RuleSets.BlankLines.DirectiveOf.{of_document}
use Rattle.yf_rule_sets.specs.RuleSets.BlankLines.MarkerOf.{has_marker}
use Rattle.yf_rule_sets.specs.RuleSets.BlankLines.MisplacedBlank.{misplaced}
use Rattle.yf_rule_sets.specs.RuleSets.BlankLines.WrongPlace.{is_first, after_blank, after_marker, before_marker, before_directive, at_text_end}
use Rattle.yf_laws.specs.Mended.{FormatsAreMended, IsFormatted}
use Rattle.yf_rule_sets.specs.Rules.{blank_lines}
use Rattle.yf_laws.proofs.Formatted.MendedLines.{exactly_none, no_mark_there}
use Rattle.yf_laws.proofs.Formatted.MendedScalars.{scalar_line}
use Rattle.yf_laws.proofs.Formatted.MendedSorts.{sorted_line}
use Rattle.yf_laws.proofs.Formatted.MendedDocumentStart.{first_mark, marker_at}
use Rattle.yf_rule_sets.proofs.Texts.WhitesLemmas.{white_within}

-- Lines that are not blank.

not_seen : {src : Table} {r : Lists} (k : ℕ) (l : Line) → slice_get src.lines k ≡ Some l → is_white (code src.text (l.end - 1)) ≡ false → l.start < l.end → IsBlank src r k → ⊥
not_seen {src} k l e v h b =
    let same : b.line ≡ l = same_Some _ _ (sym b.at ∙ e) in
    let start : b.line.start ≡ l.start = ap (λ (w : Line). w.start) same in
    let end : b.line.end ≡ l.end = ap (λ (w : Line). w.end) same in
    let white : is_white (code src.text (b.line.end - 1)) ≡ true = white_within (b.line.end - 1) b.white.run (omega (arith, h, start, end)) (omega (arith, h, start, end)) in
    true≢false (sym white ∙ (ap (λ i. is_white (code src.text (i - 1))) end ∙ v))

not_solid : {src : Table} {r : Lists} {s : Style} → IsFormatted src r s → (k : ℕ) (l : Line) → slice_get src.lines k ≡ Some l → Solid src.text r.events src.lines k l → IsBlank src r k → ⊥
not_solid w k l e (solid_seen v h) b = not_seen k l e v h b
not_solid {src} {r} w k l e (solid_scalar {x = x} a) b =
    let s = scalar_line src r (formed w.utf8 w.formats).utf8 w.lines k l x a e in
    b.outside s.0 s.1

-- Starts of lines.

-- a line with an offset at which a line begins, begins there
starts_there : {src : Table} {r : Lists} {s : Style} → IsFormatted src r s → (o k : ℕ) → LineStart src.text o → (a : HasOffset src o k) → a.line.start ≡ o
starts_there {src} w o k s a =
    let u = (formed w.utf8 w.formats).utf8 in
    let marks = start_in_line a.line u (table_line src.text src.lines k a.line w.lines a.at) (table_cut src.text src.lines k a.line u w.lines a.at) s a.from a.to in
    first_mark (λ i. no_mark_there w i) marks.1

forbidden_there : {src : Table} {r : Lists} {s : Style} → IsFormatted src r s → (k : ℕ) (l : Line) → slice_get src.lines k ≡ Some l → IsForbiddenLine src.text l.start → ForbiddenLine src.text l.start
forbidden_there {src} w k l e f =
    let same : l.start ≡ f.at = first_mark (λ i. no_mark_there w i) f.follows.run in
    record { start = table_start src.text src.lines k l w.lines e; marker = subst (λ i. is_marker src.text i ≡ true) (sym same) f.marker }

-- Directives.

directive_at : {t : List ℕ} {ds : List Directive} (j : ℕ) (d : Directive) → DirectivesStand t ds → slice_get ds j ≡ Some d → LineStart t d.offset × (code t d.offset ≡ 37)
directive_at j d no_directives e = absurd (no_item j d e)
directive_at {t} zero d (directive_is_at l c more) e = subst (λ (w : Directive). LineStart t w.offset × (code t w.offset ≡ 37)) (same_Some _ _ e) (l, c)
directive_at (suc j) d (directive_is_at l c more) e = directive_at j d more e

document_at : {t : List ℕ} {ds : List Document} (k : ℕ) (d : Doc) → AllDirected t ds → slice_get (map doc_of ds) k ≡ Some d → DirectivesStand t d.directives
document_at k d none_directed e = absurd (no_item k d e)
document_at {t} zero d (one_directed a more) e = subst (λ (w : Doc). DirectivesStand t w.directives) (same_Some _ _ e) a
document_at (suc k) d (one_directed a more) e = document_at k d more e

-- Places.

module _ {src : Table} {r : Lists} {s : Style} (w : IsFormatted src r s) where
  not_marker : (j m : ℕ) (l : Line) → slice_get src.lines j ≡ Some l → (ForbiddenLine src.text l.start → code src.text l.start ≡ 45 → ⊥) → MarkerOf src r m j → ⊥
  not_marker j m l e n (has_marker {d = d} f g alone at) =
      let start = marker_at w m d f g in
      let same : l.start ≡ d.start = ap (λ (v : Line). v.start) (same_Some _ _ (sym e ∙ at.at)) ∙ starts_there w d.start j start.0.start at in
      n (subst (λ i. ForbiddenLine src.text i) (sym same) start.0) (ap (code src.text) same ∙ start.1)

  not_directive : (j m : ℕ) (l : Line) → slice_get src.lines j ≡ Some l → code src.text l.start ≢ 37 → DirectiveOf src r m j → ⊥
  not_directive j m l e n (of_document {d = d} {j = i} f (is_directive {d = v} g at)) =
      let q : ReadingOf src.text r = w.reads in
      let u = (formed w.utf8 w.formats).utf8 in
      let stand = directive_at i v (document_at m d (stream_directed u q.reads.shapes.derived) (subst (λ (ds : List Doc). slice_get ds m ≡ Some d) q.documents f)) g in
      let same : l.start ≡ v.offset = ap (λ (z : Line). z.start) (same_Some _ _ (sym e ∙ at.at)) ∙ starts_there w v.offset j stand.0 at in
      n (ap (code src.text) same ∙ stand.1)

  right_place : (k : ℕ) → LineBefore src.text r.events src.lines k → LineAfter src.text src.lines (suc k) → WrongPlace src r k → ⊥
  right_place k before after (is_first e) = let next = before.next in omega (arith, e, next)
  right_place k before after (after_blank {j = j} e b) =
      let next = before.next in
      let same : j ≡ before.index = omega (arith, e, next) in
      not_solid w before.index before.line before.at before.solid (subst (λ i. IsBlank src r i) same b)
  right_place k before after (after_marker {j = j} {m = m} e b) =
      let next = before.next in
      let same : j ≡ before.index = omega (arith, e, next) in
      not_marker before.index m before.line before.at before.undashed (subst (λ i. MarkerOf src r m i) same b)
  right_place k before after (before_marker {l = l} e f) =
      let one : k + 1 ≡ suc k = omega arith in
      let there : slice_get src.lines (suc k) ≡ Some l = ap (λ i. slice_get src.lines i) (sym one) ∙ e in
      after.unmarked (subst (λ (v : Line). ForbiddenLine src.text v.start) (same_Some _ _ (sym there ∙ after.at)) (forbidden_there w (suc k) l there f))
  right_place k before after (before_directive {m = m} b) =
      let one : k + 1 ≡ suc k = omega arith in
      not_directive (suc k) m after.line after.at after.no_percent (subst (λ i. DirectiveOf src r m i) one b)
  right_place k before after (at_text_end f) =
      let within = slice_get_within src.lines (suc k) after.line after.at in
      not_seen (suc k) after.line after.at after.seen after.some (f (suc k) (omega arith) within)

  none_misplaced : (k o : ℕ) → MisplacedBlank src r k o → ⊥
  none_misplaced k o (misplaced {l = l} e b wrong) = let a = sorted_line k l w e in by a.utf8 a.text a.sort where
    by : IsUtf8 src.text → (x : List ℕ) → Sort src.text r.events src.lines k l x → ⊥
    by u x (between_rows z before after) = right_place k before after wrong
    by u x (ends_seen v h) = not_seen k l e v h b
    by u x (in_scalar a) = let i = scalar_line src r u w.lines k l x a e in b.outside i.0 i.1

pub blank_lines_mended : FormatsAreMended blank_lines
blank_lines_mended fixable src r s w offsets e = exactly_none offsets (none_misplaced w) e
