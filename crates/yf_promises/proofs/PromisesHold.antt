-- The promises hold, by the laws of reading, formatting and checking.
use Rattle.std.proofs.Common.{◌≡◌, ◌≤◌, ℕ, true, List, [], ◌∷◌, map, refl, sym, ap, ◌∙◌, subst}
use Rattle.std.specs.List.{Contains}
use Rattle.std.specs.Str.{IsUtf8}
use Rattle.yf_lines.specs.Lines.{Table}
use Rattle.yf_events.specs.Content.{content_of}
use Rattle.yf_events.specs.Notation.{notation, notation_of}
use Rattle.yf_comments.specs.Comment.{CommentValue}
use Rattle.yf_events.specs.Reading.{documents_before, leaves_before}
use Rattle.yf_events.specs.declared.lists.Lists.{Lists}
use Rattle.yf_events.specs.declared.reading.TheConstants.{DEPTH}
use Rattle.yf_forms.specs.declared.style.Style.{Style}
use Rattle.yf_forms.specs.Nodes.Lines.{trimmed}
use Rattle.yf_forms.specs.NormalForms.Textual.{IsTextual}
use Rattle.yf_rule_sets.specs.RuleOf.{definition_of}
use Rattle.yf_rule_sets.specs.declared.rules.StyleRule.{StyleRule}
use Rattle.yf_laws.specs.Format.{IsFormatting}
use Rattle.yf_laws.specs.FormatPromises.{FormatKept}
use Rattle.yf_laws.specs.Formattings.{StandardTextsAreFormatted}
use Rattle.yf_laws.specs.Laws.{ReadingsAreOfTexts}
use Rattle.yf_laws.specs.Mended.{IsMended}
use Rattle.yf_laws.specs.Preservation.SameComments.{KeptComment, kept}
use Rattle.yf_standard.specs.Acceptance.{IsStandardText, StandardStreamsMeanOne, StandardTextsAreRead}
use Rattle.yf_standard.specs.Laws.{IsStandardStream}
use Rattle.yf_standard.specs.Readings.{documents_said}
use Rattle.yf_standard.specs.StreamLaws.{StreamTokens}
use Rattle.yf_stream.specs.Laws.{ReadingsAreOne}
use Rattle.yf_stream.specs.ReadingOf.{ReadingOf}
use Rattle.yf_stream.specs.Stream.{Documents, Stream}
use Rattle.yf_stream.specs.WellFormed.{breaches}
use Rattle.yf_promises.specs.Ends.{ends_by}
use Rattle.yf_promises.specs.Promises.{ContentIsOne, Promises, ReadingPrints, RuleFinds, StreamsSayOne, yamlfmt}
use Rattle.yf_promises.specs.Said.{ContentSaid, DocumentsFit, IsAccepted, SameComments, SameContent, StreamEvents, TaggedEvent, comments_said, said_by}
use Rattle.yf_promises.proofs.EndLemmas.{parts_end}
use Rattle.yf_promises.proofs.FitLemmas.{documents_breach, documents_fit}
use Rattle.yf_promises.proofs.ListedLemmas.{has_list, no_faults, one_table, same_offsets}
use Rattle.yf_promises.proofs.Stops.{Ended, noted_ends, same_ends}
use Rattle.yf_promises.proofs.SaidLemmas.{reading_comments, reading_content, reading_events, stream_items, tagged_events}

-- the basis of the promises
pub record Laws : Type 0 where
  pub standard : StandardTextsAreRead
  pub meant : StandardStreamsMeanOne
  pub one : ReadingsAreOne
  pub streams : StreamTokens
  pub formatted : StandardTextsAreFormatted
  pub textual : ReadingsAreOfTexts

-- all that a text means within the limit is x, and each derivation says it
record Meant (t : List ℕ) : Type 0 where
  documents : Documents
  only : (h : ℕ) (x : Documents) → Stream t h x → h ≤ DEPTH → x ≡ documents
  says : (d : IsStandardStream t) → said_by d ≡ documents_said documents
  height : ℕ
  derived : Stream t height documents
  within : height ≤ DEPTH

-- the texts of the comments that formatting keeps
texts_of : (r : Lists) (cs : List CommentValue)
    → map (λ (k : KeptComment). k.0)
    (map (λ c. (trimmed c.text, (documents_before r c.offset, leaves_before r c.offset))) cs)
    ≡ map (λ (c : CommentValue). trimmed c.text) cs
texts_of r [] = refl
texts_of r (c ∷ cs) = ap (λ z. trimmed c.text ∷ z) (texts_of r cs)

module _ (laws : Laws) where
  meant : (t : List ℕ) → IsUtf8 t → IsStandardStream t → Meant t
  meant t u d =
      let m = laws.meant t u d in
      record {
        documents = m.0;
        only = m.1.only;
        says = λ e.
            let v = laws.streams t DEPTH u e in
            v.says ∙ ap (λ x. documents_said x) (m.1.only v.height v.value v.derived v.within);
        height = m.1.height;
        derived = m.1.derived;
        within = m.1.within;
      }

  pub streams_say_one : StreamsSayOne
  streams_say_one t u d e = let m = meant t u d in m.says d ∙ sym (m.says e)

  -- ---- Accepted texts

  standard_text : (t : List ℕ) → IsUtf8 t → IsAccepted t → IsStandardText t
  standard_text t u a =
      let m = meant t u a.derived in
      let fits = subst (λ s. DocumentsFit s.documents) (m.says a.derived) a.fits in
      record {
        utf8 = u;
        stream = a.derived;
        well_formed =
            λ h x s w. ap (λ y. breaches y.documents) (m.only h x s w) ∙ documents_breach m.documents.documents fits;
      }

  accepted_text : (t : List ℕ) → IsStandardText t → IsAccepted t
  accepted_text t s =
      let m = meant t s.utf8 s.stream in
      let none = s.well_formed m.height m.documents m.derived m.within in
      record {
        derived = s.stream;
        fits = subst (λ z. DocumentsFit z.documents) (sym (m.says s.stream)) (documents_fit m.documents.documents none);
      }

  read_text : (t : List ℕ) (r : Lists) → IsUtf8 t → ReadingOf t r → IsAccepted t
  read_text t r u g = accepted_text t ((laws.standard t).1 u r g)

  -- each derivation states the documents from which the reading was made
  said_read : (t : List ℕ) (r : Lists) → IsUtf8 t → (g : ReadingOf t r) → (d : IsStandardStream t)
      → said_by d ≡ documents_said g.derived
  said_read t r u g d =
      let v = laws.streams t DEPTH u d in
      v.says ∙ ap (λ x. documents_said x) (g.reads.shapes.only v.height v.value v.derived v.within)

  -- ---- Events

  -- each derivation has the marks that the reading notes
  ends_read : (t : List ℕ) (r : Lists) → IsUtf8 t → (g : ReadingOf t r) → (d : IsStandardStream t)
      → noted_ends g.events ≡ ends_by d
  ends_read t r u g d =
      let v = parts_end t u d in
      same_ends g.events
      (subst (λ (x : Documents). Ended t x.documents (ends_by d))
      (g.reads.shapes.only v.height v.value v.derived v.fits) v.ends)

  printed : (t : List ℕ) → IsUtf8 t → IsAccepted t → (out : List ℕ) × ReadingPrints t out
  printed t u a =
      let read = (laws.standard t).0 (standard_text t u a) in
      (notation_of read.0, (read.0, read.1, refl))

  printed_accepted : (t out : List ℕ) → IsUtf8 t → ReadingPrints t out → IsAccepted t
  printed_accepted t out u p = read_text t p.0 u p.1

  printed_events : (t out : List ℕ) → IsUtf8 t → ReadingPrints t out → (d : IsStandardStream t)
      → (es : List TaggedEvent) × StreamEvents (said_by d) (ends_by d) es × (out ≡ notation es)
  unfolding notation_of
  printed_events t out u p d = (
    tagged_events p.0,
    subst (λ z. StreamEvents z (ends_by d) (tagged_events p.0)) (sym (said_read t p.0 u p.1 d))
        (subst (λ z. StreamEvents (documents_said p.1.derived) z (tagged_events p.0)) (ends_read t p.0 u p.1 d)
        (reading_events p.1)),
    p.2,
  )

  printed_one : (t out other : List ℕ) → ReadingPrints t out → ReadingPrints t other → out ≡ other
  printed_one t out other p q = p.2 ∙ ap (λ r. notation_of r) (laws.one t q.0 p.0 q.1 p.1) ∙ sym q.2

  -- ---- Formatting

  kept_formatting : (t : List ℕ) (s : Style) (u : List ℕ) → IsUtf8 t → IsFormatting t s u
      → FormatKept t s u × IsStandardText u × IsMended u s
  kept_formatting t s u utf8 f =
      let given = laws.formatted t s ((laws.standard t).1 utf8 f.reading f.reads) in
      let same = given.1.only u f in
      subst (λ v. FormatKept t s v × IsStandardText v × IsMended v s) (sym same) (given.1, given.2, given.3)

  formatted : (t : List ℕ) (s : Style) → IsUtf8 t → IsAccepted t → (u : List ℕ) × IsFormatting t s u
  formatted t s utf8 a = let given = laws.formatted t s (standard_text t utf8 a) in (given.0, given.1.formats)

  formatted_one : (t : List ℕ) (s : Style) (u v : List ℕ) → IsUtf8 t → IsFormatting t s u → IsFormatting t s v → u ≡ v
  formatted_one t s u v utf8 f g = (kept_formatting t s v utf8 g).0.only u f

  same_content : (t : List ℕ) (s : Style) (u : List ℕ) → IsUtf8 t → IsFormatting t s u → SameContent t u
  same_content t s u utf8 f d e =
      let k = kept_formatting t s u utf8 f in
      let r = k.0.accepted in
      let same = k.0.content f.reading r.0 f.reads r.1 in
      let first =
      subst (λ z. ContentSaid z (content_of f.reading)) (sym (said_read t f.reading utf8 f.reads d))
      (reading_content f.reads) in
      let second =
      subst (λ z. ContentSaid z (content_of r.0)) (sym (said_read u r.0 k.1.utf8 r.1 e)) (reading_content r.1) in
      (content_of f.reading, first, subst (λ c. ContentSaid (said_by e) c) same second)

  comments_read : (t : List ℕ) (r : Lists) → IsUtf8 t → (g : ReadingOf t r) → (d : IsStandardStream t)
      → comments_said (said_by d) ≡ map (λ (k : KeptComment). k.0) (kept r)
  comments_read t r u g d =
      ap (λ s. comments_said s) (said_read t r u g d) ∙ reading_comments g ∙ sym (texts_of r r.comments)

  same_comments : (t : List ℕ) (s : Style) (u : List ℕ) → IsUtf8 t → IsFormatting t s u → SameComments t u
  same_comments t s u utf8 f d e =
      let k = kept_formatting t s u utf8 f in
      let r = k.0.accepted in
      comments_read t f.reading utf8 f.reads d
      ∙ ap (λ z. map (λ (k : KeptComment). k.0) z) (sym (k.0.comments f.reading r.0 f.reads r.1))
      ∙ sym (comments_read u r.0 k.1.utf8 r.1 e)

  -- ---- Findings

  of_text : (t : List ℕ) (r : Lists) → IsUtf8 t → ReadingOf t r → IsTextual r
  of_text t r u g = (laws.textual t r u g).textual

  found : (rule : StyleRule) (t : List ℕ) (s : Style) → IsUtf8 t → IsAccepted t
      → ((offsets : List ℕ) → RuleFinds rule t s offsets → ⊥) → ⊥
  found rule t s u a none =
      let read = (laws.standard t).0 (standard_text t u a) in
      let g : ReadingOf t read.0 = read.1 in
      let source : Table = record { text = t; lines = g.lines } in
      has_list source read.0 s (of_text t read.0 u g) rule (λ offsets faults. none offsets (record {
        source = source;
        reading = read.0;
        text = refl;
        lines = g.are_lines;
        reads = g;
        faults = faults;
      }))

  -- two lists are of one reading and of one table of lines
  found_one : (rule : StyleRule) (t : List ℕ) (s : Style) (offsets others : List ℕ) → IsUtf8 t
      → RuleFinds rule t s offsets → RuleFinds rule t s others → (i : ℕ) → Contains offsets i → Contains others i
  found_one rule t s offsets others u f g =
      let table = one_table t f.source g.source f.text g.text f.lines g.lines in
      let reading = laws.one t g.reading f.reading g.reads f.reads in
      let faults = subst (λ (z : Lists). (definition_of rule).faults f.source z s others) (sym reading)
      (subst (λ (z : Table). (definition_of rule).faults z g.reading s others) (sym table) g.faults) in
      same_offsets f.source f.reading s (of_text t f.reading u f.reads) rule offsets others f.faults faults

  clean : (t : List ℕ) (s : Style) (u : List ℕ) → IsUtf8 t → IsFormatting t s u
      → (rule : StyleRule) → (definition_of rule).fixable ≡ true → RuleFinds rule u s []
  clean t s u utf8 f rule fixable =
      let k = kept_formatting t s u utf8 f in
      let read = k.0.accepted in
      let g : ReadingOf u read.0 = read.1 in
      let source : Table = record { text = u; lines = g.lines } in
      record {
        source = source;
        reading = read.0;
        text = refl;
        lines = g.are_lines;
        reads = g;
        faults = no_faults source read.0 s (of_text u read.0 k.1.utf8 g) rule
            (λ offsets faults. k.2 rule fixable source read.0 refl g.are_lines g offsets faults);
      }

  pub promises_hold : Promises yamlfmt
  promises_hold = record {
    prints = printed;
    prints_accepted = printed_accepted;
    prints_events = printed_events;
    prints_one = printed_one;
    formats = formatted;
    formats_accepted = λ t s u utf8 f. read_text t f.reading utf8 f.reads;
    formats_one = formatted_one;
    gives_utf8 = λ t s u utf8 f. (kept_formatting t s u utf8 f).1.utf8;
    gives_accepted = λ t s u utf8 f. accepted_text u (kept_formatting t s u utf8 f).1;
    content = same_content;
    comments = same_comments;
    again = λ t s u utf8 f. (kept_formatting t s u utf8 f).0.unchanged.again;
    finds = found;
    finds_one = found_one;
    clean = clean;
  }

pub content_is_one : ContentIsOne
content_is_one s b c p q =
    ap (λ z. record b { directives = z }) (p.directives ∙ sym q.directives)
    ∙ ap (λ z. record c { nodes = z }) (p.nodes ∙ stream_items p.said q.said ∙ sym q.nodes)
