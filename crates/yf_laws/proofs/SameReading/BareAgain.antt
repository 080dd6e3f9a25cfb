-- In each reading of a formatted text, the `---` of the first document is left out if and only if formatting left it
-- out.
use Rattle.std.proofs.Common.{◌≡◌, ℕ, Bool, true, false, ◌&&◌, ◌||◌, List, [], ◌∷◌, map, refl, sym, ap, ◌∙◌}
use Rattle.std.specs.Prelude.{◌==◌, count_by, nat_lt, not}
use Rattle.std.specs.List.{list_any}
use Rattle.std.specs.Str.{IsUtf8}
use Rattle.yf_comments.specs.Comment.{CommentValue}
use Rattle.yf_events.specs.Reading.{documents_before, leaf_starts, leaves_before}
use Rattle.yf_events.specs.Tree.{DocumentTree, flat_stream}
use Rattle.yf_events.specs.declared.document.Doc.{Doc}
use Rattle.yf_events.specs.declared.lists.Lists.{Lists}
use Rattle.yf_stream.specs.ReadingOf.{ReadingOf}
use Rattle.yf_stream.specs.Stream.{Document}
use Rattle.yf_forms.specs.declared.style.Style.{Style}
use Rattle.yf_forms.specs.NormalForms.BareStart.{begins_bare, has_lead, is_bare, keeps_starts, leads}
use Rattle.yf_laws.specs.Layouts.FitDocuments.{DocumentsMeant, no_documents_meant, document_meant, FitsBare}
use Rattle.yf_laws.specs.Format.{IsFormatting}
use Rattle.yf_forms.specs.Nodes.Lines.{trimmed}
use Rattle.yf_forms.specs.NormalForms.Normal.{Normal, normal_document, setting_of}
use Rattle.yf_laws.specs.Preservation.SameComments.{KeptComment, kept}
use Rattle.yf_laws.proofs.Derived.BareReadings.{reading_begins}
use Rattle.yf_laws.proofs.SameReading.StepComments.{stream_starts_are}
use Rattle.yf_laws.proofs.Derived.FormatsRead.{formats_bare}
use Rattle.yf_laws.proofs.NormalForms.NormalParts.{normal_leaves}
use Rattle.yf_laws.proofs.SameReading.SameComments.{formats_comments}
use Rattle.yf_laws.proofs.SameReading.SameContent.{formats_meant}
use Rattle.yf_laws.proofs.Derived.StepsInText.{starts_of}
use Rattle.yf_laws.proofs.Writable.TreesRead.{first_unmarked}

-- whether a comment is kept after one document, and before a leaf
abbrev at_start : KeptComment → Bool
at_start p = (p.1.0 == 1) && (p.1.1 == 0)

has_kept : (r : Lists) → has_lead r ≡ list_any at_start (kept r)
has_kept r = by r.comments where
  by : (cs : List CommentValue) → list_any (leads r) cs ≡ list_any at_start (map {B = KeptComment} (λ (c : CommentValue). (trimmed c.text, (documents_before r c.offset, leaves_before r c.offset))) cs)
  by [] = refl
  by (c ∷ cs) = ap (λ b. leads r c || b) (by cs)

-- the normal form has the leaves of the reading
abbrev lead_by : List Doc → List ℕ → List CommentValue → Bool
lead_by ds ss cs = list_any (λ (c : CommentValue). (count_by (λ (d : Doc). nat_lt d.start c.offset) ds == 1) && (count_by (λ s. nat_lt s c.offset) ss == 0)) cs

pub normal_lead : {t : List ℕ} {r m : Lists} {s : Style} → Normal t r s m → has_lead m ≡ has_lead r
normal_lead {t} {r} {m} {s} n =
    let trees : List DocumentTree = map (normal_document t (setting_of r s)) n.trees in
    let starts : leaf_starts (flat_stream trees) ≡ leaf_starts r.events =
    stream_starts_are trees ∙ (ap starts_of (normal_leaves t (setting_of r s) n.trees) ∙ (sym (stream_starts_are n.trees) ∙ ap leaf_starts (sym n.of_reading.events))) in
    ap (λ (w : Lists). lead_by w.documents (leaf_starts w.events) w.comments) n.is ∙ ap (λ ss. lead_by r.documents ss r.comments) starts

-- the first document has no `---` if it was left out
twice : (b : Bool) → not (not b) ≡ b
twice true = refl
twice false = refl

unmarked_so : {ds : List Doc} {xs : List DocumentTree} {es : List Document} (b : Bool) → DocumentsMeant b ds xs es → FitsBare b ds xs → first_unmarked es ≡ b
unmarked_so false no_documents_meant fits = refl
unmarked_so true no_documents_meant fits = elim fits [ ]
unmarked_so b (document_meant a more) fits = ap not a.marked ∙ twice b

absorbed : (k g l : Bool) → (k && ((k && (g && not l)) && not l)) ≡ (k && (g && not l))
absorbed true true true = refl
absorbed true true false = refl
absorbed true false true = refl
absorbed true false false = refl
absorbed false g l = refl

pub same_bare : (t u : List ℕ) (s : Style) (q : Lists) → IsUtf8 t → (f : IsFormatting t s u) → ReadingOf u q → is_bare q s ≡ is_bare f.normal s
same_bare t u s q utf8 f a =
    let m : Lists = f.normal in
    let led : has_lead q ≡ has_lead m =
    has_kept q ∙ (ap (λ w. list_any at_start w) (formats_comments t u s utf8 f f.reading q f.reads a) ∙ (sym (has_kept f.reading) ∙ sym (normal_lead f.is_normal))) in
    let begins : begins_bare q.events ≡ is_bare m s = reading_begins a ∙ unmarked_so (is_bare m s) (formats_meant utf8 f a) (formats_bare utf8 f) in
    ap (λ b. keeps_starts s && (b && not (has_lead q))) begins ∙ (ap (λ b. keeps_starts s && (is_bare m s && not b)) led ∙ absorbed (keeps_starts s) (begins_bare m.events) (has_lead m))
