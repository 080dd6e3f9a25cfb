-- Formatting keeps the comments of a text at the same places.
use Rattle.std.proofs.Common.{◌≡◌, ℕ, true, List, [], ◌∷◌, map, refl, sym, ap, ◌∙◌, arith, Bool, true≢false}
use Rattle.std.specs.Prelude.{zip}
use Rattle.std.specs.Str.{IsUtf8}
use Rattle.yf_comments.specs.Comment.{CommentValue}
use Rattle.yf_events.proofs.TreeLemmas.{trees_unique}
use Rattle.yf_events.specs.Reading.{documents_before, leaves_before, leaf_starts}
use Rattle.yf_events.specs.Tree.{DocumentTree, TreesOf}
use Rattle.yf_events.specs.declared.lists.Lists.{Lists}
use Rattle.yf_stream.proofs.LawsHold.{readings_are_one}
use Rattle.yf_stream.specs.ReadingOf.{ReadingOf, leaf_lines}
use Rattle.yf_forms.specs.declared.style.Style.{Style}
use Rattle.yf_laws.proofs.SameReading.RowSteps.{documents_begin}
use Rattle.yf_laws.specs.Layouts.Decorated.{rows_of}
use Rattle.yf_laws.specs.Format.{IsFormatting}
use Rattle.yf_laws.specs.FormatLaws.{FormatsKeepComments}
use Rattle.yf_laws.specs.Layouts.Layout.{Source, source_of}
use Rattle.yf_forms.specs.Nodes.Lines.{trimmed}
use Rattle.yf_forms.specs.NormalForms.Normal.{normal_document, setting_of, Normal, LayoutSetting}
use Rattle.yf_print.specs.Layouts.Rows.{Row}
use Rattle.yf_laws.specs.Preservation.SameComments.{KeptComment, kept}
use Rattle.yf_laws.proofs.Derived.LayoutSteps.{comments_of}
use Rattle.yf_laws.proofs.SameReading.StepComments.{counts_told, stream_starts_are}
use Rattle.yf_laws.proofs.Trails.DocumentTrails.{leaves_of}
use Rattle.yf_laws.proofs.SameReading.DocumentsFound.{document_starts, document_steps, documents_are, documents_found}
use Rattle.yf_laws.proofs.SameReading.FoundAgain.{told_by}
use Rattle.yf_laws.proofs.ReadAgain.GapsAgain.{trimmed_twice}
use Rattle.yf_laws.proofs.SameReading.StepLeaves.{laid_trees, leaves_told}
use Rattle.yf_laws.proofs.SameReading.PrintSteps.{trimmed_by}
use Rattle.yf_laws.proofs.Trails.RowLeaves.{leaves_on}
use Rattle.yf_laws.proofs.SameReading.SourceOffsets.{normal_of, normal_rows, source_is_at}
use Rattle.yf_laws.proofs.SameReading.StartsBefore.{starts_before, AllFrom, none_before}
use Rattle.yf_laws.proofs.SameReading.DocumentsFlow.{all_flow}
use Rattle.yf_forms.specs.NormalForms.BareStart.{is_bare}
use Rattle.yf_laws.proofs.Writable.TreesRead.{reading_bare, reading_fits}
use Rattle.yf_laws.proofs.Derived.BareReadings.{reading_begins, normal_begins, bare_begins, bare_unled}
use Rattle.yf_laws.proofs.Derived.BareFound.{laid_by, lead_there, none_leads}
use Rattle.yf_laws.proofs.SameReading.RowFlow.{starts_on, starts_are}
use Rattle.yf_laws.proofs.Derived.StepsInText.{starts_of}
use Rattle.yf_laws.proofs.NormalForms.NormalParts.{normal_leaves}
use Rattle.yf_laws.proofs.SameReading.CommentsCut.{In}
use Rattle.yf_print.specs.Layouts.KeptColumns.{Columns, columns_of}

-- Documents of the source.

trimmed_alike : (m n : ℕ → ℕ) (cs : List CommentValue) → ((o : ℕ) → m o ≡ n o) → trimmed_by m cs ≡ trimmed_by n cs
trimmed_alike m n [] e = refl
trimmed_alike m n (c ∷ cs) e = ap (λ z. (trimmed c.text, z) ∷ trimmed_by m cs) (e c.offset) ∙ ap (λ z. (trimmed c.text, n c.offset) ∷ z) (trimmed_alike m n cs e)

documents_of_source : (g : Columns) (t : List ℕ) (s : Style) (r : Lists) (trees : List DocumentTree) → IsUtf8 t → ReadingOf t r → TreesOf r trees
    → comments_of 0 (document_steps g (normal_of t s r trees) (normal_rows t s r trees)) ≡ trimmed_by (documents_before r) r.comments
documents_of_source g t s r trees u a of_reading =
    let w = source_is_at t s r trees u a of_reading in
    let m : Lists = normal_of t s r trees in
    let all : List Row = normal_rows t s r trees in
    let c : Source = source_of m all in
    let same : leaves_of a.trees ≡ leaves_on all = ap leaves_of (trees_unique r a.trees trees a.of_reading of_reading) ∙ sym w.leaves_are in
    let notes : r.on_leaf_line ≡ leaf_lines a.lines (leaves_on all) r.comments = a.notes ∙ ap (λ ls. leaf_lines a.lines ls r.comments) same in
    let st : LayoutSetting = setting_of r s in
    let bare : Bool = is_bare m s in
    let normal : Normal t r s m = record { trees = trees; of_reading = of_reading; is = refl } in
    let fits = reading_bare u t st bare a of_reading (λ e. sym (reading_begins a) ∙ (sym (normal_begins normal) ∙ bare_begins m s e)) in
    let laid = laid_by st bare (reading_fits u t st a of_reading) fits in
    let leaves : leaf_starts m.events ≡ starts_on all =
    stream_starts_are (map (normal_document t st) trees) ∙ (ap starts_of (normal_leaves t st trees ∙ sym w.leaves_are) ∙ sym (starts_are all)) in
    let unled = λ (e : bare ≡ true) (d : CommentValue) (i : In d r.comments) (f : starts_before (document_starts r.documents) d.offset ≡ 1) (g : AllFrom d.offset (starts_on all)).
    true≢false (sym (lead_there (documents_before m d.offset) (leaves_before m d.offset) (documents_are r.documents d.offset ∙ f) (ap (λ ss. starts_before ss d.offset) leaves ∙ none_before g)) ∙ none_leads m r.comments d (bare_unled m s e) i) in
    let flow = all_flow a.lines a.are_lines c r.comments (ap (zip r.comments) notes) w.sign u st refl bare (omega arith) w.stand laid unled w.upright in
    counts_told g documents_begin m all (document_starts r.documents) w.noted w.order flow
    ∙ trimmed_alike (starts_before (document_starts r.documents)) (documents_before r) r.comments (λ o. sym (documents_are r.documents o))

documents_told : (t u : List ℕ) (s : Style) (q : Lists) → IsUtf8 t → (f : IsFormatting t s u) → ReadingOf u q
    → told_by (documents_before q) q.comments ≡ trimmed_by (documents_before f.reading) f.reading.comments
documents_told t u s q utf8 f a =
    let trees : List DocumentTree = map (normal_document t (setting_of f.reading s)) f.is_normal.trees in
    documents_found t u s q utf8 f a
    ∙ (ap (λ xs. comments_of 0 (document_steps (columns_of t s (rows_of f.normal s f.writes.trees)) f.normal (rows_of f.normal s xs))) (laid_trees f)
    ∙ (ap (λ (m : Lists). comments_of 0 (document_steps (columns_of t s (rows_of f.normal s f.writes.trees)) m (rows_of m s trees))) f.is_normal.is
    ∙ documents_of_source (columns_of t s (rows_of f.normal s f.writes.trees)) t s f.reading f.is_normal.trees utf8 f.reads f.is_normal.of_reading))

-- Both tellings together.

both_told : (d n e m : ℕ → ℕ) (qs rs : List CommentValue) → told_by d qs ≡ trimmed_by e rs → told_by n qs ≡ trimmed_by m rs
    → map {B = KeptComment} (λ (c : CommentValue). (trimmed c.text, (d c.offset, n c.offset))) qs ≡ map {B = KeptComment} (λ (c : CommentValue). (trimmed c.text, (e c.offset, m c.offset))) rs
both_told d n e m [] [] x y = refl
both_told d n e m [] (r ∷ rs) x y = absurd cc
both_told d n e m (q ∷ qs) [] x y = absurd cc
both_told d n e m (q ∷ qs) (r ∷ rs) x y =
    let others : told_by d qs ≡ trimmed_by e rs = cc in
    let further : told_by n qs ≡ trimmed_by m rs = cc in
    let documents : ◌≡◌ {A = List ℕ × ℕ} (q.text, d q.offset) (trimmed r.text, e r.offset) = cc in
    let leaves : ◌≡◌ {A = List ℕ × ℕ} (q.text, n q.offset) (trimmed r.text, m r.offset) = cc in
    let text : trimmed q.text ≡ trimmed r.text = ap (λ (w : List ℕ × ℕ). trimmed w.0) documents ∙ trimmed_twice r.text in
    let one : d q.offset ≡ e r.offset = ap (λ (w : List ℕ × ℕ). w.1) documents in
    let two : n q.offset ≡ m r.offset = ap (λ (w : List ℕ × ℕ). w.1) leaves in
    ap (λ w. (w, (d q.offset, n q.offset)) ∷ map {B = KeptComment} (λ (c : CommentValue). (trimmed c.text, (d c.offset, n c.offset))) qs) text
    ∙ (ap (λ w. (trimmed r.text, (w, n q.offset)) ∷ map {B = KeptComment} (λ (c : CommentValue). (trimmed c.text, (d c.offset, n c.offset))) qs) one
    ∙ (ap (λ w. (trimmed r.text, (e r.offset, w)) ∷ map {B = KeptComment} (λ (c : CommentValue). (trimmed c.text, (d c.offset, n c.offset))) qs) two
    ∙ ap (λ w. (trimmed r.text, (e r.offset, m r.offset)) ∷ w) (both_told d n e m qs rs others further)))

pub formats_comments : FormatsKeepComments
formats_comments t u s utf8 f r q a b =
    both_told (documents_before q) (leaves_before q) (documents_before f.reading) (leaves_before f.reading) q.comments f.reading.comments
    (documents_told t u s q utf8 f b) (leaves_told t u s q utf8 f b)
    ∙ sym (ap kept (readings_are_one t f.reading r f.reads a))
