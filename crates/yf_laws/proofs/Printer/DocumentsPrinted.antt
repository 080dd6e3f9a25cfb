-- The printer's pass over the events of a stream of normal forms adds the rows of the stream.
use Rattle.std.proofs.Common.{◌≡◌, ℕ, zero, suc, ◌+◌, ◌≤◌, ◌<◌, Bool, true, false, List, [], ◌∷◌, ◌++◌, length, map, flat_map, drop, Some, refl, sym, ap, ◌∙◌, subst, arith, append_assoc, append-nil, add-one}
use Rattle.std.specs.Prelude.{◌-◌, ◌^◌, ◌*◌, ◌==◌, slice_get, if◌then◌else◌, ◌&&◌}
use Rattle.std.proofs.lemmas.Bool.{and_parts}
use Rattle.std.proofs.lemmas.Bool.Decides.{nat_tests}
use Rattle.std.proofs.lemmas.List.{length-append}
use Rattle.yf_events.specs.Event.{EventInText, stream_starts, stream_ends, document_starts, document_ends}
use Rattle.yf_events.specs.Tree.{DocumentTree, flat, flat_document, flat_stream, unplaced}
use Rattle.yf_events.specs.declared.document.Doc.{Doc}
use Rattle.yf_forms.specs.declared.form.decide.Form.{Form}
use Rattle.yf_laws.proofs.OfTexts.KeyEntries.{keys_begin, keys_begin_in_documents}
use Rattle.yf_print.specs.Passes.Drafts.{Draft, finished, no_draft, past}
use Rattle.yf_forms.specs.NormalForms.Forms.{Site, document_forms, documents_are_placed, forms, is_placed, no_form, site_at, stream_forms}
use Rattle.yf_forms.specs.Passes.MeasurePass.{setting}
use Rattle.yf_forms.specs.NormalForms.Normal.{LayoutSetting, root_margins, settled, styled}
use Rattle.yf_print.specs.Passes.PrintPass as Printing
use Rattle.yf_print.specs.Passes.PrintPass.{PrintState, document_begun, looked, marked, next_line, pass, printed, start, state, document_in}
use Rattle.yf_print.specs.Passes.PrintWork.{Work, remarks_of}
use Rattle.yf_print.specs.Layouts.Rows.{Row, beginning_at, directive_row, document_rows, end_rows, rows, start_row, stream_rows, all_rows, bare_rows, begun_at}
use Rattle.yf_forms.proofs.Decide.AmongLemmas.{Among, back, after_first, front}
use Rattle.yf_forms.proofs.Decide.CountLemmas.{node_forms, two_counts}
use Rattle.yf_laws.proofs.Printer.FedLemmas.{fed}
use Rattle.yf_laws.proofs.Printer.JoinLemmas.{fed_append}
use Rattle.yf_laws.proofs.Printer.LeafPrinted.{setting_in}
use Rattle.yf_laws.proofs.Printer.NodesPrinted.{node_reaches}
use Rattle.yf_laws.proofs.Printer.NotedLemmas.{Known}
use Rattle.yf_laws.proofs.Printer.PrintNodes.{At, nests}
use Rattle.yf_laws.proofs.Printer.Reaching.{Part, back_part, front_part}
use Rattle.yf_laws.proofs.Printer.SkipLemmas.{document_fed, pass_append}
use Rattle.yf_laws.proofs.NormalForms.StyledTwice.{House}
use Rattle.yf_print.specs.Layouts.BareSearch.{is_found_bare}
use Rattle.yf_laws.specs.Layouts.FitDocuments.{FitsBare, fits_bare}
use Rattle.yf_events.specs.declared.event.Span.{Span}
use Rattle.yf_chars.proofs.Tests.{below}

-- a document of a normal form, with at most n open collections
pub record IsNormal (c : LayoutSetting) (n : ℕ) (d : DocumentTree) : Type 0 where
  pub house : House c d.root
  pub settled : settled c (root_margins c.style) d.root ≡ d.root
  pub nests : nests n d.root ≡ true

pub data AreNormal (c : LayoutSetting) (n : ℕ) : List DocumentTree → Type 0 where
  no_documents : AreNormal c n []
  one_more : {d : DocumentTree} {ds : List DocumentTree} → IsNormal c n d → AreNormal c n ds → AreNormal c n (d ∷ ds)

abbrev root_site : Known → Site
root_site k = site_at (root_margins k.work.style)

abbrev forms_in : Known → DocumentTree → List Form
forms_in k d = document_forms [] (setting k.work.style []) (setting_in k) d

-- the root of a first document without a `---` has a row
abbrev pub RootsLaid : LayoutSetting → Bool → List DocumentTree → Type 0
RootsLaid c false ds = Unit {0}
RootsLaid c true [] = Unit {0}
RootsLaid c true (d ∷ ds) = rows c (root_margins c.style) d.root ≡ [] → ⊥

-- documents with events that begin at an index
record DocumentsAt (k : Known) (i n : ℕ) (ds : List DocumentTree) : Type 0 where
  are_placed : documents_are_placed ds ≡ true
  begin : keys_begin_in_documents ds ≡ true
  normal : AreNormal (setting_in k) n ds
  among : Among k.work.reading.events (flat_map flat_document ds) i
  forms : Part k.work.forms (flat_map (forms_in k) ds) i
  room : 8 * n + 8 ≤ 2 ^ 64 - 1

-- an event of a document that isn't skipped
looked_at : (g : Work) (i : ℕ) (e : EventInText) (es : List EventInText) (w v : PrintState) → w.done < i → looked g i e w ≡ v → pass g i (e ∷ es) w ≡ pass g (i + 1) es v
unfolding pass
looked_at g i e es w v l h = ap (λ b. pass g (i + 1) es (if b then looked g i e w else w)) (below w.done i l) ∙ ap (pass g (i + 1) es) h

-- the document that begins
document_there : (xs : List Doc) (j : ℕ) (x : Doc) (ys : List Doc) → drop j xs ≡ x ∷ ys → (slice_get xs j ≡ Some x) × (drop (suc j) xs ≡ ys)
document_there [] zero x ys e = absurd cc
document_there [] (suc j) x ys e = absurd cc
document_there (y ∷ xs) zero x ys e = (ap Some cc, cc)
document_there (y ∷ xs) (suc j) x ys e = document_there xs j x ys e

not_first : (j : ℕ) → (j + 1 == 0) ≡ false
not_first j = grind (arith, nat_tests)

-- the `---` of the first document is left out, as the pass finds
abbrev pub leaves_out : Known → Bool
leaves_out k = is_found_bare k.work.reading k.work.style

document_looked : (k : Known) (i j p : ℕ) (is_first : Bool) (x : Doc) (b : Bool) (d : Draft) → slice_get k.work.reading.documents j ≡ Some x → (j == 0) ≡ is_first → (is_first && leaves_out k) ≡ false
    → looked k.work i (unplaced (document_starts b)) (state d [] j p)
    ≡ state (fed (remarks_of k.work) k.trail (beginning_at x.start (end_rows is_first x.directives ++ (map directive_row x.directives ++ (start_row ∷ [])))) d) [] (j + 1) p
document_looked k i j p is_first x b d h f o =
    ap (λ o. state (Printing.document_printed k.work j o d) [] (Printing.documents_after j o) p) h
    ∙ (ap (λ w. state (document_in w k.work j x d) [] (j + 1) p) (ap (λ w. w && leaves_out k) f ∙ o)
    ∙ (ap (λ w. state (marked (document_begun k.work w x (next_line k.work 0 d))) [] (j + 1) p) f
    ∙ ap (λ w. state w [] (j + 1) p) (document_fed k.work k.trail is_first x d)))

bare_looked : (k : Known) (i p : ℕ) (x : Doc) (b : Bool) (d : Draft) → slice_get k.work.reading.documents 0 ≡ Some x → leaves_out k ≡ true
    → looked k.work i (unplaced (document_starts b)) (state d [] 0 p) ≡ state (past k.work.reading.comments x.start d) [] 1 p
bare_looked k i p x b d h o =
    ap (λ w. state (Printing.document_printed k.work 0 w d) [] (Printing.documents_after 0 w) p) h ∙ ap (λ w. state (document_in w k.work 0 x d) [] 1 p) o

pub normal_parts : {c : LayoutSetting} {n : ℕ} {d : DocumentTree} {ds : List DocumentTree} → AreNormal c n (d ∷ ds) → IsNormal c n d × AreNormal c n ds
normal_parts (one_more h t) = (h, t)

-- the root of a document at its site
root_at : (k : Known) (i n : ℕ) (d : DocumentTree) (ds : List DocumentTree) → DocumentsAt k i n (d ∷ ds) → At k (i + 1) n (root_site k) d.root []
root_at k i n d ds a =
    let end : EventInText = unplaced (document_ends d.closed) in
    let c : LayoutSetting = setting_in k in
    let h = (normal_parts a.normal).0 in
    let mine : List Form = forms c (root_site k) (styled [] (setting k.work.style []) d.root) in
    let part : Part k.work.forms mine (i + 1) =
    front_part mine (no_form ∷ []) (back_part (no_form ∷ []) (mine ++ (no_form ∷ [])) (front_part (forms_in k d) (flat_map (forms_in k) ds) a.forms) refl) in
    record {
      laid = record {
        placed = (and_parts (is_placed d.root) (documents_are_placed ds) a.are_placed).0;
        begins = (and_parts (keys_begin d.root) (keys_begin_in_documents ds) a.begin).0;
        house = h.house;
        among = front (flat d.root) (end ∷ []) (after_first (unplaced (document_starts d.marked)) (flat d.root ++ (end ∷ [])) (front (flat_document d) (flat_map flat_document ds) a.among));
      };
      forms = subst (λ x. Part k.work.forms (forms c (root_site k) x) (i + 1)) h.house part;
      settled = h.settled;
      sited = record { column = refl; lines = λ e. refl; no_key = λ e f. refl };
      no_key = λ e. refl;
      nests = h.nests;
      room = let r = a.room in omega (arith, r);
    }

document_count : (k : Known) (d : DocumentTree) → length (forms_in k d) ≡ length (flat_document d)
document_count k d =
    ap suc (two_counts (forms (setting_in k) (root_site k) (styled [] (setting k.work.style []) d.root)) (no_form ∷ []) (flat d.root) (unplaced (document_ends d.closed) ∷ [])
    (node_forms (setting_in k) (root_site k) [] (setting k.work.style []) d.root) refl)

documents_after : (k : Known) (i n : ℕ) (d : DocumentTree) (ds : List DocumentTree) → DocumentsAt k i n (d ∷ ds) → DocumentsAt k (i + length (flat_document d)) n ds
documents_after k i n d ds a = record {
  are_placed = (and_parts (is_placed d.root) (documents_are_placed ds) a.are_placed).1;
  begin = (and_parts (keys_begin d.root) (keys_begin_in_documents ds) a.begin).1;
  normal = (normal_parts a.normal).1;
  among = back (flat_document d) (flat_map flat_document ds) a.among;
  forms = back_part (forms_in k d) (flat_map (forms_in k) ds) a.forms (ap (λ m. i + m) (sym (document_count k d)));
  room = a.room;
}

-- the rows of one document
record Added (k : Known) (i j : ℕ) (d : DocumentTree) (w : PrintState) (e : Draft) : Type 0 where
  done : ℕ
  within : done < i + length (flat_document d)
  is : pass k.work i (flat_document d) w ≡ state e [] (j + 1) done

root_added : (k : Known) (i n j p : ℕ) (t : DocumentTree) (ds : List DocumentTree) (d one : Draft) → DocumentsAt k i n (t ∷ ds) → p < i
    → looked k.work i (unplaced (document_starts t.marked)) (state d [] j p) ≡ state one [] (j + 1) p
    → Added k i j t (state d [] j p) (fed (remarks_of k.work) k.trail (rows (setting_in k) (root_margins k.work.style) t.root) one)
unfolding pass
root_added k i n j p t ds d one a l begun =
    let end : EventInText = unplaced (document_ends t.closed) in
    let mine : List Row = rows (setting_in k) (root_margins k.work.style) t.root in
    let two : Draft = fed (remarks_of k.work) k.trail mine one in
    let reached = (node_reaches k (i + 1) (j + 1) n (root_site k) t.root [] one (root_at k i n t ds a)).goes p (omega (arith, l)) in
    let first = looked_at k.work i (unplaced (document_starts t.marked)) (flat t.root ++ (end ∷ [])) (state d [] j p) (state one [] (j + 1) p) l begun in
    let last = looked_at k.work (i + 1 + length (flat t.root)) end [] (state two [] (j + 1) reached.done) (state two [] (j + 1) reached.done) reached.within refl in
    let long : length (flat t.root ++ (end ∷ [])) ≡ length (flat t.root) + 1 = length-append (flat t.root) (end ∷ []) in
    record {
      done = reached.done;
      within = let r = reached.within in omega (arith, long, r);
      is = first ∙ (pass_append k.work (i + 1) (flat t.root) (end ∷ []) (state one [] (j + 1) p)
          ∙ (ap (pass k.work (i + 1 + length (flat t.root)) (end ∷ [])) reached.is
          ∙ last));
    }

document_added : (k : Known) (i n j p : ℕ) (is_first : Bool) (x : Doc) (t : DocumentTree) (ds : List DocumentTree) (d : Draft) → DocumentsAt k i n (t ∷ ds) → p < i
    → slice_get k.work.reading.documents j ≡ Some x → (j == 0) ≡ is_first → (is_first && leaves_out k) ≡ false
    → Added k i j t (state d [] j p) (fed (remarks_of k.work) k.trail (document_rows (setting_in k) is_first x t) d)
document_added k i n j p is_first x t ds d a l h f o =
    let begins : List Row = beginning_at x.start (end_rows is_first x.directives ++ (map directive_row x.directives ++ (start_row ∷ []))) in
    let mine : List Row = rows (setting_in k) (root_margins k.work.style) t.root in
    subst (λ e. Added k i j t (state d [] j p) e) (sym (fed_append (remarks_of k.work) k.trail begins mine d))
    (root_added k i n j p t ds d (fed (remarks_of k.work) k.trail begins d) a l (document_looked k i j p is_first x t.marked d h f o))

-- rows, with the start of the document on the first
begun_fed : (g : Work) (t : Span → List ℕ) (from : ℕ) (rs : List Row) → (rs ≡ [] → ⊥) → fed (remarks_of g) t rs (past g.reading.comments from no_draft) ≡ fed (remarks_of g) t (begun_at from rs) no_draft
begun_fed g t from [] n = absurd (n refl)
begun_fed g t from (r ∷ rs) n = refl

bare_added : (k : Known) (i n p : ℕ) (x : Doc) (t : DocumentTree) (ds : List DocumentTree) → DocumentsAt k i n (t ∷ ds) → p < i → slice_get k.work.reading.documents 0 ≡ Some x → leaves_out k ≡ true
    → (rows (setting_in k) (root_margins k.work.style) t.root ≡ [] → ⊥) → Added k i 0 t (state no_draft [] 0 p) (fed (remarks_of k.work) k.trail (bare_rows (setting_in k) x t) no_draft)
bare_added k i n p x t ds a l h o some =
    subst (λ e. Added k i 0 t (state no_draft [] 0 p) e) (begun_fed k.work k.trail x.start (rows (setting_in k) (root_margins k.work.style) t.root) some)
    (root_added k i n 0 p t ds no_draft (past k.work.reading.comments x.start no_draft) a l (bare_looked k i p x t.marked no_draft h o))

-- a document, and those after it
document_then : (k : Known) (i n j p : ℕ) (t : DocumentTree) (ds : List DocumentTree) (d one : Draft) (mine others : List Row) (from : Draft) → fed (remarks_of k.work) k.trail mine from ≡ one
    → (added : Added k i j t (state d [] j p) one)
    → (pass k.work (i + length (flat_document t)) (flat_map flat_document ds ++ (unplaced stream_ends ∷ [])) (state one [] (j + 1) added.done)).draft ≡ fed (remarks_of k.work) k.trail others one
    → (pass k.work i (flat_map flat_document (t ∷ ds) ++ (unplaced stream_ends ∷ [])) (state d [] j p)).draft ≡ fed (remarks_of k.work) k.trail (mine ++ others) from
document_then k i n j p t ds d one mine others from e added rest =
    let more : List EventInText = flat_map flat_document ds in
    let last : List EventInText = unplaced stream_ends ∷ [] in
    let next : ℕ = i + length (flat_document t) in
    ap (λ es. (pass k.work i es (state d [] j p)).draft) (append_assoc (flat_document t) more last)
    ∙ (ap (λ (w : PrintState). w.draft) (pass_append k.work i (flat_document t) (more ++ last) (state d [] j p))
    ∙ (ap (λ w. (pass k.work next (more ++ last) w).draft) added.is
    ∙ (rest ∙ (ap (λ w. fed (remarks_of k.work) k.trail others w) (sym e) ∙ sym (fed_append (remarks_of k.work) k.trail mine others from)))))

documents_printed : (k : Known) (i n j p : ℕ) (is_first : Bool) (xs : List Doc) (ds : List DocumentTree) (d : Draft) → DocumentsAt k i n ds → p < i → length xs ≡ length ds
    → drop j k.work.reading.documents ≡ xs → (j == 0) ≡ is_first → (is_first && leaves_out k) ≡ false
    → (pass k.work i (flat_map flat_document ds ++ (unplaced stream_ends ∷ [])) (state d [] j p)).draft
    ≡ fed (remarks_of k.work) k.trail (stream_rows (setting_in k) is_first xs ds) d
unfolding pass
documents_printed k i n j p is_first [] [] d a l m e f o =
    ap (λ (w : PrintState). w.draft) (looked_at k.work i (unplaced stream_ends) [] (state d [] j p) (state d [] j p) l refl)
documents_printed k i n j p is_first [] (t ∷ ds) d a l m e f o = absurd (omega (arith, m))
documents_printed k i n j p is_first (x ∷ xs) [] d a l m e f o = absurd (omega (arith, m))
documents_printed k i n j p is_first (x ∷ xs) (t ∷ ds) d a l m e f o =
    let there = document_there k.work.reading.documents j x xs e in
    let one : Draft = fed (remarks_of k.work) k.trail (document_rows (setting_in k) is_first x t) d in
    let added = document_added k i n j p is_first x t ds d a l there.0 f o in
    let next : ℕ = i + length (flat_document t) in
    document_then k i n j p t ds d one (document_rows (setting_in k) is_first x t) (stream_rows (setting_in k) false xs ds) d refl added
    (documents_printed k next n (j + 1) added.done false xs ds one (documents_after k i n t ds a) added.within (omega (arith, m))
    (ap (λ q. drop q k.work.reading.documents) (add-one j) ∙ there.1) (not_first j) refl)

-- the first of them without its `---`
bare_printed : (k : Known) (n : ℕ) (x : Doc) (xs : List Doc) (t : DocumentTree) (ds : List DocumentTree) → DocumentsAt k 1 n (t ∷ ds) → length xs ≡ length ds → k.work.reading.documents ≡ x ∷ xs → leaves_out k ≡ true
    → (rows (setting_in k) (root_margins k.work.style) t.root ≡ [] → ⊥)
    → (pass k.work 1 (flat_map flat_document (t ∷ ds) ++ (unplaced stream_ends ∷ [])) (state no_draft [] 0 0)).draft
    ≡ fed (remarks_of k.work) k.trail (bare_rows (setting_in k) x t ++ stream_rows (setting_in k) false xs ds) no_draft
bare_printed k n x xs t ds a m e o some =
    let there = document_there k.work.reading.documents 0 x xs e in
    let one : Draft = fed (remarks_of k.work) k.trail (bare_rows (setting_in k) x t) no_draft in
    let added = bare_added k 1 n 0 x t ds a (omega arith) there.0 o some in
    document_then k 1 n 0 0 t ds no_draft one (bare_rows (setting_in k) x t) (stream_rows (setting_in k) false xs ds) no_draft refl added
    (documents_printed k (1 + length (flat_document t)) n 1 added.done false xs ds one (documents_after k 1 n t ds a) added.within m there.1 refl refl)

-- the whole text consists of its rows
pub stream_printed : (k : Known) (n : ℕ) (ds : List DocumentTree) → k.work.reading.events ≡ flat_stream ds → length k.work.reading.documents ≡ length ds
    → documents_are_placed ds ≡ true → keys_begin_in_documents ds ≡ true → AreNormal (setting_in k) n ds → 8 * n + 8 ≤ 2 ^ 64 - 1
    → k.work.forms ≡ stream_forms [] (setting k.work.style []) (setting_in k) ds → FitsBare (leaves_out k) k.work.reading.documents ds → RootsLaid (setting_in k) (leaves_out k) ds
    → printed k.work ≡ finished (remarks_of k.work) (fed (remarks_of k.work) k.trail (all_rows (setting_in k) (leaves_out k) k.work.reading.documents ds) no_draft)
unfolding pass
stream_printed k n ds e m h b a r f fits laid =
    let es : List EventInText = flat_map flat_document ds in
    let last : List EventInText = unplaced stream_ends ∷ [] in
    let whole : Among k.work.reading.events (flat_stream ds) 0 = record { before = []; after = []; is = e ∙ sym (append-nil (flat_stream ds)); index = refl } in
    let fs : List Form = flat_map (forms_in k) ds in
    let all : Part k.work.forms (stream_forms [] (setting k.work.style []) (setting_in k) ds) 0 =
    record { before = []; after = []; is = f ∙ sym (append-nil (stream_forms [] (setting k.work.style []) (setting_in k) ds)); index = refl } in
    let at : DocumentsAt k 1 n ds = record {
      are_placed = h;
      begin = b;
      normal = a;
      among = front es last (after_first (unplaced stream_starts) (es ++ last) whole);
      forms = front_part fs (no_form ∷ []) (back_part (no_form ∷ []) (fs ++ (no_form ∷ [])) all refl);
      room = r;
    } in
    ap (λ w. finished (remarks_of k.work) (pass k.work 0 w start).draft) e
    ∙ ap (finished (remarks_of k.work)) (by (leaves_out k) k.work.reading.documents ds refl refl fits laid at m) where
      by : (bare : Bool) (xs : List Doc) (ts : List DocumentTree) → leaves_out k ≡ bare → k.work.reading.documents ≡ xs → FitsBare bare xs ts → RootsLaid (setting_in k) bare ts → DocumentsAt k 1 n ts → length xs ≡ length ts
          → (pass k.work 1 (flat_map flat_document ts ++ (unplaced stream_ends ∷ [])) (state no_draft [] 0 0)).draft ≡ fed (remarks_of k.work) k.trail (all_rows (setting_in k) bare xs ts) no_draft
      by false xs ts o q fits laid at m = documents_printed k 1 n 0 0 true xs ts no_draft at (omega arith) m q refl o
      by true [] ts o q fits laid at m = elim fits [ ]
      by true (x ∷ xs) [] o q fits laid at m = elim fits [ ]
      by true (x ∷ xs) (t ∷ ts) o q (fits_bare none some) laid at m = bare_printed k n x xs t ts at (omega (arith, m)) q o laid
