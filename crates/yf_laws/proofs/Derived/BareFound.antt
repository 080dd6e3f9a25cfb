-- The first comment after the start of the first document decides whether its `---` is left out: if that comment isn't
-- before the first leaf, no later one is.
use Rattle.std.proofs.Common.{◌≡◌, ◌≢◌, ℕ, suc, ◌+◌, ◌<◌, ◌≤◌, Bool, true, false, true≢false, ◌&&◌, ◌||◌, List, [], ◌∷◌, refl, sym, ap, ◌∙◌, subst, arith}
use Rattle.std.specs.Prelude.{◌==◌, count_by, is_some, nat_lt, not, option_map, slice_get, if◌then◌else◌}
use Rattle.std.specs.List.{list_any}
use Rattle.std.specs.Str.{IsUtf8}
use Rattle.std.proofs.lemmas.Bool.{and_parts}
use Rattle.std.proofs.lemmas.Bool.Decides.{nat_tests}
use Rattle.yf_chars.specs.Text.{code}
use Rattle.yf_comments.specs.Comment.{CommentValue}
use Rattle.yf_events.proofs.TreeLemmas.{trees_unique}
use Rattle.yf_events.specs.Reading.{documents_before, leaf_starts, leaves_before}
use Rattle.yf_events.specs.Tree.{DocumentTree, TreesOf, standing}
use Rattle.yf_events.specs.declared.document.Doc.{Doc}
use Rattle.yf_events.specs.declared.lists.Lists.{Lists}
use Rattle.yf_grammar.proofs.NodesInText.NodePlaces.{node_order}
use Rattle.yf_stream.proofs.Offsets.DirectiveOrder.{directives_order}
use Rattle.yf_stream.proofs.Offsets.ReadingTrees.{TreesStand, no_trees_stand, tree_is_at}
use Rattle.yf_forms.specs.declared.style.Style.{Style}
use Rattle.yf_print.specs.Layouts.BareSearch.{is_found_bare, is_leading, is_led_from}
use Rattle.yf_forms.specs.NormalForms.BareStart.{begins_bare, has_lead, is_bare, keeps_starts, leads}
use Rattle.yf_forms.specs.Passes.Searches.{count_to}
use Rattle.yf_laws.specs.Layouts.FitDocuments.{FitDocuments, fit_document, FitsBare, fits_bare, fit_no_documents}
use Rattle.yf_laws.specs.Layouts.ReadableTrees.{Fit}
use Rattle.yf_forms.specs.NormalForms.Normal.{LayoutSetting, root_margins, setting_of}
use Rattle.yf_laws.specs.NormalForms.NormalForm.{NormalForm}
use Rattle.yf_print.specs.Layouts.Rows.{rows}
use Rattle.yf_laws.proofs.Derived.BareReadings.{bare_begins, normal_begins, reading_begins}
use Rattle.yf_laws.proofs.SameReading.CommentsCut.{In, in_first, in_rest, Upward, upward_none, upward_more}
use Rattle.yf_laws.proofs.SameReading.DocumentsFound.{document_starts, documents_are}
use Rattle.yf_laws.proofs.Printer.DocumentsPrinted.{RootsLaid}
use Rattle.yf_laws.proofs.Derived.NodesMade.{Claim, no_row, some_rows}
use Rattle.yf_laws.proofs.SameReading.QuietTrees.{Free, free_at}
use Rattle.yf_laws.proofs.SameReading.SourceOffsets.{source_is_at}
use Rattle.yf_laws.proofs.Derived.SpannedNodes.{meant_none}
use Rattle.yf_laws.proofs.SameReading.StartsBefore.{AllFrom, none_later, one_later, later_from, none_before, one_before, starts_before, starts_more}
use Rattle.yf_laws.proofs.Derived.TreesMade.{node_claim}
use Rattle.yf_laws.proofs.Writable.TreesRead.{reading_bare, reading_fits}
use Rattle.yf_laws.proofs.NormalForms.NormalParts.{trees_in, trees_of}

-- Places as tests.

abbrev pub at_lead : ℕ → ℕ → Bool
at_lead n m = (n == 1) && (m == 0)

pub lead_parts : (n m : ℕ) → at_lead n m ≡ true → (n ≡ 1) × (m ≡ 0)
lead_parts n m e =
    let p = and_parts (n == 1) (m == 0) e in
    let one : (n == 1) ≡ true = p.0 in
    let none : (m == 0) ≡ true = p.1 in
    (grind (arith, nat_tests), grind (arith, nat_tests))

pub lead_there : (n m : ℕ) → n ≡ 1 → m ≡ 0 → at_lead n m ≡ true
lead_there n m e f = ap (λ k. at_lead k m) e ∙ ap (λ k. at_lead 1 k) f

no_lead : (n m : ℕ) → n ≡ 0 → at_lead n m ≡ false
no_lead n m e = ap (λ k. at_lead k m) e

-- `list_any` is false if the test fails for each comment of the list
any_false : (p : CommentValue → Bool) (cs : List CommentValue) → ((c : CommentValue) → In c cs → p c ≡ false) → list_any p cs ≡ false
any_false p [] n = refl
any_false p (c ∷ cs) n = ap (λ b. b || list_any p cs) (n c in_first) ∙ any_false p cs (λ d i. n d (in_rest i))

upward_from : {i : ℕ} {cs : List CommentValue} (c : CommentValue) → Upward i cs → In c cs → i ≤ c.offset
upward_from c upward_none i = elim i [ ]
upward_from c (upward_more l a) in_first = l
upward_from c (upward_more l a) (in_rest i) = let m = upward_from c a i in omega (arith, l, m)

module _ (r : Lists) (start : ℕ) (others : List ℕ) (are : document_starts r.documents ≡ start ∷ others) (from : AllFrom start others) where
  documents_at : (o : ℕ) → documents_before r o ≡ starts_before (start ∷ others) o
  documents_at o = documents_are r.documents o ∙ ap (λ ss. starts_before ss o) are

  early : (o : ℕ) → o ≤ start → at_lead (documents_before r o) (leaves_before r o) ≡ false
  early o l = no_lead (documents_before r o) (leaves_before r o) (documents_at o ∙ none_before (one_later l (later_from l from)))

  earlier : (o p : ℕ) → start < o → o ≤ p → at_lead (documents_before r p) (leaves_before r p) ≡ true → at_lead (documents_before r o) (leaves_before r o) ≡ true
  earlier o p l m e =
      let there = lead_parts (documents_before r p) (leaves_before r p) e in
      let documents : documents_before r p ≡ 1 = there.0 in
      let leaves : leaves_before r p ≡ 0 = there.1 in
      let one : starts_before (start ∷ others) o ≡ 1 + starts_before others o = one_before start o others l in
      let more : starts_before (start ∷ others) o ≤ starts_before (start ∷ others) p = starts_more (start ∷ others) o p m in
      let fewer : leaves_before r o ≤ leaves_before r p = starts_more (leaf_starts r.events) o p m in
      let here = documents_at o in
      let after = documents_at p in
      lead_there (documents_before r o) (leaves_before r o) (omega (arith, documents, one, more, here, after)) (omega (arith, leaves, fewer))

  abbrev led_at : List CommentValue → ℕ → Bool
  led_at cs k = is_leading (option_map (λ c. (documents_before r c.offset, leaves_before r c.offset)) (slice_get cs k))

  led_step : (c : CommentValue) (cs : List CommentValue) → Upward (c.offset + 1) cs → Free (c ∷ cs) start → list_any (leads r) cs ≡ led_at cs (count_to start cs)
      → list_any (leads r) (c ∷ cs) ≡ led_at (c ∷ cs) (count_to start (c ∷ cs))
  led_step c cs up free rest = by (nat_lt c.offset start) refl where
    later : (d : CommentValue) → In d cs → c.offset ≤ d.offset
    later d i = let m = upward_from d up i in omega (arith, m)

    turned : (b d : Bool) → (d ≡ true → b ≡ true) → b ≡ false → d ≡ false
    turned b true f e = absurd (true≢false (sym (f refl) ∙ e))
    turned b false f e = refl

    none_after : start < c.offset → leads r c ≡ false → list_any (leads r) cs ≡ false
    none_after m e = any_false (leads r) cs (λ d i. turned (leads r c) (leads r d) (earlier c.offset d.offset m (later d i)) e)

    alone : (b : Bool) → leads r c ≡ b → (leads r c ≡ false → list_any (leads r) cs ≡ false) → (leads r c || list_any (leads r) cs) ≡ leads r c
    alone true e f = ap (λ b. b || list_any (leads r) cs) e ∙ sym e
    alone false e f = ap (λ b. b || list_any (leads r) cs) e ∙ (f e ∙ sym e)

    low : (o : ℕ) → nat_lt o start ≡ true → o ≤ start
    low o e = grind (arith, nat_tests)

    high : (o : ℕ) → nat_lt o start ≡ false → start ≤ o
    high o e = grind (arith, nat_tests)

    by : (b : Bool) → nat_lt c.offset start ≡ b → (leads r c || list_any (leads r) cs) ≡ led_at (c ∷ cs) (if b then suc (count_to start cs) else 0)
    by true e = ap (λ b. b || list_any (leads r) cs) (early c.offset (low c.offset e)) ∙ rest
    by false e =
        let m : start ≤ c.offset = high c.offset e in
        let apart : c.offset ≢ start = free c in_first in
        alone (leads r c) refl (none_after (omega (arith, m, apart)))

  led_first : (cs : List CommentValue) {i : ℕ} → Upward i cs → Free cs start → list_any (leads r) cs ≡ led_at cs (count_to start cs)
  led_first [] up free = refl
  led_first (c ∷ cs) (upward_more l up) free = led_step c cs up free (led_first cs up (λ d i. free d (in_rest i)))

-- For the normal form of a reading.

starts_from : {t : List ℕ} {i : ℕ} {ds : List Doc} {trees : List DocumentTree} → TreesStand t i ds trees → AllFrom i (document_starts ds)
starts_from (no_trees_stand l) = none_later
starts_from (tree_is_at a b more z) =
    let l = directives_order a in
    let m = node_order b in
    one_later l (later_from (omega (arith, l, m)) (starts_from more))

none_led : (r : Lists) (cs : List CommentValue) → r.documents ≡ [] → list_any (leads r) cs ≡ false
none_led r cs e = any_false (leads r) cs (λ c i. no_lead (documents_before r c.offset) (leaves_before r c.offset) (ap (λ ds. count_by (λ (d : Doc). nat_lt d.start c.offset) ds) e))

led_is : {t : List ℕ} {i : ℕ} {trees : List DocumentTree} (r : Lists) (ds : List Doc) → IsUtf8 t → r.documents ≡ ds → TreesStand t i ds trees → Upward 0 r.comments → ((d : CommentValue) → In d r.comments → code t d.offset ≡ 35)
    → has_lead r ≡ is_led_from r ds
led_is r [] u e stand up sign = none_led r r.comments e
led_is r (d ∷ ds) u e (tree_is_at a b more z) up sign =
    let m = node_order b in
    led_first r d.start (document_starts ds) (ap document_starts e) (later_from (omega (arith, m)) (starts_from more)) r.comments up (free_at u r.comments sign z.start)
    ∙ ap (λ n. is_leading (option_map (λ (c : CommentValue). (documents_before r c.offset, leaves_before r c.offset)) (slice_get r.comments n))) (zero_more (count_to d.start r.comments)) where
      zero_more : (n : ℕ) → n ≡ 0 + n
      zero_more n = omega arith

pub found_bare : (m : Lists) (s : Style) → NormalForm m s → is_found_bare m s ≡ is_bare m s
found_bare m s f =
    let w = source_is_at f.text s f.reading f.is.trees f.utf8 f.reads f.is.of_reading in
    let comments : m.comments ≡ f.reading.comments = ap (λ (z : Lists). z.comments) f.is.is in
    let documents : m.documents ≡ f.reading.documents = ap (λ (z : Lists). z.documents) f.is.is in
    let led : has_lead m ≡ is_led_from m f.reading.documents =
    led_is m f.reading.documents f.utf8 documents w.stand (subst (λ cs. Upward 0 cs) (sym comments) w.order) (λ d i. w.sign d (subst (λ cs. In d cs) comments i)) in
    ap (λ b. keeps_starts s && (begins_bare m.events && not b)) (ap (is_led_from m) documents ∙ sym led)

-- Its documents.

record FormDocuments (m : Lists) (s : Style) (ds : List DocumentTree) : Type 0 where
  fits : FitDocuments s m.documents ds
  bare : FitsBare (is_found_bare m s) m.documents ds

form_documents : (m : Lists) (s : Style) (f : NormalForm m s) (ds : List DocumentTree) → TreesOf m ds → FormDocuments m s ds
form_documents m s f ds a =
    let c : LayoutSetting = setting_of f.reading s in
    let trees : List DocumentTree = trees_in f in
    let documents : m.documents ≡ f.reading.documents = ap (λ (z : Lists). z.documents) f.is.is in
    let b = is_found_bare m s in
    let same : trees ≡ ds = trees_unique m trees ds (trees_of f) a in
    record {
      fits = subst (λ xs. FitDocuments s m.documents xs) same (subst (λ es. FitDocuments s es trees) (sym documents) (reading_fits f.utf8 f.text c f.reads f.is.of_reading));
      bare = subst (λ xs. FitsBare b m.documents xs) same (subst (λ es. FitsBare b es trees) (sym documents)
          (reading_bare f.utf8 f.text c b f.reads f.is.of_reading (λ e. sym (reading_begins f.reads) ∙ (sym (normal_begins f.is) ∙ bare_begins m s (sym (found_bare m s f) ∙ e)))));
    }

pub rows_some : (c : LayoutSetting) {x : _} → Fit c.style x → is_some (standing x).span ≡ true → rows c (root_margins c.style) x ≡ [] → ⊥
rows_some c {x} fit some e = by (node_claim c (root_margins c.style) fit) e where
  by : {rs : List _} → Claim c x (root_margins c.style) rs → rs ≡ [] → ⊥
  by (no_row m) e = true≢false (sym some ∙ meant_none 0 (m.meant 0))
  by (some_rows f g m) e = cc

pub laid_by : (c : LayoutSetting) (b : Bool) {es : List Doc} {xs : List DocumentTree} → FitDocuments c.style es xs → FitsBare b es xs → RootsLaid c b xs
laid_by c false fits bare = tt
laid_by c true fit_no_documents bare = elim bare [ ]
laid_by c true (fit_document g fit more) (fits_bare none some) = rows_some c fit some

first_leads : (r : Lists) (b : Bool) {c d : CommentValue} {cs : List CommentValue} → leads r c ≡ b → (list_any (leads r) cs ≡ false → In d cs → leads r d ≡ false) → (b || list_any (leads r) cs) ≡ false → In d (c ∷ cs) → leads r d ≡ false
first_leads r true f k g j = absurd (true≢false g)
first_leads r false f k g in_first = f
first_leads r false f k g (in_rest j) = k g j

pub none_leads : (r : Lists) (cs : List CommentValue) (d : CommentValue) → list_any (leads r) cs ≡ false → In d cs → leads r d ≡ false
none_leads r [] d e i = elim i [ ]
none_leads r (c ∷ cs) d e i = first_leads r (leads r c) refl (none_leads r cs d) e i

pub form_bare : (m : Lists) (s : Style) (f : NormalForm m s) (ds : List DocumentTree) → TreesOf m ds → FitsBare (is_found_bare m s) m.documents ds
form_bare m s f ds a = (form_documents m s f ds a).bare

pub form_laid : (m : Lists) (s : Style) (f : NormalForm m s) (ds : List DocumentTree) → TreesOf m ds → RootsLaid (setting_of m s) (is_found_bare m s) ds
form_laid m s f ds a = let w = form_documents m s f ds a in laid_by (setting_of m s) (is_found_bare m s) w.fits w.bare
