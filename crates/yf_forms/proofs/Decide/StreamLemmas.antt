-- The pass over the events of a stream notes the forms of its documents.
use Rattle.std.proofs.Common.{◌≡◌, ℕ, suc, ◌+◌, true, List, [], ◌∷◌, ◌++◌, length, flat_map, refl, sym, ap, ◌∙◌, subst, arith, append_assoc, append-nil}
use Rattle.std.proofs.lemmas.Bool.{and_parts}
use Rattle.std.proofs.lemmas.List.{length-append}
use Rattle.yf_comments.specs.Comment.{CommentValue}
use Rattle.yf_events.specs.Event.{EventInText, stream_starts, stream_ends, document_starts, document_ends}
use Rattle.yf_events.specs.declared.lists.Lists.{Lists}
use Rattle.yf_forms.specs.declared.form.decide.Form.{Form}
use Rattle.yf_forms.specs.declared.form.measure.Measure.{Measure}
use Rattle.yf_forms.specs.declared.style.Style.{Style}
use Rattle.yf_forms.specs.Passes.DecidePass.{given, DecideState, state, pass}
use Rattle.yf_forms.specs.NormalForms.Forms.{Site, site_at, forms, no_form, document_forms, stream_forms, is_placed, documents_are_placed}
use Rattle.yf_forms.specs.NormalForms.Measures.{AreMeasures}
use Rattle.yf_forms.specs.NormalForms.Normal.{setting_of, root_margins, styled}
use Rattle.yf_events.specs.Tree.{DocumentTree, TreesOf, flat, flat_document, flat_stream, unplaced}
use Rattle.yf_forms.proofs.Decide.AmongLemmas.{Among, front, back, after_first}
use Rattle.yf_forms.proofs.Decide.CountLemmas.{node_forms}
use Rattle.yf_forms.proofs.Decide.FormLemmas.{by_of, Known, given_of, run, enclosed, AtSite, node_passed}
use Rattle.yf_forms.proofs.Decide.RunLemmas.{looked_at, passed_over}

root_site : Known → Site
root_site k = site_at (root_margins k.setting.style)

root_there : (k : Known) (d : DocumentTree) (i : ℕ) → AtSite k d.root i [] [] (root_site k)
unfolding root_site
root_there k d i = record { place = refl; stack_is = refl }

document_passed : (k : Known) (p : ℕ) (list : List Form) (d : DocumentTree) (rest : List EventInText) → is_placed d.root ≡ true
    → Among k.events (flat_document d) (suc p) → length list ≡ suc p
    → run k (flat_document d ++ rest) (state list [] p)
    ≡ run k rest (state (list ++ document_forms k.text (by_of k) k.setting d) [] (p + length (flat_document d)))
unfolding pass root_site
document_passed k p list d rest h a l =
    let start : EventInText = unplaced (document_starts d.marked) in
    let end : EventInText = unplaced (document_ends d.closed) in
    let first : List Form = list ++ no_form ∷ [] in
    let fs : List Form = forms k.setting (root_site k) (styled k.text (by_of k) d.root) in
    let all : List Form = first ++ fs in
    let one : length first ≡ length list + 1 = length-append list (no_form ∷ []) in
    let one' : length first ≡ suc (suc p) = omega (arith, one, l) in
    let n : length fs ≡ length (flat d.root) = node_forms k.setting (root_site k) k.text (by_of k) d.root in
    let count : length all ≡ length first + length fs = length-append first fs in
    let inner : length (flat d.root ++ (end ∷ [])) ≡ length (flat d.root) + 1 = length-append (flat d.root) (end ∷ []) in
    let done : length all ≡ p + length (flat_document d) = omega (arith, count, one, n, inner, l) in
    let next_to : suc p + 1 ≡ suc (suc p) = omega arith in
    let within : Among k.events (flat d.root) (suc (suc p)) =
    subst (λ i. Among k.events (flat d.root) i) next_to (front (flat d.root) (end ∷ []) (after_first start (flat d.root ++ (end ∷ [])) a)) in
    ap (run k ((flat d.root ++ (end ∷ [])) ++ rest)) (looked_at (given_of k) k.measures start.event (suc p) list [] p (omega arith) l)
    ∙ ap (λ w. run k w (state first [] (suc p))) (append_assoc (flat d.root) (end ∷ []) rest)
    ∙ node_passed k (suc p) first [] [] (root_site k) d.root (end ∷ rest) h within one' (root_there k d (suc (suc p)))
    ∙ ap (run k rest) (looked_at (given_of k) k.measures end.event (length all) all [] (suc p + length (flat d.root)) (omega (arith, count, one, n, l)) refl)
    ∙ ap (λ w. run k rest (state w [] (length all))) (enclosed list fs no_form no_form)
    ∙ ap (λ n. run k rest (state (list ++ (no_form ∷ (fs ++ (no_form ∷ [])))) [] n)) done

document_count : (k : Known) (d : DocumentTree) → length (document_forms k.text (by_of k) k.setting d) ≡ length (flat_document d)
unfolding root_site
document_count k d =
    let fs : List Form = forms k.setting (root_site k) (styled k.text (by_of k) d.root) in
    let n : length fs ≡ length (flat d.root) = node_forms k.setting (root_site k) k.text (by_of k) d.root in
    let a : length (fs ++ (no_form ∷ [])) ≡ length fs + 1 = length-append fs (no_form ∷ []) in
    let b : length (flat d.root ++ (unplaced (document_ends d.closed) ∷ [])) ≡ length (flat d.root) + 1 = length-append (flat d.root) _ in
    omega (arith, n, a, b)

documents_count : (k : Known) (ds : List DocumentTree)
    → length (flat_map (document_forms k.text (by_of k) k.setting) ds) ≡ length (flat_map flat_document ds)
documents_count k [] = refl
documents_count k (d ∷ ds) =
    let a = document_count k d in
    let b = documents_count k ds in
    let e : length (document_forms k.text (by_of k) k.setting d ++ flat_map (document_forms k.text (by_of k) k.setting) ds)
    ≡ length (document_forms k.text (by_of k) k.setting d) + length (flat_map (document_forms k.text (by_of k) k.setting) ds) = length-append (document_forms k.text (by_of k) k.setting d) _ in
    let f : length (flat_document d ++ flat_map flat_document ds) ≡ length (flat_document d) + length (flat_map flat_document ds) =
    length-append (flat_document d) _ in
    omega (arith, a, b, e, f)

documents_passed : (k : Known) (p : ℕ) (list : List Form) (ds : List DocumentTree) (rest : List EventInText) → documents_are_placed ds ≡ true
    → Among k.events (flat_map flat_document ds) (suc p) → length list ≡ suc p
    → run k (flat_map flat_document ds ++ rest) (state list [] p)
    ≡ run k rest (state (list ++ flat_map (document_forms k.text (by_of k) k.setting) ds) [] (p + length (flat_map flat_document ds)))
documents_passed k p list [] rest h a l =
    let done : p ≡ p + 0 = omega arith in
    ap (λ w. run k rest (state w [] p)) (sym (append-nil list)) ∙ ap (λ n. run k rest (state (list ++ []) [] n)) done
documents_passed k p list (d ∷ ds) rest h a l =
    let es : List EventInText = flat_document d in
    let more : List EventInText = flat_map flat_document ds in
    let fs : List Form = document_forms k.text (by_of k) k.setting d in
    let gs : List Form = flat_map (document_forms k.text (by_of k) k.setting) ds in
    let moved : suc p + length es ≡ suc (p + length es) = omega arith in
    let longer : length (list ++ fs) ≡ length list + length fs = length-append list fs in
    let count = document_count k d in
    let n : length (es ++ more) ≡ length es + length more = length-append es more in
    let done : p + length es + length more ≡ p + length (es ++ more) = omega (arith, n) in
    ap (λ w. run k w (state list [] p)) (append_assoc es more rest)
    ∙ document_passed k p list d (more ++ rest) (and_parts _ _ h).0 (front es more a) l
    ∙ documents_passed k (p + length es) (list ++ fs) ds rest (and_parts _ _ h).1 (subst (λ i. Among k.events more i) moved (back es more a)) (omega (arith, longer, count, l))
    ∙ ap (λ w. run k rest (state w [] (p + length es + length more))) (append_assoc list fs gs)
    ∙ ap (λ n. run k rest (state (list ++ (fs ++ gs)) [] n)) done

stream_passed : (k : Known) (ds : List DocumentTree) → k.events ≡ flat_stream ds → documents_are_placed ds ≡ true
    → (run k (flat_stream ds) (state [] [] 0)).list ≡ stream_forms k.text (by_of k) k.setting ds
unfolding pass
stream_passed k ds e h =
    let end : EventInText = unplaced stream_ends in
    let es : List EventInText = flat_map flat_document ds in
    let fs : List Form = flat_map (document_forms k.text (by_of k) k.setting) ds in
    let all : List Form = no_form ∷ fs in
    let whole : Among k.events (flat_stream ds) 0 = record { before = []; after = []; is = e ∙ sym (append-nil (flat_stream ds)); index = refl } in
    let within : Among k.events es 1 = front es (end ∷ []) (after_first (unplaced stream_starts) (es ++ (end ∷ [])) whole) in
    let same : length fs ≡ length es = documents_count k ds in
    let past_documents : run k (es ++ (end ∷ [])) (state (no_form ∷ []) [] 0) ≡ run k (end ∷ []) (state all [] (0 + length es)) =
    documents_passed k 0 (no_form ∷ []) ds (end ∷ []) h within refl in
    ap (λ (f : DecideState). f.list)
    (ap (run k (es ++ (end ∷ []))) (passed_over (given_of k) k.measures stream_starts [] [] 0 (omega arith))
    ∙ past_documents
    ∙ looked_at (given_of k) k.measures stream_ends (length all) all [] (0 + length es) (omega (arith, same)) refl)

-- the pass over a reading's events gives the forms of its trees
pub decides : (r : Lists) (s : Style) (ms : List Measure) (t : List ℕ) (cs : List CommentValue) (ds : List DocumentTree) → TreesOf r ds
    → documents_are_placed ds ≡ true → AreMeasures t (record { style = s; comments = cs }) r.events ms
    → (pass (given s r.comments r.events) ms r.events (state [] [] 0)).list ≡ stream_forms t (record { style = s; comments = cs }) (setting_of r s) ds
decides r s ms t cs ds trees h measured =
    ap (λ es. (pass (given s r.comments r.events) ms es (state [] [] 0)).list) trees.events
    ∙ stream_passed (record { text = t; others = cs; setting = setting_of r s; events = r.events; measures = ms; measured = measured }) ds trees.events h
