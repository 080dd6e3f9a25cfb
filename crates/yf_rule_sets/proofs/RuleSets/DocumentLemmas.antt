-- Laws of the starts of documents.
use Rattle.std.proofs.Common.{◌≡◌, ◌≢◌, ℕ, ◌+◌, ◌<◌, ◌≤◌, Bool, true, false, List, ◌∷◌, ◌++◌, Option, Some, None, length, drop, get_or, add-one, append_assoc, refl, sym, subst, ap, ◌∙◌, ◌⊎◌, ⊎_elim, arith, true≢false}
use Rattle.std.specs.Option.{option_to_list}
use Rattle.std.specs.Prelude.{slice_get, IfSome}
use Rattle.std.specs.Str.{IsCharBoundary}
use Rattle.std.proofs.lemmas.Bool.{cases_Bool}
use Rattle.std.proofs.lemmas.List.{append-nil, drop_all, length-map}
use Rattle.std.proofs.lemmas.Option.{slice_get_within, slice_get_cases, slice_get_read, slice_get-get_or, get_or_from_slice_get, same_Some}
use Rattle.std.proofs.Math.Seq.{drop-cons}
use Rattle.yf_events.specs.Event.{EventValue}
use Rattle.yf_events.specs.Reading.{events_of}
use Rattle.yf_events.specs.declared.document.Doc.{Doc}
use Rattle.yf_events.specs.declared.lists.Lists.{Lists}
use Rattle.yf_rule_sets.specs.RuleSets.Documents.{IsUnmarked, NoMarkerLine, markers_in, may_be_bare}
use Rattle.yf_rule_sets.specs.RuleSets.Documents.IsUnmarked.{without_marker, not_alone}
use Rattle.yf_rule_sets.specs.RuleSets.Documents.NoMarkerLine.{of_document}
use Rattle.yf_rule_sets.specs.RuleSets.Exact.{IsTheOne, Sole}
use Rattle.yf_lines.proofs.BasicLemmas.{white_below}
use Rattle.yf_chars.specs.Chain.{Many}
use Rattle.yf_chars.specs.Chain.Chain.{done, step}
use Rattle.yf_chars.specs.Chain.One.{one}
use Rattle.yf_chars.specs.Class.{is_break_char, is_white}
use Rattle.yf_chars.specs.Text.{begins, code, no_char}
use Rattle.yf_chars.proofs.BreakChars.{no_break}
use Rattle.yf_chars.proofs.ChainLemmas.{many_unique}
use Rattle.yf_chars.proofs.TextLemmas.{boundary_from_begins, code-nowhere, code-past}
use Rattle.yf_lines.proofs.LineLemmas.{break_char_cases}
use Rattle.yf_rule_sets.specs.RuleSets.Whites.{IsAlone}
use Rattle.yf_rule_sets.proofs.Texts.WhitesLemmas.{no_white_past}
use Rattle.yf_forms.specs.declared.style.Style.{Style}

starts_there : {t : List ℕ} {m b : Bool} {o x : ℕ} → IsUnmarked t m b o x → x ≡ o
starts_there without_marker = refl
starts_there (not_alone n) = refl

-- a character of a break is not white
white_no_break : (c : ℕ) → is_break_char c ≡ true → is_white c ≡ false
unfolding is_white
white_no_break c e = ⊎_elim (λ (h : c ≡ 13). ap is_white h) (λ (h : c ≡ 10). ap is_white h) (break_char_cases c e)

ends_white : (t : List ℕ) (i : ℕ) → (is_break_char (code t i) ≡ true) ⊎ (i ≡ length t) → is_white (code t i) ≡ false
ends_white t i s = ⊎_elim (λ (e : is_break_char (code t i) ≡ true). white_no_break (code t i) e) (λ (e : i ≡ length t). no_white_past t i (omega (arith, e))) s

-- a character other than white space is after the marker
pub crowded : (t : List ℕ) (marker end : ℕ) (x : List ℕ) → Many t is_white (marker + 3) end x → is_white (code t end) ≡ false
    → is_break_char (code t end) ≡ false → end ≢ length t → IsAlone t marker → ⊥
crowded t marker end x m w b n a =
    let same : a.end ≡ end = (many_unique t is_white a.run (ends_white t a.end a.stops) m w).0 in
    ⊎_elim (λ (e : is_break_char (code t a.end) ≡ true). true≢false (sym e ∙ ap (λ k. is_break_char (code t k)) same ∙ b))
    (λ (e : a.end ≡ length t). n (sym same ∙ e)) a.stops

stuck_there : {t : List ℕ} {i j : ℕ} {x : List ℕ} → Many t is_white i j x → is_white (code t i) ≡ false → i ≡ j
stuck_there done e = refl
stuck_there (step (one a) c) e = absurd (true≢false (sym a ∙ e))

-- nothing is after a marker past the end
pub beyond_text : (t : List ℕ) (marker : ℕ) → length t ≤ marker → IsAlone t marker → ⊥
beyond_text t marker l a =
    let same : marker + 3 ≡ a.end = stuck_there a.run (no_white_past t (marker + 3) (omega (arith, l))) in
    ⊎_elim (λ (e : is_break_char (code t a.end) ≡ true). no_break_past t a.end (omega (arith, l, same)) e)
    (λ (e : a.end ≡ length t). omega (arith, l, same, e)) a.stops
  where
    no_break_past : (t : List ℕ) (i : ℕ) → length t ≤ i → is_break_char (code t i) ≡ true → ⊥
    no_break_past t i h e = ⊎_elim (λ (q : code t i ≡ 13). absurd (let n = code-past t i h in omega (arith, n, q))) (λ (q : code t i ≡ 10). absurd (let n = code-past t i h in omega (arith, n, q))) (break_char_cases (code t i) e)

-- a character begins at a boundary
pub char_boundary : (t : List ℕ) (i : ℕ) → code t i < no_char → IsCharBoundary t i
char_boundary t i h =
    ⊎_elim (λ (e : begins t i ≡ true). boundary_from_begins t i e) (λ (e : begins t i ≡ false). absurd (let n = code-nowhere t i e in omega (arith, n, h)))
    (cases_Bool (begins t i))

break_below : (c : ℕ) → is_break_char c ≡ true → c < no_char
break_below c e = ⊎_elim (λ (h : c ≡ 13). omega arith) (λ (h : c ≡ 10). omega arith) (break_char_cases c e)

-- nothing is after a marker that ends within a character
pub inside_char : (t : List ℕ) (marker : ℕ) → (IsCharBoundary t (marker + 3) → ⊥) → IsAlone t marker → ⊥
inside_char t marker n a = n (by_run a.run a.stops) where
  by_run : {i j : ℕ} {x : List ℕ} → Many t is_white i j x → (is_break_char (code t j) ≡ true) ⊎ (j ≡ length t) → IsCharBoundary t i
  by_run {i = i} done s =
      ⊎_elim (λ (e : is_break_char (code t i) ≡ true). char_boundary t i (break_below (code t i) e))
      (λ (e : i ≡ length t). (omega (arith, e), λ h. absurd (omega (arith, e, h)))) s
  by_run {i = i} (step (one e) c) s = char_boundary t i (let b = white_below (code t i) e in omega (arith, b))

pub alone_at : (t : List ℕ) (marker end : ℕ) → ((x : List ℕ) × Many t is_white (marker + 3) end x) → (is_break_char (code t end) ≡ true) ⊎ (end ≡ length t)
    → IsAlone t marker
alone_at t marker end w s = record { whites = w.0; end = end; run = w.1; stops = s }

pub crowded_at : (t : List ℕ) (marker end : ℕ) → ((x : List ℕ) × Many t is_white (marker + 3) end x) → is_white (code t end) ≡ false
    → code t end ≢ 10 → code t end ≢ 13 → end ≢ length t → IsAlone t marker → ⊥
crowded_at t marker end w e m n l a = crowded t marker end w.0 w.1 e (no_break (code t end) m n) l a

-- documents, and the events that begin them
pub marker_more : (es : List EventValue) (i : ℕ) (e : EventValue) (ms ns : List Bool) → slice_get es i ≡ Some e → ms ++ markers_in (drop i es) ≡ markers_in es
    → ((rest : List EventValue) → markers_in (e ∷ rest) ≡ ns ++ markers_in rest) → (ms ++ ns) ++ markers_in (drop (i + 1) es) ≡ markers_in es
marker_more es i e ms ns q inv f =
    let lt : i < length es = slice_get_within es i e q in
    let d : drop i es ≡ e ∷ drop (i + 1) es =
    subst (λ k. drop i es ≡ get_or es i e ∷ drop k es) (sym (add-one i)) (drop-cons es i e lt) ∙ ap (λ m. m ∷ drop (i + 1) es) (get_or_from_slice_get es i e e q) in
    append_assoc ms ns (markers_in (drop (i + 1) es)) ∙ ap (λ w. ms ++ w) (sym (f (drop (i + 1) es)) ∙ ap markers_in (sym d)) ∙ inv

pub markers_done : (es : List EventValue) (i : ℕ) (ms : List Bool) → length es ≤ i → ms ++ markers_in (drop i es) ≡ markers_in es → ms ≡ markers_in es
markers_done es i ms h inv = sym (append-nil ms) ∙ ap (λ ds. ms ++ markers_in ds) (sym (drop_all i es h)) ∙ inv

-- the document of an index

document_parts : {t : List ℕ} {r : Lists} {s : Style} {k o : ℕ} (d : Doc) (m : Bool) → slice_get r.documents k ≡ Some d → slice_get (markers_in (events_of r)) k ≡ Some m
    → NoMarkerLine t r s k o → IsUnmarked t m (may_be_bare s k) d.start o
document_parts {t} {r} {s} {k} {o} d m e f (of_document {d = d'} {marked = m'} g h u) =
    subst (λ b. IsUnmarked t b (may_be_bare s k) d.start o) (same_Some _ _ (sym h ∙ f)) (subst (λ (v : Doc). IsUnmarked t m' (may_be_bare s k) v.start o) (same_Some _ _ (sym g ∙ e)) u)

pub document_found : (t : List ℕ) (r : Lists) (s : Style) (k o : ℕ) (d : Doc) (m : Bool) → slice_get r.documents k ≡ Some d → slice_get (markers_in (events_of r)) k ≡ Some m
    → Sole (IsUnmarked t m (may_be_bare s k) d.start) o → Sole (NoMarkerLine t r s k) o
document_found t r s k o d m e f a = record { holds = of_document e f a.holds; only = λ x u. a.only x (document_parts d m e f u) }

pub document_none : (t : List ℕ) (r : Lists) (s : Style) (k : ℕ) (d : Doc) (m : Bool) → slice_get r.documents k ≡ Some d → slice_get (markers_in (events_of r)) k ≡ Some m
    → ((o : ℕ) → IsUnmarked t m (may_be_bare s k) d.start o → ⊥) → (o : ℕ) → NoMarkerLine t r s k o → ⊥
document_none t r s k d m e f n o u = n o (document_parts d m e f u)

pub document_within : {t : List ℕ} {r : Lists} {s : Style} {k o : ℕ} → NoMarkerLine t r s k o → (k < length r.documents) × (k < length (markers_in (events_of r)))
document_within {r = r} {k = k} (of_document {d} {marked} g h u) = (slice_get_within r.documents k d g, slice_get_within (markers_in (events_of r)) k marked h)

-- whether the start of a document is at fault
pub marked_alone : (t : List ℕ) (m b : Bool) (o : ℕ) → m ≡ true → IsAlone t o → (x : ℕ) → IsUnmarked t m b o x → ⊥
marked_alone t true b o e a x (not_alone n) = n a
marked_alone t false b o e a x u = absurd (true≢false (sym e))

pub bare_rightly : (t : List ℕ) (m b : Bool) (o : ℕ) → m ≡ false → b ≡ true → (x : ℕ) → IsUnmarked t m b o x → ⊥
bare_rightly t m b o e f x without_marker = true≢false (sym f)
bare_rightly t m b o e f x (not_alone n) = true≢false e

pub marked_crowded : (t : List ℕ) (m b : Bool) (o : ℕ) → m ≡ true → (IsAlone t o → ⊥) → Sole (IsUnmarked t m b o) o
marked_crowded t m b o e n = record { holds = subst (λ v. IsUnmarked t v b o o) (sym e) (not_alone n); only = λ x u. starts_there u }

pub bare_start : (t : List ℕ) (m b : Bool) (o : ℕ) → m ≡ false → b ≡ false → Sole (IsUnmarked t m b o) o
bare_start t m b o e f = record { holds = subst (λ v. IsUnmarked t v b o o) (sym e) (subst (λ v. IsUnmarked t false v o o) (sym f) without_marker); only = λ x u. starts_there u }

pub marker_step : (es : List EventValue) (i : ℕ) (ms new : List Bool) (o : Option Bool) → i < length es → ms ++ markers_in (drop i es) ≡ markers_in es
    → ((rest : List EventValue) → IfSome (slice_get es i) (λ e. markers_in (e ∷ rest) ≡ option_to_list o ++ markers_in rest)) → new ≡ ms ++ option_to_list o
    → new ++ markers_in (drop (i + 1) es) ≡ markers_in es
marker_step es i ms new o l inv f q =
    ⊎_elim (λ (h : (x : EventValue) × (i < length es) × (slice_get es i ≡ Some x) × (get_or es i x ≡ x)).
    let g : (rest : List EventValue) → markers_in (h.0 ∷ rest) ≡ option_to_list o ++ markers_in rest =
    λ rest. subst (λ p. IfSome p (λ e. markers_in (e ∷ rest) ≡ option_to_list o ++ markers_in rest)) h.2 (f rest) in
    subst (λ w. w ++ markers_in (drop (i + 1) es) ≡ markers_in es) (sym q) (marker_more es i h.0 ms (option_to_list o) h.2 inv g))
    (λ (h : (length es ≤ i) × (slice_get es i ≡ None)). absurd (omega (arith, l, h.0)))
    (slice_get_cases es i).1

pub event_count : (r : Lists) → length (events_of r) ≡ length r.events
event_count r = length-map r.events (λ e. e.event)

-- the documents in the code
pub document_answered : (t u : List ℕ) (r : Lists) (s : Style) (ds : List Doc) (ms : List Bool) (k : ℕ) (d : Doc) (m b : Bool) (answer : Option ℕ) → u ≡ t → b ≡ may_be_bare s k → ds ≡ r.documents
    → ms ≡ markers_in (events_of r) → k < length ds → k < length ms → m ≡ get_or ms k m → IsTheOne (IsUnmarked u m b (get_or ds k d).start) answer
    → IsTheOne (NoMarkerLine t r s k) answer
document_answered t u r s ds ms k d m b None e c f g h l q a =
    document_none t r s k (get_or ds k d) m (subst (λ v. slice_get v k ≡ Some (get_or ds k d)) f (slice_get-get_or ds k d h))
    (subst (λ v. slice_get v k ≡ Some m) g (slice_get_read ms (length ms) k m refl l q)) (subst (λ w. (o : ℕ) → IsUnmarked t m w (get_or ds k d).start o → ⊥) c (subst (λ v. (o : ℕ) → IsUnmarked v m b (get_or ds k d).start o → ⊥) e a))
document_answered t u r s ds ms k d m b (Some o) e c f g h l q a =
    document_found t r s k o (get_or ds k d) m (subst (λ v. slice_get v k ≡ Some (get_or ds k d)) f (slice_get-get_or ds k d h))
    (subst (λ v. slice_get v k ≡ Some m) g (slice_get_read ms (length ms) k m refl l q)) (subst (λ w. Sole (IsUnmarked t m w (get_or ds k d).start) o) c (subst (λ v. Sole (IsUnmarked v m b (get_or ds k d).start) o) e a))
