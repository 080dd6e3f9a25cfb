-- The steps of the pass, as the code takes them.
use Rattle.std.proofs.Common.{◌≡◌, ℕ, zero, suc, ◌+◌, ◌-◌, ◌<◌, ◌≤◌, Bool, true, false, ◌&&◌, List, [], ◌∷◌, ◌++◌, length, map, set, get_or, drop, Option, Some, None, refl, sym, ap, ◌∙◌, subst, arith, add-one}
use Rattle.std.specs.Prelude.{reverse, nat_lt, slice_get, is_some, MatchOption, IfSome}
use Rattle.std.specs.Str.{chars, IsUtf8, is_utf8}
use Rattle.std.specs.List.{AllWithin, HoldsAt, list_any}
use Rattle.std.proofs.Math.Seq.{set-append_seam, get_or-append_seam}
use Rattle.std.proofs.lemmas.List.{length-append, reverse-append, drop_all}
use Rattle.std.proofs.lemmas.Str.{IsUtf8-append, IsUtf8-nil, is_utf8-from_IsUtf8}
use Rattle.std.proofs.lemmas.Option.{same_Some}
use Rattle.yf_comments.specs.Comment.{CommentValue, comment_value}
use Rattle.yf_comments.specs.declared.comment.Comment.{Comment}
use Rattle.yf_events.specs.Event.{EventValue, EventInText, stream_starts}
use Rattle.yf_events.specs.declared.event.Span.{Span}
use Rattle.yf_forms.specs.declared.form.ended.Ended.{Ended}
use Rattle.yf_forms.specs.declared.form.measure.Measure.{Measure}
use Rattle.yf_forms.specs.declared.form.collection.Open.{Open}
use Rattle.yf_forms.specs.Passes.FoundInPass.{FoundInPass}
use Rattle.yf_forms.specs.NormalForms.Measures.{up_to_greatest, width_if, joined_width, no_measure, AreMeasures}
use Rattle.yf_forms.specs.Passes.MeasurePass.{found, handed, noted, with_node, passed, past, pass, has_text, have_texts}
use Rattle.yf_forms.specs.NormalForms.Normal.{LayoutSetting}
use Rattle.yf_forms.specs.Nodes.OneLine.{width, spaced}
use Rattle.yf_forms.proofs.Measure.OffsetLemmas.{none_passes, one_passes}
use Rattle.yf_forms.proofs.Texts.WidthLemmas.{cut_both, cut_first, width_join, width_head, width_nil, utf8_head, joined_spaced}
use Rattle.yf_forms.proofs.Measure.MeasuredLemmas.{measured_all, pass_longer}
use Rattle.yf_forms.proofs.ListLemmas.{last_one}

-- widths

-- a text after one character
pub head_wide : (b : ℕ) (text : List ℕ) (n w : ℕ) → nat_lt b 128 ≡ true → n ≡ up_to_greatest (width text) → w ≡ up_to_greatest (n + 1)
    → w ≡ up_to_greatest (width (b ∷ text))
head_wide b text n w l e f =
    let one : width text + 1 ≡ width (b ∷ text) = add-one (width text) ∙ sym (width_head b text l) in
    f ∙ ap (λ k. up_to_greatest (k + 1)) e ∙ cut_first (width text) 1 ∙ ap (λ k. up_to_greatest k) one

pub nil_wide : 0 ≡ up_to_greatest (width [])
nil_wide = sym (ap (λ k. up_to_greatest k) width_nil)

pub verbatim_wide : (text : List ℕ) (n w : ℕ) → IsUtf8 text → n ≡ up_to_greatest (width text) → w ≡ up_to_greatest (n + 3)
    → w ≡ up_to_greatest (width (33 ∷ 60 ∷ (text ++ (62 ∷ []))))
verbatim_wide text n w u e f =
    let a : width (33 ∷ 60 ∷ (text ++ (62 ∷ []))) ≡ suc (width (60 ∷ (text ++ (62 ∷ [])))) = width_head 33 _ refl in
    let b : width (60 ∷ (text ++ (62 ∷ []))) ≡ suc (width (text ++ (62 ∷ []))) = width_head 60 _ refl in
    let d : width (text ++ (62 ∷ [])) ≡ width text + width (62 ∷ []) = width_join text _ u in
    let g : width (62 ∷ []) ≡ 1 = width_head 62 [] refl ∙ ap suc width_nil in
    let three : width text + 3 ≡ width (33 ∷ 60 ∷ (text ++ (62 ∷ []))) = omega arith in
    f ∙ ap (λ k. up_to_greatest (k + 3)) e ∙ cut_first (width text) 3 ∙ ap (λ k. up_to_greatest k) three

pub verbatim_utf8 : (text : List ℕ) → IsUtf8 text → IsUtf8 (33 ∷ 60 ∷ (text ++ (62 ∷ [])))
verbatim_utf8 text u = utf8_head 33 _ refl (utf8_head 60 _ refl (IsUtf8-append text _ u (utf8_head 62 [] refl IsUtf8-nil)))

pub both_wide : (x y : List ℕ) (n m w : ℕ) → IsUtf8 x → n ≡ up_to_greatest (width x) → m ≡ up_to_greatest (width y) → w ≡ up_to_greatest (n + m)
    → w ≡ up_to_greatest (width (x ++ y))
both_wide x y n m w u e f g =
    g ∙ ap (λ k. up_to_greatest (k + m)) e ∙ ap (λ k. up_to_greatest (up_to_greatest (width x) + k)) f ∙ cut_both (width x) (width y)
    ∙ ap (λ k. up_to_greatest k) (sym (width_join x y u))

pub sign_wide : 1 ≡ up_to_greatest (width (33 ∷ []))
unfolding chars
sign_wide = refl

pub spaced_wide : (x y : List ℕ) (n m w : ℕ) → IsUtf8 x → IsUtf8 y → n ≡ up_to_greatest (width x) → m ≡ up_to_greatest (width y) → w ≡ joined_width n m
    → w ≡ up_to_greatest (width (spaced x y))
spaced_wide x y n m w u v e f g = g ∙ ap (λ k. joined_width k m) e ∙ ap (joined_width (up_to_greatest (width x))) f ∙ joined_spaced x y u v

pub styled_wide : (p y : List ℕ) (b : Bool) (n m w : ℕ) → IsUtf8 p → IsUtf8 y → n ≡ up_to_greatest (width p) → width_if b y ≡ Some m → w ≡ joined_width n m
    → Some w ≡ width_if b (spaced p y)
styled_wide p y false n m w u v e f g = absurd cc
styled_wide p y true n m w u v e f g = let h : m ≡ up_to_greatest (width y) = cc in ap Some (spaced_wide p y n m w u v e h g)

pub both_texts : (x y : List ℕ) → IsUtf8 x → IsUtf8 y → (is_utf8 x && is_utf8 y) ≡ true
both_texts x y u v = rw (is_utf8-from_IsUtf8 x u, is_utf8-from_IsUtf8 y v) refl

-- comments

pub by_found : (p : CommentValue → Bool) (xs : List Comment) (r : Option ℕ) → IfSome r (λ k. k < length xs)
    → MatchOption r (AllWithin (λ c. p (comment_value c) ≡ false) xs 0 (length xs))
    (λ k. AllWithin (λ c. p (comment_value c) ≡ false) xs 0 k × HoldsAt (λ c. p (comment_value c) ≡ true) xs k)
    → is_some r ≡ list_any p (map comment_value xs)
by_found p xs None l h = sym (none_passes p xs h)
by_found p xs (Some k) l h = sym (one_passes p xs k l h.1)

-- the innermost collection, which is the last of the stack

handed_last : (zs : List Open) (y w : Open) (e : Ended) → w ≡ with_node y e
    → reverse (set (zs ++ (y ∷ [])) (length zs) w) ≡ handed e (reverse (zs ++ (y ∷ [])))
handed_last zs y w e q =
    ap reverse (set-append_seam zs y [] w) ∙ reverse-append zs (w ∷ []) ∙ ap (λ v. v ∷ reverse zs) q ∙ sym (ap (handed e) (reverse-append zs (y ∷ [])))

pub handed_set : (xs : List Open) (n : ℕ) (o w : Open) (e : Ended) → n ≡ length xs → 0 < n → o ≡ get_or xs (n - 1) o → w ≡ with_node o e
    → reverse (set xs (n - 1) w) ≡ handed e (reverse xs)
handed_set [] n o w e l p g q = absurd (omega arith)
handed_set (x ∷ xs) n o w e l p g q =
    let s = last_one x xs in
    let long : length (x ∷ xs) ≡ length s.0 + 1 = ap length s.2 ∙ length-append s.0 (s.1 ∷ []) in
    let last : n - 1 ≡ length s.0 = omega (arith, l, long) in
    let same : o ≡ s.1 =
    g ∙ ap (λ v. get_or v (n - 1) o) s.2 ∙ ap (λ k. get_or (s.0 ++ (s.1 ∷ [])) k o) last ∙ get_or-append_seam s.0 s.1 [] o in
    ap (λ v. reverse (set v (n - 1) w)) s.2 ∙ ap (λ k. reverse (set (s.0 ++ (s.1 ∷ [])) k w)) last
    ∙ handed_last s.0 s.1 w e (q ∙ ap (λ v. with_node v e) same) ∙ sym (ap (λ v. handed e (reverse v)) s.2)

-- a leaf is added with its measure at once
pub leaf_added : (list next : List Measure) (i : ℕ) (e : Ended) (stack above : List Open) → length list ≡ i → next ≡ list ++ (e.measure ∷ [])
    → above ≡ handed e stack → found next above ≡ noted i e (found (list ++ (no_measure ∷ [])) stack)
leaf_added list next i e stack above l n a =
    let s : set (list ++ (no_measure ∷ [])) i e.measure ≡ list ++ (e.measure ∷ []) =
    ap (λ k. set (list ++ (no_measure ∷ [])) k e.measure) (sym l) ∙ set-append_seam list no_measure [] e.measure in
    ap (λ w. found w above) (n ∙ sym s) ∙ ap (λ w. found (set (list ++ (no_measure ∷ [])) i e.measure) w) a

-- the loop over the events

abbrev pub Runs : List ℕ → LayoutSetting → List EventInText → ℕ → List Measure → List Open → Type 0
Runs t c es i list stack = (length list ≡ i) × (pass t c (drop i es) (found list stack) ≡ pass t c es (found [] []))

abbrev pub Texts : List EventInText → ℕ → Type 0
Texts es i = have_texts (drop i es) ≡ true → have_texts es ≡ true

-- the event at an index, by its parts
record IsAt (es : List EventInText) (i : ℕ) (v : EventValue) (s : Option Span) : Type 0 where
  e : EventInText
  event : e.event ≡ v
  span : e.span ≡ s
  cut : drop i es ≡ e ∷ drop (suc i) es

is_there : (es : List EventInText) (i : ℕ) (v : EventValue) (s : Option Span) → slice_get (map (λ e. e.event) es) i ≡ Some v
    → slice_get (map (λ e. e.span) es) i ≡ Some s → IsAt es i v s
is_there [] i v s h k = cc
is_there (e ∷ es) zero v s h k = record { e = e; event = same_Some _ _ h; span = same_Some _ _ k; cut = refl }
is_there (e ∷ es) (suc i) v s h k =
    let r = is_there es i v s h k in
    record { e = r.e; event = r.event; span = r.span; cut = r.cut }

pub runs_on : (t : List ℕ) (c : LayoutSetting) (es : List EventInText) (i : ℕ) (v : EventValue) (s : Option Span) (list next : List Measure) (stack above : List Open)
    → slice_get (map (λ e. e.event) es) i ≡ Some v → slice_get (map (λ e. e.span) es) i ≡ Some s → Runs t c es i list stack
    → found next above ≡ passed t c i s v (found (list ++ (no_measure ∷ [])) stack) → Runs t c es (i + 1) next above
unfolding pass
runs_on t c es i v s list next stack above h k r p =
    let x = is_there es i v s h k in
    let step : found next above ≡ past t c x.e (found list stack) =
    p
    ∙ ap (λ n. passed t c n s v (found (list ++ (no_measure ∷ [])) stack)) (sym r.0)
    ∙ ap (λ w. passed t c (length list) w v (found (list ++ (no_measure ∷ [])) stack)) (sym x.span)
    ∙ ap (λ w. passed t c (length list) x.e.span w (found (list ++ (no_measure ∷ [])) stack)) (sym x.event) in
    let long : length next ≡ length list + 1 = ap (λ w. length w.list) step ∙ pass_longer t c x.e (found list stack) in (
      long ∙ ap (λ n. n + 1) r.0,
      rw add-one (ap (pass t c (drop (suc i) es)) step ∙ ap (λ w. pass t c w (found list stack)) (sym x.cut) ∙ r.1),
    )

-- the event at an index, and its span
pub no_place : EventInText
no_place = record { event = stream_starts; span = None; tag_offset = None; entry = None; folded = [] }

pub there : (es : List EventInText) (i : ℕ) → i < length es
    → (slice_get (map (λ e. e.event) es) i ≡ Some (get_or es i no_place).event) × (slice_get (map (λ e. e.span) es) i ≡ Some (get_or es i no_place).span)
there [] i l = absurd (omega (arith, l))
there (e ∷ es) zero l = (refl, refl)
there (e ∷ es) (suc i) l = there es i (omega (arith, l))

pub texts_on : (es : List EventInText) (i : ℕ) (v : EventValue) (s : Option Span) → slice_get (map (λ e. e.event) es) i ≡ Some v
    → slice_get (map (λ e. e.span) es) i ≡ Some s → Texts es i → has_text v ≡ true → Texts es (i + 1)
texts_on es i v s h k g u =
    let x = is_there es i v s h k in
    rw add-one (λ w. g (rw (x.cut, x.event, u, w) refl))

pub at_last : (t : List ℕ) (c : LayoutSetting) (es : List EventInText) (i : ℕ) (list : List Measure) (stack : List Open) → length es ≤ i
    → Texts es i → Runs t c es i list stack → FoundInPass t c es list
unfolding pass
at_last t c es i list stack l h r =
    let none : drop i es ≡ [] = drop_all i es l in
    let texts : have_texts es ≡ true = h (rw none refl) in
    let run : found list stack ≡ pass t c es (found [] []) = ap (λ w. pass t c w (found list stack)) (sym none) ∙ r.1 in
    record { is = ap (λ f. f.list) run; texts = texts }

pub measured_in_pass : {t : List ℕ} {c : LayoutSetting} {es : List EventInText} {ms : List Measure} → FoundInPass t c es ms → AreMeasures t c es ms
measured_in_pass {t} {c} {es} {ms} f = subst (λ w. AreMeasures t c es w) (sym f.is) (measured_all t c es f.texts)
