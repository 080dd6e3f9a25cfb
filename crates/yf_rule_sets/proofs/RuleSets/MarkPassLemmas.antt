-- Laws of a pass over byte order marks and the spans of scalars.
use Rattle.std.proofs.Common.{◌≡◌, ◌≢◌, ℕ, ◌+◌, ◌<◌, ◌≤◌, Bool, true, false, List, [], ◌∷◌, ◌++◌, drop, take, Option, Some, None, length, max, refl, sym, subst, ap, ◌∙◌, inl, inr, ⊎_elim, arith, eqb, MatchBool}
use Rattle.std.specs.Borrow.{Bor}
use Rattle.std.specs.Prelude.{slice_get}
use Rattle.std.specs.List.Sorted.{IsNonDecreasingBy, IsPermutation}
use Rattle.std.proofs.lemmas.Bool.{cases_lt, false≢true}
use Rattle.std.proofs.Math.Logic.{◌↔◌}
use Rattle.std.proofs.lemmas.List.{drop_more, length-map, take-append-drop}
use Rattle.std.proofs.lemmas.List.Sorted.{Contains-permutation, IsPermutation-sym}
use Rattle.std.proofs.lemmas.Option.{slice_get_within, slice_get-get_or, get_or_from_slice_get, same_Some}
use Rattle.yf_chars.specs.Text.{code}
use Rattle.std.specs.List.{list_any}
use Rattle.std.specs.Str.{IsUtf8}
use Rattle.std.specs.Str.Iter.{HasSubslice}
use Rattle.std.proofs.lemmas.List.Folds.{list_any_at}
use Rattle.yf_chars.proofs.TextLemmas.{bytes_from_mark, within_from_code}
use Rattle.yf_events.specs.Event.{event_value, scalar_node}
use Rattle.yf_events.specs.declared.event.Event.{Event}
use Rattle.yf_events.specs.declared.event.Event.TheVariants.{Scalar}
use Rattle.yf_events.specs.declared.event.ScalarStyle.{ScalarStyle}
use Rattle.yf_props.specs.Props.{PropsValue, props_value}
use Rattle.yf_props.specs.declared.props.Props.{Props}
use Rattle.yf_events.specs.Reading.{events_of, spans_of}
use Rattle.yf_events.specs.declared.event.Span.{Span}
use Rattle.yf_events.specs.declared.lists.Lists.{Lists}
use Rattle.yf_rule_sets.specs.Passes.FarthestEnds.{Covers, AllBegin, NoneBegins, IsBeyond, IsMark}
use Rattle.yf_rule_sets.specs.Passes.FarthestEnds.IsBeyond.{is_beyond}
use Rattle.yf_rule_sets.specs.RuleSets.Exact.{Exactly, Sole, IsTheOne}
use Rattle.yf_rule_sets.proofs.Texts.ExactLemmas.{none_yet, same_answer}
use Rattle.yf_rule_sets.specs.RuleSets.Scalars.{ScalarSpan, IsWithin, LooseMark}
use Rattle.yf_rule_sets.specs.RuleSets.Scalars.ScalarSpan.{of_scalar}
use Rattle.yf_rule_sets.specs.RuleSets.Scalars.LooseMark.{in_no_scalar}

-- an index with a span is that of an event
pub span_event : {r : Lists} {i : ℕ} {s : Span} → ScalarSpan r i s → i < length r.events
span_event {r} {i} (of_scalar {props} {style} {text} h) =
    let n = slice_get_within (events_of r) i (scalar_node props style text) h.event in omega (arith, n, length-map r.events (λ e. e.event))

-- the span of a scalar is unique
pub span_sole : {r : Lists} {i : ℕ} {s x : Span} → slice_get (spans_of r) i ≡ Some (Some s) → ScalarSpan r i x → x ≡ s
span_sole e (of_scalar h) = same_Some _ _ (same_Some _ _ (sym h.part ∙ e))

pub span_none : {r : Lists} {i : ℕ} {x : Span} → slice_get (spans_of r) i ≡ Some None → ScalarSpan r i x → ⊥
span_none {x = x} e (of_scalar h) = nothing (same_Some _ _ (sym h.part ∙ e)) where
  nothing : {x : Span} → Some x ≡ None → ⊥
  nothing e = cc

-- a list of the spans in another order
pub sorted_same : {Part : ℕ → Span → Type 0} (xs ys : List Span) → IsPermutation xs ys → Exactly Part xs → Exactly Part ys
sorted_same xs ys p s = record {
  only = λ x c. s.only x (Contains-permutation ys xs x (IsPermutation-sym xs ys p) c);
  all = λ k x h. Contains-permutation xs ys x p (s.all k x h);
}

-- no spans before the first, and one more
pub covers_none : (spans : List Span) → Covers spans 0 0
covers_none spans = record { bound = λ k s e l. absurd (omega arith); reached = inl refl }

pub begin_none : (spans : List Span) (offset : ℕ) → AllBegin spans 0 offset
begin_none spans offset = record { all = λ k s e l. absurd (omega arith) }

pub covers_more : (spans : List Span) (count reach : ℕ) (s : Span) → slice_get spans count ≡ Some s → Covers spans count reach → Covers spans (count + 1) (max reach s.end)
covers_more spans count reach s e c = record {
  bound = λ k x f l. ⊎_elim (λ (h : k < count). let b = c.bound k x f h in omega (arith, b))
      (λ (h : count ≤ k). let q : x ≡ s = same_Some _ _ (sym f ∙ subst (λ m. slice_get spans m ≡ Some s) (omega (arith, h, l)) e) in
      let v = ap (λ (w : Span). w.end) q in omega (arith, v))
      (cases_lt k count);
  reached = ⊎_elim
      (λ (h : reach < s.end). inr (count, s, e, omega arith, omega (arith, h)))
      (λ (h : s.end ≤ reach). ⊎_elim
      (λ (z : reach ≡ 0). inl (omega (arith, h, z)))
      (λ (w : (k : ℕ) × (x : Span) × (slice_get spans k ≡ Some x) × (k < count) × (x.end ≡ reach)). inr (w.0, w.1, w.2, omega (arith, w.3), omega (arith, w.4, h)))
      c.reached)
      (cases_lt reach s.end);
}

pub begin_more : (spans : List Span) (count offset : ℕ) (s : Span) → slice_get spans count ≡ Some s → s.start ≤ offset → AllBegin spans count offset
    → AllBegin spans (count + 1) offset
begin_more spans count offset s e b c = record {
  all = λ k x f l. ⊎_elim (λ (h : k < count). c.all k x f h)
      (λ (h : count ≤ k). let q : x ≡ s = same_Some _ _ (sym f ∙ subst (λ m. slice_get spans m ≡ Some s) (omega (arith, h, l)) e) in
      let v = ap (λ (w : Span). w.start) q in omega (arith, v, b))
      (cases_lt k count);
}

-- the spans from that one on begin after the offset, because they ascend
pub none_from : (spans : List Span) (count offset : ℕ) (s : Span) → slice_get spans count ≡ Some s → offset < s.start → IsNonDecreasingBy (λ (x : Span). x.start) spans
    → NoneBegins spans count offset
none_from spans count offset s e b up = record {
  none = λ k x f l.
      let n = slice_get_within spans k x f in
      let u = up count k s l n in
      let p = ap (λ (w : Span). w.start) (get_or_from_slice_get spans count s s e) in
      let q = ap (λ (w : Span). w.start) (get_or_from_slice_get spans k x s f) in
      omega (arith, u, p, q, b);
}

pub none_left : (spans : List Span) (count offset : ℕ) → length spans ≤ count → NoneBegins spans count offset
none_left spans count offset h = record { none = λ k x f l. absurd (let n = slice_get_within spans k x f in omega (arith, n, l, h)) }

pub begin_later : (spans : List Span) (count i j : ℕ) → i ≤ j → AllBegin spans count i → AllBegin spans count j
begin_later spans count i j l b = record { all = λ k s e h. let w = b.all k s e h in omega (arith, w, l) }

-- an offset that no span reaches is in no span, and an offset in no span is not reached
module _ {Part : ℕ → Span → Type 0} {spans : List Span} {count reach k : ℕ} (s : Exactly Part spans) (c : Covers spans count reach)
    (b : AllBegin spans count k) (n : NoneBegins spans count k) where
  pub in_cover : (i : ℕ) (x : Span) → Part i x → IsWithin x k → k < reach
  in_cover i x h w =
      let m = s.all i x h in
      let e = slice_get-get_or spans m.0 x m.1 in
      let f : slice_get spans m.0 ≡ Some x = subst (λ v. slice_get spans m.0 ≡ Some v) m.2 e in
      ⊎_elim (λ (l : m.0 < count). let q = c.bound m.0 x f l in omega (arith, q, w.to))
      (λ (l : count ≤ m.0). absurd (let q = n.none m.0 x f l in omega (arith, q, w.from)))
      (cases_lt m.0 count)

  pub out_of_cover : ((i : ℕ) (x : Span) → Part i x → IsWithin x k → ⊥) → reach ≤ k
  out_of_cover f = ⊎_elim (λ (z : reach ≡ 0). omega (arith, z))
      (λ (w : (m : ℕ) × (x : Span) × (slice_get spans m ≡ Some x) × (m < count) × (x.end ≡ reach)).
      ⊎_elim (λ (l : k < reach).
      let h = s.only w.1 (w.0, slice_get_within spans w.0 w.1 w.2, get_or_from_slice_get spans w.0 w.1 w.1 w.2) in
      absurd (f h.0 w.1 h.1 (record { from = b.all w.0 w.1 w.2 w.3; to = omega (arith, l, w.4) })))
      (λ (l : reach ≤ k). l) (cases_lt k reach))
      c.reached

pub sole_kind : {Kind : ℕ → Type 0} (t : List ℕ) (reach k : ℕ) → Kind (code t k) → reach ≤ k → Sole (IsBeyond Kind t reach k) k
sole_kind {Kind} t reach k e l = record { holds = is_beyond e l; only = λ o h. there h } where
  there : {o : ℕ} → IsBeyond Kind t reach k o → o ≡ k
  there (is_beyond e l) = refl

-- a mark that no span reaches is in no scalar
module _ (t : List ℕ) (r : Lists) (spans : List Span) (count reach k : ℕ) (s : Exactly (ScalarSpan r) spans) (c : Covers spans count reach)
    (b : AllBegin spans count k) (n : NoneBegins spans count k) where
  loose : (o : ℕ) → IsBeyond IsMark t reach k o → LooseMark t r k o
  loose _ (is_beyond e l) = in_no_scalar e (λ i x h w. let q = in_cover s c b n i x h w in omega (arith, q, l))

  beyond_all : (o : ℕ) → LooseMark t r k o → IsBeyond IsMark t reach k o
  beyond_all _ (in_no_scalar e f) = is_beyond e (out_of_cover s c b n f)

  pub mark_answered : (answer : Option ℕ) → IsTheOne (IsBeyond IsMark t reach k) answer → IsTheOne (LooseMark t r k) answer
  mark_answered answer a = same_answer loose beyond_all answer a

pub mark_text : {t : List ℕ} {r : Lists} {k o : ℕ} → LooseMark t r k o → k < length t
mark_text {t} {k = k} (in_no_scalar e f) = within_from_code t k (omega (arith, e))

-- the scalar at an event, in the code
pub scalar_event : (r : Lists) (i : ℕ) (e : Event) (props : Props) (style : ScalarStyle) (text : Bor (List ℕ)) → slice_get (events_of r) i ≡ Some (event_value e)
    → e ≡ Scalar props style text → slice_get (events_of r) i ≡ Some (scalar_node (props_value props) style text.now)
scalar_event r i e props style text h q = h ∙ ap (λ v. Some (event_value v)) q

pub span_answers : (r : Lists) (i : ℕ) (props : PropsValue) (style : ScalarStyle) (text : List ℕ) (o : Option Span)
    → slice_get (events_of r) i ≡ Some (scalar_node props style text) → slice_get (spans_of r) i ≡ Some o → IsTheOne (ScalarSpan r i) o
span_answers r i props style text None e p = λ x h. span_none p h
span_answers r i props style text (Some s) e p = record { holds = of_scalar (record { event = e; part = p }); only = λ x h. span_sole p h }

-- a text without the first byte of a mark has no mark
pub no_mark : (t : List ℕ) (b : Bool) → IsUtf8 t → b ≡ list_any (λ y. eqb y 239) t → MatchBool b (Unit {0}) ((k : ℕ) → code t k ≢ 0xFEFF)
no_mark t true u e = tt
no_mark t false u e = λ k h.
    let marked = bytes_from_mark t k u h in
    false≢true (e ∙ list_any_at (λ y. eqb y 239) t k 0 (omega (arith, marked.0)) (ap (λ y. eqb y 239) marked.1))

-- a mark is found by its bytes
mark_within : (t : List ℕ) (k : ℕ) → IsUtf8 t → code t k ≡ 0xFEFF → HasSubslice t (239 ∷ 187 ∷ 191 ∷ [])
mark_within t k u h =
    let m = bytes_from_mark t k u h in
    let two : k + 1 + 1 ≡ k + 2 = omega arith in
    let three : k + 2 + 1 ≡ k + 3 = omega arith in
    let first : drop k t ≡ 239 ∷ drop (k + 1) t = drop_more t k 0 (omega (arith, m.0)) ∙ ap (λ y. y ∷ drop (k + 1) t) m.1 in
    let second : drop (k + 1) t ≡ 187 ∷ drop (k + 2) t =
    drop_more t (k + 1) 0 (omega (arith, m.0)) ∙ ap (λ y. y ∷ drop (k + 1 + 1) t) m.2 ∙ ap (λ v. 187 ∷ drop v t) two in
    let third : drop (k + 2) t ≡ 191 ∷ drop (k + 3) t =
    drop_more t (k + 2) 0 m.0 ∙ ap (λ y. y ∷ drop (k + 2 + 1) t) m.3 ∙ ap (λ v. 191 ∷ drop v t) three in
    (take k t, drop (k + 3) t, sym (take-append-drop k t) ∙ ap (λ w. take k t ++ w) (first ∙ ap (λ w. 239 ∷ w) (second ∙ ap (λ w. 187 ∷ w) third)))

-- a text without these bytes has no mark
pub no_mark_found : (t : List ℕ) (b : Bool) → IsUtf8 t → (b ≡ true) ↔ HasSubslice t (239 ∷ 187 ∷ 191 ∷ []) → MatchBool b (Unit {0}) ((k : ℕ) → code t k ≢ 0xFEFF)
no_mark_found t true u e = tt
no_mark_found t false u e = λ k h. false≢true (e.1 (mark_within t k u h))

-- so it has no mark outside of scalars
pub no_loose_mark : (t : List ℕ) (r : Lists) (xs : List ℕ) → xs ≡ [] → ((k : ℕ) → code t k ≢ 0xFEFF) → Exactly (LooseMark t r) xs
no_loose_mark t r xs e none =
    let empty = none_yet (LooseMark t r) xs e in
    record {
      only = λ x c. let found = empty.only x c in (found.0, found.2);
      all = λ k x p. absurd (never k x p);
    } where
      never : (k x : ℕ) → LooseMark t r k x → ⊥
      never k _ (in_no_scalar h f) = none k h
