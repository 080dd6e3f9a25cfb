-- The search for the last leaf before an offset goes backwards from the end.
use Rattle.std.proofs.Common.{◌≡◌, ℕ, zero, suc, ◌+◌, ◌-◌, ◌<◌, ◌≤◌, Bool, true, false, List, ◌++◌, drop, length, map, Option, Some, None, refl, sym, ap, ◌∙◌, subst, inl, inr, arith, slice_get, nat_lt, if◌then◌else◌}
use Rattle.std.proofs.lemmas.Bool.{cases_lt}
use Rattle.std.proofs.lemmas.Bool.Decides.{nat_tests}
use Rattle.std.proofs.lemmas.List.{length-map}
use Rattle.std.proofs.lemmas.Option.{same_Some, slice_get_within}
use Rattle.std.specs.Bool.{MatchBool}
use Rattle.yf_events.specs.Event.{EventInText}
use Rattle.yf_events.specs.Reading.{begins_leaf, first_begins_leaf}
use Rattle.yf_events.specs.declared.event.Span.{Span}
use Rattle.yf_stream.specs.LeafPass.{StopsAt, last_end, leaf_spans, span_in}
use Rattle.yf_stream.specs.LeafSearch.{BeginsBefore, BegunAt, LastLeaf}
use Rattle.yf_stream.proofs.LeafPass.LeafLemmas.{event_at, past_nothing, past_span, stops_here}

-- an event that begins no leaf
pub past_unleaved : (es : List EventInText) (i : ℕ) (found : Option ℕ) (o : ℕ) {s : Option Span} → slice_get (map (λ (e : EventInText). e.span) es) i ≡ Some s
    → first_begins_leaf (drop i es) ≡ false → last_end found o (leaf_spans (drop i es)) ≡ last_end found o (leaf_spans (drop (i + 1) es))
past_unleaved es i found o f n =
    let a = event_at es i f in
    let rest = drop (i + 1) es in
    let none : begins_leaf a.event.event rest ≡ false = sym (ap first_begins_leaf a.here) ∙ n in
    ap (λ z. last_end found o (leaf_spans z)) a.here ∙ ap (λ b. last_end found o (span_in b a.event.span ++ leaf_spans rest)) none

-- an end has been found up to an index
record Reaches (es : List EventInText) (i j : ℕ) (found : Option ℕ) (o : ℕ) : Type 0 where
  mid : Option ℕ
  same : last_end found o (leaf_spans (drop i es)) ≡ last_end mid o (leaf_spans (drop j es))

one_begun : (es : List EventInText) (i : ℕ) (found : Option ℕ) (offset o : ℕ) → offset ≤ o → (s : Option Span) → slice_get (map (λ (e : EventInText). e.span) es) i ≡ Some s
    → BeginsBefore offset s → Reaches es i (i + 1) found o
one_begun es i found offset o l None f b = record { mid = found; same = past_nothing es i found o f }
one_begun es i found offset o l (Some s) f b =
    record { mid = if first_begins_leaf (drop i es) then Some s.end else found; same = past_span es i found offset o f b l }

reaches : (n : ℕ) (es : List EventInText) (i j : ℕ) (found : Option ℕ) (offset o : ℕ) → j ≡ i + n → offset ≤ o → ((k : ℕ) → i ≤ k → k < j → BegunAt offset es k)
    → Reaches es i j found o
reaches zero es i j found offset o e l h =
    let same : i ≡ j = omega (arith, e) in
    record { mid = found; same = ap (λ z. last_end found o (leaf_spans (drop z es))) same }
reaches (suc n) es i j found offset o e l h =
    let b = h i (omega arith) (omega (arith, e)) in
    let one = one_begun es i found offset o l b.span b.there b.before in
    let rest = reaches n es (i + 1) j one.mid offset o (omega (arith, e)) l (λ k m q. h k (omega (arith, m)) q) in
    record { mid = rest.mid; same = one.same ∙ rest.same }

-- no leaf is left from an index on
pub record NoneFrom (es : List EventInText) (i j : ℕ) : Type 0 where
  pub none : (found : Option ℕ) (o : ℕ) → last_end found o (leaf_spans (drop i es)) ≡ last_end found o (leaf_spans (drop j es))

pub none_yet : (es : List EventInText) (j : ℕ) → NoneFrom es j j
none_yet es j = record { none = λ found o. refl }

pub none_more : {es : List EventInText} {at j : ℕ} (k : ℕ) → k + 1 ≡ at → ((found : Option ℕ) (o : ℕ) → last_end found o (leaf_spans (drop k es)) ≡ last_end found o (leaf_spans (drop (k + 1) es)))
    → NoneFrom es at j → NoneFrom es k j
none_more {es} {at} {j} k e one n =
    record { none = λ found o. one found o ∙ ap (λ z. last_end found o (leaf_spans (drop z es))) e ∙ n.none found o }

pub leaf_found : {es : List EventInText} {i at j : ℕ} {found : Option ℕ} (k : ℕ) {s : Span} → k + 1 ≡ at → i ≤ k → k < j → slice_get (map (λ (e : EventInText). e.span) es) k ≡ Some (Some s)
    → first_begins_leaf (drop k es) ≡ true → NoneFrom es at j → LastLeaf es i j found (Some s.end)
leaf_found {es} {i} {at} {j} {found} k {s} e l m f leaf n = record {
  same = λ offset o h q.
      let b = h k l m in
      let before : s.start < offset = subst (BeginsBefore offset) (same_Some _ _ (sym b.there ∙ f)) b.before in
      let front = reaches (k - i) es i k found offset o (omega (arith, l)) q (λ x y z. h x y (omega (arith, z, m))) in
      front.same ∙ past_span es k front.mid offset o f before q
      ∙ ap (λ (b : Bool). last_end (if b then Some s.end else front.mid) o (leaf_spans (drop (k + 1) es))) leaf
      ∙ ap (λ z. last_end (Some s.end) o (leaf_spans (drop z es))) e ∙ n.none (Some s.end) o;
}

pub no_leaf_found : {es : List EventInText} {i at j : ℕ} (found : Option ℕ) → at ≡ i → NoneFrom es at j → LastLeaf es i j found found
no_leaf_found {es} {i} {at} {j} found e n = record { same = λ offset o h q. ap (λ z. last_end found o (leaf_spans (drop z es))) (sym e) ∙ n.none found o }

-- one more event that has begun
pub begun_more : {offset start at : ℕ} {es : List EventInText} → BegunAt offset es at → ((k : ℕ) → start ≤ k → k < at → BegunAt offset es k)
    → (k : ℕ) → start ≤ k → k < at + 1 → BegunAt offset es k
begun_more {offset} {start} {at} {es} one before k l m = elim (cases_lt k at) [
  | inl less ↦ before k l less
  | inr least ↦ let same : at ≡ k = omega (arith, m, least) in subst (BegunAt offset es) same one
]

-- the index of an event that has begun is within the list
pub begun_within : {offset : ℕ} (es : List EventInText) {k : ℕ} → BegunAt offset es k → k < length es
begun_within es {k} b = omega (arith, slice_get_within (map (λ (e : EventInText). e.span) es) k b.span b.there, length-map es (λ (e : EventInText). e.span))

-- an event with a span has begun, or the search stops at it
pub begun_if : (es : List EventInText) (i offset : ℕ) (s : Span) (b : Bool) → nat_lt s.start offset ≡ b → slice_get (map (λ (e : EventInText). e.span) es) i ≡ Some (Some s)
    → MatchBool b (BegunAt offset es i) (StopsAt offset (drop i es))
begun_if es i offset s true e f = record { span = Some s; there = f; before = grind (arith, nat_tests, e) }
begun_if es i offset s false e f = stops_here es i offset f (grind (arith, nat_tests, e))
