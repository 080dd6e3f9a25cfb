-- Leaves by the index of the event that begins them.
use Rattle.std.proofs.Common.{◌≡◌, ℕ, zero, suc, ◌+◌, ◌<◌, ◌≤◌, Bool, true, false, List, [], ◌∷◌, ◌++◌, Option, Some, None, length, map, drop, refl, sym, ap, ◌∙◌, cond, zero-add, arith}
use Rattle.std.specs.Prelude.{slice_get, count_by, nat_lt}
use Rattle.std.proofs.lemmas.List.Sums.{sum_by-cons}
use Rattle.std.proofs.lemmas.Option.{same_Some}
use Rattle.yf_events.specs.Event.{EventValue, EventInText, stream_starts, stream_ends, document_starts, document_ends, sequence_starts, sequence_ends, mapping_starts, mapping_ends, scalar_node, alias_node}
use Rattle.yf_events.specs.Reading.{begins_leaf, before_if, ends_next, first_begins_before, first_begins_leaf, is_end, leaf_if, leaf_starts, start_in}
use Rattle.yf_events.specs.declared.event.Span.{Span}

pub ends_at : (es : List EventInText) (k : ℕ) (v : EventValue) → slice_get (map (λ e. e.event) es) k ≡ Some v → ends_next (drop k es) ≡ is_end v
ends_at [] k v h = cc
ends_at (e ∷ es) zero v h = ap is_end (same_Some _ _ h)
ends_at (e ∷ es) (suc k) v h = ends_at es k v h

pub ends_past : (es : List EventInText) (k : ℕ) → length es ≤ k → ends_next (drop k es) ≡ false
ends_past [] zero l = refl
ends_past [] (suc k) l = refl
ends_past (e ∷ es) zero l = absurd (omega arith)
ends_past (e ∷ es) (suc k) l = ends_past es k (omega arith)

pub begins_at : (es : List EventInText) (i : ℕ) (v : EventValue) → slice_get (map (λ e. e.event) es) i ≡ Some v
    → first_begins_leaf (drop i es) ≡ begins_leaf v (drop (suc i) es)
begins_at [] i v h = cc
begins_at (e ∷ es) zero v h = ap (λ w. begins_leaf w es) (same_Some _ _ h)
begins_at (e ∷ es) (suc i) v h = begins_at es i v h

pub before_at : (es : List EventInText) (i offset : ℕ) (span : Option Span) → slice_get (map (λ e. e.span) es) i ≡ Some span
    → first_begins_before offset (drop i es) ≡ before_if (first_begins_leaf (drop i es)) span offset
before_at [] i offset span h = cc
before_at (e ∷ es) zero offset span h = ap (λ w. before_if (begins_leaf e.event es) w offset) (same_Some _ _ h)
before_at (e ∷ es) (suc i) offset span h = before_at es i offset span h

count_start : (b : Bool) (span : Option Span) (offset : ℕ) (starts : List ℕ)
    → count_by (λ s. nat_lt s offset) (start_in b span ++ starts) ≡ cond (before_if b span offset) 1 0 + count_by (λ s. nat_lt s offset) starts
count_start true (Some span) offset starts = sum_by-cons (λ s. cond (nat_lt s offset) 1 0) span.start starts
count_start true None offset starts = sym (zero-add (count_by (λ s. nat_lt s offset) starts))
count_start false span offset starts = sym (zero-add (count_by (λ s. nat_lt s offset) starts))

pub counted : (es : List EventInText) (i offset : ℕ) → i < length es
    → count_by (λ s. nat_lt s offset) (leaf_starts (drop i es)) ≡ cond (first_begins_before offset (drop i es)) 1 0 + count_by (λ s. nat_lt s offset) (leaf_starts (drop (suc i) es))
counted [] i offset l = absurd (omega arith)
counted (e ∷ es) zero offset l = count_start (begins_leaf e.event es) e.span offset (leaf_starts es)
counted (e ∷ es) (suc i) offset l = counted es i offset (omega arith)

-- the count after one more event

pub one_more : (es : List EventInText) (i offset all n m : ℕ) → i < length es → m ≡ cond (first_begins_before offset (drop i es)) 1 0
    → n + count_by (λ s. nat_lt s offset) (leaf_starts (drop i es)) ≡ all
    → (n + m) + count_by (λ s. nat_lt s offset) (leaf_starts (drop (suc i) es)) ≡ all
one_more es i offset all n m l b e = omega (arith, counted es i offset l)

pub at_most_one : (b : Bool) → cond b 1 0 ≤ 1
at_most_one true = omega arith
at_most_one false = omega arith

leaf_is : (v : EventValue) (rest : List EventInText) → leaf_if v (ends_next rest) ≡ begins_leaf v rest
leaf_is stream_starts rest = refl
leaf_is stream_ends rest = refl
leaf_is (document_starts marked) rest = refl
leaf_is (document_ends marked) rest = refl
leaf_is (sequence_starts flow props) rest = refl
leaf_is sequence_ends rest = refl
leaf_is (mapping_starts flow props) rest = refl
leaf_is mapping_ends rest = refl
leaf_is (scalar_node props style text) rest = refl
leaf_is (alias_node name) rest = refl

pub leaf_seen : (es : List EventInText) (i : ℕ) (v : EventValue) (b : Bool) → slice_get (map (λ e. e.event) es) i ≡ Some v → b ≡ ends_next (drop (suc i) es)
    → leaf_if v b ≡ first_begins_leaf (drop i es)
leaf_seen es i v b at ends = ap (leaf_if v) ends ∙ leaf_is v (drop (suc i) es) ∙ sym (begins_at es i v at)

-- the rest of the events from an index on

pub events_cut : (es : List EventInText) (i : ℕ) (v : EventValue) → slice_get (map (λ e. e.event) es) i ≡ Some v
    → map (λ e. e.event) (drop i es) ≡ v ∷ map (λ e. e.event) (drop (suc i) es)
events_cut [] i v h = cc
events_cut (e ∷ es) zero v h = ap (λ w. w ∷ map (λ x. x.event) es) (same_Some _ _ h)
events_cut (e ∷ es) (suc i) v h = events_cut es i v h
