-- A run of events that name nothing, and the events passed before it and with it.
use Rattle.std.proofs.Common.{◌≡◌, ℕ, zero, suc, ◌+◌, ◌≤◌, ◌<◌, false, List, [], ◌∷◌, ◌++◌, Option, None, drop, length, refl, sym, ap, ◌∙◌, subst, arith, append_assoc, append-nil, replicate}
use Rattle.yf_props.specs.Handles.{Declaration}
use Rattle.yf_events.specs.Event.{EventValue, EventInText, alias_node, document_ends, document_starts, mapping_ends, mapping_starts, scalar_node, sequence_ends, sequence_starts, stream_ends, stream_starts}
use Rattle.yf_events.specs.NamelessEvents.{NamesNothing, NothingAt}
use Rattle.yf_stream.specs.TagPass.{AllPassed, IsNameless, PassTags, pass_breaches, starts_document}
use Rattle.yf_stream.specs.declared.breaches.Breach.{Breach}
use Rattle.yf_stream.proofs.TagPass.FirstLemmas.{finds_then, found_nothing}
use Rattle.yf_stream.proofs.TagPass.PassLemmas.{none_passed}
use Rattle.yf_stream.proofs.TagPass.PassSteps.{bare_passed, event_at, event_with, passing_step}

bare_event : (v : EventValue) → NamesNothing v → IsNameless v
bare_event stream_starts n = record { props = refl; alias = refl }
bare_event stream_ends n = record { props = refl; alias = refl }
bare_event (document_starts marked) n = absurd n
bare_event (document_ends marked) n = record { props = refl; alias = refl }
bare_event (sequence_starts flow props) n = record { props = n; alias = refl }
bare_event sequence_ends n = record { props = refl; alias = refl }
bare_event (mapping_starts flow props) n = record { props = n; alias = refl }
bare_event mapping_ends n = record { props = refl; alias = refl }
bare_event (scalar_node props style text) n = record { props = n; alias = refl }
bare_event (alias_node name) n = absurd n

starts_none : (v : EventValue) → NamesNothing v → starts_document v ≡ false
starts_none stream_starts n = refl
starts_none stream_ends n = refl
starts_none (document_starts marked) n = absurd n
starts_none (document_ends marked) n = refl
starts_none (sequence_starts flow props) n = refl
starts_none sequence_ends n = refl
starts_none (mapping_starts flow props) n = refl
starts_none mapping_ends n = refl
starts_none (scalar_node props style text) n = refl
starts_none (alias_node name) n = absurd n

-- two parts that follow each other
pub all_then : {es : List EventInText} {ds : List Declaration} {i j k : ℕ} {before mid after : Option Breach} {names between others : List (List ℕ)}
    {a b c : List (Option (List ℕ))} → AllPassed es ds i j before mid names between a b → AllPassed es ds j k mid after between others b c
    → AllPassed es ds i k before after names others a c
all_then {es} {ds} {i} {j} {k} {others = others} {a = a} p q = record {
  found = p.found ++ q.found;
  finds = finds_then p.finds q.finds;
  breaches = λ docs. p.breaches docs ∙ ap (λ z. p.found ++ z) (q.breaches docs) ∙ sym (append_assoc p.found q.found (pass_breaches docs ds others (drop k es)));
  added = p.added ++ q.added;
  list = q.list ∙ ap (λ z. z ++ q.added) p.list ∙ append_assoc a p.added q.added;
  tags = λ none docs rest t.
      let nothing = found_nothing none q.finds in
      subst (λ z. PassTags docs ds (drop i es) z) (sym (append_assoc p.added q.added rest)) (p.tags nothing.0 docs (q.added ++ rest) (q.tags none docs rest t));
}

one_bare : {es : List EventInText} {ds : List Declaration} {i : ℕ} {first : Option Breach} {names : List (List ℕ)} (a : List (Option (List ℕ))) → i < length es → NothingAt es i
    → AllPassed es ds i (i + 1) first first names names a (a ++ None ∷ [])
one_bare {es} {ds} {i} {first} {names} a l n =
    let e = event_at es i l n.there in
    let p = bare_passed {first = first} {names = names} {a = a} ds e (bare_event n.event n.names) refl in
    passing_step (none_passed i a) (event_with e (λ x s. sym (ap starts_document s ∙ starts_none n.event n.names))) refl p

pub bare_run : (n : ℕ) {es : List EventInText} {ds : List Declaration} {i j : ℕ} {first : Option Breach} {names : List (List ℕ)} {a b : List (Option (List ℕ))}
    → j ≡ i + n → j ≤ length es → b ≡ a ++ replicate n None → ((k : ℕ) → i ≤ k → k < j → NothingAt es k) → AllPassed es ds i j first first names names a b
bare_run zero {es} {ds} {i} {j} {first} {names} {a} {b} e l f h =
    let same : i ≡ j = omega (arith, e) in
    subst (λ z. AllPassed es ds i z first first names names a b) same
    (subst (λ z. AllPassed es ds i i first first names names a z) (sym (f ∙ append-nil a)) (none_passed i a))
bare_run (suc n) {es} {ds} {i} {j} {first} {names} {a} {b} e l f h =
    all_then (one_bare a (omega (arith, e, l)) (h i (omega arith) (omega (arith, e))))
    (bare_run n {i = i + 1} {a = a ++ None ∷ []} (omega (arith, e)) l (f ∙ sym (append_assoc a (None ∷ []) (replicate n None))) (λ k m q. h k (omega (arith, m)) q))
