-- The entries of a flow node begin after the node's first character. So their notes don't depend on whether a block
-- scalar ended before the node.
use Rattle.std.proofs.Common.{◌≡◌, ℕ, ◌+◌, ◌<◌, ◌≤◌, ℤ, Bool, true, false, List, [], ◌∷◌, ◌++◌, Option, Some, None, refl, sym, ◌∙◌, arith}
use Rattle.yf_chars.specs.declared.context.Ctx.{Ctx}
use Rattle.yf_lines.specs.Basic.{is_block}
use Rattle.yf_props.specs.Props.{PropsValue}
use Rattle.yf_props.proofs.SeparationEnds.{separate_forward}
use Rattle.yf_plain.specs.Kept.{is_inside}
use Rattle.yf_events.specs.Event.{EventInText}
use Rattle.yf_events.specs.declared.event.Entry.{Entry}
use Rattle.yf_grammar.specs.Productions.Meaning.{◌⊕◌, meaning_after, noting, scalar, alias_to, empty_node, plain_event, collection, with_props, first_with, entering, first_entering}
use Rattle.yf_grammar.specs.FlowReader.Parser.{ParsedNode, Task, Parses, ColonAt, found, plain_found, propertied, lone_properties, bracketed, joined, paired, pair_entry, only}
use Rattle.yf_grammar.specs.FlowReader.Parser as Parser
use Rattle.yf_grammar.proofs.FlowReader.FlowStarts.{flow_starts}
use Rattle.yf_grammar.proofs.Ends.Forward.{whites_forward}
use Rattle.yf_grammar.proofs.FlowReader.Sound.{sound, found_is_derived}
use Rattle.yf_grammar.proofs.Ends.WiderLemmas.{inside_not_block, in_flow_inside}
use Rattle.yf_chars.proofs.Tests.{none_some}
use Rattle.yf_grammar.proofs.FlowReader.NodesAnswered.{gap_forward}
use Rattle.yf_props.proofs.NameOrder.{properties_forward}

-- each event that begins an entry has one that begins at or after the offset
pub data EntriesFrom (i : ℕ) : List EventInText → Type 0 where
  none_from : EntriesFrom i []
  one_from : {e : EventInText} {es : List EventInText} → ((f : Entry) → e.entry ≡ Some f → i ≤ f.start) → EntriesFrom i es → EntriesFrom i (e ∷ es)

some_start : {s : ℕ} {k : Option ℕ} {b : Bool} (f : Entry) → Some (record { start = s; colon = k; blank_before = b }) ≡ Some f → s ≡ f.start
some_start f e = cc

pub from_earlier : {i j : ℕ} {es : List EventInText} → i ≤ j → EntriesFrom j es → EntriesFrom i es
from_earlier l none_from = none_from
from_earlier l (one_from f r) = one_from (λ x q. let m = f x q in omega arith) (from_earlier l r)

from_join : {i : ℕ} {x y : List EventInText} → EntriesFrom i x → EntriesFrom i y → EntriesFrom i (x ++ y)
from_join none_from r = r
from_join (one_from f s) r = one_from f (from_join s r)

from_entryless : {i : ℕ} {e : EventInText} {es : List EventInText} → e.entry ≡ None → EntriesFrom i es → EntriesFrom i (e ∷ es)
from_entryless q r = one_from (λ f p. absurd (none_some (sym q ∙ p))) r

from_entering : {i s : ℕ} (k : Option ℕ) {es : List EventInText} → i ≤ s → EntriesFrom i es → EntriesFrom i (first_entering (record { start = s; colon = k; blank_before = false }) es)
from_entering k l none_from = none_from
from_entering k l (one_from f r) = one_from (λ x q. let m = some_start x q in omega arith) r

from_with : {i : ℕ} (a b : ℕ) (p : PropsValue) (tag : Option ℕ) {es : List EventInText} → EntriesFrom i es → EntriesFrom i (first_with p tag a b es)
from_with a b p tag none_from = none_from
from_with a b p tag (one_from f r) = one_from f r

from_collection : {i : ℕ} (first last : EventInText) {es : List EventInText} → first.entry ≡ None → last.entry ≡ None → EntriesFrom i es → EntriesFrom i (first ∷ (es ++ last ∷ []))
from_collection first last a b r = from_entryless a (from_join r (from_entryless b none_from))

abbrev OutcomeFrom : List ℕ → Task → Option ParsedNode → Type 0
OutcomeFrom t task None = Unit {0}
OutcomeFrom t (Parser.ANode n c i) (Some f) = is_block c ≡ false → EntriesFrom (i + 1) f.meaning.events
OutcomeFrom t (Parser.AContent n c i) (Some f) = is_block c ≡ false → EntriesFrom (i + 1) f.meaning.events
OutcomeFrom t (Parser.TheEntries sequence n c i) (Some f) = is_inside c ≡ true → EntriesFrom i f.meaning.events
OutcomeFrom t (Parser.AnEntry sequence n c i) (Some f) = is_inside c ≡ true → EntriesFrom i f.meaning.events
OutcomeFrom t (Parser.AnExplicit n c s i) (Some f) = is_inside c ≡ true → s ≤ i → EntriesFrom s f.meaning.events
OutcomeFrom t (Parser.AnImplicit n c s i) (Some f) = is_inside c ≡ true → s ≤ i → EntriesFrom s f.meaning.events
OutcomeFrom t (Parser.AValue json n c i) (Some f) = is_inside c ≡ true → ColonAt t json c i → EntriesFrom i f.meaning.events

node_order : {t : List ℕ} {e i : ℕ} {n : ℤ} {c : Ctx} {f : ParsedNode} → is_block c ≡ false → Parses t e (Parser.ANode n c i) (Some f) → i < f.end
node_order b p = (flow_starts (found_is_derived b p).0 b).starts.later

entry_order : {t : List ℕ} {e i : ℕ} {sequence : Bool} {n : ℤ} {c : Ctx} {f : ParsedNode} → is_inside c ≡ true → Parses t e (Parser.AnEntry sequence n c i) (Some f) → i ≤ f.end
entry_order {c = c} b p = let l = (flow_starts (sound p b).derived (inside_not_block c b)).later in omega arith

pub outcome_from : {t : List ℕ} {e : ℕ} {task : Task} {o : Option ParsedNode} → Parses t e task o → OutcomeFrom t task o
unfolding found plain_found propertied lone_properties bracketed joined paired pair_entry only meaning_after noting scalar alias_to empty_node plain_event collection with_props entering ◌⊕◌
outcome_from (Parser.alias_read a) = λ b. from_entryless refl none_from
outcome_from (Parser.alias_missed a s) = tt
outcome_from (Parser.plain_read a p) = λ b. from_entryless refl none_from
outcome_from (Parser.plain_missed a s) = tt
outcome_from (Parser.content_read {o = None} a p) = tt
outcome_from (Parser.content_read {o = Some f} a p) = outcome_from p
outcome_from (Parser.properties_missed a s) = tt
outcome_from (Parser.properties_content {i = i} {g = k} {p = p} g s a r) = λ b.
    let l = properties_forward g.derived in
    let m = separate_forward s.derived in
    from_with i k p.props p.tag_offset (from_earlier (omega arith) (outcome_from r b))
outcome_from (Parser.properties_plain g s a p) = λ b. from_entryless refl none_from
outcome_from (Parser.properties_end g s) = λ b. from_entryless refl none_from
outcome_from (Parser.properties_before_broken g s a p) = λ b. from_entryless refl none_from
outcome_from (Parser.properties_before_other g s a p) = λ b. from_entryless refl none_from
outcome_from (Parser.single_read d) = λ b. from_entryless refl none_from
outcome_from (Parser.single_missed a s) = tt
outcome_from (Parser.double_read d) = λ b. from_entryless refl none_from
outcome_from (Parser.double_missed a s) = tt
outcome_from (Parser.too_deep sequence a) = tt
outcome_from (Parser.collection_read {c = c} sequence a g p) = λ b.
    let l = gap_forward g in
    from_collection _ _ refl refl (from_earlier l (outcome_from p (in_flow_inside c b)))
outcome_from (Parser.collection_missed sequence cs a g p) = tt
outcome_from (Parser.entries_end a) = λ q. none_from
outcome_from (Parser.entry_missed a p) = tt
outcome_from (Parser.entry_last a p g b) = outcome_from p
outcome_from (Parser.entry_then a p g b h r) = λ q.
    let k = entry_order q p in
    let l = gap_forward g in
    let m = gap_forward h in
    from_join (outcome_from p q) (from_earlier (omega arith) (outcome_from r q))
outcome_from (Parser.entry_then_missed cs ds a p g b h r) = tt
outcome_from (Parser.entry_unclosed cs a p g b d) = tt
outcome_from (Parser.mapping_explicit a s p) = λ q. let m = separate_forward s.derived in outcome_from p q (omega arith)
outcome_from (Parser.mapping_explicit_missed cs a s p) = tt
outcome_from (Parser.mapping_sign_alone {o = None} a s p) = tt
outcome_from (Parser.mapping_sign_alone {o = Some f} a s p) = λ q. outcome_from p q (omega arith)
outcome_from (Parser.mapping_implicit {o = None} a p) = tt
outcome_from (Parser.mapping_implicit {o = Some f} a p) = λ q. outcome_from p q (omega arith)
outcome_from (Parser.explicit_nothing a) = λ q l. one_from (λ f x. let m = some_start f x in omega arith) (from_entryless refl none_from)
outcome_from (Parser.explicit_something {o = None} a p) = tt
outcome_from (Parser.explicit_something {o = Some f} a p) = outcome_from p
outcome_from (Parser.lone_value a p) = λ q l. one_from (λ f x. let m = some_start f x in omega arith) (from_earlier l (outcome_from p q a))
outcome_from (Parser.key_missed a p) = tt
outcome_from (Parser.key_with_value {k = v} {c = c} a p g b r) = λ q l.
    let m = node_order (inside_not_block c q) p in
    let k = gap_forward g in
    from_join (from_entering (Some v) (omega arith) (from_earlier (omega arith) (outcome_from p (inside_not_block c q)))) (from_earlier (omega arith) (outcome_from r q b))
outcome_from (Parser.key_without_value {c = c} cs a p g b) = λ q l.
    from_join (from_entering None (omega arith) (from_earlier (omega arith) (outcome_from p (inside_not_block c q)))) (from_entryless refl none_from)
outcome_from (Parser.pair_explicit {i = i} a s p) = λ q.
    let m = separate_forward s.derived in
    one_from (λ f x. let y = some_start f x in omega arith) (from_join (outcome_from p q (omega arith)) (from_entryless refl none_from))
outcome_from (Parser.pair_explicit_missed cs a s p) = tt
outcome_from (Parser.pair_explicit_too_deep cs a s) = tt
outcome_from (Parser.pair_of_value a p) = λ q.
    one_from (λ f x. let y = some_start f x in omega arith)
    (one_from (λ f x. let y = some_start f x in omega arith) (from_join (outcome_from p q a) (from_entryless refl none_from)))
outcome_from (Parser.pair_of_value_too_deep a) = tt
outcome_from (Parser.item_missed a b p) = tt
outcome_from (Parser.pair_of_key {k = v} {c = c} a b p key l r) = λ q.
    let m = node_order (inside_not_block c q) p in
    let k = whites_forward key.run in
    one_from (λ f x. let y = some_start f x in omega arith)
    (from_join (from_join (from_entering (Some v) (omega arith) (from_earlier (omega arith) (outcome_from p (inside_not_block c q)))) (from_earlier (omega arith) (outcome_from r q key.colon)))
    (from_entryless refl none_from))
outcome_from (Parser.pair_too_deep a b p key l) = tt
outcome_from (Parser.item_read {c = c} a b p key) = λ q. from_entering None (omega arith) (from_earlier (omega arith) (outcome_from p (inside_not_block c q)))
outcome_from (Parser.value_read {c = c} s p) = λ q a. let m = separate_forward s.derived in from_earlier (omega arith) (outcome_from p (inside_not_block c q))
outcome_from (Parser.value_empty cs s p) = λ q a. from_entryless refl none_from
outcome_from (Parser.value_adjacent {c = c} s p) = λ q a. from_earlier (omega arith) (outcome_from p (inside_not_block c q))
outcome_from (Parser.value_adjacent_empty s p) = λ q a. from_entryless refl none_from
outcome_from (Parser.value_missing s) = λ q a. from_entryless refl none_from
