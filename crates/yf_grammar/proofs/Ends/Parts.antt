-- A node that the recursive reader found, with the notes of its entries filled in, is the longest one, as the readers
-- of nodes promise. If it found none, none is derived.
use Rattle.std.proofs.Common.{◌≡◌, ℕ, ℤ, pos, ◌<◌, ◌≤◌, Bool, false, ◌⊎◌, ⊎_elim, arith, List, ◌∷◌, Some, None, refl, sym, ap, ◌∙◌, subst}
use Rattle.std.specs.Str.{IsUtf8}
use Rattle.yf_chars.specs.declared.context.Ctx.{Ctx}
use Rattle.yf_chars.specs.Chain.{Chosen, Stuck}
use Rattle.yf_lines.specs.Basic.{is_block, Clear}
use Rattle.yf_comments.specs.Comment.{CommentValue}
use Rattle.yf_events.specs.Event.{EventInText}
use Rattle.yf_events.specs.declared.part.Part.{Part}
use Rattle.yf_grammar.specs.Productions.Grammar.{FlowNode, NodeOf, Derives, flow_node}
use Rattle.yf_grammar.specs.Productions.Meaning.{Meaning}
use Rattle.yf_grammar.specs.Productions.ReadParts.{NotedSince, noted, not_noted, Noting, no_event, without_entry, with_entry, DerivedPart, FlowNodePart, KeyPart, key_node}
use Rattle.yf_grammar.specs.FlowReader.Parser.{ParsedNode, Parses, ANode}
use Rattle.yf_grammar.proofs.FlowReader.ClearLemmas.{found_is_clear}
use Rattle.yf_grammar.proofs.FlowReader.Longest.{longest_is_found, nothing_is_derived}
use Rattle.yf_grammar.proofs.FlowReader.Sound.{found_is_derived}

module _ {t : List ℕ} {e i : ℕ} {n : ℤ} {c : Ctx} {f : ParsedNode} {part : Part} where
  pub found_is_part : IsUtf8 t → is_block c ≡ false → Parses t e (ANode n c i) (Some f) → Noting t 0 f.meaning.events part.events
      → part.comments ≡ f.meaning.comments → part.escapes ≡ f.meaning.escapes → DerivedPart t e (NodeOf f.json n c) i f.end part
  found_is_part u b p events comments escapes =
      let d = found_is_derived b p in
      record {
        height = f.height;
        meaning = f.meaning;
        derived = d.0;
        within = d.1;
        clear = found_is_clear u p;
        events = events;
        comments = comments;
        escapes = escapes;
      }

  -- a flow node
  pub found_is_flow_node : IsUtf8 t → is_block c ≡ false → Parses t e (ANode n c i) (Some f) → Noting t 0 f.meaning.events part.events
      → part.comments ≡ f.meaning.comments → part.escapes ≡ f.meaning.escapes → FlowNodePart t e n c i f.end part
  found_is_flow_node u b p events comments escapes =
      let d = found_is_derived b p in
      record {
        height = f.height;
        meaning = f.meaning;
        derived = flow_node d.0;
        within = d.1;
        clear = found_is_clear u p;
        events = events;
        comments = comments;
        escapes = escapes;
      }

-- the node of an implicit key
pub found_is_key : {t : List ℕ} {e i : ℕ} {c : Ctx} {f : ParsedNode} {part : Part} → IsUtf8 t → is_block c ≡ false → Parses t e (ANode (pos 0) c i) (Some f)
    → Noting t 0 f.meaning.events part.events → part.comments ≡ f.meaning.comments → part.escapes ≡ f.meaning.escapes → KeyPart t e c i f.end part
found_is_key {f = f} u b p events comments escapes = key_node f.json (found_is_part u b p events comments escapes)

-- a note has one value
noted_one : {t : List ℕ} {floor i : ℕ} {a b : Bool} → NotedSince t floor i a → NotedSince t floor i b → a ≡ b
noted_one (noted x) (noted y) = refl
noted_one (noted x) (not_noted n) = absurd (n x)
noted_one (not_noted n) (noted x) = absurd (n x)
noted_one (not_noted n) (not_noted m) = refl

pub noting_one : {t : List ℕ} {floor : ℕ} {x y z : List EventInText} → Noting t floor x y → Noting t floor x z → y ≡ z
noting_one no_event no_event = refl
noting_one (without_entry {e = e} a r) (without_entry b s) = ap (λ w. e ∷ w) (noting_one r s)
noting_one (without_entry a r) (with_entry entry b n s) = cc
noting_one (with_entry entry a n r) (without_entry b s) = cc
noting_one {t} {floor} (with_entry {e = e} {y = y} {b = d} entry a n r) (with_entry {y = z} {b = g} other b m s) =
    let same : entry ≡ other = cc in
    let note : d ≡ g = noted_one n (subst (λ w. NotedSince t floor w.start g) (sym same) m) in
    let rest : y ≡ z = noting_one r s in
    rw (note, same, rest) refl

pub part_one : (p q : Part) → p.events ≡ q.events → p.comments ≡ q.comments → p.escapes ≡ q.escapes → p ≡ q
part_one p q a b c =
    let put : List EventInText → List CommentValue → List ℕ → Part = λ x y z. record { events = x; comments = y; escapes = z } in
    ap (λ x. put x p.comments p.escapes) a ∙ ap (λ y. put q.events y p.escapes) b ∙ ap (λ z. put q.events q.comments z) c

-- the outcome ends after each other flow node that is derived there within the limit
module _ {t : List ℕ} {e i : ℕ} {n : ℤ} {c : Ctx} {f : ParsedNode} where
  flow_far : {h k : ℕ} {x : Meaning} → IsUtf8 t → is_block c ≡ false → Parses t e (ANode n c i) (Some f) → h ≤ e → Derives t h (FlowNode n c) i k x → Clear t i k
      → (k < f.end) ⊎ ((k ≡ f.end) × (x ≡ f.meaning))
  flow_far u b p l (flow_node d) a = longest_is_found u b l d a p

  flow_longest : {h k : ℕ} {x : Meaning} → IsUtf8 t → is_block c ≡ false → Parses t e (ANode n c i) (Some f) → h ≤ e → Derives t h (FlowNode n c) i k x → Clear t i k → k ≤ f.end
  flow_longest {k = k} {x = x} u b p l d a =
      ⊎_elim (λ (q : k < f.end). omega arith) (λ (q : (k ≡ f.end) × (x ≡ f.meaning)). let r = q.0 in omega arith) (flow_far u b p l d a)

  flow_only : {h : ℕ} {x : Meaning} → IsUtf8 t → is_block c ≡ false → Parses t e (ANode n c i) (Some f) → h ≤ e → Derives t h (FlowNode n c) i f.end x → Clear t i f.end → x ≡ f.meaning
  flow_only {x = x} u b p l d a =
      ⊎_elim (λ (q : f.end < f.end). absurd (omega arith)) (λ (q : (f.end ≡ f.end) × (x ≡ f.meaning)). q.1) (flow_far u b p l d a)

  -- the outcome is the longest flow node there, and has one meaning
  pub found_is_chosen : {part : Part} → IsUtf8 t → is_block c ≡ false → Parses t e (ANode n c i) (Some f) → Noting t 0 f.meaning.events part.events
      → part.comments ≡ f.meaning.comments → part.escapes ≡ f.meaning.escapes → Chosen (FlowNodePart t e n c i) f.end part
  found_is_chosen {part} u b p events comments escapes = record {
    derived = found_is_flow_node u b p events comments escapes;
    longest = λ k y d. flow_longest u b p d.within d.derived d.clear;
    only = λ y d.
        let m = flow_only u b p d.within d.derived d.clear in
        let noting' : Noting t 0 f.meaning.events y.events = subst (λ x. Noting t 0 x.events y.events) m d.events in
        part_one y part (noting_one noting' events) (d.comments ∙ ap (λ x. x.comments) m ∙ sym comments) (d.escapes ∙ ap (λ x. x.escapes) m ∙ sym escapes);
  }

-- if the outcome is `None`, no flow node is derived
module _ {t : List ℕ} {e i : ℕ} {n : ℤ} {c : Ctx} where
  nothing_flows : {h k : ℕ} {x : Meaning} → IsUtf8 t → is_block c ≡ false → Parses t e (ANode n c i) None → h ≤ e → Derives t h (FlowNode n c) i k x → Clear t i k → ⊥
  nothing_flows u b p l (flow_node d) a = nothing_is_derived u b l d a p

  pub none_is_stuck : IsUtf8 t → is_block c ≡ false → Parses t e (ANode n c i) None → Stuck (FlowNodePart t e n c i)
  none_is_stuck u b p = record { none = λ k y d. nothing_flows u b p d.within d.derived d.clear }

-- likewise for the node of an implicit key, which is a flow node
key_flow : {t : List ℕ} {e i k : ℕ} {c : Ctx} {part : Part} → KeyPart t e c i k part → FlowNodePart t e (pos 0) c i k part
key_flow (key_node json d) = record {
  height = d.height;
  meaning = d.meaning;
  derived = flow_node d.derived;
  within = d.within;
  clear = d.clear;
  events = d.events;
  comments = d.comments;
  escapes = d.escapes;
}

pub found_is_chosen_key : {t : List ℕ} {e i : ℕ} {c : Ctx} {f : ParsedNode} {part : Part} → IsUtf8 t → is_block c ≡ false → Parses t e (ANode (pos 0) c i) (Some f)
    → Noting t 0 f.meaning.events part.events → part.comments ≡ f.meaning.comments → part.escapes ≡ f.meaning.escapes → Chosen (KeyPart t e c i) f.end part
found_is_chosen_key u b p events comments escapes =
    let chosen = found_is_chosen u b p events comments escapes in
    record {
      derived = found_is_key u b p events comments escapes;
      longest = λ k y d. chosen.longest k y (key_flow d);
      only = λ y d. chosen.only y (key_flow d);
    }

pub none_is_no_key : {t : List ℕ} {e i : ℕ} {c : Ctx} → IsUtf8 t → is_block c ≡ false → Parses t e (ANode (pos 0) c i) None → Stuck (KeyPart t e c i)
none_is_no_key u b p = record { none = λ k y d. (none_is_stuck u b p).none k y (key_flow d) }
