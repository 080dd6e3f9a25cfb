-- The results of the public readers, from the node that was read within the limit.
use Rattle.std.proofs.Common.{◌≡◌, ℕ, ◌<◌, ℤ, pos, Bool, false, List, [], ◌∷◌, Option, Some, None, Result, Ok, Err, refl, sym, subst}
use Rattle.std.specs.Str.{IsUtf8}
use Rattle.yf_chars.specs.declared.context.Ctx.{Ctx}
use Rattle.yf_chars.specs.Chain.{Stuck, Chosen}
use Rattle.yf_lines.specs.Basic.{is_block}
use Rattle.yf_lines.specs.FaultPlaces.{InText, IsFirstPlace}
use Rattle.yf_lines.specs.declared.fault.Fault.{Fault}
use Rattle.yf_lines.specs.declared.fault.Fault.TheVariants.{TooDeep, EscapeValue}
use Rattle.yf_lines.specs.declared.place.Position.{Position}
use Rattle.yf_events.specs.declared.part.Part.{Part}
use Rattle.yf_events.specs.declared.reading.TheConstants.{DEPTH}
use Rattle.yf_grammar.specs.Productions.Grammar.{Production, FlowNode, NodeOf, Derives}
use Rattle.yf_grammar.specs.Productions.Grammar.Derives.{flow_node}
use Rattle.yf_grammar.specs.Productions.Meaning.{Meaning}
use Rattle.yf_grammar.specs.Productions.ReadParts.{DerivedPart, FlowNodePart, KeyPart, key_node}
use Rattle.yf_grammar.specs.FlowReader.Parser.{ANode, Parses}
use Rattle.yf_grammar.specs.Refusal.{ScanFault, for_memory, for_depth, NodeFault, as_scanned, for_escape}
use Rattle.yf_grammar.proofs.Ends.Parts.{found_is_chosen, none_is_stuck}
use Rattle.yf_flow.specs.NodeAnswers.{NodeFound}
use Rattle.yf_flow.specs.Depth.{openers_from}
use Rattle.yf_flow.specs.NodeReaders.{NodeScanned, ReadsNode, ScansNode, ReadsFlowNode, ScansFlowNode, ReadsKey, ScansKey}
use Rattle.yf_flow.specs.declared.flow.NodePart.{NodePart}
use Rattle.yf_flow.specs.declared.flow.ScannedPart.{ScannedPart}
use Rattle.yf_flow.proofs.Ends.NotedLemmas.{noted_noting}

module _ {t : List ℕ} {n : ℤ} {c : Ctx} {limit i : ℕ} where
  pub found_chosen : {part : Part} {end : ℕ} → IsUtf8 t → is_block c ≡ false → NodeFound t n c limit i part end → Chosen (FlowNodePart t limit n c i) end part
  found_chosen {part} u b f =
      subst (λ z. Chosen (FlowNodePart t limit n c i) z part) (sym f.ends) (found_is_chosen u b f.parsed (noted_noting f.written.events) f.written.comments f.written.escapes)

pub too_deep_there : {t : List ℕ} {n : ℤ} {c : Ctx} {i : ℕ} {place : Position} → IsUtf8 t → is_block c ≡ false → Parses t DEPTH (ANode n c i) None × (DEPTH < openers_from t i) → InText t place
    → ScanFault t (FlowNodePart t DEPTH n c i) i (TooDeep place)
unfolding openers_from
too_deep_there u b r p = for_depth (none_is_stuck u b r.0) r.1 p

module _ {t : List ℕ} {P : ℕ → Part → Type 0} {i : ℕ} where
  escape_stops : {j : ℕ} {part : Part} {place : Position} (es : List ℕ) → part.escapes ≡ es → IsFirstPlace t es (Some place) → Chosen P j part → NodeFault t P i (EscapeValue place)
  escape_stops [] e p d = absurd p
  escape_stops (x ∷ xs) e p d = for_escape d e p

  pub scanned_stops : (node : ScannedPart) (place : Position) → node.escape ≡ Some place → NodeScanned t P node → NodeFault t P i (EscapeValue place)
  scanned_stops node place e s = escape_stops node.part.escapes refl (subst (λ o. IsFirstPlace t node.part.escapes o) e s.escape) s.chosen

-- a node of an implicit key is a flow node with the indentation 0
flow_kind : {t : List ℕ} {h i j : ℕ} {n : ℤ} {c : Ctx} {x : Meaning} → Derives t h (FlowNode n c) i j x → (json : Bool) × Derives t h (NodeOf json n c) i j x
flow_kind (flow_node {json = json} d) = (json, d)

derived_as : {t : List ℕ} {limit i j : ℕ} {p q : Production} {part : Part} (d : DerivedPart t limit p i j part) → Derives t d.height q i j d.meaning → DerivedPart t limit q i j part
derived_as d r = record { height = d.height; meaning = d.meaning; derived = r; within = d.within; clear = d.clear; events = d.events; comments = d.comments; escapes = d.escapes }

module _ {t : List ℕ} {limit i j : ℕ} {c : Ctx} {part : Part} where
  flow_as_key : FlowNodePart t limit (pos 0) c i j part → KeyPart t limit c i j part
  flow_as_key d = let k = flow_kind d.derived in key_node k.0 (derived_as d k.1)

  key_as_flow : KeyPart t limit c i j part → FlowNodePart t limit (pos 0) c i j part
  key_as_flow (key_node json d) = derived_as d (flow_node d.derived)

-- the chosen part of one relation is that of another, if each implies the other
record Alike (P Q : ℕ → Part → Type 0) : Type 0 where
  to : (j : ℕ) (x : Part) → P j x → Q j x
  from : (j : ℕ) (x : Part) → Q j x → P j x

module _ {P Q : ℕ → Part → Type 0} where
  chosen_alike : {j : ℕ} {x : Part} → Alike P Q → Chosen P j x → Chosen Q j x
  chosen_alike {j} {x} a d = record { derived = a.to j x d.derived; longest = λ k y q. d.longest k y (a.from k y q); only = λ y q. d.only y (a.from j y q) }

  stuck_alike : Alike P Q → Stuck P → Stuck Q
  stuck_alike a s = record { none = λ j x q. s.none j x (a.from j x q) }

module _ {t : List ℕ} {P Q : ℕ → Part → Type 0} {i : ℕ} where
  scan_fault_alike : {fault : Fault} → Alike P Q → ScanFault t P i fault → ScanFault t Q i fault
  scan_fault_alike a for_memory = for_memory
  scan_fault_alike a (for_depth s l p) = for_depth (stuck_alike a s) l p

  fault_alike : {fault : Fault} → Alike P Q → NodeFault t P i fault → NodeFault t Q i fault
  fault_alike a (as_scanned s) = as_scanned (scan_fault_alike a s)
  fault_alike a (for_escape d e p) = for_escape (chosen_alike a d) e p

scans_alike : (t : List ℕ) (P Q : ℕ → Part → Type 0) (i : ℕ) (r : Result (Option ScannedPart) Fault) → Alike P Q → ScansNode t P i r → ScansNode t Q i r
scans_alike t P Q i (Ok None) a s = stuck_alike a s
scans_alike t P Q i (Ok (Some node)) a s = record { chosen = chosen_alike a s.chosen; escape = s.escape; boundary = s.boundary }
scans_alike t P Q i (Err fault) a s = scan_fault_alike a s

reads_alike : (t : List ℕ) (P Q : ℕ → Part → Type 0) (i : ℕ) (r : Result (Option NodePart) Fault) → Alike P Q → ReadsNode t P i r → ReadsNode t Q i r
reads_alike t P Q i (Ok None) a s = stuck_alike a s
reads_alike t P Q i (Ok (Some node)) a s = record { chosen = chosen_alike a s.chosen; good = s.good; boundary = s.boundary }
reads_alike t P Q i (Err fault) a s = fault_alike a s

keys_alike : (t : List ℕ) (c : Ctx) (i : ℕ) → Alike (FlowNodePart t DEPTH (pos 0) c i) (KeyPart t DEPTH c i)
keys_alike t c i = record { to = λ j x d. flow_as_key d; from = λ j x d. key_as_flow d }

pub scans_key : (t : List ℕ) (c : Ctx) (i : ℕ) (r : Result (Option ScannedPart) Fault) → ScansFlowNode t (pos 0) c i r → ScansKey t c i r
scans_key t c i r s = scans_alike t (FlowNodePart t DEPTH (pos 0) c i) (KeyPart t DEPTH c i) i r (keys_alike t c i) s

pub reads_key : (t : List ℕ) (c : Ctx) (i : ℕ) (r : Result (Option NodePart) Fault) → ReadsFlowNode t (pos 0) c i r → ReadsKey t c i r
reads_key t c i r s = reads_alike t (FlowNodePart t DEPTH (pos 0) c i) (KeyPart t DEPTH c i) i r (keys_alike t c i) s
