-- Each event of a tree in a text has these properties: its node begins at a visible character, and is spelled.
use Rattle.std.proofs.Common.{◌≡◌, ℕ, suc, zero, ◌<◌, Bool, true, false, List, [], ◌∷◌, ◌++◌, length, Option, Some, None, refl, sym, ap, ◌∙◌, subst, true≢false, arith}
use Rattle.std.specs.Prelude.{slice_index_or}
use Rattle.yf_props.specs.Props.{PropsValue}
use Rattle.yf_events.specs.Event.{EventValue, EventInText, scalar_node, sequence_starts, sequence_ends, mapping_starts, mapping_ends}
use Rattle.yf_events.specs.WellPlaced.{begins_node}
use Rattle.yf_events.specs.declared.event.ScalarStyle.TheVariants.{Plain}
use Rattle.yf_events.specs.declared.event.Span.{Span}
use Rattle.yf_events.specs.Tree.{Node, Items, Pairs, unplaced, flat, flat_items, flat_pairs}
use Rattle.yf_grammar.specs.Productions.Meaning.{from_to}
use Rattle.yf_grammar.specs.Productions.SpellableTexts.{IsSpelled}
use Rattle.yf_grammar.proofs.Ends.GapLemmas.{Visible}
use Rattle.yf_grammar.proofs.NodesInText.NodePlaces.{NodeIsAt, is_at_nowhere, scalar_is_at, alias_is_at, sequence_is_at, mapping_is_at, ItemsStand, no_items_stand, item_is_at, PairsStand, no_pairs_stand, pair_is_at}
use Rattle.yf_grammar.proofs.NodesInText.PlacedLeaves.{nothing_spelled}

pub record EventIsAt (t : List ℕ) (e : EventInText) : Type 0 where
  pub visible : (s : Span) → e.span ≡ Some s → Visible t s.start
  pub spelled : begins_node e.event ≡ true → IsSpelled e.event e.folded

pub data EventsStand (t : List ℕ) : List EventInText → Type 0 where
  no_events_stand : EventsStand t []
  event_is_at : {e : EventInText} {es : List EventInText} → EventIsAt t e → EventsStand t es → EventsStand t (e ∷ es)

pub events_join : {t : List ℕ} {x y : List EventInText} → EventsStand t x → EventsStand t y → EventsStand t (x ++ y)
events_join no_events_stand b = b
events_join (event_is_at e a) b = event_is_at e (events_join a b)

pub events_all : {t : List ℕ} {P : EventInText → Type 0} (es : List EventInText) → EventsStand t es → ((e : EventInText) → EventIsAt t e → P e)
    → (k : ℕ) (d : EventInText) → k < length es → P (slice_index_or es k d)
events_all [] a f k d l = absurd (omega arith)
events_all (e ∷ es) (event_is_at h a) f zero d l = f e h
events_all {P = P} (e ∷ es) (event_is_at h a) f (suc k) d l = events_all {P = P} es a f k d (omega arith)

-- events that begin no node
pub unplaced_is_at : {t : List ℕ} (e : EventValue) → begins_node e ≡ false → EventIsAt t (unplaced e)
unplaced_is_at e b = record { visible = λ s q. absurd cc; spelled = λ q. absurd (true≢false (sym q ∙ b)) }

sequence_spelled : {props : PropsValue} (flow : Bool) → IsSpelled (scalar_node props Plain []) [] → IsSpelled (sequence_starts flow props) []
sequence_spelled flow s = record {
  text = s.text;
  utf8 = s.utf8;
  production = s.production;
  height = s.height;
  from = s.from;
  to = s.to;
  meaning = s.meaning;
  derived = s.derived;
  at = s.at;
  is = s.is;
}

mapping_spelled : {props : PropsValue} (flow : Bool) → IsSpelled (scalar_node props Plain []) [] → IsSpelled (mapping_starts flow props) []
mapping_spelled flow s = record {
  text = s.text;
  utf8 = s.utf8;
  production = s.production;
  height = s.height;
  from = s.from;
  to = s.to;
  meaning = s.meaning;
  derived = s.derived;
  at = s.at;
  is = s.is;
}

start_or : ℕ → Option Span → ℕ
start_or i None = i
start_or i (Some s) = s.start

seen : {t : List ℕ} {o : Option Span} (a b : ℕ) → Visible t a → o ≡ from_to a b → (s : Span) → o ≡ Some s → Visible t s.start
unfolding from_to start_or
seen {t} a b v p s q = subst (λ i. Visible t i) (ap (start_or a) (sym p ∙ q)) v

mutual
  pub node_events : {t : List ℕ} {i j : ℕ} {x : Node} → NodeIsAt t i j x → EventsStand t (flat x)
  node_events (is_at_nowhere m e) = event_is_at (record { visible = λ s q. absurd cc; spelled = λ q. nothing_spelled }) no_events_stand
  node_events (scalar_is_at e b l m w s) = event_is_at (record { visible = seen _ _ b.visible e; spelled = λ q. s }) no_events_stand
  node_events (alias_is_at e b l m s) = event_is_at (record { visible = seen _ _ b.visible e; spelled = λ q. s }) no_events_stand
  node_events (sequence_is_at {flow = flow} e b a m s) =
      event_is_at (record { visible = seen _ _ b.visible e; spelled = λ q. sequence_spelled flow s })
      (events_join (items_events a) (event_is_at (unplaced_is_at sequence_ends refl) no_events_stand))
  node_events (mapping_is_at {flow = flow} e b a m s) =
      event_is_at (record { visible = seen _ _ b.visible e; spelled = λ q. mapping_spelled flow s })
      (events_join (pairs_events a) (event_is_at (unplaced_is_at mapping_ends refl) no_events_stand))

  items_events : {t : List ℕ} {i j : ℕ} {xs : Items} → ItemsStand t i j xs → EventsStand t (flat_items xs)
  items_events (no_items_stand m) = no_events_stand
  items_events (item_is_at e q m a b) = events_join (node_events a) (items_events b)

  pairs_events : {t : List ℕ} {i j : ℕ} {ps : Pairs} → PairsStand t i j ps → EventsStand t (flat_pairs ps)
  pairs_events (no_pairs_stand m) = no_events_stand
  pairs_events (pair_is_at e q m a c b d) = events_join (node_events a) (events_join (node_events b) (pairs_events d))
