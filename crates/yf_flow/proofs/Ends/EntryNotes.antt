-- The event that begins a node with the note of its entry; and a node doesn't begin with a line feed.
use Rattle.std.proofs.Common.{◌≡◌, ◌≢◌, ℕ, ℤ, false, List, Option, Some, None, refl, sym, ap, ◌∙◌, subst, true≢false}
use Rattle.yf_chars.specs.declared.context.Ctx.{Ctx}
use Rattle.yf_chars.specs.Text.{code}
use Rattle.yf_chars.specs.Class.{is_ns_char, is_nb_char, is_printable, is_between, is_break_char, is_white}
use Rattle.yf_lines.specs.Basic.{is_block}
use Rattle.yf_events.specs.Event.{EventInText}
use Rattle.yf_events.specs.declared.event.Entry.{Entry}
use Rattle.yf_grammar.specs.FlowReader.Parser.{ParsedNode, ANode, Parses, begins_content, begins_properties}
use Rattle.yf_grammar.specs.FlowReader.FlowContinuations.{Before, NodeOver, bare_there, properties_there}
use Rattle.yf_grammar.proofs.FlowReader.Sound.{found_is_derived}
use Rattle.yf_grammar.proofs.FlowReader.FlowStarts.{flow_starts}
use Rattle.yf_grammar.proofs.FlowReader.PropertiesEnds.{properties_begin}
use Rattle.yf_flow.specs.declared.frame.Role.{Role}
use Rattle.yf_flow.specs.declared.frame.Role.TheVariants.{Item, Key, Value}
use Rattle.yf_flow.specs.StackMeaning.{EntryNoted, NoteOf, entryless, entry_noted, entry_from, entry_of}
use Rattle.yf_flow.specs.EntryOfRole.{EntryBegun}
use Rattle.yf_chars.proofs.CharFacts.{feed_no_ns}

-- an entry is its start, its colon and its note
pub entry_is : {t : List ℕ} {s : ℕ} (e : Entry) → EntryNoted t s None e → record (entry_from s) { blank_before = e.blank_before } ≡ e
entry_is {s = s} e q =
    sym (ap (λ z. record { start = z; colon = e.colon; blank_before = e.blank_before }) q.start
    ∙ ap (λ z. record { start = s; colon = z; blank_before = e.blank_before }) q.colon_there)

some_noted : {t : List ℕ} {s : ℕ} (e : EventInText) (x : Entry) (o : Option Entry) → o ≡ Some x → EntryNoted t s None x
    → NoteOf t (record e { entry = Some (entry_from s) }) (record e { entry = o })
some_noted {t} {s} e x o q n =
    subst (λ z. NoteOf t (record e { entry = Some (entry_from s) }) (record e { entry = z })) (sym q)
    (subst (λ z. NoteOf t (record e { entry = Some (entry_from s) }) (record e { entry = Some z })) (entry_is x n)
    (entry_noted {e = record e { entry = Some (entry_from s) }} (entry_from s) refl n.note))

pub item_value : Item ≡ Value → ⊥
item_value e = cc

pub key_value : Key ≡ Value → ⊥
key_value e = cc

pub begun_note : {t : List ℕ} {o : Option Entry} (s : ℕ) (role : Role) (e : EventInText) → EntryBegun t s role o → ((role ≡ Value → ⊥) → code t s ≢ 10)
    → NoteOf t (record e { entry = entry_of role s }) (record e { entry = o })
begun_note {t} s Value e b f =
    subst (λ z. NoteOf t (record e { entry = None }) (record e { entry = z })) (sym b) (entryless {e = record e { entry = None }} refl)
begun_note {o = o} s Item e b f = some_noted e b.0 o b.1 (b.2 (f item_value))
begun_note {o = o} s Key e b f = some_noted e b.0 o b.1 (b.2 (f key_value))

feed_content : begins_content 10 ≡ false
unfolding begins_content
feed_content = refl

feed_properties : begins_properties 10 ≡ false
unfolding begins_properties
feed_properties = refl

pub node_no_feed : {t : List ℕ} {e p : ℕ} {n : ℤ} {d : Ctx} {f : ParsedNode} → is_block d ≡ false → Parses t e (ANode n d p) (Some f) → code t p ≢ 10
node_no_feed b r q = true≢false (sym (flow_starts (found_is_derived b r).0 b).starts.visible.ns ∙ ap is_ns_char q ∙ feed_no_ns)

pub over_no_feed : {t : List ℕ} {n : ℤ} {d : Ctx} {p k : ℕ} {b : Before} → NodeOver t n d p k b → code t p ≢ 10
over_no_feed (bare_there c) q = true≢false (sym c ∙ ap begins_content q ∙ feed_content)
over_no_feed (properties_there c s z) q = true≢false (sym (properties_begin c.derived) ∙ ap begins_properties q ∙ feed_properties)
