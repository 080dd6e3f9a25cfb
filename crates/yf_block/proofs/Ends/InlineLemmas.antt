-- The node found on a line (a flow node, an alias, or an empty key), and how it is written.
use Rattle.std.proofs.Common.{◌≡◌, ◌≢◌, ℕ, ℤ, true, false, List, [], ◌∷◌, ◌++◌, Option, None, refl, sym, ◌∙◌, subst, arith, append-nil}
use Rattle.std.proofs.lemmas.Bool.Decides.{nat_tests}
use Rattle.yf_chars.specs.declared.context.Ctx.TheVariants.{FlowOut}
use Rattle.yf_chars.specs.Text.{code}
use Rattle.yf_chars.specs.Chain.{Stuck, Chosen}
use Rattle.yf_props.specs.Names.{Alias}
use Rattle.yf_props.specs.Props.{no_props}
use Rattle.yf_events.specs.Event.{scalar_node, alias_node}
use Rattle.yf_events.specs.declared.event.ScalarStyle.TheVariants.{Plain}
use Rattle.yf_events.specs.declared.part.Part.{Part}
use Rattle.yf_grammar.specs.Productions.Meaning.{from_to, alias_to, empty_node}
use Rattle.yf_grammar.specs.FlowReader.Parser.{ANode, Parses, begins_alias}
use Rattle.yf_grammar.specs.FlowReader.Parser.Parses.{alias_read, alias_missed}
use Rattle.yf_grammar.proofs.FlowStack.AwaitEntries.{found_is}
use Rattle.yf_flow.specs.declared.node.Lead.{Lead}
use Rattle.yf_flow.specs.declared.nodes.Ending.{Ending}
use Rattle.yf_flow.specs.declared.nodes.Ending.TheVariants.{End, Nothing as NoEnd, TooDeep as TooDeepThere}
use Rattle.yf_flow.specs.NodeStarts.{lead_event, leaf_event}
use Rattle.yf_flow.specs.ContentAnswers.{WrittenWith, ContentEnds}
use Rattle.yf_flow.specs.StackMeaning.{no_events}
use Rattle.yf_block.specs.declared.properties.PlacedProperties.{PlacedProperties}
use Rattle.yf_block.specs.InlineAnswers.{NoEmptyKey, EmptyKeyAt, NodeIs, InlineRead, content_read, empty_key_read, content_lost, InlineEnds}
use Rattle.yf_block.specs.InlineAnswers as Answers

pub alias_there : (c : ℕ) → c ≡ 42 → begins_alias c ≡ true
unfolding begins_alias
alias_there c e = rw e refl

pub alias_not : (c : ℕ) → c ≢ 42 → begins_alias c ≡ false
unfolding begins_alias
alias_not c n = grind (arith, nat_tests)

-- an empty node at the end of properties, and an alias
module _ {t : List ℕ} {lead : Lead} {old new : Part} where
  pub empty_written : (end : ℕ) → new.events ≡ old.events ++ leaf_event lead Plain [] end ∷ [] → new.comments ≡ old.comments → new.escapes ≡ old.escapes → WrittenWith t lead (empty_node end) None end old new
  unfolding empty_node
  empty_written end a b c = record {
    event = scalar_node no_props Plain [];
    others = [];
    noted_others = [];
    events = refl;
    no_properties = refl;
    no_lines = λ props. refl;
    noted = no_events;
    added = record { events = a; comments = b ∙ sym (append-nil old.comments); escapes = c ∙ sym (append-nil old.escapes) };
  }

  pub alias_written : (name : List ℕ) (at end : ℕ) → new.events ≡ old.events ++ lead_event lead (alias_node name) end ∷ [] → new.comments ≡ old.comments → new.escapes ≡ old.escapes
      → WrittenWith t lead (alias_to name at end) (from_to at end) end old new
  unfolding alias_to
  alias_written name at end a b c = record {
    event = alias_node name;
    others = [];
    noted_others = [];
    events = refl;
    no_properties = refl;
    no_lines = λ props. refl;
    noted = no_events;
    added = record { events = a; comments = b ∙ sym (append-nil old.comments); escapes = c ∙ sym (append-nil old.escapes) };
  }

alias_finish : (name : List ℕ) (at end : ℕ) → (alias_to name at end).finish ≡ end
unfolding alias_to
alias_finish name at end = refl

module _ {t : List ℕ} {room : ℕ} {n : ℤ} {at depth : ℕ} {lead : Lead} {old new : Part} where
  pub alias_found : (name : List ℕ) (end : ℕ) → Chosen (Alias t at) end name → WrittenWith t lead (alias_to name at end) (from_to at end) end old new
      → InlineRead t room n at depth None lead old new (record { end = end; json = false; deepest = depth })
  alias_found name end a w =
      Answers.alias_read refl (subst (λ o. Parses t room (ANode n FlowOut at) o) (found_is end 0 false (alias_to name at end)) (alias_read a))
      (record { end = refl; json = refl; deepest = omega arith; finish = alias_finish name at end }) w

pub alias_none : {t : List ℕ} {room : ℕ} {n : ℤ} {at : ℕ} → code t at ≡ 42 → Stuck (Alias t at) → Answers.InlineLost t room n at None
alias_none {t} {at = at} c s = Answers.alias_lost refl (alias_missed (alias_there (code t at) c) s)

module _ {t : List ℕ} {at : ℕ} (room : ℕ) (n : ℤ) (depth : ℕ) (lead : Lead) (old new : Part) where
  pub content_ends : {held : Option PlacedProperties} (e : Ending) → NoEmptyKey t at held → code t at ≢ 42 → ContentEnds t n FlowOut room at depth lead old new e → InlineEnds t room n at depth held lead old new e
  content_ends (End node) k a r = content_read k (alias_not (code t at) a) r.read (record { end = r.end; json = r.json; deepest = r.deepest; finish = r.finish }) r.written
  content_ends NoEnd k a r = content_lost k (alias_not (code t at) a) r
  content_ends (TooDeepThere p) k a r = content_lost k (alias_not (code t at) a) r
