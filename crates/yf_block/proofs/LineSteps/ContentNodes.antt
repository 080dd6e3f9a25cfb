-- The node on a line from its properties on: found, with any lead; or why no key and no leaf is found.
use Rattle.std.proofs.Common.{◌≡◌, ℕ, ℤ, pos, ◌+ℤ◌, true, false, List, [], ◌∷◌, ◌++◌, Option, Some, None, refl, sym, ◌∙◌, subst, ◌⊎◌, inl, inr, ⊎_elim, true≢false, encode_utf8_all}
use Rattle.std.proofs.lemmas.Bool.{cases_Bool}
use Rattle.std.specs.Str.{IsUtf8}
use Rattle.yf_chars.specs.declared.context.Ctx.{Ctx}
use Rattle.yf_chars.specs.declared.context.Ctx.TheVariants.{FlowOut, FlowKey}
use Rattle.yf_chars.specs.Text.{code}
use Rattle.yf_chars.specs.Chain.{Stuck}
use Rattle.yf_comments.specs.Comments.{LineEnd}
use Rattle.yf_plain.specs.Plain.{Plain}
use Rattle.yf_props.specs.Names.{Properties, PropertiesValue}
use Rattle.yf_props.specs.Props.{props_value}
use Rattle.yf_events.specs.declared.event.Span.{Span}
use Rattle.yf_events.specs.declared.part.Part.{Part}
use Rattle.yf_events.specs.declared.event.ScalarStyle.TheVariants.{Plain as PlainStyle}
use Rattle.yf_grammar.specs.Productions.Meaning.{Meaning, event_with, scalar}
use Rattle.yf_grammar.specs.FlowReader.Parser.{ParsedNode, ANode, Parses, begins_alias, begins_properties, begins_content, begins_plain}
use Rattle.yf_grammar.specs.FlowReader.Parser.Parses.{plain_read, plain_missed, content_read, alias_missed, properties_missed, properties_content, properties_plain, properties_end, properties_before_broken, properties_before_other}
use Rattle.yf_grammar.specs.FlowReader.Parser as Parsing
use Rattle.yf_grammar.specs.Productions.BlockScalar.{BlockScalar}
use Rattle.yf_grammar.specs.BlockReader.BlockParser.{Ahead, Nothing, Indicator, Props, PropertiesHeld as HeldValue, Joins, first_held, more_held, Apart, both, Columns, NoKeyAt, unfit_node, Keyless, node_unfit, properties_end_line, MayLeaf, Leaf, Whole}
use Rattle.yf_grammar.specs.BlockReader.BlockParser.Whole.{leaf_missed, leaf_refused}
use Rattle.yf_grammar.specs.BlockReader.Halts.{PlainPart, plain_part, Halts}
use Rattle.yf_grammar.specs.BlockReader.Halts.Halts.{halts_plain_missed, halts_content_missed, halts_refused}
use Rattle.yf_grammar.proofs.FlowReader.NodeExact.{plain_is}
use Rattle.yf_grammar.proofs.Ends.NodeExits.{none_found, alias_no_plain, alias_begins, plain_no_content, plain_no_properties}
use Rattle.yf_grammar.proofs.FlowReader.PropertiesEnds.{properties_begin}
use Rattle.yf_grammar.proofs.Ends.Ways.{chosen_one}
use Rattle.yf_flow.specs.NodeStarts.{bare_lead, lead_event}
use Rattle.yf_flow.specs.ContentAnswers.{WrittenWith}
use Rattle.yf_flow.specs.declared.frame.Node.{Node}
use Rattle.yf_flow.specs.declared.node.Lead.{Lead}
use Rattle.yf_block.specs.declared.properties.PlacedProperties.{PlacedProperties}
use Rattle.yf_block.specs.ContentTied.{TextAfter, text_alone, text_held}
use Rattle.yf_block.specs.PropertiesAnswers.{LineProperties, BothThere, both_there, held_lead}
use Rattle.yf_block.specs.InlineAnswers.{InlineRead, InlineLost}
use Rattle.yf_block.specs.InlineAnswers as Answers
use Rattle.yf_block.proofs.Ends.PropertiesLemmas.{name_there, tag_there, no_clash}
use Rattle.yf_block.proofs.Ends.KeyNodes.{keyless_after}
use Rattle.yf_block.proofs.Stack.TiedKeys.{keyless_plain}
use Rattle.yf_block.proofs.Stack.TiedLeads.{NodeThere, bare_there, held_there}
use Rattle.yf_block.proofs.Ends.BelongingLemmas.{no_props_nothing, no_props_sign}

-- a node written with one lead can be written with another
module _ {t : List ℕ} {lead : Lead} {x : Meaning} {span : Option Span} {end : ℕ} {old new : Part} (other : Lead) (w : WrittenWith t lead x span end old new) where
  abbrev other_part : Part
  other_part = record {
    events = old.events ++ (lead_event other (event_with (props_value other.props) w.event) end ∷ w.noted_others);
    comments = old.comments ++ x.comments;
    escapes = old.escapes ++ x.escapes;
  }

  other_written : WrittenWith t other x span end old other_part
  other_written = record {
    event = w.event;
    others = w.others;
    noted_others = w.noted_others;
    events = w.events;
    no_properties = w.no_properties;
    no_lines = w.no_lines;
    noted = w.noted;
    added = record { events = refl; comments = refl; escapes = refl };
  }

module _ {t : List ℕ} {e at depth : ℕ} {n : ℤ} {held : Option PlacedProperties} {lead : Lead} {old new : Part} {node : Node} (other : Lead) where
  inline_other : InlineRead t e n at depth held lead old new node → (mid : Part) × InlineRead t e n at depth held other old mid node
  inline_other (Answers.content_read k a r i w) = (other_part other w, Answers.content_read k a r i (other_written other w))
  inline_other (Answers.alias_read q r i w) = (other_part other w, Answers.alias_read q r i (other_written other w))
  inline_other (Answers.empty_key_read k j d w) = (other_part other w, Answers.empty_key_read k j d (other_written other w))

module _ {t : List ℕ} (u : IsUtf8 t) {e p : ℕ} {n : ℤ} where
  pub node_here : {held : Option PlacedProperties} {at depth : ℕ} {lead : Lead} {old new : Part} {node : Node} → TextAfter t p held at → InlineRead t e n at depth held lead old new node → (mid : Part) × NodeThere t e n p depth None old mid node
  node_here (text_alone s) r = let o = inline_other (bare_lead p None) r in (o.0, bare_there o.1)
  node_here (text_held {held = h} l s b) r = let o = inline_other (held_lead h None) r in (o.0, held_there u l s b o.1)

  pub lost_keyless : {held : Option PlacedProperties} {at : ℕ} → TextAfter t p held at → InlineLost t e n at held → Keyless t e n p
  lost_keyless (text_alone s) i = keyless_plain s i
  lost_keyless (text_held l s b) i = keyless_after u l s b i

-- the line of its properties goes on
pub no_key_held : {t : List ℕ} {e p : ℕ} {n : ℤ} {held : PlacedProperties} {cols : Columns} (l : LineProperties t p held) → Stuck (LineEnd t held.end) → Keyless t e (n +ℤ pos 1) p → NoKeyAt t e n cols p
no_key_held l s (node_unfit r k) = unfit_node r k
no_key_held {t} l s (properties_end_line {l = k} {ds = ds} c d) = let same = chosen_one l.chosen c in absurd (s.none k ds (subst (λ (z : ℕ). LineEnd t z k ds) same.0 d))

no_key_bare : {t : List ℕ} {e p : ℕ} {n : ℤ} {cols : Columns} → Stuck (Properties t (pos 0) FlowKey p) → Keyless t e (n +ℤ pos 1) p → NoKeyAt t e n cols p
no_key_bare s (node_unfit r k) = unfit_node r k
no_key_bare s (properties_end_line {g = g} {q = q} c d) = absurd (s.none g q c.derived)

pub no_key_here : {t : List ℕ} {e p : ℕ} {n : ℤ} {held : Option PlacedProperties} {at : ℕ} {cols : Columns} → TextAfter t p held at → Keyless t e (n +ℤ pos 1) p → NoKeyAt t e n cols p
no_key_here (text_alone s) k = no_key_bare s k
no_key_here (text_held l s b) k = no_key_held l s k

-- properties of a line go together with those of earlier lines, or they don't
pub data Whose (a : Ahead) (q : PropertiesValue) (p g : ℕ) : Type 0 where
  of_one : {z : Ahead} → Joins a q p g z → Whose a q p g
  of_two : Apart a q → Whose a q p g

both_or : {A : Type 0} (a b : Option A) → BothThere a b ⊎ (BothThere a b → ⊥)
both_or None b = inr (λ x. elim x [ ])
both_or (Some a) None = inr (λ x. elim x [ ])
both_or (Some a) (Some b) = inl both_there

pub whose : (a : Ahead) (q : PropertiesValue) (p g : ℕ) → Whose a q p g
whose Nothing q p g = of_one (first_held (λ h e. no_props_nothing e))
whose (Indicator i) q p g = of_one (first_held (λ h e. no_props_sign e))
whose (Props h) q p g = ⊎_elim
    (λ (x : BothThere h.value.props.anchor q.props.anchor). of_two (record { held = h; is = refl; clash = name_there x refl refl }))
    (λ (x : BothThere h.value.props.anchor q.props.anchor → ⊥). ⊎_elim
    (λ (y : BothThere h.value.props.tag q.props.tag). of_two (record { held = h; is = refl; clash = tag_there y refl refl }))
    (λ (y : BothThere h.value.props.tag q.props.tag → ⊥). of_one (more_held refl (no_clash x y)))
    (both_or h.value.props.tag q.props.tag))
    (both_or h.value.props.anchor q.props.anchor)

-- then the state ahead is properties
pub joined_props : {a z : Ahead} {q : PropertiesValue} {p g : ℕ} → Joins a q p g z → (h : HeldValue) × (z ≡ Props h)
unfolding both
joined_props (first_held f) = (_, refl)
joined_props (more_held e f) = (_, refl)

-- if a plain scalar begins at an offset and no flow node is read, no plain scalar is derived
module _ {t : List ℕ} {i : ℕ} {n : ℤ} {c : Ctx} where
  pub none_plain : {e : ℕ} {o : Option ParsedNode} → begins_plain (code t i) ≡ true → Parses t e (ANode n c i) o → o ≡ None → Stuck (Plain t n c i)
  none_plain b (Parsing.alias_read a) q = absurd (alias_no_plain (code t i) (alias_begins a.derived) b)
  none_plain b (alias_missed p s) q = absurd (alias_no_plain (code t i) p b)
  none_plain b (plain_read {j = j} {x = x} p d) q = absurd (none_found j 0 false (scalar PlainStyle (encode_utf8_all x) [] i j) (sym q ∙ plain_is x i j))
  none_plain b (plain_missed p s) q = s
  none_plain b (content_read p r) q = absurd (plain_no_content (code t i) b p)
  none_plain b (properties_missed p s) q = absurd (plain_no_properties (code t i) b p)
  none_plain b (properties_content a s p r) q = absurd (plain_no_properties (code t i) b (properties_begin a.derived))
  none_plain b (properties_plain a s p r) q = absurd (plain_no_properties (code t i) b (properties_begin a.derived))
  none_plain b (properties_end a s) q = absurd (plain_no_properties (code t i) b (properties_begin a.derived))
  none_plain b (properties_before_broken a s p r) q = absurd (plain_no_properties (code t i) b (properties_begin a.derived))
  none_plain b (properties_before_other a s p r) q = absurd (plain_no_properties (code t i) b (properties_begin a.derived))

-- no leaf is found, and it has no last halt
pub record NoLeaf (t : List ℕ) (e : ℕ) (ws : List ℕ) (n : ℤ) (a : Ahead) (p : ℕ) : Type 0 where
  pub whole : Whole t e (Leaf n a p) None
  pub halted : Halts t e ws (Leaf n a p) None

module _ {t : List ℕ} {e : ℕ} {ws : List ℕ} {n : ℤ} {a : Ahead} {p : ℕ} (s : Stuck (BlockScalar t n p)) where
  pub leaf_refuses : (MayLeaf t a p → ⊥) → NoLeaf t e ws n a p
  leaf_refuses f = record { whole = leaf_refused s f; halted = halts_refused s f }

  leaf_misses : MayLeaf t a p → Parses t e (ANode (n +ℤ pos 1) FlowOut p) None → NoLeaf t e ws n a p
  leaf_misses m r = record {
    whole = leaf_missed s m r;
    halted = ⊎_elim
        (λ (b : begins_plain (code t p) ≡ true). halts_plain_missed s m b (no_part (none_plain b r refl)))
        (λ (b : begins_plain (code t p) ≡ false). halts_content_missed s m b r)
        (cases_Bool (begins_plain (code t p)));
  } where
    no_part : Stuck (Plain t (n +ℤ pos 1) FlowOut p) → Stuck (PlainPart t (n +ℤ pos 1) ws p)
    no_part x = record { none = λ j z q. go q } where
      go : {j : ℕ} {z : Meaning} → PlainPart t (n +ℤ pos 1) ws p j z → ⊥
      go (plain_part {l = h} {x = y} q r) = x.none h y q

  -- no flow node without properties begins at the offset
  pub leaf_lost : (MayLeaf t a p → Parses t e (ANode (n +ℤ pos 1) FlowOut p) None) → NoLeaf t e ws n a p
  leaf_lost f = ⊎_elim
      (λ (b : begins_properties (code t p) ≡ true). leaf_refuses (λ m. true≢false (sym b ∙ m.no_props)))
      (λ (b : begins_properties (code t p) ≡ false). ⊎_elim
      (λ (c : begins_alias (code t p) ≡ true). of_alias a refl b c)
      (λ (c : begins_alias (code t p) ≡ false). let m : MayLeaf t a p = record { no_props = b; no_alias = λ {h} q. c } in leaf_misses m (f m))
      (cases_Bool (begins_alias (code t p))))
      (cases_Bool (begins_properties (code t p))) where
        of_alias : (z : Ahead) → z ≡ a → begins_properties (code t p) ≡ false → begins_alias (code t p) ≡ true → NoLeaf t e ws n a p
        of_alias Nothing q b c = let m : MayLeaf t a p = record { no_props = b; no_alias = λ {h} x. absurd (no_props_nothing (q ∙ x)) } in leaf_misses m (f m)
        of_alias (Indicator i) q b c = let m : MayLeaf t a p = record { no_props = b; no_alias = λ {h} x. absurd (no_props_sign (q ∙ x)) } in leaf_misses m (f m)
        of_alias (Props h) q b c = leaf_refuses (λ m. true≢false (sym c ∙ m.no_alias (sym q)))
