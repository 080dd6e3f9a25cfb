-- Leaves are at the offsets at which they are read, and their styles spell them.
use Rattle.std.proofs.Common.{◌≡◌, ◌≢◌, ℕ, ℤ, ◌<◌, true, false, List, [], length, Option, None, refl, sym, ◌∙◌, arith, true≢false, length-append}
use Rattle.std.proofs.lemmas.Bool.Decides.{nat_tests}
use Rattle.std.proofs.lemmas.List.{length-take, length-drop}
use Rattle.std.proofs.lemmas.Str.{IsUtf8-nil, length-le-encodes}
use Rattle.std.specs.Prelude.{◌-◌, drop, encode_utf8_all, slice_range}
use Rattle.std.specs.Str.{IsUtf8}
use Rattle.yf_chars.specs.declared.context.Ctx.{Ctx}
use Rattle.yf_chars.specs.declared.context.Ctx.TheVariants.{BlockOut, BlockIn, FlowOut, FlowIn, BlockKey, FlowKey}
use Rattle.yf_chars.specs.Text.{code}
use Rattle.yf_chars.specs.Class.{is_ns_char, is_nb_char, is_printable, is_between, is_break_char, is_white}
use Rattle.yf_chars.specs.Chain.Chain.{done}
use Rattle.yf_chars.proofs.TextLemmas.{within_from_code}
use Rattle.yf_lines.specs.Basic.{is_block, is_key}
use Rattle.yf_comments.specs.Comment.{CommentValue}
use Rattle.yf_comments.specs.Comments.{Separate}
use Rattle.yf_comments.specs.Comments.BreakOrEnd.{by_end}
use Rattle.yf_comments.specs.Comments.LineRest.{nothing}
use Rattle.yf_comments.specs.Comments.LineEnd.{past_rest}
use Rattle.yf_comments.specs.Comments.Separate.{in_key, in_node}
use Rattle.yf_plain.specs.Plain.{PlainText, PlainLine}
use Rattle.yf_plain.specs.Plain.PlainLine.{one_line}
use Rattle.yf_plain.specs.Plain.PlainText.{as_key, as_lines}
use Rattle.yf_props.specs.Names.{Alias, Handle, TagProperty, Properties, PropertiesValue}
use Rattle.yf_props.specs.Names.Handle.{primary_handle, secondary_handle, named_handle}
use Rattle.yf_props.specs.Names.ShorthandTag.{handle_suffix}
use Rattle.yf_props.specs.Names.TagProperty.{verbatim_tag, shorthand_tag, non_specific_tag}
use Rattle.yf_props.specs.Names.Properties.{by_tag, by_anchor, tag_first, anchor_first}
use Rattle.yf_props.specs.Props.{PropsValue, no_props, TagValue}
use Rattle.yf_events.specs.Event.{scalar_node}
use Rattle.yf_events.specs.declared.event.ScalarStyle.{ScalarStyle}
use Rattle.yf_events.specs.declared.event.ScalarStyle.TheVariants.{Plain, Single, Double}
use Rattle.yf_events.specs.Tree.{scalar as scalar_tree, alias as alias_tree}
use Rattle.yf_grammar.specs.Productions.Grammar.{Production, BlockIndented, Derives}
use Rattle.yf_grammar.specs.Productions.Grammar.Derives.{an_alias, properties_alone, nothing_indented}
use Rattle.yf_grammar.specs.Productions.Meaning.{meaning_after, noting, plain_event, from_to, empty_node, with_props, alias_to, scalar}
use Rattle.yf_grammar.specs.FlowReader.Parser.{begins_properties, begins_content}
use Rattle.yf_grammar.specs.Productions.SpellableTexts.{IsSpelled}
use Rattle.yf_grammar.proofs.Ends.GapLemmas.{Visible}
use Rattle.yf_grammar.proofs.NodesInText.NodePlaces.{HasProps, has_tag, has_anchor, HasText, verbatim_text, short_text, non_specific_text, HasCharacters, by_props, by_text, scalar_is_at, alias_is_at}
use Rattle.yf_grammar.proofs.NodesInText.PlacedNodes.{NodeAt}
use Rattle.yf_grammar.proofs.BlockOutcomes.BlockGaps.{block_no_key}

-- The first characters of nodes.

pub properties_seen : (c : ℕ) → begins_properties c ≡ true → is_ns_char c ≡ true
unfolding begins_properties is_ns_char is_nb_char is_printable is_between is_break_char is_white
properties_seen c e = grind (arith, nat_tests)

properties_no_hash : (c : ℕ) → begins_properties c ≡ true → c ≢ 35
unfolding begins_properties
properties_no_hash c e q = grind (arith, nat_tests)

content_seen : (c : ℕ) → begins_content c ≡ true → is_ns_char c ≡ true
unfolding begins_content is_ns_char is_nb_char is_printable is_between is_break_char is_white
content_seen c e = grind (arith, nat_tests)

content_no_hash : (c : ℕ) → begins_content c ≡ true → c ≢ 35
unfolding begins_content
content_no_hash c e q = grind (arith, nat_tests)

pub content_visible : {t : List ℕ} {i : ℕ} → begins_content (code t i) ≡ true → Visible t i
content_visible {t} {i} e = record { ns = content_seen (code t i) e; no_hash = content_no_hash (code t i) e }

pub properties_visible : {t : List ℕ} {i : ℕ} → begins_properties (code t i) ≡ true → Visible t i
properties_visible {t} {i} e = record { ns = properties_seen (code t i) e; no_hash = properties_no_hash (code t i) e }

-- Scalars are no empty nodes.

encoded_longer : (x : List ℕ) → 0 < length x → 0 < length (encode_utf8_all x)
encoded_longer x l = omega (arith, length-le-encodes x)

line_text : {t : List ℕ} {c : Ctx} {i j : ℕ} {x : List ℕ} → PlainLine t c i j x → 0 < length x
line_text (one_line e s) = omega arith

plain_text : {t : List ℕ} {n : ℤ} {c : Ctx} {i j : ℕ} {x : List ℕ} → PlainText t n c i j x → 0 < length x
plain_text (as_key e p) = line_text p
plain_text (as_lines {x = x} {y = y} e p s) = let l = line_text p in omega (arith, length-append x y)

pub plain_characters : {t : List ℕ} {n : ℤ} {c : Ctx} {i j : ℕ} {x : List ℕ} {props : PropsValue} → PlainText t n c i j x → HasCharacters props Plain (encode_utf8_all x)
plain_characters {x = x} p = by_text (encoded_longer x (plain_text p))

pub single_plain : Single ≢ Plain
single_plain e = absurd cc

pub double_plain : Double ≢ Plain
double_plain e = absurd cc

slice_some : (t : List ℕ) (i j : ℕ) → i < j → i < length t → 0 < length (slice_range t i j)
slice_some t i j l m = omega (arith, length-take (j - i) (drop i t), length-drop i t)

sign_within : (t : List ℕ) (i : ℕ) → code t i ≡ 33 → i < length t
sign_within t i e = within_from_code t i (omega arith)

handle_some : {t : List ℕ} {i j : ℕ} → Handle t i j → 0 < length (slice_range t i j)
handle_some {t} {i} {j} (primary_handle a) = slice_some t i j (omega arith) (sign_within t i a)
handle_some {t} {i} {j} (secondary_handle a b) = slice_some t i j (omega arith) (sign_within t i a)
handle_some {t} {i} {j} (named_handle a r b) = let l = r.some in slice_some t i j (omega arith) (sign_within t i a)

tag_written : {t : List ℕ} {i j : ℕ} {v : TagValue} → TagProperty t i j v → HasText v
tag_written (verbatim_tag v) = verbatim_text
tag_written (shorthand_tag (handle_suffix h r)) = short_text (handle_some h)
tag_written (non_specific_tag e n) = non_specific_text

pub properties_written : {t : List ℕ} {n : ℤ} {c : Ctx} {i j : ℕ} {p : PropertiesValue} → Properties t n c i j p → HasProps p.props
properties_written (by_tag g) = has_tag (tag_written g)
properties_written (by_anchor a) = has_anchor
properties_written (tag_first g s a) = has_tag (tag_written g)
properties_written (anchor_first a s g) = has_anchor

-- An empty node, and properties without content.

nothing_derived : Derives [] 0 (BlockIndented 0 BlockIn) 0 0 (noting (empty_node 0) [])
nothing_derived = nothing_indented refl (past_rest (nothing (by_end refl)) done)

pub nothing_spelled : IsSpelled (scalar_node no_props Plain []) []
unfolding noting empty_node plain_event
nothing_spelled = record {
  text = [];
  utf8 = IsUtf8-nil;
  production = _;
  height = _;
  from = _;
  to = _;
  meaning = _;
  derived = nothing_derived;
  at = record { span = None; tag_offset = None; entry = None };
  is = refl;
}

module _ {t : List ℕ} where
  flow_separate : {n : ℤ} {c : Ctx} {i j : ℕ} {x : List CommentValue} → is_block c ≡ true → Separate t n c i j x → Separate t n FlowOut i j x
  flow_separate {c = c} b (in_key e s) = absurd (true≢false (sym e ∙ block_no_key c b))
  flow_separate b (in_node e s) = in_node refl s

  flow_properties : {n : ℤ} {c : Ctx} {i j : ℕ} {p : PropertiesValue} → is_block c ≡ true → Properties t n c i j p → Properties t n FlowOut i j p
  flow_properties b (by_tag g) = by_tag g
  flow_properties b (by_anchor a) = by_anchor a
  flow_properties b (tag_first g s a) = tag_first g (flow_separate b s) a
  flow_properties b (anchor_first a s g) = anchor_first a (flow_separate b s) g

  pub properties_spelled : {n : ℤ} {c : Ctx} {i j : ℕ} {p : PropertiesValue} → IsUtf8 t → is_block c ≡ false → Properties t n c i j p
      → IsSpelled (scalar_node p.props Plain []) []
  unfolding meaning_after with_props empty_node plain_event from_to
  properties_spelled {n} {c} {i} {j} {p} u b a = record {
    text = t;
    utf8 = u;
    production = _;
    height = _;
    from = _;
    to = _;
    meaning = _;
    derived = properties_alone {n = n} b a;
    at = record { span = from_to i j; tag_offset = p.tag_offset; entry = None };
    is = refl;
  }

  pub block_properties_spelled : {n : ℤ} {c : Ctx} {i j : ℕ} {p : PropertiesValue} → IsUtf8 t → is_block c ≡ true → Properties t n c i j p
      → IsSpelled (scalar_node p.props Plain []) []
  block_properties_spelled u b a = properties_spelled u refl (flow_properties b a)

  -- A scalar, with properties from f to g or without; an alias.

  pub scalar_at : {h i j : ℕ} {p : Production} (style : ScalarStyle) (text escapes : List ℕ) → IsUtf8 t
      → Derives t h p i j (scalar style text escapes i j) → Visible t i → i < j → HasCharacters no_props style text
      → NodeAt t i j (scalar style text escapes i j)
  unfolding scalar plain_event from_to
  scalar_at {i = i} {j = j} style text escapes u d v l w = record {
    node = scalar_tree (record { span = from_to i j; tag_offset = None; entry = None }) no_props style text [];
    events = refl;
    no_entry = refl;
    is_there = scalar_is_at refl (record { order = omega arith; visible = v }) l (omega arith) w (record {
      text = t;
      utf8 = u;
      production = _;
      height = _;
      from = _;
      to = _;
      meaning = _;
      derived = d;
      at = record { span = from_to i j; tag_offset = None; entry = None };
      is = refl;
    });
    ends = omega arith;
  }

  pub scalar_with : {h f j : ℕ} {p : Production} {props : PropsValue} (g i : ℕ) (style : ScalarStyle) (text escapes : List ℕ) (o : Option ℕ) (cs : List CommentValue)
      → IsUtf8 t → Derives t h p f j (meaning_after cs (with_props props o f g (scalar style text escapes i j))) → Visible t f → f < j
      → HasProps props → NodeAt t f j (meaning_after cs (with_props props o f g (scalar style text escapes i j)))
  unfolding meaning_after with_props scalar plain_event from_to
  scalar_with {f = f} {j = j} {props = props} g i style text escapes o cs u d v l w = record {
    node = scalar_tree (record { span = from_to f j; tag_offset = o; entry = None }) props style text [];
    events = refl;
    no_entry = refl;
    is_there = scalar_is_at refl (record { order = omega arith; visible = v }) l (omega arith) (by_props w) (record {
      text = t;
      utf8 = u;
      production = _;
      height = _;
      from = _;
      to = _;
      meaning = _;
      derived = d;
      at = record { span = from_to f j; tag_offset = o; entry = None };
      is = refl;
    });
    ends = omega arith;
  }

  pub properties_at : {n : ℤ} {c : Ctx} {i j : ℕ} {p : PropertiesValue} → IsUtf8 t → is_block c ≡ false → Properties t n c i j p → Visible t i → i < j
      → NodeAt t i j (meaning_after p.comments (with_props p.props p.tag_offset i j (empty_node j)))
  unfolding meaning_after with_props empty_node plain_event from_to
  properties_at {n} {c} {i} {j} {p} u b a v l = record {
    node = scalar_tree (record { span = from_to i j; tag_offset = p.tag_offset; entry = None }) p.props Plain [] [];
    events = refl;
    no_entry = refl;
    is_there = scalar_is_at refl (record { order = omega arith; visible = v }) l (omega arith) (by_props (properties_written a)) (properties_spelled u b a);
    ends = omega arith;
  }

  pub alias_at : {i j : ℕ} {name : List ℕ} (n : ℤ) (c : Ctx) → IsUtf8 t → is_block c ≡ false → Alias t i j name → Visible t i → i < j
      → NodeAt t i j (alias_to name i j)
  unfolding alias_to plain_event from_to
  alias_at {i = i} {j = j} {name = name} n c u b a v l = record {
    node = alias_tree (record { span = from_to i j; tag_offset = None; entry = None }) name;
    events = refl;
    no_entry = refl;
    is_there = alias_is_at refl (record { order = omega arith; visible = v }) l (omega arith) (record {
      text = t;
      utf8 = u;
      production = _;
      height = _;
      from = _;
      to = _;
      meaning = _;
      derived = an_alias {n = n} b a;
      at = record { span = from_to i j; tag_offset = None; entry = None };
      is = refl;
    });
    ends = omega arith;
  }
