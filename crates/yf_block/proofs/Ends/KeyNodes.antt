-- The node of an implicit key from its properties on, or why none begins: from the text on its line after them.
use Rattle.std.proofs.Common.{◌≡◌, ℕ, ◌+◌, ◌<◌, ◌≤◌, ℤ, true, false, List, [], Option, Some, None, refl, sym, ◌∙◌, subst, arith, ⊎_elim, true≢false, encode_utf8_all}
use Rattle.std.proofs.lemmas.Bool.{cases_lt}
use Rattle.std.proofs.lemmas.Bool.Decides.{nat_tests}
use Rattle.std.specs.Str.{IsUtf8}
use Rattle.yf_chars.specs.declared.context.Ctx.TheVariants.{FlowOut}
use Rattle.yf_chars.specs.Text.{code}
use Rattle.yf_chars.specs.Class.{is_white}
use Rattle.yf_chars.specs.Chain.{Stuck, Many}
use Rattle.yf_chars.specs.Chain.Chain.{done}
use Rattle.yf_chars.proofs.ChainLemmas.{many_unique}
use Rattle.yf_comments.specs.Comment.{CommentValue}
use Rattle.yf_comments.specs.Comments.{LineEnd}
use Rattle.yf_events.specs.declared.event.ScalarStyle.TheVariants.{Plain as PlainStyle}
use Rattle.yf_plain.specs.Plain.{Plain}
use Rattle.yf_props.specs.Names.{PropertiesValue}
use Rattle.yf_grammar.specs.BlockReader.BlockParser.{SignAt, KeyBefore, NoKey, key_missed, key_unfit, Keyless, node_unfit, properties_end_line}
use Rattle.yf_grammar.specs.Productions.Grammar.Derives.{a_plain}
use Rattle.yf_grammar.specs.Productions.Meaning.{meaning_after, with_props, empty_node, scalar}
use Rattle.yf_grammar.specs.FlowReader.Parser.{ParsedNode, ANode, AContent, Parses, propertied, lone_properties, begins_alias, begins_properties, begins_content}
use Rattle.yf_grammar.specs.FlowReader.Parser.Parses.{content_read, plain_read, plain_missed}
use Rattle.yf_grammar.proofs.FlowStack.AwaitEntries.{found_is}
use Rattle.yf_grammar.proofs.BlockOutcomes.BlockKeys.{end_not_ns, safe_out}
use Rattle.yf_grammar.proofs.BlockContent.FlowLeaves.{plain_begins}
use Rattle.yf_grammar.proofs.FlowReader.FlowStarts.{flow_starts}
use Rattle.yf_grammar.proofs.Ends.Forward.{whites_forward}
use Rattle.yf_grammar.proofs.BlockContent.LineNodes.{line_alone, line_content, line_broken, line_other, line_plain}
use Rattle.yf_grammar.proofs.FlowReader.NodeExact.{lone_is, plain_is}
use Rattle.yf_grammar.proofs.Ends.NodeExits.{some_found, alias_no_plain, plain_no_properties}
use Rattle.yf_flow.specs.NodeStarts.{ContentAt, content_there, plain_there, plain_missing}
use Rattle.yf_flow.proofs.Ends.LookLemmas.{nothing_begins}
use Rattle.yf_block.specs.declared.properties.PlacedProperties.{PlacedProperties}
use Rattle.yf_block.specs.PropertiesAnswers.{LineProperties, PlaceAfter, NoPlaceAfter, other_beside, property_after}
use Rattle.yf_block.specs.InlineAnswers.{KeyEnds, InlineLost, content_lost, alias_lost, alias_after}
use Rattle.yf_chars.proofs.Tests.{some_none, none_some}
use Rattle.yf_grammar.proofs.BlockContent.PlainCut.{colon_no_white}
use Rattle.yf_grammar.proofs.FlowReader.NodesAnswered.{plain_else}

-- content at an offset without properties is a node
pub content_node : {t : List ℕ} {e k : ℕ} {n : ℤ} {o : Option ParsedNode} → begins_alias (code t k) ≡ false → begins_properties (code t k) ≡ false → ContentAt t e n FlowOut k o → Parses t e (ANode n FlowOut k) o
content_node a b (content_there c p) = content_read c p
content_node {t} {k = k} a b (plain_there c p) = plain_read (plain_else (code t k) a b c) p
content_node {t} {k = k} a b (plain_missing c p) = plain_missed (plain_else (code t k) a b c) p

-- a `:` of an entry begins no content
pub colon_bare : (c : ℕ) → c ≡ 58 → begins_content c ≡ false
colon_bare c e = sym (nothing_begins (λ q. omega (arith, e, q)) (λ q. omega (arith, e, q)) (λ q. omega (arith, e, q)) (λ q. omega (arith, e, q)))

property_bare : (c : ℕ) → begins_properties c ≡ true → begins_content c ≡ false
unfolding begins_properties begins_content
property_bare c e = grind (arith, nat_tests)

property_no_sign : (c : ℕ) → begins_properties c ≡ true → c ≡ 58 → ⊥
unfolding begins_properties
property_no_sign c e f = grind (arith, nat_tests)

alias_bare : (c : ℕ) → begins_alias c ≡ true → begins_content c ≡ false
unfolding begins_alias begins_content
alias_bare c e = grind (arith, nat_tests)

module _ {t : List ℕ} where
  pub sign_no_plain : {n : ℤ} {k : ℕ} → SignAt t 58 k → Stuck (Plain t n FlowOut k)
  sign_no_plain {k = k} s = record {
    none = λ j x p. true≢false (sym ((flow_starts (a_plain p.text) refl).colon s.sign_is_at) ∙ safe_out (code t (k + 1)) ∙ end_not_ns (code t (k + 1)) s.follows);
  }

  alias_no_text : {n : ℤ} {k : ℕ} → begins_alias (code t k) ≡ true → Stuck (Plain t n FlowOut k)
  alias_no_text {k = k} a = record { none = λ j x p. alias_no_plain (code t k) a (plain_begins p.text) }

  property_no_text : {n : ℤ} {k : ℕ} → begins_properties (code t k) ≡ true → Stuck (Plain t n FlowOut k)
  property_no_text {k = k} a = record { none = λ j x p. plain_no_properties (code t k) (plain_begins p.text) a }

  -- properties are only a key if a `:` follows them
  pub lone_no_key : {g k : ℕ} {w : List ℕ} (q : PropertiesValue) (p : ℕ) → Many t is_white g k w → is_white (code t k) ≡ false → (SignAt t 58 k → ⊥) → NoKey t p (lone_properties q p g)
  lone_no_key {g} {k} q p m f n = subst (λ o. NoKey t p o) (sym (lone_is q p g ∙ found_is g 0 false (meaning_after q.comments (with_props q.props q.tag_offset p g (empty_node g)))))
      (key_unfit (λ h b. let same = (many_unique t is_white b.run (colon_no_white (code t h) b.colon.sign_is_at) m f).0 in n (subst (λ z. SignAt t 58 z) same b.colon)))

module _ {t : List ℕ} (u : IsUtf8 t) {p : ℕ} {held : PlacedProperties} (l : LineProperties t p held) where
  -- the line ends after the properties
  pub keyless_line : {e k : ℕ} {n : ℤ} {ds : List CommentValue} → LineEnd t held.end k ds → Keyless t e n p
  keyless_line d = properties_end_line l.chosen d

  module _ (s : Stuck (LineEnd t held.end)) where
    -- lone properties, before white space or beside other text
    pub lone_after : {e k : ℕ} {n : ℤ} {w : List ℕ} → Many t is_white held.end k w → is_white (code t k) ≡ false → begins_content (code t k) ≡ false → Stuck (Plain t n FlowOut k)
        → Parses t e (ANode n FlowOut p) (lone_properties l.value p held.end)
    lone_after {k = k} m f b r = ⊎_elim
        (λ (o : held.end < k). line_other u l.chosen s m o f b r)
        (λ (o : k ≤ held.end).
        let v = whites_forward m in
        let same : k ≡ held.end = omega arith in
        line_alone u l.chosen s (subst (λ z. is_white (code t z) ≡ false) same f))
        (cases_lt held.end k)

    -- nothing after them may be a node
    pub keyless_nowhere : {e : ℕ} {n : ℤ} → NoPlaceAfter t held.end → Keyless t e n p
    keyless_nowhere (other_beside f c) = node_unfit (line_alone u l.chosen s f) (lone_no_key l.value p done f c)
    keyless_nowhere (property_after {p = k} m f b) =
        node_unfit (lone_after m f (property_bare (code t k) b) (property_no_text b)) (lone_no_key l.value p m f (λ c. property_no_sign (code t k) b c.sign_is_at))

    module _ {at : ℕ} (b : PlaceAfter t held.end at) where
      -- the text is further on, unless an empty key is there
      pub after_later : (SignAt t 58 at → ⊥) → held.end < at
      after_later n = ⊎_elim
          (λ (o : held.end < at). o)
          (λ (o : at ≤ held.end). let v = whites_forward b.run in let same : at ≡ held.end = omega arith in absurd (n (b.beside same)))
          (cases_lt held.end at)

      -- an empty key
      pub lone_found : {e : ℕ} {n : ℤ} → SignAt t 58 at → Parses t e (ANode n FlowOut p) (lone_properties l.value p held.end)
      lone_found c = lone_after b.run b.no_white (colon_bare (code t at) c.sign_is_at) (sign_no_plain c)

      -- content
      pub content_found : {e : ℕ} {n : ℤ} {f : ParsedNode} → (SignAt t 58 at → ⊥) → ContentAt t e n FlowOut at (Some f) → Parses t e (ANode n FlowOut p) (propertied l.value [] p held.end f)
      content_found {e} {n} {f} c r = go r refl where
        go : {o : Option ParsedNode} → ContentAt t e n FlowOut at o → o ≡ Some f → Parses t e (ANode n FlowOut p) (propertied l.value [] p held.end f)
        go (content_there a z) q = line_content u l.chosen s b.run (after_later c) b.no_white a (subst (λ o. Parses t e (AContent n FlowOut at) o) q z)
        go (plain_there {j = j} {x = x} a z) q =
            let same = some_found j 0 false (scalar PlainStyle (encode_utf8_all x) [] at j) (sym q ∙ plain_is x at j) in
            subst (λ v. Parses t e (ANode n FlowOut p) (propertied l.value [] p held.end v)) (sym same) (line_plain u l.chosen s b.run (after_later c) b.no_white a z)
        go (plain_missing a z) q = absurd (none_some q)

      -- nothing of these
      pub keyless_after : {e : ℕ} {n : ℤ} → InlineLost t e n at (Some held) → Keyless t e n p
      keyless_after {e} {n} (content_lost k a r) = node_unfit (go r refl) (lone_no_key l.value p b.run b.no_white (k held refl)) where
        go : {o : Option ParsedNode} → ContentAt t e n FlowOut at o → o ≡ None → Parses t e (ANode n FlowOut p) (lone_properties l.value p held.end)
        go (content_there y z) q = line_broken u l.chosen s b.run (after_later (k held refl)) b.no_white y (subst (λ o. Parses t e (AContent n FlowOut at) o) q z)
        go (plain_there {j = j} {x = x} y z) q = absurd (none_some (sym q ∙ plain_is x at j ∙ found_is j 0 false (scalar PlainStyle (encode_utf8_all x) [] at j)))
        go (plain_missing y z) q = lone_after b.run b.no_white y z
      keyless_after (alias_lost q r) = absurd (some_none q)
      keyless_after (alias_after k q a) =
          node_unfit (lone_after b.run b.no_white (alias_bare (code t at) a) (alias_no_text a)) (lone_no_key l.value p b.run b.no_white (k held refl))

-- without properties
pub keyless_bare : {t : List ℕ} {e p : ℕ} {n : ℤ} → begins_properties (code t p) ≡ false → InlineLost t e n p None → Keyless t e n p
keyless_bare b (content_lost k a r) = node_unfit (content_node a b r) key_missed
keyless_bare b (alias_lost q r) = node_unfit r key_missed
keyless_bare b (alias_after k q a) = absurd (some_none (sym q))

-- a node with its `:` at the end of the white space after it
module _ {t : List ℕ} {p : ℕ} (f : ParsedNode) {k : ℕ} {w : List ℕ} (m : Many t is_white f.end k w) where
  pub key_before : KeyEnds t p k → KeyBefore t p f k
  key_before e = record { whites = w; run = m; line = e.line.line; short = e.line.short; colon = e.colon }

  pub keyless_unended : {e : ℕ} {n : ℤ} → is_white (code t k) ≡ false → (KeyEnds t p k → ⊥) → Parses t e (ANode n FlowOut p) (Some f) → Keyless t e n p
  keyless_unended a n r = node_unfit r (key_unfit (λ h b.
      let same = (many_unique t is_white b.run (colon_no_white (code t h) b.colon.sign_is_at) m a).0 in
      n (subst (λ z. KeyEnds t p z) same (record { colon = b.colon; line = record { line = b.line; short = b.short } }))))
