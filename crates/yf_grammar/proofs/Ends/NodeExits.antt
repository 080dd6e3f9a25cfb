-- The outcomes of the reader at an alias, a plain scalar, content or properties.
use Rattle.std.proofs.Common.{◌≡◌, ℕ, ℤ, Bool, true, false, List, [], ◌++◌, Option, Some, None, refl, ap, ◌∙◌, subst, arith, encode_utf8_all}
use Rattle.std.proofs.lemmas.Bool.Decides.{nat_tests}
use Rattle.yf_chars.specs.declared.context.Ctx.{Ctx}
use Rattle.yf_chars.specs.Text.{code}
use Rattle.yf_chars.specs.Chain.{Stuck, Chosen}
use Rattle.yf_comments.specs.Comment.{CommentValue}
use Rattle.yf_comments.specs.Comments.{Separate}
use Rattle.yf_events.specs.declared.event.ScalarStyle.TheVariants.{Plain as PlainStyle}
use Rattle.yf_plain.specs.Plain.{Plain}
use Rattle.yf_props.specs.Names.{Alias, Properties, PropertiesValue}
use Rattle.yf_props.specs.Names.Alias.{asterisk_name}
use Rattle.yf_props.proofs.NameLemmas.{alias_unique}
use Rattle.yf_grammar.specs.Productions.Meaning.{Meaning, meaning_after, scalar, alias_to, with_props}
use Rattle.yf_grammar.specs.FlowReader.Parser.{ParsedNode, found, ANode, AContent, Parses, begins_alias, begins_properties, begins_content, begins_plain, propertied, lone_properties, plain_found}
use Rattle.yf_grammar.specs.FlowReader.Parser.Parses.{alias_read, alias_missed, plain_read, plain_missed, content_read, properties_missed, properties_content, properties_plain, properties_end, properties_before_broken, properties_before_other}
use Rattle.yf_grammar.proofs.FlowReader.PropertiesEnds.{properties_begin}

-- one character begins one kind of node
module _ (c : ℕ) where
  pub alias_no_plain : begins_alias c ≡ true → begins_plain c ≡ true → ⊥
  unfolding begins_plain begins_alias begins_properties begins_content
  alias_no_plain e f = grind (arith, nat_tests)

  pub alias_no_content : begins_alias c ≡ true → begins_content c ≡ true → ⊥
  unfolding begins_alias begins_content
  alias_no_content e f = grind (arith, nat_tests)

  pub alias_no_properties : begins_alias c ≡ true → begins_properties c ≡ true → ⊥
  unfolding begins_alias begins_properties
  alias_no_properties e f = grind (arith, nat_tests)

  pub plain_no_content : begins_plain c ≡ true → begins_content c ≡ true → ⊥
  unfolding begins_plain begins_alias begins_properties begins_content
  plain_no_content e f = grind (arith, nat_tests)

  pub plain_no_properties : begins_plain c ≡ true → begins_properties c ≡ true → ⊥
  unfolding begins_plain begins_alias begins_properties begins_content
  plain_no_properties e f = grind (arith, nat_tests)

  pub content_no_properties : begins_content c ≡ true → begins_properties c ≡ true → ⊥
  unfolding begins_properties begins_content
  content_no_properties e f = grind (arith, nat_tests)

alias_mark : begins_alias 42 ≡ true
unfolding begins_alias
alias_mark = refl

pub alias_begins : {t : List ℕ} {i j : ℕ} {x : List ℕ} → Alias t i j x → begins_alias (code t i) ≡ true
alias_begins (asterisk_name e r) = ap begins_alias e ∙ alias_mark

pub propertied_is : (p : PropertiesValue) (cs : List CommentValue) (i g j h : ℕ) (b : Bool) (x : Meaning)
    → propertied p cs i g (record { end = j; height = h; json = b; meaning = x }) ≡ found j h b (meaning_after (p.comments ++ cs) (with_props p.props p.tag_offset i g x))
unfolding propertied found
propertied_is p cs i g j h b x = refl

pub some_found : {f : ParsedNode} (j h : ℕ) (b : Bool) (x : Meaning) → Some f ≡ found j h b x → f ≡ record { end = j; height = h; json = b; meaning = x }
unfolding found
some_found j h b x e = cc

pub none_found : (j h : ℕ) (b : Bool) (x : Meaning) → None ≡ found j h b x → ⊥
unfolding found
none_found j h b x e = cc

module _ {t : List ℕ} where
  -- an alias
  pub node_alias : {e : ℕ} {n : ℤ} {c : Ctx} {i : ℕ} {o : Option ParsedNode} {j : ℕ} {x : List ℕ} → Alias t i j x → Parses t e (ANode n c i) o → o ≡ found j 0 false (alias_to x i j)
  node_alias {n = n} {c = c} {i = i} {o = o} {j = j} {x = x} a (alias_read {j = k} {name = y} d) =
      let s = alias_unique a d.derived in ap (λ w. found w 0 false (alias_to y i w)) s.0 ∙ ap (λ w. found j 0 false (alias_to w i j)) s.1
  node_alias {n = n} {c = c} {i = i} {o = o} {j = j} {x = x} a (alias_missed b s) = absurd (s.none j x a)
  node_alias {n = n} {c = c} {i = i} {o = o} a (plain_read b d) = absurd (alias_no_plain (code t i) (alias_begins a) b)
  node_alias {n = n} {c = c} {i = i} {o = o} a (plain_missed b s) = absurd (alias_no_plain (code t i) (alias_begins a) b)
  node_alias {n = n} {c = c} {i = i} {o = o} a (content_read b d) = absurd (alias_no_content (code t i) (alias_begins a) b)
  node_alias {n = n} {c = c} {i = i} {o = o} a (properties_missed b s) = absurd (alias_no_properties (code t i) (alias_begins a) b)
  node_alias {n = n} {c = c} {i = i} {o = o} a (properties_content d s b r) = absurd (alias_no_properties (code t i) (alias_begins a) (properties_begin d.derived))
  node_alias {n = n} {c = c} {i = i} {o = o} a (properties_plain d s b r) = absurd (alias_no_properties (code t i) (alias_begins a) (properties_begin d.derived))
  node_alias {n = n} {c = c} {i = i} {o = o} a (properties_end d s) = absurd (alias_no_properties (code t i) (alias_begins a) (properties_begin d.derived))
  node_alias {n = n} {c = c} {i = i} {o = o} a (properties_before_broken d s b r) = absurd (alias_no_properties (code t i) (alias_begins a) (properties_begin d.derived))
  node_alias {n = n} {c = c} {i = i} {o = o} a (properties_before_other d s b r) = absurd (alias_no_properties (code t i) (alias_begins a) (properties_begin d.derived))

  -- a plain scalar: the longest one is found
  pub node_plain : {e : ℕ} {n : ℤ} {c : Ctx} {i : ℕ} {o : Option ParsedNode} {j : ℕ} {x : List ℕ} (Q : Option ParsedNode → Type 0) → begins_plain (code t i) ≡ true → Plain t n c i j x
      → ((k : ℕ) (y : List ℕ) → Chosen (Plain t n c i) k y → Q (plain_found y i k)) → Parses t e (ANode n c i) o → Q o
  node_plain {n = n} {c = c} {i = i} {o = o} Q p d f (alias_read a) = absurd (alias_no_plain (code t i) (alias_begins a.derived) p)
  node_plain {n = n} {c = c} {i = i} {o = o} Q p d f (alias_missed b s) = absurd (alias_no_plain (code t i) b p)
  node_plain {n = n} {c = c} {i = i} {o = o} Q p d f (plain_read {j = k} {x = y} b r) = f k y r
  node_plain {n = n} {c = c} {i = i} {o = o} {j = j} {x = x} Q p d f (plain_missed b s) = absurd (s.none j x d)
  node_plain {n = n} {c = c} {i = i} {o = o} Q p d f (content_read b r) = absurd (plain_no_content (code t i) p b)
  node_plain {n = n} {c = c} {i = i} {o = o} Q p d f (properties_missed b s) = absurd (plain_no_properties (code t i) p b)
  node_plain {n = n} {c = c} {i = i} {o = o} Q p d f (properties_content a s b r) = absurd (plain_no_properties (code t i) p (properties_begin a.derived))
  node_plain {n = n} {c = c} {i = i} {o = o} Q p d f (properties_plain a s b r) = absurd (plain_no_properties (code t i) p (properties_begin a.derived))
  node_plain {n = n} {c = c} {i = i} {o = o} Q p d f (properties_end a s) = absurd (plain_no_properties (code t i) p (properties_begin a.derived))
  node_plain {n = n} {c = c} {i = i} {o = o} Q p d f (properties_before_broken a s b r) = absurd (plain_no_properties (code t i) p (properties_begin a.derived))
  node_plain {n = n} {c = c} {i = i} {o = o} Q p d f (properties_before_other a s b r) = absurd (plain_no_properties (code t i) p (properties_begin a.derived))

  -- content
  pub node_content : {e : ℕ} {n : ℤ} {c : Ctx} {i : ℕ} {o : Option ParsedNode} (Q : Option ParsedNode → Type 0) → begins_content (code t i) ≡ true → ((r : Option ParsedNode) → Parses t e (AContent n c i) r → Q r)
      → Parses t e (ANode n c i) o → Q o
  node_content {n = n} {c = c} {i = i} {o = o} Q p f (alias_read a) = absurd (alias_no_content (code t i) (alias_begins a.derived) p)
  node_content {n = n} {c = c} {i = i} {o = o} Q p f (alias_missed b s) = absurd (alias_no_content (code t i) b p)
  node_content {n = n} {c = c} {i = i} {o = o} Q p f (plain_read b r) = absurd (plain_no_content (code t i) b p)
  node_content {n = n} {c = c} {i = i} {o = o} Q p f (plain_missed b s) = absurd (plain_no_content (code t i) b p)
  node_content {n = n} {c = c} {i = i} {o = o} Q p f (content_read b r) = f o r
  node_content {n = n} {c = c} {i = i} {o = o} Q p f (properties_missed b s) = absurd (content_no_properties (code t i) p b)
  node_content {n = n} {c = c} {i = i} {o = o} Q p f (properties_content a s b r) = absurd (content_no_properties (code t i) p (properties_begin a.derived))
  node_content {n = n} {c = c} {i = i} {o = o} Q p f (properties_plain a s b r) = absurd (content_no_properties (code t i) p (properties_begin a.derived))
  node_content {n = n} {c = c} {i = i} {o = o} Q p f (properties_end a s) = absurd (content_no_properties (code t i) p (properties_begin a.derived))
  node_content {n = n} {c = c} {i = i} {o = o} Q p f (properties_before_broken a s b r) = absurd (content_no_properties (code t i) p (properties_begin a.derived))
  node_content {n = n} {c = c} {i = i} {o = o} Q p f (properties_before_other a s b r) = absurd (content_no_properties (code t i) p (properties_begin a.derived))

-- the outcome after the properties that end at g
pub data PastProperties (t : List ℕ) (e : ℕ) (n : ℤ) (c : Ctx) (i g : ℕ) (p : PropertiesValue) (o : Option ParsedNode) : Type 0 where
  past_to_content : (k : ℕ) (cs : List CommentValue) (f : ParsedNode) → Chosen (Separate t n c g) k cs → begins_content (code t k) ≡ true
      → Parses t e (AContent n c k) (Some f) → o ≡ propertied p cs i g f → PastProperties t e n c i g p o
  past_to_plain : (k j : ℕ) (cs : List CommentValue) (x : List ℕ) → Chosen (Separate t n c g) k cs → begins_content (code t k) ≡ false
      → Chosen (Plain t n c k) j x → o ≡ found j 0 false (meaning_after (p.comments ++ cs) (with_props p.props p.tag_offset i g (scalar PlainStyle (encode_utf8_all x) [] k j)))
      → PastProperties t e n c i g p o
  past_to_nothing : Stuck (Separate t n c g) → o ≡ lone_properties p i g → PastProperties t e n c i g p o
  past_to_broken : (k : ℕ) (cs : List CommentValue) → Chosen (Separate t n c g) k cs → begins_content (code t k) ≡ true
      → Parses t e (AContent n c k) None → o ≡ lone_properties p i g → PastProperties t e n c i g p o
  past_to_other : (k : ℕ) (cs : List CommentValue) → Chosen (Separate t n c g) k cs → begins_content (code t k) ≡ false
      → Stuck (Plain t n c k) → o ≡ lone_properties p i g → PastProperties t e n c i g p o

-- properties are derived: the reader takes the longest ones
module _ {t : List ℕ} where
  pub node_properties : {e : ℕ} {n : ℤ} {c : Ctx} {i : ℕ} {o : Option ParsedNode} {j : ℕ} {x : PropertiesValue} → Properties t n c i j x → Parses t e (ANode n c i) o
      → (g : ℕ) × (p : PropertiesValue) × Chosen (Properties t n c i) g p × PastProperties t e n c i g p o
  node_properties {n = n} {c = c} {i = i} {o = o} d (alias_read a) = absurd (alias_no_properties (code t i) (alias_begins a.derived) (properties_begin d))
  node_properties {n = n} {c = c} {i = i} {o = o} d (alias_missed b s) = absurd (alias_no_properties (code t i) b (properties_begin d))
  node_properties {n = n} {c = c} {i = i} {o = o} d (plain_read b r) = absurd (plain_no_properties (code t i) b (properties_begin d))
  node_properties {n = n} {c = c} {i = i} {o = o} d (plain_missed b s) = absurd (plain_no_properties (code t i) b (properties_begin d))
  node_properties {n = n} {c = c} {i = i} {o = o} d (content_read b r) = absurd (content_no_properties (code t i) b (properties_begin d))
  node_properties {n = n} {c = c} {i = i} {o = o} {j = j} {x = x} d (properties_missed b s) = absurd (s.none j x d)
  node_properties {n = n} {c = c} {i = i} {o = o} d (properties_content {g = g} {k = k} {p = p} {cs = cs} {f = f} a s b r) = (g, p, a, past_to_content k cs f s b r refl)
  node_properties {n = n} {c = c} {i = i} {o = o} d (properties_plain {g = g} {k = k} {j = j} {p = p} {cs = cs} {x = x} a s b r) =
      (g, p, a, past_to_plain k j cs x s b r (propertied_is p cs i g j 0 false (scalar PlainStyle (encode_utf8_all x) [] k j)))
  node_properties {n = n} {c = c} {i = i} {o = o} d (properties_end {g = g} {p = p} a s) = (g, p, a, past_to_nothing s refl)
  node_properties {n = n} {c = c} {i = i} {o = o} d (properties_before_broken {g = g} {k = k} {p = p} {cs = cs} a s b r) = (g, p, a, past_to_broken k cs s b r refl)
  node_properties {n = n} {c = c} {i = i} {o = o} d (properties_before_other {g = g} {k = k} {p = p} {cs = cs} a s b r) = (g, p, a, past_to_other k cs s b r refl)

  -- and after known properties
  pub past_properties : {e : ℕ} {n : ℤ} {c : Ctx} {i : ℕ} {o : Option ParsedNode} {j : ℕ} {x : PropertiesValue} → Properties t n c i j x
      → ((g : ℕ) (p : PropertiesValue) → Chosen (Properties t n c i) g p → (g ≡ j) × (p ≡ x)) → Parses t e (ANode n c i) o → PastProperties t e n c i j x o
  past_properties {e = e} {n = n} {c = c} {i = i} {o = o} {j = j} {x = x} d same r =
      let a = node_properties d r in
      let s = same a.0 a.1 a.2 in
      subst (λ w. PastProperties t e n c i j w o) s.1 (subst (λ w. PastProperties t e n c i w a.1 o) s.0 a.3)
