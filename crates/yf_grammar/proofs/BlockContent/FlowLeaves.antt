-- A flow node without properties on a line of a block node: an alias, a plain scalar, a quoted scalar or a flow
-- collection. If the line ends after it, it is no key. If it is a leaf there, the reader finds it.
use Rattle.std.proofs.Common.{◌≡◌, ℕ, ℤ, pos, ◌+ℤ◌, ◌≤◌, ◌≤ℤ◌, Bool, true, false, List, [], Option, Some, refl, sym, ap, ◌∙◌, subst, arith, encode_utf8_all}
use Rattle.std.proofs.lemmas.Bool.Decides.{nat_tests}
use Rattle.std.specs.Str.{IsUtf8}
use Rattle.yf_chars.specs.declared.context.Ctx.TheVariants.{FlowOut}
use Rattle.yf_chars.specs.Text.{code}
use Rattle.yf_chars.specs.Class.{is_white, is_ns_char, is_nb_char, is_printable, is_between, is_break_char}
use Rattle.yf_chars.specs.Chain.{Chosen, Stuck}
use Rattle.yf_lines.specs.Basic.{Clear}
use Rattle.yf_comments.specs.Comment.{CommentValue}
use Rattle.yf_comments.specs.Comments.{LineEnd, Row}
use Rattle.yf_comments.proofs.LineEndLemmas.{line_end_chosen}
use Rattle.yf_events.specs.declared.event.ScalarStyle.TheVariants.{Plain as PlainStyle}
use Rattle.yf_plain.specs.Plain.{PlainText, Plain}
use Rattle.yf_props.specs.Names.{Alias}
use Rattle.yf_grammar.specs.Productions.Grammar.{NodeOf, JsonContent, Derives}
use Rattle.yf_grammar.specs.Productions.Grammar.Derives.{an_alias, a_plain, a_json}
use Rattle.yf_grammar.specs.Productions.Meaning.{Meaning, noting, scalar, alias_to}
use Rattle.yf_grammar.specs.FlowReader.Parser.{ParsedNode, found, Parses, ANode, begins_alias, begins_properties, begins_content, begins_plain}
use Rattle.yf_grammar.specs.BlockReader.BlockParser.{LineText, Ahead, headed, MayLeaf, leaf_found, Leaf, Whole}
use Rattle.yf_grammar.specs.BlockReader.BlockParser.Whole.{scalar_read, leaf_read, leaf_unended, leaf_missed, leaf_refused}
use Rattle.yf_grammar.proofs.BlockOutcomes.BlockClaims.{IsFound, Unheld, nothing_ahead, indicator_ahead}
use Rattle.yf_grammar.proofs.BlockContent.BlockScalars.{node_no_scalar}
use Rattle.yf_grammar.proofs.FlowReader.Complete.{complete}
use Rattle.yf_grammar.proofs.FlowReader.ContentExact.{Reaches, reaches, passes}
use Rattle.yf_grammar.proofs.FlowReader.FlowStarts.{flow_starts, no_end_there}
use Rattle.yf_grammar.proofs.FlowReader.NodeExact.{plain_is}
use Rattle.yf_grammar.proofs.Ends.NodeExits.{alias_begins, alias_no_properties, content_no_properties, node_alias, node_plain, node_content, some_found, none_found}
use Rattle.yf_grammar.proofs.BlockOutcomes.NodesAfter.{content_after}
use Rattle.yf_grammar.proofs.BlockOutcomes.OutcomeEnds.{leaf_is}
use Rattle.yf_grammar.proofs.FlowReader.PlainEnds.{plain_leaps, first_no_bar, no_bar_plain, no_bar_properties}
use Rattle.yf_grammar.proofs.BlockContent.PlainStops.{plain_stops}
use Rattle.yf_grammar.proofs.Ends.WiderLemmas.{same_context}
use Rattle.yf_grammar.proofs.Ends.Ways.{chosen_one}
use Rattle.yf_chars.proofs.Tests.{not_true}
use Rattle.yf_grammar.proofs.FlowReader.Outcome.{content_no_alias}

-- a flow node without properties
pub data BareNode (t : List ℕ) (n : ℤ) : ℕ → ℕ → ℕ → Meaning → Type 0 where
  bare_alias : {k l : ℕ} {name : List ℕ} → Alias t k l name → BareNode t n 0 k l (alias_to name k l)
  bare_plain : {k l : ℕ} {y : List ℕ} → PlainText t n FlowOut k l y → BareNode t n 0 k l (scalar PlainStyle (encode_utf8_all y) [] k l)
  bare_content : {h k l : ℕ} {x : Meaning} → Derives t h (JsonContent n FlowOut) k l x → BareNode t n h k l x

-- the end of the line after a node is not white space before a `:`
quote_ns : is_ns_char 39 ≡ true
unfolding is_ns_char is_nb_char is_printable is_between is_break_char is_white
quote_ns = refl

plain_begins_no_alias : (c : ℕ) → begins_plain c ≡ true → begins_alias c ≡ false
unfolding begins_plain begins_content begins_alias begins_properties
plain_begins_no_alias c e = grind (arith, nat_tests)

-- the end, the height and the meaning of an outcome
pub record SameFound (f : ParsedNode) (l h : ℕ) (x : Meaning) : Type 0 where
  pub end : f.end ≡ l
  pub height : f.height ≡ h
  pub meaning : f.meaning ≡ x

pub same_found : {f : ParsedNode} {l h : ℕ} {x : Meaning} (b : Bool) → Some f ≡ found l h b x → SameFound f l h x
same_found {f} {l} {h} {x} b e =
    let s = some_found l h b x e in record { end = ap (λ w. w.end) s; height = ap (λ w. w.height) s; meaning = ap (λ w. w.meaning) s }

pub leaf_same : {f : ParsedNode} {l h j m : ℕ} {x : Meaning} {ds es : List CommentValue} (a : Ahead) → SameFound f l h x → (m ≡ j) × (es ≡ ds)
    → IsFound (leaf_found a m f.height f.meaning es) j h (headed a (noting x ds))
leaf_same {f} {h = h} {j = j} {m = m} {x = x} {ds = ds} {es = es} a s e = record {
  is = leaf_is a m f.height f.meaning es ∙ ap (λ w. found w f.height false (headed a (noting f.meaning es))) e.0 ∙ ap (λ w. found j w false (headed a (noting f.meaning es))) s.height
      ∙ ap (λ w. found j h false (headed a (noting w es))) s.meaning ∙ ap (λ w. found j h false (headed a (noting x w))) e.1;
}

module _ {t : List ℕ} where
  pub bare_node : {n : ℤ} {h k l : ℕ} {x : Meaning} → BareNode t n h k l x → (json : Bool) × Derives t h (NodeOf json n FlowOut) k l x
  bare_node (bare_alias a) = (false, an_alias refl a)
  bare_node (bare_plain p) = (false, a_plain p)
  bare_node (bare_content d) = (true, a_json d)

  pub bare_no_properties : {n : ℤ} {h k l : ℕ} {x : Meaning} → BareNode t n h k l x → begins_properties (code t k) ≡ false
  bare_no_properties {k = k} (bare_alias a) = not_true (begins_properties (code t k)) (alias_no_properties (code t k) (alias_begins a))
  bare_no_properties {k = k} (bare_plain p) = no_bar_properties (code t k) (first_no_bar t FlowOut k (plain_leaps p).0)
  bare_no_properties {k = k} (bare_content d) = not_true (begins_properties (code t k)) (content_no_properties (code t k) (flow_starts d refl).content)

  pub plain_begins : {n : ℤ} {k l : ℕ} {y : List ℕ} → PlainText t n FlowOut k l y → begins_plain (code t k) ≡ true
  plain_begins {k = k} p = no_bar_plain (code t k) (first_no_bar t FlowOut k (plain_leaps p).0)

  -- it may be a leaf after nothing or an indicator and, unless it is an alias, after properties
  pub may_leaf : {n : ℤ} {h k l : ℕ} {x : Meaning} {a : Ahead} → Unheld a → BareNode t n h k l x → MayLeaf t a k
  may_leaf nothing_ahead b = record { no_props = bare_no_properties b; no_alias = λ e. cc }
  may_leaf indicator_ahead b = record { no_props = bare_no_properties b; no_alias = λ e. cc }

  pub plain_may_leaf : {n : ℤ} {k l : ℕ} {y : List ℕ} (a : Ahead) → PlainText t n FlowOut k l y → MayLeaf t a k
  plain_may_leaf {k = k} a p = record { no_props = bare_no_properties (bare_plain p); no_alias = λ e. plain_begins_no_alias (code t k) (plain_begins p) }

  pub content_may_leaf : {n : ℤ} {h k l : ℕ} {x : Meaning} (a : Ahead) → Derives t h (JsonContent n FlowOut) k l x → MayLeaf t a k
  content_may_leaf {k = k} a d = record { no_props = bare_no_properties (bare_content d); no_alias = λ e. content_no_alias (code t k) (flow_starts d refl).content }

module _ {t : List ℕ} (u : IsUtf8 t) where
  -- the reader finds content before the end of a line as it is derived
  pub content_outcome : {n : ℤ} {e h k l j : ℕ} {x : Meaning} {ds : List CommentValue} {o : Option ParsedNode} → Derives t h (JsonContent n FlowOut) k l x → Clear t k l → h ≤ e → LineEnd t l j ds
      → Parses t e (ANode n FlowOut k) o → o ≡ found l h true x
  content_outcome {n} {e} {h} {l = l} {x = x} {ds = ds} {o = o} d c m w r =
      node_content (λ q. q ≡ found l h true x) (flow_starts d refl).content (λ q p. go (complete u d n FlowOut refl same_context c e m q p)) r
    where
      go : {q : Option ParsedNode} → Reaches t q l h x → q ≡ found l h true x
      go (reaches z) = z
      go (passes f z g y) = absurd (no_end_there u (content_after u d) (ap is_ns_char y ∙ quote_ns) w)

  -- the outcome there, before a line that is not deep enough to continue a plain scalar
  pub bare_outcome : {n : ℤ} {e h i l j : ℕ} {x : Meaning} {ds : List CommentValue} {o : Option ParsedNode} → BareNode t n h i l x → Clear t i l → h ≤ e → LineEnd t l j ds → Stuck (Row t j)
      → ((m p : ℕ) → LineText t j m p → n ≤ℤ pos m → ⊥) → Parses t e (ANode n FlowOut i) o → (b : Bool) × (o ≡ found l h b x)
  bare_outcome (bare_alias a) c m d s f r = (false, node_alias a r)
  bare_outcome {n} {i = i} {l = l} (bare_plain {y = y} p) c m d s f r =
      let plain : Plain t n FlowOut i l y = record { text = p; clear = c } in (
        false,
        node_plain (λ q. q ≡ found l 0 false (scalar PlainStyle (encode_utf8_all y) [] i l)) (plain_begins p) plain
            (λ k z g. let e = plain_stops u plain d s f g in plain_is z i k ∙ ap (λ w. found w 0 false (scalar PlainStyle (encode_utf8_all z) [] i w)) e.0
            ∙ ap (λ w. found l 0 false (scalar PlainStyle (encode_utf8_all w) [] i l)) e.1) r,
      )
  bare_outcome (bare_content b) c m d s f r = (true, content_outcome b c m d r)

  -- so it is found as a leaf
  pub bare_leaf : {n : ℤ} {e h p l j : ℕ} {a : Ahead} {x : Meaning} {ds : List CommentValue} {o : Option ParsedNode} → BareNode t (n +ℤ pos 1) h p l x → Clear t p l → h ≤ e
      → LineEnd t l j ds → Stuck (Row t j) → ((m q : ℕ) → LineText t j m q → (n +ℤ pos 1) ≤ℤ pos m → ⊥) → MayLeaf t a p → Whole t e (Leaf n a p) o
      → IsFound o j h (headed a (noting x ds))
  bare_leaf {n} b c m d s f y (scalar_read {j = k} {x = z} g) = absurd ((node_no_scalar n refl (bare_node b).1).none k z g.derived)
  bare_leaf {l = l} {j = j} {a = a} {ds = ds} b c m d s f y (leaf_read {j = k} {ds = es} {f = v} q z r g) =
      let w = bare_outcome b c m d s f r in
      let e = same_found w.0 w.1 in
      leaf_same a e (chosen_one (line_end_chosen d s) (subst (λ v. Chosen (LineEnd t v) k es) e.end g))
  bare_leaf {j = j} {ds = ds} b c m d s f y (leaf_unended {f = v} q z r g) =
      let w = bare_outcome b c m d s f r in
      let e = same_found w.0 w.1 in
      absurd (g.none j ds (subst (λ v. LineEnd t v j ds) (sym e.end) d))
  bare_leaf {h = h} {l = l} {x = x} b c m d s f y (leaf_missed q z r) = let w = bare_outcome b c m d s f r in absurd (none_found l h w.0 x w.1)
  bare_leaf b c m d s f y (leaf_refused q z) = absurd (z y)
