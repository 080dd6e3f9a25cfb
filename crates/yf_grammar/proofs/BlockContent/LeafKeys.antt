-- Properties and flow nodes at the end of a line are no keys.
use Rattle.std.proofs.Common.{◌≡◌, ℕ, ◌<◌, ◌≤◌, ℤ, pos, ◌+ℤ◌, Bool, true, false, ⊎_elim, List, Some, None, refl, sym, ap, ◌∙◌, subst, arith, true≢false}
use Rattle.std.proofs.lemmas.Bool.{cases_lt}
use Rattle.std.proofs.lemmas.Bool.Decides.{nat_tests}
use Rattle.std.specs.Str.{IsUtf8}
use Rattle.yf_chars.specs.declared.context.Ctx.TheVariants.{FlowOut, FlowKey, BlockKey}
use Rattle.yf_chars.specs.Text.{code}
use Rattle.yf_chars.specs.Class.{is_break_char, is_white, is_white_or_end}
use Rattle.yf_chars.specs.Chain.{Chosen, Stuck, Many}
use Rattle.yf_chars.proofs.TextLemmas.{within_from_code}
use Rattle.yf_lines.specs.Basic.{LineStart, Clear}
use Rattle.yf_lines.proofs.BasicLemmas.{break_forward, clear_back}
use Rattle.yf_lines.proofs.LineLemmas.{break_breaks}
use Rattle.yf_comments.specs.Comment.{CommentValue}
use Rattle.yf_comments.specs.Comments.{LineEnd, Separate}
use Rattle.yf_plain.specs.Plain.{Plain}
use Rattle.yf_props.specs.Names.{Properties, PropertiesValue}
use Rattle.yf_props.proofs.SeparationEnds.{separate_forward}
use Rattle.yf_grammar.specs.Productions.Meaning.{Meaning, alias_to}
use Rattle.yf_grammar.specs.Productions.Grammar.{NodeOf, KeyOf, Derives}
use Rattle.yf_grammar.specs.Productions.Grammar.Derives.{an_alias, a_plain, a_plain_with, properties_alone, a_json, a_json_with, a_key}
use Rattle.yf_grammar.specs.FlowReader.Parser.{ParsedNode, found, Parses, ANode, begins_content, propertied}
use Rattle.yf_grammar.specs.BlockReader.BlockParser.{SignAt, KeyBefore}
use Rattle.yf_grammar.proofs.FlowReader.OneLine.{AllOnLine}
use Rattle.yf_grammar.proofs.FlowReader.Sound.{found_is_derived}
use Rattle.yf_grammar.proofs.FlowReader.Complete.{complete}
use Rattle.yf_grammar.proofs.FlowReader.ContentExact.{Reaches, reaches, passes}
use Rattle.yf_grammar.proofs.FlowReader.CompleteSteps.{propertied_content}
use Rattle.yf_grammar.proofs.FlowReader.FlowStarts.{flow_starts}
use Rattle.yf_grammar.proofs.Ends.GapLemmas.{Visible, separate_is}
use Rattle.yf_grammar.specs.Productions.Grammar.MaySeparate.{separated}
use Rattle.yf_grammar.proofs.Ends.NodeExits.{some_found, node_alias, node_content, past_properties, PastProperties, past_to_content, past_to_plain, past_to_nothing, past_to_broken, past_to_other}
use Rattle.yf_grammar.proofs.BlockOutcomes.NodesAfter.{node_next}
use Rattle.yf_grammar.proofs.Ends.BlankRuns.{no_start_past}
use Rattle.yf_grammar.proofs.BlockOutcomes.BlockSigns.{line_end_stop}
use Rattle.yf_grammar.proofs.FlowReader.ParserLemmas.{whites_in_line}
use Rattle.yf_grammar.proofs.FlowReader.PlainEnds.{plain_leaps, plain_later, first_no_bar, no_bar_plain, no_bar_content, no_bar_properties}
use Rattle.yf_grammar.proofs.BlockContent.PlainTails.{Tail, tail_of}
use Rattle.yf_grammar.proofs.FlowReader.PropertiesEnds.{properties_before}
use Rattle.yf_grammar.proofs.Ends.WiderLemmas.{same_context}
use Rattle.yf_grammar.proofs.BlockOutcomes.BlockFirst.{colon_visible, no_line_end_before, key_no_line_end}
use Rattle.yf_grammar.proofs.BlockOutcomes.BlockGaps.{whites_order}
use Rattle.yf_grammar.proofs.BlockOutcomes.BlockHalts.{plain_was_read}
use Rattle.yf_grammar.proofs.BlockOutcomes.BlockKeyLines.{node_keyed}
use Rattle.yf_grammar.proofs.BlockOutcomes.HaltsLater.{key_order}
use Rattle.yf_grammar.proofs.BlockContent.InlineViews.{NotKey}
use Rattle.yf_grammar.proofs.BlockContent.PropertiesLines.{Spread, on_one_line, on_two_lines, spread}
use Rattle.yf_grammar.proofs.FlowReader.Longest.{none_reaches}
use Rattle.yf_props.proofs.NameOrder.{properties_forward}

quote_no_end : (c : ℕ) → c ≡ 39 → is_white_or_end c ≡ true → ⊥
unfolding is_white_or_end is_white is_break_char
quote_no_end c e f = grind (arith, nat_tests)

propertied_end : (p : PropertiesValue) (cs : List CommentValue) (i g : ℕ) (f : ParsedNode) {v : ParsedNode} → propertied p cs i g f ≡ Some v → f.end ≡ v.end
unfolding propertied
propertied_end p cs i g f e = cc

module _ {t : List ℕ} (u : IsUtf8 t) where
  -- a node found before a `:` is derived as a key
  key_line : {p z : ℕ} {v : ParsedNode} → KeyBefore t p v z → AllOnLine t p z
  key_line {z = z} b = record { line = b.line; goes_on = within_from_code t z (omega (arith, b.colon.sign_is_at)) }

  pub found_keyed : {e p z : ℕ} {n : ℤ} {v : ParsedNode} → Parses t e (ANode n FlowOut p) (Some v) → KeyBefore t p v z → Derives t v.height (KeyOf v.json BlockKey) p z v.meaning
  found_keyed r b = a_key (node_keyed (key_line b) u (omega arith) (key_order b) (found_is_derived refl r).0) (whites_in_line b.run) b.short

  pub line_no_key : {e f g l : ℕ} {n : ℤ} {p : PropertiesValue} {ds : List CommentValue} → Properties t (pos 0) FlowKey f g p → LineEnd t g l ds → NotKey t e n f
  line_no_key p d = record { none = λ r b. key_no_line_end u (found_keyed r b) b.colon p d }

  properties_no_key : {h f g l z : ℕ} {m : ℤ} {json : Bool} {x : Meaning} {p : PropertiesValue} {ds : List CommentValue} → Spread t m f g p → LineEnd t g l ds
      → Derives t h (KeyOf json BlockKey) f z x → SignAt t 58 z → ⊥
  properties_no_key (on_one_line p) d k s = key_no_line_end u k s p d
  properties_no_key (on_two_lines p e f q m) d k s = key_no_line_end u k s p e

  pub spread_no_key : {e f g l : ℕ} {n m : ℤ} {p : PropertiesValue} {ds : List CommentValue} → Spread t m f g p → LineEnd t g l ds → NotKey t e n f
  spread_no_key (on_one_line p) d = line_no_key p d
  spread_no_key (on_two_lines p e f q m) d = line_no_key p e

  ends_there : {p l j z h : ℕ} {n : ℤ} {json : Bool} {x : Meaning} {v : ParsedNode} {ds : List CommentValue} → Derives t h (NodeOf json n FlowOut) p l x → LineEnd t l j ds
      → KeyBefore t p v z → v.end ≡ l → ⊥
  ends_there {z = z} d e b q = no_line_end_before u (node_next u d) (subst (λ w. Many t is_white w z b.whites) q b.run) (colon_visible u b.colon) e

  -- a longer plain scalar continues on another line
  tail_breaks : {k p l z : ℕ} {n : ℤ} {v : ParsedNode} → Tail t n FlowOut k l → p ≤ k → KeyBefore t p v z → l ≤ v.end → ⊥
  tail_breaks a q b m =
      let f = a.end in
      let o = whites_order f.whites in
      let c = key_order b in
      let i = a.inside in
      let y = f.first in
      let x = break_forward f.ends in
      true≢false (sym (break_breaks f.ends) ∙ b.line.each f.from (omega arith) (omega arith))

  plain_no_key : {p k l j z : ℕ} {n : ℤ} {x y : List ℕ} {v : ParsedNode} {ds : List CommentValue} → Plain t n FlowOut k l x → Chosen (Plain t n FlowOut k) v.end y → LineEnd t l j ds
      → KeyBefore t p v z → p ≤ k → (v.end ≡ l → ⊥) → ⊥
  plain_no_key {p = p} {k = k} {l = l} {x = x} {v = v} a c d b q f =
      let m : l ≤ v.end = c.longest l x a in
      let y : k < l = plain_later a.text in
      ⊎_elim (λ (i : l < v.end). tail_breaks (tail_of u refl a c.derived i d) (omega arith) b (omega arith)) (λ (i : v.end ≤ l). f (omega arith)) (cases_lt l v.end)

  some_end : {v : ParsedNode} (j h : ℕ) (b : Bool) (x : Meaning) → Some v ≡ found j h b x → v.end ≡ j
  some_end j h b x e = ap (λ w. w.end) (some_found j h b x e)

  json_end : {v : ParsedNode} {l j h : ℕ} {x : Meaning} {ds : List CommentValue} → LineEnd t l j ds → (LineStart t l → ⊥) → Reaches t (Some v) l h x → v.end ≡ l
  json_end {l = l} {h = h} {x = x} d n (reaches e) = some_end l h true x e
  json_end {l = l} d n (passes f e m q) = absurd (quote_no_end (code t l) q (line_end_stop n d))

  -- a node found after properties before a plain scalar is that scalar, or a longer one
  past_plain : {e p g k l j z : ℕ} {n : ℤ} {q : PropertiesValue} {cs ds : List CommentValue} {x : List ℕ} {v : ParsedNode} → Separate t n FlowOut g k cs → Visible t k → begins_content (code t k) ≡ false
      → Plain t n FlowOut k l x → LineEnd t l j ds → KeyBefore t p v z → p ≤ k → (v.end ≡ l → ⊥) → PastProperties t e n FlowOut p g q (Some v) → ⊥
  past_plain {k = k} s w b a d y m f (past_to_content h cs v' c i r e) =
      let same = separate_is w (separated s) c in true≢false (sym i ∙ ap (λ z. begins_content (code t z)) same.0 ∙ b)
  past_plain {k = k} {n = n} {v = v} s w b a d y m f (past_to_plain h j' cs x' c i r e) =
      let same = separate_is w (separated s) c in
      let z : v.end ≡ j' = some_end j' 0 false _ e in
      let r1 : Chosen (Plain t n FlowOut k) j' x' = subst (λ z. Chosen (Plain t n FlowOut z) j' x') same.0 r in
      plain_no_key a (subst (λ z. Chosen (Plain t n FlowOut k) z x') (sym z) r1) d y m f
  past_plain {k = k} {cs = cs} s w b a d y m f (past_to_nothing c e) = c.none k cs s
  past_plain {k = k} s w b a d y m f (past_to_broken h cs c i r e) =
      let same = separate_is w (separated s) c in true≢false (sym i ∙ ap (λ z. begins_content (code t z)) same.0 ∙ b)
  past_plain {k = k} {l = l} {n = n} {x = x} s w b a d y m f (past_to_other h cs c i r e) =
      let same = separate_is w (separated s) c in
      let r1 : Stuck (Plain t n FlowOut k) = subst (λ z. Stuck (Plain t n FlowOut z)) same.0 r in r1.none l x a

  leaf_no_key : {e h p l j z : ℕ} {n : ℤ} {json : Bool} {x : Meaning} {v : ParsedNode} {ds : List CommentValue} → Derives t h (NodeOf json n FlowOut) p l x → LineEnd t l j ds
      → Clear t p l → h ≤ e → Parses t e (ANode n FlowOut p) (Some v) → KeyBefore t p v z → (v.end ≡ l → ⊥) → ⊥
  leaf_no_key {p = p} {l = l} (an_alias {name = name} i a) d c m r b f = f (some_end l 0 false (alias_to name p l) (node_alias a r))
  leaf_no_key {p = p} (a_plain a) d c m r b f =
      let y = plain_was_read (no_bar_plain (code t p) (first_no_bar t FlowOut p (plain_leaps a).0)) r refl in
      plain_no_key (record { text = a; clear = c }) y.chosen d b (omega arith) f
  leaf_no_key {p = p} {n = n} (a_plain_with {g = g} {k = k} q s a) d c m r b f =
      let bar = first_no_bar t FlowOut k (plain_leaps a).0 in
      let w = (flow_starts (a_plain {n = n} a) refl).starts.visible in
      let i = properties_forward q in
      let o = separate_forward s in
      past_plain s w (no_bar_content (code t k) bar) (record { text = a; clear = clear_back (omega arith) c }) d b (omega arith) f
      (past_properties q (λ h z y. properties_before u q s w (no_bar_properties (code t k) bar) y) r)
  leaf_no_key {n = n} (properties_alone i q) d c m r b f = properties_no_key (spread FlowOut refl q) d (found_keyed r b) b.colon
  leaf_no_key {e = e} {h = h} {l = l} {n = n} {x = x} {v = v} (a_json a) d c m r b f =
      f (json_end d (λ y. no_start_past u (node_next u (a_json {n = n} a)) y) (node_content (λ o. o ≡ Some v → Reaches t (Some v) l h x) (flow_starts a refl).content
      (λ y w i. subst (λ o. Reaches t o l h x) i (complete u a n FlowOut refl same_context c e m y w)) r refl))
  leaf_no_key {e = e} {h = h} {p = p} {l = l} {n = n} {v = v} (a_json_with {g = g} {k = k} {p = pv} {cs = cs} {x = x} q s a) d c m r b f =
      let w = (flow_starts (a_json {n = n} a) refl).starts.visible in
      let i = properties_forward q in
      let o = separate_forward s in
      propertied_content (λ o. o ≡ Some v → ⊥) u q s w (flow_starts a refl).content
      (λ y. none_reaches (complete u a n FlowOut refl same_context (clear_back (omega arith) c) e m None y))
      (λ y z i'. f (sym (propertied_end pv cs p g y i') ∙ json_end d (λ j. no_start_past u (node_next u (a_json {n = n} a)) j)
      (complete u a n FlowOut refl same_context (clear_back (omega arith) c) e m (Some y) z)))
      r refl

  -- if the line ends after a flow node, neither it nor a longer node is a key
  pub node_no_key : {e h p l j : ℕ} {n : ℤ} {json : Bool} {x : Meaning} {ds : List CommentValue} → Derives t h (NodeOf json (n +ℤ pos 1) FlowOut) p l x → LineEnd t l j ds → Clear t p l
      → h ≤ e → NotKey t e n p
  node_no_key d g c m = record { none = λ r b. leaf_no_key d g c m r b (λ q. ends_there d g b q) }
