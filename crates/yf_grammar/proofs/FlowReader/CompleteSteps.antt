-- The steps of completeness: the reader's outcome for each production, if its outcomes for the parts are known.
use Rattle.std.proofs.Common.{◌≡◌, ℕ, ℤ, max, ◌+◌, ◌≤◌, Bool, true, false, List, [], ◌++◌, Option, Some, None, refl, sym, ap, ◌∙◌, subst, arith, true≢false, append_assoc, append-nil}
use Rattle.std.proofs.lemmas.Bool.Decides.{nat_tests}
use Rattle.std.specs.Str.{IsUtf8}
use Rattle.yf_chars.specs.declared.context.Ctx.{Ctx}
use Rattle.yf_chars.specs.Text.{code}
use Rattle.yf_chars.specs.Class.{is_ns_char, is_plain_safe}
use Rattle.yf_chars.specs.Chain.{Stuck}
use Rattle.yf_lines.specs.Basic.{is_block}
use Rattle.yf_comments.specs.Comment.{CommentValue}
use Rattle.yf_comments.specs.Comments.{Separate}
use Rattle.yf_props.specs.Names.{Properties, PropertiesValue}
use Rattle.yf_grammar.specs.Productions.Meaning.{Meaning, ◌⊕◌, meaning_after, noting, with_props, entering, empty_node, collection}
use Rattle.yf_grammar.specs.Productions.Grammar.{Derives, Implicit, ValueOf, MaySeparate, ValueSeparate, closing}
use Rattle.yf_grammar.specs.Productions.Grammar.MaySeparate.{unseparated, separated}
use Rattle.yf_grammar.specs.Productions.Grammar.Derives.{key_alone, key_and_value, value_alone, empty_value, a_value}
use Rattle.yf_grammar.specs.FlowReader.Parser.{ParsedNode, found, ANode, AContent, AnEntry, AValue, ColonAt, Parses, propertied, begins_alias, begins_properties, begins_content, only}
use Rattle.yf_grammar.specs.FlowReader.Parser.Parses.{alias_read, alias_missed, plain_read, plain_missed, content_read, properties_missed, properties_content, properties_plain, properties_end, properties_before_broken, properties_before_other}
use Rattle.yf_grammar.proofs.Ends.BlankRuns.{after_byte}
use Rattle.yf_grammar.proofs.Ends.GapLemmas.{Visible, separate_is, separate_more}
use Rattle.yf_grammar.proofs.FlowReader.PlainEnds.{plain_leaps}
use Rattle.yf_grammar.proofs.FlowReader.PropertiesEnds.{properties_before, properties_begin, is_stop}
use Rattle.yf_grammar.proofs.FlowReader.FlowStarts.{is_end, NodeStarts, flow_starts, sign_facts, separate_stuck}
use Rattle.yf_grammar.proofs.Ends.WiderLemmas.{Wider, same_context, from_key, from_block_key, wider_safe}
use Rattle.yf_grammar.proofs.FlowReader.ParserLemmas.{after_nothing}
use Rattle.yf_grammar.proofs.Ends.NodeExits.{alias_begins, propertied_is, some_found, none_found, past_properties, PastProperties, past_to_content, past_to_plain, past_to_nothing, past_to_broken, past_to_other}
use Rattle.yf_grammar.proofs.FlowReader.NodeExact.{Followed, end_stop, end_no_colon, stop_no_first, stop_visible, followed_no_quote}
use Rattle.yf_grammar.proofs.FlowReader.ContentExact.{Reaches, reaches, passes, EntriesFound, EntryFound}
use Rattle.yf_grammar.proofs.FlowReader.KeyExact.{nothing_exact}
use Rattle.yf_grammar.proofs.FlowReader.EntryExact.{exact_entry, mapping_explicit_exact, pair_explicit_exact}
use Rattle.yf_grammar.proofs.FlowReader.ValueExact.{value_exact, adjacent_exact}
use Rattle.yf_plain.proofs.PlainLemmas.{safe_is_ns}

-- if the wider context is no block context, the other is none
pub wider_not_block : {n m : ℤ} {c d : Ctx} → Wider n c m d → is_block d ≡ false → is_block c ≡ false
wider_not_block same_context b = b
wider_not_block (from_key e) b = refl
wider_not_block from_block_key b = refl

colon_stop : is_stop 58 ≡ true
unfolding is_stop
colon_stop = refl

pub stop_of_colon : (c : ℕ) → c ≡ 58 → is_stop c ≡ true
stop_of_colon c e = ap is_stop e ∙ colon_stop

end_no_mark : (c : ℕ) → is_end c ≡ true → (begins_alias c ≡ true → ⊥) × (begins_properties c ≡ true → ⊥) × (begins_content c ≡ true → ⊥)
unfolding is_end begins_alias begins_properties begins_content
end_no_mark c e = (λ f. grind (arith, nat_tests), λ f. grind (arith, nat_tests), λ f. grind (arith, nat_tests))

closing_ends : (s : Bool) → is_end (closing s) ≡ true
unfolding is_end
closing_ends true = refl
closing_ends false = refl

pub closing_end : (s : Bool) (c : ℕ) → c ≡ closing s → is_end c ≡ true
closing_end s c e = ap is_end e ∙ closing_ends s

pub not_closing : (s : Bool) (c : ℕ) → is_end c ≡ false → c ≡ closing s → ⊥
not_closing s c e f = true≢false (sym (closing_end s c f) ∙ e)

comma_ends : is_end 44 ≡ true
unfolding is_end
comma_ends = refl

pub comma_end : (c : ℕ) → c ≡ 44 → is_end c ≡ true
comma_end c e = ap is_end e ∙ comma_ends

module _ {t : List ℕ} where
  pub end_visible : (l : ℕ) → is_end (code t l) ≡ true → Visible t l
  end_visible l e = stop_visible l (end_stop (code t l) e)

  pub wider_node : {n m : ℤ} {c d : Ctx} {i j : ℕ} → Wider n c m d → NodeStarts t c i j → NodeStarts t d i j
  wider_node {i = i} w s = record {
    starts = s.starts;
    colon = λ q. sym (wider_safe (code t (i + 1)) w) ∙ s.colon q;
    question = λ q. sym (wider_safe (code t (i + 1)) w) ∙ s.question q;
  }

  -- no value begins at a node
  pub node_no_colon : {d : Ctx} {i j : ℕ} → NodeStarts t d i j → ColonAt t false d i → ⊥
  node_no_colon s q = true≢false (sym (s.colon q.colon) ∙ q.follows)

  -- no separation follows a `?` at which a node begins
  pub sign_stuck : {m : ℤ} (d : Ctx) (i : ℕ) → IsUtf8 t → (code t i ≡ 63 → is_plain_safe (code t (i + 1)) d ≡ true) → code t i ≡ 63 → Stuck (Separate t m d (i + 1))
  sign_stuck d i u f e = separate_stuck (i + 1) u (after_byte i u e (omega arith) sign_facts.1) (safe_is_ns (code t (i + 1)) d (f e))

  pub implicit_question : {h s i j : ℕ} {n : ℤ} {c : Ctx} {x : Meaning} → is_block c ≡ false → Derives t h (Implicit n c s) i j x → code t i ≡ 63
      → is_plain_safe (code t (i + 1)) c ≡ true
  implicit_question b (key_alone d) e = (flow_starts d b).question e
  implicit_question b (key_and_value d m v) e = (flow_starts d b).question e
  implicit_question b (value_alone v) e = let f = (flow_starts v b).colon in absurd (omega arith)

  pub value_colon : {h i j : ℕ} {json : Bool} {n : ℤ} {c : Ctx} {x : Meaning} → Derives t h (ValueOf json n c) i j x → ColonAt t json c i
  value_colon (empty_value b e m) = record { colon = e; follows = m }
  value_colon (a_value cs e m s d) = record { colon = e; follows = m }

  -- no node is read at a comma or a closing bracket
  pub no_node_at_end : {e i : ℕ} {n : ℤ} {c : Ctx} {o : Option ParsedNode} → is_end (code t i) ≡ true → Parses t e (ANode n c i) o → o ≡ None
  no_node_at_end {i = i} q (alias_read a) = absurd ((end_no_mark (code t i) q).0 (alias_begins a.derived))
  no_node_at_end q (alias_missed b s) = refl
  no_node_at_end {i = i} {c = c} q (plain_read b d) =
      absurd (stop_no_first t c i (end_stop (code t i) q) (λ e. absurd (end_no_colon (code t i) q e)) (plain_leaps d.derived.text).0)
  no_node_at_end q (plain_missed b s) = refl
  no_node_at_end {i = i} q (content_read b r) = absurd ((end_no_mark (code t i) q).2 b)
  no_node_at_end q (properties_missed b s) = refl
  no_node_at_end {i = i} q (properties_content d s b r) = absurd ((end_no_mark (code t i) q).1 (properties_begin d.derived))
  no_node_at_end {i = i} q (properties_plain d s b r) = absurd ((end_no_mark (code t i) q).1 (properties_begin d.derived))
  no_node_at_end {i = i} q (properties_end d s) = absurd ((end_no_mark (code t i) q).1 (properties_begin d.derived))
  no_node_at_end {i = i} q (properties_before_broken d s b r) = absurd ((end_no_mark (code t i) q).1 (properties_begin d.derived))
  no_node_at_end {i = i} q (properties_before_other d s b r) = absurd ((end_no_mark (code t i) q).1 (properties_begin d.derived))

pub some_has : (f : ParsedNode) (j h : ℕ) (b : Bool) (x : Meaning) (p : PropertiesValue) (cs ds : List CommentValue) (i g : ℕ) → ds ≡ cs → Some f ≡ found j h b x
    → propertied p ds i g f ≡ found j h b (meaning_after (p.comments ++ cs) (with_props p.props p.tag_offset i g x))
some_has f j h b x p cs ds i g e q =
    ap (λ w. propertied p w i g f) e ∙ ap (propertied p cs i g) (some_found j h b x q) ∙ propertied_is p cs i g j h b x

content_visible : (t : List ℕ) (k : ℕ) → Visible t k → begins_content (code t k) ≡ true → begins_properties (code t k) ≡ false
unfolding begins_content begins_properties
content_visible t k v e = grind (arith, nat_tests)

content_not_first : (t : List ℕ) (n : ℤ) (c : Ctx) (k : ℕ) → begins_content (code t k) ≡ true → begins_content (code t k) ≡ false → ⊥
content_not_first t n c k e f = true≢false (sym e ∙ f)

-- properties and content after them
module _ {t : List ℕ} {n : ℤ} {c : Ctx} where
  pub propertied_content : {e i g k : ℕ} {p : PropertiesValue} {cs : List CommentValue} {o : Option ParsedNode} (Q : Option ParsedNode → Type 0) → IsUtf8 t → Properties t n c i g p
      → Separate t n c g k cs → Visible t k → begins_content (code t k) ≡ true → (Parses t e (AContent n c k) None → ⊥)
      → ((f : ParsedNode) → Parses t e (AContent n c k) (Some f) → Q (propertied p cs i g f)) → Parses t e (ANode n c i) o → Q o
  propertied_content {e} {i} {g} {k} {p} {cs} {o} Q u d s v begins never f r = go (past_properties d (λ h z b. properties_before u d s v (content_visible t k v begins) b) r) where
    at : (m : ℕ) → m ≡ k → begins_content (code t m) ≡ false → ⊥
    at m q b = true≢false (sym begins ∙ ap (λ w. begins_content (code t w)) (sym q) ∙ b)

    go : PastProperties t e n c i g p o → Q o
    go (past_to_content m ds h b y z w) =
        let one = separate_is v (separated s) b in
        let there : Parses t e (AContent n c k) (Some h) = subst (λ (a : ℕ). Parses t e (AContent n c a) (Some h)) one.0 z in
        subst Q (sym (w ∙ ap (λ a. propertied p a i g h) one.1)) (f h there)
    go (past_to_plain m l ds y b z w eq) = absurd (at m (separate_is v (separated s) b).0 z)
    go (past_to_nothing z eq) = absurd (z.none k cs s)
    go (past_to_broken m ds b y z eq) =
        let one = separate_is v (separated s) b in
        absurd (never (subst (λ (a : ℕ). Parses t e (AContent n c a) None) one.0 z))
    go (past_to_other m ds b y z eq) = absurd (at m (separate_is v (separated s) b).0 y)

  pub json_with_exact : {e i g k : ℕ} {p : PropertiesValue} {cs : List CommentValue} {o : Option ParsedNode} (j h : ℕ) (x : Meaning) → IsUtf8 t → Properties t n c i g p
      → Separate t n c g k cs → Visible t k → begins_content (code t k) ≡ true → ((r : Option ParsedNode) → Parses t e (AContent n c k) r → r ≡ found j h true x)
      → Parses t e (ANode n c i) o → o ≡ found j h true (meaning_after (p.comments ++ cs) (with_props p.props p.tag_offset i g x))
  json_with_exact {i = i} {g = g} {p = p} {cs = cs} j h x u d s v b f r =
      propertied_content (λ o. o ≡ found j h true (meaning_after (p.comments ++ cs) (with_props p.props p.tag_offset i g x))) u d s v b
      (λ q. none_found j h true x (f None q)) (λ a q. some_has a j h true x p cs cs i g refl (f (Some a) q)) r

-- no quote is before text that can follow a node, so content ends there
pub reaches_exact : {t : List ℕ} {n : ℤ} {c : Ctx} {json : Bool} {o : Option ParsedNode} {j h : ℕ} {x : Meaning} → Followed t n c json j → Reaches t o j h x → o ≡ found j h true x
reaches_exact f (reaches e) = e
reaches_exact f (passes g e l q) = absurd (followed_no_quote f q)

-- an empty collection has no entries
pub nothing_found : {o : Option ParsedNode} (i : ℕ) → o ≡ found i 0 true (only [] i) → EntriesFound o i 0 (only [] i)
unfolding found
nothing_found i e = record { answer = record { end = i; height = 0; json = true; meaning = only [] i }; is = e; end = refl; height = refl; events = refl; comments = refl; escapes = refl }

pub entries_as : {o : Option ParsedNode} {j h g : ℕ} {x y : Meaning} → g ≡ h → x.events ≡ y.events → x.comments ≡ y.comments → x.escapes ≡ y.escapes → EntriesFound o j g x → EntriesFound o j h y
entries_as e a b c f = record { answer = f.answer; is = f.is; end = f.end; height = f.height ∙ e; events = f.events ∙ a; comments = f.comments ∙ b; escapes = f.escapes ∙ c }

-- a comma after the last entry
pub comma_found : {o : Option ParsedNode} {j h : ℕ} (x : Meaning) (cs ds : List CommentValue) → EntriesFound o j (max h 0) (noting (noting x cs) ds ⊕ only [] j) → EntriesFound o j h (noting x (cs ++ ds))
unfolding noting ◌⊕◌ only
comma_found {h = h} x cs ds f = entries_as (omega arith) (append-nil x.events) (append-nil ((x.comments ++ cs) ++ ds) ∙ append_assoc x.comments cs ds) (append-nil x.escapes) f

pub noting_twice : (x : Meaning) (cs ds : List CommentValue) → noting (noting x cs) ds ≡ noting x (cs ++ ds)
unfolding noting
noting_twice x cs ds = ap (λ w. record x { comments = w }) (append_assoc x.comments cs ds)

-- nothing after `?`, up to the end of the entry
nothing_comments : (s l : ℕ) (cs ds : List CommentValue)
    → noting (meaning_after (cs ++ ds) (entering s None (empty_node l) ⊕ empty_node l)) [] ≡ noting (meaning_after cs (entering s None (empty_node l) ⊕ empty_node l)) ds
unfolding noting meaning_after entering empty_node ◌⊕◌
nothing_comments s l cs ds = rw (append-nil (cs ++ ds), append-nil (cs ++ ds), append-nil cs) refl

nothing_paired : (s l : ℕ) (cs ds : List CommentValue)
    → noting (entering s None (collection false true s (meaning_after (cs ++ ds) (entering s None (empty_node l) ⊕ empty_node l)).finish (meaning_after (cs ++ ds) (entering s None (empty_node l) ⊕ empty_node l)))) []
    ≡ noting (entering s None (collection false true s (meaning_after cs (entering s None (empty_node l) ⊕ empty_node l)).finish (meaning_after cs (entering s None (empty_node l) ⊕ empty_node l)))) ds
unfolding noting meaning_after entering empty_node collection ◌⊕◌
nothing_paired s l cs ds = rw (append-nil (cs ++ ds), append-nil (cs ++ ds), append-nil cs) refl

module _ {t : List ℕ} {n : ℤ} {c : Ctx} where
  pub mapping_nothing : {e i k l : ℕ} {cs ds : List CommentValue} {o : Option ParsedNode} → IsUtf8 t → code t i ≡ 63 → Separate t n c (i + 1) k cs → MaySeparate t n c k l ds
      → is_end (code t l) ≡ true → Parses t e (AnEntry false n c i) o
      → EntryFound t n c o l 0 (noting (meaning_after cs (entering i None (empty_node (i + 1)) ⊕ empty_node (i + 1))) ds)
  mapping_nothing {i = i} {l = l} {cs = cs} {ds = ds} {o = o} u q s m b r =
      let v = end_visible l b in
      let x = entering i None (empty_node (i + 1)) ⊕ empty_node (i + 1) in
      let a = mapping_explicit_exact l 0 x q (separate_more u v s m) v (λ w p. (false, nothing_exact b p)) r in
      subst (λ w. EntryFound t n c o l 0 w) (nothing_comments i (i + 1) cs ds) (exact_entry l 0 a.0 (meaning_after (cs ++ ds) x) unseparated v a.1)

  pub pair_nothing : {e i k l : ℕ} {cs ds : List CommentValue} {o : Option ParsedNode} → IsUtf8 t → code t i ≡ 63 → Separate t n c (i + 1) k cs → MaySeparate t n c k l ds
      → is_end (code t l) ≡ true → 1 ≤ e → Parses t e (AnEntry true n c i) o
      → EntryFound t n c o l 1 (noting (entering i None (collection false true i (meaning_after cs (entering i None (empty_node (i + 1)) ⊕ empty_node (i + 1))).finish (meaning_after cs (entering i None (empty_node (i + 1)) ⊕ empty_node (i + 1))))) ds)
  pair_nothing {i = i} {l = l} {cs = cs} {ds = ds} {o = o} u q s m b z r =
      let v = end_visible l b in
      let x = entering i None (empty_node (i + 1)) ⊕ empty_node (i + 1) in
      let a = pair_explicit_exact l 0 x q (separate_more u v s m) v z (λ d w y p. (false, nothing_exact b p)) r in
      let y = entering i None (collection false true i (meaning_after (cs ++ ds) x).finish (meaning_after (cs ++ ds) x)) in
      subst (λ w. EntryFound t n c o l 1 w) (nothing_paired i (i + 1) cs ds) (exact_entry l 1 false y unseparated v a)

  -- a value with a node, after a key of either kind
  beside_or_after : {e i p k : ℕ} {cs : List CommentValue} {o : Option ParsedNode} (j h : ℕ) (x : Meaning) → IsUtf8 t → code t i ≡ 58 → p ≡ i + 1 → MaySeparate t n c p k cs → Visible t k
      → ((r : Option ParsedNode) → Parses t e (ANode n c k) r → (b : Bool) × (r ≡ found j h b x)) → Parses t e (AValue true n c i) o
      → (b : Bool) × (o ≡ found j h b (meaning_after cs x))
  beside_or_after {e = e} {i = i} {p = p} {o = o} j h x u q z unseparated v f r =
      let there : is_ns_char (code t (i + 1)) ≡ true = ap (λ w. is_ns_char (code t w)) (sym z) ∙ v.ns in
      let a = adjacent_exact j h x (separate_stuck (i + 1) u (after_byte i u q (omega arith) sign_facts.0) there)
      (λ w y. f w (subst (λ m. Parses t e (ANode n c m) w) (sym z) y)) r in
      (a.0, a.1 ∙ ap (found j h a.0) (sym (after_nothing x)))
  beside_or_after {k = k} {cs = cs} j h x u q z (separated s) v f r = value_exact j h x (subst (λ w. Separate t n c w k cs) z s) v f r

  pub a_value_exact : {e i k : ℕ} {o : Option ParsedNode} (json : Bool) (cs : List CommentValue) (j h : ℕ) (x : Meaning) → IsUtf8 t → code t i ≡ 58 → ValueSeparate json t n c (i + 1) k cs
      → Visible t k → ((r : Option ParsedNode) → Parses t e (ANode n c k) r → (b : Bool) × (r ≡ found j h b x)) → Parses t e (AValue json n c i) o
      → (b : Bool) × (o ≡ found j h b (meaning_after cs x))
  a_value_exact true cs j h x u q s v f r = beside_or_after j h x u q refl s v f r
  a_value_exact false cs j h x u q s v f r = value_exact j h x s v f r
