-- The recursive reader takes the longest flow node: each other node that is derived at its offset ends before the
-- reader's outcome.
use Rattle.std.proofs.Common.{◌≡◌, ℕ, ℤ, ◌<◌, ◌≤◌, Bool, true, false, ◌⊎◌, inl, inr, ⊎_elim, List, [], ◌++◌, Option, Some, None, refl, sym, ap, ◌∙◌, subst, arith, true≢false, encode_utf8_all}
use Rattle.std.proofs.lemmas.Bool.{cases_lt}
use Rattle.std.specs.Str.{IsUtf8}
use Rattle.yf_chars.specs.declared.context.Ctx.{Ctx}
use Rattle.yf_chars.specs.Text.{code}
use Rattle.yf_chars.specs.Chain.{Stuck, Chosen}
use Rattle.yf_chars.proofs.Tests.{none_some}
use Rattle.yf_lines.specs.Basic.{is_block, Clear}
use Rattle.yf_lines.proofs.BasicLemmas.{clear_back}
use Rattle.yf_comments.specs.Comment.{CommentValue}
use Rattle.yf_comments.specs.Comments.{Separate}
use Rattle.yf_events.specs.declared.event.ScalarStyle.TheVariants.{Plain as PlainStyle}
use Rattle.yf_plain.specs.Plain.{PlainText, Plain}
use Rattle.yf_plain.proofs.PlainLemmas.{first_is_ns}
use Rattle.yf_props.specs.Names.{Properties, PropertiesValue}
use Rattle.yf_props.proofs.SeparationEnds.{separate_forward}
use Rattle.yf_grammar.specs.Productions.Meaning.{Meaning, meaning_after, scalar, empty_node, with_props}
use Rattle.yf_grammar.specs.Productions.Grammar.{NodeOf, Derives}
use Rattle.yf_grammar.specs.Productions.Grammar.Derives.{an_alias, a_plain, a_plain_with, properties_alone, a_json, a_json_with}
use Rattle.yf_grammar.specs.Productions.Grammar.MaySeparate.{separated}
use Rattle.yf_grammar.specs.FlowReader.Parser.{ParsedNode, found, ANode, AContent, Parses, begins_content, propertied, lone_properties}
use Rattle.yf_grammar.specs.FlowReader.Parser.Parses.{content_read}
use Rattle.yf_grammar.proofs.Ends.GapLemmas.{Visible, separate_is}
use Rattle.yf_grammar.proofs.FlowReader.PlainEnds.{plain_leaps, plain_later, is_bar, first_no_bar, no_bar_plain, no_bar_content, no_bar_properties}
use Rattle.yf_grammar.proofs.FlowReader.PropertiesEnds.{properties_before}
use Rattle.yf_grammar.proofs.FlowReader.FlowStarts.{flow_starts, bar_no_hash}
use Rattle.yf_grammar.proofs.Ends.WiderLemmas.{same_context}
use Rattle.yf_grammar.proofs.Ends.NodeExits.{node_alias, node_plain, node_content, node_properties, past_properties, PastProperties, past_to_content, past_to_plain, past_to_nothing, past_to_broken, past_to_other, none_found}
use Rattle.yf_grammar.proofs.FlowReader.NodeExact.{lone_is, plain_is}
use Rattle.yf_grammar.proofs.FlowReader.ContentExact.{Reaches, reaches, passes}
use Rattle.yf_grammar.proofs.FlowReader.CompleteSteps.{propertied_content, some_has}
use Rattle.yf_grammar.proofs.FlowReader.Complete.{complete}
use Rattle.yf_grammar.proofs.FlowReader.Sound.{found_is_derived}
use Rattle.yf_props.proofs.NameOrder.{properties_forward}

-- the outcome is not `None`, and ends after j, or at j with that meaning
pub record Longest (o : Option ParsedNode) (j : ℕ) (x : Meaning) : Type 0 where
  pub answer : ParsedNode
  pub is : o ≡ Some answer
  pub far : (j < answer.end) ⊎ ((j ≡ answer.end) × (x ≡ answer.meaning))

found_longest : {o : Option ParsedNode} (k h : ℕ) (b : Bool) (y : Meaning) (j : ℕ) (x : Meaning) → o ≡ found k h b y → (j < k) ⊎ ((j ≡ k) × (x ≡ y)) → Longest o j x
unfolding found
found_longest k h b y j x e f = record { answer = record { end = k; height = h; json = b; meaning = y }; is = e; far = f }

exact_longest : {o : Option ParsedNode} (j h : ℕ) (b : Bool) (x : Meaning) → o ≡ found j h b x → Longest o j x
exact_longest j h b x e = found_longest j h b x j x e (inr (refl, refl))

-- the chosen leaf is the longest
leaf_longest : {A : Type 0} {P : ℕ → A → Type 0} {o : Option ParsedNode} (k : ℕ) (y : A) (h : ℕ) (b : Bool) (put : ℕ → A → Meaning) (j : ℕ) (x : A) → P j x → Chosen P k y
    → o ≡ found k h b (put k y) → Longest o j (put j x)
leaf_longest {P = P} k y h b put j x p d e = found_longest k h b (put k y) j (put j x) e
    (⊎_elim (λ (l : j < k). inl l)
    (λ (l : k ≤ j).
    let m = d.longest j x p in
    let same : j ≡ k = omega arith in
    let one = d.only x (subst (λ w. P w x) same p) in
    inr (same, ap (λ w. put w x) same ∙ ap (put k) one))
    (cases_lt j k))

propertied_some : (p : PropertiesValue) (cs : List CommentValue) (i g : ℕ) (f : ParsedNode)
    → propertied p cs i g f ≡ found f.end f.height f.json (meaning_after (p.comments ++ cs) (with_props p.props p.tag_offset i g f.meaning))
unfolding propertied found
propertied_some p cs i g f = refl

module _ {t : List ℕ} {n : ℤ} {c : Ctx} (b : is_block c ≡ false) where
  content_later : {e k : ℕ} {f : ParsedNode} → begins_content (code t k) ≡ true → Parses t e (AContent n c k) (Some f) → k < f.end
  content_later q r = (flow_starts (found_is_derived b (content_read q r)).0 b).starts.later

reaches_longest : {t : List ℕ} {o : Option ParsedNode} {j h : ℕ} {x : Meaning} → Reaches t o j h x → Longest o j x
reaches_longest {j = j} {h = h} {x = x} (reaches e) = exact_longest j h true x e
reaches_longest (passes f e l q) = record { answer = f; is = e; far = inl l }

pub none_reaches : {t : List ℕ} {j h : ℕ} {x : Meaning} → Reaches t None j h x → ⊥
none_reaches {j = j} {h = h} {x = x} (reaches e) = none_found j h true x e
none_reaches (passes f e l q) = cc

content_longest : {t : List ℕ} {f : ParsedNode} {j h : ℕ} {x : Meaning} (p : PropertiesValue) (cs : List CommentValue) (i g : ℕ) → Reaches t (Some f) j h x
    → Longest (propertied p cs i g f) j (meaning_after (p.comments ++ cs) (with_props p.props p.tag_offset i g x))
content_longest {f = f} {j = j} {h = h} {x = x} p cs i g (reaches e) =
    exact_longest j h true (meaning_after (p.comments ++ cs) (with_props p.props p.tag_offset i g x)) (some_has f j h true x p cs cs i g refl e)
content_longest {f = f} {j = j} {x = x} p cs i g (passes r e l q) =
    found_longest f.end f.height f.json (meaning_after (p.comments ++ cs) (with_props p.props p.tag_offset i g f.meaning)) j
    (meaning_after (p.comments ++ cs) (with_props p.props p.tag_offset i g x)) (propertied_some p cs i g f) (inl (end_same e l))
  where
    end_same : {f r : ParsedNode} {j : ℕ} → Some f ≡ Some r → j < r.end → j < f.end
    end_same {f} {r} {j} e l = let s : r ≡ f = cc in subst (λ w. j < w.end) s l

module _ {t : List ℕ} (u : IsUtf8 t) {n : ℤ} {c : Ctx} (b : is_block c ≡ false) where
  alone_longest : {e i j : ℕ} {p : PropertiesValue} {o : Option ParsedNode} → Properties t n c i j p → Parses t e (ANode n c i) o
      → Longest o j (meaning_after p.comments (with_props p.props p.tag_offset i j (empty_node j)))
  alone_longest {e} {i} {j} {p} {o} d r = let a = node_properties d r in go a.0 a.1 a.2 a.3 where
    far : (g : ℕ) (q : PropertiesValue) → Chosen (Properties t n c i) g q → o ≡ lone_properties q i g
        → Longest o j (meaning_after p.comments (with_props p.props p.tag_offset i j (empty_node j)))
    far g q s w = leaf_longest g q 0 false (λ k y. meaning_after y.comments (with_props y.props y.tag_offset i k (empty_node k))) j p d s (w ∙ lone_is q i g)

    go : (g : ℕ) (q : PropertiesValue) → Chosen (Properties t n c i) g q → PastProperties t e n c i g q o
        → Longest o j (meaning_after p.comments (with_props p.props p.tag_offset i j (empty_node j)))
    go g q s (past_to_content k cs f z y w eq) =
        let first = s.longest j p d in
        let gap = separate_forward z.derived in
        let last = content_later b y w in
        found_longest f.end f.height f.json (meaning_after (q.comments ++ cs) (with_props q.props q.tag_offset i g f.meaning)) j
        (meaning_after p.comments (with_props p.props p.tag_offset i j (empty_node j))) (eq ∙ propertied_some q cs i g f) (inl (omega arith))
    go g q s (past_to_plain k l cs y z v w eq) =
        let first = s.longest j p d in
        let gap = separate_forward z.derived in
        let last = plain_later w.derived.text in
        found_longest l 0 false (meaning_after (q.comments ++ cs) (with_props q.props q.tag_offset i g (scalar PlainStyle (encode_utf8_all y) [] k l))) j
        (meaning_after p.comments (with_props p.props p.tag_offset i j (empty_node j))) eq (inl (omega arith))
    go g q s (past_to_nothing z eq) = far g q s eq
    go g q s (past_to_broken k cs z y w eq) = far g q s eq
    go g q s (past_to_other k cs z y w eq) = far g q s eq

  plain_with_longest : {e i g k j : ℕ} {p : PropertiesValue} {cs : List CommentValue} {x : List ℕ} {o : Option ParsedNode} → Properties t n c i g p → Separate t n c g k cs
      → PlainText t n c k j x → Clear t k j → Parses t e (ANode n c i) o
      → Longest o j (meaning_after (p.comments ++ cs) (with_props p.props p.tag_offset i g (scalar PlainStyle (encode_utf8_all x) [] k j)))
  plain_with_longest {e} {i} {g} {k} {j} {p} {cs} {x} {o} d s q a r = go (past_properties d (λ h z y. properties_before u d s v (no_bar_properties (code t k) bar) y) r) where
    bar : is_bar (code t k) ≡ false
    bar = first_no_bar t c k (plain_leaps q).0

    v : Visible t k
    v = record { ns = first_is_ns t c k (plain_leaps q).0; no_hash = λ z. bar_no_hash (code t k) bar z }

    no_content : (m : ℕ) → m ≡ k → begins_content (code t m) ≡ true → ⊥
    no_content m z y = true≢false (sym y ∙ ap (λ w. begins_content (code t w)) z ∙ no_bar_content (code t k) bar)

    put : ℕ → List ℕ → Meaning
    put l y = meaning_after (p.comments ++ cs) (with_props p.props p.tag_offset i g (scalar PlainStyle (encode_utf8_all y) [] k l))

    go : PastProperties t e n c i g p o → Longest o j (put j x)
    go (past_to_content m ds h y z w eq) = absurd (no_content m (separate_is v (separated s) y).0 z)
    go (past_to_plain m l ds y z w f eq) =
        let one = separate_is v (separated s) z in
        let chosen : Chosen (Plain t n c k) l y = subst (λ h. Chosen (Plain t n c h) l y) one.0 f in
        let is : o ≡ found l 0 false (put l y) = eq
        ∙ ap (λ h. found l 0 false (meaning_after (p.comments ++ ds) (with_props p.props p.tag_offset i g (scalar PlainStyle (encode_utf8_all y) [] h l)))) one.0
        ∙ ap (λ h. found l 0 false (meaning_after (p.comments ++ h) (with_props p.props p.tag_offset i g (scalar PlainStyle (encode_utf8_all y) [] k l)))) one.1 in
        leaf_longest l y 0 false put j x (record { text = q; clear = a }) chosen is
    go (past_to_nothing z eq) = absurd (z.none k cs s)
    go (past_to_broken m ds y z w eq) = absurd (no_content m (separate_is v (separated s) y).0 z)
    go (past_to_other m ds y z w eq) =
        let one = separate_is v (separated s) y in
        absurd ((subst (λ h. Stuck (Plain t n c h)) one.0 w).none j x (record { text = q; clear = a }))

  -- each outcome reaches each node that is derived within the limit
  pub longest : {h e i j : ℕ} {json : Bool} {x : Meaning} {o : Option ParsedNode} → h ≤ e → Derives t h (NodeOf json n c) i j x → Clear t i j → Parses t e (ANode n c i) o → Longest o j x
  longest {i = i} {j = j} {x = x} l (an_alias y a) k r = exact_longest j 0 false x (node_alias a r)
  longest {i = i} {j = j} {x = x} {o = o} l (a_plain {x = y} p) k r =
      node_plain (λ q. Longest q j x) (no_bar_plain (code t i) (first_no_bar t c i (plain_leaps p).0)) (record { text = p; clear = k })
      (λ m z d. leaf_longest m z 0 false (λ w v. scalar PlainStyle (encode_utf8_all v) [] i w) j y (record { text = p; clear = k }) d (plain_is z i m)) r
  longest l (a_plain_with d s p) k r =
      let a = properties_forward d in
      let g = separate_forward s in
      plain_with_longest d s p (clear_back (omega arith) k) r
  longest l (properties_alone y d) k r = alone_longest d r
  longest {e = e} {j = j} {x = x} l (a_json d) k r =
      node_content (λ q. Longest q j x) (flow_starts d b).content (λ q p. reaches_longest (complete u d n c b same_context k e l q p)) r
  longest {e = e} {i = i} {j = j} {x = x} l (a_json_with {g = g} {p = p} {cs = cs} d s y) k r =
      let a = properties_forward d in
      let f = separate_forward s in
      let back = clear_back (omega arith) k in
      propertied_content (λ q. Longest q j x) u d s (flow_starts (a_json y) b).starts.visible (flow_starts y b).content
      (λ q. none_reaches (complete u y n c b same_context back e l None q))
      (λ w q. content_longest p cs i g (complete u y n c b same_context back e l (Some w) q)) r

  -- the outcome is the longest node
  pub longest_is_found : {h e i j : ℕ} {json : Bool} {x : Meaning} {f : ParsedNode} → h ≤ e → Derives t h (NodeOf json n c) i j x → Clear t i j → Parses t e (ANode n c i) (Some f)
      → (j < f.end) ⊎ ((j ≡ f.end) × (x ≡ f.meaning))
  longest_is_found {j = j} {x = x} {f = f} l d k r = let a = longest l d k r in subst (λ w. (j < w.end) ⊎ ((j ≡ w.end) × (x ≡ w.meaning))) (same a.is) a.far
    where
      same : {f g : ParsedNode} → Some f ≡ Some g → g ≡ f
      same e = cc

  -- if none is found, none is derived
  pub nothing_is_derived : {h e i j : ℕ} {json : Bool} {x : Meaning} → h ≤ e → Derives t h (NodeOf json n c) i j x → Clear t i j → Parses t e (ANode n c i) None → ⊥
  nothing_is_derived l d k r = none_some (longest l d k r).is
