-- The reader finds a node before the text that ends it exactly as it is derived.
use Rattle.std.proofs.Common.{◌≡◌, ◌≢◌, ℕ, ℤ, ◌+◌, Bool, true, false, ⊎_elim, List, [], ◌++◌, Option, refl, sym, ap, ◌∙◌, subst, arith, true≢false, encode_utf8_all}
use Rattle.std.proofs.lemmas.Bool.{cases_eq}
use Rattle.std.proofs.lemmas.Bool.Decides.{nat_tests}
use Rattle.std.proofs.Math.Bool.{and-false}
use Rattle.std.specs.Str.{IsUtf8}
use Rattle.yf_chars.specs.declared.context.Ctx.{Ctx}
use Rattle.yf_chars.specs.declared.context.Ctx.TheVariants.{BlockOut, BlockIn, FlowOut, FlowIn, BlockKey, FlowKey}
use Rattle.yf_chars.specs.Text.{code}
use Rattle.yf_chars.specs.Class.{is_ns_char, is_nb_char, is_printable, is_between, is_break_char, is_white, is_plain_safe, is_flow_indicator}
use Rattle.yf_chars.specs.Chain.{Stuck, Chosen}
use Rattle.yf_lines.specs.Basic.{Clear}
use Rattle.yf_comments.specs.Comment.{CommentValue}
use Rattle.yf_comments.specs.Comments.{Separate}
use Rattle.yf_events.specs.declared.event.ScalarStyle.TheVariants.{Plain as PlainStyle}
use Rattle.yf_plain.specs.Plain.{is_plain_first, is_plain_char, PlainText, Plain}
use Rattle.yf_plain.specs.Kept.{is_inside}
use Rattle.yf_plain.proofs.PlainLemmas.{plain_colon, plain_other, first_is_ns}
use Rattle.yf_props.specs.Names.{Properties, PropertiesValue}
use Rattle.yf_grammar.specs.Productions.Meaning.{meaning_after, scalar, empty_node, with_props}
use Rattle.yf_grammar.specs.Productions.Grammar.{MaySeparate, MayBeColon}
use Rattle.yf_grammar.specs.Productions.Grammar.MaySeparate.{unseparated, separated}
use Rattle.yf_grammar.specs.FlowReader.Parser.{ParsedNode, found, ANode, Parses, begins_content, lone_properties, plain_found}
use Rattle.yf_grammar.proofs.Ends.GapLemmas.{Visible, separate_is, separate_still}
use Rattle.yf_grammar.proofs.FlowReader.PlainEnds.{plain_leaps, plain_ends, first_no_bar, no_bar_plain, no_bar_content, no_bar_properties, first_colon, is_bar}
use Rattle.yf_grammar.proofs.FlowReader.PropertiesEnds.{properties_before, properties_alone_before, is_stop, stop_ns, stop_not_hash}
use Rattle.yf_grammar.proofs.FlowReader.FlowStarts.{is_end, bar_no_hash}
use Rattle.yf_grammar.proofs.Ends.NodeExits.{node_plain, past_properties, PastProperties, past_to_content, past_to_plain, past_to_nothing, past_to_broken, past_to_other}

-- the end of an entry, or the `:` after a key of that kind, follows the offset
pub record Followed (t : List ℕ) (n : ℤ) (c : Ctx) (json : Bool) (j : ℕ) : Type 0 where
  pub place : ℕ
  pub comments : List CommentValue
  pub gap : MaySeparate t n c j place comments
  pub stop : is_stop (code t place) ≡ true
  pub colon : code t place ≡ 58 → MayBeColon json t (place + 1) c

-- the end of an entry follows the offset
pub record Ending (t : List ℕ) (n : ℤ) (c : Ctx) (j : ℕ) : Type 0 where
  pub place : ℕ
  pub comments : List CommentValue
  pub gap : MaySeparate t n c j place comments
  pub ends : is_end (code t place) ≡ true

pub end_stop : (c : ℕ) → is_end c ≡ true → is_stop c ≡ true
unfolding is_end is_stop
end_stop c e = grind (arith, nat_tests)

pub end_no_colon : (c : ℕ) → is_end c ≡ true → c ≢ 58
unfolding is_end
end_no_colon c e q = grind (arith, nat_tests)

stop_flow : (c : ℕ) → is_stop c ≡ true → c ≢ 58 → is_flow_indicator c ≡ true
unfolding is_stop is_flow_indicator
stop_flow c e n = grind (arith, nat_tests)

stop_bar : (c : ℕ) → is_stop c ≡ true → c ≢ 58 → is_bar c ≡ true
unfolding is_stop is_bar
stop_bar c e n = grind (arith, nat_tests)

stop_no_content : (c : ℕ) → is_stop c ≡ true → begins_content c ≡ false
unfolding is_stop begins_content
stop_no_content c e = grind (arith, nat_tests)

stop_no_quote : (c : ℕ) → is_stop c ≡ true → c ≢ 39
unfolding is_stop
stop_no_quote c e q = grind (arith, nat_tests)

quote_ns : (c : ℕ) → c ≡ 39 → is_ns_char c ≡ true
unfolding is_ns_char is_nb_char is_printable is_between is_break_char is_white
quote_ns c e = ap is_ns_char e

pub ending_followed : {t : List ℕ} {n : ℤ} {c : Ctx} {j : ℕ} (json : Bool) → Ending t n c j → Followed t n c json j
ending_followed {t} json e = record {
  place = e.place;
  comments = e.comments;
  gap = e.gap;
  stop = end_stop (code t e.place) e.ends;
  colon = λ q. absurd (end_no_colon (code t e.place) e.ends q);
}

flow_not_safe : (x : ℕ) (c : Ctx) → is_inside c ≡ true → is_flow_indicator x ≡ true → is_plain_safe x c ≡ false
unfolding is_plain_safe
flow_not_safe x BlockOut i e = refl
flow_not_safe x BlockIn i e = refl
flow_not_safe x FlowOut i e = absurd (true≢false (sym i))
flow_not_safe x FlowIn i e = rw (e, and-false (is_ns_char x)) refl
flow_not_safe x BlockKey i e = absurd (true≢false (sym i))
flow_not_safe x FlowKey i e = rw (e, and-false (is_ns_char x)) refl

stop_no_char : (t : List ℕ) (c : Ctx) (l : ℕ) → is_inside c ≡ true → is_stop (code t l) ≡ true → (code t l ≡ 58 → MayBeColon false t (l + 1) c) → is_plain_char t c l ≡ false
stop_no_char t c l i e m = ⊎_elim
    (λ (q : code t l ≡ 58). plain_colon t c l q ∙ m q)
    (λ (q : code t l ≢ 58). plain_other t c l q (stop_not_hash (code t l) e) ∙ flow_not_safe (code t l) c i (stop_flow (code t l) e q))
    (cases_eq (code t l) 58)

pub stop_no_first : (t : List ℕ) (c : Ctx) (l : ℕ) → is_stop (code t l) ≡ true → (code t l ≡ 58 → MayBeColon false t (l + 1) c) → is_plain_first t c l ≡ true → ⊥
stop_no_first t c l e m f = ⊎_elim
    (λ (q : code t l ≡ 58). true≢false (sym f ∙ first_colon t c l q ∙ m q))
    (λ (q : code t l ≢ 58). true≢false (sym (stop_bar (code t l) e q) ∙ first_no_bar t c l f))
    (cases_eq (code t l) 58)

module _ {t : List ℕ} where
  pub stop_visible : (l : ℕ) → is_stop (code t l) ≡ true → Visible t l
  stop_visible l e = record { ns = stop_ns (code t l) e; no_hash = stop_not_hash (code t l) e }

  -- no quote is at such an offset
  pub followed_no_quote : {n : ℤ} {c : Ctx} {json : Bool} {j : ℕ} → Followed t n c json j → code t j ≢ 39
  followed_no_quote {n} {c} {json} {j} f q = go f.gap f.stop where
    go : {l : ℕ} {cs : List CommentValue} → MaySeparate t n c j l cs → is_stop (code t l) ≡ true → ⊥
    go unseparated s = stop_no_quote (code t j) s q
    go {l} (separated r) s =
        let v : Visible t j = record { ns = quote_ns (code t j) q; no_hash = λ p. omega arith } in
        let e = (separate_still v r).0 in
        stop_no_quote (code t l) s (ap (code t) e ∙ q)

pub lone_is : (p : PropertiesValue) (i g : ℕ) → lone_properties p i g ≡ found g 0 false (meaning_after p.comments (with_props p.props p.tag_offset i g (empty_node g)))
unfolding lone_properties
lone_is p i g = refl

pub plain_is : (x : List ℕ) (i j : ℕ) → plain_found x i j ≡ found j 0 false (scalar PlainStyle (encode_utf8_all x) [] i j)
unfolding plain_found
plain_is x i j = refl

plain_same : (i : ℕ) {j k : ℕ} {x y : List ℕ} → (k ≡ j) × (y ≡ x) → plain_found y i k ≡ found j 0 false (scalar PlainStyle (encode_utf8_all x) [] i j)
plain_same i {j} {k} {x} {y} s = ap (λ w. plain_found y i w) s.0 ∙ ap (λ w. plain_found w i j) s.1 ∙ plain_is x i j

-- likewise, if the end of the plain scalar is known
module _ {t : List ℕ} (u : IsUtf8 t) {n : ℤ} {c : Ctx} where
  plain_first_of : {i j : ℕ} {x : List ℕ} → PlainText t n c i j x → is_bar (code t i) ≡ false
  plain_first_of {i} p = first_no_bar t c i (plain_leaps p).0

  pub plain_agreed : {e i j : ℕ} {x : List ℕ} {o : Option ParsedNode} → PlainText t n c i j x → Clear t i j
      → ((l : ℕ) (y : List ℕ) → Chosen (Plain t n c i) l y → (l ≡ j) × (y ≡ x)) → Parses t e (ANode n c i) o
      → o ≡ found j 0 false (scalar PlainStyle (encode_utf8_all x) [] i j)
  plain_agreed {i = i} {j = j} {x = x} p a f r =
      node_plain (λ q. q ≡ found j 0 false (scalar PlainStyle (encode_utf8_all x) [] i j)) (no_bar_plain (code t i) (plain_first_of p))
      (record { text = p; clear = a }) (λ k y d. plain_same i (f k y d)) r

  pub plain_with_agreed : {e i g k j : ℕ} {p : PropertiesValue} {cs : List CommentValue} {x : List ℕ} {o : Option ParsedNode} → Properties t n c i g p
      → Separate t n c g k cs → PlainText t n c k j x → Clear t k j → ((l : ℕ) (y : List ℕ) → Chosen (Plain t n c k) l y → (l ≡ j) × (y ≡ x))
      → Parses t e (ANode n c i) o
      → o ≡ found j 0 false (meaning_after (p.comments ++ cs) (with_props p.props p.tag_offset i g (scalar PlainStyle (encode_utf8_all x) [] k j)))
  plain_with_agreed {e} {i} {g} {k} {j} {p} {cs} {x} {o} d s q a f r = go (past_properties d (λ h z b. properties_before u d s v (no_bar_properties (code t k) bar) b) r) where
    bar : is_bar (code t k) ≡ false
    bar = plain_first_of q

    v : Visible t k
    v = record { ns = first_is_ns t c k (plain_leaps q).0; no_hash = λ z. bar_no_hash (code t k) bar z }

    no_content : (m : ℕ) → m ≡ k → begins_content (code t m) ≡ true → ⊥
    no_content m z b = true≢false (sym b ∙ ap (λ w. begins_content (code t w)) z ∙ no_bar_content (code t k) bar)

    go : PastProperties t e n c i g p o → o ≡ found j 0 false (meaning_after (p.comments ++ cs) (with_props p.props p.tag_offset i g (scalar PlainStyle (encode_utf8_all x) [] k j)))
    go (past_to_content m ds h b y z w) = absurd (no_content m (separate_is v (separated s) b).0 y)
    go (past_to_plain m l ds y b z w eq) =
        let one = separate_is v (separated s) b in
        let two = f l y (subst (λ h. Chosen (Plain t n c h) l y) one.0 w) in
        let e1 : m ≡ k = one.0 in
        let e2 : ds ≡ cs = one.1 in
        let e3 : l ≡ j = two.0 in
        let e4 : y ≡ x = two.1 in
        cc
    go (past_to_nothing z eq) = absurd (z.none k cs s)
    go (past_to_broken m ds b y z eq) = absurd (no_content m (separate_is v (separated s) b).0 y)
    go (past_to_other m ds b y z eq) =
        let one = separate_is v (separated s) b in
        absurd ((subst (λ h. Stuck (Plain t n c h)) one.0 z).none j x (record { text = q; clear = a }))

  pub alone_exact : {e i j : ℕ} {p : PropertiesValue} {o : Option ParsedNode} → Properties t n c i j p → Followed t n c false j → Parses t e (ANode n c i) o
      → o ≡ found j 0 false (meaning_after p.comments (with_props p.props p.tag_offset i j (empty_node j)))
  alone_exact {e} {i} {j} {p} {o} d f r = go (past_properties d (λ h z b. properties_alone_before u d f.gap v f.stop b) r) where
    v : Visible t f.place
    v = stop_visible f.place f.stop

    go : PastProperties t e n c i j p o → o ≡ found j 0 false (meaning_after p.comments (with_props p.props p.tag_offset i j (empty_node j)))
    go (past_to_content m ds h b y z w) =
        let q = (separate_is v f.gap b).0 in
        absurd (true≢false (sym y ∙ ap (λ w. begins_content (code t w)) q ∙ stop_no_content (code t f.place) f.stop))
    go (past_to_plain m l ds y b z w eq) =
        let q = (separate_is v f.gap b).0 in
        let w' = subst (λ h. Chosen (Plain t n c h) l y) q w in
        absurd (stop_no_first t c f.place f.stop f.colon (plain_leaps w'.derived.text).0)
    go (past_to_nothing z eq) = eq ∙ lone_is p i j
    go (past_to_broken m ds b y z eq) = eq ∙ lone_is p i j
    go (past_to_other m ds b y z eq) = eq ∙ lone_is p i j

module _ {t : List ℕ} (u : IsUtf8 t) {n : ℤ} {c : Ctx} (inside : is_inside c ≡ true) where
  -- the longest plain scalar is the derived one
  plain_agrees : {i j k : ℕ} {x y : List ℕ} → PlainText t n c i j x → Clear t i j → Followed t n c false j → Chosen (Plain t n c i) k y → (k ≡ j) × (y ≡ x)
  plain_agrees p a f d = plain_ends u p a f.gap (stop_ns (code t f.place) f.stop) (stop_no_char t c f.place inside f.stop f.colon) d

  pub plain_exact : {e i j : ℕ} {x : List ℕ} {o : Option ParsedNode} → PlainText t n c i j x → Clear t i j → Followed t n c false j → Parses t e (ANode n c i) o
      → o ≡ found j 0 false (scalar PlainStyle (encode_utf8_all x) [] i j)
  plain_exact p a f r = plain_agreed u p a (λ l y d. plain_agrees p a f d) r

  pub plain_with_exact : {e i g k j : ℕ} {p : PropertiesValue} {cs : List CommentValue} {x : List ℕ} {o : Option ParsedNode} → Properties t n c i g p → Separate t n c g k cs
      → PlainText t n c k j x → Clear t k j → Followed t n c false j → Parses t e (ANode n c i) o
      → o ≡ found j 0 false (meaning_after (p.comments ++ cs) (with_props p.props p.tag_offset i g (scalar PlainStyle (encode_utf8_all x) [] k j)))
  plain_with_exact d s q a f r = plain_with_agreed u d s q a (λ l y z. plain_agrees q a f z) r
