-- Leaves on one line, with properties or without, are derived at each offset.
use Rattle.std.proofs.Common.{◌≡◌, ◌≢◌, ℕ, ◌+◌, ℤ, Bool, true, false, List, [], ◌∷◌, ◌++◌, None, length, refl, ap, subst, arith, append_assoc, append-nil, encode_utf8_all}
use Rattle.std.proofs.lemmas.List.{length-append}
use Rattle.std.specs.Str.{IsUtf8}
use lib.Utf8.{scalars}
use Rattle.yf_chars.specs.declared.context.Ctx.{Ctx}
use Rattle.yf_chars.specs.Class.{is_nb_char, is_printable, is_between, is_break_char}
use Rattle.yf_lines.specs.Basic.{is_block}
use Rattle.yf_lines.specs.LineText.{IsLineText, Follows, is_after_name, is_after_text}
use Rattle.yf_lines.specs.LineText.Follows.{byte_follows}
use Rattle.yf_lines.proofs.RestLemmas.{Rest, rest_is_at, rest_text, rest_ascii, follows_text, line_append, line_ascii}
use Rattle.yf_comments.specs.Comments.{Separate}
use Rattle.yf_comments.proofs.SpaceLemmas.{space_separates}
use Rattle.yf_plain.specs.Kept.{IsPlain}
use Rattle.yf_plain.proofs.PlainBack.{plain_text_back, plain_line_text}
use Rattle.yf_quoted.specs.Quoted.{text_of}
use Rattle.yf_quoted.specs.Written.{DoubleBack, all_nb, single_bytes}
use Rattle.yf_quoted.proofs.QuotedBack.{single_line_text, single_is_at, double_there}
use Rattle.yf_props.specs.Props.{PropsValue, no_props}
use Rattle.yf_props.specs.Names.{Properties}
use Rattle.yf_props.specs.Written.{IsName, IsProps, alias_bytes, props_bytes, tag_offset_at, props_at}
use Rattle.yf_props.proofs.NamesBack.{alias_back}
use Rattle.yf_props.proofs.PropsBack.{props_back}
use Rattle.yf_props.proofs.PropsLines.{alias_line_text, props_line_text}
use Rattle.yf_events.specs.declared.event.ScalarStyle.TheVariants.{Plain, Single, Double}
use Rattle.yf_grammar.specs.Productions.Grammar.{Derives, NodeOf, JsonContent, bad_escapes}
use Rattle.yf_grammar.specs.Productions.Grammar.Derives.{an_alias, a_plain, a_plain_with, properties_alone, a_json, a_json_with, a_single, a_double}
use Rattle.yf_grammar.specs.Productions.Meaning.{Meaning, meaning_after, noting, scalar, alias_to, empty_node, with_props}
use Rattle.yf_grammar.specs.Productions.OneLineTexts.{follower, Back, JsonBack}
use Rattle.yf_chars.proofs.CharFacts.{space_nb}
use Rattle.yf_grammar.proofs.FlowReader.ParserLemmas.{after_nothing}

pub noting_nothing : (x : Meaning) → noting x [] ≡ x
unfolding noting
noting_nothing x = ap (λ cs. record x { comments = cs }) (append-nil x.comments)

-- the text after a leaf
pub space_follows : {r : List ℕ} → Follows is_after_name (32 ∷ r)
unfolding is_after_name
space_follows = byte_follows (omega arith) refl

pub any_follow : (b : Bool) {r : List ℕ} → Follows is_after_name r → Follows (follower b) r
any_follow true f = follows_text f
any_follow false f = f

pub space_line : {w : List ℕ} → IsLineText w → IsLineText (32 ∷ w)
space_line a = line_ascii 32 (omega arith) space_nb a

-- aliases and plain scalars
pub alias_node_back : (c : Ctx) {name : List ℕ} → is_block c ≡ false → IsName name → Back false false c (alias_bytes name) 0 (λ q. alias_to name q (q + length (alias_bytes name)))
alias_node_back c b k = record { line = alias_line_text k; made = λ n q r u f s. an_alias b (alias_back r u k f (rest_is_at s)) }

pub plain_node_back : (c : Ctx) {w : List ℕ} → is_block c ≡ false → IsPlain c w → Back false true c w 0 (λ q. scalar Plain w [] q (q + length w))
plain_node_back c {w} b p = record { line = plain_line_text p; made = made } where
  made : {t : List ℕ} (n : ℤ) (q : ℕ) (r : List ℕ) → IsUtf8 t → Follows is_after_text r → Rest t q (w ++ r) → Derives t 0 (NodeOf false n c) q (q + length w) (scalar Plain w [] q (q + length w))
  made {t} n q r u f s =
      subst (λ v. Derives t 0 (NodeOf false n c) q (q + length w) (scalar Plain v [] q (q + length w))) p.bytes (a_plain (plain_text_back n r u b p (rest_is_at s)))

-- quoted scalars
pub single_json_back : (c : Ctx) (cs : List ℕ) → is_block c ≡ false → all_nb cs ≡ true
    → JsonBack c (single_bytes cs) 0 (λ q. scalar Single (encode_utf8_all cs) [] q (q + length (single_bytes cs)))
single_json_back c cs b a = record { line = single_line_text cs a; made = λ n q r u s. a_single (single_is_at n c cs r u b a (rest_is_at s)) }

pub double_json_back : (c : Ctx) {w : List ℕ} (cs : List ℕ) → is_block c ≡ false → IsLineText w → DoubleBack w cs
    → JsonBack c w 0 (λ q. scalar Double (encode_utf8_all cs) [] q (q + length w))
double_json_back c {w} cs b line back = record { line = line; made = made } where
  made : {t : List ℕ} (n : ℤ) (q : ℕ) (r : List ℕ) → IsUtf8 t → Rest t q (w ++ r)
      → Derives t 0 (JsonContent n c) q (q + length w) (scalar Double (encode_utf8_all cs) [] q (q + length w))
  made {t} n q r u s =
      let got = double_there n c r back u b (rest_is_at s) in
      let whole : Derives t 0 (JsonContent n c) q (q + length w) (scalar Double (encode_utf8_all (text_of got.pieces)) (bad_escapes got.pieces) q (q + length w)) =
      a_double got.derived in
      subst (λ v. Derives t 0 (JsonContent n c) q (q + length w) (scalar Double (encode_utf8_all cs) v q (q + length w))) got.no_bad
      (subst (λ v. Derives t 0 (JsonContent n c) q (q + length w) (scalar Double (encode_utf8_all v) (bad_escapes got.pieces) q (q + length w))) got.text whole)

pub json_back : {c : Ctx} {w : List ℕ} {height : ℕ} {mean : ℕ → Meaning} → JsonBack c w height mean → Back true true c w height mean
json_back b = record { line = b.line; made = λ n q r u f s. a_json (b.made n q r u s) }

-- properties, a space, and the text after it
pub record Propertied (t : List ℕ) (n : ℤ) (c : Ctx) (p : PropsValue) (q : ℕ) (r : List ℕ) : Type 0 where
  pub properties : Properties t n c q (q + length (props_bytes p)) (props_at q p)
  pub separate : Separate t n c (q + length (props_bytes p)) (q + length (props_bytes p) + 1) []
  pub rest : Rest t (q + length (props_bytes p) + 1) r

pub propertied : {t : List ℕ} (n : ℤ) (c : Ctx) {p : PropsValue} (r : List ℕ) {q : ℕ} → IsUtf8 t → IsProps p → p ≢ no_props → Rest t q (props_bytes p ++ (32 ∷ r))
    → Propertied t n c p q r
propertied {t} n c {p} r {q} u k some s =
    let at = rest_text (props_bytes p) u (props_line_text k) s in
    let space = rest_ascii 32 u (omega arith) (λ e. absurd (omega arith)) at.rest in
    record {
      properties = props_back n c (32 ∷ r) u k some space_follows (rest_is_at s);
      separate = space_separates n c (q + length (props_bytes p)) space.0.char;
      rest = space.1;
    }

pub props_node_back : (c : Ctx) {p : PropsValue} → is_block c ≡ false → IsProps p → p ≢ no_props
    → Back false false c (props_bytes p) 0 (λ q. with_props p (tag_offset_at q p.anchor p.tag) q (q + length (props_bytes p)) (empty_node (q + length (props_bytes p))))
props_node_back c {p} b k some = record { line = props_line_text k; made = made } where
  made : {t : List ℕ} (n : ℤ) (q : ℕ) (r : List ℕ) → IsUtf8 t → Follows is_after_name r → Rest t q (props_bytes p ++ r)
      → Derives t 0 (NodeOf false n c) q (q + length (props_bytes p)) (with_props p (tag_offset_at q p.anchor p.tag) q (q + length (props_bytes p)) (empty_node (q + length (props_bytes p))))
  made {t} n q r u f s =
      subst (λ v. Derives t 0 (NodeOf false n c) q (q + length (props_bytes p)) v) (after_nothing _) (properties_alone b (props_back n c r u k some f (rest_is_at s)))

props_length : (p : PropsValue) (w : List ℕ) (q : ℕ) → q + length (props_bytes p) + 1 + length w ≡ q + length (props_bytes p ++ (32 ∷ w))
props_length p w q = omega (arith, length-append (props_bytes p) (32 ∷ w))

pub plain_props_back : (c : Ctx) {p : PropsValue} {w : List ℕ} → is_block c ≡ false → IsProps p → p ≢ no_props → IsPlain c w
    → Back false true c (props_bytes p ++ (32 ∷ w)) 0
    (λ q. with_props p (tag_offset_at q p.anchor p.tag) q (q + length (props_bytes p)) (scalar Plain w [] (q + length (props_bytes p) + 1) (q + length (props_bytes p ++ (32 ∷ w)))))
plain_props_back c {p} {w} b k some plain = record { line = line_append (props_line_text k) (space_line (plain_line_text plain)); made = made } where
  made : {t : List ℕ} (n : ℤ) (q : ℕ) (r : List ℕ) → IsUtf8 t → Follows is_after_text r → Rest t q ((props_bytes p ++ (32 ∷ w)) ++ r)
      → Derives t 0 (NodeOf false n c) q (q + length (props_bytes p ++ (32 ∷ w)))
      (with_props p (tag_offset_at q p.anchor p.tag) q (q + length (props_bytes p)) (scalar Plain w [] (q + length (props_bytes p) + 1) (q + length (props_bytes p ++ (32 ∷ w)))))
  made {t} n q r u f s =
      let at = propertied n c (w ++ r) u k some (subst (λ v. Rest t q v) (append_assoc (props_bytes p) (32 ∷ w) r) s) in
      let g : ℕ = q + length (props_bytes p) in
      let text = plain_text_back n r u b plain (rest_is_at at.rest) in
      let whole : Derives t 0 (NodeOf false n c) q (q + length (props_bytes p) + 1 + length w)
      (with_props p (tag_offset_at q p.anchor p.tag) q (q + length (props_bytes p)) (scalar Plain (encode_utf8_all plain.chars) [] (q + length (props_bytes p) + 1) (q + length (props_bytes p) + 1 + length w))) =
      subst (λ v. Derives t 0 (NodeOf false n c) q (q + length (props_bytes p) + 1 + length w) v) (after_nothing _) (a_plain_with at.properties at.separate text) in
      subst (λ j. Derives t 0 (NodeOf false n c) q j (with_props p (tag_offset_at q p.anchor p.tag) q (q + length (props_bytes p)) (scalar Plain w [] (q + length (props_bytes p) + 1) j))) (props_length p w q)
      (subst (λ v. Derives t 0 (NodeOf false n c) q (q + length (props_bytes p) + 1 + length w)
      (with_props p (tag_offset_at q p.anchor p.tag) q (q + length (props_bytes p)) (scalar Plain v [] (q + length (props_bytes p) + 1) (q + length (props_bytes p) + 1 + length w)))) plain.bytes whole)

pub json_props_back : {c : Ctx} {p : PropsValue} {w : List ℕ} {height : ℕ} {mean : ℕ → Meaning} → IsProps p → p ≢ no_props → JsonBack c w height mean
    → Back true true c (props_bytes p ++ (32 ∷ w)) height
    (λ q. with_props p (tag_offset_at q p.anchor p.tag) q (q + length (props_bytes p)) (mean (q + length (props_bytes p) + 1)))
json_props_back {c} {p} {w} {height} {mean} k some b = record { line = line_append (props_line_text k) (space_line b.line); made = made } where
  made : {t : List ℕ} (n : ℤ) (q : ℕ) (r : List ℕ) → IsUtf8 t → Follows is_after_text r → Rest t q ((props_bytes p ++ (32 ∷ w)) ++ r)
      → Derives t height (NodeOf true n c) q (q + length (props_bytes p ++ (32 ∷ w)))
      (with_props p (tag_offset_at q p.anchor p.tag) q (q + length (props_bytes p)) (mean (q + length (props_bytes p) + 1)))
  made {t} n q r u f s =
      let at = propertied n c (w ++ r) u k some (subst (λ v. Rest t q v) (append_assoc (props_bytes p) (32 ∷ w) r) s) in
      let inner = b.made n (q + length (props_bytes p) + 1) r u at.rest in
      subst (λ j. Derives t height (NodeOf true n c) q j (with_props p (tag_offset_at q p.anchor p.tag) q (q + length (props_bytes p)) (mean (q + length (props_bytes p) + 1)))) (props_length p w q)
      (subst (λ v. Derives t height (NodeOf true n c) q (q + length (props_bytes p) + 1 + length w) v) (after_nothing _) (a_json_with at.properties at.separate inner))
