-- A written implicit key with its `:` is derived as a key with its number of characters on its line, and its value
-- begins after them.
use Rattle.std.proofs.Common.{◌≡◌, ℕ, ◌+◌, ◌≤◌, pos, Bool, true, false, List, [], ◌∷◌, ◌++◌, length, sym, ap, ◌∙◌, subst, arith, length-append}
use Rattle.std.specs.Prelude.{is_some, if◌then◌else◌}
use Rattle.std.specs.Str.{IsUtf8, chars}
use Rattle.std.proofs.lemmas.Str.{chars-append}
use Rattle.yf_chars.specs.declared.context.Ctx.TheVariants.{BlockKey}
use Rattle.yf_chars.specs.Text.{code}
use Rattle.yf_lines.specs.LineText.{Follows, IsLineText}
use Rattle.yf_lines.proofs.RestLemmas.{Rest, line_nothing, rest_text}
use Rattle.yf_events.specs.Tree.{Node}
use Rattle.yf_grammar.specs.Productions.Grammar.{Derives, KeyOf, NodeOf}
use Rattle.yf_grammar.specs.Productions.OneLineTexts.{Back, follower}
use Rattle.yf_grammar.specs.Productions.Meaning.{Meaning}
use Rattle.yf_grammar.proofs.WrittenTexts.FlowBack.{colon_follows}
use Rattle.yf_grammar.proofs.WrittenTexts.LeafBack.{any_follow, space_follows}
use Rattle.yf_grammar.proofs.WrittenTexts.PairsBack.{key_back, key_apart_back}
use Rattle.yf_forms.specs.declared.style.Style.{Style}
use Rattle.yf_laws.specs.Layouts.ReadableTrees.{LineNode, ColonFits, colon_at_once, colon_apart}
use Rattle.yf_forms.specs.NormalForms.Normal.{LayoutSetting, Margins, key_comment, value_of_implicit}
use Rattle.yf_forms.specs.Nodes.OneLine.{width, written, colon_after}
use Rattle.yf_laws.proofs.Columns.LinePlaces.{OnLine, on_more, on_same}
use Rattle.yf_laws.proofs.Texts.LineUtf8.{space_chars, written_utf8}
use Rattle.yf_lines.proofs.VisibleLines.{visible_line, visible_at}

-- the `:` after a key, and what follows it
pub record KeyMade (t : List ℕ) (h : ℕ) (mean : Meaning) (q : ℕ) (z written_text : List ℕ) : Type 0 where
  pub json : Bool
  pub place : ℕ
  pub derived : Derives t h (KeyOf json BlockKey) q place mean
  pub colon : code t place ≡ 58
  pub rest : Rest t (place + 1) z
  pub width : q + length written_text ≡ place + 1

pub key_made : (house : Style) {t : List ℕ} {k : Node} (q : ℕ) (z : List ℕ) (text : List ℕ) (node : LineNode house BlockKey k) → ColonFits node.colon text → length (chars (written house k)) ≤ 1023 → IsUtf8 t
    → Rest t q (written house k ++ (text ++ z)) → KeyMade t node.height (node.mean q) q z (written house k ++ text)
key_made house {t} {k} q z text node (colon_at_once e) l u w =
    let back : Back node.json true BlockKey (written house k) node.height node.mean = subst (λ b. Back node.json b BlockKey (written house k) node.height node.mean) e node.back in
    let after_key = rest_text (written house k) u node.back.line w in
    let colon = visible_at 58 u (omega arith) (omega arith) after_key.rest in
    record { json = node.json; place = q + length (written house k); derived = key_back q (58 ∷ z) u back (omega arith) colon_follows w; colon = colon.0; rest = colon.1; width = let n : length (written house k ++ 58 ∷ []) ≡ length (written house k) + 1 = length-append (written house k) (58 ∷ []) in omega (arith, n) }
key_made house {t} {k} q z text node colon_apart l u w =
    let after_key = rest_text (written house k) u node.back.line w in
    let space = visible_at 32 u (omega arith) (omega arith) after_key.rest in
    let colon = visible_at 58 u (omega arith) (omega arith) space.1 in
    let parts : chars (written house k ++ 32 ∷ []) ≡ chars (written house k) ++ 32 ∷ [] =
    chars-append (written house k) (32 ∷ []) (written_utf8 (written house k) (32 ∷ 58 ∷ z) u w after_key.rest) ∙ ap (λ x. chars (written house k) ++ x) space_chars in
    let long : length (chars (written house k ++ 32 ∷ [])) ≡ length (chars (written house k)) + 1 = ap length parts ∙ length-append (chars (written house k)) (32 ∷ []) in
    record { json = node.json; place = q + length (written house k) + 1; derived = key_apart_back q (58 ∷ z) u node.back (omega (arith, long, l)) w; colon = colon.0; rest = colon.1; width = let n : length (written house k ++ 32 ∷ 58 ∷ []) ≡ length (written house k) + 2 = length-append (written house k) (32 ∷ 58 ∷ []) in omega (arith, n) }

-- the node of the key
pub key_node : (house : Style) {t : List ℕ} {k : Node} (q : ℕ) (z : List ℕ) (text : List ℕ) (node : LineNode house BlockKey k) → ColonFits node.colon text → IsUtf8 t → Rest t q (written house k ++ (text ++ z))
    → Derives t node.height (NodeOf node.json (pos 0) BlockKey) q (q + length (written house k)) (node.mean q)
key_node house q z text node (colon_at_once e) u w = node.back.made (pos 0) q (58 ∷ z) u (subst (λ b. Follows (follower b) (58 ∷ z)) (sym e) colon_follows) w
key_node house q z text node colon_apart u w = node.back.made (pos 0) q (32 ∷ 58 ∷ z) u (any_follow node.colon space_follows) w

pub colon_line : {b : Bool} {text : List ℕ} → ColonFits b text → IsLineText text
colon_line (colon_at_once e) = visible_line 58 (omega arith) (omega arith) line_nothing
colon_line colon_apart = visible_line 32 (omega arith) (omega arith) (visible_line 58 (omega arith) (omega arith) line_nothing)

-- that many characters further on the line
pub over_key : {t : List ℕ} {column q : ℕ} (i : ℕ) (key colon z : List ℕ) → IsUtf8 t → IsLineText key → IsLineText colon → Rest t q (key ++ (colon ++ z)) → q + length (key ++ colon) ≡ i + 1 → OnLine t column q
    → OnLine t (column + (width key + width colon)) (i + 1)
over_key i key colon z u a b w e on =
    let first = on_more key (colon ++ z) u a on w in
    let second = on_more colon z u b first (rest_text key u a w).rest in
    on_same (omega arith) (let l = length-append key colon in omega (arith, l, e)) second

-- the column at which its value begins
pub value_right : (s : LayoutSetting) (margins : Margins) (column : ℕ) (k v : Node) (b : Bool) → margins ≡ value_of_implicit s column k v → b ≡ is_some (key_comment s.comments k v) → b ≡ false
    → margins.column ≡ column + (width (written s.style k) + width (colon_after k)) + 1
value_right s margins column k v b e flag f =
    ap (λ z. z.column) e ∙ (ap (λ z. if z then column + s.style.indent else column + width (written s.style k) + width (colon_after k) + 1) (sym flag ∙ f) ∙ omega arith)
