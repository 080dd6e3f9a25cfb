-- A part that is derived in a key inside of a flow collection is derived in each context of one, and a part in a key of
-- a block mapping is derived in a flow node. So the reader reads keys once, as nodes.
use Rattle.std.proofs.Common.{◌≡◌, ℕ, ℤ, Bool, true, false, ⊎_elim, List, [], refl, sym, ◌∙◌, subst, true≢false, append-nil}
use Rattle.std.proofs.lemmas.Bool.{cases_Bool}
use Rattle.std.specs.Str.{IsUtf8}
use Rattle.yf_chars.specs.declared.context.Ctx.{Ctx}
use Rattle.yf_chars.specs.declared.context.Ctx.TheVariants.{BlockOut, BlockIn, FlowOut, FlowIn, BlockKey, FlowKey}
use Rattle.yf_chars.specs.Text.{code}
use Rattle.yf_chars.specs.Class.{is_plain_safe}
use Rattle.yf_chars.specs.Chain.{Chain}
use Rattle.yf_chars.specs.Chain.Chain.{done, step}
use Rattle.yf_lines.specs.Basic.{is_block, is_key, SeparateInLine}
use Rattle.yf_comments.specs.Comment.{CommentValue}
use Rattle.yf_comments.specs.Comments.{Separate}
use Rattle.yf_comments.specs.Comments.SeparateLines.{in_line}
use Rattle.yf_comments.specs.Comments.Separate.{in_key, in_node}
use Rattle.yf_plain.specs.Plain.{is_plain_first, is_plain_char, PlainItem, PlainLine, PlainText}
use Rattle.yf_plain.specs.Plain.PlainItem.{set_off}
use Rattle.yf_plain.specs.Plain.PlainLine.{one_line}
use Rattle.yf_plain.specs.Plain.PlainText.{as_key, as_lines}
use Rattle.yf_plain.specs.Kept.{is_inside}
use Rattle.yf_props.specs.Names.{Properties, PropertiesValue}
use Rattle.yf_props.specs.Names.Properties.{by_tag, by_anchor, tag_first, anchor_first}
use Rattle.yf_quoted.specs.Quoted.{SingleQuoted, DoubleQuoted, Piece}
use Rattle.yf_grammar.specs.Productions.Grammar.{MaySeparate, MaySeparateInLine, MayBeColon, ValueSeparate, in_flow}
use Rattle.yf_grammar.specs.Productions.Grammar.MaySeparate.{unseparated, separated}
use Rattle.yf_grammar.specs.Productions.Grammar.MaySeparateInLine.{unseparated_in_line, separated_in_line}
use Rattle.yf_grammar.proofs.FlowReader.QuotedEnds.{single_widened, double_widened}

-- parts of the first indentation and context are derived at the second: parts of a key inside of a flow collection in
-- each context there, and parts of a key of a block mapping in a flow node outside of brackets
pub data Wider : ℤ → Ctx → ℤ → Ctx → Type 0 where
  same_context : {n : ℤ} {c : Ctx} → Wider n c n c
  from_key : {n m : ℤ} {d : Ctx} → is_inside d ≡ true → Wider n FlowKey m d
  from_block_key : {n m : ℤ} → Wider n BlockKey m FlowOut

pub inside_not_block : (d : Ctx) → is_inside d ≡ true → is_block d ≡ false
inside_not_block BlockOut e = absurd (true≢false (sym e))
inside_not_block BlockIn e = absurd (true≢false (sym e))
inside_not_block FlowOut e = refl
inside_not_block FlowIn e = refl
inside_not_block BlockKey e = refl
inside_not_block FlowKey e = refl

pub in_flow_inside : (d : Ctx) → is_block d ≡ false → is_inside (in_flow d) ≡ true
in_flow_inside BlockOut e = absurd (true≢false e)
in_flow_inside BlockIn e = absurd (true≢false e)
in_flow_inside FlowOut e = refl
in_flow_inside FlowIn e = refl
in_flow_inside BlockKey e = refl
in_flow_inside FlowKey e = refl

pub wider_in : {n m : ℤ} {c d : Ctx} → Wider n c m d → Wider n (in_flow c) m (in_flow d)
wider_in same_context = same_context
wider_in (from_key {d = d} e) = from_key (in_flow_inside d (inside_not_block d e))
wider_in from_block_key = from_key refl

pub safe_same : (x : ℕ) (d : Ctx) → is_inside d ≡ true → is_plain_safe x FlowKey ≡ is_plain_safe x d
unfolding is_plain_safe
safe_same x BlockOut e = absurd (true≢false (sym e))
safe_same x BlockIn e = absurd (true≢false (sym e))
safe_same x FlowOut e = absurd (true≢false (sym e))
safe_same x FlowIn e = refl
safe_same x BlockKey e = absurd (true≢false (sym e))
safe_same x FlowKey e = refl

block_safe : (x : ℕ) → is_plain_safe x BlockKey ≡ is_plain_safe x FlowOut
unfolding is_plain_safe
block_safe x = refl

pub wider_safe : {n m : ℤ} {c d : Ctx} (x : ℕ) → Wider n c m d → is_plain_safe x c ≡ is_plain_safe x d
wider_safe x same_context = refl
wider_safe x (from_key {d = d} e) = safe_same x d e
wider_safe x from_block_key = block_safe x

pub wider_colon : {n m : ℤ} {c d : Ctx} (json : Bool) (t : List ℕ) (i : ℕ) → Wider n c m d → MayBeColon json t i c → MayBeColon json t i d
wider_colon true t i w m = m
wider_colon false t i w m = sym (wider_safe (code t i) w) ∙ m

char_same : (t : List ℕ) (h : ℕ) → is_plain_char t FlowKey h ≡ is_plain_char t FlowIn h
unfolding is_plain_char is_plain_safe
char_same t h = refl

pub block_char : (t : List ℕ) (h : ℕ) → is_plain_char t BlockKey h ≡ is_plain_char t FlowOut h
unfolding is_plain_char is_plain_safe
block_char t h = refl

pub block_first : (t : List ℕ) (h : ℕ) → is_plain_first t BlockKey h ≡ is_plain_first t FlowOut h
unfolding is_plain_first is_plain_safe
block_first t h = refl

first_same : (t : List ℕ) (h : ℕ) → is_plain_first t FlowKey h ≡ is_plain_first t FlowIn h
unfolding is_plain_first is_plain_safe
first_same t h = refl

pub line_separate : {t : List ℕ} (n : ℤ) (c : Ctx) {i j : ℕ} → SeparateInLine t i j → Separate t n c i j []
line_separate n c s = ⊎_elim (λ (k : is_key c ≡ true). in_key k s) (λ (k : is_key c ≡ false). in_node k (in_line s)) (cases_Bool (is_key c))

pub may_line_separate : {t : List ℕ} (n : ℤ) (c : Ctx) {i j : ℕ} → MaySeparateInLine t i j → MaySeparate t n c i j []
may_line_separate n c unseparated_in_line = unseparated
may_line_separate n c (separated_in_line s) = separated (line_separate n c s)

module _ {t : List ℕ} where
  pub key_separate : {n : ℤ} {c : Ctx} {i j : ℕ} {x : List CommentValue} (m : ℤ) (d : Ctx) → is_key c ≡ true → Separate t n c i j x → Separate t m d i j x
  key_separate m d k (in_key e s) = line_separate m d s
  key_separate m d k (in_node e s) = absurd (true≢false (sym k ∙ e))

  pub wider_separate : {n m : ℤ} {c d : Ctx} {i j : ℕ} {x : List CommentValue} → Wider n c m d → Separate t n c i j x → Separate t m d i j x
  wider_separate same_context s = s
  wider_separate (from_key {m = m} {d = d} e) s = key_separate m d refl s
  wider_separate (from_block_key {m = m}) s = key_separate m FlowOut refl s

  pub wider_may : {n m : ℤ} {c d : Ctx} {i j : ℕ} {x : List CommentValue} → Wider n c m d → MaySeparate t n c i j x → MaySeparate t m d i j x
  wider_may w unseparated = unseparated
  wider_may w (separated s) = separated (wider_separate w s)

  -- neither the indentation nor the context of a key matters
  pub key_properties : {n : ℤ} {c : Ctx} {i j : ℕ} {p : PropertiesValue} (m : ℤ) (d : Ctx) → is_key c ≡ true → Properties t n c i j p → Properties t m d i j p
  key_properties m d k (by_tag g) = by_tag g
  key_properties m d k (by_anchor a) = by_anchor a
  key_properties m d k (tag_first g s a) = tag_first g (key_separate m d k s) a
  key_properties m d k (anchor_first a s g) = anchor_first a (key_separate m d k s) g

  pub wider_properties : {n m : ℤ} {c d : Ctx} {i j : ℕ} {p : PropertiesValue} → Wider n c m d → Properties t n c i j p → Properties t m d i j p
  wider_properties w (by_tag g) = by_tag g
  wider_properties w (by_anchor a) = by_anchor a
  wider_properties w (tag_first g s a) = tag_first g (wider_separate w s) a
  wider_properties w (anchor_first a s g) = anchor_first a (wider_separate w s) g

  pub items_same : {c d : Ctx} {i j : ℕ} {x : List ℕ} → ((h : ℕ) → is_plain_char t c h ≡ is_plain_char t d h) → Chain (PlainItem t c) i j x → Chain (PlainItem t d) i j x
  items_same f done = done
  items_same f (step (set_off {h = h} w e) c) = step (set_off w (sym (f h) ∙ e)) (items_same f c)

  pub line_same : {c d : Ctx} {i j : ℕ} {x : List ℕ} → ((h : ℕ) → is_plain_first t c h ≡ is_plain_first t d h) → ((h : ℕ) → is_plain_char t c h ≡ is_plain_char t d h)
      → PlainLine t c i j x → PlainLine t d i j x
  line_same g f (one_line {i = i} e c) = one_line (sym (g i) ∙ e) (items_same f c)

  wider_line : {i j : ℕ} {x : List ℕ} → PlainLine t FlowKey i j x → PlainLine t FlowIn i j x
  wider_line l = line_same (first_same t) (char_same t) l

  line_text : {i j : ℕ} {x : List ℕ} (m : ℤ) (d : Ctx) → is_inside d ≡ true → PlainLine t FlowKey i j x → PlainText t m d i j x
  line_text m BlockOut e l = absurd (true≢false (sym e))
  line_text m BlockIn e l = absurd (true≢false (sym e))
  line_text m FlowOut e l = absurd (true≢false (sym e))
  line_text {i} {j} {x} m FlowIn e l = subst (λ w. PlainText t m FlowIn i j w) (append-nil x) (as_lines refl (wider_line l) done)
  line_text m BlockKey e l = absurd (true≢false (sym e))
  line_text m FlowKey e l = as_key refl l

  key_text : {n : ℤ} {i j : ℕ} {x : List ℕ} (m : ℤ) (d : Ctx) → is_inside d ≡ true → PlainText t n FlowKey i j x → PlainText t m d i j x
  key_text m d e (as_key k l) = line_text m d e l
  key_text m d e (as_lines f l c) = absurd (true≢false (sym f))

  block_line : {i j : ℕ} {x : List ℕ} → PlainLine t BlockKey i j x → PlainLine t FlowOut i j x
  block_line l = line_same (block_first t) (block_char t) l

  block_text : {n : ℤ} {i j : ℕ} {x : List ℕ} (m : ℤ) → PlainText t n BlockKey i j x → PlainText t m FlowOut i j x
  block_text {i = i} {j = j} {x = x} m (as_key k l) = subst (λ w. PlainText t m FlowOut i j w) (append-nil x) (as_lines refl (block_line l) done)
  block_text m (as_lines f l c) = absurd (true≢false (sym f))

  pub wider_plain : {n m : ℤ} {c d : Ctx} {i j : ℕ} {x : List ℕ} → Wider n c m d → PlainText t n c i j x → PlainText t m d i j x
  wider_plain same_context p = p
  wider_plain (from_key {m = m} {d = d} e) p = key_text m d e p
  wider_plain (from_block_key {m = m}) p = block_text m p

  pub wider_single : {n m : ℤ} {c d : Ctx} {i j : ℕ} {x : List ℕ} → IsUtf8 t → Wider n c m d → SingleQuoted t n c i j x → SingleQuoted t m d i j x
  wider_single u same_context q = q
  wider_single u (from_key {d = d} e) q = single_widened u refl (inside_not_block d e) q
  wider_single u from_block_key q = single_widened u refl refl q

  pub wider_double : {n m : ℤ} {c d : Ctx} {i j : ℕ} {x : List Piece} → IsUtf8 t → Wider n c m d → DoubleQuoted t n c i j x → DoubleQuoted t m d i j x
  wider_double u same_context q = q
  wider_double u (from_key {d = d} e) q = double_widened u refl (inside_not_block d e) q
  wider_double u from_block_key q = double_widened u refl refl q

pub wider_value : {n m : ℤ} {c d : Ctx} (t : List ℕ) (i j : ℕ) (x : List CommentValue) (json : Bool) → Wider n c m d → ValueSeparate json t n c i j x → ValueSeparate json t m d i j x
wider_value t i j x true w s = wider_may w s
wider_value t i j x false w s = wider_separate w s
