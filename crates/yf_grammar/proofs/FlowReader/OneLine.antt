-- A part on one line of a flow collection is also derived in a key: at n = 0, in the context of a key.
use Rattle.std.proofs.Common.{◌≡◌, ℕ, ℤ, pos, Bool, true, false, ◌+◌, ◌<◌, ◌≤◌, List, [], ◌∷◌, ◌++◌, length, refl, sym, ap, ◌∙◌, subst, inl, inr, ◌⊎◌, ⊎_elim, arith, append-nil}
use Rattle.std.proofs.lemmas.Bool.{true≢false, cases_lt}
use Rattle.yf_chars.specs.declared.context.Ctx.{Ctx}
use Rattle.yf_chars.specs.declared.context.Ctx.TheVariants.{FlowIn, FlowKey}
use Rattle.yf_chars.specs.Text.{code}
use Rattle.yf_chars.specs.Class.{is_white, is_break_char, is_nb_char}
use Rattle.yf_chars.specs.Chain.{Chain, Many, done, step, one}
use Rattle.yf_chars.proofs.ChainLemmas.{chain_append, chain_forward, chain_one, one_functional}
use Rattle.yf_chars.proofs.TextLemmas.{next_later}
use Rattle.yf_lines.specs.Basic.{Break, LineStart, SeparateInLine, by_whites, at_start, FlowPrefix, FoldedBreak, FlowFolded}
use Rattle.yf_lines.specs.Basic as Basic
use Rattle.yf_lines.proofs.BasicLemmas.{break_forward}
use Rattle.yf_lines.proofs.FoldLemmas.{empty_functional}
use Rattle.yf_lines.proofs.LineLemmas.{break_breaks}
use Rattle.yf_comments.specs.Comment.{CommentValue}
use Rattle.yf_comments.specs.Comments.{BreakOrEnd, CommentText, LineRest, CommentLine, LineEnd, SeparateLines, Separate}
use Rattle.yf_comments.specs.Comments as Comments
use Rattle.yf_comments.proofs.RowLemmas.{break_or_end_forward}
use Rattle.yf_comments.proofs.SeparateLemmas.{prefix_whites}
use Rattle.yf_plain.specs.Plain.{PlainItem, PlainLine, PlainNext, PlainText, is_plain_char, is_plain_first, next_line}
use Rattle.yf_plain.specs.Plain as Plain
use Rattle.yf_plain.specs.Kept.{is_inside}
use Rattle.yf_plain.proofs.PlainLemmas.{line_forward}
use Rattle.yf_props.specs.Names.{Properties, by_tag, by_anchor, tag_first, anchor_first, PropertiesValue}
use Rattle.yf_props.proofs.TagLemmas.{tag_later}
use Rattle.yf_props.proofs.SeparationEnds.{separate_forward}
use Rattle.yf_quoted.specs.Quoted.{Item, Rest, Inside, QuotedScalar, SingleQuoted, DoubleQuoted, DoubleBreak, Piece, folded_break, escaped_break}
use Rattle.yf_quoted.specs.Quoted as Quotes
use Rattle.yf_quoted.proofs.BodyLemmas.{Means}
use Rattle.yf_quoted.proofs.SingleLemmas.{single_means}
use Rattle.yf_quoted.proofs.DoubleLemmas.{double_means}
use Rattle.yf_grammar.specs.Productions.Grammar.{Production, MaySeparate, ValueSeparate, MayBeColon, Derives}
use Rattle.yf_grammar.specs.Productions.Grammar as Grammar
use Rattle.yf_grammar.specs.Productions.Meaning.{Meaning}
use Rattle.yf_grammar.specs.FlowReader.Parser.{OnOneLine}
use Rattle.yf_grammar.proofs.FlowReader.FlowStarts.{flow_starts, in_flow_not_block, may_forward, value_forward}
use Rattle.yf_grammar.proofs.Ends.Forward.{whites_forward, Onward, quoted_items_order, quoted_rest_order, single_onward, double_onward, fold_onward, double_break_onward, in_line_forward}
use Rattle.yf_grammar.proofs.FlowReader.PlainEnds.{plain_later}
use Rattle.yf_grammar.proofs.Ends.WiderLemmas.{inside_not_block, in_flow_inside, safe_same}
use Rattle.yf_props.proofs.NameOrder.{anchor_forward, properties_forward}
use Rattle.yf_plain.proofs.PlainOrder.{items_forward, nexts_forward}

-- a character of a break is between the offsets
pub record Broken (t : List ℕ) (i j : ℕ) : Type 0 where
  pub at : ℕ
  pub from : i ≤ at
  pub upto : at < j
  pub char : is_break_char (code t at) ≡ true

pub broken_within : {t : List ℕ} {i j : ℕ} (a b : ℕ) → a ≤ i → j ≤ b → Broken t i j → Broken t a b
broken_within a b l m k = record { at = k.at; from = omega (arith, k.from); upto = omega (arith, k.upto); char = k.char }

break_broken : {t : List ℕ} {i j : ℕ} → Break t i j → Broken t i j
break_broken {i = i} b = let f = break_forward b in record { at = i; from = omega arith; upto = omega arith; char = break_breaks b }

folded_break_first : {t : List ℕ} {n : ℤ} {i j : ℕ} {x : List ℕ} → FoldedBreak t n FlowIn i j x → Broken t i j
folded_break_first {t} {n} (Basic.trimmed b e c) =
    let f = (empty_functional t n).forward e in
    let g = chain_forward (empty_functional t n) c in
    broken_within _ _ (omega arith) (omega arith) (break_broken b)
folded_break_first (Basic.as_space b) = break_broken b

folded_broken : {t : List ℕ} {n : ℤ} {i j : ℕ} {x : List ℕ} → FlowFolded t n i j x → Broken t i j
folded_broken (Basic.at_break f p) = let g = whites_forward (prefix_whites p).1 in broken_within _ _ (omega arith) (omega arith) (folded_break_first f)
folded_broken (Basic.past_whites s f p) =
    let e = in_line_forward s in
    let g = whites_forward (prefix_whites p).1 in
    broken_within _ _ (omega arith) (omega arith) (folded_break_first f)

double_broken : {t : List ℕ} {n : ℤ} {i j : ℕ} {x : List Piece} → DoubleBreak t n i j x → Broken t i j
double_broken (folded_break f) = folded_broken f
double_broken {t} {n} (escaped_break w e b c p) =
    let f = whites_forward w in
    let g = chain_forward (empty_functional t n) c in
    let h = whites_forward (prefix_whites p).1 in
    broken_within _ _ (omega arith) (omega arith) (break_broken b)

pub text_later : {t : List ℕ} {i j : ℕ} {x : List CommentValue} → CommentText t i j x → i < j
text_later {t} (Comments.comment_text e m n) = let h = chain_forward (one_functional t is_nb_char) m in omega arith

-- the end of a line is a break, or the end of the text
line_end_broken : {t : List ℕ} {i j : ℕ} → BreakOrEnd t i j → Broken t i j ⊎ (j ≡ length t)
line_end_broken (Comments.by_break b) = inl (break_broken b)
line_end_broken (Comments.by_end e) = inr e

broken_or : {t : List ℕ} {i j : ℕ} (a : ℕ) → a ≤ i → Broken t i j ⊎ (j ≡ length t) → Broken t a j ⊎ (j ≡ length t)
broken_or {t} {i} {j} a l o = ⊎_elim (λ (b : Broken t i j). inl (broken_within a j l (omega arith) b)) (λ (e : j ≡ length t). inr e) o

line_rest_broken : {t : List ℕ} {i j : ℕ} {x : List CommentValue} → LineRest t i j x → Broken t i j ⊎ (j ≡ length t)
line_rest_broken (Comments.nothing e) = line_end_broken e
line_rest_broken {i = i} (Comments.whites s e) = let f = in_line_forward s in broken_or i (omega arith) (line_end_broken e)
line_rest_broken {i = i} (Comments.comment s d e) = let f = in_line_forward s in let g = text_later d in broken_or i (omega arith) (line_end_broken e)

comment_line_broken : {t : List ℕ} {i j : ℕ} {x : List CommentValue} → CommentLine t i j x → Broken t i j ⊎ (j ≡ length t)
comment_line_broken {i = i} (Comments.whites_line s e) = let f = in_line_forward s in broken_or i (omega arith) (line_end_broken e)
comment_line_broken {i = i} (Comments.comment_line s d e) = let f = in_line_forward s in let g = text_later d in broken_or i (omega arith) (line_end_broken e)

rest_order : {t : List ℕ} {i j : ℕ} {x : List CommentValue} → LineRest t i j x → i ≤ j
rest_order (Comments.nothing e) = break_or_end_forward e
rest_order (Comments.whites s e) = let f = in_line_forward s in let g = break_or_end_forward e in omega arith
rest_order (Comments.comment s d e) = let f = in_line_forward s in let h = text_later d in let g = break_or_end_forward e in omega arith

pub comment_line_order : {t : List ℕ} {i j : ℕ} {x : List CommentValue} → CommentLine t i j x → i ≤ j
comment_line_order (Comments.whites_line s e) = let f = in_line_forward s in let g = break_or_end_forward e in omega arith
comment_line_order (Comments.comment_line s d e) = let f = in_line_forward s in let h = text_later d in let g = break_or_end_forward e in omega arith

pub comment_lines_order : {t : List ℕ} {i j : ℕ} {x : List CommentValue} → Chain (CommentLine t) i j x → i ≤ j
comment_lines_order done = omega arith
comment_lines_order (step s c) = let f = comment_line_order s in let g = comment_lines_order c in omega arith

-- white space is a character of a quoted scalar of either kind; on one line a quoted scalar has only characters
module _ {A : Type 0} {t : List ℕ} {put : List ℕ → List A} {C : ℕ → ℕ → List A → Type 0} {quote : ℕ} where
  white_chars : {i j : ℕ} {x : List ℕ} → Means t put C quote → Many t is_white i j x → Chain C i j (put x)
  white_chars {i} m done = rw m.nothing done
  white_chars m (step {y = y} (one {i = i} e) c) = rw (m.append (code t i ∷ []) y) (step (m.is_char i e) (white_chars m c))

  item_chars : {i j : ℕ} {x : List A} → Means t put C quote → Item t put C i j x → Chain C i j x
  item_chars m (Quotes.set_off w n s) = chain_append (white_chars m w) (chain_one s)

  items_chars : {i j : ℕ} {x : List A} → Means t put C quote → Chain (Item t put C) i j x → Chain C i j x
  items_chars m done = done
  items_chars m (step s c) = chain_append (item_chars m s) (items_chars m c)

module _ {A : Type 0} {t : List ℕ} {put : List ℕ → List A} {C : ℕ → ℕ → List A → Type 0} {quote : ℕ} where
  rest_chars : {B : ℕ → ℕ → List A → Type 0} {i j : ℕ} {x : List A} → Means t put C quote
      → ((h k : ℕ) (y : List A) → B h k y → i ≤ h → k ≤ j → ⊥) → Onward C → Onward B → Rest t put C B i j x → Chain C i j x
  rest_chars m n o q (Quotes.blank w) = white_chars m w
  rest_chars m n o q (Quotes.last_break {i = i} {j = j} {x = x} b) = absurd (n i j x b (omega arith) (omega arith))
  rest_chars {B} m n o q (Quotes.next_line {i = i} {h = h} {k = k} {j = j} {x = x} {y = y} b s d c r) =
      let e = o.order h k y d in
      let f = quoted_items_order o c in
      let g = quoted_rest_order o q r in
      absurd (n i h x b (omega arith) (omega arith))

  inside_chars : {B : ℕ → ℕ → List A → Type 0} {c : Ctx} {i j : ℕ} {x : List A} → Means t put C quote
      → ((h k : ℕ) (y : List A) → B h k y → i ≤ h → k ≤ j → ⊥) → Onward C → Onward B → Inside t put C B c i j x → Chain C i j x
  inside_chars m n o q (Quotes.as_key e d) = d
  inside_chars {B} m n o q (Quotes.as_lines {h = k} e d r) =
      let f = quoted_items_order o d in
      chain_append (items_chars m d) (rest_chars m (λ h l y b u v. n h l y b (omega arith) v) o q r)

  quoted_chars : {B D : ℕ → ℕ → List A → Type 0} {c : Ctx} {i j : ℕ} {x : List A} → Means t put C quote
      → ((h k : ℕ) (y : List A) → B h k y → i ≤ h → k ≤ j → ⊥) → Onward C → Onward B → QuotedScalar t put C B c quote i j x
      → QuotedScalar t put C D FlowKey quote i j x
  quoted_chars m n o q d =
      let e = d.end in
      record {
        close = d.close;
        opening = d.opening;
        inside = Quotes.as_key refl (inside_chars m (λ h k y b u v. n h k y b (omega arith) (omega arith)) o q d.inside);
        closing = d.closing;
        end = d.end;
        clear = d.clear;
      }

-- characters of plain scalars inside of a flow collection and inside of a key
inner_first : (t : List ℕ) (c : Ctx) (i : ℕ) → is_inside c ≡ true → is_plain_first t c i ≡ is_plain_first t FlowKey i
unfolding is_plain_first
inner_first t c i e = rw (sym (safe_same (code t (i + 1)) c e)) refl

inner_char : (t : List ℕ) (c : Ctx) (i : ℕ) → is_inside c ≡ true → is_plain_char t c i ≡ is_plain_char t FlowKey i
unfolding is_plain_char
inner_char t c i e = rw (sym (safe_same (code t (i + 1)) c e), sym (safe_same (code t i) c e)) refl

module _ {t : List ℕ} where
  item_key : {c : Ctx} {i j : ℕ} {x : List ℕ} → is_inside c ≡ true → PlainItem t c i j x → PlainItem t FlowKey i j x
  item_key {c} q (Plain.set_off {h = h} w e) = Plain.set_off w (sym (inner_char t c h q) ∙ e)

  items_key : {c : Ctx} {i j : ℕ} {x : List ℕ} → is_inside c ≡ true → Chain (PlainItem t c) i j x → Chain (PlainItem t FlowKey) i j x
  items_key q done = done
  items_key q (step s d) = step (item_key q s) (items_key q d)

  line_key : {c : Ctx} {i j : ℕ} {x : List ℕ} → is_inside c ≡ true → PlainLine t c i j x → PlainLine t FlowKey i j x
  line_key {c} q (Plain.one_line {i = i} e d) = Plain.one_line (sym (inner_first t c i q) ∙ e) (items_key q d)

colon_key : (t : List ℕ) (c : Ctx) (json : Bool) (i : ℕ) → is_inside c ≡ true → MayBeColon json t i c → MayBeColon json t i FlowKey
colon_key t c true i q m = tt
colon_key t c false i q m = safe_same (code t i) c q ∙ m

-- no character of a break is between a and z, and the text goes on after z
pub record AllOnLine (t : List ℕ) (a z : ℕ) : Type 0 where
  pub line : OnOneLine t a z
  pub goes_on : z < length t

not_broken : {t : List ℕ} {a z i j : ℕ} → AllOnLine t a z → a ≤ i → j ≤ z → Broken t i j → ⊥
not_broken o l m b = true≢false (sym b.char ∙ o.line.each b.at (omega (arith, b.from)) (omega (arith, b.upto)))

no_line_end : {t : List ℕ} {a z i j : ℕ} → AllOnLine t a z → a ≤ i → j ≤ z → Broken t i j ⊎ (j ≡ length t) → ⊥
no_line_end {t} {a} {z} {i} {j} o l m e = ⊎_elim (λ (b : Broken t i j). not_broken o l m b) (λ (s : j ≡ length t). let g = o.goes_on in absurd (omega arith)) e

pub prefix_in_line : {t : List ℕ} {n : ℤ} {i j : ℕ} → LineStart t i → FlowPrefix t n i j → SeparateInLine t i j
prefix_in_line {t} {n} {i} {j} s p =
    let w = prefix_whites p in
    let f = whites_forward w.1 in
    ⊎_elim (λ (l : i < j). by_whites w.1 l)
    (λ (l : j ≤ i). let same : i ≡ j = omega arith in subst (λ k. SeparateInLine t i k) same (at_start s))
    (cases_lt i j)

-- the lines of comments after the start of a line: one line has none
no_lines : {t : List ℕ} {a z i h : ℕ} {x : List CommentValue} → AllOnLine t a z → a ≤ i → h ≤ z → Chain (CommentLine t) i h x → (i ≡ h) × (x ≡ [])
no_lines o l m done = (refl, refl)
no_lines o l m (step s c) = let f = comment_lines_order c in absurd (no_line_end o l (omega arith) (comment_line_broken s))

ended_line : {t : List ℕ} {a z i h : ℕ} {x : List CommentValue} → AllOnLine t a z → a ≤ i → h ≤ z → LineEnd t i h x → LineStart t i × (i ≡ h) × (x ≡ [])
ended_line o l m (Comments.past_rest r c) = let f = comment_lines_order c in absurd (no_line_end o l (omega arith) (line_rest_broken r))
ended_line o l m (Comments.from_start s c) = let e = no_lines o l m c in (s, e.0, e.1)

module _ {t : List ℕ} {a z : ℕ} where
  lines_in_line : {n : ℤ} {i j : ℕ} {x : List CommentValue} → AllOnLine t a z → a ≤ i → j ≤ z → SeparateLines t n i j x → Separate t (pos 0) FlowKey i j x
  lines_in_line o l m (Comments.in_line s) = Comments.in_key refl s
  lines_in_line {n} {i} {j} {x} o l m (Comments.over_lines {h = h} e p) =
      let f = whites_forward (prefix_whites p).1 in
      let parts = ended_line o l (omega arith) e in
      let p' : FlowPrefix t n i j = subst (λ k. FlowPrefix t n k j) (sym parts.1) p in
      subst (λ w. Separate t (pos 0) FlowKey i j w) (sym parts.2) (Comments.in_key refl (prefix_in_line parts.0 p'))

  pub separate_key : {n : ℤ} {c : Ctx} {i j : ℕ} {x : List CommentValue} → AllOnLine t a z → a ≤ i → j ≤ z → Separate t n c i j x → Separate t (pos 0) FlowKey i j x
  separate_key o l m (Comments.in_key e s) = Comments.in_key refl s
  separate_key o l m (Comments.in_node e s) = lines_in_line o l m s

  pub gap_key : {n : ℤ} {c : Ctx} {i j : ℕ} {x : List CommentValue} → AllOnLine t a z → a ≤ i → j ≤ z → MaySeparate t n c i j x → MaySeparate t (pos 0) FlowKey i j x
  gap_key o l m Grammar.unseparated = Grammar.unseparated
  gap_key o l m (Grammar.separated s) = Grammar.separated (separate_key o l m s)

  value_gap_key : (n : ℤ) (c : Ctx) {i j : ℕ} (x : List CommentValue) (json : Bool) → AllOnLine t a z → a ≤ i → j ≤ z → ValueSeparate json t n c i j x
      → ValueSeparate json t (pos 0) FlowKey i j x
  value_gap_key n c x true o l m s = gap_key o l m s
  value_gap_key n c x false o l m s = separate_key o l m s

  pub properties_key : {n : ℤ} {c : Ctx} {i j : ℕ} {p : PropertiesValue} → AllOnLine t a z → a ≤ i → j ≤ z → Properties t n c i j p → Properties t (pos 0) FlowKey i j p
  properties_key o l m (by_tag g) = by_tag g
  properties_key o l m (by_anchor g) = by_anchor g
  properties_key o l m (tag_first g s b) = let e = tag_later g in let f = anchor_forward b in tag_first g (separate_key o (omega arith) (omega arith) s) b
  properties_key o l m (anchor_first b s g) = let e = tag_later g in let f = anchor_forward b in anchor_first b (separate_key o (omega arith) (omega arith) s) g

  no_next : {n : ℤ} {c : Ctx} {i j : ℕ} {x : List ℕ} → AllOnLine t a z → a ≤ i → j ≤ z → PlainNext t n c i j x → ⊥
  no_next o l m (next_line {h = h} f e d) = let g = next_later t h in let k = items_forward d in not_broken o l (omega arith) (folded_broken f)

  pub no_nexts : {n : ℤ} {c : Ctx} {i j : ℕ} {x : List ℕ} → AllOnLine t a z → a ≤ i → j ≤ z → Chain (PlainNext t n c) i j x → (i ≡ j) × (x ≡ [])
  no_nexts o l m done = (refl, refl)
  no_nexts o l m (step s c) = let f = nexts_forward c in absurd (no_next o l (omega arith) s)

  plain_key : {n : ℤ} {c : Ctx} {i j : ℕ} {x : List ℕ} → AllOnLine t a z → is_inside c ≡ true → a ≤ i → j ≤ z → PlainText t n c i j x → PlainText t (pos 0) FlowKey i j x
  plain_key o q l m (Plain.as_key e d) = Plain.as_key refl (line_key q d)
  plain_key {i = i} {j = j} o q l m (Plain.as_lines {h = h} {x = x} {y = y} e d c) =
      let f = line_forward d in
      let rest = no_nexts o (omega arith) m c in
      let text : x ≡ x ++ y = sym (append-nil x) ∙ ap (λ w. x ++ w) (sym rest.1) in
      let there : PlainLine t FlowKey i j x = subst (λ k. PlainLine t FlowKey i k x) rest.0 (line_key q d) in
      Plain.as_key refl (subst (λ w. PlainLine t FlowKey i j w) text there)

  pub single_key : {n : ℤ} {c : Ctx} {i j : ℕ} {x : List ℕ} → AllOnLine t a z → a ≤ i → j ≤ z → SingleQuoted t n c i j x → SingleQuoted t (pos 0) FlowKey i j x
  single_key {n} o l m q =
      quoted_chars (single_means t) (λ h k y b u v. not_broken o (omega arith) (omega arith) (folded_broken b)) (single_onward t) (fold_onward t n) q

  pub double_key : {n : ℤ} {c : Ctx} {i j : ℕ} {x : List Piece} → AllOnLine t a z → a ≤ i → j ≤ z → DoubleQuoted t n c i j x → DoubleQuoted t (pos 0) FlowKey i j x
  double_key {n} o l m q =
      quoted_chars (double_means t) (λ h k y b u v. not_broken o (omega arith) (omega arith) (double_broken b)) (double_onward t) (double_break_onward t n) q

-- a production that derives a part on one line within a flow collection derives it at n = 0 in a key
abbrev Keyed : List ℕ → ℕ → Production → ℕ → ℕ → Meaning → Type 0
Keyed t h (Grammar.FlowNode n c) i j x = is_inside c ≡ true → Derives t h (Grammar.FlowNode (pos 0) FlowKey) i j x
Keyed t h (Grammar.NodeOf json n c) i j x = is_inside c ≡ true → Derives t h (Grammar.NodeOf json (pos 0) FlowKey) i j x
Keyed t h (Grammar.JsonContent n c) i j x = is_inside c ≡ true → Derives t h (Grammar.JsonContent (pos 0) FlowKey) i j x
Keyed t h (Grammar.Entries s n c) i j x = is_inside c ≡ true → Derives t h (Grammar.Entries s (pos 0) FlowKey) i j x
Keyed t h (Grammar.Entry s n c) i j x = is_inside c ≡ true → Derives t h (Grammar.Entry s (pos 0) FlowKey) i j x
Keyed t h (Grammar.Pair n c) i j x = is_inside c ≡ true → Derives t h (Grammar.Pair (pos 0) FlowKey) i j x
Keyed t h (Grammar.Explicit n c s) i j x = is_inside c ≡ true → Derives t h (Grammar.Explicit (pos 0) FlowKey s) i j x
Keyed t h (Grammar.Implicit n c s) i j x = is_inside c ≡ true → Derives t h (Grammar.Implicit (pos 0) FlowKey s) i j x
Keyed t h (Grammar.ValueOf json n c) i j x = is_inside c ≡ true → Derives t h (Grammar.ValueOf json (pos 0) FlowKey) i j x
Keyed t h (Grammar.KeyOf json c) i j x = Unit {0}
Keyed t h (Grammar.BlockNode n c) i j x = Unit {0}
Keyed t h (Grammar.BlockEntries s m) i j x = Unit {0}
Keyed t h (Grammar.BlockEntry s m) i j x = Unit {0}
Keyed t h (Grammar.BlockIndented m c) i j x = Unit {0}
Keyed t h (Grammar.BlockValue m) i j x = Unit {0}

keyed : {t : List ℕ} {a z h i j : ℕ} {p : Production} {x : Meaning} → AllOnLine t a z → a ≤ i → j ≤ z → Derives t h p i j x → Keyed t h p i j x
keyed o l m (Grammar.flow_node d) = λ q. Grammar.flow_node (keyed o l m d q)
keyed o l m (Grammar.an_alias b a) = λ q. Grammar.an_alias refl a
keyed o l m (Grammar.a_plain p) = λ q. Grammar.a_plain (plain_key o q l m p)
keyed o l m (Grammar.a_plain_with p s d) = λ q.
    let f = properties_forward p in let g = separate_forward s in let h = plain_later d in
    Grammar.a_plain_with (properties_key o l (omega arith) p) (separate_key o (omega arith) (omega arith) s) (plain_key o q (omega arith) m d)
keyed o l m (Grammar.properties_alone b p) = λ q. Grammar.properties_alone refl (properties_key o l m p)
keyed o l m (Grammar.a_json d) = λ q. Grammar.a_json (keyed o l m d q)
keyed o l m (Grammar.a_json_with {c = c} p s d) = λ q.
    let f = properties_forward p in let g = separate_forward s in let h = (flow_starts d (inside_not_block c q)).later in
    Grammar.a_json_with (properties_key o l (omega arith) p) (separate_key o (omega arith) (omega arith) s) (keyed o (omega arith) m d q)
keyed o l m (Grammar.a_single d) = λ q. Grammar.a_single (single_key o l m d)
keyed o l m (Grammar.a_double d) = λ q. Grammar.a_double (double_key o l m d)
keyed o l m (Grammar.an_empty_collection s b e g f) = λ q. Grammar.an_empty_collection s refl e (gap_key o (omega arith) (omega arith) g) f
keyed o l m (Grammar.a_collection s {c = c} b e g d f) = λ q.
    let h = may_forward g in let k = (flow_starts d (in_flow_not_block c (inside_not_block c q))).later in
    Grammar.a_collection s refl e (gap_key o (omega arith) (omega arith) g) (keyed o (omega arith) (omega arith) d (in_flow_inside c (inside_not_block c q))) f
keyed o l m (Grammar.last_entry {c = c} d g) = λ q.
    let h = (flow_starts d (inside_not_block c q)).later in let k = may_forward g in
    Grammar.last_entry (keyed o l (omega arith) d q) (gap_key o (omega arith) m g)
keyed o l m (Grammar.last_entry_with_comma {c = c} d g e f) = λ q.
    let h = (flow_starts d (inside_not_block c q)).later in let k = may_forward g in let r = may_forward f in
    Grammar.last_entry_with_comma (keyed o l (omega arith) d q) (gap_key o (omega arith) (omega arith) g) e (gap_key o (omega arith) m f)
keyed o l m (Grammar.more_entries {c = c} d g e f b) = λ q.
    let h = (flow_starts d (inside_not_block c q)).later in let k = may_forward g in let r = may_forward f in let s = (flow_starts b (inside_not_block c q)).later in
    Grammar.more_entries (keyed o l (omega arith) d q) (gap_key o (omega arith) (omega arith) g) e (gap_key o (omega arith) (omega arith) f) (keyed o (omega arith) m b q)
keyed o l m (Grammar.a_node_entry d) = λ q. Grammar.a_node_entry (keyed o l m d q)
keyed o l m (Grammar.a_pair_entry d) = λ q. Grammar.a_pair_entry (keyed o l m d q)
keyed o l m (Grammar.an_explicit_entry {c = c} e s d) = λ q.
    let f = separate_forward s in let g = flow_starts d (inside_not_block c q) in
    Grammar.an_explicit_entry e (separate_key o (omega arith) (omega arith) s) (keyed o (omega arith) m d q)
keyed o l m (Grammar.an_implicit_entry d) = λ q. Grammar.an_implicit_entry (keyed o l m d q)
keyed o l m (Grammar.an_explicit_pair {c = c} e s d) = λ q.
    let f = separate_forward s in let g = flow_starts d (inside_not_block c q) in
    Grammar.an_explicit_pair e (separate_key o (omega arith) (omega arith) s) (keyed o (omega arith) m d q)
keyed o l m (Grammar.a_keyed_pair d e) = λ q. let f = (flow_starts d refl).later in Grammar.a_keyed_pair d (keyed o (omega arith) m e q)
keyed o l m (Grammar.an_unkeyed_pair d) = λ q. Grammar.an_unkeyed_pair (keyed o l m d q)
keyed o l m (Grammar.explicit_with d) = λ q. Grammar.explicit_with (keyed o l m d q)
keyed o l m (Grammar.explicit_without b) = λ q. Grammar.explicit_without refl
keyed o l m (Grammar.key_alone d) = λ q. Grammar.key_alone (keyed o l m d q)
keyed o l m (Grammar.key_and_value {c = c} d g e) = λ q.
    let f = (flow_starts d (inside_not_block c q)).starts.later in let h = may_forward g in let k = (flow_starts e (inside_not_block c q)).later in
    Grammar.key_and_value (keyed o l (omega arith) d q) (gap_key o (omega arith) (omega arith) g) (keyed o (omega arith) m e q)
keyed o l m (Grammar.value_alone d) = λ q. Grammar.value_alone (keyed o l m d q)
keyed {t} o l m (Grammar.empty_value {i = i} {json = json} {c = k} b e c) = λ q. Grammar.empty_value refl e (colon_key t k json (i + 1) q c)
keyed {t} o l m (Grammar.a_value {i = i} {k = r} {json = json} {n = n} {c = b} cs e c s d) = λ q.
    let f = value_forward t n b (i + 1) r cs json s in let g = (flow_starts d (inside_not_block b q)).starts.later in
    Grammar.a_value cs e (colon_key t b json (i + 1) q c) (value_gap_key n b cs json o (omega arith) (omega arith) s) (keyed o (omega arith) m d q)
keyed o l m (Grammar.a_key d g b) = tt
keyed o l m (Grammar.a_block_scalar b s d) = tt
keyed o l m (Grammar.a_block_scalar_with b s p q d) = tt
keyed o l m (Grammar.a_block_collection b e s k d) = tt
keyed o l m (Grammar.a_block_collection_with b s p e q k d) = tt
keyed o l m (Grammar.flow_in_block b s d e) = tt
keyed o l m (Grammar.a_last_entry d) = tt
keyed o l m (Grammar.an_entry_before d s e) = tt
keyed o l m (Grammar.a_dash_entry a b d) = tt
keyed o l m (Grammar.an_explicit_entry_with a b d g e) = tt
keyed o l m (Grammar.an_explicit_key_alone a b d g) = tt
keyed o l m (Grammar.a_keyed_entry d e) = tt
keyed o l m (Grammar.an_unkeyed_entry d) = tt
keyed o l m (Grammar.a_block_value e d) = tt
keyed o l m (Grammar.an_empty_block_value e g) = tt
keyed o l m (Grammar.a_compact_collection b s d) = tt
keyed o l m (Grammar.an_indented_node d) = tt
keyed o l m (Grammar.nothing_indented b g) = tt

-- a node on one line is the node of a key
pub node_of_key : {t : List ℕ} {a z h i j : ℕ} {json : Bool} {n : ℤ} {c : Ctx} {x : Meaning} → AllOnLine t a z → is_inside c ≡ true → a ≤ i → j ≤ z
    → Derives t h (Grammar.NodeOf json n c) i j x → Derives t h (Grammar.NodeOf json (pos 0) FlowKey) i j x
node_of_key o q l m d = keyed o l m d q

-- and entries inside of a flow collection
pub entries_of_key : {t : List ℕ} {a z h i j : ℕ} {s : Bool} {n : ℤ} {c : Ctx} {x : Meaning} → AllOnLine t a z → is_inside c ≡ true → a ≤ i → j ≤ z
    → Derives t h (Grammar.Entries s n c) i j x → Derives t h (Grammar.Entries s (pos 0) FlowKey) i j x
entries_of_key o q l m d = keyed o l m d q
