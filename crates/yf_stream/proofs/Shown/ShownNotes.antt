-- Small texts with one comment, on a line of its own, and without other signs than dashes: each part takes the comments
-- that begin in it.
use Rattle.std.proofs.Common.{◌≡◌, ◌≢◌, ℕ, ℤ, ◌+◌, ◌<◌, ◌≤◌, Bool, true, false, not, ◌&&◌, ◌||◌, ◌==◌, List, [], ◌∷◌, ◌++◌, length, refl, sym, ap, ◌∙◌, ⊎_elim, arith, subst, append_assoc}
use Rattle.std.proofs.lemmas.Bool.{true≢false, cases_lt, lt-ltb, le-ltb, ltb-true, and_parts, eqb-true, eq-eqb}
use Rattle.std.specs.Prelude.{if◌then◌else◌, nat_lt}
use Rattle.yf_chars.specs.declared.context.Ctx.{Ctx}
use Rattle.yf_chars.specs.Text.{code, next, no_char}
use Rattle.yf_chars.specs.Class.{is_ns_char, is_white}
use Rattle.yf_chars.specs.Chain.{Chain, Many}
use Rattle.yf_chars.specs.Chain.Chain.{done, step}
use Rattle.yf_chars.specs.Chain.One.{one}
use Rattle.yf_chars.proofs.TextLemmas.{code-past, next_ascii}
use Rattle.yf_lines.specs.Basic.{FlowPrefix, LineStart, SeparateInLine}
use Rattle.yf_lines.specs.Basic.Break.{cr_lf, lone_cr, lone_lf}
use Rattle.yf_lines.specs.Basic.SeparateInLine.{at_start}
use Rattle.yf_lines.proofs.BasicLemmas.{three_first, white_below}
use Rattle.yf_comments.specs.Comment.{CommentValue}
use Rattle.yf_comments.specs.Comments.{BreakOrEnd, CommentLine, CommentText, LineEnd, LineRest, Row, Separate}
use Rattle.yf_comments.specs.Comments.BreakOrEnd.{by_break, by_end}
use Rattle.yf_comments.specs.Comments.CommentLine.{comment_line, whites_line}
use Rattle.yf_comments.specs.Comments.LineRest.{comment, nothing, whites}
use Rattle.yf_comments.specs.Comments.Separate.{in_key, in_node}
use Rattle.yf_comments.specs.Comments.SeparateLines.{in_line, over_lines}
use Rattle.yf_comments.proofs.RowLemmas.{break_or_end_forward, rest_unique, separate_whites, text_hash}
use Rattle.yf_comments.proofs.LineEndLemmas.{line_end_rows}
use Rattle.yf_comments.proofs.SeparateLemmas.{prefix_whites}
use Rattle.yf_plain.proofs.PlainLemmas.{ns_below, ns_cr, white_not_ns}
use Rattle.yf_grammar.proofs.Ends.Forward.{in_line_forward, whites_forward}
use Rattle.yf_grammar.specs.Productions.Meaning.{Meaning}
use Rattle.yf_stream.specs.Stream.{Documents, ExplicitNode, PrefixPart, Prefixes, StreamRest, with_comments}
use Rattle.yf_stream.specs.Stream.PrefixPart.{order_mark, prefix_comment}
use Rattle.yf_stream.specs.Stream.StreamRest.{past_explicit, past_prefix, past_suffixes, past_suffixes_and_document, stream_ended}
use Rattle.yf_stream.proofs.Shown.ShownParts.{all_at, holds_at}
use Rattle.yf_stream.proofs.Shown.ShownPlain.{explicit_dash, is_sign, no_suffix}
use Rattle.yf_chars.proofs.CharFacts.{feed_no_ns, hash_ns}

-- the characters: a # only at p, dashes only before d, no other sign and no byte order mark
unfoldable pub is_simple : ℕ → ℕ → ℕ → ℕ → Bool
is_simple p d i c = (not (is_sign c) && not (c == 0xFEFF)) && ((not (c == 45) || nat_lt i d) && (not (c == 35) || (i == p)))

pub record Simple (t : List ℕ) (p d : ℕ) : Type 0 where
  pub sign : (i c : ℕ) → is_sign c ≡ true → code t i ≡ c → ⊥
  pub mark : (i : ℕ) → code t i ≢ 0xFEFF
  pub dash : (i : ℕ) → code t i ≡ 45 → i < d
  pub hash : (i : ℕ) → code t i ≡ 35 → i ≡ p

no_sign_past : is_sign no_char ≡ false
unfolding is_sign
no_sign_past = refl

pub simple : (t : List ℕ) (p d : ℕ) → all_at (is_simple p d) t (length t) ≡ true → Simple t p d
unfolding is_simple
simple t p d e = record { sign = sign; mark = mark; dash = dash; hash = hash } where
  within : (i : ℕ) → i < length t → is_simple p d i (code t i) ≡ true
  within i l = holds_at (is_simple p d) t (length t) i e l

  sign : (i c : ℕ) → is_sign c ≡ true → code t i ≡ c → ⊥
  sign i c s f = ⊎_elim inside outside (cases_lt i (length t)) where
    inside : i < length t → ⊥
    inside l =
        let a = (and_parts (not (is_sign (code t i)) && not (code t i == 0xFEFF)) ((not (code t i == 45) || nat_lt i d) && (not (code t i == 35) || (i == p))) (within i l)).0 in
        let b = (and_parts (not (is_sign (code t i))) (not (code t i == 0xFEFF)) a).0 in
        let g : is_sign (code t i) ≡ true = ap is_sign f ∙ s in true≢false (sym (rw g at b))

    outside : length t ≤ i → ⊥
    outside l = true≢false (sym s ∙ ap is_sign (sym f ∙ code-past t i l) ∙ no_sign_past)

  mark : (i : ℕ) → code t i ≢ 0xFEFF
  mark i f = ⊎_elim inside outside (cases_lt i (length t)) where
    inside : i < length t → ⊥
    inside l =
        let a = (and_parts (not (is_sign (code t i)) && not (code t i == 0xFEFF)) ((not (code t i == 45) || nat_lt i d) && (not (code t i == 35) || (i == p))) (within i l)).0 in
        let b = (and_parts (not (is_sign (code t i))) (not (code t i == 0xFEFF)) a).1 in
        let g : (code t i == 0xFEFF) ≡ true = eq-eqb (code t i) 0xFEFF f in true≢false (sym (rw g at b))

    outside : length t ≤ i → ⊥
    outside l = let n = code-past t i l in omega arith

  dash : (i : ℕ) → code t i ≡ 45 → i < d
  dash i f = ⊎_elim inside outside (cases_lt i (length t)) where
    inside : i < length t → i < d
    inside l =
        let a = (and_parts (not (is_sign (code t i)) && not (code t i == 0xFEFF)) ((not (code t i == 45) || nat_lt i d) && (not (code t i == 35) || (i == p))) (within i l)).1 in
        let b = (and_parts (not (code t i == 45) || nat_lt i d) (not (code t i == 35) || (i == p)) a).0 in
        let g : (code t i == 45) ≡ true = eq-eqb (code t i) 45 f in ltb-true i d (rw g at b)

    outside : length t ≤ i → i < d
    outside l = let n = code-past t i l in absurd (omega arith)

  hash : (i : ℕ) → code t i ≡ 35 → i ≡ p
  hash i f = ⊎_elim inside outside (cases_lt i (length t)) where
    inside : i < length t → i ≡ p
    inside l =
        let a = (and_parts (not (is_sign (code t i)) && not (code t i == 0xFEFF)) ((not (code t i == 45) || nat_lt i d) && (not (code t i == 35) || (i == p))) (within i l)).1 in
        let b = (and_parts (not (code t i == 45) || nat_lt i d) (not (code t i == 35) || (i == p)) a).1 in
        let g : (code t i == 35) ≡ true = eq-eqb (code t i) 35 f in eqb-true i p (rw g at b)

    outside : length t ≤ i → i ≡ p
    outside l = let n = code-past t i l in absurd (omega arith)

-- the comment that begins its line at p and ends with it at e
pub record OneComment (t : List ℕ) (p e d : ℕ) (remark : CommentValue) : Type 0 where
  pub chars : Simple t p d
  pub start : LineStart t p
  pub line : LineRest t p e (remark ∷ [])
  pub sign : code t p ≡ 35
  pub later : p < e

-- the comments that begin at the offset or after it
unfoldable pub kept : ℕ → CommentValue → ℕ → List CommentValue
kept p remark i = if nat_lt p i then [] else remark ∷ []

pub record Takes (p : ℕ) (remark : CommentValue) (i j : ℕ) (cs : List CommentValue) : Type 0 where
  pub taken : cs ++ kept p remark j ≡ kept p remark i

pub takes_two : {p : ℕ} {remark : CommentValue} {i k j : ℕ} {x y : List CommentValue} → Takes p remark i k x → Takes p remark k j y → Takes p remark i j (x ++ y)
takes_two {p} {remark} {j = j} {x = x} {y = y} a b = record { taken = append_assoc x y (kept p remark j) ∙ ap (λ w. x ++ w) b.taken ∙ a.taken }

-- the part is on one side of the comment's start
pub same_side : {p : ℕ} (remark : CommentValue) {i j : ℕ} → i ≤ j → (i ≤ p → j ≤ p) → Takes p remark i j []
unfolding kept
same_side {p} remark {i} {j} l f = record { taken = ⊎_elim after before (cases_lt p i) } where
  after : p < i → kept p remark j ≡ kept p remark i
  after m = rw (lt-ltb p i m, lt-ltb p j (omega arith)) refl

  before : i ≤ p → kept p remark j ≡ kept p remark i
  before m = rw (le-ltb p i m, le-ltb p j (f m)) refl

pub at_place : {p : ℕ} (remark : CommentValue) {i j : ℕ} → i ≡ j → Takes p remark i j []
at_place remark e = same_side remark (omega arith) (λ l. omega arith)

-- white space and the ends of lines pass no character of content
module _ (t : List ℕ) (r : ℕ) (content : is_ns_char (code t r) ≡ true) where
  other_char : (i c : ℕ) → code t i ≡ c → is_ns_char c ≡ false → i ≢ r
  other_char i c a n f = true≢false (sym content ∙ ap (λ k. is_ns_char (code t k)) (sym f) ∙ ap is_ns_char a ∙ n)

  pub whites_side : {i j : ℕ} {w : List ℕ} → Many t is_white i j w → i ≤ r → j ≤ r
  whites_side done l = l
  whites_side (step {i = i} (one w) c) l =
      let n : next t i ≡ i + 1 = next_ascii t i (white_below _ w) in
      let f = other_char i (code t i) refl (white_not_ns _ w) in whites_side c (omega (arith, f))

  pub end_side : {i j : ℕ} → BreakOrEnd t i j → i ≤ r → j ≤ r
  end_side (by_end f) l = let n = code-past t r (omega arith) in let b = ns_below _ content in absurd (omega arith)
  end_side (by_break (cr_lf {i = i} a b)) l = let f = other_char i 13 a ns_cr in let g = other_char (i + 1) 10 b feed_no_ns in omega (arith, f, g)
  end_side (by_break (lone_cr {i = i} a b)) l = let f = other_char i 13 a ns_cr in omega (arith, f)
  end_side (by_break (lone_lf {i = i} a b)) l = let f = other_char i 10 a feed_no_ns in omega (arith, f)

module _ {t : List ℕ} {p e d : ℕ} {remark : CommentValue} (o : OneComment t p e d remark) where
  hash_content : is_ns_char (code t p) ≡ true
  hash_content = ap is_ns_char o.sign ∙ hash_ns

  takes_whites : {i j : ℕ} {w : List ℕ} → Many t is_white i j w → Takes p remark i j []
  takes_whites c = same_side remark (whites_forward c) (whites_side t p hash_content c)

  pub takes_separation : {i j : ℕ} → SeparateInLine t i j → Takes p remark i j []
  takes_separation s = takes_whites (separate_whites s).1

  takes_end : {i j : ℕ} → BreakOrEnd t i j → Takes p remark i j []
  takes_end b = same_side remark (break_or_end_forward b) (end_side t p hash_content b)

  takes_prefix : {n : ℤ} {i j : ℕ} → FlowPrefix t n i j → Takes p remark i j []
  takes_prefix f = takes_whites (prefix_whites f).1

  -- the comment is that one
  pub remark_is : {i j k : ℕ} {cs : List CommentValue} → CommentText t i j cs → BreakOrEnd t j k → (i ≡ p) × ((k ≡ e) × (cs ≡ remark ∷ []))
  remark_is {j = j} {k = k} {cs = cs} c f =
      let a = o.chars.hash _ (text_hash c) in
      let there : CommentText t p j cs = subst (λ i. CommentText t i j cs) a c in
      let same = rest_unique (comment (at_start o.start) there f) o.line in (a, same)

  remark_known : (remark ∷ []) ++ kept p remark e ≡ kept p remark p
  unfolding kept
  remark_known = rw (lt-ltb p e o.later, le-ltb p p (omega arith)) refl

  takes_remark : {i j k : ℕ} {cs : List CommentValue} → CommentText t i j cs → BreakOrEnd t j k → Takes p remark i k cs
  takes_remark c f = let a = remark_is c f in record { taken = rw (a.0, a.1.0, a.1.1) remark_known }

  takes_rest : {i j : ℕ} {cs : List CommentValue} → LineRest t i j cs → Takes p remark i j cs
  takes_rest (nothing b) = takes_end b
  takes_rest (whites s b) = takes_two (takes_separation s) (takes_end b)
  takes_rest (comment s c b) = takes_two (takes_separation s) (takes_remark c b)

  takes_rows : {i j : ℕ} {cs : List CommentValue} → Chain (Row t) i j cs → Takes p remark i j cs
  takes_rows done = at_place remark refl
  takes_rows (step r c) = takes_two (takes_rest r.rest) (takes_rows c)

  pub end_takes : {i j : ℕ} {cs : List CommentValue} → LineEnd t i j cs → Takes p remark i j cs
  end_takes l = takes_rows (line_end_rows l)

  line_takes : {i j : ℕ} {cs : List CommentValue} → CommentLine t i j cs → Takes p remark i j cs
  line_takes (whites_line s b) = takes_two (takes_separation s) (takes_end b)
  line_takes (comment_line s c b) = takes_two (takes_separation s) (takes_remark c b)

  pub separate_takes : {n : ℤ} {c : Ctx} {i j : ℕ} {cs : List CommentValue} → Separate t n c i j cs → Takes p remark i j cs
  separate_takes (in_key k s) = takes_separation s
  separate_takes (in_node k (in_line s)) = takes_separation s
  separate_takes {i = i} {j = j} (in_node k (over_lines {x = x} l f)) =
      let a = (end_takes l).taken in let b = (takes_prefix f).taken in record { taken = ap (λ w. x ++ w) b ∙ a }

  line_forward : {i j : ℕ} {cs : List CommentValue} → CommentLine t i j cs → i ≤ j
  line_forward (whites_line s b) = let a = in_line_forward s in let c = break_or_end_forward b in omega arith
  line_forward (comment_line s c b) = let a = in_line_forward s in let f = remark_is c b in let l = o.later in omega (arith, f.0, f.1.0)

  pub part_takes : {i j : ℕ} {cs : List CommentValue} → PrefixPart t i j cs → Takes p remark i j cs
  part_takes (order_mark f) = absurd (o.chars.mark _ f)
  part_takes (prefix_comment c) = line_takes c

  pub prefix_takes : {i j : ℕ} {cs : List CommentValue} → Prefixes t i j cs → Takes p remark i j cs
  prefix_takes done = at_place remark refl
  prefix_takes (step q c) = takes_two (part_takes q) (prefix_takes c)

  pub prefix_forward : {i j : ℕ} {cs : List CommentValue} → Prefixes t i j cs → i ≤ j
  prefix_forward done = omega arith
  prefix_forward (step (order_mark f) c) = absurd (o.chars.mark _ f)
  prefix_forward (step (prefix_comment q) c) = let a = line_forward q in let b = prefix_forward c in omega arith

  -- comment lines pass no character of content except the comment's
  module _ {r : ℕ} (content : is_ns_char (code t r) ≡ true) (apart : p ≤ r → e ≤ r) where
    pub separation_side : {i j : ℕ} → SeparateInLine t i j → i ≤ r → j ≤ r
    separation_side s l = whites_side t r content (separate_whites s).1 l

    pub line_side : {i j : ℕ} {cs : List CommentValue} → CommentLine t i j cs → i ≤ r → j ≤ r
    line_side (whites_line s b) l = end_side t r content b (separation_side s l)
    line_side (comment_line {h = h} s c b) l =
        let a = remark_is c b in let m = separation_side s l in let f = apart (omega (arith, a.0, m)) in omega (arith, a.1.0, f)

    pub part_side : {i j : ℕ} {cs : List CommentValue} → PrefixPart t i j cs → i ≤ r → j ≤ r
    part_side (order_mark f) l = absurd (o.chars.mark _ f)
    part_side (prefix_comment c) l = line_side c l

    pub prefix_side : {i j : ℕ} {cs : List CommentValue} → Prefixes t i j cs → i ≤ r → j ≤ r
    prefix_side done l = l
    prefix_side (step q c) l = prefix_side c (part_side q l)

  -- after all dashes no document begins, and the comments still ahead are taken
  pub record Rest (i : ℕ) (x : Documents) : Type 0 where
    pub documents : x.documents ≡ []
    pub comments : x.comments ≡ kept p remark i

  pub before_end : (i c : ℕ) → code t i ≡ c → c < no_char → i < length t
  before_end i c f l = ⊎_elim (λ (m : i < length t). m) (λ (m : length t ≤ i). let a = code-past t i m in absurd (omega arith)) (cases_lt i (length t))

  nothing_kept : kept p remark (length t) ≡ []
  unfolding kept
  nothing_kept = rw (lt-ltb p (length t) (before_end p 35 o.sign (omega arith))) refl

  pub all_kept : kept p remark 0 ≡ remark ∷ []
  unfolding kept
  all_kept = rw (le-ltb p 0 (omega arith)) refl

  no_fence : {h i j : ℕ} {x : Meaning} → d ≤ i → ExplicitNode t h i j x → ⊥
  no_fence {i = i} l f =
      true≢false (sym (explicit_dash f) ∙ three_first t i 45 (λ e. let a = o.chars.dash i e in omega arith))

  part_forward : {i j : ℕ} {cs : List CommentValue} → PrefixPart t i j cs → i ≤ j
  part_forward (order_mark f) = absurd (o.chars.mark _ f)
  part_forward (prefix_comment q) = line_forward q

  pub rest_is : {h i : ℕ} {x : Documents} → d ≤ i → StreamRest t h i x → Rest i x
  unfolding with_comments
  rest_is l stream_ended = record { documents = refl; comments = sym nothing_kept }
  rest_is l (past_prefix {cs = cs} f r) =
      let g = part_forward f in
      let b = rest_is (omega arith) r in
      record { documents = b.documents; comments = ap (λ w. cs ++ w) b.comments ∙ (part_takes f).taken }
  rest_is l (past_suffixes s f r) = absurd (no_suffix t o.chars.sign s)
  rest_is l (past_suffixes_and_document s f a r) = absurd (no_suffix t o.chars.sign s)
  rest_is l (past_explicit f r) = absurd (no_fence l f)
