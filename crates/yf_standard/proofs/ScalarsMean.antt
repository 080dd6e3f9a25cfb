-- Whole block scalars (8.1): the content and the comments of each derivation are those that are read.
use Rattle.std.proofs.Common.{◌≡◌, ℕ, ◌+◌, ◌<◌, ◌≤◌, ℤ, pos, Bool, true, false, List, [], ◌∷◌, ◌++◌, length, map, encode_utf8_all, Option, Some, None, refl, sym, ap, ◌∙◌, subst, append-nil, arith}
use Rattle.std.specs.Str.{IsUtf8}
use Rattle.yf_chars.specs.Text.{code, next}
use Rattle.yf_lines.specs.Basic.{LineStart, Clear}
use Rattle.yf_comments.specs.Comment.{CommentValue}
use Rattle.yf_comments.specs.Comments.{LineRest}
use Rattle.yf_props.specs.Props.{no_props}
use Rattle.yf_events.specs.Event.{scalar_node}
use Rattle.yf_block_scalar.specs.Header.{Style, Indicators}
use Rattle.yf_block_scalar.specs.Header.Style.{literal_sign, folded_sign}
use Rattle.yf_block_scalar.specs.Header.BlockHeader.{block_header}
use Rattle.yf_block_scalar.specs.Body.{base, first_noted, is_gap_tail, LinesTaken, Trail, Body, BodyValue}
use Rattle.yf_block_scalar.specs.Body.Lines.{no_content}
use Rattle.yf_block_scalar.specs.Body.Body.{indicated, detected, without_content as body_without_content}
use Rattle.yf_block_scalar.specs.Content.{content_of}
use Rattle.yf_grammar.specs.Productions.BlockScalar.{BlockScalar, style_of}
use Rattle.yf_grammar.specs.Productions.Meaning.{Meaning}
use Rattle.yf_grammar.specs.Productions.BlockScalar.BlockScalar.{block_scalar}
use Rattle.yf_standard.specs.Characters.{Set, c-literal, c-folded}
use Rattle.yf_standard.specs.Notation.{Form, Chomping}
use Rattle.yf_standard.specs.Notation.Chomping.{STRIP, CLIP, KEEP}
use Rattle.yf_standard.specs.Notation.Indicator.{GIVEN, DETECTED}
use Rattle.yf_standard.specs.Notation.Condition.{auto-detect, is-sum}
use Rattle.yf_standard.specs.Notation.Form.{‹◌›, ◌∣◌, ⟨◌⟩, some-m, some-k, c-b-block-header, l-literal-content, l-folded-content, ◌∙◌ as ◌then◌}
use Rattle.yf_standard.specs.Productions.{rule}
use Rattle.yf_standard.specs.Rules.{read, AutoDetect}
use Rattle.yf_standard.specs.Rules.AutoDetect.{by_first_line, without_content}
use Rattle.yf_standard.specs.Literal.{Derived, kind}
use Rattle.yf_standard.specs.Literal.Derived.{by_rule, by_collection, one_of, one_then, in_left, in_right, where_holds, for_some_m, for_some_k}
use Rattle.yf_standard.specs.Contents.{Mark, marks, meant, content, content_made, but_first}
use Rattle.yf_standard.specs.ContentLaws.{chomp_of, BlockContent}
use Rattle.yf_standard.specs.Tokens.{Token, tokens, tokens_made, notes}
use Rattle.yf_standard.specs.Tokens.Token.{a_scalar}
use Rattle.yf_standard.specs.TokenLaws.{BlockScalarMeans, LiteralScalars, FoldedScalars}
use Rattle.yf_standard.proofs.Meant.{means}
use Rattle.yf_standard.proofs.Monotone.{forward}
use Rattle.yf_standard.proofs.Reading.{no_operator, no_operator_opens}
use Rattle.yf_standard.proofs.Basics.{char_is}
use Rattle.yf_standard.proofs.Closed.{is_collection, not_opening}
use Rattle.yf_standard.proofs.CommentsMeant.{notes_append}
use Rattle.yf_standard.proofs.ScalarsRead.{trail_values}
use Rattle.yf_standard.proofs.ScalarsWhole.{taken_read, trail_of, shallower}
use Rattle.yf_standard.proofs.BlockWhole.{BlockRead, literal_mean, block_whole}
use Rattle.yf_standard.proofs.LiteralMeant.{LiteralText}
use Rattle.yf_standard.proofs.FoldedMeant.{Groups}
use Rattle.yf_standard.proofs.FoldedLines.{groups_mean}
use Rattle.yf_standard.proofs.BlockNoted.{HeaderNoted, ContentNoted}
use Rattle.yf_standard.proofs.ContentAdded.{Adds, contents}
use Rattle.yf_standard.proofs.ContentLawsHold.{zone}
use Rattle.yf_standard.proofs.TokensAdded.{Has, names}
use Rattle.yf_chars.proofs.TextLemmas.{next_later}
use Rattle.yf_lines.proofs.BasicLemmas.{clear_back}
use Rattle.yf_comments.proofs.LineEndLemmas.{next_starts}
use Rattle.yf_block_scalar.proofs.BodyLemmas.{taken_starts}
use Rattle.yf_block_scalar.proofs.UniqueLemmas.{taken_unique}
use Rattle.yf_block.proofs.LineSteps.ScalarLines.{body_between}
use Rattle.yf_grammar.proofs.Prefixes.PrefixComments.{rest_within}

-- a body with that text and these tokens
record ScalarBody (t : List ℕ) (n : ℤ) (f : Bool) (d : Option ℕ) (c : Chomping) (i j : ℕ) (x : List ℕ) (z : List Token) : Type 0 where
  pub value : BodyValue
  pub body : Body t n (record { folded = f; digit = d; chomp = chomp_of c }) i j value
  pub bytes : encode_utf8_all x ≡ content_of (record { folded = f; digit = d; chomp = chomp_of c }) value.lines value.tail value.open_end
  pub comments : z ≡ notes value.comments

-- the digit doesn't affect content, nor a note tokens
same_content : (f : Bool) (d : Option ℕ) (c : Chomping) (ls : List (List ℕ)) (count : ℕ) (o : Bool)
    → content_of (record { folded = f; digit = None; chomp = chomp_of c }) ls count o ≡ content_of (record { folded = f; digit = d; chomp = chomp_of c }) ls count o
same_content f d c [] count o = refl
same_content f d c (x ∷ ls) count o = refl

same_notes : (b : Bool) (x : List CommentValue) → notes (first_noted b x) ≡ notes x
same_notes b [] = refl
same_notes b (c ∷ x) = refl

module _ {t : List ℕ} {low high : ℕ} (clear : Clear t low high) where
  -- the trail begins at the end of the content's lines
  trail_there : {k b j p count : ℕ} {ls : List (List ℕ)} {o : Bool} {z : List Token} → (b < length t → LineStart t b) → low ≤ b → j ≤ high → LinesTaken t k b ls o count p
      → (r : ContentNoted t k b j z) → Trail t k p j (trail_values r.content.ending.trail)
  trail_there {k} {j = j} s l h a r =
      let v = taken_read clear s l h r.content in
      subst (λ p. Trail t k p j (trail_values r.content.ending.trail)) ((taken_unique v.taken a).0) (trail_of (taken_starts s v.taken) r.content.ending.trail)

  body_of : {n : ℤ} {f o : Bool} {d : Option ℕ} {c : Chomping} {b j count : ℕ} {ls : List (List ℕ)} {x : List ℕ} {z : List Token} (w : List CommentValue)
      → Body t n (record { folded = f; digit = d; chomp = chomp_of c }) b j (record { lines = ls; open_end = o; tail = count; comments = first_noted (is_gap_tail (chomp_of c) count) w })
      → encode_utf8_all x ≡ content_of (record { folded = f; digit = None; chomp = chomp_of c }) ls count o → z ≡ notes w → ScalarBody t n f d c b j x z
  body_of {f = f} {o} {d} {c} {count = count} {ls = ls} w a e q = record {
    value = record { lines = ls; open_end = o; tail = count; comments = first_noted (is_gap_tail (chomp_of c) count) w };
    body = a;
    bytes = e ∙ same_content f d c ls count o;
    comments = q ∙ sym (same_notes (is_gap_tail (chomp_of c) count) w);
  }

  digit_scalar : {n : ℤ} {f : Bool} {c : Chomping} {m b j : ℕ} {y : List Mark} {z : List Token} → (b < length t → LineStart t b) → low ≤ b → j ≤ high
      → (a : BlockContent t f c (base n + m) b y) → ContentNoted t (base n + m) b j z → ScalarBody t n f (Some m) c b j a.text z
  digit_scalar s l h a r = body_of (trail_values r.content.ending.trail) (indicated refl a.taken (trail_there s l h a.taken r)) a.bytes r.tokens

  plain_scalar : {n : ℤ} {f : Bool} {c : Chomping} {k b j : ℕ} {y : List Mark} {z : List Token} → (b < length t → LineStart t b) → low ≤ b → j ≤ high → AutoDetect t n b (pos k)
      → (a : BlockContent t f c k b y) → ContentNoted t k b j z → ScalarBody t n f None c b j a.text z
  plain_scalar s l h (by_first_line d) a r = body_of (trail_values r.content.ending.trail) (detected refl d a.taken (trail_there s l h a.taken r)) a.bytes r.tokens
  plain_scalar {f = f} {c} {k} {b} s l h (without_content {p = p} {widths = ws} g x o v none) a r =
      let mine : LinesTaken t k b [] false (length ws) p = record { end = b; lines = no_content; tail = record { widths = ws; lines = g; within = o; counts = refl }; most = none.none k refl } in
      let u = taken_unique a.taken mine in
      body_of (trail_values r.content.ending.trail) (body_without_content refl g x (shallower x v (trail_there s l h mine r)))
      (a.bytes ∙ ap (λ v. content_of (record { folded = f; digit = None; chomp = chomp_of c }) v a.tail a.left_open) u.1
      ∙ ap (λ v. content_of (record { folded = f; digit = None; chomp = chomp_of c }) [] v a.left_open) u.3)
      r.tokens

-- a block scalar, and the comments after its header and its lines
record ScalarIs (t : List ℕ) (n : ℤ) (f : Bool) (i j : ℕ) (y : List Mark) (z : List Token) : Type 0 where
  pub value : Meaning
  pub derived : BlockScalar t n i j value
  pub text : List ℕ
  pub added : y ≡ marks text
  pub event : map (λ e. e.event) value.events ≡ scalar_node no_props (style_of f) (encode_utf8_all text) ∷ []
  pub comments : z ≡ notes value.comments

whole_scalar : {t : List ℕ} {n : ℤ} {f : Bool} {i j : ℕ} {y : List Mark} {z : List Token} → ScalarIs t n f i j y z → BlockScalarMeans t n f i j y (a_scalar (style_of f) y ∷ z)
whole_scalar {f = f} {y = y} b = record { value = b.value; derived = b.derived; text = b.text; added = b.added; event = b.event; tokens = ap (λ v. a_scalar (style_of f) y ∷ v) b.comments }

-- with its header
scalar_of : {t : List ℕ} {n : ℤ} {f : Bool} {d : Option ℕ} {c : Chomping} {i a g h j : ℕ} {w : List CommentValue} {x : List ℕ} {z : List Token} → IsUtf8 t
    → Style t i a f → Indicators t a g d (chomp_of c) → LineRest t g h w → ScalarBody t n f d c h j x z → {y : List Mark} {v : List Token} → y ≡ marks x → v ≡ notes w ++ z
    → ScalarIs t n f i j y v
scalar_of {f = f} {w = w} {x = x} u s m r b p q = record {
  value = _;
  derived = block_scalar (block_header s m r) b.body (body_between u b.body (rest_within r)).between;
  text = x;
  added = p;
  event = ap (λ v. scalar_node no_props (style_of f) v ∷ []) (sym b.bytes);
  comments = q ∙ ap (λ v. notes w ++ v) b.comments ∙ sym (notes_append w b.value.comments);
}

abbrev pub HeaderForm : ℤ → Chomping → ℤ → Form
HeaderForm n c k = some-m (λ m. c-b-block-header (GIVEN m) c then (⟨ is-sum n m k ⟩)) ∣ c-b-block-header DETECTED c then (⟨ auto-detect n k ⟩)

width_of : {t : List ℕ} {n k : ℤ} {i : ℕ} → AutoDetect t n i k → (m : ℕ) × (k ≡ pos m)
width_of (by_first_line {k = m} d) = (m, refl)
width_of (without_content {k = m} c s l g o) = (m, refl)

-- the facts about the content after the header
abbrev pub ContentIs : List ℕ → Bool → Chomping → ℤ → ℕ → List Mark → Type 0
ContentIs t f c k b y = (h : ℕ) → k ≡ pos h → (b < length t → LineStart t b) → BlockContent t f c h b y

abbrev pub NotesAre : List ℕ → ℤ → ℕ → ℕ → List Token → Type 0
NotesAre t k b j z = (h : ℕ) → k ≡ pos h → ContentNoted t h b j z

module _ {t : List ℕ} {i j : ℕ} (u : IsUtf8 t) (clear : Clear t i j) {n : ℤ} {f : Bool} where
  with_header : {e a b : ℕ} {c : Chomping} {k : ℤ} {y : List Mark} {z : List Token} → Style t i a f → i ≤ b → b ≤ j → (d : Derived (read t) t e (HeaderForm n c k) a b) → ContentIs t f c k b y → NotesAre t k b j z
      → ScalarIs t n f i j (content d ++ y) (tokens d ++ z)
  unfolding meant read kind Adds Has
  with_header {b = b} {c = c} {y = y} {z = z} s l h (in_left (for_some_m m (one_then d (where_holds q)))) g v =
      let e : content d ≡ [] = means (contents t (zone t u j)) (omega arith) h d in
      let o : HeaderNoted t (GIVEN m) c _ b (tokens d) = means (names t (zone t u j)) (omega arith) h d in
      let w = next_starts o.rest in
      let x : BlockContent t f c (base n + m) b y = g (base n + m) q w in
      scalar_of u s o.indicators o.rest (digit_scalar clear w l (omega arith) x (v (base n + m) q)) (ap (λ v. (v ++ []) ++ y) e ∙ x.added)
      (ap (λ v. (v ++ []) ++ z) o.tokens ∙ ap (λ v. v ++ z) (append-nil (notes o.value)))
  with_header {b = b} {c = c} {k = k} {y = y} {z = z} s l h (in_right (one_then d (where_holds q))) g v =
      let e : content d ≡ [] = means (contents t (zone t u j)) (omega arith) h d in
      let o : HeaderNoted t DETECTED c _ b (tokens d) = means (names t (zone t u j)) (omega arith) h d in
      let w = next_starts o.rest in
      let p : (m : ℕ) × (k ≡ pos m) = width_of q in
      let x : BlockContent t f c p.0 b y = g p.0 p.1 w in
      scalar_of u s o.indicators o.rest (plain_scalar clear w l (omega arith) (subst (λ m. AutoDetect t n b m) p.1 q) x (v p.0 p.1)) (ap (λ v. (v ++ []) ++ y) e ∙ x.added)
      (ap (λ v. (v ++ []) ++ z) o.tokens ∙ ap (λ v. v ++ z) (append-nil (notes o.value)))
  with_header s l h (by_rule q r) g v = no_operator q
  with_header s l h (by_collection q o r) g v = no_operator_opens q
  with_header s l h (in_left (by_rule q r)) g v = no_operator q
  with_header s l h (in_left (by_collection q o r)) g v = no_operator_opens q
  with_header s l h (in_left (for_some_m m (by_rule q r))) g v = no_operator q
  with_header s l h (in_left (for_some_m m (by_collection q o r))) g v = no_operator_opens q
  with_header s l h (in_left (for_some_m m (one_then d (by_rule q r)))) g v = no_operator q
  with_header s l h (in_left (for_some_m m (one_then d (by_collection q o r)))) g v = no_operator_opens q
  with_header s l h (in_right (by_rule q r)) g v = no_operator q
  with_header s l h (in_right (by_collection q o r)) g v = no_operator_opens q
  with_header s l h (in_right (one_then d (by_rule q r))) g v = no_operator q
  with_header s l h (in_right (one_then d (by_collection q o r))) g v = no_operator_opens q

  -- the sign, the header and the content
  scalar_by : {e : ℕ} {c : Chomping} (p : Set) (body : ℤ → Chomping → Form) → ((i : ℕ) → p (code t i) ≡ true → Style t i (next t i) f)
      → ((k : ℤ) (b : ℕ) → i ≤ b → (d : Derived (read t) t e (body k c) b j) → ContentIs t f c k b (content d))
      → ((k : ℤ) (b : ℕ) → (d : Derived (read t) t e (body k c) b j) → NotesAre t k b j (tokens d))
      → (d : Derived (read t) t e (some-k (λ k. (‹ p ›) then (HeaderForm n c k then body k c))) i j) → ScalarIs t n f i j (but_first (content d)) (tokens d)
  unfolding meant kind but_first
  scalar_by p body sign g v (for_some_k k (one_then (one_of s) (one_then {k = b} d r))) =
      let a = next_later t i in
      let o = forward d in
      let m : i ≤ b = omega (arith, a, o) in
      with_header (sign i s) m (forward r) d (g k b m r) (v k b r)
  scalar_by p body sign g v (by_rule q r) = no_operator q
  scalar_by p body sign g v (by_collection q o r) = no_operator_opens q
  scalar_by p body sign g v (for_some_k k (by_rule q r)) = no_operator q
  scalar_by p body sign g v (for_some_k k (by_collection q o r)) = no_operator_opens q
  scalar_by p body sign g v (for_some_k k (one_then (by_rule q r) x)) = no_operator q
  scalar_by p body sign g v (for_some_k k (one_then (by_collection q o r) x)) = no_operator_opens q
  scalar_by p body sign g v (for_some_k k (one_then (one_of s) (by_rule q r))) = no_operator q
  scalar_by p body sign g v (for_some_k k (one_then (one_of s) (by_collection q o r))) = no_operator_opens q

-- [170]
literal_by : (t : List ℕ) (e i j : ℕ) (n : ℤ) (c : Chomping) → IsUtf8 t → Clear t i j
    → (d : Derived (read t) t e (some-k (λ k. (‹ c-literal ›) then (HeaderForm n c k then l-literal-content k c))) i j) → ScalarIs t n false i j (but_first (content d)) (tokens d)
unfolding Adds Has c-literal
literal_by t e i j n c u w d = scalar_by u w c-literal l-literal-content sign lines comments d where
  sign : (i : ℕ) → c-literal (code t i) ≡ true → Style t i (next t i) false
  sign i s = let a = char_is t i (next t i) 124 (omega arith) (s, refl) in subst (λ k. Style t i k false) a.1 (literal_sign a.0)

  lines : (k : ℤ) (b : ℕ) → i ≤ b → (d : Derived (read t) t e (l-literal-content k c) b j) → ContentIs t false c k b (content d)
  lines k b l d h q s =
      let m : (h : ℕ) → k ≡ pos h → BlockRead t (LiteralText t h) c h b j (content d) = means (contents t (zone t u j)) (omega arith) (omega arith) d in
      block_whole (λ z h o y a l e. literal_mean a) (clear_back l w) s (m h q)

  comments : (k : ℤ) (b : ℕ) → (d : Derived (read t) t e (l-literal-content k c) b j) → NotesAre t k b j (tokens d)
  comments k b d = means (names t (zone t u j)) (omega arith) (omega arith) d

pub literal_scalars : LiteralScalars
unfolding rule kind meant content_made tokens_made is_collection
literal_scalars t e i j n u w (by_rule q (in_left d)) = whole_scalar (literal_by t e i j n STRIP u w d)
literal_scalars t e i j n u w (by_rule q (in_right (in_left d))) = whole_scalar (literal_by t e i j n CLIP u w d)
literal_scalars t e i j n u w (by_rule q (in_right (in_right d))) = whole_scalar (literal_by t e i j n KEEP u w d)
literal_scalars t e i j n u w (by_rule q (by_rule o d)) = no_operator o
literal_scalars t e i j n u w (by_rule q (by_collection o l d)) = no_operator_opens o
literal_scalars t e i j n u w (by_rule q (in_right (by_rule o d))) = no_operator o
literal_scalars t e i j n u w (by_rule q (in_right (by_collection o l d))) = no_operator_opens o
literal_scalars t e i j n u w (by_collection q l d) = not_opening refl q

-- [174]
folded_by : (t : List ℕ) (e i j : ℕ) (n : ℤ) (c : Chomping) → IsUtf8 t → Clear t i j
    → (d : Derived (read t) t e (some-k (λ k. (‹ c-folded ›) then (HeaderForm n c k then l-folded-content k c))) i j) → ScalarIs t n true i j (but_first (content d)) (tokens d)
unfolding Adds Has c-folded
folded_by t e i j n c u w d = scalar_by u w c-folded l-folded-content sign lines comments d where
  sign : (i : ℕ) → c-folded (code t i) ≡ true → Style t i (next t i) true
  sign i s = let a = char_is t i (next t i) 62 (omega arith) (s, refl) in subst (λ k. Style t i k true) a.1 (folded_sign a.0)

  lines : (k : ℤ) (b : ℕ) → i ≤ b → (d : Derived (read t) t e (l-folded-content k c) b j) → ContentIs t true c k b (content d)
  lines k b l d h q s =
      let m : (h : ℕ) → k ≡ pos h → BlockRead t (Groups t h) c h b j (content d) = means (contents t (zone t u j)) (omega arith) (omega arith) d in
      let v : Clear t b j = clear_back l w in
      block_whole (λ z h o y a l e. groups_mean u v s (omega arith) a l e) v s (m h q)

  comments : (k : ℤ) (b : ℕ) → (d : Derived (read t) t e (l-folded-content k c) b j) → NotesAre t k b j (tokens d)
  comments k b d = means (names t (zone t u j)) (omega arith) (omega arith) d

pub folded_scalars : FoldedScalars
unfolding rule kind meant content_made tokens_made is_collection
folded_scalars t e i j n u w (by_rule q (in_left d)) = whole_scalar (folded_by t e i j n STRIP u w d)
folded_scalars t e i j n u w (by_rule q (in_right (in_left d))) = whole_scalar (folded_by t e i j n CLIP u w d)
folded_scalars t e i j n u w (by_rule q (in_right (in_right d))) = whole_scalar (folded_by t e i j n KEEP u w d)
folded_scalars t e i j n u w (by_rule q (by_rule o d)) = no_operator o
folded_scalars t e i j n u w (by_rule q (by_collection o l d)) = no_operator_opens o
folded_scalars t e i j n u w (by_rule q (in_right (by_rule o d))) = no_operator o
folded_scalars t e i j n u w (by_rule q (in_right (by_collection o l d))) = no_operator_opens o
folded_scalars t e i j n u w (by_collection q l d) = not_opening refl q
