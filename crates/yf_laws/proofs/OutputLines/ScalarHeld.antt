-- A block scalar that is derived from its row: its lines begin after the line of its header, it reaches past each of
-- them, and its comments are well set.
use Rattle.std.proofs.Common.{◌≡◌, ◌≢◌, ℕ, ℤ, zero, suc, ◌+◌, ◌<◌, ◌≤◌, ◌⊎◌, inl, inr, ⊎_elim, Bool, true, false, List, [], ◌∷◌, ◌++◌, length, Option, None, refl, sym, ap, ◌∙◌, subst, arith, length-append}
use Rattle.std.specs.Prelude.{if◌then◌else◌}
use Rattle.std.specs.Str.{IsUtf8}
use Rattle.std.proofs.lemmas.Bool.{cases_eq, cases_lt}
use Rattle.std.proofs.lemmas.Bool.Decides.{nat_tests}
use Rattle.yf_chars.specs.Chain.{Chain}
use Rattle.yf_chars.specs.Chain.Chain.{done, step}
use Rattle.yf_chars.specs.Class.{is_white, is_white_or_end, is_break_char}
use Rattle.yf_chars.specs.Text.{code}
use Rattle.yf_chars.proofs.ChainLemmas.{chain_forward}
use Rattle.yf_lines.proofs.LineLemmas.{line_functional}
use Rattle.yf_lines.specs.Basic.{LineStart}
use Rattle.yf_lines.specs.Basic.LineStart.{after_break}
use Rattle.yf_lines.specs.LineText.{IsLineText}
use Rattle.yf_lines.specs.Lines.{LineEnd as EndOfLine, OneLine}
use Rattle.yf_lines.specs.Lines.LineEnd.{at_break, at_end}
use Rattle.yf_lines.specs.Lines.OneLine.{one_line}
use Rattle.yf_lines.specs.Rest.{Rest}
use Rattle.yf_lines.specs.declared.line.Line.{Line}
use Rattle.yf_lines.proofs.ClearLemmas.{Quiet, quiet_join}
use Rattle.yf_lines.proofs.RestLemmas.{rest_ascii, rest_text, rest_break}
use Rattle.yf_comments.specs.Comment.{CommentValue}
use Rattle.yf_comments.specs.Comments.{LineRest}
use Rattle.yf_comments.proofs.GapLinesLemmas.{texts, texts_append}
use Rattle.yf_comments.proofs.RowLemmas.{rest_unique}
use Rattle.yf_block_scalar.specs.Body.{Body, BodyValue, Trail, first_noted, is_gap_tail}
use Rattle.yf_block_scalar.specs.Body.Body.{indicated, detected, without_content}
use Rattle.yf_block_scalar.specs.Body.Trail.{comments, no_comment}
use Rattle.yf_block_scalar.specs.Content.{content_of, ending, feeds, folded, literal}
use Rattle.yf_block_scalar.specs.Written.{EndsWithContent}
use Rattle.yf_block_scalar.specs.Header.{BlockHeader, HeaderValue, Indicators, Style, Digit, Sign}
use Rattle.yf_block_scalar.specs.Header.BlockHeader.{block_header}
use Rattle.yf_block_scalar.specs.Header.Digit.{digit}
use Rattle.yf_block_scalar.specs.Header.Indicators.{neither, digit_alone, sign_alone, digit_sign, sign_digit}
use Rattle.yf_block_scalar.specs.Header.Sign.{strip_sign, keep_sign}
use Rattle.yf_block_scalar.specs.Header.Style.{literal_sign, folded_sign}
use Rattle.yf_block_scalar.specs.declared.header.Header.{Header}
use Rattle.yf_block_scalar.specs.declared.header.Chomp.{Chomp}
use Rattle.yf_block_scalar.specs.declared.header.Chomp.TheVariants.{Strip, Clip, Keep}
use Rattle.yf_block_scalar.proofs.HeaderLemmas.{marks_inside, rest_stop, stop_digit, stop_sign}
use Rattle.yf_block_scalar.proofs.LinesMade.{blanks_one, taken_all}
use Rattle.yf_block_scalar.proofs.PlacedScalar.{PlacedAt}
use Rattle.yf_props.specs.Props.{no_props}
use Rattle.yf_events.specs.Event.{EventInText, scalar_node}
use Rattle.yf_events.specs.declared.event.ScalarStyle.{ScalarStyle}
use Rattle.yf_grammar.specs.Productions.BlockScalar.{BlockScalar, LinesBetween, style_of, kept_lines, reach}
use Rattle.yf_grammar.specs.Productions.BlockScalar.BlockScalar.{block_scalar}
use Rattle.yf_grammar.specs.Productions.BlockScalar.LinesBetween.{counted}
use Rattle.yf_grammar.specs.Productions.Meaning.{Meaning, from_to}
use Rattle.yf_grammar.proofs.Ends.BlankRuns.{ContentBefore, after_byte}
use Rattle.yf_grammar.proofs.BlockOutcomes.BlockEnds.{LineOrEnd}
use Rattle.yf_grammar.proofs.WrittenTexts.ScalarPlaced.{ScalarNode, reaching}
use Rattle.yf_stream.proofs.Uniqueness.OneDirective.{ascii_ns}
use Rattle.yf_laws.specs.Layouts.RowComments.{IsDeco}
use Rattle.yf_laws.specs.Layouts.Decorated.{Deco, body_then, end_then, gap_then, trails_then}
use Rattle.yf_laws.proofs.Derived.ClearRows.{place_of_rest, trails_are, trails_bytes, trails_line}
use Rattle.yf_laws.proofs.Derived.RowEnds.{trails_at}
use Rattle.yf_laws.proofs.OutputLines.WellSet.{AllSet, set_append, end_at_line, own_set, rest_next}

-- Its end.

abbrev event_of : ScalarStyle → List ℕ → List (List ℕ) → ℕ → ℕ → EventInText
event_of style text lines i j = record { event = scalar_node no_props style text; span = from_to i j; tag_offset = None; entry = None; folded = lines }

-- a placed scalar as a node, and the lines from its header to its end
pub record ScalarReached (t : List ℕ) (n : ℤ) (h : Header) (ls : List (List ℕ)) (count : ℕ) (notes : List (List ℕ)) (q : ℕ) (r : List ℕ) : Type 0 where
  pub node : ScalarNode t n h ls count notes q r
  pub start : ℕ
  pub header : HeaderValue
  pub head : BlockHeader t q start header
  pub lines : ℕ
  pub between : LinesBetween t lines start node.meaning.finish
  pub many : length ls ≤ lines
  pub kept : h.chomp ≡ Keep → length ls + count ≤ lines
  pub exact : lines ≡ reach h.chomp (length ls) count
  pub value : BodyValue
  pub body : Body t n header.header start node.place value
  pub reaches : lines ≡ reach header.header.chomp (length value.lines) value.tail
  pub comments : node.meaning.comments ≡ header.comments ++ value.comments

pub feeds_long : (k : ℕ) → length (feeds k) ≡ k
feeds_long zero = refl
feeds_long (suc k) = ap suc (feeds_long k)

-- two equal contents with equal lines have tails of equal length
same_tails : (w : List ℕ) (tail count : ℕ) (o : Bool) → length (w ++ (if o then [] else feeds (tail + 1))) ≡ length (w ++ feeds (count + 1)) → count ≡ tail
same_tails w tail count true e =
    let l = length-append w (feeds (count + 1)) in
    let m = length-append w [] in
    let k = feeds_long (count + 1) in
    absurd (omega (arith, e, l, m, k))
same_tails w tail count false e =
    let l = length-append w (feeds (count + 1)) in
    let m = length-append w (feeds (tail + 1)) in
    let k = feeds_long (count + 1) in
    let j = feeds_long (tail + 1) in
    omega (arith, e, l, m, k, j)

abbrev text_of : Bool → List (List ℕ) → List ℕ
text_of f ls = if f then folded ls else literal ls

kept_parts : (f g : Bool) (c d : Chomp) (ls : List (List ℕ)) (tail count : ℕ) (o : Bool) → f ≡ g → c ≡ Keep → d ≡ Keep
    → text_of f ls ++ (if o then [] else ending c tail) ≡ text_of g ls ++ ending d count → count ≡ tail
kept_parts f g c d ls tail count o e m n same =
    same_tails (text_of f ls) tail count o (ap length (ap (λ k. text_of f ls ++ (if o then [] else ending k tail)) (sym m)
    ∙ (same ∙ (ap (λ b. text_of b ls ++ ending d count) (sym e) ∙ ap (λ k. text_of f ls ++ ending k count) n))))

kept_tail : (hh h : Header) (bl ls : List (List ℕ)) (tail count : ℕ) (o : Bool) → hh.folded ≡ h.folded → hh.chomp ≡ h.chomp → bl ≡ ls → EndsWithContent ls
    → content_of hh bl tail o ≡ content_of h ls count false → h.chomp ≡ Keep → count ≡ tail
kept_tail hh h bl [] tail count o e f g last same k = absurd last
kept_tail hh h bl (x ∷ ls) tail count o e f g last same k =
    kept_parts hh.folded h.folded hh.chomp h.chomp (x ∷ ls) tail count o e (f ∙ k) k (subst (λ w. content_of hh w tail o ≡ content_of h (x ∷ ls) count false) g same)

same_reach : (c d : Chomp) (l k m n : ℕ) → c ≡ d → l ≡ k → (d ≡ Keep → n ≡ m) → reach c l m ≡ reach d k n
same_reach c Strip l k m n e f g = ap (λ z. reach z l m) e ∙ f
same_reach c Clip l k m n e f g = ap (λ z. reach z l m) e ∙ f
same_reach c Keep l k m n e f g = let h = g refl in ap (λ z. reach z l m) e ∙ omega (arith, f, h)

reach_lines : (c : Chomp) (l k : ℕ) → l ≤ reach c l k
reach_lines Strip l k = omega arith
reach_lines Clip l k = omega arith
reach_lines Keep l k = omega arith

pub scalar_reached : {t : List ℕ} {n : ℤ} {h : Header} {ls : List (List ℕ)} {count : ℕ} {notes : List (List ℕ)} {q : ℕ} {r : List ℕ} → EndsWithContent ls
    → PlacedAt t n h ls count notes q r → ScalarReached t n h ls count notes q r
scalar_reached {t} {n} {h} {ls} {count} {notes} {q} {r} last a =
    let to = reaching a.header.header.chomp a.to_finish a.to_last in
    let c : Chomp = a.header.header.chomp in
    let long : length a.body.lines ≡ length ls = ap length a.lines in
    record {
      node = record {
        place = a.place;
        meaning = record {
          events = event_of (style_of a.header.header.folded) (content_of a.header.header a.body.lines a.body.tail a.body.open_end) (kept_lines a.header.header.folded a.body.lines) q to.end ∷ [];
          comments = a.header.comments ++ a.body.comments;
          escapes = [];
          finish = to.end;
        };
        derived = block_scalar a.head a.rest to.between;
        events = ap (λ x. event_of (style_of a.header.header.folded) x (kept_lines a.header.header.folded a.body.lines) q to.end ∷ []) a.content
            ∙ ap (λ x. event_of (style_of x) (content_of h ls count false) (kept_lines x a.body.lines) q to.end ∷ []) a.folded
            ∙ ap (λ x. event_of (style_of h.folded) (content_of h ls count false) (kept_lines h.folded x) q to.end ∷ []) a.lines;
        escapes = refl;
        is = texts_append a.header.comments a.body.comments ∙ a.is;
        rest = a.follows;
      };
      start = a.start;
      header = a.header;
      head = a.head;
      lines = reach c (length a.body.lines) a.body.tail;
      between = to.between;
      many = let l = reach_lines c (length a.body.lines) a.body.tail in omega (arith, l, long);
      kept = λ k.
          let tail : count ≡ a.body.tail = kept_tail a.header.header h a.body.lines ls a.body.tail count a.body.open_end a.folded a.chomp a.lines last a.content k in
          let all : reach c (length a.body.lines) a.body.tail ≡ length a.body.lines + a.body.tail = ap (λ z. reach z (length a.body.lines) a.body.tail) (a.chomp ∙ k) in
          omega (arith, tail, all, long);
      exact = same_reach c h.chomp (length a.body.lines) (length ls) a.body.tail count a.chomp long
          (kept_tail a.header.header h a.body.lines ls a.body.tail count a.body.open_end a.folded a.chomp a.lines last a.content);
      value = a.body;
      body = a.rest;
      reaches = refl;
      comments = refl;
    }

-- Its comments.

chain_next : {t : List ℕ} {i j : ℕ} {ls : List Line} → LineOrEnd t i → Chain (OneLine t) i j ls → LineOrEnd t j
chain_next l done = l
chain_next l (step (one_line m) c) = chain_next (by m.ends) c where
  by : {t : List ℕ} {h j : ℕ} → EndOfLine t h j → LineOrEnd t j
  by (at_break b) = inl (after_break b)
  by (at_end e) = inr e

noted_set : (t : List ℕ) (b : Bool) (cs : List CommentValue) → AllSet t cs → AllSet t (first_noted b cs)
noted_set t b [] a = tt
noted_set t b (c ∷ cs) a = (a.0, a.1)

trail_set : {t : List ℕ} {k i j : ℕ} {cs : List CommentValue} → LineOrEnd t i → Trail t k i j cs → AllSet t cs
trail_set l (comments m n s e c) = end_at_line l c.derived
trail_set l (no_comment n) = tt

body_set : {t : List ℕ} {n : ℤ} {h : Header} {i j : ℕ} {v : BodyValue} → IsUtf8 t → LineOrEnd t i → Body t n h i j v → AllSet t v.comments
body_set {t} {h = h} u l (indicated {count = count} {x = x} e a b) = noted_set t (is_gap_tail h.chomp count) x (trail_set (chain_next l (taken_all u a).chain) b)
body_set {t} {h = h} u l (detected {count = count} {x = x} e d a b) = noted_set t (is_gap_tail h.chomp count) x (trail_set (chain_next l (taken_all u a).chain) b)
body_set {t} {h = h} u l (without_content {widths = widths} {x = x} e a s b) = noted_set t (is_gap_tail h.chomp (length widths)) x (trail_set (chain_next l (blanks_one a).chain) b)

-- The line of its header.

-- the signs of a header
abbrev pub AllSigns : List ℕ → Type 0
AllSigns [] = Unit {0}
AllSigns (c ∷ cs) = ((36 ≤ c) × (c < 127)) × AllSigns cs

pub signs_append : (xs ys : List ℕ) → AllSigns xs → AllSigns ys → AllSigns (xs ++ ys)
signs_append [] ys a b = b
signs_append (x ∷ xs) ys a b = (a.0, signs_append xs ys a.1 b)

sign_no_stop : (c : ℕ) → 36 ≤ c → c < 127 → is_white_or_end c ≡ true → ⊥
unfolding is_white_or_end is_white is_break_char
sign_no_stop c l h e = grind (arith, nat_tests)

signs_there : {t : List ℕ} (w r : List ℕ) (q x : ℕ) → IsUtf8 t → AllSigns w → Rest t q (w ++ r) → q ≤ x → x < q + length w → (36 ≤ code t x) × (code t x < 127)
signs_there [] r q x u a s l m = absurd (omega (arith, l, m))
signs_there {t} (c ∷ w) r q x u a s l m =
    let got = rest_ascii c u (omega (arith, a.0.1)) (λ e. omega (arith, a.0.0, e)) s in
    ⊎_elim (λ (e : x ≡ q). let here : code t x ≡ c = ap (code t) e ∙ got.0.char in (omega (arith, here, a.0.0), omega (arith, here, a.0.1)))
    (λ (e : x ≢ q). signs_there w r (q + 1) x u a.1 got.1 (omega (arith, l, e)) (omega (arith, m)))
    (cases_eq x q)

-- the offsets of the style and the indicators hold signs
style_stop : {t : List ℕ} {i j : ℕ} {f : Bool} → Style t i j f → is_white_or_end (code t i) ≡ true → ⊥
style_stop {t} {i} (literal_sign e) w = sign_no_stop (code t i) (omega (arith, e)) (omega (arith, e)) w
style_stop {t} {i} (folded_sign e) w = sign_no_stop (code t i) (omega (arith, e)) (omega (arith, e)) w

style_next : {t : List ℕ} {i j : ℕ} {f : Bool} → Style t i j f → j ≡ i + 1
style_next (literal_sign e) = refl
style_next (folded_sign e) = refl

digit_next : {t : List ℕ} {i j d : ℕ} → Digit t i j d → j ≡ i + 1
digit_next (digit e) = refl

sign_next : {t : List ℕ} {i j : ℕ} {c : Chomp} → Sign t i j c → j ≡ i + 1
sign_next (strip_sign e) = refl
sign_next (keep_sign e) = refl

at_one : (t : List ℕ) (i x : ℕ) → (is_white_or_end (code t i) ≡ true → ⊥) → i ≡ x → is_white_or_end (code t x) ≡ true → ⊥
at_one t i x n e w = n (ap (λ k. is_white_or_end (code t k)) e ∙ w)

no_stop_within : {t : List ℕ} {h k x : ℕ} {d : Option ℕ} {c : Chomp} → Indicators t h k d c → h ≤ x → x < k → is_white_or_end (code t x) ≡ true → ⊥
no_stop_within neither l m w = absurd (omega (arith, l, m))
no_stop_within {t} {h = h} {x = x} (digit_alone a) l m w = let e = digit_next a in at_one t h x (stop_digit a) (omega (arith, l, m, e)) w
no_stop_within {t} {h = h} {x = x} (sign_alone a) l m w = let e = sign_next a in at_one t h x (stop_sign a) (omega (arith, l, m, e)) w
no_stop_within {t} {h = h} {x = x} (digit_sign {h = g} a b) l m w =
    let e = digit_next a in
    let f = sign_next b in
    ⊎_elim (λ (z : h ≡ x). at_one t h x (stop_digit a) z w) (λ (z : h ≢ x). at_one t g x (stop_sign b) (omega (arith, l, m, e, f, z)) w) (cases_eq h x)
no_stop_within {t} {h = h} {x = x} (sign_digit {h = g} a b) l m w =
    let e = sign_next a in
    let f = digit_next b in
    ⊎_elim (λ (z : h ≡ x). at_one t h x (stop_sign a) z w) (λ (z : h ≢ x). at_one t g x (stop_digit b) (omega (arith, l, m, e, f, z)) w) (cases_eq h x)

header_no_stop : {t : List ℕ} {i h k x : ℕ} {f : Bool} {d : Option ℕ} {c : Chomp} → Style t i h f → Indicators t h k d c → i ≤ x → x < k → is_white_or_end (code t x) ≡ true → ⊥
header_no_stop {t} {i = i} {x = x} s a l m w =
    let e = style_next s in
    ⊎_elim (λ (z : i ≡ x). at_one t i x (style_stop s) z w) (λ (z : i ≢ x). no_stop_within a (omega (arith, l, e, z)) m w) (cases_eq i x)

indicators_forward : {t : List ℕ} {h k : ℕ} {d : Option ℕ} {c : Chomp} → Indicators t h k d c → h ≤ k
indicators_forward neither = omega arith
indicators_forward (digit_alone a) = let e = digit_next a in omega (arith, e)
indicators_forward (sign_alone a) = let e = sign_next a in omega (arith, e)
indicators_forward (digit_sign a b) = let e = digit_next a in let f = sign_next b in omega (arith, e, f)
indicators_forward (sign_digit a b) = let e = sign_next a in let f = digit_next b in omega (arith, e, f)

stop_at_end : {t : List ℕ} {q : ℕ} (xs : List (List ℕ)) (r : List ℕ) → IsUtf8 t → Rest t q (trails_then xs (10 ∷ r)) → is_white_or_end (code t q) ≡ true
unfolding is_white_or_end is_white is_break_char
stop_at_end [] r u s = ap is_white_or_end (rest_ascii 10 u (omega arith) (λ e. absurd (omega arith)) s).0.char
stop_at_end (x ∷ xs) r u s = ap is_white_or_end (rest_ascii 32 u (omega arith) (λ e. absurd (omega arith)) s).0.char

-- a header of signs ends at the end of its bytes
pub header_ends : {t : List ℕ} {q h k j : ℕ} {f : Bool} {d : Option ℕ} {c : Chomp} {cs : List CommentValue} (w : List ℕ) (xs : List (List ℕ)) (r : List ℕ) → IsUtf8 t → AllSigns w → w ≢ []
    → Rest t q (w ++ trails_then xs (10 ∷ r)) → Rest t (q + length w) (trails_then xs (10 ∷ r)) → Style t q h f → Indicators t h k d c → LineRest t k j cs → k ≡ q + length w
header_ends {t} {q} {h} {k} w xs r u a some s end style marks rest =
    let stop : is_white_or_end (code t k) ≡ true = rest_stop (marks_inside u style marks) rest in
    let first = style_next style in
    let later = indicators_forward marks in
    ⊎_elim (λ (l : k < q + length w). absurd (let at = signs_there w (trails_then xs (10 ∷ r)) q k u a s (omega (arith, first, later)) l in sign_no_stop (code t k) at.0 at.1 stop))
    (λ (l : q + length w ≤ k).
    ⊎_elim (λ (e : k ≡ q + length w). e)
    (λ (n : k ≢ q + length w). absurd (header_no_stop style marks (omega arith) (omega (arith, l, n)) (stop_at_end xs r u end)))
    (cases_eq k (q + length w)))
    (cases_lt k (q + length w))

pub after_signs : {t : List ℕ} (w r : List ℕ) (q : ℕ) → IsUtf8 t → AllSigns w → w ≢ [] → Rest t q (w ++ r) → ContentBefore t (q + length w)
after_signs [] r q u a some s = absurd (some refl)
after_signs {t} (c ∷ w) r q u a some s =
    let at = signs_there (c ∷ w) r q (q + length w) u a s (omega arith) (omega arith) in
    let place : q + length w + 1 ≡ q + length (c ∷ w) = omega arith in
    subst (λ k. ContentBefore t k) place (after_byte (q + length w) u refl (omega (arith, at.1)) (ascii_ns (code t (q + length w)) (omega (arith, at.0)) at.1))

-- the start of its lines
pub record HeaderPassed (t : List ℕ) (q place : ℕ) (z : List ℕ) : Type 0 where
  pub rest : Rest t place z
  pub start : LineStart t place
  pub before : q < place
  pub quiet : (h : ℕ) → q < h → h < place → LineStart t h → ⊥

pub scalar_comments : {t : List ℕ} {n : ℤ} {q j : ℕ} {m : Meaning} (w : List ℕ) (d : Deco) (body : List (List ℕ)) (r : List ℕ) → IsUtf8 t → AllSigns w → w ≢ [] → IsDeco d
    → Rest t q (w ++ end_then d body r) → Rest t (q + length w) (end_then d body r) → BlockScalar t n q j m → AllSet t m.comments
scalar_comments {t} {q = q} w d body r u a some k s end (block_scalar {k = place} {b = b} (block_header {x = x} style marks rest) lines between) =
    let z : List ℕ = body_then body (gap_then d.gap r) in
    let same = header_ends w d.trails z u a some s end style marks rest in
    let seen = after_signs w (end_then d body r) q u a some s in
    set_append t x b.comments (own_set d body r u seen k end (subst (λ i. LineRest t i place x) same rest)) (body_set u (rest_next rest) lines)

pub passed_header : {t : List ℕ} {q j : ℕ} {v : HeaderValue} (w : List ℕ) (d : Deco) (body : List (List ℕ)) (r : List ℕ) → IsUtf8 t → IsLineText w → AllSigns w → w ≢ [] → IsDeco d
    → Rest t q (w ++ end_then d body r) → BlockHeader t q j v → HeaderPassed t q j (body_then body (gap_then d.gap r))
passed_header {t} {q} w d body r u text a some k s (block_header {j = j} {x = x} style marks rest) =
    let z : List ℕ = body_then body (gap_then d.gap r) in
    let at = rest_text w u text s in
    let line = trails_at d.trails z u k.trails at.rest in
    let same = header_ends w d.trails z u a some s at.rest style marks rest in
    let place : j ≡ line.place = (rest_unique (subst (λ i. LineRest t i j x) same rest) line.line).0 in
    let trail = rest_text (trails_bytes d.trails) u (trails_line d.trails k.trails) (subst (λ y. Rest t (q + length w) y) (trails_are d.trails (10 ∷ z)) at.rest) in
    let whole : Quiet t q (q + length w + length (trails_bytes d.trails)) = quiet_join at.quiet trail.quiet in
    let end = rest_break u trail.rest in
    let there : j ≡ q + length w + length (trails_bytes d.trails) + 1 = place_of_rest (subst (λ i. Rest t i z) (sym place) line.rest) end.1 in
    record {
      rest = subst (λ i. Rest t i z) (sym place) line.rest;
      start = subst (λ i. LineStart t i) (sym place) line.start;
      before = omega (arith, there);
      quiet = λ h l m. whole.none h l (omega (arith, m, there));
    }

-- the comments on its line
pub record HeaderNotes (t : List ℕ) (q place : ℕ) (own : List CommentValue) (xs : List (List ℕ)) : Type 0 where
  pub at : ℕ
  pub from : q ≤ at
  pub line : LineRest t at place own
  pub is : texts own ≡ xs

pub header_notes : {t : List ℕ} {q j : ℕ} {v : HeaderValue} (w : List ℕ) (d : Deco) (body : List (List ℕ)) (r : List ℕ) → IsUtf8 t → IsLineText w → AllSigns w → w ≢ [] → IsDeco d
    → Rest t q (w ++ end_then d body r) → BlockHeader t q j v → HeaderNotes t q j v.comments d.trails
header_notes {t} {q} w d body r u text a some k s (block_header {j = j} {x = x} style marks rest) =
    let z : List ℕ = body_then body (gap_then d.gap r) in
    let at = rest_text w u text s in
    let line = trails_at d.trails z u k.trails at.rest in
    let same = header_ends w d.trails z u a some s at.rest style marks rest in
    let notes : x ≡ line.notes = (rest_unique (subst (λ i. LineRest t i j x) same rest) line.line).1 in
    let first = style_next style in
    let later = indicators_forward marks in
    record { at = _; from = omega (arith, first, later); line = rest; is = ap texts notes ∙ line.is }

-- its first character
pub header_char : {t : List ℕ} {i j : ℕ} {v : HeaderValue} → BlockHeader t i j v → (code t i ≡ 124) ⊎ (code t i ≡ 62)
header_char (block_header (literal_sign e) marks rest) = inl e
header_char (block_header (folded_sign e) marks rest) = inr e

pub lines_forward : {t : List ℕ} {n i j : ℕ} → LinesBetween t n i j → i ≤ j
lines_forward {t} (counted c e) = chain_forward (line_functional t) c
