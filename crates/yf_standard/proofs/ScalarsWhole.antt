-- Whole block scalars (8.1): from the relations of the standard's productions to `BlockScalar`, if no forbidden line is
-- covered.
use Rattle.std.proofs.Common.{◌≡◌, ◌≢◌, ℕ, zero, suc, ◌+◌, ◌<◌, ◌≤◌, ℤ, pos, Bool, true, false, true≢false, List, [], ◌∷◌, ◌++◌, length, slice_range, Option, Some, None, refl, sym, ap, ◌∙◌, subst, ◌⊎◌, inl, inr, ⊎_elim, arith}
use Rattle.std.proofs.lemmas.Bool.{cases_lt, cases_eq, cases_Bool}
use Rattle.std.specs.Str.{IsUtf8}
use Rattle.yf_chars.specs.declared.context.Ctx.TheVariants.{BlockIn}
use Rattle.yf_chars.specs.Text.{code}
use Rattle.yf_chars.specs.Class.{is_nb_char}
use Rattle.yf_chars.specs.Chain.{Chain, Many, Stuck}
use Rattle.yf_chars.specs.Chain.Chain.{done, step}
use Rattle.yf_chars.specs.ClassEnds.{no_nb_char}
use Rattle.yf_lines.specs.Basic.{LineStart, Spaces, Empty, Clear, is_marker}
use Rattle.yf_lines.specs.Basic.LineStart.{after_break}
use Rattle.yf_comments.specs.Comment.{CommentValue}
use Rattle.yf_comments.specs.Comments.{CommentText, BreakOrEnd, LineRest, CommentLine, LineEnd, Row}
use Rattle.yf_comments.specs.Comments.CommentText.{comment_text}
use Rattle.yf_comments.specs.Comments.BreakOrEnd.{by_break, by_end}
use Rattle.yf_comments.specs.Comments.LineRest.{comment}
use Rattle.yf_comments.specs.Comments.CommentLine.{whites_line, comment_line}
use Rattle.yf_comments.specs.Comments.LineEnd.{past_rest, from_start}
use Rattle.yf_block_scalar.specs.Header.{Style, Indicators}
use Rattle.yf_block_scalar.specs.Header.BlockHeader.{block_header}
use Rattle.yf_block_scalar.specs.Body.{base, least, EmptyLines, Ends, LineContent, Line, Tail, LinesTaken, Shallow, Trail, Body, BodyValue}
use Rattle.yf_block_scalar.specs.Body.EmptyLines.{bare}
use Rattle.yf_block_scalar.specs.Body.Ends.{by_break as ends_by_break}
use Rattle.yf_block_scalar.specs.Body.LineContent.{content}
use Rattle.yf_block_scalar.specs.Body.Line.{empty_line, content_line}
use Rattle.yf_block_scalar.specs.Body.Lines.{no_content, up_to}
use Rattle.yf_block_scalar.specs.Body.Trail.{comments, no_comment}
use Rattle.yf_block_scalar.specs.Body.Body.{indicated, detected, without_content as body_without_content}
use Rattle.yf_grammar.specs.Productions.BlockScalar.{BlockScalar}
use Rattle.yf_grammar.specs.Productions.BlockScalar.BlockScalar.{block_scalar}
use Rattle.yf_standard.specs.Notation.{Chomping}
use Rattle.yf_standard.specs.Notation.Indicator.{GIVEN, DETECTED}
use Rattle.yf_standard.specs.Rules.{NoTrail, NoCommentLine, AutoDetect}
use Rattle.yf_standard.specs.Rules.AutoDetect.{by_first_line, without_content}
use Rattle.yf_standard.proofs.Basics.{SomeOf, many_forward}
use Rattle.yf_standard.proofs.Texts.{Texts, empty_line_read, some_first}
use Rattle.yf_standard.proofs.Texts.Texts.{last_text, more_texts}
use Rattle.yf_standard.proofs.ScalarsMade.{hash_rest, spaces_separated, hash_shallow, end_later}
use Rattle.yf_standard.proofs.ScalarsRead.{AtWidth, chomp_of, HeaderRead, SomeEnd, TrailComments, Ending, trail_values, ContentRead}
use Rattle.yf_chars.proofs.TextLemmas.{code-past, within_from_code}
use Rattle.yf_chars.proofs.ChainLemmas.{chain_append}
use Rattle.yf_lines.proofs.BasicLemmas.{break_forward}
use Rattle.yf_comments.proofs.LineEndLemmas.{rest_line, next_starts, line_end_chosen, row_stuck_end}
use Rattle.yf_block_scalar.proofs.BodyLemmas.{taken_starts}
use Rattle.yf_block_scalar.proofs.UniqueLemmas.{taken_unique, ends_forward}
use Rattle.yf_block.proofs.LineSteps.ScalarLines.{body_between}
use Rattle.yf_grammar.proofs.FlowReader.OneLine.{comment_lines_order}
use Rattle.yf_grammar.proofs.Prefixes.PrefixComments.{rest_within}

-- the ends of parts
bares_forward : {t : List ℕ} {i j : ℕ} {w : List ℕ} → Chain (EmptyLines t) i j w → i ≤ j
bares_forward done = omega arith
bares_forward (step (bare m s) r) = let a = break_forward s.ends in let b = bares_forward r in omega (arith, a, b)

text_forward : {t : List ℕ} {i j : ℕ} {w : List CommentValue} → CommentText t i j w → i ≤ j
text_forward (comment_text e m n) = let a = many_forward m in omega (arith, a)

trail_forward : {t : List ℕ} {k i j : ℕ} → TrailComments t k i j → i ≤ j
trail_forward c =
    let a = text_forward c.hash.comment in
    let b = end_later c.hash.ends in
    let d = comment_lines_order c.further.1 in
    omega (arith, a, b, d)

ending_forward : {t : List ℕ} {k i j : ℕ} → Ending t k i j → i ≤ j
ending_forward e = let a = bares_forward e.bares in ⊎_elim (λ c. let b = trail_forward c in omega (arith, a, b)) (λ c. let b = c.1 in omega (arith, a, b)) e.trail

-- empty lines as lines
empty_lines : {t : List ℕ} {k i j : ℕ} {w : List ℕ} → Chain (Empty t (pos k) BlockIn) i j w → SomeOf (Chain (Line t k)) i j
empty_lines done = ([], done)
empty_lines {t} {k} (step {i = i} {h = h} {x = w} e r) = let a = empty_line_read t k i h w e in let b = empty_lines r in (_, step (empty_line a.1.0 a.1.1) b.1)

pub empties_forward : {t : List ℕ} {k i j : ℕ} {w : List ℕ} → Chain (Empty t (pos k) BlockIn) i j w → i ≤ j
empties_forward done = omega arith
empties_forward {t} {k} (step {i = i} {h = h} {x = w} e r) =
    let a = empty_line_read t k i h w e in let b = break_forward a.1.0.ends in let c = empties_forward r in omega (arith, b, c)

pub empties_start : {t : List ℕ} {k i j : ℕ} {w : List ℕ} → (i < length t → LineStart t i) → Chain (Empty t (pos k) BlockIn) i j w → j < length t → LineStart t j
empties_start s done l = s l
empties_start {t} {k} s (step {i = i} {h = h} {x = w} e r) l = let a = empty_line_read t k i h w e in empties_start (λ z. after_break a.1.0.ends) r l

pub text_within : {t : List ℕ} {i j : ℕ} {w : List ℕ} → Many t is_nb_char i j w → i < j → i < length t
text_within {t} {i} m l =
    ⊎_elim (λ (b : i < length t). b) (λ (b : length t ≤ i). absurd (true≢false (sym (some_first m l) ∙ ap is_nb_char (code-past t i b) ∙ no_nb_char))) (cases_lt i (length t))

texts_forward : {t : List ℕ} {k i z : ℕ} → Texts t k i z → i ≤ z
texts_forward (last_text e p m f) = let c = empties_forward e.1 in omega (arith, c, f)
texts_forward (more_texts e p m f br r) = let c = empties_forward e.1 in let v = break_forward br in let x = texts_forward r in omega (arith, c, f, v, x)

-- lines up to the last content line
pub record LinesRead (t : List ℕ) (k i j : ℕ) (o : Bool) : Type 0 where
  pub at : ℕ
  pub before : List (List ℕ)
  pub text : List ℕ
  pub lines : Chain (Line t k) i at before
  pub last : LineContent t k at j text o

module _ {t : List ℕ} {low high : ℕ} (clear : Clear t low high) where
  pub no_marker_at : (a : ℕ) → low ≤ a → a < high → LineStart t a → is_marker t a ≡ false
  no_marker_at a l h s = ⊎_elim (λ (e : is_marker t a ≡ true). absurd (clear.none a l h (record { start = s; marker = e }))) (λ (e : is_marker t a ≡ false). e) (cases_Bool (is_marker t a))

  lines_read : {k i z j : ℕ} {o : Bool} → (i < length t → LineStart t i) → low ≤ i → Texts t k i z → z ≤ high → Ends t z j o → LinesRead t k i j o
  lines_read {k} {i} s l (last_text {a = a} e p m f) h w =
      let b = empty_lines e.1 in
      let c = empties_forward e.1 in
      let d = text_within m f in
      let start : LineStart t a = empties_start s e.1 (omega (arith, d)) in
      record { at = a; before = b.0; text = _; lines = b.1; last = content p m f w (no_marker_at a (omega (arith, l, c)) (omega (arith, f, h)) start) }
  lines_read {k} {i} s l (more_texts {a = a} {h = g} {b = q} e p m f br r) h w =
      let b = empty_lines e.1 in
      let c = empties_forward e.1 in
      let d = text_within m f in
      let v = break_forward br in
      let x = texts_forward r in
      let start : LineStart t a = empties_start s e.1 (omega (arith, d)) in
      let rest = lines_read (λ _. after_break br) (omega (arith, l, c, f, v)) r h w in
      let line : LineContent t k a q (slice_range t (a + k) g) false = content p m f (ends_by_break br) (no_marker_at a (omega (arith, l, c)) (omega (arith, f, h, v, x)) start) in
      record { at = rest.at; before = b.0 ++ slice_range t (a + k) g ∷ rest.before; text = rest.text; lines = chain_append b.1 (step (content_line line) rest.lines); last = rest.last }

-- those taken, up to an offset
pub record TakenRead (t : List ℕ) (k i j : ℕ) : Type 0 where
  pub lines : List (List ℕ)
  pub left_open : Bool
  pub count : ℕ
  pub taken : LinesTaken t k i lines left_open count j

pub taken_read : {t : List ℕ} {low high k i j : ℕ} → Clear t low high → (i < length t → LineStart t i) → low ≤ i → j ≤ high → (c : ContentRead t k i j) → TakenRead t k i c.ending.at
taken_read {t} {low} {high} {k} {i} {j} w s l h c = go c.lines where
  go : (i ≡ c.at) ⊎ ((z : ℕ) × (Texts t k i z × SomeEnd t z c.at)) → TakenRead t k i c.ending.at
  go (inl q) = record {
    lines = [];
    left_open = false;
    count = length c.ending.widths;
    taken = record { end = i; lines = no_content; tail = subst (λ z. Tail t k z c.ending.at (length c.ending.widths)) (sym q) (record { widths = c.ending.widths; lines = c.ending.bares; within = c.ending.within; counts = refl }); most = c.ending.most };
  }
  go (inr x) =
      let f = ending_forward c.ending in
      let g = ends_forward x.1.1.1 in
      let y = lines_read w s l x.1.0 (omega (arith, f, g, h)) x.1.1.1 in
      record {
        lines = y.before ++ y.text ∷ [];
        left_open = x.1.1.0;
        count = length c.ending.widths;
        taken = record { end = c.at; lines = up_to y.lines y.last; tail = record { widths = c.ending.widths; lines = c.ending.bares; within = c.ending.within; counts = refl }; most = c.ending.most };
      }

-- whether a comment with fewer than k spaces is on the line is known
pub record HashAt (t : List ℕ) (k i : ℕ) : Type 0 where
  pub spaces : ℕ
  pub few : spaces < k
  pub before : Spaces t i spaces
  pub hash : code t (i + spaces) ≡ 35

hash_known : (t : List ℕ) (k i : ℕ) → HashAt t k i ⊎ ((m : ℕ) → m < k → Spaces t i m → code t (i + m) ≢ 35)
hash_known t k i = go k 0 (record { each = λ m l. absurd (omega arith) }) (omega arith) where
  go : (fuel m : ℕ) → Spaces t i m → m + fuel ≡ k → HashAt t k i ⊎ ((m : ℕ) → m < k → Spaces t i m → code t (i + m) ≢ 35)
  go zero m s e = inr (λ d l p q. let x : code t (i + d) ≡ 32 = s.each d (omega (arith, e, l)) in omega (arith, x, q))
  go (suc fuel) m s e =
      ⊎_elim (λ (h : code t (i + m) ≡ 35). inl (record { spaces = m; few = omega (arith, e); before = s; hash = h }))
      (λ (n : code t (i + m) ≢ 35).
      ⊎_elim (λ (b : code t (i + m) ≡ 32). go fuel (suc m) (more b) (omega (arith, e)))
      (λ (b : code t (i + m) ≢ 32). inr (λ d l p q.
      ⊎_elim (λ (f : d < m). let x : code t (i + d) ≡ 32 = s.each d f in omega (arith, x, q))
      (λ (f : m ≤ d). ⊎_elim (λ (g : m < d). b (p.each m g)) (λ (g : d ≤ m). let z : d ≡ m = omega (arith, f, g) in n (sym (ap (λ z. code t (i + z)) z) ∙ q)) (cases_lt m d)) (cases_lt d m)))
      (cases_eq (code t (i + m)) 32))
      (cases_eq (code t (i + m)) 35)
    where
      more : code t (i + m) ≡ 32 → Spaces t i (suc m)
      more b = record { each = λ d l. ⊎_elim (λ (f : d < m). s.each d f) (λ (f : m ≤ d). let z : m ≡ d = omega (arith, f, l) in ap (λ z. code t (i + z)) (sym z) ∙ b) (cases_lt d m) }

-- if no comment line follows, no rest of a line follows
no_row : {t : List ℕ} {i : ℕ} → LineStart t i ⊎ (i ≡ length t) → NoCommentLine t i → Stuck (Row t i)
no_row (inl s) n = record { none = λ j w r. n.none j w (rest_line s r.rest) r.later }
no_row {i = i} (inr e) n = row_stuck_end e

pub end_begins : {t : List ℕ} {i j : ℕ} → BreakOrEnd t i j → LineStart t j ⊎ (j ≡ length t)
end_begins (by_break b) = inl (after_break b)
end_begins (by_end e) = inr e

pub line_begins : {t : List ℕ} {i j : ℕ} {w : List CommentValue} → CommentLine t i j w → LineStart t j ⊎ (j ≡ length t)
line_begins (whites_line s b) = end_begins b
line_begins (comment_line s c b) = end_begins b

pub lines_begin : {t : List ℕ} {i j : ℕ} {w : List CommentValue} → LineStart t i ⊎ (i ≡ length t) → Chain (CommentLine t) i j w → LineStart t j ⊎ (j ≡ length t)
lines_begin s done = s
lines_begin s (step l r) = lines_begin (line_begins l) r

-- the relation of a trail gives a trail
pub trail_of : {t : List ℕ} {k i j : ℕ} → (i < length t → LineStart t i) → (c : TrailComments t k i j ⊎ (NoTrail t (pos k) i × (i ≡ j))) → Trail t k i j (trail_values c)
trail_of {t} {k} {i} {j} s (inl c) =
    let hash : code t (i + c.spaces) ≡ 35 = hash_in c.hash.comment in
    let d : LineEnd t i j (c.hash.text ++ c.further.0) = past_rest (comment (spaces_separated s c.before hash) c.hash.comment c.hash.ends) c.further.1 in
    comments c.spaces c.few c.before hash (line_end_chosen d (no_row (lines_begin (end_begins c.hash.ends) c.further.1) c.all))
  where
    hash_in : {q h : ℕ} {w : List CommentValue} → CommentText t q h w → code t q ≡ 35
    hash_in (comment_text e m n) = e
trail_of {t} {k} {i} {j} s (inr n) = subst (λ z. Trail t k i z []) n.1 (⊎_elim there (λ f. no_comment f) (hash_known t k i)) where
  there : HashAt t k i → Trail t k i i []
  there h =
      let l : i + h.spaces < length t = within_from_code t (i + h.spaces) (let q = h.hash in omega (arith, q)) in
      let none : Stuck (Row t i) = record { none = λ j w r. let a = hash_rest h.before h.hash r.rest in n.0.none k h.spaces a.end j a.text refl h.few h.before a.comment a.ends } in
      comments h.spaces h.few h.before h.hash (line_end_chosen (from_start (s (omega (arith, l))) done) none)

-- with fewer spaces, if no indentation is to be detected
pub shallower : {t : List ℕ} {n : ℤ} {k i j : ℕ} {w : List CommentValue} → Shallow t n i → least n ≤ k → Trail t k i j w → Trail t (least n) i j w
shallower h l (comments m b s e c) = comments m (hash_shallow h s e) s e c
shallower h l (no_comment f) = no_comment (λ m b s e. f m (omega (arith, l, b)) s e)

-- [170] and [174]: the header with its indentation, and the content
abbrev pub HeaderPart : List ℕ → ℤ → Chomping → ℤ → ℕ → ℕ → Type 0
HeaderPart t n c k a b =
    ((m : ℕ) × ((h : ℕ) × (HeaderRead t (GIVEN m) c a h × ((k ≡ pos (base n + m)) × (h ≡ b))))) ⊎ ((h : ℕ) × (HeaderRead t DETECTED c a h × (AutoDetect t n h k × (h ≡ b))))

-- a body for a header with the digit
record BodyRead (t : List ℕ) (n : ℤ) (f : Bool) (d : Option ℕ) (c : Chomping) (i j : ℕ) : Type 0 where
  pub value : BodyValue
  pub body : Body t n (record { folded = f; digit = d; chomp = chomp_of c }) i j value

module _ (t : List ℕ) (u : IsUtf8 t) {low high : ℕ} (clear : Clear t low high) where
  digit_body : (n : ℤ) (f : Bool) (c : Chomping) (m b j : ℕ) → (b < length t → LineStart t b) → low ≤ b → j ≤ high → ContentRead t (base n + m) b j → BodyRead t n f (Some m) c b j
  digit_body n f c m b j s l h r =
      let y = taken_read clear s l h r in
      record { value = _; body = indicated refl y.taken (trail_of (taken_starts s y.taken) r.ending.trail) }

  plain_body : (n : ℤ) (f : Bool) (c : Chomping) (b j : ℕ) {k : ℤ} → (b < length t → LineStart t b) → low ≤ b → j ≤ high → AutoDetect t n b k → AtWidth (ContentRead t) k b j → BodyRead t n f None c b j
  plain_body n f c b j s l h (by_first_line {k = k} d) r =
      let c = r k refl in
      let y = taken_read clear s l h c in
      record { value = _; body = detected refl d y.taken (trail_of (taken_starts s y.taken) c.ending.trail) }
  plain_body n f c b j s l h (without_content {k = k} {p = p} {widths = ws} g x o v none) r =
      let c = r k refl in
      let y = taken_read clear s l h c in
      let mine : LinesTaken t k b [] false (length ws) p = record { end = b; lines = no_content; tail = record { widths = ws; lines = g; within = o; counts = refl }; most = none.none k refl } in
      let q = (taken_unique y.taken mine).0 in
      let w = trail_values c.ending.trail in
      let z : Trail t k p j w = subst (λ z. Trail t k z j w) q (trail_of (taken_starts s y.taken) c.ending.trail) in
      record { value = _; body = body_without_content refl g x (shallower x v z) }

  whole : (n : ℤ) (f : Bool) (d : Option ℕ) (c : Chomping) (i a h j : ℕ) → Style t i a f → (g : ℕ) × (Indicators t a g d (chomp_of c) × SomeOf (LineRest t) g h) → BodyRead t n f d c h j
      → SomeOf (BlockScalar t n) i j
  whole n f d c i a h j st r b =
      let e = body_between u b.body (rest_within r.1.1.1) in
      (_, block_scalar (block_header st r.1.0 r.1.1.1) b.body e.between)

  pub scalar_read : (n : ℤ) (f : Bool) (c : Chomping) (i a j : ℕ) → Style t i a f
      → j ≤ high → (k : ℤ) × ((b : ℕ) × (HeaderPart t n c k a b × (AtWidth (ContentRead t) k b j × (low ≤ b)))) → SomeOf (BlockScalar t n) i j
  scalar_read n f c i a j st h d = go d.1.1.0 where
    go : HeaderPart t n c d.0 a d.1.0 → SomeOf (BlockScalar t n) i j
    go (inl m) =
        let at : m.1.0 ≡ d.1.0 = m.1.1.1.1 in
        let rest = m.1.1.0 in
        let content : ContentRead t (base n + m.0) m.1.0 j = subst (λ z. ContentRead t (base n + m.0) z j) (sym at) (d.1.1.1.0 (base n + m.0) m.1.1.1.0) in
        let l : low ≤ m.1.0 = subst (λ z. low ≤ z) (sym at) d.1.1.1.1 in
        whole n f (Some m.0) c i a m.1.0 j st rest (digit_body n f c m.0 m.1.0 j (next_starts rest.1.1.1) l h content)
    go (inr m) =
        let at : m.0 ≡ d.1.0 = m.1.1.1 in
        let rest = m.1.0 in
        let content : AtWidth (ContentRead t) d.0 m.0 j = subst (λ z. AtWidth (ContentRead t) d.0 z j) (sym at) d.1.1.1.0 in
        let l : low ≤ m.0 = subst (λ z. low ≤ z) (sym at) d.1.1.1.1 in
        whole n f None c i a m.0 j st rest (plain_body n f c m.0 j (next_starts rest.1.1.1) l h m.1.1.0 content)
