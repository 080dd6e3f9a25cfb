-- A block scalar has one end and one meaning.
use Rattle.std.proofs.Common.{◌≡◌, ℕ, ℤ, true, List, [], ◌∷◌, ◌++◌, Option, None, length, refl, sym, ap, ◌∙◌, subst, arith, length-append}
use Rattle.std.specs.Str.{IsUtf8}
use Rattle.yf_chars.specs.Text.{code}
use Rattle.yf_chars.specs.Class.{is_white_or_end}
use Rattle.yf_chars.specs.Chain.{Chain, Chosen}
use Rattle.yf_chars.specs.Chain.Chain.{done, step}
use Rattle.yf_chars.proofs.ChainLemmas.{chain_meet, Meets}
use Rattle.yf_chars.proofs.ChainLemmas.Meets.{goes_on, falls_short}
use Rattle.yf_lines.specs.Lines.{OneLine}
use Rattle.yf_lines.specs.declared.line.Line.{Line}
use Rattle.yf_lines.proofs.LineLemmas.{line_functional, line_made}
use Rattle.yf_block_scalar.specs.declared.header.Chomp.{Chomp}
use Rattle.yf_block_scalar.specs.declared.header.Header.{Header}
use Rattle.yf_block_scalar.specs.Header.{BlockHeader, HeaderValue, Indicators}
use Rattle.yf_block_scalar.specs.Header.BlockHeader.{block_header}
use Rattle.yf_block_scalar.specs.Header.Indicators.{neither, digit_alone, sign_alone, digit_sign, sign_digit}
use Rattle.yf_block_scalar.specs.Body.{Body, BodyValue}
use Rattle.yf_block_scalar.specs.Content.{content_of}
use Rattle.yf_block_scalar.proofs.HeaderLemmas.{Only, only_digit_sign, only_digit, only_sign_digit, only_sign, only_neither, stop_digit, stop_sign, rest_stop, marks_inside, header_chosen}
use Rattle.yf_block_scalar.proofs.UniqueLemmas.{body_chosen}
use Rattle.yf_props.specs.Props.{no_props}
use Rattle.yf_events.specs.Event.{scalar_node}
use Rattle.yf_grammar.specs.Productions.BlockScalar.{BlockScalar, LinesBetween, style_of, kept_lines, reach}
use Rattle.yf_grammar.specs.Productions.BlockScalar.BlockScalar.{block_scalar}
use Rattle.yf_grammar.specs.Productions.BlockScalar.LinesBetween.{counted}
use Rattle.yf_grammar.specs.Productions.Meaning.{Meaning, from_to}

module _ {t : List ℕ} where
  -- indicators that end before white space, a break or the end of the text are the only ones
  only_of : {i j : ℕ} {d : Option ℕ} {c : Chomp} → Indicators t i j d c → is_white_or_end (code t j) ≡ true → Only t i j d c
  only_of neither s = only_neither (λ j d x. stop_digit x s) (λ j c x. stop_sign x s)
  only_of (digit_alone x) s = only_digit x (λ j c y. stop_sign y s)
  only_of (sign_alone y) s = only_sign y (λ j d x. stop_digit x s)
  only_of (digit_sign x y) s = only_digit_sign x y
  only_of (sign_digit y x) s = only_sign_digit y x

  header_is_chosen : {i j : ℕ} {h : HeaderValue} → IsUtf8 t → BlockHeader t i j h → Chosen (BlockHeader t i) j h
  header_is_chosen u (block_header s m r) = header_chosen u s m (only_of m (rest_stop (marks_inside u s m) r)) r

  header_one : {i j k : ℕ} {g h : HeaderValue} → IsUtf8 t → BlockHeader t i j g → BlockHeader t i k h → (k ≡ j) × (h ≡ g)
  header_one {i} {j} {k} {g} {h} u a b =
      let c = header_is_chosen u a in
      let d = header_is_chosen u b in
      let m = c.longest k h b in
      let n = d.longest j g a in
      let same : k ≡ j = omega arith in
      (same, c.only h (subst (λ w. BlockHeader t i w h) same b))

  body_one : {n : ℤ} {h : Header} {i j k : ℕ} {v w : BodyValue} → Body t n h i j v → Body t n h i k w → (k ≡ j) × (w ≡ v)
  body_one {n} {h} {i} {j} {k} {v} {w} a b =
      let c = body_chosen a in
      let d = body_chosen b in
      let m = c.longest k w b in
      let o = d.longest j v a in
      let same : k ≡ j = omega arith in
      (same, c.only w (subst (λ z. Body t n h i z w) same b))

  -- a number of lines from one offset has one end
  no_lines : {j k : ℕ} {ls : List Line} → Chain (OneLine t) j k ls → length ls ≡ 0 → k ≡ j
  no_lines done e = refl
  no_lines (step {x = x} {y = y} s c) e =
      let m = line_made s in
      let l : length (x ++ y) ≡ length ((m.line ∷ []) ++ y) = ap (λ w. length (w ++ y)) m.is in
      absurd (omega (arith, length-append (m.line ∷ []) y))

  lines_meet : {j k : ℕ} {ls ms : List Line} → Meets (OneLine t) j k ls ms → length ls ≡ length ms → k ≡ j
  lines_meet {ls = ls} (goes_on z c e) l =
      let f : length (ls ++ z) ≡ length ls = sym (ap length e) ∙ sym l in
      no_lines c (omega (arith, length-append ls z))
  lines_meet {ms = ms} (falls_short z c e) l =
      let f : length (ms ++ z) ≡ length ms = sym (ap length e) ∙ l in
      sym (no_lines c (omega (arith, length-append ms z)))

  pub lines_one : {c d i j k : ℕ} → c ≡ d → LinesBetween t c i j → LinesBetween t d i k → k ≡ j
  lines_one e (counted a l) (counted b m) = lines_meet (chain_meet (line_functional t) a b) (l ∙ e ∙ sym m)

scalar_meaning : ℕ → ℕ → HeaderValue → BodyValue → Meaning
scalar_meaning i e h b = record {
  events = record {
    event = scalar_node no_props (style_of h.header.folded) (content_of h.header b.lines b.tail b.open_end);
    span = from_to i e;
    tag_offset = None;
    entry = None;
    folded = kept_lines h.header.folded b.lines;
  } ∷ [];
  comments = h.comments ++ b.comments;
  escapes = [];
  finish = e;
}

-- the parts of a block scalar
record Parts (t : List ℕ) (n : ℤ) (i j : ℕ) (x : Meaning) : Type 0 where
  pub head : HeaderValue
  pub value : BodyValue
  pub body : ℕ
  pub end : ℕ
  pub header : BlockHeader t i body head
  pub lines : Body t n head.header body j value
  pub span : LinesBetween t (reach head.header.chomp (length value.lines) value.tail) body end
  pub means : x ≡ scalar_meaning i end head value

module _ {t : List ℕ} (u : IsUtf8 t) {n : ℤ} {i : ℕ} where
  parts : {j : ℕ} {x : Meaning} → BlockScalar t n i j x → Parts t n i j x
  unfolding scalar_meaning
  parts (block_scalar {k = k} {e = e} {h = h} {b = b} a c l) = record { head = h; value = b; body = k; end = e; header = a; lines = c; span = l; means = refl }

  parts_one : {j k : ℕ} {x y : Meaning} → Parts t n i j x → Parts t n i k y → (k ≡ j) × (y ≡ x)
  parts_one {k = k} p q =
      let a = header_one u p.header q.header in
      let lines : Body t n p.head.header p.body k q.value = subst (λ w. Body t n w.header p.body k q.value) a.1 (subst (λ w. Body t n q.head.header w k q.value) a.0 q.lines) in
      let b = body_one p.lines lines in
      let count : reach p.head.header.chomp (length p.value.lines) p.value.tail ≡ reach q.head.header.chomp (length q.value.lines) q.value.tail =
      ap (λ w. reach w.header.chomp (length p.value.lines) p.value.tail) (sym a.1) ∙ ap (λ w. reach q.head.header.chomp (length w.lines) w.tail) (sym b.1) in
      let span : LinesBetween t (reach q.head.header.chomp (length q.value.lines) q.value.tail) p.body q.end =
      subst (λ w. LinesBetween t (reach q.head.header.chomp (length q.value.lines) q.value.tail) w q.end) a.0 q.span in
      let e = lines_one count p.span span in
      (b.0, q.means ∙ ap (λ w. scalar_meaning i w q.head q.value) e ∙ ap (λ w. scalar_meaning i p.end w q.value) a.1 ∙ ap (scalar_meaning i p.end p.head) b.1 ∙ sym p.means)

  pub scalar_one : {j k : ℕ} {x y : Meaning} → BlockScalar t n i j x → BlockScalar t n i k y → (k ≡ j) × (y ≡ x)
  scalar_one a b = parts_one (parts a) (parts b)

  pub scalar_chosen : {j : ℕ} {x : Meaning} → BlockScalar t n i j x → Chosen (BlockScalar t n i) j x
  scalar_chosen a = record { derived = a; longest = λ k y b. let e = (scalar_one a b).0 in omega arith; only = λ y b. (scalar_one a b).1 }
