-- The text of a plain or quoted scalar is no longer than its source, except that in double quotes two bytes may become
-- three.
use Rattle.std.proofs.Common.{◌≡◌, ℕ, ℤ, ◌+◌, ◌≤◌, Bool, List, [], ◌∷◌, ◌++◌, length, refl, ap, ◌∙◌, arith, length-append, encode_utf8_all}
use Rattle.std.proofs.lemmas.Str.{encodes-append, length-encode, len_utf8_bounds}
use Rattle.std.specs.Char.{len_utf8}
use lib.Utf8.{encode, encodes}
use Rattle.yf_chars.specs.declared.context.Ctx.{Ctx}
use Rattle.yf_chars.specs.Text.{code, next}
use Rattle.yf_chars.specs.Chain.{Chain, Many, One}
use Rattle.yf_chars.specs.Chain.Chain.{done, step}
use Rattle.yf_chars.specs.Chain.One.{one}
use Rattle.yf_chars.specs.Class.{is_white}
use Rattle.yf_chars.specs.Escape.{Escape}
use Rattle.yf_chars.specs.Escape.Escape.{by_letter, by_two, by_four, by_half, by_pair, by_eight}
use Rattle.yf_chars.proofs.ChainLemmas.{chain_forward, one_functional}
use Rattle.yf_lines.specs.Basic.{Empty, FoldedBreak, FlowFolded, FlowPrefix, IndentLess, LinePrefix}
use Rattle.yf_lines.specs.Basic.Empty.{prefixed, shorter}
use Rattle.yf_lines.specs.Basic.FoldedBreak.{trimmed, as_space}
use Rattle.yf_lines.specs.Basic.FlowFolded.{at_break, past_whites}
use Rattle.yf_lines.specs.Basic.IndentLess.{fewer}
use Rattle.yf_lines.specs.Basic.LinePrefix.{in_block, in_flow}
use Rattle.yf_lines.specs.Basic.Indent.{exactly}
use Rattle.yf_lines.proofs.BasicLemmas.{break_forward}
use Rattle.yf_comments.proofs.SeparateLemmas.{prefix_whites}
use Rattle.yf_plain.specs.Plain.{PlainItem, PlainLine, PlainNext, PlainText}
use Rattle.yf_plain.specs.Plain.PlainItem.{set_off}
use Rattle.yf_plain.specs.Plain.PlainLine.{one_line}
use Rattle.yf_plain.specs.Plain.PlainNext.{next_line}
use Rattle.yf_plain.specs.Plain.PlainText.{as_key, as_lines}
use Rattle.yf_quoted.specs.Quoted as Q
use Rattle.yf_quoted.specs.Quoted.{Piece, good, bad, text_of, goods, as_they_are, SingleChar, SingleQuoted, DoubleChar, DoubleBreak, DoubleQuoted}
use Rattle.yf_quoted.specs.Quoted.SingleChar.{doubled, unquoted}
use Rattle.yf_quoted.specs.Quoted.DoubleChar.{unescaped, escaped, wrong}
use Rattle.yf_quoted.specs.Quoted.DoubleBreak.{folded_break, escaped_break}
use Rattle.yf_quoted.proofs.GapLemmas.{text_of_goods}
use Rattle.yf_quoted.proofs.ReadLemmas.{pieces_bytes}
use Rattle.yf_grammar.proofs.Ends.Forward.{in_line_forward}

abbrev pub bytes : List ℕ → ℕ
bytes x = length (encode_utf8_all x)

pub bytes_append : (x y : List ℕ) → bytes (x ++ y) ≡ bytes x + bytes y
bytes_append x y = ap length (encodes-append x y) ∙ length-append (encodes x) (encodes y)

pub bytes_more : (c : ℕ) (x : List ℕ) → bytes (c ∷ x) ≡ len_utf8 c + bytes x
bytes_more c x = length-append (encode c) (encodes x) ∙ ap (λ k. k + bytes x) (length-encode c)

feed_bytes : bytes (10 ∷ []) ≡ 1
unfolding encode
feed_bytes = refl

space_bytes : bytes (32 ∷ []) ≡ 1
unfolding encode
space_bytes = refl

quote_bytes : bytes (39 ∷ []) ≡ 1
unfolding encode
quote_bytes = refl

four_most : (c : ℕ) → bytes (c ∷ []) ≤ 4
four_most c = let b = len_utf8_bounds c in omega (arith, b.1, bytes_more c [])

char_within : (t : List ℕ) (i : ℕ) (x : List ℕ) (j : ℕ) → bytes x + next t i ≤ j → bytes (code t i ∷ x) + i ≤ j
unfolding next
char_within t i x j l = omega (arith, l, bytes_more (code t i) x)

chain_within : {S : ℕ → ℕ → List ℕ → Type 0} {i j : ℕ} {x : List ℕ} → ((h k : ℕ) (y : List ℕ) → S h k y → bytes y + h ≤ k) → Chain S i j x → bytes x + i ≤ j
chain_within f done = omega arith
chain_within f (step {x = x} {y = y} s c) = let l = f _ _ x s in let m = chain_within f c in omega (arith, l, m, bytes_append x y)

module _ {t : List ℕ} where
  one_within : {p : ℕ → Bool} (h k : ℕ) (y : List ℕ) → One t p h k y → bytes y + h ≤ k
  one_within h k y (one e) = char_within t h [] (next t h) (omega arith)

  many_within : {p : ℕ → Bool} {i j : ℕ} {x : List ℕ} → Many t p i j x → bytes x + i ≤ j
  many_within m = chain_within one_within m

  prefix_forward : {n : ℤ} {i j : ℕ} → FlowPrefix t n i j → i ≤ j
  prefix_forward f = chain_forward (one_functional t is_white) (prefix_whites f).1

  line_prefix_forward : {n : ℤ} {c : Ctx} {i j : ℕ} → LinePrefix t n c i j → i ≤ j
  line_prefix_forward (in_block e (exactly k f s)) = omega arith
  line_prefix_forward (in_flow e f) = prefix_forward f

  less_forward : {n : ℤ} {i j : ℕ} → IndentLess t n i j → i ≤ j
  less_forward (fewer k l s) = omega arith

  empty_within : {n : ℤ} {c : Ctx} (h k : ℕ) (y : List ℕ) → Empty t n c h k y → bytes y + h ≤ k
  empty_within h k y (prefixed p b) = let l = line_prefix_forward p in let m = break_forward b in omega (arith, l, m, feed_bytes)
  empty_within h k y (shorter p b) = let l = less_forward p in let m = break_forward b in omega (arith, l, m, feed_bytes)

  break_within : {n : ℤ} {c : Ctx} {i j : ℕ} {x : List ℕ} → FoldedBreak t n c i j x → bytes x + i ≤ j
  break_within (trimmed {x = x} {y = y} b e c) =
      let l = break_forward b in let m = empty_within _ _ x e in let n = chain_within empty_within c in omega (arith, l, m, n, bytes_append x y)
  break_within (as_space b) = let l = break_forward b in omega (arith, l, space_bytes)

  fold_within : {n : ℤ} {i j : ℕ} {x : List ℕ} → FlowFolded t n i j x → bytes x + i ≤ j
  fold_within (at_break f p) = let l = break_within f in let m = prefix_forward p in omega (arith, l, m)
  fold_within (past_whites s f p) = let k = in_line_forward s in let l = break_within f in let m = prefix_forward p in omega (arith, k, l, m)

  -- Plain scalars.

  item_within : {c : Ctx} (h k : ℕ) (y : List ℕ) → PlainItem t c h k y → bytes y + h ≤ k
  item_within h k y (set_off {h = g} {x = x} m e) =
      let l = many_within m in
      let n = char_within t g [] (next t g) (omega arith) in
      omega (arith, l, n, bytes_append x (code t g ∷ []))

  line_within : {c : Ctx} {i j : ℕ} {x : List ℕ} → PlainLine t c i j x → bytes x + i ≤ j
  line_within {i = i} {j = j} (one_line {x = x} e d) = char_within t i x j (chain_within item_within d)

  next_within : {n : ℤ} {c : Ctx} (h k : ℕ) (y : List ℕ) → PlainNext t n c h k y → bytes y + h ≤ k
  next_within h k z (next_line {h = g} {x = x} {y = y} f e d) =
      let l = fold_within f in
      let m = char_within t g y k (chain_within item_within d) in
      omega (arith, l, m, bytes_append x (code t g ∷ y))

  pub plain_within : {n : ℤ} {c : Ctx} {i j : ℕ} {x : List ℕ} → PlainText t n c i j x → bytes x + i ≤ j
  plain_within (as_key k l) = line_within l
  plain_within (as_lines {x = x} {y = y} k l d) = let m = line_within l in let n = chain_within next_within d in omega (arith, m, n, bytes_append x y)

-- Quoted scalars: a text of at most twice the bytes.

record Adds {A : Type 0} (put : List ℕ → List A) (size : List A → ℕ) : Type 0 where
  none : size [] ≡ 0
  both : (x y : List A) → size (x ++ y) ≡ size x + size y
  plain : (x : List ℕ) → size (put x) ≡ bytes x

chars_twice : {A : Type 0} {put : List ℕ → List A} {size : List A → ℕ} {C : ℕ → ℕ → List A → Type 0} {i j : ℕ} {x : List A} → Adds put size
    → ((h k : ℕ) (y : List A) → C h k y → size y + (h + h) ≤ k + k) → Chain C i j x → size x + (i + i) ≤ j + j
chars_twice s each done = omega (arith, s.none)
chars_twice s each (step {x = x} {y = y} a c) = let l = each _ _ x a in let m = chars_twice s each c in omega (arith, l, m, s.both x y)

module _ {A : Type 0} {t : List ℕ} {put : List ℕ → List A} {size : List A → ℕ} {C B : ℕ → ℕ → List A → Type 0} (s : Adds put size)
    (each : (h k : ℕ) (y : List A) → C h k y → size y + (h + h) ≤ k + k) (breaks : (h k : ℕ) (y : List A) → B h k y → size y + (h + h) ≤ k + k) where
  item_twice : {i j : ℕ} {x : List A} → Q.Item t put C i j x → size x + (i + i) ≤ j + j
  item_twice (Q.Item.set_off {x = x} {y = y} m w a) =
      let k = many_within m in let l = each _ _ y a in omega (arith, k, l, s.both (put x) y, s.plain x)

  items_twice : {i j : ℕ} {x : List A} → Chain (Q.Item t put C) i j x → size x + (i + i) ≤ j + j
  items_twice done = omega (arith, s.none)
  items_twice (step {x = x} {y = y} a c) = let l = item_twice a in let m = items_twice c in omega (arith, l, m, s.both x y)

  rest_twice : {i j : ℕ} {x : List A} → Q.Rest t put C B i j x → size x + (i + i) ≤ j + j
  rest_twice (Q.Rest.blank {x = x} m) = let k = many_within m in omega (arith, k, s.plain x)
  rest_twice (Q.Rest.last_break {x = x} b) = breaks _ _ x b
  rest_twice (Q.Rest.next_line {x = x} {y = y} {z = z} {w = w} b n a c r) =
      let k = breaks _ _ x b in
      let l = each _ _ y a in
      let m = items_twice c in
      let n = rest_twice r in
      omega (arith, k, l, m, n, s.both x (y ++ (z ++ w)), s.both y (z ++ w), s.both z w)

  inside_twice : {c : Ctx} {i j : ℕ} {x : List A} → Q.Inside t put C B c i j x → size x + (i + i) ≤ j + j
  inside_twice (Q.Inside.as_key k a) = chars_twice s each a
  inside_twice (Q.Inside.as_lines {x = x} {y = y} k a r) = let l = items_twice a in let m = rest_twice r in omega (arith, l, m, s.both x y)

pieces_both : (x y : List Piece) → bytes (text_of (x ++ y)) ≡ bytes (text_of x) + bytes (text_of y)
pieces_both x y = ap length (pieces_bytes x y) ∙ length-append (encode_utf8_all (text_of x)) (encode_utf8_all (text_of y))

pieces_plain : (x : List ℕ) → bytes (text_of (goods x)) ≡ bytes x
pieces_plain x = ap bytes (text_of_goods x)

module _ {t : List ℕ} where
  single_twice : (h k : ℕ) (y : List ℕ) → SingleChar t h k y → bytes y + (h + h) ≤ k + k
  single_twice h k y (doubled a b) = omega (arith, quote_bytes)
  single_twice h k y (unquoted e n) = let l = char_within t h [] (next t h) (omega arith) in omega (arith, l)

  pub single_half : {n : ℤ} {c : Ctx} {i j : ℕ} {x : List ℕ} → SingleQuoted t n c i j x → bytes x + ((i + 2) + (i + 2)) ≤ j + j
  single_half q =
      let l = inside_twice {size = bytes} (record { none = refl; both = bytes_append; plain = λ x. refl }) single_twice (λ h k y f. (let m = fold_within f in omega (arith, m))) q.inside in
      omega (arith, l, q.end)

  escape_later : {i j v : ℕ} → Escape t i j v → i + 2 ≤ j
  escape_later (by_letter e n) = omega arith
  escape_later (by_two n) = omega arith
  escape_later (by_four n h) = omega arith
  escape_later (by_half n h l) = omega arith
  escape_later (by_pair n h m l) = omega arith
  escape_later (by_eight n) = omega arith

  double_twice : (h k : ℕ) (y : List Piece) → DoubleChar t h k y → bytes (text_of y) + (h + h) ≤ k + k
  double_twice h k y (unescaped e m n) = let l = char_within t h [] (next t h) (omega arith) in omega (arith, l)
  double_twice h k y (escaped {v = v} e s) = let l = escape_later e in omega (arith, l, four_most v)
  double_twice h k y (wrong e s) = let l = escape_later e in omega (arith, l, four_most 0xFFFD)

  breaks_twice : {n : ℤ} (h k : ℕ) (y : List Piece) → DoubleBreak t n h k y → bytes (text_of y) + (h + h) ≤ k + k
  breaks_twice h k y (folded_break {x = x} f) = let l = fold_within f in omega (arith, l, pieces_plain x)
  breaks_twice h k z (escaped_break {x = x} {y = y} m e b c p) =
      let one = many_within m in
      let two = break_forward b in
      let three = chain_within empty_within c in
      let four = prefix_forward p in
      omega (arith, one, two, three, four, pieces_both (goods x) (goods y), pieces_plain x, pieces_plain y)

  pub double_half : {n : ℤ} {c : Ctx} {i j : ℕ} {x : List Piece} → DoubleQuoted t n c i j x → bytes (text_of x) + ((i + 2) + (i + 2)) ≤ j + j
  double_half q =
      let l = inside_twice {size = λ y. bytes (text_of y)} (record { none = refl; both = pieces_both; plain = pieces_plain }) double_twice breaks_twice q.inside in
      omega (arith, l, q.end)
