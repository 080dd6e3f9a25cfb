-- Quoted scalars (7.3.1, 7.3.2): from the relations of `Quoted` to the standard's productions, in which a pair of
-- surrogates is two escapes.
use Rattle.std.proofs.Common.{◌≡◌, ◌≢◌, ℕ, zero, suc, ◌+◌, ◌<◌, ℤ, Bool, true, false, true≢false, ◌||◌, ◌==◌, List, Option, Some, None, if◌then◌else◌, refl, sym, ap, ◌∙◌, subst, arith}
use Rattle.std.proofs.lemmas.Bool.{ne_eqb}
use Rattle.std.proofs.lemmas.Bool.Decides.{nat_tests}
use Rattle.std.specs.Char.{digit_value}
use Rattle.yf_chars.specs.declared.context.Ctx.{Ctx}
use Rattle.yf_chars.specs.declared.context.Ctx.TheVariants.{BlockOut, BlockIn, FlowOut, FlowIn, BlockKey, FlowKey}
use Rattle.yf_chars.specs.Text.{code}
use Rattle.yf_chars.specs.Class.{is_white, is_nb_json, is_hex_digit, is_digit, is_between}
use Rattle.yf_chars.specs.Chain.{Chain}
use Rattle.yf_chars.specs.Chain.Chain.{done, step}
use Rattle.yf_chars.specs.Escape.{named, NumericEscape, Escape}
use Rattle.yf_chars.specs.Escape.Escape.{by_letter, by_two, by_four, by_half, by_pair, by_eight}
use Rattle.yf_lines.specs.Basic.{FlowFolded}
use Rattle.yf_quoted.specs.Quoted.{Item, Rest, Inside, SingleChar, as_they_are, SingleQuoted, Piece, goods, DoubleChar, DoubleBreak, DoubleQuoted}
use Rattle.yf_quoted.specs.Quoted.Item.{set_off}
use Rattle.yf_quoted.specs.Quoted.Rest.{blank, last_break, next_line}
use Rattle.yf_quoted.specs.Quoted.Inside.{as_key, as_lines}
use Rattle.yf_quoted.specs.Quoted.SingleChar.{doubled, unquoted}
use Rattle.yf_quoted.specs.Quoted.DoubleChar.{unescaped, escaped, wrong}
use Rattle.yf_quoted.specs.Quoted.DoubleBreak.{folded_break, escaped_break}
use Rattle.yf_standard.specs.Characters.{x, ◌∪◌, ◌∖◌, s-white, nb-json, c-escape, c-single-quote, c-double-quote, ns-hex-digit, ns-esc-null, ns-esc-bell, ns-esc-backspace, ns-esc-horizontal-tab, ns-esc-line-feed, ns-esc-vertical-tab, ns-esc-form-feed, ns-esc-carriage-return, ns-esc-escape, ns-esc-space, ns-esc-double-quote, ns-esc-slash, ns-esc-backslash, ns-esc-next-line, ns-esc-non-breaking-space, ns-esc-line-separator, ns-esc-paragraph-separator}
use Rattle.yf_standard.specs.Notation.{Form}
use Rattle.yf_standard.specs.Notation.Form.{‹◌›, ◌∣◌, ◌⁇, ◌⋆, ◌∙◌ as ◌then◌, ns-esc-8-bit, ns-esc-16-bit, ns-esc-32-bit, nb-double-char, ns-double-char, c-double-quoted, nb-double-text, s-double-break, nb-ns-double-in-line, s-double-next-line, nb-single-char, ns-single-char, c-single-quoted, nb-single-text, nb-ns-single-in-line, s-single-next-line, s-flow-folded}
use Rattle.yf_standard.specs.Productions.{rule, times}
use Rattle.yf_standard.specs.Literal.{kind}
use Rattle.yf_standard.specs.Literal.Derived.{by_rule, by_collection, nothing, one_of, one_then, in_left, in_right, absent, present, no_more, one_more, without}
use Rattle.yf_standard.proofs.Reading.{no_operator, no_operator_opens}
use Rattle.yf_standard.proofs.BasicsMade.{Read, one_char, many_made, chars_made, non_content_made, empty_made, flow_prefix_made, flow_folded_made}
use Rattle.yf_standard.proofs.Sets.{white_is, nb_json_is, hex_digit_is}
use Rattle.yf_chars.proofs.TextLemmas.{next_ascii}
use Rattle.yf_chars.proofs.EscapeLemmas.{digit_below, named_below}
use Rattle.yf_quoted.proofs.DoubleLemmas.{white_backslash}

-- a star and what follows it
pub star_then : {t : List ℕ} {room : ℕ} {a : Form} {i k j : ℕ} → Read t room (a ⋆) i k → Read t room (a ⋆) k j → Read t room (a ⋆) i j
unfolding kind
star_then (by_rule q d) e = no_operator q
star_then (by_collection q l d) e = no_operator_opens q
star_then no_more e = e
star_then (one_more c d) e = one_more c (star_then d e)

-- The parts that both kinds of quotes share: C makes characters of the form ns, one or two, and B a break of the form
-- br.
pub record QuoteKind (t : List ℕ) (room : ℕ) {A : Type 0} (C B : ℕ → ℕ → List A → Type 0) (nb ns br line next : Form) : Type 0 where
  pub char : (i j : ℕ) (w : List A) → C i j w → Read t room (nb ⋆) i j
  pub front : (i j : ℕ) (w : List A) → C i j w → is_white (code t i) ≡ false → (k : ℕ) × (Read t room ns i k × Read t room ((‹ s-white › ⋆ then ns) ⋆) k j)
  pub break : (i j : ℕ) (w : List A) → B i j w → Read t room br i j
  pub in_line : {i j : ℕ} → Read t room ((‹ s-white › ⋆ then ns) ⋆) i j → Read t room line i j
  pub further : {i j : ℕ} → Read t room (br then (ns then line then (next ∣ ‹ s-white › ⋆)) ⁇) i j → Read t room next i j

module _ {t : List ℕ} {room : ℕ} {A : Type 0} {C B : ℕ → ℕ → List A → Type 0} {nb ns br line next : Form} (put : List ℕ → List A) (k : QuoteKind t room C B nb ns br line next) where
  pub chars_in : {i j : ℕ} {w : List A} → Chain C i j w → Read t room (nb ⋆) i j
  chars_in done = no_more
  chars_in (step {i = i} {h = h} {x = y} c r) = star_then (k.char i h y c) (chars_in r)

  pub items_in : {i j : ℕ} {w : List A} → Chain (Item t put C) i j w → Read t room ((‹ s-white › ⋆ then ns) ⋆) i j
  items_in done = no_more
  items_in (step (set_off {h = h} {j = l} {y = y} m w c) r) =
      let f = k.front h l y c w in
      one_more (one_then (chars_made white_is m) f.1.0) (star_then f.1.1 (items_in r))

  pub rest_in : {i j : ℕ} {w : List A} → Rest t put C B i j w → Read t room (next ∣ ‹ s-white › ⋆) i j
  rest_in (blank m) = in_right (chars_made white_is m)
  rest_in (last_break {i = i} {j = j} {x = w} b) = in_left (k.further (one_then (k.break i j w b) absent))
  rest_in (next_line {i = i} {h = h} {k = l} {x = v} {y = y} b w c items r) =
      let f = k.front h l y c w in
      in_left (k.further (one_then (k.break i h v b) (present (one_then f.1.0 (one_then (k.in_line (star_then f.1.1 (items_in items))) (rest_in r))))))

-- [117] to [119]
json_but : (q c : ℕ) → is_nb_json c ≡ true → c ≢ q → (nb-json ∖ x q) c ≡ true
unfolding ◌∖◌ x
json_but q c e n = rw (nb_json_is c, e, ne_eqb c q n) refl

no_white_is : (c : ℕ) → is_white c ≡ false → s-white c ≡ false
no_white_is c e = white_is c ∙ e

single_char : {room : ℕ} {t : List ℕ} {i j : ℕ} {w : List ℕ} → SingleChar t i j w → Read t room nb-single-char i j
unfolding rule kind c-single-quote
single_char {room = room} {t = t} (doubled {i = i} e f) =
    let two : i + 1 + 1 ≡ i + 2 = omega arith in
    let s : Read t room (‹ x 39 ›) (i + 1) (i + 2) = subst (λ z. Read t room (‹ x 39 ›) (i + 1) z) two (one_char t (i + 1) 39 (omega arith) f) in
    by_rule refl (in_left (by_rule refl (one_then (one_char t i 39 (omega arith) e) s)))
single_char {t = t} (unquoted {i = i} e n) = by_rule refl (in_right (one_of (json_but 39 (code t i) e n)))

-- [120] to [125]
single_kind : (t : List ℕ) (room : ℕ) (n : ℤ) → QuoteKind t room (SingleChar t) (FlowFolded t n) nb-single-char ns-single-char (s-flow-folded n) nb-ns-single-in-line (s-single-next-line n)
unfolding rule kind
single_kind t room n = record {
  char = λ i j w c. one_more (single_char c) no_more;
  front = λ i j w c e. (j, (by_rule refl (without (single_char c) (no_white_is (code t i) e)), no_more));
  break = λ i j w b. flow_folded_made b;
  in_line = λ d. by_rule refl d;
  further = λ d. by_rule refl d;
}

single_inside : (t : List ℕ) (room : ℕ) (n : ℤ) (c : Ctx) {i j : ℕ} {w : List ℕ} → Inside t as_they_are (SingleChar t) (FlowFolded t n) c i j w → Read t room (nb-single-text n c) i j
unfolding rule kind
single_inside t room n BlockKey (as_key e r) = by_rule refl (by_rule refl (chars_in as_they_are (single_kind t room n) r))
single_inside t room n FlowKey (as_key e r) = by_rule refl (by_rule refl (chars_in as_they_are (single_kind t room n) r))
single_inside t room n BlockOut (as_key e r) = absurd (true≢false (sym e))
single_inside t room n BlockIn (as_key e r) = absurd (true≢false (sym e))
single_inside t room n FlowOut (as_key e r) = absurd (true≢false (sym e))
single_inside t room n FlowIn (as_key e r) = absurd (true≢false (sym e))
single_inside t room n FlowOut (as_lines e c r) =
    by_rule refl (by_rule refl (one_then (by_rule refl (items_in as_they_are (single_kind t room n) c)) (rest_in as_they_are (single_kind t room n) r)))
single_inside t room n FlowIn (as_lines e c r) =
    by_rule refl (by_rule refl (one_then (by_rule refl (items_in as_they_are (single_kind t room n) c)) (rest_in as_they_are (single_kind t room n) r)))
single_inside t room n BlockOut (as_lines e c r) = absurd (true≢false (sym e))
single_inside t room n BlockIn (as_lines e c r) = absurd (true≢false (sym e))
single_inside t room n BlockKey (as_lines e c r) = absurd (true≢false (sym e))
single_inside t room n FlowKey (as_lines e c r) = absurd (true≢false (sym e))

pub single_made : {room : ℕ} {t : List ℕ} {n : ℤ} {c : Ctx} {i j : ℕ} {w : List ℕ} → SingleQuoted t n c i j w → Read t room (c-single-quoted n c) i j
unfolding rule kind c-single-quote
single_made {room = room} {t = t} {n = n} {c = c} {i = i} q =
    let close = subst (λ z. Read t room (‹ x 39 ›) q.close z) q.end (one_char t q.close 39 (omega arith) q.closing) in
    by_rule refl (one_then (one_char t i 39 (omega arith) q.opening) (one_then (single_inside t room n c q.inside) close))

-- [42] to [62]
names : (a b c d u e f g h k l m n o p q r s : Bool) (z0 z1 z2 z3 z4 z5 z6 z7 z8 z9 y0 y1 y2 y3 y4 y5 y6 v : ℕ)
    → (if a then Some z0 else if b then Some z1 else if c then Some z2 else if d || u then Some z3 else if e then Some z4 else if f then Some z5 else if g then Some z6 else if h then Some z7
    else if k then Some z8 else if l then Some z9 else if m then Some y0 else if n then Some y1 else if o then Some y2 else if p then Some y3 else if q then Some y4 else if r then Some y5
    else if s then Some y6 else None) ≡ Some v
    → (a || b || c || (d || u) || e || f || g || h || k || l || m || n || o || p || q || r || s) ≡ true
names true b c d u e f g h k l m n o p q r s z0 z1 z2 z3 z4 z5 z6 z7 z8 z9 y0 y1 y2 y3 y4 y5 y6 v w = refl
names false true c d u e f g h k l m n o p q r s z0 z1 z2 z3 z4 z5 z6 z7 z8 z9 y0 y1 y2 y3 y4 y5 y6 v w = refl
names false false true d u e f g h k l m n o p q r s z0 z1 z2 z3 z4 z5 z6 z7 z8 z9 y0 y1 y2 y3 y4 y5 y6 v w = refl
names false false false true u e f g h k l m n o p q r s z0 z1 z2 z3 z4 z5 z6 z7 z8 z9 y0 y1 y2 y3 y4 y5 y6 v w = refl
names false false false false true e f g h k l m n o p q r s z0 z1 z2 z3 z4 z5 z6 z7 z8 z9 y0 y1 y2 y3 y4 y5 y6 v w = refl
names false false false false false true f g h k l m n o p q r s z0 z1 z2 z3 z4 z5 z6 z7 z8 z9 y0 y1 y2 y3 y4 y5 y6 v w = refl
names false false false false false false true g h k l m n o p q r s z0 z1 z2 z3 z4 z5 z6 z7 z8 z9 y0 y1 y2 y3 y4 y5 y6 v w = refl
names false false false false false false false true h k l m n o p q r s z0 z1 z2 z3 z4 z5 z6 z7 z8 z9 y0 y1 y2 y3 y4 y5 y6 v w = refl
names false false false false false false false false true k l m n o p q r s z0 z1 z2 z3 z4 z5 z6 z7 z8 z9 y0 y1 y2 y3 y4 y5 y6 v w = refl
names false false false false false false false false false true l m n o p q r s z0 z1 z2 z3 z4 z5 z6 z7 z8 z9 y0 y1 y2 y3 y4 y5 y6 v w = refl
names false false false false false false false false false false true m n o p q r s z0 z1 z2 z3 z4 z5 z6 z7 z8 z9 y0 y1 y2 y3 y4 y5 y6 v w = refl
names false false false false false false false false false false false true n o p q r s z0 z1 z2 z3 z4 z5 z6 z7 z8 z9 y0 y1 y2 y3 y4 y5 y6 v w = refl
names false false false false false false false false false false false false true o p q r s z0 z1 z2 z3 z4 z5 z6 z7 z8 z9 y0 y1 y2 y3 y4 y5 y6 v w = refl
names false false false false false false false false false false false false false true p q r s z0 z1 z2 z3 z4 z5 z6 z7 z8 z9 y0 y1 y2 y3 y4 y5 y6 v w = refl
names false false false false false false false false false false false false false false true q r s z0 z1 z2 z3 z4 z5 z6 z7 z8 z9 y0 y1 y2 y3 y4 y5 y6 v w = refl
names false false false false false false false false false false false false false false false true r s z0 z1 z2 z3 z4 z5 z6 z7 z8 z9 y0 y1 y2 y3 y4 y5 y6 v w = refl
names false false false false false false false false false false false false false false false false true s z0 z1 z2 z3 z4 z5 z6 z7 z8 z9 y0 y1 y2 y3 y4 y5 y6 v w = refl
names false false false false false false false false false false false false false false false false false true z0 z1 z2 z3 z4 z5 z6 z7 z8 z9 y0 y1 y2 y3 y4 y5 y6 v w = refl
names false false false false false false false false false false false false false false false false false false z0 z1 z2 z3 z4 z5 z6 z7 z8 z9 y0 y1 y2 y3 y4 y5 y6 v w = absurd (true≢false (sym (ap is_some w))) where
  is_some : Option ℕ → Bool
  is_some (Some n) = true
  is_some None = false

letter_is : (c v : ℕ) → named c ≡ Some v → (ns-esc-null ∪ ns-esc-bell ∪ ns-esc-backspace ∪ ns-esc-horizontal-tab ∪ ns-esc-line-feed ∪ ns-esc-vertical-tab ∪ ns-esc-form-feed ∪ ns-esc-carriage-return ∪ ns-esc-escape
    ∪ ns-esc-space ∪ ns-esc-double-quote ∪ ns-esc-slash ∪ ns-esc-backslash ∪ ns-esc-next-line ∪ ns-esc-non-breaking-space ∪ ns-esc-line-separator ∪ ns-esc-paragraph-separator) c ≡ true
unfolding named x ◌∪◌ ns-esc-null ns-esc-bell ns-esc-backspace ns-esc-horizontal-tab ns-esc-line-feed ns-esc-vertical-tab ns-esc-form-feed ns-esc-carriage-return ns-esc-escape ns-esc-space ns-esc-double-quote ns-esc-slash ns-esc-backslash ns-esc-next-line ns-esc-non-breaking-space ns-esc-line-separator ns-esc-paragraph-separator
letter_is c v e = names (c == 48) (c == 97) (c == 98) (c == 116) (c == 9) (c == 110) (c == 118) (c == 102) (c == 114) (c == 101) (c == 32) (c == 34) (c == 47) (c == 92) (c == 78) (c == 95) (c == 76) (c == 80)
    0x00 0x07 0x08 0x09 0x0A 0x0B 0x0C 0x0D 0x1B 32 34 47 92 0x85 0xA0 0x2028 0x2029 v e

hex_of : (c : ℕ) → digit_value c < 16 → is_hex_digit c ≡ true
unfolding is_hex_digit is_digit is_between
hex_of c l = grind (arith, nat_tests)

digits_made : {room : ℕ} (t : List ℕ) (i k : ℕ) → ((m : ℕ) → m < k → digit_value (code t (i + m)) < 16) → Read t room (times k (‹ ns-hex-digit ›)) i (i + k)
digits_made {room = room} t i zero f = let q : i ≡ i + 0 = omega arith in subst (λ z. Read t room (times 0 (‹ ns-hex-digit ›)) i z) q nothing
digits_made {room = room} t i (suc k) f =
    let here : i + 0 ≡ i = omega arith in
    let l : digit_value (code t i) < 16 = subst (λ z. digit_value (code t z) < 16) here (f 0 (omega arith)) in
    let q : i + 1 + k ≡ i + suc k = omega arith in
    let one : Read t room (‹ ns-hex-digit ›) i (i + 1) = subst (λ z. Read t room (‹ ns-hex-digit ›) i z) (next_ascii t i (digit_below (code t i) l)) (one_of (hex_digit_is (code t i) ∙ hex_of (code t i) l)) in
    let later : (m : ℕ) → m < k → digit_value (code t (i + 1 + m)) < 16 = λ m b. let s : i + suc m ≡ i + 1 + m = omega arith in subst (λ z. digit_value (code t z) < 16) s (f (suc m) (omega arith)) in
    subst (λ z. Read t room (times (suc k) (‹ ns-hex-digit ›)) i z) q (one_then one (digits_made t (i + 1) k later))

-- a letter and digits after a backslash
numbered_made : {room : ℕ} (t : List ℕ) (i c k v : ℕ) → c < 128 → NumericEscape t i c k v → Read t room (‹ x c › then times k (‹ ns-hex-digit ›)) (i + 1) (i + 2 + k)
numbered_made {room = room} t i c k v l n =
    let two : i + 1 + 1 ≡ i + 2 = omega arith in
    let s : Read t room (‹ x c ›) (i + 1) (i + 2) = subst (λ z. Read t room (‹ x c ›) (i + 1) z) two (one_char t (i + 1) c l n.letter) in
    one_then s (digits_made t (i + 2) k n.digits.each)

four_made : {room : ℕ} {t : List ℕ} {i v : ℕ} → NumericEscape t i 117 4 v → Read t room nb-double-char i (i + 6)
unfolding rule kind c-escape
four_made {room = room} {t = t} {i = i} {v = v} n =
    let q : i + 2 + 4 ≡ i + 6 = omega arith in
    let r : Read t room ns-esc-16-bit (i + 1) (i + 6) = subst (λ z. Read t room ns-esc-16-bit (i + 1) z) q (by_rule refl (numbered_made t i 117 4 v (omega arith) n)) in
    by_rule refl (in_left (by_rule refl (one_then (one_char t i 92 (omega arith) n.backslash) (in_right (in_right (in_left r))))))

-- an escape is one character of the standard's, or two
pub data Halves (t : List ℕ) (room : ℕ) : ℕ → ℕ → Type 0 where
  whole : {i j : ℕ} → Read t room nb-double-char i j → Halves t room i j
  two_halves : {i k j : ℕ} → Read t room nb-double-char i k → code t k ≡ 92 → Read t room nb-double-char k j → Halves t room i j

escape_made : {room : ℕ} {t : List ℕ} {i j v : ℕ} → Escape t i j v → Halves t room i j
unfolding rule kind c-escape
escape_made {room = room} {t = t} (by_letter {i = i} {v = v} b e) =
    let l : code t (i + 1) < 128 = named_below (code t (i + 1)) v e in
    let two : i + 1 + 1 ≡ i + 2 = omega arith in
    let s = subst (λ z. Read t room (‹ ns-esc-null ∪ ns-esc-bell ∪ ns-esc-backspace ∪ ns-esc-horizontal-tab ∪ ns-esc-line-feed ∪ ns-esc-vertical-tab ∪ ns-esc-form-feed ∪ ns-esc-carriage-return ∪ ns-esc-escape
    ∪ ns-esc-space ∪ ns-esc-double-quote ∪ ns-esc-slash ∪ ns-esc-backslash ∪ ns-esc-next-line ∪ ns-esc-non-breaking-space ∪ ns-esc-line-separator ∪ ns-esc-paragraph-separator ›) (i + 1) z) (next_ascii t (i + 1) l ∙ two) (one_of (letter_is (code t (i + 1)) v e)) in
    whole (by_rule refl (in_left (by_rule refl (one_then (one_char t i 92 (omega arith) b) (in_left s)))))
escape_made {room = room} {t = t} (by_two {i = i} {v = v} n) =
    let q : i + 2 + 2 ≡ i + 4 = omega arith in
    let r : Read t room ns-esc-8-bit (i + 1) (i + 4) = subst (λ z. Read t room ns-esc-8-bit (i + 1) z) q (by_rule refl (numbered_made t i 120 2 v (omega arith) n)) in
    whole (by_rule refl (in_left (by_rule refl (one_then (one_char t i 92 (omega arith) n.backslash) (in_right (in_left r))))))
escape_made (by_four n h) = whole (four_made n)
escape_made (by_half n h o) = whole (four_made n)
escape_made {room = room} {t = t} (by_pair {i = i} n h m l) =
    let q : i + 6 + 6 ≡ i + 12 = omega arith in
    two_halves (four_made n) m.backslash (subst (λ z. Read t room nb-double-char (i + 6) z) q (four_made m))
escape_made {room = room} {t = t} (by_eight {i = i} {v = v} n) =
    let q : i + 2 + 8 ≡ i + 10 = omega arith in
    let r : Read t room ns-esc-32-bit (i + 1) (i + 10) = subst (λ z. Read t room ns-esc-32-bit (i + 1) z) q (by_rule refl (numbered_made t i 85 8 v (omega arith) n)) in
    whole (by_rule refl (in_left (by_rule refl (one_then (one_char t i 92 (omega arith) n.backslash) (in_right (in_right (in_right r)))))))

-- [107]
plain_double : (c : ℕ) → is_nb_json c ≡ true → c ≢ 92 → c ≢ 34 → (nb-json ∖ c-escape ∖ c-double-quote) c ≡ true
unfolding ◌∖◌ x c-escape c-double-quote
plain_double c e m n = rw (nb_json_is c, e, ne_eqb c 92 m, ne_eqb c 34 n) refl

double_char : {room : ℕ} {t : List ℕ} (i j : ℕ) (w : List Piece) → DoubleChar t i j w → Halves t room i j
unfolding rule kind
double_char {t = t} i j w (unescaped e m n) = whole (by_rule refl (in_right (one_of (plain_double (code t i) e m n))))
double_char i j w (escaped e s) = escape_made e
double_char i j w (wrong e s) = escape_made e

-- [112] and [113]
double_break : {room : ℕ} {t : List ℕ} {n : ℤ} (i j : ℕ) (w : List Piece) → DoubleBreak t n i j w → Read t room (s-double-break n) i j
unfolding rule kind c-escape
double_break i j w (folded_break f) = by_rule refl (in_right (flow_folded_made f))
double_break {t = t} i j w (escaped_break {h = h} m e b c p) =
    by_rule refl (in_left (by_rule refl (one_then (chars_made white_is m) (one_then (one_char t h 92 (omega arith) e) (one_then (non_content_made b) (one_then (many_made empty_made c) (flow_prefix_made p)))))))

slash_no_white : s-white 92 ≡ false
slash_no_white = no_white_is 92 white_backslash

-- [108] and [114]
double_front : {room : ℕ} {t : List ℕ} {i j : ℕ} → Halves t room i j → is_white (code t i) ≡ false → (k : ℕ) × (Read t room ns-double-char i k × Read t room ((‹ s-white › ⋆ then ns-double-char) ⋆) k j)
unfolding rule kind
double_front {t = t} {i = i} {j = j} (whole d) w = (j, (by_rule refl (without d (no_white_is (code t i) w)), no_more))
double_front {t = t} {i = i} {j = j} (two_halves {k = k} d e f) w =
    (k, (by_rule refl (without d (no_white_is (code t i) w)), one_more (one_then no_more (by_rule refl (without f (ap s-white e ∙ slash_no_white)))) no_more))

double_stars : {room : ℕ} {t : List ℕ} {i j : ℕ} → Halves t room i j → Read t room (nb-double-char ⋆) i j
double_stars (whole d) = one_more d no_more
double_stars (two_halves d e f) = one_more d (one_more f no_more)

double_kind : (t : List ℕ) (room : ℕ) (n : ℤ) → QuoteKind t room (DoubleChar t) (DoubleBreak t n) nb-double-char ns-double-char (s-double-break n) nb-ns-double-in-line (s-double-next-line n)
unfolding rule kind
double_kind t room n = record {
  char = λ i j w c. double_stars (double_char i j w c);
  front = λ i j w c e. double_front (double_char i j w c) e;
  break = λ i j w b. double_break i j w b;
  in_line = λ d. by_rule refl d;
  further = λ d. by_rule refl d;
}

double_inside : (t : List ℕ) (room : ℕ) (n : ℤ) (c : Ctx) {i j : ℕ} {w : List Piece} → Inside t goods (DoubleChar t) (DoubleBreak t n) c i j w → Read t room (nb-double-text n c) i j
unfolding rule kind
double_inside t room n BlockKey (as_key e r) = by_rule refl (by_rule refl (chars_in goods (double_kind t room n) r))
double_inside t room n FlowKey (as_key e r) = by_rule refl (by_rule refl (chars_in goods (double_kind t room n) r))
double_inside t room n BlockOut (as_key e r) = absurd (true≢false (sym e))
double_inside t room n BlockIn (as_key e r) = absurd (true≢false (sym e))
double_inside t room n FlowOut (as_key e r) = absurd (true≢false (sym e))
double_inside t room n FlowIn (as_key e r) = absurd (true≢false (sym e))
double_inside t room n FlowOut (as_lines e c r) =
    by_rule refl (by_rule refl (one_then (by_rule refl (items_in goods (double_kind t room n) c)) (rest_in goods (double_kind t room n) r)))
double_inside t room n FlowIn (as_lines e c r) =
    by_rule refl (by_rule refl (one_then (by_rule refl (items_in goods (double_kind t room n) c)) (rest_in goods (double_kind t room n) r)))
double_inside t room n BlockOut (as_lines e c r) = absurd (true≢false (sym e))
double_inside t room n BlockIn (as_lines e c r) = absurd (true≢false (sym e))
double_inside t room n BlockKey (as_lines e c r) = absurd (true≢false (sym e))
double_inside t room n FlowKey (as_lines e c r) = absurd (true≢false (sym e))

-- [109]
pub double_made : {room : ℕ} {t : List ℕ} {n : ℤ} {c : Ctx} {i j : ℕ} {w : List Piece} → DoubleQuoted t n c i j w → Read t room (c-double-quoted n c) i j
unfolding rule kind c-double-quote
double_made {room = room} {t = t} {n = n} {c = c} {i = i} q =
    let close = subst (λ z. Read t room (‹ x 34 ›) q.close z) q.end (one_char t q.close 34 (omega arith) q.closing) in
    by_rule refl (one_then (one_char t i 34 (omega arith) q.opening) (one_then (double_inside t room n c q.inside) close))
