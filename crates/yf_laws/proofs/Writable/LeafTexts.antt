-- The texts of leaves that are derived in a text are UTF-8.
use Rattle.std.proofs.Common.{◌≡◌, ℕ, zero, suc, ◌+◌, ◌<◌, ℤ, Bool, true, false, List, [], ◌∷◌, ◌++◌, drop, refl, sym, ap, ◌∙◌, subst, arith, encode_utf8_all, ⊎_elim}
use Rattle.std.specs.Prelude.{◌==◌, ◌||◌, if◌then◌else◌}
use Rattle.std.specs.Char.{IsScalar}
use Rattle.std.specs.Str.{IsUtf8, chars}
use Rattle.std.proofs.lemmas.Bool.{and_parts, cases_Bool}
use Rattle.std.proofs.lemmas.Bool.Decides.{nat_tests}
use Rattle.std.proofs.lemmas.Str.{IsUtf8-append, IsUtf8-drop, IsUtf8-encode, IsUtf8-nil, chars_past_char, encodes-append, scalars-chars}
use lib.Utf8.{encode, encodes, scalar, scalars}
use Rattle.yf_chars.specs.declared.context.Ctx.{Ctx}
use Rattle.yf_chars.specs.Text.{begins, code, no_char}
use Rattle.yf_chars.specs.Class.{is_nb_char, is_ns_char, is_printable, is_between, is_break_char, is_white}
use Rattle.yf_chars.specs.Chain.{Chain, Many, One}
use Rattle.yf_chars.specs.Chain.Chain.{done, step}
use Rattle.yf_chars.specs.Chain.One.{one}
use Rattle.yf_chars.proofs.TextLemmas.{boundary_from_begins, drop_there}
use Rattle.yf_lines.specs.Basic.{Empty, FoldedBreak, FlowFolded}
use Rattle.yf_lines.specs.Basic.Empty.{prefixed, shorter}
use Rattle.yf_lines.specs.Basic.FoldedBreak.{trimmed, as_space}
use Rattle.yf_lines.specs.Basic.FlowFolded.{at_break, past_whites}
use Rattle.yf_plain.specs.Plain.{PlainItem, PlainLine, PlainNext, PlainText}
use Rattle.yf_plain.specs.Plain.PlainItem.{set_off}
use Rattle.yf_plain.specs.Plain.PlainLine.{one_line}
use Rattle.yf_plain.specs.Plain.PlainNext.{next_line}
use Rattle.yf_plain.specs.Plain.PlainText.{as_key, as_lines}
use Rattle.yf_plain.proofs.PlainLemmas.{plain_is_ns, first_is_ns}
use Rattle.yf_quoted.specs.Quoted as Q
use Rattle.yf_quoted.specs.Quoted.{Piece, good, bad, text_of, goods, as_they_are, SingleChar, SingleQuoted, DoubleChar, DoubleBreak, DoubleQuoted}
use Rattle.yf_quoted.specs.Quoted.SingleChar.{doubled, unquoted}
use Rattle.yf_quoted.specs.Quoted.DoubleChar.{unescaped, escaped, wrong}
use Rattle.yf_quoted.specs.Quoted.DoubleBreak.{folded_break, escaped_break}
use Rattle.yf_quoted.proofs.GapLemmas.{text_of_goods}
use Rattle.yf_quoted.proofs.ReadLemmas.{pieces_bytes}
use Rattle.yf_block_scalar.specs.Body.{Body, BodyValue}
use Rattle.yf_block_scalar.specs.Content.{content_of, ending, feeds, folded as folded_lines, folded_after, joint, literal, literal_after, lone_tail}
use Rattle.yf_block_scalar.specs.Written.{AreLineTexts}
use Rattle.yf_block_scalar.specs.declared.header.Chomp.{Chomp}
use Rattle.yf_block_scalar.specs.declared.header.Chomp.TheVariants.{Strip, Clip, Keep}
use Rattle.yf_block_scalar.specs.declared.header.Header.{Header}
use Rattle.yf_block_scalar.proofs.ScalarLemmas.{body_scalar}
use Rattle.yf_laws.proofs.Texts.LineUtf8.{line_utf8, feed_utf8}
use Rattle.yf_chars.proofs.CharBounds.{json_below}
use Rattle.yf_print.proofs.Pass.WhiteLemmas.{white_scalar}

-- Characters.

abbrev Fine : List ℕ → Type 0
Fine x = IsUtf8 (encodes x)

fine_both : (x y : List ℕ) → Fine x → Fine y → Fine (x ++ y)
fine_both x y a b = subst (λ w. IsUtf8 w) (sym (encodes-append x y)) (IsUtf8-append (encodes x) (encodes y) a b)

fine_more : (c : ℕ) (x : List ℕ) → IsScalar c → Fine x → Fine (c ∷ x)
fine_more c x s a = IsUtf8-append (encode c) (encodes x) (IsUtf8-encode c s) a

code_scalar : (t : List ℕ) (i : ℕ) → IsUtf8 t → code t i < no_char → IsScalar (code t i)
unfolding code
code_scalar t i u l = ⊎_elim (λ (e : begins t i ≡ true). there e) (λ (e : begins t i ≡ false). absurd (nowhere e)) (cases_Bool (begins t i)) where
  there : begins t i ≡ true → IsScalar (code t i)
  there e =
      let cut = drop_there t i u e in
      let rest : IsUtf8 (drop i t) = IsUtf8-drop t i u (boundary_from_begins t i e) in
      (and_parts (scalar (code t i)) (scalars (chars cut.0)) (ap scalars (sym (chars_past_char (drop i t) cut.0 (code t i) rest cut.1)) ∙ scalars-chars (drop i t) rest)).0

  nowhere : begins t i ≡ false → ⊥
  nowhere e = let same : code t i ≡ no_char = rw e in omega (arith, l, same)

ns_scalar : (c : ℕ) → is_ns_char c ≡ true → IsScalar c
unfolding is_ns_char is_nb_char is_printable is_between is_break_char
ns_scalar c e = grind (arith, nat_tests)

chain_fine : {S : ℕ → ℕ → List ℕ → Type 0} {i j : ℕ} {x : List ℕ} → ((h k : ℕ) (y : List ℕ) → S h k y → Fine y) → Chain S i j x → Fine x
chain_fine f done = IsUtf8-nil
chain_fine f (step {x = x} {y = y} s c) = fine_both x y (f _ _ x s) (chain_fine f c)

one_white : {t : List ℕ} (h k : ℕ) (y : List ℕ) → One t is_white h k y → Fine y
one_white {t} h k y (one e) = fine_more (code t h) [] (white_scalar (code t h) e) IsUtf8-nil

whites_fine : {t : List ℕ} {i j : ℕ} {x : List ℕ} → Many t is_white i j x → Fine x
whites_fine m = chain_fine one_white m

empty_fine : {t : List ℕ} {n : ℤ} {c : Ctx} (h k : ℕ) (y : List ℕ) → Empty t n c h k y → Fine y
empty_fine h k y (prefixed p b) = fine_more 10 [] refl IsUtf8-nil
empty_fine h k y (shorter p b) = fine_more 10 [] refl IsUtf8-nil

break_fine : {t : List ℕ} {n : ℤ} {c : Ctx} {i j : ℕ} {x : List ℕ} → FoldedBreak t n c i j x → Fine x
break_fine (trimmed {x = x} {y = y} b e c) = fine_both x y (empty_fine _ _ x e) (chain_fine empty_fine c)
break_fine (as_space b) = fine_more 32 [] refl IsUtf8-nil

fold_fine : {t : List ℕ} {n : ℤ} {i j : ℕ} {x : List ℕ} → FlowFolded t n i j x → Fine x
fold_fine (at_break f p) = break_fine f
fold_fine (past_whites s f p) = break_fine f

-- Plain scalars.

item_fine : {t : List ℕ} {c : Ctx} (h k : ℕ) (y : List ℕ) → PlainItem t c h k y → Fine y
item_fine {t} {c} h k y (set_off {h = g} {x = x} m e) =
    fine_both x (code t g ∷ []) (whites_fine m) (fine_more (code t g) [] (ns_scalar (code t g) (plain_is_ns t c g e)) IsUtf8-nil)

line_fine : {t : List ℕ} {c : Ctx} {i j : ℕ} {x : List ℕ} → PlainLine t c i j x → Fine x
line_fine {t} {c} {i} (one_line {x = x} e d) = fine_more (code t i) x (ns_scalar (code t i) (first_is_ns t c i e)) (chain_fine item_fine d)

next_fine : {t : List ℕ} {n : ℤ} {c : Ctx} (h k : ℕ) (y : List ℕ) → PlainNext t n c h k y → Fine y
next_fine {t} {n} {c} h k z (next_line {h = g} {x = x} {y = y} f e d) =
    fine_both x (code t g ∷ y) (fold_fine f) (fine_more (code t g) y (ns_scalar (code t g) (plain_is_ns t c g e)) (chain_fine item_fine d))

pub plain_utf8 : {t : List ℕ} {n : ℤ} {c : Ctx} {i j : ℕ} {x : List ℕ} → PlainText t n c i j x → IsUtf8 (encode_utf8_all x)
plain_utf8 (as_key k l) = line_fine l
plain_utf8 (as_lines {x = x} {y = y} k l d) = fine_both x y (line_fine l) (chain_fine next_fine d)

-- Quoted scalars.

-- a property of the meanings of the parts
record Sums {A : Type 0} (put : List ℕ → List A) (P : List A → Type 0) : Type 0 where
  none : P []
  both : (x y : List A) → P x → P y → P (x ++ y)
  plain : (x : List ℕ) → Fine x → P (put x)

chars_hold : {A : Type 0} {put : List ℕ → List A} {P : List A → Type 0} {C : ℕ → ℕ → List A → Type 0} {i j : ℕ} {x : List A} → Sums put P
    → ((h k : ℕ) (y : List A) → C h k y → P y) → Chain C i j x → P x
chars_hold s each done = s.none
chars_hold s each (step {x = x} {y = y} a c) = s.both x y (each _ _ x a) (chars_hold s each c)

module _ {A : Type 0} {t : List ℕ} {put : List ℕ → List A} {P : List A → Type 0} {C B : ℕ → ℕ → List A → Type 0} (s : Sums put P)
    (each : (h k : ℕ) (y : List A) → C h k y → P y) (breaks : (h k : ℕ) (y : List A) → B h k y → P y) where
  item_holds : {i j : ℕ} {x : List A} → Q.Item t put C i j x → P x
  item_holds (Q.Item.set_off {x = x} {y = y} m w a) = s.both (put x) y (s.plain x (whites_fine m)) (each _ _ y a)

  items_hold : {i j : ℕ} {x : List A} → Chain (Q.Item t put C) i j x → P x
  items_hold done = s.none
  items_hold (step {x = x} {y = y} a c) = s.both x y (item_holds a) (items_hold c)

  rest_holds : {i j : ℕ} {x : List A} → Q.Rest t put C B i j x → P x
  rest_holds (Q.Rest.blank {x = x} m) = s.plain x (whites_fine m)
  rest_holds (Q.Rest.last_break {x = x} b) = breaks _ _ x b
  rest_holds (Q.Rest.next_line {x = x} {y = y} {z = z} {w = w} b n a c r) =
      s.both x (y ++ (z ++ w)) (breaks _ _ x b) (s.both y (z ++ w) (each _ _ y a) (s.both z w (items_hold c) (rest_holds r)))

  inside_holds : {c : Ctx} {i j : ℕ} {x : List A} → Q.Inside t put C B c i j x → P x
  inside_holds (Q.Inside.as_key k a) = chars_hold s each a
  inside_holds (Q.Inside.as_lines {x = x} {y = y} k a r) = s.both x y (items_hold a) (rest_holds r)

single_fine : {t : List ℕ} → IsUtf8 t → (h k : ℕ) (y : List ℕ) → SingleChar t h k y → Fine y
single_fine u h k y (doubled a b) = fine_more 39 [] refl IsUtf8-nil
single_fine {t} u h k y (unquoted e n) = fine_more (code t h) [] (code_scalar t h u (json_below (code t h) e)) IsUtf8-nil

pub single_utf8 : {t : List ℕ} {n : ℤ} {c : Ctx} {i j : ℕ} {x : List ℕ} → IsUtf8 t → SingleQuoted t n c i j x → IsUtf8 (encode_utf8_all x)
single_utf8 u q =
    inside_holds {P = Fine} (record { none = IsUtf8-nil; both = fine_both; plain = λ x a. a }) (single_fine u) (λ h k y f. fold_fine f) q.inside

abbrev FinePieces : List Piece → Type 0
FinePieces x = Fine (text_of x)

pieces_both : (x y : List Piece) → FinePieces x → FinePieces y → FinePieces (x ++ y)
pieces_both x y a b = subst (λ w. IsUtf8 w) (sym (pieces_bytes x y)) (IsUtf8-append (encodes (text_of x)) (encodes (text_of y)) a b)

pieces_plain : (x : List ℕ) → Fine x → FinePieces (goods x)
pieces_plain x a = subst (λ w. Fine w) (sym (text_of_goods x)) a

double_fine : {t : List ℕ} → IsUtf8 t → (h k : ℕ) (y : List Piece) → DoubleChar t h k y → FinePieces y
double_fine {t} u h k y (unescaped e m n) = fine_more (code t h) [] (code_scalar t h u (json_below (code t h) e)) IsUtf8-nil
double_fine u h k y (escaped {v = v} e s) = fine_more v [] s IsUtf8-nil
double_fine u h k y (wrong e s) = fine_more 0xFFFD [] refl IsUtf8-nil

breaks_fine : {t : List ℕ} {n : ℤ} (h k : ℕ) (y : List Piece) → DoubleBreak t n h k y → FinePieces y
breaks_fine h k y (folded_break {x = x} f) = pieces_plain x (fold_fine f)
breaks_fine h k z (escaped_break {x = x} {y = y} m e b c p) =
    pieces_both (goods x) (goods y) (pieces_plain x (whites_fine m)) (pieces_plain y (chain_fine empty_fine c))

pub double_utf8 : {t : List ℕ} {n : ℤ} {c : Ctx} {i j : ℕ} {x : List Piece} → IsUtf8 t → DoubleQuoted t n c i j x → IsUtf8 (encode_utf8_all (text_of x))
double_utf8 u q = inside_holds {P = FinePieces} (record { none = IsUtf8-nil; both = pieces_both; plain = pieces_plain }) (double_fine u) breaks_fine q.inside

-- Block scalars.

feeds_utf8 : (n : ℕ) → IsUtf8 (feeds n)
feeds_utf8 zero = IsUtf8-nil
feeds_utf8 (suc n) = feed_utf8 (feeds_utf8 n)

space_utf8 : IsUtf8 (32 ∷ [])
unfolding encode
space_utf8 = fine_more 32 [] refl IsUtf8-nil

joint_utf8 : (s : Bool) (k : ℕ) → IsUtf8 (joint s k)
joint_utf8 true k = feeds_utf8 (k + 1)
joint_utf8 false k = by (k == 0) where
  by : (b : Bool) → IsUtf8 (if b then 32 ∷ [] else feeds k)
  by true = space_utf8
  by false = feeds_utf8 k

after_utf8 : (s : Bool) (k : ℕ) (ls : List (List ℕ)) → AreLineTexts ls → IsUtf8 (folded_after s k ls)
after_utf8 s k [] a = IsUtf8-nil
after_utf8 s k ([] ∷ ls) a = after_utf8 s (k + 1) ls a.1
after_utf8 s k ((c ∷ x) ∷ ls) a =
    IsUtf8-append (joint (s || is_white c) k ++ (c ∷ x)) (folded_after (is_white c) 0 ls)
    (IsUtf8-append (joint (s || is_white c) k) (c ∷ x) (joint_utf8 (s || is_white c) k) (line_utf8 a.0)) (after_utf8 (is_white c) 0 ls a.1)

folded_utf8 : (ls : List (List ℕ)) → AreLineTexts ls → IsUtf8 (folded_lines ls)
folded_utf8 [] a = IsUtf8-nil
folded_utf8 ([] ∷ ls) a = feed_utf8 (folded_utf8 ls a.1)
folded_utf8 ((c ∷ x) ∷ ls) a = IsUtf8-append (c ∷ x) (folded_after (is_white c) 0 ls) (line_utf8 a.0) (after_utf8 (is_white c) 0 ls a.1)

literal_utf8 : (ls : List (List ℕ)) → AreLineTexts ls → IsUtf8 (literal_after ls)
literal_utf8 [] a = IsUtf8-nil
literal_utf8 (x ∷ ls) a = feed_utf8 (IsUtf8-append x (literal_after ls) (line_utf8 a.0) (literal_utf8 ls a.1))

ending_utf8 : (c : Chomp) (tail : ℕ) → IsUtf8 (ending c tail)
ending_utf8 Strip tail = IsUtf8-nil
ending_utf8 Clip tail = feeds_utf8 1
ending_utf8 Keep tail = feeds_utf8 (tail + 1)

lone_utf8 : (c : Chomp) (tail : ℕ) → IsUtf8 (lone_tail c tail)
lone_utf8 Strip tail = IsUtf8-nil
lone_utf8 Clip tail = IsUtf8-nil
lone_utf8 Keep tail = feeds_utf8 tail

either_utf8 : {x y : List ℕ} (b : Bool) → IsUtf8 x → IsUtf8 y → IsUtf8 (if b then x else y)
either_utf8 true a c = a
either_utf8 false a c = c

pub block_utf8 : {t : List ℕ} {n : ℤ} {h : Header} {i j : ℕ} {v : BodyValue} → IsUtf8 t → Body t n h i j v → IsUtf8 (content_of h v.lines v.tail v.open_end)
block_utf8 {h = h} {v = v} u b = go v.lines refl where
  go : (ls : List (List ℕ)) → v.lines ≡ ls → IsUtf8 (content_of h ls v.tail v.open_end)
  go [] e = lone_utf8 h.chomp v.tail
  go (x ∷ ls) e =
      let a : AreLineTexts (x ∷ ls) = subst (λ w. AreLineTexts w) e (body_scalar u b (λ none. cc)).lines in
      IsUtf8-append (if h.folded then folded_lines (x ∷ ls) else literal (x ∷ ls)) (if v.open_end then [] else ending h.chomp v.tail)
      (either_utf8 h.folded (folded_utf8 (x ∷ ls) a) (IsUtf8-append x (literal_after ls) (line_utf8 a.0) (literal_utf8 ls a.1)))
      (either_utf8 v.open_end IsUtf8-nil (ending_utf8 h.chomp v.tail))
