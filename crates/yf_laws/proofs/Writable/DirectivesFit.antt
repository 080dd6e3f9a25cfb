-- Directives that are read can be written, with one space between their words.
use Rattle.std.proofs.Common.{◌≡◌, ◌≢◌, ℕ, ◌+◌, ◌<◌, ◌≤◌, Bool, true, false, List, [], ◌∷◌, ◌++◌, length, slice_range, codes, refl, sym, ap, ◌∙◌, subst, arith, ⊎_elim, ◌⊎◌, inl, inr, eqb, drop, append_assoc, append-nil, length-append, length-drop}
use Rattle.std.proofs.lemmas.Str.{encode_ascii, encodes-append}
use Rattle.std.proofs.lemmas.Bool.{eqb-true, or_cases}
use Rattle.std.proofs.lemmas.Bool.Decides.{nat_tests}
use Rattle.std.specs.Str.{IsUtf8}
use lib.Utf8.{encode, encodes}
use Rattle.yf_chars.specs.Text.{code, next, no_char, CharAt}
use Rattle.yf_chars.specs.Class.{is_between, is_break_char, is_digit, is_hex_digit, is_nb_char, is_ns_char, is_printable, is_tag_char, is_uri_char, is_white}
use Rattle.yf_chars.specs.Chain.{Chain, Many, One}
use Rattle.yf_chars.specs.Chain.Chain.{done, step}
use Rattle.yf_chars.specs.Chain.One.{one}
use Rattle.yf_chars.proofs.TextLemmas.{reads_byte, reads_real}
use Rattle.yf_chars.proofs.SpelledLemmas.{IsAt, is_at_ascii, is_at_char}
use Rattle.yf_lines.specs.LineText.{AllNb, IsLineText, Follows}
use Rattle.yf_lines.specs.LineText.Follows.{byte_follows}
use Rattle.yf_lines.proofs.ClearLemmas.{spelled_join}
use Rattle.yf_lines.proofs.RestLemmas.{follows_code, line_append, line_ascii, line_nothing, Rest, rest_is_at, slice_back, is_at_chars}
use Rattle.yf_lines.proofs.VisibleLines.{visible_line}
use Rattle.yf_comments.proofs.SpaceLemmas.{space_in_line}
use Rattle.yf_plain.proofs.PlainLemmas.{ns_below}
use Rattle.yf_plain.proofs.PlainBack.{ns_nb}
use Rattle.yf_props.specs.Names.{Run, TagPrefix}
use Rattle.yf_props.specs.Names.SpelledChar.{as_itself, as_escape}
use Rattle.yf_props.specs.Names.TagPrefix.{local_prefix, global_prefix}
use Rattle.yf_props.specs.Written.{AllOf, IsHandle, IsSpelled, nothing_spelled, itself_spelled, escape_spelled}
use Rattle.yf_props.proofs.NamesBack.{escape_back, itself_back, run_back, run_end, spelled_back}
use Rattle.yf_props.proofs.NamesMade.{RunText, Stretch, handle_made, low_bytes, many_each, many_some, many_stretch, run_made, spelled_made, stretch_char, stretch_slice}
use Rattle.yf_props.proofs.PropsBack.{handle_back}
use Rattle.yf_props.proofs.PropsLines.{handle_line, mark_line, spelled_line}
use Rattle.yf_props.proofs.SolidLemmas.{tag_solid, uri_solid}
use Rattle.yf_events.specs.declared.directive.Directive.{Directive}
use Rattle.yf_stream.specs.Stream.{DirectiveLines, Directives, Parameters, ReservedParameter}
use Rattle.yf_stream.specs.Stream.DirectiveLines.{last_directive, more_directives}
use Rattle.yf_stream.specs.Stream.Parameters.{version_parameter, tag_parameters, reserved_parameters}
use Rattle.yf_stream.specs.Stream.ReservedParameter.{reserved_parameter}
use Rattle.yf_laws.specs.Layouts.FitDocuments.{is_apart, DirectiveAt, FitDirective, FitDirectives, fit_no_directives, fit_directive}
use Rattle.yf_print.specs.Layouts.Rows.{joined_words}
use Rattle.yf_chars.proofs.CharFacts.{space_nb}

-- The parts of words.

-- a first character that doesn't begin a comment
abbrev NoHash : List ℕ → Type 0
NoHash [] = Unit {0}
NoHash (c ∷ cs) = c ≢ 35

pub record IsParameter (w : List ℕ) : Type 0 where
  pub text : RunText is_ns_char w
  first : NoHash text.chars

pub data AreParameters : List (List ℕ) → Type 0 where
  no_parameters : AreParameters []
  a_parameter : {w : List ℕ} {ws : List (List ℕ)} → IsParameter w → AreParameters ws → AreParameters (w ∷ ws)

pub record IsVersion (w : List ℕ) : Type 0 where
  pub major : List ℕ
  pub minor : List ℕ
  pub major_is : RunText is_digit major
  pub minor_is : RunText is_digit minor
  pub bytes : w ≡ major ++ (46 ∷ minor)

pub data IsPrefix : List ℕ → Type 0 where
  local_text : {x : List ℕ} → IsSpelled is_uri_char x → IsPrefix (33 ∷ x)
  itself_text : {c : ℕ} {x : List ℕ} → is_tag_char c ≡ true → IsSpelled is_uri_char x → IsPrefix (c ∷ x)
  escape_text : {a b : ℕ} {x : List ℕ} → is_hex_digit a ≡ true → is_hex_digit b ≡ true → IsSpelled is_uri_char x → IsPrefix (37 ∷ a ∷ b ∷ x)

pub data AreWords (name : List ℕ) : List (List ℕ) → Type 0 where
  version_words : {w : List ℕ} → name ≡ codes "YAML" → IsVersion w → AreWords name (w ∷ [])
  tag_words : {h w : List ℕ} → name ≡ codes "TAG" → IsHandle h → IsPrefix w → AreWords name (h ∷ w ∷ [])
  other_words : {ws : List (List ℕ)} → name ≢ codes "YAML" → name ≢ codes "TAG" → AreParameters ws → AreWords name ws

-- They are found by reading words.

digit_below : (c : ℕ) → is_digit c ≡ true → c < no_char
unfolding is_digit is_between
digit_below c e = grind (arith, nat_tests)

run_within : {t : List ℕ} {p : ℕ → Bool} {i j : ℕ} → IsUtf8 t → ((c : ℕ) → p c ≡ true → c < no_char) → Run (One t p) i j → i ≤ length t
run_within {t} {p} {i} {j} u b r = go r.chain r.some where
  go : {i : ℕ} {x : List ℕ} → Many t p i j x → i < j → i ≤ length t
  go done l = absurd (omega arith)
  go (step (one {i = i} e) m) l = let a = reads_real t i u (b (code t i) e) in let k = a.within in let n = a.later in omega arith

pub word_made : {t : List ℕ} {i j : ℕ} → IsUtf8 t → Run (One t is_ns_char) i j → RunText is_ns_char (slice_range t i j)
word_made u r = run_made u ns_below (run_within u ns_below r) r

first_made : {t : List ℕ} {i j : ℕ} {x : List ℕ} → code t i ≢ 35 → Many t is_ns_char i j x → NoHash x
first_made n done = tt
first_made n (step (one e) m) = n

-- with its own characters
parameter_made : {t : List ℕ} {i j : ℕ} → IsUtf8 t → code t i ≢ 35 → Run (One t is_ns_char) i j → IsParameter (slice_range t i j)
parameter_made u n r = record {
  text = record {
    chars = r.characters;
    bytes = sym (stretch_slice (many_stretch u ns_below (run_within u ns_below r) r.chain));
    each = many_each r.chain;
    some = many_some r.some r.chain;
  };
  first = first_made n r.chain;
}

parameters_made : {t : List ℕ} {i j : ℕ} {ws : List (List ℕ)} → IsUtf8 t → Chain (ReservedParameter t) i j ws → AreParameters ws
parameters_made u done = no_parameters
parameters_made u (step (reserved_parameter s n r) more) = a_parameter (parameter_made u n r) (parameters_made u more)

version_made : {t : List ℕ} {k d j : ℕ} → IsUtf8 t → Run (One t is_digit) k d → code t d ≡ 46 → Run (One t is_digit) (d + 1) j → IsVersion (slice_range t k j)
version_made {t} {k} {d} {j} u a e b =
    let first = many_stretch u digit_below (run_within u digit_below a) a.chain in
    let dot = reads_byte t d 46 u e (omega arith) in
    let last = many_stretch u digit_below dot.within b.chain in
    let follows = stretch_char dot last in
    let whole : Stretch t k j (a.characters ++ (46 ∷ b.characters)) = record { spelled = spelled_join first.spelled follows.spelled; within = follows.within } in
    let one : List ℕ = a.characters in
    let two : List ℕ = b.characters in
    record {
      major = encodes one;
      minor = encodes two;
      major_is = record { chars = one; bytes = refl; each = many_each a.chain; some = many_some a.some a.chain };
      minor_is = record { chars = two; bytes = refl; each = many_each b.chain; some = many_some b.some b.chain };
      bytes = stretch_slice whole ∙ (encodes-append one (46 ∷ two) ∙ ap (λ w. encodes one ++ (w ++ encodes two)) (encode_ascii 46 (omega arith)));
    }

prefix_made : {t : List ℕ} {i j : ℕ} {x : List ℕ} → IsUtf8 t → TagPrefix t i j x → IsPrefix (slice_range t i j)
prefix_made {t} u (local_prefix {i = i} {j = j} {x = x} e c) =
    let sign = reads_byte t i 33 u e (omega arith) in
    let made = spelled_made u uri_solid sign.within c in
    let bytes : slice_range t i j ≡ 33 ∷ x = stretch_slice (stretch_char sign made.stretch) ∙ low_bytes (33 ∷ x) (omega arith, made.low) in
    subst (λ w. IsPrefix w) (sym bytes) (local_text made.text)
prefix_made {t} u (global_prefix {j = j} {x = x} (as_itself {i = i} e) c) =
    let solid = tag_solid (code t i) e in
    let h = solid.high in
    let one = reads_byte t i (code t i) u refl (omega arith) in
    let first : CharAt t i (code t i) (next t i) = subst (λ k. CharAt t i (code t i) k) (sym one.end) one in
    let made = spelled_made u uri_solid first.within c in
    let bytes : slice_range t i j ≡ code t i ∷ x = stretch_slice (stretch_char first made.stretch) ∙ low_bytes (code t i ∷ x) (omega arith, made.low) in
    subst (λ w. IsPrefix w) (sym bytes) (itself_text e made.text)
prefix_made {t} u (global_prefix {j = j} {c = c} {x = x} (as_escape {i = i} e f g) d) =
    let sign = reads_byte t i 37 u e (omega arith) in
    let first = spelled_made u tag_solid (let l = sign.within in omega arith) (step (as_escape e f g) done) in
    let made = spelled_made u uri_solid first.stretch.within d in
    let whole : Stretch t i j (37 ∷ code t (i + 1) ∷ code t (i + 2) ∷ x) = record { spelled = spelled_join first.stretch.spelled made.stretch.spelled; within = made.stretch.within } in
    let bytes : slice_range t i j ≡ 37 ∷ code t (i + 1) ∷ code t (i + 2) ∷ x =
    stretch_slice whole ∙ low_bytes (37 ∷ code t (i + 1) ∷ code t (i + 2) ∷ x) (first.low.0, (first.low.1.0, (first.low.1.1.0, made.low))) in
    subst (λ w. IsPrefix w) (sym bytes) (escape_text f g made.text)

pub words_made : {t name : List ℕ} {i j : ℕ} {ws : List (List ℕ)} → IsUtf8 t → Parameters t name i j ws → AreWords name ws
words_made u (version_parameter e s a d b) = version_words e (version_made u a d b)
words_made u (tag_parameters e s a q b) = tag_words e (handle_made u a).text (prefix_made u b)
words_made u (reserved_parameters e f c) = other_words e f (parameters_made u c)

-- Words on one line.

-- each after a space
abbrev words_then : List (List ℕ) → List ℕ → List ℕ
words_then [] r = r
words_then (w ∷ ws) r = 32 ∷ (w ++ words_then ws r)

joined_then : (n : List ℕ) (ws : List (List ℕ)) (r : List ℕ) → joined_words (n ∷ ws) ++ r ≡ n ++ words_then ws r
joined_then n [] r = refl
joined_then n (w ∷ ws) r = append_assoc n (32 ∷ joined_words (w ∷ ws)) r ∙ ap (λ z. n ++ (32 ∷ z)) (joined_then w ws r)

pub all_nb : {p : ℕ → Bool} → ((c : ℕ) → p c ≡ true → is_nb_char c ≡ true) → (cs : List ℕ) → AllOf p cs → AllNb cs
all_nb f [] a = tt
all_nb f (c ∷ cs) a = (f c a.0, all_nb f cs a.1)

run_line : {p : ℕ → Bool} {w : List ℕ} → ((c : ℕ) → p c ≡ true → is_nb_char c ≡ true) → RunText p w → IsLineText w
run_line f a = record { chars = a.chars; bytes = a.bytes; each = all_nb f a.chars a.each }

digit_nb : (c : ℕ) → is_digit c ≡ true → is_nb_char c ≡ true
unfolding is_digit is_nb_char is_printable is_between is_break_char
digit_nb c e = grind (arith, nat_tests)

apart_line : {w z : List ℕ} → IsLineText w → IsLineText z → IsLineText (32 ∷ (w ++ z))
apart_line a b = line_ascii 32 (omega arith) space_nb (line_append a b)

prefix_line : {w : List ℕ} → IsPrefix w → IsLineText w
prefix_line (local_text {x = x} k) = mark_line (subst (λ w. IsLineText w) (append-nil x) (spelled_line uri_solid k line_nothing))
prefix_line (itself_text {c = c} {x = x} e k) =
    spelled_line tag_solid (itself_spelled e nothing_spelled) (subst (λ w. IsLineText w) (append-nil x) (spelled_line uri_solid k line_nothing))
prefix_line (escape_text {x = x} e f k) =
    spelled_line tag_solid (escape_spelled e f nothing_spelled) (subst (λ w. IsLineText w) (append-nil x) (spelled_line uri_solid k line_nothing))

version_line : {w : List ℕ} → IsVersion w → IsLineText w
version_line a =
    let b : IsLineText (a.major ++ (46 ∷ a.minor)) =
    line_append (run_line digit_nb a.major_is) (visible_line 46 (omega arith) (omega arith) (run_line digit_nb a.minor_is)) in
    subst (λ w. IsLineText w) (sym a.bytes) b

parameters_line : {ws : List (List ℕ)} → AreParameters ws → IsLineText (words_then ws [])
parameters_line no_parameters = line_nothing
parameters_line (a_parameter a more) = apart_line (run_line ns_nb a.text) (parameters_line more)

words_line : {name : List ℕ} {ws : List (List ℕ)} → AreWords name ws → IsLineText (words_then ws [])
words_line (version_words e a) = apart_line (version_line a) line_nothing
words_line (tag_words e a b) = apart_line (handle_line a) (apart_line (prefix_line b) line_nothing)
words_line (other_words e f a) = parameters_line a

-- They are read again.

none_apart : (c : ℕ) → (c ≡ no_char) ⊎ (is_apart c ≡ true) → (c ≡ no_char) ⊎ ((c ≡ 32) ⊎ (c ≡ 10))
none_apart c (inl e) = inl e
none_apart c (inr e) = inr (⊎_elim (λ (h : eqb c 32 ≡ true). inl (eqb-true c 32 h)) (λ (h : eqb c 10 ≡ true). inr (eqb-true c 10 h)) (or_cases (eqb c 32) (eqb c 10) e))

ns_apart : (c : ℕ) → (c ≡ no_char) ⊎ (is_apart c ≡ true) → is_ns_char c ≡ false
unfolding is_ns_char is_nb_char is_printable is_between is_break_char is_white
ns_apart c h = ⊎_elim (λ (e : c ≡ no_char). ap is_ns_char e) (λ (k : (c ≡ 32) ⊎ (c ≡ 10)).
    ⊎_elim (λ (e : c ≡ 32). ap is_ns_char e) (λ (e : c ≡ 10). ap is_ns_char e) k) (none_apart c h)

digit_apart : (c : ℕ) → (c ≡ no_char) ⊎ (is_apart c ≡ true) → is_digit c ≡ false
unfolding is_digit is_between
digit_apart c h = ⊎_elim (λ (e : c ≡ no_char). ap is_digit e) (λ (k : (c ≡ 32) ⊎ (c ≡ 10)).
    ⊎_elim (λ (e : c ≡ 32). ap is_digit e) (λ (e : c ≡ 10). ap is_digit e) k) (none_apart c h)

no_digit : is_digit 46 ≡ false
unfolding is_digit is_between
no_digit = refl

words_follow : (ws : List (List ℕ)) {r : List ℕ} → Follows is_apart r → Follows is_apart (words_then ws r)
words_follow [] f = f
words_follow (w ∷ ws) f = byte_follows (omega arith) refl

-- the rest of a text determines its offset
place_back : {t r : List ℕ} {p q : ℕ} → IsAt t p r → IsAt t q r → p ≡ q
place_back {t} {r} {p} {q} a b =
    let first : length (drop p t) ≡ length r = ap length a.bytes in
    let second : length (drop q t) ≡ length r = ap length b.bytes in
    omega (arith, first, second, length-drop p t, length-drop q t, a.boundary.0, b.boundary.0)

word_end : {t : List ℕ} (w r : List ℕ) (q : ℕ) → IsUtf8 t → IsLineText w → IsAt t q (w ++ r) → IsAt t (q + length w) r
word_end {t} w r q u a s =
    let bytes : encodes a.chars ≡ w = a.bytes in
    subst (λ v. IsAt t (q + length v) r) bytes (is_at_chars a.chars u (subst (λ v. IsAt t q (v ++ r)) (sym bytes) s))

record WordAt (t : List ℕ) (q : ℕ) (w r : List ℕ) : Type 0 where
  run : Run (One t is_ns_char) q (q + length w)
  rest : IsAt t (q + length w) r
  is : slice_range t q (q + length w) ≡ w

word_back : {t w : List ℕ} (r : List ℕ) (q : ℕ) → IsUtf8 t → RunText is_ns_char w → Follows is_apart r → IsAt t q (w ++ r) → WordAt t q w r
word_back {t} {w} r q u a f s =
    let rest = run_end r q u a s in
    record { run = run_back r q u a (ns_apart (code t (q + length w)) (follows_code u rest f)) s; rest = rest; is = slice_back w r s }

first_back : {t w : List ℕ} (cs r : List ℕ) (q : ℕ) → IsUtf8 t → encodes cs ≡ w → cs ≢ [] → NoHash cs → IsAt t q (w ++ r) → code t q ≢ 35
first_back [] r q u e n h s = absurd (n refl)
first_back {t} (c ∷ cs) r q u e n h s =
    let whole : IsAt t q (encode c ++ (encodes cs ++ r)) = subst (λ z. IsAt t q z) (ap (λ z. z ++ r) (sym e) ∙ append_assoc (encode c) (encodes cs) r) s in
    let char = (is_at_char c u whole).0.char in
    λ k. h (sym char ∙ k)

record ParametersAt (t name : List ℕ) (q : ℕ) (ws : List (List ℕ)) (r : List ℕ) : Type 0 where
  end : ℕ
  parameters : Parameters t name q end ws
  rest : IsAt t end r

record ChainAt (t : List ℕ) (q : ℕ) (ws : List (List ℕ)) (r : List ℕ) : Type 0 where
  end : ℕ
  chain : Chain (ReservedParameter t) q end ws
  rest : IsAt t end r

chain_back : {t : List ℕ} {ws : List (List ℕ)} (r : List ℕ) (q : ℕ) → IsUtf8 t → AreParameters ws → Follows is_apart r → IsAt t q (words_then ws r) → ChainAt t q ws r
chain_back r q u no_parameters f s = record { end = q; chain = done; rest = s }
chain_back {t} r q u (a_parameter {w = w} {ws = ws} a more) f s =
    let space = is_at_ascii 32 u (omega arith) s in
    let word = word_back (words_then ws r) (q + 1) u a.text (words_follow ws f) space.1 in
    let others = chain_back r (q + 1 + length w) u more f word.rest in
    let first = first_back a.text.chars (words_then ws r) (q + 1) u a.text.bytes a.text.some a.first space.1 in
    let whole : Chain (ReservedParameter t) q others.end (slice_range t (q + 1) (q + 1 + length w) ∷ ws) =
    step (reserved_parameter (space_in_line q space.0.char) first word.run) others.chain in
    record { end = others.end; chain = subst (λ v. Chain (ReservedParameter t) q others.end (v ∷ ws)) word.is whole; rest = others.rest }

version_back : {t name w : List ℕ} (r : List ℕ) (q : ℕ) → IsUtf8 t → name ≡ codes "YAML" → IsVersion w → Follows is_apart r → IsAt t q (32 ∷ (w ++ r))
    → ParametersAt t name q (w ∷ []) r
version_back {t} {name} {w} r q u e a f s =
    let space = is_at_ascii 32 u (omega arith) s in
    let bytes : w ≡ a.major ++ (46 ∷ a.minor) = a.bytes in
    let major : IsAt t (q + 1) (a.major ++ (46 ∷ (a.minor ++ r))) =
    subst (λ z. IsAt t (q + 1) z) (ap (λ z. z ++ r) bytes ∙ append_assoc a.major (46 ∷ a.minor) r) space.1 in
    let dot = is_at_ascii 46 u (omega arith) (run_end (46 ∷ (a.minor ++ r)) (q + 1) u a.major_is major) in
    let d : ℕ = q + 1 + length a.major in
    let one = run_back (46 ∷ (a.minor ++ r)) (q + 1) u a.major_is (ap is_digit dot.0.char ∙ no_digit) major in
    let rest = run_end r (d + 1) u a.minor_is dot.1 in
    let two = run_back r (d + 1) u a.minor_is (digit_apart (code t (d + 1 + length a.minor)) (follows_code u rest f)) dot.1 in
    let there : d + 1 + length a.minor ≡ q + 1 + length w = omega (arith, ap length bytes, length-append a.major (46 ∷ a.minor)) in
    let is : slice_range t (q + 1) (d + 1 + length a.minor) ≡ w = ap (slice_range t (q + 1)) there ∙ slice_back w r space.1 in
    let whole : Parameters t name q (d + 1 + length a.minor) (slice_range t (q + 1) (d + 1 + length a.minor) ∷ []) =
    version_parameter e (space_in_line q space.0.char) one dot.0.char two in
    record { end = d + 1 + length a.minor; parameters = subst (λ v. Parameters t name q (d + 1 + length a.minor) (v ∷ [])) is whole; rest = rest }

record PrefixAt (t : List ℕ) (q : ℕ) (r : List ℕ) : Type 0 where
  end : ℕ
  meaning : List ℕ
  prefix : TagPrefix t q end meaning
  rest : IsAt t end r

prefix_back : {t w : List ℕ} (r : List ℕ) (q : ℕ) → IsUtf8 t → IsPrefix w → IsAt t q (w ++ r) → PrefixAt t q r
prefix_back r q u (local_text k) s =
    let sign = is_at_ascii 33 u (omega arith) s in
    let more = spelled_back r (q + 1) u uri_solid k sign.1 in
    record { end = _; meaning = _; prefix = local_prefix sign.0.char more.chain; rest = more.rest }
prefix_back r q u (itself_text {c = c} {x = x} e k) s =
    let first = itself_back c (x ++ r) q u (tag_solid c e) e s in
    let more = spelled_back r (q + 1) u uri_solid k first.1 in
    record { end = _; meaning = _; prefix = global_prefix first.0 more.chain; rest = more.rest }
prefix_back r q u (escape_text {a = a} {b = b} {x = x} e f k) s =
    let first = escape_back a b (x ++ r) q u e f s in
    let more = spelled_back r (q + 3) u uri_solid k first.1 in
    record { end = _; meaning = _; prefix = global_prefix first.0 more.chain; rest = more.rest }

tag_back : {t name h w : List ℕ} (r : List ℕ) (q : ℕ) → IsUtf8 t → name ≡ codes "TAG" → IsHandle h → IsPrefix w → IsAt t q (32 ∷ (h ++ (32 ∷ (w ++ r))))
    → ParametersAt t name q (h ∷ w ∷ []) r
tag_back {t} {name} {h} {w} r q u e a b s =
    let space = is_at_ascii 32 u (omega arith) s in
    let handle = handle_back (32 ∷ (w ++ r)) (q + 1) u a space.1 in
    let p : ℕ = q + 1 + length h in
    let apart = is_at_ascii 32 u (omega arith) handle.rest in
    let prefix = prefix_back r (p + 1) u b apart.1 in
    let there = place_back (prefix.rest) (word_end w r (p + 1) u (prefix_line b) apart.1) in
    let first : slice_range t (q + 1) p ≡ h = slice_back h (32 ∷ (w ++ r)) space.1 in
    let second : slice_range t (p + 1) prefix.end ≡ w = ap (slice_range t (p + 1)) there ∙ slice_back w r apart.1 in
    let whole : Parameters t name q prefix.end (slice_range t (q + 1) p ∷ slice_range t (p + 1) prefix.end ∷ []) =
    tag_parameters e (space_in_line q space.0.char) handle.handle (space_in_line p apart.0.char) prefix.prefix in
    record {
      end = prefix.end;
      parameters = subst (λ v. Parameters t name q prefix.end (h ∷ v ∷ [])) second (subst (λ v. Parameters t name q prefix.end (v ∷ slice_range t (p + 1) prefix.end ∷ [])) first whole);
      rest = prefix.rest;
    }

words_back : {t name : List ℕ} {ws : List (List ℕ)} (r : List ℕ) (q : ℕ) → IsUtf8 t → AreWords name ws → Follows is_apart r → IsAt t q (words_then ws r) → ParametersAt t name q ws r
words_back r q u (version_words e a) f s = version_back r q u e a f s
words_back r q u (tag_words e a b) f s = tag_back r q u e a b s
words_back r q u (other_words e g a) f s = let c = chain_back r q u a f s in record { end = c.end; parameters = reserved_parameters e g c.chain; rest = c.rest }

-- Directives.

directive_made : {name : List ℕ} {ws : List (List ℕ)} → RunText is_ns_char name → AreWords name ws → FitDirective (name ∷ ws)
directive_made {name} {ws} a b = record { line = line; made = λ {t} q r u f s. at u f s } where
  line : IsLineText (joined_words (name ∷ ws))
  line =
      subst (λ w. IsLineText w) (sym (joined_then name ws []) ∙ append-nil (joined_words (name ∷ ws))) (line_append (run_line ns_nb a) (words_line b))

  at : {t : List ℕ} {q : ℕ} {r : List ℕ} → IsUtf8 t → Follows is_apart r → Rest t q (37 ∷ (joined_words (name ∷ ws) ++ r))
      → DirectiveAt t q (q + length (37 ∷ joined_words (name ∷ ws))) (name ∷ ws)
  at {t} {q} {r} u f s =
      let sign = is_at_ascii 37 u (omega arith) (rest_is_at s) in
      let word = word_back (words_then ws r) (q + 1) u a (words_follow ws f) (subst (λ z. IsAt t (q + 1) z) (joined_then name ws r) sign.1) in
      let m : ℕ = q + 1 + length name in
      let more = words_back r m u b f word.rest in
      let end = word_end (joined_words (name ∷ ws)) r (q + 1) u line sign.1 in
      let last : q + 1 + length (joined_words (name ∷ ws)) ≡ q + length (37 ∷ joined_words (name ∷ ws)) = omega arith in
      let there : more.end ≡ q + length (37 ∷ joined_words (name ∷ ws)) = place_back more.rest end ∙ last in
      let named : Parameters t (slice_range t (q + 1) m) m more.end ws = subst (λ v. Parameters t v m more.end ws) (sym word.is) more.parameters in
      record { middle = m; others = ws; name = word.run; parameters = subst (λ l. Parameters t (slice_range t (q + 1) m) m l ws) there named; are = ap (λ v. v ∷ ws) word.is }

fit_append : {ds es : List Directive} → FitDirectives ds → FitDirectives es → FitDirectives (ds ++ es)
fit_append fit_no_directives b = b
fit_append (fit_directive f fs) b = fit_directive f (fit_append fs b)

pub directives_fit : {t : List ℕ} {i j : ℕ} {x : Directives} → IsUtf8 t → DirectiveLines t i j x → FitDirectives x.directives
directives_fit u (last_directive e r p d) = fit_directive (directive_made (word_made u r) (words_made u p)) fit_no_directives
directives_fit u (more_directives a b) = fit_append (directives_fit u a) (directives_fit u b)
