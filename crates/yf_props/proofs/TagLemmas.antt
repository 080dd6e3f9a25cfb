-- Characters of tags and their runs. A tag with the longest handle is the longest tag.
use Rattle.std.proofs.Common.{◌≡◌, ◌≢◌, ℕ, ◌+◌, ◌<◌, ◌≤◌, Bool, true, false, ◌⊎◌, inl, inr, ⊎_elim, List, slice_range, refl, sym, ap, ◌∙◌, subst, arith, leb, true≢false}
use Rattle.std.proofs.Math.Bool.{and-false}
use Rattle.std.proofs.lemmas.Bool.{cases_lt, ne_eqb, lt-leb}
use Rattle.yf_chars.specs.Text.{code, no_char, CharAt}
use Rattle.yf_chars.specs.Class.{is_between, is_digit, is_hex_digit, is_word_char, is_uri_char, is_tag_char, is_flow_indicator}
use Rattle.yf_chars.specs.Chain.{Chain, Functional, Stuck, Chosen, Many}
use Rattle.yf_chars.specs.Chain.Chain.{done, step}
use Rattle.yf_chars.specs.Chain.One.{one}
use Rattle.yf_chars.proofs.TextLemmas.{next_ascii, next_later}
use Rattle.yf_chars.proofs.ChainLemmas.{chain_forward, one_functional, one_stuck, many_unique, stuck_unique}
use Rattle.yf_props.specs.Props.{TagValue}
use Rattle.yf_props.specs.Props.TagValue.{IsVerbatim, IsShort, IsNonSpecific}
use Rattle.yf_props.specs.Chars.{class_of}
use Rattle.yf_props.specs.declared.tag.Chars.{Chars}
use Rattle.yf_props.specs.declared.tag.Chars.TheVariants.{Uri, Suffix}
use Rattle.yf_props.specs.Names.{SpelledChar, WordChar, UriChar, TagChar, Run, Handle, VerbatimTag, ShorthandTag, TagProperty}
use Rattle.yf_props.specs.Names.SpelledChar.{as_itself, as_escape}
use Rattle.yf_props.specs.Names.Handle.{primary_handle, secondary_handle, named_handle}
use Rattle.yf_props.specs.Names.VerbatimTag.{in_brackets}
use Rattle.yf_props.specs.Names.ShorthandTag.{handle_suffix}
use Rattle.yf_props.specs.Names.TagProperty.{verbatim_tag, shorthand_tag, non_specific_tag}
use Rattle.yf_props.proofs.NameLemmas.{chosen_over, chosen_cases, run_unique, run_stuck}
use Rattle.yf_chars.specs.ClassEnds as Ends
use Rattle.yf_chars.proofs.CharFacts.{exclamation_no_tag, exclamation_no_word, angle_no_tag, end_no_tag, end_no_uri, angle_no_word}
use Rattle.yf_chars.proofs.EscapeLemmas.{chosen_only}

-- characters and their classes
pub percent_uri : is_uri_char 37 ≡ false
unfolding is_uri_char is_word_char is_digit is_between
percent_uri = refl

pub percent_tag : is_tag_char 37 ≡ false
unfolding is_tag_char is_uri_char is_word_char is_digit is_between
percent_tag = refl

pub percent_of : (class : Chars) → class_of class 37 ≡ false
percent_of Uri = percent_uri
percent_of Suffix = percent_tag

pub close_uri : is_uri_char 62 ≡ false
unfolding is_uri_char is_word_char is_digit is_between
close_uri = refl

pub none_of : (class : Chars) (c : ℕ) → c ≡ no_char → class_of class c ≡ false
none_of Uri c e = ap is_uri_char e ∙ end_no_uri
none_of Suffix c e = ap is_tag_char e ∙ end_no_tag

pub no_word_char : (c : ℕ) → c ≡ no_char → is_word_char c ≡ false
no_word_char c e = ap is_word_char e ∙ Ends.no_word_char

pub no_hex_digit : (c : ℕ) → c ≡ no_char → is_hex_digit c ≡ false
unfolding is_hex_digit is_digit is_between
no_hex_digit c e = ap is_hex_digit e

hex_above : (c : ℕ) → 128 ≤ c → is_hex_digit c ≡ false
unfolding is_hex_digit is_digit is_between
hex_above c l =
    rw (
      lt-leb c 57 (omega arith),
      lt-leb c 70 (omega arith),
      lt-leb c 102 (omega arith),
      and-false (leb 48 c),
      and-false (leb 65 c),
      and-false (leb 97 c),
    )

pub hex_below : (c : ℕ) → is_hex_digit c ≡ true → c < 128
hex_below c e = ⊎_elim (λ (l : c < 128). l) (λ (l : 128 ≤ c). absurd (true≢false (sym e ∙ hex_above c l))) (cases_lt c 128)

-- a hexadecimal digit is one byte long
pub past_hex : (t : List ℕ) {i c j : ℕ} → CharAt t i c j → is_hex_digit c ≡ true → j ≡ i + 1
past_hex t {i} {c} r e =
    let l : c < 128 = hex_below c e in
    let f : code t i ≡ c = r.char in
    sym r.end ∙ next_ascii t i (omega arith)

word_apart : (c x : ℕ) → is_word_char c ≡ true → is_word_char x ≡ false → c ≢ x
word_apart c x e f = λ q. true≢false (sym e ∙ ap is_word_char q ∙ f)

-- a word character is a character of a suffix
pub word_uri : (c : ℕ) → is_word_char c ≡ true → is_uri_char c ≡ true
unfolding is_uri_char
word_uri c e = rw e

pub word_flow : (c : ℕ) → is_word_char c ≡ true → is_flow_indicator c ≡ false
unfolding is_flow_indicator is_word_char is_digit is_between
word_flow c e =
    rw (
      ne_eqb c 44 (word_apart c 44 e refl),
      ne_eqb c 91 (word_apart c 91 e refl),
      ne_eqb c 93 (word_apart c 93 e refl),
      ne_eqb c 123 (word_apart c 123 e refl),
      ne_eqb c 125 (word_apart c 125 e refl),
    )

pub word_tag : (c : ℕ) → is_word_char c ≡ true → is_tag_char c ≡ true
unfolding is_tag_char
word_tag c e = rw (word_uri c e, ne_eqb c 33 (word_apart c 33 e exclamation_no_word), word_flow c e)

-- steps
module _ (t : List ℕ) (p : ℕ → Bool) (none : p 37 ≡ false) where
  not_both : (i : ℕ) → p (code t i) ≡ true → code t i ≡ 37 → ⊥
  not_both i e f = true≢false (sym e ∙ ap p f ∙ none)

  spelled_end : {i j k : ℕ} {x y : List ℕ} → SpelledChar t p i j x → SpelledChar t p i k y → j ≡ k
  spelled_end (as_itself e) (as_itself f) = refl
  spelled_end {i} (as_itself e) (as_escape f g h) = absurd (not_both i e f)
  spelled_end {i} (as_escape f g h) (as_itself e) = absurd (not_both i e f)
  spelled_end (as_escape e f g) (as_escape h k l) = refl

  spelled_meaning : {i j k : ℕ} {x y : List ℕ} → SpelledChar t p i j x → SpelledChar t p i k y → x ≡ y
  spelled_meaning (as_itself e) (as_itself f) = refl
  spelled_meaning {i} (as_itself e) (as_escape f g h) = absurd (not_both i e f)
  spelled_meaning {i} (as_escape f g h) (as_itself e) = absurd (not_both i e f)
  spelled_meaning (as_escape e f g) (as_escape h k l) = refl

  spelled_forward : {i j : ℕ} {x : List ℕ} → SpelledChar t p i j x → i < j
  spelled_forward {i} (as_itself e) = next_later t i
  spelled_forward (as_escape e f g) = omega arith

  pub spelled_functional : Functional (SpelledChar t p)
  spelled_functional = record {
    one_end = λ a b. spelled_end a b;
    one_meaning = λ a b. spelled_meaning a b;
    forward = λ a. spelled_forward a;
  }

  spelled_first : {i j : ℕ} {x : List ℕ} → SpelledChar t p i j x → (p (code t i) ≡ true) ⊎ (code t i ≡ 37)
  spelled_first (as_itself e) = inl e
  spelled_first (as_escape e f g) = inr e

  pub spelled_stuck : (i : ℕ) → p (code t i) ≡ false → code t i ≢ 37 → Stuck (SpelledChar t p i)
  spelled_stuck i e n = record {
    none = λ j x s. ⊎_elim (λ (f : p (code t i) ≡ true). true≢false (sym f ∙ e)) (λ (f : code t i ≡ 37). n f) (spelled_first s);
  }

  hex_parts : {i j : ℕ} {x : List ℕ} → SpelledChar t p i j x → code t i ≡ 37
      → (is_hex_digit (code t (i + 1)) ≡ true) × (is_hex_digit (code t (i + 2)) ≡ true)
  hex_parts {i} (as_itself e) f = absurd (not_both i e f)
  hex_parts (as_escape e f g) h = (f, g)

  pub no_first_digit : (i : ℕ) → code t i ≡ 37 → is_hex_digit (code t (i + 1)) ≡ false → Stuck (SpelledChar t p i)
  no_first_digit i e f = record { none = λ j x s. true≢false (sym (hex_parts s e).0 ∙ f) }

  pub no_second_digit : (i : ℕ) → code t i ≡ 37 → is_hex_digit (code t (i + 2)) ≡ false → Stuck (SpelledChar t p i)
  no_second_digit i e f = record { none = λ j x s. true≢false (sym (hex_parts s e).1 ∙ f) }

-- runs of the characters of a tag
module _ {t : List ℕ} where
  pub tag_functional : Functional (TagChar t)
  tag_functional = spelled_functional t is_tag_char percent_tag

  uri_functional : Functional (UriChar t)
  uri_functional = spelled_functional t is_uri_char percent_uri

  stuck_at : {i c : ℕ} → code t i ≡ c → is_tag_char c ≡ false → c ≢ 37 → Stuck (TagChar t i)
  stuck_at {i} e f n = spelled_stuck t is_tag_char percent_tag i (ap is_tag_char e ∙ f) (λ q. n (sym e ∙ q))

  word_step : {i j : ℕ} {x : List ℕ} → WordChar t i j x → TagChar t i j x
  word_step {i} (one e) = as_itself (word_tag (code t i) e)

  word_steps : {i j : ℕ} {x : List ℕ} → Chain (WordChar t) i j x → Chain (TagChar t) i j x
  word_steps done = done
  word_steps (step s c) = step (word_step s) (word_steps c)

  mark_stuck : {i : ℕ} → code t i ≡ 33 → Stuck (TagChar t i)
  mark_stuck b = stuck_at b exclamation_no_tag (λ q. absurd (omega arith))

  -- word characters from there, or another character
  first_word : {i j : ℕ} {x : List ℕ} → Chain (WordChar t) i j x → (i ≡ j) ⊎ (is_word_char (code t i) ≡ true)
  first_word done = inl refl
  first_word (step (one e) c) = inr e

-- tags at an offset at which the name after the ! ends at w
module _ (t : List ℕ) (i w : ℕ) (x : List ℕ) (m : Many t is_word_char (i + 1) w x) (e : is_word_char (code t w) ≡ false) where
  handle_cases : {h : ℕ} → Handle t i h → (h ≡ i + 1) ⊎ ((h ≡ w + 1) × (code t w ≡ 33))
  handle_cases (primary_handle a) = inl refl
  handle_cases (secondary_handle a b) =
      let same : i + 1 ≡ w = (many_unique t is_word_char done (ap is_word_char b ∙ exclamation_no_word) m e).0 in
      inr (omega arith, ap (code t) (sym same) ∙ b)
  handle_cases (named_handle {j = j} a r b) =
      let same : j ≡ w = (stuck_unique (one_functional t is_word_char) r.chain r.all m (one_stuck t is_word_char w e)).0 in
      inr (ap (λ k. k + 1) same, ap (code t) (sym same) ∙ b)

  pub long_handle : code t i ≡ 33 → code t w ≡ 33 → Handle t i (w + 1)
  long_handle a b = ⊎_elim
      (λ (l : i + 1 < w). named_handle a (record { characters = x; chain = m; some = l; all = one_stuck t is_word_char w e }) b)
      (λ (l : w ≤ i + 1).
      let f = chain_forward (one_functional t is_word_char) m in
      let same : w ≡ i + 1 = omega arith in
      subst (λ k. Handle t i k) (omega arith) (secondary_handle a (ap (code t) (sym same) ∙ b)))
      (cases_lt (i + 1) w)

  short_end : {k : ℕ} → code t w ≡ 33 → Run (TagChar t) (i + 1) k → k ≡ w
  short_end b r = (stuck_unique tag_functional r.chain r.all (word_steps m) (mark_stuck b)).0

  other_handle : {j k : ℕ} {y : TagValue} → code t w ≡ 33 → Run (TagChar t) (w + 1) j → ShorthandTag t i k y
      → (k < j) ⊎ ((k ≡ j) × (y ≡ IsShort (slice_range t i (w + 1)) (slice_range t (w + 1) j)))
  other_handle {j} b r (handle_suffix {h = h} {j = k} a s) = ⊎_elim
      (λ (p : h ≡ i + 1).
      let s' : Run (TagChar t) (i + 1) k = subst (λ v. Run (TagChar t) v k) p s in
      let f = short_end b s' in
      let l = r.some in
      inl (omega arith))
      (λ (p : (h ≡ w + 1) × (code t w ≡ 33)).
      let s' : Run (TagChar t) (w + 1) k = subst (λ v. Run (TagChar t) v k) p.0 s in
      let f : k ≡ j = run_unique tag_functional s' r in
      inr (f, ap (λ v. IsShort (slice_range t i v) (slice_range t v k)) p.0 ∙ ap (λ v. IsShort (slice_range t i (w + 1)) (slice_range t (w + 1) v)) f))
      (handle_cases a)

  pub no_long_mark : code t w ≢ 33 → (h j : ℕ) → Handle t i h → i + 1 < h → Run (TagChar t) h j → ⊥
  no_long_mark n h j a l r = ⊎_elim (λ (p : h ≡ i + 1). absurd (omega arith)) (λ (p : (h ≡ w + 1) × (code t w ≡ 33)). n p.1) (handle_cases a)

  pub no_long_suffix : Stuck (TagChar t (w + 1)) → (h j : ℕ) → Handle t i h → i + 1 < h → Run (TagChar t) h j → ⊥
  no_long_suffix s h j a l r = ⊎_elim
      (λ (p : h ≡ i + 1). absurd (omega arith))
      (λ (p : (h ≡ w + 1) × (code t w ≡ 33)). run_stuck s (subst (λ v. Run (TagChar t) v j) p.0 r))
      (handle_cases a)

  pub long_chosen : {j : ℕ} → code t i ≡ 33 → code t w ≡ 33 → Run (TagChar t) (w + 1) j
      → Chosen (ShorthandTag t i) j (IsShort (slice_range t i (w + 1)) (slice_range t (w + 1) j))
  long_chosen a b r = chosen_over (handle_suffix (long_handle a b) r) (λ k y d. other_handle b r d)

-- tags at an offset at which no longer handle has a suffix
module _ (t : List ℕ) (i : ℕ) (mark : code t i ≡ 33) (none : (h j : ℕ) → Handle t i h → i + 1 < h → Run (TagChar t) h j → ⊥) where
  handle_later : {h : ℕ} → Handle t i h → i + 1 ≤ h
  handle_later (primary_handle a) = omega arith
  handle_later (secondary_handle a b) = omega arith
  handle_later (named_handle a r b) = let l = r.some in omega arith

  lone_handle : {h j : ℕ} → Handle t i h → Run (TagChar t) h j → h ≡ i + 1
  lone_handle {h} {j} a r = ⊎_elim (λ (l : i + 1 < h). absurd (none h j a l r)) (λ (l : h ≤ i + 1). let f = handle_later a in omega arith) (cases_lt (i + 1) h)

  other_suffix : {j k : ℕ} {y : TagValue} → Run (TagChar t) (i + 1) j → ShorthandTag t i k y
      → (k ≡ j) × (y ≡ IsShort (slice_range t i (i + 1)) (slice_range t (i + 1) j))
  other_suffix {j} r (handle_suffix {h = h} {j = k} a s) =
      let p : h ≡ i + 1 = lone_handle a s in
      let s' : Run (TagChar t) (i + 1) k = subst (λ v. Run (TagChar t) v k) p s in
      let f : k ≡ j = run_unique tag_functional s' r in
      (f, ap (λ v. IsShort (slice_range t i v) (slice_range t v k)) p ∙ ap (λ v. IsShort (slice_range t i (i + 1)) (slice_range t (i + 1) v)) f)

  pub lone_chosen : {j : ℕ} → Run (TagChar t) (i + 1) j
      → Chosen (ShorthandTag t i) j (IsShort (slice_range t i (i + 1)) (slice_range t (i + 1) j))
  lone_chosen r = chosen_only (handle_suffix (primary_handle mark) r) (λ k y d. other_suffix r d)

  no_suffix : {k : ℕ} {y : TagValue} → Stuck (TagChar t (i + 1)) → ShorthandTag t i k y → ⊥
  no_suffix s (handle_suffix {h = h} {j = j} a r) = run_stuck s (subst (λ v. Run (TagChar t) v j) (lone_handle a r) r)

  pub no_shorthand : Stuck (TagChar t (i + 1)) → Stuck (ShorthandTag t i)
  no_shorthand s = record { none = λ k y d. no_suffix s d }

-- verbatim tags
module _ {t : List ℕ} {i : ℕ} where
  other_text : {j k : ℕ} {y : List ℕ} → Run (UriChar t) (i + 2) j → VerbatimTag t i k y → (k ≡ j + 1) × (y ≡ slice_range t (i + 2) j)
  other_text {j} r (in_brackets {j = k} a b s c) =
      let f : k ≡ j = run_unique uri_functional s r in
      (ap (λ v. v + 1) f, ap (slice_range t (i + 2)) f)

  pub verbatim_chosen : {j : ℕ} → code t i ≡ 33 → code t (i + 1) ≡ 60 → Run (UriChar t) (i + 2) j → code t j ≡ 62
      → Chosen (VerbatimTag t i) (j + 1) (slice_range t (i + 2) j)
  verbatim_chosen a b r c = chosen_only (in_brackets a b r c) (λ k y d. other_text r d)

  verbatim_mark : {k : ℕ} {y : List ℕ} → VerbatimTag t i k y → code t i ≡ 33
  verbatim_mark (in_brackets a b r c) = a

  verbatim_bracket : {k : ℕ} {y : List ℕ} → VerbatimTag t i k y → code t (i + 1) ≡ 60
  verbatim_bracket (in_brackets a b r c) = b

  verbatim_later : {k : ℕ} {y : List ℕ} → VerbatimTag t i k y → i + 1 < k
  verbatim_later (in_brackets a b r c) = let l = r.some in omega arith

  pub no_mark_verbatim : code t i ≢ 33 → Stuck (VerbatimTag t i)
  no_mark_verbatim n = record { none = λ k y d. n (verbatim_mark d) }

  pub no_bracket : code t (i + 1) ≢ 60 → Stuck (VerbatimTag t i)
  no_bracket n = record { none = λ k y d. n (verbatim_bracket d) }

  no_uri : {k : ℕ} {y : List ℕ} → Stuck (UriChar t (i + 2)) → VerbatimTag t i k y → ⊥
  no_uri s (in_brackets a b r c) = run_stuck s r

  pub empty_verbatim : Stuck (UriChar t (i + 2)) → Stuck (VerbatimTag t i)
  empty_verbatim s = record { none = λ k y d. no_uri s d }

  not_closed : {j k : ℕ} {y : List ℕ} → Run (UriChar t) (i + 2) j → code t j ≢ 62 → VerbatimTag t i k y → ⊥
  not_closed r n (in_brackets a b s c) = n (ap (code t) (run_unique uri_functional r s) ∙ c)

  pub open_verbatim : {j : ℕ} → Run (UriChar t) (i + 2) j → code t j ≢ 62 → Stuck (VerbatimTag t i)
  open_verbatim r n = record { none = λ k y d. not_closed r n d }

  -- tags of each kind
  shorthand_mark : {k : ℕ} {y : TagValue} → ShorthandTag t i k y → code t i ≡ 33
  shorthand_mark (handle_suffix (primary_handle a) r) = a
  shorthand_mark (handle_suffix (secondary_handle a b) r) = a
  shorthand_mark (handle_suffix (named_handle a s b) r) = a

  shorthand_later : {k : ℕ} {y : TagValue} → ShorthandTag t i k y → i + 1 < k
  shorthand_later (handle_suffix (primary_handle a) r) = let l = r.some in omega arith
  shorthand_later (handle_suffix (secondary_handle a b) r) = let l = r.some in omega arith
  shorthand_later (handle_suffix (named_handle a s b) r) = let l = r.some in let m = s.some in omega arith

  -- no shorthand begins with !<
  bracket_shorthand : {k : ℕ} {y : TagValue} → code t (i + 1) ≡ 60 → ShorthandTag t i k y → ⊥
  bracket_shorthand e (handle_suffix (primary_handle a) r) = run_stuck (stuck_at e angle_no_tag (λ q. absurd (omega arith))) r
  bracket_shorthand e (handle_suffix (secondary_handle a b) r) = absurd (omega arith)
  bracket_shorthand e (handle_suffix (named_handle a s b) r) = run_stuck (one_stuck t is_word_char (i + 1) (ap is_word_char e ∙ angle_no_word)) s

  pub tag_mark : {k : ℕ} {y : TagValue} → TagProperty t i k y → code t i ≡ 33
  tag_mark (verbatim_tag d) = verbatim_mark d
  tag_mark (shorthand_tag d) = shorthand_mark d
  tag_mark (non_specific_tag a s) = a

  pub tag_later : {k : ℕ} {y : TagValue} → TagProperty t i k y → i < k
  tag_later (verbatim_tag d) = let l = verbatim_later d in omega arith
  tag_later (shorthand_tag d) = let l = shorthand_later d in omega arith
  tag_later (non_specific_tag a s) = omega arith

  pub no_mark : code t i ≢ 33 → Stuck (TagProperty t i)
  no_mark n = record { none = λ k y d. n (tag_mark d) }

  past_verbatim : {j k : ℕ} {x : List ℕ} {y : TagValue} → Chosen (VerbatimTag t i) j x → TagProperty t i k y
      → (k < j) ⊎ ((k ≡ j) × (y ≡ IsVerbatim x))
  past_verbatim {j} {x = x} c (verbatim_tag {j = k} {text = y} d) =
      ⊎_elim (λ (l : k < j). inl l) (λ (s : (k ≡ j) × (y ≡ x)). inr (s.0, ap IsVerbatim s.1)) (chosen_cases c d)
  past_verbatim c (shorthand_tag d) = absurd (bracket_shorthand (verbatim_bracket c.derived) d)
  past_verbatim c (non_specific_tag a s) = let l = verbatim_later c.derived in inl (omega arith)

  pub verbatim_tag_chosen : {j : ℕ} {x : List ℕ} → Chosen (VerbatimTag t i) j x → Chosen (TagProperty t i) j (IsVerbatim x)
  verbatim_tag_chosen c = chosen_over (verbatim_tag c.derived) (λ k y d. past_verbatim c d)

  past_shorthand : {j k : ℕ} {x y : TagValue} → Stuck (VerbatimTag t i) → Chosen (ShorthandTag t i) j x → TagProperty t i k y
      → (k < j) ⊎ ((k ≡ j) × (y ≡ x))
  past_shorthand n c (verbatim_tag {j = k} {text = y} d) = absurd (n.none k y d)
  past_shorthand n c (shorthand_tag d) = chosen_cases c d
  past_shorthand n c (non_specific_tag a s) = let l = shorthand_later c.derived in inl (omega arith)

  pub shorthand_tag_chosen : {j : ℕ} {x : TagValue} → Stuck (VerbatimTag t i) → Chosen (ShorthandTag t i) j x → Chosen (TagProperty t i) j x
  shorthand_tag_chosen n c = chosen_over (shorthand_tag c.derived) (λ k y d. past_shorthand n c d)

  only_mark : {k : ℕ} {y : TagValue} → Stuck (VerbatimTag t i) → Stuck (ShorthandTag t i) → TagProperty t i k y → (k ≡ i + 1) × (y ≡ IsNonSpecific)
  only_mark n m (verbatim_tag {j = k} {text = y} d) = absurd (n.none k y d)
  only_mark n m (shorthand_tag {j = k} {tag = y} d) = absurd (m.none k y d)
  only_mark n m (non_specific_tag a s) = (refl, refl)

  pub non_specific_chosen : code t i ≡ 33 → Stuck (VerbatimTag t i) → Stuck (ShorthandTag t i) → Stuck (TagChar t (i + 1))
      → Chosen (TagProperty t i) (i + 1) IsNonSpecific
  non_specific_chosen a n m s = chosen_only (non_specific_tag a s) (λ k y d. only_mark n m d)
