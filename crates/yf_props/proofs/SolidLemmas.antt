-- Each character of a tag is a visible ASCII character.
use Rattle.std.proofs.Common.{◌≡◌, ℕ, ◌+◌, ◌<◌, ◌≤◌, Bool, true, false, ⊎_elim, List, refl, sym, ◌∙◌, subst, arith, leb, eqb, not, ◌&&◌, true≢false}
use Rattle.std.proofs.lemmas.Bool.{cases_lt, ne_eqb, lt-leb, and_parts}
use Rattle.std.proofs.Math.Bool.{and-false}
use Rattle.yf_chars.specs.Text.{code, next}
use Rattle.yf_chars.specs.Class.{is_between, is_digit, is_hex_digit, is_word_char, is_uri_char, is_tag_char, is_flow_indicator}
use Rattle.yf_chars.specs.Chain.{Chain}
use Rattle.yf_chars.specs.Chain.Chain.{done, step}
use Rattle.yf_chars.specs.Chain.One.{one}
use Rattle.yf_chars.proofs.TextLemmas.{next_ascii}
use Rattle.yf_props.specs.Props.{TagValue}
use Rattle.yf_props.specs.Names.{SpelledChar, WordChar, Handle, VerbatimTag, ShorthandTag, TagProperty}
use Rattle.yf_props.specs.Names.SpelledChar.{as_itself, as_escape}
use Rattle.yf_props.specs.Names.Handle.{primary_handle, secondary_handle, named_handle}
use Rattle.yf_props.specs.Names.VerbatimTag.{in_brackets}
use Rattle.yf_props.specs.Names.ShorthandTag.{handle_suffix}
use Rattle.yf_props.specs.Names.TagProperty.{verbatim_tag, shorthand_tag, non_specific_tag}
use Rattle.yf_props.proofs.TagLemmas.{word_uri}
use Rattle.yf_props.proofs.SeparationEnds.{Solid}

-- no character below the space or above the tilde is in the classes
low_uri : (c : ℕ) → c < 33 → is_uri_char c ≡ false
unfolding is_uri_char is_word_char is_digit is_between
low_uri c l =
    rw (
      lt-leb 48 c (omega arith),
      lt-leb 65 c (omega arith),
      lt-leb 97 c (omega arith),
      ne_eqb c 45 (λ e. omega arith),
      ne_eqb c 35 (λ e. omega arith),
      ne_eqb c 59 (λ e. omega arith),
      ne_eqb c 47 (λ e. omega arith),
      ne_eqb c 63 (λ e. omega arith),
      ne_eqb c 58 (λ e. omega arith),
      ne_eqb c 64 (λ e. omega arith),
      ne_eqb c 38 (λ e. omega arith),
      ne_eqb c 61 (λ e. omega arith),
      ne_eqb c 43 (λ e. omega arith),
      ne_eqb c 36 (λ e. omega arith),
      ne_eqb c 44 (λ e. omega arith),
      ne_eqb c 95 (λ e. omega arith),
      ne_eqb c 46 (λ e. omega arith),
      ne_eqb c 33 (λ e. omega arith),
      ne_eqb c 126 (λ e. omega arith),
      ne_eqb c 42 (λ e. omega arith),
      ne_eqb c 39 (λ e. omega arith),
      ne_eqb c 40 (λ e. omega arith),
      ne_eqb c 41 (λ e. omega arith),
      ne_eqb c 91 (λ e. omega arith),
      ne_eqb c 93 (λ e. omega arith),
    )

high_uri : (c : ℕ) → 127 ≤ c → is_uri_char c ≡ false
unfolding is_uri_char is_word_char is_digit is_between
high_uri c l =
    rw (
      lt-leb c 57 (omega arith),
      lt-leb c 90 (omega arith),
      lt-leb c 122 (omega arith),
      and-false (leb 48 c),
      and-false (leb 65 c),
      and-false (leb 97 c),
      ne_eqb c 45 (λ e. omega arith),
      ne_eqb c 35 (λ e. omega arith),
      ne_eqb c 59 (λ e. omega arith),
      ne_eqb c 47 (λ e. omega arith),
      ne_eqb c 63 (λ e. omega arith),
      ne_eqb c 58 (λ e. omega arith),
      ne_eqb c 64 (λ e. omega arith),
      ne_eqb c 38 (λ e. omega arith),
      ne_eqb c 61 (λ e. omega arith),
      ne_eqb c 43 (λ e. omega arith),
      ne_eqb c 36 (λ e. omega arith),
      ne_eqb c 44 (λ e. omega arith),
      ne_eqb c 95 (λ e. omega arith),
      ne_eqb c 46 (λ e. omega arith),
      ne_eqb c 33 (λ e. omega arith),
      ne_eqb c 126 (λ e. omega arith),
      ne_eqb c 42 (λ e. omega arith),
      ne_eqb c 39 (λ e. omega arith),
      ne_eqb c 40 (λ e. omega arith),
      ne_eqb c 41 (λ e. omega arith),
      ne_eqb c 91 (λ e. omega arith),
      ne_eqb c 93 (λ e. omega arith),
    )

pub uri_solid : (c : ℕ) → is_uri_char c ≡ true → Solid c
uri_solid c e = record {
  low = ⊎_elim (λ (l : c < 33). absurd (true≢false (sym e ∙ low_uri c l))) (λ (l : 33 ≤ c). l) (cases_lt c 33);
  high = ⊎_elim (λ (l : c < 127). l) (λ (l : 127 ≤ c). absurd (true≢false (sym e ∙ high_uri c l))) (cases_lt c 127);
}

pub word_solid : (c : ℕ) → is_word_char c ≡ true → Solid c
word_solid c e = uri_solid c (word_uri c e)

tag_uri : (c : ℕ) → is_tag_char c ≡ true → is_uri_char c ≡ true
unfolding is_tag_char
tag_uri c e = (and_parts (is_uri_char c) (not (eqb c 33) && not (is_flow_indicator c)) e).0

pub tag_solid : (c : ℕ) → is_tag_char c ≡ true → Solid c
tag_solid c e = uri_solid c (tag_uri c e)

low_hex : (c : ℕ) → c < 33 → is_hex_digit c ≡ false
unfolding is_hex_digit is_digit is_between
low_hex c l = rw (lt-leb 48 c (omega arith), lt-leb 65 c (omega arith), lt-leb 97 c (omega arith))

high_hex : (c : ℕ) → 127 ≤ c → is_hex_digit c ≡ false
unfolding is_hex_digit is_digit is_between
high_hex c l =
    rw (
      lt-leb c 57 (omega arith),
      lt-leb c 70 (omega arith),
      lt-leb c 102 (omega arith),
      and-false (leb 48 c),
      and-false (leb 65 c),
      and-false (leb 97 c),
    )

pub hex_solid : (c : ℕ) → is_hex_digit c ≡ true → Solid c
hex_solid c e = record {
  low = ⊎_elim (λ (l : c < 33). absurd (true≢false (sym e ∙ low_hex c l))) (λ (l : 33 ≤ c). l) (cases_lt c 33);
  high = ⊎_elim (λ (l : c < 127). l) (λ (l : 127 ≤ c). absurd (true≢false (sym e ∙ high_hex c l))) (cases_lt c 127);
}

solid_is : {c d : ℕ} → c ≡ d → 33 ≤ d → d < 127 → Solid c
solid_is e l h = record { low = omega arith; high = omega arith }

-- each character between two offsets
pub record AllSolid (t : List ℕ) (i j : ℕ) : Type 0 where
  pub each : (m : ℕ) → i ≤ m → m < j → Solid (code t m)

module _ {t : List ℕ} where
  solid_step : (i k : ℕ) → k ≡ i + 1 → Solid (code t i) → AllSolid t i k
  solid_step i k q s = record { each = λ m l h. let e : i ≡ m = omega arith in subst (λ v. Solid (code t v)) e s }

  solid_one : {i : ℕ} → Solid (code t i) → AllSolid t i (i + 1)
  solid_one {i} s = solid_step i (i + 1) refl s

  mark_one : {i c : ℕ} → code t i ≡ c → 33 ≤ c → c < 127 → AllSolid t i (i + 1)
  mark_one e l h = solid_one (solid_is e l h)

  solid_then : {i h j : ℕ} → AllSolid t i h → AllSolid t h j → AllSolid t i j
  solid_then {i} {h} a b = record {
    each = λ m l k. ⊎_elim (λ (f : m < h). a.each m l f) (λ (f : h ≤ m). b.each m f k) (cases_lt m h);
  }

  solid_none : {i : ℕ} → AllSolid t i i
  solid_none = record { each = λ m l h. absurd (omega arith) }

  solid_next : {i : ℕ} → Solid (code t i) → AllSolid t i (next t i)
  solid_next {i} s =
      let l = s.high in
      subst (λ v. AllSolid t i v) (sym (next_ascii t i (omega arith))) (solid_one s)

  spelled_solid : {p : ℕ → Bool} → ((c : ℕ) → p c ≡ true → Solid c) → {i j : ℕ} {x : List ℕ} → SpelledChar t p i j x → AllSolid t i j
  spelled_solid f {i} (as_itself e) = solid_next (f (code t i) e)
  spelled_solid f {i} (as_escape a b c) =
      solid_then (mark_one a (omega arith) (omega arith))
      (solid_then (solid_step (i + 1) (i + 2) (omega arith) (hex_solid (code t (i + 1)) b)) (solid_step (i + 2) (i + 3) (omega arith) (hex_solid (code t (i + 2)) c)))

  chain_solid : {p : ℕ → Bool} → ((c : ℕ) → p c ≡ true → Solid c) → {i j : ℕ} {x : List ℕ} → Chain (SpelledChar t p) i j x → AllSolid t i j
  chain_solid f done = solid_none
  chain_solid f (step s c) = solid_then (spelled_solid f s) (chain_solid f c)

  word_one : {i j : ℕ} {x : List ℕ} → WordChar t i j x → AllSolid t i j
  word_one {i} (one e) = solid_next (word_solid (code t i) e)

  words_solid : {i j : ℕ} {x : List ℕ} → Chain (WordChar t) i j x → AllSolid t i j
  words_solid done = solid_none
  words_solid (step s c) = solid_then (word_one s) (words_solid c)

  handle_solid : {i h : ℕ} → Handle t i h → AllSolid t i h
  handle_solid (primary_handle a) = mark_one a (omega arith) (omega arith)
  handle_solid (secondary_handle {i = i} a b) = solid_then (mark_one a (omega arith) (omega arith)) (solid_step (i + 1) (i + 2) (omega arith) (solid_is b (omega arith) (omega arith)))
  handle_solid (named_handle a r b) = solid_then (mark_one a (omega arith) (omega arith)) (solid_then (words_solid r.chain) (mark_one b (omega arith) (omega arith)))

  verbatim_solid : {i j : ℕ} {x : List ℕ} → VerbatimTag t i j x → AllSolid t i j
  verbatim_solid (in_brackets {i = i} a b r c) =
      solid_then (mark_one a (omega arith) (omega arith))
      (solid_then (solid_step (i + 1) (i + 2) (omega arith) (solid_is b (omega arith) (omega arith)))
      (solid_then (chain_solid uri_solid r.chain) (mark_one c (omega arith) (omega arith))))

  shorthand_solid : {i j : ℕ} {x : TagValue} → ShorthandTag t i j x → AllSolid t i j
  shorthand_solid (handle_suffix a r) = solid_then (handle_solid a) (chain_solid tag_solid r.chain)

  pub tag_all_solid : {i j : ℕ} {x : TagValue} → TagProperty t i j x → AllSolid t i j
  tag_all_solid (verbatim_tag d) = verbatim_solid d
  tag_all_solid (shorthand_tag d) = shorthand_solid d
  tag_all_solid (non_specific_tag a s) = mark_one a (omega arith) (omega arith)
