-- The characters of a key, counted one by one: the count from an offset on is one more than that after the next
-- character.
use Rattle.std.proofs.Common.{◌≡◌, ◌≢◌, ℕ, ◌+◌, ◌-◌, ◌<◌, ◌≤◌, ⊎_elim, true, false, List, ◌∷◌, ◌++◌, length, take, drop, refl, sym, ap, ◌∙◌, subst, arith, true≢false}
use Rattle.std.proofs.Math.Seq.{take-append-add}
use Rattle.std.proofs.lemmas.Bool.{cases_eq, cases_lt}
use Rattle.std.proofs.lemmas.Str as S
use Rattle.std.proofs.lemmas.Str.{length-encode}
use Rattle.std.specs.Str.{IsUtf8, IsCharBoundary, chars}
use lib.Utf8.{encode}
use Rattle.yf_chars.specs.Text.{code, next, no_char, CharAt}
use Rattle.yf_chars.specs.Class.{is_break_char}
use Rattle.yf_chars.proofs.BreakChars.{no_break}
use Rattle.yf_chars.proofs.TextLemmas.{begins_from_boundary, drop_there, reads_char}
use Rattle.yf_lines.proofs.ClearLemmas.{no_boundary_inside, code_inside}
use Rattle.yf_grammar.specs.Productions.Grammar.{characters_between, KEY_LIMIT}
use Rattle.yf_grammar.specs.FlowReader.Parser.{OnOneLine}
use Rattle.yf_flow.specs.Leaves.{KeyLine}

-- a boundary after the start of a character is at or after its end
ends_before : {t : List ℕ} {i c j e : ℕ} → IsUtf8 t → IsCharBoundary t e → i < e → CharAt t i c j → j ≤ e
ends_before {j = j} {e = e} u d l r =
    ⊎_elim (λ (q : e < j). absurd (no_boundary_inside u r l q d)) (λ (q : j ≤ e). q) (cases_lt e j)

pub one_less : {t : List ℕ} {i c j e : ℕ} → IsUtf8 t → IsCharBoundary t i → IsCharBoundary t e → i < e → CharAt t i c j
    → characters_between t i e ≡ characters_between t j e + 1
unfolding characters_between next
one_less {t} {i} {c} {j} {e} u b d l r =
    let w : i < length t = omega (arith, r.later, r.within) in
    let cut = drop_there t i u (begins_from_boundary t i b w) in
    let m : j ≤ e = ends_before u d l r in
    let long : e - i ≡ length (encode (code t i)) + (e - j) = omega (arith, r.end, length-encode (code t i)) in
    let rest : drop j t ≡ cut.0 = ap (λ k. drop k t) (sym r.end) ∙ S.drop_past_char t cut.0 i (code t i) cut.1 in
    let whole : take (e - i) (drop i t) ≡ encode (code t i) ++ take (e - j) (drop j t) =
    ap (λ x. take (e - i) x) cut.1 ∙ ap (λ k. take k (encode (code t i) ++ cut.0)) long ∙ take-append-add (encode (code t i)) cut.0 (e - j)
    ∙ ap (λ x. encode (code t i) ++ take (e - j) x) (sym rest) in
    let part : IsUtf8 (take (e - i) (drop i t)) = S.IsUtf8-between t i e u (omega arith) b d in
    let all = S.chars_past_char (take (e - i) (drop i t)) (take (e - j) (drop j t)) (code t i) part whole in
    let count : length (chars (take (e - i) (drop i t))) ≡ length (code t i ∷ chars (take (e - j) (drop j t))) = ap length all in
    omega (arith, count)

-- no characters are between an offset and one that is at most as great
none_between : (t : List ℕ) (i e : ℕ) → e ≤ i → characters_between t i e ≡ 0
unfolding characters_between
none_between t i e n =
    let none : e - i ≡ 0 = omega arith in
    ap (λ k. length (chars (take k (drop i t)))) none ∙ ap length S.chars-nil

-- a key up to an offset in it, and the number of characters that may follow
pub record KeySoFar (t : List ℕ) (start end at room : ℕ) : Type 0 where
  pub boundary : IsCharBoundary t at
  pub order : start ≤ at
  pub line : OnOneLine t start at
  pub count : IsCharBoundary t end → characters_between t start end + room ≡ KEY_LIMIT + characters_between t at end

pub line_feed_breaks : is_break_char 10 ≡ true
unfolding is_break_char
line_feed_breaks = refl

pub return_breaks : is_break_char 13 ≡ true
unfolding is_break_char
return_breaks = refl

module _ {t : List ℕ} {start end : ℕ} where
  pub key_begun : IsCharBoundary t start → KeySoFar t start end start KEY_LIMIT
  key_begun b = record {
    boundary = b;
    order = omega arith;
    line = record { each = λ h l m. absurd (omega arith) };
    count = λ d. omega arith;
  }

  pub key_more : {at room c j : ℕ} → IsUtf8 t → KeySoFar t start end at room → CharAt t at c j → c ≢ 10 → c ≢ 13 → at < end → room ≢ 0
      → KeySoFar t start end j (room - 1)
  key_more {at} {room} {c} {j} u k r n m l z = record {
    boundary = r.boundary;
    order = omega (arith, k.order, r.later);
    line = record {
      each = λ h f g. ⊎_elim
          (λ (e : h < at). k.line.each h f e)
          (λ (e : at ≤ h). ⊎_elim
          (λ (s : at ≡ h). subst (λ i. is_break_char (code t i) ≡ false) s (ap is_break_char r.char ∙ no_break c n m))
          (λ (s : at ≢ h). ap is_break_char (code_inside u r (omega arith) g) ∙ no_break no_char (omega arith) (omega arith))
          (cases_eq at h))
          (cases_lt h at);
    };
    count = λ d. omega (arith, k.count d, one_less u k.boundary d l r);
  }

  pub key_ended : {at room : ℕ} → KeySoFar t start end at room → end ≤ at → IsCharBoundary t end → KeyLine t start end
  key_ended {at} k n d = record {
    line = record { each = λ h f g. k.line.each h f (omega arith) };
    short = omega (arith, k.count d, none_between t at end n);
  }

  pub key_long : {at room : ℕ} → IsUtf8 t → KeySoFar t start end at room → room ≡ 0 → at < end → IsCharBoundary t end → KeyLine t start end → ⊥
  key_long {at} u k z l d line =
      let w : at < length t = omega (arith, d.0) in
      let cut = drop_there t at u (begins_from_boundary t at k.boundary w) in
      let r = reads_char t at (code t at) cut.0 u k.boundary w cut.1 in
      omega (arith, k.count d, one_less u k.boundary d l r, line.short)

  pub key_broken : {at room c : ℕ} → KeySoFar t start end at room → at < end → code t at ≡ c → is_break_char c ≡ true → KeyLine t start end → ⊥
  key_broken {at} k l e b line = true≢false (sym b ∙ ap is_break_char (sym e) ∙ line.line.each at k.order l)
