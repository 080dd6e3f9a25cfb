-- Characters that need no escape are written in runs.
use Rattle.std.proofs.Common.{◌≡◌, ℕ, ◌+◌, ◌-◌, ◌<◌, ◌≤◌, true, false, List, [], ◌∷◌, ◌++◌, refl, sym, ap, ◌∙◌, subst, arith, append_assoc, append-nil, get_or, length, take, drop, chars, flat_map, encode_utf8, encode_utf8_all}
use Rattle.std.specs.Prelude.{is_some}
use Rattle.std.proofs.lemmas.Bool.Decides.{nat_tests}
use Rattle.std.proofs.lemmas.Grind.{flat_map-append}
use Rattle.std.proofs.lemmas.List.{take-append-drop, length-take-le}
use Rattle.std.proofs.lemmas.Str.{encodes-append, chars_past_char, chars-nil, IsUtf8-drop}
use Rattle.std.proofs.Math.Seq.{drop-append_seam, drop-length}
use Rattle.std.specs.Str.{IsUtf8, IsCharBoundary}
use Rattle.yf_chars.specs.Class.{is_between}
use Rattle.yf_chars.specs.Common.{is_common}
use Rattle.yf_chars.specs.Escape.{is_by_two, is_by_four, short_name, spelled}
use Rattle.yf_chars.specs.Text.{code, CharAt}
use Rattle.yf_chars.proofs.CommonLemmas.{common_below, common_spelled}
use Rattle.yf_chars.proofs.EscapeLemmas.{spelled_none, spelled_self}
use Rattle.yf_chars.proofs.TextLemmas.{reads_ascii}
use Rattle.yf_chars.proofs.Tests.{none_there}
use Rattle.yf_lines.proofs.ClearLemmas.{Spelled, spelled_nothing, spelled_join, spelled_char, spelled_slice}
use Rattle.yf_quoted.specs.Own.{OwnAt, OwnRun}

wide_no_letter : (c : ℕ) → 160 < c → is_some (short_name c) ≡ false
unfolding short_name
wide_no_letter c l = grind (arith, nat_tests)

wide_not_by_two : (c : ℕ) → 160 < c → is_by_two c ≡ false
unfolding is_between is_by_two
wide_not_by_two c l = grind (arith, nat_tests)

pub wide_spelled : (c : ℕ) → 160 < c → is_by_four c ≡ false → spelled c ≡ c ∷ []
wide_spelled c l e = spelled_none c (none_there (short_name c) (wide_no_letter c l)) ∙ spelled_self c (wide_not_by_two c l) e

-- bytes of common characters
pub common_at : (t : List ℕ) (i : ℕ) → IsUtf8 t → i < length t → is_common (get_or t i 0) ≡ true → OwnAt t i (i + 1)
common_at t i u l e =
    let r = reads_ascii t i u l (common_below (get_or t i 0) e) in
    let c = code t i in
    let o : is_common c ≡ true = ap is_common r.char ∙ e in
    record {
      reads = subst (λ c. CharAt t i c (i + 1)) (sym r.char) r;
      self = common_spelled c o;
    }

pub wide_at : {t : List ℕ} {i c j : ℕ} → CharAt t i c j → spelled c ≡ c ∷ [] → OwnAt t i j
wide_at {t} {i} {j = j} r e = record {
  reads = subst (λ v. CharAt t i v j) (sym r.char) r;
  self = subst (λ v. spelled v ≡ v ∷ []) (sym r.char) e;
}

-- the bytes after a character
rest_after : {t : List ℕ} {i c j : ℕ} → CharAt t i c j → drop i t ≡ encode_utf8 c ++ drop j t
rest_after {t} {i} {c} {j} r =
    let within : i ≤ length t = omega (arith, r.later, r.within) in
    let whole : t ≡ take i t ++ (encode_utf8 c ++ drop j t) =
    sym (take-append-drop j t) ∙ ap (λ w. w ++ drop j t) r.bytes ∙ append_assoc (take i t) (encode_utf8 c) (drop j t) in
    let cut : drop (length (take i t)) (take i t ++ (encode_utf8 c ++ drop j t)) ≡ encode_utf8 c ++ drop j t = drop-append_seam (take i t) (encode_utf8 c ++ drop j t) in
    ap (drop i) whole ∙ ap (λ k. drop k (take i t ++ (encode_utf8 c ++ drop j t))) (sym (length-take-le i t within)) ∙ cut

pub chars_after : {t : List ℕ} {i c j : ℕ} → IsUtf8 t → IsCharBoundary t i → CharAt t i c j → chars (drop i t) ≡ c ∷ chars (drop j t)
chars_after {t} {i} {c} {j} u b r = chars_past_char (drop i t) (drop j t) c (IsUtf8-drop t i u b) (rest_after r)

-- the run so far
pub record RunSoFar (t : List ℕ) (i j : ℕ) : Type 0 where
  pub text : List ℕ
  pub self : flat_map spelled text ≡ text
  pub spelled_out : Spelled t i j text
  pub rest : chars (drop i t) ≡ text ++ chars (drop j t)

pub no_run : (t : List ℕ) (i : ℕ) → RunSoFar t i i
no_run t i = record { text = []; self = refl; spelled_out = spelled_nothing t i; rest = refl }

pub run_more : {t : List ℕ} {i j k : ℕ} → IsUtf8 t → IsCharBoundary t j → RunSoFar t i j → OwnAt t j k → RunSoFar t i k
run_more {t} {i} {j} {k} u b r o =
    let c = code t j in
    record {
      text = r.text ++ c ∷ [];
      self = flat_map-append spelled r.text (c ∷ []) ∙ ap (λ w. w ++ flat_map spelled (c ∷ [])) r.self ∙ ap (λ w. r.text ++ w) (append-nil (spelled c) ∙ o.self);
      spelled_out = spelled_join r.spelled_out (spelled_char o.reads);
      rest = r.rest ∙ ap (λ w. r.text ++ w) (chars_after u b o.reads) ∙ sym (append_assoc r.text (c ∷ []) (chars (drop k t)));
    }

pub run_found : {t : List ℕ} {i j : ℕ} → j ≤ length t → RunSoFar t i j → OwnRun t i j
run_found l r = record { text = r.text; self = r.self; bytes = spelled_slice l r.spelled_out; rest = r.rest }

-- the written bytes and the bytes still to be written are all
pub run_written : (t out : List ℕ) {new slice all : List ℕ} {i j : ℕ} → OwnRun t i j → out ++ encode_utf8_all (flat_map spelled (chars (drop i t))) ≡ all
    → new ≡ out ++ slice → slice ≡ take (j - i) (drop i t) → new ++ encode_utf8_all (flat_map spelled (chars (drop j t))) ≡ all
run_written t out {slice = slice} {i = i} {j} r e n q =
    let after = flat_map spelled (chars (drop j t)) in
    let parts : flat_map spelled (chars (drop i t)) ≡ r.text ++ after =
    ap (flat_map spelled) r.rest ∙ flat_map-append spelled r.text (chars (drop j t)) ∙ ap (λ w. w ++ after) r.self in
    let bytes : encode_utf8_all (flat_map spelled (chars (drop i t))) ≡ slice ++ encode_utf8_all after =
    ap encode_utf8_all parts ∙ encodes-append r.text after ∙ ap (λ w. w ++ encode_utf8_all after) (sym (q ∙ r.bytes)) in
    ap (λ w. w ++ encode_utf8_all after) n ∙ append_assoc out slice (encode_utf8_all after) ∙ ap (λ w. out ++ w) (sym bytes) ∙ e

pub char_written : (t out : List ℕ) {new all : List ℕ} {i c j : ℕ} → IsUtf8 t → IsCharBoundary t i → CharAt t i c j
    → out ++ encode_utf8_all (flat_map spelled (chars (drop i t))) ≡ all → new ≡ out ++ encode_utf8_all (spelled c)
    → new ++ encode_utf8_all (flat_map spelled (chars (drop j t))) ≡ all
char_written t out {c = c} {j} u b r e n =
    let after = flat_map spelled (chars (drop j t)) in
    ap (λ w. w ++ encode_utf8_all after) n ∙ append_assoc out (encode_utf8_all (spelled c)) (encode_utf8_all after)
    ∙ ap (λ w. out ++ w) (sym (ap (λ w. encode_utf8_all (flat_map spelled w)) (chars_after u b r) ∙ encodes-append (spelled c) after)) ∙ e

pub end_written : (t out : List ℕ) {all : List ℕ} {i : ℕ} → i ≡ length t → out ++ encode_utf8_all (flat_map spelled (chars (drop i t))) ≡ all → out ≡ all
end_written t out {i = i} q e =
    let gone : drop i t ≡ [] = ap (λ k. drop k t) q ∙ drop-length t in
    sym (append-nil out) ∙ ap (λ w. out ++ encode_utf8_all (flat_map spelled w)) (sym (ap chars gone ∙ chars-nil)) ∙ e
